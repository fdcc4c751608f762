-- The order in which bits are shown, and rows whose bits stand in another order.
use Rattle.std.proofs.Common.{◌≡◌, ℕ, zero, suc, ◌+◌, ◌^◌, ◌<◌, ◌==◌, Bool, true, false, not, cond, List, [], ◌∷◌, ◌++◌, map, take, length, get_or, slice_get}
use Rattle.std.proofs.Common.{Some, All, if◌then◌else◌, refl, ap, sym, ◌∙◌, subst, append_assoc, add-one, arith}
use Rattle.std.specs.List.{AllZip, filter, list_any}
use Rattle.std.proofs.Math.Pow.{pow_mono}
use Rattle.std.proofs.lemmas.List.{map-append, take_more, get_or_default}
use Rattle.std.proofs.lemmas.List.Elements.{All-nil, All-cons, All-append, All-filter, All-map, filter-append}
use Rattle.std.proofs.lemmas.Option.{get_or_from_slice_get}
use Rattle.amp_core.specs.declared.Amp.{Amp}
use Rattle.sum_laws.specs.Partial.{PartialSumsSmall}
use Rattle.sum_laws.specs.Terms.{positions, pick}
use Rattle.sum_laws.specs.Units.{IsSumOfUnits, StandsFor}
use Rattle.sum_laws.proofs.StandsFor.{stands_small}
use Rattle.gate_core.specs.Local.{AllBelow, HasWidth}
use Rattle.table_write.specs.Outs.{rest_of}

-- ---- the order

positions-suc : (n : ℕ) → positions (suc n) ≡ positions n ++ n ∷ []
positions-suc zero = refl
positions-suc (suc n) = ap (λ ns. 0 ∷ map suc ns) (positions-suc n) ∙ ap (λ ns. 0 ∷ ns) (map-append suc (positions n) (n ∷ []))

-- the qubit if it is none of the outs
abbrev pub if_other : List ℕ → ℕ → List ℕ
if_other outs q = if list_any (λ out. out == q) outs then [] else q ∷ []

kept_if : (b : Bool) (q : ℕ) → cond (not b) (q ∷ []) [] ≡ (if b then [] else q ∷ [])
kept_if true q = refl
kept_if false q = refl

rest_next : (q : ℕ) (outs : List ℕ) → rest_of (q + 1) outs ≡ rest_of q outs ++ if_other outs q
rest_next q outs =
    ap (λ n. rest_of n outs) (add-one q)
    ∙ ap (filter (λ n. not (list_any (λ out. out == n) outs))) (positions-suc q)
    ∙ filter-append (λ n. not (list_any (λ out. out == n) outs)) (positions q) (q ∷ [])
    ∙ ap (λ ns. rest_of q outs ++ ns) (kept_if (list_any (λ out. out == q) outs) q)

pub order_next : (q : ℕ) (outs order new : List ℕ) → order ≡ outs ++ rest_of q outs → new ≡ order ++ if_other outs q → new ≡ outs ++ rest_of (q + 1) outs
order_next q outs order new e f =
    f ∙ ap (λ ns. ns ++ if_other outs q) e ∙ append_assoc outs (rest_of q outs) (if_other outs q) ∙ ap (λ ns. outs ++ ns) (sym (rest_next q outs))

positions_below : (n : ℕ) → All (λ q. q < n) (positions n)
positions_below zero = All-nil (λ q. q < 0)
positions_below (suc n) =
    All-cons (λ q. q < suc n) 0 (map suc (positions n)) (omega arith)
    (All-map (λ q. q < suc n) suc (positions n) (λ k d l. let h : get_or (positions n) k d < n = positions_below n k d l in omega arith))

below_all : (n : ℕ) (ps : List ℕ) → AllBelow n ps → All (λ q. q < n) ps
below_all n [] h = All-nil (λ q. q < n)
below_all n (p ∷ ps) h = All-cons (λ q. q < n) p ps h.0 (below_all n ps h.1)

order_below : (n : ℕ) (outs : List ℕ) → AllBelow n outs → All (λ q. q < n) (outs ++ rest_of n outs)
order_below n outs h =
    All-append (λ q. q < n) outs (rest_of n outs) (below_all n outs h)
    (All-filter (λ q. not (list_any (λ out. out == q) outs)) (λ q. q < n) (positions n) (positions_below n))

-- ---- picked bits

pick-append : (ps qs : List ℕ) (u : List Bool) → pick (ps ++ qs) u ≡ pick ps u ++ pick qs u
pick-append [] qs u = refl
pick-append (p ∷ ps) qs u = ap (λ w. get_or u p false ∷ w) (pick-append ps qs u)

pick_more : (order : List ℕ) (u : List Bool) (i d : ℕ) → i < length order
    → pick (take (i + 1) order) u ≡ pick (take i order) u ++ get_or u (get_or order i d) false ∷ []
pick_more order u i d l = ap (λ ps. pick ps u) (take_more order i d l) ∙ pick-append (take i order) (get_or order i d ∷ []) u

-- a qubit more; e is what a read out of range would give
pub pick_next : (order : List ℕ) (u list new : List Bool) (i d : ℕ) (e : Bool) → i < length order → All (λ q. q < length u) order
    → list ≡ pick (take i order) u → new ≡ list ++ get_or u (get_or order i d) e ∷ [] → new ≡ pick (take (i + 1) order) u
pick_next order u list new i d e l below so_far added =
    added
    ∙ ap (λ b. list ++ b ∷ []) (get_or_default u (get_or order i d) e false (below i d l))
    ∙ ap (λ bs. bs ++ get_or u (get_or order i d) false ∷ []) so_far
    ∙ sym (pick_more order u i d l)

-- ---- rows

-- the rows with their values changed
abbrev pub turned : (List Bool → List Bool) → List (List Bool × Amp) → List (List Bool × Amp)
turned f rows = map (λ row. (f row.0, row.1)) rows

turned_more : (f : List Bool → List Bool) (rows : List (List Bool × Amp)) (i : ℕ) (row : List Bool × Amp) → i < length rows → slice_get rows i ≡ Some row
    → turned f (take (i + 1) rows) ≡ turned f (take i rows) ++ (f row.0, row.1) ∷ []
turned_more f rows i row l is =
    ap (turned f) (take_more rows i row l)
    ∙ map-append (λ r. (f r.0, r.1)) (take i rows) (get_or rows i row ∷ [])
    ∙ ap (λ (r : List Bool × Amp). turned f (take i rows) ++ (f r.0, r.1) ∷ []) (get_or_from_slice_get rows i row row is)

pub turned_next : (order : List ℕ) (rows : List (List Bool × Amp)) (i : ℕ) (row : List Bool × Amp) (bits : List Bool) (terms new : List (List Bool × Amp))
    → i < length rows → slice_get rows i ≡ Some row → terms ≡ turned (pick order) (take i rows) → bits ≡ pick order row.0 → new ≡ terms ++ (bits, row.1) ∷ []
    → new ≡ turned (pick order) (take (i + 1) rows)
turned_next order rows i row bits terms new l is so_far e added =
    added
    ∙ ap (λ (bs : List Bool). terms ++ (bs, row.1) ∷ []) e
    ∙ ap (λ ts. ts ++ (pick order row.0, row.1) ∷ []) so_far
    ∙ sym (turned_more (pick order) rows i row l is)

-- the qubits are in range in each row
abbrev pub FitRows : List ℕ → List (List Bool × Amp) → Type 0
FitRows order rows = All (λ row. All (λ q. q < length row.0) order) rows

rows_fit : (n : ℕ) (order : List ℕ) (rows : List (List Bool × Amp)) → All (λ q. q < n) order → HasWidth n rows → FitRows order rows
rows_fit n order [] b h = All-nil (λ row. All (λ q. q < length row.0) order)
rows_fit n order (r ∷ rs) b h =
    All-cons (λ row. All (λ q. q < length row.0) order) r rs (subst (λ m. All (λ q. q < m) order) (sym h.0) b) (rows_fit n order rs b h.1)

pub order_fits : (n : ℕ) (outs order : List ℕ) (rows : List (List Bool × Amp))
    → order ≡ outs ++ rest_of n outs → AllBelow n outs → HasWidth n rows → FitRows order rows
order_fits n outs order rows e b h = rows_fit n order rows (subst (All (λ q. q < n)) (sym e) (order_below n outs b)) h

pub row_fits : (order : List ℕ) (rows : List (List Bool × Amp)) (i : ℕ) (row : List Bool × Amp)
    → i < length rows → slice_get rows i ≡ Some row → FitRows order rows → All (λ q. q < length row.0) order
row_fits order rows i row l is h =
    subst (λ (r : List Bool × Amp). All (λ q. q < length r.0) order) (get_or_from_slice_get rows i row row is) (h i row l)

-- ---- what the turned rows stand for

turned_counts : (h : ℕ) (f : List Bool → List Bool) (ns : List ℕ) (ts : List (List Bool × Amp))
    → AllZip (λ m (t : List Bool × Amp). IsSumOfUnits m h t.1) ns ts → AllZip (λ m (t : List Bool × Amp). IsSumOfUnits m h t.1) ns (turned f ts)
turned_counts h f [] [] c = tt
turned_counts h f [] (t ∷ ts) c = absurd c
turned_counts h f (n ∷ ns) [] c = absurd c
turned_counts h f (n ∷ ns) (t ∷ ts) c = (c.0, turned_counts h f ns ts c.1)

stands_turned : (n h : ℕ) (f : List Bool → List Bool) (ts : List (List Bool × Amp)) → StandsFor n h ts → StandsFor n h (turned f ts)
stands_turned n h f ts s = record { counts = s.counts; counted = turned_counts h f s.counts ts s.counted; few = s.few }

pub turned_small : (f : List Bool → List Bool) (ts us : List (List Bool × Amp))
    → us ≡ turned f ts → StandsFor (2 ^ 50) 50 ts → (v : List Bool) → PartialSumsSmall v us
turned_small f ts us e s v =
    subst (PartialSumsSmall v) (sym e)
    (stands_small (2 ^ 50) 50 v (turned f ts) (pow_mono {i = 50} {j = 50} (omega arith)) (omega arith) (stands_turned (2 ^ 50) 50 f ts s))
