-- Several flips of one wire, and flips of lists of wires.
use Rattle.std.proofs.Common.{◌≡◌, ℕ, ◌≤◌, ◌<◌, Bool, true, false, List, [], ◌∷◌, map, length, Option, Some, None, refl, sym, ap, ap₂, ◌∙◌, arith}
use Rattle.std.proofs.lemmas.Bool.{eqb-true, eq-eqb, cases_Bool}
use Rattle.std.proofs.Common.{inl, inr}
use Rattle.flat_core.specs.declared.step.WireId.{WireId}
use Rattle.flat_core.specs.Label.{same_wire}
use Rattle.flat_mean.specs.Row.{Row, flipped}
use Rattle.bit_arith.specs.declared.operand.Operand.{Operand}
use Rattle.bit_arith.specs.declared.operand.Operand.TheVariants.{Const, Literal}
use Rattle.bit_arith.specs.Built.{Built, Setting, under, under_condition}
use Rattle.bit_arith.specs.Rows.{flip, flip_by, flip_up, flip_down}
use Rattle.bit_arith.specs.Calls.{Targets, Safe, AllSafe, among}
use Rattle.bit_arith.specs.Values.{all_hold, values_at}
use Rattle.bit_arith.specs.Does.{Fresh, Does, Below, Different}
use Rattle.bit_arith.proofs.Steps.{or_false, Agree, all_same}
use Rattle.bit_arith.proofs.Doing.{Guards, does_fresh, does_grown, does_none, does_weak, does_then}
use Rattle.bit_arith.proofs.Tidying.{flip_does, FlipIf}

-- ---- safe operands stay safe

pub safe_one : (n m : ℕ) (T U : Targets) (p : Operand) → n ≤ m → ((w : WireId) → w.number < n → T w ≡ false → U w ≡ false) → Safe n T p → Safe m U p
safe_one n m T U (Const b) le o s = tt
safe_one n m T U (Literal l) le o s = (let lt = s.0 in omega (arith, lt, le), o l.wire s.0 s.1)

pub safe_more : (n m : ℕ) (T U : Targets) (ps : List Operand) → n ≤ m → ((w : WireId) → w.number < n → T w ≡ false → U w ≡ false) → AllSafe n T ps → AllSafe m U ps
safe_more n m T U [] le o s = tt
safe_more n m T U (p ∷ ps) le o s = (safe_one n m T U p le o s.0, safe_more n m T U ps le o s.1)

pub safe_under : (n : ℕ) (T : Targets) (at : Setting) (ps : List Operand) → Guards at n T → AllSafe n T ps → AllSafe n T (under at ps)
safe_under n T at ps g s = go at.condition g
  where
    go : (c : Option Operand) → AllSafe n T (under_condition c []) → AllSafe n T (under_condition c ps)
    go None h = s
    go (Some p) h = (h.0, s)

pub guards_under : (n : ℕ) (T : Targets) (at : Setting) (ps : List Operand) → AllSafe n T (under at ps) → Guards at n T
guards_under n T at ps s = go at.condition s
  where
    go : (c : Option Operand) → AllSafe n T (under_condition c ps) → AllSafe n T (under_condition c [])
    go None h = tt
    go (Some p) h = (h.0, tt)

pub rest_under : (n : ℕ) (T : Targets) (at : Setting) (ps : List Operand) → AllSafe n T (under at ps) → AllSafe n T ps
rest_under n T at ps s = go at.condition s
  where
    go : (c : Option Operand) → AllSafe n T (under_condition c ps) → AllSafe n T ps
    go None h = h
    go (Some p) h = h.1

-- ---- lists of wires

pub same_wire_swap : (a b : WireId) → same_wire a b ≡ false → same_wire b a ≡ false
same_wire_swap a b h = elim (cases_Bool (same_wire b a)) [
  | inl e ↦ cc_no (sym h ∙ eq-eqb a.number b.number (sym (eqb-true b.number a.number e)))
  | inr e ↦ e
]
  where
    cc_no : false ≡ true → same_wire b a ≡ false
    cc_no z = cc

pub below_more : (n m : ℕ) (ws : List WireId) → n ≤ m → Below n ws → Below m ws
below_more n m [] le b = tt
below_more n m (w ∷ ws) le b = (let lt = b.0 in omega (arith, lt, le), below_more n m ws le b.1)

abbrev pub AllOff : Targets → List WireId → Type 0
AllOff T [] = Unit {0}
AllOff T (w ∷ ws) = (T w ≡ false) × AllOff T ws

pub values_same : (n : ℕ) (T : Targets) (v u : Row) (ws : List WireId) → Below n ws → AllOff T ws → Agree n T v u → values_at v ws ≡ values_at u ws
values_same n T v u [] b o e = refl
values_same n T v u (w ∷ ws) b o e = ap₂ ◌∷◌ (e w b.0 o.0) (values_same n T v u ws b.1 o.1 e)

-- a list without w
pub without : (w : WireId) (ws : List WireId) → among ws w ≡ false → AllOff (same_wire w) ws
without w [] h = tt
without w (x ∷ ws) h = let (a, b) = or_false (same_wire w x) (among ws w) h in (a, without w ws b)

pub all_off_none : (ws : List WireId) → AllOff (λ w. false) ws
all_off_none [] = tt
all_off_none (w ∷ ws) = (refl, all_off_none ws)

-- what is no target of a list is none of its first wire, and none of the rest
pub off_first : (w k : WireId) (ws : List WireId) → among (w ∷ ws) k ≡ false → same_wire w k ≡ false
off_first w k ws h = same_wire_swap k w (or_false (same_wire k w) (among ws k) h).0

pub off_rest : (w k : WireId) (ws : List WireId) → among (w ∷ ws) k ≡ false → among ws k ≡ false
off_rest w k ws h = (or_false (same_wire k w) (among ws k) h).1

-- ---- flips as bits

-- a bit flipped by each of a list
abbrev pub toggles : List Bool → Bool → Bool
toggles [] b = b
toggles (x ∷ xs) b = toggles xs (flipped b x)

abbrev pub toggle_all : List (List Bool) → List Bool → List Bool
toggle_all (xs ∷ xss) (b ∷ bs) = toggles xs b ∷ toggle_all xss bs
toggle_all [] bs = bs
toggle_all (xs ∷ xss) [] = []

-- whether each conjunction holds, and those of each place
abbrev pub each_holds : Row → List (List Operand) → List Bool
each_holds v pss = map (all_hold v) pss

abbrev pub places_hold : Row → List (List (List Operand)) → List (List Bool)
places_hold v cs = map (each_holds v) cs

abbrev pub ConjunctionsSafe : ℕ → Targets → List (List Operand) → Type 0
ConjunctionsSafe n T [] = Unit {0}
ConjunctionsSafe n T (ps ∷ pss) = AllSafe n T ps × ConjunctionsSafe n T pss

abbrev pub PlacesSafe : ℕ → Targets → List (List (List Operand)) → Type 0
PlacesSafe n T [] = Unit {0}
PlacesSafe n T (c ∷ cs) = ConjunctionsSafe n T c × PlacesSafe n T cs

pub conjunctions_more : (n m : ℕ) (T U : Targets) (pss : List (List Operand)) → n ≤ m → ((w : WireId) → w.number < n → T w ≡ false → U w ≡ false) → ConjunctionsSafe n T pss → ConjunctionsSafe m U pss
conjunctions_more n m T U [] le o s = tt
conjunctions_more n m T U (ps ∷ pss) le o s = (safe_more n m T U ps le o s.0, conjunctions_more n m T U pss le o s.1)

pub places_more : (n m : ℕ) (T U : Targets) (cs : List (List (List Operand))) → n ≤ m → ((w : WireId) → w.number < n → T w ≡ false → U w ≡ false) → PlacesSafe n T cs → PlacesSafe m U cs
places_more n m T U [] le o s = tt
places_more n m T U (c ∷ cs) le o s = (conjunctions_more n m T U c le o s.0, places_more n m T U cs le o s.1)

each_same : (n : ℕ) (T : Targets) (v u : Row) (pss : List (List Operand)) → ConjunctionsSafe n T pss → Agree n T v u → each_holds v pss ≡ each_holds u pss
each_same n T v u [] s e = refl
each_same n T v u (ps ∷ pss) s e = ap₂ ◌∷◌ (all_same n T v u ps s.0 e) (each_same n T v u pss s.1 e)

places_same : (n : ℕ) (T : Targets) (v u : Row) (cs : List (List (List Operand))) → PlacesSafe n T cs → Agree n T v u → places_hold v cs ≡ places_hold u cs
places_same n T v u [] s e = refl
places_same n T v u (c ∷ cs) s e = ap₂ ◌∷◌ (each_same n T v u c s.0 e) (places_same n T v u cs s.1 e)

-- ---- the rows

pub by_does : (at : Setting) (w : WireId) (pss : List (List Operand)) (b : Built) → Fresh b.draft → w.number < length b.draft.wires → Guards at (length b.draft.wires) (same_wire w) → ConjunctionsSafe (length b.draft.wires) (same_wire w) pss → Does at b.draft (flip_by at w pss b).draft (same_wire w) (λ v u. u w.number ≡ toggles (each_holds v pss) (v w.number))
by_does at w [] b f h g s = does_weak (does_none at b.draft (same_wire w)) (λ v u c on ag cl t. ap (λ (u : Row). u w.number) t)
by_does at w (ps ∷ pss) b f h g s =
    let n : ℕ = length b.draft.wires in
    let b1 : Built = flip at w ps b in
    let q : Does at b.draft b1.draft (same_wire w) (FlipIf w ps) = flip_does at w ps b f h (safe_under n (same_wire w) at ps g s.0) in
    let up : n ≤ length b1.draft.wires = does_grown q in
    let keep : (k : WireId) → k.number < n → same_wire w k ≡ false → same_wire w k ≡ false = λ k lt t. t in
    let r : Does at b1.draft (flip_by at w pss b1).draft (same_wire w) (λ v u. u w.number ≡ toggles (each_holds v pss) (v w.number)) =
    by_does at w pss b1 (does_fresh q f) (omega (arith, h, up)) (safe_more n (length b1.draft.wires) (same_wire w) (same_wire w) (under at []) up keep g) (conjunctions_more n (length b1.draft.wires) (same_wire w) (same_wire w) pss up keep s.1) in
    does_weak (does_then (same_wire w) q r g (λ k lt t. (t, t)))
    (λ v u c on ag cl t. t.second ∙ ap₂ toggles (each_same n (same_wire w) t.mid v pss s.1 t.kept) t.first)

pub up_does : (at : Setting) (ws : List WireId) (cs : List (List (List Operand))) (b : Built) → Fresh b.draft → length ws ≡ length cs → Below (length b.draft.wires) ws → Different ws → Guards at (length b.draft.wires) (among ws) → PlacesSafe (length b.draft.wires) (among ws) cs → Does at b.draft (flip_up at ws cs b).draft (among ws) (λ v u. values_at u ws ≡ toggle_all (places_hold v cs) (values_at v ws))
up_does at [] [] b f e be di g s = does_weak (does_none at b.draft (among [])) (λ v u c on ag cl same. refl)
up_does at [] (c ∷ cs) b f e be di g s = cc
up_does at (w ∷ ws) [] b f e be di g s = cc
up_does at (w ∷ ws) (pss ∷ cs) b f e be di g s =
    let n : ℕ = length b.draft.wires in
    let narrow : (k : WireId) → k.number < n → among (w ∷ ws) k ≡ false → same_wire w k ≡ false = λ k lt t. off_first w k ws t in
    let narrow' : (k : WireId) → k.number < n → among (w ∷ ws) k ≡ false → among ws k ≡ false = λ k lt t. off_rest w k ws t in
    let g1 : Guards at n (same_wire w) = safe_more n n (among (w ∷ ws)) (same_wire w) (under at []) (omega arith) narrow g in
    let s1 : ConjunctionsSafe n (same_wire w) pss = conjunctions_more n n (among (w ∷ ws)) (same_wire w) pss (omega arith) narrow s.0 in
    let b1 : Built = flip_by at w pss b in
    let q : Does at b.draft b1.draft (same_wire w) (λ v u. u w.number ≡ toggles (each_holds v pss) (v w.number)) = by_does at w pss b f be.0 g1 s1 in
    let m : ℕ = length b1.draft.wires in
    let up : n ≤ m = does_grown q in
    let r : Does at b1.draft (flip_up at ws cs b1).draft (among ws) (λ v u. values_at u ws ≡ toggle_all (places_hold v cs) (values_at v ws)) =
    up_does at ws cs b1 (does_fresh q f) (omega (arith, e)) (below_more n m ws up be.1) di.1
    (safe_more n m (among (w ∷ ws)) (among ws) (under at []) up narrow' g)
    (places_more n m (among (w ∷ ws)) (among ws) cs up narrow' s.1) in
    let sw : PlacesSafe n (same_wire w) cs = places_more n n (among (w ∷ ws)) (same_wire w) cs (omega arith) narrow s.1 in
    does_weak (does_then (among (w ∷ ws)) q r g1 (λ k lt t. (off_first w k ws t, off_rest w k ws t)))
    (λ v u c on ag cl t.
    let lt = be.0 in
    let ops : places_hold t.mid cs ≡ places_hold v cs = places_same n (same_wire w) t.mid v cs sw t.kept in
    let old : values_at t.mid ws ≡ values_at v ws = values_same n (same_wire w) t.mid v ws be.1 (without w ws di.0) t.kept in
    ap₂ ◌∷◌ (t.stays w (omega (arith, lt, up)) di.0 ∙ t.first) (t.second ∙ ap₂ toggle_all ops old))

pub down_does : (at : Setting) (ws : List WireId) (cs : List (List (List Operand))) (b : Built) → Fresh b.draft → length ws ≡ length cs → Below (length b.draft.wires) ws → Different ws → Guards at (length b.draft.wires) (among ws) → PlacesSafe (length b.draft.wires) (among ws) cs → Does at b.draft (flip_down at ws cs b).draft (among ws) (λ v u. values_at u ws ≡ toggle_all (places_hold v cs) (values_at v ws))
down_does at [] [] b f e be di g s = does_weak (does_none at b.draft (among [])) (λ v u c on ag cl same. refl)
down_does at [] (c ∷ cs) b f e be di g s = cc
down_does at (w ∷ ws) [] b f e be di g s = cc
down_does at (w ∷ ws) (pss ∷ cs) b f e be di g s =
    let n : ℕ = length b.draft.wires in
    let narrow : (k : WireId) → k.number < n → among (w ∷ ws) k ≡ false → same_wire w k ≡ false = λ k lt t. off_first w k ws t in
    let narrow' : (k : WireId) → k.number < n → among (w ∷ ws) k ≡ false → among ws k ≡ false = λ k lt t. off_rest w k ws t in
    let b1 : Built = flip_down at ws cs b in
    let g' : Guards at n (among ws) = safe_more n n (among (w ∷ ws)) (among ws) (under at []) (omega arith) narrow' g in
    let r : Does at b.draft b1.draft (among ws) (λ v u. values_at u ws ≡ toggle_all (places_hold v cs) (values_at v ws)) =
    down_does at ws cs b f (omega (arith, e)) be.1 di.1 g' (places_more n n (among (w ∷ ws)) (among ws) cs (omega arith) narrow' s.1) in
    let m : ℕ = length b1.draft.wires in
    let up : n ≤ m = does_grown r in
    let g1 : Guards at m (same_wire w) = safe_more n m (among (w ∷ ws)) (same_wire w) (under at []) up narrow g in
    let s1 : ConjunctionsSafe m (same_wire w) pss = conjunctions_more n m (among (w ∷ ws)) (same_wire w) pss up narrow s.0 in
    let lt = be.0 in
    let q : Does at b1.draft (flip_by at w pss b1).draft (same_wire w) (λ v u. u w.number ≡ toggles (each_holds v pss) (v w.number)) = by_does at w pss b1 (does_fresh r f) (omega (arith, lt, up)) g1 s1 in
    let sw : ConjunctionsSafe n (among ws) pss = conjunctions_more n n (among (w ∷ ws)) (among ws) pss (omega arith) narrow' s.0 in
    does_weak (does_then (among (w ∷ ws)) r q g' (λ k lt t. (off_rest w k ws t, off_first w k ws t)))
    (λ v u c on ag cl t.
    let ops : each_holds t.mid pss ≡ each_holds v pss = each_same n (among ws) t.mid v pss sw t.kept in
    let mine : t.mid w.number ≡ v w.number = t.kept w be.0 di.0 in
    let rest : values_at u ws ≡ values_at t.mid ws = values_same m (same_wire w) u t.mid ws (below_more n m ws up be.1) (without w ws di.0) t.stays in
    ap₂ ◌∷◌ (t.second ∙ ap₂ toggles ops mine) (rest ∙ t.first))
