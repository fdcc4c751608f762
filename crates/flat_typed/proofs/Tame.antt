-- What an expression may do to variables: it consumes some of them, and leaves all else.
use Rattle.std.proofs.Common.{◌≡◌, ℕ, Bool, true, false, cond, not, ◌&&◌, ◌||◌, List, [], ◌∷◌, refl, sym, ap, ap₂, ◌∙◌, subst}
use Rattle.std.specs.Prelude.{Option, Some, None}
use Rattle.silq_tree.specs.declared.node.NameId.{NameId}
use Rattle.silq_types.specs.declared.types.Ty.{Ty}
use Rattle.silq_types.specs.declared.values.Origin.{Origin}
use Rattle.silq_types.specs.declared.values.Part.{Part}
use Rattle.silq_types.specs.declared.values.Var.{Var}
use Rattle.silq_types.specs.Types.{is_held}
use Rattle.silq_mean.specs.Written.{is_empty}
use Rattle.check_scope.specs.declared.uses.Use.{Use}
use Rattle.check_scope.specs.Context.{indices, variable, same_part, overlaps, is_prefix, find_var, replace, part_type}
use Rattle.check_scope.specs.Places.{disturbs}
use Rattle.check_expr.proofs.Alike.{same_part_same}
use Rattle.flat_form.specs.Names.{AllOf}
use Rattle.flat_typed.specs.Places.{Places, is_part}
use Rattle.flat_typed.specs.Relation.{FitsPart}
use Rattle.flat_typed.specs.Done.{kinds}
use Rattle.flat_typed.specs.Uses.{IsThere}
use Rattle.flat_typed.proofs.Ordered.{clash}
use Rattle.flat_typed.proofs.Parts.{some_same, name_refl, part_other}
use Rattle.flat_typed.proofs.Moving.{spent, found_all, all_replaced}
use Rattle.flat_typed.proofs.Apart.{Beside, beside}

-- the second variable is the first, consumed or not
pub record Left (v w : Var) : Type 0 where
  pub part : w.part ≡ v.part
  pub ty : w.ty ≡ v.ty
  pub place : w.place ≡ v.place
  pub origin : w.origin ≡ v.origin
  pub live : w.consumed ≡ false → v.consumed ≡ false

abbrev pub AllLeft : List Var → List Var → Type 0
AllLeft [] [] = Unit {0}
AllLeft (v ∷ vs) (w ∷ ws) = Left v w × AllLeft vs ws
AllLeft vs ws = ⊥

pub left_same : (vs : List Var) → AllLeft vs vs
left_same [] = tt
left_same (v ∷ vs) = (record { part = refl; ty = refl; place = refl; origin = refl; live = λ e. e }, left_same vs)

pub left_then : (us vs ws : List Var) → AllLeft us vs → AllLeft vs ws → AllLeft us ws
left_then [] [] [] h k = tt
left_then [] [] (w ∷ ws) h k = absurd k
left_then [] (v ∷ vs) ws h k = absurd h
left_then (u ∷ us) [] ws h k = absurd h
left_then (u ∷ us) (v ∷ vs) [] h k = absurd k
left_then (u ∷ us) (v ∷ vs) (w ∷ ws) h k =
    (record { part = k.0.part ∙ h.0.part; ty = k.0.ty ∙ h.0.ty; place = k.0.place ∙ h.0.place; origin = k.0.origin ∙ h.0.origin; live = λ e. h.0.live (k.0.live e) }, left_then us vs ws h.1 k.1)

pub left_spent : (vs : List Var) (p : Part) (v : Var) → find_var vs p ≡ Some v → v.part ≡ p → AllLeft vs (replace vs (spent v))
left_spent [] p v e q = tt
left_spent (w ∷ ws) p v e q = go (same_part w.part p) refl e (λ d. left_spent ws p v d q)
  where
    goal : Bool → Type 0
    goal t = AllLeft (w ∷ ws) (cond t (spent v ∷ ws) (w ∷ replace ws (spent v)))

    go : (t : Bool) → same_part w.part p ≡ t → cond t (Some w) (find_var ws p) ≡ Some v → (find_var ws p ≡ Some v → AllLeft ws (replace ws (spent v))) → goal (same_part w.part v.part)
    go true s e i =
        let same : w ≡ v = some_same w v e in
        subst goal (sym (ap (same_part w.part) q ∙ s))
        (record { part = ap (λ (u : Var). u.part) (sym same); ty = ap (λ (u : Var). u.ty) (sym same); place = ap (λ (u : Var). u.place) (sym same); origin = ap (λ (u : Var). u.origin) (sym same); live = λ d. clash d }, left_same ws)
    go false s e i = subst goal (sym (ap (same_part w.part) q ∙ s)) (record { part = refl; ty = refl; place = refl; origin = refl; live = λ e. e }, i e)

abbrev pub FindLeft : Option Var → Option Var → Type 0
FindLeft None None = Unit {0}
FindLeft (Some v) (Some w) = Left v w
FindLeft a b = ⊥

pub find_left : (vs ws : List Var) (p : Part) → AllLeft vs ws → FindLeft (find_var vs p) (find_var ws p)
find_left [] [] p h = tt
find_left [] (w ∷ ws) p h = absurd h
find_left (v ∷ vs) [] p h = absurd h
find_left (v ∷ vs) (w ∷ ws) p h = subst (λ (q : Part). FindLeft (cond (same_part v.part p) (Some v) (find_var vs p)) (cond (same_part q p) (Some w) (find_var ws p))) (sym h.0.part) (go (same_part v.part p) (find_left vs ws p h.1))
  where
    go : (t : Bool) → FindLeft (find_var vs p) (find_var ws p) → FindLeft (cond t (Some v) (find_var vs p)) (cond t (Some w) (find_var ws p))
    go true i = h.0
    go false i = i

pub disturbs_left : (vs ws : List Var) (p : Part) → AllLeft vs ws → disturbs vs p ≡ disturbs ws p
disturbs_left [] [] p h = refl
disturbs_left [] (w ∷ ws) p h = absurd h
disturbs_left (v ∷ vs) [] p h = absurd h
disturbs_left (v ∷ vs) (w ∷ ws) p h = ap₂ (λ (q : Part) b. not (is_empty (indices q)) && not (same_part q p) && overlaps q p || b) (sym h.0.part) (disturbs_left vs ws p h.1)

pub kinds_left : (vs ws : List Var) → AllLeft vs ws → kinds vs ≡ kinds ws
kinds_left [] [] h = refl
kinds_left [] (w ∷ ws) h = absurd h
kinds_left (v ∷ vs) [] h = absurd h
kinds_left (v ∷ vs) (w ∷ ws) h =
    ap₂ (λ k l. k ∷ l) (ap₂ (λ (p : Part) k. (p, k)) (sym h.0.part) (ap₂ (λ (t : Ty) (n : ℕ). (t, n)) (sym h.0.ty) (sym h.0.place))) (kinds_left vs ws h.1)

-- a part that is there behind an expression was there before it
pub there_left : (held : List (List Part)) (vs ws : List Var) (u : Use) → AllLeft vs ws → IsThere held ws u → IsThere held vs u
there_left held vs ws u l h = go (find_var vs (variable u.part.name)) refl (subst (FindLeft (find_var vs (variable u.part.name))) h.found (find_left vs ws (variable u.part.name) l))
  where
    here : (v : Var) → find_var vs u.part ≡ Some v → (o : Option Var) → find_var ws u.part ≡ o → FindLeft (Some v) o → v.consumed ≡ false
    here v e (Some w) f g = g.live (h.here w f)
    here v e None f g = absurd g

    go : (o : Option Var) → find_var vs (variable u.part.name) ≡ o → FindLeft o (Some h.owner) → IsThere held vs u
    go None e g = absurd g
    go (Some v) e g = record {
      owner = v;
      found = e;
      live = g.live h.live;
      kind = (h.kind.0, ap (λ (t : Ty). part_type t.classical t.shape (indices u.part)) (sym g.ty) ∙ h.kind.1);
      clear = disturbs_left vs ws u.part l ∙ h.clear;
      here = λ x f. here x f (find_var ws u.part) refl (subst (λ a. FindLeft a (find_var ws u.part)) f (find_left vs ws u.part l));
      own = λ k. ap₂ (λ (t : Ty) (o : Origin). t.classical || is_held o) (sym g.ty) (sym g.origin) ∙ h.own k;
      loose = h.loose;
    }

pub all_there_left : (held : List (List Part)) (vs ws : List Var) (us : List Use) → AllLeft vs ws → AllOf (IsThere held ws) us → AllOf (IsThere held vs) us
all_there_left held vs ws [] l h = tt
all_there_left held vs ws (u ∷ us) l h = (there_left held vs ws u l h.0, all_there_left held vs ws us l h.1)

-- ---- the parts that were taken out

pub find_other : (vs : List Var) (u : Var) (p : Part) → same_part u.part p ≡ false → find_var (replace vs u) p ≡ find_var vs p
find_other [] u p e = refl
find_other (w ∷ ws) u p e = go (same_part w.part u.part) refl (find_other ws u p e)
  where
    go : (t : Bool) → same_part w.part u.part ≡ t → find_var (replace ws u) p ≡ find_var ws p → find_var (cond t (u ∷ ws) (w ∷ replace ws u)) p ≡ find_var (w ∷ ws) p
    go true s i =
        ap (λ b. cond b (Some u) (find_var ws p)) e
        ∙ sym (ap (λ b. cond b (Some w) (find_var ws p)) (ap (λ (q : Part). same_part q p) (same_part_same w.part u.part s) ∙ e))
    go false s i = ap (λ o. cond (same_part w.part p) (Some w) o) i

all_both : {A : Type 0} (P Q R : A → Type 0) (xs : List A) → ((x : A) → P x → Q x → R x) → AllOf P xs → AllOf Q xs → AllOf R xs
all_both P Q R [] f h k = tt
all_both P Q R (x ∷ xs) f h k = (f x h.0 k.0, all_both P Q R xs f h.1 k.1)

or_true : (a : Bool) → (a || true) ≡ true
or_true true = refl
or_true false = refl

-- a part overlaps its variable
part_overlaps : (p : Part) → overlaps p (variable p.name) ≡ true
part_overlaps p = ap (λ b. b && (is_prefix (indices p) [] || true)) (name_refl p.name) ∙ or_true (is_prefix (indices p) [])

-- each is still a part of its variable where another variable is consumed that nothing disturbs
pub fits_spent : (W : Places) (vs : List Var) (p : Part) (v : Var) → find_var vs p ≡ Some v → v.part ≡ p → disturbs vs p ≡ false → AllOf (FitsPart W vs) vs → AllOf (FitsPart W (replace vs (spent v))) (replace vs (spent v))
fits_spent W vs p v e q d fits = all_replaced (FitsPart W (replace vs (spent v))) vs (spent v) (all_both (FitsPart W vs) (Beside p) (FitsPart W (replace vs (spent v))) vs each fits (beside vs p d)) mine
  where
    other : (u : Var) → is_part u ≡ true → Beside p u → (t : Bool) → same_part p (variable u.part.name) ≡ t → t ≡ false
    other u i b false s = refl
    other u i b true s =
        let same : p ≡ variable u.part.name = same_part_same p (variable u.part.name) s in
        clash (sym (part_overlaps u.part) ∙ (ap (overlaps u.part) (sym same) ∙ b i (ap (same_part u.part) same ∙ part_other u u.part.name i)))

    stays : (x : NameId) → same_part p (variable x) ≡ false → find_var (replace vs (spent v)) (variable x) ≡ find_var vs (variable x)
    stays x s = find_other vs (spent v) (variable x) (ap (λ (r : Part). same_part r (variable x)) q ∙ s)

    each : (u : Var) → FitsPart W vs u → Beside p u → FitsPart W (replace vs (spent v)) u
    each u f b i = let a = f i in (a.0, stays u.part.name (other u i b (same_part p (variable u.part.name)) refl) ∙ a.1, a.2)

    mine : FitsPart W (replace vs (spent v)) (spent v)
    mine i =
        let a = found_all (FitsPart W vs) vs p v e fits i in
        (a.0, stays v.part.name (ap (λ (r : Part). same_part r (variable v.part.name)) (sym q) ∙ part_other v v.part.name i) ∙ a.1, record { live = a.2.live; kind = a.2.kind; same = a.2.same; wires = a.2.wires })
