-- One part at most is taken out: where it is not consumed, none is under way.
use Rattle.std.proofs.Common.{◌≡◌, ℕ, suc, ◌≤◌, Bool, true, false, cond, not, ◌&&◌, List, [], ◌∷◌, ◌++◌, refl, sym, ap, ap₂, ◌∙◌, subst, arith}
use Rattle.std.specs.Prelude.{Some, None}
use Rattle.silq_tree.specs.declared.node.NameId.{NameId}
use Rattle.silq_types.specs.declared.types.Ty.{Ty}
use Rattle.silq_types.specs.declared.values.Part.{Part}
use Rattle.silq_types.specs.declared.values.Var.{Var}
use Rattle.silq_types.specs.Types.{same_name}
use Rattle.silq_mean.specs.Written.{is_empty}
use Rattle.check_scope.specs.Context.{indices, same_part, find_var}
use Rattle.check_expr.proofs.Alike.{same_part_refl, same_part_same}
use Rattle.flat_form.specs.Names.{AllOf}
use Rattle.flat_typed.specs.Places.{is_part, part_out}
use Rattle.flat_typed.specs.Relation.{HasNone, PartsDiffer}
use Rattle.flat_typed.specs.Done.{kinds, parts_in}
use Rattle.flat_typed.proofs.Ordered.{clash}
use Rattle.flat_typed.proofs.Parts.{some_same}

-- ---- how many there are

-- the same where variables keep their parts
pub parts_kinds : (vs ws : List Var) → kinds vs ≡ kinds ws → parts_in vs ≡ parts_in ws
parts_kinds vs ws e = by_kinds vs ∙ (ap in_kinds e ∙ sym (by_kinds ws))
  where
    in_kinds : List (Part × (Ty × ℕ)) → ℕ
    in_kinds [] = 0
    in_kinds (k ∷ ks) = cond (is_empty (indices k.0)) (in_kinds ks) (suc (in_kinds ks))

    by_kinds : (us : List Var) → parts_in us ≡ in_kinds (kinds us)
    by_kinds [] = refl
    by_kinds (u ∷ us) = go (is_empty (indices u.part)) (by_kinds us)
      where
        go : (t : Bool) → parts_in us ≡ in_kinds (kinds us) → cond (not t) (suc (parts_in us)) (parts_in us) ≡ cond t (in_kinds (kinds us)) (suc (in_kinds (kinds us)))
        go true i = i
        go false i = ap suc i

-- behind an expression there is one at most where there was before
pub lone_stays : (vs ws : List Var) → kinds ws ≡ kinds vs → parts_in vs ≤ 1 → parts_in ws ≤ 1
lone_stays vs ws e h = subst (λ n. n ≤ 1) (sym (parts_kinds ws vs e)) h

-- none among whole variables
pub none_in : (vs : List Var) → AllOf (λ v. is_part v ≡ false) vs → parts_in vs ≡ 0
none_in [] h = refl
none_in (v ∷ vs) h = ap (λ t. cond t (suc (parts_in vs)) (parts_in vs)) h.0 ∙ none_in vs h.1

-- one more at the end
pub one_in : (vs : List Var) (p : Var) → AllOf (λ v. is_part v ≡ false) vs → parts_in (vs ++ p ∷ []) ≤ 1
one_in [] p h = go (is_part p)
  where
    go : (t : Bool) → cond t 1 0 ≤ 1
    go true = omega arith
    go false = omega arith
one_in (v ∷ vs) p h = subst (λ n. n ≤ 1) (sym (ap (λ t. cond t (suc (parts_in (vs ++ p ∷ []))) (parts_in (vs ++ p ∷ []))) h.0)) (one_in vs p h.1)

-- ---- one that is there

-- where there is none, none is under way
none_out : (vs : List Var) (x : NameId) → parts_in vs ≡ 0 → part_out vs x ≡ None
none_out [] x h = refl
none_out (v ∷ vs) x h = go (is_part v) h (none_out vs x)
  where
    go : (t : Bool) → cond t (suc (parts_in vs)) (parts_in vs) ≡ 0 → (parts_in vs ≡ 0 → part_out vs x ≡ None) → cond (t && (v.consumed && same_name v.part.name x)) (Some v) (part_out vs x) ≡ None
    go true e i = absurd (omega (arith, e))
    go false e i = i e

found_counts : (vs : List Var) (q : Part) (p : Var) → find_var vs q ≡ Some p → is_part p ≡ true → 1 ≤ parts_in vs
found_counts [] q p e i = absurd (grind (arith, e))
found_counts (v ∷ vs) q p e i = go (same_part v.part q) e (λ f. found_counts vs q p f i)
  where
    more : (t : Bool) → 1 ≤ parts_in vs → 1 ≤ cond t (suc (parts_in vs)) (parts_in vs)
    more true le = omega arith
    more false le = le

    go : (t : Bool) → cond t (Some v) (find_var vs q) ≡ Some p → (find_var vs q ≡ Some p → 1 ≤ parts_in vs) → 1 ≤ parts_in (v ∷ vs)
    go true e r = let a : parts_in (v ∷ vs) ≡ suc (parts_in vs) = ap (λ t. cond t (suc (parts_in vs)) (parts_in vs)) (ap is_part (some_same v p e) ∙ i) in omega (arith, a)
    go false e r = more (is_part v) (r e)

-- the one part that was taken out is not consumed
pub lone_live : (vs : List Var) (q : Part) (p : Var) → find_var vs q ≡ Some p → is_part p ≡ true → p.consumed ≡ false → parts_in vs ≤ 1 → (x : NameId) → part_out vs x ≡ None
lone_live [] q p e i l h x = refl
lone_live (v ∷ vs) q p e i l h x = go (same_part v.part q) e (λ f le. lone_live vs q p f i l le x)
  where
    skipped : (t c : Bool) → cond t (suc (parts_in vs)) (parts_in vs) ≤ 1 → (find_var vs q ≡ Some p) → (parts_in vs ≤ 1 → part_out vs x ≡ None) → cond (t && (c && same_name v.part.name x)) (Some v) (part_out vs x) ≡ None
    skipped true c le f r = let a = found_counts vs q p f i in absurd (omega (arith, a, le))
    skipped false c le f r = r le

    its : v ≡ p → part_out (v ∷ vs) x ≡ None
    its same =
        let t : is_part v ≡ true = ap is_part same ∙ i in
        let c : v.consumed ≡ false = ap (λ (u : Var). u.consumed) same ∙ l in
        let one : cond (is_part v) (suc (parts_in vs)) (parts_in vs) ≡ suc (parts_in vs) = ap (λ b. cond b (suc (parts_in vs)) (parts_in vs)) t in
        ap₂ (λ a b. cond (a && (b && same_name v.part.name x)) (Some v) (part_out vs x)) t c ∙ none_out vs x (omega (arith, one, h))

    go : (t : Bool) → cond t (Some v) (find_var vs q) ≡ Some p → (find_var vs q ≡ Some p → parts_in vs ≤ 1 → part_out vs x ≡ None) → part_out (v ∷ vs) x ≡ None
    go true f r = its (some_same v p f)
    go false f r = skipped (is_part v) v.consumed h f (r f)

-- ---- each variable is the one that is found by its part

found_more : (vs us : List Var) (u : Var) → HasNone us u.part → AllOf (λ (v : Var). find_var vs v.part ≡ Some v) us → AllOf (λ (v : Var). find_var (u ∷ vs) v.part ≡ Some v) us
found_more vs [] u n h = tt
found_more vs (v ∷ us) u n h = (ap (λ t. cond t (Some u) (find_var vs v.part)) (swap (same_part u.part v.part) refl) ∙ h.0, found_more vs us u n.1 h.1)
  where
    swap : (t : Bool) → same_part u.part v.part ≡ t → t ≡ false
    swap false e = refl
    swap true e = clash (sym (same_part_refl v.part) ∙ (ap (same_part v.part) (sym (same_part_same u.part v.part e)) ∙ n.0))

pub each_found : (vs : List Var) → PartsDiffer vs → AllOf (λ (v : Var). find_var vs v.part ≡ Some v) vs
each_found [] d = tt
each_found (v ∷ vs) d = (ap (λ t. cond t (Some v) (find_var vs v.part)) (same_part_refl v.part), found_more vs vs v d.0 (each_found vs d.1))
