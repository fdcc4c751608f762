-- What the walk of values that are taken over in turn asks: their types, their places, and uses that do not clash.
use Rattle.std.proofs.Common.{◌≡◌, ◌⊎◌, inl, inr, ℕ, ◌+◌, ◌≤◌, ◌<◌, Bool, true, false, cond, not, ◌&&◌, ◌||◌, List, [], ◌∷◌, ◌++◌, map, drop, refl, sym, ap, ap₂, ◌∙◌, subst, arith}
use Rattle.std.proofs.lemmas.Bool.{cases_lt, eq-eqb, lt-ltb}
use Rattle.std.specs.Prelude.{◌==◌, ⊤, nat_lt}
use Rattle.silq_tree.specs.Syntax.{Expression, Expressions, none, more}
use Rattle.silq_types.specs.declared.types.Ty.{Ty}
use Rattle.silq_types.specs.declared.need.Need.{Need}
use Rattle.silq_types.specs.declared.values.Value.{Value}
use Rattle.silq_types.specs.declared.values.Var.{Var}
use Rattle.silq_types.specs.Types.{shape_eq, at}
use Rattle.silq_types.specs.Calls.{is_consumed, first_need, later_needs}
use Rattle.silq_mean.specs.declared.receiver.Receiver.{Receiver}
use Rattle.silq_mean.specs.declared.receiver.Receiver.TheVariants.{Variable, Argument, CallResult, EntryOutput}
use Rattle.check_scope.specs.declared.uses.Use.{Use}
use Rattle.check_scope.specs.Context.{Scope, Context, overlaps}
use Rattle.silq_types.specs.declared.values.Part.{Part}
use Rattle.silq_types.specs.declared.signature.InstanceKey.{InstanceKey}
use Rattle.silq_types.specs.declared.signature.Signature.{Signature}
use Rattle.flat_typed.proofs.Changing.{same_shape}
use Rattle.flat_typed.specs.Done.{kinds}
use Rattle.flat_typed.proofs.ArgumentNext.{handed_all}
use Rattle.check_scope.specs.Uses.{uses, all_uses, argument_uses, meets, is_only_held, some_pair, some_with, both_consume, consume_and_hold, clash as uses_clash}
use Rattle.check_expr.specs.Expression.{Asked, first_asked, later_asked, suits}
use Rattle.check_expr.specs.Owners.{owners, handed, handed_arguments, Ensures}
use Rattle.check_expr.proofs.Owners.{o_more, o_rules, o_suits}
use Rattle.flat_form.specs.Shows.{ListBoth}
use Rattle.flat_typed.specs.Relation.{is_argument, need_of}
use Rattle.flat_typed.specs.Lemmas.{Agrees, Asking, Untangled}
use Rattle.flat_typed.proofs.Ordered.{clash, or_left, or_right}
use Rattle.flat_typed.proofs.Uses.{uses_kinds}
use Rattle.flat_typed.proofs.LastTold.{dead}
use Rattle.flat_typed.proofs.TakenOver.{Suited}
use Rattle.flat_typed.proofs.ArgumentList.{HadOwner}

-- ---- what is asked

pub need_agrees : (a : Asked) (r : Receiver) → Agrees a r → a.need ≡ need_of r
need_agrees a Variable h = h.0
need_agrees a (Argument need t) h = h.0
need_agrees a (CallResult t) h = h.0
need_agrees a (EntryOutput t) h = h.0

pub variable_wants : (a : Asked) (r : Receiver) → Agrees a r → r ≡ Variable → a.wants ≡ []
variable_wants a r h e = go (subst (Agrees a) e h)
  where
    go : Agrees a Variable → a.wants ≡ []
    go h = h.1

not_both : (a b : Bool) → (a && not b) ≡ false → a ≡ true → b ≡ true
not_both true true e h = refl
not_both true false e h = clash e
not_both false b e h = clash (sym h)

not_false : (a : Bool) → not a ≡ false → a ≡ true
not_false true e = refl
not_false false e = clash e

module _ (S : InstanceKey → Signature → Type 0) where
  -- the type that is asked suits
  typed_suits : (e : Expression) (t : Ty) (wants : List Ty) (v : Value) {P : Context → Type 0} → wants ≡ t ∷ [] → Ensures S P (suits e wants v) (λ u d. ((t.shape ≡ v.ty.shape) × (t.classical ≡ true → v.ty.classical ≡ true)) × P d)
  typed_suits e t wants v {P = P} q =
      subst (λ l. Ensures S P (suits e l v) (λ u d. ((t.shape ≡ v.ty.shape) × (t.classical ≡ true → v.ty.classical ≡ true)) × P d)) (sym q)
      (o_more S 0 (o_rules S 0 {P = P} (at e) _) (λ u d h. ((same_shape t.shape v.ty.shape (not_false (shape_eq t.shape v.ty.shape) h.0.0), not_both t.classical v.ty.classical h.0.1.0), h.1)))

  pub asked_suits : (e : Expression) (a : Asked) (r : Receiver) (v : Value) {P : Context → Type 0} → Agrees a r → Ensures S P (suits e a.wants v) (λ u d. Suited r v × P d)
  asked_suits e a Variable v {P = P} h = o_more S 0 (o_suits S 0 {P = P} e a.wants v) (λ u d k. (record { shape = refl; class = λ z. z }, k))
  asked_suits e a (Argument need t) v {P = P} h = o_more S 0 (typed_suits e t a.wants v {P = P} h.1) (λ u d k. (record { shape = k.0.0; class = k.0.1 }, k.1))
  asked_suits e a (CallResult t) v {P = P} h = o_more S 0 (typed_suits e t a.wants v {P = P} h.1) (λ u d k. (record { shape = k.0.0; class = k.0.1 }, k.1))
  asked_suits e a (EntryOutput t) v {P = P} h = o_more S 0 (typed_suits e t a.wants v {P = P} h.1) (λ u d k. (record { shape = k.0.0; class = k.0.1 }, k.1))

-- ---- places from before

pub had_owners : (c : Context) (other : Need) (asks : List Asked) (ns : List Need) (rs : List Receiver) (vs : List Value) → Asking other asks ns rs → ListBoth (λ (r : Receiver) (v : Value). ⊤) rs vs → ((p : ℕ) → dead c p + handed_arguments other asks p vs ≤ 1) → ListBoth (HadOwner c) rs vs
had_owners c other asks ns [] [] a l h = tt
had_owners c other asks ns [] (v ∷ vs) a l h = absurd l
had_owners c other asks ns (r ∷ rs) [] a l h = absurd l
had_owners c other asks ns (r ∷ rs) (v ∷ vs) a l h = (λ e lt. go e lt (cases_lt 0 (owners v.place c.vars)), had_owners c other (later_asked asks) (drop 1 ns) rs vs a.2 l.1 (λ p. let x = h p in omega (arith, x)))
  where
    go : is_consumed (need_of r) ≡ true → v.place < c.next → (0 < owners v.place c.vars) ⊎ (owners v.place c.vars ≤ 0) → 1 ≤ owners v.place c.vars
    go e lt (inl k) = omega (arith, k)
    go e lt (inr z) =
        let o : owners v.place c.vars ≡ 0 = omega (arith, z) in
        let d : dead c v.place ≡ 1 = ap (λ n. cond ((n == 0) && nat_lt v.place c.next) 1 0) o ∙ ap (λ b. cond b 1 0) (lt-ltb v.place c.next lt) in
        let n : handed (first_asked other asks).need v.place (v ∷ []) ≡ 1 = ap (λ x. handed x v.place (v ∷ [])) (need_agrees (first_asked other asks) r a.0) ∙ (handed_all (need_of r) v.place (v ∷ []) e ∙ ap (λ t. cond t 1 0 + 0) (eq-eqb v.place v.place refl)) in
        let x = h v.place in
        absurd (omega (arith, x, d, n))

-- ---- uses of lists

argument_uses_kinds : (es : Expressions) (sc : Scope) (vs ws : List Var) (ns : List Need) → kinds vs ≡ kinds ws → argument_uses es sc vs ns ≡ argument_uses es sc ws ns
argument_uses_kinds none sc vs ws ns k = refl
argument_uses_kinds (more e es) sc vs ws ns k = ap₂ (λ a b. a ∷ b) (uses_kinds e sc vs ws (first_need ns) k) (argument_uses_kinds es sc vs ws (later_needs ns) k)

meets_append : (wanted : Need → Bool) (p : Part) (xs ys : List Use) → meets wanted p xs ≡ false → meets wanted p ys ≡ false → meets wanted p (xs ++ ys) ≡ false
meets_append wanted p [] ys h k = k
meets_append wanted p (a ∷ xs) ys h k = ap₂ (λ x y. x || y) (or_left (wanted a.need && overlaps p a.part) (meets wanted p xs) h) (meets_append wanted p xs ys (or_right (wanted a.need && overlaps p a.part) (meets wanted p xs) h) k)

clash_right : (wanted : Need → Bool) (us xs ys : List Use) → uses_clash wanted us xs ≡ false → uses_clash wanted us ys ≡ false → uses_clash wanted us (xs ++ ys) ≡ false
clash_right wanted [] xs ys h k = refl
clash_right wanted (u ∷ us) xs ys h k =
    ap₂ (λ x y. x || y) (one (is_consumed u.need) (or_left (is_consumed u.need && meets wanted u.part xs) (uses_clash wanted us xs) h) (or_left (is_consumed u.need && meets wanted u.part ys) (uses_clash wanted us ys) k))
    (clash_right wanted us xs ys (or_right (is_consumed u.need && meets wanted u.part xs) (uses_clash wanted us xs) h) (or_right (is_consumed u.need && meets wanted u.part ys) (uses_clash wanted us ys) k))
  where
    one : (t : Bool) → (t && meets wanted u.part xs) ≡ false → (t && meets wanted u.part ys) ≡ false → (t && meets wanted u.part (xs ++ ys)) ≡ false
    one true x y = meets_append wanted u.part xs ys x y
    one false x y = refl

clash_left : (wanted : Need → Bool) (us xs ys : List Use) → uses_clash wanted xs us ≡ false → uses_clash wanted ys us ≡ false → uses_clash wanted (xs ++ ys) us ≡ false
clash_left wanted us [] ys h k = k
clash_left wanted us (a ∷ xs) ys h k = ap₂ (λ x y. x || y) (or_left (is_consumed a.need && meets wanted a.part us) (uses_clash wanted xs us) h) (clash_left wanted us xs ys (or_right (is_consumed a.need && meets wanted a.part us) (uses_clash wanted xs us) h) k)

hold_none : (us : List Use) → consume_and_hold us [] ≡ false
hold_none us = ap (λ t. t || false) (none us)
  where
    none : (us : List Use) → uses_clash is_only_held us [] ≡ false
    none [] = refl
    none (u ∷ us) = ap₂ (λ x y. x || y) (one (is_consumed u.need)) (none us)
      where
        one : (t : Bool) → (t && false) ≡ false
        one true = refl
        one false = refl

hold_append : (us xs ys : List Use) → consume_and_hold us xs ≡ false → consume_and_hold us ys ≡ false → consume_and_hold us (xs ++ ys) ≡ false
hold_append us xs ys h k =
    ap₂ (λ x y. x || y) (clash_right is_only_held us xs ys (or_left (uses_clash is_only_held us xs) (uses_clash is_only_held xs us) h) (or_left (uses_clash is_only_held us ys) (uses_clash is_only_held ys us) k))
    (clash_left is_only_held us xs ys (or_right (uses_clash is_only_held us xs) (uses_clash is_only_held xs us) h) (or_right (uses_clash is_only_held us ys) (uses_clash is_only_held ys us) k))

-- what clashes with no argument does not clash with all of them
pub hold_all : (us : List Use) (es : Expressions) (sc : Scope) (vars : List Var) (ns : List Need) → some_with consume_and_hold us (argument_uses es sc vars ns) ≡ false → consume_and_hold us (all_uses es sc vars ns) ≡ false
hold_all us none sc vars ns h = hold_none us
hold_all us (more e es) sc vars ns h =
    hold_append us (uses e sc vars (first_need ns)) (all_uses es sc vars (later_needs ns)) (or_left (consume_and_hold us (uses e sc vars (first_need ns))) (some_with consume_and_hold us (argument_uses es sc vars (later_needs ns))) h)
    (hold_all us es sc vars (later_needs ns) (or_right (consume_and_hold us (uses e sc vars (first_need ns))) (some_with consume_and_hold us (argument_uses es sc vars (later_needs ns))) h))

-- the rest of a list is untangled in a later context
pub rest_untangled : (sc : Scope) (c d : Context) (e : Expression) (es : Expressions) (r : Receiver) (rs : List Receiver) → kinds c.vars ≡ kinds d.vars → Untangled sc c (more e es) (r ∷ rs) → Untangled sc d es rs
rest_untangled sc c d e es r rs k (inl h) = inl h.1
rest_untangled sc c d e es r rs k (inr h) = inr (
  ap (some_pair both_consume) (sym (argument_uses_kinds es sc c.vars d.vars (map need_of rs) k)) ∙ or_right (some_with both_consume (uses e sc c.vars (need_of r)) (argument_uses es sc c.vars (map need_of rs))) (some_pair both_consume (argument_uses es sc c.vars (map need_of rs))) h.0,
  ap (some_pair consume_and_hold) (sym (argument_uses_kinds es sc c.vars d.vars (map need_of rs) k)) ∙ or_right (some_with consume_and_hold (uses e sc c.vars (need_of r)) (argument_uses es sc c.vars (map need_of rs))) (some_pair consume_and_hold (argument_uses es sc c.vars (map need_of rs))) h.1,
)

pub first_untangled : (sc : Scope) (c : Context) (e : Expression) (es : Expressions) (r : Receiver) (rs : List Receiver) → Untangled sc c (more e es) (r ∷ rs) → (is_argument r ≡ false) ⊎ (consume_and_hold (uses e sc c.vars (need_of r)) (all_uses es sc c.vars (map need_of rs)) ≡ false)
first_untangled sc c e es r rs (inl h) = inl h.0
first_untangled sc c e es r rs (inr h) = inr (hold_all (uses e sc c.vars (need_of r)) es sc c.vars (map need_of rs) (or_left (some_with consume_and_hold (uses e sc c.vars (need_of r)) (argument_uses es sc c.vars (map need_of rs))) (some_pair consume_and_hold (argument_uses es sc c.vars (map need_of rs))) h.1))
