-- The walk of an expression leaves each place with at most one owner.
use Rattle.std.specs.Prelude.{◌≡◌, refl, ℕ, zero, suc, ◌+◌, ◌<◌, ◌≤◌, Bool, true, false, not, cond, ◌&&◌, ◌||◌, ◌==◌, List, [], ◌∷◌, ◌++◌, Option, Some, None, Result, Ok, Err, ℤ, pos, negsuc, slice_get, map, ⊤}
use mathlib.Core.Path.{sym, ap, ◌∙◌, subst}
use native.Mathlib.Omega.{arith}
use Rattle.std.proofs.lemmas.Bool.Decides.{eqb_tells}
use mathlib.Core.Logic.{⊎_elim}
use Rattle.check_expr.proofs.Alike.{some_same, same_part_refl, same_part_same}
use Rattle.check_scope.specs.Context.{Scope, Context, Check, ◌>>=◌, ◌>>◌, give_back, fail, of_result, rules, variables, signature, unknown_at, known_names, needed, all_needed, is_known_name, replace, find_var, same_part, is_in_condition, variable, part_at}
use Rattle.silq_types.specs.declared.built_in.BuiltIn.{BuiltIn}
use Rattle.silq_types.specs.declared.built_in.BuiltIn.TheVariants.{HGate, XGate, YGate, ZGate, Dup, Measure, Vector, RotateX, RotateY, RotateZ}
use Rattle.check_expr.specs.Expression.{one_value, static_value, unless_static, typed_value, flip_value, gate_value, gate_values, Asked, first_asked, later_asked, asked_by_built_in, Arguments, call_gate, many, length_value, lone_need, lone_wants, later_arguments, single_of, vector_value, call_built_in, natural, static_arguments, exact_place, asked_by, all_lifted, result_origin, placed, argument_at, result_values, call_own, call_found, asked_of_items, suits, unnamed_rule, is_qfree, lone_linear, expr, arguments, origin_of, is_tuple, single, typed_by, unary_value, operands, binary_value, binary_shape}
use Rattle.silq_types.specs.Programs.{paired}
use Rattle.check_scope.specs.Places.{new_value}
use Rattle.check_scope.specs.Places.{move, unmoved, is_moved, disturbs, use_rules, use_part, use_found, use_place}
use Rattle.check_expr.specs.Owners.{at_place, owns, owners, owned, Sole, handed, handed_arguments, consumed_weight, from_weight, returned_weight, ProperFor, Gives, Ensures}
use Rattle.silq_types.specs.Calls.{Found, find_fun, built_in}
use Rattle.check_scope.specs.Walk.{Walk, answer, broken, counted, asked, bind}
use Rattle.silq_types.specs.declared.need.Need.{Need}
use Rattle.silq_tree.specs.Syntax.{Expression, Expressions, number, typed_number, truth, pi, place, called, tuple, unary, binary, none, more, ScalarType, Place}
use Rattle.silq_tree.specs.declared.node.BinaryOp.{BinaryOp}
use Rattle.silq_tree.specs.declared.node.NameId.{NameId}
use Rattle.silq_tree.specs.declared.node.Spot.{Spot}
use Rattle.silq_tree.specs.declared.node.UnaryOp.{UnaryOp}
use Rattle.silq_types.specs.Rules.{Fault, rule}
use Rattle.silq_types.specs.Types.{at, is_held, quantum, single_shape, first_unknown, names, place_name, place_indices}
use Rattle.silq_mean.specs.Written.{scalar_type, Header, needed_at, header_of}
use Rattle.silq_types.specs.declared.signature.InstanceKey.{InstanceKey}
use Rattle.silq_types.specs.declared.signature.Param.{Param}
use Rattle.silq_types.specs.declared.signature.Returned.{Returned}
use Rattle.silq_types.specs.declared.signature.Signature.{Signature}
use Rattle.silq_types.specs.declared.types.Shape.{Shape}
use Rattle.silq_types.specs.declared.types.Ty.{Ty}
use Rattle.silq_types.specs.declared.values.Origin.{Origin}
use Rattle.silq_types.specs.declared.values.Origin.TheVariants.{Lifted}
use Rattle.silq_types.specs.declared.values.Part.{Part}
use Rattle.silq_types.specs.declared.values.Value.{Value}
use Rattle.silq_types.specs.declared.values.Var.{Var}
use Rattle.static_num.specs.Static.{is_static}
use Rattle.std.specs.Ordering.{int_eq}
use Rattle.silq_types.specs.declared.need.Need.TheVariants as needs

-- ---- parts

pub found_part : (vars : List Var) (p : Part) (v : Var) → find_var vars p ≡ Some v → v.part ≡ p
found_part [] p v e = absurd (grind (arith, e))
found_part (w ∷ ws) p v e = go (found_part ws p v) (same_part w.part p) refl e
  where
    go : (find_var ws p ≡ Some v → v.part ≡ p) → (b : Bool) → same_part w.part p ≡ b → cond b (Some w) (find_var ws p) ≡ Some v → v.part ≡ p
    go ih true h e = subst (λ (x : Var). x.part ≡ p) (some_same w v e) (same_part_same w.part p h)
    go ih false h e = ih e

abbrev spent : Var → Var
spent v = record v { consumed = true }

-- the variable that is consumed hands its place on
owners-consumed : (vars : List Var) (p : Part) (v : Var) → find_var vars p ≡ Some v → v.consumed ≡ false → (q : ℕ) → owners q (replace vars (spent v)) + at_place q v.place ≡ owners q vars
owners-consumed [] p v e live q = absurd (grind (arith, e))
owners-consumed (w ∷ ws) p v e live q = go (λ f. owners-consumed ws p v f live q) (same_part w.part p) refl e
  where
    here : w ≡ v → owners q (cond (same_part w.part v.part) (spent v ∷ ws) (w ∷ replace ws (spent v))) + at_place q v.place ≡ owners q (w ∷ ws)
    here same =
        rw (ap (λ (x : Var). same_part x.part v.part) same ∙ same_part_refl v.part)
        (let own : owns q w ≡ at_place q v.place = ap (owns q) same ∙ ap (λ b. cond b 0 (at_place q v.place)) live in omega (arith, own))

    there : same_part w.part v.part ≡ false → owners q (replace ws (spent v)) + at_place q v.place ≡ owners q ws → owners q (cond (same_part w.part v.part) (spent v ∷ ws) (w ∷ replace ws (spent v))) + at_place q v.place ≡ owners q (w ∷ ws)
    there h ih = rw h (omega (arith, ih))

    go : (find_var ws p ≡ Some v → owners q (replace ws (spent v)) + at_place q v.place ≡ owners q ws) → (b : Bool) → same_part w.part p ≡ b → cond b (Some w) (find_var ws p) ≡ Some v → owners q (cond (same_part w.part v.part) (spent v ∷ ws) (w ∷ replace ws (spent v))) + at_place q v.place ≡ owners q (w ∷ ws)
    go ih true h e = here (some_same w v e)
    go ih false h e = there (ap (λ x. same_part w.part x) (found_part ws p v e) ∙ h) (ih e)

-- ---- the places of answers

module _ (S : InstanceKey → Signature → Type 0) (low : ℕ) where
  pub gives-bind : {A B : Type 0} (P : A → Type 0) (Q : B → Type 0) (w : Walk A) (f : A → Walk B) → Gives S P w → ((a : A) → P a → Gives S Q (f a)) → Gives S Q (bind w f)
  gives-bind P Q (answer a) f g h = h a g
  gives-bind P Q (broken e) f g h = tt
  gives-bind P Q (counted w) f g h = gives-bind P Q w f g h
  gives-bind P Q (asked k next) f g h = λ s ok. gives-bind P Q (next s) f (g s ok) h

  pub gives-more : {A : Type 0} (P Q : A → Type 0) (w : Walk A) → Gives S P w → ((a : A) → P a → Q a) → Gives S Q w
  gives-more P Q (answer a) g h = h a g
  gives-more P Q (broken e) g h = tt
  gives-more P Q (counted w) g h = gives-more P Q w g h
  gives-more P Q (asked k next) g h = λ s ok. gives-more P Q (next s) (g s ok) h

  pub o_bind : {A B : Type 0} {P : Context → Type 0} {m : Check A} {Q : A → Context → Type 0} {f : A → Check B} {R : B → Context → Type 0} → Ensures S P m Q → ((a : A) → Ensures S (Q a) (f a) R) → Ensures S P (m >>= f) R
  unfolding ◌>>=◌
  o_bind {m = m} {Q = Q} {f = f} {R = R} q h = record { runs = λ c p. gives-bind (λ r. Q r.0 r.1) (λ r. R r.0 r.1) (m c) (λ r. f r.0 r.1) (q.runs c p) (λ r o. (h r.0).runs r.1 o) }

  pub o_then : {A B : Type 0} {P : Context → Type 0} {m : Check A} {Q : A → Context → Type 0} {n : Check B} {R : B → Context → Type 0} → Ensures S P m Q → ((a : A) → Ensures S (Q a) n R) → Ensures S P (m >> n) R
  unfolding ◌>>◌
  o_then {m = m} {Q = Q} {n = n} {R = R} q h = record { runs = λ c p. gives-bind (λ r. Q r.0 r.1) (λ r. R r.0 r.1) (m c) (λ r. n r.1) (q.runs c p) (λ r o. (h r.0).runs r.1 o) }

  pub o_more : {A : Type 0} {P : Context → Type 0} {m : Check A} {Q R : A → Context → Type 0} → Ensures S P m Q → ((a : A) (c : Context) → Q a c → R a c) → Ensures S P m R
  o_more {m = m} {Q = Q} {R = R} q h = record { runs = λ c p. gives-more (λ r. Q r.0 r.1) (λ r. R r.0 r.1) (m c) (q.runs c p) (λ r o. h r.0 r.1 o) }

  pub o_from : {A : Type 0} {P O : Context → Type 0} {m : Check A} {Q : A → Context → Type 0} → ((c : Context) → O c → P c) → Ensures S P m Q → Ensures S O m Q
  o_from h q = record { runs = λ c p. q.runs c (h c p) }

  pub o_back : {A : Type 0} {P : Context → Type 0} (a : A) {Q : A → Context → Type 0} → ((c : Context) → P c → Q a c) → Ensures S P (give_back a) Q
  o_back a h = record { runs = λ c p. h c p }

  pub o_fail : {A : Type 0} {P : Context → Type 0} (e : Fault) {Q : A → Context → Type 0} → Ensures S P (fail e) Q
  o_fail e = record { runs = λ c p. tt }

  pub o_if : {A : Type 0} {P : Context → Type 0} (b : Bool) {m n : Check A} {Q : A → Context → Type 0} → (b ≡ true → Ensures S P m Q) → (b ≡ false → Ensures S P n Q) → Ensures S P (cond b m n) Q
  o_if true q h = q refl
  o_if false q h = h refl

  abbrev pub AllFalse : List (Bool × ℕ) → Type 0
  AllFalse [] = ⊤
  AllFalse (r ∷ rs) = (r.0 ≡ false) × AllFalse rs

  pub o_rules : {P : Context → Type 0} (s : Spot) (rs : List (Bool × ℕ)) → Ensures S P (rules s rs) (λ u c. AllFalse rs × P c)
  unfolding rules
  o_rules s [] = o_back tt (λ c p. (tt, p))
  o_rules {P = P} s (r ∷ rs) = o_if r.0 (λ e. o_fail (rule r.1 s)) (λ e. o_more (o_rules s rs) (λ u c q. ((e, q.0), q.1)))

  pub o_result : {A : Type 0} {P : Context → Type 0} (r : Result A Fault) → Ensures S P (of_result r) (λ a c. (r ≡ Ok a) × P c)
  o_result (Ok a) = o_back a (λ c p. (refl, p))
  o_result (Err e) = o_fail e

  pub o_variables : {P : Context → Type 0} → Ensures S P variables (λ vs c. (vs ≡ c.vars) × P c)
  o_variables = record { runs = λ c p. (refl, p) }

  pub o_unknown : {P : Context → Type 0} (o : Option Spot) → Ensures S P (unknown_at o) (λ u. P)
  o_unknown None = o_back tt (λ c p. p)
  o_unknown (Some s) = o_fail (rule 1 s)

  pub o_names : {P : Context → Type 0} (sc : Scope) (e : Expression) → Ensures S P (known_names sc e) (λ u. P)
  o_names sc e = record { runs = λ c p. (o_unknown (first_unknown (is_known_name sc c.vars) (names e))).runs c p }

  pub o_needed : {P : Context → Type 0} (sc : Scope) (e : Expression) → Ensures S P (needed sc e) (λ z. P)
  o_needed {P = P} sc e = o_then (o_names sc e) (λ u. o_more (o_result (needed_at sc.statics e (at e))) (λ z c q. q.1))

  pub o_all_needed : {P : Context → Type 0} (es : Expressions) (sc : Scope) → Ensures S P (all_needed es sc) (λ zs. P)
  o_all_needed none sc = o_back [] (λ c p. p)
  o_all_needed {P = P} (more e es) sc = o_bind (o_needed sc e) (λ v. o_bind (o_all_needed es sc) (λ vs. o_back (v ∷ vs) (λ c p. p)))

  -- ---- values

  pub sole-less : (f g : ℕ → ℕ) (c : Context) → Sole low f c → ((p : ℕ) → g p ≤ f p) → Sole low g c
  sole-less f g c s h = record { grown = s.grown; one = λ p. omega (arith, s.one p, h p); ahead = λ p le. omega (arith, s.ahead p le, h p) }

  pub at_new : (g : ℕ → ℕ) (c : Context) → Sole low g c → Sole low (λ p. g p + at_place p c.next) (record c { next = suc c.next })
  at_new g c s = record {
    grown = let le = s.grown in omega (arith, le);
    one = λ p. ⊎_elim (λ e. let z = s.ahead p (omega (arith, e.1)) in let a : at_place p c.next ≡ 1 = ap (λ b. cond b 1 0) e.0 in omega (arith, z, a)) (λ e. let a : at_place p c.next ≡ 0 = ap (λ b. cond b 1 0) e.0 in omega (arith, s.one p, a)) (eqb_tells c.next p);
    ahead = λ p le. ⊎_elim (λ e. absurd (omega (arith, e.1, le))) (λ e. let a : at_place p c.next ≡ 0 = ap (λ b. cond b 1 0) e.0 in let z = s.ahead p (omega (arith, le)) in omega (arith, z, a)) (eqb_tells c.next p);
  }

  pub o_new : (g : ℕ → ℕ) (t : Ty) (o : Origin) → Ensures S (Sole low g) (new_value t o) (λ v. Sole low (λ p. g p + at_place p v.place))
  unfolding ◌>>=◌
  o_new g t o = record { runs = λ c s. at_new g c s }

  pub handed-one : (need : Need) (p : ℕ) (v : Value) → handed need p (v ∷ []) ≤ at_place p v.place
  handed-one needs.Held p v = omega arith
  handed-one needs.Consumed p v = omega arith

  -- a new value, handed on or not
  pub o_handed : (g : ℕ → ℕ) (need : Need) (t : Ty) (o : Origin) → Ensures S (Sole low g) (new_value t o) (λ v. Sole low (λ p. g p + handed need p (v ∷ [])))
  o_handed g need t o = o_more (o_new g t o) (λ v c s. sole-less (λ p. g p + at_place p v.place) (λ p. g p + handed need p (v ∷ [])) c s (λ p. let h = handed-one need p v in omega (arith, h)))

  pub o_one : (g : ℕ → ℕ) (need : Need) (t : Ty) (o : Origin) → Ensures S (Sole low g) (one_value t o) (λ vs. Sole low (λ p. g p + handed need p vs))
  o_one g need t o = o_bind (o_handed g need t o) (λ v. o_back (v ∷ []) (λ c s. s))

  -- ---- places

  pub o_unmoved : (g : ℕ → ℕ) (need : Need) (t : Ty) (v : Var) → Ensures S (Sole low g) (unmoved need t v) (λ x. Sole low (λ p. g p + handed need p (x ∷ [])))
  o_unmoved g needs.Held t v = o_back _ (λ c s. sole-less g (λ p. g p + 0) c s (λ p. omega arith))
  o_unmoved g needs.Consumed t v = o_handed g needs.Consumed t _

  pub o_move : (g : ℕ → ℕ) (need : Need) (t : Ty) (v : Var) (q : Part) → v.consumed ≡ false → Ensures S (λ c. (find_var c.vars q ≡ Some v) × Sole low g c) (move t v) (λ x. Sole low (λ p. g p + handed need p (x ∷ [])))
  o_move g need t v q live = record {
    runs = λ c h. record {
      grown = h.1.grown;
      one = λ p. let e = owners-consumed c.vars q v h.0 live p in let a = h.1.one p in let b = handed-one need p (record { ty = t; origin = v.origin; place = v.place }) in omega (arith, e, a, b);
      ahead = λ p le. let e = owners-consumed c.vars q v h.0 live p in let a = h.1.ahead p le in let b = handed-one need p (record { ty = t; origin = v.origin; place = v.place }) in omega (arith, e, a, b);
    };
  }

  pub o_use_rules : {P : Context → Type 0} (sc : Scope) (s : Spot) (need : Need) (q : Part) (v : Var) (bad : Bool) → Ensures S P (use_rules sc s need q v bad) (λ u c. (v.consumed ≡ false) × P c)
  o_use_rules sc s need q v bad =
      o_more (o_rules s ((v.consumed, 4) ∷ (is_moved need v.ty && is_held v.origin, 5) ∷ (is_moved need v.ty && is_in_condition sc.held q, 9) ∷ (bad, 17) ∷ [])) (λ u c h. (h.0.0, h.1))

  pub o_use_part : (g : ℕ → ℕ) (sc : Scope) (s : Spot) (need : Need) (q : Part) (v : Var) (vars : List Var) (t : Option Ty) → Ensures S (Sole low g) (use_part sc s need q v vars t) (λ x. Sole low (λ p. g p + handed need p (x ∷ [])))
  o_use_part g sc s need q v vars None = o_then (o_use_rules sc s need q v true) (λ u. o_fail (rule 17 s))
  o_use_part g sc s need q v vars (Some t) = o_then (o_use_rules sc s need q v (disturbs vars q || is_moved need v.ty)) (λ u. o_from (λ c h. h.1) (o_unmoved g need t v))

  pub o_use_found : (g : ℕ → ℕ) (sc : Scope) (s : Spot) (need : Need) (q : Part) (vars : List Var) (o w : Option Var) → Ensures S (λ c. (find_var c.vars q ≡ o) × Sole low g c) (use_found sc s need q vars o w) (λ x. Sole low (λ p. g p + handed need p (x ∷ [])))
  o_use_found g sc s need q vars (Some v) w =
      o_then (o_use_rules sc s need q v (disturbs vars q)) (λ u. o_if (is_moved need v.ty)
      (λ e. record { runs = λ c h. (o_move g need v.ty v q h.0).runs c h.1 })
      (λ e. o_from (λ c h. h.1.1) (o_unmoved g need v.ty v)))
  o_use_found g sc s need q vars None (Some w) = o_from (λ c h. h.1) (o_use_part g sc s need q w vars _)
  o_use_found g sc s need q vars None None = o_fail (rule 17 s)

  abbrev pub Hand : (ℕ → ℕ) → Need → List Value → Context → Type 0
  Hand g need vs = Sole low (λ p. g p + handed need p vs)

  pub o_use_place : (g : ℕ → ℕ) (sc : Scope) (w : Place) (s : Spot) (need : Need) → Ensures S (Sole low g) (use_place sc w s need) (λ v. Hand g need (v ∷ []))
  o_use_place g sc w s need =
      o_bind (o_all_needed (place_indices w) sc) (λ values. o_bind o_variables (λ vars.
      o_then {n = use_found sc s need (part_at (place_name w) values) vars (find_var vars (part_at (place_name w) values)) (find_var vars (variable (place_name w)))} (o_rules s _) (λ u.
      o_from (λ c h. (ap (λ l. find_var l (part_at (place_name w) values)) (sym h.1.0), h.1.1))
      (o_use_found g sc s need (part_at (place_name w) values) vars (find_var vars (part_at (place_name w) values)) (find_var vars (variable (place_name w)))))))

  -- ---- numbers

  pub o_static : (g : ℕ → ℕ) (sc : Scope) (e : Expression) (need : Need) (wants : List Ty) → Ensures S (Sole low g) (static_value sc e wants) (Hand g need)
  o_static g sc e need [] = o_fail _
  o_static g sc e need (t ∷ []) = o_bind (o_result (needed_at sc.statics e (at e))) (λ z. o_then (o_rules (at e) _) (λ u. o_from (λ c h. h.1.1) (o_one g need t (origin_of t.classical))))
  o_static g sc e need (t ∷ u ∷ ts) = o_fail _

  pub o_unless : (g : ℕ → ℕ) (sc : Scope) (e : Expression) (need : Need) (wants : List Ty) {m : Check (List Value)} → Ensures S (Sole low g) m (Hand g need) → Ensures S (Sole low g) (unless_static sc e wants m) (Hand g need)
  o_unless g sc e need wants q = o_if (is_static sc.statics e) (λ x. o_static g sc e need wants) (λ x. q)

  pub o_typed : (g : ℕ → ℕ) (need : Need) (sc : Scope) (n : ℤ) (k : ScalarType) (s : Spot) → Ensures S (Sole low g) (typed_value sc n k s) (λ v. Hand g need (v ∷ []))
  o_typed g need sc n k s = o_bind o_variables (λ vars. o_bind (o_result (scalar_type sc.statics (is_known_name sc vars) k s)) (λ t. o_then (o_rules s _) (λ u. o_from (λ c h. h.1.1.1) (o_handed g need (quantum (single_shape t)) Lifted))))

  -- ---- operators

  pub o_single : (g : ℕ → ℕ) (need : Need) (e : Expression) (vs : List Value) → Ensures S (Hand g need vs) (single e vs) (λ v. Hand g need (v ∷ []))
  o_single g need e [] = o_if (is_tuple e) (λ x. o_fail _) (λ x. o_fail _)
  o_single g need e (v ∷ []) = o_if (is_tuple e) (λ x. o_fail _) (λ x. o_back v (λ c s. s))
  o_single g need e (v ∷ w ∷ vs) = o_if (is_tuple e) (λ x. o_fail _) (λ x. o_fail _)

  pub o_single_of : (g : ℕ → ℕ) (need : Need) (e : Expression) (vs : List Value) → Ensures S (Hand g need vs) (single_of e vs) (λ v. Hand g need (v ∷ []))
  o_single_of g need e [] = o_fail _
  o_single_of g need e (v ∷ []) = o_back v (λ c s. s)
  o_single_of g need e (v ∷ w ∷ vs) = o_fail _

  -- the same where a tuple was walked as held: it is refused
  pub o_lone : (g : ℕ → ℕ) (need : Need) (e : Expression) (vs : List Value) → Ensures S (Hand g (lone_need e need) vs) (single e vs) (λ v. Hand g need (v ∷ []))
  o_lone g need e vs = go (is_tuple e)
    where
      go : (b : Bool) → Ensures S (Hand g (cond b needs.Held need) vs) (cond b (fail (rule 3 (at e))) (single_of e vs)) (λ v. Hand g need (v ∷ []))
      go true = o_fail _
      go false = o_single_of g need e vs

  pub held-drop : (g : ℕ → ℕ) (vs : List Value) (c : Context) → Hand g needs.Held vs c → Sole low g c
  held-drop g vs c s = sole-less (λ p. g p + 0) g c s (λ p. omega arith)

  pub o_typed_by : (g : ℕ → ℕ) (need : Need) (classical : Bool) (s : Shape) → Ensures S (Sole low g) (typed_by classical s) (Hand g need)
  o_typed_by g need classical s = o_one g need _ _

  pub o_unary : (g : ℕ → ℕ) (need : Need) (op : UnaryOp) (s : Spot) (v : Value) → Ensures S (Hand g needs.Held (v ∷ [])) (unary_value op s v) (Hand g need)
  o_unary g need op s v = o_then (o_rules s _) (λ u. o_from (λ c h. held-drop g (v ∷ []) c h.1) (o_typed_by g need v.ty.classical v.ty.shape))

  pub o_operands : (g : ℕ → ℕ) (sc : Scope) (a : Expression) (left right : List Ty → Check Value) → ((w : List Ty) → Ensures S (Sole low g) (left w) (λ x. Sole low g)) → ((w : List Ty) → Ensures S (Sole low g) (right w) (λ x. Sole low g)) → Ensures S (Sole low g) (operands sc a left right) (λ r. Sole low g)
  o_operands g sc a left right l r = o_if (is_static sc.statics a)
      (λ e. o_bind (o_result (needed_at sc.statics a (at a))) (λ z. o_bind (o_from (λ c h. h.1) (r [])) (λ y. o_bind (l (y.ty ∷ [])) (λ x. o_back (x, y) (λ c s. s)))))
      (λ e. o_bind (l []) (λ x. o_bind (r (x.ty ∷ [])) (λ y. o_back (x, y) (λ c s. s))))

  pub o_binary : (g : ℕ → ℕ) (need : Need) (sc : Scope) (op : BinaryOp) (a b : Expression) (s : Spot) (x y : Value) → Ensures S (Sole low g) (binary_value sc op a b s x y) (Hand g need)
  o_binary g need sc op a b s x y = o_bind o_variables (λ vars. o_then (o_rules s _) (λ u. o_from (λ c h. h.1.1) (o_typed_by g need (x.ty.classical && y.ty.classical) (binary_shape op x.ty.shape))))

  -- ---- calls of built-in functions

  -- a value that goes on with the place of one that was handed over
  pub o_same_place : (g : ℕ → ℕ) (need : Need) (v : Value) (x : Value) → x.place ≡ v.place → Ensures S (Sole low (λ p. g p + at_place p v.place)) (give_back (x ∷ [])) (Hand g need)
  o_same_place g need v x e = o_back (x ∷ []) (λ c s. sole-less (λ p. g p + at_place p v.place) (λ p. g p + handed need p (x ∷ [])) c s (λ p. let h = handed-one need p x in let q : at_place p x.place ≡ at_place p v.place = ap (at_place p) e in omega (arith, h, q)))

  pub o_flip : (g : ℕ → ℕ) (b : BuiltIn) (s : Spot) (need : Need) (v : Value) → Ensures S (Sole low (λ p. g p + at_place p v.place)) (flip_value b s need v) (Hand g need)
  o_flip g b s need v = o_then (o_rules s _) (λ u. o_then (o_rules s _) (λ u'. o_from (λ c h. h.1.1) (o_same_place g need v _ refl)))

  abbrev pub given : BuiltIn → List Value → ℕ → ℕ
  given b vs p = handed_arguments needs.Held (asked_by_built_in b) p vs

  flat_given : (g : ℕ → ℕ) (v : Value) (c : Context) → Sole low (λ p. g p + (at_place p v.place + 0 + 0)) c → Sole low (λ p. g p + at_place p v.place) c
  flat_given g v c s = sole-less (λ p. g p + (at_place p v.place + 0 + 0)) (λ p. g p + at_place p v.place) c s (λ p. omega arith)

  pub dropped : (g f : ℕ → ℕ) (c : Context) → Sole low (λ p. g p + f p) c → Sole low g c
  dropped g f c s = sole-less (λ p. g p + f p) g c s (λ p. omega arith)

  pub o_gate : (g : ℕ → ℕ) (b : BuiltIn) (s : Spot) (need : Need) (v : Value) → Ensures S (Sole low (λ p. g p + handed_arguments needs.Held (asked_by_built_in b) p (v ∷ []))) (gate_value b s need v) (Hand g need)
  o_gate g HGate s need v = o_from (flat_given g v) (o_flip g HGate s need v)
  o_gate g XGate s need v = o_from (flat_given g v) (o_flip g XGate s need v)
  o_gate g YGate s need v = o_from (flat_given g v) (o_flip g YGate s need v)
  o_gate g ZGate s need v = o_from (flat_given g v) (o_flip g ZGate s need v)
  o_gate g Dup s need v = o_from (dropped g (λ p. 0 + 0)) (o_one g need _ _)
  o_gate g Measure s need v = o_from (dropped g (λ p. at_place p v.place + 0 + 0)) (o_one g need _ _)
  o_gate g Vector s need v = o_from (flat_given g v) (o_flip g Vector s need v)
  o_gate g RotateX s need v = o_from (flat_given g v) (o_flip g RotateX s need v)
  o_gate g RotateY s need v = o_from (flat_given g v) (o_flip g RotateY s need v)
  o_gate g RotateZ s need v = o_from (flat_given g v) (o_flip g RotateZ s need v)

  pub o_gates : (g : ℕ → ℕ) (b : BuiltIn) (s : Spot) (need : Need) (vs : List Value) → Ensures S (Sole low (λ p. g p + handed_arguments needs.Held (asked_by_built_in b) p vs)) (gate_values b s need vs) (Hand g need)
  o_gates g b s need [] = o_fail _
  o_gates g b s need (v ∷ []) = o_gate g b s need v
  o_gates g b s need (v ∷ w ∷ vs) = o_fail _

  -- what the walk of a call's arguments owes
  abbrev pub Walks : (ℕ → ℕ) → Arguments → Type 0
  Walks g walk = (l : List Asked) → Ensures S (Sole low g) (walk l) (λ vs. Sole low (λ p. g p + handed_arguments needs.Held l p vs))

  pub o_call_gate : (g : ℕ → ℕ) (sc : Scope) (b : BuiltIn) (ss args : Expressions) (s : Spot) (need : Need) (walk : Arguments) → Walks g walk → Ensures S (Sole low g) (call_gate sc b ss args s need walk) (Hand g need)
  o_call_gate g sc b ss args s need walk w = o_then (o_rules s _) (λ u. o_bind (o_from (λ c h. h.1) (w (asked_by_built_in b))) (λ vs. o_gates g b s need vs))

  pub o_many : (g : ℕ → ℕ) (s : Spot) (vs : List Value) (n : ℤ) (need : Need) → Ensures S (Sole low g) (many s vs n) (Hand g need)
  o_many g s [] n need = o_fail _
  o_many g s (v ∷ []) n need = o_one g need _ _
  o_many g s (v ∷ w ∷ vs) n need = o_fail _

  pub o_length : {P : Context → Type 0} (sc : Scope) (a : Expression) → Ensures S P (length_value sc a) (λ m. P)
  o_length {P = P} sc a = o_if (is_static sc.statics a) (λ e. o_more (o_result (needed_at sc.statics a (at a))) (λ m c h. h.1)) (λ e. o_back (pos 0) (λ c h. h))

  -- what the walk of the arguments after the first owes
  abbrev pub Walks_later : (ℕ → ℕ) → Check (List Value) → Type 0
  Walks_later g later = Ensures S (Sole low g) later (λ vs. Sole low (λ p. g p + handed_arguments needs.Held [] p vs))

  pub o_vector : (g : ℕ → ℕ) (sc : Scope) (s : Spot) (args : Expressions) (later : Check (List Value)) (need : Need) → Walks_later g later → Ensures S (Sole low g) (vector_value sc s args later) (Hand g need)
  o_vector g sc s none later need r = o_fail _
  o_vector g sc s (more a rest) later need r =
      o_then (o_names sc a) (λ u. o_bind (o_length sc a) (λ m. o_bind r (λ vs. o_then (o_rules s _) (λ u'.
      o_from (λ c h. dropped g (λ p. handed_arguments needs.Held [] p vs) c h.1) (o_many g s vs m need)))))

  pub o_built_in : (g : ℕ → ℕ) (sc : Scope) (b : BuiltIn) (ss args : Expressions) (s : Spot) (need : Need) (walk : Arguments) (later : Check (List Value)) → Walks g walk → Walks_later g later → Ensures S (Sole low g) (call_built_in sc b ss args s need walk later) (Hand g need)
  o_built_in g sc HGate ss args s need walk later w r = o_call_gate g sc HGate ss args s need walk w
  o_built_in g sc XGate ss args s need walk later w r = o_call_gate g sc XGate ss args s need walk w
  o_built_in g sc YGate ss args s need walk later w r = o_call_gate g sc YGate ss args s need walk w
  o_built_in g sc ZGate ss args s need walk later w r = o_call_gate g sc ZGate ss args s need walk w
  o_built_in g sc Dup ss args s need walk later w r = o_call_gate g sc Dup ss args s need walk w
  o_built_in g sc Measure ss args s need walk later w r = o_call_gate g sc Measure ss args s need walk w
  o_built_in g sc Vector ss args s need walk later w r = o_then (o_rules s _) (λ u. o_from (λ c h. h.1) (o_vector g sc s args later need r))
  o_built_in g sc RotateX ss args s need walk later w r = o_fail _
  o_built_in g sc RotateY ss args s need walk later w r = o_fail _
  o_built_in g sc RotateZ ss args s need walk later w r = o_fail _

  -- ---- calls of own functions

  pub o_natural : {P : Context → Type 0} (s : Spot) (z : ℤ) → Ensures S P (natural s z) (λ u. P)
  o_natural s z = o_more (o_rules s ((Rattle.std.specs.Prelude.int_lt z (pos 0), 21) ∷ [])) (λ u c h. h.1)

  pub o_static_arguments : {P : Context → Type 0} (es : Expressions) (sc : Scope) → Ensures S P (static_arguments es sc) (λ zs. P)
  o_static_arguments none sc = o_back [] (λ c p. p)
  o_static_arguments {P = P} (more e es) sc = o_bind (o_needed sc e) (λ v. o_then (o_natural (at e) v) (λ u. o_bind (o_static_arguments es sc) (λ vs. o_back (v ∷ vs) (λ c p. p))))

  -- the weight of a parameter: whether its argument has the place p
  abbrev pub weight_of : ℕ → Option Value → ℕ
  weight_of p None = 0
  weight_of p (Some v) = at_place p v.place

  abbrev pub weights : List Value → ℕ → ℕ → ℕ
  weights vs p j = weight_of p (slice_get vs j)

  from-weight : (vs : List Value) (p : ℕ) (f : Option ℕ) → from_weight (weights vs p) f ≡ weight_of p (argument_at vs f)
  from-weight vs p None = refl
  from-weight vs p (Some j) = refl

  pub o_placed : (g : ℕ → ℕ) (o : Option Value) (t : Ty) (k : Origin) → Ensures S (Sole low (λ p. g p + weight_of p o)) (placed o t k) (λ x. Sole low (λ p. g p + at_place p x.place))
  o_placed g None t k = o_from (dropped g (λ p. 0)) (o_new g t k)
  o_placed g (Some v) t k = o_back _ (λ c s. s)

  pub o_results : (g : ℕ → ℕ) (lifts : Bool) (vs : List Value) (rs : List Returned) → Ensures S (Sole low (λ p. g p + returned_weight (weights vs p) rs)) (result_values lifts vs rs) (λ xs. Sole low (λ p. g p + owned p xs))
  o_results g lifts vs [] = o_back [] (λ c s. s)
  o_results g lifts vs (r ∷ rs) =
      o_bind (o_from (λ c s. sole-less (λ p. g p + (from_weight (weights vs p) r.from + returned_weight (weights vs p) rs)) (λ p. g p + returned_weight (weights vs p) rs + weight_of p (argument_at vs r.from)) c s (λ p. let e = from-weight vs p r.from in omega (arith, e))) (o_placed (λ p. g p + returned_weight (weights vs p) rs) (argument_at vs r.from) r.ty (result_origin lifts r.ty)))
      (λ x. o_bind (o_from (λ c s. sole-less (λ p. g p + returned_weight (weights vs p) rs + at_place p x.place) (λ p. g p + at_place p x.place + returned_weight (weights vs p) rs) c s (λ p. omega arith)) (o_results (λ p. g p + at_place p x.place) lifts vs rs))
      (λ xs. o_back (x ∷ xs) (λ c s. sole-less (λ p. g p + at_place p x.place + owned p xs) (λ p. g p + (at_place p x.place + owned p xs)) c s (λ p. omega arith))))

  handed-if : (b : Bool) (p n : ℕ) (v : Value) → n ≡ at_place p v.place → cond b 0 n ≤ handed (cond b needs.Held needs.Consumed) p (v ∷ [])
  handed-if true p n v e = omega arith
  handed-if false p n v e = omega (arith, e)

  cond-zero : (b : Bool) (n : ℕ) → n ≡ 0 → cond b 0 n ≡ 0
  cond-zero true n e = refl
  cond-zero false n e = e

  -- the weights of the consumed parameters are among what the arguments hand over
  consumed-handed : (p : ℕ) (w : ℕ → ℕ) (i : ℕ) (ps : List Param) (vs : List Value) → ((j k : ℕ) → k ≡ i + j → w k ≡ weight_of p (slice_get vs j)) → consumed_weight w i ps ≤ handed_arguments needs.Held (map asked_by ps) p vs
  consumed-handed p w i [] vs h = omega arith
  consumed-handed p w i (q ∷ qs) [] h =
      let rest = consumed-handed p w (suc i) qs [] (λ j k e. h (suc j) k (omega (arith, e))) in
      let z = cond-zero q.held (w i) (h 0 i (omega arith)) in
      omega (arith, rest, z)
  consumed-handed p w i (q ∷ qs) (v ∷ vs) h =
      let rest = consumed-handed p w (suc i) qs vs (λ j k e. h (suc j) k (omega (arith, e))) in
      let first = handed-if q.held p (w i) v (h 0 i (omega arith)) in
      omega (arith, rest, first)

  pub o_signature : {P : Context → Type 0} (k : InstanceKey) → Ensures S P (signature k) (λ s c. S k s × P c)
  o_signature k = record { runs = λ c p s ok. (ok, p) }

  pub handed-owned : (need : Need) (p : ℕ) (vs : List Value) → handed need p vs ≤ owned p vs
  handed-owned needs.Held p vs = omega arith
  handed-owned needs.Consumed p vs = omega arith

  pub o_own : (g : ℕ → ℕ) (sc : Scope) → ((k : InstanceKey) (s : Signature) → S k s → ProperFor sc.before k s) → (x : NameId) (f : Found) → find_fun sc.before x ≡ Some f → (ss args : Expressions) (s : Spot) (need : Need) (walk : Arguments) → Walks g walk → Ensures S (Sole low g) (call_own sc f ss args s need walk) (Hand g need)
  o_own g sc proper x f there ss args s need walk w =
      o_then (o_rules s _) (λ u.
      o_bind (o_from (λ c h. h.1) (o_static_arguments ss sc)) (λ zs.
      o_bind (o_result (header_of (paired f.fun.statics zs) exact_place f.fun)) (λ h.
      o_bind o_variables (λ vars.
      o_then (o_rules s _) (λ u'.
      record { runs = λ c r. (last zs h r.1.1.0).runs c r.1.1.1 })))))
    where
      -- the arguments, the signature and the results
      last : (zs : List ℤ) (h : Header) → header_of (paired f.fun.statics zs) exact_place f.fun ≡ Ok h → Ensures S (Sole low g) (walk (map asked_by h.params) >>= (λ vs. signature (record { fun = record { number = f.number }; statics = zs }) >>= (λ sig. result_values (is_qfree f.fun.mark && all_lifted h.params vs) vs sig.results >>= (λ xs. unnamed_rule s need (lone_linear xs) >> give_back xs)))) (Hand g need)
      last zs h e =
          o_bind (w (map asked_by h.params)) (λ vs.
          o_bind (o_signature (record { fun = record { number = f.number }; statics = zs })) (λ sig.
          o_bind (o_from (λ c r. sole-less (λ p. g p + handed_arguments needs.Held (map asked_by h.params) p vs) (λ p. g p + returned_weight (weights vs p) sig.results) c r.1 (λ p.
          let a = proper (record { fun = record { number = f.number }; statics = zs }) sig r.0 x f h there refl e (weights vs p) in
          let b = consumed-handed p (weights vs p) 0 h.params vs (λ j k e'. ap (weights vs p) (e' ∙ (let z : 0 + j ≡ j = omega arith in z))) in
          omega (arith, a, b))) (o_results g (is_qfree f.fun.mark && all_lifted h.params vs) vs sig.results)) (λ xs.
          o_then (o_rules s _) (λ u. o_back xs (λ c r. sole-less (λ p. g p + owned p xs) (λ p. g p + handed need p xs) c r.1 (λ p. let a = handed-owned need p xs in omega (arith, a)))))))

  pub o_found : (g : ℕ → ℕ) (sc : Scope) → ((k : InstanceKey) (s : Signature) → S k s → ProperFor sc.before k s) → (x : NameId) (b : Option BuiltIn) (o : Option Found) → find_fun sc.before x ≡ o → (ss args : Expressions) (s : Spot) (need : Need) (walk : Arguments) (later : Check (List Value)) → Walks g walk → Walks_later g later → Ensures S (Sole low g) (call_found sc b o ss args s need walk later) (Hand g need)
  o_found g sc proper x (Some b) o there ss args s need walk later w r = o_built_in g sc b ss args s need walk later w r
  o_found g sc proper x None (Some f) there ss args s need walk later w r = o_own g sc proper x f there ss args s need walk w
  o_found g sc proper x None None there ss args s need walk later w r = o_fail _

  -- ---- expressions

  pub o_suits : {P : Context → Type 0} (e : Expression) (wants : List Ty) (v : Value) → Ensures S P (suits e wants v) (λ u. P)
  o_suits e [] v = o_back tt (λ c p. p)
  o_suits e (t ∷ []) v = o_more (o_rules (at e) _) (λ u c h. h.1)
  o_suits e (t ∷ u ∷ ts) v = o_back tt (λ c p. p)

  -- the items of a tuple are handed on as the tuple is
  items-handed : (need : Need) (p : ℕ) (wants : List Ty) (vs : List Value) → handed need p vs ≤ handed_arguments need (asked_of_items need wants) p vs
  items-handed needs.Held p wants vs = omega arith
  items-handed needs.Consumed p wants [] = omega arith
  items-handed needs.Consumed p [] (v ∷ vs) = let ih = items-handed needs.Consumed p [] vs in omega (arith, ih)
  items-handed needs.Consumed p (t ∷ ts) (v ∷ vs) = let ih = items-handed needs.Consumed p ts vs in omega (arith, ih)

  mutual
    -- the walk of an expression hands on the places of a consumed use, and leaves each place with at most one owner
    pub o_expr : (e : Expression) (g : ℕ → ℕ) (sc : Scope) → ((k : InstanceKey) (s : Signature) → S k s → ProperFor sc.before k s) → (need : Need) (wants : List Ty) → Ensures S (Sole low g) (expr e sc need wants) (Hand g need)
    o_expr (number n s) g sc proper need wants = o_static g sc (number n s) need wants
    o_expr (typed_number n k s) g sc proper need wants = o_bind (o_typed g need sc n k s) (λ v. o_back (v ∷ []) (λ c h. h))
    o_expr (truth b s) g sc proper need wants = o_static g sc (truth b s) need wants
    o_expr (pi s) g sc proper need wants = o_fail _
    o_expr (place w s) g sc proper need wants = o_unless g sc (place w s) need wants (o_bind (o_use_place g sc w s need) (λ v. o_back (v ∷ []) (λ c h. h)))
    o_expr (called f ss args s) g sc proper need wants =
        o_found g sc proper f (built_in sc.words f) (find_fun sc.before f) refl ss args s need (λ l. arguments args sc needs.Held l) (later_arguments args sc) (λ l. o_arguments args g sc proper needs.Held l) (o_later args g sc proper)
    o_expr (tuple es s) g sc proper need wants =
        o_more (o_arguments es g sc proper need (asked_of_items need wants))
        (λ vs c h. sole-less (λ p. g p + handed_arguments need (asked_of_items need wants) p vs) (λ p. g p + handed need p vs) c h (λ p. let a = items-handed need p wants vs in omega (arith, a)))
    o_expr (unary op e s) g sc proper need wants =
        o_unless g sc (unary op e s) need wants (o_bind (o_expr e g sc proper needs.Held []) (λ vs. o_bind (o_single g needs.Held e vs) (λ v. o_unary g need op s v)))
    o_expr (binary op a b s) g sc proper need wants =
        o_unless g sc (binary op a b s) need wants
        (o_bind (o_operands g sc a (λ w. expr a sc needs.Held (lone_wants a w) >>= single a) (λ w. expr b sc needs.Held (lone_wants b w) >>= single b)
        (λ w. o_bind (o_expr a g sc proper needs.Held (lone_wants a w)) (λ vs. o_more (o_single g needs.Held a vs) (λ v c h. held-drop g (v ∷ []) c h)))
        (λ w. o_bind (o_expr b g sc proper needs.Held (lone_wants b w)) (λ vs. o_more (o_single g needs.Held b vs) (λ v c h. held-drop g (v ∷ []) c h))))
        (λ r. o_binary g need sc op a b s r.0 r.1))

    pub o_arguments : (es : Expressions) (g : ℕ → ℕ) (sc : Scope) → ((k : InstanceKey) (s : Signature) → S k s → ProperFor sc.before k s) → (other : Need) (l : List Asked) → Ensures S (Sole low g) (arguments es sc other l) (λ vs. Sole low (λ p. g p + handed_arguments other l p vs))
    o_arguments none g sc proper other l = o_back [] (λ c s. sole-less g (λ p. g p + 0) c s (λ p. omega arith))
    o_arguments (more e es) g sc proper other l =
        o_bind (o_expr e g sc proper (lone_need e (first_asked other l).need) (lone_wants e (first_asked other l).wants)) (λ vs.
        o_bind (o_lone g (first_asked other l).need e vs) (λ v.
        o_then (o_suits e (first_asked other l).wants v) (λ u.
        o_bind (o_arguments es (λ p. g p + handed (first_asked other l).need p (v ∷ [])) sc proper other (later_asked l)) (λ rest.
        o_back (v ∷ rest) (λ c h. sole-less (λ p. g p + handed (first_asked other l).need p (v ∷ []) + handed_arguments other (later_asked l) p rest) (λ p. g p + (handed (first_asked other l).need p (v ∷ []) + handed_arguments other (later_asked l) p rest)) c h (λ p. omega arith))))))

    o_later : (es : Expressions) (g : ℕ → ℕ) (sc : Scope) → ((k : InstanceKey) (s : Signature) → S k s → ProperFor sc.before k s) → Walks_later g (later_arguments es sc)
    o_later none g sc proper = o_back [] (λ c s. sole-less g (λ p. g p + 0) c s (λ p. omega arith))
    o_later (more e es) g sc proper = o_arguments es g sc proper needs.Held []
