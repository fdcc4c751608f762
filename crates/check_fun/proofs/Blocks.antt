-- The walk of statements leaves each place with at most one owner.
use Rattle.std.specs.Prelude.{◌≡◌, refl, ℕ, zero, suc, ◌+◌, ◌≤◌, Bool, true, false, cond, List, [], ◌∷◌, ◌++◌, length, take, drop, Option, Some, None, Result, Ok, Err, ℤ, pos, ◌+ℤ◌, ◌-ℤ◌}
use mathlib.Core.Path.{sym, ap, subst}
use native.Mathlib.Omega.{arith}
use Rattle.check_expr.proofs.Owners.{Hand, o_bind, o_then, o_more, o_from, o_back, o_fail, o_if, o_rules, o_result, o_variables, o_names, o_needed, o_all_needed, o_single, o_suits, o_expr, at_new, dropped, held-drop}
use Rattle.check_scope.specs.Context.{Scope, Context, Check, ◌>>=◌, ◌>>◌, rules, variables, put_variables, new_place, count_statement, replace, same_part, find_var, is_variable, variable, part_at}
use Rattle.check_expr.specs.Expression.{is_tuple, lone_need, lone_wants, some_linear, expr, single}
use Rattle.check_expr.specs.Owners.{at_place, owns, owners, owned, Sole, handed, ProperFor, Ensures}
use Rattle.silq_types.specs.declared.need.Need.{Need}
use Rattle.check_fun.specs.Statement.{bound, bind_name, bind_names, assigned, assign_name, one_suits, static_updated, assign_part, assign_to, target, target_of, target_type, Target, taken_out, made_linear, with_origin, update_part, forget_name, end_var, phase_of, angle_rule, first_type, returned, none_left, end_from, plain_block, none_changed, branch, joined, both, under, with_static, chosen, condition, rounds, stmt, stmts, forget_as, otherwise, otherwise_end}
use Rattle.silq_types.specs.Programs.{distance}
use Rattle.silq_tree.specs.Syntax.{Expression, Statement, assign, spread, update, forget, forget_value, phase, choice, loop, call, block, Statements, done, next, Place, whole, part, part_of_part, return_nothing, return_value, Otherwise, else_block, else_choice}
use Rattle.silq_tree.specs.declared.node.NameId.{NameId}
use Rattle.silq_tree.specs.declared.node.Spot.{Spot}
use Rattle.silq_tree.specs.declared.node.UpdateOp.{UpdateOp}
use Rattle.silq_types.specs.Types.{at, is_linear, place_name, place_indices}
use Rattle.silq_mean.specs.Written.{needed_at}
use Rattle.silq_types.specs.declared.signature.InstanceKey.{InstanceKey}
use Rattle.silq_types.specs.declared.signature.Signature.{Signature}
use Rattle.silq_types.specs.declared.types.Ty.{Ty}
use Rattle.silq_types.specs.declared.values.Origin.TheVariants.{Linear}
use Rattle.silq_types.specs.declared.values.Part.{Part}
use Rattle.silq_types.specs.declared.values.Value.{Value}
use Rattle.silq_types.specs.declared.values.Var.{Var}
use Rattle.static_num.specs.Angle.{angle_of}
use Rattle.static_num.specs.Static.{is_static, is_true}
use Rattle.static_num.specs.declared.angles.AngleFault.{AngleFault}
use Rattle.silq_types.specs.declared.need.Need.TheVariants as needs
use Rattle.static_num.specs.declared.angles.AngleFault.TheVariants as angles

abbrev pub Z : ℕ → ℕ
Z p = 0

-- ---- lists of variables

owners-replace : (p : ℕ) (vars : List Var) (v : Var) → owners p (replace vars v) ≤ owners p vars + owns p v
owners-replace p [] v = omega arith
owners-replace p (w ∷ ws) v = go (same_part w.part v.part) (owners-replace p ws v)
  where
    go : (b : Bool) → owners p (replace ws v) ≤ owners p ws + owns p v → owners p (cond b (v ∷ ws) (w ∷ replace ws v)) ≤ owns p w + owners p ws + owns p v
    go true h = omega arith
    go false h = omega (arith, h)

owners-append : (p : ℕ) (vars : List Var) (v : Var) → owners p (vars ++ v ∷ []) ≡ owners p vars + owns p v
owners-append p [] v = omega arith
owners-append p (w ∷ ws) v = let h = owners-append p ws v in omega (arith, h)

owners-bind : (p : ℕ) (vars : List Var) (x : NameId) (v : Value) → owners p (bind_name vars x v) ≤ owners p vars + at_place p v.place
owners-bind p vars x v = go (is_variable vars x)
  where
    go : (b : Bool) → owners p (cond b (replace vars (bound x v)) (vars ++ bound x v ∷ [])) ≤ owners p vars + at_place p v.place
    go true = owners-replace p vars (bound x v)
    go false = let h = owners-append p vars (bound x v) in omega (arith, h)

owners-binds : (p : ℕ) (vars : List Var) (xs : List NameId) (vs : List Value) → owners p (bind_names vars xs vs) ≤ owners p vars + owned p vs
owners-binds p vars [] vs = omega arith
owners-binds p vars (x ∷ xs) [] = omega arith
owners-binds p vars (x ∷ xs) (v ∷ vs) = let a = owners-bind p vars x v in let b = owners-binds p (bind_name vars x v) xs vs in omega (arith, a, b)

owners-take : (p n : ℕ) (vars : List Var) → owners p (take n vars) ≤ owners p vars
owners-take p zero vars = omega arith
owners-take p (suc n) [] = omega arith
owners-take p (suc n) (v ∷ vs) = let h = owners-take p n vs in omega (arith, h)

owners-linear : (p : ℕ) (vars : List Var) (q : Part) → owners p (made_linear vars q) ≡ owners p vars
owners-linear p [] q = refl
owners-linear p (v ∷ vs) q = go (same_part v.part q) (owners-linear p vs q)
  where
    go : (b : Bool) → owners p (made_linear vs q) ≡ owners p vs → owners p (cond b (record v { origin = Linear } ∷ vs) (v ∷ made_linear vs q)) ≡ owns p v + owners p vs
    go true h = refl
    go false h = ap (λ n. owns p v + n) h

owners-origin : (p : ℕ) (linear : Bool) (vars : List Var) (q : Part) → owners p (with_origin linear vars q) ≡ owners p vars
owners-origin p linear vars q = go linear
  where
    go : (b : Bool) → owners p (cond b (made_linear vars q) vars) ≡ owners p vars
    go true = owners-linear p vars q
    go false = refl

owners-joined : (p : ℕ) (one other : List Var) → owners p (joined one other) ≤ owners p other
owners-joined p [] other = omega arith
owners-joined p (a ∷ rest) [] = omega arith
owners-joined p (a ∷ rest) (b ∷ bs) = let h = owners-joined p rest bs in go (is_linear a.origin) h
  where
    go : (k : Bool) → owners p (joined rest bs) ≤ owners p bs → owners p (cond k (record b { origin = Linear }) b ∷ joined rest bs) ≤ owns p b + owners p bs
    go true h = omega (arith, h)
    go false h = omega (arith, h)

module _ (S : InstanceKey → Signature → Type 0) (low : ℕ) where
  -- variables that own no more than those before, and the values under way
  sole-put : (f : ℕ → ℕ) (c : Context) (vs : List Var) → Sole low f c → ((p : ℕ) → owners p vs ≤ owners p c.vars + f p) → Sole low Z (record c { vars = vs })
  sole-put f c vs s h = record { grown = s.grown; one = λ p. omega (arith, s.one p, h p); ahead = λ p le. omega (arith, s.ahead p le, h p) }

  s_put : (f : ℕ → ℕ) (vs : List Var) → Ensures S (λ c. Sole low f c × ((p : ℕ) → owners p vs ≤ owners p c.vars + f p)) (put_variables vs) (λ u. Sole low Z)
  s_put f vs = record { runs = λ c h. sole-put f c vs h.0 h.1 }

  s_assigned : (sc : Scope) (s : Spot) (xs : List NameId) (vs : List Value) → Ensures S (Hand S low Z needs.Consumed vs) (assigned sc s xs vs) (λ u. Sole low Z)
  s_assigned sc s xs vs =
      o_bind S low (o_variables S low) (λ vars. o_then S low (o_rules S low s _) (λ u.
      o_from S low (λ c h. (h.1.1, λ p. let a = owners-binds p vars xs vs in subst (λ l. owners p (bind_names vars xs vs) ≤ owners p l + (0 + owned p vs)) h.1.0 (omega (arith, a)))) (s_put (λ p. 0 + owned p vs) (bind_names vars xs vs))))

  s_target_type : {P : Context → Type 0} (s : Spot) (p : Part) (v : Var) (t : Option Ty) → Ensures S P (target_type s p v t) (λ u. P)
  s_target_type s p v None = o_fail S low _
  s_target_type s p v (Some t) = o_back S low _ (λ c h. h)

  s_target_of : {P : Context → Type 0} (s : Spot) (other : ℕ) (p : Part) (v : Option Var) → Ensures S P (target_of s other p v) (λ u. P)
  s_target_of s other p None = o_fail S low _
  s_target_of {P = P} s other p (Some v) = o_then S low (o_rules S low s _) (λ u. o_from S low (λ c h. h.1) (s_target_type s p v _))

  s_target : {P : Context → Type 0} (sc : Scope) (w : Place) (s : Spot) (other : ℕ) → Ensures S P (target sc w s other) (λ u. P)
  s_target {P = P} sc w s other =
      o_bind S low (o_all_needed S low (place_indices w) sc) (λ values. o_bind S low (o_variables S low) (λ vars. o_then S low (o_rules S low s _) (λ u.
      o_from S low (λ c h. h.1.1) (s_target_of s other (part_at (place_name w) values) (find_var vars (variable (place_name w)))))))

  s_fresh : (vars : List Var) → Ensures S (λ c. (vars ≡ c.vars) × Sole low Z c) new_place (λ p c. (vars ≡ c.vars) × Sole low (λ q. Z q + at_place q p) c)
  s_fresh vars = record { runs = λ c h. (h.0, at_new S low Z c h.1) }

  taken-owns : (q : ℕ) (t : Target) (p : ℕ) → owns q (taken_out t p) ≤ at_place q p
  taken-owns q t p = go t.owner.consumed
    where
      go : (b : Bool) → cond b 0 (at_place q p) ≤ at_place q p
      go true = omega arith
      go false = omega arith

  s_value : (sc : Scope) → ((k : InstanceKey) (s : Signature) → S k s → ProperFor sc.before k s) → (e : Expression) (need : Need) (wants : List Ty) → Ensures S (Sole low Z) (expr e sc need wants >>= single e) (λ v. Hand S low Z need (v ∷ []))
  s_value sc proper e need wants = o_bind S low (o_expr S low e Z sc proper need wants) (λ vs. o_single S low Z need e vs)

  -- a tuple was walked as held, and is refused
  s_no_tuple : (e : Expression) (vs : List Value) → Ensures S (Hand S low Z (lone_need e needs.Consumed) vs) (rules (at e) ((is_tuple e, 3) ∷ [])) (λ u. Hand S low Z needs.Consumed vs)
  unfolding rules
  s_no_tuple e vs = go (is_tuple e)
    where
      go : (b : Bool) → Ensures S (Hand S low Z (cond b needs.Held needs.Consumed) vs) (rules (at e) ((b, 3) ∷ [])) (λ u. Hand S low Z needs.Consumed vs)
      go true = o_fail S low _
      go false = o_back S low tt (λ c h. h)

  s_one_suits : {P : Context → Type 0} (e : Expression) (t : Ty) (vs : List Value) → Ensures S P (one_suits e t vs) (λ u. P)
  s_one_suits e t [] = o_back S low tt (λ c h. h)
  s_one_suits e t (v ∷ []) = o_suits S low e (t ∷ []) v
  s_one_suits e t (v ∷ w ∷ vs) = o_back S low tt (λ c h. h)

  s_part : (sc : Scope) → ((k : InstanceKey) (s : Signature) → S k s → ProperFor sc.before k s) → (w : Place) (e : Expression) (s : Spot) → Ensures S (Sole low Z) (assign_part sc w e s) (λ u. Sole low Z)
  s_part sc proper w e s =
      o_bind S low (s_target sc w s 17) (λ t.
      o_bind S low (o_variables S low) (λ vars.
      o_bind S low (s_fresh vars) (λ p.
      o_then S low (o_from S low (λ c h. (h.1, λ q. let a = owners-append q vars (taken_out t p) in let b = taken-owns q t p in subst (λ l. owners q (vars ++ taken_out t p ∷ []) ≤ owners q l + (0 + at_place q p)) h.0 (omega (arith, a, b)))) (s_put (λ q. Z q + at_place q p) (vars ++ taken_out t p ∷ []))) (λ u.
      o_bind S low (o_expr S low e Z sc proper (lone_need e needs.Consumed) []) (λ vs.
      o_then S low (s_no_tuple e vs) (λ u0.
      o_then S low (s_one_suits e t.ty vs) (λ u'.
      o_bind S low (o_variables S low) (λ after.
      o_then S low (o_rules S low s _) (λ u''.
      o_from S low (λ c h. (h.1.1, λ q. let a = owners-origin q (some_linear vs) (take (length vars) after) t.owner.part in let b = owners-take q (length vars) after in subst (λ l. owners q (with_origin (some_linear vs) (take (length vars) after) t.owner.part) ≤ owners q l + (0 + handed needs.Consumed q vs)) h.1.0 (omega (arith, a, b)))) (s_put (λ q. 0 + handed needs.Consumed q vs) (with_origin (some_linear vs) (take (length vars) after) t.owner.part)))))))))))

  held-end : (vs : List Value) (c : Context) → Hand S low Z needs.Held vs c → Sole low Z c
  held-end vs c h = held-drop S low Z vs c h

  s_name : (sc : Scope) → ((k : InstanceKey) (s : Signature) → S k s → ProperFor sc.before k s) → (x : NameId) (e : Expression) (s : Spot) → Ensures S (Sole low Z) (assign_name sc x e s) (λ u. Sole low Z)
  s_name sc proper x e s = o_bind S low (o_expr S low e Z sc proper (lone_need e needs.Consumed) []) (λ vs. o_then S low (s_no_tuple e vs) (λ u. s_assigned sc s (x ∷ []) vs))

  s_to : (sc : Scope) → ((k : InstanceKey) (s : Signature) → S k s → ProperFor sc.before k s) → (w : Place) (e : Expression) (s : Spot) → Ensures S (Sole low Z) (assign_to sc w e s) (λ u. Sole low Z)
  s_to sc proper (whole x) e s = s_name sc proper x e s
  s_to sc proper (part x i) e s = s_part sc proper (part x i) e s
  s_to sc proper (part_of_part x i j) e s = s_part sc proper (part_of_part x i j) e s

  s_update : (sc : Scope) → ((k : InstanceKey) (s : Signature) → S k s → ProperFor sc.before k s) → (w : Place) (op : UpdateOp) (e : Expression) (s : Spot) → Ensures S (Sole low Z) (update_part sc w op e s) (λ u. Sole low Z)
  s_update sc proper w op e s =
      o_bind S low (s_target sc w s (static_updated w)) (λ t.
      o_bind S low (o_expr S low e Z sc proper needs.Held (lone_wants e (t.ty ∷ []))) (λ vs.
      o_bind S low (o_single S low Z needs.Held e vs) (λ v.
      o_then S low (o_rules S low (at e) _) (λ u. o_bind S low (o_variables S low) (λ after. o_more S low (o_rules S low s _) (λ u' c h. held-end (v ∷ []) c h.1.1.1))))))

  s_end_var : (v : Var) → Ensures S (Sole low Z) (end_var v) (λ u. Sole low Z)
  s_end_var v = record { runs = λ c h. sole-put Z c (replace c.vars (record v { consumed = true })) h (λ p. let a = owners-replace p c.vars (record v { consumed = true }) in omega (arith, a)) }

  s_forget : (sc : Scope) (x : NameId) (s : Spot) → Ensures S (Sole low Z) (forget_name sc x s) (λ u. Sole low Z)
  s_forget sc x s = o_bind S low (s_target sc (whole x) s 12) (λ t. o_then S low (o_rules S low s _) (λ u. o_from S low (λ c h. h.1) (s_end_var t.owner)))

  s_forget_value : (sc : Scope) → ((k : InstanceKey) (s : Signature) → S k s → ProperFor sc.before k s) → (x : NameId) (e : Expression) (s : Spot) → Ensures S (Sole low Z) (forget_as sc x e s) (λ u. Sole low Z)
  s_forget_value sc proper x e s =
      o_bind S low (s_target sc (whole x) s 13) (λ t.
      o_bind S low (o_expr S low e Z sc proper needs.Held (lone_wants e (t.ty ∷ []))) (λ vs.
      o_bind S low (o_single S low Z needs.Held e vs) (λ v.
      o_bind S low (o_variables S low) (λ after.
      o_then S low (o_rules S low s _) (λ u. o_from S low (λ c h. held-end (v ∷ []) c h.1.1) (s_end_var t.owner))))))

  s_angle : {P : Context → Type 0} (s : Spot) (r : Result ℕ AngleFault) → Ensures S P (angle_rule s r) (λ u. P)
  s_angle s (Ok k) = o_back S low tt (λ c h. h)
  s_angle s (Err angles.NotEighth) = o_fail S low _
  s_angle s (Err (angles.Static f)) = o_fail S low _

  s_phase : {P : Context → Type 0} (sc : Scope) (e : Expression) (s : Spot) → Ensures S P (phase_of sc e s) (λ u. P)
  s_phase {P = P} sc e s = o_then S low (o_names S low sc e) (λ u. o_then S low (s_angle (at e) (angle_of sc.statics e)) (λ u'. o_more S low (o_rules S low s _) (λ u'' c h. h.1)))

  s_none_left : {P : Context → Type 0} (vars : List Var) (s : Spot) → Ensures S P (none_left vars s) (λ u. P)
  s_none_left [] s = o_back S low tt (λ c h. h)
  s_none_left {P = P} (v ∷ vs) s = o_then S low (o_rules S low s _) (λ u. o_from S low (λ c h. h.1) (s_none_left vs s))

  s_none_changed : {P : Context → Type 0} (before after : List Var) (s : Spot) → Ensures S P (none_changed before after s) (λ u. P)
  s_none_changed [] after s = o_back S low tt (λ c h. h)
  s_none_changed (b ∷ bs) [] s = o_back S low tt (λ c h. h)
  s_none_changed {P = P} (b ∷ bs) (a ∷ rest) s = o_then S low (o_rules S low s _) (λ u. o_from S low (λ c h. h.1) (s_none_changed bs rest s))

  pub s_end_from : (f : ℕ → ℕ) (n : ℕ) (s : Spot) → Ensures S (Sole low f) (end_from n s) (λ u. Sole low f)
  s_end_from f n s = record {
    runs = λ c h. (o_then S low {P = λ c'. c' ≡ c} {n = put_variables (take n c.vars)} (s_none_left (drop n c.vars) s) (λ u. record {
      runs = λ c' e. subst (λ (x : Context). Sole low f (record x { vars = take n c.vars })) (sym e)
          (record { grown = h.grown; one = λ p. let a = h.one p in let b = owners-take p n c.vars in omega (arith, a, b); ahead = λ p le. let a = h.ahead p le in let b = owners-take p n c.vars in omega (arith, a, b) });
    })).runs c refl;
  }

  s_plain : (m : Check (Unit {0})) (s : Spot) → Ensures S (Sole low Z) m (λ u. Sole low Z) → Ensures S (Sole low Z) (plain_block m s) (λ u. Sole low Z)
  s_plain m s q = o_bind S low (o_variables S low) (λ vars. o_then S low (o_from S low (λ c h. h.1) q) (λ u. s_end_from Z (length vars) s))

  s_branch : (m : Check (Unit {0})) (s : Spot) → Ensures S (Sole low Z) m (λ u. Sole low Z) → Ensures S (Sole low Z) (branch m s) (λ u. Sole low Z)
  s_branch m s q =
      o_bind S low (o_variables S low) (λ before. o_then S low (o_from S low (λ c h. h.1) q) (λ u.
      o_bind S low (o_variables S low) (λ after. o_then S low (s_none_changed before after s) (λ u'. o_from S low (λ c h. h.1) (s_end_from Z (length before) s)))))

  s_rounds : (m : ℤ → Check (Unit {0})) → ((z : ℤ) → Ensures S (Sole low Z) (m z) (λ u. Sole low Z)) → (z : ℤ) (n : ℕ) → Ensures S (Sole low Z) (rounds m z n) (λ u. Sole low Z)
  s_rounds m q z zero = o_back S low tt (λ c h. h)
  s_rounds m q z (suc n) = o_then S low (q z) (λ u. s_rounds m q (z +ℤ pos 1) n)

  s_condition : (sc : Scope) → ((k : InstanceKey) (s : Signature) → S k s → ProperFor sc.before k s) → (e : Expression) → Ensures S (Sole low Z) (condition sc e) (λ ps. Sole low Z)
  s_condition sc proper e =
      o_bind S low (o_expr S low e Z sc proper needs.Held []) (λ vs.
      o_bind S low (o_single S low Z needs.Held e vs) (λ v.
      o_then S low (o_rules S low (at e) _) (λ u. o_bind S low (o_variables S low) (λ vars. o_back S low _ (λ c h. held-end (v ∷ []) c h.1.1)))))

  pub s_count : {P : Context → Type 0} → Ensures S P count_statement (λ u. P)
  s_count = record { runs = λ c h. h }

-- both branches begin with the variables as they stood; places go on counting
second_too : (S : InstanceKey → Signature → Type 0) (low : ℕ) (c : Context) → Sole low Z c → (second : Check (Unit {0})) → Ensures S (Sole low Z) second (λ u. Sole low Z) → Ensures S (Sole c.next Z) (variables >>= (λ one. put_variables c.vars >> (second >> (variables >>= (λ other. put_variables (joined one other)))))) (λ u. Sole low Z)
second_too S low c h second q =
    o_bind S low (o_variables S low) (λ one.
    o_then S low {Q = λ u. Sole low Z} (record { runs = λ d e. record { grown = let a = h.grown in let b = e.1.grown in omega (arith, a, b); one = h.one; ahead = λ p le. h.ahead p (let b = e.1.grown in omega (arith, b, le)) } }) (λ u.
    o_then S low q (λ u'.
    o_bind S low (o_variables S low) (λ other.
    o_from S low (λ d e. (e.1, λ p. let a = owners-joined p one other in subst (λ l. owners p (joined one other) ≤ owners p l + 0) e.0 (omega (arith, a)))) (s_put S low Z (joined one other))))))

s_both : (S : InstanceKey → Signature → Type 0) (low : ℕ) (first second : Check (Unit {0})) → ((l : ℕ) → Ensures S (Sole l Z) first (λ u. Sole l Z)) → ((l : ℕ) → Ensures S (Sole l Z) second (λ u. Sole l Z)) → Ensures S (Sole low Z) (both first second) (λ u. Sole low Z)
unfolding ◌>>=◌
s_both S low first second q r = record { runs = λ c h. (o_then S low (q c.next) (λ u. second_too S low c h second (r low))).runs c (record { grown = omega arith; one = h.one; ahead = h.ahead }) }

s_chosen : (S : InstanceKey → Signature → Type 0) (low : ℕ) (z : ℤ) (first second : Check (Unit {0})) → Ensures S (Sole low Z) first (λ u. Sole low Z) → Ensures S (Sole low Z) second (λ u. Sole low Z) → Ensures S (Sole low Z) (chosen z first second) (λ u. Sole low Z)
s_chosen S low z first second q r = o_if S low (is_true z) (λ e. q) (λ e. r)

pub s_returned : (S : InstanceKey → Signature → Type 0) (low : ℕ) (sc : Scope) → ((k : InstanceKey) (s : Signature) → S k s → ProperFor sc.before k s) → (e : Expression) → Ensures S (Sole low Z) (returned e sc) (Hand S low Z needs.Consumed)
s_returned S low sc proper e = o_if S low (is_tuple e)
    (λ x. o_expr S low e Z sc proper needs.Consumed sc.results)
    (λ x. o_bind S low (o_expr S low e Z sc proper needs.Consumed (first_type sc.results)) (λ vs. o_bind S low (o_single S low Z needs.Consumed e vs) (λ v. o_then S low (o_suits S low e (first_type sc.results) v) (λ u. o_back S low (v ∷ []) (λ c h. h)))))

mutual
  pub s_stmt : (st : Statement) (S : InstanceKey → Signature → Type 0) (low : ℕ) (sc : Scope) → ((k : InstanceKey) (s : Signature) → S k s → ProperFor sc.before k s) → Ensures S (Sole low Z) (stmt st sc) (λ u. Sole low Z)
  s_stmt (assign w e s) S low sc proper = o_then S low (s_count S low) (λ u. s_to S low sc proper w e s)
  s_stmt (spread xs e s) S low sc proper = o_then S low (s_count S low) (λ u. o_bind S low (o_expr S low e Z sc proper needs.Consumed []) (λ vs. s_assigned S low sc s xs vs))
  s_stmt (update w op e s) S low sc proper = o_then S low (s_count S low) (λ u. s_update S low sc proper w op e s)
  s_stmt (forget x s) S low sc proper = o_then S low (s_count S low) (λ u. s_forget S low sc x s)
  s_stmt (forget_value x e s) S low sc proper = o_then S low (s_count S low) (λ u. s_forget_value S low sc proper x e s)
  s_stmt (phase e s) S low sc proper = o_then S low (s_count S low) (λ u. s_phase S low sc e s)
  s_stmt (return_nothing s) S low sc proper = o_then S low (s_count S low) (λ u. o_fail S low _)
  s_stmt (return_value e s) S low sc proper = o_then S low (s_count S low) (λ u. o_then S low (s_returned S low sc proper e) (λ u'. o_fail S low _))
  s_stmt (call e s) S low sc proper = o_then S low (s_count S low) (λ u. o_bind S low (o_expr S low e Z sc proper needs.Consumed []) (λ vs. o_more S low (o_rules S low s _) (λ u' c h. dropped S low Z (λ p. owned p vs) c h.1)))
  s_stmt (choice e (block ss end) other s) S low sc proper =
      o_then S low (s_count S low) (λ u. o_if S low (is_static sc.statics e)
      (λ x. o_bind S low (o_result S low (needed_at sc.statics e (at e))) (λ z. o_from S low (λ c h. h.1) (s_chosen S low z _ _ (s_plain S low (stmts ss sc) end (s_stmts ss S low sc proper)) (s_plain S low (otherwise other sc) (otherwise_end other) (s_otherwise other S low sc proper)))))
      (λ x. o_bind S low (s_condition S low sc proper e) (λ ps. s_both S low (branch (stmts ss (under sc ps)) end) (branch (otherwise other (under sc ps)) (otherwise_end other))
      (λ l. s_branch S l (stmts ss (under sc ps)) end (s_stmts ss S l (under sc ps) proper))
      (λ l. s_branch S l (otherwise other (under sc ps)) (otherwise_end other) (s_otherwise other S l (under sc ps) proper)))))
  s_stmt (loop x low_ high (block ss end) s) S low sc proper =
      o_then S low (s_count S low) (λ u. o_bind S low (o_needed S low sc low_) (λ a. o_bind S low (o_needed S low sc high) (λ b. o_bind S low (o_variables S low) (λ vars. o_then S low (o_rules S low s _) (λ u'.
      o_from S low (λ c h. h.1.1) (s_rounds S low (λ v. plain_block (stmts ss (with_static sc x v)) end) (λ v. s_plain S low (stmts ss (with_static sc x v)) end (s_stmts ss S low (with_static sc x v) proper)) a (distance (b -ℤ a))))))))

  pub s_otherwise : (other : Otherwise) (S : InstanceKey → Signature → Type 0) (low : ℕ) (sc : Scope) → ((k : InstanceKey) (s : Signature) → S k s → ProperFor sc.before k s) → Ensures S (Sole low Z) (otherwise other sc) (λ u. Sole low Z)
  s_otherwise (else_block (block ss end)) S low sc proper = s_stmts ss S low sc proper
  s_otherwise (else_choice st) S low sc proper = s_stmt st S low sc proper

  pub s_stmts : (ss : Statements) (S : InstanceKey → Signature → Type 0) (low : ℕ) (sc : Scope) → ((k : InstanceKey) (s : Signature) → S k s → ProperFor sc.before k s) → Ensures S (Sole low Z) (stmts ss sc) (λ u. Sole low Z)
  s_stmts done S low sc proper = o_back S low tt (λ c h. h)
  s_stmts (next st rest) S low sc proper = o_then S low (s_stmt st S low sc proper) (λ u. s_stmts rest S low sc proper)
