-- The walk of a call of a built-in function with one argument.
use Rattle.std.proofs.Common.{◌≡◌, ◌⊎◌, ℕ, suc, ◌+◌, Bool, true, false, not, ◌&&◌, List, [], ◌∷◌, ◌++◌, refl, sym, ap, ◌∙◌, subst, arith}
use Rattle.std.specs.Prelude.{◌==◌}
use Rattle.std.proofs.lemmas.Bool.{eqb-true}
use Rattle.std.proofs.lemmas.List.{append-nil}
use Rattle.silq_tree.specs.declared.node.Spot.{Spot}
use Rattle.silq_tree.specs.Syntax.{Expression, Expressions, none, more}
use Rattle.silq_types.specs.declared.built_in.BuiltIn.{BuiltIn}
use Rattle.silq_types.specs.declared.built_in.BuiltIn.TheVariants.{HGate, XGate, YGate, ZGate, Dup, Measure}
use Rattle.silq_types.specs.declared.types.Ty.{Ty}
use Rattle.silq_types.specs.declared.values.Origin.{Origin}
use Rattle.silq_types.specs.declared.values.Origin.TheVariants.{Lifted, Classical}
use Rattle.silq_types.specs.declared.values.Value.{Value}
use Rattle.silq_types.specs.declared.signature.InstanceKey.{InstanceKey}
use Rattle.silq_types.specs.declared.signature.Signature.{Signature}
use Rattle.silq_types.specs.Types.{is_linear, is_bit, quantum, count}
use Rattle.silq_types.specs.declared.need.Need.{Need}
use Rattle.silq_types.specs.declared.need.Need.TheVariants as needs
use Rattle.silq_types.specs.Calls.{is_consumed, needs_of_built_in}
use Rattle.check_scope.specs.declared.uses.Use.{Use}
use Rattle.check_scope.specs.Context.{Scope, Context}
use Rattle.check_scope.specs.Uses.{uses, all_uses}
use Rattle.check_expr.specs.Expression.{first_asked, is_qfree, is_unmarked, is_run_time, may_hold, measures, gate_origin, one_value, flip_value, gate_value, gate_values, asked_by_built_in, built_in_rules, call_gate, arguments}
use Rattle.check_expr.specs.Owners.{Ensures}
use Rattle.check_expr.proofs.Owners.{o_bind, o_then, o_back, o_more, o_fail, o_rules}
use Rattle.silq_mean.specs.declared.receiver.Receiver.{Receiver}
use Rattle.silq_mean.specs.Effect.{Effect, nothing, ◌>>◌ as ◌▸◌}
use Rattle.silq_mean.specs.Meaning as meanings
use Rattle.check_scope.specs.Context.{◌>>=◌, ◌>>◌}
use Rattle.flat_typed.specs.Scopes.{as_meaning, NoStatics}
use Rattle.flat_typed.specs.Lemmas.{Callable, ExpressionIsFine, EachIsFine}
use Rattle.flat_typed.proofs.Ordered.{clash}
use Rattle.flat_typed.proofs.OneArgument.{Tells, Walked, Argument, argument_walked}
use Rattle.flat_typed.proofs.GateCalls.{x_called, y_called, z_called, h_called, measure_called, dup_called, not_false, and_second}

-- ---- what the rules before the walk tell

pub record Allowed (sc : Scope) (b : BuiltIn) (ss args : Expressions) (arity : ℕ) : Type 0 where
  pub held : may_hold sc.this.mark b ≡ true
  pub outside : (measures b && is_run_time sc) ≡ false
  pub no_statics : count ss ≡ 0
  pub arguments : count args ≡ arity

pub allowed : (S : InstanceKey → Signature → Type 0) {P : Context → Type 0} (sc : Scope) (b : BuiltIn) (ss args : Expressions) (arity : ℕ) (s : Spot) → Ensures S P (built_in_rules sc b ss args arity s) (λ u d. Allowed sc b ss args arity × P d)
allowed S sc b ss args arity s = o_more S 0 (o_rules S 0 s _) (λ u d h. (
  record {
    held = not_false (may_hold sc.this.mark b) h.0.0;
    outside = h.0.1.0;
    no_statics = eqb-true (count ss) 0 (not_false (count ss == 0) h.0.1.1.0);
    arguments = eqb-true (count args) arity (not_false (count args == arity) h.0.1.1.1.0);
  },
  h.1,
))

-- what a new value is
pub record NewOne (t : Ty) (o : Origin) (d : Context) (vs : List Value) (f : Context) : Type 0 where
  pub values : vs ≡ record { ty = t; origin = o; place = d.next } ∷ []
  pub left : f ≡ record d { next = suc d.next }

pub one_new : (S : InstanceKey → Signature → Type 0) {P : Context → Type 0} (t : Ty) (o : Origin) → Ensures S P (one_value t o) (λ vs f. (d : Context) × P d × NewOne t o d vs f)
unfolding ◌>>=◌
one_new S t o = record { runs = λ d p. (d, p, record { values = refl; left = refl }) }

-- ---- one argument

module _ (sc : Scope) (taker : Ty → Receiver) (need : Need) (wants : List Ty) (c : Context) (s : Spot) where
  abbrev pub CallTells : BuiltIn → Expressions → Expressions → List Value → Context → Type 0
  CallTells b ss args vs d = Tells sc need wants (meanings.exprs args (as_meaning taker sc) needs.Held (needs_of_built_in b) [] ▸ meanings.gate b) (all_uses ss sc c.vars [] ++ all_uses args sc c.vars (needs_of_built_in b)) c vs d

  -- without static arguments
  pub no_more_statics : (b : BuiltIn) (ss args : Expressions) (vs : List Value) (d : Context) → count ss ≡ 0 → CallTells b none args vs d → CallTells b ss args vs d
  no_more_statics b none args vs d e h = h
  no_more_statics b (more x xs) args vs d e h = absurd (omega (arith, e))

  -- the uses of one argument
  pub one_argument : (us : List Use) (f : Effect) (vs : List Value) (d : Context) → Tells sc need wants f us c vs d → Tells sc need wants f (us ++ []) c vs d
  one_argument us f vs d h = subst (λ l. Tells sc need wants f l c vs d) (sym (append-nil us)) h

  module _ (e : Expression) where
    the_walked : (n : Need) (v : Value) (d : Context) → Argument sc taker n e c (v ∷ []) d → Walked sc taker n e c (v ∷ []) d
    the_walked n v d a = subst (λ l. Walked sc taker n e c l d) (sym a.all) a.walked

    -- `X`, `Y`, `Z`, `H` with a consumed argument
    flips : (b : BuiltIn) (v : Value) → ((d : Context) → Walked sc taker needs.Consumed e c (v ∷ []) d → is_bit v.ty.shape ≡ true → (is_consumed need ≡ false → is_linear (gate_origin b v.origin) ≡ false) → CallTells b none (more e none) (record { ty = quantum v.ty.shape; origin = gate_origin b v.origin; place = v.place } ∷ []) d)
        → Ensures (Callable sc) (λ d. Argument sc taker needs.Consumed e c (v ∷ []) d) (flip_value b s need v) (λ vs d. CallTells b none (more e none) vs d)
    flips b v f =
        o_then (Callable sc) 0 (o_rules (Callable sc) 0 s _) (λ u. o_then (Callable sc) 0 (o_rules (Callable sc) 0 s _) (λ u'.
        o_back (Callable sc) 0 _ (λ d h. f d (the_walked needs.Consumed v d h.1.1) (not_false (is_bit v.ty.shape) h.1.0.0) (and_second (is_consumed need) (is_linear (gate_origin b v.origin)) h.0.0))))

    abbrev us : List Use
    us = uses e sc c.vars needs.Consumed

    x_walk : (v : Value) → Ensures (Callable sc) (λ d. Argument sc taker needs.Consumed e c (v ∷ []) d) (gate_values XGate s need (v ∷ [])) (λ vs d. CallTells XGate none (more e none) vs d)
    x_walk v = flips XGate v (λ d w bit named. one_argument us _ _ d (x_called e sc taker need wants c v d w bit named))

    y_walk : (v : Value) → Ensures (Callable sc) (λ d. Argument sc taker needs.Consumed e c (v ∷ []) d) (gate_values YGate s need (v ∷ [])) (λ vs d. CallTells YGate none (more e none) vs d)
    y_walk v = flips YGate v (λ d w bit named. one_argument us _ _ d (y_called e sc taker need wants c v d w bit named))

    z_walk : (v : Value) → Ensures (Callable sc) (λ d. Argument sc taker needs.Consumed e c (v ∷ []) d) (gate_values ZGate s need (v ∷ [])) (λ vs d. CallTells ZGate none (more e none) vs d)
    z_walk v = flips ZGate v (λ d w bit named. one_argument us _ _ d (z_called e sc taker need wants c v d w bit named))

    h_walk : may_hold sc.this.mark HGate ≡ true → (v : Value) → Ensures (Callable sc) (λ d. Argument sc taker needs.Consumed e c (v ∷ []) d) (gate_values HGate s need (v ∷ [])) (λ vs d. CallTells HGate none (more e none) vs d)
    h_walk m v = flips HGate v (λ d w bit named. one_argument us _ _ d (h_called e sc taker need wants c v d w bit named (impure (is_qfree sc.this.mark) m)))
      where
        impure : (q : Bool) → not q ≡ true → q ≡ false
        impure true e = clash (sym e)
        impure false e = refl

    measure_walk : may_hold sc.this.mark Measure ≡ true → is_run_time sc ≡ false → (v : Value) → Ensures (Callable sc) (λ d. Argument sc taker needs.Consumed e c (v ∷ []) d) (gate_values Measure s need (v ∷ [])) (λ vs d. CallTells Measure none (more e none) vs d)
    measure_walk m r v = o_more (Callable sc) 0 (one_new (Callable sc) (record { classical = true; shape = v.ty.shape }) Classical) (λ vs f h.
        subst (λ l. CallTells Measure none (more e none) l f) (sym h.2.values) (subst (λ g. CallTells Measure none (more e none) (record { ty = record { classical = true; shape = v.ty.shape }; origin = Classical; place = h.0.next } ∷ []) g) (sym h.2.left)
        (one_argument us _ _ _ (measure_called e sc taker need wants c v h.0 (the_walked needs.Consumed v h.0 h.1) m r))))

    dup_walk : (v : Value) → Ensures (Callable sc) (λ d. Argument sc taker needs.Held e c (v ∷ []) d) (gate_values Dup s need (v ∷ [])) (λ vs d. CallTells Dup none (more e none) vs d)
    dup_walk v = o_more (Callable sc) 0 (one_new (Callable sc) (quantum v.ty.shape) Lifted) (λ vs f h.
        subst (λ l. CallTells Dup none (more e none) l f) (sym h.2.values) (subst (λ g. CallTells Dup none (more e none) (record { ty = quantum v.ty.shape; origin = Lifted; place = h.0.next } ∷ []) g) (sym h.2.left)
        (one_argument (uses e sc c.vars needs.Held) _ _ _ (dup_called e sc taker need wants c v h.0 (the_walked needs.Held v h.0 h.1)))))

    values_walk : (b : BuiltIn) (n : Need) → ((v : Value) → Ensures (Callable sc) (λ d. Argument sc taker n e c (v ∷ []) d) (gate_values b s need (v ∷ [])) (λ vs d. CallTells b none (more e none) vs d))
        → (vs : List Value) → Ensures (Callable sc) (λ d. Argument sc taker n e c vs d) (gate_values b s need vs) (λ vs d. CallTells b none (more e none) vs d)
    values_walk b n f [] = o_fail (Callable sc) 0 _
    values_walk b n f (v ∷ []) = f v
    values_walk b n f (v ∷ (w ∷ vs)) = o_fail (Callable sc) 0 _

  -- each of these calls has one argument
  gate_walk : (b : BuiltIn) (n : Need) → first_asked needs.Held (asked_by_built_in b) ≡ record { need = n; wants = [] } → ((e : Expression) → may_hold sc.this.mark b ≡ true → (measures b && is_run_time sc) ≡ false → (v : Value) → Ensures (Callable sc) (λ d. Argument sc taker n e c (v ∷ []) d) (gate_values b s need (v ∷ [])) (λ vs d. CallTells b none (more e none) vs d))
      → (ss args : Expressions) → EachIsFine args → NoStatics sc c.vars → Ensures (Callable sc) (λ d. d ≡ c) (call_gate sc b ss args s need (λ l. arguments args sc needs.Held l)) (λ vs d. CallTells b ss args vs d)
  gate_walk b n asked f ss args fine free = o_then (Callable sc) 0 (allowed (Callable sc) sc b ss args 1 s) (λ u. record { runs = λ d h. (rest args fine h.0).runs d h.1 })
    where
      rest : (args : Expressions) → EachIsFine args → Allowed sc b ss args 1 → Ensures (Callable sc) (λ d. d ≡ c) (arguments args sc needs.Held (asked_by_built_in b) >>= (λ vs. gate_values b s need vs)) (λ vs d. CallTells b ss args vs d)
      rest none fine a = absurd (let e = a.arguments in omega (arith, e))
      rest (more e (more g es)) fine a = absurd (let e = a.arguments in omega (arith, e))
      rest (more e none) fine a =
          o_bind (Callable sc) 0 (argument_walked e fine.0 sc taker c free n (asked_by_built_in b) asked) (λ vs.
          o_more (Callable sc) 0 (values_walk e b n (f e a.held a.outside) vs) (λ zs d h. no_more_statics b ss (more e none) zs d a.no_statics h))

  pub x_call : (ss args : Expressions) → EachIsFine args → NoStatics sc c.vars → Ensures (Callable sc) (λ d. d ≡ c) (call_gate sc XGate ss args s need (λ l. arguments args sc needs.Held l)) (λ vs d. CallTells XGate ss args vs d)
  x_call ss args fine free = gate_walk XGate needs.Consumed refl (λ e m r v. x_walk e v) ss args fine free

  pub y_call : (ss args : Expressions) → EachIsFine args → NoStatics sc c.vars → Ensures (Callable sc) (λ d. d ≡ c) (call_gate sc YGate ss args s need (λ l. arguments args sc needs.Held l)) (λ vs d. CallTells YGate ss args vs d)
  y_call ss args fine free = gate_walk YGate needs.Consumed refl (λ e m r v. y_walk e v) ss args fine free

  pub z_call : (ss args : Expressions) → EachIsFine args → NoStatics sc c.vars → Ensures (Callable sc) (λ d. d ≡ c) (call_gate sc ZGate ss args s need (λ l. arguments args sc needs.Held l)) (λ vs d. CallTells ZGate ss args vs d)
  z_call ss args fine free = gate_walk ZGate needs.Consumed refl (λ e m r v. z_walk e v) ss args fine free

  pub h_call : (ss args : Expressions) → EachIsFine args → NoStatics sc c.vars → Ensures (Callable sc) (λ d. d ≡ c) (call_gate sc HGate ss args s need (λ l. arguments args sc needs.Held l)) (λ vs d. CallTells HGate ss args vs d)
  h_call ss args fine free = gate_walk HGate needs.Consumed refl (λ e m r v. h_walk e m v) ss args fine free

  pub measure_call : (ss args : Expressions) → EachIsFine args → NoStatics sc c.vars → Ensures (Callable sc) (λ d. d ≡ c) (call_gate sc Measure ss args s need (λ l. arguments args sc needs.Held l)) (λ vs d. CallTells Measure ss args vs d)
  measure_call ss args fine free = gate_walk Measure needs.Consumed refl (λ e m r v. measure_walk e m r v) ss args fine free

  pub dup_call : (ss args : Expressions) → EachIsFine args → NoStatics sc c.vars → Ensures (Callable sc) (λ d. d ≡ c) (call_gate sc Dup ss args s need (λ l. arguments args sc needs.Held l)) (λ vs d. CallTells Dup ss args vs d)
  dup_call ss args fine free = gate_walk Dup needs.Held refl (λ e m r v. dup_walk e v) ss args fine free
