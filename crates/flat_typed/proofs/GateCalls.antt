-- Calls of gates, `dup` and `measure`: one argument, and what the gate makes of its value.
use Rattle.std.proofs.Common.{◌≡◌, ◌⊎◌, inl, inr, ℕ, suc, ◌+◌, ◌≤◌, Bool, true, false, cond, not, ◌&&◌, List, [], ◌∷◌, ◌++◌, refl, sym, ap, ◌∙◌, subst, arith}
use Rattle.std.specs.Prelude.{None, ◌==◌}
use Rattle.std.proofs.lemmas.List.{append-nil}
use Rattle.silq_tree.specs.declared.node.Mark.{Mark}
use Rattle.silq_tree.specs.declared.node.Mark.TheVariants as marks
use Rattle.silq_tree.specs.declared.node.Spot.{Spot}
use Rattle.silq_tree.specs.Syntax.{Expression, Expressions, none, more}
use Rattle.silq_types.specs.declared.built_in.BuiltIn.{BuiltIn}
use Rattle.silq_types.specs.declared.built_in.BuiltIn.TheVariants.{HGate, XGate, YGate, ZGate, Dup, Measure, Vector, RotateX, RotateY, RotateZ}
use Rattle.silq_types.specs.declared.types.Ty.{Ty}
use Rattle.silq_types.specs.declared.values.Origin.{Origin}
use Rattle.silq_types.specs.declared.values.Origin.TheVariants.{Lifted, Linear, Classical, Held}
use Rattle.silq_types.specs.declared.values.Value.{Value}
use Rattle.silq_types.specs.Types.{is_linear, is_held, is_bit, quantum, count}
use Rattle.silq_types.specs.declared.need.Need.{Need}
use Rattle.silq_types.specs.declared.need.Need.TheVariants as needs
use Rattle.silq_types.specs.Calls.{is_consumed, needs_of_built_in}
use Rattle.check_scope.specs.declared.uses.Use.{Use}
use Rattle.check_scope.specs.Context.{Scope, Context, Check, rules}
use Rattle.check_scope.specs.Uses.{uses, all_uses}
use Rattle.check_expr.specs.Expression.{Asked, is_qfree, is_unmarked, is_run_time, may_hold, measures, flipped_origin, gate_origin, flip_value, gate_value, gate_values, asked_by_built_in, call_gate, arguments}
use Rattle.check_expr.specs.Owners.{owners, owned, handed, Ensures}
use Rattle.check_expr.proofs.Owners.{o_bind, o_then, o_back, o_more, o_from, o_fail, o_rules}
use Rattle.silq_mean.specs.declared.receiver.Receiver.{Receiver}
use Rattle.silq_mean.specs.Effect.{Effect, nothing, ◌>>◌ as ◌▸◌, step, mix, measure, copy_last, flip_last, turn_by}
use Rattle.silq_mean.specs.Meaning as meanings
use Rattle.flat_core.specs.declared.step.WireId.{WireId}
use Rattle.bit_arith.specs.Built.{Built, Setting}
use Rattle.bit_arith.specs.Rows.{flip, had}
use Rattle.flat_form.specs.State.{Flattening}
use Rattle.flat_form.specs.Flat.{flat, on_last_wire, turn_both}
use Rattle.flat_form.specs.Fine.{Fine, MayTurn}
use Rattle.flat_typed.specs.Places.{Places}
use Rattle.flat_typed.specs.Relation.{Outside}
use Rattle.flat_typed.specs.Scopes.{as_meaning, NoStatics}
use Rattle.flat_typed.specs.Done.{Begins, ExprTells}
use Rattle.flat_typed.specs.Lemmas.{Callable, ExpressionIsFine}
use Rattle.flat_typed.proofs.Ordered.{clash}
use Rattle.flat_typed.proofs.Given.{with_nothing}
use Rattle.flat_typed.proofs.GateRows.{IsGate, IsPlainGate, flip_gate, flip_plain, turn_gate, turn_plain, had_gate}
use Rattle.flat_typed.proofs.Gates.{IsTurned, gate_tells}
use Rattle.flat_typed.proofs.Copying.{dup_tells}
use Rattle.flat_typed.proofs.Measuring.{measure_tells}
use Rattle.flat_typed.proofs.Surrounding.{good_behind}
use Rattle.flat_typed.proofs.OneArgument.{Tells, Walked, Argument, argument_walked, no_owner, later_next}

-- ---- origins

flipped_unheld : (o : Origin) → is_held (flipped_origin o) ≡ false
flipped_unheld Lifted = refl
flipped_unheld Linear = refl
flipped_unheld Classical = refl
flipped_unheld Held = refl

flipped_linear : (o : Origin) → is_linear o ≡ true → is_linear (flipped_origin o) ≡ true
flipped_linear Lifted e = clash (sym e)
flipped_linear Linear e = refl
flipped_linear Classical e = clash (sym e)
flipped_linear Held e = clash (sym e)

pub not_false : (a : Bool) → not a ≡ false → a ≡ true
not_false true e = refl
not_false false e = clash e

pub and_second : (a b : Bool) → (not a && b) ≡ false → a ≡ false → b ≡ false
and_second true b e h = clash h
and_second false b e h = e

-- ---- one effect, differently grouped

regrouped : (sc : Scope) (need : Need) (wants : List Ty) (e f g : Effect) (us : List Use) (c : Context) (vs : List Value) (d : Context) → Tells sc need wants (e ▸ f ▸ g) us c vs d → Tells sc need wants (e ▸ (f ▸ g)) us c vs d
regrouped sc need wants e f g us c vs d h out low others W under s b =
    let t = h out low others W under s b in
    record {
      done = record {
        fine = (t.done.fine.0.0, (t.done.fine.0.1, t.done.fine.1));
        after = t.done.after;
        agree = t.done.agree;
        answers = t.done.answers;
        values = t.done.values;
        each = t.done.each;
        stands = t.done.stands;
        kinds_stay = t.done.kinds_stay;
        leaves = t.done.leaves;
        touches = t.done.touches;
        plain = t.done.plain;
        unmade = t.done.unmade;
      };
      sharing = t.sharing;
      typed = t.typed;
      untold = t.untold;
      several = t.several;
    }

-- ---- what each gate makes of the argument's value

module _ (e : Expression) (sc : Scope) (taker : Ty → Receiver) (need : Need) (wants : List Ty) (c : Context) (x : Value) (d : Context) where
  module _ (w : Walked sc taker needs.Consumed e c (x ∷ []) d) where
    abbrev E : Effect
    E = meanings.expr e (as_meaning taker sc) needs.Consumed ▸ nothing ▸ nothing

    abbrev us : List Use
    us = uses e sc c.vars needs.Consumed

    its_tells : Tells sc needs.Consumed [] E us c (x ∷ []) d
    its_tells out low others W under s b = with_nothing out sc needs.Consumed [] (meanings.expr e (as_meaning taker sc) needs.Consumed) W under us c s (x ∷ []) d (w.tells out low others W under s b)

    -- a gate behind an effect that gives x, or another value with its place
    pub gate_called : (need : Need) (wants : List Ty) (f : Effect) (y z : Value) → y.place ≡ x.place → Tells sc needs.Consumed [] f us c (y ∷ []) d → (G : Setting → WireId → Built → Built) → IsGate G → (st : Effect)
        → ((s1 : Flattening) → flat st s1 ≡ on_last_wire G s1) → ((s1 : Flattening) → MayTurn s1 → Fine st s1) → is_bit y.ty.shape ≡ true → IsTurned y z
        → (is_linear z.origin ≡ true) ⊎ IsPlainGate G → (is_consumed need ≡ false → is_linear z.origin ≡ false) → (is_qfree sc.this.mark ≡ true → IsPlainGate G)
        → Tells sc need wants (f ▸ st) us c (z ∷ []) d
    gate_called need wants f y z same t G g st acts fine bit turned how named pure out low others W under s b =
        let o = no_owner low others x d (w.sole low others b.sole) in
        gate_tells out sc low others W under us c s b need wants f y z d (t out low others W under s b) (w.told W b.stands.parts).1.0
        (ap (λ p. owners p d.vars) same ∙ o.0)
        (let a = b.counted y.place in let q = ap others same in let r = o.1 in omega (arith, a, q, r))
        G g st (acts (flat f s)) (fine (flat f s)) bit turned how named pure

    abbrev turned_to : Origin → Value
    turned_to o = record { ty = quantum x.ty.shape; origin = o; place = x.place }

    pub x_called : is_bit x.ty.shape ≡ true → (is_consumed need ≡ false → is_linear (flipped_origin x.origin) ≡ false) → Tells sc need wants (E ▸ step flip_last) us c (turned_to (flipped_origin x.origin) ∷ []) d
    x_called bit named =
        gate_called need wants E x (turned_to (flipped_origin x.origin)) refl its_tells (λ at w b. flip at w [] b) flip_gate (step flip_last) (λ s1. refl) (λ s1 m. m) bit
        (record { ty = refl; place = refl; unheld = flipped_unheld x.origin; linear = flipped_linear x.origin }) (inr flip_plain) named (λ q. flip_plain)

    pub z_called : is_bit x.ty.shape ≡ true → (is_consumed need ≡ false → true ≡ false) → Tells sc need wants (E ▸ step (turn_by 4 0)) us c (turned_to Linear ∷ []) d
    z_called bit named =
        gate_called need wants E x (turned_to Linear) refl its_tells (turn_both 4 0) (turn_gate 4 0) (step (turn_by 4 0)) (λ s1. refl) (λ s1 m. (m, omega arith, omega arith)) bit
        (record { ty = refl; place = refl; unheld = refl; linear = λ q. refl }) (inl refl) named (λ q. turn_plain 4 0)

    pub h_called : is_bit x.ty.shape ≡ true → (is_consumed need ≡ false → true ≡ false) → is_qfree sc.this.mark ≡ false → Tells sc need wants (E ▸ mix) us c (turned_to Linear ∷ []) d
    h_called bit named impure =
        gate_called need wants E x (turned_to Linear) refl its_tells had had_gate mix (λ s1. refl) (λ s1 m. m) bit
        (record { ty = refl; place = refl; unheld = refl; linear = λ q. refl }) (inl refl) named (λ q. clash (sym q ∙ impure))

    pub y_called : is_bit x.ty.shape ≡ true → (is_consumed need ≡ false → true ≡ false) → Tells sc need wants (E ▸ (step (turn_by 6 2) ▸ step flip_last)) us c (turned_to Linear ∷ []) d
    y_called bit named =
        regrouped sc need wants E (step (turn_by 6 2)) (step flip_last) us c (turned_to Linear ∷ []) d
        (gate_called need wants (E ▸ step (turn_by 6 2)) (turned_to Linear) (turned_to Linear) refl
        (gate_called needs.Consumed [] E x (turned_to Linear) refl its_tells (turn_both 6 2) (turn_gate 6 2) (step (turn_by 6 2)) (λ s1. refl) (λ s1 m. (m, omega arith, omega arith)) bit
        (record { ty = refl; place = refl; unheld = refl; linear = λ q. refl }) (inl refl) (λ q. clash q) (λ q. turn_plain 6 2))
        (λ at w b. flip at w [] b) flip_gate (step flip_last) (λ s1. refl) (λ s1 m. m) bit
        (record { ty = refl; place = refl; unheld = refl; linear = λ q. refl }) (inl refl) named (λ q. flip_plain))

    pub measure_called : is_unmarked sc.this.mark ≡ true → is_run_time sc ≡ false → Tells sc need wants (E ▸ measure) us c (record { ty = record { classical = true; shape = x.ty.shape }; origin = Classical; place = d.next } ∷ []) (record d { next = suc d.next })
    measure_called unmarked outside out low others W under s b =
        let t = its_tells out low others W under s b in
        let o = no_owner low others x d (w.sole low others b.sole) in
        measure_tells out sc low others W under us c s b need wants E x d t (w.told W b.stands.parts).1.0 o.0 (let a = b.counted x.place in let r = o.1 in omega (arith, a, r))
        (ap (λ (y : Setting). y.condition) t.done.leaves.setting ∙ b.open_air unmarked outside)
        (later_next low others c d (λ p. handed needs.Consumed p (x ∷ [])) b.sole w.sole)

  pub dup_called : Walked sc taker needs.Held e c (x ∷ []) d → Tells sc need wants (meanings.expr e (as_meaning taker sc) needs.Held ▸ nothing ▸ nothing ▸ step copy_last) (uses e sc c.vars needs.Held) c (record { ty = quantum x.ty.shape; origin = Lifted; place = d.next } ∷ []) (record d { next = suc d.next })
  dup_called w out low others W under s b =
      let t = with_nothing out sc needs.Held [] (meanings.expr e (as_meaning taker sc) needs.Held) W under (uses e sc c.vars needs.Held) c s (x ∷ []) d (w.tells out low others W under s b) in
      dup_tells out sc need wants (meanings.expr e (as_meaning taker sc) needs.Held ▸ nothing ▸ nothing) W under (uses e sc c.vars needs.Held) c s x d t
      (good_behind out sc low others W under (uses e sc c.vars needs.Held) c s b needs.Held (meanings.expr e (as_meaning taker sc) needs.Held ▸ nothing ▸ nothing) (x ∷ []) d t.done (w.told W b.stands.parts).1.0)
      (later_next low others c d (λ p. handed needs.Held p (x ∷ [])) b.sole w.sole)
