-- Phases, and calls as statements.
use Rattle.std.proofs.Common.{◌≡◌, ℕ, ◌<◌, ◌-◌, ◌%◌, Bool, true, false, cond, not, List, [], ◌∷◌, ◌++◌, reverse, refl, sym, ap, ◌∙◌, subst, arith, mod-lt}
use Rattle.std.specs.Prelude.{Result, Ok, Err, ℤ, pos}
use Rattle.std.specs.Ordering.{int_eq}
use Rattle.silq_tree.specs.declared.node.NameId.{NameId}
use Rattle.silq_tree.specs.declared.node.Spot.{Spot}
use Rattle.silq_tree.specs.Syntax.{Expression, phase, call}
use Rattle.static_num.specs.Static.{value, is_static}
use Rattle.static_num.specs.Angle.{turned, eighths, number_eighths, or_fault, fraction, is_turn, angle_of}
use Rattle.static_num.specs.declared.values.StaticFault.{StaticFault}
use Rattle.static_num.specs.declared.values.StaticFault.TheVariants.{NotStatic}
use Rattle.static_num.specs.declared.angles.AngleFault.{AngleFault}
use Rattle.static_num.specs.declared.angles.AngleFault.TheVariants as angles
use Rattle.static_num.specs.declared.fraction.Fraction.{Fraction}
use Rattle.silq_types.specs.declared.types.Ty.{Ty}
use Rattle.silq_types.specs.Types.{at}
use Rattle.silq_types.specs.Rules.{result_count}
use Rattle.silq_types.specs.declared.need.Need.TheVariants as needs
use Rattle.silq_types.specs.declared.values.Value.{Value}
use Rattle.check_scope.specs.Context.{Scope, Context, ◌>>=◌, rules}
use Rattle.check_scope.specs.Uses.{uses}
use Rattle.check_expr.specs.Owners.{Ensures}
use Rattle.check_expr.specs.Expression.{is_tuple, expr}
use Rattle.check_expr.proofs.Owners.{gives-more, o_bind, o_then, o_more, o_back, o_fail, o_names, o_rules}
use Rattle.check_fun.specs.Statement.{phase_of, angle_rule}
use Rattle.silq_mean.specs.declared.receiver.Receiver.{Receiver}
use Rattle.silq_mean.specs.Written.{is_empty}
use Rattle.silq_mean.specs.Effect.{step, turn_all}
use Rattle.silq_mean.specs.Meaning as meanings
use Rattle.bit_arith.specs.Built.{Built}
use Rattle.bit_arith.specs.Rows.{turn}
use Rattle.bit_arith.specs.Calls.{no_target}
use Rattle.flat_form.specs.declared.known.Known.{Known}
use Rattle.flat_form.specs.State.{Flattening, wires_so_far}
use Rattle.flat_form.specs.Flat.{flat}
use Rattle.flat_form.specs.Shows.{ListBoth}
use Rattle.flat_form.specs.Names.{AllOf}
use Rattle.flat_typed.specs.Places.{Places}
use Rattle.flat_typed.specs.Footprint.{used_wires, consumed_wires}
use Rattle.flat_typed.specs.Relation.{Outside, FitsPart, IsAnswer}
use Rattle.flat_typed.specs.Done.{StmtBegins, StmtDone, ExprDone, changeable}
use Rattle.flat_typed.specs.Scopes.{as_meaning}
use Rattle.flat_typed.specs.Uses.{IsThere}
use Rattle.flat_typed.specs.Lemmas.{Callable, StatementIsFine, ExpressionIsFine}
use Rattle.flat_typed.proofs.Ordered.{clash}
use Rattle.flat_typed.proofs.Growing.{stands_grown, touches_more}
use Rattle.flat_typed.proofs.Flipping.{Flips, flips_turn}
use Rattle.flat_typed.proofs.Touching.{flips_touch, flips_stay_plain, flips_plain}
use Rattle.flat_typed.proofs.Tame.{AllLeft}
use Rattle.flat_typed.proofs.Turns.{Does, line_fine, places_made}
use Rattle.flat_typed.proofs.Reached.{Reached, reached_here, whole_left, made_left, consumed_touches}

-- ---- eighths of a turn

or_below : (t : Bool) (k : ℕ) → k < 8 → meanings.or_none (cond t (Ok k) (Err angles.NotEighth)) < 8
or_below true k lt = lt
or_below false k lt = omega arith

turned_below : (negative : Bool) (n : ℕ) → turned negative n < 8
turned_below false n = mod-lt n {m = 8} (omega arith)
turned_below true n = mod-lt (8 - n % 8) {m = 8} (omega arith)

number_below : (r : Result ℤ StaticFault) → meanings.or_none (or_fault r number_eighths) < 8
number_below (Ok z) = or_below (int_eq z (pos 0)) 0 (omega arith)
number_below (Err f) = omega arith

fraction_below : (r : Result Fraction StaticFault) → meanings.or_none (or_fault r eighths) < 8
fraction_below (Ok f) = or_below _ _ (turned_below f.negative _)
fraction_below (Err f) = omega arith

pub below_eight : (statics : List (NameId × ℤ)) (e : Expression) → meanings.eighths statics e < 8
below_eight statics e = go (is_static statics e) (is_turn statics e)
  where
    go : (t u : Bool) → meanings.or_none (cond t (or_fault (value statics e) number_eighths) (cond u (or_fault (fraction statics e) eighths) (Err (angles.Static NotStatic)))) < 8
    go true u = number_below (value statics e)
    go false true = fraction_below (fraction statics e)
    go false false = omega arith

-- ---- a phase

phase_done : (out : Outside) (sc : Scope) (low : ℕ) (W : Places) (c : Context) (st : Flattening) (k : ℕ) → k < 8 → StmtBegins out sc low (λ p. 0) W c st → StmtDone out sc (step (turn_all k)) W c st c
phase_done out sc low W c st k lt b = record {
  fine = lt;
  after = W;
  agree = λ p l. refl;
  stands = stands_grown out sc.held W [] c st after (flips_plain no_target (wires_so_far st) st.built after b.good.fresh f) b.stands;
  whole = b.whole;
  made = places_made (wires_so_far st) c.next W c.vars (λ p le. let a = b.sole.ahead p le in omega (arith, a));
  none = b.none;
  leaves = record { setting = refl; callers = refl; blocks = refl; names = refl };
  touches = touches_more no_target (changeable out W c.vars []) st.built.draft after.draft (flips_touch no_target st.built after f) (λ w l t. refl);
  plain = λ q. flips_stay_plain no_target (wires_so_far st) st.built after f;
  unmade = λ w le. f.measured w ∙ b.unmade w (let g = f.few in omega (arith, g, le));
}
  where
    after : Built
    after = turn st.setting k [] st.built

    f : Flips no_target (wires_so_far st) st.built after
    f = flips_turn no_target (wires_so_far st) st.setting k [] st.built (omega arith)

angle_runs : (sc : Scope) {P : Context → Type 0} (s : Spot) (r : Result ℕ AngleFault) → Ensures (Callable sc) P (angle_rule s r) (λ u. P)
angle_runs sc s (Ok k) = o_back (Callable sc) 0 tt (λ c h. h)
angle_runs sc s (Err angles.NotEighth) = o_fail (Callable sc) 0 _
angle_runs sc s (Err (angles.Static f)) = o_fail (Callable sc) 0 _

phase_runs : (sc : Scope) (e : Expression) (s : Spot) {P : Context → Type 0} → Ensures (Callable sc) P (phase_of sc e s) (λ u. P)
phase_runs sc e s = o_then (Callable sc) 0 (o_names (Callable sc) 0 sc e) (λ u. o_then (Callable sc) 0 (angle_runs sc (at e) (angle_of sc.statics e)) (λ u'. o_more (Callable sc) 0 (o_rules (Callable sc) 0 s _) (λ u'' d h. h.1)))

pub phase_is_fine : (e : Expression) (s : Spot) → StatementIsFine (phase e s)
phase_is_fine e s sc taker c free =
    line_fine sc c (phase_of sc e s) (step (turn_all (meanings.eighths sc.statics e))) s.line
    (gives-more (Callable sc) 0 (λ r. r.1 ≡ c) (λ r. Does sc c (step (turn_all (meanings.eighths sc.statics e))) r.1) (phase_of sc e s c)
    ((phase_runs sc e s {P = λ d. d ≡ c}).runs c refl)
    (λ r q out low W st b. subst (StmtDone out sc (step (turn_all (meanings.eighths sc.statics e))) W c st) (sym q) (phase_done out sc low W c st (meanings.eighths sc.statics e) (below_eight sc.statics e) b)))

-- ---- a call

none_answered : (Q : Value → Known → Type 0) (ks : List Known) → ListBoth Q [] ks → ks ≡ []
none_answered Q [] h = refl
none_answered Q (k ∷ ks) h = absurd h

-- an expression that gives no value, as a statement
effect_done : (e : Expression) (out : Outside) (sc : Scope) (taker : Ty → Receiver) (low : ℕ) (W : Places) (c d : Context) (st : Flattening) → Reached sc taker needs.Consumed e c [] d → StmtBegins out sc low (λ p. 0) W c st
    → StmtDone out sc (meanings.expr e (as_meaning taker sc) needs.Consumed) W c st d
effect_done e out sc taker low W c d st r b = record {
  fine = h.fine;
  after = h.after;
  agree = h.agree;
  stands = h.stands;
  whole = whole_left c.vars d.vars t.1.0 b.whole;
  made = made_left (wires_so_far st) c.next h.after c.vars d.vars t.1.0 (λ p le. let a = b.sole.ahead p le in omega (arith, a));
  none = h.values ∙ (ap (λ l. reverse l ++ st.values) (none_answered (IsAnswer h.after needs.Consumed (used_wires W c.vars (uses e sc c.vars needs.Consumed)) (consumed_wires W c.vars (uses e sc c.vars needs.Consumed)) (wires_so_far st) c.next) h.answers h.each) ∙ b.none);
  leaves = h.leaves;
  touches = consumed_touches out sc low W c st (uses e sc c.vars needs.Consumed) (flat (meanings.expr e (as_meaning taker sc) needs.Consumed) st) b t.0 h.touches;
  plain = h.plain;
  unmade = h.unmade;
}
  where
    h : ExprDone out sc needs.Consumed (meanings.expr e (as_meaning taker sc) needs.Consumed) W [] (uses e sc c.vars needs.Consumed) c st [] d
    h = r.does out low W st b

    t : AllOf (IsThere sc.held c.vars) (uses e sc c.vars needs.Consumed) × (AllLeft c.vars d.vars × AllOf (FitsPart W d.vars) d.vars)
    t = r.told W b.stands.parts

pub call_is_fine : (e : Expression) (s : Spot) → ExpressionIsFine e → is_tuple e ≡ false → StatementIsFine (call e s)
call_is_fine e s fine t sc taker c free =
    line_fine sc c (expr e sc needs.Consumed [] >>= (λ vs. rules s ((not (is_empty vs), result_count) ∷ []))) (meanings.expr e (as_meaning taker sc) needs.Consumed) s.line
    ((o_bind (Callable sc) 0 (reached_here e fine sc taker needs.Consumed [] c free) (λ vs. o_more (Callable sc) 0 (o_rules (Callable sc) 0 s _) (λ u d h. ends vs d h.0.0 (h.1 t)))).runs c refl)
  where
    ends : (vs : List Value) (d : Context) → not (is_empty vs) ≡ false → Reached sc taker needs.Consumed e c vs d → Does sc c (meanings.expr e (as_meaning taker sc) needs.Consumed) d
    ends [] d n r = λ out low W st b. effect_done e out sc taker low W c d st r b
    ends (v ∷ vs) d n r = clash n
