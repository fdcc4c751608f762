use Rattle.std.proofs.Common.{rules}
use mir.Val.{SFits}
use mir.Syntax.{w64}
use Rattle.std.proofs.lemmas.Int.{to_z-of_z}
use Rattle.check_expr.proofs.Called.{static_last, static_more, static_stops, natural_stops}
use Rattle.check_expr.proofs.Scopes.{if_err}
use Rattle.check_expr.proofs.own.static_arguments.Goals as goal

pub returns-in_err-value-clause-stops : goal.returns-in_err-value-clause-stops
returns-in_err-value-clause-stops c = λ met. if_err _ _ _ c.from_residual.ensures.1
    (static_stops met c.args.library.now c.args.cx.now _ _ _ _ _ c.loop-e-test.true (c.loop-e.invariant met) _ (c.in_err-value.ensures.stops met))

pub returns-in_err-natural-clause-stops : goal.returns-in_err-natural-clause-stops
returns-in_err-natural-clause-stops c = λ met. if_err _ _ _ c.from_residual-in_err-natural.ensures.1
    (natural_stops met c.args.library.now c.args.cx.now _ _ _ _ _ c.loop-e-test.true (c.loop-e.invariant met) _ _ (c.in_ok-value.ensures.reads met) (let f : SFits w64 c.in_ok-value.value = search rules in simp (to_z-of_z w64 c.in_ok-value.value f, c.spot_of.ensures) at (c.in_err-natural.ensures.stops met c.args.cx.now)))

pub loop-e-preserved : goal.loop-e-preserved
loop-e-preserved c = λ met. let f : SFits w64 c.in_ok-value.value = search rules in rw (c.in_ok-push.ensures.ok, to_z-of_z w64 c.in_ok-value.value f)
    (static_more met c.args.library.now c.args.cx.now _ _ _ _ _ c.loop-e-test.true (c.loop-e.invariant met) _ (c.in_ok-value.ensures.reads met) (let f : SFits w64 c.in_ok-value.value = search rules in simp (to_z-of_z w64 c.in_ok-value.value f, c.spot_of.ensures) at (c.in_ok-natural.ensures.reads met c.args.cx.now)))

pub returns-clause-reads : goal.returns-clause-reads
returns-clause-reads c = λ met. static_last met c.args.library.now c.args.cx.now _ _ _ _ c.loop-e-test.false (c.loop-e.invariant met)
