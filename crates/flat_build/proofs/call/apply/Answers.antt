use Rattle.std.proofs.Common.{IfErr, sym, subst}
use Rattle.silq_mean.specs.Effect.{step, flip_last, turn_by}
use Rattle.silq_mean.specs.Meaning.{gate}
use Rattle.bit_arith.specs.Calls.{Refused}
use Rattle.flat_form.specs.Flat.{flat}
use Rattle.flat_steps.specs.Ready.{Ready}
use Rattle.flat_build.proofs.Carrying.{ready_after}
use Rattle.tree_walk.proofs.Faults.{if_err_from}
use Rattle.flat_steps.proofs.Stays.{refused_first}
use Rattle.flat_build.proofs.call.apply.Goals as goal

pub returns-in_err-turn_by-in-YGate-clause-refused : goal.returns-in_err-turn_by-in-YGate-clause-refused
returns-in_err-turn_by-in-YGate-clause-refused c =
    subst (λ w. IfErr c.from_residual.result (λ f. Refused f (flat (gate w) c.args.state.now).built)) (sym c.in-YGate.is)
    (if_err_from _ _ _ c.from_residual.ensures.1 (refused_first _ (step (turn_by 6 2)) (step flip_last) c.args.state.now c.in_err-turn_by-in-YGate.ensures.refused))

pub flip_last-requires-in-YGate : goal.flip_last-requires-in-YGate
flip_last-requires-in-YGate c = ready_after (step (turn_by 6 2)) (step flip_last) c.args.state.now _ c.in_ok-turn_by-in-YGate.ensures.ok (subst (λ w. Ready (gate w) c.args.state.now) c.in-YGate.is c.requires)
