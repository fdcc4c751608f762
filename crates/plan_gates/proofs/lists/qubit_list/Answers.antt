-- One more wire adds its qubit.
use Rattle.std.proofs.Common.{Some, ◌<◌, sym, ◌∙◌, ap, subst}
use Rattle.std.specs.Option.{option_copied}
use Rattle.qubit_alloc.specs.State.{qubit_told}
use Rattle.plan_gates.proofs.Told.{one_told}
use Rattle.plan_gates.proofs.lists.qubit_list.Goals as goal

pub loop-i-preserved : goal.loop-i-preserved
loop-i-preserved c = one_told (qubit_told c.args.placer.now) Some c.args.wires.now c.loop-i.told c.push.new.self c.loop-i.i _ _
    (subst (λ n. c.loop-i.i < n) c.len-i-end.ensures c.loop-i-test.true)
    (sym c.get.ensures ∙ ap option_copied c.unwrap-wire.ensures)
    c.loop-i.invariant
    (sym c.unwrap-qubit.ensures ∙ c.qubit.ensures)
    c.in_ok-push.ensures.ok
