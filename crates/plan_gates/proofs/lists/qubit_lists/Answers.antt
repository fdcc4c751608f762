-- One more list adds its qubits.
use Rattle.std.proofs.Common.{Some, ◌<◌, map, sym, ◌∙◌, ap, subst}
use Rattle.std.specs.Option.{option_copied}
use Rattle.qubit_alloc.specs.State.{qubit_told}
use Rattle.plan_gates.proofs.Told.{one_told}
use Rattle.plan_gates.proofs.lists.qubit_lists.Goals as goal

pub loop-i-preserved : goal.loop-i-preserved
loop-i-preserved c = one_told (map (qubit_told c.args.placer.now)) (map Some) c.args.lists.now c.loop-i.told c.push.new.self c.loop-i.i _ _
    (subst (λ n. c.loop-i.i < n) c.len-i-end.ensures c.loop-i-test.true)
    (sym c.get.ensures ∙ ap option_copied c.unwrap-wires.ensures)
    c.loop-i.invariant
    c.in_ok-qubits.ensures
    c.in_ok-push.ensures.ok
