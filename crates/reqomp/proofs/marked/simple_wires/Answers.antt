use Rattle.std.proofs.Common.{Some, None, ◌∙◌, sym, arith, append-nil}
use Rattle.reqomp.proofs.Marking.{simple_next}
use Rattle.reqomp.proofs.marked.simple_wires.Goals as goal
use Rattle.reqomp.proofs.marked.simple_wires.Goals.{in-Some+in_ok-push, in_default}

pub loop-i-preserved : goal.loop-i-preserved
loop-i-preserved c = elim c.match-simple_target.branch [
  | in-Some+in_ok-push w ↦ w.wires-is ∙ w.in_ok-push.ensures.ok ∙ simple_next c.args.flat.now (record { number = c.loop-i.i }) (Some w.in-Some.w) c.loop-i.wires (omega arith) c.loop-i.invariant w.in-Some.ensures
  | in_default w ↦ w.wires-is ∙ sym (append-nil c.loop-i.wires) ∙ simple_next c.args.flat.now (record { number = c.loop-i.i }) None c.loop-i.wires (omega arith) c.loop-i.invariant w.in_default.ensures
]
