use Rattle.std.proofs.Common.{length, sym, ap, ◌∙◌, arith}
use Rattle.std.proofs.lemmas.List.{length-replicate}
use Rattle.reqomp.proofs.Jumps.{jumps_start, jumps_taken, jumps_passed, jumps_end}
use Rattle.reqomp.proofs.marked.jumps_of.Goals as goal

pub loop-i-init : goal.loop-i-init
loop-i-init c = λ wires are.
    let e = c.in_ok-jumps.ensures.items_if_clones_equal (λ y e. e) in
    jumps_start c.args.flat.now wires c.in_ok-jumps.jumps.items (ap length e ∙ length-replicate c.steps.result 0 ∙ c.steps.ensures.count)

pub returns : goal.returns
returns c = λ wires are. jumps_end c.args.flat.now wires c.loop-i.i c.loop-i.last c.loop-i.jumps.items (omega arith) (c.loop-i.invariant wires are)
