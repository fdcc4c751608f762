-- The flags after the first steps.
use Rattle.reqomp.specs.Marking.{AreTopFlags}
use Rattle.reqomp.proofs.marked.used_at_tops.Given as goal

abbrev pub invariant-loop-i : goal.invariant-loop-i
invariant-loop-i l = AreTopFlags l.flat l.i l.flags.items
