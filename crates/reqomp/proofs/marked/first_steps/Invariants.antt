-- No number is greater than that of a step of its wire.
use Rattle.reqomp.specs.Marking.{AreFirstSteps}
use Rattle.reqomp.proofs.marked.first_steps.Given as goal

abbrev pub invariant-loop-i : goal.invariant-loop-i
invariant-loop-i l = AreFirstSteps l.flat l.first.items
