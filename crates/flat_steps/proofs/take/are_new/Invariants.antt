use Rattle.std.proofs.Common.{◌≡◌, drop}
use Rattle.flat_form.specs.State.{are_new}
use Rattle.flat_steps.proofs.take.are_new.Given as goal

abbrev pub invariant-loop-p : goal.invariant-loop-p
invariant-loop-p l = are_new l.builder.draft l.began (drop l.p-index l.operands) ≡ are_new l.builder.draft l.began l.operands
