use Rattle.std.proofs.Common.{◌≡◌, drop}
use Rattle.silq_mean.specs.Term.{equals_last}
use Rattle.silq_mean.specs.Effect.{all_pass}
use Rattle.silq_run.proofs.terms.Terms.all_equal_last.Given as goal

abbrev pub invariant-loop-term : goal.invariant-loop-term
invariant-loop-term l = all_pass (equals_last l.name) (drop l.term-index l.term-items) ≡ all_pass (equals_last l.name) l.term-items
