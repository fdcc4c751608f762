use Rattle.std.proofs.Common.{◌≡◌, ◌++◌, map, take, drop}
use Rattle.silq_mean.specs.Effect.{after}
use Rattle.silq_run.specs.Steps.{meant}
use Rattle.silq_run.proofs.terms.step_each.Given as goal

abbrev pub invariant-loop-term : goal.invariant-loop-term
invariant-loop-term l = l.terms ≡ map (after (meant l.step)) (take l.term-index l.initial.terms) ++ drop l.term-index l.initial.terms
