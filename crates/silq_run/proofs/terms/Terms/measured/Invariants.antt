use Rattle.std.proofs.Common.{◌≡◌, ◌++◌, flat_map, drop}
use Rattle.silq_mean.specs.Effect.{follow, measure}
use Rattle.silq_mean.specs.Table.{outcome_of}
use Rattle.silq_run.proofs.terms.Terms.measured.Given as goal

abbrev pub invariant-loop-term : goal.invariant-loop-term
invariant-loop-term l = l.kept ++ flat_map (follow (outcome_of l.outcome) measure) (drop l.term-index l.term-items) ≡ flat_map (follow (outcome_of l.outcome) measure) l.term-items
