use Rattle.std.proofs.Common.{◌≡◌, ◌++◌, map, drop}
use Rattle.silq_mean.specs.Table.{shown}
use Rattle.silq_run.proofs.terms.Terms.rows.Given as goal

abbrev pub invariant-loop-term : goal.invariant-loop-term
invariant-loop-term l = l.rows ++ map shown (drop l.term-index l.term-items) ≡ map shown l.term-items
