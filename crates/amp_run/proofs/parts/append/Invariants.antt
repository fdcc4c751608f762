use Rattle.std.proofs.Common.{◌≡◌, ◌++◌}
use Rattle.std.specs.Vec.Iter.{into_iter_items}
use Rattle.amp_run.proofs.parts.append.Given as goal

-- with those that are left, all terms are there
abbrev pub invariant-loop-term : goal.invariant-loop-term
invariant-loop-term l = l.terms ++ into_iter_items l.term-iterator ≡ l.fn.terms ++ l.fn.more
