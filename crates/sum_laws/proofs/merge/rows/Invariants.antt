use Rattle.std.specs.Vec.Iter.{into_iter_items}
use Rattle.sum_laws.proofs.Merging.{Merging}
use Rattle.sum_laws.proofs.merge.rows.Given as goal

-- the closed values have their rows, and the value in hand has its sum so far
abbrev pub invariant-loop-term : goal.invariant-loop-term
invariant-loop-term l = Merging l.fn.terms.items l.rows.items l.sum (into_iter_items l.term-iterator)
