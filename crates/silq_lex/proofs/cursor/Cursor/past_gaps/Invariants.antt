use Rattle.std.proofs.Common.{◌≡◌, length}
use Rattle.silq_lex.specs.Cursors.{upcoming}
use Rattle.silq_lex.proofs.cursor.Cursor.past_gaps.Given as goal

abbrev pub invariant-loop-next : goal.invariant-loop-next
invariant-loop-next l = upcoming l.fn.self ≡ upcoming l.cursor

abbrev pub decreases-loop-next : goal.decreases-loop-next
decreases-loop-next l = length l.cursor.rest.now
