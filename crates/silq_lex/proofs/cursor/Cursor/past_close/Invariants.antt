use Rattle.std.proofs.Common.{◌≡◌, ◌≤◌, length}
use Rattle.std.specs.Str.{chars}
use Rattle.silq_lex.specs.Tokens.{through_close}
use Rattle.silq_lex.specs.Cursors.{behind_front}
use Rattle.silq_lex.proofs.cursor.Cursor.past_close.Given as goal

abbrev pub invariant-loop-c : goal.invariant-loop-c
invariant-loop-c l = record {
  same : behind_front l.inside.place (chars l.inside.rest.now) (through_close (chars l.inside.rest.now)) ≡ behind_front l.fn.self.place (chars l.fn.self.rest.now) (through_close (chars l.fn.self.rest.now));
  no_longer : length l.inside.rest.now ≤ length l.fn.self.rest.now;
}

abbrev pub decreases-loop-c : goal.decreases-loop-c
decreases-loop-c l = length l.inside.rest.now
