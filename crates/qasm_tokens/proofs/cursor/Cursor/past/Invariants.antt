use Rattle.std.proofs.Common.{◌≡◌, ◌≤◌, length}
use Rattle.std.specs.Str.{chars}
use Rattle.silq_lex.specs.Tokens.{behind_all}
use Rattle.silq_lex.specs.Runs.{run, past}
use Rattle.qasm_tokens.specs.Classes.{passes}
use Rattle.qasm_tokens.proofs.cursor.Cursor.past.Given as goal

abbrev pub invariant-loop-c : goal.invariant-loop-c
invariant-loop-c l = record {
  place : behind_all l.cursor.place (run (passes l.class) (chars l.cursor.rest.now)) ≡ behind_all l.fn.self.place (run (passes l.class) (chars l.fn.self.rest.now));
  no_longer : length l.cursor.rest.now ≤ length l.fn.self.rest.now;
  rest : past (passes l.class) (chars l.cursor.rest.now) ≡ past (passes l.class) (chars l.fn.self.rest.now);
}

abbrev pub decreases-loop-c : goal.decreases-loop-c
decreases-loop-c l = length l.cursor.rest.now
