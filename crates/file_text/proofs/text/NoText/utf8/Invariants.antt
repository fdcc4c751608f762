use Rattle.std.proofs.Common.{◌≡◌, ◌+◌, ◌≤◌, length}
use Rattle.file_text.specs.NoText.{line_behind, col_behind}
use Rattle.file_text.proofs.text.NoText.utf8.Given as goal

-- the place behind the characters so far, each of which adds at most one to a line or a column
abbrev pub invariant-loop-c : goal.invariant-loop-c
invariant-loop-c l = record {
  line : l.line ≡ line_behind 1 l.yielded;
  col : l.col ≡ col_behind 1 l.yielded;
  low : l.line ≤ length l.yielded + 1;
  left : l.col ≤ length l.yielded + 1;
}
