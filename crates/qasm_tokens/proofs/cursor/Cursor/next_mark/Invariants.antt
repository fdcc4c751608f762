use Rattle.std.proofs.Common.{◌≡◌, ◌≤◌, length}
use Rattle.qasm_tokens.specs.Cursors.{ahead, upcoming, end_place}
use Rattle.qasm_tokens.proofs.cursor.Cursor.next_mark.Given as goal

abbrev pub invariant-loop-c : goal.invariant-loop-c
invariant-loop-c l = record {
  marks : upcoming l.fn.self ≡ upcoming l.here;
  end : end_place l.fn.self ≡ end_place l.here;
  no_longer : length (ahead l.here) ≤ length (ahead l.fn.self);
}

abbrev pub decreases-loop-c : goal.decreases-loop-c
decreases-loop-c l = length (ahead l.here)
