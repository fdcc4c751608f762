use Rattle.std.proofs.Common.{◌≡◌, false, length, reverse}
use Rattle.std.specs.List.{All}
use Rattle.qasm_tokens.specs.Items.{reach, is_whole}
use Rattle.qasm_tokens.specs.Cursors.{ahead, upcoming, end_place}
use Rattle.qasm_tokens.specs.Taken.{still, so_far, item_of, IsSpelled}
use Rattle.qasm_tokens.proofs.item.item_at.Given as goal

abbrev pub invariant-loop-mark : goal.invariant-loop-mark
invariant-loop-mark l = record {
  same : still l.fn.cursor (reverse l.fn.stack.items) ≡ so_far l.item (reach (end_place l.cursor) (reverse l.stack.items) (upcoming l.cursor));
  whole : is_whole (item_of l.item).tokens ≡ false;
  numbers : All IsSpelled (item_of l.item).tokens;
}

abbrev pub decreases-loop-mark : goal.decreases-loop-mark
decreases-loop-mark l = length (ahead l.cursor)
