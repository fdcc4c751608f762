-- So many input bits are used, and the wires so far have theirs.
use Rattle.std.proofs.Common.{◌≡◌, ◌<◌, ℕ}
use Rattle.flat_mean.specs.Row.{bits_of}
use Rattle.flat_mean.specs.Path.{inputs_before, input_row}
use Rattle.flat_mean.proofs.path.begin.Given as goal

abbrev pub invariant-loop-w : goal.invariant-loop-w
invariant-loop-w l = record {
  used : l.used ≡ inputs_before l.flat.wires l.w;
  row : (q : ℕ) → q < l.w → bits_of l.row q ≡ input_row l.flat.wires (bits_of l.input) q;
}
