-- So many choice bits are used, and row and factor are those of the path so far.
use Rattle.std.proofs.Common.{◌≡◌, ℕ}
use Rattle.flat_mean.specs.Row.{bits_of}
use Rattle.flat_mean.specs.Path.{choices_at, row_at}
use Rattle.flat_mean.specs.Factor.{IsFactor}
use Rattle.flat_mean.proofs.path.walk.Given as goal

abbrev pub invariant-loop-s : goal.invariant-loop-s
invariant-loop-s l = record {
  used : l.used ≡ choices_at l.flat.steps l.s;
  row : (q : ℕ) → bits_of l.row q ≡ row_at l.flat.steps (bits_of l.fn.row) (bits_of l.choice) l.s q;
  factor : IsFactor l.flat.steps (bits_of l.fn.row) (bits_of l.choice) l.s l.factor;
}
