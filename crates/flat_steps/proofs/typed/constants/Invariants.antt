use Rattle.std.proofs.Common.{◌≡◌, ℕ, ◌+◌, ◌++◌, Bool, map}
use Rattle.silq_mean.specs.Value.{low_bits}
use Rattle.flat_mean.specs.Row.{flipped}
use Rattle.bit_arith.specs.declared.operand.Operand.TheVariants.{Const}
use Rattle.flat_steps.proofs.typed.constants.Given as goal

abbrev pub invariant-loop : goal.invariant-loop
invariant-loop l =
    (more : ℕ) → more + l.counter ≡ l.width → l.operands ++ map (λ (b : Bool). Const (flipped b l.others)) (low_bits more l.rest) ≡ map (λ (b : Bool). Const (flipped b l.others)) (low_bits l.width l.number)
