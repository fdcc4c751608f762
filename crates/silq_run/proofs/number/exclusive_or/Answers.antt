use Rattle.std.proofs.Common.{◌%◌, ap₂, ◌∙◌}
use Rattle.silq_types.specs.Types.{scalar_bits}
use Rattle.silq_run.proofs.Digits.{exclusive_low}
use Rattle.silq_run.proofs.number.exclusive_or.Goals as goal

pub returns : goal.returns
returns c = ap₂ (λ m n. m % n) c.from.ensures c.in_ok-m.ensures.value ∙ exclusive_low (scalar_bits c.args.scalar) c.args.a c.args.b
