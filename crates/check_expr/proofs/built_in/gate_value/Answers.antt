use Rattle.check_expr.proofs.Called.{flips}
use Rattle.check_expr.proofs.built_in.gate_value.Goals as goal

pub returns-in_default : goal.returns-in_default
returns-in_default c = rw (flips c.args.gate c.args.at c.args.need c.args.value c.in_default.not-Dup c.in_default.not-Measure)
    record { reads = λ met. c.flip_value.ensures.reads met c.args.cx.now; stops = λ met. c.flip_value.ensures.stops met c.args.cx.now }
