use Rattle.check_expr.proofs.Called.{counted}
use Rattle.check_expr.proofs.own.argument_rules.Goals as goal

pub returns-clause-reads : goal.returns-clause-reads
returns-clause-reads c = λ met.
    rw (counted _ c.args.args.now) (rw (c.param_count-params.ensures, c.consume_twice-twice.ensures, c.as_slice.ensures, c.consume_held-held.ensures, c.as_slice-2.ensures, c.in_ok-parts.ensures) at (c.obey.ensures.reads met c.args.cx.now))

pub returns-clause-stops : goal.returns-clause-stops
returns-clause-stops c = λ met.
    rw (counted _ c.args.args.now) (rw (c.param_count-params.ensures, c.consume_twice-twice.ensures, c.as_slice.ensures, c.consume_held-held.ensures, c.as_slice-2.ensures, c.in_ok-parts.ensures) at (c.obey.ensures.stops met c.args.cx.now))
