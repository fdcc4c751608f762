use Rattle.std.proofs.Common.{◌∙◌, sym, arith}
use Rattle.static_num.proofs.Euclid.{euclid_step, euclid_end, is_greatest, is_above}
use Rattle.static_num.proofs.fraction.common_divisor.Goals as goal

pub steps-preserved : goal.steps-preserved
steps-preserved c = euclid_step c.steps.x c.steps.y (omega (arith, c.steps-test.true)) ∙ c.steps.invariant

pub returns-clause-value : goal.returns-clause-value
returns-clause-value c = sym (euclid_end c.steps.x c.steps.y (omega (arith, c.steps-test.false))) ∙ c.steps.invariant

pub returns-clause-greatest : goal.returns-clause-greatest
returns-clause-greatest c = rw (returns-clause-value c) (is_greatest c.args.a c.args.b)

pub returns-clause-positive : goal.returns-clause-positive
returns-clause-positive c = rw (returns-clause-value c) (is_above c.args.a c.args.b)
