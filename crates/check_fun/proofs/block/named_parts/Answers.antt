use Rattle.std.proofs.Common.{rules, ◌∙◌}
use Rattle.check_fun.proofs.BlockRounds.{parts_more, parts_all}
use Rattle.check_fun.proofs.block.named_parts.Goals as goal

pub loop-one-preserved : goal.loop-one-preserved
loop-one-preserved c = parts_more _ _ _ _ _ c.loop-one-test.true c.loop-one.invariant c.in-Ok-push.ensures.ok

pub returns-clause-ok : goal.returns-clause-ok
returns-clause-ok c = parts_all _ _ _ _ c.loop-one-test.false (c.as_slice-one-items.ensures ∙ c.in-Ok.ensures) c.loop-one.invariant
