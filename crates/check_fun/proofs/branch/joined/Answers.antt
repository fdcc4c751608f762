use Rattle.std.proofs.Common.{rules, refl, ◌≡◌, ◌+◌, ◌<◌, ◌≤◌, ◌++◌, length, get_or, drop, sym, ap, subst}
use Rattle.check_fun.specs.Statement.{joined as joined_of}
use Rattle.check_fun.proofs.BlockEnds.{joined_more, joined_all, joined_short}
use Rattle.check_fun.proofs.branch.joined.Goals as goal

pub loop-i-init : goal.loop-i-init
loop-i-init c = rw c.new-vars.ensures.items refl

pub loop-i-preserved : goal.loop-i-preserved
loop-i-preserved c = rw c.in-Ok.ensures.items (joined_more _ _ _ _ _ _ _ (c.loop-i-test.true, c.in-Some.ensures.lookup.3.0, c.in-Some.ensures.lookup.1, c.joined_var.ensures) c.loop-i.invariant)

pub returns-clause-ok : goal.returns-clause-ok
returns-clause-ok c = joined_all _ _ _ _ c.loop-i-test.false c.loop-i.invariant

pub returns-in_default-clause-ok : goal.returns-in_default-clause-ok
returns-in_default-clause-ok c = joined_short _ _ _ _ c.in_default.ensures.lookup.3 c.loop-i.invariant
