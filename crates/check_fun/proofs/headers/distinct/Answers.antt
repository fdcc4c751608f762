use Rattle.std.proofs.Common.{◌≡◌, arith, suc, ◌-◌, drop, subst}
use Rattle.check_fun.proofs.Taken.{Agree, repeats_here}
use Rattle.check_fun.proofs.headers.distinct.Goals as goal

pub returns-then-not-branch-clause-repeated : goal.returns-then-not-branch-clause-repeated
returns-then-not-branch-clause-repeated c = λ u.
    let next : c.names.i ≡ suc (c.names.i - 1) = omega (arith, c.names-test.true) in
    repeats_here c.args.names.now c.names.set _ _ _ (omega (arith, c.names-test.true, c.names.invariant.0)) (subst (λ n. Agree c.names.set (drop n c.args.names.now)) next c.names.invariant.2) c.in_ok-add.ensures.new c.if-not-branch.true
