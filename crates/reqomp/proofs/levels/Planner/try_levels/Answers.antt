use Rattle.std.proofs.Common.{◌≡◌, ℕ, suc, ◌+◌, Some, arith, subst}
use Rattle.reqomp.specs.Search.{NoneFitsBelow, IsLeastBelow}
use Rattle.reqomp.proofs.levels.Planner.try_levels.Goals as goal

pub loop-level-preserved : goal.loop-level-preserved
loop-level-preserved c =
    let f = c.args.flat.now in
    let k = c.loop-level.level in
    let next : suc k ≡ k + 1 = omega arith in
    let o = rw c.in-Over.is at c.in_ok-plan.ensures.outcome in
    let old = c.loop-level.invariant.newest in
    let new = c.in_ok-plan.ensures.newest in
    record {
      planner = c.in_ok-plan.ensures.planner;
      newest = omega arith;
      none = subst (NoneFitsBelow f c.args.budget) next o.0;
      least = subst (λ (n : ℕ). IsLeastBelow f n (Some c.in-Over.less)) next o.1;
    }

pub returns : goal.returns
returns c =
    let f = c.args.flat.now in
    let end = c.loop-level.auto.level-end (omega arith) in
    let last : c.loop-level.level ≡ 17 = omega arith in (
      subst (NoneFitsBelow f c.args.budget) last c.loop-level.invariant.none,
      subst (λ (n : ℕ). IsLeastBelow f n (Some c.loop-level.least)) last c.loop-level.invariant.least,
    )
