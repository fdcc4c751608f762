use Rattle.std.proofs.Common.{◌≡◌, ℕ, suc, ◌-◌, arith, sym, ◌∙◌}
use Rattle.reqomp.proofs.Turns.{skipped, as_before}
use Rattle.reqomp.proofs.levels.Planner.try_level.Goals as goal

pub returns-then-marked_count-before-clause-outcome : goal.returns-then-marked_count-before-clause-outcome
returns-then-marked_count-before-clause-outcome c =
    let k = c.args.level in
    let j : ℕ = k - 1 in
    let first = c.requires.first in
    let next : k ≡ suc j = omega arith in
    as_before c.args.flat.now c.args.budget k c.requires.none c.args.least c.requires.least j next (omega arith)
    (sym c.marked_count.ensures ∙ c.if-marked_count-before.true ∙ c.marked_count-before.ensures)

pub returns-in-None-clause-outcome : goal.returns-in-None-clause-outcome
returns-in-None-clause-outcome c =
    skipped c.args.flat.now c.args.budget c.args.level c.requires.none c.args.least c.requires.least (rw c.in-None.is at c.in_ok-plan_level.ensures.plan)
