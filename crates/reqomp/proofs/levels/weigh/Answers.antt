use Rattle.std.proofs.Common.{ℕ, suc, sym, subst, arith}
use Rattle.reqomp.specs.declared.levels.Outcome.TheVariants.{Over}
use Rattle.reqomp.specs.Trying.{IsOutcome}
use Rattle.reqomp.proofs.Turns.{fitting, over}
use Rattle.reqomp.proofs.levels.weigh.Goals as goal

pub returns-then-plan-budget : goal.returns-then-plan-budget
returns-then-plan-budget c = λ f k is none lowest. fitting f c.args.budget k none (suc k) c.args.plan is (omega arith)

pub returns-else-plan-budget : goal.returns-else-plan-budget
returns-else-plan-budget c = λ f k is none lowest.
    subst (λ (n : ℕ). IsOutcome f c.args.budget (suc k) (Over n)) (sym c.min.ensures) (over f c.args.budget k none c.args.least lowest c.args.plan is (omega arith))
