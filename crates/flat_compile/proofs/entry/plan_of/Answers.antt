use Rattle.std.proofs.Common.{◌≡◌, Err, ap, subst}
use Rattle.flat_compile.specs.Ends.{NeedsMore}
use Rattle.flat_compile.proofs.entry.plan_of.Goals as goal

pub cycle_fault-requires-clause-given : goal.cycle_fault-requires-clause-given
cycle_fault-requires-clause-given c = rw c.vertices.ensures (c.in-Err-Cycle.ensures.given c.in-Err-Cycle.cycle (ap Err c.in-Err-Cycle.field-0-is))

pub returns-in-Err-OverBudget-clause-over_budget : goal.returns-in-Err-OverBudget-clause-over_budget
returns-in-Err-OverBudget-clause-over_budget c = λ least is.
    let same : c.in-Err-OverBudget.least ≡ least = cc in
    subst (λ n. NeedsMore c.args.budget n c.args.flat.now) same (record {
      acyclic = c.in-Err-OverBudget.ensures.over_acyclic c.in-Err-OverBudget.least (ap Err c.in-Err-OverBudget.field-0-is);
      none = c.in-Err-OverBudget.ensures.over c.in-Err-OverBudget.least (ap Err c.in-Err-OverBudget.field-0-is);
      least_is = c.in-Err-OverBudget.ensures.least c.in-Err-OverBudget.least (ap Err c.in-Err-OverBudget.field-0-is);
    })
