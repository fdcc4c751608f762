use Rattle.std.proofs.Common.{◌≡◌, ◌∙◌, Err, ap, subst}
use Rattle.flat_laws.proofs.EndsWhole.{ends_fit}
use Rattle.tree_walk.specs.Seen.{job_at}
use Rattle.flat_compile.specs.Ends.{NeedsMore}
use Rattle.flat_compile.specs.declared.fault.CompileFault.TheVariants as faults
use Rattle.flat_compile.proofs.entry.compile.Goals as goal

pub flatten-requires-clause-ends : goal.flatten-requires-clause-ends
flatten-requires-clause-ends g c = ends_fit (job_at c.args.library.now c.args.fun c.args.statics.now) c.requires.fine c.requires.ends

pub returns-in-Err-clause-over_budget : goal.returns-in-Err-clause-over_budget
returns-in-Err-clause-over_budget g c = λ least is.
    let same : c.in-Err.fault ≡ faults.OverBudget least = cc in
    (c.in-Ok.ensures.within, subst (NeedsMore c.args.budget least) c.in-Ok.ensures.ok (c.plan_of.ensures.over_budget least (c.in-Err.is ∙ ap Err same)))
