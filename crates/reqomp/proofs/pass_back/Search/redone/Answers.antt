use Rattle.std.proofs.Common.{sym, ap, ◌∙◌}
use Rattle.reqomp.specs.Simple.{marked_at}
use Rattle.reqomp.specs.Redone.{redone}
use Rattle.reqomp.proofs.Passing.{free_nothing}
use Rattle.reqomp.proofs.pass_back.Search.redone.Goals as goal

pub returns-in-Free-clause-steps : goal.returns-in-Free-clause-steps
returns-in-Free-clause-steps c =
    let marked = marked_at c.args.flat.now c.args.marks.now.level in
    c.new.ensures.items ∙ free_nothing c.args.flat.now marked c.in-Free.field-0 ∙ ap (redone c.args.flat.now marked) (sym c.in-Free.is)
