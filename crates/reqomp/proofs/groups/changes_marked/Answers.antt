use Rattle.std.proofs.Common.{List, Bool, length, subst, sym, ap, ◌∙◌}
use Rattle.reqomp.specs.Simple.{marked_at}
use Rattle.reqomp.specs.Marking.{AreFlagsOf}
use Rattle.reqomp.proofs.groups.changes_marked.Goals as goal

pub changes_flagged-requires-clause-as_many : goal.changes_flagged-requires-clause-as_many
changes_flagged-requires-clause-as_many c = ap length c.deref.ensures.value ∙ c.requires.marks.as_many

pub returns : goal.returns
returns c =
    let marked = marked_at c.args.flat.now c.args.marks.now.level in
    c.changes_flagged.ensures marked (subst (λ (flags : List Bool). AreFlagsOf flags marked) (sym c.deref.ensures.value) c.requires.marks.told)
