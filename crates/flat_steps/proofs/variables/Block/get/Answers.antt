use Rattle.std.proofs.Common.{get_or, sym, ap, ◌∙◌}
use Rattle.flat_form.specs.declared.known.Known.TheVariants.{Absent}
use Rattle.flat_steps.proofs.Numbers.{at_number}
use Rattle.flat_steps.proofs.variables.Block.get.Goals as goal

pub returns : goal.returns
returns c = λ x e.
    let r = at_number c.args.self.now x c.args.number c.index.result.now e in
    ap (λ z. z.1) c.index.ensures ∙ ap (λ z. (get_or z c.args.number c.index.result.now).1) c.self.view_is ∙ sym (r.shows Absent)
