use Rattle.std.proofs.Common.{set, get_or, sym, ap, ◌∙◌}
use Rattle.flat_form.specs.declared.known.Known.TheVariants.{Absent}
use Rattle.flat_steps.proofs.Numbers.{at_number}
use Rattle.flat_steps.proofs.variables.Block.replace.Goals as goal

pub returns-clause-old : goal.returns-clause-old
returns-clause-old c = λ x e.
    let i = c.args.number in let v = c.index_mut-variable.result.now in
    let r = at_number c.args.self.now x i v e in
    c.replace.ensures.value ∙ ap (λ z. z.1) c.index_mut-variable.ensures.value ∙ ap (λ z. (get_or z i v).1) c.self.view_is ∙ sym (r.shows Absent)

pub returns-clause-new : goal.returns-clause-new
returns-clause-new c = λ x e.
    let i = c.args.number in let v = c.index_mut-variable.result.now in
    let r = at_number c.args.self.now x i v e in
    ap (λ z. set z i (v.0, c.replace.new.dest)) c.self.view_is
    ∙ ap (λ z. set c.args.self.now i (z, c.replace.new.dest)) (ap (λ z. z.0) c.index_mut-variable.ensures.value ∙ ap (λ z. (get_or z i v).0) c.self.view_is)
    ∙ ap (λ z. set c.args.self.now i ((get_or c.args.self.now i v).0, z)) c.replace.ensures.after
    ∙ sym (r.with c.args.known)
