use Rattle.std.proofs.Common.{sym, ap, ◌∙◌, subst}
use Rattle.flat_form.specs.State.{Flattening, last}
use Rattle.flat_form.specs.Good.{Good}
use Rattle.flat_form.specs.Fine.{IsOf, MayTake}
use Rattle.flat_steps.proofs.Holding.{held_last}
use Rattle.flat_steps.proofs.state.Flattening.take_last.Goals as goal

pub returns-clause-held : goal.returns-clause-held
returns-clause-held c =
    held_last _ c.in-Some-Shown.field-0 c.in-Some-Shown.value c.pop.new.self c.taken.new.builder c.taken.result c.in-Some-Shown.ensures.value c.in-Some-Shown.field-0-is
    (subst Good (sym c.self.view_is) c.requires.good) (subst (λ (s : Flattening). IsOf (λ v. MayTake v s) (last s)) (sym c.self.view_is) c.requires.may)
    c.taken.ensures.answer c.taken.ensures.ok c.taken.ensures.targets
