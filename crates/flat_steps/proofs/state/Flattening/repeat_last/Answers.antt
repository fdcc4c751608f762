use Rattle.std.proofs.Common.{sym, ap, ◌∙◌, subst}
use Rattle.flat_form.specs.Flat.{repeated}
use Rattle.flat_form.specs.Good.{Good}
use Rattle.flat_steps.proofs.Holding.{repeated_there}
use Rattle.flat_steps.proofs.state.Flattening.repeat_last.Goals as goal

pub give_copies-requires : goal.give_copies-requires
give_copies-requires c =
    repeated_there _ c.in-Some-Shown.field-0 c.in-Some-Shown.value c.pop.new.self c.in-Ok.times c.as_slice-2.result.now c.in-Some-Shown.ensures.value c.in-Some-Shown.field-0-is
    (subst Good (sym c.self.view_is) c.requires.good)
    (c.as_slice-2.ensures ∙ c.in_ok-operands.ensures ∙ ap (repeated c.in-Ok.times) c.as_slice.ensures)
