use Rattle.std.proofs.Common.{◌≡◌, sym, ◌∙◌, subst}
use Rattle.silq_mean.specs.Effect.{step, update_to}
use Rattle.bit_arith.specs.Built.{begun}
use Rattle.flat_form.specs.State.{Flattening}
use Rattle.flat_form.specs.declared.known.Known.TheVariants.{Shown}
use Rattle.flat_form.specs.Flat.{known_in}
use Rattle.flat_steps.specs.Ready.{Ready}
use Rattle.flat_steps.proofs.Changing.{updates_by}
use Rattle.flat_steps.proofs.state.Flattening.update_to.Goals as goal

pub update_part-requires-clause-change : goal.update_part-requires-clause-change
update_part-requires-clause-change c =
    let s : Flattening = record { built = begun c.self.inside.builder.draft; setting = c.self.inside.builder.setting; statements = c.self.inside.statements; env = c.self.inside.variables; values = c.self.inside.values; callers = c.self.inside.callers } in
    let ready : Ready (step (update_to c.args.name c.args.indices.now c.args.op)) s = subst (Ready (step (update_to c.args.name c.args.indices.now c.args.op))) (sym c.self.view_is) c.requires in
    let known : known_in s c.args.name ≡ Shown c.in-Some-Shown.target = sym c.in-Some-Shown.ensures.some ∙ c.in-Some-Shown.field-0-is in
    updates_by s c.args.name c.args.indices.now c.args.op c.in-Some-Shown.target c.take_last-value.result ready known c.take_last-value.ensures.value
