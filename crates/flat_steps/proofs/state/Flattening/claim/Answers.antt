use Rattle.std.proofs.Common.{◌≡◌, sym, ap, subst}
use Rattle.silq_mean.specs.Effect.{claim}
use Rattle.bit_arith.specs.Built.{begun}
use Rattle.flat_form.specs.State.{Flattening, first, last}
use Rattle.flat_form.specs.declared.known.Known.TheVariants.{Shown}
use Rattle.flat_form.specs.Flat.{known_in}
use Rattle.flat_steps.specs.Ready.{Ready}
use Rattle.flat_steps.proofs.Changing.{claims_by}
use Rattle.flat_steps.proofs.state.Flattening.claim.Goals as goal

pub zero_variable-requires : goal.zero_variable-requires
zero_variable-requires c =
    let s : Flattening = record { built = begun c.self.inside.builder.draft; setting = c.self.inside.builder.setting; statements = c.self.inside.statements; env = c.self.inside.variables; values = c.self.inside.values; callers = c.self.inside.callers } in
    let ready : Ready (claim 0 c.args.name) s = subst (Ready (claim 0 c.args.name)) (sym c.self.view_is) (c.requires.ready 0) in
    let known : known_in s c.args.name ≡ Shown c.in-Shown.target = sym c.in-Shown.ensures.old in
    let value : c.in-Some.value ≡ last s = sym (ap first c.in-Some.ensures.value) in
    claims_by s 0 c.args.name c.in-Shown.target c.in-Some.value ready known value
