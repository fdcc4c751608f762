use Rattle.std.proofs.Common.{sym, ◌∙◌, subst}
use Rattle.bit_arith.specs.Built.{begun}
use Rattle.flat_form.specs.State.{Flattening}
use Rattle.flat_form.specs.Good.{Good}
use Rattle.flat_steps.proofs.Receiving.{received_safe}
use Rattle.flat_steps.proofs.state.Flattening.receive.Goals as goal

pub receive_bits-requires : goal.receive_bits-requires
receive_bits-requires c =
    let s : Flattening = record { built = begun c.self.inside.builder.draft; setting = c.self.inside.builder.setting; statements = c.self.inside.statements; env = c.self.inside.variables; values = c.self.inside.values; callers = c.self.inside.callers } in
    received_safe s c.args.taker c.wires-began.result c.take_last-value.result c.in-Shown.value (subst Good (sym c.self.view_is) c.requires.good) c.take_last-value.ensures.value (sym c.in-Shown.is ∙ c.in_ok-value.ensures)
