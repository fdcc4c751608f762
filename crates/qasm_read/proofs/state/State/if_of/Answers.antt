use Rattle.std.proofs.Common.{ap}
use Rattle.std.proofs.lemmas.List.Elements.{All-take, All-drop}
use Rattle.qasm_read.specs.Read.{IsSpelled}
use Rattle.qasm_read.specs.State.{State}
use Rattle.qasm_read.proofs.Items.{if_of-read}
use Rattle.qasm_read.proofs.state.State.if_of.Goals as goal

pub plain_from-requires : goal.plain_from-requires
plain_from-requires c = All-take IsSpelled _ _ (All-drop IsSpelled 6 c.args.tokens.now c.requires)

pub returns : goal.returns
returns c =
    if_of-read c.args.self.now c.args.tokens.now _ _ _ c.bits_of.result c.value_of.result c.in_ok-gate.gate c.if_from.result c.in-len6-up.len_at_least c.if_from.ensures
    (rw (ap (λ (s : State). s.bits) c.self.view_is) at c.bits_of.ensures) c.value_of.ensures c.in_ok-gate.ensures
