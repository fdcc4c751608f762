use Rattle.std.proofs.Common.{[], ◌∷◌}
use Rattle.flat_core.specs.declared.step.WireId.{WireId}
use Rattle.bit_arith.specs.declared.operand.Operand.{Operand}
use Rattle.bit_arith.specs.Built.{Built, begun, new_wire, next_wire}
use Rattle.bit_arith.specs.Rows.{carry_bit}
use Rattle.bit_arith.proofs.Keeps.{carry_bit_x}
use Rattle.bit_arith.proofs.Going.{Row, refused_out, refused_on, refused_with, went_with}
use Rattle.bit_arith.proofs.Turns.{wire_safe}
use Rattle.bit_arith.proofs.builder.Builder.carry_out.Goals as goal

abbrev next : Operand → Operand → Operand → WireId → Row
next p q c w at b = carry_bit at w p q c b

pub returns-in_err-wire-clause-refused : goal.returns-in_err-wire-clause-refused
returns-in_err-wire-clause-refused c =
    let b : Built = begun c.args.self.now.draft in
    refused_out _ _ _ c.from_residual.ensures.1
    (refused_on _ (new_wire b) _ (carry_bit_x c.args.self.now.setting (next_wire b) c.args.a c.args.b c.args.carry (new_wire b)).grows c.in_err-wire.ensures.refused)

pub carry_bit-requires-clause-safe : goal.carry_bit-requires-clause-safe
carry_bit-requires-clause-safe c =
    wire_safe c.args.self.now c.new_wire.new.self c.in_ok-wire.wire (c.args.a ∷ c.args.b ∷ c.args.carry ∷ []) c.in_ok-wire.ensures.answer c.in_ok-wire.ensures.ok c.requires.safe

pub returns-in_err-carry_bit-clause-refused : goal.returns-in_err-carry_bit-clause-refused
returns-in_err-carry_bit-clause-refused c =
    refused_out _ _ _ c.from_residual-in_err-carry_bit.ensures.1
    (refused_with _ _ _ (next c.args.a c.args.b c.args.carry) _ _ _ c.in_ok-wire.ensures.answer c.in_ok-wire.ensures.ok c.in_err-carry_bit.ensures.refused)

pub returns-clause-ok : goal.returns-clause-ok
returns-clause-ok c =
    went_with _ _ _ _ (next c.args.a c.args.b c.args.carry) _ _ c.in_ok-wire.ensures.answer c.in_ok-wire.ensures.ok c.in_ok-carry_bit.ensures.ok
