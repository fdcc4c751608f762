use Rattle.std.proofs.Common.{[], ◌∷◌, ap, ◌∙◌}
use Rattle.flat_core.specs.declared.step.WireId.{WireId}
use Rattle.bit_arith.specs.declared.operand.Operand.{Operand}
use Rattle.bit_arith.specs.Built.{Built, begun, new_wire, next_wire, made}
use Rattle.bit_arith.specs.Rows.{both, flip}
use Rattle.bit_arith.proofs.Grows.{flip_x}
use Rattle.bit_arith.proofs.Going.{Row, refused_out, refused_on, refused_with, went_with}
use Rattle.bit_arith.proofs.builder.Builder.both.Goals as goal

abbrev next : Operand → Operand → WireId → Row
next p q w at b = flip at w (p ∷ q ∷ []) b

pub returns-in_err-wire-clause-refused : goal.returns-in_err-wire-clause-refused
unfolding both
returns-in_err-wire-clause-refused c =
    let b : Built = begun c.args.self.now.draft in
    refused_out _ _ _ c.from_residual.ensures.1
    (refused_on _ _ _ (flip_x c.args.self.now.setting (next_wire b) (c.args.a ∷ c.args.b ∷ []) (new_wire b)).grows c.in_err-wire.ensures.refused)

pub returns-in_err-flip-clause-refused : goal.returns-in_err-flip-clause-refused
unfolding both
returns-in_err-flip-clause-refused c =
    refused_out _ _ _ c.from_residual-in_err-flip.ensures.1
    (refused_with _ _ _ (next c.args.a c.args.b) _ _ _ c.in_ok-wire.ensures.answer c.in_ok-wire.ensures.ok c.in_err-flip.ensures.refused)

pub returns-clause-answer : goal.returns-clause-answer
unfolding both
returns-clause-answer c = c.made.ensures ∙ ap made c.in_ok-wire.ensures.answer

pub returns-clause-ok : goal.returns-clause-ok
unfolding both
returns-clause-ok c =
    went_with _ _ _ _ (next c.args.a c.args.b) _ _ c.in_ok-wire.ensures.answer c.in_ok-wire.ensures.ok c.in_ok-flip.ensures.ok
