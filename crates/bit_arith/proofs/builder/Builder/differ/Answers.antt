use Rattle.std.proofs.Common.{◌≡◌, [], ◌∷◌, ap, ◌∙◌}
use Rattle.flat_core.specs.declared.step.WireId.{WireId}
use Rattle.flat_core.specs.declared.step.Lit.{Lit}
use Rattle.bit_arith.specs.declared.operand.Operand.{Operand}
use Rattle.bit_arith.specs.declared.operand.Operand.TheVariants.{Literal}
use Rattle.bit_arith.specs.Built.{Built, Setting, Given, begun, new_wire, next_wire, made, read}
use Rattle.bit_arith.specs.Rows.{alone, flip_by, differ, differ_as}
use Rattle.bit_arith.proofs.Keeps.{flip_by_x}
use Rattle.bit_arith.proofs.Going.{Row, refused_out, refused_on, refused_as, refused_with, went_as, went_with}
use Rattle.bit_arith.proofs.Turns.{wire_safe}
use Rattle.bit_arith.proofs.builder.Builder.differ.Goals as goal

abbrev next : Operand → Operand → WireId → Row
next p q w at b = flip_by at w (alone p ∷ alone q ∷ []) b

-- neither bit is constant
on_wire : (at : Setting) (p q : Operand) (b : Built) (l m : Lit) → Literal l ≡ read b.draft p → Literal m ≡ read b.draft q → record { answer = made (next_wire b); built = next p q (next_wire b) at (new_wire b) } ≡ differ at p q b
on_wire at p q b l m e f =
    ap (λ (x : Operand). differ_as at x (Literal m) p q b) e ∙ ap (λ (x : Operand). differ_as at (read b.draft p) x p q b) f

on_wire_built : (at : Setting) (p q : Operand) (b : Built) (l m : Lit) → Literal l ≡ read b.draft p → Literal m ≡ read b.draft q → next p q (next_wire b) at (new_wire b) ≡ (differ at p q b).built
on_wire_built at p q b l m e f = ap (λ (g : Given Operand). g.built) (on_wire at p q b l m e f)

pub returns-in_err-wire-in-Literal-Literal-clause-refused : goal.returns-in_err-wire-in-Literal-Literal-clause-refused
returns-in_err-wire-in-Literal-Literal-clause-refused c =
    let b : Built = begun c.args.self.now.draft in
    let at : Setting = c.args.self.now.setting in
    refused_out _ _ _ c.from_residual.ensures.1
    (refused_as _ _ _ (on_wire_built at c.args.a c.args.b b _ _ c.in-Literal-Literal.ensures c.in-Literal-Literal.ensures')
    (refused_on _ (new_wire b) _ (flip_by_x at (next_wire b) (alone c.args.a ∷ alone c.args.b ∷ []) (new_wire b)).grows c.in_err-wire-in-Literal-Literal.ensures.refused))

pub flip_alone-requires-clause-safe : goal.flip_alone-requires-clause-safe
flip_alone-requires-clause-safe c =
    let at = c.in_ok-wire-in-Literal-Literal in
    wire_safe c.args.self.now c.new_wire.new.self at.wire (c.args.a ∷ c.args.b ∷ []) at.ensures.answer at.ensures.ok c.requires.safe

pub returns-in_err-flip_alone-in-Literal-Literal-clause-refused : goal.returns-in_err-flip_alone-in-Literal-Literal-clause-refused
returns-in_err-flip_alone-in-Literal-Literal-clause-refused c =
    refused_out _ _ _ c.from_residual-in_err-flip_alone-in-Literal-Literal.ensures.1
    (refused_as _ _ _ (on_wire_built c.args.self.now.setting c.args.a c.args.b (begun c.args.self.now.draft) _ _ c.in-Literal-Literal.ensures c.in-Literal-Literal.ensures')
    (refused_with _ _ _ (next c.args.a c.args.b) _ _ _ c.in_ok-wire-in-Literal-Literal.ensures.answer c.in_ok-wire-in-Literal-Literal.ensures.ok c.in_err-flip_alone-in-Literal-Literal.ensures.refused))

pub returns-in_ok-flip_alone-in-Literal-Literal-clause-answer : goal.returns-in_ok-flip_alone-in-Literal-Literal-clause-answer
returns-in_ok-flip_alone-in-Literal-Literal-clause-answer c =
    c.made.ensures ∙ ap made c.in_ok-wire-in-Literal-Literal.ensures.answer
    ∙ ap (λ (g : Given Operand). g.answer) (on_wire c.args.self.now.setting c.args.a c.args.b (begun c.args.self.now.draft) _ _ c.in-Literal-Literal.ensures c.in-Literal-Literal.ensures')

pub returns-in_ok-flip_alone-in-Literal-Literal-clause-ok : goal.returns-in_ok-flip_alone-in-Literal-Literal-clause-ok
returns-in_ok-flip_alone-in-Literal-Literal-clause-ok c =
    went_as _ _ _ _ (on_wire_built c.args.self.now.setting c.args.a c.args.b (begun c.args.self.now.draft) _ _ c.in-Literal-Literal.ensures c.in-Literal-Literal.ensures')
    (went_with _ _ _ _ (next c.args.a c.args.b) _ _ c.in_ok-wire-in-Literal-Literal.ensures.answer c.in_ok-wire-in-Literal-Literal.ensures.ok c.in_ok-flip_alone-in-Literal-Literal.ensures.ok)
