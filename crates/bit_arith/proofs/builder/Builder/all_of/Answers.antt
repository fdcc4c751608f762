use Rattle.std.proofs.Common.{◌≡◌, ◌≢◌, List, [], ◌∷◌, length, refl, ap, ◌∙◌}
use Rattle.flat_core.specs.declared.step.WireId.{WireId}
use Rattle.bit_arith.specs.declared.operand.Operand.{Operand}
use Rattle.bit_arith.specs.Built.{Built, Setting, Given, begun, new_wire, next_wire, made}
use Rattle.bit_arith.specs.Rows.{flip, all_of}
use Rattle.bit_arith.proofs.Grows.{flip_x}
use Rattle.bit_arith.proofs.Going.{Row, refused_out, refused_on, refused_as, refused_with, went_as, went_with}
use Rattle.bit_arith.proofs.Turns.{wire_safe}
use Rattle.bit_arith.proofs.builder.Builder.all_of.Goals as goal

abbrev next : List Operand → WireId → Row
next ps w at b = flip at w ps b

-- not one bit alone
on_wire : (at : Setting) (ps : List Operand) (b : Built) → length ps ≢ 1 → record { answer = made (next_wire b); built = flip at (next_wire b) ps (new_wire b) } ≡ all_of at ps b
on_wire at [] b several = refl
on_wire at (p ∷ []) b several = absurd (several refl)
on_wire at (p ∷ q ∷ ps) b several = refl

on_wire_built : (at : Setting) (ps : List Operand) (b : Built) → length ps ≢ 1 → flip at (next_wire b) ps (new_wire b) ≡ (all_of at ps b).built
on_wire_built at ps b several = ap (λ (g : Given Operand). g.built) (on_wire at ps b several)

pub returns-in_err-wire-clause-refused : goal.returns-in_err-wire-clause-refused
returns-in_err-wire-clause-refused c =
    let b : Built = begun c.args.self.now.draft in
    let at : Setting = c.args.self.now.setting in
    refused_out _ _ _ c.from_residual.ensures.1
    (refused_as _ _ _ (on_wire_built at c.args.list.now b c.if-list-eq1.false)
    (refused_on _ (new_wire b) _ (flip_x at (next_wire b) c.args.list.now (new_wire b)).grows c.in_err-wire.ensures.refused))

pub flip-requires-clause-safe : goal.flip-requires-clause-safe
flip-requires-clause-safe c =
    wire_safe c.args.self.now c.new_wire.new.self c.in_ok-wire.wire c.args.list.now c.in_ok-wire.ensures.answer c.in_ok-wire.ensures.ok c.requires.safe

pub returns-in_err-flip-clause-refused : goal.returns-in_err-flip-clause-refused
returns-in_err-flip-clause-refused c =
    refused_out _ _ _ c.from_residual-in_err-flip.ensures.1
    (refused_as _ _ _ (on_wire_built c.args.self.now.setting c.args.list.now (begun c.args.self.now.draft) c.if-list-eq1.false)
    (refused_with _ _ _ (next c.args.list.now) _ _ _ c.in_ok-wire.ensures.answer c.in_ok-wire.ensures.ok c.in_err-flip.ensures.refused))

pub returns-clause-answer : goal.returns-clause-answer
returns-clause-answer c =
    c.made.ensures ∙ ap made c.in_ok-wire.ensures.answer
    ∙ ap (λ (g : Given Operand). g.answer) (on_wire c.args.self.now.setting c.args.list.now (begun c.args.self.now.draft) c.if-list-eq1.false)

pub returns-clause-ok : goal.returns-clause-ok
returns-clause-ok c =
    went_as _ _ _ _ (on_wire_built c.args.self.now.setting c.args.list.now (begun c.args.self.now.draft) c.if-list-eq1.false)
    (went_with _ _ _ _ (next c.args.list.now) _ _ c.in_ok-wire.ensures.answer c.in_ok-wire.ensures.ok c.in_ok-flip.ensures.ok)
