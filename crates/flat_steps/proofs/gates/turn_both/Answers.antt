use Rattle.std.proofs.Common.{List, [], ◌∷◌, length, refl, ap}
use Rattle.bit_arith.specs.declared.operand.Operand.{Operand}
use Rattle.bit_arith.specs.Built.{Built, Setting, begun, made, negated}
use Rattle.bit_arith.specs.Rows.{turn}
use Rattle.bit_arith.specs.Calls.{no_target}
use Rattle.bit_arith.proofs.Grows.{turn_x}
use Rattle.bit_arith.proofs.Going.{refused_out, refused_on, refused_as, went_grows}
use Rattle.bit_arith.proofs.Safe.{now_safe, more_wires}
use Rattle.flat_steps.proofs.gates.turn_both.Goals as goal

pub returns-in_err-turn-clause-refused : goal.returns-in_err-turn-clause-refused
returns-in_err-turn-clause-refused c =
    let at : Setting = c.args.builder.now.setting in
    let b : Built = begun c.args.builder.now.draft in
    let first : Built = turn at c.args.zero (negated (made c.args.wire) ∷ []) b in
    refused_out _ _ _ c.from_residual.ensures.1
    (refused_on _ first _ (turn_x at c.args.one (made c.args.wire ∷ []) first).grows
    (refused_as _ _ _ (ap (λ (p : Operand). turn at c.args.zero (p ∷ []) b) c.negated.ensures) c.in_err-turn.ensures.refused))

pub turn-requires-2 : goal.turn-requires-2
turn-requires-2 c =
    let n = length c.args.builder.now.draft.wires in
    let few = (went_grows _ _ _ (turn_x c.args.builder.now.setting c.args.zero (c.negated.result ∷ []) (begun c.args.builder.now.draft)) c.in_ok-turn.ensures.ok).grows.few in
    record {
      safe = now_safe c.args.builder.now c.turn.new.self no_target no_target (made c.args.wire ∷ []) c.in_ok-turn.ensures.ok.kept (more_wires n _ no_target few) c.requires.condition ((c.requires.there, refl), tt);
    }
