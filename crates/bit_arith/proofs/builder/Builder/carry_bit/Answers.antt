use Rattle.std.proofs.Common.{ℕ, List, [], ◌∷◌, length}
use Rattle.flat_core.specs.declared.step.WireId.{WireId}
use Rattle.flat_core.specs.Label.{same_wire}
use Rattle.bit_arith.specs.declared.operand.Operand.{Operand}
use Rattle.bit_arith.specs.Built.{Built, Setting, begun}
use Rattle.bit_arith.specs.Rows.{flip}
use Rattle.bit_arith.specs.Calls.{Targets, AllSafe, Went}
use Rattle.bit_arith.proofs.Grows.{XGrows, x_then, flip_x, target_more}
use Rattle.bit_arith.proofs.Keeps.{flip_by_x}
use Rattle.bit_arith.proofs.Safe.{now_safe, more_wires, condition_safe, operands_safe}
use Rattle.bit_arith.proofs.Going.{Row, refused_out, refused_on, refused_then, went_then, went_grows, ok_last, refused_last}
use Rattle.bit_arith.proofs.builder.Builder.carry_bit.Goals as goal

abbrev step : WireId → Operand → Operand → Row
step w p q at b = flip at w (p ∷ q ∷ []) b

pub returns-in_err-flip-clause-refused : goal.returns-in_err-flip-clause-refused
returns-in_err-flip-clause-refused c =
    let w : WireId = c.args.w in
    let at : Setting = c.args.self.now.setting in
    let first : Built = flip at w (c.args.a ∷ c.args.b ∷ []) (begun c.args.self.now.draft) in
    refused_out _ _ _ c.from_residual.ensures.1
    (refused_on _ first _ (flip_by_x at w ((c.args.a ∷ c.args.carry ∷ []) ∷ (c.args.b ∷ c.args.carry ∷ []) ∷ []) first).grows c.in_err-flip.ensures.refused)

pub flip-requires-2-clause-target : goal.flip-requires-2-clause-target
flip-requires-2-clause-target c =
    target_more (went_grows _ _ _ (flip_x c.args.self.now.setting c.args.w (c.args.a ∷ c.args.b ∷ []) (begun c.args.self.now.draft)) c.in_ok-flip.ensures.ok) c.args.w c.requires.target

pub flip-requires-2-clause-safe : goal.flip-requires-2-clause-safe
flip-requires-2-clause-safe c =
    let n : ℕ = length c.args.self.now.draft.wires in
    let T : Targets = same_wire c.args.w in
    let ps : List Operand = c.args.a ∷ c.args.b ∷ c.args.carry ∷ [] in
    let s : AllSafe n T ps = operands_safe n T c.args.self.now.setting ps c.requires.safe in
    let g : XGrows (begun c.args.self.now.draft) (begun c.flip.new.self.draft) = went_grows _ _ _ (flip_x c.args.self.now.setting c.args.w (c.args.a ∷ c.args.b ∷ []) (begun c.args.self.now.draft)) c.in_ok-flip.ensures.ok in
    now_safe c.args.self.now c.flip.new.self T T (c.args.a ∷ c.args.carry ∷ []) c.in_ok-flip.ensures.ok.kept (more_wires n _ T g.grows.few)
    (condition_safe n T c.args.self.now.setting ps c.requires.safe) (s.0, (s.1.1.0, tt))

pub returns-in_err-flip-2-clause-refused : goal.returns-in_err-flip-2-clause-refused
returns-in_err-flip-2-clause-refused c =
    let w : WireId = c.args.w in
    let at : Setting = c.args.self.now.setting in
    let first : Built = flip at w (c.args.a ∷ c.args.b ∷ []) (begun c.args.self.now.draft) in
    let second : Built = flip at w (c.args.a ∷ c.args.carry ∷ []) first in
    refused_out _ _ _ c.from_residual-in_err-flip-2.ensures.1
    (refused_on _ second _ (flip_x at w (c.args.b ∷ c.args.carry ∷ []) second).grows
    (refused_then _ _ first (step w c.args.a c.args.carry) _ c.in_ok-flip.ensures.ok c.in_err-flip-2.ensures.refused))

pub flip-requires-3-clause-target : goal.flip-requires-3-clause-target
flip-requires-3-clause-target c =
    let w : WireId = c.args.w in
    let first : XGrows (begun c.args.self.now.draft) (begun c.flip.new.self.draft) = went_grows _ _ _ (flip_x c.args.self.now.setting w (c.args.a ∷ c.args.b ∷ []) (begun c.args.self.now.draft)) c.in_ok-flip.ensures.ok in
    let second : XGrows (begun c.flip.new.self.draft) (begun c.flip-2.new.self.draft) = went_grows _ _ _ (flip_x c.flip.new.self.setting w (c.args.a ∷ c.args.carry ∷ []) (begun c.flip.new.self.draft)) c.in_ok-flip-2.ensures.ok in
    target_more (x_then first second) w c.requires.target

pub flip-requires-3-clause-safe : goal.flip-requires-3-clause-safe
flip-requires-3-clause-safe c =
    let w : WireId = c.args.w in
    let n : ℕ = length c.args.self.now.draft.wires in
    let T : Targets = same_wire w in
    let ps : List Operand = c.args.a ∷ c.args.b ∷ c.args.carry ∷ [] in
    let s : AllSafe n T ps = operands_safe n T c.args.self.now.setting ps c.requires.safe in
    let first : XGrows (begun c.args.self.now.draft) (begun c.flip.new.self.draft) = went_grows _ _ _ (flip_x c.args.self.now.setting w (c.args.a ∷ c.args.b ∷ []) (begun c.args.self.now.draft)) c.in_ok-flip.ensures.ok in
    let second : XGrows (begun c.flip.new.self.draft) (begun c.flip-2.new.self.draft) = went_grows _ _ _ (flip_x c.flip.new.self.setting w (c.args.a ∷ c.args.carry ∷ []) (begun c.flip.new.self.draft)) c.in_ok-flip-2.ensures.ok in
    let both : Went c.args.self.now c.flip-2.new.self (flip c.args.self.now.setting w (c.args.a ∷ c.args.carry ∷ []) (flip c.args.self.now.setting w (c.args.a ∷ c.args.b ∷ []) (begun c.args.self.now.draft))) = went_then _ _ _ _ (step w c.args.a c.args.carry) c.in_ok-flip.ensures.ok c.in_ok-flip-2.ensures.ok in
    now_safe c.args.self.now c.flip-2.new.self T T (c.args.b ∷ c.args.carry ∷ []) both.kept (more_wires n _ T (x_then first second).grows.few)
    (condition_safe n T c.args.self.now.setting ps c.requires.safe) s.1

pub returns-clause-ok : goal.returns-clause-ok
returns-clause-ok c =
    let w : WireId = c.args.w in
    ok_last _ _ _
    (λ v. went_then _ _ _ _ (step w c.args.b c.args.carry) (went_then _ _ _ _ (step w c.args.a c.args.carry) c.in_ok-flip.ensures.ok c.in_ok-flip-2.ensures.ok) v)
    c.flip-3.ensures.ok

pub returns-clause-refused : goal.returns-clause-refused
returns-clause-refused c =
    let w : WireId = c.args.w in
    refused_last _ _ _
    (λ fault r. refused_then _ _ _ (step w c.args.b c.args.carry) fault (went_then _ _ _ _ (step w c.args.a c.args.carry) c.in_ok-flip.ensures.ok c.in_ok-flip-2.ensures.ok) r)
    c.flip-3.ensures.refused
