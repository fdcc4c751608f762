use Rattle.std.proofs.Common.{ℕ, ◌≤◌, List, length, sym, ap, ◌∙◌, subst, arith}
use Rattle.flat_core.specs.declared.step.WireId.{WireId}
use Rattle.bit_arith.specs.declared.operand.Operand.{Operand}
use Rattle.bit_arith.specs.Built.{Built, begun, next_wires, new_wires, under}
use Rattle.bit_arith.specs.Rows.{copy, flip_each}
use Rattle.bit_arith.specs.Calls.{AllSafe, among, no_target}
use Rattle.bit_arith.proofs.Grows.{new_wires_x, targets_more}
use Rattle.bit_arith.proofs.Keeps.{flip_each_x}
use Rattle.bit_arith.proofs.Safe.{now_safe, beside_new_wires, condition_safe, operands_safe}
use Rattle.bit_arith.proofs.Going.{Row, refused_out, refused_on, refused_with, went_with, went_grows}
use Rattle.bit_arith.proofs.Turns.{length-wires_from}
use Rattle.bit_arith.proofs.builder.Builder.copy.Goals as goal

abbrev next : List Operand → List WireId → Row
next ps ws at b = flip_each at ws ps b

pub returns-in_err-wires-clause-refused : goal.returns-in_err-wires-clause-refused
unfolding copy flip_each
returns-in_err-wires-clause-refused c =
    let b : Built = begun c.args.self.now.draft in
    let n : ℕ = length c.args.list.now in
    refused_out _ _ _ c.from_residual.ensures.1
    (refused_on _ _ _ (flip_each_x c.args.self.now.setting (next_wires n b) c.args.list.now (new_wires n b)).grows c.in_err-wires.ensures.refused)

pub flip_each-requires-clause-lengths : goal.flip_each-requires-clause-lengths
flip_each-requires-clause-lengths c =
    ap length (c.as_slice.ensures.value ∙ c.in_ok-wires.ensures.answer) ∙ length-wires_from _ _

pub flip_each-requires-clause-safe : goal.flip_each-requires-clause-safe
flip_each-requires-clause-safe c =
    let n : ℕ = length c.args.self.now.draft.wires in
    let ws : List WireId = next_wires (length c.args.list.now) (begun c.args.self.now.draft) in
    let grown : n ≤ length c.new_wires.new.self.draft.wires = (went_grows _ _ _ (new_wires_x (length c.args.list.now) (begun c.args.self.now.draft)) c.in_ok-wires.ensures.ok).grows.few in
    subst (λ (vs : List WireId). AllSafe (length c.new_wires.new.self.draft.wires) (among vs) (under c.new_wires.new.self.setting c.args.list.now))
    (sym (c.as_slice.ensures.value ∙ c.in_ok-wires.ensures.answer))
    (now_safe c.args.self.now c.new_wires.new.self no_target (among ws) c.args.list.now c.in_ok-wires.ensures.ok.kept
    (beside_new_wires n _ n (length c.args.list.now) no_target grown (omega arith))
    (condition_safe n no_target c.args.self.now.setting c.args.list.now c.requires.safe) (operands_safe n no_target c.args.self.now.setting c.args.list.now c.requires.safe))

pub returns-in_err-flip_each-clause-refused : goal.returns-in_err-flip_each-clause-refused
unfolding copy flip_each
returns-in_err-flip_each-clause-refused c =
    refused_out _ _ _ c.from_residual-in_err-flip_each.ensures.1
    (refused_with _ _ _ (next c.args.list.now) _ _ _ (c.as_slice.ensures.value ∙ c.in_ok-wires.ensures.answer) c.in_ok-wires.ensures.ok c.in_err-flip_each.ensures.refused)

pub returns-clause-answer : goal.returns-clause-answer
unfolding copy
returns-clause-answer c = c.in_ok-wires.ensures.answer

pub returns-clause-ok : goal.returns-clause-ok
unfolding copy flip_each
returns-clause-ok c =
    went_with _ _ _ _ (next c.args.list.now) _ _ (c.as_slice.ensures.value ∙ c.in_ok-wires.ensures.answer) c.in_ok-wires.ensures.ok c.in_ok-flip_each.ensures.ok

pub returns-clause-targets : goal.returns-clause-targets
returns-clause-targets c =
    targets_more (went_grows _ _ _ (flip_each_x c.new_wires.new.self.setting c.as_slice.result.now c.args.list.now (begun c.new_wires.new.self.draft)) c.in_ok-flip_each.ensures.ok)
    c.in_ok-wires.wires.items c.in_ok-wires.ensures.targets
