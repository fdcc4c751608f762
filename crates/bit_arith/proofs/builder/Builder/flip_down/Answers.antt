use Rattle.std.proofs.Common.{ℕ, ◌-◌, ◌≤◌, List, length, drop, arith}
use Rattle.flat_core.specs.declared.step.WireId.{WireId}
use Rattle.bit_arith.specs.declared.operand.Operand.{Operand}
use Rattle.bit_arith.specs.Built.{begun}
use Rattle.bit_arith.specs.Rows.{pairs}
use Rattle.bit_arith.proofs.Grows.{target_more}
use Rattle.bit_arith.proofs.Keeps.{flip_down_x}
use Rattle.bit_arith.proofs.Safe.{target_at}
use Rattle.bit_arith.proofs.Going.{refused_out, went_grows}
use Rattle.bit_arith.proofs.Turns.{wire_at, two_safe, down_went, down_refused}
use Rattle.bit_arith.proofs.builder.Builder.flip_down.Goals as goal

pub flip_alone-requires-clause-target : goal.flip_alone-requires-clause-target
flip_alone-requires-clause-target c =
    let ws : List WireId = c.args.wires.now in
    let i : ℕ = c.loop-i.i in
    let cs : List (List (List Operand)) = pairs (drop i c.args.a.now) (drop i c.args.b.now) in
    target_more (went_grows _ _ _ (flip_down_x c.args.self.now.setting (drop i ws) cs (begun c.args.self.now.draft)) c.loop-i.invariant.done) (wire_at ws (i - 1))
    (target_at c.args.self.now.draft ws (i - 1) _ (let h = c.loop-i.invariant.within in omega arith) c.requires.targets)

pub flip_alone-requires-clause-safe : goal.flip_alone-requires-clause-safe
flip_alone-requires-clause-safe c =
    let ws : List WireId = c.args.wires.now in
    let i : ℕ = c.loop-i.i in
    let cs : List (List (List Operand)) = pairs (drop i c.args.a.now) (drop i c.args.b.now) in
    two_safe c.args.self.now c.loop-i.self ws c.args.a.now c.args.b.now (i - 1) (let h = c.loop-i.invariant.within in omega arith) c.requires.first c.requires.second c.loop-i.invariant.done.kept
    (went_grows _ _ _ (flip_down_x c.args.self.now.setting (drop i ws) cs (begun c.args.self.now.draft)) c.loop-i.invariant.done).grows.few
    c.requires.safe

pub returns-in_err-flip_alone-clause-refused : goal.returns-in_err-flip_alone-clause-refused
returns-in_err-flip_alone-clause-refused c =
    let i : ℕ = c.loop-i.i in
    refused_out _ _ _ c.from_residual.ensures.1
    (down_refused c.args.self.now c.loop-i.self c.args.wires.now c.args.a.now c.args.b.now i (i - 1) _ (omega arith) (let h = c.loop-i.invariant.within in omega arith) c.requires.first c.requires.second c.loop-i.invariant.done c.in_err-flip_alone.ensures.refused)

pub loop-i-preserved : goal.loop-i-preserved
loop-i-preserved c =
    let i : ℕ = c.loop-i.i in
    let h : i ≤ length c.args.wires.now = c.loop-i.invariant.within in
    record {
      within = omega arith;
      done = down_went c.args.self.now c.loop-i.self _ c.args.wires.now c.args.a.now c.args.b.now i (i - 1) (omega arith) (omega arith) c.requires.first c.requires.second c.loop-i.invariant.done c.in_ok-flip_alone.ensures.ok;
    }
