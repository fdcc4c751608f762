use Rattle.std.proofs.Common.{ℕ, ◌+◌, List, [], ◌∷◌, drop, arith}
use Rattle.flat_core.specs.declared.step.WireId.{WireId}
use Rattle.bit_arith.specs.declared.operand.Operand.{Operand}
use Rattle.bit_arith.specs.Rows.{flip, flip_each}
use Rattle.bit_arith.proofs.Grows.{flip_x, target_more}
use Rattle.bit_arith.proofs.Keeps.{flip_each_x}
use Rattle.bit_arith.proofs.Safe.{target_at}
use Rattle.bit_arith.proofs.Going.{Row, whole, refused_out, going_more, going_refused, going_end}
use Rattle.bit_arith.proofs.Turns.{wire_at, bit_at, each_turn, each_end, each_safe}
use Rattle.bit_arith.proofs.builder.Builder.flip_each.Goals as goal

-- the flips from a place on, and the one there
abbrev rest : List WireId → List Operand → ℕ → Row
rest ws ps i at b = flip_each at (drop i ws) (drop i ps) b

abbrev step : List WireId → List Operand → ℕ → Row
step ws ps i at b = flip at (wire_at ws i) (bit_at ps i ∷ []) b

pub flip-requires-clause-target : goal.flip-requires-clause-target
flip-requires-clause-target c =
    target_more c.loop-i.invariant.grown (wire_at c.args.wires.now c.loop-i.i)
    (target_at c.args.self.now.draft c.args.wires.now c.loop-i.i _ c.loop-i-test.true c.requires.targets)

pub flip-requires-clause-safe : goal.flip-requires-clause-safe
flip-requires-clause-safe c =
    each_safe c.args.self.now c.loop-i.self c.args.wires.now c.args.list.now c.loop-i.i c.loop-i-test.true c.requires.lengths c.loop-i.invariant.kept c.loop-i.invariant.grown.grows.few c.requires.safe

pub returns-in_err-flip-clause-refused : goal.returns-in_err-flip-clause-refused
returns-in_err-flip-clause-refused c =
    let ws : List WireId = c.args.wires.now in
    let ps : List Operand = c.args.list.now in
    refused_out _ _ _ c.from_residual.ensures.1
    (going_refused whole _ _ (rest ws ps c.loop-i.i) (step ws ps c.loop-i.i) (rest ws ps (c.loop-i.i + 1)) _ _
    (each_turn ws ps c.loop-i.i c.loop-i-test.true c.requires.lengths _ _)
    (λ at b. flip_each_x at (drop (c.loop-i.i + 1) ws) (drop (c.loop-i.i + 1) ps) b)
    c.loop-i.invariant c.in_err-flip.ensures.refused)

pub loop-i-preserved : goal.loop-i-preserved
loop-i-preserved c =
    let ws : List WireId = c.args.wires.now in
    let ps : List Operand = c.args.list.now in
    going_more _ _ _ (rest ws ps c.loop-i.i) (step ws ps c.loop-i.i) (rest ws ps (c.loop-i.i + 1)) _
    (each_turn ws ps c.loop-i.i c.loop-i-test.true c.requires.lengths _ _)
    (λ at b. flip_x at (wire_at ws c.loop-i.i) (bit_at ps c.loop-i.i ∷ []) b)
    c.loop-i.invariant c.in_ok-flip.ensures.ok

pub returns-clause-ok : goal.returns-clause-ok
returns-clause-ok c =
    let ws : List WireId = c.args.wires.now in
    let ps : List Operand = c.args.list.now in
    going_end whole _ _ (rest ws ps c.loop-i.i) _ (each_end ws ps c.loop-i.i (omega arith)) c.loop-i.invariant
