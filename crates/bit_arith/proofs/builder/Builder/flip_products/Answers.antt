use Rattle.std.proofs.Common.{ℕ, ◌+◌, List, [], ◌∷◌, drop, arith}
use Rattle.flat_core.specs.declared.step.WireId.{WireId}
use Rattle.bit_arith.specs.declared.operand.Operand.{Operand}
use Rattle.bit_arith.specs.Rows.{flip, flip_up, products}
use Rattle.bit_arith.proofs.Grows.{flip_x, target_more}
use Rattle.bit_arith.proofs.Keeps.{flip_up_x}
use Rattle.bit_arith.proofs.Safe.{target_at}
use Rattle.bit_arith.proofs.Going.{Row, whole, refused_out, going_more, going_refused, going_end}
use Rattle.bit_arith.proofs.Turns.{wire_at, bit_at, products_turn, up_end, products_safe}
use Rattle.bit_arith.proofs.builder.Builder.flip_products.Goals as goal

-- the flips from a place on, and the one there
abbrev rest : List WireId → Operand → List Operand → ℕ → Row
rest ws p qs i at b = flip_up at (drop i ws) (products p (drop i qs)) b

abbrev step : List WireId → Operand → List Operand → ℕ → Row
step ws p qs i at b = flip at (wire_at ws i) (p ∷ bit_at qs i ∷ []) b

pub flip-requires-clause-target : goal.flip-requires-clause-target
flip-requires-clause-target c =
    target_more c.loop-i.invariant.grown (wire_at c.args.wires.now c.loop-i.i)
    (target_at c.args.self.now.draft c.args.wires.now c.loop-i.i _ c.loop-i-test.true c.requires.targets)

pub flip-requires-clause-safe : goal.flip-requires-clause-safe
flip-requires-clause-safe c =
    products_safe c.args.self.now c.loop-i.self c.args.wires.now c.args.p c.args.list.now c.loop-i.i c.loop-i-test.true c.requires.lengths c.loop-i.invariant.kept c.loop-i.invariant.grown.grows.few c.requires.safe

pub returns-in_err-flip-clause-refused : goal.returns-in_err-flip-clause-refused
returns-in_err-flip-clause-refused c =
    let ws : List WireId = c.args.wires.now in
    let p : Operand = c.args.p in
    let qs : List Operand = c.args.list.now in
    let i : ℕ = c.loop-i.i in
    refused_out _ _ _ c.from_residual.ensures.1
    (going_refused whole _ _ (rest ws p qs i) (step ws p qs i) (rest ws p qs (i + 1)) _ _
    (products_turn ws p qs i c.loop-i-test.true c.requires.lengths _ _)
    (λ at b. flip_up_x at (drop (i + 1) ws) (products p (drop (i + 1) qs)) b)
    c.loop-i.invariant c.in_err-flip.ensures.refused)

pub loop-i-preserved : goal.loop-i-preserved
loop-i-preserved c =
    let ws : List WireId = c.args.wires.now in
    let p : Operand = c.args.p in
    let qs : List Operand = c.args.list.now in
    let i : ℕ = c.loop-i.i in
    going_more _ _ _ (rest ws p qs i) (step ws p qs i) (rest ws p qs (i + 1)) _
    (products_turn ws p qs i c.loop-i-test.true c.requires.lengths _ _)
    (λ at b. flip_x at (wire_at ws i) (p ∷ bit_at qs i ∷ []) b)
    c.loop-i.invariant c.in_ok-flip.ensures.ok

pub returns-clause-ok : goal.returns-clause-ok
returns-clause-ok c =
    going_end whole _ _ (rest c.args.wires.now c.args.p c.args.list.now c.loop-i.i) _
    (up_end c.args.wires.now _ c.loop-i.i (omega arith)) c.loop-i.invariant
