use Rattle.std.proofs.Common.{ℕ, ◌+◌, List, [], ◌∷◌, map, drop, arith}
use Rattle.flat_core.specs.declared.step.WireId.{WireId}
use Rattle.bit_arith.specs.declared.operand.Operand.{Operand}
use Rattle.bit_arith.specs.Rows.{alone, flip_by, flip_up, triples}
use Rattle.bit_arith.proofs.Grows.{target_more}
use Rattle.bit_arith.proofs.Keeps.{flip_by_x, flip_up_x}
use Rattle.bit_arith.proofs.Safe.{target_at}
use Rattle.bit_arith.proofs.Going.{Row, whole, refused_out, going_more, going_refused, going_end}
use Rattle.bit_arith.proofs.Turns.{wire_at, bit_at, three_turn, up_end, three_safe}
use Rattle.bit_arith.proofs.builder.Builder.flip_by_three.Goals as goal

-- the flips from a place on, and those there
abbrev rest : List WireId → List Operand → List Operand → List Operand → ℕ → Row
rest ws ps qs cs i at b = flip_up at (drop i ws) (triples (drop i ps) (drop i qs) (drop i cs)) b

abbrev step : List WireId → List Operand → List Operand → List Operand → ℕ → Row
step ws ps qs cs i at b = flip_by at (wire_at ws i) (map alone (bit_at ps i ∷ bit_at qs i ∷ bit_at cs i ∷ [])) b

pub flip_alone-requires-clause-target : goal.flip_alone-requires-clause-target
flip_alone-requires-clause-target c =
    target_more c.loop-i.invariant.grown (wire_at c.args.wires.now c.loop-i.i)
    (target_at c.args.self.now.draft c.args.wires.now c.loop-i.i _ c.loop-i-test.true c.requires.targets)

pub flip_alone-requires-clause-safe : goal.flip_alone-requires-clause-safe
flip_alone-requires-clause-safe c =
    three_safe c.args.self.now c.loop-i.self c.args.wires.now c.args.a.now c.args.b.now c.args.c.now c.loop-i.i c.loop-i-test.true c.requires.first c.requires.second c.requires.third c.loop-i.invariant.kept c.loop-i.invariant.grown.grows.few c.requires.safe

pub returns-in_err-flip_alone-clause-refused : goal.returns-in_err-flip_alone-clause-refused
returns-in_err-flip_alone-clause-refused c =
    let ws : List WireId = c.args.wires.now in
    let ps : List Operand = c.args.a.now in
    let qs : List Operand = c.args.b.now in
    let cs : List Operand = c.args.c.now in
    let i : ℕ = c.loop-i.i in
    refused_out _ _ _ c.from_residual.ensures.1
    (going_refused whole _ _ (rest ws ps qs cs i) (step ws ps qs cs i) (rest ws ps qs cs (i + 1)) _ _
    (three_turn ws ps qs cs i c.loop-i-test.true c.requires.first c.requires.second c.requires.third _ _)
    (λ at b. flip_up_x at (drop (i + 1) ws) (triples (drop (i + 1) ps) (drop (i + 1) qs) (drop (i + 1) cs)) b)
    c.loop-i.invariant c.in_err-flip_alone.ensures.refused)

pub loop-i-preserved : goal.loop-i-preserved
loop-i-preserved c =
    let ws : List WireId = c.args.wires.now in
    let ps : List Operand = c.args.a.now in
    let qs : List Operand = c.args.b.now in
    let cs : List Operand = c.args.c.now in
    let i : ℕ = c.loop-i.i in
    going_more _ _ _ (rest ws ps qs cs i) (step ws ps qs cs i) (rest ws ps qs cs (i + 1)) _
    (three_turn ws ps qs cs i c.loop-i-test.true c.requires.first c.requires.second c.requires.third _ _)
    (λ at b. flip_by_x at (wire_at ws i) (map alone (bit_at ps i ∷ bit_at qs i ∷ bit_at cs i ∷ [])) b)
    c.loop-i.invariant c.in_ok-flip_alone.ensures.ok

pub returns-clause-ok : goal.returns-clause-ok
returns-clause-ok c =
    going_end whole _ _ (rest c.args.wires.now c.args.a.now c.args.b.now c.args.c.now c.loop-i.i) _
    (up_end c.args.wires.now _ c.loop-i.i (omega arith)) c.loop-i.invariant
