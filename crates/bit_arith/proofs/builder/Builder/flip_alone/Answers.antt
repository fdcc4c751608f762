use Rattle.std.proofs.Common.{ℕ, ◌+◌, List, [], ◌∷◌, map, drop, arith}
use Rattle.flat_core.specs.declared.step.WireId.{WireId}
use Rattle.bit_arith.specs.declared.operand.Operand.{Operand}
use Rattle.bit_arith.specs.Rows.{alone, flip, flip_by}
use Rattle.bit_arith.proofs.Grows.{flip_x, target_more}
use Rattle.bit_arith.proofs.Keeps.{flip_by_x}
use Rattle.bit_arith.proofs.Going.{Row, whole, refused_out, going_more, going_refused, going_end}
use Rattle.bit_arith.proofs.Turns.{bit_at, alone_turn, alone_end, alone_safe}
use Rattle.bit_arith.proofs.builder.Builder.flip_alone.Goals as goal

-- the flips from a place on, and the one there
abbrev rest : WireId → List Operand → ℕ → Row
rest w ps i at b = flip_by at w (map alone (drop i ps)) b

abbrev step : WireId → List Operand → ℕ → Row
step w ps i at b = flip at w (bit_at ps i ∷ []) b

pub flip-requires-clause-target : goal.flip-requires-clause-target
flip-requires-clause-target c = target_more c.loop-p.invariant.grown c.args.w c.requires.target

pub flip-requires-clause-safe : goal.flip-requires-clause-safe
flip-requires-clause-safe c =
    alone_safe c.args.self.now c.loop-p.self c.args.w c.args.list.now c.loop-p.p-index c.loop-p-test.true c.loop-p.invariant.kept c.loop-p.invariant.grown.grows.few c.requires.safe

pub returns-in_err-flip-clause-refused : goal.returns-in_err-flip-clause-refused
returns-in_err-flip-clause-refused c =
    let w : WireId = c.args.w in
    let ps : List Operand = c.args.list.now in
    let i : ℕ = c.loop-p.p-index in
    refused_out _ _ _ c.from_residual.ensures.1
    (going_refused whole _ _ (rest w ps i) (step w ps i) (rest w ps (i + 1)) _ _ (alone_turn w ps i c.loop-p-test.true _ _)
    (λ at b. flip_by_x at w (map alone (drop (i + 1) ps)) b) c.loop-p.invariant c.in_err-flip.ensures.refused)

pub loop-p-preserved : goal.loop-p-preserved
loop-p-preserved c =
    let w : WireId = c.args.w in
    let ps : List Operand = c.args.list.now in
    let i : ℕ = c.loop-p.p-index in
    going_more _ _ _ (rest w ps i) (step w ps i) (rest w ps (i + 1)) _ (alone_turn w ps i c.loop-p-test.true _ _)
    (λ at b. flip_x at w (bit_at ps i ∷ []) b) c.loop-p.invariant c.in_ok-flip.ensures.ok

pub returns-clause-ok : goal.returns-clause-ok
returns-clause-ok c =
    going_end whole _ _ (rest c.args.w c.args.list.now c.loop-p.p-index) _ (alone_end c.args.w c.args.list.now c.loop-p.p-index (omega arith)) c.loop-p.invariant
