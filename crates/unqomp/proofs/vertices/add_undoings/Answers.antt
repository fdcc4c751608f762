use Rattle.std.proofs.Common.{◌≡◌, ℕ, ◌+◌, ◌-◌, subst, arith}
use Rattle.unqomp.specs.Making.{IsBackStage}
use Rattle.unqomp.proofs.vertices.add_undoings.Goals as goal

pub add_undoing-requires-clause-stage : goal.add_undoing-requires-clause-stage
add_undoing-requires-clause-stage c =
    let same : c.loop-i.i ≡ c.loop-i.i - 1 + 1 = omega arith in
    subst (λ (n : ℕ). IsBackStage c.args.flat.now c.loop-i.graph c.loop-i.chains.items n) same c.loop-i.invariant.stage

pub returns : goal.returns
returns c =
    let none : c.loop-i.i ≡ 0 = omega arith in
    subst (λ (n : ℕ). IsBackStage c.args.flat.now c.loop-i.graph c.loop-i.chains.items n) none c.loop-i.invariant.stage
