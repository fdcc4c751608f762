use Rattle.std.proofs.Common.{◌≡◌, ℕ, length, subst, arith}
use Rattle.unqomp.specs.Making.{IsLastStage}
use Rattle.unqomp.proofs.vertices.add_freeings.Goals as goal

pub returns : goal.returns
returns c =
    let all : c.loop-i.i ≡ length c.args.flat.now.wires = omega arith in
    subst (λ (n : ℕ). IsLastStage c.args.flat.now c.loop-i.graph c.loop-i.chains.items n) all c.loop-i.invariant
