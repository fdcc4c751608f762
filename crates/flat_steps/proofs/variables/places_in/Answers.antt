use Rattle.std.proofs.Common.{◌≡◌, ℕ, nat_eq, arith}
use Rattle.indexmap.specs.IndexMap.{get}
use Rattle.flat_steps.proofs.Told.{tells_parameters}
use Rattle.flat_steps.proofs.variables.places_in.Goals as goal

pub returns : goal.returns
returns c =
    let none : c.loop-number.number ≡ 0 = omega (arith, c.loop-number-test.false) in
    tells_parameters (λ (k : ℕ). get nat_eq c.loop-number.places k) c.args.variables.now c.loop-number.number c.loop-number.invariant.1 none
