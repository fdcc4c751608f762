use Rattle.std.proofs.Common.{◌≡◌, ℕ, ◌+◌, ◌++◌}
use Rattle.flat_form.specs.Flat.{repeated}
use Rattle.flat_steps.proofs.gates.repeated.Given as goal

abbrev pub invariant-loop : goal.invariant-loop
invariant-loop l = (more : ℕ) → more + l.counter ≡ l.times → l.list ++ repeated more l.operands ≡ repeated l.times l.operands
