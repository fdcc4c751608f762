use Rattle.std.proofs.Common.{ℕ, ◌≤◌, nat_eq, length}
use Rattle.indexmap.specs.IndexMap.{get}
use Rattle.flat_steps.proofs.Told.{TellsFrom}
use Rattle.flat_steps.proofs.variables.places_in.Given as goal

-- the places from a number on are told
abbrev pub invariant-loop-number : goal.invariant-loop-number
invariant-loop-number l = (l.number ≤ length l.variables) × TellsFrom (λ (n : ℕ). get nat_eq l.places n) l.variables l.number

abbrev pub decreases-loop-number : goal.decreases-loop-number
decreases-loop-number l = l.number
