-- The bits that operands have named, as the program keeps them.
use Rattle.std.specs.Prelude.{◌≡◌, ℕ, Bool, List, ◌∷◌, Option, Some}
use Rattle.std.specs.BTreeSet.{BTreeSet, contains}
use Rattle.std.specs.Ordering.{nat_cmp}
use Rattle.qasm_read.specs.Refusals.{is_among}

-- the set has the bits that were seen
pub record HasSeen (seen : List (Option ℕ)) (bits : BTreeSet ℕ) : Type 0 where
  pub index : (b : ℕ) → contains nat_cmp bits b ≡ is_among seen (Some b)

-- a bit comes to those seen, and it is told whether it was among them
pub record Sees (old : BTreeSet ℕ) (bit : Option ℕ) (was : Bool) (new : BTreeSet ℕ) : Type 0 where
  pub among : (seen : List (Option ℕ)) → HasSeen seen old → was ≡ is_among seen bit
  pub added : (seen : List (Option ℕ)) → HasSeen seen old → HasSeen (bit ∷ seen) new
