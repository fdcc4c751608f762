-- The bits of a value in the order in which they are shown.
use Rattle.std.specs.Prelude.{ℕ, ◌==◌, Bool, not, List, ◌++◌, filter}
use Rattle.std.specs.List.{list_any}
use Rattle.sum_laws.specs.Terms.{positions, pick}

-- the numbers below n that are none of the outs, in order
abbrev pub rest_of : ℕ → List ℕ → List ℕ
rest_of n outs = filter (λ q. not (list_any (λ out. out == q) outs)) (positions n)

-- the bits of the outs, in their order, then those of all other qubits by number
abbrev pub shown_bits : ℕ → List ℕ → List Bool → List Bool
shown_bits n outs bits = pick (outs ++ rest_of n outs) bits
