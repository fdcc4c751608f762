-- Terms over the values of qubits as terms over bit lists.
use Rattle.std.specs.Prelude.{ℕ, zero, suc, Bool, List, [], ◌∷◌, map}
use Rattle.amp_core.specs.declared.Amp.{Amp}
use Rattle.flat_mean.specs.Row.{Row}
use Rattle.flat_mean.specs.Terms.{Term, weight}

-- the bits of n qubits
abbrev pub register : ℕ → Row → List Bool
register zero row = []
register (suc n) row = row 0 ∷ register n (λ q. row (suc q))

-- each term as the bits of n qubits with its amplitude
abbrev pub registers : ℕ → List Term → List (List Bool × Amp)
registers n ts = map (λ t. (register n t.row, weight t)) ts
