-- Programs, with what their meaning and their check both ask of them.
use Rattle.std.specs.Prelude.{ℕ, ◌==◌, if◌then◌else◌, List, [], ◌∷◌, length, ℤ, pos, negsuc}
use Rattle.silq_tree.specs.declared.node.NameId.{NameId}
use Rattle.silq_tree.specs.Syntax.{Function}
use Rattle.silq_types.specs.Types.{Statics}
use Rattle.silq_types.specs.declared.built_in.BuiltIn.{BuiltIn}

-- the functions in file order, and which names are those of built-in functions
pub record Program : Type 0 where
  pub words : List (NameId × BuiltIn)
  pub funs : List Function

-- the functions before the one at this number, the nearest first
abbrev pub earlier_than : ℕ → List Function → List Function
earlier_than n [] = []
earlier_than n (f ∷ before) = if length before == n then before else earlier_than n before

-- static names with their values
abbrev pub paired : List NameId → List ℤ → Statics
paired (x ∷ xs) (v ∷ vs) = (x, v) ∷ paired xs vs
paired xs vs = []

-- how many rounds there are from a first value to one so far above it
abbrev pub distance : ℤ → ℕ
distance (pos n) = n
distance (negsuc n) = 0
