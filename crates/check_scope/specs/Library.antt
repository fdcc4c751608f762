-- A program as its bodies see it.
use Rattle.std.specs.Prelude.{◌≡◌, ℕ, ◌<◌, List, [], ◌∷◌, length, map, take, reverse, slice_index_or}
use Rattle.silq_tree.specs.declared.node.NameId.{NameId}
use Rattle.silq_tree.specs.declared.node.FunId.{FunId}
use Rattle.silq_tree.specs.Syntax.{Function}
use Rattle.silq_tree.specs.Arena.{Forest, nothing, program_at}
use Rattle.silq_types.specs.declared.built_in.BuiltIn.{BuiltIn}
use Rattle.silq_types.specs.Calls.{Found}

pub record Shelf : Type 0 where
  pub nodes : Forest
  -- the names of built-in functions
  pub words : List (NameId × BuiltIn)
  -- the functions in the order of the file
  pub funs : List FunId

-- their trees
abbrev pub functions_of : Shelf → List Function
functions_of l = program_at l.nodes l.funs

-- the function with a number, from 0
abbrev pub function_at : Shelf → ℕ → Function
function_at l n = slice_index_or (functions_of l) n nothing

-- the functions before it, the nearest first
abbrev pub before_at : Shelf → ℕ → List Function
before_at l n = reverse (take n (functions_of l))

-- the function with this number, as it is found by name
abbrev pub found_at : Shelf → ℕ → Found
found_at l n = record { number = n; fun = function_at l n }

-- the names of these functions
abbrev pub names_at : Forest → List FunId → List NameId
names_at nodes funs = map (λ (f : Function). f.name) (program_at nodes funs)

-- each is a function of the arena
abbrev pub AreFunsBelow : ℕ → List FunId → Type 0
AreFunsBelow n [] = Unit {0}
AreFunsBelow n (id ∷ ids) = (id.number < n) × AreFunsBelow n ids

-- the functions of a program, with an index of their names
pub record IsShelved (nodes : Forest) (funs : List FunId) (names : List NameId) : Type 0 where
  pub below : AreFunsBelow (length nodes.funs) funs
  pub named : names ≡ names_at nodes funs
