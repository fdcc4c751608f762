-- Functions by name, and how a call uses its arguments.
use Rattle.std.specs.Prelude.{ℕ, Bool, true, false, ◌||◌, if◌then◌else◌, List, [], ◌∷◌, length, map, Option, Some, None}
use Rattle.silq_tree.specs.declared.node.NameId.{NameId}
use Rattle.silq_tree.specs.Syntax.{Parameter, Function}
use Rattle.silq_types.specs.declared.need.Need.{Need}
use Rattle.silq_types.specs.declared.need.Need.TheVariants as needs
use Rattle.silq_types.specs.declared.built_in.BuiltIn.{BuiltIn}
use Rattle.silq_types.specs.declared.built_in.BuiltIn.TheVariants.{HGate, XGate, YGate, ZGate, Measure}
use Rattle.silq_types.specs.Types.{same_name, is_lifted}

abbrev pub is_consumed : Need → Bool
is_consumed needs.Consumed = true
is_consumed needs.Held = false

-- ---- functions by name

abbrev pub built_in : List (NameId × BuiltIn) → NameId → Option BuiltIn
built_in [] f = None
built_in (w ∷ ws) f = if same_name w.0 f then Some w.1 else built_in ws f

-- a function, with its number in the file
pub record Found : Type 0 where
  pub number : ℕ
  pub fun : Function

abbrev pub find_fun : List Function → NameId → Option Found
find_fun [] f = None
find_fun (g ∷ gs) f = if same_name g.name f then Some (record { number = length gs; fun = g }) else find_fun gs f

abbrev pub param_is_held : Function → Parameter → Bool
param_is_held f p = p.held || is_lifted f.mark

abbrev pub param_need : Function → Parameter → Need
param_need f p = if param_is_held f p then needs.Held else needs.Consumed

-- what a call asks of its arguments; past the end of the list they are held
abbrev pub needs_of_built_in : BuiltIn → List Need
needs_of_built_in HGate = needs.Consumed ∷ []
needs_of_built_in XGate = needs.Consumed ∷ []
needs_of_built_in YGate = needs.Consumed ∷ []
needs_of_built_in ZGate = needs.Consumed ∷ []
needs_of_built_in Measure = needs.Consumed ∷ []
needs_of_built_in b = []

abbrev pub needs_of_own : Option Found → List Need
needs_of_own None = []
needs_of_own (Some f) = map (param_need f.fun) f.fun.params

abbrev pub needs_of_found : Option BuiltIn → Option Found → List Need
needs_of_found (Some b) f = needs_of_built_in b
needs_of_found None f = needs_of_own f

abbrev pub first_need : List Need → Need
first_need [] = needs.Held
first_need (n ∷ ns) = n

abbrev pub later_needs : List Need → List Need
later_needs [] = []
later_needs (n ∷ ns) = ns
