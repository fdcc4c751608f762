-- How the variables are kept: with an index of their names, and with their changes since the expression began.
use Rattle.std.specs.Prelude.{◌≡◌, ℕ, List, length, map}
use Rattle.silq_tree.specs.declared.node.NameId.{NameId}
use Rattle.silq_types.specs.declared.values.Var.{Var}
use Rattle.check_scope.specs.Undo.{undone, AreBelow}

abbrev pub variable_names : List Var → List NameId
variable_names vars = map (λ (v : Var). v.part.name) vars

-- a change leaves the name
pub record AreKept (vars : List Var) (moved : List (ℕ × Var)) (names : List NameId) : Type 0 where
  pub below : AreBelow (length vars) moved
  pub named : names ≡ variable_names vars
  pub before : names ≡ variable_names (undone vars moved)
