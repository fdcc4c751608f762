-- The first variable with a part, by its number.
use Rattle.std.specs.Prelude.{◌≡◌, ℕ, ◌<◌, List, None, length, slice_get}
use Rattle.silq_types.specs.declared.values.Part.{Part}
use Rattle.silq_types.specs.declared.values.Var.{Var}
use Rattle.check_scope.specs.Context.{find_var, replace}
use Rattle.check_scope.specs.Undo.{set_at}

-- it is found there, and what replaces it stands there
pub record IsFirstAt (vars : List Var) (part : Part) (i : ℕ) : Type 0 where
  pub within : i < length vars
  pub found : find_var vars part ≡ slice_get vars i
  pub replaced : (v : Var) → v.part ≡ part → replace vars v ≡ set_at vars i v

-- no variable has it
pub record IsAbsent (vars : List Var) (part : Part) : Type 0 where
  pub found : find_var vars part ≡ None
  pub replaced : (v : Var) → v.part ≡ part → replace vars v ≡ vars
