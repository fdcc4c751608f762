-- What code sees of a walk: what it changes, the parts of its scope that a body changes, and how deep it is.
use Rattle.std.specs.Prelude.{◌≡◌, ℕ, List}
use Rattle.silq_types.specs.declared.types.Ty.{Ty}
use Rattle.silq_types.specs.declared.values.Part.{Part}
use Rattle.silq_types.specs.declared.values.Var.{Var}
use Rattle.silq_types.specs.Types.{Statics}
use Rattle.check_scope.specs.Context.{Scope, Context}
use Rattle.check_scope.specs.Library.{Shelf, function_at, before_at}

pub record State : Type 0 where
  -- the number of its function in the file
  pub this : ℕ
  -- the types of its results
  pub results : List Ty
  -- how many instances are open
  pub depth : ℕ
  -- the greatest height of an instance that was called
  pub height : ℕ
  pub vars : List Var
  -- the variables as they were when the expression began
  pub start : List Var
  -- the next new place
  pub next : ℕ
  pub statics : Statics
  -- the parts that each run-time condition holds
  pub held : List (List Part)

abbrev pub context_of : State → Context
context_of s = record { vars = s.vars; next = s.next }

-- what a body sees there
abbrev pub scope_in : Shelf → State → Scope
scope_in l s = record { words = l.words; before = before_at l s.this; this = function_at l s.this; results = s.results; statics = s.statics; held = s.held }

-- what an expression leaves as it is
pub record Keeps (old now : State) : Type 0 where
  pub this : now.this ≡ old.this
  pub results : now.results ≡ old.results
  pub depth : now.depth ≡ old.depth
  pub start : now.start ≡ old.start
  pub statics : now.statics ≡ old.statics
  pub held : now.held ≡ old.held
