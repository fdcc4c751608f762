-- What putting tokens does to a sink. Once it failed, nothing more is put.
use Rattle.std.specs.Prelude.{◌≡◌, ℕ, ◌≤◌, Bool, true, false, List, Option}
use Rattle.silq_io.specs.Counts.{Rose}
use Rattle.silq_io.specs.Sinks.{Adds, Breaks}
use Rattle.silq_grammar.specs.declared.token.Token.{Token}
use Rattle.silq_print.specs.Printed.{printed}

-- whether it failed, what was put, and how many faults there were
pub record State : Type 0 where
  pub failed : Bool
  pub told : Option (List ℕ)
  pub faults : ℕ

abbrev pub state : Bool → Option (List ℕ) → ℕ → State
state failed told faults = record { failed = failed; told = told; faults = faults }

-- The tokens were put, or a proper front of their bytes and then it failed, where the tree is sound.
pub record Puts (sound : Bool) (names : List (List ℕ)) (old new : State) (ts : List Token) : Type 0 where
  pub kept : old.failed ≡ true → new ≡ old
  pub counted : old.faults ≤ new.faults
  pub rose : old.failed ≡ false → new.failed ≡ true → Rose old.faults new.faults
  pub put : sound ≡ true → old.failed ≡ false → new.failed ≡ false → Adds old.told new.told (printed names ts)
  pub broke : sound ≡ true → old.failed ≡ false → new.failed ≡ true → Breaks old.told new.told (printed names ts)
