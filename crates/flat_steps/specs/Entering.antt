-- How a builder enters a branch.
use Rattle.std.specs.Prelude.{◌≡◌, Option, None}
use Rattle.bit_arith.specs.declared.operand.Operand.{Operand}
use Rattle.bit_arith.specs.Built.{Given}
use Rattle.bit_arith.specs.Calls.{Building}

-- a branch that was entered: its row is within all limits, and its condition is in force
pub record Entered (old new : Building) (row : Given (Option Operand)) : Type 0 where
  pub within : row.built.over ≡ None
  pub built : new.draft ≡ row.built.draft
  pub setting : new.setting ≡ record { line = old.setting.line; condition = row.answer }
