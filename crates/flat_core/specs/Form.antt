-- A flat form as a value: its wires and its steps.
use Rattle.std.specs.Prelude.{ℕ, Bool, List}
use Rattle.flat_core.specs.declared.step.Step.{Step}
use Rattle.flat_core.specs.declared.step.End.{End}
use Rattle.flat_core.specs.declared.step.WireId.{WireId}

-- one wire: whether it is an input, and what becomes of it
pub record WireForm : Type 0 where
  pub input : Bool
  pub ending : End

-- wires in the order of their numbers, steps in order with their source lines, how many outcome bits there are,
-- and the wires of each parameter and of each result
pub record FlatForm : Type 0 where
  pub wires : List WireForm
  pub steps : List Step
  pub lines : List ℕ
  pub outcomes : ℕ
  pub ins : List (List WireId)
  pub outs : List (List WireId)

-- a flat form in the making
pub record DraftForm : Type 0 where
  pub wires : List WireForm
  pub steps : List Step
  pub lines : List ℕ
