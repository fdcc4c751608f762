-- Wires that may be changed by operands.
use Rattle.std.specs.Prelude.{◌≡◌, List, length}
use Rattle.flat_core.specs.declared.step.WireId.{WireId}
use Rattle.bit_arith.specs.declared.operand.Operand.{Operand}
use Rattle.flat_core.specs.declared.step.End.TheVariants.{Zeroed}
use Rattle.bit_arith.specs.Built.{Built, Setting, under}
use Rattle.bit_arith.specs.Rows.{flip_each}
use Rattle.bit_arith.specs.Calls.{Building, among, AllSafe, AreTargets}
use Rattle.flat_form.specs.Flat.{end_all}

-- an operand for each wire; the wires are there and not measured; neither the operands nor the condition in force name them
pub record MayChangeBy (b : Building) (ws : List WireId) (ps : List Operand) : Type 0 where
  pub lengths : length ws ≡ length ps
  pub targets : AreTargets b.draft ws
  pub safe : AllSafe (length b.draft.wires) (among ws) (under b.setting ps)

-- operands undone on wires, which are 0 then
abbrev pub zeroed : Setting → List WireId → List Operand → Built → Built
zeroed at ws ps b = end_all Zeroed ws (flip_each at ws ps b)
