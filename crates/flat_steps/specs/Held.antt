-- Values that are taken for a change of their wires.
use Rattle.std.specs.Prelude.{◌≡◌, true, List, [], length}
use Rattle.silq_types.specs.Types.{shape_bits}
use Rattle.flat_core.specs.Form.{DraftForm}
use Rattle.bit_arith.specs.declared.operand.Operand.{Operand}
use Rattle.bit_arith.specs.Built.{Built, Setting, Given, under}
use Rattle.bit_arith.specs.Calls.{among, no_target, AllSafe, AreTargets, WasRead}
use Rattle.flat_form.specs.declared.known.TypedBits.{TypedBits}
use Rattle.flat_form.specs.declared.known.Known.{Known}
use Rattle.flat_form.specs.declared.known.Known.TheVariants.{Shown}
use Rattle.flat_form.specs.Fine.{Distinct}
use Rattle.flat_form.specs.State.{are_wires, wires_in, as_they_are, taken}

-- what taking a value builds, and the value with the wires that it gives
abbrev pub taking : Setting → Known → Built → Given (List Operand)
taking at (Shown v) b = taken at v b
taking at k b = as_they_are [] b

abbrev pub now_taken : Setting → Known → Built → Known
now_taken at (Shown v) b = Shown (record v { operands = (taken at v b).answer })
now_taken at k b = k

-- a value whose wires may be changed
pub record Held (v : TypedBits) (d : DraftForm) (at : Setting) : Type 0 where
  pub size : length v.operands ≡ shape_bits v.shape
  pub wires : are_wires v.operands ≡ true
  pub there : AllSafe (length d.wires) no_target v.operands
  pub targets : AreTargets d (wires_in v.operands)
  pub distinct : Distinct (wires_in v.operands)
  pub guards : AllSafe (length d.wires) (among (wires_in v.operands)) (under at [])
  pub condition : AllSafe (length d.wires) no_target (under at [])
  pub read : WasRead d at.condition
