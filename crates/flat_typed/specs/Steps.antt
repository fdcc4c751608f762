-- Laws on single steps that are proved: which wires rows of steps touch.
use Rattle.std.specs.Prelude.{ℕ, List}
use Rattle.silq_tree.specs.declared.node.UnaryOp.{UnaryOp}
use Rattle.silq_tree.specs.declared.node.BinaryOp.{BinaryOp}
use Rattle.silq_tree.specs.declared.node.UpdateOp.{UpdateOp}
use Rattle.silq_types.specs.declared.types.Shape.{Shape}
use Rattle.silq_mean.specs.declared.receiver.Receiver.{Receiver}
use Rattle.flat_core.specs.declared.step.WireId.{WireId}
use Rattle.flat_core.specs.declared.step.End.{End}
use Rattle.flat_core.specs.declared.step.End.TheVariants.{Measured}
use Rattle.flat_core.specs.Label.{same_wire}
use Rattle.bit_arith.specs.declared.operand.Operand.{Operand}
use Rattle.bit_arith.specs.Built.{Built, Setting}
use Rattle.bit_arith.specs.Rows.{turn, had}
use Rattle.bit_arith.specs.Calls.{Targets, among, no_target}
use Rattle.flat_form.specs.declared.known.TypedBits.{TypedBits}
use Rattle.flat_form.specs.State.{copied}
use Rattle.flat_form.specs.Flat.{by_one, by_two, end_all, measure_all, taken_for, update_by}
use Rattle.flat_typed.specs.Footprint.{Touches, StaysPlain}

-- of old wires those of a set alone are touched, and none comes to be mixed
pub record Quiet (T : Targets) (b e : Built) : Type 0 where
  pub touches : Touches T b.draft e.draft
  pub plain : StaysPlain b.draft e.draft

pub record RowsTouch : Type 0 where
  -- operators, copies, takers and phases touch no old wire
  pub one : (op : UnaryOp) (at : Setting) (ps : List Operand) (b : Built) → Quiet no_target b (by_one op at ps b).built
  pub two : (op : BinaryOp) (s : Shape) (at : Setting) (ps qs : List Operand) (b : Built) → Quiet no_target b (by_two op s at ps qs b).built
  pub copies : (at : Setting) (ps : List Operand) (b : Built) → Quiet no_target b (copied at ps b).built
  pub takers : (r : Receiver) (at : Setting) (v : TypedBits) (b : Built) → Quiet no_target b (taken_for r at v b).built
  pub turns : (at : Setting) (k : ℕ) (ps : List Operand) (b : Built) → Quiet no_target b (turn at k ps b)
  -- updates, ends and measures touch their own wires
  pub updates : (op : UpdateOp) (at : Setting) (ws : List WireId) (ps : List Operand) (b : Built) → Quiet (among ws) b (update_by op at ws ps b)
  pub ends : (e : End) (ws : List WireId) (b : Built) → Quiet (among ws) b (end_all e ws b)
  pub measures : (at : Setting) (ws : List WireId) (b : Built) → Quiet (among ws) b (end_all Measured ws (measure_all at ws b))
  -- and so does H, which mixes it
  pub mixes : (at : Setting) (w : WireId) (b : Built) → Touches (same_wire w) b.draft (had at w b).draft
