-- Operators on two values.
use Rattle.std.specs.Prelude.{◌≡◌, Bool, ◌++◌, List, length, ⊤}
use Rattle.silq_tree.specs.declared.node.BinaryOp.{BinaryOp}
use Rattle.silq_tree.specs.declared.node.BinaryOp.TheVariants.{Ne, Lt, Le, Gt, Ge}
use Rattle.bit_arith.specs.declared.operand.Operand.{Operand}
use Rattle.bit_arith.specs.Built.{Built, Setting, Given, negated, under}
use Rattle.bit_arith.specs.Rows.{equal, less}
use Rattle.bit_arith.specs.Calls.{AllSafe, no_target}
use Rattle.flat_form.specs.declared.known.Known.{Known}
use Rattle.flat_form.specs.declared.known.Known.TheVariants.{Shown}
use Rattle.flat_form.specs.State.{Flattening}

abbrev pub not_so : Given Operand → Given Operand
not_so g = record { answer = negated g.answer; built = g.built }

-- the bit of a comparison; any other operator is read as ==
abbrev pub compared : BinaryOp → Bool → Setting → List Operand → List Operand → Built → Given Operand
compared Ne signed at ps qs b = not_so (equal at ps qs b)
compared Lt signed at ps qs b = less at signed ps qs b
compared Ge signed at ps qs b = not_so (less at signed ps qs b)
compared Gt signed at ps qs b = less at signed qs ps b
compared Le signed at ps qs b = not_so (less at signed qs ps b)
compared op signed at ps qs b = equal at ps qs b

-- two values of as many bits, whose wires are there
abbrev pub CanJoin : Known → Known → Flattening → Type 0
CanJoin (Shown v) (Shown w) s = (length v.operands ≡ length w.operands) × AllSafe (length s.built.draft.wires) no_target (under s.setting (v.operands ++ w.operands))
CanJoin k l s = ⊤
