use Rattle.std.proofs.Common.{◌≡◌, drop, length, map}
use Rattle.bit_arith.specs.Built.{tidy, read, literals, under_condition}
use Rattle.bit_arith.specs.Calls.{AllSafe, no_target}
use Rattle.bit_arith.proofs.builder.Builder.literals.Given as goal

abbrev pub invariant-loop-operand : goal.invariant-loop-operand
invariant-loop-operand l = record {
  same : tidy l.kept.items (map (read l.self.draft) (drop l.operand-index l.list)) ≡ literals l.self.draft (under_condition l.fn.condition l.list);
  safe : AllSafe (length l.self.draft.wires) no_target (drop l.operand-index l.list);
}
