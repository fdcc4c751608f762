use Rattle.std.proofs.Common.{◌≡◌, ℕ, ◌+◌, ◌++◌}
use Rattle.bit_arith.specs.Built.{begun, new_wires, next_wires}
use Rattle.bit_arith.specs.Calls.{AreTargets}
use Rattle.bit_arith.proofs.builder.Builder.new_wires.Given as goal

abbrev pub invariant-loop : goal.invariant-loop
invariant-loop l = record {
  built : (rest : ℕ) → rest + l.counter ≡ l.n → new_wires rest (begun l.self.draft) ≡ new_wires l.n (begun l.fn.self.draft);
  kept : l.self.setting ≡ l.fn.self.setting;
  answer : (rest : ℕ) → rest + l.counter ≡ l.n → l.wires.items ++ next_wires rest (begun l.self.draft) ≡ next_wires l.n (begun l.fn.self.draft);
  targets : AreTargets l.self.draft l.wires.items;
}
