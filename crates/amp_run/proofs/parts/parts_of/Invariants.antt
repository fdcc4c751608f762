use Rattle.std.proofs.Common.{◌++◌, All, length}
use Rattle.std.specs.Vec.Iter.{into_iter_items}
use Rattle.amp_core.specs.Size.{Small}
use Rattle.sum_laws.specs.Rearranged.{Rearranged}
use Rattle.sum_laws.specs.Terms.{apply}
use Rattle.gate_core.specs.Circuit.{qubits_of}
use Rattle.gate_core.specs.Local.{AllBelow}
use Rattle.gate_core.specs.Meaning.{branches}
use Rattle.amp_run.specs.Parts.{all_parts}
use Rattle.amp_run.proofs.parts.parts_of.Given as goal

-- what is made of the terms so far, and the terms that are left
abbrev pub invariant-loop-bits : goal.invariant-loop-bits
invariant-loop-bits l = record {
  made : Rearranged (apply (branches l.outcome l.known l.gate) l.fn.terms) (all_parts l.parts ++ apply (branches l.outcome l.known l.gate) (into_iter_items l.bits-iterator));
  small : All (λ t. Small t.1) (into_iter_items l.bits-iterator);
  qubits : All (λ t. AllBelow (length t.0) (qubits_of l.gate)) (into_iter_items l.bits-iterator);
}
