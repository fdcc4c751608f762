use Rattle.std.proofs.Common.{◌≡◌, ℕ, Bool, false, List, [], ◌∷◌, replicate, ap, ◌∙◌, subst}
use Rattle.amp_core.specs.declared.Amp.{Amp}
use Rattle.amp_core.specs.Amplitude.{one}
use Rattle.sum_laws.specs.Table.{TableOf}
use Rattle.gate_core.specs.declared.gate.Gate.{Gate}
use Rattle.gate_core.specs.Meaning.{joined, placed, meaning, run}
use Rattle.amp_run.proofs.table.Goals as goal

whole : (n bits : ℕ) (gates : List Gate) (ins : List (List ℕ)) (input outcome : List Bool) (qs : List ℕ) (u : List Bool) (rows : List (List Bool × Amp))
    → qs ≡ joined ins → u ≡ placed qs input (replicate n false) → TableOf (run outcome (replicate bits false) gates ((u, one) ∷ [])) rows → TableOf (meaning n bits gates ins input outcome) rows
unfolding meaning
whole n bits gates ins input outcome qs u rows e f t =
    subst (λ w. TableOf (run outcome (replicate bits false) gates ((w, one) ∷ [])) rows) (f ∙ ap (λ ps. placed ps input (replicate n false)) e) t

pub returns-clause-table : goal.returns-clause-table
returns-clause-table c =
    whole c.args.circuit.now.qubits c.args.circuit.now.bits c.args.circuit.now.gates c.args.ins.now c.args.input.now c.args.outcome.now c.in_ok-qubits.qubits.items c.in_ok-bits.bits c.in_ok-run.field-0
    c.in_ok-qubits.ensures
    (c.in_ok-bits.ensures.value ∙ ap (λ qs. placed qs c.args.input.now (replicate c.qubits.result false)) c.deref-2.ensures.value ∙ ap (λ n. placed c.in_ok-qubits.qubits.items c.args.input.now (replicate n false)) c.qubits.ensures)
    c.in_ok-run.ensures.table
