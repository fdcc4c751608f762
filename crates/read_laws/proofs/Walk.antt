-- The statements of a written text, one after another.
use Rattle.std.proofs.Common.{◌≡◌, ℕ, ◌+◌, ◌<◌, ◌≤◌, ◌^◌, List, [], ◌∷◌, ◌++◌, length, length-append, append_assoc, append-nil, refl, sym, ◌∙◌, ap, subst, arith}
use Rattle.std.specs.Prelude.{All}
use Rattle.std.proofs.lemmas.List.Elements.{All-head, All-tail}
use Rattle.gate_core.specs.declared.gate.PlainGate.{PlainGate}
use Rattle.gate_core.specs.declared.gate.PlainGate.TheVariants.{One as PlainOne, Cx as PlainCx, Cz as PlainCz, Ccx as PlainCcx}
use Rattle.gate_core.specs.declared.gate.Gate.{Gate}
use Rattle.gate_core.specs.declared.gate.Gate.TheVariants.{One, Cx, Cz, Ccx, Measure, If}
use Rattle.gate_core.specs.Local.{AllDiffer, AllBelow, gate_qubits, as_gate}
use Rattle.gate_core.specs.Circuit.{GateFits, measured_by, measured_bits}
use Rattle.qasm_write.specs.Written.{plain_line, gate_line, gate_lines}
use Rattle.read_laws.specs.Laws.{ValueFits}
use Rattle.read_laws.proofs.Differ.{differ_middle, front_differs}
use Rattle.read_laws.proofs.Lines.{Reads, items, reads_nothing, reads_both, reads_line}
use Rattle.read_laws.proofs.GateParts.{plain_parts, measure_parts, if_parts, plain_text, measure_text, if_text}
use Rattle.read_laws.proofs.Statements.{state_of, plain_item, measure_item, if_item}

measured_append : (gs hs : List Gate) → measured_bits (gs ++ hs) ≡ measured_bits gs ++ measured_bits hs
measured_append [] hs = refl
measured_append (g ∷ gs) hs = ap (λ l. measured_by g ++ l) (measured_append gs hs) ∙ sym (append_assoc (measured_by g) (measured_bits gs) (measured_bits hs))

module _ (n b : ℕ) (ins outs : List (List ℕ)) (few_qubits : n < 2 ^ 32) (few_bits : b < 2 ^ 32) where
  plain_read : (done : List Gate) (g : PlainGate) → AllBelow n (gate_qubits g) → AllDiffer (gate_qubits g) → length done < 6000000
      → Reads items (state_of n b done ins outs) (state_of n b (done ++ as_gate g ∷ []) ins outs) (plain_line g)
  plain_read done g h d l = reads_line items _ _ (plain_parts g) (plain_line g) (plain_text g) (plain_item n b done ins outs few_qubits g h d l)

  gate_read : (done : List Gate) (g : Gate) → GateFits n b g → ValueFits g → AllDiffer (measured_bits done ++ measured_by g) → length done < 6000000
      → Reads items (state_of n b done ins outs) (state_of n b (done ++ g ∷ []) ins outs) (gate_line g)
  gate_read done (One kind q) f v a l = plain_read done (PlainOne kind q) f.qubits_in_range f.qubits_differ l
  gate_read done (Cx c t) f v a l = plain_read done (PlainCx c t) f.qubits_in_range f.qubits_differ l
  gate_read done (Cz c t) f v a l = plain_read done (PlainCz c t) f.qubits_in_range f.qubits_differ l
  gate_read done (Ccx x y t) f v a l = plain_read done (PlainCcx x y t) f.qubits_in_range f.qubits_differ l
  gate_read done (Measure q bit) f v a l =
      reads_line items _ _ (measure_parts q bit) _ (measure_text q bit)
      (measure_item n b done ins outs few_qubits q bit f.qubits_in_range.0 f.bits_in_range.0 few_bits (differ_middle bit (measured_bits done) [] a) l)
  gate_read done (If bit value g) f v a l =
      reads_line items _ _ (if_parts bit value g) _ (if_text bit value g)
      (if_item n b done ins outs few_qubits bit value g f.qubits_in_range f.qubits_differ f.bits_in_range.0 few_bits v l)

  pub gates_read : (done gs : List Gate) → All (GateFits n b) gs → All ValueFits gs → AllDiffer (measured_bits done ++ measured_bits gs)
      → length done + length gs ≤ 6000000
      → Reads items (state_of n b done ins outs) (state_of n b (done ++ gs) ins outs) (gate_lines gs)
  gates_read done [] f v a l = subst (λ z. Reads items (state_of n b done ins outs) (state_of n b z ins outs) []) (sym (append-nil done)) (reads_nothing _)
  gates_read done (g ∷ gs) f v a l =
      let each : AllDiffer ((measured_bits done ++ measured_by g) ++ measured_bits gs) =
      subst AllDiffer (sym (append_assoc (measured_bits done) (measured_by g) (measured_bits gs))) a in
      let now : measured_bits (done ++ g ∷ []) ≡ measured_bits done ++ measured_by g =
      measured_append done (g ∷ []) ∙ ap (λ l. measured_bits done ++ l) (append-nil (measured_by g)) in
      let first : Reads items (state_of n b done ins outs) (state_of n b (done ++ g ∷ []) ins outs) (gate_line g) =
      gate_read done g (All-head (GateFits n b) g gs f) (All-head ValueFits g gs v) (front_differs _ (measured_bits gs) each) (omega arith) in
      let others : Reads items (state_of n b (done ++ g ∷ []) ins outs) (state_of n b ((done ++ g ∷ []) ++ gs) ins outs) (gate_lines gs) =
      gates_read (done ++ g ∷ []) gs (All-tail (GateFits n b) g gs f) (All-tail ValueFits g gs v) (subst (λ z. AllDiffer (z ++ measured_bits gs))
      (sym now) each)
      (omega (arith, length-append done (g ∷ []))) in
      subst (λ z. Reads items (state_of n b done ins outs) (state_of n b z ins outs) (gate_lines (g ∷ gs))) (append_assoc done (g ∷ []) gs)
      (reads_both items _ _ _ (gate_line g) (gate_lines gs) first others)
