-- What the writer writes is read back.
use Rattle.std.proofs.Common.{◌≡◌, ℕ, zero, suc, ◌+◌, ◌<◌, ◌≤◌, ◌^◌, Bool, true, false, List, [], ◌∷◌, ◌++◌, nat_lt, length, append-nil, length-append, refl, sym, ◌∙◌, ap, arith}
use Rattle.std.specs.Prelude.{codes, Ok, Err, if◌then◌else◌}
use Rattle.std.specs.List.{list_all}
use Rattle.std.specs.Str.{chars, IsAscii}
use Rattle.std.proofs.lemmas.Bool.{ltb-true}
use Rattle.std.proofs.lemmas.Str.{chars-IsAscii}
use Rattle.silq_lex.specs.declared.token.Place.{Place}
use Rattle.silq_lex.specs.Tokens.{behind_all}
use Rattle.silq_lex.proofs.Texts.{and_left, and_right}
use Rattle.silq_io.specs.declared.limit.LimitKind.TheVariants as limits
use Rattle.gate_core.specs.declared.gate.Gate.{Gate}
use Rattle.qasm_tokens.specs.Tokens.{start, end_of, marks_within}
use Rattle.qasm_tokens.specs.Table.{a_text}
use Rattle.qasm_tokens.specs.Items.{reach, items_of}
use Rattle.qasm_write.specs.Written.{head_text, start_text, outcome_lines, gate_lines, list_line, list_lines, out_text}
use Rattle.qasm_read.specs.declared.fault.QasmFault.TheVariants.{Limit}
use Rattle.qasm_read.specs.Registers.{width}
use Rattle.qasm_read.specs.State.{State, at_start, ReadForm, read_form}
use Rattle.qasm_read.specs.Text.{read_chars, read_items}
use Rattle.read_laws.specs.Laws.{IsReadable, text_of, WrittenTextsReadBack}
use Rattle.read_laws.proofs.Parts.{is_ascii}
use Rattle.read_laws.proofs.Lines.{Reads, items, read_on, reads_both}
use Rattle.read_laws.proofs.Registers.{bit_registers, qubit_width, bit_width}
use Rattle.read_laws.proofs.Statements.{state_of}
use Rattle.read_laws.proofs.Walk.{gates_read}
use Rattle.read_laws.proofs.Lists.{ins_read, outs_read}
use Rattle.read_laws.proofs.Heads.{start_read, registers_read}

-- as many lines as lists, and each has a character
many_lines : (kind : List ℕ) (number : ℕ) (lists : List (List ℕ)) → length lists ≤ length (list_lines kind number lists)
many_lines kind number [] = omega arith
many_lines kind number (l ∷ ls) =
    let more : length ls ≤ length (list_lines kind (suc number) ls) = many_lines kind (suc number) ls in
    let parts : length (list_line kind number l ++ list_lines kind (suc number) ls) ≡ length (list_line kind number l) + length (list_lines kind
    (suc number) ls) =
    length-append (list_line kind number l) (list_lines kind (suc number) ls) in
    let some : 0 < length (list_line kind number l) = omega arith in
    omega arith

few_lists : (f : ReadForm) → length (text_of f) ≤ 268435456 → (length f.ins ≤ 268435456) × (length f.outs ≤ 268435456)
few_lists f h =
    let n : ℕ = f.circuit.qubits in
    let b : ℕ = f.circuit.bits in
    let heads : List ℕ = outcome_lines 0 b ++ list_lines (codes "in") 0 f.ins in
    let tail : List ℕ = gate_lines f.circuit.gates ++ out_text f.outs in
    let ins : length f.ins ≤ length (list_lines (codes "in") 0 f.ins) = many_lines (codes "in") 0 f.ins in
    let outs : length f.outs ≤ length (list_lines (codes "out") 0 f.outs) = many_lines (codes "out") 0 f.outs in
    let e1 : length (text_of f) ≡ length (head_text n b f.ins) + length tail = length-append (head_text n b f.ins) tail in
    let e2 : length (head_text n b f.ins) ≡ length (start_text n) + length heads = length-append (start_text n) heads in
    let e3 : length heads ≡ length (outcome_lines 0 b) + length (list_lines (codes "in") 0 f.ins) = length-append (outcome_lines 0 b) (list_lines
    (codes "in") 0 f.ins) in
    let e4 : length tail ≡ length (gate_lines f.circuit.gates) + length (out_text f.outs) = length-append (gate_lines f.circuit.gates) (out_text f.outs) in
    (omega arith, omega arith)

abbrev final : ReadForm → State
final f = state_of f.circuit.qubits f.circuit.bits f.circuit.gates f.ins f.outs

text_read : (f : ReadForm) → IsReadable f → Reads a_text at_start (final f) (text_of f)
text_read f r =
    let n : ℕ = f.circuit.qubits in
    let b : ℕ = f.circuit.bits in
    let gs : List Gate = f.circuit.gates in
    let few : (length f.ins ≤ 268435456) × (length f.outs ≤ 268435456) = few_lists f r.short in
    let qubits : n ≤ 100000 = r.few_qubits in
    let bits : b ≤ 4096 = r.few_bits in
    let count : length gs ≤ 6000000 = r.few_gates in
    let ins : length f.ins ≤ 268435456 = few.0 in
    let outs : length f.outs ≤ 268435456 = few.1 in
    let small : n < 2 ^ 32 = omega arith in
    let head : Reads a_text at_start (state_of n b [] f.ins []) (head_text n b f.ins) =
    reads_both a_text _ _ _ (start_text n) (outcome_lines 0 b ++ list_lines (codes "in") 0 f.ins) (start_read n qubits)
    (reads_both items _ _ _ (outcome_lines 0 b) (list_lines (codes "in") 0 f.ins) (registers_read n b bits)
    (ins_read n b [] small [] f.ins r.ins.some r.ins.in_range r.ins.differ (omega arith))) in
    let tail : Reads items (state_of n b [] f.ins []) (final f) (gate_lines gs ++ out_text f.outs) =
    reads_both items _ _ _ (gate_lines gs) (out_text f.outs)
    (gates_read n b f.ins [] small (omega arith) [] gs r.sound.each_fits r.values r.sound.measured_once (omega arith))
    (outs_read n b gs small f.ins f.outs r.outs.some r.outs.in_range r.outs.differ (omega arith)) in
    reads_both a_text _ _ _ (head_text n b f.ins) (gate_lines gs ++ out_text f.outs) head tail

-- at the end of a text
at_end : (end at : Place) (s : State) → read_on end items s at [] ≡ Ok (read_form s)
unfolding marks_within reach items_of read_items
at_end end at s = refl

read_whole : (text : List ℕ) (s : State) → Reads a_text at_start s text → read_chars text ≡ Ok (read_form s)
read_whole text s h =
    ap (read_on (end_of text) a_text at_start start) (sym (append-nil text)) ∙ h.goes (end_of text) start [] refl
    ∙ at_end (end_of text) (behind_all start text) s

form_is : (f : ReadForm) → read_form (final f) ≡ f
form_is f =
    ap (λ n. record {
      circuit = record {
        qubits = n;
        bits = width
            (bit_registers 0 f.circuit.bits);
        gates = f.circuit.gates;
      };
      ins = f.ins;
      outs = f.outs;
    }) (qubit_width f.circuit.qubits)
    ∙ ap (λ b. record { circuit = record { qubits = f.circuit.qubits; bits = b; gates = f.circuit.gates }; ins = f.ins; outs = f.outs })
    (bit_width f.circuit.bits 0)

of_ascii : (cs : List ℕ) → list_all is_ascii cs ≡ true → IsAscii cs
of_ascii [] h i = omega arith
of_ascii (c ∷ cs) h zero = ltb-true c 128 (and_left _ _ h)
of_ascii (c ∷ cs) h (suc i) = of_ascii cs (and_right (is_ascii c) _ h) i

short_enough : (n : ℕ) → n ≤ 268435456 → nat_lt 268435456 n ≡ false
short_enough n h = of (nat_lt 268435456 n) refl
  where
    of : (b : Bool) → nat_lt 268435456 n ≡ b → b ≡ false
    of true e = let l : 268435456 < n = ltb-true 268435456 n e in absurd (omega arith)
    of false e = refl

pub read_back : WrittenTextsReadBack
read_back f r =
    let h : Reads a_text at_start (final f) (text_of f) = text_read f r in
    ap (λ b. if b then Err (Limit (record { which = limits.Text; count = 268435457 })) else read_chars (chars (text_of f))) (short_enough (length
    (text_of f)) r.short)
    ∙ ap read_chars (chars-IsAscii (text_of f) (of_ascii (text_of f) h.ascii))
    ∙ read_whole (text_of f) (final f) h
    ∙ ap Ok (form_is f)
