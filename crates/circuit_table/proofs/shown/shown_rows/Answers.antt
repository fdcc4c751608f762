use Rattle.std.proofs.Common.{◌≡◌, ℕ, List, length, Ok, ap, sym, ◌∙◌, subst, arith}
use Rattle.qasm_read.specs.State.{ReadForm}
use Rattle.qasm_read.specs.Text.{reading}
use Rattle.circuit_table.proofs.Turning.{has_table, shown_wide}
use Rattle.circuit_table.proofs.shown.shown_rows.Goals as goal

pub returns-clause-table : goal.returns-clause-table
returns-clause-table c = λ text spelled.
    let count : c.len.result ≡ length c.deref.result.now =
    (let a = c.len.ensures in let b = c.deref.ensures.len in let e = ap (λ (xs : List ℕ). length xs) c.deref.ensures.value in omega arith) in
    has_table (record { circuit = c.circuit.inside.circuit; ins = c.circuit.inside.ins; outs = c.circuit.inside.outs }) c.args.input.now c.args.outcome.now text
    c.qubits.result c.len.result c.deref.result.now c.in_ok-rows.rows c.in_ok-rows-2.rows
    (subst (λ (form : ReadForm). reading text ≡ Ok form) (sym c.circuit.view_is) spelled)
    c.in_ok-rows.ensures.accepted c.qubits.ensures (c.deref.ensures.value ∙ c.in_ok-outs.ensures) count c.in_ok-rows.ensures.table c.in_ok-rows-2.ensures

pub returns-clause-wide : goal.returns-clause-wide
returns-clause-wide c =
    let count : c.len.result ≡ length c.deref.result.now =
    (let a = c.len.ensures in let b = c.deref.ensures.len in let e = ap (λ (xs : List ℕ). length xs) c.deref.ensures.value in omega arith) in
    shown_wide c.qubits.result c.len.result c.deref.result.now c.in_ok-rows.rows c.in_ok-rows-2.rows count c.in_ok-rows-2.ensures
