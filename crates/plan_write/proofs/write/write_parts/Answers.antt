-- The head, the lines of the moves and the end are the text.
use Rattle.std.proofs.lemmas.Result.{on_err_weaker, on_ok_weaker}
use Rattle.std.proofs.Common.{◌++◌, refl, ap, ap₂}
use Rattle.silq_io.proofs.Added.{on_err_from, adds_more, breaks_front, breaks_rest}
use Rattle.plan_gates.specs.PlanCircuit.{gates_of_plan, in_qubits, out_qubits}
use Rattle.qasm_write.specs.Written.{head_text, gate_lines, out_text}
use Rattle.qasm_write.proofs.Parts.{broke_first, broke_second, put_both, adds_as, breaks_as}
use Rattle.plan_write.specs.Text.{plan_text}
use Rattle.plan_write.proofs.write.write_parts.Goals as goal

pub returns-in_err-head-clause-broken : goal.returns-in_err-head-clause-broken
returns-in_err-head-clause-broken g c =
    let f = c.args.flat.now in
    let ms = c.args.moves.now in
    on_err_from c.from_residual.result
    (broke_first _ _ (head_text c.args.width f.outcomes (in_qubits f)) (gate_lines (gates_of_plan f ms) ++ out_text (out_qubits f ms)) (plan_text f ms c.args.width) refl
    (breaks_as _ _ _ _ (ap₂ (head_text c.args.width) c.outcomes.ensures c.requires.parameters) c.in_err-head.ensures.broken))

pub returns-in_err-write_moves-clause-broken : goal.returns-in_err-write_moves-clause-broken
returns-in_err-write_moves-clause-broken g c =
    let f = c.args.flat.now in
    let ms = c.args.moves.now in
    on_err_from c.from_residual-in_err-write_moves.result
    (broke_second _ _ _ (head_text c.args.width f.outcomes (in_qubits f)) (gate_lines (gates_of_plan f ms) ++ out_text (out_qubits f ms)) (plan_text f ms c.args.width) refl
    (adds_as _ _ _ _ (ap₂ (head_text c.args.width) c.outcomes.ensures c.requires.parameters) c.in_ok-head.ensures.ok)
    (breaks_front _ _ (gate_lines (gates_of_plan f ms)) (out_text (out_qubits f ms)) c.in_err-write_moves.ensures.broken))

pub returns-clause-ok : goal.returns-clause-ok
returns-clause-ok g c =
    let f = c.args.flat.now in
    let ms = c.args.moves.now in
    on_ok_weaker c.finish.result
    (λ h. put_both _ _ _ (head_text c.args.width f.outcomes (in_qubits f)) (gate_lines (gates_of_plan f ms) ++ out_text (out_qubits f ms)) (plan_text f ms c.args.width) refl
    (adds_as _ _ _ _ (ap₂ (head_text c.args.width) c.outcomes.ensures c.requires.parameters) c.in_ok-head.ensures.ok)
    (adds_more _ _ _ (gate_lines (gates_of_plan f ms)) (out_text (out_qubits f ms)) c.in_ok-write_moves.ensures.ok (adds_as _ _ _ _ (ap out_text c.requires.results) h)))
    c.finish.ensures.ok

pub returns-clause-broken : goal.returns-clause-broken
returns-clause-broken g c =
    let f = c.args.flat.now in
    let ms = c.args.moves.now in
    on_err_weaker c.finish.result
    (λ h. broke_second _ _ _ (head_text c.args.width f.outcomes (in_qubits f)) (gate_lines (gates_of_plan f ms) ++ out_text (out_qubits f ms)) (plan_text f ms c.args.width) refl
    (adds_as _ _ _ _ (ap₂ (head_text c.args.width) c.outcomes.ensures c.requires.parameters) c.in_ok-head.ensures.ok)
    (breaks_rest _ _ _ (gate_lines (gates_of_plan f ms)) (out_text (out_qubits f ms)) c.in_ok-write_moves.ensures.ok (breaks_as _ _ _ _ (ap out_text c.requires.results) h)))
    c.finish.ensures.broken
