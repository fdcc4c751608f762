use Rattle.std.proofs.lemmas.Result.{on_err_weaker, on_ok_weaker}
use Rattle.std.proofs.Common.{◌++◌, refl}
use Rattle.std.specs.Prelude.{codes}
use Rattle.silq_io.proofs.Added.{adds_more, breaks_front, breaks_rest, on_err_from}
use Rattle.qasm_write.specs.Written.{start_text, outcome_lines, list_lines, head_text}
use Rattle.qasm_write.proofs.Parts.{broke_first, broke_second, put_both}
use Rattle.qasm_write.proofs.writer.QasmWriter.head.Goals as goal

pub returns-in_err-put_start-clause-broken : goal.returns-in_err-put_start-clause-broken
returns-in_err-put_start-clause-broken g c = on_err_from c.from_residual.result
    (broke_first _ _ (start_text c.args.width) (outcome_lines 0 c.args.outcomes ++ list_lines (codes "in") 0 c.args.ins.now)
    (head_text c.args.width c.args.outcomes c.args.ins.now) refl c.in_err-put_start.ensures.broken)

pub returns-in_err-put_outcomes-clause-broken : goal.returns-in_err-put_outcomes-clause-broken
returns-in_err-put_outcomes-clause-broken g c = on_err_from c.from_residual-in_err-put_outcomes.result
    (broke_second _ _ _ (start_text c.args.width) (outcome_lines 0 c.args.outcomes ++ list_lines (codes "in") 0 c.args.ins.now)
    (head_text c.args.width c.args.outcomes c.args.ins.now) refl c.in_ok-put_start.ensures.ok
    (breaks_front _ _ (outcome_lines 0 c.args.outcomes) (list_lines (codes "in") 0 c.args.ins.now) c.in_err-put_outcomes.ensures.broken))

pub returns-clause-ok : goal.returns-clause-ok
returns-clause-ok g c = on_ok_weaker c.put_lists.result
    (λ h. put_both _ _ _ (start_text c.args.width) (outcome_lines 0 c.args.outcomes ++ list_lines (codes "in") 0 c.args.ins.now)
    (head_text c.args.width c.args.outcomes c.args.ins.now) refl c.in_ok-put_start.ensures.ok
    (adds_more _ _ _ (outcome_lines 0 c.args.outcomes) (list_lines (codes "in") 0 c.args.ins.now) c.in_ok-put_outcomes.ensures.ok h))
    (rw c.as_slice.ensures at c.put_lists.ensures.ok)

pub returns-clause-broken : goal.returns-clause-broken
returns-clause-broken g c = on_err_weaker c.put_lists.result
    (λ h. broke_second _ _ _ (start_text c.args.width) (outcome_lines 0 c.args.outcomes ++ list_lines (codes "in") 0 c.args.ins.now)
    (head_text c.args.width c.args.outcomes c.args.ins.now) refl c.in_ok-put_start.ensures.ok
    (breaks_rest _ _ _ (outcome_lines 0 c.args.outcomes) (list_lines (codes "in") 0 c.args.ins.now) c.in_ok-put_outcomes.ensures.ok h))
    (rw c.as_slice.ensures at c.put_lists.ensures.broken)
