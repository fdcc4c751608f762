use Rattle.std.proofs.lemmas.Result.{on_err_weaker}
use Rattle.std.proofs.Common.{◌++◌, codes, refl}
use Rattle.silq_io.proofs.Added.{on_err_from, breaks_front, breaks_rest}
use Rattle.qasm_write.proofs.Parts.{broke_first, broke_second}
use Rattle.silqc.specs.Note.{cycle_note, places_text}
use Rattle.silqc.proofs.status.put_cycle.Goals as goal

pub returns-in_err-put_all-clause-broken : goal.returns-in_err-put_all-clause-broken
returns-in_err-put_all-clause-broken g c = on_err_from c.from_residual.result
    (broke_first _ _ (codes "silqc: cycle:") (places_text c.args.cycle.now ++ codes "\n") (cycle_note c.args.cycle.now) refl c.in_err-put_all.ensures.broken)

pub returns-in_err-put_places-clause-broken : goal.returns-in_err-put_places-clause-broken
returns-in_err-put_places-clause-broken g c = on_err_from c.from_residual-in_err-put_places.result
    (broke_second _ _ _ (codes "silqc: cycle:") (places_text c.args.cycle.now ++ codes "\n") (cycle_note c.args.cycle.now) refl c.in_ok-put_all.ensures.ok
    (breaks_front _ _ (places_text c.args.cycle.now) (codes "\n") c.in_err-put_places.ensures.broken))

pub returns-clause-broken : goal.returns-clause-broken
returns-clause-broken g c = on_err_weaker c.put_all-2.result
    (λ h. broke_second _ _ _ (codes "silqc: cycle:") (places_text c.args.cycle.now ++ codes "\n") (cycle_note c.args.cycle.now) refl c.in_ok-put_all.ensures.ok
    (breaks_rest _ _ _ (places_text c.args.cycle.now) (codes "\n") c.in_ok-put_places.ensures.ok h))
    c.put_all-2.ensures.broken
