use Rattle.std.proofs.Common.{Err, ap, subst, sym, ◌∙◌}
use Rattle.silqc.specs.Asked.{check}
use Rattle.silqc.specs.Ending.{Tells}
use Rattle.silqc.proofs.Told.{accepted_tells, check_text_tells}
use Rattle.silqc.proofs.file.checked.Goals as goal

pub returns-in-Ok-clause-tells : goal.returns-in-Ok-clause-tells
returns-in-Ok-clause-tells c = λ old new.
    accepted_tells old new (record { text = c.args.text.now; entry = c.args.entry.now; statics = c.args.statics.now }) c.requires.short c.utf8.text c.in-Ok.ensures.accepted

pub returns-in-Err-clause-tells : goal.returns-in-Err-clause-tells
returns-in-Err-clause-tells c = λ old new.
    subst (λ st. Tells old new st check (record { text = c.args.text.now; entry = c.args.entry.now; statics = c.args.statics.now })) (sym c.text_status.ensures)
    (check_text_tells old new (record { text = c.args.text.now; entry = c.args.entry.now; statics = c.args.statics.now }) c.requires.short c.utf8.text c.in-Err.fault
    (λ f e. c.check_text.ensures.parse f (c.in-Err.is ∙ ap Err e)) (λ f e. c.check_text.ensures.check f (c.in-Err.is ∙ ap Err e)) (λ f e. c.check_text.ensures.no_compile f (c.in-Err.is ∙ ap Err e)))
