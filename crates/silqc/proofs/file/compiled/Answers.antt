use Rattle.std.proofs.Common.{Err, ap, subst, sym, ◌∙◌}
use Rattle.silq_compile.specs.Sources.{Source}
use Rattle.silqc.specs.Asked.{compile}
use Rattle.silqc.specs.Ending.{Tells}
use Rattle.silqc.proofs.Told.{put_tells, text_tells}
use Rattle.silqc.proofs.file.compiled.Goals as goal

pub returns-in-Ok-clause-tells : goal.returns-in-Ok-clause-tells
returns-in-Ok-clause-tells g c =
    put_tells _ _ c.args.output c.args.budget (record { text = c.args.text.now; entry = c.args.entry.now; statics = c.args.statics.now }) c.requires.short c.utf8.text c.in-Ok.ensures.done

pub returns-in-Err-clause-tells : goal.returns-in-Err-clause-tells
returns-in-Err-clause-tells g c =
    let s : Source = record { text = c.args.text.now; entry = c.args.entry.now; statics = c.args.statics.now } in
    subst (λ st. Tells (g.S.Sink.put_so_far c.args.out.now) (g.S.Sink.put_so_far c.compile_text.new.out) st (compile c.args.output c.args.budget) s) (sym c.text_status.ensures)
    (text_tells (g.S.Sink.put_so_far c.args.out.now) (g.S.Sink.put_so_far c.compile_text.new.out) c.args.output c.args.budget s c.requires.short c.utf8.text c.in-Err.fault
    (λ f e. c.compile_text.ensures.parse f (c.in-Err.is ∙ ap Err e)) (λ f e. c.compile_text.ensures.check f (c.in-Err.is ∙ ap Err e)) (λ f e. c.compile_text.ensures.compile f (c.in-Err.is ∙ ap Err e)))
