use Rattle.std.proofs.Common.{Err, ap, subst, sym, ◌∙◌}
use Rattle.silq_compile.specs.Sources.{Source}
use Rattle.silqc.specs.Asked.{mean}
use Rattle.silqc.specs.Ending.{Tells}
use Rattle.silqc.proofs.Told.{source_tells, table_tells}
use Rattle.silqc.proofs.file.tabled.Goals as goal

pub returns-in-Ok-clause-tells : goal.returns-in-Ok-clause-tells
returns-in-Ok-clause-tells g c =
    table_tells _ _ c.args.input.now c.args.outcome.now (record { text = c.args.text.now; entry = c.args.entry.now; statics = c.args.statics.now }) c.requires.short c.utf8.text c.in-Ok.ensures.done

pub returns-in-Err-clause-tells : goal.returns-in-Err-clause-tells
returns-in-Err-clause-tells g c =
    let s : Source = record { text = c.args.text.now; entry = c.args.entry.now; statics = c.args.statics.now } in
    subst (λ st. Tells (g.S.Sink.put_so_far c.args.out.now) (g.S.Sink.put_so_far c.put_table_of_source.new.out) st (mean c.args.input.now c.args.outcome.now) s) (sym c.source_status.ensures)
    (source_tells (g.S.Sink.put_so_far c.args.out.now) (g.S.Sink.put_so_far c.put_table_of_source.new.out) c.args.input.now c.args.outcome.now s c.requires.short c.utf8.text c.in-Err.fault
    (λ f e. c.put_table_of_source.ensures.parse f (c.in-Err.is ∙ ap Err e)) (λ f e. c.put_table_of_source.ensures.check f (c.in-Err.is ∙ ap Err e))
    (λ f e. c.put_table_of_source.ensures.run f (c.in-Err.is ∙ ap Err e)) (λ e. c.put_table_of_source.ensures.broken (c.in-Err.is ∙ ap Err e)))
