use Rattle.std.proofs.Common.{◌∙◌, Err, ap, subst, arith}
use Rattle.tree_walk.specs.Seen.{job_at}
use Rattle.silq_compile.specs.Headline.{Refuses}
use Rattle.silq_compile.proofs.Entries.{entry_fine, funs_below, told}
use Rattle.silq_compile.proofs.Circuits.{refuses, text_put, told_as_it_is}
use Rattle.silq_compile.proofs.text.compile_text.Goals as goal

pub check-requires : goal.check-requires
check-requires g c =
    let parsed = c.in-Ok.ensures.program.parsed in
    funs_below 0 _ _ parsed.funs_in_order (omega (arith, parsed.funs_are_all))

pub compile-requires-clause-fine : goal.compile-requires-clause-fine
compile-requires-clause-fine g c = (entry_fine c.args.text.now c.args.entry.now c.args.statics.now c.in-Ok.program.tree c.in-Ok.program.names c.in-Ok.program.funs c.in-Ok.ensures.fine c.in-Ok.ensures.program
    c.in-Ok-check.checked.library c.in-Ok-check.ensures.library c.in-Ok-check.checked.entry.fun.number c.as_slice.result.now
    (record { entry = c.in-Ok-check.ensures.accepted.0; met = c.in-Ok-check.checked.known }) c.in-Ok-check.ensures.accepted.1 c.in-Ok-check.ensures.found
    (c.as_slice.ensures ∙ c.in-Ok-check.ensures.values)).0

pub compile-requires-clause-ends : goal.compile-requires-clause-ends
compile-requires-clause-ends g c = (entry_fine c.args.text.now c.args.entry.now c.args.statics.now c.in-Ok.program.tree c.in-Ok.program.names c.in-Ok.program.funs c.in-Ok.ensures.fine c.in-Ok.ensures.program
    c.in-Ok-check.checked.library c.in-Ok-check.ensures.library c.in-Ok-check.checked.entry.fun.number c.as_slice.result.now
    (record { entry = c.in-Ok-check.ensures.accepted.0; met = c.in-Ok-check.checked.known }) c.in-Ok-check.ensures.accepted.1 c.in-Ok-check.ensures.found
    (c.as_slice.ensures ∙ c.in-Ok-check.ensures.values)).1

pub returns-in-Ok-compile-clause-done : goal.returns-in-Ok-compile-clause-done
returns-in-Ok-compile-clause-done g c =
    text_put c.args.output c.args.budget _ _ (record { text = c.args.text.now; entry = c.args.entry.now; statics = c.args.statics.now }) (job_at c.in-Ok-check.checked.library c.in-Ok-check.checked.entry.fun.number c.as_slice.result.now)
    (entry_fine c.args.text.now c.args.entry.now c.args.statics.now c.in-Ok.program.tree c.in-Ok.program.names c.in-Ok.program.funs c.in-Ok.ensures.fine c.in-Ok.ensures.program
    c.in-Ok-check.checked.library c.in-Ok-check.ensures.library c.in-Ok-check.checked.entry.fun.number c.as_slice.result.now
    (record { entry = c.in-Ok-check.ensures.accepted.0; met = c.in-Ok-check.checked.known }) c.in-Ok-check.ensures.accepted.1 c.in-Ok-check.ensures.found
    (c.as_slice.ensures ∙ c.in-Ok-check.ensures.values))
    (told c.args.text.now c.args.entry.now c.args.statics.now c.in-Ok.program.tree c.in-Ok.program.names c.in-Ok.program.funs c.in-Ok.ensures.fine c.in-Ok.ensures.program
    c.in-Ok-check.checked.library c.in-Ok-check.ensures.library c.in-Ok-check.checked.entry.fun.number c.as_slice.result.now
    (record { entry = c.in-Ok-check.ensures.accepted.0; met = c.in-Ok-check.checked.known }) c.in-Ok-check.ensures.accepted.1 c.in-Ok-check.ensures.found
    (c.as_slice.ensures ∙ c.in-Ok-check.ensures.values))
    c.in-Ok-compile.ensures.done

pub returns-clause-compile : goal.returns-clause-compile
returns-clause-compile g c = λ f is.
    subst (Refuses c.args.output c.args.budget (g.S.Sink.put_so_far c.args.out.now) (g.S.Sink.put_so_far c.compile.new.out) (record { text = c.args.text.now; entry = c.args.entry.now; statics = c.args.statics.now })) (told_as_it_is c.in-Err-compile.fault f is)
    (refuses c.args.output c.args.budget _ _ (record { text = c.args.text.now; entry = c.args.entry.now; statics = c.args.statics.now }) (job_at c.in-Ok-check.checked.library c.in-Ok-check.checked.entry.fun.number c.as_slice.result.now)
    (entry_fine c.args.text.now c.args.entry.now c.args.statics.now c.in-Ok.program.tree c.in-Ok.program.names c.in-Ok.program.funs c.in-Ok.ensures.fine c.in-Ok.ensures.program
    c.in-Ok-check.checked.library c.in-Ok-check.ensures.library c.in-Ok-check.checked.entry.fun.number c.as_slice.result.now
    (record { entry = c.in-Ok-check.ensures.accepted.0; met = c.in-Ok-check.checked.known }) c.in-Ok-check.ensures.accepted.1 c.in-Ok-check.ensures.found
    (c.as_slice.ensures ∙ c.in-Ok-check.ensures.values))
    (told c.args.text.now c.args.entry.now c.args.statics.now c.in-Ok.program.tree c.in-Ok.program.names c.in-Ok.program.funs c.in-Ok.ensures.fine c.in-Ok.ensures.program
    c.in-Ok-check.checked.library c.in-Ok-check.ensures.library c.in-Ok-check.checked.entry.fun.number c.as_slice.result.now
    (record { entry = c.in-Ok-check.ensures.accepted.0; met = c.in-Ok-check.checked.known }) c.in-Ok-check.ensures.accepted.1 c.in-Ok-check.ensures.found
    (c.as_slice.ensures ∙ c.in-Ok-check.ensures.values))
    c.in-Err-compile.fault
    (λ over e. c.compile.ensures.limit over (c.in-Err-compile.is ∙ ap Err e)) (λ places e. c.compile.ensures.cycle places (c.in-Err-compile.is ∙ ap Err e))
    (λ least e. c.compile.ensures.over_budget least (c.in-Err-compile.is ∙ ap Err e)) (λ e. c.compile.ensures.broken (c.in-Err-compile.is ∙ ap Err e)))
