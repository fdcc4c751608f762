use Rattle.std.proofs.Common.{◌∙◌, subst, arith}
use Rattle.silq_compile.proofs.Entries.{funs_below, told}
use Rattle.source_table.specs.Tables.{HasTable, StopsRun}
use Rattle.source_table.proofs.Stopped.{broken, done, not_failed, same_run, stops}
use Rattle.source_table.proofs.table.put_table_of_source.Goals as goal

pub check-requires : goal.check-requires
check-requires g c =
    let parsed = c.in-Ok.ensures.program.parsed in
    funs_below 0 _ _ parsed.funs_in_order (omega (arith, parsed.funs_are_all))

pub returns-in-Ok-run-clause-done : goal.returns-in-Ok-run-clause-done
returns-in-Ok-run-clause-done g c =
    done c.args.input.now c.args.outcome.now _ _ _ c.in-Ok-run.table
    (told c.args.text.now c.args.entry.now c.args.statics.now c.in-Ok.program.tree c.in-Ok.program.names c.in-Ok.program.funs c.in-Ok.ensures.fine
    c.in-Ok.ensures.program
    c.in-Ok-check.checked.library c.in-Ok-check.ensures.library c.in-Ok-check.checked.entry.fun.number c.as_slice.result.now
    (record { entry = c.in-Ok-check.ensures.accepted.0; met = c.in-Ok-check.checked.known }) c.in-Ok-check.ensures.accepted.1 c.in-Ok-check.ensures.found
    (c.as_slice.ensures ∙ c.in-Ok-check.ensures.values)
    (HasTable c.args.input.now c.args.outcome.now c.in-Ok-run.table)
    (record { terms = c.in-Ok-run.ensures.ran.0; ran = c.in-Ok-run.ensures.ran.1; table = c.in-Ok-run.ensures.table }))
    c.put.result c.put.ensures.ok

pub returns-in-Ok-run-clause-broken : goal.returns-in-Ok-run-clause-broken
returns-in-Ok-run-clause-broken g c =
    broken c.args.input.now c.args.outcome.now _ _ _ c.in-Ok-run.table
    (told c.args.text.now c.args.entry.now c.args.statics.now c.in-Ok.program.tree c.in-Ok.program.names c.in-Ok.program.funs c.in-Ok.ensures.fine
    c.in-Ok.ensures.program
    c.in-Ok-check.checked.library c.in-Ok-check.ensures.library c.in-Ok-check.checked.entry.fun.number c.as_slice.result.now
    (record { entry = c.in-Ok-check.ensures.accepted.0; met = c.in-Ok-check.checked.known }) c.in-Ok-check.ensures.accepted.1 c.in-Ok-check.ensures.found
    (c.as_slice.ensures ∙ c.in-Ok-check.ensures.values)
    (HasTable c.args.input.now c.args.outcome.now c.in-Ok-run.table)
    (record { terms = c.in-Ok-run.ensures.ran.0; ran = c.in-Ok-run.ensures.ran.1; table = c.in-Ok-run.ensures.table }))
    c.put.result c.put.ensures.broken

pub returns-in-Ok-run-clause-refused : goal.returns-in-Ok-run-clause-refused
returns-in-Ok-run-clause-refused g c = not_failed _ c.put.result c.put.ensures.sink

pub returns-clause-run : goal.returns-clause-run
returns-clause-run g c = λ f is.
    subst
    (λ fault. StopsRun c.args.input.now c.args.outcome.now fault (record { text = c.args.text.now; entry = c.args.entry.now; statics = c.args.statics.now }))
    (same_run c.in-Err-run.fault f is)
    (stops c.args.input.now c.args.outcome.now _ _
    (told c.args.text.now c.args.entry.now c.args.statics.now c.in-Ok.program.tree c.in-Ok.program.names c.in-Ok.program.funs c.in-Ok.ensures.fine
    c.in-Ok.ensures.program
    c.in-Ok-check.checked.library c.in-Ok-check.ensures.library c.in-Ok-check.checked.entry.fun.number c.as_slice.result.now
    (record { entry = c.in-Ok-check.ensures.accepted.0; met = c.in-Ok-check.checked.known }) c.in-Ok-check.ensures.accepted.1 c.in-Ok-check.ensures.found
    (c.as_slice.ensures ∙ c.in-Ok-check.ensures.values))
    c.in-Err-run.fault c.in-Err-run.ensures.refused)
