use Rattle.std.proofs.Common.{◌∙◌, arith}
use Rattle.check_fun.specs.Program.{Accepted}
use Rattle.tree_walk.specs.Seen.{job_at}
use Rattle.flat_laws.proofs.EndsWhole.{ends_fit}
use Rattle.silq_compile.proofs.Entries.{entry_fine, funs_below}
use Rattle.test_flatten.proofs.forms.form_of.Goals as goal

pub check-requires : goal.check-requires
check-requires c =
    let parsed = c.in-Ok.ensures.program.parsed in
    funs_below 0 _ _ parsed.funs_in_order (omega (arith, parsed.funs_are_all))

pub flatten-requires-clause-fine : goal.flatten-requires-clause-fine
flatten-requires-clause-fine c =
    let program = c.in-Ok.program in
    let checked = c.in-Ok-check.checked in
    let told = c.in-Ok-check.ensures in
    let accepted : Accepted = record { entry = told.accepted.0; met = checked.known } in
    let same = c.as_slice.ensures ∙ told.values in
    (entry_fine c.args.text.now c.args.entry.now c.args.statics.now program.tree program.names program.funs c.in-Ok.ensures.fine
    c.in-Ok.ensures.program checked.library told.library checked.entry.fun.number c.as_slice.result.now accepted told.accepted.1
    told.found same).0

pub flatten-requires-clause-ends : goal.flatten-requires-clause-ends
flatten-requires-clause-ends c =
    let program = c.in-Ok.program in
    let checked = c.in-Ok-check.checked in
    let told = c.in-Ok-check.ensures in
    let accepted : Accepted = record { entry = told.accepted.0; met = checked.known } in
    let same = c.as_slice.ensures ∙ told.values in
    let well = entry_fine c.args.text.now c.args.entry.now c.args.statics.now program.tree program.names program.funs
    c.in-Ok.ensures.fine c.in-Ok.ensures.program checked.library told.library checked.entry.fun.number c.as_slice.result.now
    accepted told.accepted.1 told.found same in
    ends_fit (job_at checked.library checked.entry.fun.number c.as_slice.result.now) well.0 well.1
