use Rattle.check_fun.specs.Entry.{number_of_name}
use Rattle.check_scope.specs.Library.{Shelf}
use Rattle.silq_types.specs.Words.{words_of}
use Rattle.check_fun.proofs.EntryRules.{headers_refused, named_refused}
use Rattle.check_fun.proofs.check.check.Goals as goal

pub returns-in-Err-clause-refused : goal.returns-in-Err-clause-refused
returns-in-Err-clause-refused c =
    let whole : Shelf = record { nodes = c.args.program.tree; words = words_of c.args.program.names; funs = c.args.program.funs } in
    headers_refused c.in-Ok-new.library whole (number_of_name c.args.program.names c.args.entry.now) c.args.statics.now c.in-Err.fault c.in-Ok-new.ensures c.in-Err.ensures.fault

pub returns-in-Err-check_entry-clause-refused : goal.returns-in-Err-check_entry-clause-refused
returns-in-Err-check_entry-clause-refused c =
    let whole : Shelf = record { nodes = c.args.program.tree; words = words_of c.args.program.names; funs = c.args.program.funs } in
    named_refused c.in-Ok-new.library whole c.in-Ok.name (number_of_name c.args.program.names c.args.entry.now) c.in-Some.name c.args.statics.now c.in-Err-check_entry.fault
    c.in-Ok-new.ensures c.in-Ok.ensures c.in-Some.is c.in_default-headers.ensures.fine c.in-Err-check_entry.ensures.refused
