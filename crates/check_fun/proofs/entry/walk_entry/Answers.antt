use Rattle.check_fun.proofs.EntryRules.{walk_refused, walk_accepted}
use Rattle.check_fun.proofs.entry.walk_entry.Goals as goal

pub returns-in-Ok-check_one-clause-accepted : goal.returns-in-Ok-check_one-clause-accepted
returns-in-Ok-check_one-clause-accepted c =
    walk_accepted c.args.library.now c.args.number c.args.statics.now c.args.at c.in-Ok.key c.in-Ok-instance_key.entry c.new-tally.result c.check_one.new.tally c.into_known.result
    c.requires.fun c.requires.at c.requires.rules c.in-Ok.ensures c.in-Ok-instance_key.ensures c.new-tally.ensures c.into_known.ensures c.in-Ok-check_one.ensures.known

pub returns-in-Err-clause-refused : goal.returns-in-Err-clause-refused
returns-in-Err-clause-refused c =
    walk_refused c.args.library.now c.args.number c.args.statics.now c.args.at c.in-Err.fault c.in-Ok.key c.new-tally.result
    c.requires.fun c.requires.at c.requires.rules c.in-Ok.ensures c.new-tally.ensures c.in-Err.ensures.fault
