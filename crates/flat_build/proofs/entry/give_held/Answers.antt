use Rattle.tree_walk.specs.Written.{give_names}
use Rattle.flat_build.proofs.Carrying.{onward_start}
use Rattle.tree_walk.proofs.Faults.{if_err_from}
use Rattle.flat_build.proofs.Giving.{name_ready, name_refused, name_more, names_done}
use Rattle.flat_build.proofs.entry.give_held.Goals as goal

pub loop-name-init : goal.loop-name-init
loop-name-init c = onward_start (give_names c.args.names.now) c.args.state.now c.requires

pub give_part-requires : goal.give_part-requires
give_part-requires c = name_ready c.args.names.now c.loop-name.name-index (record { number = 0 }) _ c.loop-name.state c.loop-name-test.true c.loop-name.invariant

pub returns-in_err-give_part-clause-refused : goal.returns-in_err-give_part-clause-refused
returns-in_err-give_part-clause-refused c = if_err_from _ _ _ c.from_residual.ensures.1 (name_refused c.args.names.now c.loop-name.name-index (record { number = 0 }) _ c.loop-name.state c.loop-name-test.true c.loop-name.invariant _ c.in_err-give_part.ensures.refused)

pub loop-name-preserved : goal.loop-name-preserved
loop-name-preserved c = name_more c.args.names.now c.loop-name.name-index (record { number = 0 }) _ c.loop-name.state c.loop-name-test.true c.loop-name.invariant _ c.in_ok-give_part.ensures.ok

pub returns-clause-ok : goal.returns-clause-ok
returns-clause-ok c = names_done c.args.names.now c.loop-name.name-index _ _ c.loop-name-test.false c.loop-name.invariant
