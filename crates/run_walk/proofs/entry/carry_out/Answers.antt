use Rattle.std.proofs.Common.{◌∙◌}
use Rattle.check_scope.specs.Library.{function_at}
use Rattle.silq_mean.specs.Meaning.{params_of, give_held}
use Rattle.run_stage.proofs.Composing.{turn_refused_first}
use Rattle.tree_walk.specs.Seen.{run_in}
use Rattle.tree_walk.proofs.Faults.{if_err_from}
use Rattle.run_walk.proofs.Carrying.{ok_as, refused_as}
use Rattle.run_walk.proofs.Entries.{held_is}
use Rattle.run_walk.proofs.entry.carry_out.Goals as goal

pub returns-in_err-run_body-clause-refused : goal.returns-in_err-run_body-clause-refused
returns-in_err-run_body-clause-refused c =
    if_err_from _ _ _ c.from_residual-in_err-run_body.ensures.1
    (turn_refused_first (run_in c.args.library.now c.args.body.now)
    (give_held (params_of (function_at c.args.library.now c.args.body.now.this) c.args.body.now.statics)) c.args.stage.now
    _ c.in_err-run_body.ensures.refused)

pub returns-clause-ok : goal.returns-clause-ok
returns-clause-ok c =
    ok_as _ _
    (held_is c.args.library.now c.args.body.now c.as_slice.result.now c.args.stage.now _
    (c.as_slice.ensures ∙ c.in_ok-held.ensures c.args.body.now.statics) c.in_ok-run_body.ensures.ok)
    c.give_held.result _ c.give_held.ensures.ok

pub returns-clause-refused : goal.returns-clause-refused
returns-clause-refused c =
    refused_as _ _
    (held_is c.args.library.now c.args.body.now c.as_slice.result.now c.args.stage.now _
    (c.as_slice.ensures ∙ c.in_ok-held.ensures c.args.body.now.statics) c.in_ok-run_body.ensures.ok)
    c.give_held.result c.give_held.ensures.refused
