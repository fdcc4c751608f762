use Rattle.std.proofs.Common.{◌∙◌}
use Rattle.tree_walk.proofs.Faults.{if_err_from}
use Rattle.source_table.proofs.Entered.{refused_at, rows_small, shown_at, table_at}
use Rattle.source_table.proofs.run.run.Goals as goal

pub returns-in_err-rows-clause-refused : goal.returns-in_err-rows-clause-refused
returns-in_err-rows-clause-refused c =
    if_err_from _ _ _ c.from_residual-in_err-rows.ensures.1
    (refused_at c.args.library.now c.args.fun c.args.statics.now c.requires.fun c.in_ok-body.body c.in_ok-body.ensures c.as_slice.result.now
    (c.as_slice.ensures ∙ c.in_ok-sizes.ensures) c.args.input.now c.args.outcome.now _ c.in_err-rows.ensures.refused)

pub merged-requires : goal.merged-requires
merged-requires c =
    rows_small c.args.library.now c.args.fun c.args.statics.now c.requires.fun c.in_ok-body.body c.in_ok-body.ensures c.as_slice.result.now
    (c.as_slice.ensures ∙ c.in_ok-sizes.ensures) c.args.input.now c.args.outcome.now
    c.in_ok-rows.rows c.in_ok-rows.ensures.shown

pub returns-clause-table : goal.returns-clause-table
returns-clause-table c =
    table_at c.args.library.now c.args.fun c.args.statics.now c.requires.fun c.in_ok-body.body c.in_ok-body.ensures c.as_slice.result.now
    (c.as_slice.ensures ∙ c.in_ok-sizes.ensures) c.args.input.now c.args.outcome.now
    c.in_ok-rows.rows c.in_ok-rows.ensures.shown c.in_ok-table.table c.in_ok-table.ensures

pub returns-clause-ran : goal.returns-clause-ran
returns-clause-ran c =
    let h = shown_at c.args.library.now c.args.fun c.args.statics.now c.requires.fun c.in_ok-body.body c.in_ok-body.ensures c.as_slice.result.now
    (c.as_slice.ensures ∙ c.in_ok-sizes.ensures) c.args.input.now c.args.outcome.now
    c.in_ok-rows.rows c.in_ok-rows.ensures.shown in
    (h.0, h.1)
