use Rattle.std.proofs.Common.{◌∙◌, length, map, rules}
use Rattle.silq_tree.specs.Arena.{expr_at}
use Rattle.silq_tree.specs.Standing.{param_of}
use Rattle.silq_mean.specs.Written.{param_types}
use Rattle.check_scope.specs.Headers.{spot_or}
use Rattle.check_scope.proofs.Chained.{first_along}
use Rattle.check_scope.proofs.HeaderLists.{behind_start, param_below, params_turn, params_stop}
use Rattle.check_scope.proofs.header.param_types.Goals as goal

pub loop-param-init : goal.loop-param-init
loop-param-init c =
    rw c.new-types.ensures (behind_start (param_types c.args.statics.now c.args.mark (spot_or c.args.at) (map (param_of (expr_at c.args.tree.now)) c.args.params.now)))

pub header_type-requires : goal.header_type-requires
header_type-requires c = param_below (length c.args.tree.now.exprs) c.args.params.now c.loop-param.param-index _ c.requires c.loop-param-test.true

pub returns-in_err-ty-clause-fault : goal.returns-in_err-ty-clause-fault
returns-in_err-ty-clause-fault c =
    let h = first_along c.in_err-ty.field-0.0 _ _ c.loop-param.invariant
    (params_stop c.args.statics.now (spot_or c.args.at) (expr_at c.args.tree.now) c.args.mark c.args.params.now c.loop-param.param-index _ c.loop-param.types
    c.in_err-ty.field-0.0 c.loop-param-test.true (rw c.given_or.ensures at c.in_err-ty.ensures.fault)) in
    search rules

pub loop-param-preserved : goal.loop-param-preserved
loop-param-preserved c =
    rw (c.in_ok-push.ensures.ok, c.is_held-held.ensures) (c.loop-param.invariant
    ∙ params_turn c.args.statics.now (spot_or c.args.at) (expr_at c.args.tree.now) c.args.mark c.args.params.now c.loop-param.param-index _ c.loop-param.types c.in_ok-ty.ty
    c.loop-param-test.true (rw c.given_or.ensures at c.in_ok-ty.ensures.value))
