use Rattle.std.proofs.Common.{◌∙◌, length, map, rules}
use Rattle.silq_tree.specs.Arena.{expr_at}
use Rattle.silq_tree.specs.Standing.{type_of}
use Rattle.silq_mean.specs.Written.{result_types}
use Rattle.check_scope.specs.Headers.{spot_or}
use Rattle.check_scope.proofs.Chained.{first_along}
use Rattle.check_scope.proofs.HeaderLists.{behind_start, result_below, results_turn, results_stop}
use Rattle.check_scope.proofs.header.result_types.Goals as goal

pub loop-ty-init : goal.loop-ty-init
loop-ty-init c = rw c.new-types.ensures (behind_start (result_types c.args.statics.now (spot_or c.args.at) (map (type_of (expr_at c.args.tree.now)) c.args.results.now)))

pub header_type-requires : goal.header_type-requires
header_type-requires c = result_below (length c.args.tree.now.exprs) c.args.results.now c.loop-ty.ty-index _ c.requires c.loop-ty-test.true

pub returns-in_err-typed-clause-fault : goal.returns-in_err-typed-clause-fault
returns-in_err-typed-clause-fault c =
    let h = first_along c.in_err-typed.field-0.0 _ _ c.loop-ty.invariant
    (results_stop c.args.statics.now (spot_or c.args.at) (expr_at c.args.tree.now) c.args.results.now c.loop-ty.ty-index _ c.loop-ty.types c.in_err-typed.field-0.0
    c.loop-ty-test.true (rw c.given_or.ensures at c.in_err-typed.ensures.fault)) in
    search rules

pub loop-ty-preserved : goal.loop-ty-preserved
loop-ty-preserved c =
    rw c.in_ok-push.ensures.ok (c.loop-ty.invariant
    ∙ results_turn c.args.statics.now (spot_or c.args.at) (expr_at c.args.tree.now) c.args.results.now c.loop-ty.ty-index _ c.loop-ty.types c.in_ok-typed.typed
    c.loop-ty-test.true (rw c.given_or.ensures at c.in_ok-typed.ensures.value))
