use Rattle.std.proofs.Common.{rules, ◌≡◌, sym, Ok, Err, to_z-of_z, SFits, w64}
use Rattle.silq_tree.specs.Arena.{expr_at}
use Rattle.static_num.specs.Static.{eval_of}
use Rattle.check_scope.specs.State.{scope_in}
use Rattle.check_scope.proofs.PlaceSteps.{at_exit}
use Rattle.check_scope.proofs.PlaceBlocks.{needed_reads, needed_stops, needed_unknown}
use Rattle.check_scope.proofs.places.needed.Goals as goal

pub returns-in_err-known_names-clause-stops : goal.returns-in_err-known_names-clause-stops
returns-in_err-known_names-clause-stops c = λ met. at_exit _ _ _ c.from_residual.ensures.1 (needed_unknown met (scope_in c.args.library.now c.args.cx.now) (expr_at c.args.library.now.nodes c.args.e) _ _ (c.in_err-known_names.ensures.stops met))

pub returns-in-Ok-clause-reads : goal.returns-in-Ok-clause-reads
returns-in-Ok-clause-reads c = λ met.
    let f : SFits w64 c.in-Ok.value = search rules in
    let told : Ok c.in-Ok.value ≡ eval_of c.args.cx.now.statics (expr_at c.args.library.now.nodes c.args.e) = rw (c.statics.ensures, c.tree.ensures) at c.in-Ok.ensures.value in
    simp to_z-of_z (needed_reads met (scope_in c.args.library.now c.args.cx.now) (expr_at c.args.library.now.nodes c.args.e) _ _ (c.in_ok-known_names.ensures.reads met) (sym told))

pub returns-in-Err-clause-stops : goal.returns-in-Err-clause-stops
returns-in-Err-clause-stops c = λ met.
    let told : Err c.in-Err.field-0 ≡ eval_of c.args.cx.now.statics (expr_at c.args.library.now.nodes c.args.e) = rw (c.statics.ensures, c.tree.ensures) at c.in-Err.ensures.value in
    needed_stops met (scope_in c.args.library.now c.args.cx.now) (expr_at c.args.library.now.nodes c.args.e) _ _ _ (c.in_ok-known_names.ensures.reads met) (sym told) c.spot_of.ensures
