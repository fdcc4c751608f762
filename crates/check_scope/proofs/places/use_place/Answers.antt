use Rattle.std.proofs.lemmas.Result.{IfOk-weaker, IfErr-weaker}
use Rattle.silq_tree.specs.Arena.{expr_at}
use Rattle.silq_tree.specs.Standing.{place_of}
use Rattle.check_scope.specs.State.{scope_in}
use Rattle.check_scope.proofs.PlaceSteps.{at_exit}
use Rattle.check_scope.proofs.PlaceBlocks.{name_of_part, place_reads, place_stops, place_unknown, place_needs}
use Rattle.check_scope.proofs.places.use_place.Goals as goal

pub returns-in_err-part-clause-stops : goal.returns-in_err-part-clause-stops
returns-in_err-part-clause-stops c = λ met. at_exit _ _ _ c.from_residual.ensures.1 (place_needs met (scope_in c.args.library.now c.args.cx.now) (place_of (expr_at c.args.library.now.nodes) c.args.place) c.args.at c.args.need _ _ (c.in_err-part.ensures.stops met))

pub returns-in_err-obey-clause-stops : goal.returns-in_err-obey-clause-stops
returns-in_err-obey-clause-stops c = λ met. at_exit _ _ _ c.from_residual-in_err-obey.ensures.1
    (place_unknown met (scope_in c.args.library.now c.args.cx.now) (place_of (expr_at c.args.library.now.nodes) c.args.place) c.args.at c.args.need c.args.place.name c.in_ok-part.part c.args.cx.now (name_of_part (expr_at c.args.library.now.nodes) c.args.place.name c.args.place.first c.args.place.second) c.in_ok-part.ensures.part _ (c.in_ok-part.ensures.reads met) (rw c.is_known_name-unknown.ensures at (c.in_err-obey.ensures.stops met c.args.cx.now)))

pub returns-clause-reads : goal.returns-clause-reads
returns-clause-reads c = λ met.
    IfOk-weaker c.use_found.result _ _
    (λ v r. place_reads met (scope_in c.args.library.now c.args.cx.now) (place_of (expr_at c.args.library.now.nodes) c.args.place) c.args.at c.args.need c.args.place.name c.in_ok-part.part c.args.cx.now (name_of_part (expr_at c.args.library.now.nodes) c.args.place.name c.args.place.first c.args.place.second) c.in_ok-part.ensures.part v _ (c.in_ok-part.ensures.reads met) (rw c.is_known_name-unknown.ensures at (c.in_ok-obey.ensures.reads met c.args.cx.now)) r)
    (c.use_found.ensures.reads met c.args.library.now)

pub returns-clause-stops : goal.returns-clause-stops
returns-clause-stops c = λ met.
    IfErr-weaker c.use_found.result _ _
    (λ v r. place_stops met (scope_in c.args.library.now c.args.cx.now) (place_of (expr_at c.args.library.now.nodes) c.args.place) c.args.at c.args.need c.args.place.name c.in_ok-part.part c.args.cx.now (name_of_part (expr_at c.args.library.now.nodes) c.args.place.name c.args.place.first c.args.place.second) c.in_ok-part.ensures.part v _ (c.in_ok-part.ensures.reads met) (rw c.is_known_name-unknown.ensures at (c.in_ok-obey.ensures.reads met c.args.cx.now)) r)
    (c.use_found.ensures.stops met c.args.library.now)
