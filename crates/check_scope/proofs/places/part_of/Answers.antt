use Rattle.std.proofs.Common.{rules, to_z-of_z, SFits, w64}
use Rattle.silq_tree.specs.Arena.{expr_at}
use Rattle.check_scope.specs.State.{scope_in}
use Rattle.check_scope.proofs.PlaceSteps.{at_exit}
use Rattle.check_scope.proofs.PlaceBlocks.{one_index, two_indices, first_stops, second_stops}
use Rattle.check_scope.proofs.places.part_of.Goals as goal

pub returns-in_err-first-clause-stops : goal.returns-in_err-first-clause-stops
returns-in_err-first-clause-stops c = λ met. at_exit _ _ _ c.from_residual.ensures.1 (rw c.in-Some.is (first_stops met (scope_in c.args.library.now c.args.cx.now) c.args.cx.now (expr_at c.args.library.now.nodes) c.args.place.name c.in-Some.i c.args.place.second _ (c.in_err-first.ensures.stops met)))

pub returns-in_default-second-clause-reads : goal.returns-in_default-second-clause-reads
returns-in_default-second-clause-reads c = λ met.
    let f : SFits w64 c.in_ok-first.first = search rules in
    simp to_z-of_z (rw c.in-Some.is (one_index met (scope_in c.args.library.now c.args.cx.now) c.args.cx.now (expr_at c.args.library.now.nodes) c.args.place.name c.in-Some.i c.args.place.second _ c.in_default-second.is (c.in_ok-first.ensures.reads met)))

pub returns-in_err-second-clause-stops : goal.returns-in_err-second-clause-stops
returns-in_err-second-clause-stops c = λ met. at_exit _ _ _ c.from_residual-in_err-second.ensures.1 (rw c.in-Some.is (second_stops met (scope_in c.args.library.now c.args.cx.now) c.args.cx.now (expr_at c.args.library.now.nodes) c.args.place.name c.in-Some.i c.args.place.second c.in-Some-second.j _ _ c.in-Some-second.is (c.in_ok-first.ensures.reads met) (c.in_err-second.ensures.stops met)))

pub returns-clause-reads : goal.returns-clause-reads
returns-clause-reads c = λ met.
    let f : SFits w64 c.in_ok-first.first = search rules in
    let g : SFits w64 c.in_ok-second.second = search rules in
    simp to_z-of_z (rw c.in-Some.is (two_indices met (scope_in c.args.library.now c.args.cx.now) c.args.cx.now (expr_at c.args.library.now.nodes) c.args.place.name c.in-Some.i c.args.place.second c.in-Some-second.j _ _ c.in-Some-second.is (c.in_ok-first.ensures.reads met) (c.in_ok-second.ensures.reads met)))
