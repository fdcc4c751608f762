use Rattle.std.proofs.Common.{◌≡◌, length, sym, subst, arith}
use Rattle.reqomp.specs.Simple.{marked_at}
use Rattle.reqomp.specs.Trying.{AreRedone}
use Rattle.reqomp.proofs.Turns.{none_by_cycle, moves_by_order, counted_moves}
use Rattle.reqomp.proofs.ordered.ordered_moves.Goals as goal

pub returns-in-None-clause-moves : goal.returns-in-None-clause-moves
returns-in-None-clause-moves c =
    let cycle = rw c.in-None.is at c.in_ok-order_if_any.ensures.cycle in
    none_by_cycle c.args.flat.now c.args.marks.now.level c.in_ok-graph.graph c.in_ok-graph.ensures.edges cycle.0 cycle.1

pub returns-clause-moves : goal.returns-clause-moves
returns-clause-moves c =
    let f = c.args.flat.now in
    let k = c.args.marks.now.level in
    let o = rw c.in-Some.is at c.in_ok-order_if_any.ensures.order in
    let redone = subst (AreRedone f (marked_at f k)) (sym c.deref.ensures.value) (λ i group e. (c.requires.groups.each i group e).redone) in
    moves_by_order f k c.in_ok-graph.graph c.in_ok-graph.ensures.edges c.in-Some.ids c.in_ok-moves_of_groups-in-Some.field-0 o (λ order are. c.in_ok-moves_of_groups-in-Some.ensures (marked_at f k) order redone are)

pub returns-clause-few : goal.returns-clause-few
returns-clause-few c =
    let f = c.args.flat.now in
    let k = c.args.marks.now.level in
    let o = rw c.in-Some.is at c.in_ok-order_if_any.ensures.order in
    let redone = subst (AreRedone f (marked_at f k)) (sym c.deref.ensures.value) (λ i group e. (c.requires.groups.each i group e).redone) in
    let h = moves_by_order f k c.in_ok-graph.graph c.in_ok-graph.ensures.edges c.in-Some.ids c.in_ok-moves_of_groups-in-Some.field-0 o (λ order are. c.in_ok-moves_of_groups-in-Some.ensures (marked_at f k) order redone are) in
    let n : length c.in_ok-moves_of_groups-in-Some.field-0 ≡ c.args.groups.now.moves = counted_moves f k c.args.circuit.now c.requires.circuit c.args.groups.now c.requires.groups c.in_ok-moves_of_groups-in-Some.field-0 h in
    omega arith
