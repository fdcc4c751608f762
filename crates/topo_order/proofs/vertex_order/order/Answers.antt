use Rattle.std.proofs.Common.{List, Option, arith, sym, ap, ◌∙◌}
use Rattle.graph_core.specs.declared.graph.VertexId.{VertexId}
use Rattle.topo_order.specs.ReadyTree.{tree_at}
use Rattle.topo_order.proofs.Orders.{given_cycle_is_cycle}
use Rattle.topo_order.proofs.Going.{all_flagged, fewer}
use Rattle.topo_order.proofs.Falling.{turning_start, turning_enough, turning_more, first_next, none_next}
use Rattle.topo_order.proofs.Given.{given_from_ids}
use Rattle.topo_order.proofs.Answered.{answer_order, answer_acyclic}
use Rattle.topo_order.proofs.vertex_order.order.Goals as goal

pub loop-v-init : goal.loop-v-init
loop-v-init c =
    turning_start _ _ _ _ _ _ c.len.ensures.count (c.in_ok-taken.ensures.items_if_clones_equal (λ y e. e)) c.new-ids.ensures c.in_ok-counters.ensures (rw c.deref.ensures.value at c.in_ok-tree.ensures)

pub take_vertex-requires-clause-enough : goal.take_vertex-requires-clause-enough
take_vertex-requires-clause-enough c =
    let first = ap (λ (t : List (Option VertexId)). tree_at t 1) (sym c.deref-in-loop-v.ensures.value) ∙ sym c.in-Some.ensures in
    rw c.deref_mut.ensures.value (turning_enough _ _ _ _ _ c.loop-v.invariant c.in-Some.v first)

pub loop-v-preserved : goal.loop-v-preserved
loop-v-preserved c =
    let first = ap (λ (t : List (Option VertexId)). tree_at t 1) (sym c.deref-in-loop-v.ensures.value) ∙ sym c.in-Some.ensures in
    let next = first_next _ _ _ _ _ c.loop-v.invariant c.in-Some.v first in
    let taken = rw (c.deref_mut.ensures.value, c.deref_mut-in-Some.ensures.value) at c.take_vertex.ensures in
    rw c.in_ok-push.ensures.ok
    (turning_more c.args.graph.now c.loop-v.taken.items c.loop-v.ids c.loop-v.counters.items c.loop-v.tree.items c.loop-v.invariant c.in-Some.v next c.take_vertex.new.counters c.take_vertex.new.tree taken
    c.len.ensures.sound c.loop-v.counters.len c.loop-v.tree.len (omega (arith, c.loop-v.counters.ok)) (omega (arith, c.loop-v.tree.ok)))

pub loop-v-smaller : goal.loop-v-smaller
loop-v-smaller c =
    let first = ap (λ (t : List (Option VertexId)). tree_at t 1) (sym c.deref-in-loop-v.ensures.value) ∙ sym c.in-Some.ensures in
    let next = first_next c.args.graph.now c.loop-v.taken.items c.loop-v.ids c.loop-v.counters.items c.loop-v.tree.items c.loop-v.invariant c.in-Some.v first in
    let there = next.there in
    let sized = c.loop-v.invariant.going.sized in
    fewer c.loop-v.taken.items c.in-Some.v.number (omega arith) next.ready.fresh

pub returns-in-None-clause-ready : goal.returns-in-None-clause-ready
returns-in-None-clause-ready c = answer_order _ c.len.ensures.sound _ _ c.loop-v.invariant.going (all_flagged _ c.len.ensures.sound _ _ c.loop-v.invariant.going (rw c.deref-2.ensures.value at c.in-None.ensures.none))

pub returns-in-None-clause-acyclic : goal.returns-in-None-clause-acyclic
returns-in-None-clause-acyclic c = answer_acyclic _ c.len.ensures.sound _ _ c.loop-v.invariant.going (all_flagged _ c.len.ensures.sound _ _ c.loop-v.invariant.going (rw c.deref-2.ensures.value at c.in-None.ensures.none))

pub given_cycle-requires-clause-stuck : goal.given_cycle-requires-clause-stuck
given_cycle-requires-clause-stuck c =
    let none = ap (λ (t : List (Option VertexId)). tree_at t 1) (sym c.deref-in-loop-v.ensures.value) ∙ sym c.in_default.ensures in
    rw c.deref-in-Some-least_left.ensures.value (none_next _ _ _ _ _ c.loop-v.invariant none)

pub returns-clause-given : goal.returns-clause-given
returns-clause-given c =
    let none = ap (λ (t : List (Option VertexId)). tree_at t 1) (sym c.deref-in-loop-v.ensures.value) ∙ sym c.in_default.ensures in
    given_from_ids _ c.len.ensures.sound _ _ c.loop-v.invariant.going (none_next _ _ _ _ _ c.loop-v.invariant none) _ (rw c.deref-in-Some-least_left.ensures.value at c.in_ok-vertices-in-Some-least_left.ensures.cycle)

pub returns-clause-cycle : goal.returns-clause-cycle
returns-clause-cycle c =
    let none = ap (λ (t : List (Option VertexId)). tree_at t 1) (sym c.deref-in-loop-v.ensures.value) ∙ sym c.in_default.ensures in
    given_cycle_is_cycle _ _ (given_from_ids _ c.len.ensures.sound _ _ c.loop-v.invariant.going (none_next _ _ _ _ _ c.loop-v.invariant none) _ (rw c.deref-in-Some-least_left.ensures.value at c.in_ok-vertices-in-Some-least_left.ensures.cycle))
