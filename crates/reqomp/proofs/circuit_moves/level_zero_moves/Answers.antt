use Rattle.std.proofs.Common.{List, sym, subst}
use Rattle.std.proofs.lemmas.Result.{err_from_is_err_and}
use Rattle.graph_core.specs.declared.graph.VertexId.{VertexId}
use Rattle.graph_core.specs.Arena.{digraph_of}
use Rattle.graph_core.specs.Digraph.{IsCycle}
use Rattle.graph_core.specs.Circuit.{circuit_graph}
use Rattle.topo_order.specs.GivenCycle.{IsGivenCycle}
use Rattle.move_plan.specs.declared.moves.Move.{Move}
use Rattle.reqomp.specs.Level.{IsLevel}
use Rattle.reqomp.proofs.InOrder.{cycle_kept}
use Rattle.reqomp.proofs.LevelZero.{level_zero}
use Rattle.reqomp.proofs.Sameness.{orders_of_circuit}
use Rattle.reqomp.proofs.circuit_moves.level_zero_moves.Goals as goal

pub returns-clause-ok : goal.returns-clause-ok
returns-clause-ok c =
    let f = c.args.flat.now in
    let o = ((orders_of_circuit f c.in_ok-graph.graph c.in_ok-graph.ensures).ids c.in_ok-ids.ids).0 c.in_ok-ids.ensures.ready in
    subst (IsLevel f 0) (sym (c.in_ok-moves.ensures o.order o.ids_of)) ((level_zero f c.steps-count.ensures.sound).has o.order o.ready)

pub returns-in_err-ids-clause-cycle : goal.returns-in_err-ids-clause-cycle
returns-in_err-ids-clause-cycle c =
    let f = c.args.flat.now in
    let a = orders_of_circuit f c.in_ok-graph.graph c.in_ok-graph.ensures in
    let p = err_from_is_err_and c.from_residual-in_err-ids.result c.from_residual-in_err-ids.ensures.1 in
    rw (p.1, p.2) (cycle_kept (List VertexId) (List Move) c.in_err-ids.field-0.0 (IsCycle (digraph_of c.in_ok-graph.graph)) (IsCycle (circuit_graph f)) (λ cycle h. (a.cycle cycle).0 h) c.in_err-ids.ensures.cycle)

pub returns-in_err-ids-clause-given : goal.returns-in_err-ids-clause-given
returns-in_err-ids-clause-given c =
    let f = c.args.flat.now in
    let a = orders_of_circuit f c.in_ok-graph.graph c.in_ok-graph.ensures in
    let p = err_from_is_err_and c.from_residual-in_err-ids.result c.from_residual-in_err-ids.ensures.1 in
    rw (p.1, p.2) (cycle_kept (List VertexId) (List Move) c.in_err-ids.field-0.0 (IsGivenCycle (digraph_of c.in_ok-graph.graph)) (IsGivenCycle (circuit_graph f)) (λ cycle h. (a.given cycle).0 h) c.in_err-ids.ensures.given)

pub returns-in_err-ids-clause-missing : goal.returns-in_err-ids-clause-missing
returns-in_err-ids-clause-missing c =
    let f = c.args.flat.now in
    let a = orders_of_circuit f c.in_ok-graph.graph c.in_ok-graph.ensures in
    let p = err_from_is_err_and c.from_residual-in_err-ids.result c.from_residual-in_err-ids.ensures.1 in
    rw (p.1, p.2) (cycle_kept (List VertexId) (List Move) c.in_err-ids.field-0.0 (IsCycle (digraph_of c.in_ok-graph.graph)) (λ cycle. (moves : List Move) → ¬ IsLevel f 0 moves)
    (λ cycle h moves l. (level_zero f c.steps-count.ensures.sound).acyclic moves l cycle ((a.cycle cycle).0 h)) c.in_err-ids.ensures.cycle)
