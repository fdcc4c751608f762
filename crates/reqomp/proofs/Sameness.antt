-- Graphs with the same vertices and edges have the same orders and cycles.
use Rattle.std.proofs.Common.{List, [], ◌∷◌, ◌++◌}
use Rattle.graph_core.specs.declared.vertex.Vertex.{Vertex}
use Rattle.graph_core.specs.Arena.{Arena, digraph_of}
use Rattle.graph_core.specs.Digraph.{Digraph, IsRun, IsLinearOrder, IsPathTo, IsCycle, IsSame}
use Rattle.graph_core.specs.Circuit.{circuit_graph}
use Rattle.topo_order.proofs.Orders.{same_order, same_back}
use Rattle.topo_order.proofs.SameCycle.{same_cycle}
use Rattle.unqomp.proofs.SameGraph.{graph_is_circuit}
use Rattle.reqomp.specs.Level.{level_graph}
use Rattle.reqomp.specs.Planning.{AnswersFor, OrdersOfCircuit, OrdersOfLevel}

module _ (a b : Digraph) (same : IsSame a b) where
  run_on : (taken order : List Vertex) → IsRun a taken order → IsRun b taken order
  run_on taken [] r = tt
  run_on taken (v ∷ rest) r = (
    record { vertex = (same.vertices v).0 r.0.vertex; fresh = r.0.fresh; after = λ u e. r.0.after u ((same.edges u v).1 e) },
    run_on (taken ++ v ∷ []) rest r.1,
  )

  linear_on : (order : List Vertex) → IsLinearOrder a order → IsLinearOrder b order
  linear_on order o = record { run = run_on [] order o.run; whole = λ v i. o.whole v ((same.vertices v).1 i) }

  path_on : (v u : Vertex) (rest : List Vertex) → IsPathTo a v u rest → IsPathTo b v u rest
  path_on v u [] p = (same.edges u v).0 p
  path_on v u (w ∷ rest) p = ((same.edges u w).0 p.0, path_on v w rest p.1)

  cycle_on : (cycle : List Vertex) → IsCycle a cycle → IsCycle b cycle
  cycle_on [] c = c
  cycle_on (v ∷ rest) c = (λ u i. (same.vertices u).0 (c.0 u i), path_on v v rest c.1)

pub answers_for : (g : Arena) (d : Digraph) → IsSame (digraph_of g) d → AnswersFor g d
answers_for g d same =
    let back : IsSame d (digraph_of g) = same_back (digraph_of g) d same in
    record {
      ids = λ ids. (
        (λ o. record { order = o.order; ids_of = o.ids_of; ready = same_order (digraph_of g) d same o.order o.ready }),
        (λ o. record { order = o.order; ids_of = o.ids_of; ready = same_order d (digraph_of g) back o.order o.ready }),
      );
      ready = λ order. (same_order (digraph_of g) d same order, same_order d (digraph_of g) back order);
      linear = λ order. (linear_on (digraph_of g) d same order, linear_on d (digraph_of g) back order);
      acyclic = (
        (λ no cycle c. no cycle (cycle_on d (digraph_of g) back cycle c)),
        (λ no cycle c. no cycle (cycle_on (digraph_of g) d same cycle c)),
      );
      given = λ cycle. (same_cycle (digraph_of g) d same cycle, same_cycle d (digraph_of g) back cycle);
      cycle = λ cycle. (cycle_on (digraph_of g) d same cycle, cycle_on d (digraph_of g) back cycle);
    }

pub orders_of_circuit : OrdersOfCircuit
orders_of_circuit f g is = answers_for g (circuit_graph f) (graph_is_circuit f g is)

pub orders_of_level : OrdersOfLevel
orders_of_level f marked g same = answers_for g (level_graph f marked) same
