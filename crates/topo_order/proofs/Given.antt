-- The cycle over ids is the given cycle.
use Rattle.std.proofs.Common.{◌≡◌, ◌<◌, Bool, List, [], ◌∷◌, ◌++◌, reverse, length, Contains, sym, ap, ◌∙◌, subst, arith}
use Rattle.graph_core.specs.declared.vertex.Vertex.{Vertex}
use Rattle.graph_core.specs.declared.graph.VertexId.{VertexId}
use Rattle.graph_core.specs.Arena.{Arena, IsArena, digraph_of}
use Rattle.topo_order.specs.GivenCycle.{IsWayBack, Begins, IsGivenCycle}
use Rattle.topo_order.specs.Flags.{vertex_of, vertices_of, IsReadyAt}
use Rattle.topo_order.specs.Left.{IsWayAt, IsCycleAt}
use Rattle.topo_order.proofs.Orders.{in_turn}
use Rattle.topo_order.proofs.Going.{Going, none_ready}
use Rattle.topo_order.proofs.Walking.{way_left, in_reverse}
use Rattle.topo_order.proofs.WayVertices.{way_vertices_of, least_before_vertex, way_within_at}

begins : (newest again : Vertex) (older front lead : List Vertex) → newest ∷ older ≡ front ++ again ∷ lead → Begins newest (front ++ again ∷ [])
begins newest again older [] lead e = cc
begins newest again older (x ∷ front) lead e = cc

pub given_from_ids : (g : Arena) → IsArena g → (flags : List Bool) (ids : List VertexId) → Going g flags ids → ((u : VertexId) → u.number < length g.vertices → ¬ IsReadyAt g flags u) → (cycle : List Vertex) → IsCycleAt g flags cycle → IsGivenCycle (digraph_of g) cycle
given_from_ids g ok flags ids so stuck cycle c = record {
  taken = vertices_of g ids;
  next = so.next;
  stuck = none_ready g ok flags ids so stuck;
  newest = vertex_of g c.round.newest;
  again = vertex_of g c.again;
  front = c.cut.front;
  lead = c.cut.lead;
  way = subst (IsWayBack (digraph_of g) (vertices_of g ids)) e (way_vertices_of g ok flags ids so (c.round.newest ∷ c.round.to.older) c.round.to.way);
  starts = begins (vertex_of g c.round.newest) (vertex_of g c.again) (vertices_of g c.round.to.older) c.cut.front c.cut.lead e;
  repeats = least_before_vertex g ok flags ids so c.round.newest c.again (way_left g flags c.round.newest c.round.to.older ok c.round.to.way).0 c.round.repeats;
  least = c.turned.least;
  behind = c.turned.behind;
  ahead = c.turned.ahead;
  turned = sym c.cut.is ∙ c.turned.turned;
  is = c.turned.is;
  first = λ v i. c.turned.first v (subst (λ (x : List Vertex). Contains x v) (sym c.turned.turned) (in_turn c.turned.least c.turned.behind c.turned.ahead v (subst (λ (x : List Vertex). Contains x v) c.turned.is i)));
}
  where
    e : vertices_of g (c.round.newest ∷ c.round.to.older) ≡ c.cut.front ++ vertex_of g c.again ∷ c.cut.lead
    e = ap (vertices_of g) (sym c.round.to.is) ∙ c.cut.way

-- every id of a way is in range
pub round_within : (g : Arena) → IsArena g → (flags : List Bool) (ids : List VertexId) (newest : VertexId) (older : List VertexId) → reverse ids ≡ newest ∷ older → IsWayAt g flags (newest ∷ older) → (u : VertexId) → Contains ids u → u.number < length g.vertices
round_within g ok flags ids newest older e w u c = way_within_at g ok flags (newest ∷ older) w u (subst (λ (x : List VertexId). Contains x u) e (in_reverse ids u c))

pub ring_some : (again : Vertex) (front ring : List Vertex) → ring ≡ front ++ again ∷ [] → 0 < length ring
ring_some again [] ring e = let l : length ring ≡ 1 = ap length e in omega arith
ring_some again (x ∷ front) ring e = let l : length ring ≡ length (x ∷ (front ++ again ∷ [])) = ap length e in omega arith
