-- A new vertex may be linked to the last one of its chain.
use Rattle.std.proofs.Common.{◌≡◌, ℕ, ◌<◌, get_or, List, [], ◌∷◌, length, Some, ap, subst, arith, length-append}
use Rattle.graph_core.specs.declared.vertex.Vertex.{Vertex}
use Rattle.graph_core.specs.declared.graph.VertexId.{VertexId}
use Rattle.graph_core.specs.Arena.{Arena, IsArena, IsFreeFor, with_vertex}
use Rattle.std.proofs.lemmas.List.{get_or_read}
use Rattle.flat_core.specs.declared.step.Step.{Step}
use Rattle.flat_core.specs.declared.step.Step.TheVariants.{X, H, P, M}
use Rattle.flat_core.specs.declared.step.WireId.{WireId}
use Rattle.flat_core.specs.Label.{EachNamed}
use Rattle.unqomp.specs.Making.{vertex_id, target_of, ids_on}
use Rattle.unqomp.specs.Linking.{last_of, target_arrow, IsLinkable}

pub link_free : (g : Arena) → IsArena g → (ids : List VertexId) → IsLinkable g ids → (v : Vertex) (before : VertexId) → last_of ids ≡ Some before → IsFreeFor (with_vertex g v) (target_arrow before (vertex_id (length g.vertices)))
link_free g ok ids link v before is =
    let there = link.there before is in
    let longer = length-append g.vertices (v ∷ []) in
    record {
      ends = (omega arith, omega arith);
      fresh = λ c. let l = (ok.ends (target_arrow before (vertex_id (length g.vertices))) c).1 in omega arith;
      first_out = λ t d c k e. link.free before is d c k e;
      first_in = λ t d c k e.
          let l = (ok.ends d c).1 in
          let same = ap (λ (x : VertexId). x.number) e in
          omega arith;
    }

-- the wire that a step changes is there
pub target_there : (s : Step) (n : ℕ) (w : WireId) → EachNamed (λ x. x.number < n) s → target_of s ≡ Some w → w.number < n
target_there (X t a b) n w h e = let same : t ≡ w = cc in subst (λ (x : WireId). x.number < n) same h.0
target_there (H t a) n w h e = let same : t ≡ w = cc in subst (λ (x : WireId). x.number < n) same h.0
target_there (P k a) n w h e = cc
target_there (M v m) n w h e = cc

-- the chain that is read of a wire
pub read_chain : (chains : List (List VertexId)) (w : WireId) (ids : List VertexId) → w.number < length chains → ids ≡ get_or chains w.number ids → ids ≡ ids_on chains w
read_chain chains w ids l e = get_or_read chains w.number ids l e []
