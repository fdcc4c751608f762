use Rattle.std.proofs.Common.{◌≡◌, ◌<◌, length, slice_get, Some, subst, sym, ap, ◌∙◌}
use Rattle.std.proofs.lemmas.List.{get_or_read}
use Rattle.std.proofs.lemmas.Option.{slice_get_within}
use Rattle.graph_core.specs.declared.vertex.Vertex.{Vertex}
use Rattle.graph_core.specs.declared.vertex.Vertex.TheVariants.{Forward, Reverse}
use Rattle.graph_core.specs.declared.graph.VertexId.{VertexId}
use Rattle.graph_core.specs.Circuit.{IsVertex}
use Rattle.graph_core.proofs.Places.{place_of}
use Rattle.reqomp.specs.Contracted.{alike}
use Rattle.reqomp.proofs.places.Places.beside.Goals as goal

pub returns-in-Forward : goal.returns-in-Forward
returns-in-Forward c = λ f circuit is are at vertex.
    let t = c.args.t in
    let there : t.number < length f.steps = subst (λ (v : Vertex). IsVertex f (alike v t)) c.in-Forward.is vertex in
    let p = place_of circuit.vertices (Forward t) ((is.vertices (Forward t)).1 there) in
    let id : VertexId = record { number = p.0 } in
    let read = get_or_read c.args.self.now.forward.items _ _ c.requires.forward_row c.index.ensures id in
    let same : c.index.result.now ≡ id = read ∙ are.forward t id (slice_get_within circuit.vertices p.0 (Forward t) p.1) there p.1 in
    ap (λ (x : VertexId). slice_get circuit.vertices x.number) same ∙ p.1 ∙ ap (λ (v : Vertex). Some (alike v t)) (sym c.in-Forward.is)

pub returns-in-Reverse : goal.returns-in-Reverse
returns-in-Reverse c = λ f circuit is are at vertex.
    let t = c.args.t in
    let undone = subst (λ (v : Vertex). IsVertex f (alike v t)) c.in-Reverse.is vertex in
    let p = place_of circuit.vertices (Reverse t) ((is.vertices (Reverse t)).1 undone) in
    let id : VertexId = record { number = p.0 } in
    let read = get_or_read c.args.self.now.reverse.items _ _ c.requires.reverse_row c.index-in-Reverse.ensures id in
    let same : c.index-in-Reverse.result.now ≡ id = read ∙ are.reverse t id (slice_get_within circuit.vertices p.0 (Reverse t) p.1) undone.0 p.1 in
    ap (λ (x : VertexId). slice_get circuit.vertices x.number) same ∙ p.1 ∙ ap (λ (v : Vertex). Some (alike v t)) (sym c.in-Reverse.is)
