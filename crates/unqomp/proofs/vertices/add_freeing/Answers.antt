use Rattle.std.proofs.Common.{◌≡◌, ◌+◌, true, List, [], ◌∷◌, ◌++◌, length, slice_set, sym, ap, ◌∙◌, subst, arith}
use Rattle.flat_core.specs.Ends.{is_freed, freed}
use Rattle.graph_core.specs.declared.vertex.Vertex.TheVariants.{Free}
use Rattle.graph_core.specs.declared.graph.VertexId.{VertexId}
use Rattle.unqomp.specs.Making.{IsLastStage, IsLast, forth, back, last, vertex_id}
use Rattle.unqomp.specs.Linking.{linked, IsLinkable}
use Rattle.unqomp.proofs.Links.{read_chain}
use Rattle.unqomp.proofs.Last.{last_fresh, last_linked, last_left}
use Rattle.unqomp.proofs.Stages.{linkable}
use Rattle.unqomp.proofs.vertices.add_freeing.Goals as goal

pub add-requires-clause-fresh : goal.add-requires-clause-fresh
add-requires-clause-fresh c = last_fresh c.args.flat.now c.args.graph.now c.args.chains.now.items c.args.w.number c.requires.stage

pub add-requires-clause-linkable : goal.add-requires-clause-linkable
add-requires-clause-linkable c =
    let f = c.args.flat.now in
    let as_many = c.requires.stage.as_many in
    let read = read_chain c.args.chains.now.items c.args.w c.index_mut-chain.result.now (omega arith) c.index_mut-chain.ensures.value in
    subst (IsLinkable c.args.graph.now) (sym read) (linkable f c.args.graph.now c.args.chains.now.items (length f.steps) (length f.steps + length f.steps + c.args.w.number) (IsLast f c.args.w.number) (λ w. forth f (length f.steps) w ++ (back f 0 w ++ last f c.args.w.number w)) c.len-count.ensures.sound c.requires.stage c.args.w c.requires.there)

pub returns-in_ok-add : goal.returns-in_ok-add
returns-in_ok-add c =
    let f = c.args.flat.now in
    let g = c.args.graph.now in
    let chains = c.args.chains.now.items in
    let as_many = c.requires.stage.as_many in
    let read = read_chain chains c.args.w c.index_mut-chain.result.now (omega arith) c.index_mut-chain.ensures.value in
    let freed_one : freed f c.args.w ≡ true = ap is_freed (sym c.end.ensures) ∙ sym c.is_freed.ensures ∙ c.if-is_freed.true in
    rw (c.in_ok-add.ensures.graph, c.in_ok-add.ensures.chain)
    (subst (λ (ids : List VertexId). IsLastStage f (linked g ids (Free c.args.w)) (slice_set chains c.args.w.number (ids ++ vertex_id (length g.vertices) ∷ [])) (c.args.w.number + 1)) (sym read)
    (last_linked f g chains c.args.w.number c.requires.stage c.len-count.ensures.sound c.requires.there freed_one))

pub returns-else-is_freed : goal.returns-else-is_freed
returns-else-is_freed c = last_left c.args.flat.now c.args.graph.now c.args.chains.now.items c.args.w.number c.requires.stage (ap is_freed (sym c.end.ensures) ∙ sym c.is_freed.ensures ∙ c.if-is_freed.false)
