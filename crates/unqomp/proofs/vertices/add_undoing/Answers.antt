use Rattle.std.proofs.Common.{◌+◌, ◌-◌, List, [], ◌∷◌, ◌++◌, length, slice_set, sym, subst, arith}
use Rattle.flat_core.specs.Label.{step_at}
use Rattle.flat_core.proofs.Kept.{keeps_ends}
use Rattle.graph_core.specs.declared.vertex.Vertex.TheVariants.{Reverse}
use Rattle.graph_core.specs.declared.graph.VertexId.{VertexId}
use Rattle.unqomp.specs.Making.{IsBackStage, IsBack, forth, back, vertex_id}
use Rattle.unqomp.specs.Linking.{linked, IsLinkable}
use Rattle.unqomp.proofs.Links.{target_there, read_chain}
use Rattle.unqomp.proofs.Back.{back_fresh, back_linked, back_left}
use Rattle.unqomp.proofs.Stages.{linkable}
use Rattle.unqomp.proofs.vertices.add_undoing.Goals as goal

pub add-requires-clause-fresh : goal.add-requires-clause-fresh
add-requires-clause-fresh c = back_fresh c.args.flat.now c.args.graph.now c.args.chains.now.items c.args.s.number c.requires.stage c.requires.there

pub add-requires-clause-linkable : goal.add-requires-clause-linkable
add-requires-clause-linkable c =
    let f = c.args.flat.now in
    let there = target_there (step_at f c.args.s) (length f.wires) c.in-Some.w (c.requires.sound.in_range c.args.s c.requires.there) c.in-Some.ensures.1 in
    let as_many = c.requires.stage.as_many in
    let read = read_chain c.args.chains.now.items c.in-Some.w c.index_mut-chain.result.now (omega arith) c.index_mut-chain.ensures.value in
    subst (IsLinkable c.args.graph.now) (sym read) (linkable f c.args.graph.now c.args.chains.now.items (length f.steps) (length f.steps + (length f.steps - (c.args.s.number + 1))) (IsBack f (c.args.s.number + 1)) (λ w. forth f (length f.steps) w ++ back f (c.args.s.number + 1) w) c.len-count.ensures.sound c.requires.stage c.in-Some.w there)

pub returns-in-None : goal.returns-in-None
returns-in-None c = back_left c.args.flat.now c.args.graph.now c.args.chains.now.items c.args.s.number c.requires.stage c.requires.there (keeps_ends c.args.flat.now c.requires.sound) c.in-None.ensures

pub returns-in_ok-add-in-Some : goal.returns-in_ok-add-in-Some
returns-in_ok-add-in-Some c =
    let f = c.args.flat.now in
    let g = c.args.graph.now in
    let chains = c.args.chains.now.items in
    let there = target_there (step_at f c.args.s) (length f.wires) c.in-Some.w (c.requires.sound.in_range c.args.s c.requires.there) c.in-Some.ensures.1 in
    let as_many = c.requires.stage.as_many in
    let read = read_chain chains c.in-Some.w c.index_mut-chain.result.now (omega arith) c.index_mut-chain.ensures.value in
    rw (c.in_ok-add-in-Some.ensures.graph, c.in_ok-add-in-Some.ensures.chain)
    (subst (λ (ids : List VertexId). IsBackStage f (linked g ids (Reverse c.args.s)) (slice_set chains c.in-Some.w.number (ids ++ vertex_id (length g.vertices) ∷ [])) c.args.s.number) (sym read)
    (back_linked f g chains c.args.s.number c.requires.stage c.requires.there c.len-count.ensures.sound c.in-Some.w there c.in-Some.ensures.0 c.in-Some.ensures.1))
