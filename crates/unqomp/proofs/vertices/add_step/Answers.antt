use Rattle.std.proofs.Common.{◌≡◌, ◌+◌, List, [], ◌∷◌, ◌++◌, length, slice_set, Some, sym, ap, ◌∙◌, subst, arith}
use Rattle.flat_core.specs.Label.{step_at}
use Rattle.graph_core.specs.declared.vertex.Vertex.TheVariants.{Forward}
use Rattle.graph_core.specs.declared.graph.VertexId.{VertexId}
use Rattle.unqomp.specs.Making.{IsForthStage, vertex_id, target_of}
use Rattle.unqomp.specs.Linking.{linked, IsLinkable}
use Rattle.unqomp.proofs.Links.{target_there, read_chain}
use Rattle.unqomp.proofs.Forth.{forth_fresh, forth_linked, forth_lone}
use Rattle.unqomp.proofs.Stages.{linkable}
use Rattle.unqomp.proofs.vertices.add_step.Goals as goal

pub add_vertex-requires-clause-fresh : goal.add_vertex-requires-clause-fresh
add_vertex-requires-clause-fresh c = forth_fresh c.args.flat.now c.args.graph.now c.args.chains.now.items c.args.s.number c.len-count.ensures.sound c.requires.stage c.requires.there

pub add-requires-clause-fresh : goal.add-requires-clause-fresh
add-requires-clause-fresh c = forth_fresh c.args.flat.now c.args.graph.now c.args.chains.now.items c.args.s.number c.len-count.ensures.sound c.requires.stage c.requires.there

pub add-requires-clause-linkable : goal.add-requires-clause-linkable
add-requires-clause-linkable c =
    let f = c.args.flat.now in
    let target : target_of (step_at f c.args.s) ≡ Some c.in-Some.w = ap target_of (sym c.step.ensures) ∙ sym c.target_of.ensures ∙ c.in-Some.is in
    let there = target_there (step_at f c.args.s) (length f.wires) c.in-Some.w (c.requires.sound.in_range c.args.s c.requires.there) target in
    let as_many = c.requires.stage.stage.as_many in
    let read = read_chain c.args.chains.now.items c.in-Some.w c.index_mut-chain.result.now (omega arith) c.index_mut-chain.ensures.value in
    subst (IsLinkable c.args.graph.now) (sym read) (linkable f c.args.graph.now c.args.chains.now.items c.args.s.number c.args.s.number _ _ c.len-count.ensures.sound c.requires.stage.stage c.in-Some.w there)

pub returns-in_ok-add_vertex-in-None : goal.returns-in_ok-add_vertex-in-None
returns-in_ok-add_vertex-in-None c =
    rw c.in_ok-add_vertex-in-None.ensures.added.1
    (forth_lone c.args.flat.now c.args.graph.now c.args.chains.now.items c.args.s.number c.len-count.ensures.sound c.requires.stage c.requires.there (ap target_of (sym c.step.ensures) ∙ sym c.target_of.ensures ∙ c.in-None.is))

pub returns-in_ok-add-in-Some : goal.returns-in_ok-add-in-Some
returns-in_ok-add-in-Some c =
    let f = c.args.flat.now in
    let g = c.args.graph.now in
    let chains = c.args.chains.now.items in
    let target : target_of (step_at f c.args.s) ≡ Some c.in-Some.w = ap target_of (sym c.step.ensures) ∙ sym c.target_of.ensures ∙ c.in-Some.is in
    let there = target_there (step_at f c.args.s) (length f.wires) c.in-Some.w (c.requires.sound.in_range c.args.s c.requires.there) target in
    let as_many = c.requires.stage.stage.as_many in
    let read = read_chain chains c.in-Some.w c.index_mut-chain.result.now (omega arith) c.index_mut-chain.ensures.value in
    rw (c.in_ok-add-in-Some.ensures.graph, c.in_ok-add-in-Some.ensures.chain)
    (subst (λ (ids : List VertexId). IsForthStage f (linked g ids (Forward c.args.s)) (slice_set chains c.in-Some.w.number (ids ++ vertex_id (length g.vertices) ∷ [])) (c.args.s.number + 1)) (sym read)
    (forth_linked f g chains c.args.s.number c.len-count.ensures.sound c.requires.stage c.requires.there c.in-Some.w there target))
