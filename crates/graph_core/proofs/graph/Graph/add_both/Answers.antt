use Rattle.std.proofs.Common.{◌≡◌, ◌+◌, ◌++◌, [], ◌∷◌, length, Some, ap, ◌∙◌, subst, arith}
use Rattle.graph_core.specs.declared.graph.Arrow.{Arrow}
use Rattle.graph_core.specs.Arena.{IsArena, control, availability}
use Rattle.graph_core.specs.Links.{vertices_in, arrows_in, AreLinked}
use Rattle.graph_core.proofs.Arenas.{arena_use}
use Rattle.graph_core.proofs.Linked.{linked_more}
use Rattle.graph_core.proofs.Stored.{more_stored, more_ends, stored_written, two_arrows}
use Rattle.graph_core.proofs.graph.Graph.add_both.Goals as goal

pub link_both-requires-clause-ends : goal.link_both-requires-clause-ends
link_both-requires-clause-ends c =
    let vs = c.self.inside.vertices.items in
    let es = c.self.inside.edges.items in
    let d : Arrow = control c.args.holder c.args.user in
    let e : Arrow = availability c.args.user c.args.next in
    let arena = arena_use c.args.self.now c.args.holder c.args.user (Some c.args.next) (subst IsArena c.self.view_is c.self.invariant.arena) c.requires.free c.requires.next_free c.requires.room in
    more_ends vs es c.args.self.now c.self.view_is c.self.invariant (c.new-control.result ∷ c.new-availability.result ∷ []) (d ∷ e ∷ []) (two_arrows c.new-control.result c.new-availability.result d e c.new-control.ensures c.new-availability.ensures) arena
    c.deref_mut.result.now c.deref_mut-2.result.now (ap vertices_in c.deref_mut.ensures.value) (ap arrows_in (c.deref_mut-2.ensures.value ∙ c.in_ok-extend_from_slice.ensures.items))

pub link_both-requires-clause-linked : goal.link_both-requires-clause-linked
link_both-requires-clause-linked c =
    let vs = c.self.inside.vertices.items in
    let es = c.self.inside.edges.items in
    let is : length es ≡ c.len-number.result = omega (arith, c.self.inside.edges.ok) in
    rw (c.deref_mut.ensures.value, c.deref_mut-2.ensures.value, c.in_ok-extend_from_slice.ensures.items)
    (subst (AreLinked vs (es ++ c.new-control.result ∷ c.new-availability.result ∷ [])) is (linked_more vs es (c.new-control.result ∷ c.new-availability.result ∷ []) (length es) c.self.invariant.linked))

pub invariant_of-self-2 : goal.invariant_of-self-2
invariant_of-self-2 c =
    let vs = c.self.inside.vertices.items in
    let es = c.self.inside.edges.items in
    let d : Arrow = control c.args.holder c.args.user in
    let e : Arrow = availability c.args.user c.args.next in
    let arena = arena_use c.args.self.now c.args.holder c.args.user (Some c.args.next) (subst IsArena c.self.view_is c.self.invariant.arena) c.requires.free c.requires.next_free c.requires.room in
    let vertices_same = c.link_both.ensures.vertices ∙ ap vertices_in c.deref_mut.ensures.value in
    let arrows_same = c.link_both.ensures.arrows ∙ ap arrows_in c.deref_mut-2.ensures.value in
    let is : c.len-number.result + 1 + 1 ≡ length es + 2 = omega (arith, c.self.inside.edges.ok) in
    stored_written c.self.inside.vertices.len c.extend_from_slice.new.self.len vs c.link_both.new.vertices c.extend_from_slice.new.self.items c.link_both.new.edges
    (more_stored vs es c.args.self.now c.self.view_is c.self.invariant (c.new-control.result ∷ c.new-availability.result ∷ []) (d ∷ e ∷ []) (two_arrows c.new-control.result c.new-availability.result d e c.new-control.ensures c.new-availability.ensures) arena
    c.link_both.new.vertices c.link_both.new.edges vertices_same (arrows_same ∙ ap arrows_in c.in_ok-extend_from_slice.ensures.items) (c.len-number.result + 1 + 1) c.link_both.ensures.linked is)
    vertices_same arrows_same (omega (arith, c.self.inside.vertices.ok)) (omega (arith, c.extend_from_slice.new.self.ok))
