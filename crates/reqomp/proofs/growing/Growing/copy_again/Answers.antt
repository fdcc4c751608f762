use Rattle.std.proofs.Common.{◌↔◌, List, false, length, Contains, refl, subst, sym, arith}
use Rattle.std.proofs.lemmas.Result.{on_ok_weaker}
use Rattle.graph_core.specs.declared.vertex.EdgeKind.TheVariants.{Control, Availability}
use Rattle.graph_core.specs.declared.graph.VertexId.{VertexId}
use Rattle.reqomp.specs.Simple.{marked_at}
use Rattle.reqomp.specs.Growing.{arrow_of, TakenAgain}
use Rattle.reqomp.proofs.Growth.{id_there, circuit_edge, table_grown, was_vertex, still_vertex, grown_twice}
use Rattle.reqomp.proofs.GroupEdges.{before_kept}
use Rattle.reqomp.proofs.NearEnds.{near_at, held_copied, led_copied}
use Rattle.reqomp.proofs.growing.Growing.copy_again.Goals as goal

pub add_ends-requires-clause-ends : goal.add_ends-requires-clause-ends
add_ends-requires-clause-ends c = λ x h.
    let many = c.requires.near.each_vertex in
    let row = c.index-near-at.result in
    let near = c.requires.near.at c.args.at row (near_at c.args.near.now c.args.at.number row (omega (arith, c.requires.at)) c.index-near-at.is) in
    (c.len-vertices.ensures.sound.ends (arrow_of x c.args.at Control) ((near.holders x).0 (subst (λ (l : List VertexId). Contains l x) c.deref.ensures.value h))).0

pub add_ends-requires-2-clause-ends : goal.add_ends-requires-2-clause-ends
add_ends-requires-2-clause-ends c = λ x h.
    let many = c.requires.near.each_vertex in
    let row = c.index-near-at.result in
    let near = c.requires.near.at c.args.at row (near_at c.args.near.now c.args.at.number row (omega (arith, c.requires.at)) c.index-near-at.is) in
    (c.len-vertices.ensures.sound.ends (arrow_of c.args.at x Availability) ((near.changers x).0 (subst (λ (l : List VertexId). Contains l x) c.deref-2.ensures.value h))).1

pub add_ends-requires-clause-taken : goal.add_ends-requires-clause-taken
add_ends-requires-clause-taken c = λ x u v h p q.
    let many = c.requires.near.each_vertex in
    let row = c.index-near-at.result in
    let near = c.requires.near.at c.args.at row (near_at c.args.near.now c.args.at.number row (omega (arith, c.requires.at)) c.index-near-at.is) in
    let y = id_there c.args.circuit.now c.args.at c.requires.at in
    c.requires.before y.0 v y.1 q Control u refl
    (circuit_edge c.args.flat.now c.args.circuit.now c.requires.circuit x c.args.at Control u y.0
    ((near.holders x).0 (subst (λ (l : List VertexId). Contains l x) c.deref.ensures.value h)) p y.1)

pub add_ends-requires-2-clause-taken : goal.add_ends-requires-2-clause-taken
add_ends-requires-2-clause-taken c = λ x u v h p q.
    let f = c.args.flat.now in
    let many = c.requires.near.each_vertex in
    let row = c.index-near-at.result in
    let near = c.requires.near.at c.args.at row (near_at c.args.near.now c.args.at.number row (omega (arith, c.requires.at)) c.index-near-at.is) in
    let y = id_there c.args.circuit.now c.args.at c.requires.at in
    subst (λ k. TakenAgain f (marked_at f k) false u v) (sym c.add_ends.ensures.level)
    (c.requires.after y.0 v y.1 (was_vertex c.args.self.now.graph c.add_ends.new.self.graph c.add_ends.ensures.grown c.args.id v q) u
    (circuit_edge f c.args.circuit.now c.requires.circuit c.args.at x Availability y.0 u
    ((near.changers x).0 (subst (λ (l : List VertexId). Contains l x) c.deref-2.ensures.value h)) y.1 p))

pub returns-clause-before : goal.returns-clause-before
returns-clause-before c =
    let f = c.args.flat.now in
    let circuit = c.args.circuit.now in
    let many = c.requires.near.each_vertex in
    let row = c.index-near-at.result in
    let near = c.requires.near.at c.args.at row (near_at c.args.near.now c.args.at.number row (omega (arith, c.requires.at)) c.index-near-at.is) in
    let g = c.args.self.now.graph in
    let h = c.add_ends.new.self.graph in
    let table = table_grown circuit g h c.args.ids.now c.add_ends.ensures.grown c.requires.table in
    let are = subst (λ (l : List VertexId). (x : VertexId) → Contains l x ↔ Contains circuit.arrows (arrow_of x c.args.at Control)) (sym c.deref.ensures.value) near.holders in
    let kept = before_kept f h c.add_ends-2.new.self.graph c.add_ends-2.ensures.grown false in
    on_ok_weaker c.add_ends-2.result
    (λ _. λ x v p q.
    kept x v (held_copied f circuit c.len-vertices.ensures.sound c.requires.circuit c.args.ids.now h table c.args.at c.args.id c.deref.result.now are
    c.in_ok-add_ends.ensures.there x v p (still_vertex g h c.add_ends.ensures.grown c.args.id v q)))
    c.add_ends-2.ensures.there

pub returns-clause-after : goal.returns-clause-after
returns-clause-after c =
    let f = c.args.flat.now in
    let circuit = c.args.circuit.now in
    let many = c.requires.near.each_vertex in
    let row = c.index-near-at.result in
    let near = c.requires.near.at c.args.at row (near_at c.args.near.now c.args.at.number row (omega (arith, c.requires.at)) c.index-near-at.is) in
    let g = c.args.self.now.graph in
    let h = c.add_ends-2.new.self.graph in
    let grown = grown_twice g c.add_ends.new.self.graph h c.add_ends.ensures.grown c.add_ends-2.ensures.grown in
    let table = table_grown circuit g h c.args.ids.now grown c.requires.table in
    let are = subst (λ (l : List VertexId). (x : VertexId) → Contains l x ↔ Contains circuit.arrows (arrow_of c.args.at x Availability)) (sym c.deref-2.ensures.value) near.changers in
    on_ok_weaker c.add_ends-2.result
    (λ there. λ x u p q.
    led_copied f circuit c.len-vertices.ensures.sound c.requires.circuit c.args.ids.now h table c.args.at c.args.id c.deref-2.result.now are
    there x u p (still_vertex g h grown c.args.id u q))
    c.add_ends-2.ensures.there
