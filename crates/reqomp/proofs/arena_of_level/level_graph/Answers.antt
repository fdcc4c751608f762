use Rattle.std.proofs.Common.{List, length, slice_get, subst, sym, ap, ◌∙◌, arith}
use Rattle.reqomp.specs.declared.groups.Group.{Group}
use Rattle.reqomp.specs.Simple.{marked_at}
use Rattle.reqomp.specs.Growing.{ArePlaced, IsIdTable}
use Rattle.reqomp.specs.Grouping.{vertices_of}
use Rattle.reqomp.proofs.LevelArena.{groups_give_level_graph}
use Rattle.reqomp.proofs.LevelRows.{few_groups, are_placed}
use Rattle.reqomp.proofs.arena_of_level.level_graph.Goals as goal

pub without_edges-requires-clause-few : goal.without_edges-requires-clause-few
without_edges-requires-clause-few c =
    let f = c.args.flat.now in
    let few = few_groups f (marked_at f c.args.marks.now.level) c.args.circuit.now (length c.args.circuit.now.vertices) c.args.groups.now c.requires.groups in
    let e = ap length c.deref.ensures.value in
    omega arith

pub id_table-requires-clause-few : goal.id_table-requires-clause-few
id_table-requires-clause-few c =
    let f = c.args.flat.now in
    let few = few_groups f (marked_at f c.args.marks.now.level) c.args.circuit.now (length c.args.circuit.now.vertices) c.args.groups.now c.requires.groups in
    let e = ap length c.deref-2.ensures.value in
    omega arith

pub id_table-requires-clause-groups : goal.id_table-requires-clause-groups
id_table-requires-clause-groups c =
    let f = c.args.flat.now in
    let marked = marked_at f c.args.marks.now.level in
    subst (ArePlaced c.args.circuit.now) (sym c.deref-2.ensures.value)
    (are_placed f marked c.args.circuit.now (length c.args.circuit.now.vertices) c.args.groups.now c.requires.groups)

pub add_all_edges-requires-clause-table : goal.add_all_edges-requires-clause-table
add_all_edges-requires-clause-table c =
    subst (IsIdTable c.args.circuit.now c.in_ok-graph.graph) (sym c.deref-3.ensures.value)
    (c.in_ok-ids.ensures c.in_ok-graph.graph (c.in_ok-graph.ensures.vertices ∙ ap vertices_of (c.deref.ensures.value ∙ sym c.deref-2.ensures.value)))

pub add_all_edges-requires-clause-groups : goal.add_all_edges-requires-clause-groups
add_all_edges-requires-clause-groups c = λ i group e.
    c.requires.groups.each i group (ap (λ (l : List Group). slice_get l i) (sym c.deref-4.ensures.value) ∙ e)

pub returns-clause-edges : goal.returns-clause-edges
returns-clause-edges c =
    groups_give_level_graph c.args.flat.now c.args.marks.now.level c.steps-steps.ensures.sound c.args.circuit.now c.requires.circuit
    c.args.groups.now c.requires.groups c.add_all_edges.new.self.graph
    (c.add_all_edges.ensures.grown.vertices ∙ c.in_ok-graph.ensures.vertices ∙ ap vertices_of c.deref.ensures.value)
    c.add_all_edges.ensures.sound
    (λ i group e. c.in_ok-add_all_edges.ensures.edges i group (ap (λ (l : List Group). slice_get l i) c.deref-4.ensures.value ∙ e))
