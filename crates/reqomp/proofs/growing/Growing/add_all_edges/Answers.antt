use Rattle.std.proofs.Common.{List, slice_get, subst, sym, ap, ◌∙◌, arith}
use Rattle.graph_core.specs.declared.vertex.Vertex.{Vertex}
use Rattle.graph_core.proofs.Places.{at_map}
use Rattle.reqomp.specs.declared.groups.Group.{Group}
use Rattle.reqomp.specs.Simple.{marked_at}
use Rattle.reqomp.specs.Growing.{IsSoundFor}
use Rattle.reqomp.specs.Grouping.{IsGroup}
use Rattle.reqomp.proofs.Growth.{still_vertex, grown_twice}
use Rattle.reqomp.proofs.LevelRows.{group_at}
use Rattle.reqomp.proofs.GroupEdges.{groups_more, groups_end}
use Rattle.reqomp.proofs.growing.Growing.add_all_edges.Goals as goal

pub add_group_edges-requires-clause-group : goal.add_group_edges-requires-clause-group
add_group_edges-requires-clause-group c =
    let f = c.args.flat.now in
    let group = c.index-groups-i.result in
    let at = group_at c.args.groups.now c.loop-i.i group (omega arith) c.index-groups-i.is in
    subst (λ k. IsGroup f (marked_at f k) c.args.circuit.now group) (sym c.loop-i.invariant.level) (c.requires.groups c.loop-i.i group at)

pub add_group_edges-requires-clause-id : goal.add_group_edges-requires-clause-id
add_group_edges-requires-clause-id c =
    let group = c.index-groups-i.result in
    let at = group_at c.args.groups.now c.loop-i.i group (omega arith) c.index-groups-i.is in
    still_vertex c.args.self.now.graph c.loop-i.self.graph c.loop-i.invariant.grown (record { number = c.loop-i.i }) group.vertex
    (ap (λ (l : List Vertex). slice_get l c.loop-i.i) c.requires.vertices ∙ at_map (λ (x : Group). x.vertex) c.args.groups.now c.loop-i.i group at)

pub loop-i-preserved : goal.loop-i-preserved
loop-i-preserved c =
    let f = c.args.flat.now in
    let group = c.index-groups-i.result in
    let at = group_at c.args.groups.now c.loop-i.i group (omega arith) c.index-groups-i.is in
    let more = c.add_group_edges.ensures in
    record {
      level = more.level ∙ c.loop-i.invariant.level;
      grown = grown_twice c.args.self.now.graph c.loop-i.self.graph c.add_group_edges.new.self.graph c.loop-i.invariant.grown more.grown;
      sound = subst (λ k. IsSoundFor f (marked_at f k) c.add_group_edges.new.self.graph) c.loop-i.invariant.level more.sound;
      first = groups_more f c.args.groups.now c.loop-i.self.graph c.add_group_edges.new.self.graph c.loop-i.i group at more.grown
          c.loop-i.invariant.first c.in_ok-add_group_edges.ensures.edges;
    }

pub returns-clause-edges : goal.returns-clause-edges
returns-clause-edges c = groups_end c.args.flat.now c.args.groups.now c.loop-i.self.graph c.loop-i.i (omega arith) c.loop-i.invariant.first
