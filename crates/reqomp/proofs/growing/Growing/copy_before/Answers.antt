use Rattle.std.proofs.Common.{true, Contains, refl, sym, ◌∙◌, subst, arith}
use Rattle.std.proofs.lemmas.Option.{none-some}
use Rattle.graph_core.specs.declared.graph.VertexId.{VertexId}
use Rattle.reqomp.specs.Simple.{marked_at}
use Rattle.reqomp.specs.Contracted.{TakenEdge}
use Rattle.reqomp.specs.Growing.{IsSoundFor, arrow_of}
use Rattle.reqomp.proofs.Growth.{grown_same, grown_twice, before_start, before_more, before_end, first_inside, table_grown, row_there, copied_before, same_row, was_vertex, still_vertex}
use Rattle.reqomp.proofs.growing.Growing.copy_before.Goals as goal

pub loop-x-init : goal.loop-x-init
loop-x-init c = record {
  level = refl;
  grown = grown_same c.args.self.now.graph;
  sound = c.requires.sound;
  copies = before_start c.args.circuit.now c.args.ids.now c.args.at c.args.to true c.args.self.now.graph c.before-edges.result c.before-edges.ensures;
}

pub chosen-requires : goal.chosen-requires
chosen-requires c =
    let i = c.loop-x.invariant.copies.inside c.in-Some.x c.in-Some.kind (first_inside (c.in-Some.x, c.in-Some.kind) c.loop-x.edges c.next.new.self c.in-Some.ensures.next) in
    let l = (c.len-vertices.ensures.sound.ends (arrow_of c.in-Some.x c.args.at c.in-Some.kind) i).0 in
    let m = c.requires.table.as_many in
    omega arith

pub add_taken-requires-clause-from : goal.add_taken-requires-clause-from
add_taken-requires-clause-from c =
    let s = sym c.in-Some-chosen.ensures in
    row_there c.args.circuit.now c.loop-x.self.graph c.args.ids.now (table_grown c.args.circuit.now c.args.self.now.graph c.loop-x.self.graph c.args.ids.now c.loop-x.invariant.grown c.requires.table) c.in-Some.x c.in-Some-chosen.from s

pub add_taken-requires-clause-sound : goal.add_taken-requires-clause-sound
add_taken-requires-clause-sound c =
    let f = c.args.flat.now in
    subst (λ k. IsSoundFor f (marked_at f k) c.loop-x.self.graph) (sym c.loop-x.invariant.level) c.loop-x.invariant.sound

pub add_taken-requires-clause-taken : goal.add_taken-requires-clause-taken
add_taken-requires-clause-taken c = λ u v p q.
    let f = c.args.flat.now in
    let g = c.args.self.now.graph in
    let h = c.loop-x.self.graph in
    let grown = c.loop-x.invariant.grown in
    let i = c.loop-x.invariant.copies.inside c.in-Some.x c.in-Some.kind (first_inside (c.in-Some.x, c.in-Some.kind) c.loop-x.edges c.next.new.self c.in-Some.ensures.next) in
    let s = sym c.in-Some-chosen.ensures in
    subst (λ k. TakenEdge f (marked_at f k) c.in-Some.kind u v) (sym c.loop-x.invariant.level)
    (copied_before f (marked_at f c.args.self.now.level) c.args.circuit.now g c.args.ids.now c.requires.circuit c.requires.table c.args.at c.args.to c.in-Some.x c.in-Some-chosen.from c.requires.at true c.in-Some.kind c.requires.may i tt s
    u v (was_vertex g h grown c.in-Some-chosen.from u p) (was_vertex g h grown c.args.to v q))

pub loop-x-preserved-in-Continue-1 : goal.loop-x-preserved-in-Continue-1
loop-x-preserved-in-Continue-1 c =
    let f = c.args.flat.now in
    let s = sym c.in-Some-chosen.ensures in
    record {
      level = c.add_taken.ensures.level ∙ c.loop-x.invariant.level;
      grown = grown_twice c.args.self.now.graph c.loop-x.self.graph c.add_taken.new.self.graph c.loop-x.invariant.grown c.add_taken.ensures.grown;
      sound = subst (λ k. IsSoundFor f (marked_at f k) c.add_taken.new.self.graph) c.loop-x.invariant.level c.add_taken.ensures.sound;
      copies = before_more c.args.circuit.now c.args.ids.now c.args.at c.args.to true c.loop-x.self.graph c.add_taken.new.self.graph c.in-Some.x c.in-Some.kind c.loop-x.edges c.next.new.self c.in-Some.ensures.next c.loop-x.invariant.copies c.add_taken.ensures.grown
          (λ from t e. subst (λ (y : VertexId). Contains c.add_taken.new.self.graph.arrows (arrow_of y c.args.to c.in-Some.kind)) (same_row c.args.ids.now c.in-Some.x c.in-Some-chosen.from from s e) c.in_ok-add_taken.ensures.there);
    }

pub loop-x-preserved : goal.loop-x-preserved
loop-x-preserved c = record {
  level = c.loop-x.invariant.level;
  grown = c.loop-x.invariant.grown;
  sound = c.loop-x.invariant.sound;
  copies = before_more c.args.circuit.now c.args.ids.now c.args.at c.args.to true c.loop-x.self.graph c.loop-x.self.graph c.in-Some.x c.in-Some.kind c.loop-x.edges c.next.new.self c.in-Some.ensures.next c.loop-x.invariant.copies (grown_same c.loop-x.self.graph)
      (λ from t e. absurd (none-some from (c.in_default-chosen.ensures ∙ e)));
}

pub returns-clause-copied : goal.returns-clause-copied
returns-clause-copied c = λ x v at_x to_v.
    let grown = c.loop-x.invariant.grown in
    before_end c.args.circuit.now c.args.ids.now c.args.at c.args.to true c.args.flat.now c.loop-x.self.graph c.loop-x.edges c.in_default.ensures.next c.loop-x.invariant.copies c.len-vertices.ensures.sound c.requires.circuit
    (table_grown c.args.circuit.now c.args.self.now.graph c.loop-x.self.graph c.args.ids.now grown c.requires.table) x v at_x (still_vertex c.args.self.now.graph c.loop-x.self.graph grown c.args.to v to_v)
