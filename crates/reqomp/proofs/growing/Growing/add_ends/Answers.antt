use Rattle.std.proofs.Common.{◌≡◌, length, get_or, ap, subst, sym, ◌∙◌, arith, refl}
use Rattle.std.proofs.lemmas.Option.{slice_get-get_or}
use Rattle.graph_core.proofs.Places.{contains_at}
use Rattle.graph_core.specs.declared.graph.VertexId.{VertexId}
use Rattle.reqomp.specs.Simple.{marked_at}
use Rattle.reqomp.specs.Growing.{IsSoundFor, TakenAgain}
use Rattle.reqomp.proofs.Growth.{grown_same, grown_twice, table_grown, was_vertex}
use Rattle.reqomp.proofs.NearEnds.{first_none, first_grown, one_more, all_first}
use Rattle.reqomp.proofs.growing.Growing.add_ends.Goals as goal

pub add_end-requires-clause-table : goal.add_end-requires-clause-table
add_end-requires-clause-table c = table_grown c.args.circuit.now c.args.self.now.graph c.loop-i.self.graph c.args.ids.now c.loop-i.invariant.grown c.requires.table

pub add_end-requires-clause-sound : goal.add_end-requires-clause-sound
add_end-requires-clause-sound c =
    let f = c.args.flat.now in
    subst (λ k. IsSoundFor f (marked_at f k) c.loop-i.self.graph) (sym c.loop-i.invariant.level) c.loop-i.invariant.sound

pub add_end-requires-clause-own : goal.add_end-requires-clause-own
add_end-requires-clause-own c = let e = ap length c.loop-i.invariant.grown.vertices in let l = c.requires.own in omega arith

pub add_end-requires-clause-end : goal.add_end-requires-clause-end
add_end-requires-clause-end c =
    let x : VertexId = get_or c.args.ends.now c.loop-i.i (record { number = 0 }) in
    c.requires.ends x (contains_at c.args.ends.now c.loop-i.i x (slice_get-get_or c.args.ends.now c.loop-i.i (record { number = 0 }) c.loop-i-test.true))

pub add_end-requires-clause-taken : goal.add_end-requires-clause-taken
add_end-requires-clause-taken c = λ u v p q.
    let f = c.args.flat.now in
    let x : VertexId = get_or c.args.ends.now c.loop-i.i (record { number = 0 }) in
    let listed = contains_at c.args.ends.now c.loop-i.i x (slice_get-get_or c.args.ends.now c.loop-i.i (record { number = 0 }) c.loop-i-test.true) in
    subst (λ k. TakenAgain f (marked_at f k) c.args.entering u v) (sym c.loop-i.invariant.level)
    (c.requires.taken x u v listed p (was_vertex c.args.self.now.graph c.loop-i.self.graph c.loop-i.invariant.grown c.args.own v q))

pub loop-i-preserved : goal.loop-i-preserved
loop-i-preserved c =
    let f = c.args.flat.now in
    let x : VertexId = get_or c.args.ends.now c.loop-i.i (record { number = 0 }) in
    let at = slice_get-get_or c.args.ends.now c.loop-i.i (record { number = 0 }) c.loop-i-test.true in
    let more = c.add_end.ensures in
    let g = c.loop-i.self.graph in
    let h = c.add_end.new.self.graph in
    record {
      level = more.level ∙ c.loop-i.invariant.level;
      grown = grown_twice c.args.self.now.graph g h c.loop-i.invariant.grown more.grown;
      sound = subst (λ k. IsSoundFor f (marked_at f k) h) c.loop-i.invariant.level more.sound;
      there = one_more c.args.ids.now c.args.ends.now c.args.own c.args.entering c.loop-i.i h x at c.in_ok-add_end.ensures.there
          (first_grown c.args.ids.now c.args.ends.now c.args.own c.args.entering c.loop-i.i g h more.grown c.loop-i.invariant.there);
    }

pub loop-i-init : goal.loop-i-init
loop-i-init c = record {
  level = refl;
  grown = grown_same c.args.self.now.graph;
  sound = c.requires.sound;
  there = first_none c.args.ids.now c.args.ends.now c.args.own c.args.entering c.args.self.now.graph;
}

pub returns-clause-there : goal.returns-clause-there
returns-clause-there c = all_first c.args.ids.now c.args.ends.now c.args.own c.args.entering c.loop-i.i c.loop-i.self.graph (omega arith) c.loop-i.invariant.there
