use Rattle.std.proofs.Common.{refl, ap, subst, Contains}
use Rattle.std.proofs.lemmas.Bool.{iff_false}
use Rattle.graph_core.specs.declared.graph.VertexId.{VertexId}
use Rattle.graph_core.specs.declared.vertex.EdgeKind.{EdgeKind}
use Rattle.reqomp.proofs.Growth.{other_left, still_inside, first_inside}
use Rattle.reqomp.proofs.growing.has_end.Goals as goal

pub loop-v-preserved : goal.loop-v-preserved
loop-v-preserved c = record {
  still = λ h. other_left (c.in-Some.v, c.in-Some.k) (c.args.other, c.args.kind) c.loop-v.edges c.next.new.self c.in-Some.ensures.next (c.loop-v.invariant.still h)
      (λ s. iff_false c.is_edge.ensures c.if-is_edge.false (ap (λ (z : VertexId × EdgeKind). z.0) s, ap (λ (z : VertexId × EdgeKind). z.1) s));
  inside = λ x h. c.loop-v.invariant.inside x (still_inside (c.in-Some.v, c.in-Some.k) x c.loop-v.edges c.next.new.self c.in-Some.ensures.next h);
}

pub returns-then-is_edge : goal.returns-then-is_edge
returns-then-is_edge c =
    let e = c.is_edge.ensures.0 c.if-is_edge.true in
    let here = c.loop-v.invariant.inside (c.in-Some.v, c.in-Some.k) (first_inside (c.in-Some.v, c.in-Some.k) c.loop-v.edges c.next.new.self c.in-Some.ensures.next) in
    ((λ t. subst (Contains c.args.edges.now) (λ i. (e.0 i, e.1 i)) here), (λ t. refl))
