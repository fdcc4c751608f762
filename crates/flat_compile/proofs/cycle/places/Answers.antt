use Rattle.std.proofs.Common.{subst, sym, take, ◌+◌, arith}
use Rattle.flat_compile.specs.Places.{ArePlacesOf}
use Rattle.flat_compile.proofs.Places.{next_place}
use Rattle.flat_compile.proofs.cycle.places.Goals as goal

pub loop-vertex-preserved : goal.loop-vertex-preserved
loop-vertex-preserved c =
    subst (ArePlacesOf c.args.flat.now (take (c.loop-vertex.vertex-index + 1) c.args.vertices.now)) (sym c.in_ok-push.ensures.items)
    (next_place c.args.flat.now c.args.vertices.now c.loop-vertex.items.items c.place.result _ c.loop-vertex.vertex-index (omega (arith, c.loop-vertex-test.true)) c.loop-vertex.invariant c.place.ensures)
