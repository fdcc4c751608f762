use Rattle.std.specs.Prelude.{take}
use Rattle.flat_compile.specs.Places.{ArePlacesOf}
use Rattle.flat_compile.proofs.cycle.places.Given as goal

-- the places so far are those of the vertices so far
abbrev pub invariant-loop-vertex : goal.invariant-loop-vertex
invariant-loop-vertex l = ArePlacesOf l.flat (take l.vertex-index l.vertices) l.items.items
