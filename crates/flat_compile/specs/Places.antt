-- Vertices of a circuit graph with the source lines of their steps.
use Rattle.std.specs.Prelude.{◌≡◌, ℕ, List, [], ◌∷◌, slice_get, Some}
use Rattle.flat_core.specs.Form.{FlatForm}
use Rattle.graph_core.specs.declared.vertex.Vertex.{Vertex}
use Rattle.graph_core.specs.declared.vertex.Vertex.TheVariants as vertices
use Rattle.flat_compile.specs.declared.cycle.CyclePlace.{CyclePlace}
use Rattle.flat_compile.specs.declared.cycle.CyclePlace.TheVariants.{Forward, Reverse, Free}

-- the same vertex, and the line of its step
abbrev pub IsPlaceOf : FlatForm → Vertex → CyclePlace → Type 0
IsPlaceOf f (vertices.Forward s) (Forward step line) = (step ≡ s.number) × (slice_get f.lines s.number ≡ Some line)
IsPlaceOf f (vertices.Reverse s) (Reverse step line) = (step ≡ s.number) × (slice_get f.lines s.number ≡ Some line)
IsPlaceOf f (vertices.Free w) (Free wire) = wire ≡ w.number
IsPlaceOf f v place = ⊥

abbrev pub ArePlacesOf : FlatForm → List Vertex → List CyclePlace → Type 0
ArePlacesOf f [] [] = Unit {0}
ArePlacesOf f (v ∷ vs) (p ∷ ps) = IsPlaceOf f v p × ArePlacesOf f vs ps
ArePlacesOf f vs ps = ⊥
