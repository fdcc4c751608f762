-- The steps that a level does again for a vertex, found in one pass back over the steps, and the labels that it needs.
use Rattle.std.specs.Prelude.{◌≡◌, ℕ, zero, suc, ◌+◌, Bool, false, cond, ◌||◌, ◌↔◌, List, [], ◌∷◌, ◌++◌, length, slice_get, Some, Contains}
use Rattle.flat_core.specs.declared.step.Step.{Step}
use Rattle.flat_core.specs.declared.step.WireId.{WireId}
use Rattle.flat_core.specs.declared.step.StepId.{StepId}
use Rattle.flat_core.specs.Form.{FlatForm}
use Rattle.flat_core.specs.Label.{step_id, changes, used, step_at, top, label_before}
use Rattle.graph_core.specs.declared.vertex.Vertex.{Vertex}
use Rattle.graph_core.specs.declared.vertex.Vertex.TheVariants.{Forward, Reverse, Free}
use Rattle.graph_core.specs.Circuit.{IsVertex, Uses}
use Rattle.reqomp.specs.Simple.{has_wire, marked_at}
use Rattle.reqomp.specs.Level.{RestsOn, Needs, IsRedone}

-- those of some wires that are marked
abbrev pub marked_among : List WireId → List WireId → List WireId
marked_among marked [] = []
marked_among marked (w ∷ rest) = cond (has_wire w marked) (w ∷ marked_among marked rest) (marked_among marked rest)

-- whether a step changes one of some wires
abbrev pub changes_one : List WireId → Step → Bool
changes_one [] s = false
changes_one (w ∷ rest) s = changes w s || changes_one rest s

-- the marked wires that were found, and their steps so far, in step order
pub record Found : Type 0 where
  pub wires : List WireId
  pub steps : List StepId

-- a step of a wire that was found is done again, and rests on the marked wires that it uses
abbrev pub found_at : FlatForm → List WireId → StepId → Found → Found
found_at f marked s found = cond (changes_one found.wires (step_at f s)) (record { wires = marked_among marked (used (step_at f s)) ++ found.wires; steps = s ∷ found.steps }) found

-- over the first n steps, the last of them first
abbrev pub found_below : FlatForm → List WireId → ℕ → Found → Found
found_below f marked zero found = found
found_below f marked (suc n) found = found_below f marked n (found_at f marked (step_id n) found)

-- the wires that a vertex uses itself
abbrev pub own_uses : FlatForm → Vertex → List WireId
own_uses f (Forward s) = used (step_at f s)
own_uses f (Reverse s) = used (step_at f s)
own_uses f (Free w) = []

abbrev pub redone : FlatForm → List WireId → Vertex → List StepId
redone f marked v = (found_below f marked (length f.steps) (record { wires = marked_among marked (own_uses f v); steps = [] })).steps

-- the pass finds the steps that each level does again
abbrev pub RedoneIsFound : Type 0
RedoneIsFound = (f : FlatForm) (k : ℕ) (v : Vertex) → IsVertex f v → IsRedone f (marked_at f k) v (redone f (marked_at f k) v)

-- an unmarked wire is used by the vertex itself, or by a step that is done again for it
pub data IsUsedBy (f : FlatForm) (marked : List WireId) (v : Vertex) (steps : List StepId) : WireId → ℕ → Type 0 where
  own : {w : WireId} {i : ℕ} → Uses f v w i → ¬ Contains marked w → IsUsedBy f marked v steps w i
  again : {w : WireId} {s : StepId} → Contains steps s → Contains (used (step_at f s)) w → ¬ Contains marked w → IsUsedBy f marked v steps w (label_before f s w)

-- the labels that a vertex needs are told by the steps that are done again for it
abbrev pub NeedsAreUsed : Type 0
NeedsAreUsed = (f : FlatForm) (marked : List WireId) (v : Vertex) (steps : List StepId) → IsRedone f marked v steps → (w : WireId) (i : ℕ) → Needs f marked v w i ↔ IsUsedBy f marked v steps w i

-- the marked wires that a vertex rests on, each of them once
pub record AreRestedOn (f : FlatForm) (marked : List WireId) (v : Vertex) (wires : List WireId) : Type 0 where
  pub only : (w : WireId) → Contains wires w → RestsOn f marked v w
  pub all : (w : WireId) → RestsOn f marked v w → Contains wires w
  pub once : (i j : ℕ) (w : WireId) → slice_get wires i ≡ Some w → slice_get wires j ≡ Some w → i ≡ j

-- how many steps change one of some wires
abbrev pub steps_over : FlatForm → List WireId → ℕ
steps_over f [] = 0
steps_over f (w ∷ rest) = top f w + steps_over f rest

-- so many steps are done again as the wires that the vertex rests on have
abbrev pub RedoneIsCounted : Type 0
RedoneIsCounted = (f : FlatForm) (marked : List WireId) (v : Vertex) (steps : List StepId) (wires : List WireId) → IsRedone f marked v steps → AreRestedOn f marked v wires → length steps ≡ steps_over f wires
