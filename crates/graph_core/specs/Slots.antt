-- The edges once more, by the place on a chain at which a user stands. This form suits the code that adds them.
use Rattle.std.specs.Prelude.{◌≡◌, ℕ, suc, ◌+◌, ◌-◌, ◌↔◌, cond, ◌&&◌, ltb, slice_get, Some}
use Rattle.flat_core.specs.declared.step.WireId.{WireId}
use Rattle.flat_core.specs.Form.{FlatForm}
use Rattle.flat_core.specs.Label.{top}
use Rattle.flat_core.specs.Ends.{dropped, KeepsEnds}
use Rattle.graph_core.specs.declared.vertex.Vertex.{Vertex}
use Rattle.graph_core.specs.declared.vertex.Vertex.TheVariants.{Forward, Reverse, Free}
use Rattle.graph_core.specs.declared.vertex.EdgeKind.{EdgeKind}
use Rattle.graph_core.specs.declared.vertex.EdgeKind.TheVariants.{Target, Control, Availability}
use Rattle.graph_core.specs.Circuit.{chain, Uses, Edge}

-- how many vertices of the chain of w come before user u, which needs label i
abbrev pub slot : FlatForm → Vertex → WireId → ℕ → ℕ
slot f (Forward s) w i = i
slot f (Reverse s) w i = cond (dropped f w && ltb i (top f w)) (top f w + (top f w - i)) i
slot f (Free x) w i = i

-- the edges by slots, where `needs u w i` says that user u needs wire w at label i
pub data SlotEdge (f : FlatForm) (needs : Vertex → WireId → ℕ → Type 0) : EdgeKind → Vertex → Vertex → Type 0 where
  -- each vertex of a chain comes before the next
  in_chain : (w : WireId) (j : ℕ) {a b : Vertex} → slice_get (chain f w) j ≡ Some a → slice_get (chain f w) (suc j) ≡ Some b → SlotEdge f needs Target a b
  -- a user comes after the vertex just before its slot
  from_before : {u h : Vertex} {w : WireId} {i : ℕ} → needs u w i → (j : ℕ) → slot f u w i ≡ suc j → slice_get (chain f w) j ≡ Some h → SlotEdge f needs Control h u
  -- and before the vertex at its slot
  to_after : {u v : Vertex} {w : WireId} {i : ℕ} → needs u w i → slice_get (chain f w) (slot f u w i) ≡ Some v → SlotEdge f needs Availability u v

-- both forms have the same edges
abbrev pub EdgesBySlots : Type 0
EdgesBySlots = (f : FlatForm) → KeepsEnds f → (kind : EdgeKind) (a b : Vertex) → Edge f (Uses f) kind a b ↔ SlotEdge f (Uses f) kind a b
