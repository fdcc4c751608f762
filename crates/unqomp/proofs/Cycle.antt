-- The cycle of the example.
use Rattle.std.proofs.Common.{◌≡◌, ℕ, zero, suc, ◌<◌, [], ◌∷◌, get_or, Contains, refl, subst, arith}
use Rattle.flat_core.specs.Label.{step_id, wire_id}
use Rattle.graph_core.specs.declared.vertex.EdgeKind.TheVariants.{Target, Availability}
use Rattle.graph_core.specs.declared.vertex.Vertex.{Vertex}
use Rattle.graph_core.specs.declared.vertex.Vertex.TheVariants.{Forward, Reverse}
use Rattle.graph_core.specs.Circuit.{IsVertex, doing, undoing, along, before_next, before_first}
use Rattle.unqomp.specs.Example.{example, ExampleHasCycle}

all_there : (v : Vertex) → Contains (Forward (step_id 1) ∷ (Forward (step_id 2) ∷ (Reverse (step_id 0) ∷ []))) v → IsVertex example v
all_there v c = go c.0 c.1 c.2
  where
    go : (k : ℕ) → k < 3 → get_or (Forward (step_id 1) ∷ (Forward (step_id 2) ∷ (Reverse (step_id 0) ∷ []))) k v ≡ v → IsVertex example v
    go zero l e = subst (IsVertex example) e (omega arith)
    go (suc zero) l e = subst (IsVertex example) e (omega arith)
    go (suc (suc zero)) l e = subst (IsVertex example) e (omega arith, refl)
    go (suc (suc (suc k))) l e = absurd (omega arith)

pub example_has_cycle : ExampleHasCycle
example_has_cycle = (
  all_there,
  (
    (Target, along (wire_id 0) 0 refl refl),
    (
      (Availability, before_next {w = wire_id 1} (doing {s = step_id 2} (omega arith) (0, omega arith, refl)) refl 0 refl refl),
      (Availability, before_first {w = wire_id 0} (undoing {s = step_id 0} (omega arith) refl (0, omega arith, refl)) refl refl),
    ),
  ),
)
