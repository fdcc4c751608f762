-- The ready vertices of a graph of n vertices as a tree over their ids: from place n on there is a leaf for each id, and
-- each place k below has the one that goes first of those at the places 2 * k and 2 * k + 1.
use Rattle.std.specs.Prelude.{◌≡◌, ℕ, ◌+◌, ◌*◌, ◌<◌, ◌⊎◌, Bool, true, cond, not, ◌&&◌, eqb, ltb, List, length, get_or, Option, Some, None}
use Rattle.graph_core.specs.declared.graph.VertexId.{VertexId}
use Rattle.graph_core.specs.Arena.{Arena}
use Rattle.topo_order.specs.ReadyOrder.{GoesFirst}
use Rattle.topo_order.specs.Flags.{vertex_of, is_flagged}
use Rattle.topo_order.specs.Waiting.{AreLowered}

abbrev pub tree_at : List (Option VertexId) → ℕ → Option VertexId
tree_at tree k = get_or tree k None

abbrev pub leaf_at : Arena → List (Option VertexId) → VertexId → Option VertexId
leaf_at g tree v = tree_at tree (length g.vertices + v.number)

-- of two ids, where they are there, one goes first
pub record IsFirstOf (g : Arena) (a b first : Option VertexId) : Type 0 where
  pub one : (first ≡ a) ⊎ (first ≡ b)
  pub goes : (u : VertexId) → (a ≡ Some u) ⊎ (b ≡ Some u) → (v : VertexId) × (first ≡ Some v) × GoesFirst (vertex_of g v) (vertex_of g u)

-- a tree in which at most one place has not been made again: place 0 stands for none
pub record IsTree (g : Arena) (tree : List (Option VertexId)) (stale : ℕ) : Type 0 where
  pub sized : length tree ≡ 2 * length g.vertices
  pub inside : (k : ℕ) (u : VertexId) → tree_at tree k ≡ Some u → u.number < length g.vertices
  pub leaf : (v u : VertexId) → v.number < length g.vertices → leaf_at g tree v ≡ Some u → u ≡ v
  pub node : (k : ℕ) → 0 < k → k < length g.vertices → (k ≡ stale → ⊥) → IsFirstOf g (tree_at tree (2 * k)) (tree_at tree (2 * k + 1)) (tree_at tree k)

-- one leaf was written
abbrev pub SetsLeaf : Arena → VertexId → Option VertexId → List (Option VertexId) → List (Option VertexId) → Type 0
SetsLeaf g v now old new = (u : VertexId) → u.number < length g.vertices → leaf_at g new u ≡ cond (eqb u.number v.number) now (leaf_at g old u)

-- the ids whose counter is 0 stand in the tree
pub record ShowsZeros (g : Arena) (counters : List ℕ) (tree : List (Option VertexId)) : Type 0 where
  pub whole : IsTree g tree 0
  pub leaves : (u : VertexId) → u.number < length g.vertices → leaf_at g tree u ≡ cond (eqb (get_or counters u.number 0) 0) (Some u) None

-- a counter has come down to 0
abbrev pub fell : ℕ → ℕ → Bool
fell old new = ltb 0 old && eqb new 0

-- v is out of the tree, each counter has fallen by the number of edges from v, and the ids whose counter fell to 0 are in
pub record IsTaken (g : Arena) (v : VertexId) (old new : List ℕ) (before after : List (Option VertexId)) : Type 0 where
  pub lowered : AreLowered g v old new
  pub tree : IsTree g after 0
  pub leaves : (u : VertexId) → u.number < length g.vertices → leaf_at g after u ≡ cond (fell (get_or old u.number 0) (get_or new u.number 0)) (Some u) (cond (eqb u.number v.number) None (leaf_at g before u))

-- the tree has the ids that are not taken and wait for nothing, and no id that is taken waits
pub record ShowsReady (g : Arena) (flags : List Bool) (counters : List ℕ) (tree : List (Option VertexId)) : Type 0 where
  pub whole : IsTree g tree 0
  pub leaves : (u : VertexId) → u.number < length g.vertices → leaf_at g tree u ≡ cond (not (is_flagged flags u) && eqb (get_or counters u.number 0) 0) (Some u) None
  pub done : (u : VertexId) → u.number < length g.vertices → is_flagged flags u ≡ true → get_or counters u.number 0 ≡ 0
