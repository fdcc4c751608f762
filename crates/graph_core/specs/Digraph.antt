-- Graphs on vertices, and their linear orders and cycles.
use Rattle.std.specs.Prelude.{List, [], ◌∷◌, ◌++◌, Contains, ⊤}
use Rattle.graph_core.specs.declared.vertex.Vertex.{Vertex}

-- which vertices a graph has, and between which it has an edge
pub record Digraph : Type 1 where
  pub IsVertex : Vertex → Type 0
  pub HasEdge : Vertex → Vertex → Type 0

-- v can be taken next: it is a vertex that is not taken, and all that have an edge to it are
pub record IsReady (g : Digraph) (taken : List Vertex) (v : Vertex) : Type 0 where
  pub vertex : g.IsVertex v
  pub fresh : ¬ Contains taken v
  pub after : (u : Vertex) → g.HasEdge u v → Contains taken u

-- after those taken, each vertex of a list is ready in its turn
abbrev pub IsRun : Digraph → List Vertex → List Vertex → Type 0
IsRun g taken [] = ⊤
IsRun g taken (v ∷ rest) = IsReady g taken v × IsRun g (taken ++ v ∷ []) rest

-- each vertex stands once in a linear order, after all that have an edge to it
pub record IsLinearOrder (g : Digraph) (order : List Vertex) : Type 0 where
  pub run : IsRun g [] order
  pub whole : (v : Vertex) → g.IsVertex v → Contains order v

-- u has an edge to the first of a list, each of them to the next one, and the last one to v
abbrev pub IsPathTo : Digraph → Vertex → Vertex → List Vertex → Type 0
IsPathTo g v u [] = g.HasEdge u v
IsPathTo g v u (w ∷ rest) = g.HasEdge u w × IsPathTo g v w rest

-- a cycle: vertices, with an edge from each one to the next, and from the last one to the first
abbrev pub IsCycle : Digraph → List Vertex → Type 0
IsCycle g [] = ⊥
IsCycle g (v ∷ rest) = ((u : Vertex) → Contains (v ∷ rest) u → g.IsVertex u) × IsPathTo g v v rest

abbrev pub IsAcyclic : Digraph → Type 0
IsAcyclic g = (cycle : List Vertex) → ¬ IsCycle g cycle

-- two graphs with the same vertices and edges
pub record IsSame (g h : Digraph) : Type 0 where
  pub vertices : (v : Vertex) → (g.IsVertex v → h.IsVertex v) × (h.IsVertex v → g.IsVertex v)
  pub edges : (u v : Vertex) → (g.HasEdge u v → h.HasEdge u v) × (h.HasEdge u v → g.HasEdge u v)
