-- The moves of groups, one after another.
use Rattle.std.proofs.Common.{◌≡◌, ℕ, ◌+◌, ◌<◌, ◌≤◌, Option, None, IsSome, Bor, List, [], ◌∷◌, ◌++◌, map, reverse, length, take, get_or, slice_get, Some, refl, sym, ap, ◌∙◌, subst, append_assoc, arith, take_all}
use Rattle.std.proofs.lemmas.List.{append-nil, take_more}
use Rattle.std.proofs.lemmas.Option.{slice_get_within, get_or_from_slice_get, same_Some}
use Rattle.std.specs.Option.{option_copied}
use Rattle.flat_core.specs.declared.step.WireId.{WireId}
use Rattle.flat_core.specs.declared.step.StepId.{StepId}
use Rattle.flat_core.specs.Form.{FlatForm}
use Rattle.graph_core.specs.declared.vertex.Vertex.{Vertex}
use Rattle.graph_core.specs.declared.graph.VertexId.{VertexId}
use Rattle.graph_core.specs.Arena.{Arena, AreVerticesOf}
use Rattle.graph_core.proofs.Places.{from_map, some_at}
use Rattle.unqomp.proofs.Ids.{length-ids, vertex_at}
use Rattle.topo_order.specs.OrderOf.{IsOrderOf}
use Rattle.move_plan.specs.declared.moves.Move.{Move}
use Rattle.move_plan.specs.declared.moves.Move.TheVariants.{Up, Down}
use Rattle.move_plan.specs.AsMoves.{move_of}
use Rattle.reqomp.specs.declared.groups.Group.{Group}
use Rattle.reqomp.specs.Grouping.{vertices_of}
use Rattle.reqomp.specs.Level.{IsRedone, AreMoves, none, more}
use Rattle.reqomp.specs.Trying.{group_moves, AreRedone}

-- there is an id at each place of an order
pub id_at : (ids : List VertexId) (i : ℕ) (o : Option (Bor VertexId)) → i < length ids → option_copied o ≡ slice_get ids i → IsSome o
id_at ids i None l e = let s = some_at ids i l in let d = e ∙ s.1 in cc
id_at ids i (Some x) l e = refl

module _ (f : FlatForm) (marked : List WireId) where
  -- one more vertex at the end
  pub moves_last : (order : List Vertex) (moves : List Move) (v : Vertex) (steps : List StepId) → AreMoves f marked order moves → IsRedone f marked v steps → AreMoves f marked (order ++ v ∷ []) (moves ++ group_moves f v steps)
  moves_last order moves v steps none r =
      let e : map Up steps ++ (move_of f v ∷ (map Down (reverse steps) ++ [])) ≡ group_moves f v steps = ap (λ (l : List Move). map Up steps ++ (move_of f v ∷ l)) (append-nil (map Down (reverse steps))) in
      subst (AreMoves f marked (v ∷ [])) e (more r none)
  moves_last order moves v steps (more {v = u} {steps = others} {rest = rest} {moves = later} q a) r =
      let e : map Up others ++ (move_of f u ∷ (map Down (reverse others) ++ (later ++ group_moves f v steps))) ≡ (map Up others ++ (move_of f u ∷ (map Down (reverse others) ++ later))) ++ group_moves f v steps = simp append_assoc in
      subst (AreMoves f marked (u ∷ (rest ++ v ∷ []))) e (more q (moves_last rest later v steps a r))

module _ (g : Arena) (groups : List Group) (same : g.vertices ≡ vertices_of groups) where
  module _ (ids : List VertexId) (order : List Vertex) (are : AreVerticesOf g ids order) where
    -- an id of the order is that of a group's vertex
    pub group_at : (i : ℕ) (id : VertexId) → slice_get ids i ≡ Some id → (group : Group) × (slice_get groups id.number ≡ Some group) × (slice_get order i ≡ Some group.vertex)
    group_at i id e =
        let v = vertex_at g ids order are i id e in
        let m = from_map (λ (x : Group). x.vertex) groups id.number v.0 (subst (λ (l : List Vertex). slice_get l id.number ≡ Some v.0) same v.2) in
        (m.0, m.1, v.1 ∙ ap (λ (x : Vertex). Some x) (sym m.2))

    pub moves_next : (f : FlatForm) (marked : List WireId) → AreRedone f marked groups → (i : ℕ) (id : VertexId) (group : Group) (moves : List Move) → slice_get ids i ≡ Some id → slice_get groups id.number ≡ Some group → AreMoves f marked (take i order) moves → AreMoves f marked (take (i + 1) order) (moves ++ group_moves f group.vertex group.steps.items)
    moves_next f marked redone i id group moves e at so_far =
        let h = group_at i id e in
        let here : h.0 ≡ group = same_Some h.0 group (sym h.1 ∙ at) in
        let placed : slice_get order i ≡ Some group.vertex = subst (λ (x : Group). slice_get order i ≡ Some x.vertex) here h.2 in
        let read : get_or order i group.vertex ≡ group.vertex = get_or_from_slice_get order i group.vertex group.vertex placed in
        let next : take (i + 1) order ≡ take i order ++ group.vertex ∷ [] = take_more order i group.vertex (slice_get_within order i group.vertex placed) ∙ ap (λ (x : Vertex). take i order ++ x ∷ []) read in
        subst (λ (l : List Vertex). AreMoves f marked l (moves ++ group_moves f group.vertex group.steps.items)) (sym next) (moves_last f marked (take i order) moves group.vertex group.steps.items so_far (redone id.number group at))

    pub moves_whole : (f : FlatForm) (marked : List WireId) (i : ℕ) (moves : List Move) → length ids ≤ i → AreMoves f marked (take i order) moves → AreMoves f marked order moves
    moves_whole f marked i moves l so_far =
        let n = length-ids g ids order are in
        subst (λ (x : List Vertex). AreMoves f marked x moves) (take_all i order (omega arith)) so_far

  pub group_there : (ids : List VertexId) → IsOrderOf g ids → (i : ℕ) (id : VertexId) → slice_get ids i ≡ Some id → id.number < length groups
  group_there ids o i id e = let h = group_at ids o.order o.ids_of i id e in slice_get_within groups id.number h.0 h.1
