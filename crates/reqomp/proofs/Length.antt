-- The moves of a level are as many as its kept vertices give, in whichever order these are counted.
use Rattle.std.proofs.Common.{◌≡◌, ℕ, suc, ◌+◌, ◌*◌, ◌≤◌, ◌⊎◌, List, [], ◌∷◌, ◌++◌, map, reverse, length, Contains, refl, sym, ap, ◌∙◌, subst, inl, inr, arith, length-append, le_antisymm}
use Rattle.std.proofs.lemmas.List.{length-map, length-reverse}
use Rattle.std.proofs.lemmas.List.Elements.{Contains-append_left, Contains-append_right}
use Rattle.flat_core.specs.declared.step.WireId.{WireId}
use Rattle.flat_core.specs.declared.step.StepId.{StepId}
use Rattle.flat_core.specs.Form.{FlatForm}
use Rattle.graph_core.specs.declared.vertex.Vertex.{Vertex}
use Rattle.graph_core.specs.Digraph.{Digraph, IsRun, IsLinearOrder}
use Rattle.topo_order.proofs.Orders.{contains_nil, contains_cases, contains_here, contains_later, ready_order_is_linear}
use Rattle.move_plan.specs.declared.moves.Move.{Move}
use Rattle.move_plan.specs.declared.moves.Move.TheVariants.{Up, Down}
use Rattle.move_plan.specs.AsMoves.{move_of}
use Rattle.reqomp.specs.Simple.{marked_at}
use Rattle.reqomp.specs.Level.{level_graph, IsRedone, AreMoves, none, more}
use Rattle.reqomp.specs.Planning.{GiveMoves, no_moves, more_moves, AreSomeKept, AreAllKept, HasLength, LevelLength}
use Rattle.reqomp.proofs.OneList.{redone_is_one}
use Rattle.reqomp.proofs.Apart.{AreApart, apart_by_place}

abbrev AreWithin : List Vertex → List Vertex → Type 0
AreWithin xs ys = (v : Vertex) → Contains xs v → Contains ys v

-- what is taken in its turn was not taken before
run_fresh : (g : Digraph) (taken order : List Vertex) → IsRun g taken order → (x : Vertex) → Contains order x → ¬ Contains taken x
run_fresh g taken [] run x c t = contains_nil x c
run_fresh g taken (v ∷ rest) run x c t = elim (contains_cases v x rest c) [
  | inl e ↦ run.0.fresh (subst (Contains taken) (sym e) t)
  | inr i ↦ run_fresh g (taken ++ v ∷ []) rest run.1 x i (Contains-append_left taken (v ∷ []) x t)
]

run_apart : (g : Digraph) (taken order : List Vertex) → IsRun g taken order → AreApart order
run_apart g taken [] run = tt
run_apart g taken (v ∷ rest) run = (
  (λ c. run_fresh g (taken ++ v ∷ []) rest run.1 v c (Contains-append_right taken (v ∷ []) v (contains_here v v [] refl))),
  run_apart g (taken ++ v ∷ []) rest run.1,
)

run_vertices : (g : Digraph) (taken order : List Vertex) → IsRun g taken order → (x : Vertex) → Contains order x → g.IsVertex x
run_vertices g taken [] run x c = absurd (contains_nil x c)
run_vertices g taken (v ∷ rest) run x c = elim (contains_cases v x rest c) [
  | inl e ↦ subst g.IsVertex e run.0.vertex
  | inr i ↦ run_vertices g (taken ++ v ∷ []) rest run.1 x i
]

module _ (f : FlatForm) (marked : List WireId) where
  -- the vertices of a list but one, and how many moves they give
  record Others (ys : List Vertex) (n : ℕ) (v : Vertex) (steps : List StepId) : Type 0 where
    rest : List Vertex
    count : ℕ
    give : GiveMoves f marked rest count
    sum : n ≡ 2 * length steps + 1 + count
    within : (y : Vertex) → Contains ys y → (v ≡ y) ⊎ Contains rest y

  others : (ys : List Vertex) (n : ℕ) → GiveMoves f marked ys n → (v : Vertex) (steps : List StepId) → IsRedone f marked v steps → Contains ys v → Others ys n v steps
  others ys n no_moves v steps r c = absurd (contains_nil v c)
  others ys n (more_moves {v = u} {steps = own} {rest = rest} {n = m} q give) v steps r c =
      elim (contains_cases u v rest c) [ inl e ↦ here e | inr i ↦ later (others rest m give v steps r i) ]
    where
      here : u ≡ v → Others (u ∷ rest) (2 * length own + 1 + m) v steps
      here e =
          let s : own ≡ steps = redone_is_one f marked v own steps (subst (λ (x : Vertex). IsRedone f marked x own) e q) r in
          record {
            rest = rest;
            count = m;
            give = give;
            sum = ap (λ (l : List StepId). 2 * length l + 1 + m) s;
            within = λ y d. elim (contains_cases u y rest d) [ inl a ↦ inl (sym e ∙ a) | inr i ↦ inr i ];
          }

      later : Others rest m v steps → Others (u ∷ rest) (2 * length own + 1 + m) v steps
      later o = record {
        rest = u ∷ o.rest;
        count = 2 * length own + 1 + o.count;
        give = more_moves q o.give;
        sum = (let s : m ≡ 2 * length steps + 1 + o.count = o.sum in omega arith);
        within = λ y d. elim (contains_cases u y rest d) [
          | inl a ↦ inr (contains_here u y o.rest a)
          | inr i ↦ elim (o.within y i) [ inl a ↦ inl a | inr j ↦ inr (contains_later u y o.rest j) ]
        ];
      }

  -- vertices that stand in a list give no more moves than it
  no_more : (xs : List Vertex) (m : ℕ) → GiveMoves f marked xs m → AreApart xs → (ys : List Vertex) (n : ℕ) → GiveMoves f marked ys n → AreWithin xs ys → m ≤ n
  no_more xs m no_moves once ys n give in_ys = omega arith
  no_more xs m (more_moves {v = v} {steps = steps} {rest = rest} {n = less} r a) once ys n give in_ys =
      let o = others ys n give v steps r (in_ys v (contains_here v v rest refl)) in
      let s : n ≡ 2 * length steps + 1 + o.count = o.sum in
      let l : less ≤ o.count = no_more rest less a once.1 o.rest o.count o.give (λ y c. elim (o.within y (in_ys y (contains_later v y rest c))) [ inl e ↦ absurd (once.0 (subst (Contains rest) (sym e) c)) | inr i ↦ i ]) in
      omega arith

  -- the moves of some vertices are as many as these give
  group_length : (v : Vertex) (steps : List StepId) (moves : List Move) → length (map Up steps ++ (move_of f v ∷ (map Down (reverse steps) ++ moves))) ≡ 2 * length steps + 1 + length moves
  group_length v steps moves =
      let a : length (map Up steps) ≡ length steps = length-map steps Up in
      let b : length (map Down (reverse steps)) ≡ length steps = length-map (reverse steps) Down ∙ length-reverse steps in
      let c : length (map Down (reverse steps) ++ moves) ≡ length (map Down (reverse steps)) + length moves = length-append (map Down (reverse steps)) moves in
      let d : length (map Up steps ++ (move_of f v ∷ (map Down (reverse steps) ++ moves))) ≡ length (map Up steps) + suc (length (map Down (reverse steps) ++ moves)) = length-append (map Up steps) (move_of f v ∷ (map Down (reverse steps) ++ moves)) in
      omega arith

  moves_give : (order : List Vertex) (moves : List Move) → AreMoves f marked order moves → GiveMoves f marked order (length moves)
  moves_give order moves none = no_moves
  moves_give order moves (more {v = v} {steps = steps} {rest = rest} {moves = later} r a) =
      subst (GiveMoves f marked (v ∷ rest)) (sym (group_length v steps later)) (more_moves r (moves_give rest later a))

  has_length : (order : List Vertex) (moves : List Move) → IsLinearOrder (level_graph f marked) order → AreMoves f marked order moves → HasLength f marked moves
  has_length order moves o a = record { whole = whole; part = part }
    where
      give : GiveMoves f marked order (length moves)
      give = moves_give order moves a

      part : (vertices : List Vertex) (n : ℕ) → AreSomeKept f marked vertices → GiveMoves f marked vertices n → n ≤ length moves
      part vertices n are count = no_more vertices n count (apart_by_place vertices are.once) order (length moves) give (λ v c. o.whole v (are.kept v c))

      whole : (vertices : List Vertex) (n : ℕ) → AreAllKept f marked vertices → GiveMoves f marked vertices n → length moves ≡ n
      whole vertices n are count =
          let up : n ≤ length moves = part vertices n are.some count in
          let down : length moves ≤ n =
          no_more order (length moves) give (run_apart (level_graph f marked) [] order o.run) vertices n count
          (λ v c. are.all v (run_vertices (level_graph f marked) [] order o.run v c)) in
          le_antisymm down up

pub level_length : LevelLength
level_length f = record {
  by_order = has_length f;
  of_level = λ k moves l. has_length f (marked_at f k) l.order moves (ready_order_is_linear (level_graph f (marked_at f k)) l.order l.ready) l.groups;
}
