-- A level has one list of moves, and none where its graph has a cycle.
use Rattle.std.proofs.Common.{◌≡◌, ℕ, suc, ◌<◌, List, [], ◌∷◌, ◌++◌, map, reverse, slice_get, Some, Contains, refl, sym, ap, ◌∙◌, subst, inl, inr, arith}
use Rattle.flat_core.specs.declared.step.WireId.{WireId}
use Rattle.flat_core.specs.declared.step.StepId.{StepId}
use Rattle.flat_core.specs.Form.{FlatForm}
use Rattle.graph_core.specs.declared.vertex.Vertex.{Vertex}
use Rattle.graph_core.specs.Digraph.{IsAcyclic}
use Rattle.graph_core.proofs.Places.{place_of}
use Rattle.topo_order.specs.ReadyOrder.{IsReadyOrder}
use Rattle.topo_order.proofs.Orders.{contains_nil, contains_cases, contains_here, contains_later, ready_order_is_one, ready_order_is_linear, ordered_is_acyclic}
use Rattle.move_plan.specs.declared.moves.Move.{Move}
use Rattle.move_plan.specs.declared.moves.Move.TheVariants.{Up, Down}
use Rattle.move_plan.specs.AsMoves.{move_of}
use Rattle.move_plan.specs.Progress.{IsPlan}
use Rattle.reqomp.specs.Simple.{marked_at}
use Rattle.reqomp.specs.Level.{level_graph, IsRedone, AreMoves, none, more, IsLevel}
use Rattle.reqomp.specs.Planning.{LevelIsOneList, NoOrderNoLevel}

-- each step of a list stands before all later ones in number
abbrev IsAscending : List StepId → Type 0
IsAscending steps = (i j : ℕ) (a b : StepId) → i < j → slice_get steps i ≡ Some a → slice_get steps j ≡ Some b → a.number < b.number

abbrev IsAmong : List StepId → List StepId → Type 0
IsAmong xs ys = (s : StepId) → Contains xs s → Contains ys s

first_is_least : (x : StepId) (xs : List StepId) → IsAscending (x ∷ xs) → (s : StepId) → Contains xs s → x.number < s.number
first_is_least x xs up s c = let p = place_of xs s c in up 0 (suc p.0) x s (omega arith) refl p.1

rest_ascends : (x : StepId) (xs : List StepId) → IsAscending (x ∷ xs) → IsAscending xs
rest_ascends x xs up i j a b l p q = up (suc i) (suc j) a b (omega arith) p q

same_first : (x y : StepId) (xs ys : List StepId) → IsAscending (x ∷ xs) → IsAscending (y ∷ ys) → IsAmong (x ∷ xs) (y ∷ ys) → IsAmong (y ∷ ys) (x ∷ xs) → x ≡ y
same_first x y xs ys up vp to back = elim (contains_cases y x ys (to x (contains_here x x xs refl))) [
  | inl e ↦ sym e
  | inr i ↦ elim (contains_cases x y xs (back y (contains_here y y ys refl))) [
    | inl e ↦ e
    | inr j ↦
        let l : y.number < x.number = first_is_least y ys vp x i in
        let m : x.number < y.number = first_is_least x xs up y j in
        absurd (omega arith)
  ]
]

rest_among : (x y : StepId) (xs ys : List StepId) → x ≡ y → IsAscending (x ∷ xs) → IsAmong (x ∷ xs) (y ∷ ys) → IsAmong xs ys
rest_among x y xs ys e up to s c = elim (contains_cases y s ys (to s (contains_later x s xs c))) [
  | inl d ↦
      let l : x.number < s.number = first_is_least x xs up s c in
      let n : x.number ≡ s.number = ap (λ (t : StepId). t.number) (e ∙ d) in
      absurd (omega arith)
  | inr i ↦ i
]

-- an ascending list is told by its members
ascending_is_one : (xs ys : List StepId) → IsAscending xs → IsAscending ys → IsAmong xs ys → IsAmong ys xs → xs ≡ ys
ascending_is_one [] [] up vp to back = refl
ascending_is_one [] (y ∷ ys) up vp to back = absurd (contains_nil y (back y (contains_here y y ys refl)))
ascending_is_one (x ∷ xs) [] up vp to back = absurd (contains_nil x (to x (contains_here x x xs refl)))
ascending_is_one (x ∷ xs) (y ∷ ys) up vp to back =
    let e : x ≡ y = same_first x y xs ys up vp to back in
    let ih : xs ≡ ys = ascending_is_one xs ys (rest_ascends x xs up) (rest_ascends y ys vp) (rest_among x y xs ys e up to) (rest_among y x ys xs (sym e) vp back) in
    ap (λ (z : StepId). z ∷ xs) e ∙ ap (λ (l : List StepId). y ∷ l) ih

module _ (f : FlatForm) where
  redone_among : (marked : List WireId) (v : Vertex) (steps others : List StepId) → IsRedone f marked v steps → IsRedone f marked v others → IsAmong steps others
  redone_among marked v steps others r q s c = let o = r.only s c in q.all s o.0 o.1 o.2 o.3

  pub redone_is_one : (marked : List WireId) (v : Vertex) (steps others : List StepId) → IsRedone f marked v steps → IsRedone f marked v others → steps ≡ others
  redone_is_one marked v steps others r q =
      ascending_is_one steps others r.ascending q.ascending (redone_among marked v steps others r q) (redone_among marked v others steps q r)

  abbrev group : Vertex → List StepId → List Move → List Move
  group v steps moves = map Up steps ++ (move_of f v ∷ (map Down (reverse steps) ++ moves))

  moves_are_one : (marked : List WireId) (order : List Vertex) (moves others : List Move) → AreMoves f marked order moves → AreMoves f marked order others → moves ≡ others
  moves_are_one marked order moves others none none = refl
  moves_are_one marked order moves others (more {v = v} {steps = steps} {rest = rest} {moves = later} r a) (more {steps = again} {moves = after} q b) =
      ap (λ (l : List StepId). group v l later) (redone_is_one marked v steps again r q)
      ∙ ap (λ (l : List Move). group v again l) (moves_are_one marked rest later after a b)

  by_order : (k : ℕ) (order : List Vertex) (moves others : List Move) → IsReadyOrder (level_graph f (marked_at f k)) order → AreMoves f (marked_at f k) order moves → IsLevel f k others → others ≡ moves
  by_order k order moves others o a l =
      let e : l.order ≡ order = ready_order_is_one (level_graph f (marked_at f k)) l.order order l.ready o in
      moves_are_one (marked_at f k) order others moves (subst (λ (x : List Vertex). AreMoves f (marked_at f k) x others) e l.groups) a

  level_acyclic : (k : ℕ) (moves : List Move) → IsLevel f k moves → IsAcyclic (level_graph f (marked_at f k))
  level_acyclic k moves l =
      let g = level_graph f (marked_at f k) in
      ordered_is_acyclic g l.order (ready_order_is_linear g l.order l.ready)

pub level_is_one_list : LevelIsOneList
level_is_one_list f = record {
  redone = redone_is_one f;
  groups = moves_are_one f;
  by_order = by_order f;
  one = λ k moves others l m. by_order f k m.order others moves m.ready m.groups l;
}

pub no_order_no_level : NoOrderNoLevel
no_order_no_level f k = record {
  acyclic = level_acyclic f k;
  by_cycle = λ cycle c moves l. level_acyclic f k moves l cycle c;
  by_moves = λ order moves o a bad others l. bad (subst (IsPlan f) (by_order f k order moves others o a l) l.valid);
}
