-- One more level in the search.
use Rattle.std.proofs.Common.{◌≡◌, ℕ, suc, ◌<◌, ◌≤◌, min, List, length, Some, None, sym, subst, inl, inr, arith}
use Rattle.std.proofs.lemmas.Bool.{cases_lt}
use Rattle.flat_core.specs.Form.{FlatForm}
use Rattle.flat_core.specs.Sound.{IsFlat}
use Rattle.graph_core.specs.declared.vertex.Vertex.{Vertex}
use Rattle.graph_core.specs.declared.graph.VertexId.{VertexId}
use Rattle.graph_core.specs.Arena.{Arena, AreVerticesOf, digraph_of}
use Rattle.graph_core.specs.Digraph.{IsCycle}
use Rattle.graph_core.proofs.Places.{place_of}
use Rattle.unqomp.specs.GraphOf.{IsGraphOf}
use Rattle.topo_order.specs.OrderOf.{IsOrderOf}
use Rattle.topo_order.proofs.Orders.{ready_order_is_linear}
use Rattle.std.proofs.lemmas.Option.{slice_get_within}
use Rattle.move_plan.specs.declared.moves.Move.{Move}
use Rattle.move_plan.specs.declared.moves.Plan.{Plan}
use Rattle.move_plan.specs.AsMoves.{moves_of}
use Rattle.reqomp.specs.declared.groups.Groups.{Groups}
use Rattle.reqomp.specs.declared.levels.Outcome.TheVariants.{Fitting, Over}
use Rattle.reqomp.specs.Simple.{marked_at}
use Rattle.reqomp.specs.Level.{IsLevel, AreMoves, last_level, level_graph}
use Rattle.reqomp.specs.LevelGraph.{IsLevelGraphOf}
use Rattle.reqomp.specs.Grouping.{vertices_of, AreGroups}
use Rattle.reqomp.specs.Search.{HasWidth, IsWidthOf, NoneFitsBelow, IsFirstFit, IsLeastBelow}
use Rattle.reqomp.specs.Trying.{HasOrderMoves, IsPlanOf, IsOutcome}
use Rattle.reqomp.proofs.EqualMarks.{equally_marked}
use Rattle.reqomp.proofs.LevelSlots.{level_graph_is_same}
use Rattle.reqomp.proofs.LevelZero.{level_zero}
use Rattle.reqomp.proofs.Length.{level_length}
use Rattle.reqomp.proofs.Sameness.{orders_of_circuit, orders_of_level}
use Rattle.reqomp.proofs.Widths.{level_width, level_search, least_width}

module _ (f : FlatForm) where
  module _ (k : ℕ) (g : Arena) (is : IsLevelGraphOf f (marked_at f k) g) where
    -- a level whose graph has a cycle has no width
    pub none_by_cycle : (cycle : List Vertex) → IsCycle (digraph_of g) cycle → IsWidthOf f k None
    none_by_cycle cycle c = (level_width f k).by_cycle cycle (((orders_of_level f (marked_at f k) g (level_graph_is_same f (marked_at f k) g is)).cycle cycle).0 c)

    -- the moves of its ready order
    pub moves_by_order : (ids : List VertexId) (moves : List Move) → IsOrderOf g ids → ((order : List Vertex) → AreVerticesOf g ids order → AreMoves f (marked_at f k) order moves) → HasOrderMoves f k moves
    moves_by_order ids moves o are =
        let q = ((orders_of_level f (marked_at f k) g (level_graph_is_same f (marked_at f k) g is)).ids ids).0 o in
        record { order = q.order; ready = q.ready; groups = are q.order q.ids_of }

  -- the moves of all groups are as many as were counted
  pub counted_moves : (k : ℕ) (circuit : Arena) → IsGraphOf f circuit → (groups : Groups) → AreGroups f (marked_at f k) circuit (length circuit.vertices) groups → (moves : List Move) → HasOrderMoves f k moves → length moves ≡ groups.moves
  counted_moves k circuit has groups are moves h =
      let marked = marked_at f k in
      let counted = (level_length f).by_order marked h.order moves (ready_order_is_linear (level_graph f marked) h.order h.ready) h.groups in
      counted.whole (vertices_of groups.items.items) groups.moves
      (record {
        some = are.some;
        all = λ v kept.
            let p = place_of circuit.vertices v ((has.vertices v).1 kept.vertex) in
            are.all (record { number = p.0 }) v (slice_get_within circuit.vertices p.0 v p.1) p.1 kept;
      })
      are.moves

  -- the moves of level 0
  pub zero_moves : IsFlat f → (g : Arena) → IsGraphOf f g → (ids : List VertexId) → IsOrderOf g ids → (moves : List Move) → ((order : List Vertex) → AreVerticesOf g ids order → moves ≡ moves_of f order) → IsLevel f 0 moves
  zero_moves flat g is ids o moves are =
      let q = ((orders_of_circuit f g is).ids ids).0 o in
      subst (IsLevel f 0) (sym (are q.order q.ids_of)) ((level_zero f flat).has q.order q.ready)

  pub found_width : (k : ℕ) (p : Plan) → IsPlanOf f k p → IsWidthOf f k (Some p.width)
  found_width k p is = record { moves = p.moves; level = is.is_level; few = is.few; is = is.wide }

  pub at_first : (budget : ℕ) → NoneFitsBelow f budget 0
  at_first budget = (level_search f budget).start

  module _ (budget k : ℕ) (none : NoneFitsBelow f budget k) where
    -- a level that fits is the first one
    pub fitting : (after : ℕ) (p : Plan) → IsPlanOf f k p → p.width ≤ budget → IsOutcome f budget after (Fitting p)
    fitting after p is narrow =
        let first = (level_search f budget).fitting k p.moves none is.is_level is.few (subst (λ (n : ℕ). n ≤ budget) is.wide narrow) in
        (subst (λ (n : ℕ). IsFirstFit f budget n p.moves) (sym is.at) first, is.wide)

    pub wider : (p : Plan) → IsPlanOf f k p → budget < p.width → NoneFitsBelow f budget (suc k)
    wider p is over = (level_search f budget).wider k p.width none (found_width k p is) over

    module _ (least : ℕ) (lowest : IsLeastBelow f k (Some least)) where
      -- a level that is missing or too long
      pub skipped : IsWidthOf f k None → IsOutcome f budget (suc k) (Over least)
      skipped w = ((level_search f budget).missing k none w, (least_width f).missing k (Some least) lowest w)

      -- a level that does not fit
      pub over : (p : Plan) → IsPlanOf f k p → budget < p.width → IsOutcome f budget (suc k) (Over (min least p.width))
      over p is above = (
        wider p is above,
        elim (cases_lt p.width least) [
          | inl l ↦ subst (λ (n : ℕ). IsLeastBelow f (suc k) (Some n)) (sym (let m : min least p.width ≡ p.width = omega arith in m)) ((least_width f).less k least p.width lowest (found_width k p is) (omega arith))
          | inr g ↦ subst (λ (n : ℕ). IsLeastBelow f (suc k) (Some n)) (sym (let m : min least p.width ≡ least = omega arith in m)) ((least_width f).more k least p.width lowest (found_width k p is) g)
        ],
      )

      -- a level with as many marked wires as the one before is that level
      module _ (j : ℕ) (next : k ≡ suc j) (within : j ≤ last_level) (same : length (marked_at f k) ≡ length (marked_at f j)) where
        was_level : (moves : List Move) → IsLevel f k moves → IsLevel f j moves
        was_level moves l = (equally_marked f).level k j within same moves l

        none_again : NoneFitsBelow f budget (suc k)
        none_again i moves l level = elim (cases_lt i k) [
          | inl b ↦ none i moves b level
          | inr g ↦
              let e : i ≡ k = omega arith in
              none j moves (omega arith) (was_level moves (subst (λ (n : ℕ). IsLevel f n moves) e level))
        ]

        was_width : (wide : ℕ) → HasWidth f k wide → HasWidth f j wide
        was_width wide h = record { moves = h.moves; level = was_level h.moves h.level; few = h.few; is = h.is }

        pub as_before : IsOutcome f budget (suc k) (Over least)
        as_before = (
          none_again,
          record {
            at = lowest.at;
            below = (let b : lowest.at < k = lowest.below in omega arith);
            has = lowest.has;
            least = λ i other l h. elim (cases_lt i k) [
              | inl b ↦ lowest.least i other b h
              | inr g ↦
                  let e : i ≡ k = omega arith in
                  lowest.least j other (omega arith) (was_width other (subst (λ (n : ℕ). HasWidth f n other) e h))
            ];
          },
        )
