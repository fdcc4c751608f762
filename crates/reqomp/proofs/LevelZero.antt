-- Level 0 marks no wire, so its graph is the circuit graph and each vertex gives its own move alone.
use Rattle.std.proofs.Common.{◌≡◌, ℕ, ◌+◌, ◌≤◌, ◌/◌, arith, List, [], ◌∷◌, ◌++◌, map, reverse, length, take, refl, sym, ap, ◌∙◌, subst, mul-zero}
use Rattle.std.proofs.lemmas.List.{length-map}
use Rattle.std.proofs.lemmas.Option.{none-some}
use Rattle.flat_core.specs.declared.step.WireId.{WireId}
use Rattle.flat_core.specs.declared.step.StepId.{StepId}
use Rattle.flat_core.specs.Form.{FlatForm}
use Rattle.flat_core.specs.Ends.{KeepsEnds}
use Rattle.flat_core.proofs.Kept.{keeps_ends}
use Rattle.graph_core.specs.declared.vertex.Vertex.{Vertex}
use Rattle.graph_core.specs.Digraph.{IsSame}
use Rattle.graph_core.specs.Circuit.{IsVertex, Uses, circuit_graph}
use Rattle.graph_core.proofs.Places.{contains_at}
use Rattle.graph_core.proofs.EdgeEnds.{edge_map, edge_ends}
use Rattle.topo_order.specs.ReadyOrder.{IsReadyOrder}
use Rattle.topo_order.proofs.Orders.{contains_nil, ready_order_is_linear, ordered_is_acyclic, same_order, same_back}
use Rattle.move_plan.specs.declared.moves.Move.{Move}
use Rattle.move_plan.specs.declared.moves.Move.TheVariants.{Up, Down}
use Rattle.move_plan.specs.AsMoves.{move_of, moves_of}
use Rattle.move_plan.proofs.OrdersAreValid.{orders_are_valid}
use Rattle.reqomp.specs.Simple.{simple_wires, marked_at}
use Rattle.reqomp.specs.Level.{RestsOn, directly, further, Needs, itself, below, IsKept, level_graph, IsRedone, AreMoves, none, more, IsLevel, LevelZero}
use Rattle.reqomp.proofs.CircuitEdges.{few_in_order, acyclic_has_order}

none_marked : (f : FlatForm) → marked_at f 0 ≡ []
none_marked f = ap (λ (n : ℕ). take ((n + 15) / 16) (simple_wires f)) (mul-zero (length (simple_wires f)))

rests_nowhere : (f : FlatForm) (v : Vertex) (w : WireId) → ¬ RestsOn f [] v w
rests_nowhere f v w (directly u c) = contains_nil w c
rests_nowhere f v w (further r p c) = contains_nil w c

needs_own : (f : FlatForm) (v : Vertex) (w : WireId) (i : ℕ) → Needs f [] v w i → Uses f v w i
needs_own f v w i (itself u n) = u
needs_own f v w i (below {p = p} r q n) = absurd (rests_nowhere f v p r)

kept : (f : FlatForm) (v : Vertex) → IsVertex f v → IsKept f [] v
kept f v h = record { vertex = h; unmarked = λ w c. absurd (contains_nil w c) }

same_graph : (f : FlatForm) → KeepsEnds f → IsSame (level_graph f []) (circuit_graph f)
same_graph f ok = record {
  vertices = λ v. ((λ k. k.vertex), kept f v);
  edges = λ u v. (
    (λ e. (e.kind, edge_map f (Needs f []) (Uses f) (needs_own f) e.kind u v e.edge)),
    (λ e. let b = edge_ends f ok e.0 u v e.1 in record { from = kept f u b.0; to = kept f v b.1; kind = e.0; edge = edge_map f (Uses f) (Needs f []) (λ x w i n. itself n (contains_nil w)) e.0 u v e.1 }),
  );
}

nothing_redone : (f : FlatForm) (v : Vertex) → IsRedone f [] v []
nothing_redone f v = record {
  only = λ s c. absurd (contains_nil s c);
  all = λ s w r. absurd (rests_nowhere f v w r);
  ascending = λ i j a b l h. absurd (none-some a h);
}

own_moves : (f : FlatForm) (order : List Vertex) → AreMoves f [] order (moves_of f order)
own_moves f [] = none
own_moves f (v ∷ order) = more (nothing_redone f v) (own_moves f order)

redone_nil : (f : FlatForm) (v : Vertex) (steps : List StepId) → IsRedone f [] v steps → steps ≡ []
redone_nil f v [] r = refl
redone_nil f v (s ∷ steps) r = let o = r.only s (contains_at (s ∷ steps) 0 s refl) in absurd (rests_nowhere f v o.0 o.1)

only_own : (f : FlatForm) (order : List Vertex) (moves : List Move) → AreMoves f [] order moves → moves ≡ moves_of f order
only_own f order moves none = refl
only_own f order moves (more {v = v} {steps = steps} {rest = rest} {moves = others} r a) =
    ap (λ (l : List StepId). map Up l ++ (move_of f v ∷ (map Down (reverse l) ++ others))) (redone_nil f v steps r)
    ∙ ap (λ (l : List Move). move_of f v ∷ l) (only_own f rest others a)

pub level_zero : LevelZero
level_zero f flat = record {
  has = has;
  only = only;
  there = λ no_cycle. let o = acyclic_has_order f flat no_cycle in (moves_of f o.0, has o.0 o.1);
  acyclic = λ moves l. let o = only moves l in ordered_is_acyclic (circuit_graph f) o.0 (ready_order_is_linear (circuit_graph f) o.0 o.1);
  few = λ moves l.
      let o = only moves l in
      let m : length moves ≡ length o.0 = ap length o.2 ∙ length-map o.0 (move_of f) in
      let n : length o.0 ≤ 500000 = few_in_order f flat o.0 (ready_order_is_linear (circuit_graph f) o.0 o.1) in
      omega arith;
}
  where
    ok : KeepsEnds f
    ok = keeps_ends f flat

    has : (order : List Vertex) → IsReadyOrder (circuit_graph f) order → IsLevel f 0 (moves_of f order)
    has order o = record {
      level = omega arith;
      order = order;
      ready = subst (λ (m : List WireId). IsReadyOrder (level_graph f m) order) (sym (none_marked f)) (same_order (circuit_graph f) (level_graph f []) (same_back (level_graph f []) (circuit_graph f) (same_graph f ok)) order o);
      groups = subst (λ (m : List WireId). AreMoves f m order (moves_of f order)) (sym (none_marked f)) (own_moves f order);
      valid = orders_are_valid f flat order (ready_order_is_linear (circuit_graph f) order o);
    }

    only : (moves : List Move) → IsLevel f 0 moves → (order : List Vertex) × IsReadyOrder (circuit_graph f) order × (moves ≡ moves_of f order)
    only moves l = (
      l.order,
      same_order (level_graph f []) (circuit_graph f) (same_graph f ok) l.order (subst (λ (m : List WireId). IsReadyOrder (level_graph f m) l.order) (none_marked f) l.ready),
      only_own f l.order moves (subst (λ (m : List WireId). AreMoves f m l.order moves) (none_marked f) l.groups),
    )
