-- Levels with equally many marked wires are one level.
use Rattle.std.proofs.Common.{◌≡◌, ℕ, ◌+◌, ◌*◌, ◌/◌, ◌≤◌, min, List, length, take, sym, ap, ◌∙◌, subst, arith, le_refl}
use Rattle.std.proofs.lemmas.List.{length-take, length-take-le, take_min}
use Rattle.std.proofs.lemmas.Nat.{mul-le}
use Rattle.flat_core.specs.declared.step.WireId.{WireId}
use Rattle.flat_core.specs.Form.{FlatForm}
use Rattle.topo_order.specs.ReadyOrder.{IsReadyOrder}
use Rattle.move_plan.specs.declared.moves.Move.{Move}
use Rattle.reqomp.specs.Simple.{simple_wires, marked_at}
use Rattle.reqomp.specs.Level.{level_graph, AreMoves, last_level, IsLevel}
use Rattle.reqomp.specs.Planning.{EquallyMarked}

-- the beginnings of a list are told by their lengths
same_front : (xs : List WireId) (m n : ℕ) → length (take m xs) ≡ length (take n xs) → take m xs ≡ take n xs
same_front xs m n e =
    let s : min m (length xs) ≡ min n (length xs) = sym (length-take m xs) ∙ e ∙ length-take n xs in
    sym (take_min m xs) ∙ ap (λ (i : ℕ). take i xs) s ∙ take_min n xs

-- so many sixteenths, rounded up, are no more than the whole
no_more_than_all : (n k : ℕ) → k ≤ 16 → (n * k + 15) / 16 ≤ n
no_more_than_all n k l =
    let p : n * k ≤ n * 16 = mul-le n k n 16 (le_refl n) l in
    omega arith

module _ (f : FlatForm) where
  same_marks : (j k : ℕ) → length (marked_at f j) ≡ length (marked_at f k) → marked_at f j ≡ marked_at f k
  same_marks j k e = same_front (simple_wires f) ((length (simple_wires f) * j + 15) / 16) ((length (simple_wires f) * k + 15) / 16) e

  same_level : (j k : ℕ) → k ≤ last_level → marked_at f j ≡ marked_at f k → (moves : List Move) → IsLevel f j moves → IsLevel f k moves
  same_level j k within e moves l = record {
    level = within;
    order = l.order;
    ready = subst (λ (m : List WireId). IsReadyOrder (level_graph f m) l.order) e l.ready;
    groups = subst (λ (m : List WireId). AreMoves f m l.order moves) e l.groups;
    valid = l.valid;
  }

pub equally_marked : EquallyMarked
equally_marked f = record {
  many = λ k l. length-take-le ((length (simple_wires f) * k + 15) / 16) (simple_wires f) (no_more_than_all (length (simple_wires f)) k l);
  wires = same_marks f;
  level = λ j k b e moves. same_level f j k b (same_marks f j k e) moves;
}
