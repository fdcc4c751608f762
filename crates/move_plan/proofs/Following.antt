-- A list of moves followed from place to place.
use Rattle.std.proofs.Common.{◌≡◌, ℕ, ◌+◌, ◌<◌, ◌≤◌, max, List, ◌∷◌, length, get_or, drop, sym, ◌∙◌, ap, subst, arith}
use Rattle.std.proofs.lemmas.List.{drop_more}
use Rattle.flat_core.specs.Form.{FlatForm}
use Rattle.move_plan.specs.declared.moves.Move.{Move}
use Rattle.move_plan.specs.Progress.{Progress, moved, AllStand}
use Rattle.move_plan.specs.Live.{live, count_wires, width_from}
use Rattle.move_plan.proofs.Counts.{width_from-ge}

module _ (f : FlatForm) (ms : List Move) (i : ℕ) (m : Move) (p : Progress) (within : i < length ms) (is : m ≡ get_or ms i m) where
  here : drop i ms ≡ m ∷ drop (i + 1) ms
  here = drop_more ms i m within ∙ ap (λ (x : Move). x ∷ drop (i + 1) ms) (sym is)

  -- what is left may come after the next move
  pub rest_stands : AllStand f p (drop i ms) → AllStand f (moved f p m) (drop (i + 1) ms)
  rest_stands all = let a : AllStand f p (m ∷ drop (i + 1) ms) = subst (AllStand f p) here all in a.1

  width-next : width_from f p (drop i ms) ≡ max (count_wires f (live f p)) (width_from f (moved f p m) (drop (i + 1) ms))
  width-next = ap (width_from f p) here

  -- the greatest count so far, one move more
  pub most_more : (most count next whole : ℕ) → count ≡ count_wires f (live f p) → count ≤ most → next ≡ count_wires f (live f (moved f p m)) → max most (width_from f p (drop i ms)) ≡ whole → max (max most next) (width_from f (moved f p m) (drop (i + 1) ms)) ≡ whole
  most_more most count next whole e le en h =
      let w = width-next in
      let low : count_wires f (live f (moved f p m)) ≤ width_from f (moved f p m) (drop (i + 1) ms) = width_from-ge f (moved f p m) (drop (i + 1) ms) in
      omega arith
