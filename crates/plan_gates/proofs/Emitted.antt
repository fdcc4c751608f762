-- What placing tells of a move is what its gates ask for, and one more move adds its gates.
use Rattle.std.proofs.Common.{◌≡◌, ℕ, true, cond, ◌||◌, Option, Some, None, IsSome, IfSome, List, [], ◌∷◌, ◌++◌, map, inr, refl, sym, ◌∙◌, ap, subst, append_assoc, append-nil}
use Rattle.std.proofs.lemmas.Bool.{or_left, or_right}
use Rattle.flat_core.specs.declared.step.Step.{Step}
use Rattle.flat_core.specs.declared.step.Step.TheVariants.{X, H, P, M}
use Rattle.flat_core.specs.declared.step.End.{End}
use Rattle.flat_core.specs.declared.step.End.TheVariants.{Output, Dropped, Measured as MeasuredWire, Zeroed}
use Rattle.flat_core.specs.declared.step.Lit.{Lit}
use Rattle.flat_core.specs.declared.step.WireId.{WireId}
use Rattle.flat_core.specs.Form.{FlatForm}
use Rattle.flat_core.specs.Label.{main_wire, first_wire, second_wire, wire_of, EachNamed, step_at, end_of}
use Rattle.flat_core.specs.Sound.{IsFlat}
use Rattle.move_plan.specs.declared.moves.Move.{Move}
use Rattle.move_plan.specs.declared.moves.Move.TheVariants.{Up, Down, Do, Free}
use Rattle.move_plan.specs.Progress.{Progress, Stands, at_start, moved, progress}
use Rattle.move_plan.specs.Live.{live}
use Rattle.gate_emit.specs.declared.placed.PlacedMove.{PlacedMove}
use Rattle.gate_emit.specs.Plans.{gates_of, gates_of_all}
use Rattle.qubit_alloc.specs.declared.placed.Placed.{Placed}
use Rattle.qubit_alloc.specs.Place.{Place, first_place, place_move, place_all}
use Rattle.qubit_alloc.specs.PlacedMoves.{qubit_in, placed_of, placed_from}
use Rattle.qubit_alloc.proofs.Lives.{live_from}
use Rattle.qubit_alloc.proofs.Named.{was_live, held_up, held_do, held_down}
use Rattle.plan_gates.specs.PlacedMoves.{HasQubits, HasFreedQubit, move_of_placed}
use Rattle.plan_gates.specs.PlanCircuit.{plan_moves}
use Rattle.plan_gates.specs.Laws.{PlacedMovesCanBeEmitted, OneMoreMoveAddsItsGates}

-- a control's qubit, told of its wire
of_control : (q : Option ℕ) (a : Option Lit) → IfSome (wire_of a) (λ w. IsSome q) → IfSome a (λ l. IsSome q)
of_control q None h = tt
of_control q (Some l) h = h

all_told : (pl : Placed) (s : Step) → IfSome (main_wire s) (λ w. IsSome pl.target) → IfSome (first_wire s) (λ w. IsSome pl.first) → IfSome (second_wire s) (λ w. IsSome pl.second) → HasQubits pl s
all_told pl (X w a b) h i j = (h, of_control pl.first a i, of_control pl.second b j)
all_told pl (H w a) h i j = (h, of_control pl.first a i)
all_told pl (P e a) h i j = i
all_told pl (M w n) h i j = h

module _ (f : FlatForm) (ok : IsFlat f) (p : Progress) (place : Place) where
  is_told : (m : Move) (o : Option WireId) → IfSome o (λ w. (live f p w || live f (moved f p m) w) ≡ true) → IfSome o (λ w. IsSome (qubit_in f p place m o))
  is_told m None h = tt
  is_told m (Some w) h = subst IsSome (sym (ap (λ b. cond b (Some (place_move f p place m w)) None) h)) refl

  step_told : (m : Move) (s : Step) (pl : Placed) → pl.target ≡ qubit_in f p place m (main_wire s) → pl.first ≡ qubit_in f p place m (first_wire s) → pl.second ≡ qubit_in f p place m (second_wire s)
      → EachNamed (λ w. (live f p w || live f (moved f p m) w) ≡ true) s → HasQubits pl s
  step_told m s pl t a b h = all_told pl s
      (subst (λ q. IfSome (main_wire s) (λ w. IsSome q)) (sym t) (is_told m (main_wire s) h.0))
      (subst (λ q. IfSome (first_wire s) (λ w. IsSome q)) (sym a) (is_told m (first_wire s) h.1.0))
      (subst (λ q. IfSome (second_wire s) (λ w. IsSome q)) (sym b) (is_told m (second_wire s) h.1.1))

  freed_told : (w : WireId) → Stands f p (Free w) → HasFreedQubit (end_of f w) (qubit_in f p place (Free w) (Some w))
  freed_told w st = by (end_of f w) refl
    where
      by : (e : End) → end_of f w ≡ e → HasFreedQubit e (qubit_in f p place (Free w) (Some w))
      by Output e = tt
      by Dropped e = tt
      by Zeroed e = tt
      by MeasuredWire e =
          let on : live f p w ≡ true = live_from f p w (record { kept = st.at_top.kept; why = inr (inr (st.measured e)) }) in
          is_told (Free w) (Some w) (or_left (live f p w) (live f (moved f p (Free w)) w) on)

pub can_be_emitted : PlacedMovesCanBeEmitted
can_be_emitted f p place (Up s) ok st = (
  step_told f ok p place (Up s) (step_at f s) (placed_of f p place (Up s)) refl refl refl
      (was_live f p place (Up s) (live f (moved f p (Up s))) (step_at f s) (λ w on. or_right (live f p w) (live f (moved f p (Up s)) w) on) (held_up f ok p s st)),
  ok.eighths s st.1.step,
)
can_be_emitted f p place (Do s) ok st = (
  step_told f ok p place (Do s) (step_at f s) (placed_of f p place (Do s)) refl refl refl
      (was_live f p place (Do s) (live f (moved f p (Do s))) (step_at f s) (λ w on. or_right (live f p w) (live f (moved f p (Do s)) w) on) (held_do f ok p s st)),
  ok.eighths s st.2.step,
)
can_be_emitted f p place (Down s) ok st = (
  step_told f ok p place (Down s) (step_at f s) (placed_of f p place (Down s)) refl refl refl
      (was_live f p place (Down s) (live f p) (step_at f s) (λ w on. or_left (live f p w) (live f (moved f p (Down s)) w) on) (held_down f ok p s st)),
  ok.eighths s st.1.step,
)
can_be_emitted f p place (Free w) ok st = freed_told f ok p place w st

-- the gates of one more move
gates_push : (ms : List PlacedMove) (m : PlacedMove) → gates_of_all (ms ++ m ∷ []) ≡ gates_of_all ms ++ gates_of m
unfolding gates_of_all
gates_push [] m = append-nil (gates_of m)
gates_push (x ∷ ms) m = ap (λ gs. gates_of x ++ gs) (gates_push ms m) ∙ sym (append_assoc (gates_of x) (gates_of_all ms) (gates_of m))

moves_push : (f : FlatForm) (before : List Move) (m : Move) (p : Progress) (place : Place)
    → map move_of_placed (placed_from f p place (before ++ m ∷ [])) ≡ map move_of_placed (placed_from f p place before) ++ move_of_placed (placed_of f (progress f p before) (place_all f p place before) m) ∷ []
moves_push f [] m p place = refl
moves_push f (x ∷ before) m p place = ap (λ ms. move_of_placed (placed_of f p place x) ∷ ms) (moves_push f before m (moved f p x) (place_move f p place x))

pub one_more : OneMoreMoveAddsItsGates
one_more f before m = ap gates_of_all (moves_push f before m at_start (first_place f)) ∙ gates_push (plan_moves f before) (move_of_placed (placed_of f (progress f at_start before) (place_all f at_start (first_place f) before) m))
