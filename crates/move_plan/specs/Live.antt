-- Which wires are live, and how wide a list of moves is.
use Rattle.std.specs.Prelude.{ℕ, max, Bool, cond, not, ◌&&◌, ◌||◌, nat_lt, List, [], ◌∷◌, length}
use Rattle.flat_core.specs.declared.step.WireId.{WireId}
use Rattle.flat_core.specs.Form.{FlatForm}
use Rattle.flat_core.specs.Label.{wire_id, end_of, is_input}
use Rattle.flat_mean.specs.Path.{sum_below}
use Rattle.move_plan.specs.declared.moves.Move.{Move}
use Rattle.move_plan.specs.Progress.{Progress, at_start, moved}
use Rattle.move_plan.specs.Effect.{is_output}

-- a wire is live until it is freed, if it is an input, has a label above 0 or is measured
abbrev pub live : FlatForm → Progress → WireId → Bool
live f p w = not (p.gone w) && (is_input f w || nat_lt 0 (p.label w) || p.measured w)

-- at the end each Output wire is live too
abbrev pub live_at_end : FlatForm → Progress → WireId → Bool
live_at_end f p w = live f p w || is_output (end_of f w)

-- how many wires pass a test
abbrev pub count_wires : FlatForm → (WireId → Bool) → ℕ
count_wires f test = sum_below (length f.wires) (λ q. cond (test (wire_id q)) 1 0)

-- the greatest number of live wires before each move, after the last one, and at the end
abbrev pub width_from : FlatForm → Progress → List Move → ℕ
width_from f p [] = max (count_wires f (live f p)) (count_wires f (live_at_end f p))
width_from f p (m ∷ ms) = max (count_wires f (live f p)) (width_from f (moved f p m) ms)

-- the width of a list of moves
abbrev pub width : FlatForm → List Move → ℕ
width f moves = width_from f at_start moves
