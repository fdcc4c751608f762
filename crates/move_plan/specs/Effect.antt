-- What moves do with terms over the values of wires.
use Rattle.std.specs.Prelude.{ℕ, Bool, true, false, cond, ◌&&◌, ◌==◌, List, [], ◌∷◌}
use Rattle.flat_core.specs.declared.step.Step.{Step}
use Rattle.flat_core.specs.declared.step.Step.TheVariants.{X, H, P, M}
use Rattle.flat_core.specs.declared.step.End.{End}
use Rattle.flat_core.specs.declared.step.End.TheVariants.{Output, Dropped, Measured, Zeroed}
use Rattle.flat_core.specs.declared.step.WireId.{WireId}
use Rattle.flat_core.specs.Form.{FlatForm}
use Rattle.flat_core.specs.Label.{wire_id, same_wire, step_at, end_of}
use Rattle.flat_mean.specs.Row.{Row, flipped}
use Rattle.flat_mean.specs.Terms.{Term, do_step, each}
use Rattle.move_plan.specs.declared.moves.Move.{Move}
use Rattle.move_plan.specs.declared.moves.Move.TheVariants.{Up, Down, Do, Free}

abbrev pub is_measured : End → Bool
is_measured Output = false
is_measured Dropped = false
is_measured Measured = true
is_measured Zeroed = false

abbrev pub is_output : End → Bool
is_output Output = true
is_output Dropped = false
is_output Measured = false
is_output Zeroed = false

-- the number of the outcome bit of a measured wire
abbrev pub number_of : List Step → WireId → ℕ
number_of [] w = 0
number_of (X t a b ∷ ss) w = number_of ss w
number_of (H t a ∷ ss) w = number_of ss w
number_of (P e a ∷ ss) w = number_of ss w
number_of (M v n ∷ ss) w = cond (same_wire v w) n (number_of ss w)

-- whether a freed wire is flipped: it is Measured, and its outcome bit is 1
abbrev pub flip_at : FlatForm → (ℕ → Bool) → WireId → Bool
flip_at f outcome w = is_measured (end_of f w) && outcome (number_of f.steps w)

abbrev pub freed_row : FlatForm → (ℕ → Bool) → WireId → Row → Row
freed_row f outcome w row = λ q. cond (q == w.number) (flipped (row q) (flip_at f outcome (wire_id q))) (row q)

-- Up, Down and Do do their step, and Free flips a Measured wire by its outcome bit
abbrev pub do_move : FlatForm → (ℕ → Bool) → Move → Term → List Term
do_move f outcome (Up s) t = do_step outcome (step_at f s) t
do_move f outcome (Down s) t = do_step outcome (step_at f s) t
do_move f outcome (Do s) t = do_step outcome (step_at f s) t
do_move f outcome (Free w) t = record { row = freed_row f outcome w t.row; halvings = t.halvings; eighths = t.eighths } ∷ []

-- the moves one by one, each on each term
abbrev pub do_moves : FlatForm → (ℕ → Bool) → List Move → List Term → List Term
do_moves f outcome [] ts = ts
do_moves f outcome (m ∷ ms) ts = do_moves f outcome ms (each (do_move f outcome m) ts)
