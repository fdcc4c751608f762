-- Live wires, and at the end all Output wires, stand on different qubits below the width.
use Rattle.std.proofs.Common.{◌≤◌, List, [], ◌∷◌, ◌++◌, sym, subst, arith, append-nil}
use Rattle.std.proofs.lemmas.Bool.{or_right}
use Rattle.flat_core.specs.Form.{FlatForm}
use Rattle.flat_core.specs.Label.{end_of}
use Rattle.move_plan.specs.declared.moves.Move.{Move}
use Rattle.move_plan.specs.Progress.{Progress, at_start, moved, progress, IsPlan}
use Rattle.move_plan.specs.Effect.{is_output}
use Rattle.move_plan.specs.Live.{live, live_at_end, count_wires, width_from, width}
use Rattle.move_plan.proofs.Counts.{width_from-ge}
use Rattle.qubit_alloc.specs.Place.{first_place, place_all}
use Rattle.qubit_alloc.specs.Laws.{LiveWiresApart, OutputsApart}
use Rattle.qubit_alloc.proofs.Placing.{placed_moves, placed_end, placed_less}
use Rattle.qubit_alloc.proofs.Starting.{placed_start}

pub live_wires_apart : LiveWiresApart
live_wires_apart f before rest wide ok plan fits =
    let first = width_from-ge f at_start (before ++ rest) in
    placed_moves f ok wide before rest at_start (first_place f) plan.stand fits (placed_start f wide (omega arith))

-- the width is at least the number of wires at the end
pub width_from-end : (f : FlatForm) (p : Progress) (ms : List Move) → count_wires f (live_at_end f (progress f p ms)) ≤ width_from f p ms
width_from-end f p [] = omega arith
width_from-end f p (m ∷ ms) = let rest = width_from-end f (moved f p m) ms in omega arith

pub outputs_apart : OutputsApart
outputs_apart f moves wide ok plan fits =
    let p = progress f at_start moves in
    let whole = live_wires_apart f moves [] wide ok (subst (λ (ms : List Move). IsPlan f ms) (sym (append-nil moves)) plan) (subst (λ (ms : List Move). width f ms ≤ wide) (sym (append-nil moves)) fits) in
    let last = width_from-end f at_start moves in
    placed_less f wide (live_at_end f p) (λ w. is_output (end_of f w)) _ (λ v vl h. or_right (live f p v) (is_output (end_of f v)) h)
    (placed_end f wide p (place_all f at_start (first_place f) moves) (omega arith) whole)
