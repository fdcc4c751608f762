-- Terms over wires as terms over qubits, and what placed moves do with these.
use Rattle.std.specs.Prelude.{ℕ, Bool, cond, ◌&&◌, ◌==◌, Option, Some, None, List, [], ◌∷◌, length, map, option_map}
use Rattle.flat_core.specs.declared.step.Step.{Step}
use Rattle.flat_core.specs.declared.step.Step.TheVariants.{X, H, P, M}
use Rattle.flat_core.specs.declared.step.Lit.{Lit}
use Rattle.flat_core.specs.declared.step.WireId.{WireId}
use Rattle.flat_core.specs.Form.{FlatForm}
use Rattle.flat_core.specs.Label.{wire_id}
use Rattle.flat_mean.specs.Row.{Row, flipped}
use Rattle.flat_mean.specs.Terms.{Term, do_step, each}
use Rattle.move_plan.specs.Progress.{at_start}
use Rattle.move_plan.specs.Effect.{is_measured}
use Rattle.move_plan.specs.Live.{live}
use Rattle.qubit_alloc.specs.declared.placed.Placed.{Placed}
use Rattle.qubit_alloc.specs.Place.{Place, any_below, first_place}

-- the values of the qubits: a qubit has the value of the wire on it, and is 0 where no wire stands on it
abbrev pub spread : FlatForm → (WireId → Bool) → Place → Row → Row
spread f on place row = λ j. any_below (length f.wires) (λ w. on (wire_id w) && (place (wire_id w) == j) && row w)

abbrev pub spread_term : FlatForm → (WireId → Bool) → Place → Term → Term
spread_term f on place t = record { row = spread f on place t.row; halvings = t.halvings; eighths = t.eighths }

abbrev pub spread_all : FlatForm → (WireId → Bool) → Place → List Term → List Term
spread_all f on place ts = map (spread_term f on place) ts

-- a step with qubits in the place of its wires
abbrev pub to_qubit : Place → WireId → WireId
to_qubit place w = wire_id (place w)

abbrev pub lit_on : Place → Lit → Lit
lit_on place l = record { wire = to_qubit place l.wire; positive = l.positive }

abbrev pub on_qubits : Place → Step → Step
on_qubits place (X t a b) = X (to_qubit place t) (option_map (lit_on place) a) (option_map (lit_on place) b)
on_qubits place (H t a) = H (to_qubit place t) (option_map (lit_on place) a)
on_qubits place (P e a) = P e (lit_on place a)
on_qubits place (M w n) = M (to_qubit place w) n

-- the qubit told of a placed move, 0 where there is none
abbrev pub qubit_or : Option ℕ → WireId
qubit_or None = wire_id 0
qubit_or (Some q) = wire_id q

abbrev pub lit_at : Option ℕ → Lit → Lit
lit_at q l = record { wire = qubit_or q; positive = l.positive }

-- the step of a placed move, with its qubits in the place of its wires
abbrev pub step_placed : Placed → Step → Step
step_placed pl (X t a b) = X (qubit_or pl.target) (option_map (lit_at pl.first) a) (option_map (lit_at pl.second) b)
step_placed pl (H t a) = H (qubit_or pl.target) (option_map (lit_at pl.first) a)
step_placed pl (P e a) = P e (lit_at pl.first a)
step_placed pl (M w n) = M (qubit_or pl.target) n

-- a qubit flipped or not
abbrev pub flip_qubit : Option ℕ → Bool → Term → Term
flip_qubit None flip t = t
flip_qubit (Some j) flip t = record { row = λ i. cond (i == j) (flipped (t.row i) flip) (t.row i); halvings = t.halvings; eighths = t.eighths }

-- a placed step is done on its qubits; where a wire is freed its qubit is flipped, if it is Measured and its outcome bit is 1
abbrev pub do_placed_step : (ℕ → Bool) → Placed → Option Step → Term → List Term
do_placed_step outcome pl (Some s) t = do_step outcome (step_placed pl s) t
do_placed_step outcome pl None t = flip_qubit pl.target (is_measured pl.end && outcome pl.bit) t ∷ []

abbrev pub do_placed : (ℕ → Bool) → Placed → Term → List Term
do_placed outcome pl t = do_placed_step outcome pl pl.step t

-- placed moves one by one, each on each term
abbrev pub do_all_placed : (ℕ → Bool) → List Placed → List Term → List Term
do_all_placed outcome [] ts = ts
do_all_placed outcome (pl ∷ rest) ts = do_all_placed outcome rest (each (do_placed outcome pl) ts)

-- the values with which the qubits begin: those of the inputs, and 0 on all others
abbrev pub first_row : FlatForm → Row → Row
first_row f input = spread f (live f at_start) (first_place f) input
