-- The laws of valid lists of moves, as statements.
use Rattle.std.specs.Prelude.{◌≡◌, ℕ, Bool, true, false, cond, List, [], ◌∷◌, All}
use Rattle.amp_core.specs.declared.Amp.{Amp}
use Rattle.amp_core.specs.Amplitude.{none, plus}
use Rattle.sum_laws.specs.Terms.{amplitude}
use Rattle.flat_core.specs.declared.step.End.TheVariants.{Output, Zeroed}
use Rattle.flat_core.specs.declared.step.WireId.{WireId}
use Rattle.flat_core.specs.Form.{FlatForm}
use Rattle.flat_core.specs.Label.{wire_id, end_of, is_input}
use Rattle.flat_core.specs.Sound.{IsFlat}
use Rattle.flat_mean.specs.Row.{Row}
use Rattle.flat_mean.specs.Path.{count_choices, top_row, possible_path, path_halvings, path_eighths, sum_choices}
use Rattle.flat_mean.specs.Terms.{Term, first_term, total, seen_at}
use Rattle.flat_mean.specs.Laws.{counts, path_amplitude}
use Rattle.move_plan.specs.declared.moves.Move.{Move}
use Rattle.move_plan.specs.Progress.{at_start, AllStand, progress, IsPlan}
use Rattle.move_plan.specs.Effect.{is_output, do_moves}
use Rattle.move_plan.specs.Live.{live}

-- only input wires may begin with the value 1
pub record IsInput (f : FlatForm) (input : Row) : Type 0 where
  pub zero : (w : WireId) → is_input f w ≡ false → input w.number ≡ false

-- each Zeroed wire has the value 0 at its top on each path whose weight is not zero, whatever it measures
pub record ZeroedAreZero (f : FlatForm) (input : Row) : Type 0 where
  pub zero : (choice : ℕ → Bool) → possible_path f.steps input choice ≡ true → (w : WireId) → end_of f w ≡ Zeroed → top_row f.steps input choice w.number ≡ false

-- a path's values at the tops of the Output wires, with 0 for each other wire
abbrev pub end_row : FlatForm → Row → (ℕ → Bool) → Row
end_row f input choice = λ q. cond (is_output (end_of f (wire_id q))) (top_row f.steps input choice q) false

abbrev pub end_term : FlatForm → Row → (ℕ → Bool) → Term
end_term f input choice = record { row = end_row f input choice; halvings = path_halvings f.steps input choice; eighths = path_eighths f.steps input choice }

-- every valid list of moves gives, whatever one adds up over the terms, what the paths that count give, with 0 on each
-- wire but the Output wires
abbrev pub MovesGivePaths : Type 0
MovesGivePaths =
    (f : FlatForm) (input : Row) (outcome : ℕ → Bool) (moves : List Move)
    → IsFlat f → IsInput f input → ZeroedAreZero f input → IsPlan f moves
    → (g : Term → Amp)
    → total none plus g (do_moves f outcome moves (first_term input ∷ []))
    ≡ sum_choices plus (count_choices f.steps) (λ c. cond (counts f.steps input outcome c) (g (end_term f input c)) none)

-- every valid list of moves gives to each value of some Output wires the sum of the weights of the agreeing paths that
-- have it
abbrev pub MovesGiveAmplitudes : Type 0
MovesGiveAmplitudes =
    (f : FlatForm) (input : Row) (outcome : ℕ → Bool) (moves : List Move)
    → IsFlat f → IsInput f input → ZeroedAreZero f input → IsPlan f moves
    → (wires : List WireId) (values : List Bool) → All (λ w. end_of f w ≡ Output) wires
    → amplitude values (seen_at wires (do_moves f outcome moves (first_term input ∷ [])))
    ≡ path_amplitude f.steps input outcome wires values

-- after a valid list of moves each wire but the Output wires is 0 in each term
abbrev pub OthersAreZero : Type 0
OthersAreZero =
    (f : FlatForm) (input : Row) (outcome : ℕ → Bool) (moves : List Move)
    → IsFlat f → IsInput f input → ZeroedAreZero f input → IsPlan f moves
    → (w : WireId) → is_output (end_of f w) ≡ false
    → All (λ t. t.row w.number ≡ false) (do_moves f outcome moves (first_term input ∷ []))

-- after any moves that may come, each wire that is not live is 0 in each term
abbrev pub IdleAreZero : Type 0
IdleAreZero =
    (f : FlatForm) (input : Row) (outcome : ℕ → Bool) (moves : List Move)
    → IsFlat f → IsInput f input → ZeroedAreZero f input → AllStand f at_start moves
    → (w : WireId) → live f (progress f at_start moves) w ≡ false
    → All (λ t. t.row w.number ≡ false) (do_moves f outcome moves (first_term input ∷ []))
