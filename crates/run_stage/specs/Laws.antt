-- What stages have to do with the parts of an effect, and with a run.
use Rattle.std.specs.Prelude.{◌≡◌, Bool, List, [], ◌∷◌, length, Ok}
use Rattle.silq_types.specs.Rules.{and_then}
use Rattle.silq_mean.specs.Effect.{Effect, nothing, ◌>>◌}
use Rattle.silq_mean.specs.Table.{Job, start, run_job, wanted, total_size}
use Rattle.run_stage.specs.declared.stage.Stage.{Stage}
use Rattle.run_stage.specs.declared.stage.Stage.TheVariants.{Counting, Sampling, Running}
use Rattle.run_stage.specs.Stages.{carried, outcomes_of, terms_of}

abbrev pub NothingIsCarried : Type 0
NothingIsCarried = (s : Stage) → carried nothing s ≡ Ok s

-- the first part and then the second, and the first refusal
abbrev pub PartsAreCarriedInTurn : Type 0
PartsAreCarriedInTurn = (a b : Effect) (s : Stage) → carried (a >> b) s ≡ and_then (carried a s) (carried b)

abbrev pub counting : Stage
counting = Counting (record { statements = 0; splits = 0 })

abbrev pub sampling : Job → List Bool → Stage
sampling j input = Sampling (start j input)

abbrev pub running : Job → List Bool → List Bool → Stage
running j input outcome = Running (record { outcome = outcome; waiting = 0; terms = start j input ∷ [] })

-- the counts, the length of the input, the number of outcomes, and then all terms
abbrev pub JobsAreCarried : Type 0
JobsAreCarried =
    (j : Job) (input outcome : List Bool) →
    run_job j input outcome
    ≡ and_then (carried j.effect counting) (λ c.
    and_then (wanted (length input) (total_size j.shapes)) (λ u.
    and_then (carried j.effect (sampling j input)) (λ t.
    and_then (wanted (length outcome) (outcomes_of t)) (λ v.
    and_then (carried j.effect (running j input outcome)) (λ s.
    Ok (terms_of s))))))
