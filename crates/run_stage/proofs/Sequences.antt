-- What stages have to do with the parts of an effect, and with a run.
use Rattle.std.proofs.Common.{◌≡◌, List, [], ◌∷◌, length, Result, Ok, Err, refl, ap, ◌∙◌}
use Rattle.silq_types.specs.Rules.{and_then}
use Rattle.silq_mean.specs.Term.{Term}
use Rattle.silq_mean.specs.Effect.{Counts, CountFault, RunFault, counts, run, outcomes}
use Rattle.silq_mean.specs.Table.{MeanFault, TooMany, Stopped, as_mean_fault, start, outcome_of, wanted, total_size, after_input, after_counts}
use Rattle.silq_run.specs.Ran.{State, ran, with_terms}
use Rattle.silq_run.proofs.Sequences.{in_turn as ran_in_turn}
use Rattle.run_stage.specs.declared.stage.Stage.TheVariants.{Counting, Sampling, Running}
use Rattle.run_stage.specs.Stages.{staged, carried, outcomes_of, terms_of}
use Rattle.run_stage.specs.Laws.{NothingIsCarried, PartsAreCarriedInTurn, JobsAreCarried, sampling, running}

pub nothing_to_do : NothingIsCarried
nothing_to_do (Counting c) = refl
nothing_to_do (Sampling t) = refl
nothing_to_do (Running s) = refl

pub in_turn : PartsAreCarriedInTurn
in_turn a b (Counting c) = pick (counts a c)
  where
    pick : (r : Result Counts CountFault) → staged Counting TooMany (and_then r (counts b)) ≡ and_then (staged Counting TooMany r) (carried b)
    pick (Ok d) = refl
    pick (Err f) = refl
in_turn a b (Sampling t) = refl
in_turn a b (Running s) = ap (staged Running Stopped) (ran_in_turn a b s) ∙ pick (ran a s)
  where
    pick : (r : Result State RunFault) → staged Running Stopped (and_then r (ran b)) ≡ and_then (staged Running Stopped r) (carried b)
    pick (Ok t) = refl
    pick (Err f) = refl

pub jobs : JobsAreCarried
jobs j input outcome = counted (counts j.effect (record { statements = 0; splits = 0 }))
  where
    first : State
    first = record { outcome = outcome; waiting = 0; terms = start j input ∷ [] }

    ends : (r : Result (List Term) RunFault) →
        as_mean_fault Stopped r ≡ and_then (staged Running Stopped (and_then r (λ ts. Ok (with_terms first ts)))) (λ s. Ok (terms_of s))
    ends (Ok ts) = refl
    ends (Err f) = refl

    last : Result (List Term) MeanFault
    last = and_then (carried j.effect (running j input outcome)) (λ s. Ok (terms_of s))

    measured : (r : Result (Unit {0}) MeanFault) →
        and_then r (λ u. as_mean_fault Stopped (run (outcome_of outcome) 0 j.effect (start j input ∷ []))) ≡ and_then r (λ u. last)
    measured (Ok u) = ends (run (outcome_of outcome) 0 j.effect (start j input ∷ []))
    measured (Err f) = refl

    sampled : Result (List Term) MeanFault
    sampled = and_then (carried j.effect (sampling j input)) (λ t. and_then (wanted (length outcome) (outcomes_of t)) (λ v. last))

    given : (r : Result (Unit {0}) MeanFault) → and_then r (λ u. after_input j input outcome) ≡ and_then r (λ u. sampled)
    given (Ok u) = measured (wanted (length outcome) (outcomes j.effect (start j input)))
    given (Err f) = refl

    counted : (r : Result Counts CountFault) →
        and_then (as_mean_fault TooMany r) (λ c. after_counts j input outcome)
        ≡ and_then (staged Counting TooMany r) (λ c. and_then (wanted (length input) (total_size j.shapes)) (λ u. sampled))
    counted (Ok c) = given (wanted (length input) (total_size j.shapes))
    counted (Err f) = refl
