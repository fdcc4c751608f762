-- What all terms at once have to do with the parts of an effect.
use Rattle.std.specs.Prelude.{◌≡◌, ℕ, Bool, List, [], ◌∷◌, ◌++◌, Ok}
use Rattle.silq_types.specs.Rules.{and_then}
use Rattle.silq_mean.specs.Effect.{Effect, ◌>>◌, statement, choice, run}
use Rattle.silq_mean.specs.Table.{Job, start, outcome_of}
use Rattle.silq_run.specs.Ran.{State, ran, with_terms, first_way, second_way}

-- the first part and then the second, and the first refusal
abbrev pub PartsRunInTurn : Type 0
PartsRunInTurn = (a b : Effect) (s : State) → ran (a >> b) s ≡ and_then (ran a s) (ran b)

-- a statement does what it holds
abbrev pub StatementsRun : Type 0
StatementsRun = (line : ℕ) (e : Effect) (s : State) → ran (statement line e) s ≡ ran e s

-- the first way, the second, and then both; and the first refusal
abbrev pub ChoicesRun : Type 0
ChoicesRun =
    (a b : Effect) (s : State) →
    ran (choice a b) s ≡ and_then (ran a (first_way s)) (λ u. and_then (ran b (second_way s u.terms)) (λ v. Ok (with_terms s (u.terms ++ v.terms))))

-- from the first term of a job on, the terms at the end are those of `run`
abbrev pub WholeRuns : Type 0
WholeRuns =
    (j : Job) (input outcome : List Bool) →
    and_then (ran j.effect (record { outcome = outcome; waiting = 0; terms = start j input ∷ [] })) (λ s. Ok s.terms) ≡ run (outcome_of outcome) 0 j.effect (start j input ∷ [])
