-- The meaning of a program on its input bits.
use Rattle.std.specs.Prelude.{ℕ, ◌+◌, Bool, false, ◌==◌, if◌then◌else◌, List, [], ◌∷◌, length, map, flat_map, reverse, take, drop, get_or, Option, Some, None, Result, Ok, Err, ℤ}
use Rattle.silq_tree.specs.declared.node.NameId.{NameId}
use Rattle.silq_types.specs.declared.types.Shape.{Shape}
use Rattle.silq_types.specs.Rules.{and_then}
use Rattle.silq_types.specs.Types.{shape_bits}
use Rattle.silq_types.specs.Calls.{Found, find_fun}
use Rattle.silq_types.specs.Programs.{Program, earlier_than, paired}
use Rattle.amp_core.specs.declared.Amp.{Amp}
use Rattle.amp_core.specs.Amplitude.{one, times}
use Rattle.sum_laws.specs.Terms.{amplitude}
use Rattle.sum_laws.specs.Table.{TableOf}
use Rattle.silq_mean.specs.Value.{Value, bits_of, value_of_bits}
use Rattle.silq_mean.specs.Term.{Term}
use Rattle.silq_mean.specs.Effect.{Effect, nothing, Outcome, follow, Holds, run, RunFault, counts, CountFault, outcomes}
use Rattle.silq_mean.specs.Meaning.{params_of, entry}

-- ---- from the input bits to the first term

abbrev pub inputs : List Shape → List Bool → List Value
inputs [] bs = []
inputs (s ∷ ss) bs = value_of_bits s (take (shape_bits s) bs) ∷ inputs ss (drop (shape_bits s) bs)

abbrev pub begins : List Value → Term
begins values = record { env = []; values = reverse values; callers = []; eighths = 0; halvings = 0; measured = 0 }

-- an entry with its static values, and the functions before it, the nearest first
pub record Job : Type 0 where
  pub effect : Effect
  pub shapes : List Shape

abbrev pub job_of : Program → List ℤ → Option Found → Job
job_of program statics None = record { effect = nothing; shapes = [] }
job_of program statics (Some f) =
    record {
      effect = entry program.words (earlier_than f.number (reverse program.funs)) f.fun (paired f.fun.statics statics);
      shapes = map (λ p. p.2.shape) (params_of f.fun (paired f.fun.statics statics));
    }

abbrev pub job : Program → NameId → List ℤ → Job
job program name statics = job_of program statics (find_fun (reverse program.funs) name)

abbrev pub start : Job → List Bool → Term
start j input = begins (inputs j.shapes input)

-- ---- the meaning

-- the terms at the end, where outcome number i is o i
abbrev pub terms : Job → List Bool → Outcome → List Term
terms j input o = follow o j.effect (start j input)

-- a term's value and its amplitude
abbrev pub shown : Term → List Bool × Amp
shown t = (flat_map bits_of (reverse t.values), times t.eighths t.halvings one)

abbrev pub meaning : Job → List Bool → Outcome → List (List Bool × Amp)
meaning j input o = map shown (terms j input o)

-- the amplitude of a list of bits of the returned values and then of the const parameters
abbrev pub mean : Job → List Bool → Outcome → List Bool → Amp
mean j input o v = amplitude v (meaning j input o)

-- each forget is true on each term, for every choice of the outcome bits
abbrev pub Honest : Job → List Bool → Type 0
Honest j input = (o : Outcome) → Holds o j.effect (start j input)

-- ---- `run`

pub data MeanFault : Type 0 where
  TooMany : CountFault → MeanFault
  Bits : ℕ → ℕ → MeanFault
  Stopped : RunFault → MeanFault

abbrev pub as_mean_fault : {A E : Type 0} → (E → MeanFault) → Result A E → Result A MeanFault
as_mean_fault f (Ok a) = Ok a
as_mean_fault f (Err e) = Err (f e)

abbrev pub wanted : ℕ → ℕ → Result (Unit {0}) MeanFault
wanted given n = if given == n then Ok tt else Err (Bits given n)

abbrev pub total_size : List Shape → ℕ
total_size [] = 0
total_size (s ∷ ss) = shape_bits s + total_size ss

abbrev pub outcome_of : List Bool → Outcome
outcome_of bs i = get_or bs i false

abbrev pub after_input : Job → List Bool → List Bool → Result (List Term) MeanFault
after_input j input outcome =
    and_then (wanted (length outcome) (outcomes j.effect (start j input))) (λ u.
    as_mean_fault Stopped (run (outcome_of outcome) 0 j.effect (start j input ∷ [])))

abbrev pub after_counts : Job → List Bool → List Bool → Result (List Term) MeanFault
after_counts j input outcome = and_then (wanted (length input) (total_size j.shapes)) (λ u. after_input j input outcome)

-- the terms at the end or the first refusal: the counts, the lengths, and then terms and forgets in the order of the text
abbrev pub run_job : Job → List Bool → List Bool → Result (List Term) MeanFault
run_job j input outcome =
    and_then (as_mean_fault TooMany (counts j.effect (record { statements = 0; splits = 0 }))) (λ c. after_counts j input outcome)

-- the rows of the table
abbrev pub IsMeanTable : Job → List Bool → List Bool → List (List Bool × Amp) → Type 0
IsMeanTable j input outcome rows = TableOf (meaning j input (outcome_of outcome)) rows
