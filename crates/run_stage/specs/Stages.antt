-- What an effect does to a stage: to the counts, to one term that tells the number of outcomes, or to all terms.
use Rattle.std.specs.Prelude.{ℕ, Bool, List, [], map, Result, Ok, Err}
use Rattle.amp_core.specs.declared.Amp.{Amp}
use Rattle.silq_mean.specs.Term.{Term}
use Rattle.silq_mean.specs.Effect.{Effect, counts, sample}
use Rattle.silq_mean.specs.Table.{MeanFault, TooMany, Stopped, shown}
use Rattle.silq_run.specs.Ran.{ran}
use Rattle.run_stage.specs.declared.stage.Stage.{Stage}
use Rattle.run_stage.specs.declared.stage.Stage.TheVariants.{Counting, Sampling, Running}

-- the stage, or the fault that comes
abbrev pub staged : {A E : Type 0} → (A → Stage) → (E → MeanFault) → Result A E → Result Stage MeanFault
staged stage fault (Ok a) = Ok (stage a)
staged stage fault (Err e) = Err (fault e)

abbrev pub carried : Effect → Stage → Result Stage MeanFault
carried e (Counting c) = staged Counting TooMany (counts e c)
carried e (Sampling t) = Ok (Sampling (sample e t))
carried e (Running s) = staged Running Stopped (ran e s)

-- ---- what a stage gives at its end

abbrev pub outcomes_of : Stage → ℕ
outcomes_of (Counting c) = 0
outcomes_of (Sampling t) = t.measured
outcomes_of (Running s) = 0

abbrev pub terms_of : Stage → List Term
terms_of (Counting c) = []
terms_of (Sampling t) = []
terms_of (Running s) = s.terms

abbrev pub rows_of : Stage → List (List Bool × Amp)
rows_of s = map shown (terms_of s)
