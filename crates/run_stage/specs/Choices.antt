-- How a choice by the last value goes on.
use Rattle.std.specs.Prelude.{◌≡◌, ◌+◌, if◌then◌else◌, Option, Some, None, ◌++◌, length, Ok}
use Rattle.silq_types.specs.Rules.{and_then}
use Rattle.silq_mean.specs.Effect.{Effect, choice}
use Rattle.silq_run.specs.declared.running.FirstWay.{FirstWay}
use Rattle.silq_run.specs.declared.running.SecondWay.{SecondWay}
use Rattle.run_stage.specs.declared.stage.Stage.{Stage}
use Rattle.run_stage.specs.declared.stage.Stage.TheVariants.{Running}
use Rattle.run_stage.specs.declared.choice.Choice.{Choice}
use Rattle.run_stage.specs.declared.choice.Choice.TheVariants.{One, Both}
use Rattle.run_stage.specs.Stages.{carried}

-- the stage of the second way, with the terms that waited for it; those of the first way wait
abbrev pub second_stage : Option FirstWay → Stage → Stage
second_stage (Some w) (Running s) = Running (record { outcome = s.outcome; waiting = w.waiting + length s.terms; terms = w.others })
second_stage w s = s

-- what waits then
abbrev pub firsts_of : Option FirstWay → Stage → Option SecondWay
firsts_of (Some w) (Running s) = Some (record { waiting = w.waiting; firsts = s.terms })
firsts_of w s = None

-- the stage after both ways
abbrev pub joined : Option SecondWay → Stage → Stage
joined (Some w) (Running s) = Running (record { outcome = s.outcome; waiting = w.waiting; terms = w.firsts ++ s.terms })
joined w s = s

-- what is left to be done in place of a choice, on the stage that begins it
abbrev pub Begun : Choice → Stage → Stage → Type 0
Begun (One first) old new = (a b : Effect) → carried (choice a b) old ≡ carried (if first then a else b) new
Begun (Both w) old new =
    (a b : Effect) →
    carried (choice a b) old ≡ and_then (carried a new) (λ u. and_then (carried b (second_stage w u)) (λ v. Ok (joined (firsts_of w u) v)))
