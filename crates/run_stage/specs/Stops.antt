-- Which refusal a walk answers.
use Rattle.std.specs.Prelude.{◌≡◌, Result, Err}
use Rattle.silq_mean.specs.Effect as effects
use Rattle.silq_mean.specs.Table as table
use Rattle.silq_run.specs.Counted.{excess_of}
use Rattle.silq_run.specs.declared.fault.Stop.{Stop}
use Rattle.silq_run.specs.declared.fault.Stop.TheVariants as stops
use Rattle.run_stage.specs.declared.stage.Stage.{Stage}
use Rattle.run_stage.specs.declared.stop.WalkStop.{WalkStop}
use Rattle.run_stage.specs.declared.stop.WalkStop.TheVariants.{Memory, TooMany, TooManyTerms, ForgetFalse}

-- the refusal of all terms at once
abbrev pub stopped : Stop → WalkStop
stopped stops.Memory = Memory
stopped stops.TooManyTerms = TooManyTerms
stopped (stops.ForgetFalse line) = ForgetFalse line

-- the refusal that comes; want of memory alone is free
abbrev pub IsStop : WalkStop → Result Stage table.MeanFault → Type 0
IsStop Memory r = Unit {0}
IsStop (TooMany x) r = r ≡ Err (table.TooMany (excess_of x))
IsStop TooManyTerms r = r ≡ Err (table.Stopped effects.TooManyTerms)
IsStop (ForgetFalse line) r = r ≡ Err (table.Stopped (effects.ForgetFalse line))
