-- What the fault of a run stands for.
use Rattle.std.specs.Prelude.{◌≡◌, Result, Err}
use Rattle.silq_io.specs.declared.limit.LimitKind.TheVariants as limits
use Rattle.silq_mean.specs.Effect as effects
use Rattle.silq_mean.specs.Table as table
use Rattle.silq_mean.specs.Table.{MeanFault, Bits, Stopped}
use Rattle.silq_run.specs.Counted.{excess_of}
use Rattle.run_stage.specs.declared.stop.WalkStop.{WalkStop}
use Rattle.run_stage.specs.declared.stop.WalkStop.TheVariants.{Memory, TooMany, TooManyTerms, ForgetFalse}
use Rattle.source_table.specs.declared.fault.RunFault.{RunFault}
use Rattle.source_table.specs.declared.fault.RunFault.TheVariants as runs

-- a count is the limit and one
abbrev pub fault_of : MeanFault → RunFault
fault_of (table.TooMany effects.Inlined) = runs.Limit (record { which = limits.Inlined; count = 1000001 })
fault_of (table.TooMany effects.HGates) = runs.Limit (record { which = limits.HGates; count = 51 })
fault_of (Bits given wanted) = runs.Bits given wanted
fault_of (Stopped effects.TooManyTerms) = runs.Limit (record { which = limits.Terms; count = 1048577 })
fault_of (Stopped (effects.ForgetFalse line)) = runs.FalseForget line

-- the fault that a stop of a walk is told as
abbrev pub fault_at : WalkStop → RunFault
fault_at Memory = runs.Memory
fault_at (TooMany x) = fault_of (table.TooMany (excess_of x))
fault_at TooManyTerms = fault_of (Stopped effects.TooManyTerms)
fault_at (ForgetFalse line) = fault_of (Stopped (effects.ForgetFalse line))

-- a run, or a part of one, gives this fault; want of memory alone is free
abbrev pub Gives : {A : Type 0} → RunFault → Result A MeanFault → Type 0
Gives fault r = (m : MeanFault) × (r ≡ Err m) × (fault_of m ≡ fault)

abbrev pub Refuses : {A : Type 0} → RunFault → Result A MeanFault → Type 0
Refuses runs.Memory r = Unit {0}
Refuses (runs.Limit passed) r = Gives (runs.Limit passed) r
Refuses (runs.Bits given wanted) r = Gives (runs.Bits given wanted) r
Refuses (runs.FalseForget line) r = Gives (runs.FalseForget line) r
