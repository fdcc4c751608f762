-- What a count that is too high stands for.
use Rattle.silq_run.specs.declared.counts.Excess.{Excess}
use Rattle.silq_run.specs.declared.counts.Excess.TheVariants as excesses
use Rattle.silq_mean.specs.Effect.{CountFault, Inlined, HGates}

abbrev pub excess_of : Excess → CountFault
excess_of excesses.Inlined = Inlined
excess_of excesses.HGates = HGates
