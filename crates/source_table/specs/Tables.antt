-- The exact table of what a text means.
use Rattle.std.specs.Prelude.{◌≡◌, ℕ, Bool, List, Option, Ok}
use Rattle.amp_core.specs.declared.Amp.{Amp}
use Rattle.silq_io.specs.Sinks.{Adds, Breaks}
use Rattle.silq_mean.specs.Table.{Job, IsMeanTable, run_job}
use Rattle.silq_mean.specs.Term.{Term}
use Rattle.table_write.specs.Lines.{source_text}
use Rattle.source_table.specs.declared.fault.RunFault.{RunFault}
use Rattle.source_table.specs.declared.fault.RunFault.TheVariants as runs
use Rattle.source_table.specs.Faults.{Refuses}
use Rattle.silq_compile.specs.Sources.{Source, OfAccepted}

-- a job runs to its end on these input bits and for these outcomes, and these rows are the exact table of what it means
pub record HasTable (input outcome : List Bool) (rows : List (List Bool × Amp)) (j : Job) : Type 0 where
  pub terms : List Term
  pub ran : run_job j input outcome ≡ Ok terms
  pub table : IsMeanTable j input outcome rows

-- all rules hold, and the lines of the table were put whole
abbrev pub PutsTable : List Bool → List Bool → Option (List ℕ) → Option (List ℕ) → Source → Type 0
PutsTable input outcome old new s = (rows : List (List Bool × Amp)) × OfAccepted (HasTable input outcome rows) s × Adds old new (source_text rows)

-- a proper front of the lines was put
abbrev pub BreaksTable : List Bool → List Bool → Option (List ℕ) → Option (List ℕ) → Source → Type 0
BreaksTable input outcome old new s = (rows : List (List Bool × Amp)) × OfAccepted (HasTable input outcome rows) s × Breaks old new (source_text rows)

-- all rules hold, and the run gives this fault; want of memory tells nothing
abbrev pub StopsRun : List Bool → List Bool → RunFault → Source → Type 0
StopsRun input outcome runs.Memory s = Unit {0}
StopsRun input outcome (runs.Limit passed) s = OfAccepted (λ j. Refuses (runs.Limit passed) (run_job j input outcome)) s
StopsRun input outcome (runs.Bits given wanted) s = OfAccepted (λ j. Refuses (runs.Bits given wanted) (run_job j input outcome)) s
StopsRun input outcome (runs.FalseForget line) s = OfAccepted (λ j. Refuses (runs.FalseForget line) (run_job j input outcome)) s
