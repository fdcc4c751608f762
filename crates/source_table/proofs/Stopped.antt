-- Why a text has no table.
use Rattle.std.proofs.Common.{◌≡◌, ◌≢◌, ℕ, Bool, List, Option, Result, Ok, Err, OnOk, OnErr, IfErr, IsErrOf}
use Rattle.amp_core.specs.declared.Amp.{Amp}
use Rattle.silq_io.specs.Sinks.{Adds, Breaks}
use Rattle.silq_mean.specs.Table.{Job, run_job}
use Rattle.source_table.specs.declared.fault.RunFault.{RunFault}
use Rattle.source_table.specs.declared.fault.RunFault.TheVariants as runs
use Rattle.source_table.specs.Faults.{Refuses}
use Rattle.silq_compile.specs.Sources.{Source, OfAccepted}
use Rattle.table_write.specs.Lines.{source_text}
use Rattle.source_table.specs.Tables.{BreaksTable, HasTable, PutsTable, StopsRun}
use Rattle.source_table.specs.declared.fault.SourceFault.{SourceFault}
use Rattle.source_table.specs.declared.fault.SourceFault.TheVariants as faults

-- what holds of a job holds of what the text means
pub stops : (input outcome : List Bool) (s : Source) (j : Job) → ((P : Job → Type 0) → P j → OfAccepted P s) → (fault : RunFault)
    → Refuses fault (run_job j input outcome) → StopsRun input outcome fault s
stops input outcome s j told runs.Memory h = tt
stops input outcome s j told (runs.Limit passed) h = told (λ k. Refuses (runs.Limit passed) (run_job k input outcome)) h
stops input outcome s j told (runs.Bits given wanted) h = told (λ k. Refuses (runs.Bits given wanted) (run_job k input outcome)) h
stops input outcome s j told (runs.FalseForget line) h = told (λ k. Refuses (runs.FalseForget line) (run_job k input outcome)) h

module _ (input outcome : List Bool) (old new : Option (List ℕ)) (s : Source) (rows : List (List Bool × Amp))
    (h : OfAccepted (HasTable input outcome rows) s) where
  pub done : (r : Result (Unit {0}) SourceFault) → OnOk r (Adds old new (source_text rows)) → OnOk r (PutsTable input outcome old new s)
  done (Ok u) put = (rows, h, put)
  done (Err f) put = tt

  pub broken : (r : Result (Unit {0}) SourceFault) → OnErr r (Breaks old new (source_text rows)) → IsErrOf r faults.Failed → BreaksTable input outcome old new s
  broken (Ok u) put is = absurd (cc)
  broken (Err f) put is = (rows, h, put)

-- a sink has no other fault
pub not_failed : (A : Type 0) (r : Result (Unit {0}) SourceFault) → IfErr r (λ f. f ≡ faults.Failed) → IfErr r (λ f. f ≢ faults.Failed → A)
not_failed A (Ok u) h = tt
not_failed A (Err f) h = λ other. absurd (other h)

pub same_run : (one other : RunFault) → ◌≡◌ {A = Result (Unit {0}) SourceFault} (Err (faults.Run one)) (Err (faults.Run other)) → one ≡ other
same_run one other is = cc
