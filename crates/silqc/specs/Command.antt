-- The commands over a text, and what is said of each.
use Rattle.std.specs.Prelude.{◌≡◌, ℕ, ℤ, Bool, List, [], Option, Some, None, IfSome, codes, option_and_then}
use Rattle.cli_words.specs.Job as jobs
use Rattle.cli_words.specs.Job.{Job, job_of}
use Rattle.flat_compile.specs.declared.output.Output.TheVariants.{Text, Report}
use Rattle.silq_gen.specs.Generated.{generated}
use Rattle.silq_io.specs.Counts.{Rose}
use Rattle.silq_compile.specs.Sources.{Source}
use Rattle.silqc.specs.Asked.{Asked, check, compile, mean}

-- where a program comes from: the file of a name, or the generator of programs, by a number and a size
pub data Origin : Type 0 where
  in_file : List ℕ → Origin
  made : ℕ → ℕ → Origin

-- The function of this name in a program, with these values of its static parameters, and what is asked of it.
pub record Command : Type 0 where
  pub origin : Origin
  pub entry : List ℕ
  pub statics : List ℤ
  pub asked : Asked

abbrev pub on_file : List ℕ → List ℕ → List ℤ → Asked → Command
on_file file entry statics asked = record { origin = in_file file; entry = entry; statics = statics; asked = asked }

-- the report of a generated program
abbrev pub on_generated : ℕ → ℕ → Command
on_generated number size = record { origin = made number size; entry = codes "main"; statics = []; asked = compile Report 4096 }

-- what a job does with a program; None where it is a job of another kind
abbrev pub command_of : Job → Option Command
command_of (jobs.compile file entry statics budget) = Some (on_file file entry statics (compile Text budget))
command_of (jobs.report file entry statics budget) = Some (on_file file entry statics (compile Report budget))
command_of (jobs.check file entry statics) = Some (on_file file entry statics check)
command_of (jobs.mean file entry bits outcome statics) = Some (on_file file entry statics (mean bits outcome))
command_of (jobs.amps file bits outcome) = None
command_of (jobs.gen number size) = Some (on_generated number size)

-- the words are this command
abbrev pub IsCommand : List (List ℕ) → Command → Type 0
IsCommand words c = option_and_then command_of (job_of words) ≡ Some c

-- the bytes of a program, where they are told
abbrev pub bytes_at : (List ℕ → Option (List ℕ)) → Origin → Option (List ℕ)
bytes_at held (in_file file) = held file
bytes_at held (made number size) = Some (generated number size)

-- the file that a job reads, if any
abbrev pub file_of : Job → Option (List ℕ)
file_of (jobs.compile file entry statics budget) = Some file
file_of (jobs.report file entry statics budget) = Some file
file_of (jobs.check file entry statics) = Some file
file_of (jobs.mean file entry bits outcome statics) = Some file
file_of (jobs.amps file bits outcome) = Some file
file_of (jobs.gen number size) = None

-- the file of a job, where its bytes are told, was read whole
abbrev pub IsReadWhole : (List ℕ → Option (List ℕ)) → (List ℕ → Option (List ℕ)) → Job → Type 0
IsReadWhole held left j = IfSome (file_of j) (λ file. IfSome (held file) (λ bytes. left file ≡ Some []))

-- the file of a job had a fault; a job that reads none has none
abbrev pub HadFault : (List ℕ → ℕ) → (List ℕ → ℕ) → Job → Type 0
HadFault old new j = by (file_of j)
  where
    by : Option (List ℕ) → Type 0
    by None = ⊥
    by (Some file) = Rose (old file) (new file)

-- for the job that the words are
abbrev pub ForJob : List (List ℕ) → (Job → Type 0) → Type 0
ForJob words P = (j : Job) → job_of words ≡ Some j → P j

-- for the command that the words are, where the bytes of its text are told
abbrev pub ForCommand : List (List ℕ) → (List ℕ → Option (List ℕ)) → (Command → List ℕ → Type 0) → Type 0
ForCommand words held P = (c : Command) → IsCommand words c → IfSome (bytes_at held c.origin) (P c)

abbrev pub source_of : Command → List ℕ → Source
source_of c bytes = record { text = bytes; entry = c.entry; statics = c.statics }

-- the same of what is asked and of the source
abbrev pub ForSource : List (List ℕ) → (List ℕ → Option (List ℕ)) → (Asked → Source → Type 0) → Type 0
ForSource words held P = ForCommand words held (λ c bytes. P c.asked (source_of c bytes))

-- for the words that ask for the table of a circuit, on input bits and for outcomes, where the bytes of its text are told
abbrev pub ForCircuit : List (List ℕ) → (List ℕ → Option (List ℕ)) → (List Bool → List Bool → List ℕ → Type 0) → Type 0
ForCircuit words held P = (file : List ℕ) (input outcome : List Bool) → job_of words ≡ Some (jobs.amps file input outcome) → IfSome (held file) (P input outcome)
