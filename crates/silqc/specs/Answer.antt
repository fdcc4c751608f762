-- What the end of a command tells of a source.
use Rattle.std.specs.Prelude.{◌≡◌, ℕ, suc, ◌⊎◌, List, Option, Some, None, Err}
use Rattle.silq_io.specs.declared.fault.What.{What}
use Rattle.silq_io.specs.declared.limit.LimitKind.{LimitKind}
use Rattle.silq_io.specs.declared.limit.LimitKind.TheVariants.{Walked, Instances, Depth}
use Rattle.silq_types.specs.Rules.{rule, unsupported, over}
use Rattle.check_scope.specs.Walk.{most_walked, most_instances, deepest}
use Rattle.flat_compile.specs.declared.cycle.CyclePlace.{CyclePlace}
use Rattle.flat_compile.specs.Ends as plans
use Rattle.source_table.specs.declared.fault.RunFault.{RunFault}
use Rattle.source_table.specs.declared.fault.RunFault.TheVariants as runs
use Rattle.silq_compile.specs.Headline as headline
use Rattle.silq_compile.specs.Sources.{Source, Answers, IsAccepted, OfAccepted}
use Rattle.source_table.specs.Tables as tables
use Rattle.silqc.specs.Asked.{Asked, check, compile, mean}
use Rattle.silqc.specs.Program.{FileFault, first_file_fault}

-- the file has this fault first
abbrev pub HasFault : FileFault → Asked → Source → Type 0
HasFault fault asked s = first_file_fault s.text ≡ Some fault

-- the file is the text of a program, of which this holds
abbrev pub OfProgram : (Source → Type 0) → Source → Type 0
OfProgram P s = (first_file_fault s.text ≡ None) × P s

-- this holds of a compilation within so many qubits; other commands are none
abbrev pub OfCompile : (ℕ → Source → Type 0) → Asked → Source → Type 0
OfCompile P (compile output budget) s = P budget s
OfCompile P _ s = ⊥

-- all rules hold; and where a text, a report or a table is asked for, the right one was put whole
abbrev pub EndsWell : Option (List ℕ) → Option (List ℕ) → Asked → Source → Type 0
EndsWell old new check s = IsAccepted s
EndsWell old new (compile output budget) s = headline.PutsText output budget old new s
EndsWell old new (mean input outcome) s = tables.PutsTable input outcome old new s

-- a proper front of a right text was put
abbrev pub BreaksText : Option (List ℕ) → Option (List ℕ) → Asked → Source → Type 0
BreaksText old new check s = ⊥
BreaksText old new (compile output budget) s = headline.BreaksText output budget old new s
BreaksText old new (mean input outcome) s = tables.BreaksTable input outcome old new s

-- the first broken rule has this number and this place
abbrev pub BreaksRule : ℕ → ℕ → ℕ → Source → Type 0
BreaksRule number line col s = Answers s (Err (rule number (record { line = line; col = col })))

-- this stands there before any broken rule, and is not supported
abbrev pub HasUnsupported : What → ℕ → ℕ → Source → Type 0
HasUnsupported what line col s = Answers s (Err (unsupported what (record { line = line; col = col })))

-- what is counted by typing, at most
abbrev pub most : LimitKind → ℕ
most Walked = most_walked
most Instances = most_instances
most Depth = deepest
most _ = 0

-- the walk of typing passes the limit before any broken rule; the count is that at which it stopped
abbrev pub PassesInWalk : LimitKind → ℕ → Source → Type 0
PassesInWalk which count s = Answers s (Err (over which)) × (count ≡ suc (most which))

-- all rules hold, and this is the first count of the flat form that goes above its limit
abbrev pub PassesInForm : LimitKind → ℕ → Source → Type 0
PassesInForm which count = OfAccepted (plans.PassesFirst (record { which = which; count = count }))

abbrev pub PassesLimit : LimitKind → ℕ → Asked → Source → Type 0
PassesLimit which count check s = PassesInWalk which count s
PassesLimit which count (compile output budget) s = PassesInWalk which count s ⊎ PassesInForm which count s
PassesLimit which count (mean input outcome) s = PassesInWalk which count s ⊎ tables.StopsRun input outcome (runs.Limit (record { which = which; count = count })) s

-- the circuit graph has a cycle, and this is the given one
abbrev pub HasCycle : List CyclePlace → Asked → Source → Type 0
HasCycle places = OfCompile (λ budget. OfAccepted (plans.OfFlat (plans.HasGivenCycle places)))

-- the circuit graph has no cycle, and needs more qubits than the budget has: so many at least
abbrev pub NeedsMore : ℕ → ℕ → Asked → Source → Type 0
NeedsMore least most = OfCompile (λ budget s. (most ≡ budget) × OfAccepted (plans.OfFlat (plans.NeedsMore budget least)) s)

-- this comes first in a run; other commands run nothing
abbrev pub OfRun : RunFault → Asked → Source → Type 0
OfRun fault (mean input outcome) s = tables.StopsRun input outcome fault s
OfRun fault _ s = ⊥

-- so many input bits were given in place of so many, or so many outcomes
abbrev pub HasBits : ℕ → ℕ → Asked → Source → Type 0
HasBits given wanted = OfRun (runs.Bits given wanted)

-- the forget on this line is the first that is false on a term
abbrev pub ForgetsFalse : ℕ → Asked → Source → Type 0
ForgetsFalse line = OfRun (runs.FalseForget line)
