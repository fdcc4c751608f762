-- What it is for a text to be the right one for a program, and for a program to have none.
use Rattle.std.specs.Prelude.{◌≡◌, ℕ, ◌≤◌, List, Option}
use Rattle.silq_io.specs.Sinks.{Adds, Breaks}
use Rattle.silq_mean.specs.Table.{Job}
use Rattle.qasm_write.specs.Written.{written_text}
use Rattle.plan_laws.specs.Circuits.{Spelled, IsCircuitOf}
use Rattle.flat_compile.specs.Ends.{HasGivenCycle, IsTextOf, NeedsMore, OfFlat, PassesFirst}
use Rattle.flat_compile.specs.declared.output.Output.{Output}
use Rattle.flat_compile.specs.declared.output.Output.TheVariants.{Text, Report}
use Rattle.flat_compile.specs.declared.fault.CompileFault.{CompileFault}
use Rattle.flat_compile.specs.declared.fault.CompileFault.TheVariants.{Memory, Limit, Cycle, OverBudget, Failed}
use Rattle.silq_compile.specs.Sources.{Source, OfAccepted}

-- The text is the written text of a circuit that gives on each honest input, for each choice of the outcome bits, exactly the amplitudes that
-- the job means, with every other qubit at zero, on at most the budget's qubits. It is that of the moves of the first level that fits.
pub record Compiles (budget : ℕ) (text : List ℕ) (j : Job) : Type 0 where
  pub circuit : Spelled
  pub written : text ≡ written_text circuit.qubits circuit.outcomes circuit.ins circuit.gates circuit.outs
  pub gives : IsCircuitOf j circuit
  pub fits : circuit.qubits ≤ budget
  pub planned : OfFlat (IsTextOf Text budget text) j

-- the right text, or the right report of the moves of the first level that fits
abbrev pub IsRight : Output → ℕ → List ℕ → Job → Type 0
IsRight Text budget text j = Compiles budget text j
IsRight Report budget text j = OfFlat (IsTextOf Report budget text) j

-- the rules hold, and a right text was put whole
abbrev pub PutsText : Output → ℕ → Option (List ℕ) → Option (List ℕ) → Source → Type 0
PutsText output budget old new source = (text : List ℕ) × OfAccepted (IsRight output budget text) source × Adds old new text

-- a proper front of a right text was put
abbrev pub BreaksText : Output → ℕ → Option (List ℕ) → Option (List ℕ) → Source → Type 0
BreaksText output budget old new source = (text : List ℕ) × OfAccepted (IsRight output budget text) source × Breaks old new text

-- why an accepted program has no text; want of memory tells nothing
abbrev pub Refuses : Output → ℕ → Option (List ℕ) → Option (List ℕ) → Source → CompileFault → Type 0
Refuses output budget old new source Memory = Unit {0}
Refuses output budget old new source (Limit over) = OfAccepted (PassesFirst over) source
Refuses output budget old new source (Cycle places) = OfAccepted (OfFlat (HasGivenCycle places)) source
Refuses output budget old new source (OverBudget least) = OfAccepted (OfFlat (NeedsMore budget least)) source
Refuses output budget old new source Failed = BreaksText output budget old new source
