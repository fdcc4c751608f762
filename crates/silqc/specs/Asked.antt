-- What is asked of a source.
use Rattle.std.specs.Prelude.{ℕ, ◌≤◌, Bool, List}
use Rattle.flat_compile.specs.declared.output.Output.{Output}
use Rattle.silqc.specs.declared.asked.Asked.{Asked as InCode}
use Rattle.silqc.specs.declared.asked.Asked.TheVariants as code

pub data Asked : Type 0 where
  -- whether all rules hold
  check : Asked
  -- the text or the report of its circuit, within so many qubits
  compile : Output → ℕ → Asked
  -- the exact table of what it means on these input bits and for these outcomes
  mean : List Bool → List Bool → Asked

-- the same of the code
abbrev pub asked_of : InCode → Asked
asked_of code.Check = check
asked_of (code.Compile output budget) = compile output budget
asked_of (code.Mean input outcome) = mean input.now outcome.now

-- of at most 100,000 qubits
abbrev pub IsWithin : Asked → Type 0
IsWithin (compile output budget) = budget ≤ 100000
IsWithin a = Unit {0}

abbrev pub IsCompilation : Asked → Type 0
IsCompilation (compile output budget) = Unit {0}
IsCompilation a = ⊥

abbrev pub IsMean : Asked → Type 0
IsMean (mean input outcome) = Unit {0}
IsMean a = ⊥

-- a text is put
abbrev pub IsPut : Asked → Type 0
IsPut check = ⊥
IsPut a = Unit {0}
