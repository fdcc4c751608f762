-- The line of a refusal.
use Rattle.std.specs.Prelude.{ℕ, ◌⊎◌, List, [], ◌∷◌, ◌++◌, codes, decimal, Option}
use Rattle.silq_io.specs.Counts.{Rose}
use Rattle.silq_io.specs.Sinks.{Adds, Breaks}
use Rattle.silq_io.specs.Names.{cause_name, what_name, limit_name}
use Rattle.silqc.specs.declared.status.Status.{Status}
use Rattle.silqc.specs.declared.status.Status.TheVariants.{Done, Words, ReadFault, Syntax, Names, Typing, Unsupported, Limit, Cycle, OverBudget, WriteFault, Memory, Bits, FalseForget}
use Rattle.flat_compile.specs.declared.cycle.CyclePlace.{CyclePlace}
use Rattle.flat_compile.specs.declared.cycle.CyclePlace.TheVariants as places

-- `silqc: 1:19: syntax: form`
abbrev pub syntax_note : List ℕ → ℕ → ℕ → List ℕ
syntax_note cause line col =
    codes "silqc: " ++ (decimal line ++ (codes ":" ++ (decimal col ++ (codes ": syntax: " ++ (cause ++ codes "\n")))))

-- `silqc: 1:1: names: K1`
abbrev pub names_note : ℕ → ℕ → ℕ → List ℕ
names_note rule line col =
    codes "silqc: " ++ (decimal line ++ (codes ":" ++ (decimal col ++ (codes ": names: K" ++ (decimal rule ++ codes "\n")))))

-- `silqc: 1:27: type: K11`
abbrev pub typing_note : ℕ → ℕ → ℕ → List ℕ
typing_note rule line col =
    codes "silqc: " ++ (decimal line ++ (codes ":" ++ (decimal col ++ (codes ": type: K" ++ (decimal rule ++ codes "\n")))))

-- `silqc: 1:20: unsupported: angle`
abbrev pub unsupported_note : List ℕ → ℕ → ℕ → List ℕ
unsupported_note what line col =
    codes "silqc: " ++ (decimal line ++ (codes ":" ++ (decimal col ++ (codes ": unsupported: " ++ (what ++ codes "\n")))))

-- `silqc: limit: depth 65`
abbrev pub limit_note : List ℕ → ℕ → List ℕ
limit_note which count = codes "silqc: limit: " ++ (which ++ (codes " " ++ (decimal count ++ codes "\n")))

-- `silqc: over budget: least 2, budget 1`
abbrev pub budget_note : ℕ → ℕ → List ℕ
budget_note least budget =
    codes "silqc: over budget: least " ++ (decimal least ++ (codes ", budget " ++ (decimal budget ++ codes "\n")))

-- `silqc: bits: given 1, wanted 2`
abbrev pub bits_note : ℕ → ℕ → List ℕ
bits_note given wanted = codes "silqc: bits: given " ++ (decimal given ++ (codes ", wanted " ++ (decimal wanted ++ codes "\n")))

-- `silqc: forget is false on line 1`
abbrev pub forget_note : ℕ → List ℕ
forget_note line = codes "silqc: forget is false on line " ++ (decimal line ++ codes "\n")

-- ` F1@1`, ` R0@1` or ` Z3`: a step, done or undone, by its number and its source line, or a wire that is freed
abbrev pub place_text : CyclePlace → List ℕ
place_text (places.Forward step line) = codes " F" ++ (decimal step ++ (codes "@" ++ decimal line))
place_text (places.Reverse step line) = codes " R" ++ (decimal step ++ (codes "@" ++ decimal line))
place_text (places.Free wire) = codes " Z" ++ decimal wire

abbrev pub places_text : List CyclePlace → List ℕ
places_text [] = []
places_text (place ∷ rest) = place_text place ++ places_text rest

-- `silqc: cycle: F1@1 F2@1 R0@1`
abbrev pub cycle_note : List CyclePlace → List ℕ
cycle_note cycle = codes "silqc: cycle:" ++ (places_text cycle ++ codes "\n")

-- the line with its line feed; nothing where all went well
abbrev pub note_of : Status → List ℕ
note_of Done = []
note_of Words = codes "silqc: the words are not a job\n"
note_of ReadFault = codes "silqc: reading failed\n"
note_of (Syntax cause line col) = syntax_note (cause_name cause) line col
note_of (Names rule line col) = names_note rule line col
note_of (Typing rule line col) = typing_note rule line col
note_of (Unsupported what line col) = unsupported_note (what_name what) line col
note_of (Limit which count) = limit_note (limit_name which) count
note_of (Cycle cycle) = cycle_note cycle
note_of (OverBudget least budget) = budget_note least budget
note_of WriteFault = codes "silqc: writing failed\n"
note_of Memory = codes "silqc: no memory\n"
note_of (Bits given wanted) = bits_note given wanted
note_of (FalseForget line) = forget_note line

-- the exit status
abbrev pub code_of : Status → ℕ
code_of Done = 0
code_of Words = 2
code_of ReadFault = 3
code_of (Syntax cause line col) = 4
code_of (Names rule line col) = 5
code_of (Typing rule line col) = 6
code_of (Unsupported what line col) = 7
code_of (Limit which count) = 8
code_of (Cycle cycle) = 9
code_of (OverBudget least budget) = 10
code_of WriteFault = 11
code_of Memory = 12
code_of (Bits given wanted) = 13
code_of (FalseForget line) = 14

-- The whole line was put, or the sink had a fault and a front of it was put.
abbrev pub Noted : Option (List ℕ) → Option (List ℕ) → ℕ → ℕ → List ℕ → Type 0
Noted old new before after line = Adds old new line ⊎ (Rose before after × Breaks old new line)
