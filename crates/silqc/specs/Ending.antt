-- How a command ends, and what its end tells.
use Rattle.std.specs.Prelude.{ℕ, ◌<◌, ◌≤◌, List, Option}
use Rattle.silq_compile.specs.Sources.{Source}
use Rattle.silqc.specs.Asked.{Asked, IsCompilation, IsMean, IsPut}
use Rattle.silqc.specs.declared.status.Status.{Status}
use Rattle.silqc.specs.declared.status.Status.TheVariants.{Done, Words, ReadFault, Syntax, Names, Typing, Unsupported, Limit, Cycle, OverBudget, WriteFault, Memory, Bits, FalseForget}
use Rattle.silqc.specs.Answer.{HasFault, OfProgram, EndsWell, BreaksText, BreaksRule, HasUnsupported, PassesLimit, HasCycle, NeedsMore, HasBits, ForgetsFalse}

-- a command can end so; rules 1 and 2 are those of names
abbrev pub CanEnd : Asked → Status → Type 0
CanEnd asked Words = ⊥
CanEnd asked (Names rule line col) = rule ≤ 2
CanEnd asked (Typing rule line col) = 2 < rule
CanEnd asked (Cycle places) = IsCompilation asked
CanEnd asked (OverBudget least most) = IsCompilation asked
CanEnd asked WriteFault = IsPut asked
CanEnd asked (Bits given wanted) = IsMean asked
CanEnd asked (FalseForget line) = IsMean asked
CanEnd asked _ = Unit {0}

-- What it tells of the source. A fault of reading and want of memory tell nothing.
abbrev pub Tells : Option (List ℕ) → Option (List ℕ) → Status → Asked → Source → Type 0
Tells old new Done asked = OfProgram (EndsWell old new asked)
Tells old new Words asked = λ s. ⊥
Tells old new ReadFault asked = λ s. Unit {0}
Tells old new (Syntax cause line col) asked = HasFault (record { cause = cause; line = line; col = col }) asked
Tells old new (Names rule line col) asked = OfProgram (BreaksRule rule line col)
Tells old new (Typing rule line col) asked = OfProgram (BreaksRule rule line col)
Tells old new (Unsupported what line col) asked = OfProgram (HasUnsupported what line col)
Tells old new (Limit which count) asked = OfProgram (PassesLimit which count asked)
Tells old new (Cycle places) asked = OfProgram (HasCycle places asked)
Tells old new (OverBudget least most) asked = OfProgram (NeedsMore least most asked)
Tells old new WriteFault asked = OfProgram (BreaksText old new asked)
Tells old new Memory asked = λ s. Unit {0}
Tells old new (Bits given wanted) asked = OfProgram (HasBits given wanted asked)
Tells old new (FalseForget line) asked = OfProgram (ForgetsFalse line asked)

-- rules 1 and 2 are those of names, the others those of types
abbrev pub TellsItsRules : Status → Type 0
TellsItsRules (Names rule line col) = rule ≤ 2
TellsItsRules (Typing rule line col) = 2 < rule
TellsItsRules _ = Unit {0}
