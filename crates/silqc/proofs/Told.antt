-- What the status of a fault tells of a source.
use Rattle.std.proofs.Common.{◌≡◌, ◌≢◌, ◌⊎◌, inl, inr, ℕ, suc, ◌∙◌, ◌≤◌, ◌<◌, nat_lt, Bool, true, false, List, length, Option, Some, None, Err, IfSome, refl, ap, subst, sym, arith}
use Rattle.std.proofs.lemmas.Bool.Decides.{nat_tests}
use Rattle.std.proofs.lemmas.Str.{is_utf8-from_IsUtf8}
use Rattle.std.specs.Prelude.{if◌then◌else◌}
use Rattle.std.specs.Str.{IsUtf8}
use Rattle.silq_tree.specs.declared.node.Spot.{Spot}
use Rattle.silq_parse.specs.Faults.{first_fault}
use Rattle.silq_parse.specs.declared.fault.ParseFault.{ParseFault}
use Rattle.silq_parse.specs.declared.fault.ParseFault.TheVariants as parses
use Rattle.silq_types.specs.Rules.{Fault, rule, unsupported, over}
use Rattle.check_scope.specs.Faults.{fault_as}
use Rattle.flat_compile.specs.declared.fault.CompileFault.{CompileFault}
use Rattle.flat_compile.specs.declared.fault.CompileFault.TheVariants as compiles
use Rattle.silq_compile.specs.declared.fault.TextFault.{TextFault}
use Rattle.silq_compile.specs.declared.fault.TextFault.TheVariants as texts
use Rattle.silq_compile.specs.Headline.{PutsText, Refuses}
use Rattle.silq_compile.specs.Sources.{Source, Answers, IsAccepted}
use Rattle.flat_compile.specs.declared.output.Output.{Output}
use Rattle.source_table.specs.declared.fault.RunFault.{RunFault}
use Rattle.source_table.specs.declared.fault.RunFault.TheVariants as runs
use Rattle.source_table.specs.Tables.{BreaksTable, PutsTable, StopsRun}
use Rattle.source_table.specs.declared.fault.SourceFault.{SourceFault}
use Rattle.source_table.specs.declared.fault.SourceFault.TheVariants as sources
use Rattle.silqc.specs.Asked.{Asked, check, compile, mean}
use Rattle.silqc.specs.declared.status.Status.{Status}
use Rattle.silqc.specs.declared.status.Status.TheVariants.{Done, ReadFault, Names, Typing, WriteFault}
use Rattle.silqc.specs.Answer.{most, PassesLimit}
use Rattle.silqc.specs.Ending.{CanEnd, Tells}
use Rattle.silqc.specs.Program.{first_file_fault}
use Rattle.silqc.specs.Status.{check_status, compile_status, parse_status, rule_status, run_status, source_status, text_status}
use Rattle.silqc.proofs.Faults.{of_text}

-- ---- what it tells

module _ (old new : Option (List ℕ)) (asked : Asked) (s : Source) (short : length s.text ≤ 1048576) (utf8 : IsUtf8 s.text) where
  pub parse_tells : (fault : ParseFault) → (fault ≡ parses.Memory) ⊎ (first_fault s.text ≡ Some fault) → Tells old new (parse_status fault) asked s
  parse_tells parses.Memory h = tt
  parse_tells parses.Long (inl e) = absurd (grind (arith, e))
  parse_tells parses.Long (inr e) = of_text s.text (Some parses.Long) short (is_utf8-from_IsUtf8 s.text utf8) e
  parse_tells (parses.Lex f) (inl e) = absurd (grind (arith, e))
  parse_tells (parses.Lex f) (inr e) = of_text s.text (Some (parses.Lex f)) short (is_utf8-from_IsUtf8 s.text utf8) e
  parse_tells (parses.Syntax line col) (inl e) = absurd (grind (arith, e))
  parse_tells (parses.Syntax line col) (inr e) = of_text s.text (Some (parses.Syntax line col)) short (is_utf8-from_IsUtf8 s.text utf8) e
  parse_tells (parses.Deep line col) (inl e) = absurd (grind (arith, e))
  parse_tells (parses.Deep line col) (inr e) = of_text s.text (Some (parses.Deep line col)) short (is_utf8-from_IsUtf8 s.text utf8) e

  pub no_fault : first_fault s.text ≡ None → first_file_fault s.text ≡ None
  no_fault e = of_text s.text None short (is_utf8-from_IsUtf8 s.text utf8) e

  rule_tells : (n : ℕ) (at : Spot) (b : Bool) → Answers s (Err (rule n at)) → Tells old new (if b then Typing n at.line at.col else Names n at.line at.col) asked s
  rule_tells n at true a = (no_fault a.no_fault, a)
  rule_tells n at false a = (no_fault a.no_fault, a)

  limit_tells : (o : Asked) (which : _) → Answers s (Err (over which)) → PassesLimit which (suc (most which)) o s
  limit_tells check which a = (a, refl)
  limit_tells (compile output budget) which a = inl (a, refl)
  limit_tells (mean input outcome) which a = inl (a, refl)

  pub check_tells : (o : Option Fault) → IfSome o (λ first. Answers s (Err first)) → Tells old new (check_status o) asked s
  check_tells None h = tt
  check_tells (Some (rule n at)) h = rule_tells n at (nat_lt 2 n) h
  check_tells (Some (unsupported what at)) h = (no_fault h.no_fault, h)
  check_tells (Some (over which)) h = (no_fault h.no_fault, limit_tells asked which h)

pub compile_tells : (old new : Option (List ℕ)) (output : Output) (budget : ℕ) (s : Source) → length s.text ≤ 1048576 → IsUtf8 s.text → (fault : CompileFault)
    → Refuses output budget old new s fault → Tells old new (compile_status budget fault) (compile output budget) s
compile_tells old new output budget s short utf8 compiles.Memory h = tt
compile_tells old new output budget s short utf8 (compiles.Limit passed) h = (no_fault old new (compile output budget) s short utf8 h.checked.no_fault, inr h)
compile_tells old new output budget s short utf8 (compiles.Cycle places) h = (no_fault old new (compile output budget) s short utf8 h.checked.no_fault, h)
compile_tells old new output budget s short utf8 (compiles.OverBudget least) h = (no_fault old new (compile output budget) s short utf8 h.checked.no_fault, (refl, h))
compile_tells old new output budget s short utf8 compiles.Failed h = (no_fault old new (compile output budget) s short utf8 h.1.checked.no_fault, h)

pub run_tells : (old new : Option (List ℕ)) (input outcome : List Bool) (s : Source) → length s.text ≤ 1048576 → IsUtf8 s.text → (fault : RunFault)
    → StopsRun input outcome fault s → Tells old new (run_status fault) (mean input outcome) s
run_tells old new input outcome s short utf8 runs.Memory h = tt
run_tells old new input outcome s short utf8 (runs.Limit passed) h = (no_fault old new (mean input outcome) s short utf8 h.checked.no_fault, inr h)
run_tells old new input outcome s short utf8 (runs.Bits given wanted) h = (no_fault old new (mean input outcome) s short utf8 h.checked.no_fault, h)
run_tells old new input outcome s short utf8 (runs.FalseForget line) h = (no_fault old new (mean input outcome) s short utf8 h.checked.no_fault, h)

-- ---- how it ends

pub parse_ends : (asked : Asked) (fault : ParseFault) → CanEnd asked (parse_status fault)
parse_ends asked parses.Memory = tt
parse_ends asked parses.Long = tt
parse_ends asked (parses.Lex f) = tt
parse_ends asked (parses.Syntax line col) = tt
parse_ends asked (parses.Deep line col) = tt

low : (n : ℕ) → nat_lt 2 n ≡ false → n ≤ 2
low n e = grind (arith, nat_tests)

high : (n : ℕ) → nat_lt 2 n ≡ true → 2 < n
high n e = grind (arith, nat_tests)

rule_ends : (asked : Asked) (n : ℕ) (at : Spot) → CanEnd asked (rule_status n at)
rule_ends asked n at = by (nat_lt 2 n) refl
  where
    by : (b : Bool) → nat_lt 2 n ≡ b → CanEnd asked (if b then Typing n at.line at.col else Names n at.line at.col)
    by true e = high n e
    by false e = low n e

pub check_ends : (asked : Asked) (o : Option Fault) → CanEnd asked (check_status o)
check_ends asked None = tt
check_ends asked (Some (rule n at)) = rule_ends asked n at
check_ends asked (Some (unsupported what at)) = tt
check_ends asked (Some (over which)) = tt

pub compile_ends : (output : Output) (budget : ℕ) (fault : CompileFault) → CanEnd (compile output budget) (compile_status budget fault)
compile_ends output budget compiles.Memory = tt
compile_ends output budget (compiles.Limit passed) = tt
compile_ends output budget (compiles.Cycle places) = tt
compile_ends output budget (compiles.OverBudget least) = tt
compile_ends output budget compiles.Failed = tt

run_ends : (input outcome : List Bool) (fault : RunFault) → CanEnd (mean input outcome) (run_status fault)
run_ends input outcome runs.Memory = tt
run_ends input outcome (runs.Limit passed) = tt
run_ends input outcome (runs.Bits given wanted) = tt
run_ends input outcome (runs.FalseForget line) = tt

pub source_ends : (input outcome : List Bool) (fault : SourceFault) → CanEnd (mean input outcome) (source_status fault)
source_ends input outcome (sources.Parse fault) = parse_ends (mean input outcome) fault
source_ends input outcome (sources.Check fault) = check_ends (mean input outcome) (fault_as fault)
source_ends input outcome (sources.Run fault) = run_ends input outcome fault
source_ends input outcome sources.Failed = tt

-- ---- no fault of a text is one of reading, and only that of the sink one of writing

abbrev NotRead : Status → Type 0
NotRead ReadFault = ⊥
NotRead _ = Unit {0}

abbrev NotWritten : Status → Type 0
NotWritten WriteFault = ⊥
NotWritten _ = Unit {0}

parse_read : (fault : ParseFault) → NotRead (parse_status fault) × NotWritten (parse_status fault)
parse_read parses.Memory = (tt, tt)
parse_read parses.Long = (tt, tt)
parse_read (parses.Lex f) = (tt, tt)
parse_read (parses.Syntax line col) = (tt, tt)
parse_read (parses.Deep line col) = (tt, tt)

rule_read : (n : ℕ) (at : Spot) (b : Bool) → NotRead (if b then Typing n at.line at.col else Names n at.line at.col) × NotWritten (if b then Typing n at.line at.col else Names n at.line at.col)
rule_read n at true = (tt, tt)
rule_read n at false = (tt, tt)

check_read : (o : Option Fault) → NotRead (check_status o) × NotWritten (check_status o)
check_read None = (tt, tt)
check_read (Some (rule n at)) = rule_read n at (nat_lt 2 n)
check_read (Some (unsupported what at)) = (tt, tt)
check_read (Some (over which)) = (tt, tt)

compile_read : (budget : ℕ) (fault : CompileFault) → NotRead (compile_status budget fault)
compile_read budget compiles.Memory = tt
compile_read budget (compiles.Limit passed) = tt
compile_read budget (compiles.Cycle places) = tt
compile_read budget (compiles.OverBudget least) = tt
compile_read budget compiles.Failed = tt

text_read : (budget : ℕ) (fault : TextFault) → NotRead (text_status budget fault)
text_read budget (texts.Parse fault) = (parse_read fault).0
text_read budget (texts.Check fault) = (check_read (fault_as fault)).0
text_read budget (texts.Compile fault) = compile_read budget fault

pub no_read : (budget : ℕ) (fault : TextFault) (status : Status) → status ≡ text_status budget fault → status ≢ ReadFault
no_read budget fault status e is = absurd (subst NotRead (sym e ∙ is) (text_read budget fault))

not_written : (status : Status) → NotWritten status → status ≢ WriteFault
not_written status h e = absurd (subst NotWritten e h)

compile_failed : (budget : ℕ) (fault : CompileFault) → compile_status budget fault ≡ WriteFault → fault ≡ compiles.Failed
compile_failed budget compiles.Memory e = absurd (cc)
compile_failed budget (compiles.Limit passed) e = absurd (cc)
compile_failed budget (compiles.Cycle places) e = absurd (cc)
compile_failed budget (compiles.OverBudget least) e = absurd (cc)
compile_failed budget compiles.Failed e = refl

failed : (budget : ℕ) (fault : TextFault) → text_status budget fault ≡ WriteFault → fault ≡ texts.Compile compiles.Failed
failed budget (texts.Parse fault) e = absurd (not_written _ (parse_read fault).1 e)
failed budget (texts.Check fault) e = absurd (not_written _ (check_read (fault_as fault)).1 e)
failed budget (texts.Compile fault) e = ap texts.Compile (compile_failed budget fault e)

pub sink_failed : (budget : ℕ) (fault : TextFault) (status : Status) → status ≡ text_status budget fault → status ≡ WriteFault → fault ≡ texts.Compile compiles.Failed
sink_failed budget fault status e is = failed budget fault (sym e ∙ is)

pub not_failed : (budget : ℕ) (fault : TextFault) (status : Status) → status ≡ text_status budget fault → status ≢ WriteFault → fault ≢ texts.Compile compiles.Failed
not_failed budget fault status e other is = other (e ∙ ap {B = Status} (text_status budget) is)

run_read : (fault : RunFault) → NotRead (run_status fault) × NotWritten (run_status fault)
run_read runs.Memory = (tt, tt)
run_read (runs.Limit passed) = (tt, tt)
run_read (runs.Bits given wanted) = (tt, tt)
run_read (runs.FalseForget line) = (tt, tt)

source_read : (fault : SourceFault) → NotRead (source_status fault)
source_read (sources.Parse fault) = (parse_read fault).0
source_read (sources.Check fault) = (check_read (fault_as fault)).0
source_read (sources.Run fault) = (run_read fault).0
source_read sources.Failed = tt

pub source_not_read : (fault : SourceFault) (status : Status) → status ≡ source_status fault → status ≢ ReadFault
source_not_read fault status e is = absurd (subst NotRead (sym e ∙ is) (source_read fault))

source_failed : (fault : SourceFault) → source_status fault ≡ WriteFault → fault ≡ sources.Failed
source_failed (sources.Parse fault) e = absurd (not_written _ (parse_read fault).1 e)
source_failed (sources.Check fault) e = absurd (not_written _ (check_read (fault_as fault)).1 e)
source_failed (sources.Run fault) e = absurd (not_written _ (run_read fault).1 e)
source_failed sources.Failed e = refl

pub source_sink_failed : (fault : SourceFault) (status : Status) → status ≡ source_status fault → status ≡ WriteFault → fault ≡ sources.Failed
source_sink_failed fault status e is = source_failed fault (sym e ∙ is)

pub source_not_failed : (fault : SourceFault) (status : Status) → status ≡ source_status fault → status ≢ WriteFault → fault ≢ sources.Failed
source_not_failed fault status e other is = other (e ∙ ap {B = Status} source_status is)

-- ---- texts

pub text_tells : (old new : Option (List ℕ)) (output : Output) (budget : ℕ) (s : Source) → length s.text ≤ 1048576 → IsUtf8 s.text → (fault : TextFault)
    → ((f : ParseFault) → fault ≡ texts.Parse f → (f ≡ parses.Memory) ⊎ (first_fault s.text ≡ Some f))
    → ((f : _) → fault ≡ texts.Check f → IfSome (fault_as f) (λ first. Answers s (Err first)))
    → ((f : CompileFault) → fault ≡ texts.Compile f → Refuses output budget old new s f)
    → Tells old new (text_status budget fault) (compile output budget) s
text_tells old new output budget s short utf8 (texts.Parse f) p t c = parse_tells old new (compile output budget) s short utf8 f (p f refl)
text_tells old new output budget s short utf8 (texts.Check f) p t c = check_tells old new (compile output budget) s short utf8 (fault_as f) (t f refl)
text_tells old new output budget s short utf8 (texts.Compile f) p t c = compile_tells old new output budget s short utf8 f (c f refl)

pub text_ends : (output : Output) (budget : ℕ) (fault : TextFault) → CanEnd (compile output budget) (text_status budget fault)
text_ends output budget (texts.Parse f) = parse_ends (compile output budget) f
text_ends output budget (texts.Check f) = check_ends (compile output budget) (fault_as f)
text_ends output budget (texts.Compile f) = compile_ends output budget f

pub check_text_tells : (old new : Option (List ℕ)) (s : Source) → length s.text ≤ 1048576 → IsUtf8 s.text → (fault : TextFault)
    → ((f : ParseFault) → fault ≡ texts.Parse f → (f ≡ parses.Memory) ⊎ (first_fault s.text ≡ Some f))
    → ((f : _) → fault ≡ texts.Check f → IfSome (fault_as f) (λ first. Answers s (Err first)))
    → ((f : CompileFault) → fault ≢ texts.Compile f)
    → Tells old new (text_status 0 fault) check s
check_text_tells old new s short utf8 (texts.Parse f) p t c = parse_tells old new check s short utf8 f (p f refl)
check_text_tells old new s short utf8 (texts.Check f) p t c = check_tells old new check s short utf8 (fault_as f) (t f refl)
check_text_tells old new s short utf8 (texts.Compile f) p t c = absurd (c f refl)

pub check_text_ends : (fault : TextFault) → ((f : CompileFault) → fault ≢ texts.Compile f) → CanEnd check (text_status 0 fault)
check_text_ends (texts.Parse f) c = parse_ends check f
check_text_ends (texts.Check f) c = check_ends check (fault_as f)
check_text_ends (texts.Compile f) c = absurd (c f refl)

pub accepted_tells : (old new : Option (List ℕ)) (s : Source) → length s.text ≤ 1048576 → IsUtf8 s.text → IsAccepted s → Tells old new Done check s
accepted_tells old new s short utf8 h = (no_fault old new check s short utf8 h.1.no_fault, h)

pub put_tells : (old new : Option (List ℕ)) (output : Output) (budget : ℕ) (s : Source) → length s.text ≤ 1048576 → IsUtf8 s.text → PutsText output budget old new s
    → Tells old new Done (compile output budget) s
put_tells old new output budget s short utf8 h = (no_fault old new (compile output budget) s short utf8 h.1.checked.no_fault, h)

pub source_tells : (old new : Option (List ℕ)) (input outcome : List Bool) (s : Source) → length s.text ≤ 1048576 → IsUtf8 s.text → (fault : SourceFault)
    → ((f : ParseFault) → fault ≡ sources.Parse f → (f ≡ parses.Memory) ⊎ (first_fault s.text ≡ Some f))
    → ((f : _) → fault ≡ sources.Check f → IfSome (fault_as f) (λ first. Answers s (Err first)))
    → ((f : RunFault) → fault ≡ sources.Run f → StopsRun input outcome f s)
    → (fault ≡ sources.Failed → BreaksTable input outcome old new s)
    → Tells old new (source_status fault) (mean input outcome) s
source_tells old new input outcome s short utf8 (sources.Parse f) p t r b = parse_tells old new (mean input outcome) s short utf8 f (p f refl)
source_tells old new input outcome s short utf8 (sources.Check f) p t r b = check_tells old new (mean input outcome) s short utf8 (fault_as f) (t f refl)
source_tells old new input outcome s short utf8 (sources.Run f) p t r b = run_tells old new input outcome s short utf8 f (r f refl)
source_tells old new input outcome s short utf8 sources.Failed p t r b = (no_fault old new (mean input outcome) s short utf8 (b refl).1.checked.no_fault, b refl)

pub table_tells : (old new : Option (List ℕ)) (input outcome : List Bool) (s : Source) → length s.text ≤ 1048576 → IsUtf8 s.text → PutsTable input outcome old new s
    → Tells old new Done (mean input outcome) s
table_tells old new input outcome s short utf8 h = (no_fault old new (mean input outcome) s short utf8 h.1.checked.no_fault, h)
