-- The status that stands for each fault.
use Rattle.std.specs.Prelude.{ℕ, suc, nat_lt, if◌then◌else◌, Option, Some, None, Result, Ok, Err}
use Rattle.silq_types.specs.Rules.{Fault, rule, unsupported, over}
use Rattle.check_fun.specs.Program.{Accepted}
use Rattle.silq_parse.specs.declared.fault.ParseFault.{ParseFault}
use Rattle.silq_parse.specs.declared.fault.ParseFault.TheVariants as parses
use Rattle.check_scope.specs.Faults.{fault_as}
use Rattle.silq_compile.specs.declared.fault.TextFault.{TextFault}
use Rattle.silq_compile.specs.declared.fault.TextFault.TheVariants as texts
use Rattle.flat_compile.specs.declared.fault.CompileFault.{CompileFault}
use Rattle.flat_compile.specs.declared.fault.CompileFault.TheVariants as compiles
use Rattle.silq_mean.specs.Table.{MeanFault}
use Rattle.source_table.specs.declared.fault.RunFault.{RunFault}
use Rattle.source_table.specs.declared.fault.RunFault.TheVariants as runs
use Rattle.source_table.specs.Faults.{fault_of}
use Rattle.source_table.specs.declared.fault.SourceFault.{SourceFault}
use Rattle.source_table.specs.declared.fault.SourceFault.TheVariants as sources
use Rattle.silq_tree.specs.declared.node.Spot.{Spot}
use Rattle.file_text.specs.declared.file.ReadError.{ReadError}
use Rattle.file_text.specs.declared.file.ReadError.TheVariants as errors
use Rattle.silqc.specs.declared.status.Status.{Status}
use Rattle.silqc.specs.declared.status.Status.TheVariants.{Done, ReadFault, Syntax, Names, Typing, Unsupported, Limit, Cycle, OverBudget, WriteFault, Memory, Bits, FalseForget}
use Rattle.silqc.specs.Answer.{most}
use Rattle.silqc.specs.Program.{FileFault, file_fault}

abbrev pub read_status : ReadError → Status
read_status errors.Memory = Memory
read_status errors.Failed = ReadFault

abbrev pub syntax_status : FileFault → Status
syntax_status fault = Syntax fault.cause fault.line fault.col

abbrev pub parse_status : ParseFault → Status
parse_status parses.Memory = Memory
parse_status parses.Long = syntax_status (file_fault parses.Long)
parse_status (parses.Lex f) = syntax_status (file_fault (parses.Lex f))
parse_status (parses.Syntax line col) = syntax_status (file_fault (parses.Syntax line col))
parse_status (parses.Deep line col) = syntax_status (file_fault (parses.Deep line col))

-- rules 1 and 2 are those of names
abbrev pub rule_status : ℕ → Spot → Status
rule_status n at = if nat_lt 2 n then Typing n at.line at.col else Names n at.line at.col

abbrev pub status_of : Result Accepted Fault → Status
status_of (Ok a) = Done
status_of (Err (rule n at)) = rule_status n at
status_of (Err (unsupported what at)) = Unsupported what at.line at.col
status_of (Err (over which)) = Limit which (suc (most which))

-- no fault stands for want of memory
abbrev pub check_status : Option Fault → Status
check_status None = Memory
check_status (Some first) = status_of (Err first)

abbrev pub compile_status : ℕ → CompileFault → Status
compile_status budget compiles.Memory = Memory
compile_status budget (compiles.Limit passed) = Limit passed.which passed.count
compile_status budget (compiles.Cycle places) = Cycle places
compile_status budget (compiles.OverBudget least) = OverBudget least budget
compile_status budget compiles.Failed = WriteFault

abbrev pub text_status : ℕ → TextFault → Status
text_status budget (texts.Parse fault) = parse_status fault
text_status budget (texts.Check fault) = check_status (fault_as fault)
text_status budget (texts.Compile fault) = compile_status budget fault

abbrev pub run_status : RunFault → Status
run_status runs.Memory = Memory
run_status (runs.Limit passed) = Limit passed.which passed.count
run_status (runs.Bits given wanted) = Bits given wanted
run_status (runs.FalseForget line) = FalseForget line

abbrev pub mean_status : MeanFault → Status
mean_status fault = run_status (fault_of fault)

abbrev pub source_status : SourceFault → Status
source_status (sources.Parse fault) = parse_status fault
source_status (sources.Check fault) = check_status (fault_as fault)
source_status (sources.Run fault) = run_status fault
source_status sources.Failed = WriteFault
