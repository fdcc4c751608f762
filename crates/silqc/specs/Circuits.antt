-- How the command ends that puts the table of an OpenQASM text.
use Rattle.std.specs.Prelude.{◌≡◌, ℕ, ◌⊎◌, Bool, List, Option, Some, None, Result, Ok, Err}
use Rattle.silq_io.specs.declared.limit.LimitKind.TheVariants as limits
use Rattle.silq_io.specs.declared.fault.SyntaxCause.TheVariants as causes
use Rattle.file_text.specs.NoText.{no_text}
use Rattle.file_text.specs.declared.text.NoText.{NoText}
use Rattle.file_text.specs.declared.text.NoText.TheVariants as texts
use Rattle.gate_core.specs.Meaning.{joined}
use Rattle.amp_run.specs.Refusal.{fault_of}
use Rattle.amp_run.specs.declared.fault.RunFault.{RunFault}
use Rattle.amp_run.specs.declared.fault.RunFault.TheVariants as runs
use Rattle.qasm_read.specs.State.{ReadForm}
use Rattle.qasm_read.specs.Text.{reading}
use Rattle.qasm_read.specs.declared.fault.QasmFault.{QasmFault}
use Rattle.qasm_read.specs.declared.fault.QasmFault.TheVariants as reads
use Rattle.circuit_table.specs.declared.fault.CircuitFault.{CircuitFault}
use Rattle.circuit_table.specs.declared.fault.CircuitFault.TheVariants as circuits
use Rattle.silqc.specs.declared.status.Status.{Status}
use Rattle.silqc.specs.declared.status.Status.TheVariants.{Done, ReadFault, Syntax, Unsupported, Limit, WriteFault, Memory, Bits}

abbrev pub no_text_status : NoText → Status
no_text_status texts.Long = Limit limits.Text 268435457
no_text_status (texts.Utf8 line col) = Syntax causes.Utf8 line col

abbrev pub qasm_status : QasmFault → Status
qasm_status reads.Memory = Memory
qasm_status (reads.Syntax line col) = Syntax causes.Form line col
qasm_status (reads.Unsupported line col what) = Unsupported what line col
qasm_status (reads.Bad line col cause) = Syntax cause line col
qasm_status (reads.Limit passed) = Limit passed.which passed.count

abbrev pub amp_status : RunFault → Status
amp_status runs.Memory = Memory
amp_status (runs.Bits given wanted) = Bits given wanted
amp_status (runs.Limit passed) = Limit passed.which passed.count

abbrev pub circuit_status : CircuitFault → Status
circuit_status (circuits.Read fault) = qasm_status fault
circuit_status (circuits.Run fault) = amp_status fault
circuit_status circuits.Failed = WriteFault

-- ---- the end of a text, want of memory and faults of the outside aside

abbrev pub end_of_run : Option RunFault → Status
end_of_run None = Done
end_of_run (Some fault) = amp_status fault

abbrev pub end_of_reading : List Bool → List Bool → Result ReadForm QasmFault → Status
end_of_reading input outcome (Err fault) = qasm_status fault
end_of_reading input outcome (Ok c) = end_of_run (fault_of c.circuit (joined c.ins) input outcome)

abbrev pub end_behind : List Bool → List Bool → Option NoText → Result ReadForm QasmFault → Status
end_behind input outcome (Some why) read = no_text_status why
end_behind input outcome None read = end_of_reading input outcome read

-- the end of the bytes of a file: UTF-8, the length, the reader's refusals in the order of the text, the lengths of the bits and the limits of a run
abbrev pub end_of_circuit : List Bool → List Bool → List ℕ → Status
end_of_circuit input outcome bytes = end_behind input outcome (no_text 268435456 bytes) (reading bytes)

-- so it ends, or with a fault of the outside, or for want of memory
abbrev pub EndsCircuit : Status → List Bool → List Bool → List ℕ → Type 0
EndsCircuit status input outcome bytes =
    (status ≡ end_of_circuit input outcome bytes)
    ⊎ (((status ≡ ReadFault) ⊎ (status ≡ Memory)) ⊎ ((status ≡ WriteFault) × (end_of_circuit input outcome bytes ≡ Done)))
