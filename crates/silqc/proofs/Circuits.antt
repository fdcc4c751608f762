-- How the table of a circuit ends.
use Rattle.std.proofs.Common.{◌≡◌, ◌≢◌, inl, inr, ℕ, Bool, List, Option, Some, None, Ok, Err, IfSome, refl, ap, sym, ◌∙◌}
use Rattle.file_text.specs.NoText.{no_text}
use Rattle.file_text.specs.Reading.{AreRead}
use Rattle.file_text.specs.declared.text.NoText.{NoText}
use Rattle.file_text.specs.declared.text.NoText.TheVariants.{Long, Utf8}
use Rattle.file_text.proofs.Whole.{same_no_text}
use Rattle.gate_core.specs.Meaning.{joined}
use Rattle.amp_run.specs.Refusal.{fault_of}
use Rattle.amp_run.specs.declared.fault.RunFault.{RunFault}
use Rattle.amp_run.specs.declared.fault.RunFault.TheVariants as runs
use Rattle.qasm_read.specs.State.{ReadForm}
use Rattle.qasm_read.specs.Text.{reading}
use Rattle.qasm_read.specs.declared.fault.QasmFault.{QasmFault}
use Rattle.qasm_read.specs.declared.fault.QasmFault.TheVariants as reads
use Rattle.circuit_table.specs.Tables.{BreaksTable, PutsTable}
use Rattle.circuit_table.specs.declared.fault.CircuitFault.{CircuitFault}
use Rattle.circuit_table.specs.declared.fault.CircuitFault.TheVariants as circuits
use Rattle.silqc.specs.Circuits.{EndsCircuit, amp_status, circuit_status, end_behind, end_of_circuit, end_of_reading, end_of_run, no_text_status, qasm_status}
use Rattle.silqc.specs.Ending.{TellsItsRules}
use Rattle.silqc.specs.declared.status.Status.{Status}
use Rattle.silqc.specs.declared.status.Status.TheVariants.{Done, Words, ReadFault, WriteFault}

module _ (input outcome : List Bool) where
  -- ---- bytes that are no text

  pub none_ends : (held left : Option (List ℕ)) (bytes : List ℕ) → AreRead 268435456 held left bytes → (why : NoText) (status : Status)
      → status ≡ no_text_status why → no_text 268435456 bytes ≡ Some why → IfSome held (EndsCircuit status input outcome)
  none_ends None left bytes read why status e h = tt
  none_ends (Some all) left bytes read why status e h =
      inl (e ∙ sym (ap {B = Status} (λ o. end_behind input outcome o (reading all)) (same_no_text 268435456 all bytes read.0 ∙ h)))

  -- ---- texts

  module _ (text : List ℕ) (fine : no_text 268435456 text ≡ None) where
    end_is : end_of_circuit input outcome text ≡ end_of_reading input outcome (reading text)
    end_is = ap {B = Status} (λ o. end_behind input outcome o (reading text)) fine

    read_as : (f : QasmFault) → reading text ≡ Err f → EndsCircuit (qasm_status f) input outcome text
    read_as f e = inl (sym (end_is ∙ ap {B = Status} (end_of_reading input outcome) e))

    read_ends : (f : QasmFault) → (f ≢ reads.Memory → reading text ≡ Err f) → EndsCircuit (qasm_status f) input outcome text
    read_ends reads.Memory h = inr (inl (inr refl))
    read_ends (reads.Syntax line col) h = read_as (reads.Syntax line col) (h (λ e. absurd (cc)))
    read_ends (reads.Unsupported line col what) h = read_as (reads.Unsupported line col what) (h (λ e. absurd (cc)))
    read_ends (reads.Bad line col cause) h = read_as (reads.Bad line col cause) (h (λ e. absurd (cc)))
    read_ends (reads.Limit passed) h = read_as (reads.Limit passed) (h (λ e. absurd (cc)))

    ran_to : (c : ReadForm) → reading text ≡ Ok c → (o : Option RunFault) → fault_of c.circuit (joined c.ins) input outcome ≡ o
        → end_of_circuit input outcome text ≡ end_of_run o
    ran_to c e o h = end_is ∙ ap {B = Status} (end_of_reading input outcome) e ∙ ap {B = Status} end_of_run h

    abbrev Runs : RunFault → Type 0
    Runs f = (c : ReadForm) × (reading text ≡ Ok c) × (fault_of c.circuit (joined c.ins) input outcome ≡ Some f)

    run_as : (f : RunFault) → Runs f → EndsCircuit (amp_status f) input outcome text
    run_as f h = inl (sym (ran_to h.0 h.1 (Some f) h.2))

    run_ends : (f : RunFault) → (f ≢ runs.Memory → Runs f) → EndsCircuit (amp_status f) input outcome text
    run_ends runs.Memory h = inr (inl (inr refl))
    run_ends (runs.Bits given wanted) h = run_as (runs.Bits given wanted) (h (λ e. absurd (cc)))
    run_ends (runs.Limit passed) h = run_as (runs.Limit passed) (h (λ e. absurd (cc)))

    module _ (old new : Option (List ℕ)) where
      pub put_ends : PutsTable input outcome old new text → EndsCircuit Done input outcome text
      put_ends h = inl (sym (ran_to h.2.form h.2.spelled None h.2.allowed))

      pub fault_ends : (fault : CircuitFault)
          → ((f : QasmFault) → fault ≡ circuits.Read f → f ≢ reads.Memory → reading text ≡ Err f)
          → ((f : RunFault) → fault ≡ circuits.Run f → f ≢ runs.Memory → Runs f)
          → (fault ≡ circuits.Failed → BreaksTable input outcome old new text)
          → EndsCircuit (circuit_status fault) input outcome text
      fault_ends (circuits.Read f) r u b = read_ends f (r f refl)
      fault_ends (circuits.Run f) r u b = run_ends f (u f refl)
      fault_ends circuits.Failed r u b = let h = b refl in inr (inr (refl, ran_to h.2.form h.2.spelled None h.2.allowed))

-- ---- no fault of a text is one of the words, of reading or of a rule, and only that of the sink is one of writing

pub record IsOwn (status : Status) : Type 0 where
  pub words : status ≢ Words
  pub read : status ≢ ReadFault
  pub done : status ≢ Done
  pub rules : TellsItsRules status

pub none_own : (why : NoText) → IsOwn (no_text_status why)
none_own Long = record { words = λ e. absurd (cc); read = λ e. absurd (cc); done = λ e. absurd (cc); rules = tt }
none_own (Utf8 line col) = record { words = λ e. absurd (cc); read = λ e. absurd (cc); done = λ e. absurd (cc); rules = tt }

read_own : (f : QasmFault) → IsOwn (qasm_status f)
read_own reads.Memory = record { words = λ e. absurd (cc); read = λ e. absurd (cc); done = λ e. absurd (cc); rules = tt }
read_own (reads.Syntax line col) = record { words = λ e. absurd (cc); read = λ e. absurd (cc); done = λ e. absurd (cc); rules = tt }
read_own (reads.Unsupported line col what) = record { words = λ e. absurd (cc); read = λ e. absurd (cc); done = λ e. absurd (cc); rules = tt }
read_own (reads.Bad line col cause) = record { words = λ e. absurd (cc); read = λ e. absurd (cc); done = λ e. absurd (cc); rules = tt }
read_own (reads.Limit passed) = record { words = λ e. absurd (cc); read = λ e. absurd (cc); done = λ e. absurd (cc); rules = tt }

run_own : (f : RunFault) → IsOwn (amp_status f)
run_own runs.Memory = record { words = λ e. absurd (cc); read = λ e. absurd (cc); done = λ e. absurd (cc); rules = tt }
run_own (runs.Bits given wanted) = record { words = λ e. absurd (cc); read = λ e. absurd (cc); done = λ e. absurd (cc); rules = tt }
run_own (runs.Limit passed) = record { words = λ e. absurd (cc); read = λ e. absurd (cc); done = λ e. absurd (cc); rules = tt }

pub fault_own : (fault : CircuitFault) → IsOwn (circuit_status fault)
fault_own (circuits.Read f) = read_own f
fault_own (circuits.Run f) = run_own f
fault_own circuits.Failed = record { words = λ e. absurd (cc); read = λ e. absurd (cc); done = λ e. absurd (cc); rules = tt }

qasm_failed : (f : QasmFault) → qasm_status f ≢ WriteFault
qasm_failed reads.Memory e = absurd (cc)
qasm_failed (reads.Syntax line col) e = absurd (cc)
qasm_failed (reads.Unsupported line col what) e = absurd (cc)
qasm_failed (reads.Bad line col cause) e = absurd (cc)
qasm_failed (reads.Limit passed) e = absurd (cc)

amp_failed : (f : RunFault) → amp_status f ≢ WriteFault
amp_failed runs.Memory e = absurd (cc)
amp_failed (runs.Bits given wanted) e = absurd (cc)
amp_failed (runs.Limit passed) e = absurd (cc)

pub circuit_failed : (fault : CircuitFault) (status : Status) → status ≡ circuit_status fault → status ≡ WriteFault → fault ≡ circuits.Failed
circuit_failed (circuits.Read f) status e is = absurd (qasm_failed f (sym e ∙ is))
circuit_failed (circuits.Run f) status e is = absurd (amp_failed f (sym e ∙ is))
circuit_failed circuits.Failed status e is = refl

pub circuit_not_failed : (fault : CircuitFault) (status : Status) → status ≡ circuit_status fault → status ≢ WriteFault → fault ≢ circuits.Failed
circuit_not_failed fault status e other is = other (e ∙ ap {B = Status} circuit_status is)
