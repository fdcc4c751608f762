-- The first fault of a file.
use Rattle.std.proofs.Common.{◌≡◌, ℕ, ◌≤◌, true, List, length, Option, Some, ap, ◌∙◌}
use Rattle.std.specs.Prelude.{option_map}
use Rattle.std.specs.Str.{is_utf8}
use Rattle.file_text.specs.NoText.{no_text}
use Rattle.file_text.specs.declared.text.NoText.{NoText}
use Rattle.file_text.proofs.Why.{fine}
use Rattle.silq_parse.specs.declared.fault.ParseFault.{ParseFault}
use Rattle.silq_parse.specs.Faults.{first_fault}
use Rattle.silqc.specs.Program.{fault_behind, file_fault, first_file_fault, unread}

-- the fault of a text
pub of_text : (bytes : List ℕ) (fault : Option ParseFault) → length bytes ≤ 1048576 → is_utf8 bytes ≡ true → first_fault bytes ≡ fault
    → first_file_fault bytes ≡ option_map file_fault fault
of_text bytes fault l u e = ap (λ o. fault_behind o (first_fault bytes)) (fine 1048576 bytes l u) ∙ ap (option_map file_fault) e

-- the fault of bytes that are none
pub of_none : (bytes : List ℕ) (why : NoText) → no_text 1048576 bytes ≡ Some why → first_file_fault bytes ≡ Some (unread why)
of_none bytes why e = ap (λ o. fault_behind o (first_fault bytes)) e
