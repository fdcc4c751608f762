-- What is told of the bytes that were read is told of the file.
use Rattle.std.proofs.Common.{◌≡◌, ℕ, ◌≤◌, List, [], length, Option, Some, None, IfSome, ℤ, refl, subst, sym, ◌∙◌}
use Rattle.std.proofs.lemmas.List.{append-nil}
use Rattle.file_text.specs.NoText.{no_text}
use Rattle.file_text.specs.Reading.{AreRead}
use Rattle.file_text.specs.declared.text.NoText.{NoText}
use Rattle.file_text.proofs.Whole.{same_no_text, whole}
use Rattle.silq_io.specs.Sinks.{Adds}
use Rattle.silq_compile.specs.Sources.{Source}
use Rattle.silqc.specs.Asked.{Asked}
use Rattle.silqc.specs.declared.status.Status.{Status}
use Rattle.silqc.specs.Ending.{CanEnd, Tells}
use Rattle.silqc.specs.Program.{unread}
use Rattle.silqc.specs.Status.{syntax_status}
use Rattle.silqc.proofs.Faults.{of_none}

-- what put nothing
pub adds_nothing : (put : Option (List ℕ)) → Adds put put []
adds_nothing None = tt
adds_nothing (Some bytes) = (bytes, refl, sym (append-nil bytes))

-- what holds of the text of the bytes that were read holds of the bytes of the file
pub of_all : (P : List ℕ → Type 0) (limit : ℕ) (held left : Option (List ℕ)) (bytes text : List ℕ) → AreRead limit held left bytes → length bytes ≤ limit
    → text ≡ bytes → P text → IfSome held P
of_all P limit None left bytes text read short same h = tt
of_all P limit (Some all) left bytes text read short same h = subst P (same ∙ sym (whole all bytes limit read.0 short)) h

module _ (old new : Option (List ℕ)) (asked : Asked) (entry : List ℕ) (statics : List ℤ) where
  abbrev in_file : List ℕ → Source
  in_file bytes = record { text = bytes; entry = entry; statics = statics }

  pub tells_of_all : (held left : Option (List ℕ)) (bytes : List ℕ) → AreRead 1048576 held left bytes → (status : Status) → length bytes ≤ 1048576
      → Tells old new status asked (in_file bytes) → IfSome held (λ all. Tells old new status asked (in_file all))
  tells_of_all None left bytes read status short h = tt
  tells_of_all (Some all) left bytes read status short h =
      let same : all ≡ bytes = whole all bytes 1048576 read.0 short in
      subst (λ b. Tells old new status asked (in_file b)) (sym same) h

  pub fault_of_all : (held left : Option (List ℕ)) (bytes : List ℕ) → AreRead 1048576 held left bytes → (why : NoText) (status : Status)
      → status ≡ syntax_status (unread why) → no_text 1048576 bytes ≡ Some why → IfSome held (λ all. Tells old new status asked (in_file all))
  fault_of_all None left bytes read why status e h = tt
  fault_of_all (Some all) left bytes read why status e h =
      subst (λ s. Tells old new s asked (in_file all)) (sym e) (of_none all why (same_no_text 1048576 all bytes read.0 ∙ h))

pub syntax_ends : (asked : Asked) (why : NoText) (status : Status) → status ≡ syntax_status (unread why) → CanEnd asked status
syntax_ends asked why status e = subst (CanEnd asked) (sym e) tt
