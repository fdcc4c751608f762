-- The qubits that words name, one word after another.
use Rattle.std.proofs.Common.{◌≡◌, ℕ, suc, ◌+◌, ◌<◌, List, [], ◌∷◌, ◌++◌, length, drop, get_or, chars, refl, sym, ◌∙◌, ap, add-one, append-nil, drop-cons}
use Rattle.std.specs.Prelude.{Option, Some, None}
use denote.Bor.{Bor}
use Rattle.qasm_read.specs.Registers.{Register}
use Rattle.qasm_read.specs.Lines.{put, qubit_named, qubits_named}
use Rattle.qasm_read.specs.Written.{texts_of}

abbrev pub behind : List ℕ → Option (List ℕ) → Option (List ℕ)
behind found None = None
behind found (Some qs) = Some (found ++ qs)

-- the first i words have named these qubits
pub record HaveGathered (rs : List Register) (words : List (Bor (List ℕ))) (found : List ℕ) (i : ℕ) : Type 0 where
  pub left : qubits_named rs (texts_of words) ≡ behind found (qubits_named rs (texts_of (drop i words)))

pub at_first : (rs : List Register) (words : List (Bor (List ℕ))) → HaveGathered rs words [] 0
at_first rs words = record { left = same (qubits_named rs (texts_of words)) }
  where
    same : (o : Option (List ℕ)) → o ≡ behind [] o
    same None = refl
    same (Some qs) = refl

push_front : (found : List ℕ) (b : ℕ) (more : List ℕ) → (found ++ b ∷ []) ++ more ≡ found ++ b ∷ more
push_front [] b more = refl
push_front (x ∷ found) b more = ap (λ l. x ∷ l) (push_front found b more)

one_in_front : (found : List ℕ) (q : ℕ) (o : Option (List ℕ)) → behind found (put (Some q) o) ≡ behind (found ++ q ∷ []) o
one_in_front found q None = refl
one_in_front found q (Some qs) = ap Some (sym (push_front found q qs))

from_next : (words : List (Bor (List ℕ))) (i : ℕ) (x : Bor (List ℕ)) → i < length words → x ≡ get_or words i x → drop i words ≡ x ∷ drop (i + 1) words
from_next words i x l e = drop-cons words i x l ∙ (ap (λ (y : Bor (List ℕ)). y ∷ drop (suc i) words) (sym e) ∙ ap (λ (j : ℕ). x ∷ drop j words) (sym (add-one i)))

pub one_qubit : (rs : List Register) (words : List (Bor (List ℕ))) (found : List ℕ) (i : ℕ) (x : Bor (List ℕ)) (q : ℕ) → i < length words → x ≡ get_or words i x
    → Some q ≡ qubit_named rs (chars x.now) → HaveGathered rs words found i → HaveGathered rs words (found ++ q ∷ []) (i + 1)
one_qubit rs words found i x q l e n h = record {
  left = h.left ∙ (ap (λ (rest : List (Bor (List ℕ))). behind found (qubits_named rs (texts_of rest))) (from_next words i x l e)
      ∙ (ap (λ (o : Option ℕ). behind found (put o (qubits_named rs (texts_of (drop (i + 1) words))))) (sym n)
      ∙ one_in_front found q (qubits_named rs (texts_of (drop (i + 1) words)))));
}

pub no_qubit : (rs : List Register) (words : List (Bor (List ℕ))) (found : List ℕ) (i : ℕ) (x : Bor (List ℕ)) → i < length words → x ≡ get_or words i x
    → None ≡ qubit_named rs (chars x.now) → HaveGathered rs words found i → None ≡ qubits_named rs (texts_of words)
no_qubit rs words found i x l e n h =
    sym (h.left ∙ (ap (λ (rest : List (Bor (List ℕ))). behind found (qubits_named rs (texts_of rest))) (from_next words i x l e)
    ∙ ap (λ (o : Option ℕ). behind found (put o (qubits_named rs (texts_of (drop (i + 1) words))))) (sym n)))

drop_all : (words : List (Bor (List ℕ))) → drop (length words) words ≡ []
drop_all [] = refl
drop_all (w ∷ words) = drop_all words

pub at_end : (rs : List Register) (words : List (Bor (List ℕ))) (found : List ℕ) → HaveGathered rs words found (length words) → Some found ≡ qubits_named rs (texts_of words)
at_end rs words found h =
    sym (h.left ∙ (ap (λ (rest : List (Bor (List ℕ))). behind found (qubits_named rs (texts_of rest))) (drop_all words) ∙ ap Some (append-nil found)))
