-- The bits of operands, one operand after another.
use Rattle.std.proofs.Common.{◌≡◌, ℕ, suc, ◌+◌, ◌<◌, List, [], ◌∷◌, ◌++◌, length, drop, get_or, refl, sym, ◌∙◌, ap, add-one, append-nil, drop-cons}
use Rattle.std.specs.Prelude.{Option, Some, None, filter_map}
use Rattle.std.specs.List.{cons_option}
use Rattle.qasm_read.specs.declared.operand.Operand.{Operand as ReadOperand}
use Rattle.qasm_read.specs.Registers.{Register}
use Rattle.qasm_read.specs.Refusals.{Operand, bit_named}
use Rattle.qasm_read.specs.Read.{operand_of, operands_of}

abbrev pub bits_in : List Register → List ReadOperand → List ℕ
bits_in rs os = filter_map (λ (o : Operand). bit_named rs o) (operands_of os)

-- the first i operands have named these bits
pub record HaveNamed (rs : List Register) (os : List ReadOperand) (found : List ℕ) (i : ℕ) : Type 0 where
  pub left : bits_in rs os ≡ found ++ bits_in rs (drop i os)

pub at_first : (rs : List Register) (os : List ReadOperand) → HaveNamed rs os [] 0
at_first rs os = record { left = refl }

push_front : (found : List ℕ) (b : ℕ) (more : List ℕ) → (found ++ b ∷ []) ++ more ≡ found ++ b ∷ more
push_front [] b more = refl
push_front (x ∷ found) b more = ap (λ l. x ∷ l) (push_front found b more)

from_next : (os : List ReadOperand) (i : ℕ) (x : ReadOperand) → i < length os → x ≡ get_or os i x → drop i os ≡ x ∷ drop (i + 1) os
from_next os i x l e = drop-cons os i x l ∙ (ap (λ (y : ReadOperand). y ∷ drop (suc i) os) (sym e) ∙ ap (λ (j : ℕ). x ∷ drop j os) (sym (add-one i)))

pub no_bit : (rs : List Register) (os : List ReadOperand) (found : List ℕ) (i : ℕ) (x : ReadOperand) → i < length os → x ≡ get_or os i x
    → None ≡ bit_named rs (operand_of x) → HaveNamed rs os found i → HaveNamed rs os found (i + 1)
no_bit rs os found i x l e n h = record {
  left = h.left ∙ ap (λ (more : List ℕ). found ++ more)
      (ap (bits_in rs) (from_next os i x l e) ∙ ap (λ (b : Option ℕ). cons_option b (bits_in rs (drop (i + 1) os))) (sym n));
}

pub one_bit : (rs : List Register) (os : List ReadOperand) (found : List ℕ) (i : ℕ) (x : ReadOperand) (bit : ℕ) → i < length os → x ≡ get_or os i x
    → Some bit ≡ bit_named rs (operand_of x) → HaveNamed rs os found i → HaveNamed rs os (found ++ bit ∷ []) (i + 1)
one_bit rs os found i x bit l e n h = record {
  left = h.left ∙ (ap (λ (more : List ℕ). found ++ more)
      (ap (bits_in rs) (from_next os i x l e) ∙ ap (λ (b : Option ℕ). cons_option b (bits_in rs (drop (i + 1) os))) (sym n))
      ∙ sym (push_front found bit (bits_in rs (drop (i + 1) os))));
}

drop_all : (os : List ReadOperand) → drop (length os) os ≡ []
drop_all [] = refl
drop_all (o ∷ os) = drop_all os

pub at_end : (rs : List Register) (os : List ReadOperand) (found : List ℕ) → HaveNamed rs os found (length os) → found ≡ bits_in rs os
at_end rs os found h = sym (h.left ∙ (ap (λ (rest : List ReadOperand). found ++ bits_in rs rest) (drop_all os) ∙ append-nil found))
