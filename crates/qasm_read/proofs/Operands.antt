-- The operands of tokens, one token after another.
use Rattle.std.proofs.Common.{◌≡◌, ℕ, suc, ◌+◌, ◌<◌, Bool, true, false, List, [], ◌∷◌, ◌++◌, length, drop, get_or, refl, sym, ◌∙◌, ap, add-one, append-nil, drop-cons}
use Rattle.std.specs.Prelude.{if◌then◌else◌}
use Rattle.qasm_tokens.specs.declared.token.Token.{Token as ReadToken}
use Rattle.qasm_tokens.specs.Table.{is_name}
use Rattle.qasm_tokens.specs.Cursors.{token_of}
use Rattle.qasm_read.specs.declared.operand.Operand.{Operand as ReadOperand}
use Rattle.qasm_read.specs.Refusals.{Operand, operands, index_after}
use Rattle.qasm_read.specs.Read.{tokens_of, operand_of, operands_of}

-- the first i tokens have given these operands
pub record HaveGiven (ts : List ReadToken) (found : List ReadOperand) (i : ℕ) : Type 0 where
  pub left : operands (tokens_of ts) ≡ operands_of found ++ operands (tokens_of (drop i ts))

pub at_first : (ts : List ReadToken) → HaveGiven ts [] 0
at_first ts = record { left = refl }

operands_of-push : (found : List ReadOperand) (o : ReadOperand) (more : List Operand) → operands_of (found ++ o ∷ []) ++ more ≡ operands_of found ++ operand_of o ∷ more
operands_of-push [] o more = refl
operands_of-push (x ∷ found) o more = ap (λ l. operand_of x ∷ l) (operands_of-push found o more)

from_next : (ts : List ReadToken) (i : ℕ) (x : ReadToken) → i < length ts → x ≡ get_or ts i x → drop i ts ≡ x ∷ drop (i + 1) ts
from_next ts i x l e = drop-cons ts i x l ∙ (ap (λ (y : ReadToken). y ∷ drop (suc i) ts) (sym e) ∙ ap (λ (j : ℕ). x ∷ drop j ts) (sym (add-one i)))

pub no_operand : (ts : List ReadToken) (found : List ReadOperand) (i : ℕ) (x : ReadToken) → i < length ts → x ≡ get_or ts i x → is_name x.kind ≡ false → HaveGiven ts found i → HaveGiven ts found (i + 1)
no_operand ts found i x l e n h = record {
  left = h.left ∙ ap (λ (more : List Operand). operands_of found ++ more)
      (ap (λ (rest : List ReadToken). operands (tokens_of rest)) (from_next ts i x l e)
      ∙ ap (λ (b : Bool). if b then record { name = token_of x; index = index_after (tokens_of (drop (i + 1) ts)) } ∷ operands (tokens_of (drop (i + 1) ts)) else operands (tokens_of (drop (i + 1) ts))) n);
}

pub one_operand : (ts : List ReadToken) (found : List ReadOperand) (i : ℕ) (x : ReadToken) (o : ReadOperand) → i < length ts → x ≡ get_or ts i x → is_name x.kind ≡ true
    → operand_of o ≡ record { name = token_of x; index = index_after (tokens_of (drop (i + 1) ts)) } → HaveGiven ts found i → HaveGiven ts (found ++ o ∷ []) (i + 1)
one_operand ts found i x o l e n is h = record {
  left = h.left ∙ (ap (λ (more : List Operand). operands_of found ++ more)
      (ap (λ (rest : List ReadToken). operands (tokens_of rest)) (from_next ts i x l e)
      ∙ (ap (λ (b : Bool). if b then record { name = token_of x; index = index_after (tokens_of (drop (i + 1) ts)) } ∷ operands (tokens_of (drop (i + 1) ts)) else operands (tokens_of (drop (i + 1) ts))) n
      ∙ ap (λ (p : Operand). p ∷ operands (tokens_of (drop (i + 1) ts))) (sym is)))
      ∙ sym (operands_of-push found o (operands (tokens_of (drop (i + 1) ts)))));
}

drop_all : (ts : List ReadToken) → drop (length ts) ts ≡ []
drop_all [] = refl
drop_all (t ∷ ts) = drop_all ts

pub at_end : (ts : List ReadToken) (found : List ReadOperand) → HaveGiven ts found (length ts) → operands_of found ≡ operands (tokens_of ts)
at_end ts found h = sym (h.left ∙ (ap (λ (rest : List ReadToken). operands_of found ++ operands (tokens_of rest)) (drop_all ts) ∙ append-nil (operands_of found)))
