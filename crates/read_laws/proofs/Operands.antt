-- Operands that are not refused, and what they name.
use Rattle.std.proofs.Common.{◌≡◌, ◌≢◌, ℕ, ◌+◌, ◌<◌, ◌^◌, Bool, true, false, ◌||◌, List, [], ◌∷◌, ◌++◌, Option, Some, ◌==◌, decimal, refl, sym, ◌∙◌, ap, arith}
use Rattle.std.specs.Prelude.{option_and_then, if◌then◌else◌, bytes_eq}
use Rattle.std.specs.List.{filter_map, cons_option}
use Rattle.std.proofs.lemmas.Bool.Decides.{Decides-eqb}
use Rattle.silq_lex.specs.declared.token.Place.{Place}
use Rattle.silq_lex.specs.Kinds.{number_of}
use Rattle.gate_core.specs.Local.{AllDiffer}
use Rattle.qasm_tokens.specs.declared.kind.Kind.TheVariants as k
use Rattle.qasm_read.specs.declared.refusal.Refusal.{Refusal}
use Rattle.qasm_read.specs.declared.registers.Bits.{Bits}
use Rattle.qasm_read.specs.declared.operand.Index.TheVariants.{At}
use Rattle.qasm_read.specs.Registers.{Register, has, bits_from, bits_of, bit_of, bit_in}
use Rattle.qasm_read.specs.Refusals.{Operand, bit_named, operand_refusals, qubit_refusals, is_among, where_}
use Rattle.read_laws.proofs.Decimals.{value_of}
use Rattle.read_laws.proofs.Parts.{bit_name}
use Rattle.read_laws.proofs.Registers.{qubit_name, qubit_registers, bit_registers, qubit_is, has_qubits, bit_is}

pub no_refusals : (xs ys : List Refusal) → xs ≡ [] → ys ≡ [] → xs ++ ys ≡ []
no_refusals xs ys h i = rw (h, i) refl

pub where_no : (b : Bool) (r : Refusal) → b ≡ false → where_ b r ≡ []
where_no b r h = rw h refl

-- the operand is not refused, and names this bit
pub record Names (registers : List Register) (x : Operand) (q : ℕ) : Type 0 where
  pub bit : bit_named registers x ≡ Some q
  pub allowed : operand_refusals registers x ≡ []

-- an operand with an index
abbrev pub indexed : List ℕ → Place → Place → List ℕ → Operand
indexed name at place digits = record { name = record { kind = k.Lower; text = name; at = at }; index = At place (number_of digits) }

has_found : (registers : List Register) (name : List ℕ) (at place : Place) (digits : List ℕ) (q : ℕ) → has registers name ≡ true
    → bit_of registers name (number_of digits) ≡ Some q → operand_refusals registers (indexed name at place digits) ≡ []
has_found registers name at place digits q h e = rw (h, e) refl

pub qubit_names : (n i : ℕ) (at place : Place) → i < n → i < 2 ^ 64 → Names (qubit_registers n) (indexed qubit_name at place (decimal i)) i
qubit_names n i at place h l =
    let e : bit_of (qubit_registers n) qubit_name (number_of (decimal i)) ≡ Some i =
    ap (bit_of (qubit_registers n) qubit_name) (value_of i l) ∙ qubit_is n i h in
    record { bit = e; allowed = has_found (qubit_registers n) qubit_name at place (decimal i) i (has_qubits n i h) e }

has_bits : (first : ℕ) (registers : List Register) (name : List ℕ) (b : Bits) → bits_from first registers name ≡ Some b → has registers name ≡ true
has_bits first [] name b e = cc
has_bits first (r ∷ rs) name b e = of (bytes_eq r.name name) e (has_bits (first + r.size) rs name b)
  where
    of : (t : Bool) → (if t then Some (record { first = first; size = r.size }) else bits_from (first + r.size) rs name) ≡ Some b
        → (bits_from (first + r.size) rs name ≡ Some b → has rs name ≡ true) → (t || has rs name) ≡ true
    of true f g = refl
    of false f g = g f

-- `m3[0]`
pub bit_names : (n i : ℕ) (at place : Place) → i < n → i < 2 ^ 64 → Names (bit_registers 0 n) (indexed (bit_name i) at place (48 ∷ [])) i
bit_names n i at place h l =
    let found : bits_of (bit_registers 0 n) (bit_name i) ≡ Some (record { first = i; size = 1 }) = bit_is n i l h in
    let same : i + 0 ≡ i = omega arith in
    let e : bit_of (bit_registers 0 n) (bit_name i) 0 ≡ Some i = ap (option_and_then (λ b. bit_in b 0)) found ∙ ap Some same in
    record { bit = e; allowed = has_found (bit_registers 0 n) (bit_name i) at place (48 ∷ []) i (has_bits 0 (bit_registers 0 n) (bit_name i) _ found) e }

-- ---- qubits of a gate

pub other_bit : (a b : ℕ) → a ≢ b → (a == b) ≡ false
other_bit a b n = of (a == b) refl
  where
    of : (t : Bool) → (a == b) ≡ t → t ≡ false
    of true e = absurd (n ((Decides-eqb a b).0 e))
    of false e = refl

seen_none : (x : Option ℕ) (q : ℕ) → x ≡ Some q → is_among [] x ≡ false
seen_none x q e = rw e refl

seen_one : (x y : Option ℕ) (p q : ℕ) → x ≡ Some p → y ≡ Some q → q ≢ p → is_among (x ∷ []) y ≡ false
seen_one x y p q e f n = rw (e, f, other_bit p q (λ h. n (sym h))) refl

seen_two : (w x y : Option ℕ) (o p q : ℕ) → w ≡ Some o → x ≡ Some p → y ≡ Some q → q ≢ o → q ≢ p → is_among (w ∷ x ∷ []) y ≡ false
seen_two w x y o p q e f g n m = rw (e, f, g, other_bit o q (λ h. n (sym h)), other_bit p q (λ h. m (sym h))) refl

module _ (registers : List Register) where
  pub one_allowed : (x : Operand) (p : ℕ) → Names registers x p → qubit_refusals registers [] (x ∷ []) ≡ []
  one_allowed x p h = no_refusals _ _ h.allowed (no_refusals _ _ (where_no _ _ (seen_none _ p h.bit)) refl)

  pub two_allowed : (x y : Operand) (p q : ℕ) → Names registers x p → Names registers y q → AllDiffer (p ∷ q ∷ [])
      → qubit_refusals registers [] (x ∷ y ∷ []) ≡ []
  two_allowed x y p q h i d =
      no_refusals _ _ h.allowed (no_refusals _ _ (where_no _ _ (seen_none _ p h.bit))
      (no_refusals _ _ i.allowed (no_refusals _ _ (where_no _ _ (seen_one _ _ p q h.bit i.bit d.0.0)) refl)))

  pub three_allowed : (x y z : Operand) (p q r : ℕ) → Names registers x p → Names registers y q → Names registers z r → AllDiffer (p ∷ q ∷ r ∷ [])
      → qubit_refusals registers [] (x ∷ y ∷ z ∷ []) ≡ []
  three_allowed x y z p q r h i j d =
      no_refusals _ _ h.allowed (no_refusals _ _ (where_no _ _ (seen_none _ p h.bit))
      (no_refusals _ _ i.allowed (no_refusals _ _ (where_no _ _ (seen_one _ _ p q h.bit i.bit d.0.0))
      (no_refusals _ _ j.allowed (no_refusals _ _ (where_no _ _ (seen_two _ _ _ q p r i.bit h.bit j.bit d.1.0.0 d.0.1.0)) refl)))))

  abbrev pub named : List Operand → List ℕ
  named os = filter_map (λ x. bit_named registers x) os

  pub one_named : (x : Operand) (p : ℕ) → Names registers x p → named (x ∷ []) ≡ p ∷ []
  one_named x p h = ap (λ b. cons_option b []) h.bit

  pub two_named : (x y : Operand) (p q : ℕ) → Names registers x p → Names registers y q → named (x ∷ y ∷ []) ≡ p ∷ q ∷ []
  two_named x y p q h i = ap (λ b. cons_option b (named (y ∷ []))) h.bit ∙ ap (λ l. p ∷ l) (one_named y q i)

  pub three_named : (x y z : Operand) (p q r : ℕ) → Names registers x p → Names registers y q → Names registers z r → named (x ∷ y ∷ z ∷ []) ≡ p ∷ q ∷ r ∷ []
  three_named x y z p q r h i j = ap (λ b. cons_option b (named (y ∷ z ∷ []))) h.bit ∙ ap (λ l. p ∷ l) (two_named y z q r i j)
