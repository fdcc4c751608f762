-- The registers of a written text, and the bits that its names name.
use Rattle.std.proofs.Common.{◌≡◌, ◌≢◌, ℕ, zero, suc, ◌+◌, ◌<◌, ◌≤◌, ◌^◌, Bool, true, false, List, [], ◌∷◌, ◌++◌, Some, nat_eq, refl, sym, ◌∙◌, ap, arith, lt-ltb}
use Rattle.std.specs.Prelude.{bytes_eq, fold}
use Rattle.std.proofs.lemmas.Bool.Decides.{Decides-eqb}
use Rattle.std.proofs.lemmas.Slice.Eq.{bytes_eq-Decides}
use Rattle.std.proofs.lemmas.Fmt.{decimal_injective}
use Rattle.qasm_read.specs.Registers.{Register, has, width, bits_from, bits_of, bit_of}
use Rattle.read_laws.proofs.Parts.{bit_name}

abbrev pub qubit_name : List ℕ
qubit_name = 113 ∷ []

-- the register `q`, where there is a qubit
abbrev pub qubit_registers : ℕ → List Register
qubit_registers zero = []
qubit_registers (suc n) = record { name = qubit_name; size = suc n } ∷ []

abbrev pub bit_register : ℕ → Register
bit_register n = record { name = bit_name n; size = 1 }

-- so many registers of one bit, from the first on
abbrev pub bit_registers : ℕ → ℕ → List Register
bit_registers first zero = []
bit_registers first (suc n) = bit_register first ∷ bit_registers (suc first) n

pub qubit_width : (n : ℕ) → width (qubit_registers n) ≡ n
qubit_width zero = refl
qubit_width (suc n) = omega arith

pub qubit_is : (n i : ℕ) → i < n → bit_of (qubit_registers n) qubit_name i ≡ Some i
qubit_is zero i h = absurd (omega arith)
qubit_is (suc n) i h = let e : 0 + i ≡ i = omega arith in rw (lt-ltb i (suc n) h, e) refl

pub has_qubits : (n i : ℕ) → i < n → has (qubit_registers n) qubit_name ≡ true
has_qubits zero i h = absurd (omega arith)
has_qubits (suc n) i h = refl

-- ---- names of bits

not_equal : (xs ys : List ℕ) → xs ≢ ys → bytes_eq xs ys ≡ false
not_equal xs ys n = of (bytes_eq xs ys) refl
  where
    of : (b : Bool) → bytes_eq xs ys ≡ b → b ≡ false
    of true e = absurd (n ((bytes_eq-Decides xs ys).0 e))
    of false e = refl

pub same_text : (xs : List ℕ) → bytes_eq xs xs ≡ true
same_text xs = (bytes_eq-Decides xs xs).1 refl

pub other_name : (m n : ℕ) → m < 2 ^ 64 → n < 2 ^ 64 → m ≢ n → bytes_eq (bit_name m) (bit_name n) ≡ false
other_name m n h k d = not_equal (bit_name m) (bit_name n) (λ e. d (decimal_injective m n h k (cc)))

pub no_bit_name : (n i first : ℕ) → i < 2 ^ 64 → first + n ≤ i → has (bit_registers first n) (bit_name i) ≡ false
no_bit_name zero i first h k = refl
no_bit_name (suc n) i first h k =
    rw (other_name first i (omega arith) h (λ e. absurd (omega arith))) (no_bit_name n i (suc first) h (omega arith))

pub bits_add : (n first : ℕ) → bit_registers first n ++ bit_register (first + n) ∷ [] ≡ bit_registers first (suc n)
bits_add zero first = let e : first + 0 ≡ first = omega arith in ap (λ z. bit_register z ∷ []) e
bits_add (suc n) first =
    let e : first + suc n ≡ suc first + n = omega arith in
    ap (λ z. bit_register first ∷ (bit_registers (suc first) n ++ bit_register z ∷ [])) e ∙ ap (λ rs. bit_register first ∷ rs) (bits_add n (suc first))

sum_from : (a n first : ℕ) → fold (λ x r. x + r.size) a (bit_registers first n) ≡ a + n
sum_from a zero first = omega arith
sum_from a (suc n) first = let e : fold (λ x r. x + r.size) (a + 1) (bit_registers (suc first) n) ≡ (a + 1) + n = sum_from (a + 1) n (suc first) in omega arith

pub bit_width : (n first : ℕ) → width (bit_registers first n) ≡ n
bit_width n first = sum_from 0 n first ∙ omega arith

pub bits_is : (n i first : ℕ) → i < 2 ^ 64 → first ≤ i → i < first + n
    → bits_from first (bit_registers first n) (bit_name i) ≡ Some (record { first = i; size = 1 })
bits_is zero i first h k l = absurd (omega arith)
bits_is (suc n) i first h k l = of (nat_eq first i) refl (λ m. bits_is n i (suc first) h m (omega arith))
  where
    of : (b : Bool) → nat_eq first i ≡ b → (suc first ≤ i
        → bits_from (suc first) (bit_registers (suc first) n) (bit_name i) ≡ Some (record { first = i; size = 1 }))
        → bits_from first (bit_registers first (suc n)) (bit_name i) ≡ Some (record { first = i; size = 1 })
    of true e f = let same : first ≡ i = (Decides-eqb first i).0 e in rw same (rw (same_text (bit_name i)) refl)
    of false e f =
        let other : first ≢ i = λ q. let wrong : true ≡ false = sym ((Decides-eqb first i).1 q) ∙ e in absurd (cc) in
        let next : first + 1 ≡ suc first = omega arith in
        rw (other_name first i (omega arith) h other, next) (f (let d : first ≢ i = other in omega arith))

pub bit_is : (n i : ℕ) → i < 2 ^ 64 → i < n → bits_of (bit_registers 0 n) (bit_name i) ≡ Some (record { first = i; size = 1 })
bit_is n i h l = bits_is n i 0 h (omega arith) (omega arith)
