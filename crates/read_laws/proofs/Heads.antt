-- The lines before the statements: the version, the library, and the registers.
use Rattle.std.proofs.Common.{◌≡◌, ℕ, zero, suc, ◌+◌, ◌<◌, ◌≤◌, Bool, true, false, ◌||◌, List, [], ◌∷◌, ◌++◌, nat_lt, decimal, append_assoc, refl, sym, ◌∙◌, ap, subst, arith}
use Rattle.std.specs.Prelude.{codes}
use Rattle.std.proofs.lemmas.Bool.{ltb-true}
use Rattle.silq_lex.specs.declared.token.Place.{Place}
use Rattle.silq_lex.specs.Kinds.{number_of}
use Rattle.silq_lex.specs.Tokens.{behind_all}
use Rattle.silq_io.specs.declared.limit.LimitKind.{LimitKind}
use Rattle.silq_io.specs.declared.limit.LimitKind.TheVariants as limits
use Rattle.qasm_tokens.specs.declared.kind.Kind.TheVariants as k
use Rattle.qasm_tokens.specs.Words.{piece}
use Rattle.qasm_tokens.specs.Tokens.{Token}
use Rattle.qasm_tokens.specs.Table.{a_text}
use Rattle.qasm_read.specs.declared.operand.Index.TheVariants.{At}
use Rattle.qasm_read.specs.Registers.{Register, has, width}
use Rattle.qasm_read.specs.State.{at_start}
use Rattle.qasm_read.specs.Refusals.{size_refusals}
use Rattle.qasm_write.specs.Written.{qubits_line, outcome_line, outcome_lines, start_text}
use Rattle.read_laws.proofs.Decimals.{value_of}
use Rattle.read_laws.proofs.Parts.{Part, space, word, text_of_parts, closed, bit_name, bit_part, bit_stands}
use Rattle.read_laws.proofs.Lines.{Reads, IsItem, items, reads_nothing, reads_both, reads_line}
use Rattle.read_laws.proofs.Registers.{qubit_registers, bit_register, bit_registers, no_bit_name, bit_width, bits_add}
use Rattle.read_laws.proofs.GateParts.{left, right, semicolon, qubit_parts, qubit_stands}
use Rattle.read_laws.proofs.Operands.{no_refusals, where_no, other_bit}
use Rattle.read_laws.proofs.Statements.{state_of}

-- ---- the version and the library

version_parts : List Part
version_parts = word (piece k.OpenQasm (codes "OPENQASM")) ∷ space ∷ word (piece k.Version (codes "2.0")) ∷ semicolon ∷ []

library_parts : List Part
library_parts = word (piece k.Include (codes "include")) ∷ space ∷ word (piece k.Library (codes "\"qelib1.inc\"")) ∷ semicolon ∷ []

version_item : IsItem a_text at_start at_start version_parts
unfolding version_parts
version_item = record {
  stands = λ rest. (
    closed (word (piece k.OpenQasm (codes "OPENQASM"))) 79 (80 ∷ 69 ∷ 78 ∷ 81 ∷ 65 ∷ 83 ∷ 77 ∷ []) _ refl refl refl,
    (
      closed space 32 [] _ refl refl refl,
      (closed (word (piece k.Version (codes "2.0"))) 50 (46 ∷ 48 ∷ []) _ refl refl refl, (closed semicolon 59 [] _ refl refl refl, tt)),
    ),
  );
  grammar = refl;
  whole = refl;
  allowed = λ at. refl;
  after_it = λ at. refl;
}

library_item : IsItem items at_start (state_of 0 0 [] [] []) library_parts
unfolding library_parts
library_item = record {
  stands = λ rest. (
    closed (word (piece k.Include (codes "include"))) 105 (110 ∷ 99 ∷ 108 ∷ 117 ∷ 100 ∷ 101 ∷ []) _ refl refl refl,
    (
      closed space 32 [] _ refl refl refl,
      (
        closed (word (piece k.Library (codes "\"qelib1.inc\""))) 34 (113 ∷ 101 ∷ 108 ∷ 105 ∷ 98 ∷ 49 ∷ 46 ∷ 105 ∷ 110 ∷ 99 ∷ 34 ∷ []) _ refl refl refl,
        (closed semicolon 59 [] _ refl refl refl, tt),
      ),
    ),
  );
  grammar = refl;
  whole = refl;
  allowed = λ at. refl;
  after_it = λ at. refl;
}

version_read : Reads a_text at_start at_start (codes "OPENQASM 2.0;\n")
unfolding version_parts
version_read = reads_line a_text at_start at_start version_parts (codes "OPENQASM 2.0;\n") refl version_item

library_read : Reads items at_start (state_of 0 0 [] [] []) (codes "include \"qelib1.inc\";\n")
unfolding library_parts
library_read = reads_line items at_start (state_of 0 0 [] [] []) library_parts (codes "include \"qelib1.inc\";\n") refl library_item

-- ---- declarations

not_above : (most n : ℕ) → n ≤ most → nat_lt most n ≡ false
not_above most n h = of (nat_lt most n) refl
  where
    of : (b : Bool) → nat_lt most n ≡ b → b ≡ false
    of true e = let l : most < n = ltb-true most n e in absurd (omega arith)
    of false e = refl

size_allowed : (registers : List Register) (first : Token) (which : LimitKind) (most n : ℕ) (at : Place) → 0 < n → width registers + n ≤ most
    → size_refusals registers true first which most (At at n) ≡ []
size_allowed registers first which most n at h l =
    no_refusals _ _ (where_no _ _ (other_bit n 0 (λ e. absurd (omega arith)))) (where_no _ _ (not_above most (width registers + n) l))

qreg_parts : ℕ → List Part
qreg_parts m = word (piece k.Qreg (codes "qreg")) ∷ space ∷ qubit_parts m (semicolon ∷ [])

qreg_text : (m : ℕ) → qubits_line (suc m) ≡ text_of_parts (qreg_parts (suc m)) ++ 10 ∷ []
unfolding qreg_parts
qreg_text m = simp append_assoc

abbrev qreg_token : Place → Token
qreg_token at = record { kind = k.Qreg; text = codes "qreg"; at = at }

qreg_item : (m : ℕ) → suc m ≤ 100000 → IsItem items (state_of 0 0 [] [] []) (state_of (suc m) 0 [] [] []) (qreg_parts (suc m))
unfolding qreg_parts
qreg_item m h =
    let value : number_of (decimal (suc m)) ≡ suc m = value_of (suc m) (omega arith) in
    record {
      stands = λ rest. (
        closed (word (piece k.Qreg (codes "qreg"))) 113 (114 ∷ 101 ∷ 103 ∷ []) _ refl refl refl,
        (
          closed space 32 [] _ refl refl refl,
          qubit_stands (suc m) (semicolon ∷ []) (10 ∷ rest) (omega arith) (closed semicolon 59 [] _ refl refl refl, tt),
        ),
      );
      grammar = refl;
      whole = refl;
      allowed = λ at.
          ap (λ v. size_refusals [] true (qreg_token at) limits.Qubits 100000
          (At (behind_all (behind_all (behind_all (behind_all at (codes "qreg")) (codes " ")) (codes "q")) (codes "[")) v)) value
          ∙ size_allowed [] (qreg_token at) limits.Qubits 100000 (suc m) _ (omega arith) (omega arith);
      after_it = λ at. ap (λ v. record (state_of 0 0 [] [] []) { qubits = record { name = codes "q"; size = v } ∷ [] }) value;
    }

qubits_read : (n : ℕ) → n ≤ 100000 → Reads items (state_of 0 0 [] [] []) (state_of n 0 [] [] []) (qubits_line n)
qubits_read zero h = reads_nothing (state_of 0 0 [] [] [])
qubits_read (suc m) h = reads_line items _ _ (qreg_parts (suc m)) (qubits_line (suc m)) (qreg_text m) (qreg_item m h)

creg_parts : ℕ → List Part
creg_parts bit = word (piece k.Creg (codes "creg")) ∷ space ∷ bit_part bit ∷ left ∷ word (piece k.Number (codes "1")) ∷ right ∷ semicolon ∷ []

creg_text : (bit : ℕ) → outcome_line bit ≡ text_of_parts (creg_parts bit) ++ 10 ∷ []
unfolding creg_parts
creg_text bit = simp append_assoc

no_qubit_name : (n bit : ℕ) → has (qubit_registers n) (bit_name bit) ≡ false
no_qubit_name zero bit = refl
no_qubit_name (suc n) bit = refl

abbrev creg_token : Place → Token
creg_token at = record { kind = k.Creg; text = codes "creg"; at = at }

or_false : (a b : Bool) → a ≡ false → b ≡ false → (a || b) ≡ false
or_false a b e f = cc

creg_item : (n bit : ℕ) → bit < 4096 → IsItem items (state_of n bit [] [] []) (state_of n (suc bit) [] [] []) (creg_parts bit)
unfolding creg_parts
creg_item n bit h =
    let zero_on : 0 + bit ≡ bit = omega arith in
    let added : bit_registers 0 bit ++ bit_register bit ∷ [] ≡ bit_registers 0 (suc bit) =
    ap (λ z. bit_registers 0 bit ++ bit_register z ∷ []) (sym zero_on) ∙ bits_add bit 0 in
    let wide : width (bit_registers 0 bit) ≡ bit = bit_width bit 0 in
    record {
      stands = λ rest. (
        closed (word (piece k.Creg (codes "creg"))) 99 (114 ∷ 101 ∷ 103 ∷ []) _ refl refl refl,
        (
          closed space 32 [] _ refl refl refl,
          (
            bit_stands bit 91 _ refl (omega arith),
            (
              closed left 91 [] _ refl refl refl,
              (
                closed (word (piece k.Number (codes "1"))) 49 [] _ refl refl refl,
                (closed right 93 [] _ refl refl refl, (closed semicolon 59 [] _ refl refl refl, tt)),
              ),
            ),
          ),
        ),
      );
      grammar = refl;
      whole = refl;
      allowed = λ at.
          no_refusals _ _ (where_no _ _ (or_false _ _ (no_qubit_name n bit) (no_bit_name bit bit 0 (omega arith) (omega arith))))
          (size_allowed (bit_registers 0 bit) (creg_token at) limits.Outcomes 4096 1
          (behind_all (behind_all (behind_all (behind_all at (codes "creg")) (codes " ")) (bit_name bit)) (codes "[")) (omega arith) (omega arith));
      after_it = λ at. ap (λ rs. record (state_of n bit [] [] []) { bits = rs }) added;
    }

outcomes_read : (n first count : ℕ) → first + count ≤ 4096
    → Reads items (state_of n first [] [] []) (state_of n (first + count) [] [] []) (outcome_lines first count)
outcomes_read n first zero h =
    let e : first ≡ first + 0 = omega arith in
    subst (λ z. Reads items (state_of n first [] [] []) (state_of n z [] [] []) []) e (reads_nothing (state_of n first [] [] []))
outcomes_read n first (suc m) h =
    let e : suc first + m ≡ first + suc m = omega arith in
    subst (λ z. Reads items (state_of n first [] [] []) (state_of n z [] [] []) (outcome_lines first (suc m))) e
    (reads_both items _ _ _ (outcome_line first) (outcome_lines (suc first) m)
    (reads_line items _ _ (creg_parts first) (outcome_line first) (creg_text first) (creg_item n first (omega arith))) (outcomes_read n (suc first) m
    (omega arith)))

pub start_read : (n : ℕ) → n ≤ 100000 → Reads a_text at_start (state_of n 0 [] [] []) (start_text n)
start_read n h =
    reads_both a_text _ _ _ (codes "OPENQASM 2.0;\n" ++ codes "include \"qelib1.inc\";\n") (qubits_line n)
    (reads_both a_text _ _ _ (codes "OPENQASM 2.0;\n") (codes "include \"qelib1.inc\";\n") version_read library_read) (qubits_read n h)

pub registers_read : (n b : ℕ) → b ≤ 4096 → Reads items (state_of n 0 [] [] []) (state_of n b [] [] []) (outcome_lines 0 b)
registers_read n b h =
    let e : 0 + b ≡ b = omega arith in
    subst (λ z. Reads items (state_of n 0 [] [] []) (state_of n z [] [] []) (outcome_lines 0 b)) e (outcomes_read n 0 b (omega arith))
