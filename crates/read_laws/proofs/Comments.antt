-- Comment lines are read as the lists that they were written for.
use Rattle.std.proofs.Common.{◌≡◌, ℕ, ◌<◌, ◌^◌, Bool, true, false, not, List, [], ◌∷◌, ◌++◌, map, Some, None, nat_eq, ◌==◌, decimal, length, drop, append-nil, refl, sym, ◌∙◌, ap, subst, arith}
use Rattle.std.specs.Prelude.{codes, bytes_eq, flat_map, option_and_then, if◌then◌else◌}
use Rattle.std.specs.List.{list_all, list_any}
use Rattle.std.proofs.Math.Seq.{drop-append_seam}
use Rattle.std.proofs.lemmas.Bool.Decides.{Decides-eqb}
use Rattle.silq_lex.specs.Characters.{is_digit}
use Rattle.silq_lex.specs.Runs.{run}
use Rattle.silq_lex.proofs.Texts.{and_left, and_right, and_true}
use Rattle.gate_core.specs.Local.{Absent, AllDiffer, AllBelow}
use Rattle.qasm_write.specs.Written.{qubit_text, qubit_texts}
use Rattle.qasm_tokens.proofs.Steps.{run_before}
use Rattle.qasm_read.specs.Registers.{bit_of}
use Rattle.qasm_read.specs.Lines.{with_first, between_spaces, is_plain, written_number, is_written, index_in, qubit_named, qubits_named, are_new, if_new}
use Rattle.read_laws.proofs.Decimals.{IsSpelled, Spelling, spelled, digits_of, value_of, is_low, is_high, digits_are}
use Rattle.read_laws.proofs.Differ.{AreAbsent, one_more, are_absent, back_differs}
use Rattle.read_laws.proofs.Parts.{all_both}
use Rattle.read_laws.proofs.Registers.{qubit_name, qubit_registers, qubit_is}
use Rattle.read_laws.proofs.Operands.{other_bit}

-- ---- words between spaces

abbrev pub no_space : ℕ → Bool
no_space c = not (c == 32)

pub last_word : (w : List ℕ) → list_all no_space w ≡ true → between_spaces w ≡ w ∷ []
last_word [] h = refl
last_word (c ∷ cs) h = of (c == 32) (and_left _ _ h) (last_word cs (and_right (no_space c) _ h))
  where
    of : (b : Bool) → not b ≡ true → between_spaces cs ≡ cs ∷ []
        → (if b then [] ∷ between_spaces cs else with_first c (between_spaces cs)) ≡ (c ∷ cs) ∷ []
    of true e f = cc
    of false e f = ap (with_first c) f

pub next_word : (w rest : List ℕ) → list_all no_space w ≡ true → between_spaces (w ++ 32 ∷ rest) ≡ w ∷ between_spaces rest
next_word [] rest h = refl
next_word (c ∷ cs) rest h = of (c == 32) (and_left _ _ h) (next_word cs rest (and_right (no_space c) _ h))
  where
    of : (b : Bool) → not b ≡ true → between_spaces (cs ++ 32 ∷ rest) ≡ cs ∷ between_spaces rest
        → (if b then [] ∷ between_spaces (cs ++ 32 ∷ rest) else with_first c (between_spaces (cs ++ 32 ∷ rest))) ≡ (c ∷ cs) ∷ between_spaces rest
    of true e f = cc
    of false e f = ap (with_first c) f

digit_no_space : (c : ℕ) → is_digit c ≡ true → no_space c ≡ true
digit_no_space c e = ap not (is_low c 32 (omega arith) e)

pub number_no_space : (n : ℕ) → n < 2 ^ 64 → list_all no_space (decimal n) ≡ true
number_no_space n h = digits_are no_space digit_no_space (decimal n) (digits_of n h)

qubit_no_space : (q : ℕ) → q < 2 ^ 64 → list_all no_space (qubit_text q) ≡ true
qubit_no_space q h = all_both no_space (decimal q) (93 ∷ []) (number_no_space q h) refl

pub words_of : (w : List ℕ) (qs : List ℕ) → list_all no_space w ≡ true → AllBelow (2 ^ 64) qs → between_spaces (w ++ qubit_texts qs) ≡ w ∷ map qubit_text qs
words_of w [] h b = ap between_spaces (append-nil w) ∙ last_word w h
words_of w (q ∷ qs) h b =
    next_word w (qubit_text q ++ qubit_texts qs) h ∙ ap (λ ws. w ∷ ws) (words_of (qubit_text q) qs (qubit_no_space q b.0) b.1)

-- ---- numbers and qubits

plain_spelled : (n d : ℕ) (ds : List ℕ) → IsSpelled n d ds → is_plain (d ∷ ds) ≡ true
plain_spelled n d ds s = of (nat_eq d 48) refl
  where
    of : (b : Bool) → nat_eq d 48 ≡ b → is_plain (d ∷ ds) ≡ true
    of true e =
        let z : d ≡ 48 = (Decides-eqb d 48).0 e in
        let nil : ds ≡ [] = s.plain z in subst (λ x. is_plain (d ∷ x) ≡ true) (sym nil) (subst (λ x. is_plain (x ∷ []) ≡ true) (sym z) refl)
    of false e =
        let other : nat_eq 48 d ≡ false = other_bit 48 d (λ z. let y : true ≡ false = sym ((Decides-eqb d 48).1 (sym z)) ∙ e in absurd (cc)) in
        rw (s.all, e, other) refl

pub plain_number : (n : ℕ) → n < 2 ^ 64 → is_plain (decimal n) ≡ true
plain_number n h = let s : Spelling n = spelled n h in ap is_plain s.is.text ∙ plain_spelled n s.first s.rest s.is

pub number_is_written : (n : ℕ) → n < 2 ^ 64 → is_written (decimal n) n ≡ true
number_is_written n h = and_true _ _ (plain_number n h) (ap (λ m. m == n) (value_of n h) ∙ (Decides-eqb n n).1 refl)

read_number : (n : ℕ) → n < 2 ^ 64 → written_number (decimal n) ≡ Some n
read_number n h = rw (plain_number n h) (ap Some (value_of n h))

digit_no_bracket : (c : ℕ) → is_digit c ≡ true → not (c == 93) ≡ true
digit_no_bracket c e = ap not (is_high c 93 (omega arith) e)

index_read : (q : ℕ) → q < 2 ^ 64 → index_in (91 ∷ (decimal q ++ 93 ∷ [])) ≡ Some q
index_read q h =
    let digits : run (λ d. not (d == 93)) (decimal q ++ 93 ∷ []) ≡ decimal q =
    run_before (λ d. not (d == 93)) (decimal q) 93 [] (digits_are (λ d. not (d == 93)) digit_no_bracket (decimal q) (digits_of q h)) refl in
    ap (λ ds. if bytes_eq (drop (length ds) (decimal q ++ 93 ∷ [])) (codes "]") then written_number ds else None) digits
    ∙ ap (λ left. if bytes_eq left (codes "]") then written_number (decimal q) else None) (drop-append_seam (decimal q) (93 ∷ []))
    ∙ read_number q h

qubit_read : (n q : ℕ) → q < n → n < 2 ^ 32 → qubit_named (qubit_registers n) (qubit_text q) ≡ Some q
qubit_read n q h f = ap (option_and_then (λ i. bit_of (qubit_registers n) qubit_name i)) (index_read q (omega arith)) ∙ qubit_is n q h

pub qubits_read : (n : ℕ) (qs : List ℕ) → AllBelow n qs → n < 2 ^ 32 → qubits_named (qubit_registers n) (map qubit_text qs) ≡ Some qs
qubits_read n [] h f = refl
qubits_read n (q ∷ qs) h f = rw (qubit_read n q h.0 f, qubits_read n qs h.1 f) refl

-- ---- new qubits

not_any : (seen : List ℕ) (q : ℕ) → Absent q seen → list_any (λ p. p == q) seen ≡ false
not_any [] q h = refl
not_any (p ∷ ps) q h = rw (other_bit p q h.0) (not_any ps q h.1)

all_new : (seen qs : List ℕ) → AreAbsent seen qs → AllDiffer qs → are_new seen qs ≡ true
all_new seen [] h d = refl
all_new seen (q ∷ qs) h d = and_true _ _ (ap not (not_any seen q h.0)) (all_new (q ∷ seen) qs (one_more q seen qs h.1 d.0) d.1)

pub new_list : (lists : List (List ℕ)) (qs : List ℕ) → AllDiffer (flat_map (λ l. l) lists ++ qs) → if_new lists qs ≡ Some qs
new_list lists qs h = rw (all_new (flat_map (λ l. l) lists) qs (are_absent (flat_map (λ l. l) lists) qs h) (back_differs (flat_map (λ l. l) lists) qs h)) refl
