-- How long the text of a circuit is.
use Rattle.std.proofs.Common.{◌≡◌, ◌≢◌, ℕ, zero, suc, ◌+◌, ◌*◌, ◌<◌, ◌≤◌, List, [], ◌∷◌, ◌++◌, length, length-append, decimal, All, refl, arith, lit<}
use Rattle.std.specs.Prelude.{codes}
use Rattle.std.proofs.lemmas.Fmt.{length-decimal-le}
use Rattle.std.proofs.lemmas.List.Elements.{All-head, All-tail}
use Rattle.gate_core.specs.declared.gate.OneKind.{OneKind}
use Rattle.gate_core.specs.declared.gate.OneKind.TheVariants.{Id, X, Y, Z, H, S, Sdg, T, Tdg}
use Rattle.gate_core.specs.declared.gate.PlainGate.{PlainGate}
use Rattle.gate_core.specs.declared.gate.PlainGate.TheVariants.{One as PlainOne, Cx as PlainCx, Cz as PlainCz, Ccx as PlainCcx}
use Rattle.gate_core.specs.declared.gate.Gate.{Gate}
use Rattle.gate_core.specs.declared.gate.Gate.TheVariants.{One, Cx, Cz, Ccx, Measure, If}
use Rattle.gate_core.specs.Circuit.{GateFits}
use Rattle.gate_core.specs.Local.{AllBelow, gate_qubits}
use Rattle.gate_core.specs.Meaning.{joined}
use Rattle.qasm_write.specs.Written.{qubit_text, kind_text, plain_line, gate_line, gate_lines, outcome_line, outcome_lines, qubit_texts, list_line, list_lines}
use Rattle.qasm_write.specs.Written.{start_text}

-- a number of at most five digits, and of at most six
five_digits : (n : ℕ) → n < 100000 → length (decimal n) ≤ 5
five_digits n low = length-decimal-le 5 n (lit< tt) low (omega (arith, low))

six_digits : (n : ℕ) → n ≤ 100000 → length (decimal n) ≤ 6
six_digits n low = length-decimal-le 6 n (lit< tt) (omega (arith, low)) (omega (arith, low))

-- ---- a gate

kind_short : (kind : OneKind) → length (kind_text kind) ≤ 3
kind_short Id = omega arith
kind_short X = omega arith
kind_short Y = omega arith
kind_short Z = omega arith
kind_short H = omega arith
kind_short S = omega arith
kind_short Sdg = omega arith
kind_short T = omega arith
kind_short Tdg = omega arith

plain_short : (n : ℕ) (g : PlainGate) → n ≤ 100000 → AllBelow n (gate_qubits g) → length (plain_line g) ≤ 32
plain_short n (PlainOne kind q) few h =
    let a = five_digits q (omega (arith, few, h.0)) in
    let k = kind_short kind in
    simp length-append (omega (arith, a, k))
plain_short n (PlainCx c t) few h =
    let a = five_digits c (omega (arith, few, h.0)) in
    let b = five_digits t (omega (arith, few, h.1.0)) in
    simp length-append (omega (arith, a, b))
plain_short n (PlainCz c t) few h =
    let a = five_digits c (omega (arith, few, h.0)) in
    let b = five_digits t (omega (arith, few, h.1.0)) in
    simp length-append (omega (arith, a, b))
plain_short n (PlainCcx c e t) few h =
    let a = five_digits c (omega (arith, few, h.0)) in
    let b = five_digits e (omega (arith, few, h.1.0)) in
    let d = five_digits t (omega (arith, few, h.1.1.0)) in
    simp length-append (omega (arith, a, b, d))

-- an `if` compares with 1
abbrev pub AsksForOne : Gate → Type 0
AsksForOne (One kind q) = Unit {0}
AsksForOne (Cx c t) = Unit {0}
AsksForOne (Cz c t) = Unit {0}
AsksForOne (Ccx a b t) = Unit {0}
AsksForOne (Measure q bit) = Unit {0}
AsksForOne (If bit value gate) = value ≡ 1

one_digit : (n : ℕ) → n ≡ 1 → length (decimal n) ≤ 1
one_digit n e = length-decimal-le 1 n (lit< tt) (omega (arith, e)) (omega (arith, e))

gate_short : (n k : ℕ) (g : Gate) → n ≤ 100000 → k ≤ 4096 → GateFits n k g → AsksForOne g → length (gate_line g) ≤ 47
gate_short n k (One kind q) few bits h v = let a = plain_short n (PlainOne kind q) few h.qubits_in_range in omega (arith, a)
gate_short n k (Cx c t) few bits h v = let a = plain_short n (PlainCx c t) few h.qubits_in_range in omega (arith, a)
gate_short n k (Cz c t) few bits h v = let a = plain_short n (PlainCz c t) few h.qubits_in_range in omega (arith, a)
gate_short n k (Ccx b c t) few bits h v = let a = plain_short n (PlainCcx b c t) few h.qubits_in_range in omega (arith, a)
gate_short n k (Measure q bit) few bits h v =
    let a = five_digits q (let l = h.qubits_in_range.0 in omega (arith, few, l)) in
    let b = five_digits bit (let l = h.bits_in_range.0 in omega (arith, bits, l)) in
    simp length-append (omega (arith, a, b))
gate_short n k (If bit value gate) few bits h v =
    let b = five_digits bit (let l = h.bits_in_range.0 in omega (arith, bits, l)) in
    let c = one_digit value v in
    let a = plain_short n gate few h.qubits_in_range in
    let e : length (gate_line (If bit value gate)) ≡ 5 + length (decimal bit) + 2 + length (decimal value) + 2 + length (plain_line gate) = long bit value
    (plain_line gate) in
    omega (arith, a, b, c, e)
  where
    long : (bit value : ℕ) (line : List ℕ) → length (codes "if (m" ++ (decimal bit ++ (codes "==" ++ (decimal value ++ (codes ") " ++ line)))))
        ≡ 5 + length (decimal bit) + 2 + length (decimal value) + 2 + length line
    long bit value line = simp length-append (omega arith)

pub gates_short : (n k : ℕ) (gs : List Gate) → n ≤ 100000 → k ≤ 4096 → All (GateFits n k) gs → All AsksForOne gs
    → length (gate_lines gs) ≤ 47 * length gs
gates_short n k [] few bits h v = omega arith
gates_short n k (g ∷ gs) few bits h v =
    let a = gate_short n k g few bits (All-head (GateFits n k) g gs h) (All-head AsksForOne g gs v) in
    let b = gates_short n k gs few bits (All-tail (GateFits n k) g gs h) (All-tail AsksForOne g gs v) in
    let e = length-append (gate_line g) (gate_lines gs) in
    omega (arith, a, b, e)

-- ---- the registers

start_short : (n : ℕ) → n ≤ 100000 → length (start_text n) ≤ 100
start_short zero few = omega arith
start_short (suc n) few =
    let a = six_digits (suc n) few in
    simp length-append (omega (arith, a))

outcomes_short : (first count : ℕ) → first + count ≤ 4096 → length (outcome_lines first count) ≤ 16 * count
outcomes_short first zero few = omega arith
outcomes_short first (suc count) few =
    let a = five_digits first (omega (arith, few)) in
    let b = outcomes_short (suc first) count (omega (arith, few)) in
    let c : length (outcome_line first) ≤ 16 = simp length-append (omega (arith, a)) in
    let e = length-append (outcome_line first) (outcome_lines (suc first) count) in
    omega (arith, b, c, e)

-- ---- the lists

qubits_short : (n : ℕ) (qs : List ℕ) → n ≤ 100000 → AllBelow n qs → length (qubit_texts qs) ≤ 9 * length qs
qubits_short n [] few h = omega arith
qubits_short n (q ∷ qs) few h =
    let a = five_digits q (omega (arith, few, h.0)) in
    let b = qubits_short n qs few h.1 in
    let c : length (qubit_text q) ≤ 8 = simp length-append (omega (arith, a)) in
    let e = length-append (qubit_text q) (qubit_texts qs) in
    omega (arith, b, c, e)

below_front : (n : ℕ) (xs ys : List ℕ) → AllBelow n (xs ++ ys) → AllBelow n xs
below_front n [] ys h = tt
below_front n (x ∷ xs) ys h = (h.0, below_front n xs ys h.1)

below_back : (n : ℕ) (xs ys : List ℕ) → AllBelow n (xs ++ ys) → AllBelow n ys
below_back n [] ys h = h
below_back n (x ∷ xs) ys h = below_back n xs ys h.1

some_length : (qs : List ℕ) → qs ≢ [] → 0 < length qs
some_length [] h = absurd (h refl)
some_length (q ∷ qs) h = omega arith

list_short : (kind : List ℕ) (number n : ℕ) (qs : List ℕ) → length kind ≤ 3 → number ≤ 100000 → n ≤ 100000 → AllBelow n qs
    → length (list_line kind number qs) ≤ 20 + 9 * length qs
list_short kind number n qs k few small h =
    let a = six_digits number few in
    let b = qubits_short n qs small h in
    simp length-append (omega (arith, a, b, k))

-- where no list is empty
pub lists_short : (kind : List ℕ) (number n : ℕ) (lists : List (List ℕ)) → length kind ≤ 3 → n ≤ 100000 → All (λ qs. qs ≢ []) lists
    → AllBelow n (joined lists) → number + length (joined lists) ≤ 100000 → length (list_lines kind number lists) ≤ 29 * length (joined lists)
lists_short kind number n [] k small some h few = omega arith
lists_short kind number n (qs ∷ lists) k small some h few =
    let one : 0 < length qs = some_length qs (All-head (λ l. l ≢ []) qs lists some) in
    let j = length-append qs (joined lists) in
    let a = list_short kind number n qs k (omega (arith, few)) small (below_front n qs (joined lists) h) in
    let b = lists_short kind (suc number) n lists k small (All-tail (λ l. l ≢ []) qs lists some) (below_back n qs (joined lists) h) (omega (arith, few, j, one))
    in
    let e = length-append (list_line kind number qs) (list_lines kind (suc number) lists) in
    omega (arith, one, j, a, b, e)

pub registers_short : (n k : ℕ) → n ≤ 100000 → k ≤ 4096 → length (start_text n) + length (outcome_lines 0 k) ≤ 65636
registers_short n k few bits =
    let a = start_short n few in
    let b = outcomes_short 0 k (omega (arith, bits)) in
    omega (arith, a, b, bits)
