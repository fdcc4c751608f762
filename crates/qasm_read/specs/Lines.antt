-- Comment lines that name qubits.
use Rattle.std.specs.Prelude.{ℕ, ◌==◌, not, Bool, true, ◌&&◌, if◌then◌else◌, List, [], ◌∷◌, ◌++◌, Option, Some, None, option_and_then, codes, bytes_eq, nat_eq, ◌||◌, drop, length, flat_map}
use Rattle.std.specs.List.{list_any, starts_with}
use Rattle.silq_lex.specs.Runs.{run}
use Rattle.silq_lex.specs.Kinds.{is_number, number_of}
use Rattle.qasm_read.specs.Registers.{Register, bit_of}
use Rattle.qasm_read.specs.State.{State}

abbrev pub with_first : ℕ → List (List ℕ) → List (List ℕ)
with_first c [] = (c ∷ []) ∷ []
with_first c (w ∷ ws) = (c ∷ w) ∷ ws

-- what stands between the spaces of a line
abbrev pub between_spaces : List ℕ → List (List ℕ)
between_spaces [] = [] ∷ []
between_spaces (c ∷ cs) = if c == 32 then [] ∷ between_spaces cs else with_first c (between_spaces cs)

-- digits without a leading zero, or the digit 0
abbrev pub is_plain : List ℕ → Bool
is_plain ds = is_number ds && (bytes_eq ds (codes "0") || not (starts_with nat_eq ds (codes "0")))

-- the number that is written so
abbrev pub written_number : List ℕ → Option ℕ
written_number ds = if is_plain ds then Some (number_of ds) else None

abbrev pub is_written : List ℕ → ℕ → Bool
is_written ds n = is_plain ds && number_of ds == n

-- the index in `[`, a number and `]`
abbrev pub index_in : List ℕ → Option ℕ
index_in [] = None
index_in (c ∷ cs) =
    if c == 91 && bytes_eq (drop (length (run (λ d. not (d == 93)) cs)) cs) (codes "]") then written_number (run (λ d. not (d == 93)) cs)
    else None

-- the qubit that is written so, as `q[0]`
abbrev pub qubit_named : List Register → List ℕ → Option ℕ
qubit_named registers text =
    (λ (name : List ℕ). option_and_then (λ i. bit_of registers name i) (index_in (drop (length name) text)))
    (run (λ c. not (c == 91)) text)

abbrev pub put : Option ℕ → Option (List ℕ) → Option (List ℕ)
put None qs = None
put (Some q) None = None
put (Some q) (Some qs) = Some (q ∷ qs)

-- all the qubits that are written so
abbrev pub qubits_named : List Register → List (List ℕ) → Option (List ℕ)
qubits_named registers [] = Some []
qubits_named registers (text ∷ texts) = put (qubit_named registers text) (qubits_named registers texts)

abbrev pub is_new : List ℕ → ℕ → Bool
is_new seen q = not (list_any (λ p. p == q) seen)

-- no qubit is among those seen, and none stands twice
abbrev pub are_new : List ℕ → List ℕ → Bool
are_new seen [] = true
are_new seen (q ∷ qs) = is_new seen q && are_new (q ∷ seen) qs

abbrev pub if_new : List (List ℕ) → List ℕ → Option (List ℕ)
if_new lists qs = if are_new (flat_map (λ l. l) lists) qs then Some qs else None

-- the qubits that the words of a line name, where it is the next line of its kind
abbrev pub named_by : List Register → List ℕ → List (List ℕ) → List (List ℕ) → Option (List ℕ)
named_by registers kind lists (slashes ∷ silqc ∷ word ∷ number ∷ first ∷ more) =
    if bytes_eq slashes (codes "//") && bytes_eq silqc (codes "silqc") && bytes_eq word kind && is_written number (length lists)
    then option_and_then (λ qs. if_new lists qs) (qubits_named registers (first ∷ more))
    else None
named_by registers kind lists _ = None

abbrev pub add_list : List (List ℕ) → Option (List ℕ) → List (List ℕ)
add_list lists None = lists
add_list lists (Some qs) = lists ++ qs ∷ []

-- the lists after a comment line
abbrev pub with_line : State → List ℕ → State
with_line s text = record s {
  ins = add_list s.ins (named_by s.qubits (codes "in") s.ins (between_spaces text));
  outs = add_list s.outs (named_by s.qubits (codes "out") s.outs (between_spaces text));
}

abbrev pub with_lines : State → List (List ℕ) → State
with_lines s [] = s
with_lines s (text ∷ texts) = with_lines (with_line s text) texts
