-- Texts put part by part.
use Rattle.std.proofs.Common.{◌≡◌, ℕ, zero, suc, ◌+◌, ◌-◌, ◌<◌, List, [], ◌++◌, drop, length, get_or, Option, ap, subst, ◌∙◌, refl, sym, append_assoc, append-nil, add-one, drop-cons, arith}
use Rattle.std.specs.Prelude.{decimal, codes}
use Rattle.silq_io.specs.Sinks.{Adds, Breaks}
use Rattle.silq_io.proofs.Added.{adds_more, breaks_front, breaks_rest, rose_after}
use Rattle.gate_core.specs.declared.gate.PlainGate.{PlainGate}
use Rattle.gate_core.specs.declared.gate.Gate.TheVariants.{If}
use Rattle.qasm_write.specs.declared.piece.Piece.{Piece}
use Rattle.qasm_write.specs.Pieces.{piece_text, pieces_text}
use Rattle.qasm_write.specs.Written.{qubit_text, qubit_texts, list_line, list_lines, outcome_line, outcome_lines, plain_line, gate_line, start_text}

pub ruleset parts = (adds_more, breaks_front, breaks_rest, rose_after)

-- A front of the text was put, and this comes behind it.
pub record IsPartPut (old new : Option (List ℕ)) (rest all : List ℕ) : Type 0 where
  pub done : List ℕ
  pub joined : done ++ rest ≡ all
  pub put : Adds old new done

-- one more piece was put
pub put_more : (a b c : Option (List ℕ)) (piece rest all : List ℕ) → IsPartPut a b (piece ++ rest) all → Adds b c piece → IsPartPut a c rest all
put_more a b c piece rest all h p =
    record { done = h.done ++ piece; joined = append_assoc h.done piece rest ∙ h.joined; put = adds_more a b c h.done piece h.put p }

-- the next piece broke
pub put_broke : (a b c : Option (List ℕ)) (piece rest all : List ℕ) → IsPartPut a b (piece ++ rest) all → Breaks b c piece → Breaks a c all
put_broke a b c piece rest all h p =
    let e : Breaks a c (h.done ++ (piece ++ rest)) = breaks_rest a b c h.done (piece ++ rest) h.put (breaks_front b c piece rest p) in
    rw h.joined at e

-- the first of two parts broke
pub broke_first : (a b : Option (List ℕ)) (front rest all : List ℕ) → front ++ rest ≡ all → Breaks a b front → Breaks a b all
broke_first a b front rest all e h = subst (Breaks a b) e (breaks_front a b front rest h)

-- the second of two parts broke
pub broke_second : (a b c : Option (List ℕ)) (front rest all : List ℕ) → front ++ rest ≡ all → Adds a b front → Breaks b c rest → Breaks a c all
broke_second a b c front rest all e f h = subst (Breaks a c) e (breaks_rest a b c front rest f h)

-- two parts were put
pub put_both : (a b c : Option (List ℕ)) (front rest all : List ℕ) → front ++ rest ≡ all → Adds a b front → Adds b c rest → Adds a c all
put_both a b c front rest all e f h = subst (Adds a c) e (adds_more a b c front rest f h)

-- the pieces from one on
pub next_piece : (a b : Option (List ℕ)) (all : List ℕ) (pieces : List Piece) (i : ℕ) (d : Piece) → i < length pieces
    → IsPartPut a b (pieces_text (drop i pieces)) all
    → IsPartPut a b (piece_text (get_or pieces i d) ++ pieces_text (drop (i + 1) pieces)) all
next_piece a b all pieces i d l h =
    let e : pieces_text (drop i pieces) ≡ piece_text (get_or pieces i d) ++ pieces_text (drop (i + 1) pieces) =
    ap pieces_text (drop-cons pieces i d l) ∙ ap (λ n. piece_text (get_or pieces i d) ++ pieces_text (drop n pieces)) (sym (add-one i)) in
    subst (λ w. IsPartPut a b w all) e h

-- the text of one qubit of a list, as pieces give it
abbrev pub qubit_piece : ℕ → List ℕ
qubit_piece q = codes " " ++ (qubit_text q ++ [])

-- the qubits from one on
pub next_qubit : (a b : Option (List ℕ)) (all : List ℕ) (qs : List ℕ) (i : ℕ) (d : ℕ) → i < length qs
    → IsPartPut a b (qubit_texts (drop i qs)) all
    → IsPartPut a b (qubit_piece (get_or qs i d) ++ qubit_texts (drop (i + 1) qs)) all
next_qubit a b all qs i d l h =
    let e : qubit_texts (drop i qs) ≡ qubit_piece (get_or qs i d) ++ qubit_texts (drop (i + 1) qs) =
    ap qubit_texts (drop-cons qs i d l)
    ∙ ap (λ n. codes " " ++ (qubit_text (get_or qs i d) ++ qubit_texts (drop n qs))) (sym (add-one i))
    ∙ ap (λ w. codes " " ++ (w ++ qubit_texts (drop (i + 1) qs))) (sym (append-nil (qubit_text (get_or qs i d)))) in
    subst (λ w. IsPartPut a b w all) e h

-- the outcomes from one on
pub next_outcome : (a b : Option (List ℕ)) (all : List ℕ) (n k : ℕ) → n < k
    → IsPartPut a b (outcome_lines n (k - n)) all
    → IsPartPut a b (outcome_line n ++ outcome_lines (n + 1) (k - (n + 1))) all
next_outcome a b all n k l h =
    let m : k - n ≡ suc (k - (n + 1)) = omega (arith, l) in
    let e : outcome_lines n (k - n) ≡ outcome_line n ++ outcome_lines (n + 1) (k - (n + 1)) =
    ap (λ m. outcome_lines n m) m ∙ ap (λ m. outcome_line n ++ outcome_lines m (k - (n + 1))) (sym (add-one n)) in
    subst (λ w. IsPartPut a b w all) e h

-- the lists from one on
pub next_list : (a b : Option (List ℕ)) (all kind : List ℕ) (lists : List (List ℕ)) (i : ℕ) (qs : List ℕ) → qs ≡ get_or lists i qs → i < length lists
    → IsPartPut a b (list_lines kind i (drop i lists)) all
    → IsPartPut a b (list_line kind i qs ++ list_lines kind (i + 1) (drop (i + 1) lists)) all
next_list a b all kind lists i qs is l h =
    let e : list_lines kind i (drop i lists) ≡ list_line kind i qs ++ list_lines kind (i + 1) (drop (i + 1) lists) =
    ap (list_lines kind i) (drop-cons lists i qs l)
    ∙ ap (λ n. list_line kind i (get_or lists i qs) ++ list_lines kind n (drop n lists)) (sym (add-one i))
    ∙ ap (λ w. list_line kind i w ++ list_lines kind (i + 1) (drop (i + 1) lists)) (sym is) in
    subst (λ w. IsPartPut a b w all) e h

-- the front of the line of a list, as pieces give it
abbrev pub list_front : List ℕ → ℕ → List ℕ
list_front kind number = codes "// silqc " ++ (kind ++ (codes " " ++ (decimal number ++ [])))

pub list_parts : (kind : List ℕ) (number : ℕ) (qs : List ℕ) → list_front kind number ++ (qubit_texts qs ++ codes "\n") ≡ list_line kind number qs
list_parts kind number qs =
    ap (λ w. codes "// silqc " ++ w)
    (append_assoc kind (codes " " ++ (decimal number ++ [])) (qubit_texts qs ++ codes "\n")
    ∙ ap (λ w. kind ++ (codes " " ++ (w ++ (qubit_texts qs ++ codes "\n")))) (append-nil (decimal number)))

-- the front of the line of an `if`
abbrev pub if_front : ℕ → ℕ → List ℕ
if_front bit value = codes "if (m" ++ (decimal bit ++ (codes "==" ++ (decimal value ++ codes ") ")))

pub if_parts : (bit value : ℕ) (gate : PlainGate) → if_front bit value ++ plain_line gate ≡ gate_line (If bit value gate)
if_parts bit value gate =
    ap (λ w. codes "if (m" ++ w)
    (append_assoc (decimal bit) (codes "==" ++ (decimal value ++ codes ") ")) (plain_line gate)
    ∙ ap (λ w. decimal bit ++ (codes "==" ++ w)) (append_assoc (decimal value) (codes ") ") (plain_line gate)))

-- a text by another name
pub adds_as : (a b : Option (List ℕ)) (xs ys : List ℕ) → xs ≡ ys → Adds a b xs → Adds a b ys
adds_as a b xs ys e h = subst (Adds a b) e h

pub breaks_as : (a b : Option (List ℕ)) (xs ys : List ℕ) → xs ≡ ys → Breaks a b xs → Breaks a b ys
breaks_as a b xs ys e h = subst (Breaks a b) e h

-- without a qubit there is no register
pub start_none : (n : ℕ) → n ≡ 0 → codes "OPENQASM 2.0;\ninclude \"qelib1.inc\";\n" ≡ start_text n
start_none n e = sym (ap start_text e)

pub start_some : (n : ℕ) → ¬ (n ≡ 0)
    → codes "OPENQASM 2.0;\ninclude \"qelib1.inc\";\nqreg q[" ++ (decimal n ++ codes "];\n") ≡ start_text n
start_some zero h = absurd (h refl)
start_some (suc n) h = refl
