-- A whole item without a refusal gives a statement that the circuit so far accepts.
use Rattle.std.proofs.Common.{◌≡◌, ℕ, zero, suc, ◌+◌, ◌-◌, ◌<◌, ◌≤◌, Bool, true, false, not, refl, sym, ◌∙◌, ap, arith}
use Rattle.std.proofs.Common.{List, [], ◌∷◌, ◌++◌, length, take, drop, get_or, Contains}
use Rattle.std.specs.Prelude.{Option, Some, None, IfSome, filter_map, option_map, option_and_then, slice_get, nat_lt, ◌==◌, if◌then◌else◌}
use Rattle.std.specs.List.{cons_option}
use Rattle.std.proofs.lemmas.Bool.{true≢false, ltb-true, eqb-true, eq-eqb, not-false, or_left, or_right, or_parts}
use Rattle.silq_io.specs.declared.fault.SyntaxCause.TheVariants as cause
use Rattle.gate_core.specs.declared.gate.PlainGate.{PlainGate}
use Rattle.gate_core.specs.declared.gate.PlainGate.TheVariants.{One as PlainOne, Cx as PlainCx, Cz as PlainCz, Ccx as PlainCcx}
use Rattle.gate_core.specs.Local.{Absent, AllBelow, AllDiffer, as_gate, gate_qubits}
use Rattle.gate_core.specs.Circuit.{measured_bits}
use Rattle.qasm_tokens.specs.declared.kind.Kind.{Kind}
use Rattle.qasm_tokens.specs.declared.kind.Kind.TheVariants as k
use Rattle.qasm_tokens.specs.declared.token.Token.{Token as ReadToken}
use Rattle.qasm_tokens.specs.Tokens.{Token}
use Rattle.qasm_tokens.specs.Cursors.{token_of}
use Rattle.qasm_read.specs.declared.registers.Bits.{Bits}
use Rattle.qasm_read.specs.declared.operand.Index.{Index}
use Rattle.qasm_read.specs.declared.operand.Index.TheVariants.{Bare, Open, At}
use Rattle.qasm_read.specs.Registers.{Register, bit_in, bit_of, bits_of, width}
use Rattle.qasm_read.specs.State.{State}
use Rattle.qasm_read.specs.Read.{tokens_of}
use Rattle.qasm_read.specs.Refusals.{bad, where_, Operand, operands, bit_at, bit_named, operand_refusals, is_among, qubit_refusals, gate_refusals}
use Rattle.qasm_read.specs.Refusals.{all_some, measured, measure_refusals, wide_refusals, condition_refusals, held_by, held_refusals, if_refusals}
use Rattle.qasm_read.specs.Refusals.{refusals_by, refusals_of}
use Rattle.qasm_read.specs.Statements.{plain_of, plain_in, measure_from, measure_of, if_from, bits_named, value_of, if_of}
use Rattle.qasm_read.specs.Added.{MayAdd, gate_behind}
use Rattle.qasm_read.proofs.Found.{bits_within}
use Rattle.qasm_read.proofs.Allowed.{none_where, left_none, right_none}
use Rattle.qasm_read.proofs.Items.{behind_first}

-- ---- bits are below the width

bits_below : (rs : List Register) (name : List ℕ) → IfSome (bits_of rs name) (λ b. b.first + b.size ≤ width rs)
bits_below rs name = go (bits_of rs name) refl
  where
    go : (o : Option Bits) → bits_of rs name ≡ o → IfSome o (λ b. b.first + b.size ≤ width rs)
    go None e = tt
    go (Some b) e = let w = bits_within 0 rs name b e in omega (arith, w)

bit_in_below : (b : Bits) (i w : ℕ) → b.first + b.size ≤ w → IfSome (bit_in b i) (λ n. n < w)
bit_in_below b i w l = go (nat_lt i b.size) refl
  where
    go : (t : Bool) → nat_lt i b.size ≡ t → IfSome (if t then Some (b.first + i) else None) (λ n. n < w)
    go true e = let k = ltb-true i b.size e in omega (arith, k, l)
    go false e = tt

pub bit_of_below : (rs : List Register) (name : List ℕ) (i : ℕ) → IfSome (bit_of rs name i) (λ n. n < width rs)
bit_of_below rs name i = go (bits_of rs name) (bits_below rs name)
  where
    go : (o : Option Bits) → IfSome o (λ b. b.first + b.size ≤ width rs) → IfSome (option_and_then (λ b. bit_in b i) o) (λ n. n < width rs)
    go None h = tt
    go (Some b) h = bit_in_below b i (width rs) h

bit_at_below : (rs : List Register) (name : List ℕ) (i : Index) → IfSome (bit_at rs name i) (λ n. n < width rs)
bit_at_below rs name Bare = tt
bit_at_below rs name Open = tt
bit_at_below rs name (At at n) = bit_of_below rs name n

named_below : (rs : List Register) (o : Operand) → IfSome (bit_named rs o) (λ n. n < width rs)
named_below rs o = bit_at_below rs o.name.text o.index

abbrev all_named : List Register → List Operand → List ℕ
all_named rs os = filter_map (λ (o : Operand). bit_named rs o) os

one_below : (n : ℕ) (x : Option ℕ) (bs : List ℕ) → IfSome x (λ b. b < n) → AllBelow n bs → AllBelow n (cons_option x bs)
one_below n None bs l h = h
one_below n (Some b) bs l h = (l, h)

all_below : (rs : List Register) (os : List Operand) → AllBelow (width rs) (all_named rs os)
all_below rs [] = tt
all_below rs (o ∷ os) = one_below (width rs) (bit_named rs o) (all_named rs os) (named_below rs o) (all_below rs os)

-- ---- the qubits of a gate differ

still_among : (seen : List (Option ℕ)) (q : ℕ) (x : Option ℕ) → is_among seen (Some q) ≡ true → is_among (x ∷ seen) (Some q) ≡ true
still_among seen q None s = s
still_among seen q (Some p) s = or_right (p == q) (is_among seen (Some q)) s

one_absent : (seen : List (Option ℕ)) (q : ℕ) (x : Option ℕ) (bs : List ℕ) → is_among seen (Some q) ≡ true → is_among seen x ≡ false → Absent q bs
    → Absent q (cons_option x bs)
one_absent seen q None bs s n h = h
one_absent seen q (Some p) bs s n h = ((λ e. true≢false (sym s ∙ (ap (λ (y : ℕ). is_among seen (Some y)) (sym e) ∙ n))), h)

module _ (rs : List Register) (seen : List (Option ℕ)) (o : Operand) (os : List Operand) (e : qubit_refusals rs seen (o ∷ os) ≡ []) where
  behind_operand : where_ (is_among seen (bit_named rs o)) (bad o.name.at cause.Repeated) ++ qubit_refusals rs (bit_named rs o ∷ seen) os ≡ []
  behind_operand = right_none (operand_refusals rs o) _ e

  not_repeated : is_among seen (bit_named rs o) ≡ false
  not_repeated = none_where (is_among seen (bit_named rs o)) _ (left_none (where_ (is_among seen (bit_named rs o)) _) _ behind_operand)

  later : qubit_refusals rs (bit_named rs o ∷ seen) os ≡ []
  later = right_none (where_ (is_among seen (bit_named rs o)) _) _ behind_operand

-- a qubit that was seen is none of those behind
all_absent : (rs : List Register) (seen : List (Option ℕ)) (q : ℕ) (os : List Operand) → is_among seen (Some q) ≡ true → qubit_refusals rs seen os ≡ []
    → Absent q (all_named rs os)
all_absent rs seen q [] s e = tt
all_absent rs seen q (o ∷ os) s e =
    one_absent seen q (bit_named rs o) (all_named rs os) s (not_repeated rs seen o os e)
    (all_absent rs (bit_named rs o ∷ seen) q os (still_among seen q (bit_named rs o) s) (later rs seen o os e))

one_differs : (seen : List (Option ℕ)) (x : Option ℕ) (bs : List ℕ) → ((q : ℕ) → is_among (x ∷ seen) (Some q) ≡ true → Absent q bs)
    → AllDiffer bs → AllDiffer (cons_option x bs)
one_differs seen None bs a d = d
one_differs seen (Some p) bs a d = (a p (or_left (p == p) (is_among seen (Some p)) (eq-eqb p p refl)), d)

all_differ : (rs : List Register) (seen : List (Option ℕ)) (os : List Operand) → qubit_refusals rs seen os ≡ [] → AllDiffer (all_named rs os)
all_differ rs seen [] e = tt
all_differ rs seen (o ∷ os) e =
    one_differs seen (bit_named rs o) (all_named rs os)
    (λ q s. all_absent rs (bit_named rs o ∷ seen) q os s (later rs seen o os e))
    (all_differ rs (bit_named rs o ∷ seen) os (later rs seen o os e))

-- ---- gates

record IsPlaced (n : ℕ) (g : PlainGate) : Type 0 where
  below : AllBelow n (gate_qubits g)
  differ : AllDiffer (gate_qubits g)

plain_of-placed : (n : ℕ) (kind : Kind) (qs : List ℕ) → AllBelow n qs → AllDiffer qs → IfSome (plain_of kind qs) (IsPlaced n)
plain_of-placed n (k.One one) (q ∷ []) b d = record { below = b; differ = d }
plain_of-placed n k.Cx (c ∷ t ∷ []) b d = record { below = b; differ = d }
plain_of-placed n k.Cz (c ∷ t ∷ []) b d = record { below = b; differ = d }
plain_of-placed n k.Ccx (a ∷ c ∷ t ∷ []) b d = record { below = b; differ = d }
plain_of-placed n _ _ b d = tt

gate_placed : (s : State) (name : Token) (ts : List Token) (kind : Kind) → gate_refusals s name ts ≡ []
    → IfSome (plain_of kind (all_named s.qubits (operands ts))) (IsPlaced (width s.qubits))
gate_placed s name ts kind e =
    plain_of-placed (width s.qubits) kind (all_named s.qubits (operands ts)) (all_below s.qubits (operands ts))
    (all_differ s.qubits [] (operands ts) (right_none (where_ (not s.included) _) _ e))

plain_accepted : (s : State) (o : Option PlainGate) → IfSome o (IsPlaced (width s.qubits)) → MayAdd s (option_map as_gate o)
plain_accepted s None h = tt
plain_accepted s (Some (PlainOne one q)) h = record {
  fits = record { qubits_in_range = h.below; qubits_differ = h.differ; bits_in_range = tt };
  measures_new = tt;
}
plain_accepted s (Some (PlainCx c t)) h = record {
  fits = record { qubits_in_range = h.below; qubits_differ = h.differ; bits_in_range = tt };
  measures_new = tt;
}
plain_accepted s (Some (PlainCz c t)) h = record {
  fits = record { qubits_in_range = h.below; qubits_differ = h.differ; bits_in_range = tt };
  measures_new = tt;
}
plain_accepted s (Some (PlainCcx a b t)) h = record {
  fits = record { qubits_in_range = h.below; qubits_differ = h.differ; bits_in_range = tt };
  measures_new = tt;
}

plain_by : (s : State) (first : Token) (ts : List Token) (kind : Kind) → refusals_by s true first ts kind ≡ []
    → MayAdd s (option_map as_gate (plain_of kind (all_named s.qubits (operands ts))))
plain_by s first ts (k.One one) e = plain_accepted s _ (gate_placed s first ts (k.One one) (left_none (gate_refusals s first ts) _ e))
plain_by s first ts k.Cx e = plain_accepted s _ (gate_placed s first ts k.Cx (left_none (gate_refusals s first ts) _ e))
plain_by s first ts k.Cz e = plain_accepted s _ (gate_placed s first ts k.Cz (left_none (gate_refusals s first ts) _ e))
plain_by s first ts k.Ccx e = plain_accepted s _ (gate_placed s first ts k.Ccx (left_none (gate_refusals s first ts) _ e))
plain_by s first ts _ e = tt

pub accepts_plain : (s : State) (first : Token) (ts : List Token) → refusals_of s true (first ∷ ts) ≡ []
    → MayAdd s (option_map as_gate (plain_in s (first ∷ ts)))
accepts_plain s first ts e = plain_by s first ts first.kind e

-- ---- measures

not_measured : (bs : List ℕ) (c : ℕ) → is_among (all_some bs) (Some c) ≡ false → ¬ Contains bs c
not_measured bs c e h = go bs e h.0 h.1 h.2
  where
    go : (bs : List ℕ) → is_among (all_some bs) (Some c) ≡ false → (i : ℕ) → i < length bs → get_or bs i c ≡ c → ⊥
    go [] e i l h = omega (arith, l)
    go (b ∷ bs) e zero l h = true≢false (sym (eq-eqb b c h) ∙ (or_parts (b == c) (is_among (all_some bs) (Some c)) e).0)
    go (b ∷ bs) e (suc i) l h = go bs (or_parts (b == c) (is_among (all_some bs) (Some c)) e).1 i (omega (arith, l)) h

measure_from-accepted : (s : State) (x y : Option ℕ) → IfSome x (λ q. q < width s.qubits) → IfSome y (λ c. c < width s.bits)
    → is_among (measured s) y ≡ false → MayAdd s (measure_from x y)
measure_from-accepted s None y a b e = tt
measure_from-accepted s (Some q) None a b e = tt
measure_from-accepted s (Some q) (Some c) a b e = record {
  fits = record { qubits_in_range = (a, tt); qubits_differ = (tt, tt); bits_in_range = (b, tt) };
  measures_new = not_measured (measured_bits s.gates) c e;
}

measure_accepted : (s : State) (first : Token) (os : List Operand) → measure_refusals s first os ≡ [] → MayAdd s (measure_of s os)
measure_accepted s first [] e = tt
measure_accepted s first (q ∷ []) e = tt
measure_accepted s first (q ∷ c ∷ []) e =
    measure_from-accepted s (bit_named s.qubits q) (bit_named s.bits c) (named_below s.qubits q) (named_below s.bits c)
    (none_where (is_among (measured s) (bit_named s.bits c)) _ (right_none (operand_refusals s.bits c) _ (right_none (operand_refusals s.qubits q) _ e)))
measure_accepted s first (q ∷ c ∷ o ∷ os) e = tt

pub accepts_measure : (s : State) (first : Token) (ts : List Token) → first.kind ≡ k.Measure → refusals_of s true (first ∷ ts) ≡ []
    → MayAdd s (measure_of s (operands ts))
accepts_measure s first ts m e =
    let all : refusals_by s true first ts k.Measure ≡ [] = ap (λ (kind : Kind). refusals_by s true first ts kind) (sym m) ∙ e in
    measure_accepted s first (operands ts) (left_none (measure_refusals s first (operands ts)) _ all)

-- ---- statements under `if`

wide_below : (n : ℕ) (first name : Token) (o : Option Bits) → IfSome o (λ b. b.first + b.size ≤ n) → wide_refusals first name o ≡ []
    → IfSome o (λ b. b.first < n)
wide_below n first name None h e = tt
wide_below n first name (Some b) h e =
    let one : b.size ≡ 1 = eqb-true b.size 1 (not-false (b.size == 1) (none_where (not (b.size == 1)) _ e)) in omega (arith, h, one)

condition_below : (s : State) (first : Token) (x : Option Token) → condition_refusals s first x ≡ [] → IfSome (bits_named s x) (λ b. b.first < width s.bits)
condition_below s first None e = tt
condition_below s first (Some name) e = wide_below (width s.bits) first name (bits_of s.bits name.text) (bits_below s.bits name.text) e

held_by-placed : (s : State) (first t : Token) (ts : List Token) (kind : Kind) → held_by s first t ts kind ≡ []
    → IfSome (plain_of kind (all_named s.qubits (operands ts))) (IsPlaced (width s.qubits))
held_by-placed s first t ts (k.One one) e = gate_placed s t ts (k.One one) e
held_by-placed s first t ts k.Cx e = gate_placed s t ts k.Cx e
held_by-placed s first t ts k.Cz e = gate_placed s t ts k.Cz e
held_by-placed s first t ts k.Ccx e = gate_placed s t ts k.Ccx e
held_by-placed s first t ts _ e = tt

held_placed : (s : State) (first : Token) (ts : List Token) → held_refusals s first ts ≡ [] → IfSome (plain_in s ts) (IsPlaced (width s.qubits))
held_placed s first [] e = tt
held_placed s first (t ∷ ts) e = held_by-placed s first t ts t.kind e

if_from-accepted : (s : State) (b : Option Bits) (v : Option ℕ) (g : Option PlainGate) → IfSome b (λ b. b.first < width s.bits)
    → IfSome g (IsPlaced (width s.qubits)) → MayAdd s (if_from b v g)
if_from-accepted s (Some b) (Some v) (Some g) l h = record {
  fits = record { qubits_in_range = h.below; qubits_differ = h.differ; bits_in_range = (l, tt) };
  measures_new = tt;
}
if_from-accepted s _ _ _ l h = tt

if_accepted : (s : State) (first : Token) (ts : List Token) → if_refusals s first ts ≡ [] → MayAdd s (if_of s ts)
if_accepted s first ts e =
    if_from-accepted s (bits_named s (slice_get ts 1)) (value_of (slice_get ts 3)) (plain_in s (drop 5 ts))
    (condition_below s first (slice_get ts 1) (left_none (condition_refusals s first (slice_get ts 1)) _ e))
    (held_placed s first (drop 5 ts) (right_none (condition_refusals s first (slice_get ts 1)) _ e))

pub accepts_if : (s : State) (first : Token) (ts : List Token) → first.kind ≡ k.If → refusals_of s true (first ∷ ts) ≡ [] → MayAdd s (if_of s ts)
accepts_if s first ts m e =
    let all : refusals_by s true first ts k.If ≡ [] = ap (λ (kind : Kind). refusals_by s true first ts kind) (sym m) ∙ e in
    if_accepted s first ts (left_none (if_refusals s first ts) _ all)

-- ---- the tokens of the program

pub allowed_plain : (s : State) (ts : List ReadToken) (d : ReadToken) → 1 ≤ length ts → refusals_of s true (tokens_of ts) ≡ []
    → MayAdd s (gate_behind s (get_or ts 0 d).kind (tokens_of (take (length ts - 1) (drop 1 ts))))
allowed_plain s [] d l e = absurd (omega arith)
allowed_plain s (t ∷ ts) d l e = rw (behind_first 1 (t ∷ ts)) (accepts_plain s (token_of t) (tokens_of ts) e)

pub allowed_measure : (s : State) (ts : List ReadToken) (d : ReadToken) → 1 ≤ length ts → (get_or ts 0 d).kind ≡ k.Measure
    → refusals_of s true (tokens_of ts) ≡ [] → MayAdd s (measure_of s (operands (tokens_of (take (length ts - 1) (drop 1 ts)))))
allowed_measure s [] d l m e = absurd (omega arith)
allowed_measure s (t ∷ ts) d l m e = rw (behind_first 1 (t ∷ ts)) (accepts_measure s (token_of t) (tokens_of ts) m e)

pub allowed_if : (s : State) (ts : List ReadToken) (d : ReadToken) → 1 ≤ length ts → (get_or ts 0 d).kind ≡ k.If → refusals_of s true (tokens_of ts) ≡ []
    → MayAdd s (if_of s (tokens_of (take (length ts - 1) (drop 1 ts))))
allowed_if s [] d l m e = absurd (omega arith)
allowed_if s (t ∷ ts) d l m e = rw (behind_first 1 (t ∷ ts)) (accepts_if s (token_of t) (tokens_of ts) m e)
