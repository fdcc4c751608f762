-- The qubits that comment lines name differ, and are qubits of the circuit.
use Rattle.std.proofs.Common.{◌≡◌, ◌≢◌, ℕ, ◌+◌, ◌<◌, ◌≤◌, Bool, true, false, ◌||◌, not, refl, sym, ◌∙◌, ap, subst, arith}
use Rattle.std.proofs.Common.{List, [], ◌∷◌, ◌++◌, append_assoc, append-nil, Result, Ok, Err, IfOk}
use Rattle.std.specs.Prelude.{Option, Some, None, IfSome, option_and_then, flat_map, nat_lt, ◌==◌, if◌then◌else◌, chars, codes, length}
use Rattle.std.specs.List.{list_any}
use Rattle.std.proofs.lemmas.Bool.{and_parts, true≢false, eq-eqb}
use Rattle.std.proofs.lemmas.List.Sums.{sum_by-append}
use Rattle.silq_lex.specs.declared.token.Place.{Place}
use Rattle.gate_core.specs.declared.gate.Gate.{Gate}
use Rattle.gate_core.specs.Local.{Absent, AllBelow, AllDiffer}
use Rattle.gate_core.specs.Meaning.{joined}
use Rattle.qasm_tokens.specs.declared.kind.Kind.{Kind}
use Rattle.qasm_tokens.specs.declared.kind.Kind.TheVariants as k
use Rattle.qasm_tokens.specs.Tokens.{Token}
use Rattle.qasm_tokens.specs.Items.{Item}
use Rattle.qasm_read.specs.declared.fault.QasmFault.{QasmFault}
use Rattle.qasm_read.specs.declared.refusal.Refusal.{Refusal}
use Rattle.qasm_read.specs.Registers.{Register, bit_of, width}
use Rattle.qasm_read.specs.State.{State, ReadForm, at_start}
use Rattle.qasm_read.specs.Lines.{add_list, are_new, between_spaces, if_new, is_new, named_by, put, qubit_named, qubits_named, with_line, with_lines}
use Rattle.qasm_read.specs.Refusals.{first_refusal, operands, refusals_of}
use Rattle.qasm_read.specs.Statements.{after, after_by, declared_by, with_gate}
use Rattle.qasm_read.specs.Text.{decide, is_whole, read_chars, read_items, reading, syntax_in}
use Rattle.qasm_read.proofs.Accepted.{bit_of_below}

-- ---- lists whose qubits differ and are in range

pub record AreSound (n : ℕ) (lists : List (List ℕ)) : Type 0 where
  pub differ : AllDiffer (joined lists)
  pub below : AllBelow n (joined lists)

all_wider : (m n : ℕ) (qs : List ℕ) → m ≤ n → AllBelow m qs → AllBelow n qs
all_wider m n [] l h = tt
all_wider m n (q ∷ qs) l h = (let k = h.0 in omega (arith, k, l), all_wider m n qs l h.1)

below_append : (n : ℕ) (xs ys : List ℕ) → AllBelow n xs → AllBelow n ys → AllBelow n (xs ++ ys)
below_append n [] ys h g = g
below_append n (x ∷ xs) ys h g = (h.0, below_append n xs ys h.1 g)

sound_wider : (m n : ℕ) (lists : List (List ℕ)) → m ≤ n → AreSound m lists → AreSound n lists
sound_wider m n lists l h = record { differ = h.differ; below = all_wider m n (joined lists) l h.below }

joined_push : (lists : List (List ℕ)) (qs : List ℕ) → joined (lists ++ qs ∷ []) ≡ joined lists ++ qs
joined_push [] qs = append-nil qs
joined_push (l ∷ lists) qs = ap (λ (more : List ℕ). l ++ more) (joined_push lists qs) ∙ sym (append_assoc l (joined lists) qs)

flat_joined : (lists : List (List ℕ)) → flat_map (λ l. l) lists ≡ joined lists
flat_joined [] = refl
flat_joined (l ∷ lists) = ap (λ (more : List ℕ). l ++ more) (flat_joined lists)

-- ---- new qubits differ

absent_insert : (p q : ℕ) (xs ys : List ℕ) → Absent p (xs ++ ys) → q ≢ p → Absent p (xs ++ q ∷ ys)
absent_insert p q [] ys h d = (d, h)
absent_insert p q (x ∷ xs) ys h d = (h.0, absent_insert p q xs ys h.1 d)

differ_insert : (q : ℕ) (xs ys : List ℕ) → Absent q (xs ++ ys) → AllDiffer (xs ++ ys) → AllDiffer (xs ++ q ∷ ys)
differ_insert q [] ys a d = (a, d)
differ_insert q (x ∷ xs) ys a d = (absent_insert x q xs ys d.0 (λ e. a.0 (sym e)), differ_insert q xs ys a.1 d.1)

new_absent : (seen : List ℕ) (q : ℕ) → is_new seen q ≡ true → Absent q seen
new_absent [] q e = tt
new_absent (p ∷ seen) q e = go (λ n. new_absent seen q n) (p == q) refl (list_any (λ (x : ℕ). x == q) seen) refl e
  where
    go : (is_new seen q ≡ true → Absent q seen) → (b : Bool) → (p == q) ≡ b → (c : Bool) → list_any (λ (x : ℕ). x == q) seen ≡ c → not (b || c) ≡ true
        → Absent q (p ∷ seen)
    go rest true f c g n = absurd (cc)
    go rest false f true g n = absurd (cc)
    go rest false f false g n = ((λ same. true≢false (sym (eq-eqb p q same) ∙ f)), rest (ap not g))

new_differ : (seen qs : List ℕ) → are_new seen qs ≡ true → AllDiffer seen → AllDiffer (seen ++ qs)
new_differ seen [] e d = subst AllDiffer (sym (append-nil seen)) d
new_differ seen (q ∷ qs) e d =
    let both = and_parts (is_new seen q) (are_new (q ∷ seen) qs) e in
    let all : AllDiffer ((q ∷ seen) ++ qs) = new_differ (q ∷ seen) qs both.1 (new_absent seen q both.0, d) in
    differ_insert q seen qs all.0 all.1

sound_push : (n : ℕ) (lists : List (List ℕ)) (qs : List ℕ) → AreSound n lists → AllBelow n qs → are_new (flat_map (λ l. l) lists) qs ≡ true
    → AreSound n (lists ++ qs ∷ [])
sound_push n lists qs h l e = record {
  differ = subst AllDiffer (sym (joined_push lists qs)) (new_differ (joined lists) qs (subst (λ seen. are_new seen qs ≡ true) (flat_joined lists) e) h.differ);
  below = subst (AllBelow n) (sym (joined_push lists qs)) (below_append n (joined lists) qs h.below l);
}

-- ---- what a line names

named_below : (rs : List Register) (text : List ℕ) → IfSome (qubit_named rs text) (λ q. q < width rs)
named_below rs text = by _ _
  where
    by : (name : List ℕ) (o : Option ℕ) → IfSome (option_and_then (λ i. bit_of rs name i) o) (λ q. q < width rs)
    by name None = tt
    by name (Some i) = bit_of_below rs name i

put_below : (n : ℕ) (q : Option ℕ) (qs : Option (List ℕ)) → IfSome q (λ p. p < n) → IfSome qs (AllBelow n) → IfSome (put q qs) (AllBelow n)
put_below n None qs h g = tt
put_below n (Some q) None h g = tt
put_below n (Some q) (Some qs) h g = (h, g)

all_named_below : (rs : List Register) (texts : List (List ℕ)) → IfSome (qubits_named rs texts) (AllBelow (width rs))
all_named_below rs [] = tt
all_named_below rs (text ∷ texts) = put_below (width rs) (qubit_named rs text) (qubits_named rs texts) (named_below rs text) (all_named_below rs texts)

module _ (n : ℕ) (lists : List (List ℕ)) (h : AreSound n lists) where
  if_new_sound : (qs : List ℕ) → AllBelow n qs → AreSound n (add_list lists (if_new lists qs))
  if_new_sound qs l = go (are_new (flat_map (λ l. l) lists) qs) refl
    where
      go : (b : Bool) → are_new (flat_map (λ l. l) lists) qs ≡ b → AreSound n (add_list lists (if b then Some qs else None))
      go true e = sound_push n lists qs h l e
      go false e = h

  found_sound : (found : Option (List ℕ)) → IfSome found (AllBelow n) → AreSound n (add_list lists (option_and_then (λ qs. if_new lists qs) found))
  found_sound None l = h
  found_sound (Some qs) l = if_new_sound qs l

  where_sound : (b : Bool) (found : Option (List ℕ)) → IfSome found (AllBelow n)
      → AreSound n (add_list lists (if b then option_and_then (λ qs. if_new lists qs) found else None))
  where_sound true found l = found_sound found l
  where_sound false found l = h

line_sound : (rs : List Register) (kind : List ℕ) (lists words : List (List ℕ)) → AreSound (width rs) lists
    → AreSound (width rs) (add_list lists (named_by rs kind lists words))
line_sound rs kind lists [] h = h
line_sound rs kind lists (a ∷ []) h = h
line_sound rs kind lists (a ∷ b ∷ []) h = h
line_sound rs kind lists (a ∷ b ∷ c ∷ []) h = h
line_sound rs kind lists (a ∷ b ∷ c ∷ d ∷ []) h = h
line_sound rs kind lists (a ∷ b ∷ c ∷ d ∷ first ∷ more) h = where_sound (width rs) lists h _ (qubits_named rs (first ∷ more)) (all_named_below rs (first ∷ more))

-- ---- states

record HasSound (s : State) : Type 0 where
  ins : AreSound (width s.qubits) s.ins
  outs : AreSound (width s.qubits) s.outs

with_line_sound : (s : State) (text : List ℕ) → HasSound s → HasSound (with_line s text)
with_line_sound s text h = record {
  ins = line_sound s.qubits (codes "in") s.ins (between_spaces text) h.ins;
  outs = line_sound s.qubits (codes "out") s.outs (between_spaces text) h.outs;
}

with_lines_sound : (s : State) (texts : List (List ℕ)) → HasSound s → HasSound (with_lines s texts)
with_lines_sound s [] h = h
with_lines_sound s (text ∷ texts) h = with_lines_sound (with_line s text) texts (with_line_sound s text h)

with_gate_sound : (s : State) (gate : Option Gate) → HasSound s → HasSound (with_gate s gate)
with_gate_sound s None h = h
with_gate_sound s (Some g) h = record { ins = h.ins; outs = h.outs }

more_qubits_sound : (s : State) (more : List Register) → HasSound s → HasSound (record s { qubits = s.qubits ++ more })
more_qubits_sound s more h =
    let w : width (s.qubits ++ more) ≡ width s.qubits + width more = sum_by-append (λ (r : Register). r.size) s.qubits more in
    let l : width s.qubits ≤ width (s.qubits ++ more) = omega (arith, w) in
    record { ins = sound_wider _ _ s.ins l h.ins; outs = sound_wider _ _ s.outs l h.outs }

after_by_sound : (s : State) (first : Token) (ts : List Token) (kind : Kind) → HasSound s → HasSound (after_by s first ts kind)
after_by_sound s first ts k.Include h = record { ins = h.ins; outs = h.outs }
after_by_sound s first ts k.Qreg h = more_qubits_sound s (declared_by (operands ts)) h
after_by_sound s first ts k.Creg h = record { ins = h.ins; outs = h.outs }
after_by_sound s first ts k.Measure h = with_gate_sound s _ h
after_by_sound s first ts k.If h = with_gate_sound s _ h
after_by_sound s first ts (k.One one) h = with_gate_sound s _ h
after_by_sound s first ts k.Cx h = with_gate_sound s _ h
after_by_sound s first ts k.Cz h = with_gate_sound s _ h
after_by_sound s first ts k.Ccx h = with_gate_sound s _ h
after_by_sound s first ts _ h = h

after_sound : (s : State) (ts : List Token) → HasSound s → HasSound (after s ts)
after_sound s [] h = h
after_sound s (first ∷ ts) h = after_by_sound s first ts first.kind h

-- ---- a text

pub record FormIsSound (f : ReadForm) : Type 0 where
  pub ins : AreSound f.circuit.qubits f.ins
  pub outs : AreSound f.circuit.qubits f.outs

decided : (r : Option Refusal) (rest : Result ReadForm QasmFault) → IfOk rest FormIsSound → IfOk (decide r (λ b. rest)) FormIsSound
decided None rest h = h
decided (Some r) rest h = tt

items_sound : (broken : Option Place) (s : State) (is : List Item) → HasSound s → IfOk (read_items broken s is) FormIsSound
unfolding read_items
items_sound broken s [] h = record { ins = h.ins; outs = h.outs }
items_sound broken s (i ∷ is) h =
    decided (first_refusal (refusals_of (with_lines s i.lines) (is_whole broken is) i.tokens ++ syntax_in broken is)) _
    (items_sound broken (after (with_lines s i.lines) i.tokens) is (after_sound (with_lines s i.lines) i.tokens (with_lines_sound s i.lines h)))

start_sound : HasSound at_start
start_sound = record { ins = record { differ = tt; below = tt }; outs = record { differ = tt; below = tt } }

limited : (b : Bool) (f : QasmFault) (rest : Result ReadForm QasmFault) → IfOk rest FormIsSound → IfOk (if b then Err f else rest) FormIsSound
limited true f rest h = tt
limited false f rest h = h

-- what a text spells has lists whose qubits differ and are in range
reading_sound : (text : List ℕ) → IfOk (reading text) FormIsSound
reading_sound text = limited (nat_lt 268435456 (length text)) _ (read_chars (chars text)) (items_sound _ at_start _ start_sound)

pub read_sound : (text : List ℕ) (f : ReadForm) → reading text ≡ Ok f → FormIsSound f
read_sound text f e = subst (λ r. IfOk r FormIsSound) e (reading_sound text)
