-- The statements of a written text are not refused, and are read as what they are.
use Rattle.std.proofs.Common.{◌≡◌, ℕ, ◌<◌, ◌^◌, true, false, List, [], ◌∷◌, ◌++◌, Some, decimal, length, refl, ◌∙◌, ap, arith, lt-ltb}
use Rattle.std.specs.Prelude.{codes, option_map}
use Rattle.silq_lex.specs.declared.token.Place.{Place}
use Rattle.silq_lex.specs.Kinds.{number_of}
use Rattle.silq_lex.specs.Tokens.{behind_all}
use Rattle.gate_core.specs.declared.gate.PlainGate.{PlainGate}
use Rattle.gate_core.specs.declared.gate.PlainGate.TheVariants.{One as PlainOne, Cx as PlainCx, Cz as PlainCz, Ccx as PlainCcx}
use Rattle.gate_core.specs.declared.gate.Gate.{Gate}
use Rattle.gate_core.specs.declared.gate.Gate.TheVariants.{Measure, If}
use Rattle.gate_core.specs.Local.{Absent, AllDiffer, AllBelow, gate_qubits, as_gate}
use Rattle.gate_core.specs.Circuit.{measured_bits}
use Rattle.qasm_write.specs.Written.{kind_text}
use Rattle.qasm_tokens.specs.declared.kind.Kind.{Kind}
use Rattle.qasm_tokens.specs.declared.kind.Kind.TheVariants as k
use Rattle.qasm_tokens.specs.Words.{piece}
use Rattle.qasm_tokens.specs.Tokens.{Token}
use Rattle.qasm_read.specs.declared.refusal.Refusal.{Refusal}
use Rattle.qasm_read.specs.Registers.{bits_of}
use Rattle.qasm_read.specs.State.{State}
use Rattle.qasm_read.specs.Refusals.{Operand, bit_named, gate_refusals, held_refusals, is_among, all_some, refusals_of, count_refusals}
use Rattle.qasm_read.specs.Statements.{plain_of, plain_in, with_gate, measure_from, if_from, after}
use Rattle.read_laws.proofs.Decimals.{value_of}
use Rattle.read_laws.proofs.Parts.{Part, space, word, part_text, tokens_at, number, bit_name, bit_part}
use Rattle.read_laws.proofs.Lines.{IsItem, items}
use Rattle.read_laws.proofs.Registers.{qubit_name, qubit_registers, bit_registers, bit_is}
use Rattle.read_laws.proofs.GateParts.{left, comma, qubit_word, qubit_parts, plain_parts, measure_parts, if_parts, plain_stands, plain_grammar, plain_whole, measure_stands, measure_grammar, if_stands, if_grammar, if_whole}
use Rattle.read_laws.proofs.Operands.{no_refusals, where_no, Names, indexed, qubit_names, bit_names, other_bit, one_allowed, two_allowed, three_allowed, one_named, two_named, three_named}

-- the state behind the head of a text, with so many qubits and bits
abbrev pub state_of : ℕ → ℕ → List Gate → List (List ℕ) → List (List ℕ) → State
state_of n b gates ins outs =
    record { included = true; qubits = qubit_registers n; bits = bit_registers 0 b; gates = gates; ins = ins; outs = outs }

-- the place behind parts
abbrev pub behind_parts : Place → List Part → Place
behind_parts at [] = at
behind_parts at (p ∷ ps) = behind_parts (behind_all at (part_text p)) ps

abbrev pub operand_at : Place → ℕ → Operand
operand_at at i = indexed qubit_name at (behind_parts at (qubit_word ∷ left ∷ [])) (decimal i)

abbrev pub behind_qubit : Place → ℕ → Place
behind_qubit at i = behind_parts at (qubit_parts i [])

-- ---- gates

abbrev pub refusals_in : State → List Token → List Refusal
refusals_in s [] = []
refusals_in s (t ∷ ts) = gate_refusals s t ts

-- the tokens are this gate
pub record IsPlainIn (s : State) (g : PlainGate) (ts : List Token) : Type 0 where
  pub allowed : refusals_in s ts ≡ []
  pub spelled : plain_in s ts ≡ Some g

abbrev token_of : Kind → List ℕ → Place → Token
token_of kind text at = record { kind = kind; text = text; at = at }

count_none : (s : State) (first : Token) → length s.gates < 6000000 → count_refusals s true first ≡ []
count_none s first h = where_no _ _ (rw (lt-ltb (length s.gates) 6000000 h) refl)

module _ (n b : ℕ) (gates : List Gate) (ins outs : List (List ℕ)) (few : n < 2 ^ 32) where
  abbrev here : State
  here = state_of n b gates ins outs

  name_at : (at : Place) (i : ℕ) → i < n → Names (qubit_registers n) (operand_at at i) i
  name_at at i h = qubit_names n i at (behind_parts at (qubit_word ∷ left ∷ [])) h (omega arith)

  pub plain_is : (g : PlainGate) (at : Place) → AllBelow n (gate_qubits g) → AllDiffer (gate_qubits g) → IsPlainIn here g (tokens_at at (plain_parts g))
  plain_is (PlainOne kind q) at h d =
      let p : Place = behind_parts at (word (piece (k.One kind) (kind_text kind)) ∷ space ∷ []) in
      record {
        allowed = one_allowed (qubit_registers n) (operand_at p q) q (name_at p q h.0);
        spelled = ap (plain_of (k.One kind)) (one_named (qubit_registers n) (operand_at p q) q (name_at p q h.0));
      }
  plain_is (PlainCx c t) at h d =
      let p : Place = behind_parts at (word (piece k.Cx (codes "cx")) ∷ space ∷ []) in
      let r : Place = behind_parts (behind_qubit p c) (comma ∷ []) in
      record {
        allowed = two_allowed (qubit_registers n) (operand_at p c) (operand_at r t) c t (name_at p c h.0) (name_at r t h.1.0) d;
        spelled = ap (plain_of k.Cx) (two_named (qubit_registers n) (operand_at p c) (operand_at r t) c t (name_at p c h.0) (name_at r t h.1.0));
      }
  plain_is (PlainCz c t) at h d =
      let p : Place = behind_parts at (word (piece k.Cz (codes "cz")) ∷ space ∷ []) in
      let r : Place = behind_parts (behind_qubit p c) (comma ∷ []) in
      record {
        allowed = two_allowed (qubit_registers n) (operand_at p c) (operand_at r t) c t (name_at p c h.0) (name_at r t h.1.0) d;
        spelled = ap (plain_of k.Cz) (two_named (qubit_registers n) (operand_at p c) (operand_at r t) c t (name_at p c h.0) (name_at r t h.1.0));
      }
  plain_is (PlainCcx a c t) at h d =
      let p : Place = behind_parts at (word (piece k.Ccx (codes "ccx")) ∷ space ∷ []) in
      let q : Place = behind_parts (behind_qubit p a) (comma ∷ []) in
      let r : Place = behind_parts (behind_qubit q c) (comma ∷ []) in
      record {
        allowed = three_allowed (qubit_registers n) (operand_at p a) (operand_at q c) (operand_at r t) a c t (name_at p a h.0) (name_at q c h.1.0)
            (name_at r t h.1.1.0) d;
        spelled = ap (plain_of k.Ccx)
            (three_named (qubit_registers n) (operand_at p a) (operand_at q c) (operand_at r t) a c t (name_at p a h.0) (name_at q c h.1.0)
            (name_at r t h.1.1.0));
      }

  plain_allowed : (g : PlainGate) (at : Place) → IsPlainIn here g (tokens_at at (plain_parts g)) → length gates < 6000000
      → refusals_of here true (tokens_at at (plain_parts g)) ≡ []
  plain_allowed (PlainOne kind q) at p h = no_refusals _ _ p.allowed (count_none here (token_of (k.One kind) (kind_text kind) at) h)
  plain_allowed (PlainCx c t) at p h = no_refusals _ _ p.allowed (count_none here (token_of k.Cx (codes "cx") at) h)
  plain_allowed (PlainCz c t) at p h = no_refusals _ _ p.allowed (count_none here (token_of k.Cz (codes "cz") at) h)
  plain_allowed (PlainCcx a c t) at p h = no_refusals _ _ p.allowed (count_none here (token_of k.Ccx (codes "ccx") at) h)

  plain_after : (g : PlainGate) (at : Place)
      → after here (tokens_at at (plain_parts g)) ≡ with_gate here (option_map as_gate (plain_in here (tokens_at at (plain_parts g))))
  plain_after (PlainOne kind q) at = refl
  plain_after (PlainCx c t) at = refl
  plain_after (PlainCz c t) at = refl
  plain_after (PlainCcx a c t) at = refl

  pub below_all : (qs : List ℕ) → AllBelow n qs → AllBelow (2 ^ 32) qs
  below_all [] h = tt
  below_all (q ∷ qs) h = (let l : q < n = h.0 in omega arith, below_all qs h.1)

  pub plain_item : (g : PlainGate) → AllBelow n (gate_qubits g) → AllDiffer (gate_qubits g) → length gates < 6000000
      → IsItem items here (state_of n b (gates ++ as_gate g ∷ []) ins outs) (plain_parts g)
  plain_item g h d l = record {
    stands = λ rest. plain_stands g (10 ∷ rest) (below_all (gate_qubits g) h);
    grammar = plain_grammar g;
    whole = plain_whole g;
    allowed = λ at. plain_allowed g at (plain_is g at h d) l;
    after_it = λ at. plain_after g at ∙ ap (λ x. with_gate here (option_map as_gate x)) (plain_is g at h d).spelled;
  }

  -- ---- if

  held_is : (first : Token) (g : PlainGate) (at : Place)
      → held_refusals here first (tokens_at at (plain_parts g)) ≡ refusals_in here (tokens_at at (plain_parts g))
  held_is first (PlainOne kind q) at = refl
  held_is first (PlainCx c t) at = refl
  held_is first (PlainCz c t) at = refl
  held_is first (PlainCcx a c t) at = refl

  abbrev if_head : ℕ → ℕ → List Part
  if_head bit value =
      word (piece k.If (codes "if")) ∷ space ∷ word (piece k.LeftParen (40 ∷ [])) ∷ bit_part bit ∷ word (piece k.Equal (codes "==")) ∷ number value
      ∷ word (piece k.RightParen (41 ∷ [])) ∷ space ∷ []

  if_allowed : (bit value : ℕ) (g : PlainGate) (at : Place) → bits_of (bit_registers 0 b) (bit_name bit) ≡ Some (record { first = bit; size = 1 })
      → IsPlainIn here g (tokens_at (behind_parts at (if_head bit value)) (plain_parts g)) → length gates < 6000000
      → refusals_of here true (tokens_at at (if_parts bit value g)) ≡ []
  if_allowed bit value g at e p h =
      let first : Token = token_of k.If (codes "if") at in
      no_refusals _ _ (no_refusals _ _ (rw e refl) (held_is first g (behind_parts at (if_head bit value)) ∙ p.allowed)) (count_none here first h)

  if_after : (bit value : ℕ) (g : PlainGate) (at : Place) → bits_of (bit_registers 0 b) (bit_name bit) ≡ Some (record { first = bit; size = 1 })
      → number_of (decimal value) ≡ value → IsPlainIn here g (tokens_at (behind_parts at (if_head bit value)) (plain_parts g))
      → after here (tokens_at at (if_parts bit value g)) ≡ state_of n b (gates ++ If bit value g ∷ []) ins outs
  if_after bit value g at e v p =
      let ts : List Token = tokens_at (behind_parts at (if_head bit value)) (plain_parts g) in
      ap (λ x. with_gate here (if_from x (Some (number_of (decimal value))) (plain_in here ts))) e
      ∙ ap (λ x. with_gate here (if_from (Some (record { first = bit; size = 1 })) (Some x) (plain_in here ts))) v
      ∙ ap (λ x. with_gate here (if_from (Some (record { first = bit; size = 1 })) (Some value) x)) p.spelled

  pub if_item : (bit value : ℕ) (g : PlainGate) → AllBelow n (gate_qubits g) → AllDiffer (gate_qubits g) → bit < b → b < 2 ^ 32 → value < 2 ^ 32
      → length gates < 6000000
      → IsItem items here (state_of n b (gates ++ If bit value g ∷ []) ins outs) (if_parts bit value g)
  if_item bit value g h d m f v l =
      let e : bits_of (bit_registers 0 b) (bit_name bit) ≡ Some (record { first = bit; size = 1 }) = bit_is b bit (omega arith) m in
      record {
        stands = λ rest. if_stands bit value g (10 ∷ rest) (omega arith) v (below_all (gate_qubits g) h);
        grammar = if_grammar bit value g;
        whole = if_whole bit value g;
        allowed = λ at. if_allowed bit value g at e (plain_is g (behind_parts at (if_head bit value)) h d) l;
        after_it = λ at. if_after bit value g at e (value_of value (omega arith)) (plain_is g (behind_parts at (if_head bit value)) h d);
      }

  -- ---- measure

  not_among : (bs : List ℕ) (bit : ℕ) → Absent bit bs → is_among (all_some bs) (Some bit) ≡ false
  not_among [] bit h = refl
  not_among (x ∷ xs) bit h = rw (other_bit x bit h.0) (not_among xs bit h.1)

  abbrev outcome_at : Place → ℕ → ℕ → Operand
  outcome_at at q bit =
      let p : Place = behind_parts (behind_qubit at q) (space ∷ word (piece k.Arrow (codes "->")) ∷ space ∷ []) in
      indexed (bit_name bit) p (behind_parts p (bit_part bit ∷ left ∷ [])) (48 ∷ [])

  measure_allowed : (q bit : ℕ) (at : Place)
      → Names (qubit_registers n) (operand_at (behind_parts at (word (piece k.Measure (codes "measure")) ∷ space ∷ [])) q) q
      → Names (bit_registers 0 b) (outcome_at (behind_parts at (word (piece k.Measure (codes "measure")) ∷ space ∷ [])) q bit) bit
      → Absent bit (measured_bits gates) → length gates < 6000000 → refusals_of here true (tokens_at at (measure_parts q bit)) ≡ []
  measure_allowed q bit at x y f h =
      no_refusals _ _ (no_refusals _ _ x.allowed (no_refusals _ _ y.allowed
      (where_no _ _ (ap (is_among (all_some (measured_bits gates))) y.bit
      ∙ not_among (measured_bits gates) bit f)))) (count_none here (token_of k.Measure (codes "measure") at) h)

  measure_after : (q bit : ℕ) (at : Place)
      → Names (qubit_registers n) (operand_at (behind_parts at (word (piece k.Measure (codes "measure")) ∷ space ∷ [])) q) q
      → Names (bit_registers 0 b) (outcome_at (behind_parts at (word (piece k.Measure (codes "measure")) ∷ space ∷ [])) q bit) bit
      → after here (tokens_at at (measure_parts q bit)) ≡ state_of n b (gates ++ Measure q bit ∷ []) ins outs
  measure_after q bit at x y =
      let p : Place = behind_parts at (word (piece k.Measure (codes "measure")) ∷ space ∷ []) in
      ap (λ z. with_gate here (measure_from z (bit_named (bit_registers 0 b) (outcome_at p q bit)))) x.bit
      ∙ ap (λ z. with_gate here (measure_from (Some q) z)) y.bit

  pub measure_item : (q bit : ℕ) → q < n → bit < b → b < 2 ^ 32 → Absent bit (measured_bits gates) → length gates < 6000000
      → IsItem items here (state_of n b (gates ++ Measure q bit ∷ []) ins outs) (measure_parts q bit)
  measure_item q bit h m f a l =
      let first : Place → Place = λ at. behind_parts at (word (piece k.Measure (codes "measure")) ∷ space ∷ []) in
      let x : (at : Place) → Names (qubit_registers n) (operand_at (first at) q) q = λ at. name_at (first at) q h in
      let y : (at : Place) → Names (bit_registers 0 b) (outcome_at (first at) q bit) bit = λ at. bit_names b bit _ _ m (omega arith) in
      record {
        stands = λ rest. measure_stands q bit (10 ∷ rest) (omega arith) (omega arith);
        grammar = measure_grammar q bit;
        whole = refl;
        allowed = λ at. measure_allowed q bit at (x at) (y at) a l;
        after_it = λ at. measure_after q bit at (x at) (y at);
      }
