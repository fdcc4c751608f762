-- The tokens of an item, one by one.
use Rattle.std.proofs.Common.{◌≡◌, ℕ, true, ◌-◌, ◌<◌, ◌≤◌, List, [], ◌∷◌, length, drop, take, get_or, refl, sym, ◌∙◌, ap, arith, length-drop}
use Rattle.std.proofs.Math.Seq.{take-length}
use Rattle.std.specs.Prelude.{Option, Some, None, filter_map}
use Rattle.std.specs.Str.{chars}
use Rattle.gate_core.specs.declared.gate.Gate.{Gate}
use Rattle.gate_core.specs.declared.gate.PlainGate.{PlainGate}
use Rattle.qasm_tokens.specs.declared.token.Token.{Token as ReadToken}
use Rattle.qasm_tokens.specs.Cursors.{token_of}
use Rattle.qasm_read.specs.declared.registers.Bits.{Bits}
use Rattle.qasm_read.specs.Registers.{bits_of}
use Rattle.qasm_read.specs.State.{State}
use Rattle.qasm_tokens.specs.declared.kind.Kind.{Kind}
use Rattle.qasm_tokens.specs.declared.kind.Kind.TheVariants as k
use Rattle.qasm_read.specs.Refusals.{operands, bit_named, refusals_of, refusals_by}
use Rattle.qasm_read.specs.Declarations.{MayDeclare}
use Rattle.qasm_read.proofs.Allowed.{may_declare_qubits, may_declare_bits}
use Rattle.qasm_read.specs.Read.{tokens_of}
use Rattle.qasm_read.specs.Statements.{plain_of, if_from, value_of, if_of, after, after_by}

-- what stands behind the first n
pub behind_first : {X : Type 0} (n : ℕ) (xs : List X) → take (length xs - n) (drop n xs) ≡ drop n xs
behind_first n xs = ap (λ k. take k (drop n xs)) (sym (length-drop n xs)) ∙ take-length (drop n xs)

none_from : (b : Option Bits) (v : Option ℕ) → if_from b v None ≡ None
none_from None v = refl
none_from (Some b) None = refl
none_from (Some b) (Some v) = refl

pub if_of-short : (s : State) (ts : List ReadToken) → length ts < 6 → if_of s (tokens_of ts) ≡ None
if_of-short s [] l = refl
if_of-short s (a ∷ []) l = refl
if_of-short s (a ∷ b ∷ []) l = none_from _ _
if_of-short s (a ∷ b ∷ c ∷ []) l = none_from _ _
if_of-short s (a ∷ b ∷ c ∷ d ∷ []) l = none_from _ _
if_of-short s (a ∷ b ∷ c ∷ d ∷ e ∷ []) l = none_from _ _
if_of-short s (a ∷ b ∷ c ∷ d ∷ e ∷ f ∷ ts) l = absurd (omega arith)

pub if_of-long : (s : State) (ts : List ReadToken) (x y z : ReadToken) → 6 ≤ length ts → if_of s (tokens_of ts)
    ≡ if_from (bits_of s.bits (chars (get_or ts 1 x).text.now)) (value_of (Some (token_of (get_or ts 3 y))))
    (plain_of (get_or ts 5 z).kind (filter_map (λ o. bit_named s.qubits o) (operands (tokens_of (drop 6 ts)))))
if_of-long s (a ∷ b ∷ c ∷ d ∷ e ∷ f ∷ ts) x y z l = refl
if_of-long s [] x y z l = absurd (omega arith)
if_of-long s (a ∷ []) x y z l = absurd (omega arith)
if_of-long s (a ∷ b ∷ []) x y z l = absurd (omega arith)
if_of-long s (a ∷ b ∷ c ∷ []) x y z l = absurd (omega arith)
if_of-long s (a ∷ b ∷ c ∷ d ∷ []) x y z l = absurd (omega arith)
if_of-long s (a ∷ b ∷ c ∷ d ∷ e ∷ []) x y z l = absurd (omega arith)

pub if_of-read : (s : State) (ts : List ReadToken) (x y z : ReadToken) (b : Option Bits) (v : Option ℕ) (g : Option PlainGate) (r : Option Gate) → 6 ≤ length ts → r ≡ if_from b v g
    → b ≡ bits_of s.bits (chars (get_or ts 1 x).text.now) → v ≡ value_of (Some (token_of (get_or ts 3 y)))
    → g ≡ plain_of (get_or ts 5 z).kind (filter_map (λ o. bit_named s.qubits o) (operands (tokens_of (take (length ts - 6) (drop 6 ts)))))
    → r ≡ if_of s (tokens_of ts)
if_of-read s ts x y z b v g r l e eb ev eg =
    let tail : g ≡ plain_of (get_or ts 5 z).kind (filter_map (λ o. bit_named s.qubits o) (operands (tokens_of (drop 6 ts)))) =
    eg ∙ ap (λ (rest : List ReadToken). plain_of (get_or ts 5 z).kind (filter_map (λ o. bit_named s.qubits o) (operands (tokens_of rest)))) (behind_first 6 ts) in
    e ∙ (ap (λ (c : Option Bits). if_from c v g) eb
    ∙ (ap (λ (w : Option ℕ). if_from (bits_of s.bits (chars (get_or ts 1 x).text.now)) w g) ev
    ∙ (ap (λ (h : Option PlainGate). if_from (bits_of s.bits (chars (get_or ts 1 x).text.now)) (value_of (Some (token_of (get_or ts 3 y)))) h) tail
    ∙ sym (if_of-long s ts x y z l))))

pub allowed_qubits : (s : State) (ts : List ReadToken) (d : ReadToken) → 1 ≤ length ts → (get_or ts 0 d).kind ≡ k.Qreg → refusals_of s true (tokens_of ts) ≡ []
    → MayDeclare s.qubits (operands (tokens_of (take (length ts - 1) (drop 1 ts))))
allowed_qubits s [] d l e r = absurd (omega arith)
allowed_qubits s (t ∷ ts) d l e r =
    rw (behind_first 1 (t ∷ ts))
    (may_declare_qubits s (token_of t) (operands (tokens_of ts)) (ap (λ (kind : Kind). refusals_by s true (token_of t) (tokens_of ts) kind) (sym e) ∙ r))

pub allowed_bits : (s : State) (ts : List ReadToken) (d : ReadToken) → 1 ≤ length ts → (get_or ts 0 d).kind ≡ k.Creg → refusals_of s true (tokens_of ts) ≡ []
    → MayDeclare s.bits (operands (tokens_of (take (length ts - 1) (drop 1 ts))))
allowed_bits s [] d l e r = absurd (omega arith)
allowed_bits s (t ∷ ts) d l e r =
    rw (behind_first 1 (t ∷ ts))
    (may_declare_bits s (token_of t) (operands (tokens_of ts)) (ap (λ (kind : Kind). refusals_by s true (token_of t) (tokens_of ts) kind) (sym e) ∙ r))

-- what an item does, by its first token's kind
pub after_first : (s : State) (ts : List ReadToken) (d : ReadToken) (kind : Kind) → 1 ≤ length ts → (get_or ts 0 d).kind ≡ kind
    → after s (tokens_of ts) ≡ after_by s (token_of (get_or ts 0 d)) (tokens_of (take (length ts - 1) (drop 1 ts))) kind
after_first s [] d kind l e = absurd (omega arith)
after_first s (t ∷ ts) d kind l e =
    ap (λ (x : Kind). after_by s (token_of t) (tokens_of ts) x) e ∙ ap (λ (rest : List ReadToken). after_by s (token_of t) (tokens_of rest) kind) (sym (behind_first 1 (t ∷ ts)))
