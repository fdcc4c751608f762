-- The first refusal of the operands of a gate, one operand after another.
use Rattle.std.proofs.Common.{◌≡◌, ℕ, ◌+◌, ◌<◌, Bool, List, [], ◌∷◌, ◌++◌, length, drop, get_or, refl, sym, ◌∙◌, ap, subst}
use Rattle.std.specs.Prelude.{Option, None}
use Rattle.std.specs.List.{list_any}
use Rattle.std.specs.BTreeSet.{BTreeSet}
use Rattle.std.specs.BTreeMap.{is_at}
use Rattle.std.specs.Ordering.{nat_cmp}
use Rattle.silq_io.specs.declared.fault.SyntaxCause.TheVariants as cause
use Rattle.qasm_read.specs.declared.operand.Operand.{Operand as ReadOperand}
use Rattle.qasm_read.specs.declared.refusal.Refusal.{Refusal}
use Rattle.qasm_read.specs.Registers.{Register}
use Rattle.qasm_read.specs.Refusals.{Operand, bad, bit_named, is_among, operand_refusals, qubit_refusals, where_, first_refusal}
use Rattle.qasm_read.specs.Earlier.{earlier}
use Rattle.qasm_read.specs.Read.{operand_of, operands_of}
use Rattle.qasm_read.specs.Seen.{HasSeen, Sees}
use Rattle.qasm_read.proofs.Barriers.{from_next, drop_all}
use Rattle.qasm_read.proofs.Order.{earlier-none, first_refusal-step}

-- the first refusal and the bits seen, once i operands were told
pub record HaveTold (rs : List Register) (os : List ReadOperand) (first : Option Refusal) (bits : BTreeSet ℕ) (i : ℕ) : Type 0 where
  pub seen : List (Option ℕ)
  pub index : HasSeen seen bits
  pub left : earlier first (first_refusal (qubit_refusals rs seen (operands_of (drop i os)))) ≡ first_refusal (qubit_refusals rs [] (operands_of os))

pub at_first : (rs : List Register) (os : List ReadOperand) (bits : BTreeSet ℕ) → bits.keys ≡ [] → HaveTold rs os None bits 0
at_first rs os bits e = record {
  seen = [];
  index = record { index = λ b. ap (λ (ks : List ℕ). list_any (is_at (nat_cmp b)) ks) e };
  left = refl;
}

pub one_more : (rs : List Register) (os : List ReadOperand) (first here repeated after : Option Refusal) (bit : Option ℕ) (was : Bool)
    (old new : BTreeSet ℕ) (i : ℕ) (d : ReadOperand) → i < length os → bit ≡ bit_named rs (operand_of (get_or os i d)) → Sees old bit was new
    → here ≡ first_refusal (operand_refusals rs (operand_of (get_or os i d)))
    → repeated ≡ first_refusal (where_ was (bad (get_or os i d).name.at cause.Repeated))
    → after ≡ earlier (earlier first here) repeated → HaveTold rs os first old i → HaveTold rs os after new (i + 1)
one_more rs os first here repeated after bit was old new i d l n s eh er ea h =
    let o : Operand = operand_of (get_or os i d) in
    let rest : List Operand = operands_of (drop (i + 1) os) in
    let now : Sees old (bit_named rs o) was new = subst (λ (b : Option ℕ). Sees old b was new) n s in
    let twice : Bool = is_among h.seen (bit_named rs o) in
    let fault : Refusal = bad (get_or os i d).name.at cause.Repeated in
    let behind = where_ twice fault ++ qubit_refusals rs (bit_named rs o ∷ h.seen) rest in
    let all = qubit_refusals rs [] (operands_of os) in
    let start : earlier first (first_refusal (operand_refusals rs o ++ behind)) ≡ first_refusal all =
    ap (λ (left : List ReadOperand). earlier first (first_refusal (qubit_refusals rs h.seen (operands_of left)))) (sym (from_next os i d l)) ∙ h.left in
    let middle : earlier (earlier first here) (first_refusal behind) ≡ first_refusal all =
    first_refusal-step first (earlier first here) (operand_refusals rs o) behind all start (ap (λ (r : Option Refusal). earlier first r) eh) in
    record {
      seen = bit_named rs o ∷ h.seen;
      index = now.added h.seen h.index;
      left = first_refusal-step (earlier first here) after (where_ twice fault) (qubit_refusals rs (bit_named rs o ∷ h.seen) rest) all middle
          (ea ∙ ap (λ (r : Option Refusal). earlier (earlier first here) r)
          (er ∙ ap (λ (b : Bool). first_refusal (where_ b fault)) (now.among h.seen h.index)));
    }

pub at_end : (rs : List Register) (os : List ReadOperand) (first : Option Refusal) (bits : BTreeSet ℕ) → HaveTold rs os first bits (length os)
    → first ≡ first_refusal (qubit_refusals rs [] (operands_of os))
at_end rs os first bits h =
    sym (earlier-none first)
    ∙ (ap (λ (left : List ReadOperand). earlier first (first_refusal (qubit_refusals rs h.seen (operands_of left)))) (sym (drop_all os)) ∙ h.left)
