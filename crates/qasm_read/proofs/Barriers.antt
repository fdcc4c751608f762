-- The first refusal of the operands of a barrier, one operand after another.
use Rattle.std.proofs.Common.{◌≡◌, ℕ, ◌+◌, ◌<◌, List, [], ◌∷◌, length, drop, get_or, refl, sym, ◌∙◌, ap, add-one, drop-cons}
use Rattle.std.specs.Prelude.{Option, None}
use Rattle.qasm_read.specs.declared.operand.Operand.{Operand as ReadOperand}
use Rattle.qasm_read.specs.declared.refusal.Refusal.{Refusal}
use Rattle.qasm_read.specs.State.{State}
use Rattle.qasm_read.specs.Refusals.{name_refusals, barrier_refusals, first_refusal}
use Rattle.qasm_read.specs.Earlier.{earlier}
use Rattle.qasm_read.specs.Read.{operand_of, operands_of}
use Rattle.qasm_read.proofs.Order.{earlier-none, first_refusal-step}

-- the first refusal, once i operands were asked
pub record HaveAsked (s : State) (os : List ReadOperand) (first : Option Refusal) (i : ℕ) : Type 0 where
  pub left : earlier first (first_refusal (barrier_refusals s (operands_of (drop i os))))
      ≡ first_refusal (barrier_refusals s (operands_of os))

pub at_first : (s : State) (os : List ReadOperand) → HaveAsked s os None 0
at_first s os = record { left = refl }

-- the operands behind the first i are the next and those behind it
pub from_next : (os : List ReadOperand) (i : ℕ) (d : ReadOperand) → i < length os → drop i os ≡ get_or os i d ∷ drop (i + 1) os
from_next os i d l = drop-cons os i d l ∙ ap (λ (j : ℕ). get_or os i d ∷ drop j os) (sym (add-one i))

pub one_more : (s : State) (os : List ReadOperand) (first here after : Option Refusal) (i : ℕ) (d : ReadOperand) → i < length os
    → here ≡ first_refusal (name_refusals s.qubits (operand_of (get_or os i d))) → after ≡ earlier first here
    → HaveAsked s os first i → HaveAsked s os after (i + 1)
one_more s os first here after i d l n ea h =
    let asked : List Refusal = name_refusals s.qubits (operand_of (get_or os i d)) in
    let behind : List Refusal = barrier_refusals s (operands_of (drop (i + 1) os)) in
    record {
      left = first_refusal-step first after asked behind (barrier_refusals s (operands_of os))
          (ap (λ (rest : List ReadOperand). earlier first (first_refusal (barrier_refusals s (operands_of rest)))) (sym (from_next os i d l)) ∙ h.left)
          (ea ∙ ap (λ (r : Option Refusal). earlier first r) n);
    }

pub drop_all : (os : List ReadOperand) → drop (length os) os ≡ []
drop_all [] = refl
drop_all (o ∷ os) = drop_all os

pub at_end : (s : State) (os : List ReadOperand) (first : Option Refusal) → HaveAsked s os first (length os)
    → first ≡ first_refusal (barrier_refusals s (operands_of os))
at_end s os first h =
    sym (earlier-none first)
    ∙ (ap (λ (rest : List ReadOperand). earlier first (first_refusal (barrier_refusals s (operands_of rest)))) (sym (drop_all os)) ∙ h.left)
