-- What an item without a refusal allows.
use Rattle.std.proofs.Common.{◌≡◌, ℕ, ◌+◌, ◌<◌, ◌^◌, Bool, true, false, List, [], ◌∷◌, ◌++◌, nat_lt, refl, arith}
use Rattle.std.specs.Prelude.{◌||◌, ◌==◌}
use Rattle.std.proofs.lemmas.Bool.Decides.{nat_tests}
use Rattle.silq_io.specs.declared.limit.LimitKind.{LimitKind}
use Rattle.silq_io.specs.declared.limit.LimitKind.TheVariants as limits
use Rattle.qasm_tokens.specs.Tokens.{Token}
use Rattle.qasm_read.specs.declared.refusal.Refusal.{Refusal}
use Rattle.qasm_read.specs.declared.operand.Index.{Index}
use Rattle.qasm_read.specs.declared.operand.Index.TheVariants.{Bare, Open, At}
use Rattle.qasm_read.specs.Registers.{Register, has, width}
use Rattle.qasm_read.specs.State.{State}
use Rattle.qasm_read.specs.Refusals.{Operand, where_, size_refusals, declaration_refusals}
use Rattle.qasm_read.specs.Declarations.{Fits, MayDeclare}

pub none_where : (b : Bool) (r : Refusal) → where_ b r ≡ [] → b ≡ false
none_where true r e = absurd (cc)
none_where false r e = refl

pub left_none : (xs ys : List Refusal) → xs ++ ys ≡ [] → xs ≡ []
left_none [] ys e = refl
left_none (x ∷ xs) ys e = absurd (cc)

pub right_none : (xs ys : List Refusal) → xs ++ ys ≡ [] → ys ≡ []
right_none [] ys e = e
right_none (x ∷ xs) ys e = absurd (cc)

or_left : (a b : Bool) → (a || b) ≡ false → a ≡ false
or_left true b e = e
or_left false b e = refl

or_right : (a b : Bool) → (a || b) ≡ false → b ≡ false
or_right true b e = absurd (cc)
or_right false b e = e

fits : (registers : List Register) (first : Token) (which : LimitKind) (most : ℕ) → most < 2 ^ 32 → (i : Index) → size_refusals registers true first which most i ≡ [] → Fits registers i
fits registers first which most l Bare e = tt
fits registers first which most l Open e = tt
fits registers first which most l (At at n) e =
    let f : nat_lt most (width registers + n) ≡ false = none_where (nat_lt most (width registers + n)) _ (right_none (where_ (n == 0) _) _ e) in
    grind (arith, nat_tests)

pub may_declare_qubits : (s : State) (first : Token) (os : List Operand) → declaration_refusals s s.qubits true first limits.Qubits 100000 os ≡ [] → MayDeclare s.qubits os
may_declare_qubits s first [] e = tt
may_declare_qubits s first (o ∷ os) e =
    let known = has s.qubits o.name.text || has s.bits o.name.text in (
      or_left (has s.qubits o.name.text) (has s.bits o.name.text) (none_where known _ (left_none (where_ known _) _ e)),
      fits s.qubits first limits.Qubits 100000 (omega arith) o.index (right_none (where_ known _) _ e),
    )

pub may_declare_bits : (s : State) (first : Token) (os : List Operand) → declaration_refusals s s.bits true first limits.Outcomes 4096 os ≡ [] → MayDeclare s.bits os
may_declare_bits s first [] e = tt
may_declare_bits s first (o ∷ os) e =
    let known = has s.qubits o.name.text || has s.bits o.name.text in (
      or_right (has s.qubits o.name.text) (has s.bits o.name.text) (none_where known _ (left_none (where_ known _) _ e)),
      fits s.bits first limits.Outcomes 4096 (omega arith) o.index (right_none (where_ known _) _ e),
    )
