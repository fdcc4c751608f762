-- How the two readings of a walk agree: with known signatures, and with instances checked where they are met.
use Rattle.std.specs.Prelude.{◌≡◌, ℕ, ◌+◌, Result, Ok, Err, ⊤}
use Rattle.check_scope.specs.Walk.{Walk, answer, broken, counted, asked, known, new, meet, Stop, fault, wanted, Counts, Checker, with_counts}
use Rattle.silq_types.specs.Rules.{and_then, Fault}
use Rattle.silq_types.specs.declared.signature.InstanceKey.{InstanceKey}
use Rattle.silq_types.specs.declared.signature.Signature.{Signature}

-- a walk in which no statement is counted, as that of an expression
abbrev pub Uncounted : {A : Type 0} → Walk A → Type 0
Uncounted (answer a) = ⊤
Uncounted (broken e) = ⊤
Uncounted (counted w) = ⊥
Uncounted (asked k next) = (s : Signature) → Uncounted (next s)

-- what a checker of new instances owes: it keeps what is known, and the instance is known afterwards
pub record Steady (check : Checker) : Type 0 where
  pub keeps : (d : ℕ) (k : InstanceKey) (c : Counts) (r : Signature × Counts) → check (d + 1) k c ≡ Ok r → (k' : InstanceKey) (s : Signature) → meet d c.met k' ≡ known s → meet d r.1.met k' ≡ known s
  pub adds : (d : ℕ) (k : InstanceKey) (c : Counts) (r : Signature × Counts) → meet d c.met k ≡ new → check (d + 1) k c ≡ Ok r → meet d r.1.met k ≡ known r.0

-- what the reading with known signatures says of the whole walk, from its result
abbrev pub Continues : {A : Type 0} → Result (A × Counts × ℕ) Fault → (InstanceKey → Result (A × Counts × ℕ) Fault) → Counts → Result (A × ℕ) Stop → Type 0
Continues whole again c (Ok r) = whole ≡ Ok (r.0, c, r.1)
Continues whole again c (Err (fault e)) = whole ≡ Err e
Continues whole again c (Err (wanted k)) = whole ≡ again k

-- the wanted instance is checked, and the walk is asked again
abbrev pub asked_again : {A : Type 0} → Checker → ℕ → Walk A → Counts → ℕ → InstanceKey → Result (A × Counts × ℕ) Fault
asked_again check depth w c height k = and_then (check (depth + 1) k c) (λ r. with_counts check depth w r.1 height)
