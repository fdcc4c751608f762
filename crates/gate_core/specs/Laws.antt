-- The laws of circuits, as statements.
use Rattle.std.specs.Prelude.{◌≡◌, ℕ, ◌<◌, Bool, false, if◌then◌else◌, List, [], ◌∷◌, ◌++◌, map, length, replicate, Contains, ◌==◌}
use Rattle.std.specs.List.{list_any}
use Rattle.amp_core.specs.declared.Amp.{Amp}
use Rattle.sum_laws.specs.Terms.{Branch, apply, SameTerms}
use Rattle.gate_core.specs.declared.gate.PlainGate.{PlainGate}
use Rattle.gate_core.specs.declared.gate.Gate.{Gate}
use Rattle.gate_core.specs.Meaning.{bit_at, plain_branches, known_after_all, run, meaning}
use Rattle.gate_core.specs.Local.{AllDiffer, AllBelow, gate_qubits, renamed, as_gate, plain_run, HasWidth, GatesBelow, terms_on, ActsOn}
use Rattle.gate_core.specs.Circuit.{measured_bits}

-- of two joined circuits the second runs on the terms of the first, with the bits that the first has measured
pub record JoinedCircuitsRunInTurn : Type 0 where
  pub of_runs :
      (outcome known : List Bool) (gs hs : List Gate) (ts : List (List Bool × Amp))
      → run outcome known (gs ++ hs) ts ≡ run outcome (known_after_all outcome known gs) hs (run outcome known gs ts)
  pub of_meanings :
      (qubits bits : ℕ) (gs hs : List Gate) (ins : List (List ℕ)) (input outcome : List Bool)
      → meaning qubits bits (gs ++ hs) ins input outcome ≡ run outcome (known_after_all outcome (replicate bits false) gs) hs (meaning qubits bits gs ins input outcome)

-- a circuit runs on each term by itself
abbrev pub JoinedTermsRunApart : Type 0
JoinedTermsRunApart =
    (outcome known : List Bool) (gs : List Gate) (ts us : List (List Bool × Amp))
    → run outcome known gs (ts ++ us) ≡ run outcome known gs ts ++ run outcome known gs us

-- terms with equal amplitudes are taken to terms with equal amplitudes
abbrev pub RunsKeepEqualAmplitudes : Type 0
RunsKeepEqualAmplitudes =
    (outcome known : List Bool) (gs : List Gate) (ts us : List (List Bool × Amp))
    → SameTerms ts us → SameTerms (run outcome known gs ts) (run outcome known gs us)

-- each value keeps its number of bits, and in a circuit's meaning it has one for each qubit
pub record RunsKeepWidth : Type 0 where
  pub of_runs :
      (n : ℕ) (outcome known : List Bool) (gs : List Gate) (ts : List (List Bool × Amp))
      → HasWidth n ts → HasWidth n (run outcome known gs ts)
  pub of_meanings :
      (qubits bits : ℕ) (gs : List Gate) (ins : List (List ℕ)) (input outcome : List Bool)
      → HasWidth qubits (meaning qubits bits gs ins input outcome)

-- a measured bit has its outcome, and another one what it had before
abbrev pub MeasuredBitsAreKnown : Type 0
MeasuredBitsAreKnown =
    (outcome known : List Bool) (gs : List Gate) (b : ℕ) → b < length known
    → bit_at (known_after_all outcome known gs) b ≡ (if list_any (λ c. c == b) (measured_bits gs) then bit_at outcome b else bit_at known b)

-- outcomes that agree on the measured bits give the same terms
abbrev pub OtherOutcomesAreNotRead : Type 0
OtherOutcomesAreNotRead =
    (outcome other known : List Bool) (gs : List Gate) (ts : List (List Bool × Amp))
    → ((b : ℕ) → Contains (measured_bits gs) b → bit_at outcome b ≡ bit_at other b)
    → run outcome known gs ts ≡ run other known gs ts

-- gates on some qubits of a register act as on a register of these qubits alone, and change no other qubit
pub record GatesActOnTheirQubits : Type 0 where
  pub of_a_gate :
      (qs : List ℕ) (n : ℕ) (g : PlainGate) → AllDiffer qs → AllBelow n qs → AllBelow (length qs) (gate_qubits g)
      → ActsOn qs n (plain_branches g) (plain_branches (renamed qs g))
  pub of_gates :
      (qs : List ℕ) (u : List Bool) (gs : List PlainGate) → AllDiffer qs → AllBelow (length u) qs → GatesBelow (length qs) gs
      → (ts : List (List Bool × Amp)) → HasWidth (length qs) ts → plain_run (map (renamed qs) gs) (terms_on qs u ts) ≡ terms_on qs u (plain_run gs ts)

-- so what gates do to each basis state of these qubits alone, they do to any terms of the large register
abbrev pub SmallActionsAreLargeActions : Type 0
SmallActionsAreLargeActions =
    (qs : List ℕ) (n : ℕ) (gs : List PlainGate) (step large : List Bool → List Branch)
    → AllDiffer qs → AllBelow n qs → GatesBelow (length qs) gs → ActsOn qs n step large
    → ((w : List Bool) (x : Amp) → length w ≡ length qs → SameTerms (plain_run gs ((w, x) ∷ [])) (apply step ((w, x) ∷ [])))
    → (outcome known : List Bool) (ts : List (List Bool × Amp)) → HasWidth n ts
    → SameTerms (run outcome known (map as_gate (map (renamed qs) gs)) ts) (apply large ts)
