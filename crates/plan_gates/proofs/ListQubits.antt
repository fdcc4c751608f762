-- The qubits of the wires of lists: they differ and are in range where the wires stand apart.
use Rattle.std.proofs.Common.{◌≡◌, ◌≢◌, ℕ, zero, suc, ◌<◌, List, [], ◌∷◌, ◌++◌, Contains, length, map, get_or, slice_get, Some, refl, sym, ◌∙◌, ap, arith}
use Rattle.std.proofs.lemmas.List.{map-append}
use Rattle.std.proofs.lemmas.Option.{slice_get-get_or}
use Rattle.flat_core.specs.declared.step.WireId.{WireId}
use Rattle.flat_core.specs.Sound.{joined as wires_joined}
use Rattle.gate_core.specs.Meaning.{joined}
use Rattle.gate_core.specs.Local.{Absent, AllDiffer, AllBelow}
use Rattle.plan_gates.specs.PlanCircuit.{qubits_on}

pub joined_on : (place : WireId → ℕ) (lists : List (List WireId)) → joined (qubits_on place lists) ≡ map place (wires_joined lists)
joined_on place [] = refl
joined_on place (ws ∷ lists) = ap (λ qs. map place ws ++ qs) (joined_on place lists) ∙ sym (map-append place ws (wires_joined lists))

later : (w : WireId) (ws : List WireId) (v : WireId) → Contains ws v → Contains (w ∷ ws) v
later w ws v c = (suc c.0, omega (arith, c.1), c.2)

first : (w : WireId) (ws : List WireId) → Contains (w ∷ ws) w
first w ws = (0, omega arith, refl)

at_place : (ws : List WireId) (w : WireId) (c : Contains ws w) → slice_get ws c.0 ≡ Some w
at_place ws w c = slice_get-get_or ws c.0 w c.1 ∙ ap (λ (x : WireId). Some x) c.2

pub Absent-map : (place : WireId → ℕ) (q : ℕ) (ws : List WireId) → ((w : WireId) → Contains ws w → place w ≢ q) → Absent q (map place ws)
Absent-map place q [] h = tt
Absent-map place q (w ∷ ws) h = (h w (first w ws), Absent-map place q ws (λ v c. h v (later w ws v c)))

-- each wire stands once in a list
abbrev pub Once : List WireId → Type 0
Once ws = (i j : ℕ) (w : WireId) → slice_get ws i ≡ Some w → slice_get ws j ≡ Some w → i ≡ j

pub AllDiffer-map : (place : WireId → ℕ) (ws : List WireId) → Once ws → ((v w : WireId) → Contains ws v → Contains ws w → place v ≡ place w → v ≡ w) → AllDiffer (map place ws)
AllDiffer-map place [] once h = tt
AllDiffer-map place (w ∷ ws) once h = (
  Absent-map place (place w) ws (λ v c e.
      let same : v ≡ w = h v w (later w ws v c) (first w ws) e in
      let no : suc c.0 ≡ 0 = once (suc c.0) 0 w (at_place ws v c ∙ ap (λ (x : WireId). Some x) same) refl in
      absurd (omega (arith, no))),
  AllDiffer-map place ws (λ i j v e g. let s : suc i ≡ suc j = once (suc i) (suc j) v e g in omega (arith, s)) (λ u v c d. h u v (later w ws u c) (later w ws v d)),
)

pub AllBelow-map : (place : WireId → ℕ) (n : ℕ) (ws : List WireId) → ((w : WireId) → Contains ws w → place w < n) → AllBelow n (map place ws)
AllBelow-map place n [] h = tt
AllBelow-map place n (w ∷ ws) h = (h w (first w ws), AllBelow-map place n ws (λ v c. h v (later w ws v c)))

-- a qubit on which none of the wires stands
pub absent_of_none : (place : WireId → ℕ) (q : ℕ) (ws : List WireId) → Absent q (map place ws) → (w : WireId) → Contains ws w → place w ≢ q
absent_of_none place q ws a w c = go ws a c.0 c.1 c.2
  where
    go : (ws : List WireId) → Absent q (map place ws) → (k : ℕ) → k < length ws → get_or ws k w ≡ w → place w ≢ q
    go [] a k l e = absurd (omega (arith, l))
    go (v ∷ ws) a zero l e = λ g. a.0 (ap place e ∙ g)
    go (v ∷ ws) a (suc k) l e = go ws a.1 k (omega (arith, l)) e
