-- Qubits that are free in turn are in range and differ.
use Rattle.std.proofs.Common.{◌≡◌, ◌≢◌, ℕ, zero, suc, ◌<◌, Bool, true, false, List, [], ◌∷◌, length, get_or, set, replicate, IsTrue, ◌↔◌, refl, ap, subst, ◌∙◌, sym, arith}
use Rattle.std.proofs.lemmas.List.{get_or-set_same, get_or-set_other, length-replicate}
use Rattle.std.proofs.Math.ListN.{length-set}
use Rattle.gate_core.specs.Local.{Absent, AllDiffer, AllBelow}
use Rattle.amp_run.specs.Inputs.{AreNew}

-- each is free
abbrev pub AllFree : List Bool → List ℕ → Type 0
AllFree free [] = Unit {0}
AllFree free (q ∷ qs) = (get_or free q false ≡ true) × AllFree free qs

-- what is free after q is taken was free before, and is not q
before : (free : List Bool) (q : ℕ) (qs : List ℕ) → q < length free → AllFree (set free q false) qs → Absent q qs × AllFree free qs
before free q [] l h = (tt, tt)
before free q (p ∷ ps) l h =
    let rest = before free q ps l h.1 in
    let other : p ≢ q = λ e. both (sym (ap (λ i. get_or (set free q false) i false) e) ∙ h.0) in
    ((other, rest.0), (sym (get_or-set_other free q p false false other) ∙ h.0, rest.1))
  where
    both : get_or (set free q false) q false ≡ true → ⊥
    both e = let f : get_or (set free q false) q false ≡ false = get_or-set_same free q false false l in cc

after : (free : List Bool) (q : ℕ) (qs : List ℕ) → Absent q qs → AllFree free qs → AllFree (set free q false) qs
after free q [] a h = tt
after free q (p ∷ ps) a h = (get_or-set_other free q p false false a.0 ∙ h.0, after free q ps a.1 h.1)

pub new_are_inputs : (free : List Bool) (qs : List ℕ) → AreNew free qs → AllBelow (length free) qs × AllDiffer qs × AllFree free qs
new_are_inputs free [] h = (tt, tt, tt)
new_are_inputs free (q ∷ qs) h =
    let rest = new_are_inputs (set free q false) qs h.2 in
    let back = before free q qs h.0 rest.2 in
    let below : AllBelow (length free) qs = rw length-set at rest.0 in
    ((h.0, below), (back.0, rest.1), (h.1, back.1))

pub inputs_are_new : (free : List Bool) (qs : List ℕ) → AllBelow (length free) qs → AllDiffer qs → AllFree free qs → AreNew free qs
inputs_are_new free [] b d h = tt
inputs_are_new free (q ∷ qs) b d h =
    let below : AllBelow (length (set free q false)) qs = rw length-set b.1 in
    (b.0, h.0, inputs_are_new (set free q false) qs below d.1 (after free q qs d.0 h.1))

-- of flags that are all up each in range is free
all_free : (n : ℕ) (qs : List ℕ) → AllBelow n qs → AllFree (replicate n true) qs
all_free n [] b = tt
all_free n (q ∷ qs) b = (up n q b.0, all_free n qs b.1)
  where
    up : (m p : ℕ) → p < m → get_or (replicate m true) p false ≡ true
    up zero p l = absurd (omega (arith, l))
    up (suc m) zero l = refl
    up (suc m) (suc p) l = up m p (omega (arith, l))

-- starting with all flags up, qubits that are free in turn are those that are in range and differ
pub fit : (result : Bool) (free : List Bool) (n : ℕ) (qs : List ℕ) → free ≡ replicate n true → (IsTrue result ↔ AreNew free qs)
    → (IsTrue result ↔ (AllBelow n qs × AllDiffer qs))
fit result free n qs e h = (to, from)
  where
    size : length free ≡ n
    size = ap length e ∙ length-replicate n true

    to : IsTrue result → AllBelow n qs × AllDiffer qs
    to r = let k = new_are_inputs free qs (h.0 r) in (subst (λ m. AllBelow m qs) size k.0, k.1)

    from : AllBelow n qs × AllDiffer qs → IsTrue result
    from k = h.1 (inputs_are_new free qs (subst (λ m. AllBelow m qs) (sym size) k.0) k.1 (subst (λ f. AllFree f qs) (sym e) (all_free n qs k.0)))
