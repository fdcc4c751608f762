-- A register that is 0 but on some qubits is their bits placed on zeros.
use Rattle.std.proofs.Common.{◌≡◌, ◌≢◌, ℕ, zero, suc, ◌<◌, ◌⊎◌, inl, inr, Bool, false, List, [], ◌∷◌, Contains, map, length, get_or, set, replicate, refl, sym, ◌∙◌, ap, subst, arith}
use Rattle.std.proofs.lemmas.List.{get_or-set_other, get_or-map, get_or-replicate, get_or_default, length-map, length-replicate}
use Rattle.gate_core.specs.Meaning.{bit_at, placed}
use Rattle.gate_core.specs.Local.{Absent, AllDiffer, AllBelow}
use Rattle.gate_core.proofs.Local.{length-placed, length-pick, bit_at-placed}
use Rattle.sum_laws.specs.Terms.{pick}
use Rattle.flat_mean.specs.Row.{Row}
use Rattle.plan_gates.specs.Registers.{register}
use Rattle.plan_gates.proofs.Registers.{length-register, get-register}

-- lists of the same bits
pub same_list : (u v : List Bool) → length u ≡ length v → ((i : ℕ) → i < length u → bit_at u i ≡ bit_at v i) → u ≡ v
same_list [] [] e h = refl
same_list [] (c ∷ v) e h = absurd (omega (arith, e))
same_list (b ∷ u) [] e h = absurd (omega (arith, e))
same_list (b ∷ u) (c ∷ v) e h =
    let first : b ≡ c = h 0 (omega arith) in
    let rest : u ≡ v = same_list u v (omega (arith, e)) (λ i l. h (suc i) (omega (arith, l))) in
    λ i. first i ∷ rest i

pub absent_or : (q : ℕ) (qs : List ℕ) → Absent q qs ⊎ Contains qs q
absent_or q [] = inl tt
absent_or q (p ∷ qs) = by (equal_or_not p q) (absent_or q qs)
  where
    equal_or_not : (m n : ℕ) → (m ≡ n) ⊎ (m ≢ n)
    equal_or_not m n = grind arith

    by : (p ≡ q) ⊎ (p ≢ q) → Absent q qs ⊎ Contains qs q → Absent q (p ∷ qs) ⊎ Contains (p ∷ qs) q
    by (inl e) rest = inr (0, omega arith, e)
    by (inr n) (inl a) = inl (n, a)
    by (inr n) (inr c) = inr (suc c.0, omega (arith, c.1), c.2)

bit_at-placed_absent : (q : ℕ) (qs : List ℕ) (w u : List Bool) → Absent q qs → bit_at (placed qs w u) q ≡ bit_at u q
bit_at-placed_absent q [] w u h = refl
bit_at-placed_absent q (p ∷ qs) [] u h = refl
bit_at-placed_absent q (p ∷ qs) (c ∷ w) u h = bit_at-placed_absent q qs w (set u p c) h.1 ∙ get_or-set_other u p q c false (λ e. h.0 (sym e))

at-pick : (qs : List ℕ) (u : List Bool) (k : ℕ) → k < length qs → bit_at (pick qs u) k ≡ bit_at u (get_or qs k 0)
at-pick [] u k l = absurd (omega (arith, l))
at-pick (q ∷ qs) u zero l = refl
at-pick (q ∷ qs) u (suc k) l = at-pick qs u k (omega (arith, l))

-- the bits of some qubits, placed on zeros
abbrev pub on_zeros : ℕ → List ℕ → List Bool → List Bool
on_zeros n qs w = placed qs w (replicate n false)

pub length-on_zeros : (n : ℕ) (qs : List ℕ) (w : List Bool) → length (on_zeros n qs w) ≡ n
length-on_zeros n qs w = length-placed qs w (replicate n false) ∙ length-replicate n false

module _ (n : ℕ) (qs : List ℕ) (differ : AllDiffer qs) (below : AllBelow n qs) where
  below_zeros : AllBelow (length (replicate n false)) qs
  below_zeros = subst (λ m. AllBelow m qs) (sym (length-replicate n false)) below

  pub at_spot : (w : List Bool) (k : ℕ) → length w ≡ length qs → k < length qs → bit_at (on_zeros n qs w) (get_or qs k 0) ≡ bit_at w k
  at_spot w k e l = bit_at-placed qs w (replicate n false) k e differ below_zeros l

  pub register_is_placed : (row : Row) → ((q : ℕ) → Absent q qs → row q ≡ false) → register n row ≡ on_zeros n qs (map row qs)
  register_is_placed row zeros =
      same_list (register n row) (on_zeros n qs (map row qs)) (length-register n row ∙ sym (length-on_zeros n qs (map row qs)))
      (λ i l. let lt : i < n = subst (λ m. i < m) (length-register n row) l in get-register n row i lt ∙ by i lt (absent_or i qs))
    where
      by : (i : ℕ) → i < n → Absent i qs ⊎ Contains qs i → row i ≡ bit_at (on_zeros n qs (map row qs)) i
      by i lt (inl a) = zeros i a ∙ sym (bit_at-placed_absent i qs (map row qs) (replicate n false) a ∙ get_or-replicate n i false false lt)
      by i lt (inr c) =
          let spot : get_or qs c.0 0 ≡ i = get_or_default qs c.0 0 i c.1 ∙ c.2 in
          ap row (sym spot) ∙ sym (get_or-map row qs c.0 0 false c.1) ∙ sym (at_spot (map row qs) c.0 (length-map qs row) c.1)
          ∙ ap (bit_at (on_zeros n qs (map row qs))) spot

  -- other bits on the qubits are other bits
  pub placed_apart : (v w : List Bool) → length v ≡ length qs → length w ≡ length qs → on_zeros n qs v ≡ on_zeros n qs w → v ≡ w
  placed_apart v w ev ew e = same_list v w (ev ∙ sym ew) (λ i l.
      let lt : i < length qs = subst (λ m. i < m) ev l in
      sym (at_spot v i ev lt) ∙ ap (λ u. bit_at u (get_or qs i 0)) e ∙ at_spot w i ew lt)

  -- bits that are 0 on all other qubits
  pub bits_are_placed : (bits : List Bool) → length bits ≡ n → ((q : ℕ) → q < length bits → Absent q qs → bit_at bits q ≡ false) → bits ≡ on_zeros n qs (pick qs bits)
  bits_are_placed bits e zeros = same_list bits (on_zeros n qs (pick qs bits)) (e ∙ sym (length-on_zeros n qs (pick qs bits))) (λ i l. by i l (absent_or i qs))
    where
      by : (i : ℕ) → i < length bits → Absent i qs ⊎ Contains qs i → bit_at bits i ≡ bit_at (on_zeros n qs (pick qs bits)) i
      by i l (inl a) =
          let lt : i < n = subst (λ m. i < m) e l in
          zeros i l a ∙ sym (bit_at-placed_absent i qs (pick qs bits) (replicate n false) a ∙ get_or-replicate n i false false lt)
      by i l (inr c) =
          let spot : get_or qs c.0 0 ≡ i = get_or_default qs c.0 0 i c.1 ∙ c.2 in
          ap (bit_at bits) (sym spot) ∙ sym (at-pick qs bits c.0 c.1) ∙ sym (at_spot (pick qs bits) c.0 (length-pick qs bits) c.1)
          ∙ ap (bit_at (on_zeros n qs (pick qs bits))) spot
