-- What a circuit keeps when a statement is added.
use Rattle.std.proofs.Common.{◌≡◌, ◌≢◌, ◌↔◌, ℕ, zero, suc, get_or, ◌<◌, true, false, cond, List, [], ◌∷◌, ◌++◌, Contains, length, ◌⊎◌, inl, inr, refl, sym, ◌∙◌, ap, subst, arith, append-nil, append_assoc}
use Rattle.std.proofs.lemmas.List.Elements.{All-push, Contains-append_left, Contains-append_right, Contains-append_cases}
use Rattle.std.proofs.lemmas.Bool.{cases_Bool}
use Rattle.std.proofs.lemmas.Cmp.{nat_cmp_total}
use Rattle.std.proofs.lemmas.Map.Lookups.{exact_unsigned}
use Rattle.std.proofs.lemmas.Map.Views.{btree_set_contains_iff}
use Rattle.std.specs.BTreeSet.{BTreeSet, contains, Updates}
use Rattle.std.specs.BTreeMap.{is_at}
use Rattle.std.specs.Cmp.{Equal-is}
use Rattle.std.specs.Ordering.{nat_cmp}
use Rattle.gate_core.specs.declared.gate.Gate.{Gate}
use Rattle.gate_core.specs.declared.gate.Gate.TheVariants.{One, Cx, Cz, Ccx, Measure, If}
use Rattle.gate_core.specs.Local.{Absent, AllDiffer}
use Rattle.gate_core.specs.Circuit.{measured_by, measured_bits, GateFits, MeasuresNew, AddsAll, IsKept}

-- the test of the set finds its keys
pub contains_iff : (s : BTreeSet ℕ) (q : ℕ) → (contains nat_cmp s q ≡ true) ↔ Contains s.keys q
contains_iff s q = btree_set_contains_iff nat_cmp_total exact_unsigned s q

pub measured_bits-push : (gs : List Gate) (g : Gate) → measured_bits (gs ++ g ∷ []) ≡ measured_bits gs ++ measured_by g
measured_bits-push [] g = append-nil (measured_by g)
measured_bits-push (h ∷ gs) g = ap (λ bs. measured_by h ++ bs) (measured_bits-push gs g) ∙ sym (append_assoc (measured_by h) (measured_bits gs) (measured_by g))

-- only a measure measures
pub measured_by-other : (g : Gate) → ((q bit : ℕ) → g ≡ Measure q bit → ⊥) → measured_by g ≡ []
measured_by-other (One kind q) h = refl
measured_by-other (Cx c t) h = refl
measured_by-other (Cz c t) h = refl
measured_by-other (Ccx a b t) h = refl
measured_by-other (Measure q bit) h = absurd (h q bit refl)
measured_by-other (If bit value gate) h = refl

Contains-single : (b q : ℕ) → Contains (b ∷ []) q → b ≡ q
Contains-single b q c = go c.0 c.1 c.2
  where
    go : (k : ℕ) → k < length (b ∷ []) → get_or (b ∷ []) k q ≡ q → b ≡ q
    go zero l e = e
    go (suc k) l e = absurd (omega arith)

-- one more number that is not among the others
Absent-push : (p b : ℕ) (bs : List ℕ) → Absent p bs → b ≢ p → Absent p (bs ++ b ∷ [])
Absent-push p b [] h n = (n, tt)
Absent-push p b (c ∷ bs) h n = (h.0, Absent-push p b bs h.1 n)

pub AllDiffer-push : (bs : List ℕ) (b : ℕ) → AllDiffer bs → ¬ Contains bs b → AllDiffer (bs ++ b ∷ [])
AllDiffer-push [] b h n = (tt, tt)
AllDiffer-push (c ∷ bs) b h n =
    (Absent-push c b bs h.0 (λ e. n (0, omega arith, sym e)), AllDiffer-push bs b h.1 (λ k. n (suc k.0, omega (arith, k.1), k.2)))

-- a key is put into the set
module _ (s n : BTreeSet ℕ) (b : ℕ) (u : Updates nat_cmp s n b true) where
  from_new : (q : ℕ) → (is_at (nat_cmp b) q ≡ true) ⊎ (is_at (nat_cmp b) q ≡ false) → Contains n.keys q → Contains s.keys q ⊎ Contains (b ∷ []) q
  from_new q (inl e) c = inr (0, omega arith, exact_unsigned b q ((Equal-is (nat_cmp b q)).0 e))
  from_new q (inr e) c = inl ((contains_iff s q).0 (sym (u.2 q e) ∙ (contains_iff n q).1 c))

  to_new : (q : ℕ) → (is_at (nat_cmp b) q ≡ true) ⊎ (is_at (nat_cmp b) q ≡ false) → Contains s.keys q ⊎ Contains (b ∷ []) q → Contains n.keys q
  to_new q (inl e) (inl c) = (contains_iff n q).0 (u.0 q ∙ ap (λ t. cond t true (contains nat_cmp s q)) e)
  to_new q (inr e) (inl c) = (contains_iff n q).0 (u.2 q e ∙ (contains_iff s q).1 c)
  to_new q e (inr c) = subst (λ x. Contains n.keys x) (Contains-single b q c) ((contains_iff n b).0 u.1)

  pub AddsAll-insert : AddsAll s.keys n.keys (b ∷ [])
  AddsAll-insert = record { each = λ q. (from_new q (cases_Bool (is_at (nat_cmp b) q)), to_new q (cases_Bool (is_at (nat_cmp b) q))) }

pub AddsAll-nothing : (xs : List ℕ) → AddsAll xs xs []
AddsAll-nothing xs = record { each = λ q. ((λ c. inl c), (λ d. elim d [ inl c ↦ c | inr c ↦ absurd (omega (arith, c.1)) ])) }

-- the bits measured once, one more statement later
measured_once-push : (gs : List Gate) (g : Gate) → AllDiffer (measured_bits gs) → MeasuresNew gs g → AllDiffer (measured_bits gs ++ measured_by g)
measured_once-push gs (One kind q) d n = subst AllDiffer (sym (append-nil (measured_bits gs))) d
measured_once-push gs (Cx c t) d n = subst AllDiffer (sym (append-nil (measured_bits gs))) d
measured_once-push gs (Cz c t) d n = subst AllDiffer (sym (append-nil (measured_bits gs))) d
measured_once-push gs (Ccx a b t) d n = subst AllDiffer (sym (append-nil (measured_bits gs))) d
measured_once-push gs (Measure q bit) d n = AllDiffer-push (measured_bits gs) bit d n
measured_once-push gs (If bit value gate) d n = subst AllDiffer (sym (append-nil (measured_bits gs))) d

pub IsKept-push : (qubits bits : ℕ) (gs : List Gate) (g : Gate) (old new : List ℕ) → IsKept qubits bits gs old → GateFits qubits bits g → MeasuresNew gs g → AddsAll old new (measured_by g) → IsKept qubits bits (gs ++ g ∷ []) new
IsKept-push qubits bits gs g old new k f n a =
    let same : measured_bits gs ++ measured_by g ≡ measured_bits (gs ++ g ∷ []) = sym (measured_bits-push gs g) in
    record {
      sound = record {
        each_fits = All-push (GateFits qubits bits) gs g k.sound.each_fits f;
        measured_once = subst AllDiffer same (measured_once-push gs g k.sound.measured_once n);
      };
      index = λ b. subst (λ bs. Contains new b ↔ Contains bs b) same (onward b, backward b);
    }
  where
    onward : (b : ℕ) → Contains new b → Contains (measured_bits gs ++ measured_by g) b
    onward b c =
        elim ((a.each b).0 c) [
          | inl d ↦ Contains-append_left (measured_bits gs) (measured_by g) b ((k.index b).0 d)
          | inr d ↦ Contains-append_right (measured_bits gs) (measured_by g) b d
        ]

    backward : (b : ℕ) → Contains (measured_bits gs ++ measured_by g) b → Contains new b
    backward b c =
        elim (Contains-append_cases (measured_bits gs) (measured_by g) b c) [
          | inl d ↦ (a.each b).1 (inl ((k.index b).1 d))
          | inr d ↦ (a.each b).1 (inr d)
        ]
