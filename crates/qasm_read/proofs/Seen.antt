-- The bits that operands of a gate have named, and those that statements measure.
use Rattle.std.proofs.Common.{◌≡◌, ◌↔◌, ℕ, Bool, true, false, cond, not, List, Contains, Equal, refl, sym, ◌∙◌, ap}
use Rattle.std.specs.Prelude.{Some, None, ◌==◌, ◌||◌, IsTrue}
use Rattle.std.specs.Bool.{Decides}
use Rattle.std.specs.BTreeSet.{BTreeSet, contains, Updates}
use Rattle.std.specs.BTreeMap.{is_at}
use Rattle.std.specs.Cmp.{Equal-is, nat_cmp_is}
use Rattle.std.specs.Ordering.{nat_cmp}
use Rattle.std.proofs.lemmas.Bool.Decides.{same_from_decides, Decides-by_or, Decides-eqb}
use Rattle.std.proofs.lemmas.List.Elements.{Decides-contains}
use Rattle.std.proofs.lemmas.Map.Lookups.{exact_unsigned}
use Rattle.gate_core.specs.declared.gate.Gate.{Gate}
use Rattle.gate_core.specs.Circuit.{measured_bits}
use Rattle.qasm_read.specs.Refusals.{is_among, all_some}
use Rattle.qasm_read.specs.Seen.{Sees}

same_at : (b q : ℕ) → is_at (nat_cmp b) q ≡ (b == q)
same_at b q =
    same_from_decides _ _ ((λ e. exact_unsigned b q ((Equal-is (nat_cmp b q)).0 e)), (λ e. (Equal-is (nat_cmp b q)).1 (sym (nat_cmp_is b q Equal e))))
    (Decides-eqb b q)

not_not : (b : Bool) → not (not b) ≡ b
not_not true = refl
not_not false = refl

either_or : (b c : Bool) → cond b true c ≡ (b || c)
either_or true c = refl
either_or false c = refl

-- no bit comes to those seen
pub sees_none : (s : BTreeSet ℕ) → Sees s None false s
sees_none s = record {
  among = λ seen h. refl;
  added = λ seen h. record { index = λ b. h.index b };
}

-- a bit comes to those seen
pub sees_some : (s n : BTreeSet ℕ) (bit : ℕ) (added : Bool) → added ≡ not (contains nat_cmp s bit)
    → Updates nat_cmp s n bit true → Sees s (Some bit) (not added) n
sees_some s n bit added e u = record {
  among = λ seen h. ap not e ∙ (not_not (contains nat_cmp s bit) ∙ h.index bit);
  added = λ seen h. record {
    index = λ b.
        u.0 b ∙ (either_or (is_at (nat_cmp bit) b) (contains nat_cmp s b)
        ∙ (ap (λ (t : Bool). t || contains nat_cmp s b) (same_at bit b) ∙ ap (λ (t : Bool). (bit == b) || t) (h.index b)));
  };
}

is_among-Decides : (bs : List ℕ) (b : ℕ) → Decides (is_among (all_some bs) (Some b)) (Contains bs b)
is_among-Decides bs b =
    Decides-contains bs b _
    (Decides-by_or (λ y. y == b) (λ y. y ≡ b) (λ xs. is_among (all_some xs) (Some b)) (λ y. Decides-eqb y b) refl (λ _ _. refl) bs)

-- the test of the set of measured bits is that of the definition
pub measured_before : (gs : List Gate) (b : ℕ) (r : Bool) → (IsTrue r ↔ Contains (measured_bits gs) b) → r ≡ is_among (all_some (measured_bits gs)) (Some b)
measured_before gs b r h = same_from_decides _ _ h (is_among-Decides (measured_bits gs) b)

-- a bit or none comes to those seen
pub ruleset sees = (sees_none, sees_some)
