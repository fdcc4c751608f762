-- The terms of one value: they alone make its amplitude, and whether its partial sums are small.
use Rattle.std.proofs.Common.{◌≡◌, ℕ, zero, suc, Bool, true, false, List, [], ◌∷◌, take, All, refl, ap, sym, ◌∙◌, subst, inl, inr}
use Rattle.std.proofs.lemmas.List.Elements.{All-nil, All-cons, All-head, All-tail}
use Rattle.amp_core.specs.declared.Amp.{Amp}
use Rattle.amp_core.specs.Amplitude.{plus}
use Rattle.amp_core.specs.Size.{Small}
use Rattle.sum_laws.specs.Terms.{same_bits, amplitude}
use Rattle.sum_laws.specs.Partial.{PartialSumsSmall}
use Rattle.sum_laws.specs.InOrder.{terms_of}
use Rattle.sum_laws.proofs.Linear.{bool_cases}

pub amplitude-terms_of : (v : List Bool) (ts : List (List Bool × Amp)) → amplitude v (terms_of v ts) ≡ amplitude v ts
unfolding amplitude
amplitude-terms_of v [] = refl
amplitude-terms_of v (t ∷ ts) =
    elim (bool_cases (same_bits t.0 v)) [
      | inl e ↦ rw e (rw e (ap (plus t.1) (amplitude-terms_of v ts)))
      | inr e ↦ rw e (amplitude-terms_of v ts)
    ]

-- a first part of the terms of a value has the amplitude of a first part of all terms, and the other way round
record Part (v : List Bool) (x : Amp) (ts : List (List Bool × Amp)) : Type 0 where
  long : ℕ
  is : x ≡ amplitude v (take long ts)

part_of_all : (v : List Bool) (j : ℕ) (ts : List (List Bool × Amp)) → Part v (amplitude v (take j (terms_of v ts))) ts
unfolding amplitude
part_of_all v zero ts = record { long = 0; is = refl }
part_of_all v (suc j) [] = record { long = 0; is = refl }
part_of_all v (suc j) (t ∷ ts) =
    elim (bool_cases (same_bits t.0 v)) [
      | inl e ↦
          let p : Part v (amplitude v (take j (terms_of v ts))) ts = part_of_all v j ts in
          record { long = suc p.long; is = rw e (rw e (ap (plus t.1) p.is)) }
      | inr e ↦
          let p : Part v (amplitude v (take (suc j) (terms_of v ts))) ts = part_of_all v (suc j) ts in
          record { long = suc p.long; is = rw e p.is }
    ]

part_of_value : (v : List Bool) (j : ℕ) (ts : List (List Bool × Amp)) → Part v (amplitude v (take j ts)) (terms_of v ts)
unfolding amplitude
part_of_value v zero ts = record { long = 0; is = refl }
part_of_value v (suc j) [] = record { long = 0; is = refl }
part_of_value v (suc j) (t ∷ ts) =
    let p : Part v (amplitude v (take j ts)) (terms_of v ts) = part_of_value v j ts in
    elim (bool_cases (same_bits t.0 v)) [
      | inl e ↦ record { long = suc p.long; is = rw e (rw e (ap (plus t.1) p.is)) }
      | inr e ↦ record { long = p.long; is = rw e p.is }
    ]

abbrev SmallWhere : List Bool → List Bool × Amp → Type 0
SmallWhere v t = same_bits t.0 v ≡ true → Small t.1

all_of_value : (v : List Bool) (ts : List (List Bool × Amp)) → All (SmallWhere v) ts → All (SmallWhere v) (terms_of v ts)
all_of_value v [] h = All-nil (SmallWhere v)
all_of_value v (t ∷ ts) h =
    let rest : All (SmallWhere v) (terms_of v ts) = all_of_value v ts (All-tail (SmallWhere v) t ts h) in
    elim (bool_cases (same_bits t.0 v)) [
      | inl e ↦ rw e (All-cons (SmallWhere v) t (terms_of v ts) (All-head (SmallWhere v) t ts h) rest)
      | inr e ↦ rw e rest
    ]

all_from_value : (v : List Bool) (ts : List (List Bool × Amp)) → All (SmallWhere v) (terms_of v ts) → All (SmallWhere v) ts
all_from_value v [] h = All-nil (SmallWhere v)
all_from_value v (t ∷ ts) h =
    elim (bool_cases (same_bits t.0 v)) [
      | inl e ↦
          let g : All (SmallWhere v) (t ∷ terms_of v ts) = rw e at h in
          All-cons (SmallWhere v) t ts (All-head (SmallWhere v) t (terms_of v ts) g) (all_from_value v ts (All-tail (SmallWhere v) t (terms_of v ts) g))
      | inr e ↦
          let g : All (SmallWhere v) (terms_of v ts) = rw e at h in
          All-cons (SmallWhere v) t ts (λ f. absurd (let p : same_bits t.0 v ≡ false = e in cc (p, f))) (all_from_value v ts g)
    ]

-- lists that have the same terms of a value, in the same order, have small partial sums of it together
pub PartialSumsSmall-along : (v : List Bool) (ts us : List (List Bool × Amp)) → terms_of v us ≡ terms_of v ts → PartialSumsSmall v ts → PartialSumsSmall v us
PartialSumsSmall-along v ts us e h = record {
  terms = all_from_value v us (subst (All (SmallWhere v)) (sym e) (all_of_value v ts h.terms));
  sums = λ j.
      let p : Part v (amplitude v (take j us)) (terms_of v us) = part_of_value v j us in
      let q : Part v (amplitude v (take p.long (terms_of v ts))) ts = part_of_all v p.long ts in
      subst Small (sym (p.is ∙ ap (λ ws. amplitude v (take p.long ws)) e ∙ q.is)) (h.sums q.long);
}

pub amplitude-along : (v : List Bool) (ts us : List (List Bool × Amp)) → terms_of v us ≡ terms_of v ts → amplitude v us ≡ amplitude v ts
amplitude-along v ts us e = sym (amplitude-terms_of v us) ∙ ap (amplitude v) e ∙ amplitude-terms_of v ts
