-- No power of w over a power of root two is zero.
use Rattle.std.proofs.Common.{◌≡◌, ℕ, zero, suc, Bool, true, false, cond, ℤ, pos, neg_ℤ, refl, sym, ap, ◌∙◌}
use Rattle.std.proofs.lemmas.Bool.{both_ways}
use Rattle.std.proofs.Math.IntN.{neg_ℤ-neg_ℤ}
use Rattle.amp_core.specs.Amplitude.{Numerator, no_numerator, times_w, times_power_of_w, numerator, over_root_two, none, one, times}
use Rattle.flat_mean.specs.Path.{possible_path, path_halvings, path_eighths, path_weight}
use Rattle.flat_mean.specs.Laws.{WeightTells, WeightsTellPossible}

-- a number is zero where its product with w is
before_w : (n : Numerator) → times_w n ≡ no_numerator → n ≡ no_numerator
unfolding times_w
before_w n e =
    let a : n.a ≡ pos 0 = ap (λ (m : Numerator). m.b) e in
    let b : n.b ≡ pos 0 = ap (λ (m : Numerator). m.c) e in
    let c : n.c ≡ pos 0 = ap (λ (m : Numerator). m.d) e in
    let d : n.d ≡ pos 0 = sym (neg_ℤ-neg_ℤ n.d) ∙ ap (λ (m : Numerator). neg_ℤ m.a) e in
    ap (λ (x : ℤ). record { a = x; b = n.b; c = n.c; d = n.d }) a
    ∙ ap (λ (x : ℤ). record { a = pos 0; b = x; c = n.c; d = n.d }) b
    ∙ ap (λ (x : ℤ). record { a = pos 0; b = pos 0; c = x; d = n.d }) c
    ∙ ap (λ (x : ℤ). record { a = pos 0; b = pos 0; c = pos 0; d = x }) d

before_powers : (j : ℕ) (n : Numerator) → times_power_of_w j n ≡ no_numerator → n ≡ no_numerator
before_powers zero n e = e
before_powers (suc j) n e = before_powers j n (before_w (times_power_of_w j n) e)

never_zero : (j h : ℕ) → ¬ (times j h one ≡ none)
unfolding times numerator over_root_two
never_zero j h e = let z : pos 1 ≡ pos 0 = ap (λ (m : Numerator). m.a) (before_powers j (numerator one) (ap numerator e)) in cc

pub weights_tell_possible : WeightsTellPossible
weights_tell_possible steps input choice = go (possible_path steps input choice) refl
  where
    go : (b : Bool) → possible_path steps input choice ≡ b → WeightTells steps input choice
    go true h =
        let is : path_weight steps input choice ≡ times (path_eighths steps input choice) (path_halvings steps input choice) one =
        ap (λ (x : Bool). cond x (times (path_eighths steps input choice) (path_halvings steps input choice) one) none) h in
        record {
          zero_if_not_possible = (
            (λ z. absurd (never_zero (path_eighths steps input choice) (path_halvings steps input choice) (sym is ∙ z))),
            (λ f. absurd (both_ways (possible_path steps input choice) f h)),
          );
          factor_if_possible = λ t. is;
        }
    go false h = record {
      zero_if_not_possible = (
        (λ z. h),
        (λ f. ap (λ (x : Bool). cond x (times (path_eighths steps input choice) (path_halvings steps input choice) one) none) h),
      );
      factor_if_possible = λ t. absurd (both_ways (possible_path steps input choice) h t);
    }
