-- Eight eighths of a turn are a whole one.
use Rattle.std.proofs.Common.{◌≡◌, ℕ, zero, suc, ◌+◌, ◌*◌, ◌/◌, ◌%◌, refl, sym, ap, ◌∙◌, zero-add, arith}
use Rattle.std.proofs.Math.Nat.{mod-add-div}
use Rattle.amp_core.specs.declared.Amp.{Amp}
use Rattle.amp_core.specs.Amplitude.{Numerator, times_w, times_power_of_w, numerator, over_root_two, one, times}

twice : (i j : ℕ) (n : Numerator) → times_power_of_w (i + j) n ≡ times_power_of_w i (times_power_of_w j n)
twice zero j n = ap (λ k. times_power_of_w k n) (zero-add j)
twice (suc i) j n = ap (λ k. times_power_of_w k n) (more i j) ∙ ap times_w (twice i j n)
  where
    more : (i j : ℕ) → suc i + j ≡ suc (i + j)
    more i j = omega arith

eight : times_power_of_w 8 (numerator one) ≡ numerator one
unfolding times_w numerator
eight = refl

whole_turns : (q : ℕ) → times_power_of_w (8 * q) (numerator one) ≡ numerator one
whole_turns zero = refl
whole_turns (suc q) = ap (λ k. times_power_of_w k (numerator one)) (next q) ∙ twice 8 (8 * q) (numerator one) ∙ ap (times_power_of_w 8) (whole_turns q) ∙ eight
  where
    next : (q : ℕ) → 8 * suc q ≡ 8 + 8 * q
    next q = omega arith

turns : (e : ℕ) → times_power_of_w (e % 8) (numerator one) ≡ times_power_of_w e (numerator one)
turns e =
    ap (times_power_of_w (e % 8)) (sym (whole_turns (e / 8)))
    ∙ sym (twice (e % 8) (8 * (e / 8)) (numerator one))
    ∙ ap (λ k. times_power_of_w k (numerator one)) (mod-add-div e 8)

pub amplitude_is : (e h : ℕ) (y : Amp) → y ≡ times (e % 8) 0 one → record y { k = h } ≡ times e h one
unfolding times over_root_two
amplitude_is e h y q =
    ap (λ (x : Amp). record x { k = h }) q
    ∙ ap (λ n. over_root_two n h) (turns e)
    ∙ ap (over_root_two (times_power_of_w e (numerator one))) (sym (zero-add h))
