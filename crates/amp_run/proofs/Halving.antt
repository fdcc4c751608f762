-- The factors of the Hadamard matrix.
use Rattle.std.proofs.Common.{◌≡◌, ℕ, ◌+◌, Bool, true, false, cond, not, List, [], ◌∷◌, map, set, get_or, ap, refl, sym, subst, ◌∙◌, arith}
use Rattle.std.proofs.lemmas.List.{set-get_or}
use Rattle.amp_core.specs.declared.Amp.{Amp}
use Rattle.amp_core.specs.Amplitude.{times, over_root_two, numerator, times_power_of_w}
use Rattle.sum_laws.specs.Rearranged.{Rearranged}
use Rattle.sum_laws.specs.Rearranged.Rearranged.{nothing, keep, exchange}
use Rattle.sum_laws.specs.Terms.{branched}
use Rattle.gate_core.specs.Meaning.{bit_at, flipped, halved}

-- a product with a power of w, over one root two more
pub halved_is : (e : ℕ) (x y : Amp) → y ≡ times e 0 x → record y { k = y.k + 1 } ≡ times e 1 x
unfolding times over_root_two
halved_is e x y h =
    ap (λ (z : Amp). record z { k = z.k + 1 }) h
    ∙ (let f : x.k + 0 + 1 ≡ x.k + 1 = omega arith in ap (over_root_two (times_power_of_w e (numerator x))) f)

-- the two branches: the bits as they were, and with the bit flipped
pub two_branches : (u : List Bool) (q : ℕ) (x : Amp) → Rearranged {X = List Bool × Amp} (map (branched x) (halved u q)) ((u, times (cond (bit_at u q) 4 0) 1 x) ∷ (flipped u q, times 0 1 x) ∷ [])
two_branches u q x = by_bit (bit_at u q) refl
  where
    by_bit : (b : Bool) → b ≡ get_or u q false
        → Rearranged {X = List Bool × Amp} ((set u q false, times 0 1 x) ∷ (set u q true, times (cond b 4 0) 1 x) ∷ []) ((u, times (cond b 4 0) 1 x) ∷ (set u q (not b), times 0 1 x) ∷ [])
    by_bit true e =
        let f : set u q true ≡ u = ap (set u q) e ∙ set-get_or u q false in
        subst (λ w. Rearranged {X = List Bool × Amp} ((set u q false, times 0 1 x) ∷ (w, times 4 1 x) ∷ []) ((u, times 4 1 x) ∷ (set u q false, times 0 1 x) ∷ [])) (sym f)
        (exchange (set u q false, times 0 1 x) (u, times 4 1 x) [])
    by_bit false e =
        let f : set u q false ≡ u = ap (set u q) e ∙ set-get_or u q false in
        subst (λ w. Rearranged {X = List Bool × Amp} ((w, times 0 1 x) ∷ (set u q true, times 0 1 x) ∷ []) ((u, times 0 1 x) ∷ (set u q true, times 0 1 x) ∷ [])) (sym f)
        (keep (u, times 0 1 x) (keep (set u q true, times 0 1 x) nothing))
