-- The gates of a list of moves act as the moves, and make a circuit.
use Rattle.std.proofs.Common.{◌≡◌, ◌≢◌, ℕ, zero, suc, ◌<◌, Bool, true, false, cond, eqb, List, [], ◌∷◌, Contains, map, length, get_or, set, replicate, ◌⊎◌, inl, inr, ap, refl, sym, ◌∙◌, subst, arith, length-set}
use Rattle.std.proofs.lemmas.List.{get_or-set_same, get_or-set_other, length-replicate}
use Rattle.amp_core.specs.declared.Amp.{Amp}
use Rattle.amp_core.proofs.Amplitudes.{times_zero}
use Rattle.sum_laws.specs.Terms.{Branch, apply, SameTerms, same_bit}
use Rattle.sum_laws.proofs.TermLists.{SameTerms-refl, SameTerms-trans}
use Rattle.sum_laws.proofs.Linear.{apply-same}
use Rattle.gate_core.specs.declared.gate.OneKind.TheVariants.{X}
use Rattle.gate_core.specs.declared.gate.PlainGate.{PlainGate}
use Rattle.gate_core.specs.declared.gate.PlainGate.TheVariants.{One as PlainOne, Cx as PlainCx, Cz as PlainCz, Ccx as PlainCcx}
use Rattle.gate_core.specs.declared.gate.Gate.TheVariants.{If}
use Rattle.gate_core.specs.Meaning.{bit_at, bit_number, turned, flipped, flipped_if, branches, known_after_all, run}
use Rattle.gate_core.specs.Local.{HasWidth, as_gate, plain_run}
use Rattle.gate_core.proofs.Runs.{run-append}
use Rattle.gate_core.proofs.Embedded.{run-plain, plain_run_wide, apply_wide, BranchesWide}
use Rattle.gate_emit.specs.declared.placed.PlacedMove.{PlacedMove}
use Rattle.gate_emit.specs.declared.placed.PlacedMove.TheVariants.{Unitary, Measured, Cleared, Released}
use Rattle.gate_emit.specs.Moves.{move_gates, move_branches}
use Rattle.gate_emit.specs.Plans.{effect_of, gates_of_all, run_moves, Sound}
use Rattle.gate_emit.proofs.Acts.{acts_as_its_gates}

-- unitary gates leave the known bits
known-plain : (outcome known : List Bool) (gs : List PlainGate) → known_after_all outcome known (map as_gate gs) ≡ known
known-plain outcome known [] = refl
known-plain outcome known (PlainOne kind q ∷ gs) = known-plain outcome known gs
known-plain outcome known (PlainCx c t ∷ gs) = known-plain outcome known gs
known-plain outcome known (PlainCz c t ∷ gs) = known-plain outcome known gs
known-plain outcome known (PlainCcx a b t ∷ gs) = known-plain outcome known gs

-- the measured bits are those of the outcome
pub record Agrees (outcome known : List Bool) (bits : List ℕ) : Type 0 where
  pub at : (b : ℕ) → Contains bits b → bit_at known b ≡ bit_at outcome b

-- an element of a longer list
pub contains_cases : (b : ℕ) (bits : List ℕ) (c : ℕ) → Contains (b ∷ bits) c → (b ≡ c) ⊎ Contains bits c
contains_cases b bits c m = go m.0 m.1 m.2
  where
    go : (k : ℕ) → k < length (b ∷ bits) → get_or (b ∷ bits) k c ≡ c → (b ≡ c) ⊎ Contains bits c
    go zero l e = inl e
    go (suc k) l e = inr (k, omega arith, e)

after_measure : (outcome known : List Bool) (bits : List ℕ) (b : ℕ) → b < length known → Agrees outcome known bits → Agrees outcome (set known b (bit_at outcome b)) (b ∷ bits)
after_measure outcome known bits b l h = record { at = λ c m. by_cases (equal_or_not c b) (contains_cases b bits c m) }
  where
    equal_or_not : (m n : ℕ) → (m ≡ n) ⊎ (m ≢ n)
    equal_or_not m n = grind arith

    by_cases : {c : ℕ} → (c ≡ b) ⊎ (c ≢ b) → (b ≡ c) ⊎ Contains bits c → bit_at (set known b (bit_at outcome b)) c ≡ bit_at outcome c
    by_cases {c} (inl e) m = ap (λ i. bit_at (set known b (bit_at outcome b)) i) e ∙ get_or-set_same known b (bit_at outcome b) false l ∙ ap (bit_at outcome) (sym e)
    by_cases {c} (inr n) (inl e) = absurd (n (sym e))
    by_cases {c} (inr n) (inr m) = get_or-set_other known b c (bit_at outcome b) false n ∙ h.at c m

-- `if` on a measured bit flips by the outcome
cleared_alike : (b : Bool) (u : List Bool) (q : ℕ) → cond (eqb (bit_number b) 1) (turned 0 (flipped u q)) (turned 0 u) ≡ turned 0 (flipped_if b u q)
cleared_alike true u q = refl
cleared_alike false u q = refl

measure_wide : (n : ℕ) (b : Bool) (u : List Bool) → length u ≡ n → BranchesWide n (cond b (turned 0 u) [])
measure_wide n true u e = (e, tt)
measure_wide n false u e = tt

clear_wide : (n : ℕ) (b : Bool) (u : List Bool) (q : ℕ) → length u ≡ n → BranchesWide n (cond b (turned 0 (flipped u q)) (turned 0 u))
clear_wide n true u q e = (length-set u q _ ∙ e, tt)
clear_wide n false u q e = (e, tt)

apply_alike : (f g : List Bool → List Branch) → ((u : List Bool) → f u ≡ g u) → (ts : List (List Bool × Amp)) → apply f ts ≡ apply g ts
apply_alike f g h ts = ap (λ step. apply step ts) (λ i u. h u i)

apply_nothing : (ts : List (List Bool × Amp)) → apply (turned 0) ts ≡ ts
unfolding apply
apply_nothing [] = refl
apply_nothing (t ∷ ts) = λ i. (t.0, times_zero t.1 i) ∷ apply_nothing ts i

released_alike : (ts : List (List Bool × Amp)) → SameTerms ts (apply (turned 0) ts)
released_alike ts = subst (SameTerms ts) (sym (apply_nothing ts)) (SameTerms-refl ts)

module _ (n k : ℕ) (outcome : List Bool) where
  pub moves_act : (ms : List PlacedMove) (bits : List ℕ) (known : List Bool) (ts us : List (List Bool × Amp)) → Sound n k bits ms → length known ≡ k → Agrees outcome known bits → HasWidth n ts → SameTerms ts us → SameTerms (run outcome known (gates_of_all ms) ts) (run_moves outcome ms us)
  unfolding gates_of_all run_moves run
  moves_act [] bits known ts us s e a w h = h
  moves_act (Unitary m ∷ ms) bits known ts us s e a w h =
      let fits = s.0 in
      let after = run-append outcome known (map as_gate (move_gates m)) (gates_of_all ms) ts in
      let plain = run-plain outcome known (move_gates m) ts in
      subst (λ ws. SameTerms ws (run_moves outcome ms (apply (move_branches m) us))) (sym (after ∙ ap (λ j. run outcome j (gates_of_all ms) (run outcome known (map as_gate (move_gates m)) ts)) (known-plain outcome known (move_gates m)) ∙ ap (run outcome known (gates_of_all ms)) plain))
      (moves_act ms bits known (plain_run (move_gates m) ts) (apply (move_branches m) us) s.1 e a (plain_run_wide n (move_gates m) ts w)
      (SameTerms-trans (acts_as_its_gates n m fits.0 fits.1 fits.2 ts w) (apply-same (move_branches m) ts us h)))
  moves_act (Measured q b ∷ ms) bits known ts us s e a w h =
      let fits = s.0 in
      moves_act ms (b ∷ bits) (set known b (bit_at outcome b)) (apply (effect_of outcome (Measured q b)) ts) (apply (effect_of outcome (Measured q b)) us) s.1 (length-set known b (bit_at outcome b) ∙ e)
      (after_measure outcome known bits b (subst (λ m. b < m) (sym e) fits.1) a)
      (apply_wide n (effect_of outcome (Measured q b)) (λ u f. measure_wide n (same_bit (bit_at u q) (bit_at outcome b)) u f) ts w)
      (apply-same (effect_of outcome (Measured q b)) ts us h)
  moves_act (Cleared q b ∷ ms) bits known ts us s e a w h =
      let fits = s.0 in
      let alike : apply (branches outcome known (If b 1 (PlainOne X q))) ts ≡ apply (effect_of outcome (Cleared q b)) ts =
      apply_alike (branches outcome known (If b 1 (PlainOne X q))) (effect_of outcome (Cleared q b)) (λ u. cleared_alike (bit_at known b) u q ∙ ap (λ c. turned 0 (flipped_if c u q)) (a.at b fits.1)) ts in
      moves_act ms bits known (apply (branches outcome known (If b 1 (PlainOne X q))) ts) (apply (effect_of outcome (Cleared q b)) us) s.1 e a
      (apply_wide n (branches outcome known (If b 1 (PlainOne X q))) (λ u f. clear_wide n (eqb (bit_number (bit_at known b)) 1) u q f) ts w)
      (subst (λ ws. SameTerms ws (apply (effect_of outcome (Cleared q b)) us)) (sym alike) (apply-same (effect_of outcome (Cleared q b)) ts us h))
  moves_act (Released ∷ ms) bits known ts us s e a w h =
      moves_act ms bits known ts (apply (turned 0) us) s.1 e a w (SameTerms-trans h (released_alike us))

-- from the start, where no bit is known
pub gates_act : (n k : ℕ) (ms : List PlacedMove) (outcome : List Bool) (ts : List (List Bool × Amp)) → Sound n k [] ms → HasWidth n ts → SameTerms (run outcome (replicate k false) (gates_of_all ms) ts) (run_moves outcome ms ts)
gates_act n k ms outcome ts s w = moves_act n k outcome ms [] (replicate k false) ts ts s (length-replicate k false) (record { at = λ b m. absurd (omega (arith, m.1)) }) w (SameTerms-refl ts)
