-- The gates of each move, on a small register of its own qubits, computed case by case.
use Rattle.std.proofs.Common.{◌≡◌, ℕ, zero, suc, ◌<◌, Bool, true, false, List, [], ◌∷◌, refl, subst, arith}
use Rattle.amp_core.specs.declared.Amp.{Amp}
use Rattle.amp_core.specs.Amplitude.{none, times}
use Rattle.amp_core.proofs.Amplitudes.{times_zero, times_twice}
use Rattle.sum_laws.specs.Terms.{apply, SameTerms}
use Rattle.sum_laws.proofs.TermLists.{SameTerms-refl, SameTerms-trans}
use Rattle.gate_core.specs.Local.{plain_run}
use Rattle.gate_emit.specs.declared.placed.Control.{Control}
use Rattle.gate_emit.specs.declared.placed.QubitMove.TheVariants.{Flip, FlipBy, FlipByTwo, Hadamard, HadamardBy, PhaseBy}
use Rattle.gate_emit.specs.Moves.{move_branches, move_gates}
use Rattle.gate_emit.proofs.Halves.{half_0_8, half_8_24, gone_6_18, gone_2_14, half_7_1, half_17_7, half_9_7, half_19_13, four_to_two, two_to_first, two_to_second}

-- a control on qubit i of a small register
abbrev pub at : ℕ → Bool → Control
at i p = record { qubit = i; positive = p }

pub equal_terms : (ts us : List (List Bool × Amp)) → ts ≡ us → SameTerms ts us
equal_terms ts us e = subst (SameTerms ts) e (SameTerms-refl ts)

pub small_flip : (b : Bool) (x : Amp) → plain_run (move_gates (Flip 0)) ((b ∷ [], x) ∷ []) ≡ apply (move_branches (Flip 0)) ((b ∷ [], x) ∷ [])
unfolding plain_run apply
small_flip b x = refl

pub small_hadamard : (b : Bool) (x : Amp) → plain_run (move_gates (Hadamard 0)) ((b ∷ [], x) ∷ []) ≡ apply (move_branches (Hadamard 0)) ((b ∷ [], x) ∷ [])
unfolding plain_run apply
small_hadamard b x = refl

pub small_flip_by : (p a b : Bool) (x : Amp) → plain_run (move_gates (FlipBy (at 0 p) 1)) ((a ∷ b ∷ [], x) ∷ []) ≡ apply (move_branches (FlipBy (at 0 p) 1)) ((a ∷ b ∷ [], x) ∷ [])
unfolding plain_run apply
small_flip_by true true b x = simp times_zero
small_flip_by true false b x = simp times_zero
small_flip_by false true b x = simp times_zero
small_flip_by false false b x = simp times_zero

pub small_flip_by_two : (p q a b c : Bool) (x : Amp) → plain_run (move_gates (FlipByTwo (at 0 p) (at 1 q) 2)) ((a ∷ b ∷ c ∷ [], x) ∷ []) ≡ apply (move_branches (FlipByTwo (at 0 p) (at 1 q) 2)) ((a ∷ b ∷ c ∷ [], x) ∷ [])
unfolding plain_run apply
small_flip_by_two true true true true c x = simp times_zero
small_flip_by_two true true true false c x = simp times_zero
small_flip_by_two true true false true c x = simp times_zero
small_flip_by_two true true false false c x = simp times_zero
small_flip_by_two true false true true c x = simp times_zero
small_flip_by_two true false true false c x = simp times_zero
small_flip_by_two true false false true c x = simp times_zero
small_flip_by_two true false false false c x = simp times_zero
small_flip_by_two false true true true c x = simp times_zero
small_flip_by_two false true true false c x = simp times_zero
small_flip_by_two false true false true c x = simp times_zero
small_flip_by_two false true false false c x = simp times_zero
small_flip_by_two false false true true c x = simp times_zero
small_flip_by_two false false true false c x = simp times_zero
small_flip_by_two false false false true c x = simp times_zero
small_flip_by_two false false false false c x = simp times_zero

pub small_phase_by : (k : ℕ) (p a : Bool) (x : Amp) → 0 < k → k < 8 → plain_run (move_gates (PhaseBy k (at 0 p))) ((a ∷ [], x) ∷ []) ≡ apply (move_branches (PhaseBy k (at 0 p))) ((a ∷ [], x) ∷ [])
unfolding plain_run apply
small_phase_by zero p a x g h = absurd (omega arith)
small_phase_by (suc zero) true true x g h = refl
small_phase_by (suc zero) true false x g h = refl
small_phase_by (suc zero) false true x g h = simp times_zero
small_phase_by (suc zero) false false x g h = simp (times_twice, times_zero)
small_phase_by (suc (suc zero)) true true x g h = refl
small_phase_by (suc (suc zero)) true false x g h = refl
small_phase_by (suc (suc zero)) false true x g h = simp times_zero
small_phase_by (suc (suc zero)) false false x g h = simp (times_twice, times_zero)
small_phase_by (suc (suc (suc zero))) true true x g h = simp times_twice
small_phase_by (suc (suc (suc zero))) true false x g h = simp times_zero
small_phase_by (suc (suc (suc zero))) false true x g h = simp times_zero
small_phase_by (suc (suc (suc zero))) false false x g h = simp (times_twice, times_zero)
small_phase_by (suc (suc (suc (suc zero)))) true true x g h = refl
small_phase_by (suc (suc (suc (suc zero)))) true false x g h = refl
small_phase_by (suc (suc (suc (suc zero)))) false true x g h = simp times_zero
small_phase_by (suc (suc (suc (suc zero)))) false false x g h = simp (times_twice, times_zero)
small_phase_by (suc (suc (suc (suc (suc zero))))) true true x g h = simp times_twice
small_phase_by (suc (suc (suc (suc (suc zero))))) true false x g h = simp times_zero
small_phase_by (suc (suc (suc (suc (suc zero))))) false true x g h = simp times_zero
small_phase_by (suc (suc (suc (suc (suc zero))))) false false x g h = simp (times_twice, times_zero)
small_phase_by (suc (suc (suc (suc (suc (suc zero)))))) true true x g h = refl
small_phase_by (suc (suc (suc (suc (suc (suc zero)))))) true false x g h = refl
small_phase_by (suc (suc (suc (suc (suc (suc zero)))))) false true x g h = simp times_zero
small_phase_by (suc (suc (suc (suc (suc (suc zero)))))) false false x g h = simp (times_twice, times_zero)
small_phase_by (suc (suc (suc (suc (suc (suc (suc zero))))))) true true x g h = refl
small_phase_by (suc (suc (suc (suc (suc (suc (suc zero))))))) true false x g h = refl
small_phase_by (suc (suc (suc (suc (suc (suc (suc zero))))))) false true x g h = simp times_zero
small_phase_by (suc (suc (suc (suc (suc (suc (suc zero))))))) false false x g h = simp (times_twice, times_zero)
small_phase_by (suc (suc (suc (suc (suc (suc (suc (suc k)))))))) p a x g h = absurd (omega arith)

pub small_hadamard_by : (p a b : Bool) (x : Amp) → SameTerms (plain_run (move_gates (HadamardBy (at 0 p) 1)) ((a ∷ b ∷ [], x) ∷ [])) (apply (move_branches (HadamardBy (at 0 p) 1)) ((a ∷ b ∷ [], x) ∷ []))
unfolding plain_run apply
small_hadamard_by true true true x =
    simp times_twice
    (four_to_two (true ∷ false ∷ []) (true ∷ true ∷ []) (times 9 2 x) (times 19 2 x) (times 7 2 x) (times 13 2 x) (times 0 1 x) (times 4 1 x) (half_9_7 x) (half_19_13 x))
small_hadamard_by true true false x =
    simp times_twice
    (four_to_two (true ∷ false ∷ []) (true ∷ true ∷ []) (times 7 2 x) (times 17 2 x) (times 1 2 x) (times 7 2 x) (times 0 1 x) (times 0 1 x) (half_7_1 x) (half_17_7 x))
small_hadamard_by true false true x =
    simp times_twice
    (SameTerms-trans
    (four_to_two (false ∷ false ∷ []) (false ∷ true ∷ []) (times 2 2 x) (times 8 2 x) (times 14 2 x) (times 24 2 x) (none) (times 0 0 x) (gone_2_14 x) (half_8_24 x))
    (two_to_second (false ∷ false ∷ []) (false ∷ true ∷ []) (times 0 0 x)))
small_hadamard_by true false false x =
    simp times_twice
    (SameTerms-trans
    (four_to_two (false ∷ false ∷ []) (false ∷ true ∷ []) (times 0 2 x) (times 6 2 x) (times 8 2 x) (times 18 2 x) (times 0 0 x) (none) (half_0_8 x) (gone_6_18 x))
    (two_to_first (false ∷ false ∷ []) (false ∷ true ∷ []) (times 0 0 x)))
small_hadamard_by false true true x =
    simp times_twice
    (SameTerms-trans
    (four_to_two (true ∷ false ∷ []) (true ∷ true ∷ []) (times 2 2 x) (times 8 2 x) (times 14 2 x) (times 24 2 x) (none) (times 0 0 x) (gone_2_14 x) (half_8_24 x))
    (two_to_second (true ∷ false ∷ []) (true ∷ true ∷ []) (times 0 0 x)))
small_hadamard_by false true false x =
    simp times_twice
    (SameTerms-trans
    (four_to_two (true ∷ false ∷ []) (true ∷ true ∷ []) (times 0 2 x) (times 6 2 x) (times 8 2 x) (times 18 2 x) (times 0 0 x) (none) (half_0_8 x) (gone_6_18 x))
    (two_to_first (true ∷ false ∷ []) (true ∷ true ∷ []) (times 0 0 x)))
small_hadamard_by false false true x =
    simp times_twice
    (four_to_two (false ∷ false ∷ []) (false ∷ true ∷ []) (times 9 2 x) (times 19 2 x) (times 7 2 x) (times 13 2 x) (times 0 1 x) (times 4 1 x) (half_9_7 x) (half_19_13 x))
small_hadamard_by false false false x =
    simp times_twice
    (four_to_two (false ∷ false ∷ []) (false ∷ true ∷ []) (times 7 2 x) (times 17 2 x) (times 1 2 x) (times 7 2 x) (times 0 1 x) (times 0 1 x) (half_7_1 x) (half_17_7 x))
