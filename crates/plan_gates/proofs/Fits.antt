-- The moves of a plan fit their register.
use Rattle.std.proofs.Common.{◌≡◌, ◌≢◌, ℕ, suc, ◌<◌, ◌≤◌, ◌⊎◌, inl, inr, Bool, true, cond, Option, Some, None, IfSome, List, [], ◌∷◌, Contains, length, map, refl, sym, ◌∙◌, ap, subst, arith, eq-eqb}
use Rattle.std.proofs.lemmas.Bool.{both_ways, cases_lt, or_cases, or_left, or_right}
use Rattle.flat_core.specs.declared.step.Step.{Step}
use Rattle.flat_core.specs.declared.step.Step.TheVariants.{X, H, P, M}
use Rattle.flat_core.specs.declared.step.End.{End}
use Rattle.flat_core.specs.declared.step.End.TheVariants.{Output, Dropped, Measured as MeasuredWire, Zeroed}
use Rattle.flat_core.specs.declared.step.Lit.{Lit}
use Rattle.flat_core.specs.declared.step.WireId.{WireId}
use Rattle.flat_core.specs.declared.step.StepId.{StepId}
use Rattle.flat_core.specs.Form.{FlatForm}
use Rattle.flat_core.specs.Label.{main_wire, first_wire, second_wire, EachNamed, Apart, step_at, end_of}
use Rattle.flat_core.specs.Ends.{undone_step, measures}
use Rattle.flat_core.specs.Sound.{IsFlat, HasEighths, is_m}
use Rattle.move_plan.specs.declared.moves.Move.{Move}
use Rattle.move_plan.specs.declared.moves.Move.TheVariants.{Up, Down, Do, Free}
use Rattle.move_plan.specs.Progress.{Progress, Stands, at_start, moved, AllStand, IsPlan}
use Rattle.move_plan.specs.Effect.{is_measured, number_of}
use Rattle.move_plan.specs.Live.{live, width, width_from, count_wires}
use Rattle.move_plan.proofs.Counts.{width_from-ge}
use Rattle.move_plan.proofs.Measures.{number_is, end_past, bit_of as bit_in}
use Rattle.gate_emit.specs.declared.placed.PlacedMove.{PlacedMove}
use Rattle.gate_emit.specs.declared.placed.PlacedMove.TheVariants.{Unitary, Measured}
use Rattle.gate_emit.specs.declared.placed.QubitMove.TheVariants.{Flip, FlipBy, FlipByTwo, Hadamard, HadamardBy, PhaseBy}
use Rattle.gate_emit.specs.declared.placed.Control.{Control}
use Rattle.gate_emit.specs.Plans.{MoveFits, measured_after, Sound}
use Rattle.gate_emit.proofs.Plans.{contains_cases}
use Rattle.qubit_alloc.specs.declared.placed.Placed.{Placed}
use Rattle.qubit_alloc.specs.Place.{Place, put_on, least_free, place_move, place_if_any, first_place, IsPlaced}
use Rattle.qubit_alloc.specs.PlacedMoves.{number_in, qubit_in, placed_of, placed_from}
use Rattle.qubit_alloc.specs.Spread.{on_qubits, step_placed}
use Rattle.qubit_alloc.proofs.Lives.{live_from, down_live}
use Rattle.qubit_alloc.proofs.Placing.{placed_move}
use Rattle.qubit_alloc.proofs.Starting.{placed_start}
use Rattle.qubit_alloc.proofs.Spreading.{Holds}
use Rattle.qubit_alloc.proofs.Named.{named_map, held_up, held_do, held_down, step_up, step_do, step_down}
use Rattle.plan_gates.specs.PlacedMoves.{move_of_step, freed_move, move_of_placed}
use Rattle.plan_gates.specs.PlanCircuit.{plan_moves}
use Rattle.plan_gates.proofs.Numbers.{number_below, one_number}

abbrev control_of : Lit → Control
control_of l = record { qubit = l.wire.number; positive = l.positive }

-- the move of a step whose wires are qubits
abbrev own_move : Step → PlacedMove
own_move (X t None None) = Unitary (Flip t.number)
own_move (X t (Some a) None) = Unitary (FlipBy (control_of a) t.number)
own_move (X t None (Some b)) = Unitary (FlipBy (control_of b) t.number)
own_move (X t (Some a) (Some b)) = Unitary (FlipByTwo (control_of a) (control_of b) t.number)
own_move (H t None) = Unitary (Hadamard t.number)
own_move (H t (Some a)) = Unitary (HadamardBy (control_of a) t.number)
own_move (P e a) = Unitary (PhaseBy e (control_of a))
own_move (M w n) = Measured w.number n

is_own : (pl : Placed) (s : Step) → move_of_step pl s ≡ own_move (step_placed pl s)
is_own pl (X w None None) = refl
is_own pl (X w (Some a) None) = refl
is_own pl (X w None (Some b)) = refl
is_own pl (X w (Some a) (Some b)) = refl
is_own pl (H w None) = refl
is_own pl (H w (Some a)) = refl
is_own pl (P e a) = refl
is_own pl (M w n) = refl

-- a measure is of a bit that is there and not measured before
abbrev MeasureFits : ℕ → List ℕ → Step → Type 0
MeasureFits k bits (X t a b) = Unit {0}
MeasureFits k bits (H t a) = Unit {0}
MeasureFits k bits (P e a) = Unit {0}
MeasureFits k bits (M w n) = (n < k) × (¬ Contains bits n)

measure_fits : (k : ℕ) (bits : List ℕ) (s : Step) → (is_m s ≡ true → (number_in s < k) × (¬ Contains bits (number_in s))) → MeasureFits k bits s
measure_fits k bits (X t a b) h = tt
measure_fits k bits (H t a) h = tt
measure_fits k bits (P e a) h = tt
measure_fits k bits (M w n) h = h refl

-- two wires stand on different qubits
abbrev Away : Place → Option WireId → Option WireId → Type 0
Away q a b = IfSome a (λ v. IfSome b (λ w. q v ≢ q w))

module _ (q : Place) (wide k : ℕ) (bits : List ℕ) where
  step_fits : (s : Step) → EachNamed (λ w. q w < wide) s → Away q (main_wire s) (first_wire s) → Away q (main_wire s) (second_wire s) → Away q (first_wire s) (second_wire s) → HasEighths s → MeasureFits k bits s
      → MoveFits wide k bits (own_move (on_qubits q s))
  step_fits (X t None None) b mf ms fs e m = ((tt, tt), (b.0, tt), tt)
  step_fits (X t (Some a) None) b mf ms fs e m = (((mf, tt), (tt, tt)), (b.1.0, (b.0, tt)), tt)
  step_fits (X t None (Some c)) b mf ms fs e m = (((ms, tt), (tt, tt)), (b.1.1, (b.0, tt)), tt)
  step_fits (X t (Some a) (Some c)) b mf ms fs e m = (((λ g. fs (sym g), (mf, tt)), ((ms, tt), (tt, tt))), (b.1.0, (b.1.1, (b.0, tt))), tt)
  step_fits (H t None) b mf ms fs e m = ((tt, tt), (b.0, tt), tt)
  step_fits (H t (Some a)) b mf ms fs e m = (((mf, tt), (tt, tt)), (b.1.0, (b.0, tt)), tt)
  step_fits (P n a) b mf ms fs e m = ((tt, tt), (b.1.0, tt), e)
  step_fits (M w n) b mf ms fs e m = (b.0, m.0, m.1)

-- the measured bits after a step
abbrev measured_in : List ℕ → Step → List ℕ
measured_in bits (X t a b) = bits
measured_in bits (H t a) = bits
measured_in bits (P e a) = bits
measured_in bits (M w n) = n ∷ bits

after_step : (bits : List ℕ) (pl : Placed) (s : Step) → measured_after bits (move_of_step pl s) ≡ measured_in bits s
after_step bits pl (X w None None) = refl
after_step bits pl (X w (Some a) None) = refl
after_step bits pl (X w None (Some b)) = refl
after_step bits pl (X w (Some a) (Some b)) = refl
after_step bits pl (H w None) = refl
after_step bits pl (H w (Some a)) = refl
after_step bits pl (P e a) = refl
after_step bits pl (M w n) = refl

after_freed : (bits : List ℕ) (e : End) (q : Option ℕ) (bit : ℕ) → measured_after bits (freed_move e q bit) ≡ bits
after_freed bits MeasuredWire (Some q) bit = refl
after_freed bits MeasuredWire None bit = refl
after_freed bits Output q bit = refl
after_freed bits Dropped q bit = refl
after_freed bits Zeroed q bit = refl

in_measured : (bits : List ℕ) (s : Step) (b : ℕ) → Contains (measured_in bits s) b → ((is_m s ≡ true) × (number_in s ≡ b)) ⊎ Contains bits b
in_measured bits (X t a c) b h = inr h
in_measured bits (H t a) b h = inr h
in_measured bits (P e a) b h = inr h
in_measured bits (M w n) b h = elim (contains_cases n bits b h) [ inl e ↦ inl (refl, e) | inr c ↦ inr c ]

still_measured : (bits : List ℕ) (s : Step) (b : ℕ) → Contains bits b → Contains (measured_in bits s) b
still_measured bits (X t a c) b h = h
still_measured bits (H t a) b h = h
still_measured bits (P e a) b h = h
still_measured bits (M w n) b h = (suc h.0, omega (arith, h.1), h.2)

now_measured : (bits : List ℕ) (s : Step) (w : WireId) → measures w s ≡ true → Contains (measured_in bits s) (bit_in s)
now_measured bits (X t a c) w h = absurd (cc)
now_measured bits (H t a) w h = absurd (cc)
now_measured bits (P e a) w h = absurd (cc)
now_measured bits (M v n) w h = (0, omega arith, refl)

undone_not_m : (f : FlatForm) (s : Step) → undone_step f s ≡ true → is_m s ≡ true → ⊥
undone_not_m f (X t a b) u m = cc
undone_not_m f (H t a) u m = cc
undone_not_m f (P e a) u m = cc
undone_not_m f (M w n) u m = cc

-- the measured bits are those of the measures that are done, and the bit of each measured wire is one of them
record IsKnown (f : FlatForm) (p : Progress) (bits : List ℕ) : Type 0 where
  of_bits : (b : ℕ) → Contains bits b → (s : StepId) × (s.number < length f.steps) × (is_m (step_at f s) ≡ true) × (number_in (step_at f s) ≡ b) × (p.done s ≡ true)
  of_wires : (w : WireId) → p.measured w ≡ true → Contains bits (number_of f.steps w)

abbrev bits_after : FlatForm → List ℕ → Move → List ℕ
bits_after f bits (Up s) = measured_in bits (step_at f s)
bits_after f bits (Down s) = measured_in bits (step_at f s)
bits_after f bits (Do s) = measured_in bits (step_at f s)
bits_after f bits (Free w) = bits

after_move : (f : FlatForm) (p : Progress) (place : Place) (bits : List ℕ) (m : Move) → measured_after bits (move_of_placed (placed_of f p place m)) ≡ bits_after f bits m
after_move f p place bits (Up s) = after_step bits (placed_of f p place (Up s)) (step_at f s)
after_move f p place bits (Down s) = after_step bits (placed_of f p place (Down s)) (step_at f s)
after_move f p place bits (Do s) = after_step bits (placed_of f p place (Do s)) (step_at f s)
after_move f p place bits (Free w) = after_freed bits (end_of f w) _ _

module _ (f : FlatForm) (ok : IsFlat f) where
  known_start : IsKnown f at_start []
  known_start = record { of_bits = λ b c. absurd (omega (arith, c.1)); of_wires = λ w h. absurd (cc) }

  known_move : (p : Progress) (bits : List ℕ) (m : Move) → Stands f p m → IsKnown f p bits → IsKnown f (moved f p m) (bits_after f bits m)
  known_move p bits (Up s) st known = record {
    of_bits = λ b c. elim (in_measured bits (step_at f s) b c) [ inl h ↦ absurd (undone_not_m f (step_at f s) st.0 h.0) | inr old ↦ known.of_bits b old ];
    of_wires = λ w h. still_measured bits (step_at f s) (number_of f.steps w) (known.of_wires w h);
  }
  known_move p bits (Down s) st known = record {
    of_bits = λ b c. elim (in_measured bits (step_at f s) b c) [ inl h ↦ absurd (undone_not_m f (step_at f s) st.0 h.0) | inr old ↦ known.of_bits b old ];
    of_wires = λ w h. still_measured bits (step_at f s) (number_of f.steps w) (known.of_wires w h);
  }
  known_move p bits (Do s) st known = record {
    of_bits = λ b c. elim (in_measured bits (step_at f s) b c) [
      | inl h ↦ (s, st.2.step, h.0, h.1, or_left _ (p.done s) (eq-eqb s.number s.number refl))
      | inr old ↦ let k = known.of_bits b old in (k.0, k.1, k.2, k.3, or_right _ (p.done k.0) k.4)
    ];
    of_wires = λ w h. elim (or_cases (measures w (step_at f s)) (p.measured w) h) [
      | inl m ↦ subst (λ b. Contains (measured_in bits (step_at f s)) b) (sym (number_is f ok s w st.2.step m)) (now_measured bits (step_at f s) w m)
      | inr old ↦ still_measured bits (step_at f s) (number_of f.steps w) (known.of_wires w old)
    ];
  }
  known_move p bits (Free w) st known = record { of_bits = known.of_bits; of_wires = known.of_wires }

  new_bit : (p : Progress) (bits : List ℕ) (s : StepId) → Stands f p (Do s) → IsKnown f p bits → is_m (step_at f s) ≡ true → (number_in (step_at f s) < f.outcomes) × (¬ Contains bits (number_in (step_at f s)))
  new_bit p bits s st known m = (
    number_below f ok s st.2.step m,
    λ c. let k = known.of_bits (number_in (step_at f s)) c in
        let same : k.0 ≡ s = one_number f ok k.0 s k.1 st.2.step k.2 m k.3 in
        both_ways (p.done s) st.1 (ap p.done (sym same) ∙ k.4),
  )

  module _ (wide : ℕ) where
    away : (on : WireId → Bool) (q : Place) → IsPlaced f on wide q → (a b : Option WireId) → IfSome a (λ w. (w.number < length f.wires) × (on w ≡ true)) → IfSome b (λ w. (w.number < length f.wires) × (on w ≡ true)) → Apart a b → Away q a b
    away on q pl None b ha hb d = tt
    away on q pl (Some v) None ha hb d = tt
    away on q pl (Some v) (Some w) ha hb d = λ e. d (ap (λ (x : WireId). x.number) (pl.apart v w ha.0 hb.0 ha.1 hb.1 e))

    -- a step on the qubits of its wires
    held_fits : (on : WireId → Bool) (q : Place) (bits : List ℕ) (s : StepId) (pl : Placed) → s.number < length f.steps → step_placed pl (step_at f s) ≡ on_qubits q (step_at f s) → IsPlaced f on wide q → Holds f on (step_at f s)
        → MeasureFits f.outcomes bits (step_at f s) → MoveFits wide f.outcomes bits (move_of_step pl (step_at f s))
    held_fits on q bits s pl lt e placed held m =
        let d = ok.differ s lt in
        let h = held.all in
        subst (MoveFits wide f.outcomes bits) (sym (is_own pl (step_at f s) ∙ ap own_move e))
        (step_fits q wide f.outcomes bits (step_at f s)
        (named_map (λ w. (w.number < length f.wires) × (on w ≡ true)) (λ w. q w < wide) (λ w k. placed.below w k.0 k.1) (step_at f s) h)
        (away on q placed (main_wire (step_at f s)) (first_wire (step_at f s)) h.0 h.1.0 d.0)
        (away on q placed (main_wire (step_at f s)) (second_wire (step_at f s)) h.0 h.1.1 d.1)
        (away on q placed (first_wire (step_at f s)) (second_wire (step_at f s)) h.1.0 h.1.1 d.2)
        (ok.eighths s lt) m)

    -- to undo a step no wire is placed
    down_place : (p : Progress) (place : Place) (s : StepId) → Stands f p (Down s) → place_move f p place (Down s) ≡ place
    down_place p place s st = by (main_wire (step_at f s)) refl
      where
        by : (o : Option WireId) → main_wire (step_at f s) ≡ o → place_if_any f (live f p) place o ≡ place
        by None e = refl
        by (Some w) e = ap (λ b. cond b place (put_on w (least_free f (live f p) place) place)) (down_live f p s w st e)

    -- a freed wire
    free_fits : (p : Progress) (place : Place) (bits : List ℕ) (w : WireId) → Stands f p (Free w) → IsPlaced f (live f p) wide place → IsKnown f p bits → MoveFits wide f.outcomes bits (move_of_placed (placed_of f p place (Free w)))
    free_fits p place bits w st placed known = by (end_of f w) refl
      where
        told : p.measured w ≡ true → live f p w ≡ true
        told m = live_from f p w (record { kept = st.at_top.kept; why = inr (inr m) })

        there : end_of f w ≡ MeasuredWire → w.number < length f.wires
        there e = elim (cases_lt w.number (length f.wires)) [
          | inl l ↦ l
          | inr past ↦ let no : Output ≡ MeasuredWire = sym (end_past f ok w past) ∙ e in absurd (cc)
        ]

        by : (e : End) → end_of f w ≡ e → MoveFits wide f.outcomes bits (freed_move e (qubit_in f p place (Free w) (Some w)) (cond (is_measured e) (number_of f.steps w) 0))
        by Output e = tt
        by Dropped e = tt
        by Zeroed e = tt
        by MeasuredWire e =
            let m = st.measured e in
            let on : qubit_in f p place (Free w) (Some w) ≡ Some (place w) = ap (λ b. cond b (Some (place w)) None) (or_left (live f p w) (live f (moved f p (Free w)) w) (told m)) in
            subst (λ o. MoveFits wide f.outcomes bits (freed_move MeasuredWire o (number_of f.steps w))) (sym on) (placed.below w (there e) (told m), known.of_wires w m)

    move_fits : (p : Progress) (place : Place) (bits : List ℕ) (m : Move) → Stands f p m → IsPlaced f (live f p) wide place → IsPlaced f (live f (moved f p m)) wide (place_move f p place m) → IsKnown f p bits
        → MoveFits wide f.outcomes bits (move_of_placed (placed_of f p place m))
    move_fits p place bits (Up s) st placed after known =
        held_fits (live f (moved f p (Up s))) (place_move f p place (Up s)) bits s (placed_of f p place (Up s)) st.1.step (step_up f ok p place s st) after (held_up f ok p s st)
        (measure_fits f.outcomes bits (step_at f s) (λ m. absurd (undone_not_m f (step_at f s) st.0 m)))
    move_fits p place bits (Down s) st placed after known =
        held_fits (live f p) (place_move f p place (Down s)) bits s (placed_of f p place (Down s)) st.1.step (step_down f ok p place s st) (subst (IsPlaced f (live f p) wide) (sym (down_place p place s st)) placed) (held_down f ok p s st)
        (measure_fits f.outcomes bits (step_at f s) (λ m. absurd (undone_not_m f (step_at f s) st.0 m)))
    move_fits p place bits (Do s) st placed after known =
        held_fits (live f (moved f p (Do s))) (place_move f p place (Do s)) bits s (placed_of f p place (Do s)) st.2.step (step_do f ok p place s st) after (held_do f ok p s st)
        (measure_fits f.outcomes bits (step_at f s) (new_bit p bits s st known))
    move_fits p place bits (Free w) st placed after known = free_fits p place bits w st placed known

    all_fit : (ms : List Move) (p : Progress) (place : Place) (bits : List ℕ) → AllStand f p ms → width_from f p ms ≤ wide → IsPlaced f (live f p) wide place → IsKnown f p bits → Sound wide f.outcomes bits (map move_of_placed (placed_from f p place ms))
    all_fit [] p place bits st fits placed known = tt
    all_fit (m ∷ ms) p place bits st fits placed known =
        let less : count_wires f (live f (moved f p m)) ≤ width_from f (moved f p m) ms = width_from-ge f (moved f p m) ms in
        let rest : width_from f (moved f p m) ms ≤ wide = omega (arith, fits) in
        let after : IsPlaced f (live f (moved f p m)) wide (place_move f p place m) = placed_move f ok wide p place m st.0 (omega (arith, less, rest)) placed in (
          move_fits p place bits m st.0 placed after known,
          subst (λ bs. Sound wide f.outcomes bs (map move_of_placed (placed_from f (moved f p m) (place_move f p place m) ms))) (sym (after_move f p place bits m))
              (all_fit ms (moved f p m) (place_move f p place m) (bits_after f bits m) st.1 rest after (known_move p bits m st.0 known)),
        )

    pub plan_fits : (moves : List Move) → IsPlan f moves → width f moves ≤ wide → Sound wide f.outcomes [] (plan_moves f moves)
    plan_fits moves plan fits =
        let less : count_wires f (live f at_start) ≤ width f moves = width_from-ge f at_start moves in
        all_fit moves at_start (first_place f) [] plan.stand fits (placed_start f wide (omega (arith, less, fits))) known_start
