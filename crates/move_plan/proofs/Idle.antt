-- Wires that are not live are 0 in each term.
use Rattle.std.proofs.Common.{◌≡◌, ℕ, zero, suc, pred, ◌<◌, ◌≤◌, inl, inr, Bool, true, false, cond, not, nat_lt, ◌==◌, ◌&&◌, ◌||◌, List, [], ◌∷◌, length, All, refl, sym, ◌∙◌, ap, ap₂, subst, arith, eq-eqb, zero-le, le_of_lt, ltb-false}
use Rattle.std.proofs.lemmas.Bool.{both_ways, or_cases, or_left, or_right, or_parts}
use Rattle.std.proofs.lemmas.List.Elements.{All-nil, All-cons}
use Rattle.flat_core.specs.declared.step.End.{End}
use Rattle.flat_core.specs.declared.step.End.TheVariants.{Output, Dropped, Measured, Zeroed}
use Rattle.flat_core.specs.declared.step.WireId.{WireId}
use Rattle.flat_core.specs.declared.step.StepId.{StepId}
use Rattle.flat_core.specs.Form.{FlatForm}
use Rattle.flat_core.specs.Label.{changes, same_wire, step_at, end_of, is_input, top}
use Rattle.flat_core.specs.Ends.{is_freed, freed, measures}
use Rattle.flat_core.specs.Sound.{IsFlat}
use Rattle.flat_core.proofs.Labels.{same_wire_is}
use Rattle.flat_mean.specs.Row.{Row, put, flipped, agrees}
use Rattle.flat_mean.specs.Path.{row_at, choices_at}
use Rattle.flat_mean.specs.Terms.{Term, first_term, total}
use Rattle.flat_mean.proofs.Sums.{IsSum, sum_taken}
use Rattle.flat_mean.proofs.Below.{all_below_at, and_right}
use Rattle.flat_mean.proofs.Values.{value_at, value-row}
use Rattle.move_plan.specs.declared.moves.Move.{Move}
use Rattle.move_plan.specs.declared.moves.Move.TheVariants.{Up, Down, Do, Free}
use Rattle.move_plan.specs.Progress.{Progress, StepStands, Stands, at_start, moved, AllStand, progress}
use Rattle.move_plan.specs.Effect.{is_measured, number_of, do_moves}
use Rattle.move_plan.specs.Live.{live}
use Rattle.move_plan.specs.Laws.{IsInput, ZeroedAreZero, IdleAreZero}
use Rattle.move_plan.proofs.PathRows.{path_row, not_freed}
use Rattle.move_plan.proofs.Fixed.{Fixed}
use Rattle.move_plan.proofs.Prefix.{Reached, reached_start, fits, alive}
use Rattle.move_plan.proofs.Measures.{measured_last}
use Rattle.move_plan.proofs.Final.{reached_all, measured_value, flipped_self}
use Rattle.move_plan.proofs.Extend.{zeroed_zero}

-- a measure that is done
pub record MeasureDone (f : FlatForm) (p : Progress) (w : WireId) : Type 0 where
  pub step : StepId
  pub there : step.number < length f.steps
  pub of : measures w (step_at f step) ≡ true
  pub done : p.done step ≡ true

-- what is known of freed and measured wires
pub record Tracked (f : FlatForm) (p : Progress) : Type 0 where
  pub at_top : (w : WireId) → p.gone w ≡ true → p.label w ≡ top f w
  pub ending : (w : WireId) → p.gone w ≡ true → freed f w ≡ true
  pub cleared : (w : WireId) → p.gone w ≡ true → end_of f w ≡ Measured → p.measured w ≡ true
  pub measured : (w : WireId) → p.measured w ≡ true → MeasureDone f p w

module _ (f : FlatForm) where
  pub tracked_start : Tracked f at_start
  tracked_start = record { at_top = λ w h. absurd (cc); ending = λ w h. absurd (cc); cleared = λ w h e. absurd (cc); measured = λ w h. absurd (cc) }

  -- what a step changes is not freed
  keeps_label : (p : Progress) (s : StepId) (target : ℕ → ℕ) (w : WireId) (l : ℕ) → StepStands f p s target → p.gone w ≡ true → cond (changes w (step_at f s)) l (p.label w) ≡ p.label w
  keeps_label p s target w l st g = by (changes w (step_at f s)) refl
    where
      by : (b : Bool) → changes w (step_at f s) ≡ b → cond b l (p.label w) ≡ p.label w
      by true c = absurd (both_ways (p.gone w) (st.changed w c).kept g)
      by false c = refl

  keep_measure : (p p' : Progress) (w : WireId) → ((s : StepId) → p.done s ≡ true → p'.done s ≡ true) → MeasureDone f p w → MeasureDone f p' w
  keep_measure p p' w h m = record { step = m.step; there = m.there; of = m.of; done = h m.step m.done }

  pub tracked_move : (p : Progress) (m : Move) → Tracked f p → Stands f p m → Tracked f (moved f p m)
  tracked_move p (Up s) tr st = record {
    at_top = λ w g. keeps_label p s (λ n. n) w (suc (p.label w)) st.1 g ∙ tr.at_top w g;
    ending = tr.ending;
    cleared = tr.cleared;
    measured = λ w h. keep_measure p (moved f p (Up s)) w (λ k d. d) (tr.measured w h);
  }
  tracked_move p (Down s) tr st = record {
    at_top = λ w g. keeps_label p s suc w (pred (p.label w)) st.1 g ∙ tr.at_top w g;
    ending = tr.ending;
    cleared = tr.cleared;
    measured = λ w h. keep_measure p (moved f p (Down s)) w (λ k d. d) (tr.measured w h);
  }
  tracked_move p (Do s) tr st = record {
    at_top = λ w g. keeps_label p s (λ n. n) w (suc (p.label w)) st.2 g ∙ tr.at_top w g;
    ending = tr.ending;
    cleared = λ w g e. or_right (measures w (step_at f s)) (p.measured w) (tr.cleared w g e);
    measured = λ w h. elim (or_cases (measures w (step_at f s)) (p.measured w) h) [
      | inl m ↦ record { step = s; there = st.2.step; of = m; done = or_left (s.number == s.number) (p.done s) (eq-eqb s.number s.number refl) }
      | inr m ↦ keep_measure p (moved f p (Do s)) w (λ k d. or_right (k.number == s.number) (p.done k) d) (tr.measured w m)
    ];
  }
  tracked_move p (Free v) tr st = record {
    at_top = λ w g. elim (or_cases (same_wire w v) (p.gone w) g) [
      | inl e ↦ let is : w ≡ v = same_wire_is w v e in subst (λ (x : WireId). p.label x ≡ top f x) (sym is) st.at_top.at
      | inr o ↦ tr.at_top w o
    ];
    ending = λ w g. elim (or_cases (same_wire w v) (p.gone w) g) [
      | inl e ↦ let is : w ≡ v = same_wire_is w v e in subst (λ (x : WireId). freed f x ≡ true) (sym is) st.ending
      | inr o ↦ tr.ending w o
    ];
    cleared = λ w g. elim (or_cases (same_wire w v) (p.gone w) g) [
      | inl e ↦ let is : w ≡ v = same_wire_is w v e in subst (λ (x : WireId). end_of f x ≡ Measured → p.measured x ≡ true) (sym is) st.measured
      | inr o ↦ tr.cleared w o
    ];
    measured = λ w h. keep_measure p (moved f p (Free v)) w (λ k d. d) (tr.measured w h);
  }

  pub tracked_all : (ms : List Move) (p : Progress) → Tracked f p → AllStand f p ms → Tracked f (progress f p ms)
  tracked_all [] p tr st = tr
  tracked_all (m ∷ ms) p tr st = tracked_all ms (moved f p m) (tracked_move p m tr st.0) st.1

  module _ (input : Row) (outcome : ℕ → Bool) (ok : IsFlat f) (given : IsInput f input) (zeros : ZeroedAreZero f input) where
    -- a freed wire is 0 on each path through the steps done
    gone_zero : (p : Progress) (taken c : ℕ → Bool) → Fixed f input p taken → Tracked f p → alive f input outcome p c ≡ true → (w : WireId) → p.gone w ≡ true → path_row f input outcome p c w.number ≡ false
    gone_zero p taken c fx tr lives w g = by (end_of f w) refl
      where
        by : (e : End) → end_of f w ≡ e → flipped (value_at f.steps input c (length f.steps) w.number (p.label w)) (p.gone w && (is_measured e && outcome (number_of f.steps w))) ≡ false
        by Output e = absurd (both_ways (freed f w) (ap is_freed e) (tr.ending w g))
        by Dropped e = absurd (both_ways (freed f w) (ap is_freed e) (tr.ending w g))
        by Measured e =
            let d = tr.measured w (tr.cleared w g e) in
            let fit : fits f input outcome c d.step.number ≡ true = ap (λ b. cond b (fits f input outcome c d.step.number) true) (sym d.done) ∙ all_below_at (length f.steps) _ d.step.number d.there lives in
            let agree : agrees outcome (step_at f d.step) (row_at f.steps input c d.step.number) ≡ true = and_right _ (agrees outcome (step_at f d.step) (row_at f.steps input c d.step.number)) fit in
            let value : value_at f.steps input c (length f.steps) w.number (p.label w) ≡ outcome (number_of f.steps w) =
            value-row f.steps input c (length f.steps) d.step.number w.number (p.label w) (le_of_lt d.there) (measured_last f ok d.step w d.there d.of ∙ sym (tr.at_top w g))
            ∙ measured_value f input outcome ok c d.step w d.there d.of agree in
            ap₂ (λ x y. flipped x (y && outcome (number_of f.steps w))) value g ∙ flipped_self (outcome (number_of f.steps w))
        by Zeroed e =
            ap (λ b. flipped (value_at f.steps input c (length f.steps) w.number (p.label w)) (b && false)) g
            ∙ zeroed_zero f input outcome p taken c fx lives zeros w e (tr.at_top w g)

    -- a wire that is not live is 0 on each path through the steps done
    pub idle_zero : (p : Progress) (taken c : ℕ → Bool) → Fixed f input p taken → Tracked f p → alive f input outcome p c ≡ true → (w : WireId) → live f p w ≡ false → path_row f input outcome p c w.number ≡ false
    idle_zero p taken c fx tr lives w off = by (p.gone w) refl off
      where
        by : (b : Bool) → p.gone w ≡ b → (not b && (is_input f w || nat_lt 0 (p.label w) || p.measured w)) ≡ false → path_row f input outcome p c w.number ≡ false
        by true g h = gone_zero p taken c fx tr lives w g
        by false g h =
            let a = or_parts (is_input f w || nat_lt 0 (p.label w)) (p.measured w) h in
            let b = or_parts (is_input f w) (nat_lt 0 (p.label w)) a.0 in
            let low : p.label w ≤ 0 = ltb-false 0 (p.label w) b.1 in
            let none : 0 ≡ p.label w = omega arith in
            not_freed _ (p.gone w) _ g
            ∙ value-row f.steps input c (length f.steps) 0 w.number (p.label w) zero-le none
            ∙ given.zero w b.0

or_unit : (x : Bool) → (x || false) ≡ x
or_unit true = refl
or_unit false = refl

or_swap : (x y : Bool) → (x || y) ≡ (y || x)
or_swap true true = refl
or_swap true false = refl
or_swap false true = refl
or_swap false false = refl

or_group : (x y z : Bool) → ((x || y) || z) ≡ (x || (y || z))
or_group true y z = refl
or_group false y z = refl

or_sum : IsSum false ◌||◌
or_sum = record { unit = or_unit; swap = or_swap; group = or_group }

none_taken : (taken : ℕ → Bool) (m : ℕ) (g : (ℕ → Bool) → Bool) → ((c : ℕ → Bool) → g c ≡ false) → sum_taken ◌||◌ taken m g ≡ false
none_taken taken zero g h = h (λ _. false)
none_taken taken (suc m) g h = by (taken m) (none_taken taken m (λ c. g (put m false c)) (λ c. h (put m false c))) (none_taken taken m (λ c. g (put m true c)) (λ c. h (put m true c))) (none_taken taken m g h)
  where
    by : (b : Bool) {x y z : Bool} → x ≡ false → y ≡ false → z ≡ false → cond b (x || y) z ≡ false
    by true {x} {y} ex ey ez = ap₂ ◌||◌ ex ey
    by false ex ey ez = ez

no_term : (g : Term → Bool) (ts : List Term) → total false ◌||◌ g ts ≡ false → All (λ t. g t ≡ false) ts
no_term g [] h = All-nil (λ t. g t ≡ false)
no_term g (t ∷ ts) h = let e = or_parts (g t) (total false ◌||◌ g ts) h in All-cons (λ t. g t ≡ false) t ts e.0 (no_term g ts e.1)

only_alive : (a b : Bool) → (a ≡ true → b ≡ false) → cond a b false ≡ false
only_alive true b h = h refl
only_alive false b h = refl

idle_terms : (f : FlatForm) (input : Row) (outcome : ℕ → Bool) → IsFlat f → IsInput f input → ZeroedAreZero f input → (p : Progress) (ts : List Term)
    → Reached f input outcome false ◌||◌ or_sum p ts → Tracked f p → (w : WireId) → live f p w ≡ false → All (λ t. t.row w.number ≡ false) ts
idle_terms f input outcome ok given zeros p ts re tr w off =
    no_term (λ t. t.row w.number) ts (re.totals (λ t. t.row w.number) ∙ none_taken re.taken (choices_at f.steps (length f.steps)) _ (λ c.
    only_alive (alive f input outcome p c) (path_row f input outcome p c w.number) (λ lives. idle_zero f input outcome ok given zeros p re.taken c re.fixed tr lives w off)))

pub idle_are_zero : IdleAreZero
idle_are_zero f input outcome moves ok given zeros st w off =
    let p = progress f at_start moves in
    let re : Reached f input outcome false ◌||◌ or_sum p (do_moves f outcome moves (first_term input ∷ [])) = reached_all f input outcome false ◌||◌ or_sum ok moves at_start (first_term input ∷ []) (reached_start f input outcome false ◌||◌ or_sum) st in
    idle_terms f input outcome ok given zeros p (do_moves f outcome moves (first_term input ∷ [])) re (tracked_all f moves at_start (tracked_start f) st) w off
