-- A whole valid list of moves gives what the paths give.
use Rattle.std.proofs.Common.{◌≡◌, ℕ, zero, suc, ◌<◌, ◌≤◌, ◌⊎◌, inl, inr, Bool, true, false, cond, ◌&&◌, List, [], ◌∷◌, length, refl, sym, ◌∙◌, ap, ap₂, arith, zero-le, le_refl, le-leb, le_of_lt}
use Rattle.std.proofs.lemmas.Bool.{cases_lt}
use Rattle.std.proofs.Math.Path.{fun_ext}
use Rattle.flat_core.specs.declared.step.Step.{Step}
use Rattle.flat_core.specs.declared.step.Step.TheVariants.{X, H, P, M}
use Rattle.flat_core.specs.declared.step.End.{End}
use Rattle.flat_core.specs.declared.step.End.TheVariants.{Output, Dropped, Measured, Zeroed}
use Rattle.flat_core.specs.declared.step.WireId.{WireId}
use Rattle.flat_core.specs.declared.step.StepId.{StepId}
use Rattle.flat_core.specs.Form.{FlatForm}
use Rattle.flat_core.specs.Label.{wire_id, step_id, step_at, end_of, top}
use Rattle.flat_core.specs.Ends.{is_dropped, is_freed, measures, undone_step}
use Rattle.flat_core.specs.Sound.{IsFlat}
use Rattle.flat_core.proofs.Labels.{same_wire_is}
use Rattle.flat_mean.specs.Row.{Row, flipped, is_possible, agrees, halvings, eighths}
use Rattle.flat_mean.specs.Path.{step_number, row_at, choices_at, count_choices, possible_path, path_agrees, sum_choices}
use Rattle.flat_mean.specs.Terms.{Term, first_term, each, total}
use Rattle.flat_mean.specs.Laws.{counts}
use Rattle.flat_mean.proofs.Sums.{IsSum, sum_taken_ext, sum_taken_all}
use Rattle.flat_mean.proofs.Below.{sum_below_ext, all_below_ext, all_below_at, and_left, and_right, all_below_and}
use Rattle.flat_mean.proofs.Values.{label_at, value_at, value-row, row_stays}
use Rattle.flat_mean.proofs.Choices.{Chooses, chooses}
use Rattle.flat_mean.proofs.Local.{beq_true}
use Rattle.move_plan.specs.declared.moves.Move.{Move}
use Rattle.move_plan.specs.Progress.{Progress, at_start, moved, AllStand, progress, IsEnd, IsPlan}
use Rattle.move_plan.specs.Effect.{is_measured, is_output, number_of, do_move, do_moves}
use Rattle.move_plan.specs.Laws.{IsInput, ZeroedAreZero, end_row, end_term}
use Rattle.move_plan.proofs.Standing.{h_lasts}
use Rattle.move_plan.proofs.PathRows.{path_row, not_freed}
use Rattle.move_plan.proofs.Prefix.{Reached, reached_start, reached_move, path_term, alive, term_eq}
use Rattle.move_plan.proofs.Measures.{bit_of, number_is, measured_last, end_past, top_past, top-at}

pub flipped_self : (a : Bool) → flipped a a ≡ false
flipped_self true = refl
flipped_self false = refl

-- what a measure that agrees with its outcome bit has measured
pub agreed : (s : Step) (w : WireId) (outcome : ℕ → Bool) (r : Row) → measures w s ≡ true → agrees outcome s r ≡ true → r w.number ≡ outcome (bit_of s)
agreed (X t a b) w outcome r m h = absurd (cc)
agreed (H t a) w outcome r m h = absurd (cc)
agreed (P e a) w outcome r m h = absurd (cc)
agreed (M v n) w outcome r m h = ap (λ (x : WireId). r x.number) (sym (same_wire_is v w m)) ∙ beq_true (r v.number) (outcome n) h

module _ (f : FlatForm) (input : Row) (outcome : ℕ → Bool) where
  -- past its top a wire keeps its value
  value-top : (c : ℕ → Bool) (n q l : ℕ) → label_at f.steps n q ≤ l → value_at f.steps input c n q l ≡ row_at f.steps input c n q
  value-top c zero q l h = refl
  value-top c (suc n) q l h = ap (λ b. cond b (row_at f.steps input c (suc n) q) (value_at f.steps input c n q l)) (le-leb _ _ h)

  -- where a measure agrees, the value at the top is the outcome bit
  pub measured_value : IsFlat f → (c : ℕ → Bool) (s : StepId) (w : WireId) → s.number < length f.steps → measures w (step_at f s) ≡ true → agrees outcome (step_at f s) (row_at f.steps input c s.number) ≡ true
      → row_at f.steps input c s.number w.number ≡ outcome (number_of f.steps w)
  measured_value ok c s w lt m h = agreed (step_at f s) w outcome (row_at f.steps input c s.number) m h ∙ ap outcome (sym (number_is f ok s w lt m))

  measured-at : IsFlat f → (c : ℕ → Bool) → counts f.steps input outcome c ≡ true → (w : WireId) → end_of f w ≡ Measured → row_at f.steps input c (length f.steps) w.number ≡ outcome (number_of f.steps w)
  measured-at ok c live w e =
      let m = ok.measured_has_m w e in
      let agree : agrees outcome (step_at f m.0) (row_at f.steps input c m.0.number) ≡ true = all_below_at (length f.steps) (λ k. agrees outcome (step_number f.steps k) (row_at f.steps input c k)) m.0.number m.1 (and_right (possible_path f.steps input c) (path_agrees f.steps input outcome c) live) in
      sym (row_stays f.steps input c (length f.steps) m.0.number w.number (le_of_lt m.1) (measured_last f ok m.0 w m.1 m.2 ∙ sym (top-at f w)))
      ∙ measured_value ok c m.0 w m.1 m.2 agree

  -- the row at the end of the moves, on a path that counts
  end-row : IsFlat f → IsInput f input → ZeroedAreZero f input → (p : Progress) → IsEnd f p → (c : ℕ → Bool) → counts f.steps input outcome c ≡ true → (q : ℕ) → path_row f input outcome p c q ≡ end_row f input c q
  end-row ok given zeros p end c live q = by (cases_lt q (length f.wires))
    where
      plain : (x a b : Bool) → b ≡ false → flipped x (a && (b && outcome (number_of f.steps (wire_id q)))) ≡ x
      plain x true b h = not_freed x b (outcome (number_of f.steps (wire_id q))) h
      plain x false b h = refl

      at_top : p.label (wire_id q) ≡ top f (wire_id q) → value_at f.steps input c (length f.steps) q (p.label (wire_id q)) ≡ row_at f.steps input c (length f.steps) q
      at_top e = value-row f.steps input c (length f.steps) (length f.steps) q (p.label (wire_id q)) (le_refl _) (top-at f (wire_id q) ∙ sym e)

      inside : q < length f.wires → (e : End) → end_of f (wire_id q) ≡ e
          → flipped (value_at f.steps input c (length f.steps) q (p.label (wire_id q))) (p.gone (wire_id q) && (is_measured e && outcome (number_of f.steps (wire_id q)))) ≡ cond (is_output e) (row_at f.steps input c (length f.steps) q) false
      inside lt Output e = plain _ (p.gone (wire_id q)) false refl ∙ at_top (end.at_top (wire_id q) lt (ap is_dropped e))
      inside lt Dropped e =
          plain _ (p.gone (wire_id q)) false refl
          ∙ value-row f.steps input c (length f.steps) 0 q (p.label (wire_id q)) zero-le (sym (end.at_bottom (wire_id q) lt (ap is_dropped e)))
          ∙ given.zero (wire_id q) (ok.dropped_is_new (wire_id q) e)
      inside lt Measured e =
          ap₂ (λ x b. flipped x (b && outcome (number_of f.steps (wire_id q)))) (at_top (end.at_top (wire_id q) lt (ap is_dropped e)) ∙ measured-at ok c live (wire_id q) e) (end.all_gone (wire_id q) (ap is_freed e))
          ∙ flipped_self (outcome (number_of f.steps (wire_id q)))
      inside lt Zeroed e =
          plain _ (p.gone (wire_id q)) false refl
          ∙ at_top (end.at_top (wire_id q) lt (ap is_dropped e))
          ∙ zeros.zero c (and_left (possible_path f.steps input c) (path_agrees f.steps input outcome c) live) (wire_id q) e

      by : (q < length f.wires) ⊎ (length f.wires ≤ q) → path_row f input outcome p c q ≡ end_row f input c q
      by (inl lt) = inside lt (end_of f (wire_id q)) refl
      by (inr past) =
          let out : end_of f (wire_id q) ≡ Output = end_past f ok (wire_id q) past in
          let low : label_at f.steps (length f.steps) q ≡ 0 = top-at f (wire_id q) ∙ top_past f ok (wire_id q) past in
          ap (λ e. flipped (value_at f.steps input c (length f.steps) q (p.label (wire_id q))) (p.gone (wire_id q) && (is_measured e && outcome (number_of f.steps (wire_id q))))) out
          ∙ plain _ (p.gone (wire_id q)) false refl
          ∙ value-top c (length f.steps) q (p.label (wire_id q)) (omega (arith, low))
          ∙ sym (ap (λ e. cond (is_output e) (row_at f.steps input c (length f.steps) q) false) out)

  -- steps that Up and Down move have no factor
  x_fits : (s : Step) (k : Bool) (r : Row) → undone_step f s ≡ true → (is_possible s k r && agrees outcome s r) ≡ true
  x_fits (X t a b) k r h = refl
  x_fits (H t a) k r h = absurd (cc)
  x_fits (P e a) k r h = refl
  x_fits (M w n) k r h = absurd (cc)

  x_halvings : (s : Step) (r : Row) → undone_step f s ≡ true → halvings s r ≡ 0
  x_halvings (X t a b) r h = refl
  x_halvings (H t a) r h = absurd (cc)
  x_halvings (P e a) r h = refl
  x_halvings (M w n) r h = refl

  x_eighths : (s : Step) (k : Bool) (r : Row) → undone_step f s ≡ true → eighths s k r ≡ 0
  x_eighths (X t a b) k r h = refl
  x_eighths (H t a) k r h = absurd (cc)
  x_eighths (P e a) k r h = absurd (cc)
  x_eighths (M w n) k r h = refl

  when : {A : Type 0} (p : Progress) → IsEnd f p → (k : ℕ) → k < length f.steps → (x z : A) → (undone_step f (step_number f.steps k) ≡ true → x ≡ z) → cond (p.done (step_id k)) x z ≡ x
  when {A} p end k lt x z h = by (undone_step f (step_number f.steps k)) refl
    where
      same : (b : Bool) → x ≡ z → cond b x z ≡ x
      same true e = refl
      same false e = sym e

      by : (b : Bool) → undone_step f (step_number f.steps k) ≡ b → cond (p.done (step_id k)) x z ≡ x
      by true r = same (p.done (step_id k)) (h r)
      by false r = ap (λ b. cond b x z) (end.all_done (step_id k) lt r)

  alive-end : (p : Progress) → IsEnd f p → (c : ℕ → Bool) → alive f input outcome p c ≡ counts f.steps input outcome c
  alive-end p end c =
      all_below_ext (length f.steps) _ _ (λ k lt. when p end k lt _ true (x_fits (step_number f.steps k) (c (choices_at f.steps k)) (row_at f.steps input c k)))
      ∙ all_below_and (length f.steps) (λ k. is_possible (step_number f.steps k) (c (choices_at f.steps k)) (row_at f.steps input c k)) (λ k. agrees outcome (step_number f.steps k) (row_at f.steps input c k))

  term-end : IsFlat f → IsInput f input → ZeroedAreZero f input → (p : Progress) → IsEnd f p → (c : ℕ → Bool) → counts f.steps input outcome c ≡ true → path_term f input outcome p c ≡ end_term f input c
  term-end ok given zeros p end c live = term_eq _ _ _ _ _ _
      (fun_ext (end-row ok given zeros p end c live))
      (sum_below_ext (length f.steps) _ _ (λ k lt. when p end k lt _ 0 (x_halvings (step_number f.steps k) (row_at f.steps input c k))))
      (sum_below_ext (length f.steps) _ _ (λ k lt. when p end k lt _ 0 (x_eighths (step_number f.steps k) (c (choices_at f.steps k)) (row_at f.steps input c k))))

  module _ {S : Type 0} (none : S) (plus : S → S → S) (laws : IsSum none plus) where
    pub reached_all : IsFlat f → (ms : List Move) (p : Progress) (ts : List Term) → Reached f input outcome none plus laws p ts → AllStand f p ms → Reached f input outcome none plus laws (progress f p ms) (do_moves f outcome ms ts)
    reached_all ok [] p ts re st = re
    reached_all ok (m ∷ ms) p ts re st = reached_all ok ms (moved f p m) (each (do_move f outcome m) ts) (reached_move f input outcome none plus laws ok p ts m re st.0) st.1

    when_counts : (a b : Bool) (x y : S) → a ≡ b → (b ≡ true → x ≡ y) → cond a x none ≡ cond b y none
    when_counts a true x y e h = ap (λ v. cond v x none) e ∙ h refl
    when_counts a false x y e h = ap (λ v. cond v x none) e

    pub moves_give_paths : IsFlat f → IsInput f input → ZeroedAreZero f input → (moves : List Move) → IsPlan f moves → (g : Term → S)
        → total none plus g (do_moves f outcome moves (first_term input ∷ [])) ≡ sum_choices plus (count_choices f.steps) (λ c. cond (counts f.steps input outcome c) (g (end_term f input c)) none)
    moves_give_paths ok given zeros moves plan g =
        let end : Progress = progress f at_start moves in
        let re : Reached f input outcome none plus laws end (do_moves f outcome moves (first_term input ∷ [])) = reached_all ok moves at_start (first_term input ∷ []) (reached_start f input outcome none plus laws) plan.stand in
        let all : (j : ℕ) → j < choices_at f.steps (length f.steps) → re.taken j ≡ true =
        λ j lt. let h : Chooses f.steps (length f.steps) j = chooses f.steps (length f.steps) j lt in
        ap re.taken (sym h.number) ∙ (re.fixed.number (step_id h.step) h.below h.is ∙ plan.end.all_done (step_id h.step) h.below (h_lasts f (step_number f.steps h.step) h.is)) in
        re.totals g
        ∙ (sum_taken_ext plus re.taken (choices_at f.steps (length f.steps)) _ _ (λ c.
        when_counts _ _ _ _ (alive-end end plan.end c) (λ live. ap g (term-end ok given zeros end plan.end c live)))
        ∙ sum_taken_all plus re.taken (choices_at f.steps (length f.steps)) _ all)
