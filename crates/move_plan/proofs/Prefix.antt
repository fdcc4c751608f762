-- After any moves that may come the terms are the paths through the steps done.
use Rattle.std.proofs.Common.{◌≡◌, ℕ, zero, suc, ◌+◌, ◌<◌, Bool, true, false, cond, ◌||◌, ◌==◌, ◌&&◌, List, [], ◌∷◌, length, refl, sym, ◌∙◌, ap, ap₂, arith, eqb-true, add-zero, zero-le}
use Rattle.std.proofs.Math.Path.{fun_ext}
use Rattle.flat_core.specs.declared.step.Step.{Step}
use Rattle.flat_core.specs.declared.step.Step.TheVariants.{X, H, P, M}
use Rattle.flat_core.specs.declared.step.WireId.{WireId}
use Rattle.flat_core.specs.declared.step.StepId.{StepId}
use Rattle.flat_core.specs.Form.{FlatForm}
use Rattle.flat_core.specs.Label.{wire_id, step_id, step_at}
use Rattle.flat_core.specs.Ends.{undone_step}
use Rattle.flat_core.specs.Sound.{IsFlat}
use Rattle.flat_mean.specs.Row.{Row, put, flipped, is_h, next, is_possible, agrees, halvings, eighths}
use Rattle.flat_mean.specs.Path.{step_number, row_at, choices_at, sum_below, all_below}
use Rattle.flat_mean.specs.Terms.{Term, first_term, do_step, each, total}
use Rattle.flat_mean.proofs.Sums.{IsSum, sum_taken, sum_taken_ext, sum_taken_more, sum_taken_none, put-same, put-other}
use Rattle.flat_mean.proofs.Below.{sum_done, all_done, sum_done_more, all_done_more, sum_below_ext, all_below_ext}
use Rattle.flat_mean.proofs.Values.{value_at, value-row}
use Rattle.flat_mean.proofs.Choices.{choices_less}
use Rattle.flat_mean.proofs.Local.{AgreeOn, possible_bit, eighths_bit, possible_same, agrees_same, halvings_same, eighths_same}
use Rattle.flat_mean.proofs.Early.{bit_eq, next_bit}
use Rattle.flat_mean.proofs.Totals.{term, stepped, part, total-each, total-step_h, total-step_one, cond_and, cond_plus_none}
use Rattle.move_plan.specs.declared.moves.Move.{Move}
use Rattle.move_plan.specs.declared.moves.Move.TheVariants.{Up, Down, Do, Free}
use Rattle.move_plan.specs.Progress.{Progress, Stands, at_start, moved}
use Rattle.move_plan.specs.Effect.{flip_at, freed_row, do_move}
use Rattle.move_plan.proofs.Standing.{AtLabels, at_before, at_after, flat_differ, undone_not_h}
use Rattle.move_plan.proofs.PathRows.{path_row, named, not_freed, row_up, row_down}
use Rattle.move_plan.proofs.Fixed.{Same, Fixed, take_bit, fixed_start, fixed_do, value_up, value_down}

-- the steps done, by their numbers
abbrev pub done_at : Progress → ℕ → Bool
done_at p k = p.done (step_id k)

-- the term of a path, from the steps done so far
abbrev pub path_term : FlatForm → Row → (ℕ → Bool) → Progress → (ℕ → Bool) → Term
path_term f input outcome p c =
    term (path_row f input outcome p c)
    (sum_done (length f.steps) (done_at p) (λ k. halvings (step_number f.steps k) (row_at f.steps input c k)))
    (sum_done (length f.steps) (done_at p) (λ k. eighths (step_number f.steps k) (c (choices_at f.steps k)) (row_at f.steps input c k)))

-- whether a step is possible and agrees with the outcome bits on a path
abbrev pub fits : FlatForm → Row → (ℕ → Bool) → (ℕ → Bool) → ℕ → Bool
fits f input outcome c k = is_possible (step_number f.steps k) (c (choices_at f.steps k)) (row_at f.steps input c k) && agrees outcome (step_number f.steps k) (row_at f.steps input c k)

-- whether the steps done so far fit
abbrev pub alive : FlatForm → Row → (ℕ → Bool) → Progress → (ℕ → Bool) → Bool
alive f input outcome p c = all_done (length f.steps) (done_at p) (fits f input outcome c)

same_put : (taken : ℕ → Bool) (j : ℕ) (b : Bool) (c : ℕ → Bool) → taken j ≡ false → Same taken (put j b c) c
same_put taken j b c off = record { at = λ i t. put-other j b c i (λ e. let no : true ≡ false = sym t ∙ (ap taken e ∙ off) in (cc)) }

pub term_eq : (r r' : Row) (h h' e e' : ℕ) → r ≡ r' → h ≡ h' → e ≡ e' → term r h e ≡ term r' h' e'
term_eq r r' h h' e e' x y z = cc

none_sum : (n : ℕ) → sum_below n (λ _. 0) ≡ 0
none_sum zero = refl
none_sum (suc n) = ap (λ x. x + 0) (none_sum n)

none_all : (n : ℕ) → all_below n (λ _. true) ≡ true
none_all zero = refl
none_all (suc n) = ap (λ x. x && true) (none_all n)

or_is : (a b : Bool) → (a || b) ≡ cond a true b
or_is true b = refl
or_is false b = refl

pub done_more : (f : FlatForm) (p : Progress) (s : StepId) → done_at (moved f p (Do s)) ≡ put s.number true (done_at p)
done_more f p s = fun_ext (λ k. or_is (k == s.number) (p.done (step_id k)))

-- what Up and Down make of a term: an X step only changes the row
total-step_x : {S : Type 0} (none : S) (plus : S → S → S) (laws : IsSum none plus) (f : FlatForm) (outcome : ℕ → Bool) (s : Step) (k : Bool) (g : Term → S) (t : Term) → undone_step f s ≡ true → total none plus g (do_step outcome s t) ≡ g (term (next s k t.row) t.halvings t.eighths)
total-step_x none plus laws f outcome (X a b c) k g t h =
    laws.unit _ ∙ ap₂ (λ x y. g (term (next (X a b c) k t.row) x y)) (add-zero t.halvings) (add-zero t.eighths)
total-step_x none plus laws f outcome (H a b) k g t h = absurd (cc)
total-step_x none plus laws f outcome (P a b) k g t h = absurd (cc)
total-step_x none plus laws f outcome (M a b) k g t h = absurd (cc)

module _ (f : FlatForm) (input : Row) (outcome : ℕ → Bool) where
  x_bit : (taken : ℕ → Bool) (s : StepId) (j : ℕ) → is_h (step_at f s) ≡ false → take_bit f taken s j ≡ true → taken j ≡ true
  x_bit taken s j h t = ap (λ b. cond b (put (choices_at f.steps s.number) true taken) taken j) (sym h) ∙ t

  -- terms rest on the bits taken alone
  when_done : {A : Type 0} (b : Bool) (x y z : A) → (b ≡ true → x ≡ y) → cond b x z ≡ cond b y z
  when_done true x y z h = h refl
  when_done false x y z h = refl

  own : (p : Progress) (taken c c' : ℕ → Bool) → Fixed f input p taken → Same taken c c' → (k : ℕ) → k < length f.steps → done_at p k ≡ true → is_h (step_number f.steps k) ≡ true → c (choices_at f.steps k) ≡ c' (choices_at f.steps k)
  own p taken c c' fx same k lt d h = same.at (choices_at f.steps k) (fx.number (step_id k) lt h ∙ d)

  pub term_fixed : (p : Progress) (taken c c' : ℕ → Bool) → Fixed f input p taken → Same taken c c' → path_term f input outcome p c ≡ path_term f input outcome p c'
  term_fixed p taken c c' fx same =
      term_eq _ _ _ _ _ _
      (fun_ext (λ q. ap (λ v. flipped v (p.gone (wire_id q) && flip_at f outcome (wire_id q))) (fx.value c c' same (wire_id q))))
      (sum_below_ext _ _ _ (λ k lt. when_done (done_at p k) _ _ _ (λ d. halvings_same (step_number f.steps k) _ _ (fx.settled c c' same (step_id k) lt d))))
      (sum_below_ext _ _ _ (λ k lt. when_done (done_at p k) _ _ _ (λ d.
      eighths_same (step_number f.steps k) (c (choices_at f.steps k)) _ _ (fx.settled c c' same (step_id k) lt d)
      ∙ bit_eq (step_number f.steps k) (λ b. eighths (step_number f.steps k) b (row_at f.steps input c' k)) (c (choices_at f.steps k)) (c' (choices_at f.steps k)) (own p taken c c' fx same k lt d) (eighths_bit (step_number f.steps k) (c (choices_at f.steps k)) (c' (choices_at f.steps k)) (row_at f.steps input c' k)))))

  pub alive_fixed : (p : Progress) (taken c c' : ℕ → Bool) → Fixed f input p taken → Same taken c c' → alive f input outcome p c ≡ alive f input outcome p c'
  alive_fixed p taken c c' fx same =
      all_below_ext _ _ _ (λ k lt. when_done (done_at p k) _ _ _ (λ d.
      ap₂ ◌&&◌
      (possible_same (step_number f.steps k) (c (choices_at f.steps k)) _ _ (fx.settled c c' same (step_id k) lt d)
      ∙ bit_eq (step_number f.steps k) (λ b. is_possible (step_number f.steps k) b (row_at f.steps input c' k)) (c (choices_at f.steps k)) (c' (choices_at f.steps k)) (own p taken c c' fx same k lt d) (possible_bit (step_number f.steps k) (c (choices_at f.steps k)) (c' (choices_at f.steps k)) (row_at f.steps input c' k)))
      (agrees_same outcome (step_number f.steps k) _ _ (fx.settled c c' same (step_id k) lt d))))

  module _ {S : Type 0} (none : S) (plus : S → S → S) (laws : IsSum none plus) where
    -- what a path adds to a total
    abbrev pub share : (Term → S) → Progress → (ℕ → Bool) → S
    share g p c = cond (alive f input outcome p c) (g (path_term f input outcome p c)) none

    -- one step done adds its factor to the path
    pub share_do : (g : Term → S) (p : Progress) (s : StepId) (c : ℕ → Bool) (k : Bool)
        → s.number < length f.steps → p.done s ≡ false → AtLabels f p s s.number
        → (is_h (step_at f s) ≡ true → c (choices_at f.steps s.number) ≡ k)
        → share g (moved f p (Do s)) c ≡ cond (alive f input outcome p c) (part none plus laws outcome (step_at f s) g k (path_term f input outcome p c)) none
    share_do g p s c k lt off at bit =
        let p' = moved f p (Do s) in
        let step = step_at f s in
        let n = length f.steps in
        let j = choices_at f.steps s.number in
        let r = path_row f input outcome p c in
        let r' = row_at f.steps input c s.number in
        let ag : AgreeOn step r r' = named f input outcome p c s s.number (omega arith) at in
        let ok : fits f input outcome c s.number ≡ (is_possible step k r && agrees outcome step r) =
        ap₂ ◌&&◌ (sym (possible_same step (c j) r r' ag) ∙ bit_eq step (λ b. is_possible step b r) (c j) k bit (possible_bit step (c j) k r)) (sym (agrees_same outcome step r r' ag)) in
        let lives : alive f input outcome p' c ≡ (alive f input outcome p c && (is_possible step k r && agrees outcome step r)) =
        ap (λ d. all_done n d (fits f input outcome c)) (done_more f p s) ∙ all_done_more n (done_at p) (fits f input outcome c) s.number lt off ∙ ap (λ b. alive f input outcome p c && b) ok in
        let rows : path_row f input outcome p' c ≡ next step k r =
        row_up f input outcome p p' c s lt at (λ w. refl) (λ w. refl) ∙ next_bit step (c j) k r bit in
        let hs : sum_done n (done_at p') (λ x. halvings (step_number f.steps x) (row_at f.steps input c x)) ≡ sum_done n (done_at p) (λ x. halvings (step_number f.steps x) (row_at f.steps input c x)) + halvings step r =
        ap (λ d. sum_done n d (λ x. halvings (step_number f.steps x) (row_at f.steps input c x))) (done_more f p s)
        ∙ sum_done_more n (done_at p) (λ x. halvings (step_number f.steps x) (row_at f.steps input c x)) s.number lt off
        ∙ ap (λ x. sum_done n (done_at p) (λ y. halvings (step_number f.steps y) (row_at f.steps input c y)) + x) (sym (halvings_same step r r' ag)) in
        let es : sum_done n (done_at p') (λ x. eighths (step_number f.steps x) (c (choices_at f.steps x)) (row_at f.steps input c x)) ≡ sum_done n (done_at p) (λ x. eighths (step_number f.steps x) (c (choices_at f.steps x)) (row_at f.steps input c x)) + eighths step k r =
        ap (λ d. sum_done n d (λ x. eighths (step_number f.steps x) (c (choices_at f.steps x)) (row_at f.steps input c x))) (done_more f p s)
        ∙ sum_done_more n (done_at p) (λ x. eighths (step_number f.steps x) (c (choices_at f.steps x)) (row_at f.steps input c x)) s.number lt off
        ∙ ap (λ x. sum_done n (done_at p) (λ y. eighths (step_number f.steps y) (c (choices_at f.steps y)) (row_at f.steps input c y)) + x) (sym (eighths_same step (c j) r r' ag) ∙ bit_eq step (λ b. eighths step b r) (c j) k bit (eighths_bit step (c j) k r)) in
        let whole : path_term f input outcome p' c ≡ stepped step k (path_term f input outcome p c) = term_eq _ _ _ _ _ _ rows hs es in
        ap₂ (λ b t. cond b (g t) none) lives whole
        ∙ sym (cond_and (alive f input outcome p c) (is_possible step k r && agrees outcome step r) (g (stepped step k (path_term f input outcome p c))) none)

    -- the terms' totals are those of the paths through the steps done
    pub record Reached (p : Progress) (ts : List Term) : Type 0 where
      pub taken : ℕ → Bool
      pub fixed : Fixed f input p taken
      pub totals : (g : Term → S) → total none plus g ts ≡ sum_taken plus taken (choices_at f.steps (length f.steps)) (share g p)

    -- what changes the row of each path alone
    row_only : (p p' : Progress) (ts : List Term) (taken : ℕ → Bool) (h : Term → List Term)
        → done_at p' ≡ done_at p
        → ((g : Term → S) (c : ℕ → Bool) → total none plus g (h (path_term f input outcome p c)) ≡ g (term (path_row f input outcome p' c) (path_term f input outcome p c).halvings (path_term f input outcome p c).eighths))
        → ((g : Term → S) → total none plus g ts ≡ sum_taken plus taken (choices_at f.steps (length f.steps)) (share g p))
        → (g : Term → S) → total none plus g (each h ts) ≡ sum_taken plus taken (choices_at f.steps (length f.steps)) (share g p')
    row_only p p' ts taken h ed eh et g =
        let d : (e : ℕ → Bool) → (c : ℕ → Bool) → S = λ e c. cond (all_done (length f.steps) e (fits f input outcome c))
        (g (term (path_row f input outcome p' c)
        (sum_done (length f.steps) e (λ k. halvings (step_number f.steps k) (row_at f.steps input c k)))
        (sum_done (length f.steps) e (λ k. eighths (step_number f.steps k) (c (choices_at f.steps k)) (row_at f.steps input c k))))) none in
        let same : (c : ℕ → Bool) → d (done_at p) c ≡ d (done_at p') c = λ c. ap (λ e. d e c) (sym ed) in
        total-each none plus laws g h ts ∙ (et (λ t. total none plus g (h t))
        ∙ sum_taken_ext plus taken (choices_at f.steps (length f.steps)) _ _ (λ c.
        ap (λ x. cond (alive f input outcome p c) x none) (eh g c) ∙ same c))

    first : (c : ℕ → Bool) → path_term f input outcome at_start c ≡ first_term input
    first c = term_eq _ _ _ _ _ _
        (fun_ext (λ q. value-row f.steps input c (length f.steps) 0 q 0 zero-le refl))
        (none_sum (length f.steps)) (none_sum (length f.steps))

    pub reached_start : Reached at_start (first_term input ∷ [])
    reached_start = record {
      taken = λ _. false;
      fixed = fixed_start f input;
      totals = λ g. laws.unit (g (first_term input))
          ∙ (sym (ap₂ (λ b t. cond b (g t) none) (none_all (length f.steps)) (first (λ _. false)))
          ∙ sym (sum_taken_none plus (choices_at f.steps (length f.steps)) (share g at_start)));
    }

    -- the one step of a Do
    do_totals : (g : Term → S) (p : Progress) (taken : ℕ → Bool) (s : StepId) (ts : List Term) → s.number < length f.steps → p.done s ≡ false → AtLabels f p s s.number → Fixed f input p taken
        → ((g : Term → S) → total none plus g ts ≡ sum_taken plus taken (choices_at f.steps (length f.steps)) (share g p))
        → total none plus g (each (do_step outcome (step_at f s)) ts) ≡ sum_taken plus (take_bit f taken s) (choices_at f.steps (length f.steps)) (share g (moved f p (Do s)))
    do_totals g p taken s ts lt off at fx et =
        total-each none plus laws g (do_step outcome (step_at f s)) ts
        ∙ (et (λ t. total none plus g (do_step outcome (step_at f s) t)) ∙ by (is_h (step_at f s)) refl)
      where
        by : (b : Bool) → is_h (step_at f s) ≡ b
            → sum_taken plus taken (choices_at f.steps (length f.steps)) (share (λ t. total none plus g (do_step outcome (step_at f s) t)) p)
            ≡ sum_taken plus (cond b (put (choices_at f.steps s.number) true taken) taken) (choices_at f.steps (length f.steps)) (share g (moved f p (Do s)))
        by true h =
            let j = choices_at f.steps s.number in
            let free : taken j ≡ false = fx.number s lt h ∙ off in
            let one : (c : ℕ → Bool) (b : Bool) → cond (alive f input outcome p c) (part none plus laws outcome (step_at f s) g b (path_term f input outcome p c)) none ≡ share g (moved f p (Do s)) (put j b c) =
            λ c b. let sm : Same taken (put j b c) c = same_put taken j b c free in
            ap₂ (λ x t. cond x (part none plus laws outcome (step_at f s) g b t) none) (sym (alive_fixed p taken _ _ fx sm)) (sym (term_fixed p taken _ _ fx sm))
            ∙ sym (share_do g p s (put j b c) b lt off at (λ _. put-same j b c)) in
            sum_taken_ext plus taken (choices_at f.steps (length f.steps)) _ _ (λ c.
            ap (λ x. cond (alive f input outcome p c) x none) (total-step_h none plus laws outcome (step_at f s) g (path_term f input outcome p c) h)
            ∙ (cond_plus_none none plus laws (alive f input outcome p c) _ _ ∙ ap₂ plus (one c false) (one c true)))
            ∙ sym (sum_taken_more none plus laws taken (choices_at f.steps (length f.steps)) j (share g (moved f p (Do s))) (choices_less f.steps s.number (length f.steps) lt h) free)
        by false h =
            sum_taken_ext plus taken (choices_at f.steps (length f.steps)) _ _ (λ c.
            ap (λ x. cond (alive f input outcome p c) x none) (total-step_one none plus laws outcome (step_at f s) g (path_term f input outcome p c) h)
            ∙ sym (share_do g p s c false lt off at (λ t. let no : true ≡ false = sym t ∙ h in absurd (cc))))

    free_row : (p : Progress) (w : WireId) (c : ℕ → Bool) → p.gone w ≡ false → freed_row f outcome w (path_row f input outcome p c) ≡ path_row f input outcome (moved f p (Free w)) c
    free_row p w c off = fun_ext (λ q. by q (q == w.number) refl)
      where
        by : (q : ℕ) (b : Bool) → (q == w.number) ≡ b → cond b (flipped (path_row f input outcome p c q) (flip_at f outcome (wire_id q))) (path_row f input outcome p c q) ≡ flipped (value_at f.steps input c (length f.steps) q (p.label (wire_id q))) ((b || p.gone (wire_id q)) && flip_at f outcome (wire_id q))
        by q true e =
            let same : wire_id q ≡ w = ap wire_id (eqb-true q w.number e) in
            let was : p.gone (wire_id q) ≡ false = ap p.gone same ∙ off in
            ap (λ v. flipped v (flip_at f outcome (wire_id q))) (not_freed (value_at f.steps input c (length f.steps) q (p.label (wire_id q))) (p.gone (wire_id q)) (flip_at f outcome (wire_id q)) was)
        by q false e = refl

    -- one move more
    pub reached_move : IsFlat f → (p : Progress) (ts : List Term) (m : Move) → Reached p ts → Stands f p m → Reached (moved f p m) (each (do_move f outcome m) ts)
    reached_move ok p ts (Up s) re st =
        let at = at_before f p s st.1 in
        record {
          taken = re.taken;
          fixed = record {
            number = re.fixed.number;
            value = λ c c' same w. value_up f input p re.taken s st.1.step re.fixed at c c' (record { at = λ j t. same.at j (x_bit re.taken s j (undone_not_h f (step_at f s) st.0) t) }) w;
            settled = re.fixed.settled;
          };
          totals = row_only p (moved f p (Up s)) ts re.taken (do_move f outcome (Up s)) refl
              (λ g c. total-step_x none plus laws f outcome (step_at f s) (c (choices_at f.steps s.number)) g (path_term f input outcome p c) st.0
              ∙ ap (λ r. g (term r (path_term f input outcome p c).halvings (path_term f input outcome p c).eighths)) (sym (row_up f input outcome p (moved f p (Up s)) c s st.1.step at (λ w. refl) (λ w. refl))))
              re.totals;
        }
    reached_move ok p ts (Down s) re st =
        let at = at_after f p s st.1 in
        let own = flat_differ f ok s st.1.step in
        record {
          taken = re.taken;
          fixed = record {
            number = re.fixed.number;
            value = value_down f input p re.taken s st.1.step st.0 own (undone_not_h f (step_at f s) st.0) re.fixed at;
            settled = re.fixed.settled;
          };
          totals = row_only p (moved f p (Down s)) ts re.taken (do_move f outcome (Down s)) refl
              (λ g c. total-step_x none plus laws f outcome (step_at f s) (c (choices_at f.steps s.number)) g (path_term f input outcome p c) st.0
              ∙ ap (λ r. g (term r (path_term f input outcome p c).halvings (path_term f input outcome p c).eighths)) (sym (row_down f input outcome p (moved f p (Down s)) c s st.1.step st.0 own at (λ w. refl) (λ w. refl))))
              re.totals;
        }
    reached_move ok p ts (Do s) re st =
        let at = at_before f p s st.2 in
        record {
          taken = take_bit f re.taken s;
          fixed = fixed_do f input p re.taken s st.2.step re.fixed at;
          totals = λ g. do_totals g p re.taken s ts st.2.step st.1 at re.fixed re.totals;
        }
    reached_move ok p ts (Free w) re st =
        record {
          taken = re.taken;
          fixed = record { number = re.fixed.number; value = re.fixed.value; settled = re.fixed.settled };
          totals = row_only p (moved f p (Free w)) ts re.taken (do_move f outcome (Free w)) refl
              (λ g c. laws.unit _ ∙ ap (λ r. g (term r (path_term f input outcome p c).halvings (path_term f input outcome p c).eighths)) (free_row p w c st.at_top.kept))
              re.totals;
        }
