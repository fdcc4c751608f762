-- Doing the steps one by one on terms gives what the paths give.
use Rattle.std.proofs.Common.{◌≡◌, ℕ, zero, suc, ◌+◌, ◌≤◌, Bool, true, false, cond, ◌&&◌, List, [], ◌∷◌, length, refl, sym, ◌∙◌, ap, ap₂, arith, add-one, add-zero}
use Rattle.std.proofs.Math.Path.{fun_ext}
use Rattle.flat_core.specs.declared.step.Step.{Step}
use Rattle.flat_mean.specs.Row.{Row, put, is_h, is_possible, agrees, halvings, eighths}
use Rattle.flat_mean.specs.Path.{step_number, row_at, choices_at, sum_below, all_below, sum_choices, possible_path, path_agrees, path_halvings, path_eighths}
use Rattle.flat_mean.specs.Terms.{Term, do_step, do_steps, each, total}
use Rattle.flat_mean.proofs.Sums.{IsSum, sum_taken_all, sum_taken_plus, put-same, put-other}
use Rattle.flat_mean.proofs.Below.{sum_below_ext, all_below_ext, all_below_and}
use Rattle.flat_mean.proofs.Choices.{choices_mono}
use Rattle.flat_mean.proofs.Local.{possible_bit, eighths_bit}
use Rattle.flat_mean.proofs.Early.{bit_eq, next_bit, Below, fewer, row_early, possible_early, eighths_early}
use Rattle.flat_mean.proofs.Totals.{term, stepped, part, total-each, total-step_h, total-step_one, cond_and, cond_plus_none}

-- the first so many steps, by their numbers
abbrev pub do_first : (ℕ → Bool) → List Step → ℕ → List Term → List Term
do_first outcome steps zero ts = ts
do_first outcome steps (suc s) ts = each (do_step outcome (step_number steps s)) (do_first outcome steps s ts)

first-cons : (outcome : ℕ → Bool) (s : Step) (ss : List Step) (n : ℕ) (ts : List Term) → do_first outcome (s ∷ ss) (suc n) ts ≡ do_first outcome ss n (each (do_step outcome s) ts)
first-cons outcome s ss zero ts = refl
first-cons outcome s ss (suc n) ts = ap (each (do_step outcome (step_number ss n))) (first-cons outcome s ss n ts)

pub steps-first : (outcome : ℕ → Bool) (steps : List Step) (ts : List Term) → do_steps outcome steps ts ≡ do_first outcome steps (length steps) ts
steps-first outcome [] ts = refl
steps-first outcome (s ∷ ss) ts = steps-first outcome ss (each (do_step outcome s) ts) ∙ sym (first-cons outcome s ss (length ss) ts)

module _ (steps : List Step) (input : Row) (outcome : ℕ → Bool) where
  -- the path's term after the first s steps
  abbrev pub term_upto : ℕ → (ℕ → Bool) → Term
  term_upto s c = term (row_at steps input c s)
      (sum_below s (λ k. halvings (step_number steps k) (row_at steps input c k)))
      (sum_below s (λ k. eighths (step_number steps k) (c (choices_at steps k)) (row_at steps input c k)))

  abbrev pub counts_upto : ℕ → (ℕ → Bool) → Bool
  counts_upto s c = all_below s (λ k. is_possible (step_number steps k) (c (choices_at steps k)) (row_at steps input c k) && agrees outcome (step_number steps k) (row_at steps input c k))

  term_eq : (r r' : Row) (h h' e e' : ℕ) → r ≡ r' → h ≡ h' → e ≡ e' → term r h e ≡ term r' h' e'
  term_eq r r' h h' e e' x y z = cc

  below : (c c' : ℕ → Bool) (s k : ℕ) → k ≤ s → Below (choices_at steps s) c c' → Below (choices_at steps k) c c'
  below c c' s k le h = fewer (choices_at steps k) (choices_at steps s) c c' (choices_mono steps s k le) h

  term_early : (s : ℕ) (c c' : ℕ → Bool) → Below (choices_at steps s) c c' → term_upto s c ≡ term_upto s c'
  term_early s c c' h = term_eq _ _ _ _ _ _ (row_early steps input c c' s h)
      (sum_below_ext s _ _ (λ k lt. ap (halvings (step_number steps k)) (row_early steps input c c' k (below c c' s k (omega arith) h))))
      (sum_below_ext s _ _ (λ k lt. eighths_early steps input c c' k (below c c' s (suc k) lt h)))

  counts_early : (s : ℕ) (c c' : ℕ → Bool) → Below (choices_at steps s) c c' → counts_upto s c ≡ counts_upto s c'
  counts_early s c c' h = all_below_ext s _ _ (λ k lt.
      ap₂ ◌&&◌ (possible_early steps input c c' k (below c c' s (suc k) lt h)) (ap (agrees outcome (step_number steps k)) (row_early steps input c c' k (below c c' s k (omega arith) h))))

  module _ {S : Type 0} (none : S) (plus : S → S → S) (laws : IsSum none plus) where
    abbrev pub share : (Term → S) → ℕ → (ℕ → Bool) → S
    share g s c = cond (counts_upto s c) (g (term_upto s c)) none

    share_do : (g : Term → S) (s : ℕ) (c : ℕ → Bool) (k : Bool) → (is_h (step_number steps s) ≡ true → c (choices_at steps s) ≡ k)
        → share g (suc s) c ≡ cond (counts_upto s c) (part none plus laws outcome (step_number steps s) g k (term_upto s c)) none
    share_do g s c k bit =
        let step = step_number steps s in
        let b = c (choices_at steps s) in
        let r = row_at steps input c s in
        let ok : (is_possible step b r && agrees outcome step r) ≡ (is_possible step k r && agrees outcome step r) = ap (λ x. x && agrees outcome step r) (bit_eq step (λ v. is_possible step v r) b k bit (possible_bit step b k r)) in
        let whole : term_upto (suc s) c ≡ stepped step k (term_upto s c) =
        term_eq _ _ _ _ _ _ (next_bit step b k r bit) refl
        (ap (λ x. sum_below s (λ y. eighths (step_number steps y) (c (choices_at steps y)) (row_at steps input c y)) + x) (bit_eq step (λ v. eighths step v r) b k bit (eighths_bit step b k r))) in
        ap₂ (λ x t. cond (counts_upto s c && x) (g t) none) ok whole
        ∙ sym (cond_and (counts_upto s c) (is_possible step k r && agrees outcome step r) (g (stepped step k (term_upto s c))) none)

    plain_plus : (m : ℕ) (f g : (ℕ → Bool) → S) → sum_choices plus m (λ c. plus (f c) (g c)) ≡ plus (sum_choices plus m f) (sum_choices plus m g)
    plain_plus m f g =
        sym (sum_taken_all plus (λ _. true) m (λ c. plus (f c) (g c)) (λ k lt. refl))
        ∙ (sum_taken_plus none plus laws (λ _. true) m f g
        ∙ ap₂ plus (sum_taken_all plus (λ _. true) m f (λ k lt. refl)) (sum_taken_all plus (λ _. true) m g (λ k lt. refl)))

    pub first_gives : (g : Term → S) (s : ℕ) → total none plus g (do_first outcome steps s (term input 0 0 ∷ [])) ≡ sum_choices plus (choices_at steps s) (share g s)
    first_gives g zero = laws.unit _
    first_gives g (suc s) =
        total-each none plus laws g (do_step outcome (step_number steps s)) (do_first outcome steps s (term input 0 0 ∷ []))
        ∙ (first_gives (λ t. total none plus g (do_step outcome (step_number steps s) t)) s ∙ by (is_h (step_number steps s)) refl)
      where
        by : (b : Bool) → is_h (step_number steps s) ≡ b
            → sum_choices plus (choices_at steps s) (share (λ t. total none plus g (do_step outcome (step_number steps s) t)) s)
            ≡ sum_choices plus (choices_at steps s + cond b 1 0) (share g (suc s))
        by true h =
            let m = choices_at steps s in
            let one : (c : ℕ → Bool) (b : Bool) → cond (counts_upto s c) (part none plus laws outcome (step_number steps s) g b (term_upto s c)) none ≡ share g (suc s) (put m b c) =
            λ c b. let early : Below m (put m b c) c = record { at = λ j lt. put-other m b c j (omega arith) } in
            sym (ap₂ (λ x t. cond x (part none plus laws outcome (step_number steps s) g b t) none) (counts_early s _ _ early) (term_early s _ _ early))
            ∙ sym (share_do g s (put m b c) b (λ _. put-same m b c)) in
            ap (sum_choices plus m) (fun_ext (λ c.
            ap (λ x. cond (counts_upto s c) x none) (total-step_h none plus laws outcome (step_number steps s) g (term_upto s c) h)
            ∙ (cond_plus_none none plus laws (counts_upto s c) _ _ ∙ ap₂ plus (one c false) (one c true))))
            ∙ (plain_plus m (λ c. share g (suc s) (put m false c)) (λ c. share g (suc s) (put m true c))
            ∙ ap (λ x. sum_choices plus x (share g (suc s))) (sym (add-one m)))
        by false h =
            ap (sum_choices plus (choices_at steps s)) (fun_ext (λ c.
            ap (λ x. cond (counts_upto s c) x none) (total-step_one none plus laws outcome (step_number steps s) g (term_upto s c) h)
            ∙ sym (share_do g s c false (λ t. let no : true ≡ false = sym t ∙ h in absurd (cc)))))
            ∙ ap (λ x. sum_choices plus x (share g (suc s))) (sym (add-zero (choices_at steps s)))

    pub steps_give_paths : (g : Term → S) → total none plus g (do_steps outcome steps (term input 0 0 ∷ []))
        ≡ sum_choices plus (choices_at steps (length steps)) (λ c. cond (possible_path steps input c && path_agrees steps input outcome c) (g (term (row_at steps input c (length steps)) (path_halvings steps input c) (path_eighths steps input c))) none)
    steps_give_paths g =
        ap (total none plus g) (steps-first outcome steps (term input 0 0 ∷ []))
        ∙ (first_gives g (length steps)
        ∙ ap (sum_choices plus (choices_at steps (length steps))) (fun_ext (λ c. ap (λ b. cond b (g (term_upto (length steps) c)) none)
        (all_below_and (length steps) (λ k. is_possible (step_number steps k) (c (choices_at steps k)) (row_at steps input c k)) (λ k. agrees outcome (step_number steps k) (row_at steps input c k))))))
