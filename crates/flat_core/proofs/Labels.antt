-- Labels of wires as steps are added.
use Rattle.std.proofs.Common.{◌≡◌, ℕ, ◌+◌, ◌*◌, ◌<◌, ◌≤◌, Bool, true, false, cond, ◌||◌, List, [], ◌∷◌, ◌++◌, length, get_or, take, Option, Some, IfSome, refl, ap, ◌∙◌, subst, arith}
use Rattle.std.proofs.Math.Bool.{or-false}
use Rattle.std.proofs.lemmas.Bool.{cases_Bool, eqb-true, eq-eqb}
use Rattle.std.proofs.lemmas.List.Sums.{sum_by_push, sum_by_more, count_by-le-length, sum_by-le}
use Rattle.std.proofs.lemmas.List.Elements.{All-from_get_or}
use Rattle.std.proofs.lemmas.List.Folds.{list_any-append, list_any_none}
use Rattle.std.proofs.Common.{inl, inr}
use Rattle.flat_core.specs.declared.step.Step.{Step}
use Rattle.flat_core.specs.declared.step.Step.TheVariants.{X, H, P, M}
use Rattle.flat_core.specs.declared.step.WireId.{WireId}
use Rattle.flat_core.specs.declared.step.StepId.{StepId}
use Rattle.flat_core.specs.Label.{changes, main_wire, same_wire, wire_id, step_id, no_step, step_in, label_after, EachNamed}
use Rattle.flat_core.specs.Ends.{measures}
use Rattle.flat_core.specs.Sound.{count_measures, is_m}
use Rattle.flat_core.specs.Drafts.{is_measured}

pub label_after-push : (steps : List Step) (s : Step) (w : WireId) → label_after (steps ++ s ∷ []) w ≡ label_after steps w + cond (changes w s) 1 0
label_after-push steps s w = sum_by_push (λ x. cond (changes w x) 1 0) steps s

pub count_measures-push : (steps : List Step) (s : Step) → count_measures (steps ++ s ∷ []) ≡ count_measures steps + cond (is_m s) 1 0
count_measures-push steps s = sum_by_push (λ x. cond (is_m x) 1 0) steps s

-- a label grows by one at each step that changes the wire
pub label_after-take_more : (steps : List Step) (w : WireId) (n : ℕ) → n < length steps → label_after (take (n + 1) steps) w ≡ label_after (take n steps) w + cond (changes w (step_in steps (step_id n))) 1 0
label_after-take_more steps w n h = sum_by_more (λ x. cond (changes w x) 1 0) steps n no_step h

pub label_after-le-length : (steps : List Step) (w : WireId) → label_after steps w ≤ length steps
label_after-le-length steps w = count_by-le-length (changes w) steps

pub same_wire_is : (a b : WireId) → same_wire a b ≡ true → a ≡ b
same_wire_is a b e = ap wire_id (eqb-true a.number b.number e)

pub same_wire-refl : (a : WireId) → same_wire a a ≡ true
same_wire-refl a = eq-eqb a.number a.number refl

pub is_measured-push : (steps : List Step) (s : Step) (w : WireId) → is_measured (steps ++ s ∷ []) w ≡ is_measured steps w || measures w s
is_measured-push steps s w = list_any-append (measures w) steps (s ∷ []) ∙ ap (λ (b : Bool). is_measured steps w || b) (or-false (measures w s))

-- the wire that a step changes or measures is its main wire
pub main_of_changed : (s : Step) (w : WireId) → changes w s ≡ true → main_wire s ≡ Some w
main_of_changed (X t a b) w e = ap (λ (x : WireId). Some x) (same_wire_is t w e)
main_of_changed (H t a) w e = ap (λ (x : WireId). Some x) (same_wire_is t w e)
main_of_changed (P k a) w e = cc
main_of_changed (M v n) w e = cc

pub main_of_measured : (s : Step) (w : WireId) → measures w s ≡ true → main_wire s ≡ Some w
main_of_measured (X t a b) w m = cc
main_of_measured (H t a) w m = cc
main_of_measured (P e a) w m = cc
main_of_measured (M v n) w m = ap (λ (x : WireId). Some x) (same_wire_is v w m)

-- a wire that no step can name has the label 0 and no M
module _ (steps : List Step) (n : ℕ) (there : (s : StepId) → s.number < length steps → EachNamed (λ w. w.number < n) (step_in steps s)) (w : WireId) (past : n ≤ w.number) where
  not_main : (s : Step) → EachNamed (λ w. w.number < n) s → main_wire s ≡ Some w → ⊥
  not_main s e is =
      let named : w.number < n = subst (λ (o : Option WireId). IfSome o (λ (x : WireId). x.number < n)) is e.0 in
      omega arith

  unchanged : (s : Step) → EachNamed (λ w. w.number < n) s → cond (changes w s) 1 0 ≤ 0
  unchanged s e = go (changes w s) refl
    where
      go : (b : Bool) → changes w s ≡ b → cond b 1 0 ≤ 0
      go false c = omega arith
      go true c = absurd (not_main s e (main_of_changed s w c))

  pub label_after-none : label_after steps w ≡ 0
  label_after-none =
      let l : label_after steps w ≤ length steps * 0 = sum_by-le (λ x. cond (changes w x) 1 0) 0 steps (All-from_get_or (λ x. cond (changes w x) 1 0 ≤ 0) steps no_step (λ i h. unchanged (get_or steps i no_step) (there (step_id i) h))) in
      omega arith

  unmeasured : (s : Step) → EachNamed (λ w. w.number < n) s → measures w s ≡ false
  unmeasured s e = elim (cases_Bool (measures w s)) [
    | inl m ↦ absurd (not_main s e (main_of_measured s w m))
    | inr m ↦ m
  ]

  pub is_measured-none : is_measured steps w ≡ false
  is_measured-none = list_any_none (measures w) steps (All-from_get_or (λ x. measures w x ≡ false) steps no_step (λ i h. unmeasured (get_or steps i no_step) (there (step_id i) h)))
