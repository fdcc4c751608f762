-- The example is a flat form, and its one move may come.
use Rattle.std.proofs.Common.{◌≡◌, ℕ, zero, suc, ◌<◌, ◌≤◌, true, false, Some, List, [], ◌∷◌, Contains, get_or, slice_get, refl, sym, ◌∙◌, ap, subst, arith, lit<, lit≤}
use Rattle.std.proofs.lemmas.Bool.{both_ways}
use Rattle.flat_core.specs.declared.step.End.TheVariants.{Output}
use Rattle.flat_core.specs.declared.step.WireId.{WireId}
use Rattle.flat_core.specs.Form.{FlatForm, DraftForm}
use Rattle.flat_core.specs.Label.{wire_id, end_of, is_input}
use Rattle.flat_core.specs.Sound.{NamesExactly, IsFlat}
use Rattle.flat_core.specs.Drafts.{IsDraft, finished}
use Rattle.flat_core.specs.Ends.{is_dropped}
use Rattle.flat_core.proofs.Finishes.{drafts_become_flat}
use Rattle.flat_mean.specs.Path.{count_inputs}
use Rattle.move_plan.specs.declared.moves.Move.TheVariants.{Free}
use Rattle.move_plan.specs.Progress.{Progress, at_start, moved, Stands}
use Rattle.move_plan.specs.Effect.{is_output, is_measured}
use Rattle.move_plan.specs.Live.{live, live_at_end, count_wires}
use Rattle.qubit_alloc.specs.Example.{untouched, untouched_draft}

not_dropped : (n : ℕ) → is_dropped (end_of untouched (wire_id n)) ≡ false
not_dropped zero = refl
not_dropped (suc zero) = refl
not_dropped (suc (suc zero)) = refl
not_dropped (suc (suc (suc zero))) = refl
not_dropped (suc (suc (suc (suc n)))) = refl

not_measured : (n : ℕ) → is_measured (end_of untouched (wire_id n)) ≡ false
not_measured zero = refl
not_measured (suc zero) = refl
not_measured (suc (suc zero)) = refl
not_measured (suc (suc (suc zero))) = refl
not_measured (suc (suc (suc (suc n)))) = refl

one_input : (n : ℕ) → is_input untouched (wire_id n) ≡ true → wire_id 1 ≡ wire_id n
one_input zero i = absurd (both_ways false refl i)
one_input (suc zero) i = refl
one_input (suc (suc zero)) i = absurd (both_ways false refl i)
one_input (suc (suc (suc zero))) i = absurd (both_ways false refl i)
one_input (suc (suc (suc (suc n)))) i = absurd (both_ways false refl i)

abbrev IsIn : WireId → Type 0
IsIn w = is_input untouched w ≡ true

abbrev IsOut : WireId → Type 0
IsOut w = (w.number < 4) × (end_of untouched w ≡ Output)

abbrev outs : List WireId
outs = wire_id 0 ∷ wire_id 1 ∷ wire_id 2 ∷ []

ins_name : NamesExactly ((wire_id 1 ∷ []) ∷ []) IsIn
ins_name = record {
  only = λ w c. named w c.0 c.1 c.2;
  each = λ w i. (0, lit< tt, one_input w.number i);
  once = once;
}
  where
    named : (w : WireId) (k : ℕ) → k < 1 → get_or (wire_id 1 ∷ []) k w ≡ w → IsIn w
    named w zero l e = subst IsIn e refl
    named w (suc k) l e = absurd (omega (arith, l))

    once : (i j : ℕ) (w : WireId) → slice_get (wire_id 1 ∷ []) i ≡ Some w → slice_get (wire_id 1 ∷ []) j ≡ Some w → i ≡ j
    once zero zero w e g = refl
    once zero (suc j) w e g = absurd (cc)
    once (suc i) j w e g = absurd (cc)

outs_name : NamesExactly (outs ∷ []) IsOut
outs_name = record {
  only = λ w c. named w c.0 c.1 c.2;
  each = λ w o. at w.number o.0 o.1;
  once = λ i j w e g. number i w e ∙ sym (number j w g);
}
  where
    named : (w : WireId) (k : ℕ) → k < 3 → get_or outs k w ≡ w → IsOut w
    named w zero l e = subst IsOut e (lit< tt, refl)
    named w (suc zero) l e = subst IsOut e (lit< tt, refl)
    named w (suc (suc zero)) l e = subst IsOut e (lit< tt, refl)
    named w (suc (suc (suc k))) l e = absurd (omega (arith, l))

    at : (n : ℕ) → n < 4 → end_of untouched (wire_id n) ≡ Output → Contains outs (wire_id n)
    at zero l o = (0, lit< tt, refl)
    at (suc zero) l o = (1, lit< tt, refl)
    at (suc (suc zero)) l o = (2, lit< tt, refl)
    at (suc (suc (suc zero))) l o = absurd (both_ways false refl (ap is_output o))
    at (suc (suc (suc (suc n)))) l o = absurd (omega (arith, l))

    number : (i : ℕ) (w : WireId) → slice_get outs i ≡ Some w → i ≡ w.number
    number zero w e = let is : wire_id 0 ≡ w = cc in ap (λ (x : WireId). x.number) is
    number (suc zero) w e = let is : wire_id 1 ≡ w = cc in ap (λ (x : WireId). x.number) is
    number (suc (suc zero)) w e = let is : wire_id 2 ≡ w = cc in ap (λ (x : WireId). x.number) is
    number (suc (suc (suc k))) w e = absurd (cc)

untouched_is_draft : IsDraft untouched_draft
untouched_is_draft = record {
  steps_follow = λ s h. absurd (omega (arith, h));
  few_steps = lit≤ tt;
  as_many_lines = refl;
  few_wires = lit≤ tt;
  few_outcomes = lit≤ tt;
}

untouched_is_flat : IsFlat untouched
untouched_is_flat = drafts_become_flat untouched_draft ((wire_id 1 ∷ []) ∷ []) (outs ∷ []) untouched_is_draft (record {
  dropped_is_new = λ w e. absurd (both_ways (is_dropped (end_of untouched w)) (not_dropped w.number) (ap is_dropped e));
  dropped_has_x = λ s w h e c. absurd (omega (arith, h));
  m_is_measured = λ s w h m. absurd (omega (arith, h));
  measured_has_m = λ w e. absurd (both_ways (is_measured (end_of untouched w)) (not_measured w.number) (ap is_measured e));
  ins_name = ins_name;
  outs_name = outs_name;
})

pub untouched_made : (d : DraftForm) (i o : List (List WireId)) → d ≡ untouched_draft → i ≡ (wire_id 1 ∷ []) ∷ [] → o ≡ outs ∷ [] → IsFlat (finished d i o)
untouched_made d i o e g h = subst IsFlat (λ k. finished (sym e k) (sym g k) (sym h k)) untouched_is_flat

-- the one input fits, the wire that is 0 may be freed, and all outputs fit
module _ (f : FlatForm) (is : f ≡ untouched) where
  pub inputs_fit : count_inputs f.wires ≤ 3
  inputs_fit = subst (λ (x : FlatForm). count_inputs x.wires ≤ 3) (sym is) (lit≤ tt)

  module _ (p : Progress) (start : p ≡ at_start) where
    pub may_free : Stands f p (Free (wire_id 3))
    may_free = subst (λ (x : FlatForm). Stands x p (Free (wire_id 3))) (sym is) (subst (λ (q : Progress). Stands untouched q (Free (wire_id 3))) (sym start) (record {
      ending = refl;
      at_top = record { at = refl; kept = refl };
      measured = λ e. absurd (both_ways false refl (ap is_measured e));
    }))

    pub freed_fits : count_wires f (live f (moved f p (Free (wire_id 3)))) ≤ 3
    freed_fits = subst (λ (x : FlatForm). count_wires x (live x (moved x p (Free (wire_id 3)))) ≤ 3) (sym is) (subst (λ (q : Progress). count_wires untouched (live untouched (moved untouched q (Free (wire_id 3)))) ≤ 3) (sym start) (lit≤ tt))

    pub end_fits : (q : Progress) → q ≡ moved f p (Free (wire_id 3)) → count_wires f (live_at_end f q) ≤ 3
    end_fits q e = subst (λ (r : Progress). count_wires f (live_at_end f r) ≤ 3) (sym e) (subst (λ (x : FlatForm). count_wires x (live_at_end x (moved x p (Free (wire_id 3)))) ≤ 3) (sym is) (subst (λ (r : Progress). count_wires untouched (live_at_end untouched (moved untouched r (Free (wire_id 3)))) ≤ 3) (sym start) (lit≤ tt)))
