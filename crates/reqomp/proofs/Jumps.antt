-- The way back over the steps that change some wires.
use Rattle.std.proofs.Common.{◌≡◌, ℕ, suc, ◌+◌, ◌-◌, ◌<◌, ◌≤◌, Bool, true, false, ◌||◌, List, [], ◌∷◌, length, get_or, slice_set, replicate, refl, sym, ap, ◌∙◌, inl, inr, arith, get_or-set_same, get_or-set_other, length-set}
use Rattle.std.proofs.lemmas.Bool.{cases_eq}
use Rattle.std.proofs.lemmas.List.{length-replicate}
use Rattle.flat_core.specs.declared.step.WireId.{WireId}
use Rattle.flat_core.specs.declared.step.StepId.{StepId}
use Rattle.flat_core.specs.Form.{FlatForm}
use Rattle.flat_core.specs.Label.{step_id, step_at}
use Rattle.reqomp.specs.Redone.{changes_one}
use Rattle.reqomp.specs.Marking.{AreJumps}

-- the rows of the first n steps, and the last of them that changes one of some wires
pub record AreFirstJumps (f : FlatForm) (wires : List WireId) (n last : ℕ) (jumps : List ℕ) : Type 0 where
  pub each_step : length jumps ≡ length f.steps
  pub before : 0 < n → last < n
  pub start : n ≡ 0 → last ≡ 0
  pub after : (t : StepId) → last < t.number → t.number < n → changes_one wires (step_at f t) ≡ false
  pub earlier : (s : StepId) → 0 < s.number → s.number < n → get_or jumps s.number 0 < s.number
  pub between : (s t : StepId) → s.number < n → get_or jumps s.number 0 < t.number → t.number < s.number → changes_one wires (step_at f t) ≡ false

pub jumps_start : (f : FlatForm) (wires : List WireId) (jumps : List ℕ) → length jumps ≡ length f.steps → AreFirstJumps f wires 0 0 jumps
jumps_start f wires jumps e = record {
  each_step = e;
  before = λ l. l;
  start = λ z. refl;
  after = λ t a b. absurd (omega arith);
  earlier = λ s a b. absurd (omega arith);
  between = λ s t a b d. absurd (omega arith);
}

module _ (f : FlatForm) (wires : List WireId) (n last : ℕ) (jumps : List ℕ) (here : n < length f.steps) (are : AreFirstJumps f wires n last jumps) where
  put_here : (s : StepId) → s.number ≡ n → get_or (slice_set jumps n last) s.number 0 ≡ last
  put_here s e = let many = are.each_step in ap (λ (k : ℕ). get_or (slice_set jumps n last) k 0) e ∙ get_or-set_same jumps n last 0 (omega arith)

  put_other : (s : StepId) → (s.number ≡ n → ⊥) → get_or (slice_set jumps n last) s.number 0 ≡ get_or jumps s.number 0
  put_other s e = get_or-set_other jumps n s.number last 0 e

  -- one more row, after which the step stands as the last that changes one of the wires, or changes none
  pub jumps_more : (next : ℕ) → ((t : StepId) → next < t.number → t.number < n + 1 → changes_one wires (step_at f t) ≡ false) → next < n + 1 → AreFirstJumps f wires (n + 1) next (slice_set jumps n last)
  jumps_more next none l = record {
    each_step = length-set jumps n last ∙ are.each_step;
    before = λ b. l;
    start = λ z. absurd (omega arith);
    after = none;
    earlier = λ s a b. elim (cases_eq s.number n) [
      | inl e ↦ let p = put_here s e in let q = are.before (omega arith) in omega arith
      | inr ne ↦ let p = put_other s ne in let q = are.earlier s a (omega arith) in omega arith
    ];
    between = λ s t a b d. elim (cases_eq s.number n) [
      | inl e ↦ let p = put_here s e in are.after t (omega arith) (omega arith)
      | inr ne ↦ let p = put_other s ne in are.between s t (omega arith) (omega arith) d
    ];
  }

  pub jumps_taken : AreFirstJumps f wires (n + 1) n (slice_set jumps n last)
  jumps_taken = jumps_more n (λ t a b. absurd (omega arith)) (omega arith)

  pub jumps_passed : false ≡ changes_one wires (step_at f (step_id n)) → AreFirstJumps f wires (n + 1) last (slice_set jumps n last)
  jumps_passed e = jumps_more last (λ t a b. elim (cases_eq t.number n) [
    | inl same ↦ ap (λ (k : ℕ). changes_one wires (step_at f (step_id k))) same ∙ sym e
    | inr ne ↦ are.after t a (omega arith)
  ]) (low n are.before are.start)
    where
      low : (m : ℕ) → (0 < m → last < m) → (m ≡ 0 → last ≡ 0) → last < m + 1
      low m h z = elim (cases_eq m 0) [ inl e ↦ let q = z e in omega arith | inr ne ↦ let q = h (omega arith) in omega arith ]

pub jumps_end : (f : FlatForm) (wires : List WireId) (n last : ℕ) (jumps : List ℕ) → length f.steps ≤ n → AreFirstJumps f wires n last jumps → AreJumps f wires jumps
jumps_end f wires n last jumps l are = record {
  each_step = are.each_step;
  earlier = λ s a b. are.earlier s a (omega arith);
  between = λ s t a b d. are.between s t (omega arith) b d;
}
