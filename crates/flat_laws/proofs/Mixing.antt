-- H on the last value.
use Rattle.std.proofs.Common.{◌≡◌, ℕ, ◌+◌, ◌<◌, Bool, true, false, cond, ◌&&◌, ◌||◌, if◌then◌else◌, List, [], ◌∷◌, ◌++◌, length, Option, Some, None, refl, sym, ap, ◌∙◌, subst, arith, add-zero, append-nil}
use Rattle.std.specs.Bool.{beq}
use Rattle.std.proofs.Math.Path.{fun_ext}
use Rattle.std.proofs.lemmas.Bool.{eqb-true, eq-eqb}
use Rattle.silq_mean.specs.Value.{is_one}
use Rattle.silq_mean.specs.Term.{Term, last as last_value, hadamard}
use Rattle.silq_mean.specs.Effect.{Outcome}
use Rattle.flat_core.specs.declared.step.Lit.{Lit}
use Rattle.flat_core.specs.declared.step.Step.{Step}
use Rattle.flat_core.specs.declared.step.Step.TheVariants as steps
use Rattle.flat_core.specs.declared.step.WireId.{WireId}
use Rattle.flat_core.specs.Form.{DraftForm}
use Rattle.flat_core.specs.Label.{wire_id, same_wire}
use Rattle.flat_core.specs.Drafts.{with_step}
use Rattle.flat_core.specs.Sound.{count_measures}
use Rattle.flat_mean.specs.Row.{Row, holds}
use Rattle.flat_mean.specs.Terms.{Term as WireTerm, do_steps}
use Rattle.bit_arith.specs.declared.operand.Operand.{Operand}
use Rattle.bit_arith.specs.declared.operand.Operand.TheVariants.{Const, Literal}
use Rattle.bit_arith.specs.Built.{Built, Setting, push as push_step}
use Rattle.bit_arith.specs.Rows.{had, had_under}
use Rattle.bit_arith.specs.Values.{forced}
use Rattle.bit_arith.specs.Does.{Grows}
use Rattle.bit_arith.proofs.Steps.{Agree, clash, and_one, label-first, label-not, apart_above}
use Rattle.bit_arith.proofs.Doing.{blank_before}
use Rattle.flat_form.specs.declared.known.TypedBits.{TypedBits}
use Rattle.flat_form.specs.State.{Flattening, build}
use Rattle.flat_form.specs.Shows.{ListBoth, Related}
use Rattle.flat_form.proofs.Kept.{AllShow}
use Rattle.flat_laws.proofs.Compose.{leaves_none, Leads}
use Rattle.flat_laws.proofs.Choice.{condition_holds, guard_leaves, measures_grown}
use Rattle.flat_laws.proofs.Gates.{is_one_truth, Wired, with_wired, wired_bit, rest_shows, with_bit}

-- ---- the step on one term

-- the term with one choice bit, where the condition holds or not and the wire has this bit before
abbrev half : WireTerm → WireId → Bool → Bool → Bool → WireTerm
half u w on x k = record { row = λ q. cond (same_wire w (wire_id q)) (cond on k x) (u.row q); halvings = u.halvings + cond on 1 0; eighths = u.eighths + cond (on && (x && k)) 4 0 }

abbrev halves : WireTerm → WireId → Bool → Bool → List WireTerm
halves u w on x = (cond ((on || beq false x) && true) (half u w on x false ∷ []) [] ++ cond ((on || beq true x) && true) (half u w on x true ∷ []) []) ++ []

mixed : (o : Outcome) (w : WireId) (c : Option Lit) (u : WireTerm) → do_steps o (steps.H w c ∷ []) (u ∷ []) ≡ halves u w (holds u.row c) (u.row w.number)
mixed o w c u = refl

-- a condition that does not hold
idle : (u : WireTerm) (w : WireId) (x : Bool) → u.row w.number ≡ x → halves u w false x ≡ u ∷ []
idle u w x e = pick x e
  where
    the_row : (x k : Bool) → u.row w.number ≡ x → (half u w false x k).row ≡ u.row
    the_row x k e = fun_ext (λ q. at q (same_wire w (wire_id q)) refl)
      where
        at : (q : ℕ) (b : Bool) → same_wire w (wire_id q) ≡ b → cond b x (u.row q) ≡ u.row q
        at q true f = sym e ∙ ap u.row (eqb-true w.number q f)
        at q false f = refl

    the_term : (x k : Bool) → u.row w.number ≡ x → half u w false x k ≡ u
    the_term x k e = λ i. record { row = the_row x k e i; halvings = add-zero u.halvings i; eighths = add-zero u.eighths i }

    pick : (x : Bool) → u.row w.number ≡ x → halves u w false x ≡ u ∷ []
    pick true e = ap (λ y. y ∷ []) (the_term true true e)
    pick false e = ap (λ y. y ∷ []) (the_term false false e)

grows_mixed : (d : DraftForm) (w : WireId) (c : Option Lit) (line : ℕ) → w.number < length d.wires → Grows d (with_step d (steps.H w c) line) (same_wire w) (steps.H w c ∷ [])
grows_mixed d w c line lt = record {
  more = 0;
  wires = sym (append-nil d.wires);
  steps = refl;
  spares = λ k l t. label-not (steps.H w c) [] k t refl;
  above = λ k le. label-not (steps.H w c) [] k (apart_above w.number k.number (omega (arith, lt, le))) refl;
}

-- ---- the gate

abbrev pub both_halves : Term → List Term
both_halves t = hadamard false t ∷ hadamard true t ∷ []

leads_mixed : (o : Outcome) (z : TypedBits) (w : WireId) (s : Flattening) (c : Option Lit) → Wired z w s → ((v : Row) → forced s.setting v ≡ holds v c) → Leads o (with_wired z s) (with_wired z (build (push_step s.setting (steps.H w c) s.built) s)) both_halves
leads_mixed o z w s c q same =
    let d : DraftForm = s.built.draft in
    let b : Built = push_step s.setting (steps.H w c) s.built in
    let new : List Step = steps.H w c ∷ [] in
    let g : Grows d b.draft (same_wire w) new = grows_mixed d w c s.setting.line q.below in
    let told' : count_measures new ≡ 0 = refl in
    record {
      new = new;
      grown = refl;
      wires = omega arith;
      setting = refl;
      inputs = λ k. refl;
      blanks = λ k h. (blank_before g k h).0;
      leaves = guard_leaves s.setting g q.condition;
      told = λ v cl off. told';
      still = λ u cl off. ap (λ h. halves u w h (u.row w.number)) (sym (same u.row) ∙ off) ∙ idle u w (u.row w.number) refl;
      gives = λ u t re on.
          subst (λ us. ListBoth (Related (with_wired z (build b s))) us (both_halves t)) (sym (ap (λ h. halves u w h (u.row w.number)) (sym (same u.row) ∙ on)))
          (one g told' u t re false, (one g told' u t re true, tt));
    }
  where
    one : (g : Grows s.built.draft (push_step s.setting (steps.H w c) s.built).draft (same_wire w) (steps.H w c ∷ [])) → count_measures (steps.H w c ∷ []) ≡ 0 → (u : WireTerm) (t : Term) → Related (with_wired z s) u t → (k : Bool) → Related (with_wired z (build (push_step s.setting (steps.H w c) s.built) s)) (half u w true (u.row w.number) k) (hadamard k t)
    one g z0 u t re k =
        let b : Built = push_step s.setting (steps.H w c) s.built in
        let y : Row = λ q. cond (same_wire w (wire_id q)) k (u.row q) in
        let e : y w.number ≡ k = ap (λ h. cond h k (u.row w.number)) (eq-eqb w.number w.number refl) in
        let ag : Agree (length s.built.draft.wires) (same_wire w) y u.row = λ j lt h. ap (λ h. cond h k (u.row j.number)) h in
        let a : AllShow y (with_wired z (build b s)) (hadamard k t) = with_bit z w s q b t (hadamard k t) y k (rest_shows z w s q u t y re ag) e refl refl refl in
        record {
          clean = λ j h.
              let both = blank_before g j h in
              ap (λ h. cond h k (u.row j.number)) (label-first (steps.H w c) [] j both.1) ∙ re.clean j both.0;
          env = a.env;
          values = a.values;
          callers = a.callers;
          eighths = ap (λ (n : ℕ). n + cond (u.row w.number && k) 4 0) re.eighths ∙ ap (λ x. t.eighths + cond (x && k) 4 0) (sym (ap is_one (wired_bit z w s q u t re) ∙ is_one_truth (u.row w.number))) ∙ if_cond (is_one (last_value t) && k);
          halvings = ap (λ (n : ℕ). n + 1) re.halvings;
          measured = measures_grown s.built.draft b.draft (steps.H w c ∷ []) refl z0 ∙ re.measured;
        }
      where
        if_cond : (h : Bool) → t.eighths + cond h 4 0 ≡ t.eighths + (if h then 4 else 0)
        if_cond true = refl
        if_cond false = refl

-- under a condition that never holds there is no step
leads_never : (o : Outcome) (z : TypedBits) (s : Flattening) (src : Term → List Term) → ((v : Row) → forced s.setting v ≡ false) → Leads o (with_wired z s) (with_wired z s) src
leads_never o z s src never = record {
  new = [];
  grown = sym (append-nil s.built.draft.steps);
  wires = omega arith;
  setting = refl;
  inputs = λ k. refl;
  blanks = λ k h. h;
  leaves = leaves_none s.setting.condition;
  told = λ v cl off. refl;
  still = λ u cl off. refl;
  gives = λ u t re on. absurd (clash (sym (never u.row) ∙ on));
}

had_is : (at : Setting) (w : WireId) (b : Built) → had_under at at.condition w b ≡ had at w b
unfolding had
had_is at w b = refl

pub leads_hadamard : (o : Outcome) (z : TypedBits) (w : WireId) (s : Flattening) → Wired z w s → Leads o (with_wired z s) (with_wired z (build (had s.setting w s.built) s)) both_halves
leads_hadamard o z w s q =
    subst (λ b. Leads o (with_wired z s) (with_wired z (build b s)) both_halves) (had_is s.setting w s.built) (go s.setting.condition refl)
  where
    go : (c : Option Operand) → s.setting.condition ≡ c → Leads o (with_wired z s) (with_wired z (build (had_under s.setting c w s.built) s)) both_halves
    go None e = leads_mixed o z w s None q (λ v. ap (λ c. condition_holds v c) e)
    go (Some (Const true)) e = leads_mixed o z w s None q (λ v. ap (λ c. condition_holds v c) e)
    go (Some (Const false)) e = leads_never o z s both_halves (λ v. ap (λ c. condition_holds v c) e)
    go (Some (Literal l)) e = leads_mixed o z w s (Some l) q (λ v. ap (λ c. condition_holds v c) e ∙ and_one (holds v (Some l)))
