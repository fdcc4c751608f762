-- H, M and ends: what they touch.
use Rattle.std.proofs.Common.{◌≡◌, ◌⊎◌, inl, inr, ℕ, ◌+◌, ◌≤◌, ◌<◌, Bool, true, false, cond, ◌&&◌, ◌||◌, List, [], ◌∷◌, ◌++◌, length, Option, Some, None, refl, sym, ap, ◌∙◌, subst, arith, length-set, get_or-set_same, get_or-set_other, slice_set}
use Rattle.std.specs.Prelude.{get_or}
use Rattle.std.proofs.Math.Bool.{or-false}
use Rattle.std.proofs.lemmas.Bool.{cases_lt, cases_eq, eq-eqb}
use Rattle.std.proofs.lemmas.List.Folds.{list_any-append}
use Rattle.flat_core.specs.declared.step.Step.{Step}
use Rattle.flat_core.specs.declared.step.Step.TheVariants.{H, M}
use Rattle.flat_core.specs.declared.step.WireId.{WireId}
use Rattle.flat_core.specs.declared.step.Lit.{Lit}
use Rattle.flat_core.specs.declared.step.End.{End}
use Rattle.flat_core.specs.Form.{DraftForm, WireForm}
use Rattle.flat_core.specs.Label.{same_wire, label_after, wire_in, no_wire}
use Rattle.flat_core.specs.Drafts.{with_end, is_measured}
use Rattle.flat_core.specs.Sound.{count_measures}
use Rattle.flat_core.proofs.Labels.{label_after-push, is_measured-push}
use Rattle.bit_arith.specs.declared.operand.Operand.{Operand}
use Rattle.bit_arith.specs.declared.operand.Operand.TheVariants.{Const, Literal}
use Rattle.bit_arith.specs.Built.{Built, Setting, push}
use Rattle.bit_arith.specs.Rows.{had, had_under, measure}
use Rattle.bit_arith.specs.Calls.{Targets, among}
use Rattle.flat_form.specs.Flat.{end_all, measure_all}
use Rattle.flat_form.proofs.Later.{end_all_steps, end_all_length}
use Rattle.flat_typed.specs.Places.{times_in}
use Rattle.flat_typed.specs.Footprint.{is_mixed, Touches, StaysPlain, Unmade}
use Rattle.flat_typed.proofs.Ordered.{clash}
use Rattle.flat_typed.proofs.Owning.{wire_is}
use Rattle.flat_typed.proofs.Using.{touches_none}
use Rattle.flat_typed.proofs.Growing.{touches_then}
use Rattle.flat_typed.proofs.Mixing.{Mixes}

-- a wire outside a set is none of it
pub other_wire : (T : Targets) (w v : WireId) → T w ≡ true → T v ≡ false → same_wire w v ≡ false
other_wire T w v t f = go (same_wire w v) refl
  where
    go : (b : Bool) → same_wire w v ≡ b → b ≡ false
    go false e = refl
    go true e = clash (sym (subst (λ (x : WireId). T x ≡ true) (wire_is w v e) t) ∙ f)

among_other : (T : Targets) (ws : List WireId) → ((w : WireId) → among ws w ≡ true → T w ≡ true) → (v : WireId) → T v ≡ false → among ws v ≡ false
among_other T ws h v f = go (among ws v) refl
  where
    go : (b : Bool) → among ws v ≡ b → b ≡ false
    go false e = refl
    go true e = clash (sym (h v e) ∙ f)

-- ---- H

label_same : (steps : List Step) (s : Step) (t : Bool) (v : WireId) → label_after (steps ++ s ∷ []) v ≡ label_after steps v + cond t 1 0 → t ≡ false → label_after (steps ++ s ∷ []) v ≡ label_after steps v
label_same steps s t v e f = e ∙ (ap (λ b. label_after steps v + cond b 1 0) f ∙ omega arith)

mixed_by : (at : Setting) (w : WireId) (c : Option Lit) (b : Built) (v : WireId) → is_mixed (push at (H w c) b).draft.steps v ≡ (is_mixed b.draft.steps v || ((same_wire w v && true) || false))
mixed_by at w c b v = list_any-append _ b.draft.steps (H w c ∷ [])

push_h : (T : Targets) (at : Setting) (w : WireId) (c : Option Lit) (b : Built) → T w ≡ true → Touches T b.draft (push at (H w c) b).draft
push_h T at w c b t = record {
  grown = omega arith;
  labels = λ v l f. label_same b.draft.steps (H w c) (same_wire w v) v (label_after-push b.draft.steps (H w c) v) (other_wire T w v t f);
  measured = λ v l f. is_measured-push b.draft.steps (H w c) v ∙ or-false (is_measured b.draft.steps v);
  mixed = λ v l f. mixed_by at w c b v ∙ (ap (λ x. is_mixed b.draft.steps v || ((x && true) || false)) (other_wire T w v t f) ∙ or-false (is_mixed b.draft.steps v));
  ends = λ v l f. refl;
  inputs = λ v. inl refl;
}

-- H changes its own wire alone
pub had_touches : (T : Targets) (at : Setting) (w : WireId) (b : Built) → T w ≡ true → Touches T b.draft (had at w b).draft
unfolding had
had_touches T at w b t = go at.condition
  where
    go : (c : Option Operand) → Touches T b.draft (had_under at c w b).draft
    go None = push_h T at w None b t
    go (Some (Const true)) = push_h T at w None b t
    go (Some (Const false)) = touches_none T b.draft
    go (Some (Literal l)) = push_h T at w (Some l) b t

mixes_none : (ps : List Operand) (d : DraftForm) → Mixes ps d d
mixes_none ps d = record { grown = omega arith; measured = λ v l. refl; mixed = λ v m. inl m; wires = λ v l. refl; new = λ v le lt. absurd (omega (arith, le, lt)) }

push_mixes : (ps : List Operand) (at : Setting) (w : WireId) (c : Option Lit) (b : Built) → 1 ≤ times_in w ps → Mixes ps b.draft (push at (H w c) b).draft
push_mixes ps at w c b le = record {
  grown = omega arith;
  measured = λ v l. is_measured-push b.draft.steps (H w c) v ∙ or-false (is_measured b.draft.steps v);
  mixed = λ v m. mixed v (is_mixed b.draft.steps v) (same_wire w v) refl refl (sym (mixed_by at w c b v) ∙ m);
  wires = λ v l. refl;
  new = λ v le lt. absurd (omega (arith, le, lt));
}
  where
    mixed : (v : WireId) (a t : Bool) → is_mixed b.draft.steps v ≡ a → same_wire w v ≡ t → (a || ((t && true) || false)) ≡ true → (a ≡ true) ⊎ (1 ≤ times_in v ps)
    mixed v true t e f m = inl refl
    mixed v false true e f m = inr (subst (λ (x : WireId). 1 ≤ times_in x ps) (wire_is w v f) le)
    mixed v false false e f m = clash (sym m)

-- and mixes it
pub had_mixes : (ps : List Operand) (at : Setting) (w : WireId) (b : Built) → 1 ≤ times_in w ps → Mixes ps b.draft (had at w b).draft
unfolding had
had_mixes ps at w b le = go at.condition
  where
    go : (c : Option Operand) → Mixes ps b.draft (had_under at c w b).draft
    go None = push_mixes ps at w None b le
    go (Some (Const true)) = push_mixes ps at w None b le
    go (Some (Const false)) = mixes_none ps b.draft
    go (Some (Literal l)) = push_mixes ps at w (Some l) b le

-- ---- M

-- wires stay; no wire is changed, and none is measured but those of a set
pub record MeasuresOnly (T : Targets) (b e : Built) : Type 0 where
  pub wires : e.draft.wires ≡ b.draft.wires
  pub labels : (w : WireId) → label_after e.draft.steps w ≡ label_after b.draft.steps w
  pub mixed : (w : WireId) → is_mixed e.draft.steps w ≡ is_mixed b.draft.steps w
  pub measured : (w : WireId) → T w ≡ false → is_measured e.draft.steps w ≡ is_measured b.draft.steps w

measure_one : (T : Targets) (at : Setting) (w : WireId) (b : Built) → T w ≡ true → MeasuresOnly T b (measure at w b)
unfolding measure
measure_one T at w b t = record {
  wires = refl;
  labels = λ v. label_same b.draft.steps (M w (count_measures b.draft.steps)) false v (label_after-push b.draft.steps (M w (count_measures b.draft.steps)) v) refl;
  mixed = λ v. list_any-append _ b.draft.steps (M w (count_measures b.draft.steps) ∷ []) ∙ or-false (is_mixed b.draft.steps v);
  measured = λ v f. is_measured-push b.draft.steps (M w (count_measures b.draft.steps)) v ∙ (ap (λ x. is_measured b.draft.steps v || x) (other_wire T w v t f) ∙ or-false (is_measured b.draft.steps v));
}

pub measures_only : (T : Targets) (at : Setting) (ws : List WireId) (b : Built) → ((w : WireId) → among ws w ≡ true → T w ≡ true) → MeasuresOnly T b (measure_all at ws b)
measures_only T at [] b h = record { wires = refl; labels = λ w. refl; mixed = λ w. refl; measured = λ w f. refl }
measures_only T at (w ∷ ws) b h =
    let one : MeasuresOnly T b (measure at w b) = measure_one T at w b (h w (ap (λ x. x || among ws w) (eq-eqb w.number w.number refl))) in
    let rest : MeasuresOnly T (measure at w b) (measure_all at (w ∷ ws) b) = measures_only T at ws (measure at w b) (λ v a. h v (or_in (same_wire v w) (among ws v) a)) in
    record {
      wires = rest.wires ∙ one.wires;
      labels = λ v. rest.labels v ∙ one.labels v;
      mixed = λ v. rest.mixed v ∙ one.mixed v;
      measured = λ v f. rest.measured v f ∙ one.measured v f;
    }
  where
    or_in : (a b : Bool) → b ≡ true → (a || b) ≡ true
    or_in true b e = refl
    or_in false b e = e

measured_touches : (T : Targets) (b e : Built) → MeasuresOnly T b e → Touches T b.draft e.draft
measured_touches T b e m = record {
  grown = let l = ap (λ ws. length ws) m.wires in omega (arith, l);
  labels = λ v l f. m.labels v;
  measured = λ v l f. m.measured v f;
  mixed = λ v l f. m.mixed v;
  ends = λ v l f. ap (λ ws. wire_in ws v) m.wires;
  inputs = λ v. inl (ap (λ ws. (wire_in ws v).input) m.wires);
}

-- ---- ends

abbrev ending_so : DraftForm → WireId → End → WireForm
ending_so d w e = record { input = (wire_in d.wires w).input; ending = e }

end_one_touches : (T : Targets) (e : End) (w : WireId) (d : DraftForm) → T w ≡ true → Touches T d (with_end d w e)
end_one_touches T e w d t = record {
  grown = let l = length-set d.wires w.number (ending_so d w e) in omega (arith, l);
  labels = λ v l f. refl;
  measured = λ v l f. refl;
  mixed = λ v l f. refl;
  ends = λ v l f. get_or-set_other d.wires w.number v.number (ending_so d w e) no_wire (λ q. no v f q);
  inputs = λ v. input v (cases_lt v.number (length d.wires)) (cases_eq v.number w.number);
}
  where
    no : (v : WireId) → T v ≡ false → v.number ≡ w.number → ⊥
    no v f q = clash (sym (eq-eqb w.number v.number (sym q)) ∙ other_wire T w v t f)

    input : (v : WireId) → (v.number < length d.wires) ⊎ (length d.wires ≤ v.number) → (v.number ≡ w.number) ⊎ (v.number ≡ w.number → ⊥) → ((wire_in (with_end d w e).wires v).input ≡ (wire_in d.wires v).input) ⊎ (length d.wires ≤ v.number)
    input v (inr le) y = inr le
    input v (inl lt) (inl q) =
        inl (ap (λ (n : ℕ). (get_or (slice_set d.wires w.number (ending_so d w e)) n no_wire).input) q
        ∙ (ap (λ (r : WireForm). r.input) (get_or-set_same d.wires w.number (ending_so d w e) no_wire (omega (arith, lt, q)))
        ∙ ap (λ (n : ℕ). (get_or d.wires n no_wire).input) (sym q)))
    input v (inl lt) (inr k) = inl (ap (λ (r : WireForm). r.input) (get_or-set_other d.wires w.number v.number (ending_so d w e) no_wire k))

-- ends are set for their own wires alone
pub ends_touch : (T : Targets) (e : End) (ws : List WireId) (b : Built) → ((w : WireId) → among ws w ≡ true → T w ≡ true) → Touches T b.draft (end_all e ws b).draft
ends_touch T e [] b h = touches_none T b.draft
ends_touch T e (w ∷ ws) b h =
    touches_then T T b.draft (with_end b.draft w e) (end_all e (w ∷ ws) b).draft (end_one_touches T e w b.draft (h w (ap (λ x. x || among ws w) (eq-eqb w.number w.number refl))))
    (ends_touch T e ws (record b { draft = with_end b.draft w e }) (λ v a. h v (or_in (same_wire v w) (among ws v) a))) (λ v l f. f)
  where
    or_in : (a b : Bool) → b ≡ true → (a || b) ≡ true
    or_in true b e = refl
    or_in false b e = e

pub ends_stay_plain : (e : End) (ws : List WireId) (b : Built) → StaysPlain b.draft (end_all e ws b).draft
ends_stay_plain e ws b w m = sym (ap (λ ss. is_mixed ss w) (end_all_steps e ws b)) ∙ m

-- what is measured and ends so
pub measuring_touches : (T : Targets) (e : End) (at : Setting) (ws : List WireId) (b : Built) → ((w : WireId) → among ws w ≡ true → T w ≡ true) → Touches T b.draft (end_all e ws (measure_all at ws b)).draft
measuring_touches T e at ws b h =
    touches_then T T b.draft (measure_all at ws b).draft (end_all e ws (measure_all at ws b)).draft (measured_touches T b (measure_all at ws b) (measures_only T at ws b h)) (ends_touch T e ws (measure_all at ws b) h) (λ v l f. f)

-- each of these wires that is there ends so
pub end_told : (e : End) (ws : List WireId) (b : Built) (w : WireId) → w.number < length b.draft.wires → among ws w ≡ true → (wire_in (end_all e ws b).draft.wires w).ending ≡ e
end_told e [] b w lt a = clash (sym a)
end_told e (v ∷ ws) b w lt a = go (among ws w) refl (λ n. end_told e ws (record b { draft = with_end b.draft v e }) w (subst (λ m. w.number < m) (sym (length-set b.draft.wires v.number (ending_so b.draft v e))) lt) n)
  where
    longer : length (with_end b.draft v e).wires ≡ length b.draft.wires
    longer = length-set b.draft.wires v.number (ending_so b.draft v e)

    first : (t : Bool) → same_wire w v ≡ t → (t || among ws w) ≡ true → among ws w ≡ false → (wire_in (with_end b.draft v e).wires w).ending ≡ e
    first false f a n = clash (sym a ∙ n)
    first true f a n =
        let same : w ≡ v = wire_is w v f in
        subst (λ (x : WireId). (wire_in (with_end b.draft v e).wires x).ending ≡ e) (sym same) (ap (λ (r : WireForm). r.ending) (get_or-set_same b.draft.wires v.number (ending_so b.draft v e) no_wire (subst (λ (x : WireId). x.number < length b.draft.wires) same lt)))

    go : (t : Bool) → among ws w ≡ t → (among ws w ≡ true → (wire_in (end_all e (v ∷ ws) b).draft.wires w).ending ≡ e) → (wire_in (end_all e (v ∷ ws) b).draft.wires w).ending ≡ e
    go true n i = i n
    go false n i =
        ap (λ (r : WireForm). r.ending) ((ends_touch (among ws) e ws (record b { draft = with_end b.draft v e }) (λ x y. y)).ends w (subst (λ m. w.number < m) (sym longer) lt) n)
        ∙ first (same_wire w v) refl a n

-- wires that are there are measured, and none that is not made
pub measuring_unmade : (e : End) (at : Setting) (ws : List WireId) (b : Built) → ((w : WireId) → among ws w ≡ true → w.number < length b.draft.wires) → Unmade b.draft → Unmade (end_all e ws (measure_all at ws b)).draft
measuring_unmade e at ws b low u w le =
    ap (λ ss. is_measured ss w) (end_all_steps e ws (measure_all at ws b))
    ∙ ((measures_only (among ws) at ws b (λ v a. a)).measured w (none (among ws w) refl) ∙ u w past)
  where
    past : length b.draft.wires ≤ w.number
    past =
        let q = end_all_length e ws (measure_all at ws b) in
        let r = ap (λ rs. length rs) (measures_only (among ws) at ws b (λ v a. a)).wires in
        omega (arith, q, r, le)

    none : (t : Bool) → among ws w ≡ t → t ≡ false
    none false a = refl
    none true a = let lt = low w a in let q = past in absurd (omega (arith, lt, q))
