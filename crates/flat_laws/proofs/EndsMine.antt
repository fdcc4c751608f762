-- Within all limits what takes values over, measures and sets ends makes a draft of a flat form.
use Rattle.std.proofs.Common.{◌≡◌, ℕ, ◌≤◌, ◌<◌, ltb, Bool, true, false, cond, not, ◌||◌, List, [], ◌∷◌, length, replicate, Some, None, refl, sym, subst, arith, length-set}
use Rattle.std.proofs.lemmas.Bool.{ltb-true}
use Rattle.silq_tree.specs.declared.node.UnaryOp.{UnaryOp}
use Rattle.silq_tree.specs.declared.node.UnaryOp.TheVariants.{Not, Neg}
use Rattle.silq_tree.specs.declared.node.BinaryOp.{BinaryOp}
use Rattle.silq_tree.specs.declared.node.BinaryOp.TheVariants.{Or, And, Eq, Ne, Lt, Le, Gt, Ge, Add, Sub, Mul, Div}
use Rattle.silq_tree.specs.declared.node.UpdateOp.{UpdateOp}
use Rattle.silq_tree.specs.declared.node.UpdateOp.TheVariants as updates
use Rattle.silq_types.specs.declared.types.Shape.{Shape}
use Rattle.silq_types.specs.Calls.{is_consumed}
use Rattle.silq_mean.specs.declared.receiver.Receiver.{Receiver}
use Rattle.silq_mean.specs.declared.receiver.Receiver.TheVariants.{Variable, Argument, CallResult, EntryOutput}
use Rattle.silq_io.specs.declared.limit.OverLimit.{OverLimit}
use Rattle.flat_core.specs.declared.step.WireId.{WireId}
use Rattle.flat_core.specs.declared.step.Step.TheVariants as steps
use Rattle.flat_core.specs.declared.step.End.{End}
use Rattle.flat_core.specs.Form.{DraftForm}
use Rattle.flat_core.specs.Label.{same_wire, wire_in}
use Rattle.flat_core.specs.Sound.{most_steps, most_outcomes, count_measures}
use Rattle.flat_core.specs.Drafts.{with_end, over_by_step, IsDraft}
use Rattle.flat_core.proofs.Drafting.{draft_step, draft_end}
use Rattle.bit_arith.specs.declared.operand.Operand.{Operand}
use Rattle.bit_arith.specs.declared.operand.Operand.TheVariants.{Const, Literal}
use Rattle.bit_arith.specs.Built.{Built, Setting, Given, new_wires, next_wires}
use Rattle.bit_arith.specs.Rows.{measure, singles, copy}
use Rattle.bit_arith.specs.Calls.{no_target, among, AllSafe, IsTarget, AreTargets}
use Rattle.bit_arith.specs.Does.{Below, Different}
use Rattle.bit_arith.proofs.Grows.{targets_more, measure_grows, measure_others}
use Rattle.bit_arith.proofs.Keeps.{flip_up_x}
use Rattle.bit_arith.proofs.Listed.{below_more}
use Rattle.bit_arith.proofs.Making.{different_from}
use Rattle.bit_arith.proofs.Steps.{or_false}
use Rattle.flat_form.specs.declared.known.TypedBits.{TypedBits}
use Rattle.flat_form.specs.State.{Flattening, is_signed, are_wires, are_new, as_they_are, copied, taken, kept, wires_in, only_wire, only_operand}
use Rattle.flat_form.specs.Flat.{by_one, by_two, end_all, measure_all, taken_for, update_by}
use Rattle.flat_form.specs.Fine.{Distinct, MayTake}
use Rattle.flat_form.proofs.Giving.{in_made, copy_answer, only_safe, safe_zeros}
use Rattle.flat_laws.proofs.EndsDraft.{Sound, both_none, some_none, limit_kept, new_targets}
use Rattle.flat_laws.proofs.EndsSums.{Guard, copy_sound, flip_each_sound, sum_sound, difference_sound, add_into_sound, sub_into_sound}
use Rattle.flat_laws.proofs.EndsTests.{product_sound, both_sound, either_sound, equal_sound, less_sound}

-- ---- rows

whichever : (c : Bool) (r q : Given (List Operand)) → Sound r.built → Sound q.built → Sound (cond c r q).built
whichever true r q a b = a
whichever false r q a b = b

module _ (at : Setting) (b : Built) (g : Guard at (length b.draft.wires) no_target) (s : Sound b) where
  abbrev n : ℕ
  n = length b.draft.wires

  pub copied_sound : (ps : List Operand) → AllSafe n no_target ps → Sound (copied at ps b).built
  copied_sound ps p = copy_sound at ps b g p s

  pub taken_sound : (v : TypedBits) → AllSafe n no_target v.operands → Sound (taken at v b).built
  taken_sound v p = whichever (v.own || are_new b.draft v.began v.operands) (as_they_are v.operands b) (copied at v.operands b) s (copied_sound v.operands p)

  kept_sound : (v : TypedBits) → AllSafe n no_target v.operands → Sound (kept at v b).built
  kept_sound v p = whichever (are_wires v.operands) (as_they_are v.operands b) (copied at v.operands b) s (copied_sound v.operands p)

  pub for_sound : (r : Receiver) (v : TypedBits) → AllSafe n no_target v.operands → Sound (taken_for r at v b).built
  for_sound Variable v p = whichever v.classical (kept at v b) (taken at v b) (kept_sound v p) (taken_sound v p)
  for_sound (Argument need t) v p = whichever (not (is_consumed need) || t.classical) (kept at v b) (taken at v b) (kept_sound v p) (taken_sound v p)
  for_sound (CallResult t) v p = taken_sound v p
  for_sound (EntryOutput t) v p = whichever (t.classical || v.classical) (copied at v.operands b) (taken at v b) (copied_sound v.operands p) (taken_sound v p)

  pub one_sound : (op : UnaryOp) (ps : List Operand) → AllSafe n no_target ps → Sound (by_one op at ps b).built
  one_sound Not ps p = s
  one_sound Neg ps p = difference_sound at (replicate (length ps) (Const false)) ps b g (safe_zeros n no_target (length ps)) p s

  pub two_sound : (op : BinaryOp) (t : Shape) (ps qs : List Operand) → AllSafe n no_target ps → AllSafe n no_target qs → Sound (by_two op t at ps qs b).built
  two_sound Or t ps qs p q = either_sound at (only_operand ps) (only_operand qs) b g (only_safe n no_target ps p) (only_safe n no_target qs q) s
  two_sound And t ps qs p q = both_sound at (only_operand ps) (only_operand qs) b g (only_safe n no_target ps p) (only_safe n no_target qs q) s
  two_sound Eq t ps qs p q = equal_sound at ps qs b g p q s
  two_sound Ne t ps qs p q = equal_sound at ps qs b g p q s
  two_sound Lt t ps qs p q = less_sound at (is_signed t) ps qs b g p q s
  two_sound Gt t ps qs p q = less_sound at (is_signed t) qs ps b g q p s
  two_sound Le t ps qs p q = less_sound at (is_signed t) qs ps b g q p s
  two_sound Ge t ps qs p q = less_sound at (is_signed t) ps qs b g p q s
  two_sound Add t ps qs p q = sum_sound at ps qs b g p q s
  two_sound Sub t ps qs p q = difference_sound at ps qs b g p q s
  two_sound Mul t ps qs p q = product_sound at ps qs b g p q s
  two_sound Div t ps qs p q = s

pub update_sound : (op : UpdateOp) (at : Setting) (ws : List WireId) (ps : List Operand) (b : Built) → AreTargets b.draft ws → Guard at (length b.draft.wires) (among ws) → AllSafe (length b.draft.wires) (among ws) ps → Sound b → Sound (update_by op at ws ps b)
update_sound updates.Add at ws ps b t g p s = add_into_sound at ws ps b t g p s
update_sound updates.Sub at ws ps b t g p s = sub_into_sound at ws ps b t g p s
update_sound updates.Xor at ws ps b t g p s = flip_each_sound at ws ps b t g p s

-- ---- ends and measures

pub end_drafts : (e : End) (ws : List WireId) (b : Built) → Below (length b.draft.wires) ws → (b.over ≡ None → IsDraft b.draft) → (end_all e ws b).over ≡ None → IsDraft (end_all e ws b).draft
end_drafts e [] b h d o = d o
end_drafts e (w ∷ ws) b h d o =
    let b1 : Built = record b { draft = with_end b.draft w e } in
    let same : length b1.draft.wires ≡ length b.draft.wires = length-set b.draft.wires w.number (record { input = (wire_in b.draft.wires w).input; ending = e }) in
    end_drafts e ws b1 (below_more (length b.draft.wires) (length b1.draft.wires) ws (omega (arith, same)) h.1) (λ u. draft_end b.draft w e (d u) h.0) o

outcome_limits : (n m i l : ℕ) (x y : OverLimit) → cond (not (ltb n m)) (Some x) (cond (ltb i l) None (Some y)) ≡ None → (n < m) × (i < l)
outcome_limits n m i l x y h = pick (ltb n m) refl h
  where
    pick : (c : Bool) → ltb n m ≡ c → cond (not c) (Some x) (cond (ltb i l) None (Some y)) ≡ None → (n < m) × (i < l)
    pick true e h = (ltb-true n m e, limit_kept i l y h)
    pick false e h = some_none x h

outcome_room : (d : DraftForm) (w : WireId) (k : ℕ) → over_by_step d (steps.M w k) ≡ None → (count_measures d.steps < most_outcomes) × (length d.steps < most_steps)
outcome_room d w k h = outcome_limits (count_measures d.steps) most_outcomes (length d.steps) most_steps _ _ h

measure_draft : (at : Setting) (w : WireId) (b : Built) → IsTarget b.draft w → (b.over ≡ None → IsDraft b.draft) → (measure at w b).over ≡ None → IsDraft (measure at w b).draft
unfolding measure
measure_draft at w b t d o =
    let c : ℕ = count_measures b.draft.steps in
    let (u, v) = both_none b.over (over_by_step b.draft (steps.M w c)) o in
    let room = outcome_room b.draft w c v in
    draft_step b.draft (steps.M w c) at.line (d u) (record { there = (t.0, (tt, tt)); differ = (tt, tt, tt); known = (tt, tt); unmeasured = t.1; eighths = tt; next_number = refl }) (λ e. room.0) room.1

others_free : (at : Setting) (w : WireId) (b : Built) (ws : List WireId) → among ws w ≡ false → AreTargets b.draft ws → AreTargets (measure at w b).draft ws
others_free at w b [] a t = tt
others_free at w b (v ∷ ws) a t =
    let (e, f) = or_false (same_wire w v) (among ws w) a in
    let le = (measure_grows at w b).few in
    let lt = t.0.0 in
    ((omega (arith, lt, le), measure_others at w b v e t.0.1), others_free at w b ws f t.1)

pub measured_drafts : (at : Setting) (ws : List WireId) (b : Built) → AreTargets b.draft ws → Distinct ws → (b.over ≡ None → IsDraft b.draft) → (measure_all at ws b).over ≡ None → IsDraft (measure_all at ws b).draft
measured_drafts at [] b t i d o = d o
measured_drafts at (w ∷ ws) b t i d o = measured_drafts at ws (measure at w b) (others_free at w b ws i.0 t.1) i.1 (measure_draft at w b t.0 d) o

pub measured_longer : (at : Setting) (ws : List WireId) (b : Built) → length b.draft.wires ≤ length (measure_all at ws b).draft.wires
measured_longer at [] b = omega arith
measured_longer at (w ∷ ws) b = let a = (measure_grows at w b).few in let c = measured_longer at ws (measure at w b) in omega (arith, a, c)

-- ---- what is taken over may be changed

pub record Mine (row : Given (List Operand)) : Type 0 where
  pub targets : AreTargets row.built.draft (wires_in row.answer)
  pub distinct : Distinct (wires_in row.answer)

copy_targets : (at : Setting) (ps : List Operand) (b : Built) → Sound b → AreTargets (copy at ps b).built.draft (copy at ps b).answer
unfolding copy
copy_targets at ps b s = targets_more (flip_up_x at (next_wires (length ps) b) (singles ps) (new_wires (length ps) b)) (next_wires (length ps) b) (new_targets (length ps) b s)

distinct_wires : (ws : List WireId) → Different ws → Distinct ws
distinct_wires [] d = tt
distinct_wires (w ∷ ws) d = (d.0, distinct_wires ws d.1)

copied_mine : (at : Setting) (ps : List Operand) (b : Built) → Sound b → Mine (copied at ps b)
copied_mine at ps b s = record {
  targets = subst (AreTargets (copy at ps b).built.draft) (sym (in_made (copy at ps b).answer)) (copy_targets at ps b s);
  distinct = subst Distinct (sym (in_made (copy at ps b).answer)) (distinct_wires (copy at ps b).answer (subst Different (sym (copy_answer at ps b)) (different_from (length b.draft.wires) (length ps))));
}

pub taken_mine : (s : Flattening) (v : TypedBits) → MayTake v s → Sound s.built → Mine (taken s.setting v s.built)
taken_mine s v may h = pick (v.own || are_new s.built.draft v.began v.operands) refl
  where
    pick : (c : Bool) → (v.own || are_new s.built.draft v.began v.operands) ≡ c → Mine (cond c (as_they_are v.operands s.built) (copied s.setting v.operands s.built))
    pick true e = record { targets = (may e).targets; distinct = (may e).distinct }
    pick false e = copied_mine s.setting v.operands s.built h

pub only_target : (d : DraftForm) (ps : List Operand) → are_wires ps ≡ true → length ps ≡ 1 → AreTargets d (wires_in ps) → IsTarget d (only_wire ps)
only_target d [] h e t = absurd (omega (arith, e))
only_target d (Const b ∷ ps) h e t = cc
only_target d (Literal l ∷ ps) h e t = t.0
