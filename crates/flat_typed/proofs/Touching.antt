-- What rows of flattening touch: operators, copies, updates and phases change their targets and new wires alone, and mix no wire.
use Rattle.std.proofs.Common.{◌≡◌, ◌⊎◌, inl, inr, ℕ, ◌≤◌, ◌<◌, Bool, true, false, cond, not, ◌&&◌, ◌||◌, List, [], ◌∷◌, length, replicate, refl, sym, ap, ap₂, ◌∙◌, arith}
use Rattle.std.proofs.lemmas.Bool.{cases_lt}
use Rattle.silq_tree.specs.declared.node.UnaryOp.{UnaryOp}
use Rattle.silq_tree.specs.declared.node.UnaryOp.TheVariants.{Not, Neg}
use Rattle.silq_tree.specs.declared.node.BinaryOp.{BinaryOp}
use Rattle.silq_tree.specs.declared.node.BinaryOp.TheVariants.{Or, And, Eq, Ne, Lt, Le, Gt, Ge, Add, Sub, Mul, Div}
use Rattle.silq_tree.specs.declared.node.UpdateOp.{UpdateOp}
use Rattle.silq_tree.specs.declared.node.UpdateOp.TheVariants as updates
use Rattle.silq_types.specs.declared.types.Shape.{Shape}
use Rattle.silq_types.specs.Calls.{is_consumed}
use Rattle.silq_mean.specs.declared.receiver.Receiver.{Receiver}
use Rattle.silq_mean.specs.declared.receiver.Receiver.TheVariants.{Variable, Argument, CallResult, EntryOutput}
use Rattle.flat_core.specs.declared.step.Step.{Step}
use Rattle.flat_core.specs.declared.step.WireId.{WireId}
use Rattle.flat_core.specs.Form.{WireForm}
use Rattle.flat_core.specs.Label.{same_wire, label_after, wire_in}
use Rattle.flat_core.specs.Sound.{is_x}
use Rattle.bit_arith.specs.declared.operand.Operand.{Operand}
use Rattle.bit_arith.specs.declared.operand.Operand.TheVariants.{Const}
use Rattle.bit_arith.specs.Built.{Built, Setting, Given, made, negated}
use Rattle.bit_arith.specs.Rows.{turn}
use Rattle.bit_arith.specs.Calls.{Targets, among}
use Rattle.bit_arith.specs.Does.{Fresh}
use Rattle.bit_arith.proofs.Steps.{label-first, label-rest}
use Rattle.flat_form.specs.declared.known.TypedBits.{TypedBits}
use Rattle.flat_form.specs.State.{is_signed, are_wires, are_new, as_they_are, copied, taken, kept, only_operand}
use Rattle.flat_form.specs.Flat.{by_one, by_two, turn_both, taken_for, update_by}
use Rattle.flat_form.specs.Names.{AllOf}
use Rattle.flat_typed.specs.Footprint.{is_mixed, Touches, StaysPlain, Unmade}
use Rattle.flat_typed.proofs.Ordered.{clash, or_left, or_right}
use Rattle.flat_typed.proofs.Owning.{same_swap}
use Rattle.flat_typed.proofs.Growing.{Plain}
use Rattle.flat_typed.proofs.Flipping.{Flips, MayFlip, flips_same, flips_then, flips_copy, flips_each, flips_add, flips_sub, flips_sum, flips_difference, flips_product, flips_both, flips_either, flips_equal, flips_less, flips_turn}

-- ---- from rows to what the relation asks

pub flips_touch : (T : Targets) (b e : Built) → Flips T (length b.draft.wires) b e → Touches T b.draft e.draft
flips_touch T b e f = record {
  grown = f.few;
  labels = f.labels;
  measured = λ w l t. f.measured w;
  mixed = λ w l t. f.mixed w;
  ends = λ w l t. f.wires w l;
  inputs = λ w. input w (cases_lt w.number (length b.draft.wires));
}
  where
    input : (w : WireId) → (w.number < length b.draft.wires) ⊎ (length b.draft.wires ≤ w.number) → ((wire_in e.draft.wires w).input ≡ (wire_in b.draft.wires w).input) ⊎ (length b.draft.wires ≤ w.number)
    input w (inl lt) = inl (ap (λ (r : WireForm). r.input) (f.wires w lt))
    input w (inr le) = inr le

pub flips_stay_plain : (T : Targets) (n : ℕ) (b e : Built) → Flips T n b e → StaysPlain b.draft e.draft
flips_stay_plain T n b e f w m = sym (f.mixed w) ∙ m

pub flips_unmade : (T : Targets) (n : ℕ) (b e : Built) → Flips T n b e → Unmade b.draft → Unmade e.draft
flips_unmade T n b e f u w le = f.measured w ∙ u w (let g = f.few in omega (arith, g, le))

-- a wire that no step changes is not mixed
pub unmixed : (steps : List Step) (w : WireId) → label_after steps w ≡ 0 → is_mixed steps w ≡ false
unmixed [] w h = refl
unmixed (s ∷ ss) w h = ap₂ (λ a b. (a && not (is_x s)) || b) (label-first s ss w h) (unmixed ss w (label-rest s ss w h))

pub flips_plain : (T : Targets) (n : ℕ) (b e : Built) → Fresh b.draft → Flips T n b e → Plain b.draft e.draft
flips_plain T n b e fresh f = record {
  grown = f.few;
  measured = λ w l. f.measured w;
  mixed = f.mixed;
  wires = f.wires;
  new = λ w le lt. (ap (λ (r : WireForm). r.input) (f.new w le lt), f.mixed w ∙ unmixed b.draft.steps w (fresh w le));
}

-- wires of a set may be flipped
pub among_may : (T : Targets) (n : ℕ) (ws : List WireId) → ((w : WireId) → among ws w ≡ true → T w ≡ true) → AllOf (MayFlip T n) ws
among_may T n ws h = go ws (λ w t. off (among ws w) refl t)
  where
    off : {w : WireId} (a : Bool) → among ws w ≡ a → T w ≡ false → a ≡ false
    off false e t = refl
    off {w} true e t = clash (sym (h w e) ∙ t)

    go : (vs : List WireId) → ((w : WireId) → T w ≡ false → among vs w ≡ false) → AllOf (MayFlip T n) vs
    go [] k = tt
    go (v ∷ vs) k = (λ w l t. same_swap v w ∙ or_left (same_wire w v) (among vs w) (k w t), go vs (λ w t. or_right (same_wire w v) (among vs w) (k w t)))

-- ---- rows of flattening

module _ (T : Targets) (n : ℕ) where
  flips_if : (t : Bool) (g h : Given (List Operand)) (b : Built) → Flips T n b g.built → Flips T n b h.built → Flips T n b (cond t g h).built
  flips_if true g h b f k = f
  flips_if false g h b f k = k

  pub flips_copied : (at : Setting) (ps : List Operand) (b : Built) → n ≤ length b.draft.wires → Flips T n b (copied at ps b).built
  flips_copied at ps b le = flips_copy T n at ps b le

  pub flips_taken : (at : Setting) (v : TypedBits) (b : Built) → n ≤ length b.draft.wires → Flips T n b (taken at v b).built
  flips_taken at v b le = flips_if (v.own || are_new b.draft v.began v.operands) (as_they_are v.operands b) (copied at v.operands b) b (flips_same T n b) (flips_copied at v.operands b le)

  pub flips_kept : (at : Setting) (v : TypedBits) (b : Built) → n ≤ length b.draft.wires → Flips T n b (kept at v b).built
  flips_kept at v b le = flips_if (are_wires v.operands) (as_they_are v.operands b) (copied at v.operands b) b (flips_same T n b) (flips_copied at v.operands b le)

  pub flips_taken_for : (r : Receiver) (at : Setting) (v : TypedBits) (b : Built) → n ≤ length b.draft.wires → Flips T n b (taken_for r at v b).built
  flips_taken_for Variable at v b le = flips_if v.classical (kept at v b) (taken at v b) b (flips_kept at v b le) (flips_taken at v b le)
  flips_taken_for (Argument need t) at v b le = flips_if (not (is_consumed need) || t.classical) (kept at v b) (taken at v b) b (flips_kept at v b le) (flips_taken at v b le)
  flips_taken_for (CallResult t) at v b le = flips_taken at v b le
  flips_taken_for (EntryOutput t) at v b le = flips_if (t.classical || v.classical) (copied at v.operands b) (taken at v b) b (flips_copied at v.operands b le) (flips_taken at v b le)

  pub flips_by_one : (op : UnaryOp) (at : Setting) (ps : List Operand) (b : Built) → n ≤ length b.draft.wires → Flips T n b (by_one op at ps b).built
  flips_by_one Not at ps b le = flips_same T n b
  flips_by_one Neg at ps b le = flips_difference T n at (replicate (length ps) (Const false)) ps b le

  pub flips_by_two : (op : BinaryOp) (s : Shape) (at : Setting) (ps qs : List Operand) (b : Built) → n ≤ length b.draft.wires → Flips T n b (by_two op s at ps qs b).built
  flips_by_two Or s at ps qs b le = flips_either T n at (only_operand ps) (only_operand qs) b le
  flips_by_two And s at ps qs b le = flips_both T n at (only_operand ps) (only_operand qs) b le
  flips_by_two Eq s at ps qs b le = flips_equal T n at ps qs b le
  flips_by_two Ne s at ps qs b le = flips_equal T n at ps qs b le
  flips_by_two Lt s at ps qs b le = flips_less T n at (is_signed s) ps qs b le
  flips_by_two Gt s at ps qs b le = flips_less T n at (is_signed s) qs ps b le
  flips_by_two Le s at ps qs b le = flips_less T n at (is_signed s) qs ps b le
  flips_by_two Ge s at ps qs b le = flips_less T n at (is_signed s) ps qs b le
  flips_by_two Add s at ps qs b le = flips_sum T n at ps qs b le
  flips_by_two Sub s at ps qs b le = flips_difference T n at ps qs b le
  flips_by_two Mul s at ps qs b le = flips_product T n at ps qs b le
  flips_by_two Div s at ps qs b le = flips_same T n b

  pub flips_turn_both : (k l : ℕ) (at : Setting) (w : WireId) (b : Built) → n ≤ length b.draft.wires → Flips T n b (turn_both k l at w b)
  flips_turn_both k l at w b le =
      let f = flips_turn T n at l (negated (made w) ∷ []) b le in
      flips_then T n f (flips_turn T n at k (made w ∷ []) (turn at l (negated (made w) ∷ []) b) (let p = f.few in omega (arith, p, le)))

  pub flips_update : (op : UpdateOp) (at : Setting) (ws : List WireId) (ps : List Operand) (b : Built) → n ≤ length b.draft.wires → AllOf (MayFlip T n) ws → Flips T n b (update_by op at ws ps b)
  flips_update updates.Add at ws ps b le may = flips_add T n at ws ps b le may
  flips_update updates.Sub at ws ps b le may = flips_sub T n at ws ps b le may
  flips_update updates.Xor at ws ps b le may = flips_each T n at ws ps b le may
