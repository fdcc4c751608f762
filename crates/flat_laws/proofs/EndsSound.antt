-- Within all limits each effect of a program makes a draft of a flat form.
use Rattle.std.proofs.Common.{◌≡◌, ℕ, ◌≤◌, ◌<◌, true, List, [], ◌∷◌, length, ℤ, Option, Some, None, nat_abs, refl, ap, ◌∙◌, arith}
use Rattle.silq_tree.specs.declared.node.NameId.{NameId}
use Rattle.silq_tree.specs.declared.node.UnaryOp.{UnaryOp}
use Rattle.silq_tree.specs.declared.node.BinaryOp.{BinaryOp}
use Rattle.silq_tree.specs.declared.node.UpdateOp.{UpdateOp}
use Rattle.silq_types.specs.declared.types.Shape.TheVariants.{Bit}
use Rattle.silq_types.specs.Types.{shape_bits}
use Rattle.silq_mean.specs.declared.receiver.Receiver.{Receiver}
use Rattle.silq_mean.specs.declared.receiver.Receiver.TheVariants.{Variable, Argument, CallResult, EntryOutput}
use Rattle.silq_mean.specs.Effect.{Effect, nothing, ◌>>◌, statement, step, mix, measure as measured, claim, choice, Step, give_static, give_typed, give_part, one_operand, two_operands, copy_last, repeat_last, flip_last, turn_by, turn_all, receive, assign_to, assign_in_turn, update_to, end_name, end_compared, enter_block, leave_block, enter_body, leave_body}
use Rattle.flat_core.specs.declared.step.WireId.{WireId}
use Rattle.flat_core.specs.declared.step.End.TheVariants.{Measured, Zeroed}
use Rattle.flat_core.specs.Label.{same_wire}
use Rattle.bit_arith.specs.declared.operand.Operand.{Operand}
use Rattle.bit_arith.specs.Built.{Built, Setting, Given, made, negated, under}
use Rattle.bit_arith.specs.Rows.{flip, turn, had, flip_each}
use Rattle.bit_arith.specs.Calls.{no_target, among, Safe, IsTarget, WasRead}
use Rattle.bit_arith.specs.Does.{Below}
use Rattle.bit_arith.proofs.Grows.{XGrows, turn_x, all_safe_more}
use Rattle.bit_arith.proofs.Keeps.{flip_each_x}
use Rattle.bit_arith.proofs.Listed.{below_more, safe_one}
use Rattle.bit_arith.proofs.Making.{negated_safe}
use Rattle.bit_arith.proofs.Safe.{under_safe}
use Rattle.flat_form.specs.declared.known.TypedBits.{TypedBits}
use Rattle.flat_form.specs.declared.known.Known.{Known}
use Rattle.flat_form.specs.declared.known.Known.TheVariants.{Static, Shown, Lent, Absent}
use Rattle.flat_form.specs.State.{Caller, Flattening, last, drop_last, operands_of, typed_as, typed_like, part_shape, part_of, are_wires, taken, wires_in, only_wire}
use Rattle.flat_form.specs.Flat.{on_one, on_two_typed, began_at, as_operand, give_copy, give_repeated, repeated, on_wire, turn_both, measure_all, measure_value, shape_for, receive_value, known_in, update_variable, zero_variable, without_name, back_to, flat_step, count_statement, on_line, entered, chosen_by, first_branch, second_branch, flat}
use Rattle.flat_form.specs.Good.{Good, IsShown, IsKnown}
use Rattle.flat_form.specs.Fine.{IsOf, MayChange, MayTake, UpdatesPart, without_part, FineStep, Fine}
use Rattle.flat_form.proofs.Kept.{known_last, known_drop}
use Rattle.flat_form.proofs.Later.{later_then, later_read}
use Rattle.flat_form.proofs.Giving.{Takes, takes_taken, safe_repeated, typed_as_known, typed_as_safe, typed_like_safe, as_operand_known}
use Rattle.flat_form.proofs.Goods.{Goes, Branches, at_second, good_statement, goes_first, goes_second, goes_flat, below_targets, chosen_safe, last_spared, only_guard}
use Rattle.flat_laws.proofs.EndsKept.{ended_zeroed, ended_measured, targets_unmeasured}
use Rattle.flat_laws.proofs.EndsDraft.{Sound, both_none, flip_sound, turn_sound, had_sound}
use Rattle.flat_laws.proofs.EndsSums.{Guard, flip_each_sound, plain_safe}
use Rattle.flat_laws.proofs.EndsTests.{new_flip_sound}
use Rattle.flat_laws.proofs.EndsMine.{Mine, copied_sound, taken_sound, for_sound, one_sound, two_sound, update_sound, end_drafts, measured_drafts, measured_longer, taken_mine, only_target}

-- ---- steps

module _ (s : Flattening) (g : Good s) (h : Sound s.built) where
  abbrev wires : ℕ
  wires = length s.built.draft.wires

  last_known : IsKnown wires (last s)
  last_known = known_last (IsKnown wires) s tt g.known

  rest_known : IsKnown wires (last (drop_last s))
  rest_known = known_last (IsKnown wires) (drop_last s) tt (known_drop (IsKnown wires) s g.known)

  on_one_sound : (op : UnaryOp) (k : Known) → IsKnown wires k → Sound (on_one op k (drop_last s)).built
  on_one_sound op (Shown v) q = one_sound s.setting s.built g.condition h op v.operands q.there
  on_one_sound op (Static z) q = h
  on_one_sound op (Lent start size v) q = h
  on_one_sound op Absent q = h

  on_two_sound : (op : BinaryOp) (began : ℕ) (k l : Known) → IsKnown wires k → IsKnown wires l → Sound (on_two_typed op began k l (drop_last (drop_last s))).built
  on_two_sound op began (Shown v) (Shown w) p q = two_sound s.setting s.built g.condition h op v.shape v.operands w.operands p.there q.there
  on_two_sound op began (Shown v) (Static z) p q = h
  on_two_sound op began (Shown v) (Lent start size w) p q = h
  on_two_sound op began (Shown v) Absent p q = h
  on_two_sound op began (Static z) l p q = h
  on_two_sound op began (Lent start size v) l p q = h
  on_two_sound op began Absent l p q = h

  copy_of_sound : (k : Known) → IsKnown wires k → Sound (give_copy k (drop_last s)).built
  copy_of_sound (Shown v) q = copied_sound s.setting s.built g.condition h v.operands q.there
  copy_of_sound (Static z) q = h
  copy_of_sound (Lent start size v) q = h
  copy_of_sound Absent q = h

  repeated_sound : (k l : Known) → IsKnown wires l → Sound (give_repeated k l (drop_last (drop_last s))).built
  repeated_sound (Static n) (Shown v) q = copied_sound s.setting s.built g.condition h (repeated (nat_abs n) v.operands) (safe_repeated wires no_target (nat_abs n) v.operands q.there)
  repeated_sound (Static n) (Static z) q = h
  repeated_sound (Static n) (Lent start size v) q = h
  repeated_sound (Static n) Absent q = h
  repeated_sound (Shown v) l q = h
  repeated_sound (Lent start size v) l q = h
  repeated_sound Absent l q = h

  taken_row : (v : TypedBits) → IsShown wires v → MayTake v s → Takes s.setting s.built.draft (length v.operands) (taken s.setting v s.built)
  taken_row v q may = takes_taken s.setting v s.built g.fresh g.condition q (λ k. (may k).condition)

  gate_sound : (gate : Setting → WireId → Built → Built) → ((at : Setting) (w : WireId) (b : Built) → IsTarget b.draft w → Guard at (length b.draft.wires) (same_wire w) → WasRead b.draft at.condition → Sound b → Sound (gate at w b))
      → (k : Known) → IsKnown wires k → IsOf (λ v. (v.shape ≡ Bit) × MayTake v s) k → Sound (on_wire gate k (drop_last s)).built
  gate_sound gate ok (Static z) q f = absurd f
  gate_sound gate ok (Lent start size v) q f = absurd f
  gate_sound gate ok Absent q f = absurd f
  gate_sound gate ok (Shown v) q f =
      let row : Given (List Operand) = taken s.setting v s.built in
      let r : Takes s.setting s.built.draft (length v.operands) row = taken_row v q f.1 in
      let m : Mine row = taken_mine s v f.1 h in
      let one : length row.answer ≡ 1 = r.gives.size ∙ (q.size ∙ ap shape_bits f.0) in
      ok s.setting (only_wire row.answer) row.built (only_target row.built.draft row.answer r.wires one m.targets)
      (only_guard (length row.built.draft.wires) row.answer (under s.setting []) r.wires one r.guards)
      (later_read s.built.draft row.built.draft r.gives.later g.fresh s.setting.condition g.read) (taken_sound s.setting s.built g.condition h v q.there)

  measure_sound : (k : Known) → IsKnown wires k → IsOf (λ v. MayTake v s) k → Sound (measure_value k (drop_last s)).built
  measure_sound (Static z) q f = absurd f
  measure_sound (Lent start size v) q f = absurd f
  measure_sound Absent q f = absurd f
  measure_sound (Shown v) q f =
      let row : Given (List Operand) = taken s.setting v s.built in
      let r : Takes s.setting s.built.draft (length v.operands) row = taken_row v q f in
      let m : Mine row = taken_mine s v f h in
      let t : Sound row.built = taken_sound s.setting s.built g.condition h v q.there in
      let ws : List WireId = wires_in row.answer in
      let below : Below (length row.built.draft.wires) ws = below_targets row.built.draft ws m.targets in
      record {
        ended = ended_measured s.setting ws row.built below t.ended;
        draft = end_drafts Measured ws (measure_all s.setting ws row.built) (below_more (length row.built.draft.wires) (length (measure_all s.setting ws row.built).draft.wires) ws (measured_longer s.setting ws row.built) below)
            (measured_drafts s.setting ws row.built m.targets m.distinct t.draft);
      }

  receive_sound : (r : Receiver) (k : Known) → IsKnown wires k → Sound (receive_value r k (drop_last s)).built
  receive_sound r (Shown v) q = for_sound s.setting s.built g.condition h r v q.there
  receive_sound r (Static z) q = h
  receive_sound r (Lent start size v) q = h
  receive_sound r Absent q = h

  for_known : (r : Receiver) (k : Known) → IsKnown wires k → IsKnown wires (shape_for r wires k)
  for_known Variable k q = q
  for_known (Argument need t) k q = typed_as_known wires wires t.shape k q
  for_known (CallResult t) k q = typed_as_known wires wires t.shape k q
  for_known (EntryOutput t) k q = typed_as_known wires wires t.shape k q

  variable_sound : (k : Known) (x : NameId) (is : List ℤ) (op : UpdateOp) → IsOf (UpdatesPart x is op s) k → Sound (update_variable k is op (last s) s).built
  variable_sound (Static z) x is op f = absurd f
  variable_sound (Lent start size v) x is op f = absurd f
  variable_sound Absent x is op f = absurd f
  variable_sound (Shown v) x is op f =
      let ws : List WireId = wires_in (part_of v.shape is v.operands) in
      update_sound op s.setting ws (operands_of (typed_as 0 (part_shape v.shape is) (last s))) s.built f.change.targets f.change.condition
      (typed_as_safe wires 0 (among ws) (part_shape v.shape is) (last s) last_known (last_spared (among ws) (without_part x is v s) f.change.spared)) h

  claim_sound : (x : NameId) (k : Known) → IsOf (λ v. IsOf (λ w. w.shape ≡ v.shape) (typed_like 0 (Shown v) (last s)) × (are_wires v.operands ≡ true) × MayChange (wires_in v.operands) s (without_name x s)) k → Sound (zero_variable k (last s) s).built
  claim_sound x (Static z) f = absurd f
  claim_sound x (Lent start size v) f = absurd f
  claim_sound x Absent f = absurd f
  claim_sound x (Shown v) f =
      let ws : List WireId = wires_in v.operands in
      let ps : List Operand = operands_of (typed_like 0 (Shown v) (last s)) in
      let b : Built = flip_each s.setting ws ps s.built in
      let r : XGrows s.built b = flip_each_x s.setting ws ps s.built in
      let t : Sound b = flip_each_sound s.setting ws ps s.built f.2.targets f.2.condition (typed_like_safe wires 0 (among ws) (Shown v) (last s) last_known (last_spared (among ws) (without_name x s) f.2.spared)) h in
      let below : Below (length b.draft.wires) ws = below_more wires (length b.draft.wires) ws r.grows.few (below_targets s.built.draft ws f.2.targets) in
      record {
        ended = ended_zeroed ws b below (λ w a. r.unmeasured w (targets_unmeasured s.built.draft ws w f.2.targets a)) t.ended;
        draft = end_drafts Zeroed ws b below t.draft;
      }

  back_sound : (cs : List Caller) → Sound (back_to s cs).built
  back_sound [] = h
  back_sound (c ∷ cs) = h

  -- gates
  flip_gate : (at : Setting) (w : WireId) (b : Built) → IsTarget b.draft w → Guard at (length b.draft.wires) (same_wire w) → WasRead b.draft at.condition → Sound b → Sound (flip at w [] b)
  flip_gate at w b t c r k = flip_sound at w [] b t c k

  turn_gate : (i j : ℕ) (at : Setting) (w : WireId) (b : Built) → IsTarget b.draft w → Guard at (length b.draft.wires) (same_wire w) → WasRead b.draft at.condition → Sound b → Sound (turn_both i j at w b)
  turn_gate i j at w b t c r k =
      let n : ℕ = length b.draft.wires in
      let b1 : Built = turn at j (negated (made w) ∷ []) b in
      let le : n ≤ length b1.draft.wires = (turn_x at j (negated (made w) ∷ []) b).grows.few in
      let lt : w.number < n = t.0 in
      let g0 : Guard at n no_target = plain_safe n (same_wire w) (under at []) c in
      turn_sound at i (made w ∷ []) b1 (under_safe (length b1.draft.wires) no_target at (made w ∷ []) (all_safe_more n (length b1.draft.wires) no_target (under at []) le g0) ((omega (arith, lt, le), refl), tt))
      (turn_sound at j (negated (made w) ∷ []) b (under_safe n no_target at (negated (made w) ∷ []) g0 ((lt, refl), tt)) k)

  step_sound : (st : Step) → FineStep st s → Sound (flat_step st s).built
  step_sound (give_static z) f = h
  step_sound (give_typed k z) f = h
  step_sound (give_part need x is) f = h
  step_sound (one_operand op) f = on_one_sound op (last s) last_known
  step_sound (two_operands op) f =
      on_two_sound op (began_at (last (drop_last s)) (last s)) (as_operand (last s) (last (drop_last s))) (as_operand (last (drop_last s)) (last s))
      (as_operand_known wires (last s) (last (drop_last s)) rest_known) (as_operand_known wires (last (drop_last s)) (last s) last_known)
  step_sound copy_last f = copy_of_sound (last s) last_known
  step_sound repeat_last f = repeated_sound (last (drop_last s)) (last s) last_known
  step_sound flip_last f = gate_sound (λ at w b. flip at w [] b) flip_gate (last s) last_known f
  step_sound (turn_by i j) f = gate_sound (turn_both i j) (turn_gate i j) (last s) last_known f.0
  step_sound (turn_all k) f = turn_sound s.setting k [] s.built g.condition h
  step_sound (receive r) f = receive_sound r (shape_for r wires (last s)) (for_known r (last s) last_known)
  step_sound (assign_to x is) f = h
  step_sound (assign_in_turn xs) f = h
  step_sound (update_to x is op) f = variable_sound (known_in s x) x is op f.0
  step_sound (end_name x) f = h
  step_sound (end_compared x) f = h
  step_sound enter_block f = h
  step_sound leave_block f = h
  step_sound (enter_body xs) f = h
  step_sound leave_body f = back_sound s.callers

-- ---- choices and statements

entered_sound : (line : ℕ) (outer : Option Operand) (c : Operand) (b : Built) → Guard (record { line = line; condition = outer }) (length b.draft.wires) no_target → Safe (length b.draft.wires) no_target c → Sound b → Sound (entered (record { line = line; condition = outer }) c b).built
entered_sound line None c b g q h = h
entered_sound line (Some p) c b g q h = new_flip_sound (record { line = line; condition = Some p }) (c ∷ []) b g (q, tt) h

counted_sound : (s : Flattening) → Sound s.built → Sound (count_statement s).built
counted_sound s h = record { ended = h.ended; draft = λ o. h.draft (both_none s.built.over _ o).0 }

-- ---- effects

pub sound_flat : (e : Effect) (s : Flattening) → Good s → Fine e s → Sound s.built → Sound (flat e s).built
sound_flat nothing s g f h = h
sound_flat (a >> b) s g f h =
    let q : Goes s (flat a s) = goes_flat a s g f.0 in sound_flat b (flat a s) q.good f.1 (sound_flat a s g f.0 h)
sound_flat (statement line e) s g f h = sound_flat e (on_line line (count_statement s)) (good_statement line s g) f (counted_sound s h)
sound_flat (step st) s g f h = step_sound s g h st f
sound_flat mix s g f h = gate_sound s g h had had_sound (last s) (last_known s g h) f
sound_flat measured s g f h = measure_sound s g h (last s) (last_known s g h) f.1
sound_flat (claim line x) s g f h = claim_sound s g h x (known_in s x) f
sound_flat (choice a b) s g f h =
    let n : ℕ = length s.built.draft.wires in
    let first : Flattening = first_branch s in
    let one : Flattening = flat a first in
    let m : ℕ = length one.built.draft.wires in
    let p : Branches (drop_last s) first = goes_first s g in
    let q : Goes first one = goes_flat a first p.good f.1 in
    let l = later_then s.built.draft first.built.draft one.built.draft p.later q.later in
    let r : Branches (at_second one s) (second_branch one s) = goes_second s one g l in
    let h1 : Sound first.built = entered_sound s.setting.line s.setting.condition (chosen_by s) s.built g.condition (chosen_safe s g) h in
    let h2 : Sound one.built = sound_flat a first p.good f.1 h1 in
    sound_flat b (second_branch one s) r.good f.2
    (entered_sound s.setting.line s.setting.condition (negated (chosen_by s)) one.built (all_safe_more n m no_target (under s.setting []) l.longer g.condition)
    (negated_safe m no_target (chosen_by s) (safe_one n m no_target no_target (chosen_by s) l.longer (λ w lt x. x) (chosen_safe s g))) h2)
