-- What holds of each state of flattening is kept by each effect.
use Rattle.std.proofs.Common.{◌≡◌, ℕ, ◌*◌, ◌≤◌, ◌<◌, Bool, true, false, cond, not, ◌&&◌, ◌||◌, List, [], ◌∷◌, length, take, reverse, Option, Some, None, ℤ, nat_abs, refl, sym, ap, ◌∙◌, subst, arith}
use Rattle.silq_tree.specs.declared.node.NameId.{NameId}
use Rattle.silq_tree.specs.declared.node.UnaryOp.{UnaryOp}
use Rattle.silq_tree.specs.declared.node.BinaryOp.{BinaryOp}
use Rattle.silq_tree.specs.declared.node.UpdateOp.{UpdateOp}
use Rattle.silq_tree.specs.declared.node.UpdateOp.TheVariants as updates
use Rattle.silq_types.specs.declared.types.Shape.{Shape}
use Rattle.silq_types.specs.declared.types.Shape.TheVariants.{Bit}
use Rattle.silq_types.specs.Types.{shape_bits, is_scalar}
use Rattle.silq_types.specs.declared.need.Need.{Need}
use Rattle.silq_types.specs.Calls.{is_consumed}
use Rattle.silq_mean.specs.Env.{in_its_block}
use Rattle.silq_mean.specs.declared.receiver.Receiver.{Receiver}
use Rattle.silq_mean.specs.declared.receiver.Receiver.TheVariants.{Variable, Argument, CallResult, EntryOutput}
use Rattle.silq_mean.specs.Effect.{Effect, nothing, ◌>>◌, statement, step, mix, measure as measured, claim, choice, Step, give_static, give_typed, give_part, one_operand, two_operands, copy_last, repeat_last, flip_last, turn_by, turn_all, receive, assign_to, assign_in_turn, update_to, end_name, end_compared, enter_block, leave_block, enter_body, leave_body}
use Rattle.flat_core.specs.declared.step.WireId.{WireId}
use Rattle.flat_core.specs.declared.step.End.TheVariants.{Measured, Zeroed}
use Rattle.flat_core.specs.Form.{DraftForm}
use Rattle.flat_core.specs.Label.{same_wire, label_after, wire_in}
use Rattle.bit_arith.specs.declared.operand.Operand.{Operand}
use Rattle.bit_arith.specs.declared.operand.Operand.TheVariants.{Const, Literal}
use Rattle.bit_arith.specs.Built.{Built, Setting, Given, new_wire, next_wire, made, negated, read, blank, under, under_condition}
use Rattle.bit_arith.specs.Rows.{flip, turn, had, flip_each}
use Rattle.bit_arith.specs.Calls.{Targets, no_target, among, Safe, AllSafe, AreTargets, WasRead}
use Rattle.bit_arith.specs.Values.{all_hold}
use Rattle.bit_arith.specs.Does.{Fresh, Tells, Turns, Below, Different}
use Rattle.bit_arith.proofs.Steps.{or_false}
use Rattle.bit_arith.proofs.Doing.{Guards}
use Rattle.bit_arith.proofs.Listed.{safe_one, safe_more, safe_under, below_more, same_wire_swap}
use Rattle.bit_arith.proofs.Making.{flip_each_does, conjunction_does, negated_safe}
use Rattle.bit_arith.proofs.Tidying.{flip_does}
use Rattle.bit_arith.proofs.Carrying.{add_into_does, sub_into_does}
use Rattle.bit_arith.proofs.Phases.{turn_does}
use Rattle.flat_form.specs.declared.known.TypedBits.{TypedBits}
use Rattle.flat_form.specs.declared.known.Known.{Known}
use Rattle.flat_form.specs.declared.known.Known.TheVariants.{Static, Shown, Lent, Absent}
use Rattle.flat_form.specs.State.{Caller, Flattening, push, last, drop_last, wires_so_far, build, operands_of, typed, typed_as, typed_like, part_shape, part_of, with_part, are_wires, copied, taken, kept, wires_in, only_wire, only_operand}
use Rattle.flat_form.specs.Flat.{began_for, as_variable, without_name, give, on_one, on_two, on_two_typed, began_at, as_operand, by_one, by_two, shape_by, shape_by_one, give_copy, give_repeated, array_of, repeated, on_wire, on_last_wire, turn_both, end_all, measure_all, measure_value, shape_for, taken_for, class_for, receive_value, bind, known_in, part_used, use_part, moved, after_use, use_variable, assigned, update_by, update_variable, zero_variable, enter, back_to, flat_step, count_statement, on_line, as_condition, entered, enter_branch, chosen_by, first_branch, second_branch, flat, under as with_condition}
use Rattle.flat_form.specs.Names.{AllOf, AllEnv, CallerOf, AllKnown, Spares}
use Rattle.flat_form.specs.Good.{IsShown, IsKnown, IsOwned, Owned, Good}
use Rattle.flat_form.specs.Fine.{Distinct, IsOf, IsPart, MayChange, MayTake, MayTurn, MayMeasure, without_part, UpdatesPart, MayUpdate, MayClaim, FitsOne, FitsTwo, MayJoin, IsStatic, IsAny, IsTaken, WasLent, IsLent, MayAssign, MayUse, FineStep, Fine}
use Rattle.flat_form.proofs.Kept.{AllBlock, found_all, bound_all, its_all, bind_all_all, paired_all, known_last, known_name, known_push, known_drop, known_bind, known_its, known_in_turn, known_variable, known_enter_block, known_leave_block, known_enter, known_back, all_known_more}
use Rattle.flat_form.proofs.Both.{all_drop, all_weak}
use Rattle.flat_form.proofs.Later.{Later, later_same, later_then, later_does, later_grows, later_fresh, later_read, later_blank, later_end_all, later_had, later_measure_all}
use Rattle.flat_form.proofs.Giving.{Gives, gives_size, gives_copied, gives_one, gives_two, length-repeated, safe_repeated, array_bits, Takes, takes_taken, GivesWires, wires_copied, wires_taken, wires_kept, typed_known, typed_as_known, typed_like_known, typed_as_safe, typed_like_safe, as_operand_known, size_of, length-part, safe_part, wires_part, length-with, safe_with, wires_with, length-in, below_in, only_below, only_safe}

-- ---- states one after the other

-- a later state with the same line and condition, of which the same holds
pub record Goes (s u : Flattening) : Type 0 where
  pub later : Later s.built.draft u.built.draft
  pub setting : u.setting ≡ s.setting
  pub good : Good u

pub goes_then : (s t u : Flattening) → Goes s t → Goes t u → Goes s u
goes_then s t u a b = record {
  later = later_then s.built.draft t.built.draft u.built.draft a.later b.later;
  setting = b.setting ∙ a.setting;
  good = b.good;
}

-- what is built goes on, and what is then known is there
goes_on : (s u : Flattening) → Good s → Later s.built.draft u.built.draft → u.setting ≡ s.setting → AllKnown (IsKnown (length u.built.draft.wires)) u → Owned u → Goes s u
goes_on s u g q e k o = record {
  later = q;
  setting = e;
  good = record {
    fresh = later_fresh s.built.draft u.built.draft q g.fresh;
    known = k;
    condition = subst (λ (at : Setting). AllSafe (length u.built.draft.wires) no_target (under at [])) (sym e)
        (safe_more (length s.built.draft.wires) (length u.built.draft.wires) no_target no_target (under s.setting []) q.longer (λ w lt t. t) g.condition);
    read = subst (λ (at : Setting). WasRead u.built.draft at.condition) (sym e) (later_read s.built.draft u.built.draft q g.fresh s.setting.condition g.read);
    owned = o;
  };
}

-- nothing is built
goes_still : (s u : Flattening) → Good s → u.built ≡ s.built → u.setting ≡ s.setting → AllKnown (IsKnown (length s.built.draft.wires)) u → Owned u → Goes s u
goes_still s u g b e k o =
    goes_on s u g (subst (λ (x : Built). Later s.built.draft x.draft) (sym b) (later_same s.built.draft)) e
    (subst (λ (x : Built). AllKnown (IsKnown (length x.draft.wires)) u) (sym b) k) o

-- other steps alone
goes_build : (b : Built) (s : Flattening) → Good s → Later s.built.draft b.draft → Goes s (build b s)
goes_build b s g q = goes_on s (build b s) g q refl k record { env = g.owned.env; callers = g.owned.callers }
  where
    more : AllKnown (IsKnown (length b.draft.wires)) s
    more = all_known_more (length s.built.draft.wires) (length b.draft.wires) s q.longer g.known

    k : AllKnown (IsKnown (length b.draft.wires)) (build b s)
    k = record { env = more.env; values = more.values; callers = more.callers }

goes_push : (k : Known) (s : Flattening) → Good s → IsKnown (length s.built.draft.wires) k → Goes s (push k s)
goes_push k s g h = goes_still s (push k s) g refl refl (known_push (IsKnown (length s.built.draft.wires)) k s h g.known) (record { env = g.owned.env; callers = g.owned.callers })

goes_drop : (s : Flattening) → Good s → Goes s (drop_last s)
goes_drop s g = goes_still s (drop_last s) g refl refl (known_drop (IsKnown (length s.built.draft.wires)) s g.known) (record { env = g.owned.env; callers = g.owned.callers })

-- a row's answer becomes the last value
goes_give : (classical : Bool) (t : Shape) (own : Bool) (began : ℕ) (row : Given (List Operand)) (s : Flattening) → Good s → Gives s.built.draft (shape_bits t) row → (own ≡ true → are_wires row.answer ≡ true) → Goes s (give classical t own began row s)
goes_give classical t own began row s g r w =
    let q : Goes s (build row.built s) = goes_build row.built s g r.later in
    goes_then s (build row.built s) (give classical t own began row s) q
    (goes_push (Shown (record { classical = classical; shape = t; operands = row.answer; own = own; began = began })) (build row.built s) q.good
    (record { size = r.size; there = r.there; wires = w }))

pub last_known : (s : Flattening) → Good s → IsKnown (length s.built.draft.wires) (last s)
last_known s g = known_last (IsKnown (length s.built.draft.wires)) s tt g.known

name_known : (s : Flattening) (x : NameId) → Good s → IsKnown (length s.built.draft.wires) (known_in s x)
name_known s x g = known_name (IsKnown (length s.built.draft.wires)) s x tt g.known

no_own : {A : Type 0} → false ≡ true → A
no_own e = absurd cc

-- ---- operators

goes_one : (op : UnaryOp) (k : Known) (s : Flattening) → Good s → IsKnown (length s.built.draft.wires) k → IsOf (λ v. FitsOne op v.shape) k → Goes s (on_one op k s)
goes_one op (Static z) s g h f = absurd f
goes_one op (Lent start size v) s g h f = absurd f
goes_one op Absent s g h f = absurd f
goes_one op (Shown v) s g h f =
    goes_give v.classical (shape_by_one op v.shape) false v.began (by_one op s.setting v.operands s.built) s g (gives_one op s.setting v s.built g.fresh g.condition h f) (λ e. no_own e)

goes_two_typed : (op : BinaryOp) (began : ℕ) (k l : Known) (s : Flattening) → Good s → IsKnown (length s.built.draft.wires) k → IsKnown (length s.built.draft.wires) l → IsOf (λ v. IsOf (λ w. (v.shape ≡ w.shape) × FitsTwo op v.shape) l) k → Goes s (on_two_typed op began k l s)
goes_two_typed op began (Static z) l s g h i f = absurd f
goes_two_typed op began (Lent start size v) l s g h i f = absurd f
goes_two_typed op began Absent l s g h i f = absurd f
goes_two_typed op began (Shown v) (Static z) s g h i f = absurd f
goes_two_typed op began (Shown v) (Lent start size w) s g h i f = absurd f
goes_two_typed op began (Shown v) Absent s g h i f = absurd f
goes_two_typed op began (Shown v) (Shown w) s g h i f =
    goes_give (v.classical && w.classical) (shape_by op v.shape) false began (by_two op v.shape s.setting v.operands w.operands s.built) s g
    (gives_two op v.shape s.setting v.operands w.operands s.built g.fresh g.condition h.there i.there h.size (i.size ∙ sym (ap shape_bits f.0)) f.1) (λ e. no_own e)

goes_two : (op : BinaryOp) (k l : Known) (s : Flattening) → Good s → IsKnown (length s.built.draft.wires) k → IsKnown (length s.built.draft.wires) l → MayJoin op k l → Goes s (on_two op k l s)
goes_two op k l s g h i f =
    goes_two_typed op (began_at k l) (as_operand l k) (as_operand k l) s g (as_operand_known (length s.built.draft.wires) l k h) (as_operand_known (length s.built.draft.wires) k l i) f

goes_copy : (k : Known) (s : Flattening) → Good s → IsKnown (length s.built.draft.wires) k → IsAny k → Goes s (give_copy k s)
goes_copy (Static z) s g h f = absurd f
goes_copy (Lent start size v) s g h f = absurd f
goes_copy Absent s g h f = absurd f
goes_copy (Shown v) s g h f =
    goes_give false v.shape false v.began (copied s.setting v.operands s.built) s g
    (gives_size s.built.draft (length v.operands) (shape_bits v.shape) (copied s.setting v.operands s.built) h.size (gives_copied s.setting v.operands s.built g.fresh g.condition h.there)) (λ e. no_own e)

goes_repeated : (k l : Known) (s : Flattening) → Good s → IsKnown (length s.built.draft.wires) l → IsStatic k × IsOf (λ v. is_scalar v.shape ≡ true) l → Goes s (give_repeated k l s)
goes_repeated (Shown v) l s g h f = absurd f.0
goes_repeated (Lent start size v) l s g h f = absurd f.0
goes_repeated Absent l s g h f = absurd f.0
goes_repeated (Static z) (Static y) s g h f = absurd f.1
goes_repeated (Static z) (Lent start size v) s g h f = absurd f.1
goes_repeated (Static z) Absent s g h f = absurd f.1
goes_repeated (Static z) (Shown v) s g h f =
    let ps : List Operand = repeated (nat_abs z) v.operands in
    let e : length ps ≡ shape_bits (array_of v.shape (nat_abs z)) =
    length-repeated (nat_abs z) v.operands ∙ (ap (λ m. m * nat_abs z) h.size ∙ array_bits v.shape (nat_abs z) f.1) in
    goes_give false (array_of v.shape (nat_abs z)) false v.began (copied s.setting ps s.built) s g
    (gives_size s.built.draft (length ps) (shape_bits (array_of v.shape (nat_abs z))) (copied s.setting ps s.built) e
    (gives_copied s.setting ps s.built g.fresh g.condition (safe_repeated (length s.built.draft.wires) no_target (nat_abs z) v.operands h.there))) (λ e. no_own e)

-- ---- gates

-- steps on one wire that the condition in force is not on
abbrev IsGate : (Setting → WireId → Built → Built) → Type 0
IsGate gate = (at : Setting) (w : WireId) (b : Built) → Fresh b.draft → w.number < length b.draft.wires → Guards at (length b.draft.wires) no_target → AllSafe (length b.draft.wires) (same_wire w) (under at []) → Later b.draft (gate at w b).draft

-- what may be taken and changed of the last value
takes_last : (s : Flattening) (v : TypedBits) → Good s → IsShown (length s.built.draft.wires) v → MayTake v s → Takes s.setting s.built.draft (length v.operands) (taken s.setting v s.built)
takes_last s v g h m = takes_taken s.setting v s.built g.fresh g.condition h (λ k. (m k).condition)

pub only_guard : (n : ℕ) (ps : List Operand) (cs : List Operand) → are_wires ps ≡ true → length ps ≡ 1 → AllSafe n (among (wires_in ps)) cs → AllSafe n (same_wire (only_wire ps)) cs
only_guard n [] cs h e s = cc
only_guard n (Const b ∷ ps) cs h e s = cc
only_guard n (Literal l ∷ []) cs h e s = safe_more n n (among (l.wire ∷ [])) (same_wire l.wire) cs (omega arith) (λ w lt t. same_wire_swap w l.wire (or_false (same_wire w l.wire) false t).0) s
only_guard n (Literal l ∷ p ∷ ps) cs h e s = absurd (omega (arith, e))

goes_wire : (gate : Setting → WireId → Built → Built) → IsGate gate → (k : Known) (s : Flattening) → Good s → IsKnown (length s.built.draft.wires) k → IsOf (λ v. (v.shape ≡ Bit) × MayTake v s) k → Goes s (on_wire gate k (drop_last s))
goes_wire gate ok (Static z) s g h f = absurd f
goes_wire gate ok (Lent start size v) s g h f = absurd f
goes_wire gate ok Absent s g h f = absurd f
goes_wire gate ok (Shown v) s g h f =
    let n : ℕ = length s.built.draft.wires in
    let row : Given (List Operand) = taken s.setting v s.built in
    let r : Takes s.setting s.built.draft (length v.operands) row = takes_last s v g h f.1 in
    let m : ℕ = length row.built.draft.wires in
    let up : n ≤ m = r.gives.later.longer in
    let one : length row.answer ≡ 1 = r.gives.size ∙ (h.size ∙ ap shape_bits f.0) in
    let q : Later row.built.draft (gate s.setting (only_wire row.answer) row.built).draft =
    ok s.setting (only_wire row.answer) row.built (later_fresh s.built.draft row.built.draft r.gives.later g.fresh)
    (only_below m no_target row.answer r.wires one r.gives.there)
    (safe_more n m no_target no_target (under s.setting []) up (λ w lt e. e) g.condition)
    (only_guard m row.answer (under s.setting []) r.wires one r.guards) in
    let d : Goes s (drop_last s) = goes_drop s g in
    goes_then s (drop_last s) (on_wire gate (Shown v) (drop_last s)) d
    (goes_give false v.shape true v.began (record { answer = row.answer; built = gate s.setting (only_wire row.answer) row.built }) (drop_last s) d.good
    (record {
      later = later_then s.built.draft row.built.draft (gate s.setting (only_wire row.answer) row.built).draft r.gives.later q;
      size = r.gives.size ∙ h.size;
      there = safe_more m (length (gate s.setting (only_wire row.answer) row.built).draft.wires) no_target no_target row.answer q.longer (λ w lt e. e) r.gives.there;
    })
    (λ e. r.wires))

goes_gate : (gate : Setting → WireId → Built → Built) → IsGate gate → (s : Flattening) → Good s → MayTurn s → Goes s (on_last_wire gate s)
goes_gate gate ok s g f = goes_wire gate ok (last s) s g (last_known s g) f

later_flip : (at : Setting) (w : WireId) (b : Built) → Fresh b.draft → w.number < length b.draft.wires → AllSafe (length b.draft.wires) (same_wire w) (under at []) → Later b.draft (flip at w [] b).draft
later_flip at w b f lt s = later_does (flip_does at w [] b f lt s)

later_turn : (at : Setting) (k : ℕ) (ps : List Operand) (b : Built) → Fresh b.draft → Guards at (length b.draft.wires) no_target → AllSafe (length b.draft.wires) no_target ps → Later b.draft (turn at k ps b).draft
later_turn at k ps b f g s =
    let r : Turns at k ps b.draft (turn at k ps b).draft = turn_does at k ps b f (safe_under (length b.draft.wires) no_target at ps g s) in later_grows r.grows

later_turn_both : (k l : ℕ) → IsGate (turn_both k l)
later_turn_both k l at w b f lt g s =
    let b1 : Built = turn at l (negated (made w) ∷ []) b in
    let q : Later b.draft b1.draft = later_turn at l (negated (made w) ∷ []) b f g ((lt, refl), tt) in
    let up : length b.draft.wires ≤ length b1.draft.wires = q.longer in
    let lt' : w.number < length b1.draft.wires = omega (arith, lt, up) in
    later_then b.draft b1.draft (turn_both k l at w b).draft q
    (later_turn at k (made w ∷ []) b1 (later_fresh b.draft b1.draft q f)
    (safe_more (length b.draft.wires) (length b1.draft.wires) no_target no_target (under at []) up (λ v lt2 e. e) g) ((lt', refl), tt))

goes_turn_all : (k : ℕ) (s : Flattening) → Good s → Goes s (build (turn s.setting k [] s.built) s)
goes_turn_all k s g = goes_build (turn s.setting k [] s.built) s g (later_turn s.setting k [] s.built g.fresh g.condition tt)

-- ---- measures

goes_measure_value : (k : Known) (s : Flattening) → Good s → IsKnown (length s.built.draft.wires) k → IsOf (λ v. MayTake v s) k → Goes s (measure_value k (drop_last s))
goes_measure_value (Static z) s g h f = absurd f
goes_measure_value (Lent start size v) s g h f = absurd f
goes_measure_value Absent s g h f = absurd f
goes_measure_value (Shown v) s g h f =
    let row : Given (List Operand) = taken s.setting v s.built in
    let r : Takes s.setting s.built.draft (length v.operands) row = takes_last s v g h f in
    let ws : List WireId = wires_in row.answer in
    let b1 : Built = measure_all s.setting ws row.built in
    let b2 : Built = end_all Measured ws b1 in
    let q1 : Later row.built.draft b1.draft = later_measure_all s.setting ws row.built in
    let q2 : Later b1.draft b2.draft = later_end_all Measured ws b1 (below_more (length row.built.draft.wires) (length b1.draft.wires) ws q1.longer (below_in (length row.built.draft.wires) no_target row.answer r.gives.there)) in
    let q : Later row.built.draft b2.draft = later_then row.built.draft b1.draft b2.draft q1 q2 in
    let d : Goes s (drop_last s) = goes_drop s g in
    goes_then s (drop_last s) (measure_value (Shown v) (drop_last s)) d
    (goes_give true v.shape false v.began (record { answer = row.answer; built = b2 }) (drop_last s) d.good
    (record {
      later = later_then s.built.draft row.built.draft b2.draft r.gives.later q;
      size = r.gives.size ∙ h.size;
      there = safe_more (length row.built.draft.wires) (length b2.draft.wires) no_target no_target row.answer q.longer (λ w lt e. e) r.gives.there;
    })
    (λ e. no_own e))

pub goes_measure : (s : Flattening) → Good s → MayMeasure s → Goes s (measure_value (last s) (drop_last s))
goes_measure s g f = goes_measure_value (last s) s g (last_known s g) f.1

-- ---- what takes values over

shape_for_known : (n m : ℕ) (r : Receiver) (k : Known) → IsKnown n k → IsKnown n (shape_for r m k)
shape_for_known n m Variable k h = h
shape_for_known n m (Argument need t) k h = typed_as_known n m t.shape k h
shape_for_known n m (CallResult t) k h = typed_as_known n m t.shape k h
shape_for_known n m (EntryOutput t) k h = typed_as_known n m t.shape k h

either_wires : (d : DraftForm) (n : ℕ) (c : Bool) (r q : Given (List Operand)) → GivesWires d n r → GivesWires d n q → GivesWires d n (cond c r q)
either_wires d n true r q a b = a
either_wires d n false r q a b = b

wires_for : (r : Receiver) (at : Setting) (v : TypedBits) (b : Built) → Fresh b.draft → Guards at (length b.draft.wires) no_target → IsShown (length b.draft.wires) v → GivesWires b.draft (length v.operands) (taken_for r at v b)
wires_for Variable at v b f g k = either_wires b.draft (length v.operands) v.classical (kept at v b) (taken at v b) (wires_kept at v b f g k) (wires_taken at v b f g k)
wires_for (Argument need t) at v b f g k =
    either_wires b.draft (length v.operands) (not (is_consumed need) || t.classical) (kept at v b) (taken at v b) (wires_kept at v b f g k) (wires_taken at v b f g k)
wires_for (CallResult t) at v b f g k = wires_taken at v b f g k
wires_for (EntryOutput t) at v b f g k =
    either_wires b.draft (length v.operands) (t.classical || v.classical) (copied at v.operands b) (taken at v b) (wires_copied at v.operands b f g k.there) (wires_taken at v b f g k)

goes_receive : (r : Receiver) (k : Known) (s : Flattening) → Good s → IsKnown (length s.built.draft.wires) k → IsAny k → Goes s (receive_value r k s)
goes_receive r (Static z) s g h f = absurd f
goes_receive r (Lent start size v) s g h f = absurd f
goes_receive r Absent s g h f = absurd f
goes_receive r (Shown v) s g h f =
    let w : GivesWires s.built.draft (length v.operands) (taken_for r s.setting v s.built) = wires_for r s.setting v s.built g.fresh g.condition h in
    goes_give (class_for r v) v.shape true (began_for r v s.callers) (taken_for r s.setting v s.built) s g
    (gives_size s.built.draft (length v.operands) (shape_bits v.shape) (taken_for r s.setting v s.built) h.size w.gives) (λ e. w.wires)

-- ---- variables

goes_bind : (x : NameId) (k : Known) (s : Flattening) → Good s → IsKnown (length s.built.draft.wires) k → IsOwned (as_variable k) → Goes s (bind x k s)
goes_bind x k s g h w =
    goes_still s (bind x k s) g refl refl (known_bind (IsKnown (length s.built.draft.wires)) x k s (known_variable (length s.built.draft.wires) k h) g.known)
    (record { env = bound_all IsOwned s.env x (as_variable k) w g.owned.env; callers = g.owned.callers })

name_owned : (s : Flattening) (x : NameId) → Owned s → IsOwned (known_in s x)
name_owned s x o = found_all IsOwned Absent s.env x tt o.env

part_known : (n m : ℕ) (need : Need) (is : List ℤ) (v : TypedBits) → IsShown n v → v.own ≡ true → IsPart v is → IsKnown n (part_used m need is v)
part_known n m need is v h w p = record {
  size = length-part v is p;
  there = safe_part n no_target v is h.there;
  wires = λ e. wires_part v is (h.wires w);
}

use_known : (n m : ℕ) (need : Need) (is : List ℤ) (k : Known) → IsKnown n k → IsOwned k → MayUse is k → IsKnown n (use_part m need is k)
use_known n m need is (Static z) h w p = absurd p
use_known n m need is (Shown v) h w p = part_known n m need is v h w.0 p
use_known n m need is (Lent start size v) h w p = part_known n m need is v h w.0 p.0
use_known n m need is Absent h w p = absurd p

moved_known : (n : ℕ) (is : List ℤ) (v : TypedBits) → IsShown n v → IsKnown n (moved is v)
moved_known n [] v h = tt
moved_known n (i ∷ is) v h = h

moved_owned : (is : List ℤ) (v : TypedBits) → IsOwned (Shown v) → IsOwned (moved is v)
moved_owned [] v h = tt
moved_owned (i ∷ is) v h = h

-- what a variable shows after its use
pick_all : (Q : Known → Type 0) (c : Bool) (k l : Known) → Q k → Q l → Q (cond c k l)
pick_all Q true k l a b = a
pick_all Q false k l a b = b

after_known : (n : ℕ) (need : Need) (is : List ℤ) (k : Known) → IsKnown n k → IsKnown n (after_use need is k)
after_known n need is (Static z) h = h
after_known n need is (Shown v) h = pick_all (IsKnown n) (is_consumed need && not v.classical) (moved is v) (Shown v) (moved_known n is v h) h
after_known n need is (Lent start size v) h = h
after_known n need is Absent h = h

after_owned : (need : Need) (is : List ℤ) (k : Known) → IsOwned k → IsOwned (after_use need is k)
after_owned need is (Static z) h = h
after_owned need is (Shown v) h = pick_all IsOwned (is_consumed need && not v.classical) (moved is v) (Shown v) (moved_owned is v h) h
after_owned need is (Lent start size v) h = h
after_owned need is Absent h = h

goes_use : (need : Need) (x : NameId) (is : List ℤ) (s : Flattening) → Good s → MayUse is (known_in s x) → Goes s (use_variable need x is s)
goes_use need x is s g f =
    let n : ℕ = length s.built.draft.wires in
    let old : Known = known_in s x in
    let t : Flattening = record s { env = in_its_block s.env x (after_use need is old) } in
    let q : Goes s t =
    goes_still s t g refl refl (known_its (IsKnown n) x (after_use need is old) s (after_known n need is old (name_known s x g)) g.known)
    (record { env = its_all IsOwned s.env x (after_use need is old) (after_owned need is old (name_owned s x g.owned)) g.owned.env; callers = g.owned.callers }) in
    goes_then s t (use_variable need x is s) q (goes_push (use_part (wires_so_far s) need is old) t q.good (use_known n (wires_so_far s) need is old (name_known s x g) (name_owned s x g.owned) f))

-- ---- assignments

taken_owned : (k : Known) → IsTaken k → IsOwned (as_variable k)
taken_owned (Static z) h = tt
taken_owned (Shown v) h = (h, refl)
taken_owned (Lent start size v) h = absurd h
taken_owned Absent h = tt

-- a part that was lent comes back
lent_back : (n : ℕ) (i : ℤ) (is : List ℤ) (start size : ℕ) (v : TypedBits) (k : Known) → IsShown n v → IsKnown n k → WasLent (i ∷ is) start size v k → IsShown n (record v { operands = with_part v.shape (i ∷ is) v.operands (operands_of k) })
lent_back n i is start size v (Static z) h j w = absurd w.value
lent_back n i is start size v (Lent a b u) h j w = absurd w.value
lent_back n i is start size v Absent h j w = absurd w.value
lent_back n i is start size v (Shown u) h j w = record {
  size = length-with v (i ∷ is) u.operands w.there (j.size ∙ ap shape_bits w.value.1) ∙ h.size;
  there = safe_with n no_target v (i ∷ is) u.operands h.there j.there;
  wires = λ e. wires_with v (i ∷ is) u.operands (h.wires e) (j.wires w.value.0);
}

assigned_known : (n : ℕ) (i : ℤ) (is : List ℤ) (old new : Known) → IsKnown n old → IsKnown n new → IsLent (i ∷ is) old new → IsKnown n (assigned (i ∷ is) old new)
assigned_known n i is (Static z) new h k f = absurd f
assigned_known n i is (Shown v) new h k f = absurd f
assigned_known n i is (Lent start size v) new h k f = lent_back n i is start size v new h k f
assigned_known n i is Absent new h k f = absurd f

assigned_owned : (i : ℤ) (is : List ℤ) (old new : Known) → IsLent (i ∷ is) old new → IsOwned (as_variable (assigned (i ∷ is) old new))
assigned_owned i is (Static z) new f = absurd f
assigned_owned i is (Shown v) new f = absurd f
assigned_owned i is (Lent start size v) new f = (f.own, refl)
assigned_owned i is Absent new f = absurd f

goes_assign : (x : NameId) (is : List ℤ) (s : Flattening) → Good s → MayAssign x is s → Goes s (bind x (assigned is (known_in s x) (last s)) (drop_last s))
goes_assign x [] s g f =
    let d : Goes s (drop_last s) = goes_drop s g in
    goes_then s (drop_last s) (bind x (last s) (drop_last s)) d (goes_bind x (last s) (drop_last s) d.good (last_known s g) (taken_owned (last s) f))
goes_assign x (i ∷ is) s g f =
    let d : Goes s (drop_last s) = goes_drop s g in
    let new : Known = assigned (i ∷ is) (known_in s x) (last s) in
    goes_then s (drop_last s) (bind x new (drop_last s)) d
    (goes_bind x new (drop_last s) d.good (assigned_known (length s.built.draft.wires) i is (known_in s x) (last s) (name_known s x g) (last_known s g) f) (assigned_owned i is (known_in s x) (last s) f))

goes_in_turn : (xs : List NameId) (s : Flattening) → Good s → AllOf IsTaken (reverse (take (length xs) s.values)) → Goes s (flat_step (assign_in_turn xs) s)
goes_in_turn xs s g f =
    let ks : List Known = reverse (take (length xs) s.values) in
    goes_still s (flat_step (assign_in_turn xs) s) g refl refl (known_in_turn (IsKnown (length s.built.draft.wires)) (known_variable (length s.built.draft.wires)) xs s g.known)
    (record { env = bind_all_all IsOwned s.env xs ks (all_weak IsTaken (λ k. IsOwned (as_variable k)) taken_owned ks f) g.owned.env; callers = g.owned.callers })

goes_end : (x : NameId) (s : Flattening) → Good s → Goes s (bind x Absent s)
goes_end x s g = goes_bind x Absent s g tt tt

goes_end_compared : (x : NameId) (s : Flattening) → Good s → Goes s (drop_last (bind x Absent s))
goes_end_compared x s g =
    let q : Goes s (bind x Absent s) = goes_end x s g in
    goes_then s (bind x Absent s) (drop_last (bind x Absent s)) q (goes_drop (bind x Absent s) q.good)

-- ---- blocks and calls

goes_enter_block : (s : Flattening) → Good s → Goes s (flat_step enter_block s)
goes_enter_block s g =
    goes_still s (flat_step enter_block s) g refl refl (known_enter_block (IsKnown (length s.built.draft.wires)) s g.known) (record { env = (tt, g.owned.env); callers = g.owned.callers })

goes_leave_block : (s : Flattening) → Good s → Goes s (flat_step leave_block s)
goes_leave_block s g =
    goes_still s (flat_step leave_block s) g refl refl (known_leave_block (IsKnown (length s.built.draft.wires)) s g.known)
    (record { env = all_drop (AllBlock IsOwned) 1 s.env g.owned.env; callers = g.owned.callers })

goes_enter : (xs : List NameId) (s : Flattening) → Good s → AllOf IsTaken (reverse (take (length xs) s.values)) → Goes s (enter xs s)
goes_enter xs s g f =
    let ks : List Known = reverse (take (length xs) s.values) in
    goes_still s (enter xs s) g refl refl (known_enter (IsKnown (length s.built.draft.wires)) (known_variable (length s.built.draft.wires)) xs s g.known)
    (record { env = (paired_all IsOwned xs ks (all_weak IsTaken (λ k. IsOwned (as_variable k)) taken_owned ks f), tt); callers = (g.owned.env, g.owned.callers) })

goes_back : (s : Flattening) (cs : List Caller) → Good s → AllOf (CallerOf (IsKnown (length s.built.draft.wires))) cs → AllOf (λ (c : Caller). AllEnv IsOwned c.env) cs → Goes s (back_to s cs)
goes_back s [] g k w = goes_still s s g refl refl g.known g.owned
goes_back s (c ∷ cs) g k w =
    goes_still s (back_to s (c ∷ cs)) g refl refl (known_back (IsKnown (length s.built.draft.wires)) s (c ∷ cs) g.known k) (record { env = w.0; callers = w.1 })

-- ---- updates and claims

pub below_targets : (d : DraftForm) (ws : List WireId) → AreTargets d ws → Below (length d.wires) ws
below_targets d [] h = tt
below_targets d (w ∷ ws) h = (h.0.0, below_targets d ws h.1)

pub different_wires : (ws : List WireId) → Distinct ws → Different ws
different_wires [] h = tt
different_wires (w ∷ ws) h = (h.0, different_wires ws h.1)

pub last_spared : (T : Targets) (rest : Flattening) → AllKnown (Spares T) rest → Spares T (last rest)
last_spared T rest h = known_last (Spares T) rest (λ w t. refl) h

later_update : (op : UpdateOp) (at : Setting) (ws : List WireId) (ps : List Operand) (b : Built) → Fresh b.draft → length ws ≡ length ps → Below (length b.draft.wires) ws → Different ws → Guards at (length b.draft.wires) (among ws) → AllSafe (length b.draft.wires) (among ws) ps → Later b.draft (update_by op at ws ps b).draft
later_update updates.Add at ws ps b f e be di g s = later_does (add_into_does at ws ps b f e be di g s)
later_update updates.Sub at ws ps b f e be di g s = later_does (sub_into_does at ws ps b f e be di g s)
later_update updates.Xor at ws ps b f e be di g s = later_does (flip_each_does at ws ps b f e be di g s)

goes_update_known : (k : Known) (x : NameId) (is : List ℤ) (op : UpdateOp) (s : Flattening) → Good s → IsKnown (length s.built.draft.wires) k → IsOf (UpdatesPart x is op s) k → Goes s (update_variable k is op (last s) s)
goes_update_known (Static z) x is op s g h f = absurd f
goes_update_known (Lent start size v) x is op s g h f = absurd f
goes_update_known Absent x is op s g h f = absurd f
goes_update_known (Shown v) x is op s g h f =
    let n : ℕ = length s.built.draft.wires in
    let t : Shape = part_shape v.shape is in
    let part : List Operand = part_of v.shape is v.operands in
    let ws : List WireId = wires_in part in
    let operand : Known = typed_as 0 t (last s) in
    let e : length ws ≡ length (operands_of operand) =
    length-in part (wires_part v is f.wires) ∙ (length-part v is f.there ∙ sym (size_of n t operand (typed_as_known n 0 t (last s) (last_known s g)) f.operand)) in
    goes_build (update_by op s.setting ws (operands_of operand) s.built) s g
    (later_update op s.setting ws (operands_of operand) s.built g.fresh e (below_targets s.built.draft ws f.change.targets) (different_wires ws f.change.distinct) f.change.condition
    (typed_as_safe n 0 (among ws) t (last s) (last_known s g) (last_spared (among ws) (without_part x is v s) f.change.spared)))

goes_update : (x : NameId) (is : List ℤ) (op : UpdateOp) (s : Flattening) → Good s → MayUpdate x is op s → Goes s (drop_last (update_variable (known_in s x) is op (last s) s))
goes_update x is op s g f =
    let q : Goes s (update_variable (known_in s x) is op (last s) s) = goes_update_known (known_in s x) x is op s g (name_known s x g) f in
    goes_then s (update_variable (known_in s x) is op (last s) s) (drop_last (update_variable (known_in s x) is op (last s) s)) q
    (goes_drop (update_variable (known_in s x) is op (last s) s) q.good)

goes_claim_known : (k : Known) (x : NameId) (s : Flattening) → Good s → IsKnown (length s.built.draft.wires) k
    → IsOf (λ v. IsOf (λ w. w.shape ≡ v.shape) (typed_like 0 (Shown v) (last s)) × (are_wires v.operands ≡ true) × MayChange (wires_in v.operands) s (without_name x s)) k → Goes s (zero_variable k (last s) s)
goes_claim_known (Static z) x s g h f = absurd f
goes_claim_known (Lent start size v) x s g h f = absurd f
goes_claim_known Absent x s g h f = absurd f
goes_claim_known (Shown v) x s g h f =
    let n : ℕ = length s.built.draft.wires in
    let ws : List WireId = wires_in v.operands in
    let operand : Known = typed_like 0 (Shown v) (last s) in
    let ps : List Operand = operands_of operand in
    let e : length ws ≡ length ps =
    length-in v.operands f.1 ∙ (h.size ∙ sym (size_of n v.shape operand (typed_like_known n 0 (Shown v) (last s) (last_known s g)) f.0)) in
    let be : Below n ws = below_targets s.built.draft ws f.2.targets in
    let b1 : Built = flip_each s.setting ws ps s.built in
    let q : Later s.built.draft b1.draft =
    later_does (flip_each_does s.setting ws ps s.built g.fresh e be (different_wires ws f.2.distinct) f.2.condition
    (typed_like_safe n 0 (among ws) (Shown v) (last s) (last_known s g) (last_spared (among ws) (without_name x s) f.2.spared))) in
    goes_build (end_all Zeroed ws b1) s g
    (later_then s.built.draft b1.draft (end_all Zeroed ws b1).draft q (later_end_all Zeroed ws b1 (below_more n (length b1.draft.wires) ws q.longer be)))

goes_without : (x : NameId) (s : Flattening) → Good s → Goes s (without_name x s)
goes_without x s g =
    goes_still s (without_name x s) g refl refl (known_its (IsKnown (length s.built.draft.wires)) x Absent s tt g.known)
    (record { env = its_all IsOwned s.env x Absent tt g.owned.env; callers = g.owned.callers })

pub goes_claim : (x : NameId) (s : Flattening) → Good s → MayClaim x s → Goes s (without_name x (zero_variable (known_in s x) (last s) s))
goes_claim x s g f =
    let t : Flattening = zero_variable (known_in s x) (last s) s in
    let q : Goes s t = goes_claim_known (known_in s x) x s g (name_known s x g) f in goes_then s t (without_name x t) q (goes_without x t q.good)

-- ---- steps

pub goes_step : (st : Step) (s : Flattening) → Good s → FineStep st s → Goes s (flat_step st s)
goes_step (give_static z) s g f = goes_push (Static z) s g tt
goes_step (give_typed k z) s g f = goes_push (typed (wires_so_far s) k z) s g (typed_known (length s.built.draft.wires) (wires_so_far s) k z)
goes_step (give_part need x is) s g f = goes_use need x is s g f.0
goes_step (one_operand op) s g f =
    let d : Goes s (drop_last s) = goes_drop s g in
    goes_then s (drop_last s) (on_one op (last s) (drop_last s)) d (goes_one op (last s) (drop_last s) d.good (last_known s g) f)
goes_step (two_operands op) s g f =
    let d : Goes s (drop_last s) = goes_drop s g in
    let e : Goes (drop_last s) (drop_last (drop_last s)) = goes_drop (drop_last s) d.good in
    goes_then s (drop_last s) (flat_step (two_operands op) s) d
    (goes_then (drop_last s) (drop_last (drop_last s)) (flat_step (two_operands op) s) e
    (goes_two op (last (drop_last s)) (last s) (drop_last (drop_last s)) e.good (last_known (drop_last s) d.good) (last_known s g) f))
goes_step copy_last s g f =
    let d : Goes s (drop_last s) = goes_drop s g in
    goes_then s (drop_last s) (give_copy (last s) (drop_last s)) d (goes_copy (last s) (drop_last s) d.good (last_known s g) f)
goes_step repeat_last s g f =
    let d : Goes s (drop_last s) = goes_drop s g in
    let e : Goes (drop_last s) (drop_last (drop_last s)) = goes_drop (drop_last s) d.good in
    goes_then s (drop_last s) (flat_step repeat_last s) d
    (goes_then (drop_last s) (drop_last (drop_last s)) (flat_step repeat_last s) e
    (goes_repeated (last (drop_last s)) (last s) (drop_last (drop_last s)) e.good (last_known s g) f))
goes_step flip_last s g f = goes_gate (λ at w b. flip at w [] b) (λ at w b x lt c u. later_flip at w b x lt u) s g f
goes_step (turn_by k l) s g f = goes_gate (turn_both k l) (later_turn_both k l) s g f.0
goes_step (turn_all k) s g f = goes_turn_all k s g
goes_step (receive r) s g f =
    let d : Goes s (drop_last s) = goes_drop s g in
    goes_then s (drop_last s) (receive_value r (shape_for r (wires_so_far s) (last s)) (drop_last s)) d
    (goes_receive r (shape_for r (wires_so_far s) (last s)) (drop_last s) d.good (shape_for_known (length s.built.draft.wires) (wires_so_far s) r (last s) (last_known s g)) f)
goes_step (assign_to x is) s g f = goes_assign x is s g f.0
goes_step (assign_in_turn xs) s g f = goes_in_turn xs s g f
goes_step (update_to x is op) s g f = goes_update x is op s g f.0
goes_step (end_name x) s g f = goes_end x s g
goes_step (end_compared x) s g f = goes_end_compared x s g
goes_step enter_block s g f = goes_enter_block s g
goes_step leave_block s g f = goes_leave_block s g
goes_step (enter_body xs) s g f = goes_enter xs s g f
goes_step leave_body s g f = goes_back s s.callers g g.known.callers g.owned.callers

-- ---- conditions

-- a condition that is read, on a wire that is there
pub record Enters (d : DraftForm) (row : Given (Option Operand)) : Type 0 where
  pub later : Later d row.built.draft
  pub safe : AllSafe (length row.built.draft.wires) no_target (under_condition row.answer [])
  pub read : WasRead row.built.draft row.answer

condition_safe : (n : ℕ) (T : Targets) (p : Operand) → Safe n T p → AllSafe n T (under_condition (as_condition p) [])
condition_safe n T (Const true) s = tt
condition_safe n T (Const false) s = (tt, tt)
condition_safe n T (Literal l) s = (s, tt)

constant_read : (d : DraftForm) (b : Bool) → WasRead d (as_condition (Const b))
constant_read d true = tt
constant_read d false = tt

condition_read : (d : DraftForm) (p : Operand) → WasRead d (as_condition (read d p))
condition_read d (Const b) = constant_read d b
condition_read d (Literal l) = pick (blank d l.wire) refl
  where
    pick : (b : Bool) → blank d l.wire ≡ b → WasRead d (as_condition (cond b (Const (not l.positive)) (Literal l)))
    pick true e = constant_read d (not l.positive)
    pick false e = e

read_safe : (d : DraftForm) (n : ℕ) (T : Targets) (p : Operand) → Safe n T p → Safe n T (read d p)
read_safe d n T (Const b) s = tt
read_safe d n T (Literal l) s = pick (blank d l.wire)
  where
    pick : (b : Bool) → Safe n T (cond b (Const (not l.positive)) (Literal l))
    pick true = tt
    pick false = s

pub enters : (line : ℕ) (outer : Option Operand) (c : Operand) (b : Built) → Fresh b.draft → AllSafe (length b.draft.wires) no_target (under_condition outer []) → Safe (length b.draft.wires) no_target c → Enters b.draft (entered (record { line = line; condition = outer }) c b)
enters line None c b f g s = record {
  later = later_same b.draft;
  safe = condition_safe (length b.draft.wires) no_target (read b.draft c) (read_safe b.draft (length b.draft.wires) no_target c s);
  read = condition_read b.draft c;
}
enters line (Some outer) c b f g s =
    let at : Setting = record { line = line; condition = Some outer } in
    let w : Operand = made (next_wire b) in
    let b1 : Built = flip at (next_wire b) (c ∷ []) (new_wire b) in
    let r : Tells at b.draft [] (record { answer = w; built = b1 }) (λ v. all_hold v (c ∷ [])) = conjunction_does at (c ∷ []) b f g (s, tt) in
    record {
      later = later_does r.does;
      safe = condition_safe (length b1.draft.wires) no_target (read b1.draft w) (read_safe b1.draft (length b1.draft.wires) no_target w (r.safe no_target (λ v le. refl) tt));
      read = condition_read b1.draft w;
    }

-- a later state on the same line under a condition of its own
pub record Branches (s u : Flattening) : Type 0 where
  pub later : Later s.built.draft u.built.draft
  pub line : u.setting.line ≡ s.setting.line
  pub good : Good u

pub goes_branch : (c : Operand) (s : Flattening) → Good s → Safe (length s.built.draft.wires) no_target c → Branches s (enter_branch c s)
goes_branch c s g h =
    let e : Given (Option Operand) = entered s.setting c s.built in
    let r : Enters s.built.draft e = enters s.setting.line s.setting.condition c s.built g.fresh g.condition h in
    let q : Goes s (build e.built s) = goes_build e.built s g r.later in
    record {
      later = r.later;
      line = refl;
      good = record {
        fresh = q.good.fresh;
        known = record { env = q.good.known.env; values = q.good.known.values; callers = q.good.known.callers };
        condition = r.safe;
        read = r.read;
        owned = record { env = g.owned.env; callers = g.owned.callers };
      };
    }

-- ---- effects

pub chosen_safe : (s : Flattening) → Good s → Safe (length s.built.draft.wires) no_target (chosen_by s)
chosen_safe s g = go (last s) (last_known s g)
  where
    go : (k : Known) → IsKnown (length s.built.draft.wires) k → Safe (length s.built.draft.wires) no_target (only_operand (operands_of k))
    go (Static z) h = tt
    go (Shown v) h = only_safe (length s.built.draft.wires) no_target v.operands h.there
    go (Lent start size v) h = tt
    go Absent h = tt

-- where the first branch begins
pub goes_first : (s : Flattening) → Good s → Branches (drop_last s) (first_branch s)
goes_first s g =
    let d : Goes s (drop_last s) = goes_drop s g in
    goes_branch (chosen_by s) (drop_last s) d.good (chosen_safe s g)

-- the names and values at the choice, with the steps of the first branch
abbrev pub at_second : Flattening → Flattening → Flattening
at_second one s = record (drop_last s) { built = one.built; statements = one.statements }

-- where the second branch begins
pub goes_second : (s one : Flattening) → Good s → Later s.built.draft one.built.draft → Branches (at_second one s) (second_branch one s)
goes_second s one g q =
    let n : ℕ = length s.built.draft.wires in
    let m : ℕ = length one.built.draft.wires in
    let d : Goes s (drop_last s) = goes_drop s g in
    let k : AllKnown (IsKnown m) (drop_last s) = all_known_more n m (drop_last s) q.longer d.good.known in
    let e : Goes s (at_second one s) = goes_on s (at_second one s) g q refl (record { env = k.env; values = k.values; callers = k.callers }) (record { env = g.owned.env; callers = g.owned.callers }) in
    goes_branch (negated (chosen_by s)) (at_second one s) e.good
    (negated_safe m no_target (chosen_by s) (safe_one n m no_target no_target (chosen_by s) q.longer (λ w lt x. x) (chosen_safe s g)))

-- back on the line and under the condition of an earlier state
goes_back_under : (s t u : Flattening) → Good s → Later s.built.draft t.built.draft → t.setting.line ≡ s.setting.line → Goes t u → Goes s (with_condition s.setting.condition u)
goes_back_under s t u g q l r =
    let all : Later s.built.draft u.built.draft = later_then s.built.draft t.built.draft u.built.draft q r.later in
    let k : AllKnown (IsKnown (length u.built.draft.wires)) u = r.good.known in
    goes_on s (with_condition s.setting.condition u) g all
    (ap (λ (n : ℕ). record { line = n; condition = s.setting.condition }) (ap (λ (at : Setting). at.line) r.setting ∙ l))
    (record { env = k.env; values = k.values; callers = k.callers }) (record { env = r.good.owned.env; callers = r.good.owned.callers })

-- a statement on its line
pub good_statement : (line : ℕ) (s : Flattening) → Good s → Good (on_line line (count_statement s))
good_statement line s g = record {
  fresh = g.fresh;
  known = record { env = g.known.env; values = g.known.values; callers = g.known.callers };
  condition = g.condition;
  read = g.read;
  owned = record { env = g.owned.env; callers = g.owned.callers };
}

goes_on_line : (line : ℕ) (s u : Flattening) → Good s → Goes (on_line line (count_statement s)) u → Goes s (on_line s.setting.line u)
goes_on_line line s u g r =
    let k : AllKnown (IsKnown (length u.built.draft.wires)) u = r.good.known in
    goes_on s (on_line s.setting.line u) g r.later
    (ap (λ (c : Option Operand). record { line = s.setting.line; condition = c }) (ap (λ (at : Setting). at.condition) r.setting))
    (record { env = k.env; values = k.values; callers = k.callers }) (record { env = r.good.owned.env; callers = r.good.owned.callers })

pub goes_mix : (s : Flattening) → Good s → MayTurn s → Goes s (on_last_wire had s)
goes_mix s g f = goes_gate had (λ at w b x lt c u. later_had at w b lt) s g f

pub goes_flat : (e : Effect) (s : Flattening) → Good s → Fine e s → Goes s (flat e s)
goes_flat nothing s g f = goes_still s s g refl refl g.known g.owned
goes_flat (a >> b) s g f =
    let q : Goes s (flat a s) = goes_flat a s g f.0 in
    goes_then s (flat a s) (flat (a >> b) s) q (goes_flat b (flat a s) q.good f.1)
goes_flat (statement line e) s g f =
    goes_on_line line s (flat e (on_line line (count_statement s))) g
    (goes_flat e (on_line line (count_statement s)) (good_statement line s g) f)
goes_flat (step st) s g f = goes_step st s g f
goes_flat mix s g f = goes_mix s g f
goes_flat measured s g f = goes_measure s g f
goes_flat (claim line x) s g f = goes_claim x s g f
goes_flat (choice a b) s g f =
    let one : Flattening = flat a (first_branch s) in
    let two : Flattening = second_branch one s in
    let p : Branches (drop_last s) (first_branch s) = goes_first s g in
    let q : Goes (first_branch s) one = goes_flat a (first_branch s) p.good f.1 in
    let l : Later s.built.draft one.built.draft = later_then s.built.draft (first_branch s).built.draft one.built.draft p.later q.later in
    let r : Branches (at_second one s) two = goes_second s one g l in
    goes_back_under s two (flat b two) g (later_then s.built.draft one.built.draft two.built.draft l r.later) r.line (goes_flat b two r.good f.2)

-- ---- in short

pub good_step : (st : Step) (s : Flattening) → Good s → FineStep st s → Good (flat_step st s)
good_step st s g f = (goes_step st s g f).good

pub good_flat : (e : Effect) (s : Flattening) → Good s → Fine e s → Good (flat e s)
good_flat e s g f = (goes_flat e s g f).good

-- no step of an effect changes a wire that is blank after it, and it was blank before
pub blank_flat : (e : Effect) (s : Flattening) (g : Good s) (f : Fine e s) (w : WireId) → blank (flat e s).built.draft w ≡ true → (blank s.built.draft w ≡ true) × (label_after (goes_flat e s g f).later.new w ≡ 0)
blank_flat e s g f w b = later_blank s.built.draft (flat e s).built.draft (goes_flat e s g f).later g.fresh w b

-- wires that were there stay inputs or no inputs
pub inputs_flat : (e : Effect) (s : Flattening) → Good s → Fine e s → (w : WireId) → w.number < length s.built.draft.wires → (wire_in (flat e s).built.draft.wires w).input ≡ (wire_in s.built.draft.wires w).input
inputs_flat e s g f w lt = (goes_flat e s g f).later.inputs w lt
