-- Each step of a program spares wires that nothing known names.
use Rattle.std.proofs.Common.{◌≡◌, ℕ, ◌+◌, ◌≤◌, ◌<◌, Bool, true, false, cond, not, ◌&&◌, ◌||◌, List, [], ◌∷◌, ◌++◌, length, take, drop, replicate, map, ℤ, refl, sym, ap, ap₂, ◌∙◌, subst, arith}
use Rattle.std.specs.Prelude.{nat_abs}
use Rattle.std.specs.List.{list_any}
use Rattle.std.proofs.lemmas.List.{length-replicate}
use Rattle.silq_tree.specs.declared.node.NameId.{NameId}
use Rattle.silq_tree.specs.declared.node.UnaryOp.{UnaryOp}
use Rattle.silq_tree.specs.declared.node.UnaryOp.TheVariants.{Not, Neg}
use Rattle.silq_tree.specs.declared.node.BinaryOp.{BinaryOp}
use Rattle.silq_tree.specs.declared.node.BinaryOp.TheVariants.{Or, And, Eq, Ne, Lt, Le, Gt, Ge, Add, Sub, Mul, Div}
use Rattle.silq_tree.specs.declared.node.UpdateOp.{UpdateOp}
use Rattle.silq_types.specs.declared.types.Scalar.{Scalar}
use Rattle.silq_types.specs.declared.types.Scalar.TheVariants as scalars
use Rattle.silq_types.specs.declared.types.Shape.{Shape}
use Rattle.silq_types.specs.declared.types.Shape.TheVariants.{Bit, UInt, Int, Array}
use Rattle.silq_types.specs.Types.{scalar_bits, shape_bits}
use Rattle.silq_types.specs.declared.need.Need.{Need}
use Rattle.silq_types.specs.Calls.{is_consumed}
use Rattle.silq_mean.specs.Value.{low_bits, modulo, modulus}
use Rattle.silq_mean.specs.Env.{in_its_block}
use Rattle.silq_mean.specs.declared.receiver.Receiver.{Receiver}
use Rattle.silq_mean.specs.declared.receiver.Receiver.TheVariants.{Variable, Argument, CallResult, EntryOutput}
use Rattle.silq_mean.specs.Effect.{Step, give_static, give_typed, give_part, one_operand, two_operands, copy_last, repeat_last, flip_last, turn_by, turn_all, receive, assign_to, assign_in_turn, update_to, end_name, end_compared, enter_block, leave_block, enter_body, leave_body}
use Rattle.flat_core.specs.declared.step.WireId.{WireId}
use Rattle.flat_core.specs.declared.step.End.TheVariants.{Measured}
use Rattle.flat_core.specs.Form.{DraftForm}
use Rattle.flat_core.specs.Label.{same_wire}
use Rattle.flat_core.specs.Sound.{count_measures}
use Rattle.flat_mean.specs.Row.{Row}
use Rattle.bit_arith.specs.declared.operand.Operand.{Operand}
use Rattle.bit_arith.specs.declared.operand.Operand.TheVariants.{Const}
use Rattle.bit_arith.specs.Built.{Built, Setting, Given, made, all_made, negated, under}
use Rattle.bit_arith.specs.Rows.{copy, flip, turn, had, measure}
use Rattle.bit_arith.specs.Calls.{Targets, no_target, among, AllSafe}
use Rattle.bit_arith.specs.Values.{bits_at}
use Rattle.bit_arith.specs.Does.{Fresh, GivesNumber, Tells, Copies, Turns, Measures}
use Rattle.bit_arith.proofs.Doing.{Guards, grows_fresh, grown}
use Rattle.bit_arith.proofs.Steps.{or_false}
use Rattle.bit_arith.proofs.Listed.{safe_under, safe_more, below_more}
use Rattle.bit_arith.proofs.Making.{safe_new, copy_does, both_does, either_does, negated_safe}
use Rattle.bit_arith.proofs.Carrying.{sum_does, difference_does}
use Rattle.bit_arith.proofs.Multiples.{product_does}
use Rattle.bit_arith.proofs.Tests.{equal_does, less_does, safe_append}
use Rattle.bit_arith.proofs.Tidying.{flip_does}
use Rattle.bit_arith.proofs.Phases.{turn_does}
use Rattle.bit_arith.proofs.Halves.{had_does, measure_does}
use Rattle.flat_form.specs.declared.known.TypedBits.{TypedBits}
use Rattle.flat_form.specs.declared.known.Known.{Known}
use Rattle.flat_form.specs.declared.known.Known.TheVariants.{Static, Shown, Lent, Absent}
use Rattle.flat_form.specs.State.{Caller, Flattening, push, last, drop_last, wires_so_far, operands_of, is_signed, typed, typed_as, part_shape, part_start, part_of, with_part, outside, are_wires, are_new, as_they_are, copied, taken, kept, wires_in, only_wire, only_operand}
use Rattle.flat_form.specs.Flat.{by_one, by_two, alone, opposite, give, on_one, on_two_typed, began_at, as_operand, give_copy, give_repeated, repeated, on_wire, turn_both, end_all, measure_all, measure_value, shape_for, taken_for, receive_value, known_in, part_used, use_part, moved, after_use, use_variable, assigned, bind, update_variable, back_to, flat_step}
use Rattle.flat_form.specs.Names.{AllOf, AllKnown, CallerOf, named_by, Spares}
use Rattle.flat_form.specs.Good.{Good, IsShown, IsKnown}
use Rattle.flat_form.specs.Fine.{IsOf, MayTake, MayTurn, MayMeasure, UpdatesPart, MayUpdate, FitsTwo, MayJoin, WasLent, IsLent, MayAssign, MayUse, FineStep, without_part}
use Rattle.flat_form.proofs.Kept.{spares_variable, known_last, known_name, known_push, known_drop, known_bind, known_its, known_in_turn, known_enter_block, known_leave_block, known_enter, known_back, safe_spared, safe_outside}
use Rattle.flat_form.proofs.Later.{later_fresh, later_measure_all}
use Rattle.flat_form.proofs.Giving.{known_operands, safe_zeros, safe_negated, Takes, takes_taken, typed_as_all, typed_as_known, typed_as_safe, as_operand_known, size_of, length-part, wires_part, length-in, safe_part, below_in, safe_consts, only_safe, safe_repeated, only_below}
use Rattle.flat_laws.proofs.OperatorRows.{update_does}
use Rattle.flat_laws.proofs.Taking.{one_wire}
use Rattle.flat_form.proofs.Goods.{only_guard, below_targets, different_wires, last_spared}
use Rattle.flat_laws.proofs.Sparing.{Low, none_new, Passes, passes_same, passes_then, passes_grows, passes_end, NoneNamed, none_named, none_among, safe_lent, safe_apart}

-- ---- rows that give operands

-- a row that changes none of the wires and names none of them
pub record Safely (T : Targets) (d : DraftForm) (row : Given (List Operand)) : Type 0 where
  pub passes : Passes T d row.built.draft
  pub unnamed : NoneNamed T row.answer

no_off : (T : Targets) (w : WireId) → T w ≡ true → no_target w ≡ false
no_off T w t = refl

safely_same : (n : ℕ) (T : Targets) (ps : List Operand) (b : Built) → AllSafe n T ps → Safely T b.draft (as_they_are ps b)
safely_same n T ps b s = record { passes = passes_same T b.draft; unnamed = none_named n T ps s }

safely_number : {at : Setting} {d : DraftForm} {m : ℕ} {row : Given (List Operand)} {f : Row → ℕ} (T : Targets) → Low T d → GivesNumber at d m row f → Safely T d row
safely_number {d = d} {row = row} T low r = record {
  passes = passes_grows T r.does.grows low (no_off T);
  unnamed = none_named (length row.built.draft.wires) T row.answer (r.safe T (none_new T d low) tt);
}

safely_tells : {at : Setting} {d : DraftForm} {of : List Operand} {row : Given Operand} {f : Row → Bool} (T : Targets) → Low T d → Tells at d of row f → AllSafe (length d.wires) T of → Safely T d (alone row)
safely_tells {d = d} {row = row} T low r s = record {
  passes = passes_grows T r.does.grows low (no_off T);
  unnamed = none_named (length row.built.draft.wires) T (row.answer ∷ []) (r.safe T (none_new T d low) s, tt);
}

safely_opposite : {at : Setting} {d : DraftForm} {of : List Operand} {row : Given Operand} {f : Row → Bool} (T : Targets) → Low T d → Tells at d of row f → AllSafe (length d.wires) T of → Safely T d (opposite row)
safely_opposite {d = d} {row = row} T low r s = record {
  passes = passes_grows T r.does.grows low (no_off T);
  unnamed = none_named (length row.built.draft.wires) T (negated row.answer ∷ []) (negated_safe (length row.built.draft.wires) T row.answer (r.safe T (none_new T d low) s), tt);
}

safely_copied : (T : Targets) (at : Setting) (ps : List Operand) (b : Built) → Low T b.draft → Fresh b.draft → Guards at (length b.draft.wires) no_target → AllSafe (length b.draft.wires) no_target ps → Safely T b.draft (copied at ps b)
safely_copied T at ps b low f g s =
    let c : Copies at b.draft (copy at ps b) (λ v. bits_at v ps) = copy_does at ps b f g s in
    record {
      passes = passes_grows T c.does.grows low (no_off T);
      unnamed = none_named (length (copy at ps b).built.draft.wires) T (all_made (copy at ps b).answer) (safe_new b.draft (copy at ps b).built.draft (copy at ps b).answer T c.new (none_new T b.draft low));
    }

safely_one : (op : UnaryOp) (T : Targets) (at : Setting) (ps : List Operand) (b : Built) → Low T b.draft → Fresh b.draft → Guards at (length b.draft.wires) no_target → AllSafe (length b.draft.wires) no_target ps → AllSafe (length b.draft.wires) T ps → Safely T b.draft (by_one op at ps b)
safely_one Not T at ps b low f g s t = safely_same (length b.draft.wires) T (map negated ps) b (safe_negated (length b.draft.wires) T ps t)
safely_one Neg T at ps b low f g s t =
    let zs : List Operand = replicate (length ps) (Const false) in
    safely_number T low (difference_does at zs ps b f (length-replicate (length ps) (Const false)) g (safe_zeros (length b.draft.wires) no_target (length ps)) s)

safely_two : (op : BinaryOp) (s : Shape) (T : Targets) (at : Setting) (ps qs : List Operand) (b : Built) → Low T b.draft → Fresh b.draft → Guards at (length b.draft.wires) no_target → AllSafe (length b.draft.wires) no_target ps → AllSafe (length b.draft.wires) no_target qs → AllSafe (length b.draft.wires) T ps → AllSafe (length b.draft.wires) T qs → length ps ≡ length qs → FitsTwo op s → Safely T b.draft (by_two op s at ps qs b)
safely_two Or s T at ps qs b low f g sp sq tp tq e fits =
    safely_tells T low (either_does at (only_operand ps) (only_operand qs) b f g (only_safe (length b.draft.wires) no_target ps sp, (only_safe (length b.draft.wires) no_target qs sq, tt))) tt
safely_two And s T at ps qs b low f g sp sq tp tq e fits =
    safely_tells T low (both_does at (only_operand ps) (only_operand qs) b f g (only_safe (length b.draft.wires) no_target ps sp, (only_safe (length b.draft.wires) no_target qs sq, tt))) tt
safely_two Eq s T at ps qs b low f g sp sq tp tq e fits = safely_tells T low (equal_does at ps qs b f e g sp sq) (safe_append (length b.draft.wires) T ps qs tp tq)
safely_two Ne s T at ps qs b low f g sp sq tp tq e fits = safely_opposite T low (equal_does at ps qs b f e g sp sq) (safe_append (length b.draft.wires) T ps qs tp tq)
safely_two Lt s T at ps qs b low f g sp sq tp tq e fits = safely_tells T low (less_does at (is_signed s) ps qs b f e g sp sq) tt
safely_two Gt s T at ps qs b low f g sp sq tp tq e fits = safely_tells T low (less_does at (is_signed s) qs ps b f (sym e) g sq sp) tt
safely_two Le s T at ps qs b low f g sp sq tp tq e fits = safely_opposite T low (less_does at (is_signed s) qs ps b f (sym e) g sq sp) tt
safely_two Ge s T at ps qs b low f g sp sq tp tq e fits = safely_opposite T low (less_does at (is_signed s) ps qs b f e g sp sq) tt
safely_two Add s T at ps qs b low f g sp sq tp tq e fits = safely_number T low (sum_does at ps qs b f e g sp sq)
safely_two Sub s T at ps qs b low f g sp sq tp tq e fits = safely_number T low (difference_does at ps qs b f e g sp sq)
safely_two Mul s T at ps qs b low f g sp sq tp tq e fits = safely_number T low (product_does at ps qs b f e g sp sq)
safely_two Div s T at ps qs b low f g sp sq tp tq e fits = absurd fits

safely_either : (T : Targets) (d : DraftForm) (c : Bool) (r q : Given (List Operand)) → Safely T d r → Safely T d q → Safely T d (cond c r q)
safely_either T d true r q a b = a
safely_either T d false r q a b = b

module _ (T : Targets) (at : Setting) (v : TypedBits) (b : Built) (low : Low T b.draft) (f : Fresh b.draft) (g : Guards at (length b.draft.wires) no_target) (k : IsShown (length b.draft.wires) v) (t : AllSafe (length b.draft.wires) T v.operands) where
  pub safely_taken : Safely T b.draft (taken at v b)
  safely_taken =
      safely_either T b.draft (v.own || are_new b.draft v.began v.operands) (as_they_are v.operands b) (copied at v.operands b)
      (safely_same (length b.draft.wires) T v.operands b t) (safely_copied T at v.operands b low f g k.there)

  safely_kept : Safely T b.draft (kept at v b)
  safely_kept =
      safely_either T b.draft (are_wires v.operands) (as_they_are v.operands b) (copied at v.operands b)
      (safely_same (length b.draft.wires) T v.operands b t) (safely_copied T at v.operands b low f g k.there)

  pub safely_for : (r : Receiver) → Safely T b.draft (taken_for r at v b)
  safely_for Variable = safely_either T b.draft v.classical (kept at v b) (taken at v b) safely_kept safely_taken
  safely_for (Argument need i) = safely_either T b.draft (not (is_consumed need) || i.classical) (kept at v b) (taken at v b) safely_kept safely_taken
  safely_for (CallResult i) = safely_taken
  safely_for (EntryOutput i) = safely_either T b.draft (i.classical || v.classical) (copied at v.operands b) (taken at v b) (safely_copied T at v.operands b low f g k.there) safely_taken

typed_spares : (T : Targets) (m : ℕ) (j : Scalar) (z : ℤ) → Spares T (typed m j z)
typed_spares T m j z = none_named 0 T (map (λ b. Const b) (low_bits (scalar_bits j) (modulo z (modulus j)))) (safe_consts 0 T (low_bits (scalar_bits j) (modulo z (modulus j))))

pub as_spares : (T : Targets) (m : ℕ) (t : Shape) (k : Known) → Spares T k → Spares T (typed_as m t k)
as_spares T m t k p = typed_as_all (Spares T) m t k (λ j z e. typed_spares T m j z) p

-- ---- states

pub record Spared (T : Targets) (s u : Flattening) : Type 0 where
  pub passes : Passes T s.built.draft u.built.draft
  pub known : AllKnown (Spares T) u

spared_still : (T : Targets) (s u : Flattening) → u.built ≡ s.built → AllKnown (Spares T) u → Spared T s u
spared_still T s u e k = record { passes = subst (λ (b : Built). Passes T s.built.draft b.draft) (sym e) (passes_same T s.built.draft); known = k }

spared_give : (T : Targets) (s r : Flattening) (classical : Bool) (t : Shape) (own : Bool) (began : ℕ) (row : Given (List Operand)) → Safely T s.built.draft row → AllKnown (Spares T) r → Spared T s (give classical t own began row r)
spared_give T s r classical t own began row a k = record {
  passes = a.passes;
  known = record { env = k.env; values = (a.unnamed, k.values); callers = k.callers };
}

-- ---- gates

-- a gate changes no wire of a set from which its own is another
abbrev GatePasses : (Setting → WireId → Built → Built) → Type 0
GatePasses gate = (T : Targets) (at : Setting) (w : WireId) (b : Built) → Fresh b.draft → w.number < length b.draft.wires → Guards at (length b.draft.wires) no_target → AllSafe (length b.draft.wires) (same_wire w) (under at []) → Low T b.draft → ((v : WireId) → T v ≡ true → same_wire w v ≡ false) → Passes T b.draft (gate at w b).draft

pub flip_passes : GatePasses (λ at w b. flip at w [] b)
flip_passes T at w b f lt g s low off = passes_grows T (flip_does at w [] b f lt s).grows low off

pub had_passes : GatePasses had
had_passes T at w b f lt g s low off = passes_grows T (had_does at w b lt).grows low off

pub turn_passes : (T : Targets) (at : Setting) (k : ℕ) (ps : List Operand) (b : Built) → Fresh b.draft → Guards at (length b.draft.wires) no_target → AllSafe (length b.draft.wires) no_target ps → Low T b.draft → Passes T b.draft (turn at k ps b).draft
turn_passes T at k ps b f g s low = passes_grows T (turn_does at k ps b f (safe_under (length b.draft.wires) no_target at ps g s)).grows low (no_off T)

pub turn_both_passes : (k l : ℕ) → GatePasses (turn_both k l)
turn_both_passes k l T at w b f lt g s low off =
    let b1 : Built = turn at l (negated (made w) ∷ []) b in
    let r : Turns at l (negated (made w) ∷ []) b.draft b1.draft = turn_does at l (negated (made w) ∷ []) b f (safe_under (length b.draft.wires) no_target at (negated (made w) ∷ []) g ((lt, refl), tt)) in
    let up : length b.draft.wires ≤ length b1.draft.wires = grown r.grows in
    passes_then T b.draft b1.draft (turn_both k l at w b).draft (passes_grows T r.grows low (no_off T))
    (turn_passes T at k (made w ∷ []) b1 (grows_fresh r.grows f) (safe_more (length b.draft.wires) (length b1.draft.wires) no_target no_target (under at []) up (λ v lt2 e. e) g)
    ((omega (arith, lt, up), refl), tt) (λ v t. let lv = low v t in omega (arith, lv, up)))

measure_passes : (T : Targets) (at : Setting) (ws : List WireId) (b : Built) → Low T b.draft → Passes T b.draft (measure_all at ws b).draft
measure_passes T at [] b low = passes_same T b.draft
measure_passes T at (w ∷ ws) b low =
    let r : Measures w (count_measures b.draft.steps) b.draft (measure at w b).draft = measure_does at w b in
    let up : length b.draft.wires ≤ length (measure at w b).draft.wires = grown r.grows in
    passes_then T b.draft (measure at w b).draft (measure_all at (w ∷ ws) b).draft (passes_grows T r.grows low (no_off T))
    (measure_passes T at ws (measure at w b) (λ v t. let lv = low v t in omega (arith, lv, up)))

measured_longer : (at : Setting) (ws : List WireId) (b : Built) → length b.draft.wires ≤ length (measure_all at ws b).draft.wires
measured_longer at ws b = (later_measure_all at ws b).longer

only_named : (T : Targets) (ps : List Operand) → are_wires ps ≡ true → length ps ≡ 1 → NoneNamed T ps → (v : WireId) → T v ≡ true → same_wire (only_wire ps) v ≡ false
only_named T ps a l u v t = (or_false (same_wire (only_wire ps) v) false (subst (λ qs. list_any (named_by v) qs ≡ false) (one_wire ps a l) (u v t))).0

-- nothing that is known names a wire of the set; all of them are there
module _ (T : Targets) (s : Flattening) (low : Low T s.built.draft) (g : Good s) (all : AllKnown (Spares T) s) where
  abbrev n : ℕ
  n = length s.built.draft.wires

  last_known : IsKnown n (last s)
  last_known = known_last (IsKnown n) s tt g.known

  last_spares : Spares T (last s)
  last_spares = known_last (Spares T) s (λ w t. refl) all

  but_last : AllKnown (Spares T) (drop_last s)
  but_last = known_drop (Spares T) s all

  but_known : AllKnown (IsKnown n) (drop_last s)
  but_known = known_drop (IsKnown n) s g.known

  but_two : AllKnown (Spares T) (drop_last (drop_last s))
  but_two = known_drop (Spares T) (drop_last s) but_last

  name_known : (x : NameId) → IsKnown n (known_in s x)
  name_known x = known_name (IsKnown n) s x tt g.known

  name_spares : (x : NameId) → Spares T (known_in s x)
  name_spares x = known_name (Spares T) s x (λ w t. refl) all

  -- ---- operators

  spared_one : (op : UnaryOp) → Spared T s (flat_step (one_operand op) s)
  spared_one op = go (last s) last_known last_spares
    where
      absent_last : Spared T s (push Absent (drop_last s))
      absent_last = spared_still T s (push Absent (drop_last s)) refl (known_push (Spares T) Absent (drop_last s) (λ w t. refl) but_last)

      go : (k : Known) → IsKnown n k → Spares T k → Spared T s (on_one op k (drop_last s))
      go (Static z) h p = absent_last
      go (Lent start size v) h p = absent_last
      go Absent h p = absent_last
      go (Shown v) h p = spared_give T s (drop_last s) _ _ _ _ (by_one op s.setting v.operands s.built) (safely_one op T s.setting v.operands s.built low g.fresh g.condition h.there (safe_spared n T v.operands h.there p)) but_last

  operand_safe : (other k : Known) → IsKnown n k → Spares T k → AllSafe n T (operands_of (as_operand other k))
  operand_safe (Static y) (Static z) h p = tt
  operand_safe (Shown v) (Static z) h p = typed_operand v.classical v.shape v.operands v.own v.began z
    where
      typed_operand : (c : Bool) (t : Shape) (ps : List Operand) (o : Bool) (b : ℕ) (y : ℤ) → AllSafe n T (operands_of (as_operand (Shown (record { classical = c; shape = t; operands = ps; own = o; began = b })) (Static y)))
      typed_operand c Bit ps o b y = safe_consts n T (low_bits (scalar_bits scalars.Bit) (modulo y (modulus scalars.Bit)))
      typed_operand c (UInt w) ps o b y = safe_consts n T (low_bits (scalar_bits (scalars.UInt w)) (modulo y (modulus (scalars.UInt w))))
      typed_operand c (Int w) ps o b y = safe_consts n T (low_bits (scalar_bits (scalars.Int w)) (modulo y (modulus (scalars.Int w))))
      typed_operand c (Array k m) ps o b y = tt
  operand_safe (Lent start size v) (Static z) h p = tt
  operand_safe Absent (Static z) h p = tt
  operand_safe other (Shown v) h p = safe_spared n T v.operands h.there p
  operand_safe other (Lent start size v) h p = tt
  operand_safe other Absent h p = tt

  spared_two : (op : BinaryOp) → MayJoin op (last (drop_last s)) (last s) → Spared T s (flat_step (two_operands op) s)
  spared_two op fit =
      go (as_operand l k) (as_operand k l) fit (as_operand_known n l k kk) (as_operand_known n k l last_known) (operand_safe l k kk ks) (operand_safe k l last_known last_spares)
    where
      k : Known
      k = last (drop_last s)

      l : Known
      l = last s

      kk : IsKnown n k
      kk = known_last (IsKnown n) (drop_last s) tt but_known

      ks : Spares T k
      ks = known_last (Spares T) (drop_last s) (λ w t. refl) but_last

      go : (a c : Known) → IsOf (λ v. IsOf (λ w. (v.shape ≡ w.shape) × FitsTwo op v.shape) c) a → IsKnown n a → IsKnown n c → AllSafe n T (operands_of a) → AllSafe n T (operands_of c) → Spared T s (on_two_typed op (began_at k l) a c (drop_last (drop_last s)))
      go (Static z) c f qa qc ta tc = absurd f
      go (Lent i j v) c f qa qc ta tc = absurd f
      go Absent c f qa qc ta tc = absurd f
      go (Shown v) (Static z) f qa qc ta tc = absurd f
      go (Shown v) (Lent i j w) f qa qc ta tc = absurd f
      go (Shown v) Absent f qa qc ta tc = absurd f
      go (Shown v) (Shown w) f qa qc ta tc =
          spared_give T s (drop_last (drop_last s)) _ _ _ _ (by_two op v.shape s.setting v.operands w.operands s.built)
          (safely_two op v.shape T s.setting v.operands w.operands s.built low g.fresh g.condition qa.there qc.there ta tc (qa.size ∙ (ap shape_bits f.0 ∙ sym qc.size)) f.1) but_two

  spared_copy : Spared T s (flat_step copy_last s)
  spared_copy = go (last s) last_known
    where
      absent_last : Spared T s (push Absent (drop_last s))
      absent_last = spared_still T s (push Absent (drop_last s)) refl (known_push (Spares T) Absent (drop_last s) (λ w t. refl) but_last)

      go : (k : Known) → IsKnown n k → Spared T s (give_copy k (drop_last s))
      go (Static z) h = absent_last
      go (Lent start size v) h = absent_last
      go Absent h = absent_last
      go (Shown v) h = spared_give T s (drop_last s) _ _ _ _ (copied s.setting v.operands s.built) (safely_copied T s.setting v.operands s.built low g.fresh g.condition h.there) but_last

  spared_repeat : Spared T s (flat_step repeat_last s)
  spared_repeat = go (last (drop_last s)) (last s) last_known
    where
      absent_last : Spared T s (push Absent (drop_last (drop_last s)))
      absent_last = spared_still T s (push Absent (drop_last (drop_last s))) refl (known_push (Spares T) Absent (drop_last (drop_last s)) (λ w t. refl) but_two)

      go : (k l : Known) → IsKnown n l → Spared T s (give_repeated k l (drop_last (drop_last s)))
      go (Shown v) l h = absent_last
      go (Lent a c v) l h = absent_last
      go Absent l h = absent_last
      go (Static m) (Static z) h = absent_last
      go (Static m) (Lent a c v) h = absent_last
      go (Static m) Absent h = absent_last
      go (Static m) (Shown v) h =
          let ps : List Operand = repeated (nat_abs m) v.operands in
          spared_give T s (drop_last (drop_last s)) _ _ _ _ (copied s.setting ps s.built) (safely_copied T s.setting ps s.built low g.fresh g.condition (safe_repeated n no_target (nat_abs m) v.operands h.there)) but_two

  spared_receive : (r : Receiver) → Spared T s (flat_step (receive r) s)
  spared_receive r = go (shape_for r n (last s)) (for_known r (last s) last_known) (for_spares r (last s) last_spares)
    where
      for_known : (r : Receiver) (k : Known) → IsKnown n k → IsKnown n (shape_for r n k)
      for_known Variable k q = q
      for_known (Argument need t) k q = typed_as_known n n t.shape k q
      for_known (CallResult t) k q = typed_as_known n n t.shape k q
      for_known (EntryOutput t) k q = typed_as_known n n t.shape k q

      for_spares : (r : Receiver) (k : Known) → Spares T k → Spares T (shape_for r n k)
      for_spares Variable k q = q
      for_spares (Argument need t) k q = as_spares T n t.shape k q
      for_spares (CallResult t) k q = as_spares T n t.shape k q
      for_spares (EntryOutput t) k q = as_spares T n t.shape k q

      go : (k : Known) → IsKnown n k → Spares T k → Spared T s (receive_value r k (drop_last s))
      go (Static z) h p = spared_still T s (push (Static z) (drop_last s)) refl (known_push (Spares T) (Static z) (drop_last s) p but_last)
      go (Lent a c v) h p = spared_still T s (push (Lent a c v) (drop_last s)) refl (known_push (Spares T) (Lent a c v) (drop_last s) p but_last)
      go Absent h p = spared_still T s (push Absent (drop_last s)) refl (known_push (Spares T) Absent (drop_last s) p but_last)
      go (Shown v) h p = spared_give T s (drop_last s) _ _ _ _ (taken_for r s.setting v s.built) (safely_for T s.setting v s.built low g.fresh g.condition h (safe_spared n T v.operands h.there p) r) but_last

  -- ---- gates and measures

  taken_row : (v : TypedBits) → IsShown n v → Spares T (Shown v) → Safely T s.built.draft (taken s.setting v s.built)
  taken_row v h p = safely_taken T s.setting v s.built low g.fresh g.condition h (safe_spared n T v.operands h.there p)

  takes_row : (v : TypedBits) → IsShown n v → MayTake v s → Takes s.setting s.built.draft (length v.operands) (taken s.setting v s.built)
  takes_row v h may = takes_taken s.setting v s.built g.fresh g.condition h (λ k. (may k).condition)

  spared_gate : (gate : Setting → WireId → Built → Built) → GatePasses gate → MayTurn s → Spared T s (on_wire gate (last s) (drop_last s))
  spared_gate gate ok may = go (last s) last_known last_spares may
    where
      go : (k : Known) → IsKnown n k → Spares T k → IsOf (λ v. (v.shape ≡ Bit) × MayTake v s) k → Spared T s (on_wire gate k (drop_last s))
      go (Static z) h p f = absurd f
      go (Lent start size v) h p f = absurd f
      go Absent h p f = absurd f
      go (Shown v) h p f =
          let row : Given (List Operand) = taken s.setting v s.built in
          let a : Safely T s.built.draft row = taken_row v h p in
          let r : Takes s.setting s.built.draft (length v.operands) row = takes_row v h f.1 in
          let m : ℕ = length row.built.draft.wires in
          let up : n ≤ m = r.gives.later.longer in
          let one : length row.answer ≡ 1 = r.gives.size ∙ (h.size ∙ ap shape_bits f.0) in
          let b : Built = gate s.setting (only_wire row.answer) row.built in
          let q : Passes T row.built.draft b.draft =
          ok T s.setting (only_wire row.answer) row.built (later_fresh s.built.draft row.built.draft r.gives.later g.fresh) (only_below m no_target row.answer r.wires one r.gives.there)
          (safe_more n m no_target no_target (under s.setting []) up (λ w lt e. e) g.condition) (only_guard m row.answer (under s.setting []) r.wires one r.guards)
          (λ w t. let lw = low w t in omega (arith, lw, up)) (only_named T row.answer r.wires one a.unnamed) in
          spared_give T s (drop_last s) _ _ _ _ (record { answer = row.answer; built = b }) (record { passes = passes_then T s.built.draft row.built.draft b.draft a.passes q; unnamed = a.unnamed }) but_last

  spared_measure : MayMeasure s → Spared T s (measure_value (last s) (drop_last s))
  spared_measure may = go (last s) last_known last_spares may.1
    where
      go : (k : Known) → IsKnown n k → Spares T k → IsOf (λ v. MayTake v s) k → Spared T s (measure_value k (drop_last s))
      go (Static z) h p f = absurd f
      go (Lent start size v) h p f = absurd f
      go Absent h p f = absurd f
      go (Shown v) h p f =
          let row : Given (List Operand) = taken s.setting v s.built in
          let a : Safely T s.built.draft row = taken_row v h p in
          let r : Takes s.setting s.built.draft (length v.operands) row = takes_row v h f in
          let up : n ≤ length row.built.draft.wires = r.gives.later.longer in
          let ws : List WireId = wires_in row.answer in
          let b1 : Built = measure_all s.setting ws row.built in
          let b2 : Built = end_all Measured ws b1 in
          let q1 : Passes T row.built.draft b1.draft = measure_passes T s.setting ws row.built (λ w t. let lw = low w t in omega (arith, lw, up)) in
          let q2 : Passes T b1.draft b2.draft = passes_end T Measured ws b1 refl (below_more (length row.built.draft.wires) (length b1.draft.wires) ws (measured_longer s.setting ws row.built) (below_in (length row.built.draft.wires) no_target row.answer r.gives.there)) in
          spared_give T s (drop_last s) _ _ _ _ (record { answer = row.answer; built = b2 })
          (record { passes = passes_then T s.built.draft row.built.draft b2.draft a.passes (passes_then T row.built.draft b1.draft b2.draft q1 q2); unnamed = a.unnamed }) but_last

  -- ---- updates

  spared_update : (x : NameId) (is : List ℤ) (op : UpdateOp) → MayUpdate x is op s → Spared T s (flat_step (update_to x is op) s)
  spared_update x is op may = go (known_in s x) (name_known x) (name_spares x) may
    where
      go : (k : Known) → IsKnown n k → Spares T k → IsOf (UpdatesPart x is op s) k → Spared T s (drop_last (update_variable k is op (last s) s))
      go (Static z) h p f = absurd f
      go (Lent start size v) h p f = absurd f
      go Absent h p f = absurd f
      go (Shown v) h p f =
          let t : Shape = part_shape v.shape is in
          let part : List Operand = part_of v.shape is v.operands in
          let ws : List WireId = wires_in part in
          let operand : Known = typed_as 0 t (last s) in
          let ops : List Operand = operands_of operand in
          let e : length ws ≡ length ops =
          length-in part (wires_part v is f.wires) ∙ (length-part v is f.there ∙ sym (size_of n t operand (typed_as_known n 0 t (last s) last_known) f.operand)) in
          let spares : NoneNamed T part = none_named n T part (safe_part n T v is (safe_spared n T v.operands h.there p)) in
          record {
            passes = passes_grows T
                (update_does op s.setting ws ops s.built g.fresh e (below_targets s.built.draft ws f.change.targets) (different_wires ws f.change.distinct) f.change.condition
                (typed_as_safe n 0 (among ws) t (last s) last_known (last_spared (among ws) (without_part x is v s) f.change.spared))).grows low (none_among T part spares);
            known = record { env = but_last.env; values = but_last.values; callers = but_last.callers };
          }

  -- ---- variables

  part_spares : (is : List ℤ) (m : ℕ) (need : Need) (v : TypedBits) → AllSafe n T (part_of v.shape is v.operands) → Spares T (part_used m need is v)
  part_spares is m need v h = none_named n T (part_of v.shape is v.operands) h

  use_spares : (m : ℕ) (need : Need) (is : List ℤ) (k : Known) → IsKnown n k → Spares T k → MayUse is k → Spares T (use_part m need is k)
  use_spares m need is (Static z) h p f = absurd f
  use_spares m need is Absent h p f = absurd f
  use_spares m need is (Shown v) h p f = part_spares is m need v (safe_part n T v is (safe_spared n T v.operands h.there p))
  use_spares m need is (Lent start size v) h p f =
      let (a, b) = safe_lent n T start size v.operands h.there p in
      part_spares is m need v (safe_apart n T start size (part_start v.shape is) (shape_bits (part_shape v.shape is)) v.operands f.1 a b)

  moved_spares : (is : List ℤ) (v : TypedBits) → IsShown n v → Spares T (Shown v) → Spares T (moved is v)
  moved_spares [] v h p = λ w t. refl
  moved_spares (i ∷ is) v h p =
      let start : ℕ = part_start v.shape (i ∷ is) in
      let size : ℕ = shape_bits (part_shape v.shape (i ∷ is)) in
      none_named n T (outside start size v.operands) (safe_outside n T start size v.operands (safe_spared n T v.operands h.there p))

  either_spares : (c : Bool) (k l : Known) → Spares T k → Spares T l → Spares T (cond c k l)
  either_spares true k l a b = a
  either_spares false k l a b = b

  after_spares : (need : Need) (is : List ℤ) (k : Known) → IsKnown n k → Spares T k → Spares T (after_use need is k)
  after_spares need is (Static z) h p = p
  after_spares need is (Shown v) h p = either_spares (is_consumed need && not v.classical) (moved is v) (Shown v) (moved_spares is v h p) p
  after_spares need is (Lent start size v) h p = p
  after_spares need is Absent h p = p

  spared_use : (need : Need) (x : NameId) (is : List ℤ) → MayUse is (known_in s x) → Spared T s (use_variable need x is s)
  spared_use need x is f =
      let k : Known = known_in s x in
      spared_still T s (use_variable need x is s) refl
      (known_push (Spares T) (use_part (wires_so_far s) need is k) (record s { env = in_its_block s.env x (after_use need is k) }) (use_spares (wires_so_far s) need is k (name_known x) (name_spares x) f)
      (known_its (Spares T) x (after_use need is k) s (after_spares need is k (name_known x) (name_spares x)) all))

  -- a part that comes back
  back_spares : (i : ℤ) (is : List ℤ) (start size : ℕ) (v : TypedBits) (k : Known) → IsShown n v → IsKnown n k → Spares T (Lent start size v) → Spares T k → WasLent (i ∷ is) start size v k → NoneNamed T (with_part v.shape (i ∷ is) v.operands (operands_of k))
  back_spares i is start size v k h j p q w =
      let (a, b) = safe_lent n T start size v.operands h.there p in
      let a' : AllSafe n T (take (part_start v.shape (i ∷ is)) v.operands) = subst (λ m. AllSafe n T (take m v.operands)) w.starts a in
      let b' : AllSafe n T (drop (part_start v.shape (i ∷ is) + shape_bits (part_shape v.shape (i ∷ is))) v.operands) = subst (λ m. AllSafe n T (drop m v.operands)) (ap₂ (λ (x y : ℕ). x + y) w.starts w.sizes) b in
      none_named n T (with_part v.shape (i ∷ is) v.operands (operands_of k))
      (safe_append n T (take (part_start v.shape (i ∷ is)) v.operands) (operands_of k ++ drop (part_start v.shape (i ∷ is) + shape_bits (part_shape v.shape (i ∷ is))) v.operands) a'
      (safe_append n T (operands_of k) (drop (part_start v.shape (i ∷ is) + shape_bits (part_shape v.shape (i ∷ is))) v.operands) (known_operands n T k j q) b'))

  assigned_spares : (i : ℤ) (is : List ℤ) (old new : Known) → IsKnown n old → IsKnown n new → Spares T old → Spares T new → IsLent (i ∷ is) old new → Spares T (assigned (i ∷ is) old new)
  assigned_spares i is (Static z) new h j p q f = absurd f
  assigned_spares i is (Shown v) new h j p q f = absurd f
  assigned_spares i is (Lent start size v) new h j p q f = back_spares i is start size v new h j p q f
  assigned_spares i is Absent new h j p q f = absurd f

  spared_assign : (x : NameId) (is : List ℤ) → MayAssign x is s → Spared T s (flat_step (assign_to x is) s)
  spared_assign x [] f = spared_still T s (flat_step (assign_to x []) s) refl (known_bind (Spares T) x (last s) (drop_last s) (spares_variable T (last s) last_spares) but_last)
  spared_assign x (i ∷ is) f =
      let new : Known = assigned (i ∷ is) (known_in s x) (last s) in
      spared_still T s (bind x new (drop_last s)) refl (known_bind (Spares T) x new (drop_last s) (spares_variable T new (assigned_spares i is (known_in s x) (last s) (name_known x) last_known (name_spares x) last_spares f)) but_last)

  spared_back : (cs : List Caller) → AllOf (CallerOf (Spares T)) cs → Spared T s (back_to s cs)
  spared_back [] k = spared_still T s s refl all
  spared_back (c ∷ cs) k = spared_still T s (back_to s (c ∷ cs)) refl (known_back (Spares T) s (c ∷ cs) all k)

  -- ---- steps

  pub spared_step : (st : Step) → FineStep st s → Spared T s (flat_step st s)
  spared_step (give_static z) f = spared_still T s (push (Static z) s) refl (known_push (Spares T) (Static z) s (λ w t. refl) all)
  spared_step (give_typed k z) f = spared_still T s (push (typed (wires_so_far s) k z) s) refl (known_push (Spares T) (typed (wires_so_far s) k z) s (typed_spares T (wires_so_far s) k z) all)
  spared_step (give_part need x is) f = spared_use need x is f.0
  spared_step (one_operand op) f = spared_one op
  spared_step (two_operands op) f = spared_two op f
  spared_step copy_last f = spared_copy
  spared_step repeat_last f = spared_repeat
  spared_step flip_last f = spared_gate (λ at w b. flip at w [] b) flip_passes f
  spared_step (turn_by k l) f = spared_gate (turn_both k l) (turn_both_passes k l) f.0
  spared_step (turn_all k) f = record {
    passes = turn_passes T s.setting k [] s.built g.fresh g.condition tt low;
    known = record { env = all.env; values = all.values; callers = all.callers };
  }
  spared_step (receive r) f = spared_receive r
  spared_step (assign_to x is) f = spared_assign x is f.0
  spared_step (assign_in_turn xs) f = spared_still T s (flat_step (assign_in_turn xs) s) refl (known_in_turn (Spares T) (spares_variable T) xs s all)
  spared_step (update_to x is op) f = spared_update x is op f.0
  spared_step (end_name x) f = spared_still T s (bind x Absent s) refl (known_bind (Spares T) x Absent s (λ w t. refl) all)
  spared_step (end_compared x) f = spared_still T s (drop_last (bind x Absent s)) refl (known_drop (Spares T) (bind x Absent s) (known_bind (Spares T) x Absent s (λ w t. refl) all))
  spared_step enter_block f = spared_still T s (flat_step enter_block s) refl (known_enter_block (Spares T) s all)
  spared_step leave_block f = spared_still T s (flat_step leave_block s) refl (known_leave_block (Spares T) s all)
  spared_step (enter_body xs) f = spared_still T s (flat_step (enter_body xs) s) refl (known_enter (Spares T) (spares_variable T) xs s all)
  spared_step leave_body f = spared_back s.callers all.callers

  pub spared_mix : MayTurn s → Spared T s (on_wire had (last s) (drop_last s))
  spared_mix f = spared_gate had had_passes f

  pub spared_measured : MayMeasure s → Spared T s (measure_value (last s) (drop_last s))
  spared_measured f = spared_measure f
