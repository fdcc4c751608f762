-- No effect makes an input wire.
use Rattle.std.proofs.Common.{◌≡◌, ◌⊎◌, inl, inr, ℕ, ◌≤◌, ◌<◌, Bool, true, false, List, [], ◌∷◌, length, ℤ, Option, Some, None, refl, sym, ap, ◌∙◌, arith}
use Rattle.std.proofs.lemmas.Bool.{cases_lt}
use Rattle.std.proofs.lemmas.List.{get_or_past}
use Rattle.silq_mean.specs.Effect.{Effect, nothing, ◌>>◌, statement, step, mix, measure as measured, claim, choice, Step, give_static, give_typed, give_part, one_operand, two_operands, copy_last, repeat_last, flip_last, turn_by, turn_all, receive, assign_to, assign_in_turn, update_to, end_name, end_compared, enter_block, leave_block, enter_body, leave_body}
use Rattle.silq_tree.specs.declared.node.UnaryOp.{UnaryOp}
use Rattle.silq_tree.specs.declared.node.BinaryOp.{BinaryOp}
use Rattle.silq_tree.specs.declared.node.UpdateOp.{UpdateOp}
use Rattle.silq_mean.specs.declared.receiver.Receiver.{Receiver}
use Rattle.flat_core.specs.declared.step.WireId.{WireId}
use Rattle.flat_core.specs.declared.step.End.{End}
use Rattle.flat_core.specs.declared.step.End.TheVariants.{Measured, Zeroed}
use Rattle.flat_core.specs.Form.{DraftForm, WireForm}
use Rattle.flat_core.specs.Label.{wire_in, no_wire}
use Rattle.bit_arith.specs.declared.operand.Operand.{Operand}
use Rattle.bit_arith.specs.declared.operand.Operand.TheVariants.{Const, Literal}
use Rattle.bit_arith.specs.Built.{Built, Setting, new_wire, next_wire, negated}
use Rattle.bit_arith.specs.Rows.{flip, had, had_under, flip_each}
use Rattle.bit_arith.specs.Calls.{Targets, among}
use Rattle.flat_form.specs.declared.known.Known.{Known}
use Rattle.flat_form.specs.declared.known.Known.TheVariants.{Static, Shown, Lent, Absent}
use Rattle.flat_form.specs.State.{Caller, Flattening, last, drop_last, wires_in, wires_so_far, operands_of, typed_like, taken, only_wire}
use Rattle.flat_form.specs.Flat.{on_one, on_two_typed, as_operand, began_at, give_copy, give_repeated, on_wire, turn_both, end_all, measure_all, measure_value, receive_value, shape_for, update_variable, zero_variable, known_in, back_to, entered, enter_branch, chosen_by, first_branch, second_branch, count_statement, on_line, flat_step, flat}
use Rattle.flat_form.specs.Names.{AllOf}
use Rattle.flat_form.proofs.Later.{end_all_length}
use Rattle.flat_typed.specs.Footprint.{Touches}
use Rattle.flat_typed.proofs.Ordered.{clash}
use Rattle.flat_typed.proofs.Flipping.{Flips, MayFlip, flips_then, flips_flip, flips_each, flips_turn, flips_wires}
use Rattle.flat_typed.proofs.Touching.{flips_copied, flips_taken, flips_taken_for, flips_by_one, flips_by_two, flips_turn_both, flips_update}
use Rattle.flat_typed.proofs.Telling.{ends_touch, measures_only}

-- a wire that is an input later was one before
abbrev pub NoInput : DraftForm → DraftForm → Type 0
NoInput d e = (w : WireId) → (wire_in e.wires w).input ≡ true → (wire_in d.wires w).input ≡ true

none_same : (d : DraftForm) → NoInput d d
none_same d w i = i

none_then : (d e f : DraftForm) → NoInput d e → NoInput e f → NoInput d f
none_then d e f p q w i = p w (q w i)

past : (d : DraftForm) (w : WireId) → length d.wires ≤ w.number → (wire_in d.wires w).input ≡ false
past d w le = ap (λ (r : WireForm). r.input) (get_or_past d.wires w.number no_wire le)

none_flips : (T : Targets) (n : ℕ) (b e : Built) → Flips T n b e → NoInput b.draft e.draft
none_flips T n b e f w i = go (cases_lt w.number (length b.draft.wires)) (cases_lt w.number (length e.draft.wires))
  where
    go : (w.number < length b.draft.wires) ⊎ (length b.draft.wires ≤ w.number) → (w.number < length e.draft.wires) ⊎ (length e.draft.wires ≤ w.number) → (wire_in b.draft.wires w).input ≡ true
    go (inl lt) x = ap (λ (r : WireForm). r.input) (sym (f.wires w lt)) ∙ i
    go (inr le) (inl lt) = clash (sym i ∙ ap (λ (r : WireForm). r.input) (f.new w le lt))
    go (inr le) (inr ge) = clash (sym i ∙ past e.draft w ge)

-- steps that make no wire
none_touches : (T : Targets) (d e : DraftForm) → Touches T d e → length e.wires ≡ length d.wires → NoInput d e
none_touches T d e t l w i = go (t.inputs w)
  where
    go : ((wire_in e.wires w).input ≡ (wire_in d.wires w).input) ⊎ (length d.wires ≤ w.number) → (wire_in d.wires w).input ≡ true
    go (inl q) = sym q ∙ i
    go (inr le) = clash (sym i ∙ past e w (omega (arith, l, le)))

abbrev any : Targets
any w = false

may : (w : WireId) → MayFlip any 0 w
may w v lt = absurd (omega (arith, lt))

all_may : (ws : List WireId) → AllOf (MayFlip any 0) ws
all_may [] = tt
all_may (w ∷ ws) = (may w, all_may ws)

none_ends : (e : End) (ws : List WireId) (b : Built) → NoInput b.draft (end_all e ws b).draft
none_ends e ws b = none_touches (among ws) b.draft (end_all e ws b).draft (ends_touch (among ws) e ws b (λ w a. a)) (end_all_length e ws b)

none_measures : (at : Setting) (ws : List WireId) (b : Built) → NoInput b.draft (measure_all at ws b).draft
none_measures at ws b w i = ap (λ l. (wire_in l w).input) (sym (measures_only (among ws) at ws b (λ v a. a)).wires) ∙ i

none_had : (at : Setting) (w : WireId) (b : Built) → NoInput b.draft (had at w b).draft
unfolding had
none_had at w b = go at.condition
  where
    go : (c : Option Operand) → NoInput b.draft (had_under at c w b).draft
    go None v i = i
    go (Some (Const true)) v i = i
    go (Some (Const false)) v i = i
    go (Some (Literal l)) v i = i

-- ---- values

abbrev None_from : Flattening → Flattening → Type 0
None_from s u = NoInput s.built.draft u.built.draft

none_one : (op : UnaryOp) (k : Known) (s : Flattening) → None_from s (on_one op k s)
none_one op (Static z) s = none_same s.built.draft
none_one op Absent s = none_same s.built.draft
none_one op (Lent start size v) s = none_same s.built.draft
none_one op (Shown v) s = none_flips any 0 s.built _ (flips_by_one any 0 op s.setting v.operands s.built (omega arith))

none_two : (op : BinaryOp) (n : ℕ) (k l : Known) (s : Flattening) → None_from s (on_two_typed op n k l s)
none_two op n (Shown v) (Shown u) s = none_flips any 0 s.built _ (flips_by_two any 0 op v.shape s.setting v.operands u.operands s.built (omega arith))
none_two op n (Shown v) (Static z) s = none_same s.built.draft
none_two op n (Shown v) Absent s = none_same s.built.draft
none_two op n (Shown v) (Lent start size u) s = none_same s.built.draft
none_two op n (Static z) l s = none_same s.built.draft
none_two op n Absent l s = none_same s.built.draft
none_two op n (Lent start size u) l s = none_same s.built.draft

none_copy : (k : Known) (s : Flattening) → None_from s (give_copy k s)
none_copy (Static z) s = none_same s.built.draft
none_copy Absent s = none_same s.built.draft
none_copy (Lent start size v) s = none_same s.built.draft
none_copy (Shown v) s = none_flips any 0 s.built _ (flips_copied any 0 s.setting v.operands s.built (omega arith))

none_repeated : (k l : Known) (s : Flattening) → None_from s (give_repeated k l s)
none_repeated (Static z) (Shown v) s = none_flips any 0 s.built _ (flips_copied any 0 s.setting _ s.built (omega arith))
none_repeated (Static z) (Static y) s = none_same s.built.draft
none_repeated (Static z) Absent s = none_same s.built.draft
none_repeated (Static z) (Lent start size v) s = none_same s.built.draft
none_repeated (Shown v) l s = none_same s.built.draft
none_repeated Absent l s = none_same s.built.draft
none_repeated (Lent start size v) l s = none_same s.built.draft

none_wire : (gate : Setting → WireId → Built → Built) → ((at : Setting) (w : WireId) (b : Built) → NoInput b.draft (gate at w b).draft) → (k : Known) (s : Flattening) → None_from s (on_wire gate k s)
none_wire gate h (Static z) s = none_same s.built.draft
none_wire gate h Absent s = none_same s.built.draft
none_wire gate h (Lent start size v) s = none_same s.built.draft
none_wire gate h (Shown v) s =
    let t = taken s.setting v s.built in
    none_then s.built.draft t.built.draft (gate s.setting (only_wire t.answer) t.built).draft (none_flips any 0 s.built t.built (flips_taken any 0 s.setting v s.built (omega arith))) (h s.setting (only_wire t.answer) t.built)

none_receive : (r : Receiver) (k : Known) (s : Flattening) → None_from s (receive_value r k s)
none_receive r (Static z) s = none_same s.built.draft
none_receive r Absent s = none_same s.built.draft
none_receive r (Lent start size v) s = none_same s.built.draft
none_receive r (Shown v) s = none_flips any 0 s.built _ (flips_taken_for any 0 r s.setting v s.built (omega arith))

none_update : (k : Known) (is : List ℤ) (op : UpdateOp) (l : Known) (s : Flattening) → None_from s (update_variable k is op l s)
none_update (Static z) is op l s = none_same s.built.draft
none_update Absent is op l s = none_same s.built.draft
none_update (Lent start size v) is op l s = none_same s.built.draft
none_update (Shown v) is op l s = none_flips any 0 s.built _ (flips_update any 0 op s.setting _ _ s.built (omega arith) (all_may _))

none_zero : (k l : Known) (s : Flattening) → None_from s (zero_variable k l s)
none_zero (Static z) l s = none_same s.built.draft
none_zero Absent l s = none_same s.built.draft
none_zero (Lent start size v) l s = none_same s.built.draft
none_zero (Shown v) l s =
    let ps = operands_of (typed_like 0 (Shown v) l) in
    let b = flip_each s.setting (wires_in v.operands) ps s.built in
    none_then s.built.draft b.draft (end_all Zeroed (wires_in v.operands) b).draft (none_flips any 0 s.built b (flips_each any 0 s.setting (wires_in v.operands) ps s.built (omega arith) (all_may (wires_in v.operands)))) (none_ends Zeroed (wires_in v.operands) b)

none_measure : (k : Known) (s : Flattening) → None_from s (measure_value k s)
none_measure (Static z) s = none_same s.built.draft
none_measure Absent s = none_same s.built.draft
none_measure (Lent start size v) s = none_same s.built.draft
none_measure (Shown v) s =
    let t = taken s.setting v s.built in
    let ws = wires_in t.answer in
    let b = measure_all s.setting ws t.built in
    none_then s.built.draft t.built.draft (end_all Measured ws b).draft (none_flips any 0 s.built t.built (flips_taken any 0 s.setting v s.built (omega arith)))
    (none_then t.built.draft b.draft (end_all Measured ws b).draft (none_measures s.setting ws t.built) (none_ends Measured ws b))

none_back : (s : Flattening) (cs : List Caller) → None_from s (back_to s cs)
none_back s [] = none_same s.built.draft
none_back s (c ∷ cs) = none_same s.built.draft

-- ---- steps

pub none_step : (st : Step) (s : Flattening) → None_from s (flat_step st s)
none_step (give_static z) s = none_same s.built.draft
none_step (give_typed k z) s = none_same s.built.draft
none_step (give_part need x is) s = none_same s.built.draft
none_step (one_operand op) s = none_one op (last s) (drop_last s)
none_step (two_operands op) s =
    none_two op (began_at (last (drop_last s)) (last s)) (as_operand (last s) (last (drop_last s))) (as_operand (last (drop_last s)) (last s)) (drop_last (drop_last s))
none_step copy_last s = none_copy (last s) (drop_last s)
none_step repeat_last s = none_repeated (last (drop_last s)) (last s) (drop_last (drop_last s))
none_step flip_last s = none_wire (λ at w b. flip at w [] b) (λ at w b. none_flips any 0 b _ (flips_flip any 0 at w [] b (omega arith) (may w))) (last s) (drop_last s)
none_step (turn_by k l) s = none_wire (turn_both k l) (λ at w b. none_flips any 0 b _ (flips_turn_both any 0 k l at w b (omega arith))) (last s) (drop_last s)
none_step (turn_all k) s = none_flips any 0 s.built _ (flips_turn any 0 s.setting k [] s.built (omega arith))
none_step (receive r) s = none_receive r (shape_for r (wires_so_far s) (last s)) (drop_last s)
none_step (assign_to x is) s = none_same s.built.draft
none_step (assign_in_turn xs) s = none_same s.built.draft
none_step (update_to x is op) s = none_update (known_in s x) is op (last s) s
none_step (end_name x) s = none_same s.built.draft
none_step (end_compared x) s = none_same s.built.draft
none_step enter_block s = none_same s.built.draft
none_step leave_block s = none_same s.built.draft
none_step (enter_body xs) s = none_same s.built.draft
none_step leave_body s = none_back s s.callers

-- ---- effects

none_entered : (line : ℕ) (outer : Option Operand) (c : Operand) (b : Built) → NoInput b.draft (entered (record { line = line; condition = outer }) c b).built.draft
none_entered line None c b = none_same b.draft
none_entered line (Some outer) c b =
    none_flips any 0 b (flip (record { line = line; condition = Some outer }) (next_wire b) (c ∷ []) (new_wire b))
    (flips_then any 0 (flips_wires any 0 1 b) (flips_flip any 0 (record { line = line; condition = Some outer }) (next_wire b) (c ∷ []) (new_wire b) (omega arith) (may (next_wire b))))

none_branch : (c : Operand) (s : Flattening) → None_from s (enter_branch c s)
none_branch c s = none_entered s.setting.line s.setting.condition c s.built

pub none_effect : (e : Effect) (s : Flattening) → None_from s (flat e s)
none_effect nothing s = none_same s.built.draft
none_effect (a >> b) s = none_then s.built.draft (flat a s).built.draft (flat b (flat a s)).built.draft (none_effect a s) (none_effect b (flat a s))
none_effect (statement line e) s = none_effect e (on_line line (count_statement s))
none_effect (step st) s = none_step st s
none_effect mix s = none_wire had none_had (last s) (drop_last s)
none_effect measured s = none_measure (last s) (drop_last s)
none_effect (claim line x) s = none_zero (known_in s x) (last s) s
none_effect (choice a b) s =
    let first = first_branch s in
    let one = flat a first in
    let second = second_branch one s in
    none_then s.built.draft one.built.draft (flat b second).built.draft
    (none_then s.built.draft first.built.draft one.built.draft (none_branch (chosen_by s) (drop_last s)) (none_effect a first))
    (none_then one.built.draft second.built.draft (flat b second).built.draft (none_branch (negated (chosen_by s)) (record (drop_last s) { built = one.built; statements = one.statements })) (none_effect b second))

-- what is not made yet is no input later
pub later_none : (e : Effect) (s : Flattening) (w : WireId) → wires_so_far s ≤ w.number → (wire_in (flat e s).built.draft.wires w).input ≡ false
later_none e s w le = go ((wire_in (flat e s).built.draft.wires w).input) refl
  where
    go : (b : Bool) → (wire_in (flat e s).built.draft.wires w).input ≡ b → b ≡ false
    go false q = refl
    go true q = sym (none_effect e s w q) ∙ past s.built.draft w le
