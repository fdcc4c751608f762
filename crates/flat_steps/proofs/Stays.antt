-- A limit that was passed stays the first that was passed.
use Rattle.std.proofs.Common.{◌≡◌, ℕ, Bool, true, false, cond, not, ◌||◌, List, [], ◌∷◌, length, Option, Some, None, ℤ, replicate, refl}
use Rattle.silq_tree.specs.declared.node.UnaryOp.{UnaryOp}
use Rattle.silq_tree.specs.declared.node.UnaryOp.TheVariants.{Not, Neg}
use Rattle.silq_tree.specs.declared.node.BinaryOp.{BinaryOp}
use Rattle.silq_tree.specs.declared.node.BinaryOp.TheVariants.{Or, And, Eq, Ne, Lt, Le, Gt, Ge, Add, Sub, Mul, Div}
use Rattle.silq_tree.specs.declared.node.UpdateOp.{UpdateOp}
use Rattle.silq_tree.specs.declared.node.UpdateOp.TheVariants as updates
use Rattle.silq_types.specs.declared.types.Shape.{Shape}
use Rattle.silq_types.specs.Calls.{is_consumed}
use Rattle.silq_io.specs.declared.limit.LimitFault.{LimitFault}
use Rattle.silq_io.specs.declared.limit.LimitFault.TheVariants.{Memory, Limit}
use Rattle.silq_io.specs.declared.limit.OverLimit.{OverLimit}
use Rattle.silq_mean.specs.declared.receiver.Receiver.{Receiver}
use Rattle.silq_mean.specs.declared.receiver.Receiver.TheVariants.{Variable, Argument, CallResult, EntryOutput}
use Rattle.silq_mean.specs.Effect.{Effect, nothing, ◌>>◌, statement, step, mix, measure as measured, claim, choice, Step, give_static, give_typed, give_part, one_operand, two_operands, copy_last, repeat_last, flip_last, turn_by, turn_all, receive, assign_to, assign_in_turn, update_to, end_name, end_compared, enter_block, leave_block, enter_body, leave_body}
use Rattle.flat_core.specs.declared.step.WireId.{WireId}
use Rattle.flat_core.specs.declared.step.End.{End}
use Rattle.flat_core.specs.declared.step.End.TheVariants.{Measured, Zeroed}
use Rattle.flat_core.specs.Drafts.{with_end}
use Rattle.bit_arith.specs.declared.operand.Operand.{Operand}
use Rattle.bit_arith.specs.declared.operand.Operand.TheVariants.{Const}
use Rattle.bit_arith.specs.Built.{Built, Setting, Given, or_later, new_wire, next_wire, made, negated}
use Rattle.bit_arith.specs.Rows.{flip, turn, had, measure}
use Rattle.bit_arith.specs.Calls.{Refused}
use Rattle.bit_arith.proofs.Grows.{XGrows, new_wire_x, flip_x, turn_x, had_x, measure_grows}
use Rattle.bit_arith.proofs.Keeps.{copy_x, flip_each_x, sum_x, difference_x, product_x, add_into_x, sub_into_x, both_x, either_x, equal_x, less_x}
use Rattle.flat_form.specs.declared.known.TypedBits.{TypedBits}
use Rattle.flat_form.specs.declared.known.Known.{Known}
use Rattle.flat_form.specs.declared.known.Known.TheVariants.{Static, Shown, Lent, Absent}
use Rattle.flat_form.specs.State.{Caller, Flattening, last, drop_last, wires_so_far, operands_of, is_signed, typed_as, typed_like, part_shape, part_of, are_wires, are_new, as_they_are, copied, taken, kept, wires_in, only_wire, only_operand}
use Rattle.flat_form.specs.Flat.{by_one, by_two, on_one, on_two_typed, began_at, as_operand, give_copy, give_repeated, on_wire, turn_both, end_all, measure_all, measure_value, shape_for, taken_for, receive_value, known_in, update_by, update_variable, zero_variable, back_to, flat_step, count_statement, on_line, entered, enter_branch, chosen_by, first_branch, second_branch, flat}

-- what went above a limit first did so before
pub record Stays (b e : Built) : Type 0 where
  pub on : (o : OverLimit) → b.over ≡ Some o → e.over ≡ Some o

same : (b : Built) → Stays b b
same b = record { on = λ o h. h }

on_to : {b m e : Built} → Stays b m → Stays m e → Stays b e
on_to g h = record { on = λ o is. h.on o (g.on o is) }

grown : {b e : Built} → XGrows b e → Stays b e
grown g = record { on = g.grows.stays }

either_way : (t : Bool) (b : Built) (g h : Given (List Operand)) → Stays b g.built → Stays b h.built → Stays b (cond t g h).built
either_way true b g h x y = x
either_way false b g h x y = y

-- ---- what takes values over

copied_stays : (at : Setting) (ps : List Operand) (b : Built) → Stays b (copied at ps b).built
copied_stays at ps b = grown (copy_x at ps b)

taken_stays : (at : Setting) (v : TypedBits) (b : Built) → Stays b (taken at v b).built
taken_stays at v b =
    either_way (v.own || are_new b.draft v.began v.operands) b (as_they_are v.operands b) (copied at v.operands b) (same b) (copied_stays at v.operands b)

kept_stays : (at : Setting) (v : TypedBits) (b : Built) → Stays b (kept at v b).built
kept_stays at v b = either_way (are_wires v.operands) b (as_they_are v.operands b) (copied at v.operands b) (same b) (copied_stays at v.operands b)

taken_for_stays : (r : Receiver) (at : Setting) (v : TypedBits) (b : Built) → Stays b (taken_for r at v b).built
taken_for_stays Variable at v b = either_way v.classical b (kept at v b) (taken at v b) (kept_stays at v b) (taken_stays at v b)
taken_for_stays (Argument need t) at v b =
    either_way (not (is_consumed need) || t.classical) b (kept at v b) (taken at v b) (kept_stays at v b) (taken_stays at v b)
taken_for_stays (CallResult t) at v b = taken_stays at v b
taken_for_stays (EntryOutput t) at v b = either_way (t.classical || v.classical) b (copied at v.operands b) (taken at v b) (copied_stays at v.operands b) (taken_stays at v b)

receive_stays : (r : Receiver) (k : Known) (s : Flattening) → Stays s.built (receive_value r k s).built
receive_stays r (Static z) s = same s.built
receive_stays r (Shown v) s = taken_for_stays r s.setting v s.built
receive_stays r (Lent start size v) s = same s.built
receive_stays r Absent s = same s.built

-- ---- operators

by_one_stays : (op : UnaryOp) (at : Setting) (ps : List Operand) (b : Built) → Stays b (by_one op at ps b).built
by_one_stays Not at ps b = same b
by_one_stays Neg at ps b = grown (difference_x at (replicate (length ps) (Const false)) ps b)

by_two_stays : (op : BinaryOp) (t : Shape) (at : Setting) (ps qs : List Operand) (b : Built) → Stays b (by_two op t at ps qs b).built
by_two_stays Or t at ps qs b = grown (either_x at (only_operand ps) (only_operand qs) b)
by_two_stays And t at ps qs b = grown (both_x at (only_operand ps) (only_operand qs) b)
by_two_stays Eq t at ps qs b = grown (equal_x at ps qs b)
by_two_stays Ne t at ps qs b = grown (equal_x at ps qs b)
by_two_stays Lt t at ps qs b = grown (less_x at (is_signed t) ps qs b)
by_two_stays Gt t at ps qs b = grown (less_x at (is_signed t) qs ps b)
by_two_stays Le t at ps qs b = grown (less_x at (is_signed t) qs ps b)
by_two_stays Ge t at ps qs b = grown (less_x at (is_signed t) ps qs b)
by_two_stays Add t at ps qs b = grown (sum_x at ps qs b)
by_two_stays Sub t at ps qs b = grown (difference_x at ps qs b)
by_two_stays Mul t at ps qs b = grown (product_x at ps qs b)
by_two_stays Div t at ps qs b = same b

on_one_stays : (op : UnaryOp) (k : Known) (s : Flattening) → Stays s.built (on_one op k s).built
on_one_stays op (Static z) s = same s.built
on_one_stays op (Shown v) s = by_one_stays op s.setting v.operands s.built
on_one_stays op (Lent start size v) s = same s.built
on_one_stays op Absent s = same s.built

on_two_stays : (op : BinaryOp) (began : ℕ) (k l : Known) (s : Flattening) → Stays s.built (on_two_typed op began k l s).built
on_two_stays op began (Static z) l s = same s.built
on_two_stays op began (Shown v) (Static z) s = same s.built
on_two_stays op began (Shown v) (Shown w) s = by_two_stays op v.shape s.setting v.operands w.operands s.built
on_two_stays op began (Shown v) (Lent start size w) s = same s.built
on_two_stays op began (Shown v) Absent s = same s.built
on_two_stays op began (Lent start size v) l s = same s.built
on_two_stays op began Absent l s = same s.built

copy_stays : (k : Known) (s : Flattening) → Stays s.built (give_copy k s).built
copy_stays (Static z) s = same s.built
copy_stays (Shown v) s = copied_stays s.setting v.operands s.built
copy_stays (Lent start size v) s = same s.built
copy_stays Absent s = same s.built

repeated_stays : (k l : Known) (s : Flattening) → Stays s.built (give_repeated k l s).built
repeated_stays (Static z) (Static y) s = same s.built
repeated_stays (Static z) (Shown v) s = grown (copy_x s.setting _ s.built)
repeated_stays (Static z) (Lent start size v) s = same s.built
repeated_stays (Static z) Absent s = same s.built
repeated_stays (Shown v) l s = same s.built
repeated_stays (Lent start size v) l s = same s.built
repeated_stays Absent l s = same s.built

-- ---- gates

on_wire_stays : (gate : Setting → WireId → Built → Built) → ((at : Setting) (w : WireId) (b : Built) → Stays b (gate at w b)) → (k : Known) (s : Flattening) → Stays s.built (on_wire gate k s).built
on_wire_stays gate g (Static z) s = same s.built
on_wire_stays gate g (Shown v) s =
    let t : Given (List Operand) = taken s.setting v s.built in on_to (taken_stays s.setting v s.built) (g s.setting (only_wire t.answer) t.built)
on_wire_stays gate g (Lent start size v) s = same s.built
on_wire_stays gate g Absent s = same s.built

pub end_all_stays : (e : End) (ws : List WireId) (b : Built) → Stays b (end_all e ws b)
end_all_stays e [] b = same b
end_all_stays e (w ∷ ws) b = record { on = λ o h. (end_all_stays e ws (record b { draft = with_end b.draft w e })).on o h }

measure_all_stays : (at : Setting) (ws : List WireId) (b : Built) → Stays b (measure_all at ws b)
measure_all_stays at [] b = same b
measure_all_stays at (w ∷ ws) b = record { on = λ o h. (measure_all_stays at ws (measure at w b)).on o ((measure_grows at w b).stays o h) }

measure_stays : (k : Known) (s : Flattening) → Stays s.built (measure_value k s).built
measure_stays (Static z) s = same s.built
measure_stays (Shown v) s =
    let t : Given (List Operand) = taken s.setting v s.built in
    let ws : List WireId = wires_in t.answer in
    on_to (taken_stays s.setting v s.built) (on_to (measure_all_stays s.setting ws t.built) (end_all_stays Measured ws (measure_all s.setting ws t.built)))
measure_stays (Lent start size v) s = same s.built
measure_stays Absent s = same s.built

-- ---- updates

update_by_stays : (op : UpdateOp) (at : Setting) (ws : List WireId) (ps : List Operand) (b : Built) → Stays b (update_by op at ws ps b)
update_by_stays updates.Add at ws ps b = grown (add_into_x at ws ps b)
update_by_stays updates.Sub at ws ps b = grown (sub_into_x at ws ps b)
update_by_stays updates.Xor at ws ps b = grown (flip_each_x at ws ps b)

update_stays : (target : Known) (is : List ℤ) (op : UpdateOp) (k : Known) (s : Flattening) → Stays s.built (update_variable target is op k s).built
update_stays (Static z) is op k s = same s.built
update_stays (Shown v) is op k s =
    update_by_stays op s.setting (wires_in (part_of v.shape is v.operands)) (operands_of (typed_as 0 (part_shape v.shape is) k)) s.built
update_stays (Lent start size v) is op k s = same s.built
update_stays Absent is op k s = same s.built

zero_stays : (target k : Known) (s : Flattening) → Stays s.built (zero_variable target k s).built
zero_stays (Static z) k s = same s.built
zero_stays (Shown v) k s =
    let ws : List WireId = wires_in v.operands in
    on_to (grown (flip_each_x s.setting ws (operands_of (typed_like 0 (Shown v) k)) s.built)) (end_all_stays Zeroed ws _)
zero_stays (Lent start size v) k s = same s.built
zero_stays Absent k s = same s.built

-- ---- steps

back_stays : (cs : List Caller) (s : Flattening) → Stays s.built (back_to s cs).built
back_stays [] s = same s.built
back_stays (c ∷ cs) s = same s.built

step_stays : (st : Step) (s : Flattening) → Stays s.built (flat_step st s).built
step_stays (give_static z) s = same s.built
step_stays (give_typed k z) s = same s.built
step_stays (give_part need x is) s = same s.built
step_stays (one_operand op) s = on_one_stays op (last s) (drop_last s)
step_stays (two_operands op) s =
    let k : Known = last (drop_last s) in
    let l : Known = last s in
    on_two_stays op (began_at k l) (as_operand l k) (as_operand k l) (drop_last (drop_last s))
step_stays copy_last s = copy_stays (last s) (drop_last s)
step_stays repeat_last s = repeated_stays (last (drop_last s)) (last s) (drop_last (drop_last s))
step_stays flip_last s = on_wire_stays (λ at w b. flip at w [] b) (λ at w b. grown (flip_x at w [] b)) (last s) (drop_last s)
step_stays (turn_by k l) s =
    on_wire_stays (turn_both k l)
    (λ at w b. on_to (grown (turn_x at l (negated (made w) ∷ []) b)) (grown (turn_x at k (made w ∷ []) (turn at l (negated (made w) ∷ []) b))))
    (last s) (drop_last s)
step_stays (turn_all k) s = grown (turn_x s.setting k [] s.built)
step_stays (receive r) s = receive_stays r (shape_for r (wires_so_far s) (last s)) (drop_last s)
step_stays (assign_to x is) s = same s.built
step_stays (assign_in_turn xs) s = same s.built
step_stays (update_to x is op) s = update_stays (known_in s x) is op (last s) s
step_stays (end_name x) s = same s.built
step_stays (end_compared x) s = same s.built
step_stays enter_block s = same s.built
step_stays leave_block s = same s.built
step_stays (enter_body xs) s = same s.built
step_stays leave_body s = back_stays s.callers s

-- ---- effects

later_stays : (o later : Option OverLimit) (over : OverLimit) → o ≡ Some over → or_later o later ≡ Some over
later_stays o later over h = rw h refl

count_stays : (s : Flattening) → Stays s.built (count_statement s).built
count_stays s = record { on = λ o h. later_stays s.built.over _ o h }

entered_stays : (line : ℕ) (outer : Option Operand) (c : Operand) (b : Built) → Stays b (entered (record { line = line; condition = outer }) c b).built
entered_stays line None c b = same b
entered_stays line (Some outer) c b =
    on_to (grown (new_wire_x b)) (grown (flip_x (record { line = line; condition = Some outer }) (next_wire b) (c ∷ []) (new_wire b)))

branch_stays : (c : Operand) (s : Flattening) → Stays s.built (enter_branch c s).built
branch_stays c s = entered_stays s.setting.line s.setting.condition c s.built

flat_stays : (e : Effect) (s : Flattening) → Stays s.built (flat e s).built
flat_stays nothing s = same s.built
flat_stays (a >> b) s = on_to (flat_stays a s) (flat_stays b (flat a s))
flat_stays (statement line e) s = on_to (count_stays s) (flat_stays e (on_line line (count_statement s)))
flat_stays (step st) s = step_stays st s
flat_stays mix s = on_wire_stays had (λ at w b. grown (had_x at w b)) (last s) (drop_last s)
flat_stays measured s = measure_stays (last s) (drop_last s)
flat_stays (claim line x) s = zero_stays (known_in s x) (last s) s
flat_stays (choice a b) s =
    let one : Flattening = first_branch s in
    let two : Flattening = second_branch (flat a one) s in
    on_to (branch_stays (chosen_by s) (drop_last s)) (on_to (flat_stays a one) (on_to (second_stays (flat a one) s) (flat_stays b two)))
  where
    second_stays : (one s : Flattening) → Stays one.built (second_branch one s).built
    second_stays one s = branch_stays (negated (chosen_by s)) (record (drop_last s) { built = one.built; statements = one.statements })

-- a limit that was passed stays the first that was passed
pub stays : (e : Effect) (s : Flattening) (o : OverLimit) → s.built.over ≡ Some o → (flat e s).built.over ≡ Some o
stays e s o h = (flat_stays e s).on o h

-- what refuses a row refuses what goes on from it
pub refused_on : (f : LimitFault) (b e : Built) → Stays b e → Refused f b → Refused f e
refused_on Memory b e g h = tt
refused_on (Limit over) b e g h = g.on over h

-- what refuses an effect refuses what would come after it
pub refused_first : (f : LimitFault) (a b : Effect) (s : Flattening) → Refused f (flat a s).built → Refused f (flat (a >> b) s).built
refused_first Memory a b s h = tt
refused_first (Limit over) a b s h = stays b (flat a s) over h
