-- The flat form of a program, read off what the program does: step by step, in the order of the text.
use Rattle.std.specs.Prelude.{ℕ, suc, Bool, true, false, cond, not, ◌&&◌, ◌||◌, List, [], ◌∷◌, ◌++◌, length, map, flat_map, replicate, reverse, take, drop, Option, Some, None, ℤ, nat_abs, nat_lt}
use Rattle.silq_tree.specs.declared.node.NameId.{NameId}
use Rattle.silq_tree.specs.declared.node.UnaryOp.{UnaryOp}
use Rattle.silq_tree.specs.declared.node.UnaryOp.TheVariants.{Not, Neg}
use Rattle.silq_tree.specs.declared.node.BinaryOp.{BinaryOp}
use Rattle.silq_tree.specs.declared.node.BinaryOp.TheVariants.{Or, And, Eq, Ne, Lt, Le, Gt, Ge, Add, Sub, Mul, Div}
use Rattle.silq_tree.specs.declared.node.UpdateOp.{UpdateOp}
use Rattle.silq_tree.specs.declared.node.UpdateOp.TheVariants as updates
use Rattle.silq_types.specs.declared.types.Shape.{Shape}
use Rattle.silq_types.specs.declared.types.Shape.TheVariants.{Bit, UInt, Int, Array}
use Rattle.silq_types.specs.declared.types.Scalar.TheVariants as scalars
use Rattle.silq_types.specs.Types.{shape_bits}
use Rattle.silq_types.specs.declared.need.Need.{Need}
use Rattle.silq_types.specs.Calls.{is_consumed}
use Rattle.silq_io.specs.declared.limit.OverLimit.{OverLimit}
use Rattle.silq_io.specs.declared.limit.LimitKind.TheVariants.{Inlined}
use Rattle.silq_mean.specs.Env.{Env, Block, found, in_its_block, bound}
use Rattle.silq_mean.specs.declared.receiver.Receiver.{Receiver}
use Rattle.silq_mean.specs.declared.receiver.Receiver.TheVariants.{Variable, Argument, CallResult, EntryOutput}
use Rattle.silq_mean.specs.Effect.{Effect, nothing, ◌>>◌, statement, step, mix, measure as measured, claim, choice, Step, give_static, give_typed, give_part, one_operand, two_operands, copy_last, repeat_last, flip_last, turn_by, turn_all, receive, assign_to, assign_in_turn, update_to, end_name, end_compared, enter_block, leave_block, enter_body, leave_body, most_inlined}
use Rattle.silq_mean.specs.Table.{Job}
use Rattle.flat_core.specs.declared.step.WireId.{WireId}
use Rattle.flat_core.specs.declared.step.End.{End}
use Rattle.flat_core.specs.declared.step.End.TheVariants.{Output, Measured, Zeroed}
use Rattle.flat_core.specs.Form.{FlatForm}
use Rattle.flat_core.specs.Drafts.{empty_draft, with_wire, with_end, finished, over_by_wire}
use Rattle.bit_arith.specs.declared.operand.Operand.{Operand}
use Rattle.bit_arith.specs.declared.operand.Operand.TheVariants.{Const, Literal}
use Rattle.bit_arith.specs.Built.{Built, Setting, Given, begun, or_later, new_wire, next_wire, wires_from, made, all_made, negated, read}
use Rattle.bit_arith.specs.Rows.{flip, turn, had, measure, flip_each, sum, difference, product, add_into, sub_into, both, either, equal, less}
use Rattle.flat_form.specs.declared.known.TypedBits.{TypedBits}
use Rattle.flat_form.specs.declared.known.Known.{Known}
use Rattle.flat_form.specs.declared.known.Known.TheVariants.{Static, Shown, Lent, Absent}
use Rattle.flat_form.specs.State.{Caller, Flattening, began_or, push, last, drop_last, wires_so_far, build, operands_of, is_signed, typed, typed_as, typed_like, part_shape, part_start, part_of, with_part, as_they_are, copied, taken, kept, wires_in, only_wire, only_operand}

-- ---- operators

abbrev pub negative : Setting → List Operand → Built → Given (List Operand)
negative at ps b = difference at (replicate (length ps) (Const false)) ps b

abbrev pub by_one : UnaryOp → Setting → List Operand → Built → Given (List Operand)
by_one Not at ps b = as_they_are (map negated ps) b
by_one Neg at ps b = negative at ps b

abbrev pub alone : Given Operand → Given (List Operand)
alone g = record { answer = g.answer ∷ []; built = g.built }

abbrev pub opposite : Given Operand → Given (List Operand)
opposite g = record { answer = negated g.answer ∷ []; built = g.built }

abbrev pub by_two : BinaryOp → Shape → Setting → List Operand → List Operand → Built → Given (List Operand)
by_two Or s at ps qs b = alone (either at (only_operand ps) (only_operand qs) b)
by_two And s at ps qs b = alone (both at (only_operand ps) (only_operand qs) b)
by_two Eq s at ps qs b = alone (equal at ps qs b)
by_two Ne s at ps qs b = opposite (equal at ps qs b)
by_two Lt s at ps qs b = alone (less at (is_signed s) ps qs b)
by_two Gt s at ps qs b = alone (less at (is_signed s) qs ps b)
by_two Le s at ps qs b = opposite (less at (is_signed s) qs ps b)
by_two Ge s at ps qs b = opposite (less at (is_signed s) ps qs b)
by_two Add s at ps qs b = sum at ps qs b
by_two Sub s at ps qs b = difference at ps qs b
by_two Mul s at ps qs b = product at ps qs b
by_two Div s at ps qs b = as_they_are [] b

-- the type of an operator's value
abbrev pub shape_by : BinaryOp → Shape → Shape
shape_by Add s = s
shape_by Sub s = s
shape_by Mul s = s
shape_by op s = Bit

abbrev pub shape_by_one : UnaryOp → Shape → Shape
shape_by_one Not s = Bit
shape_by_one Neg s = s

-- the last value, or the last two, give way to a new one
abbrev pub give : Bool → Shape → Bool → ℕ → Given (List Operand) → Flattening → Flattening
give classical s own began g t = push (Shown (record { classical = classical; shape = s; operands = g.answer; own = own; began = began })) (build g.built t)

abbrev pub on_one : UnaryOp → Known → Flattening → Flattening
on_one op (Shown v) s = give v.classical (shape_by_one op v.shape) false v.began (by_one op s.setting v.operands s.built) s
on_one op k s = push Absent s

abbrev pub on_two_typed : BinaryOp → ℕ → Known → Known → Flattening → Flattening
on_two_typed op began (Shown v) (Shown w) s = give (v.classical && w.classical) (shape_by op v.shape) false began (by_two op v.shape s.setting v.operands w.operands s.built) s
on_two_typed op began k l s = push Absent s

-- where the expression of the first of two values began; a static one made no wires
abbrev pub began_at : Known → Known → ℕ
began_at (Shown v) l = v.began
began_at k (Shown w) = w.began
began_at k l = 0

-- a static operand counts as no quantum one
abbrev pub as_operand : Known → Known → Known
as_operand other (Static z) = with_class_of other (typed_like 0 other (Static z))
  where
    with_class_of : Known → Known → Known
    with_class_of (Shown v) (Shown w) = Shown (record w { classical = v.classical })
    with_class_of k l = l
as_operand other k = k

abbrev pub on_two : BinaryOp → Known → Known → Flattening → Flattening
on_two op k l s = on_two_typed op (began_at k l) (as_operand l k) (as_operand k l) s

-- `dup`, and `vector`, whose first value says how often
abbrev pub give_copy : Known → Flattening → Flattening
give_copy (Shown v) s = give false v.shape false v.began (copied s.setting v.operands s.built) s
give_copy k s = push Absent s

abbrev pub array_of : Shape → ℕ → Shape
array_of Bit n = Array scalars.Bit n
array_of (UInt w) n = Array (scalars.UInt w) n
array_of (Int w) n = Array (scalars.Int w) n
array_of (Array k m) n = Array k m

abbrev pub repeated : ℕ → List Operand → List Operand
repeated n ps = flat_map (λ qs. qs) (replicate n ps)

abbrev pub give_repeated : Known → Known → Flattening → Flattening
give_repeated (Static n) (Shown v) s = give false (array_of v.shape (nat_abs n)) false v.began (copied s.setting (repeated (nat_abs n) v.operands) s.built) s
give_repeated k l s = push Absent s

-- ---- gates

-- a gate takes its value, works on the wire and gives it on
abbrev pub on_wire : (Setting → WireId → Built → Built) → Known → Flattening → Flattening
on_wire gate (Shown v) s =
    let t = taken s.setting v s.built in
    give false v.shape true v.began (record { answer = t.answer; built = gate s.setting (only_wire t.answer) t.built }) s
on_wire gate k s = push Absent s

abbrev pub on_last_wire : (Setting → WireId → Built → Built) → Flattening → Flattening
on_last_wire gate s = on_wire gate (last s) (drop_last s)

abbrev pub turn_both : ℕ → ℕ → Setting → WireId → Built → Built
turn_both k l at w b = turn at k (made w ∷ []) (turn at l (negated (made w) ∷ []) b)

abbrev pub end_all : End → List WireId → Built → Built
end_all e [] b = b
end_all e (w ∷ ws) b = end_all e ws (record b { draft = with_end b.draft w e })

abbrev pub measure_all : Setting → List WireId → Built → Built
measure_all at [] b = b
measure_all at (w ∷ ws) b = measure_all at ws (measure at w b)

abbrev pub measure_value : Known → Flattening → Flattening
measure_value (Shown v) s =
    let t = taken s.setting v s.built in
    let b = end_all Measured (wires_in t.answer) (measure_all s.setting (wires_in t.answer) t.built) in
    give true v.shape false v.began (record { answer = t.answer; built = b }) s
measure_value k s = push Absent s

-- ---- what takes values over

abbrev pub shape_for : Receiver → ℕ → Known → Known
shape_for Variable n k = k
shape_for (Argument need t) n k = typed_as n t.shape k
shape_for (CallResult t) n k = typed_as n t.shape k
shape_for (EntryOutput t) n k = typed_as n t.shape k

abbrev pub taken_for : Receiver → Setting → TypedBits → Built → Given (List Operand)
taken_for Variable at v b = cond v.classical (kept at v b) (taken at v b)
taken_for (Argument need t) at v b = cond (not (is_consumed need) || t.classical) (kept at v b) (taken at v b)
taken_for (CallResult t) at v b = taken at v b
taken_for (EntryOutput t) at v b = cond (t.classical || v.classical) (copied at v.operands b) (taken at v b)

abbrev pub class_for : Receiver → TypedBits → Bool
class_for Variable v = v.classical
class_for (Argument need t) v = t.classical
class_for (CallResult t) v = t.classical
class_for (EntryOutput t) v = t.classical

-- where the expression of a value that is taken over began: that of a call's result where the call began
abbrev pub began_for : Receiver → TypedBits → List Caller → ℕ
began_for (CallResult t) v cs = began_or v.began cs
began_for r v cs = v.began

abbrev pub receive_value : Receiver → Known → Flattening → Flattening
receive_value r (Shown v) s = give (class_for r v) v.shape true (began_for r v s.callers) (taken_for r s.setting v s.built) s
receive_value r k s = push k s

-- ---- variables

-- a variable does not say where the expression of its value began
abbrev pub as_variable : Known → Known
as_variable (Shown v) = Shown (record v { began = 0 })
as_variable k = k

abbrev pub bind : NameId → Known → Flattening → Flattening
bind x k s = record s { env = bound s.env x (as_variable k) }

-- the name shows nothing
abbrev pub without_name : NameId → Flattening → Flattening
without_name x s = record s { env = in_its_block s.env x Absent }

abbrev pub known_in : Flattening → NameId → Known
known_in s x = found Absent s.env x

abbrev pub part_used : ℕ → Need → List ℤ → TypedBits → Known
part_used n need is v =
    Shown (record { classical = v.classical; shape = part_shape v.shape is; operands = part_of v.shape is v.operands; own = is_consumed need && not v.classical; began = n })

abbrev pub use_part : ℕ → Need → List ℤ → Known → Known
use_part n need is (Shown v) = part_used n need is v
use_part n need is (Lent start size v) = part_used n need is v
use_part n need is k = k

-- a quantum variable in a consumed use is moved, a part of one is lent
abbrev pub moved : List ℤ → TypedBits → Known
moved [] v = Absent
moved (i ∷ is) v = Lent (part_start v.shape (i ∷ is)) (shape_bits (part_shape v.shape (i ∷ is))) v

abbrev pub after_use : Need → List ℤ → Known → Known
after_use need is (Shown v) = cond (is_consumed need && not v.classical) (moved is v) (Shown v)
after_use need is k = k

abbrev pub use_variable : Need → NameId → List ℤ → Flattening → Flattening
use_variable need x is s = push (use_part (wires_so_far s) need is (known_in s x)) (record s { env = in_its_block s.env x (after_use need is (known_in s x)) })

abbrev pub assigned : List ℤ → Known → Known → Known
assigned [] old new = new
assigned (i ∷ is) (Lent start size v) new = Shown (record v { operands = with_part v.shape (i ∷ is) v.operands (operands_of new) })
assigned (i ∷ is) (Shown v) new = Shown (record v { operands = with_part v.shape (i ∷ is) v.operands (operands_of new) })
assigned (i ∷ is) old new = old

abbrev pub bind_all : Env Known → List NameId → List Known → Env Known
bind_all env (x ∷ xs) (k ∷ ks) = bind_all (bound env x (as_variable k)) xs ks
bind_all env xs ks = env

abbrev pub paired : List NameId → List Known → Block Known
paired (x ∷ xs) (k ∷ ks) = (x, as_variable k) ∷ paired xs ks
paired xs ks = []

abbrev pub update_by : UpdateOp → Setting → List WireId → List Operand → Built → Built
update_by updates.Add at ws ps b = add_into at ws ps b
update_by updates.Sub at ws ps b = sub_into at ws ps b
update_by updates.Xor at ws ps b = flip_each at ws ps b

abbrev pub update_variable : Known → List ℤ → UpdateOp → Known → Flattening → Flattening
update_variable (Shown v) is op k s =
    let operand = typed_as 0 (part_shape v.shape is) k in
    build (update_by op s.setting (wires_in (part_of v.shape is v.operands)) (operands_of operand) s.built) s
update_variable target is op k s = s

-- what a variable is said to be equal to is undone on its wires, which are 0 then
abbrev pub zero_variable : Known → Known → Flattening → Flattening
zero_variable (Shown v) k s =
    let ws = wires_in v.operands in
    build (end_all Zeroed ws (flip_each s.setting ws (operands_of (typed_like 0 (Shown v) k)) s.built)) s
zero_variable target k s = s

-- ---- calls

-- a call's expression began with its first argument
abbrev pub call_began : ℕ → List Known → ℕ
call_began n (Shown v ∷ ks) = v.began
call_began n ks = n

abbrev pub enter : List NameId → Flattening → Flattening
enter xs s =
    let arguments = reverse (take (length xs) s.values) in
    record s {
      env = paired xs arguments ∷ [];
      values = [];
      callers = record { began = call_began (wires_so_far s) arguments; env = s.env; values = drop (length xs) s.values } ∷ s.callers;
    }

abbrev pub back_to : Flattening → List Caller → Flattening
back_to s [] = s
back_to s (c ∷ cs) = record s { env = c.env; values = s.values ++ c.values; callers = cs }

-- ---- steps

abbrev pub flat_step : Step → Flattening → Flattening
flat_step (give_static z) s = push (Static z) s
flat_step (give_typed k z) s = push (typed (wires_so_far s) k z) s
flat_step (give_part need x is) s = use_variable need x is s
flat_step (one_operand op) s = on_one op (last s) (drop_last s)
flat_step (two_operands op) s = on_two op (last (drop_last s)) (last s) (drop_last (drop_last s))
flat_step copy_last s = give_copy (last s) (drop_last s)
flat_step repeat_last s = give_repeated (last (drop_last s)) (last s) (drop_last (drop_last s))
flat_step flip_last s = on_last_wire (λ at w b. flip at w [] b) s
flat_step (turn_by k l) s = on_last_wire (turn_both k l) s
flat_step (turn_all k) s = build (turn s.setting k [] s.built) s
flat_step (receive r) s = receive_value r (shape_for r (wires_so_far s) (last s)) (drop_last s)
flat_step (assign_to x is) s = bind x (assigned is (known_in s x) (last s)) (drop_last s)
flat_step (assign_in_turn xs) s = record s { env = bind_all s.env xs (reverse (take (length xs) s.values)); values = drop (length xs) s.values }
flat_step (update_to x is op) s = drop_last (update_variable (known_in s x) is op (last s) s)
flat_step (end_name x) s = bind x Absent s
flat_step (end_compared x) s = drop_last (bind x Absent s)
flat_step enter_block s = record s { env = [] ∷ s.env }
flat_step leave_block s = record s { env = drop 1 s.env }
flat_step (enter_body xs) s = enter xs s
flat_step leave_body s = back_to s s.callers

-- ---- statements and conditions

-- one statement more, and the limit that it goes above, if any
abbrev pub count_statement : Flattening → Flattening
count_statement s =
    record s {
      statements = suc s.statements;
      built = record s.built { over = or_later s.built.over (cond (nat_lt s.statements most_inlined) None (Some (record { which = Inlined; count = suc most_inlined }))) };
    }

abbrev pub on_line : ℕ → Flattening → Flattening
on_line line s = record s { setting = record s.setting { line = line } }

abbrev pub under : Option Operand → Flattening → Flattening
under c s = record s { setting = record s.setting { condition = c } }

-- the constant 1 is no condition
abbrev pub as_condition : Operand → Option Operand
as_condition (Const true) = None
as_condition (Const false) = Some (Const false)
as_condition (Literal l) = Some (Literal l)

-- the condition of a branch: below another one it is put on a wire of its own
abbrev pub entered : Setting → Operand → Built → Given (Option Operand)
entered at c b = entered_under at.condition
  where
    entered_under : Option Operand → Given (Option Operand)
    entered_under None = record { answer = as_condition (read b.draft c); built = b }
    entered_under (Some outer) =
        let b' = flip at (next_wire b) (c ∷ []) (new_wire b) in record { answer = as_condition (read b'.draft (made (next_wire b))); built = b' }

abbrev pub enter_branch : Operand → Flattening → Flattening
enter_branch c s = let e = entered s.setting c s.built in under e.answer (build e.built s)

-- the condition of a choice, which is its last value
abbrev pub chosen_by : Flattening → Operand
chosen_by s = only_operand (operands_of (last s))

-- where the first branch begins, and the second, which goes on with the steps of the first
abbrev pub first_branch : Flattening → Flattening
first_branch s = enter_branch (chosen_by s) (drop_last s)

abbrev pub second_branch : Flattening → Flattening → Flattening
second_branch one s = enter_branch (negated (chosen_by s)) (record (drop_last s) { built = one.built; statements = one.statements })

abbrev pub flat : Effect → Flattening → Flattening
flat nothing s = s
flat (a >> b) s = flat b (flat a s)
flat (statement line e) s = on_line s.setting.line (flat e (on_line line (count_statement s)))
flat (step st) s = flat_step st s
flat mix s = on_last_wire had s
flat measured s = measure_value (last s) (drop_last s)
flat (claim line x) s = without_name x (zero_variable (known_in s x) (last s) s)
flat (choice a b) s = under s.setting.condition (flat b (second_branch (flat a (first_branch s)) s))

-- ---- whole programs

-- n input wires
abbrev pub input_wires : ℕ → Built → Built
input_wires ℕ.zero b = b
input_wires (suc n) b = input_wires n (record { draft = with_wire b.draft true; over = or_later b.over (over_by_wire b.draft) })

-- the parameters' wires in order
abbrev pub inputs : List Shape → Built → Given (List Known)
inputs [] b = record { answer = []; built = b }
inputs (s ∷ ss) b =
    let n = length b.draft.wires in
    let rest = inputs ss (input_wires (shape_bits s) b) in
    record { answer = Shown (record { classical = false; shape = s; operands = all_made (wires_from n (shape_bits s)); own = true; began = 0 }) ∷ rest.answer; built = rest.built }

abbrev pub begin : List Shape → Flattening
begin ss =
    let i = inputs ss (begun empty_draft) in
    record { built = i.built; setting = record { line = 1; condition = None }; statements = 0; env = []; values = reverse i.answer; callers = [] }

abbrev pub wire_lists : List Known → List (List WireId)
wire_lists ks = map (λ k. wires_in (operands_of k)) ks

abbrev pub joined : List (List WireId) → List WireId
joined [] = []
joined (ws ∷ rest) = ws ++ joined rest

pub record Flattened : Type 0 where
  pub form : FlatForm
  -- the first limit that it goes above, if any
  pub over : Option OverLimit

-- the flat form of a job: what it returns and then the const parameters end as Output
abbrev pub flattened : Job → Flattened
flattened j =
    let first = begin j.shapes in
    let s = flat j.effect first in
    let outs = wire_lists (reverse s.values) in
    let b = end_all Output (joined outs) s.built in
    record { form = finished b.draft (wire_lists (reverse first.values)) outs; over = b.over }
