-- The steps that give a new value for the last one or two: operators, copies, and what takes a value over.
use Rattle.std.proofs.Common.{◌≡◌, ℕ, Bool, true, false, cond, not, ◌&&◌, ◌||◌, List, [], ◌∷◌, length, drop, refl, sym, ap, ◌∙◌, subst}
use Rattle.std.specs.Prelude.{⊤, nat_abs}
use Rattle.silq_tree.specs.declared.node.UnaryOp.{UnaryOp}
use Rattle.silq_tree.specs.declared.node.BinaryOp.{BinaryOp}
use Rattle.silq_tree.specs.declared.node.BinaryOp.TheVariants.{Div}
use Rattle.silq_types.specs.declared.types.Shape.{Shape}
use Rattle.silq_types.specs.Types.{shape_bits, is_scalar}
use Rattle.silq_types.specs.Calls.{is_consumed}
use Rattle.silq_mean.specs.Value.{Value, of_one, of_two, repeated as repeated_value, typed_like as value_like}
use Rattle.silq_mean.specs.Term.{first as first_value, last as last_value, last_but_one, drop_last as but_last, on_last, on_last_two}
use Rattle.silq_mean.specs.declared.receiver.Receiver.{Receiver}
use Rattle.silq_mean.specs.declared.receiver.Receiver.TheVariants.{Variable, Argument, CallResult, EntryOutput}
use Rattle.silq_mean.specs.Effect.{Outcome, received, step, follow, one_operand, two_operands, copy_last, repeat_last, receive}
use Rattle.flat_mean.specs.Row.{Row}
use Rattle.bit_arith.specs.declared.operand.Operand.{Operand}
use Rattle.bit_arith.specs.Built.{Built, Given}
use Rattle.bit_arith.specs.Calls.{no_target}
use Rattle.bit_arith.specs.Values.{bits_at}
use Rattle.bit_arith.specs.Does.{Does}
use Rattle.bit_arith.proofs.Doing.{does_none, does_weak}
use Rattle.flat_form.specs.declared.known.TypedBits.{TypedBits}
use Rattle.flat_form.specs.declared.known.Known.{Known}
use Rattle.flat_form.specs.declared.known.Known.TheVariants.{Static, Shown, Lent, Absent}
use Rattle.flat_form.specs.State.{Flattening, push, first, last, drop_last, wires_so_far, build, are_wires, are_new, as_they_are, copied, taken, kept}
use Rattle.flat_form.specs.Flat.{flat, by_one, by_two, shape_by, shape_by_one, on_one, on_two_typed, began_at, as_operand, give_copy, give_repeated, array_of, repeated, shape_for, taken_for, class_for, began_for, receive_value}
use Rattle.flat_form.specs.Good.{Good, IsShown, IsKnown}
use Rattle.flat_form.specs.Fine.{IsOf, IsAny, IsStatic, FitsOne, FitsTwo, MayJoin}
use Rattle.flat_form.specs.Shows.{Shows, ListBoth}
use Rattle.flat_form.proofs.Kept.{known_drop, known_last, AllShow, related_shows, all_show_new, all_show_drop}
use Rattle.flat_form.proofs.Giving.{typed_as_known, as_operand_known, safe_repeated}
use Rattle.flat_laws.proofs.OperatorRows.{one_does, two_does}
use Rattle.flat_laws.proofs.Operators.{OneBits, TwoBits}
use Rattle.flat_laws.proofs.Showing.{shows_bits, shows_one, shows_two, shows_for, shows_operand, shows_repeated}
use Rattle.flat_laws.proofs.Compose.{Leads}
use Rattle.flat_laws.proofs.Rows.{leads_row}
use Rattle.flat_laws.proofs.Taking.{copied_taken, last_shows}

-- ---- a new value for the last one, and for the last two

abbrev last_two : List Known → Known
last_two ks = first (drop 1 ks)

second_shows : (x : Row) (ks : List Known) (ws : List Value) → ListBoth (Shows x) ks ws → Shows x (last_two ks) (first_value (drop 1 ws))
second_shows x [] [] h = tt
second_shows x [] (w ∷ ws) h = absurd h
second_shows x (k ∷ ks) [] h = absurd h
second_shows x (k ∷ ks) (w ∷ ws) h = last_shows x ks ws h.1

pub leads_on_last : (o : Outcome) (s : Flattening) (z : Known) (b : Built) (h : Value → Value) (Q : Row → Row → Type 0) → Good s → Does s.setting s.built.draft b.draft no_target Q → ((x y : Row) (w : Value) → Shows x (last s) w → Q x y → Shows y z (h w)) → Leads o s (push z (build b (drop_last s))) (λ t. on_last h t ∷ [])
leads_on_last o s z b h Q g r f =
    let n : ℕ = length s.built.draft.wires in
    leads_row o s (push z (build b (drop_last s))) no_target Q (on_last h) r g.condition refl (λ t. (refl, refl, refl))
    (λ u t y re ag q.
    let a : AllShow y (drop_last s) (but_last t) = all_show_new n y u.row (drop_last s) (but_last t) ag (known_drop (IsKnown n) s g.known) (all_show_drop u.row s t (related_shows s u t re)) in
    record { env = a.env; values = (f u.row y (last_value t) (last_shows u.row s.values t.values re.values) q, a.values); callers = a.callers })

pub leads_on_last_two : (o : Outcome) (s : Flattening) (z : Known) (b : Built) (h : Value → Value → Value) (Q : Row → Row → Type 0) → Good s → Does s.setting s.built.draft b.draft no_target Q → ((x y : Row) (v w : Value) → Shows x (last (drop_last s)) v → Shows x (last s) w → Q x y → Shows y z (h v w)) → Leads o s (push z (build b (drop_last (drop_last s)))) (λ t. on_last_two h t ∷ [])
leads_on_last_two o s z b h Q g r f =
    let n : ℕ = length s.built.draft.wires in
    let s1 : Flattening = drop_last s in
    leads_row o s (push z (build b (drop_last s1))) no_target Q (on_last_two h) r g.condition refl (λ t. (refl, refl, refl))
    (λ u t y re ag q.
    let a : AllShow y (drop_last s1) (but_last (but_last t)) = all_show_new n y u.row (drop_last s1) (but_last (but_last t)) ag (known_drop (IsKnown n) s1 (known_drop (IsKnown n) s g.known)) (all_show_drop u.row s1 (but_last t) (all_show_drop u.row s t (related_shows s u t re))) in
    record { env = a.env; values = (f u.row y (last_but_one t) (last_value t) (second_shows u.row s.values t.values re.values) (last_shows u.row s.values t.values re.values) q, a.values); callers = a.callers })

-- ---- operators

pub leads_one_operand : (o : Outcome) (op : UnaryOp) (s : Flattening) → Good s → IsOf (λ v. FitsOne op v.shape) (last s) → Leads o s (flat (step (one_operand op)) s) (follow o (step (one_operand op)))
leads_one_operand o op s g fit = go (last s) refl fit (known_last (IsKnown (length s.built.draft.wires)) s tt g.known)
  where
    go : (k : Known) → last s ≡ k → IsOf (λ v. FitsOne op v.shape) k → IsKnown (length s.built.draft.wires) k → Leads o s (on_one op k (drop_last s)) (λ t. on_last (of_one op) t ∷ [])
    go (Static z) e f q = absurd f
    go (Lent a c v) e f q = absurd f
    go Absent e f q = absurd f
    go (Shown v) e f q =
        let row : Given (List Operand) = by_one op s.setting v.operands s.built in
        let z : TypedBits = record { classical = v.classical; shape = shape_by_one op v.shape; operands = row.answer; own = false; began = v.began } in
        leads_on_last o s (Shown z) row.built (of_one op) (λ x y. OneBits op (bits_at x v.operands) (bits_at y row.answer)) g
        (one_does op s.setting v.operands s.built g.fresh g.condition q.there)
        (λ x y w h t. shows_one x y op v z w refl f (subst (λ k. Shows x k w) e h) t)

pub leads_two_operands : (o : Outcome) (op : BinaryOp) (s : Flattening) → Good s → MayJoin op (last (drop_last s)) (last s) → Leads o s (flat (step (two_operands op)) s) (follow o (step (two_operands op)))
leads_two_operands o op s g fit =
    go (as_operand l k) (as_operand k l) fit (as_operand_known n l k kk) (as_operand_known n k l kl)
    (λ i x v w a b. shows_operand x l k w v i b a) (λ i x v w a b. shows_operand x k l v w i a b)
  where
    n : ℕ
    n = length s.built.draft.wires

    k : Known
    k = last (drop_last s)

    l : Known
    l = last s

    kl : IsKnown n l
    kl = known_last (IsKnown n) s tt g.known

    kk : IsKnown n k
    kk = known_last (IsKnown n) (drop_last s) tt (known_drop (IsKnown n) s g.known)

    no_div : (t : Shape) → FitsTwo op t → op ≡ Div → ⊥
    no_div t f e = subst (λ x. FitsTwo x t) e f

    go : (a c : Known) → IsOf (λ v. IsOf (λ w. (v.shape ≡ w.shape) × FitsTwo op v.shape) c) a → IsKnown n a → IsKnown n c → (IsOf (λ i. ⊤) a → (x : Row) (v w : Value) → Shows x k v → Shows x l w → Shows x a (value_like w v)) → (IsOf (λ i. ⊤) c → (x : Row) (v w : Value) → Shows x k v → Shows x l w → Shows x c (value_like v w)) → Leads o s (on_two_typed op (began_at k l) a c (drop_last (drop_last s))) (λ t. on_last_two (of_two op) t ∷ [])
    go (Static z) c f qa qc ha hc = absurd f
    go (Lent i j v) c f qa qc ha hc = absurd f
    go Absent c f qa qc ha hc = absurd f
    go (Shown v) (Static z) f qa qc ha hc = absurd f
    go (Shown v) (Lent i j w) f qa qc ha hc = absurd f
    go (Shown v) Absent f qa qc ha hc = absurd f
    go (Shown v) (Shown w) f qa qc ha hc =
        let row : Given (List Operand) = by_two op v.shape s.setting v.operands w.operands s.built in
        let z : TypedBits = record { classical = v.classical && w.classical; shape = shape_by op v.shape; operands = row.answer; own = false; began = began_at k l } in
        leads_on_last_two o s (Shown z) row.built (of_two op) (λ x y. TwoBits op v.shape (bits_at x v.operands) (bits_at x w.operands) (bits_at y row.answer)) g
        (two_does op v.shape s.setting v.operands w.operands s.built g.fresh g.condition qa.there qc.there (qa.size ∙ (ap shape_bits f.0 ∙ sym qc.size)) (no_div v.shape f.1))
        (λ x y a b sa sb t. shows_two x y op v w z (value_like b a) (value_like a b) refl f.0 f.1 (ha tt x a b sa sb) (hc tt x a b sa sb) t)

-- ---- copies

pub leads_copy_last : (o : Outcome) (s : Flattening) → Good s → IsAny (last s) → Leads o s (flat (step copy_last) s) (follow o (step copy_last))
leads_copy_last o s g fit = go (last s) refl fit (known_last (IsKnown (length s.built.draft.wires)) s tt g.known)
  where
    go : (k : Known) → last s ≡ k → IsOf (λ v. ⊤) k → IsKnown (length s.built.draft.wires) k → Leads o s (give_copy k (drop_last s)) (λ t. on_last (λ v. v) t ∷ [])
    go (Static z) e f q = absurd f
    go (Lent a c v) e f q = absurd f
    go Absent e f q = absurd f
    go (Shown v) e f q =
        let row : Given (List Operand) = copied s.setting v.operands s.built in
        let z : TypedBits = record { classical = false; shape = v.shape; operands = row.answer; own = false; began = v.began } in
        leads_on_last o s (Shown z) row.built (λ w. w) (λ x y. bits_at y row.answer ≡ bits_at x v.operands) g (copied_taken s v g q.there).does
        (λ x y w h t. shows_bits x y v z w refl t (subst (λ k. Shows x k w) e h))

pub leads_repeat_last : (o : Outcome) (s : Flattening) → Good s → IsStatic (last (drop_last s)) → IsOf (λ v. is_scalar v.shape ≡ true) (last s) → Leads o s (flat (step repeat_last) s) (follow o (step repeat_last))
leads_repeat_last o s g number fit = go (last (drop_last s)) (last s) refl refl number fit (known_last (IsKnown (length s.built.draft.wires)) s tt g.known)
  where
    go : (k l : Known) → last (drop_last s) ≡ k → last s ≡ l → IsStatic k → IsOf (λ v. is_scalar v.shape ≡ true) l → IsKnown (length s.built.draft.wires) l → Leads o s (give_repeated k l (drop_last (drop_last s))) (λ t. on_last_two repeated_value t ∷ [])
    go (Shown v) l d e i f q = absurd i
    go (Lent a c v) l d e i f q = absurd i
    go Absent l d e i f q = absurd i
    go (Static m) (Static z) d e i f q = absurd f
    go (Static m) (Lent a c v) d e i f q = absurd f
    go (Static m) Absent d e i f q = absurd f
    go (Static m) (Shown v) d e i f q =
        let ps : List Operand = repeated (nat_abs m) v.operands in
        let many : TypedBits = record v { operands = ps } in
        let row : Given (List Operand) = copied s.setting ps s.built in
        let z : TypedBits = record { classical = false; shape = array_of v.shape (nat_abs m); operands = row.answer; own = false; began = v.began } in
        leads_on_last_two o s (Shown z) row.built repeated_value (λ x y. bits_at y row.answer ≡ bits_at x ps) g
        (copied_taken s many g (safe_repeated (length s.built.draft.wires) no_target (nat_abs m) v.operands q.there)).does
        (λ x y a b sa sb t. shows_repeated x y m v z a b refl f (subst (λ k. Shows x k a) d sa) (subst (λ k. Shows x k b) e sb) t)

-- ---- what takes a value over

-- the same bits, maybe on other wires
abbrev SameBits : Flattening → TypedBits → Given (List Operand) → Type 0
SameBits s v row = Does s.setting s.built.draft row.built.draft no_target (λ x y. bits_at y row.answer ≡ bits_at x v.operands)

as_before : (s : Flattening) (v : TypedBits) → SameBits s v (as_they_are v.operands s.built)
as_before s v = does_weak (does_none s.setting s.built.draft no_target) (λ x y c on ag cl q. ap (λ (z : Row). bits_at z v.operands) q)

as_copy : (s : Flattening) (v : TypedBits) → Good s → IsShown (length s.built.draft.wires) v → SameBits s v (copied s.setting v.operands s.built)
as_copy s v g q = (copied_taken s v g q.there).does

either_way : (s : Flattening) (v : TypedBits) (a c : Given (List Operand)) (b : Bool) → SameBits s v a → SameBits s v c → SameBits s v (cond b a c)
either_way s v a c true x y = x
either_way s v a c false x y = y

as_taken : (s : Flattening) (v : TypedBits) → Good s → IsShown (length s.built.draft.wires) v → SameBits s v (taken s.setting v s.built)
as_taken s v g q = either_way s v (as_they_are v.operands s.built) (copied s.setting v.operands s.built) (v.own || are_new s.built.draft v.began v.operands) (as_before s v) (as_copy s v g q)

as_kept : (s : Flattening) (v : TypedBits) → Good s → IsShown (length s.built.draft.wires) v → SameBits s v (kept s.setting v s.built)
as_kept s v g q = either_way s v (as_they_are v.operands s.built) (copied s.setting v.operands s.built) (are_wires v.operands) (as_before s v) (as_copy s v g q)

as_received : (r : Receiver) (s : Flattening) (v : TypedBits) → Good s → IsShown (length s.built.draft.wires) v → SameBits s v (taken_for r s.setting v s.built)
as_received Variable s v g q = either_way s v (kept s.setting v s.built) (taken s.setting v s.built) v.classical (as_kept s v g q) (as_taken s v g q)
as_received (Argument need t) s v g q = either_way s v (kept s.setting v s.built) (taken s.setting v s.built) (not (is_consumed need) || t.classical) (as_kept s v g q) (as_taken s v g q)
as_received (CallResult t) s v g q = as_taken s v g q
as_received (EntryOutput t) s v g q = either_way s v (copied s.setting v.operands s.built) (taken s.setting v s.built) (t.classical || v.classical) (as_copy s v g q) (as_taken s v g q)

for_known : (n m : ℕ) (r : Receiver) (k : Known) → IsKnown n k → IsKnown n (shape_for r m k)
for_known n m Variable k q = q
for_known n m (Argument need t) k q = typed_as_known n m t.shape k q
for_known n m (CallResult t) k q = typed_as_known n m t.shape k q
for_known n m (EntryOutput t) k q = typed_as_known n m t.shape k q

pub leads_receive : (o : Outcome) (r : Receiver) (s : Flattening) → Good s → IsAny (shape_for r (wires_so_far s) (last s)) → Leads o s (flat (step (receive r)) s) (follow o (step (receive r)))
leads_receive o r s g fit =
    let n : ℕ = length s.built.draft.wires in
    go (shape_for r n (last s)) fit (for_known n n r (last s) (known_last (IsKnown n) s tt g.known)) (λ x w h. shows_for x r n (last s) w h)
  where
    go : (k : Known) → IsOf (λ v. ⊤) k → IsKnown (length s.built.draft.wires) k → ((x : Row) (w : Value) → Shows x (last s) w → Shows x k (received r w)) → Leads o s (receive_value r k (drop_last s)) (λ t. on_last (received r) t ∷ [])
    go (Static z) f q h = absurd f
    go (Lent a c v) f q h = absurd f
    go Absent f q h = absurd f
    go (Shown v) f q h =
        let row : Given (List Operand) = taken_for r s.setting v s.built in
        let z : TypedBits = record { classical = class_for r v; shape = v.shape; operands = row.answer; own = true; began = began_for r v s.callers } in
        leads_on_last o s (Shown z) row.built (received r) (λ x y. bits_at y row.answer ≡ bits_at x v.operands) g (as_received r s v g q)
        (λ x y w i t. shows_bits x y v z (received r w) refl t (h x w i))
