-- What taking a value over tells: what the value that it gives names, and where its expression began.
use Rattle.std.proofs.Common.{◌≡◌, ◌⊎◌, inl, inr, ℕ, ◌≤◌, Bool, true, false, cond, not, ◌||◌, List, [], ◌∷◌, length, ℤ, sym, ◌∙◌, subst}
use Rattle.std.specs.List.{list_any}
use Rattle.silq_types.specs.declared.types.Shape.{Shape}
use Rattle.silq_types.specs.declared.types.Shape.TheVariants.{Bit, UInt, Int, Array}
use Rattle.silq_types.specs.declared.types.Scalar.{Scalar}
use Rattle.silq_types.specs.declared.types.Scalar.TheVariants as scalars
use Rattle.silq_types.specs.Types.{scalar_bits}
use Rattle.silq_mean.specs.Value.{low_bits, modulo, modulus}
use Rattle.silq_types.specs.Calls.{is_consumed}
use Rattle.flat_typed.proofs.Ordered.{clash}
use Rattle.silq_mean.specs.declared.receiver.Receiver.{Receiver}
use Rattle.silq_mean.specs.declared.receiver.Receiver.TheVariants.{Variable, Argument, CallResult, EntryOutput}
use Rattle.silq_mean.specs.Effect.{receive}
use Rattle.flat_core.specs.declared.step.WireId.{WireId}
use Rattle.bit_arith.specs.declared.operand.Operand.{Operand}
use Rattle.bit_arith.specs.Built.{Given, all_made}
use Rattle.flat_form.specs.declared.known.TypedBits.{TypedBits}
use Rattle.flat_form.specs.declared.known.Known.{Known}
use Rattle.flat_form.specs.declared.known.Known.TheVariants.{Static, Shown, Lent, Absent}
use Rattle.flat_form.specs.State.{Caller, Flattening, began_or, first, last, drop_last, wires_so_far, are_wires, are_new, as_they_are, copied, taken, kept, typed_as}
use Rattle.flat_form.specs.Flat.{taken_for, began_for, receive_value, flat_step}
use Rattle.flat_form.specs.Names.{named_by, names}
use Rattle.flat_typed.specs.Places.{times_in}
use Rattle.flat_typed.specs.Relation.{BeganFrom}
use Rattle.flat_typed.proofs.Flipping.{copy_answer}
use Rattle.flat_typed.proofs.Placing.{named_times, made_range}
use Rattle.flat_typed.proofs.Receiving.{bits_of, consts_unnamed}

-- it names what the value before names, or new wires, and its expression did not begin before
pub record Receives (s : Flattening) (k a : Known) : Type 0 where
  pub from : (w : WireId) → names a w ≡ true → (names k w ≡ true) ⊎ (wires_so_far s ≤ w.number)
  pub began : (m : ℕ) → m ≤ wires_so_far s → m ≤ began_or m s.callers → BeganFrom m k → BeganFrom m a

same_receives : (s : Flattening) (k : Known) → Receives s k k
same_receives s k = record { from = λ w e. inl e; began = λ m l b h. h }

module _ (s : Flattening) (u : TypedBits) where
  abbrev From : Given (List Operand) → Type 0
  From g = (w : WireId) → list_any (named_by w) g.answer ≡ true → (list_any (named_by w) u.operands ≡ true) ⊎ (wires_so_far s ≤ w.number)

  they_are : From (as_they_are u.operands s.built)
  they_are w e = inl e

  of_copy : From (copied s.setting u.operands s.built)
  of_copy w e =
      inr (made_range w (wires_so_far s) (length u.operands) (subst (λ ws. 1 ≤ times_in w (all_made ws)) (copy_answer s.setting u.operands s.built) (named_times w (copied s.setting u.operands s.built).answer e))).0

  either : (t : Bool) (g h : Given (List Operand)) → From g → From h → From (cond t g h)
  either true g h a b = a
  either false g h a b = b

  of_taken : From (taken s.setting u s.built)
  of_taken = either (u.own || are_new s.built.draft u.began u.operands) (as_they_are u.operands s.built) (copied s.setting u.operands s.built) they_are of_copy

  of_kept : From (kept s.setting u s.built)
  of_kept = either (are_wires u.operands) (as_they_are u.operands s.built) (copied s.setting u.operands s.built) they_are of_copy

  of_each : (r : Receiver) → From (taken_for r s.setting u s.built)
  of_each Variable = either u.classical (kept s.setting u s.built) (taken s.setting u s.built) of_kept of_taken
  of_each (Argument need t) = either (not (is_consumed need) || t.classical) (kept s.setting u s.built) (taken s.setting u s.built) of_kept of_taken
  of_each (CallResult t) = of_taken
  of_each (EntryOutput t) = either (t.classical || u.classical) (copied s.setting u.operands s.built) (taken s.setting u s.built) of_copy of_taken

  later_began : (m : ℕ) (cs : List Caller) → m ≤ began_or m cs → m ≤ u.began → m ≤ began_or u.began cs
  later_began m [] b h = h
  later_began m (c ∷ cs) b h = b

  began_each : (r : Receiver) (m : ℕ) → m ≤ began_or m s.callers → m ≤ u.began → m ≤ began_for r u s.callers
  began_each Variable m b h = h
  began_each (Argument need t) m b h = h
  began_each (CallResult t) m b h = later_began m s.callers b h
  began_each (EntryOutput t) m b h = h

  shown_receives : (r : Receiver) → Receives s (Shown u) (first (receive_value r (Shown u) (drop_last s)).values)
  shown_receives r = record { from = of_each r; began = λ m l b h. began_each r m b h }

-- a static value takes a type, and then names none
module _ (s : Flattening) (r : Receiver) where
  abbrev Gets : Known → Known → Type 0
  Gets k l = Receives s k (first (receive_value r l (drop_last s)).values)

  static_gets : (k : Scalar) (z : ℤ) → Gets (Static z) (Shown (bits_of (wires_so_far s) k z))
  static_gets k z =
      let h = shown_receives s (bits_of (wires_so_far s) k z) r in
      record { from = λ w e. none w (h.from w e); began = λ m l b q. h.began m l b l }
    where
      none : (w : WireId) → (names (Shown (bits_of (wires_so_far s) k z)) w ≡ true) ⊎ (wires_so_far s ≤ w.number) → (false ≡ true) ⊎ (wires_so_far s ≤ w.number)
      none w (inl e) = clash (sym e ∙ consts_unnamed w (low_bits (scalar_bits k) (modulo z (modulus k))))
      none w (inr le) = inr le

  typed_gets : (t : Shape) (k : Known) → Gets k (typed_as (wires_so_far s) t k)
  typed_gets Bit (Static z) = static_gets scalars.Bit z
  typed_gets (UInt w) (Static z) = static_gets (scalars.UInt w) z
  typed_gets (Int w) (Static z) = static_gets (scalars.Int w) z
  typed_gets (Array k w) (Static z) = same_receives s (Static z)
  typed_gets Bit (Shown u) = shown_receives s u r
  typed_gets (UInt w) (Shown u) = shown_receives s u r
  typed_gets (Int w) (Shown u) = shown_receives s u r
  typed_gets (Array k w) (Shown u) = shown_receives s u r
  typed_gets Bit (Lent a m u) = same_receives s (Lent a m u)
  typed_gets (UInt w) (Lent a m u) = same_receives s (Lent a m u)
  typed_gets (Int w) (Lent a m u) = same_receives s (Lent a m u)
  typed_gets (Array k w) (Lent a m u) = same_receives s (Lent a m u)
  typed_gets Bit Absent = same_receives s Absent
  typed_gets (UInt w) Absent = same_receives s Absent
  typed_gets (Int w) Absent = same_receives s Absent
  typed_gets (Array k w) Absent = same_receives s Absent

  as_it_is : (k : Known) → Gets k k
  as_it_is (Static z) = same_receives s (Static z)
  as_it_is (Shown u) = shown_receives s u r
  as_it_is (Lent a m u) = same_receives s (Lent a m u)
  as_it_is Absent = same_receives s Absent

pub received : (r : Receiver) (s : Flattening) → Receives s (last s) (first (flat_step (receive r) s).values)
received Variable s = as_it_is s Variable (last s)
received (Argument need t) s = typed_gets s (Argument need t) t.shape (last s)
received (CallResult t) s = typed_gets s (CallResult t) t.shape (last s)
received (EntryOutput t) s = typed_gets s (EntryOutput t) t.shape (last s)
