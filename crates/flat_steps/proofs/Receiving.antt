-- Values that are taken over.
use Rattle.std.proofs.Common.{◌≡◌, ℕ, length, sym, subst}
use Rattle.silq_mean.specs.declared.receiver.Receiver.{Receiver}
use Rattle.silq_mean.specs.declared.receiver.Receiver.TheVariants.{Variable, Argument, CallResult, EntryOutput}
use Rattle.bit_arith.specs.Built.{under}
use Rattle.bit_arith.specs.Calls.{AllSafe, no_target}
use Rattle.bit_arith.proofs.Listed.{safe_under}
use Rattle.flat_form.specs.declared.known.TypedBits.{TypedBits}
use Rattle.flat_form.specs.declared.known.Known.{Known}
use Rattle.flat_form.specs.declared.known.Known.TheVariants.{Shown}
use Rattle.flat_form.specs.State.{Flattening, last}
use Rattle.flat_form.specs.Flat.{shape_for}
use Rattle.flat_form.specs.Good.{Good, IsShown, IsKnown}
use Rattle.flat_form.proofs.Kept.{known_last}
use Rattle.flat_form.proofs.Giving.{typed_as_known}

shape_for_known : (n m : ℕ) (r : Receiver) (k : Known) → IsKnown n k → IsKnown n (shape_for r m k)
shape_for_known n m Variable k h = h
shape_for_known n m (Argument need t) k h = typed_as_known n m t.shape k h
shape_for_known n m (CallResult t) k h = typed_as_known n m t.shape k h
shape_for_known n m (EntryOutput t) k h = typed_as_known n m t.shape k h

-- the operands of the last value are there
pub received_safe : (s : Flattening) (r : Receiver) (m : ℕ) (k : Known) (v : TypedBits) → Good s → k ≡ last s → Shown v ≡ shape_for r m k → AllSafe (length s.built.draft.wires) no_target (under s.setting v.operands)
received_safe s r m k v g same e =
    let n : ℕ = length s.built.draft.wires in
    let last_known : IsKnown n (last s) = known_last (IsKnown n) s tt g.known in
    let known : IsKnown n k = subst (IsKnown n) (sym same) last_known in
    let shown : IsShown n v = subst (IsKnown n) (sym e) (shape_for_known n m r k known) in
    safe_under n no_target s.setting v.operands g.condition shown.there
