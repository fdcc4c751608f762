-- Wires of parameters.
use Rattle.std.proofs.Common.{◌≡◌, ℕ, zero, suc, true, List, [], ◌∷◌, ◌++◌, length, reverse, Option, Some, None, refl, sym, ap, ◌∙◌, arith, append_assoc, length-append}
use Rattle.std.proofs.lemmas.List.{reverse-append}
use Rattle.silq_io.specs.declared.limit.OverLimit.{OverLimit}
use Rattle.silq_types.specs.declared.types.Shape.{Shape}
use Rattle.silq_types.specs.Types.{shape_bits}
use Rattle.flat_core.specs.declared.step.WireId.{WireId}
use Rattle.flat_core.specs.declared.step.End.TheVariants.{Dropped}
use Rattle.flat_core.specs.Form.{DraftForm, WireForm}
use Rattle.flat_core.specs.Label.{wire_id}
use Rattle.flat_core.specs.Drafts.{with_wire, over_by_wire}
use Rattle.bit_arith.specs.declared.operand.Operand.{Operand}
use Rattle.bit_arith.specs.Built.{Built, begun, or_later, made, all_made, wires_from}
use Rattle.bit_arith.specs.Calls.{Building}
use Rattle.bit_arith.proofs.Grows.{Grows, grows_same, grows_then}
use Rattle.flat_form.specs.declared.known.Known.{Known}
use Rattle.flat_form.specs.Flat.{input_wires, inputs}

-- one input wire more
abbrev pub input_wire : Built → Built
input_wire b = record { draft = with_wire b.draft true; over = or_later b.over (over_by_wire b.draft) }

later_stays : (o later : Option OverLimit) (over : OverLimit) → o ≡ Some over → or_later o later ≡ Some over
later_stays o later over h = rw h refl

wires_more : (d : DraftForm) → length (with_wire d true).wires ≡ suc (length d.wires)
wires_more d = let new : WireForm = record { input = true; ending = Dropped } in let e = length-append d.wires (new ∷ []) in omega arith

input_wire_grows : (b : Built) → Grows b (input_wire b)
input_wire_grows b = record { few = let e = wires_more b.draft in omega arith; stays = λ over h. later_stays b.over (over_by_wire b.draft) over h }

pub input_grows : (n : ℕ) (b : Built) → Grows b (input_wires n b)
input_grows zero b = grows_same b
input_grows (suc n) b = grows_then (input_wire_grows b) (input_grows n (input_wire b))

pub inputs_grows : (ss : List Shape) (b : Built) → Grows b (inputs ss b).built
inputs_grows [] b = grows_same b
inputs_grows (s ∷ ss) b = grows_then (input_grows (shape_bits s) b) (inputs_grows ss (input_wires (shape_bits s) b))

-- what a wire that was made leaves
pub one_input : (old new : Building) → new ≡ record { draft = with_wire old.draft true; setting = old.setting } → over_by_wire old.draft ≡ None → input_wire (begun old.draft) ≡ begun new.draft
one_input old new e h =
    ap (λ (o : Option OverLimit). let b : Built = record { draft = with_wire old.draft true; over = o } in b) h ∙ ap (λ (n : Building). begun n.draft) (sym e)

pub made_more : (ps qs : List Operand) (old new : Building) (w : WireId) (rest : ℕ) → new ≡ record { draft = with_wire old.draft true; setting = old.setting } → w.number ≡ length old.draft.wires → qs ≡ ps ++ made w ∷ []
    → qs ++ all_made (wires_from (length new.draft.wires) rest) ≡ ps ++ all_made (wires_from (length old.draft.wires) (suc rest))
made_more ps qs old new w rest e n q =
    ap (λ z. z ++ all_made (wires_from (length new.draft.wires) rest)) (q ∙ ap (λ m. ps ++ made (wire_id m) ∷ []) n)
    ∙ ap (λ m. (ps ++ made (wire_id (length old.draft.wires)) ∷ []) ++ all_made (wires_from m rest)) (ap (λ (b : Building). length b.draft.wires) e ∙ wires_more old.draft)
    ∙ append_assoc ps (made (wire_id (length old.draft.wires)) ∷ []) (all_made (wires_from (suc (length old.draft.wires)) rest))

-- one parameter more
pub shown_more : (ks ls : List Known) (k : Known) (more : List Known) → ls ≡ k ∷ ks → reverse ls ++ more ≡ reverse ks ++ k ∷ more
shown_more ks ls k more e = ap (λ z. reverse z ++ more) e ∙ ap (λ z. z ++ more) (reverse-append (k ∷ []) ks) ∙ append_assoc (reverse ks) (k ∷ []) more
