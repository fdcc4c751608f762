-- What holds of the state in which a program begins.
use Rattle.std.proofs.Common.{◌≡◌, ℕ, zero, suc, ◌+◌, ◌≤◌, Bool, true, List, [], ◌∷◌, length, refl, sym, ap, ◌∙◌, arith, append-nil, length-append}
use Rattle.std.proofs.lemmas.List.{get_or_append_left, length-map}
use Rattle.silq_types.specs.declared.types.Shape.{Shape}
use Rattle.silq_types.specs.Types.{shape_bits}
use Rattle.flat_core.specs.declared.step.End.TheVariants.{Dropped}
use Rattle.flat_core.specs.Form.{DraftForm, WireForm}
use Rattle.flat_core.specs.Label.{no_wire}
use Rattle.flat_core.specs.Drafts.{empty_draft, with_wire, over_by_wire}
use Rattle.bit_arith.specs.Built.{Built, begun, or_later, made, wires_from}
use Rattle.bit_arith.specs.Calls.{no_target}
use Rattle.bit_arith.proofs.Listed.{all_off_none}
use Rattle.bit_arith.proofs.Making.{length-from, below_from}
use Rattle.bit_arith.proofs.Carrying.{safe_made}
use Rattle.flat_form.specs.Flat.{input_wires, inputs, begin}
use Rattle.flat_form.specs.Names.{AllOf}
use Rattle.flat_form.specs.Good.{IsKnown, Good}
use Rattle.flat_form.proofs.Both.{all_reverse}
use Rattle.flat_form.proofs.Later.{Later, later_same, later_then, later_fresh}
use Rattle.flat_form.proofs.Giving.{wires_made}

later_wire : (d : DraftForm) (input : Bool) → Later d (with_wire d input)
later_wire d input =
    let e : length (with_wire d input).wires ≡ length d.wires + 1 = length-append d.wires (record { input = input; ending = Dropped } ∷ []) in
    record {
      new = [];
      steps = sym (append-nil d.steps);
      longer = omega (arith, e);
      inputs = λ w lt. ap (λ (r : WireForm). r.input) (get_or_append_left d.wires (record { input = input; ending = Dropped } ∷ []) no_wire w.number lt);
      above = λ w le. refl;
    }

-- one input wire more
one_input : Built → Built
one_input b = record { draft = with_wire b.draft true; over = or_later b.over (over_by_wire b.draft) }

later_wires : (n : ℕ) (b : Built) → Later b.draft (input_wires n b).draft
unfolding one_input
later_wires zero b = later_same b.draft
later_wires (suc n) b = later_then b.draft (with_wire b.draft true) (input_wires (suc n) b).draft (later_wire b.draft true) (later_wires n (one_input b))

length-inputs : (n : ℕ) (b : Built) → length (input_wires n b).draft.wires ≡ length b.draft.wires + n
unfolding one_input
length-inputs zero b = omega arith
length-inputs (suc n) b =
    let e : length (with_wire b.draft true).wires ≡ length b.draft.wires + 1 = length-append b.draft.wires (record { input = true; ending = Dropped } ∷ []) in
    let f : length (input_wires n (one_input b)).draft.wires ≡ length (with_wire b.draft true).wires + n = length-inputs n (one_input b) in
    f ∙ (ap (λ m. m + n) e ∙ sums (length b.draft.wires) n)
  where
    sums : (a n : ℕ) → (a + 1) + n ≡ a + suc n
    sums a n = omega arith

later_inputs : (ss : List Shape) (b : Built) → Later b.draft (inputs ss b).built.draft
later_inputs [] b = later_same b.draft
later_inputs (s ∷ ss) b =
    later_then b.draft (input_wires (shape_bits s) b).draft (inputs (s ∷ ss) b).built.draft (later_wires (shape_bits s) b) (later_inputs ss (input_wires (shape_bits s) b))

inputs_known : (ss : List Shape) (b : Built) (m : ℕ) → length (inputs ss b).built.draft.wires ≤ m → AllOf (IsKnown m) (inputs ss b).answer
inputs_known [] b m le = tt
inputs_known (s ∷ ss) b m le =
    let n : ℕ = length b.draft.wires in
    let k : ℕ = shape_bits s in
    let e : length (input_wires k b).draft.wires ≡ n + k = length-inputs k b in
    let up : length (input_wires k b).draft.wires ≤ length (inputs (s ∷ ss) b).built.draft.wires = (later_inputs ss (input_wires k b)).longer in (
      record {
        size = length-map (wires_from n k) made ∙ length-from n k;
        there = safe_made m no_target (wires_from n k) (below_from n k m (omega (arith, e, up, le))) (all_off_none (wires_from n k));
        wires = λ o. wires_made (wires_from n k);
      },
      inputs_known ss (input_wires k b) m le,
    )

pub good_begin : (ss : List Shape) → Good (begin ss)
good_begin ss = record {
  fresh = later_fresh empty_draft (begin ss).built.draft (later_inputs ss (begun empty_draft)) (λ w le. refl);
  known = record {
    env = tt;
    values = all_reverse (IsKnown (length (begin ss).built.draft.wires)) (inputs ss (begun empty_draft)).answer (inputs_known ss (begun empty_draft) (length (begin ss).built.draft.wires) (omega arith));
    callers = tt;
  };
  condition = tt;
  read = tt;
  owned = record { env = tt; callers = tt };
}
