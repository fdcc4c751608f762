-- The ends and the lists of the form that is made of a program fit, and within all limits it is a flat form.
use Rattle.std.proofs.Common.{◌≡◌, ℕ, zero, suc, ◌+◌, ◌≤◌, ◌<◌, true, false, List, [], ◌∷◌, length, reverse, sym, ap, ◌∙◌, subst, arith, ◌⊎◌, inl, inr, None}
use Rattle.std.specs.Prelude.{get_or}
use Rattle.std.proofs.lemmas.Bool.{cases_lt, false_from_ne_true}
use Rattle.std.proofs.lemmas.List.{get_or_past, reverse-reverse}
use Rattle.std.proofs.lemmas.List.Folds.{list_any_at}
use Rattle.silq_types.specs.declared.types.Shape.{Shape}
use Rattle.silq_types.specs.Types.{shape_bits}
use Rattle.silq_mean.specs.Effect.{follow}
use Rattle.silq_mean.specs.Table.{Job, total_size}
use Rattle.flat_core.specs.declared.step.WireId.{WireId}
use Rattle.flat_core.specs.declared.step.StepId.{StepId}
use Rattle.flat_core.specs.declared.step.End.TheVariants.{Output, Measured}
use Rattle.flat_core.specs.Form.{DraftForm, FlatForm, WireForm}
use Rattle.flat_core.specs.Label.{no_wire, no_step, wire_in, end_of, is_input}
use Rattle.flat_core.specs.Ends.{measures}
use Rattle.flat_core.specs.Drafts.{FitsEnds, empty_draft, with_wire, over_by_wire, is_measured}
use Rattle.flat_core.specs.Sound.{joined, NamesExactly, IsFlat}
use Rattle.bit_arith.specs.Built.{Built, begun, or_later, wires_from}
use Rattle.bit_arith.specs.Calls.{among}
use Rattle.bit_arith.specs.Does.{Below, Different}
use Rattle.bit_arith.proofs.Steps.{clash}
use Rattle.flat_form.specs.Flat.{flat, begin, inputs, input_wires, flattened, wire_lists, end_all, joined as all_joined}
use Rattle.flat_form.specs.Good.{Good}
use Rattle.flat_form.specs.Jobs.{FineJob, EndsWell}
use Rattle.flat_laws.specs.Laws.{EndsFit, WithinLimitsFlat}
use Rattle.flat_form.proofs.Later.{end_all_steps, end_all_length, end_all_input}
use Rattle.flat_form.proofs.Goods.{below_targets, different_wires}
use Rattle.flat_laws.proofs.Begins.{good_begin}
use Rattle.flat_laws.proofs.Compose.{no_input, Leads}
use Rattle.flat_laws.proofs.Steps.{leads_flat}
use Rattle.flat_laws.proofs.Whole.{AllInputs, begin_inputs, begin_length}
use Rattle.flat_laws.proofs.EndsKept.{Ended, Turned, end_all_ending, targets_unmeasured, output_measured}
use Rattle.flat_core.proofs.Drafting.{draft_empty}
use Rattle.flat_core.proofs.Finishes.{drafts_become_flat}
use Rattle.flat_laws.proofs.EndsDraft.{Sound, sound_wire}
use Rattle.flat_laws.proofs.EndsMine.{end_drafts}
use Rattle.flat_laws.proofs.EndsSound.{sound_flat}
use Rattle.flat_laws.proofs.EndsLists.{names_by, contains_among, among_contains, once_different, below_among, first_wires, joined_inputs, joined_same, place}

-- ---- the start

ended_empty : Ended empty_draft
ended_empty = record {
  measured = λ w m. absurd (clash m);
  has_m = λ w q. absurd (output_measured (sym (ap (λ (r : WireForm). r.ending) (get_or_past [] w.number no_wire (omega arith))) ∙ q));
  no_output = λ w lt q. absurd (omega (arith, lt));
}

sound_inputs : (n : ℕ) (b : Built) → Sound b → Sound (input_wires n b)
sound_inputs zero b h = h
sound_inputs (suc n) b h = sound_inputs n (record { draft = with_wire b.draft true; over = or_later b.over (over_by_wire b.draft) }) (sound_wire true b h)

sound_begin : (ss : List Shape) (b : Built) → Sound b → Sound (inputs ss b).built
sound_begin [] b h = h
sound_begin (s ∷ ss) b h = sound_begin ss (input_wires (shape_bits s) b) (sound_inputs (shape_bits s) b h)

-- ---- the whole form

module _ (j : Job) (fine : FineJob j) (well : EndsWell j) where
  abbrev form : FlatForm
  form = (flattened j).form

  abbrev start : DraftForm
  start = (begin j.shapes).built.draft

  abbrev end : Built
  end = (flat j.effect (begin j.shapes)).built

  abbrev outs : List WireId
  outs = all_joined form.outs

  good : Good (begin j.shapes)
  good = good_begin j.shapes

  sound : Sound end
  sound = sound_flat j.effect (begin j.shapes) good fine.0 (sound_begin j.shapes (begun empty_draft) (record { ended = ended_empty; draft = λ o. draft_empty }))

  ended : Ended end.draft
  ended = sound.ended

  below : Below (length end.draft.wires) outs
  below = subst (Below (length end.draft.wires)) (joined_same form.outs) (below_targets end.draft (joined form.outs) well.free)

  free : (w : WireId) → among outs w ≡ true → is_measured end.draft.steps w ≡ false
  free w a = targets_unmeasured end.draft (joined form.outs) w well.free (ap (λ ws. among ws w) (joined_same form.outs) ∙ a)

  turned : (w : WireId) → Turned Output outs end.draft (end_all Output outs end).draft w
  turned w = end_all_ending Output outs end w below

  same_steps : form.steps ≡ end.draft.steps
  same_steps = end_all_steps Output outs end

  same_length : length form.wires ≡ length end.draft.wires
  same_length = end_all_length Output outs end

  same_input : (w : WireId) → is_input form w ≡ (wire_in start.wires w).input
  same_input w =
      let m : Leads (λ n. false) (begin j.shapes) (flat j.effect (begin j.shapes)) (follow (λ n. false) j.effect) = leads_flat (λ n. false) j.effect (begin j.shapes) good fine.0 in
      end_all_input Output outs end w below ∙ m.inputs w

  told : (w : WireId) → is_measured end.draft.steps w ≡ true → Turned Output outs end.draft (end_all Output outs end).draft w → end_of form w ≡ Measured
  told w m (inl y) = absurd (clash (sym (free w y.0) ∙ m))
  told w m (inr y) = y.1 ∙ ended.measured w m

  has_m : (w : WireId) → end_of form w ≡ Measured → Turned Output outs end.draft (end_all Output outs end).draft w → is_measured end.draft.steps w ≡ true
  has_m w q (inl y) = absurd (output_measured (sym y.1 ∙ q))
  has_m w q (inr y) = ended.has_m w (sym y.1 ∙ q)

  -- ---- parameters

  many : length start.wires ≡ total_size j.shapes
  many = begin_length j.shapes (begun empty_draft) ∙ none (total_size j.shapes)
    where
      none : (n : ℕ) → 0 + n ≡ n
      none n = omega arith

  all_inputs : AllInputs start
  all_inputs = begin_inputs j.shapes (begun empty_draft) (λ w lt. absurd (omega (arith, lt)))

  input_low : (w : WireId) → is_input form w ≡ true → (w.number < total_size j.shapes) ⊎ (total_size j.shapes ≤ w.number) → w.number < total_size j.shapes
  input_low w i (inl lt) = lt
  input_low w i (inr le) = absurd (clash (sym (same_input w ∙ no_input start w (omega (arith, many, le))) ∙ i))

  ins_name : NamesExactly form.ins (λ w. is_input form w ≡ true)
  ins_name =
      names_by form.ins (wires_from 0 (total_size j.shapes)) (λ w. is_input form w ≡ true)
      (ap (λ ks. joined (wire_lists ks)) (reverse-reverse (inputs j.shapes (begun empty_draft)).answer) ∙ joined_inputs j.shapes (begun empty_draft))
      (first_wires (total_size j.shapes) (λ w. is_input form w ≡ true) (λ w lt. same_input w ∙ all_inputs w (omega (arith, many, lt))) (λ w i. input_low w i (cases_lt w.number (total_size j.shapes))))

  -- ---- results

  abbrev IsResult : WireId → Type 0
  IsResult w = (w.number < length form.wires) × (end_of form w ≡ Output)

  result_only : (w : WireId) → among outs w ≡ true → Turned Output outs end.draft (end_all Output outs end).draft w → IsResult w
  result_only w a (inl y) = (let lt = below_among (length end.draft.wires) outs w below a in omega (arith, lt, same_length), y.1)
  result_only w a (inr y) = absurd (clash (sym y.0 ∙ a))

  result_each : (w : WireId) → IsResult w → Turned Output outs end.draft (end_all Output outs end).draft w → among outs w ≡ true
  result_each w r (inl y) = y.0
  result_each w r (inr y) = absurd (ended.no_output w (let lt = r.0 in omega (arith, lt, same_length)) (sym y.1 ∙ r.1))

  outs_name : NamesExactly form.outs IsResult
  outs_name =
      names_by form.outs outs IsResult (joined_same form.outs)
      (record {
        only = λ w c. result_only w (contains_among outs w c) (turned w);
        each = λ w r. among_contains outs w (result_each w r (turned w));
        once = once_different outs (subst Different (joined_same form.outs) (different_wires (joined form.outs) well.distinct));
      })

  measured_place : (w : WireId) → end_of form w ≡ Measured → (t : StepId) × (t.number < length form.steps) × (measures w (get_or form.steps t.number no_step) ≡ true)
  measured_place w q = place w form.steps (ap (λ ss. is_measured ss w) same_steps ∙ has_m w q (turned w))

  pub fitting : FitsEnds form
  fitting = record {
    dropped_is_new = λ w d. false_from_ne_true (is_input form w) (λ i. well.inputs w i d);
    dropped_has_x = well.dropped;
    m_is_measured = λ t w lt m. told w (ap (λ ss. is_measured ss w) (sym same_steps) ∙ list_any_at (measures w) form.steps t.number no_step lt m) (turned w);
    measured_has_m = measured_place;
    ins_name = ins_name;
    outs_name = outs_name;
  }

  pub flat_within : (flattened j).over ≡ None → IsFlat form
  flat_within over =
      drafts_become_flat (end_all Output outs end).draft (wire_lists (reverse (begin j.shapes).values)) form.outs (end_drafts Output outs end below sound.draft over) fitting

pub ends_fit : EndsFit
ends_fit j fine well = fitting j fine well

pub within_limits_flat : WithinLimitsFlat
within_limits_flat j fine well over = flat_within j fine well over
