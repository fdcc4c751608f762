-- Ends of the wires of values, one value after another.
use Rattle.std.proofs.Common.{◌≡◌, ℕ, ◌+◌, ◌<◌, List, [], ◌∷◌, ◌++◌, length, drop, get_or, refl, sym, ap, ◌∙◌, subst}
use Rattle.std.proofs.lemmas.List.{drop_more, length-set}
use Rattle.flat_core.specs.declared.step.WireId.{WireId}
use Rattle.flat_core.specs.declared.step.End.{End}
use Rattle.flat_core.specs.Form.{DraftForm, WireForm}
use Rattle.flat_core.specs.Label.{wire_in}
use Rattle.flat_core.specs.Drafts.{with_end}
use Rattle.bit_arith.specs.Built.{Built, begun}
use Rattle.bit_arith.specs.Calls.{Building}
use Rattle.bit_arith.specs.Does.{Below}
use Rattle.flat_form.specs.declared.known.Known.{Known}
use Rattle.flat_form.specs.State.{operands_of, wires_in}
use Rattle.flat_form.specs.Flat.{end_all, wire_lists, joined}
use Rattle.flat_form.specs.Names.{AllOf}

end_append : (e : End) (xs ys : List WireId) (b : Built) → end_all e (xs ++ ys) b ≡ end_all e ys (end_all e xs b)
end_append e [] ys b = refl
end_append e (x ∷ xs) ys b = end_append e xs ys (record b { draft = with_end b.draft x e })

pub end_begun : (e : End) (ws : List WireId) (d : DraftForm) → end_all e ws (begun d) ≡ begun (end_all e ws (begun d)).draft
end_begun e [] d = refl
end_begun e (w ∷ ws) d = end_begun e ws (with_end d w e)

pub end_length : (e : End) (ws : List WireId) (d : DraftForm) → length (end_all e ws (begun d)).draft.wires ≡ length d.wires
end_length e [] d = refl
end_length e (w ∷ ws) d = let row : WireForm = record { input = (wire_in d.wires w).input; ending = e } in end_length e ws (with_end d w e) ∙ length-set d.wires w.number row

-- the wires of the next value were ended
pub record Next (e : End) (values : List Known) (i : ℕ) (old new : Building) : Type 0 where
  pub built : end_all e (joined (wire_lists (drop (i + 1) values))) (begun new.draft) ≡ end_all e (joined (wire_lists (drop i values))) (begun old.draft)
  pub kept : new.setting ≡ old.setting
  pub below : AllOf (λ ws. Below (length old.draft.wires) ws) (wire_lists (drop i values)) → AllOf (λ ws. Below (length new.draft.wires) ws) (wire_lists (drop (i + 1) values))

pub next_ended : (e : End) (values : List Known) (i : ℕ) (k : Known) (old new : Building) (ws : List WireId)
    → i < length values → k ≡ get_or values i k → ws ≡ wires_in (operands_of k) → new ≡ record { draft = (end_all e ws (begun old.draft)).draft; setting = old.setting } → Next e values i old new
next_ended e values i k old new ws low is w n = record {
  built =
      ap (λ (b : Building). end_all e (joined (wire_lists (drop (i + 1) values))) (begun b.draft)) n
      ∙ ap (end_all e (joined (wire_lists (drop (i + 1) values)))) (sym (end_begun e ws old.draft))
      ∙ ap (λ z. end_all e (joined (wire_lists (drop (i + 1) values))) (end_all e z (begun old.draft))) w
      ∙ sym (end_append e (wires_in (operands_of k)) (joined (wire_lists (drop (i + 1) values))) (begun old.draft))
      ∙ ap (λ z. end_all e (joined (wire_lists z)) (begun old.draft)) (sym split);
  kept = ap (λ (b : Building). b.setting) n;
  below = λ h.
      let h' = subst (λ z. AllOf (λ vs. Below (length old.draft.wires) vs) (wire_lists z)) split h in
      subst (λ m. AllOf (λ vs. Below m vs) (wire_lists (drop (i + 1) values))) (sym same) h'.1;
}
  where
    split : drop i values ≡ k ∷ drop (i + 1) values
    split = drop_more values i k low ∙ ap (λ z. z ∷ drop (i + 1) values) (sym is)

    same : length new.draft.wires ≡ length old.draft.wires
    same = ap (λ (b : Building). length b.draft.wires) n ∙ end_length e ws old.draft
