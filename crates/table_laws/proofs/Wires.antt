-- Each parameter and each result of an accepted program's flat form has a wire.
use Rattle.std.proofs.Common.{◌≡◌, ◌≢◌, ℕ, ◌<◌, List, [], ◌∷◌, map, length, reverse, All, get_or, ap, sym, subst, arith}
use Rattle.std.proofs.lemmas.List.Elements.{All-nil, All-cons}
use Rattle.silq_types.specs.declared.types.Shape.{Shape}
use Rattle.silq_types.specs.Types.{shape_bits}
use Rattle.silq_mean.specs.Table.{Job}
use Rattle.flat_core.specs.declared.step.WireId.{WireId}
use Rattle.flat_form.specs.State.{Flattening}
use Rattle.flat_form.specs.Flat.{flat, begin, flattened}
use Rattle.flat_form.specs.Good.{Good, IsKnown}
use Rattle.flat_form.specs.Jobs.{FineJob}
use Rattle.flat_form.specs.Names.{AllOf}
use Rattle.flat_form.proofs.Both.{all_reverse}
use Rattle.flat_form.proofs.Goods.{good_flat}
use Rattle.flat_laws.proofs.Begins.{good_begin}
use Rattle.flat_typed.proofs.GivenHeld.{AreWires}
use Rattle.path_laws.proofs.ParameterLists.{parameters_have_their_bits}
use Rattle.table_laws.specs.Laws.{HasWires}
use Rattle.table_laws.proofs.Sizes.{HasBits, values_have_wires}
use Rattle.table_laws.proofs.Entries.{JobHasBits}

abbrev later_numbers : List ℕ → List ℕ
later_numbers [] = []
later_numbers (n ∷ ns) = ns

lists_have_wires : (lists : List (List WireId)) (ss : List Shape) → map length lists ≡ map shape_bits ss → AllOf (λ s. 0 < shape_bits s) ss
    → All (λ ws. ws ≢ []) lists
lists_have_wires [] ss e h = All-nil (λ ws. ws ≢ [])
lists_have_wires (ws ∷ lists) [] e h =
    absurd (let g : length (length ws ∷ map length lists) ≡ length {A = ℕ} [] = ap length e in omega (arith, g))
lists_have_wires (ws ∷ lists) (s ∷ ss) e h =
    All-cons (λ xs. xs ≢ []) ws lists (some ws (subst (λ n. 0 < n) (sym (ap (λ ns. get_or ns 0 0) e)) h.0))
    (lists_have_wires lists ss (ap later_numbers e) h.1)
  where
    some : (ws : List WireId) → 0 < length ws → ws ≢ []
    some [] l e = absurd (omega (arith, l))
    some (w ∷ ws) l e = let g : length (w ∷ ws) ≡ length {A = WireId} [] = ap length e in absurd (omega (arith, g))

pub has_wires : (j : Job) → FineJob j → JobHasBits j → HasWires j
has_wires j fine bits =
    let s : Flattening = flat j.effect (begin j.shapes) in
    let good : Good (flat j.effect (begin j.shapes)) = good_flat j.effect (begin j.shapes) (good_begin j.shapes) fine.0 in
    record {
      ins = lists_have_wires (flattened j).form.ins j.shapes (parameters_have_their_bits j) bits.1;
      outs =
          values_have_wires (length (flat j.effect (begin j.shapes)).built.draft.wires) (reverse (flat j.effect (begin j.shapes)).values)
          (all_reverse HasBits (flat j.effect (begin j.shapes)).values bits.0)
          (all_reverse AreWires (flat j.effect (begin j.shapes)).values fine.1)
          (all_reverse (IsKnown (length (flat j.effect (begin j.shapes)).built.draft.wires)) (flat j.effect (begin j.shapes)).values good.known.values);
    }
