-- Changes of wires: of what a state knows, and what is left.
use Rattle.std.proofs.Common.{◌≡◌, ℕ, List, [], ◌∷◌, length, ℤ, refl, sym, ap, true, ◌∙◌, subst}
use Rattle.silq_tree.specs.declared.node.NameId.{NameId}
use Rattle.silq_tree.specs.declared.node.UpdateOp.{UpdateOp}
use Rattle.silq_types.specs.declared.types.Shape.{Shape}
use Rattle.silq_mean.specs.Effect.{step, claim, update_to}
use Rattle.flat_core.specs.declared.step.WireId.{WireId}
use Rattle.flat_core.specs.declared.step.End.{End}
use Rattle.flat_core.specs.declared.step.End.TheVariants.{Zeroed}
use Rattle.flat_core.specs.Drafts.{with_end}
use Rattle.bit_arith.specs.declared.operand.Operand.{Operand}
use Rattle.bit_arith.specs.Built.{Built, begun}
use Rattle.bit_arith.specs.Rows.{flip_each}
use Rattle.bit_arith.specs.Calls.{Building, Went, among}
use Rattle.bit_arith.specs.Does.{Below}
use Rattle.bit_arith.proofs.Going.{went_then, went_grows}
use Rattle.bit_arith.proofs.Keeps.{flip_each_x}
use Rattle.bit_arith.proofs.Listed.{below_more, safe_under}
use Rattle.flat_form.specs.declared.known.TypedBits.{TypedBits}
use Rattle.flat_form.specs.declared.known.Known.{Known}
use Rattle.flat_form.specs.declared.known.Known.TheVariants.{Shown}
use Rattle.flat_form.specs.State.{Flattening, last, operands_of, typed_as, typed_like, part_shape, part_of, wires_in, are_wires}
use Rattle.flat_form.specs.Flat.{end_all, known_in, without_name}
use Rattle.flat_form.specs.Good.{IsShown, IsKnown}
use Rattle.flat_form.specs.Fine.{IsOf, UpdatesPart, MayChange, without_part}
use Rattle.flat_steps.specs.Ready.{Ready}
use Rattle.flat_form.proofs.Kept.{known_last, known_name}
use Rattle.flat_form.proofs.Giving.{typed_as_known, typed_as_safe, size_of, length-part, wires_part, length-in}
use Rattle.flat_form.proofs.Goods.{below_targets, last_spared}
use Rattle.flat_steps.specs.Changes.{MayChangeBy, zeroed}

-- ---- ends

end_all_over : (e : End) (ws : List WireId) (b : Built) → (end_all e ws b).over ≡ b.over
end_all_over e [] b = refl
end_all_over e (w ∷ ws) b = end_all_over e ws (record b { draft = with_end b.draft w e })

-- the wires that were changed are there still
pub below_zeroed : (old mid : Building) (ws : List WireId) (ps : List Operand) → MayChangeBy old ws ps → Went old mid (flip_each old.setting ws ps (begun old.draft)) → Below (length mid.draft.wires) ws
below_zeroed old mid ws ps m w =
    below_more (length old.draft.wires) (length mid.draft.wires) ws
    (went_grows old mid _ (flip_each_x old.setting ws ps (begun old.draft)) w).grows.few (below_targets old.draft ws m.targets)

pub went_zeroed : (old mid new : Building) (ws : List WireId) (ps : List Operand) → Went old mid (flip_each old.setting ws ps (begun old.draft)) → new ≡ record { draft = (end_all Zeroed ws (begun mid.draft)).draft; setting = mid.setting } → Went old new (zeroed old.setting ws ps (begun old.draft))
went_zeroed old mid new ws ps w e =
    went_then old mid new _ (λ at b. end_all Zeroed ws b) w
    (record {
      within = end_all_over Zeroed ws (begun mid.draft);
      built = ap (λ (b : Building). b.draft) e;
      kept = ap (λ (b : Building). b.setting) e;
    })

-- ---- what may be changed

-- what `MayClaim` says of a variable that shows its bits
abbrev Claims : NameId → Flattening → TypedBits → Type 0
Claims x s v = IsOf (λ w. w.shape ≡ v.shape) (typed_like 0 (Shown v) (last s)) × (are_wires v.operands ≡ true) × MayChange (wires_in v.operands) s (without_name x s)

-- the wires of a part, by the last value
pub updates_by : (s : Flattening) (x : NameId) (is : List ℤ) (op : UpdateOp) (v : TypedBits) (value : Known) → Ready (step (update_to x is op)) s → known_in s x ≡ Shown v → value ≡ last s → MayChangeBy (record { draft = s.built.draft; setting = s.setting }) (wires_in (part_of v.shape is v.operands)) (operands_of (typed_as 0 (part_shape v.shape is) value))
updates_by s x is op v value r e same =
    let n : ℕ = length s.built.draft.wires in
    let t : Shape = part_shape v.shape is in
    let ws : List WireId = wires_in (part_of v.shape is v.operands) in
    let f : UpdatesPart x is op s v = subst (λ (k : Known). IsOf (UpdatesPart x is op s) k) e r.fine.0 in
    let known : IsKnown n (last s) = known_last (IsKnown n) s tt r.good.known in
    subst (λ (k : Known). MayChangeBy (record { draft = s.built.draft; setting = s.setting }) ws (operands_of (typed_as 0 t k))) (sym same)
    (record {
      lengths = length-in (part_of v.shape is v.operands) (wires_part v is f.wires) ∙ (length-part v is f.there ∙ sym (size_of n t (typed_as 0 t (last s)) (typed_as_known n 0 t (last s) known) f.operand));
      targets = f.change.targets;
      safe = safe_under n (among ws) s.setting (operands_of (typed_as 0 t (last s))) f.change.condition
          (typed_as_safe n 0 (among ws) t (last s) known (last_spared (among ws) (without_part x is v s) f.change.spared));
    })

-- the wires of a variable, by the last value
pub claims_by : (s : Flattening) (line : ℕ) (x : NameId) (v : TypedBits) (value : Known) → Ready (claim line x) s → known_in s x ≡ Shown v → value ≡ last s → MayChangeBy (record { draft = s.built.draft; setting = s.setting }) (wires_in v.operands) (operands_of (typed_as 0 v.shape value))
claims_by s line x v value r e same =
    let n : ℕ = length s.built.draft.wires in
    let ws : List WireId = wires_in v.operands in
    let f : Claims x s v = subst (λ (k : Known). IsOf (Claims x s) k) e r.fine in
    let shown : IsShown n v = subst (IsKnown n) e (known_name (IsKnown n) s x tt r.good.known) in
    let known : IsKnown n (last s) = known_last (IsKnown n) s tt r.good.known in
    subst (λ (k : Known). MayChangeBy (record { draft = s.built.draft; setting = s.setting }) ws (operands_of (typed_as 0 v.shape k))) (sym same)
    (record {
      lengths = length-in v.operands f.1 ∙ (shown.size ∙ sym (size_of n v.shape (typed_as 0 v.shape (last s)) (typed_as_known n 0 v.shape (last s) known) f.0));
      targets = f.2.targets;
      safe = safe_under n (among ws) s.setting (operands_of (typed_as 0 v.shape (last s))) f.2.condition
          (typed_as_safe n 0 (among ws) v.shape (last s) known (last_spared (among ws) (without_name x s) f.2.spared));
    })
