-- Conditions of branches.
use Rattle.std.proofs.Common.{◌≡◌, ◌<◌, List, [], ◌∷◌, length, get_or, refl, sym, ap, ◌∙◌, subst, arith}
use Rattle.flat_core.specs.declared.step.WireId.{WireId}
use Rattle.flat_core.specs.Form.{DraftForm}
use Rattle.bit_arith.specs.declared.operand.Operand.{Operand}
use Rattle.bit_arith.specs.Built.{Built, Setting, begun, new_wire, next_wire}
use Rattle.bit_arith.specs.Rows.{copy, flip}
use Rattle.bit_arith.specs.Calls.{Building, Went}
use Rattle.bit_arith.proofs.Grows.{flip_x, length-new_wire}

-- a copy of one operand
pub copy_one : (at : Setting) (p : Operand) (b : Built) → (copy at (p ∷ []) b).built ≡ flip at (next_wire b) (p ∷ []) (new_wire b)
unfolding copy
copy_one at p b = refl

pub one_copy : (at : Setting) (p : Operand) (b : Built) → (copy at (p ∷ []) b).answer ≡ next_wire b ∷ []
unfolding copy
one_copy at p b = refl

-- its wire is there
pub one_there : (at : Setting) (p : Operand) (d : DraftForm) (old new : Building) → Went old new (copy at (p ∷ []) (begun d)).built → length d.wires < length new.draft.wires
one_there at p d old new w =
    let same : new.draft ≡ (flip at (next_wire (begun d)) (p ∷ []) (new_wire (begun d))).draft = w.built ∙ ap (λ (b : Built). b.draft) (copy_one at p (begun d)) in
    let few = (flip_x at (next_wire (begun d)) (p ∷ []) (new_wire (begun d))).grows.few in
    let one = length-new_wire (begun d) in
    subst (λ (e : DraftForm). length d.wires < length e.wires) (sym same) (omega arith)

-- the only wire of a list
pub only_one : (ws : List WireId) (w v : WireId) → ws ≡ w ∷ [] → v ≡ get_or ws 0 v → v ≡ w
only_one ws w v e is = is ∙ ap (λ (xs : List WireId). get_or xs 0 v) e
