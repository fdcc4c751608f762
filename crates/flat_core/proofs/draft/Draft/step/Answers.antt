use Rattle.std.proofs.Common.{◌≡◌, ℕ, ◌+◌, ◌<◌, true, false, cond, length, IfSome, Bool, ◌++◌, ◌∷◌, [], add-zero, sym, ap, ◌∙◌, subst, arith}
use Rattle.std.proofs.lemmas.Bool.{both_ways}
use Rattle.flat_core.specs.Form.{DraftForm}
use Rattle.flat_core.specs.Drafts.{with_step, IsNextStep}
use Rattle.flat_core.specs.Rows.{IsDraftRows, marked, row_for, draft_of}
use Rattle.flat_core.specs.Label.{main_wire}
use Rattle.flat_core.specs.Sound.{is_m}
use Rattle.flat_core.proofs.KeptLabels.{length-steps_of}
use Rattle.flat_core.proofs.RowsKept.{label_fits, rows_step, rows_there, draft_of-step}
use Rattle.flat_core.proofs.draft.Draft.step.Goals as goal
use Rattle.flat_core.proofs.draft.Draft.step.Goals.{then-measures-2, else-measures-2, else-measures-via-then-measures+else-self-ge-MOST_OUTCOMES, else-measures-via-else-measures}

pub mark-requires-clause-room : goal.mark-requires-clause-room
mark-requires-clause-room c =
    let next : IsNextStep _ c.args.step = subst (λ (d : DraftForm). IsNextStep d c.args.step) (sym c.self.view_is) c.requires in
    label_fits c.self.inside.wires.items c.self.inside.steps.items c.self.inside.outcomes c.main_wire.result c.self.invariant (subst (λ o. IfSome o (λ w. w.number < length c.self.inside.wires.items)) (sym c.main_wire.ensures) (rows_there c.self.inside.wires.items c.args.step next.there).0)

pub invariant_of-self-then-measures-2 : goal.invariant_of-self-then-measures-2
invariant_of-self-then-measures-2 c =
    let next : IsNextStep _ c.args.step = subst (λ (d : DraftForm). IsNextStep d c.args.step) (sym c.self.view_is) c.requires in
    let few : c.self.inside.outcomes < 4096 = elim c.else-measures.branch [
      | else-measures-via-then-measures+else-self-ge-MOST_OUTCOMES w ↦ omega arith
      | else-measures-via-else-measures w ↦ absurd (both_ways c.is_measure-measures.result w.if-measures.false c.if-measures-2.true)
    ] in
    let m : true ≡ is_m c.args.step = c.if-measures-2.ensures in
    rw (c.mark.ensures, c.main_wire.ensures, c.is_measure-measures.ensures, c.in_ok-push.ensures.items, c.row_of.ensures, c.deref.ensures.value)
    (subst (λ (b : Bool). IsDraftRows (marked c.self.inside.wires.items (main_wire c.args.step) (is_m c.args.step)) (c.self.inside.steps.items ++ row_for c.self.inside.wires.items c.args.step c.args.line ∷ []) (c.self.inside.outcomes + cond b 1 0)) (sym m) (rows_step c.self.inside.wires.items c.self.inside.steps.items c.self.inside.outcomes c.args.step c.args.line c.self.invariant next (λ _. few) (omega arith)))

pub invariant_of-self-else-measures-2 : goal.invariant_of-self-else-measures-2
invariant_of-self-else-measures-2 c =
    let next : IsNextStep _ c.args.step = subst (λ (d : DraftForm). IsNextStep d c.args.step) (sym c.self.view_is) c.requires in
    let m : false ≡ is_m c.args.step = c.if-measures-2.ensures in
    rw (c.mark.ensures, c.main_wire.ensures, c.is_measure-measures.ensures, c.in_ok-push.ensures.items, c.row_of.ensures, c.deref.ensures.value)
    (subst (λ (n : ℕ). IsDraftRows (marked c.self.inside.wires.items (main_wire c.args.step) (is_m c.args.step)) (c.self.inside.steps.items ++ row_for c.self.inside.wires.items c.args.step c.args.line ∷ []) n) (ap (λ (b : Bool). c.self.inside.outcomes + cond b 1 0) (sym m) ∙ add-zero c.self.inside.outcomes) (rows_step c.self.inside.wires.items c.self.inside.steps.items c.self.inside.outcomes c.args.step c.args.line c.self.invariant next (λ t. absurd (both_ways (is_m c.args.step) (sym m) t)) (omega arith)))

pub returns-clause-made : goal.returns-clause-made
returns-clause-made c =
    let number : c.len-number.result ≡ length c.args.self.now.steps = (
    let short = length-steps_of c.self.inside.steps.items in
    let view = ap (λ (d : DraftForm). length d.steps) c.self.view_is in
    omega arith) in
    let made : draft_of c.mark.new.rows.items c.push.new.self.items ≡ with_step c.args.self.now c.args.step c.args.line =
    rw (c.mark.ensures, c.main_wire.ensures, c.is_measure-measures.ensures, c.in_ok-push.ensures.items, c.row_of.ensures, c.deref.ensures.value)
    (draft_of-step c.self.inside.wires.items c.self.inside.steps.items c.args.step c.args.line ∙ ap (λ (d : DraftForm). with_step d c.args.step c.args.line) c.self.view_is) in
    elim c.if-measures-2.branch [
      | then-measures-2 w ↦ (number, w.self-is ∙ made)
      | else-measures-2 w ↦ (number, w.self-is ∙ made)
    ]
