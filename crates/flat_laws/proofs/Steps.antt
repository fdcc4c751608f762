-- The flat form follows the source, effect by effect.
use Rattle.std.proofs.Common.{◌≡◌, ◌+◌, List, ◌++◌, Option, Some, None, refl, sym, ap, ◌∙◌, arith}
use Rattle.std.proofs.lemmas.Bool.{eq-eqb}
use Rattle.silq_mean.specs.Effect.{Effect, nothing, ◌>>◌, statement, step, mix, measure as measured, claim, choice, Step, give_static, give_typed, give_part, one_operand, two_operands, copy_last, repeat_last, flip_last, turn_by, turn_all, receive, assign_to, assign_in_turn, update_to, end_name, end_compared, enter_block, leave_block, enter_body, leave_body, Outcome, follow}
use Rattle.flat_core.specs.declared.step.Step.{Step as FlatStep}
use Rattle.flat_core.specs.Label.{label_after}
use Rattle.bit_arith.specs.declared.operand.Operand.{Operand}
use Rattle.bit_arith.specs.declared.operand.Operand.TheVariants.{Const, Literal}
use Rattle.bit_arith.proofs.Steps.{label-append}
use Rattle.flat_form.specs.State.{Flattening}
use Rattle.flat_form.specs.Flat.{flat, count_statement, on_line, chosen_by, first_branch, second_branch}
use Rattle.flat_form.specs.Good.{Good}
use Rattle.flat_form.specs.Fine.{Fine, FineStep, SameEnd, Keeps, KeepsAll}
use Rattle.flat_laws.specs.Laws.{EffectsFollow}
use Rattle.flat_form.proofs.Later.{later_then}
use Rattle.flat_form.proofs.Goods.{Goes, chosen_safe, good_statement, goes_first, goes_second, goes_flat}
use Rattle.flat_laws.proofs.Compose.{LeavesOperand, Leaves, Leads, leads_nothing, leads_then, leads_statement, follows_by}
use Rattle.flat_laws.proofs.Choice.{leads_choice}
use Rattle.flat_laws.proofs.Gates.{choice_bit}
use Rattle.flat_laws.proofs.Turning.{leads_flip_last, leads_turn_by, leads_turn_all, leads_mix}
use Rattle.flat_laws.proofs.Measuring.{leads_measure}
use Rattle.flat_laws.proofs.Naming.{leads_give_static, leads_give_typed, leads_give_part, leads_assign_to, leads_assign_in_turn, leads_end_name, leads_end_compared, leads_enter_block, leads_leave_block, leads_enter_body, leads_leave_body}
use Rattle.flat_laws.proofs.Valuing.{leads_one_operand, leads_two_operands, leads_copy_last, leads_repeat_last, leads_receive}
use Rattle.flat_laws.proofs.Updating.{leads_update_to, leads_claim}

-- ---- what is needed beside `Fine`

-- ---- steps

pub leads_step : (o : Outcome) (st : Step) (s : Flattening) → Good s → FineStep st s → Leads o s (flat (step st) s) (follow o (step st))
leads_step o (give_static z) s g f = leads_give_static o z s
leads_step o (give_typed k z) s g f = leads_give_typed o k z s
leads_step o (give_part need x is) s g f = leads_give_part o need x is s g f.0 f.1
leads_step o (one_operand op) s g f = leads_one_operand o op s g f
leads_step o (two_operands op) s g f = leads_two_operands o op s g f
leads_step o copy_last s g f = leads_copy_last o s g f
leads_step o repeat_last s g f = leads_repeat_last o s g f.0 f.1
leads_step o flip_last s g f = leads_flip_last o s g f
leads_step o (turn_by k l) s g f = leads_turn_by o k l s f.1 f.2 g f.0
leads_step o (turn_all k) s g f = leads_turn_all o k s f g
leads_step o (receive r) s g f = leads_receive o r s g f
leads_step o (assign_to x is) s g f = leads_assign_to o x is s g f.0 f.1
leads_step o (assign_in_turn xs) s g f = leads_assign_in_turn o xs s
leads_step o (update_to x is op) s g f = leads_update_to o x is op s g f.0 f.1
leads_step o (end_name x) s g f = leads_end_name o x s
leads_step o (end_compared x) s g f = leads_end_compared o x s
leads_step o enter_block s g f = leads_enter_block o s
leads_step o leave_block s g f = leads_leave_block o s
leads_step o (enter_body xs) s g f = leads_enter_body o xs s
leads_step o leave_body s g f = leads_leave_body o s

-- ---- choices

-- what keeps its label is not changed by the new steps
pub keeps_leaves : (p : Operand) (s u : Flattening) (new : List FlatStep) → u.built.draft.steps ≡ s.built.draft.steps ++ new → Keeps p s u → LeavesOperand p new
keeps_leaves (Const b) s u new g k = tt
keeps_leaves (Literal l) s u new g k =
    let a : label_after u.built.draft.steps l.wire ≡ label_after s.built.draft.steps l.wire = k l.wire (eq-eqb l.wire.number l.wire.number refl) in
    let b : label_after u.built.draft.steps l.wire ≡ label_after s.built.draft.steps l.wire + label_after new l.wire = ap (λ ss. label_after ss l.wire) g ∙ label-append s.built.draft.steps new l.wire in
    omega (arith, a, b)

pub keeps_all : (c : Option Operand) (s u : Flattening) (new : List FlatStep) → u.built.draft.steps ≡ s.built.draft.steps ++ new → KeepsAll c s u → Leaves c new
keeps_all None s u new g k = tt
keeps_all (Some p) s u new g k = keeps_leaves p s u new g k

-- both branches begin with the same names and values, so they leave the same
both_end : (s one two : Flattening) → SameEnd (first_branch s) one → SameEnd (second_branch one s) two → SameEnd one two
both_end s one two a b = record { env = sym a.env ∙ b.env; values = sym a.values ∙ b.values; callers = sym a.callers ∙ b.callers }

-- ---- effects

pub leads_flat : (o : Outcome) (e : Effect) (s : Flattening) → Good s → Fine e s → Leads o s (flat e s) (follow o e)
leads_flat o nothing s g f = leads_nothing o s
leads_flat o (d >> e) s g f =
    let q : Goes s (flat d s) = goes_flat d s g f.0 in
    leads_then o s (flat d s) (flat e (flat d s)) (follow o d) (follow o e) (leads_flat o d s g f.0) (leads_flat o e (flat d s) q.good f.1)
leads_flat o (statement line e) s g f =
    leads_statement o line e s (leads_flat o e (on_line line (count_statement s)) (good_statement line s g) f)
leads_flat o (step st) s g f = leads_step o st s g f
leads_flat o mix s g f = leads_mix o s g f
leads_flat o measured s g f = leads_measure o s g f
leads_flat o (claim line x) s g f = leads_claim o x s g f
leads_flat o (choice d e) s g f =
    let first : Flattening = first_branch s in
    let one : Flattening = flat d first in
    let second : Flattening = second_branch one s in
    let two : Flattening = flat e second in
    let p = goes_first s g in
    let q : Goes first one = goes_flat d first p.good f.1 in
    let r = goes_second s one g (later_then s.built.draft first.built.draft one.built.draft p.later q.later) in
    let m : Leads o first one (follow o d) = leads_flat o d first p.good f.1 in
    let n : Leads o second two (follow o e) = leads_flat o e second r.good f.2 in
    leads_choice o s one two (chosen_by s) (follow o d) (follow o e) g q.good (chosen_safe s g) (choice_bit s g f.0) m n
    (keeps_leaves (chosen_by s) first one m.new m.grown f.3.kept)
    (keeps_all s.setting.condition first one m.new m.grown f.3.outer_first)
    (keeps_all s.setting.condition second two n.new n.grown f.3.outer_second) (both_end s one two f.3.stays_first f.3.stays_second)

pub effects_follow : EffectsFollow
effects_follow o e s g f = follows_by o e s (goes_flat e s g f).good (leads_flat o e s g f)
