-- The end of an entry: what is left of its wires is returned, measured or forgotten.
use Rattle.std.proofs.Common.{◌≡◌, ◌⊎◌, inl, inr, ℕ, ◌+◌, ◌≤◌, ◌<◌, Bool, true, false, not, List, [], length, reverse, refl, sym, ap, ◌∙◌, subst, arith, nat_lt}
use Rattle.std.specs.Prelude.{Ok, ℤ}
use mathlib.Core.List.{reverse-reverse}
use Rattle.std.proofs.lemmas.Bool.{cases_lt, ltb-true}
use Rattle.silq_tree.specs.declared.node.NameId.{NameId}
use Rattle.silq_tree.specs.Syntax.{Function}
use Rattle.silq_types.specs.declared.built_in.BuiltIn.{BuiltIn}
use Rattle.silq_types.specs.declared.signature.Returned.{Returned}
use Rattle.silq_types.specs.Programs.{paired as static_pairs}
use Rattle.silq_mean.specs.Written.{Header}
use Rattle.check_fun.specs.Program.{param_names, param_vars}
use Rattle.silq_mean.specs.declared.receiver.Receiver.TheVariants.{EntryOutput}
use Rattle.silq_mean.specs.Effect.{Effect, ◌>>◌, step, enter_body}
use Rattle.silq_mean.specs.Meaning.{body_of, give_held}
use Rattle.silq_mean.specs.Table.{Job}
use Rattle.flat_core.specs.declared.step.StepId.{StepId}
use Rattle.flat_core.specs.declared.step.WireId.{WireId}
use Rattle.flat_core.specs.declared.step.End.TheVariants.{Output, Dropped}
use Rattle.flat_core.specs.Form.{DraftForm, WireForm}
use Rattle.flat_core.specs.Label.{changes, step_in, no_step, wire_in}
use Rattle.flat_core.specs.Sound.{is_x}
use Rattle.bit_arith.specs.declared.operand.Operand.{Operand}
use Rattle.bit_arith.specs.Built.{Built}
use Rattle.bit_arith.specs.Calls.{among, IsTarget, AreTargets}
use Rattle.flat_form.specs.declared.known.Known.{Known}
use Rattle.flat_form.specs.State.{Flattening, wires_so_far, wires_in}
use Rattle.flat_form.specs.Flat.{flat, end_all, wire_lists, joined}
use Rattle.flat_form.specs.Fine.{Distinct}
use Rattle.flat_form.specs.Good.{IsKnown, Good}
use Rattle.flat_form.specs.Names.{AllOf}
use Rattle.flat_form.specs.Jobs.{FineJob, EndsWell}
use Rattle.flat_form.proofs.Later.{end_all_steps}
use Rattle.flat_form.proofs.Goods.{good_flat}
use Rattle.flat_form.proofs.Both.{all_reverse}
use Rattle.flat_typed.specs.Places.{Places, times_in, owners_of}
use Rattle.flat_typed.specs.Footprint.{is_mixed, Owed}
use Rattle.flat_typed.specs.Done.{changeable}
use Rattle.flat_typed.specs.Calls.{named_times, quantum_times, BodyDone}
use Rattle.flat_typed.specs.Scopes.{as_meaning, scope_for}
use Rattle.flat_typed.specs.Bodies.{ShowsConsts}
use Rattle.flat_typed.proofs.Ordered.{clash}
use Rattle.flat_typed.proofs.Owning.{times_distinct, each_named, all_targets}
use Rattle.flat_typed.proofs.Ending.{times_are_among}
use Rattle.flat_typed.proofs.BodyEnds.{changeable_owned}
use Rattle.flat_typed.proofs.EntryBegins.{AllQuantum, param_shapes, held_times}
use Rattle.flat_typed.proofs.EntryParams.{AllMatch}
use Rattle.flat_typed.proofs.EntryStands.{args_long, its_params, its_names, shapes, args, its_places, entered, outside_entry, at_params, at_most, named_below, split, hold, unmeasured, entry_taken, entry_begins}
use Rattle.flat_typed.proofs.GivenHeld.{AreWires, GivesHeld, gives_held, inputs_sized}
use Rattle.bit_arith.specs.Built.{begun}
use Rattle.flat_core.specs.Drafts.{empty_draft}
use Rattle.flat_typed.proofs.NamedWires.{all_operands, StillDropped, joined_is, times_all, named_reverse, results_wires, quantum_few, step_mixes, still_dropped}

module _ (words : List (NameId × BuiltIn)) (before : List Function) (f : Function) (statics : List ℤ) (h : Header) (len : length f.params ≡ length h.params) (quantum : AllQuantum h.params) (differ : param_names [] f.params ≡ Ok tt) (match : AllMatch f (static_pairs f.statics statics) f.params h.params) where
  abbrev start : Flattening
  start = entered words before f statics h len quantum differ

  abbrev known_args : List Known
  known_args = args words before f statics h len quantum differ

  abbrev W : Places
  W = its_places words before f statics h len quantum differ

  abbrev body_effect : Effect
  body_effect = body_of f.body (as_meaning EntryOutput (scope_for words before f statics h))

  abbrev pub entry_effect : Effect
  entry_effect = (step (enter_body (its_names words before f statics h len quantum differ)) >> body_effect) >> give_held (its_params words before f statics h len quantum differ)

  abbrev pub entry_job : Job
  entry_job = record { effect = entry_effect; shapes = param_shapes h.params }

  module _ (results : List Returned) (B : BodyDone (outside_entry words before f statics h len quantum differ) f h body_effect W start results) (C : ShowsConsts f h W (flat body_effect start)) where
    abbrev u : Flattening
    u = flat body_effect start

    abbrev s : Flattening
    s = flat (give_held (its_params words before f statics h len quantum differ)) u

    abbrev held : WireId → ℕ
    held w = held_times h.params known_args w

    given : GivesHeld (give_held (its_params words before f statics h len quantum differ)) h.params known_args u
    given = gives_held f (static_pairs f.statics statics) W 0 f.params h.params known_args u match (args_long words before f statics h len quantum differ) (at_params words before f statics h len quantum differ)
        (inputs_sized W 0 h.params (begun empty_draft) (at_params words before f statics h len quantum differ)) C

    -- what is named at the end: results and const parameters
    named_end : (w : WireId) → named_times s.values w ≡ held w + named_times B.answers w
    named_end w =
        let a = given.times w in
        let b : named_times u.values w ≡ named_times B.answers w = ap (λ l. named_times l w) B.values ∙ named_reverse w B.answers in
        omega (arith, a, b)

    most : (w : WireId) → named_times known_args w ≤ 1
    most w = at_most words before f statics h len quantum differ w

    not_owned : (w : WireId) → 1 ≤ held w → owners_of W (param_vars 0 f.params h.params) [] w ≡ 0
    not_owned w le =
        let a = most w in
        let b = split words before f statics h len quantum differ w in
        let c = hold words before f statics h len quantum differ w in
        omega (arith, a, b, c, le)

    held_below : (w : WireId) → 1 ≤ held w → w.number < wires_so_far start
    held_below w le = named_below words before f statics h len quantum differ w (let b = split words before f statics h len quantum differ w in omega (arith, b, le))

    apart : (w : WireId) → 1 ≤ held w → 1 ≤ named_times B.answers w → ⊥
    apart w le m = go (B.ours w m)
      where
        go : (changeable (outside_entry words before f statics h len quantum differ) W (param_vars 0 f.params h.params) [] w ≡ true) ⊎ (wires_so_far start ≤ w.number) → ⊥
        go (inl c) = let a = changeable_owned (outside_entry words before f statics h len quantum differ) W (param_vars 0 f.params h.params) w c in let z = not_owned w le in omega (arith, a, z)
        go (inr n) = let a = held_below w le in omega (arith, a, n)

    once_end : (w : WireId) → named_times s.values w ≤ 1
    once_end w = go (cases_lt 0 (held w)) (cases_lt 0 (named_times B.answers w))
      where
        go : (0 < held w) ⊎ (held w ≤ 0) → (0 < named_times B.answers w) ⊎ (named_times B.answers w ≤ 0) → named_times s.values w ≤ 1
        go (inl a) (inl b) = absurd (apart w (omega (arith, a)) (omega (arith, b)))
        go (inl a) (inr b) =
            let n = named_end w in
            let m = most w in
            let t = split words before f statics h len quantum differ w in
            omega (arith, n, b, m, t)
        go (inr a) y = let n = named_end w in let o = B.one w in omega (arith, n, a, o)

    free_held : (w : WireId) → 1 ≤ held w → IsTarget u.built.draft w
    free_held w le = (
      (let a = held_below w le in let g = B.touches.grown in omega (arith, a, g)),
      B.touches.measured w (held_below w le) still ∙ unmeasured words before f statics h len quantum differ w,
    )
      where
        still : changeable (outside_entry words before f statics h len quantum differ) W (param_vars 0 f.params h.params) [] w ≡ false
        still = ap (λ n. nat_lt 0 n) (not_owned w le)

    free_end : (w : WireId) → 1 ≤ named_times s.values w → IsTarget u.built.draft w
    free_end w le = go (cases_lt 0 (held w))
      where
        go : (0 < held w) ⊎ (held w ≤ 0) → IsTarget u.built.draft w
        go (inl a) = free_held w (omega (arith, a))
        go (inr z) = B.free w (let n = named_end w in omega (arith, n, z, le))

    abbrev outs : List WireId
    outs = joined (wire_lists (reverse s.values))

    abbrev out_operands : List Operand
    out_operands = all_operands (reverse s.values)

    outs_are : outs ≡ wires_in out_operands
    outs_are = joined_is (reverse s.values)

    times_out : (w : WireId) → times_in w out_operands ≡ named_times s.values w
    times_out w = times_all w (reverse s.values) ∙ named_reverse w s.values

    -- what must not be dropped is returned
    owed_returned : (w : WireId) → Owed u.built.draft w → 1 ≤ named_times s.values w
    owed_returned w o = go (B.owed w o)
      where
        go : (1 ≤ quantum_times results B.answers w) ⊎ (nat_lt 0 (held w) ≡ true) → 1 ≤ named_times s.values w
        go (inl q) = let a = quantum_few results B.answers w in let n = named_end w in omega (arith, q, a, n)
        go (inr e) = let a = ltb-true 0 (held w) e in let n = named_end w in omega (arith, a, n)

    draft_same : s.built.draft ≡ u.built.draft
    draft_same = ap (λ (b : Built). b.draft) given.built

    none_dropped : (w : WireId) → (wire_in (end_all Output outs s.built).draft.wires w).ending ≡ Dropped → ((wire_in (end_all Output outs s.built).draft.wires w).input ≡ true) ⊎ (is_mixed s.built.draft.steps w ≡ true) → ⊥
    none_dropped w e why = out (among outs w) refl
      where
        d : StillDropped outs s.built w
        d = still_dropped outs s.built w e

        reason : ((wire_in (end_all Output outs s.built).draft.wires w).input ≡ true) ⊎ (is_mixed s.built.draft.steps w ≡ true) → ((wire_in s.built.draft.wires w).input ≡ true) ⊎ (is_mixed s.built.draft.steps w ≡ true)
        reason (inl i) = inl (ap (λ (r : WireForm). r.input) (sym d.same) ∙ i)
        reason (inr m) = inr m

        owed : Owed u.built.draft w
        owed = subst (λ (x : DraftForm). Owed x w) draft_same (record { there = d.there; untold = ap (λ (r : WireForm). r.ending) (sym d.same) ∙ e; why = reason why })

        out : (b : Bool) → among outs w ≡ b → ⊥
        out b q = clash (sym (ap (λ l. among l w) outs_are ∙ times_are_among w out_operands (subst (λ n. 1 ≤ n) (sym (times_out w)) (owed_returned w owed))) ∙ d.other)

    pub entry_is_fine : FineJob entry_job × EndsWell entry_job
    entry_is_fine = (
      (
        ((entry_taken words before f statics h len quantum differ, B.fine), given.fine),
        given.wires (subst (AllOf AreWires) (sym B.values) (all_reverse AreWires B.answers (results_wires (wires_so_far start) (wires_so_far u) W results B.answers B.each known_answers))),
      ),
      record {
        inputs = λ w i e. none_dropped w e (inl i);
        dropped = λ n w lt e c. x_alone n w lt e c (is_x (step_in (end_all Output outs s.built).draft.steps n)) refl;
        distinct = subst Distinct (sym outs_are) (times_distinct out_operands (λ w. subst (λ n. n ≤ 1) (sym (times_out w)) (once_end w)));
        free = subst (AreTargets s.built.draft) (sym outs_are) (all_targets s.built.draft (wires_in out_operands)
            (each_named (IsTarget s.built.draft) out_operands (λ w le. subst (λ (x : DraftForm). IsTarget x w) (sym draft_same) (free_end w (subst (λ n. 1 ≤ n) (times_out w) le)))));
      },
    )
      where
        good_end : Good u
        good_end = good_flat body_effect start (entry_begins words before f statics h len quantum differ).good B.fine

        known_answers : AllOf (IsKnown (wires_so_far u)) B.answers
        known_answers = subst (AllOf (IsKnown (wires_so_far u))) (ap reverse B.values ∙ reverse-reverse B.answers) (all_reverse (IsKnown (wires_so_far u)) u.values good_end.known.values)

        x_alone : (n : StepId) (w : WireId) → n.number < length (end_all Output outs s.built).draft.steps → (wire_in (end_all Output outs s.built).draft.wires w).ending ≡ Dropped
            → changes w (step_in (end_all Output outs s.built).draft.steps n) ≡ true → (b : Bool) → is_x (step_in (end_all Output outs s.built).draft.steps n) ≡ b → b ≡ true
        x_alone n w lt e c true q = refl
        x_alone n w lt e c false q =
            absurd (none_dropped w e (inr (ap (λ l. is_mixed l w) (sym (end_all_steps Output outs s.built)) ∙ step_mixes (end_all Output outs s.built).draft.steps n.number w no_step lt c q)))
