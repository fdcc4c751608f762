-- A call of one of the program's own functions: its arguments, the body from where it is entered, and what the caller has behind it.
use Rattle.std.proofs.Common.{◌≡◌, ◌⊎◌, inl, inr, ℕ, ◌+◌, ◌≤◌, ◌<◌, Bool, true, false, not, ◌&&◌, List, [], ◌∷◌, ◌++◌, length, map, ℤ, refl, sym, ap, ◌∙◌, subst, arith}
use Rattle.std.specs.Prelude.{reverse}
use Rattle.std.proofs.lemmas.List.{length-map, reverse-reverse}
use Rattle.silq_tree.specs.Syntax.{Function}
use Rattle.silq_types.specs.declared.built_in.BuiltIn.{BuiltIn}
use Rattle.silq_tree.specs.declared.node.NameId.{NameId}
use Rattle.silq_types.specs.declared.need.Need.{Need}
use Rattle.silq_types.specs.declared.need.Need.TheVariants as needs
use Rattle.silq_types.specs.declared.signature.Param.{Param}
use Rattle.silq_types.specs.declared.signature.Returned.{Returned}
use Rattle.silq_types.specs.declared.types.Ty.{Ty}
use Rattle.silq_types.specs.declared.values.Value.{Value}
use Rattle.silq_types.specs.Types.{Statics}
use Rattle.silq_types.specs.Calls.{is_consumed}
use Rattle.silq_types.specs.Programs.{paired}
use Rattle.silq_mean.specs.Written.{Header}
use Rattle.check_scope.specs.declared.uses.Use.{Use}
use Rattle.check_scope.specs.Context.{Scope, Context}
use Rattle.check_expr.specs.Expression.{asked_by, may_call, is_unmarked, is_run_time, is_qfree, all_lifted, lone_linear}
use Rattle.check_expr.specs.Owners.{owners, owned, handed_arguments, Sole, Proper}
use Rattle.check_fun.specs.Program.{param_vars}
use Rattle.silq_mean.specs.declared.receiver.Receiver.{Receiver}
use Rattle.silq_mean.specs.declared.receiver.Receiver.TheVariants.{CallResult}
use Rattle.silq_mean.specs.Effect.{Effect, ◌>>◌, step, enter_body, leave_body}
use Rattle.silq_mean.specs.Meaning.{body_of, names_of, params_of}
use Rattle.flat_core.specs.declared.step.WireId.{WireId}
use Rattle.flat_core.specs.declared.step.End.TheVariants.{Dropped}
use Rattle.flat_core.specs.Label.{wire_in}
use Rattle.bit_arith.specs.Built.{Setting}
use Rattle.bit_arith.specs.Calls.{Targets}
use Rattle.flat_form.specs.declared.known.TypedBits.{TypedBits}
use Rattle.flat_form.specs.declared.known.Known.{Known}
use Rattle.flat_form.specs.declared.known.Known.TheVariants.{Shown}
use Rattle.flat_form.specs.State.{Caller, Flattening, operands_of, wires_so_far}
use Rattle.flat_form.specs.Flat.{call_began, enter, back_to, flat}
use Rattle.flat_form.specs.Fine.{Fine, FineStep}
use Rattle.flat_form.specs.Names.{AllOf, names}
use Rattle.flat_form.specs.Good.{Good, IsKnown}
use Rattle.flat_form.proofs.Both.{all_reverse}
use Rattle.flat_form.proofs.Goods.{good_flat, good_step}
use Rattle.flat_typed.specs.Places.{Places, is_part, carriers, linear_carriers, owners_of}
use Rattle.flat_typed.specs.Relation.{Outside, Stands, PartsDiffer, BeganFrom, IsTakenOver, is_argument}
use Rattle.flat_typed.specs.Footprint.{used_wires, consumed_wires, Touches, StaysPlain, Unmade}
use Rattle.flat_typed.specs.Scopes.{as_meaning, scope_for}
use Rattle.flat_typed.specs.Done.{Begins, ExprTells, StmtBegins, Leaves, EndsDropped, carrying, need_for, changeable, kinds}
use Rattle.flat_typed.specs.Calls.{Three, carried, named_times, ArgsTells, BodyDone, BodyFine, first_context}
use Rattle.flat_typed.proofs.Ordered.{clash}
use Rattle.flat_typed.proofs.Owning.{all_front}
use Rattle.flat_typed.proofs.Scopes.{taken_param}
use Rattle.flat_typed.proofs.Surrounding.{all_unnamed}
use Rattle.flat_typed.proofs.Parameters.{operands_at, at_places, AllEntered, all_entered, params_whole, params_sole}
use Rattle.flat_typed.proofs.BodyEntering.{inside, body_begin, enters, enters_fine, stands_entered}
use Rattle.flat_typed.proofs.CallArguments.{IsSuited, IsArgument, all_arguments, weighs}
use Rattle.flat_typed.proofs.CallResults.{IsHanded}
use Rattle.flat_typed.proofs.CallLists.{all_handed, old_stays, lifted_carry}
use Rattle.flat_typed.proofs.CallMarks.{calls_open, calls_plain, and_left, placed_kinds}
use Rattle.flat_typed.proofs.Inputs.{later_none}
use Rattle.flat_typed.proofs.Growing.{touches_then}
use Rattle.flat_typed.proofs.Agreeing.{holders_agree, carriers_agree}
use Rattle.flat_typed.proofs.Handing.{with_all}
use Rattle.flat_typed.proofs.CallFacts.{Made}
use Rattle.flat_typed.proofs.Returning.{returned, ours, alone, changed_is, vars_same, under_same, shows_each, stands_returned}
use Rattle.flat_typed.proofs.CallAnswers.{all_answers, all_sharing, all_typed, all_own, each_own, several_own, stands_carried, carried_moved, all_are_taken, three_long}
use Rattle.flat_form.specs.Shows.{ListBoth}

-- ---- the call

module _ (out : Outside) (sc : Scope) (low : ℕ) (others : ℕ → ℕ) (W : Places) (under : List Value) (us : List Use) (c : Context) (s : Flattening) (b0 : Begins out sc low others W under us c s) (E : Effect) (h : Header) (vs : List Value) (d : Context)
    (a : ArgsTells out sc (map taken_param h.params) E W under us c s vs d) (suited : ListBoth IsSuited h.params vs) (words : List (NameId × BuiltIn)) (before : List Function) (fun : Function) (zs : List ℤ) (rs : List Returned)
    (long : length fun.params ≡ length h.params) (differ : PartsDiffer (param_vars 0 fun.params h.params)) (allowed : may_call sc.this.mark fun.mark ≡ true) (open_air : is_unmarked fun.mark && is_run_time sc ≡ false)
    (fine : BodyFine words before CallResult fun zs h rs) where
  abbrev pub s1 : Flattening
  s1 = flat E s

  abbrev pub after : Places
  after = a.done.after

  abbrev pub ks : List Known
  ks = a.done.answers

  abbrev pub statics : Statics
  statics = paired fun.statics zs

  abbrev pub names_in : List NameId
  names_in = names_of (params_of fun statics)

  abbrev pub B : Effect
  B = body_of fun.body (as_meaning CallResult (scope_for words before fun zs h))

  abbrev pub F : Effect
  F = E >> ((step (enter_body names_in) >> B) >> step leave_body)

  abbrev pub begun : Flattening
  begun = body_begin out sc.held after h.params vs ks under d s1 s.values fun statics

  pub good1 : Good s1
  good1 = good_flat E s b0.good a.done.fine

  pub entered : AllEntered after (operands_at ks) 0 h.params vs ks
  entered = all_entered after (operands_at ks) _ _ (wires_so_far s) c.next 0 h.params vs ks (at_places ks) a.done.each

  names_long : length names_in ≡ length ks
  names_long =
      length-map (params_of fun statics) _
      ∙ (length-map fun.params _ ∙ (long ∙ (sym (length-map h.params taken_param) ∙ three_long _ (map taken_param h.params) vs ks a.done.each)))

  pub at_body : enter names_in s1 ≡ begun
  at_body = enters names_in ks s.values s1 names_long a.done.values

  pub enter_fine : FineStep (enter_body names_in) s1
  enter_fine = enters_fine names_in ks s.values s1 names_long a.done.values (all_are_taken after _ _ (wires_so_far s) c.next (map taken_param h.params) vs ks a.done.each)

  -- no value below names a wire that a carried argument owns
  lower : (w : WireId) → 1 ≤ carriers after w (carried (map taken_param h.params) vs) → AllOf (λ k. names k w ≡ false) s.values
  lower w le = go (carried_moved after _ _ (wires_so_far s) c.next w (map taken_param h.params) vs ks a.done.each le)
    where
      go : (consumed_wires W c.vars us w ≡ true) ⊎ (wires_so_far s ≤ w.number) → AllOf (λ k. names k w ≡ false) s.values
      go (inl q) = b0.apart w q
      go (inr l) = all_unnamed (wires_so_far s) s.values b0.good.known.values w l

  pub body_begins : StmtBegins (inside out after under d) (scope_for words before fun zs h) (length h.params) (λ p. 0) (operands_at ks) (first_context fun h) begun
  body_begins = record {
    good = subst Good at_body (good_step (enter_body names_in) s1 good1 enter_fine);
    unmade = a.done.unmade;
    sole = params_sole fun.params h.params;
    stands = stands_entered out sc.held after h.params vs ks under d s1 s.values fun statics long entered a.done.stands differ a.done.apart lower;
    whole = params_whole 0 fun.params h.params;
    block = omega arith;
    open_air = λ u f. ap (λ (x : Setting). x.condition) a.done.leaves.setting ∙ b0.open_air (calls_open sc.this.mark fun.mark allowed u) (and_left (is_unmarked fun.mark) (is_run_time sc) open_air u);
    none = refl;
  }

  pub body : BodyDone (inside out after under d) fun h B (operands_at ks) begun rs
  body = fine (inside out after under d) (operands_at ks) begun body_begins

  -- ---- behind it

  back_is : (t : Flattening) (cs : List Caller) → cs ≡ begun.callers → back_to t cs ≡ returned s1 s.values t
  back_is t cs e = ap (back_to t) e

  pub behind : flat F s ≡ returned s1 s.values (flat B begun)
  behind = ap (λ x. back_to (flat B x) (flat B x).callers) at_body ∙ back_is (flat B begun) (flat B begun).callers body.callers

  pub call_fine : Fine F s
  call_fine = (a.done.fine, ((enter_fine, subst (Fine B) (sym at_body) body.fine), tt))

  pub args_known : AllOf (IsKnown (wires_so_far s1)) ks
  args_known =
      subst (AllOf (IsKnown (wires_so_far s1))) (reverse-reverse ks)
      (all_reverse (IsKnown (wires_so_far s1)) (reverse ks) (all_front (IsKnown (wires_so_far s1)) (reverse ks) s.values (subst (AllOf (IsKnown (wires_so_far s1))) a.done.values good1.known.values)))

  -- the call began with its first argument
  first_began : (cs : List Receiver) (xs : List Value) (ls : List Known) → AllOf (λ r. is_argument r ≡ true) cs → Three (IsTakenOver after (used_wires W c.vars us) (consumed_wires W c.vars us) (wires_so_far s) c.next) cs xs ls → wires_so_far s ≤ call_began (wires_so_far s1) ls
  first_began cs xs [] q t = a.done.touches.grown
  first_began [] [] (k ∷ ls) q t = absurd t
  first_began [] (x ∷ xs) (k ∷ ls) q t = absurd t
  first_began (r ∷ rs) [] (k ∷ ls) q t = absurd t
  first_began (r ∷ rs) (x ∷ xs) (k ∷ ls) q t = subst (λ l. wires_so_far s ≤ call_began (wires_so_far s1) (l ∷ ls)) (sym t.0.shows) (at_least k t.0.shows (t.0.began q.0))
    where
      at_least : (k : Known) {v : TypedBits} → k ≡ Shown v → BeganFrom (wires_so_far s) k → wires_so_far s ≤ v.began
      at_least k e b = subst (BeganFrom (wires_so_far s)) e b

  argument_takers : (ps : List Param) → AllOf (λ r. is_argument r ≡ true) (map taken_param ps)
  argument_takers [] = tt
  argument_takers (p ∷ ps) = (refl, argument_takers ps)

  pub results_began : AllOf (BeganFrom (wires_so_far s)) body.answers
  results_began = body.began (wires_so_far s) a.done.touches.grown (first_began (map taken_param h.params) vs ks (argument_takers h.params) a.done.each)

  -- ---- what the caller has then

  module _ (need : Need) (wants : List Ty) (xs : List Value) (e : Context) (made : Made (is_qfree fun.mark && all_lifted h.params vs) h.params vs d rs xs e) (proper : Proper h.params rs)
      (arg_sole : (low : ℕ) (others : ℕ → ℕ) → Sole low others c → Sole low (λ p. others p + handed_arguments needs.Held (map asked_by h.params) p vs) d) (named : not (is_consumed need) && lone_linear xs ≡ false) where
    inputs : (w : WireId) → wires_so_far s1 ≤ w.number → (wire_in (flat B begun).built.draft.wires w).input ≡ false
    inputs w le = later_none B begun w le

    abbrev lifts : Bool
    lifts = is_qfree fun.mark && all_lifted h.params vs

    abbrev args : List Value
    args = carried (map taken_param h.params) vs

    abbrev used : Targets
    used = used_wires W c.vars us

    abbrev gone : Targets
    gone = consumed_wires W c.vars us

    abbrev n : ℕ
    n = wires_so_far s

    up : c.next ≤ d.next
    up = (arg_sole c.next others (record { grown = omega arith; one = b0.sole.one; ahead = b0.sole.ahead })).grown

    sole_here : (p : ℕ) → owners p d.vars + (others p + owned p xs) ≤ 1
    sole_here p = subst (λ l. owners p l + (others p + owned p xs) ≤ 1) made.vars ((made.sole low others (arg_sole low others b0.sole)).one p)

    ours_here : (w : WireId) → 1 ≤ named_times body.answers w → (1 ≤ carriers after w args) ⊎ (wires_so_far s1 ≤ w.number)
    ours_here = ours out sc.held after h vs ks under d s1 s.values fun statics B rs long entered a.done.stands good1 body

    all_args : Three (IsArgument after used gone n c.next (λ w. owners_of after d.vars (args ++ under) w) args (wires_so_far s1)) h.params vs ks
    all_args = all_arguments after used gone n c.next (λ w. owners_of after d.vars (args ++ under) w) args (wires_so_far s1) h.params vs ks a.done.each a.given a.done.apart args_known suited

    handed : ListBoth (IsHanded after used n c.next) xs body.answers
    handed = all_handed after used gone n c.next d.next (wires_so_far s1) (λ w. owners_of after d.vars (args ++ under) w) args h.params vs ks all_args up a.done.touches.grown lifts rs xs body.answers body.each made.each (weighs h.params rs proper) ours_here

    placed : AllOf (λ v. is_part v ≡ true → v.place < c.next) d.vars
    placed = placed_kinds c.next c.vars d.vars a.done.kinds_stay b0.placed

    plain_here : lifts ≡ true → StaysPlain s1.built.draft (flat B begun).built.draft × ((w : WireId) → linear_carriers after w args ≡ 0)
    plain_here q = go (is_qfree fun.mark) (all_lifted h.params vs) refl refl q
      where
        go : (x y : Bool) → is_qfree fun.mark ≡ x → all_lifted h.params vs ≡ y → (x && y) ≡ true → StaysPlain s1.built.draft (flat B begun).built.draft × ((w : WireId) → linear_carriers after w args ≡ 0)
        go true true f l z = (body.plain f, λ w. lifted_carry after w h.params vs l)
        go true false f l z = clash (sym z)
        go false y f l z = clash (sym z)

    abbrev U : Places
    U = with_all after xs body.answers

    stands_then : Stands out sc.held U (xs ++ under) (record { vars = d.vars; next = e.next }) (returned s1 s.values (flat B begun))
    stands_then = stands_returned out sc.held after h vs ks under d s1 s.values fun statics B rs long entered a.done.stands good1 body xs lifts d.next used n c.next handed made.each others sole_here b0.counted placed plain_here inputs e.next

    shown_here : ListBoth (λ (x : Value) (k : Known). U x.place ≡ operands_of k) xs body.answers
    shown_here = shows_each out sc.held after h vs ks under d s1 s.values fun statics B rs long entered a.done.stands good1 body xs lifts d.next used n c.next handed made.each others sole_here b0.counted placed plain_here inputs

    -- no one else owns a wire of the values
    alone_here : (w : WireId) → 1 ≤ named_times body.answers w → owners_of U e.vars under w ≡ 0
    alone_here w le = subst (λ l. owners_of U l under w ≡ 0) (sym made.vars) (
        let p = holders_agree U after d.vars d.vars w (vars_same out sc.held after h vs ks under d s1 s.values fun statics B rs long entered a.done.stands good1 body xs lifts d.next used n c.next handed made.each others sole_here b0.counted placed plain_here inputs) in
        let q = carriers_agree U after w under (under_same out sc.held after h vs ks under d s1 s.values fun statics B rs long entered a.done.stands good1 body xs lifts d.next used n c.next handed made.each others sole_here b0.counted placed plain_here inputs) in
        let z = alone out sc.held after h vs ks under d s1 s.values fun statics B rs long entered a.done.stands good1 body w le in
        omega (arith, p, q, z))

    moved_here : (w : WireId) → 1 ≤ named_times body.answers w → (gone w ≡ true) ⊎ (n ≤ w.number)
    moved_here w le = go (ours_here w le)
      where
        go : (1 ≤ carriers after w args) ⊎ (wires_so_far s1 ≤ w.number) → (gone w ≡ true) ⊎ (n ≤ w.number)
        go (inl q) = carried_moved after used gone n c.next w (map taken_param h.params) vs ks a.done.each q
        go (inr l) = inr (let g = a.done.touches.grown in omega (arith, g, l))

    untouched : (w : WireId) → w.number < n → gone w ≡ false → changeable (inside out after under d) (operands_at ks) (param_vars 0 fun.params h.params) [] w ≡ false
    untouched w lt z = go (changeable (inside out after under d) (operands_at ks) (param_vars 0 fun.params h.params) [] w) refl
      where
        moved : (gone w ≡ true) ⊎ (n ≤ w.number) → true ≡ false
        moved (inl q) = sym q ∙ z
        moved (inr l) = absurd (omega (arith, l, lt))

        go : (x : Bool) → changeable (inside out after under d) (operands_at ks) (param_vars 0 fun.params h.params) [] w ≡ x → x ≡ false
        go false q = refl
        go true q = moved (carried_moved after used gone n c.next w (map taken_param h.params) vs ks a.done.each (changed_is out sc.held after h vs ks under d s1 s.values fun statics B rs long entered a.done.stands good1 body w q).0)

    -- the relation, on the state behind the whole call
    stands_here : Stands out sc.held U (carrying (need_for need xs) xs body.answers ++ under) e (flat F s)
    stands_here =
        subst (Stands out sc.held U (carrying (need_for need xs) xs body.answers ++ under) e) (sym behind)
        (subst (λ l. Stands out sc.held U (carrying (need_for need xs) xs body.answers ++ under) (record { vars = l; next = e.next }) (returned s1 s.values (flat B begun))) (sym made.vars)
        (stands_carried out sc.held U under (record { vars = d.vars; next = e.next }) (returned s1 s.values (flat B begun)) need xs body.answers
        (all_own after used n c.next xs body.answers handed) named stands_then))

    pub call_tells : ExprTells out sc need wants F W under us c s xs e
    call_tells = record {
      done = record {
        fine = call_fine;
        after = U;
        agree = λ p lt. old_stays after used n c.next xs body.answers handed p lt ∙ a.done.agree p lt;
        answers = body.answers;
        values = ap (λ (x : Flattening). x.values) behind ∙ ap (λ l. l ++ s.values) body.values;
        each = all_answers after U need used gone n c.next lifts vs d.next rs xs body.answers handed made.each shown_here results_began moved_here body.one;
        stands = stands_here;
        kinds_stay = ap (λ l. kinds l) made.vars ∙ a.done.kinds_stay;
        leaves =
            subst (Leaves s) (sym behind)
            (record { setting = body.setting ∙ a.done.leaves.setting; callers = a.done.leaves.callers; blocks = a.done.leaves.blocks; names = a.done.leaves.names });
        touches =
            subst (λ (x : Flattening). Touches gone s.built.draft x.built.draft) (sym behind)
            (touches_then gone (changeable (inside out after under d) (operands_at ks) (param_vars 0 fun.params h.params) []) s.built.draft s1.built.draft (flat B begun).built.draft a.done.touches body.touches untouched);
        plain = λ q.
            subst (λ (x : Flattening). StaysPlain s.built.draft x.built.draft) (sym behind)
            (λ w i. a.done.plain q w (body.plain (calls_plain sc.this.mark fun.mark allowed q) w i));
        unmade = subst (λ (x : Flattening). Unmade x.built.draft) (sym behind) body.unmade;
      };
      sharing = all_sharing after U need used gone n c.next lifts vs d.next (λ w. owners_of U e.vars under w) rs xs body.answers handed made.each alone_here;
      typed = λ q. all_typed after used n c.next xs body.answers handed;
      untold = subst (λ (x : Flattening). AllOf (EndsDropped n x.built.draft) body.answers) (sym behind) (all_dropped body.answers body.untold);
      several = several_own body.answers (each_own after used n c.next xs body.answers handed);
    }
      where
        all_dropped : (ls : List Known) → ((w : WireId) → 1 ≤ named_times ls w → (wire_in (flat B begun).built.draft.wires w).ending ≡ Dropped) → AllOf (EndsDropped n (flat B begun).built.draft) ls
        all_dropped [] q = tt
        all_dropped (k ∷ ls) q = ((λ w le l m. q w (omega (arith, le))), all_dropped ls (λ w le. q w (omega (arith, le))))
