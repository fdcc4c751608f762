-- A measure of an expression, with what its value tells: its wires have no owner, and all of them are measured.
use Rattle.std.proofs.Common.{◌≡◌, ◌⊎◌, inl, inr, ℕ, suc, ◌≤◌, ◌<◌, Bool, true, false, cond, ◌&&◌, ◌||◌, List, [], ◌∷◌, ◌++◌, length, drop, refl, sym, ap, ◌∙◌, subst, arith}
use Rattle.std.specs.Prelude.{None, nat_le}
use Rattle.std.proofs.lemmas.Bool.{cases_lt}
use Rattle.silq_types.specs.declared.types.Ty.{Ty}
use Rattle.silq_types.specs.declared.values.Origin.TheVariants.{Classical}
use Rattle.silq_types.specs.declared.values.Value.{Value}
use Rattle.silq_types.specs.declared.need.Need.{Need}
use Rattle.silq_types.specs.declared.need.Need.TheVariants as needs
use Rattle.silq_types.specs.Calls.{is_consumed}
use Rattle.check_scope.specs.declared.uses.Use.{Use}
use Rattle.check_scope.specs.Context.{Scope, Context}
use Rattle.check_expr.specs.Expression.{is_qfree}
use Rattle.check_expr.specs.Owners.{owners, owned}
use Rattle.silq_mean.specs.Effect.{Effect, ◌>>◌, measure}
use Rattle.flat_core.specs.declared.step.Step.TheVariants.{M}
use Rattle.flat_core.specs.declared.step.WireId.{WireId}
use Rattle.flat_core.specs.declared.step.End.TheVariants.{Measured}
use Rattle.flat_core.specs.Label.{same_wire}
use Rattle.flat_core.specs.Drafts.{is_measured}
use Rattle.flat_core.specs.Sound.{count_measures}
use Rattle.flat_core.proofs.Labels.{is_measured-push}
use Rattle.bit_arith.specs.declared.operand.Operand.{Operand}
use Rattle.bit_arith.specs.Built.{Built, Setting, Given}
use Rattle.bit_arith.specs.Rows.{measure as measured}
use Rattle.bit_arith.specs.Calls.{Targets, among}
use Rattle.flat_form.specs.declared.known.TypedBits.{TypedBits}
use Rattle.flat_form.specs.declared.known.Known.{Known}
use Rattle.flat_form.specs.declared.known.Known.TheVariants.{Shown}
use Rattle.flat_form.specs.State.{Flattening, build, first, drop_last, wires_so_far, wires_in, taken}
use Rattle.flat_form.specs.Flat.{flat, end_all, measure_all, measure_value}
use Rattle.flat_form.specs.Fine.{MayMeasure, MayTake, IsOf}
use Rattle.flat_form.specs.Names.{names}
use Rattle.flat_form.proofs.Later.{end_all_steps}
use Rattle.flat_typed.specs.Places.{Places, times_in, owners_of}
use Rattle.flat_typed.specs.Footprint.{used_wires, consumed_wires}
use Rattle.flat_typed.specs.Relation.{Outside, Stands}
use Rattle.flat_typed.specs.Done.{Begins, ExprDone, ExprTells, Agree}
use Rattle.flat_typed.proofs.Ordered.{clash, or_left}
use Rattle.flat_typed.proofs.Owning.{among_times, no_times, same_swap}
use Rattle.flat_typed.proofs.Using.{times_among}
use Rattle.flat_typed.proofs.Growing.{touches_then}
use Rattle.flat_typed.proofs.Flipping.{Flips}
use Rattle.flat_typed.proofs.Touching.{flips_touch, flips_stay_plain, flips_unmade, flips_taken}
use Rattle.flat_typed.proofs.Telling.{measures_only, measuring_touches, measuring_unmade, ends_stay_plain}
use Rattle.flat_typed.proofs.Placing.{stands_pushed}
use Rattle.flat_typed.proofs.Taking.{Carried}
use Rattle.flat_typed.proofs.Giving.{Beyond, is_beyond}
use Rattle.flat_typed.proofs.Measured.{stands_measured}
use Rattle.flat_typed.proofs.Tame.{AllLeft}
use Rattle.flat_typed.proofs.Variables.{stands_vars}
use Rattle.flat_typed.proofs.Given.{GivesTold, then_tells}
use Rattle.flat_typed.proofs.Gates.{its_bits, its_values, its_offer, its_carried, its_may_take}

-- ---- each wire is measured

measured_here : (at : Setting) (w : WireId) (b : Built) (v : WireId) → (is_measured b.draft.steps v || same_wire w v) ≡ true → is_measured (measured at w b).draft.steps v ≡ true
unfolding measured
measured_here at w b v e = is_measured-push b.draft.steps (M w (count_measures b.draft.steps)) v ∙ e

or_first : (a b : Bool) → a ≡ true → (a || b) ≡ true
or_first true b e = refl
or_first false b e = clash (sym e)

or_second : (a b : Bool) → b ≡ true → (a || b) ≡ true
or_second true b e = refl
or_second false b e = e

stays_measured : (at : Setting) (ws : List WireId) (b : Built) (v : WireId) → is_measured b.draft.steps v ≡ true → is_measured (measure_all at ws b).draft.steps v ≡ true
stays_measured at [] b v e = e
stays_measured at (w ∷ ws) b v e = stays_measured at ws (measured at w b) v (measured_here at w b v (or_first (is_measured b.draft.steps v) (same_wire w v) e))

each_measured : (at : Setting) (ws : List WireId) (b : Built) (v : WireId) → among ws v ≡ true → is_measured (measure_all at ws b).draft.steps v ≡ true
each_measured at [] b v e = clash (sym e)
each_measured at (w ∷ ws) b v e = go (same_wire v w) refl e (λ a. each_measured at ws (measured at w b) v a)
  where
    go : (t : Bool) → same_wire v w ≡ t → (t || among ws v) ≡ true → (among ws v ≡ true → is_measured (measure_all at ws (measured at w b)).draft.steps v ≡ true) → is_measured (measure_all at ws (measured at w b)).draft.steps v ≡ true
    go true q a i = stays_measured at ws (measured at w b) v (measured_here at w b v (or_second (is_measured b.draft.steps v) (same_wire w v) (same_swap w v ∙ q)))
    go false q a i = i a

-- ---- behind an expression

module _ (out : Outside) (sc : Scope) (low : ℕ) (others : ℕ → ℕ) (W : Places) (under : List Value) (us : List Use) (c : Context) (s : Flattening) (b : Begins out sc low others W under us c s) (need : Need) (wants : List Ty) (e : Effect) (x : Value) (d : Context)
    (t : ExprTells out sc needs.Consumed [] e W under us c s (x ∷ []) d) (left : AllLeft c.vars d.vars) (alone : owners x.place d.vars ≡ 0) (apart : owned x.place under ≡ 0) (clear : (flat e s).setting.condition ≡ None) (later : c.next ≤ d.next) where
  abbrev s1 : Flattening
  s1 = flat e s

  abbrev n : ℕ
  n = wires_so_far s

  abbrev used : Targets
  used = used_wires W c.vars us

  abbrev consumed : Targets
  consumed = consumed_wires W c.vars us

  abbrev next_of : Context
  next_of = record d { next = suc d.next }

  abbrev outcome : Value
  outcome = record { ty = record { classical = true; shape = x.ty.shape }; origin = Classical; place = d.next }

  abbrev u : TypedBits
  u = (its_bits out sc low others W under us c s b need wants e x x d t left alone apart).bits

  abbrev given : Given (List Operand)
  given = taken s1.setting u s1.built

  abbrev k : Carried out sc.held t.done.after used consumed n c.next under d s1 x given
  k = its_carried out sc low others W under us c s b need wants e x x d t left alone apart

  abbrev U : Places
  U = k.after

  abbrev ws : List WireId
  ws = wires_in given.answer

  abbrev final : Built
  final = end_all Measured ws (measure_all s1.setting ws given.built)

  abbrev answer : Known
  answer = Shown (record { classical = true; shape = u.shape; operands = given.answer; own = false; began = u.began })

  abbrev behind : Flattening
  behind = record s1 { built = final; values = answer ∷ drop 1 s1.values }

  flips : (T : Targets) (m : ℕ) → m ≤ wires_so_far s1 → Flips T m s1.built given.built
  flips T m le = flips_taken T m s1.setting u s1.built le

  beyond : (w : WireId) → among ws w ≡ true → Beyond consumed n w ≡ true
  beyond w a = go (Beyond consumed n w) refl
    where
      go : (y : Bool) → Beyond consumed n w ≡ y → y ≡ true
      go true q = refl
      go false q = pick (k.moved w (among_times w given.answer a))
        where
          pick : (consumed w ≡ true) ⊎ (n ≤ w.number) → false ≡ true
          pick (inl m) = clash (sym m ∙ or_left (consumed w) (nat_le n w.number) q)
          pick (inr l) = absurd (is_beyond n w.number (consumed w) q l)

  unowned : (w : WireId) → 1 ≤ owners_of U d.vars under w → names answer w ≡ false
  unowned w le = no_times w given.answer (subst (λ ps. times_in w ps ≡ 0) (sym k.own.0) (let a = k.stands.one w in omega (arith, a, le)))

  none_carried : (y : Bool) → cond (y && false) (outcome ∷ []) [] ≡ []
  none_carried true = refl
  none_carried false = refl

  stands : Stands out sc.held U under next_of (build final s1)
  stands =
      stands_vars out sc.held U under d next_of (build final s1) refl
      (subst (λ ps. Stands out sc.held U under d (build (end_all Measured (wires_in ps) (measure_all s1.setting (wires_in ps) given.built)) s1)) (sym k.own.0) (stands_measured out sc.held U under d (build given.built s1) x k.stands))

  gives : GivesTold out sc.held U need used consumed n c.next (is_qfree sc.this.mark) under next_of s1 (drop 1 s1.values) outcome behind
  gives = record {
    answer = answer;
    values = refl;
    given = record {
      typed = ((its_offer out sc low others W under us c s b need wants e x x d t left alone apart).shape, refl);
      handed = λ q. refl;
      own = λ q i. clash (sym i);
      borrowed = λ q i. (later, refl);
      moved = λ i. clash (sym i);
      within = k.within;
      began = (its_offer out sc low others W under us c s b need wants e x x d t left alone apart).began;
      differ = λ w l. subst (λ ps. times_in w ps ≤ 1) (sym k.own.0) (let a = k.stands.one w in omega (arith, a));
    };
    stands =
        subst (λ l. Stands out sc.held U (l ++ under) next_of behind) (sym (none_carried (is_consumed need)))
        (stands_pushed out sc.held U under next_of s1 final (answer ∷ drop 1 s1.values) stands);
    leaves = record { setting = refl; callers = refl; blocks = refl; names = refl };
    touches =
        touches_then (Beyond consumed n) (Beyond consumed n) s1.built.draft given.built.draft final.draft
        (flips_touch (Beyond consumed n) s1.built given.built (flips (Beyond consumed n) (wires_so_far s1) (omega arith)))
        (measuring_touches (Beyond consumed n) Measured s1.setting ws given.built beyond) (λ w l f. f);
    plain = λ q w m.
        flips_stay_plain (λ w. false) 0 s1.built given.built (flips (λ w. false) 0 (omega arith)) w
        (sym ((measures_only (λ w. true) s1.setting ws given.built (λ w a. refl)).mixed w)
        ∙ ends_stay_plain Measured ws (measure_all s1.setting ws given.built) w m);
    unmade = λ h. measuring_unmade Measured s1.setting ws given.built below (flips_unmade (λ w. false) 0 s1.built given.built (flips (λ w. false) 0 (omega arith)) h);
    sharing = record { new = λ q i. later; lifted = λ q i. refl; shares = λ i w le. unowned w le };
    typed = tt;
    untold = λ w l from un. clash (sym (ap (λ ss. is_measured ss w) (end_all_steps Measured ws (measure_all s1.setting ws given.built)) ∙ each_measured s1.setting ws given.built w (times_among w given.answer l)) ∙ un);
  }
    where
      below : (w : WireId) → among (wires_in (taken (flat e s).setting (its_bits out sc low others W under us c s b need wants e x x d t left alone apart).bits (flat e s).built).answer) w ≡ true → w.number < length (taken (flat e s).setting (its_bits out sc low others W under us c s b need wants e x x d t left alone apart).bits (flat e s).built).built.draft.wires
      below w a = (k.stands.free w (let q = subst (λ ps. 1 ≤ times_in w ps) k.own.0 (among_times w given.answer a) in omega (arith, q))).0

  may : MayMeasure s1
  may = (clear, subst (IsOf (λ v. MayTake v s1)) (sym (ap first (its_values out sc low others W under us c s b need wants e x x d t left alone apart))) (its_may_take out sc low others W under us c s b need wants e x x d t left alone apart))

  -- outside all conditions
  pub measure_tells : ExprTells out sc need wants (e >> measure) W under us c s (outcome ∷ []) next_of
  measure_tells =
      then_tells out sc need needs.Consumed wants e W under us c s (x ∷ []) d t.done measure U outcome next_of k.agree may refl
      (subst (λ y. GivesTold out sc.held U need used consumed n c.next (is_qfree sc.this.mark) under next_of s1 s.values outcome (measure_value y (drop_last s1))) (sym (ap first (its_values out sc low others W under us c s b need wants e x x d t left alone apart)))
      (subst (λ l. GivesTold out sc.held U need used consumed n c.next (is_qfree sc.this.mark) under next_of s1 l outcome behind) (ap (λ l. drop 1 l) (its_values out sc low others W under us c s b need wants e x x d t left alone apart)) gives))
