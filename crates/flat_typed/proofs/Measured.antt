-- A value that is taken may be changed; measured, its wires have no owner, and their end is told.
use Rattle.std.proofs.Common.{◌≡◌, ◌⊎◌, inl, inr, ℕ, suc, ◌≤◌, ◌<◌, Bool, true, false, cond, ◌&&◌, ◌||◌, List, [], ◌∷◌, ◌++◌, length, drop, refl, sym, ap, ◌∙◌, subst, arith}
use Rattle.std.specs.Prelude.{None, nat_le}
use Rattle.silq_types.specs.declared.values.Origin.TheVariants.{Classical}
use Rattle.silq_types.specs.declared.values.Part.{Part}
use Rattle.silq_types.specs.declared.values.Value.{Value}
use Rattle.silq_types.specs.Types.{is_linear}
use Rattle.silq_types.specs.declared.need.Need.{Need}
use Rattle.silq_types.specs.declared.need.Need.TheVariants as needs
use Rattle.silq_types.specs.Calls.{is_consumed}
use Rattle.check_scope.specs.Context.{Context}
use Rattle.silq_mean.specs.Effect.{measure}
use Rattle.flat_core.specs.declared.step.WireId.{WireId}
use Rattle.flat_core.specs.declared.step.End.{End}
use Rattle.flat_core.specs.declared.step.End.TheVariants.{Output, Dropped, Measured, Zeroed}
use Rattle.flat_core.specs.Form.{WireForm}
use Rattle.flat_core.specs.Label.{same_wire, wire_in}
use Rattle.bit_arith.specs.declared.operand.Operand.{Operand}
use Rattle.bit_arith.specs.declared.operand.Operand.TheVariants.{Const, Literal}
use Rattle.bit_arith.specs.Built.{Built, Setting, Given}
use Rattle.bit_arith.specs.Calls.{Targets, among}
use Rattle.flat_form.specs.declared.known.TypedBits.{TypedBits}
use Rattle.flat_form.specs.declared.known.Known.{Known}
use Rattle.flat_form.specs.declared.known.Known.TheVariants.{Shown}
use Rattle.flat_form.specs.State.{Flattening, build, last, drop_last, wires_so_far, wires_in, are_new, taken}
use Rattle.flat_form.specs.Flat.{end_all, measure_all, measure_value, flat}
use Rattle.flat_form.specs.Fine.{MayChange, MayTake, MayMeasure, IsOf}
use Rattle.flat_form.specs.Good.{Good}
use Rattle.flat_form.proofs.Later.{end_all_length}
use Rattle.flat_typed.specs.Places.{Places, times_in, owners_of, linear_owners}
use Rattle.flat_typed.specs.Footprint.{NoneNames, Owed, Touches, is_mixed}
use Rattle.flat_typed.specs.Relation.{Outside, Stands}
use Rattle.flat_typed.specs.Done.{Agree, carrying}
use Rattle.flat_typed.proofs.Ordered.{clash, or_left, or_right}
use Rattle.flat_typed.proofs.Owning.{same_swap, among_times, value_may_change}
use Rattle.flat_typed.proofs.Keeping.{KnowsBefore, fresh_may_change}
use Rattle.flat_typed.proofs.Growing.{touches_then}
use Rattle.flat_typed.proofs.Touching.{flips_touch, flips_stay_plain, flips_unmade, flips_taken}
use Rattle.flat_typed.proofs.Telling.{measures_only, measuring_touches, measuring_unmade, end_told, ends_stay_plain}
use Rattle.flat_typed.proofs.Placing.{stands_pushed}
use Rattle.flat_typed.proofs.Taking.{Offer, Around, Carried, carried_taken}
use Rattle.flat_typed.proofs.Giving.{Beyond, is_beyond, GivesValue}

-- ---- what a gate or a measure may take

-- where nothing below on the stack names its wires
pub may_take : (out : Outside) (held : List (List Part)) (W : Places) (used consumed : Targets) (n low : ℕ) (under : List Value) (c : Context) (s : Flattening) (v : Value) (u : TypedBits) → Good s → KnowsBefore n s → (u.own ≡ true → NoneNames (among (wires_in (W v.place))) (drop 1 s.values))
    → Offer W needs.Consumed used consumed n low v u → Around out W n low under c s v (Shown u) → Stands out held W (carrying needs.Consumed (v ∷ []) (Shown u ∷ []) ++ under) c s → MayTake u s
may_take out held W used consumed n low under c s v u good before apart o a r = go u.own refl
  where
    go : (t : Bool) → u.own ≡ t → (t || are_new s.built.draft u.began u.operands) ≡ true → MayChange (wires_in u.operands) s (drop_last s)
    go true e keeps =
        subst (λ ps. MayChange (wires_in ps) s (drop_last s)) (sym (o.own refl e).0)
        (value_may_change out held W v under c s good (subst (λ t. Stands out held W (cond t (v ∷ []) [] ++ under) c s) e r) (apart e))
    go false e keeps = fresh_may_change n u s before a.grown o.began keeps o.differ a.there

-- ---- measures

not_among : (w : WireId) (ps : List Operand) → among (wires_in ps) w ≡ false → times_in w ps ≡ 0
not_among w [] e = refl
not_among w (Const b ∷ ps) e = not_among w ps e
not_among w (Literal l ∷ ps) e = ap (λ t. cond t (suc (times_in w ps)) (times_in w ps)) (same_swap l.wire w ∙ or_left (same_wire w l.wire) (among (wires_in ps) w) e) ∙ not_among w ps (or_right (same_wire w l.wire) (among (wires_in ps) w) e)

abbrev is_dropped : End → Bool
is_dropped Output = false
is_dropped Dropped = true
is_dropped Measured = false
is_dropped Zeroed = false

-- wires that are measured and end so
abbrev pub measured_on : Setting → List WireId → Built → Built
measured_on at ws b = end_all Measured ws (measure_all at ws b)

pub stands_measured : (out : Outside) (held : List (List Part)) (W : Places) (under : List Value) (c : Context) (s : Flattening) (v : Value) → Stands out held W (v ∷ under) c s → Stands out held W under c (build (measured_on s.setting (wires_in (W v.place)) s.built) s)
stands_measured out held W under c s v r = record {
  env = r.env;
  differ = r.differ;
  parts = r.parts;
  one = λ w. let a = r.one w in omega (arith, a);
  free = λ w le. (let a = (r.free w (more w le)).0 in let g = touched.grown in omega (arith, a, g), touched.measured w (r.free w (more w le)).0 (other w le) ∙ (r.free w (more w le)).1);
  untold = λ w le. ap (λ (x : WireForm). x.ending) (touched.ends w (r.free w (more w le)).0 (other w le)) ∙ r.untold w (more w le);
  shared = λ w le. r.shared w (more w le);
  callers = λ w le. r.callers w (more w le);
  guards = r.guards;
  below = λ w g. let a = r.below w g in let l = touched.grown in omega (arith, a, l);
  spares = r.spares;
  carried = r.carried.1;
  owed = λ w o. owed w o (among (wires_in (W v.place)) w) refl;
}
  where
    touched : Touches (among (wires_in (W v.place))) s.built.draft (measured_on s.setting (wires_in (W v.place)) s.built).draft
    touched = measuring_touches (among (wires_in (W v.place))) Measured s.setting (wires_in (W v.place)) s.built (λ w a. a)

    same : length (measured_on s.setting (wires_in (W v.place)) s.built).draft.wires ≡ wires_so_far s
    same = end_all_length Measured (wires_in (W v.place)) (measure_all s.setting (wires_in (W v.place)) s.built) ∙ ap (λ rs. length rs) (measures_only (among (wires_in (W v.place))) s.setting (wires_in (W v.place)) s.built (λ w a. a)).wires

    more : (w : WireId) → 1 ≤ owners_of W c.vars under w → 1 ≤ owners_of W c.vars (v ∷ under) w
    more w le = omega (arith, le)

    other : (w : WireId) → 1 ≤ owners_of W c.vars under w → among (wires_in (W v.place)) w ≡ false
    other w le = go (among (wires_in (W v.place)) w) refl
      where
        go : (t : Bool) → among (wires_in (W v.place)) w ≡ t → t ≡ false
        go false f = refl
        go true f = let a = among_times w (W v.place) f in let b = r.one w in absurd (omega (arith, a, b, le))

    owed : (w : WireId) → Owed (measured_on s.setting (wires_in (W v.place)) s.built).draft w → (t : Bool) → among (wires_in (W v.place)) w ≡ t → (1 ≤ linear_owners W c.vars under w) ⊎ (out.answered w ≡ true)
    owed w o true f =
        let told : (wire_in (measured_on s.setting (wires_in (W v.place)) s.built).draft.wires w).ending ≡ Measured = end_told Measured (wires_in (W v.place)) (measure_all s.setting (wires_in (W v.place)) s.built) w (subst (λ n. w.number < n) (end_all_length Measured (wires_in (W v.place)) (measure_all s.setting (wires_in (W v.place)) s.built)) o.there) f in
        clash (sym (ap is_dropped (sym told ∙ o.untold)))
    owed w o false f = pick (r.owed w (record { there = there; untold = sym (ap (λ (x : WireForm). x.ending) (touched.ends w there f)) ∙ o.untold; why = why o.why }))
      where
        there : w.number < wires_so_far s
        there = subst (λ n. w.number < n) same o.there

        why : ((wire_in (measured_on s.setting (wires_in (W v.place)) s.built).draft.wires w).input ≡ true) ⊎ (is_mixed (measured_on s.setting (wires_in (W v.place)) s.built).draft.steps w ≡ true) → ((wire_in s.built.draft.wires w).input ≡ true) ⊎ (is_mixed s.built.draft.steps w ≡ true)
        why (inl i) = inl (sym (ap (λ (x : WireForm). x.input) (touched.ends w there f)) ∙ i)
        why (inr m) = inr (sym (touched.mixed w there f) ∙ m)

        none : (t : Bool) → cond t (times_in w (W v.place)) 0 ≡ 0
        none true = not_among w (W v.place) f
        none false = refl

        pick : (1 ≤ linear_owners W c.vars (v ∷ under) w) ⊎ (out.answered w ≡ true) → (1 ≤ linear_owners W c.vars under w) ⊎ (out.answered w ≡ true)
        pick (inl le) = inl (let a = none (is_linear v.origin) in omega (arith, a, le))
        pick (inr q) = inr q

-- ---- the step

-- the outcome is a new value, and the measured wires have no owner
pub record Outcome (out : Outside) (held : List (List Part)) (W : Places) (need : Need) (used consumed : Targets) (n low : ℕ) (under : List Value) (c : Context) (s : Flattening) (v : Value) : Type 0 where
  pub after : Places
  pub agree : Agree low W after
  pub gives : GivesValue out held after need used consumed n low under c s (drop 1 s.values) v (flat measure s)
  pub fine : MayMeasure s

module _ (out : Outside) (held : List (List Part)) (W : Places) (need : Need) (used consumed : Targets) (n low : ℕ) (under : List Value) (c : Context) (s : Flattening) (p : ℕ) (x : Value) (u : TypedBits) where
  abbrev pub outcome_of : Value
  outcome_of = record { ty = record { classical = true; shape = x.ty.shape }; origin = Classical; place = p }

  abbrev t : Given (List Operand)
  t = taken s.setting u s.built

  abbrev final : Built
  final = measured_on s.setting (wires_in t.answer) t.built

  abbrev answer : Known
  answer = Shown (record { classical = true; shape = u.shape; operands = t.answer; own = false; began = u.began })

  none_carried : (b : Bool) → cond (b && false) (outcome_of ∷ []) [] ≡ []
  none_carried true = refl
  none_carried false = refl

  from_wires : (k : Carried out held W used consumed n low under c s x t) (w : WireId) → among (wires_in t.answer) w ≡ true → Beyond consumed n w ≡ true
  from_wires k w a = go (Beyond consumed n w) refl
    where
      go : (b : Bool) → Beyond consumed n w ≡ b → b ≡ true
      go true e = refl
      go false e = pick (k.moved w (among_times w t.answer a))
        where
          pick : (consumed w ≡ true) ⊎ (n ≤ w.number) → false ≡ true
          pick (inl q) = clash (sym q ∙ or_left (consumed w) (nat_le n w.number) e)
          pick (inr le) = absurd (is_beyond n w.number (consumed w) e le)

  gives : Offer W needs.Consumed used consumed n low x u → low ≤ p → (k : Carried out held W used consumed n low under c s x t)
      → GivesValue out held k.after need used consumed n low under c s (drop 1 s.values) outcome_of (measure_value (Shown u) (drop_last s))
  gives o le k = record {
    answer = answer;
    values = refl;
    given = record {
      typed = (o.shape, refl);
      handed = λ q. refl;
      own = λ q e. clash (sym e);
      borrowed = λ q e. (le, refl);
      moved = λ e. clash (sym e);
      within = k.within;
      began = o.began;
      differ = λ w l. subst (λ ps. times_in w ps ≤ 1) (sym k.own.0) (let a = k.stands.one w in omega (arith, a));
    };
    stands =
        subst (λ l. Stands out held k.after (l ++ under) c (measure_value (Shown u) (drop_last s))) (sym (none_carried (is_consumed need)))
        (stands_pushed out held k.after under c s final (answer ∷ drop 1 s.values)
        (subst (λ ps. Stands out held k.after under c (build (measured_on s.setting (wires_in ps) t.built) s)) (sym k.own.0) (stands_measured out held k.after under c (build t.built s) x k.stands)));
    leaves = record { setting = refl; callers = refl; blocks = refl; names = refl };
    touches =
        touches_then (Beyond consumed n) (Beyond consumed n) s.built.draft t.built.draft final.draft
        (flips_touch (Beyond consumed n) s.built t.built (flips_taken (Beyond consumed n) (wires_so_far s) s.setting u s.built (omega arith)))
        (measuring_touches (Beyond consumed n) Measured s.setting (wires_in t.answer) t.built (from_wires k)) (λ w l f. f);
    plain = λ w m.
        flips_stay_plain (λ w. false) 0 s.built t.built (flips_taken (λ w. false) 0 s.setting u s.built (omega arith)) w
        (sym ((measures_only (λ w. true) s.setting (wires_in t.answer) t.built (λ w a. refl)).mixed w)
        ∙ ends_stay_plain Measured (wires_in t.answer) (measure_all s.setting (wires_in t.answer) t.built) w m);
    unmade = λ h. measuring_unmade Measured s.setting (wires_in t.answer) t.built below (flips_unmade (λ w. false) 0 s.built t.built (flips_taken (λ w. false) 0 s.setting u s.built (omega arith)) h);
  }
    where
      below : (w : WireId) → among (wires_in t.answer) w ≡ true → w.number < length t.built.draft.wires
      below w a = (k.stands.free w (let q = subst (λ ps. 1 ≤ times_in w ps) k.own.0 (among_times w t.answer a) in omega (arith, q))).0

  -- a measure outside all conditions
  pub measure_done : last s ≡ Shown u → s.setting.condition ≡ None → Good s → KnowsBefore n s → (u.own ≡ true → NoneNames (among (wires_in (W x.place))) (drop 1 s.values)) → Offer W needs.Consumed used consumed n low x u → Around out W n low under c s x (Shown u)
      → Stands out held W (carrying needs.Consumed (x ∷ []) (Shown u ∷ []) ++ under) c s → low ≤ p → Outcome out held W need used consumed n low under c s outcome_of
  measure_done e clear good before apart o a r le =
      let k : Carried out held W used consumed n low under c s x t = carried_taken out held W used consumed n low under c s x u needs.Consumed o a refl r in
      record {
        after = k.after;
        agree = k.agree;
        gives = subst (λ l. GivesValue out held k.after need used consumed n low under c s (drop 1 s.values) outcome_of (measure_value l (drop_last s))) (sym e) (gives o le k);
        fine = (clear, subst (λ l. IsOf (λ v. MayTake v s) l) (sym e) (may_take out held W used consumed n low under c s x u good before apart o a r));
      }
