-- A variable whose wires end as 0: the relation stands again without it.
use Rattle.std.proofs.Common.{◌≡◌, ◌⊎◌, inl, inr, suc, ◌+◌, ◌≤◌, ◌<◌, Bool, true, false, cond, ◌||◌, List, [], ◌∷◌, length, refl, sym, ap, ◌∙◌, subst, arith}
use Rattle.std.specs.Prelude.{Some, None}
use Rattle.std.proofs.lemmas.Bool.{cases_lt}
use Rattle.silq_tree.specs.declared.node.NameId.{NameId}
use Rattle.silq_types.specs.declared.values.Part.{Part}
use Rattle.silq_types.specs.declared.values.Var.{Var}
use Rattle.silq_types.specs.Types.{is_linear}
use Rattle.check_scope.specs.Context.{Context, variable, find_var, replace}
use Rattle.silq_mean.specs.Env.{in_its_block}
use Rattle.flat_core.specs.declared.step.WireId.{WireId}
use Rattle.flat_core.specs.declared.step.End.TheVariants.{Dropped, Zeroed}
use Rattle.flat_core.specs.Form.{DraftForm, WireForm}
use Rattle.flat_core.specs.Label.{wire_in}
use Rattle.flat_core.specs.Drafts.{is_measured}
use Rattle.bit_arith.specs.declared.operand.Operand.{Operand}
use Rattle.bit_arith.specs.declared.operand.Operand.TheVariants.{Const, Literal}
use Rattle.bit_arith.specs.Built.{Built, Setting}
use Rattle.bit_arith.specs.Rows.{flip_each}
use Rattle.bit_arith.specs.Calls.{among}
use Rattle.bit_arith.specs.Does.{Fresh}
use Rattle.flat_form.specs.declared.known.Known.TheVariants.{Absent}
use Rattle.flat_form.specs.State.{Flattening, wires_in}
use Rattle.flat_form.specs.Flat.{end_all}
use Rattle.flat_form.specs.Names.{AllOf, named_by, names}
use Rattle.flat_form.proofs.Later.{end_all_length, end_all_steps}
use Rattle.flat_typed.specs.Places.{Places, is_shared, has_wires, part_out, less_part, bits_for, shown, holds, times_in, owners_of, linear_owners, linear_holders}
use Rattle.flat_typed.specs.Footprint.{is_mixed, Owed, Touches, StaysPlain, Unmade}
use Rattle.flat_typed.specs.Relation.{Outside, Stands, FitsPart, SparesGuarded}
use Rattle.flat_typed.proofs.Ordered.{clash}
use Rattle.flat_typed.proofs.Parts.{found_there}
use Rattle.flat_typed.proofs.Changes.{out_replaced, consumed_shows}
use Rattle.flat_typed.proofs.Owning.{same_swap, among_times}
use Rattle.flat_typed.proofs.Moving.{spent, holders_spent, linear_spent, owns_all, all_replaced, all_more, differ_replaced}
use Rattle.flat_typed.proofs.Growing.{touches_then}
use Rattle.flat_typed.proofs.Flipping.{Flips, flips_each}
use Rattle.flat_typed.proofs.Touching.{flips_touch, flips_stay_plain, unmixed, among_may}
use Rattle.flat_typed.proofs.Telling.{ends_touch, ends_stay_plain, end_told}

pub times_are_among : (w : WireId) (ps : List Operand) → 1 ≤ times_in w ps → among (wires_in ps) w ≡ true
times_are_among w [] le = absurd (omega (arith, le))
times_are_among w (Const b ∷ ps) le = times_are_among w ps le
times_are_among w (Literal l ∷ ps) le = ap (λ t. t || among (wires_in ps) w) (same_swap w l.wire) ∙ go (named_by w (Literal l)) le (times_are_among w ps)
  where
    go : (t : Bool) → 1 ≤ cond t (suc (times_in w ps)) (times_in w ps) → (1 ≤ times_in w ps → among (wires_in ps) w ≡ true) → (t || among (wires_in ps) w) ≡ true
    go true le i = refl
    go false le i = i le

-- ---- wires that end as 0

-- the wires of some operands end as Zeroed; other wires that were there stay as they were, and new ones are plain
pub record Zeroes (ps : List Operand) (d e : DraftForm) : Type 0 where
  pub touches : Touches (among (wires_in ps)) d e
  pub told : (w : WireId) → w.number < length d.wires → among (wires_in ps) w ≡ true → (wire_in e.wires w).ending ≡ Zeroed
  pub new : (w : WireId) → length d.wires ≤ w.number → w.number < length e.wires → ((wire_in e.wires w).input ≡ false) × (is_mixed e.steps w ≡ false)
  pub plain : StaysPlain d e
  pub unmade : Unmade d → Unmade e

pub flipped_zeroes : (at : Setting) (ps qs : List Operand) (b : Built) → Fresh b.draft → ((w : WireId) → 1 ≤ times_in w ps → w.number < length b.draft.wires)
    → Zeroes ps b.draft (end_all Zeroed (wires_in ps) (flip_each at (wires_in ps) qs b)).draft
flipped_zeroes at ps qs b fresh there = record {
  touches = touches_then (among ws) (among ws) b.draft b1.draft (end_all Zeroed ws b1).draft (flips_touch (among ws) b b1 f) ends (λ w l t. t);
  told = λ w lt a. end_told Zeroed ws b1 w (let g = f.few in omega (arith, g, lt)) a;
  new = λ w le lt.
      let below : w.number < length b1.draft.wires = let l = end_all_length Zeroed ws b1 in omega (arith, l, lt) in
      (ap (λ (r : WireForm). r.input) (ends.ends w below (other w le (among ws w) refl) ∙ f.new w le below), mixed w le (is_mixed (end_all Zeroed ws b1).draft.steps w) refl);
  plain = λ w m. flips_stay_plain (among ws) (length b.draft.wires) b b1 f w (ends_stay_plain Zeroed ws b1 w m);
  unmade = λ h w le. ap (λ ss. is_measured ss w) (end_all_steps Zeroed ws b1) ∙ (f.measured w ∙ h w (let g = f.few in let l = end_all_length Zeroed ws b1 in omega (arith, g, l, le)));
}
  where
    ws : List WireId
    ws = wires_in ps

    b1 : Built
    b1 = flip_each at (wires_in ps) qs b

    f : Flips (among (wires_in ps)) (length b.draft.wires) b (flip_each at (wires_in ps) qs b)
    f = flips_each (among ws) (length b.draft.wires) at ws qs b (omega arith) (among_may (among ws) (length b.draft.wires) ws (λ w e. e))

    ends : Touches (among (wires_in ps)) (flip_each at (wires_in ps) qs b).draft (end_all Zeroed (wires_in ps) (flip_each at (wires_in ps) qs b)).draft
    ends = ends_touch (among ws) Zeroed ws b1 (λ w a. a)

    other : (w : WireId) → length b.draft.wires ≤ w.number → (t : Bool) → among (wires_in ps) w ≡ t → t ≡ false
    other w le false e = refl
    other w le true e = let a = there w (among_times w ps e) in absurd (omega (arith, a, le))

    mixed : (w : WireId) → length b.draft.wires ≤ w.number → (t : Bool) → is_mixed (end_all Zeroed (wires_in ps) (flip_each at (wires_in ps) qs b)).draft.steps w ≡ t → t ≡ false
    mixed w le false e = refl
    mixed w le true e = clash (sym (flips_stay_plain (among ws) (length b.draft.wires) b b1 f w (ends_stay_plain Zeroed ws b1 w e)) ∙ unmixed b.draft.steps w (fresh w le))

-- ---- the law

not_dropped : Zeroed ≡ Dropped → ⊥
not_dropped e = grind (arith, e)

module _ (out : Outside) (held : List (List Part)) (W : Places) (c : Context) (s : Flattening) (x : NameId) (v : Var) (b : Built) where
  abbrev after : List Var
  after = replace c.vars (spent v)

  pub stands_ended : Stands out held W [] c s → find_var c.vars (variable x) ≡ Some v → part_out c.vars v.part.name ≡ None → has_wires v ≡ true → v.consumed ≡ false
      → Zeroes (W v.place) s.built.draft b.draft → AllOf (FitsPart W (replace c.vars (spent v))) (replace c.vars (spent v))
      → Stands out held W [] (record c { vars = replace c.vars (spent v) }) (record s { env = in_its_block s.env x Absent; built = b })
  stands_ended r e o has live z fit = record {
    env = consumed_shows W c.vars s.env v x e r.differ r.env;
    differ = differ_replaced c.vars (spent v) x (found_there c.vars x v e) r.differ;
    parts = fit;
    one = λ w. let a = sum w in let k = r.one w in omega (arith, a, k);
    free = λ w le. let old = r.free w (before w le) in (let g = z.touches.grown in let l = old.0 in omega (arith, g, l), z.touches.measured w old.0 (spared w le) ∙ old.1);
    untold = λ w le. ap (λ f. f.ending) (z.touches.ends w (r.free w (before w le)).0 (spared w le)) ∙ r.untold w (before w le);
    shared = λ w le. shares w (r.shared w (before w le));
    callers = λ w le. r.callers w (before w le);
    guards = r.guards;
    below = λ w g. let a = r.below w g in let l = z.touches.grown in omega (arith, a, l);
    spares = all_replaced (SparesGuarded out.guarded held W) c.vars (spent v) r.spares (λ t. clash (sym t));
    carried = tt;
    owed = λ w q. owes w q (cases_lt w.number (length s.built.draft.wires)) (among (wires_in (W v.place)) w) refl;
  }
    where
      sum : (w : WireId) → owners_of W (replace c.vars (spent v)) [] w + times_in w (W v.place) ≡ owners_of W c.vars [] w
      sum w = let a = holders_spent W c.vars w x v e in let k = owns_all W c.vars w v o has live in omega (arith, a, k)

      before : (w : WireId) → 1 ≤ owners_of W (replace c.vars (spent v)) [] w → 1 ≤ owners_of W c.vars [] w
      before w le = let a = sum w in omega (arith, a, le)

      spared : (w : WireId) → 1 ≤ owners_of W (replace c.vars (spent v)) [] w → among (wires_in (W v.place)) w ≡ false
      spared w le = go (among (wires_in (W v.place)) w) refl
        where
          go : (t : Bool) → among (wires_in (W v.place)) w ≡ t → t ≡ false
          go false q = refl
          go true q = let a = among_times w (W v.place) q in let k = sum w in let i = r.one w in absurd (omega (arith, a, k, i, le))

      shares : (w : WireId) → AllOf (λ u. is_shared u ≡ true → names (shown W c.vars u) w ≡ false) c.vars → AllOf (λ u. is_shared u ≡ true → names (shown W (replace c.vars (spent v)) u) w ≡ false) (replace c.vars (spent v))
      shares w h =
          all_more (λ u. is_shared u ≡ true → names (shown W c.vars u) w ≡ false) (λ u. is_shared u ≡ true → names (shown W (replace c.vars (spent v)) u) w ≡ false) (replace c.vars (spent v))
          (λ u q t. ap (λ k. names (cond u.consumed Absent (less_part k (bits_for W u))) w) (out_replaced c.vars (spent v) x (found_there c.vars x v e) u.part.name) ∙ q t)
          (all_replaced (λ u. is_shared u ≡ true → names (shown W c.vars u) w ≡ false) c.vars (spent v) h (λ t. refl))

      linear : (w : WireId) → among (wires_in (W v.place)) w ≡ false → linear_owners W (replace c.vars (spent v)) [] w ≡ linear_owners W c.vars [] w
      linear w a = go (is_linear v.origin) (linear_spent W c.vars w x v e)
        where
          none : times_in w (W v.place) ≡ 0
          none = at (cases_lt 0 (times_in w (W v.place)))
            where
              at : (0 < times_in w (W v.place)) ⊎ (times_in w (W v.place) ≤ 0) → times_in w (W v.place) ≡ 0
              at (inl lt) = clash (sym (times_are_among w (W v.place) (omega (arith, lt))) ∙ a)
              at (inr le) = omega (arith, le)

          go : (t : Bool) → linear_holders W (replace c.vars (spent v)) w (replace c.vars (spent v)) + cond t (holds W c.vars w v) 0 ≡ linear_holders W c.vars w c.vars → linear_owners W (replace c.vars (spent v)) [] w ≡ linear_owners W c.vars [] w
          go true q = let k = owns_all W c.vars w v o has live in let n = none in omega (arith, q, k, n)
          go false q = omega (arith, q)

      owes : (w : WireId) → Owed b.draft w → (w.number < length s.built.draft.wires) ⊎ (length s.built.draft.wires ≤ w.number) → (t : Bool) → among (wires_in (W v.place)) w ≡ t
          → (1 ≤ linear_owners W (replace c.vars (spent v)) [] w) ⊎ (out.answered w ≡ true)
      owes w q (inl lt) true a = absurd (not_dropped (sym (z.told w lt a) ∙ q.untold))
      owes w q (inl lt) false a = back (r.owed w (record { there = lt; untold = ap (λ f. f.ending) (sym (z.touches.ends w lt a)) ∙ q.untold; why = why q.why }))
        where
          why : ((wire_in b.draft.wires w).input ≡ true) ⊎ (is_mixed b.draft.steps w ≡ true) → ((wire_in s.built.draft.wires w).input ≡ true) ⊎ (is_mixed s.built.draft.steps w ≡ true)
          why (inl i) = inl (ap (λ f. f.input) (sym (z.touches.ends w lt a)) ∙ i)
          why (inr m) = inr (sym (z.touches.mixed w lt a) ∙ m)

          back : (1 ≤ linear_owners W c.vars [] w) ⊎ (out.answered w ≡ true) → (1 ≤ linear_owners W (replace c.vars (spent v)) [] w) ⊎ (out.answered w ≡ true)
          back (inl l) = inl (subst (λ n. 1 ≤ n) (sym (linear w a)) l)
          back (inr k) = inr k
      owes w q (inr le) t a = none q.why
        where
          none : ((wire_in b.draft.wires w).input ≡ true) ⊎ (is_mixed b.draft.steps w ≡ true) → (1 ≤ linear_owners W (replace c.vars (spent v)) [] w) ⊎ (out.answered w ≡ true)
          none (inl i) = clash (sym i ∙ (z.new w le q.there).0)
          none (inr m) = clash (sym m ∙ (z.new w le q.there).1)
