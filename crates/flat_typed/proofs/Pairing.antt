-- Two operands in turn, whose values lie on the stack together.
use Rattle.std.proofs.Common.{◌≡◌, ◌⊎◌, inl, inr, ℕ, suc, ◌+◌, ◌≤◌, ◌<◌, Bool, true, false, cond, ◌&&◌, ◌||◌, List, [], ◌∷◌, ◌++◌, ℤ, refl, sym, ap, ap₂, ◌∙◌, subst, arith}
use Rattle.std.specs.Prelude.{reverse}
use Rattle.std.specs.List.{list_any}
use Rattle.std.proofs.lemmas.Bool.{cases_lt}
use Rattle.silq_tree.specs.Syntax.{Expression}
use Rattle.silq_types.specs.declared.types.Ty.{Ty}
use Rattle.silq_types.specs.declared.need.Need.TheVariants as needs
use Rattle.silq_types.specs.declared.values.Value.{Value}
use Rattle.silq_types.specs.Types.{fits}
use Rattle.silq_types.specs.Calls.{is_consumed}
use Rattle.silq_mean.specs.Effect.{Effect, step, give_static, ◌>>◌}
use Rattle.silq_mean.specs.Meaning as meanings
use Rattle.silq_mean.specs.declared.receiver.Receiver.{Receiver}
use Rattle.check_scope.specs.declared.uses.Use.{Use}
use Rattle.check_scope.specs.Context.{Scope, Context}
use Rattle.check_scope.specs.Uses.{uses, consume_and_hold}
use Rattle.check_expr.specs.Owners.{Sole, handed}
use Rattle.flat_core.specs.declared.step.WireId.{WireId}
use Rattle.flat_core.specs.declared.step.End.TheVariants.{Dropped}
use Rattle.flat_core.specs.Form.{WireForm}
use Rattle.flat_core.specs.Label.{wire_in}
use Rattle.bit_arith.specs.Calls.{Targets, among}
use Rattle.flat_form.specs.declared.known.TypedBits.{TypedBits}
use Rattle.flat_form.specs.declared.known.Known.{Known}
use Rattle.flat_form.specs.declared.known.Known.TheVariants.{Static, Shown, Lent, Absent}
use Rattle.flat_form.specs.State.{Flattening, wires_so_far, wires_in, part_of, operands_of}
use Rattle.flat_form.specs.Flat.{flat}
use Rattle.flat_form.specs.Names.{AllOf, named_by, names, operands_in}
use Rattle.flat_form.specs.Good.{IsKnown}
use Rattle.flat_form.specs.Shows.{ListBoth}
use Rattle.bit_arith.specs.declared.operand.Operand.{Operand}
use Rattle.flat_typed.specs.Places.{Places, times_in, owners_of}
use Rattle.flat_typed.specs.Footprint.{wires_of_part, used_wires, consumed_wires, Touches, NoneNames, Within}
use Rattle.flat_typed.specs.Relation.{Outside, Stands, IsAnswer, BeganFrom}
use Rattle.flat_typed.specs.Scopes.{as_meaning}
use Rattle.flat_typed.specs.Uses.{IsThere}
use Rattle.flat_typed.specs.Done.{Agree, Begins, ExprDone, IsTyped, Leaves, carrying, ExprTells, EndsDropped, IsSharing}
use Rattle.flat_typed.proofs.Ordered.{clash, or_left, or_right}
use Rattle.flat_typed.proofs.Owning.{among_times}
use Rattle.flat_typed.proofs.Spans.{part_at_most}
use Rattle.flat_typed.proofs.Growing.{touches_then, touches_more}
use Rattle.flat_typed.proofs.Apart.{used_part, wires_are}
use Rattle.flat_typed.proofs.Uses.{used_append, consumed_append, consumed_is_used}
use Rattle.flat_typed.proofs.Falling.{OnePart}
use Rattle.flat_typed.proofs.Tame.{AllLeft, all_there_left}
use Rattle.flat_typed.proofs.Behind.{leaves_then}
use Rattle.flat_typed.proofs.Spending.{Gone}
use Rattle.flat_typed.proofs.Operating.{EffectDone}
use Rattle.flat_typed.proofs.Following.{Facts, owners_next, used_next, consumed_next, answer_apart, begins_next, good_next, used_old, of_none}

-- ---- one operand

-- what is done and told of one value in held use
pub record Alone (out : Outside) (sc : Scope) (low : ℕ) (others : ℕ → ℕ) (E : Effect) (W : Places) (under : List Value) (us : List Use) (c : Context) (s : Flattening) (x : Value) (d : Context) : Type 0 where
  pub done : ExprDone out sc needs.Held E W under us c s (x ∷ []) d
  pub known : Known
  pub all : done.answers ≡ known ∷ []
  pub given : IsAnswer done.after needs.Held (used_wires W c.vars us) (consumed_wires W c.vars us) (wires_so_far s) c.next x known
  pub shares : x.ty.classical ≡ true → (w : WireId) → 1 ≤ owners_of done.after d.vars under w → names known w ≡ false
  pub untold : EndsDropped (wires_so_far s) (flat E s).built.draft known
  pub there : AllOf (IsThere sc.held c.vars) us
  pub gone : AllOf (Gone d.vars) us
  pub left : AllLeft c.vars d.vars
  pub grown : c.next ≤ d.next
  pub sole : Sole low others d

pub alone_stands : (out : Outside) (sc : Scope) (low : ℕ) (others : ℕ → ℕ) (E : Effect) (W : Places) (under : List Value) (us : List Use) (c : Context) (s : Flattening) (x : Value) (d : Context) (a : Alone out sc low others E W under us c s x d) → Stands out sc.held a.done.after under d (flat E s)
alone_stands out sc low others E W under us c s x d a = subst (λ ks. Stands out sc.held a.done.after (carrying needs.Held (x ∷ []) ks ++ under) d (flat E s)) a.all a.done.stands

pub alone_of : (out : Outside) (sc : Scope) (low : ℕ) (others : ℕ → ℕ) (W : Places) (under : List Value) (taker : Ty → Receiver) (wants : List Ty) (e : Expression) (c : Context) (s : Flattening) (x : Value) (d : Context) → Facts sc taker needs.Held wants e c (x ∷ []) d
    → Begins out sc low others W under (uses e sc c.vars needs.Held) c s
    → (a : Alone out sc low others (meanings.expr e (as_meaning taker sc) needs.Held) W under (uses e sc c.vars needs.Held) c s x d) × (wants ≡ [] → IsTyped a.known)
alone_of out sc low others W under taker wants e c s x d h b = go t.done.answers refl t.done.each t.sharing t.typed t.untold
  where
    E : Effect
    E = meanings.expr e (as_meaning taker sc) needs.Held

    us : List Use
    us = uses e sc c.vars needs.Held

    t : ExprTells out sc needs.Held wants (meanings.expr e (as_meaning taker sc) needs.Held) W under (uses e sc c.vars needs.Held) c s (x ∷ []) d
    t = h.tells out low others W under s b

    go : (ks : List Known) → t.done.answers ≡ ks → ListBoth (IsAnswer t.done.after needs.Held (used_wires W c.vars (uses e sc c.vars needs.Held)) (consumed_wires W c.vars (uses e sc c.vars needs.Held)) (wires_so_far s) c.next) (x ∷ []) ks
        → ListBoth (IsSharing needs.Held c.next (λ w. owners_of t.done.after d.vars under w)) (x ∷ []) ks → (wants ≡ [] → AllOf IsTyped ks) → AllOf (EndsDropped (wires_so_far s) (flat (meanings.expr e (as_meaning taker sc) needs.Held) s).built.draft) ks
        → (a : Alone out sc low others (meanings.expr e (as_meaning taker sc) needs.Held) W under (uses e sc c.vars needs.Held) c s x d) × (wants ≡ [] → IsTyped a.known)
    go [] q a sh ty un = absurd a
    go (k ∷ []) q a sh ty un = (
      record {
        done = t.done;
        known = k;
        all = q;
        given = a.0;
        shares = sh.0.shares;
        untold = un.0;
        there = (h.told W b.stands.parts).0;
        gone = h.gone W b.stands.parts;
        left = h.left;
        grown = (h.sole c.next others (record { grown = omega arith; one = b.sole.one; ahead = b.sole.ahead })).grown;
        sole = lower (h.sole low others b.sole);
      },
      λ n. (ty n).0,
    )
      where
        lower : Sole low (λ p. others p + handed needs.Held p (x ∷ [])) d → Sole low others d
        lower r = record { grown = r.grown; one = λ p. let z = r.one p in omega (arith, z); ahead = λ p le. let z = r.ahead p le in omega (arith, z) }
    go (k ∷ l ∷ ks) q a sh ty un = absurd a.1

-- a value that does not name a wire has it in none of its operands
of_unnamed : (w : WireId) (k : Known) → names k w ≡ false → times_in w (operands_of k) ≡ 0
of_unnamed w (Static z) e = refl
of_unnamed w (Shown u) e = none u.operands e
  where
    none : (ps : List Operand) → list_any (named_by w) ps ≡ false → times_in w ps ≡ 0
    none [] e = refl
    none (p ∷ ps) e = ap₂ (λ t n. cond t (suc n) n) (or_left (named_by w p) (list_any (named_by w) ps) e) (none ps (or_right (named_by w p) (list_any (named_by w) ps) e))
of_unnamed w (Lent start size u) e = refl
of_unnamed w Absent e = refl

-- ---- from where the second one begins

-- what consumes less
pub begins_less : (out : Outside) (sc : Scope) (low : ℕ) (others : ℕ → ℕ) (W : Places) (under : List Value) (us vs : List Use) (c : Context) (s : Flattening) → ((w : WireId) → consumed_wires W c.vars vs w ≡ true → consumed_wires W c.vars us w ≡ true)
    → Begins out sc low others W under us c s → Begins out sc low others W under vs c s
begins_less out sc low others W under us vs c s less b =
    record { good = b.good; unmade = b.unmade; sole = b.sole; counted = b.counted; stands = b.stands; open_air = b.open_air; apart = λ w t. b.apart w (less w t); placed = b.placed; lone = b.lone }

or_first : (a b : Bool) → a ≡ true → (a || b) ≡ true
or_first true b e = refl
or_first false b e = clash (sym e)

or_second : (a b : Bool) → b ≡ true → (a || b) ≡ true
or_second true b e = refl
or_second false b e = e

module _ (out : Outside) (sc : Scope) (low : ℕ) (others : ℕ → ℕ) (W : Places) (under : List Value) (us vs : List Use) (c : Context) (s : Flattening) (b : Begins out sc low others W under (us ++ vs) c s) where
  consumes_first : (w : WireId) → consumed_wires W c.vars us w ≡ true → consumed_wires W c.vars (us ++ vs) w ≡ true
  consumes_first w e = consumed_append W c.vars us vs w ∙ or_first (consumed_wires W c.vars us w) (consumed_wires W c.vars vs w) e

  consumes_second : (w : WireId) → consumed_wires W c.vars vs w ≡ true → consumed_wires W c.vars (us ++ vs) w ≡ true
  consumes_second w e = consumed_append W c.vars us vs w ∙ or_second (consumed_wires W c.vars us w) (consumed_wires W c.vars vs w) e

  uses_first : (w : WireId) → used_wires W c.vars us w ≡ true → used_wires W c.vars (us ++ vs) w ≡ true
  uses_first w e = used_append W c.vars us vs w ∙ or_first (used_wires W c.vars us w) (used_wires W c.vars vs w) e

  uses_second : (w : WireId) → used_wires W c.vars vs w ≡ true → used_wires W c.vars (us ++ vs) w ≡ true
  uses_second w e = used_append W c.vars us vs w ∙ or_second (used_wires W c.vars us w) (used_wires W c.vars vs w) e

  pub begins_first : Begins out sc low others W under us c s
  begins_first = begins_less out sc low others W under (us ++ vs) us c s consumes_first b

  module _ (Ea Eb : Effect) (x y : Value) (d1 d2 : Context) (p : Alone out sc low others Ea W under us c s x d1) where
    abbrev Ua : Places
    Ua = p.done.after

    abbrev s1 : Flattening
    s1 = flat Ea s

    first_values : s1.values ≡ p.known ∷ s.values
    first_values = p.done.values ∙ ap (λ l. reverse l ++ s.values) p.all

    pub begins_second : consume_and_hold us vs ≡ false → AllOf (IsThere sc.held d1.vars) vs → Begins out sc low others Ua under vs d1 s1
    begins_second ch there =
        begins_next out sc low others W under us c s begins_first needs.Held Ea (x ∷ []) d1 p.done p.left others under vs p.sole p.grown b.counted (alone_stands out sc low others Ea W under us c s x d1 p) there
        (λ w e. subst (AllOf (λ k. names k w ≡ false)) (sym first_values)
        (answer_apart out sc low others W under us c s begins_first needs.Held Ea (x ∷ []) d1 p.done p.left vs p.known p.there p.gone there ch p.given.within w e, b.apart w (consumes_second w e)))

    module _ (q : Alone out sc low others Eb Ua under vs d1 s1 y d2) where
      abbrev Ub : Places
      Ub = q.done.after

      abbrev s2 : Flattening
      s2 = flat Eb s1

      pub second_values : s2.values ≡ q.known ∷ (p.known ∷ s.values)
      second_values = q.done.values ∙ (ap (λ l. reverse l ++ s1.values) q.all ∙ ap (λ l. q.known ∷ l) first_values)

      same_used : (w : WireId) → used_wires Ua d1.vars vs w ≡ used_wires W c.vars vs w
      same_used w = used_next out sc low others W under us c s begins_first needs.Held Ea (x ∷ []) d1 p.done p.left vs w q.there

      same_consumed : (w : WireId) → consumed_wires Ua d1.vars vs w ≡ consumed_wires W c.vars vs w
      same_consumed w = consumed_next out sc low others W under us c s begins_first needs.Held Ea (x ∷ []) d1 p.done p.left vs w q.there

      there_before : AllOf (IsThere sc.held c.vars) vs
      there_before = all_there_left sc.held c.vars d1.vars vs p.left q.there

      longer : wires_so_far s ≤ wires_so_far s1
      longer = p.done.touches.grown

      -- the second value in the sight of both
      began_earlier : (k : Known) → BeganFrom (wires_so_far s1) k → BeganFrom (wires_so_far s) k
      began_earlier (Static z) h = h
      began_earlier (Shown u) h = let l = longer in omega (arith, h, l)
      began_earlier (Lent start size u) h = h
      began_earlier Absent h = h

      within_both : (w : WireId) → (used_wires Ua d1.vars vs w ≡ true) ⊎ (wires_so_far s1 ≤ w.number) → (used_wires W c.vars (us ++ vs) w ≡ true) ⊎ (wires_so_far s ≤ w.number)
      within_both w (inl e) = inl (uses_second w (sym (same_used w) ∙ e))
      within_both w (inr le) = inr (let l = longer in omega (arith, le, l))

      -- of wires that the first one made the second value names none
      pub none_between : (w : WireId) → wires_so_far s ≤ w.number → w.number < wires_so_far s1 → names q.known w ≡ false
      none_between w le lt = go (names q.known w) refl
        where
          old : (used_wires Ua d1.vars vs w ≡ true) ⊎ (wires_so_far s1 ≤ w.number) → true ≡ false
          old (inl e) = let a = used_old out sc low others W under us c s begins_first vs w there_before (sym (same_used w) ∙ e) in absurd (omega (arith, a, le))
          old (inr ge) = absurd (omega (arith, ge, lt))

          go : (t : Bool) → names q.known w ≡ t → t ≡ false
          go false e = refl
          go true e = old (q.given.within w e)

      pub pair_done : EffectDone out sc (Ea >> Eb) W (us ++ vs) c s d2
      pair_done = record {
        fine = (p.done.fine, q.done.fine);
        after = Ub;
        agree = λ n l. q.done.agree n (let g = p.grown in omega (arith, l, g)) ∙ p.done.agree n l;
        kinds_stay = q.done.kinds_stay ∙ p.done.kinds_stay;
        leaves = leaves_then s s1 s2 p.done.leaves q.done.leaves;
        touches =
            touches_then (consumed_wires W c.vars (us ++ vs)) (consumed_wires Ua d1.vars vs) s.built.draft s1.built.draft s2.built.draft
            (touches_more (consumed_wires W c.vars us) (consumed_wires W c.vars (us ++ vs)) s.built.draft s1.built.draft p.done.touches (λ w l f. or_left (consumed_wires W c.vars us w) (consumed_wires W c.vars vs w) (sym (consumed_append W c.vars us vs w) ∙ f)))
            q.done.touches (λ w l f. same_consumed w ∙ or_right (consumed_wires W c.vars us w) (consumed_wires W c.vars vs w) (sym (consumed_append W c.vars us vs w) ∙ f));
        plain = λ e w m. p.done.plain e w (q.done.plain e w m);
        unmade = q.done.unmade;
      }

      pub pair_stands : Stands out sc.held pair_done.after under d2 s2
      unfolding pair_done
      pair_stands = alone_stands out sc low others Eb Ua under vs d1 s1 y d2 q

      -- each value's wires are used by both or new
      pub first_within : (w : WireId) → names p.known w ≡ true → (used_wires W c.vars (us ++ vs) w ≡ true) ⊎ (wires_so_far s ≤ w.number)
      first_within w e = more (p.given.within w e)
        where
          more : (used_wires W c.vars us w ≡ true) ⊎ (wires_so_far s ≤ w.number) → (used_wires W c.vars (us ++ vs) w ≡ true) ⊎ (wires_so_far s ≤ w.number)
          more (inl e) = inl (uses_first w e)
          more (inr le) = inr le

      pub second_within : (w : WireId) → names q.known w ≡ true → (used_wires W c.vars (us ++ vs) w ≡ true) ⊎ (wires_so_far s ≤ w.number)
      second_within w e = within_both w (q.given.within w e)

      pub second_began : BeganFrom (wires_so_far s) q.known
      second_began = began_earlier q.known q.given.began

      -- ---- what is told of both values behind the second

      pub first_shares : OnePart d1.vars → Begins out sc low others Ua under vs d1 s1 → x.ty.classical ≡ true → (w : WireId) → 1 ≤ owners_of pair_done.after d2.vars under w → names p.known w ≡ false
      unfolding pair_done
      first_shares one b2 e w le = let a = owners_next out sc low others Ua under vs d1 s1 b2 needs.Held Eb (y ∷ []) d2 q.done q.left one w in p.shares e w (omega (arith, a, le))

      pub second_shares : y.ty.classical ≡ true → (w : WireId) → 1 ≤ owners_of pair_done.after d2.vars under w → names q.known w ≡ false
      unfolding pair_done
      second_shares e w le = q.shares e w le

      -- the second one leaves what the first one made
      pub first_untold : EndsDropped (wires_so_far s) s2.built.draft p.known
      first_untold w le n m = go (cases_lt w.number (wires_so_far s1))
        where
          kept : w.number < wires_so_far s1 → consumed_wires Ua d1.vars vs w ≡ false
          kept lt = off (consumed_wires Ua d1.vars vs w) refl
            where
              off : (t : Bool) → consumed_wires Ua d1.vars vs w ≡ t → t ≡ false
              off false e = refl
              off true e = let a = used_old out sc low others W under us c s begins_first vs w there_before (consumed_is_used W c.vars vs w (sym (same_consumed w) ∙ e)) in absurd (omega (arith, a, n))

          go : (w.number < wires_so_far s1) ⊎ (wires_so_far s1 ≤ w.number) → (wire_in s2.built.draft.wires w).ending ≡ Dropped
          go (inl lt) = ap (λ (f : WireForm). f.ending) (q.done.touches.ends w lt (kept lt)) ∙ p.untold w le n (sym (q.done.touches.measured w lt (kept lt)) ∙ m)
          go (inr ge) = let z = of_none (wires_so_far s1) w p.known (subst (AllOf (IsKnown (wires_so_far s1))) first_values (good_next out sc low others W under us c s begins_first needs.Held Ea (x ∷ []) d1 p.done p.left).known.values).0 ge in absurd (omega (arith, z, le))

      pub second_untold : EndsDropped (wires_so_far s) s2.built.draft q.known
      second_untold w le n m = go (cases_lt w.number (wires_so_far s1))
        where
          go : (w.number < wires_so_far s1) ⊎ (wires_so_far s1 ≤ w.number) → (wire_in s2.built.draft.wires w).ending ≡ Dropped
          go (inl lt) = let z = of_unnamed w q.known (none_between w n lt) in absurd (omega (arith, z, le))
          go (inr ge) = q.untold w le ge m
