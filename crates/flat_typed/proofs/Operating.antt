-- What an operator gives from the operands' wires and new ones, and what it tells of its value.
use Rattle.std.proofs.Common.{◌≡◌, ◌⊎◌, inl, inr, ℕ, ◌≤◌, ◌<◌, Bool, true, false, List, [], ◌∷◌, ◌++◌, length, refl, sym, ap, ◌∙◌, subst, arith}
use Rattle.std.specs.List.{list_any}
use Rattle.std.proofs.lemmas.Bool.{cases_lt}
use Rattle.silq_types.specs.declared.types.Shape.{Shape}
use Rattle.silq_types.specs.declared.types.Ty.{Ty}
use Rattle.silq_types.specs.declared.values.Part.{Part}
use Rattle.silq_types.specs.declared.values.Value.{Value}
use Rattle.silq_types.specs.declared.need.Need.{Need}
use Rattle.check_scope.specs.declared.uses.Use.{Use}
use Rattle.check_scope.specs.Context.{Scope, Context}
use Rattle.check_expr.specs.Expression.{is_qfree}
use Rattle.silq_mean.specs.Effect.{Effect, ◌>>◌}
use Rattle.flat_core.specs.declared.step.WireId.{WireId}
use Rattle.flat_core.specs.declared.step.End.TheVariants.{Dropped}
use Rattle.flat_core.specs.Form.{WireForm}
use Rattle.flat_core.specs.Label.{wire_in}
use Rattle.flat_core.specs.Drafts.{is_measured}
use Rattle.bit_arith.specs.declared.operand.Operand.{Operand}
use Rattle.bit_arith.specs.Built.{Given}
use Rattle.bit_arith.specs.Calls.{Targets}
use Rattle.flat_form.specs.declared.known.Known.{Known}
use Rattle.flat_form.specs.declared.known.Known.TheVariants.{Shown}
use Rattle.flat_form.specs.State.{Flattening, wires_so_far}
use Rattle.flat_form.specs.Flat.{flat}
use Rattle.flat_form.specs.Fine.{Fine}
use Rattle.flat_form.specs.Names.{named_by, names}
use Rattle.flat_form.specs.Good.{Good}
use Rattle.flat_typed.specs.Places.{Places, times_in, owners_of}
use Rattle.flat_typed.specs.Footprint.{used_wires, consumed_wires, Touches, StaysPlain, Unmade}
use Rattle.flat_typed.specs.Relation.{Outside, Stands}
use Rattle.flat_typed.specs.Done.{Agree, Leaves, ExprDone, IsSharing, IsTyped, EndsDropped, ExprTells, kinds}
use Rattle.flat_typed.proofs.Flipping.{Flips}
use Rattle.flat_typed.proofs.Placing.{named_times}
use Rattle.flat_typed.proofs.Giving.{GivesValue, Works, IsNew, touches_beyond, gives_borrowed}
use Rattle.flat_typed.proofs.Behind.{leaves_then}
use Rattle.flat_typed.proofs.Falling.{safe_none}

-- a value that is given, and what is told of it
pub record GivesTold (out : Outside) (held : List (List Part)) (W : Places) (need : Need) (used consumed : Targets) (n low : ℕ) (under : List Value) (c : Context) (s : Flattening) (rest : List Known) (v : Value) (e : Flattening) : Type 0 where
  pub gives : GivesValue out held W need used consumed n low under c s rest v e
  pub sharing : IsSharing need low (λ w. owners_of W c.vars under w) v gives.answer
  pub typed : IsTyped gives.answer
  pub untold : EndsDropped n e.built.draft gives.answer

-- a row whose answer names wires of a kind, or new ones
pub record Sourced (W : Places) (used : Targets) (n : ℕ) (under : List Value) (c : Context) (s : Flattening) (classical : Bool) (g : Given (List Operand)) (Of : WireId → Type 0) : Type 0 where
  pub flips : (T : Targets) (k : ℕ) → k ≤ wires_so_far s → Flips T k s.built g.built
  pub from : (w : WireId) → 1 ≤ times_in w g.answer → Of w ⊎ (wires_so_far s ≤ w.number)
  pub once : (w : WireId) → n ≤ w.number → times_in w g.answer ≤ 1
  pub there : (w : WireId) → Of w → w.number < wires_so_far s
  pub within : (w : WireId) → Of w → (used w ≡ true) ⊎ (n ≤ w.number)
  pub shares : classical ≡ true → (w : WireId) → Of w → 1 ≤ owners_of W c.vars under w → ⊥
  pub dropped : (w : WireId) → Of w → n ≤ w.number → is_measured s.built.draft.steps w ≡ false → (wire_in s.built.draft.wires w).ending ≡ Dropped

module _ (out : Outside) (held : List (List Part)) (W : Places) (need : Need) (used consumed : Targets) (n low : ℕ) (under : List Value) (c : Context) (s : Flattening) (rest : List Known) (v : Value) where
  abbrev final : Bool → Shape → ℕ → Given (List Operand) → Flattening
  final cl sh m g = record s { built = g.built; values = Shown (record { classical = cl; shape = sh; operands = g.answer; own = false; began = m }) ∷ rest }

  pub told_borrowed : (cl : Bool) (sh : Shape) (m : ℕ) (g : Given (List Operand)) (Of : WireId → Type 0) → IsNew low v cl sh → n ≤ m → n ≤ wires_so_far s → Good s → Sourced W used n under c s v.ty.classical g Of → Stands out held W under c s → Good (final cl sh m g)
      → GivesTold out held W need used consumed n low under c s rest v (final cl sh m g)
  unfolding gives_borrowed
  told_borrowed cl sh m g Of new le grown good src r last = record {
    gives = gives_borrowed out held W need used consumed n low under c s rest v cl sh m g new le good.fresh (record {
      flips = src.flips;
      within = λ w e. pick w (src.from w (named_times w g.answer e));
      differ = src.once;
    }) r;
    sharing = record { shares = λ e w o. unnamed e w o (list_any (named_by w) g.answer) refl; new = λ q e. new.place; lifted = λ q e. new.lifted };
    typed = tt;
    untold = λ w t l m. ends w t l m (src.from w t) (cases_lt w.number (wires_so_far s));
  }
    where
      pick : (w : WireId) → Of w ⊎ (wires_so_far s ≤ w.number) → (used w ≡ true) ⊎ (n ≤ w.number)
      pick w (inl o) = src.within w o
      pick w (inr ge) = inr (omega (arith, ge, grown))

      unnamed : v.ty.classical ≡ true → (w : WireId) → 1 ≤ owners_of W c.vars under w → (t : Bool) → list_any (named_by w) g.answer ≡ t → t ≡ false
      unnamed e w o false f = refl
      unnamed e w o true f = none (src.from w (named_times w g.answer f))
        where
          none : Of w ⊎ (wires_so_far s ≤ w.number) → true ≡ false
          none (inl x) = absurd (src.shares e w x o)
          none (inr ge) = let a = (r.free w o).0 in absurd (omega (arith, a, ge))

      flipped : Flips (λ w. false) 0 s.built g.built
      flipped = src.flips (λ w. false) 0 (omega arith)

      ends : (w : WireId) → 1 ≤ times_in w g.answer → n ≤ w.number → is_measured g.built.draft.steps w ≡ false → Of w ⊎ (wires_so_far s ≤ w.number) → (w.number < wires_so_far s) ⊎ (wires_so_far s ≤ w.number) → (wire_in g.built.draft.wires w).ending ≡ Dropped
      ends w t l m (inl o) q = ap (λ (x : WireForm). x.ending) (flipped.wires w (src.there w o)) ∙ src.dropped w o l (sym (flipped.measured w) ∙ m)
      ends w t l k (inr ge) (inl lt) = absurd (omega (arith, ge, lt))
      ends w t l k (inr ge) (inr q) = ap (λ (x : WireForm). x.ending) (flipped.new w ge (made (cases_lt w.number (length g.built.draft.wires))))
        where
          made : (w.number < length g.built.draft.wires) ⊎ (length g.built.draft.wires ≤ w.number) → w.number < length g.built.draft.wires
          made (inl lt) = lt
          made (inr more) = let z = safe_none (length g.built.draft.wires) w g.answer last.known.values.0.there more in absurd (omega (arith, z, t))

-- what is done before a step, but for the values
pub record EffectDone (out : Outside) (sc : Scope) (e : Effect) (W : Places) (us : List Use) (c : Context) (s : Flattening) (d : Context) : Type 0 where
  pub fine : Fine e s
  pub after : Places
  pub agree : Agree c.next W after
  pub kinds_stay : kinds d.vars ≡ kinds c.vars
  pub leaves : Leaves s (flat e s)
  pub touches : Touches (consumed_wires W c.vars us) s.built.draft (flat e s).built.draft
  pub plain : is_qfree sc.this.mark ≡ true → StaysPlain s.built.draft (flat e s).built.draft
  pub unmade : Unmade (flat e s).built.draft

abbrev pub effect_of : (out : Outside) (sc : Scope) (need : Need) (e : Effect) (W : Places) (under : List Value) (us : List Use) (c : Context) (s : Flattening) (vs : List Value) (d : Context) → ExprDone out sc need e W under us c s vs d → EffectDone out sc e W us c s d
effect_of out sc need e W under us c s vs d o = record { fine = o.fine; after = o.after; agree = o.agree; kinds_stay = o.kinds_stay; leaves = o.leaves; touches = o.touches; plain = o.plain; unmade = o.unmade }

module _ (out : Outside) (sc : Scope) (need : Need) (wants : List Ty) (e : Effect) (W : Places) (under : List Value) (us : List Use) (c : Context) (s : Flattening) (d : Context) (o : EffectDone out sc e W us c s d) where
  -- a step that gives a value for those of what stands before it, with what is told
  pub shows_then : (st : Effect) (U : Places) (v : Value) (f : Context) → Agree c.next o.after U → Fine st (flat e s) → kinds f.vars ≡ kinds d.vars
      → GivesTold out sc.held U need (used_wires W c.vars us) (consumed_wires W c.vars us) (wires_so_far s) c.next under f (flat e s) s.values v (flat st (flat e s)) → ExprTells out sc need wants (e >> st) W under us c s (v ∷ []) f
  shows_then st U v f agree fine same g = record {
    done = record {
      fine = (o.fine, fine);
      after = U;
      agree = λ p l. agree p l ∙ o.agree p l;
      answers = g.gives.answer ∷ [];
      values = g.gives.values;
      each = (g.gives.given, tt);
      stands = g.gives.stands;
      kinds_stay = same ∙ o.kinds_stay;
      leaves = leaves_then s (flat e s) (flat st (flat e s)) o.leaves g.gives.leaves;
      touches = touches_beyond (consumed_wires W c.vars us) s.built.draft (flat e s).built.draft (flat st (flat e s)).built.draft o.touches g.gives.touches;
      plain = λ q w m. o.plain q w (g.gives.plain w m);
      unmade = g.gives.unmade o.unmade;
    };
    sharing = (g.sharing, tt);
    typed = λ q. (g.typed, tt);
    untold = (g.untold, tt);
    several = tt;
  }
