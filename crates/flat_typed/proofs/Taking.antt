-- A value that is taken over: its wires are its own then, those of its place, or new ones; a classical value and a const argument may share theirs.
use Rattle.std.proofs.Common.{◌≡◌, ◌⊎◌, inl, inr, ℕ, ◌≤◌, ◌<◌, Bool, true, false, cond, ◌&&◌, ◌||◌, List, [], ◌∷◌, ◌++◌, length, drop, refl, sym, ap, ap₂, ◌∙◌, subst, arith}
use Rattle.std.specs.List.{list_any}
use Rattle.std.proofs.lemmas.Bool.{cases_lt}
use Rattle.silq_types.specs.declared.types.Ty.{Ty}
use Rattle.silq_types.specs.declared.values.Part.{Part}
use Rattle.silq_types.specs.declared.values.Value.{Value}
use Rattle.silq_types.specs.Types.{is_linear}
use Rattle.silq_types.specs.declared.need.Need.{Need}
use Rattle.silq_types.specs.Calls.{is_consumed}
use Rattle.check_scope.specs.Context.{Context}
use Rattle.check_expr.specs.Owners.{owners, owned}
use Rattle.silq_mean.specs.declared.receiver.Receiver.{Receiver}
use Rattle.silq_mean.specs.declared.receiver.Receiver.TheVariants.{EntryOutput}
use Rattle.flat_core.specs.declared.step.WireId.{WireId}
use Rattle.flat_core.specs.declared.step.End.TheVariants.{Dropped}
use Rattle.flat_core.specs.Form.{WireForm}
use Rattle.flat_core.specs.Label.{wire_in}
use Rattle.flat_core.specs.Drafts.{is_measured}
use Rattle.bit_arith.specs.declared.operand.Operand.{Operand}
use Rattle.bit_arith.specs.Built.{Given, all_made}
use Rattle.bit_arith.specs.Calls.{Targets}
use Rattle.bit_arith.specs.Does.{Fresh}
use Rattle.flat_form.specs.declared.known.TypedBits.{TypedBits}
use Rattle.flat_form.specs.declared.known.Known.{Known}
use Rattle.flat_form.specs.declared.known.Known.TheVariants.{Shown}
use Rattle.flat_form.specs.State.{Flattening, build, wires_so_far, are_wires, are_new, operands_of, as_they_are, copied, taken, kept}
use Rattle.flat_form.specs.Flat.{class_for}
use Rattle.flat_form.specs.Names.{AllOf, named_by}
use Rattle.flat_typed.specs.Places.{Places, with_place, times_in}
use Rattle.flat_typed.specs.Footprint.{Within, Touches, StaysPlain, Unmade}
use Rattle.flat_typed.specs.Relation.{FitsPart, Outside, Stands, IsTakenOver, AllNew, taken_type, is_carried, is_own, need_of}
use Rattle.flat_typed.specs.Done.{Agree, Leaves, carrying}
use Rattle.flat_typed.specs.Calls.{carried}
use Rattle.flat_typed.proofs.Keeping.{new_named}
use Rattle.flat_typed.proofs.Growing.{plain_same, stands_grown}
use Rattle.flat_typed.proofs.Making.{its_place}
use Rattle.flat_typed.proofs.Flipping.{copy_longer, copy_answer}
use Rattle.flat_typed.proofs.Touching.{flips_plain, flips_copied, flips_kept}
use Rattle.flat_typed.proofs.Placing.{KnowsNone, IsLoose, named_times, made_range, made_once, place_agrees, stands_given, stands_less}

-- ---- what is known before

-- a value with a type, as an answer of an expression that began with n wires, in a context whose next place was `low`
pub record Offer (W : Places) (need : Need) (used consumed : Targets) (n low : ℕ) (v : Value) (u : TypedBits) : Type 0 where
  pub shape : u.shape ≡ v.ty.shape
  pub own : is_consumed need ≡ true → u.own ≡ true → (u.operands ≡ W v.place) × ((v.place < low) ⊎ AllNew n u.operands)
  pub borrowed : is_consumed need ≡ true → u.own ≡ false → (low ≤ v.place) × (is_linear v.origin ≡ false)
  pub moved : u.own ≡ true → (w : WireId) → 1 ≤ times_in w u.operands → (consumed w ≡ true) ⊎ (n ≤ w.number)
  pub within : Within used n (Shown u)
  pub began : n ≤ u.began
  pub differ : (w : WireId) → n ≤ w.number → times_in w u.operands ≤ 1

-- the state where it is taken over: nothing else knows wires from the n-th on, and nothing owns a new place
pub record Around (out : Outside) (W : Places) (n low : ℕ) (under : List Value) (c : Context) (s : Flattening) (v : Value) (k : Known) : Type 0 where
  pub knows : KnowsNone out W under c s.callers n
  pub grown : n ≤ wires_so_far s
  pub fresh : Fresh s.built.draft
  pub unmade : Unmade s.built.draft
  pub there : (w : WireId) → 1 ≤ times_in w (operands_of k) → w.number < wires_so_far s
  pub untold : is_own k ≡ false → (w : WireId) → 1 ≤ times_in w (operands_of k) → n ≤ w.number → is_measured s.built.draft.steps w ≡ false → (wire_in s.built.draft.wires w).ending ≡ Dropped
  pub alone : low ≤ v.place → owners v.place c.vars ≡ 0
  pub apart : low ≤ v.place → owned v.place under ≡ 0
  pub fit : low ≤ v.place → (ps : List Operand) → AllOf (FitsPart (with_place W v.place ps) c.vars) c.vars

-- its type suits what takes it over: a static value, which has no type, is not given to a name; a classical one is not Linear, and has a new place
-- where it is copied for the entry
pub record Suits (low : ℕ) (r : Receiver) (v : Value) (u : TypedBits) : Type 0 where
  pub shape : (taken_type r v).shape ≡ v.ty.shape
  pub class : class_for r u ≡ (taken_type r v).classical
  pub lifted : is_consumed (need_of r) ≡ true → is_carried r v ≡ false → is_linear v.origin ≡ false
  pub copies : (t : Ty) → r ≡ EntryOutput t → (t.classical || u.classical) ≡ true → (low ≤ v.place) × (is_linear v.origin ≡ false)

-- ---- what is left

-- the value was taken over, and the state e is behind that
pub record TakesOver (out : Outside) (held : List (List Part)) (W : Places) (used consumed : Targets) (n low : ℕ) (r : Receiver) (under : List Value) (c : Context) (s : Flattening) (v : Value) (e : Flattening) : Type 0 where
  pub after : Places
  pub agree : Agree low W after
  pub answer : Known
  pub values : e.values ≡ answer ∷ drop 1 s.values
  pub taken : IsTakenOver after used consumed n low r v answer
  pub stands : Stands out held after (carried (r ∷ []) (v ∷ []) ++ under) c e
  pub leaves : Leaves s e
  pub touches : (T : Targets) → Touches T s.built.draft e.built.draft
  pub plain : StaysPlain s.built.draft e.built.draft
  pub unmade : Unmade s.built.draft → Unmade e.built.draft

-- wires that the value has as its own
pub record Carried (out : Outside) (held : List (List Part)) (W : Places) (used consumed : Targets) (n low : ℕ) (under : List Value) (c : Context) (s : Flattening) (v : Value) (g : Given (List Operand)) : Type 0 where
  pub after : Places
  pub agree : Agree low W after
  pub stands : Stands out held after (v ∷ under) c (build g.built s)
  pub own : (g.answer ≡ after v.place) × ((v.place < low) ⊎ AllNew n g.answer)
  pub moved : (w : WireId) → 1 ≤ times_in w g.answer → (consumed w ≡ true) ⊎ (n ≤ w.number)
  pub within : (w : WireId) → list_any (named_by w) g.answer ≡ true → (used w ≡ true) ⊎ (n ≤ w.number)

-- wires that others may show too
pub record Shares (out : Outside) (held : List (List Part)) (W : Places) (used : Targets) (n : ℕ) (under : List Value) (c : Context) (s : Flattening) (g : Given (List Operand)) : Type 0 where
  pub stands : Stands out held W under c (build g.built s)
  pub within : (w : WireId) → list_any (named_by w) g.answer ≡ true → (used w ≡ true) ⊎ (n ≤ w.number)

module _ (out : Outside) (held : List (List Part)) (W : Places) (used consumed : Targets) (n low : ℕ) (under : List Value) (c : Context) (s : Flattening) (v : Value) (u : TypedBits) where
  abbrev Carries : Given (List Operand) → Type 0
  Carries g = Carried out held W used consumed n low under c s v g

  abbrev Kept : Given (List Operand) → Type 0
  Kept g = Shares out held W used n under c s g

  -- copies are new
  copies_loose : n ≤ wires_so_far s → ((w : WireId) → wires_so_far s ≤ w.number → is_measured s.built.draft.steps w ≡ false) → (w : WireId) → 1 ≤ times_in w (copied s.setting u.operands s.built).answer → IsLoose n (copied s.setting u.operands s.built).built w
  copies_loose grown unmade w le =
      let q = made_range w (wires_so_far s) (length u.operands) (subst (λ ws. 1 ≤ times_in w (all_made ws)) (copy_answer s.setting u.operands s.built) le) in
      let m = copy_longer s.setting u.operands s.built in
      let a = q.0 in
      let b = q.1 in
      let lt : w.number < length (copied s.setting u.operands s.built).built.draft.wires = omega (arith, m, b) in
      let f = flips_copied (λ w. false) 0 s.setting u.operands s.built (omega arith) in
      record {
        from = omega (arith, grown, a);
        free = (lt, f.measured w ∙ unmade w a);
        untold = ap (λ (x : WireForm). x.ending) (f.new w a lt);
      }

  pub carried_copy : Around out W n low under c s v (Shown u) → low ≤ v.place → Stands out held W under c s → Carries (copied s.setting u.operands s.built)
  carried_copy a new r = record {
    after = with_place W v.place (copied s.setting u.operands s.built).answer;
    agree = place_agrees W low v.place (copied s.setting u.operands s.built).answer new;
    stands =
        stands_given out held W under c (build (copied s.setting u.operands s.built).built s) v (copied s.setting u.operands s.built).answer n a.knows (a.alone new) (a.apart new)
        (a.fit new (copied s.setting u.operands s.built).answer)
        (λ w. subst (λ ws. times_in w (all_made ws) ≤ 1) (sym (copy_answer s.setting u.operands s.built)) (made_once w (wires_so_far s) (length u.operands)))
        (copies_loose a.grown a.unmade)
        (stands_grown out held W under c s (copied s.setting u.operands s.built).built (flips_plain (λ w. false) 0 s.built (copied s.setting u.operands s.built).built a.fresh (flips_copied (λ w. false) 0 s.setting u.operands s.built (omega arith))) r);
    own = (sym (its_place W v.place (copied s.setting u.operands s.built).answer), inr (λ w le. (copies_loose a.grown a.unmade w le).from));
    moved = λ w le. inr (copies_loose a.grown a.unmade w le).from;
    within = λ w e. inr (copies_loose a.grown a.unmade w (named_times w (copied s.setting u.operands s.built).answer e)).from;
  }

  module _ (need : Need) (o : Offer W need used consumed n low v u) (a : Around out W n low under c s v (Shown u)) (consumes : is_consumed need ≡ true) where
    carries_it : u.own ≡ true → carrying need (v ∷ []) (Shown u ∷ []) ≡ v ∷ []
    carries_it e = ap₂ (λ x y. cond (x && y) (v ∷ []) []) consumes e

    carries_none : u.own ≡ false → carrying need (v ∷ []) (Shown u ∷ []) ≡ []
    carries_none e = ap₂ (λ x y. cond (x && y) (v ∷ []) []) consumes e

    -- wires of its own stay
    carried_own : u.own ≡ true → Stands out held W (carrying need (v ∷ []) (Shown u ∷ []) ++ under) c s → Carries (as_they_are u.operands s.built)
    carried_own e r = record {
      after = W;
      agree = λ p l. refl;
      stands = stands_grown out held W (v ∷ under) c s s.built (plain_same s.built.draft) (subst (λ l. Stands out held W (l ++ under) c s) (carries_it e) r);
      own = o.own consumes e;
      moved = o.moved e;
      within = o.within;
    }

    -- wires that its expression made
    carried_new : u.own ≡ false → are_new s.built.draft u.began u.operands ≡ true → Stands out held W (carrying need (v ∷ []) (Shown u ∷ []) ++ under) c s → Carries (as_they_are u.operands s.built)
    carried_new e new r = record {
      after = with_place W v.place u.operands;
      agree = place_agrees W low v.place u.operands (o.borrowed consumes e).0;
      stands =
          stands_grown out held (with_place W v.place u.operands) (v ∷ under) c s s.built (plain_same s.built.draft)
          (stands_given out held W under c s v u.operands n a.knows (a.alone (o.borrowed consumes e).0) (a.apart (o.borrowed consumes e).0) (a.fit (o.borrowed consumes e).0 u.operands) once loose
          (subst (λ l. Stands out held W (l ++ under) c s) (carries_none e) r));
      own = (sym (its_place W v.place u.operands), inr from);
      moved = λ w le. inr (from w le);
      within = λ w q. inr (from w (named_times w u.operands q));
    }
      where
        from : (w : WireId) → 1 ≤ times_in w u.operands → n ≤ w.number
        from w le = let q = (new_named s.built.draft u.began u.operands new w le).0 in let b = o.began in omega (arith, q, b)

        once : (w : WireId) → times_in w u.operands ≤ 1
        once w = few (cases_lt 1 (times_in w u.operands))
          where
            few : (1 < times_in w u.operands) ⊎ (times_in w u.operands ≤ 1) → times_in w u.operands ≤ 1
            few (inr le) = le
            few (inl lt) = o.differ w (from w (omega (arith, lt)))

        loose : (w : WireId) → 1 ≤ times_in w u.operands → IsLoose n s.built w
        loose w le =
            let m = (new_named s.built.draft u.began u.operands new w le).1 in
            record { from = from w le; free = (a.there w le, m); untold = a.untold e w le (from w le) m }

    pub carried_taken : Stands out held W (carrying need (v ∷ []) (Shown u ∷ []) ++ under) c s → Carries (taken s.setting u s.built)
    carried_taken r = go u.own refl (are_new s.built.draft u.began u.operands) refl
      where
        is : (x y : Bool) → u.own ≡ x → are_new s.built.draft u.began u.operands ≡ y → cond (x || y) (as_they_are u.operands s.built) (copied s.setting u.operands s.built) ≡ taken s.setting u s.built
        is x y e f = sym (ap₂ (λ p q. cond (p || q) (as_they_are u.operands s.built) (copied s.setting u.operands s.built)) e f)

        go : (x : Bool) → u.own ≡ x → (y : Bool) → are_new s.built.draft u.began u.operands ≡ y → Carries (taken s.setting u s.built)
        go true e y f = subst Carries (is true y e f) (carried_own e r)
        go false e true f = subst Carries (is false true e f) (carried_new e f r)
        go false e false f = subst Carries (is false false e f) (carried_copy a (o.borrowed consumes e).0 (subst (λ l. Stands out held W (l ++ under) c s) (carries_none e) r))

  -- without what it carries
  pub bare : (need : Need) → (is_consumed need ≡ true → is_linear v.origin ≡ false) → Stands out held W (carrying need (v ∷ []) (Shown u ∷ []) ++ under) c s → Stands out held W under c s
  bare need lifted r = go (is_consumed need) refl u.own refl
    where
      is : (x y : Bool) → is_consumed need ≡ x → u.own ≡ y → carrying need (v ∷ []) (Shown u ∷ []) ≡ cond (x && y) (v ∷ []) []
      is x y e f = ap₂ (λ p q. cond (p && q) (v ∷ []) []) e f

      at : (x y : Bool) → is_consumed need ≡ x → u.own ≡ y → Stands out held W (cond (x && y) (v ∷ []) [] ++ under) c s
      at x y e f = subst (λ l. Stands out held W (l ++ under) c s) (is x y e f) r

      go : (x : Bool) → is_consumed need ≡ x → (y : Bool) → u.own ≡ y → Stands out held W under c s
      go true e true f = stands_less out held W under c s v (lifted e) (at true true e f)
      go true e false f = at true false e f
      go false e y f = at false y e f

  pub kept_shares : Around out W n low under c s v (Shown u) → Within used n (Shown u) → Stands out held W under c s → Kept (kept s.setting u s.built)
  kept_shares a within r = record {
    stands = stands_grown out held W under c s (kept s.setting u s.built).built (flips_plain (λ w. false) 0 s.built (kept s.setting u s.built).built a.fresh (flips_kept (λ w. false) 0 s.setting u s.built (omega arith))) r;
    within = λ w. go w (are_wires u.operands);
  }
    where
      go : (w : WireId) (t : Bool) → list_any (named_by w) (cond t (as_they_are u.operands s.built) (copied s.setting u.operands s.built)).answer ≡ true → (used w ≡ true) ⊎ (n ≤ w.number)
      go w true e = within w e
      go w false e = inr (copies_loose a.grown a.unmade w (named_times w (copied s.setting u.operands s.built).answer e)).from
