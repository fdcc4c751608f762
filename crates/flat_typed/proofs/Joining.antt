-- From one branch of a choice to the other, and behind both: the relation where the second begins, and where they join.
use Rattle.std.proofs.Common.{◌≡◌, ◌⊎◌, inl, inr, ℕ, ◌+◌, ◌≤◌, ◌<◌, Bool, true, false, cond, not, ◌&&◌, ◌||◌, List, [], ◌∷◌, length, refl, sym, ap, ap₂, ◌∙◌, subst, arith, nat_lt}
use Rattle.std.specs.Prelude.{Option, Some, None, ℤ}
use Rattle.std.proofs.lemmas.Bool.{cases_lt, lt-ltb, ltb-true}
use Rattle.silq_tree.specs.declared.node.NameId.{NameId}
use Rattle.silq_types.specs.declared.types.Ty.{Ty}
use Rattle.silq_types.specs.declared.values.Origin.{Origin}
use Rattle.silq_types.specs.declared.values.Origin.TheVariants.{Linear, Lifted, Classical, Held}
use Rattle.silq_types.specs.declared.values.Part.{Part}
use Rattle.silq_types.specs.declared.values.Value.{Value}
use Rattle.silq_types.specs.declared.values.Var.{Var}
use Rattle.silq_types.specs.Types.{is_linear, is_held}
use Rattle.check_scope.specs.Context.{Context, part_at, part_type, is_in_condition}
use Rattle.check_fun.specs.Statement.{joined}
use Rattle.flat_core.specs.declared.step.WireId.{WireId}
use Rattle.bit_arith.specs.declared.operand.Operand.{Operand}
use Rattle.bit_arith.specs.Calls.{Targets}
use Rattle.flat_form.specs.State.{Flattening, wires_so_far, wires_in, part_of}
use Rattle.flat_form.specs.Names.{AllOf, names}
use Rattle.flat_form.specs.Flat.{under}
use Rattle.flat_form.proofs.Goods.{at_second}
use Rattle.flat_typed.specs.Places.{Places, is_part, is_shared, has_wires, part_out, shown, owners_of, linear_owners}
use Rattle.flat_typed.specs.Footprint.{Owed}
use Rattle.flat_typed.specs.Relation.{Outside, Stands, FitsPart, SparesGuarded}
use Rattle.flat_typed.proofs.Ordered.{clash}
use Rattle.flat_typed.proofs.Moving.{all_more}
use Rattle.flat_typed.proofs.Binding.{none_out}
use Rattle.flat_typed.proofs.Turns.{wired_live}
use Rattle.flat_typed.proofs.Agreeing.{SameFor, stands_agree}
use Rattle.flat_typed.proofs.Outer.{SameVar, AllSame, LiveAgree, MoreLinear, same_back, same_then, same_whole, same_differ, same_shared, same_wired, same_shown, same_entries, same_holders, more_linear}

or_known : (a b : Bool) → b ≡ true → (a || b) ≡ true
or_known true b e = refl
or_known false b e = e

or_cases : (a b : Bool) → (a || b) ≡ true → (a ≡ true) ⊎ (b ≡ true)
or_cases true b e = inl refl
or_cases false b e = inr e

pub no_parts : (U : Places) (all vs : List Var) → AllOf (λ v. is_part v ≡ false) vs → AllOf (FitsPart U all) vs
no_parts U all vs h = all_more (λ v. is_part v ≡ false) (FitsPart U all) vs (λ v e t. clash (sym t ∙ e)) h

-- ---- where the second branch begins

module _ (out : Outside) (held : List (List Part)) (W : Places) (c : Context) (s : Flattening) (U : Places) (d : Context) (one : Flattening) where
  -- wires that the first made Linear are answered for
  abbrev pub behind_first : Outside
  behind_first = record { guarded = out.guarded; answered = λ w. out.answered w || nat_lt 0 (linear_owners U d.vars [] w) }

  same_for : (vs : List Var) → AllOf (LiveAgree U W) vs → AllOf (SameFor U W) vs
  same_for vs h = all_more (LiveAgree U W) (SameFor U W) vs (λ v a. go v a v.consumed refl) h
    where
      go : (v : Var) → LiveAgree U W v → (t : Bool) → v.consumed ≡ t → SameFor U W v
      go v a true e = inl e
      go v a false e = inr (a e)

  pub stands_second : (first : Outside) (inner : List (List Part)) → ((w : WireId) → first.answered w ≡ true → out.answered w ≡ true) → Stands out held W [] c s → AllOf (λ v. is_part v ≡ false) c.vars → AllOf (LiveAgree U W) c.vars → AllSame c.vars d.vars
      → Stands first inner U [] d one → wires_so_far s ≤ wires_so_far one → Stands behind_first held U [] (record d { vars = c.vars }) (at_second one s)
  stands_second first inner more r whole agree same t grown = record {
    env = a.env;
    differ = a.differ;
    parts = a.parts;
    one = a.one;
    free = λ w le. t.free w (before w le);
    untold = λ w le. t.untold w (before w le);
    shared = a.shared;
    callers = a.callers;
    guards = a.guards;
    below = λ w g. let l = a.below w g in omega (arith, l, grown);
    spares = a.spares;
    carried = tt;
    owed = λ w o. inr (owed w (t.owed w (record { there = o.there; untold = o.untold; why = o.why })));
  }
    where
      a : Stands out held U [] c s
      a = stands_agree U out held W [] c s (same_for c.vars agree) tt (no_parts U c.vars c.vars whole) r

      itself : (vs : List Var) → AllOf (LiveAgree U U) vs
      itself [] = tt
      itself (v ∷ vs) = ((λ e. refl), itself vs)

      before : (w : WireId) → 1 ≤ owners_of U c.vars [] w → 1 ≤ owners_of U d.vars [] w
      before w le =
          let q = same_holders U U c.vars d.vars (λ y. none_out c.vars y whole) (λ y. none_out d.vars y (same_whole c.vars d.vars same whole)) w c.vars d.vars same (itself c.vars) in
          omega (arith, q, le)

      owed : (w : WireId) → (1 ≤ linear_owners U d.vars [] w) ⊎ (first.answered w ≡ true) → (out.answered w || nat_lt 0 (linear_owners U d.vars [] w)) ≡ true
      owed w (inl le) = or_known (out.answered w) (nat_lt 0 (linear_owners U d.vars [] w)) (lt-ltb 0 (linear_owners U d.vars [] w) (omega (arith, le)))
      owed w (inr k) = ap (λ x. x || nat_lt 0 (linear_owners U d.vars [] w)) (more w k)

-- ---- where they join

linear_unheld : (o : Origin) → is_linear o ≡ true → is_held o ≡ false
linear_unheld Lifted e = refl
linear_unheld Linear e = refl
linear_unheld Classical e = refl
linear_unheld Held e = clash (sym e)

abbrev as_linear : Bool → Var → Var
as_linear t v = cond t (record v { origin = Linear }) v

joined_one : (a b : Var) → SameVar a b → SameVar b (as_linear (is_linear a.origin) b)
joined_one a b h = go (is_linear a.origin) refl
  where
    go : (t : Bool) → is_linear a.origin ≡ t → SameVar b (as_linear t b)
    go false e = record { part = refl; ty = refl; place = refl; consumed = refl; held = refl }
    go true e = record { part = refl; ty = refl; place = refl; consumed = refl; held = sym (h.held ∙ linear_unheld a.origin e) }

pub joined_same : (vs ws : List Var) → AllSame vs ws → AllSame ws (joined vs ws)
joined_same [] [] h = tt
joined_same [] (w ∷ ws) h = absurd h
joined_same (v ∷ vs) [] h = absurd h
joined_same (v ∷ vs) (w ∷ ws) h = (joined_one v w h.0, joined_same vs ws h.1)

joined_first : (vs ws : List Var) → AllSame vs ws → MoreLinear vs (joined vs ws)
joined_first [] [] h = tt
joined_first [] (w ∷ ws) h = absurd h
joined_first (v ∷ vs) [] h = absurd h
joined_first (v ∷ vs) (w ∷ ws) h = ((λ e. ap (λ t. is_linear (as_linear t w).origin) e), joined_first vs ws h.1)

joined_second : (vs ws : List Var) → AllSame vs ws → MoreLinear ws (joined vs ws)
joined_second [] [] h = tt
joined_second [] (w ∷ ws) h = absurd h
joined_second (v ∷ vs) [] h = absurd h
joined_second (v ∷ vs) (w ∷ ws) h = (go (is_linear v.origin), joined_second vs ws h.1)
  where
    go : (t : Bool) → is_linear w.origin ≡ true → is_linear (as_linear t w).origin ≡ true
    go true e = refl
    go false e = e

shares_same : (U W : Places) (all more : List Var) (none : (y : NameId) → part_out all y ≡ None) (gone : (y : NameId) → part_out more y ≡ None) (w : WireId) (vs ws : List Var) → AllSame vs ws → AllOf (LiveAgree U W) vs → AllOf (λ v. is_shared v ≡ true → names (shown W all v) w ≡ false) vs → AllOf (λ v. is_shared v ≡ true → names (shown U more v) w ≡ false) ws
shares_same U W all more none gone w [] [] h a q = tt
shares_same U W all more none gone w [] (y ∷ ys) h a q = absurd h
shares_same U W all more none gone w (x ∷ xs) [] h a q = absurd h
shares_same U W all more none gone w (x ∷ xs) (y ∷ ys) h a q =
    ((λ t. ap (λ k. names k w) (same_shown U W all more none gone x y h.0 a.0) ∙ q.0 (sym (same_shared x y h.0) ∙ t)), shares_same U W all more none gone w xs ys h.1 a.1 q.1)

spares_same : (G : Targets) (held : List (List Part)) (U W : Places) (vs ws : List Var) → AllSame vs ws → AllOf (LiveAgree U W) vs → AllOf (SparesGuarded G held W) vs → AllOf (SparesGuarded G held U) ws
spares_same G held U W [] [] h a q = tt
spares_same G held U W [] (y ∷ ys) h a q = absurd h
spares_same G held U W (x ∷ xs) [] h a q = absurd h
spares_same G held U W (x ∷ xs) (y ∷ ys) h a q = (one, spares_same G held U W xs ys h.1 a.1 q.1)
  where
    one : SparesGuarded G held U y
    one has is t kind loose =
        subst (λ l. AllOf (λ w. G w ≡ false) (wires_in l)) (sym (ap₂ (λ (k : Ty) ps. part_of k.shape is ps) h.0.ty (ap U h.0.place ∙ a.0 (wired_live x wired))))
        (q.0 wired is t (ap (λ (k : Ty). part_type k.classical k.shape is) (sym h.0.ty) ∙ kind) (ap (λ (r : Part). is_in_condition held (part_at r.name is)) (sym h.0.part) ∙ loose))
      where
        wired : has_wires x ≡ true
        wired = sym (same_wired x y h.0) ∙ has

itself_agrees : (U : Places) (vs : List Var) → AllOf (LiveAgree U U) vs
itself_agrees U [] = tt
itself_agrees U (v ∷ vs) = ((λ e. refl), itself_agrees U vs)

live_through : (U V : Places) (vs ws : List Var) → AllSame vs ws → AllOf (LiveAgree V U) vs → AllOf (LiveAgree V U) ws
live_through U V [] [] h a = tt
live_through U V [] (w ∷ ws) h a = absurd h
live_through U V (v ∷ vs) [] h a = absurd h
live_through U V (v ∷ vs) (w ∷ ws) h a = ((λ e. ap V h.0.place ∙ (a.0 (sym h.0.consumed ∙ e) ∙ ap U (sym h.0.place))), live_through U V vs ws h.1 a.1)

-- from where the choice began with W, the first branch ended with U at d, and the second with V at e
module _ (out : Outside) (held : List (List Part)) (W : Places) (c : Context) (s : Flattening) (U : Places) (d : Context) (V : Places) (e : Context) (two : Flattening) where
  abbrev pub behind_both : Context
  behind_both = record e { vars = joined d.vars e.vars }

  pub stands_joined : (second : Outside) (inner : List (List Part)) → ((w : WireId) → second.answered w ≡ true → (out.answered w || nat_lt 0 (linear_owners U d.vars [] w)) ≡ true) → Stands out held W [] c s → AllOf (λ v. is_part v ≡ false) c.vars
      → AllOf (LiveAgree V W) c.vars → AllOf (LiveAgree V U) c.vars → AllSame c.vars d.vars → AllSame c.vars e.vars → Stands second inner V [] e two → wires_so_far s ≤ wires_so_far two → Stands out held V [] behind_both (under s.setting.condition two)
  stands_joined second inner more r whole from_start from_first first same t grown = record {
    env = t.env ∙ sym (same_entries V V e.vars g none-e none-g e.vars g both (itself_agrees V e.vars));
    differ = same_differ e.vars g both t.differ;
    parts = no_parts V g g (same_whole e.vars g both whole-e);
    one = λ w. let q = owners w in let k = t.one w in omega (arith, q, k);
    free = λ w le. t.free w (before w le);
    untold = λ w le. t.untold w (before w le);
    shared = λ w le. shares_same V V e.vars g none-e none-g w e.vars g both (itself_agrees V e.vars) (t.shared w (before w le));
    callers = λ w le. t.callers w (before w le);
    guards = r.guards;
    below = λ w b. let l = r.below w b in omega (arith, l, grown);
    spares = spares_same out.guarded held V W c.vars g (same_then c.vars e.vars g same both) from_start r.spares;
    carried = tt;
    owed = λ w o. owed w (t.owed w (record { there = o.there; untold = o.untold; why = o.why }));
  }
    where
      g : List Var
      g = joined d.vars e.vars

      crossed : AllSame d.vars e.vars
      crossed = same_then d.vars c.vars e.vars (same_back c.vars d.vars first) same

      both : AllSame e.vars g
      both = joined_same d.vars e.vars crossed

      whole-d : AllOf (λ v. is_part v ≡ false) d.vars
      whole-d = same_whole c.vars d.vars first whole

      whole-e : AllOf (λ v. is_part v ≡ false) e.vars
      whole-e = same_whole c.vars e.vars same whole

      none-d : (y : NameId) → part_out d.vars y ≡ None
      none-d y = none_out d.vars y whole-d

      none-e : (y : NameId) → part_out e.vars y ≡ None
      none-e y = none_out e.vars y whole-e

      none-g : (y : NameId) → part_out g y ≡ None
      none-g y = none_out g y (same_whole e.vars g both whole-e)

      owners : (w : WireId) → owners_of V g [] w ≡ owners_of V e.vars [] w
      owners w = ap (λ n. n + 0) (same_holders V V e.vars g none-e none-g w e.vars g both (itself_agrees V e.vars))

      before : (w : WireId) → 1 ≤ owners_of V g [] w → 1 ≤ owners_of V e.vars [] w
      before w le = subst (λ n. 1 ≤ n) (owners w) le

      from_second : (w : WireId) → 1 ≤ linear_owners V e.vars [] w → 1 ≤ linear_owners V g [] w
      from_second w le =
          let q = more_linear V V e.vars g none-e none-g w e.vars g both (itself_agrees V e.vars) (joined_second d.vars e.vars crossed) in
          omega (arith, q, le)

      from_one : (w : WireId) → 1 ≤ linear_owners U d.vars [] w → 1 ≤ linear_owners V g [] w
      from_one w le =
          let q = more_linear V U d.vars g none-d none-g w d.vars g (same_then d.vars e.vars g crossed both) (live_through U V c.vars d.vars first from_first) (joined_first d.vars e.vars crossed) in
          omega (arith, q, le)

      owed : (w : WireId) → (1 ≤ linear_owners V e.vars [] w) ⊎ (second.answered w ≡ true) → (1 ≤ linear_owners V g [] w) ⊎ (out.answered w ≡ true)
      owed w (inl le) = inl (from_second w le)
      owed w (inr k) = pick (or_cases (out.answered w) (nat_lt 0 (linear_owners U d.vars [] w)) (more w k))
        where
          pick : (out.answered w ≡ true) ⊎ (nat_lt 0 (linear_owners U d.vars [] w) ≡ true) → (1 ≤ linear_owners V g [] w) ⊎ (out.answered w ≡ true)
          pick (inl x) = inr x
          pick (inr x) = inl (from_one w (let l = ltb-true 0 (linear_owners U d.vars [] w) x in omega (arith, l)))
