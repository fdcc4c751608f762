-- Behind a call: the relation stands for the caller again, with the call's values under way.
use Rattle.std.proofs.Common.{◌≡◌, ◌⊎◌, inl, inr, ℕ, ◌+◌, ◌≤◌, ◌<◌, Bool, true, false, cond, not, ◌&&◌, ◌||◌, List, [], ◌∷◌, ◌++◌, length, map, refl, sym, ap, ◌∙◌, subst, arith}
use Rattle.std.specs.Prelude.{nat_lt, ⊤}
use Rattle.std.proofs.lemmas.Bool.{cases_lt, ltb-true}
use Rattle.silq_tree.specs.Syntax.{Function}
use Rattle.silq_types.specs.declared.signature.Returned.{Returned}
use Rattle.silq_types.specs.declared.values.Part.{Part}
use Rattle.silq_types.specs.declared.values.Value.{Value}
use Rattle.silq_types.specs.declared.values.Var.{Var}
use Rattle.silq_types.specs.Types.{Statics, is_linear}
use Rattle.silq_mean.specs.Written.{Header}
use Rattle.silq_mean.specs.Effect.{Effect}
use Rattle.check_scope.specs.Context.{Context, indices, variable}
use Rattle.check_expr.specs.Owners.{owners, owned}
use Rattle.check_fun.specs.Program.{param_vars}
use Rattle.flat_core.specs.declared.step.WireId.{WireId}
use Rattle.flat_core.specs.declared.step.End.TheVariants.{Dropped}
use Rattle.flat_core.specs.Form.{WireForm}
use Rattle.flat_core.specs.Label.{wire_in}
use Rattle.bit_arith.specs.Built.{Setting}
use Rattle.bit_arith.specs.Calls.{Targets, IsTarget}
use Rattle.flat_form.specs.declared.known.Known.{Known}
use Rattle.flat_form.specs.State.{Flattening, operands_of, wires_so_far, wires_in, part_of}
use Rattle.flat_form.specs.Flat.{flat}
use Rattle.flat_form.specs.Names.{AllOf, CallerOf, names}
use Rattle.flat_form.specs.Good.{Good}
use Rattle.flat_form.specs.Shows.{ListBoth}
use Rattle.flat_typed.specs.Places.{Places, is_part, is_shared, shown, holds, holders, linear_holders, carriers, linear_carriers, owners_of, linear_owners}
use Rattle.flat_typed.specs.Footprint.{Owed, StaysPlain, is_mixed}
use Rattle.flat_typed.specs.Relation.{Outside, Stands, FitsPart, Guards}
use Rattle.flat_typed.specs.Done.{Counted, changeable}
use Rattle.flat_typed.specs.Calls.{carried, BodyDone, named_times, quantum_times}
use Rattle.flat_typed.proofs.Ordered.{clash}
use Rattle.flat_typed.proofs.Uses.{all_join}
use Rattle.flat_typed.proofs.Owning.{all_back}
use Rattle.flat_typed.proofs.Moving.{found_all}
use Rattle.flat_typed.proofs.Changes.{entries_agree}
use Rattle.flat_typed.proofs.Agreeing.{SameFor, holders_agree, linear_agree, carriers_agree, linear_carried, shares_agree, spares_agree, carried_agree}
use Rattle.flat_typed.proofs.Touching.{unmixed}
use Rattle.flat_typed.proofs.Handing.{with_all, each_shows}
use Rattle.flat_typed.proofs.Scopes.{taken_param}
use Rattle.flat_typed.proofs.Surrounding.{shows_before, none_shares, callers_unnamed}
use Rattle.flat_typed.proofs.Parameters.{operands_at, AllEntered}
use Rattle.flat_typed.proofs.BodyEntering.{inside, carriers_sum, linear_sum, linear_few, body_owns, caller_owns, body_begin}
use Rattle.flat_typed.proofs.CallResults.{IsReturned, IsHanded}
use Rattle.flat_typed.proofs.CallLists.{carriers_named, quantum_few, quantum_linear, old_stays, vars_stay, values_stay, values_each}

-- the state behind a body, for its caller
abbrev pub returned : Flattening → List Known → Flattening → Flattening
returned s below t = record t { env = s.env; values = t.values ++ below; callers = s.callers }

may_change : (g : Bool) (n : ℕ) → (not g && nat_lt 0 n) ≡ true → 1 ≤ n
may_change true n e = clash (sym e)
may_change false n e = let a = ltb-true 0 n e in omega (arith, a)

both_more : {A B : Type 0} (P Q : A → B → Type 0) (xs : List A) (ys : List B) → ((x : A) (y : B) → P x y → Q x y) → ListBoth P xs ys → ListBoth Q xs ys
both_more P Q [] [] f h = tt
both_more P Q [] (y ∷ ys) f h = absurd h
both_more P Q (x ∷ xs) [] f h = absurd h
both_more P Q (x ∷ xs) (y ∷ ys) f h = (f x y h.0, both_more P Q xs ys f h.1)

linear_held_few : (W : Places) (all : List Var) (w : WireId) (vs : List Var) → linear_holders W all w vs ≤ holders W all w vs
linear_held_few W all w [] = omega arith
linear_held_few W all w (v ∷ vs) = go (is_linear v.origin) (linear_held_few W all w vs)
  where
    go : (x : Bool) → linear_holders W all w vs ≤ holders W all w vs → cond x (holds W all w v) 0 + linear_holders W all w vs ≤ holds W all w v + holders W all w vs
    go true i = omega (arith, i)
    go false i = omega (arith, i)

module _ (out : Outside) (held : List (List Part)) (after : Places) (h : Header) (vs : List Value) (ks : List Known) (under : List Value) (d : Context) (s : Flattening) (below : List Known) (f : Function) (statics : Statics) (e : Effect) (rs : List Returned)
    (long : length f.params ≡ length h.params) (entered : AllEntered after (operands_at ks) 0 h.params vs ks) (r : Stands out held after (carried (map taken_param h.params) vs ++ under) d s) (good : Good s)
    (b : BodyDone (inside out after under d) f h e (operands_at ks) (body_begin out held after h.params vs ks under d s below f statics) rs) where
  abbrev pub args : List Value
  args = carried (map taken_param h.params) vs

  abbrev pub m : ℕ
  m = wires_so_far s

  abbrev pub t : Flattening
  t = flat e (body_begin out held after h.params vs ks under d s below f statics)

  abbrev pub u : Flattening
  u = returned s below t

  pub owns_all : (w : WireId) → owners_of after d.vars (args ++ under) w ≡ holders after d.vars w d.vars + (carriers after w args + carriers after w under)
  owns_all w = caller_owns out held after h.params vs ks under d s below f statics long entered r w

  -- a wire that the body may change is an argument's
  pub changed_is : (w : WireId) → changeable (inside out after under d) (operands_at ks) (param_vars 0 f.params h.params) [] w ≡ true → (1 ≤ carriers after w args) × (holders after d.vars w d.vars + carriers after w under ≡ 0)
  changed_is w c = body_owns out held after h.params vs ks under d s below f statics long entered r w (may_change (out.guarded w) (owners_of (operands_at ks) (param_vars 0 f.params h.params) [] w) c)

  -- a result's wire is an argument's, or new
  pub ours : (w : WireId) → 1 ≤ named_times b.answers w → (1 ≤ carriers after w args) ⊎ (m ≤ w.number)
  ours w le = go (b.ours w le)
    where
      go : (changeable (inside out after under d) (operands_at ks) (param_vars 0 f.params h.params) [] w ≡ true) ⊎ (m ≤ w.number) → (1 ≤ carriers after w args) ⊎ (m ≤ w.number)
      go (inl c) = inl (changed_is w c).0
      go (inr l) = inr l

  -- and no one else owns it
  pub alone : (w : WireId) → 1 ≤ named_times b.answers w → holders after d.vars w d.vars + carriers after w under ≡ 0
  alone w le = go (ours w le)
    where
      go : (1 ≤ carriers after w args) ⊎ (m ≤ w.number) → holders after d.vars w d.vars + carriers after w under ≡ 0
      go (inl a) = let x = r.one w in let y = owns_all w in omega (arith, a, x, y)
      go (inr l) = new (cases_lt 0 (owners_of after d.vars (args ++ under) w))
        where
          new : (0 < owners_of after d.vars (args ++ under) w) ⊎ (owners_of after d.vars (args ++ under) w ≤ 0) → holders after d.vars w d.vars + carriers after w under ≡ 0
          new (inl lt) = let a = (r.free w (omega (arith, lt))).0 in absurd (omega (arith, a, l))
          new (inr z) = let y = owns_all w in omega (arith, y, z)

  -- a wire that another one owns is left by the body
  pub left : (w : WireId) → 1 ≤ holders after d.vars w d.vars + carriers after w under → changeable (inside out after under d) (operands_at ks) (param_vars 0 f.params h.params) [] w ≡ false
  left w le = go (changeable (inside out after under d) (operands_at ks) (param_vars 0 f.params h.params) [] w) refl
    where
      go : (x : Bool) → changeable (inside out after under d) (operands_at ks) (param_vars 0 f.params h.params) [] w ≡ x → x ≡ false
      go false q = refl
      go true q = let a = (changed_is w q).1 in absurd (omega (arith, a, le))

  owned_before : (w : WireId) → 1 ≤ holders after d.vars w d.vars + carriers after w under → 1 ≤ owners_of after d.vars (args ++ under) w
  owned_before w le = let y = owns_all w in omega (arith, y, le)

  free_behind : (w : WireId) → 1 ≤ holders after d.vars w d.vars + carriers after w under → IsTarget t.built.draft w
  free_behind w le =
      let a = r.free w (owned_before w le) in
      (let g = b.touches.grown in let l = a.0 in omega (arith, g, l), b.touches.measured w a.0 (left w le) ∙ a.1)

  untold_behind : (w : WireId) → 1 ≤ holders after d.vars w d.vars + carriers after w under → (wire_in t.built.draft.wires w).ending ≡ Dropped
  untold_behind w le = ap (λ (x : WireForm). x.ending) (b.touches.ends w (r.free w (owned_before w le)).0 (left w le)) ∙ r.untold w (owned_before w le)

  -- no variable that shares its wires, and no caller, names a wire of a result
  unshared : (w : WireId) → 1 ≤ named_times b.answers w → AllOf (λ v. is_shared v ≡ true → names (shown after d.vars v) w ≡ false) d.vars
  unshared w le = go (ours w le)
    where
      go : (1 ≤ carriers after w args) ⊎ (m ≤ w.number) → AllOf (λ v. is_shared v ≡ true → names (shown after d.vars v) w ≡ false) d.vars
      go (inl a) = r.shared w (let y = owns_all w in omega (arith, y, a))
      go (inr l) = none_shares after m d.vars w l d.vars (shows_before out held after (args ++ under) d s good r)

  uncalled : (w : WireId) → 1 ≤ named_times b.answers w → AllOf (CallerOf (λ k. names k w ≡ false)) s.callers
  uncalled w le = go (ours w le)
    where
      go : (1 ≤ carriers after w args) ⊎ (m ≤ w.number) → AllOf (CallerOf (λ k. names k w ≡ false)) s.callers
      go (inl a) = r.callers w (let y = owns_all w in omega (arith, y, a))
      go (inr l) = callers_unnamed m s.callers good.known.callers w l

  -- ---- the relation behind the call

  module _ (xs : List Value) (lifts : Bool) (next : ℕ) (used : Targets) (n low : ℕ) (handed : ListBoth (IsHanded after used n low) xs b.answers) (made : ListBoth (IsReturned lifts vs next) rs xs) (others : ℕ → ℕ)
      (sole : (p : ℕ) → owners p d.vars + (others p + owned p xs) ≤ 1) (counted : Counted under others) (placed : AllOf (λ v. is_part v ≡ true → v.place < low) d.vars)
      (plain : lifts ≡ true → StaysPlain s.built.draft t.built.draft × ((w : WireId) → linear_carriers after w args ≡ 0)) (inputs : (w : WireId) → m ≤ w.number → (wire_in t.built.draft.wires w).input ≡ false) where
    abbrev pub U : Places
    U = with_all after xs b.answers

    pub vars_same : AllOf (SameFor U after) d.vars
    vars_same = vars_stay after xs b.answers (λ p. others p + owned p xs) d.vars sole (λ p. omega arith)

    pub under_same : AllOf (λ (v : Value). U v.place ≡ after v.place) under
    under_same = values_stay after xs b.answers under (λ p. let a = counted p in let e = sole p in omega (arith, a, e))

    pub shows_each : ListBoth (λ (x : Value) (k : Known). U x.place ≡ operands_of k) xs b.answers
    shows_each = each_shows after xs b.answers (both_more (λ x k. IsHanded after used n low x k) (λ x k. ⊤) xs b.answers (λ x k g. tt) handed) (λ p. let e = sole p in omega (arith, e))

    fits : AllOf (FitsPart U d.vars) d.vars
    fits = each d.vars r.parts placed
      where
        its : (w : Var) → SameFor U after w → w.consumed ≡ false → U w.place ≡ after w.place
        its w (inl c) l = clash (sym c ∙ l)
        its w (inr q) l = q

        one : (v : Var) → FitsPart after d.vars v → (is_part v ≡ true → v.place < low) → FitsPart U d.vars v
        one v f p i =
            let g = f i in (
              g.0,
              g.1,
              record {
                live = g.2.live;
                kind = g.2.kind;
                same = g.2.same;
                wires =
                    old_stays after used n low xs b.answers handed v.place (p i)
                    ∙ (g.2.wires ∙ ap (λ qs. part_of g.0.ty.shape (indices v.part) qs) (sym (its g.0 (found_all (SameFor U after) d.vars (variable v.part.name) g.0 g.1 vars_same) g.2.live)));
              },
            )

        each : (ws : List Var) → AllOf (FitsPart after d.vars) ws → AllOf (λ v. is_part v ≡ true → v.place < low) ws → AllOf (FitsPart U d.vars) ws
        each [] f p = tt
        each (v ∷ ws) f p = (one v f.0 p.0, each ws f.1 p.1)

    -- who owns a wire then
    pub owned_by : (w : WireId) → owners_of U d.vars (xs ++ under) w ≡ (holders after d.vars w d.vars + carriers after w under) + named_times b.answers w
    owned_by w =
        let a = holders_agree U after d.vars d.vars w vars_same in
        let c = carriers_sum U w xs under in
        let g = carriers_named U w xs b.answers shows_each in
        let q = carriers_agree U after w under under_same in
        omega (arith, a, c, g, q)

    linear_by : (w : WireId) → linear_owners U d.vars (xs ++ under) w ≡ linear_owners after d.vars under w + linear_carriers U w xs
    linear_by w =
        let a = linear_agree U after d.vars d.vars w vars_same in
        let c = linear_sum U w xs under in
        let q = linear_carried U after w under under_same in
        omega (arith, a, c, q)

    -- the values own it, or another
    either : {Q : Type 0} (w : WireId) → 1 ≤ owners_of U d.vars (xs ++ under) w → (1 ≤ named_times b.answers w → Q) → (1 ≤ holders after d.vars w d.vars + carriers after w under → Q) → Q
    either {Q = Q} w le p q = go (cases_lt 0 (named_times b.answers w))
      where
        go : (0 < named_times b.answers w) ⊎ (named_times b.answers w ≤ 0) → Q
        go (inl lt) = p (omega (arith, lt))
        go (inr z) = let a = owned_by w in q (omega (arith, a, z, le))

    one_owner : (w : WireId) → owners_of U d.vars (xs ++ under) w ≤ 1
    one_owner w = go (cases_lt 0 (named_times b.answers w))
      where
        go : (0 < named_times b.answers w) ⊎ (named_times b.answers w ≤ 0) → owners_of U d.vars (xs ++ under) w ≤ 1
        go (inl lt) = let a = alone w (omega (arith, lt)) in let e = owned_by w in let g = b.one w in omega (arith, a, e, g)
        go (inr z) = let a = r.one w in let c = owns_all w in let e = owned_by w in omega (arith, a, c, e, z)

    answers : (w : WireId) → Owed t.built.draft w → (1 ≤ linear_owners U d.vars (xs ++ under) w) ⊎ (out.answered w ≡ true)
    answers w o = go (b.owed w o)
      where
        Answer : Type 0
        Answer = (1 ≤ linear_owners U d.vars (xs ++ under) w) ⊎ (out.answered w ≡ true)

        outer : (a g : Bool) → out.answered w ≡ a → nat_lt 0 (linear_owners after d.vars under w) ≡ g → (a || g) ≡ true → Answer
        outer true g p q e = inr p
        outer false g p q e = inl (let a = ltb-true 0 (linear_owners after d.vars under w) (q ∙ e) in let c = linear_by w in omega (arith, a, c))

        by_values : 1 ≤ quantum_times rs b.answers w → (x : Bool) → lifts ≡ x → Answer
        by_values le false e =
            let a = quantum_linear U vs next w rs xs b.answers (subst (λ z. ListBoth (IsReturned z vs next) rs xs) e made) shows_each in
            let c = linear_by w in
            inl (omega (arith, a, c, le))
        by_values le true e = old (ours w named)
          where
            named : 1 ≤ named_times b.answers w
            named = let q = quantum_few w rs b.answers in omega (arith, q, le)

            old : (1 ≤ carriers after w args) ⊎ (m ≤ w.number) → Answer
            old (inr l) = none o.why
              where
                none : ((wire_in t.built.draft.wires w).input ≡ true) ⊎ (is_mixed t.built.draft.steps w ≡ true) → Answer
                none (inl i) = clash (sym i ∙ inputs w l)
                none (inr x) = clash (sym ((plain e).0 w x) ∙ unmixed s.built.draft.steps w (good.fresh w l))
            old (inl c) = told (r.owed w (record { there = (r.free w its).0; untold = r.untold w its; why = why o.why }))
              where
                its : 1 ≤ owners_of after d.vars (args ++ under) w
                its = let y = owns_all w in omega (arith, y, c)

                input : ((wire_in t.built.draft.wires w).input ≡ (wire_in s.built.draft.wires w).input) ⊎ (m ≤ w.number) → (wire_in t.built.draft.wires w).input ≡ true → (wire_in s.built.draft.wires w).input ≡ true
                input (inl q) i = sym q ∙ i
                input (inr l) i = let a = (r.free w its).0 in absurd (omega (arith, a, l))

                why : ((wire_in t.built.draft.wires w).input ≡ true) ⊎ (is_mixed t.built.draft.steps w ≡ true) → ((wire_in s.built.draft.wires w).input ≡ true) ⊎ (is_mixed s.built.draft.steps w ≡ true)
                why (inl i) = inl (input (b.touches.inputs w) i)
                why (inr x) = inr ((plain e).0 w x)

                told : (1 ≤ linear_owners after d.vars (args ++ under) w) ⊎ (out.answered w ≡ true) → Answer
                told (inr a) = inr a
                told (inl l) =
                    let y = alone w named in
                    let z = (plain e).1 w in
                    let q = linear_sum after w args under in
                    let p = linear_few after w under in
                    let k = linear_held_few after d.vars w d.vars in
                    absurd (omega (arith, l, y, z, q, p, k))

        go : (1 ≤ quantum_times rs b.answers w) ⊎ ((out.answered w || nat_lt 0 (linear_owners after d.vars under w)) ≡ true) → Answer
        go (inl le) = by_values le lifts refl
        go (inr a) = outer (out.answered w) (nat_lt 0 (linear_owners after d.vars under w)) refl refl a

    pub stands_returned : (q : ℕ) → Stands out held U (xs ++ under) (record { vars = d.vars; next = q }) u
    stands_returned q = record {
      env = r.env ∙ sym (entries_agree U after d.vars d.vars vars_same);
      differ = r.differ;
      parts = fits;
      one = one_owner;
      free = λ w le. either w le (b.free w) (free_behind w);
      untold = λ w le. either w le (b.untold w) (untold_behind w);
      shared = λ w le. shares_agree U after d.vars d.vars w vars_same (either w le (unshared w) (λ l. r.shared w (owned_before w l)));
      callers = λ w le. either w le (uncalled w) (λ l. r.callers w (owned_before w l));
      guards = subst (λ (x : Setting). Guards out.guarded x.condition) (sym b.setting) r.guards;
      below = λ w g. let a = r.below w g in let c = b.touches.grown in omega (arith, a, c);
      spares = spares_agree U after out.guarded held d.vars vars_same r.spares;
      carried =
          all_join (λ v. AllOf (λ w. out.guarded w ≡ false) (wires_in (U v.place))) xs under (values_each (λ w. out.guarded w ≡ false) U xs b.answers shows_each b.unguarded)
          (carried_agree U after out.guarded under under_same (all_back (λ v. AllOf (λ w. out.guarded w ≡ false) (wires_in (after v.place))) args under r.carried));
      owed = answers;
    }
