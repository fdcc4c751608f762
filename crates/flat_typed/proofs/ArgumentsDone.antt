-- Values that are taken over in turn: the first and those behind it together.
use Rattle.std.proofs.Common.{◌≡◌, ◌⊎◌, inl, inr, ℕ, ◌+◌, ◌≤◌, ◌<◌, Bool, true, false, cond, List, [], ◌∷◌, ◌++◌, refl, sym, ap, ◌∙◌, subst, arith}
use Rattle.std.specs.Prelude.{reverse}
use Rattle.std.proofs.lemmas.Bool.{cases_lt}
use Rattle.std.proofs.lemmas.List.{append_assoc, reverse-append}
use Rattle.silq_types.specs.declared.values.Value.{Value}
use Rattle.silq_types.specs.Calls.{is_consumed}
use Rattle.silq_mean.specs.Effect.{Effect, ◌>>◌}
use Rattle.silq_mean.specs.declared.receiver.Receiver.{Receiver}
use Rattle.check_scope.specs.declared.uses.Use.{Use}
use Rattle.check_scope.specs.Context.{Scope, Context}
use Rattle.check_scope.specs.Uses.{consume_and_hold}
use Rattle.check_expr.specs.Owners.{handed}
use Rattle.flat_core.specs.declared.step.WireId.{WireId}
use Rattle.bit_arith.specs.Calls.{Targets}
use Rattle.flat_form.specs.declared.known.Known.{Known}
use Rattle.flat_form.specs.State.{Flattening, began_or, wires_so_far}
use Rattle.flat_form.specs.Flat.{flat}
use Rattle.flat_form.specs.Names.{AllOf, names}
use Rattle.flat_form.specs.Shows.{ListBoth}
use Rattle.flat_typed.specs.Places.{Places, carriers, owners_of}
use Rattle.flat_typed.specs.Footprint.{used_wires, consumed_wires, Touches}
use Rattle.flat_typed.specs.Relation.{Outside, Stands, IsTakenOver, is_argument, is_carried, need_of}
use Rattle.flat_typed.specs.Uses.{IsThere}
use Rattle.flat_typed.specs.Done.{Begins}
use Rattle.flat_typed.specs.Calls.{Three, carried, SparesCarried, IsGivenOver, ArgsDone, ArgsTells}
use Rattle.flat_typed.proofs.Ordered.{or_left, or_right}
use Rattle.flat_typed.proofs.Growing.{touches_then, touches_more}
use Rattle.flat_typed.proofs.Behind.{leaves_then}
use Rattle.flat_typed.proofs.Uses.{consumed_append}
use Rattle.flat_typed.proofs.Tame.{AllLeft}
use Rattle.flat_typed.proofs.Falling.{one_part, owners_fall}
use Rattle.flat_typed.proofs.Spending.{Gone}
use Rattle.flat_typed.proofs.Following.{live_before, under_before}
use Rattle.flat_typed.proofs.UnderWay.{carriers_append, owners_turned, stands_turned, all_second}
use Rattle.flat_typed.proofs.TakenOver.{TakenNext}
use Rattle.flat_typed.proofs.ArgumentNext.{next_consumed}
use Rattle.flat_typed.proofs.ArgumentList.{HadOwner, three_two, three_of, carried_cons, first_taken, later_taken, first_names_none, first_spares, later_spares}

stacked : (a : Known) (ks xs : List Known) → reverse ks ++ (a ∷ xs) ≡ reverse (a ∷ ks) ++ xs
stacked a ks xs = sym (append_assoc (reverse ks) (a ∷ []) xs) ∙ ap (λ l. l ++ xs) (sym (reverse-append (a ∷ []) ks))

module _ (out : Outside) (sc : Scope) (low : ℕ) (others : ℕ → ℕ) (W : Places) (under : List Value) (us ws : List Use) (c : Context) (s : Flattening) (b : Begins out sc low others W under (us ++ ws) c s)
    (r : Receiver) (E1 E2 : Effect) (v : Value) (d : Context) (p : TakenNext out sc r E1 W under us c s v d)
    (there : AllOf (IsThere sc.held c.vars) us) (later : AllOf (IsThere sc.held d.vars) ws) (gone : AllOf (Gone d.vars) us) (left : AllLeft c.vars d.vars)
    (apart : (is_argument r ≡ false) ⊎ (consume_and_hold us ws ≡ false)) (grown : c.next ≤ d.next)
    (b2 : Begins out sc low (λ x. others x + handed (need_of r) x (v ∷ [])) p.after (carried (r ∷ []) (v ∷ []) ++ under) ws d (flat E1 s)) (rs : List Receiver) (vs : List Value) (d2 : Context) (left2 : AllLeft d.vars d2.vars)
    (q : ArgsTells out sc rs E2 p.after (carried (r ∷ []) (v ∷ []) ++ under) ws d (flat E1 s) vs d2) (had : ListBoth (HadOwner d) rs vs) where
  abbrev s2 : Flattening
  s2 = flat E1 s

  abbrev s3 : Flattening
  s3 = flat E2 (flat E1 s)

  abbrev first_own : List Value
  first_own = carried (r ∷ []) (v ∷ [])

  abbrev U : Places
  U = q.done.after

  abbrev used : Targets
  used = used_wires W c.vars (us ++ ws)

  abbrev consumed : Targets
  consumed = consumed_wires W c.vars (us ++ ws)

  abbrev n : ℕ
  n = wires_so_far s

  longer : wires_so_far s ≤ wires_so_far s2
  longer = p.touches.grown

  same_consumed : (w : WireId) → consumed_wires p.after d.vars ws w ≡ consumed_wires W c.vars ws w
  same_consumed = next_consumed out sc low others W under us ws c s b r E1 v d p there later gone left apart

  abbrev LaterTaken : Receiver → Value → Known → Type 0
  LaterTaken = IsTakenOver U (used_wires p.after d.vars ws) (consumed_wires p.after d.vars ws) (wires_so_far s2) d.next

  rest_taken : Three (IsTakenOver U used consumed n c.next) rs vs q.done.answers
  rest_taken =
      three_two LaterTaken (λ x y k. HadOwner d x y) (IsTakenOver U used consumed n c.next)
      (λ x y k t h. later_taken out sc low others W under us ws c s b r E1 E2 v d p there later gone left apart grown b2 rs vs d2 left2 q had x y k t h) rs vs q.done.answers q.done.each
      (three_of (HadOwner d) LaterTaken rs vs q.done.answers had q.done.each)

  rest_spares : Three (SparesCarried U (carried (r ∷ rs) (v ∷ vs))) rs vs q.done.answers
  rest_spares =
      three_two LaterTaken (SparesCarried U (carried rs vs)) (SparesCarried U (carried (r ∷ rs) (v ∷ vs)))
      (λ x y k t h. later_spares out sc low others W under us ws c s b r E1 E2 v d p there later gone left apart grown b2 rs vs d2 left2 q had x y k t h) rs vs q.done.answers q.done.each q.done.apart

  same_touches : Touches consumed s.built.draft s3.built.draft
  same_touches =
      touches_then consumed (consumed_wires p.after d.vars ws) s.built.draft s2.built.draft s3.built.draft
      (touches_more (consumed_wires W c.vars us) consumed s.built.draft s2.built.draft p.touches (λ w l f. or_left (consumed_wires W c.vars us w) (consumed_wires W c.vars ws w) (sym (consumed_append W c.vars us ws w) ∙ f)))
      q.done.touches (λ w l f. same_consumed w ∙ or_right (consumed_wires W c.vars us w) (consumed_wires W c.vars ws w) (sym (consumed_append W c.vars us ws w) ∙ f))

  pub all_done : ArgsDone out sc (r ∷ rs) (E1 >> E2) W under (us ++ ws) c s (v ∷ vs) d2
  all_done = record {
    fine = (p.fine, q.done.fine);
    after = U;
    agree = λ x l. q.done.agree x (omega (arith, l, grown)) ∙ p.agree x l;
    answers = p.answer ∷ q.done.answers;
    values = q.done.values ∙ (ap (λ l. reverse q.done.answers ++ l) p.values ∙ stacked p.answer q.done.answers s.values);
    each = (first_taken out sc low others W under us ws c s b r E1 E2 v d p there later gone left apart grown b2 rs vs d2 left2 q had, rest_taken);
    apart = (first_spares out sc low others W under us ws c s b r E1 E2 v d p there later gone left apart grown b2 rs vs d2 left2 q had, rest_spares);
    stands = subst (λ l. Stands out sc.held U (l ++ under) d2 s3) (carried_cons r rs v vs) (stands_turned out sc.held U (carried rs vs) first_own under d2 s3 q.done.stands);
    kinds_stay = q.done.kinds_stay ∙ p.kinds_stay;
    leaves = leaves_then s s2 s3 p.leaves q.done.leaves;
    touches = same_touches;
    plain = λ e w m. p.plain e w (q.done.plain e w m);
    unmade = q.done.unmade;
  }

  -- ---- what is told

  abbrev Owners : WireId → ℕ
  Owners w = owners_of U d2.vars (carried (r ∷ rs) (v ∷ vs) ++ under) w

  all_owners : (w : WireId) → owners_of U d2.vars (carried rs vs ++ (carried (r ∷ []) (v ∷ []) ++ under)) w ≡ owners_of U d2.vars (carried (r ∷ rs) (v ∷ vs) ++ under) w
  all_owners w = owners_turned U d2.vars (carried rs vs) first_own under w ∙ ap (λ l. owners_of U d2.vars (l ++ under) w) (carried_cons r rs v vs)

  -- what had no owner behind the first and is not carried later has none at the end
  still_none : is_carried r v ≡ false → (w : WireId) → owners_of p.after d.vars under w ≡ 0 → carriers U w (carried rs vs) ≡ 0 → owners_of U d2.vars (carried (r ∷ rs) (v ∷ vs) ++ under) w ≡ 0
  still_none e w z k =
      let a = owners_fall d.next p.after U q.done.agree d.vars d2.vars left2 (one_part d.vars b2.lone) under (live_before out sc low (λ x. others x + handed (need_of r) x (v ∷ [])) p.after (carried (r ∷ []) (v ∷ []) ++ under) ws d s2 b2)
      (all_second (λ (x : Value). x.place < d.next) first_own under (under_before out sc low (λ x. others x + handed (need_of r) x (v ∷ [])) p.after (carried (r ∷ []) (v ∷ []) ++ under) ws d s2 b2)) w in
      let f = sym (all_owners w) in
      let g = carriers_append U w (carried rs vs) (carried (r ∷ []) (v ∷ []) ++ under) in
      let h = carriers_append U w (carried (r ∷ []) (v ∷ [])) under in
      let i : carriers U w (carried (r ∷ []) (v ∷ [])) ≡ 0 = ap (λ t. carriers U w (cond t (v ∷ []) [])) e in
      omega (arith, a, z, k, f, g, h, i)

  first_given : IsGivenOver c.next (λ w. owners_of U d2.vars (carried (r ∷ rs) (v ∷ vs) ++ under) w) r v p.answer
  first_given = record { unheld = p.unheld; new = p.new; shares = λ x y z w le. none x y z w le (names p.answer w) refl (cases_lt 0 (carriers U w (carried rs vs))) }
    where
      none : is_consumed (need_of r) ≡ true → v.ty.classical ≡ true → is_carried r v ≡ false → (w : WireId) → 1 ≤ owners_of U d2.vars (carried (r ∷ rs) (v ∷ vs) ++ under) w → (t : Bool) → names p.answer w ≡ t
          → (0 < carriers U w (carried rs vs)) ⊎ (carriers U w (carried rs vs) ≤ 0) → t ≡ false
      none x y z w le false e k = refl
      none x y z w le true e (inl lt) = sym e ∙ first_names_none out sc low others W under us ws c s b r E1 E2 v d p there later gone left apart grown b2 rs vs d2 left2 q had w (omega (arith, lt))
      none x y z w le true e (inr o) = let a = still_none z w (p.shares x y w e) (omega (arith, o)) in absurd (omega (arith, a, le))

  later_given : (x : Receiver) (y : Value) (k : Known) → IsGivenOver d.next (λ w. owners_of U d2.vars (carried rs vs ++ (carried (r ∷ []) (v ∷ []) ++ under)) w) x y k → IsGivenOver c.next (λ w. owners_of U d2.vars (carried (r ∷ rs) (v ∷ vs) ++ under) w) x y k
  later_given x y k g = record {
    unheld = g.unheld;
    new = λ e f. let a = g.new e f in omega (arith, a, grown);
    shares = λ e f h w le. g.shares e f h w (subst (λ m. 1 ≤ m) (sym (all_owners w)) le);
  }

  pub all_told : ArgsTells out sc (r ∷ rs) (E1 >> E2) W under (us ++ ws) c s (v ∷ vs) d2
  unfolding all_done
  all_told = record {
    done = all_done;
    given = (
      first_given,
      three_two (IsGivenOver d.next (λ w. owners_of U d2.vars (carried rs vs ++ (carried (r ∷ []) (v ∷ []) ++ under)) w)) (IsGivenOver d.next (λ w. owners_of U d2.vars (carried rs vs ++ (carried (r ∷ []) (v ∷ []) ++ under)) w))
          (IsGivenOver c.next (λ w. owners_of U d2.vars (carried (r ∷ rs) (v ∷ vs) ++ under) w)) (λ x y k g h. later_given x y k g) rs vs q.done.answers q.given q.given,
    );
    began = λ m l o. (p.began m l o, q.began m (let g = longer in omega (arith, l, g)) (subst (λ cs. m ≤ began_or m cs) (sym p.leaves.callers) o));
  }
