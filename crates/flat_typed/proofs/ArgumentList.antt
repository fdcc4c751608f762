-- The first value of a list and those behind it.
use Rattle.std.proofs.Common.{◌≡◌, ◌⊎◌, inl, inr, ℕ, ◌+◌, ◌≤◌, ◌<◌, Bool, true, false, cond, List, [], ◌∷◌, ◌++◌, refl, sym, ap, ◌∙◌, subst, arith}
use Rattle.std.proofs.lemmas.Bool.{cases_lt, eq-eqb}
use Rattle.silq_types.specs.declared.values.Value.{Value}
use Rattle.silq_types.specs.Calls.{is_consumed}
use Rattle.silq_mean.specs.Effect.{Effect}
use Rattle.silq_mean.specs.declared.receiver.Receiver.{Receiver}
use Rattle.check_scope.specs.declared.uses.Use.{Use}
use Rattle.check_scope.specs.Context.{Scope, Context}
use Rattle.check_scope.specs.Uses.{consume_and_hold}
use Rattle.check_expr.specs.Owners.{owners, handed}
use Rattle.flat_core.specs.declared.step.WireId.{WireId}
use Rattle.bit_arith.specs.Calls.{Targets}
use Rattle.flat_form.specs.declared.known.Known.{Known}
use Rattle.flat_form.specs.State.{Flattening, wires_so_far, operands_of}
use Rattle.flat_form.specs.Flat.{flat}
use Rattle.flat_form.specs.Names.{AllOf, names}
use Rattle.flat_form.specs.Good.{IsKnown}
use Rattle.flat_form.specs.Shows.{ListBoth}
use Rattle.flat_typed.specs.Places.{Places, times_in, carriers}
use Rattle.flat_typed.specs.Footprint.{used_wires, consumed_wires}
use Rattle.flat_typed.specs.Relation.{Outside, IsTakenOver, AllNew, is_argument, is_carried, need_of}
use Rattle.flat_typed.specs.Uses.{IsThere}
use Rattle.flat_typed.specs.Done.{Begins}
use Rattle.flat_typed.specs.Calls.{Three, carried, SparesCarried, ArgsTells}
use Rattle.flat_typed.proofs.Tame.{AllLeft}
use Rattle.flat_typed.proofs.Falling.{left_owners, known_unnamed}
use Rattle.flat_typed.proofs.Spending.{Gone}
use Rattle.flat_typed.proofs.UnderWay.{carriers_append}
use Rattle.flat_typed.proofs.TakenOver.{TakenNext, later_began}
use Rattle.flat_typed.proofs.ArgumentNext.{consumed_first, consumed_second, used_first, used_second, carried_consumes, handed_all, next_used, next_consumed, carried_not_used, next_apart}

-- ---- lists

pub three_two : {A B C : Type 0} (R Q T : A → B → C → Type 0) → ((a : A) (b : B) (c : C) → R a b c → Q a b c → T a b c) → (xs : List A) (ys : List B) (zs : List C) → Three R xs ys zs → Three Q xs ys zs → Three T xs ys zs
three_two R Q T f [] [] [] h k = tt
three_two R Q T f [] [] (z ∷ zs) h k = absurd h
three_two R Q T f [] (y ∷ ys) zs h k = absurd h
three_two R Q T f (x ∷ xs) [] zs h k = absurd h
three_two R Q T f (x ∷ xs) (y ∷ ys) [] h k = absurd h
three_two R Q T f (x ∷ xs) (y ∷ ys) (z ∷ zs) h k = (f x y z h.0 k.0, three_two R Q T f xs ys zs h.1 k.1)

-- of two lists and a third as long
pub three_of : {A B C : Type 0} (Q : A → B → Type 0) (R : A → B → C → Type 0) (xs : List A) (ys : List B) (zs : List C) → ListBoth Q xs ys → Three R xs ys zs → Three (λ a b c. Q a b) xs ys zs
three_of Q R [] [] [] h k = tt
three_of Q R [] [] (z ∷ zs) h k = absurd k
three_of Q R [] (y ∷ ys) zs h k = absurd k
three_of Q R (x ∷ xs) [] zs h k = absurd k
three_of Q R (x ∷ xs) (y ∷ ys) [] h k = absurd k
three_of Q R (x ∷ xs) (y ∷ ys) (z ∷ zs) h k = (h.0, three_of Q R xs ys zs h.1 k.1)

pub carried_cons : (r : Receiver) (rs : List Receiver) (v : Value) (vs : List Value) → carried (r ∷ []) (v ∷ []) ++ carried rs vs ≡ carried (r ∷ rs) (v ∷ vs)
carried_cons r rs v vs = go (is_carried r v)
  where
    go : (t : Bool) → cond t (v ∷ []) [] ++ carried rs vs ≡ cond t (v ∷ carried rs vs) (carried rs vs)
    go true = refl
    go false = refl

-- what the values of a list carry was consumed, or is new
carried_from : (W : Places) (used consumed : Targets) (n low : ℕ) (w : WireId) (rs : List Receiver) (vs : List Value) (ks : List Known) → Three (IsTakenOver W used consumed n low) rs vs ks → 1 ≤ carriers W w (carried rs vs) → (consumed w ≡ true) ⊎ (n ≤ w.number)
carried_from W used consumed n low w [] vs ks h le = absurd (omega (arith, le))
carried_from W used consumed n low w (r ∷ rs) [] ks h le = absurd (omega (arith, le))
carried_from W used consumed n low w (r ∷ rs) (v ∷ vs) [] h le = absurd h
carried_from W used consumed n low w (r ∷ rs) (v ∷ vs) (k ∷ ks) h le = go (is_carried r v) refl le (cases_lt 0 (times_in w (W v.place))) (carried_from W used consumed n low w rs vs ks h.1)
  where
    go : (t : Bool) → is_carried r v ≡ t → 1 ≤ carriers W w (cond t (v ∷ carried rs vs) (carried rs vs)) → (0 < times_in w (W v.place)) ⊎ (times_in w (W v.place) ≤ 0) → (1 ≤ carriers W w (carried rs vs) → (consumed w ≡ true) ⊎ (n ≤ w.number)) → (consumed w ≡ true) ⊎ (n ≤ w.number)
    go false e l q rest = rest l
    go true e l (inl lt) rest = h.0.moved e w (subst (λ ps. 1 ≤ times_in w ps) (sym (h.0.own e).0) (omega (arith, lt)))
    go true e l (inr z) rest = rest (omega (arith, l, z))

-- a place that is handed on and from before had an owner
abbrev pub HadOwner : Context → Receiver → Value → Type 0
HadOwner d r v = is_consumed (need_of r) ≡ true → v.place < d.next → 1 ≤ owners v.place d.vars

-- ---- the first and the rest

module _ (out : Outside) (sc : Scope) (low : ℕ) (others : ℕ → ℕ) (W : Places) (under : List Value) (us ws : List Use) (c : Context) (s : Flattening) (b : Begins out sc low others W under (us ++ ws) c s)
    (r : Receiver) (E1 E2 : Effect) (v : Value) (d : Context) (p : TakenNext out sc r E1 W under us c s v d)
    (there : AllOf (IsThere sc.held c.vars) us) (later : AllOf (IsThere sc.held d.vars) ws) (gone : AllOf (Gone d.vars) us) (left : AllLeft c.vars d.vars)
    (apart : (is_argument r ≡ false) ⊎ (consume_and_hold us ws ≡ false)) (grown : c.next ≤ d.next) where
  abbrev s2 : Flattening
  s2 = flat E1 s

  abbrev more : List Value
  more = carried (r ∷ []) (v ∷ []) ++ under

  abbrev others2 : ℕ → ℕ
  others2 q = others q + handed (need_of r) q (v ∷ [])

  module _ (b2 : Begins out sc low others2 p.after (carried (r ∷ []) (v ∷ []) ++ under) ws d s2) (rs : List Receiver) (vs : List Value) (d2 : Context) (left2 : AllLeft d.vars d2.vars)
      (q : ArgsTells out sc rs E2 p.after (carried (r ∷ []) (v ∷ []) ++ under) ws d s2 vs d2) (had : ListBoth (HadOwner d) rs vs) where
    abbrev U : Places
    U = q.done.after

    abbrev used : Targets
    used = used_wires W c.vars (us ++ ws)

    abbrev consumed : Targets
    consumed = consumed_wires W c.vars (us ++ ws)

    longer : wires_so_far s ≤ wires_so_far s2
    longer = p.touches.grown

    same_used : (w : WireId) → used_wires p.after d.vars ws w ≡ used_wires W c.vars ws w
    same_used = next_used out sc low others W under us ws c s b r E1 v d p there later gone left apart

    same_consumed : (w : WireId) → consumed_wires p.after d.vars ws w ≡ consumed_wires W c.vars ws w
    same_consumed = next_consumed out sc low others W under us ws c s b r E1 v d p there later gone left apart

    -- ---- what each is

    -- a place that the first carries is one from before
    its_place_before : is_carried r v ≡ true → v.place < d.next
    its_place_before e = go (cases_lt v.place d.next)
      where
        one : handed (need_of r) v.place (v ∷ []) ≡ 1
        one = handed_all (need_of r) v.place (v ∷ []) (carried_consumes r v e) ∙ ap (λ t. cond t 1 0 + 0) (eq-eqb v.place v.place refl)

        go : (v.place < d.next) ⊎ (d.next ≤ v.place) → v.place < d.next
        go (inl lt) = lt
        go (inr le) = let a = b2.sole.ahead v.place le in let z = one in absurd (omega (arith, a, z))

    pub first_taken : IsTakenOver U used consumed (wires_so_far s) c.next r v p.answer
    first_taken = record {
      shows = p.taken.shows;
      began = p.taken.began;
      fits = p.taken.fits;
      own = λ e. ((p.taken.own e).0 ∙ sym (q.done.agree v.place (its_place_before e)), (p.taken.own e).1);
      moved = λ e w le. of_consumed w (p.taken.moved e w le);
      within = λ w n. of_used w (p.taken.within w n);
    }
      where
        of_consumed : (w : WireId) → (consumed_wires W c.vars us w ≡ true) ⊎ (wires_so_far s ≤ w.number) → (consumed w ≡ true) ⊎ (wires_so_far s ≤ w.number)
        of_consumed w (inl e) = inl (consumed_first W c.vars us ws w e)
        of_consumed w (inr le) = inr le

        of_used : (w : WireId) → (used_wires W c.vars us w ≡ true) ⊎ (wires_so_far s ≤ w.number) → (used w ≡ true) ⊎ (wires_so_far s ≤ w.number)
        of_used w (inl e) = inl (used_first W c.vars us ws w e)
        of_used w (inr le) = inr le

    pub later_taken : (x : Receiver) (y : Value) (k : Known) → IsTakenOver U (used_wires p.after d.vars ws) (consumed_wires p.after d.vars ws) (wires_so_far s2) d.next x y k → HadOwner d x y → IsTakenOver U used consumed (wires_so_far s) c.next x y k
    later_taken x y k t h = record {
      shows = t.shows;
      began = λ e. later_began (wires_so_far s) (wires_so_far s2) k longer (t.began e);
      fits = t.fits;
      own = λ e. ((t.own e).0, place e (t.own e).1);
      moved = λ e w le. of_consumed w (t.moved e w le);
      within = λ w n. of_used w (t.within w n);
    }
      where
        place : is_carried x y ≡ true → (y.place < d.next) ⊎ AllNew (wires_so_far s2) (operands_of k) → (y.place < c.next) ⊎ AllNew (wires_so_far s) (operands_of k)
        place e (inr new) = inr (λ w le. let a = new w le in let l = longer in omega (arith, a, l))
        place e (inl lt) = inl (go (cases_lt y.place c.next))
          where
            go : (y.place < c.next) ⊎ (c.next ≤ y.place) → y.place < c.next
            go (inl l) = l
            go (inr le) =
                let a = h (carried_consumes x y e) lt in
                let f = left_owners c.vars d.vars left y.place in
                let z = b.sole.ahead y.place le in
                absurd (omega (arith, a, f, z))

        of_consumed : (w : WireId) → (consumed_wires p.after d.vars ws w ≡ true) ⊎ (wires_so_far s2 ≤ w.number) → (consumed w ≡ true) ⊎ (wires_so_far s ≤ w.number)
        of_consumed w (inl e) = inl (consumed_second W c.vars us ws w (sym (same_consumed w) ∙ e))
        of_consumed w (inr le) = inr (let l = longer in omega (arith, le, l))

        of_used : (w : WireId) → (used_wires p.after d.vars ws w ≡ true) ⊎ (wires_so_far s2 ≤ w.number) → (used w ≡ true) ⊎ (wires_so_far s ≤ w.number)
        of_used w (inl e) = inl (used_second W c.vars us ws w (sym (same_used w) ∙ e))
        of_used w (inr le) = inr (let l = longer in omega (arith, le, l))

    -- ---- what is not carried

    -- the first value names nothing that a later one carries
    pub first_names_none : (w : WireId) → 1 ≤ carriers U w (carried rs vs) → names p.answer w ≡ false
    first_names_none w le = go (carried_from U (used_wires p.after d.vars ws) (consumed_wires p.after d.vars ws) (wires_so_far s2) d.next w rs vs q.done.answers q.done.each le)
      where
        go : (consumed_wires p.after d.vars ws w ≡ true) ⊎ (wires_so_far s2 ≤ w.number) → names p.answer w ≡ false
        go (inl e) = next_apart out sc low others W under us ws c s b r E1 v d p there later gone left apart w e
        go (inr new) = known_unnamed (wires_so_far s2) w p.answer (subst (AllOf (IsKnown (wires_so_far s2))) p.values p.good.known.values).0 new

    all_carriers : (w : WireId) → carriers U w (carried (r ∷ rs) (v ∷ vs)) ≡ carriers U w (carried (r ∷ []) (v ∷ [])) + carriers U w (carried rs vs)
    all_carriers w = ap (carriers U w) (sym (carried_cons r rs v vs)) ∙ carriers_append U w (carried (r ∷ []) (v ∷ [])) (carried rs vs)

    pub first_spares : SparesCarried U (carried (r ∷ rs) (v ∷ vs)) r v p.answer
    first_spares e w le =
        first_names_none w
        (let a = all_carriers w in
        let z : carriers U w (carried (r ∷ []) (v ∷ [])) ≡ 0 = ap (λ t. carriers U w (cond t (v ∷ []) [])) e in
        omega (arith, a, z, le))

    -- nor does a later one name what the first carries
    carried_same : (w : WireId) → carriers U w (carried (r ∷ []) (v ∷ [])) ≡ carriers p.after w (carried (r ∷ []) (v ∷ []))
    carried_same w = go (is_carried r v) refl
      where
        go : (t : Bool) → is_carried r v ≡ t → carriers U w (cond t (v ∷ []) []) ≡ carriers p.after w (cond t (v ∷ []) [])
        go true e = ap (λ ps. times_in w ps + 0) (q.done.agree v.place (its_place_before e))
        go false e = refl

    pub later_spares : (x : Receiver) (y : Value) (k : Known) → IsTakenOver U (used_wires p.after d.vars ws) (consumed_wires p.after d.vars ws) (wires_so_far s2) d.next x y k → SparesCarried U (carried rs vs) x y k → SparesCarried U (carried (r ∷ rs) (v ∷ vs)) x y k
    later_spares x y k t h e w le = go (names k w) refl (cases_lt 0 (carriers U w (carried rs vs)))
      where
        go : (z : Bool) → names k w ≡ z → (0 < carriers U w (carried rs vs)) ⊎ (carriers U w (carried rs vs) ≤ 0) → z ≡ false
        go false n c = refl
        go true n (inl lt) = sym n ∙ h e w (omega (arith, lt))
        go true n (inr z) = none (t.within w n)
          where
            owned_by : 1 ≤ carriers p.after w (carried (r ∷ []) (v ∷ []))
            owned_by = let a = all_carriers w in let f = carried_same w in omega (arith, a, f, z, le)

            none : (used_wires p.after d.vars ws w ≡ true) ⊎ (wires_so_far s2 ≤ w.number) → true ≡ false
            none (inl u) = sym u ∙ carried_not_used out sc low others W under us ws c s b r E1 v d p there later gone left apart w owned_by
            none (inr ge) =
                let a = carriers_append p.after w (carried (r ∷ []) (v ∷ [])) under in
                let f = owned_by in
                let g = (p.stands.free w (omega (arith, a, f))).0 in
                absurd (omega (arith, g, ge))
