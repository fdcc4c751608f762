-- What a placer's rows tell as a move is made.
use Rattle.std.proofs.Common.{◌≡◌, ℕ, suc, pred, ◌+◌, ◌<◌, ◌≤◌, ◌⊎◌, inl, inr, Bool, true, false, cond, not, nat_lt, ◌==◌, ◌&&◌, ◌||◌, Option, Some, None, IfSome, List, ◌∷◌, length, get_or, slice_set, refl, sym, ◌∙◌, ap, ap₂, subst, arith, get_or-set_same, get_or-set_other}
use Rattle.std.proofs.lemmas.Bool.{cases_Bool, both_ways, eq-eqb, eqb-true, eqb-false, ne_eqb, false_from_ne_true, or_left, or_right}
use Rattle.flat_core.specs.declared.step.WireId.{WireId}
use Rattle.flat_core.specs.declared.step.StepId.{StepId}
use Rattle.flat_core.specs.Form.{FlatForm}
use Rattle.flat_core.specs.Label.{wire_id, same_wire, changes, main_wire, step_at, is_input}
use Rattle.flat_core.specs.Ends.{measures}
use Rattle.flat_core.specs.Sound.{IsFlat}
use Rattle.flat_core.proofs.Labels.{same_wire_is, main_of_changed, main_of_measured}
use Rattle.move_plan.specs.declared.moves.Move.{Move}
use Rattle.move_plan.specs.declared.moves.Move.TheVariants.{Up, Down, Do, Free}
use Rattle.move_plan.specs.Progress.{Progress, Stands, moved}
use Rattle.move_plan.specs.Live.{live, count_wires}
use Rattle.move_plan.specs.Track.{touched}
use Rattle.move_plan.proofs.Counts.{freed_there}
use Rattle.qubit_alloc.specs.Place.{Place, main_of, least_free, put_on, place_wire, place_if_any, place_move, IsPlaced}
use Rattle.qubit_alloc.specs.State.{times_in, IsSeated, TellsOf, Takes, Seats, SeatsIfAny, Gives, GivesIfAny, keep_if, unless}
use Rattle.qubit_alloc.proofs.Pigeon.{count_more, count_max}
use Rattle.qubit_alloc.proofs.Lives.{live_new, live_stay}
use Rattle.qubit_alloc.proofs.Placing.{placed_more}
use Rattle.qubit_alloc.proofs.Seating.{times_cons, times_permuted, times_least, seated_same, seated_more, seated_less, some_free, taken_least, room_for}

-- a row written
pub row_set : {A : Type 0} (rows : List A) (w v : WireId) (a d : A) → w.number < length rows → get_or (slice_set rows w.number a) v.number d ≡ cond (same_wire v w) a (get_or rows v.number d)
row_set rows w v a d lt = by (same_wire v w) refl
  where
    by : (b : Bool) → same_wire v w ≡ b → get_or (slice_set rows w.number a) v.number d ≡ cond b a (get_or rows v.number d)
    by true e = ap (λ (k : ℕ). get_or (slice_set rows w.number a) k d) (eqb-true v.number w.number e) ∙ get_or-set_same rows w.number a d lt
    by false e = get_or-set_other rows w.number v.number a d (eqb-false v.number w.number e)

-- the qubits that rows tell
abbrev pub rows_told : List (Option ℕ) → WireId → Option ℕ
rows_told rows w = get_or rows w.number None

module _ (f : FlatForm) (ok : IsFlat f) (p : Progress) (m : Move) (st : Stands f p m) where
  abbrev before : WireId → Bool
  before = live f p

  abbrev after : WireId → Bool
  after = live f (moved f p m)

  abbrev during : WireId → Bool
  during w = live f p w || live f (moved f p m) w

  unchanged : (s : StepId) (v : WireId) → (main_wire (step_at f s) ≡ Some v → ⊥) → changes v (step_at f s) ≡ false
  unchanged s v other = false_from_ne_true (changes v (step_at f s)) (λ c. other (main_of_changed (step_at f s) v c))

  unmeasured : (s : StepId) (v : WireId) → (main_wire (step_at f s) ≡ Some v → ⊥) → measures v (step_at f s) ≡ false
  unmeasured s v other = false_from_ne_true (measures v (step_at f s)) (λ c. other (main_of_measured (step_at f s) v c))

  live_kept : (x : Move) (v : WireId) → (touched f x ≡ Some v → ⊥) → live f (moved f p x) v ≡ live f p v
  live_kept (Up s) v other = ap (λ b. not (p.gone v) && (is_input f v || nat_lt 0 (cond b (suc (p.label v)) (p.label v)) || p.measured v)) (unchanged s v other)
  live_kept (Down s) v other = ap (λ b. not (p.gone v) && (is_input f v || nat_lt 0 (cond b (pred (p.label v)) (p.label v)) || p.measured v)) (unchanged s v other)
  live_kept (Do s) v other = ap₂ (λ b c. not (p.gone v) && (is_input f v || nat_lt 0 (cond b (suc (p.label v)) (p.label v)) || (c || p.measured v))) (unchanged s v other) (unmeasured s v other)
  live_kept (Free x) v other = ap (λ b. not (b || p.gone v) && (is_input f v || nat_lt 0 (p.label v) || p.measured v)) (ne_eqb v.number x.number (λ e. other (ap (λ (n : ℕ). Some (wire_id n)) (sym e))))

  none_touched : touched f m ≡ None → (v : WireId) → after v ≡ before v
  none_touched e v = live_kept m v (λ t. let no : None ≡ Some v = sym e ∙ t in cc)

  pub touched_there : (x : Move) (w : WireId) → Stands f p x → touched f x ≡ Some w → w.number < length f.wires
  touched_there (Up s) w h e = subst (λ (o : Option WireId). IfSome o (λ v. v.number < length f.wires)) e (ok.in_range s h.1.step).0
  touched_there (Down s) w h e = subst (λ (o : Option WireId). IfSome o (λ v. v.number < length f.wires)) e (ok.in_range s h.1.step).0
  touched_there (Do s) w h e = subst (λ (o : Option WireId). IfSome o (λ v. v.number < length f.wires)) e (ok.in_range s h.2.step).0
  touched_there (Free v) w h e = let is : v ≡ w = cc in subst (λ (x : WireId). x.number < length f.wires) is (freed_there f v h.ending)

  pub touched_in_range : IfSome (touched f m) (λ w. w.number < length f.wires)
  touched_in_range = by (touched f m) refl
    where
      by : (o : Option WireId) → touched f m ≡ o → IfSome o (λ w. w.number < length f.wires)
      by None e = tt
      by (Some w) e = touched_there m w st e

  pub left_in_range : (o : Option WireId) (n : ℕ) → length f.wires ≡ n → o ≡ unless (keep_if (live f (moved f p m)) (touched f m)) (touched f m) → IfSome o (λ w. w.number < n)
  left_in_range o n e h = subst (λ (k : ℕ). IfSome o (λ w. w.number < k)) e (subst (λ (x : Option WireId). IfSome x (λ w. w.number < length f.wires)) (sym h) (by (touched f m) (keep_if (live f (moved f p m)) (touched f m)) touched_in_range))
    where
      by : (x other : Option WireId) → IfSome x (λ w. w.number < length f.wires) → IfSome (unless other x) (λ w. w.number < length f.wires)
      by x None k = k
      by x (Some v) k = tt

  -- a freed wire is live no more
  main_touched : (x : Move) (w : WireId) → touched f x ≡ Some w → live f (moved f p x) w ≡ true → main_of f x ≡ Some w
  main_touched (Up s) w e on = e
  main_touched (Down s) w e on = e
  main_touched (Do s) w e on = e
  main_touched (Free v) w e on =
      let is : v ≡ w = cc in
      let gone : same_wire w v ≡ true = eq-eqb w.number v.number (ap (λ (x : WireId). x.number) (sym is)) in
      absurd (both_ways (live f (moved f p (Free v)) w) (ap (λ b. not b && (is_input f w || nat_lt 0 (p.label w) || p.measured w)) (or_left (same_wire w v) (p.gone w) gone)) on)

  main_only : (x : Move) (w v : WireId) → touched f x ≡ Some w → main_of f x ≡ Some v → v ≡ w
  main_only (Up s) w v e g = let h : Some v ≡ Some w = sym g ∙ e in cc
  main_only (Down s) w v e g = let h : Some v ≡ Some w = sym g ∙ e in cc
  main_only (Do s) w v e g = let h : Some v ≡ Some w = sym g ∙ e in cc
  main_only (Free x) w v e g = absurd (cc)

  main_none : (x : Move) → touched f x ≡ None → main_of f x ≡ None
  main_none (Up s) e = e
  main_none (Down s) e = e
  main_none (Do s) e = e
  main_none (Free x) e = refl

  module _ (place : Place) where
    no_main : touched f m ≡ None → place_move f p place m ≡ place
    no_main e = ap (place_if_any f (live f p) place) (main_none m e)

    module _ (w : WireId) (e : touched f m ≡ Some w) where
      others : (v : WireId) → same_wire v w ≡ false → after v ≡ before v
      others v ne = live_kept m v (λ t. let h : Some w ≡ Some v = sym e ∙ t in let is : v ≡ w = cc in both_ways (same_wire v w) ne (eq-eqb v.number w.number (ap (λ (x : WireId). x.number) is)))

      or_same : (b : Bool) → (b || b) ≡ b
      or_same true = refl
      or_same false = refl

      during_other : (v : WireId) → same_wire v w ≡ false → during v ≡ before v
      during_other v ne = ap (λ b. before v || b) (others v ne) ∙ or_same (before v)

      stays : after w ≡ false ⊎ before w ≡ true → main_of f m ≡ Some w → before w ≡ true
      stays (inr on) g = on
      stays (inl off) g = elim (cases_Bool (before w)) [ inl on ↦ on | inr idle ↦ absurd (both_ways (after w) off (live_new f p m w st g idle)) ]

      -- no wire comes to be live
      place_same : after w ≡ false ⊎ before w ≡ true → place_move f p place m ≡ place
      place_same h = by (main_of f m) refl
        where
          by : (o : Option WireId) → main_of f m ≡ o → place_if_any f (live f p) place o ≡ place
          by None g = refl
          by (Some v) g =
              let is = main_only m w v e g in
              let on : before w ≡ true = stays h (g ∙ ap (λ (x : WireId). Some x) is) in
              ap (λ b. cond b place (put_on v (least_free f (live f p) place) place)) (ap before is ∙ on)

      -- the touched wire comes to be live
      place_new : after w ≡ true → before w ≡ false → place_move f p place m ≡ put_on w (least_free f (live f p) place) place
      place_new on off =
          ap (place_if_any f (live f p) place) (main_touched m w e on)
          ∙ ap (λ b. cond b place (put_on w (least_free f (live f p) place) place)) off

      room_more : after w ≡ true → before w ≡ false → count_wires f (live f p) + 1 ≤ count_wires f (live f (moved f p m))
      room_more on off =
          let g = main_touched m w e on in
          count_more (length f.wires) (λ n. live f p (wire_id n)) (λ n. live f (moved f p m) (wire_id n)) w.number (touched_there m w st e) (λ n o. live_stay f p m w (wire_id n) st g off o) off on

    module _ (wide : ℕ) (rows : List (Option ℕ)) (free : List ℕ) (long : length rows ≡ length f.wires) (tells : TellsOf f (live f p) place (rows_told rows)) (seated : IsSeated f (live f p) wide place (times_in free)) (fits : count_wires f (live f (moved f p m)) ≤ wide) where
      few : count_wires f (live f (moved f p m)) ≤ length f.wires
      few = count_max (length f.wires) (λ n. live f (moved f p m) (wire_id n))

      -- there is a free qubit for a wire that comes to be live
      pub some_for : (o : Option WireId) → o ≡ keep_if (live f (moved f p m)) (touched f m) → IfSome o (λ w. rows_told rows w ≡ None → 0 < length free)
      some_for None h = tt
      some_for (Some w) h = λ none. by (touched f m) refl h none
        where
          of : (w' : WireId) (b : Bool) → Some w ≡ cond b (Some w') None → (w' ≡ w) × (b ≡ true)
          of w' true g = let is : w' ≡ w = cc in (is, refl)
          of w' false g = absurd (cc)

          by : (t : Option WireId) → touched f m ≡ t → Some w ≡ keep_if (live f (moved f p m)) t → rows_told rows w ≡ None → 0 < length free
          by None e g none = absurd (cc)
          by (Some w') e g none =
              let k = of w' (live f (moved f p m) w') g in
              let t : touched f m ≡ Some w = e ∙ ap (λ (x : WireId). Some x) k.0 in
              let on : after w ≡ true = ap after (sym k.0) ∙ k.1 in
              let wl = touched_there m w st t in
              let off : before w ≡ false = elim (cases_Bool (before w)) [
                | inl b ↦ let row : None ≡ Some (place w) = sym none ∙ tells w wl ∙ ap (λ x. cond x (Some (place w)) None) b in absurd (cc)
                | inr b ↦ b
              ] in
              let more = room_more w t on off in
              let all = few in
              some_free f (live f p) wide place (times_in free) seated (omega (arith, more, all)) (omega (arith, more, fits)) free (λ j. refl)

      -- the rows once the wire that comes to be live has its qubit
      module _ (rows' : List (Option ℕ)) (free' : List ℕ) where
        abbrev Done : Type 0
        Done = TellsOf f during (place_move f p place m) (rows_told rows') × IsSeated f during wide (place_move f p place m) (times_in free')

        kept : place_move f p place m ≡ place → ((v : WireId) → during v ≡ before v) → (rows' ≡ rows) × (free' ≡ free) → Done
        kept same on h =
            let told : TellsOf f during place (rows_told rows') = λ v vl. ap (λ (xs : List (Option ℕ)). rows_told xs v) h.0 ∙ tells v vl ∙ ap (λ b. cond b (Some (place v)) None) (sym (on v)) in
            let now : IsSeated f during wide place (times_in free') = seated_same f (live f p) during wide place place (times_in free) (times_in free') (λ v vl. on v) (λ v vl o. refl) (λ j. ap (λ (xs : List ℕ). times_in xs j) h.1) seated in
            (subst (λ (q : Place). TellsOf f during q (rows_told rows')) (sym same) told, subst (λ (q : Place). IsSeated f during wide q (times_in free')) (sym same) now)

        one_more : (w : WireId) → touched f m ≡ Some w → after w ≡ true → before w ≡ false → Takes w rows free rows' free' → Done
        one_more w e on off t =
            let wl = touched_there m w st e in
            let more = room_more w e on off in
            let all = few in
            let counted : (j : ℕ) → times_in free j ≡ cond (t.qubit == j) 1 0 + times_in free' j = λ j. sym (times_permuted free (t.qubit ∷ free') j t.rest) ∙ times_cons t.qubit free' j in
            let one = counted t.qubit ∙ ap (λ b. cond b 1 0 + times_in free' t.qubit) (eq-eqb t.qubit t.qubit refl) in
            let in_free : 0 < times_in free t.qubit = omega (arith, one) in
            let is : t.qubit ≡ least_free f (live f p) place = taken_least f (live f p) wide place (times_in free) seated (omega (arith, more, all)) (omega (arith, more, fits)) t.qubit in_free (λ j lt. times_least free t.qubit j t.least lt) in
            let same : place_move f p place m ≡ put_on w t.qubit place = place_new w e on off ∙ ap (λ q. put_on w q place) (sym is) in
            let main_on : during w ≡ true = or_right (before w) (after w) on in
            let pl : IsPlaced f during wide (place_wire f (live f p) place w) = placed_more f wide (live f p) during place w
            (λ v h. elim (cases_Bool (same_wire v w)) [ inl i ↦ inr (same_wire_is v w i) | inr ne ↦ inl (sym (during_other w e v ne) ∙ h) ])
            (λ _. (omega (arith, more, all), omega (arith, more, fits))) seated.placed in
            let pl' : IsPlaced f during wide (put_on w t.qubit place) = subst (IsPlaced f during wide) (ap (λ b. cond b place (put_on w (least_free f (live f p) place) place)) off ∙ ap (λ q. put_on w q place) (sym is)) pl in
            let now : IsSeated f during wide (put_on w t.qubit place) (times_in free') = seated_more f (live f p) wide place (times_in free) seated during w t.qubit (times_in free') wl off main_on (during_other w e) pl' in_free counted in
            let told : TellsOf f during (put_on w t.qubit place) (rows_told rows') = λ v vl. ap (λ (xs : List (Option ℕ)). rows_told xs v) t.row ∙ row_set rows w v (Some t.qubit) None (subst (λ n. w.number < n) (sym long) wl) ∙ row w e main_on t.qubit v vl (same_wire v w) refl in
            (subst (λ (q : Place). TellsOf f during q (rows_told rows')) (sym same) told, subst (λ (q : Place). IsSeated f during wide q (times_in free')) (sym same) now)
          where
            row : (w : WireId) → touched f m ≡ Some w → during w ≡ true → (q : ℕ) (v : WireId) → v.number < length f.wires → (b : Bool) → same_wire v w ≡ b → cond b (Some q) (rows_told rows v) ≡ cond (during v) (Some (cond b q (place v))) None
            row w e d q v vl true i = sym (ap (λ x. cond x (Some q) None) (ap during (same_wire_is v w i) ∙ d))
            row w e d q v vl false i = tells v vl ∙ ap (λ x. cond x (Some (place v)) None) (sym (during_other w e v i))

        during_on : (w : WireId) → touched f m ≡ Some w → after w ≡ false ⊎ before w ≡ true → (v : WireId) → during v ≡ before v
        during_on w e h v = elim (cases_Bool (same_wire v w)) [
          | inl i ↦ let is = same_wire_is v w i in ap during is ∙ at h ∙ ap before (sym is)
          | inr ne ↦ during_other w e v ne
        ]
          where
            plain : (b : Bool) → (b || false) ≡ b
            plain true = refl
            plain false = refl

            at : after w ≡ false ⊎ before w ≡ true → during w ≡ before w
            at (inl off) = ap (λ b. before w || b) off ∙ plain (before w)
            at (inr on) = or_left (before w) (after w) on ∙ sym on

        pub seated_during : (o : Option WireId) → o ≡ keep_if (live f (moved f p m)) (touched f m) → SeatsIfAny o rows free rows' free' → Done
        seated_during o h s = by (touched f m) refl (subst (λ (x : Option WireId). SeatsIfAny x rows free rows' free') h s)
          where
            seat : (w : WireId) → touched f m ≡ Some w → after w ≡ true → (b : Bool) → before w ≡ b → Seats (rows_told rows w) w rows free rows' free' → Done
            seat w e on true b g =
                let row : rows_told rows w ≡ Some (place w) = tells w (touched_there m w st e) ∙ ap (λ x. cond x (Some (place w)) None) b in
                kept (place_same w e (inr b)) (during_on w e (inr b)) (subst (λ (r : Option ℕ). Seats r w rows free rows' free') row g)
            seat w e on false b g =
                let row : rows_told rows w ≡ None = tells w (touched_there m w st e) ∙ ap (λ x. cond x (Some (place w)) None) b in
                one_more w e on b (subst (λ (r : Option ℕ). Seats r w rows free rows' free') row g)

            or_same' : (b : Bool) → (b || b) ≡ b
            or_same' true = refl
            or_same' false = refl

            none_during : touched f m ≡ None → (v : WireId) → during v ≡ before v
            none_during e v = ap (λ b. before v || b) (none_touched e v) ∙ or_same' (before v)

            by : (t : Option WireId) → touched f m ≡ t → SeatsIfAny (keep_if (live f (moved f p m)) t) rows free rows' free' → Done
            by None e g = kept (no_main e) (none_during e) g
            by (Some w) e g = at (after w) refl g
              where
                at : (b : Bool) → after w ≡ b → SeatsIfAny (cond b (Some w) None) rows free rows' free' → Done
                at true on g = seat w e on (before w) refl g
                at false off g = kept (place_same w e (inl off)) (during_on w e (inl off)) g
                -- and once the wire that is live no more has given its own back

    module _ (wide : ℕ) (rows : List (Option ℕ)) (free : List ℕ) (long : length rows ≡ length f.wires) (at : Place) (tells : TellsOf f during at (rows_told rows)) (seated : IsSeated f during wide at (times_in free)) where
      left_of : (o : Option WireId) (w : WireId) → o ≡ unless (keep_if (live f (moved f p m)) (touched f m)) (touched f m) → o ≡ Some w → (touched f m ≡ Some w) × (after w ≡ false)
      left_of o w h e = by (touched f m) refl (sym e ∙ h)
        where
          of : (w' : WireId) (b : Bool) → Some w ≡ unless (cond b (Some w') None) (Some w') → (w' ≡ w) × (b ≡ false)
          of w' true g = absurd (cc)
          of w' false g = let is : w' ≡ w = cc in (is, refl)

          by : (t : Option WireId) → touched f m ≡ t → Some w ≡ unless (keep_if (live f (moved f p m)) t) t → (touched f m ≡ Some w) × (after w ≡ false)
          by None e g = absurd (cc)
          by (Some w') e g = let k = of w' (live f (moved f p m) w') g in (e ∙ ap (λ (x : WireId). Some x) k.0, ap after (sym k.0) ∙ k.1)

      pub room_left : (o : Option WireId) (room : ℕ) → wide ≤ room → o ≡ unless (keep_if (live f (moved f p m)) (touched f m)) (touched f m) → IfSome o (λ w. IfSome (rows_told rows w) (λ q. length free < room))
      room_left o room le h = by o refl
        where
          at_row : (w : WireId) → w.number < length f.wires → (r : Option ℕ) → rows_told rows w ≡ r → IfSome r (λ q. length free < room)
          at_row w wl None e = tt
          at_row w wl (Some q) e = elim (cases_Bool (during w)) [
            | inl on ↦ let lt = room_for f during wide at (times_in free) seated free w wl on (λ j. refl) in omega (arith, lt, le)
            | inr off ↦ let no : Some q ≡ None = sym e ∙ tells w wl ∙ ap (λ x. cond x (Some (at w)) None) off in absurd (cc)
          ]

          by : (x : Option WireId) → o ≡ x → IfSome x (λ w. IfSome (rows_told rows w) (λ q. length free < room))
          by None e = tt
          by (Some w) e = at_row w (touched_there m w st (left_of o w h e).0) (rows_told rows w) refl

      module _ (rows' : List (Option ℕ)) (free' : List ℕ) where
        abbrev Left : Type 0
        Left = TellsOf f (live f (moved f p m)) at (rows_told rows') × IsSeated f (live f (moved f p m)) wide at (times_in free')

        same_left : ((v : WireId) → after v ≡ during v) → (rows' ≡ rows) × (free' ≡ free) → Left
        same_left on h = (
          (λ v vl. ap (λ (xs : List (Option ℕ)). rows_told xs v) h.0 ∙ tells v vl ∙ ap (λ b. cond b (Some (at v)) None) (sym (on v))),
          seated_same f during (live f (moved f p m)) wide at at (times_in free) (times_in free') (λ v vl. on v) (λ v vl o. refl) (λ j. ap (λ (xs : List ℕ). times_in xs j) h.1) seated,
        )

        and_same : (b : Bool) → b ≡ (b || b)
        and_same true = refl
        and_same false = refl

        after_other : (w : WireId) → touched f m ≡ Some w → (v : WireId) → same_wire v w ≡ false → after v ≡ during v
        after_other w e v ne = others w e v ne ∙ sym (during_other w e v ne)

        one_less : (w : WireId) → touched f m ≡ Some w → after w ≡ false → (r : Option ℕ) → rows_told rows w ≡ r → Gives r w rows free rows' free' → Left
        one_less w e off None row g = same_left (λ v. elim (cases_Bool (same_wire v w)) [
          | inl i ↦
              let is = same_wire_is v w i in
              let idle : during w ≡ false = elim (cases_Bool (during w)) [
                | inl on ↦ let some : None ≡ Some (at w) = sym row ∙ tells w (touched_there m w st e) ∙ ap (λ x. cond x (Some (at w)) None) on in absurd (cc)
                | inr idle ↦ idle
              ] in
              ap after is ∙ off ∙ sym (ap during is ∙ idle)
          | inr ne ↦ after_other w e v ne
        ]) g
        one_less w e off (Some q) row g =
            let wl = touched_there m w st e in
            let on : during w ≡ true = elim (cases_Bool (during w)) [
              | inl on ↦ on
              | inr idle ↦ let some : Some q ≡ None = sym row ∙ tells w wl ∙ ap (λ x. cond x (Some (at w)) None) idle in absurd (cc)
            ] in
            let it : Some q ≡ Some (at w) = sym row ∙ tells w wl ∙ ap (λ x. cond x (Some (at w)) None) on in
            let is : q ≡ at w = cc in
            let counted : (j : ℕ) → times_in free' j ≡ cond (at w == j) 1 0 + times_in free j = λ j. times_permuted (q ∷ free) free' j g.1 ∙ times_cons q free j ∙ ap (λ n. cond (n == j) 1 0 + times_in free j) is in (
              (λ v vl. ap (λ (xs : List (Option ℕ)). rows_told xs v) g.0 ∙ row_set rows w v None None (subst (λ n. w.number < n) (sym long) wl) ∙ cleared w e off v vl (same_wire v w) refl),
              seated_less f during wide at (times_in free) seated (live f (moved f p m)) w (times_in free') wl on off (after_other w e) counted,
            )
          where
            cleared : (w : WireId) → touched f m ≡ Some w → after w ≡ false → (v : WireId) → v.number < length f.wires → (b : Bool) → same_wire v w ≡ b → cond b None (rows_told rows v) ≡ cond (after v) (Some (at v)) None
            cleared w e off v vl true i = sym (ap (λ x. cond x (Some (at v)) None) (ap after (same_wire_is v w i) ∙ off))
            cleared w e off v vl false i = tells v vl ∙ ap (λ x. cond x (Some (at v)) None) (sym (after_other w e v i))

        pub seated_after : (o : Option WireId) → o ≡ unless (keep_if (live f (moved f p m)) (touched f m)) (touched f m) → GivesIfAny o rows free rows' free' → Left
        seated_after o h g = by (touched f m) refl (subst (λ (x : Option WireId). GivesIfAny x rows free rows' free') h g)
          where
            by : (t : Option WireId) → touched f m ≡ t → GivesIfAny (unless (keep_if (live f (moved f p m)) t) t) rows free rows' free' → Left
            by None e k = same_left (λ v. none_touched e v ∙ and_same (before v) ∙ ap (λ b. before v || b) (sym (none_touched e v))) k
            by (Some w) e k = at_end (after w) refl k
              where
                on_still : after w ≡ true → (v : WireId) → after v ≡ during v
                on_still on v = elim (cases_Bool (same_wire v w)) [
                  | inl i ↦ let is = same_wire_is v w i in ap after is ∙ on ∙ sym (ap during is ∙ or_right (before w) (after w) on)
                  | inr ne ↦ after_other w e v ne
                ]

                at_end : (b : Bool) → after w ≡ b → GivesIfAny (unless (cond b (Some w) None) (Some w)) rows free rows' free' → Left
                at_end true on k = same_left (on_still on) k
                at_end false off k = one_less w e off (rows_told rows w) refl k
