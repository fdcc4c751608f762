-- What a placer's rows tell as the Output wires that nothing touched are placed.
use Rattle.std.proofs.Common.{◌≡◌, ℕ, suc, ◌+◌, ◌<◌, ◌≤◌, inl, inr, Bool, true, false, cond, nat_lt, ◌==◌, ◌&&◌, ◌||◌, Option, Some, None, IfSome, List, ◌∷◌, length, refl, sym, ◌∙◌, ap, ap₂, subst, arith}
use Rattle.std.proofs.lemmas.Bool.{cases_Bool, cases_order, both_ways, eq-eqb, lt-ltb, le-ltb, or_left, or_right, or_cases, and_parts}
use Rattle.flat_core.specs.declared.step.WireId.{WireId}
use Rattle.flat_core.specs.Form.{FlatForm}
use Rattle.flat_core.specs.Label.{wire_id, same_wire, end_of}
use Rattle.flat_core.proofs.Labels.{same_wire_is}
use Rattle.move_plan.specs.Progress.{Progress}
use Rattle.move_plan.specs.Effect.{is_output}
use Rattle.move_plan.specs.Live.{live, live_at_end, count_wires}
use Rattle.qubit_alloc.specs.Place.{Place, least_free, put_on, place_wire, on_below, place_outputs, at_end, IsPlaced}
use Rattle.qubit_alloc.specs.State.{times_in, IsSeated, TellsOf, Takes, Seats, SeatsIfAny, keep_if}
use Rattle.qubit_alloc.proofs.Pigeon.{count_more, count_max}
use Rattle.qubit_alloc.proofs.Placing.{placed_more}
use Rattle.qubit_alloc.proofs.Seating.{times_cons, times_permuted, times_least, seated_same, seated_more, some_free, taken_least}
use Rattle.qubit_alloc.proofs.Moving.{rows_told, row_set}

module _ (f : FlatForm) (on more : WireId → Bool) (place : Place) (wide : ℕ) (rows : List (Option ℕ)) (free : List ℕ) (long : length rows ≡ length f.wires)
    (tells : TellsOf f on place (rows_told rows)) (seated : IsSeated f on wide place (times_in free)) (w : WireId) (wl : w.number < length f.wires) (on' : more w ≡ true) (others : (v : WireId) → same_wire v w ≡ false → more v ≡ on v)
    (room : on w ≡ false → (count_wires f on + 1 ≤ length f.wires) × (count_wires f on + 1 ≤ wide)) where
  row_of : (b : Bool) → on w ≡ b → rows_told rows w ≡ cond b (Some (place w)) None
  row_of b e = tells w wl ∙ ap (λ x. cond x (Some (place w)) None) e

  pub some_more : rows_told rows w ≡ None → 0 < length free
  some_more none = elim (cases_Bool (on w)) [
    | inl e ↦ let row : None ≡ Some (place w) = sym none ∙ row_of true e in absurd (cc)
    | inr e ↦ some_free f on wide place (times_in free) seated (room e).0 (room e).1 free (λ j. refl)
  ]

  module _ (rows' : List (Option ℕ)) (free' : List ℕ) where
    abbrev Seated : Place → Type 0
    Seated at = TellsOf f more at (rows_told rows') × IsSeated f more wide at (times_in free')

    had_one : on w ≡ true → (rows' ≡ rows) × (free' ≡ free) → Seated place
    had_one e h = (
      (λ v vl. ap (λ (xs : List (Option ℕ)). rows_told xs v) h.0 ∙ tells v vl ∙ ap (λ b. cond b (Some (place v)) None) (sym (same v))),
      seated_same f on more wide place place (times_in free) (times_in free') (λ v vl. same v) (λ v vl o. refl) (λ j. ap (λ (xs : List ℕ). times_in xs j) h.1) seated,
    )
      where
        same : (v : WireId) → more v ≡ on v
        same v = elim (cases_Bool (same_wire v w)) [ inl i ↦ let is = same_wire_is v w i in ap more is ∙ on' ∙ sym (ap on is ∙ e) | inr ne ↦ others v ne ]

    had_none : on w ≡ false → Takes w rows free rows' free' → Seated (put_on w (least_free f on place) place)
    had_none off t =
        let counted : (j : ℕ) → times_in free j ≡ cond (t.qubit == j) 1 0 + times_in free' j = λ j. sym (times_permuted free (t.qubit ∷ free') j t.rest) ∙ times_cons t.qubit free' j in
        let one = counted t.qubit ∙ ap (λ b. cond b 1 0 + times_in free' t.qubit) (eq-eqb t.qubit t.qubit refl) in
        let in_free : 0 < times_in free t.qubit = omega (arith, one) in
        let is : t.qubit ≡ least_free f on place = taken_least f on wide place (times_in free) seated (room off).0 (room off).1 t.qubit in_free (λ j lt. times_least free t.qubit j t.least lt) in
        let pl : IsPlaced f more wide (place_wire f on place w) = placed_more f wide on more place w
        (λ v h. elim (cases_Bool (same_wire v w)) [ inl i ↦ inr (same_wire_is v w i) | inr ne ↦ inl (sym (others v ne) ∙ h) ])
        room seated.placed in
        let pl' : IsPlaced f more wide (put_on w t.qubit place) = subst (IsPlaced f more wide) (ap (λ b. cond b place (put_on w (least_free f on place) place)) off ∙ ap (λ q. put_on w q place) (sym is)) pl in
        let now : IsSeated f more wide (put_on w t.qubit place) (times_in free') = seated_more f on wide place (times_in free) seated more w t.qubit (times_in free') wl off on' others pl' in_free counted in
        let told : TellsOf f more (put_on w t.qubit place) (rows_told rows') = λ v vl. ap (λ (xs : List (Option ℕ)). rows_told xs v) t.row ∙ row_set rows w v (Some t.qubit) None (subst (λ n. w.number < n) (sym long) wl) ∙ row t.qubit v vl (same_wire v w) refl in
        subst (λ q. Seated (put_on w q place)) is (told, now)
      where
        row : (q : ℕ) (v : WireId) → v.number < length f.wires → (b : Bool) → same_wire v w ≡ b → cond b (Some q) (rows_told rows v) ≡ cond (more v) (Some (cond b q (place v))) None
        row q v vl true i = sym (ap (λ x. cond x (Some q) None) (ap more (same_wire_is v w i) ∙ on'))
        row q v vl false i = tells v vl ∙ ap (λ x. cond x (Some (place v)) None) (sym (others v i))

    pub seat_more : Seats (rows_told rows w) w rows free rows' free' → Seated (place_wire f on place w)
    seat_more s = by (on w) refl
      where
        by : (b : Bool) → on w ≡ b → Seated (cond b place (put_on w (least_free f on place) place))
        by true e = had_one e (subst (λ (r : Option ℕ). Seats r w rows free rows' free') (row_of true e) s)
        by false e = had_none e (subst (λ (r : Option ℕ). Seats r w rows free rows' free') (row_of false e) s)

-- a wire, where it ends as an Output
abbrev pub output_at : FlatForm → ℕ → Option WireId
output_at f n = keep_if (λ w. is_output (end_of f w)) (Some (wire_id n))

module _ (f : FlatForm) (p : Progress) (wide : ℕ) (fits : count_wires f (live_at_end f p) ≤ wide) (n : ℕ) (nl : n < length f.wires) where
  -- one wire further
  below_other : (v : WireId) → same_wire v (wire_id n) ≡ false → on_below f p (suc n) v ≡ on_below f p n v
  below_other v ne = ap (λ b. live f p v || (is_output (end_of f v) && b)) (elim (cases_order v.number n) [
    | inl e ↦ absurd (both_ways (same_wire v (wire_id n)) ne (eq-eqb v.number n e))
    | inr (inl l) ↦ lt-ltb v.number (suc n) (omega arith) ∙ sym (lt-ltb v.number n l)
    | inr (inr l) ↦ le-ltb v.number (suc n) (omega arith) ∙ sym (le-ltb v.number n (omega arith))
  ])

  below_here : is_output (end_of f (wire_id n)) ≡ true → on_below f p (suc n) (wire_id n) ≡ true
  below_here e = or_right (live f p (wire_id n)) (is_output (end_of f (wire_id n)) && nat_lt n (suc n)) (ap₂ ◌&&◌ e (lt-ltb n (suc n) (omega arith)))

  below_none : is_output (end_of f (wire_id n)) ≡ false → (v : WireId) → on_below f p (suc n) v ≡ on_below f p n v
  below_none e v = elim (cases_Bool (same_wire v (wire_id n))) [
    | inl i ↦
        let is = same_wire_is v (wire_id n) i in
        let o : is_output (end_of f v) ≡ false = ap (λ (x : WireId). is_output (end_of f x)) is ∙ e in
        ap (λ b. live f p v || (b && nat_lt v.number (suc n))) o ∙ sym (ap (λ b. live f p v || (b && nat_lt v.number n)) o)
    | inr ne ↦ below_other v ne
  ]

  sub : (v : WireId) → on_below f p n v ≡ true → live_at_end f p v ≡ true
  sub v h = elim (or_cases (live f p v) (is_output (end_of f v) && nat_lt v.number n) h) [
    | inl o ↦ or_left (live f p v) (is_output (end_of f v)) o
    | inr o ↦ or_right (live f p v) (is_output (end_of f v)) (and_parts (is_output (end_of f v)) (nat_lt v.number n) o).0
  ]

  room_below : is_output (end_of f (wire_id n)) ≡ true → on_below f p n (wire_id n) ≡ false → (count_wires f (on_below f p n) + 1 ≤ length f.wires) × (count_wires f (on_below f p n) + 1 ≤ wide)
  room_below e off =
      let more : count_wires f (on_below f p n) + 1 ≤ count_wires f (live_at_end f p) = count_more (length f.wires) (λ k. on_below f p n (wire_id k)) (λ k. live_at_end f p (wire_id k)) n nl (λ k o. sub (wire_id k) o) off (or_right (live f p (wire_id n)) (is_output (end_of f (wire_id n))) e) in
      let all : count_wires f (live_at_end f p) ≤ length f.wires = count_max (length f.wires) (λ k. live_at_end f p (wire_id k)) in
      (omega (arith, more, all), omega (arith, more, fits))

  module _ (at : Place) (rows : List (Option ℕ)) (free : List ℕ) (long : length rows ≡ length f.wires) (tells : TellsOf f (on_below f p n) at (rows_told rows)) (seated : IsSeated f (on_below f p n) wide at (times_in free)) where
    pub some_output : IfSome (output_at f n) (λ w. rows_told rows w ≡ None → 0 < length free)
    some_output = by (is_output (end_of f (wire_id n))) refl
      where
        by : (b : Bool) → is_output (end_of f (wire_id n)) ≡ b → IfSome (cond b (Some (wire_id n)) None) (λ w. rows_told rows w ≡ None → 0 < length free)
        by true e = some_more f (on_below f p n) (on_below f p (suc n)) at wide rows free long tells seated (wire_id n) nl (below_here e) below_other (room_below e)
        by false e = tt

    pub seated_output : (rows' : List (Option ℕ)) (free' : List ℕ) → SeatsIfAny (output_at f n) rows free rows' free'
        → TellsOf f (on_below f p (suc n)) (cond (is_output (end_of f (wire_id n))) (place_wire f (on_below f p n) at (wire_id n)) at) (rows_told rows')
        × IsSeated f (on_below f p (suc n)) wide (cond (is_output (end_of f (wire_id n))) (place_wire f (on_below f p n) at (wire_id n)) at) (times_in free')
    seated_output rows' free' s = by (is_output (end_of f (wire_id n))) refl s
      where
        by : (b : Bool) → is_output (end_of f (wire_id n)) ≡ b → SeatsIfAny (cond b (Some (wire_id n)) None) rows free rows' free'
            → TellsOf f (on_below f p (suc n)) (cond b (place_wire f (on_below f p n) at (wire_id n)) at) (rows_told rows') × IsSeated f (on_below f p (suc n)) wide (cond b (place_wire f (on_below f p n) at (wire_id n)) at) (times_in free')
        by true e g = seat_more f (on_below f p n) (on_below f p (suc n)) at wide rows free long tells seated (wire_id n) nl (below_here e) below_other (room_below e) rows' free' g
        by false e g = (
          (λ v vl. ap (λ (xs : List (Option ℕ)). rows_told xs v) g.0 ∙ tells v vl ∙ ap (λ b. cond b (Some (at v)) None) (sym (below_none e v))),
          seated_same f (on_below f p n) (on_below f p (suc n)) wide at at (times_in free) (times_in free') (λ v vl. below_none e v) (λ v vl o. refl) (λ j. ap (λ (xs : List ℕ). times_in xs j) g.1) seated,
        )

-- before the first wire, and after the last one
module _ (f : FlatForm) (p : Progress) where
  pub below_first : (v : WireId) → on_below f p 0 v ≡ live f p v
  below_first v = ap (λ b. live f p v || (is_output (end_of f v) && b)) (le-ltb v.number 0 (omega arith)) ∙ off (live f p v) (is_output (end_of f v))
    where
      off : (a b : Bool) → (a || (b && false)) ≡ a
      off true b = refl
      off false true = refl
      off false false = refl

  pub below_last : (v : WireId) → v.number < length f.wires → on_below f p (length f.wires) v ≡ live_at_end f p v
  below_last v vl = ap (λ b. live f p v || (is_output (end_of f v) && b)) (lt-ltb v.number (length f.wires) vl) ∙ on (live f p v) (is_output (end_of f v))
    where
      on : (a b : Bool) → (a || (b && true)) ≡ (a || b)
      on true b = refl
      on false true = refl
      on false false = refl

-- the same for other wires that are the same below the bound
pub tells_same : (f : FlatForm) (on same : WireId → Bool) (place : Place) (qubit : WireId → Option ℕ) → ((v : WireId) → v.number < length f.wires → same v ≡ on v) → TellsOf f on place qubit → TellsOf f same place qubit
tells_same f on same place qubit h t = λ v vl. t v vl ∙ ap (λ b. cond b (Some (place v)) None) (sym (h v vl))

pub on_same : (f : FlatForm) (on same : WireId → Bool) (wide : ℕ) (place : Place) (free : ℕ → ℕ) → ((v : WireId) → v.number < length f.wires → same v ≡ on v) → IsSeated f on wide place free → IsSeated f same wide place free
on_same f on same wide place free h s = seated_same f on same wide place place free free h (λ v vl o. refl) (λ j. refl) s

-- once all wires are gone through
module _ (f : FlatForm) (p q : Progress) (n : ℕ) (all : n ≡ length f.wires) (same : q ≡ p) (place : Place) where
  on_last : (v : WireId) → v.number < length f.wires → live_at_end f q v ≡ on_below f p (length f.wires) v
  on_last v vl = ap (λ (r : Progress). live_at_end f r v) same ∙ sym (below_last f p v vl)

  pub ended_tells : (qubit : WireId → Option ℕ) → TellsOf f (on_below f p n) (place_outputs f p place n) qubit → TellsOf f (live_at_end f q) (at_end f p place) qubit
  ended_tells qubit h = tells_same f (on_below f p (length f.wires)) (live_at_end f q) (at_end f p place) qubit on_last (subst (λ k. TellsOf f (on_below f p k) (place_outputs f p place k) qubit) all h)

  pub ended_seated : (wide wide' : ℕ) (free : ℕ → ℕ) → wide' ≡ wide → IsSeated f (on_below f p n) wide (place_outputs f p place n) free → IsSeated f (live_at_end f q) wide' (at_end f p place) free
  ended_seated wide wide' free e h =
      subst (λ k. IsSeated f (live_at_end f q) k (at_end f p place) free) (sym e)
      (on_same f (on_below f p (length f.wires)) (live_at_end f q) wide (at_end f p place) free on_last (subst (λ k. IsSeated f (on_below f p k) wide (place_outputs f p place k) free) all h))
