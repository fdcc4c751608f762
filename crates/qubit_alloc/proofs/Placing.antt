-- Placing keeps live wires on different qubits below the width.
use Rattle.std.proofs.Common.{◌≡◌, ℕ, zero, suc, ◌+◌, ◌<◌, ◌≤◌, ◌⊎◌, inl, inr, Bool, true, false, cond, not, nat_lt, ◌==◌, ◌&&◌, Option, Some, None, IfSome, List, [], ◌∷◌, ◌++◌, length, refl, sym, ◌∙◌, ap, ap₂, subst, arith}
use Rattle.std.proofs.lemmas.Bool.{cases_order, both_ways, not-true, not-false, or_cases, or_left, or_right, and_parts, eq-eqb, lt-ltb, ltb-true}
use Rattle.flat_core.specs.declared.step.WireId.{WireId}
use Rattle.flat_core.specs.Form.{FlatForm}
use Rattle.flat_core.specs.Label.{wire_id, same_wire, end_of}
use Rattle.flat_core.specs.Sound.{IsFlat}
use Rattle.flat_core.proofs.Labels.{same_wire_is}
use Rattle.move_plan.specs.declared.moves.Move.{Move}
use Rattle.move_plan.specs.declared.moves.Move.TheVariants.{Up, Down, Do, Free}
use Rattle.move_plan.specs.Progress.{Progress, Stands, moved, AllStand, progress}
use Rattle.move_plan.specs.Effect.{is_output}
use Rattle.move_plan.specs.Live.{live, live_at_end, count_wires, width_from}
use Rattle.move_plan.proofs.Counts.{width_from-ge}
use Rattle.qubit_alloc.specs.Place.{Place, main_of, is_taken, least_free, put_on, place_wire, place_if_any, place_move, place_all, on_below, place_outputs, at_end, IsPlaced}
use Rattle.qubit_alloc.proofs.Pigeon.{pigeons, find_below, first_found, any_at, count_more, count_max}
use Rattle.qubit_alloc.proofs.Lives.{live_back, live_new, live_stay}

module _ (f : FlatForm) where
  -- the least free qubit is free, and not above the number of wires on qubits
  pub least_is_free : (on : WireId → Bool) (place : Place) → count_wires f on + 1 ≤ length f.wires → (is_taken f on place (least_free f on place) ≡ false) × (least_free f on place ≤ count_wires f on)
  least_is_free on place room = by (find_below (count_wires f on + 1) (λ j. not (is_taken f on place j)))
    where
      by : ((j : ℕ) × (j < count_wires f on + 1) × (not (is_taken f on place j) ≡ true)) ⊎ ((j : ℕ) → j < count_wires f on + 1 → not (is_taken f on place j) ≡ false)
          → (is_taken f on place (least_free f on place) ≡ false) × (least_free f on place ≤ count_wires f on)
      by (inl h) =
          let lt : h.0 < count_wires f on + 1 = h.1 in
          let g = first_found (length f.wires) 0 (λ j. not (is_taken f on place j)) h.0 (omega arith) (omega (arith, lt, room)) h.2 in
          let le : least_free f on place ≤ h.0 = g.1 in
          (not-true _ g.0, omega (arith, le, lt))
      by (inr h) =
          let many : count_wires f on + 1 ≤ count_wires f on = pigeons (count_wires f on + 1) (length f.wires) (λ n. on (wire_id n)) (λ n. place (wire_id n)) (λ j lt. not-false _ (h j lt)) in
          absurd (omega (arith, many))

  -- a wire that is not on a qubit gets one of its own
  module _ (wide : ℕ) (on more : WireId → Bool) (place : Place) (w : WireId) (back : (v : WireId) → more v ≡ true → (on v ≡ true) ⊎ (v ≡ w)) (pl : IsPlaced f on wide place)
      (room : count_wires f on + 1 ≤ length f.wires) (fits : count_wires f on + 1 ≤ wide) where
    free : (is_taken f on place (least_free f on place) ≡ false) × (least_free f on place ≤ count_wires f on)
    free = least_is_free on place room

    old : (v : WireId) → same_wire v w ≡ false → more v ≡ true → on v ≡ true
    old v e h = elim (back v h) [ inl o ↦ o | inr o ↦ absurd (both_ways (same_wire v w) e (eq-eqb v.number w.number (ap (λ (x : WireId). x.number) o))) ]

    other : (v : WireId) → v.number < length f.wires → on v ≡ true → place v ≡ least_free f on place → ⊥
    other v vl o e = both_ways (on v && (place v == least_free f on place)) (any_at (length f.wires) (λ n. on (wire_id n) && (place (wire_id n) == least_free f on place)) v.number vl free.0) (ap₂ ◌&&◌ o (eq-eqb (place v) (least_free f on place) e))

    low : (v : WireId) → v.number < length f.wires → more v ≡ true → (b : Bool) → same_wire v w ≡ b → cond b (least_free f on place) (place v) < wide
    low v vl h true e = let le = free.1 in omega arith
    low v vl h false e = pl.below v vl (old v e h)

    far : (u v : WireId) → u.number < length f.wires → v.number < length f.wires → more u ≡ true → more v ≡ true → (a b : Bool) → same_wire u w ≡ a → same_wire v w ≡ b
        → cond a (least_free f on place) (place u) ≡ cond b (least_free f on place) (place v) → u ≡ v
    far u v ul vl hu hv true true ea eb e = same_wire_is u w ea ∙ sym (same_wire_is v w eb)
    far u v ul vl hu hv true false ea eb e = absurd (other v vl (old v eb hv) (sym e))
    far u v ul vl hu hv false true ea eb e = absurd (other u ul (old u ea hu) e)
    far u v ul vl hu hv false false ea eb e = pl.apart u v ul vl (old u ea hu) (old v eb hv) e

    placed_new : IsPlaced f more wide (put_on w (least_free f on place) place)
    placed_new = record { below = λ v vl h. low v vl h (same_wire v w) refl; apart = λ u v ul vl hu hv. far u v ul vl hu hv (same_wire u w) (same_wire v w) refl refl }

  -- a wire that has to be on a qubit is on one of its own
  pub placed_more : (wide : ℕ) (on more : WireId → Bool) (place : Place) (w : WireId) → ((v : WireId) → more v ≡ true → (on v ≡ true) ⊎ (v ≡ w))
      → (on w ≡ false → (count_wires f on + 1 ≤ length f.wires) × (count_wires f on + 1 ≤ wide))
      → IsPlaced f on wide place → IsPlaced f more wide (place_wire f on place w)
  placed_more wide on more place w back room pl = by (on w) refl
    where
      was : on w ≡ true → (v : WireId) → more v ≡ true → on v ≡ true
      was e v h = elim (back v h) [ inl o ↦ o | inr o ↦ ap on o ∙ e ]

      by : (b : Bool) → on w ≡ b → IsPlaced f more wide (cond b place (put_on w (least_free f on place) place))
      by true e = record { below = λ v vl h. pl.below v vl (was e v h); apart = λ u v ul vl hu hv. pl.apart u v ul vl (was e u hu) (was e v hv) }
      by false e = placed_new wide on more place w back pl (room e).0 (room e).1

  -- fewer wires on qubits
  pub placed_less : (wide : ℕ) (on less : WireId → Bool) (place : Place) → ((v : WireId) → v.number < length f.wires → less v ≡ true → on v ≡ true) → IsPlaced f on wide place → IsPlaced f less wide place
  placed_less wide on less place sub pl = record { below = λ v vl h. pl.below v vl (sub v vl h); apart = λ u v ul vl hu hv. pl.apart u v ul vl (sub u ul hu) (sub v vl hv) }

  main_there : IsFlat f → (p : Progress) (m : Move) (w : WireId) → Stands f p m → main_of f m ≡ Some w → w.number < length f.wires
  main_there ok p (Up s) w st e = subst (λ (o : Option WireId). IfSome o (λ v. v.number < length f.wires)) e (ok.in_range s st.1.step).0
  main_there ok p (Down s) w st e = subst (λ (o : Option WireId). IfSome o (λ v. v.number < length f.wires)) e (ok.in_range s st.1.step).0
  main_there ok p (Do s) w st e = subst (λ (o : Option WireId). IfSome o (λ v. v.number < length f.wires)) e (ok.in_range s st.2.step).0
  main_there ok p (Free v) w st e = absurd (cc)

  -- a move keeps live wires apart
  pub placed_move : IsFlat f → (wide : ℕ) (p : Progress) (place : Place) (m : Move) → Stands f p m → count_wires f (live f (moved f p m)) ≤ wide
      → IsPlaced f (live f p) wide place → IsPlaced f (live f (moved f p m)) wide (place_move f p place m)
  placed_move ok wide p place m st fits pl = by (main_of f m) refl
    where
      by : (o : Option WireId) → main_of f m ≡ o → IsPlaced f (live f (moved f p m)) wide (place_if_any f (live f p) place o)
      by None e = placed_less wide (live f p) (live f (moved f p m)) place (λ v vl h. elim (live_back f p m v h) [ inl o ↦ o | inr o ↦ let no : None ≡ Some v = sym e ∙ o in absurd (cc) ]) pl
      by (Some w) e =
          let wl = main_there ok p m w st e in
          placed_more wide (live f p) (live f (moved f p m)) place w
          (λ v h. elim (live_back f p m v h) [ inl o ↦ inl o | inr o ↦ let is : Some w ≡ Some v = sym e ∙ o in let same : v ≡ w = cc in inr same ])
          (λ off.
          let more : count_wires f (live f p) + 1 ≤ count_wires f (live f (moved f p m)) = count_more (length f.wires) (λ n. live f p (wire_id n)) (λ n. live f (moved f p m) (wire_id n)) w.number wl (λ n o. live_stay f p m w (wire_id n) st e off o) off (live_new f p m w st e off) in
          let all : count_wires f (live f (moved f p m)) ≤ length f.wires = count_max (length f.wires) (λ n. live f (moved f p m) (wire_id n)) in
          (omega arith, omega arith))
          pl

  -- moves within a width
  pub placed_moves : IsFlat f → (wide : ℕ) (before rest : List Move) (p : Progress) (place : Place) → AllStand f p (before ++ rest) → width_from f p (before ++ rest) ≤ wide
      → IsPlaced f (live f p) wide place → IsPlaced f (live f (progress f p before)) wide (place_all f p place before)
  placed_moves ok wide [] rest p place st fits pl = pl
  placed_moves ok wide (m ∷ before) rest p place st fits pl =
      let after : count_wires f (live f (moved f p m)) ≤ width_from f (moved f p m) (before ++ rest) = width_from-ge f (moved f p m) (before ++ rest) in
      let left : width_from f (moved f p m) (before ++ rest) ≤ wide = omega arith in
      placed_moves ok wide before rest (moved f p m) (place_move f p place m) st.1 left (placed_move ok wide p place m st.0 (omega arith) pl)

  -- the Output wires that nothing touched
  pub placed_outputs : (wide : ℕ) (p : Progress) (place : Place) (n : ℕ) → n ≤ length f.wires → count_wires f (live_at_end f p) ≤ wide
      → IsPlaced f (live f p) wide place → IsPlaced f (on_below f p n) wide (place_outputs f p place n)
  placed_outputs wide p place zero nl fits pl = placed_less wide (live f p) (on_below f p 0) place (λ v vl h. elim (or_cases (live f p v) (is_output (end_of f v) && nat_lt v.number 0) h) [
    | inl o ↦ o
    | inr o ↦ let l = ltb-true v.number 0 (and_parts (is_output (end_of f v)) (nat_lt v.number 0) o).1 in absurd (omega arith)
  ]) pl
  placed_outputs wide p place (suc n) nl fits pl = by (placed_outputs wide p place n (omega arith) fits pl) (is_output (end_of f (wire_id n))) refl
    where
      sub : (v : WireId) → on_below f p n v ≡ true → live_at_end f p v ≡ true
      sub v h = elim (or_cases (live f p v) (is_output (end_of f v) && nat_lt v.number n) h) [
        | inl o ↦ or_left (live f p v) (is_output (end_of f v)) o
        | inr o ↦ or_right (live f p v) (is_output (end_of f v)) (and_parts (is_output (end_of f v)) (nat_lt v.number n) o).0
      ]

      back : (v : WireId) → on_below f p (suc n) v ≡ true → (on_below f p n v ≡ true) ⊎ ((v ≡ wire_id n) × (is_output (end_of f v) ≡ true))
      back v h = elim (or_cases (live f p v) (is_output (end_of f v) && nat_lt v.number (suc n)) h) [
        | inl o ↦ inl (or_left (live f p v) (is_output (end_of f v) && nat_lt v.number n) o)
        | inr o ↦
            let g = and_parts (is_output (end_of f v)) (nat_lt v.number (suc n)) o in
            let within = ltb-true v.number (suc n) g.1 in
            elim (cases_order v.number n) [
              | inl e ↦ inr (ap wire_id e, g.0)
              | inr (inl l) ↦ inl (or_right (live f p v) (is_output (end_of f v) && nat_lt v.number n) (ap₂ ◌&&◌ g.0 (lt-ltb v.number n l)))
              | inr (inr l) ↦ absurd (omega arith)
            ]
      ]

      by : IsPlaced f (on_below f p n) wide (place_outputs f p place n) → (b : Bool) → is_output (end_of f (wire_id n)) ≡ b
          → IsPlaced f (on_below f p (suc n)) wide (cond b (place_wire f (on_below f p n) (place_outputs f p place n) (wire_id n)) (place_outputs f p place n))
      by ih true e = placed_more wide (on_below f p n) (on_below f p (suc n)) (place_outputs f p place n) (wire_id n)
          (λ v h. elim (back v h) [ inl o ↦ inl o | inr o ↦ inr o.0 ])
          (λ off.
          let more : count_wires f (on_below f p n) + 1 ≤ count_wires f (live_at_end f p) = count_more (length f.wires) (λ k. on_below f p n (wire_id k)) (λ k. live_at_end f p (wire_id k)) n (omega arith) (λ k o. sub (wire_id k) o) off (or_right (live f p (wire_id n)) (is_output (end_of f (wire_id n))) e) in
          let all : count_wires f (live_at_end f p) ≤ length f.wires = count_max (length f.wires) (λ k. live_at_end f p (wire_id k)) in
          (omega arith, omega arith))
          ih
      by ih false e = placed_less wide (on_below f p n) (on_below f p (suc n)) (place_outputs f p place n) (λ v vl h. elim (back v h) [
        | inl o ↦ o
        | inr o ↦ absurd (both_ways (is_output (end_of f (wire_id n))) e (ap (λ (x : WireId). is_output (end_of f x)) (sym o.0) ∙ o.1))
      ]) ih

  pub placed_end : (wide : ℕ) (p : Progress) (place : Place) → count_wires f (live_at_end f p) ≤ wide → IsPlaced f (live f p) wide place → IsPlaced f (live_at_end f p) wide (at_end f p place)
  placed_end wide p place fits pl = placed_less wide (on_below f p (length f.wires)) (live_at_end f p) (at_end f p place) (λ v vl h. elim (or_cases (live f p v) (is_output (end_of f v)) h) [
    | inl o ↦ or_left (live f p v) (is_output (end_of f v) && nat_lt v.number (length f.wires)) o
    | inr o ↦ or_right (live f p v) (is_output (end_of f v) && nat_lt v.number (length f.wires)) (ap₂ ◌&&◌ o (lt-ltb v.number (length f.wires) vl))
  ]) (placed_outputs wide p place (length f.wires) (omega arith) fits pl)
