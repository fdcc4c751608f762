-- A whole move of a placer.
use Rattle.std.proofs.Common.{◌≡◌, ℕ, ◌+◌, ◌<◌, ◌≤◌, ◌⊎◌, inl, inr, Bool, true, false, cond, not, nat_lt, leb, ◌==◌, ◌&&◌, ◌||◌, Option, Some, None, IfSome, List, length, get_or, slice_set, refl, sym, ◌∙◌, ap, ap₂, subst, arith, get_or-set_same, get_or-set_other}
use Rattle.std.proofs.lemmas.Bool.{cases_lt, both_ways, or_cases, eq-eqb, eqb-true, eqb-false, ne_eqb, lt-ltb, le-ltb, le-leb, lt-leb, cases_order}
use Rattle.flat_core.specs.declared.step.Step.{Step}
use Rattle.flat_core.specs.declared.step.Step.TheVariants.{X, H, P, M}
use Rattle.flat_core.specs.declared.step.End.{End}
use Rattle.flat_core.specs.declared.step.End.TheVariants.{Output, Dropped, Measured, Zeroed}
use Rattle.flat_core.specs.declared.step.WireId.{WireId}
use Rattle.flat_core.specs.Form.{FlatForm}
use Rattle.flat_core.specs.Label.{same_wire, main_wire, first_wire, second_wire, EachNamed, step_at, end_of, is_input}
use Rattle.flat_core.specs.Ends.{measures, undone_step}
use Rattle.flat_core.specs.Sound.{IsFlat}
use Rattle.flat_mean.specs.Path.{inputs_before, count_inputs}
use Rattle.move_plan.specs.declared.moves.Move.{Move}
use Rattle.move_plan.specs.declared.moves.Move.TheVariants.{Up, Down, Do, Free}
use Rattle.move_plan.specs.Progress.{Progress, Stands, at_start, moved}
use Rattle.move_plan.specs.Effect.{is_measured, number_of}
use Rattle.move_plan.specs.Live.{live, live_at_end, count_wires}
use Rattle.move_plan.specs.Track.{touched}
use Rattle.move_plan.proofs.Counts.{freed_there}
use Rattle.move_plan.proofs.Measures.{bit_of, number_is}
use Rattle.qubit_alloc.specs.Place.{Place, step_of, first_place, place_move}
use Rattle.qubit_alloc.specs.PlacedMoves.{qubit_in, placed_of}
use Rattle.qubit_alloc.specs.declared.track.Track.{Track}
use Rattle.qubit_alloc.specs.Free.{FreeList}
use Rattle.qubit_alloc.specs.State.{HasEvenRows, told, state_of, PlacerState, progress_of, qubit_told, on_in, times_in, IsSeated, TellsOf, Tells, IsMadeFor, SeatsIfAny, GivesIfAny, keep_if, unless, noted_step, noted, qubit_of, placed_row}
use Rattle.qubit_alloc.proofs.Starting.{count_start, live_start, placed_start, taken_start}
use Rattle.qubit_alloc.proofs.Seating.{seated_same}
use Rattle.qubit_alloc.proofs.Moving.{rows_told, seated_during, seated_after}

abbrev bit : Bool → ℕ
bit b = cond b 1 0

-- the places that are told are the ones that count
some_is : (b : Bool) (x y : ℕ) → b ≡ true → cond b (Some x) None ≡ cond b (Some y) None → y ≡ x
some_is true x y e h = cc
some_is false x y e h = absurd (cc)

pub seated_told : (f : FlatForm) (on : WireId → Bool) (wide : ℕ) (a b : Place) (qubit : WireId → Option ℕ) (free : ℕ → ℕ) → TellsOf f on a qubit → TellsOf f on b qubit → IsSeated f on wide a free → IsSeated f on wide b free
seated_told f on wide a b qubit free ta tb h = seated_same f on on wide a b free free (λ v vl. refl) (λ v vl o. some_is (on v) (a v) (b v) o (sym (ta v vl) ∙ tb v vl)) (λ j. refl) h

-- what is known of a placer that is not finished
module _ (f : FlatForm) (v w : PlacerState) (e : v ≡ w) (going : w.finished ≡ false) where
  going_here : v.finished ≡ false
  going_here = ap (λ (x : PlacerState). x.finished) e ∙ going

  on_is : on_in f v ≡ live f (progress_of v)
  on_is = ap (λ b. cond b (live_at_end f (progress_of v)) (live f (progress_of v))) going_here

  pub tells_open : (place : Place) → Tells f w place → TellsOf f (live f (progress_of v)) place (qubit_told v)
  tells_open place h = subst (λ (on : WireId → Bool). TellsOf f on place (qubit_told v)) on_is (subst (λ (x : PlacerState). Tells f x place) (sym e) h)

  made_here : IsMadeFor f w → IsMadeFor f v
  made_here h = subst (IsMadeFor f) (sym e) h

  pub seated_open : IsMadeFor f w → (place : Place) → Tells f w place → IsSeated f (live f (progress_of v)) v.width place (times_in v.free)
  seated_open h place t =
      let m = made_here h in
      let there = subst (λ (on : WireId → Bool). TellsOf f on m.place (qubit_told v)) on_is m.tells in
      seated_told f (live f (progress_of v)) v.width m.place place (qubit_told v) (times_in v.free) there (tells_open place t) (subst (λ (on : WireId → Bool). IsSeated f on v.width m.place (times_in v.free)) on_is m.seated)

  pub numbered_open : IsMadeFor f w → (x : WireId) → x.number < length f.wires → (progress_of v).measured x ≡ true → get_or v.numbers x.number 0 ≡ number_of f.steps x
  numbered_open h = (made_here h).numbered

  pub stands_open : (m : Move) → Stands f (progress_of w) m → Stands f (progress_of v) m
  stands_open m st = subst (λ (x : PlacerState). Stands f (progress_of x) m) (sym e) st

  pub fits_open : (m : Move) → count_wires f (live f (moved f (progress_of w) m)) ≤ w.width → count_wires f (live f (moved f (progress_of v) m)) ≤ v.width
  fits_open m h = subst (λ (x : PlacerState). count_wires f (live f (moved f (progress_of x) m)) ≤ x.width) (sym e) h

-- the rows after a whole move
pub turned : (f : FlatForm) (ok : IsFlat f) (p : Progress) (m : Move) (st : Stands f p m) (place : Place) (wide : ℕ) (rows rows' rows'' : List (Option ℕ)) (free free' free'' : List ℕ) (here left : Option WireId)
    → length rows ≡ length f.wires → length rows' ≡ length f.wires → TellsOf f (live f p) place (rows_told rows) → IsSeated f (live f p) wide place (times_in free) → count_wires f (live f (moved f p m)) ≤ wide
    → here ≡ keep_if (live f (moved f p m)) (touched f m) → left ≡ unless (keep_if (live f (moved f p m)) (touched f m)) (touched f m) → SeatsIfAny here rows free rows' free' → GivesIfAny left rows' free' rows'' free''
    → TellsOf f (live f (moved f p m)) (place_move f p place m) (rows_told rows'') × IsSeated f (live f (moved f p m)) wide (place_move f p place m) (times_in free'')
turned f ok p m st place wide rows rows' rows'' free free' free'' here left long long' tells seated fits eh el s g =
    let d = seated_during f ok p m st place wide rows free long tells seated fits rows' free' here eh s in
    seated_after f ok p m st place wide rows' free' long' (place_move f p place m) d.0 d.1 rows'' free'' left el g

-- outcome numbers
module _ (f : FlatForm) (ok : IsFlat f) (p : Progress) where
  set_number : (numbers : List ℕ) (v w : WireId) (n : ℕ) → v.number < length numbers → get_or (slice_set numbers v.number n) w.number 0 ≡ cond (same_wire v w) n (get_or numbers w.number 0)
  set_number numbers v w n lt = by (same_wire v w) refl
    where
      by : (b : Bool) → same_wire v w ≡ b → get_or (slice_set numbers v.number n) w.number 0 ≡ cond b n (get_or numbers w.number 0)
      by true e = ap (λ (k : ℕ). get_or (slice_set numbers v.number n) k 0) (sym (eqb-true v.number w.number e)) ∙ get_or-set_same numbers v.number n 0 lt
      by false e = get_or-set_other numbers v.number w.number n 0 (λ z. eqb-false v.number w.number e (sym z))

  noted_at : (numbers : List ℕ) (s : Step) (w : WireId) → EachNamed (λ v. v.number < length numbers) s → get_or (noted_step numbers s) w.number 0 ≡ cond (measures w s) (bit_of s) (get_or numbers w.number 0)
  noted_at numbers (X t a b) w h = refl
  noted_at numbers (H t a) w h = refl
  noted_at numbers (P k a) w h = refl
  noted_at numbers (M v n) w h = set_number numbers v w n h.0

  undone_noted : (numbers : List ℕ) (s : Step) → undone_step f s ≡ true → noted_step numbers s ≡ numbers
  undone_noted numbers (X t a b) u = refl
  undone_noted numbers (H t a) u = refl
  undone_noted numbers (P k a) u = refl
  undone_noted numbers (M v n) u = absurd (cc)

  pub numbered_after : (numbers numbers' : List ℕ) (m : Move) → Stands f p m → length numbers ≡ length f.wires → numbers' ≡ noted numbers (step_of f m)
      → ((w : WireId) → w.number < length f.wires → p.measured w ≡ true → get_or numbers w.number 0 ≡ number_of f.steps w)
      → (w : WireId) → w.number < length f.wires → (moved f p m).measured w ≡ true → get_or numbers' w.number 0 ≡ number_of f.steps w
  numbered_after numbers numbers' (Up s) st long e h w wl on = ap (λ (xs : List ℕ). get_or xs w.number 0) (e ∙ undone_noted numbers (step_at f s) st.0) ∙ h w wl on
  numbered_after numbers numbers' (Down s) st long e h w wl on = ap (λ (xs : List ℕ). get_or xs w.number 0) (e ∙ undone_noted numbers (step_at f s) st.0) ∙ h w wl on
  numbered_after numbers numbers' (Free x) st long e h w wl on = ap (λ (xs : List ℕ). get_or xs w.number 0) e ∙ h w wl on
  numbered_after numbers numbers' (Do s) st long e h w wl on =
      ap (λ (xs : List ℕ). get_or xs w.number 0) e
      ∙ noted_at numbers (step_at f s) w (subst (λ n. EachNamed (λ v. v.number < n) (step_at f s)) (sym long) (ok.in_range s st.2.step))
      ∙ by (measures w (step_at f s)) refl (or_cases (measures w (step_at f s)) (p.measured w) on)
    where
      by : (b : Bool) → measures w (step_at f s) ≡ b → (measures w (step_at f s) ≡ true) ⊎ (p.measured w ≡ true) → cond b (bit_of (step_at f s)) (get_or numbers w.number 0) ≡ number_of f.steps w
      by true g k = sym (number_is f ok s w st.2.step g)
      by false g (inl k) = absurd (both_ways (measures w (step_at f s)) g k)
      by false g (inr k) = h w wl k

  -- what is told of the move
  module _ (place : Place) where
    qubit_is : (m : Move) (rows : List (Option ℕ)) → TellsOf f (λ w. live f p w || live f (moved f p m) w) (place_move f p place m) (rows_told rows) → (o : Option WireId) → IfSome o (λ w. w.number < length f.wires) → qubit_of rows o ≡ qubit_in f p place m o
    qubit_is m rows tells None h = refl
    qubit_is m rows tells (Some w) h = tells w h

    freed_is : (w : WireId) (numbers : List ℕ) → Stands f p (Free w) → ((x : WireId) → x.number < length f.wires → p.measured x ≡ true → get_or numbers x.number 0 ≡ number_of f.steps x)
        → cond (is_measured (end_of f w)) (get_or numbers w.number 0) 0 ≡ cond (is_measured (end_of f w)) (number_of f.steps w) 0
    freed_is w numbers st h = by (end_of f w) refl
      where
        by : (x : End) → end_of f w ≡ x → cond (is_measured x) (get_or numbers w.number 0) 0 ≡ cond (is_measured x) (number_of f.steps w) 0
        by Output g = refl
        by Dropped g = refl
        by Measured g = h w (freed_there f w st.ending) (st.measured g)
        by Zeroed g = refl

    pub placed_is : (m : Move) (rows : List (Option ℕ)) (numbers numbers' : List ℕ) → Stands f p m → TellsOf f (λ w. live f p w || live f (moved f p m) w) (place_move f p place m) (rows_told rows)
        → numbers' ≡ noted numbers (step_of f m) → ((x : WireId) → x.number < length f.wires → p.measured x ≡ true → get_or numbers x.number 0 ≡ number_of f.steps x)
        → placed_row f m rows numbers' ≡ placed_of f p place m
    placed_is (Up s) rows numbers numbers' st tells e h =
        let named = ok.in_range s st.1.step in
        λ i. record (placed_of f p place (Up s)) { target = qubit_is (Up s) rows tells (main_wire (step_at f s)) named.0 i; first = qubit_is (Up s) rows tells (first_wire (step_at f s)) named.1.0 i; second = qubit_is (Up s) rows tells (second_wire (step_at f s)) named.1.1 i }
    placed_is (Down s) rows numbers numbers' st tells e h =
        let named = ok.in_range s st.1.step in
        λ i. record (placed_of f p place (Down s)) { target = qubit_is (Down s) rows tells (main_wire (step_at f s)) named.0 i; first = qubit_is (Down s) rows tells (first_wire (step_at f s)) named.1.0 i; second = qubit_is (Down s) rows tells (second_wire (step_at f s)) named.1.1 i }
    placed_is (Do s) rows numbers numbers' st tells e h =
        let named = ok.in_range s st.2.step in
        λ i. record (placed_of f p place (Do s)) { target = qubit_is (Do s) rows tells (main_wire (step_at f s)) named.0 i; first = qubit_is (Do s) rows tells (first_wire (step_at f s)) named.1.0 i; second = qubit_is (Do s) rows tells (second_wire (step_at f s)) named.1.1 i }
    placed_is (Free w) rows numbers numbers' st tells e h =
        let bit : cond (is_measured (end_of f w)) (get_or numbers' w.number 0) 0 ≡ cond (is_measured (end_of f w)) (number_of f.steps w) 0 = ap (λ (xs : List ℕ). cond (is_measured (end_of f w)) (get_or xs w.number 0) 0) e ∙ freed_is w numbers st h in
        let there = freed_there f w st.ending in
        λ i. record (placed_of f p place (Free w)) { target = qubit_is (Free w) rows tells (Some w) there i; bit = bit i }

-- the start
module _ (f : FlatForm) (p : Progress) (start : p ≡ at_start) where
  pub begin_tells : (rows : List (Option ℕ)) → ((w : WireId) → w.number < length f.wires → rows_told rows w ≡ cond (is_input f w) (Some (inputs_before f.wires w.number)) None) → TellsOf f (live f p) (first_place f) (rows_told rows)
  begin_tells rows h = subst (λ (q : Progress). TellsOf f (live f q) (first_place f) (rows_told rows)) (sym start) (λ w wl. h w wl ∙ same (is_input f w) (inputs_before f.wires w.number) ∙ ap (λ b. cond b (Some (first_place f w)) None) (sym (live_start f w)))
    where
      same : (b : Bool) (n : ℕ) → cond b (Some n) None ≡ cond b (Some (cond b n 0)) None
      same true n = refl
      same false n = refl

  pub begin_seated : (wide : ℕ) (items : List ℕ) → count_inputs f.wires ≤ wide → ((j : ℕ) → times_in items j ≡ cond (leb (count_inputs f.wires) j && nat_lt j wide) 1 0) → IsSeated f (live f p) wide (first_place f) (times_in items)
  begin_seated wide items fits h = subst (λ (q : Progress). IsSeated f (live f q) wide (first_place f) (times_in items)) (sym start) (record {
    placed = placed_start f wide (subst (λ n. n ≤ wide) (sym (count_start f)) fits);
    free_are = λ j. h j ∙ swap (count_inputs f.wires) j (nat_lt j wide) ∙ ap (λ b. cond (nat_lt j wide && not b) 1 0) (sym (taken_start f j));
  })
    where
      both : (a : Bool) → bit (true && a) ≡ bit (a && true)
      both true = refl
      both false = refl

      none : (a : Bool) → bit (false && a) ≡ bit (a && false)
      none true = refl
      none false = refl

      swap : (c j : ℕ) (a : Bool) → bit (leb c j && a) ≡ bit (a && not (nat_lt j c))
      swap c j a = elim (cases_lt j c) [
        | inl l ↦ ap (λ b. bit (b && a)) (lt-leb c j l) ∙ none a ∙ sym (ap (λ b. bit (a && not b)) (lt-ltb j c l))
        | inr l ↦ ap (λ b. bit (b && a)) (le-leb c j l) ∙ both a ∙ sym (ap (λ b. bit (a && not b)) (le-ltb j c l))
      ]

-- one number more in a range
pub range_more : (from j q : ℕ) → from ≤ q → cond (q == j) 1 0 + cond (leb from j && nat_lt j q) 1 0 ≡ cond (leb from j && nat_lt j (q + 1)) 1 0
range_more from j q le = by (cases_order j q)
  where
    add_bits : (a b c d : Bool) → ((a ≡ true) × ((b && c) ≡ false) × ((b && d) ≡ true)) ⊎ ((a ≡ false) × (c ≡ d)) → cond a 1 0 + cond (b && c) 1 0 ≡ cond (b && d) 1 0
    add_bits a b c d (inl h) =
        let x : bit a ≡ 1 = ap bit h.0 in
        let y : bit (b && c) ≡ 0 = ap bit h.1 in
        let z : bit (b && d) ≡ 1 = ap bit h.2 in
        omega (arith, x, y, z)
    add_bits a b c d (inr h) =
        let x : bit a ≡ 0 = ap bit h.0 in
        let y : bit (b && c) ≡ bit (b && d) = ap (λ k. bit (b && k)) h.1 in
        omega (arith, x, y)

    by : (j ≡ q) ⊎ ((j < q) ⊎ (q < j)) → cond (q == j) 1 0 + cond (leb from j && nat_lt j q) 1 0 ≡ cond (leb from j && nat_lt j (q + 1)) 1 0
    by (inl e) = add_bits (q == j) (leb from j) (nat_lt j q) (nat_lt j (q + 1)) (inl (
      eq-eqb q j (sym e),
      ap₂ ◌&&◌ (le-leb from j (omega (arith, e, le))) (le-ltb j q (omega (arith, e))),
      ap₂ ◌&&◌ (le-leb from j (omega (arith, e, le))) (lt-ltb j (q + 1) (omega (arith, e))),
    ))
    by (inr (inl l)) = add_bits (q == j) (leb from j) (nat_lt j q) (nat_lt j (q + 1)) (inr (ne_eqb q j (λ z. omega (arith, z, l)), lt-ltb j q l ∙ sym (lt-ltb j (q + 1) (omega (arith, l)))))
    by (inr (inr l)) = add_bits (q == j) (leb from j) (nat_lt j q) (nat_lt j (q + 1)) (inr (ne_eqb q j (λ z. omega (arith, z, l)), le-ltb j q (omega (arith, l)) ∙ sym (le-ltb j (q + 1) (omega (arith, l)))))

-- what is known of a placer's fields before a move
pub record Opened (f : FlatForm) (m : Move) (t : Track) (qubits : List (Option ℕ)) (numbers free : List ℕ) (wide : ℕ) (w : PlacerState) : Type 0 where
  pub stands : Stands f (told t) m
  pub fits : count_wires f (live f (moved f (told t) m)) ≤ wide
  pub long : length qubits ≡ length f.wires
  pub many : length numbers ≡ length f.wires
  pub same : told t ≡ progress_of w
  pub tells : (place : Place) → Tells f w place → TellsOf f (live f (told t)) place (rows_told qubits)
  pub seated : (place : Place) → Tells f w place → IsSeated f (live f (told t)) wide place (times_in free)
  pub numbered : (x : WireId) → x.number < length f.wires → (told t).measured x ≡ true → get_or numbers x.number 0 ≡ number_of f.steps x
  pub place : Place
  pub of : Tells f w place

pub opened : (f : FlatForm) (m : Move) (t : Track) (qubits : List (Option ℕ)) (numbers : List ℕ) (free : FreeList) (wide : ℕ) (finished : Bool) (w : PlacerState)
    → state_of t qubits numbers free wide finished ≡ w → HasEvenRows t qubits numbers free wide → w.finished ≡ false → IsMadeFor f w → Stands f (progress_of w) m → count_wires f (live f (moved f (progress_of w) m)) ≤ w.width
    → Opened f m t qubits numbers free.items wide w
opened f m t qubits numbers free wide finished w e even going made st fits =
    let v = state_of t qubits numbers free wide finished in
    let wires : length t.labels.items ≡ length f.wires = ap (λ (x : PlacerState). length x.labels) e ∙ made.wires_are in
    record {
      stands = stands_open f v w e going m st;
      fits = fits_open f v w e going m fits;
      long = even.qubit_rows ∙ wires;
      many = even.number_rows ∙ wires;
      same = ap (λ (x : PlacerState). progress_of x) e;
      tells = tells_open f v w e going;
      seated = seated_open f v w e going made;
      numbered = numbered_open f v w e going made;
      place = made.place;
      of = made.tells;
    }

-- the wire that is live now, and the one that is no more
pub here_is : (f : FlatForm) (p q : Progress) (m : Move) (o here : Option WireId) → q ≡ moved f p m → o ≡ touched f m → here ≡ keep_if (live f q) o → here ≡ keep_if (live f (moved f p m)) (touched f m)
here_is f p q m o here eq eo eh = eh ∙ ap₂ (λ (r : Progress) (x : Option WireId). keep_if (live f r) x) eq eo

pub left_is : (f : FlatForm) (p : Progress) (m : Move) (o here left : Option WireId) → o ≡ touched f m → here ≡ keep_if (live f (moved f p m)) (touched f m) → left ≡ unless here o → left ≡ unless (keep_if (live f (moved f p m)) (touched f m)) (touched f m)
left_is f p m o here left eo eh el = el ∙ ap₂ unless eh eo

-- the wires on qubits after a move of a placer that is not finished
pub closed : (f : FlatForm) (p q : Progress) (finished : Bool) → q ≡ p → finished ≡ false → cond finished (live_at_end f q) (live f q) ≡ live f p
closed f p q finished e going = ap (λ b. cond b (live_at_end f q) (live f q)) going ∙ ap (live f) e
