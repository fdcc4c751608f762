-- Which qubits are free, as wires take and give back theirs.
use Rattle.std.proofs.Common.{◌≡◌, ℕ, zero, suc, ◌+◌, ◌<◌, ◌≤◌, ◌⊎◌, inl, inr, Bool, true, false, cond, not, nat_lt, ◌==◌, ◌&&◌, ◌||◌, List, [], ◌∷◌, length, All, refl, sym, ◌∙◌, ap, ap₂, subst, arith, eq-or-lt_of_le, le_of_suc-le-suc, zero-le}
use Rattle.std.proofs.lemmas.Bool.{cases_Bool, both_ways, eq-eqb, eqb-true, ne_eqb, lt-ltb, ltb-true}
use Rattle.std.proofs.Math.Path.{fun_ext}
use Rattle.std.specs.List.Sorted.{IsPermutation}
use Rattle.std.proofs.lemmas.List.Sums.{sum_by-cons}
use Rattle.std.proofs.lemmas.List.Sorted.{sum_by-IsPermutation}
use Rattle.std.proofs.lemmas.List.Elements.{All-head, All-tail}
use Rattle.flat_core.specs.declared.step.WireId.{WireId}
use Rattle.flat_core.specs.Form.{FlatForm}
use Rattle.flat_core.specs.Label.{wire_id, same_wire}
use Rattle.flat_core.proofs.Labels.{same_wire_is, same_wire-refl}
use Rattle.flat_mean.specs.Path.{sum_below}
use Rattle.move_plan.specs.Live.{count_wires}
use Rattle.qubit_alloc.specs.Place.{Place, any_below, is_taken, least_free, put_on, IsPlaced}
use Rattle.qubit_alloc.specs.State.{times_in, IsSeated}
use Rattle.qubit_alloc.proofs.Pigeon.{first_found}
use Rattle.qubit_alloc.proofs.Spreading.{any_ext, any_none, any_some}
use Rattle.qubit_alloc.proofs.Placing.{least_is_free, placed_less}

-- a test that holds of one number more
any_set : (n k : ℕ) (a b : ℕ → Bool) → k < n → ((j : ℕ) → (j ≡ k → ⊥) → b j ≡ a j) → a k ≡ false → any_below n b ≡ (b k || any_below n a)
any_set zero k a b lt same off = absurd (omega arith)
any_set (suc n) k a b lt same off = by (any_set n k a b) (eq-or-lt_of_le (le_of_suc-le-suc lt))
  where
    swap : (x y : Bool) → (y || x) ≡ (x || (y || false))
    swap true true = refl
    swap true false = refl
    swap false true = refl
    swap false false = refl

    group : (x y z : Bool) → ((x || y) || z) ≡ (x || (y || z))
    group true y z = refl
    group false y z = refl

    by : (k < n → ((j : ℕ) → (j ≡ k → ⊥) → b j ≡ a j) → a k ≡ false → any_below n b ≡ (b k || any_below n a)) → (k ≡ n) ⊎ (k < n) → (any_below n b || b n) ≡ (b k || (any_below n a || a n))
    by ih (inl e) =
        let rest : any_below n b ≡ any_below n a = any_ext n b a (λ j jl. same j (λ z. omega (arith, z, e, jl))) in
        let last : b n ≡ b k = ap b (sym e) in
        let none : a n ≡ false = ap a (sym e) ∙ off in
        ap₂ ◌||◌ rest last ∙ swap (b k) (any_below n a) ∙ sym (ap (λ x. b k || (any_below n a || x)) none)
    by ih (inr l) = ap₂ ◌||◌ (ih l same off) (same n (λ z. omega (arith, z, l))) ∙ group (b k) (any_below n a) (a n)

-- how many there are in a list, by how often each number is in it
sum_zero : (n : ℕ) → sum_below n (λ j. 0) ≡ 0
sum_zero zero = refl
sum_zero (suc n) = let ih = sum_zero n in omega (arith, ih)

sum_add : (n : ℕ) (a b : ℕ → ℕ) → sum_below n (λ j. a j + b j) ≡ sum_below n a + sum_below n b
sum_add zero a b = refl
sum_add (suc n) a b = let ih : sum_below n (λ j. a j + b j) ≡ sum_below n a + sum_below n b = sum_add n a b in omega (arith, ih)

sum_le : (n : ℕ) (a : ℕ → ℕ) → ((j : ℕ) → a j ≤ 1) → sum_below n a ≤ n
sum_le zero a h = zero-le
sum_le (suc n) a h = let ih : sum_below n a ≤ n = sum_le n a h in let one = h n in omega (arith, ih, one)

abbrev one_if : Bool → ℕ
one_if b = cond b 1 0

and_off : (a : Bool) → one_if (a && false) ≡ 0
and_off true = refl
and_off false = refl

sum_one : (n x : ℕ) → x < n → 1 ≤ sum_below n (λ j. cond (x == j) 1 0)
sum_one zero x lt = absurd (omega arith)
sum_one (suc n) x lt = by (sum_one n x) (eq-or-lt_of_le (le_of_suc-le-suc lt))
  where
    by : (x < n → 1 ≤ sum_below n (λ j. cond (x == j) 1 0)) → (x ≡ n) ⊎ (x < n) → 1 ≤ sum_below n (λ j. cond (x == j) 1 0) + cond (x == n) 1 0
    by ih (inl e) = let here : one_if (x == n) ≡ 1 = ap one_if (eq-eqb x n e) in omega (arith, here)
    by ih (inr l) = let h : 1 ≤ sum_below n (λ j. cond (x == j) 1 0) = ih l in omega (arith, h)

pub times_cons : (x : ℕ) (xs : List ℕ) (j : ℕ) → times_in (x ∷ xs) j ≡ cond (x == j) 1 0 + times_in xs j
times_cons x xs j = sum_by-cons (λ y. cond (y == j) 1 0) x xs

-- the number itself, and any other one
times_here : (x : ℕ) (xs : List ℕ) (j : ℕ) → (x == j) ≡ true → times_in (x ∷ xs) j ≡ 1 + times_in xs j
times_here x xs j e = times_cons x xs j ∙ ap (λ b. cond b 1 0 + times_in xs j) e

times_there : (x : ℕ) (xs : List ℕ) (j : ℕ) → (x == j) ≡ false → times_in (x ∷ xs) j ≡ times_in xs j
times_there x xs j e = let h : times_in (x ∷ xs) j ≡ 0 + times_in xs j = times_cons x xs j ∙ ap (λ b. cond b 1 0 + times_in xs j) e in omega (arith, h)

list_size : (n : ℕ) (xs : List ℕ) → ((j : ℕ) → 0 < times_in xs j → j < n) → length xs ≤ sum_below n (times_in xs)
list_size n [] h = zero-le
list_size n (x ∷ xs) h =
    let here : 0 < times_in (x ∷ xs) x = let one = times_here x xs x (eq-eqb x x refl) in omega (arith, one) in
    let ih : length xs ≤ sum_below n (times_in xs) = list_size n xs (λ j lt. h j (let more = times_cons x xs j in omega (arith, more, lt))) in
    let both : sum_below n (times_in (x ∷ xs)) ≡ sum_below n (λ j. cond (x == j) 1 0) + sum_below n (times_in xs) = ap (sum_below n) (fun_ext (times_cons x xs)) ∙ sum_add n (λ j. cond (x == j) 1 0) (times_in xs) in
    let one : 1 ≤ sum_below n (λ j. cond (x == j) 1 0) = sum_one n x (h x here) in
    omega (arith, ih, both, one)

pub times_permuted : (xs ys : List ℕ) (j : ℕ) → IsPermutation xs ys → times_in ys j ≡ times_in xs j
times_permuted xs ys j h = sum_by-IsPermutation (λ x. cond (x == j) 1 0) xs ys h

pub times_least : (xs : List ℕ) (q j : ℕ) → All (λ x. q ≤ x) xs → 0 < times_in xs j → q ≤ j
times_least [] q j all lt = absurd (omega arith)
times_least (x ∷ xs) q j all lt = by (x == j) refl (times_least xs q j (All-tail (λ y. q ≤ y) x xs all))
  where
    by : (b : Bool) → (x == j) ≡ b → (0 < times_in xs j → q ≤ j) → q ≤ j
    by true e ih = let h : q ≤ x = All-head (λ y. q ≤ y) x xs all in let same : x ≡ j = eqb-true x j e in omega (arith, h, same)
    by false e ih = let less = times_there x xs j e in ih (omega (arith, less, lt))

pub times_some : (xs : List ℕ) (j : ℕ) → 0 < times_in xs j → 0 < length xs
times_some [] j lt = absurd (omega arith)
times_some (x ∷ xs) j lt = omega arith

one_of : (b : Bool) → 0 < cond b 1 0 → b ≡ true
one_of true h = refl
one_of false h = absurd (omega arith)

bit_small : (b : Bool) → cond b 1 0 ≤ 1
bit_small true = omega arith
bit_small false = omega arith

module _ (f : FlatForm) where
  -- the same wires on the same qubits
  pub seated_same : (on same : WireId → Bool) (wide : ℕ) (place at : Place) (free count : ℕ → ℕ) → ((v : WireId) → v.number < length f.wires → same v ≡ on v) → ((v : WireId) → v.number < length f.wires → on v ≡ true → at v ≡ place v)
      → ((j : ℕ) → count j ≡ free j) → IsSeated f on wide place free → IsSeated f same wide at count
  seated_same on same wide place at free count eq kept counted h = record {
    placed = record {
      below = λ v vl o. let w = sym (eq v vl) ∙ o in subst (λ n. n < wide) (sym (kept v vl w)) (h.placed.below v vl w);
      apart = λ u v ul vl ou ov e. let x = sym (eq u ul) ∙ ou in let y = sym (eq v vl) ∙ ov in h.placed.apart u v ul vl x y (sym (kept u ul x) ∙ e ∙ kept v vl y);
    };
    free_are = λ j. counted j ∙ h.free_are j ∙ ap (λ b. cond (nat_lt j wide && not b) 1 0) (any_ext (length f.wires) (λ k. on (wire_id k) && (place (wire_id k) == j)) (λ k. same (wire_id k) && (at (wire_id k) == j)) (λ k kl. one j k kl (on (wire_id k)) refl));
  }
    where
      one : (j k : ℕ) → k < length f.wires → (b : Bool) → on (wire_id k) ≡ b → (on (wire_id k) && (place (wire_id k) == j)) ≡ (same (wire_id k) && (at (wire_id k) == j))
      one j k kl true e = ap₂ (λ x y. x && (y == j)) (sym (eq (wire_id k) kl)) (sym (kept (wire_id k) kl e))
      one j k kl false e = ap (λ x. x && (place (wire_id k) == j)) e ∙ sym (ap (λ x. x && (at (wire_id k) == j)) (eq (wire_id k) kl ∙ e))

  module _ (on : WireId → Bool) (wide : ℕ) (place : Place) (free : ℕ → ℕ) (h : IsSeated f on wide place free) where
    -- what is free
    free_is : (j : ℕ) → 0 < free j → (j < wide) × (is_taken f on place j ≡ false)
    free_is j lt = by (nat_lt j wide) (is_taken f on place j) refl refl (subst (λ n. 0 < n) (h.free_are j) lt)
      where
        by : (a b : Bool) → nat_lt j wide ≡ a → is_taken f on place j ≡ b → 0 < cond (a && not b) 1 0 → (j < wide) × (is_taken f on place j ≡ false)
        by true false ea eb l = (ltb-true j wide ea, eb)
        by true true ea eb l = absurd (omega arith)
        by false b ea eb l = absurd (omega arith)

    is_free : (j : ℕ) → j < wide → is_taken f on place j ≡ false → free j ≡ 1
    is_free j lt off = h.free_are j ∙ ap₂ (λ a b. cond (a && not b) 1 0) (lt-ltb j wide lt) off

    pub small : (j : ℕ) → free j ≤ 1
    small j = let e = h.free_are j in let s = bit_small (nat_lt j wide && not (is_taken f on place j)) in omega (arith, e, s)

    -- where there is room for one wire more, the least free qubit is free
    module _ (more_wires : count_wires f on + 1 ≤ length f.wires) (more_qubits : count_wires f on + 1 ≤ wide) where
      least : (is_taken f on place (least_free f on place) ≡ false) × (least_free f on place ≤ count_wires f on)
      least = least_is_free f on place more_wires

      least_in : free (least_free f on place) ≡ 1
      least_in = let le = least.1 in is_free (least_free f on place) (omega (arith, le, more_qubits)) least.0

      pub some_free : (xs : List ℕ) → ((j : ℕ) → times_in xs j ≡ free j) → 0 < length xs
      some_free xs same = let e = same (least_free f on place) ∙ least_in in times_some xs (least_free f on place) (omega (arith, e))

      -- so the least in the list is the least free one
      pub taken_least : (q : ℕ) → 0 < free q → ((j : ℕ) → 0 < free j → q ≤ j) → q ≡ least_free f on place
      taken_least q in_free low =
          let is = free_is q in_free in
          let found = first_found (length f.wires) 0 (λ j. not (is_taken f on place j)) in
          let e = least_in in
          let up : q ≤ least_free f on place = low (least_free f on place) (omega (arith, e)) in
          let le = least.1 in
          let down : least_free f on place ≤ q = (found q (omega arith) (omega (arith, up, le, more_wires)) (ap not is.1)).1 in
          omega (arith, up, down)

    -- a wire that takes a qubit
    pub seated_more : (more : WireId → Bool) (w : WireId) (q : ℕ) (count : ℕ → ℕ) → w.number < length f.wires → on w ≡ false → more w ≡ true → ((v : WireId) → same_wire v w ≡ false → more v ≡ on v)
        → IsPlaced f more wide (put_on w q place) → 0 < free q → ((j : ℕ) → free j ≡ cond (q == j) 1 0 + count j) → IsSeated f more wide (put_on w q place) count
    seated_more more w q count wl off on' others pl in_free counted = record { placed = pl; free_are = λ j. by j (q == j) refl }
      where
        taken : (j : ℕ) → is_taken f more (put_on w q place) j ≡ ((q == j) || is_taken f on place j)
        taken j =
            any_set (length f.wires) w.number (λ k. on (wire_id k) && (place (wire_id k) == j)) (λ k. more (wire_id k) && (put_on w q place (wire_id k) == j)) wl
            (λ k ne. let other : same_wire (wire_id k) w ≡ false = ne_eqb k w.number ne in ap₂ (λ x y. x && (y == j)) (others (wire_id k) other) (ap (λ b. cond b q (place (wire_id k))) other))
            (ap (λ x. x && (place w == j)) off)
            ∙ ap₂ (λ x y. (x && (y == j)) || is_taken f on place j) on' (ap (λ b. cond b q (place w)) (same_wire-refl w))

        by : (j : ℕ) (b : Bool) → (q == j) ≡ b → count j ≡ cond (nat_lt j wide && not (is_taken f more (put_on w q place) j)) 1 0
        by j true e =
            let was : free j ≡ 1 + count j = counted j ∙ ap (λ b. cond b 1 0 + count j) e in
            let s = small j in
            let none : count j ≡ 0 = omega (arith, was, s) in
            none ∙ sym (ap (λ b. cond (nat_lt j wide && not b) 1 0) (taken j ∙ ap (λ b. b || is_taken f on place j) e) ∙ and_off (nat_lt j wide))
        by j false e =
            let plain : 0 + count j ≡ count j = omega arith in
            let was : free j ≡ count j = counted j ∙ ap (λ b. cond b 1 0 + count j) e ∙ plain in
            sym was ∙ h.free_are j ∙ sym (ap (λ b. cond (nat_lt j wide && not b) 1 0) (taken j ∙ ap (λ b. b || is_taken f on place j) e))

    -- a wire that gives its qubit back
    pub seated_less : (less : WireId → Bool) (w : WireId) (count : ℕ → ℕ) → w.number < length f.wires → on w ≡ true → less w ≡ false → ((v : WireId) → same_wire v w ≡ false → less v ≡ on v)
        → ((j : ℕ) → count j ≡ cond (place w == j) 1 0 + free j) → IsSeated f less wide place count
    seated_less less w count wl on' off others counted = record { placed = placed_less f wide on less place (λ v vl l. kept v l) h.placed; free_are = λ j. by j (place w == j) refl }
      where
        kept : (v : WireId) → less v ≡ true → on v ≡ true
        kept v l = elim (cases_Bool (same_wire v w)) [
          | inl e ↦ absurd (both_ways (less v) (ap less (same_wire_is v w e) ∙ off) l)
          | inr e ↦ sym (others v e) ∙ l
        ]

        taken : (j : ℕ) → is_taken f on place j ≡ ((place w == j) || is_taken f less place j)
        taken j =
            any_set (length f.wires) w.number (λ k. less (wire_id k) && (place (wire_id k) == j)) (λ k. on (wire_id k) && (place (wire_id k) == j)) wl
            (λ k ne. ap (λ x. x && (place (wire_id k) == j)) (sym (others (wire_id k) (ne_eqb k w.number ne))))
            (ap (λ x. x && (place w == j)) off)
            ∙ ap (λ x. (x && (place w == j)) || is_taken f less place j) on'

        alone : is_taken f less place (place w) ≡ false
        alone = any_none (length f.wires) (λ k. less (wire_id k) && (place (wire_id k) == place w)) (λ k kl. one k kl (less (wire_id k)) (place (wire_id k) == place w) refl refl)
          where
            one : (k : ℕ) → k < length f.wires → (a b : Bool) → less (wire_id k) ≡ a → (place (wire_id k) == place w) ≡ b → (a && b) ≡ false
            one k kl false b ea eb = refl
            one k kl true false ea eb = refl
            one k kl true true ea eb =
                let same : wire_id k ≡ w = h.placed.apart (wire_id k) w kl wl (kept (wire_id k) ea) on' (eqb-true (place (wire_id k)) (place w) eb) in
                absurd (both_ways (less w) off (ap less (sym same) ∙ ea))

        by : (j : ℕ) (b : Bool) → (place w == j) ≡ b → count j ≡ cond (nat_lt j wide && not (is_taken f less place j)) 1 0
        by j true e =
            let same : place w ≡ j = eqb-true (place w) j e in
            let busy : is_taken f on place j ≡ true = taken j ∙ ap (λ b. b || is_taken f less place j) e in
            let was : free j ≡ 0 = h.free_are j ∙ ap (λ b. cond (nat_lt j wide && not b) 1 0) busy ∙ and_off (nat_lt j wide) in
            let now : count j ≡ 1 + free j = counted j ∙ ap (λ b. cond b 1 0 + free j) e in
            let lt : j < wide = subst (λ n. n < wide) same (h.placed.below w wl on') in
            let idle : is_taken f less place j ≡ false = ap (is_taken f less place) (sym same) ∙ alone in
            let one : count j ≡ 1 = omega (arith, was, now) in
            one ∙ sym (ap₂ (λ a b. cond (a && not b) 1 0) (lt-ltb j wide lt) idle)
        by j false e =
            let plain : 0 + free j ≡ free j = omega arith in
            let now : count j ≡ free j = counted j ∙ ap (λ b. cond b 1 0 + free j) e ∙ plain in
            now ∙ h.free_are j ∙ ap (λ b. cond (nat_lt j wide && not b) 1 0) (taken j ∙ ap (λ b. b || is_taken f less place j) e)

    -- there is room for the qubit of a wire that gives it back
    pub room_for : (xs : List ℕ) (w : WireId) → w.number < length f.wires → on w ≡ true → ((j : ℕ) → times_in xs j ≡ free j) → length xs < wide
    room_for xs w wl on' same =
        let q = place w in
        let busy : is_taken f on place q ≡ true = any_some (length f.wires) (λ k. on (wire_id k) && (place (wire_id k) == q)) w.number wl (ap₂ ◌&&◌ on' (eq-eqb q q refl)) in
        let ql : q < wide = h.placed.below w wl on' in
        let size : length (q ∷ xs) ≤ sum_below wide (times_in (q ∷ xs)) = list_size wide (q ∷ xs) (λ j lt. low j lt (q == j) refl) in
        let all : sum_below wide (times_in (q ∷ xs)) ≤ wide = sum_le wide (times_in (q ∷ xs)) (λ j. one j busy (q == j) refl) in
        omega (arith, size, all)
      where
        low : (j : ℕ) → 0 < times_in (place w ∷ xs) j → (b : Bool) → (place w == j) ≡ b → j < wide
        low j lt true e = subst (λ n. n < wide) (eqb-true (place w) j e) (h.placed.below w wl on')
        low j lt false e =
            let n = times_there (place w) xs j e in
            let s = same j in
            (free_is j (omega (arith, lt, n, s))).0

        one : (j : ℕ) → is_taken f on place (place w) ≡ true → (b : Bool) → (place w == j) ≡ b → times_in (place w ∷ xs) j ≤ 1
        one j busy true e =
            let at : is_taken f on place j ≡ true = ap (is_taken f on place) (sym (eqb-true (place w) j e)) ∙ busy in
            let none : free j ≡ 0 = h.free_are j ∙ ap (λ b. cond (nat_lt j wide && not b) 1 0) at ∙ and_off (nat_lt j wide) in
            let n = times_here (place w) xs j e in
            let s = same j in
            omega (arith, none, n, s)
        one j busy false e =
            let n = times_there (place w) xs j e in
            let s = same j in
            let le = small j in
            omega (arith, n, s, le)
