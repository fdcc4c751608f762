-- Sums of single terms: how many units a sum has, and that sums of up to 2^50 of them are small.
use Rattle.std.proofs.Common.{◌≡◌, ℕ, zero, suc, ◌+◌, ◌-◌, ◌*◌, ◌^◌, ◌≤◌, List, [], ◌∷◌, ◌++◌, map, length, ap, refl, sym, ◌∙◌, subst, arith, length-append}
use Rattle.std.proofs.lemmas.Int.{ints}
use Rattle.amp_core.specs.declared.Amp.{Amp}
use Rattle.amp_core.specs.Amplitude.{Numerator, no_numerator, add, times_root_two, times_power_of_root_two, numerator, scaled, plus, none, one, times, Same, IsReduced}
use Rattle.amp_core.specs.Size.{Small}
use Rattle.amp_core.proofs.Amplitudes.{plus-none, k-plus, k-times, scaled-plus, scaled-none, times_twice, times-plus, Same-at, Same-refl, Same-sym, Same-trans, Same-plus, Same-equal, Same-times, Same-times_none}
use Rattle.sum_laws.specs.Terms.{total}
use Rattle.sum_laws.specs.Units.{IsUnit, IsUnitWithin, AllUnitsWithin, IsSumOfUnits}
use Rattle.sum_laws.proofs.TermLists.{total-append}
use Rattle.sum_laws.proofs.Bounds.{Below, Below-le, Below-none, Below-add, unit_below, small_from}

-- ---- lists of units

units_more : (g h : ℕ) (xs : List Amp) → g ≤ h → AllUnitsWithin g xs → AllUnitsWithin h xs
units_more g h [] l u = tt
units_more g h (x ∷ xs) l u = (record { turns = u.0.turns; halvings = u.0.halvings; few = (let f = u.0.few in omega arith); is = u.0.is }, units_more g h xs l u.1)

units-append : (h : ℕ) (xs ys : List Amp) → AllUnitsWithin h xs → AllUnitsWithin h ys → AllUnitsWithin h (xs ++ ys)
units-append h [] ys u w = w
units-append h (x ∷ xs) ys u w = (u.0, units-append h xs ys u.1 w)

units-times : (h j g : ℕ) (xs : List Amp) → AllUnitsWithin h xs → AllUnitsWithin (h + g) (map (times j g) xs)
units-times h j g [] u = tt
units-times h j g (x ∷ xs) u = (
  record {
    turns = j + u.0.turns;
    halvings = u.0.halvings + g;
    few = (let f = u.0.few in omega arith);
    is = ap (times j g) u.0.is ∙ times_twice j u.0.turns g u.0.halvings one;
  },
  units-times h j g xs u.1,
)

total-times : (j g : ℕ) (xs : List Amp) → Same (times j g (total xs)) (total (map (times j g) xs))
unfolding total
total-times j g [] = Same-times_none j g
total-times j g (x ∷ xs) =
    Same-trans (times j g (plus x (total xs))) (plus (times j g x) (times j g (total xs))) (plus (times j g x) (total (map (times j g) xs)))
    (Same-equal (times j g (plus x (total xs))) (plus (times j g x) (times j g (total xs))) (times-plus j g x (total xs)))
    (Same-plus (times j g x) (times j g x) (times j g (total xs)) (total (map (times j g) xs)) (Same-refl (times j g x)) (total-times j g xs))

length-map : {X Y : Type 0} (f : X → Y) (xs : List X) → length (map f xs) ≡ length xs
length-map f [] = refl
length-map f (x ∷ xs) = ap suc (length-map f xs)

unit_power : (h : ℕ) (x : Amp) → IsUnitWithin h x → x.k ≤ h
unit_power h x u =
    let e : x.k ≡ 0 + u.halvings = ap (λ (y : Amp). y.k) u.is ∙ k-times u.turns u.halvings one in
    let f = u.few in
    omega arith

total_power : (h : ℕ) (xs : List Amp) → AllUnitsWithin h xs → (total xs).k ≤ h
unfolding total
total_power h [] u = omega arith
total_power h (x ∷ xs) u =
    let e = k-plus x (total xs) in
    let p = unit_power h x u.0 in
    let q = total_power h xs u.1 in
    omega arith

-- ---- the counts

pub sum_nothing : (h : ℕ) → IsSumOfUnits 0 h none
unfolding total
sum_nothing h = record { units = []; are_units = tt; few = omega arith; power = omega arith; same = Same-refl none }

pub sum_single : (turns halvings : ℕ) → IsSumOfUnits 1 halvings (times turns halvings one)
unfolding total
sum_single j g =
    let e : (times j g one).k ≡ 0 + g = k-times j g one in
    record {
      units = times j g one ∷ [];
      are_units = (record { turns = j; halvings = g; few = omega arith; is = refl }, tt);
      few = omega arith;
      power = omega arith;
      same = Same-sym (plus (times j g one) none) (times j g one) (Same-equal (plus (times j g one) none) (times j g one) (plus-none (times j g one)));
    }

pub sum_more : (m n g h : ℕ) (x : Amp) → m ≤ n → g ≤ h → IsSumOfUnits m g x → IsSumOfUnits n h x
sum_more m n g h x l k s = record {
  units = s.units;
  are_units = units_more g h s.units k s.are_units;
  few = (let f = s.few in omega arith);
  power = (let f = s.power in omega arith);
  same = s.same;
}

pub sum-plus : (m n h : ℕ) (x y : Amp) → IsSumOfUnits m h x → IsSumOfUnits n h y → IsSumOfUnits (m + n) h (plus x y)
sum-plus m n h x y s t = record {
  units = s.units ++ t.units;
  are_units = units-append h s.units t.units s.are_units t.are_units;
  few = (let e = length-append s.units t.units in let f = s.few in let g = t.few in omega arith);
  power = (let e = k-plus x y in let f = s.power in let g = t.power in omega arith);
  same =
      Same-trans (plus x y) (plus (total s.units) (total t.units)) (total (s.units ++ t.units)) (Same-plus x (total s.units) y (total t.units) s.same t.same)
      (Same-equal (plus (total s.units) (total t.units)) (total (s.units ++ t.units)) (sym (total-append s.units t.units)));
}

pub sum-times : (n h j g : ℕ) (x : Amp) → IsSumOfUnits n h x → IsSumOfUnits n (h + g) (times j g x)
sum-times n h j g x s = record {
  units = map (times j g) s.units;
  are_units = units-times h j g s.units s.are_units;
  few = (let e = length-map (times j g) s.units in let f = s.few in omega arith);
  power = (let e = k-times j g x in let f = s.power in omega arith);
  same = Same-trans (times j g x) (times j g (total s.units)) (total (map (times j g) s.units)) (Same-times j g x (total s.units) s.same) (total-times j g s.units);
}

pub sum_same : (n h : ℕ) (x y : Amp) → Same y x → y.k ≤ h → IsSumOfUnits n h x → IsSumOfUnits n h y
sum_same n h x y e l s = record { units = s.units; are_units = s.are_units; few = s.few; power = l; same = Same-trans y x (total s.units) e s.same }

pub sum_reduced : (n h : ℕ) (x y : Amp) → Same y x → IsReduced y → IsSumOfUnits n h x → IsSumOfUnits n h y
sum_reduced n h x y e r s =
    let p = s.power in
    let q : y.k ≤ x.k = r x (Same-sym y x e) in
    sum_same n h x y e (omega arith) s

-- ---- the size

-- what is below a bound after a product with root two was below it before
Below-root_two_back : (n : ℕ) (x : Numerator) → Below n (times_root_two x) → Below n x
unfolding times_root_two
Below-root_two_back n x p =
    let a = p.a in
    let b = p.b in
    let c = p.c in
    let d = p.d in
    record { a = (omega (arith, ints), omega (arith, ints)); b = (omega (arith, ints), omega (arith, ints)); c = (omega (arith, ints), omega (arith, ints)); d = (omega (arith, ints), omega (arith, ints)) }

Below-power_back : (j n : ℕ) (x : Numerator) → Below n (times_power_of_root_two j x) → Below n x
Below-power_back zero n x p = p
Below-power_back (suc j) n x p = Below-power_back j n x (Below-root_two_back n (times_power_of_root_two j x) p)

-- over root two^h each unit has coefficients below 2^27
total_below : (h : ℕ) (xs : List Amp) → h ≤ 50 → AllUnitsWithin h xs → Below (1 + length xs * 2 ^ 27) (scaled h (total xs))
unfolding total
total_below h [] l u = subst (Below (1 + 0 * 2 ^ 27)) (sym (scaled-none h)) (Below-le 1 (1 + 0 * 2 ^ 27) no_numerator (omega arith) Below-none)
total_below h (x ∷ xs) l u =
    let first : IsUnit x = record { turns = u.0.turns; halvings = u.0.halvings; few = (let f = u.0.few in omega arith); is = u.0.is } in
    subst (Below (1 + suc (length xs) * 2 ^ 27)) (sym (scaled-plus h x (total xs) (unit_power h x u.0) (total_power h xs u.1)))
    (Below-le (2 ^ 26 * 2 + (1 + length xs * 2 ^ 27)) (1 + suc (length xs) * 2 ^ 27) (add (scaled h x) (scaled h (total xs))) (omega arith)
    (Below-add (2 ^ 26 * 2) (1 + length xs * 2 ^ 27) (scaled h x) (scaled h (total xs)) (unit_below h x l first) (total_below h xs l u.1)))

unscaled : (h n : ℕ) (x : Amp) → Below n (scaled h x) → Below n (numerator x)
unfolding scaled
unscaled h n x p = Below-power_back (h - x.k) n (numerator x) p

pub sum_small : (n h : ℕ) (x : Amp) → n ≤ 2 ^ 50 → h ≤ 50 → IsSumOfUnits n h x → Small x
sum_small n h x l k s =
    let p = s.power in
    let f = s.few in
    let q : (total s.units).k ≤ h = total_power h s.units s.are_units in
    let e : scaled h x ≡ scaled h (total s.units) = Same-at h x (total s.units) (omega arith) q s.same in
    small_from x (omega arith)
    (Below-le (1 + length s.units * 2 ^ 27) (2 ^ 100) (numerator x) (omega arith)
    (unscaled h (1 + length s.units * 2 ^ 27) x (subst (Below (1 + length s.units * 2 ^ 27)) (sym e) (total_below h s.units k s.are_units))))
