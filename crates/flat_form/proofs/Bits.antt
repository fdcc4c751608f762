-- Values against their bits: their shape, their parts, and values with a part changed.
use Rattle.std.proofs.Common.{◌≡◌, ◌⊎◌, inl, inr, ℕ, suc, ◌+◌, ◌*◌, ◌≤◌, ◌<◌, List, [], ◌∷◌, ◌++◌, length, get_or, take, drop, ℤ, refl, sym, ap, ap₂, ◌∙◌, subst, arith}
use Rattle.std.specs.Prelude.{Bool, nat_abs, set, flat_map}
use Rattle.std.proofs.Math.Nat.{mul-le-mul_left}
use Rattle.std.proofs.Math.Seq.{take-nil, drop-nil}
use Rattle.std.proofs.lemmas.Bool.{cases_lt}
use Rattle.std.proofs.lemmas.List.{append-nil, take_all, drop_all, length-set}
use Rattle.silq_types.specs.declared.types.Scalar.{Scalar}
use Rattle.silq_types.specs.declared.types.Scalar.TheVariants as scalars
use Rattle.silq_types.specs.declared.types.Shape.{Shape}
use Rattle.silq_types.specs.declared.types.Shape.TheVariants.{Bit, UInt, Int, Array}
use Rattle.silq_types.specs.Types.{single_shape, scalar_bits, shape_bits}
use Rattle.silq_mean.specs.Value.{Value, whole, single, array, gone, modulus, bits_of, low_bits, with_digit, digit_part, part, with_digit_part, with_part, number_in}
use Rattle.flat_form.specs.Fine.{IndexFits}
use Rattle.flat_form.specs.State.{part_shape, part_start, part_of, with_part as with_bits_of_part}
use Rattle.flat_form.specs.Names.{AllOf}
use Rattle.flat_form.specs.Shows.{HasShape}
use Rattle.flat_form.proofs.Numbers.{low_length, low_one, modulus_pos}
use Rattle.flat_form.proofs.Pieces.{replaced, part_within, replaced_within}
use Rattle.flat_form.proofs.Digits.{digit_below, digit_bits, with_below, with_bits, items_length, item_at, item_set, no_items, item_below, set_all, items_one}

-- ---- shapes

pub shape_single : (k : Scalar) → shape_bits (single_shape k) ≡ scalar_bits k
shape_single scalars.Bit = refl
shape_single (scalars.UInt n) = refl
shape_single (scalars.Int n) = refl

pub single_one : (j k : Scalar) → single_shape j ≡ single_shape k → j ≡ k
single_one scalars.Bit scalars.Bit e = refl
single_one scalars.Bit (scalars.UInt m) e = cc
single_one scalars.Bit (scalars.Int m) e = cc
single_one (scalars.UInt n) scalars.Bit e = cc
single_one (scalars.UInt n) (scalars.UInt m) e = cc
single_one (scalars.UInt n) (scalars.Int m) e = cc
single_one (scalars.Int n) scalars.Bit e = cc
single_one (scalars.Int n) (scalars.UInt m) e = cc
single_one (scalars.Int n) (scalars.Int m) e = cc

pub single_not_array : (j k : Scalar) (n : ℕ) → single_shape j ≡ Array k n → ⊥
single_not_array scalars.Bit k n e = cc
single_not_array (scalars.UInt m) k n e = cc
single_not_array (scalars.Int m) k n e = cc

pub array_item : (j k : Scalar) (m n : ℕ) → Array j m ≡ Array k n → j ≡ k
array_item j k m n e = cc

pub array_length : (j k : Scalar) (m n : ℕ) → Array j m ≡ Array k n → m ≡ n
array_length j k m n e = cc

-- a value has as many bits as its type says
pub bits_length : (s : Shape) (w : Value) → HasShape s w → length (bits_of w) ≡ shape_bits s
bits_length s (whole z) h = absurd h
bits_length s gone h = absurd h
bits_length s (single k a) h = low_length (scalar_bits k) a ∙ (sym (shape_single k) ∙ ap shape_bits (sym h.0))
bits_length s (array k ns) h = items_length (scalar_bits k) ns ∙ ap shape_bits (sym h.0)

-- values of one type with the same bits are the same
pub value_one : (s : Shape) (v w : Value) → HasShape s v → HasShape s w → bits_of v ≡ bits_of w → v ≡ w
value_one s (whole z) w h g e = absurd h
value_one s gone w h g e = absurd h
value_one s (single k a) (whole z) h g e = absurd g
value_one s (single k a) gone h g e = absurd g
value_one s (single k a) (array j ns) h g e = absurd (single_not_array k j (length ns) (sym h.0 ∙ g.0))
value_one s (single k a) (single j b) h g e =
    let p : k ≡ j = single_one k j (sym h.0 ∙ g.0) in
    ap₂ single p (low_one (scalar_bits k) a b h.1 (subst (λ i. b < modulus i) (sym p) g.1) (e ∙ ap (λ i. low_bits (scalar_bits i) b) (sym p)))
value_one s (array k ns) (whole z) h g e = absurd g
value_one s (array k ns) gone h g e = absurd g
value_one s (array k ns) (single j b) h g e = absurd (single_not_array j k (length ns) (sym g.0 ∙ h.0))
value_one s (array k ns) (array j ms) h g e =
    let p : k ≡ j = array_item k j (length ns) (length ms) (sym h.0 ∙ g.0) in
    let l : length ns ≡ length ms = array_length k j (length ns) (length ms) (sym h.0 ∙ g.0) in
    ap₂ array p (items_one (scalar_bits k) ns ms l h.1 (subst (λ i. AllOf (λ n. n < modulus i) ms) (sym p) g.1) (e ∙ ap (λ i. flat_map (low_bits (scalar_bits i)) ms) (sym p)))

-- a value of a single type is its number
pub number_is : (k : Scalar) (x : Value) → HasShape (single_shape k) x → x ≡ single k (number_in x)
number_is k (whole z) h = absurd h
number_is k gone h = absurd h
number_is k (array j ns) h = absurd (single_not_array k j (length ns) h.0)
number_is k (single j b) h = ap (λ i. single i b) (sym (single_one k j h.0))

pub number_fits : (k : Scalar) (x : Value) → HasShape (single_shape k) x → number_in x < modulus k
number_fits k (whole z) h = absurd h
number_fits k gone h = absurd h
number_fits k (array j ns) h = absurd (single_not_array k j (length ns) h.0)
number_fits k (single j b) h = subst (λ i. b < modulus i) (sym (single_one k j h.0)) h.1

pub number_bits : (k : Scalar) (x : Value) → HasShape (single_shape k) x → bits_of x ≡ low_bits (scalar_bits k) (number_in x)
number_bits k x h = ap bits_of (number_is k x h)

-- ---- parts

-- indices lead to a part of each value of a type
pub record IsThere (s : Shape) (is : List ℤ) : Type 0 where
  pub within : part_start s is + shape_bits (part_shape s is) ≤ shape_bits s
  pub fits : IndexFits s is

pub whole_start : (s : Shape) → part_start s [] ≡ 0
whole_start Bit = refl
whole_start (UInt n) = refl
whole_start (Int n) = refl
whole_start (Array k n) = refl

pub whole_there : (s : Shape) → IsThere s []
whole_there s = record { within = let e : part_start s [] ≡ 0 = whole_start s in omega (arith, e); fits = whole_fits s }
  where
    whole_fits : (r : Shape) → IndexFits r []
    whole_fits Bit = tt
    whole_fits (UInt n) = tt
    whole_fits (Int n) = tt
    whole_fits (Array k n) = tt

digit_shape : (k : Scalar) (i : ℤ) (is : List ℤ) → part_shape (single_shape k) (i ∷ is) ≡ Bit
digit_shape scalars.Bit i [] = refl
digit_shape scalars.Bit i (j ∷ is) = refl
digit_shape (scalars.UInt n) i [] = refl
digit_shape (scalars.UInt n) i (j ∷ is) = refl
digit_shape (scalars.Int n) i [] = refl
digit_shape (scalars.Int n) i (j ∷ is) = refl

digit_start : (k : Scalar) (i : ℤ) (is : List ℤ) → part_start (single_shape k) (i ∷ is) ≡ nat_abs i
digit_start scalars.Bit i is = refl
digit_start (scalars.UInt n) i is = refl
digit_start (scalars.Int n) i is = refl

digit_there : (k : Scalar) (i : ℤ) (is : List ℤ) → IsThere (single_shape k) (i ∷ is) → nat_abs i < scalar_bits k
digit_there k i is t =
    let a : part_start (single_shape k) (i ∷ is) ≡ nat_abs i = digit_start k i is in
    let b : shape_bits (part_shape (single_shape k) (i ∷ is)) ≡ 1 = ap shape_bits (digit_shape k i is) in
    let c : shape_bits (single_shape k) ≡ scalar_bits k = shape_single k in
    let w = t.within in
    omega (arith, a, b, c, w)

whole_part : {A : Type 0} (s : Shape) (xs : List A) → length xs ≡ shape_bits s → part_of s [] xs ≡ xs
whole_part s xs l = ap (λ n. take (shape_bits s) (drop n xs)) (whole_start s) ∙ take_all (shape_bits s) xs (omega (arith, l))

whole_with : {A : Type 0} (s : Shape) (xs new : List A) → length xs ≡ shape_bits s → with_bits_of_part s [] xs new ≡ new
whole_with s xs new l =
    ap (λ n. take n xs ++ (new ++ drop (n + shape_bits s) xs)) (whole_start s)
    ∙ (ap (λ zs. new ++ zs) (drop_all (0 + shape_bits s) xs (omega (arith, l))) ∙ append-nil new)

-- with items beyond the array's end there are no bits
no_width : (i w n : ℕ) → i * w + w ≤ w * n → n ≤ i → w ≡ 0
no_width i w n h l = let m : w * n ≤ w * i = mul-le-mul_left w l in omega (arith, m, h)

item_there : (i w n j : ℕ) → i * w + j + 1 ≤ w * n → i < n
item_there i w n j h = elim (cases_lt i n) [ inl l ↦ l | inr l ↦ (let m : w * n ≤ w * i = mul-le-mul_left w l in absurd (omega (arith, m, h))) ]

item_within : (i w n : ℕ) → i < n → i * w + w ≤ w * n
item_within i w n l =
    let m : w * suc i ≤ w * n = mul-le-mul_left w l in omega (arith, m)

no_low : (w a st : ℕ) (xs : List Bool) → w ≡ 0 → low_bits w a ≡ take w (drop st xs)
no_low w a st xs e = subst (λ n. low_bits n a ≡ take n (drop st xs)) (sym e) refl

single_holds : (k : Scalar) (a : ℕ) (is : List ℤ) → a < modulus k → HasShape (part_shape (single_shape k) is) (digit_part k a is)
single_holds k a [] l = (refl, l)
single_holds k a (i ∷ is) l = (digit_shape k i is, digit_below (nat_abs i) a)

single_part : (k : Scalar) (a : ℕ) (is : List ℤ) → IsThere (single_shape k) is → bits_of (digit_part k a is) ≡ part_of (single_shape k) is (low_bits (scalar_bits k) a)
single_part k a [] t = sym (whole_part (single_shape k) (low_bits (scalar_bits k) a) (low_length (scalar_bits k) a ∙ sym (shape_single k)))
single_part k a (i ∷ is) t =
    digit_bits (scalar_bits k) a (nat_abs i) (digit_there k i is t)
    ∙ ap₂ (λ m n. take m (drop n (low_bits (scalar_bits k) a))) (sym (ap shape_bits (digit_shape k i is))) (sym (digit_start k i is))

array_holds : (k : Scalar) (ns : List ℕ) (is : List ℤ) → AllOf (λ n. n < modulus k) ns → HasShape (part_shape (Array k (length ns)) is) (part (array k ns) is)
array_holds k ns [] h = (refl, h)
array_holds k ns (i ∷ []) h = (refl, item_below (modulus k) ns (nat_abs i) (modulus_pos k) h)
array_holds k ns (i ∷ j ∷ is) h = (refl, digit_below (nat_abs j) (get_or ns (nat_abs i) 0))

array_part : (k : Scalar) (ns : List ℕ) (is : List ℤ) → IsThere (Array k (length ns)) is → bits_of (part (array k ns) is) ≡ part_of (Array k (length ns)) is (flat_map (low_bits (scalar_bits k)) ns)
array_part k ns [] t = sym (whole_part (Array k (length ns)) (flat_map (low_bits (scalar_bits k)) ns) (items_length (scalar_bits k) ns))
array_part k ns (i ∷ []) t =
    let w = t.within in
    let e : nat_abs i * scalar_bits k + 0 ≡ nat_abs i * scalar_bits k = omega arith in
    let s : shape_bits (single_shape k) ≡ scalar_bits k = shape_single k in
    pick (cases_lt (nat_abs i) (length ns)) (omega (arith, w, e, s))
    ∙ ap₂ (λ m n. take m (drop n (flat_map (low_bits (scalar_bits k)) ns))) (sym s) (sym e)
  where
    pick : (nat_abs i < length ns) ⊎ (length ns ≤ nat_abs i) → nat_abs i * scalar_bits k + scalar_bits k ≤ scalar_bits k * length ns → low_bits (scalar_bits k) (get_or ns (nat_abs i) 0) ≡ take (scalar_bits k) (drop (nat_abs i * scalar_bits k) (flat_map (low_bits (scalar_bits k)) ns))
    pick (inl l) m = sym (item_at (scalar_bits k) ns (nat_abs i) l)
    pick (inr l) m = no_low (scalar_bits k) (get_or ns (nat_abs i) 0) (nat_abs i * scalar_bits k) (flat_map (low_bits (scalar_bits k)) ns) (no_width (nat_abs i) (scalar_bits k) (length ns) m l)
array_part k ns (i ∷ j ∷ is) t =
    let w = t.within in
    let f : nat_abs j < scalar_bits k = t.fits in
    let l : nat_abs i < length ns = item_there (nat_abs i) (scalar_bits k) (length ns) (nat_abs j) w in
    let b : nat_abs i * scalar_bits k + scalar_bits k ≤ scalar_bits k * length ns = item_within (nat_abs i) (scalar_bits k) (length ns) l in
    let c : length (flat_map (low_bits (scalar_bits k)) ns) ≡ scalar_bits k * length ns = items_length (scalar_bits k) ns in
    digit_bits (scalar_bits k) (get_or ns (nat_abs i) 0) (nat_abs j) f
    ∙ (ap (λ bs. take 1 (drop (nat_abs j) bs)) (sym (item_at (scalar_bits k) ns (nat_abs i) l))
    ∙ sym (part_within (nat_abs i * scalar_bits k) (scalar_bits k) (nat_abs j) 1 (flat_map (low_bits (scalar_bits k)) ns) (omega (arith, b, c)) (omega (arith, f))))

-- a part of a value has the part's type
pub part_holds : (s : Shape) (w : Value) (is : List ℤ) → HasShape s w → HasShape (part_shape s is) (part w is)
part_holds s (whole z) is h = absurd h
part_holds s gone is h = absurd h
part_holds s (single k a) is h = subst (λ r. HasShape (part_shape r is) (digit_part k a is)) (sym h.0) (single_holds k a is h.1)
part_holds s (array k ns) is h = subst (λ r. HasShape (part_shape r is) (part (array k ns) is)) (sym h.0) (array_holds k ns is h.1)

-- its bits are a part of the value's bits
pub part_bits : (s : Shape) (w : Value) (is : List ℤ) → HasShape s w → IsThere s is → bits_of (part w is) ≡ part_of s is (bits_of w)
part_bits s (whole z) is h t = absurd h
part_bits s gone is h t = absurd h
part_bits s (single k a) is h t = subst (λ r. IsThere r is → bits_of (digit_part k a is) ≡ part_of r is (low_bits (scalar_bits k) a)) (sym h.0) (single_part k a is) t
part_bits s (array k ns) is h t = subst (λ r. IsThere r is → bits_of (part (array k ns) is) ≡ part_of r is (flat_map (low_bits (scalar_bits k)) ns)) (sym h.0) (array_part k ns is) t

-- ---- a part changed

with_single_holds : (k : Scalar) (a : ℕ) (i : ℤ) (is : List ℤ) (x : Value) → a < modulus k → IsThere (single_shape k) (i ∷ is) → HasShape Bit x → with_digit (nat_abs i) a (number_in x) < modulus k
with_single_holds k a i is x l t g = with_below (scalar_bits k) a (nat_abs i) (number_in x) (digit_there k i is t) (number_fits scalars.Bit x g) l

with_single_bits : (k : Scalar) (a : ℕ) (i : ℤ) (is : List ℤ) (x : Value) → IsThere (single_shape k) (i ∷ is) → HasShape Bit x → low_bits (scalar_bits k) (with_digit (nat_abs i) a (number_in x)) ≡ with_bits_of_part (single_shape k) (i ∷ is) (low_bits (scalar_bits k) a) (bits_of x)
with_single_bits k a i is x t g =
    with_bits (scalar_bits k) a (nat_abs i) (number_in x) (digit_there k i is t) (number_fits scalars.Bit x g)
    ∙ (ap (replaced (nat_abs i) 1 (low_bits (scalar_bits k) a)) (sym (number_bits scalars.Bit x g))
    ∙ ap₂ (λ m n. replaced m n (low_bits (scalar_bits k) a) (bits_of x)) (sym (digit_start k i is)) (sym (ap shape_bits (digit_shape k i is))))

with_array_holds : (k : Scalar) (ns : List ℕ) (i : ℤ) (is : List ℤ) (x : Value) → AllOf (λ n. n < modulus k) ns → IsThere (Array k (length ns)) (i ∷ is) → HasShape (part_shape (Array k (length ns)) (i ∷ is)) x → with_digit_part (get_or ns (nat_abs i) 0) is (number_in x) < modulus k
with_array_holds k ns i [] x h t g = number_fits k x g
with_array_holds k ns i (j ∷ is) x h t g =
    with_below (scalar_bits k) (get_or ns (nat_abs i) 0) (nat_abs j) (number_in x) t.fits (number_fits scalars.Bit x g) (item_below (modulus k) ns (nat_abs i) (modulus_pos k) h)

with_array_bits : (k : Scalar) (ns : List ℕ) (i : ℤ) (is : List ℤ) (x : Value) → IsThere (Array k (length ns)) (i ∷ is) → HasShape (part_shape (Array k (length ns)) (i ∷ is)) x
    → flat_map (low_bits (scalar_bits k)) (set ns (nat_abs i) (with_digit_part (get_or ns (nat_abs i) 0) is (number_in x))) ≡ with_bits_of_part (Array k (length ns)) (i ∷ is) (flat_map (low_bits (scalar_bits k)) ns) (bits_of x)
with_array_bits k ns i [] x t g =
    let w = t.within in
    let e : nat_abs i * scalar_bits k + 0 ≡ nat_abs i * scalar_bits k = omega arith in
    let s : shape_bits (single_shape k) ≡ scalar_bits k = shape_single k in
    pick (cases_lt (nat_abs i) (length ns)) (omega (arith, w, e, s))
    ∙ (ap (replaced (nat_abs i * scalar_bits k) (scalar_bits k) (flat_map (low_bits (scalar_bits k)) ns)) (sym (number_bits k x g))
    ∙ ap₂ (λ m n. replaced m n (flat_map (low_bits (scalar_bits k)) ns) (bits_of x)) (sym e) (sym s))
  where
    pick : (nat_abs i < length ns) ⊎ (length ns ≤ nat_abs i) → nat_abs i * scalar_bits k + scalar_bits k ≤ scalar_bits k * length ns
        → flat_map (low_bits (scalar_bits k)) (set ns (nat_abs i) (number_in x)) ≡ replaced (nat_abs i * scalar_bits k) (scalar_bits k) (flat_map (low_bits (scalar_bits k)) ns) (low_bits (scalar_bits k) (number_in x))
    pick (inl l) m = item_set (scalar_bits k) ns (nat_abs i) (number_in x) l
    pick (inr l) m = none (scalar_bits k) (set ns (nat_abs i) (number_in x)) (nat_abs i * scalar_bits k) (no_width (nat_abs i) (scalar_bits k) (length ns) m l)
      where
        none : (w : ℕ) (ms : List ℕ) (st : ℕ) → w ≡ 0 → flat_map (low_bits w) ms ≡ replaced st w (flat_map (low_bits w) ns) (low_bits w (number_in x))
        none w ms st e =
            subst (λ n. flat_map (low_bits n) ms ≡ replaced st n (flat_map (low_bits n) ns) (low_bits n (number_in x))) (sym e)
            (no_items ms ∙ sym (ap (λ bs. take st bs ++ drop (st + 0) bs) (no_items ns) ∙ ap₂ ◌++◌ (take-nil st) (drop-nil (st + 0))))
with_array_bits k ns i (j ∷ is) x t g =
    let w = t.within in
    let f : nat_abs j < scalar_bits k = t.fits in
    let l : nat_abs i < length ns = item_there (nat_abs i) (scalar_bits k) (length ns) (nat_abs j) w in
    let b : nat_abs i * scalar_bits k + scalar_bits k ≤ scalar_bits k * length ns = item_within (nat_abs i) (scalar_bits k) (length ns) l in
    let c : length (flat_map (low_bits (scalar_bits k)) ns) ≡ scalar_bits k * length ns = items_length (scalar_bits k) ns in
    let a : ℕ = get_or ns (nat_abs i) 0 in
    item_set (scalar_bits k) ns (nat_abs i) (with_digit (nat_abs j) a (number_in x)) l
    ∙ (ap (replaced (nat_abs i * scalar_bits k) (scalar_bits k) (flat_map (low_bits (scalar_bits k)) ns))
    (with_bits (scalar_bits k) a (nat_abs j) (number_in x) f (number_fits scalars.Bit x g)
    ∙ ap₂ (replaced (nat_abs j) 1) (sym (item_at (scalar_bits k) ns (nat_abs i) l)) (sym (number_bits scalars.Bit x g)))
    ∙ replaced_within (nat_abs i * scalar_bits k) (scalar_bits k) (nat_abs j) 1 (flat_map (low_bits (scalar_bits k)) ns) (bits_of x) (omega (arith, b, c)) (omega (arith, f)))

-- a value with its part changed is of its type
pub with_holds : (s : Shape) (w : Value) (is : List ℤ) (x : Value) → HasShape s w → IsThere s is → HasShape (part_shape s is) x → HasShape s (with_part w is x)
with_holds s w [] x h t g = g
with_holds s (whole z) (i ∷ is) x h t g = absurd h
with_holds s gone (i ∷ is) x h t g = absurd h
with_holds s (single k a) (i ∷ is) x h t g = (h.0, with_single_holds k a i is x h.1 (subst (λ r. IsThere r (i ∷ is)) h.0 t) (subst (λ r. HasShape r x) (ap (λ r. part_shape r (i ∷ is)) h.0 ∙ digit_shape k i is) g))
with_holds s (array k ns) (i ∷ is) x h t g =
    let v : ℕ = with_digit_part (get_or ns (nat_abs i) 0) is (number_in x) in (
      h.0 ∙ ap (Array k) (sym (length-set ns (nat_abs i) v)),
      set_all (λ n. n < modulus k) ns (nat_abs i) v (with_array_holds k ns i is x h.1 (subst (λ r. IsThere r (i ∷ is)) h.0 t) (subst (λ r. HasShape (part_shape r (i ∷ is)) x) h.0 g)) h.1,
    )

-- its bits are the value's, with the part's in their place
pub with_bits_is : (s : Shape) (w : Value) (is : List ℤ) (x : Value) → HasShape s w → IsThere s is → HasShape (part_shape s is) x → bits_of (with_part w is x) ≡ with_bits_of_part s is (bits_of w) (bits_of x)
with_bits_is s w [] x h t g = sym (whole_with s (bits_of w) (bits_of x) (bits_length s w h))
with_bits_is s (whole z) (i ∷ is) x h t g = absurd h
with_bits_is s gone (i ∷ is) x h t g = absurd h
with_bits_is s (single k a) (i ∷ is) x h t g =
    with_single_bits k a i is x (subst (λ r. IsThere r (i ∷ is)) h.0 t) (subst (λ r. HasShape r x) (ap (λ r. part_shape r (i ∷ is)) h.0 ∙ digit_shape k i is) g)
    ∙ ap (λ r. with_bits_of_part r (i ∷ is) (low_bits (scalar_bits k) a) (bits_of x)) (sym h.0)
with_bits_is s (array k ns) (i ∷ is) x h t g =
    with_array_bits k ns i is x (subst (λ r. IsThere r (i ∷ is)) h.0 t) (subst (λ r. HasShape (part_shape r (i ∷ is)) x) h.0 g)
    ∙ ap (λ r. with_bits_of_part r (i ∷ is) (flat_map (low_bits (scalar_bits k)) ns) (bits_of x)) (sym h.0)
