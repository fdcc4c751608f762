-- Parts of one value that do not overlap share no bit.
use Rattle.std.proofs.Common.{◌≡◌, ◌⊎◌, inl, inr, ℕ, suc, ◌+◌, ◌-◌, ◌*◌, ◌≤◌, ◌<◌, Bool, true, false, cond, ◌&&◌, List, [], ◌∷◌, ◌++◌, take, drop, refl, sym, ap, ◌∙◌, subst, arith}
use Rattle.std.specs.Prelude.{Option, Some, None, ℤ, pos, negsuc, nat_abs}
use Rattle.std.specs.Ordering.{int_eq}
use Rattle.std.proofs.lemmas.Bool.{cases_lt, ltb-true}
use Rattle.std.proofs.lemmas.Bool.Decides.{Decides-int_eq}
use Rattle.std.proofs.lemmas.List.{drop-drop, take-append-drop}
use Rattle.std.proofs.Math.Nat.{mul-le-mul_right, suc-mul}
use Rattle.silq_types.specs.declared.types.Scalar.{Scalar}
use Rattle.silq_types.specs.declared.types.Scalar.TheVariants as scalars
use Rattle.silq_types.specs.declared.types.Shape.{Shape}
use Rattle.silq_types.specs.declared.types.Shape.TheVariants.{Bit, UInt, Int, Array}
use Rattle.silq_types.specs.declared.types.Ty.{Ty}
use Rattle.silq_types.specs.Types.{scalar_bits, shape_bits}
use Rattle.check_scope.specs.Context.{is_prefix, is_below, typed_as, bit_at, scalar_part, part_type}
use Rattle.flat_core.specs.declared.step.WireId.{WireId}
use Rattle.bit_arith.specs.declared.operand.Operand.{Operand}
use Rattle.flat_form.specs.State.{outside, part_shape, part_start, bit_start, part_of, with_part}
use Rattle.flat_form.specs.Names.{named_by}
use Rattle.flat_form.proofs.Bits.{shape_single}
use Rattle.flat_form.proofs.Pieces.{split_at}
use Rattle.flat_typed.specs.Places.{times_in}
use Rattle.flat_typed.proofs.Ordered.{clash}

-- ---- how often a wire stands in pieces of a list

pub times_append : (w : WireId) (ps qs : List Operand) → times_in w (ps ++ qs) ≡ times_in w ps + times_in w qs
times_append w [] qs = omega arith
times_append w (p ∷ ps) qs = go (named_by w p) (times_append w ps qs)
  where
    go : (t : Bool) → times_in w (ps ++ qs) ≡ times_in w ps + times_in w qs → cond t (suc (times_in w (ps ++ qs))) (times_in w (ps ++ qs)) ≡ cond t (suc (times_in w ps)) (times_in w ps) + times_in w qs
    go true h = omega (arith, h)
    go false h = h

pub times_split : (w : WireId) (n : ℕ) (ps : List Operand) → times_in w (take n ps) + times_in w (drop n ps) ≡ times_in w ps
times_split w n ps = sym (times_append w (take n ps) (drop n ps)) ∙ ap (times_in w) (take-append-drop n ps)

-- a span, and what stands behind its end
pub span_and_rest : (w : WireId) (a m b : ℕ) (ps : List Operand) → a + m ≤ b → times_in w (take m (drop a ps)) + times_in w (drop b ps) ≤ times_in w ps
span_and_rest w a m b ps h =
    let k : (a + m) + (b - (a + m)) ≡ b = omega (arith, h) in
    let last : drop (b - (a + m)) (drop (a + m) ps) ≡ drop b ps = drop-drop (b - (a + m)) (a + m) ps ∙ ap (λ n. drop n ps) k in
    let e1 = times_split w m (drop a ps) in
    let e2 : times_in w (drop m (drop a ps)) ≡ times_in w (drop (a + m) ps) = ap (times_in w) (drop-drop m a ps) in
    let e3 = times_split w (b - (a + m)) (drop (a + m) ps) in
    let e4 : times_in w (drop (b - (a + m)) (drop (a + m) ps)) ≡ times_in w (drop b ps) = ap (times_in w) last in
    let e5 = times_split w a ps in
    omega (arith, e1, e2, e3, e4, e5)

-- two spans, the second behind the first
pub two_spans : (w : WireId) (a m b n : ℕ) (ps : List Operand) → a + m ≤ b → times_in w (take m (drop a ps)) + times_in w (take n (drop b ps)) ≤ times_in w ps
two_spans w a m b n ps h =
    let e1 = span_and_rest w a m b ps h in
    let e2 = times_split w n (drop b ps) in
    omega (arith, e1, e2)

-- a span and what stands outside it make the whole
pub span_and_outside : (w : WireId) (a m : ℕ) (ps : List Operand) → times_in w (take m (drop a ps)) + times_in w (outside a m ps) ≡ times_in w ps
span_and_outside w a m ps =
    let e1 = times_append w (take a ps) (drop (a + m) ps) in
    let e2 = times_split w a ps in
    let e3 = times_split w m (drop a ps) in
    let e4 : times_in w (drop m (drop a ps)) ≡ times_in w (drop (a + m) ps) = ap (times_in w) (drop-drop m a ps) in
    omega (arith, e1, e2, e3, e4)

-- ---- parts that lie apart

-- the second part begins where the first ends, or later
abbrev pub Behind : Shape → List ℤ → List ℤ → Type 0
Behind s is js = part_start s is + shape_bits (part_shape s is) ≤ part_start s js

abbrev pub Apart : Shape → List ℤ → List ℤ → Type 0
Apart s is js = Behind s is js ⊎ Behind s js is

pub apart_swap : (s : Shape) (is js : List ℤ) → Apart s is js → Apart s js is
apart_swap s is js (inl h) = inr h
apart_swap s is js (inr h) = inl h

-- together they have no wire more often than the whole
pub parts_apart : (w : WireId) (s : Shape) (is js : List ℤ) (ps : List Operand) → Apart s is js → times_in w (part_of s is ps) + times_in w (part_of s js ps) ≤ times_in w ps
parts_apart w s is js ps (inl h) = two_spans w (part_start s is) (shape_bits (part_shape s is)) (part_start s js) (shape_bits (part_shape s js)) ps h
parts_apart w s is js ps (inr h) = let a = two_spans w (part_start s js) (shape_bits (part_shape s js)) (part_start s is) (shape_bits (part_shape s is)) ps h in omega (arith, a)

pub part_and_outside : (w : WireId) (s : Shape) (is : List ℤ) (ps : List Operand) → times_in w (part_of s is ps) + times_in w (outside (part_start s is) (shape_bits (part_shape s is)) ps) ≡ times_in w ps
part_and_outside w s is ps = span_and_outside w (part_start s is) (shape_bits (part_shape s is)) ps

pub part_at_most : (w : WireId) (s : Shape) (is : List ℤ) (ps : List Operand) → times_in w (part_of s is ps) ≤ times_in w ps
part_at_most w s is ps = let a = part_and_outside w s is ps in omega (arith, a)

-- a part that lies apart from another stands outside that one
pub part_is_outside : (w : WireId) (s : Shape) (is js : List ℤ) (ps : List Operand) → Apart s is js → times_in w (part_of s is ps) ≤ times_in w (outside (part_start s js) (shape_bits (part_shape s js)) ps)
part_is_outside w s is js ps h = let a = parts_apart w s is js ps h in let b = part_and_outside w s js ps in omega (arith, a, b)

-- a part that is put back where it was
pub put_back_same : {A : Type 0} (s : Shape) (is : List ℤ) (xs : List A) → with_part s is xs (part_of s is xs) ≡ xs
put_back_same s is xs = sym (split_at (part_start s is) (shape_bits (part_shape s is)) xs)

-- ---- which parts lie apart

numbers_differ : (i j : ℤ) (n m : ℕ) → is_below i n ≡ true → is_below j m ≡ true → int_eq i j ≡ false → (nat_abs i + 1 ≤ nat_abs j) ⊎ (nat_abs j + 1 ≤ nat_abs i)
numbers_differ (negsuc i) j n m p q e = clash (sym p)
numbers_differ (pos a) (negsuc j) n m p q e = clash (sym q)
numbers_differ (pos a) (pos b) n m p q e = go (cases_lt a b) (cases_lt b a)
  where
    go : (a < b) ⊎ (b ≤ a) → (b < a) ⊎ (a ≤ b) → (a + 1 ≤ b) ⊎ (b + 1 ≤ a)
    go (inl l) r = inl (omega (arith, l))
    go (inr l) (inl r) = inr (omega (arith, r))
    go (inr l) (inr r) = clash (sym ((Decides-int_eq (pos a) (pos b)).1 (ap (λ (k : ℕ). pos k) (omega (arith, l, r)))) ∙ e)

below_size : (i : ℤ) (n : ℕ) → is_below i n ≡ true → nat_abs i < n
below_size (pos a) n e = ltb-true a n e
below_size (negsuc a) n e = clash (sym e)

is_then : (t : Bool) (o : Option Ty) (u : Ty) → cond t o None ≡ Some u → t ≡ true
is_then true o u e = refl
is_then false o u e = absurd (grind (arith, e))

gives_then : (t : Bool) (o : Option Ty) (u : Ty) → cond t o None ≡ Some u → o ≡ Some u
gives_then true o u e = e
gives_then false o u e = absurd (grind (arith, e))

no_more : (c : Bool) (s : Shape) (is : List ℤ) (t : Ty) → typed_as c s is ≡ Some t → is ≡ []
no_more c s [] t e = refl
no_more c s (i ∷ is) t e = absurd (grind (arith, e))

-- two bits of a number
bits_differ : (c : Bool) (n : ℕ) (i j : ℤ) (is js : List ℤ) (t u : Ty) → bit_at c n i is ≡ Some t → bit_at c n j js ≡ Some u → is_prefix (i ∷ is) (j ∷ js) ≡ false → (nat_abs i + 1 ≤ nat_abs j) ⊎ (nat_abs j + 1 ≤ nat_abs i)
bits_differ c n i j is js t u e f p =
    numbers_differ i j n n (is_then (is_below i n) (typed_as c Bit is) t e) (is_then (is_below j n) (typed_as c Bit js) u f)
    (go (int_eq i j) (ap (λ l. int_eq i j && is_prefix l js) (sym (no_more c Bit is t (gives_then (is_below i n) (typed_as c Bit is) t e))) ∙ p))
  where
    go : (t : Bool) → (t && true) ≡ false → t ≡ false
    go true h = h
    go false h = refl

number_apart : (c : Bool) (n : ℕ) (i j : ℤ) (is js : List ℤ) (t u : Ty) → bit_at c n i is ≡ Some t → bit_at c n j js ≡ Some u → is_prefix (i ∷ is) (j ∷ js) ≡ false → (bit_start (i ∷ is) + 1 ≤ bit_start (j ∷ js)) ⊎ (bit_start (j ∷ js) + 1 ≤ bit_start (i ∷ is))
number_apart c n i j is js t u e f p = bits_differ c n i j is js t u e f p

-- a part of an item ends within it
item_within : (c : Bool) (k : Scalar) (n : ℕ) (i : ℤ) (is : List ℤ) (t : Ty) → scalar_part c k is ≡ Some t → bit_start is + shape_bits (part_shape (Array k n) (i ∷ is)) ≤ scalar_bits k
item_within c k n i [] t e = let a = shape_single k in omega (arith, a)
item_within c scalars.Bit n i (j ∷ js) t e = absurd (grind (arith, e))
item_within c (scalars.UInt m) n i (j ∷ js) t e = let a = below_size j m (is_then (is_below j m) (typed_as c Bit js) t e) in omega (arith, a)
item_within c (scalars.Int m) n i (j ∷ js) t e = let a = below_size j m (is_then (is_below j m) (typed_as c Bit js) t e) in omega (arith, a)

-- the items before the j-th
items_before : (a b k : ℕ) → a + 1 ≤ b → a * k + k ≤ b * k
items_before a b k h = let e = mul-le-mul_right {m = suc a} {n = b} k (omega (arith, h)) in let f = suc-mul a k in omega (arith, e, f)

-- two parts of one item
within_item : (c : Bool) (k : Scalar) (n : ℕ) (i : ℤ) (is js : List ℤ) (t u : Ty) → scalar_part c k is ≡ Some t → scalar_part c k js ≡ Some u → is_prefix is js ≡ false → is_prefix js is ≡ false → Apart (Array k n) (i ∷ is) (i ∷ js)
within_item c k n i [] js t u e f p q = clash p
within_item c k n i (a ∷ is) [] t u e f p q = clash q
within_item c scalars.Bit n i (a ∷ is) (b ∷ js) t u e f p q = absurd (grind (arith, e))
within_item c (scalars.UInt m) n i (a ∷ is) (b ∷ js) t u e f p q = go (bits_differ c m a b is js t u e f p)
  where
    go : (nat_abs a + 1 ≤ nat_abs b) ⊎ (nat_abs b + 1 ≤ nat_abs a) → Apart (Array (scalars.UInt m) n) (i ∷ (a ∷ is)) (i ∷ (b ∷ js))
    go (inl h) = inl (omega (arith, h))
    go (inr h) = inr (omega (arith, h))
within_item c (scalars.Int m) n i (a ∷ is) (b ∷ js) t u e f p q = go (bits_differ c m a b is js t u e f p)
  where
    go : (nat_abs a + 1 ≤ nat_abs b) ⊎ (nat_abs b + 1 ≤ nat_abs a) → Apart (Array (scalars.Int m) n) (i ∷ (a ∷ is)) (i ∷ (b ∷ js))
    go (inl h) = inl (omega (arith, h))
    go (inr h) = inr (omega (arith, h))

array_apart : (c : Bool) (k : Scalar) (n : ℕ) (i j : ℤ) (is js : List ℤ) (t u : Ty) → cond (is_below i n) (scalar_part c k is) None ≡ Some t → cond (is_below j n) (scalar_part c k js) None ≡ Some u
    → is_prefix (i ∷ is) (j ∷ js) ≡ false → is_prefix (j ∷ js) (i ∷ is) ≡ false → Apart (Array k n) (i ∷ is) (j ∷ js)
array_apart c k n i j is js t u e f p q = go (int_eq i j) refl
  where
    here : scalar_part c k is ≡ Some t
    here = gives_then (is_below i n) (scalar_part c k is) t e

    there : scalar_part c k js ≡ Some u
    there = gives_then (is_below j n) (scalar_part c k js) u f

    items : (nat_abs i + 1 ≤ nat_abs j) ⊎ (nat_abs j + 1 ≤ nat_abs i) → Apart (Array k n) (i ∷ is) (j ∷ js)
    items (inl h) = let a = items_before (nat_abs i) (nat_abs j) (scalar_bits k) h in let b = item_within c k n i is t here in inl (omega (arith, a, b))
    items (inr h) = let a = items_before (nat_abs j) (nat_abs i) (scalar_bits k) h in let b = item_within c k n j js u there in inr (omega (arith, a, b))

    same : i ≡ j → int_eq i j ≡ true → Apart (Array k n) (i ∷ is) (j ∷ js)
    same d g =
        subst (λ (z : ℤ). Apart (Array k n) (i ∷ is) (z ∷ js)) d
        (within_item c k n i is js t u here there (ap (λ b. b && is_prefix is js) (sym g) ∙ p) (ap (λ b. b && is_prefix js is) (sym ((Decides-int_eq j i).1 (sym d))) ∙ q))

    go : (b : Bool) → int_eq i j ≡ b → Apart (Array k n) (i ∷ is) (j ∷ js)
    go true g = same ((Decides-int_eq i j).0 g) g
    go false g = items (numbers_differ i j n n (is_then (is_below i n) (scalar_part c k is) t e) (is_then (is_below j n) (scalar_part c k js) u f) g)

-- parts of a type, neither within the other
pub lie_apart : (c : Bool) (s : Shape) (is js : List ℤ) (t u : Ty) → part_type c s is ≡ Some t → part_type c s js ≡ Some u → is_prefix is js ≡ false → is_prefix js is ≡ false → Apart s is js
lie_apart c s [] js t u e f p q = clash p
lie_apart c s (i ∷ is) [] t u e f p q = clash q
lie_apart c Bit (i ∷ is) (j ∷ js) t u e f p q = absurd (grind (arith, e))
lie_apart c (UInt n) (i ∷ is) (j ∷ js) t u e f p q = number_apart c n i j is js t u e f p
lie_apart c (Int n) (i ∷ is) (j ∷ js) t u e f p q = number_apart c n i j is js t u e f p
lie_apart c (Array k n) (i ∷ is) (j ∷ js) t u e f p q = array_apart c k n i j is js t u e f p q
