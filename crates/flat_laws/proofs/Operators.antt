-- What the rows of operators say of bits, as what operators do to values.
use Rattle.std.proofs.Common.{◌≡◌, ℕ, zero, suc, ◌+◌, ◌-◌, ◌*◌, ◌^◌, ◌%◌, ◌/◌, ◌≤◌, ◌<◌, Bool, true, false, not, ◌&&◌, ◌||◌, List, [], ◌∷◌, ◌++◌, length, map, take, drop, ℤ, refl, sym, ap, ap₂, ◌∙◌, subst, arith, mod-lt, pow-suc}
use Rattle.std.specs.Prelude.{◌==◌, int_lt, int_le, nat_abs, replicate, flat_map}
use Rattle.std.proofs.lemmas.Bool.{eqb-true, and_parts}
use Rattle.std.proofs.lemmas.List.{length-replicate, length-take-le, take-append-drop, length-drop, nil_from_length}
use Rattle.silq_tree.specs.declared.node.UnaryOp.{UnaryOp}
use Rattle.silq_tree.specs.declared.node.UnaryOp.TheVariants.{Not, Neg}
use Rattle.silq_tree.specs.declared.node.BinaryOp.{BinaryOp}
use Rattle.silq_tree.specs.declared.node.BinaryOp.TheVariants.{Or, And, Eq, Ne, Lt, Le, Gt, Ge, Add, Sub, Mul, Div}
use Rattle.silq_tree.specs.declared.node.UpdateOp.{UpdateOp}
use Rattle.silq_tree.specs.declared.node.UpdateOp.TheVariants as updates
use Rattle.silq_types.specs.declared.types.Scalar.{Scalar}
use Rattle.silq_types.specs.declared.types.Scalar.TheVariants as scalars
use Rattle.silq_types.specs.declared.types.Shape.{Shape}
use Rattle.silq_types.specs.declared.types.Shape.TheVariants.{Bit, UInt, Int, Array}
use Rattle.silq_types.specs.Types.{single_shape, scalar_bits, shape_bits, is_scalar, is_number}
use Rattle.silq_mean.specs.Value.{Value, whole, single, array, gone, modulus, by_type, truth_value, is_one, bits_of, low_bits, number_of, numbers_of, value_of_bits, on_number, on_numbers, of_one, of_two_typed, repeated, exclusive_or, all_exclusive_or, update_typed, all_equal, equal_typed}
use Rattle.sum_laws.specs.Terms.{same_bits}
use Rattle.flat_mean.specs.Row.{flipped}
use Rattle.bit_arith.specs.Numbers.{number}
use Rattle.bit_arith.specs.Values.{flip_bits}
use Rattle.bit_arith.proofs.Orders.{same_bits_numbers}
use Rattle.bit_arith.specs.Numbers.{is_below}
use Rattle.flat_form.specs.State.{is_signed}
use Rattle.flat_form.specs.Flat.{shape_by, shape_by_one, array_of}
use Rattle.flat_form.specs.Names.{AllOf}
use Rattle.flat_form.specs.Fine.{FitsOne, FitsTwo, IsUpdated}
use Rattle.flat_form.specs.Shows.{HasShape}
use Rattle.flat_form.proofs.Numbers.{low_length, row_number_low, bits_with_number, low_of_number, below_length, rest_below, below_by_type, le_not_lt}
use Rattle.flat_form.proofs.Digits.{repeat_all, low_step}
use Rattle.flat_form.proofs.Bits.{single_one, single_not_array, array_item, array_length}

-- ---- bits

abbrev pub only_bit : List Bool → Bool
only_bit [] = false
only_bit (b ∷ bs) = b

pub truth_holds : (c : Bool) → HasShape Bit (truth_value c)
truth_holds true = (refl, omega arith)
truth_holds false = (refl, omega arith)

pub truth_bits : (c : Bool) → bits_of (truth_value c) ≡ c ∷ []
truth_bits true = refl
truth_bits false = refl

small_bit : (a : ℕ) → a < 2 → (a % 2 == 1) ≡ (a == 1)
small_bit zero h = refl
small_bit (suc zero) h = refl
small_bit (suc (suc a)) h = absurd (omega (arith, h))

pub bit_bits : (a : ℕ) → a < 2 → low_bits 1 a ≡ (a == 1) ∷ []
bit_bits a h = ap (λ b. b ∷ []) (small_bit a h)

-- a bit's only bit tells whether it is 1
pub one_bits : (w : Value) → HasShape Bit w → bits_of w ≡ is_one w ∷ []
one_bits (whole z) h = absurd h
one_bits gone h = absurd h
one_bits (array k ns) h = absurd (single_not_array scalars.Bit k (length ns) h.0)
one_bits (single k a) h =
    let e : scalars.Bit ≡ k = single_one scalars.Bit k h.0 in
    ap (λ i. low_bits (scalar_bits i) a) (sym e) ∙ bit_bits a (subst (λ i. a < modulus i) (sym e) h.1)

-- ---- what rows say

abbrev pub OneBits : UnaryOp → List Bool → List Bool → Type 0
OneBits Not xs zs = zs ≡ map not xs
OneBits Neg xs zs = (length zs ≡ length xs) × (number zs ≡ (2 ^ length xs - number xs) % 2 ^ length xs)

abbrev pub TwoBits : BinaryOp → Shape → List Bool → List Bool → List Bool → Type 0
TwoBits Or s xs ys zs = zs ≡ (only_bit xs || only_bit ys) ∷ []
TwoBits And s xs ys zs = zs ≡ (only_bit xs && only_bit ys) ∷ []
TwoBits Eq s xs ys zs = zs ≡ same_bits xs ys ∷ []
TwoBits Ne s xs ys zs = zs ≡ not (same_bits xs ys) ∷ []
TwoBits Lt s xs ys zs = zs ≡ is_below (is_signed s) (length xs) (number xs) (number ys) ∷ []
TwoBits Gt s xs ys zs = zs ≡ is_below (is_signed s) (length ys) (number ys) (number xs) ∷ []
TwoBits Le s xs ys zs = zs ≡ not (is_below (is_signed s) (length ys) (number ys) (number xs)) ∷ []
TwoBits Ge s xs ys zs = zs ≡ not (is_below (is_signed s) (length xs) (number xs) (number ys)) ∷ []
TwoBits Add s xs ys zs = (length zs ≡ length xs) × (number zs ≡ (number xs + number ys) % 2 ^ length xs)
TwoBits Sub s xs ys zs = (length zs ≡ length xs) × (number zs ≡ (number xs + (2 ^ length xs - number ys)) % 2 ^ length xs)
TwoBits Mul s xs ys zs = (length zs ≡ length xs) × (number zs ≡ (number xs * number ys) % 2 ^ length xs)
TwoBits Div s xs ys zs = ⊥

abbrev pub UpdateBits : UpdateOp → List Bool → List Bool → List Bool → Type 0
UpdateBits updates.Add xs ys zs = (length zs ≡ length xs) × (number zs ≡ (number xs + number ys) % 2 ^ length xs)
UpdateBits updates.Sub xs ys zs = (length zs ≡ length xs) × (number zs ≡ (number xs + (2 ^ length xs - number ys)) % 2 ^ length xs)
UpdateBits updates.Xor xs ys zs = zs ≡ flip_bits xs ys

-- ---- numbers of one type

-- bits that show a value of a type
abbrev pub HasBits : Shape → Value → List Bool → Type 0
HasBits s w zs = HasShape s w × (zs ≡ bits_of w)

gives_truth : (c d : Bool) (zs : List Bool) → zs ≡ c ∷ [] → c ≡ d → HasBits Bit (truth_value d) zs
gives_truth c d zs e f = (truth_holds d, e ∙ (ap (λ b. b ∷ []) f ∙ sym (truth_bits d)))

-- the number of the answer, modulo 2^n
gives_rest : (k : Scalar) (a m : ℕ) (zs : List Bool) → length zs ≡ length (low_bits (scalar_bits k) a) → number zs ≡ m % 2 ^ length (low_bits (scalar_bits k) a) → HasBits (single_shape k) (single k (m % modulus k)) zs
gives_rest k a m zs l e =
    let n : length (low_bits (scalar_bits k) a) ≡ scalar_bits k = low_length (scalar_bits k) a in
    ((refl, rest_below k m), bits_with_number (scalar_bits k) (m % modulus k) zs (l ∙ n) (e ∙ ap (λ i. m % 2 ^ i) n))

only_low : (k : Scalar) (a : ℕ) → single_shape k ≡ Bit → a < modulus k → only_bit (low_bits (scalar_bits k) a) ≡ (a == 1)
only_low k a e l =
    let p : scalars.Bit ≡ k = sym (single_one k scalars.Bit e) in
    ap (λ i. only_bit (low_bits (scalar_bits i) a)) (sym p) ∙ small_bit a (subst (λ i. a < modulus i) (sym p) l)

same_low : (k : Scalar) (a b : ℕ) → a < modulus k → b < modulus k → same_bits (low_bits (scalar_bits k) a) (low_bits (scalar_bits k) b) ≡ (a == b)
same_low k a b l m =
    same_bits_numbers (low_bits (scalar_bits k) a) (low_bits (scalar_bits k) b) (low_length (scalar_bits k) a ∙ sym (low_length (scalar_bits k) b))
    ∙ ap₂ (λ x y. x == y) (row_number_low (scalar_bits k) a l) (row_number_low (scalar_bits k) b m)

below_low : (k : Scalar) (a b : ℕ) → a < modulus k → b < modulus k
    → is_below (is_signed (single_shape k)) (length (low_bits (scalar_bits k) a)) (number (low_bits (scalar_bits k) a)) (number (low_bits (scalar_bits k) b)) ≡ int_lt (by_type k a) (by_type k b)
below_low k a b l m =
    ap (λ n. is_below (is_signed (single_shape k)) n (number (low_bits (scalar_bits k) a)) (number (low_bits (scalar_bits k) b))) (low_length (scalar_bits k) a)
    ∙ (ap₂ (is_below (is_signed (single_shape k)) (scalar_bits k)) (row_number_low (scalar_bits k) a l) (row_number_low (scalar_bits k) b m)
    ∙ below_by_type k a b)

pub numbers_give : (op : BinaryOp) (k : Scalar) (a b : ℕ) (zs : List Bool) → FitsTwo op (single_shape k) → a < modulus k → b < modulus k → TwoBits op (single_shape k) (low_bits (scalar_bits k) a) (low_bits (scalar_bits k) b) zs → HasBits (shape_by op (single_shape k)) (on_numbers op k a b) zs
numbers_give Or k a b zs f l m t = gives_truth (only_bit (low_bits (scalar_bits k) a) || only_bit (low_bits (scalar_bits k) b)) ((a == 1) || (b == 1)) zs t (ap₂ ◌||◌ (only_low k a f l) (only_low k b f m))
numbers_give And k a b zs f l m t = gives_truth (only_bit (low_bits (scalar_bits k) a) && only_bit (low_bits (scalar_bits k) b)) ((a == 1) && (b == 1)) zs t (ap₂ ◌&&◌ (only_low k a f l) (only_low k b f m))
numbers_give Eq k a b zs f l m t = gives_truth (same_bits (low_bits (scalar_bits k) a) (low_bits (scalar_bits k) b)) (a == b) zs t (same_low k a b l m)
numbers_give Ne k a b zs f l m t = gives_truth (not (same_bits (low_bits (scalar_bits k) a) (low_bits (scalar_bits k) b))) (not (a == b)) zs t (ap not (same_low k a b l m))
numbers_give Lt k a b zs f l m t = gives_truth (is_below (is_signed (single_shape k)) (length (low_bits (scalar_bits k) a)) (number (low_bits (scalar_bits k) a)) (number (low_bits (scalar_bits k) b))) (int_lt (by_type k a) (by_type k b)) zs t (below_low k a b l m)
numbers_give Gt k a b zs f l m t = gives_truth (is_below (is_signed (single_shape k)) (length (low_bits (scalar_bits k) b)) (number (low_bits (scalar_bits k) b)) (number (low_bits (scalar_bits k) a))) (int_lt (by_type k b) (by_type k a)) zs t (below_low k b a m l)
numbers_give Le k a b zs f l m t =
    gives_truth (not (is_below (is_signed (single_shape k)) (length (low_bits (scalar_bits k) b)) (number (low_bits (scalar_bits k) b)) (number (low_bits (scalar_bits k) a)))) (int_le (by_type k a) (by_type k b)) zs t
    (ap not (below_low k b a m l) ∙ sym (le_not_lt (by_type k a) (by_type k b)))
numbers_give Ge k a b zs f l m t =
    gives_truth (not (is_below (is_signed (single_shape k)) (length (low_bits (scalar_bits k) a)) (number (low_bits (scalar_bits k) a)) (number (low_bits (scalar_bits k) b)))) (int_le (by_type k b) (by_type k a)) zs t
    (ap not (below_low k a b l m) ∙ sym (le_not_lt (by_type k b) (by_type k a)))
numbers_give Add k a b zs f l m t =
    gives_rest k a (a + b) zs t.0 (t.1 ∙ ap₂ (λ x y. (x + y) % 2 ^ length (low_bits (scalar_bits k) a)) (row_number_low (scalar_bits k) a l) (row_number_low (scalar_bits k) b m))
numbers_give Sub k a b zs f l m t =
    gives_rest k a (a + (modulus k - b)) zs t.0
    (t.1 ∙ (ap₂ (λ x y. (x + (2 ^ length (low_bits (scalar_bits k) a) - y)) % 2 ^ length (low_bits (scalar_bits k) a)) (row_number_low (scalar_bits k) a l) (row_number_low (scalar_bits k) b m)
    ∙ ap (λ n. (a + (2 ^ n - b)) % 2 ^ length (low_bits (scalar_bits k) a)) (low_length (scalar_bits k) a)))
numbers_give Mul k a b zs f l m t =
    gives_rest k a (a * b) zs t.0 (t.1 ∙ ap₂ (λ x y. (x * y) % 2 ^ length (low_bits (scalar_bits k) a)) (row_number_low (scalar_bits k) a l) (row_number_low (scalar_bits k) b m))
numbers_give Div k a b zs f l m t = absurd t

pub number_gives : (op : UnaryOp) (k : Scalar) (a : ℕ) (zs : List Bool) → FitsOne op (single_shape k) → a < modulus k → OneBits op (low_bits (scalar_bits k) a) zs → HasBits (shape_by_one op (single_shape k)) (on_number op k a) zs
number_gives Not k a zs f l t =
    let p : scalars.Bit ≡ k = sym (single_one k scalars.Bit f) in
    gives_truth (not (a == 1)) (not (a == 1)) zs (t ∙ (ap (λ i. map not (low_bits (scalar_bits i) a)) (sym p) ∙ ap (map not) (bit_bits a (subst (λ i. a < modulus i) (sym p) l)))) refl
number_gives Neg k a zs f l t =
    gives_rest k a (modulus k - a) zs t.0
    (t.1 ∙ (ap (λ x. (2 ^ length (low_bits (scalar_bits k) a) - x) % 2 ^ length (low_bits (scalar_bits k) a)) (row_number_low (scalar_bits k) a l)
    ∙ ap (λ n. (2 ^ n - a) % 2 ^ length (low_bits (scalar_bits k) a)) (low_length (scalar_bits k) a)))

-- ---- values of one type

no_array : (k : Scalar) (n : ℕ) (s : Shape) → s ≡ Array k n → is_scalar s ≡ true → ⊥
no_array k n s e f = (let g : false ≡ true = sym (ap is_scalar e) ∙ f in cc)

fits_scalar : (op : BinaryOp) (s : Shape) → FitsTwo op s → is_scalar s ≡ true
fits_scalar Or s f = ap is_scalar f
fits_scalar And s f = ap is_scalar f
fits_scalar Eq s f = f
fits_scalar Ne s f = f
fits_scalar Lt s f = f
fits_scalar Le s f = f
fits_scalar Gt s f = f
fits_scalar Ge s f = f
fits_scalar Add s f = f
fits_scalar Sub s f = f
fits_scalar Mul s f = f
fits_scalar Div s f = absurd f

number_scalar : (s : Shape) → is_number s ≡ true → is_scalar s ≡ true
number_scalar Bit f = refl
number_scalar (UInt n) f = refl
number_scalar (Int n) f = refl
number_scalar (Array k n) f = cc

fits_one_scalar : (op : UnaryOp) (s : Shape) → FitsOne op s → is_scalar s ≡ true
fits_one_scalar Not s f = ap is_scalar f
fits_one_scalar Neg s f = number_scalar s f

pub one_gives : (op : UnaryOp) (s : Shape) (w : Value) (xs zs : List Bool) → FitsOne op s → HasShape s w → xs ≡ bits_of w → OneBits op xs zs → HasBits (shape_by_one op s) (of_one op w) zs
one_gives op s (whole z) xs zs f h e t = absurd h
one_gives op s gone xs zs f h e t = absurd h
one_gives op s (array k ns) xs zs f h e t = absurd (no_array k (length ns) s h.0 (fits_one_scalar op s f))
one_gives op s (single k a) xs zs f h e t =
    subst (λ r. HasBits (shape_by_one op r) (on_number op k a) zs) (sym h.0) (number_gives op k a zs (subst (FitsOne op) h.0 f) h.1 (subst (λ ys. OneBits op ys zs) e t))

pub two_gives : (op : BinaryOp) (s : Shape) (v w : Value) (xs ys zs : List Bool) → FitsTwo op s → HasShape s v → HasShape s w → xs ≡ bits_of v → ys ≡ bits_of w → TwoBits op s xs ys zs → HasBits (shape_by op s) (of_two_typed op v w) zs
two_gives op s (whole z) w xs ys zs f h g d e t = absurd h
two_gives op s gone w xs ys zs f h g d e t = absurd h
two_gives op s (array k ns) w xs ys zs f h g d e t = absurd (no_array k (length ns) s h.0 (fits_scalar op s f))
two_gives op s (single k a) (whole z) xs ys zs f h g d e t = absurd g
two_gives op s (single k a) gone xs ys zs f h g d e t = absurd g
two_gives op s (single k a) (array j ns) xs ys zs f h g d e t = absurd (no_array j (length ns) s g.0 (fits_scalar op s f))
two_gives op s (single k a) (single j b) xs ys zs f h g d e t =
    let p : j ≡ k = single_one j k (sym g.0 ∙ h.0) in
    let q : ys ≡ low_bits (scalar_bits k) b = e ∙ ap (λ i. low_bits (scalar_bits i) b) p in
    subst (λ r. HasBits (shape_by op r) (on_numbers op k a b) zs) (sym h.0)
    (numbers_give op k a b zs (subst (FitsTwo op) h.0 f) h.1 (subst (λ i. b < modulus i) p g.1)
    (subst (λ r. TwoBits op r (low_bits (scalar_bits k) a) (low_bits (scalar_bits k) b) zs) h.0
    (subst (λ us. TwoBits op s us (low_bits (scalar_bits k) b) zs) d (subst (λ us. TwoBits op s xs us zs) q t))))

-- ---- exclusive or

parity : (a b : ℕ) → flipped (a % 2 == 1) (b % 2 == 1) ≡ ((a + b) % 2 == 1)
parity a b = pick (a % 2) (b % 2) refl refl (mod-lt a {m = 2} (omega arith)) (mod-lt b {m = 2} (omega arith))
  where
    pick : (r s : ℕ) → a % 2 ≡ r → b % 2 ≡ s → r < 2 → s < 2 → flipped (r == 1) (s == 1) ≡ ((a + b) % 2 == 1)
    pick zero zero e f l m = let g : (a + b) % 2 ≡ 0 = omega (arith, e, f) in ap (λ n. n == 1) (sym g)
    pick zero (suc zero) e f l m = let g : (a + b) % 2 ≡ 1 = omega (arith, e, f) in ap (λ n. n == 1) (sym g)
    pick (suc zero) zero e f l m = let g : (a + b) % 2 ≡ 1 = omega (arith, e, f) in ap (λ n. n == 1) (sym g)
    pick (suc zero) (suc zero) e f l m = let g : (a + b) % 2 ≡ 0 = omega (arith, e, f) in ap (λ n. n == 1) (sym g)
    pick (suc (suc r)) s e f l m = absurd (omega (arith, l))
    pick zero (suc (suc s)) e f l m = absurd (omega (arith, m))
    pick (suc zero) (suc (suc s)) e f l m = absurd (omega (arith, m))

pub exclusive_bits : (n a b : ℕ) → flip_bits (low_bits n a) (low_bits n b) ≡ low_bits n (exclusive_or n a b)
exclusive_bits zero a b = refl
exclusive_bits (suc n) a b =
    ap₂ ◌∷◌ (parity a b) (exclusive_bits n (a / 2) (b / 2))
    ∙ sym (low_step n ((a + b) % 2) (exclusive_or n (a / 2) (b / 2)) (mod-lt (a + b) {m = 2} (omega arith)))

pub exclusive_below : (n a b : ℕ) → exclusive_or n a b < 2 ^ n
exclusive_below zero a b = omega arith
exclusive_below (suc n) a b =
    let p : 2 ^ suc n ≡ 2 ^ n * 2 = pow-suc 2 n in
    let r : exclusive_or n (a / 2) (b / 2) < 2 ^ n = exclusive_below n (a / 2) (b / 2) in
    let c : (a + b) % 2 < 2 = mod-lt (a + b) {m = 2} (omega arith) in
    omega (arith, p, r, c)

pub flip_append : (xs ys us vs : List Bool) → length xs ≡ length ys → flip_bits (xs ++ us) (ys ++ vs) ≡ flip_bits xs ys ++ flip_bits us vs
flip_append [] [] us vs l = refl
flip_append [] (y ∷ ys) us vs l = cc
flip_append (x ∷ xs) [] us vs l = cc
flip_append (x ∷ xs) (y ∷ ys) us vs l = ap (λ bs. flipped x y ∷ bs) (flip_append xs ys us vs (omega (arith, l)))

pub exclusive_items : (n : ℕ) (xs ys : List ℕ) → length xs ≡ length ys → flip_bits (flat_map (low_bits n) xs) (flat_map (low_bits n) ys) ≡ flat_map (low_bits n) (all_exclusive_or n xs ys)
exclusive_items n [] [] l = refl
exclusive_items n [] (y ∷ ys) l = cc
exclusive_items n (x ∷ xs) [] l = cc
exclusive_items n (x ∷ xs) (y ∷ ys) l =
    flip_append (low_bits n x) (low_bits n y) (flat_map (low_bits n) xs) (flat_map (low_bits n) ys) (low_length n x ∙ sym (low_length n y))
    ∙ ap₂ ◌++◌ (exclusive_bits n x y) (exclusive_items n xs ys (omega (arith, l)))

exclusive_length : (n : ℕ) (xs ys : List ℕ) → length xs ≡ length ys → length (all_exclusive_or n xs ys) ≡ length xs
exclusive_length n [] [] l = refl
exclusive_length n [] (y ∷ ys) l = cc
exclusive_length n (x ∷ xs) [] l = cc
exclusive_length n (x ∷ xs) (y ∷ ys) l = ap suc (exclusive_length n xs ys (omega (arith, l)))

exclusive_all : (n : ℕ) (xs ys : List ℕ) → AllOf (λ m. m < 2 ^ n) (all_exclusive_or n xs ys)
exclusive_all n [] ys = tt
exclusive_all n (x ∷ xs) [] = tt
exclusive_all n (x ∷ xs) (y ∷ ys) = (exclusive_below n x y, exclusive_all n xs ys)

-- ---- updates

add_typed : (v w : Value) → update_typed updates.Add v w ≡ of_two_typed Add v w
add_typed (whole z) w = refl
add_typed gone w = refl
add_typed (array k ns) (whole z) = refl
add_typed (array k ns) gone = refl
add_typed (array k ns) (single j b) = refl
add_typed (array k ns) (array j ms) = refl
add_typed (single k a) (whole z) = refl
add_typed (single k a) gone = refl
add_typed (single k a) (single j b) = refl
add_typed (single k a) (array j ms) = refl

sub_typed : (v w : Value) → update_typed updates.Sub v w ≡ of_two_typed Sub v w
sub_typed (whole z) w = refl
sub_typed gone w = refl
sub_typed (array k ns) (whole z) = refl
sub_typed (array k ns) gone = refl
sub_typed (array k ns) (single j b) = refl
sub_typed (array k ns) (array j ms) = refl
sub_typed (single k a) (whole z) = refl
sub_typed (single k a) gone = refl
sub_typed (single k a) (single j b) = refl
sub_typed (single k a) (array j ms) = refl

xor_gives : (s : Shape) (v w : Value) (xs ys zs : List Bool) → HasShape s v → HasShape s w → xs ≡ bits_of v → ys ≡ bits_of w → zs ≡ flip_bits xs ys → HasBits s (update_typed updates.Xor v w) zs
xor_gives s (whole z) w xs ys zs h g d e t = absurd h
xor_gives s gone w xs ys zs h g d e t = absurd h
xor_gives s (single k a) (whole z) xs ys zs h g d e t = absurd g
xor_gives s (single k a) gone xs ys zs h g d e t = absurd g
xor_gives s (single k a) (array j ms) xs ys zs h g d e t = absurd (single_not_array k j (length ms) (sym h.0 ∙ g.0))
xor_gives s (single k a) (single j b) xs ys zs h g d e t =
    let p : j ≡ k = single_one j k (sym g.0 ∙ h.0) in
    ((h.0, exclusive_below (scalar_bits k) a b), t ∙ (ap₂ flip_bits d (e ∙ ap (λ i. low_bits (scalar_bits i) b) p) ∙ exclusive_bits (scalar_bits k) a b))
xor_gives s (array k ns) (whole z) xs ys zs h g d e t = absurd g
xor_gives s (array k ns) gone xs ys zs h g d e t = absurd g
xor_gives s (array k ns) (single j b) xs ys zs h g d e t = absurd (single_not_array j k (length ns) (sym g.0 ∙ h.0))
xor_gives s (array k ns) (array j ms) xs ys zs h g d e t =
    let p : j ≡ k = array_item j k (length ms) (length ns) (sym g.0 ∙ h.0) in
    let l : length ns ≡ length ms = array_length k j (length ns) (length ms) (sym h.0 ∙ g.0) in (
      (h.0 ∙ ap (Array k) (sym (exclusive_length (scalar_bits k) ns ms l)), exclusive_all (scalar_bits k) ns ms),
      t ∙ (ap₂ flip_bits d (e ∙ ap (λ i. flat_map (low_bits (scalar_bits i)) ms) p) ∙ exclusive_items (scalar_bits k) ns ms l),
    )

pub update_gives : (op : UpdateOp) (s : Shape) (v w : Value) (xs ys zs : List Bool) → IsUpdated op s → HasShape s v → HasShape s w → xs ≡ bits_of v → ys ≡ bits_of w → UpdateBits op xs ys zs → HasBits s (update_typed op v w) zs
update_gives updates.Add s v w xs ys zs i h g d e t = subst (λ x. HasBits s x zs) (sym (add_typed v w)) (two_gives Add s v w xs ys zs (number_scalar s i) h g d e t)
update_gives updates.Sub s v w xs ys zs i h g d e t = subst (λ x. HasBits s x zs) (sym (sub_typed v w)) (two_gives Sub s v w xs ys zs (number_scalar s i) h g d e t)
update_gives updates.Xor s v w xs ys zs i h g d e t = xor_gives s v w xs ys zs h g d e t

-- ---- equality

all_same : (xs ys : List ℕ) → all_equal xs ys ≡ true → xs ≡ ys
all_same [] [] e = refl
all_same [] (y ∷ ys) e = cc
all_same (x ∷ xs) [] e = cc
all_same (x ∷ xs) (y ∷ ys) e = let p = and_parts (x == y) (all_equal xs ys) e in ap₂ ◌∷◌ (eqb-true x y p.0) (all_same xs ys p.1)

-- values of one type that are called equal are the same
pub equal_one : (s : Shape) (v w : Value) → HasShape s v → HasShape s w → equal_typed v w ≡ true → v ≡ w
equal_one s (whole z) w h g e = absurd h
equal_one s gone w h g e = absurd h
equal_one s (single k a) (whole z) h g e = absurd g
equal_one s (single k a) gone h g e = absurd g
equal_one s (single k a) (array j ns) h g e = absurd (single_not_array k j (length ns) (sym h.0 ∙ g.0))
equal_one s (single k a) (single j b) h g e = ap₂ single (single_one k j (sym h.0 ∙ g.0)) (eqb-true a b e)
equal_one s (array k ns) (whole z) h g e = absurd g
equal_one s (array k ns) gone h g e = absurd g
equal_one s (array k ns) (single j b) h g e = absurd (single_not_array j k (length ns) (sym g.0 ∙ h.0))
equal_one s (array k ns) (array j ms) h g e = ap₂ array (array_item k j (length ns) (length ms) (sym h.0 ∙ g.0)) (all_same ns ms e)

-- bits flipped by themselves are 0
pub flip_self : (xs : List Bool) → flip_bits xs xs ≡ replicate (length xs) false
flip_self [] = refl
flip_self (true ∷ xs) = ap (λ bs. false ∷ bs) (flip_self xs)
flip_self (false ∷ xs) = ap (λ bs. false ∷ bs) (flip_self xs)

-- ---- repeated values

pub repeat_gives : (z : ℤ) (s : Shape) (w : Value) (xs : List Bool) → is_scalar s ≡ true → HasShape s w → xs ≡ bits_of w → HasBits (array_of s (nat_abs z)) (repeated (whole z) w) (flat_map (λ bs. bs) (replicate (nat_abs z) xs))
repeat_gives z s (whole y) xs f h e = absurd h
repeat_gives z s gone xs f h e = absurd h
repeat_gives z s (array k ns) xs f h e = absurd (no_array k (length ns) s h.0 f)
repeat_gives z s (single k a) xs f h e = (
  (ap (λ r. array_of r (nat_abs z)) h.0 ∙ (shape_of k (nat_abs z) ∙ ap (Array k) (sym (length-replicate (nat_abs z) a))), repeat_all (λ n. n < modulus k) (nat_abs z) a h.1),
  ap (λ bs. flat_map (λ us. us) (replicate (nat_abs z) bs)) e ∙ again (nat_abs z) (scalar_bits k) a,
)
  where
    shape_of : (j : Scalar) (n : ℕ) → array_of (single_shape j) n ≡ Array j n
    shape_of scalars.Bit n = refl
    shape_of (scalars.UInt m) n = refl
    shape_of (scalars.Int m) n = refl

    again : (n m b : ℕ) → flat_map (λ us. us) (replicate n (low_bits m b)) ≡ flat_map (low_bits m) (replicate n b)
    again zero m b = refl
    again (suc n) m b = ap (λ bs. low_bits m b ++ bs) (again n m b)

-- ---- values of given bits

numbers_length : (n w : ℕ) (bs : List Bool) → length (numbers_of n w bs) ≡ n
numbers_length zero w bs = refl
numbers_length (suc n) w bs = ap suc (numbers_length n w (drop w bs))

numbers_below : (n w : ℕ) (bs : List Bool) → w * n ≤ length bs → AllOf (λ m. m < 2 ^ w) (numbers_of n w bs)
numbers_below zero w bs h = tt
numbers_below (suc n) w bs h =
    let l : length (take w bs) ≡ w = length-take-le w bs (omega (arith, h)) in
    let d : length (drop w bs) ≡ length bs - w = length-drop w bs in
    (subst (λ k. number_of (take w bs) < 2 ^ k) l (below_length (take w bs)), numbers_below n w (drop w bs) (omega (arith, h, d)))

numbers_bits : (n w : ℕ) (bs : List Bool) → length bs ≡ w * n → flat_map (low_bits w) (numbers_of n w bs) ≡ bs
numbers_bits zero w bs h = sym (nil_from_length bs (omega (arith, h)))
numbers_bits (suc n) w bs h =
    let l : length (take w bs) ≡ w = length-take-le w bs (omega (arith, h)) in
    let d : length (drop w bs) ≡ length bs - w = length-drop w bs in
    ap₂ ◌++◌ (low_of_number w (take w bs) l) (numbers_bits n w (drop w bs) (omega (arith, h, d))) ∙ take-append-drop w bs

single_given : (k : Scalar) (bs : List Bool) → length bs ≡ scalar_bits k → HasBits (single_shape k) (single k (number_of bs)) bs
single_given k bs l = ((refl, subst (λ n. number_of bs < 2 ^ n) l (below_length bs)), sym (low_of_number (scalar_bits k) bs l))

-- bits as many as a type has show the value that they give
pub given_gives : (s : Shape) (bs : List Bool) → length bs ≡ shape_bits s → HasBits s (value_of_bits s bs) bs
given_gives Bit bs l = single_given scalars.Bit bs l
given_gives (UInt n) bs l = single_given (scalars.UInt n) bs l
given_gives (Int n) bs l = single_given (scalars.Int n) bs l
given_gives (Array k n) bs l =
    ((ap (Array k) (sym (numbers_length n (scalar_bits k) bs)), numbers_below n (scalar_bits k) bs (omega (arith, l))), sym (numbers_bits n (scalar_bits k) bs l))
