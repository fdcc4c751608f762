-- A type whose sizes have values has known names alone.
use Rattle.std.specs.Prelude.{◌≡◌, refl, ℕ, Bool, true, false, ◌&&◌, if◌then◌else◌, List, [], ◌∷◌, ◌++◌, option_map, Option, Some, None}
use Rattle.std.specs.Prelude.{is_some, Result, Ok, Err, ℤ, nat_abs}
use mathlib.Core.Path.{◌∙◌, ap, sym}
use native.Mathlib.Omega.{arith}
use Rattle.silq_tree.specs.declared.node.NameId.{NameId}
use Rattle.silq_tree.specs.declared.node.Spot.{Spot}
use Rattle.silq_tree.specs.declared.node.ExprId.{ExprId}
use Rattle.silq_tree.specs.declared.node.TypeNode.{TypeNode}
use Rattle.silq_tree.specs.Syntax.{Expression, ScalarType, bit, uint, int, number, typed_number, truth, pi, place, called, tuple, unary}
use Rattle.silq_tree.specs.Syntax.{binary, whole, part, part_of_part, WrittenType, scalar, array}
use Rattle.silq_tree.specs.Standing as standing
use Rattle.static_num.specs.declared.values.StaticFault.{StaticFault}
use Rattle.static_num.specs.declared.values.StaticFault.TheVariants.{NotStatic}
use Rattle.static_num.specs.Static.{eval_of, is_static, value}
use Rattle.silq_types.specs.declared.types.Scalar.{Scalar}
use Rattle.silq_types.specs.declared.types.Scalar.TheVariants as scalars
use Rattle.silq_types.specs.declared.types.Shape.TheVariants.{Array}
use Rattle.silq_types.specs.declared.types.Ty.{Ty}
use Rattle.silq_types.specs.Rules.{Fault, and_then, rule, bad_size}
use Rattle.silq_types.specs.Types.{Statics, first_unknown, names, scalar_names, size_names}
use Rattle.silq_mean.specs.Written.{value_of, all_known, moved_to, or_not_static, width_of, width_spot, length_of, scalar_by, shape_by}
use Rattle.silq_mean.specs.Written.{is_count, most_bits, most_items}
use Rattle.silq_mean.specs.Meaning.{or_bit, type_or_bit, scalar_of, type_of}
use Rattle.tree_walk.specs.Written.{counted, scalar_told, shape_told, shape_by as told_shape, type_by, scalar_or_bit}

abbrev pub Known : Statics → List (NameId × Spot) → Type 0
Known statics xs = first_unknown (λ x. is_some (value_of statics x)) xs ≡ None

known_both : (statics : Statics) (xs ys : List (NameId × Spot)) → Known statics xs → Known statics ys → Known statics (xs ++ ys)
known_both statics [] ys a b = b
known_both statics (x ∷ xs) ys a b = go (is_some (value_of statics x.0)) a (λ e. known_both statics xs ys e b)
  where
    go : (t : Bool) → (if t then first_unknown (λ x. is_some (value_of statics x)) xs else Some x.1) ≡ None → (Known statics xs → Known statics (xs ++ ys))
        → (if t then first_unknown (λ x. is_some (value_of statics x)) (xs ++ ys) else Some x.1) ≡ None
    go true e f = f e
    go false e f = absurd (grind (arith, e))

both_true : (a b : Bool) → (a && b) ≡ true → (a ≡ true) × (b ≡ true)
both_true true true e = (refl, refl)
both_true true false e = (refl, e)
both_true false b e = (e, absurd (grind (arith, e)))

-- each name of a static expression has a value
static_known : (statics : Statics) (e : Expression) → is_static statics e ≡ true → Known statics (names e)
unfolding is_static
static_known statics (number v s) h = refl
static_known statics (truth b s) h = refl
static_known statics (place (whole x) s) h = ap (λ t. if t then None else Some s) h
static_known statics (unary op a s) h = static_known statics a h
static_known statics (binary op a b s) h =
    let p = both_true (is_static statics a) (is_static statics b) h in
    known_both statics (names a) (names b) (static_known statics a p.0) (static_known statics b p.1)
static_known statics (typed_number v k s) h = absurd (grind (arith, h))
static_known statics (pi s) h = absurd (grind (arith, h))
static_known statics (place (part x i) s) h = absurd (grind (arith, h))
static_known statics (place (part_of_part x i j) s) h = absurd (grind (arith, h))
static_known statics (called f c a s) h = absurd (grind (arith, h))
static_known statics (tuple es s) h = absurd (grind (arith, h))

static_value : (b : Bool) (r : Result ℤ StaticFault) (z : ℤ) → (if b then r else Err NotStatic) ≡ Ok z → b ≡ true
static_value true r z h = refl
static_value false r z h = absurd (grind (arith, h))

-- an expression with a value has known names alone
eval_known : (statics : Statics) (e : Expression) (z : ℤ) → eval_of statics e ≡ Ok z → Known statics (names e)
eval_known statics e z h = static_known statics e (static_value (is_static statics e) (value statics e) z h)

-- ---- the parts of a type

told_value : (r : Result ℤ StaticFault) (s : Spot) (v : Option ℤ) (P : Type 0) → and_then (or_not_static s r) (λ z. Ok (Some z)) ≡ Ok v
    → ((z : ℤ) → r ≡ Ok z → P) → P
told_value (Ok z) s v P h f = f z refl
told_value (Err e) s v P h f = absurd (grind (arith, h))

width_known : (statics : Statics) (k : ScalarType) (s : Spot) (v : Option ℤ) → width_of statics k s ≡ Ok v → Known statics (scalar_names k)
width_known statics bit s v h = refl
width_known statics (uint e) s v h = told_value (eval_of statics e) s v (Known statics (names e)) h (λ z i. eval_known statics e z i)
width_known statics (int e) s v h = told_value (eval_of statics e) s v (Known statics (names e)) h (λ z i. eval_known statics e z i)

length_known : (statics : Statics) (n : Option Expression) (s : Spot) (v : Option ℤ) → length_of statics n s ≡ Ok v → Known statics (size_names n)
length_known statics None s v h = refl
length_known statics (Some e) s v h = told_value (eval_of statics e) s v (Known statics (names e)) h (λ z i. eval_known statics e z i)

-- a type by its width and its length
abbrev shaped : Bool → Spot → Scalar → Option ℤ → Result Ty Fault
shaped c s k n = and_then (shape_by k n s) (λ h. Ok (record { classical = c; shape = h }))

abbrev by_sizes : Bool → ScalarType → Spot → Result (Option ℤ) Fault → Result (Option ℤ) Fault → Result Ty Fault
by_sizes c k s w n = and_then w (λ w. and_then n (λ n. and_then (scalar_by k w s) (λ k. shaped c s k n)))

both_sizes : (c : Bool) (k : ScalarType) (s : Spot) (w n : Result (Option ℤ) Fault) (t : Ty) (P : Type 0) → by_sizes c k s w n ≡ Ok t
    → ((v m : Option ℤ) → w ≡ Ok v → n ≡ Ok m → P) → P
both_sizes c k s (Ok v) (Ok m) t P h f = f v m refl refl
both_sizes c k s (Ok v) (Err e) t P h f = absurd (grind (arith, h))
both_sizes c k s (Err e) n t P h f = absurd (grind (arith, h))

-- where the names come first, but are known wherever there is a type
names_first : (u : Option Spot) (s : Spot) (r : Result Ty Fault) → ((t : Ty) → r ≡ Ok t → u ≡ None)
    → type_or_bit r ≡ type_or_bit (and_then (all_known (moved_to s u)) (λ x. r))
names_first None s r h = refl
names_first (Some t) s (Ok ty) h = absurd (grind (arith, h ty refl))
names_first (Some t) s (Err f) h = refl

module _ (statics : Statics) (c : Bool) (s : Spot) where
  by_length : (k : Scalar) (r : Result ℤ StaticFault)
      → type_by c (option_map (Array k) (counted most_items r)) ≡ type_or_bit (and_then (and_then (or_not_static s r) (λ v. Ok (Some v))) (λ n. shaped c s k n))
  by_length k (Err e) = refl
  by_length k (Ok z) = go (is_count most_items z)
    where
      go : (b : Bool)
          → type_by c (option_map (Array k) (if b then Some (nat_abs z) else None))
          ≡ type_or_bit (and_then (if b then Ok (Array k (nat_abs z)) else Err (rule bad_size s)) (λ h. Ok (record { classical = c; shape = h })))
      go true = refl
      go false = refl

  by_scalar : (k : Scalar) (n : Option Expression) → type_by c (shape_told statics n k) ≡ type_or_bit (and_then (length_of statics n s) (λ n. shaped c s k n))
  by_scalar k None = refl
  by_scalar k (Some n) = by_length k (eval_of statics n)

  by_count : (make : ℕ → Scalar) (z : ℤ) (b : Bool) (n : Option Expression)
      → type_by c (told_shape statics n (option_map make (if b then Some (nat_abs z) else None)))
      ≡ type_or_bit (and_then (length_of statics n s) (λ n. and_then (if b then Ok (make (nat_abs z)) else Err (rule bad_size s)) (λ k. shaped c s k n)))
  by_count make z true n = by_scalar (make (nat_abs z)) n
  by_count make z false n = go (length_of statics n s)
    where
      go : (m : Result (Option ℤ) Fault) → type_by c None ≡ type_or_bit (and_then m (λ n. and_then (Err (rule bad_size s)) (λ k. shaped c s k n)))
      go (Ok m) = refl
      go (Err f) = refl

  by_uint : (e : Expression) (r : Result ℤ StaticFault) (n : Option Expression)
      → type_by c (told_shape statics n (option_map scalars.UInt (counted most_bits r)))
      ≡ type_or_bit (by_sizes c (uint e) s (and_then (or_not_static s r) (λ v. Ok (Some v))) (length_of statics n s))
  by_uint e (Ok z) n = by_count scalars.UInt z (is_count most_bits z) n
  by_uint e (Err f) n = refl

  by_int : (e : Expression) (r : Result ℤ StaticFault) (n : Option Expression)
      → type_by c (told_shape statics n (option_map scalars.Int (counted most_bits r)))
      ≡ type_or_bit (by_sizes c (int e) s (and_then (or_not_static s r) (λ v. Ok (Some v))) (length_of statics n s))
  by_int e (Ok z) n = by_count scalars.Int z (is_count most_bits z) n
  by_int e (Err f) n = refl

  sizes_told : (k : ScalarType) (n : Option Expression)
      → type_by c (told_shape statics n (scalar_told statics k)) ≡ type_or_bit (by_sizes c k s (width_of statics k s) (length_of statics n s))
  sizes_told bit n = by_scalar scalars.Bit n
  sizes_told (uint e) n = by_uint e (eval_of statics e) n
  sizes_told (int e) n = by_int e (eval_of statics e) n

  abbrev written : ScalarType → Option Expression → WrittenType
  written k None = scalar c k s
  written k (Some n) = array c k n s

  type_told : (k : ScalarType) (n : Option Expression)
      → type_by c (told_shape statics n (scalar_told statics k))
      ≡ type_or_bit (and_then (all_known (moved_to s (first_unknown (λ x. is_some (value_of statics x)) (scalar_names k ++ size_names n))))
      (λ x. by_sizes c k s (width_of statics k s) (length_of statics n s)))
  type_told k n =
      sizes_told k n
      ∙ names_first _ s (by_sizes c k s (width_of statics k s) (length_of statics n s))
      (λ t h. both_sizes c k s (width_of statics k s) (length_of statics n s) t (Known statics (scalar_names k ++ size_names n)) h
      (λ v m i j. known_both statics (scalar_names k) (size_names n) (width_known statics k s v i) (length_known statics n s m j)))

type_sized : (statics : Statics) (at : ExprId → Expression) (t : TypeNode) (n : Option ExprId)
    → type_by t.classical (told_shape statics (option_map at n) (scalar_told statics (standing.scalar_of at t.scalar)))
    ≡ type_of statics (standing.sized at t n)
type_sized statics at t None = type_told statics t.classical t.at (standing.scalar_of at t.scalar) None
type_sized statics at t (Some n) = type_told statics t.classical t.at (standing.scalar_of at t.scalar) (Some (at n))

-- what the code finds is the type that is meant
pub type_is : (statics : Statics) (at : ExprId → Expression) (t : TypeNode)
    → type_by t.classical (told_shape statics (option_map at t.size) (scalar_told statics (standing.scalar_of at t.scalar)))
    ≡ type_of statics (standing.type_of at t)
type_is statics at t = type_sized statics at t t.size

-- ---- the type of a number

all_pass : (xs : List (NameId × Spot)) → first_unknown (λ x. true) xs ≡ None
all_pass [] = refl
all_pass (x ∷ xs) = all_pass xs

by_width : (k : ScalarType) (statics : Statics) (s at : Spot)
    → scalar_or_bit (scalar_told statics k) ≡ or_bit (and_then (width_of statics k at) (λ w. scalar_by k w s))
by_width bit statics s at = refl
by_width (uint e) statics s at = go (eval_of statics e)
  where
    counts : (z : ℤ) (b : Bool)
        → scalar_or_bit (option_map scalars.UInt (if b then Some (nat_abs z) else None))
        ≡ or_bit (if b then Ok (scalars.UInt (nat_abs z)) else Err (rule bad_size s))
    counts z true = refl
    counts z false = refl

    go : (r : Result ℤ StaticFault)
        → scalar_or_bit (option_map scalars.UInt (counted most_bits r))
        ≡ or_bit (and_then (and_then (or_not_static at r) (λ v. Ok (Some v))) (λ w. scalar_by (uint e) w s))
    go (Ok z) = counts z (is_count most_bits z)
    go (Err f) = refl
by_width (int e) statics s at = go (eval_of statics e)
  where
    counts : (z : ℤ) (b : Bool)
        → scalar_or_bit (option_map scalars.Int (if b then Some (nat_abs z) else None))
        ≡ or_bit (if b then Ok (scalars.Int (nat_abs z)) else Err (rule bad_size s))
    counts z true = refl
    counts z false = refl

    go : (r : Result ℤ StaticFault)
        → scalar_or_bit (option_map scalars.Int (counted most_bits r))
        ≡ or_bit (and_then (and_then (or_not_static at r) (λ v. Ok (Some v))) (λ w. scalar_by (int e) w s))
    go (Ok z) = counts z (is_count most_bits z)
    go (Err f) = refl

pub scalar_is : (statics : Statics) (k : ScalarType) (s : Spot) → scalar_or_bit (scalar_told statics k) ≡ scalar_of statics k s
scalar_is statics k s =
    by_width k statics s (width_spot k s)
    ∙ sym (ap (λ u. or_bit (and_then (all_known u) (λ x. and_then (width_of statics k (width_spot k s)) (λ w. scalar_by k w s)))) (all_pass (scalar_names k)))
