-- Tests for equality tell equal values.
use Rattle.std.specs.Prelude.{◌≡◌, refl, ℕ, ℤ, Bool, true, false, ◌&&◌, ◌==◌, List, [], ◌∷◌, Option, Some, None}
use mathlib.Core.Path.{ap, ◌∙◌}
use native.Mathlib.Omega.{arith}
use Rattle.std.specs.Ordering.{int_eq}
use Rattle.std.proofs.lemmas.Bool.{eqb-true, eq-eqb}
use Rattle.std.proofs.lemmas.Bool.Decides.{Decides-int_eq}
use Rattle.silq_types.specs.declared.values.Part.{Part}
use Rattle.silq_types.specs.declared.signature.InstanceKey.{InstanceKey}
use Rattle.silq_types.specs.Known.{all_equal, same_key}
use Rattle.check_scope.specs.Context.{same_index, same_part}

pub and_true : (a b : Bool) → a ≡ true → b ≡ true → (a && b) ≡ true
and_true true true e f = refl
and_true true false e f = f
and_true false b e f = e

pub and_left : (a b : Bool) → (a && b) ≡ true → a ≡ true
and_left true b e = refl
and_left false b e = e

pub and_right : (a b : Bool) → (a && b) ≡ true → b ≡ true
and_right true b e = e
and_right false b e = absurd (grind (arith, e))

some_or : {A : Type 0} → A → Option A → A
some_or d None = d
some_or d (Some a) = a

pub some_same : {A : Type 0} (a b : A) → ◌≡◌ {A = Option A} (Some a) (Some b) → a ≡ b
unfolding some_or
some_same a b e = ap (some_or a) e

-- ---- values

pub equal_refl : (a : ℤ) → int_eq a a ≡ true
equal_refl a = (Decides-int_eq a a).1 refl

pub equal_same : (a b : ℤ) → int_eq a b ≡ true → a ≡ b
equal_same a b e = (Decides-int_eq a b).0 e

pub all_equal_refl : (l : List ℤ) → all_equal l l ≡ true
all_equal_refl [] = refl
all_equal_refl (a ∷ l) = and_true (int_eq a a) (all_equal l l) (equal_refl a) (all_equal_refl l)

pub all_equal_same : (a b : List ℤ) → all_equal a b ≡ true → a ≡ b
all_equal_same [] [] e = refl
all_equal_same [] (b ∷ bs) e = absurd (grind (arith, e))
all_equal_same (a ∷ l) [] e = absurd (grind (arith, e))
all_equal_same (a ∷ l) (b ∷ bs) e =
    let head = equal_same a b (and_left (int_eq a b) (all_equal l bs) e) in
    let tail = all_equal_same l bs (and_right (int_eq a b) (all_equal l bs) e) in
    ap (λ x. x ∷ l) head ∙ ap (λ xs. b ∷ xs) tail

-- ---- keys

pub same_key_refl : (k : InstanceKey) → same_key k k ≡ true
same_key_refl k = and_true (k.fun.number == k.fun.number) (all_equal k.statics k.statics) (eq-eqb k.fun.number k.fun.number refl) (all_equal_refl k.statics)

pub same_key_fun : (a b : InstanceKey) → same_key a b ≡ true → a.fun.number ≡ b.fun.number
same_key_fun a b e = eqb-true a.fun.number b.fun.number (and_left (a.fun.number == b.fun.number) (all_equal a.statics b.statics) e)

abbrev key_of : ℕ → List ℤ → InstanceKey
key_of n l = record { fun = record { number = n }; statics = l }

pub same_key_same : (a b : InstanceKey) → same_key a b ≡ true → a ≡ b
same_key_same a b e =
    let n = same_key_fun a b e in
    let i = all_equal_same a.statics b.statics (and_right (a.fun.number == b.fun.number) (all_equal a.statics b.statics) e) in
    ap (λ (x : ℕ). key_of x a.statics) n ∙ ap (λ l. key_of b.fun.number l) i

-- ---- parts

abbrev part_of : ℕ → Option ℤ → Option ℤ → Part
part_of n i j = record { name = record { number = n }; first = i; second = j }

index_refl : (i : Option ℤ) → same_index i i ≡ true
index_refl None = refl
index_refl (Some i) = equal_refl i

index_same : (i j : Option ℤ) → same_index i j ≡ true → i ≡ j
index_same None None e = refl
index_same (Some i) (Some j) e = ap Some (equal_same i j e)
index_same None (Some j) e = absurd (grind (arith, e))
index_same (Some i) None e = absurd (grind (arith, e))

pub same_part_refl : (p : Part) → same_part p p ≡ true
same_part_refl p =
    and_true (p.name.number == p.name.number) (same_index p.first p.first && same_index p.second p.second) (eq-eqb p.name.number p.name.number refl)
    (and_true (same_index p.first p.first) (same_index p.second p.second) (index_refl p.first) (index_refl p.second))

pub same_part_same : (p q : Part) → same_part p q ≡ true → p ≡ q
same_part_same p q e =
    let n = eqb-true p.name.number q.name.number (and_left (p.name.number == q.name.number) (same_index p.first q.first && same_index p.second q.second) e) in
    let r = and_right (p.name.number == q.name.number) (same_index p.first q.first && same_index p.second q.second) e in
    let i = index_same p.first q.first (and_left (same_index p.first q.first) (same_index p.second q.second) r) in
    let j = index_same p.second q.second (and_right (same_index p.first q.first) (same_index p.second q.second) r) in
    ap (λ (x : ℕ). part_of x p.first p.second) n ∙ ap (λ x. part_of q.name.number x p.second) i ∙ ap (λ x. part_of q.name.number q.first x) j
