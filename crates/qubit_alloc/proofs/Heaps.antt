-- A heap with its order turned round gives the least of its numbers.
use Rattle.std.proofs.Common.{◌≡◌, ℕ, ◌≤◌, false, List, map, All, IsOk, OnOk, Result, Ok, Err}
use Rattle.std.proofs.lemmas.List.Elements.{All-map, All-from_recursion, All-weaker}
use Rattle.std.proofs.HeapSift.{at_most}
use Rattle.std.specs.BinaryHeap.{lt_by_cmp, IsUpperBound}
use Rattle.std.specs.Ordering.{nat_cmp}
use Rattle.std.specs.declared.cmp.Reverse.{Reverse}

pub least_first : (x : Reverse ℕ) (xs : List (Reverse ℕ)) → IsUpperBound (λ a b. nat_cmp b.0 a.0) x xs → All (λ n. x.0 ≤ n) (map (λ y. y.0) xs)
least_first x xs h = All-map (λ n. x.0 ≤ n) (λ y. y.0) xs (All-weaker (λ y. lt_by_cmp nat_cmp y.0 x.0 ≡ false) (λ y. x.0 ≤ y.0) (λ y e. at_most y.0 x.0 e) xs (All-from_recursion (λ y. lt_by_cmp nat_cmp y.0 x.0 ≡ false) xs h))

pub ok_holds : {T E : Type 0} (r : Result T E) (p : Type 0) → IsOk r → OnOk r p → p
ok_holds (Ok x) p i h = h
ok_holds (Err e) p i h = absurd (cc)
