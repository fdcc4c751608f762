-- Lists that name no number twice.
use Rattle.std.proofs.Common.{◌≢◌, ℕ, List, [], ◌∷◌, ◌++◌, sym}
use Rattle.gate_core.specs.Local.{Absent, AllBelow, AllDiffer}

pub absent_front : (x : ℕ) (xs ys : List ℕ) → Absent x (xs ++ ys) → Absent x xs
absent_front x [] ys h = tt
absent_front x (z ∷ zs) ys h = (h.0, absent_front x zs ys h.1)

pub front_differs : (xs ys : List ℕ) → AllDiffer (xs ++ ys) → AllDiffer xs
front_differs [] ys h = tt
front_differs (x ∷ xs) ys h = (absent_front x xs ys h.0, front_differs xs ys h.1)

pub back_differs : (xs ys : List ℕ) → AllDiffer (xs ++ ys) → AllDiffer ys
back_differs [] ys h = h
back_differs (x ∷ xs) ys h = back_differs xs ys h.1

absent_middle : (x b : ℕ) (xs ys : List ℕ) → Absent x (xs ++ b ∷ ys) → b ≢ x
absent_middle x b [] ys h = h.0
absent_middle x b (z ∷ zs) ys h = absent_middle x b zs ys h.1

-- a number in the middle is none of those before it
pub differ_middle : (b : ℕ) (xs ys : List ℕ) → AllDiffer (xs ++ b ∷ ys) → Absent b xs
differ_middle b [] ys h = tt
differ_middle b (x ∷ xs) ys h = (λ e. absent_middle x b xs ys h.0 (sym e), differ_middle b xs ys h.1)

absent_without : (x b : ℕ) (xs ys : List ℕ) → Absent x (xs ++ b ∷ ys) → Absent x (xs ++ ys)
absent_without x b [] ys h = h.1
absent_without x b (z ∷ zs) ys h = (h.0, absent_without x b zs ys h.1)

differ_without : (b : ℕ) (xs ys : List ℕ) → AllDiffer (xs ++ b ∷ ys) → AllDiffer (xs ++ ys)
differ_without b [] ys h = h.1
differ_without b (x ∷ xs) ys h = (absent_without x b xs ys h.0, differ_without b xs ys h.1)

-- none of these numbers is among those
abbrev pub AreAbsent : List ℕ → List ℕ → Type 0
AreAbsent seen [] = Unit {0}
AreAbsent seen (q ∷ qs) = Absent q seen × AreAbsent seen qs

pub one_more : (q : ℕ) (seen qs : List ℕ) → AreAbsent seen qs → Absent q qs → AreAbsent (q ∷ seen) qs
one_more q seen [] h a = tt
one_more q seen (p ∷ ps) h a = ((λ e. a.0 (sym e), h.0), one_more q seen ps h.1 a.1)

pub are_absent : (xs qs : List ℕ) → AllDiffer (xs ++ qs) → AreAbsent xs qs
are_absent xs [] h = tt
are_absent xs (q ∷ qs) h = (differ_middle q xs qs h, are_absent xs qs (differ_without q xs qs h))

pub below_front : (n : ℕ) (xs ys : List ℕ) → AllBelow n (xs ++ ys) → AllBelow n xs
below_front n [] ys h = tt
below_front n (x ∷ xs) ys h = (h.0, below_front n xs ys h.1)

pub below_back : (n : ℕ) (xs ys : List ℕ) → AllBelow n (xs ++ ys) → AllBelow n ys
below_back n [] ys h = h
below_back n (x ∷ xs) ys h = below_back n xs ys h.1
