-- A list of literals, as patterns of slices split it.
use Rattle.std.proofs.Common.{◌≡◌, ℕ, suc, ◌+◌, ◌-◌, ◌<◌, ◌≤◌, List, [], ◌∷◌, ◌++◌, length, get_or, take, drop, false, refl, sym, ap, ◌∙◌, arith}
use Rattle.std.proofs.lemmas.List.{take_more, take_all}
use Rattle.flat_core.specs.declared.step.Lit.{Lit}
use Rattle.flat_core.specs.Label.{wire_id}

-- what is read past the end of a list
abbrev pub no_lit : Lit
no_lit = record { wire = wire_id 0; positive = false }

pub none_left : (ls : List Lit) → length ls < 1 → ls ≡ []
none_left [] h = refl
none_left (l ∷ ls) h = absurd (omega arith)

pub only_one : (ls : List Lit) → 1 ≤ length ls → length ls < 2 → ls ≡ get_or ls 0 no_lit ∷ []
only_one [] h k = absurd (omega arith)
only_one (l ∷ ls) h k = ap (λ (xs : List Lit). l ∷ xs) (none_left ls (omega arith))

pub first_and_rest : (ls : List Lit) → 1 ≤ length ls → ls ≡ get_or ls 0 no_lit ∷ take (length ls - 1) (drop 1 ls)
first_and_rest [] h = absurd (omega arith)
first_and_rest (l ∷ ls) h = ap (λ (xs : List Lit). l ∷ xs) (sym (take_all (length (l ∷ ls) - 1) ls (omega arith)))

front_and_end : (ls : List Lit) (n m : ℕ) → length ls ≡ n + 1 → m ≡ n → ls ≡ take m ls ++ get_or ls n no_lit ∷ []
front_and_end ls n m e f = sym (take_all (n + 1) ls (omega arith)) ∙ take_more ls n no_lit (omega arith) ∙ ap (λ (k : ℕ). take k ls ++ get_or ls n no_lit ∷ []) (sym f)

pub first_and_last : (ls : List Lit) → 2 ≤ length ls → ls ≡ get_or ls 0 no_lit ∷ (take (length ls - 1 - 1) (drop 1 ls) ++ get_or ls (length ls - 1) no_lit ∷ [])
first_and_last [] h = absurd (omega arith)
first_and_last (l ∷ []) h = absurd (omega arith)
first_and_last (l ∷ m ∷ ls) h =
    let n : ℕ = length ls in
    let shown : get_or (l ∷ m ∷ ls) (length (l ∷ m ∷ ls) - 1) no_lit ≡ get_or (m ∷ ls) n no_lit = ap (λ (k : ℕ). get_or (l ∷ m ∷ ls) k no_lit) (let e : length (l ∷ m ∷ ls) - 1 ≡ suc n = omega arith in e) in
    ap (λ (xs : List Lit). l ∷ xs)
    (front_and_end (m ∷ ls) n (length (l ∷ m ∷ ls) - 1 - 1) (omega arith) (omega arith)
    ∙ ap (λ (x : Lit). take (length (l ∷ m ∷ ls) - 1 - 1) (m ∷ ls) ++ x ∷ []) (sym shown))
