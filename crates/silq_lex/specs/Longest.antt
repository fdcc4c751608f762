-- The longest front of a list.
use Rattle.std.specs.Prelude.{ℕ, Bool, List, [], ◌∷◌, Option, Some, None, if◌then◌else◌, option_map}

abbrev pub or_else : {X : Type 0} → Option X → Option X → Option X
or_else (Some x) o = Some x
or_else None o = o

-- the longest front of a list that passes a test
abbrev pub longest : (List ℕ → Bool) → List ℕ → Option (List ℕ)
longest test [] = if test [] then Some [] else None
longest test (c ∷ cs) =
    or_else (option_map (λ front. c ∷ front) (longest (λ front. test (c ∷ front)) cs)) (if test [] then Some [] else None)
