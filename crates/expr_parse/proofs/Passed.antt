-- Symbols that are passed over, and tokens that are taken.
use Rattle.std.proofs.Common.{◌≡◌, ℕ, ◌-◌, ◌≤◌, List, [], ◌∷◌, cond, nat_lt, refl, arith}
use Rattle.silq_grammar.specs.declared.token.Token.{Token}
use Rattle.silq_grammar.specs.Machine.{Symbol, Ends, nest}
use Rattle.silq_grammar.specs.Outcome.{Outcome, Deep, outcome}

-- the end of what has no closing sign
pub ends_passed : (k : List Symbol) (ts : List Token) → outcome (Ends ∷ k) ts ≡ outcome k ts
unfolding outcome
ends_passed k [] = refl
ends_passed k (t ∷ ts) = refl

-- where the nest is within its limit
pub taken : (ys : List Symbol) (here : List Token) (o : Outcome) → nest ys ≤ 64 → cond (nat_lt 64 (nest ys)) (Deep here) o ≡ o
taken ys here o h = grind arith

pub none_gone : (n : ℕ) → 0 ≡ n - n
none_gone n = search arith
