-- What a `?` hands on.
use Rattle.std.proofs.Common.{◌≡◌, Result, Ok, Err, MatchResult, IsErrAnd, sym, subst, ◌∙◌}
use Rattle.silq_grammar.specs.Outcome.{Outcome}
use Rattle.expr_parse.specs.Stops.{StopsAt}
use Rattle.expr_parse.specs.declared.stop.Stop.{Stop}

pub stops : {T : Type 0} (r : Result T Stop) (s : Stop) (a b : Outcome) (P : T → Type 0) → IsErrAnd r (λ y. y ≡ s) → a ≡ b → StopsAt b s → MatchResult r P (λ s. StopsAt a s)
stops (Ok x) s a b P e p h = absurd e
stops (Err y) s a b P e p h = subst (λ w. StopsAt a w) (sym e) (subst (λ w. StopsAt w s) (sym p) h)

-- the same behind a first step
pub stops_behind : {T : Type 0} (r : Result T Stop) (s : Stop) (a b c : Outcome) (P : T → Type 0) → IsErrAnd r (λ y. y ≡ s) → b ≡ c → StopsAt c s → a ≡ b → MatchResult r P (λ s. StopsAt a s)
stops_behind r s a b c P e p h q = stops r s a c P e (q ∙ p) h

pub behind : {a b c : Outcome} → b ≡ c → a ≡ b → a ≡ c
behind p q = q ∙ p
