-- What all terms at once have to do with the parts of an effect.
use Rattle.std.proofs.Common.{◌≡◌, ◌+◌, List, [], ◌∷◌, ◌++◌, length, Result, Ok, Err, refl}
use Rattle.silq_types.specs.Rules.{and_then}
use Rattle.silq_mean.specs.Term.{Term}
use Rattle.silq_mean.specs.Effect.{RunFault, run}
use Rattle.silq_mean.specs.Table.{start, outcome_of}
use Rattle.silq_run.specs.Ran.{ran, with_terms, first_way, second_way, ones_of, others_of}
use Rattle.silq_run.specs.Laws.{PartsRunInTurn, StatementsRun, ChoicesRun, WholeRuns}

pub in_turn : PartsRunInTurn
in_turn a b s = pick (run (outcome_of s.outcome) s.waiting a s.terms)
  where
    pick : (r : Result (List Term) RunFault) → and_then (and_then r (run (outcome_of s.outcome) s.waiting b)) (λ ts. Ok (with_terms s ts)) ≡ and_then (and_then r (λ ts. Ok (with_terms s ts))) (ran b)
    pick (Ok ts) = refl
    pick (Err f) = refl

pub statements : StatementsRun
statements line e s = refl

pub choices : ChoicesRun
choices a b s = pick (run (outcome_of s.outcome) (s.waiting + length (others_of s.terms)) a (ones_of s.terms))
  where
    finish : (firsts : List Term) (r : Result (List Term) RunFault) → and_then (and_then r (λ seconds. Ok (firsts ++ seconds))) (λ ts. Ok (with_terms s ts)) ≡ and_then (and_then r (λ ts. Ok (with_terms (second_way s firsts) ts))) (λ v. Ok (with_terms s (firsts ++ v.terms)))
    finish firsts (Ok seconds) = refl
    finish firsts (Err f) = refl

    pick : (r : Result (List Term) RunFault) →
        and_then (and_then r (λ firsts. and_then (run (outcome_of s.outcome) (s.waiting + length firsts) b (others_of s.terms)) (λ seconds. Ok (firsts ++ seconds)))) (λ ts. Ok (with_terms s ts))
        ≡ and_then (and_then r (λ ts. Ok (with_terms (first_way s) ts))) (λ u. and_then (ran b (second_way s u.terms)) (λ v. Ok (with_terms s (u.terms ++ v.terms))))
    pick (Ok firsts) = finish firsts (run (outcome_of s.outcome) (s.waiting + length firsts) b (others_of s.terms))
    pick (Err f) = refl

pub whole : WholeRuns
whole j input outcome = pick (run (outcome_of outcome) 0 j.effect (start j input ∷ []))
  where
    pick : (r : Result (List Term) RunFault) → and_then (and_then r (λ ts. Ok (with_terms (record { outcome = outcome; waiting = 0; terms = start j input ∷ [] }) ts))) (λ s. Ok s.terms) ≡ r
    pick (Ok ts) = refl
    pick (Err f) = refl
