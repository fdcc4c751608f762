-- What an effect does to all terms at once, where `waiting` terms stand before the other way of a choice.
use Rattle.std.specs.Prelude.{◌≡◌, ℕ, ◌+◌, Bool, not, List, length, map, filter, Result, Ok, Err}
use Rattle.silq_types.specs.Rules.{and_then}
use Rattle.silq_mean.specs.Value.{is_one}
use Rattle.silq_mean.specs.Term.{Term, last, drop_last}
use Rattle.silq_mean.specs.Effect.{Effect, RunFault, run}
use Rattle.silq_mean.specs.Effect as effects
use Rattle.silq_mean.specs.Table.{outcome_of}
use Rattle.silq_run.specs.declared.fault.Stop.{Stop}
use Rattle.silq_run.specs.declared.fault.Stop.TheVariants.{Memory, TooManyTerms, ForgetFalse}

pub record State : Type 0 where
  pub outcome : List Bool
  pub waiting : ℕ
  pub terms : List Term

abbrev pub with_terms : State → List Term → State
with_terms s ts = record s { terms = ts }

abbrev pub ran : Effect → State → Result State RunFault
ran e s = and_then (run (outcome_of s.outcome) s.waiting e s.terms) (λ ts. Ok (with_terms s ts))

-- the refusal that comes; want of memory alone is free
abbrev pub IsRefusal : Stop → Result State RunFault → Type 0
IsRefusal Memory r = Unit {0}
IsRefusal TooManyTerms r = r ≡ Err effects.TooManyTerms
IsRefusal (ForgetFalse line) r = r ≡ Err (effects.ForgetFalse line)

-- ---- a choice by the last value

abbrev pub ones_of : List Term → List Term
ones_of ts = map drop_last (filter (λ t. is_one (last t)) ts)

abbrev pub others_of : List Term → List Term
others_of ts = map drop_last (filter (λ t. not (is_one (last t))) ts)

-- the terms where it is 1, while the others wait
abbrev pub first_way : State → State
first_way s = record { outcome = s.outcome; waiting = s.waiting + length (others_of s.terms); terms = ones_of s.terms }

-- the others, while the terms of the first way wait
abbrev pub second_way : State → List Term → State
second_way s firsts = record { outcome = s.outcome; waiting = s.waiting + length firsts; terms = others_of s.terms }
