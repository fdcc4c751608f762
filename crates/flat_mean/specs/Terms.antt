-- Terms over the values of wires, and what steps do with them in their order.
use Rattle.std.specs.Prelude.{ℕ, ◌+◌, Bool, true, false, cond, ◌&&◌, List, [], ◌∷◌, ◌++◌, map}
use Rattle.amp_core.specs.declared.Amp.{Amp}
use Rattle.amp_core.specs.Amplitude.{one, times}
use Rattle.flat_core.specs.declared.step.Step.{Step}
use Rattle.flat_core.specs.declared.step.WireId.{WireId}
use Rattle.flat_mean.specs.Row.{Row, next, is_h, is_possible, agrees, halvings, eighths}

-- the values of the wires, with the amplitude w to the eighths over root two to the halvings
pub record Term : Type 0 where
  pub row : Row
  pub halvings : ℕ
  pub eighths : ℕ

-- the one term that a row begins with, of amplitude 1
abbrev pub first_term : Row → Term
first_term row = record { row = row; halvings = 0; eighths = 0 }

-- what a step makes of a term under one choice bit: nothing where the factor is 0 or an outcome bit is not met
abbrev pub branch : (ℕ → Bool) → Step → Bool → Term → List Term
branch outcome s k t = cond (is_possible s k t.row && agrees outcome s t.row) (record { row = next s k t.row; halvings = t.halvings + halvings s t.row; eighths = t.eighths + eighths s k t.row } ∷ []) []

-- an H step has both choice bits, every other step one
abbrev pub do_step : (ℕ → Bool) → Step → Term → List Term
do_step outcome s t = cond (is_h s) (branch outcome s false t ++ branch outcome s true t) (branch outcome s false t)

-- each term replaced by the terms made of it
abbrev pub each : (Term → List Term) → List Term → List Term
each g [] = []
each g (t ∷ ts) = g t ++ each g ts

-- the steps one by one
abbrev pub do_steps : (ℕ → Bool) → List Step → List Term → List Term
do_steps outcome [] ts = ts
do_steps outcome (s ∷ ss) ts = do_steps outcome ss (each (do_step outcome s) ts)

-- the sum of what the terms of a list give
abbrev pub total : {S : Type 0} → S → (S → S → S) → (Term → S) → List Term → S
total none plus g [] = none
total none plus g (t ∷ ts) = plus (g t) (total none plus g ts)

-- the amplitude of a term
abbrev pub weight : Term → Amp
weight t = times t.eighths t.halvings one

-- the values of some wires in a row
abbrev pub values_of : List WireId → Row → List Bool
values_of wires row = map (λ w. row w.number) wires

-- each term as the values of some wires with its amplitude
abbrev pub seen_at : List WireId → List Term → List (List Bool × Amp)
seen_at wires ts = map (λ t. (values_of wires t.row, weight t)) ts
