-- Term lists whose values do not fall, and what closing a value adds to the rows of a table.
use Rattle.std.specs.Prelude.{◌≡◌, ◌⊎◌, Bool, false, List, [], ◌∷◌, ◌++◌, All, filter}
use Rattle.amp_core.specs.declared.Amp.{Amp}
use Rattle.amp_core.specs.Amplitude.{none, Same, IsReduced}
use Rattle.sum_laws.specs.Terms.{same_bits}
use Rattle.sum_laws.specs.Table.{bits_below}

-- no later value is below an earlier one
abbrev pub NeverFalling : List (List Bool × Amp) → Type 0
NeverFalling [] = Unit {0}
NeverFalling (t ∷ ts) = All (λ u. bits_below u.0 t.0 ≡ false) ts × NeverFalling ts

-- the terms of one value, in their order
abbrev pub terms_of : List Bool → List (List Bool × Amp) → List (List Bool × Amp)
terms_of v ts = filter (λ t. same_bits t.0 v) ts

-- the row of a value whose sum is s
pub record IsRowFor (s r : List Bool × Amp) : Type 0 where
  pub value : r.0 ≡ s.0
  pub same : Same r.1 s.1
  pub reduced : IsReduced r.1
  pub not_zero : Same s.1 none → ⊥

-- the row of a value is added, but for one whose sum is zero
abbrev pub AddsRow : List Bool × Amp → List (List Bool × Amp) → List (List Bool × Amp) → Type 0
AddsRow s rows more = (Same s.1 none × (more ≡ rows)) ⊎ ((r : List Bool × Amp) × IsRowFor s r × (more ≡ rows ++ r ∷ []))
