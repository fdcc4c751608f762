-- The flat form has the meaning of the source.
use Rattle.std.specs.Prelude.{◌≡◌, Bool, true, false, List, [], ◌∷◌, ◌++◌, length, None}
use Rattle.amp_core.specs.declared.Amp.{Amp}
use Rattle.silq_mean.specs.Effect.{Effect, Outcome, follow}
use Rattle.silq_mean.specs.Table.{Job, total_size, meaning, Honest}
use Rattle.silq_mean.specs.Term.{Term}
use Rattle.flat_core.specs.declared.step.WireId.{WireId}
use Rattle.flat_core.specs.declared.step.Step.{Step}
use Rattle.flat_core.specs.declared.step.End.TheVariants.{Zeroed}
use Rattle.flat_core.specs.Form.{FlatForm}
use Rattle.flat_core.specs.Label.{end_of}
use Rattle.flat_core.specs.Sound.{joined, IsFlat}
use Rattle.flat_core.specs.Drafts.{FitsEnds}
use Rattle.flat_mean.specs.Row.{bits_of}
use Rattle.flat_mean.specs.Path.{input_row}
use Rattle.flat_mean.specs.Terms.{Term as WireTerm, first_term, do_steps, seen_at}
use Rattle.bit_arith.specs.Values.{Clean, forced}
use Rattle.flat_form.specs.State.{Flattening}
use Rattle.flat_form.specs.Flat.{flat, flattened}
use Rattle.flat_form.specs.Names.{AllOf}
use Rattle.flat_form.specs.Good.{Good}
use Rattle.flat_form.specs.Fine.{Fine}
use Rattle.flat_form.specs.Jobs.{FineJob, EndsWell}
use Rattle.flat_form.specs.Shows.{ListBoth, Related}

-- ---- effects

-- the steps that an effect adds to what is built: where the condition in force holds they take a term that shows one of the source to terms
-- that show those which follow it, in the same order; where it does not hold they leave each term as it is
pub record Follows (o : Outcome) (e : Effect) (s : Flattening) : Type 0 where
  pub new : List Step
  pub grown : (flat e s).built.draft.steps ≡ s.built.draft.steps ++ new
  pub good : Good (flat e s)
  pub still : (u : WireTerm) → Clean s.built.draft u.row → forced s.setting u.row ≡ false → do_steps o new (u ∷ []) ≡ u ∷ []
  pub gives : (u : WireTerm) (t : Term) → Related s u t → forced s.setting u.row ≡ true → ListBoth (Related (flat e s)) (do_steps o new (u ∷ [])) (follow o e t)

abbrev pub EffectsFollow : Type 0
EffectsFollow = (o : Outcome) (e : Effect) (s : Flattening) → Good s → Fine e s → Follows o e s

-- ---- programs

-- the terms of the flat form, by the values of the wires in reach at the end
abbrev pub flat_meaning : FlatForm → List Bool → Outcome → List (List Bool × Amp)
flat_meaning f input o = seen_at (joined f.outs) (do_steps o f.steps (first_term (input_row f.wires (bits_of input)) ∷ []))

-- the flat form has the meaning of the source, in the same order
abbrev pub FlatHasTheMeaning : Type 0
FlatHasTheMeaning = (j : Job) (input : List Bool) (o : Outcome) → FineJob j → length input ≡ total_size j.shapes → flat_meaning (flattened j).form input o ≡ meaning j input o

-- on an honest input each Zeroed wire is 0 in the end
abbrev pub EachZero : FlatForm → List WireTerm → Type 0
EachZero f us = AllOf (λ u. (w : WireId) → end_of f w ≡ Zeroed → u.row w.number ≡ false) us

abbrev pub ZeroedEndAtZero : Type 0
ZeroedEndAtZero = (j : Job) (input : List Bool) (o : Outcome) → FineJob j → length input ≡ total_size j.shapes → Honest j input → EachZero (flattened j).form (do_steps o (flattened j).form.steps (first_term (input_row (flattened j).form.wires (bits_of input)) ∷ []))

-- ---- ends

-- the ends and the lists of what is made of a program fit
abbrev pub EndsFit : Type 0
EndsFit = (j : Job) → FineJob j → EndsWell j → FitsEnds (flattened j).form

-- within all limits what is made of a program is a flat form
abbrev pub WithinLimitsFlat : Type 0
WithinLimitsFlat = (j : Job) → FineJob j → EndsWell j → (flattened j).over ≡ None → IsFlat (flattened j).form
