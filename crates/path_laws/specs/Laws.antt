-- The laws that join what a source means to the paths of its flat form, as statements.
use Rattle.std.specs.Prelude.{◌≡◌, ℕ, Bool, true, List, [], ◌∷◌, length, map, reverse, Contains}
use Rattle.sum_laws.specs.Terms.{positions}
use Rattle.silq_types.specs.Types.{shape_bits}
use Rattle.silq_mean.specs.Value.{bits_of as value_bits}
use Rattle.silq_mean.specs.Term.{Term as SourceTerm}
use Rattle.silq_mean.specs.Effect.{Outcome, outcomes}
use Rattle.silq_mean.specs.Table.{Job, total_size, start, terms, mean, Honest}
use Rattle.flat_core.specs.declared.step.Step.{Step}
use Rattle.flat_core.specs.Form.{FlatForm}
use Rattle.flat_core.specs.Label.{wire_id}
use Rattle.flat_core.specs.Sound.{joined, IsFlat}
use Rattle.flat_mean.specs.Row.{Row, bits_of}
use Rattle.flat_mean.specs.Path.{input_row, path_agrees}
use Rattle.flat_mean.specs.Terms.{first_term, do_steps}
use Rattle.flat_mean.specs.Laws.{counts, top_term, path_amplitude}
use Rattle.flat_form.specs.Flat.{flattened}
use Rattle.flat_form.specs.Names.{AllOf}
use Rattle.flat_form.specs.Jobs.{FineJob}
use Rattle.move_plan.specs.Laws.{ZeroedAreZero}

-- the row with which the paths of a program's flat form begin on some input bits
abbrev pub begin_row : Job → List Bool → Row
begin_row j input = input_row (flattened j).form.wires (bits_of input)

-- ---- what the source gives

-- the amplitude that the source gives to a value is the sum of the weights of the agreeing paths that have it on the
-- wires of the results
abbrev pub MeaningGivesPaths : Type 0
MeaningGivesPaths =
    (j : Job) (input : List Bool) (o : Outcome) (v : List Bool) → FineJob j → length input ≡ total_size j.shapes
    → mean j input o v ≡ path_amplitude (flattened j).form.steps (begin_row j input) o (joined (flattened j).form.outs) v

-- the flat form has as many outcome bits as the source
abbrev pub OutcomesAreCounted : Type 0
OutcomesAreCounted =
    (j : Job) (input : List Bool) → FineJob j → length input ≡ total_size j.shapes
    → (flattened j).form.outcomes ≡ outcomes j.effect (start j input)

-- each term at the end of the source has told as many outcomes as the flat form has, and each value that it returns has
-- as many bits as the form has wires for it
pub record TermFits (f : FlatForm) (t : SourceTerm) : Type 0 where
  pub outcomes_told : f.outcomes ≡ t.measured
  pub bits_of_results : map length f.outs ≡ map (λ w. length (value_bits w)) (reverse t.values)

abbrev pub TermsFit : Type 0
TermsFit =
    (j : Job) (input : List Bool) (o : Outcome) → FineJob j → length input ≡ total_size j.shapes
    → AllOf (TermFits (flattened j).form) (terms j input o)

-- ---- parameters

-- the wires of the parameters are the first ones, in their order
abbrev pub ParametersComeFirst : Type 0
ParametersComeFirst = (j : Job) → joined (flattened j).form.ins ≡ map wire_id (positions (total_size j.shapes))

-- each parameter has a wire for each bit of its type
abbrev pub ParametersHaveTheirBits : Type 0
ParametersHaveTheirBits = (j : Job) → map length (flattened j).form.ins ≡ map shape_bits j.shapes

-- ---- paths and terms

-- a path that counts has its term among those that the steps make one by one
abbrev pub EachPathHasATerm : Type 0
EachPathHasATerm =
    (steps : List Step) (input : Row) (outcome choice : ℕ → Bool) → counts steps input outcome choice ≡ true
    → Contains (do_steps outcome steps (first_term input ∷ [])) (top_term steps input choice)

-- each path agrees with some outcome bits: no two measures have the same number
abbrev pub EachPathHasAnOutcome : Type 0
EachPathHasAnOutcome = (f : FlatForm) (input : Row) (choice : ℕ → Bool) → IsFlat f → (outcome : ℕ → Bool) × (path_agrees f.steps input outcome choice ≡ true)

-- on an honest input each Zeroed wire is 0 on each path whose weight is not zero
abbrev pub HonestGivesZeros : Type 0
HonestGivesZeros =
    (j : Job) (input : List Bool) → FineJob j → length input ≡ total_size j.shapes → Honest j input → IsFlat (flattened j).form
    → ZeroedAreZero (flattened j).form (begin_row j input)
