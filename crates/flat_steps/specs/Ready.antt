-- From which states an effect may be carried out.
use Rattle.silq_mean.specs.Effect.{Effect}
use Rattle.flat_form.specs.State.{Flattening}
use Rattle.flat_form.specs.Good.{Good}
use Rattle.flat_form.specs.Fine.{Fine}

-- what holds of each state, and what the rules of typing give of the effect from here on
pub record Ready (e : Effect) (s : Flattening) : Type 0 where
  pub good : Good s
  pub fine : Fine e s
