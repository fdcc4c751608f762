use mathlib.Core.Path.{◌∙◌}
use Rattle.silq_types.proofs.Keys.{found_by_key}
use Rattle.silq_types.proofs.known.Known.get.Goals as goal

pub returns : goal.returns
returns c = rw (← c.self.view_is) (c.get.ensures.value ∙ found_by_key c.self.inside.map c.args.key.now)
