use Rattle.flat_core.proofs.Finishes.{drafts_become_flat}
use Rattle.flat_core.proofs.laws.drafts_become_flat.Goals as goal

pub returns : goal.returns
returns c = drafts_become_flat
