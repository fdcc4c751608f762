use Rattle.std.specs.Prelude.{◌≡◌, None}
use mathlib.Core.Path.{◌∙◌}
use Rattle.silq_types.specs.Known.{signature_of}
use Rattle.silq_types.proofs.Keys.{added_at_end}
use Rattle.silq_types.proofs.known.Known.add.Goals as goal

pub returns-clause-ok : goal.returns-clause-ok
returns-clause-ok c =
    let r : signature_of c.self.inside.map.entries c.args.key ≡ None = rw c.self.view_is c.requires in
    rw (← c.self.view_is) (c.in_ok-insert.ensures.entries ∙ added_at_end c.self.inside.map.entries c.args.key c.args.signature r)
