use Rattle.std.proofs.Common.{◌≡◌, length, rules}
use Rattle.check_scope.specs.NameIndex.{names_of, last_below}
use Rattle.check_scope.proofs.NameChains.{index_push}
use Rattle.check_scope.proofs.name_index.NameIndex.push.Goals as goal

pub invariant_of-self-in-Ok : goal.invariant_of-self-in-Ok
invariant_of-self-in-Ok c =
    let links = c.self.inside.links.items in
    let last : c.last-before.result ≡ last_below (names_of links) (length (names_of links)) c.args.name = rw c.self.view_is c.last-before.ensures in
    index_push _ _ links _ c.args.name _ _ c.self.invariant last (search rules) c.in_ok-push.ensures.items c.in-Ok.ensures.updates.0
