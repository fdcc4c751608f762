use Rattle.std.proofs.Common.{sym, rules}
use Rattle.check_scope.proofs.NameChains.{index_pop, index_has}
use Rattle.check_scope.proofs.name_index.NameIndex.pop.Goals as goal

pub invariant_of-self : goal.invariant_of-self
invariant_of-self c =
    let written = (c.get_mut.follows.holds c.in-Some.link.before).3 (search rules) in
    index_pop _ _ _ _ _ c.self.invariant c.in-Some.ensures.items written.0

pub invariant_of-self-in_default-get_mut : goal.invariant_of-self-in_default-get_mut
invariant_of-self-in_default-get_mut c = absurd (index_has _ _ _ _ c.self.invariant c.in-Some.ensures.items (sym c.in_default-get_mut.ensures.value))
