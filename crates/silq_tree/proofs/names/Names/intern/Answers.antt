use Rattle.std.proofs.Common.{map, string_bytes}
use Rattle.silq_tree.specs.Texts.{AreDifferent, KeepsNames}
use Rattle.silq_tree.proofs.Interned.{different_with, kept_with, text_found, name_there, name_inserted, text_inserted}
use Rattle.silq_tree.proofs.names.Names.intern.Goals as goal

pub returns-in-Some-clause-names : goal.returns-in-Some-clause-names
returns-in-Some-clause-names c = rw (← c.self.view_is) (name_there string_bytes c.self.inside.texts.keys c.args.text.now c.in-Some.ensures.found)

pub returns-in-Some-clause-text : goal.returns-in-Some-clause-text
returns-in-Some-clause-text c = rw (← c.self.view_is) (text_found string_bytes c.self.inside.texts.keys c.args.text.now c.in-Some.index c.in-Some.ensures.index)

pub returns-in-Some-clause-different : goal.returns-in-Some-clause-different
returns-in-Some-clause-different c = let d : AreDifferent c.args.self.now = rw (← c.self.view_is) c.self.invariant in d

pub returns-clause-names : goal.returns-clause-names
returns-clause-names c =
    rw (← c.self.view_is) (name_inserted string_bytes c.self.inside.texts.keys c.insert_full.new.self.keys c.in_ok-owned.owned c.args.text.now c.in_ok-owned.ensures.ok c.in_ok-index.ensures.keys)

pub invariant_of-self-2 : goal.invariant_of-self-2
invariant_of-self-2 c =
    rw (name_inserted string_bytes c.self.inside.texts.keys c.insert_full.new.self.keys c.in_ok-owned.owned c.args.text.now c.in_ok-owned.ensures.ok c.in_ok-index.ensures.keys)
    (different_with (map string_bytes c.self.inside.texts.keys) c.args.text.now c.self.invariant)

pub returns-clause-text : goal.returns-clause-text
returns-clause-text c =
    let s = c.in_ok-index.ensures.stored in
    text_inserted string_bytes c.insert_full.new.self.keys c.in_ok-owned.owned s.0 c.in_ok-index.index c.args.text.now c.in_ok-owned.ensures.ok s.1 s.2

pub returns-clause-kept : goal.returns-clause-kept
returns-clause-kept c =
    let n = name_inserted string_bytes c.self.inside.texts.keys c.insert_full.new.self.keys c.in_ok-owned.owned c.args.text.now c.in_ok-owned.ensures.ok c.in_ok-index.ensures.keys in
    let k : KeepsNames (map string_bytes c.self.inside.texts.keys) (map string_bytes c.insert_full.new.self.keys) = rw n (kept_with (map string_bytes c.self.inside.texts.keys) c.args.text.now) in
    rw (← c.self.view_is) k

pub returns-clause-different : goal.returns-clause-different
returns-clause-different c = invariant_of-self-2 c
