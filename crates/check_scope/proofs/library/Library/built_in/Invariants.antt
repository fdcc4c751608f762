use Rattle.std.proofs.Common.{◌≡◌, drop}
use Rattle.silq_types.specs.Calls.{built_in}
use Rattle.check_scope.proofs.library.Library.built_in.Given as goal

-- the rest tells
abbrev pub invariant-loop-word : goal.invariant-loop-word
invariant-loop-word l = built_in (drop l.word-index l.self.words) l.name ≡ built_in l.self.words l.name
