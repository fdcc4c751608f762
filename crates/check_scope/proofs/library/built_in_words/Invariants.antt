use Rattle.std.proofs.Common.{◌≡◌, ◌++◌, drop}
use Rattle.silq_types.specs.Words.{words_from, words_of}
use Rattle.check_scope.proofs.library.built_in_words.Given as goal

-- those so far, and those of the rest
abbrev pub invariant-loop-number : goal.invariant-loop-number
invariant-loop-number l = l.words.items ++ words_from l.number (drop l.number l.names) ≡ words_of l.names
