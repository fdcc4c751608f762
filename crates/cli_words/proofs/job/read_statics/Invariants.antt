use Rattle.std.proofs.Common.{◌≡◌, ◌++◌, map, drop}
use Rattle.std.specs.Prelude.{option_map}
use Rattle.cli_words.specs.Job.{statics_of}
use Rattle.cli_words.proofs.job.read_statics.Given as goal

-- the values so far, with those of the words that are left, are those of all
abbrev pub invariant-loop-word : goal.invariant-loop-word
invariant-loop-word l = option_map (λ ns. l.values.items ++ ns) (statics_of (map (λ s. s.now) (drop l.word-index l.words)))
    ≡ statics_of (map (λ s. s.now) l.words)
