use Rattle.std.proofs.Common.{◌≡◌, map, codes, drop}
use Rattle.std.specs.List.{list_any}
use Rattle.std.specs.Str.{bytes_eq}
use Rattle.cli_words.proofs.job.has_dash.Given as goal

-- no word so far is `-`
abbrev pub invariant-loop-word : goal.invariant-loop-word
invariant-loop-word l = list_any (λ w. bytes_eq w (codes "-")) (map (λ s. s.now) l.words)
    ≡ list_any (λ w. bytes_eq w (codes "-")) (map (λ s. s.now) (drop l.word-index l.words))
