use Rattle.std.proofs.Common.{◌≡◌, ◌++◌, ◌∷◌, [], flat_map, true, false, drop}
use Rattle.silq_mean.specs.Term.{hadamard}
use Rattle.silq_run.proofs.terms.Terms.mixed.Given as goal

abbrev pub invariant-loop-term : goal.invariant-loop-term
invariant-loop-term l = l.mixed ++ flat_map (λ t. hadamard false t ∷ hadamard true t ∷ []) (drop l.term-index l.term-items) ≡ flat_map (λ t. hadamard false t ∷ hadamard true t ∷ []) l.term-items
