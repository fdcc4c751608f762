use Rattle.std.proofs.Common.{◌≡◌, ◌++◌, drop, map, filter, not}
use Rattle.silq_mean.specs.Term.{drop_last, last}
use Rattle.silq_mean.specs.Value.{is_one}
use Rattle.silq_run.proofs.terms.Terms.parted.Given as goal

abbrev pub invariant-loop-term : goal.invariant-loop-term
invariant-loop-term l = record {
  ones : l.ones ++ map drop_last (filter (λ t. is_one (last t)) (drop l.term-index l.term-items)) ≡ map drop_last (filter (λ t. is_one (last t)) l.term-items);
  others : l.others ++ map drop_last (filter (λ t. not (is_one (last t))) (drop l.term-index l.term-items)) ≡ map drop_last (filter (λ t. not (is_one (last t))) l.term-items);
}
