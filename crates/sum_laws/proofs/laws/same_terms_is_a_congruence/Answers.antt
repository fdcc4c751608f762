use Rattle.sum_laws.proofs.laws.same_terms_is_a_congruence.Goals as goal
use Rattle.sum_laws.proofs.TermLists.{SameTerms-refl, SameTerms-sym, SameTerms-trans, SameTerms-append}

pub returns : goal.returns
returns c = record {
  reflexive = SameTerms-refl;
  symmetric = λ ts us h. SameTerms-sym h;
  transitive = λ ts us ws h k. SameTerms-trans h k;
  of_joined = λ ts ts' us us' h k. SameTerms-append h k;
}
