use Rattle.sum_laws.proofs.laws.terms_of_one_value_may_be_joined.Goals as goal
use Rattle.sum_laws.proofs.TermLists.{SameTerms-refl, SameTerms-append}
use Rattle.sum_laws.proofs.Counts.{SameTerms-join}

pub returns : goal.returns
returns c = λ v x y ts us. SameTerms-append (SameTerms-refl ts) (SameTerms-join v x y us)
