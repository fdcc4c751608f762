use Rattle.sum_laws.proofs.laws.zero_terms_may_be_left_out.Goals as goal
use Rattle.sum_laws.proofs.TermLists.{SameTerms-refl, SameTerms-append}
use Rattle.sum_laws.proofs.Counts.{SameTerms-drop}

pub returns : goal.returns
returns c = λ v x ts us h. SameTerms-append (SameTerms-refl ts) (SameTerms-drop v x us h)
