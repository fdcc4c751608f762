use Rattle.sum_laws.proofs.laws.tables_keep_amplitudes.Goals as goal
use Rattle.sum_laws.proofs.TableTerms.{SameTerms-table, TableOf-same}

pub returns : goal.returns
returns c = record { same_terms = SameTerms-table; of_equal_terms = TableOf-same }
