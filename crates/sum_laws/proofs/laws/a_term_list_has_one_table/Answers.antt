use Rattle.sum_laws.proofs.laws.a_term_list_has_one_table.Goals as goal
use Rattle.sum_laws.proofs.Tables.{one_table}

pub returns : goal.returns
returns c = one_table
