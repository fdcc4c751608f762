use Rattle.table_laws.proofs.Sources.{compiled_tables_agree}
use Rattle.table_laws.proofs.laws.compiled_tables_agree.Goals as goal

pub returns : goal.returns
returns c = compiled_tables_agree
