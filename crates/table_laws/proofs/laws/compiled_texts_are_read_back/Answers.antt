use Rattle.table_laws.proofs.Sources.{compiled_texts_are_read_back}
use Rattle.table_laws.proofs.laws.compiled_texts_are_read_back.Goals as goal

pub returns : goal.returns
returns c = compiled_texts_are_read_back
