use Rattle.read_laws.proofs.ReadBack.{read_back}
use Rattle.read_laws.proofs.laws.written_texts_read_back.Goals as goal

pub returns : goal.returns
returns c = read_back
