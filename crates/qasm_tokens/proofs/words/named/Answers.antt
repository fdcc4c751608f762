use Rattle.std.proofs.Common.{refl, ◌∙◌}
use lib.Utf8.{encode}
use Rattle.qasm_tokens.specs.Words.{words}
use Rattle.qasm_tokens.proofs.Spelled.{found_is}
use Rattle.qasm_tokens.proofs.words.named.Goals as goal

pub returns : goal.returns
unfolding encode
returns c = c.find.ensures ∙ found_is words c.args.text.now c.utf8.text refl
