use Rattle.std.proofs.Common.{sym, ◌∙◌, refl}
use lib.Utf8.{encode}
use Rattle.silq_lex.specs.Kinds.{reserved}
use Rattle.silq_lex.proofs.Texts.{is_one_of-chars}
use Rattle.silq_lex.proofs.words.is_reserved.Goals as goal

pub returns : goal.returns
unfolding encode
returns c = c.contains.ensures.value ∙ sym (is_one_of-chars reserved c.args.text.now c.utf8.text refl)
