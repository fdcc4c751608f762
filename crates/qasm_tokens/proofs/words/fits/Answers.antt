use Rattle.std.proofs.Common.{◌≡◌, ◌<◌, true, length, ◌∙◌}
use Rattle.std.specs.List.{list_all}
use Rattle.std.specs.Str.{chars}
use Rattle.std.proofs.lemmas.Str.Parse.{parse_digits}
use Rattle.silq_lex.specs.Characters.{is_digit}
use Rattle.silq_lex.proofs.Texts.{digits_model, number_digits, digits-chars}
use Rattle.qasm_tokens.proofs.Spelled.{number_fits}
use Rattle.qasm_tokens.proofs.words.fits.Goals as goal

pub returns : goal.returns
returns c =
    let d = number_digits (chars c.args.digits.now) c.requires in
    let e = digits-chars c.args.digits.now c.utf8.digits d.0 in
    let all : list_all is_digit c.args.digits.now ≡ true = rw e at d.0 in
    let long : 0 < length c.args.digits.now = rw e at d.1 in
    c.is_ok.ensures.value
    ∙ rw e (number_fits c.parse.result _ c.args.digits.now long (parse_digits digits_model 32 c.args.digits.now _ c.parse.ensures.value.0 all))
