use Rattle.std.proofs.Common.{◌≡◌, ◌<◌, ◌^◌, true, length, refl}
use Rattle.std.specs.List.{list_all}
use Rattle.std.specs.Str.{chars}
use Rattle.std.proofs.lemmas.Str.Parse.{parse_digits}
use Rattle.silq_lex.specs.Kinds.{number_of}
use Rattle.silq_lex.specs.Characters.{is_digit}
use Rattle.silq_lex.proofs.Texts.{digits_model, number_digits, digits-chars}
use Rattle.qasm_tokens.proofs.Spelled.{number_parsed}
use Rattle.qasm_tokens.proofs.words.number.Goals as goal

pub unwrap-requires : goal.unwrap-requires
unwrap-requires c =
    let d = number_digits (chars c.args.digits.now) c.requires.digits in
    let e = digits-chars c.args.digits.now c.utf8.digits d.0 in
    let all : list_all is_digit c.args.digits.now ≡ true = rw e at d.0 in
    let long : 0 < length c.args.digits.now = rw e at d.1 in
    let fits : number_of c.args.digits.now < 2 ^ 32 = rw e at c.requires.fits in
    rw (number_parsed c.parse.result (number_of c.args.digits.now) c.args.digits.now long fits (parse_digits digits_model 32 c.args.digits.now _ c.parse.ensures.value.0 all)) refl

pub returns : goal.returns
returns c =
    let d = number_digits (chars c.args.digits.now) c.requires.digits in
    let e = digits-chars c.args.digits.now c.utf8.digits d.0 in
    let all : list_all is_digit c.args.digits.now ≡ true = rw e at d.0 in
    let long : 0 < length c.args.digits.now = rw e at d.1 in
    let fits : number_of c.args.digits.now < 2 ^ 32 = rw e at c.requires.fits in
    let p = number_parsed c.parse.result (number_of c.args.digits.now) c.args.digits.now long fits (parse_digits digits_model 32 c.args.digits.now _ c.parse.ensures.value.0 all) in
    cc (p, c.unwrap.ensures)
