use Rattle.std.proofs.Common.{◌≡◌, ◌<◌, ◌^◌, true, length, pos, SFits, w64, ◌∙◌, refl, sym, ap, rules}
use Rattle.std.specs.List.{list_all}
use Rattle.std.specs.Str.{chars}
use Rattle.std.proofs.lemmas.Int.{to_z-of_z}
use Rattle.std.proofs.lemmas.Str.Parse.{parse_signed_digits}
use Rattle.silq_lex.specs.Kinds.{number_of}
use Rattle.silq_lex.specs.Characters.{is_digit}
use Rattle.silq_lex.proofs.Texts.{digits_model, number_digits, number_kind, digits-chars, number_parsed}
use Rattle.silq_lex.proofs.digits.number.Goals as goal

pub unwrap-requires : goal.unwrap-requires
unwrap-requires c =
    let d = number_digits (chars c.args.digits.now) (number_kind (chars c.args.digits.now) c.requires.kind) in
    let e = digits-chars c.args.digits.now c.utf8.digits d.0 in
    let all : list_all is_digit c.args.digits.now ≡ true = rw e at d.0 in
    let long : 0 < length c.args.digits.now = rw e at d.1 in
    let fits : number_of c.args.digits.now < 2 ^ 63 = rw e at c.requires.fits in
    rw (number_parsed c.parse.result (number_of c.args.digits.now) c.args.digits.now long fits (parse_signed_digits digits_model _ c.args.digits.now _ c.parse.ensures.value.0 all)) refl

pub returns : goal.returns
returns c =
    let d = number_digits (chars c.args.digits.now) (number_kind (chars c.args.digits.now) c.requires.kind) in
    let e = digits-chars c.args.digits.now c.utf8.digits d.0 in
    let all : list_all is_digit c.args.digits.now ≡ true = rw e at d.0 in
    let long : 0 < length c.args.digits.now = rw e at d.1 in
    let fits : number_of c.args.digits.now < 2 ^ 63 = rw e at c.requires.fits in
    let p = number_parsed c.parse.result (number_of c.args.digits.now) c.args.digits.now long fits (parse_signed_digits digits_model _ c.args.digits.now _ c.parse.ensures.value.0 all) in
    let q : c.unwrap.result ≡ pos (number_of c.args.digits.now) = cc (p, c.unwrap.ensures) in
    let z : SFits w64 c.unwrap.result = search rules in
    to_z-of_z w64 c.unwrap.result z ∙ q ∙ ap (λ t. pos (number_of t)) (sym e)
