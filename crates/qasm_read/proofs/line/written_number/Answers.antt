use Rattle.std.proofs.Common.{◌≡◌, true, false, ◌∙◌}
use Rattle.std.proofs.lemmas.Str.Parse.{parse_digits}
use Rattle.silq_lex.proofs.Texts.{digits_model}
use Rattle.qasm_read.specs.Lines.{is_plain}
use Rattle.qasm_read.proofs.Plain.{no_number, number_read}
use Rattle.qasm_read.proofs.line.written_number.Goals as goal

pub returns-then-is_plain : goal.returns-then-is_plain
returns-then-is_plain c =
    let e : is_plain c.args.text.now ≡ true = cc (c.is_plain.ensures, c.as_bytes.ensures.value, c.if-is_plain.true) in
    c.ok.ensures.value ∙ number_read c.parse.result c.args.text.now c.utf8.text e (λ all. parse_digits digits_model 64 c.args.text.now _ c.parse.ensures.value.0 all)

pub returns-else-is_plain : goal.returns-else-is_plain
returns-else-is_plain c =
    let e : is_plain c.args.text.now ≡ false = cc (c.is_plain.ensures, c.as_bytes.ensures.value, c.if-is_plain.false) in
    no_number c.args.text.now c.utf8.text e
