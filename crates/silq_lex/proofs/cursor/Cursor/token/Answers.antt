use Rattle.std.proofs.Common.{◌∷◌, sym, ◌∙◌, ap}
use Rattle.std.specs.Str.{chars}
use Rattle.silq_lex.specs.Characters.{is_digit, continues_name}
use Rattle.silq_lex.specs.Kinds.{is_name, is_number}
use Rattle.silq_lex.specs.Runs.{run}
use Rattle.silq_lex.proofs.Located.{passes_on, is_name_on, is_number_on, reads_name, reads_number, fault_number, sign_passed, reads_sign, fault_character}
use Rattle.silq_lex.proofs.cursor.Cursor.token.Goals as goal

pub before-text-requires : goal.before-text-requires
before-text-requires c =
    let p = passes_on continues_name c.args.self.now c.args.next.now c.past-end.result c.args.c c.requires c.past-end.ensures.place c.past-end.ensures.rest in
    (c.args.c ∷ run continues_name (chars c.args.next.now.rest.now), p.characters)

pub kind_of_name-requires : goal.kind_of_name-requires
kind_of_name-requires c =
    let p = passes_on continues_name c.args.self.now c.args.next.now c.past-end.result c.args.c c.requires c.past-end.ensures.place c.past-end.ensures.rest in
    ap is_name (c.before-text.ensures.characters (c.args.c ∷ run continues_name (chars c.args.next.now.rest.now)) p.characters) ∙ is_name_on c.args.c (chars c.args.next.now.rest.now) (sym c.starts_name.ensures ∙ c.if-starts_name.true)

pub returns-then-starts_name : goal.returns-then-starts_name
returns-then-starts_name c =
    let p = passes_on continues_name c.args.self.now c.args.next.now c.past-end.result c.args.c c.requires c.past-end.ensures.place c.past-end.ensures.rest in
    reads_name c.args.self.now c.args.next.now c.past-end.result c.args.c c.located.result c.kind_of_name.result (chars c.before-text.result.now) c.before-text.result.now c.requires
    (sym c.starts_name.ensures ∙ c.if-starts_name.true) p (c.before-text.ensures.characters (c.args.c ∷ run continues_name (chars c.args.next.now.rest.now)) p.characters) (c.before-text.ensures.bytes (c.args.c ∷ run continues_name (chars c.args.next.now.rest.now)) p.characters) c.kind_of_name.ensures
    (record { kind = c.located.ensures.kind; text = c.located.ensures.text; start = c.located.ensures.start; line = c.located.ensures.line; col = c.located.ensures.col }) (ap chars c.located.ensures.text)

pub before-text-requires-then-is_digit : goal.before-text-requires-then-is_digit
before-text-requires-then-is_digit c =
    let p = passes_on is_digit c.args.self.now c.args.next.now c.past-end-then-is_digit.result c.args.c c.requires c.past-end-then-is_digit.ensures.place c.past-end-then-is_digit.ensures.rest in
    (c.args.c ∷ run is_digit (chars c.args.next.now.rest.now), p.characters)

pub fits-requires : goal.fits-requires
fits-requires c =
    let p = passes_on is_digit c.args.self.now c.args.next.now c.past-end-then-is_digit.result c.args.c c.requires c.past-end-then-is_digit.ensures.place c.past-end-then-is_digit.ensures.rest in
    ap is_number (c.before-text-then-is_digit.ensures.characters (c.args.c ∷ run is_digit (chars c.args.next.now.rest.now)) p.characters) ∙ is_number_on c.args.c (chars c.args.next.now.rest.now) (sym c.is_digit.ensures ∙ c.if-is_digit.true)

pub returns-then-not-fits : goal.returns-then-not-fits
returns-then-not-fits c =
    let p = passes_on is_digit c.args.self.now c.args.next.now c.past-end-then-is_digit.result c.args.c c.requires c.past-end-then-is_digit.ensures.place c.past-end-then-is_digit.ensures.rest in
    fault_number c.args.self.now c.args.next.now c.args.c c.fault.result (chars c.before-text-then-is_digit.result.now) c.requires (sym c.is_digit.ensures ∙ c.if-is_digit.true)
    (c.before-text-then-is_digit.ensures.characters (c.args.c ∷ run is_digit (chars c.args.next.now.rest.now)) p.characters) (sym c.fits.ensures ∙ c.if-not-fits.true) c.fault.ensures

pub returns-then-is_digit : goal.returns-then-is_digit
returns-then-is_digit c =
    let p = passes_on is_digit c.args.self.now c.args.next.now c.past-end-then-is_digit.result c.args.c c.requires c.past-end-then-is_digit.ensures.place c.past-end-then-is_digit.ensures.rest in
    let m = c.located-then-is_digit.ensures in
    reads_number c.args.self.now c.args.next.now c.past-end-then-is_digit.result c.args.c c.located-then-is_digit.result (chars c.before-text-then-is_digit.result.now) c.before-text-then-is_digit.result.now c.requires
    (sym c.is_digit.ensures ∙ c.if-is_digit.true) p (c.before-text-then-is_digit.ensures.characters (c.args.c ∷ run is_digit (chars c.args.next.now.rest.now)) p.characters) (c.before-text-then-is_digit.ensures.bytes (c.args.c ∷ run is_digit (chars c.args.next.now.rest.now)) p.characters) (sym c.fits.ensures ∙ c.if-not-fits.false)
    (record { kind = m.kind; text = m.text; start = m.start; line = m.line; col = m.col }) (ap chars m.text)

pub before-text-requires-in-Some : goal.before-text-requires-in-Some
before-text-requires-in-Some c =
    let s = sign_passed c.args.self.now c.args.next.now c.in-Some.end c.args.c c.requires (sym c.starts_name.ensures ∙ c.if-starts_name.false) (sym c.is_digit.ensures ∙ c.if-is_digit.false) c.in-Some.ensures in
    (s.0, s.1.passes.characters)

pub returns-in-Some : goal.returns-in-Some
returns-in-Some c =
    let s = sign_passed c.args.self.now c.args.next.now c.in-Some.end c.args.c c.requires (sym c.starts_name.ensures ∙ c.if-starts_name.false) (sym c.is_digit.ensures ∙ c.if-is_digit.false) c.in-Some.ensures in
    let m = c.located-in-Some.ensures in
    reads_sign c.args.self.now c.in-Some.end c.located-in-Some.result s.0 c.before-text-in-Some.result.now s.1 (c.before-text-in-Some.ensures.bytes s.0 s.1.passes.characters)
    (record { kind = m.kind; text = m.text; start = m.start; line = m.line; col = m.col }) (ap chars m.text ∙ c.before-text-in-Some.ensures.characters s.0 s.1.passes.characters)

pub returns-in-None : goal.returns-in-None
returns-in-None c =
    fault_character c.args.self.now c.args.next.now c.args.c c.fault-in-None.result c.requires (sym c.starts_name.ensures ∙ c.if-starts_name.false) (sym c.is_digit.ensures ∙ c.if-is_digit.false) c.in-None.ensures c.fault-in-None.ensures
