use Rattle.std.proofs.Common.{◌≡◌, ◌∷◌, [], ◌++◌, true, false, not, ◌==◌, nat_eq, ◌∙◌, ap, sym, refl}
use Rattle.std.specs.List.{starts_with, list_any}
use Rattle.silq_lex.specs.Runs.{run}
use Rattle.qasm_tokens.specs.Words.{file_kind}
use Rattle.qasm_tokens.specs.Cursors.{ahead}
use Rattle.qasm_tokens.proofs.Passing.{passes_on, passes_join}
use Rattle.qasm_tokens.proofs.Scanned.{quote_behind}
use Rattle.qasm_tokens.proofs.cursor.Cursor.quoted.Goals as goal

pub before-requires : goal.before-requires
before-requires c =
    let p = passes_on (λ d. not (d == 34)) c.args.self.now c.args.next.now c.past.result 34 c.requires c.past.ensures.place c.past.ensures.rest in
    let q = passes_join c.args.self.now c.past.result c.in-Some.end _ (34 ∷ []) p c.in-Some.ensures.some in
    ((34 ∷ run (λ d. not (d == 34)) (ahead c.args.next.now)) ++ (34 ∷ []), q.characters)

pub returns-in-Some : goal.returns-in-Some
returns-in-Some c =
    let p = passes_on (λ d. not (d == 34)) c.args.self.now c.args.next.now c.past.result 34 c.requires c.past.ensures.place c.past.ensures.rest in
    let q = passes_join c.args.self.now c.past.result c.in-Some.end _ (34 ∷ []) p c.in-Some.ensures.some in
    let text = c.before-in-Some.ensures ((34 ∷ run (λ d. not (d == 34)) (ahead c.args.next.now)) ++ (34 ∷ [])) q.characters in
    let there : list_any (λ d. d == 34) (ahead c.args.next.now) ≡ true =
    sym (quote_behind (ahead c.args.next.now)) ∙ ap (λ z. starts_with nat_eq z (34 ∷ [])) (sym c.past.ensures.rest ∙ c.in-Some.ensures.some.characters) in
    rw there (record { kind = c.kind_of_file.ensures ∙ ap file_kind text; passes = q })

pub returns-in-None : goal.returns-in-None
returns-in-None c =
    let absent : list_any (λ d. d == 34) (ahead c.args.next.now) ≡ false =
    sym (quote_behind (ahead c.args.next.now)) ∙ ap (λ z. starts_with nat_eq z (34 ∷ [])) (sym c.past.ensures.rest) ∙ c.in-None.ensures.none in
    rw absent (record { kind = refl; passes = c.requires })
