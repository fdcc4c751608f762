use Rattle.std.proofs.Common.{◌≡◌, ℕ, ◌∷◌, [], List, true, false, not, ◌==◌, ap, refl, arith}
use Rattle.std.proofs.lemmas.Bool.Decides.{nat_tests}
use Rattle.silq_lex.specs.Runs.{run}
use Rattle.qasm_tokens.specs.Tokens.{line}
use Rattle.qasm_tokens.specs.Cursors.{ahead}
use Rattle.qasm_tokens.proofs.Passing.{passes_on}
use Rattle.qasm_tokens.proofs.cursor.Cursor.comment.Goals as goal

pub before-requires : goal.before-requires
before-requires c =
    let p = passes_on (λ d. not (d == 10)) c.args.self.now c.args.next.now c.past-end.result 47 c.requires c.past-end.ensures.place c.past-end.ensures.rest in
    (47 ∷ run (λ d. not (d == 10)) (ahead c.args.next.now), p.characters)

pub returns-then-self-eq1 : goal.returns-then-self-eq1
returns-then-self-eq1 c =
    let p = passes_on (λ d. not (d == 10)) c.args.self.now c.args.next.now c.past-end.result 47 c.requires c.past-end.ensures.place c.past-end.ensures.rest in
    let text = c.before-then-self-eq1.ensures (47 ∷ run (λ d. not (d == 10)) (ahead c.args.next.now)) p.characters in
    let first : (c.args.self.now.place.col == 1) ≡ true = grind (arith, nat_tests) in
    record { mark = rw first (ap (λ (z : List ℕ). line z ∷ []) text); passes = p }

pub returns-else-self-eq1 : goal.returns-else-self-eq1
returns-else-self-eq1 c =
    let p = passes_on (λ d. not (d == 10)) c.args.self.now c.args.next.now c.past-end.result 47 c.requires c.past-end.ensures.place c.past-end.ensures.rest in
    let first : (c.args.self.now.place.col == 1) ≡ false = grind (arith, nat_tests) in
    record { mark = rw first refl; passes = p }
