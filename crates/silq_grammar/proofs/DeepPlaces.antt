-- Where a Deep stands, and that none stands before a Syntax.
use Rattle.std.proofs.Common.{◌≡◌, ◌≤◌, List, [], ◌∷◌, ◌++◌, length, sym, ◌∙◌, ap, append_assoc}
use Rattle.silq_grammar.specs.Tokens.{Token}
use Rattle.silq_grammar.specs.Grammar.{Program}
use Rattle.silq_grammar.specs.Spelled.{program_text}
use Rattle.silq_grammar.specs.Outcome.{Syntax, Deep, program_outcome}
use Rattle.silq_grammar.specs.Nest.{program_nests, first_deep, NestFollowsGrammar}
use Rattle.silq_grammar.proofs.Passed.{syntax_passed, deep_at, deep_within}
use Rattle.silq_grammar.proofs.Exact.{start, taken_begins}
use Rattle.silq_grammar.proofs.Nests.{program_deep}

deep_program : (ts rest : List Token) → program_outcome ts ≡ Deep rest
    → (front : List Token) × (u : Token) × (behind : List Token) × (rest ≡ u ∷ behind) × (ts ≡ front ++ rest)
    × (p : Program) × (more : List Token) × (program_text p ≡ front ++ u ∷ more) × (first_deep (program_nests p) (program_text p) ≡ Deep (u ∷ more))
deep_program ts rest h =
    let (front, u, behind, ys, r, s, w, f) = deep_at start ts rest h in
    let (more, (p, e)) = taken_begins (front ++ u ∷ []) ys w in
    let e' : program_text p ≡ front ++ u ∷ more = e ∙ append_assoc front (u ∷ []) more in
    (front, u, behind, r, s, p, more, e', sym (program_deep p) ∙ ap program_outcome e' ∙ f more)

syntax_program : (ts rest : List Token) → program_outcome ts ≡ Syntax rest
    → (front : List Token) × (ts ≡ front ++ rest) × (p : Program) × (more : List Token) × (program_text p ≡ front ++ more)
    × ((late : List Token) → first_deep (program_nests p) (program_text p) ≡ Deep late → length late ≤ length more)
syntax_program ts rest h =
    let (front, ys, s, w, k, f) = syntax_passed start ts rest h in
    let (more, (p, e)) = taken_begins front ys w in
    (front, s, p, more, e, λ late d. deep_within ys more late (sym (f more) ∙ ap program_outcome (sym e) ∙ program_deep p ∙ d))

pub nest_follows : NestFollowsGrammar
nest_follows = record { programs = program_deep; deep = deep_program; syntax = syntax_program }
