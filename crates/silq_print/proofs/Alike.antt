-- Tokens that are the same, places aside.
use Rattle.std.proofs.Common.{◌≡◌, Bool, true, false, List, [], ◌∷◌, map, Option, Some, None, cond, nat_lt, refl, sym, ◌∙◌, ap}
use Rattle.grammar_core.specs.Table.{advance, may_stop}
use Rattle.silq_grammar.specs.declared.token.Token.{Token}
use Rattle.silq_grammar.specs.declared.token.Token.TheVariants.{Name, Number, Fixed}
use Rattle.silq_grammar.specs.Tokens.{kind}
use Rattle.silq_grammar.specs.Grammar.{Program}
use Rattle.silq_grammar.specs.Spelled.{program_text}
use Rattle.silq_grammar.specs.Trees.{program_tree}
use Rattle.silq_grammar.specs.Machine.{Symbol, Functions, table, nest}
use Rattle.silq_grammar.specs.Outcome.{Fine, Syntax, Deep, outcome, outcome_at, program_outcome}
use Rattle.silq_grammar.proofs.Accepted.{one_tree}
use Rattle.silq_print.specs.Bare.{bare_token, bare_program}
use Rattle.silq_print.specs.Laws.{AreAlike, PlacesAside}
use Rattle.silq_print.proofs.Bared.{plain_program}
use Rattle.silq_print.proofs.BareTexts.{program_bares}
use Rattle.silq_print.proofs.BareTrees.{program_same}

-- fine tokens, told with no places
abbrev fine_at : Option (List Symbol) → (List Symbol → Bool) → Bool
fine_at None go = false
fine_at (Some ys) go = cond (nat_lt 64 (nest ys)) false (go ys)

abbrev is_fine : List Symbol → List Token → Bool
is_fine xs [] = may_stop table xs
is_fine xs (u ∷ us) = fine_at (advance table xs (kind u)) (λ ys. is_fine ys us)

same_kind : (u : Token) → kind (bare_token u) ≡ kind u
same_kind (Name n s) = refl
same_kind (Number v s) = refl
same_kind (Fixed t s) = refl

is_fine_bare : (xs : List Symbol) (us : List Token) → is_fine xs (map bare_token us) ≡ is_fine xs us
is_fine_bare xs [] = refl
is_fine_bare xs (u ∷ us) =
    ap (λ k. fine_at (advance table xs k) (λ ys. is_fine ys (map bare_token us))) (same_kind u) ∙ onward (advance table xs (kind u)) (λ ys. is_fine_bare ys us)
  where
    onward : (o : Option (List Symbol)) → ((ys : List Symbol) → is_fine ys (map bare_token us) ≡ is_fine ys us)
        → fine_at o (λ ys. is_fine ys (map bare_token us)) ≡ fine_at o (λ ys. is_fine ys us)
    onward None ih = refl
    onward (Some ys) ih = ap (cond (nat_lt 64 (nest ys)) false) (ih ys)

fine_is : (xs : List Symbol) (us : List Token) → outcome xs us ≡ Fine → is_fine xs us ≡ true
unfolding outcome
fine_is xs [] h = at_end (may_stop table xs) h
  where
    at_end : (b : Bool) → cond b Fine (Syntax []) ≡ Fine → b ≡ true
    at_end true e = refl
    at_end false e = cc
fine_is xs (u ∷ us) h = at_step (advance table xs (kind u)) (λ ys. fine_is ys us) h
  where
    at_nest : (b : Bool) (zs : List Symbol) → (outcome zs us ≡ Fine → is_fine zs us ≡ true) → cond b (Deep (u ∷ us)) (outcome zs us) ≡ Fine → cond b false (is_fine zs us) ≡ true
    at_nest true zs ih e = cc
    at_nest false zs ih e = ih e

    at_step : (o : Option (List Symbol)) → ((zs : List Symbol) → outcome zs us ≡ Fine → is_fine zs us ≡ true)
        → outcome_at o (u ∷ us) (λ zs. outcome zs us) ≡ Fine → fine_at o (λ zs. is_fine zs us) ≡ true
    at_step None ih e = cc
    at_step (Some zs) ih e = at_nest (nat_lt 64 (nest zs)) zs (ih zs) e

is_fine_so : (xs : List Symbol) (us : List Token) → is_fine xs us ≡ true → outcome xs us ≡ Fine
unfolding outcome
is_fine_so xs [] h = ap (λ b. cond b Fine (Syntax [])) h
is_fine_so xs (u ∷ us) h = at_step (advance table xs (kind u)) (λ ys. is_fine_so ys us) h
  where
    at_nest : (b : Bool) (zs : List Symbol) → (is_fine zs us ≡ true → outcome zs us ≡ Fine) → cond b false (is_fine zs us) ≡ true → cond b (Deep (u ∷ us)) (outcome zs us) ≡ Fine
    at_nest true zs ih e = cc
    at_nest false zs ih e = ih e

    at_step : (o : Option (List Symbol)) → ((zs : List Symbol) → is_fine zs us ≡ true → outcome zs us ≡ Fine)
        → fine_at o (λ zs. is_fine zs us) ≡ true → outcome_at o (u ∷ us) (λ zs. outcome zs us) ≡ Fine
    at_step None ih e = cc
    at_step (Some zs) ih e = at_nest (nat_lt 64 (nest zs)) zs (ih zs) e

pub alike_fine : (ts us : List Token) → AreAlike ts us → program_outcome ts ≡ Fine → program_outcome us ≡ Fine
alike_fine ts us a h =
    is_fine_so (Functions ∷ []) us
    (sym (is_fine_bare (Functions ∷ []) us) ∙ ap (is_fine (Functions ∷ [])) (sym a) ∙ is_fine_bare (Functions ∷ []) ts ∙ fine_is (Functions ∷ []) ts h)

pub alike_trees : (p q : Program) → AreAlike (program_text p) (program_text q) → bare_program (program_tree p) ≡ bare_program (program_tree q)
alike_trees p q a =
    let e : plain_program p ≡ plain_program q = one_tree (plain_program p) (plain_program q) ((program_bares p).is ∙ a ∙ sym (program_bares q).is) in
    sym (program_same p) ∙ ap program_tree e ∙ program_same q

pub places_aside : PlacesAside
places_aside = record { fine = alike_fine; trees = alike_trees }
