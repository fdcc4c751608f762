-- Texts of the grammar are accepted by the table, and the table goes on with their beginnings alone.
use Rattle.std.proofs.Common.{◌≡◌, true, List, [], ◌∷◌, ◌++◌, Option, Some, None, cond, refl, ◌∙◌, ap, append_assoc}
use Rattle.std.specs.Prelude.{IsSome}
use Rattle.grammar_core.specs.Table.{advance, expected, may_stop, accepts, first_of, then_maybe, some_passes}
use Rattle.grammar_core.specs.Decided.{IsApart}
use Rattle.grammar_core.proofs.Viable.{viable_begins, taken_viable}
use Rattle.qasm_tokens.specs.declared.kind.Kind.{Kind}
use Rattle.qasm_tokens.specs.declared.kind.Kind.TheVariants as k
use Rattle.qasm_tokens.specs.declared.symbol.Symbol.{Symbol}
use Rattle.qasm_tokens.specs.declared.symbol.Symbol.TheVariants.{Expect, AName, IndexPart, UnderIf, MoreBarrier, Unread}
use Rattle.qasm_tokens.specs.Table.{table, begin, can_be_empty, end_item, operand, a_text}
use Rattle.qasm_tokens.specs.declared.symbol.Symbol.TheVariants.{Items as AllItems}
use Rattle.qasm_tokens.specs.Grammar as g
use Rattle.qasm_tokens.specs.Grammar.{Name, Any, bit, register, Anys, last, and_more, Plain, one, cx, cz, ccx, include, qreg, creg, plain, measure, condition, barrier, Refused, definition, reset, lower, upper, other_file, if_measure, if_reset, if_barrier, if_lower, if_upper, none, more, refused, any_kinds, anys_kinds, plain_kinds, if_kinds, item_kinds, refused_kinds, items_kinds, text_kinds, IsText, BeginsText, TableFollowsGrammar}
use Rattle.qasm_tokens.proofs.Tested.{reaches, the_table}
use Rattle.qasm_tokens.proofs.Built.{accepted_is_text, cx_kinds, cz_kinds, ccx_kinds}

step : (xs ys : List Symbol) (t : Kind) (ts : List Kind) → advance table xs t ≡ Some ys → accepts table xs (t ∷ ts) ≡ accepts table ys ts
step xs ys t ts e = ap (λ o. some_passes (may_stop table) (then_maybe o (λ zs. expected table zs ts))) e

name_step : (n : Name) (xs : List Symbol) → advance table (AName ∷ xs) n.kind ≡ Some xs
name_step n xs = ap (λ b. first_of (cond b (Some []) None) xs (cond (can_be_empty AName) (advance table xs n.kind) None)) n.lower

-- an operand before a token that is no bracket
operand_step : (a : Any) (s : Kind) (us : List Kind) (xs : List Symbol) → begin IndexPart s ≡ None
    → accepts table (operand xs) (any_kinds a ++ (s ∷ us)) ≡ accepts table xs (s ∷ us)
operand_step (bit n) s us xs e = step (operand xs) (IndexPart ∷ xs) n.kind (k.LeftBracket ∷ k.Number ∷ k.RightBracket ∷ s ∷ us) (name_step n (IndexPart ∷ xs))
operand_step (register n) s us xs e =
    step (operand xs) (IndexPart ∷ xs) n.kind (s ∷ us) (name_step n (IndexPart ∷ xs))
    ∙ ap (λ o. some_passes (may_stop table) (then_maybe (first_of o xs (advance table xs s)) (λ zs. expected table zs us))) e

unread_taken : (ts : List Kind) → accepts table (Unread ∷ []) ts ≡ true
unread_taken [] = refl
unread_taken (t ∷ ts) = unread_taken ts

plain_taken : (p : Plain) (us : List Kind) → accepts table (AllItems ∷ []) (plain_kinds p ++ us) ≡ accepts table (AllItems ∷ []) us
plain_taken (one o a) us =
    ap (λ w. accepts table (operand end_item) w) (append_assoc (any_kinds a) (k.Semicolon ∷ []) us) ∙ operand_step a k.Semicolon us end_item refl
plain_taken (cx a b) us =
    ap (λ w. accepts table (AllItems ∷ []) w) (cx_kinds a b us)
    ∙ operand_step a k.Comma (any_kinds b ++ (k.Semicolon ∷ us)) (Expect k.Comma ∷ operand end_item) refl
    ∙ operand_step b k.Semicolon us end_item refl
plain_taken (cz a b) us =
    ap (λ w. accepts table (AllItems ∷ []) w) (cz_kinds a b us)
    ∙ operand_step a k.Comma (any_kinds b ++ (k.Semicolon ∷ us)) (Expect k.Comma ∷ operand end_item) refl
    ∙ operand_step b k.Semicolon us end_item refl
plain_taken (ccx a b c) us =
    ap (λ w. accepts table (AllItems ∷ []) w) (ccx_kinds a b c us)
    ∙ operand_step a k.Comma (any_kinds b ++ (k.Comma ∷ (any_kinds c ++ (k.Semicolon ∷ us)))) (Expect k.Comma ∷ operand (Expect k.Comma ∷ operand end_item)) refl
    ∙ operand_step b k.Comma (any_kinds c ++ (k.Semicolon ∷ us)) (Expect k.Comma ∷ operand end_item) refl
    ∙ operand_step c k.Semicolon us end_item refl

-- a gate under an `if` is read as one without
held_taken : (p : Plain) (us : List Kind) → accepts table (UnderIf ∷ []) (plain_kinds p ++ us) ≡ accepts table (AllItems ∷ []) (plain_kinds p ++ us)
held_taken (one o a) us = refl
held_taken (cx a b) us = refl
held_taken (cz a b) us = refl
held_taken (ccx a b c) us = refl

barrier_taken : (as_ : Anys) (us : List Kind) → accepts table (operand (MoreBarrier ∷ end_item)) (anys_kinds as_ ++ (k.Semicolon ∷ us)) ≡ accepts table (AllItems ∷ []) us
barrier_taken (last a) us = operand_step a k.Semicolon us (MoreBarrier ∷ end_item) refl
barrier_taken (and_more a as_) us =
    ap (λ w. accepts table (operand (MoreBarrier ∷ end_item)) w) (append_assoc (any_kinds a) (k.Comma ∷ anys_kinds as_) (k.Semicolon ∷ us))
    ∙ operand_step a k.Comma (anys_kinds as_ ++ (k.Semicolon ∷ us)) (MoreBarrier ∷ end_item) refl
    ∙ barrier_taken as_ us

measure_kinds : (a b : Any) (us : List Kind) → item_kinds (measure a b) ++ us ≡ k.Measure ∷ (any_kinds a ++ (k.Arrow ∷ (any_kinds b ++ (k.Semicolon ∷ us))))
measure_kinds a b us = simp append_assoc refl

-- what stands behind `if` `(`
abbrev condition_rest : List Symbol
condition_rest = Expect k.Equal ∷ Expect k.Number ∷ Expect k.RightParen ∷ UnderIf ∷ []

if_taken : (n : Name) (held us : List Kind) → accepts table (AllItems ∷ []) (if_kinds n held) ≡ accepts table (UnderIf ∷ []) held
if_taken n held us = step (AName ∷ condition_rest) condition_rest n.kind (k.Equal ∷ k.Number ∷ k.RightParen ∷ held) (name_step n condition_rest)

-- what stands behind `qreg` and `creg`
abbrev declaration_rest : List Symbol
declaration_rest = Expect k.LeftBracket ∷ Expect k.Number ∷ Expect k.RightBracket ∷ end_item

item_taken : (i : g.Item) (us : List Kind) → accepts table (AllItems ∷ []) (item_kinds i ++ us) ≡ accepts table (AllItems ∷ []) us
item_taken include us = refl
item_taken (qreg n) us =
    step (AName ∷ declaration_rest) declaration_rest n.kind (k.LeftBracket ∷ k.Number ∷ k.RightBracket ∷ k.Semicolon ∷ us) (name_step n declaration_rest)
item_taken (creg n) us =
    step (AName ∷ declaration_rest) declaration_rest n.kind (k.LeftBracket ∷ k.Number ∷ k.RightBracket ∷ k.Semicolon ∷ us) (name_step n declaration_rest)
item_taken (plain p) us = plain_taken p us
item_taken (measure a b) us =
    ap (λ w. accepts table (AllItems ∷ []) w) (measure_kinds a b us)
    ∙ operand_step a k.Arrow (any_kinds b ++ (k.Semicolon ∷ us)) (Expect k.Arrow ∷ operand end_item) refl
    ∙ operand_step b k.Semicolon us end_item refl
item_taken (condition n p) us = if_taken n (plain_kinds p ++ us) us ∙ held_taken p us ∙ plain_taken p us
item_taken (barrier as_) us =
    ap (λ w. accepts table (operand (MoreBarrier ∷ end_item)) w) (append_assoc (anys_kinds as_) (k.Semicolon ∷ []) us) ∙ barrier_taken as_ us

refused_taken : (r : Refused) (rest : List Kind) → accepts table (AllItems ∷ []) (refused_kinds r ++ rest) ≡ true
refused_taken definition rest = unread_taken rest
refused_taken reset rest = unread_taken rest
refused_taken lower rest = unread_taken rest
refused_taken upper rest = unread_taken rest
refused_taken other_file rest = unread_taken rest
refused_taken (if_measure n) rest = if_taken n (k.Measure ∷ rest) rest ∙ unread_taken rest
refused_taken (if_reset n) rest = if_taken n (k.Reset ∷ rest) rest ∙ unread_taken rest
refused_taken (if_barrier n) rest = if_taken n (k.Barrier ∷ rest) rest ∙ unread_taken rest
refused_taken (if_lower n) rest = if_taken n (k.Lower ∷ rest) rest ∙ unread_taken rest
refused_taken (if_upper n) rest = if_taken n (k.Upper ∷ rest) rest ∙ unread_taken rest

items_taken : (is : g.Items) → accepts table (AllItems ∷ []) (items_kinds is) ≡ true
items_taken none = refl
items_taken (more i is) = item_taken i (items_kinds is) ∙ items_taken is
items_taken (refused r rest) = refused_taken r rest

-- texts of the grammar are accepted
pub text_accepted : (ts : List Kind) → IsText ts → accepts table a_text ts ≡ true
text_accepted ts t = rw (← t.1) (items_taken t.0)

apart : IsApart table reaches a_text
apart = (λ t h. cc, (λ t h. cc, (λ t h. cc, (λ t h. refl, tt))))

begins_text : (ts : List Kind) (o : Option (List Symbol)) → expected table a_text ts ≡ o → IsSome o → BeginsText ts
begins_text ts None e s = cc
begins_text ts (Some ys) e s = let v = taken_viable table reaches the_table a_text ts ys apart e in (v.0, accepted_is_text (ts ++ v.0) v.1)

goes_on : (ts : List Kind) → BeginsText ts → IsSome (expected table a_text ts)
goes_on ts b = let v = viable_begins table a_text ts (b.0, text_accepted (ts ++ b.0) b.1) in rw v.1 refl

pub follows : TableFollowsGrammar
follows = record {
  texts = λ ts. (λ a. accepted_is_text ts a, λ t. text_accepted ts t);
  begins = λ ts. (λ s. begins_text ts (expected table a_text ts) refl s, λ b. goes_on ts b);
}
