-- What marks add to items.
use Rattle.std.proofs.Common.{◌≡◌, ℕ, Bool, true, false, cond, ◌&&◌, ◌||◌, List, [], ◌∷◌, ◌++◌, append-nil, append_assoc, reverse, refl, sym, ◌∙◌, ap}
use Rattle.std.specs.Prelude.{Some, None, ◌≢◌, if◌then◌else◌}
use Rattle.std.specs.List.{list_all}
use Rattle.std.proofs.lemmas.List.{reverse-append}
use Rattle.silq_lex.specs.declared.token.Place.{Place}
use Rattle.grammar_core.specs.Table.{advance, may_stop}
use Rattle.qasm_tokens.specs.declared.kind.Kind.{Kind}
use Rattle.qasm_tokens.specs.declared.kind.Kind.TheVariants as k
use Rattle.qasm_tokens.specs.declared.symbol.Symbol.{Symbol}
use Rattle.qasm_tokens.specs.Tokens.{Token, Mark, token, line}
use Rattle.qasm_tokens.specs.Table.{table, same_kind, can_be_empty}
use Rattle.qasm_tokens.specs.Items.{Item, Reach, reach, reach_at, items_of, is_whole, no_item, with_token, with_text}
use Rattle.qasm_tokens.specs.Upcoming.{upcoming_in, put_before, with_parts}
use Rattle.qasm_tokens.specs.Stacks.{Steps}

-- ---- the stack

may_stop_last : (ys : List Symbol) (x : Symbol) → may_stop table (ys ++ (x ∷ [])) ≡ (may_stop table ys && can_be_empty x)
may_stop_last [] x = of (can_be_empty x)
  where
    of : (b : Bool) → (b && true) ≡ b
    of true = refl
    of false = refl
may_stop_last (y ∷ ys) x = of (can_be_empty y) (may_stop_last ys x)
  where
    of : (b : Bool) → may_stop table (ys ++ (x ∷ [])) ≡ (may_stop table ys && can_be_empty x)
        → (b && may_stop table (ys ++ (x ∷ []))) ≡ ((b && may_stop table ys) && can_be_empty x)
    of true h = h
    of false h = refl

and_swap : (a b : Bool) → (a && b) ≡ (b && a)
and_swap true true = refl
and_swap true false = refl
and_swap false true = refl
and_swap false false = refl

pub may_stop-reverse : (xs : List Symbol) → list_all can_be_empty xs ≡ may_stop table (reverse xs)
may_stop-reverse [] = refl
may_stop-reverse (x ∷ xs) =
    ap (λ b. can_be_empty x && b) (may_stop-reverse xs) ∙ and_swap (can_be_empty x) (may_stop table (reverse xs))
    ∙ sym (may_stop_last (reverse xs) x) ∙ ap (may_stop table) (sym (reverse-append (x ∷ []) xs))

pub steps_yes : (xs ys : List Symbol) (t : Kind) (b : Bool) → b ≡ true → Steps xs t b ys → advance table xs t ≡ Some ys
steps_yes xs ys t true e h = h
steps_yes xs ys t false e h = cc

pub steps_no : (xs ys : List Symbol) (t : Kind) (b : Bool) → b ≡ false → Steps xs t b ys → advance table xs t ≡ None
steps_no xs ys t true e h = cc
steps_no xs ys t false e h = h

-- ---- the items

last_item : (lines : List (List ℕ)) (ts : List Token) → put_before lines ts (no_item ∷ []) ≡ record { lines = lines; tokens = ts } ∷ []
last_item lines ts = simp append-nil

put_token : (lines : List (List ℕ)) (ts : List Token) (t : Token) (is : List Item) → put_before lines ts (with_token t is) ≡ put_before lines (ts ++ (t ∷ [])) is
put_token lines ts t [] = simp append-nil
put_token lines ts t (i ∷ is) = simp append_assoc

put_text : (lines : List (List ℕ)) (ts : List Token) (text : List ℕ) (is : List Item) → put_before lines ts (with_text text is) ≡ put_before (lines ++ (text ∷ [])) ts is
put_text lines ts text [] = simp append-nil
put_text lines ts text (i ∷ is) = simp append_assoc

put_last : (lines : List (List ℕ)) (ts : List Token) (t : Token) (is : List Item)
    → put_before lines ts (with_token t (no_item ∷ is)) ≡ record { lines = lines; tokens = ts ++ (t ∷ []) } ∷ is
put_last lines ts t is = simp append-nil

-- a token that cannot come ends the item
pub stops_items : (lines : List (List ℕ)) (ts : List Token) (xs : List Symbol) (t : Token) (end : Place) (ms : List Mark) → advance table xs t.kind ≡ None
    → (with_parts lines ts (reach end xs (token t ∷ ms))).items ≡ record { lines = lines; tokens = ts } ∷ []
unfolding reach items_of
stops_items lines ts xs t end ms e =
    ap (λ o. put_before lines ts (items_of (reach_at o t (λ ys. reach end ys ms)).marks)) e ∙ last_item lines ts

pub stops_syntax : (xs : List Symbol) (t : Token) (end : Place) (ms : List Mark) → advance table xs t.kind ≡ None → (reach end xs (token t ∷ ms)).syntax ≡ Some t.at
unfolding reach
stops_syntax xs t end ms e = ap (λ o. (reach_at o t (λ ys. reach end ys ms)).syntax) e

-- a token that may come
pub goes_syntax : (xs ys : List Symbol) (t : Token) (end : Place) (ms : List Mark) → advance table xs t.kind ≡ Some ys
    → (reach end xs (token t ∷ ms)).syntax ≡ (reach end ys ms).syntax
unfolding reach
goes_syntax xs ys t end ms e = ap (λ o. (reach_at o t (λ ys. reach end ys ms)).syntax) e

goes_items : (xs ys : List Symbol) (t : Token) (end : Place) (ms : List Mark) (b : Bool) → advance table xs t.kind ≡ Some ys → same_kind k.Semicolon t.kind ≡ b
    → items_of (reach end xs (token t ∷ ms)).marks ≡ with_token t (cond b (no_item ∷ items_of (reach end ys ms).marks) (items_of (reach end ys ms).marks))
unfolding reach items_of
goes_items xs ys t end ms b e s =
    ap (λ o. items_of (reach_at o t (λ ys. reach end ys ms)).marks) e
    ∙ ap (λ d. with_token t (cond d (no_item ∷ items_of (reach end ys ms).marks) (items_of (reach end ys ms).marks))) s

pub goes_on : (lines : List (List ℕ)) (ts : List Token) (xs ys : List Symbol) (t : Token) (end : Place) (ms : List Mark)
    → advance table xs t.kind ≡ Some ys → same_kind k.Semicolon t.kind ≡ false
    → with_parts lines ts (reach end xs (token t ∷ ms)) ≡ with_parts lines (ts ++ (t ∷ [])) (reach end ys ms)
goes_on lines ts xs ys t end ms e s =
    let items = ap (put_before lines ts) (goes_items xs ys t end ms false e s) ∙ put_token lines ts t (items_of (reach end ys ms).marks) in
    let syntax = goes_syntax xs ys t end ms e in
    λ i. record { items = items i; syntax = syntax i }

pub ends_items : (lines : List (List ℕ)) (ts : List Token) (xs ys : List Symbol) (t : Token) (end : Place) (ms : List Mark)
    → advance table xs t.kind ≡ Some ys → same_kind k.Semicolon t.kind ≡ true
    → (with_parts lines ts (reach end xs (token t ∷ ms))).items ≡ record { lines = lines; tokens = ts ++ (t ∷ []) } ∷ items_of (reach end ys ms).marks
ends_items lines ts xs ys t end ms e s =
    ap (put_before lines ts) (goes_items xs ys t end ms true e s) ∙ put_last lines ts t (items_of (reach end ys ms).marks)

-- a line
pub line_on : (lines : List (List ℕ)) (ts : List Token) (xs : List Symbol) (text : List ℕ) (end : Place) (ms : List Mark)
    → with_parts lines ts (reach end xs (line text ∷ ms)) ≡ with_parts (lines ++ (text ∷ [])) ts (reach end xs ms)
unfolding reach items_of
line_on lines ts xs text end ms =
    let items = put_text lines ts text (items_of (reach end xs ms).marks) in
    λ i. record { items = items i; syntax = (reach end xs ms).syntax }

-- there is always an item
with_token_some : (t : Token) (is : List Item) → with_token t is ≢ []
with_token_some t [] e = cc
with_token_some t (i ∷ is) e = cc

with_text_some : (text : List ℕ) (is : List Item) → with_text text is ≢ []
with_text_some text [] e = cc
with_text_some text (i ∷ is) e = cc

pub some_item : (ms : List Mark) → items_of ms ≢ []
unfolding items_of
some_item [] e = cc
some_item (line text ∷ ms) e = with_text_some text (items_of ms) e
some_item (token t ∷ ms) e = with_token_some t _ e

-- the end of the text
pub end_items : (lines : List (List ℕ)) (ts : List Token) (xs : List Symbol) (end : Place) (ms : List Mark) → ms ≡ []
    → (with_parts lines ts (reach end xs ms)).items ≡ record { lines = lines; tokens = ts } ∷ []
unfolding reach items_of
end_items lines ts xs end ms e = ap (λ z. put_before lines ts (items_of (reach end xs z).marks)) e ∙ last_item lines ts

pub end_syntax : (xs : List Symbol) (end : Place) (ms : List Mark) → ms ≡ [] → (reach end xs ms).syntax ≡ (if may_stop table xs then None else Some end)
unfolding reach
end_syntax xs end ms e = ap (λ z. (reach end xs z).syntax) e

-- ---- whether an item has its semicolon

pub whole_push : (ts : List Token) (t : Token) (b : Bool) → is_whole ts ≡ false → same_kind k.Semicolon t.kind ≡ b → is_whole (ts ++ (t ∷ [])) ≡ b
whole_push [] t b w s = ap (λ d. d || false) s ∙ of b
  where
    of : (b : Bool) → (b || false) ≡ b
    of true = refl
    of false = refl
whole_push (x ∷ ts) t b w s = by_first (same_kind k.Semicolon x.kind) w (λ v. whole_push ts t b v s)
  where
    by_first : (d : Bool) → (d || is_whole ts) ≡ false → (is_whole ts ≡ false → is_whole (ts ++ (t ∷ [])) ≡ b) → (d || is_whole (ts ++ (t ∷ []))) ≡ b
    by_first true e f = cc
    by_first false e f = f e

pub put_nothing : (r : Reach) → upcoming_in r ≡ with_parts [] [] r
put_nothing r = λ i. record { items = none (items_of r.marks) (some_item r.marks) i; syntax = r.syntax }
  where
    none : (is : List Item) → is ≢ [] → is ≡ put_before [] [] is
    none [] h = absurd (h refl)
    none (i ∷ is) h = refl
