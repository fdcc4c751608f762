-- The items of a text, as far as the grammar goes.
use Rattle.std.specs.Prelude.{ℕ, Bool, if◌then◌else◌, List, [], ◌∷◌, Option, Some, None}
use Rattle.std.specs.List.{list_any}
use Rattle.silq_lex.specs.declared.token.Place.{Place}
use Rattle.grammar_core.specs.Table.{advance, may_stop}
use Rattle.qasm_tokens.specs.declared.kind.Kind.TheVariants as k
use Rattle.qasm_tokens.specs.Tokens.{Token, Mark, token, line}
use Rattle.qasm_tokens.specs.declared.symbol.Symbol.{Symbol}
use Rattle.qasm_tokens.specs.Table.{table, same_kind}

-- the marks before the first Syntax, and its place: that of the first token that cannot come, or the text's end
pub record Reach : Type 0 where
  pub marks : List Mark
  pub syntax : Option Place

abbrev pub with_mark : Mark → Reach → Reach
with_mark m r = record { marks = m ∷ r.marks; syntax = r.syntax }

abbrev pub reach_at : Option (List Symbol) → Token → (List Symbol → Reach) → Reach
reach_at None t go = record { marks = []; syntax = Some t.at }
reach_at (Some ys) t go = with_mark (token t) (go ys)

-- where these symbols are expected; `end` is the place of the text's end
unfoldable pub reach : Place → List Symbol → List Mark → Reach
reach end xs [] = record { marks = []; syntax = if may_stop table xs then None else Some end }
reach end xs (line text ∷ ms) = with_mark (line text) (reach end xs ms)
reach end xs (token t ∷ ms) = reach_at (advance table xs t.kind) t (λ ys. reach end ys ms)

-- an item: its tokens, the semicolon included, and the comment lines before and in it
pub record Item : Type 0 where
  pub lines : List (List ℕ)
  pub tokens : List Token

abbrev pub no_item : Item
no_item = record { lines = []; tokens = [] }

abbrev pub with_token : Token → List Item → List Item
with_token t [] = record { lines = []; tokens = t ∷ [] } ∷ []
with_token t (i ∷ is) = record { lines = i.lines; tokens = t ∷ i.tokens } ∷ is

abbrev pub with_text : List ℕ → List Item → List Item
with_text text [] = record { lines = text ∷ []; tokens = [] } ∷ []
with_text text (i ∷ is) = record { lines = text ∷ i.lines; tokens = i.tokens } ∷ is

-- the marks, cut behind each semicolon; the last item has no semicolon
unfoldable pub items_of : List Mark → List Item
items_of [] = no_item ∷ []
items_of (line text ∷ ms) = with_text text (items_of ms)
items_of (token t ∷ ms) = with_token t (if same_kind k.Semicolon t.kind then no_item ∷ items_of ms else items_of ms)

-- whether an item has its semicolon
abbrev pub is_whole : List Token → Bool
is_whole ts = list_any (λ t. same_kind k.Semicolon t.kind) ts
