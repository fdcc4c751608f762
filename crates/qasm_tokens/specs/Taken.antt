-- Items that were taken.
use Rattle.std.specs.Prelude.{◌≡◌, ◌≢◌, ℕ, ◌^◌, ◌<◌, Bool, true, false, List, [], ◌∷◌, Some, None, if◌then◌else◌, map, ◌&&◌}
use Rattle.std.specs.List.{All}
use Rattle.std.specs.Str.{chars}
use Rattle.silq_lex.specs.declared.token.Place.{Place}
use Rattle.silq_lex.specs.Kinds.{is_number, number_of}
use Rattle.grammar_core.specs.Table.{may_stop}
use Rattle.qasm_tokens.specs.declared.kind.Kind.TheVariants as k
use Rattle.qasm_tokens.specs.declared.symbol.Symbol.{Symbol}
use Rattle.qasm_tokens.specs.declared.token.Token.{Token}
use Rattle.qasm_tokens.specs.declared.token.Mark.{Mark}
use Rattle.qasm_tokens.specs.declared.cursor.Cursor.{Cursor}
use Rattle.qasm_tokens.specs.declared.item.Ending.{Ending}
use Rattle.qasm_tokens.specs.declared.item.Ending.TheVariants.{Whole, TextEnd, Syntax}
use Rattle.qasm_tokens.specs.declared.item.Taken.{Taken}
use Rattle.qasm_tokens.specs.Tokens as tokens
use Rattle.qasm_tokens.specs.Tokens.{marks_of, end_of, line}
use Rattle.qasm_tokens.specs.Table.{table, a_text}
use Rattle.qasm_tokens.specs.Items.{Item, Reach, reach, is_whole}
use Rattle.qasm_tokens.specs.Cursors.{token_of, mark_of, upcoming, end_place, IsSpelledMark}
use Rattle.qasm_tokens.specs.Upcoming.{Upcoming, upcoming_in, with_parts}

-- the item that was taken
abbrev pub item_of : Taken → Item
item_of t = record { lines = map (λ l. chars l.now) t.lines.items; tokens = map token_of t.tokens.items }

-- the items of a text
abbrev pub items_in : List ℕ → Upcoming
items_in cs = upcoming_in (reach (end_of cs) a_text (marks_of cs))

-- what is to come from a cursor on, where these symbols are expected
abbrev pub still : Cursor → List Symbol → Upcoming
still cursor xs = upcoming_in (reach (end_place cursor) xs (upcoming cursor))

abbrev pub is_at_semicolon : Ending → Bool
is_at_semicolon Whole = true
is_at_semicolon TextEnd = false
is_at_semicolon (Syntax at) = false

-- the item is the first of those to come, and others follow it; or it is the last
abbrev pub TakesBy : Ending → Upcoming → Item → Upcoming → Type 0
TakesBy Whole old item new = (old.items ≡ item ∷ new.items) × (old.syntax ≡ new.syntax) × (new.items ≢ [])
TakesBy TextEnd old item new = (old.items ≡ item ∷ []) × (old.syntax ≡ None)
TakesBy (Syntax at) old item new = (old.items ≡ item ∷ []) × (old.syntax ≡ Some at)

abbrev pub Takes : Upcoming → Taken → Upcoming → Type 0
Takes old taken new = TakesBy taken.ending old (item_of taken) new

-- a number has at most 32 bits
abbrev pub IsSpelled : tokens.Token → Type 0
IsSpelled t = t.kind ≡ k.Number → (is_number t.text ≡ true) × (number_of t.text < 2 ^ 32)

-- how an item ends with the text
abbrev pub ending_of : List Symbol → Place → Ending
ending_of xs end = if may_stop table xs then TextEnd else Syntax end

-- an item so far, with what is to come behind it
abbrev pub so_far : Taken → Reach → Upcoming
so_far taken r = with_parts (item_of taken).lines (item_of taken).tokens r

-- a mark was added to an item, and ends it or not
abbrev pub AddsBy : Bool → Taken → List Symbol → tokens.Mark → Taken → List Symbol → Type 0
AddsBy true old xs mark new ys =
    (end : Place) (ms : List tokens.Mark) → Takes (so_far old (reach end xs (mark ∷ ms))) new (upcoming_in (reach end ys ms))
AddsBy false old xs mark new ys =
    (end : Place) (ms : List tokens.Mark) → so_far old (reach end xs (mark ∷ ms)) ≡ so_far new (reach end ys ms)

abbrev pub AddsToken : Taken → List Symbol → Token → Bool → Taken → List Symbol → Type 0
AddsToken old xs t ends new ys = AddsBy ends old xs (tokens.token (token_of t)) new ys

abbrev pub Adds : Taken → List Symbol → Mark → Bool → Taken → List Symbol → Type 0
Adds old xs mark ends new ys = AddsBy ends old xs (mark_of mark) new ys

-- whether the item has its semicolon is told
abbrev pub TellsWhole : Taken → Bool → Taken → Type 0
TellsWhole old ends new = is_whole (item_of old).tokens ≡ false → is_whole (item_of new).tokens ≡ (ends && is_at_semicolon new.ending)

-- numbers have at most 32 bits, before and after
abbrev pub KeepsSpelled : Taken → Mark → Taken → Type 0
KeepsSpelled old mark new = All IsSpelled (item_of old).tokens → IsSpelledMark (mark_of mark) → All IsSpelled (item_of new).tokens
