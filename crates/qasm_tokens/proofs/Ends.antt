-- How an item ends with the text.
use Rattle.std.proofs.Common.{◌≡◌, Bool, true, false, cond, List, [], ◌∷◌, refl, ◌∙◌, ap}
use Rattle.std.specs.Prelude.{Option, Some, None}
use Rattle.grammar_core.specs.Table.{may_stop}
use Rattle.silq_lex.specs.declared.token.Place.{Place}
use Rattle.qasm_tokens.specs.declared.token.Mark.{Mark}
use Rattle.qasm_tokens.specs.declared.symbol.Symbol.{Symbol}
use Rattle.qasm_tokens.specs.declared.cursor.Cursor.{Cursor}
use Rattle.qasm_tokens.specs.declared.item.Ending.TheVariants.{TextEnd, Syntax}
use Rattle.qasm_tokens.specs.declared.item.Taken.{Taken}
use Rattle.qasm_tokens.specs.Table.{table}
use Rattle.qasm_tokens.specs.Items.{reach}
use Rattle.qasm_tokens.specs.Cursors.{GivesNext, upcoming, end_place}
use Rattle.qasm_tokens.specs.Upcoming.{Upcoming}
use Rattle.qasm_tokens.specs.Taken.{Takes, TakesBy, ending_of, item_of, so_far}
use Rattle.qasm_tokens.proofs.Added.{end_items, end_syntax}

pub none_given : (from : Cursor) (o : Option Mark) (to : Cursor) → o ≡ None → GivesNext from o to → (upcoming from ≡ []) × (end_place from ≡ to.place)
none_given from None to e h = h
none_given from (Some m) to e h = cc

pub takes_end : (old new : Upcoming) (taken : Taken) (xs : List Symbol) (from : Cursor) (at : Place) → old ≡ so_far taken (reach (end_place from) xs (upcoming from))
    → upcoming from ≡ [] → end_place from ≡ at → taken.ending ≡ ending_of xs at → Takes old taken new
takes_end old new taken xs from at o m p e = of (may_stop table xs) refl e
  where
    items : old.items ≡ item_of taken ∷ []
    items = ap (λ u. u.items) o ∙ end_items (item_of taken).lines (item_of taken).tokens xs (end_place from) (upcoming from) m

    syntax : (b : Bool) → may_stop table xs ≡ b → old.syntax ≡ cond b None (Some at)
    syntax b h = ap (λ u. u.syntax) o ∙ end_syntax xs (end_place from) (upcoming from) m ∙ ap (λ d. cond d None (Some (end_place from))) h ∙ ap (λ z. cond b None (Some z)) p

    of : (b : Bool) → may_stop table xs ≡ b → taken.ending ≡ cond b TextEnd (Syntax at) → TakesBy taken.ending old (item_of taken) new
    of true h f = rw f (items, syntax true h)
    of false h f = rw f (items, syntax false h)
