use Rattle.std.proofs.Common.{List, reverse, refl, ◌∙◌, ap}
use Rattle.std.proofs.lemmas.List.Elements.{All-nil}
use Rattle.qasm_tokens.specs.declared.symbol.Symbol.{Symbol}
use Rattle.qasm_tokens.specs.Items.{reach}
use Rattle.qasm_tokens.specs.Cursors.{upcoming, end_place}
use Rattle.qasm_tokens.specs.Taken.{IsSpelled, ending_of, still}
use Rattle.qasm_tokens.proofs.Added.{put_nothing}
use Rattle.qasm_tokens.proofs.Ends.{none_given, takes_end}
use Rattle.qasm_tokens.proofs.item.item_at.Goals as goal

pub loop-mark-init : goal.loop-mark-init
loop-mark-init c = record {
  same = rw (c.new.ensures.items, c.new-2.ensures.items) (put_nothing (reach (end_place c.args.cursor.now) (reverse c.args.stack.now.items) (upcoming c.args.cursor.now)));
  whole = rw c.new.ensures.items refl;
  numbers = rw c.new.ensures.items (All-nil IsSpelled);
}

pub returns-in_default-clause-item : goal.returns-in_default-clause-item
returns-in_default-clause-item c =
    let n = none_given c.loop-mark.cursor c.next_mark.result.0 c.next_mark.result.1 c.in_default.is c.next_mark.ensures in
    takes_end _ (still c.next_mark.result.1 (reverse c.loop-mark.stack.items))
    (record { tokens = c.loop-mark.item.tokens; lines = c.loop-mark.item.lines; ending = c.ending_of-item.result }) (reverse c.loop-mark.stack.items) c.loop-mark.cursor
    c.next_mark.result.1.place c.loop-mark.invariant.same n.0 n.1
    (c.ending_of-item.ensures ∙ ap (λ (ys : List Symbol). ending_of (reverse ys) c.next_mark.result.1.place) c.deref.ensures.value)
