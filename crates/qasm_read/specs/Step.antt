-- One item of those to come, and what it does.
use Rattle.std.specs.Prelude.{◌≡◌, ◌<◌, Bool, true, false, List, [], ◌∷◌, ◌++◌, Option, Some, None, Result, Ok, length}
use Rattle.qasm_tokens.specs.declared.item.Ending.{Ending}
use Rattle.qasm_tokens.specs.declared.item.Ending.TheVariants as ends
use Rattle.qasm_tokens.specs.Tokens.{Token}
use Rattle.qasm_tokens.specs.Items.{Item}
use Rattle.qasm_tokens.specs.Upcoming.{Upcoming}
use Rattle.qasm_read.specs.declared.fault.QasmFault.{QasmFault}
use Rattle.qasm_read.specs.declared.refusal.Refusal.{Refusal}
use Rattle.qasm_read.specs.State.{State, ReadForm, read_form}
use Rattle.qasm_read.specs.Lines.{with_lines}
use Rattle.qasm_read.specs.Statements.{after}
use Rattle.qasm_read.specs.Refusals.{syntax, refusals_of, first_refusal}
use Rattle.qasm_read.specs.Text.{read_items}

-- whether no Syntax stands in an item that ends so, and the refusal of one that does
abbrev pub is_unbroken : Ending → Bool
is_unbroken ends.Whole = true
is_unbroken ends.TextEnd = true
is_unbroken (ends.Syntax at) = false

abbrev pub syntax_by : Ending → List Refusal
syntax_by ends.Whole = []
syntax_by ends.TextEnd = []
syntax_by (ends.Syntax at) = syntax at ∷ []

-- the first refusal of an item that ends so
abbrev pub refusal_by : Ending → State → List Token → Option Refusal
refusal_by ending s ts = first_refusal (refusals_of s (is_unbroken ending) ts ++ syntax_by ending)

-- the first refusal of an item that ends so, after the comment lines before and in it
abbrev pub refusal_in : State → Ending → Item → Option Refusal
refusal_in s ending i = refusal_by ending (with_lines s i.lines) i.tokens

-- the state after an item and those lines
abbrev pub after_item : State → Item → State
after_item s i = after (with_lines s i.lines) i.tokens

abbrev pub fault_of : Option Refusal → Option QasmFault
fault_of None = None
fault_of (Some r) = Some r.fault

-- what is to come spells in a state
abbrev pub spelled : Upcoming → State → Result ReadForm QasmFault
spelled u s = read_items u.syntax s u.items

-- an item was read, and others follow it; or it was the last
abbrev pub Reads : Bool → Upcoming → State → Upcoming → State → Type 0
Reads true old s new t = (spelled old s ≡ spelled new t) × (length new.items < length old.items)
Reads false old s new t = spelled old s ≡ Ok (read_form t)
