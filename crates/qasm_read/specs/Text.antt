-- What a text spells, or its first refusal.
use Rattle.std.specs.Prelude.{ℕ, nat_lt, Bool, true, false, if◌then◌else◌, List, [], ◌∷◌, ◌++◌, Option, Some, None, Result, Ok, Err, length, chars}
use Rattle.silq_lex.specs.declared.token.Place.{Place}
use Rattle.silq_io.specs.declared.limit.LimitKind.TheVariants as limits
use Rattle.qasm_read.specs.declared.fault.QasmFault.{QasmFault}
use Rattle.qasm_read.specs.declared.fault.QasmFault.TheVariants.{Limit}
use Rattle.qasm_tokens.specs.Tokens.{marks_of, end_of}
use Rattle.qasm_tokens.specs.Table.{a_text}
use Rattle.qasm_tokens.specs.Items.{Reach, reach, Item, items_of}
use Rattle.qasm_read.specs.declared.refusal.Refusal.{Refusal}
use Rattle.qasm_read.specs.State.{State, at_start, ReadForm, read_form}
use Rattle.qasm_read.specs.Lines.{with_lines}
use Rattle.qasm_read.specs.Refusals.{syntax, refusals_of, first_refusal}
use Rattle.qasm_read.specs.Statements.{after}

-- the Syntax of a text stands in its last item
abbrev pub syntax_in : Option Place → List Item → List Refusal
syntax_in None is = []
syntax_in (Some at) [] = syntax at ∷ []
syntax_in (Some at) (i ∷ is) = []

-- whether no Syntax stands in an item with these behind it
abbrev pub is_whole : Option Place → List Item → Bool
is_whole None is = true
is_whole (Some at) [] = false
is_whole (Some at) (i ∷ is) = true

abbrev pub decide : Option Refusal → (Bool → Result ReadForm QasmFault) → Result ReadForm QasmFault
decide None go = go (nat_lt 0 1)
decide (Some r) go = Err r.fault

-- the items in order, each in the state that those before it leave
unfoldable pub read_items : Option Place → State → List Item → Result ReadForm QasmFault
read_items broken s [] = Ok (read_form s)
read_items broken s (i ∷ is) = read_item broken (with_lines s i.lines) i is (λ t. read_items broken t is)
  where
    read_item : Option Place → State → Item → List Item → (State → Result ReadForm QasmFault) → Result ReadForm QasmFault
    read_item broken s i is go =
        decide (first_refusal (refusals_of s (is_whole broken is) i.tokens ++ syntax_in broken is)) (λ b. go (after s i.tokens))

abbrev pub read_reach : Reach → Result ReadForm QasmFault
read_reach r = read_items r.syntax at_start (items_of r.marks)

-- of characters
abbrev pub read_chars : List ℕ → Result ReadForm QasmFault
read_chars cs = read_reach (reach (end_of cs) a_text (marks_of cs))

-- of a text, by its bytes
abbrev pub reading : List ℕ → Result ReadForm QasmFault
reading text = if nat_lt 268435456 (length text) then Err (Limit (record { which = limits.Text; count = 268435457 })) else read_chars (chars text)
