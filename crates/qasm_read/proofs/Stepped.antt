-- One item of those to come, read.
use Rattle.std.proofs.Common.{◌≡◌, ◌≢◌, Bool, true, false, List, [], ◌∷◌, ◌++◌, length, refl, sym, ◌∙◌, ap, arith, append-nil}
use Rattle.std.specs.Prelude.{Option, Some, None, Ok, Err}
use Rattle.silq_lex.specs.declared.token.Place.{Place}
use Rattle.qasm_tokens.specs.declared.item.Ending.{Ending}
use Rattle.qasm_tokens.specs.declared.item.Ending.TheVariants as ends
use Rattle.qasm_tokens.specs.Tokens.{Token}
use Rattle.qasm_tokens.specs.Items.{Item}
use Rattle.qasm_tokens.specs.Upcoming.{Upcoming}
use Rattle.qasm_tokens.specs.Taken.{TakesBy, is_at_semicolon}
use Rattle.qasm_read.specs.declared.fault.QasmFault.{QasmFault}
use Rattle.qasm_read.specs.declared.refusal.Refusal.{Refusal}
use Rattle.qasm_read.specs.State.{State, read_form}
use Rattle.qasm_read.specs.Lines.{with_lines}
use Rattle.qasm_read.specs.Refusals.{refusals_of, first_refusal}
use Rattle.qasm_read.specs.Earlier.{earlier}
use Rattle.qasm_read.specs.Statements.{after}
use Rattle.qasm_read.specs.Text.{read_items, decide, syntax_in, is_whole}
use Rattle.qasm_read.specs.Step.{is_unbroken, syntax_by, refusal_by, refusal_in, after_item, fault_of, spelled, Reads}
use Rattle.qasm_read.proofs.Order.{first_refusal-append}

-- the items from one on, by its first refusal
items_first : (broken : Option Place) (s : State) (i : Item) (is : List Item)
    → read_items broken s (i ∷ is) ≡ decide (first_refusal (refusals_of (with_lines s i.lines) (is_whole broken is) i.tokens ++ syntax_in broken is))
    (λ b. read_items broken (after_item s i) is)
unfolding read_items
items_first broken s i is = refl

items_none : (broken : Option Place) (s : State) → read_items broken s [] ≡ Ok (read_form s)
unfolding read_items
items_none broken s = refl

-- of an item that others follow
followed : (broken : Option Place) (is : List Item) → is ≢ [] → (is_whole broken is ≡ true) × (syntax_in broken is ≡ [])
followed None is n = (refl, refl)
followed (Some at) [] n = absurd (n refl)
followed (Some at) (i ∷ is) n = (refl, refl)

module _ (old new : Upcoming) (s : State) (i : Item) where
  abbrev ruled : (ending : Ending) → TakesBy ending old i new
      → (rest : List Item) × (old.items ≡ i ∷ rest) × (is_whole old.syntax rest ≡ is_unbroken ending) × (syntax_in old.syntax rest ≡ syntax_by ending)
  ruled ends.Whole t = let f = followed old.syntax new.items t.2 in (new.items, t.0, f.0, f.1)
  ruled ends.TextEnd t = ([], t.0, ap (λ (b : Option Place). is_whole b []) t.1, ap (λ (b : Option Place). syntax_in b []) t.1)
  ruled (ends.Syntax at) t = ([], t.0, ap (λ (b : Option Place). is_whole b []) t.1, ap (λ (b : Option Place). syntax_in b []) t.1)

  decided : (ending : Ending) (t : TakesBy ending old i new)
      → spelled old s ≡ decide (refusal_in s ending i) (λ b. read_items old.syntax (after_item s i) (ruled ending t).0)
  decided ending t =
      let u : State = with_lines s i.lines in
      let rest : List Item = (ruled ending t).0 in
      ap (read_items old.syntax s) (ruled ending t).1
      ∙ (items_first old.syntax s i rest
      ∙ (ap
      (λ (b : Bool). decide (first_refusal (refusals_of u b i.tokens ++ syntax_in old.syntax rest)) (λ b. read_items old.syntax (after u i.tokens) rest))
      (ruled ending t).2
      ∙ ap
      (λ (rs : List Refusal). decide (first_refusal (refusals_of u (is_unbroken ending) i.tokens ++ rs)) (λ b. read_items old.syntax (after u i.tokens) rest))
      (ruled ending t).3))

  -- an item with a refusal
  pub refused : (ending : Ending) (r : Refusal) → TakesBy ending old i new → Some r ≡ refusal_in s ending i → spelled old s ≡ Err r.fault
  refused ending r t e =
      decided ending t ∙ ap (λ (o : Option Refusal). decide o (λ b. read_items old.syntax (after_item s i) (ruled ending t).0)) (sym e)

  clear : (ending : Ending) (t : TakesBy ending old i new) → None ≡ refusal_in s ending i
      → spelled old s ≡ read_items old.syntax (after_item s i) (ruled ending t).0
  clear ending t e =
      decided ending t ∙ ap (λ (o : Option Refusal). decide o (λ b. read_items old.syntax (after_item s i) (ruled ending t).0)) (sym e)

  -- a whole item without one
  pub passed : TakesBy ends.Whole old i new → None ≡ refusal_in s ends.Whole i → Reads true old s new (after_item s i)
  passed t e = (
    clear ends.Whole t e ∙ ap (λ (b : Option Place). read_items b (after_item s i) new.items) t.1,
    let n : length old.items ≡ length (i ∷ new.items) = ap (λ (is : List Item). length is) t.0 in omega arith,
  )

  -- the last item without one
  pub ended : TakesBy ends.TextEnd old i new → None ≡ refusal_in s ends.TextEnd i → Reads false old s new (after_item s i)
  ended t e = clear ends.TextEnd t e ∙ items_none old.syntax (after_item s i)

some_first : (rs : List Refusal) (r : Refusal) → None ≡ first_refusal (rs ++ r ∷ []) → ⊥
some_first [] r e = absurd (cc)
some_first (q ∷ rs) r e = absurd (cc)

-- an item with a Syntax has a refusal
pub never_clear : (at : Place) (s : State) (ts : List Token) → None ≡ refusal_by (ends.Syntax at) s ts → ⊥
never_clear at s ts e = some_first (refusals_of s false ts) _ e

none_first : (rs : List Refusal) → None ≡ first_refusal rs → rs ≡ []
none_first [] e = refl
none_first (r ∷ rs) e = absurd (cc)

-- one without a refusal may be done
pub may_apply : (ending : Ending) (s : State) (ts : List Token) → None ≡ refusal_by ending s ts → refusals_of s true ts ≡ []
may_apply ends.Whole s ts e = none_first (refusals_of s true ts) (e ∙ ap first_refusal (append-nil (refusals_of s true ts)))
may_apply ends.TextEnd s ts e = none_first (refusals_of s true ts) (e ∙ ap first_refusal (append-nil (refusals_of s true ts)))
may_apply (ends.Syntax at) s ts e = absurd (never_clear at s ts e)

module _ (old new : Upcoming) (s : State) (i : Item) where
  -- an item without a refusal, and whether others follow it
  pub stepped : (ending : Ending) (more : Bool) → more ≡ is_at_semicolon ending → TakesBy ending old i new → None ≡ refusal_in s ending i
      → Reads more old s new (after_item s i)
  stepped ends.Whole true e t n = passed old new s i t n
  stepped ends.Whole false e t n = absurd (cc)
  stepped ends.TextEnd true e t n = absurd (cc)
  stepped ends.TextEnd false e t n = ended old new s i t n
  stepped (ends.Syntax at) more e t n = absurd (never_clear at (with_lines s i.lines) i.tokens n)

  -- the fault of an item's first refusal
  pub faulted : (ending : Ending) (f : QasmFault) → TakesBy ending old i new → Some f ≡ fault_of (refusal_in s ending i)
      → spelled old s ≡ Err f
  faulted ending f t e = by (refusal_in s ending i) refl e
    where
      by : (o : Option Refusal) → refusal_in s ending i ≡ o → Some f ≡ fault_of o → spelled old s ≡ Err f
      by None g h = absurd (cc)
      by (Some r) g h = let same : r.fault ≡ f = cc in refused old new s i ending r t (sym g) ∙ ap Err same

-- the first refusal, as it is found
pub refusal_found : (ending : Ending) (s : State) (ts : List Token) (b : Bool) (found last first : Option Refusal) → b ≡ is_unbroken ending
    → found ≡ first_refusal (refusals_of s b ts) → last ≡ first_refusal (syntax_by ending) → first ≡ earlier found last → first ≡ refusal_by ending s ts
refusal_found ending s ts b found last first eb ef el e =
    e ∙ (ap (λ (o : Option Refusal). earlier o last) (ef ∙ ap (λ (x : Bool). first_refusal (refusals_of s x ts)) eb)
    ∙ (ap (earlier (first_refusal (refusals_of s (is_unbroken ending) ts))) el
    ∙ sym (first_refusal-append (refusals_of s (is_unbroken ending) ts) (syntax_by ending))))
