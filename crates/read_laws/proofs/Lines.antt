-- Reading a text from its front on, a line after another.
use Rattle.std.proofs.Common.{◌≡◌, ◌≢◌, ℕ, Bool, true, false, cond, List, [], ◌∷◌, ◌++◌, map, Option, Some, None, refl, sym, ◌∙◌, ap, append_assoc, if◌then◌else◌}
use Rattle.std.specs.Prelude.{Result}
use Rattle.std.specs.List.{list_all}
use Rattle.silq_lex.specs.declared.token.Place.{Place}
use Rattle.silq_lex.specs.Tokens.{behind, behind_all}
use Rattle.silq_lex.proofs.Passing.{behind_all-append}
use Rattle.grammar_core.specs.Table.{advance, expected, then_maybe}
use Rattle.qasm_tokens.specs.declared.kind.Kind.{Kind}
use Rattle.qasm_tokens.specs.declared.kind.Kind.TheVariants as k
use Rattle.qasm_tokens.specs.declared.symbol.Symbol.{Symbol}
use Rattle.qasm_tokens.specs.declared.symbol.Symbol.TheVariants.{Items}
use Rattle.qasm_tokens.specs.Tokens.{Token, Mark, token, line, blank, marks_from}
use Rattle.qasm_tokens.specs.Table.{table, same_kind}
use Rattle.qasm_tokens.specs.Items.{Reach, reach, reach_at, with_mark, Item, items_of, no_item, with_token, with_text}
use Rattle.qasm_tokens.proofs.Steps.{marks_of_front}
use Rattle.qasm_tokens.proofs.Added.{some_item}
use Rattle.qasm_read.specs.declared.fault.QasmFault.{QasmFault}
use Rattle.qasm_read.specs.State.{State, ReadForm}
use Rattle.qasm_read.specs.Text.{read_items}
use Rattle.qasm_read.specs.Lines.{with_line}
use Rattle.qasm_read.specs.Refusals.{refusals_of}
use Rattle.qasm_read.specs.Statements.{after}
use Rattle.read_laws.proofs.Parts.{Part, space, word, part_text, text_of_parts, kinds_of, tokens_at, is_ascii, StandInTurn, marks_of_parts, ascii_append, ascii_of_parts}

-- ---- what is reached over tokens

abbrev pub with_marks : List Mark → Reach → Reach
with_marks [] r = r
with_marks (m ∷ ms) r = with_mark m (with_marks ms r)

reach_over : (end : Place) (ts : List Token) (xs ys : List Symbol) (ms : List Mark) → expected table xs (map (λ t. t.kind) ts) ≡ Some ys
    → reach end xs (map token ts ++ ms) ≡ with_marks (map token ts) (reach end ys ms)
unfolding reach
reach_over end [] xs ys ms h = let e : xs ≡ ys = cc in ap (λ zs. reach end zs ms) e
reach_over end (t ∷ ts) xs ys ms h = of (advance table xs t.kind) h (λ zs. reach_over end ts zs ys ms)
  where
    of : (o : Option (List Symbol)) → then_maybe o (λ zs. expected table zs (map (λ u. u.kind) ts)) ≡ Some ys
        → ((zs : List Symbol) → expected table zs (map (λ u. u.kind) ts) ≡ Some ys
        → reach end zs (map token ts ++ ms) ≡ with_marks (map token ts) (reach end ys ms))
        → reach_at o t (λ zs. reach end zs (map token ts ++ ms)) ≡ with_mark (token t) (with_marks (map token ts) (reach end ys ms))
    of None e f = cc
    of (Some zs) e f = ap (with_mark (token t)) (f zs e)

marks_are : (ts : List Token) (r : Reach) → (with_marks (map token ts) r).marks ≡ map token ts ++ r.marks
marks_are [] r = refl
marks_are (t ∷ ts) r = ap (λ ms. token t ∷ ms) (marks_are ts r)

syntax_is : (ts : List Token) (r : Reach) → (with_marks (map token ts) r).syntax ≡ r.syntax
syntax_is [] r = refl
syntax_is (t ∷ ts) r = syntax_is ts r

-- ---- an item

abbrev pub is_nil : List Kind → Bool
is_nil [] = true
is_nil (x ∷ xs) = false

-- the last kind alone is a semicolon
abbrev pub closes : List Kind → Bool
closes [] = false
closes (x ∷ xs) = cond (same_kind k.Semicolon x) (is_nil xs) (closes xs)

items_over : (ts : List Token) (ms : List Mark) → closes (map (λ t. t.kind) ts) ≡ true
    → items_of (map token ts ++ ms) ≡ record { lines = []; tokens = ts } ∷ items_of ms
unfolding items_of
items_over [] ms h = cc
items_over (t ∷ ts) ms h = of (same_kind k.Semicolon t.kind) ts h (items_over ts ms)
  where
    of : (b : Bool) (us : List Token) → cond b (is_nil (map (λ u. u.kind) us)) (closes (map (λ u. u.kind) us)) ≡ true
        → (closes (map (λ u. u.kind) us) ≡ true → items_of (map token us ++ ms) ≡ record { lines = []; tokens = us } ∷ items_of ms)
        → with_token t (if b then no_item ∷ items_of (map token us ++ ms) else items_of
        (map token us ++ ms)) ≡ record { lines = []; tokens = t ∷ us } ∷ items_of ms
    of true [] e f = refl
    of true (u ∷ us) e f = cc
    of false us e f = ap (with_token t) (f e)

read_item : (b : Option Place) (s : State) (ts : List Token) (is : List Item) → is ≢ [] → refusals_of s true ts ≡ []
    → read_items b s (record { lines = []; tokens = ts } ∷ is) ≡ read_items b (after s ts) is
unfolding read_items
read_item b s ts [] n h = absurd (n refl)
read_item None s ts (i ∷ is) n h = rw h refl
read_item (Some at) s ts (i ∷ is) n h = rw h refl

abbrev pub read_reached : State → Reach → Result ReadForm QasmFault
read_reached s r = read_items r.syntax s (items_of r.marks)

reached_item : (s : State) (ts : List Token) (r : Reach) → closes (map (λ t. t.kind) ts) ≡ true → refusals_of s true ts ≡ []
    → read_reached s (with_marks (map token ts) r) ≡ read_reached (after s ts) r
reached_item s ts r h e =
    ap (λ b. read_items b s (items_of (with_marks (map token ts) r).marks)) (syntax_is ts r)
    ∙ ap (λ ms. read_items r.syntax s (items_of ms)) (marks_are ts r)
    ∙ ap (read_items r.syntax s) (items_over ts r.marks h)
    ∙ read_item r.syntax s ts (items_of r.marks) (some_item r.marks) e

-- ---- a text

-- what a text is read as from a place on, in a state, where these symbols are expected
abbrev pub read_on : Place → List Symbol → State → Place → List ℕ → Result ReadForm QasmFault
read_on end xs s at cs = read_reached s (reach end xs (marks_from at cs))

abbrev pub items : List Symbol
items = Items ∷ []

-- the text takes one state to the other; it is whole lines of ASCII
pub record Reads (xs : List Symbol) (s t : State) (text : List ℕ) : Type 0 where
  pub goes : (end at : Place) (rest : List ℕ) → at.col ≡ 1 → read_on end xs s at (text ++ rest) ≡ read_on end items t (behind_all at text) rest
  pub lines : (at : Place) → at.col ≡ 1 → (behind_all at text).col ≡ 1
  pub ascii : list_all is_ascii text ≡ true

pub reads_nothing : (s : State) → Reads items s s []
reads_nothing s = record { goes = λ end at rest h. refl; lines = λ at h. h; ascii = refl }

pub reads_both : (xs : List Symbol) (s t u : State) (x y : List ℕ) → Reads xs s t x → Reads items t u y → Reads xs s u (x ++ y)
reads_both xs s t u x y h k = record {
  goes = λ end at rest c.
      ap (λ z. read_on end xs s at z) (append_assoc x y rest)
      ∙ h.goes end at (y ++ rest) c
      ∙ k.goes end (behind_all at x) rest (h.lines at c)
      ∙ ap (λ p. read_on end items u p rest) (sym (behind_all-append x y at));
  lines = λ at c. ap (λ p. p.col) (behind_all-append x y at) ∙ k.lines (behind_all at x) (h.lines at c);
  ascii = ascii_append x y h.ascii k.ascii;
}

pub behind_feed : (xs : List ℕ) (at : Place) → (behind_all at (xs ++ 10 ∷ [])).col ≡ 1
behind_feed [] at = refl
behind_feed (x ∷ xs) at = behind_feed xs (behind at x)

pub marks_of_feed : (at : Place) (rest : List ℕ) → marks_from at (10 ∷ rest) ≡ marks_from (behind_all at (10 ∷ [])) rest
marks_of_feed at rest = marks_of_front at 10 [] rest (blank 10) refl refl

kinds_at : (ps : List Part) (at : Place) → map (λ t. t.kind) (tokens_at at ps) ≡ kinds_of ps
kinds_at [] at = refl
kinds_at (space ∷ ps) at = kinds_at ps (behind_all at (part_text space))
kinds_at (word p ∷ ps) at = ap (λ ks. p.kind ∷ ks) (kinds_at ps (behind_all at (part_text (word p))))

-- a line of parts is an item, which takes one state to the other
pub record IsItem (xs : List Symbol) (s t : State) (ps : List Part) : Type 0 where
  pub stands : (rest : List ℕ) → StandInTurn ps (10 ∷ rest)
  pub grammar : expected table xs (kinds_of ps) ≡ Some items
  pub whole : closes (kinds_of ps) ≡ true
  pub allowed : (at : Place) → refusals_of s true (tokens_at at ps) ≡ []
  pub after_it : (at : Place) → after s (tokens_at at ps) ≡ t

line_marks : (ps : List Part) (at : Place) (rest : List ℕ) → StandInTurn ps (10 ∷ rest)
    → marks_from at ((text_of_parts ps ++ 10 ∷ []) ++ rest) ≡ map token (tokens_at at ps) ++ marks_from (behind_all at (text_of_parts ps ++ 10 ∷ [])) rest
line_marks ps at rest h =
    ap (marks_from at) (append_assoc (text_of_parts ps) (10 ∷ []) rest)
    ∙ marks_of_parts ps (10 ∷ rest) at h
    ∙ ap (λ ms. map token (tokens_at at ps) ++ ms) (marks_of_feed (behind_all at (text_of_parts ps)) rest)
    ∙ ap (λ p. map token (tokens_at at ps) ++ marks_from p rest) (sym (behind_all-append (text_of_parts ps) (10 ∷ []) at))

line_goes : (xs : List Symbol) (s t : State) (ps : List Part) → IsItem xs s t ps → (end at : Place) (rest : List ℕ)
    → read_on end xs s at ((text_of_parts ps ++ 10 ∷ []) ++ rest) ≡ read_on end items t (behind_all at (text_of_parts ps ++ 10 ∷ [])) rest
line_goes xs s t ps h end at rest =
    let after_line : Place = behind_all at (text_of_parts ps ++ 10 ∷ []) in
    let kinds : map (λ u. u.kind) (tokens_at at ps) ≡ kinds_of ps = kinds_at ps at in
    ap (λ ms. read_reached s (reach end xs ms)) (line_marks ps at rest (h.stands rest))
    ∙ ap (read_reached s) (reach_over end (tokens_at at ps) xs items (marks_from after_line rest) (ap (expected table xs) kinds ∙ h.grammar))
    ∙ reached_item s (tokens_at at ps) (reach end items (marks_from after_line rest)) (ap closes kinds ∙ h.whole) (h.allowed at)
    ∙ ap (λ u. read_on end items u after_line rest) (h.after_it at)

pub reads_line : (xs : List Symbol) (s t : State) (ps : List Part) (text : List ℕ) → text ≡ text_of_parts ps ++ 10 ∷ [] → IsItem xs s t ps → Reads xs s t text
reads_line xs s t ps text e h = rw e record {
  goes = λ end at rest c. line_goes xs s t ps h end at rest;
  lines = λ at c. behind_feed (text_of_parts ps) at;
  ascii = ascii_append (text_of_parts ps) (10 ∷ []) (ascii_of_parts ps (10 ∷ []) (h.stands [])) refl;
}

-- ---- a comment line

reached_line : (s : State) (text : List ℕ) (r : Reach) → read_reached s (with_mark (line text) r) ≡ read_reached (with_line s text) r
unfolding items_of read_items
reached_line s text r = of (items_of r.marks) (some_item r.marks)
  where
    of : (is : List Item) → is ≢ [] → read_items r.syntax s (with_text text is) ≡ read_items r.syntax (with_line s text) is
    of [] n = absurd (n refl)
    of (i ∷ is) n = refl

pub read_line : (end at behind_it : Place) (s : State) (text cs rest : List ℕ) → marks_from at cs ≡ line text ∷ marks_from behind_it rest
    → read_on end items s at cs ≡ read_on end items (with_line s text) behind_it rest
unfolding reach
read_line end at behind_it s text cs rest h =
    ap (λ ms. read_reached s (reach end items ms)) h ∙ reached_line s text (reach end items (marks_from behind_it rest))
