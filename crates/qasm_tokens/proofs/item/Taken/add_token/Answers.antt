use Rattle.std.proofs.Common.{◌≡◌, ◌++◌, ◌∷◌, [], List, true, false, map, reverse, sym, ◌∙◌, ap}
use Rattle.std.proofs.lemmas.List.{map-append}
use Rattle.std.proofs.lemmas.List.Elements.{All-push}
use Rattle.qasm_tokens.specs.declared.token.Token.{Token}
use Rattle.qasm_tokens.specs.Tokens as tokens
use Rattle.qasm_tokens.specs.Items.{Item, reach, items_of, is_whole}
use Rattle.qasm_tokens.specs.Upcoming.{with_parts}
use Rattle.qasm_tokens.specs.Taken.{IsSpelled, item_of}
use Rattle.qasm_tokens.specs.Cursors.{token_of}
use Rattle.qasm_tokens.proofs.Added.{steps_yes, steps_no, stops_items, stops_syntax, ends_items, goes_syntax, goes_on, some_item, whole_push}
use Rattle.qasm_tokens.proofs.item.Taken.add_token.Goals as goal

pushed : (ts us : List Token) (t : Token) → us ≡ ts ++ (t ∷ []) → map token_of us ≡ map token_of ts ++ (token_of t ∷ [])
pushed ts us t e = ap (map token_of) e ∙ map-append token_of ts (t ∷ [])

pub returns-then-not-branch-clause-item : goal.returns-then-not-branch-clause-item
returns-then-not-branch-clause-item c =
    let a = steps_no _ _ c.args.token.kind c.in_ok-step.field-0 c.if-not-branch.true c.in_ok-step.ensures in
    λ end ms. (stops_items _ _ _ (token_of c.args.token) end ms a, stops_syntax _ (token_of c.args.token) end ms a)

pub returns-then-same_kind-clause-item : goal.returns-then-same_kind-clause-item
returns-then-same_kind-clause-item c =
    let a = steps_yes _ (reverse c.step.new.stack.items) c.args.token.kind c.in_ok-step.field-0 c.if-not-branch.false c.in_ok-step.ensures in
    let s = sym c.same_kind.ensures ∙ c.if-same_kind.true in
    let p = pushed c.args.self.now.tokens.items c.push.new.self.items c.args.token c.in_ok-push.ensures.items in
    let lines = (item_of c.args.self.now).lines in
    λ end ms. (
      ends_items lines _ _ _ (token_of c.args.token) end ms a s
          ∙ ap (λ (us : List tokens.Token). let i : Item = record { lines = lines; tokens = us } in i ∷ items_of (reach end (reverse c.step.new.stack.items) ms).marks) (sym p),
      goes_syntax _ _ (token_of c.args.token) end ms a,
      some_item (reach end (reverse c.step.new.stack.items) ms).marks,
    )

pub returns-clause-item : goal.returns-clause-item
returns-clause-item c =
    let a = steps_yes _ (reverse c.step.new.stack.items) c.args.token.kind c.in_ok-step.field-0 c.if-not-branch.false c.in_ok-step.ensures in
    let s = sym c.same_kind.ensures ∙ c.if-same_kind.false in
    let p = pushed c.args.self.now.tokens.items c.push.new.self.items c.args.token c.in_ok-push.ensures.items in
    let lines = (item_of c.args.self.now).lines in
    λ end ms.
    goes_on lines _ _ _ (token_of c.args.token) end ms a s
    ∙ ap (λ (us : List tokens.Token). with_parts lines us (reach end (reverse c.step.new.stack.items) ms)) (sym p)

pub returns-then-same_kind-clause-whole : goal.returns-then-same_kind-clause-whole
returns-then-same_kind-clause-whole c = λ w.
    ap is_whole (pushed c.args.self.now.tokens.items c.push.new.self.items c.args.token c.in_ok-push.ensures.items)
    ∙ whole_push (map token_of c.args.self.now.tokens.items) (token_of c.args.token) true w (sym c.same_kind.ensures ∙ c.if-same_kind.true)

pub returns-clause-whole : goal.returns-clause-whole
returns-clause-whole c = λ w.
    ap is_whole (pushed c.args.self.now.tokens.items c.push.new.self.items c.args.token c.in_ok-push.ensures.items)
    ∙ whole_push (map token_of c.args.self.now.tokens.items) (token_of c.args.token) false w (sym c.same_kind.ensures ∙ c.if-same_kind.false)

pub returns-then-same_kind-clause-numbers : goal.returns-then-same_kind-clause-numbers
returns-then-same_kind-clause-numbers c = λ h s.
    rw (pushed c.args.self.now.tokens.items c.push.new.self.items c.args.token c.in_ok-push.ensures.items)
    (All-push IsSpelled (map token_of c.args.self.now.tokens.items) (token_of c.args.token) h s)

pub returns-clause-numbers : goal.returns-clause-numbers
returns-clause-numbers c = λ h s.
    rw (pushed c.args.self.now.tokens.items c.push.new.self.items c.args.token c.in_ok-push.ensures.items)
    (All-push IsSpelled (map token_of c.args.self.now.tokens.items) (token_of c.args.token) h s)
