-- What the table accepts is a text of the grammar.
use Rattle.std.proofs.Common.{◌≡◌, Bool, true, false, List, [], ◌∷◌, ◌++◌, map, Some, None, cond, refl, sym, ◌∙◌, ap, append_assoc, append-nil}
use Rattle.gate_core.specs.declared.gate.OneKind.{OneKind}
use Rattle.grammar_core.specs.Table.{accepts}
use Rattle.grammar_core.specs.Stands.{StandsAll, nothing, first_then, RuleStands, Builds}
use Rattle.grammar_core.proofs.Stood.{accepted_stands}
use Rattle.qasm_tokens.specs.declared.kind.Kind.{Kind}
use Rattle.qasm_tokens.specs.declared.kind.Kind.TheVariants as k
use Rattle.qasm_tokens.specs.declared.symbol.Symbol.{Symbol}
use Rattle.qasm_tokens.specs.declared.symbol.Symbol.TheVariants.{Expect, AName, AFile, IndexPart, UnderIf, MoreBarrier, Unread}
use Rattle.qasm_tokens.specs.Table.{table, begin, can_be_empty, same_kind, is_name, end_item, operand, a_text}
use Rattle.qasm_tokens.specs.declared.symbol.Symbol.TheVariants.{Items as AllItems}
use Rattle.qasm_tokens.specs.Grammar as g
use Rattle.qasm_tokens.specs.Grammar.{Name, Any, bit, register, Anys, last, and_more, Plain, one, cx, cz, ccx, include, qreg, creg, plain, measure, condition, barrier, Refused, definition, reset, lower, upper, other_file, if_measure, if_reset, if_barrier, if_lower, if_upper, none, more, refused, any_kinds, anys_kinds, plain_kinds, if_kinds, item_kinds, refused_kinds, items_kinds, text_kinds, IsText}
use Rattle.qasm_tokens.proofs.Tested.{same}

abbrev pub ItemsFrom : List Kind → Type 0
ItemsFrom ts = (is : g.Items) × (items_kinds is ≡ ts)

-- what the tokens of each symbol complete
abbrev pub Stands : Symbol → List Kind → Type 0
Stands (Expect s) ts = ts ≡ s ∷ []
Stands AName ts = (n : Name) × (ts ≡ n.kind ∷ [])
Stands AllItems ts = ItemsFrom ts
Stands AFile ts = ItemsFrom (k.Include ∷ ts)
Stands IndexPart ts = (n : Name) → (a : Any) × (any_kinds a ≡ n.kind ∷ ts)
Stands UnderIf ts = (n : Name) → ItemsFrom (if_kinds n ts)
Stands MoreBarrier ts = (a : Any) → (as_ : Anys) × (anys_kinds as_ ≡ any_kinds a ++ ts)
Stands Unread ts = Unit {0}

with_part : {x : Symbol} {xs : List Symbol} {ts : List Kind} {Q : Type 0} → StandsAll Stands (x ∷ xs) ts
    → ((us vs : List Kind) → Stands x us → StandsAll Stands xs vs → ts ≡ us ++ vs → Q) → Q
with_part (first_then {us = us} {vs = vs} s r) f = f us vs s r refl

end_of : {ts : List Kind} → StandsAll Stands [] ts → ts ≡ []
end_of nothing = refl

-- one symbol alone
only : (x : Symbol) (ts : List Kind) → StandsAll Stands (x ∷ []) ts → Stands x ts
only x ts r = with_part r (λ us vs s q e. rw (e, end_of q, append-nil) s)

with_sign : {s : Kind} {xs : List Symbol} {ts : List Kind} {Q : Type 0} → StandsAll Stands (Expect s ∷ xs) ts
    → ((vs : List Kind) → StandsAll Stands xs vs → ts ≡ s ∷ vs → Q) → Q
with_sign (first_then {vs = vs} s r) f = f vs r (ap (λ w. w ++ vs) s)

with_name : {xs : List Symbol} {ts : List Kind} {Q : Type 0} → StandsAll Stands (AName ∷ xs) ts
    → ((n : Name) (vs : List Kind) → StandsAll Stands xs vs → ts ≡ n.kind ∷ vs → Q) → Q
with_name (first_then {vs = vs} s r) f = f s.0 vs r (ap (λ w. w ++ vs) s.1)

with_operand : {xs : List Symbol} {ts : List Kind} {Q : Type 0} → StandsAll Stands (AName ∷ IndexPart ∷ xs) ts
    → ((a : Any) (vs : List Kind) → StandsAll Stands xs vs → ts ≡ any_kinds a ++ vs → Q) → Q
with_operand r f = with_name r (λ n us q e. with_part q (λ vs ws i p h. f (i n).0 ws p (e ∙ ap (λ w. n.kind ∷ w) h ∙ ap (λ w. w ++ ws) (sym (i n).1))))

-- the semicolon and the items behind it
with_end : {ts : List Kind} {Q : Type 0} → StandsAll Stands end_item ts → ((is : g.Items) → ts ≡ k.Semicolon ∷ items_kinds is → Q) → Q
with_end r f = with_sign r (λ vs q e. let o = only AllItems vs q in f o.0 (e ∙ ap (λ w. k.Semicolon ∷ w) (sym o.1)))

-- a gate, behind a name as an item or under an `if`
abbrev PlainFrom : List Kind → Type 0
PlainFrom ts = (p : Plain) × (is : g.Items) × (plain_kinds p ++ items_kinds is ≡ ts)

one_operand : (o : OneKind) (ts : List Kind) → StandsAll Stands (operand end_item) ts → PlainFrom (k.One o ∷ ts)
one_operand o ts r = with_operand r (λ a vs q e. with_end q (λ is h. (one o a, is, rw (e, h, append_assoc) refl)))

two_operands : (ts : List Kind) → StandsAll Stands (operand (Expect k.Comma ∷ operand end_item)) ts
    → (a : Any) × (b : Any) × (is : g.Items) × (ts ≡ any_kinds a ++ (k.Comma ∷ (any_kinds b ++ (k.Semicolon ∷ items_kinds is))))
two_operands ts r =
    with_operand r (λ a v0 q0 e0. with_sign q0 (λ v1 q1 e1. with_operand q1 (λ b v2 q2 e2. with_end q2 (λ is e3. (a, b, is, rw (e0, e1, e2, e3) refl)))))

three_operands : (ts : List Kind) → StandsAll Stands (operand (Expect k.Comma ∷ operand (Expect k.Comma ∷ operand end_item))) ts
    → (a : Any) × (b : Any) × (c : Any) × (is : g.Items) × (ts ≡ any_kinds a ++ (k.Comma ∷ (any_kinds b ++ (k.Comma ∷ (any_kinds c ++ (k.Semicolon ∷ items_kinds is))))))
three_operands ts r =
    with_operand r (λ a v0 q0 e0. with_sign q0 (λ v1 q1 e1. with_operand q1 (λ b v2 q2 e2. with_sign q2 (λ v3 q3 e3. with_operand q3 (λ c v4 q4 e4. with_end q4 (λ is e5.
    (a, b, c, is, rw (e0, e1, e2, e3, e4, e5) refl)))))))

-- the kinds of a gate and what is behind it, grouped to the right
pub cx_kinds : (a b : Any) (us : List Kind) → plain_kinds (cx a b) ++ us ≡ k.Cx ∷ (any_kinds a ++ (k.Comma ∷ (any_kinds b ++ (k.Semicolon ∷ us))))
cx_kinds a b us = simp append_assoc refl

pub cz_kinds : (a b : Any) (us : List Kind) → plain_kinds (cz a b) ++ us ≡ k.Cz ∷ (any_kinds a ++ (k.Comma ∷ (any_kinds b ++ (k.Semicolon ∷ us))))
cz_kinds a b us = simp append_assoc refl

pub ccx_kinds : (a b c : Any) (us : List Kind) → plain_kinds (ccx a b c) ++ us ≡ k.Ccx ∷ (any_kinds a ++ (k.Comma ∷ (any_kinds b ++ (k.Comma ∷ (any_kinds c ++ (k.Semicolon ∷ us))))))
ccx_kinds a b c us = simp append_assoc refl

a_cx : (ts : List Kind) → StandsAll Stands (operand (Expect k.Comma ∷ operand end_item)) ts → PlainFrom (k.Cx ∷ ts)
a_cx ts r = let t = two_operands ts r in (cx t.0 t.1, t.2, cx_kinds t.0 t.1 (items_kinds t.2) ∙ ap (λ w. k.Cx ∷ w) (sym t.3))

a_cz : (ts : List Kind) → StandsAll Stands (operand (Expect k.Comma ∷ operand end_item)) ts → PlainFrom (k.Cz ∷ ts)
a_cz ts r = let t = two_operands ts r in (cz t.0 t.1, t.2, cz_kinds t.0 t.1 (items_kinds t.2) ∙ ap (λ w. k.Cz ∷ w) (sym t.3))

a_ccx : (ts : List Kind) → StandsAll Stands (operand (Expect k.Comma ∷ operand (Expect k.Comma ∷ operand end_item))) ts → PlainFrom (k.Ccx ∷ ts)
a_ccx ts r = let t = three_operands ts r in (ccx t.0 t.1 t.2, t.3, ccx_kinds t.0 t.1 t.2 (items_kinds t.3) ∙ ap (λ w. k.Ccx ∷ w) (sym t.4))

as_item : (ts : List Kind) → PlainFrom ts → ItemsFrom ts
as_item ts p = (more (plain p.0) p.1, p.2)

held : (n : Name) (ts : List Kind) → PlainFrom ts → ItemsFrom (if_kinds n ts)
held n ts p = (more (condition n p.0) p.1, ap (λ w. if_kinds n w) p.2)

a_declaration : (ts : List Kind) → StandsAll Stands (AName ∷ Expect k.LeftBracket ∷ Expect k.Number ∷ Expect k.RightBracket ∷ end_item) ts
    → (n : Name) × (is : g.Items) × (ts ≡ n.kind ∷ k.LeftBracket ∷ k.Number ∷ k.RightBracket ∷ k.Semicolon ∷ items_kinds is)
a_declaration ts r =
    with_name r (λ n v0 q0 e0. with_sign q0 (λ v1 q1 e1. with_sign q1 (λ v2 q2 e2. with_sign q2 (λ v3 q3 e3. with_end q3 (λ is e4. (n, is, rw (e0, e1, e2, e3, e4) refl))))))

a_qreg : (ts : List Kind) → StandsAll Stands (AName ∷ Expect k.LeftBracket ∷ Expect k.Number ∷ Expect k.RightBracket ∷ end_item) ts → ItemsFrom (k.Qreg ∷ ts)
a_qreg ts r = let d = a_declaration ts r in (more (qreg d.0) d.1, ap (λ w. k.Qreg ∷ w) (sym d.2))

a_creg : (ts : List Kind) → StandsAll Stands (AName ∷ Expect k.LeftBracket ∷ Expect k.Number ∷ Expect k.RightBracket ∷ end_item) ts → ItemsFrom (k.Creg ∷ ts)
a_creg ts r = let d = a_declaration ts r in (more (creg d.0) d.1, ap (λ w. k.Creg ∷ w) (sym d.2))

a_measure : (ts : List Kind) → StandsAll Stands (operand (Expect k.Arrow ∷ operand end_item)) ts → ItemsFrom (k.Measure ∷ ts)
a_measure ts r =
    with_operand r (λ a v0 q0 e0. with_sign q0 (λ v1 q1 e1. with_operand q1 (λ b v2 q2 e2. with_end q2 (λ is e3. (more (measure a b) is, rw (e0, e1, e2, e3) (simp append_assoc refl))))))

an_if : (ts : List Kind) → StandsAll Stands (Expect k.LeftParen ∷ AName ∷ Expect k.Equal ∷ Expect k.Number ∷ Expect k.RightParen ∷ UnderIf ∷ []) ts → ItemsFrom (k.If ∷ ts)
an_if ts r =
    with_sign r (λ v0 q0 e0. with_name q0 (λ n v1 q1 e1. with_sign q1 (λ v2 q2 e2. with_sign q2 (λ v3 q3 e3. with_sign q3 (λ v4 q4 e4.
    let u = only UnderIf v4 q4 n in (u.0, u.1 ∙ rw (e0, e1, e2, e3, e4) refl))))))

a_barrier : (ts : List Kind) → StandsAll Stands (operand (MoreBarrier ∷ end_item)) ts → ItemsFrom (k.Barrier ∷ ts)
a_barrier ts r =
    with_operand r (λ a v0 q0 e0. with_part q0 (λ us v1 m q1 e1. with_end q1 (λ is e2.
    (more (barrier (m a).0) is, rw (e0, e1, e2, (m a).1) (simp append_assoc refl)))))

expect_rule : (s t : Kind) (ts : List Kind) (b : Bool) → same_kind s t ≡ b → RuleStands table (λ t. t) Stands (cond b (Some []) None) (Expect s) t ts
expect_rule s t ts true e = λ r. rw (end_of r, same s t e) refl
expect_rule s t ts false e = tt

name_rule : (t : Kind) (ts : List Kind) (b : Bool) → is_name t ≡ b → RuleStands table (λ t. t) Stands (cond b (Some []) None) AName t ts
name_rule t ts true e = λ r. (record { kind = t; lower = e }, rw (end_of r) refl)
name_rule t ts false e = tt

rule : (x : Symbol) (t : Kind) (ts : List Kind) → RuleStands table (λ t. t) Stands (begin x t) x t ts
rule (Expect s) t ts = expect_rule s t ts (same_kind s t) refl
rule AName t ts = name_rule t ts (is_name t) refl
rule AllItems k.Include ts = λ r. only AFile ts r
rule AllItems k.Qreg ts = λ r. a_qreg ts r
rule AllItems k.Creg ts = λ r. a_creg ts r
rule AllItems k.Measure ts = λ r. a_measure ts r
rule AllItems k.If ts = λ r. an_if ts r
rule AllItems k.Barrier ts = λ r. a_barrier ts r
rule AllItems k.Definition ts = λ r. (refused definition ts, refl)
rule AllItems k.Reset ts = λ r. (refused reset ts, refl)
rule AllItems k.Lower ts = λ r. (refused lower ts, refl)
rule AllItems k.Upper ts = λ r. (refused upper ts, refl)
rule AllItems (k.One o) ts = λ r. as_item _ (one_operand o ts r)
rule AllItems k.Cx ts = λ r. as_item _ (a_cx ts r)
rule AllItems k.Cz ts = λ r. as_item _ (a_cz ts r)
rule AllItems k.Ccx ts = λ r. as_item _ (a_ccx ts r)
rule AFile k.Library ts = λ r. with_end r (λ is e. (more include is, rw e refl))
rule AFile k.OtherFile ts = λ r. (refused other_file ts, refl)
rule IndexPart k.LeftBracket ts = λ r n. with_sign r (λ v0 q0 e0. with_sign q0 (λ v1 q1 e1. (bit n, rw (e0, e1, end_of q1) refl)))
rule UnderIf k.Measure ts = λ r n. (refused (if_measure n) ts, refl)
rule UnderIf k.Reset ts = λ r n. (refused (if_reset n) ts, refl)
rule UnderIf k.Barrier ts = λ r n. (refused (if_barrier n) ts, refl)
rule UnderIf k.Lower ts = λ r n. (refused (if_lower n) ts, refl)
rule UnderIf k.Upper ts = λ r n. (refused (if_upper n) ts, refl)
rule UnderIf (k.One o) ts = λ r n. held n _ (one_operand o ts r)
rule UnderIf k.Cx ts = λ r n. held n _ (a_cx ts r)
rule UnderIf k.Cz ts = λ r n. held n _ (a_cz ts r)
rule UnderIf k.Ccx ts = λ r n. held n _ (a_ccx ts r)
rule MoreBarrier k.Comma ts = λ r a. with_operand r (λ b v0 q0 e0. let m = only MoreBarrier v0 q0 b in (and_more a m.0, rw (e0, m.1) refl))
rule Unread t ts = λ r. tt
rule _ _ ts = tt

no_tokens : (x : Symbol) → can_be_empty x ≡ true → Stands x []
no_tokens (Expect s) e = cc
no_tokens AName e = cc
no_tokens AllItems e = (none, refl)
no_tokens AFile e = cc
no_tokens IndexPart e = λ n. (register n, refl)
no_tokens UnderIf e = cc
no_tokens MoreBarrier e = λ a. (last a, rw append-nil refl)
no_tokens Unread e = tt

pub builds : Builds table (λ t. t) Stands
builds = record { rule = rule; empty = no_tokens }

as_it_is : (ts : List Kind) → map (λ t. t) ts ≡ ts
as_it_is [] = refl
as_it_is (t ∷ ts) = rw (as_it_is ts) refl

-- tokens that the table accepts are a text of the grammar
pub accepted_is_text : (ts : List Kind) → accepts table a_text ts ≡ true → IsText ts
accepted_is_text ts a =
    with_sign (accepted_stands table (λ t. t) Stands builds a_text ts (rw as_it_is a)) (λ v0 q0 e0. with_sign q0 (λ v1 q1 e1. with_end q1 (λ is e2. (is, rw (e0, e1, e2) refl))))
