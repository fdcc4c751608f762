-- Each character puts what it spells, or stands behind a backslash.
use Rattle.std.proofs.Common.{◌≡◌, ℕ, ◌+◌, ◌<◌, Bool, true, false, cond, eqb, List, [], ◌∷◌, ◌++◌, length, get_or, drop, sym, ap, ◌∙◌, arith, append-nil}
use Rattle.std.proofs.lemmas.Bool.Decides.{nat_tests}
use Rattle.std.proofs.lemmas.Iterator.{YieldsList-from_chars}
use Rattle.std.proofs.lemmas.Iterator.Consumers.{YieldsList-turn, YieldsList-end}
use Rattle.std.proofs.lemmas.List.{at_drop_more, append_assoc, drop_all, length_push}
use Rattle.std.specs.Char.{encode_utf8}
use Rattle.std.specs.Str.{chars, encode_utf8_all}
use Rattle.std.specs.String.{string_bytes}
use Rattle.test_lines.specs.Spelled.{escaped, spelled}
use Rattle.test_lines.proofs.row.unescape.Goals as goal

-- the next character is the first of those to come
spells_next : (behind : Bool) (cs : List ℕ) (n c : ℕ) → (n < length cs) × (c ≡ get_or cs n c) → spelled behind (drop n cs) ≡ spelled behind (c ∷ drop (n + 1) cs)
spells_next behind cs n c h = at_drop_more (spelled behind) cs n c h.0 ∙ ap (λ x. spelled behind (x ∷ drop (n + 1) cs)) (sym h.1)

-- where a character puts one, what is put and what is to come is still all
puts : (put now all cs : List ℕ) (n m : ℕ) (behind after : Bool) (c x : ℕ) → put ++ encode_utf8_all (spelled behind (drop n cs)) ≡ all → (n < length cs) × (c ≡ get_or cs n c) → m ≡ n + 1
    → spelled behind (c ∷ drop (n + 1) cs) ≡ x ∷ spelled after (drop (n + 1) cs) → now ≡ put ++ encode_utf8 x → now ++ encode_utf8_all (spelled after (drop m cs)) ≡ all
puts put now all cs n m behind after c x h t q s e =
    ap (λ k. now ++ encode_utf8_all (spelled after (drop k cs))) q
    ∙ ap (λ front. front ++ encode_utf8_all (spelled after (drop (n + 1) cs))) e
    ∙ append_assoc put (encode_utf8 x) _
    ∙ ap (λ rest. put ++ encode_utf8_all rest) (sym (spells_next behind cs n c t ∙ s))
    ∙ h

-- where it puts none, too
passes : (put all cs : List ℕ) (n m : ℕ) (behind after : Bool) (c : ℕ) → put ++ encode_utf8_all (spelled behind (drop n cs)) ≡ all → (n < length cs) × (c ≡ get_or cs n c) → m ≡ n + 1
    → spelled behind (c ∷ drop (n + 1) cs) ≡ spelled after (drop (n + 1) cs) → put ++ encode_utf8_all (spelled after (drop m cs)) ≡ all
passes put all cs n m behind after c h t q s =
    ap (λ k. put ++ encode_utf8_all (spelled after (drop k cs))) q
    ∙ ap (λ rest. put ++ encode_utf8_all rest) (sym (spells_next behind cs n c t ∙ s))
    ∙ h

-- what stands behind a backslash
spells_behind : (behind : Bool) (c : ℕ) (cs : List ℕ) → behind ≡ true → spelled behind (c ∷ cs) ≡ escaped c ∷ spelled false cs
spells_behind behind c cs e = ap (λ b. spelled b (c ∷ cs)) e

-- a backslash
spells_backslash : (behind : Bool) (c : ℕ) (cs : List ℕ) → behind ≡ false → c ≡ 92 → spelled behind (c ∷ cs) ≡ spelled true cs
spells_backslash behind c cs e q = ap (λ b. spelled b (c ∷ cs)) e ∙ ap (λ x. spelled false (x ∷ cs)) q

-- any other character
spells_itself : (behind : Bool) (c : ℕ) (cs : List ℕ) → behind ≡ false → eqb c 92 ≡ false → spelled behind (c ∷ cs) ≡ c ∷ spelled behind cs
spells_itself behind c cs e q = ap (λ b. spelled b (c ∷ cs)) e ∙ ap (λ b. cond b (spelled true cs) (c ∷ spelled false cs)) q ∙ ap (λ b. c ∷ spelled b cs) (sym e)

-- nothing
spells_nothing : (behind : Bool) (cs : List ℕ) → cs ≡ [] → spelled behind cs ≡ []
spells_nothing true cs e = ap (spelled true) e
spells_nothing false cs e = ap (spelled false) e

pub loop-letter-init : goal.loop-letter-init
loop-letter-init c = ap (λ put. put ++ encode_utf8_all (spelled false (chars c.args.line.now))) c.new-text.ensures.bytes

pub loop-letter-preserved-then-behind : goal.loop-letter-preserved-then-behind
loop-letter-preserved-then-behind c =
    let t = YieldsList-turn (YieldsList-from_chars c.args.line.now c.utf8.line cc) c.loop-letter.yielded _ c.loop-letter.yielded_by _ _ c.in-Some.letter c.in-Some.is c.next.ensures.steps in
    puts _ _ _ _ _ _ _ false _ _ c.loop-letter.invariant t (length_push c.loop-letter.yielded c.in-Some.letter)
    (spells_behind c.loop-letter.behind c.in-Some.letter _ c.if-behind.true)
    (c.in_ok-push.ensures.bytes ∙ ap (λ x. string_bytes c.loop-letter.text ++ encode_utf8 x) c.meant.ensures)

pub loop-letter-preserved-then-letter-eq92 : goal.loop-letter-preserved-then-letter-eq92
loop-letter-preserved-then-letter-eq92 c =
    let t = YieldsList-turn (YieldsList-from_chars c.args.line.now c.utf8.line cc) c.loop-letter.yielded _ c.loop-letter.yielded_by _ _ c.in-Some.letter c.in-Some.is c.next.ensures.steps in
    passes _ _ _ _ _ _ true _ c.loop-letter.invariant t (length_push c.loop-letter.yielded c.in-Some.letter)
    (spells_backslash c.loop-letter.behind c.in-Some.letter _ c.if-behind.false c.if-letter-eq92.true)

pub loop-letter-preserved : goal.loop-letter-preserved
loop-letter-preserved c =
    let t = YieldsList-turn (YieldsList-from_chars c.args.line.now c.utf8.line cc) c.loop-letter.yielded _ c.loop-letter.yielded_by _ _ c.in-Some.letter c.in-Some.is c.next.ensures.steps in
    puts _ _ _ _ _ _ _ c.loop-letter.behind _ _ c.loop-letter.invariant t (length_push c.loop-letter.yielded c.in-Some.letter)
    (spells_itself c.loop-letter.behind c.in-Some.letter _ c.if-behind.false (grind (arith, nat_tests)))
    c.in_ok-push-2.ensures.bytes

pub returns : goal.returns
returns c =
    let t = YieldsList-end (YieldsList-from_chars c.args.line.now c.utf8.line cc) c.loop-letter.yielded _ c.loop-letter.yielded_by _ _ c.in-None.is c.next.ensures.steps in
    let cs = chars c.args.line.now in
    let text = string_bytes c.loop-letter.text in
    sym (append-nil text)
    ∙ ap (λ rest. text ++ encode_utf8_all rest) (sym (spells_nothing c.loop-letter.behind _ (drop_all (length c.loop-letter.yielded) cs (omega (arith, t.1)))))
    ∙ c.loop-letter.invariant
