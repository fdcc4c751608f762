-- What a cursor passes.
use Rattle.std.proofs.Common.{◌≡◌, ℕ, suc, ◌+◌, Bool, true, false, cond, not, ◌==◌, ◌++◌, List, [], ◌∷◌, Option, Some, None, length, take, drop, take_while, option_map, append_assoc, refl, sym, ◌∙◌, ap, arith}
use Rattle.std.proofs.Math.Seq.{drop-append_seam}
use Rattle.std.specs.Prelude.{nat_eq, codes}
use Rattle.std.specs.List.{prefix_len, starts_with}
use Rattle.std.proofs.lemmas.Bool.Decides.{Decides-eqb}
use Rattle.std.specs.Str.{chars}
use Rattle.silq_lex.specs.declared.token.Place.{Place}
use Rattle.silq_lex.specs.declared.cursor.Cursor.{Cursor}
use Rattle.silq_lex.specs.Characters.{is_blank}
use Rattle.silq_lex.specs.Runs.{run, past}
use Rattle.silq_lex.specs.Tokens.{gap, fault, Fault, front_of, closed, through_close, put_in_front, ends, fault_at, behind, behind_all, tokens_from}
use Rattle.silq_lex.specs.declared.token.LexCause.{LexCause}
use Rattle.silq_lex.specs.declared.token.LexCause.TheVariants as causes
use Rattle.silq_lex.specs.Cursors.{Passes, IsThere, behind_front, upcoming}
use Rattle.silq_lex.proofs.Longests.{run_past}
use Rattle.silq_lex.proofs.Steps.{tokens_from-cons}
use Rattle.silq_lex.proofs.Texts.{and_left, and_right}

pub behind_all-append : (xs ys : List ℕ) (at : Place) → behind_all at (xs ++ ys) ≡ behind_all (behind_all at xs) ys
behind_all-append [] ys at = refl
behind_all-append (x ∷ xs) ys at = behind_all-append xs ys (behind at x)

pub passes_join : (a b c : Cursor) (s t : List ℕ) → Passes a b s → Passes b c t → Passes a c (s ++ t)
passes_join a b c s t p q = record {
  characters = p.characters ∙ ap (λ z. s ++ z) q.characters ∙ sym (append_assoc s t _);
  place = q.place ∙ ap (λ z. behind_all z t) p.place ∙ sym (behind_all-append s t a.place);
}

-- a run of characters is passed
pub passes_run : (test : ℕ → Bool) (from to : Cursor) → to.place ≡ behind_all from.place (run test (chars from.rest.now))
    → chars to.rest.now ≡ past test (chars from.rest.now) → Passes from to (run test (chars from.rest.now))
passes_run test from to e f = record {
  characters = run_past test (chars from.rest.now) ∙ ap (λ z. run test (chars from.rest.now) ++ z) (sym f);
  place = e;
}

-- the characters through the next */ are a front
closed_step : (b : Bool) (c : ℕ) (cs text : List ℕ) (o : Option (List ℕ)) → ((more : List ℕ) → o ≡ Some more → (rest : List ℕ) × (cs ≡ more ++ rest))
    → (b ≡ true → (rest : List ℕ) × (c ∷ cs ≡ 42 ∷ 47 ∷ rest))
    → cond b (Some (42 ∷ 47 ∷ [])) (option_map (λ more. c ∷ more) o) ≡ Some text → (rest : List ℕ) × (c ∷ cs ≡ text ++ rest)
closed_step true c cs text o h k e = let (rest, f) = k refl in let g : 42 ∷ 47 ∷ [] ≡ text = cc in (rest, f ∙ ap (λ z. z ++ rest) g)
closed_step false c cs text None h k e = cc
closed_step false c cs text (Some more) h k e =
    let (rest, f) = h more refl in let g : c ∷ more ≡ text = cc in (rest, ap (λ z. c ∷ z) f ∙ ap (λ z. z ++ rest) g)

slash_next : (c : ℕ) (cs : List ℕ) → starts_with nat_eq (c ∷ cs) (codes "*/") ≡ true → (rest : List ℕ) × (c ∷ cs ≡ 42 ∷ 47 ∷ rest)
slash_next c [] e = let f : false ≡ true = and_right (nat_eq 42 c) false e in absurd (cc)
slash_next c (d ∷ cs) e =
    let x : 42 ≡ c = (Decides-eqb 42 c).0 (and_left _ _ e) in
    let y : 47 ≡ d = (Decides-eqb 47 d).0 (and_left _ _ (and_right _ _ e)) in
    (cs, ap (λ z. z ∷ d ∷ cs) (sym x) ∙ ap (λ z. 42 ∷ z ∷ cs) (sym y))

pub close_front : (cs text : List ℕ) → through_close cs ≡ Some text → (rest : List ℕ) × (cs ≡ text ++ rest)
close_front [] text e = cc
close_front (c ∷ cs) text e =
    closed_step (starts_with nat_eq (c ∷ cs) (codes "*/")) c cs text (through_close cs) (λ more h. close_front cs more h) (slash_next c cs) e

-- a front is passed
pub passes_there : (from to : Cursor) (text rest : List ℕ) → chars from.rest.now ≡ text ++ rest
    → IsThere (Some to) (behind_front from.place (chars from.rest.now) (Some text)) → Passes from to text
passes_there from to text rest e h =
    let d : chars to.rest.now ≡ rest = h.1 ∙ ap (drop (length text)) e ∙ drop-append_seam text rest in
    record { characters = e ∙ ap (λ z. text ++ z) (sym d); place = h.0 }

-- a blank or a comment was passed: the same tokens come
pub gap_passed : (from to : Cursor) (c : ℕ) (cs text : List ℕ) → chars from.rest.now ≡ c ∷ cs → front_of c cs ≡ gap text → Passes from to text → upcoming from ≡ upcoming to
gap_passed from to c cs text e f p =
    let d : drop (length text) (c ∷ cs) ≡ chars to.rest.now = ap (drop (length text)) (sym e ∙ p.characters) ∙ drop-append_seam text _ in
    ap (tokens_from from.place) e ∙ tokens_from-cons from.place c cs ∙ ap (λ F. put_in_front F from.place (λ t. tokens_from (behind_all from.place t) (drop (length t) (c ∷ cs)))) f
    ∙ ap (tokens_from (behind_all from.place text)) d ∙ ap (λ at. tokens_from at (chars to.rest.now)) (sym p.place)

pub fault_here : (from : Cursor) (c : ℕ) (cs : List ℕ) (cause : LexCause) → chars from.rest.now ≡ c ∷ cs → front_of c cs ≡ fault cause → upcoming from ≡ ends (Fault (fault_at from.place cause))
fault_here from c cs cause e f =
    ap (tokens_from from.place) e ∙ tokens_from-cons from.place c cs ∙ ap (λ F. put_in_front F from.place (λ t. tokens_from (behind_all from.place t) (drop (length t) (c ∷ cs)))) f

-- what stands at a blank, at // and at /*
not_slash : (c : ℕ) → is_blank c ≡ true → nat_eq 47 c ≡ false
not_slash c e = of (nat_eq 47 c) refl
  where
    of : (b : Bool) → nat_eq 47 c ≡ b → b ≡ false
    of true h = let k : 47 ≡ c = (Decides-eqb 47 c).0 h in let f : false ≡ true = ap is_blank k ∙ e in absurd (cc)
    of false h = refl

starts_other : (c d : ℕ) (cs : List ℕ) (more : List ℕ) → nat_eq 47 c ≡ false → starts_with nat_eq (c ∷ cs) (47 ∷ d ∷ more) ≡ false
starts_other c d [] more e = rw e refl
starts_other c d (x ∷ cs) more e = rw e refl

pub front_blank : (c : ℕ) (cs : List ℕ) → is_blank c ≡ true → front_of c cs ≡ gap (c ∷ [])
front_blank c cs e =
    let n = not_slash c e in
    simp (starts_other c 47 cs [] n, starts_other c 42 cs [] n, e)

pub take_while-run : (test : ℕ → Bool) (cs : List ℕ) → take_while test cs ≡ run test cs
take_while-run test [] = refl
take_while-run test (c ∷ cs) = of (test c) (take_while-run test cs)
  where
    of : (b : Bool) → take (prefix_len test cs) cs ≡ run test cs → take (cond b (1 + prefix_len test cs) 0) (c ∷ cs) ≡ cond b (c ∷ run test cs) []
    of true h = let k : 1 + prefix_len test cs ≡ suc (prefix_len test cs) = omega arith in rw k (ap (λ z. c ∷ z) h)
    of false h = refl

pub front_line : (cs : List ℕ) → front_of 47 (47 ∷ cs) ≡ gap (47 ∷ 47 ∷ run (λ d. not (d == 10)) cs)
front_line cs = ap (λ z. gap (47 ∷ z)) (take_while-run (λ d. not (d == 10)) (47 ∷ cs))

pub front_comment : (cs : List ℕ) → front_of 47 (42 ∷ cs) ≡ closed (through_close cs)
front_comment cs = refl

two_same : (c d x y : ℕ) → c ≡ x → d ≡ y → c ∷ d ∷ [] ≡ x ∷ y ∷ []
two_same c d x y e f = cc

same_passed : (a b : Cursor) (s t : List ℕ) → s ≡ t → Passes a b s → Passes a b t
same_passed a b s t e p = rw (← e) p

-- a line comment was passed
pub line_passed : (from next inside to : Cursor) (c d : ℕ) → c ≡ 47 → d ≡ 47 → Passes from next (c ∷ []) → Passes next inside (d ∷ [])
    → to.place ≡ behind_all inside.place (run (λ x. not (x == 10)) (chars inside.rest.now)) → chars to.rest.now ≡ past (λ x. not (x == 10)) (chars inside.rest.now)
    → upcoming from ≡ upcoming to
line_passed from next inside to c d e f p q r s =
    let here : Passes from inside (c ∷ d ∷ []) = passes_join from next inside (c ∷ []) (d ∷ []) p q in
    let slashes : Passes from inside (47 ∷ 47 ∷ []) = same_passed from inside _ _ (two_same c d 47 47 e f) here in
    gap_passed from to 47 (47 ∷ chars inside.rest.now) (47 ∷ 47 ∷ run (λ x. not (x == 10)) (chars inside.rest.now)) slashes.characters (front_line (chars inside.rest.now))
    (passes_join from inside to (47 ∷ 47 ∷ []) (run (λ x. not (x == 10)) (chars inside.rest.now)) slashes (passes_run (λ x. not (x == 10)) inside to r s))

-- a comment was passed, or it has no end
pub comment_passed : (from next inside to : Cursor) (c d : ℕ) → c ≡ 47 → d ≡ 42 → Passes from next (c ∷ []) → Passes next inside (d ∷ [])
    → IsThere (Some to) (behind_front inside.place (chars inside.rest.now) (through_close (chars inside.rest.now))) → upcoming from ≡ upcoming to
comment_passed from next inside to c d e f p q h = of (through_close (chars inside.rest.now)) refl h
  where
    of : (o : Option (List ℕ)) → through_close (chars inside.rest.now) ≡ o → IsThere (Some to) (behind_front inside.place (chars inside.rest.now) o) → upcoming from ≡ upcoming to
    of None k h = absurd h
    of (Some text) k h =
        let here : Passes from inside (c ∷ d ∷ []) = passes_join from next inside (c ∷ []) (d ∷ []) p q in
        let signs : Passes from inside (47 ∷ 42 ∷ []) = same_passed from inside _ _ (two_same c d 47 42 e f) here in
        let (rest, front) = close_front (chars inside.rest.now) text k in
        gap_passed from to 47 (42 ∷ chars inside.rest.now) (47 ∷ 42 ∷ text) signs.characters (front_comment (chars inside.rest.now) ∙ ap closed k)
        (passes_join from inside to (47 ∷ 42 ∷ []) text signs (passes_there inside to text rest front h))

pub comment_open : (from next inside : Cursor) (c d : ℕ) → c ≡ 47 → d ≡ 42 → Passes from next (c ∷ []) → Passes next inside (d ∷ [])
    → IsThere None (behind_front inside.place (chars inside.rest.now) (through_close (chars inside.rest.now)))
    → upcoming from ≡ ends (Fault (fault_at from.place causes.Comment))
comment_open from next inside c d e f p q h = of (through_close (chars inside.rest.now)) refl h
  where
    of : (o : Option (List ℕ)) → through_close (chars inside.rest.now) ≡ o → IsThere None (behind_front inside.place (chars inside.rest.now) o)
        → upcoming from ≡ ends (Fault (fault_at from.place causes.Comment))
    of (Some text) k h = absurd h
    of None k h =
        let here : Passes from inside (c ∷ d ∷ []) = passes_join from next inside (c ∷ []) (d ∷ []) p q in
        let signs : Passes from inside (47 ∷ 42 ∷ []) = same_passed from inside _ _ (two_same c d 47 42 e f) here in
        fault_here from 47 (42 ∷ chars inside.rest.now) causes.Comment signs.characters (front_comment (chars inside.rest.now) ∙ ap closed k)
