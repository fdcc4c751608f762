-- Tokens put one after another.
use Rattle.std.proofs.Common.{◌≡◌, ℕ, Bool, true, false, ◌&&◌, List, [], ◌∷◌, ◌++◌, refl, sym, ◌∙◌, ap, subst, append_assoc, arith}
use Rattle.silq_io.specs.Counts.{Rose}
use Rattle.silq_io.specs.Sinks.{Adds, Breaks}
use Rattle.silq_io.proofs.Added.{adds_more, adds_none, breaks_front, breaks_rest, rose_after}
use Rattle.silq_grammar.specs.declared.token.Token.{Token}
use Rattle.silq_print.specs.Printed.{token_text, blank_behind, printed}
use Rattle.silq_print.specs.Puts.{State, Puts}

pub printed_both : (names : List (List ℕ)) (ts us : List Token) → printed names (ts ++ us) ≡ printed names ts ++ printed names us
printed_both names [] us = refl
printed_both names (t ∷ ts) us =
    ap (λ w. token_text names t ++ blank_behind t ∷ w) (printed_both names ts us)
    ∙ sym (append_assoc (token_text names t) (blank_behind t ∷ printed names ts) (printed names us))

pub both_first : (a b : Bool) → (a && b) ≡ true → a ≡ true
both_first true b h = refl
both_first false b h = h

pub both_second : (a b : Bool) → (a && b) ≡ true → b ≡ true
both_second true b h = h
both_second false b h = cc

pub puts_none : (names : List (List ℕ)) (s : State) → Puts true names s s []
puts_none names s = record {
  kept = λ h. refl;
  counted = omega arith;
  rose = λ h g. cc;
  put = λ h g f. adds_none s.told;
  broke = λ h g f. cc;
}

-- tokens and then more
pub puts_both : {a b : Bool} {names : List (List ℕ)} {s t u : State} {ts us : List Token} → Puts a names s t ts → Puts b names t u us → Puts (a && b) names s u (ts ++ us)
puts_both {a = a} {b = b} {names = names} {s = s} {t = t} {u = u} {ts = ts} {us = us} p q = record {
  kept = λ h. let e = p.kept h in let f : t.failed ≡ true = ap (λ x. x.failed) e ∙ h in q.kept f ∙ e;
  counted = omega (arith, p.counted, q.counted);
  rose = λ h g. rose_case t.failed refl h g;
  put = λ h g f. put_case t.failed refl (both_first a b h) (both_second a b h) g f;
  broke = λ h g f. broke_case t.failed refl (both_first a b h) (both_second a b h) g f;
}
  where
    rose_case : (m : Bool) → t.failed ≡ m → s.failed ≡ false → u.failed ≡ true → Rose s.faults u.faults
    rose_case true e h g = let k : t.faults ≡ u.faults = sym (ap (λ z. z.faults) (q.kept e)) in subst (Rose s.faults) k (p.rose h e)
    rose_case false e h g = rose_after s.faults t.faults u.faults p.counted (q.rose e g)

    put_case : (m : Bool) → t.failed ≡ m → a ≡ true → b ≡ true → s.failed ≡ false → u.failed ≡ false → Adds s.told u.told (printed names (ts ++ us))
    put_case true e x y g f = let k = ap (λ z. z.failed) (q.kept e) in cc
    put_case false e x y g f =
        subst (Adds s.told u.told) (sym (printed_both names ts us)) (adds_more s.told t.told u.told (printed names ts) (printed names us) (p.put x g e) (q.put y e f))

    broke_case : (m : Bool) → t.failed ≡ m → a ≡ true → b ≡ true → s.failed ≡ false → u.failed ≡ true → Breaks s.told u.told (printed names (ts ++ us))
    broke_case true e x y g f =
        let k : u.told ≡ t.told = ap (λ z. z.told) (q.kept e) in
        subst (Breaks s.told u.told) (sym (printed_both names ts us))
        (subst (λ z. Breaks s.told z (printed names ts ++ printed names us)) (sym k) (breaks_front s.told t.told (printed names ts) (printed names us) (p.broke x g e)))
    broke_case false e x y g f =
        subst (Breaks s.told u.told) (sym (printed_both names ts us)) (breaks_rest s.told t.told u.told (printed names ts) (printed names us) (p.put x g e) (q.broke y e f))

-- a token and then more
pub puts_token : {b : Bool} {names : List (List ℕ)} {s t u : State} {x : Token} {us : List Token} → Puts true names s t (x ∷ []) → Puts b names t u us → Puts b names s u (x ∷ us)
puts_token p q = puts_both p q

-- nothing is claimed of what is not sound
pub puts_weaker : {a b : Bool} {names : List (List ℕ)} {s t : State} {ts : List Token} → (b ≡ true → a ≡ true) → Puts a names s t ts → Puts b names s t ts
puts_weaker w p = record {
  kept = p.kept;
  counted = p.counted;
  rose = p.rose;
  put = λ h g f. p.put (w h) g f;
  broke = λ h g f. p.broke (w h) g f;
}

-- tokens and then more that are sound in any case
pub puts_and : {a : Bool} {names : List (List ℕ)} {s t u : State} {ts us : List Token} → Puts a names s t ts → Puts true names t u us → Puts a names s u (ts ++ us)
puts_and {a = a} p q = puts_weaker (λ h. cc) (puts_both p q)

-- the same tokens where it is sound
pub puts_where : {b : Bool} {names : List (List ℕ)} {s t : State} {ts us : List Token} → (b ≡ true → ts ≡ us) → Puts b names s t ts → Puts b names s t us
puts_where {names = names} {s = s} {t = t} e p = record {
  kept = p.kept;
  counted = p.counted;
  rose = p.rose;
  put = λ h g f. subst (λ w. Adds s.told t.told (printed names w)) (e h) (p.put h g f);
  broke = λ h g f. subst (λ w. Breaks s.told t.told (printed names w)) (e h) (p.broke h g f);
}

-- the other name of what is sound
pub puts_if : {a b : Bool} {names : List (List ℕ)} {s t : State} {ts : List Token} → a ≡ b → Puts a names s t ts → Puts b names s t ts
puts_if {names = names} {s = s} {t = t} {ts = ts} e p = subst (λ c. Puts c names s t ts) e p

pub puts_as : {b : Bool} {names : List (List ℕ)} {s t : State} {ts us : List Token} → ts ≡ us → Puts b names s t ts → Puts b names s t us
puts_as {b = b} {names = names} {s = s} {t = t} e p = subst (Puts b names s t) e p

-- what is left to put: once it is put, all is
abbrev pub Left : List (List ℕ) → State → Bool → List Token → State → Bool → List Token → Type 0
Left names start all_sound all now sound rest = (end : State) → Puts sound names now end rest → Puts all_sound names start end all

pub ruleset putting = (puts_none, puts_both, puts_token)

pub ruleset parts = (adds_more, breaks_front, breaks_rest, rose_after)
