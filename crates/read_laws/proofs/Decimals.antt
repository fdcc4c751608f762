-- Numbers in digits, and their characters.
use Rattle.std.proofs.Common.{◌≡◌, ℕ, zero, suc, ◌<◌, ◌≤◌, ◌^◌, ◌⊎◌, inl, inr, Bool, true, false, ◌||◌, List, [], ◌∷◌, length, nat_eq, nat_le, ◌==◌, decimal, refl, sym, ◌∙◌, ap, arith}
use Rattle.std.specs.List.{list_all}
use Rattle.std.proofs.lemmas.Bool.{leb-true}
use Rattle.std.proofs.lemmas.Bool.Decides.{Decides-eqb}
use Rattle.std.proofs.lemmas.Fmt.{digits_decimal, digits_value-decimal, decimal_nonempty, first_decimal, decimal_digit}
use Rattle.silq_lex.specs.Characters.{is_digit, is_blank}
use Rattle.silq_lex.specs.Kinds.{number_of}
use Rattle.silq_lex.proofs.Texts.{and_left, and_right, and_true, digits_model}
use Rattle.qasm_tokens.specs.Words.{is_letter, goes_on}

-- these digits spell the number
pub record IsSpelled (n d : ℕ) (ds : List ℕ) : Type 0 where
  pub text : decimal n ≡ d ∷ ds
  pub all : list_all is_digit (d ∷ ds) ≡ true
  -- no leading zero
  pub plain : d ≡ 48 → ds ≡ []
  pub value : number_of (d ∷ ds) ≡ n

pub record Spelling (n : ℕ) : Type 0 where
  pub first : ℕ
  pub rest : List ℕ
  pub is : IsSpelled n first rest

zero_or : (n : ℕ) → (n ≡ 0) ⊎ (0 < n)
zero_or zero = inl refl
zero_or (suc n) = inr (omega arith)

plain_digits : (n d : ℕ) (ds : List ℕ) → n < 2 ^ 64 → decimal n ≡ d ∷ ds → d ≡ 48 → ds ≡ []
plain_digits n d ds h e z = of (zero_or n)
  where
    of : (n ≡ 0) ⊎ (0 < n) → ds ≡ []
    of (inl k) = let one : d ∷ ds ≡ 48 ∷ [] = sym e ∙ ap decimal k ∙ decimal_digit 0 (omega arith) in cc
    of (inr k) = let f : 48 < d = rw e at (first_decimal n k h) in absurd (omega arith)

pub spelled : (n : ℕ) → n < 2 ^ 64 → Spelling n
spelled n h = of (decimal n) refl
  where
    of : (xs : List ℕ) → decimal n ≡ xs → Spelling n
    of [] e = let l : 0 < length (decimal n) = decimal_nonempty n h in let m : length (decimal n) ≡ 0 = ap length e in absurd (omega arith)
    of (d ∷ ds) e =
        let own : list_all is_digit (d ∷ ds) ≡ true = ap (list_all is_digit) (sym e) ∙ digits_decimal digits_model n h in
        record {
          first = d;
          rest = ds;
          is = record {
            text = e;
            all = own;
            plain = plain_digits n d ds h e;
            value = ap number_of (sym e)
                ∙ digits_value-decimal digits_model n h;
          };
        }

pub digits_of : (n : ℕ) → n < 2 ^ 64 → list_all is_digit (decimal n) ≡ true
digits_of n h = digits_decimal digits_model n h

pub value_of : (n : ℕ) → n < 2 ^ 64 → number_of (decimal n) ≡ n
value_of n h = digits_value-decimal digits_model n h

-- ---- characters

pub differ : (a b : ℕ) → (a < b) ⊎ (b < a) → nat_eq a b ≡ false
differ a b h = of (nat_eq a b) refl h
  where
    of : (t : Bool) → nat_eq a b ≡ t → (a < b) ⊎ (b < a) → t ≡ false
    of true e (inl l) = let same : a ≡ b = (Decides-eqb a b).0 e in absurd (omega arith)
    of true e (inr l) = let same : a ≡ b = (Decides-eqb a b).0 e in absurd (omega arith)
    of false e l = refl

pub low_digit : (c : ℕ) → is_digit c ≡ true → 48 ≤ c
low_digit c e = leb-true 48 c (and_left (nat_le 48 c) _ e)

pub high_digit : (c : ℕ) → is_digit c ≡ true → c ≤ 57
high_digit c e = leb-true c 57 (and_right (nat_le 48 c) _ e)

-- a digit is no character below 48, and none above 57
pub not_low : (a c : ℕ) → a < 48 → is_digit c ≡ true → nat_eq a c ≡ false
not_low a c l e = let k : 48 ≤ c = low_digit c e in differ a c (inl (omega arith))

pub not_high : (a c : ℕ) → 57 < a → is_digit c ≡ true → nat_eq a c ≡ false
not_high a c l e = let k : c ≤ 57 = high_digit c e in differ a c (inr (omega arith))

pub is_low : (c a : ℕ) → a < 48 → is_digit c ≡ true → nat_eq c a ≡ false
is_low c a l e = let k : 48 ≤ c = low_digit c e in differ c a (inr (omega arith))

pub is_high : (c a : ℕ) → 57 < a → is_digit c ≡ true → nat_eq c a ≡ false
is_high c a l e = let k : c ≤ 57 = high_digit c e in differ c a (inl (omega arith))

pub digit_blank : (c : ℕ) → is_digit c ≡ true → is_blank c ≡ false
digit_blank c e = rw (is_low c 32 (omega arith) e, is_low c 9 (omega arith) e, is_low c 13 (omega arith) e, is_low c 10 (omega arith) e) refl

below : (a c : ℕ) → 57 < a → c ≤ 57 → nat_le a c ≡ false
below a c l k = of (nat_le a c) refl
  where
    of : (t : Bool) → nat_le a c ≡ t → t ≡ false
    of true e = let m : a ≤ c = leb-true a c e in absurd (omega arith)
    of false e = refl

pub digit_letter : (c : ℕ) → is_digit c ≡ true → is_letter c ≡ false
digit_letter c e = rw (below 97 c (omega arith) (high_digit c e), below 65 c (omega arith) (high_digit c e)) refl

pub digits_go_on : (cs : List ℕ) → list_all is_digit cs ≡ true → list_all goes_on cs ≡ true
digits_go_on [] h = refl
digits_go_on (c ∷ cs) h = and_true _ _ (of (is_letter c) (is_digit c) (and_left _ _ h)) (digits_go_on cs (and_right (is_digit c) _ h))
  where
    of : (a b : Bool) → b ≡ true → ((a || b) || c == 95) ≡ true
    of true b e = refl
    of false b e = rw e refl

pub digits_are : (test : ℕ → Bool) → ((c : ℕ) → is_digit c ≡ true → test c ≡ true) → (cs : List ℕ) → list_all is_digit cs ≡ true → list_all test cs ≡ true
digits_are test each [] h = refl
digits_are test each (c ∷ cs) h = and_true _ _ (each c (and_left _ _ h)) (digits_are test each cs (and_right (is_digit c) _ h))
