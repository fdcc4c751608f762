-- A token with a blank behind it is what stands at its front.
use Rattle.std.proofs.Common.{◌≡◌, ℕ, ◌<◌, ◌≤◌, ◌⊎◌, inl, inr, Bool, true, false, cond, not, ◌&&◌, ◌||◌, List, [], ◌∷◌, ◌++◌, Option, Some, None, length, drop, nat_eq, nat_le, ◌==◌, if◌then◌else◌, append-nil, refl, sym, ◌∙◌, ap, subst, leb-true, lt-ltb, arith}
use Rattle.std.specs.List.{list_all, list_any, starts_with}
use Rattle.std.specs.Str.{all_scalars, bytes_eq}
use Rattle.std.proofs.Math.Utf8.{scalar, low_scalar}
use Rattle.std.proofs.Math.Seq.{drop-append_seam}
use Rattle.std.proofs.lemmas.Bool.Decides.{Decides-eqb}
use Rattle.std.proofs.lemmas.Slice.Eq.{bytes_eq-Decides}
use Rattle.ucd_table.specs.Rows.{in_ranges}
use Rattle.ucd_table.proofs.StepsLemmas.{rises_from}
use Rattle.ucd_table.proofs.Stepped.{Stepped, of_ranges, zip_stepped}
use Rattle.ucd_table.proofs.Facts.{Stepped-everywhere}
use Rattle.ucd_derived.proofs.BinaryLemmas.{is_xid_continue_stepped}
use Rattle.unicode_ident.specs.Ident.{is_xid_start, is_xid_continue}
use Rattle.unicode_ident.proofs.Computing.{unicode_ident}
use Rattle.unicode_ident.proofs.IdentLemmas.{is_xid_start-is_xid_continue}
use Rattle.silq_lex.specs.declared.token.Place.{Place}
use Rattle.silq_lex.specs.declared.token.TokenKind.{TokenKind}
use Rattle.silq_lex.specs.declared.token.TokenKind.TheVariants.{Name, Word, Number, Sign}
use Rattle.silq_lex.specs.Characters.{is_blank, is_digit, starts_name, continues_name}
use Rattle.silq_lex.specs.Kinds.{kind_of, is_name, is_number, is_one_of, reserved, signs}
use Rattle.silq_lex.specs.Laws.{IsLongest}
use Rattle.silq_lex.specs.Longest.{longest}
use Rattle.silq_lex.specs.Tokens.{token, front_of, token_or_fault, is_token, put_in_front, located, with_first, behind, behind_all, tokens_from}
use Rattle.silq_lex.proofs.Longests.{longest_is}
use Rattle.silq_lex.proofs.Passing.{front_blank}
use Rattle.silq_lex.proofs.Steps.{tokens_from-cons}
use Rattle.silq_lex.proofs.Texts.{and_left, and_right, and_true}

-- ---- characters of names are characters of Unicode

scalars_stepped : Stepped (in_ranges ((0, 0xD7FF) ∷ (0xE000, 0x10FFFF) ∷ []))
unfolding rises_from
scalars_stepped = of_ranges ((0, 0xD7FF) ∷ (0xE000, 0x10FFFF) ∷ []) refl

in_two : (c : ℕ) → in_ranges ((0, 0xD7FF) ∷ (0xE000, 0x10FFFF) ∷ []) c ≡ true → scalar c ≡ true
unfolding in_ranges
in_two c e = of (nat_le 0 c && nat_le c 0xD7FF) (nat_le 0xE000 c && nat_le c 0x10FFFF) refl refl e
  where
    high : (b x y : Bool) → x ≡ true → y ≡ true → cond b true (x && y) ≡ true
    high true x y h k = refl
    high false x y h k = and_true x y h k

    of : (b d : Bool) → (nat_le 0 c && nat_le c 0xD7FF) ≡ b → (nat_le 0xE000 c && nat_le c 0x10FFFF) ≡ d → (b || (d || false)) ≡ true → scalar c ≡ true
    of true d p q r = let k : c ≤ 0xD7FF = leb-true c 0xD7FF (and_right (nat_le 0 c) _ p) in low_scalar c (omega arith)
    of false true p q r =
        let k : c ≤ 0x10FFFF = leb-true c 0x10FFFF (and_right (nat_le 0xE000 c) _ q) in
        high _ _ _ (and_left (nat_le 0xE000 c) _ q) (lt-ltb c 0x110000 (omega arith))
    of false false p q r = cc

continues_scalar : (c : ℕ) → is_xid_continue c ≡ true → scalar c ≡ true
unfolding unicode_ident scalars_stepped
continues_scalar c e =
    let both = zip_stepped (λ a b. not a || b) is_xid_continue (in_ranges ((0, 0xD7FF) ∷ (0xE000, 0x10FFFF) ∷ [])) is_xid_continue_stepped scalars_stepped in
    in_two c (subst (λ a. (not a || in_ranges ((0, 0xD7FF) ∷ (0xE000, 0x10FFFF) ∷ []) c) ≡ true) e (Stepped-everywhere _ both refl c))

starts_scalar : (c : ℕ) → starts_name c ≡ true → scalar c ≡ true
starts_scalar c e = of (c == 95) refl e
  where
    of : (b : Bool) → (c == 95) ≡ b → (b || is_xid_start c) ≡ true → scalar c ≡ true
    of true h k = let same : c ≡ 95 = (Decides-eqb c 95).0 h in ap scalar same
    of false h k = continues_scalar c (is_xid_start-is_xid_continue c k)

all_scalar : (cs : List ℕ) → list_all continues_name cs ≡ true → all_scalars cs ≡ true
all_scalar [] e = refl
all_scalar (c ∷ cs) e = and_true _ _ (continues_scalar c (and_left _ _ (and_left _ _ e))) (all_scalar cs (and_right (continues_name c) _ e))

name_kind : (text : List ℕ) → kind_of text ≡ Some Name → is_name text ≡ true
name_kind text e = of (is_name text) (is_one_of reserved text) (is_number text) (is_one_of signs text) refl e
  where
    of : (a b c d : Bool) → is_name text ≡ a → (if a then (if b then Some Word else Some Name) else if c then Some Number else if d then Some Sign else None) ≡ Some Name → is_name text ≡ true
    of true b c d h e = h
    of false b true d h e = cc
    of false b false true h e = cc
    of false b false false h e = cc

pub name_scalars : (cs : List ℕ) → kind_of cs ≡ Some Name → all_scalars cs ≡ true
name_scalars cs e = of cs (name_kind cs e)
  where
    of : (xs : List ℕ) → is_name xs ≡ true → all_scalars xs ≡ true
    of [] h = refl
    of (x ∷ xs) h = and_true _ _ (starts_scalar x (and_left _ _ h)) (all_scalar xs (and_right (starts_name x) _ h))

-- ---- no token has a blank

-- what is told of a blank that is put behind tokens
pub record IsSpace (b : ℕ) : Type 0 where
  pub blank : is_blank b ≡ true
  pub low : b < 42
  pub no_name : continues_name b ≡ false
  pub no_digit : is_digit b ≡ false
  pub no_sign : list_all (λ s. not (list_any (λ c. c == b) s)) signs ≡ true

pub feed_space : IsSpace 10
unfolding unicode_ident
feed_space = record { blank = refl; low = omega arith; no_name = refl; no_digit = refl; no_sign = refl }

pub blank_space : IsSpace 32
unfolding unicode_ident
blank_space = record { blank = refl; low = omega arith; no_name = refl; no_digit = refl; no_sign = refl }

not_all : (p : ℕ → Bool) (xs ys : List ℕ) (b : ℕ) → p b ≡ false → list_all p (xs ++ b ∷ ys) ≡ false
not_all p [] ys b e = rw e refl
not_all p (x ∷ xs) ys b e = of (p x) (not_all p xs ys b e)
  where
    of : (t : Bool) → list_all p (xs ++ b ∷ ys) ≡ false → (t && list_all p (xs ++ b ∷ ys)) ≡ false
    of true h = h
    of false h = refl

has_it : (xs ys : List ℕ) (b : ℕ) → list_any (λ c. c == b) (xs ++ b ∷ ys) ≡ true
has_it [] ys b = rw ((Decides-eqb b b).1 refl) refl
has_it (x ∷ xs) ys b = of (x == b) (has_it xs ys b)
  where
    of : (t : Bool) → list_any (λ c. c == b) (xs ++ b ∷ ys) ≡ true → (t || list_any (λ c. c == b) (xs ++ b ∷ ys)) ≡ true
    of true h = refl
    of false h = h

none_has : (b : ℕ) (ts : List (List ℕ)) (text : List ℕ) → list_all (λ s. not (list_any (λ c. c == b) s)) ts ≡ true → list_any (λ c. c == b) text ≡ true → is_one_of ts text ≡ false
none_has b [] text h k = refl
none_has b (t ∷ ts) text h k = of (bytes_eq t text) refl (none_has b ts text (and_right (not (list_any (λ c. c == b) t)) _ h) k)
  where
    of : (x : Bool) → bytes_eq t text ≡ x → is_one_of ts text ≡ false → (x || is_one_of ts text) ≡ false
    of true e l =
        let same : t ≡ text = (bytes_eq-Decides t text).0 e in
        let no : not (list_any (λ c. c == b) t) ≡ true = and_left _ _ h in
        let yes : list_any (λ c. c == b) t ≡ true = ap (list_any (λ c. c == b)) same ∙ k in
        let wrong : false ≡ true = ap not (sym yes) ∙ no in absurd (cc)
    of false e l = l

no_kind : (text : List ℕ) → is_name text ≡ false → is_number text ≡ false → is_one_of signs text ≡ false → is_token text ≡ false
no_kind text e f g = rw (e, f, g) refl

no_token : (b c : ℕ) (cs rest : List ℕ) → IsSpace b → is_token (c ∷ (cs ++ b ∷ rest)) ≡ false
no_token b c cs rest s =
    no_kind (c ∷ (cs ++ b ∷ rest)) (right (starts_name c) _ (not_all continues_name cs rest b s.no_name)) (right (is_digit c) _ (not_all is_digit cs rest b s.no_digit))
    (none_has b signs (c ∷ (cs ++ b ∷ rest)) s.no_sign (has_it (c ∷ cs) rest b))
  where
    right : (x y : Bool) → y ≡ false → (x && y) ≡ false
    right true y h = h
    right false y h = refl

-- ---- the longest token before a blank

front_within : (xs ys zs ws : List ℕ) → xs ++ ys ≡ zs ++ ws → length xs ≤ length zs → (more : List ℕ) × (zs ≡ xs ++ more) × (ys ≡ more ++ ws)
front_within [] ys zs ws e l = (zs, refl, e)
front_within (x ∷ xs) ys [] ws e l = absurd (omega arith)
front_within (x ∷ xs) ys (z ∷ zs) ws e l =
    let h : x ≡ z = cc in let t : xs ++ ys ≡ zs ++ ws = cc in
    let (more, f, g) = front_within xs ys zs ws t (omega arith) in (more, ap (λ q. q ∷ zs) (sym h) ∙ ap (λ q. x ∷ q) f, g)

longest_token : (b c : ℕ) (cs rest : List ℕ) → IsSpace b → is_token (c ∷ cs) ≡ true → longest is_token (c ∷ (cs ++ b ∷ rest)) ≡ Some (c ∷ cs)
longest_token b c cs rest s e = of (longest is_token (c ∷ (cs ++ b ∷ rest))) (longest_is is_token (c ∷ (cs ++ b ∷ rest)))
  where
    behind_it : (found rest2 more : List ℕ) → is_token found ≡ true → found ≡ (c ∷ cs) ++ more → b ∷ rest ≡ more ++ rest2 → Some found ≡ Some (c ∷ cs)
    behind_it found rest2 [] t f g = ap Some (f ∙ append-nil (c ∷ cs))
    behind_it found rest2 (m ∷ ms) t f g =
        let h : b ≡ m = cc in
        let k : found ≡ c ∷ (cs ++ b ∷ ms) = f ∙ ap (λ q. c ∷ (cs ++ q ∷ ms)) (sym h) in
        let wrong : true ≡ false = sym t ∙ ap is_token k ∙ no_token b c cs ms s in absurd (cc)

    by_length : (found rest2 : List ℕ) → c ∷ (cs ++ b ∷ rest) ≡ found ++ rest2 → is_token found ≡ true → (length found < length (c ∷ cs)) ⊎ (length (c ∷ cs) ≤ length found)
        → ((front rest3 : List ℕ) → c ∷ (cs ++ b ∷ rest) ≡ front ++ rest3 → length found < length front → is_token front ≡ false) → Some found ≡ Some (c ∷ cs)
    by_length found rest2 f t (inl l) h = let wrong : true ≡ false = sym e ∙ h (c ∷ cs) (b ∷ rest) refl l in absurd (cc)
    by_length found rest2 f t (inr l) h = let (more, g, k) = front_within (c ∷ cs) (b ∷ rest) found rest2 f l in behind_it found rest2 more t g k

    shorter : (m n : ℕ) → (m < n) ⊎ (n ≤ m)
    shorter m n = grind arith

    of : (o : Option (List ℕ)) → IsLongest is_token (c ∷ (cs ++ b ∷ rest)) o → o ≡ Some (c ∷ cs)
    of None h = let wrong : true ≡ false = sym e ∙ h (c ∷ cs) (b ∷ rest) refl in absurd (cc)
    of (Some found) h = by_length found h.0.0 h.0.1 h.1 (shorter (length found) (length (c ∷ cs))) h.2

-- ---- what stands at the front

slash_alone : (d : ℕ) (ds : List ℕ) → is_token (47 ∷ d ∷ ds) ≡ false
unfolding unicode_ident
slash_alone d ds = refl

other : (x b : ℕ) → b < x → nat_eq x b ≡ false
other x b l = of (nat_eq x b) refl
  where
    of : (t : Bool) → nat_eq x b ≡ t → t ≡ false
    of true e = let same : x ≡ b = (Decides-eqb x b).0 e in absurd (omega arith)
    of false e = refl

no_comment : (b c x : ℕ) (cs rest : List ℕ) → b < x → is_token (c ∷ cs) ≡ true → starts_with nat_eq (c ∷ (cs ++ b ∷ rest)) (47 ∷ x ∷ []) ≡ false
no_comment b c x [] rest l e = rw (other x b l) (of (nat_eq 47 c))
  where
    of : (t : Bool) → (t && false) ≡ false
    of true = refl
    of false = refl
no_comment b c x (d ∷ ds) rest l e = of (nat_eq 47 c) refl
  where
    of : (t : Bool) → nat_eq 47 c ≡ t → starts_with nat_eq (c ∷ ((d ∷ ds) ++ b ∷ rest)) (47 ∷ x ∷ []) ≡ false
    of true h =
        let same : 47 ≡ c = (Decides-eqb 47 c).0 h in
        let wrong : false ≡ true = sym (slash_alone d ds) ∙ ap (λ z. is_token (z ∷ d ∷ ds)) same ∙ e in absurd (cc)
    of false h = rw h refl

blank_alone : (cs : List ℕ) → (is_token (32 ∷ cs) ≡ false) × (is_token (9 ∷ cs) ≡ false) × (is_token (13 ∷ cs) ≡ false) × (is_token (10 ∷ cs) ≡ false)
unfolding unicode_ident
blank_alone cs = (refl, refl, refl, refl)

no_blank : (c : ℕ) (cs : List ℕ) → is_token (c ∷ cs) ≡ true → is_blank c ≡ false
no_blank c cs e = of (c == 32) (c == 9) (c == 13) (c == 10) refl refl refl refl
  where
    at : (x : ℕ) → (c == x) ≡ true → is_token (x ∷ cs) ≡ false → ⊥
    at x h k = let same : c ≡ x = (Decides-eqb c x).0 h in let wrong : false ≡ true = sym k ∙ ap (λ z. is_token (z ∷ cs)) (sym same) ∙ e in absurd (cc)

    of : (p q r s : Bool) → (c == 32) ≡ p → (c == 9) ≡ q → (c == 13) ≡ r → (c == 10) ≡ s → (p || q || r || s) ≡ false
    of true q r s f g h k = absurd (at 32 f (blank_alone cs).0)
    of false true r s f g h k = absurd (at 9 g (blank_alone cs).1)
    of false false true s f g h k = absurd (at 13 h (blank_alone cs).2)
    of false false false true f g h k = absurd (at 10 k (blank_alone cs).3)
    of false false false false f g h k = refl

front_token : (b c : ℕ) (cs rest : List ℕ) → IsSpace b → is_token (c ∷ cs) ≡ true → front_of c (cs ++ b ∷ rest) ≡ token_or_fault (Some (c ∷ cs))
front_token b c cs rest s e =
    simp (no_comment b c 47 cs rest (let l = s.low in omega arith) e, no_comment b c 42 cs rest s.low e, no_blank c cs e, longest_token b c cs rest s e)

-- a token with a blank behind it is the first token of a text
pub first_token : (at : Place) (kind : TokenKind) (b c : ℕ) (cs rest : List ℕ) → IsSpace b → is_token (c ∷ cs) ≡ true → token_or_fault (Some (c ∷ cs)) ≡ token kind (c ∷ cs)
    → tokens_from at ((c ∷ cs) ++ b ∷ rest) ≡ with_first (located kind (c ∷ cs) at) (tokens_from (behind (behind_all at (c ∷ cs)) b) rest)
first_token at kind b c cs rest s e f =
    tokens_from-cons at c (cs ++ b ∷ rest)
    ∙ ap (λ F. put_in_front F at (λ text. tokens_from (behind_all at text) (drop (length text) (c ∷ (cs ++ b ∷ rest))))) (front_token b c cs rest s e ∙ f)
    ∙ ap (λ z. with_first (located kind (c ∷ cs) at) (tokens_from (behind_all at (c ∷ cs)) z)) (drop-append_seam (c ∷ cs) (b ∷ rest))
    ∙ ap (with_first (located kind (c ∷ cs) at)) (tokens_from-cons (behind_all at (c ∷ cs)) b rest
    ∙ ap (λ F. put_in_front F (behind_all at (c ∷ cs)) (λ text. tokens_from (behind_all (behind_all at (c ∷ cs)) text) (drop (length text) (b ∷ rest)))) (front_blank b rest s.blank))
