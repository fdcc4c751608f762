-- The longest token by its first character.
use Rattle.std.proofs.Common.{◌≡◌, ℕ, ◌≤◌, Bool, true, false, not, ◌||◌, ◌==◌, List, [], ◌∷◌, Option, Some, None, length, drop, option_map, if◌then◌else◌, refl, sym, ◌∙◌, ap, arith}
use Rattle.std.specs.Prelude.{nat_le, is_some}
use Rattle.std.specs.List.{list_all}
use Rattle.std.specs.Char.{is_ascii_alphabetic}
use Rattle.std.specs.Str.{chars, bytes_eq}
use Rattle.std.proofs.lemmas.Bool.{leb-true}
use Rattle.std.proofs.lemmas.Bool.Decides.{nat_tests}
use Rattle.std.proofs.lemmas.Slice.Eq.{bytes_eq-Decides}
use Rattle.unicode_ident.proofs.Computing.{unicode_ident}
use Rattle.unicode_ident.proofs.IdentLemmas.{is_xid_start-ascii}
use Rattle.silq_lex.specs.declared.cursor.Cursor.{Cursor}
use Rattle.silq_lex.specs.Characters.{is_digit, starts_name, continues_name}
use Rattle.silq_lex.specs.Kinds.{is_one_of, reserved, signs, kind_of}
use Rattle.silq_lex.specs.Longest.{longest, or_else}
use Rattle.silq_lex.specs.Runs.{run}
use Rattle.silq_lex.specs.Tokens.{is_token}
use Rattle.silq_lex.specs.Cursors.{Passes, IsThere, behind_front}
use Rattle.silq_lex.proofs.Texts.{and_left, and_right, digit_low}
use Rattle.silq_lex.proofs.Longests.{longest_same, longest_run, longest_short}

-- a test of the first character
pub first_passes : (ℕ → Bool) → List ℕ → Bool
first_passes p [] = false
first_passes p (c ∷ cs) = p c

-- a text that is one of some begins as one of these
first_at : (p : ℕ → Bool) (w : List ℕ) (c : ℕ) (cs : List ℕ) → w ≡ c ∷ cs → first_passes p w ≡ true → p c ≡ true
unfolding first_passes
first_at p [] c cs k l = cc
first_at p (d ∷ ds) c cs k l = let x : d ≡ c = cc in ap p (sym x) ∙ l

first_step : (p : ℕ → Bool) (w : List ℕ) (c : ℕ) (cs : List ℕ) (b more : Bool) → bytes_eq w (c ∷ cs) ≡ b → first_passes p w ≡ true → (b || more) ≡ true
    → (more ≡ true → p c ≡ true) → p c ≡ true
first_step p w c cs true more k l e h = first_at p w c cs ((bytes_eq-Decides w (c ∷ cs)).0 k) l
first_step p w c cs false more k l e h = h e

first_of : (p : ℕ → Bool) (ws : List (List ℕ)) (c : ℕ) (cs : List ℕ) → list_all (first_passes p) ws ≡ true → is_one_of ws (c ∷ cs) ≡ true → p c ≡ true
first_of p [] c cs h e = cc
first_of p (w ∷ ws) c cs h e =
    first_step p w c cs (bytes_eq w (c ∷ cs)) (is_one_of ws (c ∷ cs)) refl (and_left _ _ h) e (λ k. first_of p ws c cs (and_right _ _ h) k)

-- a text that is one of some short ones is short
long_step : (w cs : List ℕ) (n : ℕ) (b more : Bool) → bytes_eq w cs ≡ b → nat_le (length w) n ≡ true → (b || more) ≡ true → (more ≡ true → length cs ≤ n) → length cs ≤ n
long_step w cs n true more k l e h = let x : w ≡ cs = (bytes_eq-Decides w cs).0 k in let y : length w ≤ n = leb-true (length w) n l in rw (← x) y
long_step w cs n false more k l e h = h e

short_of : (n : ℕ) (ws : List (List ℕ)) (cs : List ℕ) → list_all (λ w. nat_le (length w) n) ws ≡ true → is_one_of ws cs ≡ true → length cs ≤ n
short_of n [] cs h e = cc
short_of n (w ∷ ws) cs h e =
    long_step w cs n (bytes_eq w cs) (is_one_of ws cs) refl (and_left _ _ h) e (λ k. short_of n ws cs (and_right _ _ h) k)

-- no sign begins as a name or a number
no_other : ℕ → Bool
no_other c = not (starts_name c || is_digit c)

signs_first : list_all (first_passes no_other) signs ≡ true
unfolding unicode_ident first_passes no_other
signs_first = refl

pub sign_first : (c : ℕ) (cs : List ℕ) → (starts_name c || is_digit c) ≡ true → is_one_of signs (c ∷ cs) ≡ false
unfolding no_other
sign_first c cs e = of (is_one_of signs (c ∷ cs)) refl
  where
    of : (b : Bool) → is_one_of signs (c ∷ cs) ≡ b → b ≡ false
    of true k = let x : not (starts_name c || is_digit c) ≡ true = first_of no_other signs c cs signs_first k in let y : not true ≡ true = ap not (sym e) ∙ x in absurd (cc)
    of false k = refl

pub sign_short : (c d e : ℕ) (cs : List ℕ) → is_one_of signs (c ∷ d ∷ e ∷ cs) ≡ false
sign_short c d e cs = of (is_one_of signs (c ∷ d ∷ e ∷ cs)) refl
  where
    of : (b : Bool) → is_one_of signs (c ∷ d ∷ e ∷ cs) ≡ b → b ≡ false
    of true k = let x : length (c ∷ d ∷ e ∷ cs) ≤ 2 = short_of 2 signs (c ∷ d ∷ e ∷ cs) refl k in absurd (omega arith)
    of false k = refl

or_true : (b : Bool) → (b || true) ≡ true
or_true true = refl
or_true false = refl

-- no name begins as a number
alphabetic_digit : (c : ℕ) → is_digit c ≡ true → (c == 95 || is_ascii_alphabetic c) ≡ false
alphabetic_digit c e = let x : 48 ≤ c = leb-true 48 c (and_left (nat_le 48 c) (nat_le c 57) e) in let y : c ≤ 57 = leb-true c 57 (and_right (nat_le 48 c) (nat_le c 57) e) in grind (arith, nat_tests)

pub digit_no_name : (c : ℕ) → is_digit c ≡ true → starts_name c ≡ false
digit_no_name c e = ap (λ b. c == 95 || b) (is_xid_start-ascii c (digit_low c e)) ∙ alphabetic_digit c e

pub name_no_digit : (c : ℕ) → starts_name c ≡ true → is_digit c ≡ false
name_no_digit c e = of (is_digit c) refl
  where
    of : (b : Bool) → is_digit c ≡ b → b ≡ false
    of true k = let x : starts_name c ≡ false = digit_no_name c k in cc
    of false k = refl

name_kind : (c : ℕ) (cs : List ℕ) (b w : Bool) → starts_name c ≡ true → list_all continues_name cs ≡ b → is_one_of reserved (c ∷ cs) ≡ w → is_some (kind_of (c ∷ cs)) ≡ b
name_kind c cs true true e f g = simp (e, f, g)
name_kind c cs true false e f g = simp (e, f, g)
name_kind c cs false w e f g = let d = name_no_digit c e in let s = sign_first c cs (ap (λ b. b || is_digit c) e) in simp (e, f, d, s)

number_kind : (c : ℕ) (cs : List ℕ) (b : Bool) → is_digit c ≡ true → list_all is_digit cs ≡ b → is_some (kind_of (c ∷ cs)) ≡ b
number_kind c cs true e f = let n = digit_no_name c e in simp (e, f, n)
number_kind c cs false e f = let n = digit_no_name c e in let s = sign_first c cs (ap (λ b. starts_name c || b) e ∙ or_true (starts_name c)) in simp (e, f, n, s)

sign_kind : (c : ℕ) (cs : List ℕ) (b : Bool) → starts_name c ≡ false → is_digit c ≡ false → is_one_of signs (c ∷ cs) ≡ b → is_some (kind_of (c ∷ cs)) ≡ b
sign_kind c cs true e f g = simp (e, f, g)
sign_kind c cs false e f g = simp (e, f, g)

-- the longest token, by its first character
longest_from : (c : ℕ) (cs : List ℕ) (test : List ℕ → Bool) (found : List ℕ) → ((front : List ℕ) → is_token (c ∷ front) ≡ test front) → longest test cs ≡ Some found
    → longest is_token (c ∷ cs) ≡ Some (c ∷ found)
longest_from c cs test found h e =
    ap (λ o. or_else (option_map (λ front. c ∷ front) o) None) (longest_same (λ front. is_token (c ∷ front)) test cs h ∙ e)

longest_none : (c : ℕ) (cs : List ℕ) (test : List ℕ → Bool) → ((front : List ℕ) → is_token (c ∷ front) ≡ test front) → longest test cs ≡ None
    → longest is_token (c ∷ cs) ≡ None
longest_none c cs test h e =
    ap (λ o. or_else (option_map (λ front. c ∷ front) o) None) (longest_same (λ front. is_token (c ∷ front)) test cs h ∙ e)

pub longest_name : (c : ℕ) (cs : List ℕ) → starts_name c ≡ true → longest is_token (c ∷ cs) ≡ Some (c ∷ run continues_name cs)
longest_name c cs e = longest_from c cs (list_all continues_name) _ (λ front. name_kind c front _ _ e refl refl) (longest_run continues_name cs)

pub longest_number : (c : ℕ) (cs : List ℕ) → is_digit c ≡ true → longest is_token (c ∷ cs) ≡ Some (c ∷ run is_digit cs)
longest_number c cs e = longest_from c cs (list_all is_digit) _ (λ front. number_kind c front _ e refl) (longest_run is_digit cs)

pub longest_sign : (c : ℕ) (cs found : List ℕ) → starts_name c ≡ false → is_digit c ≡ false → longest (λ front. is_one_of signs (c ∷ front)) cs ≡ Some found
    → longest is_token (c ∷ cs) ≡ Some (c ∷ found)
longest_sign c cs found e f g = longest_from c cs (λ front. is_one_of signs (c ∷ front)) found (λ front. sign_kind c front _ e f refl) g

pub longest_other : (c : ℕ) (cs : List ℕ) → starts_name c ≡ false → is_digit c ≡ false → longest (λ front. is_one_of signs (c ∷ front)) cs ≡ None
    → longest is_token (c ∷ cs) ≡ None
longest_other c cs e f g = longest_none c cs (λ front. is_one_of signs (c ∷ front)) (λ front. sign_kind c front _ e f refl) g

-- a sign by its first two characters
abbrev only : Bool → Option (List ℕ)
only b = if b then Some [] else None

sign_cons : (c d : ℕ) (ds : List ℕ)
    → longest (λ front. is_one_of signs (c ∷ front)) (d ∷ ds) ≡ or_else (option_map (λ front. d ∷ front) (only (is_one_of signs (c ∷ d ∷ [])))) (only (is_one_of signs (c ∷ [])))
sign_cons c d ds =
    ap (λ o. or_else (option_map (λ front. d ∷ front) o) (only (is_one_of signs (c ∷ []))))
    (longest_short (λ front. is_one_of signs (c ∷ d ∷ front)) ds (λ x front. sign_short c d x front))

pub there_double : (from to : Cursor) (c d : ℕ) → Passes from to (d ∷ []) → is_one_of signs (c ∷ d ∷ []) ≡ true
    → IsThere (Some to) (behind_front from.place (chars from.rest.now) (longest (λ front. is_one_of signs (c ∷ front)) (chars from.rest.now)))
there_double from to c d p e =
    let f : longest (λ front. is_one_of signs (c ∷ front)) (chars from.rest.now) ≡ Some (d ∷ []) =
    ap (longest (λ front. is_one_of signs (c ∷ front))) p.characters ∙ sign_cons c d (chars to.rest.now)
    ∙ ap (λ b. or_else (option_map (λ front. d ∷ front) (only b)) (only (is_one_of signs (c ∷ [])))) e in
    rw f (p.place, sym (ap (drop 1) p.characters))

single : (from : Cursor) (cs : List ℕ) (b : Bool) → chars from.rest.now ≡ cs → IsThere (if b then Some from else None) (behind_front from.place cs (only b))
single from cs true e = (refl, e)
single from cs false e = tt

pub there_end : (from : Cursor) (c : ℕ) (b : Bool) → chars from.rest.now ≡ [] → is_one_of signs (c ∷ []) ≡ b
    → IsThere (if b then Some from else None) (behind_front from.place (chars from.rest.now) (longest (λ front. is_one_of signs (c ∷ front)) (chars from.rest.now)))
there_end from c b e f =
    let g : longest (λ front. is_one_of signs (c ∷ front)) (chars from.rest.now) ≡ only b = ap (longest (λ front. is_one_of signs (c ∷ front))) e ∙ ap only f in
    rw g (single from (chars from.rest.now) b refl)

pub there_single : (from to : Cursor) (c d : ℕ) (b : Bool) → Passes from to (d ∷ []) → is_one_of signs (c ∷ d ∷ []) ≡ false → is_one_of signs (c ∷ []) ≡ b
    → IsThere (if b then Some from else None) (behind_front from.place (chars from.rest.now) (longest (λ front. is_one_of signs (c ∷ front)) (chars from.rest.now)))
there_single from to c d b p e f =
    let g : longest (λ front. is_one_of signs (c ∷ front)) (chars from.rest.now) ≡ only b =
    ap (longest (λ front. is_one_of signs (c ∷ front))) p.characters ∙ sign_cons c d (chars to.rest.now)
    ∙ ap (λ x. or_else (option_map (λ front. d ∷ front) (only x)) (only (is_one_of signs (c ∷ [])))) e ∙ ap only f in
    rw g (single from (chars from.rest.now) b refl)
