-- Names and numbers of names of tokens that were read.
use Rattle.std.proofs.Common.{◌≡◌, ℕ, zero, suc, ◌<◌, ◌≤◌, inl, inr, Bool, true, false, ◌||◌, List, [], ◌∷◌, ◌++◌, Some, length, map, slice_get, append-nil, append_assoc, length-append, refl, sym, ◌∙◌, ap, arith}
use Rattle.std.specs.List.{list_any}
use Rattle.std.specs.Str.{bytes_eq}
use Rattle.std.proofs.lemmas.Slice.Eq.{bytes_eq-Decides}
use Rattle.std.proofs.lemmas.Option.{slice_get_within}
use Rattle.silq_tree.specs.declared.node.NameId.{NameId}
use Rattle.silq_tree.specs.declared.node.Spot.{Spot}
use Rattle.silq_tree.specs.Texts.{AreDifferent}
use Rattle.silq_lex.specs.declared.token.TokenKind.{TokenKind}
use Rattle.silq_lex.specs.declared.token.TokenKind.TheVariants as kinds
use Rattle.silq_lex.specs.Tokens.{Located}
use Rattle.silq_grammar.specs.declared.token.Token.{Token}
use Rattle.silq_grammar.specs.declared.token.Token.TheVariants.{Name, Number, Fixed}
use Rattle.silq_parse.specs.Lexed.{named, names_with, token_as, token_of, spot_at}
use Rattle.silq_parse.proofs.Naming.{index_at}
use Rattle.silq_print.specs.Bare.{nowhere, bare_token}
use Rattle.silq_print.specs.Proper.{AreInOrder}
use Rattle.silq_print.proofs.LexedTokens.{seen_of_all}
use Rattle.silq_print.proofs.LexedRows.{AreRead}

-- ---- a text among names

in_front : {X : Type 0} (xs ys : List X) (i : ℕ) → i < length xs → slice_get (xs ++ ys) i ≡ slice_get xs i
in_front [] ys i l = absurd (omega arith)
in_front (x ∷ xs) ys zero l = refl
in_front (x ∷ xs) ys (suc i) l = in_front xs ys i (omega arith)

pub at_seam : {X : Type 0} (xs ys : List X) (y : X) → slice_get (xs ++ y ∷ ys) (length xs) ≡ Some y
at_seam [] ys y = refl
at_seam (x ∷ xs) ys y = at_seam xs ys y

pub is_there : (text : List ℕ) (names : List (List ℕ)) (i : ℕ) → slice_get names i ≡ Some text → list_any (bytes_eq text) names ≡ true
is_there text [] i e = cc
is_there text (n ∷ ns) zero e = let k : text ≡ n = cc in rw ((bytes_eq-Decides text n).1 k) refl
is_there text (n ∷ ns) (suc i) e = of (bytes_eq text n) (is_there text ns i e)
  where
    of : (b : Bool) → list_any (bytes_eq text) ns ≡ true → (b || list_any (bytes_eq text) ns) ≡ true
    of true h = refl
    of false h = h

pub place_of : (text : List ℕ) (names : List (List ℕ)) → list_any (bytes_eq text) names ≡ true → (i : ℕ) × (slice_get names i ≡ Some text)
place_of text [] e = cc
place_of text (n ∷ ns) e = of (bytes_eq text n) refl e (λ h. place_of text ns h)
  where
    of : (b : Bool) → bytes_eq text n ≡ b → (b || list_any (bytes_eq text) ns) ≡ true → (list_any (bytes_eq text) ns ≡ true → (i : ℕ) × (slice_get ns i ≡ Some text)) → (i : ℕ) × (slice_get (n ∷ ns) i ≡ Some text)
    of true h k more = (0, ap Some (sym ((bytes_eq-Decides text n).0 h)))
    of false h k more = let (i, f) = more k in (suc i, f)

new_name : (done left : List (List ℕ)) (text : List ℕ) → AreDifferent (done ++ text ∷ left) → list_any (bytes_eq text) done ≡ false
new_name done left text d = of (list_any (bytes_eq text) done) refl
  where
    of : (b : Bool) → list_any (bytes_eq text) done ≡ b → b ≡ false
    of false e = refl
    of true e =
        let (i, f) = place_of text done e in
        let l : i < length done = slice_get_within done i text f in
        let same : i ≡ length done = d i (length done) text (in_front done (text ∷ left) i l ∙ f) (at_seam done left text) in
        absurd (omega arith)

-- ---- the names

old_named : (names done left : List (List ℕ)) (i : ℕ) (kind : TokenKind) (text : List ℕ) → names ≡ done ++ left → i < length done → kind ≡ kinds.Name → slice_get names i ≡ Some text
    → named kind done text ≡ done
old_named names done left i kind text e l k f =
    let here : slice_get done i ≡ Some text = sym (in_front done left i l) ∙ ap (λ z. slice_get z i) (sym e) ∙ f in
    rw k (rw (is_there text done i here) refl)

new_named : (names done left : List (List ℕ)) (x : List ℕ) (i : ℕ) (kind : TokenKind) (text : List ℕ) → AreDifferent names → names ≡ done ++ x ∷ left → i ≡ length done → kind ≡ kinds.Name
    → slice_get names i ≡ Some text → named kind done text ≡ done ++ x ∷ []
new_named names done left x i kind text d e l k f =
    let here : Some text ≡ Some x = sym f ∙ ap (λ z. slice_get z i) e ∙ ap (slice_get (done ++ x ∷ left)) l ∙ at_seam done left x in
    let same : text ≡ x = cc in
    rw (k, same) (rw (new_name done left x (rw (← e) d)) refl)

-- the names of the tokens are the names
pub names_back : (names : List (List ℕ)) → AreDifferent names → (ts : List Token) (ls : List Located) (done left : List (List ℕ)) → names ≡ done ++ left
    → AreInOrder (length names) (length done) ts → AreRead names ts ls → names_with done ls ≡ names
names_back names d [] [] done [] e o r = sym (append-nil done) ∙ sym e
names_back names d [] [] done (x ∷ left) e o r =
    let l = ap length e in let k = length-append done (x ∷ left) in absurd (omega (arith, o, l, k))
names_back names d [] (l ∷ ls) done left e o r = absurd r
names_back names d (t ∷ ts) [] done left e o r = absurd r
names_back names d (Name id at ∷ ts) (l ∷ ls) done left e (inl o) r =
    ap (λ z. names_with z ls) (old_named names done left id.number l.kind l.text e o.0 r.0.0 r.0.1) ∙ names_back names d ts ls done left e o.1 r.1
names_back names d (Name id at ∷ ts) (l ∷ ls) done [] e (inr o) r =
    let k : suc (length done) ≤ length names = seen_of_all _ _ ts o.1 in
    let m = ap length e in let n = length-append done [] in absurd (omega (arith, m, n))
names_back names d (Name id at ∷ ts) (l ∷ ls) done (x ∷ left) e (inr o) r =
    let n : length (done ++ x ∷ []) ≡ suc (length done) = length-append done (x ∷ []) ∙ omega arith in
    ap (λ z. names_with z ls) (new_named names done left x id.number l.kind l.text d e o.0 r.0.0 r.0.1)
    ∙ names_back names d ts ls (done ++ x ∷ []) left (e ∙ sym (append_assoc done (x ∷ []) left)) (rw n o.1) r.1
names_back names d (Number v at ∷ ts) (l ∷ ls) done left e o r = ap (λ z. names_with z ls) (r.0.no_name done) ∙ names_back names d ts ls done left e o r.1
names_back names d (Fixed f at ∷ ts) (l ∷ ls) done left e o r = ap (λ z. names_with z ls) (r.0.no_name done) ∙ names_back names d ts ls done left e o r.1

-- ---- the tokens

name_back : (names : List (List ℕ)) (id : NameId) (kind : TokenKind) (text : List ℕ) (at : Spot) → AreDifferent names → kind ≡ kinds.Name → slice_get names id.number ≡ Some text
    → bare_token (token_as kind names text at) ≡ Name id nowhere
name_back names id kind text at d k e = rw k (ap (λ n. Name (record { number = n }) nowhere) (index_at names id.number text d e))

two_tokens : (x y : Token) (xs ys : List Token) → x ≡ y → xs ≡ ys → x ∷ xs ≡ y ∷ ys
two_tokens x y xs ys e f = cc

-- the tokens by these names are the tokens, places aside
pub tokens_back : (names : List (List ℕ)) → AreDifferent names → (ts : List Token) (ls : List Located) → AreRead names ts ls → map bare_token (map (token_of names) ls) ≡ map bare_token ts
tokens_back names d [] [] r = refl
tokens_back names d [] (l ∷ ls) r = absurd r
tokens_back names d (t ∷ ts) [] r = absurd r
tokens_back names d (Name id at ∷ ts) (l ∷ ls) r = two_tokens _ _ _ _ (name_back names id l.kind l.text (spot_at l.at) d r.0.0 r.0.1) (tokens_back names d ts ls r.1)
tokens_back names d (Number v at ∷ ts) (l ∷ ls) r = two_tokens _ _ _ _ (r.0.same names (spot_at l.at)) (tokens_back names d ts ls r.1)
tokens_back names d (Fixed f at ∷ ts) (l ∷ ls) r = two_tokens _ _ _ _ (r.0.same names (spot_at l.at)) (tokens_back names d ts ls r.1)
