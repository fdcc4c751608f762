-- A text has at most as many tokens as bytes.
use Rattle.std.proofs.Common.{ℕ, zero, suc, ◌+◌, ◌-◌, ◌*◌, ◌≤◌, List, [], ◌∷◌, length, drop, arith}
use Rattle.std.specs.Str.{chars, chars_after, continuation_len, lead_bits}
use Rattle.silq_lex.specs.declared.token.Place.{Place}
use Rattle.silq_lex.specs.Tokens.{Front, gap, token, fault, front_of, put_in_front, Tokens, tokens_within, tokens_from, tokens_of, behind_all}

few_after : (n c : ℕ) (bs : List ℕ) → length (chars_after n c bs) ≤ suc (length bs)
few_after zero c [] = omega arith
few_after zero c (b ∷ bs) = let h : length (chars_after (continuation_len b) (lead_bits b) bs) ≤ suc (length bs) = few_after (continuation_len b) (lead_bits b) bs in omega arith
few_after (suc n) c [] = omega arith
few_after (suc n) c (b ∷ bs) = let h : length (chars_after n (c * 64 + (b - 128)) bs) ≤ suc (length bs) = few_after n (c * 64 + (b - 128)) bs in omega arith

few_chars : (bs : List ℕ) → length (chars bs) ≤ length bs
unfolding chars
few_chars [] = omega arith
few_chars (b ∷ bs) = few_after (continuation_len b) (lead_bits b) bs

few_in_front : (front : Front) (at : Place) (n : ℕ) (others : List ℕ → Tokens) → ((text : List ℕ) → length (others text).items ≤ n) → length (put_in_front front at others).items ≤ suc n
few_in_front (gap text) at n others h = let k : length (others text).items ≤ n = h text in omega arith
few_in_front (token kind text) at n others h = let k : length (others text).items ≤ n = h text in omega arith
few_in_front (fault cause) at n others h = omega arith

few_within : (n : ℕ) (at : Place) (cs : List ℕ) → length (tokens_within n at cs).items ≤ n
unfolding tokens_within
few_within n at [] = omega arith
few_within zero at (c ∷ cs) = omega arith
few_within (suc n) at (c ∷ cs) =
    few_in_front (front_of c cs) at n (λ text. tokens_within n (behind_all at text) (drop (length text) (c ∷ cs))) (λ text. few_within n (behind_all at text) (drop (length text) (c ∷ cs)))

pub few_tokens : (bs : List ℕ) → length (tokens_of (chars bs)).items ≤ length bs
unfolding tokens_of tokens_from
few_tokens bs =
    let h : length (tokens_within (length (chars bs)) (record { start = 0; line = 1; col = 1 }) (chars bs)).items ≤ length (chars bs) = few_within (length (chars bs)) (record { start = 0; line = 1; col = 1 }) (chars bs) in
    let k : length (chars bs) ≤ length bs = few_chars bs in omega arith
