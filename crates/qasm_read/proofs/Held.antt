-- The tokens of an item behind its first, and those that an `if` holds.
use Rattle.std.proofs.Common.{◌≡◌, ℕ, zero, suc, Bool, ◌-◌, ◌<◌, ◌≤◌, List, [], ◌∷◌, length, drop, take, get_or, refl, sym, ◌∙◌, ap, arith}
use Rattle.qasm_tokens.specs.declared.token.Token.{Token as ReadToken}
use Rattle.qasm_tokens.specs.Cursors.{token_of}
use Rattle.qasm_read.specs.State.{State}
use Rattle.qasm_read.specs.Refusals.{refusals_of, refusals_by}
use Rattle.qasm_read.specs.Read.{tokens_of}
use Rattle.qasm_read.proofs.Items.{behind_first}

tokens_drop : (n : ℕ) (ts : List ReadToken) → tokens_of (drop n ts) ≡ drop n (tokens_of ts)
tokens_drop zero ts = refl
tokens_drop (suc n) [] = refl
tokens_drop (suc n) (t ∷ ts) = tokens_drop n ts

pub held_long : (ts : List ReadToken) → tokens_of (take (length ts - 5) (drop 5 ts)) ≡ drop 5 (tokens_of ts)
held_long ts = ap tokens_of (behind_first 5 ts) ∙ tokens_drop 5 ts

pub held_short : (ts : List ReadToken) → length ts < 5 → [] ≡ drop 5 (tokens_of ts)
held_short [] l = refl
held_short (a ∷ []) l = refl
held_short (a ∷ b ∷ []) l = refl
held_short (a ∷ b ∷ c ∷ []) l = refl
held_short (a ∷ b ∷ c ∷ d ∷ []) l = refl
held_short (a ∷ b ∷ c ∷ d ∷ e ∷ ts) l = absurd (omega arith)

-- what stands behind the first five
pub ruleset held = (held_long, held_short)

pub refused_first : (s : State) (whole : Bool) (ts : List ReadToken) (d : ReadToken) → 1 ≤ length ts
    → refusals_of s whole (tokens_of ts) ≡ refusals_by s whole (token_of (get_or ts 0 d)) (tokens_of (take (length ts - 1) (drop 1 ts))) (get_or ts 0 d).kind
refused_first s whole [] d l = absurd (omega arith)
refused_first s whole (t ∷ ts) d l = ap (λ (rest : List ReadToken). refusals_by s whole (token_of t) (tokens_of rest) t.kind) (sym (behind_first 1 (t ∷ ts)))
