-- How far the table passes tokens.
use Rattle.std.proofs.Common.{◌≡◌, ◌≤◌, Bool, true, false, List, [], ◌∷◌, ◌++◌, length, map, Option, Some, None, cond, nat_lt, refl, ap, arith}
use Rattle.grammar_core.specs.Table.{advance, expected, may_stop}
use Rattle.silq_grammar.specs.Tokens.{Token, kind}
use Rattle.silq_grammar.specs.Machine.{Symbol, table, nest}
use Rattle.silq_grammar.specs.Outcome.{Fine, Syntax, Deep, outcome, outcome_at}

-- the stack cannot advance, or the tokens end too early
abbrev pub Stuck : List Symbol → List Token → Type 0
Stuck ys [] = may_stop table ys ≡ false
Stuck ys (u ∷ rest) = advance table ys (kind u) ≡ None

-- the tokens before the rest are passed, whatever stands behind them, and the rest begins with one that cannot come
abbrev pub Passed : List Symbol → List Token → List Token → Type 0
Passed xs ts rest =
    (front : List Token) × (ys : List Symbol) × (ts ≡ front ++ rest) × (expected table xs (map kind front) ≡ Some ys) × Stuck ys rest
    × ((more : List Token) → outcome xs (front ++ more) ≡ outcome ys more)

pub syntax_passed : (xs : List Symbol) (ts rest : List Token) → outcome xs ts ≡ Syntax rest → Passed xs ts rest
unfolding outcome
syntax_passed xs [] rest h = at_end (may_stop table xs) refl h
  where
    at_end : (b : Bool) → may_stop table xs ≡ b → cond b Fine (Syntax []) ≡ Syntax rest → Passed xs [] rest
    at_end true m e = cc
    at_end false m e = let r : [] ≡ rest = cc in rw (← r) ([], xs, refl, refl, m, λ more. refl)
syntax_passed xs (u ∷ ts) rest h = at_step (advance table xs (kind u)) refl (λ ys. syntax_passed ys ts rest) h
  where
    at_nest : (b : Bool) (zs : List Symbol) → nat_lt 64 (nest zs) ≡ b → advance table xs (kind u) ≡ Some zs → (outcome zs ts ≡ Syntax rest → Passed zs ts rest)
        → cond b (Deep (u ∷ ts)) (outcome zs ts) ≡ Syntax rest → Passed xs (u ∷ ts) rest
    at_nest true zs n a ih e = cc
    at_nest false zs n a ih e =
        let (front, ys, s, w, k, f) = ih e in
        (u ∷ front, ys, ap (λ v. u ∷ v) s, rw a w, k, λ more. rw (a, n) (f more))

    at_step : (o : Option (List Symbol)) → advance table xs (kind u) ≡ o → ((zs : List Symbol) → outcome zs ts ≡ Syntax rest → Passed zs ts rest)
        → outcome_at o (u ∷ ts) (λ zs. outcome zs ts) ≡ Syntax rest → Passed xs (u ∷ ts) rest
    at_step None a ih e = let r : u ∷ ts ≡ rest = cc in rw (← r) ([], xs, refl, refl, a, λ more. refl)
    at_step (Some zs) a ih e = at_nest (nat_lt 64 (nest zs)) zs refl a (ih zs) e

-- the token of a Deep is taken, and a Deep stands there whatever stands behind it
abbrev pub DeepAt : List Symbol → List Token → List Token → Type 0
DeepAt xs ts rest =
    (front : List Token) × (u : Token) × (behind : List Token) × (ys : List Symbol) × (rest ≡ u ∷ behind) × (ts ≡ front ++ rest)
    × (expected table xs (map kind (front ++ u ∷ [])) ≡ Some ys) × ((more : List Token) → outcome xs (front ++ u ∷ more) ≡ Deep (u ∷ more))

pub deep_at : (xs : List Symbol) (ts rest : List Token) → outcome xs ts ≡ Deep rest → DeepAt xs ts rest
unfolding outcome
deep_at xs [] rest h = at_end (may_stop table xs) h
  where
    at_end : (b : Bool) → cond b Fine (Syntax []) ≡ Deep rest → DeepAt xs [] rest
    at_end true e = cc
    at_end false e = cc
deep_at xs (u ∷ ts) rest h = at_step (advance table xs (kind u)) refl (λ ys. deep_at ys ts rest) h
  where
    at_nest : (b : Bool) (zs : List Symbol) → nat_lt 64 (nest zs) ≡ b → advance table xs (kind u) ≡ Some zs → (outcome zs ts ≡ Deep rest → DeepAt zs ts rest)
        → cond b (Deep (u ∷ ts)) (outcome zs ts) ≡ Deep rest → DeepAt xs (u ∷ ts) rest
    at_nest true zs n a ih e = let r : u ∷ ts ≡ rest = cc in rw (← r) ([], u, ts, zs, refl, refl, rw a refl, λ more. rw (a, n) refl)
    at_nest false zs n a ih e =
        let (front, v, behind, ys, r, s, w, f) = ih e in
        (u ∷ front, v, behind, ys, r, ap (λ q. u ∷ q) s, rw a w, λ more. rw (a, n) (f more))

    at_step : (o : Option (List Symbol)) → advance table xs (kind u) ≡ o → ((zs : List Symbol) → outcome zs ts ≡ Deep rest → DeepAt zs ts rest)
        → outcome_at o (u ∷ ts) (λ zs. outcome zs ts) ≡ Deep rest → DeepAt xs (u ∷ ts) rest
    at_step None a ih e = cc
    at_step (Some zs) a ih e = at_nest (nat_lt 64 (nest zs)) zs refl a (ih zs) e

-- a Deep stands at one of the tokens
pub deep_within : (xs : List Symbol) (ts late : List Token) → outcome xs ts ≡ Deep late → length late ≤ length ts
deep_within xs ts late h = at_place (deep_at xs ts late h)
  where
    longer : (us vs : List Token) → length vs ≤ length (us ++ vs)
    longer [] vs = omega arith
    longer (u ∷ us) vs = let e : length vs ≤ length (us ++ vs) = longer us vs in omega (arith, e)

    at_place : DeepAt xs ts late → length late ≤ length ts
    at_place (front, u, behind, ys, r, s, w, f) = rw s (longer front late)
