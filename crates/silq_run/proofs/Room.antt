-- The limit of terms after H.
use Rattle.std.proofs.Common.{◌≡◌, ℕ, ◌+◌, ◌*◌, Bool, true, false, cond, not, List, [], ◌∷◌, length, flat_map, Ok, Err, refl, sym, ap, ◌∙◌, arith}
use Rattle.std.specs.Prelude.{nat_lt}
use Rattle.silq_types.specs.Rules.{and_then}
use Rattle.silq_mean.specs.Term.{Term, hadamard, equals_last}
use Rattle.silq_mean.specs.Effect.{TooManyTerms, ForgetFalse, mix, claim, most_terms, all_pass}
use Rattle.silq_tree.specs.declared.node.NameId.{NameId}
use Rattle.silq_run.specs.Ran.{State, with_terms, ran}

abbrev both : List Term → List Term
both ts = flat_map (λ t. hadamard false t ∷ hadamard true t ∷ []) ts

twice : (ts : List Term) → length (both ts) ≡ 2 * length ts
twice [] = refl
twice (t ∷ ts) = let ih = twice ts in omega (arith, ih)

told : (s : State) (over : Bool) → nat_lt most_terms (s.waiting + 2 * length s.terms) ≡ over → ran mix s ≡ and_then (cond over (Err TooManyTerms) (Ok (both s.terms))) (λ ts. Ok (with_terms s ts))
told s over e =
    ap (λ b. and_then (cond b (Err TooManyTerms) (Ok (both s.terms))) (λ ts. Ok (with_terms s ts)))
    (ap (λ n. nat_lt most_terms (s.waiting + n)) (twice s.terms) ∙ e)

flip : (b c : Bool) → b ≡ not c → c ≡ not b
flip true true e = e
flip true false e = refl
flip false true e = refl
flip false false e = e

pub mix_fits : (s : State) (fits : Bool) → fits ≡ not (nat_lt most_terms (s.waiting + 2 * length s.terms)) → fits ≡ true → ran mix s ≡ Ok (with_terms s (both s.terms))
mix_fits s fits e t = told s false (flip fits (nat_lt most_terms (s.waiting + 2 * length s.terms)) e ∙ ap not t)

pub mix_over : (s : State) (fits : Bool) → fits ≡ not (nat_lt most_terms (s.waiting + 2 * length s.terms)) → fits ≡ false → ran mix s ≡ Err TooManyTerms
mix_over s fits e t = told s true (flip fits (nat_lt most_terms (s.waiting + 2 * length s.terms)) e ∙ ap not t)

claimed : (line : ℕ) (x : NameId) (s : State) (b : Bool) → all_pass (equals_last x) s.terms ≡ b → ran (claim line x) s ≡ and_then (cond b (Ok s.terms) (Err (ForgetFalse line))) (λ ts. Ok (with_terms s ts))
claimed line x s b e = ap (λ c. and_then (cond c (Ok s.terms) (Err (ForgetFalse line))) (λ ts. Ok (with_terms s ts))) e

pub claim_holds : (line : ℕ) (x : NameId) (s : State) (b : Bool) → b ≡ all_pass (equals_last x) s.terms → b ≡ true → ran (claim line x) s ≡ Ok s
claim_holds line x s b e t = claimed line x s true (sym e ∙ t)

pub claim_fails : (line : ℕ) (x : NameId) (s : State) (b : Bool) → b ≡ all_pass (equals_last x) s.terms → b ≡ false → ran (claim line x) s ≡ Err (ForgetFalse line)
claim_fails line x s b e t = claimed line x s false (sym e ∙ t)
