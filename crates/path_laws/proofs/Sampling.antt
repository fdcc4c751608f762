-- There are outcomes under which the terms that follow begin with the sample.
use Rattle.std.proofs.Common.{◌≡◌, ℕ, suc, ◌+◌, ◌<◌, ◌≤◌, Bool, true, false, ◌&&◌, if◌then◌else◌, List, [], ◌∷◌, ◌++◌, length, flat_map, refl, ◌∙◌, ap, ap₂, arith}
use Rattle.silq_types.specs.Types.{bool_eq}
use Rattle.silq_mean.specs.Value.{bits_of, is_one}
use Rattle.silq_mean.specs.Term.{Term, Caller, last, drop_last, hadamard, back_to}
use Rattle.silq_mean.specs.Effect.{Effect, nothing, ◌>>◌, statement, step, mix, measure, claim, choice, Step, give_static, give_typed, give_part, one_operand, two_operands, copy_last, repeat_last, flip_last, turn_by, turn_all, receive, assign_to, assign_in_turn, update_to, end_name, end_compared, enter_block, leave_block, enter_body, leave_body, Outcome, after, agrees, told, follow, sample}
use Rattle.flat_mean.specs.Row.{put}
use Rattle.flat_mean.proofs.Sums.{put-same, put-other}
use Rattle.flat_mean.proofs.Early.{Below}

-- a list begins with a term
pub record Begins (t : Term) (ts : List Term) : Type 0 where
  pub rest : List Term
  pub is : ts ≡ t ∷ rest

-- outcomes that are o below m, under which, and under all that are the same as far as is told, the terms begin with the end
pub record Sampled (m : ℕ) (end : Term) (src : Outcome → List Term) (o : Outcome) : Type 0 where
  pub outcome : Outcome
  pub before : Below m outcome o
  pub rises : m ≤ end.measured
  pub heads : (p : Outcome) → Below end.measured p outcome → Begins end (src p)

-- ---- steps

back_measured : (t : Term) (cs : List Caller) → (back_to t cs).measured ≡ t.measured
back_measured t [] = refl
back_measured t (c ∷ cs) = refl

measured_after : (s : Step) (t : Term) → (after s t).measured ≡ t.measured
measured_after (give_static z) t = refl
measured_after (give_typed k z) t = refl
measured_after (give_part need x is) t = refl
measured_after (one_operand op) t = refl
measured_after (two_operands op) t = refl
measured_after copy_last t = refl
measured_after repeat_last t = refl
measured_after flip_last t = refl
measured_after (turn_by k l) t = refl
measured_after (turn_all k) t = refl
measured_after (receive r) t = refl
measured_after (assign_to x is) t = refl
measured_after (assign_in_turn xs) t = refl
measured_after (update_to x is op) t = refl
measured_after (end_name x) t = refl
measured_after (end_compared x) t = refl
measured_after enter_block t = refl
measured_after leave_block t = refl
measured_after (enter_body xs) t = refl
measured_after leave_body t = back_measured t t.callers

-- one term alone, which has told as many outcomes
sampled_one : (m : ℕ) (end : Term) (o : Outcome) (rest : List Term) → end.measured ≡ m → Sampled m end (λ p. end ∷ rest) o
sampled_one m end o rest e = record {
  outcome = o;
  before = record { at = λ i lt. refl };
  rises = omega (arith, e);
  heads = λ p q. record { rest = rest; is = refl };
}

-- ---- measures

-- the outcomes with some bits from a number on
abbrev spread : Outcome → ℕ → List Bool → Outcome
spread o n [] = o
spread o n (b ∷ bs) = put n b (spread o (suc n) bs)

spread_before : (o : Outcome) (bs : List Bool) (n i : ℕ) → i < n → spread o n bs i ≡ o i
spread_before o [] n i lt = refl
spread_before o (b ∷ bs) n i lt = put-other n b (spread o (suc n) bs) i (λ e. absurd (omega (arith, lt, e))) ∙ spread_before o bs (suc n) i (omega (arith, lt))

bit_equal : (a b : Bool) → a ≡ b → bool_eq a b ≡ true
bit_equal true true e = refl
bit_equal true false e = absurd (cc)
bit_equal false true e = absurd (cc)
bit_equal false false e = refl

spread_agrees : (o p : Outcome) (bs : List Bool) (n : ℕ) → ((i : ℕ) → n ≤ i → i < n + length bs → p i ≡ spread o n bs i) → agrees p n bs ≡ true
spread_agrees o p [] n h = refl
spread_agrees o p (b ∷ bs) n h =
    ap₂ ◌&&◌ (bit_equal (p n) b (h n (omega arith) (omega arith) ∙ put-same n b (spread o (suc n) bs)))
    (spread_agrees o p bs (suc n) (λ i le lt. h i (omega (arith, le)) (omega (arith, lt)) ∙ put-other n b (spread o (suc n) bs) i (λ e. absurd (omega (arith, le, e)))))

sampled_measure : (bs : List Bool) (t : Term) (o : Outcome) → Sampled t.measured (told bs t) (λ p. if agrees p t.measured bs then (told bs t ∷ []) else []) o
sampled_measure bs t o = record {
  outcome = spread o t.measured bs;
  before = record { at = λ i lt. spread_before o bs t.measured i lt };
  rises = omega arith;
  heads = λ p q. record { rest = []; is = ap (λ b. if b then (told bs t ∷ []) else []) (spread_agrees o p bs t.measured (λ i le lt. q.at i lt)) };
}

-- ---- choices

either : (c : Bool) (m : ℕ) (x y : Term) (f g : Outcome → List Term) (o : Outcome) → Sampled m x f o → Sampled m y g o → Sampled m (if c then x else y) (λ p. if c then f p else g p) o
either true m x y f g o a b = a
either false m x y f g o a b = b

-- ---- one effect after another

flat_begins : (f : Term → List Term) (x y : Term) (ts : List Term) → Begins x ts → Begins y (f x) → Begins y (flat_map f ts)
flat_begins f x y ts a b = record {
  rest = b.rest ++ flat_map f a.rest;
  is = ap (flat_map f) a.is ∙ ap (λ us. us ++ flat_map f a.rest) b.is;
}

sampled_then : (m : ℕ) (x y : Term) (f : Outcome → List Term) (g : Outcome → Term → List Term) (o : Outcome) (a : Sampled m x f o) → Sampled x.measured y (λ p. g p x) a.outcome → Sampled m y (λ p. flat_map (g p) (f p)) o
sampled_then m x y f g o a b = record {
  outcome = b.outcome;
  before = record { at = λ i lt. b.before.at i (omega (arith, lt, a.rises)) ∙ a.before.at i lt };
  rises = omega (arith, a.rises, b.rises);
  heads = λ p q. flat_begins (g p) x y (f p) (a.heads p (record { at = λ i lt. q.at i (omega (arith, lt, b.rises)) ∙ b.before.at i lt })) (b.heads p q);
}

-- ---- effects

pub samples : (e : Effect) (t : Term) (o : Outcome) → Sampled t.measured (sample e t) (λ p. follow p e t) o
samples nothing t o = sampled_one t.measured t o [] refl
samples (a >> b) t o =
    let first : Sampled t.measured (sample a t) (λ p. follow p a t) o = samples a t o in
    sampled_then t.measured (sample a t) (sample b (sample a t)) (λ p. follow p a t) (λ p. follow p b) o first (samples b (sample a t) first.outcome)
samples (statement line e) t o = samples e t o
samples (step s) t o = sampled_one t.measured (after s t) o [] (measured_after s t)
samples mix t o = sampled_one t.measured (hadamard false t) o (hadamard true t ∷ []) refl
samples measure t o = sampled_measure (bits_of (last t)) t o
samples (claim line x) t o = sampled_one t.measured t o [] refl
samples (choice a b) t o =
    either (is_one (last t)) t.measured (sample a (drop_last t)) (sample b (drop_last t)) (λ p. follow p a (drop_last t)) (λ p. follow p b (drop_last t)) o
    (samples a (drop_last t) o) (samples b (drop_last t) o)
