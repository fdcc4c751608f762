-- What a program does to terms, and its readings: term by term, with all terms at once, and the counts.
use Rattle.std.specs.Prelude.{◌≡◌, ℕ, suc, ◌+◌, Bool, true, false, not, ◌&&◌, if◌then◌else◌, List, [], ◌∷◌, ◌++◌, length, map, flat_map, filter, Result, Ok, Err, ℤ, nat_lt}
use Rattle.silq_tree.specs.declared.node.NameId.{NameId}
use Rattle.silq_tree.specs.declared.node.UnaryOp.{UnaryOp}
use Rattle.silq_tree.specs.declared.node.BinaryOp.{BinaryOp}
use Rattle.silq_tree.specs.declared.node.UpdateOp.{UpdateOp}
use Rattle.silq_types.specs.declared.types.Scalar.{Scalar}
use Rattle.silq_types.specs.Rules.{and_then}
use Rattle.silq_types.specs.Types.{bool_eq}
use Rattle.silq_types.specs.declared.need.Need.{Need}
use Rattle.silq_mean.specs.declared.receiver.Receiver.{Receiver}
use Rattle.silq_mean.specs.declared.receiver.Receiver.TheVariants.{Variable, Argument, CallResult, EntryOutput}
use Rattle.silq_mean.specs.Value.{Value, whole, typed, typed_as, part, is_one, of_one, of_two, repeated, flipped, bits_of}
use Rattle.silq_mean.specs.Term.{Term, value_of, push, last, on_last, on_last_two, drop_last, turn, hadamard, assign_part, assign_all, update_part, take_out, equals_last, open_block, close_block, enter, leave}

-- a static value takes the type of what takes it over
abbrev pub received : Receiver → Value → Value
received Variable v = v
received (Argument need t) v = typed_as t.shape v
received (CallResult t) v = typed_as t.shape v
received (EntryOutput t) v = typed_as t.shape v

-- a step that leaves one term for each term
pub data Step : Type 0 where
  -- a static expression's value, a number with a type, a variable or a part of one
  give_static : ℤ → Step
  give_typed : Scalar → ℤ → Step
  give_part : Need → NameId → List ℤ → Step
  one_operand : UnaryOp → Step
  two_operands : BinaryOp → Step
  copy_last : Step
  repeat_last : Step
  flip_last : Step
  -- w^k where the last value is 1, and else w^l
  turn_by : ℕ → ℕ → Step
  turn_all : ℕ → Step
  -- the last value is taken over
  receive : Receiver → Step
  assign_to : NameId → List ℤ → Step
  assign_in_turn : List NameId → Step
  update_to : NameId → List ℤ → UpdateOp → Step
  -- without and with the value that it was compared with
  end_name : NameId → Step
  end_compared : NameId → Step
  enter_block : Step
  leave_block : Step
  -- the last values become the parameters
  enter_body : List NameId → Step
  leave_body : Step

infixl 20 ◌>>◌
pub data Effect : Type 0 where
  nothing : Effect
  -- the first and then the second
  ◌>>◌ : Effect → Effect → Effect
  -- a statement on this line
  statement : ℕ → Effect → Effect
  step : Step → Effect
  -- H on the last value
  mix : Effect
  -- the last value's bits take the next outcome numbers
  measure : Effect
  -- a forget on this line: the variable is equal to the last value
  claim : ℕ → NameId → Effect
  -- by the last value: where it is 1 the first, else the second
  choice : Effect → Effect → Effect

-- what a step does to a term
abbrev pub after : Step → Term → Term
after (give_static z) t = push t (whole z)
after (give_typed k z) t = push t (typed k z)
after (give_part need x is) t = push t (part (value_of t.env x) is)
after (one_operand op) t = on_last (of_one op) t
after (two_operands op) t = on_last_two (of_two op) t
after copy_last t = on_last (λ v. v) t
after repeat_last t = on_last_two repeated t
after flip_last t = on_last flipped t
after (turn_by k l) t = turn (if is_one (last t) then k else l) t
after (turn_all k) t = turn k t
after (receive r) t = on_last (received r) t
after (assign_to x is) t = assign_part x is t
after (assign_in_turn xs) t = assign_all xs t
after (update_to x is op) t = update_part x is op t
after (end_name x) t = take_out x t
after (end_compared x) t = drop_last (take_out x t)
after enter_block t = open_block t
after leave_block t = close_block t
after (enter_body xs) t = enter xs t
after leave_body t = leave t

-- outcome number i is o i
abbrev pub Outcome : Type 0
Outcome = ℕ → Bool

abbrev pub agrees : Outcome → ℕ → List Bool → Bool
agrees o i [] = true
agrees o i (b ∷ bs) = bool_eq (o i) b && agrees o (suc i) bs

abbrev pub told : List Bool → Term → Term
told bs t = record t { measured = t.measured + length bs }

-- ---- term by term: the terms that follow one term

abbrev pub follow : Outcome → Effect → Term → List Term
follow o nothing t = t ∷ []
follow o (a >> b) t = flat_map (follow o b) (follow o a t)
follow o (statement line e) t = follow o e t
follow o (step s) t = after s t ∷ []
follow o mix t = hadamard false t ∷ hadamard true t ∷ []
follow o measure t = if agrees o t.measured (bits_of (last t)) then (told (bits_of (last t)) t ∷ []) else []
follow o (claim line x) t = t ∷ []
follow o (choice a b) t = if is_one (last t) then follow o a (drop_last t) else follow o b (drop_last t)

-- ---- honesty: each forget is true on each term that reaches it

abbrev pub Each : (Term → Type 0) → List Term → Type 0
Each Q [] = Unit {0}
Each Q (t ∷ ts) = Q t × Each Q ts

abbrev pub Holds : Outcome → Effect → Term → Type 0
Holds o (a >> b) t = Holds o a t × Each (Holds o b) (follow o a t)
Holds o (statement line e) t = Holds o e t
Holds o (claim line x) t = equals_last x t ≡ true
Holds o (choice a b) t = (is_one (last t) ≡ true → Holds o a (drop_last t)) × (is_one (last t) ≡ false → Holds o b (drop_last t))
Holds o e t = Unit {0}

-- ---- all terms at once, where `waiting` terms stand before the other way of a choice

abbrev pub most_terms : ℕ
most_terms = 1048576

pub data RunFault : Type 0 where
  TooManyTerms : RunFault
  ForgetFalse : ℕ → RunFault

abbrev pub all_pass : (Term → Bool) → List Term → Bool
all_pass test [] = true
all_pass test (t ∷ ts) = test t && all_pass test ts

abbrev pub within_limit : ℕ → List Term → Result (List Term) RunFault
within_limit waiting ts = if nat_lt most_terms (waiting + length ts) then Err TooManyTerms else Ok ts

abbrev pub run : Outcome → ℕ → Effect → List Term → Result (List Term) RunFault
run o waiting nothing ts = Ok ts
run o waiting (a >> b) ts = and_then (run o waiting a ts) (run o waiting b)
run o waiting (statement line e) ts = run o waiting e ts
run o waiting (step s) ts = Ok (map (after s) ts)
run o waiting mix ts = within_limit waiting (flat_map (λ t. hadamard false t ∷ hadamard true t ∷ []) ts)
run o waiting measure ts = Ok (flat_map (follow o measure) ts)
run o waiting (claim line x) ts = if all_pass (equals_last x) ts then Ok ts else Err (ForgetFalse line)
run o waiting (choice a b) ts =
    let others : List Term = map drop_last (filter (λ t. not (is_one (last t))) ts) in
    and_then (run o (waiting + length others) a (map drop_last (filter (λ t. is_one (last t)) ts))) (λ firsts.
    and_then (run o (waiting + length firsts) b others) (λ seconds.
    Ok (firsts ++ seconds)))

-- ---- the counts, in the order of the text

pub record Counts : Type 0 where
  pub statements : ℕ
  pub splits : ℕ

pub data CountFault : Type 0 where
  Inlined HGates : CountFault

abbrev pub most_inlined : ℕ
most_inlined = 1000000

abbrev pub most_splits : ℕ
most_splits = 50

-- the counts after it, or the first that is too high
abbrev pub counts : Effect → Counts → Result Counts CountFault
counts (a >> b) c = and_then (counts a c) (counts b)
counts (statement line e) c = if nat_lt c.statements most_inlined then counts e (record c { statements = suc c.statements }) else Err Inlined
counts mix c = if nat_lt c.splits most_splits then Ok (record c { splits = suc c.splits }) else Err HGates
counts (choice a b) c = and_then (counts a c) (counts b)
counts e c = Ok c

-- the first of the terms that would follow were every outcome to come
abbrev pub sample : Effect → Term → Term
sample (a >> b) t = sample b (sample a t)
sample (statement line e) t = sample e t
sample (step s) t = after s t
sample mix t = hadamard false t
sample measure t = told (bits_of (last t)) t
sample (choice a b) t = if is_one (last t) then sample a (drop_last t) else sample b (drop_last t)
sample e t = t

-- the number of outcomes: it is the same for all terms of an accepted program
abbrev pub outcomes : Effect → Term → ℕ
outcomes e t = (sample e t).measured
