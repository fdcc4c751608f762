-- What a walk does on the ways of a choice, put together.
use Rattle.std.proofs.Common.{◌≡◌, Bool, cond, Option, Result, Ok, sym, ap, ◌∙◌, subst}
use Rattle.silq_types.specs.Rules.{and_then}
use Rattle.silq_mean.specs.Effect.{Effect, ◌>>◌, choice}
use Rattle.silq_mean.specs.Table.{MeanFault}
use Rattle.silq_run.specs.declared.running.FirstWay.{FirstWay}
use Rattle.silq_run.specs.declared.running.SecondWay.{SecondWay}
use Rattle.run_stage.specs.declared.stage.Stage.{Stage}
use Rattle.run_stage.specs.declared.stop.WalkStop.{WalkStop}
use Rattle.run_stage.specs.declared.stop.WalkStop.TheVariants.{Memory, TooMany, TooManyTerms, ForgetFalse}
use Rattle.run_stage.specs.declared.choice.Choice.TheVariants.{One, Both}
use Rattle.run_stage.specs.Stages.{carried}
use Rattle.run_stage.specs.Stops.{IsStop}
use Rattle.run_stage.specs.Choices.{Begun, second_stage, firsts_of, joined}
use Rattle.run_stage.proofs.Sequences.{in_turn}

-- what stops the first of two parts stops both
pub stops_first : (f : WalkStop) (r : Result Stage MeanFault) (k : Stage → Result Stage MeanFault) → IsStop f r → IsStop f (and_then r k)
stops_first Memory r k h = tt
stops_first (TooMany x) r k h = ap (λ q. and_then q k) h
stops_first TooManyTerms r k h = ap (λ q. and_then q k) h
stops_first (ForgetFalse line) r k h = ap (λ q. and_then q k) h

-- ---- parts in turn

module _ (a b : Effect) (s : Stage) where
  pub turn_both : (u v : Stage) → carried a s ≡ Ok u → carried b u ≡ Ok v → carried (a >> b) s ≡ Ok v
  turn_both u v p q = in_turn a b s ∙ ap (λ r. and_then r (carried b)) p ∙ q

  pub turn_refused_first : (f : WalkStop) → IsStop f (carried a s) → IsStop f (carried (a >> b) s)
  turn_refused_first f h = subst (λ r. IsStop f r) (sym (in_turn a b s)) (stops_first f (carried a s) (carried b) h)

  pub turn_refused_second : (f : WalkStop) (u : Stage) → carried a s ≡ Ok u → IsStop f (carried b u) → IsStop f (carried (a >> b) s)
  turn_refused_second f u p h = subst (λ r. IsStop f r) (sym (in_turn a b s ∙ ap (λ r. and_then r (carried b)) p)) h

-- ---- a choice that goes on one way, from a stage that begins it

module _ (a b : Effect) (s t : Stage) (first : Bool) (begun : Begun (One first) s t) where
  pub choice_one : (v : Stage) → carried (cond first a b) t ≡ Ok v → carried (choice a b) s ≡ Ok v
  choice_one v p = begun a b ∙ p

  pub choice_one_refused : (f : WalkStop) → IsStop f (carried (cond first a b) t) → IsStop f (carried (choice a b) s)
  choice_one_refused f h = subst (λ r. IsStop f r) (sym (begun a b)) h

-- ---- a choice that goes on both ways

module _ (a b : Effect) (s t : Stage) (way : Option FirstWay) (begun : Begun (Both way) s t) where
  abbrev end : Stage → Stage → Result Stage MeanFault
  end u v = Ok (joined (firsts_of way u) v)

  abbrev second : Stage → Result Stage MeanFault
  second u = and_then (carried b (second_stage way u)) (end u)

  after_first : (u : Stage) → carried a t ≡ Ok u → carried (choice a b) s ≡ second u
  after_first u p = begun a b ∙ ap (λ r. and_then r second) p

  pub choice_both : (u w v z : Stage) (firsts : Option SecondWay) → carried a t ≡ Ok u → w ≡ second_stage way u → firsts ≡ firsts_of way u →
      carried b w ≡ Ok v → z ≡ joined firsts v → carried (choice a b) s ≡ Ok z
  choice_both u w v z firsts p e f q g =
      after_first u p ∙ ap (λ r. and_then r (end u)) (ap (carried b) (sym e) ∙ q) ∙ ap (λ o. Ok (joined o v)) (sym f) ∙ ap (λ x. Ok x) (sym g)

  pub choice_refused_first : (f : WalkStop) → IsStop f (carried a t) → IsStop f (carried (choice a b) s)
  choice_refused_first f h = subst (λ r. IsStop f r) (sym (begun a b)) (stops_first f (carried a t) second h)

  pub choice_refused_second : (f : WalkStop) (u w : Stage) → carried a t ≡ Ok u → w ≡ second_stage way u → IsStop f (carried b w) →
      IsStop f (carried (choice a b) s)
  choice_refused_second f u w p e h =
      subst (λ r. IsStop f r) (sym (after_first u p ∙ ap (λ x. and_then (carried b x) (end u)) (sym e))) (stops_first f (carried b w) (end u) h)
