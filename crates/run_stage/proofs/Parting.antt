-- How a choice and a statement begin on each stage.
use Rattle.std.proofs.Common.{◌≡◌, ◌+◌, Bool, true, false, cond, List, ◌++◌, length, Option, Some, None, Result, Ok, Err, refl, sym, ap, ◌∙◌, subst, ℕ}
use Rattle.silq_types.specs.Rules.{and_then}
use Rattle.silq_mean.specs.Value.{is_one}
use Rattle.silq_mean.specs.Term.{Term, last, drop_last}
use Rattle.silq_mean.specs.Effect.{Effect, Counts, CountFault, RunFault, counts, run, sample, statement}
use Rattle.silq_mean.specs.Table.{TooMany, Stopped, outcome_of}
use Rattle.silq_run.specs.Ran.{State, ran, with_terms, first_way, second_way, ones_of, others_of}
use Rattle.silq_run.proofs.Sequences.{choices}
use Rattle.silq_run.specs.declared.counts.Excess.{Excess}
use Rattle.silq_run.specs.Counted.{excess_of}
use Rattle.silq_run.specs.declared.running.FirstWay.{FirstWay}
use Rattle.run_stage.specs.declared.stage.Stage.{Stage}
use Rattle.run_stage.specs.declared.stage.Stage.TheVariants.{Counting, Sampling, Running}
use Rattle.run_stage.specs.declared.choice.Choice.TheVariants.{One, Both}
use Rattle.run_stage.specs.Stages.{staged, carried}
use Rattle.run_stage.specs.declared.stop.WalkStop.{WalkStop}
use Rattle.run_stage.specs.declared.stop.WalkStop.TheVariants as stops
use Rattle.run_stage.specs.Stops.{IsStop}
use Rattle.run_stage.specs.Choices.{Begun, second_stage, firsts_of, joined}

pub begun_counting : (c : Counts) → Begun (Both None) (Counting c) (Counting c)
begun_counting c a b = pick (counts a c)
  where
    finish : (r : Result Counts CountFault) → staged Counting TooMany r ≡ and_then (staged Counting TooMany r) (λ v. Ok v)
    finish (Ok d) = refl
    finish (Err f) = refl

    pick : (r : Result Counts CountFault) →
        staged Counting TooMany (and_then r (counts b))
        ≡ and_then (staged Counting TooMany r) (λ u. and_then (carried b (second_stage None u)) (λ v. Ok (joined (firsts_of None u) v)))
    pick (Ok d) = finish (counts b d)
    pick (Err f) = refl

pub begun_sampling : (t : Term) → Begun (One (is_one (last t))) (Sampling t) (Sampling (drop_last t))
begun_sampling t a b = pick (is_one (last t))
  where
    pick : (c : Bool) → Ok (Sampling (cond c (sample a (drop_last t)) (sample b (drop_last t)))) ≡ carried (cond c a b) (Sampling (drop_last t))
    pick true = refl
    pick false = refl

pub begun_running : (s : State) → Begun (Both (Some (record { waiting = s.waiting; others = others_of s.terms }))) (Running s) (Running (first_way s))
begun_running s a b =
    ap (staged Running Stopped) (choices a b s) ∙ pick (run (outcome_of s.outcome) (s.waiting + length (others_of s.terms)) a (ones_of s.terms))
  where
    way : Option FirstWay
    way = Some (record { waiting = s.waiting; others = others_of s.terms })

    finish : (firsts : List Term) (r : Result (List Term) RunFault) →
        staged Running Stopped (and_then (and_then r (λ ts. Ok (with_terms (second_way s firsts) ts))) (λ v. Ok (with_terms s (firsts ++ v.terms))))
        ≡ and_then (staged Running Stopped (and_then r (λ ts. Ok (with_terms (second_way s firsts) ts))))
        (λ v. Ok (joined (Some (record { waiting = s.waiting; firsts = firsts })) v))
    finish firsts (Ok seconds) = refl
    finish firsts (Err f) = refl

    pick : (r : Result (List Term) RunFault) →
        staged Running Stopped (and_then (and_then r (λ ts. Ok (with_terms (first_way s) ts))) (λ u.
        and_then (ran b (second_way s u.terms)) (λ v. Ok (with_terms s (u.terms ++ v.terms)))))
        ≡ and_then (staged Running Stopped (and_then r (λ ts. Ok (with_terms (first_way s) ts)))) (λ u.
        and_then (carried b (second_stage way u)) (λ v. Ok (joined (firsts_of way u) v)))
    pick (Ok firsts) = finish firsts (run (outcome_of s.outcome) (s.waiting + length firsts) b (others_of s.terms))
    pick (Err f) = refl

-- ---- statements

pub statement_counted : (line : ℕ) (e : Effect) (s : Stage) (c d : Counts) → s ≡ Counting c → counts (statement line e) c ≡ counts e d →
    carried (statement line e) s ≡ carried e (Counting d)
statement_counted line e s c d q h = ap (carried (statement line e)) q ∙ ap (staged Counting TooMany) h

pub statement_over : (stop : WalkStop) (f : Excess) (line : ℕ) (e : Effect) (s : Stage) (c : Counts) → s ≡ Counting c → stop ≡ stops.TooMany f →
    counts (statement line e) c ≡ Err (excess_of f) → IsStop stop (carried (statement line e) s)
statement_over stop f line e s c q g h =
    subst (λ x. IsStop x (carried (statement line e) s)) (sym g) (ap (carried (statement line e)) q ∙ ap (staged Counting TooMany) h)
