-- What is carried out by the parts of an effect, in turn.
use Rattle.std.proofs.Common.{◌≡◌, Result, Ok, IfErr, OnOk, refl, sym, ap, ◌∙◌, subst}
use Rattle.silq_types.specs.Rules.{and_then}
use Rattle.silq_mean.specs.Effect.{Effect, nothing, ◌>>◌}
use Rattle.silq_mean.specs.Table.{MeanFault}
use Rattle.run_stage.specs.declared.stage.Stage.{Stage}
use Rattle.run_stage.specs.declared.stop.WalkStop.{WalkStop}
use Rattle.run_stage.specs.declared.stop.WalkStop.TheVariants.{Memory}
use Rattle.run_stage.specs.Stages.{carried}
use Rattle.run_stage.specs.Stops.{IsStop}
use Rattle.run_stage.proofs.Sequences.{in_turn, nothing_to_do}
use Rattle.run_stage.proofs.Composing.{turn_refused_first}

-- the rest goes on where the first part ended
pub carried_after : (a b : Effect) (s t : Stage) → carried a s ≡ Ok t → carried (a >> b) s ≡ carried b t
carried_after a b s t p = in_turn a b s ∙ ap (λ r. and_then r (carried b)) p

pub stop_as : (f : WalkStop) (p q : Result Stage MeanFault) → p ≡ q → IsStop f p → IsStop f q
stop_as f p q e h = subst (λ r. IsStop f r) e h

-- want of memory is free
pub stop_free : (f : WalkStop) (r : Result Stage MeanFault) → f ≡ Memory → IsStop f r
stop_free f r e = subst (λ g. IsStop g r) (sym e) tt

-- what the rest answers is what the whole answers
module _ (whole part : Result Stage MeanFault) (e : whole ≡ part) (r : Result (Unit {0}) WalkStop) where
  pub ok_as : (t : Stage) → OnOk r (part ≡ Ok t) → OnOk r (whole ≡ Ok t)
  ok_as t h = subst (λ x. OnOk r (x ≡ Ok t)) (sym e) h

  pub refused_as : IfErr r (λ f. IsStop f part) → IfErr r (λ f. IsStop f whole)
  refused_as h = subst (λ x. IfErr r (λ f. IsStop f x)) (sym e) h

-- a walk that is under way: the rest of the effect, from the stage now, leads to where the whole leads
pub record Onward (rest : Effect) (whole : Result Stage MeanFault) (now : Stage) : Type 0 where
  pub goes : carried rest now ≡ whole

pub onward_start : (e : Effect) (s : Stage) → Onward e (carried e s) s
onward_start e s = record { goes = refl }

pub onward_as : (a b : Effect) (whole : Result Stage MeanFault) (now : Stage) → a ≡ b → Onward a whole now → Onward b whole now
onward_as a b whole now e o = subst (λ x. Onward x whole now) e o

pub onward_step : (a rest : Effect) (whole : Result Stage MeanFault) (now later : Stage) → Onward (a >> rest) whole now → carried a now ≡ Ok later
    → Onward rest whole later
onward_step a rest whole now later o e = record { goes = sym (carried_after a rest now later e) ∙ o.goes }

pub onward_refused : (f : WalkStop) (a rest : Effect) (whole : Result Stage MeanFault) (now : Stage) → Onward (a >> rest) whole now
    → IsStop f (carried a now) → IsStop f whole
onward_refused f a rest whole now o h = subst (λ r. IsStop f r) o.goes (turn_refused_first a rest now f h)

pub onward_end : (whole : Result Stage MeanFault) (now : Stage) → Onward nothing whole now → whole ≡ Ok now
onward_end whole now o = sym o.goes ∙ nothing_to_do now
