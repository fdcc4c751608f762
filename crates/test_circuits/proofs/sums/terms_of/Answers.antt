use Rattle.std.proofs.Common.{◌+◌, Bool, List, [], ◌∷◌, ◌++◌, length, length-append, ap, sym, ◌∙◌, subst, arith}
use Rattle.amp_core.specs.declared.Amp.{Amp}
use Rattle.sum_laws.specs.Units.{IsUnit, AllUnits}
use Rattle.sum_laws.proofs.Bounds.{units_have_small_sums}
use Rattle.test_circuits.proofs.sums.terms_of.Goals as goal

one_more : (ts : List (List Bool × Amp)) (t : List Bool × Amp) → AllUnits ts → IsUnit t.1 → AllUnits (ts ++ t ∷ [])
one_more [] t u x = (x, tt)
one_more (s ∷ ts) t u x = (u.0, one_more ts t u.1 x)

pub loop-value-preserved : goal.loop-value-preserved
loop-value-preserved c =
    record {
      units = subst AllUnits (sym c.in_ok-push.ensures.ok) (one_more c.loop-value.terms _ c.loop-value.invariant.units c.amplitude_of-amplitude.ensures);
      long = (let i = c.loop-value.invariant.long in ap length c.in_ok-push.ensures.ok ∙ length-append c.loop-value.terms _ ∙ ap (λ n. n + 1) i);
    }

pub returns : goal.returns
returns c = λ v. units_have_small_sums v c.loop-value.terms c.loop-value.invariant.units (let i = c.loop-value.invariant.long in let r = c.requires in let f = c.loop-value-test.false in let g = c.loop-value.auto.value-index-end in omega arith)
