use Rattle.std.proofs.Common.{◌≡◌, ℕ, false, sym, ◌∙◌, subst, rules}
use Rattle.std.proofs.lemmas.Int.{to_z-of_z}
use Rattle.std.specs.Int.RustNames.{FitsSigned}
use Rattle.std.specs.Prelude.{ℤ}
use mir.Val.{to_z, of_z}
use mir.Syntax.{w128}
use Rattle.amp_core.specs.Size.{SizeBelow}
use Rattle.amp_core.proofs.Amp.is_within.Goals as goal
use Rattle.amp_core.proofs.Amp.is_within.Goals.{then-is_below, else-is_below, then-is_below-2, else-is_below-2}

-- a coefficient as it is passed
plain : (n : ℕ) (z : ℤ) → FitsSigned w128 z → SizeBelow n (to_z w128 (of_z w128 z)) → SizeBelow n z
plain n z f = subst (SizeBelow n) (to_z-of_z w128 z f)

passed : (n : ℕ) (z : ℤ) → FitsSigned w128 z → SizeBelow n z → SizeBelow n (to_z w128 (of_z w128 z))
passed n z f = subst (SizeBelow n) (sym (to_z-of_z w128 z f))

pub returns-then-is_below-3 : goal.returns-then-is_below-3
returns-then-is_below-3 c =
    let a : FitsSigned w128 c.args.self.now.a = search rules in
    let b : FitsSigned w128 c.args.self.now.b = search rules in
    let d : FitsSigned w128 c.args.self.now.c = search rules in
    let e : FitsSigned w128 c.args.self.now.d = search rules in
    elim c.if-is_below-2.branch [
      | then-is_below-2 w ↦
          elim c.if-is_below.branch [
            | then-is_below v ↦ (
              λ h. record {
                a = plain c.args.bound c.args.self.now.a a (c.is_below.ensures.0 v.if-is_below.true);
                b = plain c.args.bound c.args.self.now.b b (v.is_below-then-is_below.ensures.0 (sym v.value-is ∙ w.if-is_below-2.true));
                c = plain c.args.bound c.args.self.now.c d (w.is_below-then-is_below-2.ensures.0 (sym w.value-is ∙ c.if-is_below-3.true));
                d = plain c.args.bound c.args.self.now.d e (c.is_below-then-is_below-3.ensures.0 h);
              },
              λ k. c.is_below-then-is_below-3.ensures.1 (passed c.args.bound c.args.self.now.d e k.d),
            )
            | else-is_below v ↦ absurd (let p : c.if-is_below.value ≡ false = v.value-is ∙ v.if-is_below.false in let q = w.if-is_below-2.true in cc (p, q))
          ]
      | else-is_below-2 w ↦ absurd (let p : c.if-is_below-2.value ≡ false = w.value-is ∙ w.if-is_below-2.false in let q = c.if-is_below-3.true in cc (p, q))
    ]
