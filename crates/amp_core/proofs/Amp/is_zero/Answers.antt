use Rattle.std.proofs.Common.{◌≡◌, Bool, true, false, ◌&&◌, int_eq, ap, refl, sym, ◌∙◌, rules}
use Rattle.std.proofs.lemmas.Int.{to_z-of_z}
use Rattle.std.proofs.lemmas.Bool.Decides.{Decides-int_eq}
use Rattle.std.specs.Bool.{Decides}
use Rattle.std.specs.Int.RustNames.{FitsSigned}
use Rattle.std.specs.Prelude.{ℤ, pos}
use mir.Val.{to_z, of_z}
use mir.Syntax.{w128}
use Rattle.amp_core.specs.declared.Amp.{Amp}
use Rattle.amp_core.specs.Amplitude.{Numerator, no_numerator, numerator}
use Rattle.amp_core.proofs.Numerators.{by_entries}
use Rattle.amp_core.proofs.Amplitudes.{Same-none, numerator-Same_none}
use Rattle.amp_core.proofs.Amp.is_zero.Goals as goal

and_true : (b c : Bool) → (b && c) ≡ true → (b ≡ true) × (c ≡ true)
and_true true c h = (refl, h)
and_true false c h = cc

both_true : (b c : Bool) → b ≡ true → c ≡ true → (b && c) ≡ true
both_true b c p q = ap (λ x. x && c) p ∙ q

-- what `==` of a coefficient and zero decides
entry : (z : ℤ) → FitsSigned w128 z → Decides (int_eq (to_z w128 (of_z w128 z)) (pos 0)) (z ≡ pos 0)
entry z f =
    let d = Decides-int_eq (to_z w128 (of_z w128 z)) (pos 0) in
    (λ h. sym (to_z-of_z w128 z f) ∙ d.0 h, λ h. d.1 (to_z-of_z w128 z f ∙ h))

entries : (x : Amp) → FitsSigned w128 x.a → FitsSigned w128 x.b → FitsSigned w128 x.c → FitsSigned w128 x.d
    → Decides (((int_eq (to_z w128 (of_z w128 x.a)) (pos 0) && int_eq (to_z w128 (of_z w128 x.b)) (pos 0)) && int_eq (to_z w128 (of_z w128 x.c)) (pos 0)) && int_eq (to_z w128 (of_z w128 x.d)) (pos 0)) (numerator x ≡ no_numerator)
unfolding numerator
entries x p q r s =
    let a = entry x.a p in
    let b = entry x.b q in
    let c = entry x.c r in
    let d = entry x.d s in (
      λ h.
          let h3 = and_true _ _ h in
          let h2 = and_true _ _ h3.0 in
          let h1 = and_true _ _ h2.0 in
          by_entries _ _ (a.0 h1.0) (b.0 h1.1) (c.0 h2.1) (d.0 h3.1),
      λ h.
          both_true _ _ (both_true _ _ (both_true _ _ (a.1 (ap (λ (n : Numerator). n.a) h)) (b.1 (ap (λ (n : Numerator). n.b) h))) (c.1 (ap (λ (n : Numerator). n.c) h))) (d.1 (ap (λ (n : Numerator). n.d) h)),
    )

pub returns : goal.returns
returns c =
    let a : FitsSigned w128 c.args.self.now.a = search rules in
    let b : FitsSigned w128 c.args.self.now.b = search rules in
    let e : FitsSigned w128 c.args.self.now.c = search rules in
    let f : FitsSigned w128 c.args.self.now.d = search rules in
    let d = entries c.args.self.now a b e f in (
      λ h. Same-none c.args.self.now (d.0 (sym c.eq.ensures ∙ h)),
      λ h. c.eq.ensures ∙ d.1 (numerator-Same_none c.args.self.now h),
    )
