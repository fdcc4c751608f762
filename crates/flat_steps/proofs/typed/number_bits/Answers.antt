use Rattle.std.proofs.Common.{◌∙◌, ap, sym, w64}
use Rattle.std.specs.Prelude.{int_lt, pos, nat_abs}
use Rattle.std.proofs.lemmas.Int.{to_z-of_z}
use Rattle.flat_steps.proofs.Digits.{bits_from_zero, bits_below_zero, ok_equal}
use Rattle.flat_steps.proofs.typed.number_bits.Goals as goal

pub returns-then-number-lt0 : goal.returns-then-number-lt0
returns-then-number-lt0 c =
    let e = to_z-of_z w64 c.args.number c.ranges.number in
    ok_equal _ _ _ (bits_below_zero c.args.width c.unsigned_abs-size.result c.args.number (c.unsigned_abs-size.ensures.value ∙ ap nat_abs e) (ap (λ z. int_lt z (pos 0)) (sym e) ∙ c.if-number-lt0.true)) c.constants.ensures

pub returns : goal.returns
returns c =
    let e = to_z-of_z w64 c.args.number c.ranges.number in
    ok_equal _ _ _ (bits_from_zero c.args.width c.unsigned_abs-size.result c.args.number (c.unsigned_abs-size.ensures.value ∙ ap nat_abs e) (ap (λ z. int_lt z (pos 0)) (sym e) ∙ c.if-number-lt0.false)) c.constants-2.ensures
