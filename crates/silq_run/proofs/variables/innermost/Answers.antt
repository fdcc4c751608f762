use Rattle.std.proofs.Common.{◌≡◌, ℕ, ◌+◌, ◌-◌, ◌<◌, false, [], length, drop, reverse, get_or, sym, ap, ◌∙◌, subst, arith}
use Rattle.silq_mean.specs.Env.{is_in_reach, is_in_block}
use Rattle.std.proofs.lemmas.List.{get_or_default}
use Rattle.silq_run.proofs.Places.{outer_more}
use Rattle.silq_run.proofs.variables.innermost.Goals as goal

pub loop-i-preserved : goal.loop-i-preserved
loop-i-preserved c =
    let bs = c.args.blocks.now in let i : ℕ = c.loop-i.i - 1 in
    let low : i < length bs = omega arith in
    let next : i + 1 ≡ c.loop-i.i = omega arith in
    let free : is_in_block (get_or bs i []) c.args.name ≡ false =
    ap (λ z. is_in_block z c.args.name) (get_or_default bs i [] c.index-blocks-i.result low ∙ sym c.index-blocks-i.is) ∙ sym c.if-has.ensures in
    (omega arith, outer_more bs c.args.name i low (subst (λ z. is_in_reach (reverse (drop z bs)) c.args.name ≡ false) (sym next) c.loop-i.invariant.1) free)
