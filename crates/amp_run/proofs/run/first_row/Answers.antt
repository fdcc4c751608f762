use Rattle.std.proofs.Common.{[], ◌∷◌, ◌++◌, ap, sym, ◌∙◌, subst}
use Rattle.amp_core.specs.Amplitude.{one}
use Rattle.sum_laws.specs.Partial.{PartialSumsSmall}
use Rattle.amp_run.proofs.Rows.{first_small}
use Rattle.amp_run.proofs.run.first_row.Goals as goal

pub merged-requires : goal.merged-requires
merged-requires c = λ v.
    subst (PartialSumsSmall v) (sym (c.in_ok-push.ensures.ok ∙ ap (λ ts. ts ++ (c.args.bits, one) ∷ []) c.new-terms.ensures)) (first_small c.args.bits v)
