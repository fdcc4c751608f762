use Rattle.std.proofs.Common.{ap, sym, ◌∙◌, subst}
use Rattle.sum_laws.specs.InOrder.{terms_of}
use Rattle.sum_laws.specs.Table.{TableOf}
use Rattle.sum_laws.proofs.ValueTerms.{PartialSumsSmall-along, amplitude-along}
use Rattle.sum_laws.proofs.Tables.{TableOf-along}
use Rattle.sum_laws.proofs.terms.Terms.merged.Goals as goal

pub rows-requires-clause-small : goal.rows-requires-clause-small
rows-requires-clause-small c = λ v. PartialSumsSmall-along v c.args.self c.sort.new.terms.items (c.sort.ensures.each_value v ∙ ap (terms_of v) c.self.view_is) (c.requires v)

pub returns : goal.returns
returns c =
    subst (TableOf c.args.self) (sym c.of_rows.ensures)
    (TableOf-along c.sort.new.terms.items c.args.self c.in_ok-rows.field-0.items (λ v. amplitude-along v c.args.self c.sort.new.terms.items (c.sort.ensures.each_value v ∙ ap (terms_of v) c.self.view_is)) c.in_ok-rows.ensures)
