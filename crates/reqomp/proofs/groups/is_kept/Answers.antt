use Rattle.std.proofs.Common.{not, refl, sym, ap, ◌∙◌, subst}
use Rattle.std.proofs.lemmas.Bool.{not-true}
use Rattle.flat_core.proofs.Kept.{keeps_ends}
use Rattle.graph_core.specs.Circuit.{IsVertex}
use Rattle.reqomp.specs.Simple.{marked_at}
use Rattle.reqomp.specs.Level.{IsKept}
use Rattle.reqomp.proofs.Grouping.{kept_forward, kept_reverse, kept_free}
use Rattle.reqomp.proofs.groups.is_kept.Goals as goal

pub returns-in-Forward : goal.returns-in-Forward
returns-in-Forward c =
    let f = c.args.flat.now in
    let marked = marked_at f c.args.marks.now.level in
    let i = kept_forward f (keeps_ends f c.requires.sound) marked c.in-Forward.s (subst (IsVertex f) c.in-Forward.is c.requires.vertex) in (
      (λ t. subst (IsKept f marked) (sym c.in-Forward.is) (i.0 (sym c.changes_marked.ensures ∙ not-true c.changes_marked.result t))),
      (λ k. ap not (c.changes_marked.ensures ∙ i.1 (subst (IsKept f marked) c.in-Forward.is k))),
    )

pub returns-in-Reverse : goal.returns-in-Reverse
returns-in-Reverse c =
    let f = c.args.flat.now in
    let marked = marked_at f c.args.marks.now.level in
    let i = kept_reverse f (keeps_ends f c.requires.sound) marked c.in-Reverse.s (subst (IsVertex f) c.in-Reverse.is c.requires.vertex) in (
      (λ t. subst (IsKept f marked) (sym c.in-Reverse.is) (i.0 (sym c.changes_marked-in-Reverse.ensures ∙ not-true c.changes_marked-in-Reverse.result t))),
      (λ k. ap not (c.changes_marked-in-Reverse.ensures ∙ i.1 (subst (IsKept f marked) c.in-Reverse.is k))),
    )

pub returns-in-Free : goal.returns-in-Free
returns-in-Free c =
    let f = c.args.flat.now in
    let marked = marked_at f c.args.marks.now.level in (
      (λ t. subst (IsKept f marked) (sym c.in-Free.is) (kept_free f (keeps_ends f c.requires.sound) c.args.marks.now.level c.in-Free.field-0 (subst (IsVertex f) c.in-Free.is c.requires.vertex))),
      (λ k. refl),
    )
