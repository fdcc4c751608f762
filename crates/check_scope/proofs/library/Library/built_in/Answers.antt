use Rattle.std.proofs.Common.{◌≡◌, ◌∙◌, ap}
use Rattle.check_scope.specs.Library.{Shelf}
use Rattle.check_scope.proofs.Named.{built_in_here}
use Rattle.check_scope.proofs.library.Library.built_in.Goals as goal

pub returns-then-word-name : goal.returns-then-word-name
returns-then-word-name c =
    let same : c.deref-word-items.result.now ≡ c.args.self.now.words = c.deref-word-items.ensures.value ∙ ap (λ (s : Shelf). s.words) c.self.view_is in
    rw same (built_in_here c.args.self.now.words c.loop-word.word-index _ c.args.name c.loop-word.invariant (rw same at c.loop-word-test.true) (rw same at c.if-word-name.true))
