use Rattle.std.proofs.Common.{◌≤◌, ◌<◌, ℕ, sym, ap, Some, ◌∙◌, arith}
use Rattle.file_text.proofs.Why.{long, no_text}
use Rattle.file_text.proofs.text.NoText.no_text.Goals as goal
use Rattle.file_text.proofs.text.NoText.no_text.Goals.{else-cut-via-then-cut+else-bytes-limit, else-cut-via-else-cut}

no_less : (a b : ℕ) → a < b → b ≤ a → ⊥
no_less a b l m = omega (arith, l, m)

pub returns-then-bytes-limit : goal.returns-then-bytes-limit
returns-then-bytes-limit c =
    long c.args.limit c.args.bytes.now c.if-bytes-limit.true c.requires.most (sym c.requires.cut ∙ c.if-cut.true)

pub returns-in-Ok : goal.returns-in-Ok
returns-in-Ok c =
    no_text c.args.limit c.args.bytes.now c.in-Ok.front.now c.args.valid c.requires.most c.requires.none
    (λ l. elim c.else-cut.branch [ else-cut-via-then-cut+else-bytes-limit w ↦ absurd (no_less _ _ l w.if-bytes-limit.false) | else-cut-via-else-cut w ↦ sym c.requires.cut ∙ w.if-cut.false ])
    c.requires.valid c.in-Ok.ensures.cases.0 ∙ ap Some (sym c.utf8-2.ensures)
