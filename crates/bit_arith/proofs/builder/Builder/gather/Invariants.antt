use Rattle.std.proofs.Common.{◌≡◌, ◌∷◌, drop}
use Rattle.bit_arith.specs.Built.{begun}
use Rattle.bit_arith.specs.Rows.{gathered}
use Rattle.bit_arith.specs.Calls.{no_target}
use Rattle.bit_arith.specs.Fits.{LitsFit}
use Rattle.bit_arith.proofs.builder.Builder.gather.Given as goal

abbrev pub invariant-loop-next : goal.invariant-loop-next
invariant-loop-next l = record {
  same : gathered l.self.setting l.whole (drop l.next-index l.rest) (begun l.self.draft) ≡ gathered l.fn.self.setting l.fn.first l.rest (begun l.fn.self.draft);
  kept : l.self.setting ≡ l.fn.self.setting;
  fit : LitsFit l.self.draft no_target (l.whole ∷ drop l.next-index l.rest);
}
