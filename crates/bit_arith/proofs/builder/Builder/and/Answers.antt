use Rattle.std.proofs.Common.{subst}
use Rattle.bit_arith.specs.Calls.{no_target}
use Rattle.bit_arith.specs.Fits.{LitsFit}
use Rattle.bit_arith.proofs.Fits.{literals_at}
use Rattle.bit_arith.proofs.Parts.{first_and_rest}
use Rattle.bit_arith.proofs.builder.Builder.and.Goals as goal

pub gather-requires : goal.gather-requires
gather-requires c =
    let d = c.args.self.now.draft in
    let fit : LitsFit d no_target c.as_slice.result.now =
    rw c.as_slice.ensures.value (literals_at d no_target c.args.list.now c.in-Some.lits.items c.requires.safe (rw c.in-Some.is at c.in_ok-lits.ensures)) in
    subst (LitsFit d no_target) (first_and_rest c.as_slice.result.now c.in-len1-up.len_at_least) fit
