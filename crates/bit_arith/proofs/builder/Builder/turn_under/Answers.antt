use Rattle.std.proofs.Common.{◌-◌, length, get_or, take, drop}
use Rattle.bit_arith.specs.Calls.{no_target}
use Rattle.bit_arith.specs.Fits.{FitsLit}
use Rattle.bit_arith.proofs.Fits.{next_turn}
use Rattle.bit_arith.proofs.Parts.{no_lit, first_and_rest}
use Rattle.bit_arith.proofs.Gathers.{one_fits, whole_fits}
use Rattle.bit_arith.proofs.builder.Builder.turn_under.Goals as goal
use Rattle.bit_arith.proofs.builder.Builder.turn_under.Goals.{in-empty+in_ok-control-in-empty, in-len1-up+in_ok-control-in-len1-up}

pub push-requires : goal.push-requires
push-requires c =
    let ls = c.args.lits.now in
    let fits : FitsLit c.if-lits-lt1.self.draft no_target c.if-lits-lt1.control =
    elim c.if-lits-lt1.branch [
      | in-empty+in_ok-control-in-empty w ↦
          let got = w.in_ok-control-in-empty in
          rw (w.self-is, w.control-is) (one_fits c.args.self.now w.one.new.self got.control got.ensures.answer got.ensures.ok)
      | in-len1-up+in_ok-control-in-len1-up w ↦
          let got = w.in_ok-control-in-len1-up in
          rw (w.self-is, w.control-is)
          (whole_fits c.args.self.now w.gather.new.self (get_or ls 0 no_lit) got.control (take (length ls - 1) (drop 1 ls)) ls (first_and_rest ls w.in-len1-up.len_at_least) got.ensures.answer got.ensures.ok c.requires.fit)
    ] in
    next_turn c.if-lits-lt1.self.draft c.args.eighths c.if-lits-lt1.control c.requires.some c.requires.few fits
