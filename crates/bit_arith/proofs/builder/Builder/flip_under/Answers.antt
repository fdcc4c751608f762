use Rattle.std.proofs.Common.{◌-◌, length, get_or, take, drop}
use Rattle.std.proofs.lemmas.Result.{err_from_is_err_and}
use Rattle.bit_arith.proofs.Parts.{no_lit, none_left, only_one, first_and_last}
use Rattle.bit_arith.proofs.Gathers.{gather_fits, gather_refused, flips_none, flips_one, flips_more, flips_ok, flips_refused, Flips}
use Rattle.bit_arith.proofs.builder.Builder.flip_under.Goals as goal
use Rattle.bit_arith.proofs.builder.Builder.flip_under.Goals.{in-empty, in-len1, in-len2-up+in_ok-gather-in-len2-up}

pub gather-requires : goal.gather-requires
gather-requires c =
    let ls = c.args.lits.now in
    let split = first_and_last ls c.in-len2-up.len_at_least in
    gather_fits c.args.self.now c.args.w (get_or ls 0 no_lit) (get_or ls (length ls - 1) no_lit) (take (length ls - 1 - 1) (drop 1 ls)) ls split c.requires.fit

pub returns-in_err-gather-in-len2-up-clause-refused : goal.returns-in_err-gather-in-len2-up-clause-refused
returns-in_err-gather-in-len2-up-clause-refused c =
    let p = err_from_is_err_and c.from_residual.result c.from_residual.ensures.1 in
    let ls = c.args.lits.now in
    let split = first_and_last ls c.in-len2-up.len_at_least in
    rw (p.1, p.2)
    (gather_refused c.args.self.now c.args.w (get_or ls 0 no_lit) (get_or ls (length ls - 1) no_lit) (take (length ls - 1 - 1) (drop 1 ls)) ls split c.in_err-gather-in-len2-up.field-0.0 c.in_err-gather-in-len2-up.ensures.refused)

pub push-requires : goal.push-requires
push-requires c =
    let ls = c.args.lits.now in
    let flips : Flips c.args.self.now c.if-lits-lt1.self c.args.w ls c.if-lits-lt1.first.0 c.if-lits-lt1.first.1 =
    elim c.if-lits-lt1.branch [
      | in-empty w ↦ rw (w.self-is, w.first-is) (flips_none c.args.self.now c.args.w ls (none_left ls w.in-empty.len_below) c.requires.target)
      | in-len1 w ↦ rw (w.self-is, w.first-is) (flips_one c.args.self.now c.args.w (get_or ls 0 no_lit) ls (only_one ls w.in-len1.len_at_least w.in-len1.len_below) c.requires.target c.requires.fit)
      | in-len2-up+in_ok-gather-in-len2-up w ↦
          let split = first_and_last ls w.in-len2-up.len_at_least in
          let got = w.in_ok-gather-in-len2-up in
          rw (w.self-is, w.first-is)
          (flips_more c.args.self.now c.args.w (get_or ls 0 no_lit) (get_or ls (length ls - 1) no_lit) (take (length ls - 1 - 1) (drop 1 ls)) ls split w.gather.new.self got.field-0 got.ensures.answer got.ensures.ok c.requires.target c.requires.fit)
    ] in
    flips.next

-- the step comes after what the branch gathered
flips_by : (c : goal.After-push) → Flips c.args.self.now c.if-lits-lt1.self c.args.w c.args.lits.now c.if-lits-lt1.first.0 c.if-lits-lt1.first.1
flips_by c =
    let ls = c.args.lits.now in
    elim c.if-lits-lt1.branch [
      | in-empty w ↦ rw (w.self-is, w.first-is) (flips_none c.args.self.now c.args.w ls (none_left ls w.in-empty.len_below) c.requires.target)
      | in-len1 w ↦ rw (w.self-is, w.first-is) (flips_one c.args.self.now c.args.w (get_or ls 0 no_lit) ls (only_one ls w.in-len1.len_at_least w.in-len1.len_below) c.requires.target c.requires.fit)
      | in-len2-up+in_ok-gather-in-len2-up w ↦
          let split = first_and_last ls w.in-len2-up.len_at_least in
          let got = w.in_ok-gather-in-len2-up in
          rw (w.self-is, w.first-is)
          (flips_more c.args.self.now c.args.w (get_or ls 0 no_lit) (get_or ls (length ls - 1) no_lit) (take (length ls - 1 - 1) (drop 1 ls)) ls split w.gather.new.self got.field-0 got.ensures.answer got.ensures.ok c.requires.target c.requires.fit)
    ]

pub returns-clause-ok : goal.returns-clause-ok
returns-clause-ok c = flips_ok c.push.new.self c.push.result (flips_by c) c.push.ensures.ok

pub returns-clause-refused : goal.returns-clause-refused
returns-clause-refused c = flips_refused c.push.result (flips_by c) c.push.ensures.refused
