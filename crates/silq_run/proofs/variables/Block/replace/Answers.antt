use Rattle.std.proofs.Common.{◌≡◌, None, Some, set, get_or, sym, ap, ◌∙◌}
use Rattle.std.specs.List.{position}
use Rattle.silq_types.specs.Types.{same_name}
use Rattle.silq_mean.specs.Value.{gone}
use Rattle.silq_run.proofs.Places.{not_placed, placed}
use Rattle.silq_run.proofs.variables.Block.replace.Goals as goal

pub unreachable-requires : goal.unreachable-requires
unreachable-requires c =
    let e : position (λ v. same_name v.0 c.args.name) c.args.self.now ≡ None = cc in
    let f = not_placed c.args.self.now c.args.name e in cc

pub returns-clause-old : goal.returns-clause-old
returns-clause-old c =
    let i = c.in-Some.place in let v = c.index_mut-variable.result.now in
    let e : position (λ v. same_name v.0 c.args.name) c.args.self.now ≡ Some i = cc in
    let r = placed c.args.self.now c.args.name i v e in
    c.replace.ensures.value ∙ ap (λ z. z.1) c.index_mut-variable.ensures.value ∙ ap (λ z. (get_or z i v).1) c.self.view_is ∙ sym (r.shows gone)

pub returns-clause-new : goal.returns-clause-new
returns-clause-new c =
    let i = c.in-Some.place in let v = c.index_mut-variable.result.now in
    let e : position (λ v. same_name v.0 c.args.name) c.args.self.now ≡ Some i = cc in
    let r = placed c.args.self.now c.args.name i v e in
    ap (λ z. set z i (v.0, c.replace.new.dest)) c.self.view_is
    ∙ ap (λ z. set c.args.self.now i (z, c.replace.new.dest)) (ap (λ z. z.0) c.index_mut-variable.ensures.value ∙ ap (λ z. (get_or z i v).0) c.self.view_is)
    ∙ ap (λ z. set c.args.self.now i ((get_or c.args.self.now i v).0, z)) c.replace.ensures.after
    ∙ sym (r.with c.args.value)
