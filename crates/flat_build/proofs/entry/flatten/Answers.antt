use Rattle.std.proofs.Common.{sym, ◌∙◌, subst}
use Rattle.flat_core.specs.Drafts.{FitsEnds}
use Rattle.tree_walk.proofs.Faults.{if_err_from}
use Rattle.flat_build.proofs.Entries.{begin_refused, entry_ready, entry_refused, end_wires, form_is, form_within}
use Rattle.tree_walk.proofs.Entries.{body_there}
use Rattle.flat_build.proofs.entry.flatten.Goals as goal

pub shapes-requires : goal.shapes-requires
shapes-requires c = c.requires.fun

pub returns-in_err-state-clause-refused : goal.returns-in_err-state-clause-refused
returns-in_err-state-clause-refused c = if_err_from _ _ _ c.from_residual-in_err-state.ensures.1 (begin_refused c.args.library.now c.args.fun c.args.statics.now c.requires.fun c.in_ok-body.body c.in_ok-body.ensures c.as_slice.result.now (c.as_slice.ensures ∙ c.in_ok-sizes.ensures) _ c.in_err-state.ensures.refused)

pub carry_out-requires-clause-this : goal.carry_out-requires-clause-this
carry_out-requires-clause-this c = body_there c.args.library.now c.args.fun c.args.statics.now c.requires.fun c.in_ok-body.body c.in_ok-body.ensures

pub carry_out-requires-clause-ready : goal.carry_out-requires-clause-ready
carry_out-requires-clause-ready c = entry_ready c.args.library.now c.args.fun c.args.statics.now c.requires.fun c.in_ok-body.body c.in_ok-body.ensures c.as_slice.result.now (c.as_slice.ensures ∙ c.in_ok-sizes.ensures) c.in_ok-state.state c.in_ok-state.ensures.ok c.requires.fine

pub returns-in_err-carry_out-clause-refused : goal.returns-in_err-carry_out-clause-refused
returns-in_err-carry_out-clause-refused c = if_err_from _ _ _ c.from_residual-in_err-carry_out.ensures.1 (entry_refused c.args.library.now c.args.fun c.args.statics.now c.requires.fun c.in_ok-body.body c.in_ok-body.ensures c.as_slice.result.now (c.as_slice.ensures ∙ c.in_ok-sizes.ensures) c.in_ok-state.state c.in_ok-state.ensures.ok _ c.in_err-carry_out.ensures.refused)

pub finish-requires-clause-wires : goal.finish-requires-clause-wires
finish-requires-clause-wires c = end_wires c.args.library.now c.args.fun c.args.statics.now c.requires.fun c.in_ok-body.body c.in_ok-body.ensures c.as_slice.result.now (c.as_slice.ensures ∙ c.in_ok-sizes.ensures) c.in_ok-state.state c.in_ok-state.ensures.ok c.carry_out.new.state c.in_ok-carry_out.ensures.ok c.requires.fine

pub finish-requires-clause-ends : goal.finish-requires-clause-ends
finish-requires-clause-ends c = subst FitsEnds (sym (form_is c.args.library.now c.args.fun c.args.statics.now c.requires.fun c.in_ok-body.body c.in_ok-body.ensures c.as_slice.result.now (c.as_slice.ensures ∙ c.in_ok-sizes.ensures) c.in_ok-state.state c.in_ok-state.ensures.ok c.carry_out.new.state c.in_ok-carry_out.ensures.ok c.in_ok-ins.ins c.in_ok-ins.ensures)) c.requires.ends

pub returns-clause-ok : goal.returns-clause-ok
returns-clause-ok c = c.in_ok-form.ensures.form ∙ form_is c.args.library.now c.args.fun c.args.statics.now c.requires.fun c.in_ok-body.body c.in_ok-body.ensures c.as_slice.result.now (c.as_slice.ensures ∙ c.in_ok-sizes.ensures) c.in_ok-state.state c.in_ok-state.ensures.ok c.carry_out.new.state c.in_ok-carry_out.ensures.ok c.in_ok-ins.ins c.in_ok-ins.ensures

pub returns-clause-within : goal.returns-clause-within
returns-clause-within c = form_within c.args.library.now c.args.fun c.args.statics.now c.requires.fun c.in_ok-body.body c.in_ok-body.ensures c.as_slice.result.now (c.as_slice.ensures ∙ c.in_ok-sizes.ensures) c.in_ok-state.state c.in_ok-state.ensures.ok c.carry_out.new.state c.in_ok-carry_out.ensures.ok c.in_ok-form.ensures.within
