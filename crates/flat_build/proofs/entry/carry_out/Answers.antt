use Rattle.std.proofs.Common.{◌≡◌, IfErr, OnOk, sym, ap, ◌∙◌, subst}
use Rattle.check_scope.specs.Library.{function_at}
use Rattle.silq_mean.specs.Meaning.{params_of, give_held}
use Rattle.bit_arith.specs.Calls.{Refused}
use Rattle.flat_form.specs.State.{Flattening}
use Rattle.flat_form.specs.Flat.{flat}
use Rattle.flat_steps.proofs.Stays.{refused_first}
use Rattle.tree_walk.specs.Written.{give_names}
use Rattle.tree_walk.specs.Seen.{run_in}
use Rattle.flat_build.proofs.Carrying.{ready_first, ready_after, ready_as}
use Rattle.tree_walk.proofs.Faults.{if_err_from}
use Rattle.tree_walk.proofs.WrittenLists.{told_held}
use Rattle.flat_build.proofs.entry.carry_out.Goals as goal

pub run-requires-clause-ready : goal.run-requires-clause-ready
run-requires-clause-ready c =
    ready_first (run_in c.args.library.now c.args.body.now) (give_held (params_of (function_at c.args.library.now c.args.body.now.this) c.args.body.now.statics)) c.args.state.now c.requires.ready

pub returns-in_err-run-clause-refused : goal.returns-in_err-run-clause-refused
returns-in_err-run-clause-refused c =
    if_err_from _ _ _ c.from_residual-in_err-run.ensures.1
    (refused_first _ (run_in c.args.library.now c.args.body.now) (give_held (params_of (function_at c.args.library.now c.args.body.now.this) c.args.body.now.statics)) c.args.state.now c.in_err-run.ensures.refused)

pub give_held-requires : goal.give_held-requires
give_held-requires c =
    let ps = params_of (function_at c.args.library.now c.args.body.now.this) c.args.body.now.statics in
    ready_as (give_held ps) (give_names c.as_slice.result.now) _ (told_held ps c.as_slice.result.now (c.as_slice.ensures ∙ c.in_ok-held.ensures c.args.body.now.statics))
    (ready_after (run_in c.args.library.now c.args.body.now) (give_held ps) c.args.state.now _ c.in_ok-run.ensures.ok c.requires.ready)

pub returns-clause-ok : goal.returns-clause-ok
returns-clause-ok c =
    let ps = params_of (function_at c.args.library.now c.args.body.now.this) c.args.body.now.statics in
    subst (λ u. OnOk c.give_held.result (c.give_held.new.state ≡ u))
    (ap (λ u. flat (give_names c.as_slice.result.now) u) c.in_ok-run.ensures.ok
    ∙ sym (ap (λ e. flat e (flat (run_in c.args.library.now c.args.body.now) c.args.state.now)) (told_held ps c.as_slice.result.now (c.as_slice.ensures ∙ c.in_ok-held.ensures c.args.body.now.statics))))
    c.give_held.ensures.ok

pub returns-clause-refused : goal.returns-clause-refused
returns-clause-refused c =
    let ps = params_of (function_at c.args.library.now c.args.body.now.this) c.args.body.now.statics in
    subst (λ (u : Flattening). IfErr c.give_held.result (λ f. Refused f u.built))
    (ap (λ u. flat (give_names c.as_slice.result.now) u) c.in_ok-run.ensures.ok
    ∙ sym (ap (λ e. flat e (flat (run_in c.args.library.now c.args.body.now) c.args.state.now)) (told_held ps c.as_slice.result.now (c.as_slice.ensures ∙ c.in_ok-held.ensures c.args.body.now.statics))))
    c.give_held.ensures.refused
