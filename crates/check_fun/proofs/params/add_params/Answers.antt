use Rattle.std.proofs.Common.{◌≡◌, [], ◌∷◌, ◌+◌, None, false, length, map, drop, ◌++◌, sym, ap, ◌∙◌, arith}
use Rattle.std.proofs.lemmas.List.{length_push}
use Rattle.std.proofs.lemmas.Slice.Zip.{zip_turn, zip_end}
use Rattle.silq_tree.specs.Arena.{expr_at}
use Rattle.silq_tree.specs.Standing.{param_of}
use Rattle.silq_types.specs.declared.values.Origin.{Origin}
use Rattle.silq_types.specs.declared.values.Var.{Var}
use Rattle.check_fun.specs.Program.{param_vars}
use Rattle.check_scope.specs.State.{State}
use Rattle.check_fun.proofs.Instances.{fresh_state, param_added}
use Rattle.check_fun.proofs.Zipped.{drop_one, done_one, done_all, params_one, params_end}
use Rattle.check_fun.proofs.params.add_params.Goals as goal

pub loop-name-preserved : goal.loop-name-preserved
loop-name-preserved c =
    let t = zip_turn c.args.names.now c.args.params.now c.loop-name.yielded c.into_iter-name-iterator.result _ c.next.new.self _ (cc) (cc) c.loop-name.yielded_by (c.in-Some.name, c.in-Some.param) c.in-Some.is c.next.ensures.steps in
    let n = length c.loop-name.yielded in
    let fresh = fresh_state [] c.loop-name.cx c.fresh.new.self c.in-Ok.place (c.in-Ok.ensures.reads []) in
    let place : c.in-Ok.place ≡ n = fresh.0 ∙ ap (λ (x : State). x.next) c.loop-name.invariant.0 in
    let f = param_of (expr_at c.args.library.now.nodes) in
    let rest = param_vars (n + 1) (map f (drop (n + 1) c.args.names.now)) (drop (n + 1) c.args.params.now) in
    let v : Var = record { part = record { name = c.in-Some.name.now.name; first = None; second = None }; ty = c.in-Some.param.now.ty; origin = c.param_origin.result; place = c.in-Ok.place; consumed = false } in
    let one = params_one f c.args.names.now c.args.params.now n c.in-Some.name.now c.in-Some.param.now
    (drop_one c.args.names.now n c.in-Some.name.now t.0 t.2) (drop_one c.args.params.now n c.in-Some.param.now t.1 t.3) in
    rw (length_push c.loop-name.yielded (c.in-Some.name, c.in-Some.param)) (
      param_added c.args.cx.now c.loop-name.cx c.fresh.new.self c.add.new.self n v c.loop-name.invariant.0 fresh.1 c.in_ok-add.ensures.ok,
      ap (λ (x : State). x.vars ++ rest) c.in_ok-add.ensures.ok
          ∙ ap (λ l. (l ++ v ∷ []) ++ rest) fresh.3
          ∙ done_one c.loop-name.cx.vars v rest _ _ c.loop-name.invariant.1
          (one
          ∙ ap (λ (o : Origin). (record v { origin = o; place = n }) ∷ rest) (sym c.param_origin.ensures)
          ∙ ap (λ k. (record v { place = k }) ∷ rest) (sym place)),
    )

pub returns : goal.returns
returns c =
    let e = zip_end c.args.names.now c.args.params.now c.loop-name.yielded c.into_iter-name-iterator.result _ c.next.new.self _ (cc) (cc) c.loop-name.yielded_by c.in-None.is c.next.ensures.steps in
    let f = param_of (expr_at c.args.library.now.nodes) in
    let vars = done_all c.loop-name.cx.vars _ _ c.loop-name.invariant.1 (params_end f c.args.names.now c.args.params.now (length c.loop-name.yielded) e) in
    let all : length c.loop-name.yielded ≡ length c.args.params.now = omega (arith, e, c.requires.both) in
    c.loop-name.invariant.0
    ∙ ap (λ l. record c.args.cx.now { vars = l; start = c.loop-name.cx.start; next = length c.loop-name.yielded }) vars
    ∙ ap (λ k. record c.args.cx.now { vars = param_vars 0 (map f c.args.names.now) c.args.params.now; start = c.loop-name.cx.start; next = k }) all
