-- A call of one of the program's own functions is fine where its arguments are.
use Rattle.std.proofs.Common.{◌≡◌, ℕ, List, ◌++◌, map, ℤ, refl, sym, ap, ap₂, ◌∙◌, subst}
use Rattle.std.specs.Prelude.{Option, Some, None}
use Rattle.silq_tree.specs.declared.node.NameId.{NameId}
use Rattle.silq_tree.specs.declared.node.Spot.{Spot}
use Rattle.silq_tree.specs.Syntax.{Expressions, called}
use Rattle.silq_types.specs.declared.built_in.BuiltIn.{BuiltIn}
use Rattle.silq_types.specs.declared.need.Need.{Need}
use Rattle.silq_types.specs.declared.need.Need.TheVariants as needs
use Rattle.silq_types.specs.declared.types.Ty.{Ty}
use Rattle.silq_types.specs.declared.values.Value.{Value}
use Rattle.silq_types.specs.Calls.{Found, built_in, find_fun, needs_of_found, param_need}
use Rattle.silq_types.specs.Programs.{paired}
use Rattle.check_scope.specs.declared.uses.Use.{Use}
use Rattle.check_scope.specs.Context.{Scope, Context, Check}
use Rattle.check_scope.specs.Uses.{uses, all_uses}
use Rattle.check_expr.specs.Expression.{expr, arguments, later_arguments, call_found}
use Rattle.check_expr.specs.Owners.{Gives}
use Rattle.check_expr.proofs.Owners.{gives-more}
use Rattle.silq_mean.specs.declared.receiver.Receiver.{Receiver}
use Rattle.silq_mean.specs.declared.receiver.Receiver.TheVariants.{CallResult}
use Rattle.silq_mean.specs.Effect.{Effect, ◌>>◌, step, enter_body, leave_body}
use Rattle.silq_mean.specs.Meaning as meanings
use Rattle.flat_form.specs.State.{Flattening}
use Rattle.flat_typed.specs.Places.{Places}
use Rattle.flat_typed.specs.Relation.{Outside}
use Rattle.flat_typed.specs.Scopes.{as_meaning, scope_for, NoStatics}
use Rattle.flat_typed.specs.Done.{Begins, ExprTells}
use Rattle.flat_typed.specs.Laws.{Stood}
use Rattle.flat_typed.specs.Lemmas.{Callable, ArgumentsAreFine, ExprFine, uses_by}
use Rattle.flat_typed.proofs.Scopes.{params_are, header_parts, body_scope, found_stands}
use Rattle.flat_typed.proofs.CallFacts.{typed_long, typed_needs}
use Rattle.flat_typed.proofs.CallWalk.{CallWalk, call_walk, takers_for, argument_effect}
use Rattle.flat_typed.proofs.CallDone.{call_tells}

module _ (f : NameId) (ss args : Expressions) (s : Spot) (sc : Scope) (taker : Ty → Receiver) (need : Need) (wants : List Ty) (c : Context) (none : built_in sc.words f ≡ None) (g : Found) (there : find_fun sc.before f ≡ Some g) (xs : List Value) (e : Context) (w : CallWalk sc taker g ss args need c xs e) where
  stood : Stood sc.words sc.before f w.statics g
  stood = found_stands sc.words sc.before f w.statics g there

  abbrev body_effect : Effect
  body_effect = meanings.body_of g.fun.body (as_meaning CallResult (scope_for sc.words stood.before g.fun w.statics w.header))

  abbrev whole_effect : Effect
  whole_effect = argument_effect sc taker g w.header args >> ((step (enter_body (meanings.names_of (meanings.params_of g.fun (paired g.fun.statics w.statics)))) >> body_effect) >> step leave_body)

  -- the effect of the call, with what is found
  abbrev effect_of : Option BuiltIn → Option Found → List ℤ → Effect
  effect_of b o zs = meanings.exprs args (as_meaning taker sc) needs.Held (needs_of_found b o) (meanings.parameters_of b o zs) >> meanings.called (as_meaning taker sc) b f ss

  its_call : meanings.functions sc.words sc.before f (meanings.static_values ss sc.statics) ≡ ((step (enter_body (meanings.names_of (meanings.params_of g.fun (paired g.fun.statics w.statics)))) >> body_effect) >> step leave_body)
  its_call =
      ap (meanings.functions sc.words sc.before f) w.known
      ∙ (stood.does
      ∙ ap (λ k. (step (enter_body (meanings.names_of (meanings.params_of g.fun (paired g.fun.statics w.statics)))) >> meanings.body_of g.fun.body k) >> step leave_body) (body_scope sc.words stood.before CallResult g.fun w.statics w.header w.headed))

  effect_is : meanings.expr (called f ss args s) (as_meaning taker sc) need ≡ whole_effect
  effect_is =
      ap₂ (λ b o. effect_of b o (meanings.static_values ss sc.statics)) none there
      ∙ (ap (λ zs. effect_of None (Some g) zs) w.known
      ∙ ap₂ (λ ts k. meanings.exprs args (as_meaning taker sc) needs.Held (map (param_need g.fun) g.fun.params) ts >> k)
      (params_are g.fun (paired g.fun.statics w.statics) g.fun.params w.header.params (header_parts (paired g.fun.statics w.statics) g.fun w.header w.headed).params) its_call)

  uses_are : uses (called f ss args s) sc c.vars need ≡ uses_by args sc c (takers_for w.header)
  uses_are =
      ap₂ (λ us b. us ++ all_uses args sc c.vars (needs_of_found b (find_fun sc.before f))) w.unused none
      ∙ (ap (λ o. all_uses args sc c.vars (needs_of_found None o)) there
      ∙ ap (all_uses args sc c.vars) (sym (typed_needs g.fun g.fun.params w.header.params w.typed)))

  pub call_as_walked : (out : Outside) (low : ℕ) (others : ℕ → ℕ) (W : Places) (under : List Value) (st : Flattening) → Begins out sc low others W under (uses (called f ss args s) sc c.vars need) c st
      → ExprTells out sc need wants (meanings.expr (called f ss args s) (as_meaning taker sc) need) W under (uses (called f ss args s) sc c.vars need) c st xs e
  call_as_walked out low others W under st b =
      subst (λ us. ExprTells out sc need wants (meanings.expr (called f ss args s) (as_meaning taker sc) need) W under us c st xs e) (sym uses_are)
      (subst (λ x. ExprTells out sc need wants x W under us c st xs e) (sym effect_is)
      (call_tells out sc low others W under us c st begins (argument_effect sc taker g w.header args) w.header w.values w.middle (w.arguments.does out low others W under st begins) w.arguments.suited sc.words stood.before g.fun w.statics
      w.signature.results (typed_long g.fun g.fun.params w.header.params w.typed) (w.calls.0 g.fun stood.before w.header stood.apart w.headed).1.1 w.allowed w.open_air (w.calls.0 g.fun stood.before w.header stood.apart w.headed).0 need wants xs e w.made (w.calls.1 f g w.header there refl w.headed) w.arguments.sole w.named))
    where
      us : List Use
      us = uses_by args sc c (takers_for w.header)

      begins : Begins out sc low others W under us c st
      begins = subst (λ us. Begins out sc low others W under us c st) uses_are b

-- ---- the law

pub own_call_is_fine : (f : NameId) (ss args : Expressions) (s : Spot) → ArgumentsAreFine args → (sc : Scope) (taker : Ty → Receiver) (need : Need) (wants : List Ty) (c : Context) → NoStatics sc c.vars → built_in sc.words f ≡ None
    → ExprFine sc need wants c (expr (called f ss args s) sc need wants) (meanings.expr (called f ss args s) (as_meaning taker sc) need) (uses (called f ss args s) sc c.vars need)
own_call_is_fine f ss args s fine sc taker need wants c free none =
    subst (λ b. Gives (Callable sc) (λ r. Tells r.0 r.1) (call_found sc b (find_fun sc.before f) ss args s need walk (later_arguments args sc) c)) (sym none) (go (find_fun sc.before f) refl)
  where
    walk : List Rattle.check_expr.specs.Expression.Asked → Check (List Value)
    walk l = arguments args sc needs.Held l

    Tells : List Value → Context → Type 0
    Tells xs e =
        (out : Outside) (low : ℕ) (others : ℕ → ℕ) (W : Places) (under : List Value) (st : Flattening) → Begins out sc low others W under (uses (called f ss args s) sc c.vars need) c st →
        ExprTells out sc need wants (meanings.expr (called f ss args s) (as_meaning taker sc) need) W under (uses (called f ss args s) sc c.vars need) c st xs e

    go : (o : Option Found) → find_fun sc.before f ≡ o → Gives (Callable sc) (λ r. Tells r.0 r.1) (call_found sc None o ss args s need walk (later_arguments args sc) c)
    go None q = tt
    go (Some g) q =
        gives-more (Callable sc) 0 (λ r. CallWalk sc taker g ss args need c r.0 r.1) (λ r. Tells r.0 r.1) (call_found sc None (Some g) ss args s need walk (later_arguments args sc) c)
        ((call_walk sc taker f g q ss args s need c free fine).runs c refl)
        (λ r w. call_as_walked f ss args s sc taker need wants c none g q r.0 r.1 w)
