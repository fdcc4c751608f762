-- The walk of a call of one of the program's own functions, and all that it tells.
use Rattle.std.proofs.Common.{◌≡◌, inr, ℕ, ◌+◌, Bool, true, false, not, ◌&&◌, List, [], length, map, ℤ, refl, sym, ap, ◌∙◌, subst}
use Rattle.std.specs.Prelude.{Some, Ok, ◌==◌, ⊤}
use Rattle.std.proofs.lemmas.Bool.{eqb-true}
use Rattle.std.proofs.lemmas.List.{length-map}
use Rattle.silq_tree.specs.declared.node.NameId.{NameId}
use Rattle.silq_tree.specs.declared.node.Spot.{Spot}
use Rattle.silq_tree.specs.Syntax.{Expressions}
use Rattle.silq_types.specs.declared.need.Need.{Need}
use Rattle.silq_types.specs.declared.need.Need.TheVariants as needs
use Rattle.silq_types.specs.declared.types.Ty.{Ty}
use Rattle.silq_types.specs.declared.signature.InstanceKey.{InstanceKey}
use Rattle.silq_types.specs.declared.signature.Signature.{Signature}
use Rattle.silq_types.specs.declared.values.Value.{Value}
use Rattle.silq_types.specs.declared.values.Var.{Var}
use Rattle.silq_types.specs.Types.{count}
use Rattle.silq_types.specs.Calls.{Found, find_fun, is_consumed, param_need}
use Rattle.silq_types.specs.Programs.{paired}
use Rattle.silq_mean.specs.Written.{Header, header_of}
use Rattle.check_scope.specs.Walk.{Walk}
use Rattle.check_scope.specs.Context.{Scope, Context, ◌>>=◌, ◌>>◌, give_back, signature}
use Rattle.check_scope.specs.Uses.{all_uses, argument_uses, some_pair, both_consume, consume_and_hold}
use Rattle.check_expr.specs.Expression.{asked_by, may_call, is_unmarked, is_run_time, is_qfree, all_lifted, lone_linear, exact_place, arguments, result_values, unnamed_rule, call_own}
use Rattle.check_expr.specs.Owners.{Gives, Ensures, Sole, handed_arguments}
use Rattle.check_expr.proofs.Owners.{gives-more, o_bind, o_then, o_back, o_rules, o_result, o_variables, o_signature, o_arguments}
use Rattle.silq_mean.specs.declared.receiver.Receiver.{Receiver}
use Rattle.silq_mean.specs.Effect.{Effect}
use Rattle.silq_mean.specs.Meaning as meanings
use Rattle.flat_form.specs.State.{Flattening}
use Rattle.flat_form.specs.Shows.{ListBoth}
use Rattle.flat_typed.specs.Places.{Places}
use Rattle.flat_typed.specs.Relation.{Outside, need_of}
use Rattle.flat_typed.specs.Scopes.{as_meaning, NoStatics}
use Rattle.flat_typed.specs.Done.{Begins}
use Rattle.flat_typed.specs.Calls.{ArgsTells}
use Rattle.flat_typed.specs.Lemmas.{Callable, ArgumentsAreFine, Untangled, uses_by}
use Rattle.flat_typed.proofs.Claims.{truly}
use Rattle.flat_typed.proofs.Scopes.{taken_param, header_parts}
use Rattle.flat_typed.proofs.Turns.{gives_both}
use Rattle.flat_typed.proofs.Reached.{gives_each}
use Rattle.flat_typed.proofs.CallArguments.{IsSuited}
use Rattle.flat_typed.proofs.CallFacts.{static_known, Typed, params_typed, typed_long, typed_needs, typed_asking, all_suited, Made, results_made}

-- ---- the arguments

-- what takes them over, as the header asks
abbrev pub takers_for : Header → List Receiver
takers_for h = map taken_param h.params

abbrev pub argument_effect : Scope → (Ty → Receiver) → Found → Header → Expressions → Effect
argument_effect sc taker g h args = meanings.exprs args (as_meaning taker sc) needs.Held (map (param_need g.fun) g.fun.params) (takers_for h)

pub record ArgumentWalk (sc : Scope) (taker : Ty → Receiver) (g : Found) (h : Header) (args : Expressions) (c : Context) (vs : List Value) (d : Context) : Type 0 where
  pub does : (out : Outside) (low : ℕ) (others : ℕ → ℕ) (W : Places) (under : List Value) (s : Flattening) → Begins out sc low others W under (uses_by args sc c (takers_for h)) c s →
      ArgsTells out sc (takers_for h) (argument_effect sc taker g h args) W under (uses_by args sc c (takers_for h)) c s vs d
  pub suited : ListBoth IsSuited h.params vs
  pub sole : (low : ℕ) (others : ℕ → ℕ) → Sole low others c → Sole low (λ p. others p + handed_arguments needs.Held (map asked_by h.params) p vs) d

module _ (sc : Scope) (taker : Ty → Receiver) (g : Found) (h : Header) (args : Expressions) (c : Context) (free : NoStatics sc c.vars) (fine : ArgumentsAreFine args) where
  module _ (typed : Typed g.fun g.fun.params h.params) (many : count args ≡ length g.fun.params) (apart : Untangled sc c args (takers_for h)) where
    walked_arguments : Gives (Callable sc) (λ r. ArgumentWalk sc taker g h args c r.0 r.1) (arguments args sc needs.Held (map asked_by h.params) c)
    walked_arguments =
        gives-more (Callable sc) 0 (λ r. Does r.0 r.1 × ((⊤ × ListBoth IsSuited h.params r.0) × ((b : Given) → Sole b.0 (λ p. b.1 p + handed_arguments needs.Held (map asked_by h.params) p r.0) r.1)))
        (λ r. ArgumentWalk sc taker g h args c r.0 r.1) walk
        (gives_both (Callable sc) (λ r. Does r.0 r.1) (λ r. (⊤ × ListBoth IsSuited h.params r.0) × ((b : Given) → Sole b.0 (λ p. b.1 p + handed_arguments needs.Held (map asked_by h.params) p r.0) r.1)) walk
        (fine sc taker needs.Held (map asked_by h.params) (map (param_need g.fun) g.fun.params) (takers_for h) c free counted (typed_asking g.fun g.fun.params h.params typed) apart)
        (gives_both (Callable sc) (λ r. ⊤ × ListBoth IsSuited h.params r.0) (λ r. (b : Given) → Sole b.0 (λ p. b.1 p + handed_arguments needs.Held (map asked_by h.params) p r.0) r.1) walk
        ((all_suited (Callable sc) ⊤ args sc needs.Held h.params (many ∙ typed_long g.fun g.fun.params h.params typed)).runs c tt)
        (gives_each (Callable sc) (λ b r. Sole b.0 (λ p. b.1 p + handed_arguments needs.Held (map asked_by h.params) p r.0) r.1) walk (λ b. (o_arguments (Callable sc) b.0 args b.1 sc (λ k s q. q.1) needs.Held (map asked_by h.params)).runs c b.2))))
        (λ r q. record { does = q.0; suited = q.1.0.1; sole = λ low others s. q.1.1 (low, others, s) })
      where
        walk : Walk (List Value × Context)
        walk = arguments args sc needs.Held (map asked_by h.params) c

        Given : Type 0
        Given = (low : ℕ) × (others : ℕ → ℕ) × Sole low others c

        counted : count args ≡ length (takers_for h)
        counted = many ∙ (typed_long g.fun g.fun.params h.params typed ∙ sym (length-map h.params taken_param))

        Does : List Value → Context → Type 0
        Does vs d =
            (out : Outside) (low : ℕ) (others : ℕ → ℕ) (W : Places) (under : List Value) (s : Flattening) → Begins out sc low others W under (uses_by args sc c (takers_for h)) c s →
            ArgsTells out sc (takers_for h) (argument_effect sc taker g h args) W under (uses_by args sc c (takers_for h)) c s vs d

-- ---- the call

pub record CallWalk (sc : Scope) (taker : Ty → Receiver) (g : Found) (ss args : Expressions) (need : Need) (c : Context) (xs : List Value) (e : Context) : Type 0 where
  pub allowed : may_call sc.this.mark g.fun.mark ≡ true
  pub open_air : is_unmarked g.fun.mark && is_run_time sc ≡ false
  pub statics : List ℤ
  pub known : meanings.static_values ss sc.statics ≡ statics
  pub unused : all_uses ss sc c.vars [] ≡ []
  pub header : Header
  pub headed : header_of (paired g.fun.statics statics) exact_place g.fun ≡ Ok header
  pub typed : Typed g.fun g.fun.params header.params
  pub values : List Value
  pub middle : Context
  pub arguments : ArgumentWalk sc taker g header args c values middle
  pub signature : Signature
  pub calls : Callable sc (record { fun = record { number = g.number }; statics = statics }) signature
  pub made : Made (is_qfree g.fun.mark && all_lifted header.params values) header.params values middle signature.results xs e
  pub named : not (is_consumed need) && lone_linear xs ≡ false

-- the facts that stand before the arguments are walked
record Before (sc : Scope) (g : Found) (ss args : Expressions) (c : Context) (zs : List ℤ) (h : Header) : Type 0 where
  pub allowed : may_call sc.this.mark g.fun.mark ≡ true
  pub open_air : is_unmarked g.fun.mark && is_run_time sc ≡ false
  pub known : meanings.static_values ss sc.statics ≡ zs
  pub unused : all_uses ss sc c.vars [] ≡ []
  pub headed : header_of (paired g.fun.statics zs) exact_place g.fun ≡ Ok h
  pub many : count args ≡ length g.fun.params
  pub twice : some_pair both_consume (argument_uses args sc c.vars (map (param_need g.fun) g.fun.params)) ≡ false
  pub clash : some_pair consume_and_hold (argument_uses args sc c.vars (map (param_need g.fun) g.fun.params)) ≡ false

module _ (sc : Scope) (taker : Ty → Receiver) (f : NameId) (g : Found) (there : find_fun sc.before f ≡ Some g) (ss args : Expressions) (s : Spot) (need : Need) (c : Context) (free : NoStatics sc c.vars) (fine : ArgumentsAreFine args) where
  module _ (zs : List ℤ) (h : Header) (b : Before sc g ss args c zs h) where
    abbrev key : InstanceKey
    key = record { fun = record { number = g.number }; statics = zs }

    typed : Typed g.fun g.fun.params h.params
    typed = params_typed g.fun (paired g.fun.statics zs) g.fun.params h.params (header_parts (paired g.fun.statics zs) g.fun h b.headed).params

    needs_so : map (param_need g.fun) g.fun.params ≡ map need_of (takers_for h)
    needs_so = sym (typed_needs g.fun g.fun.params h.params typed)

    apart : Untangled sc c args (takers_for h)
    apart = inr (ap (λ l. some_pair both_consume (argument_uses args sc c.vars l)) (sym needs_so) ∙ b.twice, ap (λ l. some_pair consume_and_hold (argument_uses args sc c.vars l)) (sym needs_so) ∙ b.clash)

    args_here : Ensures (Callable sc) (λ d. d ≡ c) (arguments args sc needs.Held (map asked_by h.params)) (λ vs m. ArgumentWalk sc taker g h args c vs m)
    args_here = record {
      runs = λ d q.
          subst (λ y. Gives (Callable sc) (λ r. ArgumentWalk sc taker g h args c r.0 r.1) (arguments args sc needs.Held (map asked_by h.params) y)) (sym q) (walked_arguments sc taker g h args c free fine typed b.many apart);
    }

    lifts : List Value → Bool
    lifts vs = is_qfree g.fun.mark && all_lifted h.params vs

    abbrev Behind : List Value → Signature → List Value → Context → Type 0
    Behind vs sig xs e = (m : Context) × ArgumentWalk sc taker g h args c vs m × Callable sc key sig × Made (is_qfree g.fun.mark && all_lifted h.params vs) h.params vs m sig.results xs e

    results_here : (vs : List Value) (sig : Signature) → Ensures (Callable sc) (λ m. Callable sc key sig × ArgumentWalk sc taker g h args c vs m) (result_values (is_qfree g.fun.mark && all_lifted h.params vs) vs sig.results) (λ xs e. Behind vs sig xs e)
    results_here vs sig = record {
      runs = λ m q.
          gives-more (Callable sc) 0 (λ r. Made (is_qfree g.fun.mark && all_lifted h.params vs) h.params vs m sig.results r.0 r.1) (λ r. Behind vs sig r.0 r.1) (result_values (is_qfree g.fun.mark && all_lifted h.params vs) vs sig.results m)
          (results_made (Callable sc) (is_qfree g.fun.mark && all_lifted h.params vs) h.params vs m sig.results (q.0.1 f g h there refl b.headed))
          (λ r x. (m, q.1, q.0, x));
    }

    rest : Ensures (Callable sc) (λ d. d ≡ c)
        (arguments args sc needs.Held (map asked_by h.params) >>= (λ vs. signature key >>= (λ sig. result_values (is_qfree g.fun.mark && all_lifted h.params vs) vs sig.results >>= (λ xs. unnamed_rule s need (lone_linear xs) >> give_back xs))))
        (λ xs e. CallWalk sc taker g ss args need c xs e)
    rest =
        o_bind (Callable sc) 0 args_here (λ vs.
        o_bind (Callable sc) 0 (o_signature (Callable sc) 0 key) (λ sig.
        o_bind (Callable sc) 0 (results_here vs sig) (λ xs.
        o_then (Callable sc) 0 (o_rules (Callable sc) 0 s _) (λ u.
        o_back (Callable sc) 0 xs (λ e q. record {
          allowed = b.allowed;
          open_air = b.open_air;
          statics = zs;
          known = b.known;
          unused = b.unused;
          header = h;
          headed = b.headed;
          typed = typed;
          values = vs;
          middle = q.1.0;
          arguments = q.1.1;
          signature = sig;
          calls = q.1.2;
          made = q.1.3;
          named = q.0.0;
        })))))

  pub call_walk : Ensures (Callable sc) (λ d. d ≡ c) (call_own sc g ss args s need (λ asked. arguments args sc needs.Held asked)) (λ xs e. CallWalk sc taker g ss args need c xs e)
  call_walk =
      o_then (Callable sc) 0 (o_rules (Callable sc) 0 s _) (λ u.
      o_bind (Callable sc) 0 (static_known (Callable sc) sc c.vars free ss) (λ zs.
      o_bind (Callable sc) 0 (o_result (Callable sc) 0 (header_of (paired g.fun.statics zs) exact_place g.fun)) (λ h.
      o_bind (Callable sc) 0 (o_variables (Callable sc) 0) (λ vars.
      o_then (Callable sc) 0 (o_rules (Callable sc) 0 s _) (λ u'.
      record { runs = λ d r. (rest zs h (before zs h vars d r.1.0 r.1.1.1.1.1 r.0 r.1.1.0 r.1.1.1.0 r.1.1.1.1.0)).runs d r.1.1.1.1.1 })))))
    where
      before : (zs : List ℤ) (h : Header) (vars : List Var) (d : Context) → vars ≡ d.vars → d ≡ c
          → (not (count args == length g.fun.params) ≡ false) × ((some_pair both_consume (argument_uses args sc vars (map (param_need g.fun) g.fun.params)) ≡ false) × ((some_pair consume_and_hold (argument_uses args sc vars (map (param_need g.fun) g.fun.params)) ≡ false) × ⊤))
          → header_of (paired g.fun.statics zs) exact_place g.fun ≡ Ok h → (meanings.static_values ss sc.statics ≡ zs) × (all_uses ss sc c.vars [] ≡ [])
          → (not (may_call sc.this.mark g.fun.mark) ≡ false) × ((is_unmarked g.fun.mark && is_run_time sc ≡ false) × ((not (count ss == length g.fun.statics) ≡ false) × ⊤)) → Before sc g ss args c zs h
      before zs h vars d v e rs q k ms = record {
        allowed = truly (may_call sc.this.mark g.fun.mark) ms.0;
        open_air = ms.1.0;
        known = k.0;
        unused = k.1;
        headed = q;
        many = eqb-true (count args) (length g.fun.params) (truly (count args == length g.fun.params) rs.0);
        twice = ap (λ l. some_pair both_consume (argument_uses args sc l (map (param_need g.fun) g.fun.params))) (sym (v ∙ ap (λ (x : Context). x.vars) e)) ∙ rs.1.0;
        clash = ap (λ l. some_pair consume_and_hold (argument_uses args sc l (map (param_need g.fun) g.fun.params))) (sym (v ∙ ap (λ (x : Context). x.vars) e)) ∙ rs.1.1.0;
      }
