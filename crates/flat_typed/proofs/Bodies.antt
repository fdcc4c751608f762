-- Bodies: their statements one after another, then what is returned, and nothing Linear is left.
use Rattle.std.proofs.Common.{◌≡◌, ℕ, Bool, true, false, not, List, [], ◌∷◌, length, map, refl, sym, ap, ◌∙◌, subst, arith}
use Rattle.std.specs.Prelude.{⊤, Option, Some, None, ◌==◌, ℤ}
use Rattle.std.proofs.lemmas.Bool.{eqb-true, eq-eqb}
use Rattle.silq_tree.specs.declared.node.NameId.{NameId}
use Rattle.silq_tree.specs.declared.node.Spot.{Spot}
use Rattle.silq_tree.specs.Syntax.{Expressions, none, Function, Statements, Block, block}
use Rattle.silq_types.specs.declared.types.Ty.{Ty}
use Rattle.silq_types.specs.declared.need.Need.TheVariants as needs
use Rattle.silq_types.specs.declared.built_in.BuiltIn.{BuiltIn}
use Rattle.silq_types.specs.declared.values.Value.{Value}
use Rattle.silq_types.specs.Types.{count}
use Rattle.silq_mean.specs.Written.{Header}
use Rattle.check_scope.specs.Walk.{answer}
use Rattle.check_scope.specs.Context.{Scope, Context, Check, ◌>>=◌, ◌>>◌}
use Rattle.check_expr.specs.Expression.{asked_of_items, arguments}
use Rattle.check_expr.specs.Owners.{Gives, Ensures}
use Rattle.check_expr.proofs.Owners.{gives-bind, gives-more, o_then, o_back, o_rules}
use Rattle.check_fun.specs.Statement.{is_live_linear, returned, ended_with, body, stmts, end_from, results_or_fault, whole_body}
use Rattle.check_fun.specs.Program.{returned_as, instance_walk}
use Rattle.silq_mean.specs.declared.receiver.Receiver.{Receiver}
use Rattle.silq_mean.specs.Effect.{Effect, nothing, statement, ◌>>◌ as ◌▸◌}
use Rattle.silq_mean.specs.Meaning as meanings
use Rattle.bit_arith.specs.Built.{Setting}
use Rattle.flat_form.specs.State.{Flattening}
use Rattle.flat_form.specs.Flat.{flat, on_line, count_statement}
use Rattle.flat_form.specs.Fine.{Fine}
use Rattle.flat_form.specs.Names.{AllOf}
use Rattle.flat_typed.specs.Places.{Places}
use Rattle.flat_typed.specs.Relation.{Outside}
use Rattle.flat_typed.specs.Done.{StmtBegins, StmtDone}
use Rattle.flat_typed.specs.Calls.{ArgsDone, first_context, BodyDone, BodyFine}
use Rattle.flat_typed.specs.Scopes.{as_meaning, scope_for, NoStatics}
use Rattle.flat_typed.specs.Lemmas.{Callable, StmtFine, ArgumentsAreFine, uses_by}
use Rattle.flat_typed.specs.Stay.{Stayed}
use Rattle.flat_typed.specs.Settled.{Settles}
use Rattle.flat_typed.specs.Endings.{Last, none_last, nothing_last, value_last, front, last_of, last_walk, last_effect, returned_items, last_items, statements_of}
use Rattle.flat_typed.specs.Bodies.{TakesResults, HasFineParts, ShowsConsts, ConstsStay, BodyIsFine}
use Rattle.flat_typed.proofs.Ordered.{clash}
use Rattle.flat_typed.proofs.Blocks.{ClosedFrom, closed_from}
use Rattle.flat_typed.proofs.Leaving.{k_any}
use Rattle.flat_typed.proofs.Turns.{Does, gives_both, begins_next, begins_on_line}
use Rattle.flat_typed.proofs.Assignments.{arguments_long}
use Rattle.flat_typed.proofs.LastWalks.{SplitsAt, body_splits, effect_splits, items_are, returned_as_items}
use Rattle.flat_typed.proofs.LastTold.{LastTold, last_told}
use Rattle.flat_typed.proofs.BodyEnds.{body_done, consts_stay}
use Rattle.flat_typed.proofs.BodyStarts.{params_placed, params_live, held_of, starts_settled}

-- ---- one body

module _ (words : List (NameId × BuiltIn)) (before : List Function) (taker : Ty → Receiver) (takes : TakesResults taker) (f : Function) (statics : List ℤ) (h : Header) where
  abbrev sc : Scope
  sc = scope_for words before f statics h

  abbrev m : meanings.Scope
  m = as_meaning taker sc

  abbrev start : Context
  start = first_context f h

  -- what the statements of a body are to do, where it returns these values
  abbrev EndsAs : Statements → List Value → Type 0
  EndsAs ss vs = (out : Outside) (W : Places) (s : Flattening) → StmtBegins out sc (length h.params) (λ p. 0) W start s
      → BodyDone out f h (meanings.stmts ss m) W s (returned_as h.params h.results vs) × ShowsConsts f h W (flat (meanings.stmts ss m) s)

  module _ (ss : Statements) where
    abbrev e1 : Effect
    e1 = meanings.stmts (front ss) m

    -- behind the statements but the last
    abbrev Front : Context → Type 0
    Front c = Does sc start e1 c × Settles sc start c

    module _ (c1 : Context) (reached : Front c1) (es : Expressions) (vs : List Value) (d : Context) (told : LastTold sc taker es c1 vs d) (closed : AllOf (λ v. is_live_linear v ≡ false) d.vars) where
      abbrev E : Effect
      E = meanings.exprs es m needs.Consumed [] (map taker h.results)

      with_line : (l : ℕ) (i : Effect) → last_effect (last_of ss) m ≡ (statement l i ▸ nothing) → ((s : Flattening) → flat i s ≡ flat E s) → ((s : Flattening) → Fine E s → Fine i s) → EndsAs ss vs
      with_line l i is same finely out W s b0 = (
        body_done words before taker takes f statics h es out W s b0 e1 c1 F G (length h.params) s2 b2 refl refl vs d told closed (meanings.stmts ss m) u
            (splits.fine F.fine (subst (λ e. Fine e s1) (sym is) (finely s2 done.fine, tt)))
            becomes
            refl refl (ap (λ (t : Setting). record t { line = s1.setting.line }) done.leaves.setting ∙ F.leaves.setting) refl,
        consts_stay words before taker takes f statics h es out W s b0 e1 c1 F G (length h.params) s2 b2 refl refl vs d told closed (meanings.stmts ss m) u becomes refl
            (held_of start.vars c1.vars reached.1.there) (params_placed (length h.params) 0 f.params h.params (omega arith)) (params_live 0 f.params h.params),
      )
        where
          F : StmtDone out sc e1 W start s c1
          F = reached.0 out (length h.params) W s b0

          G : Stayed start c1
          G = record { sole = record { grown = reached.1.grown; one = reached.1.settled.sole.one; ahead = reached.1.settled.sole.ahead }; owners = reached.1.owners }

          s1 : Flattening
          s1 = flat e1 s

          s2 : Flattening
          s2 = on_line l (count_statement s1)

          b2 : StmtBegins out sc (length h.params) (λ p. 0) F.after c1 s2
          b2 = begins_on_line out sc F.after c1 s1 l (length h.params) (λ p. 0) (begins_next out sc (length h.params) W start c1 s e1 b0 F G)

          u : Flattening
          u = on_line s1.setting.line (flat E s2)

          splits : SplitsAt m ss s
          splits = effect_splits m ss s

          becomes : flat (meanings.stmts ss m) s ≡ u
          becomes = splits.becomes ∙ (ap (λ e. flat e s1) is ∙ ap (on_line s1.setting.line) (same s2))

          done : ArgsDone out sc (map taker h.results) E F.after [] (uses_by es sc c1 (map taker h.results)) c1 s2 vs d
          done = (told.does out (length h.params) F.after s2 b2).done

      -- where the body ends without a return
      without : last_effect (last_of ss) m ≡ nothing → E ≡ nothing → EndsAs ss vs
      without is bare out W s b0 = (
        body_done words before taker takes f statics h es out W s b0 e1 c1 F G (length h.params) s1 b1 refl refl vs d told closed (meanings.stmts ss m) (flat E s1)
            (splits.fine F.fine (subst (λ e. Fine e s1) (sym is) tt))
            becomes
            refl refl ((told.does out (length h.params) F.after s1 b1).done.leaves.setting ∙ F.leaves.setting) refl,
        consts_stay words before taker takes f statics h es out W s b0 e1 c1 F G (length h.params) s1 b1 refl refl vs d told closed (meanings.stmts ss m) (flat E s1) becomes refl
            (held_of start.vars c1.vars reached.1.there) (params_placed (length h.params) 0 f.params h.params (omega arith)) (params_live 0 f.params h.params),
      )
        where
          F : StmtDone out sc e1 W start s c1
          F = reached.0 out (length h.params) W s b0

          G : Stayed start c1
          G = record { sole = record { grown = reached.1.grown; one = reached.1.settled.sole.one; ahead = reached.1.settled.sole.ahead }; owners = reached.1.owners }

          s1 : Flattening
          s1 = flat e1 s

          b1 : StmtBegins out sc (length h.params) (λ p. 0) F.after c1 s1
          b1 = begins_next out sc (length h.params) W start c1 s e1 b0 F G

          splits : SplitsAt m ss s
          splits = effect_splits m ss s

          becomes : flat (meanings.stmts ss m) s ≡ flat E s1
          becomes = splits.becomes ∙ ap (λ e. flat e s1) (is ∙ sym bare)

    -- ---- the walk

    abbrev Closed : Context → Type 0
    Closed d = AllOf (λ v. is_live_linear v ≡ false) d.vars

    -- what is found behind the statements
    abbrev Finds : Option (List Value) × Context → Type 0
    Finds (None, d) = Closed d → sc.results ≡ [] → EndsAs ss []
    Finds (Some vs, d) = Closed d → EndsAs ss vs

    module _ (c1 : Context) (reached : Front c1) (free : NoStatics sc c1.vars) where
      abbrev asks : Expressions → Check (List Value)
      asks es = arguments es sc needs.Consumed (asked_of_items needs.Consumed sc.results)

      -- where as many values are returned as there are results
      told_if : (es : Expressions) → ArgumentsAreFine es → Gives (Callable sc) (λ r. (length r.0 ≡ count es) × (count es ≡ length sc.results → LastTold sc taker es c1 r.0 r.1)) (asks es c1)
      told_if es fine =
          gives_both (Callable sc) (λ r. length r.0 ≡ count es) (λ r. count es ≡ length sc.results → LastTold sc taker es c1 r.0 r.1) (asks es c1)
          ((arguments_long (Callable sc) es sc needs.Consumed (asked_of_items needs.Consumed sc.results)).runs c1 tt) (go (count es == length sc.results) refl)
        where
          go : (b : Bool) → (count es == length sc.results) ≡ b → Gives (Callable sc) (λ r. count es ≡ length sc.results → LastTold sc taker es c1 r.0 r.1) (asks es c1)
          go true e =
              gives-more (Callable sc) 0 (λ r. LastTold sc taker es c1 r.0 r.1) (λ r. count es ≡ length sc.results → LastTold sc taker es c1 r.0 r.1) (asks es c1)
              (last_told taker takes es fine sc c1 free (eqb-true (count es) (length sc.results) e)) (λ r t q. t)
          go false e =
              gives-more (Callable sc) 0 (λ r. ⊤) (λ r. count es ≡ length sc.results → LastTold sc taker es c1 r.0 r.1) (asks es c1)
              ((k_any (Callable sc) 0 {P = λ d. ⊤} (asks es)).runs c1 tt) (λ r t q. clash (sym (eq-eqb (count es) (length sc.results) q) ∙ e))

      truly : (b : Bool) → not b ≡ false → b ≡ true
      truly true e = refl
      truly false e = clash e

      ended : (es : Expressions) (s : Spot) (i : Effect) → last_effect (last_of ss) m ≡ (statement s.line i ▸ nothing)
          → ((u : Flattening) → flat i u ≡ flat (meanings.exprs es m needs.Consumed [] (map taker h.results)) u) → ((u : Flattening) → Fine (meanings.exprs es m needs.Consumed [] (map taker h.results)) u → Fine i u)
          → (vs : List Value) → Ensures (Callable sc) (λ d. (length vs ≡ count es) × (count es ≡ length sc.results → LastTold sc taker es c1 vs d)) (ended_with sc s vs) (λ o d. Finds (o, d))
      ended es s i is same finely vs =
          o_then (Callable sc) 0 (o_rules (Callable sc) 0 s _) (λ u.
          o_back (Callable sc) 0 (Some vs) (λ d q closed. with_line c1 reached es vs d (q.1.1 (sym q.1.0 ∙ eqb-true (length vs) (length sc.results) (truly (length vs == length sc.results) q.0.0))) closed s.line i is same finely))

      last_ends : (last : Last) → last_of ss ≡ last → ArgumentsAreFine (last_items last) → Gives (Callable sc) Finds (last_walk last sc c1)
      unfolding ◌>>=◌ ◌>>◌
      last_ends none_last e fine = λ closed z. without c1 reached none [] c1 (told_none z) closed (ap (λ l. last_effect l m) e) refl
        where
          told_none : sc.results ≡ [] → LastTold sc taker none c1 [] c1
          told_none z = last_told taker takes none fine sc c1 free (sym (ap length z))
      last_ends (nothing_last s) e fine =
          (ended none s nothing (ap (λ l. last_effect l m) e) (λ u. refl) (λ u q. tt) []).runs c1 (refl, λ q. last_told taker takes none fine sc c1 free q)
      last_ends (value_last x s) e fine =
          gives-bind (Callable sc) 0 (λ r. (length r.0 ≡ count (returned_items x)) × (count (returned_items x) ≡ length sc.results → LastTold sc taker (returned_items x) c1 r.0 r.1)) Finds (returned x sc c1) (λ r. ended_with sc s r.0 r.1)
          (subst (λ w. Gives (Callable sc) (λ r. (length r.0 ≡ count (returned_items x)) × (count (returned_items x) ≡ length sc.results → LastTold sc taker (returned_items x) c1 r.0 r.1)) w) (sym (returned_as_items sc c1 x)) (told_if (returned_items x) fine))
          (λ r q. (ended (returned_items x) s (meanings.items x m (map taker h.results)) (ap (λ l. last_effect l m) e) (λ u. (items_are m x (map taker h.results) u).becomes) (λ u. (items_are m x (map taker h.results) u).fine) r.0).runs r.1 q)

    body_ends : HasFineParts f → ss ≡ statements_of f.body → Gives (Callable sc) Finds (body ss sc start)
    body_ends parts is =
        body_splits (Callable sc) sc Front Finds (last_of ss) (λ c1 reached. last_ends c1 reached reached.1.settled.free (last_of ss) refl (subst (λ l. ArgumentsAreFine (last_items (last_of l))) (sym is) parts.returned)) ss refl start
        (gives_both (Callable sc) (λ (r : Unit {0} × Context). Does sc start e1 r.1) (λ (r : Unit {0} × Context). Settles sc start r.1) (stmts (front ss) sc start)
        (subst (λ l. StmtFine sc start (stmts (front l) sc) (meanings.stmts (front l) m)) (sym is) (parts.statements sc taker start (starts_settled words before f statics h parts.names)))
        (subst (λ l. Gives (Callable sc) (λ (r : Unit {0} × Context). Settles sc start r.1) (stmts (front l) sc start)) (sym is) (parts.settling sc start (starts_settled words before f statics h parts.names))))

    -- the results are what was found
    abbrev Answers : Option (List Value) → List Value → Type 0
    Answers None vs = (sc.results ≡ []) × (vs ≡ [])
    Answers (Some ws) vs = vs ≡ ws

    answers : (s : Spot) (ts : List Ty) (o : Option (List Value)) (c : Context) → sc.results ≡ ts → Gives (Callable sc) (λ r. Answers o r.0) (results_or_fault s ts o c)
    answers s [] None c e = (e, refl)
    answers s (t ∷ ts) None c e = tt
    answers s [] (Some ws) c e = refl
    answers s (t ∷ ts) (Some ws) c e = refl

    ends_with : (o : Option (List Value)) (d : Context) (vs : List Value) → Finds (o, d) → Closed d → Answers o vs → EndsAs ss vs
    ends_with None d vs q closed a = subst (λ l. EndsAs ss l) (sym a.1) (q closed a.0)
    ends_with (Some ws) d vs q closed a = subst (λ l. EndsAs ss l) (sym a) (q closed)

    whole_ends : (end : Spot) → HasFineParts f → ss ≡ statements_of f.body → Gives (Callable sc) (λ r. EndsAs ss r.0) (whole_body (block ss end) sc start)
    unfolding ◌>>=◌ ◌>>◌
    whole_ends end parts is =
        gives-bind (Callable sc) 0 Finds (λ r. EndsAs ss r.0) (body ss sc start) (λ r. (end_from 0 end >> results_or_fault end sc.results r.0) r.1) (body_ends parts is)
        (λ r q. gives-bind (Callable sc) 0 (λ (x : Unit {0} × Context). ClosedFrom 0 r.1 x.1) (λ y. EndsAs ss y.0) (end_from 0 end r.1) (λ x. results_or_fault end sc.results r.0 x.1) (closed_from (Callable sc) 0 0 end r.1)
        (λ x k. gives-more (Callable sc) 0 (λ y. Answers r.0 y.0) (λ y. EndsAs ss y.0) (results_or_fault end sc.results r.0 x.1) (answers end sc.results r.0 x.1 refl) (λ y a. ends_with r.0 r.1 y.0 q k.dead a)))

  ends_by : (b : Block) → HasFineParts f → b ≡ f.body → Gives (Callable sc) (λ r. EndsAs (statements_of b) r.0) (whole_body b sc start)
  ends_by (block ss end) parts is = whole_ends ss end parts (ap statements_of is)

  effect_is : (b : Block) → meanings.body_of b m ≡ meanings.stmts (statements_of b) m
  effect_is (block ss end) = refl

  pub body_fine : HasFineParts f → Gives (Callable sc) (λ vs. BodyFine words before taker f statics h (returned_as h.params h.results vs) × ConstsStay words before taker f statics h) (instance_walk words before f statics h)
  body_fine parts =
      gives-bind (Callable sc) 0 (λ r. EndsAs (statements_of f.body) r.0) (λ vs. BodyFine words before taker f statics h (returned_as h.params h.results vs) × ConstsStay words before taker f statics h) (whole_body f.body sc start) (λ r. answer r.0) (ends_by f.body parts refl)
      (λ r q. (
        λ out W s b. subst (λ e. BodyDone out f h e W s (returned_as h.params h.results r.0)) (sym (effect_is f.body)) (q out W s b).0,
        λ out W s b. subst (λ e. ShowsConsts f h W (flat e s)) (sym (effect_is f.body)) (q out W s b).1,
      ))

pub body_is_fine : BodyIsFine
body_is_fine words before taker f statics h takes parts = body_fine words before taker takes f statics h parts
