-- What is known at the end of the entry of an accepted program has bits, and so have its parameters.
use Rattle.std.proofs.Common.{◌≡◌, ◌<◌, inr, ℕ, Bool, true, false, cond, not, ◌||◌, ◌==◌, List, [], ◌∷◌, length, map, reverse, refl, sym, ap₂, subst, arith}
use Rattle.std.specs.Prelude.{Option, Some, None, Result, Ok, Err, ℤ, is_some}
use Rattle.silq_tree.specs.declared.node.NameId.{NameId}
use Rattle.silq_tree.specs.Syntax.{Function, Statements, done, next}
use Rattle.silq_types.specs.declared.types.Shape.{Shape}
use Rattle.silq_types.specs.declared.built_in.BuiltIn.{BuiltIn}
use Rattle.silq_types.specs.declared.signature.InstanceKey.{InstanceKey}
use Rattle.silq_types.specs.declared.signature.Signature.{Signature}
use Rattle.silq_types.specs.declared.values.Value.{Value}
use Rattle.silq_types.specs.Calls.{Found, built_in, find_fun}
use Rattle.silq_types.specs.Programs.{earlier_than, paired as static_pairs}
use Rattle.silq_types.specs.Rules.{Fault, rule, name_taken, not_static, and_then}
use Rattle.silq_types.specs.Types.{same_name}
use Rattle.silq_mean.specs.Written.{Header, header_of}
use Rattle.check_scope.specs.Walk.{Counts, with_counts}
use Rattle.check_scope.specs.Context.{Scope}
use Rattle.check_expr.specs.Expression.{exact_place}
use Rattle.check_expr.proofs.Alike.{some_same}
use Rattle.check_fun.specs.Statement.{any_name, stmts}
use Rattle.check_fun.specs.Program.{repeats, shares_name, param_names, header_names, all_headers, has_classical, has_negative, entry_rules, check_entry}
use Rattle.check_fun.specs.Program.{check_one, instances, instance_walk, returned_as, kept}
use Rattle.check_fun.proofs.Growth.{ok_inside}
use Rattle.silq_mean.specs.declared.receiver.Receiver.TheVariants.{EntryOutput}
use Rattle.silq_mean.specs.Effect.{◌>>◌, step, enter_body}
use Rattle.silq_mean.specs.Meaning.{functions, body_of, params_of, names_of, give_held, entry}
use Rattle.silq_mean.specs.Meaning as meanings
use Rattle.silq_mean.specs.Table.{Job, job_of}
use Rattle.flat_form.specs.Names.{AllOf}
use Rattle.flat_form.proofs.Both.{all_reverse}
use Rattle.flat_typed.specs.Calls.{BodyFine}
use Rattle.flat_typed.specs.Scopes.{scope_for}
use Rattle.flat_typed.specs.Lemmas.{Callable}
use Rattle.flat_typed.specs.Endings.{front, last_of, last_items, statements_of}
use Rattle.flat_typed.specs.Settled.{FineStatements, Settling}
use Rattle.flat_typed.specs.Bodies.{ConstsStay}
use Rattle.flat_typed.specs.Instances.{IsFineFunction, Tells}
use Rattle.flat_typed.specs.Accepted.{AllAreFine}
use Rattle.flat_typed.proofs.Ordered.{or_right}
use Rattle.flat_typed.proofs.Scopes.{Both, then_ok, body_scope, header_parts}
use Rattle.flat_typed.proofs.SettledLaws.{no_more_settle, next_settles, no_more_fine, next_fine}
use Rattle.flat_typed.proofs.Bodies.{body_is_fine}
use Rattle.flat_typed.proofs.Instances.{parted_later, gives_weaker, ran_holds, all_tell, callable}
use Rattle.flat_typed.proofs.EntryParams.{AllMatch, header_move, params_match, matches_long, matches_quantum, matches_shapes}
use Rattle.flat_typed.proofs.EntryBegins.{AllQuantum}
use Rattle.flat_typed.proofs.EntryStands.{its_places, entered, outside_entry, entry_begins}
use Rattle.flat_typed.proofs.EntryEnds.{entry_job}
use Rattle.flat_typed.specs.Calls.{BodyDone}
use Rattle.flat_typed.specs.Bodies.{ShowsConsts}
use Rattle.flat_typed.specs.Settled.{StatementsSettle}
use Rattle.flat_typed.proofs.Arguments.{arguments_are_fine as taken_over}
use Rattle.flat_typed.proofs.StatementsSettle.{settle_from_names}
use Rattle.flat_typed.proofs.NamesSettle.{name_settles, spread_settles}
use Rattle.flat_typed.proofs.Every.{each_is_fine, statement_is_fine}
use Rattle.silq_types.specs.declared.signature.Param.{Param}
use Rattle.silq_types.specs.declared.signature.Returned.{Returned}
use Rattle.silq_types.specs.Types.{shape_bits}
use Rattle.silq_types.specs.Programs.{Program}
use Rattle.silq_mean.specs.Effect.{Effect}
use Rattle.flat_form.specs.State.{Flattening, wires_so_far}
use Rattle.flat_form.specs.Flat.{flat, begin}
use Rattle.flat_typed.specs.Scopes.{as_meaning}
use Rattle.flat_typed.proofs.EntryBegins.{param_shapes}
use Rattle.check_fun.specs.Program.{Accepted, check}
use Rattle.table_laws.proofs.Sizes.{ParamHasBits, HasBits, params_have_bits, results_have_bits, returned_have_bits, answers_have_bits, consts_have_bits}

-- what a job returns has bits, and so have its parameters
abbrev pub JobHasBits : Job → Type 0
JobHasBits j = AllOf HasBits (flat j.effect (begin j.shapes)).values × AllOf (λ s. 0 < shape_bits s) j.shapes

shapes_have_bits : (ps : List Param) → AllOf ParamHasBits ps → AllOf (λ s. 0 < shape_bits s) (param_shapes ps)
shapes_have_bits [] h = tt
shapes_have_bits (p ∷ ps) h = (h.0, shapes_have_bits ps h.1)

-- ---- statements in turn

module _ (all : AllAreFine) where
  all_settle : (ss : Statements) (sc : Scope) → Settling sc (stmts ss sc)
  all_settle done sc = no_more_settle sc
  all_settle (next st rest) sc = next_settles st rest sc (all.settle st sc) (all_settle rest sc)

  all_fine : (ss : Statements) → FineStatements ss
  all_fine done = no_more_fine
  all_fine (next st rest) = next_fine st rest (all.statements st) (all_fine rest) (λ sc. all.settle st sc) (λ sc. all_settle rest sc)

  -- ---- functions by their headers

  header_fine : (words : List (NameId × BuiltIn)) (earlier : List NameId) (f : Function) → header_names words earlier f ≡ Ok tt → IsFineFunction f
  header_fine words earlier f e = go (is_some (built_in words f.name) || any_name (λ y. same_name y f.name) earlier || repeats f.statics
      || shares_name f.statics f.params) refl e
    where
      go : (b : Bool) → (is_some (built_in words f.name) || any_name (λ y. same_name y f.name) earlier || repeats f.statics || shares_name f.statics f.params)
          ≡ b → cond b (Err (rule name_taken f.at)) (param_names [] f.params) ≡ Ok tt → IsFineFunction f
      go true q e = absurd (grind (arith, e))
      go false q e = record {
        parts = record {
          statements = all_fine (front (statements_of f.body));
          settling = λ sc. all_settle (front (statements_of f.body)) sc;
          returned = all.arguments (last_items (last_of (statements_of f.body)));
          names = or_right (is_some (built_in words f.name) || any_name (λ y. same_name y f.name) earlier || repeats f.statics) (shares_name f.statics f.params)
              q;
        };
        differ = e;
      }

  headers_fine : (words : List (NameId × BuiltIn)) (earlier : List NameId) (fs : List Function) → all_headers words earlier fs ≡ Ok tt → AllOf IsFineFunction fs
  headers_fine words earlier [] e = tt
  headers_fine words earlier (f ∷ fs) e =
      let a = then_ok (header_names words earlier f) (λ u. all_headers words (f.name ∷ earlier) fs) tt e in
      (header_fine words earlier f a.is, headers_fine words (f.name ∷ earlier) fs a.rest)

  found_fine : (funs : List Function) (x : NameId) (g : Found) → find_fun funs x ≡ Some g → AllOf IsFineFunction funs → IsFineFunction g.fun
  found_fine [] x g e h = absurd (grind (arith, e))
  found_fine (f ∷ funs) x g e h = go (same_name f.name x) e (λ q. found_fine funs x g q h.1)
    where
      go : (b : Bool) → cond b (Some (record { number = length funs; fun = f })) (find_fun funs x) ≡ Some g → (find_fun funs x ≡ Some g → IsFineFunction g.fun)
          → IsFineFunction g.fun
      go true e i = subst (λ (z : Found). IsFineFunction z.fun) (some_same (record { number = length funs; fun = f }) g e) h.0
      go false e i = i e

  earlier_fine : (n : ℕ) (funs : List Function) → AllOf IsFineFunction funs → AllOf IsFineFunction (earlier_than n funs)
  earlier_fine n [] h = tt
  earlier_fine n (f ∷ funs) h = go (length funs == n) (earlier_fine n funs h.1)
    where
      go : (b : Bool) → AllOf IsFineFunction (earlier_than n funs) → AllOf IsFineFunction (cond b funs (earlier_than n funs))
      go true i = h.1
      go false i = i

  -- ---- the entry

  module _ (words : List (NameId × BuiltIn)) (before : List Function) (f : Function) (statics : List ℤ) (fine : IsFineFunction f)
      (others : AllOf IsFineFunction before) (quantum : has_classical f.params ≡ false) where
    entry_has_bits : (k : InstanceKey) (c : Counts) (r : Signature × Counts) → k.statics ≡ statics → c.met ≡ []
        → check_one (instances words before) words before f (λ s. f.at) 1 k c ≡ Ok r
        → JobHasBits (record {
          effect = entry words before f (static_pairs f.statics k.statics);
          shapes = map (λ p. p.2.shape)
              (params_of f (static_pairs f.statics k.statics));
        })
    entry_has_bits k c r is none e = subst JobHasBits job_is (values, shapes_have_bits h.0.params params)
      where
        h : (x : Header) × (header_of (static_pairs f.statics k.statics) (λ s. f.at) f ≡ Ok x)
            × (and_then (with_counts (instances words before) 1 (instance_walk words before f k.statics x) c 0) (λ y. Ok (kept f x k y)) ≡ Ok r)
        h = ok_inside (header_of (static_pairs f.statics k.statics) (λ s. f.at) f)
            (λ x. and_then (with_counts (instances words before) 1 (instance_walk words before f k.statics x) c 0) (λ y. Ok (kept f x k y))) r e

        q : (y : List Value × Counts × ℕ) × (with_counts (instances words before) 1 (instance_walk words before f k.statics h.0) c 0 ≡ Ok y)
            × (◌≡◌ {A = Result (Signature × Counts) Fault} (Ok (kept f h.0 k y)) (Ok r))
        q = ok_inside (with_counts (instances words before) 1 (instance_walk words before f k.statics h.0) c 0) (λ y. Ok (kept f h.0 k y)) r h.2

        head : header_of (static_pairs f.statics k.statics) exact_place f ≡ Ok h.0
        head = header_move (static_pairs f.statics k.statics) (λ s. f.at) f h.0 h.1

        match : AllMatch f (static_pairs f.statics k.statics) f.params h.0.params
        match = params_match f (static_pairs f.statics k.statics) f.params h.0.params (header_parts (static_pairs f.statics k.statics) f h.0 head).params

        len : length f.params ≡ length h.0.params
        len = matches_long f (static_pairs f.statics k.statics) f.params h.0.params match

        all_quantum : AllQuantum h.0.params
        all_quantum = matches_quantum f (static_pairs f.statics k.statics) f.params h.0.params match quantum

        w : (BodyFine words before EntryOutput f k.statics h.0 (returned_as h.0.params h.0.results q.0.0) × ConstsStay words before EntryOutput f k.statics h.0)
            × AllOf (λ (x : InstanceKey × Signature). Tells words (f ∷ before) x.0 x.1) q.0.1.met
        w =
            ran_holds (Tells words (f ∷ before)) (λ vs. BodyFine words before EntryOutput f k.statics h.0 (returned_as h.0.params h.0.results vs)
            × ConstsStay words before EntryOutput f k.statics h.0) (instances words before)
            (all_tell words (f ∷ before) before others (λ n g b z. parted_later f before n g b z)) 1 (instance_walk words before f k.statics h.0) c 0 q.0
            (gives_weaker (Callable (scope_for words before f k.statics h.0)) (Tells words (f ∷ before))
            (λ vs. BodyFine words before EntryOutput f k.statics h.0 (returned_as h.0.params h.0.results vs)
            × ConstsStay words before EntryOutput f k.statics h.0) (instance_walk words before f k.statics h.0)
            (callable words (f ∷ before) f before k.statics h.0 (λ n g b z. z)) (body_is_fine words before EntryOutput f k.statics h.0
            (λ t. inr refl) fine.parts))
            (subst (λ m. AllOf (λ (x : InstanceKey × Signature). Tells words (f ∷ before) x.0 x.1) m) (sym none) tt) q.1

        params : AllOf ParamHasBits h.0.params
        params = params_have_bits (static_pairs f.statics k.statics) f.mark exact_place f.params h.0.params
            (header_parts (static_pairs f.statics k.statics) f h.0 head).params

        results : List Returned
        results = returned_as h.0.params h.0.results q.0.0

        start : Flattening
        start = entered words before f k.statics h.0 len all_quantum fine.differ

        body : Effect
        body = body_of f.body (as_meaning EntryOutput (scope_for words before f k.statics h.0))

        done : BodyDone (outside_entry words before f k.statics h.0 len all_quantum fine.differ) f h.0 body
            (its_places words before f k.statics h.0 len all_quantum fine.differ) start results
        done =
            w.0.0 (outside_entry words before f k.statics h.0 len all_quantum fine.differ) (its_places words before f k.statics h.0 len all_quantum fine.differ)
            (entered words before f k.statics h.0 len all_quantum fine.differ) (entry_begins words before f k.statics h.0 len all_quantum fine.differ)

        shows : ShowsConsts f h.0 (its_places words before f k.statics h.0 len all_quantum fine.differ) (flat body start)
        shows =
            w.0.1 (outside_entry words before f k.statics h.0 len all_quantum fine.differ) (its_places words before f k.statics h.0 len all_quantum fine.differ)
            (entered words before f k.statics h.0 len all_quantum fine.differ) (entry_begins words before f k.statics h.0 len all_quantum fine.differ)

        answers : AllOf HasBits done.answers
        answers =
            answers_have_bits (wires_so_far start) (its_places words before f k.statics h.0 len all_quantum fine.differ) results done.answers done.each
            (returned_have_bits h.0.params h.0.results q.0.0
            (results_have_bits (static_pairs f.statics k.statics) exact_place f.results h.0.results
            (header_parts (static_pairs f.statics k.statics) f h.0 head).results))

        values : AllOf HasBits (flat (give_held (params_of f (static_pairs f.statics k.statics))) (flat body start)).values
        values =
            consts_have_bits f (static_pairs f.statics k.statics) (its_places words before f k.statics h.0 len all_quantum fine.differ) 0 f.params h.0.params
            (flat body start) match shows params (subst (AllOf HasBits) (sym done.values) (all_reverse HasBits done.answers answers))

        job_is : entry_job words before f k.statics h.0 len all_quantum fine.differ match
            ≡ record {
              effect = entry words before f (static_pairs f.statics k.statics);
              shapes = map (λ p. p.2.shape)
                  (params_of f (static_pairs f.statics k.statics));
            }
        job_is =
            ap₂ (λ (m : meanings.Scope) ss. job_with m ss) (sym (body_scope words before EntryOutput f k.statics h.0 head))
            (sym (matches_shapes f (static_pairs f.statics k.statics) f.params h.0.params match))
          where
            job_with : meanings.Scope → List Shape → Job
            job_with m ss = record {
              effect = step (enter_body (names_of (params_of f (static_pairs f.statics k.statics)))) >> body_of f.body m >> give_held
                  (params_of f (static_pairs f.statics k.statics));
              shapes = ss;
            }

  rules_quantum : (f : Function) (statics : List ℤ) (u : Unit {0}) → entry_rules f statics ≡ Ok u → has_classical f.params ≡ false
  rules_quantum f statics u e = go (not (length f.statics == length statics) || has_negative statics || has_classical f.params) refl e
    where
      go : (b : Bool) → (not (length f.statics == length statics) || has_negative statics || has_classical f.params) ≡ b
          → cond b (Err (rule not_static f.at)) (Ok tt) ≡ Ok u → has_classical f.params ≡ false
      go true q e = absurd (grind (arith, e))
      go false q e = or_right (not (length f.statics == length statics) || has_negative statics) (has_classical f.params) q

  accepted : (p : Program) (e : NameId) (statics : List ℤ) (a : Accepted) → check p e statics ≡ Ok a
      → JobHasBits (job_of p statics (find_fun (reverse p.funs) e))
  accepted p e statics a q = go (find_fun (reverse p.funs) e) refl t.rest
    where
      t : Both (all_headers p.words [] p.funs) (λ u. check_entry p statics (find_fun (reverse p.funs) e)) a
      t = then_ok (all_headers p.words [] p.funs) (λ u. check_entry p statics (find_fun (reverse p.funs) e)) a q

      funs_fine : AllOf IsFineFunction (reverse p.funs)
      funs_fine = all_reverse IsFineFunction p.funs (headers_fine p.words [] p.funs t.is)

      go : (o : Option Found) → find_fun (reverse p.funs) e ≡ o → check_entry p statics o ≡ Ok a → JobHasBits (job_of p statics o)
      go None f k = absurd (grind (arith, k))
      go (Some g) f k =
          entry_has_bits p.words before g.fun statics (found_fine (reverse p.funs) e g f funs_fine) (earlier_fine g.number (reverse p.funs) funs_fine)
          (rules_quantum g.fun statics x.first x.is) key none y.first refl refl y.is
        where
          before : List Function
          before = earlier_than g.number (reverse p.funs)

          key : InstanceKey
          key = record { fun = record { number = g.number }; statics = statics }

          none : Counts
          none = record { walked = 0; met = [] }

          x : Both (entry_rules g.fun statics) (λ u. and_then (check_one (instances p.words before) p.words before g.fun (λ s. g.fun.at) 1 key none)
              (λ r. Ok (record { entry = r.0; met = r.1.met }))) a
          x = then_ok (entry_rules g.fun statics) (λ u. and_then (check_one (instances p.words before) p.words before g.fun (λ s. g.fun.at) 1 key none)
              (λ r. Ok (record { entry = r.0; met = r.1.met }))) a k

          y : Both (check_one (instances p.words before) p.words before g.fun (λ s. g.fun.at) 1 key none) (λ r. Ok (record { entry = r.0; met = r.1.met })) a
          y = then_ok (check_one (instances p.words before) p.words before g.fun (λ s. g.fun.at) 1 key none) (λ r. Ok (record { entry = r.0; met = r.1.met })) a
              x.rest

every_settles : StatementsSettle
every_settles = settle_from_names name_settles spread_settles

pub accepted_has_bits : (p : Program) (e : NameId) (statics : List ℤ) (a : Accepted) → check p e statics ≡ Ok a
    → JobHasBits (job_of p statics (find_fun (reverse p.funs) e))
accepted_has_bits = accepted (record {
  statements = statement_is_fine every_settles;
  settle = every_settles;
  arguments = λ es. taken_over es (each_is_fine every_settles es);
})
