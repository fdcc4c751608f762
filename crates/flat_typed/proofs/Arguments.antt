-- Values that are taken over in turn are fine where each of their expressions is.
use Rattle.std.proofs.Common.{◌≡◌, ◌⊎◌, ℕ, ◌+◌, ◌≤◌, Bool, true, false, cond, List, [], ◌∷◌, ◌++◌, length, map, drop, refl, sym, ap, ◌∙◌, subst, arith}
use Rattle.std.specs.Prelude.{⊤}
use Rattle.silq_tree.specs.Syntax.{Expression, Expressions, none, more}
use Rattle.silq_types.specs.declared.types.Ty.{Ty}
use Rattle.silq_types.specs.declared.need.Need.{Need}
use Rattle.silq_types.specs.declared.need.Need.TheVariants as needs
use Rattle.silq_types.specs.declared.values.Value.{Value}
use Rattle.silq_types.specs.Types.{count}
use Rattle.silq_mean.specs.declared.receiver.Receiver.{Receiver}
use Rattle.silq_mean.specs.Effect.{Effect, step, receive, ◌>>◌}
use Rattle.silq_mean.specs.Meaning as meanings
use Rattle.check_scope.specs.declared.uses.Use.{Use}
use Rattle.check_scope.specs.Context.{Scope, Context}
use Rattle.check_scope.specs.Uses.{uses, all_uses, consume_and_hold}
use Rattle.check_expr.specs.Expression.{Asked, first_asked, later_asked, is_tuple, lone_need, lone_wants, expr, arguments}
use Rattle.check_expr.specs.Owners.{handed, handed_arguments, Sole, Gives, Ensures}
use Rattle.check_expr.proofs.Owners.{gives-more, sole-less, o_bind, o_then, o_back, o_more}
use Rattle.flat_form.specs.State.{Flattening}
use Rattle.flat_form.specs.Flat.{flat}
use Rattle.flat_form.specs.Names.{AllOf}
use Rattle.flat_form.specs.Shows.{ListBoth}
use Rattle.flat_typed.specs.Places.{Places}
use Rattle.flat_typed.specs.Relation.{Outside, FitsPart, is_argument, need_of}
use Rattle.flat_typed.specs.Scopes.{as_meaning, NoStatics}
use Rattle.flat_typed.specs.Uses.{IsThere}
use Rattle.flat_typed.specs.Done.{Begins}
use Rattle.flat_typed.specs.Calls.{carried, ArgsTells}
use Rattle.flat_typed.specs.Lemmas.{Callable, ExpressionIsFine, EachIsFine, Asking, uses_by, Untangled, ArgumentsAreFine}
use Rattle.flat_typed.proofs.Ordered.{clash}
use Rattle.flat_typed.proofs.Uses.{all_join, all_uses_kinds}
use Rattle.flat_typed.proofs.Using.{touches_none}
use Rattle.flat_typed.proofs.Tame.{AllLeft, left_then, left_same, kinds_left, all_there_left}
use Rattle.flat_typed.proofs.Leaving.{k_any}
use Rattle.flat_typed.proofs.Reached.{one_of}
use Rattle.flat_typed.proofs.Lasting.{statics_left}
use Rattle.flat_typed.proofs.LastTold.{dead, dead_sole}
use Rattle.flat_typed.proofs.Following.{Facts, facts_here}
use Rattle.flat_typed.proofs.Pairing.{begins_first}
use Rattle.flat_typed.proofs.TakenOver.{Suited, TakenNext, taken_next}
use Rattle.flat_typed.proofs.ArgumentNext.{next_begins}
use Rattle.flat_typed.proofs.ArgumentList.{HadOwner}
use Rattle.flat_typed.proofs.ArgumentsDone.{all_told}
use Rattle.flat_typed.proofs.ArgumentWalk.{need_agrees, variable_wants, asked_suits, had_owners, rest_untangled, first_untangled}

-- what the walk of a list tells
pub record ArgFacts (sc : Scope) (taker : Ty → Receiver) (es : Expressions) (other : Need) (asks : List Asked) (ns : List Need) (takers : List Receiver) (c : Context) (vs : List Value) (d : Context) : Type 0 where
  pub tells : Untangled sc c es takers → (out : Outside) (low : ℕ) (others : ℕ → ℕ) (W : Places) (under : List Value) (s : Flattening) → Begins out sc low others W under (uses_by es sc c takers) c s
      → ArgsTells out sc takers (meanings.exprs es (as_meaning taker sc) other ns takers) W under (uses_by es sc c takers) c s vs d
  pub there : (W : Places) → AllOf (FitsPart W c.vars) c.vars → AllOf (IsThere sc.held c.vars) (uses_by es sc c takers)
  pub left : AllLeft c.vars d.vars
  pub sole : (low : ℕ) (others : ℕ → ℕ) → Sole low others c → Sole low (λ p. others p + handed_arguments other asks p vs) d
  pub long : ListBoth (λ (r : Receiver) (v : Value). ⊤) takers vs

-- ---- no value

no_facts : (sc : Scope) (taker : Ty → Receiver) (other : Need) (asks : List Asked) (ns : List Need) (c : Context) → ArgFacts sc taker none other asks ns [] c [] c
no_facts sc taker other asks ns c = record {
  tells = λ u out low others W under s b. record {
    done = record {
      fine = tt;
      after = W;
      agree = λ p l. refl;
      answers = [];
      values = refl;
      each = tt;
      apart = tt;
      stands = b.stands;
      kinds_stay = refl;
      leaves = record { setting = refl; callers = refl; blocks = refl; names = refl };
      touches = touches_none (λ w. false) s.built.draft;
      plain = λ q w m. m;
      unmade = b.unmade;
    };
    given = tt;
    began = λ m l q. tt;
  };
  there = λ W f. tt;
  left = left_same c.vars;
  sole = λ low others s. sole-less (Callable sc) low others (λ p. others p + 0) c s (λ p. omega arith);
  long = tt;
}

-- ---- the first and the rest

module _ (e : Expression) (es : Expressions) (sc : Scope) (taker : Ty → Receiver) (other : Need) (asks : List Asked) (ns : List Need) (r : Receiver) (rs : List Receiver) (c : Context) (agree : Asking other asks ns (r ∷ rs)) where
  abbrev wants : List Ty
  wants = (first_asked other asks).wants

  abbrev us : List Use
  us = uses e sc c.vars (need_of r)

  module _ (v : Value) (d : Context) (f : Facts sc taker (need_of r) (first_asked other asks).wants e c (v ∷ []) d) (suits : Suited r v) (vs : List Value) (d2 : Context) (k : ArgFacts sc taker es other (later_asked asks) (drop 1 ns) rs d vs d2) where
    same : all_uses es sc c.vars (map need_of rs) ≡ all_uses es sc d.vars (map need_of rs)
    same = all_uses_kinds es sc c.vars d.vars (map need_of rs) (kinds_left c.vars d.vars f.left)

    module _ (u : Untangled sc c (more e es) (r ∷ rs)) (out : Outside) (low : ℕ) (others : ℕ → ℕ) (W : Places) (under : List Value) (s : Flattening)
        (b : Begins out sc low others W under (uses e sc c.vars (need_of r) ++ all_uses es sc d.vars (map need_of rs)) c s) where
      abbrev ws : List Use
      ws = all_uses es sc d.vars (map need_of rs)

      abbrev first_effect : Effect
      first_effect = meanings.expr e (as_meaning taker sc) (need_of r) >> step (receive r)

      abbrev rest_effect : Effect
      rest_effect = meanings.exprs es (as_meaning taker sc) other (drop 1 ns) rs

      b1 : Begins out sc low others W under (uses e sc c.vars (need_of r)) c s
      b1 = begins_first out sc low others W under (uses e sc c.vars (need_of r)) ws c s b

      p : TakenNext out sc r (meanings.expr e (as_meaning taker sc) (need_of r) >> step (receive r)) W under (uses e sc c.vars (need_of r)) c s v d
      p = taken_next out sc low others W under taker (first_asked other asks).wants e r c s v d f b1 suits (variable_wants (first_asked other asks) r agree.0)

      there : AllOf (IsThere sc.held c.vars) (uses e sc c.vars (need_of r))
      there = (f.told W b.stands.parts).0

      later : AllOf (IsThere sc.held d.vars) (all_uses es sc d.vars (map need_of rs))
      later = k.there p.after p.stands.parts

      apart : (is_argument r ≡ false) ⊎ (consume_and_hold (uses e sc c.vars (need_of r)) (all_uses es sc d.vars (map need_of rs)) ≡ false)
      apart = subst (λ l. (is_argument r ≡ false) ⊎ (consume_and_hold (uses e sc c.vars (need_of r)) l ≡ false)) same (first_untangled sc c e es r rs u)

      grown : c.next ≤ d.next
      grown = (f.sole c.next others (record { grown = omega arith; one = b.sole.one; ahead = b.sole.ahead })).grown

      sole : Sole low (λ q. others q + handed (need_of r) q (v ∷ [])) d
      sole = f.sole low others b.sole

      b2 : Begins out sc low (λ q. others q + handed (need_of r) q (v ∷ [])) p.after (carried (r ∷ []) (v ∷ []) ++ under) (all_uses es sc d.vars (map need_of rs)) d (flat first_effect s)
      b2 = next_begins out sc low others W under us ws c s b r first_effect v d p there later (f.gone W b.stands.parts) f.left apart sole grown

      q : ArgsTells out sc rs rest_effect p.after (carried (r ∷ []) (v ∷ []) ++ under) (all_uses es sc d.vars (map need_of rs)) d (flat first_effect s) vs d2
      q = k.tells (rest_untangled sc c d e es r rs (kinds_left c.vars d.vars f.left) u) out low (λ q. others q + handed (need_of r) q (v ∷ [])) p.after (carried (r ∷ []) (v ∷ []) ++ under) (flat first_effect s) b2

      only : Sole d.next (λ p. 0) d
      only = record { grown = omega arith; one = λ p. let a = sole.one p in omega (arith, a); ahead = λ p le. let a = sole.ahead p le in omega (arith, a) }

      had : ListBoth (HadOwner d) rs vs
      had = had_owners d other (later_asked asks) (drop 1 ns) rs vs agree.2 k.long (λ p. let a = (k.sole d.next (dead d) (dead_sole d only)).one p in omega (arith, a))

      pub told : ArgsTells out sc (r ∷ rs) (first_effect >> rest_effect) W under (uses e sc c.vars (need_of r) ++ all_uses es sc d.vars (map need_of rs)) c s (v ∷ vs) d2
      told = all_told out sc low others W under us ws c s b r first_effect rest_effect v d p there later (f.gone W b.stands.parts) f.left apart grown b2 rs vs d2 k.left q had

    joined : ArgFacts sc taker (more e es) other asks ns (r ∷ rs) c (v ∷ vs) d2
    joined = record {
      tells = λ u out low others W under s.
          subst (λ l. Begins out sc low others W under (uses e sc c.vars (need_of r) ++ l) c s → ArgsTells out sc (r ∷ rs) (meanings.exprs (more e es) (as_meaning taker sc) other ns (r ∷ rs)) W under (uses e sc c.vars (need_of r) ++ l) c s (v ∷ vs) d2) (sym same)
          (λ b. subst (λ n. ArgsTells out sc (r ∷ rs) (meanings.expr e (as_meaning taker sc) n >> step (receive r) >> meanings.exprs es (as_meaning taker sc) other (drop 1 ns) rs) W under (uses e sc c.vars (need_of r) ++ all_uses es sc d.vars (map need_of rs)) c s (v ∷ vs) d2) (sym agree.1)
          (told u out low others W under s b));
      there = λ W fits.
          all_join (IsThere sc.held c.vars) us (all_uses es sc c.vars (map need_of rs)) (f.told W fits).0
          (all_there_left sc.held c.vars d.vars (all_uses es sc c.vars (map need_of rs)) f.left (subst (AllOf (IsThere sc.held d.vars)) (sym same) (k.there W (f.told W fits).1.1)));
      left = left_then c.vars d.vars d2.vars f.left k.left;
      sole = λ low others s.
          sole-less (Callable sc) low (λ p. (others p + handed (need_of r) p (v ∷ [])) + handed_arguments other (later_asked asks) p vs) (λ p. others p + (handed (first_asked other asks).need p (v ∷ []) + handed_arguments other (later_asked asks) p vs)) d2
          (k.sole low (λ p. others p + handed (need_of r) p (v ∷ [])) (f.sole low others s))
          (λ p. let a : handed (first_asked other asks).need p (v ∷ []) ≡ handed (need_of r) p (v ∷ []) = ap (λ n. handed n p (v ∷ [])) (need_agrees (first_asked other asks) r agree.0) in omega (arith, a));
      long = (tt, k.long);
    }

  -- ---- the walk

  abbrev FirstFacts : List Value → Context → Type 0
  FirstFacts vs d = Facts sc taker (need_of r) (first_asked other asks).wants e c vs d

  abbrev Runs : Need → List Ty → Context → Type 0
  Runs n w x = Gives (Callable sc) (λ y. is_tuple e ≡ false → FirstFacts y.0 y.1) (expr e sc n w x)

  first_facts : ExpressionIsFine e → NoStatics sc c.vars → Ensures (Callable sc) (λ x. x ≡ c) (expr e sc (lone_need e (first_asked other asks).need) (lone_wants e (first_asked other asks).wants)) (λ vs d. is_tuple e ≡ false → FirstFacts vs d)
  first_facts fine free = go (is_tuple e) refl
    where
      go : (t : Bool) → is_tuple e ≡ t → Ensures (Callable sc) (λ x. x ≡ c) (expr e sc (lone_need e (first_asked other asks).need) (lone_wants e (first_asked other asks).wants)) (λ vs d. is_tuple e ≡ false → FirstFacts vs d)
      go true t = o_more (Callable sc) 0 (k_any (Callable sc) 0 (expr e sc (lone_need e (first_asked other asks).need) (lone_wants e (first_asked other asks).wants))) (λ vs d h z. clash (sym t ∙ z))
      go false t = record {
        runs = λ x q.
            subst (λ y. Runs (lone_need e (first_asked other asks).need) (lone_wants e (first_asked other asks).wants) y) (sym q)
            (subst (λ b. Runs (cond b needs.Held (first_asked other asks).need) (cond b [] (first_asked other asks).wants) c) (sym t)
            (subst (λ n. Runs n (first_asked other asks).wants c) (sym (need_agrees (first_asked other asks) r agree.0)) (facts_here e fine sc taker (need_of r) (first_asked other asks).wants c free)));
      }

  abbrev Both : Value → List Value → Context → Type 0
  Both v vs d2 = (d : Context) × Suited r v × FirstFacts (v ∷ []) d × ArgFacts sc taker es other (later_asked asks) (drop 1 ns) rs d vs d2

  rest_facts : NoStatics sc c.vars → ((d : Context) → NoStatics sc d.vars → Gives (Callable sc) (λ x. ArgFacts sc taker es other (later_asked asks) (drop 1 ns) rs d x.0 x.1) (arguments es sc other (later_asked asks) d)) → (v : Value)
      → Ensures (Callable sc) (λ d. Suited r v × ((is_tuple e ≡ false) × FirstFacts (v ∷ []) d)) (arguments es sc other (later_asked asks)) (λ vs d2. Both v vs d2)
  rest_facts free h v = record {
    runs = λ d x.
        gives-more (Callable sc) 0 (λ y. ArgFacts sc taker es other (later_asked asks) (drop 1 ns) rs d y.0 y.1) (λ y. Both v y.0 y.1) (arguments es sc other (later_asked asks) d)
        (h d (statics_left sc c.vars d.vars x.1.1.left free)) (λ y k. (d, x.0, x.1.1, k));
  }

  pub more_facts : ExpressionIsFine e → NoStatics sc c.vars → ((d : Context) → NoStatics sc d.vars → Gives (Callable sc) (λ x. ArgFacts sc taker es other (later_asked asks) (drop 1 ns) rs d x.0 x.1) (arguments es sc other (later_asked asks) d))
      → Ensures (Callable sc) (λ x. x ≡ c) (arguments (more e es) sc other asks) (λ vs d. ArgFacts sc taker (more e es) other asks ns (r ∷ rs) c vs d)
  more_facts fine free h =
      o_bind (Callable sc) 0 (first_facts fine free) (λ vs.
      o_bind (Callable sc) 0 (one_of (Callable sc) (λ vs d. FirstFacts vs d) e vs) (λ v.
      o_then (Callable sc) 0 (asked_suits (Callable sc) e (first_asked other asks) r v agree.0) (λ u.
      o_bind (Callable sc) 0 (rest_facts free h v) (λ rest.
      o_back (Callable sc) 0 (v ∷ rest) (λ d2 x. joined v x.0 x.2 x.1 rest d2 x.3)))))

pub arguments_facts : (es : Expressions) → EachIsFine es → (sc : Scope) (taker : Ty → Receiver) (other : Need) (asks : List Asked) (ns : List Need) (takers : List Receiver) (c : Context) → NoStatics sc c.vars → count es ≡ length takers → Asking other asks ns takers
    → Gives (Callable sc) (λ x. ArgFacts sc taker es other asks ns takers c x.0 x.1) (arguments es sc other asks c)
arguments_facts none fine sc taker other asks ns [] c free long agree = no_facts sc taker other asks ns c
arguments_facts none fine sc taker other asks ns (r ∷ rs) c free long agree = absurd (omega (arith, long))
arguments_facts (more e es) fine sc taker other asks ns [] c free long agree = absurd (omega (arith, long))
arguments_facts (more e es) fine sc taker other asks ns (r ∷ rs) c free long agree =
    (more_facts e es sc taker other asks ns r rs c agree fine.0 free (λ d g. arguments_facts es fine.1 sc taker other (later_asked asks) (drop 1 ns) rs d g (omega (arith, long)) agree.2)).runs c refl

pub arguments_are_fine : (es : Expressions) → EachIsFine es → ArgumentsAreFine es
arguments_are_fine es fine sc taker other asks ns takers c free long agree apart =
    gives-more (Callable sc) 0 (λ x. ArgFacts sc taker es other asks ns takers c x.0 x.1)
    (λ x. (out : Outside) (low : ℕ) (others : ℕ → ℕ) (W : Places) (under : List Value) (s : Flattening) → Begins out sc low others W under (uses_by es sc c takers) c s
    → ArgsTells out sc takers (meanings.exprs es (as_meaning taker sc) other ns takers) W under (uses_by es sc c takers) c s x.0 x.1)
    (arguments es sc other asks c) (arguments_facts es fine sc taker other asks ns takers c free long agree) (λ x h. h.tells apart)
