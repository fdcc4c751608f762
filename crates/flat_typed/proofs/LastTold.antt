-- What the walk of returned values tells: the parts that they use are there, and places from before had an owner.
use Rattle.std.proofs.Common.{◌≡◌, ◌⊎◌, inl, inr, ℕ, suc, ◌+◌, ◌≤◌, ◌<◌, Bool, true, false, cond, not, ◌&&◌, List, [], ◌∷◌, length, map, refl, sym, ap, ◌∙◌, subst, arith, nat_lt}
use Rattle.std.specs.Prelude.{⊤, ◌==◌}
use Rattle.std.proofs.lemmas.Bool.{cases_lt, lt-ltb, le-ltb, eq-eqb, eqb-true}
use Rattle.silq_tree.specs.Syntax.{Expression, Expressions, none, more}
use Rattle.silq_types.specs.declared.types.Ty.{Ty}
use Rattle.silq_types.specs.declared.need.Need.TheVariants as needs
use Rattle.silq_types.specs.declared.signature.InstanceKey.{InstanceKey}
use Rattle.silq_types.specs.declared.signature.Signature.{Signature}
use Rattle.silq_types.specs.declared.values.Value.{Value}
use Rattle.silq_types.specs.declared.values.Var.{Var}
use Rattle.silq_types.specs.Types.{is_linear, count, at}
use Rattle.check_scope.specs.Context.{Scope, Context, Check}
use Rattle.check_scope.specs.declared.uses.Use.{Use}
use Rattle.check_scope.specs.Uses.{uses, all_uses}
use Rattle.check_expr.specs.Expression.{asked_of_items, expr, arguments, lone_need, lone_wants, is_tuple}
use Rattle.check_expr.specs.Owners.{at_place, owners, owned, handed_arguments, Sole, Gives, Ensures}
use Rattle.check_expr.proofs.Owners.{gives-more, o_bind, o_then, o_more, o_from, o_back, o_rules, o_suits, o_arguments}
use Rattle.silq_mean.specs.declared.receiver.Receiver.{Receiver}
use Rattle.silq_mean.specs.declared.receiver.Receiver.TheVariants.{CallResult, EntryOutput}
use Rattle.silq_mean.specs.Meaning as meanings
use Rattle.flat_form.specs.State.{Flattening}
use Rattle.flat_form.specs.Names.{AllOf}
use Rattle.flat_form.specs.Shows.{ListBoth}
use Rattle.flat_typed.specs.Places.{Places}
use Rattle.flat_typed.specs.Relation.{Outside, FitsPart, need_of, is_argument}
use Rattle.flat_typed.specs.Done.{Begins, StmtBegins}
use Rattle.flat_typed.specs.Calls.{ArgsTells}
use Rattle.flat_typed.specs.Scopes.{as_meaning, NoStatics}
use Rattle.flat_typed.specs.Uses.{IsThere}
use Rattle.flat_typed.specs.Bodies.{TakesResults}
use Rattle.flat_typed.specs.Lemmas.{Callable, Agrees, Asking, uses_by, ArgumentsAreFine}
use Rattle.flat_typed.proofs.Ordered.{clash}
use Rattle.flat_typed.proofs.Uses.{all_join}
use Rattle.flat_typed.proofs.Tame.{AllLeft, left_same}
use Rattle.flat_typed.proofs.Leaving.{On, k_any, k_single}
use Rattle.flat_typed.proofs.Turns.{gives_later, gives_both}
use Rattle.flat_typed.proofs.UsesThere.{There, Inv}
use Rattle.flat_typed.proofs.WalkThere.{first_by, gives_all, u_expr}
use Rattle.flat_typed.proofs.Reached.{one_of, begins_expression}
use Rattle.flat_typed.proofs.HeldStay.{HeldFirst, held_spends, h_arguments}
use Rattle.flat_typed.proofs.PlainValues.{IsPlain, n_expr}

-- ---- what is used is there

module _ (S : InstanceKey → Signature → Type 0) (W : Places) (vs0 : List Var) (sc : Scope) (free : NoStatics sc vs0) (taker : Ty → Receiver) (consumes : (t : Ty) → need_of (taker t) ≡ needs.Consumed) where
  abbrev Th : List Use → Type 0
  Th us = There S 0 W vs0 sc free us

  abbrev Holds : Type 0 → Context → Type 0
  Holds X = On S 0 (Inv S 0 W vs0 sc free X)

  abbrev its_uses : Expressions → List Ty → List Use
  its_uses es ts = all_uses es sc vs0 (map need_of (map taker ts))

  lone : (e : Expression) (t : Ty) → is_tuple e ≡ false → lone_need e needs.Consumed ≡ need_of (taker t)
  lone e t z = ap (λ b. cond b needs.Held needs.Consumed) z ∙ sym (consumes t)

  w_items : (es : Expressions) (ts : List Ty) (X : Type 0) → count es ≡ length ts → Ensures S (Holds X) (arguments es sc needs.Consumed (asked_of_items needs.Consumed ts)) (λ vs. Holds (X × Th (its_uses es ts)))
  w_items none ts X l = o_back S 0 [] (λ c h. ((h.0, tt), h.1))
  w_items (more e es) [] X l = absurd (omega (arith, l))
  w_items (more e es) (t ∷ ts) X l =
      o_bind S 0 (first_by S 0 W vs0 sc free (is_tuple e) (is_tuple e) refl (λ z. u_expr S 0 W vs0 sc free e X (lone_need e needs.Consumed) (lone_wants e (t ∷ [])) z)) (λ vs.
      o_bind S 0 (o_from S 0 (λ c h z. let k = h z in ((k.0.0, subst (λ n. Th (uses e sc vs0 n)) (lone e t z) k.0.1), k.1)) (k_single S 0 (Holds (X × Th (uses e sc vs0 (need_of (taker t))))) e vs)) (λ v.
      o_then S 0 (o_suits S 0 e (t ∷ []) v) (λ u.
      o_bind S 0 (w_items es ts (X × Th (uses e sc vs0 (need_of (taker t)))) (omega (arith, l))) (λ rest.
      o_back S 0 (v ∷ rest) (λ c h. ((h.0.0.0, all_join (IsThere sc.held vs0) (uses e sc vs0 (need_of (taker t))) (its_uses es ts) h.0.0.1 h.0.1), h.1))))))

-- ---- places

-- one for each place so far that no variable owns
abbrev pub dead : Context → ℕ → ℕ
dead c p = cond ((owners p c.vars == 0) && nat_lt p c.next) 1 0

pub dead_sole : (c : Context) → Sole c.next (λ p. 0) c → Sole c.next (dead c) c
dead_sole c s = record {
  grown = omega arith;
  one = λ p. go p (owners p c.vars == 0) refl (nat_lt p c.next);
  ahead = λ p le. let a = s.ahead p le in let z : dead c p ≡ 0 = later p (owners p c.vars == 0) (nat_lt p c.next) (le-ltb p c.next le) in omega (arith, a, z);
}
  where
    go : (p : ℕ) (a : Bool) → (owners p c.vars == 0) ≡ a → (b : Bool) → owners p c.vars + cond (a && b) 1 0 ≤ 1
    go p true e true = let z = eqb-true (owners p c.vars) 0 e in omega (arith, z)
    go p true e false = let o = s.one p in omega (arith, o)
    go p false e b = let o = s.one p in omega (arith, o)

    later : (p : ℕ) (a b : Bool) → b ≡ false → ◌≡◌ {A = ℕ} (cond (a && b) 1 0) 0
    later p true true e = clash e
    later p true false e = refl
    later p false b e = refl

all_handed : (p : ℕ) (ts : List Ty) (vs : List Value) → owned p vs ≤ handed_arguments needs.Consumed (asked_of_items needs.Consumed ts) p vs
all_handed p ts [] = omega arith
all_handed p [] (v ∷ vs) = let a = all_handed p [] vs in omega (arith, a)
all_handed p (t ∷ ts) (v ∷ vs) = let a = all_handed p ts vs in omega (arith, a)

-- a place from before had an owner
abbrev pub HadPlace : Context → Value → Type 0
HadPlace c v = v.place < c.next → 1 ≤ owners v.place c.vars

had_places : (c : Context) (vs : List Value) → ((p : ℕ) → dead c p + owned p vs ≤ 1) → AllOf (HadPlace c) vs
had_places c [] h = tt
had_places c (v ∷ vs) h = (λ lt. go lt (cases_lt 0 (owners v.place c.vars)), had_places c vs (λ p. let a = h p in omega (arith, a)))
  where
    go : v.place < c.next → (0 < owners v.place c.vars) ⊎ (owners v.place c.vars ≤ 0) → 1 ≤ owners v.place c.vars
    go lt (inl l) = omega (arith, l)
    go lt (inr z) =
        let o : owners v.place c.vars ≡ 0 = omega (arith, z) in
        let d : dead c v.place ≡ 1 = ap (λ n. cond ((n == 0) && nat_lt v.place c.next) 1 0) o ∙ ap (λ b. cond b 1 0) (lt-ltb v.place c.next lt) in
        let m : at_place v.place v.place ≡ 1 = ap (λ t. cond t 1 0) (eq-eqb v.place v.place refl) in
        let a = h v.place in
        absurd (omega (arith, a, d, m))

-- ---- what is told of returned values

abbrev pub PlainFor : Ty → Value → Type 0
PlainFor t v = t.classical ≡ true → (v.ty.classical ≡ true) × (is_linear v.origin ≡ false)

module _ (S : InstanceKey → Signature → Type 0) where
  keep : {A : Type 0} {Q : A → Type 0} (K : Type 0) (m : Check A) → Ensures S (λ c. ⊤) m (λ a d. Q a) → Ensures S (λ c. K) m (λ a d. K × Q a)
  keep {Q = Q} K m h = record { runs = λ c k. gives-more S 0 (λ r. Q r.0) (λ r. K × Q r.0) (m c) (h.runs c tt) (λ r q. (k, q)) }

  class_of : (t : Ty) (v : Value) → (t.classical && not v.ty.classical) ≡ false → IsPlain v → PlainFor t v
  class_of t v e p q = let c = go v.ty.classical (ap (λ b. b && not v.ty.classical) (sym q) ∙ e) in (c, p c)
    where
      go : (b : Bool) → not b ≡ false → b ≡ true
      go true z = refl
      go false z = clash z

  plain_items : (sc : Scope) (es : Expressions) (ts : List Ty) → count es ≡ length ts → Ensures S (λ c. ⊤) (arguments es sc needs.Consumed (asked_of_items needs.Consumed ts)) (λ vs d. ListBoth PlainFor ts vs)
  plain_items sc none [] l = o_back S 0 [] (λ c h. tt)
  plain_items sc none (t ∷ ts) l = absurd (omega (arith, l))
  plain_items sc (more e es) [] l = absurd (omega (arith, l))
  plain_items sc (more e es) (t ∷ ts) l =
      o_bind S 0 (values (is_tuple e) refl) (λ vs.
      o_bind S 0 (one_of S (λ ws d. AllOf IsPlain ws) e vs) (λ v.
      o_then S 0 (o_rules S 0 (at e) _) (λ u.
      o_bind S 0 (o_from S 0 (λ c h. class_of t v h.0.1.0 h.1.1.0) (keep (PlainFor t v) (arguments es sc needs.Consumed (asked_of_items needs.Consumed ts)) (plain_items sc es ts (omega (arith, l))))) (λ rest.
      o_back S 0 (v ∷ rest) (λ c h. h)))))
    where
      values : (b : Bool) → is_tuple e ≡ b → Ensures S (λ c. ⊤) (expr e sc (lone_need e needs.Consumed) (lone_wants e (t ∷ []))) (λ vs d. is_tuple e ≡ false → AllOf IsPlain vs)
      values true q = o_more S 0 (k_any S 0 _) (λ vs d h z. clash (sym q ∙ z))
      values false q =
          subst (λ n. Ensures S (λ c. ⊤) (expr e sc n (lone_wants e (t ∷ []))) (λ vs d. is_tuple e ≡ false → AllOf IsPlain vs)) (sym (ap (λ b. cond b needs.Held needs.Consumed) q))
          (o_more S 0 (n_expr S e sc (lone_wants e (t ∷ [])) q) (λ vs d h z. h))

pub record LastTold (sc : Scope) (taker : Ty → Receiver) (es : Expressions) (c : Context) (vs : List Value) (d : Context) : Type 0 where
  pub there : (W : Places) → AllOf (FitsPart W c.vars) c.vars → AllOf (IsThere sc.held c.vars) (uses_by es sc c (map taker sc.results))
  pub left : (W : Places) → AllOf (FitsPart W c.vars) c.vars → AllLeft c.vars d.vars
  pub places : Sole c.next (λ p. 0) c → AllOf (HadPlace c) vs
  pub plain : ListBoth PlainFor sc.results vs
  pub held : (us : List Var) → HeldFirst us c.vars → HeldFirst us d.vars
  pub does : (out : Outside) (low : ℕ) (W : Places) (s : Flattening) → StmtBegins out sc low (λ p. 0) W c s
      → ArgsTells out sc (map taker sc.results) (meanings.exprs es (as_meaning taker sc) needs.Consumed [] (map taker sc.results)) W [] (uses_by es sc c (map taker sc.results)) c s vs d

module _ (taker : Ty → Receiver) (takes : TakesResults taker) where
  pub for_taker : (Q : Receiver → Type 0) (t : Ty) → Q (CallResult t) → Q (EntryOutput t) → Q (taker t)
  for_taker Q t a b = go (takes t)
    where
      go : (taker t ≡ CallResult t) ⊎ (taker t ≡ EntryOutput t) → Q (taker t)
      go (inl e) = subst Q (sym e) a
      go (inr e) = subst Q (sym e) b

  asking : (ts : List Ty) → Asking needs.Consumed (asked_of_items needs.Consumed ts) [] (map taker ts)
  asking [] = tt
  asking (t ∷ ts) = (for_taker (Agrees (record { need = needs.Consumed; wants = t ∷ [] })) t (refl, refl) (refl, refl), for_taker (λ r. needs.Consumed ≡ need_of r) t refl refl, asking ts)

  none_argument : (ts : List Ty) → AllOf (λ r. is_argument r ≡ false) (map taker ts)
  none_argument [] = tt
  none_argument (t ∷ ts) = (for_taker (λ r. is_argument r ≡ false) t refl refl, none_argument ts)

  as_many : (ts : List Ty) → length ts ≡ length (map taker ts)
  as_many [] = refl
  as_many (t ∷ ts) = ap suc (as_many ts)

  module _ (es : Expressions) (fine : ArgumentsAreFine es) (sc : Scope) (c : Context) (free : NoStatics sc c.vars) (long : count es ≡ length sc.results) where
    abbrev walk : Check (List Value)
    walk = arguments es sc needs.Consumed (asked_of_items needs.Consumed sc.results)

    abbrev Fitting : Type 0
    Fitting = (W : Places) × AllOf (FitsPart W c.vars) c.vars

    abbrev Uses : List Value × Context → Type 0
    Uses r = (b : Fitting) → (⊤ × AllOf (IsThere sc.held c.vars) (uses_by es sc c (map taker sc.results))) × (AllLeft c.vars r.1.vars × AllOf (FitsPart b.0 r.1.vars) r.1.vars)

    abbrev Places_had : List Value × Context → Type 0
    Places_had r = Sole c.next (λ p. 0) c → AllOf (HadPlace c) r.0

    abbrev Does : List Value × Context → Type 0
    Does r =
        (out : Outside) (low : ℕ) (others : ℕ → ℕ) (W : Places) (under : List Value) (s : Flattening) → Begins out sc low others W under (uses_by es sc c (map taker sc.results)) c s →
        ArgsTells out sc (map taker sc.results) (meanings.exprs es (as_meaning taker sc) needs.Consumed [] (map taker sc.results)) W under (uses_by es sc c (map taker sc.results)) c s r.0 r.1

    told_uses : Gives (Callable sc) Uses (walk c)
    told_uses =
        gives_all (Callable sc) (λ (b : Fitting) (r : List Value × Context). (⊤ × AllOf (IsThere sc.held c.vars) (uses_by es sc c (map taker sc.results))) × (AllLeft c.vars r.1.vars × AllOf (FitsPart b.0 r.1.vars) r.1.vars)) (walk c)
        (λ b. (w_items (Callable sc) b.0 c.vars sc free taker (λ t. for_taker (λ r. need_of r ≡ needs.Consumed) t refl refl) es sc.results ⊤ long).runs c (tt, (left_same c.vars, b.1)))

    told_places : Gives (Callable sc) Places_had (walk c)
    told_places =
        gives_later (Callable sc) (λ r. AllOf (HadPlace c) r.0) (walk c) (λ s.
        gives-more (Callable sc) c.next (λ r. Sole c.next (λ p. dead c p + handed_arguments needs.Consumed (asked_of_items needs.Consumed sc.results) p r.0) r.1) (λ r. AllOf (HadPlace c) r.0) (walk c)
        ((o_arguments (Callable sc) c.next es (dead c) sc (λ k g q. q.1) needs.Consumed (asked_of_items needs.Consumed sc.results)).runs c (dead_sole c s))
        (λ r q. had_places c r.0 (λ p. let a = q.one p in let b = all_handed p sc.results r.0 in omega (arith, a, b))))

    abbrev Holding : Type 0
    Holding = (us : List Var) × HeldFirst us c.vars

    abbrev Holds_on : List Value × Context → Type 0
    Holds_on r = (b : Holding) → HeldFirst b.0 r.1.vars

    told_held : Gives (Callable sc) Holds_on (walk c)
    told_held =
        gives_all (Callable sc) (λ (b : Holding) (r : List Value × Context). HeldFirst b.0 r.1.vars) (walk c)
        (λ b. (h_arguments (Callable sc) 0 (HeldFirst b.0) (held_spends b.0) es sc needs.Consumed (asked_of_items needs.Consumed sc.results)).runs c b.1)

    pub last_told : Gives (Callable sc) (λ r. LastTold sc taker es c r.0 r.1) (walk c)
    last_told =
        gives-more (Callable sc) 0 (λ r. (Uses r × Places_had r) × ((ListBoth PlainFor sc.results r.0 × Holds_on r) × Does r)) (λ r. LastTold sc taker es c r.0 r.1) (walk c)
        (gives_both (Callable sc) (λ r. Uses r × Places_had r) (λ r. (ListBoth PlainFor sc.results r.0 × Holds_on r) × Does r) (walk c)
        (gives_both (Callable sc) Uses Places_had (walk c) told_uses told_places)
        (gives_both (Callable sc) (λ r. ListBoth PlainFor sc.results r.0 × Holds_on r) Does (walk c)
        (gives_both (Callable sc) (λ r. ListBoth PlainFor sc.results r.0) Holds_on (walk c) ((plain_items (Callable sc) sc es sc.results long).runs c tt) told_held)
        (fine sc taker needs.Consumed (asked_of_items needs.Consumed sc.results) [] (map taker sc.results) c free (long ∙ as_many sc.results) (asking sc.results) (inl (none_argument sc.results)))))
        (λ r h. record {
          there = λ W fits. (h.0.0 (W, fits)).0.1;
          left = λ W fits. (h.0.0 (W, fits)).1.0;
          places = h.0.1;
          plain = h.1.0.0;
          held = λ us k. h.1.0.1 (us, k);
          does = λ out low W s b. h.1.1 out low (λ p. 0) W [] s (begins_expression out sc low W c s (uses_by es sc c (map taker sc.results)) b);
        })
