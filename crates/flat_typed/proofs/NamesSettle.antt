-- Assignments to names, and spreads, settle.
use Rattle.std.proofs.Common.{◌≡◌, inl, inr, ℕ, ◌+◌, ◌≤◌, ◌<◌, Bool, true, false, cond, List, [], ◌∷◌, refl, sym, ap, ◌∙◌, subst, arith}
use Rattle.std.specs.Prelude.{is_some, ⊤}
use Rattle.silq_tree.specs.declared.node.NameId.{NameId}
use Rattle.silq_tree.specs.declared.node.Spot.{Spot}
use Rattle.silq_tree.specs.Syntax.{Expression, Statement, whole, assign, spread}
use Rattle.silq_types.specs.declared.need.Need.TheVariants as needs
use Rattle.silq_types.specs.declared.values.Value.{Value}
use Rattle.silq_types.specs.declared.values.Var.{Var}
use Rattle.silq_types.specs.Types.{at}
use Rattle.silq_mean.specs.Written.{value_of}
use Rattle.check_scope.specs.Context.{Scope, Context, Check, ◌>>=◌, ◌>>◌, count_statement}
use Rattle.check_expr.specs.Expression.{is_tuple, expr}
use Rattle.check_expr.specs.Owners.{owned, Sole, Gives, Ensures}
use Rattle.check_expr.proofs.Owners.{gives-more, o_bind, o_then, o_more, o_rules, o_variables, sole-less}
use Rattle.check_fun.specs.Statement.{bind_names, any_name, assigned, assign_name, stmt}
use Rattle.check_fun.specs.Statement as statements
use Rattle.check_fun.proofs.Blocks.{s_stmt}
use Rattle.flat_form.specs.Names.{AllOf}
use Rattle.flat_typed.specs.Places.{is_part}
use Rattle.flat_typed.specs.Lemmas.{Callable}
use Rattle.flat_typed.specs.Stay.{SomeOf, IsOwner, HadOwner}
use Rattle.flat_typed.specs.Settled.{Settled, IsLive, HadLive, Settles, Settling}
use Rattle.flat_typed.proofs.Ordered.{clash}
use Rattle.flat_typed.proofs.Moving.{all_more}
use Rattle.flat_typed.proofs.Leaving.{k_any}
use Rattle.flat_typed.proofs.Turns.{gives_both, wired_live}
use Rattle.flat_typed.proofs.Kept.{kept_settles}
use Rattle.flat_typed.proofs.HandedPlaces.{HandsOn, hands_on, handed_owner, handed_below, each_place}
use Rattle.flat_typed.proofs.Rebinding.{each_bound, NoneHeld, names_stay, names_free}

-- ---- what the walk tells

-- behind a context with P the names are bound to the values: none is that of a static value or of a held variable
pub record Binds (sc : Scope) (P : Context → Type 0) (xs : List NameId) (vs : List Value) (g : Context) : Type 0 where
  pub before : Context
  pub is : P before
  pub free : any_name (λ x. is_some (value_of sc.statics x)) xs ≡ false
  pub unheld : NoneHeld before.vars xs
  pub left : g ≡ record before { vars = bind_names before.vars xs vs }

names_bound : (sc : Scope) {P : Context → Type 0} (s : Spot) (xs : List NameId) (vs : List Value) → Ensures (Callable sc) P (assigned sc s xs vs) (λ u. Binds sc P xs vs)
names_bound sc s xs vs =
    o_bind (Callable sc) 0 (o_variables (Callable sc) 0) (λ vars. o_then (Callable sc) 0 (o_rules (Callable sc) 0 s _) (λ u.
    record {
      runs = λ d h. record {
        before = d;
        is = h.1.1;
        free = h.0.0;
        unheld = subst (λ l. NoneHeld l xs) h.1.0 h.0.1.0;
        left = ap (λ l. record d { vars = bind_names l xs vs }) h.1.0;
      };
    }))

-- ---- what it does

owner_lives : (p : ℕ) (vs : List Var) → SomeOf (IsOwner p) vs → SomeOf (IsLive p) vs
owner_lives p [] h = h
owner_lives p (v ∷ vs) (inl i) = inl (record { live = wired_live v i.wires; place = i.place })
owner_lives p (v ∷ vs) (inr i) = inr (owner_lives p vs i)

module _ (sc : Scope) (c : Context) (st : Settled sc c) (xs : List NameId) (vs : List Value) (d : Context) (h : HandsOn c vs d) where
  first : Settles sc c d
  first = kept_settles sc c d st h.kept (sole-less (Callable sc) c.next (λ p. 0 + owned p vs) (λ p. 0) d (h.sole (λ p. 0) st.sole) (λ p. omega arith))

  owner : (p : ℕ) → 1 ≤ owned p vs → p < c.next → SomeOf (IsOwner p) c.vars
  owner = handed_owner c vs d h st.whole st.sole

  of_places : (Q : Var → Type 0) (R : ℕ → Type 0) → ((p : ℕ) → 1 ≤ owned p vs → R p) → ((v : Value) → R v.place → (x : NameId) → Q (statements.bound x v)) → AllOf (λ v. (x : NameId) → Q (statements.bound x v)) vs
  of_places Q R f k = all_more (λ (v : Value). R v.place) (λ v. (x : NameId) → Q (statements.bound x v)) vs k (each_place R vs f)

  -- names that are bound to what was handed on
  bound_settles : (g : Context) → any_name (λ x. is_some (value_of sc.statics x)) xs ≡ false → NoneHeld d.vars xs → g ≡ record d { vars = bind_names d.vars xs vs } → Sole c.next (λ p. 0) g → Settles sc c g
  bound_settles g free unheld left = subst (λ y. Sole c.next (λ p. 0) y → Settles sc c y) (sym left) (λ s. record {
    settled = record {
      free = names_free sc xs vs d.vars free first.settled.free;
      whole = each_bound (λ v. is_part v ≡ false) xs vs d.vars first.settled.whole (of_places (λ v. is_part v ≡ false) (λ p. p < d.next) (handed_below c vs d h st.whole st.sole) (λ v lt x. refl));
      placed = each_bound (λ v. v.place < d.next) xs vs d.vars first.settled.placed (of_places (λ v. v.place < d.next) (λ p. p < d.next) (handed_below c vs d h st.whole st.sole) (λ v lt x. lt));
      sole = record { grown = omega arith; one = s.one; ahead = s.ahead };
    };
    grown = first.grown;
    owners = each_bound (HadOwner c) xs vs d.vars first.owners (of_places (HadOwner c) (λ p. p < c.next → SomeOf (IsOwner p) c.vars) owner (λ v k x has lt. k lt));
    alive = each_bound (HadLive c) xs vs d.vars first.alive (of_places (HadLive c) (λ p. p < c.next → SomeOf (IsOwner p) c.vars) owner (λ v k x l lt. owner_lives v.place c.vars (k lt)));
    there = names_stay c.vars xs vs d.vars first.there unheld h.unheld;
  })

-- ---- the laws

abbrev Bound : Scope → Context → List NameId → Context → Type 0
Bound sc c xs g = (vs : List Value) × Binds sc (HandsOn c vs) xs vs g

-- a statement that binds names to what its expression hands on
binding_settles : (sc : Scope) (st : Statement) (xs : List NameId) → ((c : Context) → Gives (Callable sc) (λ r. Bound sc c xs r.1) (stmt st sc c)) → Settling sc (stmt st sc)
binding_settles sc st xs f c settled =
    gives-more (Callable sc) 0 (λ r. Bound sc c xs r.1 × Sole c.next (λ p. 0) r.1) (λ r. Settles sc c r.1) (stmt st sc c)
    (gives_both (Callable sc) (λ r. Bound sc c xs r.1) (λ r. Sole c.next (λ p. 0) r.1) (stmt st sc c) (f c) ((s_stmt st (Callable sc) c.next sc (λ k s q. q.1)).runs c settled.sole))
    (λ r q. bound_settles sc c settled xs q.0.0 q.0.1.before q.0.1.is r.1 q.0.1.free q.0.1.unheld q.0.1.left q.1)

counted_here : {A : Type 0} (sc : Scope) (c : Context) (P : A × Context → Type 0) (m : Check A) → Gives (Callable sc) P (m c) → Gives (Callable sc) P ((count_statement >> m) c)
unfolding ◌>>◌
counted_here sc c P m h = h

hands_here : (sc : Scope) (c : Context) (e : Expression) → Ensures (Callable sc) (λ d. d ≡ c) (expr e sc needs.Consumed []) (λ vs d. HandsOn c vs d)
hands_here sc c e = record { runs = λ d q. subst (λ y. Gives (Callable sc) (λ r. HandsOn c r.0 r.1) (expr e sc needs.Consumed [] y)) (sym q) (hands_on e sc c) }

pub spread_settles : (xs : List NameId) (e : Expression) (s : Spot) (sc : Scope) → Settling sc (stmt (spread xs e s) sc)
spread_settles xs e s sc =
    binding_settles sc (spread xs e s) xs (λ c. counted_here sc c (λ r. Bound sc c xs r.1) (expr e sc needs.Consumed [] >>= assigned sc s xs)
    ((o_bind (Callable sc) 0 (hands_here sc c e) (λ vs. o_more (Callable sc) 0 (names_bound sc {P = HandsOn c vs} s xs vs) (λ u g k. (vs, k)))).runs c refl))

-- a tuple is refused
lone_hands : (sc : Scope) (c : Context) (e : Expression) (t : Bool) → is_tuple e ≡ t → Ensures (Callable sc) (λ d. d ≡ c) (expr e sc (cond t needs.Held needs.Consumed) []) (λ vs d. is_tuple e ≡ false → HandsOn c vs d)
lone_hands sc c e true q = o_more (Callable sc) 0 (k_any (Callable sc) 0 (expr e sc needs.Held [])) (λ vs d h z. clash (sym q ∙ z))
lone_hands sc c e false q = o_more (Callable sc) 0 (hands_here sc c e) (λ vs d h z. h)

pub name_settles : (x : NameId) (e : Expression) (s : Spot) (sc : Scope) → Settling sc (stmt (assign (whole x) e s) sc)
name_settles x e s sc =
    binding_settles sc (assign (whole x) e s) (x ∷ []) (λ c. counted_here sc c (λ r. Bound sc c (x ∷ []) r.1) (assign_name sc x e s)
    ((o_bind (Callable sc) 0 (lone_hands sc c e (is_tuple e) refl) (λ vs. o_then (Callable sc) 0 (o_rules (Callable sc) 0 (at e) _) (λ u.
    o_more (Callable sc) 0 (names_bound sc {P = λ d. ((is_tuple e ≡ false) × ⊤) × (is_tuple e ≡ false → HandsOn c vs d)} s (x ∷ []) vs)
    (λ u' g k. (vs, record { before = k.before; is = k.is.1 k.is.0.0; free = k.free; unheld = k.unheld; left = k.left }))))).runs c refl))
