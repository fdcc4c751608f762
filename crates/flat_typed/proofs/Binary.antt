-- An operator on two operands, as an expression.
use Rattle.std.proofs.Common.{◌≡◌, ◌⊎◌, inl, inr, ℕ, suc, Bool, true, false, not, cond, ◌&&◌, List, [], ◌∷◌, ◌++◌, refl, sym, ap, ap₂, ◌∙◌, subst}
use Rattle.std.specs.Prelude.{⊤}
use Rattle.silq_tree.specs.declared.node.Spot.{Spot}
use Rattle.silq_tree.specs.declared.node.BinaryOp.{BinaryOp}
use Rattle.silq_tree.specs.Syntax.{Expression, binary}
use Rattle.static_num.specs.Static.{is_static}
use Rattle.silq_types.specs.declared.types.Ty.{Ty}
use Rattle.silq_types.specs.declared.values.Value.{Value}
use Rattle.silq_types.specs.Types.{at, fits, shape_eq}
use Rattle.silq_types.specs.declared.need.Need.{Need}
use Rattle.silq_types.specs.declared.need.Need.TheVariants as needs
use Rattle.silq_mean.specs.Written.{needed_at}
use Rattle.silq_mean.specs.Effect.{Effect, step, two_operands, ◌>>◌ as ◌▸◌}
use Rattle.silq_mean.specs.Meaning as meanings
use Rattle.silq_mean.specs.declared.receiver.Receiver.{Receiver}
use Rattle.check_scope.specs.Context.{Scope, Context, Check, ◌>>=◌}
use Rattle.check_scope.specs.Uses.{uses, operand_clash, consume_and_hold}
use Rattle.check_expr.specs.Expression.{origin_of, binary_fits, binary_shape, binary_value, operands, is_tuple, lone_wants, expr, single}
use Rattle.check_expr.specs.Owners.{Gives, Ensures}
use Rattle.check_expr.proofs.Owners.{gives-more, o_bind, o_then, o_from, o_more, o_back, o_if, o_rules, o_result, o_variables}
use Rattle.flat_form.specs.State.{Flattening}
use Rattle.flat_typed.specs.Places.{Places}
use Rattle.flat_typed.specs.Relation.{Outside}
use Rattle.flat_typed.specs.Scopes.{as_meaning, NoStatics}
use Rattle.flat_typed.specs.Done.{Begins, ExprTells}
use Rattle.flat_typed.specs.Lemmas.{Callable, ExpressionIsFine}
use Rattle.flat_typed.proofs.Ordered.{clash}
use Rattle.flat_typed.proofs.Changing.{same_shape}
use Rattle.flat_typed.proofs.Uses.{uses_kinds}
use Rattle.flat_typed.proofs.Tame.{kinds_left, left_then}
use Rattle.flat_typed.proofs.Lasting.{statics_left}
use Rattle.flat_typed.proofs.Leaving.{k_any}
use Rattle.flat_typed.proofs.Turns.{gives_both}
use Rattle.flat_typed.proofs.Reached.{one_of}
use Rattle.flat_typed.proofs.StaticValues.{StaticGiven, o_static}
use Rattle.flat_typed.proofs.StaticTells.{unless_static_told}
use Rattle.flat_typed.proofs.StaticWalks.{static_walk, unasked_walk}
use Rattle.flat_typed.proofs.StaticFirst.{static_turn_tells}
use Rattle.flat_typed.proofs.Following.{Facts, expression_facts, facts_here}
use Rattle.flat_typed.proofs.Unary.{TypedAfter, typed_tells, truly}
use Rattle.flat_typed.proofs.InTurn.{turn_tells}

-- ---- what the walk of the operands tells

-- a second operand, which has its own type, or the one that is asked
pub record Second (sc : Scope) (taker : Ty → Receiver) (b : Expression) (t : Ty) (c : Context) (vs : List Value) (d : Context) : Type 0 where
  pub wants : List Ty
  pub facts : Facts sc taker needs.Held wants b c vs d
  pub fit : (wants ≡ []) ⊎ ((y : Value) → vs ≡ y ∷ [] → y.ty ≡ t)

pub record Turned (sc : Scope) (taker : Ty → Receiver) (a b : Expression) (c : Context) (x : Value) (vs : List Value) (d : Context) : Type 0 where
  pub between : Context
  pub first : Facts sc taker needs.Held [] a c (x ∷ []) between
  pub second : Second sc taker b x.ty between vs d

-- a static first operand, which is told behind the second one
pub record StaticLast (sc : Scope) (taker : Ty → Receiver) (a b : Expression) (c : Context) (y : Value) (vs : List Value) (d : Context) : Type 0 where
  pub between : Context
  pub second : Facts sc taker needs.Held [] b c (y ∷ []) between
  pub first : StaticGiven sc.statics a (y.ty ∷ []) between vs d

abbrev type_in : Ty → List Value → Ty
type_in t [] = t
type_in t (v ∷ vs) = v.ty

abbrev first_type : Ty → List Ty → Ty
first_type t [] = t
first_type t (u ∷ us) = u

-- the type that was asked
asked_type : (sc : Scope) (e : Expression) (t : Ty) (c : Context) (vs : List Value) (d : Context) → StaticGiven sc.statics e (t ∷ []) c vs d → (y : Value) → vs ≡ y ∷ [] → y.ty ≡ t
asked_type sc e t c vs d h y q = ap (type_in t) (sym q ∙ h.values) ∙ sym (ap (first_type t) h.asked)

and_both : (a b : Bool) → (a && b) ≡ true → (a ≡ true) × (b ≡ true)
and_both true b e = (refl, e)
and_both false b e = clash (sym e)

module _ (op : BinaryOp) (a b : Expression) (s : Spot) (fine_a : ExpressionIsFine a) (fine_b : ExpressionIsFine b) (sc : Scope) (taker : Ty → Receiver) (c : Context) (free : NoStatics sc c.vars) where
  abbrev first_walk : List Ty → Check Value
  first_walk w = expr a sc needs.Held (lone_wants a w) >>= single a

  abbrev second_walk : List Ty → Check Value
  second_walk w = expr b sc needs.Held (lone_wants b w) >>= single b

  -- where no type is asked
  unasked : (e : Expression) → ExpressionIsFine e → Ensures (Callable sc) (λ d. d ≡ c) (expr e sc needs.Held (lone_wants e []) >>= single e) (λ v d. (is_tuple e ≡ false) × Facts sc taker needs.Held [] e c (v ∷ []) d)
  unasked e fine = o_bind (Callable sc) 0 walk (λ vs. one_of (Callable sc) (λ vs d. Facts sc taker needs.Held [] e c vs d) e vs)
    where
      none : (t : Bool) → ◌≡◌ {A = List Ty} (cond t [] []) []
      none true = refl
      none false = refl

      walk : Ensures (Callable sc) (λ d. d ≡ c) (expr e sc needs.Held (lone_wants e [])) (λ vs d. is_tuple e ≡ false → Facts sc taker needs.Held [] e c vs d)
      walk = record {
        runs = λ d q.
            subst (λ y. Gives (Callable sc) (λ r. is_tuple e ≡ false → Facts sc taker needs.Held [] e c r.0 r.1) (expr e sc needs.Held (lone_wants e []) y)) (sym q)
            (subst (λ l. Gives (Callable sc) (λ r. is_tuple e ≡ false → Facts sc taker needs.Held [] e c r.0 r.1) (expr e sc needs.Held l c)) (sym (none (is_tuple e))) (facts_here e fine sc taker needs.Held [] c free));
      }

  abbrev IsSecond : Ty → Context → List Value × Context → Type 0
  IsSecond t d r = Second sc taker b t d r.0 r.1

  -- where the type of the first one is asked
  second_at : (t : Ty) (d : Context) → NoStatics sc d.vars → is_tuple b ≡ false → (q : Bool) → is_static sc.statics b ≡ q → Gives (Callable sc) (IsSecond t d) (expr b sc needs.Held (t ∷ []) d)
  second_at t d here z true q =
      gives-more (Callable sc) 0 (λ r. Facts sc taker needs.Held (t ∷ []) b d r.0 r.1 × StaticGiven sc.statics b (t ∷ []) d r.0 r.1) (IsSecond t d) (expr b sc needs.Held (t ∷ []) d)
      (gives_both (Callable sc) (λ r. Facts sc taker needs.Held (t ∷ []) b d r.0 r.1) (λ r. StaticGiven sc.statics b (t ∷ []) d r.0 r.1) (expr b sc needs.Held (t ∷ []) d)
      (expression_facts b fine_b sc taker needs.Held (t ∷ []) d z here)
      (subst (λ (m : Check (List Value)). Gives (Callable sc) (λ r. StaticGiven sc.statics b (t ∷ []) d r.0 r.1) (m d)) (sym (static_walk sc b needs.Held (t ∷ []) q)) ((o_static (Callable sc) d sc b (t ∷ [])).runs d refl)))
      (λ r h. record { wants = t ∷ []; facts = h.0; fit = inr (λ y e. asked_type sc b t d r.0 r.1 h.1 y e) })
  second_at t d here z false q =
      subst (λ (m : Check (List Value)). Gives (Callable sc) (IsSecond t d) (m d)) (sym (unasked_walk sc b needs.Held (t ∷ []) q z))
      (gives-more (Callable sc) 0 (λ r. Facts sc taker needs.Held [] b d r.0 r.1) (IsSecond t d) (expr b sc needs.Held [] d) (expression_facts b fine_b sc taker needs.Held [] d z here)
      (λ r h. record { wants = []; facts = h; fit = inl refl }))

  second_here : (t : Ty) (d : Context) → NoStatics sc d.vars → (z : Bool) → is_tuple b ≡ z → Gives (Callable sc) (λ r. is_tuple b ≡ false → IsSecond t d r) (expr b sc needs.Held (lone_wants b (t ∷ [])) d)
  second_here t d here true z =
      gives-more (Callable sc) 0 (λ r. ⊤) (λ r. is_tuple b ≡ false → IsSecond t d r) (expr b sc needs.Held (lone_wants b (t ∷ [])) d) ((k_any (Callable sc) 0 {P = λ g. ⊤} (expr b sc needs.Held (lone_wants b (t ∷ [])))).runs d tt) (λ r h y. clash (sym z ∙ y))
  second_here t d here false z =
      subst (λ l. Gives (Callable sc) (λ r. is_tuple b ≡ false → IsSecond t d r) (expr b sc needs.Held l d)) (sym (ap (λ k. cond k [] (t ∷ [])) z))
      (gives-more (Callable sc) 0 (IsSecond t d) (λ r. is_tuple b ≡ false → IsSecond t d r) (expr b sc needs.Held (t ∷ []) d) (second_at t d here z (is_static sc.statics b) refl) (λ r h y. h))

  abbrev IsTurned : Value → List Value → Context → Type 0
  IsTurned x vs d = Turned sc taker a b c x vs d

  abbrev IsLast : Value → List Value → Context → Type 0
  IsLast y vs d = StaticLast sc taker a b c y vs d

  second_told : (x : Value) → Ensures (Callable sc) (λ d. (is_tuple a ≡ false) × Facts sc taker needs.Held [] a c (x ∷ []) d) (second_walk (x.ty ∷ [])) (λ y d. (is_tuple b ≡ false) × IsTurned x (y ∷ []) d)
  second_told x = o_bind (Callable sc) 0 walk (λ vs. one_of (Callable sc) (IsTurned x) b vs)
    where
      walk : Ensures (Callable sc) (λ d. (is_tuple a ≡ false) × Facts sc taker needs.Held [] a c (x ∷ []) d) (expr b sc needs.Held (lone_wants b (x.ty ∷ []))) (λ vs d. is_tuple b ≡ false → IsTurned x vs d)
      walk = record {
        runs = λ d h.
            gives-more (Callable sc) 0 (λ r. is_tuple b ≡ false → IsSecond x.ty d r) (λ r. is_tuple b ≡ false → IsTurned x r.0 r.1) (expr b sc needs.Held (lone_wants b (x.ty ∷ [])) d)
            (second_here x.ty d (statics_left sc c.vars d.vars h.1.left free) (is_tuple b) refl) (λ r k z. record { between = d; first = h.1; second = k z });
      }

  static_told : is_static sc.statics a ≡ true → (y : Value) → Ensures (Callable sc) (λ d. (is_tuple b ≡ false) × Facts sc taker needs.Held [] b c (y ∷ []) d) (first_walk (y.ty ∷ [])) (λ x d. (is_tuple a ≡ false) × IsLast y (x ∷ []) d)
  static_told q y = o_bind (Callable sc) 0 (walk (is_tuple a) refl) (λ vs. one_of (Callable sc) (IsLast y) a vs)
    where
      Given : Context → List Value × Context → Type 0
      Given d r = StaticGiven sc.statics a (y.ty ∷ []) d r.0 r.1

      walk : (z : Bool) → is_tuple a ≡ z → Ensures (Callable sc) (λ d. (is_tuple b ≡ false) × Facts sc taker needs.Held [] b c (y ∷ []) d) (expr a sc needs.Held (lone_wants a (y.ty ∷ []))) (λ vs d. is_tuple a ≡ false → IsLast y vs d)
      walk true z = o_more (Callable sc) 0 (k_any (Callable sc) 0 (expr a sc needs.Held (lone_wants a (y.ty ∷ [])))) (λ vs d h k. clash (sym z ∙ k))
      walk false z = record {
        runs = λ d h.
            gives-more (Callable sc) 0 (Given d) (λ r. is_tuple a ≡ false → IsLast y r.0 r.1) (expr a sc needs.Held (lone_wants a (y.ty ∷ [])) d)
            (subst (λ l. Gives (Callable sc) (Given d) (expr a sc needs.Held l d)) (sym (ap (λ k. cond k [] (y.ty ∷ [])) z))
            (subst (λ (m : Check (List Value)). Gives (Callable sc) (Given d) (m d)) (sym (static_walk sc a needs.Held (y.ty ∷ []) q)) ((o_static (Callable sc) d sc a (y.ty ∷ [])).runs d refl)))
            (λ r g k. record { between = d; second = h.1; first = g });
      }

  abbrev Pair : Value → Value → Context → Type 0
  Pair x y d = IsTurned x (y ∷ []) d ⊎ ((is_static sc.statics a ≡ true) × IsLast y (x ∷ []) d)

  operands_tell : Ensures (Callable sc) (λ d. d ≡ c) (operands sc a first_walk second_walk) (λ r d. Pair r.0 r.1 d)
  operands_tell = o_if (Callable sc) 0 (is_static sc.statics a)
      (λ q. o_bind (Callable sc) 0 (o_result (Callable sc) 0 (needed_at sc.statics a (at a))) (λ z. o_bind (Callable sc) 0 (o_from (Callable sc) 0 (λ d h. h.1) (unasked b fine_b)) (λ y. o_bind (Callable sc) 0 (static_told q y) (λ x. o_back (Callable sc) 0 (x, y) (λ d h. inr (q, h.1))))))
      (λ q. o_bind (Callable sc) 0 (unasked a fine_a) (λ x. o_bind (Callable sc) 0 (second_told x) (λ y. o_back (Callable sc) 0 (x, y) (λ d h. inl h.1))))

  -- ---- the value

  pub record Joined (x y : Value) (d : Context) : Type 0 where
    pub shape : shape_eq x.ty.shape y.ty.shape ≡ true
    pub ok : binary_fits op x.ty.shape ≡ true
    pub apart : operand_clash sc a b d.vars ≡ false
    pub pair : Pair x y d

  value_tells : (x y : Value) → Ensures (Callable sc) (Pair x y) (binary_value sc op a b s x y) (TypedAfter (Joined x y) (x.ty.classical && y.ty.classical) (binary_shape op x.ty.shape))
  value_tells x y =
      o_bind (Callable sc) 0 (o_variables (Callable sc) 0) (λ vars. o_then (Callable sc) 0 (o_rules (Callable sc) 0 s _) (λ u.
      o_from (Callable sc) 0 (λ d h. let k = and_both (shape_eq x.ty.shape y.ty.shape) (binary_fits op x.ty.shape) (truly (shape_eq x.ty.shape y.ty.shape && binary_fits op x.ty.shape) h.0.0) in
      record { shape = k.0; ok = k.1; apart = ap (operand_clash sc a b) (sym h.1.0) ∙ h.0.1.0; pair = h.1.1 }) (typed_tells (Callable sc) (Joined x y) (x.ty.classical && y.ty.classical) (binary_shape op x.ty.shape))))

  module _ (need : Need) (wants : List Ty) where
    abbrev effect : Effect
    effect = meanings.expr a (as_meaning taker sc) needs.Held ▸ meanings.expr b (as_meaning taker sc) needs.Held ▸ step (two_operands op)

    abbrev Ends : List Value → Context → Type 0
    Ends ws d =
        (out : Outside) (low : ℕ) (others : ℕ → ℕ) (W : Places) (under : List Value) (st : Flattening) → Begins out sc low others W under (uses a sc c.vars needs.Held ++ uses b sc c.vars needs.Held) c st
        → ExprTells out sc need wants effect W under (uses a sc c.vars needs.Held ++ uses b sc c.vars needs.Held) c st ws d

    abbrev made : Value → Value → Context → Value
    made x y d = record { ty = record { classical = x.ty.classical && y.ty.classical; shape = binary_shape op x.ty.shape }; origin = origin_of (x.ty.classical && y.ty.classical); place = d.next }

    ends_pair : (x y : Value) (d : Context) → Joined x y d → Pair x y d → Ends (made x y d ∷ []) (record d { next = suc d.next })
    ends_pair x y d j (inl t) = λ out low others W under st begun.
        turn_tells op a b sc taker [] t.second.wants c t.between d x y t.first t.second.facts refl (fit t.second.fit) (same_shape x.ty.shape y.ty.shape j.shape) j.ok apart need wants out low others W under st begun
      where
        fit : (t.second.wants ≡ []) ⊎ ((v : Value) → y ∷ [] ≡ v ∷ [] → v.ty ≡ x.ty) → (t.second.wants ≡ []) ⊎ (y.ty ≡ x.ty)
        fit (inl e) = inl e
        fit (inr f) = inr (f y refl)

        apart : consume_and_hold (uses a sc c.vars needs.Held) (uses b sc t.between.vars needs.Held) ≡ false
        apart =
            ap₂ consume_and_hold (uses_kinds a sc c.vars d.vars needs.Held (kinds_left c.vars d.vars (left_then c.vars t.between.vars d.vars t.first.left t.second.facts.left))) (uses_kinds b sc t.between.vars d.vars needs.Held (kinds_left t.between.vars d.vars t.second.facts.left))
            ∙ j.apart
    ends_pair x y d j (inr p) =
        subst (λ f. Ends (made x y f ∷ []) (record f { next = suc f.next })) (sym p.1.first.left)
        (λ out low others W under st begun. static_turn_tells op a b sc taker c p.1.between x y free p.0 p.1.second suits (asked_type sc a y.ty p.1.between (x ∷ []) d p.1.first x refl) j.ok need wants out low others W under st begun)
      where
        suits : fits x.ty.shape (meanings.static_value sc.statics a) ≡ true
        suits = ap (λ (t : Ty). fits t.shape (meanings.static_value sc.statics a)) (ap (type_in x.ty) p.1.first.values) ∙ p.1.first.suits

    ends : (x y : Value) (ws : List Value) (d : Context) → TypedAfter (Joined x y) (x.ty.classical && y.ty.classical) (binary_shape op x.ty.shape) ws d → Ends ws d
    ends x y ws d k = subst (λ l. Ends l d) (sym k.values) (subst (λ f. Ends (made x y k.before ∷ []) f) (sym k.left) (ends_pair x y k.before k.is k.is.pair))

    pub binary_does : Gives (Callable sc) (λ r. Ends r.0 r.1) ((operands sc a first_walk second_walk >>= (λ r. binary_value sc op a b s r.0 r.1)) c)
    binary_does = (o_bind (Callable sc) 0 operands_tell (λ r. o_more (Callable sc) 0 (value_tells r.0 r.1) (λ ws d k. ends r.0 r.1 ws d k))).runs c refl

-- ---- the law

pub binary_is_fine : (op : BinaryOp) (a b : Expression) (s : Spot) → ExpressionIsFine a → ExpressionIsFine b → ExpressionIsFine (binary op a b s)
binary_is_fine op a b s fine_a fine_b sc taker need wants c t free =
    unless_static_told sc need wants c (binary op a b s) (operands sc a (λ w. expr a sc needs.Held (lone_wants a w) >>= single a) (λ w. expr b sc needs.Held (lone_wants b w) >>= single b) >>= (λ r. binary_value sc op a b s r.0 r.1))
    (meanings.expr a (as_meaning taker sc) needs.Held ▸ meanings.expr b (as_meaning taker sc) needs.Held ▸ step (two_operands op)) (uses a sc c.vars needs.Held ++ uses b sc c.vars needs.Held)
    (λ q. binary_does op a b s fine_a fine_b sc taker c free need wants)
