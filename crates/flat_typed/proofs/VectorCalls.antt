-- The walk of `vector`: a static length, and a number with a type.
use Rattle.std.proofs.Common.{◌≡◌, ◌⊎◌, ℕ, suc, ◌+◌, Bool, true, false, cond, not, ◌&&◌, List, [], ◌∷◌, ◌++◌, refl, sym, ap, ap₂, ◌∙◌, subst, arith}
use Rattle.std.specs.Prelude.{ℤ, Ok}
use Rattle.std.proofs.lemmas.List.{append-nil}
use Rattle.silq_tree.specs.declared.node.Spot.{Spot}
use Rattle.silq_tree.specs.Syntax.{Expression, Expressions, number, typed_number, truth, pi, place, called, tuple, unary, binary, none, more, whole, part, part_of_part}
use Rattle.static_num.specs.Static.{is_static, value}
use Rattle.silq_types.specs.declared.built_in.BuiltIn.TheVariants.{Vector}
use Rattle.silq_types.specs.declared.types.Ty.{Ty}
use Rattle.silq_types.specs.declared.types.Scalar.{Scalar}
use Rattle.silq_types.specs.declared.types.Scalar.TheVariants as scalars
use Rattle.silq_types.specs.declared.values.Origin.TheVariants.{Lifted}
use Rattle.silq_types.specs.declared.values.Value.{Value}
use Rattle.silq_types.specs.declared.signature.InstanceKey.{InstanceKey}
use Rattle.silq_types.specs.declared.signature.Signature.{Signature}
use Rattle.silq_types.specs.Types.{at, quantum, single_shape, is_scalar, count}
use Rattle.silq_types.specs.declared.need.Need.{Need}
use Rattle.silq_types.specs.declared.need.Need.TheVariants as needs
use Rattle.silq_mean.specs.Written.{needed_at, is_count, most_items}
use Rattle.check_scope.specs.declared.uses.Use.{Use}
use Rattle.check_scope.specs.Context.{Scope, Context, ◌>>=◌, ◌>>◌, known_names}
use Rattle.check_scope.specs.Uses.{uses, all_uses}
use Rattle.check_expr.specs.Expression.{is_tuple, repeated as many_of, all_typed, is_typed, length_value, vector_value, many, expr, arguments, later_arguments, lone_need, lone_wants, first_asked}
use Rattle.check_expr.specs.Owners.{Ensures, handed}
use Rattle.check_expr.proofs.Owners.{o_bind, o_then, o_back, o_more, o_fail, o_if, o_result, o_rules, o_names, o_suits}
use Rattle.silq_mean.specs.declared.receiver.Receiver.{Receiver}
use Rattle.silq_mean.specs.Effect.{Effect, nothing, ◌>>◌ as ◌▸◌, step, give_static, give_part, one_operand, two_operands, repeat_last}
use Rattle.silq_mean.specs.Meaning as meanings
use Rattle.flat_form.specs.State.{Flattening, push}
use Rattle.flat_form.specs.declared.known.Known.TheVariants.{Static}
use Rattle.flat_form.specs.Names.{AllOf}
use Rattle.flat_typed.specs.Scopes.{as_meaning, NoStatics}
use Rattle.flat_typed.specs.Lemmas.{Callable, ExpressionIsFine, EachIsFine}
use Rattle.flat_typed.proofs.Ordered.{clash}
use Rattle.flat_typed.proofs.Leaving.{k_any}
use Rattle.flat_typed.proofs.Turns.{gives_both}
use Rattle.flat_typed.proofs.Scopes.{static_is}
use Rattle.flat_typed.proofs.UsesThere.{no_uses}
use Rattle.flat_typed.proofs.Numbers.{TypedGiven, o_number}
use Rattle.flat_typed.proofs.Reached.{one_of}
use Rattle.flat_typed.proofs.Surrounding.{good_behind}
use Rattle.flat_typed.proofs.Repeating.{begins_static, vector_tells}
use Rattle.flat_typed.proofs.OneArgument.{Tells, Walked, Argument, argument_walked, later_next}
use Rattle.flat_typed.proofs.GateCalls.{not_false}
use Rattle.flat_typed.proofs.GateWalks.{NewOne, one_new}

-- ---- the effect of a static expression

pub static_effect : (a : Expression) (sc : meanings.Scope) (need : Need) → is_static sc.statics a ≡ true → meanings.expr a sc need ≡ step (give_static (meanings.static_value sc.statics a))
unfolding is_static value
static_effect (number n s) sc need e = refl
static_effect (truth b s) sc need e = refl
static_effect (place (whole x) s) sc need e = ap (λ t. cond t (step (give_static (meanings.static_value sc.statics (place (whole x) s)))) (step (give_part need x []))) e
static_effect (unary op a s) sc need e = ap (λ t. cond t (step (give_static (meanings.static_value sc.statics (unary op a s)))) (meanings.expr a sc needs.Held ▸ step (one_operand op))) e
static_effect (binary op a b s) sc need e = ap (λ t. cond t (step (give_static (meanings.static_value sc.statics (binary op a b s)))) (meanings.expr a sc needs.Held ▸ meanings.expr b sc needs.Held ▸ step (two_operands op))) e
static_effect (place (part x i) s) sc need e = clash (sym e)
static_effect (place (part_of_part x i j) s) sc need e = clash (sym e)
static_effect (typed_number n k s) sc need e = clash (sym e)
static_effect (pi s) sc need e = clash (sym e)
static_effect (called f ss args s) sc need e = clash (sym e)
static_effect (tuple es s) sc need e = clash (sym e)

-- ---- the number

scalar_single : (k : Scalar) → is_scalar (single_shape k) ≡ true
scalar_single scalars.Bit = refl
scalar_single (scalars.UInt n) = refl
scalar_single (scalars.Int n) = refl

abbrev Scalars : List Value → Type 0
Scalars vs = AllOf (λ (v : Value). is_scalar v.ty.shape ≡ true) vs

module _ (S : InstanceKey → Signature → Type 0) (sc : Scope) (c : Context) where
  number_walk : (e : Expression) → is_typed e ≡ true → Ensures S (λ d. d ≡ c) (expr e sc (lone_need e needs.Held) (lone_wants e [])) (λ vs d. is_tuple e ≡ false → Scalars vs)
  number_walk (typed_number n k s) t = o_more S 0 (o_number S c sc k s n) (λ vs d h z. subst Scalars (sym h.values) (scalar_single (meanings.scalar_of sc.statics k s), tt))
  number_walk (number n s) t = clash (sym t)
  number_walk (truth b s) t = clash (sym t)
  number_walk (pi s) t = clash (sym t)
  number_walk (place p s) t = clash (sym t)
  number_walk (called f ss args s) t = clash (sym t)
  number_walk (tuple es s) t = clash (sym t)
  number_walk (unary op a s) t = clash (sym t)
  number_walk (binary op a b s) t = clash (sym t)

  scalar_walk : (e : Expression) → is_typed e ≡ true → Ensures S (λ d. d ≡ c) (arguments (more e none) sc needs.Held []) (λ vs d. Scalars vs)
  scalar_walk e t =
      o_bind S 0 (number_walk e t) (λ vs. o_bind S 0 (one_of S (λ vs d. Scalars vs) e vs) (λ v. o_then S 0 (o_suits S 0 e [] v) (λ u.
      o_bind S 0 (o_back S 0 [] {Q = λ rest d. (rest ≡ []) × Scalars (v ∷ [])} (λ d h. (refl, h.1))) (λ rest. o_back S 0 (v ∷ rest) (λ d h. subst (λ l. Scalars (v ∷ l)) (sym h.0) h.1)))))

  -- where it has a type
  typed_walk : (e : Expression) → Ensures S (λ d. d ≡ c) (arguments (more e none) sc needs.Held []) (λ vs d. is_typed e ≡ true → Scalars vs)
  typed_walk e = go (is_typed e) refl
    where
      go : (t : Bool) → is_typed e ≡ t → Ensures S (λ d. d ≡ c) (arguments (more e none) sc needs.Held []) (λ vs d. is_typed e ≡ true → Scalars vs)
      go true t = o_more S 0 (scalar_walk e t) (λ vs d h z. h)
      go false t = o_more S 0 (k_any S 0 (arguments (more e none) sc needs.Held [])) (λ vs d h z. clash (sym z ∙ t))

  -- the length, where it is static
  length_walk : (a : Expression) → Ensures S (λ d. d ≡ c) (length_value sc a) (λ m d. (is_static sc.statics a ≡ true → meanings.static_value sc.statics a ≡ m) × (d ≡ c))
  length_walk a = o_if S 0 (is_static sc.statics a)
      (λ t. o_more S 0 (o_result S 0 (needed_at sc.statics a (at a))) (λ m d h. (λ z. static_is sc.statics a (at a) m h.0, h.1)))
      (λ t. o_back S 0 _ (λ d h. (λ z. clash (sym z ∙ t), h)))

-- ---- both

module _ (sc : Scope) (taker : Ty → Receiver) (need : Need) (wants : List Ty) (c : Context) (s : Spot) (a e : Expression) (fine : ExpressionIsFine e) (free : NoStatics sc c.vars) where
  abbrev VectorTells : List Value → Context → Type 0
  VectorTells vs d = Tells sc need wants (meanings.exprs (more a (more e none)) (as_meaning taker sc) needs.Held [] [] ▸ step repeat_last) (all_uses (more a (more e none)) sc c.vars []) c vs d

  -- what the walks so far tell
  pub record Ready (m : ℤ) (vs : List Value) (d : Context) : Type 0 where
    pub length : is_static sc.statics a ≡ true → meanings.static_value sc.statics a ≡ m
    pub number : is_typed e ≡ true → Scalars vs
    pub argument : Argument sc taker needs.Held e c vs d

  both_walk : Ensures (Callable sc) (λ d. d ≡ c) (arguments (more e none) sc needs.Held []) (λ vs d. (is_typed e ≡ true → Scalars vs) × Argument sc taker needs.Held e c vs d)
  both_walk = record {
    runs = λ d q. gives_both (Callable sc) (λ r. is_typed e ≡ true → Scalars r.0) (λ r. Argument sc taker needs.Held e c r.0 r.1) (arguments (more e none) sc needs.Held [] d)
        ((typed_walk (Callable sc) sc c e).runs d q) ((argument_walked e fine sc taker c free needs.Held [] refl).runs d q);
  }

  both_true : (x y : Bool) → (x && y) ≡ true → (x ≡ true) × (y ≡ true)
  both_true true y h = (refl, h)
  both_true false y h = clash (sym h)

  vector_called : (m : ℤ) (v : Value) (d : Context) → is_static sc.statics a ≡ true → meanings.static_value sc.statics a ≡ m → is_scalar v.ty.shape ≡ true → Walked sc taker needs.Held e c (v ∷ []) d
      → VectorTells (record { ty = quantum (many_of v.ty.shape m); origin = Lifted; place = d.next } ∷ []) (record d { next = suc d.next })
  vector_called m v d static length scalar w =
      subst (λ us. Tells sc need wants (meanings.exprs (more a (more e none)) (as_meaning taker sc) needs.Held [] [] ▸ step repeat_last) us c made behind) (sym uses_are)
      (subst (λ f. Tells sc need wants (f ▸ nothing ▸ (E ▸ nothing ▸ nothing) ▸ step repeat_last) us c made behind) (sym (static_effect a (as_meaning taker sc) needs.Held static ∙ ap (λ z. step (give_static z)) length))
      (λ out low others W under st b.
      let b1 = begins_static out sc low others W under us c st m b in
      let t = w.tells out low others W under (push (Static m) st) b1 in
      vector_tells out sc need wants E W under us c st m v d t
      (good_behind out sc low others W under us c (push (Static m) st) b1 needs.Held E (v ∷ []) d t.done (w.told W b.stands.parts).1.0)
      (later_next low others c d (λ p. handed needs.Held p (v ∷ [])) b.sole w.sole) scalar))
    where
      E : Effect
      E = meanings.expr e (as_meaning taker sc) needs.Held

      us : List Use
      us = uses e sc c.vars needs.Held

      made : List Value
      made = record { ty = quantum (many_of v.ty.shape m); origin = Lifted; place = d.next } ∷ []

      behind : Context
      behind = record d { next = suc d.next }

      uses_are : all_uses (more a (more e none)) sc c.vars [] ≡ uses e sc c.vars needs.Held
      uses_are = ap (λ l. l ++ (uses e sc c.vars needs.Held ++ [])) (no_uses (Callable sc) 0 (λ p. []) c.vars sc free a needs.Held static) ∙ append-nil (uses e sc c.vars needs.Held)

  many_walk : (m : ℤ) (vs : List Value) → is_static sc.statics a ≡ true → is_typed e ≡ true → Ensures (Callable sc) (λ d. Ready m vs d) (many s vs m) (λ zs f. VectorTells zs f)
  many_walk m [] static typed = o_fail (Callable sc) 0 _
  many_walk m (v ∷ (w ∷ vs)) static typed = o_fail (Callable sc) 0 _
  many_walk m (v ∷ []) static typed = o_more (Callable sc) 0 (one_new (Callable sc) (quantum (many_of v.ty.shape m)) Lifted) (λ zs f h.
      subst (λ l. VectorTells l f) (sym h.2.values) (subst (λ g. VectorTells (record { ty = quantum (many_of v.ty.shape m); origin = Lifted; place = h.0.next } ∷ []) g) (sym h.2.left)
      (vector_called m v h.0 static (h.1.length static) (h.1.number typed).0 (subst (λ l. Walked sc taker needs.Held e c l h.0) (sym h.1.argument.all) h.1.argument.walked))))

  pub vector_walk : Ensures (Callable sc) (λ d. d ≡ c) (vector_value sc s (more a (more e none)) (later_arguments (more a (more e none)) sc)) (λ vs d. VectorTells vs d)
  vector_walk =
      o_then (Callable sc) 0 (o_names (Callable sc) 0 sc a) (λ u. o_bind (Callable sc) 0 (length_walk (Callable sc) sc c a) (λ m.
      o_bind (Callable sc) 0 {Q = λ vs d. Ready m vs d} (record { runs = λ d h. (o_more (Callable sc) 0 both_walk (λ vs f k. record { length = h.0; number = k.0; argument = k.1 })).runs d h.1 }) (λ vs.
      o_then (Callable sc) 0 (o_rules (Callable sc) 0 s _) (λ u'. record {
        runs = λ d h.
            let t = both_true (is_static sc.statics a) (is_typed e && true) (not_false (is_static sc.statics a && (is_typed e && true)) h.0.0) in
            (many_walk m vs t.0 (both_true (is_typed e) true t.1).0).runs d h.1;
      }))))
