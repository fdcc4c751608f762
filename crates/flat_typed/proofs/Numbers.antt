-- Numbers as expressions: static ones, numbers with a type, and truth values.
use Rattle.std.proofs.Common.{◌≡◌, ℕ, suc, Bool, true, false, cond, ◌&&◌, List, [], ◌∷◌, ◌++◌, map, refl, sym, ap, ◌∙◌, subst, arith}
use Rattle.std.specs.Prelude.{ℤ}
use Rattle.silq_tree.specs.declared.node.Spot.{Spot}
use Rattle.silq_tree.specs.Syntax.{ScalarType, number, typed_number, truth, pi}
use Rattle.static_num.specs.Static.{is_static, value, number_of}
use Rattle.silq_types.specs.declared.types.Scalar.{Scalar}
use Rattle.silq_types.specs.declared.types.Ty.{Ty}
use Rattle.silq_types.specs.declared.values.Value.{Value}
use Rattle.silq_types.specs.declared.values.Origin.TheVariants.{Lifted}
use Rattle.silq_types.specs.Types.{Statics, quantum, single_shape, scalar_bits}
use Rattle.silq_types.specs.declared.need.Need.{Need}
use Rattle.silq_types.specs.declared.signature.InstanceKey.{InstanceKey}
use Rattle.silq_types.specs.declared.signature.Signature.{Signature}
use Rattle.silq_types.specs.Calls.{is_consumed}
use Rattle.silq_mean.specs.Written.{scalar_type}
use Rattle.silq_mean.specs.Value.{low_bits, modulo, modulus}
use Rattle.check_scope.specs.declared.uses.Use.{Use}
use Rattle.check_scope.specs.Context.{Scope, Context, ◌>>=◌, give_back, is_known_name}
use Rattle.check_scope.specs.Uses.{scalar_uses}
use Rattle.check_expr.specs.Expression.{static_value, typed_value}
use Rattle.check_expr.specs.Owners.{Ensures}
use Rattle.check_expr.proofs.Owners.{gives-more, o_bind, o_then, o_back, o_rules, o_result, o_variables}
use Rattle.check_scope.specs.Places.{new_value}
use Rattle.silq_mean.specs.Effect.{Effect, step, give_static, give_typed}
use Rattle.silq_mean.specs.Meaning as meanings
use Rattle.flat_core.specs.declared.step.WireId.{WireId}
use Rattle.bit_arith.specs.declared.operand.Operand.{Operand}
use Rattle.bit_arith.specs.declared.operand.Operand.TheVariants.{Const}
use Rattle.flat_form.specs.declared.known.Known.{Known}
use Rattle.flat_form.specs.State.{Flattening, wires_so_far, typed}
use Rattle.flat_form.specs.Flat.{flat}
use Rattle.flat_typed.specs.Places.{Places, times_in}
use Rattle.flat_typed.specs.Footprint.{consumed_wires}
use Rattle.flat_typed.specs.Relation.{Outside, Stands}
use Rattle.flat_typed.specs.Done.{Begins, ExprDone, ExprTells}
use Rattle.flat_typed.specs.Lemmas.{Callable, ExprFine, ExpressionIsFine}
use Rattle.flat_typed.proofs.Ordered.{clash}
use Rattle.flat_typed.proofs.Using.{touches_none}
use Rattle.flat_typed.proofs.Placing.{stands_pushed}
use Rattle.flat_typed.proofs.Receiving.{consts_none, consts_unnamed}
use Rattle.flat_typed.proofs.Scopes.{scalar_is}
use Rattle.flat_typed.proofs.Variables.{stands_vars}
use Rattle.flat_typed.proofs.StaticValues.{static_is_fine}

-- ---- a number by itself

number_static : (statics : Statics) (n : ℤ) (s : Spot) → meanings.static_value statics (number n s) ≡ n
unfolding is_static value
number_static statics n s = refl

truth_static : (statics : Statics) (b : Bool) (s : Spot) → meanings.static_value statics (truth b s) ≡ number_of b
unfolding is_static value
truth_static statics b s = refl

pub number_is_fine : (n : ℤ) (s : Spot) → ExpressionIsFine (number n s)
number_is_fine n s sc taker need wants c t free =
    subst (λ z. ExprFine sc need wants c (static_value sc (number n s) wants) (step (give_static z)) []) (number_static sc.statics n s) (static_is_fine sc need wants c (number n s) [])

pub truth_is_fine : (b : Bool) (s : Spot) → ExpressionIsFine (truth b s)
truth_is_fine b s sc taker need wants c t free =
    subst (λ z. ExprFine sc need wants c (static_value sc (truth b s) wants) (step (give_static z)) []) (truth_static sc.statics b s) (static_is_fine sc need wants c (truth b s) [])

pub pi_is_fine : (s : Spot) → ExpressionIsFine (pi s)
pi_is_fine s sc taker need wants c t free = tt

-- ---- a number with a type

pub record TypedGiven (statics : Statics) (k : ScalarType) (s : Spot) (c : Context) (vs : List Value) (d : Context) : Type 0 where
  pub values : vs ≡ record { ty = quantum (single_shape (meanings.scalar_of statics k s)); origin = Lifted; place = c.next } ∷ []
  pub left : d ≡ record c { next = suc c.next }

module _ (S : InstanceKey → Signature → Type 0) (c : Context) (sc : Scope) (k : ScalarType) (s : Spot) where
  o_new : (t : Scalar) → meanings.scalar_of sc.statics k s ≡ t → Ensures S (λ d. d ≡ c) (new_value (quantum (single_shape t)) Lifted) (λ v d. TypedGiven sc.statics k s c (v ∷ []) d)
  unfolding ◌>>=◌
  o_new t e = record {
    runs = λ d h. record {
      values = ap (λ (b : Context). record { ty = quantum (single_shape t); origin = Lifted; place = b.next } ∷ []) h ∙ ap (λ r. record { ty = quantum (single_shape r); origin = Lifted; place = c.next } ∷ []) (sym e);
      left = ap (λ (b : Context). record b { next = suc b.next }) h;
    };
  }

  o_typed : (n : ℤ) → Ensures S (λ d. d ≡ c) (typed_value sc n k s) (λ v d. TypedGiven sc.statics k s c (v ∷ []) d)
  o_typed n =
      o_bind S 0 (o_variables S 0) (λ vars. o_bind S 0 (o_result S 0 (scalar_type sc.statics (is_known_name sc vars) k s)) (λ t. o_then S 0 (o_rules S 0 s _) (λ u.
      record { runs = λ d h. (o_new t (scalar_is sc.statics (is_known_name sc vars) k s t h.1.0)).runs d h.1.1.1 })))

  pub o_number : (n : ℤ) → Ensures S (λ d. d ≡ c) (typed_value sc n k s >>= (λ v. give_back (v ∷ []))) (λ vs d. TypedGiven sc.statics k s c vs d)
  o_number n = o_bind S 0 (o_typed n) (λ v. o_back S 0 (v ∷ []) (λ d h. h))

module _ (out : Outside) (sc : Scope) (low : ℕ) (others : ℕ → ℕ) (W : Places) (under : List Value) (us : List Use) (c : Context) (st : Flattening) (need : Need) (k : Scalar) (n : ℤ) where
  abbrev E : Effect
  E = step (give_typed k n)

  abbrev given : Known
  given = typed (wires_so_far st) k n

  abbrev bits : List Operand
  bits = map (λ b. Const b) (low_bits (scalar_bits k) (modulo n (modulus k)))

  abbrev typed_one : Value
  typed_one = record { ty = quantum (single_shape k); origin = Lifted; place = c.next }

  abbrev left : Context
  left = record c { next = suc c.next }

  none_carried : (b : Bool) → cond (b && false) (typed_one ∷ []) [] ≡ []
  none_carried true = refl
  none_carried false = refl

  none : (w : WireId) → times_in w bits ≡ 0
  none w = consts_none w (low_bits (scalar_bits k) (modulo n (modulus k)))

  typed_done : Begins out sc low others W under us c st → ExprDone out sc need E W under us c st (typed_one ∷ []) left
  typed_done b = record {
    fine = tt;
    after = W;
    agree = λ p l. refl;
    answers = given ∷ [];
    values = refl;
    each = (
      record {
        typed = (refl, refl);
        handed = λ q. refl;
        own = λ q e. clash (sym e);
        borrowed = λ q i. (omega arith, refl);
        moved = λ e. clash (sym e);
        within = λ w e. clash (sym e ∙ consts_unnamed w (low_bits (scalar_bits k) (modulo n (modulus k))));
        began = omega arith;
        differ = λ w le. let a = none w in omega (arith, a);
      },
      tt,
    );
    stands =
        subst (λ l. Stands out sc.held W (l ++ under) left (flat E st)) (sym (none_carried (is_consumed need)))
        (stands_pushed out sc.held W under left st st.built (given ∷ st.values) (stands_vars out sc.held W under c left st refl b.stands));
    kinds_stay = refl;
    leaves = record { setting = refl; callers = refl; blocks = refl; names = refl };
    touches = touches_none (consumed_wires W c.vars us) st.built.draft;
    plain = λ q w m. m;
    unmade = b.unmade;
  }

  typed_tells : (wants : List Ty) → Begins out sc low others W under us c st → ExprTells out sc need wants E W under us c st (typed_one ∷ []) left
  unfolding typed_done
  typed_tells wants b = record {
    done = typed_done b;
    sharing = (record { shares = λ e. clash (sym e); new = λ q e. clash (sym e); lifted = λ q e. clash (sym e) }, tt);
    typed = λ e. (tt, tt);
    untold = (λ w le. let a = none w in absurd (omega (arith, a, le)), tt);
    several = tt;
  }

pub typed_number_is_fine : (n : ℤ) (k : ScalarType) (s : Spot) → ExpressionIsFine (typed_number n k s)
typed_number_is_fine n k s sc taker need wants c t free =
    gives-more (Callable sc) 0 (λ r. TypedGiven sc.statics k s c r.0 r.1)
    (λ r. (out : Outside) (low : ℕ) (others : ℕ → ℕ) (W : Places) (under : List Value) (st : Flattening) → Begins out sc low others W under (scalar_uses k sc c.vars) c st → ExprTells out sc need wants (step (give_typed (meanings.scalar_of sc.statics k s) n)) W under (scalar_uses k sc c.vars) c st r.0 r.1)
    ((typed_value sc n k s >>= (λ v. give_back (v ∷ []))) c) ((o_number (Callable sc) c sc k s n).runs c refl)
    (λ r h out low others W under st b.
    subst (λ vs. ExprTells out sc need wants (step (give_typed (meanings.scalar_of sc.statics k s) n)) W under (scalar_uses k sc c.vars) c st vs r.1) (sym h.values)
    (subst (λ d. ExprTells out sc need wants (step (give_typed (meanings.scalar_of sc.statics k s) n)) W under (scalar_uses k sc c.vars) c st (record { ty = quantum (single_shape (meanings.scalar_of sc.statics k s)); origin = Lifted; place = c.next } ∷ []) d) (sym h.left)
    (typed_tells out sc low others W under (scalar_uses k sc c.vars) c st need (meanings.scalar_of sc.statics k s) n wants b)))
