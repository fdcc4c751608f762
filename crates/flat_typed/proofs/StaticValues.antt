-- A static expression gives its number, which takes the type that is asked where it stands.
use Rattle.std.proofs.Common.{◌≡◌, ℕ, suc, Bool, true, false, cond, not, ◌&&◌, List, [], ◌∷◌, ◌++◌, refl, sym, ap, ◌∙◌, subst, arith}
use Rattle.silq_tree.specs.Syntax.{Expression}
use Rattle.static_num.specs.Static.{is_static}
use Rattle.silq_types.specs.declared.types.Ty.{Ty}
use Rattle.silq_types.specs.declared.values.Value.{Value}
use Rattle.silq_types.specs.Types.{Statics, at, fits, is_held, is_linear}
use Rattle.silq_types.specs.declared.need.Need.{Need}
use Rattle.silq_types.specs.declared.signature.InstanceKey.{InstanceKey}
use Rattle.silq_types.specs.declared.signature.Signature.{Signature}
use Rattle.silq_types.specs.Calls.{is_consumed}
use Rattle.silq_mean.specs.Written.{needed_at}
use Rattle.check_scope.specs.declared.uses.Use.{Use}
use Rattle.check_scope.specs.Context.{Scope, Context, Check, ◌>>=◌}
use Rattle.check_expr.specs.Expression.{origin_of, one_value, static_value, unless_static}
use Rattle.check_expr.specs.Owners.{Ensures}
use Rattle.check_expr.proofs.Owners.{gives-more, o_bind, o_then, o_fail, o_rules, o_result}
use Rattle.silq_mean.specs.Effect.{Effect, step, give_static}
use Rattle.silq_mean.specs.Meaning as meanings
use Rattle.flat_form.specs.declared.known.Known.{Known}
use Rattle.flat_form.specs.declared.known.Known.TheVariants.{Static}
use Rattle.flat_form.specs.State.{Flattening}
use Rattle.flat_form.specs.Flat.{flat}
use Rattle.flat_typed.specs.Places.{Places}
use Rattle.flat_typed.specs.Footprint.{consumed_wires}
use Rattle.flat_typed.specs.Relation.{Outside, Stands}
use Rattle.flat_typed.specs.Done.{Begins, ExprDone, ExprTells}
use Rattle.flat_typed.specs.Lemmas.{Callable, ExprFine}
use Rattle.flat_typed.proofs.Ordered.{clash}
use Rattle.flat_typed.proofs.Using.{touches_none}
use Rattle.flat_typed.proofs.Placing.{stands_pushed}
use Rattle.flat_typed.proofs.Scopes.{static_is}
use Rattle.flat_typed.proofs.Variables.{stands_vars}

-- ---- what the walk tells

-- the one value has the type that is asked, which the number fits, and a new place
pub record StaticGiven (statics : Statics) (e : Expression) (wants : List Ty) (c : Context) (vs : List Value) (d : Context) : Type 0 where
  pub ty : Ty
  pub asked : wants ≡ ty ∷ []
  pub suits : fits ty.shape (meanings.static_value statics e) ≡ true
  pub values : vs ≡ record { ty = ty; origin = origin_of ty.classical; place = c.next } ∷ []
  pub left : d ≡ record c { next = suc c.next }

not_false : (a : Bool) → not a ≡ false → a ≡ true
not_false true e = refl
not_false false e = clash e

module _ (S : InstanceKey → Signature → Type 0) (c : Context) (sc : Scope) (e : Expression) where
  o_one : {P : Context → Type 0} (t : Ty) → Ensures S (λ d. P d × (d ≡ c)) (one_value t (origin_of t.classical)) (λ vs d. P c × (vs ≡ record { ty = t; origin = origin_of t.classical; place = c.next } ∷ []) × (d ≡ record c { next = suc c.next }))
  unfolding ◌>>=◌
  o_one {P = P} t = record {
    runs = λ d h. (
      subst P h.1 h.0,
      ap (λ (b : Context). record { ty = t; origin = origin_of t.classical; place = b.next } ∷ []) h.1,
      ap (λ (b : Context). record b { next = suc b.next }) h.1,
    );
  }

  pub o_static : (wants : List Ty) → Ensures S (λ d. d ≡ c) (static_value sc e wants) (λ vs d. StaticGiven sc.statics e wants c vs d)
  o_static [] = o_fail S 0 _
  o_static (t ∷ []) =
      o_bind S 0 (o_result S 0 (needed_at sc.statics e (at e))) (λ z. o_then S 0 (o_rules S 0 (at e) _) (λ u.
      record {
        runs = λ d h. gives-more S 0 (λ r. (Unit {0}) × (r.0 ≡ record { ty = t; origin = origin_of t.classical; place = c.next } ∷ []) × (r.1 ≡ record c { next = suc c.next })) (λ r. StaticGiven sc.statics e (t ∷ []) c r.0 r.1) (one_value t (origin_of t.classical) d)
            ((o_one {P = λ d. Unit {0}} t).runs d (tt, h.1.1))
            (λ r q. record {
              ty = t;
              asked = refl;
              suits = ap (fits t.shape) (static_is sc.statics e (at e) z h.1.0) ∙ not_false (fits t.shape z) h.0.0;
              values = q.1;
              left = q.2;
            });
      }))
  o_static (t ∷ (u ∷ ts)) = o_fail S 0 _

-- ---- the law

unheld_origin : (classical : Bool) → is_held (origin_of classical) ≡ false
unheld_origin true = refl
unheld_origin false = refl

lifted_origin : (classical : Bool) → is_linear (origin_of classical) ≡ false
lifted_origin true = refl
lifted_origin false = refl

module _ (out : Outside) (sc : Scope) (low : ℕ) (others : ℕ → ℕ) (W : Places) (under : List Value) (us : List Use) (c : Context) (s : Flattening) (need : Need) (e : Expression) where
  abbrev E : Effect
  E = step (give_static (meanings.static_value sc.statics e))

  abbrev given : Known
  given = Static (meanings.static_value sc.statics e)

  module _ (t : Ty) where
    abbrev value_of : Value
    value_of = record { ty = t; origin = origin_of t.classical; place = c.next }

    abbrev left : Context
    left = record c { next = suc c.next }

    none_carried : (b : Bool) → cond (b && false) (value_of ∷ []) [] ≡ []
    none_carried true = refl
    none_carried false = refl

    static_done : fits t.shape (meanings.static_value sc.statics e) ≡ true → Begins out sc low others W under us c s → ExprDone out sc need E W under us c s (value_of ∷ []) left
    static_done suits b = record {
      fine = tt;
      after = W;
      agree = λ p l. refl;
      answers = given ∷ [];
      values = refl;
      each = (
        record {
          typed = suits;
          handed = λ q. unheld_origin t.classical;
          own = λ q. tt;
          borrowed = λ q i. (omega arith, lifted_origin t.classical);
          moved = tt;
          within = λ w n. clash (sym n);
          began = tt;
          differ = λ w le. omega arith;
        },
        tt,
      );
      stands =
          subst (λ l. Stands out sc.held W (l ++ under) left (flat E s)) (sym (none_carried (is_consumed need)))
          (stands_pushed out sc.held W under left s s.built (given ∷ s.values) (stands_vars out sc.held W under c left s refl b.stands));
      kinds_stay = refl;
      leaves = record { setting = refl; callers = refl; blocks = refl; names = refl };
      touches = touches_none (consumed_wires W c.vars us) s.built.draft;
      plain = λ q w m. m;
      unmade = b.unmade;
    }

    static_tells : (wants : List Ty) → wants ≡ t ∷ [] → fits t.shape (meanings.static_value sc.statics e) ≡ true → Begins out sc low others W under us c s → ExprTells out sc need wants E W under us c s (value_of ∷ []) left
    unfolding static_done
    static_tells wants asked suits b = record {
      done = static_done suits b;
      sharing = (record { shares = λ k w le. refl; new = λ q k. omega arith; lifted = λ q k. ap (λ b. is_linear (origin_of b)) k }, tt);
      typed = λ none. absurd (grind (arith, asked, none));
      untold = (λ w le. absurd (omega (arith, le)), tt);
      several = tt;
    }

  pub static_ends : (wants : List Ty) (vs : List Value) (d : Context) → StaticGiven sc.statics e wants c vs d → Begins out sc low others W under us c s → ExprTells out sc need wants E W under us c s vs d
  static_ends wants vs d h b =
      subst (λ ws. ExprTells out sc need wants E W under us c s ws d) (sym h.values)
      (subst (λ f. ExprTells out sc need wants E W under us c s (value_of h.ty ∷ []) f) (sym h.left)
      (static_tells h.ty wants h.asked h.suits b))

-- a static expression, whatever it uses
pub static_is_fine : (sc : Scope) (need : Need) (wants : List Ty) (c : Context) (e : Expression) (us : List Use) → ExprFine sc need wants c (static_value sc e wants) (step (give_static (meanings.static_value sc.statics e))) us
static_is_fine sc need wants c e us =
    gives-more (Callable sc) 0 (λ r. StaticGiven sc.statics e wants c r.0 r.1)
    (λ r. (out : Outside) (low : ℕ) (others : ℕ → ℕ) (W : Places) (under : List Value) (s : Flattening) → Begins out sc low others W under us c s → ExprTells out sc need wants (step (give_static (meanings.static_value sc.statics e))) W under us c s r.0 r.1)
    (static_value sc e wants c) ((o_static (Callable sc) c sc e wants).runs c refl)
    (λ r h out low others W under s b. static_ends out sc low others W under us c s need e wants r.0 r.1 h b)

-- an expression that may be static: where it is not, its walk and its effect go on
pub unless_static_is_fine : (sc : Scope) (need : Need) (wants : List Ty) (c : Context) (e : Expression) (run : Check (List Value)) (does : Effect) (us : List Use) → (is_static sc.statics e ≡ false → ExprFine sc need wants c run does us)
    → ExprFine sc need wants c (unless_static sc e wants run) (meanings.unless_static sc.statics e does) us
unless_static_is_fine sc need wants c e run does us h = go (is_static sc.statics e) refl
  where
    go : (t : Bool) → is_static sc.statics e ≡ t → ExprFine sc need wants c (cond t (static_value sc e wants) run) (cond t (step (give_static (meanings.static_value sc.statics e))) does) us
    go true q = static_is_fine sc need wants c e us
    go false q = h q
