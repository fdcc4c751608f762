-- A static expression tells of its number all that an expression tells.
use Rattle.std.proofs.Common.{◌≡◌, ℕ, suc, Bool, true, false, cond, ◌&&◌, List, [], ◌∷◌, ◌++◌, refl, sym, subst, arith}
use Rattle.silq_tree.specs.Syntax.{Expression}
use Rattle.static_num.specs.Static.{is_static}
use Rattle.silq_types.specs.declared.types.Ty.{Ty}
use Rattle.silq_types.specs.declared.values.Value.{Value}
use Rattle.silq_types.specs.Types.{fits, is_held, is_linear}
use Rattle.silq_types.specs.declared.need.Need.{Need}
use Rattle.silq_types.specs.Calls.{is_consumed}
use Rattle.check_scope.specs.declared.uses.Use.{Use}
use Rattle.check_scope.specs.Context.{Scope, Context, Check}
use Rattle.check_expr.specs.Expression.{origin_of, static_value, unless_static}
use Rattle.check_expr.proofs.Owners.{gives-more}
use Rattle.silq_mean.specs.Effect.{Effect, step, give_static}
use Rattle.silq_mean.specs.Meaning as meanings
use Rattle.flat_form.specs.declared.known.Known.TheVariants.{Static}
use Rattle.flat_form.specs.State.{Flattening}
use Rattle.flat_form.specs.Flat.{flat}
use Rattle.flat_typed.specs.Places.{Places}
use Rattle.flat_typed.specs.Footprint.{consumed_wires}
use Rattle.flat_typed.specs.Relation.{Outside, Stands}
use Rattle.flat_typed.specs.Done.{Begins, ExprTells}
use Rattle.flat_typed.specs.Lemmas.{Callable, ExprFine}
use Rattle.flat_typed.proofs.Ordered.{clash}
use Rattle.flat_typed.proofs.Using.{touches_none}
use Rattle.flat_typed.proofs.Placing.{stands_pushed}
use Rattle.flat_typed.proofs.Variables.{stands_vars}
use Rattle.flat_typed.proofs.StaticValues.{StaticGiven, o_static}

unheld_origin : (classical : Bool) → is_held (origin_of classical) ≡ false
unheld_origin true = refl
unheld_origin false = refl

lifted_origin : (classical : Bool) → is_linear (origin_of classical) ≡ false
lifted_origin true = refl
lifted_origin false = refl

module _ (out : Outside) (sc : Scope) (low : ℕ) (others : ℕ → ℕ) (W : Places) (under : List Value) (us : List Use) (c : Context) (s : Flattening) (need : Need) (e : Expression) where
  abbrev E : Effect
  E = step (give_static (meanings.static_value sc.statics e))

  abbrev value_of : Ty → Value
  value_of t = record { ty = t; origin = origin_of t.classical; place = c.next }

  none_carried : (v : Value) (b : Bool) → cond (b && false) (v ∷ []) [] ≡ []
  none_carried v true = refl
  none_carried v false = refl

  shows_static : (wants : List Ty) (t : Ty) → wants ≡ t ∷ [] → fits t.shape (meanings.static_value sc.statics e) ≡ true → Begins out sc low others W under us c s → ExprTells out sc need wants E W under us c s (value_of t ∷ []) (record c { next = suc c.next })
  shows_static wants t asked suits b = record {
    done = record {
      fine = tt;
      after = W;
      agree = λ p l. refl;
      answers = Static (meanings.static_value sc.statics e) ∷ [];
      values = refl;
      each = (
        record {
          typed = suits;
          handed = λ q. unheld_origin t.classical;
          own = λ q. tt;
          borrowed = λ q i. (omega arith, lifted_origin t.classical);
          moved = tt;
          within = λ w n. clash (sym n);
          began = tt;
          differ = λ w le. omega arith;
        },
        tt,
      );
      stands =
          subst (λ l. Stands out sc.held W (l ++ under) (record c { next = suc c.next }) (flat E s)) (sym (none_carried (value_of t) (is_consumed need)))
          (stands_pushed out sc.held W under (record c { next = suc c.next }) s s.built (Static (meanings.static_value sc.statics e) ∷ s.values) (stands_vars out sc.held W under c (record c { next = suc c.next }) s refl b.stands));
      kinds_stay = refl;
      leaves = record { setting = refl; callers = refl; blocks = refl; names = refl };
      touches = touches_none (consumed_wires W c.vars us) s.built.draft;
      plain = λ q w m. m;
      unmade = b.unmade;
    };
    sharing = (record { shares = λ k w le. refl; new = λ q k. omega arith; lifted = λ q k. lifted_origin t.classical }, tt);
    typed = λ none. absurd (grind (arith, asked, none));
    untold = (λ w le. absurd (omega (arith, le)), tt);
    several = tt;
  }

  pub static_shows : (wants : List Ty) (vs : List Value) (d : Context) → StaticGiven sc.statics e wants c vs d → Begins out sc low others W under us c s → ExprTells out sc need wants E W under us c s vs d
  static_shows wants vs d h b =
      subst (λ ws. ExprTells out sc need wants E W under us c s ws d) (sym h.values)
      (subst (λ f. ExprTells out sc need wants E W under us c s (value_of h.ty ∷ []) f) (sym h.left)
      (shows_static wants h.ty h.asked h.suits b))

pub static_told : (sc : Scope) (need : Need) (wants : List Ty) (c : Context) (e : Expression) (us : List Use) → ExprFine sc need wants c (static_value sc e wants) (step (give_static (meanings.static_value sc.statics e))) us
static_told sc need wants c e us =
    gives-more (Callable sc) 0 (λ r. StaticGiven sc.statics e wants c r.0 r.1)
    (λ r. (out : Outside) (low : ℕ) (others : ℕ → ℕ) (W : Places) (under : List Value) (s : Flattening) → Begins out sc low others W under us c s → ExprTells out sc need wants (step (give_static (meanings.static_value sc.statics e))) W under us c s r.0 r.1)
    (static_value sc e wants c) ((o_static (Callable sc) c sc e wants).runs c refl)
    (λ r h out low others W under s b. static_shows out sc low others W under us c s need e wants r.0 r.1 h b)

-- an expression that may be static
pub unless_static_told : (sc : Scope) (need : Need) (wants : List Ty) (c : Context) (e : Expression) (run : Check (List Value)) (does : Effect) (us : List Use) → (is_static sc.statics e ≡ false → ExprFine sc need wants c run does us)
    → ExprFine sc need wants c (unless_static sc e wants run) (meanings.unless_static sc.statics e does) us
unless_static_told sc need wants c e run does us h = go (is_static sc.statics e) refl
  where
    go : (t : Bool) → is_static sc.statics e ≡ t → ExprFine sc need wants c (cond t (static_value sc e wants) run) (cond t (step (give_static (meanings.static_value sc.statics e))) does) us
    go true q = static_told sc need wants c e us
    go false q = h q
