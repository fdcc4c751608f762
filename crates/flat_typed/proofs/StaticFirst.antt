-- Two operands of which the first is static: it takes the type of the second, whose walk comes first.
use Rattle.std.proofs.Common.{◌≡◌, ◌⊎◌, inl, inr, ℕ, suc, ◌≤◌, Bool, true, false, ◌&&◌, ◌||◌, List, [], ◌∷◌, ◌++◌, ℤ, refl, sym, ap, ◌∙◌, subst, arith}
use Rattle.silq_tree.specs.declared.node.BinaryOp.{BinaryOp}
use Rattle.silq_tree.specs.Syntax.{Expression}
use Rattle.static_num.specs.Static.{is_static}
use Rattle.silq_types.specs.declared.types.Ty.{Ty}
use Rattle.silq_types.specs.declared.values.Value.{Value}
use Rattle.silq_types.specs.Types.{fits, is_held, is_linear}
use Rattle.silq_types.specs.Calls.{is_consumed}
use Rattle.silq_types.specs.declared.need.Need.{Need}
use Rattle.silq_types.specs.declared.need.Need.TheVariants as needs
use Rattle.silq_mean.specs.Effect.{Effect, step, give_static, two_operands, ◌>>◌}
use Rattle.silq_mean.specs.Meaning as meanings
use Rattle.silq_mean.specs.declared.receiver.Receiver.{Receiver}
use Rattle.check_scope.specs.declared.uses.Use.{Use}
use Rattle.check_scope.specs.Context.{Scope, Context}
use Rattle.check_scope.specs.Uses.{uses, clash as meets_in, is_only_held, consume_and_hold}
use Rattle.check_expr.specs.Expression.{origin_of, binary_fits, binary_shape}
use Rattle.flat_form.specs.declared.known.Known.TheVariants.{Static}
use Rattle.flat_form.specs.State.{Flattening}
use Rattle.flat_form.specs.Flat.{flat}
use Rattle.flat_form.specs.Names.{AllOf}
use Rattle.flat_typed.specs.Places.{Places}
use Rattle.flat_typed.specs.Footprint.{consumed_wires}
use Rattle.flat_typed.specs.Relation.{Outside}
use Rattle.flat_typed.specs.Scopes.{as_meaning, NoStatics}
use Rattle.flat_typed.specs.Uses.{IsThere}
use Rattle.flat_typed.specs.Done.{Begins, IsTyped, ExprTells}
use Rattle.flat_typed.specs.Lemmas.{Callable}
use Rattle.flat_typed.proofs.Ordered.{clash}
use Rattle.flat_typed.proofs.Using.{touches_none}
use Rattle.flat_typed.proofs.Placing.{stands_pushed}
use Rattle.flat_typed.proofs.Tame.{left_same}
use Rattle.flat_typed.proofs.UsesThere.{no_uses}
use Rattle.flat_typed.proofs.VectorCalls.{static_effect}
use Rattle.flat_typed.proofs.Following.{Facts}
use Rattle.flat_typed.proofs.Pairing.{Alone, alone_of, begins_first, begins_second}
use Rattle.flat_typed.proofs.BinaryEffect.{two_join}

-- what uses nothing overlaps nothing
meets_none : (wanted : Need → Bool) (us : List Use) → meets_in wanted us [] ≡ false
meets_none wanted [] = refl
meets_none wanted (u ∷ us) = go (is_consumed u.need) (meets_none wanted us)
  where
    go : (t : Bool) → meets_in wanted us [] ≡ false → ((t && false) || meets_in wanted us []) ≡ false
    go true e = e
    go false e = e

-- the number of a static operand, which has any type that it fits
module _ (out : Outside) (sc : Scope) (low : ℕ) (others : ℕ → ℕ) (W : Places) (under : List Value) (c : Context) (s : Flattening) (z : ℤ) (x : Value) where
  static_alone : fits x.ty.shape z ≡ true → Begins out sc low others W under [] c s → Alone out sc low others (step (give_static z)) W under [] c s x c
  static_alone suits b = record {
    done = record {
      fine = tt;
      after = W;
      agree = λ p l. refl;
      answers = Static z ∷ [];
      values = refl;
      each = (
        record {
          typed = suits;
          handed = λ q. clash (sym q);
          own = λ q. tt;
          borrowed = λ q i. clash (sym q);
          moved = tt;
          within = λ w n. clash (sym n);
          began = tt;
          differ = λ w le. omega arith;
        },
        tt,
      );
      stands = stands_pushed out sc.held W under c s s.built (Static z ∷ s.values) b.stands;
      kinds_stay = refl;
      leaves = record { setting = refl; callers = refl; blocks = refl; names = refl };
      touches = touches_none (consumed_wires W c.vars []) s.built.draft;
      plain = λ q w m. m;
      unmade = b.unmade;
    };
    known = Static z;
    all = refl;
    given = record {
      typed = suits;
      handed = λ q. clash (sym q);
      own = λ q. tt;
      borrowed = λ q i. clash (sym q);
      moved = tt;
      within = λ w n. clash (sym n);
      began = tt;
      differ = λ w le. omega arith;
    };
    shares = λ e w le. refl;
    untold = λ w le. absurd (omega (arith, le));
    there = tt;
    gone = tt;
    left = left_same c.vars;
    grown = omega arith;
    sole = b.sole;
  }

module _ (op : BinaryOp) (a b : Expression) (sc : Scope) (taker : Ty → Receiver) (c d2 : Context) (x y : Value) (free : NoStatics sc c.vars) (static : is_static sc.statics a ≡ true) (fb : Facts sc taker needs.Held [] b c (y ∷ []) d2)
    (suits : fits x.ty.shape (meanings.static_value sc.statics a) ≡ true) (same : x.ty ≡ y.ty) (ok : binary_fits op x.ty.shape ≡ true) (need : Need) (asked : List Ty) (out : Outside) (low : ℕ) (others : ℕ → ℕ) (W : Places) (under : List Value) (s : Flattening) where
  abbrev Ea : Effect
  Ea = step (give_static (meanings.static_value sc.statics a))

  abbrev Eb : Effect
  Eb = meanings.expr b (as_meaning taker sc) needs.Held

  abbrev vs : List Use
  vs = uses b sc c.vars needs.Held

  abbrev before : Context
  before = record d2 { next = suc d2.next }

  abbrev given : Value
  given = record { ty = record { classical = x.ty.classical && y.ty.classical; shape = binary_shape op x.ty.shape }; origin = origin_of (x.ty.classical && y.ty.classical); place = before.next }

  abbrev Goal : Effect → List Use → Type 0
  Goal E us = Begins out sc low others W under (us ++ vs) c s → ExprTells out sc need asked ((E >> Eb) >> step (two_operands op)) W under (us ++ vs) c s (given ∷ []) (record before { next = suc before.next })

  static_turn : Goal Ea []
  static_turn begun =
      two_join op out sc low others need asked W under [] vs c s begun Ea Eb x y c d2 p b2 q.0 before refl (let h = q.0.grown in omega (arith, h)) (ap (λ (t : Ty). t.shape) same) ok (inr (same, q.1 refl)) (inl (q.1 refl))
    where
      p : Alone out sc low others Ea W under [] c s x c
      p = static_alone out sc low others W under c s (meanings.static_value sc.statics a) x suits (begins_first out sc low others W under [] vs c s begun)

      b2 : Begins out sc low others p.done.after under vs c (flat Ea s)
      b2 = begins_second out sc low others W under [] vs c s begun Ea Eb x y c d2 p (meets_none is_only_held vs) (fb.told W begun.stands.parts).0

      q : (r : Alone out sc low others Eb p.done.after under vs c (flat Ea s) y d2) × (◌≡◌ {A = List Ty} [] [] → IsTyped r.known)
      q = alone_of out sc low others p.done.after under taker [] b c (flat Ea s) y d2 fb b2

  pub static_turn_tells : Begins out sc low others W under (uses a sc c.vars needs.Held ++ vs) c s
      → ExprTells out sc need asked ((meanings.expr a (as_meaning taker sc) needs.Held >> Eb) >> step (two_operands op)) W under (uses a sc c.vars needs.Held ++ vs) c s (given ∷ []) (record before { next = suc before.next })
  static_turn_tells =
      subst (λ us. Goal (meanings.expr a (as_meaning taker sc) needs.Held) us) (sym (no_uses (Callable sc) 0 (λ p. []) c.vars sc free a needs.Held static))
      (subst (λ E. Goal E []) (sym (static_effect a (as_meaning taker sc) needs.Held static)) static_turn)
