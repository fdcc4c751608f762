-- Two operands that are walked in turn, the first of which is not static, and the operator on them.
use Rattle.std.proofs.Common.{◌≡◌, ◌⊎◌, inl, inr, ℕ, suc, ◌≤◌, true, false, ◌&&◌, List, [], ◌∷◌, ◌++◌, refl, sym, ap, ◌∙◌, subst, arith}
use Rattle.silq_tree.specs.declared.node.BinaryOp.{BinaryOp}
use Rattle.silq_tree.specs.Syntax.{Expression}
use Rattle.silq_types.specs.declared.types.Ty.{Ty}
use Rattle.silq_types.specs.declared.values.Value.{Value}
use Rattle.silq_types.specs.declared.need.Need.{Need}
use Rattle.silq_types.specs.declared.need.Need.TheVariants as needs
use Rattle.silq_mean.specs.Effect.{Effect, step, two_operands, ◌>>◌}
use Rattle.silq_mean.specs.Meaning as meanings
use Rattle.silq_mean.specs.declared.receiver.Receiver.{Receiver}
use Rattle.check_scope.specs.declared.uses.Use.{Use}
use Rattle.check_scope.specs.Context.{Scope, Context}
use Rattle.check_scope.specs.Uses.{uses, consume_and_hold}
use Rattle.check_expr.specs.Expression.{origin_of, binary_fits, binary_shape}
use Rattle.flat_form.specs.State.{Flattening}
use Rattle.flat_form.specs.Flat.{flat}
use Rattle.flat_form.specs.Names.{AllOf}
use Rattle.flat_typed.specs.Places.{Places}
use Rattle.flat_typed.specs.Relation.{Outside}
use Rattle.flat_typed.specs.Scopes.{as_meaning}
use Rattle.flat_typed.specs.Uses.{IsThere}
use Rattle.flat_typed.specs.Done.{Begins, IsTyped, ExprTells}
use Rattle.flat_typed.proofs.Uses.{uses_kinds}
use Rattle.flat_typed.proofs.Tame.{kinds_left}
use Rattle.flat_typed.proofs.Following.{Facts}
use Rattle.flat_typed.proofs.Pairing.{Alone, alone_of, alone_stands, begins_first, begins_second}
use Rattle.flat_typed.proofs.BinaryEffect.{two_join}

module _ (op : BinaryOp) (a b : Expression) (sc : Scope) (taker : Ty → Receiver) (wants more : List Ty) (c d1 d2 : Context) (x y : Value) (fa : Facts sc taker needs.Held wants a c (x ∷ []) d1) (fb : Facts sc taker needs.Held more b d1 (y ∷ []) d2)
    (none : wants ≡ []) (fit : (more ≡ []) ⊎ (y.ty ≡ x.ty)) (shape : x.ty.shape ≡ y.ty.shape) (ok : binary_fits op x.ty.shape ≡ true)
    (apart : consume_and_hold (uses a sc c.vars needs.Held) (uses b sc d1.vars needs.Held) ≡ false) (need : Need) (asked : List Ty) (out : Outside) (low : ℕ) (others : ℕ → ℕ) (W : Places) (under : List Value) (s : Flattening) where
  abbrev Ea : Effect
  Ea = meanings.expr a (as_meaning taker sc) needs.Held

  abbrev Eb : Effect
  Eb = meanings.expr b (as_meaning taker sc) needs.Held

  abbrev us : List Use
  us = uses a sc c.vars needs.Held

  abbrev vs : List Use
  vs = uses b sc d1.vars needs.Held

  abbrev given : Value
  given = record { ty = record { classical = x.ty.classical && y.ty.classical; shape = binary_shape op x.ty.shape }; origin = origin_of (x.ty.classical && y.ty.classical); place = d2.next }

  in_turn : Begins out sc low others W under (us ++ vs) c s → ExprTells out sc need asked ((Ea >> Eb) >> step (two_operands op)) W under (us ++ vs) c s (given ∷ []) (record d2 { next = suc d2.next })
  in_turn begun =
      two_join op out sc low others need asked W under us vs c s begun Ea Eb x y d1 d2 p b2 q.0 d2 refl (let g = p.grown in let h = q.0.grown in omega (arith, g, h)) shape ok (inl typed) (second fit)
    where
      first : (r : Alone out sc low others Ea W under us c s x d1) × (wants ≡ [] → IsTyped r.known)
      first = alone_of out sc low others W under taker wants a c s x d1 fa (begins_first out sc low others W under us vs c s begun)

      p : Alone out sc low others Ea W under us c s x d1
      p = first.0

      typed : IsTyped p.known
      typed = first.1 none

      b2 : Begins out sc low others p.done.after under vs d1 (flat Ea s)
      b2 = begins_second out sc low others W under us vs c s begun Ea Eb x y d1 d2 p apart (fb.told p.done.after (alone_stands out sc low others Ea W under us c s x d1 p).parts).0

      q : (r : Alone out sc low others Eb p.done.after under vs d1 (flat Ea s) y d2) × (more ≡ [] → IsTyped r.known)
      q = alone_of out sc low others p.done.after under taker more b d1 (flat Ea s) y d2 fb b2

      second : (more ≡ []) ⊎ (y.ty ≡ x.ty) → (IsTyped q.0.known ⊎ ((y.ty ≡ x.ty) × IsTyped p.known))
      second (inl e) = inl (q.1 e)
      second (inr e) = inr (e, typed)

  -- with the uses as they are read where the first begins
  pub turn_tells : Begins out sc low others W under (us ++ uses b sc c.vars needs.Held) c s
      → ExprTells out sc need asked ((Ea >> Eb) >> step (two_operands op)) W under (us ++ uses b sc c.vars needs.Held) c s (given ∷ []) (record d2 { next = suc d2.next })
  turn_tells = subst (λ l. Begins out sc low others W under (us ++ l) c s → ExprTells out sc need asked ((Ea >> Eb) >> step (two_operands op)) W under (us ++ l) c s (given ∷ []) (record d2 { next = suc d2.next })) (uses_kinds b sc d1.vars c.vars needs.Held (sym (kinds_left c.vars d1.vars fa.left))) in_turn
