-- `vector` behind its length, which is static, and a number: as many copies as the length says.
use Rattle.std.proofs.Common.{◌≡◌, ℕ, suc, ◌≤◌, true, false, List, [], ◌∷◌, ◌++◌, drop, ℤ, refl, sym, ap, ◌∙◌, subst}
use Rattle.std.specs.Prelude.{reverse, nat_abs}
use Rattle.silq_types.specs.declared.types.Shape.{Shape}
use Rattle.silq_types.specs.declared.types.Shape.TheVariants.{Bit, UInt, Int, Array}
use Rattle.silq_types.specs.declared.types.Ty.{Ty}
use Rattle.silq_types.specs.declared.values.Origin.TheVariants.{Lifted}
use Rattle.silq_types.specs.declared.values.Value.{Value}
use Rattle.silq_types.specs.Types.{quantum, is_scalar}
use Rattle.silq_types.specs.declared.need.Need.{Need}
use Rattle.silq_types.specs.declared.need.Need.TheVariants as needs
use Rattle.check_scope.specs.declared.uses.Use.{Use}
use Rattle.check_scope.specs.Context.{Scope, Context}
use Rattle.check_expr.specs.Expression.{is_qfree, repeated as many_of}
use Rattle.silq_mean.specs.Effect.{Effect, nothing, ◌>>◌, step, give_static, repeat_last}
use Rattle.flat_core.specs.declared.step.WireId.{WireId}
use Rattle.bit_arith.specs.Calls.{Targets}
use Rattle.flat_form.specs.declared.known.TypedBits.{TypedBits}
use Rattle.flat_form.specs.declared.known.Known.{Known}
use Rattle.flat_form.specs.declared.known.Known.TheVariants.{Static, Shown}
use Rattle.flat_form.specs.State.{Flattening, push, first, last, drop_last, wires_so_far}
use Rattle.flat_form.specs.Flat.{flat, give_repeated, array_of, repeated}
use Rattle.flat_form.specs.Fine.{IsStatic, IsOf}
use Rattle.flat_form.specs.Good.{Good}
use Rattle.flat_typed.specs.Places.{Places}
use Rattle.flat_typed.specs.Footprint.{used_wires, consumed_wires}
use Rattle.flat_typed.specs.Relation.{Outside, Stands, IsAnswer}
use Rattle.flat_typed.specs.Done.{Begins, ExprDone, ExprTells, carrying}
use Rattle.flat_typed.proofs.Ordered.{clash}
use Rattle.flat_typed.proofs.Placing.{stands_pushed}
use Rattle.flat_typed.proofs.Giving.{touches_beyond}
use Rattle.flat_typed.proofs.Behind.{leaves_then}
use Rattle.flat_typed.proofs.Variables.{stands_vars}
use Rattle.flat_typed.proofs.Given.{GivesTold, OneShown, one_shown}
use Rattle.flat_typed.proofs.Copying.{told_copied}

-- a static value below on the stack names nothing
pub begins_static : (out : Outside) (sc : Scope) (low : ℕ) (others : ℕ → ℕ) (W : Places) (under : List Value) (us : List Use) (c : Context) (s : Flattening) (m : ℤ) → Begins out sc low others W under us c s → Begins out sc low others W under us c (push (Static m) s)
begins_static out sc low others W under us c s m b = record {
  good = record { fresh = b.good.fresh; known = record { env = b.good.known.env; values = (tt, b.good.known.values); callers = b.good.known.callers }; condition = b.good.condition; read = b.good.read; owned = record { env = b.good.owned.env; callers = b.good.owned.callers } };
  unmade = b.unmade;
  sole = b.sole;
  counted = b.counted;
  stands = stands_pushed out sc.held W under c s s.built (Static m ∷ s.values) b.stands;
  open_air = b.open_air;
  apart = λ w t. (refl, b.apart w t);
  placed = b.placed;
  lone = b.lone;
}

same_array : (t : Shape) (m : ℤ) → is_scalar t ≡ true → array_of t (nat_abs m) ≡ many_of t m
same_array Bit m h = refl
same_array (UInt k) m h = refl
same_array (Int k) m h = refl
same_array (Array k l) m h = clash (sym h)

module _ (out : Outside) (sc : Scope) (need : Need) (wants : List Ty) (e : Effect) (W : Places) (under : List Value) (us : List Use) (c : Context) (s : Flattening) (m : ℤ) (x : Value) (d : Context) (t : ExprTells out sc needs.Held [] e W under us c (push (Static m) s) (x ∷ []) d)
    (good : Good (flat e (push (Static m) s))) (grown : c.next ≤ d.next) (scalar : is_scalar x.ty.shape ≡ true) where
  abbrev o : ExprDone out sc needs.Held e W under us c (push (Static m) s) (x ∷ []) d
  o = t.done

  abbrev used : Targets
  used = used_wires W c.vars us

  abbrev consumed : Targets
  consumed = consumed_wires W c.vars us

  abbrev s2 : Flattening
  s2 = flat e (push (Static m) s)

  abbrev next_of : Context
  next_of = record d { next = suc d.next }

  abbrev copies : Value
  copies = record { ty = quantum (many_of x.ty.shape m); origin = Lifted; place = d.next }

  abbrev whole : Effect
  whole = step (give_static m) >> nothing >> (e >> nothing >> nothing) >> step repeat_last

  bits : OneShown (IsAnswer o.after needs.Held used consumed (wires_so_far s) c.next) x o.answers
  bits = one_shown (IsAnswer o.after needs.Held used consumed (wires_so_far s) c.next) x o.answers (λ k h. h.typed) (t.typed refl) o.each

  abbrev u : TypedBits
  u = bits.bits

  values : s2.values ≡ Shown u ∷ Static m ∷ s.values
  values = o.values ∙ ap (λ ks. reverse ks ++ Static m ∷ s.values) bits.all

  stands : Stands out sc.held o.after under next_of s2
  stands = stands_vars out sc.held o.after under d next_of s2 refl (subst (λ ks. Stands out sc.held o.after (carrying needs.Held (x ∷ []) ks ++ under) d s2) bits.all o.stands)

  shape : array_of u.shape (nat_abs m) ≡ many_of x.ty.shape m
  shape = ap (λ y. array_of y (nat_abs m)) bits.is.typed.0 ∙ same_array x.ty.shape m scalar

  abbrev Told : List Known → Flattening → Type 0
  Told rest f = GivesTold out sc.held o.after need used consumed (wires_so_far s) c.next (is_qfree sc.this.mark) under next_of s2 rest copies f

  given : Told s.values (flat (step repeat_last) s2)
  given =
      subst (λ l. Told s.values (give_repeated (first (drop 1 l)) (first l) (drop_last (drop_last s2)))) (sym values)
      (subst (λ l. Told l (give_repeated (Static m) (Shown u) (drop_last (drop_last s2)))) (ap (λ l. drop 1 (drop 1 l)) values)
      (told_copied out sc.held o.after need used consumed (wires_so_far s) c.next (is_qfree sc.this.mark) under next_of s2 (drop 1 (drop 1 s2.values)) copies (array_of u.shape (nat_abs m)) u.began (repeated (nat_abs m) u.operands)
      (record { class = refl; shape = shape; unheld = refl; lifted = refl; place = grown }) bits.is.began o.touches.grown good.fresh stands))

  pub vector_tells : ExprTells out sc need wants (step (give_static m) >> nothing >> (e >> nothing >> nothing) >> step repeat_last) W under us c s (copies ∷ []) next_of
  vector_tells = record {
    done = record {
      fine = (((tt, tt), ((o.fine, tt), tt)), subst (λ l. IsStatic (first (drop 1 l)) × IsOf (λ v. is_scalar v.shape ≡ true) (first l)) (sym values) (tt, ap is_scalar bits.is.typed.0 ∙ scalar));
      after = o.after;
      agree = o.agree;
      answers = given.answer ∷ [];
      values = given.values;
      each = (given.given, tt);
      stands = given.stands;
      kinds_stay = o.kinds_stay;
      leaves = leaves_then s s2 (flat (step repeat_last) s2) (record { setting = o.leaves.setting; callers = o.leaves.callers; blocks = o.leaves.blocks; names = o.leaves.names }) given.leaves;
      touches = touches_beyond consumed s.built.draft s2.built.draft (flat (step repeat_last) s2).built.draft o.touches given.touches;
      plain = λ q w y. o.plain q w (given.plain q w y);
      unmade = given.unmade o.unmade;
    };
    sharing = (given.sharing, tt);
    typed = λ q. (given.typed, tt);
    untold = (given.untold, tt);
    several = tt;
  }
