-- A step behind an expression that gives one value: both together, as an expression; `dup` of an expression.
use Rattle.std.proofs.Common.{◌≡◌, suc, ◌≤◌, List, [], ◌∷◌, ◌++◌, drop, ℤ, refl, ap, ◌∙◌, subst}
use Rattle.std.specs.Prelude.{reverse}
use Rattle.silq_types.specs.declared.values.Origin.TheVariants.{Lifted}
use Rattle.silq_types.specs.declared.values.Value.{Value}
use Rattle.silq_types.specs.Types.{quantum}
use Rattle.silq_types.specs.declared.need.Need.{Need}
use Rattle.silq_types.specs.declared.need.Need.TheVariants as needs
use Rattle.check_scope.specs.declared.uses.Use.{Use}
use Rattle.check_scope.specs.Context.{Scope, Context}
use Rattle.silq_mean.specs.Effect.{Effect, ◌>>◌, step, copy_last}
use Rattle.flat_form.specs.declared.known.Known.{Known}
use Rattle.flat_form.specs.declared.known.Known.TheVariants.{Static, Shown, Lent, Absent}
use Rattle.flat_form.specs.State.{Flattening, first, wires_so_far}
use Rattle.flat_form.specs.Flat.{flat}
use Rattle.flat_form.specs.Fine.{Fine}
use Rattle.flat_form.specs.Good.{Good}
use Rattle.flat_form.specs.Shows.{ListBoth}
use Rattle.flat_typed.specs.Places.{Places}
use Rattle.flat_typed.specs.Footprint.{used_wires, consumed_wires}
use Rattle.flat_typed.specs.Relation.{Outside, Stands, IsAnswer}
use Rattle.flat_typed.specs.Done.{Agree, ExprDone, Leaves, kinds, carrying}
use Rattle.flat_typed.proofs.Giving.{GivesValue, touches_beyond, copy_done}
use Rattle.flat_typed.proofs.Variables.{stands_vars}

pub leaves_then : (s t u : Flattening) → Leaves s t → Leaves t u → Leaves s u
leaves_then s t u p q = record { setting = q.setting ∙ p.setting; callers = q.callers ∙ p.callers; blocks = q.blocks ∙ p.blocks; names = q.names ∙ p.names }

module _ (out : Outside) (sc : Scope) (need other : Need) (e : Effect) (W : Places) (under : List Value) (us : List Use) (c : Context) (s : Flattening) (x : Value) (d : Context) (o : ExprDone out sc other e W under us c s (x ∷ []) d) where
  -- a step that gives a value for that of the expression
  pub expr_then : (st : Effect) (U : Places) (v : Value) (f : Context) → Agree c.next o.after U → Fine st (flat e s) → kinds f.vars ≡ kinds d.vars
      → GivesValue out sc.held U need (used_wires W c.vars us) (consumed_wires W c.vars us) (wires_so_far s) c.next under f (flat e s) s.values v (flat st (flat e s)) → ExprDone out sc need (e >> st) W under us c s (v ∷ []) f
  expr_then st U v f agree fine same g = record {
    fine = (o.fine, fine);
    after = U;
    agree = λ p l. agree p l ∙ o.agree p l;
    answers = g.answer ∷ [];
    values = g.values;
    each = (g.given, tt);
    stands = g.stands;
    kinds_stay = same ∙ o.kinds_stay;
    leaves = leaves_then s (flat e s) (flat st (flat e s)) o.leaves g.leaves;
    touches = touches_beyond (consumed_wires W c.vars us) s.built.draft (flat e s).built.draft (flat st (flat e s)).built.draft o.touches g.touches;
    plain = λ q w m. o.plain q w (g.plain w m);
    unmade = g.unmade o.unmade;
  }

module _ (out : Outside) (sc : Scope) (need : Need) (e : Effect) (W : Places) (under : List Value) (us : List Use) (c : Context) (s : Flattening) (x : Value) (d : Context) (o : ExprDone out sc needs.Held e W under us c s (x ∷ []) d) where
  abbrev next_of : Context
  next_of = record d { next = suc d.next }

  abbrev copied : Value
  copied = record { ty = quantum x.ty.shape; origin = Lifted; place = d.next }

  abbrev Answers : List Known → Type 0
  Answers ks = ListBoth (IsAnswer o.after needs.Held (used_wires W c.vars us) (consumed_wires W c.vars us) (wires_so_far s) c.next) (x ∷ []) ks

  abbrev Copies : Type 0
  Copies = ExprDone out sc need (e >> step copy_last) W under us c s (copied ∷ []) next_of

  -- `dup` of a value in a held use, which is no static one
  pub dup_done : Good (flat e s) → c.next ≤ d.next → ((z : ℤ) → o.answers ≡ Static z ∷ [] → ⊥) → Copies
  dup_done good grown shown = go o.answers refl o.values o.each o.stands
    where
      go : (ks : List Known) → o.answers ≡ ks → (flat e s).values ≡ reverse ks ++ s.values → Answers ks → Stands out sc.held o.after (carrying needs.Held (x ∷ []) ks ++ under) d (flat e s) → Copies
      go [] q v h r = absurd h
      go (Static z ∷ []) q v h r = absurd (shown z q)
      go (Lent start size u ∷ []) q v h r = absurd h.0.typed
      go (Absent ∷ []) q v h r = absurd h.0.typed
      go (Shown u ∷ []) q v h r =
          let k = copy_done out sc.held o.after need (used_wires W c.vars us) (consumed_wires W c.vars us) (wires_so_far s) c.next under next_of (flat e s) d.next x u (ap first v) h.0.typed.0 grown o.touches.grown h.0.began good.fresh (stands_vars out sc.held o.after under d next_of (flat e s) refl r) in
          expr_then out sc need needs.Held e W under us c s x d o (step copy_last) o.after copied next_of (λ p l. refl) k.1 refl
          (subst (λ l. GivesValue out sc.held o.after need (used_wires W c.vars us) (consumed_wires W c.vars us) (wires_so_far s) c.next under next_of (flat e s) l copied (flat (step copy_last) (flat e s))) (ap (λ l. drop 1 l) v) k.0)
      go (k ∷ l ∷ ks) q v h r = absurd h.1
