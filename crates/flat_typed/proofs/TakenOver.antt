-- One value of a list: its expression, and what takes it over.
use Rattle.std.proofs.Common.{◌≡◌, ◌⊎◌, inl, inr, ℕ, ◌≤◌, ◌<◌, true, false, List, [], ◌∷◌, ◌++◌, drop, ℤ, refl, sym, ap, ◌∙◌, subst, arith}
use Rattle.std.specs.Prelude.{reverse}
use Rattle.std.proofs.lemmas.Bool.{cases_lt}
use Rattle.silq_tree.specs.Syntax.{Expression}
use Rattle.silq_types.specs.declared.types.Ty.{Ty}
use Rattle.silq_types.specs.declared.values.Value.{Value}
use Rattle.silq_types.specs.Types.{is_held}
use Rattle.silq_types.specs.Calls.{is_consumed}
use Rattle.silq_mean.specs.Effect.{Effect, step, receive, ◌>>◌}
use Rattle.silq_mean.specs.Meaning as meanings
use Rattle.silq_mean.specs.declared.receiver.Receiver.{Receiver}
use Rattle.silq_mean.specs.declared.receiver.Receiver.TheVariants.{Variable}
use Rattle.check_scope.specs.declared.uses.Use.{Use}
use Rattle.check_scope.specs.Context.{Scope, Context}
use Rattle.check_scope.specs.Uses.{uses}
use Rattle.check_expr.specs.Expression.{is_qfree}
use Rattle.flat_core.specs.declared.step.WireId.{WireId}
use Rattle.flat_form.specs.declared.known.Known.{Known}
use Rattle.flat_form.specs.declared.known.Known.TheVariants.{Static, Shown, Lent, Absent}
use Rattle.flat_form.specs.State.{Flattening, began_or, first, last, wires_so_far}
use Rattle.flat_form.specs.Flat.{flat, flat_step}
use Rattle.flat_form.specs.Fine.{Fine}
use Rattle.flat_form.specs.Names.{AllOf, names}
use Rattle.flat_form.specs.Good.{Good, IsKnown}
use Rattle.flat_form.specs.Shows.{ListBoth}
use Rattle.flat_form.proofs.Goods.{good_flat}
use Rattle.flat_typed.specs.Places.{Places, owners_of}
use Rattle.flat_typed.specs.Footprint.{used_wires, consumed_wires, Touches, StaysPlain, Unmade}
use Rattle.flat_typed.specs.Relation.{Outside, Stands, IsAnswer, IsTakenOver, BeganFrom, taken_type, need_of}
use Rattle.flat_typed.specs.Scopes.{as_meaning}
use Rattle.flat_typed.specs.Done.{Agree, Begins, ExprTells, IsSharing, IsTyped, EndsDropped, Leaves, carrying, kinds}
use Rattle.flat_typed.specs.Calls.{carried}
use Rattle.flat_typed.proofs.Ordered.{clash}
use Rattle.flat_typed.proofs.Growing.{touches_then}
use Rattle.flat_typed.proofs.Behind.{leaves_then}
use Rattle.flat_typed.proofs.Taking.{Around, TakesOver}
use Rattle.flat_typed.proofs.Receiving.{IsSuited, receive_done}
use Rattle.flat_typed.proofs.Received.{Receives, received}
use Rattle.flat_typed.proofs.Tame.{left_same}
use Rattle.flat_typed.proofs.Falling.{one_part, owners_fall}
use Rattle.flat_typed.proofs.Following.{Facts, one_left, below_left, live_before, under_before, good_next, knows_next, around_next}

-- the type that is asked suits the value
pub record Suited (r : Receiver) (v : Value) : Type 0 where
  pub shape : (taken_type r v).shape ≡ v.ty.shape
  pub class : (taken_type r v).classical ≡ true → v.ty.classical ≡ true

-- a value was taken over: what is done, and what is told of it
pub record TakenNext (out : Outside) (sc : Scope) (r : Receiver) (E : Effect) (W : Places) (under : List Value) (us : List Use) (c : Context) (s : Flattening) (v : Value) (d : Context) : Type 0 where
  pub fine : Fine E s
  pub good : Good (flat E s)
  pub after : Places
  pub agree : Agree c.next W after
  pub answer : Known
  pub values : (flat E s).values ≡ answer ∷ s.values
  pub taken : IsTakenOver after (used_wires W c.vars us) (consumed_wires W c.vars us) (wires_so_far s) c.next r v answer
  pub stands : Stands out sc.held after (carried (r ∷ []) (v ∷ []) ++ under) d (flat E s)
  pub kinds_stay : kinds d.vars ≡ kinds c.vars
  pub leaves : Leaves s (flat E s)
  pub touches : Touches (consumed_wires W c.vars us) s.built.draft (flat E s).built.draft
  pub plain : is_qfree sc.this.mark ≡ true → StaysPlain s.built.draft (flat E s).built.draft
  pub unmade : Unmade (flat E s).built.draft
  pub unheld : is_consumed (need_of r) ≡ true → is_held v.origin ≡ false
  pub new : is_consumed (need_of r) ≡ true → v.ty.classical ≡ true → c.next ≤ v.place
  pub shares : is_consumed (need_of r) ≡ true → v.ty.classical ≡ true → (w : WireId) → names answer w ≡ true → owners_of after d.vars under w ≡ 0
  pub began : (m : ℕ) → m ≤ wires_so_far s → m ≤ began_or m s.callers → BeganFrom m answer

abbrev pub taken_effect : Scope → (Ty → Receiver) → Expression → Receiver → Effect
taken_effect sc taker e r = meanings.expr e (as_meaning taker sc) (need_of r) >> step (receive r)

pub later_began : (m n : ℕ) (k : Known) → m ≤ n → BeganFrom n k → BeganFrom m k
later_began m n (Static z) le h = h
later_began m n (Shown u) le h = omega (arith, le, h)
later_began m n (Lent a l u) le h = h
later_began m n Absent le h = h

module _ (out : Outside) (sc : Scope) (low : ℕ) (others : ℕ → ℕ) (W : Places) (under : List Value) (taker : Ty → Receiver) (wants : List Ty) (e : Expression) (r : Receiver) (c : Context) (s : Flattening) (v : Value) (d : Context)
    (f : Facts sc taker (need_of r) wants e c (v ∷ []) d) (b : Begins out sc low others W under (uses e sc c.vars (need_of r)) c s) (suits : Suited r v) (asks : r ≡ Variable → wants ≡ []) where
  abbrev us : List Use
  us = uses e sc c.vars (need_of r)

  abbrev E : Effect
  E = meanings.expr e (as_meaning taker sc) (need_of r)

  abbrev s1 : Flattening
  s1 = flat E s

  t : ExprTells out sc (need_of r) wants E W under us c s (v ∷ []) d
  t = f.tells out low others W under s b

  abbrev U : Places
  U = t.done.after

  abbrev Next : Type 0
  Next = TakenNext out sc r (E >> step (receive r)) W under us c s v d

  module _ (k : Known) (values : s1.values ≡ k ∷ s.values) (given : IsAnswer U (need_of r) (used_wires W c.vars us) (consumed_wires W c.vars us) (wires_so_far s) c.next v k) (sharing : IsSharing (need_of r) c.next (λ w. owners_of U d.vars under w) v k)
      (typed : wants ≡ [] → IsTyped k) (untold : EndsDropped (wires_so_far s) s1.built.draft k) (stands : Stands out sc.held U (carrying (need_of r) (v ∷ []) (k ∷ []) ++ under) d s1) where
    good1 : Good s1
    good1 = good_next out sc low others W under us c s b (need_of r) E (v ∷ []) d t.done f.left

    known : IsKnown (wires_so_far s1) k
    known = (subst (AllOf (IsKnown (wires_so_far s1))) values good1.known.values).0

    around : Around out U (wires_so_far s) c.next under d s1 v k
    around = around_next out sc low others W under us c s b (need_of r) E (v ∷ []) d t.done f.left v k (one_part c.vars b.lone) known untold

    not_static : (l : Known) → l ≡ k → (z : ℤ) → l ≡ Static z → r ≡ Variable → ⊥
    not_static l q z e y = subst IsTyped (sym q ∙ e) (typed (asks y))

    suited : IsSuited c.next r v k
    suited = record {
      shape = suits.shape;
      class = suits.class;
      lifted = sharing.lifted;
      placed = λ t q. sharing.new (ap (λ x. is_consumed (need_of x)) q);
      known = not_static k refl;
    }

    end : TakesOver out sc.held U (used_wires W c.vars us) (consumed_wires W c.vars us) (wires_so_far s) c.next r under d s1 v (flat_step (receive r) s1) × Fine (step (receive r)) s1
    end = receive_done out sc.held U (used_wires W c.vars us) (consumed_wires W c.vars us) (wires_so_far s) c.next under d s1 v r k (ap first values) given around suited stands

    fine : Fine (E >> step (receive r)) s
    fine = (t.done.fine, end.1)

    gets : Receives s1 k end.0.answer
    gets = subst (λ x. Receives s1 x end.0.answer) (ap first values) (subst (Receives s1 (last s1)) (ap first end.0.values) (received r s1))

    -- what it names has no owner
    none_before : is_consumed (need_of r) ≡ true → v.ty.classical ≡ true → (w : WireId) → (names k w ≡ true) ⊎ (wires_so_far s1 ≤ w.number) → owners_of U d.vars under w ≡ 0
    none_before q cl w (inl n) = go (cases_lt 0 (owners_of U d.vars under w))
      where
        go : (0 < owners_of U d.vars under w) ⊎ (owners_of U d.vars under w ≤ 0) → owners_of U d.vars under w ≡ 0
        go (inl lt) = clash (sym n ∙ sharing.shares cl w (omega (arith, lt)))
        go (inr z) = omega (arith, z)
    none_before q cl w (inr le) = let g = t.done.touches.grown in (knows_next out sc low others W under us c s b (need_of r) E (v ∷ []) d t.done f.left (one_part c.vars b.lone)).none w (omega (arith, le, g))

    none_behind : is_consumed (need_of r) ≡ true → v.ty.classical ≡ true → (w : WireId) → names end.0.answer w ≡ true → owners_of end.0.after d.vars under w ≡ 0
    none_behind q cl w n =
        let z = none_before q cl w (gets.from w n) in
        let a = owners_fall c.next U end.0.after end.0.agree d.vars d.vars (left_same d.vars) (one_left c.vars d.vars f.left (one_part c.vars b.lone)) under
        (below_left c.next c.vars d.vars f.left (live_before out sc low others W under us c s b)) (under_before out sc low others W under us c s b) w in
        omega (arith, z, a)

    next : Next
    next = record {
      fine = fine;
      good = good_flat (E >> step (receive r)) s b.good fine;
      after = end.0.after;
      agree = λ p l. end.0.agree p l ∙ t.done.agree p l;
      answer = end.0.answer;
      values = end.0.values ∙ ap (λ l. end.0.answer ∷ drop 1 l) values;
      taken = end.0.taken;
      stands = end.0.stands;
      kinds_stay = t.done.kinds_stay;
      leaves = leaves_then s s1 (flat_step (receive r) s1) t.done.leaves end.0.leaves;
      touches = touches_then (consumed_wires W c.vars us) (consumed_wires W c.vars us) s.built.draft s1.built.draft (flat_step (receive r) s1).built.draft t.done.touches (end.0.touches (consumed_wires W c.vars us)) (λ w l x. x);
      plain = λ q w m. t.done.plain q w (end.0.plain w m);
      unmade = end.0.unmade t.done.unmade;
      unheld = given.handed;
      new = sharing.new;
      shares = none_behind;
      began = λ m l q. gets.began m (let g = t.done.touches.grown in omega (arith, l, g)) (subst (λ x. m ≤ began_or m x) (sym t.done.leaves.callers) q) (later_began m (wires_so_far s) k l given.began);
    }

  pub taken_next : Next
  taken_next = go t.done.answers refl t.done.each t.sharing t.typed t.untold t.done.stands
    where
      go : (ks : List Known) → t.done.answers ≡ ks → ListBoth (IsAnswer U (need_of r) (used_wires W c.vars us) (consumed_wires W c.vars us) (wires_so_far s) c.next) (v ∷ []) ks
          → ListBoth (IsSharing (need_of r) c.next (λ w. owners_of U d.vars under w)) (v ∷ []) ks → (wants ≡ [] → AllOf IsTyped ks) → AllOf (EndsDropped (wires_so_far s) s1.built.draft) ks → Stands out sc.held U (carrying (need_of r) (v ∷ []) t.done.answers ++ under) d s1 → Next
      go [] q a sh ty un st = absurd a
      go (k ∷ []) q a sh ty un st = next k (t.done.values ∙ ap (λ l. reverse l ++ s.values) q) a.0 sh.0 (λ n. (ty n).0) un.0 (subst (λ l. Stands out sc.held U (carrying (need_of r) (v ∷ []) l ++ under) d s1) q st)
      go (k ∷ (l ∷ ks)) q a sh ty un st = absurd a.1
