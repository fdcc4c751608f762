-- An operator on two operands in turn, of which one may be static.
use Rattle.std.proofs.Common.{◌≡◌, ◌⊎◌, inl, inr, ℕ, suc, ◌≤◌, ◌<◌, Bool, true, false, ◌&&◌, List, [], ◌∷◌, ◌++◌, ℤ, refl, sym, ap, ap₂, ◌∙◌, subst, arith}
use Rattle.std.proofs.lemmas.Bool.{cases_lt}
use Rattle.silq_tree.specs.declared.node.BinaryOp.{BinaryOp}
use Rattle.silq_types.specs.declared.types.Ty.{Ty}
use Rattle.silq_types.specs.declared.values.Value.{Value}
use Rattle.silq_types.specs.Types.{fits, scalar_bits}
use Rattle.silq_types.specs.declared.types.Scalar.{Scalar}
use Rattle.silq_mean.specs.Value.{low_bits, modulo, modulus}
use Rattle.silq_types.specs.declared.need.Need.{Need}
use Rattle.silq_mean.specs.Effect.{Effect, step, two_operands, ◌>>◌}
use Rattle.check_scope.specs.declared.uses.Use.{Use}
use Rattle.check_scope.specs.Context.{Scope, Context}
use Rattle.check_expr.specs.Expression.{binary_fits}
use Rattle.flat_core.specs.declared.step.WireId.{WireId}
use Rattle.bit_arith.specs.Calls.{Targets}
use Rattle.flat_form.specs.declared.known.TypedBits.{TypedBits}
use Rattle.flat_form.specs.declared.known.Known.{Known}
use Rattle.flat_form.specs.declared.known.Known.TheVariants.{Static, Shown, Lent, Absent}
use Rattle.flat_form.specs.State.{Flattening, wires_so_far}
use Rattle.flat_form.specs.Flat.{flat}
use Rattle.flat_form.specs.Names.{AllOf, names}
use Rattle.flat_form.specs.Good.{Good, IsKnown}
use Rattle.flat_form.proofs.Goods.{good_flat}
use Rattle.flat_typed.specs.Places.{Places, times_in, owners_of}
use Rattle.flat_typed.specs.Footprint.{used_wires}
use Rattle.flat_typed.specs.Relation.{Outside, OfType, BeganFrom}
use Rattle.flat_typed.specs.Done.{Begins, IsTyped, EndsDropped, ExprTells}
use Rattle.flat_typed.proofs.Ordered.{clash}
use Rattle.flat_typed.proofs.Receiving.{bits_of, consts_none}
use Rattle.flat_typed.proofs.Falling.{known_none, one_part}
use Rattle.flat_typed.proofs.Unary.{named_some}
use Rattle.flat_typed.proofs.Pairing.{Alone, pair_done, pair_stands, first_within, second_within, second_began, first_shares, second_shares, first_untold, second_untold, second_values}
use Rattle.flat_typed.proofs.Operating.{EffectDone}
use Rattle.flat_typed.proofs.TwoOperands.{Ready, ready_none, static_operand, joined_value, behind, joins}

both_true : (a b : Bool) → (a && b) ≡ true → (a ≡ true) × (b ≡ true)
both_true true b e = (refl, e)
both_true false b e = clash (sym e)

-- the wires that a value names
ready_of : (U : Places) (used : Targets) (n : ℕ) (under : List Value) (c : Context) (s : Flattening) (classical : Bool) (u : TypedBits) → IsKnown (wires_so_far s) (Shown u)
    → ((w : WireId) → names (Shown u) w ≡ true → (used w ≡ true) ⊎ (n ≤ w.number)) → (classical ≡ true → (w : WireId) → 1 ≤ owners_of U c.vars under w → names (Shown u) w ≡ false) → EndsDropped n s.built.draft (Shown u) → Ready U used n under c s classical u
ready_of U used n under c s classical u known within shares dropped = record {
  there = λ w le. go w le (cases_lt w.number (wires_so_far s));
  within = λ w le. within w (named_some w u.operands le);
  shares = λ e w le own. clash (sym (named_some w u.operands le) ∙ shares e w own);
  dropped = dropped;
}
  where
    go : (w : WireId) → 1 ≤ times_in w u.operands → (w.number < wires_so_far s) ⊎ (wires_so_far s ≤ w.number) → w.number < wires_so_far s
    go w le (inl lt) = lt
    go w le (inr ge) = let z = known_none (wires_so_far s) w (Shown u) known ge in absurd (omega (arith, z, le))

module _ (op : BinaryOp) (out : Outside) (sc : Scope) (low : ℕ) (others : ℕ → ℕ) (need : Need) (wants : List Ty) (W : Places) (under : List Value) (us vs : List Use) (c : Context) (s : Flattening) (b : Begins out sc low others W under (us ++ vs) c s)
    (Ea Eb : Effect) (x y : Value) (d1 d2 : Context) (p : Alone out sc low others Ea W under us c s x d1) (b2 : Begins out sc low others p.done.after under vs d1 (flat Ea s)) (q : Alone out sc low others Eb p.done.after under vs d1 (flat Ea s) y d2)
    (before : Context) (same : before.vars ≡ d2.vars) (grown : c.next ≤ before.next) (shape : x.ty.shape ≡ y.ty.shape) (ok : binary_fits op x.ty.shape ≡ true) where
  abbrev both : Effect
  both = Ea >> Eb

  abbrev s2 : Flattening
  s2 = flat both s

  abbrev done : EffectDone out sc both W (us ++ vs) c s d2
  done = pair_done out sc low others W under us vs c s b Ea Eb x y d1 d2 p q

  abbrev classes : Bool
  classes = x.ty.classical && y.ty.classical

  abbrev IsReady : TypedBits → Type 0
  IsReady u = Ready done.after (used_wires W c.vars (us ++ vs)) (wires_so_far s) under (record before { next = suc before.next }) s2 classes u

  abbrev Goal : Type 0
  Goal = ExprTells out sc need wants (both >> step (two_operands op)) W under (us ++ vs) c s (joined_value op out sc need wants both W under (us ++ vs) c s x y d2 done b.good before same grown ok ∷ []) (record before { next = suc before.next })

  good2 : Good s2
  good2 = good_flat both s b.good done.fine

  values : s2.values ≡ q.known ∷ (p.known ∷ s.values)
  values = second_values out sc low others W under us vs c s b Ea Eb x y d1 d2 p q

  known : AllOf (IsKnown (wires_so_far s2)) (q.known ∷ (p.known ∷ s.values))
  known = subst (AllOf (IsKnown (wires_so_far s2))) values good2.known.values

  owned : (w : WireId) → 1 ≤ owners_of done.after before.vars under w → 1 ≤ owners_of done.after d2.vars under w
  owned w le = subst (λ l. 1 ≤ owners_of done.after l under w) same le

  ready_first : (u : TypedBits) → p.known ≡ Shown u → IsReady u
  ready_first u e =
      ready_of done.after (used_wires W c.vars (us ++ vs)) (wires_so_far s) under (record before { next = suc before.next }) s2 classes u (subst (IsKnown (wires_so_far s2)) e known.1.0)
      (λ w n. first_within out sc low others W under us vs c s b Ea Eb x y d1 d2 p q w (ap (λ k. names k w) e ∙ n))
      (λ t w le. sym (ap (λ k. names k w) e) ∙ first_shares out sc low others W under us vs c s b Ea Eb x y d1 d2 p q (one_part d1.vars b2.lone) b2 (both_true x.ty.classical y.ty.classical t).0 w (owned w le))
      (subst (EndsDropped (wires_so_far s) s2.built.draft) e (first_untold out sc low others W under us vs c s b Ea Eb x y d1 d2 p q))

  ready_second : (u : TypedBits) → q.known ≡ Shown u → IsReady u
  ready_second u e =
      ready_of done.after (used_wires W c.vars (us ++ vs)) (wires_so_far s) under (record before { next = suc before.next }) s2 classes u (subst (IsKnown (wires_so_far s2)) e known.0)
      (λ w n. second_within out sc low others W under us vs c s b Ea Eb x y d1 d2 p q w (ap (λ k. names k w) e ∙ n))
      (λ t w le. sym (ap (λ k. names k w) e) ∙ second_shares out sc low others W under us vs c s b Ea Eb x y d1 d2 p q (both_true x.ty.classical y.ty.classical t).1 w (owned w le))
      (subst (EndsDropped (wires_so_far s) s2.built.draft) e (second_untold out sc low others W under us vs c s b Ea Eb x y d1 d2 p q))

  ready_bits : (k : Scalar) (z : ℤ) (t : Bool) → IsReady (record (bits_of 0 k z) { classical = t })
  ready_bits k z t =
      ready_none done.after (used_wires W c.vars (us ++ vs)) (wires_so_far s) under (record before { next = suc before.next }) s2 classes (record (bits_of 0 k z) { classical = t })
      (λ w. consts_none w (low_bits (scalar_bits k) (modulo z (modulus k))))

  -- the value of the operator, where the two are not both static
  pub two_join : (IsTyped p.known ⊎ ((x.ty ≡ y.ty) × IsTyped q.known)) → (IsTyped q.known ⊎ ((y.ty ≡ x.ty) × IsTyped p.known)) → Goal
  two_join tp tq = go p.known q.known refl refl p.given.typed q.given.typed p.given.began (second_began out sc low others W under us vs c s b Ea Eb x y d1 d2 p q) tp tq
    where
      at : (k l : Known) → p.known ≡ k → q.known ≡ l → s2.values ≡ l ∷ (k ∷ s.values)
      at k l e f = values ∙ ap₂ (λ m n. m ∷ (n ∷ s.values)) f e

      go : (k l : Known) → p.known ≡ k → q.known ≡ l → OfType x.ty k → OfType y.ty l → BeganFrom (wires_so_far s) k → BeganFrom (wires_so_far s) l → (IsTyped k ⊎ ((x.ty ≡ y.ty) × IsTyped l)) → (IsTyped l ⊎ ((y.ty ≡ x.ty) × IsTyped k)) → Goal
      go (Shown u) (Shown w) e f tx ty bk bl kx ky =
          joins op out sc need wants both W under (us ++ vs) c s x y d2 done b.good before same grown ok (Shown u) (Shown w) (at (Shown u) (Shown w) e f) (pair_stands out sc low others W under us vs c s b Ea Eb x y d1 d2 p q) u w refl refl
          tx.0 (tx.0 ∙ (shape ∙ sym ty.0)) (ap₂ (λ m n. m && n) tx.1 ty.1) bk (ready_first u e) (ready_second w f)
      go (Shown u) (Static z) e f tx ty bk bl kx (inl t) = absurd t
      go (Shown u) (Static z) e f tx ty bk bl kx (inr t) =
          let k = static_operand u z (ap (λ s. fits s z) (tx.0 ∙ shape) ∙ ty) in
          joins op out sc need wants both W under (us ++ vs) c s x y d2 done b.good before same grown ok (Shown u) (Static z) (at (Shown u) (Static z) e f) (pair_stands out sc low others W under us vs c s b Ea Eb x y d1 d2 p q) u (record (bits_of 0 k.scalar z) { classical = u.classical }) refl k.is
          tx.0 (sym k.shape) (ap₂ (λ m n. m && n) tx.1 (tx.1 ∙ ap (λ (a : Ty). a.classical) (sym t.0))) bk (ready_first u e) (ready_bits k.scalar z u.classical)
      go (Static z) (Shown w) e f tx ty bk bl (inl t) ky = absurd t
      go (Static z) (Shown w) e f tx ty bk bl (inr t) ky =
          let k = static_operand w z (ap (λ s. fits s z) (ty.0 ∙ sym shape) ∙ tx) in
          joins op out sc need wants both W under (us ++ vs) c s x y d2 done b.good before same grown ok (Static z) (Shown w) (at (Static z) (Shown w) e f) (pair_stands out sc low others W under us vs c s b Ea Eb x y d1 d2 p q) (record (bits_of 0 k.scalar z) { classical = w.classical }) w k.is refl
          (k.shape ∙ (ty.0 ∙ sym shape)) k.shape (ap₂ (λ m n. m && n) (ty.1 ∙ ap (λ (a : Ty). a.classical) (sym t.0)) ty.1) bl (ready_bits k.scalar z w.classical) (ready_second w f)
      go (Static z) (Static z') e f tx ty bk bl (inl t) ky = absurd t
      go (Static z) (Static z') e f tx ty bk bl (inr t) ky = absurd t.1
      go (Lent start size u) l e f tx ty bk bl kx ky = absurd tx
      go Absent l e f tx ty bk bl kx ky = absurd tx
      go (Shown u) (Lent start size w) e f tx ty bk bl kx ky = absurd ty
      go (Shown u) Absent e f tx ty bk bl kx ky = absurd ty
      go (Static z) (Lent start size w) e f tx ty bk bl kx ky = absurd ty
      go (Static z) Absent e f tx ty bk bl kx ky = absurd ty
