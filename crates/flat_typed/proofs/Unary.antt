-- An operator on one value, as an expression.
use Rattle.std.proofs.Common.{◌≡◌, ◌⊎◌, inl, inr, ℕ, suc, ◌≤◌, ◌<◌, Bool, true, false, not, cond, ◌||◌, List, [], ◌∷◌, ◌++◌, drop, ℤ, refl, sym, ap, ap₂, ◌∙◌, subst, arith}
use Rattle.std.specs.Prelude.{reverse}
use Rattle.std.specs.List.{list_any}
use Rattle.std.proofs.lemmas.Bool.{cases_lt}
use Rattle.silq_tree.specs.declared.node.Spot.{Spot}
use Rattle.silq_tree.specs.declared.node.UnaryOp.{UnaryOp}
use Rattle.silq_tree.specs.declared.node.UnaryOp.TheVariants.{Not, Neg}
use Rattle.silq_tree.specs.Syntax.{Expression, unary}
use Rattle.silq_types.specs.declared.types.Shape.{Shape}
use Rattle.silq_types.specs.declared.types.Shape.TheVariants.{Bit, UInt, Int, Array}
use Rattle.silq_types.specs.declared.types.Ty.{Ty}
use Rattle.silq_types.specs.declared.signature.InstanceKey.{InstanceKey}
use Rattle.silq_types.specs.declared.signature.Signature.{Signature}
use Rattle.silq_types.specs.declared.values.Value.{Value}
use Rattle.silq_types.specs.Types.{is_bit, is_number, is_held, is_linear}
use Rattle.silq_types.specs.declared.need.Need.{Need}
use Rattle.silq_types.specs.declared.need.Need.TheVariants as needs
use Rattle.silq_mean.specs.Effect.{Effect, step, one_operand, ◌>>◌ as ◌▸◌}
use Rattle.silq_mean.specs.Meaning as meanings
use Rattle.silq_mean.specs.declared.receiver.Receiver.{Receiver}
use Rattle.check_scope.specs.declared.uses.Use.{Use}
use Rattle.check_scope.specs.Context.{Scope, Context, Check, ◌>>=◌}
use Rattle.check_scope.specs.Uses.{uses}
use Rattle.check_expr.specs.Expression.{origin_of, unary_fits, typed_by, unary_value, is_tuple, expr, single}
use Rattle.check_expr.specs.Owners.{Gives, Ensures, Sole}
use Rattle.check_expr.proofs.Owners.{gives-more, o_bind, o_then, o_from, o_more, o_rules}
use Rattle.flat_core.specs.declared.step.WireId.{WireId}
use Rattle.flat_form.specs.declared.known.TypedBits.{TypedBits}
use Rattle.flat_form.specs.declared.known.Known.{Known}
use Rattle.flat_form.specs.declared.known.Known.TheVariants.{Static, Shown, Lent, Absent}
use Rattle.flat_form.specs.State.{Flattening, first, drop_last, wires_so_far}
use Rattle.flat_form.specs.Flat.{by_one, shape_by_one, on_one, flat, flat_step}
use Rattle.flat_form.specs.Fine.{FitsOne, IsOf}
use Rattle.flat_form.specs.Names.{AllOf, named_by, names}
use Rattle.flat_form.specs.Good.{Good, IsKnown}
use Rattle.flat_form.specs.Shows.{ListBoth}
use Rattle.flat_form.proofs.Goods.{good_flat}
use Rattle.flat_typed.specs.Places.{Places, times_in, owners_of}
use Rattle.flat_typed.specs.Footprint.{used_wires, consumed_wires}
use Rattle.flat_typed.specs.Relation.{Outside, Stands, IsAnswer}
use Rattle.flat_typed.specs.Scopes.{as_meaning, NoStatics}
use Rattle.flat_typed.specs.Done.{Begins, ExprDone, IsSharing, IsTyped, EndsDropped, ExprTells, carrying}
use Rattle.flat_typed.specs.Lemmas.{Callable, ExprFine, ExpressionIsFine}
use Rattle.flat_typed.proofs.Ordered.{clash}
use Rattle.flat_typed.proofs.Touching.{flips_by_one}
use Rattle.flat_typed.proofs.Variables.{stands_vars}
use Rattle.flat_typed.proofs.Giving.{IsNew}
use Rattle.flat_typed.proofs.Reached.{one_of}
use Rattle.flat_typed.proofs.StaticTells.{unless_static_told}
use Rattle.flat_typed.proofs.Falling.{known_none}
use Rattle.flat_typed.proofs.Answering.{one_answers}
use Rattle.flat_typed.proofs.Following.{Facts, facts_here}
use Rattle.flat_typed.proofs.Operating.{GivesTold, Sourced, effect_of, told_borrowed, shows_then}

-- ---- what the walk tells

-- a new value of this type, behind a context of which something holds
pub record TypedAfter (P : Context → Type 0) (classical : Bool) (s : Shape) (vs : List Value) (d : Context) : Type 0 where
  pub before : Context
  pub is : P before
  pub values : vs ≡ record { ty = record { classical = classical; shape = s }; origin = origin_of classical; place = before.next } ∷ []
  pub left : d ≡ record before { next = suc before.next }

pub typed_tells : (S : InstanceKey → Signature → Type 0) (P : Context → Type 0) (classical : Bool) (s : Shape) → Ensures S P (typed_by classical s) (TypedAfter P classical s)
unfolding ◌>>=◌
typed_tells S P classical s = record { runs = λ d h. record { before = d; is = h; values = refl; left = refl } }

pub truly : (b : Bool) → not b ≡ false → b ≡ true
truly true e = refl
truly false e = clash e

pub unheld_origin : (classical : Bool) → is_held (origin_of classical) ≡ false
unheld_origin true = refl
unheld_origin false = refl

pub lifted_origin : (classical : Bool) → is_linear (origin_of classical) ≡ false
lifted_origin true = refl
lifted_origin false = refl

pub is_one_bit : (s : Shape) → is_bit s ≡ true → s ≡ Bit
is_one_bit Bit e = refl
is_one_bit (UInt w) e = clash (sym e)
is_one_bit (Int w) e = clash (sym e)
is_one_bit (Array k w) e = clash (sym e)

fits_one : (op : UnaryOp) (s : Shape) → unary_fits op s ≡ true → FitsOne op s
fits_one Not s e = is_one_bit s e
fits_one Neg s e = e

shape_one : (op : UnaryOp) (s : Shape) → unary_fits op s ≡ true → shape_by_one op s ≡ s
shape_one Not s e = sym (is_one_bit s e)
shape_one Neg s e = refl

pub named_some : (w : WireId) (ps : List _) → 1 ≤ times_in w ps → list_any (named_by w) ps ≡ true
named_some w [] le = absurd (omega (arith, le))
named_some w (p ∷ ps) le = go (named_by w p) le (named_some w ps)
  where
    go : (t : Bool) → 1 ≤ cond t (suc (times_in w ps)) (times_in w ps) → (1 ≤ times_in w ps → list_any (named_by w) ps ≡ true) → (t || list_any (named_by w) ps) ≡ true
    go true le i = refl
    go false le i = i le

-- ---- the effect

module _ (op : UnaryOp) (e : Expression) (sc : Scope) (taker : Ty → Receiver) (c : Context) (v : Value) (d : Context) (h : Facts sc taker needs.Held [] e c (v ∷ []) d) (ok : unary_fits op v.ty.shape ≡ true) (need : Need) (wants : List Ty)
    (out : Outside) (low : ℕ) (others : ℕ → ℕ) (W : Places) (under : List Value) (s : Flattening) (b : Begins out sc low others W under (uses e sc c.vars needs.Held) c s) where
  abbrev us : List Use
  us = uses e sc c.vars needs.Held

  abbrev E : Effect
  E = meanings.expr e (as_meaning taker sc) needs.Held

  abbrev s1 : Flattening
  s1 = flat E s

  abbrev given : Value
  given = record { ty = record { classical = v.ty.classical; shape = v.ty.shape }; origin = origin_of v.ty.classical; place = d.next }

  abbrev after : Context
  after = record d { next = suc d.next }

  abbrev Goal : Type 0
  Goal = ExprTells out sc need wants (E ▸ step (one_operand op)) W under us c s (given ∷ []) after

  t : ExprTells out sc needs.Held [] E W under us c s (v ∷ []) d
  t = h.tells out low others W under s b

  abbrev o : ExprDone out sc needs.Held E W under us c s (v ∷ []) d
  o = t.done

  grown : c.next ≤ d.next
  grown = (h.sole c.next others (record { grown = omega arith; one = b.sole.one; ahead = b.sole.ahead })).grown

  good1 : Good s1
  good1 = good_flat E s b.good o.fine

  abbrev Told : Flattening → Type 0
  Told x = GivesTold out sc.held o.after need (used_wires W c.vars us) (consumed_wires W c.vars us) (wires_so_far s) c.next under after s1 (drop 1 s1.values) given x

  module _ (u : TypedBits) (values : s1.values ≡ Shown u ∷ s.values) (a : IsAnswer o.after needs.Held (used_wires W c.vars us) (consumed_wires W c.vars us) (wires_so_far s) c.next v (Shown u))
      (sharing : IsSharing needs.Held c.next (λ w. owners_of o.after d.vars under w) v (Shown u)) (untold : EndsDropped (wires_so_far s) s1.built.draft (Shown u)) (stands : Stands out sc.held o.after under d s1) where
    last_is : first s1.values ≡ Shown u
    last_is = ap first values

    fine : IsOf (λ x. FitsOne op x.shape) (first s1.values)
    fine = subst (IsOf (λ x. FitsOne op x.shape)) (sym last_is) (subst (FitsOne op) (sym a.typed.0) (fits_one op v.ty.shape ok))

    known : Good s1 → (w : WireId) → 1 ≤ times_in w u.operands → w.number < wires_so_far s1
    known g w le = go (cases_lt w.number (wires_so_far s1))
      where
        go : (w.number < wires_so_far s1) ⊎ (wires_so_far s1 ≤ w.number) → w.number < wires_so_far s1
        go (inl lt) = lt
        go (inr ge) = let z = known_none (wires_so_far s1) w (Shown u) (subst (AllOf (IsKnown (wires_so_far s1))) values g.known.values).0 ge in absurd (omega (arith, z, le))

    source : Sourced o.after (used_wires W c.vars us) (wires_so_far s) under after s1 v.ty.classical (by_one op s1.setting u.operands s1.built) (λ w. 1 ≤ times_in w u.operands)
    source = record {
      flips = λ T k le. flips_by_one T k op s1.setting u.operands s1.built le;
      from = λ w le. (one_answers op s1.setting u.operands s1.built).from w le;
      once = λ w le. (one_answers op s1.setting u.operands s1.built).once w (a.differ w le);
      there = known good1;
      within = λ w le. a.within w (named_some w u.operands le);
      shares = λ q w le own. clash (sym (named_some w u.operands le) ∙ sharing.shares q w own);
      dropped = untold;
    }

    told : Told (flat_step (one_operand op) s1)
    told =
        subst (λ k. Good (on_one op k (drop_last s1)) → Told (on_one op k (drop_last s1))) (sym last_is)
        (λ g. told_borrowed out sc.held o.after need (used_wires W c.vars us) (consumed_wires W c.vars us) (wires_so_far s) c.next under after s1 (drop 1 s1.values) given
        u.classical (shape_by_one op u.shape) u.began (by_one op s1.setting u.operands s1.built) (λ w. 1 ≤ times_in w u.operands)
        (record { class = a.typed.1; shape = ap (shape_by_one op) a.typed.0 ∙ shape_one op v.ty.shape ok; unheld = unheld_origin v.ty.classical; lifted = lifted_origin v.ty.classical; place = grown })
        a.began o.touches.grown good1 source (stands_vars out sc.held o.after under d after s1 refl stands) g)
        (good_flat (step (one_operand op)) s1 good1 fine)

    ends : Goal
    ends =
        shows_then out sc need wants E W under us c s d (effect_of out sc needs.Held E W under us c s (v ∷ []) d o) (step (one_operand op)) o.after given after (λ p l. refl) fine refl
        (subst (λ l. GivesTold out sc.held o.after need (used_wires W c.vars us) (consumed_wires W c.vars us) (wires_so_far s) c.next under after s1 l given (flat_step (one_operand op) s1)) (ap (λ l. drop 1 l) values) told)

  pub unary_shows : Goal
  unary_shows = go o.answers o.values o.each o.stands t.sharing (t.typed refl) t.untold
    where
      go : (ks : List Known) → s1.values ≡ reverse ks ++ s.values → ListBoth (IsAnswer o.after needs.Held (used_wires W c.vars us) (consumed_wires W c.vars us) (wires_so_far s) c.next) (v ∷ []) ks
          → Stands out sc.held o.after (carrying needs.Held (v ∷ []) ks ++ under) d s1 → ListBoth (IsSharing needs.Held c.next (λ w. owners_of o.after d.vars under w)) (v ∷ []) ks → AllOf IsTyped ks → AllOf (EndsDropped (wires_so_far s) s1.built.draft) ks → Goal
      go [] q a st sh ty un = absurd a
      go (Static z ∷ []) q a st sh ty un = absurd ty.0
      go (Lent start size u ∷ []) q a st sh ty un = absurd a.0.typed
      go (Absent ∷ []) q a st sh ty un = absurd a.0.typed
      go (Shown u ∷ []) q a st sh ty un = ends u q a.0 sh.0 un.0 st
      go (k ∷ l ∷ ks) q a st sh ty un = absurd a.1

-- ---- the law

pub unary_is_fine : (op : UnaryOp) (e : Expression) (s : Spot) → ExpressionIsFine e → ExpressionIsFine (unary op e s)
unary_is_fine op e s fine sc taker need wants c t free =
    unless_static_told sc need wants c (unary op e s) (expr e sc needs.Held [] >>= (λ vs. single e vs >>= unary_value op s)) (meanings.expr e (as_meaning taker sc) needs.Held ▸ step (one_operand op)) (uses e sc c.vars needs.Held)
    (λ q. (o_bind (Callable sc) 0 first_walk (λ vs. o_bind (Callable sc) 0 (one_of (Callable sc) (λ vs d. Facts sc taker needs.Held [] e c vs d) e vs) (λ v. o_more (Callable sc) 0 (value_tells v) (λ ws d k. ends v ws d k)))).runs c refl)
  where
    first_walk : Ensures (Callable sc) (λ d. d ≡ c) (expr e sc needs.Held []) (λ vs d. is_tuple e ≡ false → Facts sc taker needs.Held [] e c vs d)
    first_walk = record {
      runs = λ d q. subst (λ y. Gives (Callable sc) (λ r. is_tuple e ≡ false → Facts sc taker needs.Held [] e c r.0 r.1) (expr e sc needs.Held [] y)) (sym q) (facts_here e fine sc taker needs.Held [] c free);
    }

    After : Value → Context → Type 0
    After v d = (unary_fits op v.ty.shape ≡ true) × Facts sc taker needs.Held [] e c (v ∷ []) d

    value_tells : (v : Value) → Ensures (Callable sc) (λ d. (is_tuple e ≡ false) × Facts sc taker needs.Held [] e c (v ∷ []) d) (unary_value op s v) (TypedAfter (After v) v.ty.classical v.ty.shape)
    value_tells v = o_then (Callable sc) 0 (o_rules (Callable sc) 0 s _) (λ u. o_from (Callable sc) 0 (λ d h. (truly (unary_fits op v.ty.shape) h.0.0, h.1.1)) (typed_tells (Callable sc) (After v) v.ty.classical v.ty.shape))

    Ends : List Value → Context → Type 0
    Ends ws d =
        (out : Outside) (low : ℕ) (others : ℕ → ℕ) (W : Places) (under : List Value) (st : Flattening) → Begins out sc low others W under (uses e sc c.vars needs.Held) c st
        → ExprTells out sc need wants (meanings.expr e (as_meaning taker sc) needs.Held ▸ step (one_operand op)) W under (uses e sc c.vars needs.Held) c st ws d

    ends : (v : Value) (ws : List Value) (d : Context) → TypedAfter (After v) v.ty.classical v.ty.shape ws d → Ends ws d
    ends v ws d k =
        subst (λ l. Ends l d) (sym k.values) (subst (λ f. Ends (record { ty = record { classical = v.ty.classical; shape = v.ty.shape }; origin = origin_of v.ty.classical; place = k.before.next } ∷ []) f) (sym k.left)
        (λ out low others W under st b. unary_shows op e sc taker c v k.before k.is.1 k.is.0 need wants out low others W under st b))
