-- The step that takes a value over, for each receiver.
use Rattle.std.proofs.Common.{◌≡◌, ℕ, ◌≤◌, Bool, true, false, cond, not, ◌&&◌, ◌||◌, List, [], ◌∷◌, ◌++◌, length, map, drop, ℤ, refl, sym, ap, ap₂, ◌∙◌, subst, arith}
use Rattle.std.specs.List.{list_any}
use Rattle.silq_types.specs.declared.types.Scalar.{Scalar}
use Rattle.silq_types.specs.declared.types.Scalar.TheVariants as scalars
use Rattle.silq_types.specs.declared.types.Shape.{Shape}
use Rattle.silq_types.specs.declared.types.Shape.TheVariants.{Bit, UInt, Int, Array}
use Rattle.silq_types.specs.declared.types.Ty.{Ty}
use Rattle.silq_types.specs.declared.values.Part.{Part}
use Rattle.silq_types.specs.declared.values.Value.{Value}
use Rattle.silq_types.specs.Types.{is_linear, single_shape, scalar_bits, fits}
use Rattle.silq_types.specs.declared.need.Need.{Need}
use Rattle.silq_types.specs.declared.need.Need.TheVariants as needs
use Rattle.silq_types.specs.Calls.{is_consumed}
use Rattle.check_scope.specs.Context.{Context}
use Rattle.silq_mean.specs.Value.{low_bits, modulo, modulus}
use Rattle.silq_mean.specs.declared.receiver.Receiver.{Receiver}
use Rattle.silq_mean.specs.declared.receiver.Receiver.TheVariants.{Variable, Argument, CallResult, EntryOutput}
use Rattle.silq_mean.specs.Effect.{receive}
use Rattle.flat_core.specs.declared.step.WireId.{WireId}
use Rattle.bit_arith.specs.declared.operand.Operand.{Operand}
use Rattle.bit_arith.specs.declared.operand.Operand.TheVariants.{Const}
use Rattle.bit_arith.specs.Built.{Given}
use Rattle.bit_arith.specs.Calls.{Targets}
use Rattle.flat_form.specs.declared.known.TypedBits.{TypedBits}
use Rattle.flat_form.specs.declared.known.Known.{Known}
use Rattle.flat_form.specs.declared.known.Known.TheVariants.{Static, Shown, Lent, Absent}
use Rattle.flat_form.specs.State.{Flattening, last, drop_last, wires_so_far, copied, taken, kept, typed_as}
use Rattle.flat_form.specs.Flat.{taken_for, class_for, began_for, receive_value, shape_for, flat_step}
use Rattle.flat_form.specs.Fine.{IsAny}
use Rattle.flat_form.specs.Names.{named_by}
use Rattle.flat_typed.specs.Places.{Places, times_in}
use Rattle.flat_typed.specs.Relation.{Outside, Stands, IsAnswer, is_argument, taken_type, is_carried, need_of}
use Rattle.flat_typed.specs.Done.{carrying}
use Rattle.flat_typed.proofs.Ordered.{clash}
use Rattle.flat_typed.proofs.Touching.{flips_touch, flips_stay_plain, flips_unmade, flips_taken_for}
use Rattle.flat_typed.proofs.Placing.{stands_pushed}
use Rattle.flat_typed.proofs.Taking.{Offer, Around, Suits, TakesOver, Carried, Shares, carried_copy, carried_taken, bare, kept_shares}

-- ---- the step's end

module _ (out : Outside) (held : List (List Part)) (W : Places) (used consumed : Targets) (n low : ℕ) (under : List Value) (c : Context) (s : Flattening) (v : Value) (u : TypedBits) where
  module _ (r : Receiver) (o : Offer W (need_of r) used consumed n low v u) (f : Suits low r v u) where
    abbrev given : Given (List Operand)
    given = taken_for r s.setting u s.built

    abbrev answer : Known
    answer = Shown (record { classical = class_for r u; shape = u.shape; operands = given.answer; own = true; began = began_for r u s.callers })

    abbrev shown_as : Bool → Shape → Known
    shown_as x y = Shown (record { classical = x; shape = y; operands = given.answer; own = true; began = began_for r u s.callers })

    shows : answer ≡ shown_as (taken_type r v).classical v.ty.shape
    shows = ap₂ (λ x y. shown_as x y) f.class o.shape

    began : is_argument r ≡ true → n ≤ began_for r u s.callers
    began = go r
      where
        go : (q : Receiver) → is_argument q ≡ true → n ≤ began_for q u s.callers
        go Variable e = clash (sym e)
        go (Argument need t) e = o.began
        go (CallResult t) e = clash (sym e)
        go (EntryOutput t) e = clash (sym e)

    -- with wires of its own
    owns : is_carried r v ≡ true → Carried out held W used consumed n low under c s v given → TakesOver out held W used consumed n low r under c s v (receive_value r (Shown u) (drop_last s))
    owns carries k = record {
      after = k.after;
      agree = k.agree;
      answer = answer;
      values = refl;
      taken = record { shows = shows; began = began; fits = f.shape; own = λ q. k.own; moved = λ q. k.moved; within = k.within };
      stands =
          subst (λ l. Stands out held k.after (l ++ under) c (receive_value r (Shown u) (drop_last s))) (sym (ap (λ t. cond t (v ∷ []) []) carries))
          (stands_pushed out held k.after (v ∷ under) c s given.built (answer ∷ drop 1 s.values) k.stands);
      leaves = record { setting = refl; callers = refl; blocks = refl; names = refl };
      touches = λ T. flips_touch T s.built given.built (flips_taken_for T (length s.built.draft.wires) r s.setting u s.built (omega arith));
      plain = flips_stay_plain (λ w. false) 0 s.built given.built (flips_taken_for (λ w. false) 0 r s.setting u s.built (omega arith));
      unmade = flips_unmade (λ w. false) 0 s.built given.built (flips_taken_for (λ w. false) 0 r s.setting u s.built (omega arith));
    }

    -- with wires that others may show
    borrows : is_carried r v ≡ false → Shares out held W used n under c s given → TakesOver out held W used consumed n low r under c s v (receive_value r (Shown u) (drop_last s))
    borrows none k = record {
      after = W;
      agree = λ p l. refl;
      answer = answer;
      values = refl;
      taken = record { shows = shows; began = began; fits = f.shape; own = λ q. clash (sym q ∙ none); moved = λ q. clash (sym q ∙ none); within = k.within };
      stands =
          subst (λ l. Stands out held W (l ++ under) c (receive_value r (Shown u) (drop_last s))) (sym (ap (λ t. cond t (v ∷ []) []) none))
          (stands_pushed out held W under c s given.built (answer ∷ drop 1 s.values) k.stands);
      leaves = record { setting = refl; callers = refl; blocks = refl; names = refl };
      touches = λ T. flips_touch T s.built given.built (flips_taken_for T (length s.built.draft.wires) r s.setting u s.built (omega arith));
      plain = flips_stay_plain (λ w. false) 0 s.built given.built (flips_taken_for (λ w. false) 0 r s.setting u s.built (omega arith));
      unmade = flips_unmade (λ w. false) 0 s.built given.built (flips_taken_for (λ w. false) 0 r s.setting u s.built (omega arith));
    }

  -- ---- each receiver

  abbrev Takes : Receiver → Type 0
  Takes r = TakesOver out held W used consumed n low r under c s v (receive_value r (Shown u) (drop_last s))

  abbrev Starts : Need → Type 0
  Starts need = Stands out held W (carrying need (v ∷ []) (Shown u ∷ []) ++ under) c s

  abbrev Carries : Given (List Operand) → Type 0
  Carries g = Carried out held W used consumed n low under c s v g

  abbrev Borrows : Given (List Operand) → Type 0
  Borrows g = Shares out held W used n under c s g

  abbrev either_of : Bool → Given (List Operand) → Given (List Operand) → Given (List Operand)
  either_of t g h = cond t g h

  no_carried : (a b : Bool) → (not a || b) ≡ true → (a && not b) ≡ false
  no_carried true true e = refl
  no_carried true false e = clash (sym e)
  no_carried false b e = refl

  is_both : (a b : Bool) → (not a || b) ≡ false → (a ≡ true) × ((a && not b) ≡ true)
  is_both true true e = clash e
  is_both true false e = (refl, refl)
  is_both false b e = clash e

  pub receive_shown : (r : Receiver) → Offer W (need_of r) used consumed n low v u → Around out W n low under c s v (Shown u) → Suits low r v u → Starts (need_of r) → Takes r
  receive_shown Variable o a f st = go u.classical refl
    where
      go : (t : Bool) → u.classical ≡ t → Takes Variable
      go true e =
          let none : not v.ty.classical ≡ false = ap not (sym f.class ∙ e) in
          borrows Variable o f none
          (subst Borrows (ap (λ t. either_of t (kept s.setting u s.built) (taken s.setting u s.built)) (sym e)) (kept_shares out held W used consumed n low under c s v u a o.within (bare out held W used consumed n low under c s v u needs.Consumed (λ q. f.lifted q none) st)))
      go false e =
          owns Variable o f (ap not (sym f.class ∙ e))
          (subst Carries (ap (λ t. either_of t (kept s.setting u s.built) (taken s.setting u s.built)) (sym e)) (carried_taken out held W used consumed n low under c s v u needs.Consumed o a refl st))
  receive_shown (Argument need t) o a f st = go (not (is_consumed need) || t.classical) refl
    where
      go : (x : Bool) → (not (is_consumed need) || t.classical) ≡ x → Takes (Argument need t)
      go true e =
          let none : (is_consumed need && not t.classical) ≡ false = no_carried (is_consumed need) t.classical e in
          borrows (Argument need t) o f none
          (subst Borrows (ap (λ x. either_of x (kept s.setting u s.built) (taken s.setting u s.built)) (sym e)) (kept_shares out held W used consumed n low under c s v u a o.within (bare out held W used consumed n low under c s v u need (λ q. f.lifted q none) st)))
      go false e =
          let both = is_both (is_consumed need) t.classical e in
          owns (Argument need t) o f both.1
          (subst Carries (ap (λ x. either_of x (kept s.setting u s.built) (taken s.setting u s.built)) (sym e)) (carried_taken out held W used consumed n low under c s v u need o a both.0 st))
  receive_shown (CallResult t) o a f st = owns (CallResult t) o f refl (carried_taken out held W used consumed n low under c s v u needs.Consumed o a refl st)
  receive_shown (EntryOutput t) o a f st = go (t.classical || u.classical) refl
    where
      go : (x : Bool) → (t.classical || u.classical) ≡ x → Takes (EntryOutput t)
      go true e =
          let k = f.copies t refl e in
          owns (EntryOutput t) o f refl
          (subst Carries (ap (λ x. either_of x (copied s.setting u.operands s.built) (taken s.setting u s.built)) (sym e)) (carried_copy out held W used consumed n low under c s v u a k.0 (bare out held W used consumed n low under c s v u needs.Consumed (λ q. k.1) st)))
      go false e =
          owns (EntryOutput t) o f refl
          (subst Carries (ap (λ x. either_of x (copied s.setting u.operands s.built) (taken s.setting u s.built)) (sym e)) (carried_taken out held W used consumed n low under c s v u needs.Consumed o a refl st))

-- ---- static values take a type

pub consts_none : (w : WireId) (bs : List Bool) → times_in w (map (λ b. Const b) bs) ≡ 0
consts_none w [] = refl
consts_none w (b ∷ bs) = consts_none w bs

pub consts_unnamed : (w : WireId) (bs : List Bool) → list_any (named_by w) (map (λ b. Const b) bs) ≡ false
consts_unnamed w [] = refl
consts_unnamed w (b ∷ bs) = consts_unnamed w bs

abbrev pub bits_of : ℕ → Scalar → ℤ → TypedBits
bits_of m k z = record { classical = false; shape = single_shape k; operands = map (λ b. Const b) (low_bits (scalar_bits k) (modulo z (modulus k))); own = false; began = m }

-- a value that fits a type is one of a scalar
pub record TakesType (m : ℕ) (t : Shape) (z : ℤ) : Type 0 where
  pub scalar : Scalar
  pub typed : typed_as m t (Static z) ≡ Shown (bits_of m scalar z)
  pub shape : single_shape scalar ≡ t

takes_type : (m : ℕ) (t : Shape) (z : ℤ) → fits t z ≡ true → TakesType m t z
takes_type m Bit z e = record { scalar = scalars.Bit; typed = refl; shape = refl }
takes_type m (UInt w) z e = record { scalar = scalars.UInt w; typed = refl; shape = refl }
takes_type m (Int w) z e = record { scalar = scalars.Int w; typed = refl; shape = refl }
takes_type m (Array k w) z e = clash (sym e)

typed_shown : (m : ℕ) (t : Shape) (u : TypedBits) → typed_as m t (Shown u) ≡ Shown u
typed_shown m Bit u = refl
typed_shown m (UInt w) u = refl
typed_shown m (Int w) u = refl
typed_shown m (Array k w) u = refl

-- ---- the step

-- what typing tells of a value that is taken over: its type is the one asked, a static value is not given to a name, and a classical one is not
-- Linear, and has a new place where it is copied for the entry
pub record IsSuited (low : ℕ) (r : Receiver) (v : Value) (k : Known) : Type 0 where
  pub shape : (taken_type r v).shape ≡ v.ty.shape
  pub class : (taken_type r v).classical ≡ true → v.ty.classical ≡ true
  pub lifted : is_consumed (need_of r) ≡ true → v.ty.classical ≡ true → is_linear v.origin ≡ false
  pub placed : (t : Ty) → r ≡ EntryOutput t → v.ty.classical ≡ true → low ≤ v.place
  pub known : (z : ℤ) → k ≡ Static z → r ≡ Variable → ⊥

or_true : (a b c : Bool) → (a || b) ≡ true → (a ≡ true → c ≡ true) → (b ≡ true → c ≡ true) → c ≡ true
or_true true b c e f g = f refl
or_true false b c e f g = g e

not_false : (a : Bool) → not a ≡ false → a ≡ true
not_false true e = refl
not_false false e = clash e

and_not : (a b : Bool) → (a && not b) ≡ false → a ≡ true → b ≡ true
and_not true b e h = not_false b e
and_not false b e h = clash (sym h)

uncarried : (low : ℕ) (r : Receiver) (v : Value) (k : Known) → IsSuited low r v k → is_consumed (need_of r) ≡ true → is_carried r v ≡ false → is_linear v.origin ≡ false
uncarried low Variable v k f q e = f.lifted refl (not_false v.ty.classical e)
uncarried low (Argument need t) v k f q e = f.lifted q (f.class (and_not (is_consumed need) t.classical e q))
uncarried low (CallResult t) v k f q e = clash e
uncarried low (EntryOutput t) v k f q e = clash e

suits_with : (low : ℕ) (r : Receiver) (v : Value) (k : Known) (u : TypedBits) → IsSuited low r v k → class_for r u ≡ (taken_type r v).classical → (u.classical ≡ true → v.ty.classical ≡ true) → Suits low r v u
suits_with low r v k u f class under = record {
  shape = f.shape;
  class = class;
  lifted = λ q e. uncarried low r v k f q e;
  copies = λ t e q.
      let h : v.ty.classical ≡ true = or_true t.classical u.classical v.ty.classical q (λ a. f.class (ap (λ (x : Receiver). (taken_type x v).classical) e ∙ a)) under in
      (f.placed t e h, f.lifted (ap (λ (x : Receiver). is_consumed (need_of x)) e) h);
}

module _ (out : Outside) (held : List (List Part)) (W : Places) (used consumed : Targets) (n low : ℕ) (under : List Value) (c : Context) (s : Flattening) (v : Value) (r : Receiver) where
  abbrev End : Known → Type 0
  End k = TakesOver out held W used consumed n low r under c s v (receive_value r k (drop_last s)) × IsAny k

  shown_end : (u : TypedBits) → IsAnswer W (need_of r) used consumed n low v (Shown u) → Around out W n low under c s v (Shown u) → IsSuited low r v (Shown u) → Stands out held W (carrying (need_of r) (v ∷ []) (Shown u ∷ []) ++ under) c s → End (Shown u)
  shown_end u h a f st = (
    receive_shown out held W used consumed n low under c s v u r
        (record { shape = h.typed.0; own = h.own; borrowed = h.borrowed; moved = h.moved; within = h.within; began = h.began; differ = h.differ }) a
        (suits_with low r v (Shown u) u f (class r) (λ e. sym h.typed.1 ∙ e)) st,
    tt,
  )
    where
      class : (q : Receiver) → class_for q u ≡ (taken_type q v).classical
      class Variable = h.typed.1
      class (Argument need t) = refl
      class (CallResult t) = refl
      class (EntryOutput t) = refl

  static_end : (z : ℤ) (k : Scalar) → single_shape k ≡ v.ty.shape → (r ≡ Variable → ⊥) → IsAnswer W (need_of r) used consumed n low v (Static z) → Around out W n low under c s v (Static z) → IsSuited low r v (Static z)
      → Stands out held W (carrying (need_of r) (v ∷ []) (Static z ∷ []) ++ under) c s → End (Shown (bits_of (wires_so_far s) k z))
  static_end z k e nv h a f st = (
    receive_shown out held W used consumed n low under c s v (bits_of (wires_so_far s) k z) r
        (record {
          shape = e;
          own = λ q y. clash (sym y);
          borrowed = λ q y. h.borrowed q tt;
          moved = λ y. clash (sym y);
          within = λ w y. clash (sym y ∙ consts_unnamed w (low_bits (scalar_bits k) (modulo z (modulus k))));
          began = a.grown;
          differ = λ w le. let t = none w in omega (arith, t);
        })
        (record {
          knows = a.knows;
          grown = a.grown;
          fresh = a.fresh;
          unmade = a.unmade;
          there = λ w le. let t = none w in absurd (omega (arith, t, le));
          untold = λ y w le. let t = none w in absurd (omega (arith, t, le));
          alone = a.alone;
          apart = a.apart;
          fit = a.fit;
        })
        (suits_with low r v (Static z) (bits_of (wires_so_far s) k z) f (class r refl) (λ y. clash (sym y)))
        (subst (λ l. Stands out held W (l ++ under) c s) (same (is_consumed (need_of r))) st),
    tt,
  )
    where
      none : (w : WireId) → times_in w (map (λ b. Const b) (low_bits (scalar_bits k) (modulo z (modulus k)))) ≡ 0
      none w = consts_none w (low_bits (scalar_bits k) (modulo z (modulus k)))

      same : (t : Bool) → cond (t && false) (v ∷ []) [] ≡ cond (t && false) (v ∷ []) []
      same t = refl

      class : (q : Receiver) → r ≡ q → class_for q (bits_of (wires_so_far s) k z) ≡ (taken_type q v).classical
      class Variable y = absurd (nv y)
      class (Argument need t) y = refl
      class (CallResult t) y = refl
      class (EntryOutput t) y = refl

  -- the type that is asked
  shape_asked : (q : Receiver) (m : ℕ) (k : Known) → (q ≡ Variable → ⊥) → shape_for q m k ≡ typed_as m (taken_type q v).shape k
  shape_asked Variable m k nv = absurd (nv refl)
  shape_asked (Argument need t) m k nv = refl
  shape_asked (CallResult t) m k nv = refl
  shape_asked (EntryOutput t) m k nv = refl

  shape_shown : (q : Receiver) (m : ℕ) (u : TypedBits) → shape_for q m (Shown u) ≡ Shown u
  shape_shown Variable m u = refl
  shape_shown (Argument need t) m u = typed_shown m t.shape u
  shape_shown (CallResult t) m u = typed_shown m t.shape u
  shape_shown (EntryOutput t) m u = typed_shown m t.shape u

  pub receive_done : (k : Known) → last s ≡ k → IsAnswer W (need_of r) used consumed n low v k → Around out W n low under c s v k → IsSuited low r v k → Stands out held W (carrying (need_of r) (v ∷ []) (k ∷ []) ++ under) c s
      → TakesOver out held W used consumed n low r under c s v (flat_step (receive r) s) × IsAny (shape_for r (wires_so_far s) (last s))
  receive_done (Shown u) e h a f st = subst End (sym (ap (shape_for r (wires_so_far s)) e ∙ shape_shown r (wires_so_far s) u)) (shown_end u h a f st)
  receive_done (Static z) e h a f st =
      let t = takes_type (wires_so_far s) v.ty.shape z h.typed in
      subst End
      (sym (ap (shape_for r (wires_so_far s)) e
      ∙ (shape_asked r (wires_so_far s) (Static z) (f.known z refl)
      ∙ (ap (λ y. typed_as (wires_so_far s) y (Static z)) f.shape ∙ t.typed))))
      (static_end z t.scalar t.shape (f.known z refl) h a f st)
  receive_done (Lent start size u) e h a f st = absurd h.typed
  receive_done Absent e h a f st = absurd h.typed
