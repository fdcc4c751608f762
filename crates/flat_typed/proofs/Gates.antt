-- A gate on the value of an expression: it is taken, worked on, and given on with its place.
use Rattle.std.proofs.Common.{◌≡◌, ◌⊎◌, inl, inr, ℕ, ◌+◌, ◌≤◌, ◌<◌, Bool, true, false, cond, ◌&&◌, ◌||◌, List, [], ◌∷◌, ◌++◌, length, drop, refl, sym, ap, ap₂, ◌∙◌, subst, arith}
use Rattle.std.specs.Prelude.{nat_le, reverse}
use Rattle.std.proofs.lemmas.Bool.{cases_lt}
use Rattle.silq_types.specs.declared.types.Shape.{Shape}
use Rattle.silq_types.specs.declared.types.Shape.TheVariants.{Bit, UInt, Int, Array}
use Rattle.silq_types.specs.declared.types.Ty.{Ty}
use Rattle.silq_types.specs.declared.values.Part.{Part}
use Rattle.silq_types.specs.declared.values.Value.{Value}
use Rattle.silq_types.specs.Types.{is_linear, is_held, is_bit, quantum, shape_bits}
use Rattle.silq_types.specs.declared.need.Need.{Need}
use Rattle.silq_types.specs.declared.need.Need.TheVariants as needs
use Rattle.silq_types.specs.Calls.{is_consumed}
use Rattle.check_scope.specs.declared.uses.Use.{Use}
use Rattle.check_scope.specs.Context.{Scope, Context}
use Rattle.check_expr.specs.Expression.{is_qfree}
use Rattle.check_expr.specs.Owners.{owners, owned}
use Rattle.silq_mean.specs.Effect.{Effect, ◌>>◌}
use Rattle.flat_core.specs.declared.step.WireId.{WireId}
use Rattle.flat_core.specs.Label.{same_wire}
use Rattle.bit_arith.specs.declared.operand.Operand.{Operand}
use Rattle.bit_arith.specs.declared.operand.Operand.TheVariants.{Const, Literal}
use Rattle.bit_arith.specs.Built.{Built, Setting, Given}
use Rattle.bit_arith.specs.Calls.{Targets, among}
use Rattle.flat_form.specs.declared.known.TypedBits.{TypedBits}
use Rattle.flat_form.specs.declared.known.Known.{Known}
use Rattle.flat_form.specs.declared.known.Known.TheVariants.{Static, Shown}
use Rattle.flat_form.specs.State.{Flattening, build, first, last, drop_last, wires_so_far, wires_in, are_wires, taken, only_wire}
use Rattle.flat_form.specs.Flat.{flat, on_wire, on_last_wire}
use Rattle.flat_form.specs.Fine.{Fine, MayTurn, MayTake, IsOf}
use Rattle.flat_form.specs.Good.{Good, IsShown, IsKnown}
use Rattle.flat_form.specs.Names.{AllOf}
use Rattle.flat_form.specs.Shows.{ListBoth}
use Rattle.flat_form.proofs.Giving.{GivesWires, wires_taken}
use Rattle.flat_typed.specs.Places.{Places, times_in, owners_of}
use Rattle.flat_typed.specs.Footprint.{used_wires, consumed_wires, NoneNames}
use Rattle.flat_typed.specs.Relation.{Outside, Stands, IsAnswer, AllNew}
use Rattle.flat_typed.specs.Done.{Agree, Begins, ExprDone, ExprTells, IsSharing, carrying}
use Rattle.flat_typed.proofs.Ordered.{clash, or_left}
use Rattle.flat_typed.proofs.Owning.{same_refl, among_times}
use Rattle.flat_typed.proofs.Keeping.{KnowsBefore}
use Rattle.flat_typed.proofs.Growing.{touches_then, stands_grown}
use Rattle.flat_typed.proofs.Mixing.{stands_mixed}
use Rattle.flat_typed.proofs.Touching.{flips_touch, flips_stay_plain, flips_unmade, flips_taken, unmixed}
use Rattle.flat_typed.proofs.Flipping.{Flips}
use Rattle.flat_typed.proofs.Placing.{stands_pushed, stands_less}
use Rattle.flat_typed.proofs.Taking.{Offer, Around, Carried, carried_taken}
use Rattle.flat_typed.proofs.Giving.{Beyond, is_beyond}
use Rattle.flat_typed.proofs.Measured.{may_take}
use Rattle.flat_typed.proofs.Tame.{AllLeft}
use Rattle.flat_typed.proofs.Surrounding.{good_behind, knows_before, below_spared, surrounded}
use Rattle.flat_typed.proofs.Given.{GivesTold, then_tells, OneShown, one_shown}
use Rattle.flat_typed.proofs.GateRows.{stands_as, NoneMixed, IsGate, IsPlainGate}

-- a bit has one wire
one_wire : (ps : List Operand) → are_wires ps ≡ true → length ps ≡ 1 → 1 ≤ times_in (only_wire ps) ps
one_wire [] e l = absurd (omega (arith, l))
one_wire (Const b ∷ ps) e l = clash (sym e)
one_wire (Literal x ∷ ps) e l = let a : times_in x.wire (Literal x ∷ ps) ≡ times_in x.wire ps + 1 = ap (λ t. cond t (ℕ.suc (times_in x.wire ps)) (times_in x.wire ps)) (same_refl x.wire) ∙ omega arith in omega (arith, a)

pub bit_shape : (s : Shape) → is_bit s ≡ true → s ≡ Bit
bit_shape Bit e = refl
bit_shape (UInt n) e = clash (sym e)
bit_shape (Int n) e = clash (sym e)
bit_shape (Array k n) e = clash (sym e)

-- what a gate makes of the value x: a value of its type, with its place, that is Linear where x is
pub record IsTurned (x z : Value) : Type 0 where
  pub ty : z.ty ≡ quantum x.ty.shape
  pub place : z.place ≡ x.place
  pub unheld : is_held z.origin ≡ false
  pub linear : is_linear x.origin ≡ true → is_linear z.origin ≡ true

module _ (out : Outside) (sc : Scope) (low : ℕ) (others : ℕ → ℕ) (W : Places) (under : List Value) (us : List Use) (c : Context) (s : Flattening) (b : Begins out sc low others W under us c s) (need : Need) (wants : List Ty) (e : Effect) (x z : Value) (d : Context)
    (t : ExprTells out sc needs.Consumed [] e W under us c s (x ∷ []) d) (left : AllLeft c.vars d.vars) (alone : owners x.place d.vars ≡ 0) (apart : owned x.place under ≡ 0) where
  abbrev o : ExprDone out sc needs.Consumed e W under us c s (x ∷ []) d
  o = t.done

  abbrev s1 : Flattening
  s1 = flat e s

  abbrev n : ℕ
  n = wires_so_far s

  abbrev used : Targets
  used = used_wires W c.vars us

  abbrev consumed : Targets
  consumed = consumed_wires W c.vars us

  pub its_bits : OneShown (IsAnswer o.after needs.Consumed used consumed n c.next) x o.answers
  its_bits = one_shown (IsAnswer o.after needs.Consumed used consumed n c.next) x o.answers (λ k h. h.typed) (t.typed refl) o.each

  abbrev u : TypedBits
  u = its_bits.bits

  pub its_values : s1.values ≡ Shown u ∷ s.values
  its_values = o.values ∙ ap (λ ks. reverse ks ++ s.values) its_bits.all

  its_good : Good s1
  its_good = good_behind out sc low others W under us c s b needs.Consumed e (x ∷ []) d o left

  its_known : IsShown (wires_so_far s1) u
  its_known = (subst (AllOf (IsKnown (wires_so_far s1))) its_values its_good.known.values).0

  pub its_stands : Stands out sc.held o.after (carrying needs.Consumed (x ∷ []) (Shown u ∷ []) ++ under) d s1
  its_stands = subst (λ ks. Stands out sc.held o.after (carrying needs.Consumed (x ∷ []) ks ++ under) d s1) its_bits.all o.stands

  pub its_around : Around out o.after n c.next under d s1 x (Shown u)
  its_around = surrounded out sc low others W under us c s b needs.Consumed e (x ∷ []) d o left x (Shown u) its_values alone apart (subst (AllOf _) its_bits.all t.untold).0

  pub its_offer : Offer o.after needs.Consumed used consumed n c.next x u
  its_offer = let h = its_bits.is in record { shape = h.typed.0; own = h.own; borrowed = h.borrowed; moved = h.moved; within = h.within; began = h.began; differ = h.differ }

  pub its_spared : u.own ≡ true → NoneNames (among (wires_in (o.after x.place))) s.values
  its_spared q =
      below_spared out sc low others W under us c s b needs.Consumed e (x ∷ []) d o left (among (wires_in (o.after x.place)))
      (λ w a. its_offer.moved q w (subst (λ ps. 1 ≤ times_in w ps) (sym (its_offer.own refl q).0) (among_times w (o.after x.place) a)))

  pub its_before : KnowsBefore n s1
  its_before = knows_before out sc low others W under us c s b needs.Consumed e (x ∷ []) d o left (Shown u) its_values

  abbrev given : Given (List Operand)
  given = taken s1.setting u s1.built

  pub its_carried : Carried out sc.held o.after used consumed n c.next under d s1 x given
  its_carried = carried_taken out sc.held o.after used consumed n c.next under d s1 x u needs.Consumed its_offer its_around refl its_stands

  pub its_may_take : MayTake u s1
  its_may_take =
      may_take out sc.held o.after used consumed n c.next under d s1 x u its_good its_before
      (λ q. subst (λ l. NoneNames (among (wires_in (o.after x.place))) l) (sym (ap (λ l. drop 1 l) its_values)) (its_spared q))
      its_offer its_around its_stands

  module _ (G : Setting → WireId → Built → Built) (g : IsGate G) (st : Effect) (acts : flat st s1 ≡ on_last_wire G s1) (fine : MayTurn s1 → Fine st s1) (bit : is_bit x.ty.shape ≡ true) (turned : IsTurned x z) (how : (is_linear z.origin ≡ true) ⊎ IsPlainGate G)
      (named : is_consumed need ≡ false → is_linear z.origin ≡ false) (pure : is_qfree sc.this.mark ≡ true → IsPlainGate G) where
    abbrev k : Carried out sc.held o.after used consumed n c.next under d s1 x given
    k = its_carried

    abbrev U : Places
    U = k.after

    its_shape : u.shape ≡ Bit
    its_shape = its_offer.shape ∙ bit_shape x.ty.shape bit

    wires : GivesWires s1.built.draft (length u.operands) given
    wires = wires_taken s1.setting u s1.built its_good.fresh its_good.condition its_known

    abbrev w0 : WireId
    w0 = only_wire given.answer

    w0_there : 1 ≤ times_in w0 given.answer
    w0_there = one_wire given.answer wires.wires (wires.gives.size ∙ (its_known.size ∙ ap shape_bits its_shape))

    abbrev final : Built
    final = G s1.setting w0 given.built

    abbrev answer : Known
    answer = Shown (record { classical = false; shape = u.shape; operands = given.answer; own = true; began = u.began })

    abbrev behind : Flattening
    behind = record s1 { built = final; values = answer ∷ drop 1 s1.values }

    flips : (T : Targets) (m : ℕ) → m ≤ wires_so_far s1 → Flips T m s1.built given.built
    flips T m le = flips_taken T m s1.setting u s1.built le

    none_mixed : NoneMixed given.built
    none_mixed w le = (flips (λ w. false) 0 (omega arith)).mixed w ∙ unmixed s1.built.draft.steps w (its_good.fresh w (let f = (flips (λ w. false) 0 (omega arith)).few in omega (arith, f, le)))

    beyond : (w : WireId) → 1 ≤ times_in w given.answer → Beyond consumed n w ≡ true
    beyond w le = go (Beyond consumed n w) refl
      where
        go : (y : Bool) → Beyond consumed n w ≡ y → y ≡ true
        go true q = refl
        go false q = pick (k.moved w le)
          where
            pick : (consumed w ≡ true) ⊎ (n ≤ w.number) → false ≡ true
            pick (inl m) = clash (sym m ∙ or_left (consumed w) (nat_le n w.number) q)
            pick (inr l) = absurd (is_beyond n w.number (consumed w) q l)

    -- the relation stands with the value that the gate makes
    turned_stands : Stands out sc.held U (z ∷ under) d (build final s1)
    turned_stands = go how
      where
        before : Stands out sc.held U (z ∷ under) d (build given.built s1)
        before = stands_as out sc.held U under d (build given.built s1) x z turned.place turned.linear k.stands

        go : (is_linear z.origin ≡ true) ⊎ IsPlainGate G → Stands out sc.held U (z ∷ under) d (build final s1)
        go (inl l) = stands_mixed out sc.held U under d (build given.built s1) final z z refl l (g.mixes s1.setting w0 given.built (U z.place) (subst (λ ps. 1 ≤ times_in w0 ps) (k.own.0 ∙ ap U (sym turned.place)) w0_there) none_mixed) before
        go (inr p) = stands_grown out sc.held U (z ∷ under) d (build given.built s1) final (p.plain s1.setting w0 given.built none_mixed) before

    carried_on : (y : Bool) → is_consumed need ≡ y → Stands out sc.held U (cond (y && true) (z ∷ []) [] ++ under) d (build final s1)
    carried_on true q = turned_stands
    carried_on false q = stands_less out sc.held U under d (build final s1) z (named q) turned_stands

    gives : GivesTold out sc.held U need used consumed n c.next (is_qfree sc.this.mark) under d s1 (drop 1 s1.values) z behind
    gives = record {
      answer = answer;
      values = refl;
      given = record {
        typed = (its_offer.shape ∙ ap (λ (y : Ty). y.shape) (sym turned.ty), ap (λ (y : Ty). y.classical) (sym turned.ty));
        handed = λ q. turned.unheld;
        own = λ q i. (k.own.0 ∙ ap U (sym turned.place), subst (λ p. (p < c.next) ⊎ AllNew n given.answer) (sym turned.place) k.own.1);
        borrowed = λ q i. clash i;
        moved = λ i. k.moved;
        within = k.within;
        began = its_offer.began;
        differ = λ w le. subst (λ ps. times_in w ps ≤ 1) (sym k.own.0) (let a = k.stands.one w in omega (arith, a));
      };
      stands = stands_pushed out sc.held U (cond (is_consumed need && true) (z ∷ []) [] ++ under) d s1 final (answer ∷ drop 1 s1.values) (carried_on (is_consumed need) refl);
      leaves = record { setting = refl; callers = refl; blocks = refl; names = refl };
      touches =
          touches_then (Beyond consumed n) (Beyond consumed n) s1.built.draft given.built.draft final.draft
          (flips_touch (Beyond consumed n) s1.built given.built (flips (Beyond consumed n) (wires_so_far s1) (omega arith)))
          (g.touches s1.setting w0 given.built (Beyond consumed n) (beyond w0 w0_there)) (λ w l f. f);
      plain = λ q w m. flips_stay_plain (λ w. false) 0 s1.built given.built (flips (λ w. false) 0 (omega arith)) w ((pure q).stays s1.setting w0 given.built w m);
      unmade = λ h. g.unmade s1.setting w0 given.built (flips_unmade (λ w. false) 0 s1.built given.built (flips (λ w. false) 0 (omega arith)) h);
      sharing = record {
        shares = λ i. clash (sym i ∙ ap (λ (y : Ty). y.classical) turned.ty);
        new = λ q i. clash (sym i ∙ ap (λ (y : Ty). y.classical) turned.ty);
        lifted = λ q i. clash (sym i ∙ ap (λ (y : Ty). y.classical) turned.ty);
      };
      typed = tt;
      untold = λ w le l m. let a = subst (λ ps. 1 ≤ times_in w ps) (k.own.0 ∙ ap U (sym turned.place)) le in turned_stands.untold w (omega (arith, a));
    }

    may : MayTurn s1
    may = subst (IsOf (λ v. (v.shape ≡ Bit) × MayTake v s1)) (sym (ap first its_values)) (its_shape, its_may_take)

    becomes : flat st s1 ≡ behind
    becomes = acts ∙ ap (λ y. on_wire G y (drop_last s1)) (ap first its_values)

    pub gate_tells : ExprTells out sc need wants (e >> st) W under us c s (z ∷ []) d
    gate_tells =
        then_tells out sc need needs.Consumed wants e W under us c s (x ∷ []) d o st U z d k.agree (fine may) refl
        (subst (λ f. GivesTold out sc.held U need used consumed n c.next (is_qfree sc.this.mark) under d s1 s.values z f) (sym becomes)
        (subst (λ l. GivesTold out sc.held U need used consumed n c.next (is_qfree sc.this.mark) under d s1 l z behind) (ap (λ l. drop 1 l) its_values) gives))
