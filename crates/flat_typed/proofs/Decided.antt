-- A choice at run time, as a whole effect.
use Rattle.std.proofs.Common.{◌≡◌, ◌⊎◌, inl, inr, ℕ, ◌+◌, ◌≤◌, ◌<◌, Bool, true, false, cond, not, ◌&&◌, ◌||◌, List, [], ◌∷◌, ◌++◌, length, refl, sym, ap, ap₂, ◌∙◌, subst, arith, nat_lt}
use Rattle.std.specs.Prelude.{Option, Some, None}
use Rattle.silq_tree.specs.declared.node.NameId.{NameId}
use Rattle.silq_tree.specs.Syntax.{Expression}
use Rattle.silq_types.specs.declared.types.Ty.{Ty}
use Rattle.silq_types.specs.declared.values.Part.{Part}
use Rattle.silq_types.specs.declared.values.Var.{Var}
use Rattle.check_scope.specs.Context.{Scope, Context}
use Rattle.check_scope.specs.Uses.{uses}
use Rattle.silq_types.specs.declared.need.Need.TheVariants as needs
use Rattle.check_fun.specs.Statement.{under, joined}
use Rattle.silq_mean.specs.declared.receiver.Receiver.{Receiver}
use Rattle.silq_mean.specs.Effect.{Effect, ◌>>◌, choice}
use Rattle.silq_mean.specs.Meaning.{in_block}
use Rattle.flat_core.specs.declared.step.WireId.{WireId}
use Rattle.bit_arith.specs.declared.operand.Operand.{Operand}
use Rattle.bit_arith.specs.Built.{Setting, negated}
use Rattle.bit_arith.specs.Calls.{Targets, no_target}
use Rattle.flat_form.specs.State.{Flattening, wires_so_far}
use Rattle.flat_form.specs.Flat.{flat, under as under_condition}
use Rattle.flat_form.specs.Fine.{Fine, FineEnds}
use Rattle.flat_form.specs.Names.{AllOf, named_by}
use Rattle.flat_typed.specs.Places.{Places, is_part, part_out, owners_of}
use Rattle.flat_typed.specs.Footprint.{Touches}
use Rattle.flat_typed.specs.Relation.{Outside}
use Rattle.flat_typed.specs.Done.{StmtBegins, StmtDone, ExprDone, changeable}
use Rattle.flat_typed.specs.Settled.{Settled}
use Rattle.flat_typed.proofs.Binding.{none_out}
use Rattle.flat_typed.proofs.Growing.{touches_then}
use Rattle.flat_typed.proofs.Touching.{flips_touch, flips_stay_plain}
use Rattle.flat_typed.proofs.Reached.{made_left, consumed_touches}
use Rattle.flat_typed.proofs.Unchanged.{BranchLeft}
use Rattle.flat_typed.proofs.Outer.{AllSame, LiveAgree, same_back, same_then, same_whole}
use Rattle.flat_typed.proofs.SameEnds.{InBranch, live_agree, branch_done, outer_same, same_end, zeroes_new, keeps, keeps_all}
use Rattle.flat_typed.proofs.Entering.{guards_wire, guarded_before, guarded_operand, condition_below}
use Rattle.flat_typed.proofs.Joining.{joined_same, stands_joined}
use Rattle.flat_typed.proofs.Choosing as c1
use Rattle.flat_typed.proofs.Choosing.{Conditioned}
use Rattle.flat_typed.proofs.Deciding as c2
use Rattle.flat_typed.proofs.Deciding.{left_holders, made_same, guards_is, fewer_change}

module _ (sc : Scope) (taker : Ty → Receiver) (e : Expression) (c : Context) (ps : List Part) (m : Context) (k : Conditioned sc taker e c ps m) (out : Outside) (low : ℕ) (W : Places) (st : Flattening) (b : StmtBegins out sc low (λ p. 0) W c st) (ea : Effect) (d1 : Context) (l1 : BranchLeft (InBranch (under sc ps) ea m) m d1) (eb : Effect) (d2 : Context) (l2 : BranchLeft (InBranch (under sc ps) eb (record d1 { vars = m.vars })) (record d1 { vars = m.vars }) d2) where
  abbrev start : Context
  start = record d1 { vars = m.vars }

  abbrev state : Flattening
  state = c1.s1 sc taker e c ps m k out low W st b

  abbrev first : Flattening
  first = c1.f1 sc taker e c ps m k out low W st b

  abbrev p : Operand
  p = c1.p1 sc taker e c ps m k out low W st b

  abbrev first_places : Places
  first_places = c1.U sc taker e c ps m k out low W st b

  abbrev outer1 : Outside
  outer1 = c1.out1 sc taker e c ps m k out low W st b

  abbrev ends1 : StmtDone outer1 (under sc ps) (in_block ea) first_places m first d1
  ends1 = c2.ends1 sc taker e c ps m k out low W st b ea d1 l1

  abbrev second_places : Places
  second_places = ends1.after

  abbrev one : Flattening
  one = flat (in_block ea) first

  abbrev second : Flattening
  second = c2.second sc taker e c ps m k out low W st b ea d1 l1

  abbrev outer2 : Outside
  outer2 = c2.outer2 sc taker e c ps m k out low W st b ea d1 l1

  abbrev done : ExprDone out sc needs.Held (c1.E0 sc taker e c ps m k out low W st b) W [] (uses e sc c.vars needs.Held) c st (k.value ∷ []) m
  done = c1.done sc taker e c ps m k out low W st b

  starts2 : StmtBegins outer2 (under sc ps) d1.next (λ p. 0) second_places start second
  starts2 = c2.starts2 sc taker e c ps m k out low W st b ea d1 l1

  abbrev ends2 : StmtDone outer2 (under sc ps) (in_block eb) second_places start second d2
  ends2 = branch_done outer2 (under sc ps) d1.next second_places start second eb d2 (c2.starts2 sc taker e c ps m k out low W st b ea d1 l1) (c2.inner2 sc taker e c ps m k out low W st b ea d1 l1) l2

  abbrev third_places : Places
  third_places = ends2.after

  abbrev two : Flattening
  two = flat (in_block eb) second

  same1 : AllSame m.vars d1.vars
  same1 = c2.same1 sc taker e c ps m k out low W st b ea d1 l1

  same2 : AllSame m.vars d2.vars
  same2 = outer_same outer2 (under sc ps) d1.next second_places start second eb d2 (c2.starts2 sc taker e c ps m k out low W st b ea d1 l1) (c2.inner2 sc taker e c ps m k out low W st b ea d1 l1) l2

  crossed : AllSame d1.vars d2.vars
  crossed = same_then d1.vars m.vars d2.vars (same_back m.vars d1.vars same1) same2

  same3 : AllSame m.vars (joined d1.vars d2.vars)
  same3 = same_then m.vars d2.vars (joined d1.vars d2.vars) same2 (joined_same d1.vars d2.vars crossed)

  next1 : m.next ≤ d1.next
  next1 = c2.next1 sc taker e c ps m k out low W st b ea d1 l1

  -- ---- what each place shows

  from_first : (q : ℕ) → q < m.next → third_places q ≡ second_places q
  from_first q l = ends2.agree q (let n = next1 in omega (arith, l, n))

  from_middle : (q : ℕ) → q < m.next → third_places q ≡ first_places q
  from_middle q l = from_first q l ∙ ends1.agree q l

  from_start : (q : ℕ) → q < c.next → third_places q ≡ W q
  from_start q l = from_middle q (let n = k.grown in omega (arith, l, n)) ∙ (c1.done sc taker e c ps m k out low W st b).agree q l

  agree2 : (q : ℕ) → q < c.next → second_places q ≡ W q
  agree2 q l = ends1.agree q (let n = k.grown in omega (arith, l, n)) ∙ (c1.done sc taker e c ps m k out low W st b).agree q l

  -- ---- the wires of the conditions

  grown1 : wires_so_far state ≤ wires_so_far first
  grown1 = c2.grown1 sc taker e c ps m k out low W st b ea d1 l1

  grown2 : wires_so_far state ≤ wires_so_far one
  grown2 = c2.grown2 sc taker e c ps m k out low W st b ea d1 l1

  grown3 : wires_so_far one ≤ wires_so_far second
  grown3 = (c2.enters2 sc taker e c ps m k out low W st b ea d1 l1).flips.few

  outside : (w : WireId) → guards_wire state.setting.condition w ≡ true → out.guarded w ≡ true
  outside = guards_is out.guarded state.setting.condition (c1.stands1 sc taker e c ps m k out low W st b).guards

  outside_there : (w : WireId) → guards_wire state.setting.condition w ≡ true → w.number < wires_so_far state
  outside_there w g = condition_below (wires_so_far state) state.setting.condition w (c1.good1 sc taker e c ps m k out low W st b).condition g

  ends : FineEnds state first one second two
  ends = record {
    kept = keeps outer1 (under sc ps) m.next first_places m first ea d1 begins inner l1 p (λ w n. guarded_operand out.guarded p first.setting.condition w n) (λ w n. let a = c1.there1 sc taker e c ps m k out low W st b w n in let g = grown1 in omega (arith, a, g));
    outer_first = keeps_all outer1 (under sc ps) m.next first_places m first ea d1 begins inner l1 state.setting.condition (λ w g. guarded_before out.guarded p first.setting.condition w (outside w g)) (λ w g. let a = outside_there w g in let q = grown1 in omega (arith, a, q));
    outer_second = keeps_all outer2 (under sc ps) d1.next second_places start second eb d2 starts2 inner2 l2 state.setting.condition (λ w g. guarded_before out.guarded (negated p) second.setting.condition w (outside w g)) (λ w g. let a = outside_there w g in let q = grown2 in let r = grown3 in omega (arith, a, q, r));
    zeroed_first = zeroes_new outer1 (under sc ps) m.next first_places m first ea d1 begins inner l1;
    zeroed_second = zeroes_new outer2 (under sc ps) d1.next second_places start second eb d2 starts2 inner2 l2;
    stays_first = same_end outer1 (under sc ps) m.next first_places m first ea d1 begins inner l1;
    stays_second = same_end outer2 (under sc ps) d1.next second_places start second eb d2 starts2 inner2 l2;
  }
    where
      begins : StmtBegins outer1 (under sc ps) m.next (λ p. 0) first_places m first
      begins = c1.begins1 sc taker e c ps m k out low W st b

      inner : Settled (under sc ps) m
      inner = c1.settled1 sc taker e c ps m k out low W st b

      inner2 : Settled (under sc ps) start
      inner2 = c2.inner2 sc taker e c ps m k out low W st b ea d1 l1

  -- ---- what it touches

  whole1 : AllOf (λ v. is_part v ≡ false) m.vars
  whole1 = c1.whole1 sc taker e c ps m k out low W st b

  -- the variables behind the condition own no more
  fewer : (V : Places) → AllOf (LiveAgree V W) c.vars → (w : WireId) → owners_of V m.vars [] w ≤ owners_of W c.vars [] w
  fewer V a w =
      let x = left_holders V W c.vars m.vars (λ y. none_out c.vars y b.whole) (λ y. none_out m.vars y whole1) w c.vars m.vars (c1.told sc taker e c ps m k out low W st b).1.0 a in
      omega (arith, x)

  touches : Touches (changeable out W c.vars []) st.built.draft two.built.draft
  touches =
      touches_then (changeable out W c.vars []) (changeable outer2 second_places m.vars []) st.built.draft second.built.draft two.built.draft
      (touches_then (changeable out W c.vars []) no_target st.built.draft one.built.draft second.built.draft
      (touches_then (changeable out W c.vars []) (changeable outer1 first_places m.vars []) st.built.draft first.built.draft one.built.draft
      (touches_then (changeable out W c.vars []) no_target st.built.draft state.built.draft first.built.draft
      (consumed_touches out sc low W c st (uses e sc c.vars needs.Held) state b (c1.told sc taker e c ps m k out low W st b).0 (c1.done sc taker e c ps m k out low W st b).touches)
      (flips_touch no_target state.built first.built (c1.enters1 sc taker e c ps m k out low W st b).flips) (λ w l f. refl))
      ends1.touches
      (λ w l f. fewer_change out.guarded outer1.guarded (owners_of W c.vars [] w) (owners_of first_places m.vars [] w) w (guarded_before out.guarded p first.setting.condition w) (fewer first_places (c1.agree1 sc taker e c ps m k out low W st b) w) f))
      (flips_touch no_target one.built second.built (c2.enters2 sc taker e c ps m k out low W st b ea d1 l1).flips) (λ w l f. refl))
      ends2.touches
      (λ w l f. fewer_change out.guarded outer2.guarded (owners_of W c.vars [] w) (owners_of second_places m.vars [] w) w (guarded_before out.guarded (negated p) second.setting.condition w) (fewer second_places (live_agree c low second_places W b.sole agree2) w) f)

  -- ---- the whole

  pub choice_done : StmtDone out sc (c1.E0 sc taker e c ps m k out low W st b >> choice (in_block ea) (in_block eb)) W c st (record d2 { vars = joined d1.vars d2.vars })
  choice_done = record {
    fine = (done.fine, (c1.is_one_bit sc taker e c ps m k out low W st b, ends1.fine, ends2.fine, ends));
    after = third_places;
    agree = from_start;
    stands = stands_joined out sc.held first_places m state second_places d1 third_places d2 two outer2 (under sc ps).held (λ w a. a) (c1.stands1 sc taker e c ps m k out low W st b) whole1
        (live_agree m m.next third_places first_places k.settled.sole from_middle) (live_agree m m.next third_places second_places k.settled.sole from_first) same1 same2 ends2.stands (let q = grown2 in let r = grown3 in let t = ends2.touches.grown in omega (arith, q, r, t));
    whole = same_whole m.vars (joined d1.vars d2.vars) same3 whole1;
    made = made_same (wires_so_far st) c.next third_places m.vars (joined d1.vars d2.vars) same3 (made_left (wires_so_far st) c.next third_places c.vars m.vars (c1.told sc taker e c ps m k out low W st b).1.0 (λ q le. let a = b.sole.ahead q le in omega (arith, a)));
    none = ends2.none;
    leaves = record {
      setting = ap (λ (t : Setting). record t { condition = state.setting.condition }) ends2.leaves.setting ∙ done.leaves.setting;
      callers = ends2.leaves.callers ∙ done.leaves.callers;
      blocks = ends2.leaves.blocks ∙ done.leaves.blocks;
      names = ends2.leaves.names ∙ done.leaves.names;
    };
    touches = touches;
    plain = λ q w x. done.plain q w (flips_stay_plain no_target (wires_so_far state) state.built first.built (c1.enters1 sc taker e c ps m k out low W st b).flips w
        (ends1.plain q w (flips_stay_plain no_target (wires_so_far one) one.built second.built (c2.enters2 sc taker e c ps m k out low W st b ea d1 l1).flips w (ends2.plain q w x))));
    unmade = ends2.unmade;
  }
