-- A choice at run time: both branches are fine, and the relation stands behind it.
use Rattle.std.proofs.Common.{◌≡◌, ◌⊎◌, inl, inr, ℕ, ◌+◌, ◌≤◌, ◌<◌, Bool, true, false, cond, not, ◌&&◌, ◌||◌, List, [], ◌∷◌, ◌++◌, length, take, refl, sym, ap, ap₂, ◌∙◌, subst, arith, nat_lt}
use Rattle.std.specs.Prelude.{Option, Some, None, drop}
use Rattle.std.proofs.lemmas.Bool.{cases_lt, lt-ltb}
use Rattle.silq_tree.specs.declared.node.NameId.{NameId}
use Rattle.silq_tree.specs.Syntax.{Expression}
use Rattle.silq_types.specs.declared.types.Ty.{Ty}
use Rattle.silq_types.specs.declared.values.Part.{Part}
use Rattle.silq_types.specs.declared.values.Var.{Var}
use Rattle.silq_types.specs.Types.{is_held}
use Rattle.silq_types.specs.declared.values.Origin.{Origin}
use Rattle.silq_mean.specs.Written.{is_empty}
use Rattle.check_scope.specs.Context.{Scope, Context, indices}
use Rattle.check_expr.specs.Owners.{Sole}
use Rattle.check_fun.specs.Statement.{under, joined}
use Rattle.silq_mean.specs.declared.receiver.Receiver.{Receiver}
use Rattle.silq_mean.specs.Effect.{Effect, ◌>>◌, choice}
use Rattle.silq_mean.specs.Meaning.{in_block}
use Rattle.flat_core.specs.declared.step.WireId.{WireId}
use Rattle.bit_arith.specs.declared.operand.Operand.{Operand}
use Rattle.bit_arith.specs.Built.{Setting, negated}
use Rattle.bit_arith.specs.Calls.{Targets, no_target}
use Rattle.flat_form.specs.State.{Flattening, wires_so_far, drop_last}
use Rattle.flat_form.specs.Flat.{flat, entered, second_branch, under as under_condition}
use Rattle.flat_form.specs.Fine.{Fine, FineEnds}
use Rattle.flat_form.specs.Good.{Good}
use Rattle.flat_form.specs.Names.{AllOf, named_by, operands_in}
use Rattle.flat_form.proofs.Later.{Later, later_then}
use Rattle.flat_form.proofs.Goods.{Branches, Goes, goes_flat, goes_second, at_second}
use Rattle.flat_typed.specs.Places.{Places, is_part, is_shared, has_wires, part_out, less_part, bits_for, shown, times_in, holds, holders, owners_of}
use Rattle.flat_typed.specs.Footprint.{Touches}
use Rattle.flat_typed.specs.Relation.{Outside, Guards, Stands, AllNew}
use Rattle.flat_typed.specs.Done.{StmtBegins, StmtDone, MadeSince, changeable}
use Rattle.flat_typed.specs.Settled.{Settled, Settles}
use Rattle.flat_typed.proofs.Ordered.{clash}
use Rattle.flat_typed.proofs.Binding.{none_out}
use Rattle.flat_typed.proofs.Growing.{touches_then}
use Rattle.flat_typed.proofs.Tame.{Left, AllLeft, left_same}
use Rattle.flat_typed.proofs.Touching.{flips_touch, flips_stay_plain, flips_unmade}
use Rattle.flat_typed.proofs.Turns.{wired_live}
use Rattle.flat_typed.proofs.Reached.{made_left, consumed_touches}
use Rattle.flat_typed.proofs.Unchanged.{BranchLeft}
use Rattle.flat_typed.proofs.Outer.{SameVar, AllSame, LiveAgree, same_holds, same_then, same_whole, same_wired}
use Rattle.flat_typed.proofs.SameEnds.{InBranch, live_agree, branch_done, outer_same, same_end, zeroes_new, keeps, keeps_all}
use Rattle.flat_typed.proofs.Entering.{EntersSo, branch_enters, guards_wire, guarded_before, guarded_operand, guarded_in, in_branch, ClearOf, condition_below, stands_entered}
use Rattle.flat_typed.proofs.Held.{clear_left, clear_negated, negated_named}
use Rattle.flat_typed.proofs.Joining.{behind_first, stands_second, joined_same, stands_joined}
use Rattle.flat_typed.proofs.Choosing.{Conditioned, E0, s1, done, U, told, good1, stands1, whole1, is_one_bit, p1, agree1, clear1, there1, f1, out1, enters1, branches1, settled1, begins1, not_bare}

-- the second branch begins with the variables of the first's beginning
pub settled_second : (sc : Scope) (m i : Context) → Settled sc m → Settled sc i → m.next ≤ i.next → Settled sc (record i { vars = m.vars })
settled_second sc m i a b le = record {
  free = a.free;
  whole = a.whole;
  placed = each m.vars a.placed;
  sole = record { grown = omega arith; one = a.sole.one; ahead = λ p l. a.sole.ahead p (omega (arith, l, le)) };
}
  where
    each : (vs : List Var) → AllOf (λ v. v.place < m.next) vs → AllOf (λ v. v.place < i.next) vs
    each [] h = tt
    each (v ∷ vs) h = (let l = h.0 in omega (arith, l, le), each vs h.1)

-- ---- variables that are left own no more

module _ (V W : Places) (all more : List Var) (none : (y : NameId) → part_out all y ≡ None) (gone : (y : NameId) → part_out more y ≡ None) (q : WireId) where
  left_holds : (v w : Var) → Left v w → LiveAgree V W v → holds V more q w ≤ holds W all q v
  left_holds v w l a = go (has_wires w) refl
    where
      go : (t : Bool) → has_wires w ≡ t → holds V more q w ≤ holds W all q v
      go false e = let z : holds V more q w ≡ 0 = ap (λ t. cond t (times_in q (operands_in (shown V more w))) 0) e in omega (arith, z)
      go true e =
          let same : SameVar v w = record { part = l.part; ty = l.ty; place = l.place; consumed = wired_live w e ∙ sym (l.live (wired_live w e)); held = ap is_held l.origin } in
          let z = same_holds V W all more none gone q v w same a in
          omega (arith, z)

  pub left_holders : (vs ws : List Var) → AllLeft vs ws → AllOf (LiveAgree V W) vs → holders V more q ws ≤ holders W all q vs
  left_holders [] [] h a = omega arith
  left_holders [] (w ∷ ws) h a = absurd h
  left_holders (v ∷ vs) [] h a = absurd h
  left_holders (v ∷ vs) (w ∷ ws) h a = let x = left_holds v w h.0 a.0 in let y = left_holders vs ws h.1 a.1 in omega (arith, x, y)

pub made_same : (n low : ℕ) (V : Places) (vs ws : List Var) → AllSame vs ws → AllOf (MadeSince n low V) vs → AllOf (MadeSince n low V) ws
made_same n low V [] [] h a = tt
made_same n low V [] (w ∷ ws) h a = absurd h
made_same n low V (v ∷ vs) [] h a = absurd h
made_same n low V (v ∷ vs) (w ∷ ws) h a = ((λ b. go (a.0 (sym (same_wired v w h.0) ∙ b))), made_same n low V vs ws h.1 a.1)
  where
    go : (v.place < low) ⊎ AllNew n (V v.place) → (w.place < low) ⊎ AllNew n (V w.place)
    go (inl lt) = inl (subst (λ p. p < low) (sym h.0.place) lt)
    go (inr new) = inr (subst (λ p. AllNew n (V p)) (sym h.0.place) new)

pub guards_is : (G : Targets) (o : Option Operand) → Guards G o → (w : WireId) → guards_wire o w ≡ true → G w ≡ true
guards_is G None g w e = clash (sym e)
guards_is G (Some p) g w e = g w e

-- what may be changed where more is guarded and less is owned
pub fewer_change : (G : Targets) (H : Targets) (n m : ℕ) (w : WireId) → (G w ≡ true → H w ≡ true) → m ≤ n → (not (G w) && nat_lt 0 n) ≡ false → (not (H w) && nat_lt 0 m) ≡ false
fewer_change G H n m w more le e = go (G w) refl (cases_lt 0 m) e
  where
    go : (t : Bool) → G w ≡ t → (0 < m) ⊎ (m ≤ 0) → (not t && nat_lt 0 n) ≡ false → (not (H w) && nat_lt 0 m) ≡ false
    go true g y z = ap (λ t. not t && nat_lt 0 m) (more g)
    go false g (inl lt) z = clash (sym (lt-ltb 0 n (omega (arith, lt, le))) ∙ z)
    go false g (inr none) z = ap (λ k. not (H w) && nat_lt 0 k) (let y : m ≡ 0 = omega (arith, none) in y) ∙ off (H w)
      where
        off : (a : Bool) → (not a && false) ≡ false
        off true = refl
        off false = refl

module _ (sc : Scope) (taker : Ty → Receiver) (e : Expression) (c : Context) (ps : List Part) (m : Context) (k : Conditioned sc taker e c ps m) (out : Outside) (low : ℕ) (W : Places) (st : Flattening) (b : StmtBegins out sc low (λ p. 0) W c st) (ea : Effect) (d1 : Context) (l1 : BranchLeft (InBranch (under sc ps) ea m) m d1) where
  abbrev pub state : Flattening
  state = s1 sc taker e c ps m k out low W st b

  abbrev pub first : Flattening
  first = f1 sc taker e c ps m k out low W st b

  abbrev pub p : Operand
  p = p1 sc taker e c ps m k out low W st b

  abbrev pub first_places : Places
  first_places = U sc taker e c ps m k out low W st b

  abbrev pub outer1 : Outside
  outer1 = out1 sc taker e c ps m k out low W st b

  pub starts1 : StmtBegins outer1 (under sc ps) m.next (λ p. 0) first_places m first
  starts1 = begins1 sc taker e c ps m k out low W st b

  pub inner : Settled (under sc ps) m
  inner = settled1 sc taker e c ps m k out low W st b

  abbrev pub ends1 : StmtDone outer1 (under sc ps) (in_block ea) first_places m first d1
  ends1 = branch_done outer1 (under sc ps) m.next first_places m first ea d1 starts1 inner l1

  abbrev pub second_places : Places
  second_places = ends1.after

  abbrev pub one : Flattening
  one = flat (in_block ea) first

  pub same1 : AllSame m.vars d1.vars
  same1 = outer_same outer1 (under sc ps) m.next first_places m first ea d1 starts1 inner l1

  pub next1 : m.next ≤ d1.next
  next1 = subst (λ (x : Context). m.next ≤ x.next) (sym l1.closed.left) l1.is.1.grown

  -- ---- the second branch

  abbrev pub c2 : Context
  c2 = record d1 { vars = m.vars }

  pub grown1 : wires_so_far state ≤ wires_so_far first
  grown1 = let f = (enters1 sc taker e c ps m k out low W st b).flips.few in f

  pub grown2 : wires_so_far state ≤ wires_so_far one
  grown2 = let f = grown1 in let g = ends1.touches.grown in omega (arith, f, g)

  pub goes1 : Goes first one
  goes1 = goes_flat (in_block ea) first starts1.good ends1.fine

  later1 : Later state.built.draft one.built.draft
  later1 = later_then state.built.draft first.built.draft one.built.draft (branches1 sc taker e c ps m k out low W st b).later goes1.later

  abbrev pub second : Flattening
  second = second_branch one state

  branches2 : Branches (at_second one state) second
  branches2 = goes_second state one (good1 sc taker e c ps m k out low W st b) later1

  abbrev pub middle : Outside
  middle = behind_first out sc.held first_places m state second_places d1 one

  pub agree21 : AllOf (LiveAgree second_places first_places) m.vars
  agree21 = live_agree m m.next second_places first_places k.settled.sole ends1.agree

  pub stands2 : Stands middle sc.held second_places [] c2 (at_second one state)
  stands2 =
      stands_second out sc.held first_places m state second_places d1 one outer1 (sc.held ++ ps ∷ []) (λ w a. a) (stands1 sc taker e c ps m k out low W st b) (whole1 sc taker e c ps m k out low W st b) agree21 same1 ends1.stands grown2

  abbrev pub outer2 : Outside
  outer2 = in_branch middle sc.held second_places c2 (at_second one state) (negated p) ps

  pub enters2 : EntersSo (negated p) one.built (entered state.setting (negated p) one.built)
  enters2 = branch_enters (negated p) (at_second one state)

  clear2 : AllOf (ClearOf sc.held (negated p) ps second_places) m.vars
  clear2 = clear_negated sc.held p ps second_places m.vars (clear_left sc.held p ps second_places first_places m.vars m.vars (left_same m.vars) (clear1 sc taker e c ps m k out low W st b) agree21)

  pub there2 : (w : WireId) → named_by w (negated p) ≡ true → w.number < wires_so_far one
  there2 w n = let a = there1 sc taker e c ps m k out low W st b w (sym (negated_named p w) ∙ n) in let g = grown2 in omega (arith, a, g)

  pub starts2 : StmtBegins outer2 (under sc ps) d1.next (λ p. 0) second_places c2 second
  starts2 = record {
    good = branches2.good;
    unmade = flips_unmade no_target (wires_so_far one) one.built second.built enters2.flips ends1.unmade;
    sole = record { grown = omega arith; one = k.settled.sole.one; ahead = λ p l. k.settled.sole.ahead p (let n = next1 in omega (arith, l, n)) };
    stands = stands_entered middle sc.held second_places c2 (at_second one state) (negated p) ps goes1.good.fresh branches2 there2 stands2 (whole1 sc taker e c ps m k out low W st b) clear2;
    whole = whole1 sc taker e c ps m k out low W st b;
    block = starts1.block;
    open_air = λ q r. clash (sym (not_bare sc.held ps) ∙ r);
    none = starts1.none;
  }

  pub inner2 : Settled (under sc ps) c2
  inner2 = subst (λ (x : Context). Settled (under sc ps) (record x { vars = m.vars })) (sym l1.closed.left) (settled_second (under sc ps) m l1.inner inner l1.is.1.settled l1.is.1.grown)
