-- Values that are taken for a change of their wires.
use Rattle.std.proofs.Common.{◌≡◌, ℕ, Bool, true, false, cond, ◌||◌, List, [], ◌∷◌, length, Result, Ok, Err, IfOk, refl, sym, ap, ap₂, ◌∙◌, subst, arith}
use Rattle.silq_io.specs.declared.limit.LimitFault.{LimitFault}
use Rattle.silq_types.specs.declared.types.Shape.{Shape}
use Rattle.silq_types.specs.declared.types.Shape.TheVariants.{Bit}
use Rattle.silq_types.specs.Types.{shape_bits}
use Rattle.flat_core.specs.declared.step.WireId.{WireId}
use Rattle.flat_core.specs.Form.{DraftForm}
use Rattle.bit_arith.specs.declared.operand.Operand.{Operand}
use Rattle.bit_arith.specs.declared.operand.Operand.TheVariants.{Const, Literal}
use Rattle.bit_arith.specs.Built.{Built, Setting, Given, begun, under}
use Rattle.bit_arith.specs.Calls.{Building, no_target, AllSafe, AreTargets, IsTarget, Went, Refused}
use Rattle.bit_arith.specs.Rows.{copy}
use Rattle.bit_arith.specs.Does.{Fresh, Different}
use Rattle.bit_arith.proofs.Making.{copy_does}
use Rattle.bit_arith.proofs.Grows.{Grows}
use Rattle.bit_arith.proofs.Going.{refused_on}
use Rattle.bit_arith.proofs.Listed.{safe_more}
use Rattle.bit_arith.proofs.Safe.{under_safe}
use Rattle.flat_form.specs.declared.known.TypedBits.{TypedBits}
use Rattle.flat_form.specs.declared.known.Known.{Known}
use Rattle.flat_form.specs.declared.known.Known.TheVariants.{Static, Shown, Lent, Absent}
use Rattle.flat_form.specs.State.{Flattening, first, last, push, build, are_new, are_wires, wires_in, only_wire, as_they_are, copied, taken}
use Rattle.flat_form.specs.Flat.{on_wire, repeated}
use Rattle.flat_form.specs.Good.{Good, IsShown, IsKnown}
use Rattle.flat_form.specs.Fine.{IsOf, MayTake, Distinct}
use Rattle.flat_form.proofs.Goods.{last_known}
use Rattle.flat_form.proofs.Later.{later_read}
use Rattle.flat_form.proofs.Giving.{Takes, takes_taken, in_made, safe_repeated}
use Rattle.flat_steps.specs.Held.{Held, taking, now_taken}

distinct_different : (ws : List WireId) → Different ws → Distinct ws
distinct_different [] h = tt
distinct_different (w ∷ ws) h = (h.0, distinct_different ws h.1)

-- the wires that are taken differ: those of copies are new
taken_distinct : (at : Setting) (v : TypedBits) (b : Built) → Fresh b.draft → AllSafe (length b.draft.wires) no_target (under at []) → AllSafe (length b.draft.wires) no_target v.operands → (v.own || are_new b.draft v.began v.operands ≡ true → Distinct (wires_in v.operands)) → Distinct (wires_in (taken at v b).answer)
taken_distinct at v b f g s may = pick (v.own || are_new b.draft v.began v.operands) refl
  where
    pick : (x : Bool) → (v.own || are_new b.draft v.began v.operands) ≡ x → Distinct (wires_in (cond x (as_they_are v.operands b) (copied at v.operands b)).answer)
    pick true e = may e
    pick false e = subst Distinct (sym (in_made (copy at v.operands b).answer)) (distinct_different (copy at v.operands b).answer (copy_does at v.operands b f g s).different)

-- a value that may be taken is held then
held_here : (s : Flattening) (v : TypedBits) → Good s → IsShown (length s.built.draft.wires) v → MayTake v s → let row : Given (List Operand) = taken s.setting v (begun s.built.draft) in AreTargets row.built.draft (wires_in row.answer) → Held (record v { operands = row.answer }) row.built.draft s.setting
held_here s v g h m t =
    let b : Built = begun s.built.draft in
    let row : Given (List Operand) = taken s.setting v b in
    let r : Takes s.setting s.built.draft (length v.operands) row = takes_taken s.setting v b g.fresh g.condition h (λ k. (m k).condition) in
    record {
      size = r.gives.size ∙ h.size;
      wires = r.wires;
      there = r.gives.there;
      targets = t;
      distinct = taken_distinct s.setting v b g.fresh g.condition h.there (λ k. (m k).distinct);
      guards = r.guards;
      condition = safe_more (length s.built.draft.wires) (length row.built.draft.wires) no_target no_target (under s.setting []) r.gives.later.longer (λ w lt e. e) g.condition;
      read = later_read s.built.draft row.built.draft r.gives.later g.fresh s.setting.condition g.read;
    }

pub held_last : (s : Flattening) (k : Known) (v : TypedBits) (rest : List Known) (new : Building) (result : Result TypedBits LimitFault)
    → s.values ≡ k ∷ rest → k ≡ Shown v → Good s → IsOf (λ v. MayTake v s) (last s)
    → IfOk result (λ w. w ≡ record v { operands = (taken s.setting v (begun s.built.draft)).answer })
    → IfOk result (λ _. Went (record { draft = s.built.draft; setting = s.setting }) new (taken s.setting v (begun s.built.draft)).built)
    → ((v.own || are_new s.built.draft v.began v.operands ≡ true → AreTargets s.built.draft (wires_in v.operands)) → IfOk result (λ w. AreTargets new.draft (wires_in w.operands)))
    → IfOk result (λ w. Held w new.draft new.setting)
held_last s k v rest new (Err e) values is g m answer ok targets = tt
held_last s k v rest new (Ok w) values is g m answer ok targets =
    let last_is : last s ≡ Shown v = ap first values ∙ is in
    let may : MayTake v s = subst (λ (l : Known). IsOf (λ u. MayTake u s) l) last_is m in
    let row : Given (List Operand) = taken s.setting v (begun s.built.draft) in
    let t : AreTargets row.built.draft (wires_in row.answer) = subst (λ (u : TypedBits). AreTargets row.built.draft (wires_in u.operands)) answer (subst (λ (d : DraftForm). AreTargets d (wires_in w.operands)) ok.built (targets (λ k. (may k).targets))) in
    let shown : IsShown (length s.built.draft.wires) v = subst (IsKnown (length s.built.draft.wires)) last_is (last_known s g) in
    subst (λ (u : TypedBits). Held u new.draft new.setting) (sym answer)
    (subst (λ (d : DraftForm). Held (record v { operands = row.answer }) d new.setting) (sym ok.built)
    (subst (λ (at : Setting). Held (record v { operands = row.answer }) row.built.draft at) (sym ok.kept) (held_here s v g shown may t)))

-- ---- gates

-- steps on a wire
abbrev pub Gate : Type 0
Gate = Setting → WireId → Built → Built

abbrev pub GateGrows : Gate → Type 0
GateGrows gate = (at : Setting) (w : WireId) (b : Built) → Grows b (gate at w b)

-- what refuses to take the value refuses the gate
pub wire_refused : (gate : Gate) → GateGrows gate → (k : Known) (s : Flattening) (fault : LimitFault) → Refused fault (taking s.setting k s.built).built → Refused fault (on_wire gate k s).built
wire_refused gate grows (Static z) s fault r = r
wire_refused gate grows (Lent start size v) s fault r = r
wire_refused gate grows Absent s fault r = r
wire_refused gate grows (Shown v) s fault r =
    let row : Given (List Operand) = taken s.setting v s.built in
    refused_on fault row.built (gate s.setting (only_wire row.answer) row.built) (grows s.setting (only_wire row.answer) row.built) r

bits_in : TypedBits → Known → TypedBits
bits_in other (Shown x) = x
bits_in other k = other

pub shown_is : (x y : TypedBits) → Shown x ≡ Shown y → x ≡ y
unfolding bits_in
shown_is x y h = ap (bits_in x) h

-- the gate on the wire that was taken
pub wire_given : (gate : Gate) (k : Known) (s : Flattening) (v : TypedBits) → Shown v ≡ now_taken s.setting k s.built → on_wire gate k s ≡ push (Shown (record v { classical = false; own = true })) (build (gate s.setting (only_wire v.operands) (taking s.setting k s.built).built) s)
wire_given gate (Static z) s v e = cc
wire_given gate (Lent start size u) s v e = cc
wire_given gate Absent s v e = cc
wire_given gate (Shown u) s v e =
    let row : Given (List Operand) = taken s.setting u s.built in
    ap (λ (x : TypedBits). push (Shown (record x { classical = false; own = true })) (build (gate s.setting (only_wire x.operands) row.built) s)) (sym (shown_is v (record u { operands = row.answer }) e))

-- ---- the wire of a bit

pub one_target : (d : DraftForm) (ps : List Operand) → are_wires ps ≡ true → length ps ≡ 1 → AreTargets d (wires_in ps) → IsTarget d (only_wire ps)
one_target d [] h e t = cc
one_target d (Const b ∷ ps) h e t = cc
one_target d (Literal l ∷ ps) h e t = t.0

-- the last value of which a gate takes the wire is a bit
pub bit_shape : (k : Known) (at : Setting) (b : Built) (v : TypedBits) (Q : TypedBits → Type 0) → Shown v ≡ now_taken at k b → IsOf (λ u. (u.shape ≡ Bit) × Q u) k → v.shape ≡ Bit
bit_shape (Static z) at b v Q e f = absurd f
bit_shape (Lent start size u) at b v Q e f = absurd f
bit_shape Absent at b v Q e f = absurd f
bit_shape (Shown u) at b v Q e f = ap shape_in e ∙ f.0
  where
    shape_in : Known → Shape
    shape_in (Shown x) = x.shape
    shape_in k = Bit

-- ---- values that are given

-- a value was given in the same setting
pub given_state : (b : Built) (k : Known) (s : Flattening) (at : Setting) (ks : List Known) → at ≡ s.setting → ks ≡ k ∷ s.values → record { built = b; setting = at; statements = s.statements; env = s.env; values = ks; callers = s.callers } ≡ push k (build b s)
given_state b k s at ks e f =
    ap₂ (λ (x : Setting) (ys : List Known). let r : Flattening = record { built = b; setting = x; statements = s.statements; env = s.env; values = ys; callers = s.callers } in r) e f

-- the last value is there
pub shown_last : (s : Flattening) (k : Known) (v : TypedBits) (rest : List Known) → s.values ≡ k ∷ rest → k ≡ Shown v → Good s → IsShown (length s.built.draft.wires) v
shown_last s k v rest values is g = subst (IsKnown (length s.built.draft.wires)) (ap first values ∙ is) (last_known s g)

-- and its operands again and again
pub repeated_there : (s : Flattening) (k : Known) (v : TypedBits) (rest : List Known) (times : ℕ) (ps : List Operand) → s.values ≡ k ∷ rest → k ≡ Shown v → Good s → ps ≡ repeated times v.operands → AllSafe (length s.built.draft.wires) no_target (under s.setting ps)
repeated_there s k v rest times ps values is g e =
    let n : ℕ = length s.built.draft.wires in
    subst (λ (qs : List Operand). AllSafe n no_target (under s.setting qs)) (sym e)
    (under_safe n no_target s.setting (repeated times v.operands) g.condition
    (safe_repeated n no_target times v.operands (shown_last s k v rest values is g).there))
