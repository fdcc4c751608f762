-- A value that is taken over: its own wires, or copies.
use Rattle.std.proofs.Common.{◌≡◌, ℕ, ◌≤◌, ◌<◌, Bool, true, false, cond, not, ◌&&◌, ◌||◌, List, [], ◌∷◌, length, drop, refl, sym, ap, ap₂, ◌∙◌, subst, arith, inl, inr}
use Rattle.std.proofs.lemmas.Bool.{cases_lt}
use Rattle.std.specs.Prelude.{nat_le}
use Rattle.std.proofs.lemmas.List.{length-map}
use Rattle.flat_core.specs.Drafts.{is_measured}
use Rattle.silq_mean.specs.Value.{Value}
use Rattle.silq_mean.specs.Term.{Term, first as first_value, last as last_value, drop_last as but_last, on_last}
use Rattle.silq_mean.specs.Effect.{Outcome}
use Rattle.flat_core.specs.declared.step.WireId.{WireId}
use Rattle.flat_core.specs.Form.{DraftForm}
use Rattle.flat_core.specs.Label.{same_wire}
use Rattle.flat_mean.specs.Row.{Row}
use Rattle.flat_mean.specs.Terms.{Term as WireTerm}
use Rattle.bit_arith.specs.declared.operand.Operand.{Operand}
use Rattle.bit_arith.specs.declared.operand.Operand.TheVariants.{Const, Literal}
use Rattle.bit_arith.specs.Built.{Built, Setting, Given, made, all_made, under as under_all}
use Rattle.bit_arith.specs.Rows.{copy}
use Rattle.bit_arith.specs.Calls.{Targets, no_target, among, AllSafe}
use Rattle.bit_arith.specs.Values.{bits_at}
use Rattle.bit_arith.specs.Does.{Does, AllNew, Below}
use Rattle.bit_arith.proofs.Steps.{apart_above, clash}
use Rattle.bit_arith.proofs.Doing.{Guards, does_grown, does_none, does_weak}
use Rattle.bit_arith.proofs.Listed.{safe_more}
use Rattle.bit_arith.specs.Does.{Copies}
use Rattle.bit_arith.proofs.Making.{copy_does, bits_made, length-from}
use Rattle.flat_form.specs.declared.known.TypedBits.{TypedBits}
use Rattle.flat_form.specs.declared.known.Known.{Known}
use Rattle.flat_form.specs.declared.known.Known.TheVariants.{Static, Shown, Lent, Absent}
use Rattle.flat_form.specs.State.{Flattening, push, first, last, drop_last, build, are_wires, are_new, as_they_are, copied, taken, wires_in, only_wire}
use Rattle.flat_form.specs.Names.{AllKnown, Spares}
use Rattle.flat_form.specs.Good.{Good, IsShown, IsKnown}
use Rattle.flat_form.specs.Fine.{MayChange, MayTake}
use Rattle.flat_form.specs.Shows.{HasShape, Shows, ListBoth, Related}
use Rattle.flat_form.proofs.Kept.{known_map, known_drop, spares_new, AllShow, related_shows, all_show_new, all_show_drop}
use Rattle.flat_laws.proofs.Compose.{Leads}
use Rattle.flat_laws.proofs.Rows.{leads_row}

-- ---- wires of operands

pub in_made : (ws : List WireId) → wires_in (all_made ws) ≡ ws
in_made [] = refl
in_made (w ∷ ws) = ap (λ z. w ∷ z) (in_made ws)

pub made_wires : (ws : List WireId) → are_wires (all_made ws) ≡ true
made_wires [] = refl
made_wires (w ∷ ws) = made_wires ws

both_true : (a b : Bool) → a && b ≡ true → (a ≡ true) × (b ≡ true)
both_true true b h = (refl, h)
both_true false b h = cc

pub new_wires_are : (d : DraftForm) (n : ℕ) (ps : List Operand) → are_new d n ps ≡ true → are_wires ps ≡ true
new_wires_are d n [] h = refl
new_wires_are d n (Const b ∷ ps) h = cc
new_wires_are d n (Literal l ∷ ps) h =
    let (a, r) = both_true l.positive (nat_le n l.wire.number && (not (is_measured d.steps l.wire) && are_new d n ps)) h in
    let r2 = both_true (nat_le n l.wire.number) (not (is_measured d.steps l.wire) && are_new d n ps) r in
    let r3 = both_true (not (is_measured d.steps l.wire)) (are_new d n ps) r2.1 in
    ap₂ ◌&&◌ a (new_wires_are d n ps r3.1)

pub below_wires : (n : ℕ) (T : Targets) (ps : List Operand) → AllSafe n T ps → Below n (wires_in ps)
below_wires n T [] s = tt
below_wires n T (Const b ∷ ps) s = below_wires n T ps s.1
below_wires n T (Literal l ∷ ps) s = (s.0.0, below_wires n T ps s.1)

-- operands that are wires are those wires
pub wires_are : (ps : List Operand) → are_wires ps ≡ true → ps ≡ all_made (wires_in ps)
wires_are [] h = refl
wires_are (Const b ∷ ps) h = cc
wires_are (Literal l ∷ ps) h =
    let (a, r) = both_true l.positive (are_wires ps) h in
    let rest : ps ≡ all_made (wires_in ps) = wires_are ps r in
    ap₂ (λ (p : Bool) (qs : List Operand). Literal (record { wire = l.wire; positive = p }) ∷ qs) a rest

-- the operand of one wire
pub one_wire : (ps : List Operand) → are_wires ps ≡ true → length ps ≡ 1 → ps ≡ made (only_wire ps) ∷ []
one_wire [] h e = cc
one_wire (Const b ∷ ps) h e = cc
one_wire (Literal l ∷ []) h e =
    let (a, r) = both_true l.positive true h in
    ap (λ (p : Bool). Literal (record { wire = l.wire; positive = p }) ∷ []) a
one_wire (Literal l ∷ p ∷ ps) h e = absurd (omega (arith, e))

-- ---- new wires

pub new_old : (d e : DraftForm) (ws : List WireId) (w : WireId) → AllNew d e ws → w.number < length d.wires → among ws w ≡ false
new_old d e [] w s lt = refl
new_old d e (x ∷ ws) w s lt = neither (same_wire w x) (among ws w) (apart_above w.number x.number (let le = s.0 in omega (arith, lt, le))) (new_old d e ws w s.2 lt)
  where
    neither : (a b : Bool) → a ≡ false → b ≡ false → a || b ≡ false
    neither a b p q = rw (p, q) refl

pub new_above : (d e : DraftForm) (ws : List WireId) (w : WireId) → AllNew d e ws → among ws w ≡ true → length d.wires ≤ w.number
new_above d e ws w s h = elim (cases_lt w.number (length d.wires)) [
  | inl lt ↦ absurd (clash (sym (new_old d e ws w s lt) ∙ h))
  | inr le ↦ le
]

pub new_below : (d e : DraftForm) (ws : List WireId) → AllNew d e ws → Below (length e.wires) ws
new_below d e [] s = tt
new_below d e (w ∷ ws) s = (s.1, new_below d e ws s.2)

-- ---- a value that is taken

pub record Taken (s : Flattening) (v : TypedBits) (g : Given (List Operand)) : Type 0 where
  pub does : Does s.setting s.built.draft g.built.draft no_target (λ x y. bits_at y g.answer ≡ bits_at x v.operands)
  pub wires : are_wires g.answer ≡ true
  pub size : length g.answer ≡ length v.operands
  pub below : Below (length g.built.draft.wires) (wires_in g.answer)
  pub condition : Guards s.setting (length g.built.draft.wires) (among (wires_in g.answer))
  pub spared : AllKnown (Spares (among (wires_in g.answer))) (drop_last s)

-- operands are safe from wires that are new
pub guards_new : (at : Setting) (d e : DraftForm) (ws : List WireId) → length d.wires ≤ length e.wires → AllNew d e ws → Guards at (length d.wires) no_target → Guards at (length e.wires) (among ws)
guards_new at d e ws le s g = safe_more (length d.wires) (length e.wires) no_target (among ws) (under_all at []) le (λ w lt t. new_old d e ws w s lt) g

copy_size : (at : Setting) (ps : List Operand) (b : Built) → length (copy at ps b).answer ≡ length ps
unfolding copy
copy_size at ps b = length-from (length b.draft.wires) (length ps)

pub copied_taken : (s : Flattening) (v : TypedBits) → Good s → AllSafe (length s.built.draft.wires) no_target v.operands → Taken s v (copied s.setting v.operands s.built)
copied_taken s v g safe =
    let new : Given (List WireId) = copy s.setting v.operands s.built in
    let r : Copies s.setting s.built.draft new (λ x. bits_at x v.operands) = copy_does s.setting v.operands s.built g.fresh g.condition safe in
    let up : length s.built.draft.wires ≤ length new.built.draft.wires = does_grown r.does in
    let e : wires_in (all_made new.answer) ≡ new.answer = in_made new.answer in
    record {
      does = does_weak r.does (λ x y c on ag cl q. bits_made y new.answer ∙ q);
      wires = made_wires new.answer;
      size = length-map new.answer made ∙ copy_size s.setting v.operands s.built;
      below = subst (Below (length new.built.draft.wires)) (sym e) (new_below s.built.draft new.built.draft new.answer r.new);
      condition = subst (λ ws. Guards s.setting (length new.built.draft.wires) (among ws)) (sym e) (guards_new s.setting s.built.draft new.built.draft new.answer up r.new g.condition);
      spared = subst (λ ws. AllKnown (Spares (among ws)) (drop_last s)) (sym e)
          (known_map (IsKnown (length s.built.draft.wires)) (Spares (among new.answer)) (λ k q. spares_new (length s.built.draft.wires) (among new.answer) k (λ w t. new_above s.built.draft new.built.draft new.answer w r.new t) q) (drop_last s)
          (known_drop (IsKnown (length s.built.draft.wires)) s g.known));
    }

pub takes : (s : Flattening) (v : TypedBits) → Good s → IsShown (length s.built.draft.wires) v → MayTake v s → Taken s v (taken s.setting v s.built)
takes s v g k may = pick (v.own || are_new s.built.draft v.began v.operands) refl
  where
    pick : (b : Bool) → v.own || are_new s.built.draft v.began v.operands ≡ b → Taken s v (cond b (as_they_are v.operands s.built) (copied s.setting v.operands s.built))
    pick true e =
        let m : MayChange (wires_in v.operands) s (drop_last s) = may e in
        record {
          does = does_weak (does_none s.setting s.built.draft no_target) (λ x y c on ag cl q. ap (λ (z : Row). bits_at z v.operands) q);
          wires = its v.own refl e;
          size = refl;
          below = below_wires (length s.built.draft.wires) no_target v.operands k.there;
          condition = m.condition;
          spared = m.spared;
        }
      where
        its : (o : Bool) → v.own ≡ o → o || are_new s.built.draft v.began v.operands ≡ true → are_wires v.operands ≡ true
        its true f h = k.wires f
        its false f h = new_wires_are s.built.draft v.began v.operands h
    pick false e = copied_taken s v g k.there

-- ---- the last value is taken

-- the state with the taken value as its last
abbrev pub took : TypedBits → Given (List Operand) → Flattening → TypedBits
took v g s = record { classical = false; shape = v.shape; operands = g.answer; own = true; began = v.began }

-- a known value with other operands of the same bits shows the same
pub shows_again : (x y : Row) (v z : TypedBits) (w : Value) → z.shape ≡ v.shape → bits_at y z.operands ≡ bits_at x v.operands → Shows x (Shown v) w → Shows y (Shown z) w
shows_again x y v z w e b h = (subst (λ s. HasShape s w) (sym e) h.0, b ∙ h.1)

-- a state whose last value is a variable, and what it is without it
pub last_shown : (ks : List Known) (v : TypedBits) → first ks ≡ Shown v → ks ≡ Shown v ∷ drop 1 ks
last_shown [] v e = absurd (no_shown v e)
  where
    is_absent : Known → Bool
    is_absent Absent = true
    is_absent (Static z) = false
    is_absent (Shown v) = false
    is_absent (Lent a b v) = false

    no_shown : (v : TypedBits) → Absent ≡ Shown v → ⊥
    no_shown v e = clash (sym (ap is_absent e))
last_shown (k ∷ ks) v e = ap (λ z. z ∷ ks) e

pub last_shows : (x : Row) (ks : List Known) (ws : List Value) → ListBoth (Shows x) ks ws → Shows x (first ks) (first_value ws)
last_shows x [] [] h = tt
last_shows x [] (w ∷ ws) h = absurd h
last_shows x (k ∷ ks) [] h = absurd h
last_shows x (k ∷ ks) (w ∷ ws) h = h.0

-- what the last value shows
pub shown_last : (s : Flattening) (v : TypedBits) (u : WireTerm) (t : Term) → last s ≡ Shown v → Related s u t → Shows u.row (Shown v) (last_value t)
shown_last s v u t e r = subst (λ k. Shows u.row k (last_value t)) e (last_shows u.row s.values t.values r.values)

-- the last value gives way to a taken one
pub leads_taken : (o : Outcome) (s : Flattening) (v : TypedBits) (g : Given (List Operand)) (z : TypedBits) → Good s → last s ≡ Shown v → Taken s v g → z.shape ≡ v.shape → z.operands ≡ g.answer → Leads o s (push (Shown z) (build g.built (drop_last s))) (λ t. on_last (λ x. x) t ∷ [])
leads_taken o s v g z gs e k same its =
    let n : ℕ = length s.built.draft.wires in
    let f : Flattening = push (Shown z) (build g.built (drop_last s)) in
    leads_row o s f no_target (λ x y. bits_at y g.answer ≡ bits_at x v.operands) (on_last (λ x. x)) k.does gs.condition refl (λ t. (refl, refl, refl))
    (λ u t y r ag q.
    let a : AllShow y (drop_last s) (but_last t) = all_show_new n y u.row (drop_last s) (but_last t) ag (known_drop (IsKnown n) s gs.known) (all_show_drop u.row s t (related_shows s u t r)) in
    record {
      env = a.env;
      values = (shows_again u.row y v z (last_value t) same (ap (bits_at y) its ∙ q) (shown_last s v u t e r), a.values);
      callers = a.callers;
    })
