-- A run-time condition: on each term one branch acts, and the other leaves it alone.
use Rattle.std.proofs.Common.{◌≡◌, ℕ, ◌+◌, ◌≤◌, Bool, true, false, cond, not, if◌then◌else◌, List, [], ◌∷◌, ◌++◌, flat_map, length, Option, Some, None, refl, sym, ap, ◌∙◌, subst, arith, append_assoc}
use Rattle.std.specs.Bool.{beq}
use Rattle.silq_mean.specs.Value.{is_one}
use Rattle.silq_mean.specs.Term.{Term, last as last_value, drop_last as but_last}
use Rattle.silq_mean.specs.Effect.{Outcome}
use Rattle.flat_core.specs.declared.step.Step.{Step}
use Rattle.flat_core.specs.declared.step.WireId.{WireId}
use Rattle.flat_core.specs.Form.{DraftForm}
use Rattle.flat_core.specs.Sound.{count_measures}
use Rattle.flat_mean.specs.Row.{Row, holds}
use Rattle.flat_mean.specs.Terms.{Term as WireTerm, each, do_steps}
use Rattle.bit_arith.specs.declared.operand.Operand.{Operand}
use Rattle.bit_arith.specs.declared.operand.Operand.TheVariants.{Const, Literal}
use Rattle.bit_arith.specs.Built.{Built, Setting, negated, blank, read, under as under_all, under_condition, new_wire, next_wire, made}
use Rattle.bit_arith.specs.Rows.{flip}
use Rattle.bit_arith.specs.Calls.{Targets, no_target, Safe, AllSafe}
use Rattle.bit_arith.specs.Values.{Clean, bit_of, all_hold, forced}
use Rattle.bit_arith.specs.Does.{after, AllX, Fresh, Grows, Does, Tells}
use Rattle.bit_arith.proofs.Steps.{and_one, bit_same, Agree, clash}
use Rattle.bit_arith.proofs.Doing.{Guards, blank_before, clean_above, does_grown, does_none, does_weak, does_forced, grows_agree, grows_clean}
use Rattle.bit_arith.proofs.Tidying.{read_bit}
use Rattle.bit_arith.proofs.Listed.{safe_one, safe_more}
use Rattle.bit_arith.proofs.Making.{conjunction_does, negated_bit, negated_safe}
use Rattle.bit_arith.proofs.Phases.{do_steps-append, flips_one}
use Rattle.flat_form.specs.State.{Flattening, drop_last}
use Rattle.flat_form.specs.Flat.{under, as_condition, entered, enter_branch}
use Rattle.flat_form.specs.Good.{Good, IsKnown}
use Rattle.flat_form.specs.Fine.{SameEnd}
use Rattle.flat_form.specs.Shows.{Shows, ListBoth, EnvBoth, CallerShows, Related}
use Rattle.flat_form.proofs.Both.{both_weak}
use Rattle.flat_form.proofs.Kept.{known_drop, AllShow, related_shows, all_show_new, all_show_drop}
use Rattle.flat_laws.proofs.Compose.{grows_inputs, steps-each, both-each, Kept, steps_keep, LeavesOperand, Leaves, leaves-append, condition_kept, measures-append, no_measures, Leads, related_to}

-- ---- rows on one term

abbrev pub with_row : WireTerm → Row → WireTerm
with_row u v = record u { row = v }

-- X steps first, then others
pub flips_first : (o : Outcome) (xs ys : List Step) (u : WireTerm) → AllX xs → do_steps o (xs ++ ys) (u ∷ []) ≡ do_steps o ys (with_row u (after xs u.row) ∷ [])
flips_first o xs ys u x = do_steps-append o xs ys (u ∷ []) ∙ ap (do_steps o ys) (flips_one o xs u x)

-- steps that measure nothing
pub measures_grown : (d e : DraftForm) (new : List Step) → e.steps ≡ d.steps ++ new → count_measures new ≡ 0 → count_measures e.steps ≡ count_measures d.steps
measures_grown d e new g z =
    let a : count_measures e.steps ≡ count_measures d.steps + count_measures new = ap count_measures g ∙ measures-append d.steps new in
    omega (arith, a, z)

-- a row that changes no wire of the condition in force
pub guard_leaves : (at : Setting) {d e : DraftForm} {T : Targets} {new : List Step} → Grows d e T new → Guards at (length d.wires) T → Leaves at.condition new
guard_leaves at {d = d} {T = T} {new = new} g s = go at.condition s
  where
    go : (c : Option Operand) → AllSafe (length d.wires) T (under_condition c []) → Leaves c new
    go None h = tt
    go (Some (Const b)) h = tt
    go (Some (Literal l)) h = g.spares l.wire h.0.0 h.0.1

pub guards_more : (at : Setting) (n m : ℕ) → n ≤ m → Guards at n no_target → Guards at m no_target
guards_more at n m le g = safe_more n m no_target no_target (under_all at []) le (λ w lt t. t) g

pub operand_kept : (c : Operand) (ss : List Step) (v : Row) (u : WireTerm) → LeavesOperand c ss → Kept ss v u → bit_of u.row c ≡ bit_of v c
operand_kept (Const b) ss v u p k = refl
operand_kept (Literal l) ss v u p k = ap (λ x. beq x l.positive) (k l.wire p)

-- ---- where a branch begins

abbrev pub condition_holds : Row → Option Operand → Bool
condition_holds v c = all_hold v (under_condition c [])

condition_bit : (v : Row) (p : Operand) → condition_holds v (as_condition p) ≡ bit_of v p
condition_bit v (Const true) = refl
condition_bit v (Const false) = refl
condition_bit v (Literal l) = and_one (holds v (Some l))

blank_is_zero : (d : DraftForm) (w : WireId) (v : Row) → v w.number ≡ false → bit_of v (read d (made w)) ≡ false
blank_is_zero d w v h = pick (blank d w)
  where
    pick : (b : Bool) → bit_of v (cond b (Const false) (made w)) ≡ false
    pick true = refl
    pick false = ap (λ x. beq x true) h

-- the condition of the branch holds where the condition in force and the operand do
pub record Enters (at : Setting) (c : Operand) (b : Built) : Type 0 where
  pub does : Does at b.draft (entered at c b).built.draft no_target (λ v u. condition_holds u (entered at c b).answer ≡ bit_of v c)
  pub idle : (v : Row) → Clean b.draft v → forced at v ≡ false → condition_holds v (entered at c b).answer ≡ false

pub enters : (at : Setting) (c : Operand) (b : Built) → Fresh b.draft → Guards at (length b.draft.wires) no_target → Safe (length b.draft.wires) no_target c → Enters at c b
enters at c b f g s = go at.condition g
  where
    go : (p : Option Operand) → Guards (record { line = at.line; condition = p }) (length b.draft.wires) no_target → Enters (record { line = at.line; condition = p }) c b
    go None h =
        let none : Setting = record { line = at.line; condition = None } in
        record {
          does = does_weak (does_none none b.draft no_target) (λ v u cl on ag cl' e. condition_bit u (read b.draft c) ∙ (read_bit b.draft u c cl' ∙ ap (λ (w : Row). bit_of w c) e));
          idle = λ v cl off. absurd (clash (sym off));
        }
    go (Some p) h =
        let outer : Setting = record { line = at.line; condition = Some p } in
        let w : WireId = next_wire b in
        let b' : Built = flip outer w (c ∷ []) (new_wire b) in
        let r : Tells outer b.draft [] (record { answer = made w; built = b' }) (λ v. all_hold v (c ∷ [])) = conjunction_does outer (c ∷ []) b f h (s, tt) in
        record {
          does = does_weak r.does (λ v u cl on ag cl' e. condition_bit u (read b'.draft (made w)) ∙ (read_bit b'.draft u (made w) cl' ∙ (e ∙ and_one (bit_of v c))));
          idle = λ v cl off. condition_bit v (read b'.draft (made w)) ∙ blank_is_zero b'.draft w v (clean_above b.draft v f cl w (omega arith));
        }

-- ---- both branches

flat_map_one : {A : Type 0} (xs : List A) → flat_map (λ x. x ∷ []) xs ≡ xs
flat_map_one [] = refl
flat_map_one (x ∷ xs) = ap (λ z. x ∷ z) (flat_map_one xs)

module _ (o : Outcome) (s one two : Flattening) (c : Operand) (src next : Term → List Term)
    (gs : Good s) (g1 : Good one) (cs : Safe (length s.built.draft.wires) no_target c)
    (bit : (u : WireTerm) (t : Term) → Related s u t → is_one (last_value t) ≡ bit_of u.row c)
    (m : Leads o (enter_branch c (drop_last s)) one src)
    (n : Leads o (enter_branch (negated c) (record (drop_last s) { built = one.built; statements = one.statements })) two next)
    (kept : LeavesOperand c m.new) (outer : Leaves s.setting.condition m.new) (later : Leaves s.setting.condition n.new) (same : SameEnd one two) where
  abbrev at : Setting
  at = s.setting

  abbrev first : Flattening
  first = enter_branch c (drop_last s)

  abbrev second : Flattening
  second = enter_branch (negated c) (record (drop_last s) { built = one.built; statements = one.statements })

  abbrev done : Flattening
  done = under s.setting.condition two

  abbrev begins : ℕ
  begins = length s.built.draft.wires

  abbrev middle : ℕ
  middle = length one.built.draft.wires

  r1 : Enters at c s.built
  r1 = enters at c s.built gs.fresh gs.condition cs

  up : begins ≤ middle
  up = let a : begins ≤ length first.built.draft.wires = does_grown r1.does in omega (arith, a, m.wires)

  guards : Guards at middle no_target
  guards = guards_more at begins middle up gs.condition

  r2 : Enters at (negated c) one.built
  r2 =
      enters at (negated c) one.built g1.fresh guards
      (negated_safe middle no_target c (safe_one begins middle no_target no_target c up (λ w lt t. t) cs))

  abbrev all : List Step
  all = r1.does.new ++ (m.new ++ (r2.does.new ++ n.new))

  grown : two.built.draft.steps ≡ s.built.draft.steps ++ all
  grown =
      n.grown ∙ (ap (λ z. z ++ n.new) (r2.does.grows.steps ∙ ap (λ z. z ++ r2.does.new) (m.grown ∙ ap (λ z. z ++ m.new) r1.does.grows.steps))
      ∙ regroup s.built.draft.steps r1.does.new m.new r2.does.new n.new)
    where
      regroup : (p q u v w : List Step) → (((p ++ q) ++ u) ++ v) ++ w ≡ p ++ (q ++ (u ++ (v ++ w)))
      regroup p q u v w = simp append_assoc

  -- the same values of wires, with more steps
  clean1 : (v : Row) → Clean s.built.draft v → Clean first.built.draft v
  clean1 v cl w h = cl w (blank_before r1.does.grows w h).0

  clean2 : (v : Row) → Clean first.built.draft v → Clean one.built.draft v
  clean2 v cl w h = cl w (m.blanks w h)

  clean3 : (v : Row) → Clean one.built.draft v → Clean second.built.draft v
  clean3 v cl w h = cl w (blank_before r2.does.grows w h).0

  clean4 : (v : Row) → Clean second.built.draft v → Clean two.built.draft v
  clean4 v cl w h = cl w (n.blanks w h)

  -- all steps on a term
  head : (u : WireTerm) → do_steps o all (u ∷ []) ≡ do_steps o (r2.does.new ++ n.new) (do_steps o m.new (with_row u (after r1.does.new u.row) ∷ []))
  head u =
      flips_first o r1.does.new (m.new ++ (r2.does.new ++ n.new)) u r1.does.all_x
      ∙ do_steps-append o m.new (r2.does.new ++ n.new) (with_row u (after r1.does.new u.row) ∷ [])

  tail : (u : WireTerm) → do_steps o (r2.does.new ++ n.new) (u ∷ []) ≡ do_steps o n.new (with_row u (after r2.does.new u.row) ∷ [])
  tail u = flips_first o r2.does.new n.new u r2.does.all_x

  still : (u : WireTerm) → Clean s.built.draft u.row → forced at u.row ≡ false → do_steps o all (u ∷ []) ≡ u ∷ []
  still u cl off' =
      let same1 : after r1.does.new u.row ≡ u.row = r1.does.still u.row cl off' in
      let c1 : Clean first.built.draft u.row = clean1 u.row cl in
      let run1 : do_steps o m.new (u ∷ []) ≡ u ∷ [] = m.still u c1 (r1.idle u.row cl off') in
      let c2 : Clean one.built.draft u.row = clean2 u.row c1 in
      let same2 : after r2.does.new u.row ≡ u.row = r2.does.still u.row c2 off' in
      let run2 : do_steps o n.new (u ∷ []) ≡ u ∷ [] = n.still u (clean3 u.row c2) (r2.idle u.row c2 off') in
      head u
      ∙ (ap (λ (v : Row). do_steps o (r2.does.new ++ n.new) (do_steps o m.new (with_row u v ∷ []))) same1
      ∙ (ap (do_steps o (r2.does.new ++ n.new)) run1
      ∙ (tail u ∙ (ap (λ (v : Row). do_steps o n.new (with_row u v ∷ [])) same2 ∙ run2))))

  told : (v : Row) → Clean s.built.draft v → forced at v ≡ false → count_measures all ≡ 0
  told v cl off' =
      let c1 : Clean first.built.draft v = clean1 v cl in
      let c2 : Clean one.built.draft v = clean2 v c1 in
      let x1 : count_measures r1.does.new ≡ 0 = no_measures r1.does.new r1.does.all_x in
      let x2 : count_measures m.new ≡ 0 = m.told v c1 (r1.idle v cl off') in
      let x3 : count_measures r2.does.new ≡ 0 = no_measures r2.does.new r2.does.all_x in
      let x4 : count_measures n.new ≡ 0 = n.told v (clean3 v c2) (r2.idle v c2 off') in
      measures-append r1.does.new (m.new ++ (r2.does.new ++ n.new))
      ∙ (ap (λ (k : ℕ). count_measures r1.does.new + k) (measures-append m.new (r2.does.new ++ n.new) ∙ ap (λ (k : ℕ). count_measures m.new + k) (measures-append r2.does.new n.new))
      ∙ omega (arith, x1, x2, x3, x4))

  -- a term to which the first branch led, after the steps of the second
  past : (z : WireTerm) (t : Term) → Related one z t → forced at z.row ≡ true → bit_of z.row c ≡ true → ListBoth (Related done) (do_steps o (r2.does.new ++ n.new) (z ∷ [])) (t ∷ [])
  past z t r on holds' =
      let v : Row = after r2.does.new z.row in
      let off' : condition_holds v second.setting.condition ≡ false = r2.does.gives z.row r.clean on ∙ (negated_bit z.row c ∙ ap not holds') in
      let cl : Clean second.built.draft v = grows_clean r2.does.grows z.row r.clean in
      let Shown : AllShow v one t = all_show_new middle v z.row one t (grows_agree r2.does.grows z.row) g1.known (related_shows one z t r) in
      let told2 : count_measures two.built.draft.steps ≡ count_measures one.built.draft.steps =
      measures_grown second.built.draft two.built.draft n.new n.grown (n.told v cl off')
      ∙ measures_grown one.built.draft second.built.draft r2.does.new r2.does.grows.steps (no_measures r2.does.new r2.does.all_x) in
      let end : Related done (with_row z v) t = record {
        clean = clean4 v cl;
        env = subst (λ x. EnvBoth (Shows v) x t.env) same.env Shown.env;
        values = subst (λ x. ListBoth (Shows v) x t.values) same.values Shown.values;
        callers = subst (λ x. ListBoth (CallerShows v) x t.callers) same.callers Shown.callers;
        eighths = r.eighths;
        halvings = r.halvings;
        measured = told2 ∙ r.measured;
      } in
      subst (λ us. ListBoth (Related done) us (t ∷ [])) (sym (tail z ∙ n.still (with_row z v) cl off')) (end, tt)

  gives : (u : WireTerm) (t : Term) → Related s u t → forced at u.row ≡ true → ListBoth (Related done) (do_steps o all (u ∷ [])) (if is_one (last_value t) then src (but_last t) else next (but_last t))
  gives u t r on = pick (is_one (last_value t)) (bit u t r)
    where
      v : Row
      v = after r1.does.new u.row

      z : WireTerm
      z = with_row u v

      ag : Agree begins no_target v u.row
      ag = grows_agree r1.does.grows u.row

      here : condition_holds v first.setting.condition ≡ bit_of u.row c
      here = r1.does.gives u.row r.clean on

      cl : Clean first.built.draft v
      cl = grows_clean r1.does.grows u.row r.clean

      on' : forced at v ≡ true
      on' = does_forced r1.does u.row gs.condition ∙ on

      its : bit_of v c ≡ bit_of u.row c
      its = bit_same begins no_target v u.row c cs ag

      Shown : AllShow u.row (drop_last s) (but_last t)
      Shown = all_show_drop u.row s t (related_shows s u t r)

      measured1 : count_measures first.built.draft.steps ≡ t.measured
      measured1 = measures_grown s.built.draft first.built.draft r1.does.new r1.does.grows.steps (no_measures r1.does.new r1.does.all_x) ∙ r.measured

      related1 : Related first z (but_last t)
      related1 =
          let a : AllShow v (drop_last s) (but_last t) = all_show_new begins v u.row (drop_last s) (but_last t) ag (known_drop (IsKnown begins) s gs.known) Shown in
          record { clean = cl; env = a.env; values = a.values; callers = a.callers; eighths = r.eighths; halvings = r.halvings; measured = measured1 }

      pick : (b : Bool) → b ≡ bit_of u.row c → ListBoth (Related done) (do_steps o all (u ∷ [])) (if b then src (but_last t) else next (but_last t))
      pick true e =
          let ends : ListBoth (Related one) (do_steps o m.new (z ∷ [])) (src (but_last t)) = m.gives z (but_last t) related1 (here ∙ sym e) in
          let after_all : ListBoth (Related done) (each (λ y. do_steps o (r2.does.new ++ n.new) (y ∷ [])) (do_steps o m.new (z ∷ []))) (flat_map (λ y. y ∷ []) (src (but_last t))) =
          both-each (Kept m.new v) (Related one) (Related done) (λ y. do_steps o (r2.does.new ++ n.new) (y ∷ [])) (λ y. y ∷ [])
          (λ y x k q. past y x q (condition_kept at.condition m.new v y outer k ∙ on') (operand_kept c m.new v y kept k ∙ (its ∙ sym e)))
          (do_steps o m.new (z ∷ [])) (src (but_last t)) (steps_keep o m.new z) ends in
          subst (λ ts. ListBoth (Related done) (do_steps o all (u ∷ [])) ts) (flat_map_one (src (but_last t)))
          (subst (λ us. ListBoth (Related done) us (flat_map (λ y. y ∷ []) (src (but_last t)))) (sym (head u ∙ steps-each o (r2.does.new ++ n.new) (do_steps o m.new (z ∷ [])))) after_all)
      pick false e =
          let off' : condition_holds v first.setting.condition ≡ false = here ∙ sym e in
          let run1 : do_steps o m.new (z ∷ []) ≡ z ∷ [] = m.still z cl off' in
          let c2 : Clean one.built.draft v = clean2 v cl in
          let x : Row = after r2.does.new v in
          let on2 : condition_holds x second.setting.condition ≡ true = r2.does.gives v c2 on' ∙ (negated_bit v c ∙ ap not (its ∙ sym e)) in
          let ag2 : Agree begins no_target x v = λ w lt t. grows_agree r2.does.grows v w (omega (arith, lt, up)) t in
          let a : AllShow x (drop_last s) (but_last t) = all_show_new begins x v (drop_last s) (but_last t) ag2 (known_drop (IsKnown begins) s gs.known) (record { env = related1.env; values = related1.values; callers = related1.callers }) in
          let related2 : Related second (with_row z x) (but_last t) = record {
            clean = grows_clean r2.does.grows v c2;
            env = a.env;
            values = a.values;
            callers = a.callers;
            eighths = r.eighths;
            halvings = r.halvings;
            measured = measures_grown one.built.draft second.built.draft r2.does.new r2.does.grows.steps (no_measures r2.does.new r2.does.all_x)
                ∙ (measures_grown first.built.draft one.built.draft m.new m.grown (m.told v cl off') ∙ measured1);
          } in
          subst (λ us. ListBoth (Related done) us (next (but_last t))) (sym (head u ∙ (ap (do_steps o (r2.does.new ++ n.new)) run1 ∙ tail z)))
          (both_weak (Related two) (Related done) (λ y w q. related_to two done refl refl refl refl y w q) (do_steps o n.new (with_row z x ∷ [])) (next (but_last t)) (n.gives (with_row z x) (but_last t) related2 on2))

  pub leads_choice : Leads o s (under s.setting.condition two) (λ t. if is_one (last_value t) then src (but_last t) else next (but_last t))
  leads_choice = record {
    new = all;
    grown = grown;
    wires = let a : middle ≤ length second.built.draft.wires = does_grown r2.does in omega (arith, up, a, n.wires);
    setting = ap with_outer n.setting;
    inputs = λ w. n.inputs w ∙ (grows_inputs r2.does.grows w ∙ (m.inputs w ∙ grows_inputs r1.does.grows w));
    blanks = λ w h. (blank_before r1.does.grows w (m.blanks w (blank_before r2.does.grows w (n.blanks w h)).0)).0;
    leaves = leaves-append at.condition r1.does.new (m.new ++ (r2.does.new ++ n.new)) (guard_leaves at r1.does.grows gs.condition)
        (leaves-append at.condition m.new (r2.does.new ++ n.new) outer (leaves-append at.condition r2.does.new n.new (guard_leaves at r2.does.grows guards) later));
    told = told;
    still = still;
    gives = gives;
  }
    where
      with_outer : Setting → Setting
      with_outer x = record x { condition = s.setting.condition }
