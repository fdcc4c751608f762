-- Where each forget is true, the wires that end as Zeroed are 0.
use Rattle.std.proofs.Common.{◌≡◌, ℕ, ◌+◌, ◌≤◌, ◌<◌, Bool, true, false, not, ◌||◌, List, [], ◌∷◌, ◌++◌, length, replicate, drop, refl, sym, ap, ◌∙◌, subst, arith, append_assoc, ◌⊎◌, inl, inr}
use Rattle.std.specs.Prelude.{get_or}
use Rattle.std.proofs.lemmas.Bool.{eqb-true, cases_lt}
use Rattle.std.proofs.lemmas.List.{append_cancel_left}
use Rattle.silq_tree.specs.declared.node.NameId.{NameId}
use Rattle.silq_mean.specs.Value.{is_one}
use Rattle.silq_mean.specs.Term.{Term, last as last_value, drop_last as but_last, equals_last}
use Rattle.silq_mean.specs.Effect.{Effect, nothing, ◌>>◌, statement, step, mix, measure as measured, claim, choice, Outcome, follow, Holds, Each}
use Rattle.flat_core.specs.declared.step.Step.{Step}
use Rattle.flat_core.specs.declared.step.WireId.{WireId}
use Rattle.flat_core.specs.declared.step.End.TheVariants.{Zeroed}
use Rattle.flat_core.specs.Form.{DraftForm}
use Rattle.flat_core.specs.Label.{same_wire, label_after}
use Rattle.flat_core.specs.Sound.{count_measures}
use Rattle.flat_mean.specs.Row.{Row}
use Rattle.flat_mean.specs.Terms.{Term as WireTerm, each, do_steps}
use Rattle.bit_arith.specs.Built.{Setting, negated}
use Rattle.bit_arith.specs.Calls.{no_target, among}
use Rattle.bit_arith.specs.Values.{Clean, bit_of, forced, values_at}
use Rattle.bit_arith.specs.Does.{after, Fresh}
use Rattle.bit_arith.proofs.Steps.{Agree, label-append, bit_same, clash}
use Rattle.bit_arith.proofs.Doing.{does_grown, clean_above, does_forced, grows_agree, grows_clean}
use Rattle.bit_arith.proofs.Making.{negated_bit}
use Rattle.bit_arith.proofs.Phases.{do_steps-append, flips_one}
use Rattle.flat_form.specs.declared.known.TypedBits.{TypedBits}
use Rattle.flat_form.specs.declared.known.Known.{Known}
use Rattle.flat_form.specs.declared.known.Known.TheVariants.{Static, Shown, Lent, Absent}
use Rattle.flat_form.specs.State.{Flattening, last, drop_last, are_wires, typed_like, wires_in}
use Rattle.flat_form.specs.Flat.{flat, flat_step, known_in, count_statement, on_line, chosen_by, first_branch, second_branch, zero_variable, without_name}
use Rattle.flat_form.specs.Names.{AllOf}
use Rattle.flat_form.specs.Good.{Good, IsKnown}
use Rattle.flat_form.specs.Fine.{IsOf, MayChange, Fine, ZeroesNew}
use Rattle.flat_form.specs.Shows.{ListBoth, Related}
use Rattle.flat_form.proofs.Both.{all_append, all_weak}
use Rattle.flat_form.proofs.Kept.{known_drop, AllShow, related_shows, all_show_new, all_show_drop, all_and}
use Rattle.flat_form.proofs.Later.{later_then, end_all_steps}
use Rattle.flat_laws.proofs.Compose.{steps-each, Kept, steps_keep, LeavesOperand, Leaves, condition_kept, no_measures, Leads, related_to}
use Rattle.flat_laws.proofs.Choice.{Enters, with_row, flips_first, measures_grown, operand_kept, condition_holds}
use Rattle.flat_laws.proofs.Gates.{choice_bit}
use Rattle.flat_form.proofs.Goods.{Goes, chosen_safe, good_statement, goes_first, goes_second, goes_flat}
use Rattle.flat_laws.proofs.Steps.{leads_flat, keeps_leaves, keeps_all}
use Rattle.flat_laws.proofs.Zeroing.{claim_zeros}
use Rattle.flat_laws.proofs.Sparing.{passes_same, zeroed, zeroed_low, ends_grows}
use Rattle.flat_laws.proofs.Spared.{Spared, spared_step, spared_mix, spared_measured}
use Rattle.flat_laws.proofs.Settling.{Done, settle, claim_flips, claim_does, claim_ends, claim_off, zeroes_new, first_enters, second_enters, settles_first, second_done}

-- the wires that end as Zeroed are 0
abbrev pub Zeros : DraftForm → WireTerm → Type 0
Zeros d u = (w : WireId) → zeroed d w ≡ true → u.row w.number ≡ false

-- ---- lists of terms

-- what holds of the terms that each term leads to
each_all : (Q R : WireTerm → Type 0) (S : WireTerm → Term → Type 0) (f : WireTerm → List WireTerm) → ((u : WireTerm) (t : Term) → Q u → S u t → AllOf R (f u)) → (us : List WireTerm) (ts : List Term) → AllOf Q us → ListBoth S us ts → AllOf R (each f us)
each_all Q R S f h [] ts q s = tt
each_all Q R S f h (u ∷ us) [] q s = absurd s
each_all Q R S f h (u ∷ us) (t ∷ ts) q s = all_append R (f u) (each f us) (h u t q.0 s.0) (each_all Q R S f h us ts q.1 s.1)

both_holding : (S : WireTerm → Term → Type 0) (H : Term → Type 0) (us : List WireTerm) (ts : List Term) → ListBoth S us ts → Each H ts → ListBoth (λ u t. S u t × H t) us ts
both_holding S H [] [] s h = tt
both_holding S H [] (t ∷ ts) s h = absurd s
both_holding S H (u ∷ us) [] s h = absurd s
both_holding S H (u ∷ us) (t ∷ ts) s h = ((s.0, h.0), both_holding S H us ts s.1 h.1)

-- steps after the same steps are the same where all are
same_new : (old a b all : List Step) → all ≡ old ++ a → all ≡ old ++ b → a ≡ b
same_new old a b all p q = append_cancel_left old a b (sym p ∙ q)

no_more : (a b c : ℕ) → c ≡ a → c ≡ a + b → b ≡ 0
no_more a b c p q = omega (arith, p, q)

-- ---- steps

-- steps that change no wire that ends as Zeroed, after which no other wire ends so
zero_spared : (o : Outcome) (s e : Flattening) (new : List Step) (u : WireTerm) → Spared (zeroed s.built.draft) s e → e.built.draft.steps ≡ s.built.draft.steps ++ new → Zeros s.built.draft u → AllOf (Zeros e.built.draft) (do_steps o new (u ∷ []))
zero_spared o s e new u q grown z =
    all_weak (Kept new u.row) (Zeros e.built.draft) (λ y k w h. k w (kept w (q.passes.ends w h)) ∙ z w (q.passes.ends w h)) (do_steps o new (u ∷ [])) (steps_keep o new u)
  where
    kept : (w : WireId) → zeroed s.built.draft w ≡ true → label_after new w ≡ 0
    kept w h = no_more (label_after s.built.draft.steps w) (label_after new w) (label_after e.built.draft.steps w) (q.passes.keeps w h) (ap (λ ss. label_after ss w) grown ∙ label-append s.built.draft.steps new w)

-- ---- claims

wire_zero : (y : Row) (ws : List WireId) (w : WireId) → values_at y ws ≡ replicate (length ws) false → among ws w ≡ true → y w.number ≡ false
wire_zero y [] w e h = absurd (clash h)
wire_zero y (x ∷ ws) w e h = pick (same_wire w x) refl h (wire_zero y ws w (ap (λ bs. drop 1 bs) e))
  where
    pick : (b : Bool) → same_wire w x ≡ b → b || among ws w ≡ true → (among ws w ≡ true → y w.number ≡ false) → y w.number ≡ false
    pick true p k rest = ap y (eqb-true w.number x.number p) ∙ ap (λ bs. get_or bs 0 false) e
    pick false p k rest = rest k

zero_shown : (o : Outcome) (x : NameId) (s : Flattening) (g : Good s) (v : TypedBits) (e : known_in s x ≡ Shown v) (like : IsOf (λ w. w.shape ≡ v.shape) (typed_like 0 (Shown v) (last s))) (are : are_wires v.operands ≡ true) (may : MayChange (wires_in v.operands) s (without_name x s)) → Done s
    → (new : List Step) → (without_name x (zero_variable (Shown v) (last s) s)).built.draft.steps ≡ s.built.draft.steps ++ new → (u : WireTerm) (t : Term) → Related s u t → forced s.setting u.row ≡ true → equals_last x t ≡ true → Zeros s.built.draft u → AllOf (Zeros (without_name x (zero_variable (Shown v) (last s) s)).built.draft) (do_steps o new (u ∷ []))
zero_shown o x s g v e like are may d new grown u t r on truth z =
    let ws : List WireId = wires_in v.operands in
    let does = claim_does x s g v e like are may in
    let y : Row = after does.new u.row in
    let its : new ≡ does.new = same_new s.built.draft.steps new does.new (without_name x (zero_variable (Shown v) (last s) s)).built.draft.steps grown (end_all_steps Zeroed ws (claim_flips x s g v e like are may) ∙ does.grows.steps) in
    let zeros : values_at y ws ≡ replicate (length ws) false = claim_zeros x s v u.row y t e are like (related_shows s u t r) truth (does.gives u.row r.clean on) in
    let ag : Agree (length s.built.draft.wires) (among ws) y u.row = grows_agree does.grows u.row in
    subst (AllOf (Zeros (without_name x (zero_variable (Shown v) (last s) s)).built.draft)) (sym (ap (λ ss. do_steps o ss (u ∷ [])) its ∙ flips_one o does.new u does.all_x))
    ((λ w h. pick y zeros ag w (claim_ends x s g v e like are may w h)), tt)
  where
    pick : (y : Row) → values_at y (wires_in v.operands) ≡ replicate (length (wires_in v.operands)) false → Agree (length s.built.draft.wires) (among (wires_in v.operands)) y u.row → (w : WireId) → (zeroed s.built.draft w ≡ true) ⊎ (among (wires_in v.operands) w ≡ true) → y w.number ≡ false
    pick y zeros ag w (inl h) = ag w (zeroed_low s.built.draft w h) (claim_off x s g v e like are may (zeroed s.built.draft) d w h) ∙ z w h
    pick y zeros ag w (inr h) = wire_zero y (wires_in v.operands) w zeros h

-- ---- choices

module _ (o : Outcome) (s one two : Flattening) (src next : Term → List Term) (gs : Good s) (g1 : Good one)
    (bit : (u : WireTerm) (t : Term) → Related s u t → is_one (last_value t) ≡ bit_of u.row (chosen_by s))
    (m : Leads o (first_branch s) one src)
    (n : Leads o (second_branch one s) two next)
    (kept : LeavesOperand (chosen_by s) m.new) (outer : Leaves s.setting.condition m.new)
    (gf : Fresh (first_branch s).built.draft) (g2 : Fresh (second_branch one s).built.draft)
    (new_first : (w : WireId) → w.number < length (first_branch s).built.draft.wires → zeroed one.built.draft w ≡ true → zeroed (first_branch s).built.draft w ≡ true)
    (new_second : (w : WireId) → w.number < length (second_branch one s).built.draft.wires → zeroed two.built.draft w ≡ true → zeroed (second_branch one s).built.draft w ≡ true)
    (H1 H2 : Term → Type 0)
    (ih1 : (u : WireTerm) (t : Term) → Related (first_branch s) u t → condition_holds u.row (first_branch s).setting.condition ≡ true → H1 t → Zeros (first_branch s).built.draft u → AllOf (Zeros one.built.draft) (do_steps o m.new (u ∷ [])))
    (ih2 : (u : WireTerm) (t : Term) → Related (second_branch one s) u t → condition_holds u.row (second_branch one s).setting.condition ≡ true → H2 t → Zeros (second_branch one s).built.draft u → AllOf (Zeros two.built.draft) (do_steps o n.new (u ∷ [])))
    (zn : ZeroesNew (first_branch s) one) where
  abbrev at : Setting
  at = s.setting

  abbrev first : Flattening
  first = first_branch s

  abbrev second : Flattening
  second = second_branch one s

  abbrev begins : ℕ
  begins = length s.built.draft.wires

  abbrev middle : ℕ
  middle = length one.built.draft.wires

  r1 : Enters at (chosen_by s) s.built
  r1 = first_enters s one gs g1 m.wires zn

  r2 : Enters at (negated (chosen_by s)) one.built
  r2 = second_enters s one gs g1 m.wires zn

  up : begins ≤ middle
  up = let a : begins ≤ length first.built.draft.wires = does_grown r1.does in omega (arith, a, m.wires)

  abbrev all : List Step
  all = r1.does.new ++ (m.new ++ (r2.does.new ++ n.new))

  grown : two.built.draft.steps ≡ s.built.draft.steps ++ all
  grown =
      n.grown ∙ (ap (λ z. z ++ n.new) (r2.does.grows.steps ∙ ap (λ z. z ++ r2.does.new) (m.grown ∙ ap (λ z. z ++ m.new) r1.does.grows.steps))
      ∙ regroup s.built.draft.steps r1.does.new m.new r2.does.new n.new)
    where
      regroup : (p q u v w : List Step) → (((p ++ q) ++ u) ++ v) ++ w ≡ p ++ (q ++ (u ++ (v ++ w)))
      regroup p q u v w = simp append_assoc

  head : (u : WireTerm) → do_steps o all (u ∷ []) ≡ do_steps o (r2.does.new ++ n.new) (do_steps o m.new (with_row u (after r1.does.new u.row) ∷ []))
  head u =
      flips_first o r1.does.new (m.new ++ (r2.does.new ++ n.new)) u r1.does.all_x
      ∙ do_steps-append o m.new (r2.does.new ++ n.new) (with_row u (after r1.does.new u.row) ∷ [])

  tail : (u : WireTerm) → do_steps o (r2.does.new ++ n.new) (u ∷ []) ≡ do_steps o n.new (with_row u (after r2.does.new u.row) ∷ [])
  tail u = flips_first o r2.does.new n.new u r2.does.all_x

  clean2 : (v : Row) → Clean first.built.draft v → Clean one.built.draft v
  clean2 v cl w h = cl w (m.blanks w h)

  -- wires of the first branch that end as Zeroed, after the second has begun
  second_zero : (y : Row) → ((w : WireId) → zeroed one.built.draft w ≡ true → y w.number ≡ false) → (w : WireId) → zeroed second.built.draft w ≡ true → after r2.does.new y w.number ≡ false
  second_zero y z w h =
      let k : zeroed one.built.draft w ≡ true = ends_grows r2.does.grows w h in
      grows_agree r2.does.grows y w (zeroed_low one.built.draft w k) refl ∙ z w k

  -- a term to which the first branch led, after the steps of the second
  past : (y : WireTerm) (t : Term) → Related one y t → forced at y.row ≡ true → bit_of y.row (chosen_by s) ≡ true → Zeros one.built.draft y → AllOf (Zeros two.built.draft) (do_steps o (r2.does.new ++ n.new) (y ∷ []))
  past y t r on holds' z =
      let v : Row = after r2.does.new y.row in
      let off' : condition_holds v second.setting.condition ≡ false = r2.does.gives y.row r.clean on ∙ (negated_bit y.row (chosen_by s) ∙ ap not holds') in
      let cl : Clean second.built.draft v = grows_clean r2.does.grows y.row r.clean in
      subst (AllOf (Zeros two.built.draft)) (sym (tail y ∙ n.still (with_row y v) cl off')) ((λ w h. pick v refl cl w h (cases_lt w.number (length second.built.draft.wires))), tt)
    where
      pick : (v : Row) → v ≡ after r2.does.new y.row → Clean second.built.draft v → (w : WireId) → zeroed two.built.draft w ≡ true → (w.number < length second.built.draft.wires) ⊎ (length second.built.draft.wires ≤ w.number) → v w.number ≡ false
      pick v e cl w h (inl lt) = ap (λ (x : Row). x w.number) e ∙ second_zero y.row z w (new_second w lt h)
      pick v e cl w h (inr le) = clean_above second.built.draft v g2 cl w le

  pub zero_choice : (new : List Step) → two.built.draft.steps ≡ s.built.draft.steps ++ new → (u : WireTerm) (t : Term) → Related s u t → forced at u.row ≡ true → (is_one (last_value t) ≡ true → H1 (but_last t)) → (is_one (last_value t) ≡ false → H2 (but_last t)) → Zeros s.built.draft u → AllOf (Zeros two.built.draft) (do_steps o new (u ∷ []))
  zero_choice new its u t r on h1 h2 z0 =
      subst (λ ss. AllOf (Zeros two.built.draft) (do_steps o ss (u ∷ []))) (same_new s.built.draft.steps all new two.built.draft.steps grown its) (pick (is_one (last_value t)) refl)
    where
      v : Row
      v = after r1.does.new u.row

      z : WireTerm
      z = with_row u v

      ag : Agree begins no_target v u.row
      ag = grows_agree r1.does.grows u.row

      here : condition_holds v first.setting.condition ≡ bit_of u.row (chosen_by s)
      here = r1.does.gives u.row r.clean on

      cl : Clean first.built.draft v
      cl = grows_clean r1.does.grows u.row r.clean

      on' : forced at v ≡ true
      on' = does_forced r1.does u.row gs.condition ∙ on

      its_bit : bit_of v (chosen_by s) ≡ bit_of u.row (chosen_by s)
      its_bit = bit_same begins no_target v u.row (chosen_by s) (chosen_safe s gs) ag

      shows : AllShow u.row (drop_last s) (but_last t)
      shows = all_show_drop u.row s t (related_shows s u t r)

      measured1 : count_measures first.built.draft.steps ≡ t.measured
      measured1 = measures_grown s.built.draft first.built.draft r1.does.new r1.does.grows.steps (no_measures r1.does.new r1.does.all_x) ∙ r.measured

      related1 : Related first z (but_last t)
      related1 =
          let a : AllShow v (drop_last s) (but_last t) = all_show_new begins v u.row (drop_last s) (but_last t) ag (known_drop (IsKnown begins) s gs.known) shows in
          record { clean = cl; env = a.env; values = a.values; callers = a.callers; eighths = r.eighths; halvings = r.halvings; measured = measured1 }

      -- wires that end as Zeroed where the first branch begins
      zeros1 : (w : WireId) → zeroed first.built.draft w ≡ true → v w.number ≡ false
      zeros1 w h = let k : zeroed s.built.draft w ≡ true = ends_grows r1.does.grows w h in ag w (zeroed_low s.built.draft w k) refl ∙ z0 w k

      -- and those that the first branch leaves so where it is not taken
      zeros_one : (w : WireId) → zeroed one.built.draft w ≡ true → v w.number ≡ false
      zeros_one w h = elim (cases_lt w.number (length first.built.draft.wires)) [
        | inl lt ↦ zeros1 w (new_first w lt h)
        | inr le ↦ clean_above first.built.draft v gf cl w le
      ]

      pick : (b : Bool) → is_one (last_value t) ≡ b → AllOf (Zeros two.built.draft) (do_steps o all (u ∷ []))
      pick true e =
          let holds' : bit_of u.row (chosen_by s) ≡ true = sym (bit u t r) ∙ e in
          let ends : ListBoth (Related one) (do_steps o m.new (z ∷ [])) (src (but_last t)) = m.gives z (but_last t) related1 (here ∙ holds') in
          let zs : AllOf (Zeros one.built.draft) (do_steps o m.new (z ∷ [])) = ih1 z (but_last t) related1 (here ∙ holds') (h1 e) zeros1 in
          subst (AllOf (Zeros two.built.draft)) (sym (head u ∙ steps-each o (r2.does.new ++ n.new) (do_steps o m.new (z ∷ []))))
          (each_all (λ y. Kept m.new v y × Zeros one.built.draft y) (Zeros two.built.draft) (Related one) (λ y. do_steps o (r2.does.new ++ n.new) (y ∷ []))
          (λ y x k q. past y x q (condition_kept at.condition m.new v y outer k.0 ∙ on') (operand_kept (chosen_by s) m.new v y kept k.0 ∙ (its_bit ∙ holds')) k.1)
          (do_steps o m.new (z ∷ [])) (src (but_last t)) (all_and (Kept m.new v) (Zeros one.built.draft) (do_steps o m.new (z ∷ [])) (steps_keep o m.new z) zs) ends)
      pick false e =
          let fails : bit_of u.row (chosen_by s) ≡ false = sym (bit u t r) ∙ e in
          let off' : condition_holds v first.setting.condition ≡ false = here ∙ fails in
          let run1 : do_steps o m.new (z ∷ []) ≡ z ∷ [] = m.still z cl off' in
          let c2 : Clean one.built.draft v = clean2 v cl in
          let x : Row = after r2.does.new v in
          let on2 : condition_holds x second.setting.condition ≡ true = r2.does.gives v c2 on' ∙ (negated_bit v (chosen_by s) ∙ ap not (its_bit ∙ fails)) in
          let ag2 : Agree begins no_target x v = λ w lt i. grows_agree r2.does.grows v w (omega (arith, lt, up)) i in
          let a : AllShow x (drop_last s) (but_last t) = all_show_new begins x v (drop_last s) (but_last t) ag2 (known_drop (IsKnown begins) s gs.known) (record { env = related1.env; values = related1.values; callers = related1.callers }) in
          let related2 : Related second (with_row z x) (but_last t) = record {
            clean = grows_clean r2.does.grows v c2;
            env = a.env;
            values = a.values;
            callers = a.callers;
            eighths = r.eighths;
            halvings = r.halvings;
            measured = measures_grown one.built.draft second.built.draft r2.does.new r2.does.grows.steps (no_measures r2.does.new r2.does.all_x)
                ∙ (measures_grown first.built.draft one.built.draft m.new m.grown (m.told v cl off') ∙ measured1);
          } in
          subst (AllOf (Zeros two.built.draft)) (sym (head u ∙ (ap (do_steps o (r2.does.new ++ n.new)) run1 ∙ tail z)))
          (ih2 (with_row z x) (but_last t) related2 on2 (h2 e) (second_zero v zeros_one))

-- ---- effects

pub zero_flat : (o : Outcome) (e : Effect) (s : Flattening) → Good s → Fine e s → Done s → (new : List Step) → (flat e s).built.draft.steps ≡ s.built.draft.steps ++ new
    → (u : WireTerm) (t : Term) → Related s u t → forced s.setting u.row ≡ true → Holds o e t → Zeros s.built.draft u → AllOf (Zeros (flat e s).built.draft) (do_steps o new (u ∷ []))
zero_flat o nothing s g f d new grown u t r on h z =
    zero_spared o s s new u (record { passes = passes_same (zeroed s.built.draft) s.built.draft; known = d }) grown z
zero_flat o (a >> b) s g f d new grown u t r on h z =
    let s1 : Flattening = flat a s in
    let q : Goes s s1 = goes_flat a s g f.0 in
    let m : Leads o s s1 (follow o a) = leads_flat o a s g f.0 in
    let n : Leads o s1 (flat b s1) (follow o b) = leads_flat o b s1 q.good f.1 in
    let d1 : Done s1 = (settle a s g f.0 d).done in
    let parts : new ≡ m.new ++ n.new =
    same_new s.built.draft.steps new (m.new ++ n.new) (flat b s1).built.draft.steps grown (n.grown ∙ (ap (λ x. x ++ n.new) m.grown ∙ append_assoc s.built.draft.steps m.new n.new)) in
    let us : List WireTerm = do_steps o m.new (u ∷ []) in
    let zs : AllOf (Zeros s1.built.draft) us = zero_flat o a s g f.0 d m.new m.grown u t r on h.0 z in
    let both : ListBoth (λ y x. Related s1 y x × Holds o b x) us (follow o a t) = both_holding (Related s1) (Holds o b) us (follow o a t) (m.gives u t r on) h.1 in
    subst (AllOf (Zeros (flat b s1).built.draft)) (sym (ap (λ ss. do_steps o ss (u ∷ [])) parts ∙ (do_steps-append o m.new n.new (u ∷ []) ∙ steps-each o n.new us)))
    (each_all (λ y. Kept m.new u.row y × Zeros s1.built.draft y) (Zeros (flat b s1).built.draft) (λ y x. Related s1 y x × Holds o b x) (λ y. do_steps o n.new (y ∷ []))
    (λ y x k i. zero_flat o b s1 q.good f.1 d1 n.new n.grown y x i.0 (ap (λ at. forced at y.row) m.setting ∙ (condition_kept s.setting.condition m.new u.row y m.leaves k.0 ∙ on)) i.1 k.1)
    us (follow o a t) (all_and (Kept m.new u.row) (Zeros s1.built.draft) us (steps_keep o m.new u) zs) both)
zero_flat o (statement line e) s g f d new grown u t r on h z =
    zero_flat o e (on_line line (count_statement s)) (good_statement line s g) f (record { env = d.env; values = d.values; callers = d.callers }) new grown u t
    (related_to s (on_line line (count_statement s)) refl refl refl refl u t r) on h z
zero_flat o (step st) s g f d new grown u t r on h z = zero_spared o s (flat_step st s) new u (spared_step (zeroed s.built.draft) s (zeroed_low s.built.draft) g d st f) grown z
zero_flat o mix s g f d new grown u t r on h z = zero_spared o s (flat mix s) new u (spared_mix (zeroed s.built.draft) s (zeroed_low s.built.draft) g d f) grown z
zero_flat o measured s g f d new grown u t r on h z = zero_spared o s (flat measured s) new u (spared_measured (zeroed s.built.draft) s (zeroed_low s.built.draft) g d f) grown z
zero_flat o (claim line x) s g f d new grown u t r on h z = go (known_in s x) refl f grown
  where
    go : (k : Known) → known_in s x ≡ k → IsOf (λ v. IsOf (λ w. w.shape ≡ v.shape) (typed_like 0 (Shown v) (last s)) × (are_wires v.operands ≡ true) × MayChange (wires_in v.operands) s (without_name x s)) k → (without_name x (zero_variable k (last s) s)).built.draft.steps ≡ s.built.draft.steps ++ new → AllOf (Zeros (without_name x (zero_variable k (last s) s)).built.draft) (do_steps o new (u ∷ []))
    go (Static y) e p i = absurd p
    go (Lent a c v) e p i = absurd p
    go Absent e p i = absurd p
    go (Shown v) e p i = zero_shown o x s g v e p.0 p.1 p.2 d new i u t r on h z
zero_flat o (choice a b) s g f d new grown u t r on h z =
    let first : Flattening = first_branch s in
    let one : Flattening = flat a first in
    let second : Flattening = second_branch one s in
    let two : Flattening = flat b second in
    let p = goes_first s g in
    let q : Goes first one = goes_flat a first p.good f.1 in
    let k = goes_second s one g (later_then s.built.draft first.built.draft one.built.draft p.later q.later) in
    let m : Leads o first one (follow o a) = leads_flat o a first p.good f.1 in
    let n : Leads o second two (follow o b) = leads_flat o b second k.good f.2 in
    let d1 : Done first = (settles_first s one g q.good q.later.longer f.3.zeroed_first d).done in
    let d2 : Done second = second_done s one g q.good q.later.longer f.3.zeroed_first d in
    zero_choice o s one two (follow o a) (follow o b) g q.good (choice_bit s g f.0) m n
    (keeps_leaves (chosen_by s) first one m.new m.grown f.3.kept)
    (keeps_all s.setting.condition first one m.new m.grown f.3.outer_first)
    p.good.fresh k.good.fresh (zeroes_new first one f.3.zeroed_first) (zeroes_new second two f.3.zeroed_second) (Holds o a) (Holds o b)
    (λ y x i on2 h1 zs. zero_flat o a first p.good f.1 d1 m.new m.grown y x i on2 h1 zs)
    (λ y x i on2 h2 zs. zero_flat o b second k.good f.2 d2 n.new n.grown y x i on2 h2 zs)
    f.3.zeroed_first new grown u t r on h.0 h.1 z
