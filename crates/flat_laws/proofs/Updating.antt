-- Updates of variables, and what a variable is said to be equal to.
use Rattle.std.proofs.Common.{◌≡◌, ℕ, Bool, true, false, cond, ◌||◌, List, [], ◌∷◌, length, ℤ, refl, sym, ap, ◌∙◌, subst, arith}
use Rattle.silq_tree.specs.declared.node.NameId.{NameId}
use Rattle.silq_tree.specs.declared.node.UpdateOp.{UpdateOp}
use Rattle.silq_types.specs.declared.types.Shape.{Shape}
use Rattle.silq_types.specs.Types.{same_name, shape_bits}
use Rattle.silq_types.specs.declared.need.Need.TheVariants.{Held}
use Rattle.silq_mean.specs.Env.{Env, Block, is_in_block, in_block, found, is_in_reach, block_with, in_its_block}
use Rattle.silq_mean.specs.Value.{Value, gone, part, with_part, update_typed, updated, typed_like as value_like}
use Rattle.silq_mean.specs.Term.{Term, value_of, last as last_value, update_part}
use Rattle.silq_mean.specs.Effect.{Outcome, step, follow, update_to}
use Rattle.flat_core.specs.declared.step.WireId.{WireId}
use Rattle.flat_core.specs.declared.step.End.{End}
use Rattle.flat_core.specs.declared.step.End.TheVariants.{Zeroed}
use Rattle.flat_core.specs.Form.{DraftForm}
use Rattle.flat_core.specs.Sound.{count_measures}
use Rattle.flat_mean.specs.Row.{Row}
use Rattle.flat_mean.specs.Terms.{do_steps}
use Rattle.bit_arith.specs.declared.operand.Operand.{Operand}
use Rattle.bit_arith.specs.Built.{Built, all_made}
use Rattle.bit_arith.specs.Rows.{flip_each}
use Rattle.bit_arith.specs.Calls.{Targets, among, AreTargets}
use Rattle.bit_arith.specs.Values.{bits_at, values_at}
use Rattle.bit_arith.specs.Does.{Fresh, Does, Below, Different}
use Rattle.bit_arith.proofs.Steps.{clash}
use Rattle.bit_arith.proofs.Doing.{does_fresh, does_grown}
use Rattle.bit_arith.proofs.Listed.{below_more}
use Rattle.bit_arith.specs.Values.{flip_bits}
use Rattle.bit_arith.proofs.Making.{bits_made, flip_each_does}
use Rattle.flat_form.specs.declared.known.TypedBits.{TypedBits}
use Rattle.flat_form.specs.declared.known.Known.{Known}
use Rattle.flat_form.specs.declared.known.Known.TheVariants.{Static, Shown, Lent, Absent}
use Rattle.flat_form.specs.State.{Flattening, last, drop_last, build, operands_of, typed_as, typed_like, part_shape, part_start, part_of, are_wires, wires_in}
use Rattle.flat_form.specs.Flat.{flat, without_name, known_in, part_used, update_by, update_variable, zero_variable, end_all}
use Rattle.flat_form.specs.Names.{AllKnown, Spares}
use Rattle.flat_form.specs.Good.{Good, IsKnown}
use Rattle.flat_form.specs.Fine.{FitsIndex, Distinct, IsOf, MayChange, IsUpdated, UpdatesPart, MayUpdate, MayClaim, without_part}
use Rattle.flat_form.specs.Shows.{Shows, Related}
use Rattle.flat_form.proofs.Both.{both_drop, both_weak, found_both, bound_right, reach_found}
use Rattle.flat_form.proofs.Kept.{known_last, known_name, known_its, shows_after, AllShow, related_shows, all_show_after, all_show_its}
use Rattle.flat_form.proofs.Later.{end_all_input, Later, later_blank, later_end_all}
use Rattle.flat_form.proofs.Giving.{typed_as_known, typed_like_known, typed_as_safe, typed_like_safe, size_of, length-part, wires_part, length-in}
use Rattle.flat_form.proofs.Bits.{IsThere}
use Rattle.flat_laws.proofs.OperatorRows.{update_does}
use Rattle.flat_laws.proofs.Operators.{UpdateBits, HasBits}
use Rattle.flat_laws.proofs.Showing.{shows_as_like, shows_part, shows_lent, shows_back, updates_give}
use Rattle.flat_laws.proofs.Compose.{Leads}
use Rattle.flat_laws.proofs.Rows.{leads_row}
use Rattle.flat_laws.proofs.Taking.{wires_are, last_shows}
use Rattle.flat_laws.proofs.Measuring.{ends_steps}
use Rattle.flat_laws.proofs.Naming.{is_there}

-- ---- wires that may be changed

targets_below : (d : DraftForm) (ws : List WireId) → AreTargets d ws → Below (length d.wires) ws
targets_below d [] h = tt
targets_below d (w ∷ ws) h = (h.0.0, targets_below d ws h.1)

distinct_different : (ws : List WireId) → Distinct ws → Different ws
distinct_different [] h = tt
distinct_different (w ∷ ws) h = (h.0, distinct_different ws h.1)

absent_spared : (T : Targets) → Spares T Absent
absent_spared T w t = refl

-- ---- a variable in its block

block_in : (vs : Block Known) (x : NameId) (a : Known) → is_in_block vs x ≡ true → is_in_block (block_with vs x a) x ≡ true
block_in [] x a h = cc
block_in (v ∷ vs) x a h = pick (same_name v.0 x) refl h (block_in vs x a)
  where
    pick : (t : Bool) → same_name v.0 x ≡ t → t || is_in_block vs x ≡ true → (is_in_block vs x ≡ true → is_in_block (block_with vs x a) x ≡ true) → is_in_block (cond t ((v.0, a) ∷ vs) (v ∷ block_with vs x a)) x ≡ true
    pick true e k ih = ap (λ b. b || is_in_block vs x) e
    pick false e k ih = ap (λ b. b || is_in_block (block_with vs x a) x) e ∙ ih k

block_found : (vs : Block Known) (x : NameId) (a d : Known) → is_in_block vs x ≡ true → in_block d (block_with vs x a) x ≡ a
block_found [] x a d h = cc
block_found (v ∷ vs) x a d h = pick (same_name v.0 x) refl h (block_found vs x a d)
  where
    pick : (t : Bool) → same_name v.0 x ≡ t → t || is_in_block vs x ≡ true → (is_in_block vs x ≡ true → in_block d (block_with vs x a) x ≡ a) → in_block d (cond t ((v.0, a) ∷ vs) (v ∷ block_with vs x a)) x ≡ a
    pick true e k ih = ap (λ b. cond b a (in_block d vs x)) e
    pick false e k ih = ap (λ b. cond b v.1 (in_block d (block_with vs x a) x)) e ∙ ih k

found_its : (env : Env Known) (x : NameId) (a d : Known) → is_in_reach env x ≡ true → found d (in_its_block env x a) x ≡ a
found_its [] x a d h = cc
found_its (b ∷ bs) x a d h = pick (is_in_block b x) refl h (found_its bs x a d)
  where
    pick : (t : Bool) → is_in_block b x ≡ t → t || is_in_reach bs x ≡ true → (is_in_reach bs x ≡ true → found d (in_its_block bs x a) x ≡ a) → found d (cond t (block_with b x a ∷ bs) (b ∷ in_its_block bs x a)) x ≡ a
    pick true e k ih = ap (λ c. cond c (in_block d (block_with b x a) x) (found d bs x)) (block_in b x a e) ∙ block_found b x a d e
    pick false e k ih = ap (λ c. cond c (in_block d b x) (found d (in_its_block bs x a) x)) e ∙ ih k

not_absent : (v : TypedBits) → Shown v ≡ Absent → ⊥
not_absent v e = clash (sym (ap is_shown e))
  where
    is_shown : Known → Bool
    is_shown (Shown v) = true
    is_shown (Static z) = true
    is_shown (Lent a b v) = true
    is_shown Absent = false

reach_shown : (s : Flattening) (x : NameId) (v : TypedBits) → known_in s x ≡ Shown v → is_in_reach s.env x ≡ true
reach_shown s x v e = reach_found s.env x Absent (λ f. not_absent v (sym e ∙ f))

-- ---- updates

-- the bits of the part after the update
update_bits : (x : Row) (op : UpdateOp) (sh : Shape) (k : Known) (xs zs : List Bool) (p y : Value) → IsOf (λ w. w.shape ≡ sh) k → IsUpdated op sh → HasBits sh p xs → Shows x k y → UpdateBits op xs (bits_at x (operands_of k)) zs → HasBits sh (update_typed op p y) zs
update_bits x op sh (Static z) xs zs p y f i h g q = absurd f
update_bits x op sh (Lent a c v) xs zs p y f i h g q = absurd f
update_bits x op sh Absent xs zs p y f i h g q = absurd f
update_bits x op sh (Shown b) xs zs p y f i h g q = updates_give x op sh b xs zs p y f i h g q

pub leads_update_to : (o : Outcome) (x : NameId) (is : List ℤ) (op : UpdateOp) (s : Flattening) → Good s → MayUpdate x is op s → FitsIndex is (known_in s x) → Leads o s (flat (step (update_to x is op)) s) (follow o (step (update_to x is op)))
leads_update_to o x is op s g may fit = go (known_in s x) refl may fit (known_name (IsKnown (length s.built.draft.wires)) s x tt g.known)
  where
    go : (k : Known) → known_in s x ≡ k → IsOf (UpdatesPart x is op s) k → FitsIndex is k → IsKnown (length s.built.draft.wires) k → Leads o s (drop_last (update_variable k is op (last s) s)) (λ t. update_part x is op t ∷ [])
    go (Static z) e p f q = absurd p
    go (Lent a c v) e p f q = absurd p
    go Absent e p f q = absurd p
    go (Shown v) e p f q =
        let n : ℕ = length s.built.draft.wires in
        let sh : Shape = part_shape v.shape is in
        let ps : List Operand = part_of v.shape is v.operands in
        let ws : List WireId = wires_in ps in
        let ops : List Operand = operands_of (typed_as 0 sh (last s)) in
        let b : Built = update_by op s.setting ws ops s.built in
        let T : Targets = among ws in
        let m : MayChange ws s (without_part x is v s) = p.change in
        let are : are_wires ps ≡ true = wires_part v is p.wires in
        let made : ps ≡ all_made ws = wires_are ps are in
        let last_known : IsKnown n (last s) = known_last (IsKnown n) s tt g.known in
        let last_spared : Spares T (last s) = known_last (Spares T) (without_part x is v s) (absent_spared T) m.spared in
        let size : length ws ≡ length ops = length-in ps are ∙ (length-part v is p.there ∙ sym (size_of n sh (typed_as 0 sh (last s)) (typed_as_known n 0 sh (last s) last_known) p.operand)) in
        let r : Does s.setting s.built.draft b.draft T (λ y z. UpdateBits op (values_at y ws) (bits_at y ops) (values_at z ws)) =
        update_does op s.setting ws ops s.built g.fresh size (targets_below s.built.draft ws m.targets) (distinct_different ws m.distinct) m.condition (typed_as_safe n 0 T sh (last s) last_known last_spared) in
        let out : Known = Lent (part_start v.shape is) (shape_bits sh) v in
        let reach : is_in_reach s.env x ≡ true = reach_shown s x v e in
        let there : IsThere v.shape is = is_there n v is q p.there f in
        let known : AllKnown (IsKnown n) (without_part x is v s) = known_its (IsKnown n) x out s q g.known in
        let out_spared : Spares T out = subst (Spares T) (found_its s.env x out Absent reach) (known_name (Spares T) (without_part x is v s) x (absent_spared T) m.spared) in
        leads_row o s (drop_last (build b s)) T (λ y z. UpdateBits op (values_at y ws) (bits_at y ops) (values_at z ws)) (update_part x is op) r m.condition refl (λ t. (refl, refl, refl))
        (λ u t y re ag t'.
        let old : Value = value_of t.env x in
        let was : Shows u.row (Shown v) old = subst (λ k. Shows u.row k old) e (found_both (Shows u.row) Absent gone tt s.env t.env x re.env) in
        let lends : Shows u.row out old = shows_lent u.row (part_start v.shape is) (shape_bits sh) v old was in
        let a : AllShow y (without_part x is v s) t = all_show_after n T y u.row (without_part x is v s) t ag known m.spared (all_show_its u.row x out s t lends (related_shows s u t re)) in
        let lends' : Shows y out old = shows_after n T y u.row ag out old (q, out_spared) lends in
        let bits : (z : Row) → bits_at z ps ≡ values_at z ws = λ z. ap (bits_at z) made ∙ bits_made z ws in
        let its : Shows u.row (part_used 0 Held is v) (part old is) = shows_part u.row 0 Held is v old there was in
        let right : Shows u.row (typed_as 0 sh (last s)) (value_like (part old is) (last_value t)) = shows_as_like u.row 0 sh (part old is) (last s) (last_value t) its.0 (last_shows u.row s.values t.values re.values) in
        let new : HasBits sh (updated op (part old is) (last_value t)) (values_at y ws) =
        update_bits u.row op sh (typed_as 0 sh (last s)) (values_at u.row ws) (values_at y ws) (part old is) (value_like (part old is) (last_value t)) p.operand p.allowed (its.0, sym (bits u.row) ∙ its.1) right t' in
        let back : Shows y (Shown v) (with_part old is (updated op (part old is) (last_value t))) = shows_back y is v old (updated op (part old is) (last_value t)) q.size there (new.0, bits y ∙ new.1) lends' in
        record {
          env = bound_right (Shows y) out Absent (with_part old is (updated op (part old is) (last_value t))) s.env t.env x a.env reach (subst (λ k. Shows y k (with_part old is (updated op (part old is) (last_value t)))) (sym e) back);
          values = both_drop (Shows y) s.values t.values a.values;
          callers = a.callers;
        })

-- ---- ends of wires

pub leads_ends : (o : Outcome) (s e : Flattening) (ending : End) (ws : List WireId) (src : Term → List Term) → Fresh e.built.draft → Below (length e.built.draft.wires) ws → Leads o s e src → Leads o s (build (end_all ending ws e.built) e) src
leads_ends o s e ending ws src f below m =
    let b : Built = end_all ending ws e.built in
    let l : Later e.built.draft b.draft = later_end_all ending ws e.built below in
    let same : b.draft.steps ≡ e.built.draft.steps = ends_steps ending ws e.built in
    record {
      new = m.new;
      grown = same ∙ m.grown;
      wires = omega (arith, m.wires, l.longer);
      setting = m.setting;
      inputs = λ w. end_all_input ending ws e.built w below ∙ m.inputs w;
      blanks = λ w h. m.blanks w (later_blank e.built.draft b.draft l f w h).0;
      leaves = m.leaves;
      told = m.told;
      still = m.still;
      gives = λ u t r on.
          both_weak (Related e) (Related (build b e))
          (λ z y q. record {
            clean = λ w h. q.clean w (later_blank e.built.draft b.draft l f w h).0;
            env = q.env;
            values = q.values;
            callers = q.callers;
            eighths = q.eighths;
            halvings = q.halvings;
            measured = ap count_measures same ∙ q.measured;
          }) (do_steps o m.new (u ∷ [])) (src t) (m.gives u t r on);
    }

-- ---- claims

pub leads_claim : (o : Outcome) (x : NameId) (s : Flattening) → Good s → MayClaim x s → Leads o s (without_name x (zero_variable (known_in s x) (last s) s)) (λ t. t ∷ [])
leads_claim o x s g may = go (known_in s x) refl may (known_name (IsKnown (length s.built.draft.wires)) s x tt g.known)
  where
    go : (k : Known) → known_in s x ≡ k → IsOf (λ v. IsOf (λ w. w.shape ≡ v.shape) (typed_like 0 (Shown v) (last s)) × (are_wires v.operands ≡ true) × MayChange (wires_in v.operands) s (record s { env = in_its_block s.env x Absent })) k → IsKnown (length s.built.draft.wires) k → Leads o s (without_name x (zero_variable k (last s) s)) (λ t. t ∷ [])
    go (Static z) e p q = absurd p
    go (Lent a c v) e p q = absurd p
    go Absent e p q = absurd p
    go (Shown v) e p q =
        let n : ℕ = length s.built.draft.wires in
        let ws : List WireId = wires_in v.operands in
        let like : Known = typed_like 0 (Shown v) (last s) in
        let ops : List Operand = operands_of like in
        let b : Built = flip_each s.setting ws ops s.built in
        let T : Targets = among ws in
        let m : MayChange ws s (without_name x s) = p.2 in
        let last_known : IsKnown n (last s) = known_last (IsKnown n) s tt g.known in
        let last_spared : Spares T (last s) = known_last (Spares T) (without_name x s) (absent_spared T) m.spared in
        let size : length ws ≡ length ops = length-in v.operands p.1 ∙ (q.size ∙ sym (size_of n v.shape like (typed_like_known n 0 (Shown v) (last s) last_known) p.0)) in
        let below : Below n ws = targets_below s.built.draft ws m.targets in
        let r : Does s.setting s.built.draft b.draft T (λ y z. values_at z ws ≡ flip_bits (values_at y ws) (bits_at y ops)) =
        flip_each_does s.setting ws ops s.built g.fresh size below (distinct_different ws m.distinct) m.condition (typed_like_safe n 0 T (Shown v) (last s) last_known last_spared) in
        let known : AllKnown (IsKnown n) (without_name x s) = known_its (IsKnown n) x Absent s tt g.known in
        let e1 : Flattening = without_name x (build b s) in
        leads_ends o s e1 Zeroed ws (λ t. t ∷ []) (does_fresh r g.fresh) (below_more n (length b.draft.wires) ws (does_grown r) below)
        (leads_row o s e1 T (λ y z. values_at z ws ≡ flip_bits (values_at y ws) (bits_at y ops)) (λ t. t) r m.condition refl (λ t. (refl, refl, refl))
        (λ u t y re ag t'.
        let a : AllShow y (without_name x s) t = all_show_after n T y u.row (without_name x s) t ag known m.spared (all_show_its u.row x Absent s t tt (related_shows s u t re)) in
        record { env = a.env; values = a.values; callers = a.callers }))
