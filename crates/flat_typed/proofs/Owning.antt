-- What has an owner may be changed: nothing else names it.
use Rattle.std.proofs.Common.{◌≡◌, ℕ, suc, ◌≤◌, Bool, true, false, cond, not, ◌||◌, List, [], ◌∷◌, ◌++◌, drop, refl, sym, ap, ◌∙◌, subst, arith}
use Rattle.std.specs.Prelude.{Option, Some, None}
use Rattle.std.specs.List.{list_any}
use Rattle.std.proofs.lemmas.Bool.{eqb-true, eq-eqb}
use Rattle.silq_tree.specs.declared.node.NameId.{NameId}
use Rattle.silq_types.specs.declared.values.Part.{Part}
use Rattle.silq_types.specs.declared.values.Value.{Value}
use Rattle.silq_types.specs.declared.values.Var.{Var}
use Rattle.check_scope.specs.Context.{Context}
use Rattle.silq_mean.specs.Env.{Env}
use Rattle.flat_core.specs.declared.step.WireId.{WireId}
use Rattle.flat_core.specs.Form.{DraftForm}
use Rattle.flat_core.specs.Label.{same_wire}
use Rattle.bit_arith.specs.declared.operand.Operand.{Operand}
use Rattle.bit_arith.specs.declared.operand.Operand.TheVariants.{Const, Literal}
use Rattle.bit_arith.specs.Built.{under_condition}
use Rattle.bit_arith.specs.Calls.{Targets, among, no_target, AllSafe, IsTarget, AreTargets}
use Rattle.flat_form.specs.declared.known.Known.{Known}
use Rattle.flat_form.specs.declared.known.Known.TheVariants.{Absent}
use Rattle.flat_form.specs.State.{Caller, Flattening, drop_last, wires_in, wires_so_far}
use Rattle.flat_form.specs.Names.{AllOf, AllEnv, CallerOf, operands_in, named_by, names, Spares}
use Rattle.flat_form.specs.Fine.{Distinct, MayChange}
use Rattle.flat_form.specs.Good.{Good}
use Rattle.flat_typed.specs.Places.{Places, is_part, is_shared, has_wires, part_out, less_part, bits_for, shown, entries, in_order, times_in, holds, holders, owners_of}
use Rattle.flat_typed.specs.Footprint.{NoneNames}
use Rattle.flat_typed.specs.Relation.{Outside, Stands, Guards}
use Rattle.flat_typed.proofs.Ordered.{clash}

-- ---- how often operands name a wire

pub same_refl : (w : WireId) → same_wire w w ≡ true
same_refl w = eq-eqb w.number w.number refl

pub wire_is : (v w : WireId) → same_wire v w ≡ true → v ≡ w
wire_is v w e = ap (λ n. record { number = n }) (eqb-true v.number w.number e)

pub same_swap : (v w : WireId) → same_wire v w ≡ same_wire w v
same_swap v w = go (same_wire v w) refl (same_wire w v) refl
  where
    go : (a : Bool) → same_wire v w ≡ a → (b : Bool) → same_wire w v ≡ b → a ≡ b
    go true e true f = refl
    go false e false f = refl
    go true e false f = clash (sym (ap (λ x. same_wire x v) (sym (wire_is v w e)) ∙ same_refl v) ∙ f)
    go false e true f = clash (sym (ap (λ x. same_wire x w) (sym (wire_is w v f)) ∙ same_refl w) ∙ e)

pub no_times : (w : WireId) (ps : List Operand) → times_in w ps ≡ 0 → list_any (named_by w) ps ≡ false
no_times w [] e = refl
no_times w (p ∷ ps) e = go (named_by w p) e (no_times w ps)
  where
    go : (t : Bool) → cond t (suc (times_in w ps)) (times_in w ps) ≡ 0 → (times_in w ps ≡ 0 → list_any (named_by w) ps ≡ false) → (t || list_any (named_by w) ps) ≡ false
    go true e h = absurd (omega (arith, e))
    go false e h = h e

-- a wire among those of some operands is named by one
pub among_times : (w : WireId) (ps : List Operand) → among (wires_in ps) w ≡ true → 1 ≤ times_in w ps
among_times w [] e = clash (sym e)
among_times w (Const b ∷ ps) e = among_times w ps e
among_times w (Literal l ∷ ps) e = go (same_wire w l.wire) refl e (among_times w ps)
  where
    one : (t : Bool) → same_wire w l.wire ≡ t → cond (same_wire l.wire w) (suc (times_in w ps)) (times_in w ps) ≡ cond t (suc (times_in w ps)) (times_in w ps)
    one t s = ap (λ t. cond t (suc (times_in w ps)) (times_in w ps)) (same_swap l.wire w ∙ s)

    go : (t : Bool) → same_wire w l.wire ≡ t → (t || among (wires_in ps) w) ≡ true → (among (wires_in ps) w ≡ true → 1 ≤ times_in w ps) → 1 ≤ cond (same_wire l.wire w) (suc (times_in w ps)) (times_in w ps)
    go true s e h = let o = one true s in omega (arith, o)
    go false s e h = let i = h e in let o = one false s in omega (arith, i, o)

-- no wire twice
pub times_distinct : (ps : List Operand) → ((w : WireId) → times_in w ps ≤ 1) → Distinct (wires_in ps)
times_distinct [] h = tt
times_distinct (Const b ∷ ps) h = times_distinct ps h
times_distinct (Literal l ∷ ps) h = (first (among (wires_in ps) l.wire) refl, times_distinct ps (λ w. fewer w (same_wire l.wire w) (h w)))
  where
    fewer : (w : WireId) (t : Bool) → cond t (suc (times_in w ps)) (times_in w ps) ≤ 1 → times_in w ps ≤ 1
    fewer w true h = omega (arith, h)
    fewer w false h = h

    first : (t : Bool) → among (wires_in ps) l.wire ≡ t → t ≡ false
    first false e = refl
    first true e =
        let one : cond (same_wire l.wire l.wire) (suc (times_in l.wire ps)) (times_in l.wire ps) ≡ suc (times_in l.wire ps) = ap (λ t. cond t (suc (times_in l.wire ps)) (times_in l.wire ps)) (same_refl l.wire) in
        let more = among_times l.wire ps e in
        let most = h l.wire in
        absurd (omega (arith, one, more, most))

-- what holds of each wire that is named holds of the list of them
pub each_named : (P : WireId → Type 0) (ps : List Operand) → ((w : WireId) → 1 ≤ times_in w ps → P w) → AllOf P (wires_in ps)
each_named P [] h = tt
each_named P (Const b ∷ ps) h = each_named P ps h
each_named P (Literal l ∷ ps) h =
    let one : cond (same_wire l.wire l.wire) (suc (times_in l.wire ps)) (times_in l.wire ps) ≡ suc (times_in l.wire ps) = ap (λ t. cond t (suc (times_in l.wire ps)) (times_in l.wire ps)) (same_refl l.wire) in
    (h l.wire (omega (arith, one)), each_named P ps (λ w le. h w (still w (same_wire l.wire w) le)))
  where
    still : (w : WireId) (t : Bool) → 1 ≤ times_in w ps → 1 ≤ cond t (suc (times_in w ps)) (times_in w ps)
    still w true le = omega arith
    still w false le = le

pub all_targets : (d : DraftForm) (ws : List WireId) → AllOf (IsTarget d) ws → AreTargets d ws
all_targets d [] h = tt
all_targets d (w ∷ ws) h = (h.0, all_targets d ws h.1)

-- ---- what the names show

-- where no variable owns a wire, and none that shares wires names it, no name shows it
pub names_none : (W : Places) (all vs : List Var) (w : WireId) → holders W all w vs ≡ 0 → AllOf (λ v. is_shared v ≡ true → names (shown W all v) w ≡ false) vs → AllOf (λ (p : NameId × Known). names p.1 w ≡ false) (entries W all vs)
names_none W all [] w e h = tt
names_none W all (v ∷ vs) w e h = go (is_part v) refl (names_none W all vs w (omega (arith, e)) h.1)
  where
    at_consumed : (t : Bool) → v.consumed ≡ t → is_part v ≡ false → names (shown W all v) w ≡ false
    at_consumed true c p = ap (λ t. names (cond t Absent (less_part (part_out all v.part.name) (bits_for W v))) w) c
    at_consumed false c p = at_shared (is_shared v) refl
      where
        at_shared : (s : Bool) → is_shared v ≡ s → names (shown W all v) w ≡ false
        at_shared true s = h.0 s
        at_shared false s =
            let own : has_wires v ≡ true = ap (λ a. not ((a || is_part v) || is_shared v)) c ∙ (ap (λ a. not (a || is_shared v)) p ∙ ap (λ a. not a) s) in
            let here : holds W all w v ≡ times_in w (operands_in (shown W all v)) = ap (λ t. cond t (times_in w (operands_in (shown W all v))) 0) own in
            no_times w (operands_in (shown W all v)) (omega (arith, here, e))

    go : (t : Bool) → is_part v ≡ t → AllOf (λ (p : NameId × Known). names p.1 w ≡ false) (entries W all vs) → AllOf (λ (p : NameId × Known). names p.1 w ≡ false) (cond t (entries W all vs) ((v.part.name, shown W all v) ∷ entries W all vs))
    go true p i = i
    go false p i = (at_consumed v.consumed refl p, i)

pub all_front : {A : Type 0} (Q : A → Type 0) (xs ys : List A) → AllOf Q (xs ++ ys) → AllOf Q xs
all_front Q [] ys h = tt
all_front Q (x ∷ xs) ys h = (h.0, all_front Q xs ys h.1)

pub all_back : {A : Type 0} (Q : A → Type 0) (xs ys : List A) → AllOf Q (xs ++ ys) → AllOf Q ys
all_back Q [] ys h = h
all_back Q (x ∷ xs) ys h = all_back Q xs ys h.1

pub env_of_order : (Q : Known → Type 0) (env : Env Known) → AllOf (λ (p : NameId × Known). Q p.1) (in_order env) → AllEnv Q env
env_of_order Q [] h = tt
env_of_order Q (b ∷ bs) h = (all_back (λ (p : NameId × Known). Q p.1) (in_order bs) b h, env_of_order Q bs (all_front (λ (p : NameId × Known). Q p.1) (in_order bs) b h))

-- ---- for each wire of a set

pub all_each : {A : Type 0} (P : WireId → A → Type 0) (T : Targets) (xs : List A) → ((w : WireId) → T w ≡ true → AllOf (P w) xs) → AllOf (λ x. (w : WireId) → T w ≡ true → P w x) xs
all_each P T [] h = tt
all_each P T (x ∷ xs) h = (λ w t. (h w t).0, all_each P T xs (λ w t. (h w t).1))

pub env_each : (T : Targets) (env : Env Known) → ((w : WireId) → T w ≡ true → AllEnv (λ k. names k w ≡ false) env) → AllEnv (Spares T) env
env_each T [] h = tt
env_each T (b ∷ bs) h = (all_each (λ w (p : NameId × Known). names p.1 w ≡ false) T b (λ w t. (h w t).0), env_each T bs (λ w t. (h w t).1))

pub callers_each : (T : Targets) (cs : List Caller) → ((w : WireId) → T w ≡ true → AllOf (CallerOf (λ k. names k w ≡ false)) cs) → AllOf (CallerOf (Spares T)) cs
callers_each T [] h = tt
callers_each T (c ∷ cs) h =
    ((env_each T c.env (λ w t. (h w t).0.0), all_each (λ w k. names k w ≡ false) T c.values (λ w t. (h w t).0.1)), callers_each T cs (λ w t. (h w t).1))

-- ---- the condition in force

pub spares_guarded : (G : Targets) (ws : List WireId) (v : WireId) → AllOf (λ w. G w ≡ false) ws → G v ≡ true → among ws v ≡ false
spares_guarded G [] v h g = refl
spares_guarded G (w ∷ ws) v h g = go (same_wire v w) refl (spares_guarded G ws v h.1 g)
  where
    go : (t : Bool) → same_wire v w ≡ t → among ws v ≡ false → (t || among ws v) ≡ false
    go true e i = clash (sym g ∙ (ap G (wire_is v w e) ∙ h.0))
    go false e i = i

condition_safe : (n : ℕ) (G : Targets) (ws : List WireId) (c : Option Operand) → AllOf (λ w. G w ≡ false) ws → Guards G c → AllSafe n no_target (under_condition c []) → AllSafe n (among ws) (under_condition c [])
condition_safe n G ws None h g s = tt
condition_safe n G ws (Some (Const b)) h g s = (tt, tt)
condition_safe n G ws (Some (Literal l)) h g s = ((s.0.0, spares_guarded G ws l.wire h (g l.wire (same_refl l.wire))), tt)

-- ---- the law

-- a value that is handed on with wires of its own, as the last one, may be changed: whatever else is known names none of its wires
pub value_may_change : (out : Outside) (held : List (List Part)) (W : Places) (v : Value) (more : List Value) (c : Context) (s : Flattening) → Good s → Stands out held W (v ∷ more) c s → NoneNames (among (wires_in (W v.place))) (drop 1 s.values) → MayChange (wires_in (W v.place)) s (drop_last s)
value_may_change out held W v more c s g r lower = record {
  targets = all_targets s.built.draft (wires_in ps) (each_named (IsTarget s.built.draft) ps (λ w le. r.free w (owner w le)));
  distinct = times_distinct ps (λ w. let o = r.one w in omega (arith, o));
  condition = condition_safe (wires_so_far s) out.guarded (wires_in ps) s.setting.condition r.carried.0 r.guards g.condition;
  spared = record {
    env = env_each (among (wires_in ps)) s.env (λ w t. env_of_order (λ k. names k w ≡ false) s.env (subst (AllOf (λ (p : NameId × Known). names p.1 w ≡ false)) (sym r.env) (names_none W c.vars c.vars w (alone w (among_times w ps t)) (r.shared w (owner w (among_times w ps t))))));
    values = all_each (λ w k. names k w ≡ false) (among (wires_in ps)) (drop 1 s.values) lower;
    callers = callers_each (among (wires_in ps)) s.callers (λ w t. r.callers w (owner w (among_times w ps t)));
  };
}
  where
    ps : List Operand
    ps = W v.place

    owner : (w : WireId) → 1 ≤ times_in w ps → 1 ≤ owners_of W c.vars (v ∷ more) w
    owner w le = omega (arith, le)

    alone : (w : WireId) → 1 ≤ times_in w ps → holders W c.vars w c.vars ≡ 0
    alone w le = let o = r.one w in omega (arith, le, o)
