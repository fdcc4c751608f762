-- What a value without wires of its own may keep: wires that its expression made, which nothing else names.
use Rattle.std.proofs.Common.{◌≡◌, ◌⊎◌, inl, inr, ℕ, suc, ◌≤◌, ◌<◌, Bool, true, false, cond, not, ◌&&◌, List, [], ◌∷◌, drop, refl, sym, subst, arith}
use Rattle.std.specs.Prelude.{Option, Some, None, nat_le}
use Rattle.std.proofs.lemmas.Bool.{cases_lt, leb-true}
use Rattle.flat_core.specs.declared.step.WireId.{WireId}
use Rattle.flat_core.specs.Form.{DraftForm}
use Rattle.flat_core.specs.Label.{same_wire}
use Rattle.flat_core.specs.Drafts.{is_measured}
use Rattle.bit_arith.specs.declared.operand.Operand.{Operand}
use Rattle.bit_arith.specs.declared.operand.Operand.TheVariants.{Const, Literal}
use Rattle.bit_arith.specs.Built.{under_condition}
use Rattle.bit_arith.specs.Calls.{AllSafe, no_target, among, IsTarget}
use Rattle.flat_form.specs.declared.known.TypedBits.{TypedBits}
use Rattle.flat_form.specs.State.{Flattening, drop_last, wires_so_far, wires_in, are_new}
use Rattle.flat_form.specs.Names.{AllOf, AllEnv, CallerOf, names}
use Rattle.flat_form.specs.Fine.{MayChange}
use Rattle.flat_typed.specs.Places.{times_in}
use Rattle.flat_typed.proofs.Ordered.{clash}
use Rattle.flat_typed.proofs.Owning.{wire_is, among_times, times_distinct, each_named, all_targets, all_each, env_each, callers_each}

ands : (a b c d : Bool) → (a && (b && (not c && d))) ≡ true → ((b ≡ true) × (c ≡ false)) × (d ≡ true)
ands true true false d e = ((refl, refl), e)
ands true true true d e = clash (sym e)
ands true false c d e = clash (sym e)
ands false b c d e = clash (sym e)

-- operands that are new are numbered from there on, and not measured
pub new_named : (d : DraftForm) (n : ℕ) (ps : List Operand) → are_new d n ps ≡ true → (w : WireId) → 1 ≤ times_in w ps → (n ≤ w.number) × (is_measured d.steps w ≡ false)
new_named d n [] e w le = absurd (omega (arith, le))
new_named d n (Const b ∷ ps) e w le = clash (sym e)
new_named d n (Literal l ∷ ps) e w le = go (same_wire l.wire w) refl le (new_named d n ps (ands l.positive (nat_le n l.wire.number) (is_measured d.steps l.wire) (are_new d n ps) e).1 w)
  where
    all : ((nat_le n l.wire.number ≡ true) × (is_measured d.steps l.wire ≡ false)) × (are_new d n ps ≡ true)
    all = ands l.positive (nat_le n l.wire.number) (is_measured d.steps l.wire) (are_new d n ps) e

    go : (t : Bool) → same_wire l.wire w ≡ t → 1 ≤ cond t (suc (times_in w ps)) (times_in w ps) → (1 ≤ times_in w ps → (n ≤ w.number) × (is_measured d.steps w ≡ false)) → (n ≤ w.number) × (is_measured d.steps w ≡ false)
    go true f le i = subst (λ (x : WireId). (n ≤ x.number) × (is_measured d.steps x ≡ false)) (wire_is l.wire w f) (leb-true n l.wire.number all.0.0, all.0.1)
    go false f le i = i le

-- operands of the first n wires are none of those
none_among : (n : ℕ) (ps : List Operand) → ((w : WireId) → 1 ≤ times_in w ps → n ≤ w.number) → (v : WireId) → v.number < n → among (wires_in ps) v ≡ false
none_among n ps h v lt = go (among (wires_in ps) v) refl
  where
    go : (t : Bool) → among (wires_in ps) v ≡ t → t ≡ false
    go false e = refl
    go true e = let a = h v (among_times v ps e) in absurd (omega (arith, a, lt))

condition_new : (n m : ℕ) (ps : List Operand) (c : Option Operand) → n ≤ m → ((w : WireId) → 1 ≤ times_in w ps → n ≤ w.number) → AllSafe n no_target (under_condition c []) → AllSafe m (among (wires_in ps)) (under_condition c [])
condition_new n m ps None le h s = tt
condition_new n m ps (Some (Const b)) le h s = (tt, tt)
condition_new n m ps (Some (Literal l)) le h s = ((let a = s.0.0 in omega (arith, a, le), none_among n ps h l.wire s.0.0), tt)

-- what all else knows, but for the last value, are wires before the n-th
pub record KnowsBefore (n : ℕ) (s : Flattening) : Type 0 where
  pub env : (w : WireId) → n ≤ w.number → AllEnv (λ k. names k w ≡ false) s.env
  pub values : (w : WireId) → n ≤ w.number → AllOf (λ k. names k w ≡ false) (drop 1 s.values)
  pub callers : (w : WireId) → n ≤ w.number → AllOf (CallerOf (λ k. names k w ≡ false)) s.callers
  pub condition : AllSafe n no_target (under_condition s.setting.condition [])

-- a value that keeps what its expression made, from the n-th wire on, may be changed
pub fresh_may_change : (n : ℕ) (v : TypedBits) (s : Flattening) → KnowsBefore n s → n ≤ wires_so_far s → n ≤ v.began → are_new s.built.draft v.began v.operands ≡ true
    → ((w : WireId) → n ≤ w.number → times_in w v.operands ≤ 1) → ((w : WireId) → 1 ≤ times_in w v.operands → w.number < wires_so_far s)
    → MayChange (wires_in v.operands) s (drop_last s)
fresh_may_change n v s k grown began new differ there = record {
  targets = all_targets s.built.draft (wires_in v.operands) (each_named (IsTarget s.built.draft) v.operands (λ w le. (there w le, (new_named s.built.draft v.began v.operands new w le).1)));
  distinct = times_distinct v.operands (λ w. once w (cases_lt w.number n));
  condition = condition_new n (wires_so_far s) v.operands s.setting.condition grown from k.condition;
  spared = record {
    env = env_each (among (wires_in v.operands)) s.env (λ w t. k.env w (from w (among_times w v.operands t)));
    values = all_each (λ w k. names k w ≡ false) (among (wires_in v.operands)) (drop 1 s.values) (λ w t. k.values w (from w (among_times w v.operands t)));
    callers = callers_each (among (wires_in v.operands)) s.callers (λ w t. k.callers w (from w (among_times w v.operands t)));
  };
}
  where
    from : (w : WireId) → 1 ≤ times_in w v.operands → n ≤ w.number
    from w le = let a = (new_named s.built.draft v.began v.operands new w le).0 in omega (arith, a, began)

    once : (w : WireId) → (w.number < n) ⊎ (n ≤ w.number) → times_in w v.operands ≤ 1
    once w (inr le) = differ w le
    once w (inl lt) = few (cases_lt 1 (times_in w v.operands))
      where
        few : (1 < times_in w v.operands) ⊎ (times_in w v.operands ≤ 1) → times_in w v.operands ≤ 1
        few (inr le) = le
        few (inl more) = let a = from w (omega (arith, more)) in absurd (omega (arith, a, lt))
