-- Steps that change none of some wires, after which nothing that is known names one of them.
use Rattle.std.proofs.Common.{◌≡◌, ℕ, zero, suc, ◌+◌, ◌-◌, ◌≤◌, ◌<◌, Bool, true, false, ◌||◌, List, [], ◌∷◌, ◌++◌, length, take, drop, refl, sym, ap, ◌∙◌, subst, arith, length-set, get_or-set_same, get_or-set_other, slice_set, ◌⊎◌, inl, inr}
use Rattle.std.specs.Prelude.{get_or}
use Rattle.std.specs.List.{list_any}
use Rattle.std.proofs.lemmas.Bool.{eqb-true, eq-eqb, cases_Bool, cases_lt, cases_eq}
use Rattle.std.proofs.lemmas.List.{get_or_past, get_or_append_left, drop-drop, drop-take, take-take}
use Rattle.flat_core.specs.declared.step.Step.{Step}
use Rattle.flat_core.specs.declared.step.WireId.{WireId}
use Rattle.flat_core.specs.declared.step.End.{End}
use Rattle.flat_core.specs.declared.step.End.TheVariants.{Output, Dropped, Measured, Zeroed}
use Rattle.flat_core.specs.Form.{DraftForm, WireForm}
use Rattle.flat_core.specs.Label.{same_wire, label_after, wire_in, no_wire}
use Rattle.flat_core.specs.Drafts.{with_end}
use Rattle.bit_arith.specs.declared.operand.Operand.{Operand}
use Rattle.bit_arith.specs.declared.operand.Operand.TheVariants.{Const, Literal}
use Rattle.bit_arith.specs.Built.{Built}
use Rattle.bit_arith.specs.Calls.{Targets, no_target, among, AllSafe}
use Rattle.bit_arith.specs.Does.{dropped_wires, Grows, NoneNew, Below}
use Rattle.bit_arith.proofs.Steps.{label-append, or_false, clash}
use Rattle.bit_arith.proofs.Listed.{same_wire_swap, below_more}
use Rattle.bit_arith.proofs.Tests.{safe_left, safe_right}
use Rattle.flat_form.specs.State.{outside, wires_in}
use Rattle.flat_form.specs.Flat.{end_all}
use Rattle.flat_form.specs.Names.{named_by}
use Rattle.flat_form.proofs.Kept.{safe_spared, safe_outside, safe_take, safe_drop}
use Rattle.flat_form.proofs.Later.{end_all_steps}

-- ---- wires that end as Zeroed

abbrev pub is_zeroed : End → Bool
is_zeroed Output = false
is_zeroed Dropped = false
is_zeroed Measured = false
is_zeroed Zeroed = true

abbrev pub zeroed : DraftForm → Targets
zeroed d w = is_zeroed (wire_in d.wires w).ending

pub zeroed_end : (e : End) → is_zeroed e ≡ true → e ≡ Zeroed
zeroed_end Output h = absurd (clash h)
zeroed_end Dropped h = absurd (clash h)
zeroed_end Measured h = absurd (clash h)
zeroed_end Zeroed h = refl

-- the wires of a set are there
abbrev pub Low : Targets → DraftForm → Type 0
Low T d = (w : WireId) → T w ≡ true → w.number < length d.wires

pub zeroed_low : (d : DraftForm) → Low (zeroed d) d
zeroed_low d w z = elim (cases_lt w.number (length d.wires)) [
  | inl lt ↦ lt
  | inr le ↦ absurd (clash (sym (ap (λ (r : WireForm). is_zeroed r.ending) (get_or_past d.wires w.number no_wire le)) ∙ z))
]

pub none_new : (T : Targets) (d : DraftForm) → Low T d → NoneNew d T
none_new T d low w le = elim (cases_Bool (T w)) [
  | inl t ↦ (let lt = low w t in absurd (omega (arith, lt, le)))
  | inr f ↦ f
]

-- ---- drafts that grow

-- no step changes a wire of the set, and no wire comes to end as Zeroed
pub record Passes (T : Targets) (d e : DraftForm) : Type 0 where
  pub keeps : (w : WireId) → T w ≡ true → label_after e.steps w ≡ label_after d.steps w
  pub ends : (w : WireId) → zeroed e w ≡ true → zeroed d w ≡ true

pub passes_same : (T : Targets) (d : DraftForm) → Passes T d d
passes_same T d = record { keeps = λ w t. refl; ends = λ w z. z }

pub passes_then : (T : Targets) (d e f : DraftForm) → Passes T d e → Passes T e f → Passes T d f
passes_then T d e f p q = record { keeps = λ w t. q.keeps w t ∙ p.keeps w t; ends = λ w z. p.ends w (q.ends w z) }

plus_none : (a b : ℕ) → b ≡ 0 → a + b ≡ a
plus_none a b e = omega (arith, e)

none_dropped : (n k : ℕ) → is_zeroed (get_or (dropped_wires n) k no_wire).ending ≡ false
none_dropped zero k = refl
none_dropped (suc n) zero = refl
none_dropped (suc n) (suc k) = none_dropped n k

none_past : (ws : List WireForm) (n k : ℕ) → length ws ≤ k → is_zeroed (get_or (ws ++ dropped_wires n) k no_wire).ending ≡ false
none_past [] n k le = none_dropped n k
none_past (w ∷ ws) n zero le = absurd (omega (arith, le))
none_past (w ∷ ws) n (suc k) le = none_past ws n k (omega (arith, le))

pub ends_grows : {d e : DraftForm} {U : Targets} {new : List Step} → Grows d e U new → (w : WireId) → zeroed e w ≡ true → zeroed d w ≡ true
ends_grows {d = d} {e = e} g w z =
    let all : zeroed e w ≡ is_zeroed (get_or (d.wires ++ dropped_wires g.more) w.number no_wire).ending = ap (λ ws. is_zeroed (wire_in ws w).ending) g.wires in
    elim (cases_lt w.number (length d.wires)) [
      | inl lt ↦ sym (all ∙ ap (λ (r : WireForm). is_zeroed r.ending) (get_or_append_left d.wires (dropped_wires g.more) no_wire w.number lt)) ∙ z
      | inr le ↦ absurd (clash (sym (none_past d.wires g.more w.number le) ∙ (sym all ∙ z)))
    ]

pub passes_grows : {d e : DraftForm} {U : Targets} {new : List Step} (T : Targets) → Grows d e U new → Low T d → ((w : WireId) → T w ≡ true → U w ≡ false) → Passes T d e
passes_grows {d = d} {e = e} {new = new} T g low off = record {
  keeps = λ w t.
      ap (λ ss. label_after ss w) g.steps
      ∙ (label-append d.steps new w ∙ plus_none (label_after d.steps w) (label_after new w) (g.spares w (low w t) (off w t)));
  ends = λ w z. ends_grows g w z;
}

-- ---- ends

end_one : (d : DraftForm) (v : WireId) (ending : End) (w : WireId) → v.number < length d.wires → zeroed (with_end d v ending) w ≡ true → (zeroed d w ≡ true) ⊎ ((same_wire w v ≡ true) × (is_zeroed ending ≡ true))
end_one d v ending w lt z =
    let r : WireForm = record { input = (wire_in d.wires v).input; ending = ending } in
    elim (cases_eq w.number v.number) [
      | inl e ↦ inr (
        eq-eqb w.number v.number e,
        sym (ap (λ (n : ℕ). is_zeroed (get_or (slice_set d.wires v.number r) n no_wire).ending) e ∙ ap (λ (x : WireForm). is_zeroed x.ending) (get_or-set_same d.wires v.number r no_wire lt)) ∙ z,
      )
      | inr f ↦ inl (sym (ap (λ (x : WireForm). is_zeroed x.ending) (get_or-set_other d.wires v.number w.number r no_wire f)) ∙ z)
    ]

any_front : (a b : Bool) → a ≡ true → a || b ≡ true
any_front a b e = ap (λ x. x || b) e

any_rest : (a b : Bool) → b ≡ true → a || b ≡ true
any_rest true b e = refl
any_rest false b e = e

pub end_all_zeroed : (ending : End) (ws : List WireId) (b : Built) (w : WireId) → Below (length b.draft.wires) ws → zeroed (end_all ending ws b).draft w ≡ true → (zeroed b.draft w ≡ true) ⊎ ((among ws w ≡ true) × (is_zeroed ending ≡ true))
end_all_zeroed ending [] b w h z = inl z
end_all_zeroed ending (v ∷ ws) b w h z =
    let b1 : Built = record b { draft = with_end b.draft v ending } in
    let same : length b1.draft.wires ≡ length b.draft.wires = length-set b.draft.wires v.number (record { input = (wire_in b.draft.wires v).input; ending = ending }) in
    first (end_all_zeroed ending ws b1 w (below_more (length b.draft.wires) (length b1.draft.wires) ws (omega (arith, same)) h.1) z)
  where
    second : (zeroed b.draft w ≡ true) ⊎ ((same_wire w v ≡ true) × (is_zeroed ending ≡ true)) → (zeroed b.draft w ≡ true) ⊎ ((among (v ∷ ws) w ≡ true) × (is_zeroed ending ≡ true))
    second (inl y) = inl y
    second (inr y) = inr (any_front (same_wire w v) (among ws w) y.0, y.1)

    first : (zeroed (with_end b.draft v ending) w ≡ true) ⊎ ((among ws w ≡ true) × (is_zeroed ending ≡ true)) → (zeroed b.draft w ≡ true) ⊎ ((among (v ∷ ws) w ≡ true) × (is_zeroed ending ≡ true))
    first (inl y) = second (end_one b.draft v ending w h.0 y)
    first (inr y) = inr (any_rest (same_wire w v) (among ws w) y.0, y.1)

-- wires that come to end in another way
pub passes_end : (T : Targets) (ending : End) (ws : List WireId) (b : Built) → is_zeroed ending ≡ false → Below (length b.draft.wires) ws → Passes T b.draft (end_all ending ws b).draft
passes_end T ending ws b other h = record {
  keeps = λ w t. ap (λ ss. label_after ss w) (end_all_steps ending ws b);
  ends = λ w z. pick w (end_all_zeroed ending ws b w h z);
}
  where
    pick : (w : WireId) → (zeroed b.draft w ≡ true) ⊎ ((among ws w ≡ true) × (is_zeroed ending ≡ true)) → zeroed b.draft w ≡ true
    pick w (inl y) = y
    pick w (inr y) = absurd (clash (sym other ∙ y.1))

-- ---- operands that name none of the wires

abbrev pub NoneNamed : Targets → List Operand → Type 0
NoneNamed T ps = (w : WireId) → T w ≡ true → list_any (named_by w) ps ≡ false

neither : (a b : Bool) → a ≡ false → b ≡ false → a || b ≡ false
neither a b p q = rw (p, q) refl

not_same : (T : Targets) (v w : WireId) → T w ≡ true → T v ≡ false → same_wire v w ≡ false
not_same T v w t f = elim (cases_Bool (same_wire v w)) [
  | inl e ↦ absurd (clash (sym f ∙ (ap (λ (n : ℕ). T (record { number = n })) (eqb-true v.number w.number e) ∙ t)))
  | inr e ↦ e
]

pub none_named : (n : ℕ) (T : Targets) (ps : List Operand) → AllSafe n T ps → NoneNamed T ps
none_named n T [] s w t = refl
none_named n T (Const b ∷ ps) s w t = none_named n T ps s.1 w t
none_named n T (Literal l ∷ ps) s w t = neither (same_wire l.wire w) (list_any (named_by w) ps) (not_same T l.wire w t s.0.1) (none_named n T ps s.1 w t)

-- the wires of such operands are none of the set
pub none_among : (T : Targets) (ps : List Operand) → NoneNamed T ps → (w : WireId) → T w ≡ true → among (wires_in ps) w ≡ false
none_among T [] h w t = refl
none_among T (Const b ∷ ps) h w t = none_among T ps h w t
none_among T (Literal l ∷ ps) h w t =
    neither (same_wire w l.wire) (among (wires_in ps) w) (same_wire_swap l.wire w (or_false (same_wire l.wire w) (list_any (named_by w) ps) (h w t)).0)
    (none_among T ps (λ v u. (or_false (same_wire l.wire v) (list_any (named_by v) ps) (h v u)).1) w t)

-- what stands outside a lent part
pub safe_lent : (n : ℕ) (T : Targets) (start size : ℕ) (ps : List Operand) → AllSafe n no_target ps → NoneNamed T (outside start size ps) → AllSafe n T (take start ps) × AllSafe n T (drop (start + size) ps)
safe_lent n T start size ps h s =
    let all : AllSafe n T (take start ps ++ drop (start + size) ps) = safe_spared n T (outside start size ps) (safe_outside n no_target start size ps h) s in
    (safe_left n T (take start ps) (drop (start + size) ps) all, safe_right n T (take start ps) (drop (start + size) ps) all)

-- a part that has nothing of it
pub safe_apart : (n : ℕ) (T : Targets) (start size at count : ℕ) (ps : List Operand) → (start + size ≤ at) ⊎ (at + count ≤ start) → AllSafe n T (take start ps) → AllSafe n T (drop (start + size) ps) → AllSafe n T (take count (drop at ps))
safe_apart n T start size at count ps (inl b) l r =
    let k : (start + size) + (at - (start + size)) ≡ at = omega arith in
    subst (λ qs. AllSafe n T (take count qs)) (drop-drop (at - (start + size)) (start + size) ps ∙ ap (λ m. drop m ps) k)
    (safe_take n T count (drop (at - (start + size)) (drop (start + size) ps)) (safe_drop n T (at - (start + size)) (drop (start + size) ps) r))
safe_apart n T start size at count ps (inr b) l r =
    let k : at + (start - at) ≡ start = omega arith in
    let front : take count (drop at (take start ps)) ≡ take count (drop at ps) =
    ap (λ m. take count (drop at (take m ps))) (sym k)
    ∙ (ap (take count) (drop-take at (start - at) ps) ∙ take-take count (start - at) (drop at ps) (omega arith)) in
    subst (AllSafe n T) front (safe_take n T count (drop at (take start ps)) (safe_drop n T at (take start ps) l))
