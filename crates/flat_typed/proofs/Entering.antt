-- Where a branch begins: its condition is read, below another one from a wire of its own, and the relation stands with more guarded wires and parts.
use Rattle.std.proofs.Common.{◌≡◌, ◌⊎◌, inl, inr, ℕ, ◌≤◌, ◌<◌, Bool, true, false, cond, not, ◌&&◌, ◌||◌, List, [], ◌∷◌, ◌++◌, length, refl, sym, ap, ◌∙◌, subst, arith}
use Rattle.std.specs.Prelude.{Option, Some, None, ℤ}
use Rattle.std.proofs.lemmas.Bool.{cases_lt, eqb-true}
use Rattle.silq_tree.specs.declared.node.NameId.{NameId}
use Rattle.silq_types.specs.declared.types.Ty.{Ty}
use Rattle.silq_types.specs.declared.values.Part.{Part}
use Rattle.silq_types.specs.declared.values.Var.{Var}
use Rattle.check_scope.specs.Context.{Context, part_at, part_type, overlaps_any, is_in_condition}
use Rattle.flat_core.specs.declared.step.WireId.{WireId}
use Rattle.flat_core.specs.declared.step.Lit.{Lit}
use Rattle.flat_core.specs.Form.{DraftForm}
use Rattle.flat_core.specs.Label.{same_wire, wire_id}
use Rattle.bit_arith.specs.declared.operand.Operand.{Operand}
use Rattle.bit_arith.specs.declared.operand.Operand.TheVariants.{Const, Literal}
use Rattle.bit_arith.specs.Built.{Built, Setting, Given, new_wire, next_wire, made, negated, read, blank, under_condition}
use Rattle.bit_arith.specs.Rows.{flip}
use Rattle.bit_arith.specs.Calls.{Targets, no_target, Safe, AllSafe}
use Rattle.bit_arith.specs.Does.{Fresh}
use Rattle.flat_form.specs.State.{Flattening, wires_so_far, wires_in, part_of, build}
use Rattle.flat_form.specs.Flat.{as_condition, entered, enter_branch}
use Rattle.flat_form.specs.Names.{AllOf, named_by}
use Rattle.flat_form.proofs.Goods.{Branches}
use Rattle.flat_typed.specs.Places.{Places, is_part, has_wires, part_out, holders, owners_of, times_in}
use Rattle.flat_typed.specs.Relation.{Outside, Guards, Stands, SparesGuarded}
use Rattle.flat_typed.proofs.Ordered.{clash, or_left, or_right}
use Rattle.flat_typed.proofs.Owning.{wire_is, each_named, spares_guarded}
use Rattle.flat_typed.proofs.Moving.{owns_all}
use Rattle.flat_typed.proofs.Binding.{none_out}
use Rattle.flat_typed.proofs.Spans.{part_at_most}
use Rattle.flat_typed.proofs.Ending.{times_are_among}
use Rattle.flat_typed.proofs.Turns.{wired_live}
use Rattle.flat_typed.proofs.Growing.{stands_grown}
use Rattle.flat_typed.proofs.Flipping.{Flips, flips_same, flips_then, flips_wires, flips_flip, one_longer}
use Rattle.flat_typed.proofs.Touching.{flips_plain}

-- ---- the condition that is read

-- whether a condition in force names a wire
abbrev pub guards_wire : Option Operand → WireId → Bool
guards_wire None w = false
guards_wire (Some p) w = named_by w p

-- no old wire is touched; what the condition names, its operand names, or it is new
pub record EntersSo (c : Operand) (b : Built) (g : Given (Option Operand)) : Type 0 where
  pub flips : Flips no_target (length b.draft.wires) b g.built
  pub named : (w : WireId) → guards_wire g.answer w ≡ true → (named_by w c ≡ true) ⊎ (length b.draft.wires ≤ w.number)

as_named : (p : Operand) (w : WireId) → guards_wire (as_condition p) w ≡ true → named_by w p ≡ true
as_named (Const true) w e = e
as_named (Const false) w e = e
as_named (Literal l) w e = e

read_named : (d : DraftForm) (p : Operand) (w : WireId) → named_by w (read d p) ≡ true → named_by w p ≡ true
read_named d (Const b) w e = e
read_named d (Literal l) w e = go (blank d l.wire) e
  where
    go : (t : Bool) → named_by w (cond t (Const (not l.positive)) (Literal l)) ≡ true → same_wire l.wire w ≡ true
    go true e = clash (sym e)
    go false e = e

enters_so : (line : ℕ) (outer : Option Operand) (c : Operand) (b : Built) → EntersSo c b (entered (record { line = line; condition = outer }) c b)
enters_so line None c b = record {
  flips = flips_same no_target (length b.draft.wires) b;
  named = λ w e. inl (read_named b.draft c w (as_named (read b.draft c) w e));
}
enters_so line (Some outer) c b = record {
  flips = flips_then no_target (length b.draft.wires) (flips_wires no_target (length b.draft.wires) 1 b)
      (flips_flip no_target (length b.draft.wires) at (next_wire b) (c ∷ []) (new_wire b) (let a = one_longer b in omega (arith, a)) (λ v lt t. other v lt (same_wire (next_wire b) v) refl));
  named = λ w e. inr (new w (wire_is (next_wire b) w (read_named e2.draft (made (next_wire b)) w (as_named (read e2.draft (made (next_wire b))) w e))));
}
  where
    at : Setting
    at = record { line = line; condition = Some outer }

    e2 : Built
    e2 = flip at (next_wire b) (c ∷ []) (new_wire b)

    other : (v : WireId) → v.number < length b.draft.wires → (t : Bool) → same_wire (next_wire b) v ≡ t → t ≡ false
    other v lt false e = refl
    other v lt true e = let q = ap (λ (x : WireId). x.number) (wire_is (next_wire b) v e) in absurd (omega (arith, q, lt))

    new : (w : WireId) → next_wire b ≡ w → length b.draft.wires ≤ w.number
    new w q = let k = ap (λ (x : WireId). x.number) q in omega (arith, k)

pub branch_enters : (c : Operand) (s : Flattening) → EntersSo c s.built (entered s.setting c s.built)
branch_enters c s = enters_so s.setting.line s.setting.condition c s.built

-- ---- the relation

-- what is guarded in a branch: its operand too, and its condition
abbrev pub guarded_in : Targets → Operand → Option Operand → Targets
guarded_in G p c w = G w || (named_by w p || guards_wire c w)

pub guarded_before : (G : Targets) (p : Operand) (c : Option Operand) (w : WireId) → G w ≡ true → guarded_in G p c w ≡ true
guarded_before G p c w e = ap (λ t. t || (named_by w p || guards_wire c w)) e

pub guarded_operand : (G : Targets) (p : Operand) (c : Option Operand) (w : WireId) → named_by w p ≡ true → guarded_in G p c w ≡ true
guarded_operand G p c w e = ap (λ t. G w || (t || guards_wire c w)) e ∙ or_true (G w)
  where
    or_true : (a : Bool) → (a || true) ≡ true
    or_true true = refl
    or_true false = refl

guarded_condition : (G : Targets) (p : Operand) (c : Option Operand) (w : WireId) → guards_wire c w ≡ true → guarded_in G p c w ≡ true
guarded_condition G p c w e = ap (λ t. G w || (named_by w p || t)) e ∙ (ap (λ t. G w || t) (or_true (named_by w p)) ∙ or_true (G w))
  where
    or_true : (a : Bool) → (a || true) ≡ true
    or_true true = refl
    or_true false = refl

pub guarded_cases : (G : Targets) (p : Operand) (c : Option Operand) (w : WireId) → guarded_in G p c w ≡ true → (G w ≡ true) ⊎ ((named_by w p ≡ true) ⊎ (guards_wire c w ≡ true))
guarded_cases G p c w e = go (G w) (named_by w p) refl refl e
  where
    go : (a b : Bool) → G w ≡ a → named_by w p ≡ b → (a || (b || guards_wire c w)) ≡ true → (G w ≡ true) ⊎ ((named_by w p ≡ true) ⊎ (guards_wire c w ≡ true))
    go true b f g e = inl f
    go false true f g e = inr (inl g)
    go false false f g e = inr (inr e)

-- no part of the variable that these parts do not overlap has a wire that the operand names
abbrev pub ClearOf : List (List Part) → Operand → List Part → Places → Var → Type 0
ClearOf held p ps W v =
    has_wires v ≡ true → (is : List ℤ) (t : Ty) → part_type v.ty.classical v.ty.shape is ≡ Some t → is_in_condition held (part_at v.part.name is) ≡ false → overlaps_any ps (part_at v.part.name is) ≡ false →
    (w : WireId) → 1 ≤ times_in w (part_of v.ty.shape is (W v.place)) → named_by w p ≡ false

pub safe_below : (n : ℕ) (T : Targets) (p : Operand) (w : WireId) → Safe n T p → named_by w p ≡ true → w.number < n
safe_below n T (Const b) w s e = clash (sym e)
safe_below n T (Literal l) w s e = subst (λ (x : WireId). x.number < n) (wire_is l.wire w e) s.0

pub condition_below : (n : ℕ) (c : Option Operand) (w : WireId) → AllSafe n no_target (under_condition c []) → guards_wire c w ≡ true → w.number < n
condition_below n None w s e = clash (sym e)
condition_below n (Some p) w s e = safe_below n no_target p w s.0 e

guards_all : (G : Targets) (p : Operand) (c : Option Operand) → Guards (guarded_in G p c) c
guards_all G p None = tt
guards_all G p (Some q) = λ w e. guarded_condition G p (Some q) w e

held_more : (hs : List (List Part)) (ps : List Part) (q : Part) → is_in_condition (hs ++ ps ∷ []) q ≡ false → (is_in_condition hs q ≡ false) × (overlaps_any ps q ≡ false)
held_more [] ps q e = (refl, or_left (overlaps_any ps q) false e)
held_more (h ∷ hs) ps q e =
    let r = held_more hs ps q (or_right (overlaps_any h q) (is_in_condition (hs ++ ps ∷ []) q) e) in
    (go (overlaps_any h q) (is_in_condition hs q) (or_left (overlaps_any h q) (is_in_condition (hs ++ ps ∷ []) q) e) r.0, r.1)
  where
    go : (a b : Bool) → a ≡ false → b ≡ false → (a || b) ≡ false
    go a b e f = ap (λ t. t || b) e ∙ f

module _ (G : Targets) (p : Operand) (cnd : Option Operand) (ps : List Part) (held : List (List Part)) (W : Places) (all : List Var) (n : ℕ) (none : (y : NameId) → part_out all y ≡ None) (new : (w : WireId) → guards_wire cnd w ≡ true → (named_by w p ≡ true) ⊎ (n ≤ w.number)) where
  one_spared : (v : Var) → ((w : WireId) → has_wires v ≡ true → 1 ≤ times_in w (W v.place) → w.number < n) → SparesGuarded G held W v → ClearOf held p ps W v → SparesGuarded (guarded_in G p cnd) (held ++ ps ∷ []) W v
  one_spared v low sp clear has is t kind loose =
      each_named (λ w. guarded_in G p cnd w ≡ false) (part_of v.ty.shape is (W v.place)) (λ w le. go w le (guarded_in G p cnd w) refl)
    where
      apart : (is_in_condition held (part_at v.part.name is) ≡ false) × (overlaps_any ps (part_at v.part.name is) ≡ false)
      apart = held_more held ps (part_at v.part.name is) loose

      go : (w : WireId) → 1 ≤ times_in w (part_of v.ty.shape is (W v.place)) → (t : Bool) → guarded_in G p cnd w ≡ t → t ≡ false
      go w le false e = refl
      go w le true e = pick (guarded_cases G p cnd w e)
        where
          operand : named_by w p ≡ true → true ≡ false
          operand m = clash (sym m ∙ clear has is t kind apart.0 apart.1 w le)

          pick : (G w ≡ true) ⊎ ((named_by w p ≡ true) ⊎ (guards_wire cnd w ≡ true)) → true ≡ false
          pick (inl g) =
              clash (sym (times_are_among w (part_of v.ty.shape is (W v.place)) le)
              ∙ spares_guarded G (wires_in (part_of v.ty.shape is (W v.place))) w (sp has is t kind apart.0) g)
          pick (inr (inl m)) = operand m
          pick (inr (inr k)) = either (new w k)
            where
              either : (named_by w p ≡ true) ⊎ (n ≤ w.number) → true ≡ false
              either (inl m) = operand m
              either (inr above) =
                  let a = part_at_most w v.ty.shape is (W v.place) in
                  let b = low w has (omega (arith, a, le)) in
                  absurd (omega (arith, b, above))

  all_spared : (vs : List Var) → ((w : WireId) → 1 ≤ holders W all w vs → w.number < n) → AllOf (SparesGuarded G held W) vs → AllOf (ClearOf held p ps W) vs → AllOf (SparesGuarded (guarded_in G p cnd) (held ++ ps ∷ []) W) vs
  all_spared [] low sp clear = tt
  all_spared (v ∷ vs) low sp clear = (
    one_spared v (λ w has le. low w (let a = owns_all W all w v (none v.part.name) has (wired_live v has) in omega (arith, a, le))) sp.0 clear.0,
    all_spared vs (λ w le. low w (omega (arith, le))) sp.1 clear.1,
  )

module _ (out : Outside) (held : List (List Part)) (W : Places) (c : Context) (s : Flattening) (p : Operand) (ps : List Part) where
  abbrev pub in_branch : Outside
  in_branch = record { guarded = guarded_in out.guarded p (enter_branch p s).setting.condition; answered = out.answered }

  pub stands_entered : Fresh s.built.draft → Branches s (enter_branch p s) → ((w : WireId) → named_by w p ≡ true → w.number < wires_so_far s) → Stands out held W [] c s → AllOf (λ v. is_part v ≡ false) c.vars → AllOf (ClearOf held p ps W) c.vars → Stands in_branch (held ++ ps ∷ []) W [] c (enter_branch p s)
  stands_entered fresh b safe r whole clear = record {
    env = r.env;
    differ = r.differ;
    parts = r.parts;
    one = r.one;
    free = h.free;
    untold = h.untold;
    shared = r.shared;
    callers = r.callers;
    guards = guards_all out.guarded p (enter_branch p s).setting.condition;
    below = λ w e. below w (guarded_cases out.guarded p (enter_branch p s).setting.condition w e);
    spares = all_spared out.guarded p (enter_branch p s).setting.condition ps held W c.vars (wires_so_far s) (λ y. none_out c.vars y whole) (λ w e. k.named w e) c.vars
        (λ w le. (r.free w (omega (arith, le))).0) r.spares clear;
    carried = tt;
    owed = λ w o. h.owed w (record { there = o.there; untold = o.untold; why = o.why });
  }
    where
      k : EntersSo p s.built (entered s.setting p s.built)
      k = branch_enters p s

      h : Stands out held W [] c (build (entered s.setting p s.built).built s)
      h = stands_grown out held W [] c s (entered s.setting p s.built).built (flips_plain no_target (wires_so_far s) s.built (entered s.setting p s.built).built fresh k.flips) r

      below : (w : WireId) → (out.guarded w ≡ true) ⊎ ((named_by w p ≡ true) ⊎ (guards_wire (enter_branch p s).setting.condition w ≡ true)) → w.number < wires_so_far (enter_branch p s)
      below w (inl e) = h.below w e
      below w (inr (inl e)) = let a = safe w e in let f = k.flips.few in omega (arith, a, f)
      below w (inr (inr e)) = condition_below (wires_so_far (enter_branch p s)) (enter_branch p s).setting.condition w b.good.condition e
