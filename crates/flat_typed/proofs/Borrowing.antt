-- A place in a use that leaves its variable: a held use, or one of a classical variable. Its value shows wires of the variable.
use Rattle.std.proofs.Common.{◌≡◌, ◌⊎◌, inl, inr, ℕ, ◌+◌, ◌≤◌, ◌<◌, Bool, true, false, cond, not, ◌&&◌, ◌||◌, List, [], ◌∷◌, ◌++◌, length, ℤ, refl, sym, ap, ap₂, ◌∙◌, subst, arith}
use Rattle.std.specs.Prelude.{Option, Some, None}
use Rattle.std.specs.List.{list_any}
use Rattle.std.proofs.lemmas.Bool.{cases_lt}
use Rattle.silq_tree.specs.declared.node.NameId.{NameId}
use Rattle.silq_types.specs.declared.types.Ty.{Ty}
use Rattle.silq_types.specs.declared.values.Origin.TheVariants.{Classical}
use Rattle.silq_types.specs.declared.values.Part.{Part}
use Rattle.silq_types.specs.declared.values.Value.{Value}
use Rattle.silq_types.specs.declared.values.Var.{Var}
use Rattle.silq_types.specs.Types.{is_held, is_linear, shape_bits}
use Rattle.silq_types.specs.declared.need.Need.{Need}
use Rattle.silq_types.specs.Calls.{is_consumed}
use Rattle.check_scope.specs.declared.uses.Use.{Use}
use Rattle.check_scope.specs.Context.{Context, indices, variable, same_part, find_var, replace}
use Rattle.silq_mean.specs.Env.{in_its_block}
use Rattle.silq_mean.specs.Effect.{give_part}
use Rattle.flat_core.specs.declared.step.WireId.{WireId}
use Rattle.flat_core.specs.Label.{same_wire}
use Rattle.bit_arith.specs.declared.operand.Operand.{Operand}
use Rattle.bit_arith.specs.declared.operand.Operand.TheVariants.{Const, Literal}
use Rattle.bit_arith.specs.Calls.{Targets, AllSafe, no_target, among}
use Rattle.flat_form.specs.declared.known.TypedBits.{TypedBits}
use Rattle.flat_form.specs.declared.known.Known.{Known}
use Rattle.flat_form.specs.declared.known.Known.TheVariants.{Shown, Absent}
use Rattle.flat_form.specs.State.{Flattening, push, wires_so_far, wires_in, part_shape, part_start}
use Rattle.flat_form.specs.Flat.{known_in, part_used, use_part, moved, after_use, flat_step}
use Rattle.flat_form.specs.Fine.{FineStep, MayUse, FitsIndex}
use Rattle.flat_form.specs.Names.{named_by}
use Rattle.flat_form.specs.Good.{Good, IsKnown, IsShown}
use Rattle.flat_form.proofs.Kept as kept_laws
use Rattle.flat_typed.specs.Places.{Places, part_out, less_part, bits_for, shown, entries, in_order, times_in}
use Rattle.flat_typed.specs.Footprint.{wires_of_part}
use Rattle.flat_typed.specs.Relation.{Outside, Stands, IsAnswer}
use Rattle.flat_typed.specs.Uses.{IsThere}
use Rattle.flat_typed.specs.Done.{carrying}
use Rattle.flat_typed.proofs.Ordered.{clash}
use Rattle.flat_typed.proofs.Parts.{some_same, shows_its_place, found_there}
use Rattle.flat_typed.proofs.Changes.{replaced_shows}
use Rattle.flat_typed.proofs.Owning.{same_swap, wire_is}
use Rattle.flat_typed.proofs.Using.{touches_none, leaves_names}
use Rattle.flat_typed.proofs.Spans.{part_at_most}
use Rattle.flat_typed.proofs.Apart.{used_part, wires_are, shows, out_apart}
use Rattle.flat_typed.proofs.There.{part_class}
use Rattle.flat_typed.proofs.Ranges.{part_shaped, part_ends, part_indexed}
use Rattle.flat_typed.proofs.Giving.{Beyond, GivesValue}

-- ---- a variable that stays

pub replace_same : (vs : List Var) (p : Part) (v : Var) → find_var vs p ≡ Some v → v.part ≡ p → replace vs v ≡ vs
replace_same [] p v e q = refl
replace_same (w ∷ ws) p v e q = go (same_part w.part p) refl e (λ d. replace_same ws p v d q)
  where
    goal : Bool → Type 0
    goal t = cond t (v ∷ ws) (w ∷ replace ws v) ≡ w ∷ ws

    go : (t : Bool) → same_part w.part p ≡ t → cond t (Some w) (find_var ws p) ≡ Some v → (find_var ws p ≡ Some v → replace ws v ≡ ws) → goal (same_part w.part v.part)
    go true s e i = subst goal (sym (ap (same_part w.part) q ∙ s)) (ap (λ (u : Var). u ∷ ws) (sym (some_same w v e)))
    go false s e i = subst goal (sym (ap (same_part w.part) q ∙ s)) (ap (λ l. w ∷ l) (i e))

-- an environment that shows the same in order
pub stands_seen : (out : Outside) (held : List (List Part)) (W : Places) (under : List Value) (c : Context) (s : Flattening) (x : NameId) (k l : Known) → in_order (in_its_block s.env x l) ≡ entries W c.vars c.vars
    → Stands out held W under c s → Stands out held W under c (push k (record s { env = in_its_block s.env x l }))
stands_seen out held W under c s x k l e r = record {
  env = e;
  differ = r.differ;
  parts = r.parts;
  one = r.one;
  free = r.free;
  untold = r.untold;
  shared = r.shared;
  callers = r.callers;
  guards = r.guards;
  below = r.below;
  spares = r.spares;
  carried = r.carried;
  owed = λ w o. r.owed w (record { there = o.there; untold = o.untold; why = o.why });
}

-- operands whose wires are there
pub times_there : (n : ℕ) (w : WireId) (ps : List Operand) → AllSafe n no_target ps → 1 ≤ times_in w ps → w.number < n
times_there n w [] h le = absurd (omega (arith, le))
times_there n w (Const b ∷ ps) h le = times_there n w ps h.1 le
times_there n w (Literal l ∷ ps) h le = go (same_wire l.wire w) refl le (times_there n w ps h.1)
  where
    go : (t : Bool) → same_wire l.wire w ≡ t → 1 ≤ cond t (ℕ.suc (times_in w ps)) (times_in w ps) → (1 ≤ times_in w ps → w.number < n) → w.number < n
    go true e le i = subst (λ (x : WireId). x.number < n) (wire_is l.wire w e) h.0.0
    go false e le i = i le

any_among : (w : WireId) (ps : List Operand) → list_any (named_by w) ps ≡ among (wires_in ps) w
any_among w [] = refl
any_among w (Const b ∷ ps) = any_among w ps
any_among w (Literal l ∷ ps) = ap₂ (λ a b. a || b) (same_swap l.wire w) (any_among w ps)

module _ (out : Outside) (held : List (List Part)) (W : Places) (under : List Value) (c : Context) (s : Flattening) (st : Stands out held W under c s) (good : Good s) (u : Use) (h : IsThere held c.vars u) where
  abbrev pub bits : TypedBits
  bits = bits_for W h.owner

  abbrev pub is : List ℤ
  is = indices u.part

  abbrev pub x : NameId
  x = u.part.name

  known_less : (r : Option Var) → part_out c.vars x ≡ r → known_in s x ≡ less_part r bits
  known_less r e = shows_its_place W c.vars s x h.owner st.env st.differ h.found ∙ shows out held W under c s st u h r e

  -- an operand for each bit, and all wires are there
  pub owner_known : IsShown (wires_so_far s) bits
  owner_known = go (part_out c.vars x) refl
    where
      all : IsKnown (wires_so_far s) (known_in s x)
      all = kept_laws.found_all (IsKnown (wires_so_far s)) Absent s.env x tt good.known.env

      go : (r : Option Var) → part_out c.vars x ≡ r → IsShown (wires_so_far s) bits
      go None e = subst (IsKnown (wires_so_far s)) (known_less None e) all
      go (Some p) e = subst (IsKnown (wires_so_far s)) (known_less (Some p) e) all

  fits_here : part_start h.owner.ty.shape is + shape_bits (part_shape h.owner.ty.shape is) ≤ length (W h.owner.place)
  fits_here = let a = part_ends h.owner.ty.classical h.owner.ty.shape is h.kind.0 h.kind.1 in let b = owner_known.size in omega (arith, a, b)

  -- the part may be used
  pub use_is_fine : (need : Need) → FineStep (give_part need x is) s
  use_is_fine need = go (part_out c.vars x) refl
    where
      index : FitsIndex is (Shown bits)
      index = part_indexed h.owner.ty.classical h.owner.ty.shape is h.kind.0 h.kind.1

      beside : (p : Var) → part_out c.vars x ≡ Some p → MayUse is (less_part (Some p) bits)
      beside p e = (fits_here, turn (out_apart out held W under c s st u h p e))
        where
          turn : {A B : Type 0} → A ⊎ B → B ⊎ A
          turn (inl a) = inr a
          turn (inr b) = inl b

      go : (r : Option Var) → part_out c.vars x ≡ r → MayUse is (known_in s x) × FitsIndex is (known_in s x)
      go None e = subst (λ k. MayUse is k × FitsIndex is k) (sym (known_less None e)) (fits_here, index)
      go (Some p) e = subst (λ k. MayUse is k × FitsIndex is k) (sym (known_less (Some p) e)) (beside p e, index)

  module _ (need : Need) (still : (is_consumed need && not h.owner.ty.classical) ≡ false) where
    abbrev pub given : Known
    given = part_used (wires_so_far s) need is bits

    pub given_is : use_part (wires_so_far s) need is (known_in s x) ≡ given
    given_is = go (part_out c.vars x) refl
      where
        go : (r : Option Var) → part_out c.vars x ≡ r → use_part (wires_so_far s) need is (known_in s x) ≡ given
        go None e = ap (use_part (wires_so_far s) need is) (known_less None e)
        go (Some p) e = ap (use_part (wires_so_far s) need is) (known_less (Some p) e)

    left_is : after_use need is (known_in s x) ≡ shown W c.vars h.owner
    left_is = go (part_out c.vars x) refl
      where
        go : (r : Option Var) → part_out c.vars x ≡ r → after_use need is (known_in s x) ≡ shown W c.vars h.owner
        go None e =
            ap (after_use need is) (known_less None e)
            ∙ (ap (λ t. cond t (moved is bits) (Shown bits)) still ∙ sym (shows out held W under c s st u h None e))
        go (Some p) e = ap (after_use need is) (known_less (Some p) e) ∙ sym (shows out held W under c s st u h (Some p) e)

    env_stays : in_order (in_its_block s.env x (after_use need is (known_in s x))) ≡ entries W c.vars c.vars
    env_stays =
        ap (λ k. in_order (in_its_block s.env x k)) left_is
        ∙ (replaced_shows W c.vars s.env h.owner x (found_there c.vars x h.owner h.found) st.differ st.env
        ∙ ap (λ vs. entries W vs vs) (replace_same c.vars (variable x) h.owner h.found (found_there c.vars x h.owner h.found)))

    -- its value shows wires of the part, which are not its own
    pub borrowed_done : (used consumed : Targets) (low : ℕ) (v : Value) → v.ty ≡ h.kind.0 → (is_consumed need ≡ true → (low ≤ v.place) × (v.origin ≡ Classical)) → ((w : WireId) → wires_of_part W c.vars u.part w ≡ true → used w ≡ true)
        → GivesValue out held W need used consumed (wires_so_far s) low under c s s.values v (flat_step (give_part need x is) s)
    borrowed_done used consumed low v type new uses = record {
      answer = use_part (wires_so_far s) need is (known_in s x);
      values = refl;
      given = subst (IsAnswer W need used consumed (wires_so_far s) low v) (sym given_is) (record {
        typed = (sym (part_shaped h.owner.ty.classical h.owner.ty.shape is h.kind.0 h.kind.1) ∙ ap (λ (t : Ty). t.shape) (sym type), sym (part_class h.owner.ty.classical h.owner.ty.shape is h.kind.0 h.kind.1) ∙ ap (λ (t : Ty). t.classical) (sym type));
        handed = λ q. ap is_held (new q).1;
        own = λ q e. clash (sym e ∙ still);
        borrowed = λ q e. ((new q).0, ap is_linear (new q).1);
        moved = λ e. clash (sym e ∙ still);
        within = λ w e. inl (uses w (wires_are out held W under c s st u h w ∙ (sym (any_among w (used_part out held W under c s st u h)) ∙ e)));
        began = omega arith;
        differ = λ w le. few w le (cases_lt 1 (times_in w (used_part out held W under c s st u h)));
      });
      stands =
          subst (λ l. Stands out held W (l ++ under) c (flat_step (give_part need x is) s)) (sym (ap (λ k. carrying need (v ∷ []) (k ∷ [])) given_is ∙ carries_none (is_consumed need)))
          (stands_seen out held W under c s x (use_part (wires_so_far s) need is (known_in s x)) (after_use need is (known_in s x)) env_stays st);
      leaves = leaves_names s x (use_part (wires_so_far s) need is (known_in s x)) (after_use need is (known_in s x));
      touches = touches_none (Beyond consumed (wires_so_far s)) s.built.draft;
      plain = λ w m. m;
      unmade = λ m. m;
    }
      where
        carries_none : (t : Bool) → cond (t && (is_consumed need && not h.owner.ty.classical)) (v ∷ []) [] ≡ []
        carries_none true = ap (λ b. cond b (v ∷ []) []) still
        carries_none false = refl

        few : (w : WireId) → wires_so_far s ≤ w.number → (1 < times_in w (used_part out held W under c s st u h)) ⊎ (times_in w (used_part out held W under c s st u h) ≤ 1) → times_in w (used_part out held W under c s st u h) ≤ 1
        few w le (inr y) = y
        few w le (inl lt) =
            let a = part_at_most w h.owner.ty.shape is (W h.owner.place) in
            let b = times_there (wires_so_far s) w (W h.owner.place) owner_known.there (omega (arith, a, lt)) in
            absurd (omega (arith, b, le))
