-- Wires that end as Zeroed: nothing that is known names them, and no step changes them after that.
use Rattle.std.proofs.Common.{◌≡◌, ℕ, ◌≤◌, ◌<◌, true, false, List, length, refl, sym, ap, ◌∙◌, subst, arith, ◌⊎◌, inl, inr}
use Rattle.std.proofs.lemmas.Bool.{cases_lt}
use Rattle.silq_tree.specs.declared.node.NameId.{NameId}
use Rattle.silq_mean.specs.Effect.{Effect, nothing, ◌>>◌, statement, step, mix, measure as measured, claim, choice}
use Rattle.flat_core.specs.declared.step.WireId.{WireId}
use Rattle.flat_core.specs.declared.step.End.TheVariants.{Zeroed}
use Rattle.flat_core.specs.Label.{wire_in, label_after}
use Rattle.bit_arith.specs.declared.operand.Operand.{Operand}
use Rattle.bit_arith.specs.Built.{Built, negated}
use Rattle.bit_arith.specs.Rows.{flip_each}
use Rattle.bit_arith.specs.Calls.{Targets, no_target, among}
use Rattle.bit_arith.specs.Values.{bits_at, values_at, flip_bits}
use Rattle.bit_arith.specs.Does.{Does, Below}
use Rattle.bit_arith.proofs.Doing.{does_grown}
use Rattle.bit_arith.proofs.Listed.{below_more, safe_one}
use Rattle.bit_arith.proofs.Making.{flip_each_does, negated_safe}
use Rattle.flat_form.specs.declared.known.TypedBits.{TypedBits}
use Rattle.flat_form.specs.declared.known.Known.{Known}
use Rattle.flat_form.specs.declared.known.Known.TheVariants.{Static, Shown, Lent, Absent}
use Rattle.flat_form.specs.State.{Flattening, last, drop_last, operands_of, typed_like, are_wires, wires_in}
use Rattle.flat_form.specs.Flat.{flat, flat_step, known_in, count_statement, on_line, chosen_by, first_branch, second_branch, zero_variable, without_name, end_all}
use Rattle.flat_form.specs.Names.{AllKnown, Spares, names}
use Rattle.flat_form.specs.Good.{Good, IsKnown}
use Rattle.flat_form.specs.Fine.{IsOf, MayChange, MayClaim, Fine, ZeroesNew}
use Rattle.flat_form.proofs.Kept.{known_map, known_and, known_last, known_name, known_drop, known_its, new_unnamed}
use Rattle.flat_form.proofs.Later.{end_all_steps}
use Rattle.flat_form.proofs.Giving.{typed_like_known, typed_like_safe, size_of, length-in}
use Rattle.flat_laws.proofs.Choice.{Enters, enters, guards_more}
use Rattle.flat_form.proofs.Goods.{Goes, chosen_safe, good_statement, goes_first, goes_second, goes_flat, below_targets, different_wires, last_spared}
use Rattle.flat_form.proofs.Later.{later_then}
use Rattle.flat_laws.proofs.Sparing.{is_zeroed, zeroed, zeroed_end, zeroed_low, Low, passes_grows, ends_grows, end_all_zeroed, none_among}
use Rattle.flat_laws.proofs.Spared.{Spared, spared_step, spared_mix, spared_measured}

-- nothing that is known names a wire that ends as Zeroed
abbrev pub Done : Flattening → Type 0
Done s = AllKnown (Spares (zeroed s.built.draft)) s

-- between two states no wire that nothing known names is changed, and nothing comes to name it
pub record Settles (s u : Flattening) : Type 0 where
  pub done : Done u
  pub keeps : (T : Targets) → Low T s.built.draft → AllKnown (Spares T) s → (w : WireId) → T w ≡ true → label_after u.built.draft.steps w ≡ label_after s.built.draft.steps w
  pub spares : (T : Targets) → Low T s.built.draft → AllKnown (Spares T) s → AllKnown (Spares T) u

settles_then : (s t u : Flattening) → length s.built.draft.wires ≤ length t.built.draft.wires → Settles s t → Settles t u → Settles s u
settles_then s t u up a b = record {
  done = b.done;
  keeps = λ T low all w z. b.keeps T (more T low) (a.spares T low all) w z ∙ a.keeps T low all w z;
  spares = λ T low all. b.spares T (more T low) (a.spares T low all);
}
  where
    more : (T : Targets) → Low T s.built.draft → Low T t.built.draft
    more T low w z = let lt = low w z in omega (arith, lt, up)

settles_spared : (s u : Flattening) → Done s → ((T : Targets) → Low T s.built.draft → AllKnown (Spares T) s → Spared T s u) → Settles s u
settles_spared s u d f =
    let q : Spared (zeroed s.built.draft) s u = f (zeroed s.built.draft) (zeroed_low s.built.draft) d in
    record {
      done = known_map (Spares (zeroed s.built.draft)) (Spares (zeroed u.built.draft)) (λ k p w z. p w (q.passes.ends w z)) u q.known;
      keeps = λ T low all. (f T low all).passes.keeps;
      spares = λ T low all. (f T low all).known;
    }

-- ---- claims

-- what spares two sets spares what is in either
spares_either : (T U V : Targets) (s : Flattening) → ((w : WireId) → V w ≡ true → (T w ≡ true) ⊎ (U w ≡ true)) → AllKnown (Spares T) s → AllKnown (Spares U) s → AllKnown (Spares V) s
spares_either T U V s f a b = known_map (λ k. Spares T k × Spares U k) (Spares V) (λ k p w v. pick k w p (f w v)) s (known_and (Spares T) (Spares U) s a b)
  where
    pick : (k : Known) (w : WireId) → Spares T k × Spares U k → (T w ≡ true) ⊎ (U w ≡ true) → names k w ≡ false
    pick k w p (inl t) = p.0 w t
    pick k w p (inr u) = p.1 w u

-- the flips of a claim on a variable that shows v
module _ (x : NameId) (s : Flattening) (g : Good s) (v : TypedBits) (e : known_in s x ≡ Shown v) (like : IsOf (λ w. w.shape ≡ v.shape) (typed_like 0 (Shown v) (last s))) (are : are_wires v.operands ≡ true) (may : MayChange (wires_in v.operands) s (without_name x s)) where
  abbrev n : ℕ
  n = length s.built.draft.wires

  abbrev pub claim_wires : List WireId
  claim_wires = wires_in v.operands

  abbrev pub claim_operands : List Operand
  claim_operands = operands_of (typed_like 0 (Shown v) (last s))

  abbrev pub claim_flips : Built
  claim_flips = flip_each s.setting claim_wires claim_operands s.built

  v_known : IsKnown n (Shown v)
  v_known = subst (IsKnown n) e (known_name (IsKnown n) s x tt g.known)

  last_known : IsKnown n (last s)
  last_known = known_last (IsKnown n) s tt g.known

  pub claim_below : Below n claim_wires
  claim_below = below_targets s.built.draft claim_wires may.targets

  pub claim_does : Does s.setting s.built.draft claim_flips.draft (among claim_wires) (λ y z. values_at z claim_wires ≡ flip_bits (values_at y claim_wires) (bits_at y claim_operands))
  claim_does =
      flip_each_does s.setting claim_wires claim_operands s.built g.fresh
      (length-in v.operands are ∙ (v_known.size ∙ sym (size_of n v.shape (typed_like 0 (Shown v) (last s)) (typed_like_known n 0 (Shown v) (last s) last_known) like)))
      claim_below (different_wires claim_wires may.distinct) may.condition
      (typed_like_safe n 0 (among claim_wires) (Shown v) (last s) last_known (last_spared (among claim_wires) (without_name x s) may.spared))

  -- a wire that ends as Zeroed did so before or is one of the variable's
  pub claim_ends : (w : WireId) → zeroed (end_all Zeroed claim_wires claim_flips).draft w ≡ true → (zeroed s.built.draft w ≡ true) ⊎ (among claim_wires w ≡ true)
  claim_ends w z = pick (end_all_zeroed Zeroed claim_wires claim_flips w (below_more n (length claim_flips.draft.wires) claim_wires (does_grown claim_does) claim_below) z)
    where
      pick : (zeroed claim_flips.draft w ≡ true) ⊎ ((among claim_wires w ≡ true) × (is_zeroed Zeroed ≡ true)) → (zeroed s.built.draft w ≡ true) ⊎ (among claim_wires w ≡ true)
      pick (inl y) = inl (ends_grows claim_does.grows w y)
      pick (inr y) = inr y.0

  -- a wire that nothing known names is none of the variable's
  pub claim_off : (T : Targets) → AllKnown (Spares T) s → (w : WireId) → T w ≡ true → among claim_wires w ≡ false
  claim_off T all w t = none_among T v.operands (subst (Spares T) e (known_name (Spares T) s x (λ i j. refl) all)) w t

  pub settles_shown : Done s → Settles s (without_name x (zero_variable (Shown v) (last s) s))
  settles_shown d = record {
    done =
        let k : AllKnown (Spares (zeroed (end_all Zeroed claim_wires claim_flips).draft)) (without_name x s) =
        spares_either (zeroed s.built.draft) (among claim_wires) (zeroed (end_all Zeroed claim_wires claim_flips).draft) (without_name x s) claim_ends
        (known_its (Spares (zeroed s.built.draft)) x Absent s (λ w t. refl) d) may.spared in
        record { env = k.env; values = k.values; callers = k.callers };
    keeps = λ T low all w t.
        ap (λ ss. label_after ss w) (end_all_steps Zeroed claim_wires claim_flips)
        ∙ (passes_grows T claim_does.grows low (claim_off T all)).keeps w t;
    spares = λ T low all.
        let k : AllKnown (Spares T) (without_name x s) = known_its (Spares T) x Absent s (λ w t. refl) all in
        record { env = k.env; values = k.values; callers = k.callers };
  }

settles_claim : (x : NameId) (s : Flattening) → Good s → MayClaim x s → Done s → Settles s (without_name x (zero_variable (known_in s x) (last s) s))
settles_claim x s g may d = go (known_in s x) refl may
  where
    go : (k : Known) → known_in s x ≡ k → IsOf (λ v. IsOf (λ w. w.shape ≡ v.shape) (typed_like 0 (Shown v) (last s)) × (are_wires v.operands ≡ true) × MayChange (wires_in v.operands) s (without_name x s)) k → Settles s (without_name x (zero_variable k (last s) s))
    go (Static z) e f = absurd f
    go (Lent a c v) e f = absurd f
    go Absent e f = absurd f
    go (Shown v) e f = settles_shown x s g v e f.0 f.1 f.2 d

-- ---- choices

pub zeroes_new : (s u : Flattening) → ZeroesNew s u → (w : WireId) → w.number < length s.built.draft.wires → zeroed u.built.draft w ≡ true → zeroed s.built.draft w ≡ true
zeroes_new s u h w lt z = ap is_zeroed (h w lt (zeroed_end (wire_in u.built.draft.wires w).ending z))

module _ (s one : Flattening) (g : Good s) (g1 : Good one) (up : length (first_branch s).built.draft.wires ≤ length one.built.draft.wires) (fresh_ends : ZeroesNew (first_branch s) one) where
  abbrev begins : ℕ
  begins = length s.built.draft.wires

  pub first_enters : Enters s.setting (chosen_by s) s.built
  first_enters = enters s.setting (chosen_by s) s.built g.fresh g.condition (chosen_safe s g)

  pub first_longer : begins ≤ length (first_branch s).built.draft.wires
  first_longer = does_grown first_enters.does

  longer : begins ≤ length one.built.draft.wires
  longer = omega (arith, first_longer, up)

  pub second_enters : Enters s.setting (negated (chosen_by s)) one.built
  second_enters =
      enters s.setting (negated (chosen_by s)) one.built g1.fresh (guards_more s.setting begins (length one.built.draft.wires) longer g.condition)
      (negated_safe (length one.built.draft.wires) no_target (chosen_by s) (safe_one begins (length one.built.draft.wires) no_target no_target (chosen_by s) longer (λ w lt t. t) (chosen_safe s g)))

  pub second_longer : length one.built.draft.wires ≤ length (second_branch one s).built.draft.wires
  second_longer = does_grown second_enters.does

  -- where the first branch begins
  pub settles_first : Done s → Settles s (first_branch s)
  settles_first d =
      settles_spared s (first_branch s) d (λ T low all.
      let k : AllKnown (Spares T) (drop_last s) = known_drop (Spares T) s all in
      record { passes = passes_grows T first_enters.does.grows low (λ w t. refl); known = record { env = k.env; values = k.values; callers = k.callers } })

  -- nothing that is known at the choice names a wire that ends as Zeroed where the second branch begins
  pub second_done : Done s → Done (second_branch one s)
  second_done d =
      let T : Targets = zeroed (second_branch one s).built.draft in
      let k : AllKnown (Spares T) (drop_last s) =
      known_map (λ k. IsKnown begins k × Spares (zeroed s.built.draft) k) (Spares T) (λ k p w z. pick k w p z (cases_lt w.number begins)) (drop_last s)
      (known_and (IsKnown begins) (Spares (zeroed s.built.draft)) (drop_last s) (known_drop (IsKnown begins) s g.known) (known_drop (Spares (zeroed s.built.draft)) s d)) in
      record { env = k.env; values = k.values; callers = k.callers }
    where
      pick : (k : Known) (w : WireId) → IsKnown begins k × Spares (zeroed s.built.draft) k → zeroed (second_branch one s).built.draft w ≡ true → (w.number < begins) ⊎ (begins ≤ w.number) → names k w ≡ false
      pick k w p z (inr le) = new_unnamed begins k w p.0 le
      pick k w p z (inl lt) =
          p.1 w (ends_grows first_enters.does.grows w (zeroes_new (first_branch s) one fresh_ends w (let l = first_longer in omega (arith, lt, l)) (ends_grows second_enters.does.grows w z)))

  -- on to where the second branch begins: what was known at the choice is known again
  pub settles_second : Done s → Settles s one → Settles s (second_branch one s)
  settles_second d a = record {
    done = second_done d;
    keeps = λ T low all w t.
        (passes_grows T second_enters.does.grows (λ v j. let lt = low v j in omega (arith, lt, longer)) (λ v j. refl)).keeps w t ∙ a.keeps T low all w t;
    spares = λ T low all.
        let k : AllKnown (Spares T) (drop_last s) = known_drop (Spares T) s all in
        record { env = k.env; values = k.values; callers = k.callers };
  }

-- ---- effects

pub settle : (e : Effect) (s : Flattening) → Good s → Fine e s → Done s → Settles s (flat e s)
settle nothing s g f d = record { done = d; keeps = λ T low all w t. refl; spares = λ T low all. all }
settle (a >> b) s g f d =
    let q : Goes s (flat a s) = goes_flat a s g f.0 in
    let h : Settles s (flat a s) = settle a s g f.0 d in
    settles_then s (flat a s) (flat (a >> b) s) q.later.longer h (settle b (flat a s) q.good f.1 h.done)
settle (statement line e) s g f d =
    let t : Flattening = on_line line (count_statement s) in
    let h : Settles t (flat e t) = settle e t (good_statement line s g) f (record { env = d.env; values = d.values; callers = d.callers }) in
    record {
      done = let k : Done (flat e t) = h.done in record { env = k.env; values = k.values; callers = k.callers };
      keeps = λ T low all. h.keeps T low (record { env = all.env; values = all.values; callers = all.callers });
      spares = λ T low all.
          let k : AllKnown (Spares T) (flat e t) = h.spares T low (record { env = all.env; values = all.values; callers = all.callers }) in
          record { env = k.env; values = k.values; callers = k.callers };
    }
settle (step st) s g f d = settles_spared s (flat_step st s) d (λ T low all. spared_step T s low g all st f)
settle mix s g f d = settles_spared s (flat mix s) d (λ T low all. spared_mix T s low g all f)
settle measured s g f d = settles_spared s (flat measured s) d (λ T low all. spared_measured T s low g all f)
settle (claim line x) s g f d = settles_claim x s g f d
settle (choice a b) s g f d =
    let first : Flattening = first_branch s in
    let one : Flattening = flat a first in
    let second : Flattening = second_branch one s in
    let two : Flattening = flat b second in
    let p = goes_first s g in
    let q : Goes first one = goes_flat a first p.good f.1 in
    let r = goes_second s one g (later_then s.built.draft first.built.draft one.built.draft p.later q.later) in
    let a1 : Settles s first = settles_first s one g q.good q.later.longer f.3.zeroed_first d in
    let a2 : Settles s one = settles_then s first one p.later.longer a1 (settle a first p.good f.1 a1.done) in
    let a3 : Settles s second = settles_second s one g q.good q.later.longer f.3.zeroed_first d a2 in
    let a4 : Settles s two = settles_then s second two (let l = p.later.longer in let m = q.later.longer in let k = r.later.longer in omega (arith, l, m, k)) a3 (settle b second r.good f.2 a3.done) in
    record {
      done = let k : Done two = a4.done in record { env = k.env; values = k.values; callers = k.callers };
      keeps = a4.keeps;
      spares = λ T low all. let k : AllKnown (Spares T) two = a4.spares T low all in record { env = k.env; values = k.values; callers = k.callers };
    }
