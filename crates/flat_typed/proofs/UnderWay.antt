-- Values under way in another order, and parts that are used beside them.
use Rattle.std.proofs.Common.{◌≡◌, ◌⊎◌, inl, inr, ◌+◌, ◌≤◌, Bool, true, false, ◌||◌, List, [], ◌∷◌, ◌++◌, refl, sym, ap₂, ◌∙◌, arith}
use Rattle.silq_types.specs.declared.values.Part.{Part}
use Rattle.silq_types.specs.declared.values.Value.{Value}
use Rattle.silq_types.specs.declared.values.Var.{Var}
use Rattle.check_scope.specs.declared.uses.Use.{Use}
use Rattle.check_scope.specs.Context.{Context, variable}
use Rattle.flat_core.specs.declared.step.WireId.{WireId}
use Rattle.flat_form.specs.State.{Flattening, wires_in}
use Rattle.flat_form.specs.Names.{AllOf, names, operands_in}
use Rattle.flat_typed.specs.Places.{Places, is_shared, shown, times_in, carriers, linear_carriers, owners_of, linear_owners}
use Rattle.flat_typed.specs.Footprint.{wires_of_part, used_wires}
use Rattle.flat_typed.specs.Relation.{Outside, Stands}
use Rattle.flat_typed.specs.Uses.{IsThere}
use Rattle.flat_typed.proofs.Moving.{found_all}
use Rattle.flat_typed.proofs.Owning.{among_times}
use Rattle.flat_typed.proofs.Apart.{used_part, wires_are, part_shows}
use Rattle.flat_typed.proofs.Footprints.{named_none, owner_shows, one_found}
use Rattle.flat_typed.proofs.Uses.{all_join}

-- ---- lists

pub carriers_append : (W : Places) (w : WireId) (xs ys : List Value) → carriers W w (xs ++ ys) ≡ carriers W w xs + carriers W w ys
carriers_append W w [] ys = omega arith
carriers_append W w (x ∷ xs) ys = let a = carriers_append W w xs ys in omega (arith, a)

linear_append : (W : Places) (w : WireId) (xs ys : List Value) → linear_carriers W w (xs ++ ys) ≡ linear_carriers W w xs + linear_carriers W w ys
linear_append W w [] ys = omega arith
linear_append W w (x ∷ xs) ys = let a = linear_append W w xs ys in omega (arith, a)

pub all_first : {A : Type 0} (Q : A → Type 0) (xs ys : List A) → AllOf Q (xs ++ ys) → AllOf Q xs
all_first Q [] ys h = tt
all_first Q (x ∷ xs) ys h = (h.0, all_first Q xs ys h.1)

pub all_second : {A : Type 0} (Q : A → Type 0) (xs ys : List A) → AllOf Q (xs ++ ys) → AllOf Q ys
all_second Q [] ys h = h
all_second Q (x ∷ xs) ys h = all_second Q xs ys h.1

-- a wire is owned as often in another order
pub owners_turned : (W : Places) (vars : List Var) (xs ys zs : List Value) (w : WireId) → owners_of W vars (xs ++ (ys ++ zs)) w ≡ owners_of W vars ((ys ++ xs) ++ zs) w
owners_turned W vars xs ys zs w =
    let a = carriers_append W w xs (ys ++ zs) in
    let b = carriers_append W w ys zs in
    let c = carriers_append W w (ys ++ xs) zs in
    let d = carriers_append W w ys xs in
    omega (arith, a, b, c, d)

linear_turned : (W : Places) (vars : List Var) (xs ys zs : List Value) (w : WireId) → linear_owners W vars (xs ++ (ys ++ zs)) w ≡ linear_owners W vars ((ys ++ xs) ++ zs) w
linear_turned W vars xs ys zs w =
    let a = linear_append W w xs (ys ++ zs) in
    let b = linear_append W w ys zs in
    let c = linear_append W w (ys ++ xs) zs in
    let d = linear_append W w ys xs in
    omega (arith, a, b, c, d)

pub stands_turned : (out : Outside) (held : List (List Part)) (W : Places) (xs ys zs : List Value) (c : Context) (s : Flattening) → Stands out held W (xs ++ (ys ++ zs)) c s → Stands out held W ((ys ++ xs) ++ zs) c s
stands_turned out held W xs ys zs c s r = record {
  env = r.env;
  differ = r.differ;
  parts = r.parts;
  one = λ w. let a = r.one w in let b = owners_turned W c.vars xs ys zs w in omega (arith, a, b);
  free = λ w le. r.free w (back w le);
  untold = λ w le. r.untold w (back w le);
  shared = λ w le. r.shared w (back w le);
  callers = λ w le. r.callers w (back w le);
  guards = r.guards;
  below = r.below;
  spares = r.spares;
  carried =
      let Q : Value → Type 0 = λ v. AllOf (λ w. out.guarded w ≡ false) (wires_in (W v.place)) in
      let rest = all_second Q xs (ys ++ zs) r.carried in
      all_join Q (ys ++ xs) zs (all_join Q ys xs (all_first Q ys zs rest) (all_first Q xs (ys ++ zs) r.carried)) (all_second Q ys zs rest);
  owed = λ w o. owed w (r.owed w o);
}
  where
    back : (w : WireId) → 1 ≤ owners_of W c.vars ((ys ++ xs) ++ zs) w → 1 ≤ owners_of W c.vars (xs ++ (ys ++ zs)) w
    back w le = let b = owners_turned W c.vars xs ys zs w in omega (arith, b, le)

    owed : (w : WireId) → (1 ≤ linear_owners W c.vars (xs ++ (ys ++ zs)) w) ⊎ (out.answered w ≡ true) → (1 ≤ linear_owners W c.vars ((ys ++ xs) ++ zs) w) ⊎ (out.answered w ≡ true)
    owed w (inl le) = inl (let b = linear_turned W c.vars xs ys zs w in omega (arith, b, le))
    owed w (inr a) = inr a

-- ---- parts

-- a part that is used has no wire that a value under way owns
module _ (out : Outside) (held : List (List Part)) (W : Places) (under : List Value) (c : Context) (s : Flattening) (st : Stands out held W under c s) (w : WireId) (le : 1 ≤ carriers W w under) where
  one_unused : (u : Use) → IsThere held c.vars u → wires_of_part W c.vars u.part w ≡ false
  one_unused u h = go (wires_of_part W c.vars u.part w) refl
    where
      go : (t : Bool) → wires_of_part W c.vars u.part w ≡ t → t ≡ false
      go false e = refl
      go true e = of_owner (is_shared h.owner) refl
        where
          named : 1 ≤ times_in w (used_part out held W under c s st u h)
          named = among_times w (used_part out held W under c s st u h) (sym (wires_are out held W under c s st u h w) ∙ e)

          of_owner : (t : Bool) → is_shared h.owner ≡ t → true ≡ false
          of_owner true q =
              let a = named_none w (operands_in (shown W c.vars h.owner)) (found_all (λ z. is_shared z ≡ true → names (shown W c.vars z) w ≡ false) c.vars (variable u.part.name) h.owner h.found (st.shared w (omega (arith, le))) q) in
              let b = part_shows out held W under c s st u h w in
              let d = named in
              absurd (omega (arith, a, b, d))
          of_owner false q =
              let a = part_shows out held W under c s st u h w in
              let b = owner_shows out held W under c s st u h q w in
              let d = one_found W c.vars c.vars w (variable u.part.name) h.owner h.found in
              let f = st.one w in
              let g = named in
              absurd (omega (arith, a, b, d, f, g, le))

  pub carried_unused : (us : List Use) → AllOf (IsThere held c.vars) us → used_wires W c.vars us w ≡ false
  carried_unused [] h = refl
  carried_unused (u ∷ us) h = ap₂ (λ a b. a || b) (one_unused u h.0) (carried_unused us h.1)
