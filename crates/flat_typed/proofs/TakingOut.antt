-- A part is taken out as a variable of its own: the relation stands with it, and an expression may begin.
use Rattle.std.proofs.Common.{◌≡◌, ◌⊎◌, inl, inr, ℕ, suc, ◌+◌, ◌≤◌, ◌<◌, Bool, true, false, cond, not, ◌&&◌, ◌||◌, List, [], ◌∷◌, ◌++◌, refl, sym, ap, ap₂, ◌∙◌, subst, arith}
use Rattle.std.specs.Prelude.{◌==◌, Option, Some, None}
use Rattle.std.proofs.lemmas.Bool.{eqb-true}
use Rattle.silq_tree.specs.declared.node.NameId.{NameId}
use Rattle.silq_types.specs.declared.values.Origin.{Origin}
use Rattle.silq_types.specs.declared.values.Part.{Part}
use Rattle.silq_types.specs.declared.values.Value.{Value}
use Rattle.silq_types.specs.declared.values.Var.{Var}
use Rattle.silq_types.specs.Types.{same_name, is_held, is_linear}
use Rattle.check_scope.specs.Context.{Scope, Context, indices, variable, same_part, part_type, find_var}
use Rattle.check_scope.specs.declared.uses.Use.{Use}
use Rattle.check_expr.specs.Owners.{at_place, owns, owners, Sole}
use Rattle.flat_core.specs.declared.step.WireId.{WireId}
use Rattle.flat_form.specs.declared.known.Known.TheVariants.{Absent}
use Rattle.flat_form.specs.State.{Flattening, part_of}
use Rattle.flat_form.specs.Names.{AllOf, names}
use Rattle.flat_typed.specs.Places.{Places, with_place, is_part, is_shared, part_out, less_part, bits_for, shown, entries, times_in, holds, holders, linear_holders, owners_of, linear_owners}
use Rattle.flat_typed.specs.Relation.{PartsDiffer, FitsPart, IsPartOf, SparesGuarded, Outside, Stands}
use Rattle.flat_typed.specs.Done.{Begins, StmtBegins}
use Rattle.flat_typed.proofs.Ordered.{clash}
use Rattle.flat_typed.proofs.Parts.{whole_part, part_other}
use Rattle.flat_typed.proofs.Changes.{entries_with}
use Rattle.flat_typed.proofs.Moving.{all_more, holders_with, linear_with, found_all}
use Rattle.flat_typed.proofs.Owning.{no_times}
use Rattle.flat_typed.proofs.Binding.{appended_sum, all_appended, none_out}
use Rattle.flat_typed.proofs.Footprints.{named_none}
use Rattle.flat_typed.proofs.Spans.{part_at_most}
use Rattle.flat_typed.proofs.There.{part_class}
use Rattle.flat_typed.proofs.LentParts.{part_holds}
use Rattle.flat_typed.proofs.Using.{live_below}
use Rattle.flat_typed.proofs.Making.{its_place}
use Rattle.flat_typed.proofs.Agreeing.{stands_agree}
use Rattle.flat_typed.proofs.Placing.{place_agrees, vars_same, holders_same}
use Rattle.flat_typed.proofs.Lone.{one_in}

-- ---- one variable more

pub find_more : (vs : List Var) (ws : List Var) (q : Part) (v : Var) → find_var vs q ≡ Some v → find_var (vs ++ ws) q ≡ Some v
find_more [] ws q v e = absurd (grind (arith, e))
find_more (u ∷ us) ws q v e = go (same_part u.part q) e (find_more us ws q v)
  where
    go : (t : Bool) → cond t (Some u) (find_var us q) ≡ Some v → (find_var us q ≡ Some v → find_var (us ++ ws) q ≡ Some v) → cond t (Some u) (find_var (us ++ ws) q) ≡ Some v
    go true e i = e
    go false e i = i e

module _ (p : Var) (part : is_part p ≡ true) where
  -- a part is found behind whole variables
  pub found_last : (vs : List Var) → AllOf (λ v. is_part v ≡ false) vs → (q : Part) → same_part p.part q ≡ true → ((v : Var) → is_part v ≡ false → same_part v.part q ≡ false) → find_var (vs ++ p ∷ []) q ≡ Some p
  found_last [] h q s n = ap (λ t. cond t (Some p) None) s
  found_last (v ∷ vs) h q s n = ap (λ t. cond t (Some v) (find_var (vs ++ p ∷ []) q)) (n v h.0) ∙ found_last vs h.1 q s n

  -- and is no whole variable
  pub found_whole : (vs : List Var) (x : NameId) → find_var (vs ++ p ∷ []) (variable x) ≡ find_var vs (variable x)
  found_whole [] x = ap (λ t. cond t (Some p) None) (part_other p x part)
  found_whole (v ∷ vs) x = ap (λ o. cond (same_part v.part (variable x)) (Some v) o) (found_whole vs x)

  pub entries_taken : (W : Places) (all vs : List Var) → entries W all (vs ++ p ∷ []) ≡ entries W all vs
  entries_taken W all [] = ap (λ t. cond t [] ((p.part.name, shown W all p) ∷ [])) part
  entries_taken W all (v ∷ vs) = ap (λ l. cond (is_part v) l ((v.part.name, shown W all v) ∷ l)) (entries_taken W all vs)

  differ_taken : (vs : List Var) → AllOf (λ v. is_part v ≡ false) vs → PartsDiffer vs → PartsDiffer (vs ++ p ∷ [])
  differ_taken [] h d = (tt, tt)
  differ_taken (v ∷ vs) h d =
      (all_appended (λ (y : Var). same_part y.part v.part ≡ false) vs p d.0 (ap (same_part p.part) (whole_part v h.0) ∙ part_other p v.part.name part), differ_taken vs h.1 d.1)

  module _ (live : p.consumed ≡ false) where
    -- it is not under way
    out_taken : (vs : List Var) (y : NameId) → part_out (vs ++ p ∷ []) y ≡ part_out vs y
    out_taken [] y = ap (λ t. cond (is_part p && (t && same_name p.part.name y)) (Some p) None) live ∙ none (is_part p)
      where
        none : (t : Bool) → ◌≡◌ {A = Option Var} (cond (t && false) (Some p) None) None
        none true = refl
        none false = refl
    out_taken (v ∷ vs) y = ap (λ r. cond (is_part v && (v.consumed && same_name v.part.name y)) (Some v) r) (out_taken vs y)

    holders_taken : (W : Places) (w : WireId) (vs : List Var) → holders W (vs ++ p ∷ []) w (vs ++ p ∷ []) ≡ holders W vs w vs
    holders_taken W w vs =
        let a = appended_sum (holds W (vs ++ p ∷ []) w) (holders W (vs ++ p ∷ []) w) (λ v us. refl) vs p in
        let b = part_holds W (vs ++ p ∷ []) w p part in
        let d = holders_with W (vs ++ p ∷ []) vs w vs (out_taken vs) in
        omega (arith, a, b, d)

    linear_taken : (W : Places) (w : WireId) (vs : List Var) → linear_holders W (vs ++ p ∷ []) w (vs ++ p ∷ []) ≡ linear_holders W vs w vs
    linear_taken W w vs =
        let a = appended_sum (λ v. cond (is_linear v.origin) (holds W (vs ++ p ∷ []) w v) 0) (linear_holders W (vs ++ p ∷ []) w) (λ v us. refl) vs p in
        let b = ap (λ n. cond (is_linear p.origin) n 0) (part_holds W (vs ++ p ∷ []) w p part) ∙ zero_both (is_linear p.origin) in
        let d = linear_with W (vs ++ p ∷ []) vs w vs (out_taken vs) in
        omega (arith, a, b, d)
      where
        zero_both : (t : Bool) → ◌≡◌ {A = ℕ} (cond t 0 0) 0
        zero_both true = refl
        zero_both false = refl

-- ---- the relation

module _ (out : Outside) (held : List (List Part)) (W : Places) (under : List Value) (c : Context) (s : Flattening) (p o : Var) (n : ℕ) (r : Stands out held W under c s) (whole : AllOf (λ v. is_part v ≡ false) c.vars) (part : is_part p ≡ true) (live : p.consumed ≡ false)
    (owner : find_var c.vars (variable p.part.name) ≡ Some o) (of : IsPartOf W p o) where
  abbrev with_it : List Var
  with_it = c.vars ++ p ∷ []

  abbrev taken : Context
  taken = record { vars = c.vars ++ p ∷ []; next = n }

  owners_taken : (w : WireId) → owners_of W with_it under w ≡ owners_of W c.vars under w
  owners_taken w = let a = holders_taken p part live W w c.vars in omega (arith, a)

  before : (w : WireId) → 1 ≤ owners_of W with_it under w → 1 ≤ owners_of W c.vars under w
  before w le = subst (λ n. 1 ≤ n) (owners_taken w) le

  shown_taken : (v : Var) → shown W with_it v ≡ shown W c.vars v
  shown_taken v = ap (λ q. cond v.consumed Absent (less_part q (bits_for W v))) (out_taken p part live c.vars v.part.name)

  out_none : part_out with_it p.part.name ≡ None
  out_none = out_taken p part live c.vars p.part.name ∙ none_out c.vars p.part.name whole

  -- a part of what shares its wires shares them
  part_shares : (w : WireId) → AllOf (λ v. is_shared v ≡ true → names (shown W c.vars v) w ≡ false) c.vars → is_shared p ≡ true → names (shown W with_it p) w ≡ false
  part_shares w h q =
      ap (λ t. names (cond t Absent (less_part (part_out with_it p.part.name) (bits_for W p))) w) live
      ∙ (ap (λ z. names (less_part z (bits_for W p)) w) out_none
      ∙ no_times w (W p.place) (let a = none in let b = ap (times_in w) of.wires in let d = part_at_most w o.ty.shape (indices p.part) (W o.place) in omega (arith, a, b, d)))
    where
      sharing : is_shared o ≡ true
      sharing = sym (ap₂ (λ (b : Bool) (z : Origin). b || is_held z) (part_class o.ty.classical o.ty.shape (indices p.part) p.ty of.kind) of.same) ∙ q

      none : times_in w (W o.place) ≡ 0
      none =
          named_none w (W o.place)
          (sym (ap (λ t. names (cond t Absent (less_part (part_out c.vars o.part.name) (bits_for W o))) w) of.live
          ∙ ap (λ z. names (less_part z (bits_for W o)) w) (none_out c.vars o.part.name whole))
          ∙ found_all (λ v. is_shared v ≡ true → names (shown W c.vars v) w ≡ false) c.vars (variable p.part.name) o owner h sharing)

  shares : (w : WireId) → AllOf (λ v. is_shared v ≡ true → names (shown W c.vars v) w ≡ false) c.vars → AllOf (λ v. is_shared v ≡ true → names (shown W with_it v) w ≡ false) with_it
  shares w h =
      all_appended (λ v. is_shared v ≡ true → names (shown W with_it v) w ≡ false) c.vars p
      (all_more (λ v. is_shared v ≡ true → names (shown W c.vars v) w ≡ false) (λ v. is_shared v ≡ true → names (shown W with_it v) w ≡ false) c.vars (λ v q t. ap (λ k. names k w) (shown_taken v) ∙ q t) h)
      (part_shares w h)

  still_owed : (w : WireId) → (1 ≤ linear_owners W c.vars under w) ⊎ (out.answered w ≡ true) → (1 ≤ linear_owners W with_it under w) ⊎ (out.answered w ≡ true)
  still_owed w (inl le) = inl (let a = linear_taken p part live W w c.vars in omega (arith, a, le))
  still_owed w (inr a) = inr a

  fits_taken : AllOf (FitsPart W with_it) with_it
  fits_taken =
      all_appended (FitsPart W with_it) c.vars p (all_more (λ v. is_part v ≡ false) (FitsPart W with_it) c.vars (λ v e t. clash (sym t ∙ e)) whole)
      (λ t. (o, find_more c.vars (p ∷ []) (variable p.part.name) o owner, of))

  pub stands_taken : Stands out held W under (record { vars = c.vars ++ p ∷ []; next = n }) s
  stands_taken = record {
    env = r.env ∙ (sym (entries_with W with_it c.vars c.vars (out_taken p part live c.vars)) ∙ sym (entries_taken p part W with_it c.vars));
    differ = differ_taken p part c.vars whole r.differ;
    parts = fits_taken;
    one = λ w. subst (λ n. n ≤ 1) (sym (owners_taken w)) (r.one w);
    free = λ w le. r.free w (before w le);
    untold = λ w le. r.untold w (before w le);
    shared = λ w le. shares w (r.shared w (before w le));
    callers = λ w le. r.callers w (before w le);
    guards = r.guards;
    below = r.below;
    spares = all_appended (SparesGuarded out.guarded held W) c.vars p r.spares (λ b. clash (sym b ∙ (ap (λ t. not ((p.consumed || t) || is_shared p)) part ∙ ap (λ t. not ((t || true) || is_shared p)) live)));
    carried = r.carried;
    owed = λ w d. still_owed w (r.owed w d);
  }

-- ---- an expression begins

module _ (out : Outside) (sc : Scope) (low : ℕ) (W : Places) (c : Context) (s : Flattening) (b : StmtBegins out sc low (λ q. 0) W c s) (p o : Var) (part : is_part p ≡ true) (live : p.consumed ≡ false) (new : p.place ≡ c.next)
    (owner : find_var c.vars (variable p.part.name) ≡ Some o) (there : o.consumed ≡ false) (kind : part_type o.ty.classical o.ty.shape (indices p.part) ≡ Some p.ty) (same : p.origin ≡ o.origin) where
  -- the new place shows the wires of the part
  abbrev pub with_its : Places
  with_its = with_place W c.next (part_of o.ty.shape (indices p.part) (W o.place))

  abbrev pub taken_from : Context
  taken_from = record { vars = c.vars ++ p ∷ []; next = suc c.next }

  pub owner_below : o.place < c.next
  owner_below = live_below c.vars (variable p.part.name) o owner there (λ l. let a = b.sole.ahead o.place l in omega (arith, a))

  pub stays_below : (q : ℕ) → q < c.next → with_its q ≡ W q
  stays_below q lt = place_agrees W c.next c.next (part_of o.ty.shape (indices p.part) (W o.place)) (omega arith) q lt

  pub its_part : IsPartOf with_its p o
  its_part = record {
    live = there;
    kind = kind;
    same = same;
    wires = ap with_its new ∙ (its_place W c.next (part_of o.ty.shape (indices p.part) (W o.place)) ∙ ap (part_of o.ty.shape (indices p.part)) (sym (stays_below o.place owner_below)));
  }

  before_it : Stands out sc.held with_its [] c s
  before_it =
      stands_agree with_its out sc.held W [] c s (vars_same W c.next (part_of o.ty.shape (indices p.part) (W o.place)) c.vars (let a = b.sole.ahead c.next (omega arith) in omega (arith, a))) tt
      (all_more (λ v. is_part v ≡ false) (FitsPart with_its c.vars) c.vars (λ v e t. clash (sym t ∙ e)) b.whole) b.stands

  pub stands_with : Stands out sc.held with_its [] taken_from s
  stands_with = stands_taken out sc.held with_its [] c s p o (suc c.next) before_it b.whole part live owner its_part

  -- nobody owns more wires than before
  pub owners_with : (w : WireId) → owners_of with_its taken_from.vars [] w ≡ owners_of W c.vars [] w
  owners_with w =
      owners_taken out sc.held with_its [] c s p o (suc c.next) before_it b.whole part live owner its_part w
      ∙ ap (λ k. k + 0) (holders_same with_its W c.vars c.vars w (vars_same W c.next (part_of o.ty.shape (indices p.part) (W o.place)) c.vars (let a = b.sole.ahead c.next (omega arith) in omega (arith, a))))

  sole_with : Sole low (λ q. 0) taken_from
  sole_with = record {
    grown = let a = b.sole.grown in omega (arith, a);
    one = λ q. let a = appended_sum (owns q) (owners q) (λ v vs. refl) c.vars p in one q (c.next == q) refl a;
    ahead = λ q le. let a = appended_sum (owns q) (owners q) (λ v vs. refl) c.vars p in ahead q le (c.next == q) refl a;
  }
    where
      mine : (q : ℕ) → owns q p ≡ at_place q c.next
      mine q = ap₂ (λ t n. cond t 0 (at_place q n)) live new

      one : (q : ℕ) (t : Bool) → (c.next == q) ≡ t → owners q (c.vars ++ p ∷ []) ≡ owners q c.vars + owns q p → owners q (c.vars ++ p ∷ []) + 0 ≤ 1
      one q true e a = let m = mine q ∙ ap (λ t. cond t 1 0) e in let i = eqb-true c.next q e in let z = b.sole.ahead q (omega (arith, i)) in omega (arith, m, z, a)
      one q false e a = let m = mine q ∙ ap (λ t. cond t 1 0) e in let z = b.sole.one q in omega (arith, m, z, a)

      ahead : (q : ℕ) → suc c.next ≤ q → (t : Bool) → (c.next == q) ≡ t → owners q (c.vars ++ p ∷ []) ≡ owners q c.vars + owns q p → owners q (c.vars ++ p ∷ []) + 0 ≡ 0
      ahead q le true e a = let i = eqb-true c.next q e in absurd (omega (arith, i, le))
      ahead q le false e a = let m = mine q ∙ ap (λ t. cond t 1 0) e in let z = b.sole.ahead q (omega (arith, le)) in omega (arith, m, z, a)

  pub begins_with_part : (us : List Use) → Begins out sc low (λ q. 0) with_its [] us taken_from s
  begins_with_part us = record {
    good = b.good;
    unmade = b.unmade;
    sole = sole_with;
    counted = λ q. omega arith;
    stands = stands_with;
    open_air = b.open_air;
    apart = λ w t. subst (AllOf (λ k. names k w ≡ false)) (sym b.none) tt;
    placed =
        all_appended (λ v. is_part v ≡ true → v.place < suc c.next) c.vars p (all_more (λ v. is_part v ≡ false) (λ v. is_part v ≡ true → v.place < suc c.next) c.vars (λ v e t. clash (sym t ∙ e)) b.whole)
        (λ t. let n = new in omega (arith, n));
    lone = one_in c.vars p b.whole;
  }
