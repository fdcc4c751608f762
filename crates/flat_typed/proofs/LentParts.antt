-- A part that was taken out is consumed: the relation stands with its value under way, and its variable lent.
use Rattle.std.proofs.Common.{◌≡◌, ◌⊎◌, inl, inr, ℕ, ◌+◌, ◌≤◌, Bool, true, false, cond, not, ◌||◌, List, [], ◌∷◌, refl, sym, ap, ap₂, ◌∙◌, subst, arith}
use Rattle.std.specs.Prelude.{Option, Some, None}
use Rattle.silq_tree.specs.declared.node.NameId.{NameId}
use Rattle.silq_types.specs.declared.values.Origin.{Origin}
use Rattle.silq_types.specs.declared.values.Part.{Part}
use Rattle.silq_types.specs.declared.values.Value.{Value}
use Rattle.silq_types.specs.declared.values.Var.{Var}
use Rattle.silq_types.specs.Types.{same_name, is_linear, is_held}
use Rattle.check_scope.specs.Context.{Context, indices, variable, part_at, same_part, find_var, replace, is_in_condition}
use Rattle.check_expr.proofs.Alike.{same_part_same}
use Rattle.silq_mean.specs.Env.{in_its_block}
use Rattle.flat_core.specs.declared.step.WireId.{WireId}
use Rattle.flat_form.specs.declared.known.Known.{Known}
use Rattle.flat_form.specs.declared.known.Known.TheVariants.{Absent}
use Rattle.flat_form.specs.State.{Flattening, push, wires_in, part_of}
use Rattle.flat_form.specs.Names.{AllOf, operands_in, names}
use Rattle.flat_typed.specs.Places.{Places, is_part, is_shared, has_wires, part_out, less_part, bits_for, shown, times_in, holds, holders, linear_holders, owners_of, linear_owners}
use Rattle.flat_typed.specs.Relation.{FitsPart, HasNone, IsPartOf, Outside, PartsDiffer, SparesGuarded, Stands}
use Rattle.flat_typed.proofs.Ordered.{clash, Once, changed, its_in_order, same_is_equal}
use Rattle.flat_typed.proofs.Parts.{some_same, name_refl, named_so, found_there, once_entries}
use Rattle.flat_typed.proofs.Changes.{whole_is}
use Rattle.flat_typed.proofs.Moving.{spent, handed_on, all_replaced, all_more, found_all}
use Rattle.flat_typed.proofs.Spans.{part_and_outside}
use Rattle.flat_typed.proofs.There.{part_class}
use Rattle.flat_typed.proofs.Lending.{out_lent, out_other, entries_part, entries_lent}

-- ---- sums over variables

-- the same sum where a part is consumed
part_sum : (f : Var → ℕ) (F : List Var → ℕ) → ((v : Var) (vs : List Var) → F (v ∷ vs) ≡ f v + F vs) → (p : Var) → f (spent p) ≡ f p → (vs : List Var) → find_var vs p.part ≡ Some p → F (replace vs (spent p)) ≡ F vs
part_sum f F rec p same [] e = refl
part_sum f F rec p same (v ∷ vs) e = go (same_part v.part p.part) refl e (part_sum f F rec p same vs)
  where
    go : (t : Bool) → same_part v.part p.part ≡ t → cond t (Some v) (find_var vs p.part) ≡ Some p → (find_var vs p.part ≡ Some p → F (replace vs (spent p)) ≡ F vs) → F (cond (same_part v.part p.part) (spent p ∷ vs) (v ∷ replace vs (spent p))) ≡ F (v ∷ vs)
    go true s e i =
        ap (λ t. F (cond t (spent p ∷ vs) (v ∷ replace vs (spent p)))) s
        ∙ (rec (spent p) vs ∙ (ap (λ n. n + F vs) (same ∙ ap f (sym (some_same v p e))) ∙ sym (rec v vs)))
    go false s e i = ap (λ t. F (cond t (spent p ∷ vs) (v ∷ replace vs (spent p)))) s ∙ (rec v (replace vs (spent p)) ∙ (ap (λ n. f v + n) (i e) ∙ sym (rec v vs)))

-- the sums differ by what one whole variable differs by
module _ (f g : Var → ℕ) (F G : List Var → ℕ) (recF : (v : Var) (vs : List Var) → F (v ∷ vs) ≡ f v + F vs) (recG : (v : Var) (vs : List Var) → G (v ∷ vs) ≡ g v + G vs) (start : F [] ≡ G []) (x : NameId) (parts : (v : Var) → is_part v ≡ true → f v ≡ g v) (rest : (v : Var) → same_name v.part.name x ≡ false → f v ≡ g v) where
  others_sum : (vs : List Var) → AllOf (λ (v : Var). is_part v ≡ false → same_name v.part.name x ≡ false) vs → F vs ≡ G vs
  others_sum [] h = start
  others_sum (v ∷ vs) h = recF v vs ∙ (ap₂ (λ a b. a + b) (one (is_part v) refl) (others_sum vs h.1) ∙ sym (recG v vs))
    where
      one : (t : Bool) → is_part v ≡ t → f v ≡ g v
      one true e = parts v e
      one false e = rest v (h.0 e)

  pub one_sum : (o : Var) (k : ℕ) → f o + k ≡ g o → (vs : List Var) → find_var vs (variable x) ≡ Some o → PartsDiffer vs → F vs + k ≡ G vs
  one_sum o k h [] e d = absurd (grind (arith, e))
  one_sum o k h (v ∷ vs) e d = go (same_part v.part (variable x)) refl e (λ q. one_sum o k h vs q d.1)
    where
      same : (t : Bool) → is_part v ≡ t → same_part v.part (variable x) ≡ false → f v ≡ g v
      same true t n = parts v t
      same false t n = rest v (sym (named_so v x t) ∙ n)

      go : (t : Bool) → same_part v.part (variable x) ≡ t → cond t (Some v) (find_var vs (variable x)) ≡ Some o → (find_var vs (variable x) ≡ Some o → F vs + k ≡ G vs) → F (v ∷ vs) + k ≡ G (v ∷ vs)
      go true s e i =
          let its : v ≡ o = some_same v o e in
          let none = others_sum vs (all_more (λ (u : Var). same_part u.part v.part ≡ false) (λ (u : Var). is_part u ≡ false → same_name u.part.name x ≡ false) vs (λ u n t. sym (named_so u x t) ∙ (ap (same_part u.part) (sym (same_part_same v.part (variable x) s)) ∙ n)) d.0) in
          let a = recF v vs in
          let b = recG v vs in
          let q : f v + k ≡ g v = ap (λ u. f u + k) its ∙ (h ∙ ap g (sym its)) in
          omega (arith, none, a, b, q)
      go false s e i = let a = recF v vs in let b = recG v vs in let q = same (is_part v) refl s in let r = i e in omega (arith, a, b, q, r)

-- a part owns nothing
pub part_holds : (W : Places) (all : List Var) (w : WireId) (u : Var) → is_part u ≡ true → holds W all w u ≡ 0
part_holds W all w u q = ap (λ t. cond (not ((u.consumed || t) || is_shared u)) (times_in w (operands_in (shown W all u))) 0) q ∙ flat u.consumed
  where
    flat : (t : Bool) → cond (not ((t || true) || is_shared u)) (times_in w (operands_in (shown W all u))) 0 ≡ 0
    flat true = refl
    flat false = refl

differ_spent : (vs : List Var) (p : Var) → find_var vs p.part ≡ Some p → PartsDiffer vs → PartsDiffer (replace vs (spent p))
differ_spent [] p e d = tt
differ_spent (v ∷ vs) p e d = go (same_part v.part p.part) refl e (λ q. differ_spent vs p q d.1)
  where
    go : (t : Bool) → same_part v.part p.part ≡ t → cond t (Some v) (find_var vs p.part) ≡ Some p → (find_var vs p.part ≡ Some p → PartsDiffer (replace vs (spent p))) → PartsDiffer (cond (same_part v.part p.part) (spent p ∷ vs) (v ∷ replace vs (spent p)))
    go true s e i = subst (λ t. PartsDiffer (cond t (spent p ∷ vs) (v ∷ replace vs (spent p)))) (sym s) (subst (λ (u : Var). HasNone vs u.part) (some_same v p e) d.0, d.1)
    go false s e i =
        subst (λ t. PartsDiffer (cond t (spent p ∷ vs) (v ∷ replace vs (spent p)))) (sym s)
        (all_replaced (λ (u : Var). same_part u.part v.part ≡ false) vs (spent p) d.0 (found_all (λ (u : Var). same_part u.part v.part ≡ false) vs p.part p e d.0), i e)

pub name_swap : (y x : NameId) → same_name y x ≡ false → same_name x y ≡ false
name_swap y x n = go (same_name x y) refl
  where
    go : (t : Bool) → same_name x y ≡ t → t ≡ false
    go false e = refl
    go true e = clash (sym (name_refl y) ∙ (ap (same_name y) (sym (same_is_equal x y e)) ∙ n))

-- ---- the relation

module _ (out : Outside) (held : List (List Part)) (W : Places) (under : List Value) (c : Context) (s : Flattening) (p o : Var) (k : Known) (r : Stands out held W under c s) (found : find_var c.vars p.part ≡ Some p) (part : is_part p ≡ true)
    (owner : find_var c.vars (variable p.part.name) ≡ Some o) (of : IsPartOf W p o) (own : is_shared o ≡ false) (none : part_out c.vars p.part.name ≡ None) where
  abbrev x : NameId
  x = p.part.name

  abbrev after : List Var
  after = replace c.vars (spent p)

  abbrev lent : Known
  lent = shown W after o

  same : (y : NameId) → same_name x y ≡ false → part_out after y ≡ part_out c.vars y
  same y n = out_other p part c.vars y found n

  its : o.part ≡ variable x
  its = found_there c.vars x o owner

  has : has_wires o ≡ true
  has = ap (λ t. not ((t || is_part o) || is_shared o)) of.live ∙ (ap (λ t. not (t || is_shared o)) (whole_is o x its) ∙ ap not own)

  showing : (all : List Var) (q : Option Var) → part_out all x ≡ q → shown W all o ≡ less_part q (bits_for W o)
  showing all q e = ap (λ t. cond t Absent (less_part (part_out all o.part.name) (bits_for W o))) of.live ∙ ap (λ z. less_part z (bits_for W o)) (ap (λ (z : Part). part_out all z.name) its ∙ e)

  -- the variable has what stands outside the part
  split : (w : WireId) → holds W after w o + times_in w (W p.place) ≡ holds W c.vars w o
  split w =
      let a : holds W after w o ≡ times_in w (operands_in (less_part (Some (spent p)) (bits_for W o))) = ap (λ t. cond t (times_in w (operands_in lent)) 0) has ∙ ap (λ z. times_in w (operands_in z)) (showing after (Some (spent p)) (out_lent p part c.vars found none)) in
      let b : holds W c.vars w o ≡ times_in w (W o.place) = ap (λ t. cond t (times_in w (operands_in (shown W c.vars o))) 0) has ∙ ap (λ z. times_in w (operands_in z)) (showing c.vars None none) in
      let d : times_in w (W p.place) ≡ times_in w (part_of o.ty.shape (indices p.part) (W o.place)) = ap (times_in w) of.wires in
      let e = part_and_outside w o.ty.shape (indices p.part) (W o.place) in
      omega (arith, a, b, d, e)

  other_shown : (v : Var) → same_name v.part.name x ≡ false → shown W after v ≡ shown W c.vars v
  other_shown v n = ap (λ z. cond v.consumed Absent (less_part z (bits_for W v))) (same v.part.name (name_swap v.part.name x n))

  other_holds : (w : WireId) (v : Var) → same_name v.part.name x ≡ false → holds W after w v ≡ holds W c.vars w v
  other_holds w v n = ap (λ z. cond (has_wires v) (times_in w (operands_in z)) 0) (other_shown v n)

  owners_lent : (w : WireId) → owners_of W after (handed_on p ∷ under) w ≡ owners_of W c.vars under w
  owners_lent w =
      let a = part_sum (holds W after w) (holders W after w) (λ v vs. refl) p (sym (part_holds W after w p part)) c.vars found in
      let b = one_sum (holds W after w) (holds W c.vars w) (holders W after w) (holders W c.vars w) (λ v vs. refl) (λ v vs. refl) refl x (λ v t. part_holds W after w v t ∙ sym (part_holds W c.vars w v t)) (other_holds w) o (times_in w (W p.place)) (split w) c.vars owner r.differ in
      omega (arith, a, b)

  linear_at : List Var → WireId → Var → ℕ
  linear_at all w v = cond (is_linear v.origin) (holds W all w v) 0

  linear_part : (all : List Var) (w : WireId) (v : Var) → is_part v ≡ true → cond (is_linear v.origin) (holds W all w v) 0 ≡ 0
  linear_part all w v t = ap (λ n. cond (is_linear v.origin) n 0) (part_holds W all w v t) ∙ flat (is_linear v.origin)
    where
      flat : (b : Bool) → ◌≡◌ {A = ℕ} (cond b 0 0) 0
      flat true = refl
      flat false = refl

  linear_split : (w : WireId) → cond (is_linear o.origin) (holds W after w o) 0 + cond (is_linear p.origin) (times_in w (W p.place)) 0 ≡ cond (is_linear o.origin) (holds W c.vars w o) 0
  linear_split w = ap (λ (z : Origin). cond (is_linear o.origin) (holds W after w o) 0 + cond (is_linear z) (times_in w (W p.place)) 0) of.same ∙ go (is_linear o.origin)
    where
      go : (t : Bool) → cond t (holds W after w o) 0 + cond t (times_in w (W p.place)) 0 ≡ cond t (holds W c.vars w o) 0
      go true = split w
      go false = refl

  linear_lent : (w : WireId) → linear_owners W after (handed_on p ∷ under) w ≡ linear_owners W c.vars under w
  linear_lent w =
      let a = part_sum (λ v. cond (is_linear v.origin) (holds W after w v) 0) (linear_holders W after w) (λ v vs. refl) p (linear_part after w (spent p) part ∙ sym (linear_part after w p part)) c.vars found in
      let b = one_sum (λ v. cond (is_linear v.origin) (holds W after w v) 0) (λ v. cond (is_linear v.origin) (holds W c.vars w v) 0) (linear_holders W after w) (linear_holders W c.vars w) (λ v vs. refl) (λ v vs. refl) refl x
      (λ v t. linear_part after w v t ∙ sym (linear_part c.vars w v t)) (λ v n. ap (λ m. cond (is_linear v.origin) m 0) (other_holds w v n)) o (cond (is_linear p.origin) (times_in w (W p.place)) 0) (linear_split w) c.vars owner r.differ in
      omega (arith, a, b)

  -- what has the variable's name does not share its wires
  unshared : (v : Var) → FitsPart W c.vars v → (find_var c.vars v.part ≡ Some v) → same_name v.part.name x ≡ true → is_shared v ≡ false
  unshared v fits here n = go (is_part v) refl
    where
      name : v.part.name ≡ x
      name = same_is_equal v.part.name x n

      go : (t : Bool) → is_part v ≡ t → is_shared v ≡ false
      go true t =
          let a = fits t in
          let z : a.0 ≡ o = some_same a.0 o (sym a.1 ∙ (ap (λ y. find_var c.vars (variable y)) name ∙ owner)) in
          ap₂ (λ (b : Bool) (q : Origin). b || is_held q) (part_class a.0.ty.classical a.0.ty.shape (indices v.part) v.ty a.2.kind) a.2.same ∙ (ap is_shared z ∙ own)
      go false t =
          let z : v ≡ o = some_same v o (sym here ∙ (ap (find_var c.vars) (same_part_same v.part (variable x) (named_so v x t ∙ n)) ∙ owner)) in
          ap is_shared z ∙ own

  shares : (w : WireId) (vs : List Var) → AllOf (FitsPart W c.vars) vs → AllOf (λ (v : Var). find_var c.vars v.part ≡ Some v) vs → AllOf (λ v. is_shared v ≡ true → names (shown W c.vars v) w ≡ false) vs → AllOf (λ v. is_shared v ≡ true → names (shown W after v) w ≡ false) vs
  shares w [] f g h = tt
  shares w (v ∷ vs) f g h = (one (same_name v.part.name x) refl, shares w vs f.1 g.1 h.1)
    where
      one : (t : Bool) → same_name v.part.name x ≡ t → is_shared v ≡ true → names (shown W after v) w ≡ false
      one true n q = clash (sym q ∙ unshared v f.0 g.0 n)
      one false n q = ap (λ z. names z w) (other_shown v n) ∙ h.0 q

  before : (w : WireId) → 1 ≤ owners_of W after (handed_on p ∷ under) w → 1 ≤ owners_of W c.vars under w
  before w le = subst (λ n. 1 ≤ n) (owners_lent w) le

  unguarded : is_in_condition held (part_at x (indices p.part)) ≡ false → AllOf (λ w. out.guarded w ≡ false) (wires_in (W p.place))
  unguarded loose =
      subst (λ l. AllOf (λ w. out.guarded w ≡ false) (wires_in l)) (sym of.wires)
      (found_all (SparesGuarded out.guarded held W) c.vars (variable x) o owner r.spares has (indices p.part) p.ty of.kind
      (ap (λ (q : Part). is_in_condition held (part_at q.name (indices p.part))) its ∙ loose))

  still_owed : (w : WireId) → (1 ≤ linear_owners W c.vars under w) ⊎ (out.answered w ≡ true) → (1 ≤ linear_owners W after (handed_on p ∷ under) w) ⊎ (out.answered w ≡ true)
  still_owed w (inl le) = inl (subst (λ n. 1 ≤ n) (sym (linear_lent w)) le)
  still_owed w (inr a) = inr a

  -- a consumed use of the part, where each variable is the one that is found by its part
  pub stands_lent : is_in_condition held (part_at x (indices p.part)) ≡ false → AllOf (λ (v : Var). find_var c.vars v.part ≡ Some v) c.vars → AllOf (FitsPart W after) after
      → Stands out held W (handed_on p ∷ under) (record c { vars = after }) (push k (record s { env = in_its_block s.env x lent }))
  stands_lent loose each fit = record {
    env =
        its_in_order s.env x lent (subst Once (sym r.env) (once_entries W c.vars c.vars r.differ))
        ∙ (ap (λ b. changed b x lent) r.env ∙ (sym (entries_lent W c.vars after x same (λ y n. name_swap y x n) o c.vars owner r.differ) ∙ sym (entries_part p part W after c.vars found)));
    differ = differ_spent c.vars p found r.differ;
    parts = fit;
    one = λ w. subst (λ n. n ≤ 1) (sym (owners_lent w)) (r.one w);
    free = λ w le. r.free w (before w le);
    untold = λ w le. r.untold w (before w le);
    shared = λ w le. all_replaced (λ v. is_shared v ≡ true → names (shown W after v) w ≡ false) c.vars (spent p) (shares w c.vars r.parts each (r.shared w (before w le))) (λ q. refl);
    callers = λ w le. r.callers w (before w le);
    guards = r.guards;
    below = r.below;
    spares = all_replaced (SparesGuarded out.guarded held W) c.vars (spent p) r.spares (λ b. clash (sym b));
    carried = (unguarded loose, r.carried);
    owed = λ w d. still_owed w (r.owed w (record { there = d.there; untold = d.untold; why = d.why }));
  }
