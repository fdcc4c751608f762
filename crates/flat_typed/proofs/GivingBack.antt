-- The value that a part takes over is given back to its variable: the relation stands again, with the variable as a whole.
use Rattle.std.proofs.Common.{◌≡◌, ◌⊎◌, inl, inr, ℕ, ◌+◌, ◌≤◌, Bool, true, false, cond, not, ◌&&◌, ◌||◌, List, [], ◌∷◌, ◌++◌, refl, sym, ap, ap₂, ◌∙◌, subst, arith}
use Rattle.std.specs.Prelude.{Option, Some, None}
use Rattle.silq_tree.specs.declared.node.NameId.{NameId}
use Rattle.silq_types.specs.declared.values.Origin.{Origin}
use Rattle.silq_types.specs.declared.values.Part.{Part}
use Rattle.silq_types.specs.declared.values.Value.{Value}
use Rattle.silq_types.specs.declared.values.Var.{Var}
use Rattle.silq_types.specs.Types.{same_name, is_held, is_linear}
use Rattle.check_scope.specs.Context.{indices, variable, same_part, find_var, replace}
use Rattle.check_expr.proofs.Alike.{same_part_same}
use Rattle.silq_mean.specs.Env.{bound, is_in_block}
use Rattle.flat_core.specs.declared.step.WireId.{WireId}
use Rattle.flat_form.specs.declared.known.Known.{Known}
use Rattle.flat_form.specs.declared.known.Known.TheVariants.{Absent}
use Rattle.flat_form.specs.State.{Flattening, part_of}
use Rattle.flat_form.specs.Names.{AllOf, operands_in, names}
use Rattle.flat_typed.specs.Places.{Places, is_part, is_shared, has_wires, part_out, less_part, bits_for, shown, entries, in_order, times_in, holds, holders, linear_holders, owners_of, linear_owners}
use Rattle.flat_typed.specs.Relation.{PartsDiffer, FitsPart, IsPartOf, SparesGuarded, Outside, Stands}
use Rattle.flat_typed.proofs.Ordered.{clash, or_left, Once, changed, bound_in_order}
use Rattle.flat_typed.proofs.Parts.{some_same, name_refl, named_so, found_there, once_entries, there_entry}
use Rattle.flat_typed.proofs.Changes.{whole_is, out_replaced, entries_replaced, entries_with}
use Rattle.flat_typed.proofs.Moving.{all_replaced, all_more, found_all, differ_replaced, holders_with, linear_with}
use Rattle.flat_typed.proofs.Binding.{replaced_sum, appended_sum, none_out}
use Rattle.flat_typed.proofs.Spans.{part_and_outside}
use Rattle.flat_typed.proofs.LentParts.{part_holds, one_sum, name_swap}
use Rattle.flat_typed.proofs.Lending.{entries_lent}
use Rattle.flat_typed.proofs.TakingOut.{found_whole, entries_taken}
use Rattle.flat_typed.proofs.Lone.{each_found}

-- ---- lists

changed_twice : (b : List (NameId × Known)) (x : NameId) (k : Known) → changed (changed b x k) x k ≡ changed b x k
changed_twice [] x k = refl
changed_twice (e ∷ es) x k = go (same_name e.0 x) refl (changed_twice es x k)
  where
    go : (t : Bool) → same_name e.0 x ≡ t → changed (changed es x k) x k ≡ changed es x k → changed (cond t ((e.0, k) ∷ es) (e ∷ changed es x k)) x k ≡ cond t ((e.0, k) ∷ es) (e ∷ changed es x k)
    go true s i = ap (λ t. cond t ((e.0, k) ∷ es) ((e.0, k) ∷ changed es x k)) s
    go false s i = ap (λ t. cond t ((e.0, k) ∷ changed es x k) (e ∷ changed (changed es x k) x k)) s ∙ ap (λ l. e ∷ l) i

all_before : (Q : Var → Type 0) (vs : List Var) (p : Var) → AllOf Q (vs ++ p ∷ []) → AllOf Q vs
all_before Q [] p h = tt
all_before Q (v ∷ vs) p h = (h.0, all_before Q vs p h.1)

differ_before : (vs : List Var) (p : Var) → PartsDiffer (vs ++ p ∷ []) → PartsDiffer vs
differ_before [] p h = tt
differ_before (v ∷ vs) p h = (all_before (λ (u : Var). same_part u.part v.part ≡ false) vs p h.0, differ_before vs p h.1)

-- the last part is under way
pub out_last : (vs : List Var) (p : Var) → AllOf (λ v. is_part v ≡ false) vs → is_part p ≡ true → p.consumed ≡ true → part_out (vs ++ p ∷ []) p.part.name ≡ Some p
out_last [] p h part gone = ap₂ (λ a b. cond (a && (b && same_name p.part.name p.part.name)) (Some p) None) part gone ∙ ap (λ t. cond t (Some p) None) (name_refl p.part.name)
out_last (v ∷ vs) p h part gone = ap (λ t. cond (t && (v.consumed && same_name v.part.name p.part.name)) (Some v) (part_out (vs ++ p ∷ []) p.part.name)) h.0 ∙ out_last vs p h.1 part gone

out_beside : (vs : List Var) (p : Var) (y : NameId) → AllOf (λ v. is_part v ≡ false) vs → same_name p.part.name y ≡ false → part_out (vs ++ p ∷ []) y ≡ None
out_beside [] p y h n = ap (λ t. cond (is_part p && (p.consumed && t)) (Some p) None) n ∙ (ap (λ t. cond (is_part p && t) (Some p) None) (none_and p.consumed) ∙ ap (λ t. cond t (Some p) None) (none_and (is_part p)))
  where
    none_and : (t : Bool) → (t && false) ≡ false
    none_and true = refl
    none_and false = refl
out_beside (v ∷ vs) p y h n = ap (λ t. cond (t && (v.consumed && same_name v.part.name y)) (Some v) (part_out (vs ++ p ∷ []) y)) h.0 ∙ out_beside vs p y h.1 n

-- ---- the relation

module _ (out : Outside) (held : List (List Part)) (U : Places) (under : List Value) (n : ℕ) (s : Flattening) (D : List Var) (p o : Var) (v : Value) (new : Origin) (r : Stands out held U (v ∷ under) (record { vars = D ++ p ∷ []; next = n }) s) (whole : AllOf (λ u. is_part u ≡ false) D)
    (part : is_part p ≡ true) (gone : p.consumed ≡ true) (owner : find_var D (variable p.part.name) ≡ Some o) (of : IsPartOf U p o) (own : is_shared o ≡ false) (place : v.place ≡ p.place) (unheld : is_held new ≡ false)
    (was_linear : is_linear o.origin ≡ true → is_linear new ≡ true) (is_linear_now : is_linear v.origin ≡ true → is_linear new ≡ true) where
  abbrev x : NameId
  x = p.part.name

  abbrev before : List Var
  before = D ++ p ∷ []

  abbrev pub its_owner : Var
  its_owner = record o { origin = new }

  abbrev pub given_back : List Var
  given_back = replace D its_owner

  abbrev given : Known
  given = shown U D o

  its : o.part ≡ variable x
  its = found_there D x o owner

  others : (y : NameId) → same_name x y ≡ false → part_out D y ≡ part_out before y
  others y n = none_out D y whole ∙ sym (out_beside D p y whole n)

  back : (y : NameId) → part_out D y ≡ part_out given_back y
  back y = sym (out_replaced D its_owner x its y)

  -- ---- names

  differs : PartsDiffer D
  differs = differ_before D p r.differ

  shows : in_order (bound s.env x given) ≡ entries U given_back given_back
  shows =
      bound_in_order s.env x given (subst Once (sym r.env) (once_entries U before before r.differ))
      ∙ (ap (λ b. cond (is_in_block b x) (changed b x given) (b ++ (x, given) ∷ [])) r.env
      ∙ (ap (λ t. cond t (changed (entries U before before) x given) (entries U before before ++ (x, given) ∷ [])) (there_entry U before before x o (found_whole p part D x ∙ owner))
      ∙ (ap (λ b. changed b x given) (entries_taken p part U before D)
      ∙ (sym (changed_twice (entries U before D) x given)
      ∙ (ap (λ b. changed b x given) (sym (entries_lent U before D x others (λ y n. name_swap y x n) o D owner differs))
      ∙ (sym (entries_replaced U D D its_owner x its) ∙ entries_with U D given_back given_back back))))))

  -- ---- owners

  own_now : is_shared its_owner ≡ false
  own_now = ap₂ (λ a b. a || b) (or_left o.ty.classical (is_held o.origin) own) unheld

  has : has_wires o ≡ true
  has = ap₂ (λ a b. not (a || b)) (ap₂ (λ a b. a || b) of.live (whole_is o x its)) own

  has_now : has_wires its_owner ≡ true
  has_now = ap₂ (λ a b. not (a || b)) (ap₂ (λ a b. a || b) of.live (whole_is o x its)) own_now

  showing : (all : List Var) (q : Option Var) → part_out all x ≡ q → shown U all o ≡ less_part q (bits_for U o)
  showing all q e = ap (λ t. cond t Absent (less_part (part_out all o.part.name) (bits_for U o))) of.live ∙ ap (λ z. less_part z (bits_for U o)) (ap (λ (z : Part). part_out all z.name) its ∙ e)

  abbrev times : WireId → ℕ
  times w = times_in w (U p.place)

  -- what it owns as a whole
  holds_whole : (w : WireId) → holds U D w o ≡ times_in w (U o.place)
  holds_whole w = ap (λ t. cond t (times_in w (operands_in (shown U D o))) 0) has ∙ ap (λ z. times_in w (operands_in z)) (showing D None (none_out D x whole))

  holds_now : (w : WireId) → holds U D w its_owner ≡ times_in w (U o.place)
  holds_now w = ap (λ t. cond t (times_in w (operands_in (shown U D o))) 0) has_now ∙ ap (λ z. times_in w (operands_in z)) (showing D None (none_out D x whole))

  split : (w : WireId) → holds U before w o + times w ≡ holds U D w o
  split w =
      let a : holds U before w o ≡ times_in w (operands_in (less_part (Some p) (bits_for U o))) = ap (λ t. cond t (times_in w (operands_in (shown U before o))) 0) has ∙ ap (λ z. times_in w (operands_in z)) (showing before (Some p) (out_last D p whole part gone)) in
      let b = holds_whole w in
      let d : times w ≡ times_in w (part_of o.ty.shape (indices p.part) (U o.place)) = ap (times_in w) of.wires in
      let e = part_and_outside w o.ty.shape (indices p.part) (U o.place) in
      omega (arith, a, b, d, e)

  other_holds : (w : WireId) (u : Var) → same_name u.part.name x ≡ false → holds U before w u ≡ holds U D w u
  other_holds w u n = ap (λ z. cond (has_wires u) (times_in w (operands_in (cond u.consumed Absent (less_part z (bits_for U u))))) 0) (sym (others u.part.name (name_swap u.part.name x n)))

  part_same : (w : WireId) (u : Var) → is_part u ≡ true → holds U before w u ≡ holds U D w u
  part_same w u t = part_holds U before w u t ∙ sym (part_holds U D w u t)

  owners_back : (w : WireId) → owners_of U given_back under w ≡ owners_of U before (v ∷ under) w
  owners_back w =
      let a = appended_sum (holds U before w) (holders U before w) (λ u us. refl) D p in
      let b = part_holds U before w p part in
      let d = one_sum (holds U before w) (holds U D w) (holders U before w) (holders U D w) (λ u us. refl) (λ u us. refl) refl x (part_same w) (other_holds w) o (times w) (split w) D owner differs in
      let e = replaced_sum (holds U D w) (holders U D w) (λ u us. refl) D x o its_owner owner its in
      let f = holds_whole w in
      let g = holds_now w in
      let h = holders_with U D given_back w given_back back in
      let i = ap (λ q. times_in w (U q)) place in
      omega (arith, a, b, d, e, f, g, h, i)

  -- ---- Linear owners

  abbrev counts : List Var → WireId → Var → ℕ
  counts all w u = cond (is_linear u.origin) (holds U all w u) 0

  counts_part : (all : List Var) (w : WireId) (u : Var) → is_part u ≡ true → cond (is_linear u.origin) (holds U all w u) 0 ≡ 0
  counts_part all w u t = ap (λ k. cond (is_linear u.origin) k 0) (part_holds U all w u t) ∙ none (is_linear u.origin)
    where
      none : (b : Bool) → ◌≡◌ {A = ℕ} (cond b 0 0) 0
      none true = refl
      none false = refl

  linear_split : (w : WireId) → cond (is_linear o.origin) (holds U before w o) 0 + cond (is_linear o.origin) (times w) 0 ≡ cond (is_linear o.origin) (holds U D w o) 0
  linear_split w = go (is_linear o.origin)
    where
      go : (t : Bool) → cond t (holds U before w o) 0 + cond t (times w) 0 ≡ cond t (holds U D w o) 0
      go true = split w
      go false = refl

  -- what the variable counts for behind it is no less than what it and the value did
  linear_more : (w : WireId) → cond (is_linear o.origin) (holds U before w o) 0 + cond (is_linear v.origin) (times w) 0 ≤ cond (is_linear new) (holds U D w its_owner) 0
  linear_more w = go (is_linear o.origin) refl (is_linear v.origin) refl
    where
      all : is_linear new ≡ true → (a b : Bool) → cond a (holds U before w o) 0 + cond b (times w) 0 ≤ cond (is_linear new) (holds U D w its_owner) 0
      all e true true = let l = ap (λ t. cond t (holds U D w its_owner) 0) e in let a = split w in let b = holds_whole w in let d = holds_now w in omega (arith, l, a, b, d)
      all e true false = let l = ap (λ t. cond t (holds U D w its_owner) 0) e in let a = split w in let b = holds_whole w in let d = holds_now w in omega (arith, l, a, b, d)
      all e false true = let l = ap (λ t. cond t (holds U D w its_owner) 0) e in let a = split w in let b = holds_whole w in let d = holds_now w in omega (arith, l, a, b, d)
      all e false false = omega arith

      go : (a : Bool) → is_linear o.origin ≡ a → (b : Bool) → is_linear v.origin ≡ b → cond a (holds U before w o) 0 + cond b (times w) 0 ≤ cond (is_linear new) (holds U D w its_owner) 0
      go true e b f = all (was_linear e) true b
      go false e true f = all (is_linear_now f) false true
      go false e false f = omega arith

  linear_back : (w : WireId) → linear_owners U before (v ∷ under) w ≤ linear_owners U given_back under w
  linear_back w =
      let a = appended_sum (counts before w) (linear_holders U before w) (λ u us. refl) D p in
      let b = counts_part before w p part in
      let d = one_sum (counts before w) (counts D w) (linear_holders U before w) (linear_holders U D w) (λ u us. refl) (λ u us. refl) refl x
      (λ u t. counts_part before w u t ∙ sym (counts_part D w u t)) (λ u n. ap (λ m. cond (is_linear u.origin) m 0) (other_holds w u n)) o (cond (is_linear o.origin) (times w) 0) (linear_split w) D owner differs in
      let e = replaced_sum (counts D w) (linear_holders U D w) (λ u us. refl) D x o its_owner owner its in
      let f = linear_split w in
      let g = linear_more w in
      let h = linear_with U D given_back w given_back back in
      let i = ap (λ q. cond (is_linear v.origin) (times_in w (U q)) 0) place in
      omega (arith, a, b, d, e, f, g, h, i)

  -- ---- what shares wires

  whole_now : AllOf (λ u. is_part u ≡ false) given_back
  whole_now = all_replaced (λ u. is_part u ≡ false) D its_owner whole (whole_is o x its)

  shares : (w : WireId) → AllOf (λ u. is_shared u ≡ true → names (shown U before u) w ≡ false) before → AllOf (λ u. is_shared u ≡ true → names (shown U given_back u) w ≡ false) given_back
  shares w h = all_replaced (λ u. is_shared u ≡ true → names (shown U given_back u) w ≡ false) D its_owner (each D whole (each_found D differs) (all_before (λ u. is_shared u ≡ true → names (shown U before u) w ≡ false) D p h)) (λ q. clash (sym q ∙ own_now))
    where
      one : (u : Var) → is_part u ≡ false → find_var D u.part ≡ Some u → (t : Bool) → same_name u.part.name x ≡ t → (is_shared u ≡ true → names (shown U before u) w ≡ false) → is_shared u ≡ true → names (shown U given_back u) w ≡ false
      one u i f true n q z = clash (sym z ∙ (ap is_shared (some_same u o (sym f ∙ (ap (find_var D) (same_part_same u.part (variable x) (named_so u x i ∙ n)) ∙ owner))) ∙ own))
      one u i f false n q z = ap (λ k. names (cond u.consumed Absent (less_part k (bits_for U u))) w) (sym (back u.part.name) ∙ others u.part.name (name_swap u.part.name x n)) ∙ q z

      each : (us : List Var) → AllOf (λ u. is_part u ≡ false) us → AllOf (λ (u : Var). find_var D u.part ≡ Some u) us → AllOf (λ u. is_shared u ≡ true → names (shown U before u) w ≡ false) us → AllOf (λ u. is_shared u ≡ true → names (shown U given_back u) w ≡ false) us
      each [] i f q = tt
      each (u ∷ us) i f q = (one u i.0 f.0 (same_name u.part.name x) refl q.0, each us i.1 f.1 q.1)

  spared : AllOf (SparesGuarded out.guarded held U) given_back
  spared = all_replaced (SparesGuarded out.guarded held U) D its_owner (all_before (SparesGuarded out.guarded held U) D p r.spares) (λ b. found_all (SparesGuarded out.guarded held U) D (variable x) o owner (all_before (SparesGuarded out.guarded held U) D p r.spares) has)

  owner_before : (w : WireId) → 1 ≤ owners_of U given_back under w → 1 ≤ owners_of U before (v ∷ under) w
  owner_before w le = subst (λ k. 1 ≤ k) (owners_back w) le

  still_owed : (w : WireId) → (1 ≤ linear_owners U before (v ∷ under) w) ⊎ (out.answered w ≡ true) → (1 ≤ linear_owners U given_back under w) ⊎ (out.answered w ≡ true)
  still_owed w (inl le) = inl (let a = linear_back w in omega (arith, a, le))
  still_owed w (inr a) = inr a

  -- ---- the relation

  pub stands_back : (ks : List Known) → Stands out held U under (record { vars = given_back; next = n }) (record s { env = bound s.env x (shown U D o); values = ks })
  stands_back ks = record {
    env = shows;
    differ = differ_replaced D its_owner x its differs;
    parts = all_more (λ u. is_part u ≡ false) (FitsPart U given_back) given_back (λ u e t. clash (sym t ∙ e)) whole_now;
    one = λ w. subst (λ k. k ≤ 1) (sym (owners_back w)) (r.one w);
    free = λ w le. r.free w (owner_before w le);
    untold = λ w le. r.untold w (owner_before w le);
    shared = λ w le. shares w (r.shared w (owner_before w le));
    callers = λ w le. r.callers w (owner_before w le);
    guards = r.guards;
    below = r.below;
    spares = spared;
    carried = r.carried.1;
    owed = λ w d. still_owed w (r.owed w (record { there = d.there; untold = d.untold; why = d.why }));
  }
