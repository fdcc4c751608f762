-- A variable that is consumed hands its wires on, or drops them where it is not Linear.
use Rattle.std.proofs.Common.{◌≡◌, ◌⊎◌, inl, inr, ℕ, ◌+◌, ◌≤◌, Bool, true, false, cond, List, [], ◌∷◌, length, take, drop, refl, sym, ap, ap₂, ◌∙◌, subst, arith}
use Rattle.std.specs.Prelude.{Some, None}
use Rattle.silq_tree.specs.declared.node.NameId.{NameId}
use Rattle.silq_types.specs.declared.types.Shape.{Shape}
use Rattle.silq_types.specs.declared.types.Shape.TheVariants.{Bit, UInt, Int, Array}
use Rattle.silq_types.specs.declared.values.Part.{Part}
use Rattle.silq_types.specs.declared.values.Value.{Value}
use Rattle.silq_types.specs.declared.values.Var.{Var}
use Rattle.silq_types.specs.Types.{shape_bits, is_linear}
use Rattle.check_scope.specs.Context.{Context, variable, part_at, same_part, find_var, replace, is_in_condition}
use Rattle.check_expr.proofs.Alike.{same_part_refl, same_part_same}
use Rattle.silq_mean.specs.Env.{in_its_block}
use Rattle.flat_core.specs.declared.step.WireId.{WireId}
use Rattle.bit_arith.specs.declared.operand.Operand.{Operand}
use Rattle.flat_form.specs.declared.known.Known.{Known}
use Rattle.flat_form.specs.declared.known.Known.TheVariants.{Absent}
use Rattle.flat_form.specs.State.{Flattening, push, wires_in, part_of, part_start}
use Rattle.flat_form.specs.Names.{AllOf, operands_in, names}
use Rattle.flat_typed.specs.Places.{Places, is_part, is_shared, has_wires, part_out, less_part, bits_for, shown, times_in, holds, holders, linear_holders, linear_carriers, owners_of, linear_owners}
use Rattle.flat_typed.specs.Relation.{HasNone, PartsDiffer, FitsPart, Outside, Stands, SparesGuarded}
use Rattle.flat_typed.proofs.Ordered.{clash, same_is_equal}
use Rattle.flat_typed.proofs.Parts.{found_there, whole_part, named_so, part_other, some_same}
use Rattle.flat_typed.proofs.Changes.{consumed_shows, out_replaced}

abbrev pub spent : Var → Var
spent v = record v { consumed = true }

-- ---- sums over variables

-- a variable that counts for nothing once it is consumed
pub spent_sum : (f : Var → ℕ) (g : List Var → ℕ) → ((v : Var) (vs : List Var) → g (v ∷ vs) ≡ f v + g vs) → (vs : List Var) (x : NameId) (v : Var) → find_var vs (variable x) ≡ Some v → v.part ≡ variable x → f (spent v) ≡ 0 → g (replace vs (spent v)) + f v ≡ g vs
spent_sum f g h [] x v e p z = absurd (grind (arith, e))
spent_sum f g h (w ∷ ws) x v e p z = go (same_part w.part (variable x)) refl e (λ d. spent_sum f g h ws x v d p z)
  where
    goal : Bool → Type 0
    goal t = g (cond t (spent v ∷ ws) (w ∷ replace ws (spent v))) + f v ≡ g (w ∷ ws)

    go : (t : Bool) → same_part w.part (variable x) ≡ t → cond t (Some w) (find_var ws (variable x)) ≡ Some v → (find_var ws (variable x) ≡ Some v → g (replace ws (spent v)) + f v ≡ g ws) → goal (same_part w.part v.part)
    go true s e i =
        subst goal (sym (ap (same_part w.part) p ∙ s))
        (let a = h (spent v) ws in let b = h w ws in let c : f w ≡ f v = ap f (some_same w v e) in omega (arith, a, b, c, z))
    go false s e i =
        subst goal (sym (ap (same_part w.part) p ∙ s))
        (let a = h w (replace ws (spent v)) in let b = h w ws in let c = i e in omega (arith, a, b, c))

-- ---- where the same part is under way, variables hold the same

pub holds_with : (W : Places) (all more : List Var) (w : WireId) (v : Var) → ((y : NameId) → part_out all y ≡ part_out more y) → holds W all w v ≡ holds W more w v
holds_with W all more w v h = ap (λ r. cond (has_wires v) (times_in w (operands_in (cond v.consumed Absent (less_part r (bits_for W v))))) 0) (h v.part.name)

pub holders_with : (W : Places) (all more : List Var) (w : WireId) (vs : List Var) → ((y : NameId) → part_out all y ≡ part_out more y) → holders W all w vs ≡ holders W more w vs
holders_with W all more w [] h = refl
holders_with W all more w (v ∷ vs) h = ap₂ (λ a b. a + b) (holds_with W all more w v h) (holders_with W all more w vs h)

pub linear_with : (W : Places) (all more : List Var) (w : WireId) (vs : List Var) → ((y : NameId) → part_out all y ≡ part_out more y) → linear_holders W all w vs ≡ linear_holders W more w vs
linear_with W all more w [] h = refl
linear_with W all more w (v ∷ vs) h = ap₂ (λ a b. a + b) (ap (λ n. cond (is_linear v.origin) n 0) (holds_with W all more w v h)) (linear_with W all more w vs h)

cond_zero : (b : Bool) → ◌≡◌ {A = ℕ} (cond b 0 0) 0
cond_zero true = refl
cond_zero false = refl

pub holders_spent : (W : Places) (vars : List Var) (w : WireId) (x : NameId) (v : Var) → find_var vars (variable x) ≡ Some v → holders W (replace vars (spent v)) w (replace vars (spent v)) + holds W vars w v ≡ holders W vars w vars
holders_spent W vars w x v e =
    let p = found_there vars x v e in
    let a = holders_with W (replace vars (spent v)) vars w (replace vars (spent v)) (out_replaced vars (spent v) x p) in
    let b = spent_sum (holds W vars w) (holders W vars w) (λ u us. refl) vars x v e p refl in
    omega (arith, a, b)

pub linear_spent : (W : Places) (vars : List Var) (w : WireId) (x : NameId) (v : Var) → find_var vars (variable x) ≡ Some v → linear_holders W (replace vars (spent v)) w (replace vars (spent v)) + cond (is_linear v.origin) (holds W vars w v) 0 ≡ linear_holders W vars w vars
linear_spent W vars w x v e =
    let p = found_there vars x v e in
    let a = linear_with W (replace vars (spent v)) vars w (replace vars (spent v)) (out_replaced vars (spent v) x p) in
    let b = spent_sum (λ u. cond (is_linear u.origin) (holds W vars w u) 0) (linear_holders W vars w) (λ u us. refl) vars x v e p (cond_zero (is_linear v.origin)) in
    omega (arith, a, b)

-- ---- lists of variables

pub all_replaced : (Q : Var → Type 0) (vs : List Var) (u : Var) → AllOf Q vs → Q u → AllOf Q (replace vs u)
all_replaced Q [] u h q = tt
all_replaced Q (w ∷ ws) u h q = go (same_part w.part u.part) (all_replaced Q ws u h.1 q)
  where
    go : (t : Bool) → AllOf Q (replace ws u) → AllOf Q (cond t (u ∷ ws) (w ∷ replace ws u))
    go true i = (q, h.1)
    go false i = (h.0, i)

pub all_more : {A : Type 0} (Q R : A → Type 0) (xs : List A) → ((x : A) → Q x → R x) → AllOf Q xs → AllOf R xs
all_more Q R [] f h = tt
all_more Q R (x ∷ xs) f h = (f x h.0, all_more Q R xs f h.1)

pub found_all : (Q : Var → Type 0) (vs : List Var) (p : Part) (v : Var) → find_var vs p ≡ Some v → AllOf Q vs → Q v
found_all Q [] p v e h = absurd (grind (arith, e))
found_all Q (w ∷ ws) p v e h = go (same_part w.part p) e (λ d. found_all Q ws p v d h.1)
  where
    go : (t : Bool) → cond t (Some w) (find_var ws p) ≡ Some v → (find_var ws p ≡ Some v → Q v) → Q v
    go true e i = subst Q (some_same w v e) h.0
    go false e i = i e

-- a variable with the part of a whole one is that one's like
part_is : (w : Var) (x : NameId) → same_part w.part (variable x) ≡ true → w.part ≡ variable x
part_is w x s = go (is_part w) refl
  where
    go : (t : Bool) → is_part w ≡ t → w.part ≡ variable x
    go true p = clash (sym s ∙ part_other w x p)
    go false p = whole_part w p ∙ ap variable (same_is_equal w.part.name x (sym (named_so w x p) ∙ s))

pub differ_replaced : (vs : List Var) (u : Var) (x : NameId) → u.part ≡ variable x → PartsDiffer vs → PartsDiffer (replace vs u)
differ_replaced [] u x p d = tt
differ_replaced (w ∷ ws) u x p d = go (same_part w.part u.part) refl (differ_replaced ws u x p d.1)
  where
    go : (t : Bool) → same_part w.part u.part ≡ t → PartsDiffer (replace ws u) → PartsDiffer (cond t (u ∷ ws) (w ∷ replace ws u))
    go true s i = (subst (HasNone ws) (part_is w x (ap (same_part w.part) (sym p) ∙ s) ∙ sym p) d.0, d.1)
    go false s i = (all_replaced (λ (y : Var). same_part y.part w.part ≡ false) ws u d.0 (swap s), i)
      where
        swap : same_part w.part u.part ≡ false → same_part u.part w.part ≡ false
        swap s = back (same_part u.part w.part) refl
          where
            back : (r : Bool) → same_part u.part w.part ≡ r → r ≡ false
            back false e = refl
            back true e = clash (sym (ap (λ q. same_part w.part q) (same_part_same u.part w.part e) ∙ same_part_refl w.part) ∙ s)

-- ---- a use that consumes

take_all : {A : Type 0} (xs : List A) → take (length xs) xs ≡ xs
take_all [] = refl
take_all (x ∷ xs) = ap (λ l. x ∷ l) (take_all xs)

pub start_none : (s : Shape) → part_start s [] ≡ 0
start_none Bit = refl
start_none (UInt n) = refl
start_none (Int n) = refl
start_none (Array k n) = refl

pub whole_of : (s : Shape) (ps : List Operand) → length ps ≡ shape_bits s → part_of s [] ps ≡ ps
whole_of s ps e = ap (λ n. take (shape_bits s) (drop n ps)) (start_none s) ∙ (ap (λ n. take n ps) (sym e) ∙ take_all ps)

-- what a variable owns, where no part of it is under way
pub owns_all : (W : Places) (vars : List Var) (w : WireId) (v : Var) → part_out vars v.part.name ≡ None → has_wires v ≡ true → v.consumed ≡ false → holds W vars w v ≡ times_in w (W v.place)
owns_all W vars w v o h c =
    ap (λ t. cond t (times_in w (operands_in (shown W vars v))) 0) h
    ∙ (ap (λ t. times_in w (operands_in (cond t Absent (less_part (part_out vars v.part.name) (bits_for W v))))) c
    ∙ ap (λ r. times_in w (operands_in (less_part r (bits_for W v)))) o)

-- the value of a variable that is consumed
abbrev pub handed_on : Var → Value
handed_on v = record { ty = v.ty; origin = v.origin; place = v.place }

-- the same variables but this one, which is consumed, and its value under way: all wires have the owners that they had
pub moved_owners : (W : Places) (vars : List Var) (under : List Value) (w : WireId) (x : NameId) (v : Var) → find_var vars (variable x) ≡ Some v → part_out vars v.part.name ≡ None → has_wires v ≡ true → v.consumed ≡ false
    → owners_of W (replace vars (spent v)) (handed_on v ∷ under) w ≡ owners_of W vars under w
moved_owners W vars under w x v e o h c = let a = holders_spent W vars w x v e in let b = owns_all W vars w v o h c in omega (arith, a, b)

pub moved_linear : (W : Places) (vars : List Var) (under : List Value) (w : WireId) (x : NameId) (v : Var) → find_var vars (variable x) ≡ Some v → part_out vars v.part.name ≡ None → has_wires v ≡ true → v.consumed ≡ false
    → linear_owners W (replace vars (spent v)) (handed_on v ∷ under) w ≡ linear_owners W vars under w
moved_linear W vars under w x v e o h c = go (is_linear v.origin) (linear_spent W vars w x v e)
  where
    go : (t : Bool) → linear_holders W (replace vars (spent v)) w (replace vars (spent v)) + cond t (holds W vars w v) 0 ≡ linear_holders W vars w vars
        → linear_holders W (replace vars (spent v)) w (replace vars (spent v)) + (cond t (times_in w (W v.place)) 0 + linear_carriers W w under) ≡ linear_holders W vars w vars + linear_carriers W w under
    go true a = let b = owns_all W vars w v o h c in omega (arith, a, b)
    go false a = omega (arith, a)

shared_spent : (W : Places) (vars : List Var) (w : WireId) (x : NameId) (v : Var) → find_var vars (variable x) ≡ Some v → AllOf (λ u. is_shared u ≡ true → names (shown W vars u) w ≡ false) vars
    → AllOf (λ u. is_shared u ≡ true → names (shown W (replace vars (spent v)) u) w ≡ false) (replace vars (spent v))
shared_spent W vars w x v e h =
    all_more (λ u. is_shared u ≡ true → names (shown W vars u) w ≡ false) (λ u. is_shared u ≡ true → names (shown W (replace vars (spent v)) u) w ≡ false) (replace vars (spent v))
    (λ u q s. ap (λ r. names (cond u.consumed Absent (less_part r (bits_for W u))) w) (out_replaced vars (spent v) x (found_there vars x v e) u.part.name) ∙ q s)
    (all_replaced (λ u. is_shared u ≡ true → names (shown W vars u) w ≡ false) vars (spent v) h (λ s. refl))

-- a whole variable with wires of its own that is used so that it is consumed: the relation stands again, with its value under way
pub stands_moved : (out : Outside) (held : List (List Part)) (W : Places) (under : List Value) (c : Context) (s : Flattening) (x : NameId) (v : Var) (k : Known) → Stands out held W under c s
    → find_var c.vars (variable x) ≡ Some v → part_out c.vars v.part.name ≡ None → has_wires v ≡ true → v.consumed ≡ false → length (W v.place) ≡ shape_bits v.ty.shape → is_in_condition held (part_at x []) ≡ false
    → AllOf (FitsPart W (replace c.vars (spent v))) (replace c.vars (spent v))
    → Stands out held W (handed_on v ∷ under) (record c { vars = replace c.vars (spent v) }) (push k (record s { env = in_its_block s.env x Absent }))
stands_moved out held W under c s x v k r e o h live size free fit = record {
  env = consumed_shows W c.vars s.env v x e r.differ r.env;
  differ = differ_replaced c.vars (spent v) x (found_there c.vars x v e) r.differ;
  parts = fit;
  one = λ w. subst (λ n. n ≤ 1) (sym (same w)) (r.one w);
  free = λ w le. r.free w (before w le);
  untold = λ w le. r.untold w (before w le);
  shared = λ w le. shared_spent W c.vars w x v e (r.shared w (before w le));
  callers = λ w le. r.callers w (before w le);
  guards = r.guards;
  below = r.below;
  spares = all_replaced (SparesGuarded out.guarded held W) c.vars (spent v) r.spares (λ b. clash (sym b));
  carried = (unguarded, r.carried);
  owed = λ w d. owed w (r.owed w (record { there = d.there; untold = d.untold; why = d.why }));
}
  where
    same : (w : WireId) → owners_of W (replace c.vars (spent v)) (handed_on v ∷ under) w ≡ owners_of W c.vars under w
    same w = moved_owners W c.vars under w x v e o h live

    before : (w : WireId) → 1 ≤ owners_of W (replace c.vars (spent v)) (handed_on v ∷ under) w → 1 ≤ owners_of W c.vars under w
    before w le = subst (λ n. 1 ≤ n) (same w) le

    owed : (w : WireId) → (1 ≤ linear_owners W c.vars under w) ⊎ (out.answered w ≡ true) → (1 ≤ linear_owners W (replace c.vars (spent v)) (handed_on v ∷ under) w) ⊎ (out.answered w ≡ true)
    owed w (inl le) = inl (subst (λ n. 1 ≤ n) (sym (moved_linear W c.vars under w x v e o h live)) le)
    owed w (inr a) = inr a

    spared : SparesGuarded out.guarded held W v
    spared = found_all (SparesGuarded out.guarded held W) c.vars (variable x) v e r.spares

    name : v.part.name ≡ x
    name = ap (λ (p : Part). p.name) (found_there c.vars x v e)

    unguarded : AllOf (λ w. out.guarded w ≡ false) (wires_in (W v.place))
    unguarded = subst (λ l. AllOf (λ w. out.guarded w ≡ false) (wires_in l)) (whole_of v.ty.shape (W v.place) size) (spared h [] v.ty refl (ap (λ y. is_in_condition held (part_at y [])) name ∙ free))

-- a whole variable that is not Linear and is ended: the relation stands again without it
pub stands_dropped : (out : Outside) (held : List (List Part)) (W : Places) (under : List Value) (c : Context) (s : Flattening) (x : NameId) (v : Var) → Stands out held W under c s
    → find_var c.vars (variable x) ≡ Some v → is_linear v.origin ≡ false
    → AllOf (FitsPart W (replace c.vars (spent v))) (replace c.vars (spent v))
    → Stands out held W under (record c { vars = replace c.vars (spent v) }) (record s { env = in_its_block s.env x Absent })
stands_dropped out held W under c s x v r e lin fit = record {
  env = consumed_shows W c.vars s.env v x e r.differ r.env;
  differ = differ_replaced c.vars (spent v) x (found_there c.vars x v e) r.differ;
  parts = fit;
  one = λ w. let a = fewer w in let b = r.one w in omega (arith, a, b);
  free = λ w le. r.free w (before w le);
  untold = λ w le. r.untold w (before w le);
  shared = λ w le. shared_spent W c.vars w x v e (r.shared w (before w le));
  callers = λ w le. r.callers w (before w le);
  guards = r.guards;
  below = r.below;
  spares = all_replaced (SparesGuarded out.guarded held W) c.vars (spent v) r.spares (λ b. clash (sym b));
  carried = r.carried;
  owed = λ w d. owed w (r.owed w (record { there = d.there; untold = d.untold; why = d.why }));
}
  where
    fewer : (w : WireId) → owners_of W (replace c.vars (spent v)) under w ≤ owners_of W c.vars under w
    fewer w = let a = holders_spent W c.vars w x v e in omega (arith, a)

    before : (w : WireId) → 1 ≤ owners_of W (replace c.vars (spent v)) under w → 1 ≤ owners_of W c.vars under w
    before w le = let a = fewer w in omega (arith, a, le)

    same : (w : WireId) → linear_owners W (replace c.vars (spent v)) under w ≡ linear_owners W c.vars under w
    same w =
        let a = linear_spent W c.vars w x v e in
        let b : cond (is_linear v.origin) (holds W c.vars w v) 0 ≡ 0 = ap (λ t. cond t (holds W c.vars w v) 0) lin in
        omega (arith, a, b)

    owed : (w : WireId) → (1 ≤ linear_owners W c.vars under w) ⊎ (out.answered w ≡ true) → (1 ≤ linear_owners W (replace c.vars (spent v)) under w) ⊎ (out.answered w ≡ true)
    owed w (inl le) = inl (subst (λ n. 1 ≤ n) (sym (same w)) le)
    owed w (inr a) = inr a
