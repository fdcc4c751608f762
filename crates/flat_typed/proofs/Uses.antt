-- What an expression uses, as a list: joined lists, other variables of the same kinds, and names that it does not have.
use Rattle.std.proofs.Common.{◌≡◌, ℕ, Bool, true, false, cond, ◌&&◌, ◌||◌, List, [], ◌∷◌, ◌++◌, drop, refl, sym, ap, ap₂, ◌∙◌, subst}
use Rattle.std.specs.Prelude.{Option, Some, None, is_some, ℤ}
use Rattle.silq_tree.specs.declared.node.NameId.{NameId}
use Rattle.silq_tree.specs.declared.node.Spot.{Spot}
use Rattle.silq_tree.specs.Syntax.{Expression, Expressions, ScalarType, number, typed_number, truth, pi, place, called, tuple, unary, binary, none, more, bit, uint, int, whole, part, part_of_part}
use Rattle.silq_types.specs.declared.types.Ty.{Ty}
use Rattle.silq_types.specs.declared.values.Part.{Part}
use Rattle.silq_types.specs.declared.values.Var.{Var}
use Rattle.silq_types.specs.Types.{Statics, same_name, names as names_in, all_names as all_names_in, scalar_names}
use Rattle.silq_types.specs.declared.need.Need.{Need}
use Rattle.silq_types.specs.declared.need.Need.TheVariants as needs
use Rattle.check_scope.specs.declared.uses.Use.{Use}
use Rattle.check_scope.specs.Context.{Scope, indices, part_at, variable, same_part, find_var, part_type}
use Rattle.check_scope.specs.Uses.{uses, all_uses, scalar_uses, place_use, part_or_whole, index_values, needs_of}
use Rattle.silq_types.specs.Calls.{is_consumed, first_need, later_needs}
use Rattle.check_fun.specs.Statement.{has_name}
use Rattle.flat_core.specs.declared.step.WireId.{WireId}
use Rattle.bit_arith.specs.declared.operand.Operand.{Operand}
use Rattle.bit_arith.specs.Calls.{among}
use Rattle.flat_form.specs.State.{wires_in, part_of}
use Rattle.flat_form.specs.Names.{AllOf}
use Rattle.flat_typed.specs.Places.{Places}
use Rattle.flat_typed.specs.Footprint.{wires_for, wires_of_part, used_wires, consumed_wires}
use Rattle.flat_typed.specs.Done.{kinds}
use Rattle.flat_typed.proofs.Ordered.{clash, or_left, or_right}
use Rattle.flat_typed.proofs.Parts.{found_there}

-- ---- joined lists

or_more : (a b c : Bool) → (a || (b || c)) ≡ ((a || b) || c)
or_more true b c = refl
or_more false b c = refl

pub used_append : (W : Places) (vars : List Var) (us vs : List Use) (w : WireId) → used_wires W vars (us ++ vs) w ≡ (used_wires W vars us w || used_wires W vars vs w)
used_append W vars [] vs w = refl
used_append W vars (u ∷ us) vs w = ap (λ t. wires_of_part W vars u.part w || t) (used_append W vars us vs w) ∙ or_more (wires_of_part W vars u.part w) (used_wires W vars us w) (used_wires W vars vs w)

pub consumed_append : (W : Places) (vars : List Var) (us vs : List Use) (w : WireId) → consumed_wires W vars (us ++ vs) w ≡ (consumed_wires W vars us w || consumed_wires W vars vs w)
consumed_append W vars [] vs w = refl
consumed_append W vars (u ∷ us) vs w =
    ap (λ t. (is_consumed u.need && wires_of_part W vars u.part w) || t) (consumed_append W vars us vs w)
    ∙ or_more (is_consumed u.need && wires_of_part W vars u.part w) (consumed_wires W vars us w) (consumed_wires W vars vs w)

-- what is consumed is used
pub consumed_is_used : (W : Places) (vars : List Var) (us : List Use) (w : WireId) → consumed_wires W vars us w ≡ true → used_wires W vars us w ≡ true
consumed_is_used W vars [] w e = e
consumed_is_used W vars (u ∷ us) w e = go (is_consumed u.need) (wires_of_part W vars u.part w) e (consumed_is_used W vars us w)
  where
    go : (a b : Bool) → ((a && b) || consumed_wires W vars us w) ≡ true → (consumed_wires W vars us w ≡ true → used_wires W vars us w ≡ true) → (b || used_wires W vars us w) ≡ true
    go a true e i = refl
    go true false e i = i e
    go false false e i = i e

-- ---- variables of the same kinds

abbrev pub SameKind : Option Var → Option Var → Type 0
SameKind None None = Unit {0}
SameKind (Some v) (Some w) = (v.part ≡ w.part) × ((v.ty ≡ w.ty) × (v.place ≡ w.place))
SameKind a b = ⊥

abbrev first_kind : List (Part × (Ty × ℕ)) → (Part × (Ty × ℕ)) → (Part × (Ty × ℕ))
first_kind [] k = k
first_kind (a ∷ rest) k = a

abbrev is_some_kind : List (Part × (Ty × ℕ)) → Bool
is_some_kind [] = false
is_some_kind (a ∷ rest) = true

pub find_kinds : (vs ws : List Var) (p : Part) → kinds vs ≡ kinds ws → SameKind (find_var vs p) (find_var ws p)
find_kinds [] [] p e = tt
find_kinds [] (w ∷ ws) p e = clash (sym (ap is_some_kind e))
find_kinds (v ∷ vs) [] p e = clash (ap is_some_kind e)
find_kinds (v ∷ vs) (w ∷ ws) p e =
    subst (λ (q : Part). SameKind (cond (same_part v.part p) (Some v) (find_var vs p)) (cond (same_part q p) (Some w) (find_var ws p))) (ap (λ k. k.0) head) (go (same_part v.part p) (find_kinds vs ws p (ap (drop 1) e)))
  where
    head : ◌≡◌ {A = Part × (Ty × ℕ)} (v.part, (v.ty, v.place)) (w.part, (w.ty, w.place))
    head = ap (λ l. first_kind l (v.part, (v.ty, v.place))) e

    go : (t : Bool) → SameKind (find_var vs p) (find_var ws p) → SameKind (cond t (Some v) (find_var vs p)) (cond t (Some w) (find_var ws p))
    go true h = (ap (λ k. k.0) head, (ap (λ k. k.1.0) head, ap (λ k. k.1.1) head))
    go false h = h

abbrev use_as : Part → Ty → Need → List Use
use_as p t need = record { part = p; need = cond t.classical needs.Held need } ∷ []

pub place_use_kinds : (statics : Statics) (a b : Option Var) (is : Expressions) (need : Need) → SameKind a b → place_use statics a is need ≡ place_use statics b is need
place_use_kinds statics None None is need h = refl
place_use_kinds statics None (Some w) is need h = absurd h
place_use_kinds statics (Some v) None is need h = absurd h
place_use_kinds statics (Some v) (Some w) is need h = go (index_values statics is)
  where
    go : (o : Option (List ℤ)) → use_as (part_or_whole v o) v.ty need ≡ use_as (part_or_whole w o) w.ty need
    go None = ap₂ (λ (p : Part) (t : Ty). use_as p t need) h.0 h.1.0
    go (Some zs) = ap₂ (λ (p : Part) (t : Ty). use_as (cond (is_some (part_type t.classical t.shape zs)) (part_at p.name zs) p) t need) h.0 h.1.0

-- an expression reads the kinds of variables alone
mutual
  pub uses_kinds : (e : Expression) (sc : Scope) (vs ws : List Var) (need : Need) → kinds vs ≡ kinds ws → uses e sc vs need ≡ uses e sc ws need
  uses_kinds (number n s) sc vs ws need h = refl
  uses_kinds (typed_number n k s) sc vs ws need h = scalar_uses_kinds k sc vs ws h
  uses_kinds (truth b s) sc vs ws need h = refl
  uses_kinds (pi s) sc vs ws need h = refl
  uses_kinds (place (whole x) s) sc vs ws need h = place_use_kinds sc.statics (find_var vs (variable x)) (find_var ws (variable x)) none need (find_kinds vs ws (variable x) h)
  uses_kinds (place (part x i) s) sc vs ws need h =
      ap₂ (λ a b. a ++ b) (place_use_kinds sc.statics (find_var vs (variable x)) (find_var ws (variable x)) (more i none) need (find_kinds vs ws (variable x) h)) (uses_kinds i sc vs ws needs.Held h)
  uses_kinds (place (part_of_part x i j) s) sc vs ws need h =
      ap₂ (λ a b. a ++ b)
      (ap₂ (λ a b. a ++ b) (place_use_kinds sc.statics (find_var vs (variable x)) (find_var ws (variable x)) (more i (more j none)) need (find_kinds vs ws (variable x) h)) (uses_kinds i sc vs ws needs.Held h))
      (uses_kinds j sc vs ws needs.Held h)
  uses_kinds (called f ss args s) sc vs ws need h = ap₂ (λ a b. a ++ b) (all_uses_kinds ss sc vs ws [] h) (all_uses_kinds args sc vs ws (needs_of sc f) h)
  uses_kinds (tuple es s) sc vs ws need h = all_uses_kinds es sc vs ws [] h
  uses_kinds (unary op e s) sc vs ws need h = uses_kinds e sc vs ws needs.Held h
  uses_kinds (binary op a b s) sc vs ws need h = ap₂ (λ a b. a ++ b) (uses_kinds a sc vs ws needs.Held h) (uses_kinds b sc vs ws needs.Held h)

  pub all_uses_kinds : (es : Expressions) (sc : Scope) (vs ws : List Var) (ns : List Need) → kinds vs ≡ kinds ws → all_uses es sc vs ns ≡ all_uses es sc ws ns
  all_uses_kinds none sc vs ws ns h = refl
  all_uses_kinds (more e es) sc vs ws ns h = ap₂ (λ a b. a ++ b) (uses_kinds e sc vs ws (first_need ns) h) (all_uses_kinds es sc vs ws (later_needs ns) h)

  pub scalar_uses_kinds : (k : ScalarType) (sc : Scope) (vs ws : List Var) → kinds vs ≡ kinds ws → scalar_uses k sc vs ≡ scalar_uses k sc ws
  scalar_uses_kinds bit sc vs ws h = refl
  scalar_uses_kinds (uint e) sc vs ws h = uses_kinds e sc vs ws needs.Held h
  scalar_uses_kinds (int e) sc vs ws h = uses_kinds e sc vs ws needs.Held h

part_wires_kinds : (W : Places) (a b : Option Var) (p : Part) (w : WireId) → SameKind a b → wires_for W a p w ≡ wires_for W b p w
part_wires_kinds W None None p w h = refl
part_wires_kinds W None (Some v) p w h = absurd h
part_wires_kinds W (Some v) None p w h = absurd h
part_wires_kinds W (Some v) (Some u) p w h =
    ap₂ (λ (t : Ty) (ps : List Operand). among (wires_in (part_of t.shape (indices p) ps)) w) h.1.0 (ap W h.1.1)

-- and the wires of what it uses are the same
pub used_kinds : (W : Places) (vs ws : List Var) (us : List Use) (w : WireId) → kinds vs ≡ kinds ws → used_wires W vs us w ≡ used_wires W ws us w
used_kinds W vs ws [] w h = refl
used_kinds W vs ws (u ∷ us) w h = ap₂ (λ a b. a || b) (part_wires_kinds W (find_var vs (variable u.part.name)) (find_var ws (variable u.part.name)) u.part w (find_kinds vs ws (variable u.part.name) h)) (used_kinds W vs ws us w h)

pub consumed_kinds : (W : Places) (vs ws : List Var) (us : List Use) (w : WireId) → kinds vs ≡ kinds ws → consumed_wires W vs us w ≡ consumed_wires W ws us w
consumed_kinds W vs ws [] w h = refl
consumed_kinds W vs ws (u ∷ us) w h =
    ap₂ (λ a b. (is_consumed u.need && a) || b) (part_wires_kinds W (find_var vs (variable u.part.name)) (find_var ws (variable u.part.name)) u.part w (find_kinds vs ws (variable u.part.name) h)) (consumed_kinds W vs ws us w h)

-- ---- names that an expression does not have

abbrev pub NotOf : NameId → Use → Type 0
NotOf x u = same_name u.part.name x ≡ false

pub all_join : {A : Type 0} (Q : A → Type 0) (xs ys : List A) → AllOf Q xs → AllOf Q ys → AllOf Q (xs ++ ys)
all_join Q [] ys h k = k
all_join Q (x ∷ xs) ys h k = (h.0, all_join Q xs ys h.1 k)

has_append : (x : NameId) (ns ms : List (NameId × Spot)) → has_name x (ns ++ ms) ≡ (has_name x ns || has_name x ms)
has_append x [] ms = refl
has_append x (n ∷ ns) ms = ap (λ t. same_name n.0 x || t) (has_append x ns ms) ∙ or_more (same_name n.0 x) (has_name x ns) (has_name x ms)

has_front : (x : NameId) (ns ms : List (NameId × Spot)) → has_name x (ns ++ ms) ≡ false → has_name x ns ≡ false
has_front x ns ms e = or_left (has_name x ns) (has_name x ms) (sym (has_append x ns ms) ∙ e)

has_back : (x : NameId) (ns ms : List (NameId × Spot)) → has_name x (ns ++ ms) ≡ false → has_name x ms ≡ false
has_back x ns ms e = or_right (has_name x ns) (has_name x ms) (sym (has_append x ns ms) ∙ e)

pub name_of_part : (y : NameId) (zs : List ℤ) → (part_at y zs).name ≡ y
name_of_part y [] = refl
name_of_part y (i ∷ []) = refl
name_of_part y (i ∷ (j ∷ js)) = refl

place_not_of : (x y : NameId) (statics : Statics) (vars : List Var) (o : Option Var) (is : Expressions) (need : Need) → find_var vars (variable y) ≡ o → same_name y x ≡ false → AllOf (NotOf x) (place_use statics o is need)
place_not_of x y statics vars None is need e n = tt
place_not_of x y statics vars (Some v) is need e n = (ap (λ z. same_name z x) (called_so (index_values statics is)) ∙ n, tt)
  where
    its : v.part.name ≡ y
    its = ap (λ (p : Part). p.name) (found_there vars y v e)

    kind : (t : Bool) (zs : List ℤ) → (cond t (part_at v.part.name zs) v.part).name ≡ y
    kind true zs = name_of_part v.part.name zs ∙ its
    kind false zs = its

    called_so : (o : Option (List ℤ)) → (part_or_whole v o).name ≡ y
    called_so None = its
    called_so (Some zs) = kind (is_some (part_type v.ty.classical v.ty.shape zs)) zs

mutual
  pub uses_not_of : (x : NameId) (e : Expression) (sc : Scope) (vars : List Var) (need : Need) → has_name x (names_in e) ≡ false → AllOf (NotOf x) (uses e sc vars need)
  uses_not_of x (number n s) sc vars need h = tt
  uses_not_of x (typed_number n k s) sc vars need h = scalar_not_of x k sc vars h
  uses_not_of x (truth b s) sc vars need h = tt
  uses_not_of x (pi s) sc vars need h = tt
  uses_not_of x (place (whole y) s) sc vars need h = place_not_of x y sc.statics vars (find_var vars (variable y)) none need refl (or_left (same_name y x) false h)
  uses_not_of x (place (part y i) s) sc vars need h =
      all_join (NotOf x) (place_use sc.statics (find_var vars (variable y)) (more i none) need) (uses i sc vars needs.Held)
      (place_not_of x y sc.statics vars (find_var vars (variable y)) (more i none) need refl (or_left (same_name y x) (has_name x (names_in i)) h))
      (uses_not_of x i sc vars needs.Held (or_right (same_name y x) (has_name x (names_in i)) h))
  uses_not_of x (place (part_of_part y i j) s) sc vars need h =
      let rest = or_right (same_name y x) (has_name x (names_in i ++ names_in j)) h in
      all_join (NotOf x) (place_use sc.statics (find_var vars (variable y)) (more i (more j none)) need ++ uses i sc vars needs.Held) (uses j sc vars needs.Held)
      (all_join (NotOf x) (place_use sc.statics (find_var vars (variable y)) (more i (more j none)) need) (uses i sc vars needs.Held)
      (place_not_of x y sc.statics vars (find_var vars (variable y)) (more i (more j none)) need refl (or_left (same_name y x) (has_name x (names_in i ++ names_in j)) h))
      (uses_not_of x i sc vars needs.Held (has_front x (names_in i) (names_in j) rest)))
      (uses_not_of x j sc vars needs.Held (has_back x (names_in i) (names_in j) rest))
  uses_not_of x (called f ss args s) sc vars need h =
      all_join (NotOf x) (all_uses ss sc vars []) (all_uses args sc vars (needs_of sc f))
      (all_not_of x ss sc vars [] (has_front x (all_names_in ss) (all_names_in args) h))
      (all_not_of x args sc vars (needs_of sc f) (has_back x (all_names_in ss) (all_names_in args) h))
  uses_not_of x (tuple es s) sc vars need h = all_not_of x es sc vars [] h
  uses_not_of x (unary op e s) sc vars need h = uses_not_of x e sc vars needs.Held h
  uses_not_of x (binary op a b s) sc vars need h =
      all_join (NotOf x) (uses a sc vars needs.Held) (uses b sc vars needs.Held)
      (uses_not_of x a sc vars needs.Held (has_front x (names_in a) (names_in b) h))
      (uses_not_of x b sc vars needs.Held (has_back x (names_in a) (names_in b) h))

  pub all_not_of : (x : NameId) (es : Expressions) (sc : Scope) (vars : List Var) (ns : List Need) → has_name x (all_names_in es) ≡ false → AllOf (NotOf x) (all_uses es sc vars ns)
  all_not_of x none sc vars ns h = tt
  all_not_of x (more e es) sc vars ns h =
      all_join (NotOf x) (uses e sc vars (first_need ns)) (all_uses es sc vars (later_needs ns))
      (uses_not_of x e sc vars (first_need ns) (has_front x (names_in e) (all_names_in es) h))
      (all_not_of x es sc vars (later_needs ns) (has_back x (names_in e) (all_names_in es) h))

  pub scalar_not_of : (x : NameId) (k : ScalarType) (sc : Scope) (vars : List Var) → has_name x (scalar_names k) ≡ false → AllOf (NotOf x) (scalar_uses k sc vars)
  scalar_not_of x bit sc vars h = tt
  scalar_not_of x (uint e) sc vars h = uses_not_of x e sc vars needs.Held h
  scalar_not_of x (int e) sc vars h = uses_not_of x e sc vars needs.Held h
