-- When a state of flattening is one that typing knows: what holds of a function's variables and of their wires.
use Rattle.std.specs.Prelude.{◌≡◌, ℕ, ◌≤◌, ◌<◌, ◌⊎◌, Bool, true, false, not, ◌&&◌, List, [], ◌∷◌, ℤ, Option, Some, None}
use Rattle.silq_types.specs.declared.types.Ty.{Ty}
use Rattle.silq_types.specs.declared.values.Part.{Part}
use Rattle.silq_types.specs.declared.values.Value.{Value}
use Rattle.silq_types.specs.declared.values.Var.{Var}
use Rattle.silq_types.specs.Types.{is_linear, is_held, fits}
use Rattle.silq_types.specs.declared.need.Need.{Need}
use Rattle.silq_types.specs.declared.need.Need.TheVariants as needs
use Rattle.check_scope.specs.Context.{Context, indices, variable, part_at, find_var, same_part, part_type, is_in_condition}
use Rattle.silq_types.specs.Calls.{is_consumed}
use Rattle.silq_mean.specs.declared.receiver.Receiver.{Receiver}
use Rattle.silq_mean.specs.declared.receiver.Receiver.TheVariants.{Variable, Argument, CallResult, EntryOutput}
use Rattle.flat_core.specs.declared.step.WireId.{WireId}
use Rattle.flat_core.specs.declared.step.End.TheVariants.{Dropped}
use Rattle.flat_core.specs.Label.{wire_in}
use Rattle.bit_arith.specs.declared.operand.Operand.{Operand}
use Rattle.bit_arith.specs.Calls.{Targets, IsTarget}
use Rattle.flat_form.specs.declared.known.Known.{Known}
use Rattle.flat_form.specs.declared.known.Known.TheVariants.{Static, Shown}
use Rattle.flat_form.specs.State.{Flattening, wires_so_far, wires_in, part_of, operands_of}
use Rattle.flat_form.specs.Names.{AllOf, CallerOf, names, named_by}
use Rattle.flat_typed.specs.Places.{Places, is_part, is_shared, has_wires, shown, entries, in_order, owners_of, linear_owners, times_in}
use Rattle.flat_typed.specs.Footprint.{Within, Owed}

-- ---- names

abbrev pub HasNone : List Var → Part → Type 0
HasNone vars p = AllOf (λ (v : Var). same_part v.part p ≡ false) vars

-- no two variables have one part
abbrev pub PartsDiffer : List Var → Type 0
PartsDiffer [] = Unit {0}
PartsDiffer (v ∷ vs) = HasNone vs v.part × PartsDiffer vs

-- ---- wires that others answer for

pub record Outside : Type 0 where
  -- the wires of the conditions in force
  pub guarded : Targets
  -- the wires that callers, the const parameters of the entry, or in a second branch the outer variables that the first made Linear answer for
  pub answered : Targets

-- the wires of a condition are guarded
abbrev pub Guards : Targets → Option Operand → Type 0
Guards G None = Unit {0}
Guards G (Some p) = (w : WireId) → named_by w p ≡ true → G w ≡ true

-- each part of a variable with wires of its own that no condition holds has no guarded wire
abbrev pub SparesGuarded : Targets → List (List Part) → Places → Var → Type 0
SparesGuarded G held W v =
    has_wires v ≡ true → (is : List ℤ) (t : Ty) → part_type v.ty.classical v.ty.shape is ≡ Some t → is_in_condition held (part_at v.part.name is) ≡ false →
    AllOf (λ w. G w ≡ false) (wires_in (part_of v.ty.shape is (W v.place)))

-- ---- the relation

-- a part that was taken out is one of its variable, with the wires of that part
pub record IsPartOf (W : Places) (v w : Var) : Type 0 where
  pub live : w.consumed ≡ false
  pub kind : part_type w.ty.classical w.ty.shape (indices v.part) ≡ Some v.ty
  pub same : v.origin ≡ w.origin
  pub wires : W v.place ≡ part_of w.ty.shape (indices v.part) (W w.place)

abbrev pub FitsPart : Places → List Var → Var → Type 0
FitsPart W vars v = is_part v ≡ true → (w : Var) × (find_var vars (variable v.part.name) ≡ Some w) × IsPartOf W v w

-- with the conditions' parts `held`, what each place shows, and the values under way that own wires
pub record Stands (out : Outside) (held : List (List Part)) (W : Places) (under : List Value) (c : Context) (s : Flattening) : Type 0 where
  -- the same names block by block: consumed shows nothing, a part under way is lent, a variable shows what its place shows
  pub env : in_order s.env ≡ entries W c.vars c.vars
  pub differ : PartsDiffer c.vars
  pub parts : AllOf (FitsPart W c.vars) c.vars
  -- no wire has two owners; a wire with an owner is there and not measured, and its end is not told yet
  pub one : (w : WireId) → owners_of W c.vars under w ≤ 1
  pub free : (w : WireId) → 1 ≤ owners_of W c.vars under w → IsTarget s.built.draft w
  pub untold : (w : WireId) → 1 ≤ owners_of W c.vars under w → (wire_in s.built.draft.wires w).ending ≡ Dropped
  -- what shares wires, and what callers know, names no wire with an owner
  pub shared : (w : WireId) → 1 ≤ owners_of W c.vars under w → AllOf (λ v. is_shared v ≡ true → names (shown W c.vars v) w ≡ false) c.vars
  pub callers : (w : WireId) → 1 ≤ owners_of W c.vars under w → AllOf (CallerOf (λ k. names k w ≡ false)) s.callers
  -- the condition in force is guarded; what may be changed is not
  pub guards : Guards out.guarded s.setting.condition
  pub below : (w : WireId) → out.guarded w ≡ true → w.number < wires_so_far s
  pub spares : AllOf (SparesGuarded out.guarded held W) c.vars
  pub carried : AllOf (λ v. AllOf (λ w. out.guarded w ≡ false) (wires_in (W v.place))) under
  -- each wire that must not be dropped has a Linear owner here, or others answer for it
  pub owed : (w : WireId) → Owed s.built.draft w → (1 ≤ linear_owners W c.vars under w) ⊎ (out.answered w ≡ true)

-- ---- values under way

-- a value with a type: a static one fits it
abbrev pub OfType : Ty → Known → Type 0
OfType t (Static z) = fits t.shape z ≡ true
OfType t (Shown u) = (u.shape ≡ t.shape) × (u.classical ≡ t.classical)
OfType t k = ⊥

abbrev pub IfOwn : (List Operand → Type 0) → Known → Type 0
IfOwn Q (Shown u) = u.own ≡ true → Q u.operands
IfOwn Q k = Unit {0}

-- all wires are from the n-th on
abbrev pub AllNew : ℕ → List Operand → Type 0
AllNew n ps = (w : WireId) → 1 ≤ times_in w ps → n ≤ w.number

-- a value whose wires are not its own
abbrev pub IsBorrowed : Known → Type 0
IsBorrowed (Shown u) = u.own ≡ false
IsBorrowed k = Unit {0}

abbrev pub began_of : Known → ℕ
began_of (Shown u) = u.began
began_of k = 0

-- its expression began with n wires, or later
abbrev pub BeganFrom : ℕ → Known → Type 0
BeganFrom n (Shown u) = n ≤ u.began
BeganFrom n k = Unit {0}

abbrev pub is_argument : Receiver → Bool
is_argument (Argument need t) = true
is_argument r = false

-- how a value is used that is taken over so
abbrev pub need_of : Receiver → Need
need_of (Argument need t) = need
need_of r = needs.Consumed

-- whether the wires of a value are its own
abbrev pub is_own : Known → Bool
is_own (Shown u) = u.own
is_own k = false

-- a value of an expression, used so, from a state with n wires and a context whose next place is `low`. It is of its type. Where it is handed on, its
-- own wires are those of its place, and they are new where the place is; without wires of its own it has a new place, and is not Linear. Its own wires
-- come from parts that were consumed, or are new; other wires are of used parts, or new. Its expression did not begin before, so what it may keep is
-- new; of new wires it names none twice.
pub record IsAnswer (W : Places) (need : Need) (used consumed : Targets) (n low : ℕ) (v : Value) (k : Known) : Type 0 where
  pub typed : OfType v.ty k
  pub handed : is_consumed need ≡ true → is_held v.origin ≡ false
  pub own : is_consumed need ≡ true → IfOwn (λ ps. (ps ≡ W v.place) × ((v.place < low) ⊎ AllNew n ps)) k
  pub borrowed : is_consumed need ≡ true → IsBorrowed k → (low ≤ v.place) × (is_linear v.origin ≡ false)
  pub moved : IfOwn (λ ps. (w : WireId) → 1 ≤ times_in w ps → (consumed w ≡ true) ⊎ (n ≤ w.number)) k
  pub within : Within used n k
  pub began : BeganFrom n k
  pub differ : (w : WireId) → n ≤ w.number → times_in w (operands_of k) ≤ 1

-- the type of a value that was taken over
abbrev pub taken_type : Receiver → Value → Ty
taken_type Variable v = v.ty
taken_type (Argument need t) v = t
taken_type (CallResult t) v = t
taken_type (EntryOutput t) v = t

-- whether its wires are its own: a const parameter and classical values may share theirs, but results do not
abbrev pub is_carried : Receiver → Value → Bool
is_carried Variable v = not v.ty.classical
is_carried (Argument need t) v = is_consumed need && not t.classical
is_carried (CallResult t) v = true
is_carried (EntryOutput t) v = true

-- a value that was taken over shows wires; its own ones are those of its place
pub record IsTakenOver (W : Places) (used consumed : Targets) (n low : ℕ) (r : Receiver) (v : Value) (k : Known) : Type 0 where
  pub shows : k ≡ Shown (record { classical = (taken_type r v).classical; shape = v.ty.shape; operands = operands_of k; own = true; began = began_of k })
  pub began : is_argument r ≡ true → BeganFrom n k
  pub fits : (taken_type r v).shape ≡ v.ty.shape
  pub own : is_carried r v ≡ true → (operands_of k ≡ W v.place) × ((v.place < low) ⊎ AllNew n (operands_of k))
  pub moved : is_carried r v ≡ true → (w : WireId) → 1 ≤ times_in w (operands_of k) → (consumed w ≡ true) ⊎ (n ≤ w.number)
  pub within : Within used n k
