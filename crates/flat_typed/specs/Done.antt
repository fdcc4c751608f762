-- What an effect does to the relation, for each kind of effect: what a lemma for it concludes.
use Rattle.std.specs.Prelude.{◌≡◌, ℕ, suc, ◌≤◌, ◌<◌, ◌⊎◌, true, false, not, ◌&&◌, if◌then◌else◌, ◌++◌, List, [], ◌∷◌, length, map, drop, reverse, None, nat_lt}
use Rattle.silq_tree.specs.declared.node.NameId.{NameId}
use Rattle.silq_types.specs.declared.types.Ty.{Ty}
use Rattle.silq_types.specs.declared.values.Part.{Part}
use Rattle.silq_types.specs.declared.values.Value.{Value}
use Rattle.silq_types.specs.declared.values.Var.{Var}
use Rattle.silq_types.specs.declared.need.Need.{Need}
use Rattle.silq_types.specs.declared.need.Need.TheVariants as needs
use Rattle.silq_types.specs.Types.{is_linear}
use Rattle.check_scope.specs.declared.uses.Use.{Use}
use Rattle.check_scope.specs.Context.{Context, Scope}
use Rattle.silq_types.specs.Calls.{is_consumed}
use Rattle.check_expr.specs.Expression.{is_qfree, is_unmarked, is_run_time}
use Rattle.check_expr.specs.Owners.{owned, Sole}
use Rattle.silq_mean.specs.Env.{Env}
use Rattle.silq_mean.specs.Effect.{Effect}
use Rattle.bit_arith.specs.Calls.{Targets}
use Rattle.flat_core.specs.declared.step.WireId.{WireId}
use Rattle.flat_core.specs.declared.step.End.TheVariants.{Dropped}
use Rattle.flat_core.specs.Form.{DraftForm}
use Rattle.flat_core.specs.Label.{wire_in}
use Rattle.flat_core.specs.Drafts.{is_measured}
use Rattle.flat_form.specs.declared.known.Known.{Known}
use Rattle.flat_form.specs.declared.known.Known.TheVariants.{Static}
use Rattle.flat_form.specs.State.{Flattening, wires_so_far, operands_of}
use Rattle.flat_form.specs.Flat.{flat}
use Rattle.flat_form.specs.Fine.{Fine}
use Rattle.flat_form.specs.Names.{AllOf, names}
use Rattle.flat_form.specs.Good.{Good}
use Rattle.flat_form.specs.Shows.{ListBoth}
use Rattle.flat_typed.specs.Places.{Places, is_part, has_wires, owners_of, times_in}
use Rattle.flat_typed.specs.Footprint.{used_wires, consumed_wires, NoneNames, Touches, StaysPlain, Unmade}
use Rattle.flat_typed.specs.Relation.{Outside, Stands, IsAnswer, AllNew, is_own}

-- ---- lists

-- what places below the n-th show stays
abbrev pub Agree : ℕ → Places → Places → Type 0
Agree n W U = (p : ℕ) → p < n → U p ≡ W p

-- the parts, the types and the places of variables, which an expression leaves
abbrev pub kinds : List Var → List (Part × (Ty × ℕ))
kinds vars = map (λ (v : Var). (v.part, (v.ty, v.place))) vars

-- the values that carry wires of their own
abbrev pub carrying : Need → List Value → List Known → List Value
carrying need (v ∷ vs) (k ∷ ks) = if is_consumed need && is_own k then (v ∷ carrying need vs ks) else carrying need vs ks
carrying need vs ks = []

-- a call may give several values in a held use, which typing refuses only behind it: each is counted as handed on
abbrev pub need_for : Need → List Value → Need
need_for need (v ∷ (w ∷ vs)) = needs.Consumed
need_for need vs = need

-- what each block names, from the second block on
abbrev pub outer_names : Env Known → List (List NameId)
outer_names env = map (λ b. map (λ (p : NameId × Known). p.0) b) (drop 1 env)

-- what an effect leaves of a state
pub record Leaves (s u : Flattening) : Type 0 where
  pub setting : u.setting ≡ s.setting
  pub callers : u.callers ≡ s.callers
  pub blocks : length u.env ≡ length s.env
  pub names : outer_names u.env ≡ outer_names s.env

-- an unmarked function that is under no condition of its own is under none: it may measure
abbrev pub OpenAir : Scope → Flattening → Type 0
OpenAir sc s = is_unmarked sc.this.mark ≡ true → is_run_time sc ≡ false → s.setting.condition ≡ None

-- a variable's wires are new where its place is
abbrev pub MadeSince : ℕ → ℕ → Places → Var → Type 0
MadeSince n low W v = has_wires v ≡ true → (v.place < low) ⊎ AllNew n (W v.place)

-- ---- one expression

-- places that are under way have at most one owner among these values
abbrev pub Counted : List Value → (ℕ → ℕ) → Type 0
Counted under others = (p : ℕ) → owned p under ≤ others p

-- how many parts were taken out
abbrev pub parts_in : List Var → ℕ
parts_in [] = 0
parts_in (v ∷ vs) = if is_part v then suc (parts_in vs) else parts_in vs

-- from where the relation stands, with `others` places under way, and no value below names what it consumes; parts that are under way have places
-- from before, and there is one at most
pub record Begins (out : Outside) (sc : Scope) (low : ℕ) (others : ℕ → ℕ) (W : Places) (under : List Value) (us : List Use) (c : Context) (s : Flattening) : Type 0 where
  pub good : Good s
  pub unmade : Unmade s.built.draft
  pub sole : Sole low others c
  pub counted : Counted under others
  pub stands : Stands out sc.held W under c s
  pub open_air : OpenAir sc s
  pub apart : NoneNames (consumed_wires W c.vars us) s.values
  pub placed : AllOf (λ v. is_part v ≡ true → v.place < c.next) c.vars
  pub lone : parts_in c.vars ≤ 1

-- the effect is fine, and its values are those that typing tells
pub record ExprDone (out : Outside) (sc : Scope) (need : Need) (e : Effect) (W : Places) (under : List Value) (us : List Use) (c : Context) (s : Flattening) (vs : List Value) (d : Context) : Type 0 where
  pub fine : Fine e s
  pub after : Places
  pub agree : Agree c.next W after
  pub answers : List Known
  pub values : (flat e s).values ≡ reverse answers ++ s.values
  pub each : ListBoth (IsAnswer after need (used_wires W c.vars us) (consumed_wires W c.vars us) (wires_so_far s) c.next) vs answers
  pub stands : Stands out sc.held after (carrying (need_for need vs) vs answers ++ under) d (flat e s)
  pub kinds_stay : kinds d.vars ≡ kinds c.vars
  pub leaves : Leaves s (flat e s)
  pub touches : Touches (consumed_wires W c.vars us) s.built.draft (flat e s).built.draft
  pub plain : is_qfree sc.this.mark ≡ true → StaysPlain s.built.draft (flat e s).built.draft
  pub unmade : Unmade (flat e s).built.draft

-- a classical value names no wire with an owner; one that is handed on has a new place, and is not Linear
pub record IsSharing (need : Need) (low : ℕ) (owners : WireId → ℕ) (v : Value) (k : Known) : Type 0 where
  pub shares : v.ty.classical ≡ true → (w : WireId) → 1 ≤ owners w → names k w ≡ false
  pub new : is_consumed need ≡ true → v.ty.classical ≡ true → low ≤ v.place
  pub lifted : is_consumed need ≡ true → v.ty.classical ≡ true → is_linear v.origin ≡ false

abbrev pub IsTyped : Known → Type 0
IsTyped (Static z) = ⊥
IsTyped k = Unit {0}

-- wires from the n-th on that a value names and that are not measured have no other end than to be dropped
abbrev pub EndsDropped : ℕ → DraftForm → Known → Type 0
EndsDropped n d k = (w : WireId) → 1 ≤ times_in w (operands_of k) → n ≤ w.number → is_measured d.steps w ≡ false → (wire_in d.wires w).ending ≡ Dropped

-- each of several values has wires of its own
abbrev pub OwnIfSeveral : List Known → Type 0
OwnIfSeveral (k ∷ (l ∷ ks)) = AllOf (λ k. is_own k ≡ true) (k ∷ (l ∷ ks))
OwnIfSeveral ks = Unit {0}

-- and of its values: a classical one names no wire with an owner; where no type was asked each has one; what they name that is new is
-- dropped; and several have wires of their own
pub record ExprTells (out : Outside) (sc : Scope) (need : Need) (wants : List Ty) (e : Effect) (W : Places) (under : List Value) (us : List Use) (c : Context) (s : Flattening) (vs : List Value) (d : Context) : Type 0 where
  pub done : ExprDone out sc need e W under us c s vs d
  pub sharing : ListBoth (IsSharing need c.next (λ w. owners_of done.after d.vars under w)) vs done.answers
  pub typed : wants ≡ [] → AllOf IsTyped done.answers
  pub untold : AllOf (EndsDropped (wires_so_far s) (flat e s).built.draft) done.answers
  pub several : OwnIfSeveral done.answers

-- ---- statements

-- the wires that a statement may change: those with an owner that no condition guards
abbrev pub changeable : Outside → Places → List Var → List Value → Targets
changeable out W vars under w = not (out.guarded w) && nat_lt 0 (owners_of W vars under w)

-- at a statement's beginning no value and no part is under way, and some block is open
pub record StmtBegins (out : Outside) (sc : Scope) (low : ℕ) (others : ℕ → ℕ) (W : Places) (c : Context) (s : Flattening) : Type 0 where
  pub good : Good s
  pub unmade : Unmade s.built.draft
  pub sole : Sole low others c
  pub stands : Stands out sc.held W [] c s
  pub whole : AllOf (λ v. is_part v ≡ false) c.vars
  pub block : 1 ≤ length s.env
  pub open_air : OpenAir sc s
  pub none : s.values ≡ []

pub record StmtDone (out : Outside) (sc : Scope) (e : Effect) (W : Places) (c : Context) (s : Flattening) (d : Context) : Type 0 where
  pub fine : Fine e s
  pub after : Places
  pub agree : Agree c.next W after
  pub stands : Stands out sc.held after [] d (flat e s)
  pub whole : AllOf (λ v. is_part v ≡ false) d.vars
  pub made : AllOf (MadeSince (wires_so_far s) c.next after) d.vars
  pub none : (flat e s).values ≡ []
  pub leaves : Leaves s (flat e s)
  pub touches : Touches (changeable out W c.vars []) s.built.draft (flat e s).built.draft
  pub plain : is_qfree sc.this.mark ≡ true → StaysPlain s.built.draft (flat e s).built.draft
  pub unmade : Unmade (flat e s).built.draft
