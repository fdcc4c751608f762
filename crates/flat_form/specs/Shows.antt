-- When the values of wires show a term of the source.
use Rattle.std.specs.Prelude.{◌≡◌, ◌<◌, List, [], ◌∷◌, length, ⊤}
use Rattle.silq_tree.specs.declared.node.NameId.{NameId}
use Rattle.silq_types.specs.declared.types.Shape.{Shape}
use Rattle.silq_types.specs.declared.types.Shape.TheVariants.{Array}
use Rattle.silq_types.specs.Types.{single_shape}
use Rattle.silq_mean.specs.Value.{Value, whole, single, array, modulus, bits_of}
use Rattle.silq_mean.specs.Env.{Env}
use Rattle.silq_mean.specs.Term.{Term, Caller as SourceCaller}
use Rattle.flat_core.specs.Sound.{count_measures}
use Rattle.flat_mean.specs.Row.{Row}
use Rattle.flat_mean.specs.Terms.{Term as WireTerm}
use Rattle.bit_arith.specs.Values.{bits_at, Clean}
use Rattle.flat_form.specs.declared.known.Known.{Known}
use Rattle.flat_form.specs.declared.known.Known.TheVariants.{Static, Shown, Lent, Absent}
use Rattle.flat_form.specs.State.{Caller, Flattening, outside}
use Rattle.flat_form.specs.Names.{AllOf}

-- a value of a type
abbrev pub HasShape : Shape → Value → Type 0
HasShape s (single k n) = (s ≡ single_shape k) × (n < modulus k)
HasShape s (array k ns) = (s ≡ Array k (length ns)) × AllOf (λ n. n < modulus k) ns
HasShape s w = ⊥

-- the operands' bits are those of the value; of a variable with a lent part, those outside it
abbrev pub Shows : Row → Known → Value → Type 0
Shows v (Static z) (whole y) = z ≡ y
Shows v (Static z) w = ⊥
Shows v (Shown k) w = HasShape k.shape w × (bits_at v k.operands ≡ bits_of w)
Shows v (Lent start size k) w = HasShape k.shape w × (bits_at v (outside start size k.operands) ≡ outside start size (bits_of w))
Shows v Absent w = ⊤

abbrev pub ListBoth : {A B : Type 0} → (A → B → Type 0) → List A → List B → Type 0
ListBoth S [] [] = ⊤
ListBoth S (a ∷ rest) (b ∷ bs) = S a b × ListBoth S rest bs
ListBoth S xs ys = ⊥

-- the same names, with related values
abbrev pub Entry : {A B : Type 0} → (A → B → Type 0) → (NameId × A) → (NameId × B) → Type 0
Entry S p q = (p.0 ≡ q.0) × S p.1 q.1

abbrev pub EnvBoth : {A B : Type 0} → (A → B → Type 0) → Env A → Env B → Type 0
EnvBoth S = ListBoth (ListBoth (Entry S))

pub record CallerShows (v : Row) (c : Caller) (t : SourceCaller) : Type 0 where
  pub env : EnvBoth (Shows v) c.env t.env
  pub values : ListBoth (Shows v) c.values t.values

-- a term over the wires shows a term of the source
pub record Related (s : Flattening) (u : WireTerm) (t : Term) : Type 0 where
  pub clean : Clean s.built.draft u.row
  pub env : EnvBoth (Shows u.row) s.env t.env
  pub values : ListBoth (Shows u.row) s.values t.values
  pub callers : ListBoth (CallerShows u.row) s.callers t.callers
  pub eighths : u.eighths ≡ t.eighths
  pub halvings : u.halvings ≡ t.halvings
  pub measured : count_measures s.built.draft.steps ≡ t.measured
