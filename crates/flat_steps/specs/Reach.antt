-- Where a variable stands among blocks that are listed from the outermost on.
use Rattle.std.specs.Prelude.{◌≡◌, ℕ, suc, ◌<◌, Bool, true, false, cond, List, [], ◌∷◌, Option, Some, None, length, reverse, drop, get_or}
use Rattle.std.specs.Option.{option_map}
use Rattle.silq_tree.specs.declared.node.NameId.{NameId}
use Rattle.silq_types.specs.Types.{same_name}
use Rattle.silq_mean.specs.Env.{Block, is_in_block, is_in_reach}
use Rattle.flat_steps.specs.declared.variables.Place.{Place}

-- the innermost block that has the name
pub record IsInnermost {A : Type 0} (bs : List (Block A)) (x : NameId) (i : ℕ) : Type 0 where
  pub there : i < length bs
  pub inner : is_in_reach (reverse (drop (suc i) bs)) x ≡ false
  pub has : is_in_block (get_or bs i []) x ≡ true

-- the number of the first variable of a block that has the name
abbrev pub number_of : {A : Type 0} → Block A → NameId → Option ℕ
number_of [] x = None
number_of (v ∷ vs) x = cond (same_name v.0 x) (Some 0) (option_map suc (number_of vs x))

-- whether there is a variable, and it has the name
abbrev pub is_named : {A : Type 0} → NameId → Option (NameId × A) → Bool
is_named x None = false
is_named x (Some v) = same_name v.0 x

-- the place of the variable that a name means
pub record IsPlace {A : Type 0} (bs : List (Block A)) (x : NameId) (p : Place) : Type 0 where
  pub innermost : IsInnermost bs x p.block
  pub first : number_of (get_or bs p.block []) x ≡ Some p.number

-- the place of each variable is told, by the number of its name
abbrev pub Tells : {A : Type 0} → (ℕ → Option Place) → List (Block A) → Type 0
Tells told bs = (x : NameId) (i j : ℕ) → number_of (get_or bs i []) x ≡ Some j → told x.number ≡ Some (record { block = i; number = j })
