-- A list of names, and where a name stands in it.
use Rattle.std.specs.Prelude.{◌≡◌, ℕ, suc, Bool, false, if◌then◌else◌, List, Option, Some, None, length, map, slice_get}
use Prim.Native.Nat.{zero}
use Rattle.std.specs.Option.{option_flatten}
use Rattle.silq_tree.specs.declared.node.NameId.{NameId}
use Rattle.silq_types.specs.Types.{same_name}
use Rattle.check_scope.specs.declared.name_index.Link.{Link}

-- whether there is a name, and it is this one
abbrev pub is_name : NameId → Option NameId → Bool
is_name x None = false
is_name x (Some y) = same_name y x

-- the number of the last of the first n names that is this one
abbrev pub last_below : List NameId → ℕ → NameId → Option ℕ
last_below names zero x = None
last_below names (suc n) x = if is_name x (slice_get names n) then Some n else last_below names n x

-- ---- the index

abbrev pub names_of : List Link → List NameId
names_of links = map (λ (l : Link). l.name) links

-- it tells the last number of each name
abbrev pub TellsLast : (ℕ → Option (Option ℕ)) → List NameId → Type 0
TellsLast last names = (x : NameId) → option_flatten (last x.number) ≡ last_below names (length names) x

-- each link tells the number before it of the same name
abbrev pub AreLinked : List Link → Type 0
AreLinked links = (i : ℕ) (l : Link) → slice_get links i ≡ Some l → l.before ≡ last_below (names_of links) i l.name

pub record Indexes (last : ℕ → Option (Option ℕ)) (links : List Link) : Type 0 where
  pub tells : TellsLast last (names_of links)
  pub linked : AreLinked links
