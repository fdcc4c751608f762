-- The first name that is not known, of names in two lists.
use Rattle.std.specs.Prelude.{◌≡◌, refl, Bool, true, false, if◌then◌else◌, List, [], ◌∷◌, ◌++◌, Option, Some, None}
use Rattle.silq_tree.specs.declared.node.NameId.{NameId}
use Rattle.silq_tree.specs.declared.node.Spot.{Spot}
use Rattle.silq_types.specs.Types.{first_unknown}

abbrev pub or_later : Option Spot → Option Spot → Option Spot
or_later None later = later
or_later (Some s) later = Some s

if_known : (b : Bool) (s : Spot) (both first later : Option Spot) → both ≡ or_later first later → (if b then both else Some s) ≡ or_later (if b then first else Some s) later
if_known true s both first later e = e
if_known false s both first later e = refl

pub first_unknown_in_both : (known : NameId → Bool) (xs ys : List (NameId × Spot)) → first_unknown known (xs ++ ys) ≡ or_later (first_unknown known xs) (first_unknown known ys)
first_unknown_in_both known [] ys = refl
first_unknown_in_both known (x ∷ xs) ys = if_known (known x.0) x.1 _ _ _ (first_unknown_in_both known xs ys)
