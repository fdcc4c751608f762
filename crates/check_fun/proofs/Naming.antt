-- A name in an expression.
use Rattle.std.proofs.Common.{◌≡◌, refl, Bool, true, false, List, [], ◌∷◌, ◌++◌, ◌∙◌, sym, ap}
use Rattle.std.specs.Prelude.{◌||◌}
use Rattle.silq_tree.specs.declared.node.NameId.{NameId}
use Rattle.silq_tree.specs.declared.node.Spot.{Spot}
use Rattle.silq_types.specs.Types.{same_name}
use Rattle.check_fun.specs.Statement.{has_name}

or_assoc : (a b c : Bool) → (a || (b || c)) ≡ ((a || b) || c)
or_assoc true b c = refl
or_assoc false b c = refl

-- a name is in two lists where it is in one of them
pub has_name_both : (x : NameId) (ps qs : List (NameId × Spot)) → has_name x (ps ++ qs) ≡ (has_name x ps || has_name x qs)
has_name_both x [] qs = refl
has_name_both x (p ∷ ps) qs = ap (λ b. same_name p.0 x || b) (has_name_both x ps qs) ∙ or_assoc (same_name p.0 x) (has_name x ps) (has_name x qs)

-- a name in a list of none
pub has_name_last : (x : NameId) (ps : List (NameId × Spot)) → has_name x (ps ++ []) ≡ has_name x ps
has_name_last x [] = refl
has_name_last x (p ∷ ps) = ap (λ b. same_name p.0 x || b) (has_name_last x ps)

pub ruleset naming = (has_name_both, has_name_last)
