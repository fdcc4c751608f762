-- A list of no uses clashes with none.
use Rattle.std.specs.Prelude.{◌≡◌, refl, Bool, true, false, ◌&&◌, ◌||◌, ◌==◌, List, [], ◌∷◌, length}
use mathlib.Core.Path.{◌∙◌, ap, sym}
use native.Mathlib.Omega.{arith}
use Rattle.silq_types.specs.declared.need.Need.{Need}
use Rattle.silq_types.specs.declared.need.Need.TheVariants as needs
use Rattle.check_scope.specs.declared.uses.Use.{Use}
use Rattle.check_scope.specs.Used.{uses_clash}
use Rattle.silq_types.specs.Calls.{is_consumed}
use Rattle.check_scope.specs.Uses.{is_only_held, clash, some_with}

neither : (b c : Bool) → c ≡ false → ((b && false) || c) ≡ false
neither true c e = e
neither false c e = e

pub clash_none : (wanted : Need → Bool) (us : List Use) → clash wanted us [] ≡ false
clash_none wanted [] = refl
clash_none wanted (u ∷ us) = neither (is_consumed u.need) (clash wanted us []) (clash_none wanted us)

pub none_clash : (wanted : Need) (us : List Use) → uses_clash wanted [] us ≡ false
none_clash needs.Consumed us = refl
none_clash needs.Held us = clash_none is_only_held us

pub none_with : (wanted : Need) (rest : List (List Use)) → some_with (uses_clash wanted) [] rest ≡ false
none_with wanted [] = refl
none_with wanted (us ∷ rest) = ap (λ b. b || some_with (uses_clash wanted) [] rest) (none_clash wanted us) ∙ none_with wanted rest

pub empty_with : (wanted : Need) (us : List Use) (rest : List (List Use)) → (length us == 0) ≡ true → false ≡ some_with (uses_clash wanted) us rest
empty_with wanted [] rest e = sym (none_with wanted rest)
empty_with wanted (u ∷ us) rest e = absurd (grind (arith, e))
