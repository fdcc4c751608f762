-- The first name that does not pass, in lists of names.
use Rattle.std.proofs.Common.{◌≡◌, refl, ℕ, ◌+◌, ◌<◌, Bool, true, false, List, [], ◌∷◌, ◌++◌, Some, None, sym, drop, get_or, length}
use Rattle.silq_tree.specs.declared.node.NameId.{NameId}
use Rattle.silq_tree.specs.declared.node.ExprId.{ExprId}
use Rattle.silq_tree.specs.declared.node.Spot.{Spot}
use Rattle.silq_tree.specs.Syntax.{Expression}
use Rattle.silq_tree.specs.Standing.{expressions_of}
use Rattle.silq_tree.proofs.Lists.{expressions_of-drop}
use Rattle.silq_types.specs.Types.{first_unknown, names, all_names}

left_step : (known : NameId → Bool) (x : NameId × Spot) (xs ys : List (NameId × Spot)) (s : Spot) → (Some s ≡ first_unknown known xs → Some s ≡ first_unknown known (xs ++ ys)) → (b : Bool) → known x.0 ≡ b → Some s ≡ first_unknown known (x ∷ xs) → Some s ≡ first_unknown known ((x ∷ xs) ++ ys)
left_step known x xs ys s ih true k e = rw k (ih (rw k at e))
left_step known x xs ys s ih false k e = rw k (rw k at e)

pub unknown_left : (known : NameId → Bool) (xs ys : List (NameId × Spot)) (s : Spot) → Some s ≡ first_unknown known xs → Some s ≡ first_unknown known (xs ++ ys)
unknown_left known [] ys s e = cc
unknown_left known (x ∷ xs) ys s e = left_step known x xs ys s (unknown_left known xs ys s) (known x.0) refl e

right_step : (known : NameId → Bool) (x : NameId × Spot) (xs ys : List (NameId × Spot)) → (None ≡ first_unknown known xs → first_unknown known (xs ++ ys) ≡ first_unknown known ys) → (b : Bool) → known x.0 ≡ b → None ≡ first_unknown known (x ∷ xs) → first_unknown known ((x ∷ xs) ++ ys) ≡ first_unknown known ys
right_step known x xs ys ih true k e = rw k (ih (rw k at e))
right_step known x xs ys ih false k e = let h : None ≡ Some x.1 = rw k at e in cc

pub unknown_right : (known : NameId → Bool) (xs ys : List (NameId × Spot)) → None ≡ first_unknown known xs → first_unknown known (xs ++ ys) ≡ first_unknown known ys
unknown_right known [] ys e = refl
unknown_right known (x ∷ xs) ys e = right_step known x xs ys (unknown_right known xs ys) (known x.0) refl e

module _ (known : NameId → Bool) (at : ExprId → Expression) where
  -- the rest tells
  pub unknown_one : (ids : List ExprId) (i : ℕ) (d : ExprId) (s : Spot) → i < length ids → Some s ≡ first_unknown known (names (at (get_or ids i d)))
      → Some s ≡ first_unknown known (all_names (expressions_of at (drop i ids)))
  unknown_one ids i d s l e = rw (expressions_of-drop at ids i d l) (unknown_left known (names (at (get_or ids i d))) (all_names (expressions_of at (drop (i + 1) ids))) s e)

  pub unknown_rest : (ids : List ExprId) (i : ℕ) (d : ExprId) → i < length ids → None ≡ first_unknown known (names (at (get_or ids i d)))
      → first_unknown known (all_names (expressions_of at (drop (i + 1) ids))) ≡ first_unknown known (all_names (expressions_of at (drop i ids)))
  unknown_rest ids i d l e = rw (expressions_of-drop at ids i d l) (sym (unknown_right known (names (at (get_or ids i d))) (all_names (expressions_of at (drop (i + 1) ids))) e))

pub ruleset unknowns = (unknown_left, unknown_right, unknown_one, unknown_rest)
