-- Depths up to 64, and 65 for those that are more.
use Rattle.std.specs.Prelude.{◌≡◌, ℕ, zero, suc, ◌+◌, ◌<◌, Bool, true, false, nat_le, nat_eq, cond, List, [], ◌∷◌, Option, Some, None, slice_index}
use Rattle.silq_tree.specs.Syntax as tree
use Rattle.silq_grammar.specs.Grammar.{one_sum, compare}
use Rattle.silq_grammar.specs.Nest.{prod_count, sum_count, and_count, or_count}
use Rattle.silq_print.specs.Ways.{greater, Written, at_or, at_and, at_cmp, at_sum, at_prod, at_unary, depth, Ways, only, also, least, ways}
use Rattle.silq_print.specs.Levels.{top_level, is_looser}
use Rattle.silq_print.specs.declared.level.Level.{Level}

abbrev pub capped : ℕ → ℕ
capped n = cond (nat_le n 64) n 65

-- how much nest an expression adds, and one that is an operand of a level
abbrev pub low : Bool → tree.Expression → ℕ
low tight e = depth (least (ways tight e))

abbrev pub operand_low : Level → Bool → tree.Expression → ℕ
operand_low level tight e = cond (is_looser (top_level e) level) (1 + low tight e) (low tight e)

abbrev pub scalar_low : Bool → tree.ScalarType → ℕ
scalar_low tight tree.bit = 0
scalar_low tight (tree.uint e) = 1 + low tight e
scalar_low tight (tree.int e) = 1 + low tight e

abbrev pub number_low : Bool → Option tree.ScalarType → ℕ
number_low tight None = 0
number_low tight (Some ty) = scalar_low tight ty

abbrev pub index_low : Bool → Option tree.Expression → ℕ
index_low tight None = 0
index_low tight (Some e) = 1 + low tight e

-- the most that one of these adds
abbrev pub deepest : Bool → tree.Expressions → ℕ
deepest tight tree.none = 0
deepest tight (tree.more e es) = greater (low tight e) (deepest tight es)

-- how many signs the chain of an expression has
abbrev pub signs : Written → ℕ
signs (at_or d) = or_count d
signs (at_and d) = and_count d
signs (at_cmp (one_sum d)) = 0
signs (at_cmp (compare c d s e)) = 1
signs (at_sum d) = sum_count d
signs (at_prod d) = prod_count d
signs (at_unary d) = 0

abbrev pub lesser : ℕ → ℕ → ℕ
lesser a b = cond (nat_le a b) a b

-- the least depth of the ways with so many signs; 65 where there is none
abbrev pub least_with : Ways → ℕ → ℕ
least_with (only w) s = cond (nat_eq (signs w) s) (capped (depth w)) 65
least_with (also w ws) s = lesser (cond (nat_eq (signs w) s) (capped (depth w)) 65) (least_with ws s)

-- by how many signs there are, up to 64
abbrev pub AreDepths : List ℕ → Ways → Type 0
AreDepths table ws = (s : ℕ) → s < 65 → slice_index table s ≡ least_with ws s

abbrev pub least_of : List ℕ → ℕ
least_of [] = 65
least_of (n ∷ ns) = lesser n (least_of ns)

-- with one more sign, behind which an operand of this depth stands
abbrev pub longer_at : List ℕ → ℕ → ℕ → ℕ
longer_at table right zero = 65
longer_at table right (suc s) = greater (slice_index table s) (capped (suc s + right))

-- one way, with so many signs and of this depth
abbrev pub only_at : ℕ → ℕ → ℕ → ℕ
only_at signs depth s = cond (nat_eq signs s) depth 65

-- a chain that goes on from one in these ways, or where it is written tight from one in parentheses
abbrev pub chain_at : Bool → Ways → ℕ → ℕ → ℕ
chain_at tight ws right zero = 65
chain_at true ws right (suc zero) = lesser (greater (least_with ws 0) (capped (1 + right))) (greater (capped (1 + capped (depth (least ws)))) (capped (1 + right)))
chain_at true ws right (suc (suc s)) = greater (least_with ws (suc s)) (capped (suc (suc s) + right))
chain_at false ws right (suc s) = greater (least_with ws s) (capped (suc s + right))
