-- Where a variable stands among blocks that are listed from the outermost on.
use Rattle.std.specs.Prelude.{◌≡◌, ℕ, suc, ◌<◌, true, false, List, [], length, reverse, drop, get_or}
use Rattle.silq_tree.specs.declared.node.NameId.{NameId}
use Rattle.silq_mean.specs.Env.{Block, is_in_block, is_in_reach}

-- the innermost block that has the name
pub record IsInnermost {A : Type 0} (bs : List (Block A)) (x : NameId) (i : ℕ) : Type 0 where
  pub there : i < length bs
  pub inner : is_in_reach (reverse (drop (suc i) bs)) x ≡ false
  pub has : is_in_block (get_or bs i []) x ≡ true
