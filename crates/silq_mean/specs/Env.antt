-- Environments: the variables in reach, with what each shows.
use Rattle.std.specs.Prelude.{Bool, false, cond, ◌||◌, List, [], ◌∷◌}
use Rattle.silq_tree.specs.declared.node.NameId.{NameId}
use Rattle.silq_types.specs.Types.{same_name}

-- the variables of a block in order of definition, and the blocks that are open, the innermost first
abbrev pub Block : Type 0 → Type 0
Block A = List (NameId × A)

abbrev pub Env : Type 0 → Type 0
Env A = List (Block A)

abbrev pub is_in_block : {A : Type 0} → Block A → NameId → Bool
is_in_block [] x = false
is_in_block (v ∷ vs) x = same_name v.0 x || is_in_block vs x

abbrev pub in_block : {A : Type 0} → A → Block A → NameId → A
in_block other [] x = other
in_block other (v ∷ vs) x = cond (same_name v.0 x) v.1 (in_block other vs x)

-- what x shows, or `other` where it is not in reach
abbrev pub found : {A : Type 0} → A → Env A → NameId → A
found other [] x = other
found other (b ∷ bs) x = cond (is_in_block b x) (in_block other b x) (found other bs x)

abbrev pub is_in_reach : {A : Type 0} → Env A → NameId → Bool
is_in_reach [] x = false
is_in_reach (b ∷ bs) x = is_in_block b x || is_in_reach bs x

abbrev pub block_with : {A : Type 0} → Block A → NameId → A → Block A
block_with [] x w = (x, w) ∷ []
block_with (v ∷ vs) x w = cond (same_name v.0 x) ((v.0, w) ∷ vs) (v ∷ block_with vs x w)

abbrev pub in_its_block : {A : Type 0} → Env A → NameId → A → Env A
in_its_block [] x w = []
in_its_block (b ∷ bs) x w = cond (is_in_block b x) (block_with b x w ∷ bs) (b ∷ in_its_block bs x w)

abbrev pub in_first_block : {A : Type 0} → Env A → NameId → A → Env A
in_first_block [] x w = ((x, w) ∷ []) ∷ []
in_first_block (b ∷ bs) x w = block_with b x w ∷ bs

-- x shows w; where x is not in reach it is a new variable of the innermost block
abbrev pub bound : {A : Type 0} → Env A → NameId → A → Env A
bound env x w = cond (is_in_reach env x) (in_its_block env x w) (in_first_block env x w)
