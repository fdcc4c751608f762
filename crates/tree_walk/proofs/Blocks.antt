-- Blocks, static choices and loops.
use Rattle.std.proofs.Common.{◌≡◌, ℕ, zero, suc, ◌<◌, Bool, true, false, cond, List, [], ◌∷◌, length, refl, sym, ap, ◌∙◌, arith, rules, w64, to_z, of_z, SFits}
use Rattle.std.proofs.Common.{subst}
use Rattle.std.specs.Prelude.{ℤ, pos, negsuc, ◌+ℤ◌, ◌-ℤ◌, ◌<ℤ◌, ◌≤ℤ◌}
use Rattle.std.specs.Int.Signed.{lt_z}
use Rattle.std.proofs.lemmas.Int.{ints, by_lt_z, to_z-of_z}
use Rattle.std.proofs.Math.Numerals.{add-one}
use Rattle.silq_tree.specs.declared.node.NameId.{NameId}
use Rattle.silq_tree.specs.declared.node.ExprId.{ExprId}
use Rattle.silq_tree.specs.declared.node.StmtId.{StmtId}
use Rattle.silq_tree.specs.declared.node.Block.{Block}
use Rattle.silq_tree.specs.declared.node.Else.{Else}
use Rattle.silq_tree.specs.declared.node.Else.TheVariants as elses
use Rattle.silq_tree.specs.Arena.{Forest, expr_at}
use Rattle.silq_tree.specs.Children.{AreStmtsBelow, else_stmts}
use Rattle.static_num.specs.Static.{is_static, is_true}
use Rattle.check_scope.specs.Library.{Shelf}
use Rattle.silq_types.specs.Programs.{distance}
use Rattle.silq_types.specs.declared.need.Need.TheVariants.{Held}
use Rattle.silq_mean.specs.Effect.{Effect, ◌>>◌, choice}
use Rattle.silq_mean.specs.Meaning.{in_block, static_value}
use Rattle.tree_walk.specs.declared.body.Body.{Body}
use Rattle.tree_walk.specs.Seen.{expr_in, stmt_in, block_in, else_in, taken_in, choose_in, rounds_in, loop_in, with_value}

-- ---- what stands behind `else`

pub told_else_block : (l : Shelf) (b : Body) (other : Else) (inner : Block) (ids : List StmtId) → other ≡ elses.Block inner → ids ≡ inner.items
    → else_in l b other ≡ block_in l b ids
told_else_block l b other inner ids q k = ap (λ o. else_in l b o) q ∙ ap (λ xs. block_in l b xs) (sym k)

pub told_else_choice : (l : Shelf) (b : Body) (other : Else) (id : StmtId) → other ≡ elses.Choice id → else_in l b other ≡ in_block (stmt_in l b id)
told_else_choice l b other id q = ap (λ o. else_in l b o) q

pub else_ids : (n : ℕ) (other : Else) (inner : Block) (ids : List StmtId) → other ≡ elses.Block inner → ids ≡ inner.items
    → AreStmtsBelow n (else_stmts other) → AreStmtsBelow n ids
else_ids n other inner ids q k h = subst (λ xs. AreStmtsBelow n xs) (sym k) (subst (λ o. AreStmtsBelow n (else_stmts o)) q h)

pub else_same : (other : Else) (inner : Block) (ids : List StmtId) → other ≡ elses.Block inner → ids ≡ inner.items → ids ≡ else_stmts other
else_same other inner ids q k = k ∙ sym (ap else_stmts q)

pub else_one : (other : Else) (id : StmtId) → other ≡ elses.Choice id → id ∷ [] ≡ else_stmts other
else_one other id q = sym (ap else_stmts q)

-- ---- static choices

module _ (l : Shelf) (b : Body) (e : ExprId) (ids : List StmtId) (other : Else) where
  -- by whether its condition is static
  abbrev chosen : Bool → Effect
  chosen t =
      cond t (taken_in l b (is_true (static_value b.statics (expr_at l.nodes e))) ids other)
      (expr_in l b e Held >> choice (block_in l b ids) (else_in l b other))

  module _ (n : Forest) (r : Bool) (h : n ≡ l.nodes) (k : r ≡ is_static b.statics (expr_at n e)) where
    by_static : (t : Bool) → r ≡ t → choose_in l b e ids other ≡ chosen t
    by_static t q = ap (λ x. chosen x) (ap (λ m. is_static b.statics (expr_at m e)) (sym h) ∙ (sym k ∙ q))

    pub told_static_choice : (first : Bool) → r ≡ true → first ≡ is_true (static_value b.statics (expr_at l.nodes e))
        → choose_in l b e ids other ≡ taken_in l b first ids other
    told_static_choice first t p = by_static true t ∙ ap (λ x. taken_in l b x ids other) (sym p)

    pub told_run_choice : r ≡ false → choose_in l b e ids other ≡ expr_in l b e Held >> choice (block_in l b ids) (else_in l b other)
    told_run_choice t = by_static false t

pub taken_first : (l : Shelf) (b : Body) (first : Bool) (ids : List StmtId) (other : Else) → first ≡ true → taken_in l b first ids other ≡ block_in l b ids
taken_first l b first ids other e = ap (λ x. taken_in l b x ids other) e

pub taken_other : (l : Shelf) (b : Body) (first : Bool) (ids : List StmtId) (other : Else) → first ≡ false → taken_in l b first ids other ≡ else_in l b other
taken_other l b first ids other e = ap (λ x. taken_in l b x ids other) e

-- ---- rounds

pub no_items : (ids : List StmtId) → length ids ≡ 0 → ids ≡ []
no_items [] e = refl
no_items (x ∷ xs) e = absurd (omega (arith, e))

pub lt_told : (a b : ℤ) → lt_z a b ≡ true → a <ℤ b
lt_told a b e = by_lt_z a b (λ l. l) (λ g. absurd (grind (arith, ints, e, g)))

pub ge_told : (a b : ℤ) → lt_z a b ≡ false → b ≤ℤ a
ge_told a b e = by_lt_z a b (λ l. absurd (grind (arith, ints, e, l))) (λ g. g)

next_fits : (v past : ℤ) → SFits w64 past → SFits w64 v → v <ℤ past → SFits w64 (v +ℤ pos 1)
next_fits (pos n) (pos m) p q l = search (rules, arith, ints, p, q, l)
next_fits (pos n) (negsuc m) p q l = absurd (grind (arith, ints, l))
next_fits (negsuc zero) past p q l = search (rules, arith, ints, p, q, l)
next_fits (negsuc (suc n)) past p q l = search (rules, arith, ints, p, q, l)

pub next_number : (v past : ℤ) → SFits w64 past → SFits w64 v → v <ℤ past → to_z w64 (of_z w64 (v +ℤ pos 1)) ≡ v +ℤ pos 1
next_number v past p q l = to_z-of_z w64 (v +ℤ pos 1) (next_fits v past p q l)

one_less : (x y : ℤ) → x ≡ y +ℤ pos 1 → pos 0 <ℤ x → distance x ≡ suc (distance y)
one_less x (pos n) e l = ap distance e ∙ add-one n
one_less x (negsuc n) e l = absurd (omega (arith, ints, e, l))

none_far : (x : ℤ) → x ≤ℤ pos 0 → distance x ≡ 0
none_far (pos n) l = omega (arith, ints, l)
none_far (negsuc n) l = refl

pub next_distance : (past value : ℤ) → value <ℤ past → distance (past -ℤ value) ≡ suc (distance (past -ℤ (value +ℤ pos 1)))
next_distance past value l = one_less (past -ℤ value) (past -ℤ (value +ℤ pos 1)) (omega (arith, ints)) (omega (arith, ints, l))

pub distance_less : (past value next : ℤ) → value <ℤ past → next ≡ value +ℤ pos 1 → distance (past -ℤ next) < distance (past -ℤ value)
distance_less past value next h w =
    let e : distance (past -ℤ value) ≡ suc (distance (past -ℤ (value +ℤ pos 1))) = next_distance past value h in
    let f : distance (past -ℤ next) ≡ distance (past -ℤ (value +ℤ pos 1)) = ap (λ z. distance (past -ℤ z)) w in
    omega (arith, e, f)

pub no_distance : (past value : ℤ) → past ≤ℤ value → distance (past -ℤ value) ≡ 0
no_distance past value l = none_far (past -ℤ value) (omega (arith, ints, l))

-- the rounds of a loop, from its first number on
pub told_loop : (l : Shelf) (b : Body) (x : NameId) (low high : ExprId) (ids : List StmtId) (m n : Forest) (past value : ℤ)
    → m ≡ l.nodes → past ≡ static_value b.statics (expr_at m high) → n ≡ l.nodes → value ≡ static_value b.statics (expr_at n low)
    → loop_in l b x low high ids ≡ rounds_in l b x ids value (distance (past -ℤ value))
told_loop l b x low high ids m n past value h p k v =
    let first : ℤ = static_value b.statics (expr_at l.nodes low) in
    let last : ℤ = static_value b.statics (expr_at l.nodes high) in
    let e : value ≡ first = v ∙ ap (λ t. static_value b.statics (expr_at t low)) k in
    let f : past ≡ last = p ∙ ap (λ t. static_value b.statics (expr_at t high)) h in
    ap (λ z. rounds_in l b x ids first (distance (z -ℤ first))) (sym f) ∙ ap (λ z. rounds_in l b x ids z (distance (past -ℤ z))) (sym e)

-- one round after the other
pub told_round : (l : Shelf) (b : Body) (x : NameId) (ids : List StmtId) (past value : ℤ) → value <ℤ past
    → rounds_in l b x ids value (distance (past -ℤ value))
    ≡ block_in l (with_value b x value) ids >> rounds_in l b x ids (value +ℤ pos 1) (distance (past -ℤ (value +ℤ pos 1)))
told_round l b x ids past value h = ap (λ n. rounds_in l b x ids value n) (next_distance past value h)
