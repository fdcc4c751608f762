-- What was read with one more token or node.
use Rattle.std.proofs.Common.{◌≡◌, ◌+◌, ◌⊎◌, inl, inr, List, [], ◌∷◌, ◌++◌, length, refl, sym, ◌∙◌, ap, arith, append_assoc, length-append}
use Rattle.silq_tree.specs.declared.node.Spot.{Spot}
use Rattle.silq_tree.specs.declared.node.ExprId.{ExprId}
use Rattle.silq_tree.specs.declared.node.Expr.{Expr}
use Rattle.silq_tree.specs.declared.node.Expr.TheVariants as exprs
use Rattle.silq_tree.specs.declared.node.BinaryOp.{BinaryOp}
use Rattle.silq_tree.specs.declared.node.BinaryOp.TheVariants as ops
use Rattle.silq_tree.specs.Syntax as tree
use Rattle.silq_tree.specs.Standing.{expr_grown}
use Rattle.silq_tree.specs.Children.{expr_exprs}
use Rattle.silq_tree.specs.Arena.{Forest, expr_at}
use Rattle.silq_tree.proofs.Arenas.{expr_made}
use Rattle.silq_grammar.specs.declared.token.Token.{Token}
use Rattle.silq_grammar.specs.declared.token.Token.TheVariants.{Fixed}
use Rattle.silq_grammar.specs.Tokens.{first_spot}
use Rattle.silq_grammar.specs.Grammar as g
use Rattle.silq_grammar.specs.Spelled.{expr_text, and_text, cmp_text, sum_text, prod_text, unary_text, comparison_sign}
use Rattle.silq_grammar.specs.Trees.{expr_tree, and_tree, cmp_tree, sum_tree, prod_tree, unary_tree, comparison_op}
use Rattle.expr_parse.specs.Grown.{Grew}
use Rattle.expr_parse.specs.Reads.{ReadsExpr}
use Rattle.expr_parse.specs.Added.{IsAdded, sign_of}
use Rattle.expr_parse.proofs.Growing.{grew_then, grew_expr}
use Rattle.expr_parse.proofs.Firsts.{Begins, same_first, prod_begins, sum_begins, and_begins, expr_begins}

-- the tree of a node that was added
pub made : {old new : Forest} (e : Expr) (id : ExprId) → IsAdded old new e id → expr_at new id ≡ expr_grown (expr_at old) e
made {old} {new} e id a = rw a.is (expr_made old e id a.number)

-- how a node that was added makes an arena grow
pub grew_by : {old mid new : Forest} (e : Expr) (id : ExprId) → Grew old mid (expr_exprs e) [] → IsAdded mid new e id → Grew old new (id ∷ []) []
grew_by {old} {mid} {new} e id g a = rw a.is (grew_expr e id a.arena g a.number)

pub one_more : {old new : Forest} (e : Expr) (id : ExprId) → IsAdded old new e id → length new.exprs ≡ length old.exprs + 1
one_more {old} {new} e id a = let h = ap (λ f. length f.exprs) a.is in let l = length-append old.exprs (e ∷ []) in omega (arith, h, l)

pub same_stmts : {old new : Forest} (e : Expr) (id : ExprId) → IsAdded old new e id → length new.stmts ≡ length old.stmts
same_stmts e id a = ap (λ f. length f.stmts) a.is

-- an operand, an operator and an operand
module _ {D E F : Type 0} (text : D → List Token) (tree_of : D → tree.Expression) (text' : E → List Token) (tree_of' : E → tree.Expression) (text'' : F → List Token) (tree_of'' : F → tree.Expression) where
  read_binary : (op : BinaryOp) (join : D → Spot → E → F) → ((d : D) → Begins (text d)) → ((d : D) (s : Spot) (e : E) → text'' (join d s e) ≡ text d ++ (Fixed (sign_of op) s ∷ text' e))
      → ((d : D) (s : Spot) (e : E) → tree_of'' (join d s e) ≡ tree.binary op (tree_of d) (tree_of' e) (first_spot (text d)))
      → {old mid late new : Forest} {ts rest more after : List Token} {left right id : ExprId} {s : Spot} → ReadsExpr text tree_of old mid ts left rest → rest ≡ Fixed (sign_of op) s ∷ more
      → ReadsExpr text' tree_of' mid late more right after → IsAdded late new (exprs.Binary op left right (first_spot ts)) id → ReadsExpr text'' tree_of'' old new ts id after
  read_binary op join begins spells stands {old} {mid} {late} {new} {ts} {rest} {more} {after} {left} {right} {id} {s} a is b n = record {
    derivation = join a.derivation s b.derivation;
    spelled = a.spelled ∙ ap (λ us. text a.derivation ++ us) (is ∙ ap (λ us. Fixed (sign_of op) s ∷ us) b.spelled) ∙ sym (append_assoc (text a.derivation) (Fixed (sign_of op) s ∷ text' b.derivation) after)
        ∙ ap (λ us. us ++ after) (sym (spells a.derivation s b.derivation));
    stands =
        let spot : first_spot ts ≡ first_spot (text a.derivation) = ap first_spot a.spelled ∙ same_first (text a.derivation) rest (begins a.derivation) in
        let l : expr_at late left ≡ tree_of a.derivation = b.grew.trees.exprs left a.grew.exprs_there.0 ∙ a.stands in
        made _ id n ∙ (let m = stands a.derivation s b.derivation in let r = b.stands in cc);
    grew = grew_by _ id (grew_then a.grew b.grew) n;
    bounded = record {
      exprs = omega (arith, a.bounded.exprs, b.bounded.exprs, one_more _ id n, ap length is);
      stmts = omega (arith, a.bounded.stmts, b.bounded.stmts, same_stmts _ id n, ap length is);
    };
  }

pub read_prod : {op : BinaryOp} {old mid late new : Forest} {ts rest more after : List Token} {left right id : ExprId} {s : Spot} → (op ≡ ops.Mul) ⊎ (op ≡ ops.Div)
    → ReadsExpr prod_text prod_tree old mid ts left rest → rest ≡ Fixed (sign_of op) s ∷ more → ReadsExpr unary_text unary_tree mid late more right after
    → IsAdded late new (exprs.Binary op left right (first_spot ts)) id → ReadsExpr prod_text prod_tree old new ts id after
read_prod (inl o) a is b n =
    read_binary _ _ _ _ _ _ ops.Mul g.times prod_begins (λ d s e. refl) (λ d s e. refl) a (rw o at is) b (rw o at n)
read_prod (inr o) a is b n =
    read_binary _ _ _ _ _ _ ops.Div g.over prod_begins (λ d s e. refl) (λ d s e. refl) a (rw o at is) b (rw o at n)

pub read_sum : {op : BinaryOp} {old mid late new : Forest} {ts rest more after : List Token} {left right id : ExprId} {s : Spot} → (op ≡ ops.Add) ⊎ (op ≡ ops.Sub)
    → ReadsExpr sum_text sum_tree old mid ts left rest → rest ≡ Fixed (sign_of op) s ∷ more → ReadsExpr prod_text prod_tree mid late more right after
    → IsAdded late new (exprs.Binary op left right (first_spot ts)) id → ReadsExpr sum_text sum_tree old new ts id after
read_sum (inl o) a is b n =
    read_binary _ _ _ _ _ _ ops.Add g.plus sum_begins (λ d s e. refl) (λ d s e. refl) a (rw o at is) b (rw o at n)
read_sum (inr o) a is b n =
    read_binary _ _ _ _ _ _ ops.Sub g.minus sum_begins (λ d s e. refl) (λ d s e. refl) a (rw o at is) b (rw o at n)

comparison_signs : (c : g.Comparison) → sign_of (comparison_op c) ≡ comparison_sign c
comparison_signs g.equal = refl
comparison_signs g.not_equal = refl
comparison_signs g.below = refl
comparison_signs g.at_most = refl
comparison_signs g.above = refl
comparison_signs g.at_least = refl

pub read_comparison : {op : BinaryOp} {old mid late new : Forest} {ts rest more after : List Token} {left right id : ExprId} {s : Spot} → (c : g.Comparison) × (op ≡ comparison_op c)
    → ReadsExpr sum_text sum_tree old mid ts left rest → rest ≡ Fixed (sign_of op) s ∷ more → ReadsExpr sum_text sum_tree mid late more right after
    → IsAdded late new (exprs.Binary op left right (first_spot ts)) id → ReadsExpr cmp_text cmp_tree old new ts id after
read_comparison (c, o) a is b n =
    read_binary _ _ _ _ _ _ (comparison_op c) (g.compare c) sum_begins (λ d s e. rw (comparison_signs c) refl) (λ d s e. refl) a (rw o at is) b (rw o at n)

pub read_and : {op : BinaryOp} {old mid late new : Forest} {ts rest more after : List Token} {left right id : ExprId} {s : Spot} → op ≡ ops.And
    → ReadsExpr and_text and_tree old mid ts left rest → rest ≡ Fixed (sign_of op) s ∷ more → ReadsExpr cmp_text cmp_tree mid late more right after
    → IsAdded late new (exprs.Binary op left right (first_spot ts)) id → ReadsExpr and_text and_tree old new ts id after
read_and o a is b n = read_binary _ _ _ _ _ _ ops.And g.and and_begins (λ d s e. refl) (λ d s e. refl) a (rw o at is) b (rw o at n)

pub read_or : {op : BinaryOp} {old mid late new : Forest} {ts rest more after : List Token} {left right id : ExprId} {s : Spot} → op ≡ ops.Or
    → ReadsExpr expr_text expr_tree old mid ts left rest → rest ≡ Fixed (sign_of op) s ∷ more → ReadsExpr and_text and_tree mid late more right after
    → IsAdded late new (exprs.Binary op left right (first_spot ts)) id → ReadsExpr expr_text expr_tree old new ts id after
read_or o a is b n = read_binary _ _ _ _ _ _ ops.Or g.or expr_begins (λ d s e. refl) (λ d s e. refl) a (rw o at is) b (rw o at n)

-- one operand alone
pub one_unary : {old new : Forest} {ts rest : List Token} {id : ExprId} → ReadsExpr unary_text unary_tree old new ts id rest → ReadsExpr prod_text prod_tree old new ts id rest
one_unary a = record { derivation = g.one_unary a.derivation; spelled = a.spelled; stands = a.stands; grew = a.grew; bounded = a.bounded }

pub one_prod : {old new : Forest} {ts rest : List Token} {id : ExprId} → ReadsExpr prod_text prod_tree old new ts id rest → ReadsExpr sum_text sum_tree old new ts id rest
one_prod a = record { derivation = g.one_prod a.derivation; spelled = a.spelled; stands = a.stands; grew = a.grew; bounded = a.bounded }

pub one_sum : {old new : Forest} {ts rest : List Token} {id : ExprId} → ReadsExpr sum_text sum_tree old new ts id rest → ReadsExpr cmp_text cmp_tree old new ts id rest
one_sum a = record { derivation = g.one_sum a.derivation; spelled = a.spelled; stands = a.stands; grew = a.grew; bounded = a.bounded }

pub one_cmp : {old new : Forest} {ts rest : List Token} {id : ExprId} → ReadsExpr cmp_text cmp_tree old new ts id rest → ReadsExpr and_text and_tree old new ts id rest
one_cmp a = record { derivation = g.one_cmp a.derivation; spelled = a.spelled; stands = a.stands; grew = a.grew; bounded = a.bounded }

pub one_and : {old new : Forest} {ts rest : List Token} {id : ExprId} → ReadsExpr and_text and_tree old new ts id rest → ReadsExpr expr_text expr_tree old new ts id rest
one_and a = record { derivation = g.one_and a.derivation; spelled = a.spelled; stands = a.stands; grew = a.grew; bounded = a.bounded }
