-- What was read of an operand.
use Rattle.std.proofs.Common.{◌≡◌, ℤ, ◌≤◌, Bool, true, false, List, [], ◌∷◌, ◌++◌, Some, None, length, refl, sym, ◌∙◌, ap, arith, append_assoc}
use Rattle.silq_tree.specs.declared.node.Spot.{Spot}
use Rattle.silq_tree.specs.declared.node.ExprId.{ExprId}
use Rattle.silq_tree.specs.declared.node.ScalarNode.{ScalarNode}
use Rattle.silq_tree.specs.declared.node.UnaryOp.{UnaryOp}
use Rattle.silq_tree.specs.declared.node.UnaryOp.TheVariants as unaries
use Rattle.silq_tree.specs.declared.node.Expr.{Expr}
use Rattle.silq_tree.specs.declared.node.Expr.TheVariants as exprs
use Rattle.silq_tree.specs.Syntax as tree
use Rattle.silq_tree.specs.Standing.{expr_grown, expressions_of, scalar_of}
use Rattle.silq_tree.specs.Children.{expr_exprs, scalar_exprs}
use Rattle.silq_tree.specs.Arena.{Forest, expr_at}
use Rattle.silq_grammar.specs.declared.token.Token.{Token}
use Rattle.silq_grammar.specs.declared.token.Token.TheVariants.{Number, Fixed}
use Rattle.silq_grammar.specs.declared.token.Terminal.{Terminal}
use Rattle.silq_grammar.specs.declared.token.Terminal.TheVariants as t
use Rattle.silq_grammar.specs.Grammar as g
use Rattle.silq_grammar.specs.Spelled.{expr_text, unary_text, scalar_text, exprs_text}
use Rattle.silq_grammar.specs.Trees.{expr_tree, unary_tree, scalar_tree, exprs_tree}
use Rattle.expr_parse.specs.Reads.{ReadsExpr, ReadsPart}
use Rattle.expr_parse.specs.Added.{IsAdded}
use Rattle.expr_parse.specs.Groups.{ReadsGroup, group_ids, IsGrouped}
use Rattle.expr_parse.specs.Operands.{sign_of_unary, word_of_truth}
use Rattle.expr_parse.specs.Scalars.{word_of, wide_node}
use Rattle.expr_parse.specs.declared.scalar.Wide.{Wide}
use Rattle.expr_parse.specs.declared.scalar.Wide.TheVariants as wides
use Rattle.expr_parse.specs.declared.list.Group.{Group}
use Rattle.expr_parse.specs.declared.list.Group.TheVariants as groups
use Rattle.expr_parse.proofs.Growing.{grew_nothing, grew_then, expressions_kept}
use Rattle.expr_parse.proofs.Reading.{made, grew_by, one_more, same_stmts}

-- a node without parts
module _ {old new : Forest} (e : Expr) (id : ExprId) (u : g.Unary) (token : Token) (rest : List Token) where
  leaf : expr_exprs e ≡ [] → unary_text u ≡ token ∷ [] → expr_grown (expr_at old) e ≡ unary_tree u → IsAdded old new e id → ReadsExpr unary_text unary_tree old new (token ∷ rest) id rest
  leaf none is stands n = record {
    derivation = u;
    spelled = sym (ap (λ us. us ++ rest) is);
    stands = made e id n ∙ stands;
    grew = grew_by e id (rw none (grew_nothing old)) n;
    bounded = record { exprs = omega (arith, one_more e id n); stmts = omega (arith, same_stmts e id n) };
  }

pub read_number : {old new : Forest} {id : ExprId} {v : ℤ} {at : Spot} {rest : List Token} → IsAdded old new (exprs.Number v None at) id → ReadsExpr unary_text unary_tree old new (Number v at ∷ rest) id rest
read_number {old} {new} {id} {v} {at} {rest} n = leaf _ id (g.number v at) _ rest refl refl refl n

pub read_true : {old new : Forest} {id : ExprId} {at : Spot} {rest : List Token} → IsAdded old new (exprs.Truth true at) id → ReadsExpr unary_text unary_tree old new (Fixed t.True at ∷ rest) id rest
read_true {old} {new} {id} {at} {rest} n = leaf _ id (g.true_ at) _ rest refl refl refl n

pub read_false : {old new : Forest} {id : ExprId} {at : Spot} {rest : List Token} → IsAdded old new (exprs.Truth false at) id → ReadsExpr unary_text unary_tree old new (Fixed t.False at ∷ rest) id rest
read_false {old} {new} {id} {at} {rest} n = leaf _ id (g.false_ at) _ rest refl refl refl n

pub read_truth : {old new : Forest} {id : ExprId} {value : Bool} {at : Spot} {rest : List Token} → IsAdded old new (exprs.Truth value at) id
    → ReadsExpr unary_text unary_tree old new (Fixed (word_of_truth value) at ∷ rest) id rest
read_truth {value = true} n = read_true n
read_truth {value = false} n = read_false n

pub read_pi : {old new : Forest} {id : ExprId} {at : Spot} {rest : List Token} → IsAdded old new (exprs.Pi at) id → ReadsExpr unary_text unary_tree old new (Fixed t.Pi at ∷ rest) id rest
read_pi {old} {new} {id} {at} {rest} n = leaf _ id (g.pi at) _ rest refl refl refl n

-- a sign and its operand
read_signed : {old mid new : Forest} {ts rest : List Token} {arg id : ExprId} {op : UnaryOp} {sign : Terminal} {at : Spot} (join : Spot → g.Unary → g.Unary)
    → ((u : g.Unary) → unary_text (join at u) ≡ Fixed sign at ∷ unary_text u) → ((u : g.Unary) → unary_tree (join at u) ≡ tree.unary op (unary_tree u) at)
    → ReadsExpr unary_text unary_tree old mid ts arg rest → IsAdded mid new (exprs.Unary op arg at) id → ReadsExpr unary_text unary_tree old new (Fixed sign at ∷ ts) id rest
read_signed {old} {mid} {new} {ts} {rest} {arg} {id} {op} {sign} {at} join spells stands a n = record {
  derivation = join at a.derivation;
  spelled = ap (λ us. Fixed sign at ∷ us) a.spelled ∙ ap (λ us. us ++ rest) (sym (spells a.derivation));
  stands = made _ id n ∙ (let l = a.stands in let m = stands a.derivation in cc);
  grew = grew_by _ id a.grew n;
  bounded = record { exprs = omega (arith, a.bounded.exprs, one_more _ id n); stmts = omega (arith, a.bounded.stmts, same_stmts _ id n) };
}

pub read_sign : {old mid new : Forest} {ts rest : List Token} {arg id : ExprId} {op : UnaryOp} {at : Spot}
    → ReadsExpr unary_text unary_tree old mid ts arg rest → IsAdded mid new (exprs.Unary op arg at) id → ReadsExpr unary_text unary_tree old new (Fixed (sign_of_unary op) at ∷ ts) id rest
read_sign {op = unaries.Not} a n = read_signed g.bang (λ u. refl) (λ u. refl) a n
read_sign {op = unaries.Neg} a n = read_signed g.negative (λ u. refl) (λ u. refl) a n

-- a number with its type
pub read_typed : {old mid new : Forest} {ts rest : List Token} {id : ExprId} {v : ℤ} {at c : Spot} {ty : ScalarNode}
    → ReadsPart scalar_text scalar_tree old mid ts (scalar_of (expr_at mid) ty) (scalar_exprs ty) [] rest → IsAdded mid new (exprs.Number v (Some ty) at) id
    → ReadsExpr unary_text unary_tree old new (Number v at ∷ Fixed t.Colon c ∷ ts) id rest
read_typed {old} {mid} {new} {ts} {rest} {id} {v} {at} {c} {ty} a n = record {
  derivation = g.typed_number v at c a.derivation;
  spelled = ap (λ us. Number v at ∷ Fixed t.Colon c ∷ us) a.spelled;
  stands = made _ id n ∙ (let l = a.stands in cc);
  grew = grew_by _ id a.grew n;
  bounded = record { exprs = omega (arith, a.bounded.exprs, one_more _ id n); stmts = omega (arith, a.bounded.stmts, same_stmts _ id n) };
}

-- types
pub read_bit : {f : Forest} {s : Spot} {rest : List Token} → ReadsPart scalar_text scalar_tree f f (Fixed t.Bit s ∷ rest) tree.bit [] [] rest
read_bit {f} {s} {rest} = record { derivation = g.bit s; spelled = refl; stands = refl; grew = grew_nothing f; bounded = record { exprs = omega arith; stmts = omega arith } }

pub read_uint : {old new : Forest} {s l r : Spot} {ts rest : List Token} {id : ExprId} → ReadsExpr expr_text expr_tree old new ts id (Fixed t.RightBracket r ∷ rest)
    → ReadsPart scalar_text scalar_tree old new (Fixed t.UInt s ∷ Fixed t.LeftBracket l ∷ ts) (tree.uint (expr_at new id)) (id ∷ []) [] rest
read_uint {s = s} {l = l} {r = r} {rest = rest} a = record {
  derivation = g.uint s l a.derivation r;
  spelled = ap (λ us. Fixed t.UInt s ∷ Fixed t.LeftBracket l ∷ us) (a.spelled ∙ sym (append_assoc (expr_text a.derivation) (Fixed t.RightBracket r ∷ []) rest));
  stands = ap tree.uint a.stands;
  grew = a.grew;
  bounded = record { exprs = omega (arith, a.bounded.exprs); stmts = omega (arith, a.bounded.stmts) };
}

pub read_int : {old new : Forest} {s l r : Spot} {ts rest : List Token} {id : ExprId} → ReadsExpr expr_text expr_tree old new ts id (Fixed t.RightBracket r ∷ rest)
    → ReadsPart scalar_text scalar_tree old new (Fixed t.Int s ∷ Fixed t.LeftBracket l ∷ ts) (tree.int (expr_at new id)) (id ∷ []) [] rest
read_int {s = s} {l = l} {r = r} {rest = rest} a = record {
  derivation = g.int s l a.derivation r;
  spelled = ap (λ us. Fixed t.Int s ∷ Fixed t.LeftBracket l ∷ us) (a.spelled ∙ sym (append_assoc (expr_text a.derivation) (Fixed t.RightBracket r ∷ []) rest));
  stands = ap tree.int a.stands;
  grew = a.grew;
  bounded = record { exprs = omega (arith, a.bounded.exprs); stmts = omega (arith, a.bounded.stmts) };
}

-- lists
pub last_read : {old new : Forest} {ts rest : List Token} {id : ExprId} → ReadsExpr expr_text expr_tree old new ts id rest
    → ReadsPart exprs_text exprs_tree old new ts (expressions_of (expr_at new) (id ∷ [])) (id ∷ []) [] rest
last_read {id = id} a = record {
  derivation = g.last a.derivation;
  spelled = a.spelled;
  stands = ap (λ e. tree.more e tree.none) a.stands;
  grew = a.grew;
  bounded = a.bounded;
}

pub group_read : {old new : Forest} {ts rest : List Token} (group : Group) → ReadsGroup old new ts group rest
    → ReadsPart exprs_text exprs_tree old new ts (expressions_of (expr_at new) (group_ids group)) (group_ids group) [] rest
group_read (groups.One id) a = last_read a
group_read (groups.Several ids) a = a.0

-- one more at the end
abbrev with_last : g.Exprs → Spot → g.Expr → g.Exprs
with_last (g.last e) s f = g.and_more e s (g.last f)
with_last (g.and_more e c es) s f = g.and_more e c (with_last es s f)

with_last_text : (es : g.Exprs) (s : Spot) (f : g.Expr) → exprs_text (with_last es s f) ≡ exprs_text es ++ (Fixed t.Comma s ∷ expr_text f)
with_last_text (g.last e) s f = refl
with_last_text (g.and_more e c es) s f =
    ap (λ us. expr_text e ++ (Fixed t.Comma c ∷ us)) (with_last_text es s f) ∙ sym (append_assoc (expr_text e) (Fixed t.Comma c ∷ exprs_text es) (Fixed t.Comma s ∷ expr_text f))

with_last_tree : (at : ExprId → tree.Expression) (ids : List ExprId) (id : ExprId) (es : g.Exprs) (s : Spot) (f : g.Expr) → expressions_of at ids ≡ exprs_tree es → at id ≡ expr_tree f
    → expressions_of at (ids ++ id ∷ []) ≡ exprs_tree (with_last es s f)
with_last_tree at [] id (g.last e) s f h k = cc
with_last_tree at [] id (g.and_more e c es) s f h k = cc
with_last_tree at (x ∷ []) id (g.last e) s f h k = cc
with_last_tree at (x ∷ y ∷ ids) id (g.last e) s f h k = cc
with_last_tree at (x ∷ ids) id (g.and_more e c es) s f h k =
    let m : expressions_of at ids ≡ exprs_tree es = cc in let l : at x ≡ expr_tree e = cc in let n = with_last_tree at ids id es s f m k in cc

pub list_read : {old mid new : Forest} {ts rest more after : List Token} {ids : List ExprId} {id : ExprId} {s : Spot}
    → ReadsPart exprs_text exprs_tree old mid ts (expressions_of (expr_at mid) ids) ids [] rest → rest ≡ Fixed t.Comma s ∷ more
    → ReadsExpr expr_text expr_tree mid new more id after → ReadsPart exprs_text exprs_tree old new ts (expressions_of (expr_at new) (ids ++ id ∷ [])) (ids ++ id ∷ []) [] after
list_read {old} {mid} {new} {ts} {rest} {more} {after} {ids} {id} {s} a is b = record {
  derivation = with_last a.derivation s b.derivation;
  spelled = a.spelled ∙ ap (λ us. exprs_text a.derivation ++ us) (is ∙ ap (λ us. Fixed t.Comma s ∷ us) b.spelled)
      ∙ sym (append_assoc (exprs_text a.derivation) (Fixed t.Comma s ∷ expr_text b.derivation) after) ∙ ap (λ us. us ++ after) (sym (with_last_text a.derivation s b.derivation));
  stands = with_last_tree (expr_at new) ids id a.derivation s b.derivation (expressions_kept ids b.grew.trees a.grew.exprs_there ∙ a.stands) b.stands;
  grew = grew_then a.grew b.grew;
  bounded = record { exprs = omega (arith, a.bounded.exprs, b.bounded.exprs, ap length is); stmts = omega (arith, a.bounded.stmts, b.bounded.stmts, ap length is) };
}

-- parentheses
pub read_paren : {old new : Forest} {ts rest : List Token} {l : Spot} {id : ExprId} (mid : Forest) (r : Spot) (group : Group) → ReadsGroup old mid ts group (Fixed t.RightParen r ∷ rest) → IsGrouped mid new group l id
    → ReadsExpr unary_text unary_tree old new (Fixed t.LeftParen l ∷ ts) id rest
read_paren {old} {new} {ts} {rest} {l} {id} mid r (groups.One e) a n = rw (n.0, n.1) (record {
  derivation = g.paren l (g.last a.derivation) r;
  spelled = ap (λ us. Fixed t.LeftParen l ∷ us) (a.spelled ∙ sym (append_assoc (expr_text a.derivation) (Fixed t.RightParen r ∷ []) rest));
  stands = a.stands;
  grew = a.grew;
  bounded = record { exprs = omega (arith, a.bounded.exprs); stmts = omega (arith, a.bounded.stmts) };
})
read_paren {old} {new} {ts} {rest} {l} {id} mid r (groups.Several es) a n = record {
  derivation = g.paren l a.0.derivation r;
  spelled = ap (λ us. Fixed t.LeftParen l ∷ us) (a.0.spelled ∙ sym (append_assoc (exprs_text a.0.derivation) (Fixed t.RightParen r ∷ []) rest));
  stands = made _ id n ∙ tuple_tree a.0.derivation es a.0.stands a.1;
  grew = grew_by _ id a.0.grew n;
  bounded = record { exprs = omega (arith, a.0.bounded.exprs, one_more _ id n); stmts = omega (arith, a.0.bounded.stmts, same_stmts _ id n) };
}
  where
    tuple_tree : (d : g.Exprs) (ids : List ExprId) → expressions_of (expr_at mid) ids ≡ exprs_tree d → 2 ≤ length ids
        → tree.tuple (expressions_of (expr_at mid) ids) l ≡ unary_tree (g.paren l d r)
    tuple_tree (g.last e) [] h k = absurd (omega arith)
    tuple_tree (g.last e) (x ∷ []) h k = absurd (omega arith)
    tuple_tree (g.last e) (x ∷ y ∷ ids) h k = cc
    tuple_tree (g.and_more e s d) ids h k = cc

pub read_wide : {old new : Forest} {s l r : Spot} {tokens rest ts more after : List Token} {id : ExprId} (wide : Wide) → tokens ≡ Fixed (word_of (Some wide)) s ∷ rest → rest ≡ Fixed t.LeftBracket l ∷ ts
    → ReadsExpr expr_text expr_tree old new ts id more → more ≡ Fixed t.RightBracket r ∷ after
    → ReadsPart scalar_text scalar_tree old new tokens (scalar_of (expr_at new) (wide_node wide id)) (scalar_exprs (wide_node wide id)) [] after
read_wide wides.UInt e f a g = rw (e, f) (read_uint (rw g at a))
read_wide wides.Int e f a g = rw (e, f) (read_int (rw g at a))
