use Rattle.std.proofs.Common.{◌≡◌, ◌+◌, ◌*◌, length, ◌-◌, ◌<◌, ◌≤◌, List, ◌∷◌, []}
use Rattle.silq_tree.specs.Arena.{IsArena, Forest, expr_at}
use Rattle.silq_grammar.specs.Machine.{Symbol, AUnary, Prods, Sums, Compare, Ands, Ors, an_expr, nest, exprs}
use Rattle.silq_grammar.specs.Outcome.{outcome}
use Rattle.silq_grammar.specs.Spelled.{expr_text, and_text, sum_text, prod_text, exprs_text}
use Rattle.silq_grammar.specs.Trees.{expr_tree, and_tree, sum_tree, prod_tree, exprs_tree}
use Rattle.expr_parse.specs.Reads.{ReadsExpr, ReadsPart}
use Rattle.silq_tree.specs.declared.node.Spot.{Spot}
use Rattle.silq_tree.specs.Standing.{expressions_of}
use Rattle.silq_grammar.specs.declared.token.Token.{Token}
use Rattle.silq_grammar.specs.declared.token.Token.TheVariants.{Fixed}
use Rattle.silq_grammar.specs.declared.token.Terminal.TheVariants.{Comma}
use Rattle.expr_parse.proofs.+expression.Given as goal

-- the tokens that are left, and then the level in the grammar

abbrev pub decreases-expr::expr : goal.decreases-expr::expr
decreases-expr::expr l = 16 * length l.tokens.now + 5

abbrev pub decreases-expr::and : goal.decreases-expr::and
decreases-expr::and l = 16 * length l.tokens.now + 4

abbrev pub decreases-expr::comparison : goal.decreases-expr::comparison
decreases-expr::comparison l = 16 * length l.tokens.now + 3

abbrev pub decreases-expr::sum : goal.decreases-expr::sum
decreases-expr::sum l = 16 * length l.tokens.now + 2

abbrev pub decreases-expr::prod : goal.decreases-expr::prod
decreases-expr::prod l = 16 * length l.tokens.now + 1

abbrev pub decreases-unary::unary : goal.decreases-unary::unary
decreases-unary::unary l = 16 * length l.tokens.now

abbrev pub decreases-unary::named : goal.decreases-unary::named
decreases-unary::named l = 16 * length l.tokens.now + 1

abbrev pub decreases-unary::number : goal.decreases-unary::number
decreases-unary::number l = 16 * length l.tokens.now + 1

abbrev pub decreases-unary::enclosed : goal.decreases-unary::enclosed
decreases-unary::enclosed l = 16 * length l.tokens.now + 8

abbrev pub decreases-unary::signed : goal.decreases-unary::signed
decreases-unary::signed l = 16 * length l.tokens.now + 1

abbrev pub decreases-scalar::scalar : goal.decreases-scalar::scalar
decreases-scalar::scalar l = 16 * length l.tokens.now

abbrev pub decreases-list::exprs : goal.decreases-list::exprs
decreases-list::exprs l = 16 * length l.tokens.now + 6

abbrev pub decreases-list::closed_group : goal.decreases-list::closed_group
decreases-list::closed_group l = 16 * length l.tokens.now + 7

abbrev pub decreases-list::group_rest : goal.decreases-list::group_rest
decreases-list::group_rest l = 16 * length l.tokens.now + 7

abbrev pub decreases-list::arguments : goal.decreases-list::arguments
decreases-list::arguments l = 16 * length l.tokens.now + 8

abbrev pub decreases-target::indexed : goal.decreases-target::indexed
decreases-target::indexed l = 16 * length l.tokens.now

abbrev pub decreases-target::bracketed : goal.decreases-target::bracketed
decreases-target::bracketed l = 16 * length l.tokens.now + 8

abbrev pub decreases-target::behind_name : goal.decreases-target::behind_name
decreases-target::behind_name l = 16 * length l.tokens.now

-- so many operators were read as room is gone
abbrev pub invariant-expr::expr-loop-op : goal.invariant-expr::expr-loop-op
invariant-expr::expr-loop-op l = record {
  machine : (k : List Symbol) → nest k + l.fn.room ≡ 64 → outcome (an_expr k) l.fn.tokens ≡ outcome (Ors (l.fn.room - l.inside) ∷ k) l.rest;
  reads : ReadsExpr expr_text expr_tree l.fn.tree l.tree l.fn.tokens l.left l.rest;
  arena : IsArena l.tree;
  room : l.inside ≤ l.fn.room;
  shorter : length l.rest < length l.fn.tokens;
}

abbrev pub decreases-expr::expr-loop-op : goal.decreases-expr::expr-loop-op
decreases-expr::expr-loop-op l = length l.rest

-- so many operators were read as room is gone
abbrev pub invariant-expr::and-loop-op : goal.invariant-expr::and-loop-op
invariant-expr::and-loop-op l = record {
  machine : (k : List Symbol) → nest k + l.fn.room ≡ 64 → outcome (AUnary ∷ Prods 0 ∷ Sums 0 ∷ Compare ∷ Ands 0 ∷ k) l.fn.tokens ≡ outcome (Ands (l.fn.room - l.inside) ∷ k) l.rest;
  reads : ReadsExpr and_text and_tree l.fn.tree l.tree l.fn.tokens l.left l.rest;
  arena : IsArena l.tree;
  room : l.inside ≤ l.fn.room;
  shorter : length l.rest < length l.fn.tokens;
}

abbrev pub decreases-expr::and-loop-op : goal.decreases-expr::and-loop-op
decreases-expr::and-loop-op l = length l.rest

-- so many operators were read as room is gone
abbrev pub invariant-expr::sum-loop-op : goal.invariant-expr::sum-loop-op
invariant-expr::sum-loop-op l = record {
  machine : (k : List Symbol) → nest k + l.fn.room ≡ 64 → outcome (AUnary ∷ Prods 0 ∷ Sums 0 ∷ k) l.fn.tokens ≡ outcome (Sums (l.fn.room - l.inside) ∷ k) l.rest;
  reads : ReadsExpr sum_text sum_tree l.fn.tree l.tree l.fn.tokens l.left l.rest;
  arena : IsArena l.tree;
  room : l.inside ≤ l.fn.room;
  shorter : length l.rest < length l.fn.tokens;
}

abbrev pub decreases-expr::sum-loop-op : goal.decreases-expr::sum-loop-op
decreases-expr::sum-loop-op l = length l.rest

-- so many operators were read as room is gone
abbrev pub invariant-expr::prod-loop-op : goal.invariant-expr::prod-loop-op
invariant-expr::prod-loop-op l = record {
  machine : (k : List Symbol) → nest k + l.fn.room ≡ 64 → outcome (AUnary ∷ Prods 0 ∷ k) l.fn.tokens ≡ outcome (Prods (l.fn.room - l.inside) ∷ k) l.rest;
  reads : ReadsExpr prod_text prod_tree l.fn.tree l.tree l.fn.tokens l.left l.rest;
  arena : IsArena l.tree;
  room : l.inside ≤ l.fn.room;
  shorter : length l.rest < length l.fn.tokens;
}

abbrev pub decreases-expr::prod-loop-op : goal.decreases-expr::prod-loop-op
decreases-expr::prod-loop-op l = length l.rest

-- what was read before, with what the loop has read, up to a comma
abbrev pub invariant-list::exprs-loop-id : goal.invariant-list::exprs-loop-id
invariant-list::exprs-loop-id l = record {
  machine : (k : List Symbol) → nest k + l.fn.room ≡ 64 → outcome (exprs k) l.fn.tokens ≡ outcome (exprs k) l.rest;
  reads : (old : Forest) (ts : List Token) (s : Spot)
      → ReadsPart exprs_text exprs_tree old l.fn.tree ts (expressions_of (expr_at l.fn.tree) l.fn.ids) l.fn.ids [] (Fixed Comma s ∷ l.fn.tokens)
      → (r : Spot) × ReadsPart exprs_text exprs_tree old l.tree ts (expressions_of (expr_at l.tree) l.ids) l.ids [] (Fixed Comma r ∷ l.rest);
  arena : IsArena l.tree;
  nodes : length l.tree.exprs + length l.rest ≤ length l.fn.tree.exprs + length l.fn.tokens;
  longer : length l.fn.ids ≤ length l.ids;
  no_longer : length l.rest ≤ length l.fn.tokens;
}

abbrev pub decreases-list::exprs-loop-id : goal.decreases-list::exprs-loop-id
decreases-list::exprs-loop-id l = length l.rest
