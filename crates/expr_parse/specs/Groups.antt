-- Expressions between commas.
use Rattle.std.specs.Prelude.{◌≡◌, ◌≤◌, List, [], ◌∷◌, length}
use Rattle.silq_tree.specs.declared.node.ExprId.{ExprId}
use Rattle.silq_tree.specs.declared.node.Spot.{Spot}
use Rattle.silq_tree.specs.declared.node.Expr.TheVariants as exprs
use Rattle.silq_tree.specs.Standing.{expressions_of}
use Rattle.silq_tree.specs.Arena.{Forest, expr_at}
use Rattle.silq_grammar.specs.declared.token.Token.{Token}
use Rattle.silq_grammar.specs.declared.token.Terminal.TheVariants as t
use Rattle.silq_grammar.specs.Machine.{Symbol, InIndex, StartIndex, CallPart, Expect}
use Rattle.silq_grammar.specs.Spelled.{expr_text, exprs_text}
use Rattle.silq_grammar.specs.Trees.{expr_tree, exprs_tree}
use Rattle.expr_parse.specs.Reads.{ReadsExpr, ReadsPart}
use Rattle.expr_parse.specs.Added.{IsAdded}
use Rattle.expr_parse.specs.declared.list.Group.{Group}
use Rattle.expr_parse.specs.declared.list.Group.TheVariants as groups

abbrev pub group_ids : Group → List ExprId
group_ids (groups.One id) = id ∷ []
group_ids (groups.Several ids) = ids

-- the tokens up to the rest spell one expression, or a list of several, for which the new nodes stand
abbrev pub ReadsGroup : Forest → Forest → List Token → Group → List Token → Type 0
ReadsGroup old new ts (groups.One id) rest = ReadsExpr expr_text expr_tree old new ts id rest
ReadsGroup old new ts (groups.Several ids) rest = ReadsPart exprs_text exprs_tree old new ts (expressions_of (expr_at new) ids) ids [] rest × (2 ≤ length ids)

-- what comes behind the bracket that closes them, in an expression and where a statement begins
abbrev pub behind_bracket : Group → List Symbol → List Symbol
behind_bracket (groups.One id) k = InIndex ∷ k
behind_bracket (groups.Several ids) k = CallPart ∷ k

abbrev pub start_bracket : Group → List Symbol → List Symbol
start_bracket (groups.One id) k = StartIndex ∷ k
start_bracket (groups.Several ids) k = CallPart ∷ Expect t.Semicolon ∷ k

-- one expression is itself; several are the parts of a new tuple
abbrev pub IsGrouped : Forest → Forest → Group → Spot → ExprId → Type 0
IsGrouped old new (groups.One e) at id = (id ≡ e) × (new ≡ old)
IsGrouped old new (groups.Several es) at id = IsAdded old new (exprs.Tuple es at) id
