-- A place or a call, behind the name with which it begins.
use Rattle.std.specs.Prelude.{◌≡◌, List, [], ◌∷◌}
use Rattle.silq_tree.specs.declared.node.ExprId.{ExprId}
use Rattle.silq_tree.specs.declared.node.Spot.{Spot}
use Rattle.silq_tree.specs.declared.node.Expr.TheVariants as exprs
use Rattle.silq_tree.specs.Standing.{place_of}
use Rattle.silq_tree.specs.Children.{place_exprs, HasFirst}
use Rattle.silq_tree.specs.Arena.{Forest, expr_at}
use Rattle.silq_grammar.specs.declared.token.Token.{Token}
use Rattle.silq_grammar.specs.declared.token.Terminal.TheVariants as t
use Rattle.silq_grammar.specs.Machine.{Symbol, Assigns, Expect}
use Rattle.silq_grammar.specs.Spelled.{place_text, call_text}
use Rattle.silq_grammar.specs.Trees.{place_tree, call_tree}
use Rattle.expr_parse.specs.Reads.{IsBounded, ReadsExpr, ReadsPart}
use Rattle.expr_parse.specs.Added.{IsAdded}
use Rattle.expr_parse.specs.declared.target.Target.{Target}
use Rattle.expr_parse.specs.declared.target.Target.TheVariants as targets

-- the name and the tokens up to the rest spell the place, or the call, for which the new nodes stand
abbrev pub ReadsTarget : Forest → Forest → Token → List Token → Target → List Token → Type 0
ReadsTarget old new name ts (targets.Place p) rest =
    ReadsPart place_text place_tree old new (name ∷ ts) (place_of (expr_at new) p) (place_exprs p) [] rest × HasFirst p × IsBounded old new ts rest
ReadsTarget old new name ts (targets.Call id) rest = ReadsExpr call_text call_tree old new (name ∷ ts) id rest

-- what comes behind it where a statement begins with it
abbrev pub behind_target : Target → List Symbol → List Symbol
behind_target (targets.Place p) k = Assigns ∷ k
behind_target (targets.Call id) k = Expect t.Semicolon ∷ k

-- the expressions that it names, or it itself
abbrev pub target_ids : Target → List ExprId
target_ids (targets.Place p) = place_exprs p
target_ids (targets.Call id) = id ∷ []

abbrev pub TargetHasFirst : Target → Type 0
TargetHasFirst (targets.Place p) = HasFirst p
TargetHasFirst (targets.Call id) = Unit {0}

-- a place as a new expression; a call is one
abbrev pub IsMade : Forest → Forest → Target → Spot → ExprId → Type 0
IsMade old new (targets.Place p) at id = IsAdded old new (exprs.Place p at) id
IsMade old new (targets.Call e) at id = (id ≡ e) × (new ≡ old)
