-- Expressions and their parts, written in a style.
use Rattle.std.specs.Prelude.{ℕ, zero, suc, ◌+◌, Bool, true, false, ◌&&◌, nat_le, nat_lt, cond, List, [], ◌∷◌, ◌++◌, Option, Some, None}
use Rattle.silq_tree.specs.declared.node.NameId.{NameId}
use Rattle.silq_tree.specs.declared.node.BinaryOp.{BinaryOp}
use Rattle.silq_tree.specs.declared.node.ExprId.{ExprId}
use Rattle.silq_tree.specs.declared.node.ScalarNode.{ScalarNode}
use Rattle.silq_tree.specs.Standing.{scalar_of}
use Rattle.silq_tree.specs.Syntax as tree
use Rattle.silq_grammar.specs.declared.token.Token.{Token}
use Rattle.silq_grammar.specs.declared.token.Token.TheVariants.{Fixed}
use Rattle.silq_grammar.specs.declared.token.Terminal.{Terminal}
use Rattle.silq_grammar.specs.declared.token.Terminal.TheVariants as t
use Rattle.silq_grammar.specs.Grammar as g
use Rattle.silq_grammar.specs.Spelled.{expr_text, scalar_text}
use Rattle.silq_print.specs.Bare.{nowhere}
use Rattle.silq_print.specs.Ways.{Written, Ways, only, also, depth, least, ways, written, to_expr, call_of}
use Rattle.silq_print.specs.Derived.{expr_in}
use Rattle.silq_print.specs.Levels.{operand_text, left_level, top_level, goes_on_at, in_parens_if}
use Rattle.silq_print.specs.declared.style.Style.{Style}
use Rattle.silq_print.specs.declared.style.Style.TheVariants.{Given, Around}

-- the way with a number, from 0; the last one where it is too great
abbrev pub nth_way : ℕ → Ways → Written
nth_way k (only w) = w
nth_way zero (also w ws) = w
nth_way (suc k) (also w ws) = nth_way k ws

-- an expression in the way with this number
abbrev pub way_text : Bool → ℕ → tree.Expression → List Token
way_text tight k e = expr_text (to_expr (nth_way k (ways tight e)))

-- the left operand of a chain in the way with this number: the first one has it in parentheses
abbrev pub chain_text : Bool → ℕ → tree.Expression → List Token
chain_text tight zero e = in_parens_if true (expr_text (written tight e))
chain_text tight (suc k) e = way_text tight k e

-- the left operand of a sign
abbrev pub left_text : BinaryOp → Bool → ℕ → tree.Expression → List Token
left_text op tight k e = cond (tight && goes_on_at op (top_level e)) (chain_text tight k e) (operand_text (left_level op) tight e)

-- whether it is written tight
abbrev pub tight_by : Style → tree.Expression → Bool
tight_by (Given tight) e = tight
tight_by (Around n) e = nat_lt 64 (n + depth (least (ways false e)))

abbrev pub written_by : Style → tree.Expression → g.Expr
written_by (Given tight) e = written tight e
written_by (Around n) e = expr_in n e

abbrev pub all_by : Style → tree.Expressions → List g.Expr
all_by style tree.none = []
all_by style (tree.more e es) = written_by style e ∷ all_by style es

abbrev pub scalar_by : Style → tree.ScalarType → g.Scalar
scalar_by style tree.bit = g.bit nowhere
scalar_by style (tree.uint e) = g.uint nowhere nowhere (written_by style e) nowhere
scalar_by style (tree.int e) = g.int nowhere nowhere (written_by style e) nowhere

abbrev pub place_by : Style → tree.Place → g.Place
place_by style (tree.whole x) = g.whole x nowhere
place_by style (tree.part x e) = g.part x nowhere nowhere (written_by style e) nowhere
place_by style (tree.part_of_part x e f) = g.part_of_part x nowhere nowhere (written_by style e) nowhere nowhere (written_by style f) nowhere

abbrev pub call_by : Style → NameId → tree.Expressions → tree.Expressions → g.Call
call_by style f ss es = call_of f (all_by style ss) (all_by style es)

-- expressions, each with a comma before it; and with commas between them
abbrev pub more_text : List g.Expr → List Token
more_text [] = []
more_text (d ∷ ds) = Fixed t.Comma nowhere ∷ (expr_text d ++ more_text ds)

abbrev pub list_text : List g.Expr → List Token
list_text [] = []
list_text (d ∷ ds) = expr_text d ++ more_text ds

-- Sound: tuples have items, and an expression that is written tight is then within the nest of 64.

abbrev pub fits : Bool → tree.Expression → Bool
fits true e = nat_le (depth (least (ways true e))) 64
fits false e = true

abbrev mutual
  pub sound : Bool → tree.Expression → Bool
  sound tight (tree.number v at) = true
  sound tight (tree.typed_number v ty at) = sound_scalar tight ty
  sound tight (tree.truth b at) = true
  sound tight (tree.pi at) = true
  sound tight (tree.place p at) = sound_place tight p
  sound tight (tree.called f ss es at) = all_sound tight ss && all_sound tight es
  sound tight (tree.tuple tree.none at) = false
  sound tight (tree.tuple (tree.more e es) at) = sound tight e && all_sound tight es
  sound tight (tree.unary op e at) = sound tight e
  sound tight (tree.binary op l r at) = fits tight (tree.binary op l r at) && (sound tight l && sound tight r)

  pub sound_scalar : Bool → tree.ScalarType → Bool
  sound_scalar tight tree.bit = true
  sound_scalar tight (tree.uint e) = sound tight e
  sound_scalar tight (tree.int e) = sound tight e

  pub sound_place : Bool → tree.Place → Bool
  sound_place tight (tree.whole n) = true
  sound_place tight (tree.part n e) = sound tight e
  sound_place tight (tree.part_of_part n e f) = sound tight e && sound tight f

  pub all_sound : Bool → tree.Expressions → Bool
  all_sound tight tree.none = true
  all_sound tight (tree.more e es) = sound tight e && all_sound tight es

abbrev pub is_sound : Style → tree.Expression → Bool
is_sound (Given tight) e = sound tight e
is_sound (Around n) e = cond (nat_le (n + depth (least (ways false e))) 64) (sound false e) (sound true e)

abbrev pub are_sound : Style → tree.Expressions → Bool
are_sound style tree.none = true
are_sound style (tree.more e es) = is_sound style e && are_sound style es

abbrev pub is_sound_scalar : Style → tree.ScalarType → Bool
is_sound_scalar style tree.bit = true
is_sound_scalar style (tree.uint e) = is_sound style e
is_sound_scalar style (tree.int e) = is_sound style e

abbrev pub is_sound_place : Style → tree.Place → Bool
is_sound_place style (tree.whole n) = true
is_sound_place style (tree.part n e) = is_sound style e
is_sound_place style (tree.part_of_part n e f) = is_sound style e && is_sound style f

-- the type behind a number, where there is one
abbrev pub number_of : (ExprId → tree.Expression) → Option ScalarNode → Option tree.ScalarType
number_of at None = None
number_of at (Some ty) = Some (scalar_of at ty)

abbrev pub is_sound_number : Style → Option tree.ScalarType → Bool
is_sound_number style None = true
is_sound_number style (Some ty) = is_sound_scalar style ty

abbrev pub number_type_text : Style → Option tree.ScalarType → List Token
number_type_text style None = []
number_type_text style (Some ty) = Fixed t.Colon nowhere ∷ scalar_text (scalar_by style ty)

-- an expression in brackets
abbrev pub index_text : g.Expr → List Token
index_text d = Fixed t.LeftBracket nowhere ∷ (expr_text d ++ (Fixed t.RightBracket nowhere ∷ []))

-- static arguments in brackets, where there are some
abbrev pub statics_text : List g.Expr → List Token
statics_text [] = []
statics_text (d ∷ ds) = Fixed t.LeftBracket nowhere ∷ (list_text (d ∷ ds) ++ (Fixed t.RightBracket nowhere ∷ []))

abbrev pub truth_word : Bool → Terminal
truth_word true = t.True
truth_word false = t.False
