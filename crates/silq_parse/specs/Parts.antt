-- Parts of derivations that the parser reads one by one.
use Rattle.std.specs.Prelude.{◌≡◌, Bool, List, [], ◌∷◌, ◌++◌, Option, Some, None}
use Rattle.silq_tree.specs.declared.node.Spot.{Spot}
use Rattle.silq_tree.specs.declared.node.NameId.{NameId}
use Rattle.silq_tree.specs.declared.node.ExprId.{ExprId}
use Rattle.silq_tree.specs.declared.node.Mark.{Mark}
use Rattle.silq_tree.specs.declared.node.PlaceNode.{PlaceNode}
use Rattle.silq_tree.specs.declared.node.Stmt as stmts
use Rattle.silq_tree.specs.declared.node.Stmt.TheVariants as nodes
use Rattle.silq_tree.specs.declared.node.UpdateOp.{UpdateOp}
use Rattle.silq_tree.specs.Syntax as tree
use Rattle.silq_grammar.specs.declared.token.Token.{Token}
use Rattle.silq_grammar.specs.declared.token.Token.TheVariants.{Name, Fixed}
use Rattle.silq_grammar.specs.declared.token.Terminal.{Terminal}
use Rattle.silq_grammar.specs.declared.token.Terminal.TheVariants as t
use Rattle.silq_grammar.specs.Grammar.{Expr, NameList, Scalar, Type_, Statics, StaticPart, MarkPart, Size, no_size, number_size, named_size, paren_size, Block, Choice}
use Rattle.silq_grammar.specs.Spelled.{update_sign, names_text, scalar_text, size_text, type_text, statics_text, static_part_text, mark_text, expr_text, block_text, choice_text}
use Rattle.silq_grammar.specs.Trees.{names_tree, scalar_tree, sized_tree, type_tree, statics_tree, static_part_tree, mark_tree, expr_tree, block_tree, choice_tree}

-- ( ":=" | "+=" | "-=" | "^=" ) expr ";"; no update at ":="
pub data Change : Type 0 where
  change : Option UpdateOp → Spot → Expr → Spot → Change

abbrev pub change_sign : Option UpdateOp → Terminal
change_sign None = t.Becomes
change_sign (Some op) = update_sign op

abbrev pub change_text : Change → List Token
change_text (change op s e end) = Fixed (change_sign op) s ∷ (expr_text e ++ (Fixed t.Semicolon end ∷ []))

-- the update and the value
pub record Changed : Type 0 where
  pub op : Option UpdateOp
  pub value : tree.Expression

abbrev pub change_tree : Change → Changed
change_tree (change op s e end) = record { op = op; value = expr_tree e }

-- the tree of a size
abbrev pub size_tree : Size → Option tree.Expression
size_tree no_size = None
size_tree (number_size k v s) = Some (tree.number v s)
size_tree (named_size k n s) = Some (tree.place (tree.whole n) s)
size_tree (paren_size k l e r) = Some (expr_tree e)

-- what may stand behind the first block of a choice: [ "else" ( block | choice ) ]
pub data Rest : Type 0 where
  missing : Rest
  with_block : Spot → Block → Rest
  with_choice : Spot → Choice → Rest

abbrev pub rest_text : Rest → List Token
rest_text missing = []
rest_text (with_block o b) = Fixed t.Else o ∷ block_text b
rest_text (with_choice o c) = Fixed t.Else o ∷ choice_text c

-- where there is no `else`, an empty block with this end
abbrev pub rest_tree : Spot → Rest → tree.Otherwise
rest_tree end missing = tree.else_block (tree.block tree.done end)
rest_tree end (with_block o b) = tree.else_block (block_tree b)
rest_tree end (with_choice o c) = tree.else_choice (choice_tree c)

-- NAME "," NAME { "," NAME } ")"
pub record SpellsTuple (names : List NameId) (ts rest : List Token) : Type 0 where
  pub first : NameId
  pub at : Spot
  pub comma : Spot
  pub others : NameList
  pub close : Spot
  pub spelled : ts ≡ Name first at ∷ Fixed t.Comma comma ∷ (names_text others ++ (Fixed t.RightParen close ∷ rest))
  pub named : names ≡ first ∷ names_tree others

-- [ "=" expr ]
pub data ForgetPart : Type 0 where
  no_value : ForgetPart
  a_value : Spot → Expr → ForgetPart

abbrev pub forget_part_text : ForgetPart → List Token
forget_part_text no_value = []
forget_part_text (a_value i e) = Fixed t.Is i ∷ expr_text e

abbrev pub forget_part_tree : ForgetPart → Option tree.Expression
forget_part_tree no_value = None
forget_part_tree (a_value i e) = Some (expr_tree e)

-- the trees of nodes that may be there
abbrev pub maybe : (ExprId → tree.Expression) → Option ExprId → Option tree.Expression
maybe at None = None
maybe at (Some e) = Some (at e)

-- [ expr ]
pub data ReturnPart : Type 0 where
  nothing : ReturnPart
  something : Expr → ReturnPart

abbrev pub return_part_text : ReturnPart → List Token
return_part_text nothing = []
return_part_text (something e) = expr_text e

abbrev pub return_part_tree : ReturnPart → Option tree.Expression
return_part_tree nothing = None
return_part_tree (something e) = Some (expr_tree e)

-- "[" expr ".." expr ")"
pub data Between : Type 0 where
  between : Spot → Expr → Spot → Expr → Spot → Between

abbrev pub between_text : Between → List Token
between_text (between l e d f r) = Fixed t.LeftBracket l ∷ (expr_text e ++ (Fixed t.Dots d ∷ (expr_text f ++ (Fixed t.RightParen r ∷ []))))

pub record Range : Type 0 where
  pub low : tree.Expression
  pub high : tree.Expression

abbrev pub between_tree : Between → Range
between_tree (between l e d f r) = record { low = expr_tree e; high = expr_tree f }

-- the node of an assignment, or of an update
abbrev pub changed_node : PlaceNode → Option UpdateOp → ExprId → Spot → stmts.Stmt
changed_node place None value at = nodes.Assign place value at
changed_node place (Some op) value at = nodes.Update place op value at

-- scalar [ "^" size ]
pub record Sized : Type 0 where
  pub scalar : Scalar
  pub size : Size

abbrev pub sized_text : Sized → List Token
sized_text d = scalar_text d.scalar ++ size_text d.size

abbrev pub sized_node_tree : Bool → Spot → Sized → tree.WrittenType
sized_node_tree classical at d = sized_tree (scalar_tree d.scalar) classical d.size at

-- NAME ":" "!" "N"
pub record SpellsStatic (name : NameId) (ts rest : List Token) : Type 0 where
  pub at : Spot
  pub colon : Spot
  pub bang : Spot
  pub natural : Spot
  pub spelled : ts ≡ Name name at ∷ Fixed t.Colon colon ∷ Fixed t.Bang bang ∷ Fixed t.Natural natural ∷ rest

-- static { "," static }
pub record SpellsStatics (names : List NameId) (ts rest : List Token) : Type 0 where
  pub derivation : Statics
  pub spelled : ts ≡ statics_text derivation ++ rest
  pub named : names ≡ statics_tree derivation

-- [ "[" static { "," static } "]" ]
pub record SpellsStaticPart (names : List NameId) (ts rest : List Token) : Type 0 where
  pub derivation : StaticPart
  pub spelled : ts ≡ static_part_text derivation ++ rest
  pub named : names ≡ static_part_tree derivation

-- [ mark ]
pub record SpellsMark (mark : Mark) (ts rest : List Token) : Type 0 where
  pub derivation : MarkPart
  pub spelled : ts ≡ mark_text derivation ++ rest
  pub named : mark ≡ mark_tree derivation

-- ":" type
pub record Typed : Type 0 where
  pub colon : Spot
  pub ty : Type_

abbrev pub typed_text : Typed → List Token
typed_text d = Fixed t.Colon d.colon ∷ type_text d.ty

abbrev pub typed_tree : Bool → NameId → Spot → Typed → tree.Parameter
typed_tree held name at d = record { held = held; name = name; ty = type_tree d.ty; at = at }
