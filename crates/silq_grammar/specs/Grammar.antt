-- The grammar: a data type for each nonterminal, with one constructor for each alternative. A constructor holds, for each of its
-- tokens, the place of that token, and for a name or a number also which one it is.
use Rattle.std.specs.Prelude.{ℤ}
use Rattle.silq_tree.specs.declared.node.NameId.{NameId}
use Rattle.silq_tree.specs.declared.node.Spot.{Spot}
use Rattle.silq_tree.specs.declared.node.UpdateOp.{UpdateOp}

-- "==" | "!=" | "<" | "<=" | ">" | ">="
pub data Comparison : Type 0 where
  equal not_equal below at_most above at_least : Comparison

mutual
  -- expr = and { "||" and }, grouped to the left, as are all levels
  pub data Expr : Type 0 where
    one_and : And → Expr
    or : Expr → Spot → And → Expr

  -- and = cmp { "&&" cmp }
  pub data And : Type 0 where
    one_cmp : Cmp → And
    and : And → Spot → Cmp → And

  -- cmp = sum [ ( "==" | "!=" | "<" | "<=" | ">" | ">=" ) sum ]
  pub data Cmp : Type 0 where
    one_sum : Sum → Cmp
    compare : Comparison → Sum → Spot → Sum → Cmp

  -- sum = prod { ( "+" | "-" ) prod }
  pub data Sum : Type 0 where
    one_prod : Prod → Sum
    plus : Sum → Spot → Prod → Sum
    minus : Sum → Spot → Prod → Sum

  -- prod = unary { ( "*" | "/" ) unary }
  pub data Prod : Type 0 where
    one_unary : Unary → Prod
    times : Prod → Spot → Unary → Prod
    over : Prod → Spot → Unary → Prod

  -- unary = ( "!" | "-" ) unary | atom
  -- atom = NUMBER [ ":" scalar ] | "true" | "false" | "pi" | place | call | "(" expr { "," expr } ")"
  pub data Unary : Type 0 where
    bang : Spot → Unary → Unary
    negative : Spot → Unary → Unary
    number : ℤ → Spot → Unary
    typed_number : ℤ → Spot → Spot → Scalar → Unary
    true_ : Spot → Unary
    false_ : Spot → Unary
    pi : Spot → Unary
    place : Place → Unary
    called : Call → Unary
    paren : Spot → Exprs → Spot → Unary

  -- scalar = "B" | ( "uint" | "int" ) "[" expr "]"
  pub data Scalar : Type 0 where
    bit : Spot → Scalar
    uint : Spot → Spot → Expr → Spot → Scalar
    int : Spot → Spot → Expr → Spot → Scalar

  -- place = NAME [ "[" expr "]" [ "[" expr "]" ] ]
  pub data Place : Type 0 where
    whole : NameId → Spot → Place
    part : NameId → Spot → Spot → Expr → Spot → Place
    part_of_part : NameId → Spot → Spot → Expr → Spot → Spot → Expr → Spot → Place

  -- call = NAME [ "[" expr { "," expr } "]" ] "(" [ expr { "," expr } ] ")"
  pub data Call : Type 0 where
    plain : NameId → Spot → Spot → Args → Spot → Call
    with_statics : NameId → Spot → Spot → Exprs → Spot → Spot → Args → Spot → Call

  -- [ expr { "," expr } ]
  pub data Args : Type 0 where
    no_args : Args
    args : Exprs → Args

  -- expr { "," expr }
  pub data Exprs : Type 0 where
    last : Expr → Exprs
    and_more : Expr → Spot → Exprs → Exprs

-- NAME { "," NAME }
pub data NameList : Type 0 where
  last_name : NameId → Spot → NameList
  and_names : NameId → Spot → Spot → NameList → NameList

mutual
  -- stmt = place ":=" expr ";"
  --      | "(" NAME "," NAME { "," NAME } ")" ":=" expr ";"
  --      | place ( "+=" | "-=" | "^=" ) expr ";"
  --      | "forget" "(" NAME [ "=" expr ] ")" ";"
  --      | "phase" "(" expr ")" ";"
  --      | choice
  --      | "for" NAME "in" "[" expr ".." expr ")" block
  --      | "return" [ expr ] ";"
  --      | call ";"
  pub data Stmt : Type 0 where
    assign : Place → Spot → Expr → Spot → Stmt
    spread : Spot → NameId → Spot → Spot → NameList → Spot → Spot → Expr → Spot → Stmt
    update : UpdateOp → Place → Spot → Expr → Spot → Stmt
    forget : Spot → Spot → NameId → Spot → Spot → Spot → Stmt
    forget_as : Spot → Spot → NameId → Spot → Spot → Expr → Spot → Spot → Stmt
    phase : Spot → Spot → Expr → Spot → Spot → Stmt
    choose : Choice → Stmt
    loop : Spot → NameId → Spot → Spot → Spot → Expr → Spot → Expr → Spot → Block → Stmt
    return_nothing : Spot → Spot → Stmt
    return_value : Spot → Expr → Spot → Stmt
    call : Call → Spot → Stmt

  -- choice = "if" expr block [ "else" ( block | choice ) ]
  pub data Choice : Type 0 where
    only : Spot → Expr → Block → Choice
    either : Spot → Expr → Block → Spot → Block → Choice
    chain : Spot → Expr → Block → Spot → Choice → Choice

  -- block = "{" { stmt } "}"
  pub data Block : Type 0 where
    braces : Spot → Stmts → Spot → Block

  -- { stmt }
  pub data Stmts : Type 0 where
    none : Stmts
    more : Stmt → Stmts → Stmts

-- size = NUMBER | NAME | "(" expr ")", and [ "^" size ]
pub data Size : Type 0 where
  no_size : Size
  number_size : Spot → ℤ → Spot → Size
  named_size : Spot → NameId → Spot → Size
  paren_size : Spot → Spot → Expr → Spot → Size

-- type = [ "!" ] scalar [ "^" size ]
pub data Type_ : Type 0 where
  quantum : Scalar → Size → Type_
  classical : Spot → Scalar → Size → Type_

-- result = type { "×" type }
pub data Result : Type 0 where
  last_type : Type_ → Result
  and_types : Type_ → Spot → Result → Result

-- param = [ "const" ] NAME ":" type
pub data Param : Type 0 where
  moved : NameId → Spot → Spot → Type_ → Param
  held : Spot → NameId → Spot → Spot → Type_ → Param

-- param { "," param }
pub data Params : Type 0 where
  last_param : Param → Params
  and_params : Param → Spot → Params → Params

-- static { "," static }, with static = NAME ":" "!" "N"
pub data Statics : Type 0 where
  last_static : NameId → Spot → Spot → Spot → Spot → Statics
  and_statics : NameId → Spot → Spot → Spot → Spot → Spot → Statics → Statics

-- [ "[" static { "," static } "]" ]
pub data StaticPart : Type 0 where
  no_statics : StaticPart
  statics : Spot → Statics → Spot → StaticPart

-- "(" [ param { "," param } ] ")"
pub data ParamPart : Type 0 where
  no_params : Spot → Spot → ParamPart
  params : Spot → Params → Spot → ParamPart

-- [ mark ], with mark = "lifted" | "qfree" | "mfree"
pub data MarkPart : Type 0 where
  no_mark : MarkPart
  lifted qfree mfree : Spot → MarkPart

-- [ ":" result ]
pub data ResultPart : Type 0 where
  no_result : ResultPart
  results : Spot → Result → ResultPart

-- function = "def" NAME [ "[" static { "," static } "]" ] "(" [ param { "," param } ] ")" [ mark ] [ ":" result ] block
pub data Function : Type 0 where
  def : Spot → NameId → Spot → StaticPart → ParamPart → MarkPart → ResultPart → Block → Function

-- program = { function }
pub data Program : Type 0 where
  no_function : Program
  function_then : Function → Program → Program
