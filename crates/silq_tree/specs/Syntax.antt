-- Syntax trees. They keep the numbers of names and the places of first tokens, and no numbers of nodes.
use Rattle.std.specs.Prelude.{ℤ, Bool, List}
use Rattle.silq_tree.specs.declared.node.NameId.{NameId}
use Rattle.silq_tree.specs.declared.node.Spot.{Spot}
use Rattle.silq_tree.specs.declared.node.Mark.{Mark}
use Rattle.silq_tree.specs.declared.node.UpdateOp.{UpdateOp}
use Rattle.silq_tree.specs.declared.node.UnaryOp.{UnaryOp}
use Rattle.silq_tree.specs.declared.node.BinaryOp.{BinaryOp}

mutual
  pub data Expression : Type 0 where
    number : ℤ → Spot → Expression
    typed_number : ℤ → ScalarType → Spot → Expression
    truth : Bool → Spot → Expression
    pi : Spot → Expression
    place : Place → Spot → Expression
    -- a name with static arguments and arguments
    called : NameId → Expressions → Expressions → Spot → Expression
    tuple : Expressions → Spot → Expression
    unary : UnaryOp → Expression → Spot → Expression
    binary : BinaryOp → Expression → Expression → Spot → Expression

  pub data ScalarType : Type 0 where
    bit : ScalarType
    -- with their widths
    uint int : Expression → ScalarType

  -- a variable, a part of it, a part of a part
  pub data Place : Type 0 where
    whole : NameId → Place
    part : NameId → Expression → Place
    part_of_part : NameId → Expression → Expression → Place

  pub data Expressions : Type 0 where
    none : Expressions
    more : Expression → Expressions → Expressions

mutual
  pub data Statement : Type 0 where
    assign : Place → Expression → Spot → Statement
    -- to a tuple of names
    spread : List NameId → Expression → Spot → Statement
    update : Place → UpdateOp → Expression → Spot → Statement
    forget : NameId → Spot → Statement
    forget_value : NameId → Expression → Spot → Statement
    phase : Expression → Spot → Statement
    choice : Expression → Block → Otherwise → Spot → Statement
    -- a variable with its first value and the one behind its last
    loop : NameId → Expression → Expression → Block → Spot → Statement
    return_nothing : Spot → Statement
    return_value : Expression → Spot → Statement
    call : Expression → Spot → Statement

  -- statements with the place of the closing brace
  pub data Block : Type 0 where
    block : Statements → Spot → Block

  -- what stands behind else
  pub data Otherwise : Type 0 where
    else_block : Block → Otherwise
    else_choice : Statement → Otherwise

  pub data Statements : Type 0 where
    done : Statements
    next : Statement → Statements → Statements

-- a type: whether it is classical, and of an array its length
pub data WrittenType : Type 0 where
  scalar : Bool → ScalarType → Spot → WrittenType
  array : Bool → ScalarType → Expression → Spot → WrittenType

pub record Parameter : Type 0 where
  pub held : Bool
  pub name : NameId
  pub ty : WrittenType
  pub at : Spot

pub record Function : Type 0 where
  pub name : NameId
  pub statics : List NameId
  pub params : List Parameter
  pub mark : Mark
  pub results : List WrittenType
  pub body : Block
  pub at : Spot

-- the functions in the order of the file
abbrev pub Program : Type 0
Program = List Function
