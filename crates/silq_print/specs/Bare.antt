-- Tokens and trees with each place put to one value: two of them are equal where the tokens, or the trees, differ in places alone.
use Rattle.std.specs.Prelude.{map}
use Rattle.silq_tree.specs.declared.node.Spot.{Spot}
use Rattle.silq_tree.specs.Syntax.{Expression, ScalarType, Place, Expressions, number, typed_number, truth, pi, place, called, tuple, unary, binary, bit, uint, int, whole, part, part_of_part, none, more, Statement, Block, Otherwise, Statements, assign, spread, update, forget, forget_value, phase, choice, loop, return_nothing, return_value, call, block, else_block, else_choice, done, next, WrittenType, scalar, array, Parameter, Function, Program}
use Rattle.silq_grammar.specs.declared.token.Token.{Token}
use Rattle.silq_grammar.specs.declared.token.Token.TheVariants.{Name, Number, Fixed}

abbrev pub nowhere : Spot
nowhere = record { line = 0; col = 0 }

abbrev pub bare_token : Token → Token
bare_token (Name id at) = Name id nowhere
bare_token (Number value at) = Number value nowhere
bare_token (Fixed t at) = Fixed t nowhere

abbrev mutual
  pub bare_expr : Expression → Expression
  bare_expr (number v at) = number v nowhere
  bare_expr (typed_number v ty at) = typed_number v (bare_scalar ty) nowhere
  bare_expr (truth b at) = truth b nowhere
  bare_expr (pi at) = pi nowhere
  bare_expr (place p at) = place (bare_place p) nowhere
  bare_expr (called f statics args at) = called f (bare_exprs statics) (bare_exprs args) nowhere
  bare_expr (tuple es at) = tuple (bare_exprs es) nowhere
  bare_expr (unary op e at) = unary op (bare_expr e) nowhere
  bare_expr (binary op l r at) = binary op (bare_expr l) (bare_expr r) nowhere

  pub bare_scalar : ScalarType → ScalarType
  bare_scalar bit = bit
  bare_scalar (uint e) = uint (bare_expr e)
  bare_scalar (int e) = int (bare_expr e)

  pub bare_place : Place → Place
  bare_place (whole n) = whole n
  bare_place (part n e) = part n (bare_expr e)
  bare_place (part_of_part n e f) = part_of_part n (bare_expr e) (bare_expr f)

  pub bare_exprs : Expressions → Expressions
  bare_exprs none = none
  bare_exprs (more e es) = more (bare_expr e) (bare_exprs es)

abbrev mutual
  pub bare_stmt : Statement → Statement
  bare_stmt (assign p e at) = assign (bare_place p) (bare_expr e) nowhere
  bare_stmt (spread ns e at) = spread ns (bare_expr e) nowhere
  bare_stmt (update p op e at) = update (bare_place p) op (bare_expr e) nowhere
  bare_stmt (forget n at) = forget n nowhere
  bare_stmt (forget_value n e at) = forget_value n (bare_expr e) nowhere
  bare_stmt (phase e at) = phase (bare_expr e) nowhere
  bare_stmt (choice e b o at) = choice (bare_expr e) (bare_block b) (bare_otherwise o) nowhere
  bare_stmt (loop n e f b at) = loop n (bare_expr e) (bare_expr f) (bare_block b) nowhere
  bare_stmt (return_nothing at) = return_nothing nowhere
  bare_stmt (return_value e at) = return_value (bare_expr e) nowhere
  bare_stmt (call e at) = call (bare_expr e) nowhere

  pub bare_block : Block → Block
  bare_block (block b end) = block (bare_stmts b) nowhere

  pub bare_otherwise : Otherwise → Otherwise
  bare_otherwise (else_block b) = else_block (bare_block b)
  bare_otherwise (else_choice s) = else_choice (bare_stmt s)

  pub bare_stmts : Statements → Statements
  bare_stmts done = done
  bare_stmts (next s b) = next (bare_stmt s) (bare_stmts b)

abbrev pub bare_type : WrittenType → WrittenType
bare_type (scalar c ty at) = scalar c (bare_scalar ty) nowhere
bare_type (array c ty n at) = array c (bare_scalar ty) (bare_expr n) nowhere

abbrev pub bare_param : Parameter → Parameter
bare_param p = record { held = p.held; name = p.name; ty = bare_type p.ty; at = nowhere }

abbrev pub bare_function : Function → Function
bare_function f = record {
  name = f.name;
  statics = f.statics;
  params = map bare_param f.params;
  mark = f.mark;
  results = map bare_type f.results;
  body = bare_block f.body;
  at = nowhere;
}

abbrev pub bare_program : Program → Program
bare_program p = map bare_function p
