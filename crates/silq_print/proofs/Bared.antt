-- A derivation with each place put to one value.
use Rattle.silq_grammar.specs.Grammar.{Expr, one_and, or, And, one_cmp, and, Cmp, one_sum, compare, Sum, one_prod, plus, minus, Prod, one_unary, times, over, Unary, bang, negative, number, typed_number, true_, false_, pi, place, called, paren, Scalar, bit, uint, int, Place, whole, part, part_of_part, Call, plain, with_statics, Args, no_args, args, Exprs, last, and_more, NameList, last_name, and_names, Stmt, assign, spread, update, forget, forget_as, phase, choose, loop, return_nothing, return_value, call, Choice, only, either, chain, Block, braces, Stmts, none, more, Size, no_size, number_size, named_size, paren_size, Type_, quantum, classical, Result, last_type, and_types, Param, moved, held, Params, last_param, and_params, Statics, last_static, and_statics, StaticPart, no_statics, statics, ParamPart, no_params, params, MarkPart, no_mark, lifted, qfree, mfree, ResultPart, no_result, results, Function, def, Program, no_function, function_then}
use Rattle.silq_print.specs.Bare.{nowhere}

abbrev mutual
  pub plain_expr : Expr → Expr
  plain_expr (one_and d1) = one_and (plain_and d1)
  plain_expr (or d1 s1 d2) = or (plain_expr d1) nowhere (plain_and d2)

  pub plain_and : And → And
  plain_and (one_cmp d1) = one_cmp (plain_cmp d1)
  plain_and (and d1 s1 d2) = and (plain_and d1) nowhere (plain_cmp d2)

  pub plain_cmp : Cmp → Cmp
  plain_cmp (one_sum d1) = one_sum (plain_sum d1)
  plain_cmp (compare c1 d1 s1 d2) = compare c1 (plain_sum d1) nowhere (plain_sum d2)

  pub plain_sum : Sum → Sum
  plain_sum (one_prod d1) = one_prod (plain_prod d1)
  plain_sum (plus d1 s1 d2) = plus (plain_sum d1) nowhere (plain_prod d2)
  plain_sum (minus d1 s1 d2) = minus (plain_sum d1) nowhere (plain_prod d2)

  pub plain_prod : Prod → Prod
  plain_prod (one_unary d1) = one_unary (plain_unary d1)
  plain_prod (times d1 s1 d2) = times (plain_prod d1) nowhere (plain_unary d2)
  plain_prod (over d1 s1 d2) = over (plain_prod d1) nowhere (plain_unary d2)

  pub plain_unary : Unary → Unary
  plain_unary (bang s1 d1) = bang nowhere (plain_unary d1)
  plain_unary (negative s1 d1) = negative nowhere (plain_unary d1)
  plain_unary (number v1 s1) = number v1 nowhere
  plain_unary (typed_number v1 s1 s2 d1) = typed_number v1 nowhere nowhere (plain_scalar d1)
  plain_unary (true_ s1) = true_ nowhere
  plain_unary (false_ s1) = false_ nowhere
  plain_unary (pi s1) = pi nowhere
  plain_unary (place d1) = place (plain_place d1)
  plain_unary (called d1) = called (plain_call d1)
  plain_unary (paren s1 d1 s2) = paren nowhere (plain_exprs d1) nowhere

  pub plain_scalar : Scalar → Scalar
  plain_scalar (bit s1) = bit nowhere
  plain_scalar (uint s1 s2 d1 s3) = uint nowhere nowhere (plain_expr d1) nowhere
  plain_scalar (int s1 s2 d1 s3) = int nowhere nowhere (plain_expr d1) nowhere

  pub plain_place : Place → Place
  plain_place (whole x1 s1) = whole x1 nowhere
  plain_place (part x1 s1 s2 d1 s3) = part x1 nowhere nowhere (plain_expr d1) nowhere
  plain_place (part_of_part x1 s1 s2 d1 s3 s4 d2 s5) = part_of_part x1 nowhere nowhere (plain_expr d1) nowhere nowhere (plain_expr d2) nowhere

  pub plain_call : Call → Call
  plain_call (plain x1 s1 s2 d1 s3) = plain x1 nowhere nowhere (plain_args d1) nowhere
  plain_call (with_statics x1 s1 s2 d1 s3 s4 d2 s5) = with_statics x1 nowhere nowhere (plain_exprs d1) nowhere nowhere (plain_args d2) nowhere

  pub plain_args : Args → Args
  plain_args no_args = no_args
  plain_args (args d1) = args (plain_exprs d1)

  pub plain_exprs : Exprs → Exprs
  plain_exprs (last d1) = last (plain_expr d1)
  plain_exprs (and_more d1 s1 d2) = and_more (plain_expr d1) nowhere (plain_exprs d2)

abbrev pub plain_names : NameList → NameList
plain_names (last_name x1 s1) = last_name x1 nowhere
plain_names (and_names x1 s1 s2 d1) = and_names x1 nowhere nowhere (plain_names d1)

abbrev mutual
  pub plain_stmt : Stmt → Stmt
  plain_stmt (assign d1 s1 d2 s2) = assign (plain_place d1) nowhere (plain_expr d2) nowhere
  plain_stmt (spread s1 x1 s2 s3 d1 s4 s5 d2 s6) = spread nowhere x1 nowhere nowhere (plain_names d1) nowhere nowhere (plain_expr d2) nowhere
  plain_stmt (update op1 d1 s1 d2 s2) = update op1 (plain_place d1) nowhere (plain_expr d2) nowhere
  plain_stmt (forget s1 s2 x1 s3 s4 s5) = forget nowhere nowhere x1 nowhere nowhere nowhere
  plain_stmt (forget_as s1 s2 x1 s3 s4 d1 s5 s6) = forget_as nowhere nowhere x1 nowhere nowhere (plain_expr d1) nowhere nowhere
  plain_stmt (phase s1 s2 d1 s3 s4) = phase nowhere nowhere (plain_expr d1) nowhere nowhere
  plain_stmt (choose d1) = choose (plain_choice d1)
  plain_stmt (loop s1 x1 s2 s3 s4 d1 s5 d2 s6 d3) = loop nowhere x1 nowhere nowhere nowhere (plain_expr d1) nowhere (plain_expr d2) nowhere (plain_block d3)
  plain_stmt (return_nothing s1 s2) = return_nothing nowhere nowhere
  plain_stmt (return_value s1 d1 s2) = return_value nowhere (plain_expr d1) nowhere
  plain_stmt (call d1 s1) = call (plain_call d1) nowhere

  pub plain_choice : Choice → Choice
  plain_choice (only s1 d1 d2) = only nowhere (plain_expr d1) (plain_block d2)
  plain_choice (either s1 d1 d2 s2 d3) = either nowhere (plain_expr d1) (plain_block d2) nowhere (plain_block d3)
  plain_choice (chain s1 d1 d2 s2 d3) = chain nowhere (plain_expr d1) (plain_block d2) nowhere (plain_choice d3)

  pub plain_block : Block → Block
  plain_block (braces s1 d1 s2) = braces nowhere (plain_stmts d1) nowhere

  pub plain_stmts : Stmts → Stmts
  plain_stmts none = none
  plain_stmts (more d1 d2) = more (plain_stmt d1) (plain_stmts d2)

abbrev pub plain_size : Size → Size
plain_size no_size = no_size
plain_size (number_size s1 v1 s2) = number_size nowhere v1 nowhere
plain_size (named_size s1 x1 s2) = named_size nowhere x1 nowhere
plain_size (paren_size s1 s2 d1 s3) = paren_size nowhere nowhere (plain_expr d1) nowhere

abbrev pub plain_type : Type_ → Type_
plain_type (quantum d1 d2) = quantum (plain_scalar d1) (plain_size d2)
plain_type (classical s1 d1 d2) = classical nowhere (plain_scalar d1) (plain_size d2)

abbrev pub plain_result : Result → Result
plain_result (last_type d1) = last_type (plain_type d1)
plain_result (and_types d1 s1 d2) = and_types (plain_type d1) nowhere (plain_result d2)

abbrev pub plain_param : Param → Param
plain_param (moved x1 s1 s2 d1) = moved x1 nowhere nowhere (plain_type d1)
plain_param (held s1 x1 s2 s3 d1) = held nowhere x1 nowhere nowhere (plain_type d1)

abbrev pub plain_params : Params → Params
plain_params (last_param d1) = last_param (plain_param d1)
plain_params (and_params d1 s1 d2) = and_params (plain_param d1) nowhere (plain_params d2)

abbrev pub plain_statics : Statics → Statics
plain_statics (last_static x1 s1 s2 s3 s4) = last_static x1 nowhere nowhere nowhere nowhere
plain_statics (and_statics x1 s1 s2 s3 s4 s5 d1) = and_statics x1 nowhere nowhere nowhere nowhere nowhere (plain_statics d1)

abbrev pub plain_static_part : StaticPart → StaticPart
plain_static_part no_statics = no_statics
plain_static_part (statics s1 d1 s2) = statics nowhere (plain_statics d1) nowhere

abbrev pub plain_param_part : ParamPart → ParamPart
plain_param_part (no_params s1 s2) = no_params nowhere nowhere
plain_param_part (params s1 d1 s2) = params nowhere (plain_params d1) nowhere

abbrev pub plain_mark : MarkPart → MarkPart
plain_mark no_mark = no_mark
plain_mark (lifted s1) = lifted nowhere
plain_mark (qfree s1) = qfree nowhere
plain_mark (mfree s1) = mfree nowhere

abbrev pub plain_result_part : ResultPart → ResultPart
plain_result_part no_result = no_result
plain_result_part (results s1 d1) = results nowhere (plain_result d1)

abbrev pub plain_function : Function → Function
plain_function (def s1 x1 s2 d1 d2 d3 d4 d5) = def nowhere x1 nowhere (plain_static_part d1) (plain_param_part d2) (plain_mark d3) (plain_result_part d4) (plain_block d5)

abbrev pub plain_program : Program → Program
plain_program no_function = no_function
plain_program (function_then d1 d2) = function_then (plain_function d1) (plain_program d2)
