-- Reading tokens by the table: what each symbol's tokens give, and the reading itself.
use Rattle.std.proofs.Common.{ℤ, Bool, true, false, List, [], ◌∷◌, ◌++◌, Option, Some, None, cond}
use Rattle.silq_tree.specs.declared.node.NameId.{NameId}
use Rattle.silq_tree.specs.declared.node.Spot.{Spot}
use Rattle.silq_tree.specs.declared.node.UpdateOp.TheVariants as updates
use Rattle.silq_grammar.specs.Tokens.{Terminal, Token, Name, Number, Fixed, kind}
use Rattle.silq_grammar.specs.Terminals.{same_terminal}
use Rattle.silq_grammar.specs.declared.token.Terminal.TheVariants as t
use Rattle.silq_grammar.specs.Grammar as g
use Rattle.silq_grammar.specs.Grammar.{Comparison, equal, not_equal, below, at_most, above, at_least, Expr, one_and, or, And, one_cmp, and, Cmp, one_sum, compare, Sum, one_prod, plus, minus, Prod, one_unary, times, over, Unary, bang, negative, number, typed_number, true_, false_, pi, place, called, paren, Scalar, bit, uint, int, Place, whole, part, part_of_part, Call, plain, with_statics, Args, no_args, args, Exprs, last, and_more, NameList, last_name, and_names, Stmt, assign, spread, update, forget, forget_as, phase, choose, loop, return_nothing, return_value, call, Choice, only, either, chain, Block, braces, Stmts, none, more, Size, no_size, number_size, named_size, paren_size, Type_, quantum, classical, Result, last_type, and_types, Param, moved, held, last_param, and_params, Statics, last_static, and_statics, no_statics, statics, no_params, params, no_mark, lifted, qfree, mfree, no_result, results, Function, def, Program, no_function, function_then}
use Rattle.silq_grammar.specs.Machine.{begin, begin_unary, begin_scalar, begin_param, begin_value, can_be_empty, an_expr, chains, exprs, Symbol, Expect, AnyName, Closing, Ends, Functions, StaticPart, MoreStatics, ParamPart, Params, OneParam, MoreParams, MarkPart, ResultPart, MoreResults, AType, AScalar, Width, SizePart, ASize, ABlock, Statements, MoreNames, ForgetPart, PhasePart, ForgetValue, Bounds, ReturnValue, ElseRest, ElseBody, StartName, StartBracket, StartIndex, Assigns, AUnary, Prods, Sums, Compare, Ands, Ors, NumberType, InName, InBracket, InIndex, CallPart, Arguments, MoreExprs}

-- what the tokens of a symbol give: a part of the grammar, or what they make of the part before them
abbrev pub Piece : Symbol → Type 0
Piece (Expect s) = Spot
Piece AnyName = NameId × Spot
Piece (Closing s) = Spot
Piece Ends = Unit {0}
Piece Functions = Program
Piece StaticPart = g.StaticPart
Piece MoreStatics = NameId → Spot → Spot → Spot → Spot → Statics
Piece ParamPart = g.ParamPart
Piece Params = Spot → Spot → g.ParamPart
Piece OneParam = Param
Piece MoreParams = Param → g.Params
Piece MarkPart = g.MarkPart
Piece ResultPart = g.ResultPart
Piece MoreResults = Type_ → Result
Piece AType = Type_
Piece AScalar = Scalar
Piece Width = Spot × Expr × Spot
Piece SizePart = Size
Piece ASize = Spot → Size
Piece ABlock = Block
Piece Statements = Stmts
Piece MoreNames = NameId → Spot → NameList
Piece ForgetPart = Spot → Spot → Stmt
Piece PhasePart = Spot → Spot → Stmt
Piece ForgetValue = Spot → Spot → NameId → Spot → Spot → Spot → Stmt
Piece Bounds = Spot × Expr × Spot × Expr × Spot
Piece ReturnValue = Spot → Spot → Stmt
Piece ElseRest = Spot → Expr → Block → Choice
Piece ElseBody = Spot → Expr → Block → Spot → Choice
Piece StartName = NameId → Spot → Stmt
Piece StartBracket = NameId → Spot → Spot → Expr → Stmt
Piece StartIndex = NameId → Spot → Spot → Expr → Spot → Stmt
Piece Assigns = Place → Stmt
Piece AUnary = Unary
Piece (Prods n) = Prod → Prod
Piece (Sums n) = Sum → Sum
Piece Compare = Sum → Cmp
Piece (Ands n) = And → And
Piece (Ors n) = Expr → Expr
Piece NumberType = ℤ → Spot → Unary
Piece InName = NameId → Spot → Unary
Piece InBracket = NameId → Spot → Spot → Expr → Unary
Piece InIndex = NameId → Spot → Spot → Expr → Spot → Unary
Piece CallPart = Spot × Args × Spot
Piece Arguments = Args
Piece MoreExprs = Expr → Exprs

abbrev pub Pieces : List Symbol → Type 0
Pieces [] = Unit {0}
Pieces (x ∷ xs) = Piece x × Pieces xs

-- the pieces of two stacks, one on the other
abbrev pub split : (xs ys : List Symbol) → Pieces (xs ++ ys) → Pieces xs × Pieces ys
split [] ys ps = (tt, ps)
split (x ∷ xs) ys ps = let s = split xs ys ps.1 in ((ps.0, s.0), s.1)

-- pieces of the levels of an expression, joined

abbrev pub prod_of : Unary → (Prod → Prod) → Prod
prod_of u f = f (one_unary u)

abbrev pub sum_of : Unary → (Prod → Prod) → (Sum → Sum) → Sum
sum_of u f g = g (one_prod (prod_of u f))

abbrev pub cmp_of : Unary → (Prod → Prod) → (Sum → Sum) → (Sum → Cmp) → Cmp
cmp_of u f g h = h (sum_of u f g)

abbrev pub and_of : Unary → (Prod → Prod) → (Sum → Sum) → (Sum → Cmp) → (And → And) → And
and_of u f g h i = i (one_cmp (cmp_of u f g h))

-- a function of an expression and of the pieces below it, as one of the pieces
abbrev pub on_expr : {R : Type 0} (k : List Symbol) → (Expr → Pieces k → R) → Pieces (an_expr k) → R
on_expr k f (u, (p, (s, (c, (a, (o, r)))))) = f (o (one_and (and_of u p s c a))) r

abbrev pub on_exprs : {R : Type 0} (k : List Symbol) → (Exprs → Pieces k → R) → Pieces (exprs k) → R
on_exprs k f = on_expr (MoreExprs ∷ k) (λ e r. f (r.0 e) r.1)

abbrev pub on_sum : {R : Type 0} (k : List Symbol) → (Sum → Pieces k → R) → Pieces (AUnary ∷ Prods 0 ∷ Sums 0 ∷ k) → R
on_sum k f (u, (p, (s, r))) = f (sum_of u p s) r

abbrev pub Built : Option (List Symbol) → Symbol → Type 0
Built None x = Unit {0}
Built (Some ys) x = Pieces ys → Piece x

abbrev pub BuiltUnary : Option (List Symbol) → List Symbol → Type 0
BuiltUnary None k = Unit {0}
BuiltUnary (Some ys) k = Pieces ys → Pieces (AUnary ∷ k)

abbrev pub met : (s : Terminal) (b : Bool) → Spot → Built (cond b (Some []) None) (Expect s)
met s true at = λ ps. at
met s false at = tt

abbrev pub closed : (s : Terminal) (b : Bool) → Spot → Built (cond b (Some []) None) (Closing s)
closed s true at = λ ps. at
closed s false at = tt

abbrev pub build_unary : (k : List Symbol) (w : Token) → BuiltUnary (begin_unary k (kind w)) k
build_unary k (Name n s) = λ ps. (ps.0 n s, ps.1)
build_unary k (Number v s) = λ ps. (ps.0 v s, ps.1)
build_unary k (Fixed t.True s) = λ ps. (true_ s, ps)
build_unary k (Fixed t.False s) = λ ps. (false_ s, ps)
build_unary k (Fixed t.Pi s) = λ ps. (pi s, ps)
build_unary k (Fixed t.LeftParen l) = on_exprs (Closing t.RightParen ∷ k) (λ es r. (paren l es r.0, r.1))
build_unary k (Fixed t.Bang s) = λ ps. (bang s ps.0, ps.1.1)
build_unary k (Fixed t.Minus s) = λ ps. (negative s ps.0, ps.1.1)
build_unary k _ = tt

abbrev pub as_unary : (o : Option (List Symbol)) → BuiltUnary o [] → Built o AUnary
as_unary None b = tt
as_unary (Some ys) b = λ ps. (b ps).0

abbrev pub as_return : (o : Option (List Symbol)) → BuiltUnary o (chains []) → Built o ReturnValue
as_return None b = tt
as_return (Some ys) b = λ ps s end. on_expr [] (λ e r. return_value s e end) (b ps)

abbrev pub as_arguments : (o : Option (List Symbol)) → BuiltUnary o (chains (MoreExprs ∷ [])) → Built o Arguments
as_arguments None b = tt
as_arguments (Some ys) b = λ ps. on_exprs [] (λ es r. args es) (b ps)

abbrev pub BuiltScalar : Option (List Symbol) → List Symbol → Type 0
BuiltScalar None k = Unit {0}
BuiltScalar (Some ys) k = Pieces ys → Pieces (AScalar ∷ k)

abbrev pub build_scalar : (k : List Symbol) (w : Token) → BuiltScalar (begin_scalar k (kind w)) k
build_scalar k (Fixed t.Bit s) = λ ps. (bit s, ps)
build_scalar k (Fixed t.UInt s) = λ (q, ps). (uint s q.0 q.1 q.2, ps)
build_scalar k (Fixed t.Int s) = λ (q, ps). (int s q.0 q.1 q.2, ps)
build_scalar k _ = tt

abbrev pub as_scalar : (o : Option (List Symbol)) → BuiltScalar o [] → Built o AScalar
as_scalar None b = tt
as_scalar (Some ys) b = λ ps. (b ps).0

abbrev pub as_type : (o : Option (List Symbol)) → BuiltScalar o (SizePart ∷ []) → Built o AType
as_type None b = tt
as_type (Some ys) b = λ ps. let q = b ps in quantum q.0 q.1.0

abbrev pub BuiltParam : Option (List Symbol) → List Symbol → Type 0
BuiltParam None k = Unit {0}
BuiltParam (Some ys) k = Pieces ys → Pieces (OneParam ∷ k)

abbrev pub build_param : (k : List Symbol) (w : Token) → BuiltParam (begin_param k (kind w)) k
build_param k (Name n s) = λ ps. (moved n s ps.0 ps.1.0, ps.1.1)
build_param k (Fixed t.Const c) = λ ps. (held c ps.0.0 ps.0.1 ps.1.0 ps.1.1.0, ps.1.1.1)
build_param k _ = tt

abbrev pub as_param : (o : Option (List Symbol)) → BuiltParam o [] → Built o OneParam
as_param None b = tt
as_param (Some ys) b = λ ps. (b ps).0

abbrev pub as_params : (o : Option (List Symbol)) → BuiltParam o (MoreParams ∷ []) → Built o Params
as_params None b = tt
as_params (Some ys) b = λ ps l r. let q = b ps in params l (q.1.0 q.0) r

-- an assignment or update of a place
abbrev pub BuiltValue : Option (List Symbol) → Type 0
BuiltValue None = Unit {0}
BuiltValue (Some ys) = Pieces ys → Place → Stmt

abbrev pub build_value : (w : Token) → BuiltValue (begin_value (kind w))
build_value (Fixed t.Becomes s) = on_expr (Expect t.Semicolon ∷ []) (λ e r p. assign p s e r.0)
build_value (Fixed t.AddTo s) = on_expr (Expect t.Semicolon ∷ []) (λ e r p. update updates.Add p s e r.0)
build_value (Fixed t.SubtractFrom s) = on_expr (Expect t.Semicolon ∷ []) (λ e r p. update updates.Sub p s e r.0)
build_value (Fixed t.XorTo s) = on_expr (Expect t.Semicolon ∷ []) (λ e r p. update updates.Xor p s e r.0)
build_value _ = tt

abbrev pub as_start_name : (o : Option (List Symbol)) → BuiltValue o → Built o StartName
as_start_name None b = tt
as_start_name (Some ys) b = λ ps n s. b ps (whole n s)

abbrev pub as_start_index : (o : Option (List Symbol)) → BuiltValue o → Built o StartIndex
as_start_index None b = tt
as_start_index (Some ys) b = λ ps n s l e r. b ps (part n s l e r)

abbrev pub as_assigns : (o : Option (List Symbol)) → BuiltValue o → Built o Assigns
as_assigns None b = tt
as_assigns (Some ys) b = b

-- what a symbol's first token makes of the pieces behind it
abbrev pub build : (x : Symbol) (w : Token) → Built (begin x (kind w)) x
build (Expect s) (Fixed u at) = met s (same_terminal s u) at
build (Closing s) (Fixed u at) = closed s (same_terminal s u) at
build AnyName (Name n s) = λ ps. (n, s)
build Functions (Fixed t.Def s) = λ ((n, a), (ss, (ps, (m, (r, (b, (fs, z))))))). function_then (def s n a ss ps m r b) fs
build StaticPart (Fixed t.LeftBracket l) = λ ((n, s), (c, (b, (k, (f, (r, z)))))). statics l (f n s c b k) r
build MoreStatics (Fixed t.Comma d) = λ ((n, s), (c, (b, (k, (f, z))))) m q e g h. and_statics m q e g h d (f n s c b k)
build ParamPart (Fixed t.LeftParen l) = λ (f, (r, z)). f l r
build Params w = as_params (begin_param (MoreParams ∷ []) (kind w)) (build_param (MoreParams ∷ []) w)
build OneParam w = as_param (begin_param [] (kind w)) (build_param [] w)
build MoreParams (Fixed t.Comma s) = λ (p, (f, z)) q. and_params q s (f p)
build MarkPart (Fixed t.Lifted s) = λ ps. lifted s
build MarkPart (Fixed t.Qfree s) = λ ps. qfree s
build MarkPart (Fixed t.Mfree s) = λ ps. mfree s
build ResultPart (Fixed t.Colon s) = λ (ty, (f, z)). results s (f ty)
build MoreResults (Fixed t.Times s) = λ (ty, (f, z)) before. and_types before s (f ty)
build AType (Fixed t.Bang s) = λ (ty, (n, z)). classical s ty n
build AType w = as_type (begin_scalar (SizePart ∷ []) (kind w)) (build_scalar (SizePart ∷ []) w)
build AScalar w = as_scalar (begin_scalar [] (kind w)) (build_scalar [] w)
build Width (Fixed t.LeftBracket l) = on_expr (Closing t.RightBracket ∷ []) (λ e r. (l, e, r.0))
build SizePart (Fixed t.Caret c) = λ ps. ps.0 c
build ASize (Name n s) = λ ps c. named_size c n s
build ASize (Number v s) = λ ps c. number_size c v s
build ASize (Fixed t.LeftParen l) = on_expr (Closing t.RightParen ∷ []) (λ e r c. paren_size c l e r.0)
build ABlock (Fixed t.LeftBrace l) = λ (b, (r, z)). braces l b r
build Statements (Name n s) = λ (f, (b, z)). more (f n s) b
build Statements (Fixed t.LeftParen l) =
    λ ((n, a), (c, ((m, d), (f, (r, (s, ps)))))). on_expr (Expect t.Semicolon ∷ Statements ∷ []) (λ e q. more (spread l n a c (f m d) r s e q.0) q.1.0) ps
build Statements (Fixed t.Forget s) = λ (f, (end, (b, z))). more (f s end) b
build Statements (Fixed t.Phase s) = λ (f, (end, (b, z))). more (f s end) b
build Statements (Fixed t.If s) = on_expr (ABlock ∷ ElseRest ∷ Statements ∷ []) (λ e r. more (choose (r.1.0 s e r.0)) r.1.1.0)
build Statements (Fixed t.For s) = λ ((n, a), (i, ((l, e, d, f, r), (b, (c, z))))). more (loop s n a i l e d f r b) c
build Statements (Fixed t.Return s) = λ (f, (end, (b, z))). more (f s end) b
build MoreNames (Fixed t.Comma c) = λ ((n, s), (f, z)) m a. and_names m a c (f n s)
build ForgetPart (Fixed t.LeftParen l) = λ ((n, a), (f, (r, z))) s end. f s l n a r end
build PhasePart (Fixed t.LeftParen l) = on_expr (Closing t.RightParen ∷ []) (λ e r s end. phase s l e r.0 end)
build ForgetValue (Fixed t.Is i) = on_expr [] (λ e z s l n a r end. forget_as s l n a i e r end)
build Bounds (Fixed t.LeftBracket l) =
    on_expr (Expect t.Dots ∷ an_expr (Closing t.RightParen ∷ [])) (λ e q. on_expr (Closing t.RightParen ∷ []) (λ f r. (l, e, q.0, f, r.0)) q.1)
build ReturnValue w = as_return (begin_unary (chains []) (kind w)) (build_unary (chains []) w)
build ElseRest (Fixed t.Else o) = λ ps s e b. ps.0 s e b o
build ElseBody (Fixed t.LeftBrace l) = λ (d, (r, z)) s e b o. either s e b o (braces l d r)
build ElseBody (Fixed t.If i) = on_expr (ABlock ∷ ElseRest ∷ Ends ∷ []) (λ f r s e b o. chain s e b o (r.1.0 i f r.0))
build StartName (Fixed t.LeftBracket l) = on_expr (StartBracket ∷ []) (λ e r n s. r.0 n s l e)
build StartName (Fixed t.LeftParen l) = λ (a, (r, (end, z))) n s. call (plain n s l a r) end
build StartName w = as_start_name (begin_value (kind w)) (build_value w)
build StartBracket (Fixed t.RightBracket r) = λ ps n s l e. ps.0 n s l e r
build StartBracket (Fixed t.Comma c) =
    on_exprs (Closing t.RightBracket ∷ CallPart ∷ Expect t.Semicolon ∷ [])
    (λ es (r, ((m, a, q), (end, z))) n s l e. call (with_statics n s l (and_more e c es) r m a q) end)
build StartIndex (Fixed t.LeftBracket m) = on_expr (Closing t.RightBracket ∷ Assigns ∷ []) (λ f ps n s l e r. ps.1.0 (part_of_part n s l e r m f ps.0))
build StartIndex (Fixed t.LeftParen m) = λ (a, (q, (end, z))) n s l e r. call (with_statics n s l (last e) r m a q) end
build StartIndex w = as_start_index (begin_value (kind w)) (build_value w)
build Assigns w = as_assigns (begin_value (kind w)) (build_value w)
build AUnary w = as_unary (begin_unary [] (kind w)) (build_unary [] w)
build (Prods n) (Fixed t.Star s) = λ (u, (f, z)) p. f (times p s u)
build (Prods n) (Fixed t.Slash s) = λ (u, (f, z)) p. f (over p s u)
build (Sums n) (Fixed t.Plus s) = λ (u, (p, (f, z))) a. f (plus a s (prod_of u p))
build (Sums n) (Fixed t.Minus s) = λ (u, (p, (f, z))) a. f (minus a s (prod_of u p))
build Compare (Fixed t.Equal s) = on_sum (Ends ∷ []) (λ b z a. compare equal a s b)
build Compare (Fixed t.NotEqual s) = on_sum (Ends ∷ []) (λ b z a. compare not_equal a s b)
build Compare (Fixed t.Below s) = on_sum (Ends ∷ []) (λ b z a. compare below a s b)
build Compare (Fixed t.AtMost s) = on_sum (Ends ∷ []) (λ b z a. compare at_most a s b)
build Compare (Fixed t.Above s) = on_sum (Ends ∷ []) (λ b z a. compare above a s b)
build Compare (Fixed t.AtLeast s) = on_sum (Ends ∷ []) (λ b z a. compare at_least a s b)
build (Ands n) (Fixed t.And s) = λ (u, (p, (g, (h, (f, z))))) a. f (and a s (cmp_of u p g h))
build (Ors n) (Fixed t.Or s) = λ (u, (p, (g, (h, (i, (f, z)))))) e. f (or e s (and_of u p g h i))
build NumberType (Fixed t.Colon c) = λ ps v s. typed_number v s c ps.0
build InName (Fixed t.LeftBracket l) = on_expr (InBracket ∷ []) (λ e r n s. r.0 n s l e)
build InName (Fixed t.LeftParen l) = λ (a, (r, z)) n s. called (plain n s l a r)
build InBracket (Fixed t.RightBracket r) = λ ps n s l e. ps.0 n s l e r
build InBracket (Fixed t.Comma c) =
    on_exprs (Closing t.RightBracket ∷ CallPart ∷ []) (λ es (r, ((m, a, q), z)) n s l e. called (with_statics n s l (and_more e c es) r m a q))
build InIndex (Fixed t.LeftBracket m) = on_expr (Closing t.RightBracket ∷ []) (λ f ps n s l e r. place (part_of_part n s l e r m f ps.0))
build InIndex (Fixed t.LeftParen m) = λ (a, (q, z)) n s l e r. called (with_statics n s l (last e) r m a q)
build CallPart (Fixed t.LeftParen l) = λ (a, (r, z)). (l, a, r)
build Arguments w = as_arguments (begin_unary (chains (MoreExprs ∷ [])) (kind w)) (build_unary (chains (MoreExprs ∷ [])) w)
build MoreExprs (Fixed t.Comma s) = on_exprs [] (λ es z e. and_more e s es)
build _ _ = tt

abbrev pub Empty : Bool → Symbol → Type 0
Empty true x = Piece x
Empty false x = Unit {0}

-- what no tokens give
abbrev pub empty : (x : Symbol) → Empty (can_be_empty x) x
empty Ends = tt
empty Functions = no_function
empty StaticPart = no_statics
empty MoreStatics = last_static
empty Params = no_params
empty MoreParams = last_param
empty MarkPart = no_mark
empty ResultPart = no_result
empty MoreResults = last_type
empty SizePart = no_size
empty Statements = none
empty MoreNames = last_name
empty ForgetValue = λ s l n a r end. forget s l n a r end
empty ReturnValue = λ s end. return_nothing s end
empty ElseRest = only
empty (Prods n) = λ p. p
empty (Sums n) = λ a. a
empty Compare = one_sum
empty (Ands n) = λ a. a
empty (Ors n) = λ e. e
empty NumberType = number
empty InName = λ n s. place (whole n s)
empty InIndex = λ n s l e r. place (part n s l e r)
empty Arguments = no_args
empty MoreExprs = last
empty _ = tt

abbrev pub at_begin : (x : Symbol) (xs : List Symbol) (o : Option (List Symbol)) → Built o x → (Pieces (x ∷ xs) → Program)
    → ((ys : List Symbol) → (Pieces ys → Program) → Option Program) → Option Program → Option Program
at_begin x xs None b f go otherwise = otherwise
at_begin x xs (Some ys) b f go otherwise = go (ys ++ xs) (λ ps. let s = split ys xs ps in f (b s.0, s.1))

abbrev pub at_empty : (x : Symbol) (b : Bool) → Empty b x → (Piece x → Option Program) → Option Program
at_empty x true e f = f e
at_empty x false e f = None

-- reading a token: go on with what is expected behind it
abbrev pub step : (xs : List Symbol) (w : Token) → (Pieces xs → Program) → ((ys : List Symbol) → (Pieces ys → Program) → Option Program) → Option Program
step [] w f go = None
step (x ∷ xs) w f go = at_begin x xs (begin x (kind w)) (build x w) f go (at_empty x (can_be_empty x) (empty x) (λ e. step xs w (λ r. f (e, r)) go))

abbrev pub finish : (xs : List Symbol) → (Pieces xs → Program) → Option Program
finish [] f = Some (f tt)
finish (x ∷ xs) f = at_empty x (can_be_empty x) (empty x) (λ e. finish xs (λ r. f (e, r)))

-- what f makes of the pieces that the tokens give
abbrev pub read : (xs : List Symbol) (ts : List Token) → (Pieces xs → Program) → Option Program
read xs [] f = finish xs f
read xs (w ∷ ts) f = step xs w f (λ ys g. read ys ts g)
