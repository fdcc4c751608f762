-- Each rule of the table builds a part of the grammar.
use Rattle.std.proofs.Common.{◌≡◌, ℕ, ℤ, Bool, true, false, List, [], ◌∷◌, ◌++◌, Option, Some, None, cond, refl, sym, ◌∙◌, ap, append_assoc, append-nil, arith}
use Rattle.grammar_core.specs.Stands.{StandsAll, nothing, first_then, RuleStands, Builds}
use Rattle.grammar_core.specs.Check.{item}
use Rattle.silq_tree.specs.declared.node.NameId.{NameId}
use Rattle.silq_tree.specs.declared.node.Spot.{Spot}
use Rattle.silq_tree.specs.declared.node.UpdateOp.TheVariants as updates
use Rattle.silq_grammar.specs.Tokens.{Terminal, Token, Name, Number, Fixed, kind}
use Rattle.silq_grammar.specs.Terminals.{number_of, same_terminal}
use Rattle.silq_grammar.specs.declared.token.Terminal.TheVariants as t
use Rattle.silq_grammar.specs.Grammar as g
use Rattle.silq_grammar.specs.Grammar.{Comparison, equal, not_equal, below, at_most, above, at_least, Expr, one_and, or, And, one_cmp, and, Cmp, one_sum, compare, Sum, one_prod, plus, minus, Prod, one_unary, times, over, Unary, bang, negative, number, typed_number, true_, false_, pi, place, called, paren, Scalar, bit, uint, int, Place, whole, part, part_of_part, Call, plain, with_statics, Args, no_args, args, Exprs, last, and_more, NameList, last_name, and_names, Stmt, assign, spread, update, forget, forget_as, phase, choose, loop, return_nothing, return_value, call, Choice, only, either, chain, Block, braces, Stmts, none, more, Size, no_size, number_size, named_size, paren_size, Type_, quantum, classical, Result, last_type, and_types, Param, moved, held, last_param, and_params, Statics, last_static, and_statics, no_statics, statics, no_params, params, no_mark, lifted, qfree, mfree, no_result, results, Function, def, Program, no_function, function_then}
use Rattle.silq_grammar.specs.Spelled.{expr_text, and_text, cmp_text, sum_text, prod_text, unary_text, scalar_text, place_text, call_text, args_text, exprs_text, names_text, stmt_text, choice_text, block_text, stmts_text, size_text, type_text, result_text, param_text, params_text, statics_text, static_part_text, param_part_text, mark_text, result_part_text, program_text}
use Rattle.silq_grammar.specs.Machine.{table, begin, begin_unary, begin_scalar, begin_param, begin_value, can_be_empty, chains, an_expr, exprs, Symbol, Expect, AnyName, Closing, Ends, Functions, StaticPart, MoreStatics, ParamPart, Params, OneParam, MoreParams, MarkPart, ResultPart, MoreResults, AType, AScalar, Width, SizePart, ASize, ABlock, Statements, MoreNames, ForgetPart, PhasePart, ForgetValue, Bounds, ReturnValue, ElseRest, ElseBody, StartName, StartBracket, StartIndex, Assigns, AUnary, Prods, Sums, Compare, Ands, Ors, NumberType, InName, InBracket, InIndex, CallPart, Arguments, MoreExprs}

-- the tokens are those of a statement, and likewise

abbrev pub StmtFrom : List Token → Type 0
StmtFrom ts = (x : Stmt) × (stmt_text x ≡ ts)

abbrev pub UnaryFrom : List Token → Type 0
UnaryFrom ts = (u : Unary) × (unary_text u ≡ ts)

abbrev pub ChoiceFrom : List Token → Type 0
ChoiceFrom ts = (c : Choice) × (choice_text c ≡ ts)

-- what the tokens of each symbol complete
abbrev pub Stands : Symbol → List Token → Type 0
Stands (Expect s) ts = (at : Spot) × (ts ≡ Fixed s at ∷ [])
Stands (Closing s) ts = (at : Spot) × (ts ≡ Fixed s at ∷ [])
Stands AnyName ts = (n : NameId) × (at : Spot) × (ts ≡ Name n at ∷ [])
Stands Ends ts = ts ≡ []
Stands Functions ts = (p : Program) × (program_text p ≡ ts)
Stands StaticPart ts = (p : g.StaticPart) × (static_part_text p ≡ ts)
Stands MoreStatics ts = (n : NameId) (s c b d : Spot) → (ns : Statics) × (statics_text ns ≡ Name n s ∷ Fixed t.Colon c ∷ Fixed t.Bang b ∷ Fixed t.Natural d ∷ ts)
Stands ParamPart ts = (p : g.ParamPart) × (param_part_text p ≡ ts)
Stands Params ts = (l r : Spot) → (p : g.ParamPart) × (param_part_text p ≡ Fixed t.LeftParen l ∷ (ts ++ (Fixed t.RightParen r ∷ [])))
Stands OneParam ts = (p : Param) × (param_text p ≡ ts)
Stands MoreParams ts = (p : Param) → (ps : g.Params) × (params_text ps ≡ param_text p ++ ts)
Stands MarkPart ts = (m : g.MarkPart) × (mark_text m ≡ ts)
Stands ResultPart ts = (r : g.ResultPart) × (result_part_text r ≡ ts)
Stands MoreResults ts = (ty : Type_) → (r : Result) × (result_text r ≡ type_text ty ++ ts)
Stands AType ts = (ty : Type_) × (type_text ty ≡ ts)
Stands AScalar ts = (ty : Scalar) × (scalar_text ty ≡ ts)
Stands Width ts = (l : Spot) × (e : Expr) × (r : Spot) × (ts ≡ Fixed t.LeftBracket l ∷ (expr_text e ++ (Fixed t.RightBracket r ∷ [])))
Stands SizePart ts = (n : Size) × (size_text n ≡ ts)
Stands ASize ts = (c : Spot) → (n : Size) × (size_text n ≡ Fixed t.Caret c ∷ ts)
Stands ABlock ts = (b : Block) × (block_text b ≡ ts)
Stands Statements ts = (b : Stmts) × (stmts_text b ≡ ts)
Stands MoreNames ts = (n : NameId) (s : Spot) → (ns : NameList) × (names_text ns ≡ Name n s ∷ ts)
Stands ForgetPart ts = (s end : Spot) → StmtFrom (Fixed t.Forget s ∷ (ts ++ (Fixed t.Semicolon end ∷ [])))
Stands PhasePart ts = (s end : Spot) → StmtFrom (Fixed t.Phase s ∷ (ts ++ (Fixed t.Semicolon end ∷ [])))
Stands ForgetValue ts = (s l : Spot) (n : NameId) (a r end : Spot) → StmtFrom (Fixed t.Forget s ∷ Fixed t.LeftParen l ∷ Name n a ∷ (ts ++ (Fixed t.RightParen r ∷ Fixed t.Semicolon end ∷ [])))
Stands Bounds ts = (l : Spot) × (e : Expr) × (d : Spot) × (f : Expr) × (r : Spot) × (ts ≡ Fixed t.LeftBracket l ∷ (expr_text e ++ (Fixed t.Dots d ∷ (expr_text f ++ (Fixed t.RightParen r ∷ [])))))
Stands ReturnValue ts = (s end : Spot) → StmtFrom (Fixed t.Return s ∷ (ts ++ (Fixed t.Semicolon end ∷ [])))
Stands ElseRest ts = (s : Spot) (e : Expr) (b : Block) → ChoiceFrom (Fixed t.If s ∷ (expr_text e ++ (block_text b ++ ts)))
Stands ElseBody ts = (s : Spot) (e : Expr) (b : Block) (o : Spot) → ChoiceFrom (Fixed t.If s ∷ (expr_text e ++ (block_text b ++ (Fixed t.Else o ∷ ts))))
Stands StartName ts = (n : NameId) (s : Spot) → StmtFrom (Name n s ∷ ts)
Stands StartBracket ts = (n : NameId) (s l : Spot) (e : Expr) → StmtFrom (Name n s ∷ Fixed t.LeftBracket l ∷ (expr_text e ++ ts))
Stands StartIndex ts = (n : NameId) (s l : Spot) (e : Expr) (r : Spot) → StmtFrom (Name n s ∷ Fixed t.LeftBracket l ∷ (expr_text e ++ (Fixed t.RightBracket r ∷ ts)))
Stands Assigns ts = (p : Place) → StmtFrom (place_text p ++ ts)
Stands AUnary ts = UnaryFrom ts
Stands (Prods n) ts = (p : Prod) → (q : Prod) × (prod_text q ≡ prod_text p ++ ts)
Stands (Sums n) ts = (a : Sum) → (b : Sum) × (sum_text b ≡ sum_text a ++ ts)
Stands Compare ts = (a : Sum) → (c : Cmp) × (cmp_text c ≡ sum_text a ++ ts)
Stands (Ands n) ts = (a : And) → (b : And) × (and_text b ≡ and_text a ++ ts)
Stands (Ors n) ts = (e : Expr) → (f : Expr) × (expr_text f ≡ expr_text e ++ ts)
Stands NumberType ts = (v : ℤ) (s : Spot) → UnaryFrom (Number v s ∷ ts)
Stands InName ts = (n : NameId) (s : Spot) → UnaryFrom (Name n s ∷ ts)
Stands InBracket ts = (n : NameId) (s l : Spot) (e : Expr) → UnaryFrom (Name n s ∷ Fixed t.LeftBracket l ∷ (expr_text e ++ ts))
Stands InIndex ts = (n : NameId) (s l : Spot) (e : Expr) (r : Spot) → UnaryFrom (Name n s ∷ Fixed t.LeftBracket l ∷ (expr_text e ++ (Fixed t.RightBracket r ∷ ts)))
Stands CallPart ts = (l : Spot) × (a : Args) × (r : Spot) × (ts ≡ Fixed t.LeftParen l ∷ (args_text a ++ (Fixed t.RightParen r ∷ [])))
Stands Arguments ts = (a : Args) × (args_text a ≡ ts)
Stands MoreExprs ts = (e : Expr) → (es : Exprs) × (exprs_text es ≡ expr_text e ++ ts)

-- the first part of tokens, handed to a proof with the tokens behind it

with_part : {x : Symbol} {k : List Symbol} {ts : List Token} {Q : Type 0} → StandsAll Stands (x ∷ k) ts
    → ((us vs : List Token) → Stands x us → StandsAll Stands k vs → ts ≡ us ++ vs → Q) → Q
with_part (first_then {us = us} {vs = vs} s r) f = f us vs s r refl

with_sign : {s : Terminal} {k : List Symbol} {ts : List Token} {Q : Type 0} → StandsAll Stands (Expect s ∷ k) ts
    → ((at : Spot) (vs : List Token) → StandsAll Stands k vs → ts ≡ Fixed s at ∷ vs → Q) → Q
with_sign (first_then {vs = vs} s r) f = f s.0 vs r (ap (λ w. w ++ vs) s.1)

with_close : {s : Terminal} {k : List Symbol} {ts : List Token} {Q : Type 0} → StandsAll Stands (Closing s ∷ k) ts
    → ((at : Spot) (vs : List Token) → StandsAll Stands k vs → ts ≡ Fixed s at ∷ vs → Q) → Q
with_close (first_then {vs = vs} s r) f = f s.0 vs r (ap (λ w. w ++ vs) s.1)

with_name : {k : List Symbol} {ts : List Token} {Q : Type 0} → StandsAll Stands (AnyName ∷ k) ts
    → ((n : NameId) (at : Spot) (vs : List Token) → StandsAll Stands k vs → ts ≡ Name n at ∷ vs → Q) → Q
with_name (first_then {vs = vs} s r) f = f s.0 s.1 vs r (ap (λ w. w ++ vs) s.2)

with_ends : {k : List Symbol} {ts : List Token} {Q : Type 0} → StandsAll Stands (Ends ∷ k) ts → (StandsAll Stands k ts → Q) → Q
with_ends (first_then {vs = vs} s r) f = f (rw s r)

with_functions : {k : List Symbol} {ts : List Token} {Q : Type 0} → StandsAll Stands (Functions ∷ k) ts
    → ((x : Program) (vs : List Token) → StandsAll Stands k vs → ts ≡ program_text x ++ vs → Q) → Q
with_functions (first_then {vs = vs} s r) f = f s.0 vs r (ap (λ w. w ++ vs) (sym s.1))

with_static_part : {k : List Symbol} {ts : List Token} {Q : Type 0} → StandsAll Stands (StaticPart ∷ k) ts
    → ((x : g.StaticPart) (vs : List Token) → StandsAll Stands k vs → ts ≡ static_part_text x ++ vs → Q) → Q
with_static_part (first_then {vs = vs} s r) f = f s.0 vs r (ap (λ w. w ++ vs) (sym s.1))

with_param_part : {k : List Symbol} {ts : List Token} {Q : Type 0} → StandsAll Stands (ParamPart ∷ k) ts
    → ((x : g.ParamPart) (vs : List Token) → StandsAll Stands k vs → ts ≡ param_part_text x ++ vs → Q) → Q
with_param_part (first_then {vs = vs} s r) f = f s.0 vs r (ap (λ w. w ++ vs) (sym s.1))

with_param : {k : List Symbol} {ts : List Token} {Q : Type 0} → StandsAll Stands (OneParam ∷ k) ts
    → ((x : Param) (vs : List Token) → StandsAll Stands k vs → ts ≡ param_text x ++ vs → Q) → Q
with_param (first_then {vs = vs} s r) f = f s.0 vs r (ap (λ w. w ++ vs) (sym s.1))

with_mark : {k : List Symbol} {ts : List Token} {Q : Type 0} → StandsAll Stands (MarkPart ∷ k) ts
    → ((x : g.MarkPart) (vs : List Token) → StandsAll Stands k vs → ts ≡ mark_text x ++ vs → Q) → Q
with_mark (first_then {vs = vs} s r) f = f s.0 vs r (ap (λ w. w ++ vs) (sym s.1))

with_result_part : {k : List Symbol} {ts : List Token} {Q : Type 0} → StandsAll Stands (ResultPart ∷ k) ts
    → ((x : g.ResultPart) (vs : List Token) → StandsAll Stands k vs → ts ≡ result_part_text x ++ vs → Q) → Q
with_result_part (first_then {vs = vs} s r) f = f s.0 vs r (ap (λ w. w ++ vs) (sym s.1))

with_type : {k : List Symbol} {ts : List Token} {Q : Type 0} → StandsAll Stands (AType ∷ k) ts
    → ((x : Type_) (vs : List Token) → StandsAll Stands k vs → ts ≡ type_text x ++ vs → Q) → Q
with_type (first_then {vs = vs} s r) f = f s.0 vs r (ap (λ w. w ++ vs) (sym s.1))

with_scalar : {k : List Symbol} {ts : List Token} {Q : Type 0} → StandsAll Stands (AScalar ∷ k) ts
    → ((x : Scalar) (vs : List Token) → StandsAll Stands k vs → ts ≡ scalar_text x ++ vs → Q) → Q
with_scalar (first_then {vs = vs} s r) f = f s.0 vs r (ap (λ w. w ++ vs) (sym s.1))

with_size : {k : List Symbol} {ts : List Token} {Q : Type 0} → StandsAll Stands (SizePart ∷ k) ts
    → ((x : Size) (vs : List Token) → StandsAll Stands k vs → ts ≡ size_text x ++ vs → Q) → Q
with_size (first_then {vs = vs} s r) f = f s.0 vs r (ap (λ w. w ++ vs) (sym s.1))

with_block : {k : List Symbol} {ts : List Token} {Q : Type 0} → StandsAll Stands (ABlock ∷ k) ts
    → ((x : Block) (vs : List Token) → StandsAll Stands k vs → ts ≡ block_text x ++ vs → Q) → Q
with_block (first_then {vs = vs} s r) f = f s.0 vs r (ap (λ w. w ++ vs) (sym s.1))

with_stmts : {k : List Symbol} {ts : List Token} {Q : Type 0} → StandsAll Stands (Statements ∷ k) ts
    → ((x : Stmts) (vs : List Token) → StandsAll Stands k vs → ts ≡ stmts_text x ++ vs → Q) → Q
with_stmts (first_then {vs = vs} s r) f = f s.0 vs r (ap (λ w. w ++ vs) (sym s.1))

with_unary : {k : List Symbol} {ts : List Token} {Q : Type 0} → StandsAll Stands (AUnary ∷ k) ts
    → ((x : Unary) (vs : List Token) → StandsAll Stands k vs → ts ≡ unary_text x ++ vs → Q) → Q
with_unary (first_then {vs = vs} s r) f = f s.0 vs r (ap (λ w. w ++ vs) (sym s.1))

with_args : {k : List Symbol} {ts : List Token} {Q : Type 0} → StandsAll Stands (Arguments ∷ k) ts
    → ((x : Args) (vs : List Token) → StandsAll Stands k vs → ts ≡ args_text x ++ vs → Q) → Q
with_args (first_then {vs = vs} s r) f = f s.0 vs r (ap (λ w. w ++ vs) (sym s.1))

with_prod : {n : ℕ} {k : List Symbol} {ts : List Token} {Q : Type 0} → StandsAll Stands (AUnary ∷ Prods n ∷ k) ts
    → ((x : Prod) (vs : List Token) → StandsAll Stands k vs → ts ≡ prod_text x ++ vs → Q) → Q
with_prod s f = with_unary s (λ x vs r e. with_part r (λ us ws h r' e'. let y = h (one_unary x) in f y.0 ws r' (rw (e, e', y.1) (sym (append_assoc _ us ws)))))

with_sum : {n m : ℕ} {k : List Symbol} {ts : List Token} {Q : Type 0} → StandsAll Stands (AUnary ∷ Prods n ∷ Sums m ∷ k) ts
    → ((x : Sum) (vs : List Token) → StandsAll Stands k vs → ts ≡ sum_text x ++ vs → Q) → Q
with_sum s f = with_prod s (λ x vs r e. with_part r (λ us ws h r' e'. let y = h (one_prod x) in f y.0 ws r' (rw (e, e', y.1) (sym (append_assoc _ us ws)))))

with_cmp : {n m : ℕ} {k : List Symbol} {ts : List Token} {Q : Type 0} → StandsAll Stands (AUnary ∷ Prods n ∷ Sums m ∷ Compare ∷ k) ts
    → ((x : Cmp) (vs : List Token) → StandsAll Stands k vs → ts ≡ cmp_text x ++ vs → Q) → Q
with_cmp s f = with_sum s (λ x vs r e. with_part r (λ us ws h r' e'. let y = h x in f y.0 ws r' (rw (e, e', y.1) (sym (append_assoc _ us ws)))))

with_and : {n m i : ℕ} {k : List Symbol} {ts : List Token} {Q : Type 0} → StandsAll Stands (AUnary ∷ Prods n ∷ Sums m ∷ Compare ∷ Ands i ∷ k) ts
    → ((x : And) (vs : List Token) → StandsAll Stands k vs → ts ≡ and_text x ++ vs → Q) → Q
with_and s f = with_cmp s (λ x vs r e. with_part r (λ us ws h r' e'. let y = h (one_cmp x) in f y.0 ws r' (rw (e, e', y.1) (sym (append_assoc _ us ws)))))

with_expr : {k : List Symbol} {ts : List Token} {Q : Type 0} → StandsAll Stands (an_expr k) ts
    → ((x : Expr) (vs : List Token) → StandsAll Stands k vs → ts ≡ expr_text x ++ vs → Q) → Q
with_expr s f = with_and s (λ x vs r e. with_part r (λ us ws h r' e'. let y = h (one_and x) in f y.0 ws r' (rw (e, e', y.1) (sym (append_assoc _ us ws)))))

with_exprs : {k : List Symbol} {ts : List Token} {Q : Type 0} → StandsAll Stands (exprs k) ts
    → ((x : Exprs) (vs : List Token) → StandsAll Stands k vs → ts ≡ exprs_text x ++ vs → Q) → Q
with_exprs s f = with_expr s (λ x vs r e. with_part r (λ us ws h r' e'. let y = h x in f y.0 ws r' (rw (e, e', y.1) (sym (append_assoc _ us ws)))))

pub end_of : {ts : List Token} → StandsAll Stands [] ts → ts ≡ []
end_of nothing = refl

ended : {us vs ts : List Token} → ts ≡ us ++ vs → StandsAll Stands [] vs → ts ≡ us
ended e r = e ∙ rw (end_of r) (append-nil _)

-- all of the tokens are those of the last part
pub single : {x : Symbol} {ts : List Token} → StandsAll Stands (x ∷ []) ts → Stands x ts
single {x = x} (first_then {us = us} u nothing) = rw append-nil u

-- the same terminal

abbrev terminals : List Terminal
terminals = t.Def ∷ t.Return ∷ t.If ∷ t.Else ∷ t.For ∷ t.In ∷ t.Forget ∷ t.Phase ∷ t.Const ∷ t.Qfree
    ∷ t.Mfree ∷ t.Lifted ∷ t.True ∷ t.False ∷ t.Pi ∷ t.Bit ∷ t.Natural ∷ t.UInt ∷ t.Int ∷ t.Becomes
    ∷ t.AddTo ∷ t.SubtractFrom ∷ t.XorTo ∷ t.Equal ∷ t.NotEqual ∷ t.AtMost ∷ t.AtLeast ∷ t.Below ∷ t.Above ∷ t.And
    ∷ t.Or ∷ t.Dots ∷ t.LeftParen ∷ t.RightParen ∷ t.LeftBracket ∷ t.RightBracket ∷ t.LeftBrace ∷ t.RightBrace ∷ t.Comma ∷ t.Semicolon
    ∷ t.Colon ∷ t.Is ∷ t.Bang ∷ t.Plus ∷ t.Minus ∷ t.Star ∷ t.Slash ∷ t.Caret ∷ t.Times ∷ []

numbered : (s : Terminal) → item terminals (number_of s) ≡ Some s
numbered t.Def = refl
numbered t.Return = refl
numbered t.If = refl
numbered t.Else = refl
numbered t.For = refl
numbered t.In = refl
numbered t.Forget = refl
numbered t.Phase = refl
numbered t.Const = refl
numbered t.Qfree = refl
numbered t.Mfree = refl
numbered t.Lifted = refl
numbered t.True = refl
numbered t.False = refl
numbered t.Pi = refl
numbered t.Bit = refl
numbered t.Natural = refl
numbered t.UInt = refl
numbered t.Int = refl
numbered t.Becomes = refl
numbered t.AddTo = refl
numbered t.SubtractFrom = refl
numbered t.XorTo = refl
numbered t.Equal = refl
numbered t.NotEqual = refl
numbered t.AtMost = refl
numbered t.AtLeast = refl
numbered t.Below = refl
numbered t.Above = refl
numbered t.And = refl
numbered t.Or = refl
numbered t.Dots = refl
numbered t.LeftParen = refl
numbered t.RightParen = refl
numbered t.LeftBracket = refl
numbered t.RightBracket = refl
numbered t.LeftBrace = refl
numbered t.RightBrace = refl
numbered t.Comma = refl
numbered t.Semicolon = refl
numbered t.Colon = refl
numbered t.Is = refl
numbered t.Bang = refl
numbered t.Plus = refl
numbered t.Minus = refl
numbered t.Star = refl
numbered t.Slash = refl
numbered t.Caret = refl
numbered t.Times = refl

same_is : (s u : Terminal) → same_terminal s u ≡ true → s ≡ u
same_is s u e =
    let h : number_of s ≡ number_of u = grind (arith, e) in
    let i : Some s ≡ Some u = sym (numbered s) ∙ ap (item terminals) h ∙ numbered u in
    cc

rule_expect : (s u : Terminal) (at : Spot) (ts : List Token) (b : Bool) → same_terminal s u ≡ b → RuleStands table kind Stands (cond b (Some []) None) (Expect s) (Fixed u at) ts
rule_expect s u at ts true e = λ r. (at, rw (same_is s u e, end_of r) refl)
rule_expect s u at ts false e = tt

rule_closing : (s u : Terminal) (at : Spot) (ts : List Token) (b : Bool) → same_terminal s u ≡ b → RuleStands table kind Stands (cond b (Some []) None) (Closing s) (Fixed u at) ts
rule_closing s u at ts true e = λ r. (at, rw (same_is s u e, end_of r) refl)
rule_closing s u at ts false e = tt

-- a unary expression with its first token

abbrev Begun : Symbol → Option (List Symbol) → List Symbol → Token → List Token → Type 0
Begun x None k w ts = Unit {0}
Begun x (Some ys) k w ts = StandsAll Stands ys ts → StandsAll Stands (x ∷ k) (w ∷ ts)

before : {x : Symbol} {k : List Symbol} {ts : List Token} (us vs : List Token) → Stands x us → StandsAll Stands k vs → ts ≡ us ++ vs → StandsAll Stands (x ∷ k) ts
before us vs s r e = rw e (first_then {us = us} {vs = vs} s r)

begun : (k : List Symbol) (w : Token) (ts : List Token) → Begun AUnary (begin_unary k (kind w)) k w ts
begun k (Name n s) ts = λ r. with_part r (λ us vs f q e. before (Name n s ∷ us) vs (f n s) q (ap (λ w. Name n s ∷ w) e))
begun k (Number v s) ts = λ r. with_part r (λ us vs f q e. before (Number v s ∷ us) vs (f v s) q (ap (λ w. Number v s ∷ w) e))
begun k (Fixed t.True s) ts = λ r. before (Fixed t.True s ∷ []) ts (true_ s, refl) r refl
begun k (Fixed t.False s) ts = λ r. before (Fixed t.False s ∷ []) ts (false_ s, refl) r refl
begun k (Fixed t.Pi s) ts = λ r. before (Fixed t.Pi s ∷ []) ts (pi s, refl) r refl
begun k (Fixed t.LeftParen l) ts = λ r. with_exprs r (λ es vs q e. with_close q (λ at ws z e'.
    before (Fixed t.LeftParen l ∷ (exprs_text es ++ (Fixed t.RightParen at ∷ []))) ws (paren l es at, refl) z
    (ap (λ w. Fixed t.LeftParen l ∷ w) (rw (e, e') (sym (append_assoc (exprs_text es) (Fixed t.RightParen at ∷ []) ws))))))
begun k (Fixed t.Bang s) ts = λ r. with_unary r (λ u vs q e. with_ends q (λ z.
    before (Fixed t.Bang s ∷ unary_text u) vs (bang s u, refl) z (ap (λ w. Fixed t.Bang s ∷ w) e)))
begun k (Fixed t.Minus s) ts = λ r. with_unary r (λ u vs q e. with_ends q (λ z.
    before (Fixed t.Minus s ∷ unary_text u) vs (negative s u, refl) z (ap (λ w. Fixed t.Minus s ∷ w) e)))
begun k _ ts = tt

as_unary : (o : Option (List Symbol)) (w : Token) (ts : List Token) → Begun AUnary o [] w ts → RuleStands table kind Stands o AUnary w ts
as_unary None w ts b = tt
as_unary (Some ys) w ts b = λ r. single (b r)

as_return : (o : Option (List Symbol)) (w : Token) (ts : List Token) → Begun AUnary o (chains []) w ts → RuleStands table kind Stands o ReturnValue w ts
as_return None w ts b = tt
as_return (Some ys) w ts b = λ r s end. with_expr (b r) (λ x vs q e. (return_value s x end, ap (λ v. Fixed t.Return s ∷ (v ++ (Fixed t.Semicolon end ∷ []))) (sym (ended e q))))

as_arguments : (o : Option (List Symbol)) (w : Token) (ts : List Token) → Begun AUnary o (chains (MoreExprs ∷ [])) w ts → RuleStands table kind Stands o Arguments w ts
as_arguments None w ts b = tt
as_arguments (Some ys) w ts b = λ r. with_exprs (b r) (λ x vs q e. (args x, rw (e, end_of q, append-nil) refl))

begun_scalar : (k : List Symbol) (w : Token) (ts : List Token) → Begun AScalar (begin_scalar k (kind w)) k w ts
begun_scalar k (Fixed t.Bit s) ts = λ r. before (Fixed t.Bit s ∷ []) ts (bit s, refl) r refl
begun_scalar k (Fixed t.UInt s) ts = λ r. with_part r (λ us vs p q e.
    before (Fixed t.UInt s ∷ us) vs (uint s p.0 p.1 p.2, ap (λ w. Fixed t.UInt s ∷ w) (sym p.3)) q (ap (λ w. Fixed t.UInt s ∷ w) e))
begun_scalar k (Fixed t.Int s) ts = λ r. with_part r (λ us vs p q e.
    before (Fixed t.Int s ∷ us) vs (int s p.0 p.1 p.2, ap (λ w. Fixed t.Int s ∷ w) (sym p.3)) q (ap (λ w. Fixed t.Int s ∷ w) e))
begun_scalar k _ ts = tt

as_scalar : (o : Option (List Symbol)) (w : Token) (ts : List Token) → Begun AScalar o [] w ts → RuleStands table kind Stands o AScalar w ts
as_scalar None w ts b = tt
as_scalar (Some ys) w ts b = λ r. single (b r)

as_type : (o : Option (List Symbol)) (w : Token) (ts : List Token) → Begun AScalar o (SizePart ∷ []) w ts → RuleStands table kind Stands o AType w ts
as_type None w ts b = tt
as_type (Some ys) w ts b = λ r. with_scalar (b r) (λ x vs q e. let n = single q in (quantum x n.0, rw (e, n.1) refl))

begun_param : (k : List Symbol) (w : Token) (ts : List Token) → Begun OneParam (begin_param k (kind w)) k w ts
begun_param k (Name n s) ts = λ r. with_sign r (λ c vs q e. with_type q (λ ty ws z e'.
    before (Name n s ∷ Fixed t.Colon c ∷ type_text ty) ws (moved n s c ty, refl) z (rw (e, e') refl)))
begun_param k (Fixed t.Const d) ts = λ r. with_name r (λ n s us p e. with_sign p (λ c vs q e'. with_type q (λ ty ws z e''.
    before (Fixed t.Const d ∷ Name n s ∷ Fixed t.Colon c ∷ type_text ty) ws (held d n s c ty, refl) z (rw (e, e', e'') refl))))
begun_param k _ ts = tt

as_param : (o : Option (List Symbol)) (w : Token) (ts : List Token) → Begun OneParam o [] w ts → RuleStands table kind Stands o OneParam w ts
as_param None w ts b = tt
as_param (Some ys) w ts b = λ r. single (b r)

as_params : (o : Option (List Symbol)) (w : Token) (ts : List Token) → Begun OneParam o (MoreParams ∷ []) w ts → RuleStands table kind Stands o Params w ts
as_params None w ts b = tt
as_params (Some ys) w ts b = λ r l end. with_param (b r) (λ x vs q e. let ps = single q x in (params l ps.0 end, ap (λ v. Fixed t.LeftParen l ∷ (v ++ (Fixed t.RightParen end ∷ []))) (ps.1 ∙ sym e)))

-- a value with its sign: the statement, for any place
abbrev BegunValue : Option (List Symbol) → Token → List Token → Type 0
BegunValue None w ts = Unit {0}
BegunValue (Some ys) w ts = StandsAll Stands ys ts → (p : Place) → StmtFrom (place_text p ++ (w ∷ ts))

begun_value : (w : Token) (ts : List Token) → BegunValue (begin_value (kind w)) w ts
begun_value (Fixed t.Becomes s) ts = λ r p. with_expr r (λ x vs q e. with_sign q (λ end ws z e'. (assign p s x end, rw (e, e', end_of z) refl)))
begun_value (Fixed t.AddTo s) ts = λ r p. with_expr r (λ x vs q e. with_sign q (λ end ws z e'. (update updates.Add p s x end, rw (e, e', end_of z) refl)))
begun_value (Fixed t.SubtractFrom s) ts = λ r p. with_expr r (λ x vs q e. with_sign q (λ end ws z e'. (update updates.Sub p s x end, rw (e, e', end_of z) refl)))
begun_value (Fixed t.XorTo s) ts = λ r p. with_expr r (λ x vs q e. with_sign q (λ end ws z e'. (update updates.Xor p s x end, rw (e, e', end_of z) refl)))
begun_value _ ts = tt

as_start_name : (o : Option (List Symbol)) (w : Token) (ts : List Token) → BegunValue o w ts → RuleStands table kind Stands o StartName w ts
as_start_name None w ts b = tt
as_start_name (Some ys) w ts b = λ r n s. b r (whole n s)

as_start_index : (o : Option (List Symbol)) (w : Token) (ts : List Token) → BegunValue o w ts → RuleStands table kind Stands o StartIndex w ts
as_start_index None w ts b = tt
as_start_index (Some ys) w ts b = λ r n s l e m. let x = b r (part n s l e m) in (x.0, rw x.1 (simp append_assoc))

as_assigns : (o : Option (List Symbol)) (w : Token) (ts : List Token) → BegunValue o w ts → RuleStands table kind Stands o Assigns w ts
as_assigns None w ts b = tt
as_assigns (Some ys) w ts b = λ r p. b r p

-- a statement and those behind it
statement_then : (s : Stmt) {ts : List Token} → StandsAll Stands (Statements ∷ []) ts → Stands Statements (stmt_text s ++ ts)
statement_then s r = let b = single r in (more s b.0, ap (λ w. stmt_text s ++ w) b.1)

call_signs : (n : NameId) (s l : Spot) (e : Expr) (c : Spot) (es : Exprs) (r : Spot) {us ts : List Token} (q : Stands CallPart us) → ts ≡ exprs_text es ++ (Fixed t.RightBracket r ∷ us)
    → call_text (with_statics n s l (and_more e c es) r q.0 q.1 q.2) ≡ Name n s ∷ Fixed t.LeftBracket l ∷ (expr_text e ++ (Fixed t.Comma c ∷ ts))
call_signs n s l e c es r q h = rw (h, q.3) (simp append_assoc)

-- texts, grouped to the right

two : (a : List Token) (p q : Token) (b : List Token) (y : Token) (v : List Token) → (a ++ (p ∷ q ∷ (b ++ (y ∷ [])))) ++ v ≡ a ++ (p ∷ q ∷ (b ++ (y ∷ v)))
two a p q b y v = append_assoc a (p ∷ q ∷ (b ++ (y ∷ []))) v ∙ ap (λ w. a ++ (p ∷ q ∷ w)) (append_assoc b (y ∷ []) v)

three : (a b c v : List Token) → (a ++ (b ++ c)) ++ v ≡ a ++ (b ++ (c ++ v))
three a b c v = append_assoc a (b ++ c) v ∙ ap (λ w. a ++ w) (append_assoc b c v)

five : (a b c d e v : List Token) → (a ++ (b ++ (c ++ (d ++ e)))) ++ v ≡ a ++ (b ++ (c ++ (d ++ (e ++ v))))
five a b c d e v = append_assoc a (b ++ (c ++ (d ++ e))) v ∙ ap (λ w. a ++ w) (append_assoc b (c ++ (d ++ e)) v ∙ ap (λ w. b ++ w) (three c d e v))

spread_out : (a : List Token) (p : Token) (b : List Token) (q : Token) (c v : List Token) → (a ++ (p ∷ (b ++ (q ∷ c)))) ++ v ≡ a ++ (p ∷ (b ++ (q ∷ (c ++ v))))
spread_out a p b q c v = append_assoc a (p ∷ (b ++ (q ∷ c))) v ∙ ap (λ w. a ++ (p ∷ w)) (append_assoc b (q ∷ c) v)

looped : (a : List Token) (p : Token) (b : List Token) (q : Token) (c v : List Token) → (a ++ (p ∷ (b ++ (q ∷ c)))) ++ v ≡ (a ++ (p ∷ (b ++ (q ∷ [])))) ++ (c ++ v)
looped a p b q c v = spread_out a p b q c v ∙ sym (spread_out a p b q [] (c ++ v))

rule : (x : Symbol) (w : Token) (ts : List Token) → RuleStands table kind Stands (begin x (kind w)) x w ts
rule (Expect s) (Fixed u at) ts = rule_expect s u at ts (same_terminal s u) refl
rule (Closing s) (Fixed u at) ts = rule_closing s u at ts (same_terminal s u) refl
rule AnyName (Name n s) ts = λ r. (n, s, ap (λ w. Name n s ∷ w) (end_of r))
rule Functions (Fixed t.Def s) ts = λ r.
    with_name r (λ n a v0 r0 e0.
    with_static_part r0 (λ ss v1 r1 e1.
    with_param_part r1 (λ ps v2 r2 e2.
    with_mark r2 (λ m v3 r3 e3.
    with_result_part r3 (λ re v4 r4 e4.
    with_block r4 (λ b v5 r5 e5.
    let p = single r5 in
    (function_then (def s n a ss ps m re b) p.0, rw (e0, e1, e2, e3, e4, e5, p.1) (ap (λ w. Fixed t.Def s ∷ Name n a ∷ w) (five (static_part_text ss) (param_part_text ps) (mark_text m) (result_part_text re) (block_text b) v5)))))))))
rule StaticPart (Fixed t.LeftBracket l) ts = λ r.
    with_name r (λ n s v0 r0 e0.
    with_sign r0 (λ c v1 r1 e1.
    with_sign r1 (λ b v2 r2 e2.
    with_sign r2 (λ d v3 r3 e3.
    with_part r3 (λ us vs f r4 e4.
    with_close r4 (λ at v5 r5 e5.
    let ns = f n s c b d in
    (statics l ns.0 at, rw (e0, e1, e2, e3, e4, e5, end_of r5, ns.1) refl)))))))
rule MoreStatics (Fixed t.Comma m) ts = λ r na sa ca ba da.
    with_name r (λ n s v0 r0 e0.
    with_sign r0 (λ c v1 r1 e1.
    with_sign r1 (λ b v2 r2 e2.
    with_sign r2 (λ d v3 r3 e3.
    let ns = single r3 n s c b d in
    (and_statics na sa ca ba da m ns.0, rw (e0, e1, e2, e3, ns.1) refl)))))
rule ParamPart (Fixed t.LeftParen l) ts = λ r. with_part r (λ us vs f r1 e1. with_close r1 (λ at v2 r2 e2. rw (e1, e2, end_of r2) (f l at)))
rule Params w ts = as_params (begin_param (MoreParams ∷ []) (kind w)) w ts (begun_param (MoreParams ∷ []) w ts)
rule OneParam w ts = as_param (begin_param [] (kind w)) w ts (begun_param [] w ts)
rule MoreParams (Fixed t.Comma s) ts = λ r p. with_param r (λ x vs q e. let ps = single q x in (and_params p s ps.0, rw (e, ps.1) refl))
rule MarkPart (Fixed t.Lifted s) ts = λ r. (lifted s, rw (end_of r) refl)
rule MarkPart (Fixed t.Qfree s) ts = λ r. (qfree s, rw (end_of r) refl)
rule MarkPart (Fixed t.Mfree s) ts = λ r. (mfree s, rw (end_of r) refl)
rule ResultPart (Fixed t.Colon s) ts = λ r. with_type r (λ ty vs q e. let a = single q ty in (results s a.0, rw (e, a.1) refl))
rule MoreResults (Fixed t.Times s) ts = λ r ty. with_type r (λ x vs q e. let a = single q x in (and_types ty s a.0, rw (e, a.1) refl))
rule AType (Fixed t.Bang s) ts = λ r. with_scalar r (λ x vs q e. let n = single q in (classical s x n.0, rw (e, n.1) refl))
rule AType w ts = as_type (begin_scalar (SizePart ∷ []) (kind w)) w ts (begun_scalar (SizePart ∷ []) w ts)
rule AScalar w ts = as_scalar (begin_scalar [] (kind w)) w ts (begun_scalar [] w ts)
rule Width (Fixed t.LeftBracket l) ts = λ r. with_expr r (λ x vs q e. with_close q (λ at ws z e'. (l, x, at, rw (e, e', end_of z) refl)))
rule SizePart (Fixed t.Caret c) ts = λ r. single r c
rule ASize (Name n s) ts = λ r c. (named_size c n s, rw (end_of r) refl)
rule ASize (Number v s) ts = λ r c. (number_size c v s, rw (end_of r) refl)
rule ASize (Fixed t.LeftParen l) ts = λ r c. with_expr r (λ x vs q e. with_close q (λ at ws z e'. (paren_size c l x at, rw (e, e', end_of z) refl)))
rule ABlock (Fixed t.LeftBrace l) ts = λ r. with_stmts r (λ b vs q e. with_close q (λ at ws z e'. (braces l b at, rw (e, e', end_of z) refl)))
rule Statements (Name n s) ts = λ r. with_part r (λ us vs f q e. let x = f n s in rw (e, ap (λ w. w ++ vs) (sym x.1)) (statement_then x.0 q))
rule Statements (Fixed t.LeftParen l) ts = λ r.
    with_name r (λ n a v0 r0 e0.
    with_sign r0 (λ c v1 r1 e1.
    with_name r1 (λ m b v2 r2 e2.
    with_part r2 (λ us v3 f r3 e3.
    with_close r3 (λ d v4 r4 e4.
    with_sign r4 (λ s v5 r5 e5.
    with_expr r5 (λ x v6 r6 e6.
    with_sign r6 (λ end v7 r7 e7.
    let ns = f m b in
    let rest = statement_then (spread l n a c ns.0 d s x end) r7 in (
      rest.0,
      rw (rest.1, e0, e1, e2, e3, e4, e5, e6, e7, ns.1)
          (two (Fixed t.LeftParen l ∷ Name n a ∷ Fixed t.Comma c ∷ Name m b ∷ us) (Fixed t.RightParen d) (Fixed t.Becomes s) (expr_text x) (Fixed t.Semicolon end) v7),
    )))))))))
rule Statements (Fixed t.Forget s) ts = λ r. with_part r (λ us vs f q e. with_sign q (λ end ws z e'.
    let x = f s end in
    let rest = statement_then x.0 z in
    (rest.0, rw (rest.1, x.1, e, e') (append_assoc (Fixed t.Forget s ∷ us) (Fixed t.Semicolon end ∷ []) ws))))
rule Statements (Fixed t.Phase s) ts = λ r. with_part r (λ us vs f q e. with_sign q (λ end ws z e'.
    let x = f s end in
    let rest = statement_then x.0 z in
    (rest.0, rw (rest.1, x.1, e, e') (append_assoc (Fixed t.Phase s ∷ us) (Fixed t.Semicolon end ∷ []) ws))))
rule Statements (Fixed t.If s) ts = λ r.
    with_expr r (λ x v0 r0 e0.
    with_block r0 (λ b v1 r1 e1.
    with_part r1 (λ us v2 f r2 e2.
    let c = f s x b in
    let rest = statement_then (choose c.0) r2 in
    (rest.0, rw (rest.1, c.1, e0, e1, e2) (ap (λ w. Fixed t.If s ∷ w) (three (expr_text x) (block_text b) us v2))))))
rule Statements (Fixed t.For s) ts = λ r.
    with_name r (λ n a v0 r0 e0.
    with_sign r0 (λ i v1 r1 e1.
    with_part r1 (λ us v2 q r2 e2.
    with_block r2 (λ b v3 r3 e3.
    let rest = statement_then (loop s n a i q.0 q.1 q.2 q.3 q.4 b) r3 in (
      rest.0,
      rw (rest.1, e0, e1, e2, e3, q.5)
          (looped (Fixed t.For s ∷ Name n a ∷ Fixed t.In i ∷ Fixed t.LeftBracket q.0 ∷ expr_text q.1) (Fixed t.Dots q.2) (expr_text q.3) (Fixed t.RightParen q.4) (block_text b) v3),
    )))))
rule Statements (Fixed t.Return s) ts = λ r. with_part r (λ us vs f q e. with_sign q (λ end ws z e'.
    let x = f s end in
    let rest = statement_then x.0 z in
    (rest.0, rw (rest.1, x.1, e, e') (append_assoc (Fixed t.Return s ∷ us) (Fixed t.Semicolon end ∷ []) ws))))
rule MoreNames (Fixed t.Comma c) ts = λ r m b. with_name r (λ n s vs q e. let ns = single q n s in (and_names m b c ns.0, rw (e, ns.1) refl))
rule ForgetPart (Fixed t.LeftParen l) ts = λ r s end.
    with_name r (λ n a v0 r0 e0.
    with_part r0 (λ us v1 f r1 e1.
    with_close r1 (λ at v2 r2 e2.
    let x = f s l n a at end in
    (x.0, rw (x.1, e0, e1, e2, end_of r2) (sym (append_assoc (Fixed t.Forget s ∷ Fixed t.LeftParen l ∷ Name n a ∷ us) (Fixed t.RightParen at ∷ []) (Fixed t.Semicolon end ∷ [])))))))
rule PhasePart (Fixed t.LeftParen l) ts = λ r s end. with_expr r (λ x vs q e. with_close q (λ at ws z e'. (
  phase s l x at end,
  rw (e, e', end_of z)
      (sym (append_assoc (Fixed t.Phase s ∷ Fixed t.LeftParen l ∷ expr_text x) (Fixed t.RightParen at ∷ []) (Fixed t.Semicolon end ∷ []))),
)))
rule ForgetValue (Fixed t.Is i) ts = λ r s l n a at end. with_expr r (λ x vs q e. (forget_as s l n a i x at end, let h : ts ≡ expr_text x = ended e q in rw h refl))
rule Bounds (Fixed t.LeftBracket l) ts = λ r.
    with_expr r (λ x v0 r0 e0.
    with_sign r0 (λ d v1 r1 e1.
    with_expr r1 (λ y v2 r2 e2.
    with_close r2 (λ at v3 r3 e3.
    (l, x, d, y, at, rw (e0, e1, e2, e3, end_of r3) refl)))))
rule ReturnValue w ts = as_return (begin_unary (chains []) (kind w)) w ts (begun (chains []) w ts)
rule ElseRest (Fixed t.Else o) ts = λ r s e b. single r s e b o
rule ElseBody (Fixed t.LeftBrace l) ts = λ r s e b o. with_stmts r (λ d vs q h. with_close q (λ at ws z h'. (either s e b o (braces l d at), rw (h, h', end_of z) refl)))
rule ElseBody (Fixed t.If i) ts = λ r s e b o.
    with_expr r (λ x v0 r0 e0.
    with_block r0 (λ d v1 r1 e1.
    with_part r1 (λ us v2 f r2 e2.
    with_ends r2 (λ r3.
    let c = f i x d in
    (chain s e b o c.0, rw (c.1, e0, e1, e2, end_of r3, append-nil) refl)))))
rule StartName (Fixed t.LeftBracket l) ts = λ r n s. with_expr r (λ x vs q e. rw e (single q n s l x))
rule StartName (Fixed t.LeftParen l) ts = λ r n s.
    with_args r (λ a v0 r0 e0.
    with_close r0 (λ at v1 r1 e1.
    with_sign r1 (λ end v2 r2 e2.
    (call (plain n s l a at) end, rw (e0, e1, e2, end_of r2) (append_assoc (Name n s ∷ Fixed t.LeftParen l ∷ args_text a) (Fixed t.RightParen at ∷ []) (Fixed t.Semicolon end ∷ []))))))
rule StartName w ts = as_start_name (begin_value (kind w)) w ts (begun_value w ts)
rule StartBracket (Fixed t.RightBracket d) ts = λ r n s l e. single r n s l e d
rule StartBracket (Fixed t.Comma c) ts = λ r n s l e.
    with_exprs r (λ es v0 r0 e0.
    with_close r0 (λ d v1 r1 e1.
    with_part r1 (λ us v2 q r2 e2.
    with_sign r2 (λ end v3 r3 e3. (
      call (with_statics n s l (and_more e c es) d q.0 q.1 q.2) end,
      rw (e0, e1, e2, e3, end_of r3) (ap (λ w. w ++ (Fixed t.Semicolon end ∷ [])) (call_signs n s l e c es d q refl)
          ∙ spread_out (Name n s ∷ Fixed t.LeftBracket l ∷ expr_text e) (Fixed t.Comma c) (exprs_text es) (Fixed t.RightBracket d) us (Fixed t.Semicolon end ∷ [])),
    )))))
rule StartIndex (Fixed t.LeftBracket m) ts = λ r n s l e d.
    with_expr r (λ x v0 r0 e0.
    with_close r0 (λ at v1 r1 e1.
    let y = single r1 (part_of_part n s l e d m x at) in
    (y.0, rw (y.1, e0, e1) (two (Name n s ∷ Fixed t.LeftBracket l ∷ expr_text e) (Fixed t.RightBracket d) (Fixed t.LeftBracket m) (expr_text x) (Fixed t.RightBracket at) v1))))
rule StartIndex (Fixed t.LeftParen m) ts = λ r n s l e d.
    with_args r (λ a v0 r0 e0.
    with_close r0 (λ at v1 r1 e1.
    with_sign r1 (λ end v2 r2 e2. (
      call (with_statics n s l (last e) d m a at) end,
      rw (e0, e1, e2, end_of r2)
          (two (Name n s ∷ Fixed t.LeftBracket l ∷ expr_text e) (Fixed t.RightBracket d) (Fixed t.LeftParen m) (args_text a) (Fixed t.RightParen at) (Fixed t.Semicolon end ∷ [])),
    ))))
rule StartIndex w ts = as_start_index (begin_value (kind w)) w ts (begun_value w ts)
rule Assigns w ts = as_assigns (begin_value (kind w)) w ts (begun_value w ts)
rule AUnary w ts = as_unary (begin_unary [] (kind w)) w ts (begun [] w ts)
rule (Prods n) (Fixed t.Star s) ts = λ r p. with_unary r (λ u vs q e. let x = single q (times p s u) in (x.0, rw (x.1, e) (append_assoc (prod_text p) (Fixed t.Star s ∷ unary_text u) vs)))
rule (Prods n) (Fixed t.Slash s) ts = λ r p. with_unary r (λ u vs q e. let x = single q (over p s u) in (x.0, rw (x.1, e) (append_assoc (prod_text p) (Fixed t.Slash s ∷ unary_text u) vs)))
rule (Sums n) (Fixed t.Plus s) ts = λ r a. with_prod r (λ p vs q e. let x = single q (plus a s p) in (x.0, rw (x.1, e) (append_assoc (sum_text a) (Fixed t.Plus s ∷ prod_text p) vs)))
rule (Sums n) (Fixed t.Minus s) ts = λ r a. with_prod r (λ p vs q e. let x = single q (minus a s p) in (x.0, rw (x.1, e) (append_assoc (sum_text a) (Fixed t.Minus s ∷ prod_text p) vs)))
rule Compare (Fixed t.Equal s) ts = λ r a. with_sum r (λ b vs q e. with_ends q (λ z. (compare equal a s b, rw (e, end_of z, append-nil) refl)))
rule Compare (Fixed t.NotEqual s) ts = λ r a. with_sum r (λ b vs q e. with_ends q (λ z. (compare not_equal a s b, rw (e, end_of z, append-nil) refl)))
rule Compare (Fixed t.Below s) ts = λ r a. with_sum r (λ b vs q e. with_ends q (λ z. (compare below a s b, rw (e, end_of z, append-nil) refl)))
rule Compare (Fixed t.AtMost s) ts = λ r a. with_sum r (λ b vs q e. with_ends q (λ z. (compare at_most a s b, rw (e, end_of z, append-nil) refl)))
rule Compare (Fixed t.Above s) ts = λ r a. with_sum r (λ b vs q e. with_ends q (λ z. (compare above a s b, rw (e, end_of z, append-nil) refl)))
rule Compare (Fixed t.AtLeast s) ts = λ r a. with_sum r (λ b vs q e. with_ends q (λ z. (compare at_least a s b, rw (e, end_of z, append-nil) refl)))
rule (Ands n) (Fixed t.And s) ts = λ r a. with_cmp r (λ c vs q e. let x = single q (and a s c) in (x.0, rw (x.1, e) (append_assoc (and_text a) (Fixed t.And s ∷ cmp_text c) vs)))
rule (Ors n) (Fixed t.Or s) ts = λ r e. with_and r (λ a vs q h. let x = single q (or e s a) in (x.0, rw (x.1, h) (append_assoc (expr_text e) (Fixed t.Or s ∷ and_text a) vs)))
rule NumberType (Fixed t.Colon c) ts = λ r v s. with_scalar r (λ ty vs q e. (typed_number v s c ty, rw (e, end_of q, append-nil) refl))
rule InName (Fixed t.LeftBracket l) ts = λ r n s. with_expr r (λ x vs q e. rw e (single q n s l x))
rule InName (Fixed t.LeftParen l) ts = λ r n s. with_args r (λ a vs q e. with_close q (λ at ws z e'. (called (plain n s l a at), rw (e, e', end_of z) refl)))
rule InBracket (Fixed t.RightBracket d) ts = λ r n s l e. single r n s l e d
rule InBracket (Fixed t.Comma c) ts = λ r n s l e.
    with_exprs r (λ es v0 r0 e0.
    with_close r0 (λ d v1 r1 e1.
    let q = single r1 in
    (called (with_statics n s l (and_more e c es) d q.0 q.1 q.2), call_signs n s l e c es d q (rw (e0, e1) refl))))
rule InIndex (Fixed t.LeftBracket m) ts = λ r n s l e d. with_expr r (λ x vs q h. with_close q (λ at ws z h'. (place (part_of_part n s l e d m x at), rw (h, h', end_of z) refl)))
rule InIndex (Fixed t.LeftParen m) ts = λ r n s l e d. with_args r (λ a vs q h. with_close q (λ at ws z h'. (called (with_statics n s l (last e) d m a at), rw (h, h', end_of z) refl)))
rule CallPart (Fixed t.LeftParen l) ts = λ r. with_args r (λ a vs q e. with_close q (λ at ws z e'. (l, a, at, rw (e, e', end_of z) refl)))
rule Arguments w ts = as_arguments (begin_unary (chains (MoreExprs ∷ [])) (kind w)) w ts (begun (chains (MoreExprs ∷ [])) w ts)
rule MoreExprs (Fixed t.Comma s) ts = λ r e. with_exprs r (λ es vs q h. (and_more e s es, rw (h, end_of q, append-nil) refl))
rule _ _ ts = tt

no_tokens : (x : Symbol) → can_be_empty x ≡ true → Stands x []
no_tokens Ends e = refl
no_tokens Functions e = (no_function, refl)
no_tokens StaticPart e = (no_statics, refl)
no_tokens MoreStatics e = λ n s c b d. (last_static n s c b d, refl)
no_tokens Params e = λ l r. (no_params l r, refl)
no_tokens MoreParams e = λ p. (last_param p, rw append-nil refl)
no_tokens MarkPart e = (no_mark, refl)
no_tokens ResultPart e = (no_result, refl)
no_tokens MoreResults e = λ ty. (last_type ty, rw append-nil refl)
no_tokens SizePart e = (no_size, refl)
no_tokens Statements e = (none, refl)
no_tokens MoreNames e = λ n s. (last_name n s, refl)
no_tokens ForgetValue e = λ s l n a r end. (forget s l n a r end, refl)
no_tokens ReturnValue e = λ s end. (return_nothing s end, refl)
no_tokens ElseRest e = λ s x b. (only s x b, rw append-nil refl)
no_tokens (Prods n) e = λ p. (p, rw append-nil refl)
no_tokens (Sums n) e = λ a. (a, rw append-nil refl)
no_tokens Compare e = λ a. (one_sum a, rw append-nil refl)
no_tokens (Ands n) e = λ a. (a, rw append-nil refl)
no_tokens (Ors n) e = λ x. (x, rw append-nil refl)
no_tokens NumberType e = λ v s. (number v s, refl)
no_tokens InName e = λ n s. (place (whole n s), refl)
no_tokens InIndex e = λ n s l x r. (place (part n s l x r), refl)
no_tokens Arguments e = (no_args, refl)
no_tokens MoreExprs e = λ x. (last x, rw append-nil refl)
no_tokens (Expect s) e = cc
no_tokens AnyName e = cc
no_tokens (Closing s) e = cc
no_tokens ParamPart e = cc
no_tokens OneParam e = cc
no_tokens AType e = cc
no_tokens AScalar e = cc
no_tokens Width e = cc
no_tokens ASize e = cc
no_tokens ABlock e = cc
no_tokens ForgetPart e = cc
no_tokens PhasePart e = cc
no_tokens Bounds e = cc
no_tokens ElseBody e = cc
no_tokens StartName e = cc
no_tokens StartBracket e = cc
no_tokens StartIndex e = cc
no_tokens Assigns e = cc
no_tokens AUnary e = cc
no_tokens InBracket e = cc
no_tokens CallPart e = cc

pub builds : Builds table kind Stands
builds = record { rule = rule; empty = no_tokens }
