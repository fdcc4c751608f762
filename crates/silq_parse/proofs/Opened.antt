-- What is expected behind a sign that opens.
use Rattle.std.proofs.Common.{◌≡◌, ◌<◌, ◌≤◌, List, ◌∷◌, ◌∙◌, ap, arith}
use Rattle.silq_tree.specs.declared.node.Spot.{Spot}
use Rattle.silq_tree.specs.declared.node.NameId.{NameId}
use Rattle.silq_grammar.specs.declared.token.Token.{Token}
use Rattle.silq_grammar.specs.declared.token.Token.TheVariants.{Name, Fixed}
use Rattle.silq_grammar.specs.declared.token.Terminal.TheVariants as t
use Rattle.silq_grammar.specs.Machine.{Symbol, Expect, Closing, Ends, Statements, ABlock, ElseBody, ElseRest, ForgetPart, AnyName, PhasePart, Bounds, ASize, ParamPart, Params, StaticPart, MoreStatics, an_expr, value, MoreNames, StartName, ReturnValue, AType, AScalar, SizePart, MoreResults, ResultPart, OneParam, MoreParams, MarkPart, Functions, nest}
use Rattle.silq_grammar.specs.Outcome.{outcome}
use Rattle.expr_parse.proofs.Passed.{taken}

pub bounds_open : (k : List Symbol) (ts r : List Token) (l : Spot) → ts ≡ Fixed t.LeftBracket l ∷ r → nest k < 64
    → outcome (Bounds ∷ k) ts ≡ outcome (an_expr (Expect t.Dots ∷ an_expr (Closing t.RightParen ∷ k))) r
unfolding outcome
bounds_open k ts r l e h = ap (λ w. outcome (Bounds ∷ k) w) e ∙ taken (an_expr (Expect t.Dots ∷ an_expr (Closing t.RightParen ∷ k))) (Fixed t.LeftBracket l ∷ r) _ (omega arith)

pub block_open : (k : List Symbol) (ts r : List Token) (l : Spot) → ts ≡ Fixed t.LeftBrace l ∷ r → nest k < 64 → outcome (ABlock ∷ k) ts ≡ outcome (Statements ∷ Closing t.RightBrace ∷ k) r
unfolding outcome
block_open k ts r l e h = ap (λ w. outcome (ABlock ∷ k) w) e ∙ taken (Statements ∷ Closing t.RightBrace ∷ k) (Fixed t.LeftBrace l ∷ r) _ (omega arith)

pub else_block_open : (k : List Symbol) (ts r : List Token) (l : Spot) → ts ≡ Fixed t.LeftBrace l ∷ r → nest k < 64 → outcome (ElseBody ∷ k) ts ≡ outcome (Statements ∷ Closing t.RightBrace ∷ k) r
unfolding outcome
else_block_open k ts r l e h = ap (λ w. outcome (ElseBody ∷ k) w) e ∙ taken (Statements ∷ Closing t.RightBrace ∷ k) (Fixed t.LeftBrace l ∷ r) _ (omega arith)

pub else_choice_open : (k : List Symbol) (ts r : List Token) (l : Spot) → ts ≡ Fixed t.If l ∷ r → nest k < 64 → outcome (ElseBody ∷ k) ts ≡ outcome (an_expr (ABlock ∷ ElseRest ∷ Ends ∷ k)) r
unfolding outcome
else_choice_open k ts r l e h = ap (λ w. outcome (ElseBody ∷ k) w) e ∙ taken (an_expr (ABlock ∷ ElseRest ∷ Ends ∷ k)) (Fixed t.If l ∷ r) _ (omega arith)

pub name_begins : (k : List Symbol) (ts r : List Token) (m : NameId) (s : Spot) → ts ≡ Name m s ∷ r → nest k ≤ 64 → outcome (Statements ∷ k) ts ≡ outcome (StartName ∷ Statements ∷ k) r
unfolding outcome
name_begins k ts r m s e h = ap (λ w. outcome (Statements ∷ k) w) e ∙ taken (StartName ∷ Statements ∷ k) (Name m s ∷ r) _ (omega arith)

pub spread_begins : (k : List Symbol) (ts r : List Token) (s : Spot) → ts ≡ Fixed t.LeftParen s ∷ r → nest k < 64 → outcome (Statements ∷ k) ts ≡ outcome (AnyName ∷ Expect t.Comma ∷ AnyName ∷ MoreNames ∷ Closing t.RightParen ∷ Expect t.Becomes ∷ value (Statements ∷ k)) r
unfolding outcome
spread_begins k ts r s e h = ap (λ w. outcome (Statements ∷ k) w) e ∙ taken (AnyName ∷ Expect t.Comma ∷ AnyName ∷ MoreNames ∷ Closing t.RightParen ∷ Expect t.Becomes ∷ value (Statements ∷ k)) (Fixed t.LeftParen s ∷ r) _ (omega arith)

pub forget_begins : (k : List Symbol) (ts r : List Token) (s : Spot) → ts ≡ Fixed t.Forget s ∷ r → nest k ≤ 64 → outcome (Statements ∷ k) ts ≡ outcome (ForgetPart ∷ Expect t.Semicolon ∷ Statements ∷ k) r
unfolding outcome
forget_begins k ts r s e h = ap (λ w. outcome (Statements ∷ k) w) e ∙ taken (ForgetPart ∷ Expect t.Semicolon ∷ Statements ∷ k) (Fixed t.Forget s ∷ r) _ (omega arith)

pub phase_begins : (k : List Symbol) (ts r : List Token) (s : Spot) → ts ≡ Fixed t.Phase s ∷ r → nest k ≤ 64 → outcome (Statements ∷ k) ts ≡ outcome (PhasePart ∷ Expect t.Semicolon ∷ Statements ∷ k) r
unfolding outcome
phase_begins k ts r s e h = ap (λ w. outcome (Statements ∷ k) w) e ∙ taken (PhasePart ∷ Expect t.Semicolon ∷ Statements ∷ k) (Fixed t.Phase s ∷ r) _ (omega arith)

pub choice_begins : (k : List Symbol) (ts r : List Token) (s : Spot) → ts ≡ Fixed t.If s ∷ r → nest k ≤ 64 → outcome (Statements ∷ k) ts ≡ outcome (an_expr (ABlock ∷ ElseRest ∷ Statements ∷ k)) r
unfolding outcome
choice_begins k ts r s e h = ap (λ w. outcome (Statements ∷ k) w) e ∙ taken (an_expr (ABlock ∷ ElseRest ∷ Statements ∷ k)) (Fixed t.If s ∷ r) _ (omega arith)

pub loop_begins : (k : List Symbol) (ts r : List Token) (s : Spot) → ts ≡ Fixed t.For s ∷ r → nest k ≤ 64 → outcome (Statements ∷ k) ts ≡ outcome (AnyName ∷ Expect t.In ∷ Bounds ∷ ABlock ∷ Statements ∷ k) r
unfolding outcome
loop_begins k ts r s e h = ap (λ w. outcome (Statements ∷ k) w) e ∙ taken (AnyName ∷ Expect t.In ∷ Bounds ∷ ABlock ∷ Statements ∷ k) (Fixed t.For s ∷ r) _ (omega arith)

pub return_begins : (k : List Symbol) (ts r : List Token) (s : Spot) → ts ≡ Fixed t.Return s ∷ r → nest k ≤ 64 → outcome (Statements ∷ k) ts ≡ outcome (ReturnValue ∷ Expect t.Semicolon ∷ Statements ∷ k) r
unfolding outcome
return_begins k ts r s e h = ap (λ w. outcome (Statements ∷ k) w) e ∙ taken (ReturnValue ∷ Expect t.Semicolon ∷ Statements ∷ k) (Fixed t.Return s ∷ r) _ (omega arith)

pub size_open : (k : List Symbol) (ts r : List Token) (s : Spot) → ts ≡ Fixed t.LeftParen s ∷ r → nest k < 64 → outcome (ASize ∷ k) ts ≡ outcome (an_expr (Closing t.RightParen ∷ k)) r
unfolding outcome
size_open k ts r s e h = ap (λ w. outcome (ASize ∷ k) w) e ∙ taken (an_expr (Closing t.RightParen ∷ k)) (Fixed t.LeftParen s ∷ r) _ (omega arith)

pub params_open : (k : List Symbol) (ts r : List Token) (s : Spot) → ts ≡ Fixed t.LeftParen s ∷ r → nest k < 64 → outcome (ParamPart ∷ k) ts ≡ outcome (Params ∷ Closing t.RightParen ∷ k) r
unfolding outcome
params_open k ts r s e h = ap (λ w. outcome (ParamPart ∷ k) w) e ∙ taken (Params ∷ Closing t.RightParen ∷ k) (Fixed t.LeftParen s ∷ r) _ (omega arith)

pub statics_open : (k : List Symbol) (ts r : List Token) (s : Spot) → ts ≡ Fixed t.LeftBracket s ∷ r → nest k < 64 → outcome (StaticPart ∷ k) ts ≡ outcome (AnyName ∷ Expect t.Colon ∷ Expect t.Bang ∷ Expect t.Natural ∷ MoreStatics ∷ Closing t.RightBracket ∷ k) r
unfolding outcome
statics_open k ts r s e h = ap (λ w. outcome (StaticPart ∷ k) w) e ∙ taken (AnyName ∷ Expect t.Colon ∷ Expect t.Bang ∷ Expect t.Natural ∷ MoreStatics ∷ Closing t.RightBracket ∷ k) (Fixed t.LeftBracket s ∷ r) _ (omega arith)

pub more_statics_open : (k : List Symbol) (ts r : List Token) (s : Spot) → ts ≡ Fixed t.Comma s ∷ r → nest k ≤ 64 → outcome (MoreStatics ∷ k) ts ≡ outcome (AnyName ∷ Expect t.Colon ∷ Expect t.Bang ∷ Expect t.Natural ∷ MoreStatics ∷ k) r
unfolding outcome
more_statics_open k ts r s e h = ap (λ w. outcome (MoreStatics ∷ k) w) e ∙ taken (AnyName ∷ Expect t.Colon ∷ Expect t.Bang ∷ Expect t.Natural ∷ MoreStatics ∷ k) (Fixed t.Comma s ∷ r) _ (omega arith)

pub results_open : (k : List Symbol) (ts r : List Token) (s : Spot) → ts ≡ Fixed t.Colon s ∷ r → nest k ≤ 64 → outcome (ResultPart ∷ k) ts ≡ outcome (AType ∷ MoreResults ∷ k) r
unfolding outcome
results_open k ts r s e h = ap (λ w. outcome (ResultPart ∷ k) w) e ∙ taken (AType ∷ MoreResults ∷ k) (Fixed t.Colon s ∷ r) _ (omega arith)

pub more_results_open : (k : List Symbol) (ts r : List Token) (s : Spot) → ts ≡ Fixed t.Times s ∷ r → nest k ≤ 64 → outcome (MoreResults ∷ k) ts ≡ outcome (AType ∷ MoreResults ∷ k) r
unfolding outcome
more_results_open k ts r s e h = ap (λ w. outcome (MoreResults ∷ k) w) e ∙ taken (AType ∷ MoreResults ∷ k) (Fixed t.Times s ∷ r) _ (omega arith)

pub more_params_open : (k : List Symbol) (ts r : List Token) (s : Spot) → ts ≡ Fixed t.Comma s ∷ r → nest k ≤ 64 → outcome (MoreParams ∷ k) ts ≡ outcome (OneParam ∷ MoreParams ∷ k) r
unfolding outcome
more_params_open k ts r s e h = ap (λ w. outcome (MoreParams ∷ k) w) e ∙ taken (OneParam ∷ MoreParams ∷ k) (Fixed t.Comma s ∷ r) _ (omega arith)

pub moved_open : (k : List Symbol) (ts r : List Token) (m : NameId) (s : Spot) → ts ≡ Name m s ∷ r → nest k ≤ 64 → outcome (OneParam ∷ k) ts ≡ outcome (Expect t.Colon ∷ AType ∷ k) r
unfolding outcome
moved_open k ts r m s e h = ap (λ w. outcome (OneParam ∷ k) w) e ∙ taken (Expect t.Colon ∷ AType ∷ k) (Name m s ∷ r) _ (omega arith)

pub held_open : (k : List Symbol) (ts r : List Token) (s : Spot) → ts ≡ Fixed t.Const s ∷ r → nest k ≤ 64 → outcome (OneParam ∷ k) ts ≡ outcome (AnyName ∷ Expect t.Colon ∷ AType ∷ k) r
unfolding outcome
held_open k ts r s e h = ap (λ w. outcome (OneParam ∷ k) w) e ∙ taken (AnyName ∷ Expect t.Colon ∷ AType ∷ k) (Fixed t.Const s ∷ r) _ (omega arith)

pub function_begins : (k : List Symbol) (ts r : List Token) (s : Spot) → ts ≡ Fixed t.Def s ∷ r → nest k ≤ 64 → outcome (Functions ∷ k) ts ≡ outcome (AnyName ∷ StaticPart ∷ ParamPart ∷ MarkPart ∷ ResultPart ∷ ABlock ∷ Functions ∷ k) r
unfolding outcome
function_begins k ts r s e h = ap (λ w. outcome (Functions ∷ k) w) e ∙ taken (AnyName ∷ StaticPart ∷ ParamPart ∷ MarkPart ∷ ResultPart ∷ ABlock ∷ Functions ∷ k) (Fixed t.Def s ∷ r) _ (omega arith)

pub bang_there : (k : List Symbol) (ts r : List Token) (s : Spot) → ts ≡ Fixed t.Bang s ∷ r → nest k ≤ 64 → outcome (AType ∷ k) ts ≡ outcome (AScalar ∷ SizePart ∷ k) r
unfolding outcome
bang_there k ts r s e h = ap (λ w. outcome (AType ∷ k) w) e ∙ taken (AScalar ∷ SizePart ∷ k) (Fixed t.Bang s ∷ r) _ (omega arith)

pub params_end : (k : List Symbol) (ts r : List Token) (s : Spot) → ts ≡ Fixed t.RightParen s ∷ r → nest k ≤ 64 → outcome (Params ∷ Closing t.RightParen ∷ k) ts ≡ outcome k r
unfolding outcome
params_end k ts r s e h = ap (λ w. outcome (Params ∷ Closing t.RightParen ∷ k) w) e ∙ taken k (Fixed t.RightParen s ∷ r) _ (omega arith)
