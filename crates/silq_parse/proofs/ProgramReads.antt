-- What the functions for whole programs have read.
use Rattle.std.proofs.Common.{◌≡◌, ℕ, ◌+◌, ◌≤◌, List, [], ◌∷◌, ◌++◌, length, length-append, map, refl, sym, ◌∙◌, ap, subst, append_assoc, append-nil, arith}
use Rattle.std.proofs.lemmas.List.{map-append}
use Rattle.silq_tree.specs.declared.node.FunId.{FunId}
use Rattle.silq_tree.specs.declared.node.Spot.{Spot}
use Rattle.silq_tree.specs.Arena.{Forest, KeepsTrees, fun_at}
use Rattle.silq_grammar.specs.declared.token.Token.{Token}
use Rattle.silq_grammar.specs.declared.token.Token.TheVariants.{Fixed}
use Rattle.silq_grammar.specs.declared.token.Terminal.TheVariants as t
use Rattle.silq_grammar.specs.Grammar.{Function, Program, no_function, function_then}
use Rattle.silq_grammar.specs.Spelled.{function_text, program_text}
use Rattle.silq_grammar.specs.Trees.{function_tree, program_tree}
use Rattle.silq_grammar.specs.Outcome.{Fine, Syntax, outcome}
use Rattle.silq_parse.specs.Functions.{ReadsFunction, ReadsFunctions, AreInOrder, IsParsed}

pub no_functions : (f : Forest) (ts : List Token) (ids : List FunId) → ids ≡ [] → ReadsFunctions f f ts ids ts
no_functions f ts ids e = subst (λ w. ReadsFunctions f f ts w ts) (sym e) (record {
  derivation = no_function;
  spelled = refl;
  stands = refl;
  added = omega arith;
  numbers = tt;
  owned = λ o. o;
  bounded = record { exprs = omega arith; stmts = omega arith; funs = omega arith };
})

snoc : Program → Function → Program
snoc no_function f = function_then f no_function
snoc (function_then h p) f = function_then h (snoc p f)

snoc_text : (p : Program) (f : Function) → program_text (snoc p f) ≡ program_text p ++ function_text f
unfolding snoc
snoc_text no_function f = append-nil (function_text f)
snoc_text (function_then h p) f = ap (λ w. function_text h ++ w) (snoc_text p f) ∙ sym (append_assoc (function_text h) (program_text p) (function_text f))

snoc_tree : (p : Program) (f : Function) → program_tree (snoc p f) ≡ program_tree p ++ function_tree f ∷ []
unfolding snoc
snoc_tree no_function f = refl
snoc_tree (function_then h p) f = ap (λ w. function_tree h ∷ w) (snoc_tree p f)

in_order_snoc : (n : ℕ) (ids : List FunId) (id : FunId) → AreInOrder n ids → id.number ≡ n + length ids → AreInOrder n (ids ++ id ∷ [])
in_order_snoc n [] id o e = (omega arith, tt)
in_order_snoc n (f ∷ fs) id o e = (o.0, in_order_snoc (n + 1) fs id o.1 (omega arith))

funs_kept : {old new : Forest} (n : ℕ) (ids : List FunId) → KeepsTrees old new → AreInOrder n ids → n + length ids ≤ length old.funs → map (fun_at new) ids ≡ map (fun_at old) ids
funs_kept n [] k o l = refl
funs_kept {old} {new} n (f ∷ fs) k o l =
    let u = o.0 in
    ap (λ w. w ∷ map (fun_at new) fs) (k.funs f (omega arith)) ∙ ap (λ w. fun_at old f ∷ w) (funs_kept (n + 1) fs k o.1 (omega arith))

one_function : {old mid new : Forest} {ts r q rest : List Token} (ids : List FunId) (id : FunId) (at : Spot) → ReadsFunctions old mid ts ids r → r ≡ Fixed t.Def at ∷ q → ReadsFunction mid new (Fixed t.Def at ∷ q) id rest
    → ReadsFunctions old new ts (ids ++ id ∷ []) rest
one_function {old} {mid} {new} {ts} {r} {q} {rest} ids id at x e y = record {
  derivation = snoc x.derivation y.derivation;
  spelled = x.spelled ∙ ap (λ w. program_text x.derivation ++ w) (e ∙ y.spelled) ∙ sym (append_assoc (program_text x.derivation) (function_text y.derivation) rest)
      ∙ ap (λ w. w ++ rest) (sym (snoc_text x.derivation y.derivation));
  stands = map-append (fun_at new) ids (id ∷ [])
      ∙ ap (λ w. w ++ fun_at new id ∷ []) (funs_kept (length old.funs) ids y.trees x.numbers (omega (arith, x.added)) ∙ x.stands) ∙ ap (λ w. program_tree x.derivation ++ w ∷ []) y.stands
      ∙ sym (snoc_tree x.derivation y.derivation);
  added = let l = length-append ids (id ∷ []) in omega (arith, x.added, y.added);
  numbers = in_order_snoc (length old.funs) ids id x.numbers (y.number ∙ x.added);
  owned = λ o. y.owned (x.owned o);
  bounded =
      let l = ap length e in
      record { exprs = omega (arith, x.bounded.exprs, y.bounded.exprs); stmts = omega (arith, x.bounded.stmts, y.bounded.stmts); funs = omega (arith, x.bounded.funs, y.bounded.funs) };
}

pub next_function : {old mid new : Forest} {ts r q rest : List Token} (more : List FunId) (ids : List FunId) (id : FunId) (at : Spot) → more ≡ ids ++ id ∷ [] → ReadsFunctions old mid ts ids r
    → r ≡ Fixed t.Def at ∷ q → ReadsFunction mid new (Fixed t.Def at ∷ q) id rest → ReadsFunctions old new ts more rest
next_function {old} {mid} {new} {ts} {r} {q} {rest} more ids id at m x e y = subst (λ w. ReadsFunctions old new ts w rest) (sym m) (one_function ids id at x e y)

no_tokens : (ts : List Token) → length ts ≡ 0 → ts ≡ []
no_tokens [] e = refl
no_tokens (x ∷ ts) e = absurd (omega arith)

pub parsed : {old new : Forest} {ts rest : List Token} {ids : List FunId} → old.exprs ≡ [] → old.stmts ≡ [] → old.funs ≡ [] → ReadsFunctions old new ts ids rest → length rest ≡ 0 → IsParsed new ts ids
parsed {old} {new} {ts} {rest} {ids} a b c x r =
    let no_exprs : length old.exprs ≡ 0 = ap length a in
    let no_stmts : length old.stmts ≡ 0 = ap length b in
    let no_funs : length old.funs ≡ 0 = ap length c in
    record {
      derivation = x.derivation;
      spelled = x.spelled ∙ ap (λ w. program_text x.derivation ++ w) (no_tokens rest r) ∙ append-nil (program_text x.derivation);
      stands = x.stands;
      funs_are_all = omega (arith, x.added);
      funs_in_order = subst (λ w. AreInOrder w ids) no_funs x.numbers;
      owned = x.owned (record { exprs = λ id l. absurd (omega arith); stmts = λ id l. absurd (omega arith) });
    }

pub all_fine : (rest : List Token) → length rest ≡ 0 → outcome [] rest ≡ Fine
unfolding outcome
all_fine [] e = refl
all_fine (x ∷ ts) e = absurd (omega arith)

pub left_over : (rest : List Token) → (length rest ≡ 0 → ⊥) → outcome [] rest ≡ Syntax rest
unfolding outcome
left_over [] e = absurd (e refl)
left_over (x ∷ ts) e = refl
