-- The tokens of headers and of programs.
use Rattle.std.proofs.Common.{◌≡◌, ℕ, ℤ, zero, suc, ◌+◌, ◌<◌, ◌≤◌, drop, get_or, length, map, Bool, true, false, ◌&&◌, List, [], ◌∷◌, ◌++◌, Option, Some, None, refl, sym, ◌∙◌, ap, subst, append-nil, drop-cons, add-one, arith}
use Rattle.std.specs.Prelude.{option_map, is_some, flat_map}
use Rattle.silq_tree.specs.declared.node.NameId.{NameId}
use Rattle.silq_tree.specs.declared.node.ExprId.{ExprId}
use Rattle.silq_tree.specs.declared.node.FunId.{FunId}
use Rattle.silq_tree.specs.declared.node.Spot.{Spot}
use Rattle.silq_tree.specs.declared.node.TypeNode.{TypeNode}
use Rattle.silq_tree.specs.declared.node.ParamNode.{ParamNode}
use Rattle.silq_tree.specs.Children.{AreExprsBelow}
use Rattle.silq_tree.proofs.Lists.{exprs_below_front, exprs_below_back}
use Rattle.silq_tree.specs.Syntax as tree
use Rattle.silq_tree.specs.Arena.{Forest, fun_at, program_at}
use Rattle.silq_tree.specs.declared.node.ScalarNode.{ScalarNode}
use Rattle.silq_tree.specs.declared.node.Expr.TheVariants as exprs
use Rattle.silq_tree.specs.Standing.{expr_grown, part_of, scalar_of, sized, type_of, param_of}
use Rattle.silq_grammar.specs.declared.token.Token.{Token}
use Rattle.silq_grammar.specs.declared.token.Token.TheVariants.{Name, Number, Fixed}
use Rattle.silq_grammar.specs.declared.token.Terminal.TheVariants as t
use Rattle.silq_grammar.specs.Spelled.{scalar_text, size_text, type_text, param_text, params_text, statics_text, static_part_text, param_part_text, mark_text, result_text, result_part_text, block_text, function_text, program_text}
use Rattle.silq_print.specs.Bare.{nowhere}
use Rattle.silq_print.specs.Derived.{scalar_in, size_in, type_in, param_in, param_part, params_of, statics_of, static_part, results_of, result_part, mark_part, block_in, function_in, derived}
use Rattle.silq_print.specs.Levels.{in_parens_if}
use Rattle.silq_print.specs.Styles.{scalar_by, is_sound_scalar}
use Rattle.silq_print.specs.Statements.{is_sound_block}
use Rattle.silq_print.specs.Headers.{word_if, size_part, is_sound_size, is_sound_part, is_sound_type, more_params, params_list, are_sound_params, static_text, more_statics, statics_list, more_types, types_list, are_sound_types, is_sound_function, is_sound_program}
use Rattle.silq_print.specs.Puts.{State, Puts}
use Rattle.silq_print.specs.declared.style.Style.TheVariants.{Around}
use Rattle.silq_print.proofs.Puts.{Left, puts_none, puts_both, puts_token, puts_as, puts_if}

scalar_is : (n : ℕ) (ty : tree.ScalarType) → scalar_by (Around (1 + n)) ty ≡ scalar_in n ty
scalar_is n tree.bit = refl
scalar_is n (tree.uint e) = refl
scalar_is n (tree.int e) = refl

-- a type with its length, where it has one
abbrev typed : Bool → tree.ScalarType → Option tree.Expression → Spot → tree.WrittenType
typed c ty None at = tree.scalar c ty at
typed c ty (Some e) at = tree.array c ty e at

type_is : (at : ExprId → tree.Expression) (ty : TypeNode) (o : Option ExprId) → typed ty.classical (scalar_of at ty.scalar) (option_map at o) ty.at ≡ sized at ty o
type_is at ty None = refl
type_is at ty (Some e) = refl

type_parts : (n : ℕ) (c : Bool) (ty : tree.ScalarType) (o : Option tree.Expression) (at : Spot)
    → word_if c t.Bang ++ (scalar_text (scalar_by (Around (1 + n)) ty) ++ size_part n o) ≡ type_text (type_in n (typed c ty o at))
type_parts n true ty None at = ap (λ d. Fixed t.Bang nowhere ∷ (scalar_text d ++ [])) (scalar_is n ty)
type_parts n false ty None at = ap (λ d. scalar_text d ++ []) (scalar_is n ty)
type_parts n true ty (Some e) at = ap (λ d. Fixed t.Bang nowhere ∷ (scalar_text d ++ size_text (size_in n e))) (scalar_is n ty)
type_parts n false ty (Some e) at = ap (λ d. scalar_text d ++ size_text (size_in n e)) (scalar_is n ty)

and_true : (b : Bool) → (b && true) ≡ b
and_true true = refl
and_true false = refl

type_sound : (n : ℕ) (c : Bool) (ty : tree.ScalarType) (o : Option tree.Expression) (at : Spot) → (is_sound_scalar (Around (1 + n)) ty && is_sound_part n o) ≡ is_sound_type n (typed c ty o at)
type_sound n c ty None at = and_true (is_sound_scalar (Around (1 + n)) ty)
type_sound n c ty (Some e) at = refl

param_parts : (h : Bool) (x : NameId) (ty : tree.WrittenType) (at : Spot)
    → word_if h t.Const ++ (Name x nowhere ∷ Fixed t.Colon nowhere ∷ type_text (type_in 1 ty)) ≡ param_text (param_in (record { held = h; name = x; ty = ty; at = at }))
param_parts true x ty at = refl
param_parts false x ty at = refl

params_are : (p : tree.Parameter) (ps : List tree.Parameter) → params_list (p ∷ ps) ≡ params_text (params_of (param_in p) (map param_in ps))
params_are p [] = append-nil (param_text (param_in p))
params_are p (q ∷ qs) = ap (λ w. param_text (param_in p) ++ (Fixed t.Comma nowhere ∷ w)) (params_are q qs)

param_part_is : (ps : List tree.Parameter) → in_parens_if true (params_list ps) ≡ param_part_text (param_part (map param_in ps))
param_part_is [] = refl
param_part_is (p ∷ ps) = ap (in_parens_if true) (params_are p ps)

statics_are : (x : NameId) (xs : List NameId) → static_text x ++ (more_statics xs ++ (Fixed t.RightBracket nowhere ∷ [])) ≡ statics_text (statics_of x xs) ++ (Fixed t.RightBracket nowhere ∷ [])
statics_are x [] = refl
statics_are x (y ∷ ys) = ap (λ w. static_text x ++ (Fixed t.Comma nowhere ∷ w)) (statics_are y ys)

static_part_is : (xs : List NameId) → statics_list xs ≡ static_part_text (static_part xs)
static_part_is [] = refl
static_part_is (x ∷ xs) = ap (λ w. Fixed t.LeftBracket nowhere ∷ w) (statics_are x xs)

results_are : (ty : tree.WrittenType) (tys : List tree.WrittenType) → type_text (type_in 0 ty) ++ more_types tys ≡ result_text (results_of (type_in 0 ty) (map (type_in 0) tys))
results_are ty [] = append-nil (type_text (type_in 0 ty))
results_are ty (u ∷ us) = ap (λ w. type_text (type_in 0 ty) ++ (Fixed t.Times nowhere ∷ w)) (results_are u us)

result_part_is : (tys : List tree.WrittenType) → types_list tys ≡ result_part_text (result_part (map (type_in 0) tys))
result_part_is [] = refl
result_part_is (ty ∷ tys) = ap (λ w. Fixed t.Colon nowhere ∷ w) (results_are ty tys)

drop-end : {A : Type 0} (xs : List A) (i : ℕ) → length xs ≤ i → drop i xs ≡ []
drop-end [] zero l = refl
drop-end [] (suc i) l = refl
drop-end (x ∷ xs) zero l = absurd (omega arith)
drop-end (x ∷ xs) (suc i) l = drop-end xs i (omega arith)

-- the next of a list, each of its items with these tokens
drop-map : {A B : Type 0} (f : A → B) (xs : List A) (i : ℕ) (d : A) → i < length xs → map f (drop i xs) ≡ f (get_or xs i d) ∷ map f (drop (i + 1) xs)
drop-map f xs i d l = ap (map f) (drop-cons xs i d l) ∙ ap (λ k. f (get_or xs i d) ∷ map f (drop k xs)) (sym (add-one i))

-- the expressions of one of these
pub flat_below : {A : Type 0} (n : ℕ) (f : A → List ExprId) (xs : List A) (i : ℕ) (d : A) → AreExprsBelow n (flat_map f xs) → i < length xs → AreExprsBelow n (f (get_or xs i d))
flat_below n f [] i d b l = absurd (omega arith)
flat_below n f (x ∷ xs) zero d b l = exprs_below_front n (f x) (flat_map f xs) b
flat_below n f (x ∷ xs) (suc i) d b l = flat_below n f xs i d (exprs_below_back n (f x) (flat_map f xs) b) (omega arith)

module _ {names : List (List ℕ)} where
  pub puts_type : {s m n u : State} (at : ExprId → tree.Expression) (ty : TypeNode) (k : ℕ) → Puts true names s m (word_if ty.classical t.Bang)
      → Puts (is_sound_scalar (Around (1 + k)) (scalar_of at ty.scalar)) names m n (scalar_text (scalar_by (Around (1 + k)) (scalar_of at ty.scalar)))
      → Puts (is_sound_part k (option_map at ty.size)) names n u (size_part k (option_map at ty.size))
      → Puts (is_sound_type k (type_of at ty)) names s u (type_text (type_in k (type_of at ty)))
  puts_type {s = s} {u = u} at ty k p q r =
      subst (λ w. Puts (is_sound_type k w) names s u (type_text (type_in k w))) (type_is at ty ty.size)
      (puts_if (type_sound k ty.classical (scalar_of at ty.scalar) (option_map at ty.size) ty.at)
      (puts_as (type_parts k ty.classical (scalar_of at ty.scalar) (option_map at ty.size) ty.at) (puts_both p (puts_both q r))))

  pub puts_param : {s m n o u : State} (at : ExprId → tree.Expression) (p : ParamNode) → Puts true names s m (word_if p.held t.Const) → Puts true names m n (Name p.name nowhere ∷ [])
      → Puts true names n o (Fixed t.Colon nowhere ∷ []) → Puts (is_sound_type 1 (type_of at p.ty)) names o u (type_text (type_in 1 (type_of at p.ty)))
      → Puts (is_sound_type 1 (type_of at p.ty)) names s u (param_text (param_in (param_of at p)))
  puts_param at p a b c d = puts_as (param_parts p.held p.name (type_of at p.ty) p.at) (puts_both a (puts_token b (puts_token c d)))

  pub puts_number_size : {s m u : State} (at : ExprId → tree.Expression) (n : ℕ) (v : ℤ) (ty : Option ScalarNode) (spot : Spot) → false ≡ is_some ty
      → Puts true names s m (Fixed t.Caret nowhere ∷ []) → Puts true names m u (Number v nowhere ∷ [])
      → Puts (is_sound_size n (expr_grown at (exprs.Number v ty spot))) names s u (size_text (size_in n (expr_grown at (exprs.Number v ty spot))))
  puts_number_size at n v None spot h p q = puts_token p q
  puts_number_size at n v (Some ty) spot h p q = cc

  pub puts_name_size : {s m u : State} (at : ExprId → tree.Expression) (n : ℕ) (x : NameId) (first second : Option ExprId) (spot : Spot) → false ≡ is_some first
      → Puts true names s m (Fixed t.Caret nowhere ∷ []) → Puts true names m u (Name x nowhere ∷ [])
      → Puts (is_sound_size n (tree.place (part_of at x first second) spot)) names s u (size_text (size_in n (tree.place (part_of at x first second) spot)))
  puts_name_size at n x None second spot h p q = puts_token p q
  puts_name_size at n x (Some i) None spot h p q = cc
  puts_name_size at n x (Some i) (Some j) spot h p q = cc

  -- lists

  pub first_of_params : {s m : State} (at : ExprId → tree.Expression) (ps : List ParamNode) (p : ParamNode) (rest : List ParamNode) → ps ≡ p ∷ rest
      → Puts (is_sound_type 1 (type_of at p.ty)) names s m (param_text (param_in (param_of at p)))
      → Left names s (are_sound_params (map (param_of at) ps)) (params_list (map (param_of at) ps)) m (are_sound_params (map (param_of at) rest)) (more_params (map (param_of at) rest))
  first_of_params at ps p rest e a = λ u q. rw e (puts_both a q)

  pub next_of_params : {s m n o : State} {all_sound : Bool} {all : List Token} (at : ExprId → tree.Expression) (ps : List ParamNode) (i : ℕ) (d : ParamNode) → i < length ps
      → Left names s all_sound all m (are_sound_params (map (param_of at) (drop i ps))) (more_params (map (param_of at) (drop i ps)))
      → Puts true names m n (Fixed t.Comma nowhere ∷ []) → Puts (is_sound_type 1 (type_of at (get_or ps i d).ty)) names n o (param_text (param_in (param_of at (get_or ps i d))))
      → Left names s all_sound all o (are_sound_params (map (param_of at) (drop (i + 1) ps))) (more_params (map (param_of at) (drop (i + 1) ps)))
  next_of_params at ps i d l left a b = λ u q. left u (rw (drop-map (param_of at) ps i d l) (puts_token a (puts_both b q)))

  pub end_of_params : {s m : State} {all_sound : Bool} {all : List Token} (at : ExprId → tree.Expression) (ps : List ParamNode) (i : ℕ) → length ps ≤ i
      → Left names s all_sound all m (are_sound_params (map (param_of at) (drop i ps))) (more_params (map (param_of at) (drop i ps))) → Puts all_sound names s m all
  end_of_params {m = m} at ps i l left = left m (rw (drop-end ps i l) (puts_none names m))

  pub first_of_types : {s m n : State} (at : ExprId → tree.Expression) (ps : List TypeNode) (p : TypeNode) (rest : List TypeNode) → ps ≡ p ∷ rest → Puts true names s m (Fixed t.Colon nowhere ∷ [])
      → Puts (is_sound_type 0 (type_of at p)) names m n (type_text (type_in 0 (type_of at p)))
      → Left names s (are_sound_types (map (type_of at) ps)) (types_list (map (type_of at) ps)) n (are_sound_types (map (type_of at) rest)) (more_types (map (type_of at) rest))
  first_of_types at ps p rest e a b = λ u q. rw e (puts_token a (puts_both b q))

  pub next_of_types : {s m n o : State} {all_sound : Bool} {all : List Token} (at : ExprId → tree.Expression) (ps : List TypeNode) (i : ℕ) (d : TypeNode) → i < length ps
      → Left names s all_sound all m (are_sound_types (map (type_of at) (drop i ps))) (more_types (map (type_of at) (drop i ps)))
      → Puts true names m n (Fixed t.Times nowhere ∷ []) → Puts (is_sound_type 0 (type_of at (get_or ps i d))) names n o (type_text (type_in 0 (type_of at (get_or ps i d))))
      → Left names s all_sound all o (are_sound_types (map (type_of at) (drop (i + 1) ps))) (more_types (map (type_of at) (drop (i + 1) ps)))
  next_of_types at ps i d l left a b = λ u q. left u (rw (drop-map (type_of at) ps i d l) (puts_token a (puts_both b q)))

  pub end_of_types : {s m : State} {all_sound : Bool} {all : List Token} (at : ExprId → tree.Expression) (ps : List TypeNode) (i : ℕ) → length ps ≤ i
      → Left names s all_sound all m (are_sound_types (map (type_of at) (drop i ps))) (more_types (map (type_of at) (drop i ps))) → Puts all_sound names s m all
  end_of_types {m = m} at ps i l left = left m (rw (drop-end ps i l) (puts_none names m))

  pub first_of_statics : {s m n : State} (xs : List NameId) (x : NameId) (rest : List NameId) → xs ≡ x ∷ rest → Puts true names s m (Fixed t.LeftBracket nowhere ∷ [])
      → Puts true names m n (static_text x) → Left names s true (statics_list xs) n true (more_statics rest ++ (Fixed t.RightBracket nowhere ∷ []))
  first_of_statics xs x rest e a b = λ u q. rw e (puts_token a (puts_both b q))

  pub next_of_statics : {s m n o : State} {all : List Token} (xs : List NameId) (i : ℕ) (d : NameId) → i < length xs
      → Left names s true all m true (more_statics (drop i xs) ++ (Fixed t.RightBracket nowhere ∷ []))
      → Puts true names m n (Fixed t.Comma nowhere ∷ []) → Puts true names n o (static_text (get_or xs i d))
      → Left names s true all o true (more_statics (drop (i + 1) xs) ++ (Fixed t.RightBracket nowhere ∷ []))
  next_of_statics xs i d l left a b = λ u q. left u (rw (drop-cons xs i d l) (puts_token a (puts_both b (rw (add-one i) at q))))

  pub end_of_statics : {s m u : State} {all : List Token} (xs : List NameId) (i : ℕ) → length xs ≤ i → Left names s true all m true (more_statics (drop i xs) ++ (Fixed t.RightBracket nowhere ∷ []))
      → Puts true names m u (Fixed t.RightBracket nowhere ∷ []) → Puts true names s u all
  end_of_statics {u = u} xs i l left p = left u (rw (drop-end xs i l) p)

  pub puts_function : {s a b c d e f u : State} (fun : tree.Function) → Puts true names s a (Fixed t.Def nowhere ∷ []) → Puts true names a b (Name fun.name nowhere ∷ [])
      → Puts true names b c (statics_list fun.statics) → Puts (are_sound_params fun.params) names c d (in_parens_if true (params_list fun.params))
      → Puts true names d e (mark_text (mark_part fun.mark)) → Puts (are_sound_types fun.results) names e f (types_list fun.results)
      → Puts (is_sound_block 0 fun.body) names f u (block_text (block_in 0 fun.body)) → Puts (is_sound_function fun) names s u (function_text (function_in fun))
  puts_function fun p q r h k l m =
      puts_token p (puts_token q (puts_both (puts_as (static_part_is fun.statics) r) (puts_both (puts_as (param_part_is fun.params) h) (puts_both k (puts_both (puts_as (result_part_is fun.results) l) m)))))

  pub next_of_program : {s m o : State} {all_sound : Bool} {all : List Token} (f : Forest) (ids : List FunId) (i : ℕ) (d : FunId) → i < length ids
      → Left names s all_sound all m (is_sound_program (program_at f (drop i ids))) (program_text (derived (program_at f (drop i ids))))
      → Puts (is_sound_function (fun_at f (get_or ids i d))) names m o (function_text (function_in (fun_at f (get_or ids i d))))
      → Left names s all_sound all o (is_sound_program (program_at f (drop (i + 1) ids))) (program_text (derived (program_at f (drop (i + 1) ids))))
  next_of_program f ids i d l left p = λ u q. left u (rw (drop-map (fun_at f) ids i d l) (puts_both p q))

  pub end_of_program : {s m : State} {all_sound : Bool} {all : List Token} (f : Forest) (ids : List FunId) (i : ℕ) → length ids ≤ i
      → Left names s all_sound all m (is_sound_program (program_at f (drop i ids))) (program_text (derived (program_at f (drop i ids)))) → Puts all_sound names s m all
  end_of_program {m = m} f ids i l left = left m (rw (drop-end ids i l) (puts_none names m))
