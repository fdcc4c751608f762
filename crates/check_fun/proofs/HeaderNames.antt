-- The headers of a program one after another.
use Rattle.std.specs.Prelude.{◌≡◌, refl, ℕ, zero, suc, ◌+◌, ◌<◌, ◌≤◌, Bool, true, false, not, cond, ◌||◌, List, [], ◌∷◌, length, drop, map, get_or, Option, Some, None, is_some, IfSome, Result, Ok, Err}
use Rattle.std.proofs.Math.Seq.{drop-cons}
use Rattle.std.proofs.lemmas.List.{length-map}
use mathlib.Core.Path.{sym, ap, ◌∙◌, subst}
use native.Mathlib.Omega.{arith}
use Rattle.silq_tree.specs.declared.node.NameId.{NameId}
use Rattle.silq_tree.specs.Arena.{nothing, fun_at}
use Rattle.silq_tree.specs.Syntax.{Function, Parameter}
use Rattle.silq_types.specs.Rules.{Fault, rule, and_then}
use Rattle.silq_types.specs.Types.{same_name}
use Rattle.silq_types.specs.declared.built_in.BuiltIn.{BuiltIn}
use Rattle.check_scope.specs.Library.{Shelf, functions_of, function_at}
use Rattle.check_fun.specs.Program.{repeats, shares_name, param_names, header_names, all_headers}
use Rattle.check_fun.specs.Statement.{any_name}
use Rattle.silq_types.specs.Calls.{built_in}
use Rattle.check_fun.proofs.Taken.{Agree}

-- the four tests on the names of a header
abbrev pub header_by : Bool → Bool → Bool → Bool → Function → Result (Unit {0}) Fault
header_by built taken twice shared f = cond (built || taken || twice || shared) (Err (rule 2 f.at)) (param_names [] f.params)

pub header_agrees : (words : List (NameId × BuiltIn)) (set names : List NameId) (f : Function) → Agree set names → header_names words set f ≡ header_names words names f
header_agrees words set names f agree = ap (λ b. header_by (is_some (built_in words f.name)) b (repeats f.statics) (shares_name f.statics f.params) f) (agree f.name)

pub functions_length : (l : Shelf) → length (functions_of l) ≡ length l.funs
functions_length l = length-map l.funs (fun_at l.nodes)

module _ (l : Shelf) (n : ℕ) (set earlier : List NameId) where
  step : n < length l.funs → all_headers l.words earlier (drop n (functions_of l))
      ≡ and_then (header_names l.words earlier (function_at l n)) (λ u. all_headers l.words ((function_at l n).name ∷ earlier) (drop (suc n) (functions_of l)))
  step lt = ap (λ fs. all_headers l.words earlier fs) (drop-cons (functions_of l) n nothing (subst (λ k. n < k) (sym (functions_length l)) lt))

  pub headers_on : (now : List NameId) → n < length l.funs → Agree set earlier → all_headers l.words [] (functions_of l) ≡ all_headers l.words earlier (drop n (functions_of l))
      → header_names l.words set (function_at l n) ≡ Ok tt
      → ((x : NameId) → any_name (λ y. same_name y x) now ≡ (same_name (function_at l n).name x || any_name (λ y. same_name y x) set))
      → (names : List NameId) × Agree now names × (all_headers l.words [] (functions_of l) ≡ all_headers l.words names (drop (n + 1) (functions_of l)))
  headers_on now lt agree inv ok grown =
      let next : suc n ≡ n + 1 = omega arith in (
        (function_at l n).name ∷ earlier,
        (λ x. grown x ∙ ap (λ b. same_name (function_at l n).name x || b) (agree x)),
        inv ∙ step lt ∙ ap (λ r. and_then r (λ u. all_headers l.words ((function_at l n).name ∷ earlier) (drop (suc n) (functions_of l)))) (sym (header_agrees l.words set earlier (function_at l n) agree) ∙ ok)
            ∙ ap (λ k. all_headers l.words ((function_at l n).name ∷ earlier) (drop k (functions_of l))) next,
      )

  pub headers_stop : (o : Option Fault) → n < length l.funs → Agree set earlier → all_headers l.words [] (functions_of l) ≡ all_headers l.words earlier (drop n (functions_of l))
      → IfSome o (λ first. header_names l.words set (function_at l n) ≡ Err first) → IfSome o (λ first. all_headers l.words [] (functions_of l) ≡ Err first)
  headers_stop (Some first) lt agree inv e =
      inv ∙ step lt ∙ ap (λ r. and_then r (λ u. all_headers l.words ((function_at l n).name ∷ earlier) (drop (suc n) (functions_of l)))) (sym (header_agrees l.words set earlier (function_at l n) agree) ∙ e)
  headers_stop None lt agree inv u = tt

drop_all : {A : Type 0} (xs : List A) → drop (length xs) xs ≡ []
drop_all [] = refl
drop_all (x ∷ xs) = drop_all xs

pub headers_done : (l : Shelf) (n : ℕ) (earlier : List NameId) → n ≡ length l.funs → all_headers l.words [] (functions_of l) ≡ all_headers l.words earlier (drop n (functions_of l)) → all_headers l.words [] (functions_of l) ≡ Ok tt
headers_done l n earlier e inv = inv ∙ ap (λ fs. all_headers l.words earlier fs) (ap (λ k. drop k (functions_of l)) (e ∙ sym (functions_length l)) ∙ drop_all (functions_of l))

pub shares_agree : (set names : List NameId) (ps : List Parameter) → Agree set names → shares_name set ps ≡ shares_name names ps
shares_agree set names [] agree = refl
shares_agree set names (p ∷ ps) agree = ap (λ b. b || shares_name set ps) (agree p.name) ∙ ap (λ b. any_name (λ y. same_name y p.name) names || b) (shares_agree set names ps agree)

-- the tests on the names of a header, told one by one
pub header_told : (words : List (NameId × BuiltIn)) (set : List NameId) (f g : Function) (a b c d : Bool) → f ≡ g → is_some (built_in words g.name) ≡ a
    → any_name (λ y. same_name y g.name) set ≡ b → repeats g.statics ≡ c → shares_name g.statics g.params ≡ d → header_names words set f ≡ header_by a b c d g
header_told words set f g a b c d same e1 e2 e3 e4 =
    ap (λ h. header_names words set h) same
    ∙ ap (λ x. header_by x (any_name (λ y. same_name y g.name) set) (repeats g.statics) (shares_name g.statics g.params) g) e1
    ∙ ap (λ x. header_by a x (repeats g.statics) (shares_name g.statics g.params) g) e2
    ∙ ap (λ x. header_by a b x (shares_name g.statics g.params) g) e3
    ∙ ap (λ x. header_by a b c x g) e4

pub not_told : (a b : Bool) → a ≡ not b → a ≡ true → b ≡ false
not_told a false e f = refl
not_told a true e f = absurd (grind (arith, e, f))

pub not_new : (a b : Bool) → a ≡ not b → a ≡ false → b ≡ true
not_new a true e f = refl
not_new a false e f = absurd (grind (arith, e, f))

by_one : (a b d : Bool) (f : Function) → header_by a b false d f ≡ cond (a || (b || d)) (Err (rule 2 f.at)) (param_names [] f.params)
by_one true b d f = refl
by_one false true d f = refl
by_one false false d f = refl

not_of : (new old : Bool) → new ≡ not old → old ≡ not new
not_of true false e = refl
not_of false true e = refl
not_of true true e = absurd (grind (arith, e))
not_of false false e = absurd (grind (arith, e))

-- the static names differ; `new` tells that the function's name is no earlier one
pub header_one : (words : List (NameId × BuiltIn)) (set statics : List NameId) (f g : Function) (a new d t : Bool) → f ≡ g → a ≡ is_some (built_in words g.name)
    → new ≡ not (any_name (λ y. same_name y g.name) set) → repeats g.statics ≡ false → Agree statics g.statics → d ≡ shares_name statics g.params
    → t ≡ (a || (not new || d)) → header_names words set f ≡ cond t (Err (rule 2 g.at)) (param_names [] g.params)
header_one words set statics f g a new d t same e1 e2 e3 agree e4 e5 =
    header_told words set f g a (not new) false d same (sym e1) (not_of new (any_name (λ y. same_name y g.name) set) e2) e3 (sym (e4 ∙ shares_agree statics g.statics g.params agree))
    ∙ by_one a (not new) d g ∙ ap (λ x. cond x (Err (rule 2 g.at)) (param_names [] g.params)) (sym e5)

when_true : {A : Type 0} (t : Bool) (x y : A) → t ≡ true → cond t x y ≡ x
when_true t x y e = ap (λ b. cond b x y) e

when_false : {A : Type 0} (t : Bool) (x y : A) → t ≡ false → cond t x y ≡ y
when_false t x y e = ap (λ b. cond b x y) e

pub header_broken : (words : List (NameId × BuiltIn)) (set statics : List NameId) (f g : Function) (a new d t : Bool) → f ≡ g → a ≡ is_some (built_in words g.name)
    → new ≡ not (any_name (λ y. same_name y g.name) set) → repeats g.statics ≡ false → Agree statics g.statics → d ≡ shares_name statics g.params
    → t ≡ (a || (not new || d)) → t ≡ true → header_names words set f ≡ Err (rule 2 g.at)
header_broken words set statics f g a new d t same e1 e2 e3 agree e4 e5 e =
    header_one words set statics f g a new d t same e1 e2 e3 agree e4 e5 ∙ when_true t (Err (rule 2 g.at)) (param_names [] g.params) e

pub header_rest : (words : List (NameId × BuiltIn)) (set statics : List NameId) (f g : Function) (a new d t : Bool) → f ≡ g → a ≡ is_some (built_in words g.name)
    → new ≡ not (any_name (λ y. same_name y g.name) set) → repeats g.statics ≡ false → Agree statics g.statics → d ≡ shares_name statics g.params
    → t ≡ (a || (not new || d)) → t ≡ false → (r : Result (Unit {0}) Fault) → param_names [] g.params ≡ r → header_names words set f ≡ r
header_rest words set statics f g a new d t same e1 e2 e3 agree e4 e5 e r is =
    header_one words set statics f g a new d t same e1 e2 e3 agree e4 e5 ∙ when_false t (Err (rule 2 g.at)) (param_names [] g.params) e ∙ is

-- a repeated static name
pub header_twice : (words : List (NameId × BuiltIn)) (set : List NameId) (f g : Function) → f ≡ g → repeats g.statics ≡ true → header_names words set f ≡ Err (rule 2 g.at)
header_twice words set f g same e = ap (λ h. header_names words set h) same ∙ ap (λ x. header_by (is_some (built_in words g.name)) (any_name (λ y. same_name y g.name) set) x (shares_name g.statics g.params) g) e
    ∙ twice (is_some (built_in words g.name)) (any_name (λ y. same_name y g.name) set)
  where
    twice : (a b : Bool) → header_by a b true (shares_name g.statics g.params) g ≡ Err (rule 2 g.at)
    twice true b = refl
    twice false true = refl
    twice false false = refl
