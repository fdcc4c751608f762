-- Calls, by name.
use Rattle.std.proofs.Common.{◌≡◌, ℕ, zero, suc, ◌+◌, ◌<◌, ◌≤◌, Bool, true, false, cond, List, [], ◌∷◌, length, take, reverse, Option, Some}
use Rattle.std.proofs.Common.{None, ℤ, refl, sym, ap, ◌∙◌, arith}
use Rattle.std.proofs.lemmas.List.{take_more, reverse-append, length-map, length-reverse, length-take-le}
use Rattle.silq_tree.specs.declared.node.NameId.{NameId}
use Rattle.silq_tree.specs.declared.node.ExprId.{ExprId}
use Rattle.silq_tree.specs.Arena.{expr_at, fun_at}
use Rattle.silq_tree.specs.Arena as arena
use Rattle.silq_tree.specs.Standing.{expressions_of}
use Rattle.silq_tree.specs.Syntax.{Function}
use Rattle.silq_types.specs.Types.{same_name}
use Rattle.check_scope.specs.Library.{Shelf, functions_of, function_at, before_at, found_at}
use Rattle.silq_types.specs.Programs.{paired}
use Rattle.silq_types.specs.Calls.{Found, find_fun, built_in, needs_of_found}
use Rattle.silq_types.specs.declared.need.Need.TheVariants.{Held}
use Rattle.silq_types.specs.declared.built_in.BuiltIn.{BuiltIn}
use Rattle.silq_mean.specs.declared.receiver.Receiver.TheVariants.{CallResult}
use Rattle.silq_mean.specs.Effect.{Effect, nothing, ◌>>◌, step, leave_body}
use Rattle.silq_mean.specs.Meaning.{functions, body, called, parameters_of}
use Rattle.tree_walk.specs.declared.body.Body.{Body}
use Rattle.tree_walk.specs.Seen.{seen_in, exprs_in, numbers_in, call_in, built_in_call_in, own_call_in}

-- ---- the functions before one

funs_length : (l : Shelf) → length (functions_of l) ≡ length l.funs
funs_length l = length-map l.funs (fun_at l.nodes)

pub before_length : (l : Shelf) (n : ℕ) → n ≤ length l.funs → length (before_at l n) ≡ n
before_length l n le = length-reverse (take n (functions_of l)) ∙ length-take-le n (functions_of l) (omega (arith, le, funs_length l))

before_more : (l : Shelf) (n : ℕ) → n < length l.funs → before_at l (suc n) ≡ function_at l n ∷ before_at l n
before_more l n lt =
    let one : suc n ≡ n + 1 = omega arith in
    ap (λ k. before_at l k) one
    ∙ ap reverse (take_more (functions_of l) n arena.nothing (omega (arith, lt, funs_length l)))
    ∙ reverse-append (take n (functions_of l)) (function_at l n ∷ [])

-- ---- functions by name

abbrev number_in : Option Found → ℕ
number_in None = 0
number_in (Some f) = f.number

abbrev is_found : Option Found → Bool
is_found None = false
is_found (Some f) = true

no_function : {A : Type 0} (x : Found) → None ≡ Some x → A
no_function x e = let h : false ≡ true = ap is_found e in absurd cc

pub find_below : (gs : List Function) (f : NameId) (x : Found) → find_fun gs f ≡ Some x → x.number < length gs
find_below [] f x e = no_function x e
find_below (g ∷ gs) f x e = go (same_name g.name f) (find_below gs f x) e
  where
    go : (t : Bool) → (find_fun gs f ≡ Some x → x.number < length gs) → cond t (Some (record { number = length gs; fun = g })) (find_fun gs f) ≡ Some x
        → x.number < length (g ∷ gs)
    go true h q = let n : length gs ≡ x.number = ap number_in q in omega (arith, n)
    go false h q = omega (arith, h q)

empty : {A : Type 0} (xs : List A) → length xs ≡ 0 → xs ≡ []
empty [] e = refl
empty (x ∷ xs) e = absurd (omega (arith, e))

abbrev run_of : Shelf → ℕ → List ℤ → Effect
run_of l m values =
    body l.words (before_at l m) (functions l.words (before_at l m)) CallResult (function_at l m) (paired (function_at l m).statics values) >> step leave_body

functions_at : (l : Shelf) (n m : ℕ) (f : NameId) (values : List ℤ) → n ≤ length l.funs → find_fun (before_at l n) f ≡ Some (found_at l m)
    → functions l.words (before_at l n) f values ≡ run_of l m values
functions_at l zero m f values le e =
    no_function (found_at l m) (sym (ap (λ gs. find_fun gs f) (empty (before_at l zero) (before_length l zero le))) ∙ e)
functions_at l (suc n) m f values le e =
    ap (λ gs. functions l.words gs f values) (before_more l n lt)
    ∙ go (same_name (function_at l n).name f) (functions_at l n m f values (omega (arith, le))) (sym (ap (λ gs. find_fun gs f) (before_more l n lt)) ∙ e)
  where
    lt : n < length l.funs
    lt = omega (arith, le)

    go : (t : Bool) → (find_fun (before_at l n) f ≡ Some (found_at l m) → functions l.words (before_at l n) f values ≡ run_of l m values)
        → cond t (Some (record { number = length (before_at l n); fun = function_at l n })) (find_fun (before_at l n) f) ≡ Some (found_at l m)
        → cond t (run_of l n values) (functions l.words (before_at l n) f values) ≡ run_of l m values
    go true h q = let same : n ≡ m = sym (before_length l n (omega (arith, le))) ∙ ap number_in q in ap (λ k. run_of l k values) same
    go false h q = h q

functions_none : (l : Shelf) (gs : List Function) (f : NameId) (values : List ℤ) → find_fun gs f ≡ None → functions l.words gs f values ≡ nothing
functions_none l [] f values e = refl
functions_none l (g ∷ gs) f values e = go (same_name g.name f) (functions_none l gs f values) e
  where
    go : (t : Bool) → (find_fun gs f ≡ None → functions l.words gs f values ≡ nothing)
        → cond t (Some (record { number = length gs; fun = g })) (find_fun gs f) ≡ None
        → cond t (body l.words gs (functions l.words gs) CallResult g (paired g.statics values) >> step leave_body) (functions l.words gs f values) ≡ nothing
    go true h q = no_function (record { number = length gs; fun = g }) (sym q)
    go false h q = h q

-- ---- calls

module _ (l : Shelf) (b : Body) (f : NameId) (ss args : List ExprId) where
  abbrev call_as : Option BuiltIn → Option Found → Effect → Effect
  call_as o g run = exprs_in l b args Held (needs_of_found o g) (parameters_of o g (numbers_in l b ss)) >> run

  pub call_word : (word : BuiltIn) → built_in l.words f ≡ Some word → call_in l b f ss args ≡ built_in_call_in l b word args
  call_word word e =
      ap (λ o. call_as o (find_fun (before_at l b.this) f) (called (seen_in l b) o f (expressions_of (expr_at l.nodes) ss))) e

  without_word : (g : Option Found) → built_in l.words f ≡ None → find_fun (before_at l b.this) f ≡ g
      → call_in l b f ss args ≡ call_as None g (functions l.words (before_at l b.this) f (numbers_in l b ss))
  without_word g e h =
      ap (λ o. call_as o (find_fun (before_at l b.this) f) (called (seen_in l b) o f (expressions_of (expr_at l.nodes) ss))) e
      ∙ ap (λ x. call_as None x (functions l.words (before_at l b.this) f (numbers_in l b ss))) h

  pub call_own : (m : ℕ) → b.this < length l.funs → built_in l.words f ≡ None → find_fun (before_at l b.this) f ≡ Some (found_at l m)
      → call_in l b f ss args ≡ own_call_in l b m ss args
  call_own m lt e h =
      without_word (Some (found_at l m)) e h
      ∙ ap (λ x. call_as None (Some (found_at l m)) x) (functions_at l b.this m f (numbers_in l b ss) (omega (arith, lt)) h)

  pub call_none : built_in l.words f ≡ None → find_fun (before_at l b.this) f ≡ None → call_in l b f ss args ≡ exprs_in l b args Held [] [] >> nothing
  call_none e h =
      without_word None e h ∙ ap (λ x. call_as None None x) (functions_none l (before_at l b.this) f (numbers_in l b ss) h)

  pub call_earlier : (m : ℕ) → b.this < length l.funs → find_fun (before_at l b.this) f ≡ Some (found_at l m) → m < b.this
  call_earlier m lt h =
      let n : length (before_at l b.this) ≡ b.this = before_length l b.this (omega (arith, lt)) in
      omega (arith, n, find_below (before_at l b.this) f (found_at l m) h)
