-- A derivation has a first token.
use Rattle.std.proofs.Common.{◌≡◌, suc, ◌<◌, List, ◌∷◌, ◌++◌, length, refl, sym, ◌∙◌, ap, arith, length-append}
use Rattle.silq_grammar.specs.declared.token.Token.{Token}
use Rattle.silq_grammar.specs.Tokens.{first_spot}
use Rattle.silq_grammar.specs.Grammar.{Expr, one_and, or, And, one_cmp, and, Cmp, one_sum, compare, Sum, one_prod, plus, minus, Prod, one_unary, times, over, Unary, bang, negative, number, typed_number, true_, false_, pi, place, called, paren, Place, whole, part, part_of_part, Call, plain, with_statics}
use Rattle.silq_grammar.specs.Spelled.{expr_text, and_text, cmp_text, sum_text, prod_text, unary_text, place_text, call_text}

-- a text with a first token, whose place is that of what begins with the text
pub record Begins (text : List Token) : Type 0 where
  pub first : Token
  pub more : List Token
  pub is : text ≡ first ∷ more

pub begins_more : (xs ys : List Token) → Begins xs → Begins (xs ++ ys)
begins_more xs ys b = record { first = b.first; more = b.more ++ ys; is = ap (λ zs. zs ++ ys) b.is }

pub place_begins : (p : Place) → Begins (place_text p)
place_begins (whole n s) = record { first = _; more = _; is = refl }
place_begins (part n s l e r) = record { first = _; more = _; is = refl }
place_begins (part_of_part n s l e r m f q) = record { first = _; more = _; is = refl }

pub call_begins : (c : Call) → Begins (call_text c)
call_begins (plain n s l a r) = record { first = _; more = _; is = refl }
call_begins (with_statics n s l es r m a q) = record { first = _; more = _; is = refl }

pub unary_begins : (u : Unary) → Begins (unary_text u)
unary_begins (bang s u) = record { first = _; more = _; is = refl }
unary_begins (negative s u) = record { first = _; more = _; is = refl }
unary_begins (number v s) = record { first = _; more = _; is = refl }
unary_begins (typed_number v s c ty) = record { first = _; more = _; is = refl }
unary_begins (true_ s) = record { first = _; more = _; is = refl }
unary_begins (false_ s) = record { first = _; more = _; is = refl }
unary_begins (pi s) = record { first = _; more = _; is = refl }
unary_begins (place p) = place_begins p
unary_begins (called c) = call_begins c
unary_begins (paren l es r) = record { first = _; more = _; is = refl }

pub prod_begins : (p : Prod) → Begins (prod_text p)
prod_begins (one_unary u) = unary_begins u
prod_begins (times p s u) = begins_more _ _ (prod_begins p)
prod_begins (over p s u) = begins_more _ _ (prod_begins p)

pub sum_begins : (a : Sum) → Begins (sum_text a)
sum_begins (one_prod p) = prod_begins p
sum_begins (plus a s p) = begins_more _ _ (sum_begins a)
sum_begins (minus a s p) = begins_more _ _ (sum_begins a)

pub cmp_begins : (c : Cmp) → Begins (cmp_text c)
cmp_begins (one_sum a) = sum_begins a
cmp_begins (compare c a s b) = begins_more _ _ (sum_begins a)

pub and_begins : (a : And) → Begins (and_text a)
and_begins (one_cmp c) = cmp_begins c
and_begins (and a s c) = begins_more _ _ (and_begins a)

pub expr_begins : (e : Expr) → Begins (expr_text e)
expr_begins (one_and a) = and_begins a
expr_begins (or e s a) = begins_more _ _ (expr_begins e)

-- the place of the first token of a text is that of all that begins with it
pub same_first : (xs ys : List Token) → Begins xs → first_spot (xs ++ ys) ≡ first_spot xs
same_first xs ys b = ap (λ zs. first_spot (zs ++ ys)) b.is ∙ sym (ap first_spot b.is)

-- what is left behind a text is shorter
pub shorter_behind : (xs ts rest : List Token) → Begins xs → ts ≡ xs ++ rest → length rest < length ts
shorter_behind xs ts rest b e =
    let l = length-append xs rest in let f = ap length e in let g : length xs ≡ suc (length b.more) = ap length b.is in omega (arith, l, f, g)
