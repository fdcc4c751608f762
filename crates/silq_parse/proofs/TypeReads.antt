-- What the functions for types have read.
use Rattle.std.proofs.Common.{◌≡◌, ℤ, Bool, true, false, List, [], ◌∷◌, ◌++◌, Option, Some, None, length, map, flat_map, refl, sym, ◌∙◌, ap, subst, append_assoc, append-nil, arith}
use Rattle.std.proofs.lemmas.Grind.{flat_map-append}
use Rattle.std.proofs.lemmas.List.{map-append}
use Rattle.silq_tree.specs.declared.node.ExprId.{ExprId}
use Rattle.silq_tree.specs.declared.node.NameId.{NameId}
use Rattle.silq_tree.specs.declared.node.Spot.{Spot}
use Rattle.silq_tree.specs.declared.node.ScalarNode.{ScalarNode}
use Rattle.silq_tree.specs.declared.node.ScalarNode.TheVariants as scalars
use Rattle.silq_tree.specs.declared.node.TypeNode.{TypeNode}
use Rattle.silq_tree.specs.declared.node.Expr.TheVariants as exprs
use Rattle.silq_tree.specs.Syntax as tree
use Rattle.silq_tree.specs.Arena.{Forest, KeepsTrees, expr_at}
use Rattle.silq_tree.specs.Standing.{scalar_of, type_of}
use Rattle.silq_tree.specs.Standing as standing
use Rattle.silq_tree.specs.Children.{listed, scalar_exprs, type_exprs, AreExprsBelow}
use Rattle.silq_tree.proofs.Lists.{exprs_below_front, exprs_below_back}
use Rattle.silq_grammar.specs.Tokens.{first_spot}
use Rattle.silq_grammar.specs.declared.token.Token.{Token}
use Rattle.silq_grammar.specs.declared.token.Token.TheVariants.{Name, Number, Fixed}
use Rattle.silq_grammar.specs.declared.token.Terminal.TheVariants as t
use Rattle.silq_grammar.specs.Grammar as g
use Rattle.silq_grammar.specs.Spelled.{expr_text, scalar_text, size_text, type_text, result_text}
use Rattle.silq_grammar.specs.Trees.{expr_tree, scalar_tree, sized_tree, type_tree, result_tree}
use Rattle.expr_parse.specs.Grown.{Grew}
use Rattle.expr_parse.specs.Reads.{ReadsExpr, ReadsPart}
use Rattle.silq_parse.specs.Parts.{maybe, size_tree, sized_text, sized_node_tree}
use Rattle.expr_parse.specs.Added.{IsAdded}
use Rattle.expr_parse.proofs.Growing.{grew_nothing, grew_then}
use Rattle.expr_parse.proofs.Reading.{made, grew_by, same_stmts}
use Rattle.expr_parse.proofs.Reading as reading
use Rattle.silq_parse.proofs.SimpleReads.{one_more, behind_text}

pub number_size : {old new : Forest} {rest : List Token} {id : ExprId} (v : ℤ) (at c : Spot) → IsAdded old new (exprs.Number v None at) id
    → ReadsPart size_text size_tree old new (Fixed t.Caret c ∷ Number v at ∷ rest) (Some (expr_at new id)) (id ∷ []) [] rest
number_size {old} {new} {rest} {id} v at c a = record {
  derivation = g.number_size c v at;
  spelled = refl;
  stands = ap Some (made _ id a);
  grew = grew_by _ id (grew_nothing old) a;
  bounded = let x = reading.one_more _ id a in let y = same_stmts _ id a in record { exprs = omega arith; stmts = omega arith };
}

pub named_size : {old new : Forest} {rest : List Token} {id : ExprId} (n : NameId) (at c : Spot) → IsAdded old new (exprs.Place (record { name = n; first = None; second = None }) at) id
    → ReadsPart size_text size_tree old new (Fixed t.Caret c ∷ Name n at ∷ rest) (Some (expr_at new id)) (id ∷ []) [] rest
named_size {old} {new} {rest} {id} n at c a = record {
  derivation = g.named_size c n at;
  spelled = refl;
  stands = ap Some (made _ id a);
  grew = grew_by _ id (grew_nothing old) a;
  bounded = let x = reading.one_more _ id a in let y = same_stmts _ id a in record { exprs = omega arith; stmts = omega arith };
}

pub paren_size : {old new : Forest} {ts r rest : List Token} {id : ExprId} (l close c : Spot) → ReadsExpr expr_text expr_tree old new ts id r → r ≡ Fixed t.RightParen close ∷ rest
    → ReadsPart size_text size_tree old new (Fixed t.Caret c ∷ Fixed t.LeftParen l ∷ ts) (Some (expr_at new id)) (id ∷ []) [] rest
paren_size {old} {new} {ts} {r} {rest} {id} l close c x p = record {
  derivation = g.paren_size c l x.derivation close;
  spelled = ap (λ w. Fixed t.Caret c ∷ Fixed t.LeftParen l ∷ w) (behind_text (expr_text x.derivation) x.spelled p);
  stands = ap Some x.stands;
  grew = x.grew;
  bounded = let y = one_more p in record { exprs = omega (arith, x.bounded.exprs); stmts = omega (arith, x.bounded.stmts) };
}

pub no_size : (f : Forest) (ts : List Token) → ReadsPart size_text size_tree f f ts None [] [] ts
no_size f ts = record { derivation = g.no_size; spelled = refl; stands = refl; grew = grew_nothing f; bounded = record { exprs = omega arith; stmts = omega arith } }

pub scalar_kept : {old new : Forest} (s : ScalarNode) → KeepsTrees old new → AreExprsBelow (length old.exprs) (scalar_exprs s) → scalar_of (expr_at new) s ≡ scalar_of (expr_at old) s
scalar_kept scalars.Bit k b = refl
scalar_kept (scalars.UInt e) k b = ap tree.uint (k.exprs e b.0)
scalar_kept (scalars.Int e) k b = ap tree.int (k.exprs e b.0)

maybe_kept : {old new : Forest} (s : Option ExprId) → KeepsTrees old new → AreExprsBelow (length old.exprs) (listed s) → maybe (expr_at new) s ≡ maybe (expr_at old) s
maybe_kept None k b = refl
maybe_kept (Some e) k b = ap Some (k.exprs e b.0)

sized_by : (f : ExprId → tree.Expression) (c : Bool) (s : ScalarNode) (at : Spot) (n : Option ExprId) (ty : tree.ScalarType) (d : g.Size)
    → scalar_of f s ≡ ty → maybe f n ≡ size_tree d → type_of f (record { classical = c; scalar = s; size = n; at = at }) ≡ sized_tree ty c d at
sized_by f c s at None ty g.no_size p q = ap (λ w. tree.scalar c w at) p
sized_by f c s at None ty (g.number_size k v x) p q = cc
sized_by f c s at None ty (g.named_size k v x) p q = cc
sized_by f c s at None ty (g.paren_size k l e r) p q = cc
sized_by f c s at (Some n) ty g.no_size p q = cc
sized_by f c s at (Some n) ty (g.number_size k v x) p q = let u : f n ≡ tree.number v x = cc in cc
sized_by f c s at (Some n) ty (g.named_size k v x) p q = let u : f n ≡ tree.place (tree.whole v) x = cc in cc
sized_by f c s at (Some n) ty (g.paren_size k l e r) p q = let u : f n ≡ expr_tree e = cc in cc

pub sized_reads : {old mid new : Forest} {ts r rest : List Token} (s : ScalarNode) (n : Option ExprId) (c : Bool) (at : Spot)
    → ReadsPart scalar_text scalar_tree old mid ts (scalar_of (expr_at mid) s) (scalar_exprs s) [] r → ReadsPart size_text size_tree mid new r (maybe (expr_at new) n) (listed n) [] rest
    → ReadsPart sized_text (sized_node_tree c at) old new ts (type_of (expr_at new) (record { classical = c; scalar = s; size = n; at = at })) (scalar_exprs s ++ listed n) [] rest
sized_reads {old} {mid} {new} {ts} {r} {rest} s n c at x y = record {
  derivation = record { scalar = x.derivation; size = y.derivation };
  spelled = x.spelled ∙ ap (λ w. scalar_text x.derivation ++ w) y.spelled ∙ sym (append_assoc (scalar_text x.derivation) (size_text y.derivation) rest);
  stands = sized_by (expr_at new) c s at n (scalar_tree x.derivation) y.derivation (scalar_kept s y.grew.trees x.grew.exprs_there ∙ x.stands) y.stands;
  grew = grew_then x.grew y.grew;
  bounded = record { exprs = omega (arith, x.bounded.exprs, y.bounded.exprs); stmts = omega (arith, x.bounded.stmts, y.bounded.stmts) };
}

sized_first : (s : g.Scalar) (xs ts r : List Token) → ts ≡ (scalar_text s ++ xs) ++ r → first_spot (scalar_text s ++ xs) ≡ first_spot ts
sized_first (g.bit s) xs ts r p = ap first_spot (sym p)
sized_first (g.uint s l e q) xs ts r p = ap first_spot (sym p)
sized_first (g.int s l e q) xs ts r p = ap first_spot (sym p)

pub quantum_reads : {old new : Forest} {ts rest : List Token} {ty : tree.WrittenType} {es : List ExprId} (at : Spot) → at ≡ first_spot ts
    → ReadsPart sized_text (sized_node_tree false at) old new ts ty es [] rest → ReadsPart type_text type_tree old new ts ty es [] rest
quantum_reads {old} {new} {ts} {rest} {ty} {es} at p x = record {
  derivation = g.quantum x.derivation.scalar x.derivation.size;
  spelled = x.spelled;
  stands = x.stands ∙ ap (λ w. sized_tree (scalar_tree x.derivation.scalar) false x.derivation.size w) (p ∙ sym (sized_first x.derivation.scalar (size_text x.derivation.size) ts rest x.spelled));
  grew = x.grew;
  bounded = x.bounded;
}

pub classical_reads : {old new : Forest} {ts us rest : List Token} {ty : tree.WrittenType} {es : List ExprId} (at : Spot) → ts ≡ Fixed t.Bang at ∷ us
    → ReadsPart sized_text (sized_node_tree true at) old new us ty es [] rest → ReadsPart type_text type_tree old new ts ty es [] rest
classical_reads {old} {new} {ts} {us} {rest} {ty} {es} at p x = record {
  derivation = g.classical at x.derivation.scalar x.derivation.size;
  spelled = p ∙ ap (λ w. Fixed t.Bang at ∷ w) x.spelled;
  stands = x.stands;
  grew = x.grew;
  bounded = let y = one_more p in record { exprs = omega (arith, x.bounded.exprs); stmts = omega (arith, x.bounded.stmts) };
}

type_by : (f h : ExprId → tree.Expression) (n : TypeNode) (s : Option ExprId) → scalar_of f n.scalar ≡ scalar_of h n.scalar → maybe f s ≡ maybe h s → standing.sized f n s ≡ standing.sized h n s
type_by f h n None p q = ap (λ w. tree.scalar n.classical w n.at) p
type_by f h n (Some e) p q = let u : f e ≡ h e = cc in cc

pub type_kept : {old new : Forest} (n : TypeNode) → KeepsTrees old new → AreExprsBelow (length old.exprs) (type_exprs n) → type_of (expr_at new) n ≡ type_of (expr_at old) n
type_kept {old} {new} n k b =
    type_by (expr_at new) (expr_at old) n n.size (scalar_kept n.scalar k (exprs_below_front (length old.exprs) (scalar_exprs n.scalar) (listed n.size) b))
    (maybe_kept n.size k (exprs_below_back (length old.exprs) (scalar_exprs n.scalar) (listed n.size) b))

pub types_kept : {old new : Forest} (ns : List TypeNode) → KeepsTrees old new → AreExprsBelow (length old.exprs) (flat_map type_exprs ns) → map (type_of (expr_at new)) ns ≡ map (type_of (expr_at old)) ns
types_kept [] k b = refl
types_kept {old} {new} (n ∷ ns) k b =
    let p = type_kept n k (exprs_below_front (length old.exprs) (type_exprs n) (flat_map type_exprs ns) b) in
    let q = types_kept ns k (exprs_below_back (length old.exprs) (type_exprs n) (flat_map type_exprs ns) b) in cc

snoc : g.Result → Spot → g.Type_ → g.Result
snoc (g.last_type a) s b = g.and_types a s (g.last_type b)
snoc (g.and_types a u r) s b = g.and_types a u (snoc r s b)

snoc_text : (r : g.Result) (s : Spot) (b : g.Type_) → result_text (snoc r s b) ≡ result_text r ++ (Fixed t.Times s ∷ type_text b)
unfolding snoc
snoc_text (g.last_type a) s b = refl
snoc_text (g.and_types a u r) s b = ap (λ w. type_text a ++ (Fixed t.Times u ∷ w)) (snoc_text r s b) ∙ sym (append_assoc (type_text a) (Fixed t.Times u ∷ result_text r) (Fixed t.Times s ∷ type_text b))

snoc_tree : (r : g.Result) (s : Spot) (b : g.Type_) → result_tree (snoc r s b) ≡ result_tree r ++ type_tree b ∷ []
unfolding snoc
snoc_tree (g.last_type a) s b = refl
snoc_tree (g.and_types a u r) s b = ap (λ w. type_tree a ∷ w) (snoc_tree r s b)

pub first_type : {old new : Forest} {ts rest : List Token} (n : TypeNode) → ReadsPart type_text type_tree old new ts (type_of (expr_at new) n) (type_exprs n) [] rest
    → ReadsPart result_text result_tree old new ts (map (type_of (expr_at new)) (n ∷ [])) (flat_map type_exprs (n ∷ [])) [] rest
first_type {old} {new} {ts} {rest} n x = record {
  derivation = g.last_type x.derivation;
  spelled = x.spelled;
  stands = ap (λ w. w ∷ []) x.stands;
  grew = subst (λ w. Grew old new w []) (sym (append-nil (type_exprs n))) x.grew;
  bounded = x.bounded;
}

pub next_type : {old mid new : Forest} {ts r q rest : List Token} (ns : List TypeNode) (n : TypeNode) (s : Spot)
    → ReadsPart result_text result_tree old mid ts (map (type_of (expr_at mid)) ns) (flat_map type_exprs ns) [] r → r ≡ Fixed t.Times s ∷ q
    → ReadsPart type_text type_tree mid new q (type_of (expr_at new) n) (type_exprs n) [] rest
    → ReadsPart result_text result_tree old new ts (map (type_of (expr_at new)) (ns ++ n ∷ [])) (flat_map type_exprs (ns ++ n ∷ [])) [] rest
next_type {old} {mid} {new} {ts} {r} {q} {rest} ns n s x p y = record {
  derivation = snoc x.derivation s y.derivation;
  spelled = x.spelled ∙ ap (λ w. result_text x.derivation ++ w) (p ∙ ap (λ w. Fixed t.Times s ∷ w) y.spelled)
      ∙ sym (append_assoc (result_text x.derivation) (Fixed t.Times s ∷ type_text y.derivation) rest) ∙ ap (λ w. w ++ rest) (sym (snoc_text x.derivation s y.derivation));
  stands = map-append (type_of (expr_at new)) ns (n ∷ []) ∙ ap (λ w. w ++ type_of (expr_at new) n ∷ []) (types_kept ns y.grew.trees x.grew.exprs_there ∙ x.stands)
      ∙ ap (λ w. result_tree x.derivation ++ w ∷ []) y.stands ∙ sym (snoc_tree x.derivation s y.derivation);
  grew = subst (λ w. Grew old new w []) (sym (flat_map-append type_exprs ns (n ∷ []) ∙ ap (λ w. flat_map type_exprs ns ++ w) (append-nil (type_exprs n)))) (grew_then x.grew y.grew);
  bounded = let u = one_more p in record { exprs = omega (arith, x.bounded.exprs, y.bounded.exprs); stmts = omega (arith, x.bounded.stmts, y.bounded.stmts) };
}

pub first_types : {old new : Forest} {ts rest : List Token} (ms : List TypeNode) (n : TypeNode) → ms ≡ n ∷ [] → ReadsPart type_text type_tree old new ts (type_of (expr_at new) n) (type_exprs n) [] rest
    → ReadsPart result_text result_tree old new ts (map (type_of (expr_at new)) ms) (flat_map type_exprs ms) [] rest
first_types {old} {new} {ts} {rest} ms n e x = subst (λ w. ReadsPart result_text result_tree old new ts (map (type_of (expr_at new)) w) (flat_map type_exprs w) [] rest) (sym e) (first_type n x)

pub next_types : {old mid new : Forest} {ts r q rest : List Token} (ms ns : List TypeNode) (n : TypeNode) (s : Spot) → ms ≡ ns ++ n ∷ []
    → ReadsPart result_text result_tree old mid ts (map (type_of (expr_at mid)) ns) (flat_map type_exprs ns) [] r → r ≡ Fixed t.Times s ∷ q
    → ReadsPart type_text type_tree mid new q (type_of (expr_at new) n) (type_exprs n) [] rest
    → ReadsPart result_text result_tree old new ts (map (type_of (expr_at new)) ms) (flat_map type_exprs ms) [] rest
next_types {old} {mid} {new} {ts} {r} {q} {rest} ms ns n s e x p y =
    subst (λ w. ReadsPart result_text result_tree old new ts (map (type_of (expr_at new)) w) (flat_map type_exprs w) [] rest) (sym e) (next_type ns n s x p y)
