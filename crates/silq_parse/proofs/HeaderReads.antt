-- What the functions for headers have read.
use Rattle.std.proofs.Common.{◌≡◌, Bool, true, false, List, [], ◌∷◌, ◌++◌, length, map, flat_map, refl, sym, ◌∙◌, ap, subst, append_assoc, append-nil, arith}
use Rattle.std.proofs.lemmas.Grind.{flat_map-append}
use Rattle.std.proofs.lemmas.List.{map-append}
use Rattle.silq_tree.specs.declared.node.ExprId.{ExprId}
use Rattle.silq_tree.specs.declared.node.NameId.{NameId}
use Rattle.silq_tree.specs.declared.node.Spot.{Spot}
use Rattle.silq_tree.specs.declared.node.TypeNode.{TypeNode}
use Rattle.silq_tree.specs.declared.node.ParamNode.{ParamNode}
use Rattle.silq_tree.specs.Syntax as tree
use Rattle.silq_tree.specs.Arena.{Forest, KeepsTrees, expr_at}
use Rattle.silq_tree.specs.Standing.{type_of, param_of}
use Rattle.silq_tree.specs.Children.{type_exprs, param_exprs, AreExprsBelow}
use Rattle.silq_tree.proofs.Lists.{exprs_below_front, exprs_below_back}
use Rattle.silq_grammar.specs.declared.token.Token.{Token}
use Rattle.silq_grammar.specs.declared.token.Token.TheVariants.{Name, Fixed}
use Rattle.silq_grammar.specs.declared.token.Terminal.TheVariants as t
use Rattle.silq_grammar.specs.Grammar as g
use Rattle.silq_grammar.specs.Spelled.{type_text, result_text, param_text, params_text, statics_text, param_part_text, result_part_text}
use Rattle.silq_grammar.specs.Trees.{type_tree, result_tree, param_tree, params_tree, statics_tree, param_part_tree, result_part_tree}
use Rattle.expr_parse.specs.Grown.{Grew}
use Rattle.expr_parse.specs.Reads.{ReadsPart}
use Rattle.silq_parse.specs.Parts.{SpellsStatic, SpellsStatics, SpellsStaticPart, typed_text, typed_tree}
use Rattle.expr_parse.proofs.Growing.{grew_nothing, grew_then}
use Rattle.silq_parse.proofs.SimpleReads.{one_more, behind_text}
use Rattle.silq_parse.proofs.TypeReads.{type_kept}

pub one_static : {ts r1 r2 r3 rest : List Token} (n : NameId) (a c b k : Spot) → ts ≡ Name n a ∷ r1 → r1 ≡ Fixed t.Colon c ∷ r2 → r2 ≡ Fixed t.Bang b ∷ r3 → r3 ≡ Fixed t.Natural k ∷ rest
    → SpellsStatic n ts rest
one_static n a c b k p q r s = record {
  at = a;
  colon = c;
  bang = b;
  natural = k;
  spelled = p ∙ ap (λ w. Name n a ∷ w) (q ∙ ap (λ w. Fixed t.Colon c ∷ w) (r ∙ ap (λ w. Fixed t.Bang b ∷ w) s));
}

pub first_static : {ts rest : List Token} {n : NameId} {ids : List NameId} → ids ≡ n ∷ [] → SpellsStatic n ts rest → SpellsStatics ids ts rest
first_static {ts} {rest} {n} e s = record { derivation = g.last_static n s.at s.colon s.bang s.natural; spelled = s.spelled; named = e }

snoc : g.Statics → Spot → NameId → Spot → Spot → Spot → Spot → g.Statics
snoc (g.last_static n s c b k) m i a x y z = g.and_statics n s c b k m (g.last_static i a x y z)
snoc (g.and_statics n s c b k u ns) m i a x y z = g.and_statics n s c b k u (snoc ns m i a x y z)

snoc_text : (ns : g.Statics) (m : Spot) (i : NameId) (a x y z : Spot) (rest : List Token)
    → statics_text ns ++ (Fixed t.Comma m ∷ Name i a ∷ Fixed t.Colon x ∷ Fixed t.Bang y ∷ Fixed t.Natural z ∷ rest) ≡ statics_text (snoc ns m i a x y z) ++ rest
unfolding snoc
snoc_text (g.last_static n s c b k) m i a x y z rest = refl
snoc_text (g.and_statics n s c b k u ns) m i a x y z rest = ap (λ w. Name n s ∷ Fixed t.Colon c ∷ Fixed t.Bang b ∷ Fixed t.Natural k ∷ Fixed t.Comma u ∷ w) (snoc_text ns m i a x y z rest)

snoc_tree : (ns : g.Statics) (m : Spot) (i : NameId) (a x y z : Spot) → statics_tree ns ++ i ∷ [] ≡ statics_tree (snoc ns m i a x y z)
unfolding snoc
snoc_tree (g.last_static n s c b k) m i a x y z = refl
snoc_tree (g.and_statics n s c b k u ns) m i a x y z = ap (λ w. n ∷ w) (snoc_tree ns m i a x y z)

pub next_static : {ts r q rest : List Token} {n : NameId} {ids more_ : List NameId} (m : Spot) → more_ ≡ ids ++ n ∷ [] → SpellsStatics ids ts r → r ≡ Fixed t.Comma m ∷ q → SpellsStatic n q rest
    → SpellsStatics more_ ts rest
next_static {ts} {r} {q} {rest} {n} {ids} {more_} m e x p s = record {
  derivation = snoc x.derivation m n s.at s.colon s.bang s.natural;
  spelled = x.spelled ∙ ap (λ w. statics_text x.derivation ++ w) (p ∙ ap (λ w. Fixed t.Comma m ∷ w) s.spelled) ∙ snoc_text x.derivation m n s.at s.colon s.bang s.natural rest;
  named = e ∙ ap (λ w. w ++ n ∷ []) x.named ∙ snoc_tree x.derivation m n s.at s.colon s.bang s.natural;
}

pub static_part : {ts us r rest : List Token} {ids : List NameId} (l e : Spot) → ts ≡ Fixed t.LeftBracket l ∷ us → SpellsStatics ids us r → r ≡ Fixed t.RightBracket e ∷ rest → SpellsStaticPart ids ts rest
static_part {ts} {us} {r} {rest} {ids} l e p x q = record {
  derivation = g.statics l x.derivation e;
  spelled = p ∙ ap (λ w. Fixed t.LeftBracket l ∷ w) (behind_text (statics_text x.derivation) x.spelled q);
  named = x.named;
}

pub no_statics : {ids : List NameId} (ts : List Token) → ids ≡ [] → SpellsStaticPart ids ts ts
no_statics ts e = record { derivation = g.no_statics; spelled = refl; named = e }

pub typed_reads : {old new : Forest} {ts r rest : List Token} (held : Bool) (n : NameId) (at c : Spot) (ty : TypeNode) → ts ≡ Fixed t.Colon c ∷ r
    → ReadsPart type_text type_tree old new r (type_of (expr_at new) ty) (type_exprs ty) [] rest
    → ReadsPart typed_text (typed_tree held n at) old new ts (param_of (expr_at new) (record { held = held; name = n; ty = ty; at = at })) (type_exprs ty) [] rest
typed_reads {old} {new} {ts} {r} {rest} held n at c ty p x = record {
  derivation = record { colon = c; ty = x.derivation };
  spelled = p ∙ ap (λ w. Fixed t.Colon c ∷ w) x.spelled;
  stands = ap (λ w. record { held = held; name = n; ty = w; at = at }) x.stands;
  grew = x.grew;
  bounded = let y = one_more p in record { exprs = omega (arith, x.bounded.exprs); stmts = omega (arith, x.bounded.stmts) };
}

pub moved_reads : {old new : Forest} {ts us rest : List Token} {made : tree.Parameter} {es : List ExprId} (n : NameId) (at : Spot) → ts ≡ Name n at ∷ us
    → ReadsPart typed_text (typed_tree false n at) old new us made es [] rest → ReadsPart param_text param_tree old new ts made es [] rest
moved_reads {old} {new} {ts} {us} {rest} {made} {es} n at p x = record {
  derivation = g.moved n at x.derivation.colon x.derivation.ty;
  spelled = p ∙ ap (λ w. Name n at ∷ w) x.spelled;
  stands = x.stands;
  grew = x.grew;
  bounded = let y = one_more p in record { exprs = omega (arith, x.bounded.exprs); stmts = omega (arith, x.bounded.stmts) };
}

pub held_reads : {old new : Forest} {ts r us rest : List Token} {made : tree.Parameter} {es : List ExprId} (n : NameId) (at s : Spot) → ts ≡ Fixed t.Const at ∷ r → r ≡ Name n s ∷ us
    → ReadsPart typed_text (typed_tree true n at) old new us made es [] rest → ReadsPart param_text param_tree old new ts made es [] rest
held_reads {old} {new} {ts} {r} {us} {rest} {made} {es} n at s p q x = record {
  derivation = g.held at n s x.derivation.colon x.derivation.ty;
  spelled = p ∙ ap (λ w. Fixed t.Const at ∷ w) (q ∙ ap (λ w. Name n s ∷ w) x.spelled);
  stands = x.stands;
  grew = x.grew;
  bounded = let y = one_more p in let z = one_more q in record { exprs = omega (arith, x.bounded.exprs); stmts = omega (arith, x.bounded.stmts) };
}

pub params_kept : {old new : Forest} (ns : List ParamNode) → KeepsTrees old new → AreExprsBelow (length old.exprs) (flat_map param_exprs ns) → map (param_of (expr_at new)) ns ≡ map (param_of (expr_at old)) ns
params_kept [] k b = refl
params_kept {old} {new} (n ∷ ns) k b =
    let p = ap (λ w. record { held = n.held; name = n.name; ty = w; at = n.at }) (type_kept n.ty k (exprs_below_front (length old.exprs) (param_exprs n) (flat_map param_exprs ns) b)) in
    let q = params_kept ns k (exprs_below_back (length old.exprs) (param_exprs n) (flat_map param_exprs ns) b) in
    ap (λ w. w ∷ map (param_of (expr_at new)) ns) p ∙ ap (λ w. param_of (expr_at old) n ∷ w) q

psnoc : g.Params → Spot → g.Param → g.Params
psnoc (g.last_param a) s b = g.and_params a s (g.last_param b)
psnoc (g.and_params a u r) s b = g.and_params a u (psnoc r s b)

psnoc_text : (r : g.Params) (s : Spot) (b : g.Param) → params_text (psnoc r s b) ≡ params_text r ++ (Fixed t.Comma s ∷ param_text b)
unfolding psnoc
psnoc_text (g.last_param a) s b = refl
psnoc_text (g.and_params a u r) s b = ap (λ w. param_text a ++ (Fixed t.Comma u ∷ w)) (psnoc_text r s b) ∙ sym (append_assoc (param_text a) (Fixed t.Comma u ∷ params_text r) (Fixed t.Comma s ∷ param_text b))

psnoc_tree : (r : g.Params) (s : Spot) (b : g.Param) → params_tree (psnoc r s b) ≡ params_tree r ++ param_tree b ∷ []
unfolding psnoc
psnoc_tree (g.last_param a) s b = refl
psnoc_tree (g.and_params a u r) s b = ap (λ w. param_tree a ∷ w) (psnoc_tree r s b)

first_param : {old new : Forest} {ts rest : List Token} (n : ParamNode) → ReadsPart param_text param_tree old new ts (param_of (expr_at new) n) (param_exprs n) [] rest
    → ReadsPart params_text params_tree old new ts (map (param_of (expr_at new)) (n ∷ [])) (flat_map param_exprs (n ∷ [])) [] rest
first_param {old} {new} {ts} {rest} n x = record {
  derivation = g.last_param x.derivation;
  spelled = x.spelled;
  stands = ap (λ w. w ∷ []) x.stands;
  grew = subst (λ w. Grew old new w []) (sym (append-nil (param_exprs n))) x.grew;
  bounded = x.bounded;
}

next_param : {old mid new : Forest} {ts r q rest : List Token} (ns : List ParamNode) (n : ParamNode) (s : Spot)
    → ReadsPart params_text params_tree old mid ts (map (param_of (expr_at mid)) ns) (flat_map param_exprs ns) [] r → r ≡ Fixed t.Comma s ∷ q
    → ReadsPart param_text param_tree mid new q (param_of (expr_at new) n) (param_exprs n) [] rest
    → ReadsPart params_text params_tree old new ts (map (param_of (expr_at new)) (ns ++ n ∷ [])) (flat_map param_exprs (ns ++ n ∷ [])) [] rest
next_param {old} {mid} {new} {ts} {r} {q} {rest} ns n s x p y = record {
  derivation = psnoc x.derivation s y.derivation;
  spelled = x.spelled ∙ ap (λ w. params_text x.derivation ++ w) (p ∙ ap (λ w. Fixed t.Comma s ∷ w) y.spelled)
      ∙ sym (append_assoc (params_text x.derivation) (Fixed t.Comma s ∷ param_text y.derivation) rest) ∙ ap (λ w. w ++ rest) (sym (psnoc_text x.derivation s y.derivation));
  stands = map-append (param_of (expr_at new)) ns (n ∷ []) ∙ ap (λ w. w ++ param_of (expr_at new) n ∷ []) (params_kept ns y.grew.trees x.grew.exprs_there ∙ x.stands)
      ∙ ap (λ w. params_tree x.derivation ++ w ∷ []) y.stands ∙ sym (psnoc_tree x.derivation s y.derivation);
  grew = subst (λ w. Grew old new w []) (sym (flat_map-append param_exprs ns (n ∷ []) ∙ ap (λ w. flat_map param_exprs ns ++ w) (append-nil (param_exprs n)))) (grew_then x.grew y.grew);
  bounded = let u = one_more p in record { exprs = omega (arith, x.bounded.exprs, y.bounded.exprs); stmts = omega (arith, x.bounded.stmts, y.bounded.stmts) };
}

pub first_params : {old new : Forest} {ts rest : List Token} (ms : List ParamNode) (n : ParamNode) → ms ≡ n ∷ [] → ReadsPart param_text param_tree old new ts (param_of (expr_at new) n) (param_exprs n) [] rest
    → ReadsPart params_text params_tree old new ts (map (param_of (expr_at new)) ms) (flat_map param_exprs ms) [] rest
first_params {old} {new} {ts} {rest} ms n e x = subst (λ w. ReadsPart params_text params_tree old new ts (map (param_of (expr_at new)) w) (flat_map param_exprs w) [] rest) (sym e) (first_param n x)

pub next_params : {old mid new : Forest} {ts r q rest : List Token} (ms ns : List ParamNode) (n : ParamNode) (s : Spot) → ms ≡ ns ++ n ∷ []
    → ReadsPart params_text params_tree old mid ts (map (param_of (expr_at mid)) ns) (flat_map param_exprs ns) [] r → r ≡ Fixed t.Comma s ∷ q
    → ReadsPart param_text param_tree mid new q (param_of (expr_at new) n) (param_exprs n) [] rest
    → ReadsPart params_text params_tree old new ts (map (param_of (expr_at new)) ms) (flat_map param_exprs ms) [] rest
next_params {old} {mid} {new} {ts} {r} {q} {rest} ms ns n s e x p y =
    subst (λ w. ReadsPart params_text params_tree old new ts (map (param_of (expr_at new)) w) (flat_map param_exprs w) [] rest) (sym e) (next_param ns n s x p y)

pub param_part : {old new : Forest} {ts us r rest : List Token} {made : List tree.Parameter} {es : List ExprId} (l e : Spot) → ts ≡ Fixed t.LeftParen l ∷ us
    → ReadsPart params_text params_tree old new us made es [] r → r ≡ Fixed t.RightParen e ∷ rest → ReadsPart param_part_text param_part_tree old new ts made es [] rest
param_part {old} {new} {ts} {us} {r} {rest} {made} {es} l e p x q = record {
  derivation = g.params l x.derivation e;
  spelled = p ∙ ap (λ w. Fixed t.LeftParen l ∷ w) (behind_text (params_text x.derivation) x.spelled q);
  stands = x.stands;
  grew = x.grew;
  bounded = let y = one_more p in let z = one_more q in record { exprs = omega (arith, x.bounded.exprs); stmts = omega (arith, x.bounded.stmts) };
}

pub no_params : {ts us rest : List Token} (f : Forest) (ms : List ParamNode) (l e : Spot) → ms ≡ [] → ts ≡ Fixed t.LeftParen l ∷ us → us ≡ Fixed t.RightParen e ∷ rest
    → ReadsPart param_part_text param_part_tree f f ts (map (param_of (expr_at f)) ms) (flat_map param_exprs ms) [] rest
no_params {ts} {us} {rest} f ms l e m p q = subst (λ w. ReadsPart param_part_text param_part_tree f f ts (map (param_of (expr_at f)) w) (flat_map param_exprs w) [] rest) (sym m) (record {
  derivation = g.no_params l e;
  spelled = p ∙ ap (λ w. Fixed t.LeftParen l ∷ w) q;
  stands = refl;
  grew = grew_nothing f;
  bounded = let y = one_more p in let z = one_more q in record { exprs = omega arith; stmts = omega arith };
})

pub result_part : {old new : Forest} {ts us rest : List Token} {made : List tree.WrittenType} {es : List ExprId} (c : Spot) → ts ≡ Fixed t.Colon c ∷ us
    → ReadsPart result_text result_tree old new us made es [] rest → ReadsPart result_part_text result_part_tree old new ts made es [] rest
result_part {old} {new} {ts} {us} {rest} {made} {es} c p x = record {
  derivation = g.results c x.derivation;
  spelled = p ∙ ap (λ w. Fixed t.Colon c ∷ w) x.spelled;
  stands = x.stands;
  grew = x.grew;
  bounded = let y = one_more p in record { exprs = omega (arith, x.bounded.exprs); stmts = omega (arith, x.bounded.stmts) };
}

pub no_result : (f : Forest) (ts : List Token) (ms : List TypeNode) → ms ≡ [] → ReadsPart result_part_text result_part_tree f f ts (map (type_of (expr_at f)) ms) (flat_map type_exprs ms) [] ts
no_result f ts ms m = subst (λ w. ReadsPart result_part_text result_part_tree f f ts (map (type_of (expr_at f)) w) (flat_map type_exprs w) [] ts) (sym m) (record {
  derivation = g.no_result;
  spelled = refl;
  stands = refl;
  grew = grew_nothing f;
  bounded = record { exprs = omega arith; stmts = omega arith };
})
