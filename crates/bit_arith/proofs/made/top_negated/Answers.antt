use Rattle.std.proofs.Common.{◌≡◌, List, [], ◌∷◌, ◌++◌, refl, sym, ap, ◌∙◌}
use Rattle.bit_arith.specs.declared.operand.Operand.{Operand}
use Rattle.bit_arith.specs.Built.{negated, top_negated}
use Rattle.bit_arith.proofs.made.top_negated.Goals as goal

top_negated-push : (ps : List Operand) (p : Operand) → top_negated (ps ++ p ∷ []) ≡ ps ++ negated p ∷ []
top_negated-push [] p = refl
top_negated-push (q ∷ []) p = refl
top_negated-push (q ∷ r ∷ ps) p = ap (λ (xs : List Operand). q ∷ xs) (top_negated-push (r ∷ ps) p)

pub returns : goal.returns
returns c =
    c.in_ok-push.ensures.items
    ∙ ap (λ (xs : List Operand). xs ++ c.negated.result ∷ []) (c.in_ok-negated.ensures.items_if_clones_equal (λ x y e. e))
    ∙ ap (λ (x : Operand). c.in-Some.lower.now ++ x ∷ []) c.negated.ensures
    ∙ sym (top_negated-push c.in-Some.lower.now c.in-Some.top.now)
    ∙ ap top_negated (sym c.in-Some.ensures.cases.0)
