use Rattle.std.proofs.Common.{◌≡◌, ℕ, Bool, true, false, not, List, [], ◌∷◌, ◌++◌, set, get_or, ap, sym, ◌∙◌, subst}
use Rattle.std.proofs.lemmas.Result.{on_ok_weaker}
use Rattle.amp_core.specs.declared.Amp.{Amp}
use Rattle.sum_laws.specs.Rearranged.{Rearranged}
use Rattle.gate_core.specs.Meaning.{flipped}
use Rattle.amp_run.proofs.Joining.{added_to_second, added_to_third}
use Rattle.amp_run.proofs.parts.Parts.add_flipped.Goals as goal

-- the bits with one flipped are those with the other bit set
is_flipped : (u u' v : List Bool) (q : ℕ) (b : Bool) → v ≡ u → get_or v q false ≡ b → u' ≡ set u q (not b) → flipped u q ≡ u'
is_flipped u u' v q b s h e = ap (λ w. set u q (not (get_or w q false))) (sym s) ∙ ap (λ c. set u q (not c)) h ∙ sym e

lowered_one : (k r l l' : List (List Bool × Amp)) (u u' : List Bool) (q : ℕ) (x : Amp) → flipped u q ≡ u' → l' ≡ l ++ (u', x) ∷ [] → Rearranged ((k ++ (r ++ l)) ++ (flipped u q, x) ∷ []) (k ++ (r ++ l'))
lowered_one k r l l' u u' q x e f =
    subst (λ m. Rearranged ((k ++ (r ++ l)) ++ (flipped u q, x) ∷ []) (k ++ (r ++ m))) (sym f)
    (subst (λ w. Rearranged ((k ++ (r ++ l)) ++ (w, x) ∷ []) (k ++ (r ++ (l ++ (u', x) ∷ [])))) (sym e) (added_to_third k r l (u', x)))

raised_one : (k r l r' : List (List Bool × Amp)) (u u' : List Bool) (q : ℕ) (x : Amp) → flipped u q ≡ u' → r' ≡ r ++ (u', x) ∷ [] → Rearranged ((k ++ (r ++ l)) ++ (flipped u q, x) ∷ []) (k ++ (r' ++ l))
raised_one k r l r' u u' q x e f =
    subst (λ m. Rearranged ((k ++ (r ++ l)) ++ (flipped u q, x) ∷ []) (k ++ (m ++ l))) (sym f)
    (subst (λ w. Rearranged ((k ++ (r ++ l)) ++ (w, x) ∷ []) (k ++ ((r ++ (u', x) ∷ []) ++ l))) (sym e) (added_to_second k r l (u', x)))

pub returns-then-as_slice-i : goal.returns-then-as_slice-i
returns-then-as_slice-i c =
    let e = is_flipped c.args.bits c.set.new.self c.as_slice.result.now c.args.q true c.as_slice.ensures c.if-as_slice-i.true c.set.ensures in
    on_ok_weaker c.push.result (lowered_one c.args.self.now.kept c.args.self.now.raised c.args.self.now.lowered c.push.new.self c.args.bits c.set.new.self c.args.q c.args.amp e) c.push.ensures.ok

pub returns-else-as_slice-i : goal.returns-else-as_slice-i
returns-else-as_slice-i c =
    let e = is_flipped c.args.bits c.set-else-as_slice-i.new.self c.as_slice.result.now c.args.q false c.as_slice.ensures c.if-as_slice-i.false c.set-else-as_slice-i.ensures in
    on_ok_weaker c.push-else-as_slice-i.result (raised_one c.args.self.now.kept c.args.self.now.raised c.args.self.now.lowered c.push-else-as_slice-i.new.self c.args.bits c.set-else-as_slice-i.new.self c.args.q c.args.amp e) c.push-else-as_slice-i.ensures.ok
