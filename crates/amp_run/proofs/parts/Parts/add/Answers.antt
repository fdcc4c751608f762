use Rattle.std.proofs.Common.{◌≡◌, ℕ, Bool, false, cond, List, [], ◌∷◌, ◌++◌, map, get_or, ap, sym, ◌∙◌, subst}
use Rattle.std.proofs.lemmas.List.{append-nil}
use Rattle.std.proofs.lemmas.Result.{on_ok_weaker}
use Rattle.amp_core.specs.declared.Amp.{Amp}
use Rattle.amp_core.specs.Amplitude.{times}
use Rattle.sum_laws.specs.Rearranged.{Rearranged}
use Rattle.sum_laws.specs.Terms.{branched}
use Rattle.sum_laws.proofs.Rearranged.{Rearranged-refl}
use Rattle.gate_core.specs.Meaning.{bit_at, flipped}
use Rattle.amp_run.specs.Column.{column_branches}
use Rattle.amp_run.specs.Parts.{all_parts}
use Rattle.amp_run.specs.declared.column.Column.{Column}
use Rattle.amp_run.proofs.Joining.{added_to_first, added_two}
use Rattle.amp_run.proofs.Halving.{two_branches}
use Rattle.amp_run.proofs.parts.Parts.add.Goals as goal

-- the branches of a column that is known
made_by : (old new : List (List Bool × Amp)) (u : List Bool) (x : Amp) (given known : Column) → given ≡ known → Rearranged (old ++ map (branched x) (column_branches known u)) new → Rearranged (old ++ map (branched x) (column_branches given u)) new
made_by old new u x given known e h = subst (λ k. Rearranged (old ++ map (branched x) (column_branches k u)) new) (sym e) h

nothing_added : (old : List (List Bool × Amp)) → Rearranged (old ++ []) old
nothing_added old = subst (λ zs. Rearranged zs old) (sym (append-nil old)) (Rearranged-refl old)

kept_one : (k r l k' : List (List Bool × Amp)) (u : List Bool) (x x' : Amp) → x' ≡ x → k' ≡ k ++ (u, x') ∷ [] → Rearranged ((k ++ (r ++ l)) ++ (u, x) ∷ []) (k' ++ (r ++ l))
kept_one k r l k' u x x' e f =
    subst (λ m. Rearranged ((k ++ (r ++ l)) ++ (u, x) ∷ []) (m ++ (r ++ l))) (sym f)
    (subst (λ y. Rearranged ((k ++ (r ++ l)) ++ (u, x) ∷ []) ((k ++ (u, y) ∷ []) ++ (r ++ l))) (sym e) (added_to_first k r l (u, x)))

pub returns-in-Gone : goal.returns-in-Gone
returns-in-Gone c = made_by (all_parts c.args.self.now) (all_parts c.args.self.now) c.args.bits c.args.amp c.args.column _ c.in-Gone.is (nothing_added (all_parts c.args.self.now))

pub returns-in-Turned : goal.returns-in-Turned
returns-in-Turned c =
    on_ok_weaker c.push.result
    (λ e. made_by (all_parts c.args.self.now) _ c.args.bits c.args.amp c.args.column _ c.in-Turned.is
    (kept_one c.args.self.now.kept c.args.self.now.raised c.args.self.now.lowered c.push.new.self c.args.bits (times c.in-Turned.eighths 0 c.args.amp) c.mul_w.result c.mul_w.ensures e))
    c.push.ensures.ok

other_one : (old new : List (List Bool × Amp)) (u u' : List Bool) (q : ℕ) (x x' : Amp) → u' ≡ u → x' ≡ x → Rearranged (old ++ (flipped u' q, x') ∷ []) new → Rearranged (old ++ (flipped u q, x) ∷ []) new
other_one old new u u' q x x' e f h = subst (λ w. Rearranged (old ++ (flipped w q, x) ∷ []) new) e (subst (λ y. Rearranged (old ++ (flipped u' q, y) ∷ []) new) f h)

signed : (u v : List Bool) (q s : ℕ) (x y : Amp) → v ≡ u → s ≡ cond (get_or v q false) 4 0 → y ≡ times s 1 x → y ≡ times (cond (bit_at u q) 4 0) 1 x
signed u v q s x y e f g = g ∙ ap (λ j. times j 1 x) (f ∙ ap (λ w. cond (get_or w q false) 4 0) e)

pub returns-in_ok-push-in-Halved : goal.returns-in_ok-push-in-Halved
returns-in_ok-push-in-Halved c =
    let old = all_parts c.args.self.now in
    let sign = signed c.args.bits c.as_slice-in-Halved.result.now c.in-Halved.q c.sign_of-sign.result c.args.amp c.halved.result c.as_slice-in-Halved.ensures c.sign_of-sign.ensures c.halved.ensures in
    let first = kept_one c.args.self.now.kept c.args.self.now.raised c.args.self.now.lowered c.push-in-Halved.new.self c.args.bits (times (cond (bit_at c.args.bits c.in-Halved.q) 4 0) 1 c.args.amp) c.halved.result sign c.in_ok-push-in-Halved.ensures.ok in
    let same = c.in_ok-other-in-Halved.ensures ∙ c.as_slice.ensures in
    on_ok_weaker c.add_flipped-in-Halved.result
    (λ second. made_by old _ c.args.bits c.args.amp c.args.column _ c.in-Halved.is
    (added_two old _ _ _ _ _ (two_branches c.args.bits c.in-Halved.q c.args.amp) first (other_one _ _ c.args.bits c.in_ok-other-in-Halved.other c.in-Halved.q (times 0 1 c.args.amp) c.halved-in-Halved.result same c.halved-in-Halved.ensures second)))
    c.add_flipped-in-Halved.ensures
