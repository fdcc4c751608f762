-- The blocks of a place: its indices, and its use.
use Rattle.std.proofs.Common.{◌≡◌, refl, not, List, [], ◌∷◌, Option, Some, None, Ok, Err, ℤ, ◌∙◌, sym, ap, subst}
use Rattle.silq_tree.specs.declared.node.NameId.{NameId}
use Rattle.silq_tree.specs.declared.node.ExprId.{ExprId}
use Rattle.silq_tree.specs.declared.node.Spot.{Spot}
use Rattle.silq_tree.specs.Syntax.{Expression, Place}
use Rattle.silq_tree.specs.Standing as standing
use Rattle.static_num.specs.declared.values.StaticFault.{StaticFault}
use Rattle.static_num.specs.Static.{eval_of}
use Rattle.silq_types.specs.declared.values.Part.{Part}
use Rattle.silq_types.specs.declared.values.Value.{Value}
use Rattle.silq_types.specs.Types.{Statics, place_indices, place_name, at}
use Rattle.silq_mean.specs.Written.{needed_at}
use Rattle.silq_types.specs.Rules.{unknown_name, not_static}
use Rattle.silq_types.specs.Known.{Signatures}
use Rattle.silq_types.specs.declared.need.Need.{Need}
use Rattle.check_scope.specs.Context.{Scope, rules, of_result, known_names, needed, all_needed, indices, part_at, variable, is_known_name, find_var}
use Rattle.check_scope.specs.Places.{use_found, use_place}
use Rattle.check_scope.specs.State.{State}
use Rattle.check_scope.specs.Steps.{Reads, Stops}
use Rattle.check_scope.specs.declared.fault.CheckFault.TheVariants as checks
use Rattle.check_scope.specs.declared.fault.ExprFault.{ExprFault}
use Rattle.check_scope.specs.declared.fault.ExprFault.TheVariants as stops
use Rattle.check_scope.proofs.Sequence.{keeps_refl, reads_bind, reads_then, reads_back, reads_variables, stops_bind, stops_then, stops_later, stops_after}

-- ---- a value that has to be static

value_told : (met : Signatures) (statics : Statics) (e : Expression) (spot : Spot) (z : ℤ) (s : State) → eval_of statics e ≡ Ok z → Reads met (of_result (needed_at statics e spot)) s z s
value_told met statics e spot z s h = rw h (reads_back met z s)

fault_told : (met : Signatures) (statics : Statics) (e : Expression) (spot : Spot) (f : StaticFault) (s : State) → eval_of statics e ≡ Err f → Stops met (of_result (needed_at statics e spot)) s (stops.Fault (checks.Broken not_static spot)) s
fault_told met statics e spot f s h = rw h (record { runs = refl; keeps = keeps_refl s })

pub needed_reads : (met : Signatures) (sc : Scope) (e : Expression) (z : ℤ) (s : State) → Reads met (known_names sc e) s tt s → eval_of sc.statics e ≡ Ok z → Reads met (needed sc e) s z s
needed_reads met sc e z s r h = reads_then met _ _ _ _ _ _ _ r (value_told met sc.statics e (at e) z s h)

pub needed_stops : (met : Signatures) (sc : Scope) (e : Expression) (f : StaticFault) (spot : Spot) (s : State) → Reads met (known_names sc e) s tt s → eval_of sc.statics e ≡ Err f → spot ≡ at e
    → Stops met (needed sc e) s (stops.Fault (checks.Broken not_static spot)) s
needed_stops met sc e f spot s r h p = rw p (stops_after met _ _ _ _ _ _ _ r (fault_told met sc.statics e (at e) f s h))

pub needed_unknown : (met : Signatures) (sc : Scope) (e : Expression) (f : ExprFault) (s : State) → Stops met (known_names sc e) s f s → Stops met (needed sc e) s f s
needed_unknown met sc e f s q = stops_then met _ _ _ _ _ q

-- ---- the indices of a place

module _ (met : Signatures) (sc : Scope) (s : State) (tree : ExprId → Expression) (name : NameId) (i : ExprId) where
  pub one_index : (second : Option ExprId) (z : ℤ) → second ≡ None → Reads met (needed sc (tree i)) s z s → Reads met (all_needed (place_indices (standing.part_of tree name (Some i) second)) sc) s (z ∷ []) s
  one_index second z e r = rw e (reads_bind met _ _ _ _ _ _ _ r (reads_bind met _ _ _ _ _ _ _ (reads_back met _ _) (reads_back met _ _)))

  pub two_indices : (second : Option ExprId) (j : ExprId) (y z : ℤ) → second ≡ Some j → Reads met (needed sc (tree i)) s y s → Reads met (needed sc (tree j)) s z s
      → Reads met (all_needed (place_indices (standing.part_of tree name (Some i) second)) sc) s (y ∷ z ∷ []) s
  two_indices second j y z e q r =
      rw e (reads_bind met _ _ _ _ _ _ _ q (reads_bind met _ _ _ _ _ _ _ (reads_bind met _ _ _ _ _ _ _ r (reads_bind met _ _ _ _ _ _ _ (reads_back met _ _) (reads_back met _ _))) (reads_back met _ _)))

  pub first_stops : (second : Option ExprId) (f : ExprFault) → Stops met (needed sc (tree i)) s f s → Stops met (all_needed (place_indices (standing.part_of tree name (Some i) second)) sc) s f s
  first_stops None f q = stops_bind met _ _ _ _ _ q
  first_stops (Some j) f q = stops_bind met _ _ _ _ _ q

  pub second_stops : (second : Option ExprId) (j : ExprId) (y : ℤ) (f : ExprFault) → second ≡ Some j → Reads met (needed sc (tree i)) s y s → Stops met (needed sc (tree j)) s f s
      → Stops met (all_needed (place_indices (standing.part_of tree name (Some i) second)) sc) s f s
  second_stops second j y f e r q = rw e (stops_later met _ _ _ _ _ _ _ r (stops_bind met _ _ _ _ _ (stops_bind met _ _ _ _ _ q)))

pub name_of_part : (tree : ExprId → Expression) (name : NameId) (first second : Option ExprId) → place_name (standing.part_of tree name first second) ≡ name
name_of_part tree name None second = refl
name_of_part tree name (Some i) None = refl
name_of_part tree name (Some i) (Some j) = refl

name_at : (name : NameId) (zs : List ℤ) → (part_at name zs).name ≡ name
name_at name [] = refl
name_at name (i ∷ []) = refl
name_at name (i ∷ j ∷ zs) = refl

-- ---- the use of a place

module _ (met : Signatures) (sc : Scope) (written : Place) (spot : Spot) (need : Need) (name : NameId) (part : Part) (s : State) (same : place_name written ≡ name) (is : part ≡ part_at name (indices part)) where
  -- by the variable's name and the part's indices
  here : part ≡ part_at (place_name written) (indices part)
  here = is ∙ ap (λ (n : NameId). part_at n (indices part)) (sym same)

  named : part.name ≡ place_name written
  named = ap (λ (p : Part). p.name) is ∙ name_at name (indices part) ∙ sym same

  found_reads : (p : Part) (n : NameId) (v : Value) (now : State) → part ≡ p → part.name ≡ n
      → Reads met (use_found sc spot need part s.vars (find_var s.vars part) (find_var s.vars (variable part.name))) s v now → Reads met (use_found sc spot need p s.vars (find_var s.vars p) (find_var s.vars (variable n))) s v now
  found_reads p n v now e f r =
      subst (λ m. Reads met (use_found sc spot need p s.vars (find_var s.vars p) (find_var s.vars (variable m))) s v now) f
      (subst (λ x. Reads met (use_found sc spot need x s.vars (find_var s.vars x) (find_var s.vars (variable part.name))) s v now) e r)

  found_stops : (p : Part) (n : NameId) (v : ExprFault) (now : State) → part ≡ p → part.name ≡ n
      → Stops met (use_found sc spot need part s.vars (find_var s.vars part) (find_var s.vars (variable part.name))) s v now → Stops met (use_found sc spot need p s.vars (find_var s.vars p) (find_var s.vars (variable n))) s v now
  found_stops p n v now e f r =
      subst (λ m. Stops met (use_found sc spot need p s.vars (find_var s.vars p) (find_var s.vars (variable m))) s v now) f
      (subst (λ x. Stops met (use_found sc spot need x s.vars (find_var s.vars x) (find_var s.vars (variable part.name))) s v now) e r)

  pub place_reads : (v : Value) (now : State) → Reads met (all_needed (place_indices written) sc) s (indices part) s → Reads met (rules spot ((not (is_known_name sc s.vars name), unknown_name) ∷ [])) s tt s
      → Reads met (use_found sc spot need part s.vars (find_var s.vars part) (find_var s.vars (variable part.name))) s v now → Reads met (use_place sc written spot need) s v now
  place_reads v now q k r =
      reads_bind met _ _ _ _ _ _ _ q (reads_bind met _ _ _ _ _ _ _ (reads_variables met s)
      (reads_then met _ _ _ _ _ _ _ (subst (λ n. Reads met (rules spot ((not (is_known_name sc s.vars n), unknown_name) ∷ [])) s tt s) (sym same) k) (found_reads _ _ v now here named r)))

  pub place_stops : (f : ExprFault) (now : State) → Reads met (all_needed (place_indices written) sc) s (indices part) s → Reads met (rules spot ((not (is_known_name sc s.vars name), unknown_name) ∷ [])) s tt s
      → Stops met (use_found sc spot need part s.vars (find_var s.vars part) (find_var s.vars (variable part.name))) s f now → Stops met (use_place sc written spot need) s f now
  place_stops f now q k r =
      stops_later met _ _ _ _ _ _ _ q (stops_later met _ _ _ _ _ _ _ (reads_variables met s)
      (stops_after met _ _ _ _ _ _ _ (subst (λ n. Reads met (rules spot ((not (is_known_name sc s.vars n), unknown_name) ∷ [])) s tt s) (sym same) k) (found_stops _ _ f now here named r)))

  pub place_unknown : (f : ExprFault) → Reads met (all_needed (place_indices written) sc) s (indices part) s → Stops met (rules spot ((not (is_known_name sc s.vars name), unknown_name) ∷ [])) s f s → Stops met (use_place sc written spot need) s f s
  place_unknown f q k =
      stops_later met _ _ _ _ _ _ _ q (stops_later met _ _ _ _ _ _ _ (reads_variables met s)
      (stops_then met _ _ _ _ _ (subst (λ n. Stops met (rules spot ((not (is_known_name sc s.vars n), unknown_name) ∷ [])) s f s) (sym same) k)))

pub place_needs : (met : Signatures) (sc : Scope) (written : Place) (spot : Spot) (need : Need) (f : ExprFault) (s : State) → Stops met (all_needed (place_indices written) sc) s f s → Stops met (use_place sc written spot need) s f s
place_needs met sc written spot need f s q = stops_bind met _ _ _ _ _ q
