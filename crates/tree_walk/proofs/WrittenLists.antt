-- The parameters and results of a function's node, and lists that are walked side by side.
use Rattle.std.specs.Prelude.{◌≡◌, refl, ℕ, min, nat_le, Bool, true, false, cond, ◌||◌, if◌then◌else◌, List, [], ◌∷◌, ◌++◌, length, map, drop, ℤ}
use Rattle.std.proofs.lemmas.Bool.{leb-true, leb-false}
use Rattle.std.proofs.lemmas.List.{drop_all, append-nil}
use mathlib.Core.Path.{◌∙◌, ap, sym}
use native.Mathlib.Omega.{arith}
use Rattle.silq_tree.specs.declared.node.NameId.{NameId}
use Rattle.silq_tree.specs.declared.node.ExprId.{ExprId}
use Rattle.silq_tree.specs.declared.node.StmtId.{StmtId}
use Rattle.silq_tree.specs.declared.node.Fun.{Fun}
use Rattle.silq_tree.specs.declared.node.TypeNode.{TypeNode}
use Rattle.silq_tree.specs.declared.node.ParamNode.{ParamNode}
use Rattle.silq_tree.specs.Syntax.{Expression, Statement, Function}
use Rattle.silq_tree.specs.Standing.{fun_grown, param_of, type_of}
use Rattle.silq_types.specs.Types.{Statics, is_lifted}
use Rattle.silq_types.specs.declared.types.Ty.{Ty}
use Rattle.silq_types.specs.declared.need.Need.{Need}
use Rattle.silq_types.specs.declared.need.Need.TheVariants as needs
use Rattle.silq_types.specs.Calls.{is_consumed}
use Rattle.silq_types.specs.Programs.{paired}
use Rattle.silq_mean.specs.Effect.{Effect, step, give_part, ◌>>◌}
use Rattle.silq_mean.specs.declared.receiver.Receiver.TheVariants.{CallResult, EntryOutput}
use Rattle.silq_mean.specs.Meaning as meaning
use Rattle.tree_walk.specs.Written.{param_taker, param_shape, node_type, held_names, held_nodes, give_names}

module _ (at : ExprId → Expression) (statics : Statics) where
  takers_list : (f : Function) (ps : List ParamNode)
      → meaning.takers_of (map (meaning.param_of f statics) (map (param_of at) ps)) ≡ map (param_taker statics at f.mark) ps
  takers_list f [] = refl
  takers_list f (p ∷ ps) = ap (λ rs. param_taker statics at f.mark p ∷ rs) (takers_list f ps)

  shapes_list : (f : Function) (ps : List ParamNode)
      → map (λ p. p.2.shape) (map (meaning.param_of f statics) (map (param_of at) ps)) ≡ map (param_shape statics at) ps
  shapes_list f [] = refl
  shapes_list f (p ∷ ps) = ap (λ hs. param_shape statics at p ∷ hs) (shapes_list f ps)

  names_list : (f : Function) (ps : List ParamNode)
      → meaning.names_of (map (meaning.param_of f statics) (map (param_of at) ps)) ≡ map (λ (p : ParamNode). p.name) ps
  names_list f [] = refl
  names_list f (p ∷ ps) = ap (λ ns. p.name ∷ ns) (names_list f ps)

  held_one : (b : Bool) (x : NameId) (xs ys : List NameId) → xs ≡ ys
      → (if is_consumed (if b then needs.Held else needs.Consumed) then xs else x ∷ xs) ≡ (if b then x ∷ ys else ys)
  held_one true x xs ys e = ap (λ ns. x ∷ ns) e
  held_one false x xs ys e = e

  held_list : (f : Function) (ps : List ParamNode) → held_names (map (meaning.param_of f statics) (map (param_of at) ps)) ≡ held_nodes f.mark ps
  held_list f [] = refl
  held_list f (p ∷ ps) = held_one (p.held || is_lifted f.mark) p.name _ _ (held_list f ps)

  results_list : (entry : Bool) (ts : List TypeNode)
      → map (λ t. cond entry EntryOutput CallResult (meaning.type_of statics t)) (map (type_of at) ts)
      ≡ map (λ t. cond entry EntryOutput CallResult (node_type statics at t)) ts
  results_list entry [] = refl
  results_list entry (t ∷ ts) = ap (λ rs. cond entry EntryOutput CallResult (node_type statics at t) ∷ rs) (results_list entry ts)

  module _ (stmt : StmtId → Statement) (f : Function) (g : Fun) (e : f ≡ fun_grown at stmt g) where
    pub takers_are : meaning.takers_of (meaning.params_of f statics) ≡ map (param_taker statics at g.mark) g.params
    takers_are = ap (λ h. meaning.takers_of (meaning.params_of h statics)) e ∙ takers_list (fun_grown at stmt g) g.params

    pub shapes_are : map (λ p. p.2.shape) (meaning.params_of f statics) ≡ map (param_shape statics at) g.params
    shapes_are = ap (λ h. map (λ p. p.2.shape) (meaning.params_of h statics)) e ∙ shapes_list (fun_grown at stmt g) g.params

    pub names_are : meaning.names_of (meaning.params_of f statics) ≡ map (λ (p : ParamNode). p.name) g.params
    names_are = ap (λ h. meaning.names_of (meaning.params_of h statics)) e ∙ names_list (fun_grown at stmt g) g.params

    pub held_are : held_names (meaning.params_of f statics) ≡ held_nodes g.mark g.params
    held_are = ap (λ h. held_names (meaning.params_of h statics)) e ∙ held_list (fun_grown at stmt g) g.params

    pub results_are : (entry : Bool)
        → map (λ t. cond entry EntryOutput CallResult (meaning.type_of statics t)) f.results
        ≡ map (λ t. cond entry EntryOutput CallResult (node_type statics at t)) g.results
    results_are entry =
        ap (λ (h : Function). map (λ t. cond entry EntryOutput CallResult (meaning.type_of statics t)) h.results) e ∙ results_list entry g.results

-- the const parameters are given by their names
held_given : (b : Bool) (x : NameId) (xs ys : Effect) (ns : List NameId) → xs ≡ give_names ns
    → (if b then xs else (step (give_part needs.Held x []) >> xs)) ≡ give_names (if b then ns else x ∷ ns)
held_given true x xs ys ns e = e
held_given false x xs ys ns e = ap (λ f. step (give_part needs.Held x []) >> f) e

pub gives_names : (ps : List (NameId × Need × Ty)) → meaning.give_held ps ≡ give_names (held_names ps)
gives_names [] = refl
gives_names (p ∷ ps) = held_given (is_consumed p.1) p.0 (meaning.give_held ps) (meaning.give_held ps) (held_names ps) (gives_names ps)

pub told_held : (ps : List (NameId × Need × Ty)) (xs : List NameId) → xs ≡ held_names ps → meaning.give_held ps ≡ give_names xs
told_held ps xs e = gives_names ps ∙ ap give_names (sym e)

-- ---- names with their values

paired_none : (xs : List NameId) → paired xs [] ≡ []
paired_none [] = refl
paired_none (x ∷ xs) = refl

paired_end : (xs : List NameId) (vs : List ℤ) (n : ℕ) → n ≡ min (length xs) (length vs) → paired (drop n xs) (drop n vs) ≡ []
paired_end xs vs n is = go (nat_le (length xs) (length vs)) refl
  where
    go : (b : Bool) → nat_le (length xs) (length vs) ≡ b → paired (drop n xs) (drop n vs) ≡ []
    go true e = ap (λ l. paired l (drop n vs)) (drop_all n xs (omega (arith, is, leb-true (length xs) (length vs) e)))
    go false e = ap (λ l. paired (drop n xs) l) (drop_all n vs (omega (arith, is, leb-false (length xs) (length vs) e))) ∙ paired_none (drop n xs)

pub all_paired : (xs : List NameId) (vs : List ℤ) (n : ℕ) (done : Statics) → n ≡ min (length xs) (length vs)
    → done ++ paired (drop n xs) (drop n vs) ≡ paired xs vs → done ≡ paired xs vs
all_paired xs vs n done is e = sym (append-nil done) ∙ sym (ap (λ l. done ++ l) (paired_end xs vs n is)) ∙ e
