-- The types of parameters and of results, one after another.
use Rattle.std.specs.Prelude.{◌≡◌, refl, ℕ, ◌+◌, ◌<◌, zero, suc, Bool, ◌||◌, ◌&&◌, if◌then◌else◌, List, [], ◌∷◌, ◌++◌, length, map, flat_map, drop, Option, Some, None, Result, Ok, Err}
use Rattle.std.proofs.Common.{get_or, append_assoc}
use Rattle.std.proofs.lemmas.List.{append-nil, at_drop_more}
use mathlib.Core.Path.{sym, ap, ◌∙◌}
use native.Mathlib.Omega.{arith}
use Rattle.silq_tree.specs.declared.node.Spot.{Spot}
use Rattle.silq_tree.specs.declared.node.Mark.{Mark}
use Rattle.silq_tree.specs.declared.node.ExprId.{ExprId}
use Rattle.silq_tree.specs.declared.node.TypeNode.{TypeNode}
use Rattle.silq_tree.specs.declared.node.ParamNode.{ParamNode}
use Rattle.silq_tree.specs.Children.{type_exprs, param_exprs, AreExprsBelow}
use Rattle.silq_tree.specs.Standing.{type_of, sized, param_of}
use Rattle.silq_tree.specs.Syntax.{Expression, Function}
use Rattle.silq_tree.proofs.Lists.{exprs_below_front, exprs_below_back}
use Rattle.silq_types.specs.declared.types.Ty.{Ty}
use Rattle.silq_types.specs.declared.signature.Param.{Param}
use Rattle.silq_types.specs.Rules.{Fault, rule, and_then, lifted_without_result}
use Rattle.silq_types.specs.Types.{Statics, is_lifted}
use Rattle.silq_mean.specs.Written.{header_type, written_at, is_empty, param_types, result_types, Header, header_of}
use Rattle.check_scope.specs.Steps.{IsFirst}
use Rattle.check_scope.specs.declared.fault.CheckFault.{CheckFault}
use Rattle.check_scope.proofs.Chained.{then_given, then_first, then_later, first_along}

-- the expressions of one of them
pub param_below : (n : ℕ) (ps : List ParamNode) (i : ℕ) (d : ParamNode) → AreExprsBelow n (flat_map param_exprs ps) → i < length ps → AreExprsBelow n (param_exprs (get_or ps i d))
param_below n [] i d b l = absurd (omega arith)
param_below n (p ∷ ps) zero d b l = exprs_below_front n (param_exprs p) (flat_map param_exprs ps) b
param_below n (p ∷ ps) (suc i) d b l = param_below n ps i d (exprs_below_back n (param_exprs p) (flat_map param_exprs ps) b) (omega arith)

pub result_below : (n : ℕ) (rs : List TypeNode) (i : ℕ) (d : TypeNode) → AreExprsBelow n (flat_map type_exprs rs) → i < length rs → AreExprsBelow n (type_exprs (get_or rs i d))
result_below n [] i d b l = absurd (omega arith)
result_below n (r ∷ rs) zero d b l = exprs_below_front n (type_exprs r) (flat_map type_exprs rs) b
result_below n (r ∷ rs) (suc i) d b l = result_below n rs i d (exprs_below_back n (type_exprs r) (flat_map type_exprs rs) b) (omega arith)

-- where a type stands
sized_at : (at : ExprId → Expression) (t : TypeNode) (o : Option ExprId) → written_at (sized at t o) ≡ t.at
sized_at at t None = refl
sized_at at t (Some n) = refl

-- a list of types behind those that are known
abbrev pub behind : {A : Type 0} → List A → Result (List A) Fault → Result (List A) Fault
behind done r = and_then r (λ ts. Ok (done ++ ts))

pub behind_start : {A : Type 0} (r : Result (List A) Fault) → r ≡ behind [] r
behind_start (Ok ts) = refl
behind_start (Err e) = refl

pub behind_none : {A : Type 0} (done : List A) → behind done (Ok []) ≡ Ok done
behind_none done = ap (λ ts. Ok ts) (append-nil done)

behind_more : {A : Type 0} (done : List A) (t : A) (r : Result (List A) Fault) → behind done (and_then r (λ ts. Ok (t ∷ ts))) ≡ behind (done ++ t ∷ []) r
behind_more done t (Ok ts) = ap (λ us. Ok us) (sym (append_assoc done (t ∷ []) ts))
behind_more done t (Err e) = refl

module _ (statics : Statics) (place_of : Spot → Spot) (at : ExprId → Expression) where
  abbrev pub typed_at : TypeNode → Result Ty Fault
  typed_at t = header_type statics (type_of at t) (place_of t.at)

  -- the type of one of them is known
  pub results_turn : (rs : List TypeNode) (i : ℕ) (d : TypeNode) (done : List Ty) (t : Ty) → i < length rs → typed_at (get_or rs i d) ≡ Ok t
      → behind done (result_types statics place_of (map (type_of at) (drop i rs))) ≡ behind (done ++ t ∷ []) (result_types statics place_of (map (type_of at) (drop (i + 1) rs)))
  results_turn rs i d done t l e =
      let r = get_or rs i d in
      let rest = result_types statics place_of (map (type_of at) (drop (i + 1) rs)) in
      at_drop_more (λ xs. behind done (result_types statics place_of (map (type_of at) xs))) rs i d l
      ∙ ap (λ s. behind done (and_then (header_type statics (type_of at r) (place_of s)) (λ t. and_then rest (λ ts. Ok (t ∷ ts))))) (sized_at at r r.size)
      ∙ ap (λ x. behind done x) (then_given (typed_at r) (λ t. and_then rest (λ ts. Ok (t ∷ ts))) t e)
      ∙ behind_more done t rest

  -- or is not
  pub results_stop : (rs : List TypeNode) (i : ℕ) (d : TypeNode) (done : List Ty) (f : CheckFault) → i < length rs → IsFirst f (typed_at (get_or rs i d))
      → IsFirst f (behind done (result_types statics place_of (map (type_of at) (drop i rs))))
  results_stop rs i d done f l h =
      let r = get_or rs i d in
      let rest = result_types statics place_of (map (type_of at) (drop (i + 1) rs)) in
      first_along f _ _ (at_drop_more (λ xs. behind done (result_types statics place_of (map (type_of at) xs))) rs i d l
      ∙ ap (λ s. behind done (and_then (header_type statics (type_of at r) (place_of s)) (λ t. and_then rest (λ ts. Ok (t ∷ ts))))) (sized_at at r r.size))
      (then_first f (and_then (typed_at r) (λ t. and_then rest (λ ts. Ok (t ∷ ts)))) _ (then_first f (typed_at r) _ h))

  module _ (m : Mark) where
    abbrev pub param_at : ParamNode → Ty → Param
    param_at p t = record { ty = t; held = p.held || is_lifted m }

    pub params_turn : (ps : List ParamNode) (i : ℕ) (d : ParamNode) (done : List Param) (t : Ty) → i < length ps → typed_at (get_or ps i d).ty ≡ Ok t
        → behind done (param_types statics m place_of (map (param_of at) (drop i ps)))
        ≡ behind (done ++ param_at (get_or ps i d) t ∷ []) (param_types statics m place_of (map (param_of at) (drop (i + 1) ps)))
    params_turn ps i d done t l e =
        let p = get_or ps i d in
        let rest = param_types statics m place_of (map (param_of at) (drop (i + 1) ps)) in
        at_drop_more (λ xs. behind done (param_types statics m place_of (map (param_of at) xs))) ps i d l
        ∙ ap (λ s. behind done (and_then (header_type statics (type_of at p.ty) (place_of s)) (λ t. and_then rest (λ ts. Ok (param_at p t ∷ ts))))) (sized_at at p.ty p.ty.size)
        ∙ ap (λ x. behind done x) (then_given (typed_at p.ty) (λ t. and_then rest (λ ts. Ok (param_at p t ∷ ts))) t e)
        ∙ behind_more done (param_at p t) rest

    pub params_stop : (ps : List ParamNode) (i : ℕ) (d : ParamNode) (done : List Param) (f : CheckFault) → i < length ps → IsFirst f (typed_at (get_or ps i d).ty)
        → IsFirst f (behind done (param_types statics m place_of (map (param_of at) (drop i ps))))
    params_stop ps i d done f l h =
        let p = get_or ps i d in
        let rest = param_types statics m place_of (map (param_of at) (drop (i + 1) ps)) in
        first_along f _ _ (at_drop_more (λ xs. behind done (param_types statics m place_of (map (param_of at) xs))) ps i d l
        ∙ ap (λ s. behind done (and_then (header_type statics (type_of at p.ty) (place_of s)) (λ t. and_then rest (λ ts. Ok (param_at p t ∷ ts))))) (sized_at at p.ty p.ty.size))
        (then_first f (and_then (typed_at p.ty) (λ t. and_then rest (λ ts. Ok (param_at p t ∷ ts)))) _ (then_first f (typed_at p.ty) _ h))

-- ---- a whole header

module _ (statics : Statics) (place_of : Spot → Spot) (f : Function) where
  pub header_without_params : (c : CheckFault) → IsFirst c (param_types statics f.mark place_of f.params) → IsFirst c (header_of statics place_of f)
  header_without_params c h = then_first c (param_types statics f.mark place_of f.params) _ h

  module _ (ps : List Param) (e : param_types statics f.mark place_of f.params ≡ Ok ps) where
    pub header_without_results : (c : CheckFault) → IsFirst c (result_types statics place_of f.results) → IsFirst c (header_of statics place_of f)
    header_without_results c h = then_later c (param_types statics f.mark place_of f.params) _ ps e (then_first c (result_types statics place_of f.results) _ h)

    abbrev pub whole_header : List Ty → Bool → Result Header Fault
    whole_header rs b = if b then Err (rule lifted_without_result f.at) else Ok (record { params = ps; results = rs })

    pub header_given : (rs : List Ty) (b : Bool) → result_types statics place_of f.results ≡ Ok rs → b ≡ (is_lifted f.mark && is_empty f.results) → header_of statics place_of f ≡ whole_header rs b
    header_given rs b h t =
        then_given (param_types statics f.mark place_of f.params) _ ps e
        ∙ then_given (result_types statics place_of f.results) _ rs h
        ∙ ap (λ x. whole_header rs x) (sym t)
