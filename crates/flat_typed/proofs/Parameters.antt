-- A body's first variables, its parameters: what they show and own where arguments stand at their places.
use Rattle.std.proofs.Common.{◌≡◌, ◌⊎◌, inl, inr, ℕ, zero, suc, ◌+◌, ◌≤◌, ◌<◌, Bool, true, false, cond, not, ◌&&◌, ◌||◌, List, [], ◌∷◌, length, map, refl, sym, ap, ap₂, ◌∙◌, arith}
use Rattle.std.specs.Prelude.{◌==◌}
use Rattle.std.specs.List.{list_any}
use Rattle.std.proofs.lemmas.Bool.Decides.{eqb_tells}
use Rattle.silq_tree.specs.Syntax.{Parameter, Function}
use Rattle.silq_types.specs.declared.need.Need.TheVariants as needs
use Rattle.silq_types.specs.declared.signature.Param.{Param}
use Rattle.silq_types.specs.declared.values.Origin.TheVariants.{Held, Linear, Classical}
use Rattle.silq_types.specs.declared.values.Value.{Value}
use Rattle.silq_types.specs.declared.values.Var.{Var}
use Rattle.silq_types.specs.Types.{Statics, is_linear, is_held}
use Rattle.silq_types.specs.Calls.{is_consumed}
use Rattle.check_scope.specs.Context.{variable}
use Rattle.check_expr.specs.Owners.{at_place, owners, Sole}
use Rattle.check_fun.specs.Program.{param_vars, param_origin}
use Rattle.silq_mean.specs.Meaning.{param_of, names_of}
use Rattle.flat_core.specs.declared.step.WireId.{WireId}
use Rattle.bit_arith.specs.Calls.{Targets}
use Rattle.flat_form.specs.declared.known.Known.{Known}
use Rattle.flat_form.specs.declared.known.Known.TheVariants.{Shown}
use Rattle.flat_form.specs.State.{operands_of}
use Rattle.flat_form.specs.Flat.{as_variable, paired}
use Rattle.flat_form.specs.Names.{AllOf, operands_in, named_by, names}
use Rattle.flat_typed.specs.Places.{Places, is_part, is_shared, has_wires, less_part, bits_for, shown, entries, times_in, holds, holders, linear_holders, carriers}
use Rattle.flat_typed.specs.Relation.{FitsPart, IsTakenOver, is_carried}
use Rattle.flat_typed.specs.Calls.{Three, carried, SparesCarried}
use Rattle.flat_typed.proofs.Ordered.{clash}
use Rattle.flat_typed.proofs.Binding.{none_out}
use Rattle.flat_typed.proofs.Scopes.{taken_param}

-- ---- places of arguments

-- the place of each argument shows its operands
abbrev pub operands_at : List Known → Places
operands_at [] p = []
operands_at (k ∷ ks) zero = operands_of k
operands_at (k ∷ ks) (suc p) = operands_at ks p

abbrev pub AtFrom : ℕ → Places → List Known → Type 0
AtFrom i W [] = Unit {0}
AtFrom i W (k ∷ ks) = (W i ≡ operands_of k) × AtFrom (suc i) W ks

at_from : (i : ℕ) (W : Places) (ks : List Known) → ((m j : ℕ) → m ≡ i + j → W m ≡ operands_at ks j) → AtFrom i W ks
at_from i W [] h = tt
at_from i W (k ∷ ks) h = (h i 0 (omega arith), at_from (suc i) W ks (λ m j e. h m (suc j) (omega (arith, e))))

pub at_places : (ks : List Known) → AtFrom 0 (operands_at ks) ks
at_places ks = at_from 0 (operands_at ks) ks (λ m j e. ap (operands_at ks) (e ∙ (let z : 0 + j ≡ j = omega arith in z)))

-- ---- the variables alone

abbrev pub param_var : ℕ → Parameter → Param → Var
param_var i n p = record { part = variable n.name; ty = p.ty; origin = param_origin p; place = i; consumed = false }

pub params_whole : (i : ℕ) (ns : List Parameter) (ps : List Param) → AllOf (λ v. is_part v ≡ false) (param_vars i ns ps)
params_whole i [] ps = tt
params_whole i (n ∷ ns) [] = tt
params_whole i (n ∷ ns) (p ∷ ps) = (refl, params_whole (suc i) ns ps)

pub params_fit : (W : Places) (all : List Var) (i : ℕ) (ns : List Parameter) (ps : List Param) → AllOf (FitsPart W all) (param_vars i ns ps)
params_fit W all i [] ps = tt
params_fit W all i (n ∷ ns) [] = tt
params_fit W all i (n ∷ ns) (p ∷ ps) = ((λ e. clash (sym e)), params_fit W all (suc i) ns ps)

record Few (i m p : ℕ) (vs : List Var) : Type 0 where
  pub most : owners p vs ≤ 1
  pub before : p < i → owners p vs ≡ 0
  pub behind : i + m ≤ p → owners p vs ≡ 0

params_few : (p i : ℕ) (ns : List Parameter) (ps : List Param) → Few i (length ps) p (param_vars i ns ps)
params_few p i [] ps = record { most = omega arith; before = λ lt. refl; behind = λ le. refl }
params_few p i (n ∷ ns) [] = record { most = omega arith; before = λ lt. refl; behind = λ le. refl }
params_few p i (n ∷ ns) (q ∷ ps) = go (params_few p (suc i) ns ps) (eqb_tells i p)
  where
    go : Few (suc i) (length ps) p (param_vars (suc i) ns ps) → (((i == p) ≡ true) × (i ≡ p)) ⊎ (((i == p) ≡ false) × ((i ≡ p) → ⊥)) → Few i (length (q ∷ ps)) p (param_vars i (n ∷ ns) (q ∷ ps))
    go f (inl e) =
        let a : at_place p i ≡ 1 = ap (λ b. cond b 1 0) e.0 in
        let z = e.1 in
        let r = f.before (omega (arith, z)) in
        record { most = omega (arith, a, r); before = λ lt. absurd (omega (arith, lt, z)); behind = λ le. absurd (omega (arith, le, z)) }
    go f (inr e) =
        let a : at_place p i ≡ 0 = ap (λ b. cond b 1 0) e.0 in
        let m = f.most in
        record { most = omega (arith, a, m); before = λ lt. (let r = f.before (omega (arith, lt)) in omega (arith, a, r)); behind = λ le. (let r = f.behind (omega (arith, le)) in omega (arith, a, r)) }

pub params_sole : (ns : List Parameter) (ps : List Param) → Sole (length ps) (λ p. 0) (record { vars = param_vars 0 ns ps; next = length ps })
params_sole ns ps = record {
  grown = omega arith;
  one = λ p. let a = (params_few p 0 ns ps).most in omega (arith, a);
  ahead = λ p le. let a = (params_few p 0 ns ps).behind (omega (arith, le)) in omega (arith, a);
}

-- ---- with the arguments at their places

-- as a variable the argument shows what its place does, which is what the caller's value shows where it is carried
pub record Entered (after W : Places) (i : ℕ) (p : Param) (v : Value) (k : Known) : Type 0 where
  pub shows : as_variable k ≡ Shown (record { classical = p.ty.classical; shape = p.ty.shape; operands = W i; own = true; began = 0 })
  pub named : (w : WireId) → list_any (named_by w) (W i) ≡ names k w
  pub own : is_carried (taken_param p) v ≡ true → W i ≡ after v.place

abbrev pub AllEntered : Places → Places → ℕ → List Param → List Value → List Known → Type 0
AllEntered after W i (p ∷ ps) (v ∷ vs) (k ∷ ks) = Entered after W i p v k × AllEntered after W (suc i) ps vs ks
AllEntered after W i [] [] [] = Unit {0}
AllEntered after W i ps vs ks = ⊥

pub all_entered : (after W : Places) (used consumed : Targets) (n low i : ℕ) (ps : List Param) (vs : List Value) (ks : List Known) → AtFrom i W ks → Three (IsTakenOver after used consumed n low) (map taken_param ps) vs ks → AllEntered after W i ps vs ks
all_entered after W used consumed n low i [] [] [] a t = tt
all_entered after W used consumed n low i [] [] (k ∷ ks) a t = absurd t
all_entered after W used consumed n low i [] (v ∷ vs) ks a t = absurd t
all_entered after W used consumed n low i (p ∷ ps) [] ks a t = absurd t
all_entered after W used consumed n low i (p ∷ ps) (v ∷ vs) [] a t = absurd t
all_entered after W used consumed n low i (p ∷ ps) (v ∷ vs) (k ∷ ks) a t = (one, all_entered after W used consumed n low (suc i) ps vs ks a.1 t.1)
  where
    h : IsTakenOver after used consumed n low (taken_param p) v k
    h = t.0

    one : Entered after W i p v k
    one = record {
      shows = ap as_variable h.shows ∙ ap₂ (λ s ps. Shown (record { classical = p.ty.classical; shape = s; operands = ps; own = true; began = 0 })) (sym h.fits) (sym a.0);
      named = λ w. ap (list_any (named_by w)) a.0 ∙ sym (ap (λ l. names l w) h.shows);
      own = λ c. a.0 ∙ (h.own c).0;
    }

-- whether a parameter owns its wires, and is Linear
pub wires_by : (h c : Bool) → not (c || is_held (cond h Held (cond c Classical Linear))) ≡ is_consumed (cond h needs.Held needs.Consumed) && not c
wires_by true true = refl
wires_by true false = refl
wires_by false true = refl
wires_by false false = refl

linear_by : (h c : Bool) (n : ℕ) → cond (is_linear (cond h Held (cond c Classical Linear))) (cond (not (c || is_held (cond h Held (cond c Classical Linear)))) n 0) 0 ≡ cond (not (c || is_held (cond h Held (cond c Classical Linear)))) n 0
linear_by true true n = refl
linear_by true false n = refl
linear_by false true n = refl
linear_by false false n = refl

not_shared : (a b : Bool) → a ≡ true → not a ≡ b → b ≡ false
not_shared true b e f = sym f
not_shared false b e f = clash (sym e)

module _ (after W : Places) (all : List Var) (whole : AllOf (λ v. is_part v ≡ false) all) where
  -- a parameter shows its place
  pub param_shows : (i : ℕ) (n : Parameter) (p : Param) → shown W all (param_var i n p) ≡ Shown (bits_for W (param_var i n p))
  param_shows i n p = ap (λ o. less_part o (bits_for W (param_var i n p))) (none_out all n.name whole)

  pub params_env : (f : Function) (statics : Statics) (i : ℕ) (ns : List Parameter) (ps : List Param) (vs : List Value) (ks : List Known) → length ns ≡ length ps → AllEntered after W i ps vs ks
      → paired (names_of (map (param_of f statics) ns)) ks ≡ entries W all (param_vars i ns ps)
  params_env f statics i [] [] [] [] l e = refl
  params_env f statics i [] [] [] (k ∷ ks) l e = absurd e
  params_env f statics i [] [] (v ∷ vs) ks l e = absurd e
  params_env f statics i [] (p ∷ ps) vs ks l e = absurd (omega (arith, l))
  params_env f statics i (n ∷ ns) [] vs ks l e = absurd (omega (arith, l))
  params_env f statics i (n ∷ ns) (p ∷ ps) [] ks l e = absurd e
  params_env f statics i (n ∷ ns) (p ∷ ps) (v ∷ vs) [] l e = absurd e
  params_env f statics i (n ∷ ns) (p ∷ ps) (v ∷ vs) (k ∷ ks) l e =
      ap₂ (λ x rest. (n.name, x) ∷ rest) (e.0.shows ∙ sym (param_shows i n p)) (params_env f statics (suc i) ns ps vs ks (omega (arith, l)) e.1)

  -- they own what the carried arguments do
  pub params_hold : (w : WireId) (i : ℕ) (ns : List Parameter) (ps : List Param) (vs : List Value) (ks : List Known) → length ns ≡ length ps → AllEntered after W i ps vs ks
      → holders W all w (param_vars i ns ps) ≡ carriers after w (carried (map taken_param ps) vs)
  params_hold w i [] [] [] [] l e = refl
  params_hold w i [] [] [] (k ∷ ks) l e = absurd e
  params_hold w i [] [] (v ∷ vs) ks l e = absurd e
  params_hold w i [] (p ∷ ps) vs ks l e = absurd (omega (arith, l))
  params_hold w i (n ∷ ns) [] vs ks l e = absurd (omega (arith, l))
  params_hold w i (n ∷ ns) (p ∷ ps) [] ks l e = absurd e
  params_hold w i (n ∷ ns) (p ∷ ps) (v ∷ vs) [] l e = absurd e
  params_hold w i (n ∷ ns) (p ∷ ps) (v ∷ vs) (k ∷ ks) l e = go (is_carried (taken_param p) v) refl (params_hold w (suc i) ns ps vs ks (omega (arith, l)) e.1)
    where
      rest : List Value
      rest = carried (map taken_param ps) vs

      shown_so : holds W all w (param_var i n p) ≡ cond (is_carried (taken_param p) v) (times_in w (W i)) 0
      shown_so = ap (λ k. cond (has_wires (param_var i n p)) (times_in w (operands_in k)) 0) (param_shows i n p) ∙ ap (λ t. cond t (times_in w (W i)) 0) (wires_by p.held p.ty.classical)

      go : (t : Bool) → is_carried (taken_param p) v ≡ t → holders W all w (param_vars (suc i) ns ps) ≡ carriers after w rest → holds W all w (param_var i n p) + holders W all w (param_vars (suc i) ns ps) ≡ carriers after w (cond t (v ∷ rest) rest)
      go true c h =
          let a : holds W all w (param_var i n p) ≡ times_in w (after v.place) = shown_so ∙ (ap (λ t. cond t (times_in w (W i)) 0) c ∙ ap (times_in w) (e.0.own c)) in
          omega (arith, a, h)
      go false c h =
          let a : holds W all w (param_var i n p) ≡ 0 = shown_so ∙ ap (λ t. cond t (times_in w (W i)) 0) c in
          omega (arith, a, h)

  -- and are Linear
  pub params_linear : (w : WireId) (i : ℕ) (ns : List Parameter) (ps : List Param) → linear_holders W all w (param_vars i ns ps) ≡ holders W all w (param_vars i ns ps)
  params_linear w i [] ps = refl
  params_linear w i (n ∷ ns) [] = refl
  params_linear w i (n ∷ ns) (p ∷ ps) = ap₂ (λ a b. a + b) (linear_by p.held p.ty.classical (times_in w (operands_in (shown W all (param_var i n p))))) (params_linear w (suc i) ns ps)

  -- those that share their wires name none that a carried argument owns
  pub params_share : (w : WireId) (i : ℕ) (ns : List Parameter) (ps : List Param) (vs : List Value) (ks : List Known) (own : List Value) → 1 ≤ carriers after w own → AllEntered after W i ps vs ks
      → Three (SparesCarried after own) (map taken_param ps) vs ks → AllOf (λ v. is_shared v ≡ true → names (shown W all v) w ≡ false) (param_vars i ns ps)
  params_share w i [] ps vs ks own le e t = tt
  params_share w i (n ∷ ns) [] vs ks own le e t = tt
  params_share w i (n ∷ ns) (p ∷ ps) [] ks own le e t = absurd e
  params_share w i (n ∷ ns) (p ∷ ps) (v ∷ vs) [] own le e t = absurd e
  params_share w i (n ∷ ns) (p ∷ ps) (v ∷ vs) (k ∷ ks) own le e t = (
    λ s. ap (λ x. names x w) (param_shows i n p) ∙ (e.0.named w ∙ t.0 (not_shared (is_shared (param_var i n p)) (is_carried (taken_param p) v) s (wires_by p.held p.ty.classical)) w le),
    params_share w (suc i) ns ps vs ks own le e.1 t.1,
  )
