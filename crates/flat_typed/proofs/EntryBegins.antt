-- Where the entry begins: its parameters stand, each with input wires of its own.
use Rattle.std.proofs.Common.{◌≡◌, ℕ, suc, ◌+◌, ◌≤◌, Bool, true, false, cond, not, ◌&&◌, List, [], ◌∷◌, map, refl, sym, ap, ap₂, ◌∙◌, arith}
use Rattle.std.specs.List.{list_any}
use Rattle.silq_types.specs.declared.types.Shape.{Shape}
use Rattle.silq_types.specs.declared.need.Need.TheVariants as needs
use Rattle.silq_types.specs.declared.signature.Param.{Param}
use Rattle.silq_types.specs.declared.values.Value.{Value}
use Rattle.silq_types.specs.Types.{shape_bits}
use Rattle.silq_types.specs.Calls.{is_consumed}
use Rattle.check_fun.specs.Program.{param_origin}
use Rattle.silq_mean.specs.declared.receiver.Receiver.{Receiver}
use Rattle.flat_core.specs.declared.step.WireId.{WireId}
use Rattle.bit_arith.specs.Built.{Built}
use Rattle.flat_form.specs.declared.known.Known.{Known}
use Rattle.flat_form.specs.declared.known.Known.TheVariants.{Shown}
use Rattle.flat_form.specs.State.{operands_of}
use Rattle.flat_form.specs.Flat.{inputs, input_wires}
use Rattle.flat_form.specs.Names.{AllOf, named_by, names}
use Rattle.flat_typed.specs.Places.{Places, times_in, carriers}
use Rattle.flat_typed.specs.Relation.{is_carried}
use Rattle.flat_typed.specs.Calls.{Three, carried, SparesCarried, named_times}
use Rattle.flat_typed.proofs.Ordered.{clash}
use Rattle.flat_typed.proofs.Scopes.{taken_param}
use Rattle.flat_typed.proofs.Owning.{no_times}
use Rattle.flat_typed.proofs.Parameters.{AtFrom, AllEntered}

-- the values of parameters, as if each had been handed over from its own place
abbrev pub values_at : ℕ → List Param → List Value
values_at i [] = []
values_at i (p ∷ ps) = record { ty = p.ty; origin = param_origin p; place = i } ∷ values_at (suc i) ps

abbrev pub param_shapes : List Param → List Shape
param_shapes ps = map (λ (p : Param). p.ty.shape) ps

abbrev pub AllQuantum : List Param → Type 0
AllQuantum ps = AllOf (λ (p : Param). p.ty.classical ≡ false) ps

pub inputs_entered : (W : Places) (i : ℕ) (ps : List Param) (b : Built) → AllQuantum ps → AtFrom i W (inputs (param_shapes ps) b).answer → AllEntered W W i ps (values_at i ps) (inputs (param_shapes ps) b).answer
inputs_entered W i [] b q a = tt
inputs_entered W i (p ∷ ps) b q a = (
  record {
    shows = ap₂ (λ c ops. Shown (record { classical = c; shape = p.ty.shape; operands = ops; own = true; began = 0 })) (sym q.0) (sym a.0);
    named = λ w. ap (list_any (named_by w)) a.0;
    own = λ c. refl;
  },
  inputs_entered W (suc i) ps (input_wires (shape_bits p.ty.shape) b) q.1 a.1,
)

-- how often const parameters name a wire
abbrev pub held_times : List Param → List Known → WireId → ℕ
held_times (p ∷ ps) (k ∷ ks) w = cond p.held (times_in w (operands_of k)) 0 + held_times ps ks w
held_times ps ks w = 0

abbrev pub its_values : ℕ → List Param → List Value
its_values i ps = carried (map taken_param ps) (values_at i ps)

carried_so : (h c : Bool) → c ≡ false → (is_consumed (cond h needs.Held needs.Consumed) && not c) ≡ not h
carried_so true c e = refl
carried_so false c e = ap not e

module _ (W : Places) where
  -- a wire is named by what is carried and by const parameters
  pub times_split : (w : WireId) (i : ℕ) (ps : List Param) (ks : List Known) → AllQuantum ps → AtFrom i W ks → AllEntered W W i ps (values_at i ps) ks → named_times ks w ≡ carriers W w (its_values i ps) + held_times ps ks w
  times_split w i [] [] q a e = refl
  times_split w i [] (k ∷ ks) q a e = absurd e
  times_split w i (p ∷ ps) [] q a e = absurd e
  times_split w i (p ∷ ps) (k ∷ ks) q a e =
      go p.held (is_consumed (cond p.held needs.Held needs.Consumed) && not p.ty.classical) (carried_so p.held p.ty.classical q.0) (times_split w (suc i) ps ks q.1 a.1 e.1)
    where
      v : Value
      v = record { ty = p.ty; origin = param_origin p; place = i }

      same : times_in w (operands_of k) ≡ times_in w (W i)
      same = ap (times_in w) (sym a.0)

      go : (h t : Bool) → t ≡ not h → named_times ks w ≡ carriers W w (its_values (suc i) ps) + held_times ps ks w
          → times_in w (operands_of k) + named_times ks w ≡ carriers W w (cond t (v ∷ its_values (suc i) ps) (its_values (suc i) ps)) + (cond h (times_in w (operands_of k)) 0 + held_times ps ks w)
      go true true z ih = clash z
      go true false z ih = omega (arith, ih)
      go false true z ih = omega (arith, ih, same)
      go false false z ih = clash (sym z)

  abbrev Spared : WireId → ℕ → Receiver → Value → Known → Type 0
  Spared w total r v k = is_carried r v ≡ false → 1 ≤ total → names k w ≡ false

  -- where no wire is named twice, a const parameter names none that is carried
  spared_so : (w : WireId) (total extra i : ℕ) (ps : List Param) (ks : List Known) → AllQuantum ps → AtFrom i W ks → AllEntered W W i ps (values_at i ps) ks → extra + named_times ks w ≤ 1 → total ≤ extra + carriers W w (its_values i ps)
      → Three (Spared w total) (map taken_param ps) (values_at i ps) ks
  spared_so w total extra i [] [] q a e one le = tt
  spared_so w total extra i [] (k ∷ ks) q a e one le = absurd e
  spared_so w total extra i (p ∷ ps) [] q a e one le = absurd e
  spared_so w total extra i (p ∷ ps) (k ∷ ks) q a e one le =
      go p.held (is_consumed (cond p.held needs.Held needs.Consumed) && not p.ty.classical) (carried_so p.held p.ty.classical q.0) le (λ x l m. spared_so w total x (suc i) ps ks q.1 a.1 e.1 l m) (times_split w (suc i) ps ks q.1 a.1 e.1)
    where
      v : Value
      v = record { ty = p.ty; origin = param_origin p; place = i }

      same : times_in w (operands_of k) ≡ times_in w (W i)
      same = ap (times_in w) (sym a.0)

      unnamed : total ≤ extra + carriers W w (its_values (suc i) ps) → named_times ks w ≡ carriers W w (its_values (suc i) ps) + held_times ps ks w → 1 ≤ total → names k w ≡ false
      unnamed m s l = sym (e.0.named w) ∙ no_times w (W i) (omega (arith, m, s, one, same, l))

      go : (h t : Bool) → t ≡ not h → total ≤ extra + carriers W w (cond t (v ∷ its_values (suc i) ps) (its_values (suc i) ps))
          → ((x : ℕ) → x + named_times ks w ≤ 1 → total ≤ x + carriers W w (its_values (suc i) ps) → Three (Spared w total) (map taken_param ps) (values_at (suc i) ps) ks)
          → named_times ks w ≡ carriers W w (its_values (suc i) ps) + held_times ps ks w
          → (t ≡ false → 1 ≤ total → names k w ≡ false) × Three (Spared w total) (map taken_param ps) (values_at (suc i) ps) ks
      go true true z m ih s = clash z
      go true false z m ih s = ((λ x l. unnamed m s l), ih extra (omega (arith, one)) m)
      go false true z m ih s = ((λ x l. clash x), ih (extra + times_in w (operands_of k)) (omega (arith, one)) (omega (arith, m, same)))
      go false false z m ih s = clash (sym z)

  three_all : {A B C : Type 0} (R : WireId → A → B → C → Type 0) (xs : List A) (ys : List B) (zs : List C) → ((w : WireId) → Three (R w) xs ys zs) → Three (λ a b c. (w : WireId) → R w a b c) xs ys zs
  three_all R [] [] [] h = tt
  three_all R [] [] (z ∷ zs) h = h (record { number = 0 })
  three_all R [] (y ∷ ys) zs h = h (record { number = 0 })
  three_all R (x ∷ xs) [] zs h = h (record { number = 0 })
  three_all R (x ∷ xs) (y ∷ ys) [] h = h (record { number = 0 })
  three_all R (x ∷ xs) (y ∷ ys) (z ∷ zs) h = ((λ w. (h w).0), three_all R xs ys zs (λ w. (h w).1))

  three_more : {A B C : Type 0} (Q R : A → B → C → Type 0) (xs : List A) (ys : List B) (zs : List C) → ((a : A) (b : B) (c : C) → Q a b c → R a b c) → Three Q xs ys zs → Three R xs ys zs
  three_more Q R [] [] [] f h = tt
  three_more Q R [] [] (z ∷ zs) f h = h
  three_more Q R [] (y ∷ ys) zs f h = h
  three_more Q R (x ∷ xs) [] zs f h = h
  three_more Q R (x ∷ xs) (y ∷ ys) [] f h = h
  three_more Q R (x ∷ xs) (y ∷ ys) (z ∷ zs) f h = (f x y z h.0, three_more Q R xs ys zs f h.1)

  pub all_spared : (ps : List Param) (ks : List Known) → AllQuantum ps → AtFrom 0 W ks → AllEntered W W 0 ps (values_at 0 ps) ks → ((w : WireId) → named_times ks w ≤ 1)
      → Three (SparesCarried W (its_values 0 ps)) (map taken_param ps) (values_at 0 ps) ks
  all_spared ps ks q a e one =
      three_more (λ r v k. (w : WireId) → Spared w (carriers W w (its_values 0 ps)) r v k) (SparesCarried W (its_values 0 ps)) (map taken_param ps) (values_at 0 ps) ks (λ r v k h c w le. h w c le)
      (three_all (λ w. Spared w (carriers W w (its_values 0 ps))) (map taken_param ps) (values_at 0 ps) ks (λ w. spared_so w (carriers W w (its_values 0 ps)) 0 0 ps ks q a e (let o = one w in omega (arith, o)) (omega arith)))
