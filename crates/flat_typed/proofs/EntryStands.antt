-- The relation stands where the entry begins.
use Rattle.std.proofs.Common.{◌≡◌, ◌⊎◌, inl, inr, suc, ◌+◌, ◌≤◌, ◌<◌, true, false, List, [], ◌∷◌, length, take, drop, reverse, refl, sym, ap, ◌∙◌, subst, arith, nat_lt}
use Rattle.std.specs.Prelude.{Ok, ℤ}
use Rattle.std.proofs.lemmas.List.{length-reverse, reverse-reverse, length-map}
use Rattle.std.proofs.lemmas.Bool.{cases_lt, lt-ltb}
use Rattle.silq_tree.specs.declared.node.NameId.{NameId}
use Rattle.silq_tree.specs.Syntax.{Function}
use Rattle.silq_types.specs.declared.types.Shape.{Shape}
use Rattle.silq_types.specs.declared.types.Ty.{Ty}
use Rattle.silq_types.specs.declared.need.Need.{Need}
use Rattle.silq_types.specs.declared.built_in.BuiltIn.{BuiltIn}
use Rattle.silq_types.specs.declared.signature.Param.{Param}
use Rattle.silq_types.specs.declared.values.Var.{Var}
use Rattle.silq_types.specs.Types.{shape_bits}
use Rattle.silq_types.specs.Programs.{paired as static_pairs}
use Rattle.silq_mean.specs.Written.{Header}
use Rattle.check_fun.specs.Program.{param_names, param_vars}
use Rattle.silq_mean.specs.Effect.{step, enter_body}
use Rattle.silq_mean.specs.Meaning.{params_of, param_of, names_of}
use Rattle.flat_core.specs.declared.step.Step.{Step}
use Rattle.flat_core.specs.declared.step.WireId.{WireId}
use Rattle.flat_core.specs.Drafts.{empty_draft, is_measured}
use Rattle.bit_arith.specs.Built.{Built, begun}
use Rattle.bit_arith.specs.Calls.{no_target}
use Rattle.flat_form.specs.declared.known.Known.{Known}
use Rattle.flat_form.specs.State.{Flattening, wires_so_far}
use Rattle.flat_form.specs.Flat.{flat, begin, inputs, input_wires, paired}
use Rattle.flat_form.specs.Fine.{Fine, IsTaken}
use Rattle.flat_form.specs.Names.{AllOf, names}
use Rattle.flat_form.proofs.Goods.{good_flat}
use Rattle.flat_typed.specs.Places.{Places, holders, carriers, owners_of, linear_owners}
use Rattle.flat_typed.specs.Footprint.{Owed}
use Rattle.flat_typed.specs.Relation.{Outside, Stands, SparesGuarded}
use Rattle.flat_typed.specs.Done.{StmtBegins}
use Rattle.flat_typed.specs.Calls.{first_context, named_times}
use Rattle.flat_typed.specs.Scopes.{scope_for}
use Rattle.flat_typed.proofs.Ordered.{clash}
use Rattle.flat_typed.proofs.Assignments.{take_own, drop_own}
use Rattle.flat_typed.proofs.Parameters.{operands_at, at_places, AtFrom, AllEntered, params_whole, params_fit, params_sole, params_env, params_hold, params_linear, params_share}
use Rattle.flat_typed.proofs.Instances.{params_differ}
use Rattle.flat_typed.proofs.InputWires.{NamedOnce, good_beginning, no_steps, all_dropped, inputs_named}
use Rattle.flat_typed.proofs.EntryBegins.{values_at, param_shapes, AllQuantum, inputs_entered, held_times, its_values, times_split, all_spared}

inputs_long : (ss : List Shape) (b : Built) → length (inputs ss b).answer ≡ length ss
inputs_long [] b = refl
inputs_long (s ∷ ss) b = ap suc (inputs_long ss (input_wires (shape_bits s) b))

inputs_taken : (ss : List Shape) (b : Built) → AllOf IsTaken (inputs ss b).answer
inputs_taken [] b = tt
inputs_taken (s ∷ ss) b = (refl, inputs_taken ss (input_wires (shape_bits s) b))

none_guarded : (ws : List WireId) → AllOf (λ w. no_target w ≡ false) ws
none_guarded [] = tt
none_guarded (w ∷ ws) = (refl, none_guarded ws)

none_to_spare : (W : Places) (vs : List Var) → AllOf (SparesGuarded no_target [] W) vs
none_to_spare W [] = tt
none_to_spare W (v ∷ vs) = ((λ b is t e n. none_guarded _), none_to_spare W vs)

module _ (words : List (NameId × BuiltIn)) (before : List Function) (f : Function) (statics : List ℤ) (h : Header) (len : length f.params ≡ length h.params) (quantum : AllQuantum h.params) (differ : param_names [] f.params ≡ Ok tt) where
  abbrev pub its_params : List (NameId × Need × Ty)
  its_params = params_of f (static_pairs f.statics statics)

  abbrev pub its_names : List NameId
  its_names = names_of its_params

  abbrev pub shapes : List Shape
  shapes = param_shapes h.params

  abbrev pub first : Flattening
  first = begin shapes

  abbrev pub args : List Known
  args = (inputs shapes (begun empty_draft)).answer

  abbrev pub its_places : Places
  its_places = operands_at args

  abbrev pub entered : Flattening
  entered = flat (step (enter_body its_names)) first

  -- const parameters answer for their wires
  abbrev pub outside_entry : Outside
  outside_entry = record { guarded = no_target; answered = λ w. nat_lt 0 (held_times h.params args w) }

  abbrev W : Places
  W = its_places

  abbrev vars : List Var
  vars = param_vars 0 f.params h.params

  as_many : length its_names ≡ length (reverse args)
  as_many =
      length-map its_params (λ (p : NameId × Need × Ty). p.0) ∙ (length-map f.params (param_of f (static_pairs f.statics statics)) ∙ (len ∙ (sym (length-map h.params (λ (p : Param). p.ty.shape)) ∙ (sym (inputs_long shapes (begun empty_draft)) ∙ sym (length-reverse args)))))

  pub args_long : length h.params ≡ length args
  args_long = sym (length-map h.params (λ (p : Param). p.ty.shape)) ∙ sym (inputs_long shapes (begun empty_draft))

  args_are : reverse (take (length its_names) (reverse args)) ≡ args
  args_are = ap (λ n. reverse (take n (reverse args))) as_many ∙ (ap (λ l. reverse l) (take_own (reverse args)) ∙ reverse-reverse args)

  rest_is : drop (length its_names) (reverse args) ≡ []
  rest_is = ap (λ n. drop n (reverse args)) as_many ∙ drop_own (reverse args)

  pub at_params : AtFrom 0 W args
  at_params = at_places args

  pub all_there : AllEntered W W 0 h.params (values_at 0 h.params) args
  all_there = inputs_entered W 0 h.params (begun empty_draft) quantum at_params

  pub once : (w : WireId) → NamedOnce 0 (wires_so_far first) w (named_times args w)
  once w = inputs_named shapes w

  pub at_most : (w : WireId) → named_times args w ≤ 1
  at_most w = go (cases_lt w.number (wires_so_far first))
    where
      go : (w.number < wires_so_far first) ⊎ (wires_so_far first ≤ w.number) → named_times args w ≤ 1
      go (inl lt) = let a = (once w).there (omega arith) lt in omega (arith, a)
      go (inr le) = let a = (once w).high le in omega (arith, a)

  pub named_below : (w : WireId) → 1 ≤ named_times args w → w.number < wires_so_far first
  named_below w l = go (cases_lt w.number (wires_so_far first))
    where
      go : (w.number < wires_so_far first) ⊎ (wires_so_far first ≤ w.number) → w.number < wires_so_far first
      go (inl lt) = lt
      go (inr le) = let a = (once w).high le in absurd (omega (arith, a, l))

  pub split : (w : WireId) → named_times args w ≡ carriers W w (its_values 0 h.params) + held_times h.params args w
  split w = times_split W w 0 h.params args quantum at_params all_there

  pub hold : (w : WireId) → holders W vars w vars ≡ carriers W w (its_values 0 h.params)
  hold w = params_hold W W vars (params_whole 0 f.params h.params) w 0 f.params h.params (values_at 0 h.params) args len all_there

  pub named_if : (w : WireId) → 1 ≤ owners_of W vars [] w → 1 ≤ named_times args w
  named_if w le = let a = split w in let b = hold w in omega (arith, a, b, le)

  pub unmeasured : (w : WireId) → is_measured first.built.draft.steps w ≡ false
  unmeasured w = ap (λ (l : List Step). is_measured l w) (no_steps shapes)

  pub entry_taken : Fine (step (enter_body its_names)) first
  entry_taken = subst (AllOf IsTaken) (sym args_are) (inputs_taken shapes (begun empty_draft))

  entry_stands : Stands outside_entry [] W [] (first_context f h) entered
  entry_stands = record {
    env = ap (λ l. paired its_names l) args_are ∙ params_env W W vars (params_whole 0 f.params h.params) f (static_pairs f.statics statics) 0 f.params h.params (values_at 0 h.params) args len all_there;
    differ = params_differ f.params h.params differ;
    parts = params_fit W vars 0 f.params h.params;
    one = λ w. let a = split w in let b = hold w in let c = at_most w in omega (arith, a, b, c);
    free = λ w le. (named_below w (named_if w le), unmeasured w);
    untold = λ w le. all_dropped shapes w (named_below w (named_if w le));
    shared = λ w le.
        params_share W W vars (params_whole 0 f.params h.params) w 0 f.params h.params (values_at 0 h.params) args (its_values 0 h.params) (let b = hold w in omega (arith, b, le)) all_there
        (all_spared W h.params args quantum at_params all_there at_most);
    callers = λ w le. ((tt, subst (AllOf (λ k. names k w ≡ false)) (sym rest_is) tt), tt);
    guards = tt;
    below = λ w g. clash (sym g);
    spares = none_to_spare W vars;
    carried = tt;
    owed = λ w o. owed w o;
  }
    where
      owed : (w : WireId) → Owed first.built.draft w → (1 ≤ linear_owners W vars [] w) ⊎ (outside_entry.answered w ≡ true)
      owed w o = go (cases_lt 0 (held_times h.params args w))
        where
          go : (0 < held_times h.params args w) ⊎ (held_times h.params args w ≤ 0) → (1 ≤ linear_owners W vars [] w) ⊎ (nat_lt 0 (held_times h.params args w) ≡ true)
          go (inl l) = inr (lt-ltb 0 (held_times h.params args w) l)
          go (inr z) =
              let a = split w in
              let b = hold w in
              let c = (once w).there (omega arith) o.there in
              let l = params_linear W W vars (params_whole 0 f.params h.params) w 0 f.params h.params in
              inl (omega (arith, a, b, c, l, z))

  pub entry_begins : StmtBegins outside_entry (scope_for words before f statics h) (length h.params) (λ p. 0) W (first_context f h) entered
  entry_begins = record {
    good = good_flat (step (enter_body its_names)) first (good_beginning shapes) entry_taken;
    unmade = λ w le. unmeasured w;
    sole = params_sole f.params h.params;
    stands = entry_stands;
    whole = params_whole 0 f.params h.params;
    block = omega arith;
    open_air = λ q r. refl;
    none = refl;
  }
