-- Where a body is entered with the arguments of a call: the relation stands for its parameters.
use Rattle.std.proofs.Common.{◌≡◌, ◌⊎◌, inl, inr, ℕ, suc, ◌+◌, ◌≤◌, ◌<◌, Bool, true, false, cond, ◌||◌, List, [], ◌∷◌, ◌++◌, length, map, take, drop, refl, sym, ap, ap₂, ◌∙◌, subst, arith}
use Rattle.std.specs.Prelude.{nat_lt, reverse}
use Rattle.std.proofs.lemmas.Bool.{cases_lt, lt-ltb}
use Rattle.std.proofs.lemmas.List.{length-reverse, reverse-reverse}
use Rattle.silq_tree.specs.declared.node.NameId.{NameId}
use Rattle.silq_tree.specs.Syntax.{Parameter, Function}
use Rattle.silq_types.specs.declared.signature.Param.{Param}
use Rattle.silq_types.specs.declared.values.Part.{Part}
use Rattle.silq_types.specs.declared.values.Value.{Value}
use Rattle.silq_types.specs.declared.values.Var.{Var}
use Rattle.silq_types.specs.Types.{Statics, is_linear, shape_bits}
use Rattle.check_scope.specs.Context.{Context}
use Rattle.check_fun.specs.Program.{param_vars}
use Rattle.silq_mean.specs.Meaning.{param_of, names_of}
use Rattle.flat_core.specs.declared.step.WireId.{WireId}
use Rattle.bit_arith.specs.Calls.{Targets}
use Rattle.flat_form.specs.declared.known.Known.{Known}
use Rattle.flat_form.specs.State.{Flattening, wires_so_far, wires_in, part_start, part_shape}
use Rattle.flat_form.specs.Flat.{call_began, enter, paired}
use Rattle.flat_form.specs.Fine.{IsTaken}
use Rattle.flat_form.specs.Names.{AllOf, AllEnv, names}
use Rattle.flat_typed.specs.Places.{Places, is_part, times_in, holders, carriers, linear_carriers, owners_of, linear_owners}
use Rattle.flat_typed.specs.Relation.{Outside, Stands, PartsDiffer, SparesGuarded, is_carried}
use Rattle.flat_typed.specs.Calls.{Three, carried, SparesCarried}
use Rattle.flat_typed.proofs.Ordered.{clash}
use Rattle.flat_typed.proofs.Owning.{names_none, all_front, env_of_order}
use Rattle.flat_typed.proofs.Binding.{all_take, all_drop}
use Rattle.flat_typed.proofs.Scopes.{taken_param}
use Rattle.flat_typed.proofs.Parameters.{operands_at, wires_by, AllEntered, param_var, params_whole, params_fit, params_env, params_hold, params_linear, params_share}

-- ---- lists

pub take_front : {A : Type 0} (xs ys : List A) → take (length xs) (xs ++ ys) ≡ xs
take_front [] ys = refl
take_front (x ∷ xs) ys = ap (λ l. x ∷ l) (take_front xs ys)

pub drop_front : {A : Type 0} (xs ys : List A) → drop (length xs) (xs ++ ys) ≡ ys
drop_front [] ys = refl
drop_front (x ∷ xs) ys = drop_front xs ys

pub carriers_sum : (W : Places) (w : WireId) (vs us : List Value) → carriers W w (vs ++ us) ≡ carriers W w vs + carriers W w us
carriers_sum W w [] us = omega arith
carriers_sum W w (v ∷ vs) us = let a = carriers_sum W w vs us in omega (arith, a)

pub linear_sum : (W : Places) (w : WireId) (vs us : List Value) → linear_carriers W w (vs ++ us) ≡ linear_carriers W w vs + linear_carriers W w us
linear_sum W w [] us = omega arith
linear_sum W w (v ∷ vs) us = let a = linear_sum W w vs us in omega (arith, a)

pub linear_few : (W : Places) (w : WireId) (vs : List Value) → linear_carriers W w vs ≤ carriers W w vs
linear_few W w [] = omega arith
linear_few W w (v ∷ vs) = go (is_linear v.origin) (linear_few W w vs)
  where
    go : (t : Bool) → linear_carriers W w vs ≤ carriers W w vs → cond t (times_in w (W v.place)) 0 + linear_carriers W w vs ≤ times_in w (W v.place) + carriers W w vs
    go true h = omega (arith, h)
    go false h = omega (arith, h)

-- a parameter that owns its wires has no guarded one
pub params_spare : (after W : Places) (all : List Var) (whole : AllOf (λ v. is_part v ≡ false) all) (G : Targets) (i : ℕ) (ns : List Parameter) (ps : List Param) (vs : List Value) (ks : List Known) → AllEntered after W i ps vs ks
    → AllOf (λ v. AllOf (λ w. G w ≡ false) (wires_in (after v.place))) (carried (map taken_param ps) vs) → AllOf (SparesGuarded G [] W) (param_vars i ns ps)
params_spare after W all whole G i [] ps vs ks e c = tt
params_spare after W all whole G i (n ∷ ns) [] vs ks e c = tt
params_spare after W all whole G i (n ∷ ns) (p ∷ ps) [] ks e c = absurd e
params_spare after W all whole G i (n ∷ ns) (p ∷ ps) (v ∷ vs) [] e c = absurd e
params_spare after W all whole G i (n ∷ ns) (p ∷ ps) (v ∷ vs) (k ∷ ks) e c = go (is_carried (taken_param p) v) refl c (λ d. params_spare after W all whole G (suc i) ns ps vs ks e.1 d)
  where
    rest : List Value
    rest = carried (map taken_param ps) vs

    Clear : Value → Type 0
    Clear u = AllOf (λ w. G w ≡ false) (wires_in (after u.place))

    go : (t : Bool) → is_carried (taken_param p) v ≡ t → AllOf Clear (cond t (v ∷ rest) rest) → (AllOf Clear rest → AllOf (SparesGuarded G [] W) (param_vars (suc i) ns ps)) → SparesGuarded G [] W (param_var i n p) × AllOf (SparesGuarded G [] W) (param_vars (suc i) ns ps)
    go true t c r = (
      λ b is t' k z.
          all_take (λ w. G w ≡ false) (shape_bits (part_shape p.ty.shape is)) (drop (part_start p.ty.shape is) (W i)) (all_drop (λ w. G w ≡ false) (part_start p.ty.shape is) (W i) (subst (λ l. AllOf (λ w. G w ≡ false) (wires_in l)) (sym (e.0.own t)) c.0)),
      r c.1,
    )
    go false t c r = ((λ b. clash (sym b ∙ (wires_by p.held p.ty.classical ∙ t))), r c)

-- ---- the step

-- the caller's owners that are no arguments answer for their Linear wires
abbrev pub inside : Outside → Places → List Value → Context → Outside
inside out after under d = record { guarded = out.guarded; answered = λ w. out.answered w || nat_lt 0 (linear_owners after d.vars under w) }

-- a body's beginning, behind the arguments `ks` of a call in the state s; `below` is what the stack has below them
abbrev pub begun_body : List NameId → List Known → List Known → Flattening → Flattening
begun_body xs ks below s = record s { env = paired xs ks ∷ []; values = []; callers = record { began = call_began (wires_so_far s) ks; env = s.env; values = below } ∷ s.callers }

pub enters : (xs : List NameId) (ks below : List Known) (s : Flattening) → length xs ≡ length ks → s.values ≡ reverse ks ++ below → enter xs s ≡ begun_body xs ks below s
enters xs ks below s l e = ap₂ (λ us ds. entered (reverse us) ds) (ap₂ (λ n vs. take n vs) counted e ∙ take_front (reverse ks) below) (ap₂ (λ n vs. drop n vs) counted e ∙ drop_front (reverse ks) below) ∙ ap (λ us. entered us below) (reverse-reverse ks)
  where
    counted : length xs ≡ length (reverse ks)
    counted = l ∙ sym (length-reverse ks)

    entered : List Known → List Known → Flattening
    entered us ds = record s { env = paired xs us ∷ []; values = []; callers = record { began = call_began (wires_so_far s) us; env = s.env; values = ds } ∷ s.callers }

pub enters_fine : (xs : List NameId) (ks below : List Known) (s : Flattening) → length xs ≡ length ks → s.values ≡ reverse ks ++ below → AllOf IsTaken ks → AllOf IsTaken (reverse (take (length xs) s.values))
enters_fine xs ks below s l e h = subst (AllOf IsTaken) (sym (ap (λ us. reverse us) (ap₂ (λ n vs. take n vs) (l ∙ sym (length-reverse ks)) e ∙ take_front (reverse ks) below) ∙ reverse-reverse ks)) h

or_right : (a b : Bool) → b ≡ true → (a || b) ≡ true
or_right true b e = refl
or_right false b e = e

or_left : (a b : Bool) → a ≡ true → (a || b) ≡ true
or_left true b e = refl
or_left false b e = clash (sym e)

module _ (out : Outside) (held : List (List Part)) (after : Places) (ps : List Param) (vs : List Value) (ks : List Known) (under : List Value) (d : Context) (s : Flattening) (below : List Known) (f : Function) (statics : Statics) where
  abbrev pub own : List Value
  own = carried (map taken_param ps) vs

  abbrev pub start_places : Places
  start_places = operands_at ks

  abbrev pub first_vars : List Var
  first_vars = param_vars 0 f.params ps

  abbrev pub body_begin : Flattening
  body_begin = begun_body (names_of (map (param_of f statics) f.params)) ks below s

  module _ (long : length f.params ≡ length ps) (entered : AllEntered after start_places 0 ps vs ks) (r : Stands out held after (own ++ under) d s) where
    whole : AllOf (λ v. is_part v ≡ false) first_vars
    whole = params_whole 0 f.params ps

    held_by : (w : WireId) → holders start_places first_vars w first_vars ≡ carriers after w own
    held_by w = params_hold after start_places first_vars whole w 0 f.params ps vs ks long entered

    pub caller_owns : (w : WireId) → owners_of after d.vars (own ++ under) w ≡ holders after d.vars w d.vars + (carriers after w own + carriers after w under)
    caller_owns w = ap (λ n. holders after d.vars w d.vars + n) (carriers_sum after w own under)

    -- what a parameter owns a carried argument does, and no one else
    pub body_owns : (w : WireId) → 1 ≤ owners_of start_places first_vars [] w → (1 ≤ carriers after w own) × (holders after d.vars w d.vars + carriers after w under ≡ 0)
    body_owns w le =
        let a = held_by w in
        let b = r.one w in
        let e = caller_owns w in
        (omega (arith, a, le), omega (arith, a, b, e, le))

    owner : (w : WireId) → 1 ≤ owners_of start_places first_vars [] w → 1 ≤ owners_of after d.vars (own ++ under) w
    owner w le = let a = (body_owns w le).0 in let e = caller_owns w in omega (arith, a, e)

    answers : (w : WireId) → (1 ≤ linear_owners after d.vars (own ++ under) w) ⊎ (out.answered w ≡ true) → (1 ≤ linear_owners start_places first_vars [] w) ⊎ ((inside out after under d).answered w ≡ true)
    answers w (inr a) = inr (or_left (out.answered w) (nat_lt 0 (linear_owners after d.vars under w)) a)
    answers w (inl le) = go (cases_lt 0 (linear_owners after d.vars under w))
      where
        go : (0 < linear_owners after d.vars under w) ⊎ (linear_owners after d.vars under w ≤ 0) → (1 ≤ linear_owners start_places first_vars [] w) ⊎ ((inside out after under d).answered w ≡ true)
        go (inl lt) = inr (or_right (out.answered w) (nat_lt 0 (linear_owners after d.vars under w)) (lt-ltb 0 (linear_owners after d.vars under w) lt))
        go (inr none) =
            let a = linear_sum after w own under in
            let b = linear_few after w own in
            let e = held_by w in
            let g = params_linear after start_places first_vars whole w 0 f.params ps in
            inl (omega (arith, le, none, a, b, e, g))

    -- the relation stands for the parameters
    pub stands_entered : PartsDiffer first_vars → Three (SparesCarried after own) (map taken_param ps) vs ks → ((w : WireId) → 1 ≤ carriers after w own → AllOf (λ k. names k w ≡ false) below)
        → Stands (inside out after under d) [] start_places [] (record { vars = first_vars; next = length ps }) body_begin
    stands_entered differ spares lower = record {
      env = params_env after start_places first_vars whole f statics 0 f.params ps vs ks long entered;
      differ = differ;
      parts = params_fit start_places first_vars 0 f.params ps;
      one = λ w. let a = held_by w in let b = r.one w in let e = caller_owns w in omega (arith, a, b, e);
      free = λ w le. r.free w (owner w le);
      untold = λ w le. r.untold w (owner w le);
      shared = λ w le. params_share after start_places first_vars whole w 0 f.params ps vs ks own (body_owns w le).0 entered spares;
      callers = λ w le. ((caller_env w le, lower w (body_owns w le).0), r.callers w (owner w le));
      guards = r.guards;
      below = r.below;
      spares = params_spare after start_places first_vars whole out.guarded 0 f.params ps vs ks entered (all_front (λ v. AllOf (λ w. out.guarded w ≡ false) (wires_in (after v.place))) own under r.carried);
      carried = tt;
      owed = λ w o. answers w (r.owed w o);
    }
      where
        caller_env : (w : WireId) → 1 ≤ owners_of start_places first_vars [] w → AllEnv (λ k. names k w ≡ false) s.env
        caller_env w le =
            env_of_order (λ k. names k w ≡ false) s.env
            (subst (AllOf (λ (p : NameId × Known). names p.1 w ≡ false)) (sym r.env)
            (names_none after d.vars d.vars w (let a = (body_owns w le).1 in omega (arith, a)) (r.shared w (owner w le))))
