-- Values that names take over in turn: the relation stands again, with the variables as the owners of their wires.
use Rattle.std.proofs.Common.{◌≡◌, ◌⊎◌, ℕ, ◌+◌, ◌≤◌, ◌<◌, Bool, true, false, cond, not, ◌||◌, List, [], ◌∷◌, length, map, drop, refl, sym, ap, ◌∙◌, subst, arith}
use Rattle.std.specs.Prelude.{Option, Some, None}
use Rattle.std.specs.List.{list_any}
use Rattle.silq_tree.specs.declared.node.NameId.{NameId}
use Rattle.silq_types.specs.declared.values.Part.{Part}
use Rattle.silq_types.specs.declared.values.Value.{Value}
use Rattle.silq_types.specs.declared.values.Var.{Var}
use Rattle.silq_types.specs.Types.{is_held}
use Rattle.check_scope.specs.Context.{Context, find_var, variable}
use Rattle.check_fun.specs.Statement.{bind_name, bind_names, passes, is_live_linear, overwrites_linear}
use Rattle.check_fun.specs.Statement as statements
use Rattle.silq_mean.specs.declared.receiver.Receiver.{Receiver}
use Rattle.silq_mean.specs.declared.receiver.Receiver.TheVariants.{Variable}
use Rattle.silq_mean.specs.Env.{Env, is_in_reach, in_its_block, in_first_block, bound}
use Rattle.flat_core.specs.declared.step.WireId.{WireId}
use Rattle.flat_form.specs.declared.known.Known.{Known}
use Rattle.flat_form.specs.declared.known.Known.TheVariants.{Shown}
use Rattle.flat_form.specs.State.{Flattening}
use Rattle.flat_form.specs.Flat.{as_variable, bind_all}
use Rattle.flat_form.specs.Names.{AllOf, operands_in, named_by}
use Rattle.flat_form.specs.Shows.{ListBoth}
use Rattle.flat_typed.specs.Places.{Places, is_part, less_part, bits_for, shown, holds, holders, times_in, owners_of}
use Rattle.flat_typed.specs.Relation.{Outside, Stands, AllNew}
use Rattle.flat_typed.specs.Done.{MadeSince, outer_names}
use Rattle.flat_typed.specs.Calls.{carried}
use Rattle.flat_typed.proofs.Ordered.{clash, or_left, or_right}
use Rattle.flat_typed.proofs.Moving.{holders_with}
use Rattle.flat_typed.proofs.Binding.{bound_sum, all_bound, out_bound, none_out, NotLost, stands_bound}
use Rattle.flat_typed.proofs.Sharing.{stands_shared}
use Rattle.flat_typed.proofs.Using.{env_names, drop_map, length_map}
use Rattle.flat_typed.proofs.Forgetting.{stands_at}

-- ---- names of blocks

pub record SameNames (a b : Env Known) : Type 0 where
  pub blocks : length b ≡ length a
  pub names : outer_names b ≡ outer_names a

pub bound_left : (env : Env Known) (x : NameId) (k : Known) → 1 ≤ length env → SameNames env (bound env x k)
bound_left env x k le = go (is_in_reach env x) env le
  where
    go : (t : Bool) (e : Env Known) → 1 ≤ length e → SameNames e (cond t (in_its_block e x k) (in_first_block e x k))
    go true e l = record {
      blocks = length_map (λ b. map (λ (p : NameId × Known). p.0) b) (in_its_block e x k) ∙ (ap length (env_names e x k) ∙ sym (length_map (λ b. map (λ (p : NameId × Known). p.0) b) e));
      names = drop_map (λ b. map (λ (p : NameId × Known). p.0) b) (in_its_block e x k) ∙ (ap (λ m. drop 1 m) (env_names e x k) ∙ sym (drop_map (λ b. map (λ (p : NameId × Known). p.0) b) e));
    }
    go false [] l = absurd (omega (arith, l))
    go false (b ∷ bs) l = record { blocks = refl; names = refl }

pub all_left : (env : Env Known) (xs : List NameId) (ks : List Known) → 1 ≤ length env → SameNames env (bind_all env xs ks)
all_left env [] ks le = record { blocks = refl; names = refl }
all_left env (x ∷ xs) [] le = record { blocks = refl; names = refl }
all_left env (x ∷ xs) (k ∷ ks) le =
    let a = bound_left env x (as_variable k) le in
    let b = all_left (bound env x (as_variable k)) xs ks (subst (λ n. 1 ≤ n) (sym a.blocks) le) in
    record { blocks = b.blocks ∙ a.blocks; names = b.names ∙ a.names }

-- ---- values and what they show

abbrev pub variables_for : List NameId → List Receiver
variables_for xs = map (λ x. Variable) xs

-- a value that a name takes over: it shows what its place shows; a classical one names no wire of a set
pub record IsNamed (n low : ℕ) (U : Places) (N : WireId → ℕ) (v : Value) (k : Known) : Type 0 where
  pub shows : as_variable k ≡ Shown (record { classical = v.ty.classical; shape = v.ty.shape; operands = U v.place; own = true; began = 0 })
  pub unheld : is_held v.origin ≡ false
  pub shares : v.ty.classical ≡ true → (w : WireId) → 1 ≤ N w → list_any (named_by w) (U v.place) ≡ false
  pub made : v.ty.classical ≡ false → (v.place < low) ⊎ AllNew n (U v.place)

not_lost : (o : Option Var) → passes is_live_linear o ≡ false → NotLost o
not_lost None e = tt
not_lost (Some v) e = e

-- binding makes no owners more
bound_fewer : (U : Places) (c : Context) (under : List Value) (x : NameId) (v : Value) → AllOf (λ u. is_part u ≡ false) c.vars → (w : WireId)
    → holders U (bind_name c.vars x v) w (bind_name c.vars x v) ≤ holders U c.vars w c.vars + holds U c.vars w (statements.bound x v)
bound_fewer U c under x v whole w =
    let a = holders_with U (bind_name c.vars x v) c.vars w (bind_name c.vars x v) (out_bound c.vars x v) in
    let b = bound_sum (holds U c.vars w) (holders U c.vars w) (λ u us. refl) c.vars x v in
    omega (arith, a, b)

module _ (out : Outside) (held : List (List Part)) (U : Places) (n low : ℕ) (N : WireId → ℕ) where
  abbrev Standing : List Value → Context → Flattening → Type 0
  Standing under c s = Stands out held U under c s

  one_bound : (c : Context) (s : Flattening) (x : NameId) (v : Value) (k : Known) (under : List Value) → AllOf (λ u. is_part u ≡ false) c.vars → NotLost (find_var c.vars (variable x)) → IsNamed n low U N v k → ((w : WireId) → owners_of U c.vars (cond (not v.ty.classical) (v ∷ under) under) w ≤ N w)
      → Stands out held U (cond (not v.ty.classical) (v ∷ under) under) c s → Stands out held U under (record c { vars = bind_name c.vars x v }) (record s { env = bound s.env x (as_variable k) })
  one_bound c s x v k under whole lost h few st = go v.ty.classical refl st few
    where
      shown_is : shown U c.vars (statements.bound x v) ≡ as_variable k
      shown_is = ap (λ r. less_part r (bits_for U (statements.bound x v))) (none_out c.vars x whole) ∙ sym h.shows

      go : (t : Bool) → v.ty.classical ≡ t → Stands out held U (cond (not t) (v ∷ under) under) c s → ((w : WireId) → owners_of U c.vars (cond (not t) (v ∷ under) under) w ≤ N w)
          → Stands out held U under (record c { vars = bind_name c.vars x v }) (record s { env = bound s.env x (as_variable k) })
      go false e r f =
          stands_at out held U under (record c { vars = bind_name c.vars x v }) (record s { env = bound s.env x (shown U c.vars (statements.bound x v)); values = drop 1 s.values }) (record s { env = bound s.env x (as_variable k) })
          (ap (bound s.env x) (sym shown_is)) refl refl refl (stands_bound out held U under c s x v r whole e h.unheld lost)
      go true e r f =
          stands_at out held U under (record c { vars = bind_name c.vars x v }) (record s { env = bound s.env x (shown U c.vars (statements.bound x v)); values = drop 1 s.values }) (record s { env = bound s.env x (as_variable k) })
          (ap (bound s.env x) (sym shown_is)) refl refl refl (stands_shared out held U under c s x v r whole e lost (λ w le. h.shares e w (let a = f w in omega (arith, a, le))))

  one_fewer : (c : Context) (x : NameId) (v : Value) (under : List Value) → AllOf (λ u. is_part u ≡ false) c.vars → is_held v.origin ≡ false → (w : WireId) → owners_of U (bind_name c.vars x v) under w ≤ owners_of U c.vars (cond (not v.ty.classical) (v ∷ under) under) w
  one_fewer c x v under whole unheld w = go v.ty.classical refl
    where
      holds_as : (t : Bool) → v.ty.classical ≡ t → holds U c.vars w (statements.bound x v) ≡ cond (not (t || is_held v.origin)) (times_in w (operands_in (shown U c.vars (statements.bound x v)))) 0
      holds_as t e = ap (λ b. cond (not (b || is_held v.origin)) (times_in w (operands_in (shown U c.vars (statements.bound x v)))) 0) e

      go : (t : Bool) → v.ty.classical ≡ t → owners_of U (bind_name c.vars x v) under w ≤ owners_of U c.vars (cond (not t) (v ∷ under) under) w
      go true e = let a = bound_fewer U c under x v whole w in let b = holds_as true e in omega (arith, a, b)
      go false e =
          let a = bound_fewer U c under x v whole w in
          let b : holds U c.vars w (statements.bound x v) ≡ times_in w (U v.place) =
          holds_as false e
          ∙ (ap (λ t. cond (not t) (times_in w (operands_in (shown U c.vars (statements.bound x v)))) 0) unheld
          ∙ ap (λ r. times_in w (operands_in (less_part r (bits_for U (statements.bound x v))))) (none_out c.vars x whole)) in
          omega (arith, a, b)

  pub in_turn : (xs : List NameId) (vs : List Value) (ks : List Known) (c : Context) (s : Flattening) → length xs ≡ length vs → AllOf (λ u. is_part u ≡ false) c.vars → overwrites_linear c.vars xs vs ≡ false → ListBoth (IsNamed n low U N) vs ks
      → ((w : WireId) → owners_of U c.vars (carried (variables_for xs) vs) w ≤ N w) → Stands out held U (carried (variables_for xs) vs) c s
      → Stands out held U [] (record c { vars = bind_names c.vars xs vs }) (record s { env = bind_all s.env xs ks })
  in_turn [] [] [] c s l whole over h few st = st
  in_turn [] [] (k ∷ ks) c s l whole over h few st = absurd h
  in_turn [] (v ∷ vs) ks c s l whole over h few st = absurd (omega (arith, l))
  in_turn (x ∷ xs) [] ks c s l whole over h few st = absurd (omega (arith, l))
  in_turn (x ∷ xs) (v ∷ vs) [] c s l whole over h few st = absurd h
  in_turn (x ∷ xs) (v ∷ vs) (k ∷ ks) c s l whole over h few st =
      in_turn xs vs ks (record c { vars = bind_name c.vars x v }) (record s { env = bound s.env x (as_variable k) }) (omega (arith, l)) (all_bound (λ u. is_part u ≡ false) c.vars x v whole refl)
      (or_right (passes is_live_linear (find_var c.vars (variable x))) (overwrites_linear (bind_name c.vars x v) xs vs) over) h.1
      (λ w. let a = few w in let b = one_fewer c x v (carried (variables_for xs) vs) whole h.0.unheld w in omega (arith, a, b))
      (one_bound c s x v k (carried (variables_for xs) vs) whole (not_lost (find_var c.vars (variable x)) (or_left (passes is_live_linear (find_var c.vars (variable x))) (overwrites_linear (bind_name c.vars x v) xs vs) over)) h.0 few st)

  pub all_whole : (xs : List NameId) (vs : List Value) (vars : List Var) → AllOf (λ u. is_part u ≡ false) vars → AllOf (λ u. is_part u ≡ false) (bind_names vars xs vs)
  all_whole [] vs vars h = h
  all_whole (x ∷ xs) [] vars h = h
  all_whole (x ∷ xs) (v ∷ vs) vars h = all_whole xs vs (bind_name vars x v) (all_bound (λ u. is_part u ≡ false) vars x v h refl)

  pub all_named : (xs : List NameId) (vs : List Value) (ks : List Known) (vars : List Var) → ListBoth (IsNamed n low U N) vs ks → AllOf (MadeSince n low U) vars → AllOf (MadeSince n low U) (bind_names vars xs vs)
  all_named [] vs ks vars h m = m
  all_named (x ∷ xs) [] ks vars h m = m
  all_named (x ∷ xs) (v ∷ vs) [] vars h m = absurd h
  all_named (x ∷ xs) (v ∷ vs) (k ∷ ks) vars h m = all_named xs vs ks (bind_name vars x v) h.1 (all_bound (MadeSince n low U) vars x v m (one v.ty.classical refl))
    where
      one : (t : Bool) → v.ty.classical ≡ t → MadeSince n low U (statements.bound x v)
      one true e b = clash (sym b ∙ ap (λ a. not (a || is_held v.origin)) e)
      one false e b = h.0.made e
