-- Results of a body: each has the wires of the consumed parameter of its place, or new ones.
use Rattle.std.proofs.Common.{◌≡◌, ◌⊎◌, inl, inr, ℕ, suc, ◌+◌, ◌≤◌, ◌<◌, Bool, true, false, cond, not, ◌||◌, List, [], ◌∷◌, length, refl, sym, ap, ap₂, ◌∙◌, subst, arith}
use Rattle.std.specs.Prelude.{Some, None, ◌==◌}
use Rattle.std.specs.List.{list_any}
use Rattle.std.proofs.lemmas.Bool.{cases_lt, eqb-true, eq-eqb}
use Rattle.silq_tree.specs.Syntax.{Parameter}
use Rattle.silq_types.specs.declared.types.Shape.{Shape}
use Rattle.silq_types.specs.declared.types.Ty.{Ty}
use Rattle.silq_types.specs.declared.signature.Param.{Param}
use Rattle.silq_types.specs.declared.values.Origin.TheVariants.{Held, Linear, Classical}
use Rattle.silq_types.specs.declared.values.Value.{Value}
use Rattle.silq_types.specs.declared.values.Var.{Var}
use Rattle.silq_types.specs.Types.{is_held}
use Rattle.check_scope.specs.Context.{Context}
use Rattle.check_expr.specs.Owners.{at_place, owns, owners}
use Rattle.check_fun.specs.Program.{param_vars, given_on}
use Rattle.silq_mean.specs.declared.receiver.Receiver.{Receiver}
use Rattle.flat_core.specs.declared.step.WireId.{WireId}
use Rattle.bit_arith.specs.declared.operand.Operand.{Operand}
use Rattle.bit_arith.specs.Calls.{Targets}
use Rattle.flat_form.specs.declared.known.Known.{Known}
use Rattle.flat_form.specs.declared.known.Known.TheVariants.{Shown, Absent}
use Rattle.flat_form.specs.State.{wires_in, operands_of}
use Rattle.flat_form.specs.Names.{AllOf, named_by, names}
use Rattle.flat_typed.specs.Places.{Places, is_part, is_shared, has_wires, part_out, less_part, bits_for, shown, times_in, owners_of}
use Rattle.flat_typed.specs.Relation.{AllNew, IsTakenOver, taken_type, is_carried, began_of}
use Rattle.flat_typed.specs.Done.{MadeSince}
use Rattle.flat_typed.specs.Stay.{SomeOf, IsOwner, HadOwner}
use Rattle.flat_typed.specs.Bodies.{TakesResults}
use Rattle.flat_typed.proofs.Ordered.{clash}
use Rattle.flat_typed.proofs.Owning.{no_times, spares_guarded}
use Rattle.flat_typed.proofs.Ending.{times_are_among}
use Rattle.flat_typed.proofs.Binding.{none_out}
use Rattle.flat_typed.proofs.LastTold.{HadPlace, for_taker}

-- ---- operands and wires

pub named_times_in : (w : WireId) (ps : List Operand) → list_any (named_by w) ps ≡ true → 1 ≤ times_in w ps
named_times_in w ps e = go (cases_lt 0 (times_in w ps))
  where
    go : (0 < times_in w ps) ⊎ (times_in w ps ≤ 0) → 1 ≤ times_in w ps
    go (inl l) = omega (arith, l)
    go (inr z) = clash (sym e ∙ no_times w ps (omega (arith, z)))

times_named : (w : WireId) (ps : List Operand) → 1 ≤ times_in w ps → list_any (named_by w) ps ≡ true
times_named w [] le = absurd (omega (arith, le))
times_named w (p ∷ ps) le = go (named_by w p) refl le (times_named w ps)
  where
    go : (b : Bool) → named_by w p ≡ b → 1 ≤ cond b (suc (times_in w ps)) (times_in w ps) → (1 ≤ times_in w ps → list_any (named_by w) ps ≡ true) → (b || list_any (named_by w) ps) ≡ true
    go true e le i = refl
    go false e le i = i le

pub unguarded_wire : (G : Targets) (ps : List Operand) (w : WireId) → AllOf (λ v. G v ≡ false) (wires_in ps) → 1 ≤ times_in w ps → G w ≡ false
unguarded_wire G ps w h le = go (G w) refl
  where
    go : (b : Bool) → G w ≡ b → b ≡ false
    go false e = refl
    go true e = clash (sym (times_are_among w ps le) ∙ spares_guarded G (wires_in ps) w h e)

-- ---- parameters

some_from : (p i : ℕ) (ns : List Parameter) (ps : List Param) → SomeOf (IsOwner p) (param_vars i ns ps) → i ≤ p
some_from p i [] ps h = absurd h
some_from p i (n ∷ ns) [] h = absurd h
some_from p i (n ∷ ns) (q ∷ ps) (inl o) = let e = o.place in omega (arith, e)
some_from p i (n ∷ ns) (q ∷ ps) (inr s) = let a = some_from p (suc i) ns ps s in omega (arith, a)

-- a parameter with wires of its own is consumed: its place is given on
pub owner_given : (p i : ℕ) (ns : List Parameter) (ps : List Param) → SomeOf (IsOwner p) (param_vars i ns ps) → given_on i ps p ≡ None → ⊥
owner_given p i [] ps h e = h
owner_given p i (n ∷ ns) [] h e = h
owner_given p i (n ∷ ns) (q ∷ ps) (inl o) e = go q.held refl
  where
    here : (p == i) ≡ true
    here = eq-eqb p i (sym o.place)

    some_none : (j : ℕ) → Some j ≡ None → ⊥
    some_none j z = grind (arith, z)

    classical_or : (a : Bool) → (a || true) ≡ true
    classical_or true = refl
    classical_or false = refl

    shared_held : (c b : Bool) → b ≡ true → (c || is_held (cond b Held (cond c Classical Linear))) ≡ true
    shared_held c b z = ap (λ b. c || is_held (cond b Held (cond c Classical Linear))) z ∙ classical_or c

    go : (b : Bool) → q.held ≡ b → ⊥
    go true z = clash (sym o.wires ∙ ap not (shared_held q.ty.classical q.held z))
    go false z = some_none i (sym (ap (λ b. cond b (cond q.held None (Some i)) (given_on (suc i) ps p)) here ∙ ap (λ b. cond b None (Some i)) z) ∙ e)
owner_given p i (n ∷ ns) (q ∷ ps) (inr s) e = go (p == i) refl e (owner_given p (suc i) ns ps s)
  where
    go : (b : Bool) → (p == i) ≡ b → cond b (cond q.held None (Some i)) (given_on (suc i) ps p) ≡ None → (given_on (suc i) ps p ≡ None → ⊥) → ⊥
    go true z f ih = let a = some_from p (suc i) ns ps s in let m = eqb-true p i z in omega (arith, a, m)
    go false z f ih = ih f

pub record GivenOn (i : ℕ) (ps : List Param) (p j : ℕ) : Type 0 where
  pub place : p ≡ j
  pub below : j < i + length ps

pub given_is : (i : ℕ) (ps : List Param) (p j : ℕ) → given_on i ps p ≡ Some j → GivenOn i ps p j
given_is i [] p j e = absurd (grind (arith, e))
given_is i (q ∷ ps) p j e = go (p == i) refl e (given_is (suc i) ps p j)
  where
    go : (b : Bool) → (p == i) ≡ b → cond b (cond q.held None (Some i)) (given_on (suc i) ps p) ≡ Some j → (given_on (suc i) ps p ≡ Some j → GivenOn (suc i) ps p j) → GivenOn i (q ∷ ps) p j
    go true z f ih = here q.held f
      where
        here : (b : Bool) → cond b None (Some i) ≡ Some j → GivenOn i (q ∷ ps) p j
        here true g = absurd (grind (arith, g))
        here false g = let m : i ≡ j = grind (arith, g) in let k = eqb-true p i z in record { place = omega (arith, m, k); below = omega (arith, m) }
    go false z f ih = let r = ih f in record { place = r.place; below = let l = r.below in omega (arith, l) }

-- ---- owners of a place

owner_there : (Q : Var → Type 0) (R : Type 0) (p : ℕ) (vs : List Var) → 1 ≤ owners p vs → AllOf Q vs → ((v : Var) → v.consumed ≡ false → v.place ≡ p → Q v → R) → R
owner_there Q R p [] le h f = absurd (omega (arith, le))
owner_there Q R p (v ∷ vs) le h f = go v.consumed refl (v.place == p) refl (λ l. owner_there Q R p vs l h.1 f)
  where
    go : (c : Bool) → v.consumed ≡ c → (b : Bool) → (v.place == p) ≡ b → (1 ≤ owners p vs → R) → R
    go false e true z ih = f v e (eqb-true v.place p z) h.0
    go false e false z ih = let o : owns p v ≡ 0 = ap (λ t. cond t 0 (at_place p v.place)) e ∙ ap (λ t. cond t 1 0) z in ih (omega (arith, le, o))
    go true e b z ih = let o : owns p v ≡ 0 = ap (λ t. cond t 0 (at_place p v.place)) e in ih (omega (arith, le, o))

-- ---- one result

-- what is told of the variables before the last statement
pub record Before (W V : Places) (n : ℕ) (c0 : Context) (all : List Var) (w : WireId) (v : Var) : Type 0 where
  pub whole : is_part v ≡ false
  pub made : MadeSince n c0.next V v
  pub had : HadOwner c0 v
  pub shares : is_shared v ≡ true → names (shown V all v) w ≡ false

module _ (ns : List Parameter) (ps : List Param) (taker : Ty → Receiver) (takes : TakesResults taker) (W V U : Places) (used consumed : Targets) (n m : ℕ) (c1 : Context) where
  abbrev pub c0 : Context
  c0 = record { vars = param_vars 0 ns ps; next = length ps }

  abbrev pub Takes : Ty → Value → Known → Type 0
  Takes t v k = IsTakenOver U used consumed m c1.next (taker t) v k

  pub carried_so : (t : Ty) (v : Value) → is_carried (taker t) v ≡ true
  carried_so t v = for_taker taker takes (λ r. is_carried r v ≡ true) t refl refl

  typed_so : (t : Ty) (v : Value) → taken_type (taker t) v ≡ t
  typed_so t v = for_taker taker takes (λ r. taken_type r v ≡ t) t refl refl

  pub shows_it : (t : Ty) (v : Value) (k : Known) → Takes t v k → k ≡ Shown (record { classical = t.classical; shape = t.shape; operands = operands_of k; own = true; began = began_of k })
  shows_it t v k h =
      h.shows
      ∙ ap₂ (λ (c : Bool) (x : Shape). Shown (record { classical = c; shape = x; operands = operands_of k; own = true; began = began_of k }))
      (ap (λ (x : Ty). x.classical) (typed_so t v)) (sym h.fits ∙ ap (λ (x : Ty). x.shape) (typed_so t v))

  -- a wire of a result that has no consumed parameter's place is new
  module _ (w : WireId) (whole : AllOf (λ v. is_part v ≡ false) c1.vars) (told : (1 ≤ owners_of V c1.vars [] w) → AllOf (Before W V n c0 c1.vars w) c1.vars) (owned : consumed w ≡ true → 1 ≤ owners_of V c1.vars [] w) (later : n ≤ m) (agree : (p : ℕ) → p < c1.next → U p ≡ V p) where
    shared_none : (v : Var) → v.consumed ≡ false → Before W V n c0 c1.vars w v → 1 ≤ times_in w (V v.place) → (b : Bool) → is_shared v ≡ b → b ≡ false
    shared_none v live q le false e = refl
    shared_none v live q le true e =
        clash (sym (times_named w (V v.place) le)
        ∙ (sym (ap (λ b. names (cond b Absent (less_part (part_out c1.vars v.part.name) (bits_for V v))) w) live ∙ ap (λ o. names (less_part o (bits_for V v)) w) (none_out c1.vars v.part.name whole))
        ∙ q.shares e))

    from_owner : (v : Var) → v.consumed ≡ false → Before W V n c0 c1.vars w v → 1 ≤ times_in w (V v.place) → given_on 0 ps v.place ≡ None → n ≤ w.number
    from_owner v live q le none = go (q.made wires)
      where
        wires : has_wires v ≡ true
        wires = ap₂ (λ a b. not (a || b)) (ap₂ (λ a b. a || b) live q.whole) (shared_none v live q le (is_shared v) refl)

        go : (v.place < length ps) ⊎ AllNew n (V v.place) → n ≤ w.number
        go (inl lt) = absurd (owner_given v.place 0 ns ps (q.had wires lt) none)
        go (inr new) = new w le

    pub is_new : (t : Ty) (v : Value) (k : Known) → HadPlace c1 v → Takes t v k → given_on 0 ps v.place ≡ None → names k w ≡ true → n ≤ w.number
    is_new t v k had h none e = go (h.own (carried_so t v)).1
      where
        times : 1 ≤ times_in w (operands_of k)
        times = named_times_in w (operands_of k) (sym (ap (λ q. names q w) h.shows) ∙ e)

        same : v.place < c1.next → 1 ≤ times_in w (V v.place)
        same lt = subst (λ l. 1 ≤ times_in w l) ((h.own (carried_so t v)).0 ∙ agree v.place lt) times

        old : v.place < c1.next → (consumed w ≡ true) ⊎ (m ≤ w.number) → n ≤ w.number
        old lt (inr le) = omega (arith, le, later)
        old lt (inl c) =
            owner_there (Before W V n c0 c1.vars w) (n ≤ w.number) v.place c1.vars (had lt) (told (owned c))
            (λ y live at q. from_owner y live q (subst (λ p. 1 ≤ times_in w (V p)) (sym at) (same lt)) (ap (given_on 0 ps) at ∙ none))

        go : (v.place < c1.next) ⊎ AllNew m (operands_of k) → n ≤ w.number
        go (inr new) = let a = new w times in omega (arith, a, later)
        go (inl lt) = old lt (h.moved (carried_so t v) w times)
