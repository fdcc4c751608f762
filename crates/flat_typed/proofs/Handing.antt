-- Values that are handed over to names: what their places show.
use Rattle.std.proofs.Common.{◌≡◌, ◌⊎◌, inl, inr, ℕ, ◌+◌, ◌≤◌, ◌<◌, Bool, true, false, cond, not, List, [], ◌∷◌, length, refl, sym, ap, ap₂, ◌∙◌, subst, arith}
use Rattle.std.specs.Prelude.{◌==◌, ⊤}
use Rattle.std.specs.List.{list_any}
use Rattle.std.proofs.lemmas.Bool.{eqb-true, eq-eqb}
use Rattle.silq_tree.specs.declared.node.NameId.{NameId}
use Rattle.silq_tree.specs.Syntax.{Expressions}
use Rattle.silq_types.specs.declared.types.Ty.{Ty}
use Rattle.silq_types.specs.declared.need.Need.TheVariants as needs
use Rattle.silq_types.specs.declared.values.Value.{Value}
use Rattle.silq_types.specs.declared.values.Var.{Var}
use Rattle.silq_types.specs.Types.{is_held, count}
use Rattle.check_scope.specs.declared.uses.Use.{Use}
use Rattle.check_scope.specs.Context.{Scope, Context}
use Rattle.check_expr.specs.Owners.{at_place, owned, Sole, Gives}
use Rattle.check_expr.specs.Expression.{arguments}
use Rattle.silq_mean.specs.declared.receiver.Receiver.{Receiver}
use Rattle.silq_mean.specs.declared.receiver.Receiver.TheVariants.{Variable}
use Rattle.silq_mean.specs.Effect.{Effect}
use Rattle.silq_mean.specs.Meaning as meanings
use Rattle.flat_core.specs.declared.step.WireId.{WireId}
use Rattle.bit_arith.specs.declared.operand.Operand.{Operand}
use Rattle.bit_arith.specs.Calls.{Targets}
use Rattle.flat_form.specs.declared.known.Known.{Known}
use Rattle.flat_form.specs.declared.known.Known.TheVariants.{Shown, Absent}
use Rattle.flat_form.specs.State.{Flattening, operands_of}
use Rattle.flat_form.specs.Flat.{as_variable}
use Rattle.flat_form.specs.Names.{AllOf, operands_in, names, named_by}
use Rattle.flat_form.specs.Shows.{ListBoth}
use Rattle.flat_typed.specs.Places.{Places, with_place, has_wires, part_out, less_part, bits_for, shown, holders, times_in, carriers, owners_of}
use Rattle.flat_typed.specs.Relation.{Outside, FitsPart, IsTakenOver, AllNew}
use Rattle.flat_typed.specs.Done.{Agree, StmtBegins}
use Rattle.flat_typed.specs.Calls.{Three, carried, ArgsDone}
use Rattle.flat_typed.specs.Scopes.{as_meaning, NoStatics}
use Rattle.flat_typed.specs.Uses.{IsThere}
use Rattle.flat_typed.specs.Lemmas.{Callable, uses_by}
use Rattle.flat_typed.proofs.Agreeing.{SameFor}
use Rattle.flat_typed.proofs.Making.{its_place}
use Rattle.flat_typed.proofs.Placing.{place_other}
use Rattle.flat_typed.proofs.Tame.{AllLeft}
use Rattle.flat_typed.proofs.Naming.{variables_for, IsNamed}

-- ---- what an assignment needs of its values, beside what their effect does

-- no value that is handed on is held; a classical one has a new place, and names no wire with an owner
pub record IsGiven (U : Places) (low : ℕ) (vars : List Var) (under : List Value) (v : Value) (k : Known) : Type 0 where
  pub unheld : is_held v.origin ≡ false
  pub new : v.ty.classical ≡ true → low ≤ v.place
  pub shares : v.ty.classical ≡ true → (w : WireId) → 1 ≤ owners_of U vars under w → names k w ≡ false

-- an effect hands values over, and uses parts that are there
pub record HandsOver (sc : Scope) (e : Effect) (us : List Use) (takers : List Receiver) (c : Context) (vs : List Value) (d : Context) : Type 0 where
  pub does : (out : Outside) (low : ℕ) (W : Places) (s : Flattening) → StmtBegins out sc low (λ p. 0) W c s → ArgsDone out sc takers e W [] us c s vs d
  pub given : (out : Outside) (low : ℕ) (W : Places) (s : Flattening) (b : StmtBegins out sc low (λ p. 0) W c s) → ListBoth (IsGiven (does out low W s b).after c.next d.vars (carried takers vs)) vs (does out low W s b).answers
  pub there : (W : Places) → AllOf (FitsPart W c.vars) c.vars → AllOf (IsThere sc.held c.vars) us
  pub left : (W : Places) → AllOf (FitsPart W c.vars) c.vars → AllLeft c.vars d.vars
  pub sole : Sole c.next (λ p. 0) c → Sole c.next (λ p. owned p vs) d

-- the values of some expressions
abbrev pub HandedOver : Scope → (Ty → Receiver) → Expressions → List Receiver → Context → List Value → Context → Type 0
HandedOver sc taker es takers c vs d = HandsOver sc (meanings.exprs es (as_meaning taker sc) needs.Consumed [] takers) (uses_by es sc c takers) takers c vs d

-- the values of some expressions that names take over
abbrev pub HandedOverFine : Expressions → Type 0
HandedOverFine es =
    (sc : Scope) (taker : Ty → Receiver) (xs : List NameId) (c : Context) → count es ≡ length xs → NoStatics sc c.vars →
    Gives (Callable sc) (λ r. HandedOver sc taker es (variables_for xs) c r.0 r.1) (arguments es sc needs.Consumed [] c)

-- ---- places show what was taken over

abbrev pub with_all : Places → List Value → List Known → Places
with_all U (v ∷ vs) (k ∷ ks) = with_place (with_all U vs ks) v.place (operands_of k)
with_all U vs ks = U

apart_place : (p q : ℕ) → at_place p q ≡ 0 → (p == q) ≡ false
apart_place p q z = go (p == q) refl
  where
    go : (t : Bool) → (p == q) ≡ t → t ≡ false
    go false e = refl
    go true e = let a : at_place p q ≡ 1 = ap (λ t. cond t 1 0) (eq-eqb q p (sym (eqb-true p q e))) in absurd (omega (arith, a, z))

-- places of no value stay
pub unowned_stays : (U : Places) (vs : List Value) (ks : List Known) (p : ℕ) → owned p vs ≡ 0 → with_all U vs ks p ≡ U p
unowned_stays U [] ks p z = refl
unowned_stays U (v ∷ vs) [] p z = refl
unowned_stays U (v ∷ vs) (k ∷ ks) p z =
    place_other (with_all U vs ks) v.place (operands_of k) p (apart_place p v.place (omega (arith, z))) ∙ unowned_stays U vs ks p (omega (arith, z))

-- another place than those of some values
all_show : (U : Places) (n : ℕ) (ps : List Operand) (vs : List Value) (ks : List Known) → owned n vs ≡ 0 → ListBoth (λ (v : Value) (k : Known). U v.place ≡ operands_of k) vs ks
    → ListBoth (λ (v : Value) (k : Known). with_place U n ps v.place ≡ operands_of k) vs ks
all_show U n ps [] [] z h = h
all_show U n ps [] (k ∷ ks) z h = h
all_show U n ps (v ∷ vs) [] z h = h
all_show U n ps (v ∷ vs) (k ∷ ks) z h =
    (place_other U n ps v.place (other (v.place == n) refl) ∙ h.0, all_show U n ps vs ks (omega (arith, z)) h.1)
  where
    other : (t : Bool) → (v.place == n) ≡ t → t ≡ false
    other false e = refl
    other true e = let a : at_place n v.place ≡ 1 = ap (λ t. cond t 1 0) e in absurd (omega (arith, a, z))

pub each_shows : (U : Places) (vs : List Value) (ks : List Known) → ListBoth (λ (v : Value) (k : Known). ⊤) vs ks → ((p : ℕ) → owned p vs ≤ 1) → ListBoth (λ (v : Value) (k : Known). with_all U vs ks v.place ≡ operands_of k) vs ks
each_shows U [] [] h one = h
each_shows U [] (k ∷ ks) h one = absurd h
each_shows U (v ∷ vs) [] h one = absurd h
each_shows U (v ∷ vs) (k ∷ ks) h one = (
  its_place (with_all U vs ks) v.place (operands_of k),
  all_show (with_all U vs ks) v.place (operands_of k) vs ks
      (let a = one v.place in let e : at_place v.place v.place ≡ 1 = ap (λ t. cond t 1 0) (eq-eqb v.place v.place refl) in omega (arith, a, e))
      (each_shows U vs ks h.1 (λ p. let a = one p in omega (arith, a))),
)

-- ---- owners by another function of places

shown_agree : (U W : Places) (all : List Var) (v : Var) → SameFor U W v → shown U all v ≡ shown W all v
shown_agree U W all v (inl e) = ap (λ t. cond t Absent (less_part (part_out all v.part.name) (bits_for U v))) e ∙ sym (ap (λ t. cond t Absent (less_part (part_out all v.part.name) (bits_for W v))) e)
shown_agree U W all v (inr e) = ap (λ ps. cond v.consumed Absent (less_part (part_out all v.part.name) (record { classical = v.ty.classical; shape = v.ty.shape; operands = ps; own = true; began = 0 }))) e

pub holders_agree : (U W : Places) (all vs : List Var) (w : WireId) → AllOf (SameFor U W) vs → holders U all w vs ≡ holders W all w vs
holders_agree U W all [] w h = refl
holders_agree U W all (v ∷ vs) w h = ap₂ (λ a b. a + b) (ap (λ k. cond (has_wires v) (times_in w (operands_in k)) 0) (shown_agree U W all v h.0)) (holders_agree U W all vs w h.1)

pub carriers_agree : (U W : Places) (w : WireId) (vs : List Value) → AllOf (λ v. U v.place ≡ W v.place) vs → carriers U w vs ≡ carriers W w vs
carriers_agree U W w [] h = refl
carriers_agree U W w (v ∷ vs) h = ap₂ (λ a b. a + b) (ap (times_in w) h.0) (carriers_agree U W w vs h.1)

-- ---- the values in turn

module _ (U : Places) (used consumed : Targets) (n low : ℕ) (vars : List Var) (N : WireId → ℕ) (V : Places) where
  abbrev Takes : Value → Known → Type 0
  Takes v k = IsTakenOver U used consumed n low Variable v k

  -- the places that carry wires show what they showed
  pub carried_same : (xs : List NameId) (vs : List Value) (ks : List Known) → Three (IsTakenOver U used consumed n low) (variables_for xs) vs ks → ListBoth (λ (v : Value) (k : Known). V v.place ≡ operands_of k) vs ks
      → AllOf (λ (v : Value). V v.place ≡ U v.place) (carried (variables_for xs) vs)
  carried_same [] vs ks t h = tt
  carried_same (x ∷ xs) [] ks t h = tt
  carried_same (x ∷ xs) (v ∷ vs) [] t h = absurd t
  carried_same (x ∷ xs) (v ∷ vs) (k ∷ ks) t h = go v.ty.classical refl (carried_same xs vs ks t.1 h.1)
    where
      go : (b : Bool) → v.ty.classical ≡ b → AllOf (λ (v : Value). V v.place ≡ U v.place) (carried (variables_for xs) vs) → AllOf (λ (v : Value). V v.place ≡ U v.place) (cond (not b) (v ∷ carried (variables_for xs) vs) (carried (variables_for xs) vs))
      go true e i = i
      go false e i = (h.0 ∙ (t.0.own (ap not e)).0, i)

  pub named_all : (xs : List NameId) (vs : List Value) (ks : List Known) (under : List Value) → Three (IsTakenOver U used consumed n low) (variables_for xs) vs ks → ListBoth (λ (v : Value) (k : Known). V v.place ≡ operands_of k) vs ks
      → ListBoth (IsGiven U low vars under) vs ks → ((w : WireId) → N w ≡ owners_of U vars under w) → ListBoth (IsNamed n low V N) vs ks
  named_all [] [] [] under t h g m = tt
  named_all [] [] (k ∷ ks) under t h g m = absurd h
  named_all [] (v ∷ vs) ks under t h g m = absurd t
  named_all (x ∷ xs) [] [] under t h g m = tt
  named_all (x ∷ xs) [] (k ∷ ks) under t h g m = absurd h
  named_all (x ∷ xs) (v ∷ vs) [] under t h g m = absurd h
  named_all (x ∷ xs) (v ∷ vs) (k ∷ ks) under t h g m = (
    record {
      shows = ap as_variable t.0.shows ∙ ap (λ ps. Shown (record { classical = v.ty.classical; shape = v.ty.shape; operands = ps; own = true; began = 0 })) (sym h.0);
      unheld = g.0.unheld;
      shares = λ e w le. ap (λ ps. list_any (named_by w) ps) h.0 ∙ (sym (ap (λ q. names q w) t.0.shows) ∙ g.0.shares e w (subst (λ a. 1 ≤ a) (m w) le));
      made = λ e. made e (t.0.own (ap not e)).1;
    },
    named_all xs vs ks under t.1 h.1 g.1 m,
  )
    where
      made : v.ty.classical ≡ false → (v.place < low) ⊎ AllNew n (operands_of k) → (v.place < low) ⊎ AllNew n (V v.place)
      made e (inl l) = inl l
      made e (inr a) = inr (subst (AllNew n) (sym h.0) a)

-- places before the values' own stay
pub low_stays : (U : Places) (used consumed : Targets) (n low : ℕ) (vars : List Var) (under : List Value) (xs : List NameId) (vs : List Value) (ks : List Known) → Three (IsTakenOver U used consumed n low) (variables_for xs) vs ks → ListBoth (IsGiven U low vars under) vs ks → Agree low U (with_all U vs ks)
low_stays U used consumed n low vars under xs [] ks t g p l = refl
low_stays U used consumed n low vars under xs (v ∷ vs) [] t g p l = refl
low_stays U used consumed n low vars under [] (v ∷ vs) (k ∷ ks) t g p l = absurd t
low_stays U used consumed n low vars under (x ∷ xs) (v ∷ vs) (k ∷ ks) t g p l = go (p == v.place) refl v.ty.classical refl (low_stays U used consumed n low vars under xs vs ks t.1 g.1 p l)
  where
    go : (b : Bool) → (p == v.place) ≡ b → (q : Bool) → v.ty.classical ≡ q → with_all U vs ks p ≡ U p → with_place (with_all U vs ks) v.place (operands_of k) p ≡ U p
    go false e q f rest = place_other (with_all U vs ks) v.place (operands_of k) p e ∙ rest
    go true e true f rest = let a = g.0.new f in let z = eqb-true p v.place e in absurd (omega (arith, a, z, l))
    go true e false f rest = ap (λ b. cond b (operands_of k) (with_all U vs ks p)) e ∙ ((t.0.own (ap not f)).0 ∙ ap U (sym (eqb-true p v.place e)))

pub both_long : {A B C : Type 0} (R : A → B → C → Type 0) (ls : List A) (bs : List B) (cs : List C) → Three R ls bs cs → ListBoth (λ (b : B) (c : C). ⊤) bs cs
both_long R [] [] [] t = tt
both_long R [] [] (c ∷ cs) t = absurd t
both_long R [] (b ∷ bs) cs t = absurd t
both_long R (a ∷ ls) [] cs t = absurd t
both_long R (a ∷ ls) (b ∷ bs) [] t = absurd t
both_long R (a ∷ ls) (b ∷ bs) (c ∷ cs) t = (tt, both_long R ls bs cs t.1)
