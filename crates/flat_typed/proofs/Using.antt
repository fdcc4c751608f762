-- A variable in a consumed use, as an expression: the first whole case of the lemma on expressions.
use Rattle.std.proofs.Common.{◌≡◌, ◌⊎◌, inl, inr, ℕ, suc, ◌+◌, ◌≤◌, ◌<◌, Bool, true, false, cond, not, ◌&&◌, ◌||◌, List, [], ◌∷◌, ◌++◌, length, drop, map, refl, sym, ap, ap₂, ◌∙◌, subst, arith}
use Rattle.std.specs.Prelude.{Option, Some, None}
use Rattle.std.specs.List.{list_any}
use Rattle.silq_tree.specs.declared.node.NameId.{NameId}
use Rattle.silq_tree.specs.Syntax.{none}
use Rattle.silq_types.specs.declared.types.Shape.{Shape}
use Rattle.silq_types.specs.declared.types.Shape.TheVariants.{Bit, UInt, Int, Array}
use Rattle.silq_types.specs.declared.values.Part.{Part}
use Rattle.silq_types.specs.declared.values.Value.{Value}
use Rattle.silq_types.specs.declared.values.Var.{Var}
use Rattle.silq_types.specs.Types.{same_name, shape_bits, is_held}
use Rattle.silq_types.specs.declared.need.Need.TheVariants as needs
use Rattle.check_scope.specs.declared.uses.Use.{Use}
use Rattle.check_scope.specs.Context.{Scope, Context, variable, part_at, same_part, find_var, replace, is_in_condition}
use Rattle.silq_types.specs.Calls.{is_consumed}
use Rattle.check_scope.specs.Uses.{place_use}
use Rattle.check_expr.specs.Owners.{at_place, owns, owners}
use Rattle.std.proofs.lemmas.Bool.{eq-eqb, cases_lt}
use Rattle.silq_mean.specs.Env.{Env, Block, in_its_block, is_in_block, block_with}
use Rattle.silq_mean.specs.Effect.{step, give_part}
use Rattle.flat_core.specs.declared.step.WireId.{WireId}
use Rattle.flat_core.specs.Form.{DraftForm}
use Rattle.bit_arith.specs.declared.operand.Operand.{Operand}
use Rattle.bit_arith.specs.declared.operand.Operand.TheVariants.{Const, Literal}
use Rattle.bit_arith.specs.Calls.{Targets, among}
use Rattle.flat_form.specs.declared.known.TypedBits.{TypedBits}
use Rattle.flat_form.specs.declared.known.Known.{Known}
use Rattle.flat_form.specs.declared.known.Known.TheVariants.{Shown, Absent}
use Rattle.flat_form.specs.State.{Flattening, push, wires_in, wires_so_far}
use Rattle.flat_form.specs.Flat.{flat, known_in, use_part, after_use}
use Rattle.flat_form.specs.Fine.{MayUse, FitsIndex, IndexFits}
use Rattle.flat_form.specs.Names.{AllOf, named_by}
use Rattle.flat_typed.specs.Places.{Places, has_wires, part_out, less_part, bits_for, times_in}
use Rattle.flat_typed.specs.Footprint.{wires_for, wires_of_part, used_wires, consumed_wires, Touches}
use Rattle.flat_typed.specs.Relation.{FitsPart, Outside, Stands, IsAnswer}
use Rattle.flat_typed.specs.Done.{Begins, ExprDone, kinds, carrying, Leaves}
use Rattle.flat_typed.proofs.Ordered.{clash}
use Rattle.flat_typed.proofs.Parts.{found_there, shows_its_place, some_same}
use Rattle.flat_typed.proofs.Owning.{same_swap}
use Rattle.flat_typed.proofs.Moving.{spent, handed_on, stands_moved, whole_of, start_none}

-- ---- what stays

pub touches_none : (T : Targets) (d : DraftForm) → Touches T d d
touches_none T d = record { grown = omega arith; labels = λ w l t. refl; measured = λ w l t. refl; mixed = λ w l t. refl; ends = λ w l t. refl; inputs = λ w. inl refl }

block_names : (b : Block Known) (x : NameId) (k : Known) → is_in_block b x ≡ true → map (λ (p : NameId × Known). p.0) (block_with b x k) ≡ map (λ (p : NameId × Known). p.0) b
block_names [] x k e = clash (sym e)
block_names (p ∷ ps) x k e = go (same_name p.0 x) e (block_names ps x k)
  where
    go : (t : Bool) → (t || is_in_block ps x) ≡ true → (is_in_block ps x ≡ true → map (λ (p : NameId × Known). p.0) (block_with ps x k) ≡ map (λ (p : NameId × Known). p.0) ps)
        → map (λ (p : NameId × Known). p.0) (cond t ((p.0, k) ∷ ps) (p ∷ block_with ps x k)) ≡ p.0 ∷ map (λ (p : NameId × Known). p.0) ps
    go true e i = refl
    go false e i = ap (λ l. p.0 ∷ l) (i e)

abbrev pub all_names : Env Known → List (List NameId)
all_names env = map (λ b. map (λ (p : NameId × Known). p.0) b) env

pub env_names : (env : Env Known) (x : NameId) (k : Known) → all_names (in_its_block env x k) ≡ all_names env
env_names [] x k = refl
env_names (b ∷ bs) x k = go (is_in_block b x) refl (env_names bs x k)
  where
    go : (t : Bool) → is_in_block b x ≡ t → all_names (in_its_block bs x k) ≡ all_names bs → all_names (cond t (block_with b x k ∷ bs) (b ∷ in_its_block bs x k)) ≡ all_names (b ∷ bs)
    go true e i = ap (λ l. l ∷ all_names bs) (block_names b x k e)
    go false e i = ap (λ l. map (λ (p : NameId × Known). p.0) b ∷ l) i

pub drop_map : {A B : Type 0} (f : A → B) (xs : List A) → map f (drop 1 xs) ≡ drop 1 (map f xs)
drop_map f [] = refl
drop_map f (x ∷ xs) = refl

pub length_map : {A B : Type 0} (f : A → B) (xs : List A) → length xs ≡ length (map f xs)
length_map f [] = refl
length_map f (x ∷ xs) = ap suc (length_map f xs)

pub leaves_names : (s : Flattening) (x : NameId) (k l : Known) → Leaves s (push k (record s { env = in_its_block s.env x l }))
leaves_names s x k l = record {
  setting = refl;
  callers = refl;
  blocks = length_map (λ b. map (λ (p : NameId × Known). p.0) b) (in_its_block s.env x l) ∙ (ap length (env_names s.env x l) ∙ sym (length_map (λ b. map (λ (p : NameId × Known). p.0) b) s.env));
  names = drop_map (λ b. map (λ (p : NameId × Known). p.0) b) (in_its_block s.env x l) ∙ (ap (λ m. drop 1 m) (env_names s.env x l) ∙ sym (drop_map (λ b. map (λ (p : NameId × Known). p.0) b) s.env));
}

-- a variable in the place of another one of its part and type
pub kinds_replaced : (vs : List Var) (v : Var) (p : Part) → find_var vs p ≡ Some v → v.part ≡ p → kinds (replace vs (spent v)) ≡ kinds vs
kinds_replaced [] v p e q = refl
kinds_replaced (w ∷ ws) v p e q = go (same_part w.part p) refl e (λ d. kinds_replaced ws v p d q)
  where
    goal : Bool → Type 0
    goal t = kinds (cond t (spent v ∷ ws) (w ∷ replace ws (spent v))) ≡ kinds (w ∷ ws)

    go : (t : Bool) → same_part w.part p ≡ t → cond t (Some w) (find_var ws p) ≡ Some v → (find_var ws p ≡ Some v → kinds (replace ws (spent v)) ≡ kinds ws) → goal (same_part w.part v.part)
    go true s e i = subst goal (sym (ap (same_part w.part) q ∙ s)) (ap (λ (u : Var). (u.part, (u.ty, u.place)) ∷ kinds ws) (sym (some_same w v e)))
    go false s e i = subst goal (sym (ap (same_part w.part) q ∙ s)) (ap (λ l. (w.part, (w.ty, w.place)) ∷ l) (i e))

-- ---- wires by operands and by lists

pub among_of : (w : WireId) (ps : List Operand) → list_any (named_by w) ps ≡ among (wires_in ps) w
among_of w [] = refl
among_of w (Const b ∷ ps) = among_of w ps
among_of w (Literal l ∷ ps) = ap₂ (λ a b. a || b) (same_swap l.wire w) (among_of w ps)

pub times_among : (w : WireId) (ps : List Operand) → 1 ≤ times_in w ps → among (wires_in ps) w ≡ true
times_among w [] le = absurd (omega (arith, le))
times_among w (Const b ∷ ps) le = times_among w ps le
times_among w (Literal l ∷ ps) le = ap (λ t. t || among (wires_in ps) w) (same_swap w l.wire) ∙ go (named_by w (Literal l)) le (times_among w ps)
  where
    go : (t : Bool) → 1 ≤ cond t (suc (times_in w ps)) (times_in w ps) → (1 ≤ times_in w ps → among (wires_in ps) w ≡ true) → (t || among (wires_in ps) w) ≡ true
    go true le i = refl
    go false le i = i le

index_fits : (s : Shape) → IndexFits s []
index_fits Bit = tt
index_fits (UInt n) = tt
index_fits (Int n) = tt
index_fits (Array k n) = tt

-- the place of a live variable is none that is to come
owns_own : (v : Var) → v.consumed ≡ false → owns v.place v ≡ 1
owns_own v live = ap (λ t. cond t 0 (at_place v.place v.place)) live ∙ ap (λ t. cond t 1 0) (eq-eqb v.place v.place refl)

live_counts : (vs : List Var) (p : Part) (v : Var) → find_var vs p ≡ Some v → v.consumed ≡ false → 1 ≤ owners v.place vs
live_counts [] p v e l = absurd (grind (arith, e))
live_counts (w ∷ ws) p v e l = go (same_part w.part p) e (λ d. live_counts ws p v d l)
  where
    go : (t : Bool) → cond t (Some w) (find_var ws p) ≡ Some v → (find_var ws p ≡ Some v → 1 ≤ owners v.place ws) → 1 ≤ owns v.place w + owners v.place ws
    go true e i = let a : owns v.place w ≡ 1 = ap (owns v.place) (some_same w v e) ∙ owns_own v l in omega (arith, a)
    go false e i = let a = i e in omega (arith, a)

pub live_below : (vs : List Var) (p : Part) (v : Var) {n : ℕ} → find_var vs p ≡ Some v → v.consumed ≡ false → (n ≤ v.place → owners v.place vs ≡ 0) → v.place < n
live_below vs p v {n = n} e l h = go (cases_lt v.place n)
  where
    go : (v.place < n) ⊎ (n ≤ v.place) → v.place < n
    go (inl lt) = lt
    go (inr le) = let a = h le in let c = live_counts vs p v e l in absurd (omega (arith, a, c))

-- ---- the law

module _ (out : Outside) (sc : Scope) (low : ℕ) (others : ℕ → ℕ) (W : Places) (under : List Value) (c : Context) (s : Flattening) (x : NameId) (v : Var) where
  abbrev pub us : List Use
  us = place_use sc.statics (Some v) none needs.Consumed

  -- a whole variable with wires of its own, in a consumed use: it is moved
  pub moved_done : Begins out sc low others W under us c s → find_var c.vars (variable x) ≡ Some v → part_out c.vars v.part.name ≡ None → has_wires v ≡ true → v.consumed ≡ false → v.ty.classical ≡ false → is_held v.origin ≡ false
      → length (W v.place) ≡ shape_bits v.ty.shape → is_in_condition sc.held (part_at x []) ≡ false → AllOf (FitsPart W (replace c.vars (spent v))) (replace c.vars (spent v))
      → ExprDone out sc needs.Consumed (step (give_part needs.Consumed x [])) W under us c s (handed_on v ∷ []) (record c { vars = replace c.vars (spent v) })
  moved_done b e o h live quantum unheld size free fit = record {
    fine = (subst (MayUse []) (sym known) may, subst (FitsIndex []) (sym known) (index_fits v.ty.shape));
    after = W;
    agree = λ p l. refl;
    answers = given ∷ [];
    values = refl;
    each = (answer, tt);
    stands = subst (λ u. Stands out sc.held W (carrying needs.Consumed (handed_on v ∷ []) (given ∷ []) ++ under) (record c { vars = replace c.vars (spent v) }) u) (sym state) (subst (λ l. Stands out sc.held W (l ++ under) (record c { vars = replace c.vars (spent v) }) (push given (record s { env = in_its_block s.env x Absent }))) (sym carries) (stands_moved out sc.held W under c s x v given b.stands e o h live size free fit));
    kinds_stay = kinds_replaced c.vars v (variable x) e (found_there c.vars x v e);
    leaves = leaves_names s x given (after_use needs.Consumed [] (known_in s x));
    touches = touches_none (consumed_wires W c.vars us) s.built.draft;
    plain = λ q w m. m;
    unmade = b.unmade;
  }
    where
      bits : TypedBits
      bits = bits_for W v

      known : known_in s x ≡ Shown bits
      known =
          shows_its_place W c.vars s x v b.stands.env b.stands.differ e
          ∙ (ap (λ t. cond t Absent (less_part (part_out c.vars v.part.name) bits)) live ∙ ap (λ r. less_part r bits) o)

      may : MayUse [] (Shown bits)
      may = let a = start_none v.ty.shape in omega (arith, a, size)

      given : Known
      given = use_part (wires_so_far s) needs.Consumed [] (known_in s x)

      given_is : given ≡ Shown (record { classical = false; shape = v.ty.shape; operands = W v.place; own = true; began = wires_so_far s })
      given_is =
          ap (use_part (wires_so_far s) needs.Consumed []) known
          ∙ (ap (λ l. Shown (record { classical = v.ty.classical; shape = v.ty.shape; operands = l; own = true && not v.ty.classical; began = wires_so_far s })) (whole_of v.ty.shape (W v.place) size)
          ∙ ap (λ t. Shown (record { classical = t; shape = v.ty.shape; operands = W v.place; own = true && not t; began = wires_so_far s })) quantum)

      left : after_use needs.Consumed [] (known_in s x) ≡ Absent
      left = ap (after_use needs.Consumed []) known ∙ ap (λ t. cond (true && not t) Absent (Shown bits)) quantum

      state : flat (step (give_part needs.Consumed x [])) s ≡ push given (record s { env = in_its_block s.env x Absent })
      state = ap (λ k. push given (record s { env = in_its_block s.env x k })) left

      carries : carrying needs.Consumed (handed_on v ∷ []) (given ∷ []) ≡ handed_on v ∷ []
      carries = ap (λ k. carrying needs.Consumed (handed_on v ∷ []) (k ∷ [])) given_is

      wires_for_here : Option Var → Targets
      wires_for_here r = wires_for W r (variable x)

      -- the wires of the part that is used are those of the place
      of_part : (w : WireId) → wires_of_part W c.vars (variable v.part.name) w ≡ among (wires_in (W v.place)) w
      of_part w =
          ap (λ (p : Part). wires_of_part W c.vars (variable p.name) w) (found_there c.vars x v e)
          ∙ (ap (λ r. wires_for_here r w) e ∙ ap (λ l. among (wires_in l) w) (whole_of v.ty.shape (W v.place) size))

      consumes : (w : WireId) → among (wires_in (W v.place)) w ≡ true → consumed_wires W c.vars us w ≡ true
      consumes w a = ap (λ t. (is_consumed (cond t needs.Held needs.Consumed) && wires_of_part W c.vars (variable v.part.name) w) || false) quantum ∙ ap (λ t. t || false) (of_part w ∙ a)

      uses_it : (w : WireId) → among (wires_in (W v.place)) w ≡ true → used_wires W c.vars us w ≡ true
      uses_it w a = ap (λ t. t || false) (of_part w ∙ a)

      answer : IsAnswer W needs.Consumed (used_wires W c.vars us) (consumed_wires W c.vars us) (wires_so_far s) c.next (handed_on v) given
      answer = subst (IsAnswer W needs.Consumed (used_wires W c.vars us) (consumed_wires W c.vars us) (wires_so_far s) c.next (handed_on v)) (sym given_is) (record {
        typed = (refl, sym quantum);
        handed = λ q. unheld;
        own = λ q i. (refl, inl below);
        borrowed = λ q i. clash i;
        moved = λ i w le. inl (consumes w (times_among w (W v.place) le));
        within = λ w n. inl (uses_it w (sym (among_of w (W v.place)) ∙ n));
        began = omega arith;
        differ = λ w le. one w;
      })
        where
          below : v.place < c.next
          below = live_below c.vars (variable x) v e live (λ l. let a = b.sole.ahead v.place l in omega (arith, a))

          one : (w : WireId) → times_in w (W v.place) ≤ 1
          one w = let a = (stands_moved out sc.held W under c s x v given b.stands e o h live size free fit).one w in omega (arith, a)
