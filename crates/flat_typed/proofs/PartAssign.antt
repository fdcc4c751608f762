-- An assignment to a part: what is known behind its right side, and the variable that has its part again.
use Rattle.std.proofs.Common.{◌≡◌, inl, ℕ, ◌+◌, ◌≤◌, Bool, true, false, cond, not, ◌&&◌, ◌||◌, List, [], ◌∷◌, ◌++◌, length, map, drop, ℤ, refl, sym, ap, ap₂, ◌∙◌, subst, arith}
use Rattle.std.specs.Prelude.{Some, take, reverse, nat_lt}
use Rattle.silq_tree.specs.declared.node.NameId.{NameId}
use Rattle.silq_tree.specs.Syntax.{Expression, Place}
use Rattle.silq_types.specs.declared.types.Ty.{Ty}
use Rattle.silq_types.specs.declared.need.Need.TheVariants as needs
use Rattle.silq_types.specs.declared.values.Part.{Part}
use Rattle.silq_types.specs.declared.values.Value.{Value}
use Rattle.silq_types.specs.declared.values.Var.{Var}
use Rattle.silq_types.specs.Types.{is_held, is_linear, shape_bits, place_name, place_indices}
use Rattle.silq_mean.specs.Written.{is_empty}
use Rattle.silq_mean.specs.Effect.{Effect, ◌>>◌ as ◌▸◌, step, receive, assign_to}
use Rattle.silq_mean.specs.Meaning as meanings
use Rattle.silq_mean.specs.declared.receiver.Receiver.{Receiver}
use Rattle.check_scope.specs.declared.uses.Use.{Use}
use Rattle.check_scope.specs.Context.{Scope, Context, indices, variable, same_part, part_type, find_var, replace}
use Rattle.check_scope.specs.Uses.{uses}
use Rattle.check_expr.proofs.Alike.{same_part_refl}
use Rattle.check_fun.specs.Statement.{Target, passes}
use Rattle.flat_form.specs.declared.known.TypedBits.{TypedBits}
use Rattle.flat_form.specs.declared.known.Known.{Known}
use Rattle.flat_form.specs.declared.known.Known.TheVariants.{Static, Shown, Lent, Absent}
use Rattle.flat_form.specs.State.{Flattening, wires_so_far, part_shape, part_start, part_of, with_part}
use Rattle.flat_form.specs.Flat.{flat, known_in}
use Rattle.flat_form.specs.Good.{Good, IsKnown, IsShown}
use Rattle.flat_form.specs.Names.{AllOf}
use Rattle.flat_form.specs.Shows.{ListBoth}
use Rattle.flat_form.proofs.Goods.{good_flat}
use Rattle.flat_form.proofs.Kept as kept_laws
use Rattle.flat_typed.specs.Places.{Places, with_place, is_part, is_shared, part_out, less_part, bits_for, shown, owners_of}
use Rattle.flat_typed.specs.Footprint.{used_wires, consumed_wires, Touches, StaysPlain, Unmade}
use Rattle.flat_typed.specs.Relation.{FitsPart, IsPartOf, Outside, Stands, IsAnswer}
use Rattle.flat_typed.specs.Scopes.{as_meaning}
use Rattle.flat_typed.specs.Uses.{IsThere}
use Rattle.flat_typed.specs.Done.{Begins, ExprDone, ExprTells, StmtBegins, IsSharing, IsTyped, carrying, StmtDone, Leaves, MadeSince, changeable}
use Rattle.flat_typed.proofs.Ordered.{clash, reach_in_order}
use Rattle.flat_typed.proofs.Parts.{found_there, shows_its_place, whole_part, part_other, there_entry}
use Rattle.flat_typed.proofs.Binding.{part_swap, none_out}
use Rattle.flat_typed.proofs.Uses.{name_of_part}
use Rattle.flat_typed.proofs.There.{part_class}
use Rattle.flat_typed.proofs.Ranges.{part_shaped, part_ends, part_indexed}
use Rattle.flat_typed.proofs.Tame.{Left, AllLeft, FindLeft, find_left}
use Rattle.flat_typed.proofs.Reached.{whole_left, made_left}
use Rattle.flat_typed.proofs.Changing.{same_shape}
use Rattle.flat_typed.proofs.Claims.{OneAnswer, one_answer}
use Rattle.flat_typed.proofs.Inside.{exact_indices}
use Rattle.flat_typed.proofs.Spans.{put_back_same}
use Rattle.flat_typed.proofs.TakingOut.{found_last, found_whole, begins_with_part, owner_below, stays_below, owners_with}
use Rattle.flat_typed.proofs.GivingBack.{out_last, stands_back}
use Rattle.flat_typed.proofs.LastPart.{SplitLast, left_split, all_last, origin_behind, with_origin_is, behind_unheld, behind_linear, behind_now}
use Rattle.flat_typed.proofs.PartWalk.{PartAssigned, its_variable, with_part_out, is_indexed}
use Rattle.silq_mean.specs.declared.receiver.Receiver.TheVariants.{Variable}
use Rattle.silq_mean.specs.Env.{bound, in_its_block, in_first_block, is_in_block}
use Rattle.flat_core.specs.declared.step.WireId.{WireId}
use Rattle.flat_typed.proofs.Changes.{whole_is}
use Rattle.flat_typed.proofs.Moving.{all_replaced}
use Rattle.flat_typed.proofs.Using.{env_names, drop_map, length_map}
use Rattle.flat_typed.proofs.Growing.{touches_more}
use Rattle.flat_typed.proofs.Footprints.{consumed_may_change}
use Rattle.flat_typed.proofs.PartSteps.{becomes, may_receive, may_assign}

-- a value with wires of its own
pub record OwnKnown (k : Known) : Type 0 where
  pub bits : TypedBits
  pub is : k ≡ Shown bits
  pub own : bits.own ≡ true

not_true : (a : Bool) → not a ≡ true → a ≡ false
not_true true e = clash (sym e)
not_true false e = refl

and_not : (a b : Bool) → (a && not b) ≡ false → b ≡ false → a ≡ false
and_not true true h e = clash e
and_not true false h e = clash h
and_not false b h e = refl

module _ (sc : Scope) (taker : Ty → Receiver) (place : Place) (e : Expression) (c g : Context) (indexed : is_empty (meanings.static_values (place_indices place) sc.statics) ≡ false) (k : PartAssigned sc taker place e c g) (out : Outside) (low : ℕ) (W : Places) (st : Flattening) (b : StmtBegins out sc low (λ q. 0) W c st) where
  abbrev pub t : Target
  t = k.target

  abbrev pub o : Var
  o = k.target.owner

  abbrev pub p : Var
  p = its_variable k.target c

  abbrev pub v : Value
  v = k.value

  abbrev pub E0 : Effect
  E0 = meanings.expr e (as_meaning taker sc) needs.Consumed

  abbrev pub c1 : Context
  c1 = with_part_out k.target c

  abbrev pub us : List Use
  us = uses e sc c1.vars needs.Consumed

  abbrev pub d : Context
  d = k.middle

  abbrev pub s1 : Flattening
  s1 = flat E0 st

  abbrev pub D : List Var
  D = take (length c.vars) k.middle.vars

  pub part : is_part p ≡ true
  part = is_indexed sc taker place e c indexed k.target k.aim

  pub name_is : k.target.part.name ≡ place_name place
  name_is = ap (λ (q : Part). q.name) k.aim.part ∙ name_of_part (place_name place) k.aim.indices

  pub indices_is : indices k.target.part ≡ k.aim.indices
  indices_is = ap indices k.aim.part ∙ exact_indices place (place_name place) sc.statics k.aim.indices k.aim.mean

  pub owner : find_var c.vars (variable p.part.name) ≡ Some o
  owner = ap (λ n. find_var c.vars (variable n)) name_is ∙ k.aim.found

  pub kind : part_type o.ty.classical o.ty.shape (indices p.part) ≡ Some p.ty
  kind = ap (part_type o.ty.classical o.ty.shape) indices_is ∙ k.aim.kind

  abbrev pub first_places : Places
  first_places = with_place W c.next (part_of o.ty.shape (indices k.target.part) (W o.place))

  -- ---- the right side

  pub begins : Begins out sc low (λ q. 0) first_places [] us c1 st
  begins = begins_with_part out sc low W c st b p o part k.aim.live refl owner k.aim.live kind refl us

  pub tells : ExprTells out sc needs.Consumed [] E0 first_places [] us c1 st (v ∷ []) d
  tells = k.went.does out low (λ q. 0) first_places [] st begins

  abbrev pub h : ExprDone out sc needs.Consumed E0 first_places [] us c1 st (v ∷ []) d
  h = tells.done

  abbrev pub U : Places
  U = tells.done.after

  pub told : AllOf (IsThere sc.held c1.vars) us × (AllLeft c1.vars d.vars × AllOf (FitsPart first_places d.vars) d.vars)
  told = k.went.told first_places begins.stands.parts

  abbrev Answer : Known → Type 0
  Answer a = IsAnswer U needs.Consumed (used_wires first_places c1.vars us) (consumed_wires first_places c1.vars us) (wires_so_far st) c1.next v a

  pub answer : OneAnswer (IsAnswer U needs.Consumed (used_wires first_places c1.vars us) (consumed_wires first_places c1.vars us) (wires_so_far st) c1.next) v h.answers
  answer = one_answer (IsAnswer U needs.Consumed (used_wires first_places c1.vars us) (consumed_wires first_places c1.vars us) (wires_so_far st) c1.next) v h.answers h.each

  -- its value has the place of the part, so it is no classical one, and its wires are its own
  old_place : c1.next ≤ v.place → ⊥
  old_place le = let a = k.same in omega (arith, a, le)

  quantum : v.ty.classical ≡ false
  quantum = go v.ty.classical refl
    where
      go : (z : Bool) → v.ty.classical ≡ z → z ≡ false
      go false q = refl
      go true q = absurd (old_place ((subst (ListBoth (IsSharing needs.Consumed c1.next (λ w. owners_of U d.vars [] w)) (v ∷ [])) answer.all tells.sharing).0.new refl q))

  pub own_known : OwnKnown answer.known
  own_known = go answer.known answer.is (subst (AllOf IsTyped) answer.all (tells.typed refl)).0
    where
      go : (a : Known) → Answer a → IsTyped a → OwnKnown a
      go (Static z) i y = absurd y
      go (Shown u) i y = at (u.own) refl
        where
          at : (z : Bool) → u.own ≡ z → OwnKnown (Shown u)
          at true q = record { bits = u; is = refl; own = q }
          at false q = absurd (old_place (i.borrowed refl q).0)
      go (Lent start size u) i y = absurd i.typed
      go Absent i y = absurd i.typed

  abbrev pub u : TypedBits
  u = own_known.bits

  given : Answer (Shown u)
  given = subst Answer own_known.is answer.is

  pub values1 : s1.values ≡ Shown u ∷ []
  values1 = h.values ∙ (ap (λ l. reverse l ++ st.values) (answer.all ∙ ap (λ a. a ∷ []) own_known.is) ∙ ap (λ l. Shown u ∷ l) b.none)

  pub u_quantum : u.classical ≡ false
  u_quantum = given.typed.1 ∙ quantum

  pub u_own : u.own ≡ true
  u_own = own_known.own

  stands1 : Stands out sc.held U (v ∷ []) d s1
  stands1 =
      subst (λ t. Stands out sc.held U (cond t (v ∷ []) [] ++ []) d s1) own_known.own
      (subst (λ ks. Stands out sc.held U (carrying needs.Consumed (v ∷ []) ks ++ []) d s1) (answer.all ∙ ap (λ a. a ∷ []) own_known.is) h.stands)

  -- ---- the part behind it

  pub split : SplitLast c.vars p d.vars
  split = left_split c.vars d.vars p told.1.0

  abbrev pub q : Var
  q = split.last

  abbrev pub x : NameId
  x = split.last.part.name

  abbrev pub is : List ℤ
  is = indices split.last.part

  pub whole1 : AllOf (λ u. is_part u ≡ false) D
  whole1 = whole_left c.vars D split.left b.whole

  pub part_q : is_part q ≡ true
  part_q = ap (λ (y : Part). not (is_empty (indices y))) split.one.part ∙ part

  found_q : find_var d.vars k.target.part ≡ Some q
  found_q =
      ap (λ l. find_var l k.target.part) split.all
      ∙ found_last q part_q D whole1 k.target.part (ap (λ y. same_part y k.target.part) split.one.part ∙ same_part_refl k.target.part)
      (λ w i. ap (λ y. same_part y k.target.part) (whole_part w i) ∙ part_swap k.target.part (variable w.part.name) (part_other p w.part.name part))

  pub gone : q.consumed ≡ true
  gone = ap (passes (λ (w : Var). w.consumed)) (sym found_q) ∙ k.gone

  pub stands_d : Stands out sc.held U (v ∷ []) (record { vars = D ++ q ∷ []; next = d.next }) s1
  stands_d = subst (λ l. Stands out sc.held U (v ∷ []) (record { vars = l; next = d.next }) s1) split.all stands1

  -- its variable
  pub its : (w : Var) × (find_var (D ++ q ∷ []) (variable x) ≡ Some w) × IsPartOf U q w
  its = all_last (FitsPart U (D ++ q ∷ [])) D q stands_d.parts part_q

  abbrev pub r : Var
  r = its.0

  pub owner_r : find_var D (variable x) ≡ Some r
  owner_r = sym (found_whole q part_q D x) ∙ its.1

  left_r : Left o r
  left_r = subst (λ z. FindLeft z (Some r)) (ap (λ (y : Part). find_var c.vars (variable y.name)) split.one.part ∙ owner) (subst (FindLeft (find_var c.vars (variable x))) owner_r (find_left c.vars D (variable x) split.left))

  pub place_r : r.place ≡ o.place
  place_r = left_r.place

  pub unheld_r : is_held r.origin ≡ false
  unheld_r = ap is_held left_r.origin ∙ k.unheld

  pub own_r : is_shared r ≡ false
  own_r =
      ap₂ (λ a b. a || b) (ap (λ (y : Ty). y.classical) left_r.ty ∙ (sym (part_class o.ty.classical o.ty.shape (indices p.part) p.ty kind) ∙ and_not k.target.ty.classical v.ty.classical k.class quantum)) unheld_r

  pub place_v : v.place ≡ q.place
  place_v = k.same ∙ sym split.one.place

  -- ---- what the name shows

  abbrev pub bits : TypedBits
  bits = bits_for U r

  pub known_lent : known_in s1 x ≡ Lent (part_start r.ty.shape is) (shape_bits (part_shape r.ty.shape is)) bits
  known_lent =
      shows_its_place U (D ++ q ∷ []) s1 x r stands_d.env stands_d.differ its.1
      ∙ (ap (λ t. cond t Absent (less_part (part_out (D ++ q ∷ []) r.part.name) bits)) its.2.live
      ∙ ap (λ z. less_part z bits) (ap (λ (y : Part). part_out (D ++ q ∷ []) y.name) (found_there D x r owner_r) ∙ out_last D q whole1 part_q gone))

  pub shown_whole : shown U D r ≡ Shown bits
  shown_whole = ap (λ t. cond t Absent (less_part (part_out D r.part.name) bits)) its.2.live ∙ ap (λ z. less_part z bits) (none_out D r.part.name whole1)

  pub put_back : with_part r.ty.shape is (U r.place) u.operands ≡ U r.place
  put_back = ap (with_part r.ty.shape is (U r.place)) ((given.own refl own_known.own).0 ∙ (ap U place_v ∙ its.2.wires)) ∙ put_back_same r.ty.shape is (U r.place)

  good1 : Good s1
  good1 = good_flat E0 st b.good h.fine

  known_good : IsShown (wires_so_far s1) bits
  known_good = subst (IsKnown (wires_so_far s1)) known_lent (kept_laws.found_all (IsKnown (wires_so_far s1)) Absent s1.env x tt good1.known.env)

  pub there : part_start r.ty.shape is + shape_bits (part_shape r.ty.shape is) ≤ length (U r.place)
  there = let a = part_ends r.ty.classical r.ty.shape is q.ty its.2.kind in let z = known_good.size in omega (arith, a, z)

  pub u_shape : u.shape ≡ part_shape r.ty.shape is
  u_shape = given.typed.0 ∙ (sym (same_shape k.target.ty.shape v.ty.shape k.shape) ∙ (ap (λ (y : Ty). y.shape) (sym split.one.ty) ∙ part_shaped r.ty.classical r.ty.shape is q.ty its.2.kind))

  -- ---- the statement

  abbrev linear : Bool
  linear = is_linear v.origin || false

  abbrev behind : Context
  behind = record d { vars = replace D (record r { origin = origin_behind linear r.origin }) }

  its_part : o.part ≡ variable x
  its_part = found_there c.vars p.part.name o owner ∙ ap (λ (y : Part). variable y.name) (sym split.one.part)

  left_is : g ≡ behind
  left_is = k.left ∙ ap (λ (l : List Var). record d { vars = l }) (with_origin_is linear D o.part r (ap (find_var D) its_part ∙ owner_r) (found_there D x r owner_r ∙ sym its_part))

  indexed_q : is_empty is ≡ false
  indexed_q = not_true (is_empty is) part_q

  abbrev final : Flattening
  final = record s1 { env = bound s1.env x (Shown bits); values = [] }

  becomes_final : flat ((E0 ▸ step (receive Variable)) ▸ step (assign_to x is)) st ≡ final
  becomes_final = becomes s1 x is u bits values1 u_own u_quantum indexed_q known_lent put_back refl

  stands_final : Stands out sc.held U [] behind final
  stands_final =
      subst (λ z. Stands out sc.held U [] behind (record s1 { env = bound s1.env x z; values = [] })) shown_whole
      (stands_back out sc.held U [] d.next s1 D q r v (origin_behind linear r.origin) stands_d whole1 part_q gone owner_r its.2 own_r place_v (behind_unheld linear r.origin unheld_r) (behind_linear linear r.origin) (behind_now (is_linear v.origin) r.origin) [])

  env_is : bound s1.env x (Shown bits) ≡ in_its_block s1.env x (Shown bits)
  env_is = ap (λ t. cond t (in_its_block s1.env x (Shown bits)) (in_first_block s1.env x (Shown bits))) (reach_in_order s1.env x ∙ (ap (λ l. is_in_block l x) stands_d.env ∙ there_entry U (D ++ q ∷ []) (D ++ q ∷ []) x r its.1))

  leaves_final : Leaves st final
  leaves_final = record {
    setting = h.leaves.setting;
    callers = h.leaves.callers;
    blocks = ap length env_is ∙ (length_map (λ l. map (λ (y : NameId × Known). y.0) l) (in_its_block s1.env x (Shown bits)) ∙ (ap length (env_names s1.env x (Shown bits)) ∙ (sym (length_map (λ l. map (λ (y : NameId × Known). y.0) l) s1.env) ∙ h.leaves.blocks)));
    names = ap (λ m. map (λ l. map (λ (y : NameId × Known). y.0) l) (drop 1 m)) env_is ∙ (drop_map (λ l. map (λ (y : NameId × Known). y.0) l) (in_its_block s1.env x (Shown bits)) ∙ (ap (λ m. drop 1 m) (env_names s1.env x (Shown bits)) ∙ (sym (drop_map (λ l. map (λ (y : NameId × Known). y.0) l) s1.env) ∙ h.leaves.names)));
  }

  touches_final : Touches (changeable out W c.vars []) st.built.draft s1.built.draft
  touches_final = touches_more (consumed_wires first_places c1.vars us) (changeable out W c.vars []) st.built.draft s1.built.draft h.touches (λ w l f. off w f (consumed_wires first_places c1.vars us w) refl)
    where
      off : (w : WireId) → changeable out W c.vars [] w ≡ false → (t : Bool) → consumed_wires first_places c1.vars us w ≡ t → t ≡ false
      off w f false a = refl
      off w f true a =
          clash (sym (consumed_may_change out sc.held first_places [] c1 st us begins.stands told.0 w a)
          ∙ (ap (λ n. not (out.guarded w) && nat_lt 0 n) (owners_with out sc low W c st b p o part k.aim.live refl owner k.aim.live kind refl w) ∙ f))

  made_final : AllOf (MadeSince (wires_so_far st) c.next U) behind.vars
  made_final =
      all_replaced (MadeSince (wires_so_far st) c.next U) D (record r { origin = origin_behind linear r.origin }) (made_left (wires_so_far st) c.next U c.vars D split.left (λ n le. let a = b.sole.ahead n le in omega (arith, a)))
      (λ a. inl (let z = place_r in let l = owner_below out sc low W c st b p o part k.aim.live refl owner k.aim.live kind refl in omega (arith, z, l)))

  at_part : StmtDone out sc ((E0 ▸ step (receive Variable)) ▸ step (assign_to x is)) W c st behind
  at_part = record {
    fine = ((h.fine, may_receive s1 x is u bits values1 u_own u_quantum indexed_q known_lent), may_assign s1 x is u bits values1 u_own u_quantum indexed_q known_lent there refl u_shape (part_indexed r.ty.classical r.ty.shape is q.ty its.2.kind));
    after = U;
    agree = λ n l. h.agree n (omega (arith, l)) ∙ stays_below out sc low W c st b p o part k.aim.live refl owner k.aim.live kind refl n l;
    stands = subst (Stands out sc.held U [] behind) (sym becomes_final) stands_final;
    whole = all_replaced (λ w. is_part w ≡ false) D (record r { origin = origin_behind linear r.origin }) whole1 (whole_is r x (found_there D x r owner_r));
    made = made_final;
    none = ap (λ (z : Flattening). z.values) becomes_final;
    leaves = subst (Leaves st) (sym becomes_final) leaves_final;
    touches = subst (λ (z : Flattening). Touches (changeable out W c.vars []) st.built.draft z.built.draft) (sym becomes_final) touches_final;
    plain = λ a. subst (λ (z : Flattening). StaysPlain st.built.draft z.built.draft) (sym becomes_final) (h.plain a);
    unmade = subst (λ (z : Flattening). Unmade z.built.draft) (sym becomes_final) h.unmade;
  }

  abbrev effect_at : NameId → List ℤ → Effect
  effect_at y zs = (E0 ▸ step (receive Variable)) ▸ step (assign_to y zs)

  pub part_done : StmtDone out sc ((E0 ▸ step (receive Variable)) ▸ step (assign_to (place_name place) (meanings.static_values (place_indices place) sc.statics))) W c st g
  part_done =
      subst (StmtDone out sc (effect_at (place_name place) (meanings.static_values (place_indices place) sc.statics)) W c st) (sym left_is)
      (subst (λ z. StmtDone out sc z W c st behind) (ap₂ effect_at (ap (λ (y : Part). y.name) split.one.part ∙ name_is) (ap indices split.one.part ∙ (indices_is ∙ sym k.aim.mean))) at_part)
