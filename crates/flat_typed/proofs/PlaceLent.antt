-- The consumed use of a part that an assignment took out: its value has the part's wires, and its variable is lent.
use Rattle.std.proofs.Common.{◌≡◌, inl, ℕ, ◌<◌, Bool, true, false, cond, not, ◌&&◌, ◌||◌, List, [], ◌∷◌, ◌++◌, ℤ, refl, sym, ap, ap₂, ◌∙◌, subst, arith}
use Rattle.std.specs.Prelude.{Some, None}
use Rattle.silq_tree.specs.declared.node.NameId.{NameId}
use Rattle.silq_types.specs.declared.types.Ty.{Ty}
use Rattle.silq_types.specs.declared.values.Part.{Part}
use Rattle.silq_types.specs.declared.values.Value.{Value}
use Rattle.silq_types.specs.declared.values.Var.{Var}
use Rattle.silq_types.specs.Types.{is_held, shape_bits}
use Rattle.silq_types.specs.declared.need.Need.TheVariants as needs
use Rattle.silq_types.specs.Calls.{is_consumed}
use Rattle.silq_mean.specs.Written.{is_empty}
use Rattle.silq_mean.specs.Env.{in_its_block}
use Rattle.silq_mean.specs.Effect.{Effect, step, give_part}
use Rattle.check_scope.specs.declared.uses.Use.{Use}
use Rattle.check_scope.specs.Context.{Scope, Context, indices, variable, part_at, find_var, replace, is_in_condition}
use Rattle.check_expr.proofs.Owners.{found_part}
use Rattle.flat_core.specs.declared.step.WireId.{WireId}
use Rattle.bit_arith.specs.Calls.{among}
use Rattle.flat_form.specs.declared.known.TypedBits.{TypedBits}
use Rattle.flat_form.specs.declared.known.Known.{Known}
use Rattle.flat_form.specs.declared.known.Known.TheVariants.{Shown, Lent, Absent}
use Rattle.flat_form.specs.State.{Flattening, push, wires_in, wires_so_far, part_shape, part_start, part_of}
use Rattle.flat_form.specs.Flat.{flat, known_in, use_part, moved, after_use}
use Rattle.flat_form.specs.Fine.{FineStep}
use Rattle.flat_form.specs.Names.{AllOf}
use Rattle.flat_typed.specs.Places.{Places, is_part, is_shared, part_out, less_part, bits_for, shown}
use Rattle.flat_typed.specs.Footprint.{wires_of_part, used_wires, consumed_wires}
use Rattle.flat_typed.specs.Relation.{FitsPart, IsPartOf, Outside, Stands, IsAnswer}
use Rattle.flat_typed.specs.Uses.{IsThere}
use Rattle.flat_typed.specs.Done.{Begins, ExprDone, ExprTells, carrying}
use Rattle.flat_typed.proofs.Ordered.{clash, or_right}
use Rattle.flat_typed.proofs.Parts.{found_there, some_same, shows_its_place}
use Rattle.flat_typed.proofs.Moving.{spent, handed_on, found_all}
use Rattle.flat_typed.proofs.Using.{touches_none, leaves_names, kinds_replaced, live_below, among_of, times_among}
use Rattle.flat_typed.proofs.There.{part_class}
use Rattle.flat_typed.proofs.Ranges.{part_shaped}
use Rattle.flat_typed.proofs.Apart.{wires_are}
use Rattle.flat_typed.proofs.Tame.{fits_spent}
use Rattle.flat_typed.proofs.Borrowing.{use_is_fine}
use Rattle.flat_typed.proofs.Lending.{out_lent}
use Rattle.flat_typed.proofs.LentParts.{stands_lent}
use Rattle.flat_typed.proofs.Lone.{lone_live, each_found}
use Rattle.flat_typed.proofs.PlaceTells.{own_tells}

pub moved_part : (is : List ℤ) (v : TypedBits) → is_empty is ≡ false → moved is v ≡ Lent (part_start v.shape is) (shape_bits (part_shape v.shape is)) v
moved_part [] v e = clash e
moved_part (i ∷ is) v e = refl

not_true : (a : Bool) → not a ≡ true → a ≡ false
not_true true e = clash (sym e)
not_true false e = refl

module _ (out : Outside) (sc : Scope) (low : ℕ) (others : ℕ → ℕ) (W : Places) (under : List Value) (c : Context) (s : Flattening) (u : Use) (h : IsThere sc.held c.vars u) (p : Var) (found : find_var c.vars u.part ≡ Some p) (part : is_part p ≡ true) (quantum : h.owner.ty.classical ≡ false) (consumes : is_consumed u.need ≡ true) (b : Begins out sc low others W under (u ∷ []) c s) where
  abbrev o : Var
  o = h.owner

  abbrev x : NameId
  x = p.part.name

  abbrev is : List ℤ
  is = indices p.part

  abbrev E : Effect
  E = step (give_part needs.Consumed x is)

  its : p.part ≡ u.part
  its = found_part c.vars u.part p found

  owner : find_var c.vars (variable x) ≡ Some o
  owner = ap (λ (q : Part). find_var c.vars (variable q.name)) its ∙ h.found

  found_own : find_var c.vars p.part ≡ Some p
  found_own = ap (find_var c.vars) its ∙ found

  live : p.consumed ≡ false
  live = h.here p found

  none : part_out c.vars x ≡ None
  none = lone_live c.vars u.part p found part live b.lone x

  of : IsPartOf W p o
  of = let a = found_all (FitsPart W c.vars) c.vars u.part p found b.stands.parts part in subst (λ (w : Var). IsPartOf W p w) (some_same a.0 o (sym a.1 ∙ owner)) a.2

  unshared : is_shared o ≡ false
  unshared = h.own consumes

  loose : is_in_condition sc.held (part_at x is) ≡ false
  loose = ap (λ (q : Part). is_in_condition sc.held (part_at q.name (indices q))) its ∙ h.loose consumes

  abbrev after : List Var
  after = replace c.vars (spent p)

  abbrev left : Context
  left = record c { vars = after }

  fit : AllOf (FitsPart W after) after
  fit = fits_spent W c.vars u.part p found its h.clear b.stands.parts

  abbrev bits : TypedBits
  bits = bits_for W o

  named : o.part.name ≡ x
  named = ap (λ (q : Part). q.name) (found_there c.vars x o owner)

  known : known_in s x ≡ Shown bits
  known =
      shows_its_place W c.vars s x o b.stands.env b.stands.differ owner
      ∙ (ap (λ t. cond t Absent (less_part (part_out c.vars o.part.name) bits)) of.live ∙ ap (λ r. less_part r bits) (ap (part_out c.vars) named ∙ none))

  abbrev given : Known
  given = use_part (wires_so_far s) needs.Consumed is (known_in s x)

  abbrev its_bits : Known
  its_bits = Shown (record { classical = false; shape = part_shape o.ty.shape is; operands = W p.place; own = true; began = wires_so_far s })

  given_is : given ≡ its_bits
  given_is =
      ap (use_part (wires_so_far s) needs.Consumed is) known
      ∙ (ap (λ l. Shown (record { classical = o.ty.classical; shape = part_shape o.ty.shape is; operands = l; own = true && not o.ty.classical; began = wires_so_far s })) (sym of.wires)
      ∙ ap (λ t. Shown (record { classical = t; shape = part_shape o.ty.shape is; operands = W p.place; own = true && not t; began = wires_so_far s })) quantum)

  indexed : is_empty is ≡ false
  indexed = not_true (is_empty is) part

  lent : after_use needs.Consumed is (known_in s x) ≡ shown W after o
  lent =
      ap (after_use needs.Consumed is) known
      ∙ (ap (λ t. cond (true && not t) (moved is bits) (Shown bits)) quantum
      ∙ (moved_part is bits indexed
      ∙ sym (ap (λ t. cond t Absent (less_part (part_out after o.part.name) bits)) of.live ∙ ap (λ r. less_part r bits) (ap (part_out after) named ∙ out_lent p part c.vars found_own none))))

  stood : Stands out sc.held W (handed_on p ∷ under) left (push given (record s { env = in_its_block s.env x (shown W after o) }))
  stood = stands_lent out sc.held W under c s p o given b.stands found_own part owner of unshared none loose (each_found c.vars b.stands.differ) fit

  state : flat E s ≡ push given (record s { env = in_its_block s.env x (shown W after o) })
  state = ap (λ k. push given (record s { env = in_its_block s.env x k })) lent

  carries : carrying needs.Consumed (handed_on p ∷ []) (given ∷ []) ≡ handed_on p ∷ []
  carries = ap (λ k. carrying needs.Consumed (handed_on p ∷ []) (k ∷ [])) given_is

  -- the wires of the part that is used are those of its place
  of_part : (w : WireId) → wires_of_part W c.vars u.part w ≡ among (wires_in (W p.place)) w
  of_part w = wires_are out sc.held W under c s b.stands u h w ∙ ap (λ l. among (wires_in l) w) (ap (λ (q : Part). part_of o.ty.shape (indices q) (W o.place)) (sym its) ∙ sym of.wires)

  answer : IsAnswer W needs.Consumed (used_wires W c.vars (u ∷ [])) (consumed_wires W c.vars (u ∷ [])) (wires_so_far s) c.next (handed_on p) given
  answer = subst (IsAnswer W needs.Consumed (used_wires W c.vars (u ∷ [])) (consumed_wires W c.vars (u ∷ [])) (wires_so_far s) c.next (handed_on p)) (sym given_is) (record {
    typed = (sym (part_shaped o.ty.classical o.ty.shape is p.ty of.kind), sym quantum ∙ sym (part_class o.ty.classical o.ty.shape is p.ty of.kind));
    handed = λ q. ap is_held of.same ∙ or_right o.ty.classical (is_held o.origin) unshared;
    own = λ q i. (refl, inl below);
    borrowed = λ q i. clash i;
    moved = λ i w le. inl (ap₂ (λ m n. (m && n) || false) consumes (of_part w ∙ times_among w (W p.place) le));
    within = λ w n. inl (ap (λ t. t || false) (of_part w ∙ (sym (among_of w (W p.place)) ∙ n)));
    began = omega arith;
    differ = λ w le. let a = stood.one w in omega (arith, a);
  })
    where
      below : p.place < c.next
      below = live_below c.vars u.part p found live (λ l. let a = b.sole.ahead p.place l in omega (arith, a))

  lent_done : ExprDone out sc needs.Consumed E W under (u ∷ []) c s (handed_on p ∷ []) left
  lent_done = record {
    fine = subst (λ (q : Part). FineStep (give_part needs.Consumed q.name (indices q)) s) (sym its) (use_is_fine out sc.held W under c s b.stands b.good u h needs.Consumed);
    after = W;
    agree = λ p l. refl;
    answers = given ∷ [];
    values = refl;
    each = (answer, tt);
    stands = subst (λ t. Stands out sc.held W (carrying needs.Consumed (handed_on p ∷ []) (given ∷ []) ++ under) left t) (sym state) (subst (λ l. Stands out sc.held W (l ++ under) left (push given (record s { env = in_its_block s.env x (shown W after o) }))) (sym carries) stood);
    kinds_stay = kinds_replaced c.vars p u.part found its;
    leaves = leaves_names s x given (after_use needs.Consumed is (known_in s x));
    touches = touches_none (consumed_wires W c.vars (u ∷ [])) s.built.draft;
    plain = λ q w m. m;
    unmade = b.unmade;
  }

  -- with the place as the use reads it
  pub lent_tells : (wants : List Ty) → ExprTells out sc needs.Consumed wants (step (give_part needs.Consumed u.part.name (indices u.part))) W under (u ∷ []) c s (handed_on p ∷ []) left
  lent_tells wants =
      subst (λ (q : Part). ExprTells out sc needs.Consumed wants (step (give_part needs.Consumed q.name (indices q))) W under (u ∷ []) c s (handed_on p ∷ []) left) its
      (own_tells out sc needs.Consumed wants E W under (u ∷ []) c s (handed_on p) left lent_done its_bits (ap (λ k. k ∷ s.values) given_is) refl tt refl (part_class o.ty.classical o.ty.shape is p.ty of.kind ∙ quantum))
