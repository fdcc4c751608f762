-- Places as expressions: variables, parts of them, and parts that an assignment took out.
use Rattle.std.proofs.Common.{◌≡◌, inl, inr, ℕ, Bool, true, false, cond, not, ◌&&◌, List, [], ◌∷◌, ℤ, refl, sym, ap, ap₂, ◌∙◌, subst}
use Rattle.silq_tree.specs.declared.node.NameId.{NameId}
use Rattle.silq_tree.specs.declared.node.Spot.{Spot}
use Rattle.silq_tree.specs.Syntax.{Place, place, whole, none}
use Rattle.silq_types.specs.declared.types.Ty.{Ty}
use Rattle.silq_types.specs.declared.values.Part.{Part}
use Rattle.silq_types.specs.declared.values.Value.{Value}
use Rattle.silq_types.specs.Types.{place_name, place_indices}
use Rattle.silq_types.specs.declared.need.Need.{Need}
use Rattle.silq_types.specs.declared.need.Need.TheVariants as needs
use Rattle.silq_types.specs.Calls.{is_consumed}
use Rattle.silq_mean.specs.Written.{is_empty}
use Rattle.silq_mean.specs.Effect.{Effect, step, give_part}
use Rattle.silq_mean.specs.Meaning.{static_values}
use Rattle.check_scope.specs.declared.uses.Use.{Use}
use Rattle.check_scope.specs.Context.{Scope, Context, ◌>>=◌, give_back, indices, variable, part_at, find_var, replace}
use Rattle.check_scope.specs.Places.{is_moved, use_place}
use Rattle.check_scope.specs.Uses.{place_use, uses}
use Rattle.check_expr.proofs.Owners.{gives-more, found_part}
use Rattle.flat_form.specs.declared.known.Known.{Known}
use Rattle.flat_form.specs.declared.known.Known.TheVariants.{Static, Shown, Lent, Absent}
use Rattle.flat_form.specs.State.{Flattening, wires_so_far}
use Rattle.flat_form.specs.Flat.{known_in, use_part}
use Rattle.flat_form.specs.Fine.{MayUse}
use Rattle.flat_form.specs.Names.{AllOf}
use Rattle.flat_form.specs.Shows.{ListBoth}
use Rattle.flat_typed.specs.Places.{Places, is_part}
use Rattle.flat_typed.specs.Footprint.{used_wires, consumed_wires}
use Rattle.flat_typed.specs.Relation.{FitsPart, Outside, IsAnswer, OfType, is_own}
use Rattle.flat_typed.specs.Scopes.{NoStatics}
use Rattle.flat_typed.specs.Done.{Begins, ExprDone, ExprTells, IsTyped}
use Rattle.flat_typed.specs.Lemmas.{Callable, ExpressionIsFine}
use Rattle.flat_typed.proofs.Ordered.{clash}
use Rattle.flat_typed.proofs.Moving.{spent}
use Rattle.flat_typed.proofs.Uses.{name_of_part}
use Rattle.flat_typed.proofs.There.{part_class}
use Rattle.flat_typed.proofs.PlacesThere.{Exact, exact_indices, OwnerOf, of_used, type_whole, type_part, use_there, place_use_is}
use Rattle.flat_typed.proofs.UsesThere.{place_uses}
use Rattle.flat_typed.proofs.Variables.{VariableUsed, variable_done}
use Rattle.flat_typed.proofs.StaticValues.{unless_static_is_fine}
use Rattle.flat_typed.proofs.PlaceWalk.{MovedAt, Copied, Taken, PlaceTaken, used_so, o_place_value}
use Rattle.flat_typed.proofs.PlaceTells.{one_given, own_tells, borrows_tell}
use Rattle.flat_typed.proofs.PlaceLent.{lent_tells}

not_true : (a : Bool) → not a ≡ true → a ≡ false
not_true true e = clash (sym e)
not_true false e = refl

own_used : (n : ℕ) (t : Ty) (k : Known) → MayUse [] k → OfType t (use_part n needs.Consumed [] k) → t.classical ≡ false → IsTyped (use_part n needs.Consumed [] k) × (is_own (use_part n needs.Consumed [] k) ≡ true)
own_used n t (Static z) may of q = absurd may
own_used n t (Shown v) may of q = (tt, ap not (of.1 ∙ q))
own_used n t (Lent start size v) may of q = (tt, ap not (of.1 ∙ q))
own_used n t Absent may of q = absurd may

module _ (out : Outside) (sc : Scope) (low : ℕ) (others : ℕ → ℕ) (W : Places) (under : List Value) (c : Context) (s : Flattening) (wants : List Ty) (x : NameId) (u : Value) (d : Context) where
  abbrev Tells : Need → Effect → List Use → Type 0
  Tells need e us = ExprTells out sc need wants e W under us c s (u ∷ []) d

  abbrev Starts : List Use → Type 0
  Starts us = Begins out sc low others W under us c s

  -- the part of this use
  abbrev used_as : (need : Need) (zs : List ℤ) → OwnerOf sc need c x (part_at x zs) → Use
  used_as need zs o = record { part = part_at x zs; need = cond o.owner.ty.classical needs.Held need }

  abbrev Told : Need → List ℤ → Use → Type 0
  Told need zs z = Tells need (step (give_part need (part_at x zs).name (indices (part_at x zs)))) (z ∷ [])

  -- a use that leaves the variable
  read_tells : (need : Need) (zs : List ℤ) (exact : Exact x zs) (o : OwnerOf sc need c x (part_at x zs)) → is_moved need o.kind.0 ≡ false → Copied need c o.kind.0 u d → Starts (used_as need zs o ∷ []) → Told need zs (used_as need zs o)
  read_tells need zs exact o still copied b =
      borrows_tell out sc low others W under c s (used_as need zs o) (use_there sc need c x zs exact o) need b
      (ap (λ t. is_consumed need && not t) (sym (part_class o.owner.ty.classical o.owner.ty.shape (indices (part_at x zs)) o.kind.0 o.kind.1)) ∙ still) u d copied wants

  -- a whole variable is moved
  moved_whole : (need : Need) (o : OwnerOf sc need c x (part_at x [])) → MovedAt sc need c (variable x) u d → Starts (used_as need [] o ∷ []) → Told need [] (used_as need [] o)
  moved_whole needs.Held o m b = clash (sym m.moved)
  moved_whole needs.Consumed o m b = subst (Tells needs.Consumed (step (give_part needs.Consumed x []))) reads (told (subst Starts (sym reads) b))
    where
      reads : place_use sc.statics (find_var c.vars (variable x)) none needs.Consumed ≡ used_as needs.Consumed [] o ∷ []
      reads = place_use_is sc needs.Consumed c (whole x) [] refl o

      used : VariableUsed sc needs.Consumed c x u d
      used = record { var = m.var; found = m.found; live = m.live; unheld = λ k. m.unheld; loose = λ k. m.loose; clear = m.clear; how = inl (record { moved = m.moved; value = m.value; left = m.left }) }

      told : Starts (place_use sc.statics (find_var c.vars (variable x)) none needs.Consumed) → Tells needs.Consumed (step (give_part needs.Consumed x [])) (place_use sc.statics (find_var c.vars (variable x)) none needs.Consumed)
      told b = own_tells out sc needs.Consumed wants E W under us c s u d done k refl refl both.0 both.1 quantum
        where
          us : List Use
          us = place_use sc.statics (find_var c.vars (variable x)) none needs.Consumed

          E : Effect
          E = step (give_part needs.Consumed x [])

          done : ExprDone out sc needs.Consumed E W under us c s (u ∷ []) d
          done = variable_done out sc low others W under c s x needs.Consumed u d used b

          k : Known
          k = use_part (wires_so_far s) needs.Consumed [] (known_in s x)

          quantum : u.ty.classical ≡ false
          quantum = ap (λ (v : Value). v.ty.classical) m.value ∙ not_true m.var.ty.classical m.moved

          both : IsTyped k × (is_own k ≡ true)
          both =
              own_used (wires_so_far s) u.ty (known_in s x) done.fine.0
              (subst (ListBoth (IsAnswer done.after needs.Consumed (used_wires W c.vars us) (consumed_wires W c.vars us) (wires_so_far s) c.next) (u ∷ [])) (one_given out sc needs.Consumed wants E W under us c s u d done k refl) done.each).0.typed quantum

  -- a part that was taken out is moved
  moved_part : (need : Need) (i : ℤ) (is : List ℤ) (exact : Exact x (i ∷ is)) (o : OwnerOf sc need c x (part_at x (i ∷ is))) → o.kind.0.classical ≡ false → MovedAt sc need c (part_at x (i ∷ is)) u d → Starts (used_as need (i ∷ is) o ∷ []) → Told need (i ∷ is) (used_as need (i ∷ is) o)
  moved_part needs.Held i is exact o quantum m b = clash (sym m.moved)
  moved_part needs.Consumed i is exact o quantum m b =
      subst (λ e. ExprTells out sc needs.Consumed wants E W under (z ∷ []) c s (u ∷ []) e) (sym m.left)
      (subst (λ v. ExprTells out sc needs.Consumed wants E W under (z ∷ []) c s (v ∷ []) (record c { vars = replace c.vars (spent m.var) })) (sym m.value)
      (lent_tells out sc low others W under c s z (use_there sc needs.Consumed c x (i ∷ is) exact o) m.var m.found part owner_quantum consumes b wants))
    where
      q : Part
      q = part_at x (i ∷ is)

      z : Use
      z = used_as needs.Consumed (i ∷ is) o

      E : Effect
      E = step (give_part needs.Consumed q.name (indices q))

      owner_quantum : o.owner.ty.classical ≡ false
      owner_quantum = sym (part_class o.owner.ty.classical o.owner.ty.shape (indices q) o.kind.0 o.kind.1) ∙ quantum

      part : is_part m.var ≡ true
      part = ap (λ (p : Part). not (is_empty (indices p))) (found_part c.vars q m.var m.found) ∙ ap (λ (l : List ℤ). not (is_empty l)) exact

      consumes : is_consumed z.need ≡ true
      consumes = ap (λ t. is_consumed (cond t needs.Held needs.Consumed)) owner_quantum

  -- each use of a part that is there
  taken_tells : (need : Need) (zs : List ℤ) (exact : Exact x zs) (fits : AllOf (FitsPart W c.vars) c.vars) (k : Taken sc need c x (part_at x zs) u d) (o : OwnerOf sc need c x (part_at x zs)) → o ≡ of_used sc need c W x zs d fits exact (used_so sc need c x (part_at x zs) u d k)
      → Starts (used_as need zs o ∷ []) → Told need zs (used_as need zs o)
  taken_tells need [] exact fits (inl m) o e b = moved_whole need o m b
  taken_tells need (i ∷ is) exact fits (inl m) o e b =
      moved_part need i is exact o (ap (λ (z : OwnerOf sc need c x (part_at x (i ∷ is))). z.kind.0.classical) e ∙ (ap (λ (t : Ty). t.classical) (type_whole sc need c W x (i ∷ is) d fits exact _) ∙ is_quantum (is_consumed need) m.var.ty.classical m.moved)) m b
    where
      is_quantum : (a t : Bool) → (a && not t) ≡ true → t ≡ false
      is_quantum true t e = not_true t e
      is_quantum false t e = clash (sym e)
  taken_tells need zs exact fits (inr (inl m)) o e b = read_tells need zs exact o (ap (is_moved need) same ∙ m.still) (subst (λ t. Copied need c t u d) (sym same) m.copied) b
    where
      same : o.kind.0 ≡ m.var.ty
      same = ap (λ (z : OwnerOf sc need c x (part_at x zs)). z.kind.0) e ∙ type_whole sc need c W x zs d fits exact _
  taken_tells need zs exact fits (inr (inr m)) o e b =
      read_tells need zs exact o (ap (λ (z : OwnerOf sc need c x (part_at x zs)). is_consumed need && not z.kind.0.classical) e ∙ (ap (is_moved need) (type_part sc need c W x zs d fits exact _) ∙ (ap (λ t. is_consumed need && not t) (part_class m.owner.ty.classical m.owner.ty.shape (indices (part_at x zs)) m.ty m.kind) ∙ m.still)))
      (subst (λ t. Copied need c t u d) (sym (ap (λ (z : OwnerOf sc need c x (part_at x zs)). z.kind.0) e ∙ type_part sc need c W x zs d fits exact _)) m.copied) b

-- the use of a place, with what its effect gives and what its uses read
place_tells : (out : Outside) (sc : Scope) (low : ℕ) (others : ℕ → ℕ) (W : Places) (under : List Value) (c : Context) (s : Flattening) (free : NoStatics sc c.vars) (w : Place) (sp : Spot) (need : Need) (wants : List Ty) (u : Value) (d : Context) → PlaceTaken sc need c w u d
    → Begins out sc low others W under (uses (place w sp) sc c.vars need) c s → ExprTells out sc need wants (step (give_part need (place_name w) (static_values (place_indices w) sc.statics))) W under (uses (place w sp) sc c.vars need) c s (u ∷ []) d
place_tells out sc low others W under c s free w sp need wants u d k b =
    subst (λ us. ExprTells out sc need wants (step (give_part need x (static_values (place_indices w) sc.statics))) W under us c s (u ∷ []) d) (sym reads)
    (subst (λ e. ExprTells out sc need wants e W under (z ∷ []) c s (u ∷ []) d) gives
    (taken_tells out sc low others W under c s wants x u d need k.values exact b.stands.parts k.taken o refl (subst (λ us. Begins out sc low others W under us c s) reads b)))
  where
    x : NameId
    x = place_name w

    exact : Exact x k.values
    exact = exact_indices sc.statics w x k.values k.known

    o : OwnerOf sc need c x (part_at x k.values)
    o = of_used sc need c W x k.values d b.stands.parts exact (used_so sc need c x (part_at x k.values) u d k.taken)

    z : Use
    z = record { part = part_at x k.values; need = cond o.owner.ty.classical needs.Held need }

    reads : uses (place w sp) sc c.vars need ≡ z ∷ []
    reads = place_uses (Callable sc) 0 W c.vars sc free w sp need k.values k.known ∙ place_use_is sc need c w k.values k.known o

    effect_of : NameId → List ℤ → Effect
    effect_of y zs = step (give_part need y zs)

    gives : effect_of (part_at x k.values).name (indices (part_at x k.values)) ≡ effect_of x (static_values (place_indices w) sc.statics)
    gives = ap₂ effect_of (name_of_part x k.values) (exact ∙ sym k.mean)

pub place_is_fine : (w : Place) (s : Spot) → ExpressionIsFine (place w s)
place_is_fine w s sc taker need wants c t free =
    unless_static_is_fine sc need wants c (place w s) (use_place sc w s need >>= (λ v. give_back (v ∷ []))) E us (λ q.
    gives-more (Callable sc) 0 (λ r. (u : Value) × (r.0 ≡ u ∷ []) × PlaceTaken sc need c w u r.1)
    (λ r. (out : Outside) (low : ℕ) (others : ℕ → ℕ) (W : Places) (under : List Value) (st : Flattening) → Begins out sc low others W under us c st → ExprTells out sc need wants E W under us c st r.0 r.1)
    ((use_place sc w s need >>= (λ v. give_back (v ∷ []))) c) ((o_place_value (Callable sc) c sc w s need).runs c refl)
    (λ r h out low others W under st b. subst (λ vs. ExprTells out sc need wants E W under us c st vs r.1) (sym h.1) (place_tells out sc low others W under c st free w s need wants h.0 r.1 h.2 b)))
  where
    E : Effect
    E = step (give_part need (place_name w) (static_values (place_indices w) sc.statics))

    us : List Use
    us = uses (place w s) sc c.vars need
