-- What the value of a used place tells beside the relation.
use Rattle.std.proofs.Common.{◌≡◌, ℕ, ◌≤◌, ◌<◌, true, false, not, ◌&&◌, ◌||◌, List, [], ◌∷◌, ◌++◌, refl, sym, ap, ◌∙◌, subst, arith, ◌⊎◌, cond, ap₂}
use Rattle.std.specs.Prelude.{reverse}
use Rattle.std.specs.List.{list_any}
use Rattle.silq_types.specs.declared.types.Ty.{Ty}
use Rattle.silq_types.specs.declared.values.Value.{Value}
use Rattle.silq_types.specs.Types.{is_held, is_linear}
use Rattle.silq_types.specs.declared.values.Var.{Var}
use Rattle.silq_types.specs.declared.need.Need.{Need}
use Rattle.silq_types.specs.Calls.{is_consumed}
use Rattle.check_scope.specs.declared.uses.Use.{Use}
use Rattle.check_scope.specs.Context.{Scope, Context, indices, variable}
use Rattle.silq_mean.specs.Effect.{Effect, step, give_part}
use Rattle.flat_core.specs.declared.step.WireId.{WireId}
use Rattle.bit_arith.specs.declared.operand.Operand.{Operand}
use Rattle.flat_form.specs.declared.known.Known.{Known}
use Rattle.flat_form.specs.State.{Flattening, wires_so_far, operands_of}
use Rattle.flat_form.specs.Flat.{flat, part_used}
use Rattle.flat_form.specs.Names.{AllOf, named_by, names, operands_in}
use Rattle.flat_form.specs.Shows.{ListBoth}
use Rattle.flat_typed.specs.Places.{Places, is_shared, shown, bits_for, times_in, owners_of}
use Rattle.flat_typed.specs.Footprint.{wires_of_part, used_wires, consumed_wires}
use Rattle.flat_typed.specs.Relation.{Outside, IsAnswer, is_own, Stands, IfOwn, AllNew}
use Rattle.flat_typed.specs.Uses.{IsThere}
use Rattle.flat_typed.specs.Done.{Begins, ExprDone, ExprTells, IsSharing, IsTyped, EndsDropped, kinds, OwnIfSeveral, carrying}
use Rattle.flat_typed.proofs.Ordered.{clash}
use Rattle.flat_typed.proofs.Moving.{found_all}
use Rattle.flat_typed.proofs.Owning.{no_times}
use Rattle.flat_typed.proofs.Spans.{part_at_most}
use Rattle.flat_typed.proofs.There.{part_class}
use Rattle.flat_typed.proofs.Using.{touches_none}
use Rattle.flat_typed.proofs.Footprints.{named_none}
use Rattle.flat_typed.proofs.Apart.{used_part, part_shows}
use Rattle.flat_typed.proofs.Giving.{GivesValue}
use Rattle.flat_typed.proofs.Borrowing.{times_there, owner_known, use_is_fine, given_is, borrowed_done}
use Rattle.flat_typed.proofs.Variables.{stands_vars}
use Rattle.flat_typed.proofs.PlaceWalk.{Copied}
use Rattle.flat_form.specs.declared.known.Known.TheVariants.{Static, Shown, Lent, Absent}

-- ---- one value with wires of its own, of a quantum type

own_operands : (Q : List Operand → Type 0) (k : Known) → IfOwn Q k → is_own k ≡ true → Q (operands_of k)
own_operands Q (Static z) h e = clash (sym e)
own_operands Q (Shown u) h e = h e
own_operands Q (Lent start size u) h e = clash (sym e)
own_operands Q Absent h e = clash (sym e)

module _ (out : Outside) (sc : Scope) (need : Need) (wants : List Ty) (e : Effect) (W : Places) (under : List Value) (us : List Use) (c : Context) (s : Flattening) (v : Value) (d : Context) (o : ExprDone out sc need e W under us c s (v ∷ []) d) where
  -- the one answer is what is given
  pub one_given : (k : Known) → (flat e s).values ≡ k ∷ s.values → o.answers ≡ k ∷ []
  one_given k q = go o.answers o.values o.each
    where
      go : (ks : List Known) → (flat e s).values ≡ reverse ks ++ s.values → ListBoth (IsAnswer o.after need (used_wires W c.vars us) (consumed_wires W c.vars us) (wires_so_far s) c.next) (v ∷ []) ks → ks ≡ k ∷ []
      go [] h g = absurd g
      go (l ∷ []) h g = ap (λ m. m ∷ []) (first_is (sym h ∙ q))
        where
          first_or : List Known → Known
          first_or [] = k
          first_or (m ∷ ms) = m

          first_is : l ∷ s.values ≡ k ∷ s.values → l ≡ k
          first_is h = ap first_or h
      go (l ∷ (m ∷ ks)) h g = absurd g.1

  pub own_tells : (k : Known) → (flat e s).values ≡ k ∷ s.values → is_consumed need ≡ true → IsTyped k → is_own k ≡ true → v.ty.classical ≡ false → ExprTells out sc need wants e W under us c s (v ∷ []) d
  own_tells k q consumes typed own quantum = record {
    done = o;
    sharing = subst (ListBoth (IsSharing need c.next (λ w. owners_of o.after d.vars under w)) (v ∷ [])) (sym (one_given k q)) (record { shares = λ e. clash (sym e ∙ quantum); new = λ n e. clash (sym e ∙ quantum); lifted = λ n e. clash (sym e ∙ quantum) }, tt);
    typed = λ w. subst (AllOf IsTyped) (sym (one_given k q)) (typed, tt);
    untold = subst (AllOf (EndsDropped (wires_so_far s) (flat e s).built.draft)) (sym (one_given k q)) (dropped, tt);
    several = subst OwnIfSeveral (sym (one_given k q)) tt;
  }
    where
      stood : Stands out sc.held o.after (v ∷ under) d (flat e s)
      stood =
          subst (λ l. Stands out sc.held o.after (l ++ under) d (flat e s)) (ap₂ (λ a b. cond (a && b) (v ∷ []) []) consumes own)
          (subst (λ ks. Stands out sc.held o.after (carrying need (v ∷ []) ks ++ under) d (flat e s)) (one_given k q) o.stands)

      shows : operands_of k ≡ o.after v.place
      shows =
          (own_operands (λ ps. (ps ≡ o.after v.place) × ((v.place < c.next) ⊎ AllNew (wires_so_far s) ps)) k
          ((subst (ListBoth (IsAnswer o.after need (used_wires W c.vars us) (consumed_wires W c.vars us) (wires_so_far s) c.next) (v ∷ [])) (one_given k q) o.each).0.own consumes) own).0

      dropped : EndsDropped (wires_so_far s) (flat e s).built.draft k
      dropped w le n m = stood.untold w (let a = ap (times_in w) shows in omega (arith, a, le))

-- ---- a use that leaves the variable

module _ (out : Outside) (sc : Scope) (low : ℕ) (others : ℕ → ℕ) (W : Places) (under : List Value) (c : Context) (s : Flattening) (u : Use) (h : IsThere sc.held c.vars u) (need : Need) (b : Begins out sc low others W under (u ∷ []) c s) where
  abbrev E : Effect
  E = step (give_part need u.part.name (indices u.part))

  module _ (still : (is_consumed need && not h.owner.ty.classical) ≡ false) (v : Value) (d : Context) (copied : Copied need c h.kind.0 v d) where
    named : (w : WireId) → wires_of_part W c.vars u.part w ≡ true → used_wires W c.vars (u ∷ []) w ≡ true
    named w e = ap (λ t. t || false) e

    g : GivesValue out sc.held W need (used_wires W c.vars (u ∷ [])) (consumed_wires W c.vars (u ∷ [])) (wires_so_far s) c.next under c s s.values v (flat E s)
    g = borrowed_done out sc.held W under c s b.stands b.good u h need still (used_wires W c.vars (u ∷ [])) (consumed_wires W c.vars (u ∷ [])) c.next v copied.type copied.new named

    abbrev given : Known
    given = part_used (wires_so_far s) need (indices u.part) (bits_for W h.owner)

    abbrev ps : List Operand
    ps = used_part out sc.held W under c s b.stands u h

    borrows : ExprDone out sc need E W under (u ∷ []) c s (v ∷ []) d
    borrows = record {
      fine = use_is_fine out sc.held W under c s b.stands b.good u h need;
      after = W;
      agree = λ p l. refl;
      answers = g.answer ∷ [];
      values = g.values;
      each = (g.given, tt);
      stands = stands_vars out sc.held W _ c d (flat E s) copied.vars g.stands;
      kinds_stay = ap kinds copied.vars;
      leaves = g.leaves;
      touches = touches_none (consumed_wires W c.vars (u ∷ [])) s.built.draft;
      plain = λ q w e. e;
      unmade = b.unmade;
    }

    answer_is : g.answer ≡ given
    answer_is = ap first_or (sym g.values) ∙ given_is out sc.held W under c s b.stands b.good u h need still
      where
        first_or : List Known → Known
        first_or [] = g.answer
        first_or (m ∷ ms) = m

    unnamed : (w : WireId) → h.owner.ty.classical ≡ true → 1 ≤ owners_of W c.vars under w → list_any (named_by w) ps ≡ false
    unnamed w shares le =
        let a = named_none w (operands_in (shown W c.vars h.owner)) (found_all (λ (x : Var). is_shared x ≡ true → names (shown W c.vars x) w ≡ false) c.vars (variable u.part.name) h.owner h.found (b.stands.shared w le) (ap (λ t. t || is_held h.owner.origin) shares)) in
        let m = part_shows out sc.held W under c s b.stands u h w in
        no_times w ps (omega (arith, a, m))

    old : (w : WireId) → 1 ≤ times_in w ps → w.number < wires_so_far s
    old w le = let a = part_at_most w h.owner.ty.shape (indices u.part) (W h.owner.place) in times_there (wires_so_far s) w (W h.owner.place) (owner_known out sc.held W under c s b.stands b.good u h).there (omega (arith, a, le))

    pub borrows_tell : (wants : List Ty) → ExprTells out sc need wants E W under (u ∷ []) c s (v ∷ []) d
    unfolding borrows
    borrows_tell wants = record {
      done = borrows;
      sharing = (
        record {
          new = λ q t. (copied.new q).0;
          lifted = λ q t. ap is_linear (copied.new q).1;
          shares = λ t w le.
              ap (λ k. names k w) answer_is
              ∙ unnamed w (sym (part_class h.owner.ty.classical h.owner.ty.shape (indices u.part) h.kind.0 h.kind.1) ∙ (ap (λ (x : Ty). x.classical) (sym copied.type) ∙ t)) (subst (λ l. 1 ≤ owners_of W l under w) copied.vars le);
        },
        tt,
      );
      typed = λ e. (subst IsTyped (sym answer_is) tt, tt);
      untold = (subst (EndsDropped (wires_so_far s) (flat E s).built.draft) (sym answer_is) (λ w le n m. let a = old w le in absurd (omega (arith, a, n))), tt);
      several = tt;
    }
