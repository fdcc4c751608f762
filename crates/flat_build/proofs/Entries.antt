-- Entries.
use Rattle.std.proofs.Common.{◌≡◌, ℕ, ◌<◌, true, List, [], ◌∷◌, length, map, reverse, Some, None, ℤ, refl, sym, ap, ◌∙◌, subst}
use Rattle.silq_types.specs.declared.types.Shape.{Shape}
use Rattle.silq_io.specs.declared.limit.LimitFault.{LimitFault}
use Rattle.silq_io.specs.declared.limit.LimitFault.TheVariants.{Memory, Limit}
use Rattle.check_scope.specs.Library.{Shelf, function_at}
use Rattle.silq_mean.specs.Meaning.{params_of}
use Rattle.silq_mean.specs.Table.{Job}
use Rattle.flat_core.specs.declared.step.WireId.{WireId}
use Rattle.flat_core.specs.declared.step.End.{End}
use Rattle.flat_core.specs.declared.step.End.TheVariants.{Output}
use Rattle.flat_core.specs.Drafts.{empty_draft, with_end, finished}
use Rattle.bit_arith.specs.Built.{Built}
use Rattle.bit_arith.specs.Calls.{no_target, Refused}
use Rattle.bit_arith.specs.Does.{Below}
use Rattle.flat_form.specs.declared.known.Known.{Known}
use Rattle.flat_form.specs.declared.known.Known.TheVariants.{Static, Shown, Lent, Absent}
use Rattle.flat_form.specs.State.{Flattening}
use Rattle.flat_form.specs.Flat.{flat, begin, end_all, wire_lists, joined, flattened}
use Rattle.flat_form.specs.Names.{AllOf}
use Rattle.flat_form.specs.Good.{IsKnown, Good}
use Rattle.flat_form.specs.Jobs.{FineJob}
use Rattle.flat_form.proofs.Both.{all_reverse}
use Rattle.flat_form.proofs.Giving.{below_in}
use Rattle.flat_form.proofs.Goods.{good_flat}
use Rattle.flat_steps.specs.Ready.{Ready}
use Rattle.flat_steps.proofs.Stays.{stays}
use Rattle.tree_walk.specs.declared.body.Body.{Body}
use Rattle.tree_walk.specs.Seen.{job_at, instance_in, entry_in}
use Rattle.tree_walk.proofs.Entries.{effect_told, shapes_told}
use Rattle.flat_build.proofs.Begins.{good_begin}

-- the wires of values that are there
below_values : (n : ℕ) (ks : List Known) → AllOf (IsKnown n) ks → AllOf (λ ws. Below n ws) (wire_lists ks)
below_values n [] h = tt
below_values n (Static z ∷ ks) h = (tt, below_values n ks h.1)
below_values n (Shown v ∷ ks) h = (below_in n no_target v.operands h.0.there, below_values n ks h.1)
below_values n (Lent start size v ∷ ks) h = (tt, below_values n ks h.1)
below_values n (Absent ∷ ks) h = (tt, below_values n ks h.1)

-- ends go above no limit
ends_over : (e : End) (ws : List WireId) (b : Built) → (end_all e ws b).over ≡ b.over
ends_over e [] b = refl
ends_over e (w ∷ ws) b = ends_over e ws (record b { draft = with_end b.draft w e })

module _ (l : Shelf) (n : ℕ) (statics : List ℤ) (lt : n < length l.funs) (b : Body) (is : b ≡ instance_in l n statics true) where
  abbrev job : Job
  job = job_at l n statics

  abbrev first : Flattening
  first = begin job.shapes

  -- the wires of what the entry gives
  abbrev outs : List WireId
  outs = joined (wire_lists (reverse (flat job.effect first).values))

  effect_is : entry_in l b ≡ job.effect
  effect_is = effect_told l n statics lt b is

  module _ (shapes : List Shape) (h : shapes ≡ map (λ p. p.2.shape) (params_of (function_at l n) b.statics)) where
    shapes_are : shapes ≡ job.shapes
    shapes_are = shapes_told l n statics lt b is shapes h

    pub begin_refused : (f : LimitFault) → Refused f (begin shapes).built → Refused f (record { draft = empty_draft; over = (flattened job).over })
    begin_refused Memory r = tt
    begin_refused (Limit over) r =
        ends_over Output outs (flat job.effect first).built ∙ stays job.effect first over (subst (λ x. (begin x).built.over ≡ Some over) shapes_are r)

    module _ (s : Flattening) (e : s ≡ begin shapes) where
      start_is : s ≡ first
      start_is = e ∙ ap begin shapes_are

      pub entry_ready : FineJob job → Ready (entry_in l b) s
      entry_ready fine =
          let r : Ready job.effect first = record { good = good_begin job.shapes; fine = fine.0 } in
          subst (λ x. Ready x s) (sym effect_is) (subst (λ u. Ready job.effect u) (sym start_is) r)

      end_is : (t : Flattening) → t ≡ flat (entry_in l b) s → t ≡ flat job.effect first
      end_is t k = k ∙ (ap (λ x. flat x s) effect_is ∙ ap (λ u. flat job.effect u) start_is)

      pub entry_refused : (f : LimitFault) → Refused f (flat (entry_in l b) s).built → Refused f (record { draft = empty_draft; over = (flattened job).over })
      entry_refused Memory r = tt
      entry_refused (Limit over) r =
          ends_over Output outs (flat job.effect first).built ∙ (sym (ap (λ (u : Flattening). u.built.over) (end_is (flat (entry_in l b) s) refl)) ∙ r)

      module _ (t : Flattening) (k : t ≡ flat (entry_in l b) s) where
        pub end_wires : FineJob job → AllOf (λ ws. Below (length t.built.draft.wires) ws) (wire_lists (reverse t.values))
        end_wires fine =
            let g : Good (flat (entry_in l b) s) = good_flat (entry_in l b) s (entry_ready fine).good (entry_ready fine).fine in
            let h : Good t = subst Good (sym k) g in
            below_values (length t.built.draft.wires) (reverse t.values) (all_reverse (IsKnown (length t.built.draft.wires)) t.values h.known.values)

        pub form_is : (ins : List (List WireId)) → ins ≡ wire_lists (reverse s.values)
            → finished (end_all Output (joined (wire_lists (reverse t.values))) t.built).draft ins (wire_lists (reverse t.values)) ≡ (flattened job).form
        form_is ins i =
            ap (λ ws. finished (end_all Output (joined (wire_lists (reverse t.values))) t.built).draft ws (wire_lists (reverse t.values))) (i ∙ ap (λ (u : Flattening). wire_lists (reverse u.values)) start_is)
            ∙ ap (λ (u : Flattening). finished (end_all Output (joined (wire_lists (reverse u.values))) u.built).draft (wire_lists (reverse first.values)) (wire_lists (reverse u.values))) (end_is t k)

        pub form_within : t.built.over ≡ None → (flattened job).over ≡ None
        form_within w = ends_over Output outs (flat job.effect first).built ∙ (sym (ap (λ (u : Flattening). u.built.over) (end_is t k)) ∙ w)
