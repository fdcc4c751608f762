-- The source's amplitudes, outcomes and zeros on the paths of its flat form.
use Rattle.std.proofs.Common.{◌≡◌, ℕ, Bool, true, false, ◌&&◌, List, [], ◌∷◌, length, map, reverse, refl, sym, ◌∙◌, ap, ap₂, subst}
use Rattle.std.proofs.lemmas.List.{length-map}
use Rattle.sum_laws.specs.Terms.{amplitude}
use Rattle.silq_mean.specs.Value.{Value, bits_of as value_bits}
use Rattle.silq_mean.specs.Term.{Term}
use Rattle.silq_mean.specs.Effect.{Outcome, follow, sample}
use Rattle.silq_mean.specs.Table.{Job, total_size, start}
use Rattle.flat_core.specs.declared.step.WireId.{WireId}
use Rattle.flat_core.specs.declared.step.End.TheVariants.{Output, Zeroed}
use Rattle.flat_core.specs.Form.{FlatForm}
use Rattle.flat_core.specs.Label.{end_of}
use Rattle.flat_core.specs.Sound.{count_measures, joined}
use Rattle.flat_mean.specs.Row.{Row}
use Rattle.flat_mean.specs.Path.{top_row, possible_path, path_agrees}
use Rattle.flat_mean.specs.Terms.{Term as WireTerm, first_term, do_steps}
use Rattle.flat_mean.specs.Laws.{counts}
use Rattle.flat_mean.proofs.Amplitudes.{amplitudes}
use Rattle.flat_form.specs.declared.known.Known.{Known}
use Rattle.flat_form.specs.State.{Flattening, are_wires, wires_in, operands_of}
use Rattle.flat_form.specs.Flat.{flat, begin, flattened, wire_lists, joined as all_joined}
use Rattle.flat_form.specs.Names.{AllOf}
use Rattle.flat_form.specs.Fine.{IsOf}
use Rattle.flat_form.specs.Shows.{Shows, ListBoth, Related}
use Rattle.flat_form.specs.Jobs.{FineJob}
use Rattle.path_laws.specs.Laws.{begin_row, MeaningGivesPaths, OutcomesAreCounted, TermFits, TermsFit, HonestGivesZeros}
use Rattle.flat_form.proofs.Both.{both_reverse, all_reverse}
use Rattle.flat_form.proofs.Later.{end_all_steps}
use Rattle.flat_laws.proofs.Begins.{good_begin}
use Rattle.flat_laws.proofs.Compose.{Leads}
use Rattle.flat_laws.proofs.Steps.{leads_flat}
use Rattle.flat_laws.proofs.Whole.{Starts, starts, known_bits, flat_has_the_meaning, zeroed_are_zero}
use Rattle.path_laws.proofs.Sampling.{Begins, Sampled, samples}
use Rattle.path_laws.proofs.PathTerms.{holds_of_path, each_path_has_an_outcome}

-- ---- amplitudes

pub meaning_gives_paths : MeaningGivesPaths
meaning_gives_paths j input o v fine size =
    ap (amplitude v) (sym (flat_has_the_meaning j input o fine size))
    ∙ amplitudes (flattened j).form.steps (begin_row j input) o (joined (flattened j).form.outs) v

-- ---- the terms at the end

related_first : (S : WireTerm → Term → Type 0) (us : List WireTerm) (t : Term) (ts : List Term) → ListBoth S us (t ∷ ts) → (u : WireTerm) × S u t
related_first S [] t ts h = absurd h
related_first S (u ∷ us) t ts h = (u, h.0)

each_related : (S : WireTerm → Term → Type 0) (Q : Term → Type 0) → ((u : WireTerm) (t : Term) → S u t → Q t) → (us : List WireTerm) (ts : List Term) → ListBoth S us ts → AllOf Q ts
each_related S Q f [] [] h = tt
each_related S Q f [] (t ∷ ts) h = absurd h
each_related S Q f (u ∷ us) [] h = absurd h
each_related S Q f (u ∷ us) (t ∷ ts) h = (f u t h.0, each_related S Q f us ts h.1)

-- each result has a wire for each bit of its value
sizes : (row : Row) (ks : List Known) (ws : List Value) → AllOf (λ k. IsOf (λ v. are_wires v.operands ≡ true) k) ks → ListBoth (Shows row) ks ws → map length (wire_lists ks) ≡ map (λ w. length (value_bits w)) ws
sizes row [] [] a h = refl
sizes row [] (w ∷ ws) a h = absurd h
sizes row (k ∷ ks) [] a h = absurd h
sizes row (k ∷ ks) (w ∷ ws) a h =
    let one : length (wires_in (operands_of k)) ≡ length (value_bits w) = sym (length-map (wires_in (operands_of k)) (λ (x : WireId). row x.number)) ∙ ap length (known_bits row k w a.0 h.0) in
    ap₂ (λ (n : ℕ) (ns : List ℕ). n ∷ ns) one (sizes row ks ws a.1 h.1)

module _ (j : Job) (input : List Bool) (fine : FineJob j) (size : length input ≡ total_size j.shapes) where
  abbrev end : Flattening
  end = flat j.effect (begin j.shapes)

  leads : (o : Outcome) → Leads o (begin j.shapes) end (follow o j.effect)
  leads o = leads_flat o j.effect (begin j.shapes) (good_begin j.shapes) fine.0

  first : Related (begin j.shapes) (first_term (begin_row j input)) (start j input)
  first = let r : Starts j input = starts j input (λ n. false) fine size in r.related

  both : (o : Outcome) → ListBoth (Related end) (do_steps o (leads o).new (first_term (begin_row j input) ∷ [])) (follow o j.effect (start j input))
  both o = (leads o).gives (first_term (begin_row j input)) (start j input) first refl

  fits : (u : WireTerm) (t : Term) → Related end u t → TermFits (flattened j).form t
  fits u t r = record {
    outcomes_told = ap count_measures (end_all_steps Output (all_joined (wire_lists (reverse end.values))) end.built) ∙ r.measured;
    bits_of_results =
        sizes u.row (reverse end.values) (reverse t.values) (all_reverse (λ k. IsOf (λ v. are_wires v.operands ≡ true) k) end.values fine.1)
        (both_reverse (Shows u.row) end.values t.values r.values);
  }

  pub each_fits : (o : Outcome) → AllOf (TermFits (flattened j).form) (follow o j.effect (start j input))
  each_fits o =
      each_related (Related end) (TermFits (flattened j).form) fits (do_steps o (leads o).new (first_term (begin_row j input) ∷ [])) (follow o j.effect (start j input)) (both o)

  pub sample_fits : TermFits (flattened j).form (sample j.effect (start j input))
  sample_fits =
      let t : Term = sample j.effect (start j input) in
      let s : Sampled (start j input).measured t (λ p. follow p j.effect (start j input)) (λ n. false) = samples j.effect (start j input) (λ n. false) in
      let us : List WireTerm = do_steps s.outcome (leads s.outcome).new (first_term (begin_row j input) ∷ []) in
      let b : Begins t (follow s.outcome j.effect (start j input)) = s.heads s.outcome (record { at = λ i lt. refl }) in
      let p : (u : WireTerm) × Related end u t = related_first (Related end) us t b.rest (subst (ListBoth (Related end) us) b.is (both s.outcome)) in
      fits p.0 t p.1

pub terms_fit : TermsFit
terms_fit j input o fine size = each_fits j input fine size o

pub outcomes_are_counted : OutcomesAreCounted
outcomes_are_counted j input fine size = let f : TermFits (flattened j).form (sample j.effect (start j input)) = sample_fits j input fine size in f.outcomes_told

-- ---- zeros

abbrev IsZero : FlatForm → WireTerm → Type 0
IsZero f u = (w : WireId) → end_of f w ≡ Zeroed → u.row w.number ≡ false

pub honest_gives_zeros : HonestGivesZeros
honest_gives_zeros j input fine size honest ok = record { zero = λ choice p w e. zero choice p w e }
  where
    zero : (choice : ℕ → Bool) → possible_path (flattened j).form.steps (begin_row j input) choice ≡ true → (w : WireId) → end_of (flattened j).form w ≡ Zeroed → top_row (flattened j).form.steps (begin_row j input) choice w.number ≡ false
    zero choice p w e =
        let f : FlatForm = (flattened j).form in
        let met : (o : ℕ → Bool) × (path_agrees f.steps (begin_row j input) o choice ≡ true) = each_path_has_an_outcome f (begin_row j input) choice ok in
        let counted : counts f.steps (begin_row j input) met.0 choice ≡ true = ap₂ ◌&&◌ p met.1 in
        holds_of_path f.steps (begin_row j input) choice (IsZero f) met.0 counted (zeroed_are_zero j input met.0 fine size honest) w e
