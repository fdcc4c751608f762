-- What a valid list of moves leaves: the laws at amplitudes, and zeros.
use Rattle.std.proofs.Common.{◌≡◌, ℕ, ◌<◌, ◌⊎◌, Bool, true, false, cond, not, nat_lt, ◌&&◌, ◌||◌, List, [], ◌∷◌, length, All, refl, sym, ◌∙◌, ap, ap₂, inl, inr}
use Rattle.std.proofs.Math.Path.{fun_ext}
use Rattle.std.proofs.lemmas.Bool.{both_ways, cases_lt, or_from, false_from_ne_true}
use Rattle.std.proofs.lemmas.List.Elements.{All-head, All-tail}
use Rattle.amp_core.specs.Amplitude.{none, plus}
use Rattle.sum_laws.specs.Terms.{same_bits}
use Rattle.flat_core.specs.declared.step.End.{End}
use Rattle.flat_core.specs.declared.step.End.TheVariants.{Output, Dropped, Measured, Zeroed}
use Rattle.flat_core.specs.declared.step.WireId.{WireId}
use Rattle.flat_core.specs.Form.{FlatForm}
use Rattle.flat_core.specs.Label.{end_of, is_input}
use Rattle.flat_core.specs.Ends.{is_dropped, is_freed}
use Rattle.flat_core.specs.Sound.{IsFlat}
use Rattle.flat_mean.specs.Row.{Row}
use Rattle.flat_mean.specs.Path.{count_choices, top_row, possible_path, path_agrees, sum_choices}
use Rattle.flat_mean.specs.Terms.{first_term, weight, values_of}
use Rattle.flat_mean.specs.Laws.{top_term, counts}
use Rattle.flat_mean.proofs.Amplitudes.{amp_sum, added, amplitude-seen, weigh}
use Rattle.move_plan.specs.Progress.{Progress, at_start, progress, IsEnd}
use Rattle.move_plan.specs.Effect.{is_output, do_moves}
use Rattle.move_plan.specs.Live.{live}
use Rattle.move_plan.specs.Laws.{end_row, MovesGivePaths, MovesGiveAmplitudes, OthersAreZero}
use Rattle.move_plan.proofs.Final.{moves_give_paths}
use Rattle.move_plan.proofs.Idle.{Tracked, tracked_start, tracked_all, idle_are_zero}
use Rattle.move_plan.proofs.Measures.{end_past}

pub paths_at_amplitudes : MovesGivePaths
paths_at_amplitudes f input outcome moves ok given zeros plan g = moves_give_paths f input outcome none plus amp_sum ok given zeros moves plan g

-- Output wires have at the end what the path gives
values_at_end : (f : FlatForm) (input : Row) (c : ℕ → Bool) (wires : List WireId) → All (λ w. end_of f w ≡ Output) wires → values_of wires (end_row f input c) ≡ values_of wires (top_row f.steps input c)
values_at_end f input c [] all = refl
values_at_end f input c (w ∷ ws) all =
    ap₂ (λ (x : Bool) (xs : List Bool). x ∷ xs)
    (ap (λ e. cond (is_output e) (top_row f.steps input c w.number) false) (All-head (λ v. end_of f v ≡ Output) w ws all))
    (values_at_end f input c ws (All-tail (λ v. end_of f v ≡ Output) w ws all))

pub moves_give_amplitudes : MovesGiveAmplitudes
moves_give_amplitudes f input outcome moves ok given zeros plan wires values all =
    amplitude-seen wires values (do_moves f outcome moves (first_term input ∷ []))
    ∙ paths_at_amplitudes f input outcome moves ok given zeros plan (added wires values)
    ∙ ap (sum_choices plus (count_choices f.steps)) (fun_ext (λ c.
    ap (λ (bits : List Bool). cond (counts f.steps input outcome c) (cond (same_bits bits values) (weight (top_term f.steps input c)) none) none) (values_at_end f input c wires all)
    ∙ weigh (possible_path f.steps input c) (path_agrees f.steps input outcome c) (same_bits (values_of wires (top_row f.steps input c)) values) (weight (top_term f.steps input c))))

not_live : (gone input up measured : Bool) → (gone ≡ true) ⊎ ((input || up || measured) ≡ false) → (not gone && (input || up || measured)) ≡ false
not_live true input up measured h = refl
not_live false input up measured (inl h) = cc
not_live false input up measured (inr h) = h

module _ (f : FlatForm) (ok : IsFlat f) (p : Progress) (tr : Tracked f p) (end : IsEnd f p) (w : WireId) where
  -- a wire that is not an Output is there
  there : is_output (end_of f w) ≡ false → w.number < length f.wires
  there o = elim (cases_lt w.number (length f.wires)) [
    | inl l ↦ l
    | inr past ↦ absurd (both_ways (is_output (end_of f w)) o (ap is_output (end_past f ok w past)))
  ]

  not_measured : end_of f w ≡ Dropped → p.measured w ≡ false
  not_measured e = false_from_ne_true (p.measured w) (λ m. let d = tr.measured w m in let is = ok.m_is_measured d.step w d.there d.of in let no : Dropped ≡ Measured = sym e ∙ is in cc)

  low : end_of f w ≡ Dropped → nat_lt 0 (p.label w) ≡ false
  low e = ap (nat_lt 0) (end.at_bottom w (there (ap is_output e)) (ap is_dropped e))

  pub others_not_live : is_output (end_of f w) ≡ false → live f p w ≡ false
  others_not_live o = not_live (p.gone w) (is_input f w) (nat_lt 0 (p.label w)) (p.measured w) (by (end_of f w) refl)
    where
      by : (e : End) → end_of f w ≡ e → (p.gone w ≡ true) ⊎ ((is_input f w || nat_lt 0 (p.label w) || p.measured w) ≡ false)
      by Output e = absurd (both_ways (is_output (end_of f w)) o (ap is_output e))
      by Dropped e = inr (or_from (is_input f w || nat_lt 0 (p.label w)) (p.measured w) (or_from (is_input f w) (nat_lt 0 (p.label w)) (ok.dropped_is_new w e) (low e)) (not_measured e))
      by Measured e = inl (end.all_gone w (ap is_freed e))
      by Zeroed e = inl (end.all_gone w (ap is_freed e))

pub others_are_zero : OthersAreZero
others_are_zero f input outcome moves ok given zeros plan w o =
    idle_are_zero f input outcome moves ok given zeros plan.stand w
    (others_not_live f ok (progress f at_start moves) (tracked_all f moves at_start (tracked_start f) plan.stand) plan.end w o)
