-- Wires that are measured one after another.
use Rattle.std.proofs.Common.{◌≡◌, ℕ, suc, ◌+◌, ◌<◌, ◌≤◌, Option, Bool, true, false, ◌||◌, List, [], ◌∷◌, length, drop, get_or, refl, sym, ap, ◌∙◌, subst, arith, drop-cons}
use Rattle.std.proofs.lemmas.List.{length-set}
use Rattle.silq_io.specs.declared.limit.LimitFault.{LimitFault}
use Rattle.silq_io.specs.declared.limit.OverLimit.{OverLimit}
use Rattle.flat_core.specs.declared.step.WireId.{WireId}
use Rattle.flat_core.specs.declared.step.End.{End}
use Rattle.flat_core.specs.declared.step.End.TheVariants.{Measured}
use Rattle.flat_core.specs.Form.{DraftForm}
use Rattle.flat_core.specs.Label.{same_wire, wire_in}
use Rattle.flat_core.specs.Drafts.{with_end}
use Rattle.bit_arith.specs.declared.operand.Operand.{Operand}
use Rattle.bit_arith.specs.Built.{Built, Setting, Given, begun}
use Rattle.bit_arith.specs.Rows.{measure}
use Rattle.bit_arith.specs.Calls.{Building, among, no_target, IsTarget, AreTargets, Went, Refused}
use Rattle.bit_arith.proofs.Grows.{Grows, grows_same, grows_then, measure_grows, measure_others}
use Rattle.bit_arith.proofs.Going.{refused_on, refused_as, went_is}
use Rattle.bit_arith.proofs.Steps.{or_false}
use Rattle.bit_arith.specs.Does.{Below}
use Rattle.bit_arith.proofs.Chained.{built_by}
use Rattle.bit_arith.proofs.Listed.{below_more}
use Rattle.flat_form.specs.declared.known.TypedBits.{TypedBits}
use Rattle.flat_form.specs.declared.known.Known.{Known}
use Rattle.flat_form.specs.declared.known.Known.TheVariants.{Static, Shown, Lent, Absent}
use Rattle.flat_form.specs.State.{Flattening, push, last, drop_last, build, wires_in, taken}
use Rattle.flat_form.specs.Flat.{measure_all, end_all, measure_value}
use Rattle.flat_form.specs.Fine.{Distinct}
use Rattle.flat_form.proofs.Giving.{below_in}
use Rattle.flat_steps.specs.Held.{taking, now_taken, Held}
use Rattle.flat_steps.proofs.Holding.{shown_is}

pub measures_grow : (at : Setting) (ws : List WireId) (b : Built) → Grows b (measure_all at ws b)
measures_grow at [] b = grows_same b
measures_grow at (w ∷ ws) b = grows_then (measure_grows at w b) (measures_grow at ws (measure at w b))

-- what the measure of another wire leaves
pub others_stay : (at : Setting) (w : WireId) (b : Built) (ws : List WireId) → among ws w ≡ false → AreTargets b.draft ws → AreTargets (measure at w b).draft ws
others_stay at w b [] other t = tt
others_stay at w b (v ∷ ws) other t =
    let (differs, rest) = or_false (same_wire w v) (among ws w) other in
    let few = (measure_grows at w b).few in
    ((omega (arith, few, t.0.0), measure_others at w b v differs t.0.1), others_stay at w b ws rest t.1)

-- the wire at a place, and those behind it
pub from_place : (ws : List WireId) (i : ℕ) (w : WireId) → i < length ws → drop i ws ≡ get_or ws i w ∷ drop (i + 1) ws
from_place ws i w h = let e : suc i ≡ i + 1 = omega arith in drop-cons ws i w h ∙ ap (λ (k : ℕ). get_or ws i w ∷ drop k ws) e

-- one more measure
module _ (old now : Building) (ws : List WireId) (w : WireId) (rest : List WireId) (is : ws ≡ w ∷ rest) (kept : now.setting ≡ old.setting) where
  abbrev pub here : Built
  here = measure now.setting w (begun now.draft)

  turn : measure_all old.setting rest here ≡ measure_all old.setting ws (begun now.draft)
  turn = ap (λ (at : Setting). measure_all old.setting rest (measure at w (begun now.draft))) kept ∙ ap (λ (vs : List WireId). measure_all old.setting vs (begun now.draft)) (sym is)

  pub measure_target : AreTargets now.draft ws → IsTarget now.draft w
  measure_target t = (subst (AreTargets now.draft) is t).0

  pub measure_more : (new : Building) → Went now new here → measure_all old.setting rest (begun new.draft) ≡ measure_all old.setting ws (begun now.draft)
  measure_more new went = ap (measure_all old.setting rest) (went_is now new here went) ∙ turn

  pub measure_left : (new : Building) → Went now new here → Distinct ws → AreTargets now.draft ws → AreTargets new.draft rest
  measure_left new went d t =
      subst (λ (e : DraftForm). AreTargets e rest) (sym went.built)
      (others_stay now.setting w (begun now.draft) rest (subst Distinct is d).0 (subst (AreTargets now.draft) is t).1)

  pub measure_apart : Distinct ws → Distinct rest
  measure_apart d = (subst Distinct is d).1

  pub measure_stops : (all : Built) (fault : LimitFault) → measure_all old.setting ws (begun now.draft) ≡ all → Refused fault here → Refused fault all
  measure_stops all fault same r = refused_as fault _ _ (turn ∙ same) (refused_on fault here _ (measures_grow old.setting rest here) r)

-- ---- ends

pub ends_grow : (e : End) (ws : List WireId) (b : Built) → Grows b (end_all e ws b)
ends_grow e [] b = grows_same b
ends_grow e (w ∷ ws) b =
    let c : Built = record b { draft = with_end b.draft w e } in
    grows_then (one_end w) (ends_grow e ws c)
  where
    one_end : (w : WireId) → Grows b (record b { draft = with_end b.draft w e })
    one_end w = record { few = let e = length-set b.draft.wires w.number (record { input = (wire_in b.draft.wires w).input; ending = e }) in omega arith; stays = λ over h. h }

same_over : (e : End) (ws : List WireId) (b : Built) → (end_all e ws b).over ≡ b.over
same_over e [] b = refl
same_over e (w ∷ ws) b = same_over e ws (record b { draft = with_end b.draft w e })

-- ---- a measured value

pub value_refused : (k : Known) (s : Flattening) (fault : LimitFault) → Refused fault (taking s.setting k s.built).built → Refused fault (measure_value k s).built
value_refused (Static z) s fault r = r
value_refused (Lent start size v) s fault r = r
value_refused Absent s fault r = r
value_refused (Shown v) s fault r =
    let row : Given (List Operand) = taken s.setting v s.built in
    let ws : List WireId = wires_in row.answer in
    refused_on fault row.built _ (grows_then (measures_grow s.setting ws row.built) (ends_grow Measured ws (measure_all s.setting ws row.built))) r

abbrev pub measured_with : TypedBits → Built → Flattening → Flattening
measured_with v b s = push (Shown (record v { classical = true; own = false })) (build (end_all Measured (wires_in v.operands) (measure_all s.setting (wires_in v.operands) b)) s)

pub value_given : (k : Known) (s : Flattening) (v : TypedBits) → Shown v ≡ now_taken s.setting k s.built → measure_value k s ≡ measured_with v (taking s.setting k s.built).built s
value_given (Static z) s v e = cc
value_given (Lent start size u) s v e = cc
value_given Absent s v e = cc
value_given (Shown u) s v e =
    let row : Given (List Operand) = taken s.setting u s.built in
    ap (λ (x : TypedBits). measured_with x row.built s) (sym (shown_is v (record u { operands = row.answer }) e))

-- the wires of a held value may be measured where they are, and ended behind it
pub ends_there : (v : TypedBits) (mid new : Building) (ws : List WireId) → ws ≡ wires_in v.operands → Held v mid.draft mid.setting → Went mid new (measure_all mid.setting ws (begun mid.draft)) → Below (length new.draft.wires) ws
ends_there v mid new ws is h went =
    let few : length mid.draft.wires ≤ length (measure_all mid.setting ws (begun mid.draft)).draft.wires = (measures_grow mid.setting ws (begun mid.draft)).few in
    let all : Below (length mid.draft.wires) (wires_in v.operands) = below_in (length mid.draft.wires) no_target v.operands h.there in
    subst (λ (d : DraftForm). Below (length d.wires) ws) (sym went.built)
    (below_more (length mid.draft.wires) (length (measure_all mid.setting ws (begun mid.draft)).draft.wires) ws few
    (subst (Below (length mid.draft.wires)) (sym is) all))

-- a measure of the value that was taken, in the state that taking left
module _ (s mid : Flattening) (v : TypedBits) (ws : List WireId) (value : Shown v ≡ now_taken s.setting (last s) s.built) (there : mid ≡ build (taking s.setting (last s) s.built).built (drop_last s)) (is : ws ≡ wires_in v.operands) where
  row : Built
  row = (taking s.setting (last s) s.built).built

  whole : measure_value (last s) (drop_last s) ≡ measured_with v mid.built mid
  whole = value_given (last s) (drop_last s) v value ∙ sym (ap (λ (u : Flattening). measured_with v u.built u) there)

  pub measure_refused : (fault : LimitFault) → Refused fault (measure_all mid.setting ws mid.built) → Refused fault (measure_value (last s) (drop_last s)).built
  measure_refused fault r =
      refused_as fault _ _ (sym (ap (λ (u : Flattening). u.built) whole))
      (refused_on fault (measure_all mid.setting (wires_in v.operands) mid.built) _ (ends_grow Measured (wires_in v.operands) (measure_all mid.setting (wires_in v.operands) mid.built))
      (subst (λ (us : List WireId). Refused fault (measure_all mid.setting us mid.built)) is r))

  -- what is built then, within all limits
  pub measure_given : (new : Building) (draft : DraftForm) → Went (record { draft = mid.built.draft; setting = mid.setting }) new (measure_all mid.setting ws mid.built) → draft ≡ (end_all Measured ws (begun new.draft)).draft
      → push (Shown (record v { classical = true; own = false })) (build (begun draft) mid) ≡ measure_value (last s) (drop_last s)
  measure_given new draft went ends =
      let done : begun new.draft ≡ measure_all mid.setting ws mid.built = sym (built_by went) in
      let over : (e : End) (us : List WireId) (b : Built) → (end_all e us b).over ≡ b.over = same_over in
      let all : begun draft ≡ end_all Measured ws (begun new.draft) = ap begun ends ∙ ap (λ (o : Option OverLimit). let r : Built = record { draft = (end_all Measured ws (begun new.draft)).draft; over = o } in r) (sym (over Measured ws (begun new.draft))) in
      ap (λ (b : Built). push (Shown (record v { classical = true; own = false })) (build b mid))
      (all ∙ ap (end_all Measured ws) done ∙ ap (λ (us : List WireId). end_all Measured us (measure_all mid.setting us mid.built)) is)
      ∙ sym whole
