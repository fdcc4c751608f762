-- Calls of a builder, one after another.
use Rattle.std.proofs.Common.{◌≡◌, ℕ, suc, List, [], ◌∷◌, ◌++◌, length, Option, Result, Ok, Err, IfOk, arith, false, sym, ap, ◌∙◌, subst, append_assoc}
use Rattle.silq_io.specs.declared.limit.OverLimit.{OverLimit}
use Rattle.silq_io.specs.declared.limit.LimitFault.{LimitFault}
use Rattle.silq_io.specs.declared.limit.LimitFault.TheVariants.{Memory, Limit}
use Rattle.flat_core.specs.declared.step.WireId.{WireId}
use Rattle.flat_core.specs.Form.{DraftForm}
use Rattle.flat_core.specs.Drafts.{with_wire, IsDraft}
use Rattle.bit_arith.specs.Built.{Built, begun, new_wire, next_wire, next_wires, wires_from}
use Rattle.bit_arith.specs.Calls.{Building, IsTarget, AreTargets, Went, Refused}
use Rattle.bit_arith.proofs.Grows.{Grows, length-new_wire, new_wire_x, targets_more, fresh_target, fresh_unmeasured}

-- what a call that went well built is where the next one begins
pub built_by : {old new : Building} {row : Built} → Went old new row → row ≡ begun new.draft
built_by {old} {new} {row} g =
    ap (λ (d : DraftForm). let r : Built = record { draft = d; over = row.over } in r) (sym g.built)
    ∙ ap (λ (o : Option OverLimit). let r : Built = record { draft = new.draft; over = o } in r) g.within

pub went_then : {old mid new : Building} {row : Built} (f : Built → Built) → Went old mid row → Went mid new (f (begun mid.draft)) → Went old new (f row)
went_then {old} {mid} {new} {row} f g h =
    subst (λ (r : Built). Went old new (f r)) (sym (built_by g)) (record { within = h.within; built = h.built; kept = h.kept ∙ g.kept })

pub refused_then : {old mid : Building} {row : Built} (f : Built → Built) (e : LimitFault) → Went old mid row → Refused e (f (begun mid.draft)) → Refused e (f row)
refused_then f e g h = subst (λ (r : Built). Refused e (f r)) (sym (built_by g)) h

-- what refuses a row refuses what would come after it
pub refused_later : {row later : Built} (e : LimitFault) → Grows row later → Refused e row → Refused e later
refused_later Memory g h = tt
refused_later (Limit over) g h = g.stays over h

-- ---- several wires

-- a wire that was just made is a target
pub made_target : (old new : Building) (r : Result WireId LimitFault)
    → IsDraft old.draft
    → IfOk r (λ w. (w.number ≡ length old.draft.wires) × (new ≡ record { draft = with_wire old.draft false; setting = old.setting }))
    → IfOk r (λ w. IsTarget new.draft w)
made_target old new (Err e) ok h = tt
made_target old new (Ok w) ok h =
    rw h.1 (let t = fresh_target (begun old.draft) ok in (rw h.0 t.0, fresh_unmeasured old.draft ok w (omega (arith, h.0))))

pub targets_append : (d : DraftForm) (ws : List WireId) (w : WireId) → AreTargets d ws → IsTarget d w → AreTargets d (ws ++ w ∷ [])
targets_append d [] w h t = (t, tt)
targets_append d (v ∷ ws) w h t = (h.0, targets_append d ws w h.1 t)

pub one_more_target : {old new : Building} → Went old new (new_wire (begun old.draft)) → (ws : List WireId) (w : WireId) → AreTargets old.draft ws → IsTarget new.draft w → AreTargets new.draft (ws ++ w ∷ [])
one_more_target {old} {new} g ws w h t =
    targets_append new.draft ws w (subst (λ (d : DraftForm). AreTargets d ws) (sym g.built) (targets_more (new_wire_x (begun old.draft)) ws h)) t

pub next_wires_more : (ws : List WireId) (b : Built) (rest : ℕ) → (ws ++ next_wire b ∷ []) ++ next_wires rest (new_wire b) ≡ ws ++ next_wires (suc rest) b
next_wires_more ws b rest =
    append_assoc ws (next_wire b ∷ []) (next_wires rest (new_wire b)) ∙ ap (λ (n : ℕ). ws ++ next_wire b ∷ wires_from n rest) (length-new_wire b)
