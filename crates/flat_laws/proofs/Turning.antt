-- The steps of gates: the last value is taken, and the gate works on its wire.
use Rattle.std.proofs.Common.{◌≡◌, ℕ, ◌+◌, ◌≤◌, ◌<◌, true, false, ◌||◌, List, [], ◌∷◌, flat_map, length, drop, refl, sym, ap, ◌∙◌, subst, arith, append-nil}
use Rattle.std.proofs.Math.Nat.{mod-eq_of_lt}
use Rattle.std.proofs.lemmas.Bool.{eqb-true, eq-eqb}
use Rattle.silq_types.specs.declared.types.Shape.TheVariants.{Bit}
use Rattle.silq_types.specs.Types.{shape_bits}
use Rattle.silq_mean.specs.Value.{Value}
use Rattle.silq_mean.specs.Term.{Term, first as first_value, on_last, turn as turn_term}
use Rattle.silq_mean.specs.Effect.{Outcome, flip_last, turn_by, turn_all, mix, step, follow}
use Rattle.flat_core.specs.declared.step.WireId.{WireId}
use Rattle.flat_core.specs.Label.{same_wire}
use Rattle.flat_mean.specs.Row.{Row}
use Rattle.flat_mean.specs.Terms.{Term as WireTerm}
use Rattle.bit_arith.specs.declared.operand.Operand.{Operand}
use Rattle.bit_arith.specs.Built.{Built, Setting, Given, made, under as under_all}
use Rattle.bit_arith.specs.Rows.{flip, turn, had}
use Rattle.bit_arith.specs.Calls.{among}
use Rattle.bit_arith.specs.Does.{Below}
use Rattle.bit_arith.proofs.Doing.{Guards, does_fresh, does_grown}
use Rattle.bit_arith.proofs.Listed.{safe_more, off_first}
use Rattle.bit_arith.proofs.Phases.{turn_does}
use Rattle.flat_form.specs.declared.known.TypedBits.{TypedBits}
use Rattle.flat_form.specs.declared.known.Known.{Known}
use Rattle.flat_form.specs.declared.known.Known.TheVariants.{Static, Shown, Lent, Absent}
use Rattle.flat_form.specs.State.{Flattening, push, first, last, drop_last, build, taken, wires_in, only_wire}
use Rattle.flat_form.specs.Flat.{flat, on_wire, on_last_wire, turn_both}
use Rattle.flat_form.specs.Names.{AllKnown, Spares}
use Rattle.flat_form.specs.Good.{Good, IsShown, IsKnown}
use Rattle.flat_form.specs.Fine.{IsOf, MayTake, MayTurn}
use Rattle.flat_form.specs.Shows.{Shows, ListBoth, Related}
use Rattle.flat_form.proofs.Kept.{known_map, known_same, known_drop, known_last, AllShow, related_shows, all_show_new, all_known_more}
use Rattle.flat_laws.proofs.Compose.{Leads, leads_then}
use Rattle.flat_laws.proofs.Choice.{guards_more}
use Rattle.flat_laws.proofs.Rows.{leads_turned, turn_measures}
use Rattle.flat_laws.proofs.Taking.{Taken, takes, one_wire, last_shown, leads_taken}
use Rattle.flat_laws.proofs.Gates.{leads_same, Wired, with_wired, leads_flip, leads_turn_both}
use Rattle.flat_laws.proofs.Mixing.{leads_hadamard}

-- where the last value is known, the term has one
pub values_whole : (x : Row) (ks : List Known) (ws : List Value) (v : TypedBits) → first ks ≡ Shown v → ListBoth (Shows x) ks ws → ws ≡ first_value ws ∷ drop 1 ws
values_whole x ks ws v e h = go ws (subst (λ l. ListBoth (Shows x) l ws) (last_shown ks v e) h)
  where
    go : (ws : List Value) → ListBoth (Shows x) (Shown v ∷ drop 1 ks) ws → ws ≡ first_value ws ∷ drop 1 ws
    go [] h = absurd h
    go (w ∷ ws) h = refl

pub same_last : (s : Flattening) (v : TypedBits) (u : WireTerm) (t : Term) → last s ≡ Shown v → Related s u t → on_last (λ x. x) t ≡ t
same_last s v u t e r = ap (λ vs. record t { values = vs }) (sym (values_whole u.row s.values t.values v e r.values))

-- a taken value gives way to what follows from it
pub leads_after_taken : (o : Outcome) (s e : Flattening) (v : TypedBits) (g : Given (List Operand)) (z : TypedBits) (src : Term → List Term) → Good s → last s ≡ Shown v → Taken s v g → z.shape ≡ v.shape → z.operands ≡ g.answer → Leads o (push (Shown z) (build g.built (drop_last s))) e src → Leads o s e src
leads_after_taken o s e v g z src gs is k same its m =
    leads_same o s e (λ t. flat_map src (on_last (λ x. x) t ∷ [])) src
    (λ u t r. append-nil (src (on_last (λ x. x) t)) ∙ ap src (same_last s v u t is r))
    (leads_then o s (push (Shown z) (build g.built (drop_last s))) e (λ t. on_last (λ x. x) t ∷ []) src (leads_taken o s v g z gs is k same its) m)

in_one : (w x : WireId) → same_wire w x ≡ true → among (w ∷ []) x ≡ true
in_one w x h = ap (λ b. b || false) (eq-eqb x.number w.number (sym (eqb-true w.number x.number h)))

pub wired_taken : (s : Flattening) (v : TypedBits) (g : Given (List Operand)) (z : TypedBits) → Good s → IsShown (length s.built.draft.wires) v → Taken s v g → z.shape ≡ v.shape → z.operands ≡ g.answer → v.shape ≡ Bit → Wired z (only_wire g.answer) (build g.built (drop_last s))
wired_taken s v g z gs q k same its bit =
    let n : ℕ = length s.built.draft.wires in
    let m : ℕ = length g.built.draft.wires in
    let w : WireId = only_wire g.answer in
    let up : n ≤ m = does_grown k.does in
    let one : g.answer ≡ made w ∷ [] = one_wire g.answer k.wires (k.size ∙ (q.size ∙ ap shape_bits bit)) in
    let ws : wires_in g.answer ≡ w ∷ [] = ap wires_in one in
    let b : Below m (w ∷ []) = subst (Below m) ws k.below in
    let c : Guards s.setting m (among (w ∷ [])) = subst (λ l. Guards s.setting m (among l)) ws k.condition in
    let a : AllKnown (Spares (among (w ∷ []))) (drop_last s) = subst (λ l. AllKnown (Spares (among l)) (drop_last s)) ws k.spared in
    let s0 : Flattening = build g.built (drop_last s) in
    record {
      fresh = does_fresh k.does gs.fresh;
      bit = same ∙ bit;
      its = its ∙ one;
      below = b.0;
      guards = guards_more s.setting n m up gs.condition;
      condition = safe_more m m (among (w ∷ [])) (same_wire w) (under_all s.setting []) (omega arith) (λ x lt t. off_first w x [] t) c;
      known = known_same (IsKnown m) (drop_last s) s0 refl refl refl (all_known_more n m (drop_last s) up (known_drop (IsKnown n) s gs.known));
      spared = known_same (Spares (same_wire w)) (drop_last s) s0 refl refl refl (known_map (Spares (among (w ∷ []))) (Spares (same_wire w)) (λ y h x t. h x (in_one w x t)) (drop_last s) a);
    }

pub leads_gate : (o : Outcome) (s : Flattening) (gate : Setting → WireId → Built → Built) (src : Term → List Term) → Good s → MayTurn s → ((z : TypedBits) (w : WireId) (s0 : Flattening) → Wired z w s0 → Leads o (with_wired z s0) (with_wired z (build (gate s0.setting w s0.built) s0)) src) → Leads o s (on_last_wire gate s) src
leads_gate o s gate src gs may h = go (last s) refl may (known_last (IsKnown (length s.built.draft.wires)) s tt gs.known)
  where
    go : (k : Known) → last s ≡ k → IsOf (λ v. (v.shape ≡ Bit) × MayTake v s) k → IsKnown (length s.built.draft.wires) k → Leads o s (on_wire gate k (drop_last s)) src
    go (Static y) e m q = absurd m
    go (Lent a c v) e m q = absurd m
    go Absent e m q = absurd m
    go (Shown v) e m q =
        let g : Given (List Operand) = taken s.setting v s.built in
        let k : Taken s v g = takes s v gs q m.1 in
        let z : TypedBits = record { classical = false; shape = v.shape; operands = g.answer; own = true; began = v.began } in
        leads_after_taken o s (with_wired z (build (gate s.setting (only_wire g.answer) g.built) (drop_last s))) v g z src gs e k refl refl
        (h z (only_wire g.answer) (build g.built (drop_last s)) (wired_taken s v g z gs q k refl refl m.0))

-- ---- the steps

pub leads_flip_last : (o : Outcome) (s : Flattening) → Good s → MayTurn s → Leads o s (flat (step flip_last) s) (follow o (step flip_last))
leads_flip_last o s g m = leads_gate o s (λ at w b. flip at w [] b) (follow o (step flip_last)) g m (λ z w s0 q. leads_flip o z w s0 q)

pub leads_turn_by : (o : Outcome) (k l : ℕ) (s : Flattening) → k < 8 → l < 8 → Good s → MayTurn s → Leads o s (flat (step (turn_by k l)) s) (follow o (step (turn_by k l)))
leads_turn_by o k l s lk ll g m = leads_gate o s (turn_both k l) (follow o (step (turn_by k l))) g m (λ z w s0 q. leads_turn_both o k l lk ll z w s0 q)

pub leads_mix : (o : Outcome) (s : Flattening) → Good s → MayTurn s → Leads o s (flat mix s) (follow o mix)
leads_mix o s g m = leads_gate o s had (follow o mix) g m (λ z w s0 q. leads_hadamard o z w s0 q)

pub leads_turn_all : (o : Outcome) (k : ℕ) (s : Flattening) → k < 8 → Good s → Leads o s (flat (step (turn_all k)) s) (follow o (step (turn_all k)))
leads_turn_all o k s lt g =
    let n : ℕ = length s.built.draft.wires in
    let e : Flattening = build (turn s.setting k [] s.built) s in
    leads_turned o s e k [] (turn_term k) (turn_does s.setting k [] s.built g.fresh g.condition) (turn_measures s.setting k [] s.built) g.condition refl (λ t. (refl, refl))
    (λ u t r. ap (λ (j : ℕ). t.eighths + j) (sym (mod-eq_of_lt lt)))
    (λ u t y r ag.
    let a : AllShow y s t = all_show_new n y u.row s t ag g.known (related_shows s u t r) in
    record { env = a.env; values = a.values; callers = a.callers })
