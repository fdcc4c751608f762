-- A part that was taken out is under way: its variable shows what stands outside it.
use Rattle.std.proofs.Common.{◌≡◌, ◌+◌, Bool, true, false, cond, not, ◌&&◌, ◌||◌, List, [], ◌∷◌, refl, sym, ap, ap₂, ◌∙◌, arith}
use Rattle.std.specs.Prelude.{Some, None}
use Rattle.silq_tree.specs.declared.node.NameId.{NameId}
use Rattle.silq_types.specs.declared.values.Part.{Part}
use Rattle.silq_types.specs.declared.values.Var.{Var}
use Rattle.silq_types.specs.Types.{same_name}
use Rattle.check_scope.specs.Context.{variable, same_part, find_var, replace}
use Rattle.check_expr.proofs.Alike.{same_part_same}
use Rattle.flat_core.specs.declared.step.WireId.{WireId}
use Rattle.flat_form.specs.declared.known.Known.TheVariants.{Absent}
use Rattle.flat_form.specs.Names.{AllOf, operands_in}
use Rattle.flat_typed.specs.Places.{Places, is_part, is_shared, part_out, less_part, bits_for, shown, entries, times_in, holds, holders}
use Rattle.flat_typed.specs.Relation.{HasNone, PartsDiffer}
use Rattle.flat_typed.proofs.Ordered.{changed}
use Rattle.flat_typed.proofs.Parts.{some_same, name_refl, named_so, part_other}
use Rattle.flat_typed.proofs.Moving.{spent, all_more}

and_none : (a : Bool) → (a && false) ≡ false
and_none true = refl
and_none false = refl

-- ---- the part that is under way

module _ (p : Var) (part : is_part p ≡ true) where
  pub out_lent : (vs : List Var) → find_var vs p.part ≡ Some p → part_out vs p.part.name ≡ None → part_out (replace vs (spent p)) p.part.name ≡ Some (spent p)
  out_lent [] e o = absurd (grind (arith, e))
  out_lent (w ∷ ws) e o = go (same_part w.part p.part) refl e (out_lent ws)
    where
      head : part_out (spent p ∷ ws) p.part.name ≡ Some (spent p)
      head = ap₂ (λ a b. cond (a && (true && b)) (Some (spent p)) (part_out ws p.part.name)) part (name_refl p.part.name)

      later : (b : Bool) → (find_var ws p.part ≡ Some p → part_out ws p.part.name ≡ None → part_out (replace ws (spent p)) p.part.name ≡ Some (spent p)) → find_var ws p.part ≡ Some p → cond b (Some w) (part_out ws p.part.name) ≡ None
          → cond b (Some w) (part_out (replace ws (spent p)) p.part.name) ≡ Some (spent p)
      later true i e o = absurd (grind (arith, o))
      later false i e o = i e o

      go : (t : Bool) → same_part w.part p.part ≡ t → cond t (Some w) (find_var ws p.part) ≡ Some p → (find_var ws p.part ≡ Some p → part_out ws p.part.name ≡ None → part_out (replace ws (spent p)) p.part.name ≡ Some (spent p))
          → part_out (cond (same_part w.part p.part) (spent p ∷ ws) (w ∷ replace ws (spent p))) p.part.name ≡ Some (spent p)
      go true s e i = ap (λ t. part_out (cond t (spent p ∷ ws) (w ∷ replace ws (spent p))) p.part.name) s ∙ head
      go false s e i = ap (λ t. part_out (cond t (spent p ∷ ws) (w ∷ replace ws (spent p))) p.part.name) s ∙ later (is_part w && (w.consumed && same_name w.part.name p.part.name)) i e o

  pub out_other : (vs : List Var) (y : NameId) → find_var vs p.part ≡ Some p → same_name p.part.name y ≡ false → part_out (replace vs (spent p)) y ≡ part_out vs y
  out_other [] y e n = refl
  out_other (w ∷ ws) y e n = go (same_part w.part p.part) refl e (λ f. out_other ws y f n)
    where
      none : (v : Var) → v ≡ p → part_out (v ∷ ws) y ≡ part_out ws y
      none v q =
          ap (λ (u : Var). part_out (u ∷ ws) y) q
          ∙ (ap (λ b. cond (is_part p && (p.consumed && b)) (Some p) (part_out ws y)) n
          ∙ (ap (λ b. cond (is_part p && b) (Some p) (part_out ws y)) (and_none p.consumed) ∙ ap (λ b. cond b (Some p) (part_out ws y)) (and_none (is_part p))))

      gone : part_out (spent p ∷ ws) y ≡ part_out ws y
      gone = ap (λ b. cond (is_part p && (true && b)) (Some (spent p)) (part_out ws y)) n ∙ ap (λ b. cond b (Some (spent p)) (part_out ws y)) (and_none (is_part p))

      go : (t : Bool) → same_part w.part p.part ≡ t → cond t (Some w) (find_var ws p.part) ≡ Some p → (find_var ws p.part ≡ Some p → part_out (replace ws (spent p)) y ≡ part_out ws y) → part_out (cond (same_part w.part p.part) (spent p ∷ ws) (w ∷ replace ws (spent p))) y ≡ part_out (w ∷ ws) y
      go true s e i = ap (λ t. part_out (cond t (spent p ∷ ws) (w ∷ replace ws (spent p))) y) s ∙ (gone ∙ sym (none w (some_same w p e)))
      go false s e i = ap (λ t. part_out (cond t (spent p ∷ ws) (w ∷ replace ws (spent p))) y) s ∙ ap (λ r. cond (is_part w && (w.consumed && same_name w.part.name y)) (Some w) r) (i e)

  -- no entry and no owner is lost
  pub entries_part : (W : Places) (all vs : List Var) → find_var vs p.part ≡ Some p → entries W all (replace vs (spent p)) ≡ entries W all vs
  entries_part W all [] e = refl
  entries_part W all (w ∷ ws) e = go (same_part w.part p.part) refl e (λ f. entries_part W all ws f)
    where
      skip : (v : Var) → is_part v ≡ true → entries W all (v ∷ ws) ≡ entries W all ws
      skip v q = ap (λ t. cond t (entries W all ws) ((v.part.name, shown W all v) ∷ entries W all ws)) q

      go : (t : Bool) → same_part w.part p.part ≡ t → cond t (Some w) (find_var ws p.part) ≡ Some p → (find_var ws p.part ≡ Some p → entries W all (replace ws (spent p)) ≡ entries W all ws) → entries W all (cond (same_part w.part p.part) (spent p ∷ ws) (w ∷ replace ws (spent p))) ≡ entries W all (w ∷ ws)
      go true s e i = ap (λ t. entries W all (cond t (spent p ∷ ws) (w ∷ replace ws (spent p)))) s ∙ (skip (spent p) part ∙ sym (skip w (ap is_part (some_same w p e) ∙ part)))
      go false s e i = ap (λ t. entries W all (cond t (spent p ∷ ws) (w ∷ replace ws (spent p)))) s ∙ ap (λ r. cond (is_part w) r ((w.part.name, shown W all w) ∷ r)) (i e)

  pub holders_part : (W : Places) (all vs : List Var) (w : WireId) → find_var vs p.part ≡ Some p → holders W all w (replace vs (spent p)) ≡ holders W all w vs
  holders_part W all [] w e = refl
  holders_part W all (v ∷ vs) w e = go (same_part v.part p.part) refl e (λ f. holders_part W all vs w f)
    where
      none : (u : Var) → is_part u ≡ true → holds W all w u ≡ 0
      none u q = ap (λ t. cond (not ((u.consumed || t) || is_shared u)) (times_in w (operands_in (shown W all u))) 0) q ∙ flat u.consumed
        where
          flat : (t : Bool) → cond (not ((t || true) || is_shared u)) (times_in w (operands_in (shown W all u))) 0 ≡ 0
          flat true = refl
          flat false = refl

      go : (t : Bool) → same_part v.part p.part ≡ t → cond t (Some v) (find_var vs p.part) ≡ Some p → (find_var vs p.part ≡ Some p → holders W all w (replace vs (spent p)) ≡ holders W all w vs) → holders W all w (cond (same_part v.part p.part) (spent p ∷ vs) (v ∷ replace vs (spent p))) ≡ holders W all w (v ∷ vs)
      go true s e i = ap (λ t. holders W all w (cond t (spent p ∷ vs) (v ∷ replace vs (spent p)))) s ∙ (ap (λ n. n + holders W all w vs) (none (spent p) part) ∙ sym (ap (λ n. n + holders W all w vs) (none v (ap is_part (some_same v p e) ∙ part))))
      go false s e i = ap (λ t. holders W all w (cond t (spent p ∷ vs) (v ∷ replace vs (spent p)))) s ∙ ap (λ n. holds W all w v + n) (i e)

-- ---- one name shows something else

-- no whole variable has this name
abbrev NotNamed : NameId → Var → Type 0
NotNamed x v = is_part v ≡ false → same_name v.part.name x ≡ false

others : (vs : List Var) (x : NameId) (q : Part) → q ≡ variable x → HasNone vs q → AllOf (NotNamed x) vs
others vs x q e h = all_more (λ (v : Var). same_part v.part q ≡ false) (NotNamed x) vs (λ v n i. sym (named_so v x i) ∙ (ap (same_part v.part) (sym e) ∙ n)) h

module _ (W : Places) (all more : List Var) (x : NameId) (same : (y : NameId) → same_name x y ≡ false → part_out more y ≡ part_out all y) (swap : (y : NameId) → same_name y x ≡ false → same_name x y ≡ false) where
  shown_other : (v : Var) → same_name v.part.name x ≡ false → shown W more v ≡ shown W all v
  shown_other v n = ap (λ r. cond v.consumed Absent (less_part r (bits_for W v))) (same v.part.name (swap v.part.name n))

  entries_other : (vs : List Var) → AllOf (NotNamed x) vs → entries W more vs ≡ entries W all vs
  entries_other [] h = refl
  entries_other (v ∷ vs) h = go (is_part v) refl (entries_other vs h.1)
    where
      go : (t : Bool) → is_part v ≡ t → entries W more vs ≡ entries W all vs → cond t (entries W more vs) ((v.part.name, shown W more v) ∷ entries W more vs) ≡ cond t (entries W all vs) ((v.part.name, shown W all v) ∷ entries W all vs)
      go true e i = i
      go false e i = ap₂ (λ k l. (v.part.name, k) ∷ l) (shown_other v (h.0 e)) i

  -- the variable x shows another value, and all others what they showed
  pub entries_lent : (o : Var) (vs : List Var) → find_var vs (variable x) ≡ Some o → PartsDiffer vs → entries W more vs ≡ changed (entries W all vs) x (shown W more o)
  entries_lent o [] e d = absurd (grind (arith, e))
  entries_lent o (v ∷ vs) e d = go (is_part v) refl (same_name v.part.name x) refl (λ f. entries_lent o vs f d.1)
    where
      go : (t : Bool) → is_part v ≡ t → (b : Bool) → same_name v.part.name x ≡ b → (find_var vs (variable x) ≡ Some o → entries W more vs ≡ changed (entries W all vs) x (shown W more o))
          → cond t (entries W more vs) ((v.part.name, shown W more v) ∷ entries W more vs) ≡ changed (cond t (entries W all vs) ((v.part.name, shown W all v) ∷ entries W all vs)) x (shown W more o)
      go true t b f i = i (sym (ap (λ c. cond c (Some v) (find_var vs (variable x))) (part_other v x t)) ∙ e)
      go false t true f i =
          let s : same_part v.part (variable x) ≡ true = named_so v x t ∙ f in
          let its : v ≡ o = some_same v o (sym (ap (λ c. cond c (Some v) (find_var vs (variable x))) s) ∙ e) in
          ap₂ (λ k l. (v.part.name, k) ∷ l) (ap (shown W more) its) (entries_other vs (others vs x v.part (same_part_same v.part (variable x) s) d.0))
          ∙ sym (ap (λ c. cond c ((v.part.name, shown W more o) ∷ entries W all vs) ((v.part.name, shown W all v) ∷ changed (entries W all vs) x (shown W more o))) f)
      go false t false f i =
          ap₂ (λ k l. (v.part.name, k) ∷ l) (shown_other v f) (i (sym (ap (λ c. cond c (Some v) (find_var vs (variable x))) (named_so v x t ∙ f)) ∙ e))
          ∙ sym (ap (λ c. cond c ((v.part.name, shown W more o) ∷ entries W all vs) ((v.part.name, shown W all v) ∷ changed (entries W all vs) x (shown W more o))) f)
