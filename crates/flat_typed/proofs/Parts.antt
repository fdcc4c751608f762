-- Variables by their parts: what a name shows, and what a change of a variable changes.
use Rattle.std.proofs.Common.{◌≡◌, Bool, true, false, cond, not, ◌&&◌, ◌||◌, List, [], ◌∷◌, ◌++◌, refl, sym, ap, ap₂, ◌∙◌, subst, arith}
use Rattle.std.specs.Prelude.{Option, Some, None, ℤ}
use Rattle.std.proofs.lemmas.Bool.{eq-eqb}
use Rattle.silq_tree.specs.declared.node.NameId.{NameId}
use Rattle.silq_types.specs.declared.values.Var.{Var}
use Rattle.silq_types.specs.Types.{same_name}
use Rattle.silq_mean.specs.Written.{is_empty}
use Rattle.check_scope.specs.Context.{listed, variable, same_index, same_part, find_var}
use Rattle.silq_mean.specs.Env.{is_in_block, in_block}
use Rattle.flat_form.specs.declared.known.Known.TheVariants.{Absent}
use Rattle.flat_form.specs.State.{Flattening}
use Rattle.flat_form.specs.Flat.{known_in}
use Rattle.flat_typed.specs.Places.{Places, is_part, shown, entries, in_order}
use Rattle.flat_typed.specs.Relation.{HasNone, PartsDiffer}
use Rattle.flat_typed.proofs.Ordered.{clash, same_is_equal, Once, found_in_order}

-- ---- parts

and_left : (a b : Bool) → (a && b) ≡ true → a ≡ true
and_left true b e = refl
and_left false b e = e

and_right : (a b : Bool) → (a && b) ≡ true → b ≡ true
and_right true b e = e
and_right false b e = clash (sym e)

pub some_same : {A : Type 0} (a b : A) → ◌≡◌ {A = Option A} (Some a) (Some b) → a ≡ b
some_same a b e = grind (arith, e)

pub name_refl : (x : NameId) → same_name x x ≡ true
name_refl x = eq-eqb x.number x.number refl

-- a variable as a whole has no index
pub whole_part : (v : Var) → is_part v ≡ false → v.part ≡ variable v.part.name
whole_part v e = go v.part.first v.part.second refl refl e
  where
    go : (i j : Option ℤ) → v.part.first ≡ i → v.part.second ≡ j → not (is_empty (listed i ++ listed j)) ≡ false → v.part ≡ variable v.part.name
    go None None f s h = ap₂ (λ a b. record { name = v.part.name; first = a; second = b }) f s
    go (Some i) j f s h = clash h
    go None (Some j) f s h = clash h

-- of two whole variables the names decide
pub whole_same : (x y : NameId) → same_part (variable x) (variable y) ≡ same_name x y
whole_same x y = go (same_name x y)
  where
    go : (t : Bool) → (t && true) ≡ t
    go true = refl
    go false = refl

-- a part is never a whole variable
pub part_other : (v : Var) (x : NameId) → is_part v ≡ true → same_part v.part (variable x) ≡ false
part_other v x e = go (same_name v.part.name x) v.part.first v.part.second e
  where
    go : (t : Bool) (i j : Option ℤ) → not (is_empty (listed i ++ listed j)) ≡ true → (t && (same_index i None && same_index j None)) ≡ false
    go false i j h = refl
    go true None None h = clash (sym h)
    go true (Some i) j h = refl
    go true None (Some j) h = refl

-- a whole variable and a name
pub named_so : (v : Var) (x : NameId) → is_part v ≡ false → same_part v.part (variable x) ≡ same_name v.part.name x
named_so v x e = ap (λ p. same_part p (variable x)) (whole_part v e) ∙ whole_same v.part.name x

-- ---- names stand once

other_name : (vs : List Var) (v : Var) → is_part v ≡ false → HasNone vs v.part → (W : Places) (all : List Var) → is_in_block (entries W all vs) v.part.name ≡ false
other_name [] v p h W all = refl
other_name (w ∷ ws) v p h W all = go (is_part w) refl (other_name ws v p h.1 W all)
  where
    differ : is_part w ≡ false → same_name w.part.name v.part.name ≡ false
    differ e = sym (named_so w v.part.name e) ∙ (ap (same_part w.part) (sym (whole_part v p)) ∙ h.0)

    go : (t : Bool) → is_part w ≡ t → is_in_block (entries W all ws) v.part.name ≡ false → is_in_block (cond t (entries W all ws) ((w.part.name, shown W all w) ∷ entries W all ws)) v.part.name ≡ false
    go true e i = i
    go false e i = ap (λ t. t || is_in_block (entries W all ws) v.part.name) (differ e) ∙ i

pub once_entries : (W : Places) (all vs : List Var) → PartsDiffer vs → Once (entries W all vs)
once_entries W all [] d = tt
once_entries W all (v ∷ vs) d = go (is_part v) refl (once_entries W all vs d.1)
  where
    go : (t : Bool) → is_part v ≡ t → Once (entries W all vs) → Once (cond t (entries W all vs) ((v.part.name, shown W all v) ∷ entries W all vs))
    go true e o = o
    go false e o = (other_name vs v e d.0 W all, o)

-- ---- what a name shows

found_entry : (W : Places) (all vs : List Var) (x : NameId) (v : Var) → find_var vs (variable x) ≡ Some v → in_block Absent (entries W all vs) x ≡ shown W all v
found_entry W all [] x v e = absurd (grind (arith, e))
found_entry W all (w ∷ ws) x v e = go (is_part w) refl (same_part w.part (variable x)) refl e (found_entry W all ws x v)
  where
    go : (t : Bool) → is_part w ≡ t → (s : Bool) → same_part w.part (variable x) ≡ s → cond s (Some w) (find_var ws (variable x)) ≡ Some v
        → (find_var ws (variable x) ≡ Some v → in_block Absent (entries W all ws) x ≡ shown W all v)
        → in_block Absent (cond t (entries W all ws) ((w.part.name, shown W all w) ∷ entries W all ws)) x ≡ shown W all v
    go true p true s e i = clash (sym s ∙ part_other w x p)
    go true p false s e i = i e
    go false p true s e i = ap (λ t. cond t (shown W all w) (in_block Absent (entries W all ws) x)) (sym (named_so w x p) ∙ s) ∙ ap (shown W all) (some_same w v e)
    go false p false s e i = ap (λ t. cond t (shown W all w) (in_block Absent (entries W all ws) x)) (sym (named_so w x p) ∙ s) ∙ i e

pub no_entry : (W : Places) (all vs : List Var) (x : NameId) → find_var vs (variable x) ≡ None → is_in_block (entries W all vs) x ≡ false
no_entry W all [] x e = refl
no_entry W all (w ∷ ws) x e = go (is_part w) refl (same_part w.part (variable x)) refl e (no_entry W all ws x)
  where
    go : (t : Bool) → is_part w ≡ t → (s : Bool) → same_part w.part (variable x) ≡ s → cond s (Some w) (find_var ws (variable x)) ≡ None
        → (find_var ws (variable x) ≡ None → is_in_block (entries W all ws) x ≡ false)
        → is_in_block (cond t (entries W all ws) ((w.part.name, shown W all w) ∷ entries W all ws)) x ≡ false
    go t p true s e i = absurd (grind (arith, e))
    go true p false s e i = i e
    go false p false s e i = ap (λ t. t || is_in_block (entries W all ws) x) (sym (named_so w x p) ∙ s) ∙ i e

-- a name in reach shows what its place shows
pub shows_its_place : (W : Places) (vars : List Var) (s : Flattening) (x : NameId) (v : Var) → in_order s.env ≡ entries W vars vars → PartsDiffer vars → find_var vars (variable x) ≡ Some v → known_in s x ≡ shown W vars v
shows_its_place W vars s x v env d e =
    found_in_order Absent s.env x (subst Once (sym env) (once_entries W vars vars d)) ∙ (ap (λ b. in_block Absent b x) env ∙ found_entry W vars vars x v e)

pub there_entry : (W : Places) (all vs : List Var) (x : NameId) (v : Var) → find_var vs (variable x) ≡ Some v → is_in_block (entries W all vs) x ≡ true
there_entry W all [] x v e = absurd (grind (arith, e))
there_entry W all (w ∷ ws) x v e = go (is_part w) refl (same_part w.part (variable x)) refl e (there_entry W all ws x v)
  where
    or_true : (a : Bool) → (a || true) ≡ true
    or_true true = refl
    or_true false = refl

    go : (t : Bool) → is_part w ≡ t → (s : Bool) → same_part w.part (variable x) ≡ s → cond s (Some w) (find_var ws (variable x)) ≡ Some v
        → (find_var ws (variable x) ≡ Some v → is_in_block (entries W all ws) x ≡ true)
        → is_in_block (cond t (entries W all ws) ((w.part.name, shown W all w) ∷ entries W all ws)) x ≡ true
    go true p true s e i = clash (sym s ∙ part_other w x p)
    go true p false s e i = i e
    go false p true s e i = ap (λ t. t || is_in_block (entries W all ws) x) (sym (named_so w x p) ∙ s)
    go false p false s e i = ap (λ t. same_name w.part.name x || t) (i e) ∙ or_true (same_name w.part.name x)

-- what is found by a name is the whole variable
pub found_there : (vs : List Var) (x : NameId) (v : Var) → find_var vs (variable x) ≡ Some v → v.part ≡ variable x
found_there [] x v e = absurd (grind (arith, e))
found_there (w ∷ ws) x v e = go (same_part w.part (variable x)) refl e (found_there ws x v)
  where
    whole : is_part w ≡ false → same_part w.part (variable x) ≡ true → w.part ≡ variable x
    whole p s = whole_part w p ∙ ap variable (same_is_equal w.part.name x (sym (named_so w x p) ∙ s))

    kind : (t : Bool) → is_part w ≡ t → same_part w.part (variable x) ≡ true → w.part ≡ variable x
    kind true p s = clash (sym s ∙ part_other w x p)
    kind false p s = whole p s

    go : (t : Bool) → same_part w.part (variable x) ≡ t → cond t (Some w) (find_var ws (variable x)) ≡ Some v → (find_var ws (variable x) ≡ Some v → v.part ≡ variable x) → v.part ≡ variable x
    go true s e i = subst (λ (u : Var). u.part ≡ variable x) (some_same w v e) (kind (is_part w) refl s)
    go false s e i = i e
