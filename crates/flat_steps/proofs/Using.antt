-- Variables that are taken out and put back.
use Rattle.std.proofs.Common.{◌≡◌, ℕ, Bool, true, false, cond, ◌||◌, List, [], ◌∷◌, length, refl, sym, ap, ◌∙◌, arith, ℤ}
use Rattle.silq_tree.specs.declared.node.NameId.{NameId}
use Rattle.silq_types.specs.Types.{same_name}
use Rattle.silq_types.specs.declared.need.Need.{Need}
use Rattle.silq_mean.specs.Env.{Block, Env, is_in_block, block_with, is_in_reach, found, in_its_block, in_first_block, bound}
use Rattle.flat_form.specs.declared.known.Known.{Known}
use Rattle.flat_form.specs.declared.known.Known.TheVariants.{Static, Shown, Lent, Absent}
use Rattle.flat_form.specs.State.{Flattening, last, drop_last, wires_so_far}
use Rattle.flat_form.specs.Flat.{known_in, use_part, after_use, use_variable, assigned, as_variable, bind}
use Rattle.flat_form.specs.Good.{IsKnown, Good}
use Rattle.flat_form.proofs.Kept.{known_name}
use Rattle.flat_form.proofs.Both.{block_in}
use Rattle.flat_steps.specs.Sizes.{IsSized}
use Rattle.flat_steps.proofs.Places.{not_its}

block_block : {A : Type 0} (vs : Block A) (x : NameId) (a b : A) → is_in_block vs x ≡ true → block_with (block_with vs x a) x b ≡ block_with vs x b
block_block [] x a b h = absurd (grind (arith, h))
block_block (v ∷ vs) x a b h = pick (same_name v.0 x) refl h (block_block vs x a b)
  where
    pick : (t : Bool) → (same_name v.0 x) ≡ t → (t || is_in_block vs x) ≡ true → (is_in_block vs x ≡ true → block_with (block_with vs x a) x b ≡ block_with vs x b)
        → block_with (cond t ((v.0, a) ∷ vs) (v ∷ block_with vs x a)) x b ≡ cond t ((v.0, b) ∷ vs) (v ∷ block_with vs x b)
    pick true e k ih = ap (λ t. cond t ((v.0, b) ∷ vs) ((v.0, a) ∷ block_with vs x b)) e
    pick false e k ih = ap (λ t. cond t ((v.0, b) ∷ block_with vs x a) (v ∷ block_with (block_with vs x a) x b)) e ∙ ap (λ z. v ∷ z) (ih k)

pub its_its : {A : Type 0} (env : Env A) (x : NameId) (a b : A) → in_its_block (in_its_block env x a) x b ≡ in_its_block env x b
its_its [] x a b = refl
its_its (c ∷ cs) x a b = pick (is_in_block c x) refl (its_its cs x a b)
  where
    pick : (t : Bool) → is_in_block c x ≡ t → in_its_block (in_its_block cs x a) x b ≡ in_its_block cs x b
        → in_its_block (cond t (block_with c x a ∷ cs) (c ∷ in_its_block cs x a)) x b ≡ cond t (block_with c x b ∷ cs) (c ∷ in_its_block cs x b)
    pick true e ih = ap (λ z. cond z (block_with (block_with c x a) x b ∷ cs) (block_with c x a ∷ in_its_block cs x b)) (block_in c x a e) ∙ ap (λ z. z ∷ cs) (block_block c x a b e)
    pick false e ih = ap (λ z. cond z (block_with c x b ∷ in_its_block cs x a) (c ∷ in_its_block (in_its_block cs x a) x b)) e ∙ ap (λ z. c ∷ z) ih

reach_its : {A : Type 0} (env : Env A) (x : NameId) (a : A) → is_in_reach (in_its_block env x a) x ≡ is_in_reach env x
reach_its [] x a = refl
reach_its (c ∷ cs) x a = pick (is_in_block c x) refl (reach_its cs x a)
  where
    pick : (t : Bool) → is_in_block c x ≡ t → is_in_reach (in_its_block cs x a) x ≡ is_in_reach cs x → is_in_reach (cond t (block_with c x a ∷ cs) (c ∷ in_its_block cs x a)) x ≡ t || is_in_reach cs x
    pick true e ih = ap (λ z. z || is_in_reach cs x) (block_in c x a e)
    pick false e ih = ap (λ z. z || is_in_reach (in_its_block cs x a) x) e ∙ ih

pub bound_its : {A : Type 0} (env : Env A) (x : NameId) (a b : A) → bound (in_its_block env x a) x b ≡ bound env x b
bound_its env x a b = pick (is_in_reach env x) refl
  where
    pick : (t : Bool) → is_in_reach env x ≡ t → bound (in_its_block env x a) x b ≡ bound env x b
    pick true e =
        ap (λ z. cond z (in_its_block (in_its_block env x a) x b) (in_first_block (in_its_block env x a) x b)) (reach_its env x a ∙ e)
        ∙ its_its env x a b ∙ ap (λ z. cond z (in_its_block env x b) (in_first_block env x b)) (sym e)
    pick false e = ap (λ z. bound z x b) (not_its env x a e)

sized : (n : ℕ) (k : Known) → IsKnown n k → IsSized k
sized n (Static z) h = tt
sized n (Shown v) h = h.size
sized n (Lent start size v) h = h.size
sized n Absent h = tt

pub sized_in : (s : Flattening) (x : NameId) → Good s → IsSized (known_in s x)
sized_in s x g = sized (length s.built.draft.wires) (known_in s x) (known_name (IsKnown (length s.built.draft.wires)) s x tt g.known)

-- a use takes the variable out, and puts back what it leaves
pub used_is : (need : Need) (x : NameId) (is : List ℤ) (s t : Flattening) (old given left : Known) (out back : Env Known) (values : List Known)
    → s ≡ t
    → old ≡ found Absent s.env x
    → out ≡ in_its_block s.env x Absent
    → given ≡ use_part (wires_so_far s) need is old
    → left ≡ after_use need is old
    → back ≡ in_its_block out x left
    → values ≡ given ∷ s.values
    → record s { env = back; values = values } ≡ use_variable need x is t
used_is need x is s t old given left out back values same known taken g l b v =
    ap (λ z. let u : Flattening = record s { env = z; values = values } in u) here ∙ ap (λ z. let u : Flattening = record s { env = in_its_block s.env x (after_use need is (known_in s x)); values = z } in u) there ∙ ap (use_variable need x is) same
  where
    here : back ≡ in_its_block s.env x (after_use need is (known_in s x))
    here = b ∙ ap (λ z. in_its_block z x left) taken ∙ its_its s.env x Absent left ∙ ap (in_its_block s.env x) (l ∙ ap (after_use need is) known)

    there : values ≡ use_part (wires_so_far s) need is (known_in s x) ∷ s.values
    there = v ∙ ap (λ z. z ∷ s.values) (g ∙ ap (use_part (wires_so_far s) need is) known)

-- an assignment to a lent part takes the variable out, and binds it anew
pub assigned_is : (x : NameId) (is : List ℤ) (s t : Flattening) (old new value : Known) (out back : Env Known) (values : List Known)
    → s ≡ t
    → value ≡ last s
    → values ≡ (drop_last s).values
    → old ≡ found Absent s.env x
    → out ≡ in_its_block s.env x Absent
    → new ≡ assigned is old value
    → back ≡ bound out x (as_variable new)
    → record s { env = back; values = values } ≡ bind x (assigned is (known_in t x) (last t)) (drop_last t)
assigned_is x is s t old new value out back values same v vs known taken n b =
    ap (λ z. let u : Flattening = record s { env = z; values = values } in u) here
    ∙ ap (λ z. let u : Flattening = record s { env = bound s.env x (as_variable (assigned is (known_in s x) (last s))); values = z } in u) vs
    ∙ ap (λ u. bind x (assigned is (known_in u x) (last u)) (drop_last u)) same
  where
    here : back ≡ bound s.env x (as_variable (assigned is (known_in s x) (last s)))
    here = b ∙ ap (λ z. bound z x (as_variable new)) taken ∙ bound_its s.env x Absent (as_variable new) ∙ ap (λ z. bound s.env x (as_variable z)) (n ∙ ap (λ z. assigned is z value) known ∙ ap (assigned is (known_in s x)) v)
