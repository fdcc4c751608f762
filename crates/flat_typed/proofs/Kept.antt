-- Variables that a walk keeps: consumed or not, of another origin or not, but those that are held are left as they are.
use Rattle.std.proofs.Common.{◌≡◌, ◌⊎◌, inl, inr, ℕ, ◌+◌, ◌≤◌, ◌<◌, Bool, true, false, cond, not, ◌&&◌, ◌||◌, List, [], ◌∷◌, ◌++◌, length, take, refl, sym, ap, ap₂, ◌∙◌, subst, arith}
use Rattle.std.specs.Prelude.{Option, Some, None}
use Rattle.silq_tree.specs.declared.node.NameId.{NameId}
use Rattle.silq_types.specs.declared.types.Ty.{Ty}
use Rattle.silq_types.specs.declared.values.Part.{Part}
use Rattle.silq_types.specs.declared.values.Var.{Var}
use Rattle.silq_types.specs.Types.{is_held}
use Rattle.silq_mean.specs.Written.{is_empty}
use Rattle.check_scope.specs.Context.{Scope, Context, indices, variable, same_part, find_var, replace}
use Rattle.check_expr.specs.Owners.{Sole}
use Rattle.flat_form.specs.Names.{AllOf}
use Rattle.flat_typed.specs.Places.{is_part, is_shared, has_wires}
use Rattle.flat_typed.specs.Scopes.{NoStatics}
use Rattle.flat_typed.specs.Stay.{SomeOf, IsOwner, HadOwner}
use Rattle.flat_typed.specs.Settled.{Settled, AllStay, IsLive, HadLive, Settles}
use Rattle.flat_typed.proofs.Ordered.{clash}
use Rattle.flat_typed.proofs.Parts.{some_same}
use Rattle.flat_typed.proofs.Moving.{spent}
use Rattle.flat_typed.proofs.Turns.{wired_live}

pub record Kept (v w : Var) : Type 0 where
  pub part : w.part ≡ v.part
  pub ty : w.ty ≡ v.ty
  pub place : w.place ≡ v.place
  pub live : w.consumed ≡ false → v.consumed ≡ false
  pub held : is_held w.origin ≡ is_held v.origin
  pub same : is_held v.origin ≡ true → w ≡ v

abbrev pub AllKept : List Var → List Var → Type 0
AllKept [] [] = Unit {0}
AllKept [] (w ∷ ws) = ⊥
AllKept (v ∷ vs) [] = ⊥
AllKept (v ∷ vs) (w ∷ ws) = Kept v w × AllKept vs ws

abbrev pub FindKept : Option Var → Option Var → Type 0
FindKept None None = Unit {0}
FindKept (Some v) (Some w) = Kept v w
FindKept a b = ⊥

pub kept_here : (vs : List Var) → AllKept vs vs
kept_here [] = tt
kept_here (v ∷ vs) = (record { part = refl; ty = refl; place = refl; live = λ e. e; held = refl; same = λ h. refl }, kept_here vs)

pub kept_then : (us vs ws : List Var) → AllKept us vs → AllKept vs ws → AllKept us ws
kept_then [] [] [] h k = tt
kept_then [] [] (w ∷ ws) h k = absurd k
kept_then [] (v ∷ vs) ws h k = absurd h
kept_then (u ∷ us) [] ws h k = absurd h
kept_then (u ∷ us) (v ∷ vs) [] h k = absurd k
kept_then (u ∷ us) (v ∷ vs) (w ∷ ws) h k = (
  record {
    part = k.0.part ∙ h.0.part;
    ty = k.0.ty ∙ h.0.ty;
    place = k.0.place ∙ h.0.place;
    live = λ e. h.0.live (k.0.live e);
    held = k.0.held ∙ h.0.held;
    same = λ x. k.0.same (h.0.held ∙ x) ∙ h.0.same x;
  },
  kept_then us vs ws h.1 k.1,
)

pub find_kept : (vs ws : List Var) (p : Part) → AllKept vs ws → FindKept (find_var vs p) (find_var ws p)
find_kept [] [] p h = tt
find_kept [] (w ∷ ws) p h = absurd h
find_kept (v ∷ vs) [] p h = absurd h
find_kept (v ∷ vs) (w ∷ ws) p h =
    subst (λ (q : Part). FindKept (cond (same_part v.part p) (Some v) (find_var vs p)) (cond (same_part q p) (Some w) (find_var ws p))) (sym h.0.part) (go (same_part v.part p) (find_kept vs ws p h.1))
  where
    go : (t : Bool) → FindKept (find_var vs p) (find_var ws p) → FindKept (cond t (Some v) (find_var vs p)) (cond t (Some w) (find_var ws p))
    go true i = h.0
    go false i = i

-- one that is not held is spent
pub kept_spent : (vs : List Var) (p : Part) (v : Var) → FindKept (Some v) (find_var vs p) → v.part ≡ p → is_held v.origin ≡ false → AllKept vs (replace vs (spent v))
kept_spent [] p v f q u = tt
kept_spent (w ∷ ws) p v f q u = go (same_part w.part p) refl f (λ d. kept_spent ws p v d q u)
  where
    goal : Bool → Type 0
    goal t = AllKept (w ∷ ws) (cond t (spent v ∷ ws) (w ∷ replace ws (spent v)))

    go : (t : Bool) → same_part w.part p ≡ t → FindKept (Some v) (cond t (Some w) (find_var ws p)) → (FindKept (Some v) (find_var ws p) → AllKept ws (replace ws (spent v))) → goal (same_part w.part v.part)
    go true s e i =
        subst goal (sym (ap (same_part w.part) q ∙ s))
        (record { part = sym e.part; ty = sym e.ty; place = sym e.place; live = λ d. clash d; held = sym e.held; same = λ x. clash (sym x ∙ (e.held ∙ u)) }, kept_here ws)
    go false s e i = subst goal (sym (ap (same_part w.part) q ∙ s)) (record { part = refl; ty = refl; place = refl; live = λ d. d; held = refl; same = λ h. refl }, i e)

pub kept_refl : (v : Var) → Kept v v
kept_refl v = record { part = refl; ty = refl; place = refl; live = λ e. e; held = refl; same = λ h. refl }

-- ---- what is kept settles

kept_is_part : (v w : Var) → Kept v w → is_part w ≡ is_part v
kept_is_part v w h = ap (λ p. not (is_empty (indices p))) h.part

pub kept_shared : (v w : Var) → Kept v w → is_shared w ≡ is_shared v
kept_shared v w h = ap₂ (λ (t : Ty) b. t.classical || b) h.ty h.held

kept_wired : (v w : Var) → Kept v w → has_wires w ≡ true → has_wires v ≡ true
kept_wired v w h has =
    ap₂ (λ a b. not (a || b)) (ap₂ (λ a b. a || b) (h.live (wired_live w has) ∙ sym (wired_live w has)) (sym (kept_is_part v w h))) (sym (kept_shared v w h)) ∙ has

pub kept_whole : (vs ws : List Var) → AllKept vs ws → AllOf (λ v. is_part v ≡ false) vs → AllOf (λ v. is_part v ≡ false) ws
kept_whole [] [] h a = tt
kept_whole [] (w ∷ ws) h a = absurd h
kept_whole (v ∷ vs) [] h a = absurd h
kept_whole (v ∷ vs) (w ∷ ws) h a = (kept_is_part v w h.0 ∙ a.0, kept_whole vs ws h.1 a.1)

pub kept_placed : (n m : ℕ) (vs ws : List Var) → n ≤ m → AllKept vs ws → AllOf (λ v. v.place < n) vs → AllOf (λ v. v.place < m) ws
kept_placed n m [] [] le h a = tt
kept_placed n m [] (w ∷ ws) le h a = absurd h
kept_placed n m (v ∷ vs) [] le h a = absurd h
kept_placed n m (v ∷ vs) (w ∷ ws) le h a = (let p = h.0.place in let l = a.0 in omega (arith, p, l, le), kept_placed n m vs ws le h.1 a.1)

pub kept_free : (sc : Scope) (vs ws : List Var) → AllKept vs ws → NoStatics sc vs → NoStatics sc ws
kept_free sc vs ws h free x e = go (find_var ws (variable x)) (subst (λ o. FindKept o (find_var ws (variable x))) (free x e) (find_kept vs ws (variable x) h))
  where
    go : (o : Option Var) → FindKept None o → o ≡ None
    go None f = refl
    go (Some w) f = absurd f

pub kept_owners : (c : Context) (vs ws : List Var) → AllKept vs ws → ((v : Var) → has_wires v ≡ true → SomeOf (IsOwner v.place) vs → SomeOf (IsOwner v.place) c.vars) → AllOf (HadOwner c) ws
kept_owners c [] [] h f = tt
kept_owners c [] (w ∷ ws) h f = absurd h
kept_owners c (v ∷ vs) [] h f = absurd h
kept_owners c (v ∷ vs) (w ∷ ws) h f = (
  (λ has lt. subst (λ p. SomeOf (IsOwner p) c.vars) (sym h.0.place) (f v (kept_wired v w h.0 has) (inl (record { wires = kept_wired v w h.0 has; place = refl })))),
  kept_owners c vs ws h.1 (λ u x i. f u x (inr i)),
)

pub kept_alive : (c : Context) (vs ws : List Var) → AllKept vs ws → ((v : Var) → SomeOf (IsLive v.place) vs → SomeOf (IsLive v.place) c.vars) → AllOf (HadLive c) ws
kept_alive c [] [] h f = tt
kept_alive c [] (w ∷ ws) h f = absurd h
kept_alive c (v ∷ vs) [] h f = absurd h
kept_alive c (v ∷ vs) (w ∷ ws) h f =
    ((λ l lt. subst (λ p. SomeOf (IsLive p) c.vars) (sym h.0.place) (f v (inl (record { live = h.0.live l; place = refl })))), kept_alive c vs ws h.1 (λ u i. f u (inr i)))

pub kept_stay : (vs ws : List Var) → AllKept vs ws → AllStay vs ws
kept_stay [] ws h = tt
kept_stay (v ∷ vs) [] h = absurd h
kept_stay (v ∷ vs) (w ∷ ws) h = (record { part = h.0.part; held = h.0.held; same = h.0.same }, kept_stay vs ws h.1)

pub kept_settles : (sc : Scope) (c d : Context) → Settled sc c → AllKept c.vars d.vars → Sole c.next (λ p. 0) d → Settles sc c d
kept_settles sc c d h k s = record {
  settled = record {
    free = kept_free sc c.vars d.vars k h.free;
    whole = kept_whole c.vars d.vars k h.whole;
    placed = kept_placed c.next d.next c.vars d.vars s.grown k h.placed;
    sole = record { grown = omega arith; one = s.one; ahead = s.ahead };
  };
  grown = s.grown;
  owners = kept_owners c c.vars d.vars k (λ v x i. i);
  alive = kept_alive c c.vars d.vars k (λ v i. i);
  there = kept_stay c.vars d.vars k;
}
