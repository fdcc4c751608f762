-- Variables with a part at their end: what an expression leaves of them, and the variable that is Linear from there on.
use Rattle.std.proofs.Common.{◌≡◌, Bool, true, false, cond, ◌||◌, List, [], ◌∷◌, ◌++◌, length, refl, sym, ap, ◌∙◌, subst}
use Rattle.std.specs.Prelude.{Some, take}
use Rattle.silq_types.specs.declared.values.Origin.{Origin}
use Rattle.silq_types.specs.declared.values.Origin.TheVariants.{Linear}
use Rattle.silq_types.specs.declared.values.Part.{Part}
use Rattle.silq_types.specs.declared.values.Var.{Var}
use Rattle.silq_types.specs.Types.{is_held, is_linear}
use Rattle.check_scope.specs.Context.{same_part, find_var, replace}
use Rattle.check_fun.specs.Statement.{made_linear, with_origin}
use Rattle.flat_form.specs.Names.{AllOf}
use Rattle.flat_typed.proofs.Ordered.{clash}
use Rattle.flat_typed.proofs.Parts.{some_same}
use Rattle.flat_typed.proofs.Tame.{Left, AllLeft}
use Rattle.flat_typed.proofs.Borrowing.{replace_same}

pub record SplitLast (vs : List Var) (p : Var) (ws : List Var) : Type 0 where
  pub last : Var
  pub all : ws ≡ take (length vs) ws ++ last ∷ []
  pub left : AllLeft vs (take (length vs) ws)
  pub one : Left p last

pub left_split : (vs ws : List Var) (p : Var) → AllLeft (vs ++ p ∷ []) ws → SplitLast vs p ws
left_split [] [] p h = absurd h
left_split [] (w ∷ []) p h = record { last = w; all = refl; left = tt; one = h.0 }
left_split [] (w ∷ (u ∷ us)) p h = absurd h.1
left_split (v ∷ vs) [] p h = absurd h
left_split (v ∷ vs) (w ∷ ws) p h = let r = left_split vs ws p h.1 in record { last = r.last; all = ap (λ l. w ∷ l) r.all; left = (h.0, r.left); one = r.one }

pub all_last : (Q : Var → Type 0) (vs : List Var) (p : Var) → AllOf Q (vs ++ p ∷ []) → Q p
all_last Q [] p h = h.0
all_last Q (v ∷ vs) p h = all_last Q vs p h.1

made_is : (vs : List Var) (p : Part) (o : Var) → find_var vs p ≡ Some o → o.part ≡ p → made_linear vs p ≡ replace vs (record o { origin = Linear })
made_is [] p o e q = refl
made_is (v ∷ vs) p o e q = go (same_part v.part p) refl e (λ f. made_is vs p o f q)
  where
    goal : Bool → Bool → Type 0
    goal t r = cond t (record v { origin = Linear } ∷ vs) (v ∷ made_linear vs p) ≡ cond r (record o { origin = Linear } ∷ vs) (v ∷ replace vs (record o { origin = Linear }))

    go : (t : Bool) → same_part v.part p ≡ t → cond t (Some v) (find_var vs p) ≡ Some o → (find_var vs p ≡ Some o → made_linear vs p ≡ replace vs (record o { origin = Linear })) → goal t (same_part v.part o.part)
    go true s e i = subst (goal true) (sym (ap (same_part v.part) q ∙ s)) (ap (λ (u : Var). record u { origin = Linear } ∷ vs) (some_same v o e))
    go false s e i = subst (goal false) (sym (ap (same_part v.part) q ∙ s)) (ap (λ l. v ∷ l) (i e))

-- the origin of the variable behind the assignment
abbrev pub origin_behind : Bool → Origin → Origin
origin_behind linear o = cond linear Linear o

pub with_origin_is : (linear : Bool) (vs : List Var) (p : Part) (o : Var) → find_var vs p ≡ Some o → o.part ≡ p → with_origin linear vs p ≡ replace vs (record o { origin = origin_behind linear o.origin })
with_origin_is true vs p o e q = made_is vs p o e q
with_origin_is false vs p o e q = sym (replace_same vs p o e q)

pub behind_unheld : (linear : Bool) (o : Origin) → is_held o ≡ false → is_held (origin_behind linear o) ≡ false
behind_unheld true o e = refl
behind_unheld false o e = e

pub behind_linear : (linear : Bool) (o : Origin) → is_linear o ≡ true → is_linear (origin_behind linear o) ≡ true
behind_linear true o e = refl
behind_linear false o e = e

pub behind_now : (b : Bool) (o : Origin) → b ≡ true → is_linear (origin_behind (b || false) o) ≡ true
behind_now true o e = refl
behind_now false o e = clash (sym e)
