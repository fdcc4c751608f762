-- The use of a place, and its value: a variable or a part that was taken out is moved, and any other use leaves all variables.
use Rattle.std.proofs.Common.{◌≡◌, ◌⊎◌, inl, inr, ◌≤◌, Bool, true, false, ◌&&◌, List, [], ◌∷◌, refl, sym, ap, ◌∙◌, arith}
use Rattle.std.specs.Prelude.{Option, Some, None, ℤ}
use Rattle.silq_tree.specs.declared.node.NameId.{NameId}
use Rattle.silq_tree.specs.declared.node.Spot.{Spot}
use Rattle.silq_tree.specs.Syntax.{Place}
use Rattle.silq_types.specs.declared.types.Ty.{Ty}
use Rattle.silq_types.specs.declared.signature.InstanceKey.{InstanceKey}
use Rattle.silq_types.specs.declared.signature.Signature.{Signature}
use Rattle.silq_types.specs.declared.values.Origin.TheVariants.{Classical}
use Rattle.silq_types.specs.declared.values.Part.{Part}
use Rattle.silq_types.specs.declared.values.Value.{Value}
use Rattle.silq_types.specs.declared.values.Var.{Var}
use Rattle.silq_types.specs.Types.{place_name, place_indices, is_held}
use Rattle.silq_types.specs.declared.need.Need.{Need}
use Rattle.silq_types.specs.declared.need.Need.TheVariants as needs
use Rattle.silq_types.specs.Calls.{is_consumed}
use Rattle.silq_mean.specs.Meaning.{static_values}
use Rattle.check_scope.specs.Context.{Scope, Context, ◌>>=◌, give_back, indices, part_at, variable, part_type, is_in_condition, find_var, replace}
use Rattle.check_scope.specs.Places.{disturbs, is_moved, unmoved, use_part, use_found, use_place}
use Rattle.check_scope.specs.Uses.{index_values}
use Rattle.check_expr.specs.Owners.{Ensures}
use Rattle.check_expr.proofs.Owners.{o_bind, o_then, o_more, o_back, o_fail, o_if, o_rules, o_variables}
use Rattle.flat_typed.proofs.Ordered.{clash, or_left, or_right}
use Rattle.flat_typed.proofs.Moving.{spent, handed_on}
use Rattle.flat_typed.proofs.Scopes.{indices_are}
use Rattle.flat_typed.proofs.There.{Used}

-- the variable of this part is moved
pub record MovedAt (sc : Scope) (need : Need) (c : Context) (q : Part) (u : Value) (d : Context) : Type 0 where
  pub var : Var
  pub found : find_var c.vars q ≡ Some var
  pub live : var.consumed ≡ false
  pub moved : is_moved need var.ty ≡ true
  pub unheld : is_held var.origin ≡ false
  pub loose : is_in_condition sc.held q ≡ false
  pub clear : disturbs c.vars q ≡ false
  pub value : u ≡ handed_on var
  pub left : d ≡ record c { vars = replace c.vars (spent var) }

-- the value of a use that leaves the variable; a classical one that is handed on is a copy
pub record Copied (need : Need) (c : Context) (t : Ty) (u : Value) (d : Context) : Type 0 where
  pub type : u.ty ≡ t
  pub new : is_consumed need ≡ true → (c.next ≤ u.place) × (u.origin ≡ Classical)
  pub vars : d.vars ≡ c.vars

-- the variable of this part is read
pub record ReadAt (sc : Scope) (need : Need) (c : Context) (q : Part) (u : Value) (d : Context) : Type 0 where
  pub var : Var
  pub found : find_var c.vars q ≡ Some var
  pub live : var.consumed ≡ false
  pub still : is_moved need var.ty ≡ false
  pub clear : disturbs c.vars q ≡ false
  pub copied : Copied need c var.ty u d

-- or the part of a variable
pub record ReadPart (need : Need) (c : Context) (x : NameId) (q : Part) (u : Value) (d : Context) : Type 0 where
  pub none : find_var c.vars q ≡ None
  pub owner : Var
  pub found : find_var c.vars (variable x) ≡ Some owner
  pub live : owner.consumed ≡ false
  pub ty : Ty
  pub kind : part_type owner.ty.classical owner.ty.shape (indices q) ≡ Some ty
  pub still : is_moved need owner.ty ≡ false
  pub clear : disturbs c.vars q ≡ false
  pub copied : Copied need c ty u d

abbrev pub Taken : Scope → Need → Context → NameId → Part → Value → Context → Type 0
Taken sc need c x q u d = MovedAt sc need c q u d ⊎ (ReadAt sc need c q u d ⊎ ReadPart need c x q u d)

pub record PlaceTaken (sc : Scope) (need : Need) (c : Context) (w : Place) (u : Value) (d : Context) : Type 0 where
  pub values : List ℤ
  pub known : index_values sc.statics (place_indices w) ≡ Some values
  pub mean : static_values (place_indices w) sc.statics ≡ values
  pub taken : Taken sc need c (place_name w) (part_at (place_name w) values) u d

-- without its value
abbrev pub used_so : (sc : Scope) (need : Need) (c : Context) (x : NameId) (q : Part) (u : Value) (d : Context) → Taken sc need c x q u d → Used sc need c x q d
used_so sc need c x q u d (inl m) =
    inl (record { var = m.var; found = m.found; live = m.live; unheld = λ k. m.unheld; loose = λ k. m.loose; clear = m.clear; left = inl (m.moved, ap (λ (b : Context). b.vars) m.left) })
used_so sc need c x q u d (inr (inl m)) =
    inl (record { var = m.var; found = m.found; live = m.live; unheld = λ k. clash (sym k ∙ m.still); loose = λ k. clash (sym k ∙ m.still); clear = m.clear; left = inr m.copied.vars })
used_so sc need c x q u d (inr (inr m)) =
    inr (record { none = m.none; owner = m.owner; found = m.found; live = m.live; ty = m.ty; kind = m.kind; clear = m.clear; unmoved = m.still; left = m.copied.vars })

and_false : (a b : Bool) → (a && b) ≡ false → a ≡ true → b ≡ false
and_false true b e h = e
and_false false b e h = clash (sym h)

module _ (S : InstanceKey → Signature → Type 0) (c : Context) (sc : Scope) where
  o_copied : (need : Need) (t : Ty) (v : Var) → Ensures S (λ d. d ≡ c) (unmoved need t v) (λ u d. Copied need c t u d)
  unfolding ◌>>=◌
  o_copied needs.Held t v = o_back S 0 _ (λ d e. record { type = refl; new = λ q. clash (sym q); vars = ap (λ (b : Context). b.vars) e })
  o_copied needs.Consumed t v = record { runs = λ d e. record { type = refl; new = λ q. (let a = ap (λ (b : Context). b.next) e in omega (arith, a), refl); vars = ap (λ (b : Context). b.vars) e } }

  o_taken : (s : Spot) (need : Need) (x : NameId) (q : Part) (vars : List Var) (o w : Option Var) → vars ≡ c.vars → find_var vars q ≡ o → find_var vars (variable x) ≡ w → Ensures S (λ d. d ≡ c) (use_found sc s need q vars o w) (λ u d. Taken sc need c x q u d)
  o_taken s need x q vars (Some v) w same f g =
      o_then S 0 (o_rules S 0 s _) (λ u. o_if S 0 (is_moved need v.ty)
      (λ m. record {
        runs = λ d h. inl (record {
          var = v;
          found = ap (λ l. find_var l q) (sym same) ∙ f;
          live = h.0.0;
          moved = m;
          unheld = and_false (is_moved need v.ty) (is_held v.origin) h.0.1.0 m;
          loose = and_false (is_moved need v.ty) (is_in_condition sc.held q) h.0.1.1.0 m;
          clear = ap (λ l. disturbs l q) (sym same) ∙ h.0.1.1.1.0;
          value = refl;
          left = ap (λ (b : Context). record b { vars = replace b.vars (spent v) }) h.1;
        });
      })
      (λ m. record {
        runs = λ d h. (o_more S 0 (o_copied need v.ty v) (λ u e k. inr (inl (record {
          var = v;
          found = ap (λ l. find_var l q) (sym same) ∙ f;
          live = h.0.0;
          still = m;
          clear = ap (λ l. disturbs l q) (sym same) ∙ h.0.1.1.1.0;
          copied = k;
        })))).runs d h.1;
      }))
  o_taken s need x q vars None (Some w) same f g = by_type (part_type w.ty.classical w.ty.shape (indices q)) refl
    where
      by_type : (t : Option Ty) → part_type w.ty.classical w.ty.shape (indices q) ≡ t → Ensures S (λ d. d ≡ c) (use_part sc s need q w vars t) (λ u d. Taken sc need c x q u d)
      by_type None k = o_then S 0 (o_rules S 0 s _) (λ u. o_fail S 0 _)
      by_type (Some t) k =
          o_then S 0 (o_rules S 0 s _) (λ u. record {
            runs = λ d h. (o_more S 0 (o_copied need t w) (λ u e i. inr (inr (record {
              none = ap (λ l. find_var l q) (sym same) ∙ f;
              owner = w;
              found = ap (λ l. find_var l (variable x)) (sym same) ∙ g;
              live = h.0.0;
              ty = t;
              kind = k;
              still = or_right (disturbs vars q) (is_moved need w.ty) h.0.1.1.1.0;
              clear = ap (λ l. disturbs l q) (sym same) ∙ or_left (disturbs vars q) (is_moved need w.ty) h.0.1.1.1.0;
              copied = i;
            })))).runs d h.1;
          })
  o_taken s need x q vars None None same f g = o_fail S 0 _

  o_place : (w : Place) (s : Spot) (need : Need) → Ensures S (λ d. d ≡ c) (use_place sc w s need) (λ u d. PlaceTaken sc need c w u d)
  o_place w s need =
      o_bind S 0 (indices_are S 0 (place_indices w) sc) (λ zs. o_bind S 0 (o_variables S 0) (λ vars.
      o_then S 0 {n = use_found sc s need (part_at (place_name w) zs) vars (find_var vars (part_at (place_name w) zs)) (find_var vars (variable (place_name w)))} (o_rules S 0 s _) (λ u.
      record {
        runs = λ d h.
            (o_more S 0 (o_taken s need (place_name w) (part_at (place_name w) zs) vars (find_var vars (part_at (place_name w) zs)) (find_var vars (variable (place_name w))) (h.1.0 ∙ ap (λ (b : Context). b.vars) h.1.1.1) refl refl)
            (λ v e k. record { values = zs; known = h.1.1.0.0; mean = h.1.1.0.1; taken = k })).runs d h.1.1.1;
      })))

  -- the walk of a place as an expression
  pub o_place_value : (w : Place) (s : Spot) (need : Need) → Ensures S (λ d. d ≡ c) (use_place sc w s need >>= (λ v. give_back (v ∷ []))) (λ vs d. (u : Value) × (vs ≡ u ∷ []) × PlaceTaken sc need c w u d)
  o_place_value w s need = o_bind S 0 (o_place w s need) (λ u. o_back S 0 (u ∷ []) (λ d h. (u, refl, h)))
