-- The use of a place whose walk answers: the part that it names is there.
use Rattle.std.proofs.Common.{◌≡◌, ◌⊎◌, inl, inr, ℕ, Bool, true, false, cond, ◌&&◌, List, [], ◌∷◌, refl, sym, ap, ◌∙◌, arith}
use Rattle.std.specs.Prelude.{Option, Some, None, ℤ}
use Rattle.silq_tree.specs.declared.node.NameId.{NameId}
use Rattle.silq_tree.specs.declared.node.Spot.{Spot}
use Rattle.silq_tree.specs.Syntax.{Place}
use Rattle.silq_types.specs.declared.types.Scalar.{Scalar}
use Rattle.silq_types.specs.declared.types.Scalar.TheVariants as scalars
use Rattle.silq_types.specs.declared.types.Shape.{Shape}
use Rattle.silq_types.specs.declared.types.Shape.TheVariants.{Bit, UInt, Int, Array}
use Rattle.silq_types.specs.declared.types.Ty.{Ty}
use Rattle.silq_types.specs.declared.signature.InstanceKey.{InstanceKey}
use Rattle.silq_types.specs.declared.signature.Signature.{Signature}
use Rattle.silq_types.specs.declared.values.Part.{Part}
use Rattle.silq_types.specs.declared.values.Var.{Var}
use Rattle.silq_types.specs.Types.{place_name, place_indices, is_held}
use Rattle.silq_types.specs.declared.need.Need.{Need}
use Rattle.silq_types.specs.declared.need.Need.TheVariants as needs
use Rattle.silq_mean.specs.Meaning.{static_values}
use Rattle.check_scope.specs.Context.{Scope, Context, ◌>>=◌, indices, part_at, variable, is_below, typed_as, scalar_part, part_type, is_in_condition, find_var, replace}
use Rattle.check_scope.specs.Places.{disturbs, is_moved, unmoved, use_part, use_found, use_place}
use Rattle.check_scope.specs.Uses.{index_values}
use Rattle.check_expr.specs.Owners.{Ensures}
use Rattle.check_expr.proofs.Owners.{o_bind, o_then, o_more, o_back, o_fail, o_if, o_rules, o_variables}
use Rattle.flat_typed.proofs.Ordered.{clash, or_left, or_right}
use Rattle.flat_typed.proofs.Parts.{some_same}
use Rattle.flat_typed.proofs.Moving.{spent}
use Rattle.flat_typed.proofs.Scopes.{indices_are}

-- ---- what the walk tells

-- the variable of this part is moved, or left as it was
pub record UsedWhole (sc : Scope) (need : Need) (c : Context) (q : Part) (d : Context) : Type 0 where
  pub var : Var
  pub found : find_var c.vars q ≡ Some var
  pub live : var.consumed ≡ false
  pub unheld : is_moved need var.ty ≡ true → is_held var.origin ≡ false
  pub loose : is_moved need var.ty ≡ true → is_in_condition sc.held q ≡ false
  pub clear : disturbs c.vars q ≡ false
  pub left : ((is_moved need var.ty ≡ true) × (d.vars ≡ replace c.vars (spent var))) ⊎ (d.vars ≡ c.vars)

-- a part that is no variable of its own is read, and its variable left
pub record UsedPart (need : Need) (c : Context) (x : NameId) (q : Part) (d : Context) : Type 0 where
  pub none : find_var c.vars q ≡ None
  pub owner : Var
  pub found : find_var c.vars (variable x) ≡ Some owner
  pub live : owner.consumed ≡ false
  pub ty : Ty
  pub kind : part_type owner.ty.classical owner.ty.shape (indices q) ≡ Some ty
  pub clear : disturbs c.vars q ≡ false
  pub unmoved : is_moved need owner.ty ≡ false
  pub left : d.vars ≡ c.vars

abbrev pub Used : Scope → Need → Context → NameId → Part → Context → Type 0
Used sc need c x q d = UsedWhole sc need c q d ⊎ UsedPart need c x q d

-- the index values, and the part that they lead to
pub record PlaceUsed (sc : Scope) (need : Need) (c : Context) (w : Place) (d : Context) : Type 0 where
  pub values : List ℤ
  pub known : index_values sc.statics (place_indices w) ≡ Some values
  pub mean : static_values (place_indices w) sc.statics ≡ values
  pub used : Used sc need c (place_name w) (part_at (place_name w) values) d

and_false : (a b : Bool) → (a && b) ≡ false → a ≡ true → b ≡ false
and_false true b e h = e
and_false false b e h = clash (sym h)

module _ (S : InstanceKey → Signature → Type 0) (low : ℕ) (c : Context) (sc : Scope) where
  -- a use that leaves the variable leaves all variables
  o_left : (need : Need) (t : Ty) (v : Var) (Q : Context → Type 0) → ((d e : Context) → d ≡ c → e.vars ≡ d.vars → Q e) → Ensures S (λ d. d ≡ c) (unmoved need t v) (λ x. Q)
  unfolding ◌>>=◌
  o_left needs.Held t v Q h = o_back S low _ (λ d e. h d d e refl)
  o_left needs.Consumed t v Q h = record { runs = λ d e. h d _ e refl }

  o_used : (s : Spot) (need : Need) (x : NameId) (q : Part) (vars : List Var) (o w : Option Var) → vars ≡ c.vars → find_var vars q ≡ o → find_var vars (variable x) ≡ w → Ensures S (λ d. d ≡ c) (use_found sc s need q vars o w) (λ v. Used sc need c x q)
  o_used s need x q vars (Some v) w same f g =
      o_then S low (o_rules S low s _) (λ u. o_if S low (is_moved need v.ty)
      (λ m. record {
        runs = λ d h. inl (record {
          var = v;
          found = ap (λ l. find_var l q) (sym same) ∙ f;
          live = h.0.0;
          unheld = λ k. and_false (is_moved need v.ty) (is_held v.origin) h.0.1.0 k;
          loose = λ k. and_false (is_moved need v.ty) (is_in_condition sc.held q) h.0.1.1.0 k;
          clear = ap (λ l. disturbs l q) (sym same) ∙ h.0.1.1.1.0;
          left = inl (m, ap (λ (b : Context). replace b.vars (spent v)) h.1);
        });
      })
      (λ m. record {
        runs = λ d h. (o_left need v.ty v (Used sc need c x q) (λ a e k l. inl (record {
          var = v;
          found = ap (λ l. find_var l q) (sym same) ∙ f;
          live = h.0.0;
          unheld = λ k. and_false (is_moved need v.ty) (is_held v.origin) h.0.1.0 k;
          loose = λ k. and_false (is_moved need v.ty) (is_in_condition sc.held q) h.0.1.1.0 k;
          clear = ap (λ l. disturbs l q) (sym same) ∙ h.0.1.1.1.0;
          left = inr (l ∙ ap (λ (b : Context). b.vars) k);
        }))).runs d h.1;
      }))
  o_used s need x q vars None (Some w) same f g = by_type (part_type w.ty.classical w.ty.shape (indices q)) refl
    where
      by_type : (t : Option Ty) → part_type w.ty.classical w.ty.shape (indices q) ≡ t → Ensures S (λ d. d ≡ c) (use_part sc s need q w vars t) (λ v. Used sc need c x q)
      by_type None k = o_then S low (o_rules S low s _) (λ u. o_fail S low _)
      by_type (Some t) k =
          o_then S low (o_rules S low s _) (λ u. record {
            runs = λ d h. (o_left need t w (Used sc need c x q) (λ a e i l. inr (record {
              none = ap (λ l. find_var l q) (sym same) ∙ f;
              owner = w;
              found = ap (λ l. find_var l (variable x)) (sym same) ∙ g;
              live = h.0.0;
              ty = t;
              kind = k;
              clear = ap (λ l. disturbs l q) (sym same) ∙ or_left (disturbs vars q) (is_moved need w.ty) h.0.1.1.1.0;
              unmoved = or_right (disturbs vars q) (is_moved need w.ty) h.0.1.1.1.0;
              left = l ∙ ap (λ (b : Context). b.vars) i;
            }))).runs d h.1;
          })
  o_used s need x q vars None None same f g = o_fail S low _

  pub o_place : (w : Place) (s : Spot) (need : Need) → Ensures S (λ d. d ≡ c) (use_place sc w s need) (λ v. PlaceUsed sc need c w)
  o_place w s need =
      o_bind S low (indices_are S low (place_indices w) sc) (λ zs. o_bind S low (o_variables S low) (λ vars.
      o_then S low {n = use_found sc s need (part_at (place_name w) zs) vars (find_var vars (part_at (place_name w) zs)) (find_var vars (variable (place_name w)))} (o_rules S low s _) (λ u.
      record {
        runs = λ d h.
            (o_more S low (o_used s need (place_name w) (part_at (place_name w) zs) vars (find_var vars (part_at (place_name w) zs)) (find_var vars (variable (place_name w))) (h.1.0 ∙ ap (λ (b : Context). b.vars) h.1.1.1) refl refl)
            (λ v e k. record { values = zs; known = h.1.1.0.0; mean = h.1.1.0.1; used = k })).runs d h.1.1.1;
      })))

-- ---- parts of types

same_class : (c : Bool) (s : Shape) (t : Ty) → ◌≡◌ {A = Option Ty} (Some (record { classical = c; shape = s })) (Some t) → t.classical ≡ c
same_class c s t e = ap (λ (u : Ty). u.classical) (sym (some_same (record { classical = c; shape = s }) t e))

typed_class : (c : Bool) (s : Shape) (is : List ℤ) (t : Ty) → typed_as c s is ≡ Some t → t.classical ≡ c
typed_class c s [] t e = same_class c s t e
typed_class c s (i ∷ is) t e = absurd (grind (arith, e))

below_class : (b : Bool) (c : Bool) (o : Option Ty) (t : Ty) → (o ≡ Some t → t.classical ≡ c) → cond b o None ≡ Some t → t.classical ≡ c
below_class true c o t h e = h e
below_class false c o t h e = absurd (grind (arith, e))

scalar_class : (c : Bool) (k : Scalar) (is : List ℤ) (t : Ty) → scalar_part c k is ≡ Some t → t.classical ≡ c
scalar_class c k [] t e = same_class c _ t e
scalar_class c scalars.Bit (i ∷ is) t e = absurd (grind (arith, e))
scalar_class c (scalars.UInt n) (i ∷ is) t e = below_class (is_below i n) c (typed_as c Bit is) t (typed_class c Bit is t) e
scalar_class c (scalars.Int n) (i ∷ is) t e = below_class (is_below i n) c (typed_as c Bit is) t (typed_class c Bit is t) e

-- a part is classical where the whole is
pub part_class : (c : Bool) (s : Shape) (is : List ℤ) (t : Ty) → part_type c s is ≡ Some t → t.classical ≡ c
part_class c s [] t e = same_class c s t e
part_class c Bit (i ∷ is) t e = absurd (grind (arith, e))
part_class c (UInt n) (i ∷ is) t e = below_class (is_below i n) c (typed_as c Bit is) t (typed_class c Bit is t) e
part_class c (Int n) (i ∷ is) t e = below_class (is_below i n) c (typed_as c Bit is) t (typed_class c Bit is t) e
part_class c (Array k n) (i ∷ is) t e = below_class (is_below i n) c (scalar_part c k is) t (scalar_class c k is t) e
