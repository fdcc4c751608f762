-- The walk of a branch: what it tells of the variables that stand outside it.
use Rattle.std.proofs.Common.{◌≡◌, Bool, true, false, not, ◌&&◌, ◌||◌, List, [], ◌∷◌, length, refl, sym, ap, ap₂, ◌∙◌, subst}
use Rattle.std.specs.Prelude.{◌==◌}
use Rattle.std.proofs.lemmas.Bool.{eqb-true}
use Rattle.silq_tree.specs.declared.node.Spot.{Spot}
use Rattle.silq_types.specs.declared.types.Ty.{Ty}
use Rattle.silq_types.specs.declared.signature.InstanceKey.{InstanceKey}
use Rattle.silq_types.specs.declared.signature.Signature.{Signature}
use Rattle.silq_types.specs.declared.values.Var.{Var}
use Rattle.silq_types.specs.Types.{bool_eq, shape_eq, ty_eq}
use Rattle.check_scope.specs.Context.{Context, Check, ◌>>=◌, ◌>>◌}
use Rattle.check_expr.specs.Owners.{Gives, Ensures}
use Rattle.check_expr.proofs.Owners.{gives-bind, gives-more, o_then, o_from, o_more, o_back, o_rules}
use Rattle.check_fun.specs.Statement.{is_changed, none_changed, end_from, branch}
use Rattle.flat_typed.proofs.Ordered.{clash, or_left, or_right}
use Rattle.flat_typed.proofs.Blocks.{ClosedFrom, closed_from}
use Rattle.flat_typed.proofs.Changing.{same_shape}

-- the second variable is live where the first is, with its type and place
pub record Unchanged (before after : Var) : Type 0 where
  pub live : before.consumed ≡ false → after.consumed ≡ false
  pub ty : before.ty ≡ after.ty
  pub place : before.place ≡ after.place

-- as far as both lists go
abbrev pub AllUnchanged : List Var → List Var → Type 0
AllUnchanged (b ∷ bs) (a ∷ rest) = Unchanged b a × AllUnchanged bs rest
AllUnchanged bs rest = Unit {0}

truly : (b : Bool) → not b ≡ false → b ≡ true
truly true e = refl
truly false e = clash e

both_true : (a b : Bool) → (a && b) ≡ true → (a ≡ true) × (b ≡ true)
both_true true b e = (refl, e)
both_true false b e = clash (sym e)

same_bool : (a b : Bool) → bool_eq a b ≡ true → a ≡ b
same_bool true b e = sym e
same_bool false true e = clash (sym e)
same_bool false false e = refl

pub same_type : (a b : Ty) → ty_eq a b ≡ true → a ≡ b
same_type a b e =
    let q = both_true (bool_eq a.classical b.classical) (shape_eq a.shape b.shape) e in
    ap₂ (λ c s. record { classical = c; shape = s }) (same_bool a.classical b.classical q.0) (same_shape a.shape b.shape q.1)

pub unchanged : (b a : Var) → is_changed b a ≡ false → Unchanged b a
unchanged b a e = record {
  live = λ l. live a.consumed (ap (λ t. a.consumed && not t) (sym l) ∙ first);
  ty = same_type b.ty a.ty (truly (ty_eq b.ty a.ty) second);
  place = eqb-true b.place a.place (truly (b.place == a.place) third);
}
  where
    first : (a.consumed && not b.consumed) ≡ false
    first = or_left (a.consumed && not b.consumed) (not (ty_eq b.ty a.ty)) (or_left ((a.consumed && not b.consumed) || not (ty_eq b.ty a.ty)) (not (b.place == a.place)) e)

    second : not (ty_eq b.ty a.ty) ≡ false
    second = or_right (a.consumed && not b.consumed) (not (ty_eq b.ty a.ty)) (or_left ((a.consumed && not b.consumed) || not (ty_eq b.ty a.ty)) (not (b.place == a.place)) e)

    third : not (b.place == a.place) ≡ false
    third = or_right ((a.consumed && not b.consumed) || not (ty_eq b.ty a.ty)) (not (b.place == a.place)) e

    live : (t : Bool) → (t && true) ≡ false → t ≡ false
    live true z = z
    live false z = refl

-- what a branch leaves: the context behind its statements, and the one behind its block
pub record BranchLeft (Q : Context → Type 0) (c e : Context) : Type 0 where
  pub inner : Context
  pub is : Q inner
  pub unchanged : AllUnchanged c.vars inner.vars
  pub closed : ClosedFrom (length c.vars) inner e

module _ (S : InstanceKey → Signature → Type 0) where
  none_changed_tells : {P : Context → Type 0} (bs vs : List Var) (s : Spot) → Ensures S P (none_changed bs vs s) (λ u d. AllUnchanged bs vs × P d)
  none_changed_tells [] vs s = o_back S 0 tt (λ d h. (tt, h))
  none_changed_tells (b ∷ bs) [] s = o_back S 0 tt (λ d h. (tt, h))
  none_changed_tells {P = P} (b ∷ bs) (a ∷ vs) s =
      o_then S 0 (o_rules S 0 s _) (λ u.
      o_more S 0 (o_from S 0 (λ d h. (h.0.0, h.1)) (none_changed_tells {P = λ d. (is_changed b a ≡ false) × P d} bs vs s)) (λ u' d h. ((unchanged b a h.1.0, h.0), h.1.1)))

  pub branch_tells : (Q : Context → Type 0) (inner : Check (Unit {0})) (s : Spot) (c : Context) → Gives S (λ r. Q r.1) (inner c) → Gives S (λ r. BranchLeft Q c r.1) (branch inner s c)
  unfolding ◌>>=◌ ◌>>◌
  branch_tells Q inner s c h =
      gives-bind S 0 (λ r. Q r.1) (λ r. BranchLeft Q c r.1) (inner c) (λ r. (none_changed c.vars r.1.vars s >> end_from (length c.vars) s) r.1) h
      (λ r q. (o_then S 0 {P = λ x. x ≡ r.1} {Q = λ u x. AllUnchanged c.vars r.1.vars × (x ≡ r.1)} {R = λ u x. BranchLeft Q c x} (none_changed_tells {P = λ x. x ≡ r.1} c.vars r.1.vars s)
      (λ u. record {
        runs = λ x k.
            subst (λ y. Gives S (λ z. BranchLeft Q c z.1) (end_from (length c.vars) s y)) (sym k.1)
            (gives-more S 0 (λ z. ClosedFrom (length c.vars) r.1 z.1) (λ z. BranchLeft Q c z.1) (end_from (length c.vars) s r.1) (closed_from S 0 (length c.vars) s r.1)
            (λ z i. record { inner = r.1; is = q; unchanged = k.0; closed = i }));
      })).runs r.1 refl)
