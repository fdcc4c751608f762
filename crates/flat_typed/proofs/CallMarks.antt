-- Marks of a function and of one that it calls; places of parts, which expressions leave.
use Rattle.std.proofs.Common.{◌≡◌, ℕ, ◌<◌, Bool, true, false, not, ◌&&◌, List, [], ◌∷◌, refl, sym, subst}
use Rattle.silq_tree.specs.declared.node.Mark.{Mark}
use Rattle.silq_tree.specs.declared.node.Mark.TheVariants as marks
use Rattle.silq_types.specs.declared.types.Ty.{Ty}
use Rattle.silq_types.specs.declared.values.Part.{Part}
use Rattle.silq_types.specs.declared.values.Var.{Var}
use Rattle.silq_mean.specs.Written.{is_empty}
use Rattle.check_scope.specs.Context.{indices}
use Rattle.check_expr.specs.Expression.{may_call, is_unmarked, is_qfree}
use Rattle.flat_form.specs.Names.{AllOf}
use Rattle.flat_typed.specs.Places.{is_part}
use Rattle.flat_typed.specs.Done.{kinds}
use Rattle.flat_typed.proofs.Ordered.{clash}

-- ---- marks

pub calls_open : (m n : Mark) → may_call m n ≡ true → is_unmarked n ≡ true → is_unmarked m ≡ true
calls_open marks.Plain n a u = refl
calls_open marks.Mfree marks.Plain a u = clash (sym a)
calls_open marks.Mfree marks.Mfree a u = clash (sym u)
calls_open marks.Mfree marks.Qfree a u = clash (sym u)
calls_open marks.Mfree marks.Lifted a u = clash (sym u)
calls_open marks.Qfree marks.Plain a u = clash (sym a)
calls_open marks.Qfree marks.Mfree a u = clash (sym u)
calls_open marks.Qfree marks.Qfree a u = clash (sym u)
calls_open marks.Qfree marks.Lifted a u = clash (sym u)
calls_open marks.Lifted marks.Plain a u = clash (sym a)
calls_open marks.Lifted marks.Mfree a u = clash (sym u)
calls_open marks.Lifted marks.Qfree a u = clash (sym u)
calls_open marks.Lifted marks.Lifted a u = clash (sym u)

pub calls_plain : (m n : Mark) → may_call m n ≡ true → is_qfree m ≡ true → is_qfree n ≡ true
calls_plain marks.Plain n a u = clash (sym u)
calls_plain marks.Mfree n a u = clash (sym u)
calls_plain marks.Qfree n a u = a
calls_plain marks.Lifted n a u = a

pub and_left : (a b : Bool) → (a && b) ≡ false → a ≡ true → b ≡ false
and_left true b e h = e
and_left false b e h = clash (sym h)

-- ---- places of parts, which expressions leave

abbrev PartBefore : ℕ → Part × (Ty × ℕ) → Type 0
PartBefore n k = not (is_empty (indices k.0)) ≡ true → k.1.1 < n

pub placed_kinds : (n : ℕ) (vs ws : List Var) → kinds ws ≡ kinds vs → AllOf (λ v. is_part v ≡ true → v.place < n) vs → AllOf (λ v. is_part v ≡ true → v.place < n) ws
placed_kinds n vs ws e h = back ws (subst (AllOf (PartBefore n)) (sym e) (there vs h))
  where
    there : (us : List Var) → AllOf (λ v. is_part v ≡ true → v.place < n) us → AllOf (PartBefore n) (kinds us)
    there [] q = tt
    there (u ∷ us) q = (q.0, there us q.1)

    back : (us : List Var) → AllOf (PartBefore n) (kinds us) → AllOf (λ v. is_part v ≡ true → v.place < n) us
    back [] q = tt
    back (u ∷ us) q = (q.0, back us q.1)
