-- The types of a header, and what is known at the end of an entry, have bits.
use Rattle.std.proofs.Common.{◌≡◌, ◌≢◌, ℕ, zero, suc, ◌*◌, ◌<◌, ◌||◌, Bool, true, false, cond, List, [], ◌∷◌, ◌++◌, map, length, All, refl, ap, sym, ◌∙◌, subst}
use Rattle.std.proofs.Common.{arith, nat_lt, nat_le}
use Rattle.std.specs.Prelude.{Option, Some, None, Result, Ok, Err, ℤ, pos, negsuc, nat_abs, is_some}
use Rattle.std.proofs.lemmas.Bool.{ltb-true, and_parts}
use Rattle.std.proofs.lemmas.List.Elements.{All-nil, All-cons}
use Rattle.silq_tree.specs.declared.node.NameId.{NameId}
use Rattle.silq_tree.specs.declared.node.Spot.{Spot}
use Rattle.silq_tree.specs.declared.node.Mark.{Mark}
use Rattle.silq_tree.specs.Syntax.{ScalarType, bit, uint, int, WrittenType, Parameter, Function}
use Rattle.silq_types.specs.declared.types.Scalar.{Scalar}
use Rattle.silq_types.specs.declared.types.Scalar.TheVariants as scalars
use Rattle.silq_types.specs.declared.types.Shape.{Shape}
use Rattle.silq_types.specs.declared.types.Shape.TheVariants.{Array}
use Rattle.silq_types.specs.declared.types.Ty.{Ty}
use Rattle.silq_types.specs.declared.need.Need.TheVariants as needs
use Rattle.silq_types.specs.declared.signature.Param.{Param}
use Rattle.silq_types.specs.declared.signature.Returned.{Returned}
use Rattle.silq_types.specs.declared.values.Origin.TheVariants.{Held, Linear, Classical}
use Rattle.silq_types.specs.declared.values.Value.{Value}
use Rattle.silq_types.specs.Rules.{Fault, and_then}
use Rattle.silq_types.specs.Calls.{is_consumed, param_is_held}
use Rattle.silq_types.specs.Types.{Statics, single_shape, scalar_bits, shape_bits, is_held, is_lifted, same_name, first_unknown, scalar_names, size_names}
use Rattle.silq_mean.specs.Env.{Block, Env, is_in_block, in_block, found, block_with, in_its_block}
use Rattle.silq_mean.specs.Effect.{Effect, ◌>>◌, step, give_part}
use Rattle.silq_mean.specs.Meaning.{param_of, give_held}
use Rattle.silq_mean.specs.Written.{is_count, most_bits, most_items, width_of, length_of, scalar_by, shape_by, all_known, moved_to, value_of, is_classical}
use Rattle.silq_mean.specs.Written.{header_type, param_types, result_types, written_scalar, written_size, written_at, Where}
use Rattle.check_fun.specs.Program.{param_vars, returned_as}
use Rattle.bit_arith.specs.declared.operand.Operand.{Operand}
use Rattle.bit_arith.specs.declared.operand.Operand.TheVariants.{Const, Literal}
use Rattle.flat_core.specs.declared.step.WireId.{WireId}
use Rattle.flat_form.specs.declared.known.Known.{Known}
use Rattle.flat_form.specs.declared.known.Known.TheVariants.{Static, Shown, Lent, Absent}
use Rattle.flat_form.specs.State.{Flattening, wires_so_far, operands_of, are_wires, wires_in}
use Rattle.flat_form.specs.Fine.{IsOf}
use Rattle.flat_form.specs.Flat.{flat, known_in, use_part, after_use, wire_lists}
use Rattle.flat_form.specs.Good.{IsKnown}
use Rattle.flat_form.specs.Names.{AllOf}
use Rattle.flat_form.specs.Shows.{ListBoth}
use Rattle.flat_typed.specs.Places.{Places, bits_for}
use Rattle.flat_typed.specs.Calls.{IsResult}
use Rattle.flat_typed.proofs.Ordered.{clash}
use Rattle.flat_typed.proofs.Scopes.{then_ok, ok_same}
use Rattle.flat_typed.proofs.Parameters.{param_var}
use Rattle.flat_typed.proofs.EntryParams.{AllMatch}
use Rattle.flat_typed.proofs.GivenHeld.{ConstsIn, AreWires}

-- ---- types

some_count : (most : ℕ) (z : ℤ) → is_count most z ≡ true → 0 < nat_abs z
some_count most (pos n) e = ltb-true 0 n (and_parts (nat_lt 0 n) (nat_le n most) e).0
some_count most (negsuc n) e = absurd (let g : false ≡ true = e in cc g)

ok_then : {A : Type 0} (b : Bool) (a : A) (x : Fault) (r : A) → ◌≡◌ {A = Result A Fault} (cond b (Ok a) (Err x)) (Ok r) → (b ≡ true) × (a ≡ r)
ok_then true a x r e = (refl, ok_same a r e)
ok_then false a x r e = absurd (grind (arith, e))

scalar_has_bits : (k : ScalarType) (z : Option ℤ) (s : Spot) (x : Scalar) → scalar_by k z s ≡ Ok x → 0 < scalar_bits x
scalar_has_bits bit None s x q = subst (λ y. 0 < scalar_bits y) (ok_same scalars.Bit x q) (omega arith)
scalar_has_bits bit (Some z) s x q = subst (λ y. 0 < scalar_bits y) (ok_same scalars.Bit x q) (omega arith)
scalar_has_bits (uint e) None s x q = subst (λ y. 0 < scalar_bits y) (ok_same scalars.Bit x q) (omega arith)
scalar_has_bits (uint e) (Some z) s x q =
    let c = ok_then (is_count most_bits z) (scalars.UInt (nat_abs z)) _ x q in
    subst (λ y. 0 < scalar_bits y) c.1 (some_count most_bits z c.0)
scalar_has_bits (int e) None s x q = subst (λ y. 0 < scalar_bits y) (ok_same scalars.Bit x q) (omega arith)
scalar_has_bits (int e) (Some z) s x q =
    let c = ok_then (is_count most_bits z) (scalars.Int (nat_abs z)) _ x q in
    subst (λ y. 0 < scalar_bits y) c.1 (some_count most_bits z c.0)

some_product : (a b : ℕ) → 0 < a → 0 < b → 0 < a * b
some_product zero b l m = absurd (omega (arith, l))
some_product (suc a) zero l m = absurd (omega (arith, m))
some_product (suc a) (suc b) l m = omega arith

single_has_bits : (k : Scalar) → 0 < scalar_bits k → 0 < shape_bits (single_shape k)
single_has_bits scalars.Bit l = l
single_has_bits (scalars.UInt n) l = l
single_has_bits (scalars.Int n) l = l

shape_has_bits : (k : Scalar) (z : Option ℤ) (s : Spot) (x : Shape) → 0 < scalar_bits k → shape_by k z s ≡ Ok x → 0 < shape_bits x
shape_has_bits k None s x l q = subst (λ y. 0 < shape_bits y) (ok_same (single_shape k) x q) (single_has_bits k l)
shape_has_bits k (Some z) s x l q =
    let c = ok_then (is_count most_items z) (Array k (nat_abs z)) _ x q in
    subst (λ y. 0 < shape_bits y) c.1 (some_product (scalar_bits k) (nat_abs z) l (some_count most_items z c.0))

type_has_bits : (statics : Statics) (t : WrittenType) (s : Spot) (x : Ty) → header_type statics t s ≡ Ok x → 0 < shape_bits x.shape
type_has_bits statics t s x q =
    let a =
    then_ok
    (all_known (moved_to s (first_unknown (λ y. is_some (value_of statics y)) (scalar_names (written_scalar t) ++ size_names (written_size t)))))
    (λ u. widths) x q in
    let b = then_ok (width_of statics (written_scalar t) s) lengths x a.rest in
    let c = then_ok (length_of statics (written_size t) s) (scalars_by b.first) x b.rest in
    let d = then_ok (scalar_by (written_scalar t) b.first s) (shapes_by c.first) x c.rest in
    let e = then_ok (shape_by d.first c.first s) told x d.rest in
    subst (λ (y : Ty). 0 < shape_bits y.shape) (ok_same (record { classical = is_classical t; shape = e.first }) x e.rest)
    (shape_has_bits d.first c.first s e.first (scalar_has_bits (written_scalar t) b.first s d.first d.is) e.is)
  where
    told : Shape → Result Ty Fault
    told h = Ok (record { classical = is_classical t; shape = h })

    shapes_by : Option ℤ → Scalar → Result Ty Fault
    shapes_by n k = and_then (shape_by k n s) (λ h. Ok (record { classical = is_classical t; shape = h }))

    scalars_by : Option ℤ → Option ℤ → Result Ty Fault
    scalars_by w n = and_then (scalar_by (written_scalar t) w s) (λ k. and_then (shape_by k n s) (λ h. Ok (record { classical = is_classical t; shape = h })))

    lengths : Option ℤ → Result Ty Fault
    lengths w = and_then (length_of statics (written_size t) s) (λ n. scalars_by w n)

    widths : Result Ty Fault
    widths = and_then (width_of statics (written_scalar t) s) (λ w. lengths w)

abbrev pub ParamHasBits : Param → Type 0
ParamHasBits p = 0 < shape_bits p.ty.shape

abbrev pub TypeHasBits : Ty → Type 0
TypeHasBits t = 0 < shape_bits t.shape

pub params_have_bits : (statics : Statics) (m : Mark) (at : Where) (ps : List Parameter) (ts : List Param) → param_types statics m at ps ≡ Ok ts
    → AllOf ParamHasBits ts
params_have_bits statics m at [] ts q = subst (AllOf ParamHasBits) (ok_same [] ts q) tt
params_have_bits statics m at (p ∷ ps) ts q =
    let a =
    then_ok (header_type statics p.ty (at (written_at p.ty)))
    (λ t. and_then (param_types statics m at ps) (λ us. Ok (record { ty = t; held = p.held || is_lifted m } ∷ us))) ts q in
    let b = then_ok (param_types statics m at ps) (λ us. Ok (record { ty = a.first; held = p.held || is_lifted m } ∷ us)) ts a.rest in
    subst (AllOf ParamHasBits) (ok_same (record { ty = a.first; held = p.held || is_lifted m } ∷ b.first) ts b.rest)
    (type_has_bits statics p.ty (at (written_at p.ty)) a.first a.is, params_have_bits statics m at ps b.first b.is)

pub results_have_bits : (statics : Statics) (at : Where) (rs : List WrittenType) (ts : List Ty) → result_types statics at rs ≡ Ok ts → AllOf TypeHasBits ts
results_have_bits statics at [] ts q = subst (AllOf TypeHasBits) (ok_same [] ts q) tt
results_have_bits statics at (r ∷ rs) ts q =
    let a =
    then_ok (header_type statics r (at (written_at r))) (λ t. and_then (result_types statics at rs) (λ us. Ok (t ∷ us))) ts q in
    let b = then_ok (result_types statics at rs) (λ us. Ok (a.first ∷ us)) ts a.rest in
    subst (AllOf TypeHasBits) (ok_same (a.first ∷ b.first) ts b.rest)
    (type_has_bits statics r (at (written_at r)) a.first a.is, results_have_bits statics at rs b.first b.is)

-- ---- what is returned

abbrev pub ReturnHasBits : Returned → Type 0
ReturnHasBits r = 0 < shape_bits r.ty.shape

pub returned_have_bits : (ps : List Param) (ts : List Ty) (vs : List Value) → AllOf TypeHasBits ts → AllOf ReturnHasBits (returned_as ps ts vs)
returned_have_bits ps [] vs h = tt
returned_have_bits ps (t ∷ ts) [] h = tt
returned_have_bits ps (t ∷ ts) (v ∷ vs) h = (h.0, returned_have_bits ps ts vs h.1)

abbrev pub HasBits : Known → Type 0
HasBits k = IsOf (λ v. 0 < shape_bits v.shape) k

pub answers_have_bits : (n : ℕ) (W : Places) (rs : List Returned) (ks : List Known) → ListBoth (IsResult W n) rs ks → AllOf ReturnHasBits rs → AllOf HasBits ks
answers_have_bits n W [] [] r h = tt
answers_have_bits n W [] (k ∷ ks) r h = absurd r
answers_have_bits n W (x ∷ rs) [] r h = absurd r
answers_have_bits n W (x ∷ rs) (k ∷ ks) r h = (subst HasBits (sym r.0.shows) h.0, answers_have_bits n W rs ks r.1 h.1)

-- ---- the const parameters behind it

block_same : {A : Type 0} (other : A) (b : Block A) (x : NameId) → is_in_block b x ≡ true → block_with b x (in_block other b x) ≡ b
block_same other [] x e = clash (sym e)
block_same other (v ∷ vs) x e = go (same_name v.0 x) e (block_same other vs x)
  where
    go : (t : Bool) → (t || is_in_block vs x) ≡ true → (is_in_block vs x ≡ true → block_with vs x (in_block other vs x) ≡ vs)
        → cond t ((v.0, cond t v.1 (in_block other vs x)) ∷ vs) (v ∷ block_with vs x (cond t v.1 (in_block other vs x))) ≡ v ∷ vs
    go true e i = refl
    go false e i = ap (λ l. v ∷ l) (i e)

env_same : {A : Type 0} (other : A) (env : Env A) (x : NameId) → in_its_block env x (found other env x) ≡ env
env_same other [] x = refl
env_same other (b ∷ bs) x = go (is_in_block b x) refl (env_same other bs x)
  where
    go : (t : Bool) → is_in_block b x ≡ t → in_its_block bs x (found other bs x) ≡ bs
        → cond t (block_with b x (cond t (in_block other b x) (found other bs x)) ∷ bs) (b ∷ in_its_block bs x (cond t (in_block other b x) (found other bs x)))
        ≡ b ∷ bs
    go true e i = ap (λ l. l ∷ bs) (block_same other b x e)
    go false e i = ap (λ l. b ∷ l) i

module _ (f : Function) (statics : Statics) (W : Places) where
  consts_stay : (i : ℕ) (ns : List Parameter) (ps : List Param) (u x : Flattening) → x.env ≡ u.env → ConstsIn W u (param_vars i ns ps)
      → ConstsIn W x (param_vars i ns ps)
  consts_stay i [] ps u x e h = tt
  consts_stay i (n ∷ ns) [] u x e h = tt
  consts_stay i (n ∷ ns) (p ∷ ps) u x e h = ((λ q. ap (λ env. found Absent env n.name) e ∙ h.0 q), consts_stay (suc i) ns ps u x e h.1)

  pub consts_have_bits : (i : ℕ) (ns : List Parameter) (ps : List Param) (u : Flattening) → AllMatch f statics ns ps → ConstsIn W u (param_vars i ns ps)
      → AllOf ParamHasBits ps → AllOf HasBits u.values → AllOf HasBits (flat (give_held (map (param_of f statics) ns)) u).values
  consts_have_bits i [] [] u m h b k = k
  consts_have_bits i [] (p ∷ ps) u m h b k = absurd m
  consts_have_bits i (n ∷ ns) [] u m h b k = absurd m
  consts_have_bits i (n ∷ ns) (p ∷ ps) u m h b k =
      go (param_is_held f n) p.held m.0.held refl
      (λ x e v. consts_have_bits (suc i) ns ps x m.1 (consts_stay (suc i) ns ps u x e h.1) b.1 v)
    where
      rest : Effect
      rest = give_held (map (param_of f statics) ns)

      next : Flattening
      next = flat (step (give_part needs.Held n.name [])) u

      shows : p.held ≡ true → known_in u n.name ≡ Shown (bits_for W (param_var i n p))
      shows q = h.0 (ap (λ b. is_held (cond b Held (cond p.ty.classical Classical Linear))) q)

      given : p.held ≡ true → HasBits (use_part (wires_so_far u) needs.Held [] (known_in u n.name))
      given q = subst (λ x. HasBits (use_part (wires_so_far u) needs.Held [] x)) (sym (shows q)) b.0

      leaves : p.held ≡ true → next.env ≡ u.env
      leaves q =
          ap (λ x. in_its_block u.env n.name (after_use needs.Held [] x)) (shows q)
          ∙ (ap (λ x. in_its_block u.env n.name x) (sym (shows q)) ∙ env_same Absent u.env n.name)

      go : (g hd : Bool) → g ≡ hd → p.held ≡ hd → ((x : Flattening) → x.env ≡ u.env → AllOf HasBits x.values → AllOf HasBits (flat rest x).values)
          → AllOf HasBits (flat (cond (is_consumed (cond g needs.Held needs.Consumed)) rest (step (give_part needs.Held n.name []) >> rest)) u).values
      go true false e q ih = clash e
      go false true e q ih = clash (sym e)
      go false false e q ih = ih u refl k
      go true true e q ih = ih next (leaves q) (given q, k)

-- ---- lists of wires

some_wires : (ps : List Operand) → are_wires ps ≡ true → 0 < length ps → wires_in ps ≢ []
some_wires [] w l e = absurd (omega (arith, l))
some_wires (Const b ∷ ps) w l e = absurd (let g : false ≡ true = w in cc g)
some_wires (Literal l ∷ ps) w n e = let g : length (l.wire ∷ wires_in ps) ≡ length {A = WireId} [] = ap length e in absurd (omega (arith, g))

value_has_wires : (n : ℕ) (k : Known) → HasBits k → AreWires k → IsKnown n k → wires_in (operands_of k) ≢ []
value_has_wires n (Static z) b w s e = absurd b
value_has_wires n (Shown v) b w s e = some_wires v.operands w (subst (λ m. 0 < m) (sym s.size) b) e
value_has_wires n (Lent start size v) b w s e = absurd b
value_has_wires n Absent b w s e = absurd b

pub values_have_wires : (n : ℕ) (ks : List Known) → AllOf HasBits ks → AllOf AreWires ks → AllOf (IsKnown n) ks → All (λ ws. ws ≢ []) (wire_lists ks)
values_have_wires n [] b w s = All-nil (λ ws. ws ≢ [])
values_have_wires n (k ∷ ks) b w s =
    All-cons (λ ws. ws ≢ []) (wires_in (operands_of k)) (wire_lists ks) (value_has_wires n k b.0 w.0 s.0) (values_have_wires n ks b.1 w.1 s.1)
