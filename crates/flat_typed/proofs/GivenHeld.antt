-- The const parameters of an entry are given behind its results.
use Rattle.std.proofs.Common.{◌≡◌, ℕ, suc, ◌+◌, Bool, true, false, cond, ◌||◌, List, [], ◌∷◌, length, map, refl, sym, ap, ◌∙◌, subst, arith}
use Rattle.std.proofs.lemmas.List.{length-map}
use Rattle.silq_tree.specs.declared.node.NameId.{NameId}
use Rattle.silq_tree.specs.Syntax.{Parameter, Function}
use Rattle.silq_types.specs.declared.need.Need.TheVariants as needs
use Rattle.silq_types.specs.declared.signature.Param.{Param}
use Rattle.silq_types.specs.declared.values.Origin.TheVariants.{Held, Linear, Classical}
use Rattle.silq_types.specs.declared.values.Var.{Var}
use Rattle.silq_types.specs.Types.{Statics, same_name, shape_bits, is_held}
use Rattle.silq_types.specs.Calls.{is_consumed, param_is_held}
use Rattle.silq_mean.specs.Env.{Block, Env, is_in_block, in_block, found, block_with, in_its_block}
use Rattle.silq_mean.specs.Effect.{Effect, ◌>>◌, step, give_part}
use Rattle.silq_mean.specs.Meaning.{param_of, give_held}
use Rattle.check_fun.specs.Program.{param_vars}
use Rattle.flat_core.specs.declared.step.WireId.{WireId}
use Rattle.bit_arith.specs.Built.{Built, made, wires_from}
use Rattle.bit_arith.proofs.Making.{length-from}
use Rattle.flat_form.specs.declared.known.Known.{Known}
use Rattle.flat_form.specs.declared.known.Known.TheVariants.{Shown, Absent}
use Rattle.flat_form.specs.declared.known.TypedBits.{TypedBits}
use Rattle.flat_form.specs.State.{Flattening, wires_so_far, operands_of, are_wires}
use Rattle.flat_form.specs.Flat.{flat, known_in, inputs, input_wires, use_part, after_use}
use Rattle.flat_form.specs.Fine.{Fine, IsOf, MayUse, FitsIndex}
use Rattle.flat_form.specs.Names.{AllOf}
use Rattle.flat_form.proofs.Giving.{wires_made}
use Rattle.flat_typed.specs.Places.{Places, bits_for, times_in}
use Rattle.flat_typed.specs.Calls.{named_times}
use Rattle.flat_typed.proofs.Ordered.{clash}
use Rattle.flat_typed.proofs.Moving.{start_none, whole_of}
use Rattle.flat_typed.proofs.Inside.{fits_none}
use Rattle.flat_typed.proofs.Parameters.{AtFrom, param_var}
use Rattle.flat_typed.proofs.EntryBegins.{param_shapes, held_times}
use Rattle.flat_typed.proofs.EntryParams.{AllMatch}

-- ---- a use that leaves what a name shows leaves the environment

block_same : {A : Type 0} (other : A) (b : Block A) (x : NameId) → is_in_block b x ≡ true → block_with b x (in_block other b x) ≡ b
block_same other [] x e = clash (sym e)
block_same other (v ∷ vs) x e = go (same_name v.0 x) e (block_same other vs x)
  where
    go : (t : Bool) → (t || is_in_block vs x) ≡ true → (is_in_block vs x ≡ true → block_with vs x (in_block other vs x) ≡ vs)
        → cond t ((v.0, cond t v.1 (in_block other vs x)) ∷ vs) (v ∷ block_with vs x (cond t v.1 (in_block other vs x))) ≡ v ∷ vs
    go true e i = refl
    go false e i = ap (λ l. v ∷ l) (i e)

env_same : {A : Type 0} (other : A) (env : Env A) (x : NameId) → in_its_block env x (found other env x) ≡ env
env_same other [] x = refl
env_same other (b ∷ bs) x = go (is_in_block b x) refl (env_same other bs x)
  where
    go : (t : Bool) → is_in_block b x ≡ t → in_its_block bs x (found other bs x) ≡ bs
        → cond t (block_with b x (cond t (in_block other b x) (found other bs x)) ∷ bs) (b ∷ in_its_block bs x (cond t (in_block other b x) (found other bs x))) ≡ b ∷ bs
    go true e i = ap (λ l. l ∷ bs) (block_same other b x e)
    go false e i = ap (λ l. b ∷ l) i

-- ---- what places show

-- an operand for each bit, all of them wires
abbrev pub AllSized : Places → ℕ → List Param → Type 0
AllSized W i [] = Unit {0}
AllSized W i (p ∷ ps) = ((length (W i) ≡ shape_bits p.ty.shape) × (are_wires (W i) ≡ true)) × AllSized W (suc i) ps

pub inputs_sized : (W : Places) (i : ℕ) (ps : List Param) (b : Built) → AtFrom i W (inputs (param_shapes ps) b).answer → AllSized W i ps
inputs_sized W i [] b a = tt
inputs_sized W i (p ∷ ps) b a = (
  (
    ap length a.0 ∙ (length-map (wires_from (length b.draft.wires) (shape_bits p.ty.shape)) made ∙ length-from (length b.draft.wires) (shape_bits p.ty.shape)),
    ap are_wires a.0 ∙ wires_made (wires_from (length b.draft.wires) (shape_bits p.ty.shape)),
  ),
  inputs_sized W (suc i) ps (input_wires (shape_bits p.ty.shape) b) a.1,
)

-- ---- the const parameters in turn

abbrev pub ConstsIn : Places → Flattening → List Var → Type 0
ConstsIn W u vars = AllOf (λ (v : Var). is_held v.origin ≡ true → known_in u v.part.name ≡ Shown (bits_for W v)) vars

abbrev pub AreWires : Known → Type 0
AreWires k = IsOf (λ v. are_wires v.operands ≡ true) k

pub record GivesHeld (e : Effect) (ps : List Param) (ks : List Known) (u : Flattening) : Type 0 where
  pub fine : Fine e u
  pub built : (flat e u).built ≡ u.built
  pub times : (w : WireId) → named_times (flat e u).values w ≡ held_times ps ks w + named_times u.values w
  pub wires : AllOf AreWires u.values → AllOf AreWires (flat e u).values

module _ (f : Function) (statics : Statics) (W : Places) where
  held_all : (i : ℕ) (ns : List Parameter) (ps : List Param) (u x : Flattening) → x.env ≡ u.env → ConstsIn W u (param_vars i ns ps) → ConstsIn W x (param_vars i ns ps)
  held_all i [] ps u x e h = tt
  held_all i (n ∷ ns) [] u x e h = tt
  held_all i (n ∷ ns) (p ∷ ps) u x e h = ((λ q. ap (λ env. found Absent env n.name) e ∙ h.0 q), held_all (suc i) ns ps u x e h.1)

  pub gives_held : (i : ℕ) (ns : List Parameter) (ps : List Param) (ks : List Known) (u : Flattening) → AllMatch f statics ns ps → length ps ≡ length ks → AtFrom i W ks → AllSized W i ps → ConstsIn W u (param_vars i ns ps)
      → GivesHeld (give_held (map (param_of f statics) ns)) ps ks u
  gives_held i [] [] ks u m l a z h = record { fine = tt; built = refl; times = λ w. omega arith; wires = λ x. x }
  gives_held i [] (p ∷ ps) ks u m l a z h = absurd m
  gives_held i (n ∷ ns) [] ks u m l a z h = absurd m
  gives_held i (n ∷ ns) (p ∷ ps) [] u m l a z h = absurd (omega (arith, l))
  gives_held i (n ∷ ns) (p ∷ ps) (k ∷ ks) u m l a z h =
      go (param_is_held f n) p.held m.0.held refl (λ x e. gives_held (suc i) ns ps ks x m.1 (omega (arith, l)) a.1 z.1 (held_all (suc i) ns ps u x e h.1))
    where
      rest : Effect
      rest = give_held (map (param_of f statics) ns)

      v : TypedBits
      v = bits_for W (param_var i n p)

      value : Known
      value = use_part (wires_so_far u) needs.Held [] (known_in u n.name)

      next : Flattening
      next = flat (step (give_part needs.Held n.name [])) u

      shows : p.held ≡ true → known_in u n.name ≡ Shown v
      shows q = h.0 (ap (λ b. is_held (cond b Held (cond p.ty.classical Classical Linear))) q)

      bits : p.held ≡ true → operands_of value ≡ W i
      bits q = ap (λ x. operands_of (use_part (wires_so_far u) needs.Held [] x)) (shows q) ∙ whole_of p.ty.shape (W i) z.0.0

      wired : p.held ≡ true → AreWires value
      wired q = subst (λ x. AreWires (use_part (wires_so_far u) needs.Held [] x)) (sym (shows q)) (ap are_wires (whole_of p.ty.shape (W i) z.0.0) ∙ z.0.1)

      leaves : p.held ≡ true → next.env ≡ u.env
      leaves q = ap (λ x. in_its_block u.env n.name (after_use needs.Held [] x)) (shows q) ∙ (ap (λ x. in_its_block u.env n.name x) (sym (shows q)) ∙ env_same Absent u.env n.name)

      may : p.held ≡ true → Fine (step (give_part needs.Held n.name [])) u
      may q =
          subst (λ x. MayUse [] x × FitsIndex [] x) (sym (shows q))
          (let b = start_none p.ty.shape in let c = z.0.0 in omega (arith, b, c), fits_none p.ty.shape)

      go : (g hd : Bool) → g ≡ hd → p.held ≡ hd → ((x : Flattening) → x.env ≡ u.env → GivesHeld rest ps ks x)
          → GivesHeld (cond (is_consumed (cond g needs.Held needs.Consumed)) rest (step (give_part needs.Held n.name []) >> rest)) (p ∷ ps) (k ∷ ks) u
      go true false e q ih = clash e
      go false true e q ih = clash (sym e)
      go false false e q ih =
          let r = ih u refl in
          record {
            fine = r.fine;
            built = r.built;
            times = λ w. let x = r.times w in let y : cond p.held (times_in w (operands_of k)) 0 ≡ 0 = ap (λ b. cond b (times_in w (operands_of k)) 0) q in omega (arith, x, y);
            wires = r.wires;
          }
      go true true e q ih =
          let r = ih next (leaves q) in
          record {
            fine = (may q, r.fine);
            built = r.built;
            times = λ w.
                let x = r.times w in
                let y : cond p.held (times_in w (operands_of k)) 0 ≡ times_in w (operands_of k) = ap (λ b. cond b (times_in w (operands_of k)) 0) q in
                let t : times_in w (operands_of value) ≡ times_in w (operands_of k) = ap (times_in w) (bits q ∙ a.0) in
                omega (arith, x, y, t);
            wires = λ x. r.wires (wired q, x);
          }
