-- What is known where a walk wants an instance.
use Rattle.std.specs.Prelude.{◌≡◌, refl, ℕ, ◌+◌, ◌<◌, ◌≤◌, max, List, [], ◌∷◌, ◌++◌, length, Option, Some, None, Result, Ok, Err, Bool, true, false, cond, nat_lt}
use mathlib.Core.Path.{sym, ap, ◌∙◌, subst}
use native.Mathlib.Omega.{arith}
use Rattle.silq_types.specs.Known.{Signatures, signature_of}
use Rattle.silq_types.specs.Rules.{and_then}
use Rattle.silq_types.specs.declared.signature.InstanceKey.{InstanceKey}
use Rattle.silq_types.specs.declared.signature.Signature.{Signature}
use Rattle.silq_tree.specs.declared.node.NameId.{NameId}
use Rattle.silq_tree.specs.Syntax.{Function}
use Rattle.silq_types.specs.declared.built_in.BuiltIn.{BuiltIn}
use Rattle.check_scope.specs.Walk.{Walk, answer, broken, counted, asked, Met, known, limited, new, meet, Stop, fault, wanted, known_or_stop, with_known, Counts, met_as, too_deep, most_instances}
use Rattle.silq_io.specs.declared.limit.LimitKind.TheVariants.{Depth, Instances}
use Rattle.std.proofs.lemmas.Bool.{ltb-false}
use Rattle.std.proofs.lemmas.List.{length-append}
use Rattle.check_fun.specs.Program.{instances}
use Rattle.check_fun.proofs.Growth.{met_new, Grew, grew_by, instances_grow, Grows}

wanted_key : {A : Type 0} → InstanceKey → Result A Stop → InstanceKey
wanted_key d (Err (wanted k)) = k
wanted_key d r = d

same_wanted : {A : Type 0} (j k : InstanceKey) → ◌≡◌ {A = Result A Stop} (Err (wanted j)) (Err (wanted k)) → j ≡ k
unfolding wanted_key
same_wanted j k e = ap (wanted_key j) e

pub wants_new : {A : Type 0} (d : ℕ) (met : Signatures) (w : Walk A) (h : ℕ) (k : InstanceKey) → with_known d met w h ≡ Err (wanted k) → meet d met k ≡ new
wants_new d met (answer a) h k e = absurd (grind (arith, e))
wants_new d met (broken x) h k e = absurd (grind (arith, e))
wants_new d met (counted w) h k e = wants_new d met w h k e
wants_new {A = A} d met (asked j next) h k e = go (meet d met j) refl e (λ s. wants_new d met (next s) (max h s.height) k)
  where
    go : (m : Met) → meet d met j ≡ m → and_then (known_or_stop m j) (λ s. with_known d met (next s) (max h s.height)) ≡ Err (wanted k)
        → ((s : Signature) → with_known d met (next s) (max h s.height) ≡ Err (wanted k) → meet d met k ≡ new) → meet d met k ≡ new
    go (known s) is e ih = ih s e
    go (limited l) is e ih = absurd (grind (arith, e))
    go new is e ih = subst (λ x. meet d met x ≡ new) (same_wanted j k e) is

met_room : (d n : ℕ) (o : Option Signature) → met_as d n o ≡ new → n + d + 1 ≤ 4096
met_room d n None e = go (too_deep d 1) (nat_lt most_instances (n + d + 1)) refl e
  where
    go : (a b : Bool) → nat_lt most_instances (n + d + 1) ≡ b → cond a (limited Depth) (cond b (limited Instances) new) ≡ new → n + d + 1 ≤ 4096
    go true b h e = absurd (grind (arith, e))
    go false true h e = absurd (grind (arith, e))
    go false false h e = ltb-false 4096 (n + d + 1) h
met_room d n (Some t) e = absurd (go (too_deep d t.height) e)
  where
    go : (b : Bool) → cond b (limited Depth) (known t) ≡ new → ⊥
    go true e = grind (arith, e)
    go false e = grind (arith, e)

-- a new instance is none of those that are known, and it is not too deep; there is room for it
pub wants_room : {A : Type 0} (d : ℕ) (met : Signatures) (w : Walk A) (h : ℕ) (k : InstanceKey) → with_known d met w h ≡ Err (wanted k) → (signature_of met k ≡ None) × (d + 1 ≤ 64) × (length met + d + 1 ≤ 4096)
wants_room d met w h k e =
    let m = wants_new d met w h k e in
    let n = met_new d (length met) (signature_of met k) m in
    (n.0, n.1, met_room d (length met) (signature_of met k) m)

-- the check of an instance adds at least that one
pub instances_more : (words : List (NameId × BuiltIn)) (funs : List Function) (d : ℕ) (k : InstanceKey) (c : Counts) (r : Signature × Counts) → instances words funs d k c ≡ Ok r → length c.met < length r.1.met
instances_more words funs d k c r e =
    let a = (instances_grow words funs).adds d k c r e in
    let one = length-append (c.met ++ a.0) ((k, r.0) ∷ []) in
    let two = length-append c.met a.0 in
    omega (arith, ap (λ (l : Signatures). length l) a.1, one, two)
