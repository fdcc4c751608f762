-- Registers as they are kept, and the definition's list of them.
use Rattle.std.proofs.Common.{◌≡◌, ℕ, ◌+◌, Bool, true, false, cond, List, [], ◌∷◌, ◌++◌, refl, sym, ◌∙◌, ap, subst, ◌≤◌, ◌<◌, ◌^◌, arith}
use Rattle.std.specs.Prelude.{Option, Some, None, IfSome, is_some, if◌then◌else◌, ◌||◌, sum_by}
use Rattle.std.specs.Map.{lookup}
use Rattle.std.specs.Str.{chars, bytes_eq, IsUtf8, encode_utf8_all}
use Rattle.std.proofs.lemmas.Str.{encodes-chars}
use Rattle.std.proofs.lemmas.Bool.Decides.{same_from_decides, Decides-like}
use Rattle.std.proofs.lemmas.Slice.Eq.{bytes_eq-Decides}
use Rattle.std.proofs.lemmas.List.Sums.{sum_by-append, sum_by-cons}
use Rattle.indexmap.specs.IndexMap.{insert_entry}
use denote.Bor.{Bor}
use Rattle.qasm_read.specs.declared.registers.Bits.{Bits}
use Rattle.qasm_read.specs.Registers.{Register, bits_from, has, width}
use Rattle.qasm_read.specs.Stored.{register_of, registers_of, AreInTurn, IsStored}

same_text : (a b : List ℕ) → IsUtf8 a → IsUtf8 b → bytes_eq a b ≡ bytes_eq (chars b) (chars a)
same_text a b u v =
    same_from_decides _ _ (bytes_eq-Decides a b)
    (Decides-like _ (λ e. sym (encodes-chars a u) ∙ ap encode_utf8_all (sym e) ∙ encodes-chars b v) (λ e. ap chars (sym e)) (bytes_eq-Decides (chars b) (chars a)))

-- what the map finds is what the list has
pub bits_found : (name : List ℕ) → IsUtf8 name → (first : ℕ) (es : List (Bor (List ℕ) × Bits)) → AreInTurn first es
    → lookup (λ k. bytes_eq name k.now) es ≡ bits_from first (registers_of es) (chars name)
bits_found name u first [] t = refl
bits_found name u first (e ∷ es) t =
    ap (λ (b : Bool). cond b (Some e.1) (lookup (λ k. bytes_eq name k.now) es)) (same_text name e.0.now u t.1)
    ∙ ap (λ (f : ℕ). cond (bytes_eq (chars e.0.now) (chars name)) (bits f) (lookup (λ k. bytes_eq name k.now) es)) t.0
    ∙ ap (λ (o : Option Bits). cond (bytes_eq (chars e.0.now) (chars name)) (bits first) o) (bits_found name u (first + e.1.size) es t.2)
  where
    bits : ℕ → Option Bits
    bits f = Some (record { first = f; size = e.1.size })

-- a register is there where it has bits
pub has_is : (first : ℕ) (rs : List Register) (name : List ℕ) → is_some (bits_from first rs name) ≡ has rs name
has_is first [] name = refl
has_is first (r ∷ rs) name = pick (bytes_eq r.name name) (has rs name) (record { first = first; size = r.size }) (bits_from (first + r.size) rs name) (has_is (first + r.size) rs name)
  where
    pick : (b a : Bool) (y : Bits) (o : Option Bits) → is_some o ≡ a → is_some (if b then Some y else o) ≡ (b || a)
    pick true a y o h = refl
    pick false a y o h = h

pub registers_of-push : (es : List (Bor (List ℕ) × Bits)) (e : Bor (List ℕ) × Bits) → registers_of (es ++ e ∷ []) ≡ registers_of es ++ register_of e ∷ []
registers_of-push [] e = refl
registers_of-push (x ∷ es) e = ap (λ rs. register_of x ∷ rs) (registers_of-push es e)

or_left : (a b : Bool) → (a || b) ≡ false → a ≡ false
or_left true b e = e
or_left false b e = refl

or_right : (a b : Bool) → (a || b) ≡ false → b ≡ false
or_right true b e = absurd (cc)
or_right false b e = e

module _ (name : Bor (List ℕ)) (text : IsUtf8 name.now) (bits : Bits) where
  -- a name that is new comes at the end
  pub added_at_end : (first : ℕ) (es : List (Bor (List ℕ) × Bits)) → AreInTurn first es → has (registers_of es) (chars name.now) ≡ false
      → insert_entry (λ x y. bytes_eq x.now y.now) es name bits ≡ es ++ (name, bits) ∷ []
  added_at_end first [] t h = refl
  added_at_end first (e ∷ es) t h =
      ap (λ (b : Bool). if b then (e.0, bits) ∷ es else e ∷ insert_entry (λ x y. bytes_eq x.now y.now) es name bits)
      (same_text name.now e.0.now text t.1 ∙ or_left (bytes_eq (chars e.0.now) (chars name.now)) (has (registers_of es) (chars name.now)) h)
      ∙ ap (λ l. e ∷ l) (added_at_end (first + e.1.size) es t.2 (or_right (bytes_eq (chars e.0.now) (chars name.now)) (has (registers_of es) (chars name.now)) h))

  AreInTurn-push : (first : ℕ) (es : List (Bor (List ℕ) × Bits)) → AreInTurn first es → bits.first ≡ first + width (registers_of es) → AreInTurn first (es ++ (name, bits) ∷ [])
  AreInTurn-push first [] t e = (e ∙ omega arith, text, tt)
  AreInTurn-push first (x ∷ es) t e =
      let w : width (registers_of (x ∷ es)) ≡ x.1.size + width (registers_of es) = sum_by-cons (λ (r : Register). r.size) (register_of x) (registers_of es) in
      (t.0, t.1, AreInTurn-push (first + x.1.size) es t.2 (omega arith))

  width-push : (rs : List Register) → width (rs ++ record { name = chars name.now; size = bits.size } ∷ []) ≡ width rs + bits.size
  width-push rs =
      let r : Register = record { name = chars name.now; size = bits.size } in
      let one : sum_by (λ (x : Register). x.size) (r ∷ []) ≡ bits.size = sum_by-cons (λ (x : Register). x.size) r [] ∙ omega arith in
      sum_by-append (λ (x : Register). x.size) rs (r ∷ []) ∙ ap (λ n. width rs + n) one

  pub IsStored-push : (es : List (Bor (List ℕ) × Bits)) (total : ℕ) → IsStored es total → bits.first ≡ total → total + bits.size < 2 ^ 32
      → IsStored (es ++ (name, bits) ∷ []) (total + bits.size)
  IsStored-push es total s e l =
      record {
        in_turn = AreInTurn-push 0 es s.in_turn (let q : total ≡ width (registers_of es) = s.total_is in omega arith);
        total_is = ap (λ t. t + bits.size) s.total_is ∙ (sym (width-push (registers_of es)) ∙ ap width (sym (registers_of-push es (name, bits))));
        small = l;
      }

-- the bits of a register are among all
pub bits_within : (first : ℕ) (rs : List Register) (name : List ℕ) (b : Bits) → bits_from first rs name ≡ Some b → b.first + b.size ≤ first + width rs
bits_within first [] name b e = absurd (cc)
bits_within first (r ∷ rs) name b e =
    pick (bytes_eq r.name name) (bits_from (first + r.size) rs name) e (bits_within (first + r.size) rs name b)
  where
    all : width (r ∷ rs) ≡ r.size + width rs
    all = sum_by-cons (λ (x : Register). x.size) r rs

    mine : record { first = first; size = r.size } ≡ b → b.first + b.size ≤ first + width (r ∷ rs)
    mine q = subst (λ (y : Bits). y.first + y.size ≤ first + width (r ∷ rs)) q (omega (arith, all))

    pick : (t : Bool) (o : Option Bits) → (if t then Some (record { first = first; size = r.size }) else o) ≡ Some b
        → (o ≡ Some b → b.first + b.size ≤ (first + r.size) + width rs) → b.first + b.size ≤ first + width (r ∷ rs)
    pick true o q h = mine (cc)
    pick false o q h = let l = h q in omega (arith, all, l)

-- where all bits have numbers of 32 bits, so have those of a register
pub bits_small : (rs : List Register) (name : List ℕ) (o : Option Bits) → o ≡ bits_from 0 rs name → width rs < 2 ^ 32 → IfSome o (λ b. b.first + b.size < 2 ^ 32)
bits_small rs name None e l = tt
bits_small rs name (Some b) e l = let w = bits_within 0 rs name b (sym e) in omega (arith, w, l)
