-- `flip` flips its target where the condition in force and all operands hold.
use Rattle.std.proofs.Common.{◌≡◌, ℕ, ◌<◌, Bool, true, false, cond, not, ◌&&◌, ◌||◌, List, [], ◌∷◌, ◌++◌, length, map, Option, Some, None, refl, sym, ap, ap₂, ◌∙◌, ◌⊎◌, inl, inr}
use Rattle.std.specs.Bool.{beq}
use Rattle.flat_core.specs.declared.step.Lit.{Lit}
use Rattle.flat_core.specs.declared.step.WireId.{WireId}
use Rattle.flat_core.specs.Form.{DraftForm}
use Rattle.flat_core.specs.Label.{same_wire}
use Rattle.flat_core.proofs.Labels.{same_wire_is}
use Rattle.flat_mean.specs.Row.{Row, flipped, holds}
use Rattle.bit_arith.specs.declared.operand.Operand.{Operand}
use Rattle.bit_arith.specs.declared.operand.Operand.TheVariants.{Const, Literal}
use Rattle.bit_arith.specs.Built.{Built, Setting, blank, read, opposite, same_lit, has, tidy, literals, under, under_condition}
use Rattle.bit_arith.specs.Rows.{flip, flip_if_any, flip_lits}
use Rattle.bit_arith.specs.Calls.{Targets, SafeLit, Safe, AllSafe}
use Rattle.bit_arith.specs.Values.{bit_of, all_hold, forced, Clean}
use Rattle.bit_arith.specs.Does.{Fresh, Does}
use Rattle.bit_arith.proofs.Steps.{and_true, and_assoc, and_one, and_zero, lits_hold, SafeLits}
use Rattle.bit_arith.proofs.Doing.{does_none, does_weak}
use Rattle.bit_arith.proofs.Gathered.{FirstFalse, FlipsLits, flips_lits}

or_cases : (a b : Bool) → a || b ≡ true → (a ≡ true) ⊎ (b ≡ true)
or_cases true b h = inl refl
or_cases false b h = inr h

beq_is : (a b : Bool) → beq a b ≡ true → a ≡ b
beq_is true true e = refl
beq_is true false e = cc
beq_is false true e = cc
beq_is false false e = refl

this_holds : (v : Row) (l m : Lit) → same_lit l m ≡ true → holds v (Some m) ≡ true → holds v (Some l) ≡ true
this_holds v l m h y =
    let (e, f) = and_true (same_wire l.wire m.wire) (beq l.positive m.positive) h in
    ap₂ (λ (w : WireId) (p : Bool). beq (v w.number) p) (same_wire_is l.wire m.wire e) (beq_is l.positive m.positive f) ∙ y

-- a list of literals says of a literal in it that it holds
has_holds : (v : Row) (ls : List Lit) (l : Lit) → has ls l ≡ true → lits_hold v ls ≡ true → holds v (Some l) ≡ true
has_holds v [] l h y = cc
has_holds v (m ∷ ls) l h y =
    let (one, more) = and_true (holds v (Some m)) (lits_hold v ls) y in
    let rest : has ls l ≡ true → holds v (Some l) ≡ true = λ r. has_holds v ls l r more in
    elim (or_cases (same_lit l m) (has ls l) h) [ inl e ↦ this_holds v l m e one | inr e ↦ rest e ]

-- the conjunction of a list that may be false
abbrev pub tidied : Row → Option (List Lit) → Bool
tidied v None = false
tidied v (Some ls) = lits_hold v ls

lits_snoc : (v : Row) (ls : List Lit) (l : Lit) → lits_hold v (ls ++ l ∷ []) ≡ lits_hold v ls && holds v (Some l)
lits_snoc v [] l = and_one (holds v (Some l))
lits_snoc v (x ∷ ls) l = ap (λ b. holds v (Some x) && b) (lits_snoc v ls l) ∙ sym (and_assoc (holds v (Some x)) (lits_hold v ls) (holds v (Some l)))

-- a kept literal changes nothing
absorb : (k l r : Bool) → (k ≡ true → l ≡ true) → k && (l && r) ≡ k && r
absorb true l r h = rw (h refl) refl
absorb false l r h = refl

none_holds : (k l r : Bool) → (k ≡ true → l ≡ false) → false ≡ k && (l && r)
none_holds true l r h = rw (h refl) refl
none_holds false l r h = refl

other_sign : (b s : Bool) → beq b (not s) ≡ true → beq b s ≡ false
other_sign true true h = cc
other_sign true false h = refl
other_sign false true h = refl
other_sign false false h = cc

pub tidy_holds : (v : Row) (ps : List Operand) (kept : List Lit) → tidied v (tidy kept ps) ≡ lits_hold v kept && all_hold v ps
tidy_holds v [] kept = sym (and_one (lits_hold v kept))
tidy_holds v (Const true ∷ ps) kept = tidy_holds v ps kept
tidy_holds v (Const false ∷ ps) kept = sym (and_zero (lits_hold v kept))
tidy_holds v (Literal l ∷ ps) kept =
    pick (has kept l) (has kept (opposite l)) refl refl (tidy_holds v ps kept) (tidy_holds v ps (kept ++ l ∷ []))
  where
    pick : (a b : Bool) → has kept l ≡ a → has kept (opposite l) ≡ b → tidied v (tidy kept ps) ≡ lits_hold v kept && all_hold v ps → tidied v (tidy (kept ++ l ∷ []) ps) ≡ lits_hold v (kept ++ l ∷ []) && all_hold v ps → tidied v (cond a (tidy kept ps) (cond b None (tidy (kept ++ l ∷ []) ps))) ≡ lits_hold v kept && (holds v (Some l) && all_hold v ps)
    pick true b e f old new = old ∙ sym (absorb (lits_hold v kept) (holds v (Some l)) (all_hold v ps) (λ y. has_holds v kept l e y))
    pick false true e f old new = none_holds (lits_hold v kept) (holds v (Some l)) (all_hold v ps) (λ y. other_sign (v l.wire.number) l.positive (has_holds v kept (opposite l) f y))
    pick false false e f old new = new ∙ (ap (λ b. b && all_hold v ps) (lits_snoc v kept l) ∙ and_assoc (lits_hold v kept) (holds v (Some l)) (all_hold v ps))

-- ---- the literals of a tidy list are safe where the operands are

abbrev pub IfList : Option (List Lit) → (List Lit → Type 0) → Type 0
IfList None A = Unit {0}
IfList (Some ls) A = A ls

safe_snoc : (n : ℕ) (T : Targets) (ls : List Lit) (l : Lit) → SafeLits n T ls → SafeLit n T l → SafeLits n T (ls ++ l ∷ [])
safe_snoc n T [] l s t = (t, tt)
safe_snoc n T (x ∷ ls) l s t = (s.0, safe_snoc n T ls l s.1 t)

pub tidy_safe : (n : ℕ) (T : Targets) (ps : List Operand) (kept : List Lit) → AllSafe n T ps → SafeLits n T kept → IfList (tidy kept ps) (SafeLits n T)
tidy_safe n T [] kept s k = k
tidy_safe n T (Const true ∷ ps) kept s k = tidy_safe n T ps kept s.1 k
tidy_safe n T (Const false ∷ ps) kept s k = tt
tidy_safe n T (Literal l ∷ ps) kept s k =
    pick (has kept l) (has kept (opposite l)) (tidy_safe n T ps kept s.1 k) (tidy_safe n T ps (kept ++ l ∷ []) s.1 (safe_snoc n T kept l k s.0))
  where
    pick : (a b : Bool) → IfList (tidy kept ps) (SafeLits n T) → IfList (tidy (kept ++ l ∷ []) ps) (SafeLits n T) → IfList (cond a (tidy kept ps) (cond b None (tidy (kept ++ l ∷ []) ps))) (SafeLits n T)
    pick true b old new = old
    pick false true old new = tt
    pick false false old new = new

-- ---- the first literal stays in front

abbrev FirstIs : Lit → List Lit → Type 0
FirstIs l [] = ⊥
FirstIs l (a ∷ ls) = a ≡ l

first_snoc : (l x : Lit) (ls : List Lit) → FirstIs l ls → FirstIs l (ls ++ x ∷ [])
first_snoc l x [] h = absurd h
first_snoc l x (a ∷ ls) h = h

tidy_first : (l : Lit) (ps : List Operand) (kept : List Lit) → FirstIs l kept → IfList (tidy kept ps) (FirstIs l)
tidy_first l [] kept k = k
tidy_first l (Const true ∷ ps) kept k = tidy_first l ps kept k
tidy_first l (Const false ∷ ps) kept k = tt
tidy_first l (Literal x ∷ ps) kept k =
    pick (has kept x) (has kept (opposite x)) (tidy_first l ps kept k) (tidy_first l ps (kept ++ x ∷ []) (first_snoc l x kept k))
  where
    pick : (a b : Bool) → IfList (tidy kept ps) (FirstIs l) → IfList (tidy (kept ++ x ∷ []) ps) (FirstIs l) → IfList (cond a (tidy kept ps) (cond b None (tidy (kept ++ x ∷ []) ps))) (FirstIs l)
    pick true b old new = old
    pick false true old new = tt
    pick false false old new = new

-- ---- reading a blank wire as a constant changes no bit

blank_bit : (s b : Bool) → b ≡ false → not s ≡ beq b s
blank_bit true b e = rw e refl
blank_bit false b e = rw e refl

pub read_bit : (d : DraftForm) (v : Row) (p : Operand) → Clean d v → bit_of v (read d p) ≡ bit_of v p
read_bit d v (Const b) c = refl
read_bit d v (Literal l) c = pick (blank d l.wire) refl
  where
    pick : (b : Bool) → blank d l.wire ≡ b → bit_of v (cond b (Const (not l.positive)) (Literal l)) ≡ holds v (Some l)
    pick true e = blank_bit l.positive (v l.wire.number) (c l.wire e)
    pick false e = refl

pub reads_hold : (d : DraftForm) (v : Row) (ps : List Operand) → Clean d v → all_hold v (map (read d) ps) ≡ all_hold v ps
reads_hold d v [] c = refl
reads_hold d v (p ∷ ps) c = ap₂ ◌&&◌ (read_bit d v p c) (reads_hold d v ps c)

read_safe : (d : DraftForm) (n : ℕ) (T : Targets) (p : Operand) → Safe n T p → Safe n T (read d p)
read_safe d n T (Const b) s = tt
read_safe d n T (Literal l) s = pick (blank d l.wire)
  where
    pick : (b : Bool) → Safe n T (cond b (Const (not l.positive)) (Literal l))
    pick true = tt
    pick false = s

pub reads_safe : (d : DraftForm) (n : ℕ) (T : Targets) (ps : List Operand) → AllSafe n T ps → AllSafe n T (map (read d) ps)
reads_safe d n T [] s = tt
reads_safe d n T (p ∷ ps) s = (read_safe d n T p s.0, reads_safe d n T ps s.1)

-- ---- the condition in force in front

under_holds : (v : Row) (c : Option Operand) (ps : List Operand) → all_hold v (under_condition c ps) ≡ all_hold v (under_condition c []) && all_hold v ps
under_holds v None ps = refl
under_holds v (Some p) ps = ap (λ x. x && all_hold v ps) (sym (and_one (bit_of v p)))

first_false : (v : Row) (l : Lit) (o : Option (List Lit)) → holds v (Some l) ≡ false → IfList o (FirstIs l) → IfList o (FirstFalse v)
first_false v l None h k = tt
first_false v l (Some []) h k = absurd k
first_false v l (Some (a ∷ ls)) h k = ap (λ (x : Lit). holds v (Some x)) k ∙ h

-- where the condition in force is false, the first literal is
pub guard_false : (d : DraftForm) (v : Row) (c : Option Operand) (ps : List Operand) → Clean d v → all_hold v (under_condition c []) ≡ false → IfList (literals d (under_condition c ps)) (FirstFalse v)
guard_false d v None ps c off = cc
guard_false d v (Some p) ps c off =
    front (read d p) (sym (and_one (bit_of v (read d p))) ∙ (ap (λ x. x && true) (read_bit d v p c) ∙ off))
  where
    front : (q : Operand) → bit_of v q ≡ false → IfList (tidy [] (q ∷ map (read d) ps)) (FirstFalse v)
    front (Const true) e = cc
    front (Const false) e = tt
    front (Literal l) e = first_false v l (tidy (l ∷ []) (map (read d) ps)) e (tidy_first l (map (read d) ps) (l ∷ []) refl)

-- what is known of the literals of some operands under the condition in force
pub record Reads (at : Setting) (d : DraftForm) (T : Targets) (ps : List Operand) (o : Option (List Lit)) : Type 0 where
  pub safe : IfList o (SafeLits (length d.wires) T)
  pub off : (v : Row) → Clean d v → forced at v ≡ false → IfList o (FirstFalse v)
  pub on : (v : Row) → Clean d v → forced at v ≡ true → tidied v o ≡ all_hold v ps

pub reads : (at : Setting) (d : DraftForm) (T : Targets) (ps : List Operand) → AllSafe (length d.wires) T (under at ps) → Reads at d T ps (literals d (under at ps))
reads at d T ps s = record {
  safe = tidy_safe (length d.wires) T (map (read d) (under at ps)) [] (reads_safe d (length d.wires) T (under at ps) s) tt;
  off = λ v c no. guard_false d v at.condition ps c no;
  on = λ v c yes. tidy_holds v (map (read d) (under at ps)) [] ∙ (reads_hold d v (under at ps) c ∙ (under_holds v at.condition ps ∙ ap (λ x. x && all_hold v ps) yes));
}

abbrev pub FlipIf : WireId → List Operand → Row → Row → Type 0
FlipIf w ps v u = u w.number ≡ flipped (v w.number) (all_hold v ps)

pub flip_does : (at : Setting) (w : WireId) (ps : List Operand) (b : Built) → Fresh b.draft → w.number < length b.draft.wires → AllSafe (length b.draft.wires) (same_wire w) (under at ps) → Does at b.draft (flip at w ps b).draft (same_wire w) (FlipIf w ps)
unfolding flip
flip_does at w ps b f hw s = go (literals b.draft (under at ps)) (reads at b.draft (same_wire w) ps s)
  where
    go : (o : Option (List Lit)) → Reads at b.draft (same_wire w) ps o → Does at b.draft (flip_if_any at w o b).draft (same_wire w) (FlipIf w ps)
    go None r = does_weak (does_none at b.draft (same_wire w)) (λ v u c y ag cl same. ap (λ (u : Row). u w.number) same ∙ ap (λ x. flipped (v w.number) x) (r.on v c y))
    go (Some ls) r =
        let q : FlipsLits b.draft (flip_lits at w ls b).draft w ls = flips_lits at w ls b f hw r.safe in
        record {
          new = q.new;
          grows = q.grows;
          all_x = q.all_x;
          still = λ v c n. q.still v c (r.off v c n);
          gives = λ v c y. q.gives v c ∙ ap (λ x. flipped (v w.number) x) (r.on v c y);
        }
