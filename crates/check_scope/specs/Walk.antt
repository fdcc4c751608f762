-- A walk as a tree of its steps, and its two readings: with the signatures that are known, and with instances checked where they are met.
use Rattle.std.specs.Prelude.{ℕ, suc, max, ◌+◌, Bool, if◌then◌else◌, length, Option, Some, None, Result, Ok, Err, nat_lt}
use Rattle.silq_io.specs.declared.limit.LimitKind.{LimitKind}
use Rattle.silq_io.specs.declared.limit.LimitKind.TheVariants.{Walked, Instances, Depth}
use Rattle.silq_types.specs.declared.signature.InstanceKey.{InstanceKey}
use Rattle.silq_types.specs.declared.signature.Signature.{Signature}
use Rattle.silq_types.specs.Rules.{Fault, over, and_then}
use Rattle.silq_types.specs.Known.{Signatures, signature_of}

-- a walk answers, or breaks a check, or counts a statement and goes on, or asks for the signature of an instance and goes on with it
pub data Walk (A : Type 0) : Type 0 where
  answer : A → Walk A
  broken : Fault → Walk A
  counted : Walk A → Walk A
  asked : InstanceKey → (Signature → Walk A) → Walk A

abbrev pub bind : {A B : Type 0} → Walk A → (A → Walk B) → Walk B
bind (answer a) f = f a
bind (broken e) f = broken e
bind (counted w) f = counted (bind w f)
bind (asked k next) f = asked k (λ s. bind (next s) f)

-- ---- instances

abbrev pub deepest : ℕ
deepest = 64

abbrev pub most_instances : ℕ
most_instances = 4096

abbrev pub most_walked : ℕ
most_walked = 1000000

-- with so many open instances, the call of an instance of this height is too deep
abbrev pub too_deep : ℕ → ℕ → Bool
too_deep depth height = nat_lt deepest (depth + height)

-- what a call finds: the signature, a limit, or an instance that is new
pub data Met : Type 0 where
  known : Signature → Met
  limited : LimitKind → Met
  new : Met

-- a known instance counts with its height, a new one with the height 1
abbrev pub met_as : ℕ → ℕ → Option Signature → Met
met_as depth checked (Some s) = if too_deep depth s.height then limited Depth else (known s)
met_as depth checked None =
    if too_deep depth 1 then limited Depth else (if nat_lt most_instances (checked + depth + 1) then limited Instances else new)

abbrev pub meet : ℕ → Signatures → InstanceKey → Met
meet depth met k = met_as depth (length met) (signature_of met k)

-- ---- with known signatures alone: the reading of one expression

pub data Stop : Type 0 where
  fault : Fault → Stop
  wanted : InstanceKey → Stop

abbrev pub known_or_stop : Met → InstanceKey → Result Signature Stop
known_or_stop (known s) k = Ok s
known_or_stop (limited l) k = Err (fault (over l))
known_or_stop new k = Err (wanted k)

-- the answer, with the greatest height among `height` and the instances that were asked for
abbrev pub with_known : {A : Type 0} → ℕ → Signatures → Walk A → ℕ → Result (A × ℕ) Stop
with_known depth met (answer a) height = Ok (a, height)
with_known depth met (broken e) height = Err (fault e)
with_known depth met (counted w) height = with_known depth met w height
with_known depth met (asked k next) height =
    and_then (known_or_stop (meet depth met k) k) (λ s. with_known depth met (next s) (max height s.height))

-- ---- with counts: the reading of a program

-- the statements walked and the instances met so far
pub record Counts : Type 0 where
  pub walked : ℕ
  pub met : Signatures

-- the check of an instance that is new, with so many open instances
abbrev pub Checker : Type 0
Checker = ℕ → InstanceKey → Counts → Result (Signature × Counts) Fault

abbrev pub known_or_checked : Checker → ℕ → Met → InstanceKey → Counts → Result (Signature × Counts) Fault
known_or_checked check depth (known s) k c = Ok (s, c)
known_or_checked check depth (limited l) k c = Err (over l)
known_or_checked check depth new k c = check (depth + 1) k c

abbrev pub with_counts : {A : Type 0} → Checker → ℕ → Walk A → Counts → ℕ → Result (A × Counts × ℕ) Fault
with_counts check depth (answer a) c height = Ok (a, c, height)
with_counts check depth (broken e) c height = Err e
with_counts check depth (counted w) c height =
    if nat_lt c.walked most_walked then with_counts check depth w (record c { walked = suc c.walked }) height else Err (over Walked)
with_counts check depth (asked k next) c height =
    and_then (known_or_checked check depth (meet depth c.met k) k c) (λ r. with_counts check depth (next r.0) r.1 (max height r.0.height))
