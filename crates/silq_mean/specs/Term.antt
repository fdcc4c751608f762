-- Terms: an environment with a factor.
use Rattle.std.specs.Prelude.{ℕ, ◌+◌, Bool, ◌&&◌, if◌then◌else◌, List, [], ◌∷◌, ◌++◌, length, reverse, take, drop, ℤ}
use Rattle.silq_tree.specs.declared.node.NameId.{NameId}
use Rattle.silq_tree.specs.declared.node.UpdateOp.{UpdateOp}
use Rattle.silq_mean.specs.Env.{Block, Env, found, bound}
use Rattle.silq_mean.specs.Value.{Value, gone, is_one, part, with_part, updated, equal_values, truth_value}

pub record Caller : Type 0 where
  pub env : Env Value
  pub values : List Value

pub record Term : Type 0 where
  pub env : Env Value
  -- the values of the expressions under way, the last first
  pub values : List Value
  -- what calls under way will go on with
  pub callers : List Caller
  -- the factor w^eighths / root two^halvings
  pub eighths : ℕ
  pub halvings : ℕ
  -- how many outcomes were told
  pub measured : ℕ

-- ---- variables

abbrev pub value_of : Env Value → NameId → Value
value_of env x = found gone env x

abbrev pub bind : Term → NameId → Value → Term
bind t x w = record t { env = bound t.env x w }

-- the variable is taken out; its name stays in reach
abbrev pub take_out : NameId → Term → Term
take_out x t = bind t x gone

abbrev pub open_block : Term → Term
open_block t = record t { env = [] ∷ t.env }

-- the variables of the innermost block are taken out
abbrev pub close_block : Term → Term
close_block t = record t { env = drop 1 t.env }

-- ---- values under way

abbrev pub push : Term → Value → Term
push t v = record t { values = v ∷ t.values }

abbrev pub first : List Value → Value
first [] = gone
first (v ∷ vs) = v

abbrev pub last : Term → Value
last t = first t.values

abbrev pub last_but_one : Term → Value
last_but_one t = first (drop 1 t.values)

abbrev pub drop_last : Term → Term
drop_last t = record t { values = drop 1 t.values }

abbrev pub drop_all : Term → Term
drop_all t = record t { values = [] }

-- the last value, or the last two, give way to a new one
abbrev pub on_last : (Value → Value) → Term → Term
on_last f t = push (drop_last t) (f (last t))

abbrev pub on_last_two : (Value → Value → Value) → Term → Term
on_last_two f t = push (drop_last (drop_last t)) (f (last_but_one t) (last t))

-- ---- factors

abbrev pub turn : ℕ → Term → Term
turn k t = record t { eighths = t.eighths + k }

-- H on the last value: the new value is b
abbrev pub hadamard : Bool → Term → Term
hadamard b t =
    record t {
      values = truth_value b ∷ drop 1 t.values;
      eighths = t.eighths + (if is_one (last t) && b then 4 else 0);
      halvings = t.halvings + 1;
    }

-- ---- statements on a term that holds the value of the right side

abbrev pub assign_part : NameId → List ℤ → Term → Term
assign_part x is t = drop_last (bind t x (with_part (value_of t.env x) is (last t)))

abbrev pub update_part : NameId → List ℤ → UpdateOp → Term → Term
update_part x is op t =
    let old : Value = value_of t.env x in drop_last (bind t x (with_part old is (updated op (part old is) (last t))))

-- the names take the values in turn
abbrev pub bind_all : Env Value → List NameId → List Value → Env Value
bind_all env (x ∷ xs) (v ∷ vs) = bind_all (bound env x v) xs vs
bind_all env xs vs = env

abbrev pub assign_all : List NameId → Term → Term
assign_all xs t = record t { env = bind_all t.env xs (reverse (take (length xs) t.values)); values = drop (length xs) t.values }

abbrev pub equals_last : NameId → Term → Bool
equals_last x t = equal_values (value_of t.env x) (last t)

-- ---- calls

abbrev pub paired : List NameId → List Value → Block Value
paired (x ∷ xs) (v ∷ vs) = (x, v) ∷ paired xs vs
paired xs vs = []

-- the arguments are the last values; they become the environment
abbrev pub enter : List NameId → Term → Term
enter xs t =
    record t {
      env = paired xs (reverse (take (length xs) t.values)) ∷ [];
      values = [];
      callers = record { env = t.env; values = drop (length xs) t.values } ∷ t.callers;
    }

abbrev pub back_to : Term → List Caller → Term
back_to t [] = t
back_to t (c ∷ cs) = record t { env = c.env; values = t.values ++ c.values; callers = cs }

-- the returned values go to the caller
abbrev pub leave : Term → Term
leave t = back_to t t.callers
