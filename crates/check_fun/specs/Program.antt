-- The walk of a program: the headers, the entry, and each instance where it is met first.
use Rattle.std.specs.Prelude.{ℕ, suc, Bool, false, not, ◌||◌, ◌==◌, if◌then◌else◌, List, [], ◌∷◌, ◌++◌, length, reverse, Option, Some, None, is_some, Result, Ok, Err, ℤ, pos, int_lt}
use Rattle.silq_tree.specs.declared.node.NameId.{NameId}
use Rattle.silq_tree.specs.declared.node.Spot.{Spot}
use Rattle.silq_tree.specs.Syntax.{Parameter, Function}
use Rattle.silq_types.specs.declared.types.Ty.{Ty}
use Rattle.silq_types.specs.declared.values.Origin.{Origin}
use Rattle.silq_types.specs.declared.values.Origin.TheVariants.{Held, Linear, Classical}
use Rattle.silq_types.specs.declared.values.Value.{Value}
use Rattle.silq_types.specs.declared.values.Var.{Var}
use Rattle.silq_types.specs.declared.signature.Param.{Param}
use Rattle.silq_types.specs.declared.signature.Returned.{Returned}
use Rattle.silq_types.specs.declared.signature.Signature.{Signature}
use Rattle.silq_types.specs.declared.signature.InstanceKey.{InstanceKey}
use Rattle.silq_types.specs.Rules.{Fault, rule, and_then, unknown_name, name_taken, not_static}
use Rattle.silq_mean.specs.Written.{Header, is_classical, header_of}
use Rattle.silq_types.specs.Types.{same_name}
use Rattle.silq_types.specs.Known.{Signatures}
use Rattle.check_scope.specs.Walk.{Walk, bind, answer, Counts, Checker, with_counts}
use Rattle.check_scope.specs.Context.{variable}
use Rattle.silq_types.specs.declared.built_in.BuiltIn.{BuiltIn}
use Rattle.silq_types.specs.Calls.{Found, built_in, find_fun}
use Rattle.silq_types.specs.Programs.{Program, earlier_than, paired}
use Rattle.check_fun.specs.Statement.{any_name, whole_body}

-- ---- headers

abbrev pub repeats : List NameId → Bool
repeats [] = false
repeats (x ∷ xs) = any_name (λ y. same_name y x) xs || repeats xs

-- a parameter has the name of a static parameter
abbrev pub shares_name : List NameId → List Parameter → Bool
shares_name statics [] = false
shares_name statics (p ∷ ps) = any_name (λ y. same_name y p.name) statics || shares_name statics ps

-- a parameter's name is that of no earlier parameter
abbrev pub param_names : List NameId → List Parameter → Result (Unit {0}) Fault
param_names taken [] = Ok tt
param_names taken (p ∷ ps) =
    if any_name (λ y. same_name y p.name) taken then Err (rule name_taken p.at) else param_names (p.name ∷ taken) ps

abbrev pub header_names : List (NameId × BuiltIn) → List NameId → Function → Result (Unit {0}) Fault
header_names words earlier f =
    if is_some (built_in words f.name) || any_name (λ y. same_name y f.name) earlier || repeats f.statics || shares_name f.statics f.params then Err (rule name_taken f.at)
    else param_names [] f.params

abbrev pub all_headers : List (NameId × BuiltIn) → List NameId → List Function → Result (Unit {0}) Fault
all_headers words earlier [] = Ok tt
all_headers words earlier (f ∷ fs) = and_then (header_names words earlier f) (λ u. all_headers words (f.name ∷ earlier) fs)

-- ---- one instance

abbrev pub param_origin : Param → Origin
param_origin p = if p.held then Held else (if p.ty.classical then Classical else Linear)

-- parameter i has the place i
abbrev pub param_vars : ℕ → List Parameter → List Param → List Var
param_vars i (n ∷ ns) (p ∷ ps) = record { part = variable n.name; ty = p.ty; origin = param_origin p; place = i; consumed = false } ∷ param_vars (suc i) ns ps
param_vars i ns ps = []

-- the consumed parameter that has this place, parameter i being the first of the list
abbrev pub given_on : ℕ → List Param → ℕ → Option ℕ
given_on i [] place = None
given_on i (p ∷ ps) place = if place == i then (if p.held then None else Some i) else given_on (suc i) ps place

abbrev pub returned_as : List Param → List Ty → List Value → List Returned
returned_as ps (t ∷ ts) (v ∷ vs) = record { ty = t; from = given_on 0 ps v.place } ∷ returned_as ps ts vs
returned_as ps ts vs = []

abbrev pub signature_by : Function → Header → List Value → ℕ → Signature
signature_by f h vs height = record { params = h.params; results = returned_as h.params h.results vs; mark = f.mark; height = suc height }

-- the walk of a body under its static values
abbrev pub instance_walk : List (NameId × BuiltIn) → List Function → Function → List ℤ → Header → Walk (List Value)
instance_walk words before f statics h =
    bind (whole_body f.body
    (record { words = words; before = before; this = f; results = h.results; statics = paired f.statics statics; held = [] })
    (record { vars = param_vars 0 f.params h.params; next = length h.params }))
    (λ r. answer r.0)

abbrev pub with_instance : InstanceKey → Signature → Counts → Counts
with_instance k s c = record c { met = c.met ++ (k, s) ∷ [] }

-- the signature of the instance, and the counts with it
abbrev pub kept : Function → Header → InstanceKey → List Value × Counts × ℕ → Signature × Counts
kept f h k r = let s : Signature = signature_by f h r.0 r.2 in (s, with_instance k s r.1)

-- faults of a header stand at the types for a call, and at the `def` for the entry
abbrev pub check_one : Checker → List (NameId × BuiltIn) → List Function → Function → (Spot → Spot) → Checker
check_one earlier words before f place_of depth k c =
    and_then (header_of (paired f.statics k.statics) place_of f) (λ h.
    and_then (with_counts earlier depth (instance_walk words before f k.statics h) c 0) (λ r. Ok (kept f h k r)))

-- the instances of the functions so far, the nearest function first: a body calls earlier functions alone
abbrev pub instances : List (NameId × BuiltIn) → List Function → Checker
instances words [] depth k c = Err (rule unknown_name (record { line = 1; col = 1 }))
instances words (f ∷ before) depth k c =
    if k.fun.number == length before then check_one (instances words before) words before f (λ s. s) depth k c
    else instances words before depth k c

-- ---- the entry

abbrev pub has_classical : List Parameter → Bool
has_classical [] = false
has_classical (p ∷ ps) = is_classical p.ty || has_classical ps

abbrev pub has_negative : List ℤ → Bool
has_negative [] = false
has_negative (z ∷ zs) = int_lt z (pos 0) || has_negative zs

abbrev pub entry_rules : Function → List ℤ → Result (Unit {0}) Fault
entry_rules f statics =
    if not (length f.statics == length statics) || has_negative statics || has_classical f.params then Err (rule not_static f.at) else Ok tt

-- an accepted program: the entry's signature, and the instances met
pub record Accepted : Type 0 where
  pub entry : Signature
  pub met : Signatures

abbrev pub check_entry : Program → List ℤ → Option Found → Result Accepted Fault
check_entry program statics None = Err (rule unknown_name (record { line = 1; col = 1 }))
check_entry program statics (Some f) =
    and_then (entry_rules f.fun statics) (λ u.
    let before : List Function = earlier_than f.number (reverse program.funs) in
    and_then (check_one (instances program.words before) program.words before f.fun (λ s. f.fun.at) 1
    (record { fun = record { number = f.number }; statics = statics }) (record { walked = 0; met = [] })) (λ r.
    Ok (record { entry = r.0; met = r.1.met })))

-- the answer of typing: the first broken check, or the signatures
abbrev pub check : Program → NameId → List ℤ → Result Accepted Fault
check program entry statics =
    and_then (all_headers program.words [] program.funs) (λ u. check_entry program statics (find_fun (reverse program.funs) entry))
