-- Signatures of a program's instances: each tells what calls do, where the bodies of all functions are fine.
use Rattle.std.specs.Prelude.{◌≡◌, ℕ, List, [], Ok}
use Rattle.silq_tree.specs.declared.node.NameId.{NameId}
use Rattle.silq_tree.specs.Syntax.{Function}
use Rattle.silq_types.specs.declared.built_in.BuiltIn.{BuiltIn}
use Rattle.silq_types.specs.declared.signature.InstanceKey.{InstanceKey}
use Rattle.silq_types.specs.declared.signature.Signature.{Signature}
use Rattle.silq_types.specs.Known.{Signatures}
use Rattle.check_scope.specs.Walk.{Counts}
use Rattle.check_expr.specs.Owners.{IsProper}
use Rattle.check_fun.specs.Program.{param_names, instances}
use Rattle.flat_form.specs.Names.{AllOf}
use Rattle.flat_typed.specs.Calls.{CallFine}
use Rattle.flat_typed.specs.Bodies.{HasFineParts}

-- a signature tells what each call of its instance does, and gives the places of parameters on at most once
abbrev pub Tells : List (NameId × BuiltIn) → List Function → InstanceKey → Signature → Type 0
Tells words funs k s = CallFine words funs k s × IsProper funs k s

abbrev pub AllTell : List (NameId × BuiltIn) → List Function → Signatures → Type 0
AllTell words funs met = AllOf (λ (e : InstanceKey × Signature). Tells words funs e.0 e.1) met

-- the parts of a function are fine, and no two parameters have one name
pub record IsFineFunction (f : Function) : Type 0 where
  pub parts : HasFineParts f
  pub differ : param_names [] f.params ≡ Ok tt

-- where all functions are such, the check of an instance makes a signature that tells, and keeps such
abbrev pub InstancesTell : Type 0
InstancesTell =
    (words : List (NameId × BuiltIn)) (funs : List Function) (d : ℕ) (k : InstanceKey) (c : Counts) (r : Signature × Counts) → AllOf IsFineFunction funs →
    AllTell words funs c.met → instances words funs d k c ≡ Ok r → Tells words funs k r.0 × AllTell words funs r.1.met
