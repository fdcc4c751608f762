-- How many branches a statement has, and of how many halvings.
use Rattle.std.proofs.Common.{◌≡◌, ℕ, ◌+◌, ◌*◌, ◌^◌, ◌≤◌, Bool, true, false, cond, List, [], ◌∷◌, set, subst, arith}
use Rattle.std.proofs.Math.Pow.{pow_mono}
use Rattle.std.proofs.lemmas.Nat.{pow-add}
use Rattle.std.proofs.lemmas.List.Elements.{All-nil, All-cons}
use Rattle.amp_core.specs.declared.Amp.{Amp}
use Rattle.sum_laws.specs.Terms.{Branch, apply}
use Rattle.sum_laws.specs.Units.{StandsFor, HasBranches}
use Rattle.sum_laws.proofs.StandsFor.{stands_branched}
use Rattle.gate_core.specs.declared.gate.OneKind.{OneKind}
use Rattle.gate_core.specs.declared.gate.OneKind.TheVariants.{Id, X, Y, Z, H, S, Sdg, T, Tdg}
use Rattle.gate_core.specs.declared.gate.PlainGate.{PlainGate}
use Rattle.gate_core.specs.declared.gate.PlainGate.TheVariants.{One as PlainOne, Cx as PlainCx, Cz as PlainCz, Ccx as PlainCcx}
use Rattle.gate_core.specs.declared.gate.Gate.{Gate}
use Rattle.gate_core.specs.declared.gate.Gate.TheVariants.{One, Cx, Cz, Ccx, Measure, If}
use Rattle.gate_core.specs.Meaning.{bit_at, turned, halved, one_branches, plain_branches, branches}
use Rattle.amp_run.specs.Refusal.{h_of_kind, h_in_plain, h_gates_in}

abbrev AtMost : ℕ → Branch → Type 0
AtMost g = λ branch. branch.halvings ≤ g

few_nothing : (g : ℕ) → HasBranches (2 ^ g) g []
few_nothing g = record { few = (let l = pow_mono {i = 0} {j = g} (omega arith) in omega arith); halvings = All-nil (AtMost g) }

few_turned : (g e : ℕ) (u : List Bool) → HasBranches (2 ^ g) g (turned e u)
few_turned g e u = record {
  few = pow_mono {i = 0} {j = g} (omega arith);
  halvings = All-cons (AtMost g) (record { bits = u; eighths = e; halvings = 0 }) [] (omega arith) (All-nil (AtMost g));
}

few_halved : (u : List Bool) (q : ℕ) → HasBranches (2 ^ 1) 1 (halved u q)
few_halved u q = record {
  few = omega arith;
  halvings =
      All-cons (AtMost 1) (record { bits = set u q false; eighths = 0; halvings = 1 }) (record { bits = set u q true; eighths = cond (bit_at u q) 4 0; halvings = 1 } ∷ []) (omega arith)
      (All-cons (AtMost 1) (record { bits = set u q true; eighths = cond (bit_at u q) 4 0; halvings = 1 }) [] (omega arith) (All-nil (AtMost 1)));
}

few_either : (m g : ℕ) (b : Bool) (xs ys : List Branch) → HasBranches m g xs → HasBranches m g ys → HasBranches m g (cond b xs ys)
few_either m g true xs ys h k = h
few_either m g false xs ys h k = k

few_one : (kind : OneKind) (q : ℕ) (u : List Bool) → HasBranches (2 ^ h_of_kind kind) (h_of_kind kind) (one_branches kind q u)
few_one Id q u = few_turned 0 _ _
few_one X q u = few_turned 0 _ _
few_one Y q u = few_turned 0 _ _
few_one Z q u = few_turned 0 _ _
few_one H q u = few_halved u q
few_one S q u = few_turned 0 _ _
few_one Sdg q u = few_turned 0 _ _
few_one T q u = few_turned 0 _ _
few_one Tdg q u = few_turned 0 _ _

few_plain : (gate : PlainGate) (u : List Bool) → HasBranches (2 ^ h_in_plain gate) (h_in_plain gate) (plain_branches gate u)
few_plain (PlainOne kind q) u = few_one kind q u
few_plain (PlainCx c t) u = few_turned 0 _ _
few_plain (PlainCz c t) u = few_turned 0 _ _
few_plain (PlainCcx a b t) u = few_turned 0 _ _

pub few_branches : (outcome known : List Bool) (gate : Gate) (u : List Bool) → HasBranches (2 ^ h_gates_in gate) (h_gates_in gate) (branches outcome known gate u)
few_branches outcome known (One kind q) u = few_one kind q u
few_branches outcome known (Cx c t) u = few_turned 0 _ _
few_branches outcome known (Cz c t) u = few_turned 0 _ _
few_branches outcome known (Ccx a b t) u = few_turned 0 _ _
few_branches outcome known (Measure q bit) u = few_either 1 0 _ (turned 0 u) [] (few_turned 0 0 u) (few_nothing 0)
few_branches outcome known (If bit value gate) u = few_either _ _ _ (plain_branches gate u) (turned 0 u) (few_plain gate u) (few_turned (h_in_plain gate) 0 u)

-- rows that stand for 2^h single terms make terms that stand for 2^(h + g)
pub stands_after : (h : ℕ) (outcome known : List Bool) (gate : Gate) (rows : List (List Bool × Amp)) → StandsFor (2 ^ h) h rows
    → StandsFor (2 ^ (h + h_gates_in gate)) (h + h_gates_in gate) (apply (branches outcome known gate) rows)
stands_after h outcome known gate rows s =
    let e : 2 ^ h_gates_in gate * 2 ^ h ≡ 2 ^ (h + h_gates_in gate) = omega (arith, pow-add 2 h (h_gates_in gate)) in
    subst (λ n. StandsFor n (h + h_gates_in gate) (apply (branches outcome known gate) rows)) e
    (stands_branched (2 ^ h) h (2 ^ h_gates_in gate) (h_gates_in gate) (branches outcome known gate) rows (few_branches outcome known gate) s)
