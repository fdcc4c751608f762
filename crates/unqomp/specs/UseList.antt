-- The uses of a flat form as a list.
use Rattle.std.specs.Prelude.{ℕ, zero, suc, cond, List, [], ◌++◌, map, Option, Contains}
use Rattle.std.specs.Option.{option_to_list}
use Rattle.flat_core.specs.declared.step.WireId.{WireId}
use Rattle.flat_core.specs.declared.step.StepId.{StepId}
use Rattle.flat_core.specs.Form.{FlatForm}
use Rattle.flat_core.specs.Label.{step_id, step_at, used, label_before}
use Rattle.flat_core.specs.Ends.{undone}
use Rattle.graph_core.specs.declared.vertex.Vertex.{Vertex}
use Rattle.graph_core.specs.declared.vertex.Vertex.TheVariants.{Forward, Reverse}
use Rattle.unqomp.specs.declared.uses.Use.{Use}

-- a user needs the wires that its step uses at the labels before that step
abbrev pub uses_by : FlatForm → Vertex → StepId → List Use
uses_by f user s = map (λ w. record { user = user; wire = w; label = label_before f s w }) (used (step_at f s))

-- the same for one wire, if any
abbrev pub uses_if_any : FlatForm → Vertex → StepId → Option WireId → List Use
uses_if_any f user s wire = map (λ w. record { user = user; wire = w; label = label_before f s w }) (option_to_list wire)

-- two wires that there may be, as a list
abbrev pub wires_of_pair : Option WireId → Option WireId → List WireId
wires_of_pair first second = option_to_list first ++ option_to_list second

-- the uses of a step, done and undone
abbrev pub uses_at : FlatForm → StepId → List Use
uses_at f s = uses_by f (Forward s) s ++ cond (undone f s) (uses_by f (Reverse s) s) []

-- the uses of the first n steps
abbrev pub uses_before : FlatForm → ℕ → List Use
uses_before f zero = []
uses_before f (suc n) = uses_before f n ++ uses_at f (step_id n)

-- the uses of a list, as a relation
abbrev pub InUses : List Use → Vertex → WireId → ℕ → Type 0
InUses uses u w i = Contains uses (record { user = u; wire = w; label = i })
