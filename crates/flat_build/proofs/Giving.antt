-- The values of names in turn.
use Rattle.std.proofs.Common.{◌≡◌, ℕ, ◌+◌, ◌<◌, ◌≤◌, List, [], length, drop, get_or, sym, ◌∙◌}
use Rattle.std.proofs.lemmas.List.{at_drop_more, at_drop_all}
use Rattle.silq_tree.specs.declared.node.NameId.{NameId}
use Rattle.silq_io.specs.declared.limit.LimitFault.{LimitFault}
use Rattle.silq_types.specs.declared.need.Need.TheVariants.{Held}
use Rattle.silq_mean.specs.Effect.{Effect, ◌>>◌, step, give_part}
use Rattle.bit_arith.specs.Calls.{Refused}
use Rattle.flat_form.specs.State.{Flattening}
use Rattle.flat_form.specs.Flat.{flat}
use Rattle.flat_steps.specs.Ready.{Ready}
use Rattle.tree_walk.specs.Written.{give_names}
use Rattle.flat_build.proofs.Carrying.{Onward, onward_as, onward_step, onward_refused, ready_first}

module _ (xs : List NameId) (i : ℕ) (d : NameId) (whole now : Flattening) (lt : i < length xs) (o : Onward (give_names (drop i xs)) whole now) where
  abbrev one : Effect
  one = step (give_part Held (get_or xs i d) [])

  opened : Onward (one >> give_names (drop (i + 1) xs)) whole now
  opened = onward_as (give_names (drop i xs)) (one >> give_names (drop (i + 1) xs)) whole now (at_drop_more give_names xs i d lt) o

  pub name_ready : Ready one now
  name_ready = ready_first one (give_names (drop (i + 1) xs)) now opened.ready

  pub name_refused : (f : LimitFault) → Refused f (flat one now).built → Refused f whole.built
  name_refused f r = onward_refused f one (give_names (drop (i + 1) xs)) whole now opened r

  pub name_more : (t : Flattening) → t ≡ flat one now → Onward (give_names (drop (i + 1) xs)) whole t
  name_more t e = onward_step one (give_names (drop (i + 1) xs)) whole now t opened e

pub names_done : (xs : List NameId) (i : ℕ) (whole now : Flattening) → length xs ≤ i → Onward (give_names (drop i xs)) whole now → now ≡ whole
names_done xs i whole now le o = sym (at_drop_all (λ ys. flat (give_names ys) now) xs i le) ∙ o.goes
