-- The text of a plan is a right one.
use Rattle.std.proofs.Common.{◌≡◌, ℕ, ◌≤◌, List, Option, Result, Err, refl, ap, arith}
use Rattle.silq_io.specs.declared.limit.OverLimit.{OverLimit}
use Rattle.silq_mean.specs.Table.{Job}
use Rattle.flat_form.specs.Flat.{flattened}
use Rattle.flat_form.specs.Jobs.{FineJob, EndsWell}
use Rattle.move_plan.specs.Live.{width}
use Rattle.plan_laws.specs.Laws.{plan_circuit}
use Rattle.plan_laws.proofs.Theorem.{plans_give}
use Rattle.flat_compile.specs.declared.cycle.CyclePlace.{CyclePlace}
use Rattle.flat_compile.specs.declared.fault.CompileFault.{CompileFault}
use Rattle.flat_compile.specs.declared.fault.CompileFault.TheVariants.{Memory, Limit, Cycle, OverBudget, Failed}
use Rattle.flat_compile.specs.Ends.{BreaksPlan, HasGivenCycle, IsTextOf, NeedsMore, OfFlat, PassesFirst, PutsPlan}
use Rattle.silq_compile.specs.declared.fault.TextFault.{TextFault}
use Rattle.silq_compile.specs.declared.fault.TextFault.TheVariants.{Compile}
use Rattle.silq_compile.specs.Sources.{Source, OfAccepted}
use Rattle.silq_compile.specs.Headline.{Compiles, IsRight, PutsText, BreaksText, Refuses}
use Rattle.flat_compile.specs.declared.output.Output.{Output}
use Rattle.flat_compile.specs.declared.output.Output.TheVariants.{Text, Report}

compiles : (budget : ℕ) (text : List ℕ) (j : Job) → FineJob j → EndsWell j → OfFlat (IsTextOf Text budget text) j → Compiles budget text j
compiles budget text j fine ends h =
    let wide : ℕ = width (flattened j).form h.1.moves in
    record {
      circuit = plan_circuit (flattened j).form h.1.moves wide;
      written = h.1.is;
      gives = plans_give j h.1.moves wide fine ends h.0 h.1.first.level.valid (omega arith);
      fits = h.1.first.fits.narrow;
      planned = h;
    }

is_right : (output : Output) (budget : ℕ) (text : List ℕ) (j : Job) → FineJob j → EndsWell j → OfFlat (IsTextOf output budget text) j → IsRight output budget text j
is_right Text budget text j fine ends h = compiles budget text j fine ends h
is_right Report budget text j fine ends h = h

module _ (output : Output) (budget : ℕ) (old new : Option (List ℕ)) (source : Source) (j : Job) (well : FineJob j × EndsWell j) (told : (P : Job → Type 0) → P j → OfAccepted P source) where
  pub text_put : OfFlat (PutsPlan output budget old new) j → PutsText output budget old new source
  text_put h = (h.1.0, told (IsRight output budget h.1.0) (is_right output budget h.1.0 j well.0 well.1 (h.0, h.1.1)), h.1.2)

  text_broke : OfFlat (BreaksPlan output budget old new) j → BreaksText output budget old new source
  text_broke h = (h.1.0, told (IsRight output budget h.1.0) (is_right output budget h.1.0 j well.0 well.1 (h.0, h.1.1)), h.1.2)

  pub refuses : (fault : CompileFault) → ((over : OverLimit) → fault ≡ Limit over → PassesFirst over j) → ((places : List CyclePlace) → fault ≡ Cycle places → OfFlat (HasGivenCycle places) j)
      → ((least : ℕ) → fault ≡ OverBudget least → OfFlat (NeedsMore budget least) j) → (fault ≡ Failed → OfFlat (BreaksPlan output budget old new) j) → Refuses output budget old new source fault
  refuses Memory l c o b = tt
  refuses (Limit over) l c o b = told (PassesFirst over) (l over refl)
  refuses (Cycle places) l c o b = told (OfFlat (HasGivenCycle places)) (c places refl)
  refuses (OverBudget least) l c o b = told (OfFlat (NeedsMore budget least)) (o least refl)
  refuses Failed l c o b = text_broke (b refl)

-- ---- faults

fault_or : CompileFault → Result (Unit {0}) TextFault → CompileFault
fault_or d (Err (Compile x)) = x
fault_or d r = d

-- a fault of the compilation is told as it is
pub told_as_it_is : (x y : CompileFault) → ◌≡◌ {A = Result (Unit {0}) TextFault} (Err (Compile x)) (Err (Compile y)) → x ≡ y
unfolding fault_or
told_as_it_is x y e = ap (fault_or x) e
