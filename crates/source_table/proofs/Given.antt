-- How many bits are given.
use Rattle.std.proofs.Common.{◌≢◌, ℕ, cond, Ok, Err, refl, ap, ne_eqb}
use Rattle.silq_mean.specs.Table.{wanted, Bits}
use Rattle.source_table.specs.declared.fault.RunFault.TheVariants as runs
use Rattle.source_table.specs.Faults.{Refuses}

pub not_wanted : (given n : ℕ) → given ≢ n → Refuses (runs.Bits given n) (wanted given n)
not_wanted given n differ = (Bits given n, ap (λ b. cond b (Ok tt) (Err (Bits given n))) (ne_eqb given n differ), refl)
