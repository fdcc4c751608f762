-- A fault that is handed on.
use Rattle.std.proofs.Common.{◌≡◌, Result, Ok, Err, IfErr, sym, subst}
use Rattle.std.specs.Result.{IsErrAnd}

pub if_err_from : {A E : Type 0} (r : Result A E) (x : E) (P : E → Type 0) → IsErrAnd r (λ e. e ≡ x) → P x → IfErr r P
if_err_from (Ok a) x P h p = tt
if_err_from (Err e) x P h p = subst P (sym h) p
