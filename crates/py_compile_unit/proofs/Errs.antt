-- Results with an error.
use Rattle.std.proofs.Common.{Result, Ok, Err}
use Rattle.std.specs.Prelude.{IfOk, IsErr}

-- what is said of a value
pub if_err : {T E : Type 0} (r : Result T E) (P : T → Type 0) → IsErr r → IfOk r P
if_err (Ok x) P h = absurd cc
if_err (Err e) P h = tt
