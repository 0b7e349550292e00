-- Results that are given, refused, and handed on.
use Rattle.std.specs.Result.{IsErr, IsErrAnd}
use Rattle.std.proofs.Common.{◌≡◌, ap, Result, Ok, Err}

pub ok_is : {A R : Type 0} {a b : A} → ◌≡◌ {A = Result A R} (Ok a) (Ok b) → a ≡ b
ok_is e = cc

pub err_is : {A R : Type 0} {a b : R} → ◌≡◌ {A = Result A R} (Err a) (Err b) → a ≡ b
err_is e = cc

pub ok_no_err : {A R : Type 0} {a : A} {r : R} → ◌≡◌ {A = Result A R} (Ok a) (Err r) → ⊥
ok_no_err e = cc

-- a refusal that a `?` hands on
pub handed : {A R : Type 0} (d : Result A R) (r : R) → IsErr d × IsErrAnd d (λ e. e ≡ r) → d ≡ Err r
handed (Ok a) r h = absurd h.1
handed (Err e) r h = ap Err h.1
