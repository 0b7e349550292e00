-- Answers of the code, seen plainly.
use Rattle.std.proofs.Common.{◌≡◌, ℕ, List, ◌++◌, Some, None, Result, Ok, Err, Vec, String, ap, subst, IfErr, OnOk, OnErr}
use Rattle.std.specs.declared.alloc.Global.{Global}
use Rattle.cov_outside.specs.Prefixes.{GainsPrefix}
use Rattle.cov_outside.specs.Reads.{bytes_read, refusal_of}
use Rattle.cov_outside.specs.declared.shelf.ShelfError.{ShelfError}
use Rattle.cov_outside.specs.declared.sink.SinkError.{SinkError}
use Rattle.cov_outside.specs.declared.sink.SinkError.TheVariants as sink_error
use Rattle.cov_exclude.specs.declared.patterns.PatternError.{PatternError}
use Rattle.cov_programs.proofs.Results.{ok_no_err, err_is}
use Rattle.cov_step.specs.Objects.{IsWritten}
use Rattle.cov_vault.specs.Answers.{names_listed, refusal_of as refused_by}
use Rattle.cov_vault.specs.declared.vault.VaultError.{VaultError}
use Rattle.cov_calls.specs.Views.{pattern_error_of, sink_refusal_of}

none_no_some : {A : Type 0} {a : A} → None ≡ Some a → ⊥
none_no_some e = cc

some_is : {A : Type 0} {a b : A} → Some a ≡ Some b → a ≡ b
some_is e = cc

pub read_refused : (r : Result (Vec ℕ Global) ShelfError) (e : ShelfError) → bytes_read r ≡ Err e → r ≡ Err e
read_refused (Ok bytes) e h = absurd (ok_no_err h)
read_refused (Err x) e h = ap Err (err_is h)

pub put_refused : {A : Type 0} (r : Result A ShelfError) (e : ShelfError) → refusal_of r ≡ Some e → r ≡ Err e
put_refused (Ok a) e h = absurd (none_no_some h)
put_refused (Err x) e h = ap Err (some_is h)

pub write_refused : {A : Type 0} (r : Result A SinkError) (e : SinkError) → sink_refusal_of r ≡ Some e → r ≡ Err e
write_refused (Ok a) e h = absurd (none_no_some h)
write_refused (Err x) e h = ap Err (some_is h)

pub vault_refused : {A : Type 0} (r : Result A VaultError) (e : VaultError) → refused_by r ≡ Some e → r ≡ Err e
vault_refused (Ok a) e h = absurd (none_no_some h)
vault_refused (Err x) e h = ap Err (some_is h)

pub list_refused : (r : Result (Vec (String Global) Global) VaultError) (e : VaultError) → names_listed r ≡ Err e → r ≡ Err e
list_refused (Ok names) e h = absurd (ok_no_err h)
list_refused (Err x) e h = ap Err (err_is h)

-- what a write says of the bytes
pub written_so : {A : Type 0} (old text new : List ℕ) (r : Result A SinkError) → OnOk r (new ≡ old ++ text) → OnErr r (GainsPrefix old new text) → IsWritten old text (sink_refusal_of r) new
written_so old text new (Ok a) ok err = ok
written_so old text new (Err sink_error.Failed) ok err = err
written_so old text new (Err sink_error.NoMemory) ok err = err

-- why patterns weren't made
pub cause_so : {A : Type 0} (r : Result A PatternError) (e : PatternError) (P : PatternError → Type 0) → IfErr r P → pattern_error_of r ≡ Some e → P e
cause_so (Ok a) e P h is = absurd (none_no_some is)
cause_so (Err x) e P h is = subst P (some_is is) h
