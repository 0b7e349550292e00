-- What a file comes to after the modules before it: the first check that fails, or its reading.
--     Outcome, HasOutcome     what a file comes to, and when
--     refusal_for             the refusal of a file that comes to this
--     OneOutcome              a file comes to one thing
--     RefusedByOutcome        it is refused exactly by what it comes to
--     OneAnswer               so one refusal at most is answered to it
use Rattle.std.specs.Prelude.{◌≡◌, ◌≢◌, ◌↔◌, ℕ, suc, ◌+◌, ◌≤◌, ◌<◌, List, length, Option, Some, None, encode_utf8_all}
use Rattle.py_syntax.specs.Tree.{Text}
use Rattle.cov_why.specs.Answers.{Refusal, no_such_file, limit}
use Rattle.cov_why.specs.declared.why.LimitKind.TheVariants as limits
use Rattle.cov_run.specs.Reading.{Reading, unread, Reads}
use Rattle.cov_run.specs.Loading.{most_bytes, most_total, most_modules}
use Rattle.cov_run.specs.Refusals.{HasRoom, IsNext, Refuses, refusal_of}

-- what a file comes to
pub data Outcome : Type 0 where
  missing : Outcome
  one_too_many : Outcome
  too_large : Outcome
  too_heavy : (total : ℕ) → Outcome
  read_as : (reading : Reading) → Outcome

-- the checks in their order: that the file is there; the modules, its bytes and all bytes; then
-- what its bytes are read as, want of memory apart
abbrev pub HasOutcome : ℕ → ℕ → Option (List ℕ) → Outcome → Type 0
HasOutcome modules total file missing = file ≡ None
HasOutcome modules total file one_too_many =
    (bytes : List ℕ) × (file ≡ Some bytes) × (most_modules ≤ modules)
HasOutcome modules total file too_large =
    (bytes : List ℕ) × IsNext modules file bytes × (most_bytes < length bytes)
HasOutcome modules total file (too_heavy n) =
    (bytes : List ℕ) × IsNext modules file bytes × (length bytes ≤ most_bytes)
    × (most_total < total + length bytes) × (n ≡ total + length bytes)
HasOutcome modules total file (read_as reading) =
    (bytes : List ℕ) × HasRoom modules total file bytes × Reads bytes reading
    × (reading ≢ unread)

-- the refusal of a file that comes to this; none where it has a tree
abbrev pub refusal_for : Text → Outcome → Option Refusal
refusal_for path missing = Some (no_such_file (encode_utf8_all path))
refusal_for path one_too_many = Some (limit limits.Modules (suc most_modules))
refusal_for path too_large = Some (limit limits.FileBytes (suc most_bytes))
refusal_for path (too_heavy n) = Some (limit limits.TotalBytes n)
refusal_for path (read_as reading) = refusal_of (encode_utf8_all path) reading

-- after so many modules, whose files have so many bytes in all, a file comes to one thing
abbrev pub OneOutcome : Type 0
OneOutcome =
    (modules total : ℕ) (file : Option (List ℕ)) (o p : Outcome)
    → HasOutcome modules total file o → HasOutcome modules total file p → o ≡ p

-- a file is refused so exactly where it comes to something that is refused so
abbrev pub RefusedByOutcome : Type 0
RefusedByOutcome =
    (modules total : ℕ) (path : Text) (file : Option (List ℕ)) (r : Refusal)
    → Refuses modules total path file r
    ↔ ((o : Outcome) × HasOutcome modules total file o × (refusal_for path o ≡ Some r))

-- two refusals of one file are the same
abbrev pub OneAnswer : Type 0
OneAnswer =
    (modules total : ℕ) (path : Text) (file : Option (List ℕ)) (r s : Refusal)
    → Refuses modules total path file r → Refuses modules total path file s → r ≡ s
