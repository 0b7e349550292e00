-- What an answer of a command says, with its texts as bytes.
--     Refusal, Ended          why a command was refused, and how one ended that wasn't
--     PlainWhy, plain_why     one of both, and which of them an answer says
--     is_refusal, RefusedAs   an answer that refuses, and one that does so by such a refusal
--     AnsweredAs              what a call answered, with what its value stands for
use Rattle.std.specs.Prelude.{ℕ, Bool, true, false, List, Result, Ok, Err, MatchResult, string_bytes}
use Rattle.cov_why.specs.declared.why.Why.{Why}
use Rattle.cov_why.specs.declared.why.Why.TheVariants as why
use Rattle.cov_why.specs.declared.why.SyntaxKind.{SyntaxKind}
use Rattle.cov_why.specs.declared.why.LimitKind.{LimitKind}
use Rattle.cov_why.specs.declared.why.BadKind.{BadKind}

-- why a command was refused
pub data Refusal : Type 0 where
  usage : (words : ℕ) → Refusal
  no_such_file : (name : List ℕ) → Refusal
  syntax : (file : List ℕ) (line : ℕ) (kind : SyntaxKind) → Refusal
  limit : (kind : LimitKind) (n : ℕ) → Refusal
  bad_config : (key : List ℕ) → Refusal
  bad_pattern : (at : ℕ) → Refusal
  pattern_size : (at : ℕ) → Refusal
  no_function : (name : List ℕ) → Refusal
  no_data : (name : List ℕ) → Refusal
  mixed : (first other : Bool) → Refusal
  bad_data : (name : List ℕ) (kind : BadKind) → Refusal
  no_source : (path : List ℕ) → Refusal
  read_fault : Refusal
  write_fault : Refusal
  shelf_fault : Refusal
  vault_fault : Refusal
  no_memory : Refusal
  import_failed : (file : List ℕ) → Refusal

-- how a command ended that wasn't refused
pub data Ended : Type 0 where
  finished : Ended
  program : (status : ℕ) → Ended
  budget : (steps : ℕ) → Ended
  under : (covered all : ℕ) → Ended
  tests : (passed failed cut : ℕ) → Ended

-- how a command ended, or why it was refused
abbrev pub PlainWhy : Type 0
PlainWhy = Result Ended Refusal

-- What an answer says. A run that is cut and one that is under a limit are no refusals.
abbrev pub plain_why : Why → PlainWhy
plain_why why.Done = Ok finished
plain_why (why.Program status) = Ok (program status)
plain_why (why.Budget steps) = Ok (budget steps)
plain_why (why.Under covered all) = Ok (under covered all)
plain_why (why.Usage words) = Err (usage words)
plain_why (why.NoSuchFile name) = Err (no_such_file (string_bytes name))
plain_why (why.Syntax file line kind) = Err (syntax (string_bytes file) line kind)
plain_why (why.Limit kind n) = Err (limit kind n)
plain_why (why.BadConfig key) = Err (bad_config (string_bytes key))
plain_why (why.BadPattern at) = Err (bad_pattern at)
plain_why (why.PatternSize at) = Err (pattern_size at)
plain_why (why.NoFunction name) = Err (no_function (string_bytes name))
plain_why (why.NoData name) = Err (no_data (string_bytes name))
plain_why (why.Mixed first other) = Err (mixed first other)
plain_why (why.BadData name kind) = Err (bad_data (string_bytes name) kind)
plain_why (why.NoSource path) = Err (no_source (string_bytes path))
plain_why why.ReadFault = Err read_fault
plain_why why.WriteFault = Err write_fault
plain_why why.ShelfFault = Err shelf_fault
plain_why why.VaultFault = Err vault_fault
plain_why why.NoMemory = Err no_memory
plain_why (why.Tests passed failed cut) = Ok (tests passed failed cut)
plain_why (why.ImportFailed file) = Err (import_failed (string_bytes file))

-- whether a command was refused
abbrev pub is_refusal : PlainWhy → Bool
is_refusal (Ok ended) = false
is_refusal (Err refusal) = true

-- the answer is a refusal, of which this holds
abbrev pub RefusedAs : Why → (Refusal → Type 0) → Type 0
RefusedAs w P = MatchResult (plain_why w) (λ ended. ⊥) P

-- a call answered a value, and this holds of what it stands for; or a refusal, and this holds of it
abbrev pub AnsweredAs : {A B : Type 0} → (A → B) → Result A Why → (Result B Refusal → Type 0)
    → Type 0
AnsweredAs view (Ok a) P = P (Ok (view a))
AnsweredAs view (Err w) P = RefusedAs w (λ refusal. P (Err refusal))
