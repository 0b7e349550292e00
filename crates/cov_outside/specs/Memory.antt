-- What the objects in memory hold, and which of their calls fail.
--     calls_of, faults_of                         the calls of an object, and how many failed
--     source_left, source_calls, source_faults    a source that fails at chosen calls
--     sink_contents, sink_calls, sink_faults      a sink that does
--     shelf_files, shelf_calls, shelf_faults      a shelf that does
--     CountsCall, ReadsMemory, PutsMemory         what its reads and puts do
--     sure_files, ReadsSure, PutsSure             the same of a shelf that never fails
use Rattle.std.specs.Prelude.{◌≡◌, ◌≢◌, ◌↔◌, ℕ, List, Option, Some, Result, Err}
use Rattle.cov_outside.specs.Calls.{Calls, FailsNext, after_call}
use Rattle.cov_outside.specs.Files.{Files, files_of}
use Rattle.cov_outside.specs.Reads.{IsTold, IsPut}
use Rattle.cov_outside.specs.declared.shelf.ShelfError.{ShelfError}
use Rattle.cov_outside.specs.declared.shelf.ShelfError.TheVariants.{Failed}
use Rattle.cov_outside.specs.Pairs.{plain_pairs}
use Rattle.cov_outside.specs.declared.failing.Failing.{Failing}
use Rattle.cov_outside.specs.declared.memory_shelf.MemShelf.{MemShelf}
use Rattle.cov_outside.specs.declared.memory_shelf.SureShelf.{SureShelf}
use Rattle.cov_outside.specs.declared.memory_sink.MemSink.{MemSink}
use Rattle.cov_outside.specs.declared.memory_source.MemSource.{MemSource}

-- the calls that fail, and how many there were
abbrev pub calls_of : Failing → Calls
calls_of failing = record { failing = failing.numbers.items; count = failing.calls }

-- how many have failed
abbrev pub faults_of : Failing → ℕ
faults_of failing = failing.faults

-- the bytes that are left in a source
abbrev pub source_left : MemSource → List ℕ
source_left source = source.contents

-- which of its calls fail
abbrev pub source_calls : MemSource → Calls
source_calls source = calls_of source.failing

-- how many have failed
abbrev pub source_faults : MemSource → ℕ
source_faults source = faults_of source.failing

-- the bytes that a sink holds
abbrev pub sink_contents : MemSink → List ℕ
sink_contents sink = sink.contents.items

-- which of its calls fail
abbrev pub sink_calls : MemSink → Calls
sink_calls sink = calls_of sink.failing

-- how many have failed
abbrev pub sink_faults : MemSink → ℕ
sink_faults sink = faults_of sink.failing

-- the files of a shelf by name
abbrev pub shelf_files : MemShelf → Files
shelf_files shelf = files_of (plain_pairs shelf.entries.pairs.items)

-- which of its calls fail
abbrev pub shelf_calls : MemShelf → Calls
shelf_calls shelf = calls_of shelf.failing

-- how many have failed
abbrev pub shelf_faults : MemShelf → ℕ
shelf_faults shelf = faults_of shelf.failing

-- a call fails exactly where the list names it, and is counted; only one that fails is a fault
pub record CountsCall (failed : Type 0) (old new : MemShelf) : Type 0 where
  pub fails : failed ↔ FailsNext (shelf_calls old)
  pub counted : shelf_calls new ≡ after_call (shelf_calls old)
  pub stays : (failed → ⊥) → shelf_faults new ≡ shelf_faults old

-- a read is answered by the files, and leaves them
pub record ReadsMemory (old : MemShelf) (name : List ℕ) (most : ℕ)
    (answer : Result (List ℕ) ShelfError) (new : MemShelf) : Type 0 where
  pub told : IsTold (shelf_files old name) most answer
  pub kept : shelf_files new ≡ shelf_files old
  pub call : CountsCall (answer ≡ Err Failed) old new

-- a put sets its name where it isn't refused, and is counted
pub record PutsMemory (old : MemShelf) (name bytes : List ℕ) (refusal : Option ShelfError)
    (new : MemShelf) : Type 0 where
  pub put : IsPut (shelf_files old) name bytes refusal (shelf_files new)
  pub call : CountsCall (refusal ≡ Some Failed) old new

-- the files of a shelf that never fails
abbrev pub sure_files : SureShelf → Files
sure_files shelf = files_of (plain_pairs shelf.entries.pairs.items)

-- a read is answered by the files, leaves them, and doesn't fail
pub record ReadsSure (old : SureShelf) (name : List ℕ) (most : ℕ)
    (answer : Result (List ℕ) ShelfError) (new : SureShelf) : Type 0 where
  pub told : IsTold (sure_files old name) most answer
  pub kept : sure_files new ≡ sure_files old
  pub sure : answer ≢ Err Failed

-- a put sets its name where it isn't refused, and doesn't fail
pub record PutsSure (old : SureShelf) (name bytes : List ℕ) (refusal : Option ShelfError)
    (new : SureShelf) : Type 0 where
  pub put : IsPut (sure_files old) name bytes refusal (sure_files new)
  pub sure : refusal ≢ Some Failed
