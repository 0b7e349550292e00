-- What `combine` may have changed when it is refused.
--     leaves_files                  an answer that leaves the files as they were
--     may_change, after_changes     a refusal after which data may have changed
--     CombineLaw                    the others come before; and no file is put
use Rattle.std.specs.Prelude.{Bool, true, false, List, Option, Ok, Err}
use Rattle.cov_programs.specs.Laws.{IsLate, OnlyKeeps}
use Rattle.cov_why.specs.Answers.{Refusal, usage, no_such_file, syntax, limit, bad_config, bad_pattern, pattern_size, no_function, no_data, mixed, bad_data, no_source, read_fault, write_fault, shelf_fault, vault_fault, no_memory, import_failed, PlainWhy}
use Rattle.cov_words.specs.Values.{Word}
use Rattle.cov_step.specs.Calls.{Call, spells, checks, reads, puts, opens, lists, loads, saves, removes, makes, writes, crosses, measures, tries, tests, selects, judges, says, Answer}
use Rattle.cov_step.specs.Commands.{combine}
use Rattle.cov_step.specs.Promises.{keeps}

-- an answer that leaves the files as they were
abbrev pub leaves_files : (call : Call) → Answer call → Bool
leaves_files (spells words) answer = true
leaves_files (checks bytes) reading = true
leaves_files (reads name most) answer = true
leaves_files (puts name bytes) refusal = false
leaves_files (opens name script) answer = true
leaves_files lists answer = true
leaves_files (loads name) answer = true
leaves_files (saves name content) refusal = true
leaves_files (removes name) refusal = true
leaves_files (makes texts) refusal = true
leaves_files (writes bytes) refusal = true
leaves_files (crosses modules words budget) answer = true
leaves_files (measures asked modules hook) answer = true
leaves_files (tries modules words budget) answer = true
leaves_files (tests asked modules) answer = true
leaves_files (selects budget before after) answer = true
leaves_files (judges budget modules) answer = true
leaves_files (says text) answer = true

-- a refusal after which the combined data may be saved and some inputs removed
abbrev pub may_change : Refusal → Bool
may_change (usage words) = false
may_change (no_such_file name) = false
may_change (syntax file line kind) = false
may_change (limit kind n) = false
may_change (bad_config key) = false
may_change (bad_pattern at) = false
may_change (pattern_size at) = false
may_change (no_function name) = false
may_change (no_data name) = false
may_change (mixed first other) = false
may_change (bad_data name kind) = false
may_change (no_source path) = false
may_change read_fault = false
may_change write_fault = false
may_change shelf_fault = false
may_change vault_fault = true
may_change no_memory = true
may_change (import_failed file) = false

-- an answer that is no refusal, or one of those
abbrev pub after_changes : PlainWhy → Bool
after_changes (Ok ended) = true
after_changes (Err refusal) = may_change refusal

-- `combine` is refused by the others before it changed data, and it puts no file.
pub record CombineLaw : Type 0 where
  pub early :
      (append kept : Bool) (data_file rcfile : Option Word) (names : List Word)
      → IsLate keeps after_changes (combine append kept data_file rcfile names)
  pub files :
      (append kept : Bool) (data_file rcfile : Option Word) (names : List Word)
      → OnlyKeeps leaves_files (combine append kept data_file rcfile names)
