-- The exit statuses of answers.
use Rattle.std.specs.Prelude.{ℕ, if◌then◌else◌, ◌&&◌, ◌==◌, Ok, Err}
use Rattle.cov_why.specs.Answers.{Refusal, usage, no_such_file, syntax, limit, bad_config, bad_pattern, pattern_size, no_function, no_data, mixed, bad_data, no_source, read_fault, write_fault, shelf_fault, vault_fault, no_memory, import_failed, Ended, finished, program, budget, under, tests, PlainWhy}

-- what a refusal blames: what was asked for, the outside, or want of memory
pub data Cause : Type 0 where
  request : Cause
  outside : Cause
  memory : Cause

-- what each refusal blames
abbrev pub cause_of : Refusal → Cause
cause_of (usage words) = request
cause_of (no_such_file name) = request
cause_of (syntax file line kind) = request
cause_of (limit kind n) = request
cause_of (bad_config key) = request
cause_of (bad_pattern at) = request
cause_of (pattern_size at) = request
cause_of (no_function name) = request
cause_of (no_data name) = request
cause_of (mixed first other) = request
cause_of (bad_data name kind) = request
cause_of (no_source path) = request
cause_of read_fault = outside
cause_of write_fault = outside
cause_of shelf_fault = outside
cause_of vault_fault = outside
cause_of no_memory = memory
cause_of (import_failed file) = request

-- its status (74 as in sysexits.h, 70 for want of memory)
abbrev pub cause_status : Cause → ℕ
cause_status request = 1
cause_status outside = 74
cause_status memory = 70

-- the status of tests: 0 where none failed and none was cut
abbrev pub tests_status : ℕ → ℕ → ℕ
tests_status failed cut = if failed == 0 && cut == 0 then 0 else 1

-- the status of a command that wasn't refused (75 as in sysexits.h)
abbrev pub ended_status : Ended → ℕ
ended_status finished = 0
ended_status (program status) = status
ended_status (budget steps) = 75
ended_status (under covered all) = 2
ended_status (tests passed failed cut) = tests_status failed cut

-- the exit status of an answer
abbrev pub status_of : PlainWhy → ℕ
status_of (Ok ended) = ended_status ended
status_of (Err refusal) = cause_status (cause_of refusal)
