-- Refusals that come before anything is run or written.
--     leaves_streams               an answer that leaves input and output as they were
--     comes_late, late_in_run, late_in_suite    a refusal that may come after a run or a write
--     late_of, is_late             the same of a command, and of an answer
--     EarlyLaw                     the others come before
--     leaves_output                an answer that leaves the output as it was
--     imports_tests, ImportLaw     an import of tests that failed comes before any output
use Rattle.std.specs.Prelude.{◌≡◌, Bool, true, false, Ok, Err}
use Rattle.cov_programs.specs.Laws.{IsLate}
use Rattle.cov_why.specs.Answers.{Refusal, usage, no_such_file, syntax, limit, bad_config, bad_pattern, pattern_size, no_function, no_data, mixed, bad_data, no_source, read_fault, write_fault, shelf_fault, vault_fault, no_memory, import_failed, PlainWhy}
use Rattle.cov_words.specs.Commands.{PlainCommand}
use Rattle.cov_words.specs.Commands as plain
use Rattle.cov_step.specs.Calls.{Call, spells, checks, reads, puts, opens, lists, loads, saves, removes, makes, writes, crosses, measures, tries, tests, selects, judges, says, Answer}
use Rattle.cov_step.specs.Promises.{has_one_text}
use Rattle.cov_step.specs.Step.{doing}

-- an answer that leaves input, output, plugins and engine as they were
abbrev pub leaves_streams : (call : Call) → Answer call → Bool
leaves_streams (spells words) answer = true
leaves_streams (checks bytes) reading = true
leaves_streams (reads name most) answer = true
leaves_streams (puts name bytes) refusal = true
leaves_streams (opens name script) answer = true
leaves_streams lists answer = true
leaves_streams (loads name) answer = true
leaves_streams (saves name content) refusal = true
leaves_streams (removes name) refusal = true
leaves_streams (makes texts) refusal = true
leaves_streams (writes bytes) refusal = false
leaves_streams (crosses modules words budget) answer = false
leaves_streams (measures asked modules hook) answer = false
leaves_streams (tries modules words budget) answer = true
leaves_streams (tests asked modules) answer = false
leaves_streams (selects budget before after) answer = true
leaves_streams (judges budget modules) answer = true
leaves_streams (says text) answer = true

-- a refusal that may come after a run or a write
abbrev pub comes_late : Refusal → Bool
comes_late (usage words) = false
comes_late (no_such_file name) = false
comes_late (syntax file line kind) = false
comes_late (limit kind n) = false
comes_late (bad_config key) = false
comes_late (bad_pattern at) = false
comes_late (pattern_size at) = false
comes_late (no_function name) = false
comes_late (no_data name) = false
comes_late (mixed first other) = false
comes_late (bad_data name kind) = false
comes_late (no_source path) = false
comes_late read_fault = true
comes_late write_fault = true
comes_late shelf_fault = true
comes_late vault_fault = true
comes_late no_memory = true
comes_late (import_failed file) = false

-- a vault that tells nothing may besides answer to a run's save that its target isn't of schema 7
abbrev pub late_in_run : Refusal → Bool
late_in_run (usage words) = false
late_in_run (no_such_file name) = false
late_in_run (syntax file line kind) = false
late_in_run (limit kind n) = false
late_in_run (bad_config key) = false
late_in_run (bad_pattern at) = false
late_in_run (pattern_size at) = false
late_in_run (no_function name) = false
late_in_run (no_data name) = false
late_in_run (mixed first other) = false
late_in_run (bad_data name kind) = true
late_in_run (no_source path) = false
late_in_run read_fault = true
late_in_run write_fault = true
late_in_run shelf_fault = true
late_in_run vault_fault = true
late_in_run no_memory = true
late_in_run (import_failed file) = false

-- so it may to that of tests, whose import may fail besides
abbrev pub late_in_suite : Refusal → Bool
late_in_suite (import_failed file) = true
late_in_suite refusal = late_in_run refusal

-- which come late, of a command
abbrev pub late_of : PlainCommand → Refusal → Bool
late_of (plain.arcs budget script args) = comes_late
late_of (plain.run branch append context budget hook data_file rcfile script args) = late_in_run
late_of (plain.combine append keep data_file rcfile names) = comes_late
late_of (plain.report show_missing fail_under data_file rcfile) = comes_late
late_of (plain.json name fail_under data_file rcfile) = comes_late
late_of (plain.lcov name fail_under data_file rcfile) = comes_late
late_of (plain.annotate data_file rcfile file) = comes_late
late_of (plain.erase data_file rcfile) = comes_late
late_of (plain.script file) = comes_late
late_of (plain.make seed size) = comes_late
late_of (plain.suite branch budget data_file rcfile file) = late_in_suite
late_of (plain.select budget old new) = comes_late
late_of (plain.mutate budget file) = comes_late

-- an answer that is no refusal, or one of those
abbrev pub is_late : (Refusal → Bool) → PlainWhy → Bool
is_late late (Ok ended) = true
is_late late (Err refusal) = late refusal

-- A command of one text is refused by the others before it runs anything on its objects or
-- writes anything.
abbrev pub EarlyLaw : Type 0
EarlyLaw =
    (c : PlainCommand) → has_one_text c ≡ true
    → IsLate leaves_streams (is_late (late_of c)) (doing c)

-- an answer that leaves the output as it was; tests write nothing to it
abbrev pub leaves_output : (call : Call) → Answer call → Bool
leaves_output (spells words) answer = true
leaves_output (checks bytes) reading = true
leaves_output (reads name most) answer = true
leaves_output (puts name bytes) refusal = true
leaves_output (opens name script) answer = true
leaves_output lists answer = true
leaves_output (loads name) answer = true
leaves_output (saves name content) refusal = true
leaves_output (removes name) refusal = true
leaves_output (makes texts) refusal = true
leaves_output (writes bytes) refusal = false
leaves_output (crosses modules words budget) answer = false
leaves_output (measures asked modules hook) answer = false
leaves_output (tries modules words budget) answer = true
leaves_output (tests asked modules) answer = true
leaves_output (selects budget before after) answer = true
leaves_output (judges budget modules) answer = true
leaves_output (says text) answer = true

-- a command that imports a file of tests
abbrev pub imports_tests : PlainCommand → Bool
imports_tests (plain.arcs budget script args) = false
imports_tests (plain.run branch append context budget hook data_file rcfile script args) = false
imports_tests (plain.combine append keep data_file rcfile names) = false
imports_tests (plain.report show_missing fail_under data_file rcfile) = false
imports_tests (plain.json name fail_under data_file rcfile) = false
imports_tests (plain.lcov name fail_under data_file rcfile) = false
imports_tests (plain.annotate data_file rcfile file) = false
imports_tests (plain.erase data_file rcfile) = false
imports_tests (plain.script file) = false
imports_tests (plain.make seed size) = false
imports_tests (plain.suite branch budget data_file rcfile file) = true
imports_tests (plain.select budget old new) = true
imports_tests (plain.mutate budget file) = true

-- Where that import failed, such a command is refused before anything is written.
abbrev pub ImportLaw : Type 0
ImportLaw =
    (c : PlainCommand) → imports_tests c ≡ true
    → IsLate leaves_output (is_late late_in_run) (doing c)
