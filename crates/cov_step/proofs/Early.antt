-- Commands are refused before they run or write anything, but for faults and the like.
use Rattle.std.proofs.Common.{◌≡◌, ℕ, Bool, true, false, if◌then◌else◌, true≢false, refl, sym, List, [], ◌∷◌, Option, Some, None, Result, Ok, Err}
use Rattle.std.specs.Prelude.{◌||◌, codes}
use Rattle.std.specs.Str.{bytes_eq}
use Rattle.cov_outside.specs.declared.sink.SinkError.{SinkError}
use Rattle.cov_outside.specs.declared.sink.SinkError.TheVariants as sink_error
use Rattle.py_builtins.specs.declared.fault.RunFault.{RunFault}
use Rattle.py_builtins.specs.declared.fault.RunFault.TheVariants as run_fault
use Rattle.py_meaning.specs.Modules.{LoadedModule}
use Rattle.cov_config.specs.Settings.{no_cover, no_branch}
use Rattle.cov_data.specs.DataSet.{DataSet}
use Rattle.cov_json.specs.Json.{json_bytes}
use Rattle.cov_lcov.specs.Annotated.{annotated_bytes}
use Rattle.cov_lcov.specs.Lcov.{lcov_bytes}
use Rattle.cov_make.specs.Source as made
use Rattle.cov_programs.specs.Programs.{settle, ask, bind}
use Rattle.cov_programs.specs.Laws.{OnlyKeeps, OnlyRefuses, IsLate}
use Rattle.cov_programs.proofs.Late.{then-refuses, then-late, keeps-late, refuses-late}
use Rattle.cov_text.specs.Report.{text_bytes}
use Rattle.cov_vault.specs.declared.vault.VaultError.{VaultError}
use Rattle.cov_vault.specs.declared.vault.VaultError.TheVariants as vault_error
use Rattle.cov_why.specs.Answers.{Refusal, read_fault, write_fault, no_memory}
use Rattle.cov_words.specs.Commands.{PlainCommand}
use Rattle.cov_words.specs.Commands as plain
use Rattle.cov_words.specs.Values.{Word}
use Rattle.cov_step.specs.Calls.{Answered, PlainSource, Patterns, HookFiles, Asked, Ran, TestsAsked, TestResult, AfterImport, came, not_imported, starved, Step, puts, writes}
use Rattle.cov_step.specs.Answers.{given_or, run_refusal, shelf_refusal, sink_refusal, vault_refusal, last, on, tree_of}
use Rattle.cov_step.specs.Phases.{needed, before, main_name, opened, settings, own_name, patterns_by, patterns, source, hook_of, joins, joined, analysed, reported, judged, done, write_last, put_last, save_last, remove_last, answered_by}
use Rattle.cov_step.specs.Listing.{listing}
use Rattle.cov_step.specs.Names.{or_else}
use Rattle.cov_step.specs.Commands as the
use Rattle.cov_step.specs.Making.{made_path, ran_if_any, made_line, made_by, make}
use Rattle.cov_step.specs.Mutating.{mutation_lines, judged_in, mutate}
use Rattle.cov_step.specs.Selecting.{selection_lines, selected_in, select}
use Rattle.cov_step.specs.Step.{doing}
use Rattle.cov_step.specs.Testing.{tests_name, tests_asked, suite_lines, suite_answered, came_or, tests_run, suite}
use Rattle.cov_step.specs.Early.{leaves_streams, comes_late, late_in_run, late_in_suite, late_of, is_late, leaves_output, ImportLaw}
use Rattle.cov_step.specs.Promises.{has_one_text}
use Rattle.cov_step.proofs.Answering.{given-so, last-so, before-so, removed-so, tree-so, came-so, ran-so}
use Rattle.cov_step.proofs.Combining.{combine-keeps}
use Rattle.cov_step.proofs.Keeping.{KeepReading, opened-keeps, needed-keeps, settings-keeps, hook-keeps, joins-keeps, patterns_by-keeps, patterns-keeps, source-keeps, reported-keeps}

-- reading leaves the streams as they were
pub streams-reading : KeepReading leaves_streams
streams-reading = record {
  at_reads = λ name most x. refl;
  at_opens = λ name script x. refl;
  at_checks = λ bytes x. refl;
  at_makes = λ texts x. refl;
  at_loads = λ name x. refl;
}

abbrev Early : {A : Type 0} → Step A → Type 0
Early p = IsLate leaves_streams (is_late comes_late) p

abbrev EarlyInRun : {A : Type 0} → Step A → Type 0
EarlyInRun p = IsLate leaves_streams (is_late late_in_run) p

-- ---- the last calls

sink-refuses : (a : Answered) (x : Option SinkError) → OnlyRefuses (is_late comes_late) (last sink_refusal a x)
sink-refuses a None = tt
sink-refuses a (Some sink_error.Failed) = refl
sink-refuses a (Some sink_error.NoMemory) = refl

write-early : (bytes : List ℕ) (a : Answered) → Early (write_last bytes a)
write-early bytes a = λ x. (λ e. sink-refuses a x, keeps-late (is_late comes_late) leaves_streams (last sink_refusal a x) (last-so leaves_streams sink_refusal a x))

if-early : (b : Bool) (p q : Step Answered) → Early p → Early q → Early (if b then p else q)
if-early true p q h g = h
if-early false p q h g = g

put-early : (name : Word) (bytes : List ℕ) (a : Answered) → Early (put_last name bytes a)
put-early name bytes a = if-early (bytes_eq name (codes "-")) (write_last bytes a) (ask (puts name bytes) (last shelf_refusal a)) (write-early bytes a)
    (keeps-late (is_late comes_late) leaves_streams (ask (puts name bytes) (last shelf_refusal a)) (λ x. (refl, last-so leaves_streams shelf_refusal a x)))

vault-refuses : (name : Word) (a : Answered) (x : Option VaultError) → OnlyRefuses (is_late late_in_run) (last (vault_refusal name) a x)
vault-refuses name a None = tt
vault-refuses name a (Some vault_error.Absent) = refl
vault-refuses name a (Some vault_error.NotSchema7) = refl
vault-refuses name a (Some (vault_error.BadRow i)) = refl
vault-refuses name a (Some vault_error.Failed) = refl
vault-refuses name a (Some vault_error.NoMemory) = refl

save-late : (name : Word) (content : DataSet) (a : Answered) → EarlyInRun (save_last name content a)
save-late name content a = keeps-late (is_late late_in_run) leaves_streams (save_last name content a) (λ x. (refl, last-so leaves_streams (vault_refusal name) a x))

run-refuses : (late : Refusal → Bool) → late read_fault ≡ true → late write_fault ≡ true → late no_memory ≡ true → (x : Result Ran RunFault) → OnlyRefuses (is_late late) (given_or run_refusal x)
run-refuses late r w n (Ok ran) = tt
run-refuses late r w n (Err run_fault.ReadFault) = r
run-refuses late r w n (Err run_fault.WriteFault) = w
run-refuses late r w n (Err run_fault.NoMemory) = n

-- ---- the commands

arcs-early : (steps : Option ℕ) (script : Word) (args : List Word) → Early (the.arcs steps script args)
arcs-early steps script args =
    then-late (is_late comes_late) leaves_streams (opened main_name script) _ (opened-keeps leaves_streams streams-reading main_name script) (λ ms x. (
      λ e. then-refuses (is_late comes_late) (given_or run_refusal x) (λ r. write_last (listing r.rows) (answered_by (or_else steps the.usual_steps) r.outcome)) (run-refuses comes_late refl refl refl x) (λ r y. sink-refuses (answered_by (or_else steps the.usual_steps) r.outcome) y),
      then-late (is_late comes_late) leaves_streams (given_or run_refusal x) _ (given-so leaves_streams run_refusal x) (λ r. write-early (listing r.rows) (answered_by (or_else steps the.usual_steps) r.outcome)),
    ))

measured-early : (own : Word) (asked : Asked) (ms : List LoadedModule) (hook : Option HookFiles) (old : Option DataSet) → EarlyInRun (the.measured own asked ms hook old)
measured-early own asked ms hook old = λ x. (
  λ e. then-refuses (is_late late_in_run) (given_or run_refusal x) (λ r. save_last own (joined old r.rows) (answered_by asked.budget r.outcome)) (run-refuses late_in_run refl refl refl x) (λ r y. vault-refuses own (answered_by asked.budget r.outcome) y),
  then-late (is_late late_in_run) leaves_streams (given_or run_refusal x) _ (given-so leaves_streams run_refusal x) (λ r. save-late own (joined old r.rows) (answered_by asked.budget r.outcome)),
)

before-keeps : (name : Word) → OnlyKeeps leaves_streams (before name)
before-keeps name = λ x. (refl, before-so leaves_streams name x)

run_by-early : (own : Word) (append : Bool) (asked : Asked) (hook : Option (Word × Word)) (script : Word) → EarlyInRun (the.run_by own append asked hook script)
run_by-early own append asked hook script =
    then-late (is_late late_in_run) leaves_streams (opened main_name script) _ (opened-keeps leaves_streams streams-reading main_name script) (λ ms.
    then-late (is_late late_in_run) leaves_streams (hook_of hook) _ (hook-keeps leaves_streams streams-reading hook) (λ h.
    then-late (is_late late_in_run) leaves_streams (before own) _ (before-keeps own) (λ was.
    then-late (is_late late_in_run) leaves_streams (joins append own asked.arcs was) _ (joins-keeps leaves_streams streams-reading append own asked.arcs was) (λ old. measured-early own asked ms h old))))

run-early : (branch append : Bool) (context : Option Word) (steps : Option ℕ) (hook : Option (Word × Word)) (data_file rcfile : Option Word) (script : Word) (args : List Word)
    → EarlyInRun (the.run branch append context steps hook data_file rcfile script args)
run-early branch append context steps hook data_file rcfile script args =
    then-late (is_late late_in_run) leaves_streams (settings rcfile) _ (settings-keeps leaves_streams streams-reading rcfile) (λ s. run_by-early (own_name data_file s) append (the.asked_by s branch context steps script args) (the.hook_named hook s.run.hook) script)

combine-early : (append keep : Bool) (data_file rcfile : Option Word) (named : List Word) → Early (the.combine append keep data_file rcfile named)
combine-early append keep data_file rcfile named = keeps-late (is_late comes_late) leaves_streams (the.combine append keep data_file rcfile named)
    (combine-keeps leaves_streams streams-reading (λ x. refl) (λ name content x. refl) (λ name x. refl) append keep data_file rcfile named)

report-early : (show : Bool) (fail_under : Option ℕ) (data_file rcfile : Option Word) → Early (the.report show fail_under data_file rcfile)
report-early show fail_under data_file rcfile = then-late (is_late comes_late) leaves_streams (reported data_file rcfile) _ (reported-keeps leaves_streams streams-reading data_file rcfile)
    (λ r. write-early (text_bytes r.files r.arcs (show || r.settings.report.show_missing)) (judged (or_else fail_under r.settings.report.fail_under) r.files))

json-early : (name : Option Word) (fail_under : Option ℕ) (data_file rcfile : Option Word) → Early (the.json name fail_under data_file rcfile)
json-early name fail_under data_file rcfile = then-late (is_late comes_late) leaves_streams (reported data_file rcfile) _ (reported-keeps leaves_streams streams-reading data_file rcfile)
    (λ r. put-early (or_else name (codes "coverage.json")) (json_bytes r.files r.arcs) (judged (or_else fail_under r.settings.report.fail_under) r.files))

lcov-early : (name : Option Word) (fail_under : Option ℕ) (data_file rcfile : Option Word) → Early (the.lcov name fail_under data_file rcfile)
lcov-early name fail_under data_file rcfile = then-late (is_late comes_late) leaves_streams (reported data_file rcfile) _ (reported-keeps leaves_streams streams-reading data_file rcfile)
    (λ r. put-early (or_else name (codes "coverage.lcov")) (lcov_bytes r.files r.arcs) (judged (or_else fail_under r.settings.report.fail_under) r.files))

annotate-early : (data_file rcfile : Option Word) (path : Word) → Early (the.annotate data_file rcfile path)
annotate-early data_file rcfile path =
    then-late (is_late comes_late) leaves_streams (settings rcfile) _ (settings-keeps leaves_streams streams-reading rcfile) (λ s.
    then-late (is_late comes_late) leaves_streams (patterns s.report) _ (patterns-keeps leaves_streams streams-reading s.report) (λ p.
    then-late (is_late comes_late) leaves_streams (needed (own_name data_file s)) _ (needed-keeps leaves_streams streams-reading (own_name data_file s)) (λ d.
    then-late (is_late comes_late) leaves_streams (source path) _ (source-keeps leaves_streams streams-reading path) (λ f. write-early (annotated_bytes (analysed p d f) f.text) done))))

erase-early : (data_file rcfile : Option Word) → Early (the.erase data_file rcfile)
erase-early data_file rcfile = then-late (is_late comes_late) leaves_streams (settings rcfile) _ (settings-keeps leaves_streams streams-reading rcfile)
    (λ s. keeps-late (is_late comes_late) leaves_streams (remove_last (own_name data_file s) done) (λ x. (refl, removed-so leaves_streams (settle done) tt x)))

made-early : (seed size : ℕ) (p : Patterns) (f : PlainSource) → Early (made_by seed size p f)
made-early seed size p f = λ x. (
  λ e. absurd (true≢false e),
  then-late (is_late comes_late) leaves_streams (ran_if_any x) _ (ran-so leaves_streams x) (λ r. write-early (made_line seed size p f r) done),
)

make-early : (seed size : ℕ) → Early (make seed size)
make-early seed size =
    then-late (is_late comes_late) leaves_streams (patterns_by (no_cover ∷ []) (no_branch ∷ [])) _ (patterns_by-keeps leaves_streams streams-reading (no_cover ∷ []) (no_branch ∷ [])) (λ p x. (
      λ e. absurd (true≢false e),
      then-late (is_late comes_late) leaves_streams (tree_of made_path (made.source seed size) x) _ (tree-so leaves_streams made_path (made.source seed size) x) (made-early seed size p),
    ))

-- ---- tests: a bad target of their save and an import that failed may come late as well

abbrev EarlyInSuite : {A : Type 0} → Step A → Type 0
EarlyInSuite p = IsLate leaves_streams (is_late late_in_suite) p

tests-saved : (name : Word) (a : Answered) (x : Option VaultError) → OnlyRefuses (is_late late_in_suite) (last (vault_refusal name) a x)
tests-saved name a None = tt
tests-saved name a (Some vault_error.Absent) = refl
tests-saved name a (Some vault_error.NotSchema7) = refl
tests-saved name a (Some (vault_error.BadRow i)) = refl
tests-saved name a (Some vault_error.Failed) = refl
tests-saved name a (Some vault_error.NoMemory) = refl

tests-written : (x : Option SinkError) → OnlyRefuses (is_late late_in_suite) (on sink_refusal x)
tests-written None = tt
tests-written (Some sink_error.Failed) = refl
tests-written (Some sink_error.NoMemory) = refl

tests-refuse : {A : Type 0} (file : Word) (x : AfterImport A) → OnlyRefuses (is_late late_in_suite) (came_or file x)
tests-refuse file (came a) = tt
tests-refuse file not_imported = refl
tests-refuse file starved = refl

ending-refuses : (own : Word) (r : List TestResult × DataSet) → OnlyRefuses (is_late late_in_suite) (bind (ask (writes (suite_lines r.0)) (on sink_refusal)) (λ written. save_last own r.1 (suite_answered r.0)))
ending-refuses own r = λ y. then-refuses (is_late late_in_suite) (on sink_refusal y) (λ written. save_last own r.1 (suite_answered r.0)) (tests-written y) (λ written z. tests-saved own (suite_answered r.0) z)

tests_run-early : (own : Word) (asked : TestsAsked) (file : Word) (ms : List LoadedModule) → EarlyInSuite (tests_run own asked file ms)
tests_run-early own asked file ms = λ x. (
  λ e. then-refuses (is_late late_in_suite) (came_or file x) (λ r. bind (ask (writes (suite_lines r.0)) (on sink_refusal)) (λ written. save_last own r.1 (suite_answered r.0))) (tests-refuse file x) (ending-refuses own),
  refuses-late (is_late late_in_suite) leaves_streams _ (then-refuses (is_late late_in_suite) (came_or file x) (λ r. bind (ask (writes (suite_lines r.0)) (on sink_refusal)) (λ written. save_last own r.1 (suite_answered r.0))) (tests-refuse file x) (ending-refuses own)),
)

suite-early : (branch : Bool) (steps : Option ℕ) (data_file rcfile : Option Word) (file : Word) → EarlyInSuite (suite branch steps data_file rcfile file)
suite-early branch steps data_file rcfile file =
    then-late (is_late late_in_suite) leaves_streams (settings rcfile) _ (settings-keeps leaves_streams streams-reading rcfile) (λ s.
    then-late (is_late late_in_suite) leaves_streams (opened tests_name file) _ (opened-keeps leaves_streams streams-reading tests_name file) (λ ms.
    then-late (is_late late_in_suite) leaves_streams (before (own_name data_file s)) _ (before-keeps (own_name data_file s)) (λ was. tests_run-early (own_name data_file s) (tests_asked s branch steps) file ms)))

-- ---- tests of changes, which run on objects of their own

selected-early : (most : ℕ) (old : Word) (before after : List LoadedModule) → Early (selected_in most old before after)
selected-early most old before after = λ x. (
  λ e. absurd (true≢false e),
  then-late (is_late comes_late) leaves_streams (came_or old x) _ (came-so leaves_streams old x) (λ s. write-early (selection_lines s) done),
)

select-early : (steps : Option ℕ) (old new : Word) → Early (select steps old new)
select-early steps old new =
    then-late (is_late comes_late) leaves_streams (opened tests_name old) _ (opened-keeps leaves_streams streams-reading tests_name old) (λ before.
    then-late (is_late comes_late) leaves_streams (opened tests_name new) _ (opened-keeps leaves_streams streams-reading tests_name new) (λ after. selected-early (or_else steps the.usual_steps) old before after))

judged-early : (most : ℕ) (file : Word) (ms : List LoadedModule) → Early (judged_in most file ms)
judged-early most file ms = λ x. (
  λ e. absurd (true≢false e),
  then-late (is_late comes_late) leaves_streams (came_or file x) _ (came-so leaves_streams file x) (λ js. write-early (mutation_lines js) done),
)

mutate-early : (steps : Option ℕ) (file : Word) → Early (mutate steps file)
mutate-early steps file =
    then-late (is_late comes_late) leaves_streams (opened tests_name file) _ (opened-keeps leaves_streams streams-reading tests_name file) (λ ms. judged-early (or_else steps the.usual_steps) file ms)

pub law_of_early : (c : PlainCommand) → has_one_text c ≡ true → IsLate leaves_streams (is_late (late_of c)) (doing c)
law_of_early (plain.arcs steps script args) e = arcs-early steps script args
law_of_early (plain.run branch append context steps hook data_file rcfile script args) e = run-early branch append context steps hook data_file rcfile script args
law_of_early (plain.combine append keep data_file rcfile named) e = combine-early append keep data_file rcfile named
law_of_early (plain.report show fail_under data_file rcfile) e = report-early show fail_under data_file rcfile
law_of_early (plain.json name fail_under data_file rcfile) e = json-early name fail_under data_file rcfile
law_of_early (plain.lcov name fail_under data_file rcfile) e = lcov-early name fail_under data_file rcfile
law_of_early (plain.annotate data_file rcfile path) e = annotate-early data_file rcfile path
law_of_early (plain.erase data_file rcfile) e = erase-early data_file rcfile
law_of_early (plain.script file) e = absurd (true≢false (sym e))
law_of_early (plain.make seed size) e = make-early seed size
law_of_early (plain.suite branch steps data_file rcfile file) e = suite-early branch steps data_file rcfile file
law_of_early (plain.select steps old new) e = select-early steps old new
law_of_early (plain.mutate steps file) e = mutate-early steps file

-- ---- an import that failed

output-reading : KeepReading leaves_output
output-reading = record {
  at_reads = λ name most x. refl;
  at_opens = λ name script x. refl;
  at_checks = λ bytes x. refl;
  at_makes = λ texts x. refl;
  at_loads = λ name x. refl;
}

abbrev BeforeOutput : {A : Type 0} → Step A → Type 0
BeforeOutput p = IsLate leaves_output (is_late late_in_run) p

line-refuses : (x : Option SinkError) → OnlyRefuses (is_late late_in_run) (on sink_refusal x)
line-refuses None = tt
line-refuses (Some sink_error.Failed) = refl
line-refuses (Some sink_error.NoMemory) = refl

tests_run-before : (own : Word) (asked : TestsAsked) (file : Word) (ms : List LoadedModule) → BeforeOutput (tests_run own asked file ms)
tests_run-before own asked file ms = λ x. (
  λ e. absurd (true≢false e),
  then-late (is_late late_in_run) leaves_output (came_or file x) _ (came-so leaves_output file x) (λ r.
      refuses-late (is_late late_in_run) leaves_output (bind (ask (writes (suite_lines r.0)) (on sink_refusal)) (λ written. save_last own r.1 (suite_answered r.0)))
      (λ y. then-refuses (is_late late_in_run) (on sink_refusal y) (λ written. save_last own r.1 (suite_answered r.0)) (line-refuses y) (λ written z. vault-refuses own (suite_answered r.0) z))),
)

suite-before : (branch : Bool) (steps : Option ℕ) (data_file rcfile : Option Word) (file : Word) → BeforeOutput (suite branch steps data_file rcfile file)
suite-before branch steps data_file rcfile file =
    then-late (is_late late_in_run) leaves_output (settings rcfile) _ (settings-keeps leaves_output output-reading rcfile) (λ s.
    then-late (is_late late_in_run) leaves_output (opened tests_name file) _ (opened-keeps leaves_output output-reading tests_name file) (λ ms.
    then-late (is_late late_in_run) leaves_output (before (own_name data_file s)) _ (λ x. (refl, before-so leaves_output (own_name data_file s) x)) (λ was. tests_run-before (own_name data_file s) (tests_asked s branch steps) file ms)))

write-before : (bytes : List ℕ) (a : Answered) → BeforeOutput (write_last bytes a)
write-before bytes a = refuses-late (is_late late_in_run) leaves_output (write_last bytes a) (written a)
  where
    written : (a : Answered) (x : Option SinkError) → OnlyRefuses (is_late late_in_run) (last sink_refusal a x)
    written a None = tt
    written a (Some sink_error.Failed) = refl
    written a (Some sink_error.NoMemory) = refl

selected-before : (most : ℕ) (old : Word) (before after : List LoadedModule) → BeforeOutput (selected_in most old before after)
selected-before most old before after = λ x. (
  λ e. absurd (true≢false e),
  then-late (is_late late_in_run) leaves_output (came_or old x) _ (came-so leaves_output old x) (λ s. write-before (selection_lines s) done),
)

select-before : (steps : Option ℕ) (old new : Word) → BeforeOutput (select steps old new)
select-before steps old new =
    then-late (is_late late_in_run) leaves_output (opened tests_name old) _ (opened-keeps leaves_output output-reading tests_name old) (λ before.
    then-late (is_late late_in_run) leaves_output (opened tests_name new) _ (opened-keeps leaves_output output-reading tests_name new) (λ after. selected-before (or_else steps the.usual_steps) old before after))

judged-before : (most : ℕ) (file : Word) (ms : List LoadedModule) → BeforeOutput (judged_in most file ms)
judged-before most file ms = λ x. (
  λ e. absurd (true≢false e),
  then-late (is_late late_in_run) leaves_output (came_or file x) _ (came-so leaves_output file x) (λ js. write-before (mutation_lines js) done),
)

mutate-before : (steps : Option ℕ) (file : Word) → BeforeOutput (mutate steps file)
mutate-before steps file =
    then-late (is_late late_in_run) leaves_output (opened tests_name file) _ (opened-keeps leaves_output output-reading tests_name file) (λ ms. judged-before (or_else steps the.usual_steps) file ms)

pub law_of_import : ImportLaw
law_of_import (plain.arcs steps script args) e = absurd (true≢false (sym e))
law_of_import (plain.run branch append context steps hook data_file rcfile script args) e = absurd (true≢false (sym e))
law_of_import (plain.combine append keep data_file rcfile named) e = absurd (true≢false (sym e))
law_of_import (plain.report show fail_under data_file rcfile) e = absurd (true≢false (sym e))
law_of_import (plain.json name fail_under data_file rcfile) e = absurd (true≢false (sym e))
law_of_import (plain.lcov name fail_under data_file rcfile) e = absurd (true≢false (sym e))
law_of_import (plain.annotate data_file rcfile path) e = absurd (true≢false (sym e))
law_of_import (plain.erase data_file rcfile) e = absurd (true≢false (sym e))
law_of_import (plain.script file) e = absurd (true≢false (sym e))
law_of_import (plain.make seed size) e = absurd (true≢false (sym e))
law_of_import (plain.suite branch steps data_file rcfile file) e = suite-before branch steps data_file rcfile file
law_of_import (plain.select steps old new) e = select-before steps old new
law_of_import (plain.mutate steps file) e = mutate-before steps file
