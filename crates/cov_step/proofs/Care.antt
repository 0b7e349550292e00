-- Commands are careful: a refusal leaves shelf and vault as they were.
use Rattle.std.proofs.Common.{◌≡◌, ℕ, Bool, true, false, if◌then◌else◌, true≢false, refl, sym, List, [], ◌∷◌, Option, Some, None}
use Rattle.std.specs.Prelude.{◌||◌, codes}
use Rattle.std.specs.Str.{bytes_eq}
use Rattle.cov_outside.specs.declared.shelf.ShelfError.{ShelfError}
use Rattle.py_meaning.specs.Modules.{LoadedModule}
use Rattle.cov_config.specs.Settings.{no_cover, no_branch}
use Rattle.cov_data.specs.DataSet.{DataSet}
use Rattle.cov_json.specs.Json.{json_bytes}
use Rattle.cov_lcov.specs.Annotated.{annotated_bytes}
use Rattle.cov_lcov.specs.Lcov.{lcov_bytes}
use Rattle.cov_make.specs.Source as made
use Rattle.cov_programs.specs.Programs.{settle, ask}
use Rattle.cov_programs.specs.Laws.{IsSettled, IsCareful}
use Rattle.cov_programs.proofs.Parts.{then-careful}
use Rattle.cov_text.specs.Report.{text_bytes}
use Rattle.cov_vault.specs.declared.vault.VaultError.{VaultError}
use Rattle.cov_vault.specs.declared.vault.VaultError.TheVariants as vault_error
use Rattle.cov_why.specs.Answers.{Refusal}
use Rattle.cov_words.specs.Commands.{PlainCommand}
use Rattle.cov_words.specs.Commands as plain
use Rattle.cov_words.specs.Values.{Word}
use Rattle.cov_step.specs.Calls.{Answered, PlainSource, Patterns, HookFiles, Asked, TestsAsked, Step, puts, saves, removes}
use Rattle.cov_step.specs.Answers.{given_or, before_of, run_refusal, shelf_refusal, sink_refusal, vault_refusal, removed, last, on, tree_of}
use Rattle.cov_step.specs.Phases.{needed, main_name, opened, settings, own_name, patterns_by, patterns, source, hook_of, joins, joined, analysed, reported, judged, done, write_last, put_last, save_last, remove_last, answered_by}
use Rattle.cov_step.specs.Listing.{listing}
use Rattle.cov_step.specs.Names.{or_else}
use Rattle.cov_step.specs.Commands as the
use Rattle.cov_step.specs.Making.{made_path, ran_if_any, made_line, made_by, make}
use Rattle.cov_step.specs.Mutating.{mutation_lines, judged_in, mutate}
use Rattle.cov_step.specs.Selecting.{selection_lines, selected_in, select}
use Rattle.cov_step.specs.Step.{doing}
use Rattle.cov_step.specs.Testing.{tests_name, tests_asked, suite_answered, came_or, tests_run, suite}
use Rattle.cov_step.specs.Promises.{keeps, changes_last}
use Rattle.cov_step.proofs.Answering.{given-so, on-so, before-so, tree-so, came-so, ran-so}
use Rattle.cov_step.proofs.Keeping.{KeepReading, opened-keeps, needed-keeps, settings-keeps, hook-keeps, joins-keeps, patterns_by-keeps, patterns-keeps, source-keeps, reported-keeps}

-- reading leaves shelf and vault as they were
pub keeps-reading : KeepReading keeps
keeps-reading = record {
  at_reads = λ name most x. refl;
  at_opens = λ name script x. refl;
  at_checks = λ bytes x. refl;
  at_makes = λ texts x. refl;
  at_loads = λ name x. refl;
}

-- ---- the last calls

last-careful : {E : Type 0} (why : E → Refusal) (a : Answered) (x : Option E) → IsCareful keeps (last why a x)
last-careful why a None = tt
last-careful why a (Some e) = tt

write-careful : (bytes : List ℕ) (a : Answered) → IsCareful keeps (write_last bytes a)
write-careful bytes a = λ x. (λ e. absurd (true≢false e), last-careful sink_refusal a x)

put-so : (name : Word) (bytes : List ℕ) (a : Answered) (x : Option ShelfError) → (keeps (puts name bytes) x ≡ false → IsSettled (last shelf_refusal a x)) × IsCareful keeps (last shelf_refusal a x)
put-so name bytes a None = (λ e. tt, tt)
put-so name bytes a (Some r) = (λ e. absurd (true≢false e), tt)

if-careful : (b : Bool) (p q : Step Answered) → IsCareful keeps p → IsCareful keeps q → IsCareful keeps (if b then p else q)
if-careful true p q h g = h
if-careful false p q h g = g

put-careful : (name : Word) (bytes : List ℕ) (a : Answered) → IsCareful keeps (put_last name bytes a)
put-careful name bytes a = if-careful (bytes_eq name (codes "-")) (write_last bytes a) (ask (puts name bytes) (last shelf_refusal a)) (write-careful bytes a) (λ x. put-so name bytes a x)

save-so : (name : Word) (content : DataSet) (a : Answered) (x : Option VaultError) → (keeps (saves name content) x ≡ false → IsSettled (last (vault_refusal name) a x)) × IsCareful keeps (last (vault_refusal name) a x)
save-so name content a None = (λ e. tt, tt)
save-so name content a (Some r) = (λ e. absurd (true≢false e), tt)

save-careful : (name : Word) (content : DataSet) (a : Answered) → IsCareful keeps (save_last name content a)
save-careful name content a = λ x. save-so name content a x

remove-so : (name : Word) (a : Answered) (x : Option VaultError) → (keeps (removes name) x ≡ false → IsSettled (removed (settle a) x)) × IsCareful keeps (removed (settle a) x)
remove-so name a None = (λ e. tt, tt)
remove-so name a (Some vault_error.Absent) = (λ e. tt, tt)
remove-so name a (Some vault_error.NotSchema7) = (λ e. absurd (true≢false e), tt)
remove-so name a (Some (vault_error.BadRow i)) = (λ e. absurd (true≢false e), tt)
remove-so name a (Some vault_error.Failed) = (λ e. absurd (true≢false e), tt)
remove-so name a (Some vault_error.NoMemory) = (λ e. absurd (true≢false e), tt)

remove-careful : (name : Word) (a : Answered) → IsCareful keeps (remove_last name a)
remove-careful name a = λ x. remove-so name a x

-- ---- the commands

arcs-careful : (steps : Option ℕ) (script : Word) (args : List Word) → IsCareful keeps (the.arcs steps script args)
arcs-careful steps script args =
    then-careful keeps (opened main_name script) _ (opened-keeps keeps keeps-reading main_name script) (λ ms x. (
      λ e. absurd (true≢false e),
      then-careful keeps (given_or run_refusal x) _ (given-so keeps run_refusal x) (λ r. write-careful (listing r.rows) (answered_by (or_else steps the.usual_steps) r.outcome)),
    ))

measured-careful : (own : Word) (asked : Asked) (ms : List LoadedModule) (hook : Option HookFiles) (old : Option DataSet) → IsCareful keeps (the.measured own asked ms hook old)
measured-careful own asked ms hook old = λ x. (
  λ e. absurd (true≢false e),
  then-careful keeps (given_or run_refusal x) _ (given-so keeps run_refusal x) (λ r. save-careful own (joined old r.rows) (answered_by asked.budget r.outcome)),
)

run_by-careful : (own : Word) (append : Bool) (asked : Asked) (hook : Option (Word × Word)) (script : Word) → IsCareful keeps (the.run_by own append asked hook script)
run_by-careful own append asked hook script =
    then-careful keeps (opened main_name script) _ (opened-keeps keeps keeps-reading main_name script) (λ ms.
    then-careful keeps (hook_of hook) _ (hook-keeps keeps keeps-reading hook) (λ h y. (
      λ e. absurd (true≢false e),
      then-careful keeps (before_of own y) _ (before-so keeps own y) (λ was.
          then-careful keeps (joins append own asked.arcs was) _ (joins-keeps keeps keeps-reading append own asked.arcs was) (λ old. measured-careful own asked ms h old)),
    )))

run-careful : (branch append : Bool) (context : Option Word) (steps : Option ℕ) (hook : Option (Word × Word)) (data_file rcfile : Option Word) (script : Word) (args : List Word)
    → IsCareful keeps (the.run branch append context steps hook data_file rcfile script args)
run-careful branch append context steps hook data_file rcfile script args =
    then-careful keeps (settings rcfile) _ (settings-keeps keeps keeps-reading rcfile) (λ s. run_by-careful (own_name data_file s) append (the.asked_by s branch context steps script args) (the.hook_named hook s.run.hook) script)

report-careful : (show : Bool) (fail_under : Option ℕ) (data_file rcfile : Option Word) → IsCareful keeps (the.report show fail_under data_file rcfile)
report-careful show fail_under data_file rcfile = then-careful keeps (reported data_file rcfile) _ (reported-keeps keeps keeps-reading data_file rcfile)
    (λ r. write-careful (text_bytes r.files r.arcs (show || r.settings.report.show_missing)) (judged (or_else fail_under r.settings.report.fail_under) r.files))

json-careful : (name : Option Word) (fail_under : Option ℕ) (data_file rcfile : Option Word) → IsCareful keeps (the.json name fail_under data_file rcfile)
json-careful name fail_under data_file rcfile = then-careful keeps (reported data_file rcfile) _ (reported-keeps keeps keeps-reading data_file rcfile)
    (λ r. put-careful (or_else name (codes "coverage.json")) (json_bytes r.files r.arcs) (judged (or_else fail_under r.settings.report.fail_under) r.files))

lcov-careful : (name : Option Word) (fail_under : Option ℕ) (data_file rcfile : Option Word) → IsCareful keeps (the.lcov name fail_under data_file rcfile)
lcov-careful name fail_under data_file rcfile = then-careful keeps (reported data_file rcfile) _ (reported-keeps keeps keeps-reading data_file rcfile)
    (λ r. put-careful (or_else name (codes "coverage.lcov")) (lcov_bytes r.files r.arcs) (judged (or_else fail_under r.settings.report.fail_under) r.files))

annotate-careful : (data_file rcfile : Option Word) (path : Word) → IsCareful keeps (the.annotate data_file rcfile path)
annotate-careful data_file rcfile path =
    then-careful keeps (settings rcfile) _ (settings-keeps keeps keeps-reading rcfile) (λ s.
    then-careful keeps (patterns s.report) _ (patterns-keeps keeps keeps-reading s.report) (λ p.
    then-careful keeps (needed (own_name data_file s)) _ (needed-keeps keeps keeps-reading (own_name data_file s)) (λ d.
    then-careful keeps (source path) _ (source-keeps keeps keeps-reading path) (λ f. write-careful (annotated_bytes (analysed p d f) f.text) done))))

erase-careful : (data_file rcfile : Option Word) → IsCareful keeps (the.erase data_file rcfile)
erase-careful data_file rcfile = then-careful keeps (settings rcfile) _ (settings-keeps keeps keeps-reading rcfile) (λ s. remove-careful (own_name data_file s) done)

made-careful : (seed size : ℕ) (p : Patterns) (f : PlainSource) → IsCareful keeps (made_by seed size p f)
made-careful seed size p f = λ x. (
  λ e. absurd (true≢false e),
  then-careful keeps (ran_if_any x) _ (ran-so keeps x) (λ r. write-careful (made_line seed size p f r) done),
)

make-careful : (seed size : ℕ) → IsCareful keeps (make seed size)
make-careful seed size =
    then-careful keeps (patterns_by (no_cover ∷ []) (no_branch ∷ [])) _ (patterns_by-keeps keeps keeps-reading (no_cover ∷ []) (no_branch ∷ [])) (λ p x. (
      λ e. absurd (true≢false e),
      then-careful keeps (tree_of made_path (made.source seed size) x) _ (tree-so keeps made_path (made.source seed size) x) (made-careful seed size p),
    ))

tests_run-careful : (own : Word) (asked : TestsAsked) (file : Word) (ms : List LoadedModule) → IsCareful keeps (tests_run own asked file ms)
tests_run-careful own asked file ms = λ x. (
  λ e. absurd (true≢false e),
  then-careful keeps (came_or file x) _ (came-so keeps file x) (λ r y. (
    λ e. absurd (true≢false e),
    then-careful keeps (on sink_refusal y) _ (on-so keeps sink_refusal y) (λ written. save-careful own r.1 (suite_answered r.0)),
  )),
)

suite-careful : (branch : Bool) (steps : Option ℕ) (data_file rcfile : Option Word) (file : Word) → IsCareful keeps (suite branch steps data_file rcfile file)
suite-careful branch steps data_file rcfile file =
    then-careful keeps (settings rcfile) _ (settings-keeps keeps keeps-reading rcfile) (λ s.
    then-careful keeps (opened tests_name file) _ (opened-keeps keeps keeps-reading tests_name file) (λ ms y. (
      λ e. absurd (true≢false e),
      then-careful keeps (before_of (own_name data_file s) y) _ (before-so keeps (own_name data_file s) y) (λ was. tests_run-careful (own_name data_file s) (tests_asked s branch steps) file ms),
    )))

selected-careful : (most : ℕ) (old : Word) (before after : List LoadedModule) → IsCareful keeps (selected_in most old before after)
selected-careful most old before after = λ x. (
  λ e. absurd (true≢false e),
  then-careful keeps (came_or old x) _ (came-so keeps old x) (λ s. write-careful (selection_lines s) done),
)

select-careful : (steps : Option ℕ) (old new : Word) → IsCareful keeps (select steps old new)
select-careful steps old new =
    then-careful keeps (opened tests_name old) _ (opened-keeps keeps keeps-reading tests_name old) (λ before.
    then-careful keeps (opened tests_name new) _ (opened-keeps keeps keeps-reading tests_name new) (λ after. selected-careful (or_else steps the.usual_steps) old before after))

judged-careful : (most : ℕ) (file : Word) (ms : List LoadedModule) → IsCareful keeps (judged_in most file ms)
judged-careful most file ms = λ x. (
  λ e. absurd (true≢false e),
  then-careful keeps (came_or file x) _ (came-so keeps file x) (λ js. write-careful (mutation_lines js) done),
)

mutate-careful : (steps : Option ℕ) (file : Word) → IsCareful keeps (mutate steps file)
mutate-careful steps file =
    then-careful keeps (opened tests_name file) _ (opened-keeps keeps keeps-reading tests_name file) (λ ms. judged-careful (or_else steps the.usual_steps) file ms)

pub law_of_care : (c : PlainCommand) → changes_last c ≡ true → IsCareful keeps (doing c)
law_of_care (plain.arcs steps script args) e = arcs-careful steps script args
law_of_care (plain.run branch append context steps hook data_file rcfile script args) e = run-careful branch append context steps hook data_file rcfile script args
law_of_care (plain.combine append keep data_file rcfile named) e = absurd (true≢false (sym e))
law_of_care (plain.report show fail_under data_file rcfile) e = report-careful show fail_under data_file rcfile
law_of_care (plain.json name fail_under data_file rcfile) e = json-careful name fail_under data_file rcfile
law_of_care (plain.lcov name fail_under data_file rcfile) e = lcov-careful name fail_under data_file rcfile
law_of_care (plain.annotate data_file rcfile path) e = annotate-careful data_file rcfile path
law_of_care (plain.erase data_file rcfile) e = erase-careful data_file rcfile
law_of_care (plain.script file) e = absurd (true≢false (sym e))
law_of_care (plain.make seed size) e = make-careful seed size
law_of_care (plain.suite branch steps data_file rcfile file) e = suite-careful branch steps data_file rcfile file
law_of_care (plain.select steps old new) e = select-careful steps old new
law_of_care (plain.mutate steps file) e = mutate-careful steps file
