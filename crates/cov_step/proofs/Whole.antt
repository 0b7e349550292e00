-- What holds of each command, where it holds of values, of refusals, of one part after another, and of each call with its answers.
use Rattle.std.proofs.Common.{◌≡◌, ℕ, Bool, true, false, if◌then◌else◌, refl, List, [], ◌∷◌, ◌++◌, Option, None, Ok}
use Rattle.std.specs.Prelude.{◌||◌, nat_le, codes}
use Rattle.std.specs.Str.{bytes_eq, chars, is_utf8}
use Rattle.std.specs.Str.Lines.{lines}
use Rattle.py_meaning.specs.Modules.{LoadedModule}
use Rattle.py_syntax.specs.Tree.{Text}
use Rattle.py_token.specs.Source.{line_count, most_lines}
use Rattle.cov_combine.specs.Aliases.{Rules, alias_of, rules_from}
use Rattle.cov_combine.specs.Combined.{combined}
use Rattle.cov_config.specs.Settings.{Settings, no_cover, no_branch}
use Rattle.cov_data.specs.DataSet.{DataSet}
use Rattle.cov_json.specs.Json.{json_bytes}
use Rattle.cov_lcov.specs.Annotated.{annotated_bytes}
use Rattle.cov_lcov.specs.Lcov.{lcov_bytes}
use Rattle.cov_make.specs.Source as made
use Rattle.cov_programs.specs.Programs.{give, ask, bind, each}
use Rattle.cov_run.specs.Reading.{fault_line}
use Rattle.cov_text.specs.Report.{text_bytes}
use Rattle.cov_why.specs.Answers.{Refusal, usage, no_such_file, syntax, limit}
use Rattle.cov_why.specs.Messages.{message_of}
use Rattle.cov_why.specs.declared.why.LimitKind.TheVariants as limits
use Rattle.cov_why.specs.declared.why.SyntaxKind.TheVariants as kinds
use Rattle.cov_words.specs.Commands.{PlainCommand}
use Rattle.cov_words.specs.Commands as plain
use Rattle.cov_words.specs.Values.{Word}
use Rattle.cov_step.specs.Calls.{Answered, PlainSource, Patterns, HookFiles, Asked, TestsAsked, Step, refuse, spells, checks, puts, makes, writes, crosses, measures, tries, tests, selects, judges, says}
use Rattle.cov_step.specs.Answers.{given_or, run_refusal, shelf_refusal, sink_refusal, pattern_refusal, last, on, tree_of}
use Rattle.cov_step.specs.Listing.{listing}
use Rattle.cov_step.specs.Names.{or_else, removable}
use Rattle.cov_step.specs.Phases.{file, needed, before, main_name, opened, settings_file, settings, own_name, patterns_by, patterns, source, hook_of, joins, joined, inputs, has_own, own_input, some_input, same_kind, saving, removing, removing_all, analysed, reported, judged, done, write_last, put_last, save_last, remove_last, answered_by}
use Rattle.cov_step.specs.Commands as the
use Rattle.cov_step.specs.Making.{made_path, made_module, ran_if_any, made_line, made_by, make}
use Rattle.cov_step.specs.Mutating.{mutation_lines, judged_in, mutate}
use Rattle.cov_step.specs.Selecting.{selection_lines, selected_in, select}
use Rattle.cov_step.specs.Testing.{tests_name, tests_asked, suite_lines, suite_answered, came_or, tests_run, suite_by}
use Rattle.cov_step.specs.Scripts.{inside, words_in, status_line, ended_in, line_done, is_comment, words_done, line_step, is_text, is_short, is_script, script_text, lines_done, script}
use Rattle.cov_step.specs.Step.{doing, step}
use Rattle.cov_step.specs.Promises.{blame_of}
use Rattle.cov_step.proofs.Parts.{settings-so, patterns_by-so, patterns-so, source-so, hook_of-so, joins-so, own_input-so, some_input-so, same_kind-so, reported-so}

module _ (P : (A : Type 0) → Step A → Type 0) (gives : (A : Type 0) (a : A) → P A (give a))
    (refuses : (A : Type 0) (r : Refusal) → blame_of r ≡ None → P A (refuse r))
    (binds : (A B : Type 0) (p : Step A) (next : A → Step B) → P A p → ((a : A) → P B (next a)) → P B (bind p next))
    (eachs : (A B : Type 0) (p : A → Step B) → ((a : A) → P B (p a)) → (xs : List A) → P (List B) (each p xs))
    (files : (absent : Refusal) → blame_of absent ≡ None → (name : Word) → P _ (file absent name))
    (usual : P _ (settings_file None))
    (opens : (name : Text) (script : Word) → P _ (opened name script))
    (checking : (path : Word) (bytes : List ℕ) → P _ (ask (checks bytes) (tree_of path bytes)))
    (making : (n : ℕ) (texts : List (List ℕ)) → P _ (ask (makes texts) (on (pattern_refusal n))))
    (needs : (name : Word) → P _ (needed name))
    (standing : (name : Word) → P _ (before name))
    (listed : (own : Word) (named : List Word) → P _ (inputs own named))
    (crossing : (ms : List LoadedModule) (words : List Text) (n : ℕ) → P _ (ask (crosses ms words n) (given_or run_refusal)))
    (measuring : (asked : Asked) (ms : List LoadedModule) (hook : Option HookFiles) → P _ (ask (measures asked ms hook) (given_or run_refusal)))
    (writing : (bytes : List ℕ) (a : Answered) → P _ (write_last bytes a))
    (putting : (name : Word) (bytes : List ℕ) (a : Answered) → P _ (ask (puts name bytes) (last shelf_refusal a)))
    (saves-last : (name : Word) (content : DataSet) (a : Answered) → P _ (save_last name content a))
    (saves-on : (name : Word) (content : DataSet) → P _ (saving name content))
    (removes-last : (name : Word) (a : Answered) → P _ (remove_last name a))
    (removes-on : (name : Word) → P _ (removing name))
    (trying : (ms : List LoadedModule) (words : List Text) (n : ℕ) → P _ (ask (tries ms words n) ran_if_any))
    (testing : (asked : TestsAsked) (ms : List LoadedModule) (file : Word) → P _ (ask (tests asked ms) (came_or file)))
    (selecting : (n : ℕ) (old new : List LoadedModule) (file : Word) → P _ (ask (selects n old new) (came_or file)))
    (judging : (n : ℕ) (ms : List LoadedModule) (file : Word) → P _ (ask (judges n ms) (came_or file)))
    (noting : (bytes : List ℕ) → P _ (ask (writes bytes) (on sink_refusal))) where
  settings-are : (rcfile : Option Word) → P _ (settings rcfile)
  settings-are rcfile = settings-so P gives refuses binds eachs files usual opens checking making rcfile

  reported-is : (data_file rcfile : Option Word) → P _ (reported data_file rcfile)
  reported-is data_file rcfile = reported-so P gives refuses binds eachs files usual opens checking making needs data_file rcfile

  either : {A : Type 0} (b : Bool) (p q : Step A) → P A p → P A q → P A (if b then p else q)
  either true p q h g = h
  either false p q h g = g

  put-is : (name : Word) (bytes : List ℕ) (a : Answered) → P _ (put_last name bytes a)
  put-is name bytes a = either (bytes_eq name (codes "-")) (write_last bytes a) (ask (puts name bytes) (last shelf_refusal a)) (writing bytes a) (putting name bytes a)

  arcs-is : (steps : Option ℕ) (script : Word) (args : List Word) → P _ (the.arcs steps script args)
  arcs-is steps script args = let most = or_else steps the.usual_steps in
      binds _ _ (opened main_name script) (λ ms. bind (ask (crosses ms (the.words_of script args) most) (given_or run_refusal)) (λ r. write_last (listing r.rows) (answered_by most r.outcome))) (opens main_name script) (λ ms.
      binds _ _ (ask (crosses ms (the.words_of script args) most) (given_or run_refusal)) (λ r. write_last (listing r.rows) (answered_by most r.outcome)) (crossing ms (the.words_of script args) most) (λ r.
      writing (listing r.rows) (answered_by most r.outcome)))

  measured-is : (own : Word) (asked : Asked) (ms : List LoadedModule) (hook : Option HookFiles) (old : Option DataSet) → P _ (the.measured own asked ms hook old)
  measured-is own asked ms hook old =
      binds _ _ (ask (measures asked ms hook) (given_or run_refusal)) (λ r. save_last own (joined old r.rows) (answered_by asked.budget r.outcome)) (measuring asked ms hook) (λ r.
      saves-last own (joined old r.rows) (answered_by asked.budget r.outcome))

  run_by-is : (own : Word) (append : Bool) (asked : Asked) (hook : Option (Word × Word)) (script : Word) → P _ (the.run_by own append asked hook script)
  run_by-is own append asked hook script =
      binds _ _ (opened main_name script) (λ ms. bind (hook_of hook) (λ h. bind (before own) (λ was. bind (joins append own asked.arcs was) (the.measured own asked ms h)))) (opens main_name script) (λ ms.
      binds _ _ (hook_of hook) (λ h. bind (before own) (λ was. bind (joins append own asked.arcs was) (the.measured own asked ms h))) (hook_of-so P gives refuses binds eachs files usual opens checking making hook) (λ h.
      binds _ _ (before own) (λ was. bind (joins append own asked.arcs was) (the.measured own asked ms h)) (standing own) (λ was.
      binds _ _ (joins append own asked.arcs was) (the.measured own asked ms h) (joins-so P gives refuses binds eachs files usual opens checking making append own asked.arcs was) (λ old.
      measured-is own asked ms h old))))

  combined-is : (own : Word) (rules : Rules) (keep : Bool) (others : List Word) (first : List DataSet) → P _ (the.combined_into own rules keep others first)
  combined-is own rules keep others first = let gone = removable own [] others in
      binds _ _ (each needed others) (λ rest. bind (same_kind (first ++ rest)) (λ all. bind (saving own (combined (alias_of rules) all)) (λ a. bind (removing_all keep gone) (λ b. give done)))) (eachs _ _ needed needs others) (λ rest.
      binds _ _ (same_kind (first ++ rest)) (λ all. bind (saving own (combined (alias_of rules) all)) (λ a. bind (removing_all keep gone) (λ b. give done))) (same_kind-so P gives refuses binds eachs files usual opens checking making (first ++ rest)) (λ all.
      binds _ _ (saving own (combined (alias_of rules) all)) (λ a. bind (removing_all keep gone) (λ b. give done)) (saves-on own (combined (alias_of rules) all)) (λ a.
      binds _ _ (removing_all keep gone) (λ b. give done) (all-go keep gone) (λ b. gives _ done))))
    where
      all-go : (k : Bool) (names : List Word) → P _ (removing_all k names)
      all-go true names = gives _ []
      all-go false names = eachs _ _ removing removes-on names

  combine_by-is : (own : Word) (rules : Rules) (append keep : Bool) (named : List Word) → P _ (the.combine_by own rules append keep named)
  combine_by-is own rules append keep named =
      binds _ _ (before own) (λ was. bind (inputs own named) (λ others. bind (some_input own (has_own append was) others) (λ a. bind (own_input append own was) (the.combined_into own rules keep others)))) (standing own) (λ was.
      binds _ _ (inputs own named) (λ others. bind (some_input own (has_own append was) others) (λ a. bind (own_input append own was) (the.combined_into own rules keep others))) (listed own named) (λ others.
      binds _ _ (some_input own (has_own append was) others) (λ a. bind (own_input append own was) (the.combined_into own rules keep others)) (some_input-so P gives refuses binds eachs files usual opens checking making own (has_own append was) others) (λ a.
      binds _ _ (own_input append own was) (the.combined_into own rules keep others) (own_input-so P gives refuses binds eachs files usual opens checking making append own was) (λ first.
      combined-is own rules keep others first))))

  annotated-is : (data_file : Option Word) (path : Word) (s : Settings) → P _ (bind (patterns s.report) (λ p. bind (needed (own_name data_file s)) (λ d. bind (source path) (λ f. write_last (annotated_bytes (analysed p d f) f.text) done))))
  annotated-is data_file path s =
      binds _ _ (patterns s.report) (λ p. bind (needed (own_name data_file s)) (λ d. bind (source path) (λ f. write_last (annotated_bytes (analysed p d f) f.text) done))) (patterns-so P gives refuses binds eachs files usual opens checking making s.report) (λ p.
      binds _ _ (needed (own_name data_file s)) (λ d. bind (source path) (λ f. write_last (annotated_bytes (analysed p d f) f.text) done)) (needs (own_name data_file s)) (λ d.
      binds _ _ (source path) (λ f. write_last (annotated_bytes (analysed p d f) f.text) done) (source-so P gives refuses binds eachs files usual opens checking making path) (λ f.
      writing (annotated_bytes (analysed p d f) f.text) done)))

  made_by-is : (seed size : ℕ) (p : Patterns) (f : PlainSource) → P _ (made_by seed size p f)
  made_by-is seed size p f = let tried = ask (tries (made_module f ∷ []) (the.words_of f.path []) the.usual_steps) ran_if_any in
      binds _ _ tried (λ r. write_last (made_line seed size p f r) done) (trying (made_module f ∷ []) (the.words_of f.path []) the.usual_steps) (λ r.
      writing (made_line seed size p f r) done)

  make-is : (seed size : ℕ) → P _ (make seed size)
  make-is seed size = let text = made.source seed size in
      binds _ _ (patterns_by (no_cover ∷ []) (no_branch ∷ [])) (λ p. bind (ask (checks text) (tree_of made_path text)) (made_by seed size p)) (patterns_by-so P gives refuses binds eachs files usual opens checking making (no_cover ∷ []) (no_branch ∷ [])) (λ p.
      binds _ _ (ask (checks text) (tree_of made_path text)) (made_by seed size p) (checking made_path text) (made_by-is seed size p))

  tests_run-is : (own : Word) (asked : TestsAsked) (file : Word) (ms : List LoadedModule) → P _ (tests_run own asked file ms)
  tests_run-is own asked file ms =
      binds _ _ (ask (tests asked ms) (came_or file)) (λ r. bind (ask (writes (suite_lines r.0)) (on sink_refusal)) (λ written. save_last own r.1 (suite_answered r.0))) (testing asked ms file) (λ r.
      binds _ _ (ask (writes (suite_lines r.0)) (on sink_refusal)) (λ written. save_last own r.1 (suite_answered r.0)) (noting (suite_lines r.0)) (λ written.
      saves-last own r.1 (suite_answered r.0)))

  suite_by-is : (own : Word) (asked : TestsAsked) (file : Word) → P _ (suite_by own asked file)
  suite_by-is own asked file =
      binds _ _ (opened tests_name file) (λ ms. bind (before own) (λ was. tests_run own asked file ms)) (opens tests_name file) (λ ms.
      binds _ _ (before own) (λ was. tests_run own asked file ms) (standing own) (λ was. tests_run-is own asked file ms))

  selected-is : (most : ℕ) (old : Word) (before after : List LoadedModule) → P _ (selected_in most old before after)
  selected-is most old before after =
      binds _ _ (ask (selects most before after) (came_or old)) (λ selection. write_last (selection_lines selection) done) (selecting most before after old) (λ selection.
      writing (selection_lines selection) done)

  select-is : (steps : Option ℕ) (old new : Word) → P _ (select steps old new)
  select-is steps old new = let most = or_else steps the.usual_steps in
      binds _ _ (opened tests_name old) (λ before. bind (opened tests_name new) (selected_in most old before)) (opens tests_name old) (λ before.
      binds _ _ (opened tests_name new) (selected_in most old before) (opens tests_name new) (selected-is most old before))

  judged-is : (most : ℕ) (file : Word) (ms : List LoadedModule) → P _ (judged_in most file ms)
  judged-is most file ms =
      binds _ _ (ask (judges most ms) (came_or file)) (λ js. write_last (mutation_lines js) done) (judging most ms file) (λ js.
      writing (mutation_lines js) done)

  mutate-is : (steps : Option ℕ) (file : Word) → P _ (mutate steps file)
  mutate-is steps file = let most = or_else steps the.usual_steps in
      binds _ _ (opened tests_name file) (judged_in most file) (opens tests_name file) (judged-is most file)

  pub inside-is : (c : PlainCommand) → P _ (inside c)
  inside-is (plain.arcs steps script args) = arcs-is steps script args
  inside-is (plain.run branch append context steps hook data_file rcfile script args) =
      binds _ _ (settings rcfile) (λ s. the.run_by (own_name data_file s) append (the.asked_by s branch context steps script args) (the.hook_named hook s.run.hook) script) (settings-are rcfile) (λ s.
      run_by-is (own_name data_file s) append (the.asked_by s branch context steps script args) (the.hook_named hook s.run.hook) script)
  inside-is (plain.combine append keep data_file rcfile named) =
      binds _ _ (settings rcfile) (λ s. the.combine_by (own_name data_file s) (rules_from s.paths) append keep named) (settings-are rcfile) (λ s. combine_by-is (own_name data_file s) (rules_from s.paths) append keep named)
  inside-is (plain.report show fail_under data_file rcfile) =
      binds _ _ (reported data_file rcfile) (λ r. write_last (text_bytes r.files r.arcs (show || r.settings.report.show_missing)) (judged (or_else fail_under r.settings.report.fail_under) r.files)) (reported-is data_file rcfile) (λ r.
      writing (text_bytes r.files r.arcs (show || r.settings.report.show_missing)) (judged (or_else fail_under r.settings.report.fail_under) r.files))
  inside-is (plain.json name fail_under data_file rcfile) =
      binds _ _ (reported data_file rcfile) (λ r. put_last (or_else name (codes "coverage.json")) (json_bytes r.files r.arcs) (judged (or_else fail_under r.settings.report.fail_under) r.files)) (reported-is data_file rcfile) (λ r.
      put-is (or_else name (codes "coverage.json")) (json_bytes r.files r.arcs) (judged (or_else fail_under r.settings.report.fail_under) r.files))
  inside-is (plain.lcov name fail_under data_file rcfile) =
      binds _ _ (reported data_file rcfile) (λ r. put_last (or_else name (codes "coverage.lcov")) (lcov_bytes r.files r.arcs) (judged (or_else fail_under r.settings.report.fail_under) r.files)) (reported-is data_file rcfile) (λ r.
      put-is (or_else name (codes "coverage.lcov")) (lcov_bytes r.files r.arcs) (judged (or_else fail_under r.settings.report.fail_under) r.files))
  inside-is (plain.annotate data_file rcfile path) =
      binds _ _ (settings rcfile) (λ s. bind (patterns s.report) (λ p. bind (needed (own_name data_file s)) (λ d. bind (source path) (λ f. write_last (annotated_bytes (analysed p d f) f.text) done)))) (settings-are rcfile) (annotated-is data_file path)
  inside-is (plain.erase data_file rcfile) = binds _ _ (settings rcfile) (λ s. remove_last (own_name data_file s) done) (settings-are rcfile) (λ s. removes-last (own_name data_file s) done)
  inside-is (plain.script file) = refuses _ (usage 0) refl
  inside-is (plain.make seed size) = make-is seed size
  inside-is (plain.suite branch steps data_file rcfile file) =
      binds _ _ (settings rcfile) (λ s. suite_by (own_name data_file s) (tests_asked s branch steps) file) (settings-are rcfile) (λ s. suite_by-is (own_name data_file s) (tests_asked s branch steps) file)
  inside-is (plain.select steps old new) = select-is steps old new
  inside-is (plain.mutate steps file) = mutate-is steps file

  -- with what is told of a command, and words
  module _ (spelling : (words : List Word) → P _ (ask (spells words) (given_or usage)))
      (saying : (text : List ℕ) → P _ (ask (says text) give)) where
    ended-is : (a : Answered) → P _ (ended_in a)
    ended-is a = binds _ _ (ask (says (message_of (Ok a.ended) a.ending)) give) (λ said. ask (writes (status_line a)) (on sink_refusal)) (saying (message_of (Ok a.ended) a.ending)) (λ said. noting (status_line a))

    line_done-is : (words : List Word) → P _ (line_done words)
    line_done-is words = binds _ _ (ask (spells words) (given_or usage)) (λ c. bind (inside c) ended_in) (spelling words) (λ c. binds _ _ (inside c) ended_in (inside-is c) ended-is)

    words_done-is : (words : List Word) → P _ (words_done words)
    words_done-is [] = gives _ tt
    words_done-is (w ∷ ws) = line_done-is (w ∷ ws)

    line-is : (line : List ℕ) → P _ (line_step line)
    line-is line = either (is_comment line) (give tt) (words_done (words_in line)) (gives _ tt) (words_done-is (words_in line))

    is_script-is : (name : Word) (bytes : List ℕ) → P _ (is_script name bytes)
    is_script-is name bytes = let count = line_count (chars bytes) in
        binds _ _ (is_text name bytes) (λ a. bind (is_short count) (λ b. give bytes)) (either (is_utf8 bytes) (give tt) (refuse (syntax name (fault_line bytes) kinds.BadCharacter)) (gives _ tt) (refuses _ (syntax name (fault_line bytes) kinds.BadCharacter) refl)) (λ a.
        binds _ _ (is_short count) (λ b. give bytes) (either (nat_le count most_lines) (give tt) (refuse (limit limits.Lines count)) (gives _ tt) (refuses _ (limit limits.Lines count) refl)) (λ b. gives _ bytes))

    lines-are : (ls : List (List ℕ)) → P _ (lines_done ls)
    lines-are ls = binds _ _ (each line_step ls) (λ told. give done) (eachs _ _ line_step line-is ls) (λ told. gives _ done)

    script-is : (name : Word) → P _ (script name)
    script-is name = binds _ _ (script_text name) (λ text. lines_done (lines text)) (binds _ _ (file (no_such_file name) name) (is_script name) (files (no_such_file name) refl name) (is_script-is name)) (λ text. lines-are (lines text))

    pub doing-is : (c : PlainCommand) → P _ (doing c)
    doing-is (plain.arcs steps script args) = inside-is (plain.arcs steps script args)
    doing-is (plain.run branch append context steps hook data_file rcfile script args) = inside-is (plain.run branch append context steps hook data_file rcfile script args)
    doing-is (plain.combine append keep data_file rcfile named) = inside-is (plain.combine append keep data_file rcfile named)
    doing-is (plain.report show fail_under data_file rcfile) = inside-is (plain.report show fail_under data_file rcfile)
    doing-is (plain.json name fail_under data_file rcfile) = inside-is (plain.json name fail_under data_file rcfile)
    doing-is (plain.lcov name fail_under data_file rcfile) = inside-is (plain.lcov name fail_under data_file rcfile)
    doing-is (plain.annotate data_file rcfile path) = inside-is (plain.annotate data_file rcfile path)
    doing-is (plain.erase data_file rcfile) = inside-is (plain.erase data_file rcfile)
    doing-is (plain.script file) = script-is file
    doing-is (plain.make seed size) = inside-is (plain.make seed size)
    doing-is (plain.suite branch steps data_file rcfile file) = inside-is (plain.suite branch steps data_file rcfile file)
    doing-is (plain.select steps old new) = inside-is (plain.select steps old new)
    doing-is (plain.mutate steps file) = inside-is (plain.mutate steps file)

    pub step-is : (words : List Word) → P _ (step words)
    step-is words = binds _ _ (ask (spells words) (given_or usage)) doing (spelling words) doing-is
