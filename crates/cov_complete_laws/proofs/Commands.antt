-- A command isn't refused where what it needs is there.
use Rattle.std.proofs.Common.{◌≡◌, ◌⊎◌, inl, inr, ◌∙◌, sym, ap, ℕ, ◌≤◌, Bool, false, List, [], ◌∷◌, ◌++◌, map, Option, refl}
use Rattle.std.specs.Prelude.{◌||◌, codes}
use Rattle.py_meaning.specs.Modules.{LoadedModule}
use Rattle.py_syntax.specs.Tree.{Stmts}
use Rattle.cov_combine.specs.Aliases.{Rules, alias_of, rules_from}
use Rattle.cov_combine.specs.Combined.{combined, has_both_kinds}
use Rattle.cov_config.specs.Settings.{Settings, no_cover, no_branch}
use Rattle.cov_data.specs.DataSet.{DataSet}
use Rattle.cov_json.specs.Json.{json_bytes}
use Rattle.cov_lcov.specs.Annotated.{annotated_bytes}
use Rattle.cov_lcov.specs.Lcov.{lcov_bytes}
use Rattle.cov_load_laws.specs.Completeness.{Completes}
use Rattle.cov_load_laws.specs.Readings.{OneReading}
use Rattle.cov_make.specs.Source as made
use Rattle.cov_make_laws.specs.Readings.{MadeAreRead}
use Rattle.cov_make_laws.specs.Trees.{made_tree}
use Rattle.cov_programs.specs.Programs.{give, ask, bind, each}
use Rattle.cov_run.specs.Reading.{Reading, tree, unread}
use Rattle.cov_step.specs.Answers.{given_or, run_refusal, sink_refusal, on, tree_of}
use Rattle.cov_step.specs.Calls.{Answered, Asked, HookFiles, Patterns, PlainSource, TestsAsked, Step, checks, crosses, measures, tries, tests, selects, judges, writes}
use Rattle.cov_step.specs.Commands as the
use Rattle.cov_step.specs.Listing.{listing}
use Rattle.cov_step.specs.Mutating.{mutation_lines, judged_in, mutate}
use Rattle.cov_step.specs.Selecting.{selection_lines, selected_in, select}
use Rattle.cov_step.specs.Testing.{tests_name, tests_asked, suite_lines, suite_answered, came_or, tests_run, suite_by, suite}
use Rattle.cov_suite.specs.Results.{import_of}
use Rattle.py_builtins.specs.Outcomes.{finished}
use Rattle.cov_step.specs.Making.{made_path, made_module, ran_if_any, made_line, made_by, make}
use Rattle.cov_step.specs.Names.{or_else, removable}
use Rattle.cov_step.specs.Phases.{needed, before, main_name, opened, settings, own_name, patterns_by, patterns, source, hook_of, joins, joined, inputs, has_own, own_input, some_input, same_kind, saving, removing_all, Report, reported_paths, reported_in, analysed, reported, judged, done, write_last, put_last, save_last, remove_last, answered_by}
use Rattle.cov_step.specs.Promises.{reading_hungry}
use Rattle.cov_step.specs.Step.{doing}
use Rattle.cov_text.specs.Report.{text_bytes}
use Rattle.cov_words.specs.Commands.{PlainCommand}
use Rattle.cov_words.specs.Commands as plain
use Rattle.cov_words.specs.Values.{Word}
use Rattle.cov_complete_laws.specs.Premises.{IsLoadable, HasHook, Holds, IsReplaceable, CanJoin, inputs_of, HoldAll, HasPatterns, HasSources, paths_reported}
use Rattle.cov_complete_laws.specs.Ready.{CanErase, CanRun, CanImport, CanTest, CanReport, CanAnnotate, CanCombine, Ready}
use Rattle.cov_complete_laws.proofs.Sure.{then-sure}
use Rattle.cov_complete_laws.proofs.Holding.{Holding, told, true-false}
use Rattle.cov_complete_laws.proofs.Phases.{Goes, tests-sure, selects-sure, judges-sure, noting-sure, settings-sure, needed-sure, before-sure, joins-sure, inputs-sure, some-sure, own-sure, all-needed, kind-sure, patterns-sure, paths-sure, crosses-sure, measures-sure, tries-sure, opened-sure, hook-sure, comes-sure, source-sure, sources-sure, writing-sure, putting-sure, last-save-sure, saving-sure, last-removal-sure, removals-sure}

-- it isn't refused
abbrev pub Ends : Step Answered → Holding → Type 0
Ends p t = Goes (λ a u. Unit {0}) p t

abbrev pub any : Answered → Holding → Type 0
any a u = Unit {0}

made-tree : (r : Reading) (m : Stmts) → reading_hungry r ≡ false → (r ≡ tree m) ⊎ (r ≡ unread) → r ≡ tree m
made-tree r m fed (inl e) = e
made-tree r m fed (inr e) = absurd (true-false (sym (ap reading_hungry e) ∙ fed))

module _ (t : Holding) where
  erase-sure : (data_file rcfile : Option Word) → CanErase t.0 rcfile → Ends (the.erase data_file rcfile) t
  erase-sure data_file rcfile h =
      then-sure told any (settings rcfile) (λ s. remove_last (own_name data_file s) done) t
      (settings-sure t rcfile h.settings h.set (λ s u. Ends (remove_last (own_name data_file s) done) u)
      (last-removal-sure (own_name data_file h.settings) done t))

  module _ (completes : Completes) where
    arcs-sure : (steps : Option ℕ) (script : Word) (args : List Word) → IsLoadable t.0 main_name script → Ends (the.arcs steps script args) t
    arcs-sure steps script args h =
        let most = or_else steps the.usual_steps in
        then-sure told any (opened main_name script) (λ ms. bind (ask (crosses ms (the.words_of script args) most) (given_or run_refusal)) (λ r. write_last (listing r.rows) (answered_by most r.outcome))) t
        (opened-sure t completes main_name script h (λ ms u. Ends (bind (ask (crosses ms (the.words_of script args) most) (given_or run_refusal)) (λ r. write_last (listing r.rows) (answered_by most r.outcome))) u) (λ ms a.
        then-sure told any (ask (crosses ms (the.words_of script args) most) (given_or run_refusal)) (λ r. write_last (listing r.rows) (answered_by most r.outcome)) t
        (crosses-sure t ms (the.words_of script args) most (λ r u. Ends (write_last (listing r.rows) (answered_by most r.outcome)) u) (λ r.
        writing-sure (listing r.rows) (answered_by most r.outcome) t))))

    measured-sure : (own : Word) (asked : Asked) (ms : List LoadedModule) (hook : Option HookFiles) (old : Option DataSet) → IsReplaceable t.1 own → Ends (the.measured own asked ms hook old) t
    measured-sure own asked ms hook old h =
        then-sure told any (ask (measures asked ms hook) (given_or run_refusal)) (λ r. save_last own (joined old r.rows) (answered_by asked.budget r.outcome)) t
        (measures-sure t asked ms hook (λ r u. Ends (save_last own (joined old r.rows) (answered_by asked.budget r.outcome)) u) (λ r.
        last-save-sure own (joined old r.rows) (answered_by asked.budget r.outcome) t h))

    run_by-sure : (own : Word) (append : Bool) (asked : Asked) (hook : Option (Word × Word)) (script : Word) → IsLoadable t.0 main_name script → HasHook t.0 hook → IsReplaceable t.1 own → CanJoin append t.1 own asked.arcs → Ends (the.run_by own append asked hook script) t
    run_by-sure own append asked hook script program hooked target joinable =
        then-sure told any (opened main_name script) (λ ms. bind (hook_of hook) (λ h. bind (before own) (λ was. bind (joins append own asked.arcs was) (the.measured own asked ms h)))) t
        (opened-sure t completes main_name script program (λ ms u. Ends (bind (hook_of hook) (λ h. bind (before own) (λ was. bind (joins append own asked.arcs was) (the.measured own asked ms h)))) u) (λ ms a.
        then-sure told any (hook_of hook) (λ h. bind (before own) (λ was. bind (joins append own asked.arcs was) (the.measured own asked ms h))) t
        (hook-sure t completes hook hooked (λ h u. Ends (bind (before own) (λ was. bind (joins append own asked.arcs was) (the.measured own asked ms h))) u) (λ h.
        then-sure told any (before own) (λ was. bind (joins append own asked.arcs was) (the.measured own asked ms h)) t
        (before-sure t own target (λ was u. Ends (bind (joins append own asked.arcs was) (the.measured own asked ms h)) u) (λ was s.
        then-sure told any (joins append own asked.arcs was) (the.measured own asked ms h) t
        (joins-sure t append own asked.arcs was joinable s (λ old u. Ends (the.measured own asked ms h old) u) (λ old.
        measured-sure own asked ms h old target))))))))

    run-sure : (branch append : Bool) (context : Option Word) (steps : Option ℕ) (hook : Option (Word × Word)) (data_file rcfile : Option Word) (script : Word) (args : List Word) → CanRun t.0 t.1 branch append hook data_file rcfile script
        → Ends (the.run branch append context steps hook data_file rcfile script args) t
    run-sure branch append context steps hook data_file rcfile script args h =
        then-sure told any (settings rcfile) (λ s. the.run_by (own_name data_file s) append (the.asked_by s branch context steps script args) (the.hook_named hook s.run.hook) script) t
        (settings-sure t rcfile h.settings h.set (λ s u. Ends (the.run_by (own_name data_file s) append (the.asked_by s branch context steps script args) (the.hook_named hook s.run.hook) script) u)
        (run_by-sure (own_name data_file h.settings) append (the.asked_by h.settings branch context steps script args) (the.hook_named hook h.settings.run.hook) script h.program h.hooked h.target h.joins))

    tests_run-sure : (own : Word) (asked : TestsAsked) (file : Word) (ms : List LoadedModule) → (import_of ms asked.budget).outcome ≡ finished → IsReplaceable t.1 own → Ends (tests_run own asked file ms) t
    tests_run-sure own asked file ms imports target =
        then-sure told any (ask (tests asked ms) (came_or file)) (λ r. bind (ask (writes (suite_lines r.0)) (on sink_refusal)) (λ written. save_last own r.1 (suite_answered r.0))) t
        (tests-sure t asked ms file imports (λ r u. Ends (bind (ask (writes (suite_lines r.0)) (on sink_refusal)) (λ written. save_last own r.1 (suite_answered r.0))) u) (λ r.
        then-sure told any (ask (writes (suite_lines r.0)) (on sink_refusal)) (λ written. save_last own r.1 (suite_answered r.0)) t
        (noting-sure t (suite_lines r.0) (λ written u. Ends (save_last own r.1 (suite_answered r.0)) u)
        (last-save-sure own r.1 (suite_answered r.0) t target))))

    suite-sure : (branch : Bool) (steps : Option ℕ) (data_file rcfile : Option Word) (file : Word) → CanTest t.0 t.1 steps data_file rcfile file → Ends (suite branch steps data_file rcfile file) t
    suite-sure branch steps data_file rcfile file h =
        let own = own_name data_file h.settings in
        let asked = tests_asked h.settings branch steps in
        then-sure told any (settings rcfile) (λ s. suite_by (own_name data_file s) (tests_asked s branch steps) file) t
        (settings-sure t rcfile h.settings h.set (λ s u. Ends (suite_by (own_name data_file s) (tests_asked s branch steps) file) u)
        (then-sure told any (opened tests_name file) (λ ms. bind (before own) (λ was. tests_run own asked file ms)) t
        (opened-sure t completes tests_name file h.tests.program (λ ms u. Ends (bind (before own) (λ was. tests_run own asked file ms)) u) (λ ms a.
        then-sure told any (before own) (λ was. tests_run own asked file ms) t
        (before-sure t own h.target (λ was u. Ends (tests_run own asked file ms) u) (λ was s. tests_run-sure own asked file ms (h.tests.imports ms a) h.target))))))

    selected-sure : (most : ℕ) (old : Word) (before after : List LoadedModule) → (import_of before most).outcome ≡ finished → Ends (selected_in most old before after) t
    selected-sure most old before after imports =
        then-sure told any (ask (selects most before after) (came_or old)) (λ s. write_last (selection_lines s) done) t
        (selects-sure t most before after old imports (λ s u. Ends (write_last (selection_lines s) done) u) (λ s.
        writing-sure (selection_lines s) done t))

    select-sure : (steps : Option ℕ) (old new : Word) → CanImport t.0 old (or_else steps the.usual_steps) → IsLoadable t.0 tests_name new → Ends (select steps old new) t
    select-sure steps old new h loadable =
        let most = or_else steps the.usual_steps in
        then-sure told any (opened tests_name old) (λ before. bind (opened tests_name new) (selected_in most old before)) t
        (opened-sure t completes tests_name old h.program (λ before u. Ends (bind (opened tests_name new) (selected_in most old before)) u) (λ before a.
        then-sure told any (opened tests_name new) (selected_in most old before) t
        (opened-sure t completes tests_name new loadable (λ after u. Ends (selected_in most old before after) u) (λ after b.
        selected-sure most old before after (h.imports before a)))))

    judged-sure : (most : ℕ) (file : Word) (ms : List LoadedModule) → (import_of ms most).outcome ≡ finished → Ends (judged_in most file ms) t
    judged-sure most file ms imports =
        then-sure told any (ask (judges most ms) (came_or file)) (λ js. write_last (mutation_lines js) done) t
        (judges-sure t most ms file imports (λ js u. Ends (write_last (mutation_lines js) done) u) (λ js.
        writing-sure (mutation_lines js) done t))

    mutate-sure : (steps : Option ℕ) (file : Word) → CanImport t.0 file (or_else steps the.usual_steps) → Ends (mutate steps file) t
    mutate-sure steps file h =
        let most = or_else steps the.usual_steps in
        then-sure told any (opened tests_name file) (judged_in most file) t
        (opened-sure t completes tests_name file h.program (λ ms u. Ends (judged_in most file ms) u) (λ ms a.
        judged-sure most file ms (h.imports ms a)))

  module _ (one : OneReading) where
    reported_in-sure : (s : Settings) (p : Patterns) (own : Word) (d : DataSet) → Holds t.1 own d → HasSources t.0 s.report.omit d → (Q : Report → Holding → Type 0) → ((r : Report) → Q r t) → Goes Q (reported_in s p own) t
    reported_in-sure s p own d held h Q q =
        then-sure told Q (needed own) (λ e. bind (reported_paths own s.report.omit e) (λ paths. bind (each source paths) (λ sources. give (record { settings = s; arcs = e.arcs; files = map (analysed p e) sources })))) t
        (needed-sure t own d held (λ e u. Goes Q (bind (reported_paths own s.report.omit e) (λ paths. bind (each source paths) (λ sources. give (record { settings = s; arcs = e.arcs; files = map (analysed p e) sources })))) u)
        (then-sure told Q (reported_paths own s.report.omit d) (λ paths. bind (each source paths) (λ sources. give (record { settings = s; arcs = d.arcs; files = map (analysed p d) sources }))) t
        (paths-sure t own s.report.omit d h.some (λ paths u. Goes Q (bind (each source paths) (λ sources. give (record { settings = s; arcs = d.arcs; files = map (analysed p d) sources }))) u)
        (then-sure told Q (each source (paths_reported s.report.omit d)) (λ sources. give (record { settings = s; arcs = d.arcs; files = map (analysed p d) sources })) t
        (sources-sure t one (paths_reported s.report.omit d) h.each (λ sources u. Q (record { settings = s; arcs = d.arcs; files = map (analysed p d) sources }) u) (λ fs.
        q (record { settings = s; arcs = d.arcs; files = map (analysed p d) fs })))))))

    reported-sure : (data_file rcfile : Option Word) → CanReport t.0 t.1 data_file rcfile → (Q : Report → Holding → Type 0) → ((r : Report) → Q r t) → Goes Q (reported data_file rcfile) t
    reported-sure data_file rcfile h Q q =
        then-sure told Q (settings rcfile) (λ s. bind (patterns s.report) (λ p. reported_in s p (own_name data_file s))) t
        (settings-sure t rcfile h.settings h.set (λ s u. Goes Q (bind (patterns s.report) (λ p. reported_in s p (own_name data_file s))) u)
        (then-sure told Q (patterns h.settings.report) (λ p. reported_in h.settings p (own_name data_file h.settings)) t
        (patterns-sure t _ _ h.patterns (λ p u. Goes Q (reported_in h.settings p (own_name data_file h.settings)) u) (λ p.
        reported_in-sure h.settings p (own_name data_file h.settings) h.rows h.held h.sources Q q))))

    annotate-sure : (data_file rcfile : Option Word) (path : Word) → CanAnnotate t.0 t.1 data_file rcfile path → Ends (the.annotate data_file rcfile path) t
    annotate-sure data_file rcfile path h =
        then-sure told any (settings rcfile) (λ s. bind (patterns s.report) (λ p. bind (needed (own_name data_file s)) (λ d. bind (source path) (λ f. write_last (annotated_bytes (analysed p d f) f.text) done)))) t
        (settings-sure t rcfile h.settings h.set (λ s u. Ends (bind (patterns s.report) (λ p. bind (needed (own_name data_file s)) (λ d. bind (source path) (λ f. write_last (annotated_bytes (analysed p d f) f.text) done)))) u)
        (then-sure told any (patterns h.settings.report) (λ p. bind (needed (own_name data_file h.settings)) (λ d. bind (source path) (λ f. write_last (annotated_bytes (analysed p d f) f.text) done))) t
        (patterns-sure t _ _ h.patterns (λ p u. Ends (bind (needed (own_name data_file h.settings)) (λ d. bind (source path) (λ f. write_last (annotated_bytes (analysed p d f) f.text) done))) u) (λ p.
        then-sure told any (needed (own_name data_file h.settings)) (λ d. bind (source path) (λ f. write_last (annotated_bytes (analysed p d f) f.text) done)) t
        (needed-sure t (own_name data_file h.settings) h.rows h.held (λ d u. Ends (bind (source path) (λ f. write_last (annotated_bytes (analysed p d f) f.text) done)) u)
        (then-sure told any (source path) (λ f. write_last (annotated_bytes (analysed p h.rows f) f.text) done) t
        (source-sure t one path h.source (λ f u. Ends (write_last (annotated_bytes (analysed p h.rows f) f.text) done) u) (λ f.
        writing-sure (annotated_bytes (analysed p h.rows f) f.text) done t))))))))

  -- ---- what is combined

  -- after a save nothing refuses
  combined-sure : (own : Word) (rules : Rules) (keep : Bool) (others : List Word) (first rest : List DataSet) → IsReplaceable t.1 own → HoldAll t.1 others rest → has_both_kinds (first ++ rest) ≡ false → Ends (the.combined_into own rules keep others first) t
  combined-sure own rules keep others first rest target h kinds =
      let gone = removable own [] others in
      then-sure told any (each needed others) (λ more. bind (same_kind (first ++ more)) (λ all. bind (saving own (combined (alias_of rules) all)) (λ a. bind (removing_all keep gone) (λ b. give done)))) t
      (all-needed t others rest h (λ more u. Ends (bind (same_kind (first ++ more)) (λ all. bind (saving own (combined (alias_of rules) all)) (λ a. bind (removing_all keep gone) (λ b. give done)))) u)
      (then-sure told any (same_kind (first ++ rest)) (λ all. bind (saving own (combined (alias_of rules) all)) (λ a. bind (removing_all keep gone) (λ b. give done))) t
      (kind-sure t (first ++ rest) kinds (λ all u. Ends (bind (saving own (combined (alias_of rules) all)) (λ a. bind (removing_all keep gone) (λ b. give done))) u)
      (then-sure told any (saving own (combined (alias_of rules) (first ++ rest))) (λ a. bind (removing_all keep gone) (λ b. give done)) t
      (saving-sure own (combined (alias_of rules) (first ++ rest)) t target (λ a u. Ends (bind (removing_all keep gone) (λ b. give done)) u) (λ u.
      then-sure told any (removing_all keep gone) (λ b. give done) u (removals-sure keep gone (λ b v. Unit {0}) u (λ b v. tt))))))))

  combine-sure : (append keep : Bool) (data_file rcfile : Option Word) (named : List Word) → CanCombine t.0 t.1 append data_file rcfile named → Ends (the.combine append keep data_file rcfile named) t
  combine-sure append keep data_file rcfile named h =
      let own = own_name data_file h.settings in
      let rules = rules_from h.settings.paths in
      let others = inputs_of t.1 own named in
      then-sure told any (settings rcfile) (λ s. the.combine_by (own_name data_file s) (rules_from s.paths) append keep named) t
      (settings-sure t rcfile h.settings h.set (λ s u. Ends (the.combine_by (own_name data_file s) (rules_from s.paths) append keep named) u)
      (then-sure told any (before own) (λ was. bind (inputs own named) (λ ns. bind (some_input own (has_own append was) ns) (λ a. bind (own_input append own was) (the.combined_into own rules keep ns)))) t
      (before-sure t own h.target (λ was u. Ends (bind (inputs own named) (λ ns. bind (some_input own (has_own append was) ns) (λ a. bind (own_input append own was) (the.combined_into own rules keep ns)))) u) (λ was s.
      then-sure told any (inputs own named) (λ ns. bind (some_input own (has_own append was) ns) (λ a. bind (own_input append own was) (the.combined_into own rules keep ns))) t
      (inputs-sure t own named (λ ns u. Ends (bind (some_input own (has_own append was) ns) (λ a. bind (own_input append own was) (the.combined_into own rules keep ns))) u)
      (then-sure told any (some_input own (has_own append was) others) (λ a. bind (own_input append own was) (the.combined_into own rules keep others)) t
      (some-sure t append own was others h.first h.rest h.own s h.others h.some (λ a u. Ends (bind (own_input append own was) (the.combined_into own rules keep others)) u)
      (then-sure told any (own_input append own was) (the.combined_into own rules keep others) t
      (own-sure t append own was h.first h.own s (λ first u. Ends (the.combined_into own rules keep others first) u)
      (combined-sure own rules keep others h.first h.rest h.target h.others h.one_kind))))))))))

  -- ---- a made source

  made_by-sure : (seed size : ℕ) (p : Patterns) (f : PlainSource) → Ends (made_by seed size p f) t
  made_by-sure seed size p f =
      then-sure told any (ask (tries (made_module f ∷ []) (the.words_of f.path []) the.usual_steps) ran_if_any) (λ r. write_last (made_line seed size p f r) done) t
      (tries-sure t (made_module f ∷ []) (the.words_of f.path []) the.usual_steps (λ r u. Ends (write_last (made_line seed size p f r) done) u) (λ r.
      writing-sure (made_line seed size p f r) done t))

  make-sure : MadeAreRead → (seed size : ℕ) → size ≤ 16000 → HasPatterns (no_cover ∷ []) (no_branch ∷ []) → Ends (make seed size) t
  make-sure law seed size small h =
      let text = made.source seed size in
      then-sure told any (patterns_by (no_cover ∷ []) (no_branch ∷ [])) (λ p. bind (ask (checks text) (tree_of made_path text)) (made_by seed size p)) t
      (patterns-sure t (no_cover ∷ []) (no_branch ∷ []) h (λ p u. Ends (bind (ask (checks text) (tree_of made_path text)) (made_by seed size p)) u) (λ p.
      then-sure told any (ask (checks text) (tree_of made_path text)) (made_by seed size p) t
      (comes-sure t made_path text (made_tree seed size) (λ r k fed. made-tree r (made_tree seed size) fed ((law seed size small).comes r k)) (λ f u. Ends (made_by seed size p f) u) (λ f. made_by-sure seed size p f))))

  -- ---- all commands

  module _ (completes : Completes) (one : OneReading) (law : MadeAreRead) where
    pub doing-sure : (c : PlainCommand) → ((seed size : ℕ) → c ≡ plain.make seed size → size ≤ 16000) → Ready t.0 t.1 c → Ends (doing c) t
    doing-sure (plain.arcs steps script args) small h = arcs-sure completes steps script args h
    doing-sure (plain.run branch append context steps hook data_file rcfile script args) small h = run-sure completes branch append context steps hook data_file rcfile script args h
    doing-sure (plain.combine append keep data_file rcfile named) small h = combine-sure append keep data_file rcfile named h
    doing-sure (plain.report show fail_under data_file rcfile) small h =
        then-sure told any (reported data_file rcfile) (λ r. write_last (text_bytes r.files r.arcs (show || r.settings.report.show_missing)) (judged (or_else fail_under r.settings.report.fail_under) r.files)) t
        (reported-sure one data_file rcfile h (λ r u. Ends (write_last (text_bytes r.files r.arcs (show || r.settings.report.show_missing)) (judged (or_else fail_under r.settings.report.fail_under) r.files)) u) (λ r.
        writing-sure (text_bytes r.files r.arcs (show || r.settings.report.show_missing)) (judged (or_else fail_under r.settings.report.fail_under) r.files) t))
    doing-sure (plain.json name fail_under data_file rcfile) small h =
        then-sure told any (reported data_file rcfile) (λ r. put_last (or_else name (codes "coverage.json")) (json_bytes r.files r.arcs) (judged (or_else fail_under r.settings.report.fail_under) r.files)) t
        (reported-sure one data_file rcfile h (λ r u. Ends (put_last (or_else name (codes "coverage.json")) (json_bytes r.files r.arcs) (judged (or_else fail_under r.settings.report.fail_under) r.files)) u) (λ r.
        putting-sure (or_else name (codes "coverage.json")) (json_bytes r.files r.arcs) (judged (or_else fail_under r.settings.report.fail_under) r.files) t))
    doing-sure (plain.lcov name fail_under data_file rcfile) small h =
        then-sure told any (reported data_file rcfile) (λ r. put_last (or_else name (codes "coverage.lcov")) (lcov_bytes r.files r.arcs) (judged (or_else fail_under r.settings.report.fail_under) r.files)) t
        (reported-sure one data_file rcfile h (λ r u. Ends (put_last (or_else name (codes "coverage.lcov")) (lcov_bytes r.files r.arcs) (judged (or_else fail_under r.settings.report.fail_under) r.files)) u) (λ r.
        putting-sure (or_else name (codes "coverage.lcov")) (lcov_bytes r.files r.arcs) (judged (or_else fail_under r.settings.report.fail_under) r.files) t))
    doing-sure (plain.annotate data_file rcfile path) small h = annotate-sure one data_file rcfile path h
    doing-sure (plain.erase data_file rcfile) small h = erase-sure data_file rcfile h
    doing-sure (plain.script file) small h = absurd h
    doing-sure (plain.make seed size) small h = make-sure law seed size (small seed size refl) h
    doing-sure (plain.suite branch steps data_file rcfile file) small h = suite-sure completes branch steps data_file rcfile file h
    doing-sure (plain.select steps old new) small h = select-sure completes steps old new h.0 h.1
    doing-sure (plain.mutate steps file) small h = mutate-sure completes steps file h
