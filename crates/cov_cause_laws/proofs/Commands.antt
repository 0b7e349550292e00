-- Each command is refused only for its causes, and where it isn't refused, its checks are met.
use Rattle.std.proofs.Common.{◌≡◌, ◌⊎◌, inl, inr, ◌∙◌, sym, ap, subst, ℕ, ◌≤◌, Bool, true, false, if◌then◌else◌, List, [], ◌∷◌, ◌++◌, map, Option, None, refl, arith}
use Rattle.std.specs.Prelude.{◌||◌, ◌<◌, length, is_some}
use Rattle.std.specs.FinMap.{get}
use Rattle.py_meaning.specs.Modules.{LoadedModule}
use Rattle.py_syntax.specs.Tree.{Stmts}
use Rattle.cov_combine.specs.Aliases.{Rules, alias_of, rules_from}
use Rattle.cov_combine.specs.Combined.{combined}
use Rattle.cov_config.specs.Settings.{Settings, no_cover, no_branch}
use Rattle.cov_data.specs.DataSet.{DataSet}
use Rattle.cov_lcov.specs.Annotated.{annotated_bytes}
use Rattle.cov_make.specs.Source as made
use Rattle.cov_make_laws.specs.Readings.{MadeAreRead}
use Rattle.cov_make_laws.specs.Trees.{made_tree}
use Rattle.cov_programs.specs.Programs.{give, ask, bind, each}
use Rattle.cov_run.specs.Reading.{Reading, tree, unread}
use Rattle.cov_step.specs.Answers.{Before, nothing, there, bad_row, given_or, run_refusal, sink_refusal, on, tree_of}
use Rattle.cov_step.specs.Calls.{Answered, Asked, HookFiles, Patterns, PlainSource, TestsAsked, TestResult, Selection, Judged, came, not_imported, Step, checks, crosses, measures, tries, tests, selects, judges, writes}
use Rattle.cov_step.specs.Calls as calls
use Rattle.cov_step.specs.Commands as the
use Rattle.cov_step.specs.Listing.{listing}
use Rattle.cov_step.specs.Making.{made_path, made_module, ran_if_any, made_line, made_by, make}
use Rattle.cov_step.specs.Names.{or_else, removable}
use Rattle.cov_step.specs.Phases.{needed, before, main_name, opened, settings, own_name, patterns_by, patterns, source, hook_of, joins, joined, inputs, has_own, own_input, some_input, same_kind, saving, removing_all, Report, reported_paths, reported_in, analysed, reported, done, write_last, save_last, remove_last, answered_by}
use Rattle.cov_step.specs.Promises.{reading_hungry}
use Rattle.cov_step.specs.Mutating.{mutation_lines, judged_in, mutate}
use Rattle.cov_step.specs.Selecting.{selection_lines, selected_in, select}
use Rattle.cov_step.specs.Testing.{tests_name, tests_asked, suite_lines, suite_answered, came_or, tests_run, suite_by, suite}
use Rattle.cov_vault.specs.declared.vault.Content.{Content}
use Rattle.cov_words.specs.Values.{Word}
use Rattle.cov_complete_laws.specs.Premises.{AreSettings, AreModules, Holds, IsReplaceable, inputs_of, HoldAll, paths_reported}
use Rattle.cov_complete_laws.proofs.Sure.{Sure, then-sure}
use Rattle.cov_complete_laws.proofs.Holding.{Holding, told, true-false, moved}
use Rattle.cov_complete_laws.proofs.Phases.{inputs-sure, crosses-sure, measures-sure, tries-sure, comes-sure, writing-sure, noting-sure, last-save-sure, saving-sure, last-removal-sure, removals-sure}
use Rattle.cov_cause_laws.specs.Checks.{Check, Passes, IsFirst, AllPass}
use Rattle.cov_cause_laws.specs.Checks as check
use Rattle.cov_cause_laws.specs.Orders.{of_patterns, of_report_settings, of_hook, of_target, of_run, of_suite, of_select, of_mutate, all_inputs, of_combine, paths_held, of_report, of_annotate}
use Rattle.cov_cause_laws.specs.Orders as order
use Rattle.cov_cause_laws.specs.Causes.{BySettings}
use Rattle.cov_cause_laws.proofs.Ways.{then-under, under-all, sure-under}
use Rattle.cov_cause_laws.proofs.Parts.{As, as-map, Goes, settings-goes, Checks, Leads, then-leads, both-lead, Stands, before-goes, joins-goes, needed-goes, all-needed, kind-goes, patterns-go, path-goes, opened-goes, hook-goes, source-goes, sources-go}

abbrev pub any : {A : Type 0} → A → Holding → Type 0
any a u = Unit {0}

abbrev pub Quietly : {A : Type 0} → Step A → Holding → Type 0
Quietly p u = Sure told (λ a v. Unit {0}) p u

made-tree : (r : Reading) (m : Stmts) → reading_hungry r ≡ false → (r ≡ tree m) ⊎ (r ≡ unread) → r ≡ tree m
made-tree r m fed (inl e) = e
made-tree r m fed (inr e) = absurd (true-false (sym (ap reading_hungry e) ∙ fed))

module _ (t : Holding) where
  -- what is never refused comes after all checks
  at-last : {A : Type 0} (p : Step A) (u : Holding) → Quietly p u → Leads t [] any p u
  at-last p u h =
      under-all told (λ a v. Unit {0}) (λ a v. Unit {0} × Unit {0}) (As (IsFirst t.0 t.1 [])) (As (IsFirst t.0 t.1 [])) (λ a v m. (tt, tt)) (λ r f. f) p u
      (sure-under told (λ a v. Unit {0}) (As (IsFirst t.0 t.1 [])) p u h)

  -- and so it does behind a part
  then-last : {A B : Type 0} (ks : List Check) (p : Step A) (next : A → Step B) (u : Holding) → Leads t ks (λ a v. Quietly (next a) v) p u → Leads t ks any (bind p next) u
  then-last ks p next u h =
      then-under told (λ a v. AllPass t.0 t.1 ks × Unit {0}) (As (IsFirst t.0 t.1 ks)) p next u
      (under-all told (λ a v. AllPass t.0 t.1 ks × Quietly (next a) v) (λ a v. Leads t ks any (next a) v) (As (IsFirst t.0 t.1 ks)) (As (IsFirst t.0 t.1 ks))
      (λ a v m. under-all told (λ b w. Unit {0}) (λ b w. AllPass t.0 t.1 ks × Unit {0}) (As (IsFirst t.0 t.1 ks)) (As (IsFirst t.0 t.1 ks)) (λ b w x. (m.0, tt)) (λ r f. f) (next a) v
      (sure-under told (λ b w. Unit {0}) (As (IsFirst t.0 t.1 ks)) (next a) v m.1)) (λ r f. f) p u h)

  -- a part that isn't refused comes before some checks
  quietly-leads : {A B : Type 0} (ks : List Check) (G : B → Holding → Type 0) (p : Step A) (next : A → Step B) (u : Holding) → Sure told (λ a v. Leads t ks G (next a) v) p u → Leads t ks G (bind p next) u
  quietly-leads ks G p next u h =
      then-under told (λ b v. AllPass t.0 t.1 ks × G b v) (As (IsFirst t.0 t.1 ks)) p next u
      (sure-under told (λ a v. Leads t ks G (next a) v) (As (IsFirst t.0 t.1 ks)) p u h)

  -- ---- commands with settings

  -- settings that are set, and all that is checked of them is met
  abbrev pub HasMet : Option Word → (Settings → List Check) → Type 0
  HasMet rcfile ks = (s : Settings) × AreSettings t.0 rcfile s × AllPass t.0 t.1 (ks s)

  abbrev pub Sets : {A : Type 0} → Option Word → (Settings → List Check) → (A → Holding → Type 0) → Step A → Holding → Type 0
  Sets rcfile ks G p u = Goes (λ a v. HasMet rcfile ks × G a v) (BySettings t.0 t.1 rcfile ks) p u

  set-leads : {A : Type 0} (rcfile : Option Word) (ks : Settings → List Check) (G : A → Holding → Type 0) (next : Settings → Step A) → ((s : Settings) → Leads t (ks s) G (next s) t) → Sets rcfile ks G (bind (settings rcfile) next) t
  set-leads rcfile ks G next h =
      then-under told (λ a v. HasMet rcfile ks × G a v) (As (BySettings t.0 t.1 rcfile ks)) (settings rcfile) next t
      (settings-goes t rcfile (λ s u. Sets rcfile ks G (next s) u) (BySettings t.0 t.1 rcfile ks)
      (λ s set. under-all told (λ a v. AllPass t.0 t.1 (ks s) × G a v) (λ a v. HasMet rcfile ks × G a v) (As (IsFirst t.0 t.1 (ks s))) (As (BySettings t.0 t.1 rcfile ks))
      (λ a v m. ((s, set, m.0), m.1)) (as-map (IsFirst t.0 t.1 (ks s)) (BySettings t.0 t.1 rcfile ks) (λ r f. inr (s, set, f))) (next s) t (h s))
      (λ r f. inl f))

  pub set-last : {A B : Type 0} (rcfile : Option Word) (ks : Settings → List Check) (p : Step A) (next : A → Step B) (u : Holding) → Sets rcfile ks (λ a v. Quietly (next a) v) p u → Sets rcfile ks any (bind p next) u
  set-last rcfile ks p next u h =
      let Z = As (BySettings t.0 t.1 rcfile ks) in
      then-under told (λ a v. HasMet rcfile ks × Unit {0}) Z p next u
      (under-all told (λ a v. HasMet rcfile ks × Quietly (next a) v) (λ a v. Sets rcfile ks any (next a) v) Z Z
      (λ a v m. under-all told (λ b w. Unit {0}) (λ b w. HasMet rcfile ks × Unit {0}) Z Z (λ b w x. (m.0, tt)) (λ r f. f) (next a) v
      (sure-under told (λ b w. Unit {0}) Z (next a) v m.1)) (λ r f. f) p u h)

  -- ---- data that go, and runs

  pub erase-goes : (data_file rcfile : Option Word) → Sets rcfile (λ s. []) any (the.erase data_file rcfile) t
  erase-goes data_file rcfile = set-leads rcfile (λ s. []) any (λ s. remove_last (own_name data_file s) done) (λ s. at-last (remove_last (own_name data_file s) done) t (last-removal-sure (own_name data_file s) done t))

  pub arcs-goes : (steps : Option ℕ) (script : Word) (args : List Word) → Leads t (check.program main_name script ∷ []) any (the.arcs steps script args) t
  arcs-goes steps script args =
      let most = or_else steps the.usual_steps in
      let next = λ (ms : List LoadedModule). bind (ask (crosses ms (the.words_of script args) most) (given_or run_refusal)) (λ r. write_last (listing r.rows) (answered_by most r.outcome)) in
      then-leads t (check.program main_name script) [] any (opened main_name script) next t
      (opened-goes t main_name script (λ ms u. Leads t [] any (next ms) u) (λ ms a. at-last (next ms) t
      (then-sure told any (ask (crosses ms (the.words_of script args) most) (given_or run_refusal)) (λ r. write_last (listing r.rows) (answered_by most r.outcome)) t
      (crosses-sure t ms (the.words_of script args) most (λ r u. Quietly (write_last (listing r.rows) (answered_by most r.outcome)) u) (λ r.
      writing-sure (listing r.rows) (answered_by most r.outcome) t)))))

  measured-quiet : (own : Word) (asked : Asked) (ms : List LoadedModule) (hook : Option HookFiles) (old : Option DataSet) → IsReplaceable t.1 own → Quietly (the.measured own asked ms hook old) t
  measured-quiet own asked ms hook old free =
      then-sure told any (ask (measures asked ms hook) (given_or run_refusal)) (λ r. save_last own (joined old r.rows) (answered_by asked.budget r.outcome)) t
      (measures-sure t asked ms hook (λ r u. Quietly (save_last own (joined old r.rows) (answered_by asked.budget r.outcome)) u) (λ r.
      last-save-sure own (joined old r.rows) (answered_by asked.budget r.outcome) t free))

  target-goes : (append : Bool) (own : Word) (asked : Asked) (ms : List LoadedModule) (h : Option HookFiles) → Leads t (of_target append own asked.arcs) any (bind (before own) (λ was. bind (joins append own asked.arcs was) (the.measured own asked ms h))) t
  target-goes false own asked ms h =
      then-leads t (check.replaceable own) [] any (before own) (λ was. bind (joins false own asked.arcs was) (the.measured own asked ms h)) t
      (before-goes t own (λ was u. Leads t [] any (bind (joins false own asked.arcs was) (the.measured own asked ms h)) u) (λ was s free.
      at-last (the.measured own asked ms h None) t (measured-quiet own asked ms h None free)))
  target-goes true own asked ms h =
      then-leads t (check.replaceable own) (check.joinable own asked.arcs ∷ []) any (before own) (λ was. bind (joins true own asked.arcs was) (the.measured own asked ms h)) t
      (before-goes t own (λ was u. Leads t (check.joinable own asked.arcs ∷ []) any (bind (joins true own asked.arcs was) (the.measured own asked ms h)) u) (λ was s free.
      then-leads t (check.joinable own asked.arcs) [] any (joins true own asked.arcs was) (the.measured own asked ms h) t
      (joins-goes t own asked.arcs was (λ old u. Leads t [] any (the.measured own asked ms h old) u) s (λ old.
      at-last (the.measured own asked ms h old) t (measured-quiet own asked ms h old free)))))

  run_by-goes : (own : Word) (append : Bool) (asked : Asked) (hook : Option (Word × Word)) (script : Word) → Leads t (of_run append own asked.arcs hook script) any (the.run_by own append asked hook script) t
  run_by-goes own append asked hook script =
      let target = of_target append own asked.arcs in
      let last = λ (ms : List LoadedModule) (h : Option HookFiles). bind (before own) (λ was. bind (joins append own asked.arcs was) (the.measured own asked ms h)) in
      then-leads t (check.program main_name script) (of_hook hook ++ target) any (opened main_name script) (λ ms. bind (hook_of hook) (last ms)) t
      (opened-goes t main_name script (λ ms u. Leads t (of_hook hook ++ target) any (bind (hook_of hook) (last ms)) u) (λ ms a.
      both-lead t (of_hook hook) target any (hook_of hook) (last ms) t
      (hook-goes t hook (λ h u. Leads t target any (last ms h) u) (λ h. target-goes append own asked ms h))))

  pub run-goes : (branch append : Bool) (context : Option Word) (steps : Option ℕ) (hook : Option (Word × Word)) (data_file rcfile : Option Word) (script : Word) (args : List Word)
      → Sets rcfile (λ s. of_run append (own_name data_file s) (branch || s.run.branch) (the.hook_named hook s.run.hook) script) any (the.run branch append context steps hook data_file rcfile script args) t
  run-goes branch append context steps hook data_file rcfile script args =
      set-leads rcfile (λ s. of_run append (own_name data_file s) (branch || s.run.branch) (the.hook_named hook s.run.hook) script) any
      (λ s. the.run_by (own_name data_file s) append (the.asked_by s branch context steps script args) (the.hook_named hook s.run.hook) script)
      (λ s. run_by-goes (own_name data_file s) append (the.asked_by s branch context steps script args) (the.hook_named hook s.run.hook) script)

  -- ---- tests

  tests-go : (asked : TestsAsked) (file : Word) (ms : List LoadedModule) (G : List TestResult × DataSet → Holding → Type 0) → AreModules t.0 tests_name file ms → ((r : List TestResult × DataSet) → G r t)
      → Checks t (check.imports file asked.budget) G (ask (tests asked ms) (came_or file)) t
  tests-go asked file ms G a g (came r) u m =
      moved (λ r v. Passes t.0 t.1 (check.imports file asked.budget) × G r v) r r u t refl (m.1 refl) ((ms, a, m.0.says_so), g r)
  tests-go asked file ms G a g not_imported u m = (ms, a, m.0.says_so, refl)
  tests-go asked file ms G a g calls.starved u m = absurd (true-false m.0.fed)

  tests_run-goes : (own : Word) (asked : TestsAsked) (file : Word) (ms : List LoadedModule) → AreModules t.0 tests_name file ms → IsReplaceable t.1 own → Leads t (check.imports file asked.budget ∷ []) any (tests_run own asked file ms) t
  tests_run-goes own asked file ms a free =
      let last = λ (r : List TestResult × DataSet). save_last own r.1 (suite_answered r.0) in
      let next = λ (r : List TestResult × DataSet). bind (ask (writes (suite_lines r.0)) (on sink_refusal)) (λ written. last r) in
      then-leads t (check.imports file asked.budget) [] any (ask (tests asked ms) (came_or file)) next t
      (tests-go asked file ms (λ r u. Leads t [] any (next r) u) a (λ r. at-last (next r) t
      (then-sure told any (ask (writes (suite_lines r.0)) (on sink_refusal)) (λ written. last r) t
      (noting-sure t (suite_lines r.0) (λ written u. Quietly (last r) u) (last-save-sure own r.1 (suite_answered r.0) t free)))))

  suite_by-goes : (own : Word) (asked : TestsAsked) (file : Word) → Leads t (of_suite own file asked.budget) any (suite_by own asked file) t
  suite_by-goes own asked file =
      let imported = check.imports file asked.budget ∷ [] in
      let next = λ (ms : List LoadedModule) (was : Before). tests_run own asked file ms in
      then-leads t (check.program tests_name file) (check.replaceable own ∷ imported) any (opened tests_name file) (λ ms. bind (before own) (next ms)) t
      (opened-goes t tests_name file (λ ms u. Leads t (check.replaceable own ∷ imported) any (bind (before own) (next ms)) u) (λ ms a.
      then-leads t (check.replaceable own) imported any (before own) (next ms) t
      (before-goes t own (λ was u. Leads t imported any (next ms was) u) (λ was s free. tests_run-goes own asked file ms a free))))

  pub suite-goes : (branch : Bool) (steps : Option ℕ) (data_file rcfile : Option Word) (file : Word) → Sets rcfile (λ s. of_suite (own_name data_file s) file (or_else steps s.run.budget)) any (suite branch steps data_file rcfile file) t
  suite-goes branch steps data_file rcfile file =
      set-leads rcfile (λ s. of_suite (own_name data_file s) file (or_else steps s.run.budget)) any (λ s. suite_by (own_name data_file s) (tests_asked s branch steps) file)
      (λ s. suite_by-goes (own_name data_file s) (tests_asked s branch steps) file)

  -- ---- tests of changes

  selects-go : (n : ℕ) (old new : List LoadedModule) (file : Word) (G : Selection → Holding → Type 0) → AreModules t.0 tests_name file old → ((s : Selection) → G s t)
      → Checks t (check.imports file n) G (ask (selects n old new) (came_or file)) t
  selects-go n old new file G a g (came s) u m = moved (λ r v. Passes t.0 t.1 (check.imports file n) × G r v) s s u t refl (m.1 refl) ((old, a, m.0.says_so), g s)
  selects-go n old new file G a g not_imported u m = (old, a, m.0.says_so, refl)
  selects-go n old new file G a g calls.starved u m = absurd (true-false m.0.fed)

  selected-goes : (most : ℕ) (old : Word) (before after : List LoadedModule) → AreModules t.0 tests_name old before → Leads t (check.imports old most ∷ []) any (selected_in most old before after) t
  selected-goes most old before after a =
      let last = λ (s : Selection). write_last (selection_lines s) done in
      then-leads t (check.imports old most) [] any (ask (selects most before after) (came_or old)) last t
      (selects-go most before after old (λ s u. Leads t [] any (last s) u) a (λ s. at-last (last s) t (writing-sure (selection_lines s) done t)))

  pub select-goes : (steps : Option ℕ) (old new : Word) → Leads t (of_select old new (or_else steps the.usual_steps)) any (select steps old new) t
  select-goes steps old new =
      let most = or_else steps the.usual_steps in
      let imported = check.imports old most ∷ [] in
      let next = λ (ms : List LoadedModule). bind (opened tests_name new) (selected_in most old ms) in
      then-leads t (check.program tests_name old) (check.program tests_name new ∷ imported) any (opened tests_name old) next t
      (opened-goes t tests_name old (λ ms u. Leads t (check.program tests_name new ∷ imported) any (next ms) u) (λ ms a.
      then-leads t (check.program tests_name new) imported any (opened tests_name new) (selected_in most old ms) t
      (opened-goes t tests_name new (λ after u. Leads t imported any (selected_in most old ms after) u) (λ after b. selected-goes most old ms after a))))

  judges-go : (n : ℕ) (ms : List LoadedModule) (file : Word) (G : List Judged → Holding → Type 0) → AreModules t.0 tests_name file ms → ((js : List Judged) → G js t)
      → Checks t (check.imports file n) G (ask (judges n ms) (came_or file)) t
  judges-go n ms file G a g (came js) u m = moved (λ r v. Passes t.0 t.1 (check.imports file n) × G r v) js js u t refl (m.1 refl) ((ms, a, m.0.says_so), g js)
  judges-go n ms file G a g not_imported u m = (ms, a, m.0.says_so, refl)
  judges-go n ms file G a g calls.starved u m = absurd (true-false m.0.fed)

  judged-goes : (most : ℕ) (file : Word) (ms : List LoadedModule) → AreModules t.0 tests_name file ms → Leads t (check.imports file most ∷ []) any (judged_in most file ms) t
  judged-goes most file ms a =
      let last = λ (js : List Judged). write_last (mutation_lines js) done in
      then-leads t (check.imports file most) [] any (ask (judges most ms) (came_or file)) last t
      (judges-go most ms file (λ js u. Leads t [] any (last js) u) a (λ js. at-last (last js) t (writing-sure (mutation_lines js) done t)))

  pub mutate-goes : (steps : Option ℕ) (file : Word) → Leads t (of_mutate file (or_else steps the.usual_steps)) any (mutate steps file) t
  mutate-goes steps file =
      let most = or_else steps the.usual_steps in
      then-leads t (check.program tests_name file) (check.imports file most ∷ []) any (opened tests_name file) (judged_in most file) t
      (opened-goes t tests_name file (λ ms u. Leads t (check.imports file most ∷ []) any (judged_in most file ms) u) (λ ms a. judged-goes most file ms a))

  -- ---- what is combined

  holds-both : (names others : List Word) (ds es : List DataSet) → HoldAll t.1 names ds → HoldAll t.1 others es → HoldAll t.1 (names ++ others) (ds ++ es)
  holds-both [] others [] es h k = k
  holds-both [] others (d ∷ ds) es h k = absurd h
  holds-both (n ∷ names) others [] es h k = absurd h
  holds-both (n ∷ names) others (d ∷ ds) es h k = (h.0, holds-both names others ds es h.1 k)

  -- after the inputs, of which some came first, their kinds are checked
  into-goes : (own : Word) (rules : Rules) (keep : Bool) (names others : List Word) (first : List DataSet) → IsReplaceable t.1 own → HoldAll t.1 names first
      → Leads t (map check.needed others ++ check.one_kind (names ++ others) ∷ []) any (the.combined_into own rules keep others first) t
  into-goes own rules keep names others first free h =
      let gone = removable own [] others in
      let last = λ (all : List DataSet). bind (saving own (combined (alias_of rules) all)) (λ a. bind (removing_all keep gone) (λ b. give done)) in
      both-lead t (map check.needed others) (check.one_kind (names ++ others) ∷ []) any (each needed others) (λ rest. bind (same_kind (first ++ rest)) last) t
      (all-needed t others (λ rest u. Leads t (check.one_kind (names ++ others) ∷ []) any (bind (same_kind (first ++ rest)) last) u) (λ rest held.
      then-leads t (check.one_kind (names ++ others)) [] any (same_kind (first ++ rest)) last t
      (kind-goes t (names ++ others) (first ++ rest) (λ all u. Leads t [] any (last all) u) (holds-both names others first rest h held)
      (at-last (last (first ++ rest)) t
      (then-sure told any (saving own (combined (alias_of rules) (first ++ rest))) (λ a. bind (removing_all keep gone) (λ b. give done)) t
      (saving-sure own (combined (alias_of rules) (first ++ rest)) t free (λ a u. Quietly (bind (removing_all keep gone) (λ b. give done)) u) (λ u.
      then-sure told any (removing_all keep gone) (λ b. give done) u (removals-sure keep gone (λ b v. Unit {0}) u (λ b v. tt)))))))))

  -- the names of the data that come first, as it was answered
  abbrev first-names : Bool → Word → Before → List Word
  first-names false own was = []
  first-names true own nothing = []
  first-names true own (there d) = own ∷ []
  first-names true own (bad_row i) = own ∷ []

  first-so : (append : Bool) (own : Word) (was : Before) → Stands t own was → order.own_input append t.1 own ≡ first-names append own was
  first-so false own was s = refl
  first-so true own nothing s = ap (λ (o : Option Content). if is_some o then own ∷ [] else []) s
  first-so true own (there d) s = ap (λ (o : Option Content). if is_some o then own ∷ [] else []) s
  first-so true own (bad_row i) s = ap (λ (o : Option Content). if is_some o then own ∷ [] else []) s

  -- the checks of inputs, of which these are all
  abbrev of-inputs : Word → List Word → List Check
  of-inputs own all = check.some_of own all ∷ (map check.needed all ++ check.one_kind all ∷ [])

  abbrev joining : Word → Rules → Bool → Bool → Before → List Word → Step Answered
  joining own rules append keep was ns = bind (some_input own (has_own append was) ns) (λ a. bind (own_input append own was) (the.combined_into own rules keep ns))

  none-first : (own : Word) (rules : Rules) (keep : Bool) (ns : List Word) → IsReplaceable t.1 own → Leads t (of-inputs own ns) any (bind (some_input own false ns) (λ a. the.combined_into own rules keep ns [])) t
  none-first own rules keep [] free = inl (refl, refl)
  none-first own rules keep (n ∷ ns) free =
      then-leads t (check.some_of own (n ∷ ns)) (map check.needed (n ∷ ns) ++ check.one_kind (n ∷ ns) ∷ []) any (give tt) (λ (a : Unit {0}). the.combined_into own rules keep (n ∷ ns) []) t
      (some-more n ns, into-goes own rules keep [] (n ∷ ns) [] free tt)
    where
      some-more : (n : Word) (ns : List Word) → 0 < length (n ∷ ns)
      some-more n ns = omega arith

  own-first : (own : Word) (rules : Rules) (keep : Bool) (ns : List Word) (d : DataSet) → IsReplaceable t.1 own → Holds t.1 own d → Leads t (of-inputs own (own ∷ ns)) any (bind (some_input own true ns) (λ a. the.combined_into own rules keep ns (d ∷ []))) t
  own-first own rules keep ns d free held = by ns
    where
      some-more : (ns : List Word) → 0 < length (own ∷ ns)
      some-more ns = omega arith

      all-lead : (ns : List Word) → Leads t (of-inputs own (own ∷ ns)) any (the.combined_into own rules keep ns (d ∷ [])) t
      all-lead ns =
          let rest = map check.needed ns ++ check.one_kind (own ∷ ns) ∷ [] in
          then-leads t (check.some_of own (own ∷ ns)) (check.needed own ∷ rest) any (give tt) (λ (a : Unit {0}). the.combined_into own rules keep ns (d ∷ [])) t (
            some-more ns,
            then-leads t (check.needed own) rest any (give tt) (λ (a : Unit {0}). the.combined_into own rules keep ns (d ∷ [])) t
                ((d, held), into-goes own rules keep (own ∷ []) ns (d ∷ []) free (held, tt)),
          )

      by : (ms : List Word) → Leads t (of-inputs own (own ∷ ms)) any (bind (some_input own true ms) (λ a. the.combined_into own rules keep ms (d ∷ []))) t
      by [] = all-lead []
      by (n ∷ ms) = all-lead (n ∷ ms)

  bad-first : (own : Word) (rules : Rules) (keep : Bool) (ns : List Word) (i : ℕ) → Stands t own (bad_row i) → Leads t (of-inputs own (own ∷ ns)) any (joining own rules true keep (bad_row i) ns) t
  bad-first own rules keep ns i s = by ns
    where
      some-more : (ms : List Word) → 0 < length (own ∷ ms)
      some-more ms = omega arith

      by : (ms : List Word) → Leads t (of-inputs own (own ∷ ms)) any (joining own rules true keep (bad_row i) ms) t
      by [] = inr (some-more [], inl (ap (check.unusable own) s))
      by (n ∷ ms) = inr (some-more (n ∷ ms), inl (ap (check.unusable own) s))

  joining-goes : (own : Word) (rules : Rules) (append keep : Bool) (was : Before) (ns : List Word) → Stands t own was → IsReplaceable t.1 own → Leads t (of-inputs own (first-names append own was ++ ns)) any (joining own rules append keep was ns) t
  joining-goes own rules false keep was ns s free = none-first own rules keep ns free
  joining-goes own rules true keep nothing ns s free = none-first own rules keep ns free
  joining-goes own rules true keep (there d) ns s free = own-first own rules keep ns d free s
  joining-goes own rules true keep (bad_row i) ns s free = bad-first own rules keep ns i s

  combine_by-goes : (own : Word) (rules : Rules) (append keep : Bool) (named : List Word) → Leads t (of_combine append t.1 own named) any (the.combine_by own rules append keep named) t
  combine_by-goes own rules append keep named =
      let ks = of-inputs own (all_inputs append t.1 own named) in
      then-leads t (check.replaceable own) ks any (before own) (λ was. bind (inputs own named) (joining own rules append keep was)) t
      (before-goes t own (λ was u. Leads t ks any (bind (inputs own named) (joining own rules append keep was)) u) (λ was s free.
      quietly-leads ks any (inputs own named) (joining own rules append keep was) t
      (inputs-sure t own named (λ ns u. Leads t ks any (joining own rules append keep was ns) u)
      (subst (λ names. Leads t (of-inputs own (names ++ inputs_of t.1 own named)) any (joining own rules append keep was (inputs_of t.1 own named)) t) (sym (first-so append own was s))
      (joining-goes own rules append keep was (inputs_of t.1 own named) s free)))))

  pub combine-goes : (append keep : Bool) (data_file rcfile : Option Word) (named : List Word) → Sets rcfile (λ s. of_combine append t.1 (own_name data_file s) named) any (the.combine append keep data_file rcfile named) t
  combine-goes append keep data_file rcfile named =
      set-leads rcfile (λ s. of_combine append t.1 (own_name data_file s) named) any (λ s. the.combine_by (own_name data_file s) (rules_from s.paths) append keep named)
      (λ s. combine_by-goes (own_name data_file s) (rules_from s.paths) append keep named)

  -- ---- reports

  reported_in-goes : (s : Settings) (p : Patterns) (own : Word) (G : Report → Holding → Type 0) → ((r : Report) → G r t)
      → Leads t (check.needed own ∷ check.some_of own (paths_held s.report.omit (get t.1 own)) ∷ map check.source (paths_held s.report.omit (get t.1 own))) G (reported_in s p own) t
  reported_in-goes s p own G g =
      let omit = s.report.omit in
      let made : DataSet → List PlainSource → Report = λ d sources. record { settings = s; arcs = d.arcs; files = map (analysed p d) sources } in
      let next : DataSet → Step Report = λ d. bind (reported_paths own omit d) (λ paths. bind (each source paths) (λ sources. give (made d sources))) in
      let of-paths = λ (paths : List Word). check.some_of own paths ∷ map check.source paths in
      then-leads t (check.needed own) (of-paths (paths_held omit (get t.1 own))) G (needed own) next t
      (needed-goes t own (λ d u. Leads t (of-paths (paths_held omit (get t.1 own))) G (next d) u) (λ d held.
      subst (λ paths. Leads t (of-paths paths) G (next d) t) (sym (ap (paths_held omit) held))
      (let paths = paths_reported omit d in
      then-leads t (check.some_of own paths) (map check.source paths) G (reported_paths own omit d) (λ ps. bind (each source ps) (λ sources. give (made d sources))) t
      (path-goes t own paths (λ ps u. Leads t (map check.source paths) G (bind (each source ps) (λ sources. give (made d sources))) u)
      (then-under told (λ r v. AllPass t.0 t.1 (map check.source paths) × G r v) (As (IsFirst t.0 t.1 (map check.source paths))) (each source paths) (λ sources. give (made d sources)) t
      (sources-go t paths (λ sources v. G (made d sources) v) (λ sources. g (made d sources))))))))

  pub reported-goes : (data_file rcfile : Option Word) (G : Report → Holding → Type 0) → ((r : Report) → G r t) → Sets rcfile (λ s. of_report s.report t.1 (own_name data_file s)) G (reported data_file rcfile) t
  reported-goes data_file rcfile G g =
      set-leads rcfile (λ s. of_report s.report t.1 (own_name data_file s)) G (λ s. bind (patterns s.report) (λ p. reported_in s p (own_name data_file s))) (λ s.
      let own = own_name data_file s in
      let rest = check.needed own ∷ check.some_of own (paths_held s.report.omit (get t.1 own)) ∷ map check.source (paths_held s.report.omit (get t.1 own)) in
      both-lead t (of_report_settings s.report) rest G (patterns s.report) (λ p. reported_in s p own) t
      (patterns-go t (s.report.exclude_lines ++ s.report.exclude_also) s.report.partial_branches (λ p u. Leads t rest G (reported_in s p own) u) (λ p. reported_in-goes s p own G g)))

  pub annotate-goes : (data_file rcfile : Option Word) (path : Word) → Sets rcfile (λ s. of_annotate s.report (own_name data_file s) path) any (the.annotate data_file rcfile path) t
  annotate-goes data_file rcfile path =
      let last = λ (p : Patterns) (d : DataSet) (f : PlainSource). write_last (annotated_bytes (analysed p d f) f.text) done in
      set-leads rcfile (λ s. of_annotate s.report (own_name data_file s) path) any (λ s. bind (patterns s.report) (λ p. bind (needed (own_name data_file s)) (λ d. bind (source path) (last p d)))) (λ s.
      let own = own_name data_file s in
      both-lead t (of_report_settings s.report) (check.needed own ∷ check.source path ∷ []) any (patterns s.report) (λ p. bind (needed own) (λ d. bind (source path) (last p d))) t
      (patterns-go t (s.report.exclude_lines ++ s.report.exclude_also) s.report.partial_branches (λ p u. Leads t (check.needed own ∷ check.source path ∷ []) any (bind (needed own) (λ d. bind (source path) (last p d))) u) (λ p.
      then-leads t (check.needed own) (check.source path ∷ []) any (needed own) (λ d. bind (source path) (last p d)) t
      (needed-goes t own (λ d u. Leads t (check.source path ∷ []) any (bind (source path) (last p d)) u) (λ d held.
      then-leads t (check.source path) [] any (source path) (last p d) t
      (source-goes t path (λ f u. Leads t [] any (last p d f) u) (λ f.
      at-last (last p d f) t (writing-sure (annotated_bytes (analysed p d f) f.text) done t))))))))

  -- ---- a made source

  made_by-quiet : (seed size : ℕ) (p : Patterns) (f : PlainSource) → Quietly (made_by seed size p f) t
  made_by-quiet seed size p f =
      then-sure told any (ask (tries (made_module f ∷ []) (the.words_of f.path []) the.usual_steps) ran_if_any) (λ r. write_last (made_line seed size p f r) done) t
      (tries-sure t (made_module f ∷ []) (the.words_of f.path []) the.usual_steps (λ r u. Quietly (write_last (made_line seed size p f r) done) u) (λ r.
      writing-sure (made_line seed size p f r) done t))

  pub make-goes : MadeAreRead → (seed size : ℕ) → size ≤ 16000 → Leads t (of_patterns (no_cover ∷ []) (no_branch ∷ [])) any (make seed size) t
  make-goes law seed size small =
      let text = made.source seed size in
      let ks = of_patterns (no_cover ∷ []) (no_branch ∷ []) in
      let next = λ (p : Patterns). bind (ask (checks text) (tree_of made_path text)) (made_by seed size p) in
      then-last ks (patterns_by (no_cover ∷ []) (no_branch ∷ [])) next t
      (patterns-go t (no_cover ∷ []) (no_branch ∷ []) (λ p u. Quietly (next p) u) (λ p.
      then-sure told any (ask (checks text) (tree_of made_path text)) (made_by seed size p) t
      (comes-sure t made_path text (made_tree seed size) (λ r k fed. made-tree r (made_tree seed size) fed ((law seed size small).comes r k)) (λ f u. Quietly (made_by seed size p f) u) (λ f. made_by-quiet seed size p f))))
