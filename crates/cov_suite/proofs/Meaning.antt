-- The suite of faithful code is the suite that its trees mean.
use Rattle.std.proofs.Common.{◌≡◌, ℕ, suc, ◌<◌, Bool, List, [], ◌∷◌, length, map, All, None, Result, inl, refl, ap, sym, subst, ◌∙◌, arith}
use Rattle.std.specs.List.{AllByRecursion}
use Rattle.std.proofs.lemmas.List.Elements.{All-nil, All-cons, All-head, All-tail}
use Rattle.cov_event.specs.declared.ask.Nobody.{Nobody}
use Rattle.cov_event.specs.declared.event.Event.{Event}
use Rattle.cov_contexts.specs.declared.plugins.Plugin.{Ghosts as PluginOf}
use Rattle.cov_data.specs.DataSet.{Text, DataSet}
use Rattle.cov_hook.specs.States.{HookState}
use Rattle.cov_arcs.specs.Laws.{firsts_of}
use Rattle.cov_recorder.specs.Asking.{asks, SourcesLeft}
use Rattle.cov_recorder.specs.Laws.{RecordingLaw, IsCounted, all_paths}
use Rattle.cov_recorder.specs.Plan.{Named, IsFirst, Plan, plan_with, plan_of}
use Rattle.cov_recorder.specs.States.{state_of}
use Rattle.cov_recorder_laws.specs.Laws.{HasTextLines, Took, first_lines}
use Rattle.cov_measure_laws.specs.Foreseen.{HasForeseen, KeepsForeseenData, ModulesForeseenDataLaw, CallForeseenDataLaw}
use Rattle.cov_measure_laws.specs.Meant.{meant_sources, MeantData, IsHookOfCode, IsPlanOf, KeepsMeantData, ModulesMeantLaw, CallMeantLaw}
use Rattle.cov_measure_laws.specs.Units.{tree_units, UnitsLaw}
use Rattle.cov_measure_laws.specs.Whole.{HasAllSteps, IsWhole, WholePlanLaw, KeepsAll, ModulesWholeLaw, CallWholeLaw}
use Rattle.py_builtins.specs.World.{World}
use Rattle.py_code.specs.declared.code.Programs.{Programs}
use Rattle.py_code.specs.Loaded.{modules_of}
use Rattle.py_code.specs.Programs as machine
use Rattle.py_code.specs.Units.{Module}
use Rattle.py_compile.specs.Laws.{UnitsAreFaithful}
use Rattle.py_compile.specs.ProgramRuns.{AreFaithful, as_run}
use Rattle.py_meaning.specs.Activations.{Items}
use Rattle.py_meaning.specs.Crossings.{crossings, lines_crossed}
use Rattle.py_meaning.specs.Events.{events_in}
use Rattle.py_meaning.specs.Modules.{LoadedModule}
use Rattle.py_meaning.specs.Program.{Request}
use Rattle.py_prediction_laws.specs.Sound.{IsProper}
use Rattle.py_syntax.specs.Marks.{statement_lines}
use Rattle.py_syntax.specs.Prediction.{Arc}
use Rattle.py_syntax.specs.Tree as tree
use Rattle.py_compile_laws.specs.Traces.{AreWellFormed, TracesKept}
use Rattle.cov_suite.specs.Meant.{AreTested, IsMeantData}
use Rattle.cov_suite.specs.Recorded.{WasRecorded}
use Rattle.cov_suite.specs.Results.{words, TestView, result_of, import_of_code, result_of_code, suite_of_code, import_of, test_of, result_of_tree, suite_of}
use Rattle.cov_suite.specs.Rows.{nobody, sources_of, HasRows}
use Rattle.cov_suite.specs.Tests.{tests_of_code, tests_of}
use Rattle.cov_suite.proofs.TestNames.{same-tests}
use Rattle.cov_suite.specs.declared.results.SuiteError.{SuiteError}
use Rattle.cov_suite.specs.Suites.{IsSuiteOf}
use Rattle.cov_suite.specs.Views.{SuiteView}
use Rattle.cov_suite.proofs.Turns.{IsAlso, told_test, told_suite, told-itself, suite-as}

-- ---- trees in lines of texts are proper

numbered : (ls : List ℕ) → All IsFirst ls → All (λ l. 0 < l) ls
numbered [] h = All-nil (λ l. 0 < l)
numbered (l ∷ ls) h = let on = (All-head IsFirst l ls h).0 in All-cons (λ l. 0 < l) l ls (omega arith) (numbered ls (All-tail IsFirst l ls h))

proper : (ms : List LoadedModule) → AreWellFormed ms → All HasTextLines ms → All IsProper ms
proper [] well h = All-nil IsProper
proper (m ∷ ms) well h =
    All-cons IsProper m ms (record { well_formed = well.0; numbered = numbered (statement_lines m.body) (All-head HasTextLines m ms h) }) (proper ms well.1 (All-tail HasTextLines m ms h))

pub same-length : (cs : List Module) (ms : List LoadedModule) → AreFaithful cs ms → length cs ≡ length ms
same-length [] [] h = refl
same-length [] (m ∷ ms) h = absurd h
same-length (c ∷ cs) [] h = absurd h
same-length (c ∷ cs) (m ∷ ms) h = ap suc (same-length cs ms h.2)

-- ---- rows of events

module _ {P : Type 0} (plugin : PluginOf P) where
  pub rows-are : RecordingLaw (asks nobody plugin) (SourcesLeft nobody plugin) state_of → (plan : Plan) (old : List P) (events : List Event) (d : DataSet) (new : List P) → WasRecorded plugin plan old events d new → HasRows plugin plan old events d new
  rows-are law plan old events d new h =
      let is = law.of_taken plan (sources_of old) h.before h.after events h.first h.took in
      record {
        rows = is.rows;
        left = (state_of h.after).1;
        told = is.told;
        counted = subst (λ x. IsCounted plan.arcs (all_paths plan events) is.rows x) (sym h.kept) is.counted;
        left_plugins = h.left;
      }

  -- ---- data of items

  -- a hook that is never asked
  never : Nobody → HookState
  never a = record { modules = []; function = []; world = None }

  is-off : IsHookOfCode nobody never
  unfolding never
  is-off old new «module» function label h = (h.0, refl)

  module _ (units_law : UnitsLaw) (plans : WholePlanLaw) (ps : Programs) (units : List (List Named)) (sets : List (List Arc)) (ms : List LoadedModule) (are : AreTested ps units sets ms) (arcs : Bool) (fixed : Text) where
    abbrev plan : Plan
    plan = plan_of units sets arcs fixed

    is-plan : IsPlanOf ms arcs fixed plan
    is-plan = record { programs = ps; sets = sets; faithful = are.faithful; paths = are.paths; made = ap (λ us. plan_of us sets arcs fixed) are.named; whole = are.whole }

    firsts : first_lines plan ≡ firsts_of ms
    firsts = ap (λ us. first_lines (plan_of us sets arcs fixed)) are.named ∙ units_law.firsts ps ms are.faithful

    whole : IsWhole plan ms
    whole = plans units sets arcs fixed ms are.whole

    same-units : units ≡ tree_units ms
    same-units = are.named ∙ units_law.same ps ms are.faithful are.paths

    as-trees-steps : (items : Items) (d : DataSet) → HasAllSteps plan (λ m. lines_crossed (crossings ms m items)) d → HasAllSteps (plan_with (tree_units ms) [] arcs fixed) (λ m. lines_crossed (crossings ms m items)) d
    as-trees-steps items d h = subst (λ us. HasAllSteps (plan_with us [] arcs fixed) (λ m. lines_crossed (crossings ms m items)) d) same-units (record { arcs = h.arcs; lines = h.lines })

    as-trees-foreseen : (items : Items) (d : DataSet) → HasForeseen plan ms items d → HasForeseen (plan_with (tree_units ms) [] arcs fixed) ms items d
    as-trees-foreseen items d h = subst (λ us. HasForeseen (plan_with us [] arcs fixed) ms items d) same-units (record { arcs = h.arcs; lines = h.lines })

    pub data-is : (items : Items) → KeepsMeantData nobody plugin state_of ms items → KeepsAll (asks nobody plugin) state_of ms items → KeepsForeseenData (asks nobody plugin) state_of ms items
        → (old : List P) (d : DataSet) (new : List P) → WasRecorded plugin plan old (events_in items) d new → IsMeantData plugin ms arcs fixed old items d new
    data-is items meant all foreseen old d new h =
        let took : Took (asks nobody plugin) state_of plan (events_in items) h.after = (h.before, sources_of old, h.first, inl h.took) in
        let left = meant_sources never [] (state_of h.after).1 in
        record {
          left = left;
          rows = subst (λ x. MeantData plugin ms arcs fixed (sources_of old) items x left) (sym h.kept) (meant never is-off [] tt arcs fixed plan is-plan (sources_of old) tt h.before h.after h.first h.took);
          steps = as-trees-steps items d (subst (λ x. HasAllSteps plan (λ m. lines_crossed (crossings ms m items)) x) (sym h.kept) (all.steps plan h.after firsts whole took));
          foreseen = as-trees-foreseen items d (subst (λ x. HasForeseen plan ms items x) (sym h.kept) (foreseen plan h.after firsts took));
          left_plugins = h.left;
        }

-- ---- the suite of code and that of its trees

module _ (law : UnitsAreFaithful) (traces : TracesKept) (cs : List Module) (ms : List LoadedModule) (faithful : AreFaithful cs ms) (well : AreWellFormed ms) (some : 0 < length cs) where
  some_modules : 0 < length ms
  some_modules = subst (λ n. 0 < n) (same-length cs ms faithful) some

  pub same-import : (budget : ℕ) → import_of_code cs budget ≡ as_run (import_of ms budget)
  same-import budget = traces.runs cs ms faithful well some_modules words [] budget

  pub same-result : (w : World) (budget : ℕ) (name : tree.Text) → result_of_code cs w budget name ≡ told_test events_in (result_of_tree ms w budget name)
  same-result w budget name =
      ap (λ (reply : machine.Reply). let p : TestView × List Event = (result_of name reply.returned reply.out reply.steps, reply.events) in p)
      (traces.calls cs ms faithful well w [] (record { number = 0; name = name; values = [] }) budget)

  same-results : (w : World) (budget : ℕ) (names : List tree.Text) → map (result_of_code cs w budget) names ≡ map (told_test events_in) (map (result_of_tree ms w budget) names)
  same-results w budget [] = refl
  same-results w budget (name ∷ names) = λ i. same-result w budget name i ∷ same-results w budget names i

  pub same-suite : (budget : ℕ) → suite_of_code cs budget ≡ told_suite events_in (suite_of ms budget)
  same-suite budget = λ i. record {
    outcome = (same-import budget i).outcome;
    at_import = (same-import budget i).events;
    tests = all i;
  }
    where
      all : map (result_of_code cs (import_of_code cs budget).world budget) (tests_of_code cs) ≡ map (told_test events_in) (map (result_of_tree ms (import_of ms budget).world budget) (tests_of ms))
      all =
          ap (λ (r : machine.Run). map (result_of_code cs r.world budget) (tests_of_code cs)) (same-import budget)
          ∙ ap (map (result_of_code cs (import_of ms budget).world budget)) (same-tests law cs ms faithful)
          ∙ same-results (import_of ms budget).world budget (tests_of ms)

module _ {P : Type 0} (plugin : PluginOf P) where
  -- the suite of code, by the rows of events
  pub suite-told : RecordingLaw (asks nobody plugin) (SourcesLeft nobody plugin) state_of → (plan : Plan) (cs : List Module) (budget : ℕ) (old : List P) (answer : Result SuiteView SuiteError) (new : List P)
      → IsSuiteOf plugin (WasRecorded plugin plan) (suite_of_code cs budget) old answer new → IsSuiteOf plugin (HasRows plugin plan) (suite_of_code cs budget) old answer new
  suite-told law plan cs budget old answer new h =
      let s = suite_of_code cs budget in
      suite-as plugin (WasRecorded plugin plan) (HasRows plugin plan) (λ e. e) s (λ old d new. rows-are plugin law plan old s.at_import d new) (each-of (λ e old d new. rows-are plugin law plan old e d new) s.tests) old answer new
      (subst (λ x. IsSuiteOf plugin (WasRecorded plugin plan) x old answer new) (sym (told-itself s)) h)
    where
      each-of : ((e : List Event) → IsAlso plugin (WasRecorded plugin plan) (HasRows plugin plan) (λ e. e) e) → (ts : List (TestView × List Event)) → AllByRecursion (λ t. IsAlso plugin (WasRecorded plugin plan) (HasRows plugin plan) (λ e. e) t.1) ts
      each-of f [] = tt
      each-of f (t ∷ ts) = (f t.1, each-of f ts)

  module _ (law : UnitsAreFaithful) (traces : TracesKept) (units_law : UnitsLaw) (plans : WholePlanLaw)
      (modules_meant : ModulesMeantLaw nobody plugin state_of) (call_meant : CallMeantLaw nobody plugin state_of)
      (modules_whole : ModulesWholeLaw (asks nobody plugin) state_of) (call_whole : CallWholeLaw (asks nobody plugin) state_of)
      (modules_foreseen : ModulesForeseenDataLaw (asks nobody plugin) state_of) (call_foreseen : CallForeseenDataLaw (asks nobody plugin) state_of)
      (ps : Programs) (units : List (List Named)) (sets : List (List Arc)) (some : 0 < length (modules_of ps)) (ms : List LoadedModule) (are : AreTested ps units sets ms) (arcs : Bool) (fixed : Text) (budget : ℕ) where
    right : All IsProper ms
    right = proper ms are.well_formed are.lines

    there : 0 < length ms
    there = subst (λ n. 0 < n) (same-length (modules_of ps) ms are.faithful) some

    abbrev Also : Items → Type 0
    Also = IsAlso plugin (WasRecorded plugin (plan_of units sets arcs fixed)) (IsMeantData plugin ms arcs fixed) events_in

    of-import : Also (import_of ms budget).items
    of-import old d new =
        data-is plugin units_law plans ps units sets ms are arcs fixed (import_of ms budget).items (modules_meant ms there are.lines right words [] budget) (modules_whole ms there are.lines right words [] budget)
        (modules_foreseen ms there are.lines right words [] budget) old d new

    of-test : (w : World) (name : tree.Text) → Also (test_of ms w budget name).items
    of-test w name old d new =
        let q : Request = record { number = 0; name = name; values = [] } in
        data-is plugin units_law plans ps units sets ms are arcs fixed (test_of ms w budget name).items (call_meant ms are.lines right w [] q budget) (call_whole ms are.lines right w [] q budget)
        (call_foreseen ms are.lines right w [] q budget) old d new

    of-tests : (w : World) (names : List tree.Text) → AllByRecursion (λ t. Also t.1) (map (result_of_tree ms w budget) names)
    of-tests w [] = tt
    of-tests w (name ∷ names) = (of-test w name, of-tests w names)

    -- the suite that the trees mean
    pub suite-meant : (old : List P) (answer : Result SuiteView SuiteError) (new : List P)
        → IsSuiteOf plugin (WasRecorded plugin (plan_of units sets arcs fixed)) (suite_of_code (modules_of ps) budget) old answer new → IsSuiteOf plugin (IsMeantData plugin ms arcs fixed) (suite_of ms budget) old answer new
    suite-meant old answer new h =
        suite-as plugin (WasRecorded plugin (plan_of units sets arcs fixed)) (IsMeantData plugin ms arcs fixed) events_in (suite_of ms budget) of-import (of-tests (import_of ms budget).world (tests_of ms)) old answer new
        (subst (λ x. IsSuiteOf plugin (WasRecorded plugin (plan_of units sets arcs fixed)) x old answer new) (same-suite law traces (modules_of ps) ms are.faithful are.well_formed some budget) h)
