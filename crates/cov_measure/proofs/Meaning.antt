-- A run of faithful code under a recorder is the run that its modules mean.
use Rattle.std.proofs.Common.{◌≡◌, ℕ, suc, ◌<◌, Bool, List, [], ◌∷◌, length, Option, Result, Ok, Err, OnOk, OnErr, inl, refl, ap, sym, subst, ◌∙◌}
use Rattle.cov_event.specs.declared.ask.Ask.{Ghosts as HookOf}
use Rattle.cov_event.specs.declared.event.Event.{Event}
use Rattle.cov_event.specs.Moves.{Takes, Calls}
use Rattle.cov_contexts.specs.declared.plugins.Plugin.{Ghosts as PluginOf}
use Rattle.cov_contexts.specs.Sources.{Sources}
use Rattle.cov_data.specs.DataSet.{Text as Bytes}
use Rattle.py_builtins.specs.World.{World}
use Rattle.py_code.specs.declared.code.Programs.{Programs}
use Rattle.py_code.specs.Loaded.{modules_of}
use Rattle.py_code.specs.Programs as machine
use Rattle.py_code.specs.Slots.{by_slots}
use Rattle.py_code.specs.Units.{Module}
use Rattle.py_compile.specs.ProgramRuns.{AreFaithful, as_run}
use Rattle.py_machine.specs.declared.outcome.Ran.{Ran}
use Rattle.py_machine.specs.Runs.{IsRun}
use Rattle.py_machine.specs.Told.{OnInput}
use Rattle.py_meaning.specs.Events.{events_in}
use Rattle.py_meaning.specs.Modules.{LoadedModule}
use Rattle.py_meaning.specs.Program.{run_modules}
use Rattle.py_syntax.specs.Tree.{Text}
use Rattle.py_compile_laws.specs.Traces.{TracesKept}
use Rattle.cov_hook.specs.States.{HookState}
use Rattle.cov_recorder.specs.Asking.{asks, SourcesLeft}
use Rattle.cov_recorder.specs.Labels.{IsNext, IsRefused}
use Rattle.cov_recorder.specs.Laws.{RecordingLaw}
use Rattle.cov_recorder.specs.Plan.{Plan}
use Rattle.cov_recorder.specs.Recording.{Recording, at_first}
use Rattle.cov_recorder_laws.specs.Laws.{Took}
use Rattle.cov_measure_laws.specs.Foreseen.{ModulesForeseenDataLaw}
use Rattle.cov_measure_laws.specs.Leaving.{AreLeft, LeavingLaw}
use Rattle.cov_measure_laws.specs.Meant.{ModulesMeantLaw}
use Rattle.cov_measure_laws.specs.Whole.{ModulesWholeLaw}
use Rattle.cov_measure.specs.Measuring.{RanMeasured, IsMeasuring, IsSteady, HasRunSteps}
use Rattle.cov_measure.specs.Told.{WasTold}

pub same-length : (cs : List Module) (ms : List LoadedModule) → AreFaithful cs ms → length cs ≡ length ms
same-length [] [] h = refl
same-length [] (m ∷ ms) h = absurd h
same-length (c ∷ cs) [] h = absurd h
same-length (c ∷ cs) (m ∷ ms) h = ap suc (same-length cs ms h.2)

pub on-ok : {A E : Type 0} (r : Result A E) (P : Type 0) → P → OnOk r P
on-ok (Ok a) P h = h
on-ok (Err e) P h = tt

pub on-err : {A E : Type 0} (r : Result A E) (P : Type 0) → P → OnErr r P
on-err (Ok a) P h = tt
on-err (Err e) P h = h

module _ {S A P : Type 0} (hook : HookOf A) (plugin : PluginOf P) (state : S → Recording × Sources A P) (law : ModulesMeantLaw hook plugin state) (traces : TracesKept)
    (ps : Programs) (some : 0 < length (modules_of ps)) (words : List Text) (budget : ℕ)
    (ms hs : List LoadedModule) (arcs : Bool) (fixed : Bytes) (code : A → HookState) (old new : S) (is : IsMeasuring hook ps ms hs arcs fixed code (state old)) where
  abbrev moves : S → Event → S → Type 0
  moves before event later = IsNext (asks hook plugin) (state before) event (state later)

  abbrev first : World
  first = machine.first_world (modules_of ps) words

  some_modules : 0 < length ms
  some_modules = subst (λ n. 0 < n) (same-length (modules_of ps) ms is.faithful) some

  is_meant : (input : List ℕ) → machine.run (by_slots (modules_of ps)) (modules_of ps) first input budget ≡ as_run (run_modules ms words input budget)
  is_meant input = traces.runs (modules_of ps) ms is.faithful is.well_formed some_modules words input budget

  one : (wrote : List ℕ → Type 0) (ran : Ran) (left : World) (all rest : List ℕ) → IsRun (λ es. Takes moves old es new) wrote (modules_of ps) first budget ran left all rest
      → RanMeasured plugin ms hs arcs fixed code (state old).1 (state new).1 (run_modules ms words all budget) ran (state new).0.data wrote rest
  one wrote ran left all rest h = record {
    outcome = h.outcome ∙ ap (λ (r : machine.Run). r.outcome) (is_meant all);
    steps = h.steps ∙ ap (λ (r : machine.Run). r.steps) (is_meant all);
    rows = law ms some_modules is.lines is.proper words all budget code is.of_code hs is.hook_well arcs fixed is.plan is.made (state old).1 is.hook_faithful old new is.first
        (subst (λ (r : machine.Run). Takes moves old r.events new) (is_meant all) h.told);
    out = subst (λ (r : machine.Run). wrote r.out) (is_meant all) h.written;
    left = sym h.input ∙ ap (λ (r : machine.Run). r.input) (is_meant all);
  }

  pub measured : (tells : Type 0) (before after : List ℕ) (wrote : List ℕ → Type 0) (ran : Ran) (w left : World) → w ≡ first
      → OnInput tells before after (IsRun (λ es. Takes moves old es new) wrote (modules_of ps) w budget ran left)
      → OnInput tells before after (λ all rest. RanMeasured plugin ms hs arcs fixed code (state old).1 (state new).1 (run_modules ms words all budget) ran (state new).0.data wrote rest)
  measured tells before after wrote ran w left e given =
      let h = subst (λ x. OnInput tells before after (IsRun (λ es. Takes moves old es new) wrote (modules_of ps) x budget ran left)) e given in
      record { heard = h.heard; input = h.input; rest = h.rest; fed = h.fed; told = h.told; holds = λ all rest fed. one wrote ran left all rest (h.holds all rest fed) }

module _ {S C : Type 0} (asks : C → Bytes → Bytes → Option (List ℕ) → C → Type 0) (state : S → Recording × C) (plan : Plan) (old new : S) (first : (state old).0 ≡ at_first plan) where
  abbrev steps : S → Event → S → Type 0
  steps before event later = IsNext asks (state before) event (state later)

  began : state old ≡ (at_first plan, (state old).1)
  began = λ i. (first i, (state old).1)

  -- a run of faithful code
  module _ (whole : ModulesWholeLaw asks state) (foreseen : ModulesForeseenDataLaw asks state) (traces : TracesKept) (ps : Programs) (some : 0 < length (modules_of ps)) (words : List Text) (budget : ℕ) (ms : List LoadedModule) (is : IsSteady ps ms plan) where
    run-steps : (wrote : List ℕ → Type 0) (ran : Ran) (left : World) (all rest : List ℕ) → IsRun (λ es. Takes steps old es new) wrote (modules_of ps) (machine.first_world (modules_of ps) words) budget ran left all rest
        → HasRunSteps plan ms (run_modules ms words all budget).items (state new).0.data
    run-steps wrote ran left all rest h =
        let there : 0 < length ms = subst (λ n. 0 < n) (same-length (modules_of ps) ms is.faithful) some in
        let meant = traces.runs (modules_of ps) ms is.faithful is.well_formed there words all budget in
        let takes = subst (λ (r : machine.Run). Takes steps old r.events new) meant h.told in
        let took : Took asks state plan (events_in (run_modules ms words all budget).items) new = (old, (state old).1, began, inl takes) in
        record {
          all = (whole ms there is.lines is.proper words all budget).steps plan new is.firsts is.whole took;
          foreseen = foreseen ms there is.lines is.proper words all budget plan new is.firsts took;
        }

    pub stepped : (tells : Type 0) (before after : List ℕ) (wrote : List ℕ → Type 0) (ran : Ran) (w left : World) → w ≡ machine.first_world (modules_of ps) words
        → OnInput tells before after (IsRun (λ es. Takes steps old es new) wrote (modules_of ps) w budget ran left)
        → OnInput tells before after (λ all rest. HasRunSteps plan ms (run_modules ms words all budget).items (state new).0.data)
    stepped tells before after wrote ran w left e given =
        let h = subst (λ x. OnInput tells before after (IsRun (λ es. Takes steps old es new) wrote (modules_of ps) x budget ran left)) e given in
        record { heard = h.heard; input = h.input; rest = h.rest; fed = h.fed; told = h.told; holds = λ all rest fed. run-steps wrote ran left all rest (h.holds all rest fed) }

-- whoever told the events
module _ {S A P : Type 0} (hook : HookOf A) (plugin : PluginOf P) (state : S → Recording × Sources A P) (old new : S) (told : List (Event × Bool) → Type 0) where
  abbrev Was : Type 0
  Was =
      (calls : List (Event × Bool)) × told calls
      × Calls (λ before event later. IsNext (asks hook plugin) (state before) event (state later)) (λ before event later. IsRefused (SourcesLeft hook plugin) (state before) event (state later)) old calls new

  pub was-told : RecordingLaw (asks hook plugin) (SourcesLeft hook plugin) state → (plan : Plan) → (state old).0 ≡ at_first plan → Was → WasTold hook plugin plan (state old).1 told (state new).0.data (state new).1.plugins
  was-told law plan first h =
      let is = law.of_calls plan (state old).1 old new h.0 (λ i. (first i, (state old).1)) h.2 in
      record { calls = h.0; has_told = h.1; left = (state new).1; is = record { rows = is.rows; told = is.told; counted = is.counted }; left_plugins = refl }

  pub are-left : LeavingLaw hook plugin state → Was → AreLeft plugin (state old).1.plugins (state new).1.plugins
  are-left law h = law old new h.0 h.2
