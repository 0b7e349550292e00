-- Data under the labels of a hook of code are those under the labels that its trees mean.
use Rattle.std.proofs.Common.{◌≡◌, ℕ, if◌then◌else◌, List, [], ◌∷◌, ◌++◌, Option, Some, None, refl, ap, sym, subst, ◌∙◌}
use Rattle.cov_event.specs.declared.ask.Ask.{Ghosts as HookOf}
use Rattle.cov_event.specs.declared.event.Event.{Event}
use Rattle.cov_event.specs.declared.event.Event.TheVariants.{Call, Line, Throw, Return}
use Rattle.cov_contexts.specs.declared.plugins.Plugin.{Ghosts as PluginOf}
use Rattle.cov_contexts.specs.Asking.{HookGives, Labels}
use Rattle.cov_contexts.specs.Sources.{Sources}
use Rattle.cov_data.specs.DataSet.{Text, DataSet}
use Rattle.cov_data.specs.Rows.{RowView}
use Rattle.py_compile.specs.ProgramRuns.{AreFaithful}
use Rattle.py_meaning.specs.Activations.{Items}
use Rattle.py_meaning.specs.Events.{events_in}
use Rattle.py_meaning.specs.Modules.{LoadedModule}
use Rattle.py_meaning.specs.Program.{run_modules, called}
use Rattle.py_compile_laws.specs.Traces.{AreWellFormed}
use Rattle.cov_hook.specs.States.{HookState}
use Rattle.cov_hook_laws.specs.Laws.{with_trees, HooksMean}
use Rattle.cov_hook_laws.specs.MeantHooks.{MeantHook}
use Rattle.cov_arcs.specs.Laws.{firsts_of}
use Rattle.cov_recorder.specs.Asking.{asks}
use Rattle.cov_recorder.specs.Plan.{Named, Plan, plan_of}
use Rattle.cov_recorder.specs.Recording.{Open, Recording, label_now, after, is_line, paths_told}
use Rattle.cov_recorder.specs.Labels.{question, GetsLabel, Labelled}
use Rattle.cov_recorder.specs.Laws.{all_paths, IsCounted}
use Rattle.cov_recorder_laws.specs.Laws.{first_lines}
use Rattle.cov_measure_laws.specs.Units.{tree_units, program_units, UnitsLaw}
use Rattle.cov_measure_laws.specs.Whole.{all_now, all_rows, TellsAll, IsDataOf, IsWhole, WholePlanLaw, WithoutSetsLaw, KeepsAll, ModulesWholeLaw, CallWholeLaw}
use Rattle.cov_measure_laws.specs.Meant.{tree_plan, meant_hook, MeantData, meant_of, meant_sources, IsFaithfulHook, IsHookOfCode, MeantDataLaw, KeepsMeantData, ModulesMeantLaw, CallMeantLaw}

-- ---- labels

module _ {A P : Type 0} (hook : HookOf A) (plugin : PluginOf P) (mean : HooksMean) (state : A → HookState) (code : IsHookOfCode hook state) (hs : List LoadedModule) (well : AreWellFormed hs) where
  abbrev Good : Option A → Type 0
  Good o = IsFaithfulHook state hs o

  abbrev to : Sources A P → Sources MeantHook P
  to s = meant_sources state hs s

  gives : («module» function : List ℕ) (old : Option A) (label : Option (List ℕ)) (new : Option A) → Good old → HookGives hook «module» function old label new
      → HookGives meant_hook «module» function (meant_of state hs old) label (meant_of state hs new) × Good new
  gives «module» function None label new g h = ((h.0, ap (meant_of state hs) h.1), subst Good (sym h.1) tt)
  gives «module» function (Some a) label new g h =
      let s = (mean.answers hs (state a) (state h.0) g well «module» function label).0 (code a h.0 «module» function label h.2) in (
        (with_trees hs (state h.0), ap (meant_of state hs) h.1, s.0),
        subst Good (sym h.1) (subst (λ cs. AreFaithful cs hs) (sym s.1) g),
      )

  labels : («module» function : List ℕ) (old : Sources A P) (label : Option (List ℕ)) (new : Sources A P) → Good old.hook → Labels hook plugin «module» function old label new
      → Labels meant_hook plugin «module» function (to old) label (to new) × Good new.hook
  labels «module» function old label new g h =
      let s = gives «module» function old.hook h.of_hook new.hook g h.by_hook in (
        record { of_hook = h.of_hook; of_plugins = h.of_plugins; by_hook = s.0; by_plugins = h.by_plugins; first_wins = h.first_wins; rule = h.rule },
        s.1,
      )

  same : (old new : Sources A P) → Good old.hook → new ≡ old → (to new ≡ to old) × Good new.hook
  same old new g e = (ap to e, subst (λ (s : Sources A P). Good s.hook) (sym e) g)

  is-label : (outer : Option (List ℕ)) (names : Option Named) (old : Sources A P) (label : Option (List ℕ)) (new : Sources A P) → Good old.hook
      → GetsLabel (asks hook plugin) outer names old label new → GetsLabel (asks meant_hook plugin) outer names (to old) label (to new) × Good new.hook
  is-label (Some outer) names old label new g h = let s = same old new g h.1 in ((h.0, s.0), s.1)
  is-label None None old label new g h = let s = same old new g h.1 in ((h.0, s.0), s.1)
  is-label None (Some unit) old label new g h = labels unit.module unit.function old label new g h

  labelled : (plan : Plan) (frames : List Open) (event : Event) (old : Sources A P) (label : Option (List ℕ)) (new : Sources A P) → Good old.hook
      → Labelled (asks hook plugin) plan frames event old label new → Labelled (asks meant_hook plugin) plan frames event (to old) label (to new) × Good new.hook
  labelled plan frames (Call c) old label new g h = is-label (label_now frames) (question plan c) old label new g h
  labelled plan frames (Line line) old label new g h = let s = same old new g h.1 in ((h.0, s.0), s.1)
  labelled plan frames (Throw kind) old label new g h = let s = same old new g h.1 in ((h.0, s.0), s.1)
  labelled plan frames Return old label new g h = let s = same old new g h.1 in ((h.0, s.0), s.1)

  pub tells : (plan : Plan) (frames : List Open) (old new : Sources A P) (events : List Event) (rows : List RowView) → Good old.hook
      → TellsAll (asks hook plugin) plan frames old events rows new → TellsAll (asks meant_hook plugin) plan frames (to old) events rows (to new) × Good new.hook
  tells plan frames old new [] rows g h = let s = same old new g h.1 in ((h.0, s.0), s.1)
  tells plan frames old new (event ∷ rest) rows g h =
      let s = labelled plan frames event old h.0 h.1 g h.3 in
      let later = tells plan (after h.0 frames event) h.1 new rest h.2 s.1 h.4 in
      ((h.0, to h.1, h.2, s.0, later.0, h.5), later.1)

-- ---- sets stand in none of that

module _ {C : Type 0} (asks : C → Text → Text → Option (List ℕ) → C → Type 0) (plan : Plan) where
  abbrev bare : Plan
  bare = record plan { sets = [] }

  bare-labelled : (frames : List Open) (event : Event) (old : C) (label : Option (List ℕ)) (new : C) → Labelled asks plan frames event old label new → Labelled asks bare frames event old label new
  bare-labelled frames (Call c) old label new h = h
  bare-labelled frames (Line line) old label new h = h
  bare-labelled frames (Throw kind) old label new h = h
  bare-labelled frames Return old label new h = h

  bare-now : (frames : List Open) (line : ℕ) → all_now plan frames line ≡ all_now bare frames line
  bare-now [] line = refl
  bare-now (frame ∷ outer) line = refl

  bare-rows : (frames : List Open) (event : Event) → all_rows plan frames event ≡ all_rows bare frames event
  bare-rows frames (Call c) = refl
  bare-rows frames (Line line) = ap (λ rows. if is_line line then rows else []) (bare-now frames line)
  bare-rows frames (Throw kind) = refl
  bare-rows frames Return = ap (λ rows. if plan.arcs then rows else []) (bare-now frames 0)

  bare-tells : (frames : List Open) (old new : C) (events : List Event) (rows : List RowView) → TellsAll asks plan frames old events rows new → TellsAll asks bare frames old events rows new
  bare-tells frames old new [] rows h = h
  bare-tells frames old new (event ∷ rest) rows h =
      (h.0, h.1, h.2, bare-labelled frames event old h.0 h.1 h.3, bare-tells (after h.0 frames event) h.1 new rest h.2 h.4, h.5 ∙ ap (λ w. w ++ h.2) (bare-rows frames event))

  bare-paths : (event : Event) → paths_told plan event ≡ paths_told bare event
  bare-paths (Call c) = refl
  bare-paths (Line line) = refl
  bare-paths (Throw kind) = refl
  bare-paths Return = refl

  bare-all : (events : List Event) → all_paths plan events ≡ all_paths bare events
  bare-all [] = refl
  bare-all (event ∷ rest) = ap (λ w. w ++ all_paths plan rest) (bare-paths event) ∙ ap (λ w. paths_told bare event ++ w) (bare-all rest)

  pub without : (ms : List LoadedModule) → plan.units ≡ tree_units ms → (old new : C) (events : List Event) (d : DataSet) → IsDataOf asks plan old events d new → IsDataOf asks (tree_plan ms plan.arcs plan.fixed) old events d new
  without ms units old new events d h =
      subst (λ p. IsDataOf asks p old events d new) (λ i. record { units = units i; sets = []; arcs = plan.arcs; fixed = plan.fixed })
      (record {
        rows = h.rows;
        told = bare-tells [] old new events h.rows h.told;
        counted = subst (λ paths. IsCounted plan.arcs paths h.rows d) (bare-all events) h.counted;
      })

module _ {A P : Type 0} (hook : HookOf A) (plugin : PluginOf P) (mean : HooksMean) where
  pub meant_data : MeantDataLaw hook plugin
  meant_data state code hs well ms plan units old new items d g h =
      let h = without (asks hook plugin) plan ms units old new (events_in items) d h in
      let s = tells hook plugin mean state code hs well (tree_plan ms plan.arcs plan.fixed) [] old new (events_in items) h.rows g h.told in
      (record { rows = h.rows; told = s.0; counted = h.counted }, s.1)

  -- ---- a recorder

  module _ {S : Type 0} (state : S → Recording × Sources A P) (units : UnitsLaw) (plans : WholePlanLaw) (law : WithoutSetsLaw (asks hook plugin) state) where
    keeps : (ms : List LoadedModule) (items : Items) → KeepsAll (asks hook plugin) state ms items → KeepsMeantData hook plugin state ms items
    keeps ms items all code of_code hs well arcs fixed plan is sources faithful old new first takes =
        let made = plan_of (program_units is.programs.modules.items) is.sets arcs fixed in
        let firsts : first_lines plan ≡ firsts_of ms = ap first_lines is.made ∙ units.firsts is.programs ms is.faithful in
        let whole : IsWhole plan ms = subst (λ p. IsWhole p ms) (sym is.made) (plans (program_units is.programs.modules.items) is.sets arcs fixed ms is.whole) in
        let kept = law plan sources (events_in items) old new first takes (all.nothing plan firsts whole) in
        let same : plan.units ≡ tree_units ms = ap (λ (p : Plan). p.units) is.made ∙ units.same is.programs ms is.faithful is.paths in
        let done = (meant_data code of_code hs well ms plan same sources (state new).1 items (state new).0.data faithful kept).0 in
        subst (λ f. MeantData plugin ms arcs f (meant_sources code hs sources) items (state new).0.data (meant_sources code hs (state new).1)) (ap (λ (p : Plan). p.fixed) is.made)
        (subst (λ b. MeantData plugin ms b plan.fixed (meant_sources code hs sources) items (state new).0.data (meant_sources code hs (state new).1)) (ap (λ (p : Plan). p.arcs) is.made) done)

    pub modules_meant : ModulesWholeLaw (asks hook plugin) state → ModulesMeantLaw hook plugin state
    modules_meant whole ms some lines proper words input budget = keeps ms (run_modules ms words input budget).items (whole ms some lines proper words input budget)

    pub call_meant : CallWholeLaw (asks hook plugin) state → CallMeantLaw hook plugin state
    call_meant whole ms lines proper w input r budget = keeps ms (called ms w input r budget).items (whole ms lines proper w input r budget)
