-- A measure is a run under a new recorder.
use Rattle.std.proofs.Common.{◌≡◌, ℕ, ◌<◌, Bool, List, [], ◌∷◌, All, inl, inr, refl, sym, ap, ◌∙◌, subst, arith}
use Rattle.std.proofs.lemmas.List.Elements.{All-nil, All-cons, All-head, All-tail}
use Rattle.cov_event.specs.declared.ask.Ask.{Ghosts as HookOf}
use Rattle.cov_event.specs.declared.event.Event.{Event}
use Rattle.cov_contexts.specs.declared.plugins.Plugin.{Ghosts as PluginOf}
use Rattle.cov_contexts.specs.Sources.{Sources}
use Rattle.cov_data.specs.DataSet.{Text as Bytes, DataSet}
use Rattle.py_code.specs.declared.code.Programs.{Programs}
use Rattle.py_machine.specs.declared.outcome.Ran.{Ran}
use Rattle.py_machine.specs.Outcomes.{plain_outcome}
use Rattle.py_machine.specs.Told.{OnInput, OnInputUntil}
use Rattle.py_meaning.specs.Activations.{Items}
use Rattle.py_meaning.specs.Modules.{LoadedModule}
use Rattle.py_meaning.specs.Program.{run_modules}
use Rattle.py_prediction_laws.specs.Sound.{IsProper}
use Rattle.py_syntax.specs.Marks.{statement_lines}
use Rattle.py_syntax.specs.Prediction.{Arc}
use Rattle.py_syntax.specs.Tree.{Text}
use Rattle.py_compile_laws.specs.Traces.{AreWellFormed}
use Rattle.cov_hook.specs.States.{HookState}
use Rattle.cov_recorder.specs.Plan.{Named, IsFirst, Plan, plan_with, plan_of}
use Rattle.cov_recorder.specs.Recording.{Recording, at_first}
use Rattle.cov_recorder_laws.specs.Laws.{HasTextLines}
use Rattle.cov_measure_laws.specs.Leaving.{AreLeft}
use Rattle.cov_measure_laws.specs.Meant.{tree_plan, MeantData, meant_sources, IsFaithfulHook}
use Rattle.cov_measure_laws.specs.Units.{tree_units, program_units, UnitsLaw}
use Rattle.cov_measure_laws.specs.Whole.{WholePlanLaw}
use Rattle.cov_measure.specs.Measures.{MeasuredAs}
use Rattle.cov_measure.specs.Measuring.{RanMeasured, IsMeasuring, AreMeasurable, AreMeasured, IsSteady, HasRunSteps, GainsSome}
use Rattle.cov_measure.specs.Requests.{Asked, Ended}
use Rattle.cov_measure.specs.Told.{WasTold, WasRefused}

numbered : (ls : List ℕ) → All IsFirst ls → All (λ l. 0 < l) ls
numbered [] h = All-nil (λ l. 0 < l)
numbered (l ∷ ls) h = let on = (All-head IsFirst l ls h).0 in All-cons (λ l. 0 < l) l ls (omega arith) (numbered ls (All-tail IsFirst l ls h))

proper : (ms : List LoadedModule) → AreWellFormed ms → All HasTextLines ms → All IsProper ms
proper [] well h = All-nil IsProper
proper (m ∷ ms) well h =
    All-cons IsProper m ms (record { well_formed = well.0; numbered = numbered (statement_lines m.body) (All-head HasTextLines m ms h) }) (proper ms well.1 (All-tail HasTextLines m ms h))

module _ {A P : Type 0} (hook : HookOf A) (ps : Programs) (sets : List (List Arc)) (ms hs : List LoadedModule) (code : A → HookState) (sources : Sources A P) (are : AreMeasurable hook ps sets ms hs code sources) (arcs : Bool) (fixed : Bytes) where
  -- the premises of a run under a new recorder
  pub measuring : (old : Recording × Sources A P) → old.0 ≡ at_first (plan_of (program_units ps.modules.items) sets arcs fixed) → old.1 ≡ sources → IsMeasuring hook ps ms hs arcs fixed code old
  measuring old first of = record {
    plan = plan_of (program_units ps.modules.items) sets arcs fixed;
    made = record { programs = ps; sets = sets; faithful = are.trees.faithful; paths = are.trees.paths; made = refl; whole = are.trees.whole };
    first = λ i. (first i, old.1);
    faithful = are.trees.faithful;
    well_formed = are.trees.well_formed;
    proper = proper ms are.trees.well_formed are.trees.lines;
    lines = are.trees.lines;
    of_code = are.of_code;
    hook_well = are.hook_well;
    hook_faithful = subst (λ (s : Sources A P). IsFaithfulHook code hs s.hook) (sym of) are.hook_faithful;
  }

-- a new recorder is at the first state of the plan of its programs
pub begun : (us vs : List (List Named)) → us ≡ vs → (sets : List (List Arc)) (arcs : Bool) (f g : Bytes) → f ≡ g → (r : Recording) → r ≡ at_first (plan_of us sets arcs f) → r ≡ at_first (plan_of vs sets arcs g)
begun us vs e sets arcs f g same r is = is ∙ (λ i. at_first (plan_of (e i) sets arcs (same i)))

-- what holds of every input that agrees with what was read
pub heard-as : (tells : Type 0) (before after : List ℕ) (P Q : List ℕ → List ℕ → Type 0) → ((all rest : List ℕ) → P all rest → Q all rest) → OnInput tells before after P → OnInput tells before after Q
heard-as tells before after P Q f h = record { heard = h.heard; input = h.input; rest = h.rest; fed = h.fed; told = h.told; holds = λ all rest fed. f all rest (h.holds all rest fed) }

module _ {A P : Type 0} (plugin : PluginOf P) (asked : Asked) (ms hs : List LoadedModule) (code : A → HookState) (sources : Sources A P) where
  -- what such a run comes to
  pub ended : (ws : List Text) → ws ≡ asked.words → (ran : Ran) (m : Ended) (plugins : List P) (from : Sources A P) (new : Recording × Sources A P) (tells : Type 0) (before after : List ℕ) (wrote : List ℕ → Type 0)
      → from ≡ sources → m.outcome ≡ plain_outcome ran.outcome → m.steps ≡ ran.steps → m.rows ≡ new.0.data → plugins ≡ new.1.plugins
      → OnInput tells before after (λ all rest. RanMeasured plugin ms hs asked.arcs asked.context code from new.1 (run_modules ms ws all asked.budget) ran new.0.data wrote rest)
      → OnInput tells before after (λ all rest. MeasuredAs plugin asked ms (meant_sources code hs sources) (run_modules ms asked.words all asked.budget) m plugins wrote rest)
  ended ws same ran m plugins from new tells before after wrote of outcome steps rows left given =
      heard-as tells before after _ _
      (λ all rest is. record {
        outcome = outcome ∙ is.outcome;
        steps = steps ∙ is.steps;
        left_sources = meant_sources code hs new.1;
        left_plugins = left;
        rows = subst (λ (d : DataSet). MeantData plugin ms asked.arcs asked.context (meant_sources code hs sources) (run_modules ms asked.words all asked.budget).items d (meant_sources code hs new.1)) (sym rows)
            (subst (λ (s : Sources A P). MeantData plugin ms asked.arcs asked.context (meant_sources code hs s) (run_modules ms asked.words all asked.budget).items new.0.data (meant_sources code hs new.1)) of is.rows);
        out = is.out;
        left = is.left;
      })
      (subst (λ vs. OnInput tells before after (λ all rest. RanMeasured plugin ms hs asked.arcs asked.context code from new.1 (run_modules ms vs all asked.budget) ran new.0.data wrote rest)) same given)

-- the steps of a plan, by the trees of its modules
as-trees : (us vs : List (List Named)) → us ≡ vs → (sets : List (List Arc)) (arcs : Bool) (fixed : Bytes) (ms : List LoadedModule) (items : Items) (d : DataSet)
    → HasRunSteps (plan_of us sets arcs fixed) ms items d → HasRunSteps (plan_with vs [] arcs fixed) ms items d
as-trees us vs e sets arcs fixed ms items d h =
    subst (λ w. HasRunSteps (plan_with w [] arcs fixed) ms items d) e
    (record { all = record { arcs = h.all.arcs; lines = h.all.lines }; foreseen = record { arcs = h.foreseen.arcs; lines = h.foreseen.lines } })

pub stepped : UnitsLaw → (ps : Programs) (sets : List (List Arc)) (ms : List LoadedModule) (asked : Asked) → AreMeasured ps sets ms → (ws : List Text) → ws ≡ asked.words → (d e : DataSet) → e ≡ d → (tells : Type 0) (before after : List ℕ)
    → OnInput tells before after (λ all rest. HasRunSteps (plan_of (program_units ps.modules.items) sets asked.arcs asked.context) ms (run_modules ms ws all asked.budget).items d)
    → OnInput tells before after (λ all rest. HasRunSteps (tree_plan ms asked.arcs asked.context) ms (run_modules ms asked.words all asked.budget).items e)
stepped units ps sets ms asked are ws same d e found tells before after given =
    heard-as tells before after _ _
    (λ all rest is. subst (λ (x : DataSet). HasRunSteps (tree_plan ms asked.arcs asked.context) ms (run_modules ms asked.words all asked.budget).items x) (sym found)
    (as-trees (program_units ps.modules.items) (tree_units ms) (units.same ps ms are.faithful are.paths) sets asked.arcs asked.context ms (run_modules ms asked.words all asked.budget).items d is))
    (subst (λ vs. OnInput tells before after (λ all rest. HasRunSteps (plan_of (program_units ps.modules.items) sets asked.arcs asked.context) ms (run_modules ms vs all asked.budget).items d)) same given)

-- a first part of an output, under equal words
pub some-output : (ms : List LoadedModule) (ws vs : List Text) → ws ≡ vs → (budget : ℕ) (tells : Type 0) (before after : List ℕ) (said : Type 0) (o0 o1 : List ℕ)
    → OnInputUntil tells before after (λ all. GainsSome said o0 o1 (run_modules ms ws all budget).out) → OnInputUntil tells before after (λ all. GainsSome said o0 o1 (run_modules ms vs all budget).out)
some-output ms ws vs same budget tells before after said o0 o1 h = subst (λ us. OnInputUntil tells before after (λ all. GainsSome said o0 o1 (run_modules ms us all budget).out)) same h

-- ---- whoever told the events

module _ {A P : Type 0} (hook : HookOf A) (plugin : PluginOf P) (plan : Plan) (old sources : Sources A P) (of : old ≡ sources) (told : List (Event × Bool) → Type 0) (qs ps : List P) (left : ps ≡ qs) where
  pub told-as : (d e : DataSet) → e ≡ d → WasTold hook plugin plan old told d qs → WasTold hook plugin plan sources told e ps
  told-as d e found h =
      subst (λ (s : Sources A P). WasTold hook plugin plan s told e ps) of
      (subst (λ (x : DataSet). WasTold hook plugin plan old told x ps) (sym found) (subst (λ xs. WasTold hook plugin plan old told d xs) (sym left) h))

  pub refused-as : (nothing : Type 0) → WasRefused hook plugin plan old nothing told qs → WasRefused hook plugin plan sources nothing told ps
  refused-as nothing (inl h) = inl (h.0, left ∙ h.1 ∙ ap (λ (s : Sources A P). s.plugins) of)
  refused-as nothing (inr h) = inr (h.0, told-as h.0 h.0 refl h.1)

  pub left-as : AreLeft plugin old.plugins qs → AreLeft plugin sources.plugins ps
  left-as h = subst (λ (s : Sources A P). AreLeft plugin s.plugins ps) of (subst (λ xs. AreLeft plugin old.plugins xs) (sym left) h)

-- a whole plan of the programs
pub steady : UnitsLaw → WholePlanLaw → (ps : Programs) (sets : List (List Arc)) (ms : List LoadedModule) (arcs : Bool) (fixed : Bytes) → AreMeasured ps sets ms → IsSteady ps ms (plan_of (program_units ps.modules.items) sets arcs fixed)
steady units plans ps sets ms arcs fixed are = record {
  faithful = are.faithful;
  well_formed = are.well_formed;
  proper = proper ms are.well_formed are.lines;
  lines = are.lines;
  firsts = units.firsts ps ms are.faithful;
  whole = plans (program_units ps.modules.items) sets arcs fixed ms are.whole;
}
