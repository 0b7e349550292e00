-- A run that was measured over objects of its own, as a try.
use Rattle.std.proofs.Common.{◌≡◌, inl, inr, ℕ, zero, suc, ◌<◌, true, false, List, [], ◌∷◌, length, Option, Some, None, Result, Ok, Err, refl, sym, ap, subst, ◌∙◌, arith}
use Rattle.std.specs.List.{Contains}
use Rattle.cov_contexts.specs.declared.plugins.Plugin.{Ghosts as PluginOf}
use Rattle.cov_measure.specs.Measures.{MeasureOf, Streams, streams, sources_of}
use Rattle.cov_measure.specs.Requests.{Asked, plain_answer, plain_measured}
use Rattle.cov_measure.specs.declared.request.Measured.{Measured}
use Rattle.cov_measure_laws.specs.Meant.{MeantData, tree_plan}
use Rattle.cov_outside.specs.Counts.{Rose}
use Rattle.cov_outside.specs.declared.sink.Sink.{Ghosts as SinkOf}
use Rattle.cov_outside.specs.declared.source.Source.{Ghosts as SourceOf}
use Rattle.cov_recorder.specs.Plan.{set_at}
use Rattle.cov_streams.specs.Runs.{arcs_asked}
use Rattle.cov_streams.specs.Trials.{TriedAs, IsTried}
use Rattle.py_builtins.specs.declared.fault.RunFault.{RunFault}
use Rattle.py_machine.specs.declared.engine.Engine.{Ghosts as EngineOf}
use Rattle.py_meaning.specs.Events.{events_in}
use Rattle.py_meaning.specs.Modules.{LoadedModule, body_of}
use Rattle.py_meaning.specs.Program.{run_modules}
use Rattle.py_syntax.specs.Prediction.{Arc, possible}
use Rattle.py_syntax.specs.Tree.{Text}
use Rattle.cov_made.specs.Views.{ran_view, tried_view}
use Rattle.cov_made.proofs.Unlabelled.{data-so}

pub no-rise : Rose 0 0 → ⊥
no-rise (inl h) = omega (arith, h)
no-rise (inr h) = omega (arith, h)

module _ {I O P G : Type 0} (source : SourceOf I) (sink : SinkOf O) (plugin : PluginOf P)
    (engine : EngineOf G) where
  -- with an input that tells that it is empty, a true engine and no plugins
  pub tried-so : source.tells → engine.faithful → (old new : Streams I O P G)
      → source.left old.input ≡ [] → old.plugins ≡ [] → (ms : List LoadedModule)
      (words : List Text) (budget : ℕ) (m : Measured)
      → MeasureOf source sink plugin engine old (arcs_asked words budget) ms None
      (Ok (plain_measured m)) new
      → TriedAs ms words budget (ran_view m)
  tried-so tells faithful old new empty none ms words budget m measured =
      let heard = measured.ended faithful in
      let a = heard.holds heard.input heard.rest heard.fed in
      let is = (heard.told tells).0 ∙ empty in
      record {
        outcome = a.outcome ∙ ap (λ all. (run_modules ms words all budget).outcome) is;
        steps = a.steps ∙ ap (λ all. (run_modules ms words all budget).steps) is;
        rows = data-so plugin (tree_plan ms true [])
            (events_in (run_modules ms words [] budget).items) m.rows a.left_sources
            (subst (λ all. MeantData plugin ms true [] (sources_of None [] false)
            (run_modules ms words all budget).items m.rows a.left_sources) is
            (subst (λ ps. MeantData plugin ms true [] (sources_of None ps false)
            (run_modules ms words heard.input budget).items m.rows a.left_sources) none a.rows));
      }

  pub tried-answer : source.tells → engine.faithful → (old new : Streams I O P G)
      → source.left old.input ≡ [] → old.plugins ≡ [] → (ms one : List LoadedModule) → ms ≡ one
      → (words : List Text) (budget : ℕ) (asked : Asked) → asked ≡ arcs_asked words budget
      → (answer : Result Measured RunFault)
      → MeasureOf source sink plugin engine old asked ms None (plain_answer answer) new
      → IsTried one words budget (tried_view answer)
  tried-answer tells faithful old new empty none ms one is words budget asked asks (Ok m) h =
      subst (λ ms. TriedAs ms words budget (ran_view m)) is
      (tried-so tells faithful old new empty none ms words budget m
      (subst (λ q. MeasureOf source sink plugin engine old q ms None (Ok (plain_measured m)) new)
      asks h))
  tried-answer tells faithful old new empty none ms one is words budget asked asks (Err f) h = tt

-- a set that holds what is possible in the one module
pub holds-one : (m : LoadedModule) (ms : List LoadedModule) (sets : List (List Arc))
    → ms ≡ m ∷ [] → sets ≡ possible m.body ∷ []
    → (n : ℕ) → n < length ms → (a : Arc) → Contains (possible (body_of ms n)) a
    → Contains (set_at sets n) a
holds-one m ms sets one is n low a h = go n (subst (λ ms. n < length ms) one low)
    (subst (λ ms. Contains (possible (body_of ms n)) a) one h)
  where
    go : (n : ℕ) → n < 1 → Contains (possible (body_of (m ∷ []) n)) a → Contains (set_at sets n) a
    go n low h = subst (λ s. Contains (set_at s n) a) (sym is) (at n low h)
      where
        at : (n : ℕ) → n < 1 → Contains (possible (body_of (m ∷ []) n)) a
            → Contains (set_at (possible m.body ∷ []) n) a
        at zero low h = h
        at (suc n) low h = absurd (omega (arith, low))
