-- What a run under a new recorder, with empty input, comes to.
use Rattle.std.proofs.Common.{◌≡◌, ℕ, Bool, List, [], ◌∷◌, ◌++◌, ap, subst, ◌∙◌}
use Rattle.cov_event.specs.declared.ask.Nobody.{Nobody}
use Rattle.cov_event.specs.declared.event.Event.{Event}
use Rattle.cov_event.specs.Moves.{Takes}
use Rattle.cov_contexts.specs.declared.plugins.Plugin.{Ghosts as PluginOf}
use Rattle.cov_contexts.specs.Sources.{Sources}
use Rattle.cov_data.specs.DataSet.{DataSet}
use Rattle.cov_recorder.specs.declared.recorder.Recorder.{Recorder}
use Rattle.cov_recorder.specs.Asking.{asks, SourcesLeft}
use Rattle.cov_recorder.specs.Laws.{RecordingLaw}
use Rattle.cov_recorder.specs.Plan.{Plan}
use Rattle.cov_recorder.specs.Recording.{Recording, at_first}
use Rattle.cov_recorder.specs.States.{state_of}
use Rattle.py_builtins.specs.Inputs.{Wrote}
use Rattle.py_builtins.specs.World.{World}
use Rattle.py_code.specs.Programs.{first_world, run, called}
use Rattle.py_code.specs.Slots.{by_slots}
use Rattle.py_code.specs.Units.{Module}
use Rattle.py_machine.specs.declared.outcome.Answer.{Answer}
use Rattle.py_machine.specs.declared.outcome.Ran.{Ran}
use Rattle.py_machine.specs.Outcomes.{plain_outcome, plain_called}
use Rattle.py_machine.specs.Runs.{IsRun, IsCall, request}
use Rattle.py_machine.specs.Told.{OnInput}
use Rattle.py_syntax.specs.Tree.{Text}
use Rattle.cov_suite.specs.declared.runs.Ended.{Ended}
use Rattle.cov_suite.specs.Recorded.{IsStep, TookAll, WasRecorded, is_finished, ImportRan, TestRan, Imports, Tests}
use Rattle.cov_suite.specs.Results.{words, end_of, result_of_code}
use Rattle.cov_suite.specs.Rows.{nobody, sources_of}

-- an input that is told to be empty
on-empty : (tells : Type 0) (before after : List ℕ) (Q : List ℕ → List ℕ → Type 0) → tells → before ≡ [] → OnInput tells before after Q → (rest : List ℕ) × Q [] rest
on-empty tells before after Q t e h = (h.rest, subst (λ all. Q all h.rest) ((h.told t).0 ∙ e) (h.holds h.input h.rest h.fed))

module _ {T : Type 0} (moves : T → Event → T → Type 0) (ms : List Module) (budget : ℕ) (w left : World) (before after : T) (tells : Type 0) (i0 i1 : List ℕ) (t : tells) (none : i0 ≡ []) (wrote : List ℕ → Type 0) where
  pub import-ran : (ran : Ran) (done : Bool) → done ≡ is_finished (plain_outcome ran.outcome) → OnInput tells i0 i1 (IsRun (λ es. Takes moves before es after) wrote ms w budget ran left)
      → ImportRan moves ms budget w left before after done
  import-ran ran done e h =
      let is = (on-empty tells i0 i1 (IsRun (λ es. Takes moves before es after) wrote ms w budget ran left) t none h).1 in
      record { outcome = e ∙ ap is_finished is.outcome; world = is.world; took = is.told }

module _ {T : Type 0} (moves : T → Event → T → Type 0) (ms : List Module) (budget : ℕ) (w left : World) (before after : T) (tells : Type 0) (i0 i1 : List ℕ) (t : tells) (none : i0 ≡ []) (says : Type 0) (o0 o1 : List ℕ) (s : says) (first : o0 ≡ []) where
  pub test-ran : (text name : Text) → text ≡ name → (answer : Answer) (ended : Ended) → ended.end ≡ end_of (plain_called answer.called) → ended.output.items ≡ o1 → ended.steps ≡ answer.steps
      → OnInput tells i0 i1 (IsCall (λ es. Takes moves before es after) (Wrote says o0 o1) ms w (request 0 text []) budget answer left)
      → TestRan moves ms budget w name before after ended
  test-ran text name same answer ended end out steps h =
      let is = (on-empty tells i0 i1 (IsCall (λ es. Takes moves before es after) (Wrote says o0 o1) ms w (request 0 name []) budget answer left) t none
      (subst (λ x. OnInput tells i0 i1 (IsCall (λ es. Takes moves before es after) (Wrote says o0 o1) ms w (request 0 x []) budget answer left)) same h)).1 in
      let reply = called (by_slots ms) ms w [] (request 0 name []) budget in
      let e : ended.end ≡ end_of reply.returned = end ∙ ap end_of is.returned in
      let o : ended.output.items ≡ reply.out = out ∙ is.written s ∙ ap (λ bs. bs ++ reply.out) first in
      let n : ended.steps ≡ reply.steps = steps ∙ is.steps in
      record {
        result = λ i. record { name = name; end = e i; output = o i; steps = n i };
        took = is.told;
      }

module _ {P : Type 0} (plugin : PluginOf P) (law : RecordingLaw (asks nobody plugin) (SourcesLeft nobody plugin) state_of) (plan : Plan) (old : List P) (before after : Recorder Nobody P) (first : state_of before ≡ (at_first plan, sources_of old)) (d : DataSet) (new : List P) (kept : d ≡ (state_of after).0.data) (left : new ≡ (state_of after).1.plugins) where
  recorded-is : (events : List Event) → TookAll plugin before events after → WasRecorded plugin plan old events d new
  recorded-is events took = record {
    before = before;
    after = after;
    first = first;
    took = took;
    kind = ap (λ (x : DataSet). x.arcs) kept ∙ (law.of_taken plan (sources_of old) before after events first took).counted.kind;
    kept = kept;
    left = left;
  }

  module _ (ms : List Module) (budget : ℕ) (w : World) where
    pub import-is : (done : Bool) (last : World) → w ≡ first_world ms words → ImportRan (IsStep plugin) ms budget w last before after done → Imports plugin plan ms budget old done last d new
    import-is done last e h =
        let k = subst (λ x. ImportRan (IsStep plugin) ms budget x last before after done) e h in
        record { outcome = k.outcome; world = k.world; recorded = recorded-is (run (by_slots ms) ms (first_world ms words) [] budget).events k.took }

    pub test-is : (v : World) → w ≡ v → (name : Text) (ended : Ended) → TestRan (IsStep plugin) ms budget w name before after ended → Tests plugin plan ms budget v name old ended d new
    test-is v e name ended h =
        let k = subst (λ x. TestRan (IsStep plugin) ms budget x name before after ended) e h in
        record { result = k.result; recorded = recorded-is (result_of_code ms v budget name).1 k.took }

-- ---- a recorder keeps its plan

module _ {P : Type 0} (plugin : PluginOf P) where
  keeps-plan : (events : List Event) (before after : Recorder Nobody P) → TookAll plugin before events after → (state_of after).0.plan ≡ (state_of before).0.plan
  keeps-plan [] before after e = ap (λ (r : Recorder Nobody P). (state_of r).0.plan) e
  keeps-plan (event ∷ events) before after h = keeps-plan events h.0 after h.2 ∙ ap (λ (r : Recording). r.plan) h.1.2

  module _ (plan : Plan) (old : List P) (before after : Recorder Nobody P) (first : state_of before ≡ (at_first plan, sources_of old)) (next : Plan) (is : next ≡ (state_of after).0.plan) where
    plan-stays : (events : List Event) → TookAll plugin before events after → next ≡ plan
    plan-stays events took = is ∙ keeps-plan events before after took ∙ ap (λ (s : Recording × Sources Nobody P). s.0.plan) first

    -- the plan after an import, and after a test
    pub import-plan : (ms : List Module) (budget : ℕ) (w last : World) (done : Bool) → ImportRan (IsStep plugin) ms budget w last before after done → next ≡ plan
    import-plan ms budget w last done h = plan-stays (run (by_slots ms) ms w [] budget).events h.took

    pub test-plan : (ms : List Module) (budget : ℕ) (w : World) (name : Text) (ended : Ended) → TestRan (IsStep plugin) ms budget w name before after ended → next ≡ plan
    test-plan ms budget w name ended h = plan-stays (result_of_code ms w budget name).1 h.took
