-- Programs over fewer objects, among more of them.
use Rattle.std.proofs.Common.{inl, inr, List, Result, refl, ap}
use Rattle.cov_contexts.specs.declared.plugins.Plugin.{Ghosts as PluginOf}
use Rattle.cov_outside.specs.declared.sink.Sink.{Ghosts as SinkOf}
use Rattle.cov_outside.specs.declared.source.Source.{Ghosts as SourceOf}
use Rattle.py_machine.specs.declared.engine.Engine.{Ghosts as EngineOf}
use Rattle.cov_measure.specs.Measures.{streams}
use Rattle.cov_programs.specs.Ends.{Follows}
use Rattle.cov_programs.specs.Objects.{Moves, beside}
use Rattle.cov_programs.proofs.Composing.{among}
use Rattle.cov_step.specs.Calls.{Call, spells, checks, reads, puts, opens, lists, loads, saves, removes, makes, writes, crosses, measures, tries, tests, selects, judges, says, Answer, IsNoMemory, Step}
use Rattle.cov_step.specs.Objects.{on_sink}
use Rattle.cov_streams.specs.Objects.{on_run}
use Rattle.cov_why.specs.Answers.{PlainWhy}

-- beside a shelf
module _ {H V W : Type 0} (shelf : Moves Call Answer H) (vault : Moves Call Answer V) (run : Moves Call Answer W) (s : H) where
  beside-moved : (u : V × W) (call : Call) (answer : Answer call) (v : V × W) → beside vault run u call answer v → beside (beside shelf vault) run ((s, u.0), u.1) call answer ((s, v.0), v.1)
  beside-moved u call answer v (inl m) = inl (inr (m.0, refl), m.1)
  beside-moved u call answer v (inr m) = inr (m.0, ap (λ x. (s, x)) m.1)

  pub beside-shelf : {A : Type 0} {p : Step A} {old new : V × W} {e : Result A PlainWhy} → Follows (beside vault run) IsNoMemory p old e new → Follows (beside (beside shelf vault) run) IsNoMemory p ((s, old.0), old.1) e ((s, new.0), new.1)
  beside-shelf f = among (beside vault run) (beside (beside shelf vault) run) IsNoMemory (λ u. ((s, u.0), u.1)) beside-moved f

-- a write, beside what a run is lent
module _ {I O P G : Type 0} (source : SourceOf I) (sink : SinkOf O) (plugin : PluginOf P) (engine : EngineOf G) (input : I) (plugins : List P) (g : G) where
  write-moved : (u : O) (call : Call) (answer : Answer call) (v : O) → on_sink sink u call answer v → on_run source sink plugin engine (streams input u plugins g) call answer (streams input v plugins g)
  write-moved u (spells words) answer v m = absurd m
  write-moved u (checks bytes) answer v m = absurd m
  write-moved u (reads name most) answer v m = absurd m
  write-moved u (puts name bytes) answer v m = absurd m
  write-moved u (opens name script) answer v m = absurd m
  write-moved u lists answer v m = absurd m
  write-moved u (loads name) answer v m = absurd m
  write-moved u (saves name content) answer v m = absurd m
  write-moved u (removes name) answer v m = absurd m
  write-moved u (makes texts) answer v m = absurd m
  write-moved u (writes bytes) answer v m = record { wrote = m; same = refl }
  write-moved u (crosses modules words budget) answer v m = absurd m
  write-moved u (measures asked modules hook) answer v m = absurd m
  write-moved u (tries modules words budget) answer v m = absurd m
  write-moved u (tests asked modules) answer v m = absurd m
  write-moved u (selects budget before after) answer v m = absurd m
  write-moved u (judges budget modules) answer v m = absurd m
  write-moved u (says text) answer v m = absurd m

  pub beside-run : {A : Type 0} {p : Step A} {old new : O} {e : Result A PlainWhy} → Follows (on_sink sink) IsNoMemory p old e new → Follows (on_run source sink plugin engine) IsNoMemory p (streams input old plugins g) e (streams input new plugins g)
  beside-run f = among (on_sink sink) (on_run source sink plugin engine) IsNoMemory (λ o. streams input o plugins g) write-moved f
