-- What calls do with input, output, plugins and engine; and of the plugins each stays or leaves.
use Rattle.std.proofs.Common.{◌≡◌, inl, inr, true, true≢false, sym, ap, Result}
use Rattle.cov_contexts.specs.declared.plugins.Plugin.{Ghosts as PluginOf}
use Rattle.cov_exclude.specs.declared.maker.Maker.{Ghosts as MakerOf}
use Rattle.cov_outside.specs.declared.shelf.Shelf.{Ghosts as ShelfOf}
use Rattle.cov_outside.specs.declared.sink.Sink.{Ghosts as SinkOf}
use Rattle.cov_outside.specs.declared.source.Source.{Ghosts as SourceOf}
use Rattle.py_machine.specs.declared.engine.Engine.{Ghosts as EngineOf}
use Rattle.cov_measure.specs.Measures.{Streams}
use Rattle.cov_measure_laws.specs.Leaving.{AreLeft}
use Rattle.cov_measure_laws.proofs.Leaving.{as-before, same-list, one-after}
use Rattle.cov_programs.specs.Ends.{Follows}
use Rattle.cov_programs.specs.Objects.{Moves}
use Rattle.cov_programs.proofs.Later.{ends-onward}
use Rattle.cov_step.specs.Calls.{Call, spells, checks, reads, puts, opens, lists, loads, saves, removes, makes, writes, crosses, measures, tries, tests, selects, judges, says, Answer, Step, IsNoMemory}
use Rattle.cov_step.specs.Objects.{Saying}
use Rattle.cov_step.specs.Early.{leaves_streams}
use Rattle.cov_streams.specs.Objects.{on_run}
use Rattle.cov_vault.specs.declared.vault.Vault.{Ghosts as VaultOf}
use Rattle.cov_why.specs.Answers.{PlainWhy}
use Rattle.cov_app.specs.Objects.{All, on_command}

-- ---- the objects of a run

module _ {I O P G : Type 0} (source : SourceOf I) (sink : SinkOf O) (plugin : PluginOf P) (engine : EngineOf G) where
  run-kept : (u : Streams I O P G) (call : Call) (x : Answer call) (v : Streams I O P G) → on_run source sink plugin engine u call x v → leaves_streams call x ≡ true → v ≡ u
  run-kept u (spells words) x v m e = absurd m
  run-kept u (checks bytes) x v m e = absurd m
  run-kept u (reads name most) x v m e = absurd m
  run-kept u (puts name bytes) x v m e = absurd m
  run-kept u (opens name script) x v m e = absurd m
  run-kept u lists x v m e = absurd m
  run-kept u (loads name) x v m e = absurd m
  run-kept u (saves name content) x v m e = absurd m
  run-kept u (removes name) x v m e = absurd m
  run-kept u (makes texts) x v m e = absurd m
  run-kept u (writes bytes) x v m e = absurd (true≢false (sym e))
  run-kept u (crosses modules words budget) x v m e = absurd (true≢false (sym e))
  run-kept u (measures asked modules hook) x v m e = absurd (true≢false (sym e))
  run-kept u (tries modules words budget) x v m e = m.same
  run-kept u (tests asked modules) x v m e = absurd (true≢false (sym e))
  run-kept u (selects budget before after) x v m e = m.same
  run-kept u (judges budget modules) x v m e = m.same
  run-kept u (says text) x v m e = absurd m

  run-left : (u : Streams I O P G) (call : Call) (x : Answer call) (v : Streams I O P G) → on_run source sink plugin engine u call x v → AreLeft plugin u.plugins v.plugins
  run-left u (spells words) x v m = absurd m
  run-left u (checks bytes) x v m = absurd m
  run-left u (reads name most) x v m = absurd m
  run-left u (puts name bytes) x v m = absurd m
  run-left u (opens name script) x v m = absurd m
  run-left u lists x v m = absurd m
  run-left u (loads name) x v m = absurd m
  run-left u (saves name content) x v m = absurd m
  run-left u (removes name) x v m = absurd m
  run-left u (makes texts) x v m = absurd m
  run-left u (writes bytes) x v m = same-list plugin u.plugins v.plugins (ap (λ (s : Streams I O P G). s.plugins) m.same)
  run-left u (crosses modules words budget) x v m = same-list plugin u.plugins v.plugins m.plugins
  run-left u (measures asked modules hook) x v m = m.run.plugins
  run-left u (tries modules words budget) x v m = same-list plugin u.plugins v.plugins (ap (λ (s : Streams I O P G). s.plugins) m.same)
  run-left u (tests asked modules) x v m = m.ran.suite.plugins
  run-left u (selects budget before after) x v m = same-list plugin u.plugins v.plugins (ap (λ (s : Streams I O P G). s.plugins) m.same)
  run-left u (judges budget modules) x v m = same-list plugin u.plugins v.plugins (ap (λ (s : Streams I O P G). s.plugins) m.same)
  run-left u (says text) x v m = absurd m

-- ---- all objects

module _ {H V M I O P G E : Type 0} (shelf : ShelfOf H) (vault : VaultOf V) (maker : MakerOf M) (source : SourceOf I) (sink : SinkOf O) (plugin : PluginOf P) (engine : EngineOf G) (err : SinkOf E) where
  abbrev pub Lent : Type 0
  Lent = All H V M I O P G × Saying E

  abbrev pub whole : Moves Call Answer Lent
  whole = on_command shelf vault maker source sink plugin engine err

  abbrev pub streams_in : Lent → Streams I O P G
  streams_in w = w.0.1

  pub whole-kept : (u : Lent) (call : Call) (x : Answer call) (v : Lent) → whole u call x v → leaves_streams call x ≡ true → streams_in v ≡ streams_in u
  whole-kept u call x v (inl (inl (m, same), e)) k = same
  whole-kept u call x v (inl (inr (m, same), e)) k = run-kept source sink plugin engine u.0.1 call x v.0.1 m k
  whole-kept u call x v (inr (m, same)) k = ap (λ (w : All H V M I O P G). w.1) same

  whole-left : (u : Lent) (call : Call) (x : Answer call) (v : Lent) → whole u call x v → AreLeft plugin (streams_in u).plugins (streams_in v).plugins
  whole-left u call x v (inl (inl (m, same), e)) = same-list plugin u.0.1.plugins v.0.1.plugins (ap (λ (s : Streams I O P G). s.plugins) same)
  whole-left u call x v (inl (inr (m, same), e)) = run-left source sink plugin engine u.0.1 call x v.0.1 m
  whole-left u call x v (inr (m, same)) = same-list plugin u.0.1.plugins v.0.1.plugins (ap (λ (w : All H V M I O P G). w.1.plugins) same)

  -- whatever a program does, each plugin stays or leaves
  pub plugins-left : {A : Type 0} (p : Step A) (old new : Lent) (e : Result A PlainWhy) → Follows whole IsNoMemory p old e new → AreLeft plugin (streams_in old).plugins (streams_in new).plugins
  plugins-left p old new e f =
      ends-onward whole IsNoMemory (λ u v. AreLeft plugin (streams_in u).plugins (streams_in v).plugins) (λ u. as-before plugin (streams_in u).plugins)
      (λ u v w. one-after plugin (streams_in u).plugins (streams_in v).plugins (streams_in w).plugins) whole-left p old new e f.ends
