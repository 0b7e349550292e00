-- An import of tests that failed leaves input, output and engine as they were.
use Rattle.std.proofs.Common.{◌≡◌, ◌∙◌, inl, inr, true, false, true≢false, refl, sym, ap, List, [], Ok, Err}
use Rattle.cov_contexts.specs.declared.plugins.Plugin.{Ghosts as PluginOf}
use Rattle.cov_exclude.specs.declared.maker.Maker.{Ghosts as MakerOf}
use Rattle.cov_outside.specs.declared.shelf.Shelf.{Ghosts as ShelfOf}
use Rattle.cov_outside.specs.declared.sink.Sink.{Ghosts as SinkOf}
use Rattle.cov_outside.specs.declared.source.Source.{Ghosts as SourceOf}
use Rattle.py_machine.specs.declared.engine.Engine.{Ghosts as EngineOf}
use Rattle.cov_measure.specs.Measures.{Streams, streams}
use Rattle.cov_programs.specs.Ends.{Ends, Follows}
use Rattle.cov_programs.specs.Objects.{Moves}
use Rattle.cov_programs.specs.Programs.{bind}
use Rattle.cov_programs.proofs.Late.{early-keeps}
use Rattle.cov_step.specs.Answers.{given_or}
use Rattle.cov_step.specs.Calls.{Call, spells, checks, reads, puts, opens, lists, loads, saves, removes, makes, writes, crosses, measures, tries, tests, selects, judges, says, Answer, IsNoMemory}
use Rattle.cov_step.specs.Early.{late_in_run, late_of, is_late, leaves_output, imports_tests}
use Rattle.cov_step.specs.Objects.{Saying}
use Rattle.cov_step.specs.Promises.{has_one_text}
use Rattle.cov_step.specs.Step.{step, doing, IsSpelled}
use Rattle.cov_step.proofs.Early.{law_of_import}
use Rattle.cov_streams.specs.Objects.{on_run}
use Rattle.cov_vault.specs.declared.vault.Vault.{Ghosts as VaultOf}
use Rattle.cov_why.specs.Answers.{usage, import_failed}
use Rattle.cov_words.specs.Commands.{PlainCommand}
use Rattle.cov_words.specs.Commands as plain
use Rattle.cov_words.specs.Values.{Word}
use Rattle.cov_app.specs.Objects.{All, on_command}
use Rattle.cov_app.specs.Taken.{HasOneText}
use Rattle.cov_app.proofs.Keeping.{spelled-whole}
use Rattle.cov_app.proofs.Untouched.{left-early}

module _ {H V M I O P G E : Type 0} (shelf : ShelfOf H) (vault : VaultOf V) (maker : MakerOf M) (source : SourceOf I) (sink : SinkOf O) (plugin : PluginOf P) (engine : EngineOf G) (err : SinkOf E) where
  abbrev Lent : Type 0
  Lent = All H V M I O P G × Saying E

  abbrev whole : Moves Call Answer Lent
  whole = on_command shelf vault maker source sink plugin engine err

  -- input, output and engine
  abbrev others : Streams I O P G → Streams I O P G
  others s = streams s.input s.out [] s.engine

  run-others : (u : Streams I O P G) (call : Call) (x : Answer call) (v : Streams I O P G) → on_run source sink plugin engine u call x v → leaves_output call x ≡ true → others v ≡ others u
  run-others u (spells words) x v m e = absurd m
  run-others u (checks bytes) x v m e = absurd m
  run-others u (reads name most) x v m e = absurd m
  run-others u (puts name bytes) x v m e = absurd m
  run-others u (opens name script) x v m e = absurd m
  run-others u lists x v m e = absurd m
  run-others u (loads name) x v m e = absurd m
  run-others u (saves name content) x v m e = absurd m
  run-others u (removes name) x v m e = absurd m
  run-others u (makes texts) x v m e = absurd m
  run-others u (writes bytes) x v m e = absurd (true≢false (sym e))
  run-others u (crosses modules words budget) x v m e = absurd (true≢false (sym e))
  run-others u (measures asked modules hook) x v m e = absurd (true≢false (sym e))
  run-others u (tries modules words budget) x v m e = ap others m.same
  run-others u (tests asked modules) x v m e = ap others m.same
  run-others u (selects budget before after) x v m e = ap others m.same
  run-others u (judges budget modules) x v m e = ap others m.same
  run-others u (says text) x v m e = absurd m

  whole-others : (u : Lent) (call : Call) (x : Answer call) (v : Lent) → whole u call x v → leaves_output call x ≡ true → others v.0.1 ≡ others u.0.1
  whole-others u call x v (inl (inl (m, same), e)) k = ap others same
  whole-others u call x v (inl (inr (m, same), e)) k = run-others u.0.1 call x v.0.1 m k
  whole-others u call x v (inr (m, same)) k = ap (λ (w : All H V M I O P G). others w.1) same

  -- one that imports none
  left-others : (c : PlainCommand) → has_one_text c ≡ true → (old new : Lent) (file : Word) → is_late (late_of c) (Err (import_failed file)) ≡ false → Ends whole IsNoMemory (doing c) old (Err (Err (import_failed file))) new → others new.0.1 ≡ others old.0.1
  left-others c one old new file early ends = ap others (left-early shelf vault maker source sink plugin engine err c one old new (Err (import_failed file)) early ends)

  -- a command that imports tests
  left-import : (c : PlainCommand) → imports_tests c ≡ true → (old new : Lent) (file : Word) → Ends whole IsNoMemory (doing c) old (Err (Err (import_failed file))) new → others new.0.1 ≡ others old.0.1
  left-import c imports old new file ends =
      early-keeps whole IsNoMemory (is_late late_in_run) (λ r e. ap (is_late late_in_run) e) (λ (w : Lent). others w.0.1) leaves_output whole-others (doing c) old new (Err (import_failed file)) refl (law_of_import c imports) ends

  by-command : (c : PlainCommand) → has_one_text c ≡ true → (old new : Lent) (file : Word) → Ends whole IsNoMemory (doing c) old (Err (Err (import_failed file))) new → others new.0.1 ≡ others old.0.1
  by-command (plain.arcs steps script args) one old new file ends = left-others (plain.arcs steps script args) one old new file refl ends
  by-command (plain.run branch append context steps hook data_file rcfile script args) one old new file ends = left-others (plain.run branch append context steps hook data_file rcfile script args) one old new file refl ends
  by-command (plain.combine append keep data_file rcfile named) one old new file ends = left-others (plain.combine append keep data_file rcfile named) one old new file refl ends
  by-command (plain.report show fail_under data_file rcfile) one old new file ends = left-others (plain.report show fail_under data_file rcfile) one old new file refl ends
  by-command (plain.json name fail_under data_file rcfile) one old new file ends = left-others (plain.json name fail_under data_file rcfile) one old new file refl ends
  by-command (plain.lcov name fail_under data_file rcfile) one old new file ends = left-others (plain.lcov name fail_under data_file rcfile) one old new file refl ends
  by-command (plain.annotate data_file rcfile path) one old new file ends = left-others (plain.annotate data_file rcfile path) one old new file refl ends
  by-command (plain.erase data_file rcfile) one old new file ends = left-others (plain.erase data_file rcfile) one old new file refl ends
  by-command (plain.script name) one old new file ends = absurd (true≢false (sym one))
  by-command (plain.make seed size) one old new file ends = left-others (plain.make seed size) one old new file refl ends
  by-command (plain.suite branch steps data_file rcfile path) one old new file ends = left-import (plain.suite branch steps data_file rcfile path) refl old new file ends
  by-command (plain.select steps older newer) one old new file ends = left-import (plain.select steps older newer) refl old new file ends
  by-command (plain.mutate steps path) one old new file ends = left-import (plain.mutate steps path) refl old new file ends

  rest-left : (words : List Word) (x : Answer (spells words)) (mid new : Lent) (file : Word) → HasOneText words → IsSpelled words x → Ends whole IsNoMemory (bind (given_or usage x) doing) mid (Err (Err (import_failed file))) new → others new.0.1 ≡ others mid.0.1
  rest-left words (Ok c) mid new file one is ends = by-command c (one c is) mid new file ends
  rest-left words (Err i) mid new file one is (inl s) = ap (λ (w : Lent). others w.0.1) s.same
  rest-left words (Err i) mid new file one is (inr (refused, same)) = ap (λ (w : Lent). others w.0.1) same

  by-ends : (words : List Word) (old new : Lent) (file : Word) → HasOneText words → Ends whole IsNoMemory (step words) old (Err (Err (import_failed file))) new → others new.0.1 ≡ others old.0.1
  by-ends words old new file one (inl s) = ap (λ (w : Lent). others w.0.1) s.same
  by-ends words old new file one (inr (x, mid, m, rest)) =
      rest-left words x mid new file one (spelled-whole shelf vault maker source sink plugin engine err old words x mid m) rest
      ∙ whole-others old (spells words) x mid m refl

  -- an import of tests that failed leaves them, whatever plugins are left
  pub import-leaves : (words : List Word) (old new : Lent) (file : Word) → HasOneText words → Follows whole IsNoMemory (step words) old (Err (Err (import_failed file))) new
      → new.0.1 ≡ streams old.0.1.input old.0.1.out new.0.1.plugins old.0.1.engine
  import-leaves words old new file one f = ap (λ (s : Streams I O P G). streams s.input s.out new.0.1.plugins s.engine) (by-ends words old new file one f.ends)
