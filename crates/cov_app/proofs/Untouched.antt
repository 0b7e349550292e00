-- A refusal that comes before anything is run or written leaves input, output, plugins and engine as they were.
use Rattle.std.proofs.Common.{◌≡◌, ◌⊎◌, ◌∙◌, inl, inr, Bool, true, false, true≢false, refl, sym, ap, subst, List, Result, Ok, Err}
use Rattle.cov_contexts.specs.declared.plugins.Plugin.{Ghosts as PluginOf}
use Rattle.cov_exclude.specs.declared.maker.Maker.{Ghosts as MakerOf}
use Rattle.cov_outside.specs.declared.shelf.Shelf.{Ghosts as ShelfOf}
use Rattle.cov_outside.specs.declared.sink.Sink.{Ghosts as SinkOf}
use Rattle.cov_outside.specs.declared.source.Source.{Ghosts as SourceOf}
use Rattle.py_machine.specs.declared.engine.Engine.{Ghosts as EngineOf}
use Rattle.cov_measure.specs.Measures.{Streams}
use Rattle.cov_programs.specs.Ends.{Ends, Follows}
use Rattle.cov_programs.specs.Objects.{Moves}
use Rattle.cov_programs.specs.Programs.{bind}
use Rattle.cov_programs.proofs.Late.{early-keeps}
use Rattle.cov_step.specs.Answers.{given_or}
use Rattle.cov_step.specs.Calls.{Call, spells, Answer, Answered, IsNoMemory}
use Rattle.cov_step.specs.Objects.{Saying}
use Rattle.cov_step.specs.Early.{leaves_streams, late_in_run, late_in_suite, late_of, is_late}
use Rattle.cov_step.specs.Promises.{has_one_text}
use Rattle.cov_step.specs.Step.{step, doing, IsSpelled}
use Rattle.cov_step.proofs.Early.{law_of_early}
use Rattle.cov_vault.specs.declared.vault.Vault.{Ghosts as VaultOf}
use Rattle.cov_why.specs.Answers.{PlainWhy, usage, no_memory, import_failed}
use Rattle.cov_words.specs.Commands.{PlainCommand, IsCommand}
use Rattle.cov_words.specs.Commands as plain
use Rattle.cov_words.specs.Values.{Word}
use Rattle.cov_app.specs.Early.{IsEarly}
use Rattle.cov_app.specs.Objects.{All, on_command}
use Rattle.cov_app.specs.Taken.{HasOneText, why_of}
use Rattle.cov_app.proofs.BadRuns.{bad-of, bad-of-tests, bad-run, bad-suite}
use Rattle.cov_app.proofs.Keeping.{data-tells, spelled-whole}
use Rattle.cov_app.proofs.Streams.{whole-kept}

-- want of memory comes late
memory-late : (c : PlainCommand) → late_of c no_memory ≡ true
memory-late (plain.arcs steps script args) = refl
memory-late (plain.run branch append context steps hook data_file rcfile script args) = refl
memory-late (plain.combine append keep data_file rcfile named) = refl
memory-late (plain.report show fail_under data_file rcfile) = refl
memory-late (plain.json name fail_under data_file rcfile) = refl
memory-late (plain.lcov name fail_under data_file rcfile) = refl
memory-late (plain.annotate data_file rcfile path) = refl
memory-late (plain.erase data_file rcfile) = refl
memory-late (plain.script file) = refl
memory-late (plain.make seed size) = refl
memory-late (plain.suite branch steps data_file rcfile file) = refl
memory-late (plain.select steps older newer) = refl
memory-late (plain.mutate steps file) = refl

module _ {H V M I O P G E : Type 0} (shelf : ShelfOf H) (vault : VaultOf V) (maker : MakerOf M) (source : SourceOf I) (sink : SinkOf O) (plugin : PluginOf P) (engine : EngineOf G) (err : SinkOf E) where
  abbrev Lent : Type 0
  Lent = All H V M I O P G × Saying E

  abbrev whole : Moves Call Answer Lent
  whole = on_command shelf vault maker source sink plugin engine err

  abbrev streams_in : Lent → Streams I O P G
  streams_in w = w.0.1

  -- a command that is refused by an early one leaves the streams
  pub left-early : (c : PlainCommand) → has_one_text c ≡ true → (old new : Lent) (why : PlainWhy) → is_late (late_of c) why ≡ false → Ends whole IsNoMemory (doing c) old (Err why) new → streams_in new ≡ streams_in old
  left-early c one old new why early ends =
      early-keeps whole IsNoMemory (is_late (late_of c)) (λ r e. ap (is_late (late_of c)) e ∙ memory-late c) streams_in leaves_streams (whole-kept shelf vault maker source sink plugin engine err) (doing c) old new why early (law_of_early c one) ends

  by-command : (words : List Word) (c : PlainCommand) → IsCommand c words → has_one_text c ≡ true → (old new : Lent) (why : PlainWhy) → IsEarly words (vault.tells old.0.0.0.1) why → Ends whole IsNoMemory (doing c) old (Err why) new → streams_in new ≡ streams_in old
  by-command words (plain.arcs steps script args) is one old new why e ends = left-early (plain.arcs steps script args) one old new why e.early ends
  by-command words (plain.run branch append context steps hook data_file rcfile script args) is one old new why e ends =
      by-kind (is_late late_in_run why) refl
    where
      by-kind : (b : Bool) → is_late late_in_run why ≡ b → streams_in new ≡ streams_in old
      by-kind false early = left-early (plain.run branch append context steps hook data_file rcfile script args) one old new why early ends
      by-kind true bad =
          let b = bad-of why e.early bad in
          bad-run shelf vault maker source sink plugin engine err b.0 b.1 branch append context steps hook data_file rcfile script args old new (e.of_data bad) (subst (λ r. Ends whole IsNoMemory (doing (plain.run branch append context steps hook data_file rcfile script args)) old (Err r) new) b.2 ends)
  by-command words (plain.combine append keep data_file rcfile named) is one old new why e ends = left-early (plain.combine append keep data_file rcfile named) one old new why e.early ends
  by-command words (plain.report show fail_under data_file rcfile) is one old new why e ends = left-early (plain.report show fail_under data_file rcfile) one old new why e.early ends
  by-command words (plain.json name fail_under data_file rcfile) is one old new why e ends = left-early (plain.json name fail_under data_file rcfile) one old new why e.early ends
  by-command words (plain.lcov name fail_under data_file rcfile) is one old new why e ends = left-early (plain.lcov name fail_under data_file rcfile) one old new why e.early ends
  by-command words (plain.annotate data_file rcfile path) is one old new why e ends = left-early (plain.annotate data_file rcfile path) one old new why e.early ends
  by-command words (plain.erase data_file rcfile) is one old new why e ends = left-early (plain.erase data_file rcfile) one old new why e.early ends
  by-command words (plain.script file) is one old new why e ends = absurd (true≢false (sym one))
  by-command words (plain.make seed size) is one old new why e ends = left-early (plain.make seed size) one old new why e.early ends
  by-command words (plain.suite branch steps data_file rcfile file) is one old new why e ends =
      by-kind (is_late late_in_suite why) refl
    where
      by-bad : (is_late late_in_run why ≡ true) ⊎ ((f : Word) × (why ≡ Err (import_failed f))) → streams_in new ≡ streams_in old
      by-bad (inl bad) =
          let b = bad-of why e.early bad in
          bad-suite shelf vault maker source sink plugin engine err b.0 b.1 branch steps data_file rcfile file old new (e.of_data bad) (subst (λ r. Ends whole IsNoMemory (doing (plain.suite branch steps data_file rcfile file)) old (Err r) new) b.2 ends)
      by-bad (inr (f, failed)) = absurd (e.of_import f failed branch steps data_file rcfile file is)

      by-kind : (b : Bool) → is_late late_in_suite why ≡ b → streams_in new ≡ streams_in old
      by-kind false early = left-early (plain.suite branch steps data_file rcfile file) one old new why early ends
      by-kind true late = by-bad (bad-of-tests why e.early late)
  by-command words (plain.select steps older newer) is one old new why e ends = left-early (plain.select steps older newer) one old new why e.early ends
  by-command words (plain.mutate steps file) is one old new why e ends = left-early (plain.mutate steps file) one old new why e.early ends

  rest-left : (words : List Word) (x : Answer (spells words)) (mid new : Lent) (why : PlainWhy) → HasOneText words → IsSpelled words x → IsEarly words (vault.tells mid.0.0.0.1) why → Ends whole IsNoMemory (bind (given_or usage x) doing) mid (Err why) new → streams_in new ≡ streams_in mid
  rest-left words (Ok c) mid new why one is e ends = by-command words c is (one c is) mid new why e ends
  rest-left words (Err i) mid new why one is e (inl s) = ap streams_in s.same
  rest-left words (Err i) mid new why one is e (inr (refused, same)) = ap streams_in same

  by-ends : (words : List Word) (old new : Lent) (why : PlainWhy) → IsEarly words (vault.tells old.0.0.0.1) why → HasOneText words → Ends whole IsNoMemory (step words) old (Err why) new → streams_in new ≡ streams_in old
  by-ends words old new why e one (inl s) = ap streams_in s.same
  by-ends words old new why e one (inr (x, mid, m, rest)) =
      rest-left words x mid new why one (spelled-whole shelf vault maker source sink plugin engine err old words x mid m)
      (record {
        early = e.early;
        of_data = λ bad. data-tells shelf vault maker source sink plugin engine err old (spells words) x mid m (e.of_data bad);
        of_import = e.of_import;
      }) rest
      ∙ whole-kept shelf vault maker source sink plugin engine err old (spells words) x mid m refl

  -- an early refusal leaves them
  pub streams-left : (words : List Word) (old new : Lent) (e : Result Answered PlainWhy) → IsEarly words (vault.tells old.0.0.0.1) (why_of e) → HasOneText words → Follows whole IsNoMemory (step words) old e new → streams_in new ≡ streams_in old
  streams-left words old new (Ok a) early one f = absurd (true≢false early.early)
  streams-left words old new (Err why) early one f = by-ends words old new why early one f.ends
