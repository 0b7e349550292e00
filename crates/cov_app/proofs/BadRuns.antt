-- A run that answers that data are bad found so before it ran, where the vault tells what it holds.
use Rattle.std.proofs.Common.{◌≡◌, ◌≢◌, ◌⊎◌, ◌∙◌, inl, inr, Bool, true, false, true≢false, refl, sym, ap, subst, ℕ, List, Option, Some, None, Result, Ok, Err}
use Rattle.std.specs.FinMap as finite
use Rattle.cov_contexts.specs.declared.plugins.Plugin.{Ghosts as PluginOf}
use Rattle.cov_exclude.specs.declared.maker.Maker.{Ghosts as MakerOf}
use Rattle.cov_outside.specs.declared.shelf.Shelf.{Ghosts as ShelfOf}
use Rattle.cov_outside.specs.declared.sink.Sink.{Ghosts as SinkOf}
use Rattle.cov_outside.specs.declared.sink.SinkError.{SinkError}
use Rattle.cov_outside.specs.declared.sink.SinkError.TheVariants as sink_error
use Rattle.cov_outside.specs.declared.source.Source.{Ghosts as SourceOf}
use Rattle.py_machine.specs.declared.engine.Engine.{Ghosts as EngineOf}
use Rattle.py_builtins.specs.declared.fault.RunFault.{RunFault}
use Rattle.py_builtins.specs.declared.fault.RunFault.TheVariants as run_fault
use Rattle.py_meaning.specs.Modules.{LoadedModule}
use Rattle.cov_data.specs.DataSet.{DataSet}
use Rattle.cov_joins.proofs.Leaving.{stays-so}
use Rattle.cov_measure.specs.Measures.{Streams}
use Rattle.cov_programs.specs.Ends.{Starves, Ends}
use Rattle.cov_programs.specs.Laws.{OnlyKeeps, Parted}
use Rattle.cov_programs.specs.Objects.{Moves}
use Rattle.cov_programs.specs.Programs.{ask, bind}
use Rattle.cov_programs.specs.Programs as programs
use Rattle.cov_programs.proofs.Folding.{parted}
use Rattle.cov_programs.proofs.Keeping.{keeps-all}
use Rattle.cov_programs.proofs.Results.{err_is, ok_no_err}
use Rattle.cov_step.specs.Answers.{Before, before_of, given_or, run_refusal, sink_refusal, vault_refusal, last, on}
use Rattle.cov_step.specs.Calls.{Call, loads, saves, measures, tests, writes, Answer, Answered, Asked, HookFiles, Ran, TestsAsked, TestResult, Tested, came, not_imported, starved, Step, IsNoMemory}
use Rattle.cov_step.specs.Commands.{asked_by, hook_named, measured, run_by, run}
use Rattle.cov_step.specs.Objects.{LoadOf, SaveOf, Saying}
use Rattle.cov_step.specs.Phases.{before, hook_of, joins, joined, main_name, opened, own_name, save_last, settings, answered_by}
use Rattle.cov_step.specs.Early.{leaves_streams, comes_late, late_in_run, late_in_suite, is_late}
use Rattle.cov_step.specs.Promises.{keeps}
use Rattle.cov_step.specs.Testing.{tests_name, tests_asked, suite_lines, suite_answered, came_or, tests_run, suite_by, suite}
use Rattle.cov_step.proofs.Answering.{before-so}
use Rattle.cov_step.proofs.Care.{keeps-reading}
use Rattle.cov_step.proofs.Early.{streams-reading}
use Rattle.cov_step.proofs.Keeping.{opened-keeps, settings-keeps, hook-keeps, joins-keeps}
use Rattle.cov_vault.specs.declared.vault.Content.TheVariants.{NotSchema7}
use Rattle.cov_vault.specs.declared.vault.Content.TheVariants as content
use Rattle.cov_vault.specs.declared.vault.Vault.{Ghosts as VaultOf}
use Rattle.cov_vault.specs.declared.vault.VaultError.{VaultError}
use Rattle.cov_vault.specs.declared.vault.VaultError.TheVariants as vault_error
use Rattle.cov_why.specs.Answers.{usage, no_such_file, syntax, limit, bad_config, bad_pattern, pattern_size, no_function, no_data, mixed, bad_data, no_source, read_fault, write_fault, shelf_fault, vault_fault, no_memory, import_failed, PlainWhy}
use Rattle.cov_why.specs.declared.why.BadKind.{BadKind}
use Rattle.cov_words.specs.Values.{Word}
use Rattle.cov_app.specs.Objects.{All, on_command}
use Rattle.cov_app.proofs.Keeping.{data-tells, data-kept}
use Rattle.cov_app.proofs.Streams.{whole-kept}

-- what may come late in a run, and in tests, alone is that data are bad
pub bad-of : (why : PlainWhy) → is_late comes_late why ≡ false → is_late late_in_run why ≡ true → (name : Word) × (kind : BadKind) × (why ≡ Err (bad_data name kind))
bad-of (Ok ended) e l = absurd (true≢false e)
bad-of (Err (usage words)) e l = absurd (true≢false (sym l))
bad-of (Err (no_such_file name)) e l = absurd (true≢false (sym l))
bad-of (Err (syntax file line kind)) e l = absurd (true≢false (sym l))
bad-of (Err (limit kind n)) e l = absurd (true≢false (sym l))
bad-of (Err (bad_config key)) e l = absurd (true≢false (sym l))
bad-of (Err (bad_pattern at)) e l = absurd (true≢false (sym l))
bad-of (Err (pattern_size at)) e l = absurd (true≢false (sym l))
bad-of (Err (no_function name)) e l = absurd (true≢false (sym l))
bad-of (Err (no_data name)) e l = absurd (true≢false (sym l))
bad-of (Err (mixed first other)) e l = absurd (true≢false (sym l))
bad-of (Err (bad_data name kind)) e l = (name, kind, refl)
bad-of (Err (no_source path)) e l = absurd (true≢false (sym l))
bad-of (Err read_fault) e l = absurd (true≢false e)
bad-of (Err write_fault) e l = absurd (true≢false e)
bad-of (Err shelf_fault) e l = absurd (true≢false e)
bad-of (Err vault_fault) e l = absurd (true≢false e)
bad-of (Err no_memory) e l = absurd (true≢false e)
bad-of (Err (import_failed file)) e l = absurd (true≢false (sym l))

-- what may come late in tests besides is that their import failed
pub bad-of-tests : (why : PlainWhy) → is_late comes_late why ≡ false → is_late late_in_suite why ≡ true → (is_late late_in_run why ≡ true) ⊎ ((file : Word) × (why ≡ Err (import_failed file)))
bad-of-tests (Ok ended) e l = absurd (true≢false e)
bad-of-tests (Err (usage words)) e l = inl l
bad-of-tests (Err (no_such_file name)) e l = inl l
bad-of-tests (Err (syntax file line kind)) e l = inl l
bad-of-tests (Err (limit kind n)) e l = inl l
bad-of-tests (Err (bad_config key)) e l = inl l
bad-of-tests (Err (bad_pattern at)) e l = inl l
bad-of-tests (Err (pattern_size at)) e l = inl l
bad-of-tests (Err (no_function name)) e l = inl l
bad-of-tests (Err (no_data name)) e l = inl l
bad-of-tests (Err (mixed first other)) e l = inl l
bad-of-tests (Err (bad_data name kind)) e l = inl l
bad-of-tests (Err (no_source path)) e l = inl l
bad-of-tests (Err read_fault) e l = inl l
bad-of-tests (Err write_fault) e l = inl l
bad-of-tests (Err shelf_fault) e l = inl l
bad-of-tests (Err vault_fault) e l = inl l
bad-of-tests (Err no_memory) e l = inl l
bad-of-tests (Err (import_failed file)) e l = inr (file, refl)

no-ok : {A : Type 0} {a : A} {why : PlainWhy} → ◌≡◌ {A = Result A PlainWhy} (Err why) (Ok a) → ⊥
no-ok e = cc

no-want : {name : Word} {kind : BadKind} → ◌≡◌ {A = PlainWhy} (Err (bad_data name kind)) (Err no_memory) → ⊥
no-want e = cc

no-read : {name : Word} {kind : BadKind} → ◌≡◌ {A = PlainWhy} (Err (bad_data name kind)) (Err read_fault) → ⊥
no-read e = cc

no-write : {name : Word} {kind : BadKind} → ◌≡◌ {A = PlainWhy} (Err (bad_data name kind)) (Err write_fault) → ⊥
no-write e = cc

no-import : {name file : Word} {kind : BadKind} → ◌≡◌ {A = PlainWhy} (Err (bad_data name kind)) (Err (import_failed file)) → ⊥
no-import e = cc

no-vault : {name : Word} {kind : BadKind} → ◌≡◌ {A = PlainWhy} (Err (bad_data name kind)) (Err vault_fault) → ⊥
no-vault e = cc

module _ {H V M I O P G E : Type 0} (shelf : ShelfOf H) (vault : VaultOf V) (maker : MakerOf M) (source : SourceOf I) (sink : SinkOf O) (plugin : PluginOf P) (engine : EngineOf G) (err : SinkOf E) where
  abbrev Lent : Type 0
  Lent = All H V M I O P G × Saying E

  abbrev whole : Moves Call Answer Lent
  whole = on_command shelf vault maker source sink plugin engine err

  abbrev streams_in : Lent → Streams I O P G
  streams_in w = w.0.1

  -- ---- part by part

  -- a part that keeps the streams, and a next one that does where it is refused so
  then-same : {A : Type 0} (p : Step A) (next : A → Step Answered) (why : PlainWhy) (old new : Lent) → OnlyKeeps leaves_streams p
      → ((a : A) (mid : Lent) → Ends whole IsNoMemory p old (Ok a) mid → Ends whole IsNoMemory (next a) mid (Err why) new → streams_in new ≡ streams_in mid)
      → Ends whole IsNoMemory (bind p next) old (Err why) new → streams_in new ≡ streams_in old
  then-same {A} p next why old new k h ends = either (parted whole IsNoMemory p next old new (Err why) ends)
    where
      either : Parted whole IsNoMemory p next old (Err why) new → streams_in new ≡ streams_in old
      either (inl (a, mid, first, rest)) = h a mid first rest ∙ keeps-all whole IsNoMemory streams_in leaves_streams (whole-kept shelf vault maker source sink plugin engine err) p old mid (Ok a) k first
      either (inr (r, first, is)) = keeps-all whole IsNoMemory streams_in leaves_streams (whole-kept shelf vault maker source sink plugin engine err) p old new (Err r) k first

  -- a part that leaves the data, which are told
  data-stays : {A : Type 0} (p : Step A) → OnlyKeeps keeps p → (old new : Lent) (e : Result A PlainWhy) → Ends whole IsNoMemory p old e new → vault.tells old.0.0.0.1
      → vault.tells new.0.0.0.1 × (vault.contents new.0.0.0.1 ≡ vault.contents old.0.0.0.1)
  data-stays p k old new e ends t =
      stays-so whole IsNoMemory (λ w. vault.tells w.0.0.0.1 × (vault.contents w.0.0.0.1 ≡ vault.contents old.0.0.0.1)) keeps
      (λ u call x v m h at. (data-tells shelf vault maker source sink plugin engine err u call x v m at.0, data-kept shelf vault maker source sink plugin engine err u call x v m at.0 h ∙ at.1)) p old new e k ends (t, refl)

  -- data of this name that a run may replace
  record IsFree (own : Word) (w : Lent) : Type 0 where
    told : vault.tells w.0.0.0.1
    free : finite.get (vault.contents w.0.0.0.1) own ≢ Some NotSchema7

  free-on : (own : Word) (u v : Lent) → IsFree own u → vault.tells v.0.0.0.1 → vault.contents v.0.0.0.1 ≡ vault.contents u.0.0.0.1 → IsFree own v
  free-on own u v f t e = record { told = t; free = λ is. f.free (ap (λ c. finite.get c own) (sym e) ∙ is) }

  -- ---- what stands before

  load-so : (u : Lent) (name : Word) (x : Answer (loads name)) (v : Lent) → whole u (loads name) x v → LoadOf vault u.0.0.0.1 name x v.0.0.0.1
  load-so u name x v (inl (inl (inl (inl (inl (m, a), b), c), d), e)) = absurd m
  load-so u name x v (inl (inl (inl (inl (inr (m, a), b), c), d), e)) = absurd m
  load-so u name x v (inl (inl (inl (inr (m, b), c), d), e)) = m
  load-so u name x v (inl (inl (inr (m, c), d), e)) = absurd m
  load-so u name x v (inl (inr (m, d), e)) = absurd m
  load-so u name x v (inr (m, e)) = absurd m

  save-so : (u : Lent) (name : Word) (content : DataSet) (x : Answer (saves name content)) (v : Lent) → whole u (saves name content) x v → SaveOf vault u.0.0.0.1 name content x v.0.0.0.1
  save-so u name content x v (inl (inl (inl (inl (inl (m, a), b), c), d), e)) = absurd m
  save-so u name content x v (inl (inl (inl (inl (inr (m, a), b), c), d), e)) = absurd m
  save-so u name content x v (inl (inl (inl (inr (m, b), c), d), e)) = m
  save-so u name content x v (inl (inl (inr (m, c), d), e)) = absurd m
  save-so u name content x v (inl (inr (m, d), e)) = absurd m
  save-so u name content x v (inr (m, e)) = absurd m

  refused-no : {A : Type 0} {u v : Lent} {a : A} {r : PlainWhy} → Ends {A = A} whole IsNoMemory (programs.refuse r) u (Ok a) v → ⊥
  refused-no (inl h) = ok_no_err h.is
  refused-no (inr (is, same)) = ok_no_err is

  given-free : (own : Word) (mid w : Lent) (b was : Before) → IsFree own mid → Ends whole IsNoMemory (programs.give b) mid (Ok was) w → IsFree own w
  given-free own mid w b was f (inl s) = absurd (ok_no_err s.is)
  given-free own mid w b was f (inr (is, same)) = subst (IsFree own) (sym same) f

  loaded-free : (own : Word) (u mid w : Lent) (x : Result DataSet VaultError) (was : Before) → vault.tells u.0.0.0.1 → whole u (loads own) x mid → Ends whole IsNoMemory (before_of own x) mid (Ok was) w → IsFree own w
  loaded-free own u mid w (Ok d) was t m rest =
      let l = vault.loads_truly u.0.0.0.1 own (Ok d) mid.0.0.0.1 t (load-so u own (Ok d) mid m).moved in
      given-free own mid w _ was (record { told = l.0; free = λ is. good-no (sym l.1 ∙ ap (λ c. finite.get c own) (sym l.2) ∙ is) }) rest
    where
      good-no : Some (content.Good d) ≡ Some NotSchema7 → ⊥
      good-no e = cc
  loaded-free own u mid w (Err vault_error.Absent) was t m rest =
      let l = vault.loads_truly u.0.0.0.1 own (Err vault_error.Absent) mid.0.0.0.1 t (load-so u own (Err vault_error.Absent) mid m).moved in
      given-free own mid w _ was (record { told = l.0; free = λ is. none-no (sym l.1 ∙ ap (λ c. finite.get c own) (sym l.2) ∙ is) }) rest
    where
      none-no : ◌≡◌ {A = Option _} None (Some NotSchema7) → ⊥
      none-no e = cc
  loaded-free own u mid w (Err vault_error.NotSchema7) was t m rest = absurd (refused-no rest)
  loaded-free own u mid w (Err (vault_error.BadRow i)) was t m rest =
      let l = vault.loads_truly u.0.0.0.1 own (Err (vault_error.BadRow i)) mid.0.0.0.1 t (load-so u own (Err (vault_error.BadRow i)) mid m).moved in
      given-free own mid w _ was (record { told = l.0; free = λ is. row-no (sym l.1 ∙ ap (λ c. finite.get c own) (sym l.2) ∙ is) }) rest
    where
      row-no : Some (content.BadRow i) ≡ Some NotSchema7 → ⊥
      row-no e = cc
  loaded-free own u mid w (Err vault_error.Failed) was t m rest = absurd (refused-no rest)
  loaded-free own u mid w (Err vault_error.NoMemory) was t m rest = absurd (refused-no rest)

  before-free : (own : Word) (u w : Lent) (was : Before) → vault.tells u.0.0.0.1 → Ends whole IsNoMemory (before own) u (Ok was) w → IsFree own w
  before-free own u w was t (inl s) = absurd (ok_no_err s.is)
  before-free own u w was t (inr (x, mid, m, rest)) = loaded-free own u mid w x was t m rest

  -- ---- the run and its save

  module _ (name : Word) (kind : BadKind) where
    abbrev Bad : {A : Type 0} → Result A PlainWhy
    Bad = Err (Err (bad_data name kind))

    fed : {A : Type 0} {u v : Lent} → Starves {A = A} IsNoMemory u Bad v → ⊥
    fed s = no-want (err_is s.is ∙ s.wanting)

    not-refused : {A : Type 0} {u v : Lent} {r : PlainWhy} → (Err (bad_data name kind) ≡ r → ⊥) → Ends {A = A} whole IsNoMemory (programs.refuse r) u Bad v → ⊥
    not-refused h (inl s) = fed s
    not-refused h (inr (is, same)) = h (err_is is)

    saved-no : (own : Word) (content : DataSet) (a : Answered) (u mid v : Lent) (y : Option VaultError) → IsFree own u → whole u (saves own content) y mid → Ends whole IsNoMemory (last (vault_refusal own) a y) mid Bad v → ⊥
    saved-no own content a u mid v None f m (is, same) = no-ok is
    saved-no own content a u mid v (Some vault_error.Absent) f m rest = (save-so u own content (Some vault_error.Absent) mid m).not_absent refl
    saved-no own content a u mid v (Some vault_error.NotSchema7) f m rest = f.free (vault.saves_whole u.0.0.0.1 own content (Some vault_error.NotSchema7) mid.0.0.0.1 f.told (save-so u own content (Some vault_error.NotSchema7) mid m).moved).1.0
    saved-no own content a u mid v (Some (vault_error.BadRow i)) f m rest = (save-so u own content (Some (vault_error.BadRow i)) mid m).not_bad_row i refl
    saved-no own content a u mid v (Some vault_error.Failed) f m rest = not-refused no-vault rest
    saved-no own content a u mid v (Some vault_error.NoMemory) f m rest = not-refused no-want rest

    save-no : (own : Word) (content : DataSet) (a : Answered) (u v : Lent) → IsFree own u → Ends whole IsNoMemory (save_last own content a) u Bad v → ⊥
    save-no own content a u v f (inl s) = fed s
    save-no own content a u v f (inr (y, mid, m, rest)) = saved-no own content a u mid v y f m rest

    ran-no : (own : Word) (asked : Asked) (old : Option DataSet) (mid v : Lent) (x : Result Ran RunFault) → IsFree own mid
        → Ends whole IsNoMemory (bind (given_or run_refusal x) (λ r. save_last own (joined old r.rows) (answered_by asked.budget r.outcome))) mid Bad v → ⊥
    ran-no own asked old mid v (Ok r) f rest = save-no own (joined old r.rows) (answered_by asked.budget r.outcome) mid v f rest
    ran-no own asked old mid v (Err run_fault.ReadFault) f rest = not-refused no-read rest
    ran-no own asked old mid v (Err run_fault.WriteFault) f rest = not-refused no-write rest
    ran-no own asked old mid v (Err run_fault.NoMemory) f rest = not-refused no-want rest

    measured-no : (own : Word) (asked : Asked) (ms : List LoadedModule) (hook : Option HookFiles) (old : Option DataSet) (u v : Lent) → IsFree own u → Ends whole IsNoMemory (measured own asked ms hook old) u Bad v → ⊥
    measured-no own asked ms hook old u v f (inl s) = fed s
    measured-no own asked ms hook old u v f (inr (x, mid, m, rest)) =
        ran-no own asked old mid v x (free-on own u mid f (data-tells shelf vault maker source sink plugin engine err u (measures asked ms hook) x mid m f.told) (data-kept shelf vault maker source sink plugin engine err u (measures asked ms hook) x mid m f.told refl)) rest

    run_by-same : (own : Word) (append : Bool) (asked : Asked) (hook : Option (Word × Word)) (script : Word) (u v : Lent) → vault.tells u.0.0.0.1 → Ends whole IsNoMemory (run_by own append asked hook script) u Bad v → streams_in v ≡ streams_in u
    run_by-same own append asked hook script u v t ends =
        then-same (opened main_name script) (λ ms. bind (hook_of hook) (λ h. bind (before own) (λ was. bind (joins append own asked.arcs was) (measured own asked ms h)))) (Err (bad_data name kind)) u v (opened-keeps leaves_streams streams-reading main_name script) (λ ms w first more.
        let at = (data-stays (opened main_name script) (opened-keeps keeps keeps-reading main_name script) u w (Ok ms) first t).0 in
        then-same (hook_of hook) (λ h. bind (before own) (λ was. bind (joins append own asked.arcs was) (measured own asked ms h))) (Err (bad_data name kind)) w v (hook-keeps leaves_streams streams-reading hook) (λ h x second then_.
        let on = (data-stays (hook_of hook) (hook-keeps keeps keeps-reading hook) w x (Ok h) second at).0 in
        then-same (before own) (λ was. bind (joins append own asked.arcs was) (measured own asked ms h)) (Err (bad_data name kind)) x v (λ y. (refl, before-so leaves_streams own y)) (λ was y third others.
        let free = before-free own x y was on third in
        then-same (joins append own asked.arcs was) (measured own asked ms h) (Err (bad_data name kind)) y v (joins-keeps leaves_streams streams-reading append own asked.arcs was) (λ old z fourth last_.
        let stays = data-stays (joins append own asked.arcs was) (joins-keeps keeps keeps-reading append own asked.arcs was) y z (Ok old) fourth free.told in
        absurd (measured-no own asked ms h old z v (free-on own y z free stays.0 stays.1) last_)) others) then_) more) ends

    -- a run that is refused so leaves the streams
    pub bad-run : (branch append : Bool) (context : Option Word) (steps : Option ℕ) (hook : Option (Word × Word)) (data_file rcfile : Option Word) (script : Word) (args : List Word) (old new : Lent) → vault.tells old.0.0.0.1
        → Ends whole IsNoMemory (run branch append context steps hook data_file rcfile script args) old Bad new → streams_in new ≡ streams_in old
    bad-run branch append context steps hook data_file rcfile script args old new t ends =
        then-same (settings rcfile) (λ s. run_by (own_name data_file s) append (asked_by s branch context steps script args) (hook_named hook s.run.hook) script) (Err (bad_data name kind)) old new (settings-keeps leaves_streams streams-reading rcfile) (λ s mid first rest.
        run_by-same (own_name data_file s) append (asked_by s branch context steps script args) (hook_named hook s.run.hook) script mid new (data-stays (settings rcfile) (settings-keeps keeps keeps-reading rcfile) old mid (Ok s) first t).0 rest) ends

    -- ---- tests and their save

    tests-over : (u : Lent) (asked : TestsAsked) (ms : List LoadedModule) (x : Tested) (v : Lent) (own : Word) → IsFree own u → whole u (tests asked ms) x v → IsFree own v
    tests-over u asked ms x v own f m = free-on own u v f (data-tells shelf vault maker source sink plugin engine err u (tests asked ms) x v m f.told) (data-kept shelf vault maker source sink plugin engine err u (tests asked ms) x v m f.told refl)

    lines-over : (u : Lent) (bytes : List ℕ) (x : Option SinkError) (v : Lent) (own : Word) → IsFree own u → whole u (writes bytes) x v → IsFree own v
    lines-over u bytes x v own f m = free-on own u v f (data-tells shelf vault maker source sink plugin engine err u (writes bytes) x v m f.told) (data-kept shelf vault maker source sink plugin engine err u (writes bytes) x v m f.told refl)

    written-no : (own : Word) (d : DataSet) (rs : List TestResult) (mid v : Lent) (x : Option SinkError) → IsFree own mid → Ends whole IsNoMemory (bind (on sink_refusal x) (λ written. save_last own d (suite_answered rs))) mid Bad v → ⊥
    written-no own d rs mid v None f rest = save-no own d (suite_answered rs) mid v f rest
    written-no own d rs mid v (Some sink_error.Failed) f rest = not-refused no-write rest
    written-no own d rs mid v (Some sink_error.NoMemory) f rest = not-refused no-want rest

    tested-no : (own file : Word) (mid v : Lent) (x : Tested) → IsFree own mid
        → Ends whole IsNoMemory (bind (came_or file x) (λ r. bind (ask (writes (suite_lines r.0)) (on sink_refusal)) (λ written. save_last own r.1 (suite_answered r.0)))) mid Bad v → ⊥
    tested-no own file mid v (came r) f (inl s) = fed s
    tested-no own file mid v (came r) f (inr (x, w, m, rest)) = written-no own r.1 r.0 w v x (lines-over mid (suite_lines r.0) x w own f m) rest
    tested-no own file mid v not_imported f rest = not-refused no-import rest
    tested-no own file mid v starved f rest = not-refused no-want rest

    tests_run-no : (own : Word) (asked : TestsAsked) (file : Word) (ms : List LoadedModule) (u v : Lent) → IsFree own u → Ends whole IsNoMemory (tests_run own asked file ms) u Bad v → ⊥
    tests_run-no own asked file ms u v f (inl s) = fed s
    tests_run-no own asked file ms u v f (inr (x, mid, m, rest)) = tested-no own file mid v x (tests-over u asked ms x mid own f m) rest

    -- tests that are refused so leave the streams
    pub bad-suite : (branch : Bool) (steps : Option ℕ) (data_file rcfile : Option Word) (file : Word) (old new : Lent) → vault.tells old.0.0.0.1
        → Ends whole IsNoMemory (suite branch steps data_file rcfile file) old Bad new → streams_in new ≡ streams_in old
    bad-suite branch steps data_file rcfile file old new t ends =
        then-same (settings rcfile) (λ s. suite_by (own_name data_file s) (tests_asked s branch steps) file) (Err (bad_data name kind)) old new (settings-keeps leaves_streams streams-reading rcfile) (λ s mid first rest.
        let at = (data-stays (settings rcfile) (settings-keeps keeps keeps-reading rcfile) old mid (Ok s) first t).0 in
        then-same (opened tests_name file) (λ ms. bind (before (own_name data_file s)) (λ was. tests_run (own_name data_file s) (tests_asked s branch steps) file ms)) (Err (bad_data name kind)) mid new (opened-keeps leaves_streams streams-reading tests_name file) (λ ms w second more.
        let on = (data-stays (opened tests_name file) (opened-keeps keeps keeps-reading tests_name file) mid w (Ok ms) second at).0 in
        then-same (before (own_name data_file s)) (λ was. tests_run (own_name data_file s) (tests_asked s branch steps) file ms) (Err (bad_data name kind)) w new (λ y. (refl, before-so leaves_streams (own_name data_file s) y)) (λ was y third others.
        absurd (tests_run-no (own_name data_file s) (tests_asked s branch steps) file ms y new (before-free (own_name data_file s) w y was on third) others)) more) rest) ends
