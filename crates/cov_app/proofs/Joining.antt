-- What `combine` leaves of the data, and the settings that it read.
use Rattle.std.proofs.Common.{◌≡◌, ◌∙◌, inl, inr, ℕ, Bool, true, false, true≢false, refl, sym, ap, subst, List, [], Option, Some, None, Result, Ok, Err}
use Rattle.std.specs.Prelude.{codes, unwrap_or}
use Rattle.cov_config.specs.Settings.{Settings, meaning_of}
use Rattle.cov_contexts.specs.declared.plugins.Plugin.{Ghosts as PluginOf}
use Rattle.cov_exclude.specs.declared.maker.Maker.{Ghosts as MakerOf}
use Rattle.cov_joins.specs.Parts.{combining}
use Rattle.cov_joins.proofs.Leaving.{allowed, Leaves, both-step, stays-so, left-none, combining-keeps, settings-keeps}
use Rattle.cov_outside.specs.declared.shelf.Shelf.{Ghosts as ShelfOf}
use Rattle.cov_outside.specs.declared.shelf.ShelfError.{ShelfError}
use Rattle.cov_outside.specs.declared.shelf.ShelfError.TheVariants as shelf_error
use Rattle.cov_outside.specs.declared.sink.Sink.{Ghosts as SinkOf}
use Rattle.cov_outside.specs.declared.source.Source.{Ghosts as SourceOf}
use Rattle.py_machine.specs.declared.engine.Engine.{Ghosts as EngineOf}
use Rattle.cov_programs.specs.Ends.{Ends, Follows}
use Rattle.cov_programs.specs.Laws.{IsLate, OnlyKeeps, Parted}
use Rattle.cov_programs.specs.Objects.{Moves}
use Rattle.cov_programs.specs.Programs.{bind}
use Rattle.cov_programs.specs.Programs as programs
use Rattle.cov_programs.proofs.Folding.{parted}
use Rattle.cov_programs.proofs.Keeping.{keeps-all}
use Rattle.cov_programs.proofs.Parts.{keeps-careful}
use Rattle.cov_programs.proofs.Results.{ok_is, ok_no_err}
use Rattle.cov_run.specs.Loading.{most_bytes}
use Rattle.cov_step.specs.Answers.{bytes_of, bytes_if_any, given_or}
use Rattle.cov_step.specs.Calls.{Call, spells, checks, reads, puts, opens, lists, loads, saves, removes, makes, writes, crosses, measures, tries, tests, selects, judges, says, Answer, Answered, Step, IsNoMemory}
use Rattle.cov_step.specs.Objects.{on_shelf, ReadOf, Saying}
use Rattle.cov_step.specs.Combining.{leaves_files, after_changes}
use Rattle.cov_step.specs.Phases.{own_name, settings}
use Rattle.cov_step.specs.Promises.{keeps}
use Rattle.cov_step.specs.Step.{step, doing, IsSpelled}
use Rattle.cov_step.proofs.Care.{keeps-reading}
use Rattle.cov_step.proofs.Combining.{law_of_combine}
use Rattle.cov_step.proofs.Keeping.{settings-keeps as settings-only-read}
use Rattle.cov_step.proofs.Leaving.{leaves, leaves-early}
use Rattle.cov_vault.specs.declared.vault.Vault.{Ghosts as VaultOf}
use Rattle.cov_why.specs.Answers.{Refusal, no_such_file, bad_config, usage, PlainWhy}
use Rattle.cov_words.specs.Commands.{PlainCommand}
use Rattle.cov_words.specs.Commands as plain
use Rattle.cov_words.specs.Values.{Word}
use Rattle.cov_app.specs.Joined.{AreWordsOf, AreSettings, IsJoined, CombineLeft}
use Rattle.cov_app.specs.Objects.{All, on_command}
use Rattle.cov_app.specs.Taken.{why_of}
use Rattle.cov_app.proofs.Keeping.{spelled-whole, data-tells, data-kept}

module _ {H V M I O P G E : Type 0} (shelf : ShelfOf H) (vault : VaultOf V) (maker : MakerOf M) (source : SourceOf I) (sink : SinkOf O) (plugin : PluginOf P) (engine : EngineOf G) (err : SinkOf E) where
  abbrev W : Type 0
  W = All H V M I O P G × Saying E

  abbrev whole : Moves Call Answer W
  whole = on_command shelf vault maker source sink plugin engine err

  abbrev stored : W → V
  stored w = w.0.0.0.1

  abbrev files : W → H
  files w = w.0.0.0.0.1

  -- ---- the settings

  read-so : (u : W) (name : Word) (most : ℕ) (x : Answer (reads name most)) (v : W) → whole u (reads name most) x v → ReadOf shelf (files u) name most x (files v)
  read-so u name most x v (inl (inl (inl (inl (inl (m, a), b), c), d), e)) = absurd m
  read-so u name most x v (inl (inl (inl (inl (inr (m, a), b), c), d), e)) = m
  read-so u name most x v (inl (inl (inl (inr (m, b), c), d), e)) = absurd m
  read-so u name most x v (inl (inl (inr (m, c), d), e)) = absurd m
  read-so u name most x v (inl (inr (m, d), e)) = absurd m
  read-so u name most x v (inr (m, e)) = absurd m

  given-ok : {K : Type 0} (why : K → Refusal) (m : Result Settings K) (u v : W) (s : Settings) → Ends whole IsNoMemory (given_or why m) u (Ok s) v → m ≡ Ok s
  given-ok why (Ok t) u v s (inl h) = absurd (ok_no_err h.is)
  given-ok why (Ok t) u v s (inr (is, same)) = ap Ok (sym (ok_is is))
  given-ok why (Err k) u v s (inl h) = absurd (ok_no_err h.is)
  given-ok why (Err k) u v s (inr (is, same)) = absurd (ok_no_err is)

  refused-no : {A : Type 0} {u v : W} {s : A} {r : PlainWhy} → Ends {A = A} whole IsNoMemory (programs.refuse r) u (Ok s) v → ⊥
  refused-no (inl h) = ok_no_err h.is
  refused-no (inr (is, same)) = ok_no_err is

  said : (u : W) (name : Word) (bytes : Option (List ℕ)) (s : Settings) → shelf.files (files u) name ≡ bytes → meaning_of (unwrap_or bytes []) ≡ Ok s → meaning_of (unwrap_or (shelf.files (files u) name) []) ≡ Ok s
  said u name bytes s e h = ap (λ (b : Option (List ℕ)). meaning_of (unwrap_or b [])) e ∙ h

  told-file : shelf.tells → (name : Word) (u mid v : W) (s : Settings) (x : Result (List ℕ) ShelfError) → whole u (reads name most_bytes) x mid
      → Ends whole IsNoMemory (bind (bytes_of (no_such_file name) x) (λ bytes. given_or bad_config (meaning_of bytes))) mid (Ok s) v → meaning_of (unwrap_or (shelf.files (files u) name) []) ≡ Ok s
  told-file t name u mid v s (Ok bytes) m rest = said u name (Some bytes) s (shelf.truthful t (files u) name most_bytes (Ok bytes) (files mid) (read-so u name most_bytes (Ok bytes) mid m).moved).0.0 (given-ok bad_config (meaning_of bytes) mid v s rest)
  told-file t name u mid v s (Err shelf_error.Absent) m rest = absurd (refused-no rest)
  told-file t name u mid v s (Err shelf_error.TooLarge) m rest = absurd (refused-no rest)
  told-file t name u mid v s (Err shelf_error.Failed) m rest = absurd (refused-no rest)
  told-file t name u mid v s (Err shelf_error.NoMemory) m rest = absurd (refused-no rest)

  told-usual : shelf.tells → (u mid v : W) (s : Settings) (x : Result (List ℕ) ShelfError) → whole u (reads (codes "pyproject.toml") most_bytes) x mid
      → Ends whole IsNoMemory (bind (bytes_if_any x) (λ bytes. given_or bad_config (meaning_of bytes))) mid (Ok s) v → meaning_of (unwrap_or (shelf.files (files u) (codes "pyproject.toml")) []) ≡ Ok s
  told-usual t u mid v s (Ok bytes) m rest = said u (codes "pyproject.toml") (Some bytes) s (shelf.truthful t (files u) (codes "pyproject.toml") most_bytes (Ok bytes) (files mid) (read-so u (codes "pyproject.toml") most_bytes (Ok bytes) mid m).moved).0.0 (given-ok bad_config (meaning_of bytes) mid v s rest)
  told-usual t u mid v s (Err shelf_error.Absent) m rest = said u (codes "pyproject.toml") None s (shelf.truthful t (files u) (codes "pyproject.toml") most_bytes (Err shelf_error.Absent) (files mid) (read-so u (codes "pyproject.toml") most_bytes (Err shelf_error.Absent) mid m).moved).0 (given-ok bad_config (meaning_of []) mid v s rest)
  told-usual t u mid v s (Err shelf_error.TooLarge) m rest = absurd (refused-no rest)
  told-usual t u mid v s (Err shelf_error.Failed) m rest = absurd (refused-no rest)
  told-usual t u mid v s (Err shelf_error.NoMemory) m rest = absurd (refused-no rest)

  settings-told : shelf.tells → (rcfile : Option Word) (u v : W) (s : Settings) → Ends whole IsNoMemory (settings rcfile) u (Ok s) v → AreSettings (shelf.files (files u)) rcfile s
  settings-told t (Some name) u v s (inl h) = absurd (ok_no_err h.is)
  settings-told t (Some name) u v s (inr (x, mid, m, rest)) = told-file t name u mid v s x m rest
  settings-told t None u v s (inl h) = absurd (ok_no_err h.is)
  settings-told t None u v s (inr (x, mid, m, rest)) = told-usual t u mid v s x m rest

  -- ---- the data

  module _ (keep : Bool) (own : Word) (named : List Word) (old : W) where
    abbrev LeavesData : W → Type 0
    LeavesData w = Leaves vault keep own named (vault.contents (stored old)) (stored w)

    data-step : (u : W) (call : Call) (x : Answer call) (v : W) → whole u call x v → allowed keep own named call x ≡ true → LeavesData u → LeavesData v
    data-step u call x v (inl (inl (inl (inl (m, a), b), c), d)) e h = subst (λ w. Leaves vault keep own named (vault.contents (stored old)) w) (sym a) h
    data-step u call x v (inl (inl (inl (inr (m, a), b), c), d)) e h =
        both-step vault keep own named (vault.contents (stored old)) shelf (files u, stored u) call x (files u, stored v) (inr (m, refl)) e h
    data-step u call x v (inl (inl (inr (m, b), c), d)) e h = subst (λ w. Leaves vault keep own named (vault.contents (stored old)) w.1) (sym b) h
    data-step u call x v (inl (inr (m, c), d)) e h = subst (λ w. Leaves vault keep own named (vault.contents (stored old)) w.0.1) (sym c) h
    data-step u call x v (inr (m, d)) e h = subst (λ w. Leaves vault keep own named (vault.contents (stored old)) w.0.0.1) (sym d) h

    stays : {A : Type 0} (p : Step A) (u v : W) (e : Result A PlainWhy) → OnlyKeeps (allowed keep own named) p → Ends whole IsNoMemory p u e v → LeavesData u → LeavesData v
    stays p u v e k h l = stays-so whole IsNoMemory LeavesData (allowed keep own named) data-step p u v e k h l

  combined-left : (append keep : Bool) (data_file rcfile : Option Word) (named : List Word) (old new : W) (e : Result Answered PlainWhy) → vault.tells (stored old)
      → Parted whole IsNoMemory (settings rcfile) (λ s. combining append keep (own_name data_file s) s.paths named) old e new
      → IsJoined shelf.tells (shelf.files (files old)) keep data_file rcfile named (vault.contents (stored old)) (vault.contents (stored new))
  combined-left append keep data_file rcfile named old new e t (inl (s, mid, first, rest)) =
      let own = own_name data_file s in
      inr (
        s,
        (λ told. settings-told told rcfile old mid s first),
        (stays keep own named old (combining append keep own s.paths named) mid new e (combining-keeps own append keep s.paths named) rest
            (stays keep own named old (settings rcfile) old mid (Ok s) (settings-keeps keep own named rcfile) first (t, left-none keep own named (vault.contents (stored old))))).1,
      )
  combined-left append keep data_file rcfile named old new e t (inr (r, first, is)) =
      inl (leaves whole (λ w. vault.contents (stored w)) (λ w. vault.tells (stored w)) (data-tells shelf vault maker source sink plugin engine err) (data-kept shelf vault maker source sink plugin engine err)
      (settings rcfile) old new r (keeps-careful keeps (settings rcfile) (settings-only-read keeps keeps-reading rcfile)) t (record { ends = first }))

  -- ---- the files

  shelf-files : shelf.tells → (u : H) (call : Call) (x : Answer call) (v : H) → on_shelf shelf u call x v → leaves_files call x ≡ true → shelf.files v ≡ shelf.files u
  shelf-files t u (spells words) x v m e = absurd m
  shelf-files t u (checks bytes) x v m e = ap shelf.files m.same
  shelf-files t u (reads name most) x v m e = (shelf.truthful t u name most x v m.moved).1
  shelf-files t u (puts name bytes) x v m e = absurd (true≢false (sym e))
  shelf-files t u (opens name script) x v m e = m.kept t
  shelf-files t u lists x v m e = absurd m
  shelf-files t u (loads name) x v m e = absurd m
  shelf-files t u (saves name content) x v m e = absurd m
  shelf-files t u (removes name) x v m e = absurd m
  shelf-files t u (makes texts) x v m e = absurd m
  shelf-files t u (writes bytes) x v m e = absurd m
  shelf-files t u (crosses modules words budget) x v m e = absurd m
  shelf-files t u (measures asked modules hook) x v m e = absurd m
  shelf-files t u (tries modules words budget) x v m e = absurd m
  shelf-files t u (tests asked modules) x v m e = absurd m
  shelf-files t u (selects budget before after) x v m e = absurd m
  shelf-files t u (judges budget modules) x v m e = absurd m
  shelf-files t u (says text) x v m e = absurd m

  files-kept : shelf.tells → (u : W) (call : Call) (x : Answer call) (v : W) → whole u call x v → leaves_files call x ≡ true → shelf.files (files v) ≡ shelf.files (files u)
  files-kept t u call x v (inl (inl (inl (inl (inl (m, a), b), c), d), e)) k = ap shelf.files a
  files-kept t u call x v (inl (inl (inl (inl (inr (m, a), b), c), d), e)) k = shelf-files t (files u) call x (files v) m k
  files-kept t u call x v (inl (inl (inl (inr (m, b), c), d), e)) k = ap (λ (w : Unit {0} × H). shelf.files w.1) b
  files-kept t u call x v (inl (inl (inr (m, c), d), e)) k = ap (λ (w : (Unit {0} × H) × V). shelf.files w.0.1) c
  files-kept t u call x v (inl (inr (m, d), e)) k = ap (λ (w : ((Unit {0} × H) × V) × M). shelf.files w.0.0.1) d
  files-kept t u call x v (inr (m, e)) k = ap (λ (w : All H V M I O P G). shelf.files w.0.0.0.1) e

  -- ---- the words

  spelled-same : (u : W) (words : List Word) (x : Answer (spells words)) (v : W) → whole u (spells words) x v → (files v ≡ files u) × (stored v ≡ stored u)
  spelled-same u words x v (inl (inl (inl (inl (inl (m, a), b), c), d), e)) =
      (a, b)
  spelled-same u words x v (inl (inl (inl (inl (inr (m, a), b), c), d), e)) = absurd m
  spelled-same u words x v (inl (inl (inl (inr (m, b), c), d), e)) = absurd m
  spelled-same u words x v (inl (inl (inr (m, c), d), e)) = absurd m
  spelled-same u words x v (inl (inr (m, d), e)) = absurd m
  spelled-same u words x v (inr (m, e)) = absurd m

  module _ (append keep : Bool) (data_file rcfile : Option Word) (named : List Word) where
    abbrev LeftFrom : H → V → W → Type 0
    LeftFrom h v new = IsJoined shelf.tells (shelf.files h) keep data_file rcfile named (vault.contents v) (vault.contents (stored new))

    abbrev the-command : PlainCommand
    the-command = plain.combine append keep data_file rcfile named

    words-done : (words : List Word) (mid new : W) (e : Result Answered PlainWhy) (x : Answer (spells words)) → AreWordsOf the-command words → IsSpelled words x → vault.tells (stored mid)
        → Ends whole IsNoMemory (bind (given_or usage x) doing) mid e new → LeftFrom (files mid) (stored mid) new
    words-done words mid new e (Ok d) of is t rest =
        combined-left append keep data_file rcfile named mid new e t
        (parted whole IsNoMemory (settings rcfile) (λ s. combining append keep (own_name data_file s) s.paths named) mid new e (subst (λ c. Ends whole IsNoMemory (doing c) mid e new) (of d is) rest))
    words-done words mid new e (Err i) of is t (inl s) = inl (ap (λ w. vault.contents (stored w)) s.same)
    words-done words mid new e (Err i) of is t (inr (out, same)) = inl (ap (λ w. vault.contents (stored w)) same)

    by-ends : (words : List Word) (old new : W) (e : Result Answered PlainWhy) → AreWordsOf the-command words → vault.tells (stored old)
        → Ends whole IsNoMemory (step words) old e new → LeftFrom (files old) (stored old) new
    by-ends words old new e of t (inl s) = inl (ap (λ w. vault.contents (stored w)) s.same)
    by-ends words old new e of t (inr (x, mid, m, rest)) =
        let same = spelled-same old words x mid m in
        subst (λ h. LeftFrom h (stored old) new) same.0 (subst (λ v. LeftFrom (files mid) v new) same.1
        (words-done words mid new e x of (spelled-whole shelf vault maker source sink plugin engine err old words x mid m) (data-tells shelf vault maker source sink plugin engine err old (spells words) x mid m t) rest))

    -- what a program is refused by early leaves the data
    rest-late : (words : List Word) (x : Answer (spells words)) → AreWordsOf the-command words → IsSpelled words x → IsLate keeps after_changes (bind (given_or usage x) doing)
    rest-late words (Ok d) of is = subst (λ c. IsLate keeps after_changes (doing c)) (sym (of d is)) (law_of_combine.early append keep data_file rcfile named)
    rest-late words (Err i) of is = tt

    early-ends : (words : List Word) (old new : W) (why : PlainWhy) → AreWordsOf the-command words → vault.tells (stored old) → after_changes why ≡ false → Ends whole IsNoMemory (step words) old (Err why) new → vault.contents (stored new) ≡ vault.contents (stored old)
    early-ends words old new why of t early (inl s) = ap (λ w. vault.contents (stored w)) s.same
    early-ends words old new why of t early (inr (x, mid, m, rest)) =
        leaves-early whole (λ w. vault.contents (stored w)) (λ w. vault.tells (stored w)) (data-tells shelf vault maker source sink plugin engine err) (data-kept shelf vault maker source sink plugin engine err) after_changes refl
        (bind (given_or usage x) doing) mid new why early (rest-late words x of (spelled-whole shelf vault maker source sink plugin engine err old words x mid m)) (data-tells shelf vault maker source sink plugin engine err old (spells words) x mid m t) (record { ends = rest })
        ∙ data-kept shelf vault maker source sink plugin engine err old (spells words) x mid m t refl

    early-left : (words : List Word) (old new : W) (e : Result Answered PlainWhy) → AreWordsOf the-command words → vault.tells (stored old) → after_changes (why_of e) ≡ false → Ends whole IsNoMemory (step words) old e new → vault.contents (stored new) ≡ vault.contents (stored old)
    early-left words old new (Ok a) of t early ends = absurd (true≢false early)
    early-left words old new (Err why) of t early ends = early-ends words old new why of t early ends

    rest-files : (words : List Word) (x : Answer (spells words)) → AreWordsOf the-command words → IsSpelled words x → OnlyKeeps leaves_files (bind (given_or usage x) doing)
    rest-files words (Ok d) of is = subst (λ c. OnlyKeeps leaves_files (doing c)) (sym (of d is)) (law_of_combine.files append keep data_file rcfile named)
    rest-files words (Err i) of is = tt

    files-left : (words : List Word) (old new : W) (e : Result Answered PlainWhy) → AreWordsOf the-command words → shelf.tells → Ends whole IsNoMemory (step words) old e new → shelf.files (files new) ≡ shelf.files (files old)
    files-left words old new e of t (inl s) = ap (λ w. shelf.files (files w)) s.same
    files-left words old new e of t (inr (x, mid, m, rest)) =
        keeps-all whole IsNoMemory (λ w. shelf.files (files w)) leaves_files (files-kept t) (bind (given_or usage x) doing) mid new e (rest-files words x of (spelled-whole shelf vault maker source sink plugin engine err old words x mid m)) rest
        ∙ files-kept t old (spells words) x mid m refl

    -- a call of `combine`
    pub combine-leaves : (words : List Word) (old new : W) (e : Result Answered PlainWhy) (why : PlainWhy) → why ≡ why_of e → AreWordsOf the-command words → Follows whole IsNoMemory (step words) old e new
        → CombineLeft shelf.tells (vault.tells (stored old)) (shelf.files (files old)) (shelf.files (files new)) keep data_file rcfile named why (vault.contents (stored old)) (vault.contents (stored new))
    combine-leaves words old new e why is of f = record {
      files = λ t. files-left words old new e of t f.ends;
      early = λ t early. early-left words old new e of t (ap after_changes (sym is) ∙ early) f.ends;
      joined = λ t. by-ends words old new e of t f.ends;
    }
