-- Words are refused only for their cause, and where they aren't refused, no cause holds.
use Rattle.std.proofs.Common.{◌≡◌, ◌⊎◌, inl, inr, ◌∙◌, sym, ap, subst, ℕ, ◌≤◌, true, false, List, [], ◌∷◌, Option, Some, None, Result, Ok, Err, refl, arith}
use Rattle.std.specs.Prelude.{◌||◌, codes}
use Rattle.cov_config.specs.Settings.{Settings, no_cover, no_branch}
use Rattle.cov_json.specs.Json.{json_bytes}
use Rattle.cov_lcov.specs.Lcov.{lcov_bytes}
use Rattle.cov_load_laws.specs.Loadings.{OneLoading, NotStopped}
use Rattle.cov_load_laws.specs.Readings.{OneReading}
use Rattle.cov_make_laws.specs.Readings.{MadeAreRead}
use Rattle.cov_outside.specs.Files.{Files}
use Rattle.cov_outside.specs.declared.sink.SinkError.TheVariants as sink_error
use Rattle.cov_programs.specs.Programs.{give, ask, bind}
use Rattle.cov_step.specs.Answers.{on, sink_refusal}
use Rattle.cov_step.specs.Calls.{Answered, Step, writes}
use Rattle.cov_step.specs.Commands.{hook_named}
use Rattle.cov_step.specs.Commands as the
use Rattle.cov_step.specs.Names.{or_else}
use Rattle.cov_step.specs.Phases.{main_name, own_name, judged, write_last, put_last}
use Rattle.cov_step.specs.Promises.{has_one_text}
use Rattle.cov_step.specs.Scripts.{inside, words_in, status_line, ended_in, line_done, is_comment, words_done, line_step}
use Rattle.cov_step.specs.Step.{IsSpelled, doing, step}
use Rattle.cov_step.specs.Mutating.{mutate}
use Rattle.cov_step.specs.Selecting.{select}
use Rattle.cov_step.specs.Testing.{suite}
use Rattle.cov_text.specs.Report.{text_bytes}
use Rattle.cov_vault.specs.Contents.{Contents}
use Rattle.cov_why.specs.Answers.{Refusal, usage}
use Rattle.cov_words.specs.Commands.{PlainCommand, IsCommand, StopsAfter, IsOneCommand}
use Rattle.cov_words.specs.Commands as plain
use Rattle.cov_words.specs.Values.{Word}
use Rattle.cov_complete_laws.specs.Premises.{AreSettings}
use Rattle.cov_complete_laws.proofs.Holding.{Holding, told, some-none, true-false}
use Rattle.cov_complete_laws.proofs.Phases.{writing-sure, putting-sure}
use Rattle.cov_cause_laws.specs.Checks.{Check, IsFirst, AllPass}
use Rattle.cov_cause_laws.specs.Checks as check
use Rattle.cov_cause_laws.specs.Orders.{of_patterns, of_run, of_suite, of_select, of_mutate, of_combine, of_report, of_annotate}
use Rattle.cov_cause_laws.specs.Causes.{BySettings, IsRefusedIn, IsRefusedFor, is_bad_pattern}
use Rattle.cov_cause_laws.specs.Exactly.{NoScript}
use Rattle.cov_cause_laws.specs.Lines.{IsRefusedInside, IsLineRefused}
use Rattle.cov_cause_laws.proofs.Ways.{then-under, under-all, sure-under}
use Rattle.cov_cause_laws.proofs.Parts.{As, as-map, Goes, Leads, by-either}
use Rattle.cov_cause_laws.proofs.Commands.{any, Quietly, Sets, set-last, erase-goes, arcs-goes, run-goes, suite-goes, select-goes, mutate-goes, combine-goes, reported-goes, annotate-goes, make-goes}
use Rattle.cov_cause_laws.proofs.Single.{met-by, met-first, one-cause}

-- no cause but a pattern's holds
abbrev pub Free : (Refusal → Type 0) → Type 0
Free P = (r : Refusal) → is_bad_pattern r ≡ false → P r → ⊥

-- refused only for these causes, and otherwise free of them
abbrev pub Exact : {A : Type 0} → (Refusal → Type 0) → Step A → Holding → Type 0
Exact P p t = Goes (λ a u. Free P) P p t

module _ (one : OneReading) (loads : OneLoading) (whole : NotStopped) (law : MadeAreRead) (t : Holding) where
  leads-exact : (ks : List Check) (p : Step Answered) → Leads t ks any p t → Exact (IsFirst t.0 t.1 ks) p t
  leads-exact ks p h =
      under-all told (λ a u. AllPass t.0 t.1 ks × Unit {0}) (λ a u. Free (IsFirst t.0 t.1 ks)) (As (IsFirst t.0 t.1 ks)) (As (IsFirst t.0 t.1 ks))
      (λ a u m r good f. met-first one loads whole t.0 t.1 ks r good m.0 f) (λ r f. f) p t h

  sets-exact : (rcfile : Option Word) (ks : Settings → List Check) (p : Step Answered) → Sets t rcfile ks any p t → Exact (BySettings t.0 t.1 rcfile ks) p t
  sets-exact rcfile ks p h =
      under-all told (λ a u. ((s : Settings) × AreSettings t.0 rcfile s × AllPass t.0 t.1 (ks s)) × Unit {0}) (λ a u. Free (BySettings t.0 t.1 rcfile ks)) (As (BySettings t.0 t.1 rcfile ks)) (As (BySettings t.0 t.1 rcfile ks))
      (λ a u m r good f. met-by one loads whole t.0 t.1 rcfile ks m.0.0 r good m.0.1 m.0.2 f) (λ r f. f) p t h

  -- every command but a script
  pub doing-exact : (c : PlainCommand) → has_one_text c ≡ true → ((seed size : ℕ) → c ≡ plain.make seed size → size ≤ 16000) → Exact (IsRefusedIn t.0 t.1 c) (doing c) t
  doing-exact (plain.arcs steps script args) o small = leads-exact (check.program main_name script ∷ []) (the.arcs steps script args) (arcs-goes t steps script args)
  doing-exact (plain.run branch append context steps hook data_file rcfile script args) o small =
      sets-exact rcfile (λ s. of_run append (own_name data_file s) (branch || s.run.branch) (hook_named hook s.run.hook) script) (the.run branch append context steps hook data_file rcfile script args)
      (run-goes t branch append context steps hook data_file rcfile script args)
  doing-exact (plain.combine append keep data_file rcfile names) o small =
      sets-exact rcfile (λ s. of_combine append t.1 (own_name data_file s) names) (the.combine append keep data_file rcfile names) (combine-goes t append keep data_file rcfile names)
  doing-exact (plain.report show fail_under data_file rcfile) o small =
      sets-exact rcfile (λ s. of_report s.report t.1 (own_name data_file s)) (the.report show fail_under data_file rcfile)
      (set-last t rcfile (λ s. of_report s.report t.1 (own_name data_file s)) _ (λ r. write_last (text_bytes r.files r.arcs (show || r.settings.report.show_missing)) (judged (or_else fail_under r.settings.report.fail_under) r.files)) t
      (reported-goes t data_file rcfile _ (λ r. writing-sure (text_bytes r.files r.arcs (show || r.settings.report.show_missing)) (judged (or_else fail_under r.settings.report.fail_under) r.files) t)))
  doing-exact (plain.json name fail_under data_file rcfile) o small =
      sets-exact rcfile (λ s. of_report s.report t.1 (own_name data_file s)) (the.json name fail_under data_file rcfile)
      (set-last t rcfile (λ s. of_report s.report t.1 (own_name data_file s)) _ (λ r. put_last (or_else name (codes "coverage.json")) (json_bytes r.files r.arcs) (judged (or_else fail_under r.settings.report.fail_under) r.files)) t
      (reported-goes t data_file rcfile _ (λ r. putting-sure (or_else name (codes "coverage.json")) (json_bytes r.files r.arcs) (judged (or_else fail_under r.settings.report.fail_under) r.files) t)))
  doing-exact (plain.lcov name fail_under data_file rcfile) o small =
      sets-exact rcfile (λ s. of_report s.report t.1 (own_name data_file s)) (the.lcov name fail_under data_file rcfile)
      (set-last t rcfile (λ s. of_report s.report t.1 (own_name data_file s)) _ (λ r. put_last (or_else name (codes "coverage.lcov")) (lcov_bytes r.files r.arcs) (judged (or_else fail_under r.settings.report.fail_under) r.files)) t
      (reported-goes t data_file rcfile _ (λ r. putting-sure (or_else name (codes "coverage.lcov")) (lcov_bytes r.files r.arcs) (judged (or_else fail_under r.settings.report.fail_under) r.files) t)))
  doing-exact (plain.annotate data_file rcfile path) o small =
      sets-exact rcfile (λ s. of_annotate s.report (own_name data_file s) path) (the.annotate data_file rcfile path) (annotate-goes t data_file rcfile path)
  doing-exact (plain.erase data_file rcfile) o small = sets-exact rcfile (λ s. []) (the.erase data_file rcfile) (erase-goes t data_file rcfile)
  doing-exact (plain.script file) o small = absurd (true-false (sym o))
  doing-exact (plain.make seed size) o small = leads-exact (of_patterns (no_cover ∷ []) (no_branch ∷ [])) (doing (plain.make seed size)) (make-goes t law seed size (small seed size refl))
  doing-exact (plain.suite branch steps data_file rcfile file) o small =
      sets-exact rcfile (λ s. of_suite (own_name data_file s) file (or_else steps s.run.budget)) (suite branch steps data_file rcfile file) (suite-goes t branch steps data_file rcfile file)
  doing-exact (plain.select steps old new) o small = leads-exact (of_select old new (or_else steps the.usual_steps)) (select steps old new) (select-goes t steps old new)
  doing-exact (plain.mutate steps file) o small = leads-exact (of_mutate file (or_else steps the.usual_steps)) (mutate steps file) (mutate-goes t steps file)

-- ---- words

ok-no-err : {A R : Type 0} {a : A} {r : R} → ◌≡◌ {A = Result A R} (Ok a) (Err r) → ⊥
ok-no-err e = cc

ok-is : {A R : Type 0} {a b : A} → ◌≡◌ {A = Result A R} (Ok a) (Ok b) → a ≡ b
ok-is e = cc

cons-nil : {A : Type 0} {a : A} {rest : List A} → a ∷ rest ≡ [] → ⊥
cons-nil e = cc

-- a command with no text of its own has no cause of its own
no-text : (files : Files) (contents : Contents) (c : PlainCommand) (r : Refusal) → has_one_text c ≡ false → IsRefusedIn files contents c r → ⊥
no-text files contents (plain.arcs budget script args) r e h = true-false e
no-text files contents (plain.run branch append context budget hook data_file rcfile script args) r e h = true-false e
no-text files contents (plain.combine append keep data_file rcfile names) r e h = true-false e
no-text files contents (plain.report show_missing fail_under data_file rcfile) r e h = true-false e
no-text files contents (plain.json name fail_under data_file rcfile) r e h = true-false e
no-text files contents (plain.lcov name fail_under data_file rcfile) r e h = true-false e
no-text files contents (plain.annotate data_file rcfile file) r e h = true-false e
no-text files contents (plain.erase data_file rcfile) r e h = true-false e
no-text files contents (plain.script file) r e h = h
no-text files contents (plain.make seed size) r e h = true-false e
no-text files contents (plain.suite branch budget data_file rcfile file) r e h = true-false e
no-text files contents (plain.select budget old new) r e h = true-false e
no-text files contents (plain.mutate budget file) r e h = true-false e

-- a command that is no script has one text
one-text : (c : PlainCommand) → ((name : Word) → c ≡ plain.script name → ⊥) → has_one_text c ≡ true
one-text (plain.arcs budget script args) h = refl
one-text (plain.run branch append context budget hook data_file rcfile script args) h = refl
one-text (plain.combine append keep data_file rcfile names) h = refl
one-text (plain.report show_missing fail_under data_file rcfile) h = refl
one-text (plain.json name fail_under data_file rcfile) h = refl
one-text (plain.lcov name fail_under data_file rcfile) h = refl
one-text (plain.annotate data_file rcfile file) h = refl
one-text (plain.erase data_file rcfile) h = refl
one-text (plain.script file) h = absurd (h file refl)
one-text (plain.make seed size) h = refl
one-text (plain.suite branch budget data_file rcfile file) h = refl
one-text (plain.select budget old new) h = refl
one-text (plain.mutate budget file) h = refl

at-most : (i j : ℕ) → i ≤ j → j ≤ i → i ≡ j
at-most i j h k = omega (arith, h, k)

-- words stop in one place
pub one-stop : (words : List Word) (i j : ℕ) → StopsAfter words i → StopsAfter words j → i ≡ j
one-stop words i j h k = at-most i j (k.most i h.within h.begins) (h.most j k.within k.begins)

module _ (once : IsOneCommand) where
  -- words are one thing
  pub one-spelling : (words : List Word) (x y : Result PlainCommand ℕ) → IsSpelled words x → IsSpelled words y → x ≡ y
  one-spelling words (Ok c) (Ok d) h k = ap Ok (once words c d h k)
  one-spelling words (Ok c) (Err j) h k = absurd (k.0 c h)
  one-spelling words (Err i) (Ok d) h k = absurd (h.0 d k)
  one-spelling words (Err i) (Err j) h k = ap Err (one-stop words i j h.1 k.1)

  module _ (one : OneReading) (loads : OneLoading) (whole : NotStopped) (files : Files) (contents : Contents) where
    -- two commands that words are, each with its cause
    both-refused : (words : List Word) (c d : PlainCommand) (r s : Refusal) → is_bad_pattern r ≡ false → is_bad_pattern s ≡ false → IsSpelled words (Ok c) → IsSpelled words (Ok d) → IsRefusedIn files contents c r → IsRefusedIn files contents d s → r ≡ s
    both-refused words c d r s good fine h k x y =
        one-cause one loads whole files contents d r s good fine (subst (λ b. IsRefusedIn files contents b r) (ok-is (one-spelling words (Ok c) (Ok d) h k)) x) y

    pub one-for : (words : List Word) (r s : Refusal) → is_bad_pattern r ≡ false → is_bad_pattern s ≡ false → IsRefusedFor files contents words r → IsRefusedFor files contents words s → r ≡ s
    one-for words r s good fine (inl (i, h, is)) (inl (j, k, so)) = is ∙ ap usage (one-stop words i j h.1 k.1) ∙ sym so
    one-for words r s good fine (inl (i, h, is)) (inr (d, k, y)) = absurd (ok-no-err (one-spelling words (Ok d) (Err i) k h))
    one-for words r s good fine (inr (c, h, x)) (inl (j, k, so)) = absurd (ok-no-err (one-spelling words (Ok c) (Err j) h k))
    one-for words r s good fine (inr (c, h, x)) (inr (d, k, y)) = both-refused words c d r s good fine h k x y

    -- in a script
    inside-refused : (c : PlainCommand) (r s : Refusal) → is_bad_pattern r ≡ false → is_bad_pattern s ≡ false → IsRefusedInside files contents c r → IsRefusedInside files contents c s → r ≡ s
    inside-refused c r s good fine (inl x) (inl y) = one-cause one loads whole files contents c r s good fine x y
    inside-refused c r s good fine (inl x) (inr y) = absurd (no-text files contents c r y.0 x)
    inside-refused c r s good fine (inr x) (inl y) = absurd (no-text files contents c s x.0 y)
    inside-refused c r s good fine (inr x) (inr y) = x.1 ∙ sym y.1

    pub one-line : (line : List ℕ) (r s : Refusal) → is_bad_pattern r ≡ false → is_bad_pattern s ≡ false → IsLineRefused files contents line r → IsLineRefused files contents line s → r ≡ s
    one-line line r s good fine (n, w, x) (m, v, y) = by x y
      where
        by : ((i : ℕ) × IsSpelled (words_in line) (Err i) × (r ≡ usage i)) ⊎ ((c : PlainCommand) × IsSpelled (words_in line) (Ok c) × IsRefusedInside files contents c r)
            → ((i : ℕ) × IsSpelled (words_in line) (Err i) × (s ≡ usage i)) ⊎ ((c : PlainCommand) × IsSpelled (words_in line) (Ok c) × IsRefusedInside files contents c s) → r ≡ s
        by (inl (i, h, is)) (inl (j, k, so)) = is ∙ ap usage (one-stop (words_in line) i j h.1 k.1) ∙ sym so
        by (inl (i, h, is)) (inr (d, k, y)) = absurd (ok-no-err (one-spelling (words_in line) (Ok d) (Err i) k h))
        by (inr (c, h, x)) (inl (j, k, so)) = absurd (ok-no-err (one-spelling (words_in line) (Ok c) (Err j) h k))
        by (inr (c, h, x)) (inr (d, k, y)) =
            inside-refused d r s good fine (subst (λ b. IsRefusedInside files contents b r) (ok-is (one-spelling (words_in line) (Ok c) (Ok d) h k)) x) y

  module _ (one : OneReading) (loads : OneLoading) (whole : NotStopped) (law : MadeAreRead) (small : (words : List Word) (seed size : ℕ) → IsCommand (plain.make seed size) words → size ≤ 16000) (t : Holding) where
    small-made : (words : List Word) (c : PlainCommand) → IsCommand c words → (seed size : ℕ) → c ≡ plain.make seed size → size ≤ 16000
    small-made words c is seed size e = small words seed size (subst (λ b. IsCommand b words) e is)

    -- where words are this command, they are refused as it is
    of-command : {A : Type 0} (words : List Word) (c : PlainCommand) (p : Step A) (u : Holding) → IsSpelled words (Ok c) → Exact (IsRefusedIn t.0 t.1 c) p u → Exact (IsRefusedFor t.0 t.1 words) p u
    of-command words c p u h k =
        under-all told (λ a v. Free (IsRefusedIn t.0 t.1 c)) (λ a v. Free (IsRefusedFor t.0 t.1 words)) (As (IsRefusedIn t.0 t.1 c)) (As (IsRefusedFor t.0 t.1 words))
        (λ a v free r good f. only free r good f) (as-map (IsRefusedIn t.0 t.1 c) (IsRefusedFor t.0 t.1 words) (λ r f. inr (c, h, f))) p u k
      where
        only : Free (IsRefusedIn t.0 t.1 c) → (r : Refusal) → is_bad_pattern r ≡ false → IsRefusedFor t.0 t.1 words r → ⊥
        only free r good (inl (i, s, is)) = ok-no-err (one-spelling words (Ok c) (Err i) h s)
        only free r good (inr (d, s, f)) = free r good (subst (λ b. IsRefusedIn t.0 t.1 b r) (ok-is (one-spelling words (Ok d) (Ok c) s h)) f)

    pub step-exact : (words : List Word) → NoScript words → Exact (IsRefusedFor t.0 t.1 words) (step words) t
    step-exact words none (Ok c) u m =
        subst (λ v. Exact (IsRefusedFor t.0 t.1 words) (doing c) v) (sym (m.1 refl))
        (of-command words c (doing c) t m.0.says_so
        (doing-exact one loads whole law t c (one-text c (λ name e. none name (subst (λ b. IsCommand b words) e m.0.says_so))) (small-made words c m.0.says_so)))
    step-exact words none (Err i) u m = inl (i, m.0.says_so, refl)

    -- ---- a line

    said-quiet : (a : Answered) (v : Holding) → Quietly (ended_in a) v
    said-quiet a v = λ x u m. noted u
      where
        noted : (u : Holding) → Quietly (ask (writes (status_line a)) (on sink_refusal)) u
        noted u None w m = tt
        noted u (Some sink_error.Failed) w m = absurd (some-none m.0.fair)
        noted u (Some sink_error.NoMemory) w m = absurd (true-false m.0.fed)

    -- what is said behind a command isn't refused
    then-said : (P : Refusal → Type 0) (p : Step Answered) → Exact P p t → Exact P (bind p ended_in) t
    then-said P p h =
        then-under told (λ a v. Free P) (As P) p ended_in t
        (under-all told (λ a v. Free P) (λ a v. Exact P (ended_in a) v) (As P) (As P)
        (λ a v free. under-all told (λ b w. Unit {0}) (λ b w. Free P) (As P) (As P) (λ b w x. free) (λ r f. f) (ended_in a) v
        (sure-under told (λ b w. Unit {0}) (As P) (ended_in a) v (said-quiet a v))) (λ r f. f) p t h)

    elsewhere : (c : PlainCommand) → has_one_text c ≡ true → Exact (IsRefusedIn t.0 t.1 c) (inside c) t → Exact (IsRefusedInside t.0 t.1 c) (inside c) t
    elsewhere c o h =
        under-all told (λ a v. Free (IsRefusedIn t.0 t.1 c)) (λ a v. Free (IsRefusedInside t.0 t.1 c)) (As (IsRefusedIn t.0 t.1 c)) (As (IsRefusedInside t.0 t.1 c))
        (λ a v free r good f. only free r good f) (as-map (IsRefusedIn t.0 t.1 c) (IsRefusedInside t.0 t.1 c) (λ r f. inl f)) (inside c) t h
      where
        only : Free (IsRefusedIn t.0 t.1 c) → (r : Refusal) → is_bad_pattern r ≡ false → IsRefusedInside t.0 t.1 c r → ⊥
        only free r good (inl f) = free r good f
        only free r good (inr f) = true-false (sym o ∙ f.0)

    inside-exact : (c : PlainCommand) → ((seed size : ℕ) → c ≡ plain.make seed size → size ≤ 16000) → Exact (IsRefusedInside t.0 t.1 c) (inside c) t
    inside-exact (plain.arcs steps script args) s = elsewhere (plain.arcs steps script args) refl (doing-exact one loads whole law t (plain.arcs steps script args) refl s)
    inside-exact (plain.run branch append context steps hook data_file rcfile script args) s =
        elsewhere (plain.run branch append context steps hook data_file rcfile script args) refl (doing-exact one loads whole law t (plain.run branch append context steps hook data_file rcfile script args) refl s)
    inside-exact (plain.combine append keep data_file rcfile names) s = elsewhere (plain.combine append keep data_file rcfile names) refl (doing-exact one loads whole law t (plain.combine append keep data_file rcfile names) refl s)
    inside-exact (plain.report show fail_under data_file rcfile) s = elsewhere (plain.report show fail_under data_file rcfile) refl (doing-exact one loads whole law t (plain.report show fail_under data_file rcfile) refl s)
    inside-exact (plain.json name fail_under data_file rcfile) s = elsewhere (plain.json name fail_under data_file rcfile) refl (doing-exact one loads whole law t (plain.json name fail_under data_file rcfile) refl s)
    inside-exact (plain.lcov name fail_under data_file rcfile) s = elsewhere (plain.lcov name fail_under data_file rcfile) refl (doing-exact one loads whole law t (plain.lcov name fail_under data_file rcfile) refl s)
    inside-exact (plain.annotate data_file rcfile file) s = elsewhere (plain.annotate data_file rcfile file) refl (doing-exact one loads whole law t (plain.annotate data_file rcfile file) refl s)
    inside-exact (plain.erase data_file rcfile) s = elsewhere (plain.erase data_file rcfile) refl (doing-exact one loads whole law t (plain.erase data_file rcfile) refl s)
    inside-exact (plain.script file) s = inr (refl, refl)
    inside-exact (plain.make seed size) s = elsewhere (plain.make seed size) refl (doing-exact one loads whole law t (plain.make seed size) refl s)
    inside-exact (plain.suite branch steps data_file rcfile file) s = elsewhere (plain.suite branch steps data_file rcfile file) refl (doing-exact one loads whole law t (plain.suite branch steps data_file rcfile file) refl s)
    inside-exact (plain.select steps old new) s = elsewhere (plain.select steps old new) refl (doing-exact one loads whole law t (plain.select steps old new) refl s)
    inside-exact (plain.mutate steps file) s = elsewhere (plain.mutate steps file) refl (doing-exact one loads whole law t (plain.mutate steps file) refl s)

    -- the words of a line that isn't passed over
    of-words : (line : List ℕ) (w : Word) (ws : List Word) → is_comment line ≡ false → words_in line ≡ w ∷ ws → Exact (IsLineRefused t.0 t.1 line) (line_done (w ∷ ws)) t
    of-words line w ws n e (Ok c) u m =
        let spelled : IsSpelled (words_in line) (Ok c) = subst (λ z. IsSpelled z (Ok c)) (sym e) m.0.says_so in
        subst (λ v. Exact (IsLineRefused t.0 t.1 line) (bind (inside c) ended_in) v) (sym (m.1 refl))
        (then-said (IsLineRefused t.0 t.1 line) (inside c)
        (under-all told (λ a v. Free (IsRefusedInside t.0 t.1 c)) (λ a v. Free (IsLineRefused t.0 t.1 line)) (As (IsRefusedInside t.0 t.1 c)) (As (IsLineRefused t.0 t.1 line))
        (λ a v free r good f. only c spelled free r good f.2) (as-map (IsRefusedInside t.0 t.1 c) (IsLineRefused t.0 t.1 line) (λ r f. (n, (λ z. cons-nil (sym e ∙ z)), inr (c, spelled, f)))) (inside c) t
        (inside-exact c (small-made (w ∷ ws) c m.0.says_so))))
      where
        only : (c : PlainCommand) → IsSpelled (words_in line) (Ok c) → Free (IsRefusedInside t.0 t.1 c) → (r : Refusal) → is_bad_pattern r ≡ false
            → ((i : ℕ) × IsSpelled (words_in line) (Err i) × (r ≡ usage i)) ⊎ ((d : PlainCommand) × IsSpelled (words_in line) (Ok d) × IsRefusedInside t.0 t.1 d r) → ⊥
        only c h free r good (inl (i, s, is)) = ok-no-err (one-spelling (words_in line) (Ok c) (Err i) h s)
        only c h free r good (inr (d, s, f)) = free r good (subst (λ b. IsRefusedInside t.0 t.1 b r) (ok-is (one-spelling (words_in line) (Ok d) (Ok c) s h)) f)
    of-words line w ws n e (Err i) u m = (n, (λ z. cons-nil (sym e ∙ z)), inl (i, subst (λ z. IsSpelled z (Err i)) (sym e) m.0.says_so, refl))

    words-exact : (line : List ℕ) → is_comment line ≡ false → Exact (IsLineRefused t.0 t.1 line) (words_done (words_in line)) t
    words-exact line n = by (words_in line) refl
      where
        by : (ws : List Word) → words_in line ≡ ws → Exact (IsLineRefused t.0 t.1 line) (words_done ws) t
        by [] e = λ r good f. f.1 e
        by (w ∷ ws) e = of-words line w ws n e

    pub line-exact : (line : List ℕ) → Exact (IsLineRefused t.0 t.1 line) (line_step line) t
    line-exact line =
        by-either (λ a v. Free (IsLineRefused t.0 t.1 line)) (IsLineRefused t.0 t.1 line) (is_comment line) (give tt) (words_done (words_in line)) t
        (λ e r good f. true-false (sym e ∙ f.0)) (λ e. words-exact line e)
