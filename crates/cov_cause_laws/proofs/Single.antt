-- One cause refuses: a check that is met doesn't refuse, and one that isn't refuses in one way.
use Rattle.std.proofs.Common.{◌≡◌, ◌≢◌, inl, inr, ◌∙◌, ℕ, ◌≤◌, ◌<◌, true, false, not, List, [], ◌∷◌, length, Option, Some, None, Result, Ok, Err, refl, sym, ap, subst, arith}
use Rattle.std.specs.Prelude.{◌||◌}
use Rattle.std.specs.Str.{chars}
use Rattle.cov_combine.specs.Combined.{flag_of, has_both_kinds}
use Rattle.cov_config.specs.Settings.{Settings, meaning_of, no_cover, no_branch}
use Rattle.cov_data.specs.DataSet.{DataSet}
use Rattle.cov_load_laws.specs.Completeness.{HasSource}
use Rattle.cov_load_laws.specs.Loadings.{OneLoading, NotStopped}
use Rattle.cov_load_laws.specs.Readings.{OneReading}
use Rattle.cov_outside.specs.Files.{Files}
use Rattle.cov_run.specs.Loading.{most_bytes, told_by}
use Rattle.cov_run.specs.Loads.{IsUnread, faulted, starved}
use Rattle.cov_run.specs.Reading.{Reading, tree, unread, Reads}
use Rattle.cov_run.specs.Refusals.{limit_of, fault_of, refused_by, refusal_of, IsStopped}
use Rattle.cov_run.specs.Refusals as loading
use Rattle.cov_step.specs.Commands.{hook_named, usual_steps}
use Rattle.cov_step.specs.Names.{or_else}
use Rattle.cov_step.specs.Phases.{main_name, defines, own_name}
use Rattle.cov_step.specs.Testing.{tests_name}
use Rattle.cov_suite.specs.Results.{import_of}
use Rattle.cov_vault.specs.Contents.{Contents}
use Rattle.cov_vault.specs.declared.vault.Content.{Content}
use Rattle.cov_vault.specs.declared.vault.Content.TheVariants as stored
use Rattle.cov_why.specs.Answers.{Refusal, no_such_file, syntax, limit, bad_config, mixed, shelf_fault, no_memory}
use Rattle.cov_why.specs.declared.why.LimitKind.{LimitKind}
use Rattle.cov_why.specs.declared.why.LimitKind.TheVariants as limits
use Rattle.cov_why.specs.declared.why.SyntaxKind.{SyntaxKind}
use Rattle.cov_words.specs.Commands.{PlainCommand}
use Rattle.cov_words.specs.Commands as plain
use Rattle.cov_words.specs.Values.{Word}
use Rattle.py_meaning.specs.Modules.{LoadedModule}
use Rattle.py_syntax.specs.Tree.{Text, Stmts}
use Rattle.cov_complete_laws.specs.Premises.{IsSettingsFile, AreSettings, AreModules, HoldAll}
use Rattle.cov_complete_laws.proofs.Holding.{none-some, some-is, true-false}
use Rattle.cov_cause_laws.specs.Checks.{Check, SourceRefuses, absent, large, unreadable, unusable, Passes, Refuses, IsFirst, AllPass}
use Rattle.cov_cause_laws.specs.Checks as check
use Rattle.cov_cause_laws.specs.Orders.{of_patterns, of_run, of_suite, of_select, of_mutate, of_combine, of_report, of_annotate}
use Rattle.cov_cause_laws.specs.Causes.{settings_name, AreRefused, BySettings, IsRefusedIn, is_bad_pattern}
use Rattle.cov_cause_laws.specs.Causes as causes

-- ---- small facts

ok-is : {A R : Type 0} {a b : A} → ◌≡◌ {A = Result A R} (Ok a) (Ok b) → a ≡ b
ok-is e = cc

err-is : {A R : Type 0} {a b : R} → ◌≡◌ {A = Result A R} (Err a) (Err b) → a ≡ b
err-is e = cc

ok-err : {A R : Type 0} {a : A} {r : R} → ◌≡◌ {A = Result A R} (Ok a) (Err r) → ⊥
ok-err e = cc

good-is : {d e : DataSet} → ◌≡◌ {A = Option Content} (Some (stored.Good d)) (Some (stored.Good e)) → d ≡ e
good-is e = cc

tree-unread : {m : Stmts} → tree m ≡ unread → ⊥
tree-unread e = cc

-- sizes that can't both be
apart : (n m : ℕ) → n ≤ m → m < n → ⊥
apart n m h k = omega (arith, h, k)

-- of one file
too-large : (file : Option (List ℕ)) (a b : List ℕ) → file ≡ Some a → file ≡ Some b → length a ≤ most_bytes → most_bytes < length b → ⊥
too-large file a b e f small more = apart (length b) most_bytes (subst (λ x. length x ≤ most_bytes) (some-is (sym e ∙ f)) small) more

empty-some : (found : List Word) → found ≡ [] → 0 < length found → ⊥
empty-some [] e h = omega (arith, h)
empty-some (x ∷ xs) e h = cc

-- a refusal that is a pattern's
not-bad : (r s : Refusal) → r ≡ s → is_bad_pattern s ≡ true → is_bad_pattern r ≡ false → ⊥
not-bad r s e bad good = true-false (sym bad ∙ sym (ap is_bad_pattern e) ∙ good)

-- ---- files that aren't read on

by-neither : (r s : Refusal) → r ≡ s → (s ≡ shelf_fault → ⊥) → (s ≡ no_memory → ⊥) → IsUnread r → ⊥
by-neither _ s e a b faulted = a (sym e)
by-neither _ s e a b starved = b (sym e)

-- a refusal by a source is no want of memory, and no fault
read-on : (name : List ℕ) (passed : Option (LimitKind × ℕ)) (fault : Option (ℕ × SyntaxKind)) (r : Refusal) → refused_by name passed fault ≡ Some r → IsUnread r → ⊥
read-on name (Some p) fault r e u = by-neither r (limit p.0 p.1) (sym (some-is e)) (λ k. cc) (λ k. cc) u
read-on name None None r e u = absurd (none-some e)
read-on name None (Some f) r e u = by-neither r (syntax name f.0 f.1) (sym (some-is e)) (λ k. cc) (λ k. cc) u

refuses-read : (modules total : ℕ) (path : Text) (file : Option (List ℕ)) (r : Refusal) → loading.Refuses modules total path file r → IsUnread r → ⊥
refuses-read modules total path file r (loading.absent e is) u = by-neither r _ is (λ k. cc) (λ k. cc) u
refuses-read modules total path file r (loading.crowded bytes e more is) u = by-neither r _ is (λ k. cc) (λ k. cc) u
refuses-read modules total path file r (loading.large bytes next more is) u = by-neither r _ is (λ k. cc) (λ k. cc) u
refuses-read modules total path file r (loading.heavy bytes next small more is) u = by-neither r _ is (λ k. cc) (λ k. cc) u
refuses-read modules total path file r (loading.unreadable bytes reading room read e) u = read-on _ (limit_of reading) (fault_of reading) r e u

-- ---- sources

module _ (one : OneReading) where
  refused-reading : (path : Word) (reading : Reading) (r : Refusal) → refusal_of path reading ≡ Some r → reading ≢ unread
  refused-reading path reading r e same = none-some (sym (ap (refusal_of path) same) ∙ e)

  same-reading : (path : Word) (a b : List ℕ) (x y : Reading) (r s : Refusal) → a ≡ b → Reads a x → Reads b y → refusal_of path x ≡ Some r → refusal_of path y ≡ Some s → r ≡ s
  same-reading path a b x y r s same h k e f =
      let is = one b x y (refused-reading path x r e) (refused-reading path y s f) (subst (λ c. Reads c x) same h) k in
      some-is (sym e ∙ ap (refusal_of path) is ∙ f)

  one-source : (path : Word) (file : Option (List ℕ)) (r s : Refusal) → SourceRefuses path file r → SourceRefuses path file s → r ≡ s
  one-source path file r s (absent e is) (absent f so) = is ∙ sym so
  one-source path file r s (absent e is) (large b f more so) = absurd (none-some (sym e ∙ f))
  one-source path file r s (absent e is) (unreadable b y f small k so) = absurd (none-some (sym e ∙ f))
  one-source path file r s (large a e less is) (absent f so) = absurd (none-some (sym f ∙ e))
  one-source path file r s (large a e less is) (large b f more so) = is ∙ sym so
  one-source path file r s (large a e less is) (unreadable b y f small k so) = absurd (too-large file b a f e small less)
  one-source path file r s (unreadable a x e small h is) (absent f so) = absurd (none-some (sym f ∙ e))
  one-source path file r s (unreadable a x e small h is) (large b f more so) = absurd (too-large file a b e f small more)
  one-source path file r s (unreadable a x e small h is) (unreadable b y f little k so) = same-reading path a b x y r s (some-is (sym e ∙ f)) h k is so

  read-source : (path : Word) (file : Option (List ℕ)) (r : Refusal) → HasSource file → SourceRefuses path file r → ⊥
  read-source path file r h (absent e is) = none-some (sym e ∙ h.there)
  read-source path file r h (large b f more is) = too-large file h.bytes b h.there f h.small more
  read-source path file r h (unreadable b y f small k so) =
      let is : y ≡ tree h.body = one b y (tree h.body) (refused-reading path y r so) (λ e. tree-unread e) k (subst (λ c. Reads c (tree h.body)) (some-is (sym h.there ∙ f)) h.read) in
      none-some (sym (ap (refusal_of path) is) ∙ so)

-- ---- data

one-held : (contents : Contents) (names : List Word) (ds es : List DataSet) → HoldAll contents names ds → HoldAll contents names es → ds ≡ es
one-held contents [] [] [] h k = refl
one-held contents [] [] (e ∷ es) h k = absurd k
one-held contents [] (d ∷ ds) es h k = absurd h
one-held contents (n ∷ ns) [] es h k = absurd h
one-held contents (n ∷ ns) (d ∷ ds) [] h k = absurd k
one-held contents (n ∷ ns) (d ∷ ds) (e ∷ es) h k = ap (λ x. x ∷ ds) (good-is (sym h.0 ∙ k.0)) ∙ ap (λ xs. e ∷ xs) (one-held contents ns ds es h.1 k.1)

-- ---- checks

module _ (one : OneReading) (loads : OneLoading) (whole : NotStopped) (files : Files) (contents : Contents) where
  same-modules : (name : Text) (script : Word) (ms ns : List LoadedModule) → AreModules files name script ms → AreModules files name script ns → ms ≡ ns
  same-modules name script ms ns h k = ok-is (loads (told_by files (chars script)) (chars script) name (Ok ms) (Ok ns) (λ x. x) (λ x. x) h k)

  one-stop : (name : Text) (script : Word) (r s : Refusal) → IsStopped (told_by files (chars script)) (chars script) name r → IsStopped (told_by files (chars script)) (chars script) name s → r ≡ s
  one-stop name script r s h k =
      err-is (loads (told_by files (chars script)) (chars script) name (Err r) (Err s) (refuses-read _ _ _ _ r h.refuses) (refuses-read _ _ _ _ s k.refuses) (inl h) (inl k))

  -- a check that is met doesn't refuse
  met-refuses : (c : Check) (r : Refusal) → is_bad_pattern r ≡ false → Passes files contents c → Refuses files contents c r → ⊥
  met-refuses (check.few texts) r good p h = apart (length texts) _ p h.0
  met-refuses (check.short texts) r good p h = none-some (sym p ∙ h.1)
  met-refuses (check.readable texts) r good p h = not-bad r _ h.2 refl good
  met-refuses (check.program name script) r good p h = whole (told_by files (chars script)) (chars script) name p.0 r p.1 h
  met-refuses (check.function script name) r good p h =
      true-false (sym p.2 ∙ ap (λ ms. defines ms (chars name)) (same-modules main_name script p.0 h.0 p.1 h.1) ∙ h.2)
  met-refuses (check.source path) r good p h = read-source one path (files path) r p h
  met-refuses (check.replaceable name) r good p h = p h.0
  met-refuses (check.needed name) r good p h = none-some (sym (ap (unusable name) p.1) ∙ h)
  met-refuses (check.joinable name arcs) r good p h = none-some (sym p ∙ h)
  met-refuses (check.some_of name found) r good p h = empty-some found h.0 p
  met-refuses (check.one_kind names) r good p h =
      true-false (sym h.2 ∙ ap has_both_kinds (one-held contents names h.0 p.0 h.1 p.1) ∙ p.2)
  met-refuses (check.imports file budget) r good p h =
      h.2 (sym (ap (λ ms. (import_of ms budget).outcome) (same-modules tests_name file p.0 h.0 p.1 h.1)) ∙ p.2)

  -- and one that isn't refuses in one way
  one-refuses : (c : Check) (r s : Refusal) → is_bad_pattern r ≡ false → Refuses files contents c r → Refuses files contents c s → r ≡ s
  one-refuses (check.few texts) r s good h k = h.1 ∙ sym k.1
  one-refuses (check.short texts) r s good h k = h.2 ∙ ap (λ text. limit limits.PatternBytes (length text)) (some-is (sym h.1 ∙ k.1)) ∙ sym k.2
  one-refuses (check.readable texts) r s good h k = absurd (not-bad r _ h.2 refl good)
  one-refuses (check.program name script) r s good h k = one-stop name script r s h k
  one-refuses (check.function script name) r s good h k = h.3 ∙ sym k.3
  one-refuses (check.source path) r s good h k = one-source one path (files path) r s h k
  one-refuses (check.replaceable name) r s good h k = h.1 ∙ sym k.1
  one-refuses (check.needed name) r s good h k = some-is (sym h ∙ k)
  one-refuses (check.joinable name arcs) r s good h k = some-is (sym h ∙ k)
  one-refuses (check.some_of name found) r s good h k = h.1 ∙ sym k.1
  one-refuses (check.one_kind names) r s good h k =
      h.3 ∙ ap (λ ds. mixed (flag_of ds) (not (flag_of ds))) (one-held contents names h.0 k.0 h.1 k.1) ∙ sym k.3
  one-refuses (check.imports file budget) r s good h k = h.3 ∙ sym k.3

  all-first : (ks : List Check) (r : Refusal) → is_bad_pattern r ≡ false → AllPass files contents ks → IsFirst files contents ks r → ⊥
  all-first [] r good all h = h
  all-first (k ∷ ks) r good all (inl h) = met-refuses k r good all.0 h
  all-first (k ∷ ks) r good all (inr (p, h)) = all-first ks r good all.1 h

  one-first : (ks : List Check) (r s : Refusal) → is_bad_pattern r ≡ false → is_bad_pattern s ≡ false → IsFirst files contents ks r → IsFirst files contents ks s → r ≡ s
  one-first [] r s good fine h k = absurd h
  one-first (c ∷ cs) r s good fine (inl h) (inl k) = one-refuses c r s good h k
  one-first (c ∷ cs) r s good fine (inl h) (inr (p, k)) = absurd (met-refuses c r good p h)
  one-first (c ∷ cs) r s good fine (inr (p, h)) (inl k) = absurd (met-refuses c s fine p k)
  one-first (c ∷ cs) r s good fine (inr (p, h)) (inr (q, k)) = one-first cs r s good fine h k

  -- ---- settings

  file-there : (rcfile : Option Word) (name bytes : List ℕ) → IsSettingsFile files rcfile bytes → rcfile ≡ Some name → files name ≡ None → ⊥
  file-there None name bytes h is e = none-some is
  file-there (Some n) name bytes h is e = none-some (sym e ∙ sym (ap files (some-is is)) ∙ h.there)

  file-small : (rcfile : Option Word) (a b : List ℕ) → IsSettingsFile files rcfile a → files (settings_name rcfile) ≡ Some b → most_bytes < length b → ⊥
  file-small None a b (inl h) e more = too-large _ a b h.there e h.small more
  file-small None a b (inr h) e more = none-some (sym h.0 ∙ e)
  file-small (Some n) a b h e more = too-large _ a b h.there e h.small more

  one-file : (rcfile : Option Word) (a b : List ℕ) → IsSettingsFile files rcfile a → IsSettingsFile files rcfile b → a ≡ b
  one-file None a b (inl h) (inl k) = some-is (sym h.there ∙ k.there)
  one-file None a b (inl h) (inr k) = absurd (none-some (sym k.0 ∙ h.there))
  one-file None a b (inr h) (inl k) = absurd (none-some (sym h.0 ∙ k.there))
  one-file None a b (inr h) (inr k) = h.1 ∙ sym k.1
  one-file (Some n) a b h k = some-is (sym h.there ∙ k.there)

  absent-large : (rcfile : Option Word) (name b : List ℕ) → rcfile ≡ Some name → files name ≡ None → files (settings_name rcfile) ≡ Some b → ⊥
  absent-large rcfile name b is e f = none-some (sym e ∙ sym (ap (λ o. files (settings_name o)) is) ∙ f)

  one-settings : (rcfile : Option Word) (s z : Settings) → AreSettings files rcfile s → AreSettings files rcfile z → s ≡ z
  one-settings rcfile s z h k = ok-is (sym h.formed ∙ ap meaning_of (one-file rcfile h.bytes k.bytes h.file k.file) ∙ k.formed)

  set-refused : (rcfile : Option Word) (s : Settings) (r : Refusal) → AreSettings files rcfile s → AreRefused files rcfile r → ⊥
  set-refused rcfile s r h (causes.absent name is e so) = file-there rcfile name h.bytes h.file is e
  set-refused rcfile s r h (causes.large b e more so) = file-small rcfile h.bytes b h.file e more
  set-refused rcfile s r h (causes.bad b key f e so) = ok-err (sym h.formed ∙ ap meaning_of (one-file rcfile h.bytes b h.file f) ∙ e)

  one-refused : (rcfile : Option Word) (r s : Refusal) → AreRefused files rcfile r → AreRefused files rcfile s → r ≡ s
  one-refused rcfile r s (causes.absent name is e so) (causes.absent other was f too) = so ∙ ap no_such_file (some-is (sym is ∙ was)) ∙ sym too
  one-refused rcfile r s (causes.absent name is e so) (causes.large b f more too) = absurd (absent-large rcfile name b is e f)
  one-refused rcfile r s (causes.absent name is e so) (causes.bad b key f g too) = absurd (file-there rcfile name b f is e)
  one-refused rcfile r s (causes.large a e less so) (causes.absent name is f too) = absurd (absent-large rcfile name a is f e)
  one-refused rcfile r s (causes.large a e less so) (causes.large b f more too) = so ∙ sym too
  one-refused rcfile r s (causes.large a e less so) (causes.bad b key f g too) = absurd (file-small rcfile b a f e less)
  one-refused rcfile r s (causes.bad a key f g so) (causes.absent name is e too) = absurd (file-there rcfile name a f is e)
  one-refused rcfile r s (causes.bad a key f g so) (causes.large b e more too) = absurd (file-small rcfile a b f e more)
  one-refused rcfile r s (causes.bad a key f g so) (causes.bad b other h k too) = so ∙ ap bad_config (err-is (sym g ∙ ap meaning_of (one-file rcfile a b f h) ∙ k)) ∙ sym too

  one-by : (rcfile : Option Word) (ks : Settings → List Check) (r s : Refusal) → is_bad_pattern r ≡ false → is_bad_pattern s ≡ false → BySettings files contents rcfile ks r → BySettings files contents rcfile ks s → r ≡ s
  one-by rcfile ks r s good fine (inl h) (inl k) = one-refused rcfile r s h k
  one-by rcfile ks r s good fine (inl h) (inr (z, set, k)) = absurd (set-refused rcfile z r set h)
  one-by rcfile ks r s good fine (inr (z, set, h)) (inl k) = absurd (set-refused rcfile z s set k)
  one-by rcfile ks r s good fine (inr (y, was, h)) (inr (z, set, k)) =
      one-first (ks z) r s good fine (subst (λ x. IsFirst files contents (ks x) r) (one-settings rcfile y z was set) h) k

  pub met-by : (rcfile : Option Word) (ks : Settings → List Check) (s : Settings) (r : Refusal) → is_bad_pattern r ≡ false → AreSettings files rcfile s → AllPass files contents (ks s) → BySettings files contents rcfile ks r → ⊥
  met-by rcfile ks s r good set all (inl h) = set-refused rcfile s r set h
  met-by rcfile ks s r good set all (inr (z, was, h)) = all-first (ks s) r good all (subst (λ x. IsFirst files contents (ks x) r) (one-settings rcfile z s was set) h)

  pub met-first : (ks : List Check) (r : Refusal) → is_bad_pattern r ≡ false → AllPass files contents ks → IsFirst files contents ks r → ⊥
  met-first ks r good all h = all-first ks r good all h

  -- ---- commands

  pub one-cause : (c : PlainCommand) (r s : Refusal) → is_bad_pattern r ≡ false → is_bad_pattern s ≡ false → IsRefusedIn files contents c r → IsRefusedIn files contents c s → r ≡ s
  one-cause (plain.arcs budget script args) r s good fine h k = one-first (check.program main_name script ∷ []) r s good fine h k
  one-cause (plain.run branch append context budget hook data_file rcfile script args) r s good fine h k = one-by rcfile (λ s. of_run append (own_name data_file s) (branch || s.run.branch) (hook_named hook s.run.hook) script) r s good fine h k
  one-cause (plain.combine append keep data_file rcfile names) r s good fine h k = one-by rcfile (λ s. of_combine append contents (own_name data_file s) names) r s good fine h k
  one-cause (plain.report show_missing fail_under data_file rcfile) r s good fine h k = one-by rcfile (λ s. of_report s.report contents (own_name data_file s)) r s good fine h k
  one-cause (plain.json name fail_under data_file rcfile) r s good fine h k = one-by rcfile (λ s. of_report s.report contents (own_name data_file s)) r s good fine h k
  one-cause (plain.lcov name fail_under data_file rcfile) r s good fine h k = one-by rcfile (λ s. of_report s.report contents (own_name data_file s)) r s good fine h k
  one-cause (plain.annotate data_file rcfile file) r s good fine h k = one-by rcfile (λ s. of_annotate s.report (own_name data_file s) file) r s good fine h k
  one-cause (plain.erase data_file rcfile) r s good fine h k = one-by rcfile (λ s. []) r s good fine h k
  one-cause (plain.script file) r s good fine h k = absurd h
  one-cause (plain.make seed size) r s good fine h k = one-first (of_patterns (no_cover ∷ []) (no_branch ∷ [])) r s good fine h k
  one-cause (plain.suite branch budget data_file rcfile file) r s good fine h k = one-by rcfile (λ s. of_suite (own_name data_file s) file (or_else budget s.run.budget)) r s good fine h k
  one-cause (plain.select budget old new) r s good fine h k = one-first (of_select old new (or_else budget usual_steps)) r s good fine h k
  one-cause (plain.mutate budget file) r s good fine h k = one-first (of_mutate file (or_else budget usual_steps)) r s good fine h k
