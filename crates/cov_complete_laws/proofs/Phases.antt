-- The parts that commands share aren't refused, where what they need is there.
use Rattle.std.proofs.Common.{◌≡◌, ◌⊎◌, inl, inr, ℕ, ◌≤◌, ◌<◌, nat_le, Bool, true, false, if◌then◌else◌, not, List, [], ◌∷◌, ◌++◌, filter, length, Option, Some, None, Result, Ok, Err, refl, sym, ap, subst, ◌∙◌, arith}
use Rattle.std.specs.Prelude.{slice_get, IsSomeAnd, codes}
use Rattle.std.specs.Bool.{beq}
use Rattle.std.specs.FinMap.{get, keys}
use Rattle.std.specs.List.{All}
use Rattle.std.specs.Str.{bytes_eq, chars}
use Rattle.std.proofs.lemmas.Bool.{le-leb}
use Rattle.std.proofs.lemmas.List.Elements.{All-head, All-tail, All-append, All-get_or}
use Rattle.std.proofs.lemmas.Option.{get_or_from_slice_get, slice_get_within}
use Rattle.cov_combine.specs.Combined.{flag_of, has_both_kinds}
use Rattle.cov_config.specs.Settings.{Settings, meaning_of}
use Rattle.cov_data.specs.DataSet.{DataSet}
use Rattle.cov_exclude.specs.Texts.{IsPatternText, IsNoPattern}
use Rattle.cov_exclude.specs.declared.patterns.PatternError.TheVariants as pattern_error
use Rattle.cov_load_laws.specs.Completeness.{Completes, HasSource}
use Rattle.cov_load_laws.specs.Readings.{OneReading}
use Rattle.cov_outside.specs.declared.shelf.ShelfError.TheVariants as shelf_error
use Rattle.cov_outside.specs.declared.sink.SinkError.TheVariants as sink_error
use Rattle.cov_programs.specs.Programs.{give, ask, bind, each}
use Rattle.cov_run.specs.Loading.{told_by}
use Rattle.cov_run.specs.Loads.{Loading, IsUnread, faulted, starved}
use Rattle.cov_run.specs.Reading.{Reading, tree, unread, Reads}
use Rattle.cov_step.specs.Answers.{given_or, Before, nothing, there, bad_row, pattern_refusal, on, sink_refusal, shelf_refusal, last, run_refusal, tree_of}
use Rattle.cov_step.specs.Calls.{checks, puts, makes, writes, crosses, measures, tries, tests, selects, judges, Answered, Asked, HookFiles, PlainSource, Patterns, Ran, TestsAsked, TestResult, Selection, Judged, came, not_imported, Step, refuse}
use Rattle.cov_step.specs.Making.{ran_if_any}
use Rattle.cov_step.specs.Calls as calls
use Rattle.cov_step.specs.Testing.{came_or}
use Rattle.cov_suite.specs.Results.{import_of}
use Rattle.py_builtins.specs.Outcomes.{finished}
use Rattle.cov_step.specs.Phases.{file, needed, before, main_name, opened, settings_file, settings, most_patterns, most_pattern_bytes, always, few, short, patterns_by, source, defines, hook_in, hook_of, joins, inputs, is_part_of, has_own, own_input, some_input, same_kind, saving, removing, removing_all, some_path, reported_paths, write_last, put_last, save_last, remove_last}
use Rattle.cov_step.specs.Promises.{blame_of, reading_hungry, refusal_hungry}
use Rattle.cov_vault.specs.declared.vault.Content.{Content}
use Rattle.cov_vault.specs.declared.vault.Content.TheVariants as stored
use Rattle.cov_vault.specs.declared.vault.VaultError.TheVariants as vault_error
use Rattle.cov_why.specs.Answers.{Refusal, no_such_file, limit, bad_config, mixed, no_source}
use Rattle.cov_why.specs.declared.why.LimitKind.TheVariants as limits
use Rattle.cov_words.specs.Values.{Word}
use Rattle.py_builtins.specs.declared.fault.RunFault.TheVariants as run_fault
use Rattle.py_meaning.specs.Modules.{LoadedModule}
use Rattle.py_syntax.specs.Tree.{Text, Stmts}
use Rattle.cov_complete_laws.specs.Premises.{IsFile, IsSettingsFile, AreSettings, IsLoadable, AreModules, HasHook, Holds, IsReplaceable, CanJoin, inputs_of, HoldAll, HoldsOwn, HasPatterns, paths_reported}
use Rattle.cov_complete_laws.proofs.Sure.{Sure, then-sure, each-sure, each-fit}
use Rattle.cov_complete_laws.proofs.Holding.{Holding, told, none-some, some-none, some-is, true-false, moved}

abbrev pub Goes : {A : Type 0} → (A → Holding → Type 0) → Step A → Holding → Type 0
Goes Q p t = Sure told Q p t

-- one of two programs, by what is known of the test
pub by-test : {A : Type 0} (Q : A → Holding → Type 0) (b : Bool) (p q : Step A) (t : Holding) → b ≡ true → Goes Q p t → Goes Q (if b then p else q) t
by-test Q b p q t e h = subst (λ x. Goes Q (if x then p else q) t) (sym e) h

-- either of two programs
pub either-way : {A : Type 0} (Q : A → Holding → Type 0) (b : Bool) (p q : Step A) (t : Holding) → Goes Q p t → Goes Q q t → Goes Q (if b then p else q) t
either-way Q true p q t h g = h
either-way Q false p q t h g = g

ok-is : {A R : Type 0} {a b : A} → ◌≡◌ {A = Result A R} (Ok a) (Ok b) → a ≡ b
ok-is e = cc

ok-err : {A R : Type 0} {a : A} {r : R} → ◌≡◌ {A = Result A R} (Err r) (Ok a) → ⊥
ok-err e = cc

schema-good : {d : DataSet} → ◌≡◌ {A = Option Content} (Some stored.NotSchema7) (Some (stored.Good d)) → ⊥
schema-good e = cc

row-good : {i : ℕ} {d : DataSet} → ◌≡◌ {A = Option Content} (Some (stored.BadRow i)) (Some (stored.Good d)) → ⊥
row-good e = cc

cons-nil : {A : Type 0} {a : A} {rest : List A} → a ∷ rest ≡ [] → ⊥
cons-nil e = cc

tree-unread : {m : Stmts} → tree m ≡ unread → ⊥
tree-unread e = cc

same-flag : (a b : Bool) → b ≡ a → beq a b ≡ true
same-flag true true e = refl
same-flag false false e = refl
same-flag true false e = absurd (true-false (sym e))
same-flag false true e = absurd (true-false e)

-- of texts that are all patterns none is none
none-at : (texts : List (List ℕ)) (i : ℕ) → All IsPatternText texts → IsSomeAnd (slice_get texts i) IsNoPattern → ⊥
none-at texts i all h = by (slice_get texts i) refl h
  where
    by : (o : Option (List ℕ)) → slice_get texts i ≡ o → IsSomeAnd o IsNoPattern → ⊥
    by None e k = k
    by (Some x) e k = k (subst IsPatternText (get_or_from_slice_get texts i x x e) (All-get_or IsPatternText texts i x (slice_get_within texts i x e) all))

-- ---- files and settings

module _ (t : Holding) where
  pub file-sure : (absent : Refusal) (name : Word) (bytes : List ℕ) → IsFile t.0 name bytes → (Q : List ℕ → Holding → Type 0) → Q bytes t → Goes Q (file absent name) t
  file-sure absent name bytes h Q q (Ok b) u m = moved Q b bytes u t (some-is (sym m.0.says_so.0 ∙ h.there)) (m.1 refl) q
  file-sure absent name bytes h Q q (Err shelf_error.Absent) u m = absurd (none-some (sym m.0.says_so ∙ h.there))
  file-sure absent name bytes h Q q (Err shelf_error.TooLarge) u m =
      let same = ap length (some-is (sym m.0.says_so.1 ∙ h.there)) in
      let small = h.small in
      let more = m.0.says_so.2 in
      absurd (omega (arith, same, small, more))
  file-sure absent name bytes h Q q (Err shelf_error.Failed) u m = absurd (some-none m.0.fair)
  file-sure absent name bytes h Q q (Err shelf_error.NoMemory) u m = absurd (true-false m.0.fed)

  usual-sure : (bytes : List ℕ) → IsSettingsFile t.0 None bytes → (Q : List ℕ → Holding → Type 0) → Q bytes t → Goes Q (settings_file None) t
  usual-sure bytes (inl h) Q q (Ok b) u m = moved Q b bytes u t (some-is (sym m.0.says_so.0 ∙ h.there)) (m.1 refl) q
  usual-sure bytes (inr h) Q q (Ok b) u m = absurd (none-some (sym h.0 ∙ m.0.says_so.0))
  usual-sure bytes (inl h) Q q (Err shelf_error.Absent) u m = absurd (none-some (sym m.0.says_so ∙ h.there))
  usual-sure bytes (inr h) Q q (Err shelf_error.Absent) u m = moved Q [] bytes u t (sym h.1) (m.1 refl) q
  usual-sure bytes (inl h) Q q (Err shelf_error.TooLarge) u m =
      let same = ap length (some-is (sym m.0.says_so.1 ∙ h.there)) in
      let small = h.small in
      let more = m.0.says_so.2 in
      absurd (omega (arith, same, small, more))
  usual-sure bytes (inr h) Q q (Err shelf_error.TooLarge) u m = absurd (none-some (sym h.0 ∙ m.0.says_so.1))
  usual-sure bytes h Q q (Err shelf_error.Failed) u m = absurd (some-none m.0.fair)
  usual-sure bytes h Q q (Err shelf_error.NoMemory) u m = absurd (true-false m.0.fed)

  settings_file-sure : (rcfile : Option Word) (bytes : List ℕ) → IsSettingsFile t.0 rcfile bytes → (Q : List ℕ → Holding → Type 0) → Q bytes t → Goes Q (settings_file rcfile) t
  settings_file-sure (Some name) bytes h Q q = file-sure (no_such_file name) name bytes h Q q
  settings_file-sure None bytes h Q q = usual-sure bytes h Q q

  formed-sure : (m : Result Settings (List ℕ)) (s : Settings) → m ≡ Ok s → (Q : Settings → Holding → Type 0) → Q s t → Goes Q (given_or bad_config m) t
  formed-sure (Ok s) r e Q q = subst (λ x. Q x t) (sym (ok-is e)) q
  formed-sure (Err key) r e Q q = absurd (ok-err e)

  pub settings-sure : (rcfile : Option Word) (s : Settings) → AreSettings t.0 rcfile s → (Q : Settings → Holding → Type 0) → Q s t → Goes Q (settings rcfile) t
  settings-sure rcfile s h Q q =
      then-sure told Q (settings_file rcfile) (λ bytes. given_or bad_config (meaning_of bytes)) t
      (settings_file-sure rcfile h.bytes h.file (λ bytes u. Goes Q (given_or bad_config (meaning_of bytes)) u)
      (formed-sure (meaning_of h.bytes) s h.formed Q q))

  -- ---- data

  good-is : {d e : DataSet} → ◌≡◌ {A = Option Content} (Some (stored.Good d)) (Some (stored.Good e)) → d ≡ e
  good-is e = cc

  pub needed-sure : (name : Word) (d : DataSet) → Holds t.1 name d → (Q : DataSet → Holding → Type 0) → Q d t → Goes Q (needed name) t
  needed-sure name d h Q q (Ok e) u m = moved Q e d u t (good-is (sym m.0.says_so ∙ h)) (m.1 refl) q
  needed-sure name d h Q q (Err vault_error.Absent) u m = absurd (none-some (sym m.0.says_so ∙ h))
  needed-sure name d h Q q (Err vault_error.NotSchema7) u m = absurd (schema-good (sym m.0.says_so ∙ h))
  needed-sure name d h Q q (Err (vault_error.BadRow i)) u m = absurd (row-good (sym m.0.says_so ∙ h))
  needed-sure name d h Q q (Err vault_error.Failed) u m = absurd (some-none m.0.fair)
  needed-sure name d h Q q (Err vault_error.NoMemory) u m = absurd (true-false m.0.fed)

  -- what stands under a name, as it was answered
  abbrev pub Stands : Word → Before → Type 0
  Stands name nothing = get t.1 name ≡ None
  Stands name (there d) = Holds t.1 name d
  Stands name (bad_row i) = get t.1 name ≡ Some (stored.BadRow i)

  pub before-sure : (name : Word) → IsReplaceable t.1 name → (Q : Before → Holding → Type 0) → ((was : Before) → Stands name was → Q was t) → Goes Q (before name) t
  before-sure name h Q q (Ok d) u m = moved Q (there d) (there d) u t refl (m.1 refl) (q (there d) m.0.says_so)
  before-sure name h Q q (Err vault_error.Absent) u m = moved Q nothing nothing u t refl (m.1 refl) (q nothing m.0.says_so)
  before-sure name h Q q (Err vault_error.NotSchema7) u m = absurd (h m.0.says_so)
  before-sure name h Q q (Err (vault_error.BadRow i)) u m = moved Q (bad_row i) (bad_row i) u t refl (m.1 refl) (q (bad_row i) m.0.says_so)
  before-sure name h Q q (Err vault_error.Failed) u m = absurd (some-none m.0.fair)
  before-sure name h Q q (Err vault_error.NoMemory) u m = absurd (true-false m.0.fed)

  pub joins-sure : (append : Bool) (name : Word) (arcs : Bool) (was : Before) → CanJoin append t.1 name arcs → Stands name was → (Q : Option DataSet → Holding → Type 0) → ((old : Option DataSet) → Q old t) → Goes Q (joins append name arcs was) t
  joins-sure false name arcs was h s Q q = q None
  joins-sure true name arcs nothing h s Q q = q None
  joins-sure true name arcs (there d) h s Q q = by-test Q (beq arcs d.arcs) (give (Some d)) (refuse (mixed arcs d.arcs)) t (same-flag arcs d.arcs (h.one_kind d s)) (q (Some d))
  joins-sure true name arcs (bad_row i) h s Q q = absurd (h.in_range i s)

  -- ---- what is combined

  found-sure : (own : Word) (Q : List Word → Holding → Type 0) → Q (inputs_of t.1 own []) t → Goes Q (inputs own []) t
  found-sure own Q q (Ok found) u m = moved Q (filter (is_part_of own) found) (filter (is_part_of own) (keys t.1)) u t (ap (filter (is_part_of own)) m.0.says_so) (m.1 refl) q
  found-sure own Q q (Err vault_error.Absent) u m = absurd m.0.says_so
  found-sure own Q q (Err vault_error.NotSchema7) u m = absurd m.0.says_so
  found-sure own Q q (Err (vault_error.BadRow i)) u m = absurd m.0.says_so
  found-sure own Q q (Err vault_error.Failed) u m = absurd (some-none m.0.fair)
  found-sure own Q q (Err vault_error.NoMemory) u m = absurd (true-false m.0.fed)

  pub inputs-sure : (own : Word) (named : List Word) → (Q : List Word → Holding → Type 0) → Q (inputs_of t.1 own named) t → Goes Q (inputs own named) t
  inputs-sure own (n ∷ ns) Q q = q
  inputs-sure own [] Q q = found-sure own Q q

  none-first : (first : List DataSet) → first ≡ [] → 0 < length (first ++ []) → ⊥
  none-first [] e h = omega (arith, h)
  none-first (d ∷ ds) e h = cons-nil e

  pub some-sure : (append : Bool) (own : Word) (was : Before) (others : List Word) (first rest : List DataSet) → HoldsOwn append t.1 own first → Stands own was → HoldAll t.1 others rest → 0 < length (first ++ rest)
      → (Q : Unit {0} → Holding → Type 0) → Q tt t → Goes Q (some_input own (has_own append was) others) t
  some-sure append own was (n ∷ ns) first rest h s k some Q q = q
  some-sure false own was [] first [] h s k some Q q = absurd (none-first first h some)
  some-sure true own nothing [] first [] (inl h) s k some Q q = absurd (none-some (sym s ∙ h.1))
  some-sure true own (there d) [] first [] (inl h) s k some Q q = q
  some-sure true own (bad_row i) [] first [] (inl h) s k some Q q = q
  some-sure true own was [] first [] (inr h) s k some Q q = absurd (none-first first h.1 some)
  some-sure append own was [] first (d ∷ ds) h s k some Q q = absurd k

  pub own-sure : (append : Bool) (own : Word) (was : Before) (first : List DataSet) → HoldsOwn append t.1 own first → Stands own was → (Q : List DataSet → Holding → Type 0) → Q first t → Goes Q (own_input append own was) t
  own-sure false own was first h s Q q = subst (λ ds. Q ds t) h q
  own-sure true own nothing first (inl h) s Q q = absurd (none-some (sym s ∙ h.1))
  own-sure true own nothing first (inr h) s Q q = subst (λ ds. Q ds t) h.1 q
  own-sure true own (there d) first (inl h) s Q q = subst (λ ds. Q ds t) (h.2 ∙ ap (λ e. e ∷ []) (good-is (sym h.1 ∙ s))) q
  own-sure true own (there d) first (inr h) s Q q = absurd (none-some (sym h.0 ∙ s))
  own-sure true own (bad_row i) first (inl h) s Q q = absurd (row-good (sym s ∙ h.1))
  own-sure true own (bad_row i) first (inr h) s Q q = absurd (none-some (sym h.0 ∙ s))

  pub all-needed : (names : List Word) (ds : List DataSet) → HoldAll t.1 names ds → (Q : List DataSet → Holding → Type 0) → Q ds t → Goes Q (each needed names) t
  all-needed [] [] h Q q = q
  all-needed [] (d ∷ ds) h Q q = absurd h
  all-needed (n ∷ ns) [] h Q q = absurd h
  all-needed (n ∷ ns) (d ∷ ds) h Q q =
      then-sure told Q (needed n) (λ b. bind (each needed ns) (λ more. give (b ∷ more))) t
      (needed-sure n d h.0 (λ b u. Goes Q (bind (each needed ns) (λ more. give (b ∷ more))) u)
      (then-sure told Q (each needed ns) (λ more. give (d ∷ more)) t (all-needed ns ds h.1 (λ more u. Q (d ∷ more) u) q)))

  pub kind-sure : (ds : List DataSet) → has_both_kinds ds ≡ false → (Q : List DataSet → Holding → Type 0) → Q ds t → Goes Q (same_kind ds) t
  kind-sure ds e Q q = subst (λ b. Goes Q (if b then refuse (mixed (flag_of ds) (not (flag_of ds))) else give ds) t) (sym e) q

  -- ---- patterns

  few-sure : (texts : List (List ℕ)) → length texts ≤ most_patterns → (Q : Unit {0} → Holding → Type 0) → Q tt t → Goes Q (few texts) t
  few-sure texts h Q q = by-test Q (nat_le (length texts) most_patterns) (give tt) (refuse (limit limits.Patterns (length texts))) t (le-leb (length texts) most_patterns h) q

  short-sure : (texts : List (List ℕ)) → All (λ text. length text ≤ most_pattern_bytes) texts → (Q : Unit {0} → Holding → Type 0) → Q tt t → Goes Q (short texts) t
  short-sure [] h Q q = q
  short-sure (text ∷ texts) h Q q =
      by-test Q (nat_le (length text) most_pattern_bytes) (short texts) (refuse (limit limits.PatternBytes (length text))) t
      (le-leb (length text) most_pattern_bytes (All-head (λ x. length x ≤ most_pattern_bytes) text texts h))
      (short-sure texts (All-tail (λ x. length x ≤ most_pattern_bytes) text texts h) Q q)

  makes-sure : (n : ℕ) (texts : List (List ℕ)) → All IsPatternText texts → (Q : Unit {0} → Holding → Type 0) → Q tt t → Goes Q (ask (makes texts) (on (pattern_refusal n))) t
  makes-sure n texts h Q q None u m = moved Q tt tt u t refl (m.1 refl) q
  makes-sure n texts h Q q (Some (pattern_error.BadPattern i)) u m = absurd (none-at texts i h (m.0.says_so i refl))
  makes-sure n texts h Q q (Some (pattern_error.PatternSize i)) u m = absurd (some-none m.0.fair)
  makes-sure n texts h Q q (Some pattern_error.NoMemory) u m = absurd (true-false m.0.fed)

  pub patterns-sure : (exclude partial : List (List ℕ)) → HasPatterns exclude partial → (Q : Patterns → Holding → Type 0) → ((p : Patterns) → Q p t) → Goes Q (patterns_by exclude partial) t
  patterns-sure exclude partial h Q q =
      then-sure told Q (few exclude) _ t (few-sure exclude h.excluding.few _
      (then-sure told Q (few partial) _ t (few-sure partial h.freeing.few _
      (then-sure told Q (short exclude) _ t (short-sure exclude h.excluding.short _
      (then-sure told Q (short partial) _ t (short-sure partial h.freeing.short _
      (then-sure told Q (ask (makes exclude) (on (pattern_refusal 0))) _ t (makes-sure 0 exclude h.excluding.read _
      (then-sure told Q (ask (makes (partial ++ always)) (on (pattern_refusal (length exclude)))) (λ f. give (record { exclude = exclude; partial = partial ++ always })) t
      (makes-sure (length exclude) (partial ++ always) (All-append IsPatternText partial always h.freeing.read h.always_read) (λ f u. Q (record { exclude = exclude; partial = partial ++ always }) u)
      (q (record { exclude = exclude; partial = partial ++ always })))))))))))))

  -- ---- what is reported

  path-sure : (name : Word) (ps : List Word) → 0 < length ps → (Q : List Word → Holding → Type 0) → Q ps t → Goes Q (some_path name ps) t
  path-sure name [] h Q q = absurd (omega (arith, h))
  path-sure name (p ∷ ps) h Q q = q

  pub paths-sure : (name : Word) (omit : List Text) (d : DataSet) → 0 < length (paths_reported omit d) → (Q : List Word → Holding → Type 0) → Q (paths_reported omit d) t → Goes Q (reported_paths name omit d) t
  paths-sure name omit d h Q q = path-sure name (paths_reported omit d) h Q q

  -- ---- runs

  pub crosses-sure : (ms : List LoadedModule) (words : List Text) (n : ℕ) → (Q : Ran → Holding → Type 0) → ((r : Ran) → Q r t) → Goes Q (ask (crosses ms words n) (given_or run_refusal)) t
  crosses-sure ms words n Q q (Ok r) u m = moved Q r r u t refl (m.1 refl) (q r)
  crosses-sure ms words n Q q (Err run_fault.ReadFault) u m = absurd (some-none m.0.fair)
  crosses-sure ms words n Q q (Err run_fault.WriteFault) u m = absurd (some-none m.0.fair)
  crosses-sure ms words n Q q (Err run_fault.NoMemory) u m = absurd (true-false m.0.fed)

  pub measures-sure : (asked : Asked) (ms : List LoadedModule) (hook : Option HookFiles) → (Q : Ran → Holding → Type 0) → ((r : Ran) → Q r t) → Goes Q (ask (measures asked ms hook) (given_or run_refusal)) t
  measures-sure asked ms hook Q q (Ok r) u m = moved Q r r u t refl (m.1 refl) (q r)
  measures-sure asked ms hook Q q (Err run_fault.ReadFault) u m = absurd (some-none m.0.fair)
  measures-sure asked ms hook Q q (Err run_fault.WriteFault) u m = absurd (some-none m.0.fair)
  measures-sure asked ms hook Q q (Err run_fault.NoMemory) u m = absurd (true-false m.0.fed)

  pub tries-sure : (ms : List LoadedModule) (words : List Text) (n : ℕ) → (Q : Ran → Holding → Type 0) → ((r : Ran) → Q r t) → Goes Q (ask (tries ms words n) ran_if_any) t
  tries-sure ms words n Q q None u m = absurd (true-false m.0.fed)
  tries-sure ms words n Q q (Some r) u m = moved Q r r u t refl (m.1 refl) (q r)

  pub tests-sure : (asked : TestsAsked) (ms : List LoadedModule) (file : Word) → (import_of ms asked.budget).outcome ≡ finished → (Q : List TestResult × DataSet → Holding → Type 0) → ((r : List TestResult × DataSet) → Q r t) → Goes Q (ask (tests asked ms) (came_or file)) t
  tests-sure asked ms file h Q q (came r) u m = moved Q r r u t refl (m.1 refl) (q r)
  tests-sure asked ms file h Q q not_imported u m = absurd (m.0.says_so h)
  tests-sure asked ms file h Q q calls.starved u m = absurd (true-false m.0.fed)

  pub selects-sure : (n : ℕ) (old new : List LoadedModule) (file : Word) → (import_of old n).outcome ≡ finished → (Q : Selection → Holding → Type 0) → ((s : Selection) → Q s t) → Goes Q (ask (selects n old new) (came_or file)) t
  selects-sure n old new file h Q q (came s) u m = moved Q s s u t refl (m.1 refl) (q s)
  selects-sure n old new file h Q q not_imported u m = absurd (m.0.says_so h)
  selects-sure n old new file h Q q calls.starved u m = absurd (true-false m.0.fed)

  pub judges-sure : (n : ℕ) (ms : List LoadedModule) (file : Word) → (import_of ms n).outcome ≡ finished → (Q : List Judged → Holding → Type 0) → ((js : List Judged) → Q js t) → Goes Q (ask (judges n ms) (came_or file)) t
  judges-sure n ms file h Q q (came js) u m = moved Q js js u t refl (m.1 refl) (q js)
  judges-sure n ms file h Q q not_imported u m = absurd (m.0.says_so h)
  judges-sure n ms file h Q q calls.starved u m = absurd (true-false m.0.fed)

  -- a text that is written on the way
  pub noting-sure : (bytes : List ℕ) → (Q : Unit {0} → Holding → Type 0) → Q tt t → Goes Q (ask (writes bytes) (on sink_refusal)) t
  noting-sure bytes Q q None u m = moved Q tt tt u t refl (m.1 refl) q
  noting-sure bytes Q q (Some sink_error.Failed) u m = absurd (some-none m.0.fair)
  noting-sure bytes Q q (Some sink_error.NoMemory) u m = absurd (true-false m.0.fed)

  -- ---- a program and a hook

  module _ (completes : Completes) where
    pub opened-sure : (name : Text) (script : Word) → IsLoadable t.0 name script → (Q : List LoadedModule → Holding → Type 0) → ((ms : List LoadedModule) → AreModules t.0 name script ms → Q ms t) → Goes Q (opened name script) t
    opened-sure name script h Q q (Ok ms) u m = moved Q ms ms u t refl (m.1 refl) (q ms m.0.says_so)
    opened-sure name script h Q q (Err r) u m =
        let all = completes (told_by t.0 (chars script)) (chars script) name h in
        absurd (cut-off r (all.2 (Err r) m.0.says_so) m.0.fed m.0.fair)
      where
        cut-off : (r : Refusal) → (◌≡◌ {A = Loading} (Err r) (Ok (completes (told_by t.0 (chars script)) (chars script) name h).0)) ⊎ IsUnread r → refusal_hungry r ≡ false → blame_of r ≡ None → ⊥
        cut-off r (inl e) fed fair = ok-err e
        cut-off r (inr faulted) fed fair = some-none fair
        cut-off r (inr starved) fed fair = true-false fed

    pub hook-sure : (hook : Option (Word × Word)) → HasHook t.0 hook → (Q : Option HookFiles → Holding → Type 0) → ((h : Option HookFiles) → Q h t) → Goes Q (hook_of hook) t
    hook-sure None h Q q = q None
    hook-sure (Some (script, function)) h Q q =
        then-sure told Q (opened main_name script) (hook_in script function) t
        (opened-sure main_name script h.loadable (λ ms u. Goes Q (hook_in script function ms) u)
        (λ ms a. by-test Q (defines ms (chars function)) _ _ t (h.defined ms a) (q _)))

  -- ---- a source

  -- where memory suffices, its bytes are read as this tree
  pub comes-sure : (path : Word) (bytes : List ℕ) (body : Stmts) → ((r : Reading) → Reads bytes r → reading_hungry r ≡ false → r ≡ tree body) → (Q : PlainSource → Holding → Type 0) → ((f : PlainSource) → Q f t) → Goes Q (ask (checks bytes) (tree_of path bytes)) t
  comes-sure path bytes body comes Q q x u m =
      let f : PlainSource = record { path = path; text = bytes; body = body } in
      subst (λ r. Goes Q (tree_of path bytes r) u) (sym (comes x m.0.says_so m.0.fed)) (moved Q f f u t refl (m.1 refl) (q f))

  module _ (one : OneReading) where
    one-tree : (bytes : List ℕ) (body : Stmts) → Reads bytes (tree body) → (r : Reading) → Reads bytes r → reading_hungry r ≡ false → r ≡ tree body
    one-tree bytes body read r h fed = one bytes r (tree body) (λ e. true-false (sym (ap reading_hungry e) ∙ fed)) (λ e. tree-unread e) h read

    pub source-sure : (path : Word) → HasSource (t.0 path) → (Q : PlainSource → Holding → Type 0) → ((f : PlainSource) → Q f t) → Goes Q (source path) t
    source-sure path h Q q =
        then-sure told Q (file (no_source path) path) (λ bytes. ask (checks bytes) (tree_of path bytes)) t
        (file-sure (no_source path) path h.bytes (record { there = h.there; small = h.small }) (λ bytes u. Goes Q (ask (checks bytes) (tree_of path bytes)) u)
        (comes-sure path h.bytes h.body (one-tree h.bytes h.body h.read) Q q))

    pub sources-sure : (paths : List Word) → All (λ path. HasSource (t.0 path)) paths → (Q : List PlainSource → Holding → Type 0) → ((fs : List PlainSource) → Q fs t) → Goes Q (each source paths) t
    sources-sure paths h Q q = each-fit told source (λ path. HasSource (t.0 path)) t (λ path k P p. source-sure path k P p) paths h Q q

-- ---- the last calls, and a save and removals after which nothing is refused

pub writing-sure : (bytes : List ℕ) (a : Answered) (t : Holding) → Goes (λ b u. Unit {0}) (write_last bytes a) t
writing-sure bytes a t None u m = tt
writing-sure bytes a t (Some sink_error.Failed) u m = absurd (some-none m.0.fair)
writing-sure bytes a t (Some sink_error.NoMemory) u m = absurd (true-false m.0.fed)

puts-sure : (name bytes : List ℕ) (a : Answered) (t : Holding) → Goes (λ b u. Unit {0}) (ask (puts name bytes) (last shelf_refusal a)) t
puts-sure name bytes a t None u m = tt
puts-sure name bytes a t (Some shelf_error.Absent) u m = absurd (some-none m.0.fair)
puts-sure name bytes a t (Some shelf_error.TooLarge) u m = absurd (some-none m.0.fair)
puts-sure name bytes a t (Some shelf_error.Failed) u m = absurd (some-none m.0.fair)
puts-sure name bytes a t (Some shelf_error.NoMemory) u m = absurd (true-false m.0.fed)

pub putting-sure : (name bytes : List ℕ) (a : Answered) (t : Holding) → Goes (λ b u. Unit {0}) (put_last name bytes a) t
putting-sure name bytes a t = either-way (λ b u. Unit {0}) (bytes_eq name (codes "-")) (write_last bytes a) (ask (puts name bytes) (last shelf_refusal a)) t (writing-sure bytes a t) (puts-sure name bytes a t)

pub last-save-sure : (name : Word) (d : DataSet) (a : Answered) (t : Holding) → IsReplaceable t.1 name → Goes (λ b u. Unit {0}) (save_last name d a) t
last-save-sure name d a t h None u m = tt
last-save-sure name d a t h (Some vault_error.Absent) u m = absurd (some-none m.0.fair)
last-save-sure name d a t h (Some vault_error.NotSchema7) u m = absurd (h (m.0.says_so.0 refl))
last-save-sure name d a t h (Some (vault_error.BadRow i)) u m = absurd (m.0.says_so.1 i refl)
last-save-sure name d a t h (Some vault_error.Failed) u m = absurd (some-none m.0.fair)
last-save-sure name d a t h (Some vault_error.NoMemory) u m = absurd (true-false m.0.fed)

pub saving-sure : (name : Word) (d : DataSet) (t : Holding) → IsReplaceable t.1 name → (Q : Unit {0} → Holding → Type 0) → ((u : Holding) → Q tt u) → Goes Q (saving name d) t
saving-sure name d t h Q q None u m = q u
saving-sure name d t h Q q (Some vault_error.Absent) u m = absurd (some-none m.0.fair)
saving-sure name d t h Q q (Some vault_error.NotSchema7) u m = absurd (h (m.0.says_so.0 refl))
saving-sure name d t h Q q (Some (vault_error.BadRow i)) u m = absurd (m.0.says_so.1 i refl)
saving-sure name d t h Q q (Some vault_error.Failed) u m = absurd (some-none m.0.fair)
saving-sure name d t h Q q (Some vault_error.NoMemory) u m = absurd (true-false m.0.fed)

pub last-removal-sure : (name : Word) (a : Answered) (t : Holding) → Goes (λ b u. Unit {0}) (remove_last name a) t
last-removal-sure name a t None u m = tt
last-removal-sure name a t (Some vault_error.Absent) u m = tt
last-removal-sure name a t (Some vault_error.NotSchema7) u m = absurd (some-none m.0.fair)
last-removal-sure name a t (Some (vault_error.BadRow i)) u m = absurd (some-none m.0.fair)
last-removal-sure name a t (Some vault_error.Failed) u m = absurd (some-none m.0.fair)
last-removal-sure name a t (Some vault_error.NoMemory) u m = absurd (true-false m.0.fed)

removing-sure : (name : Word) (Q : Unit {0} → Holding → Type 0) (t : Holding) → ((a : Unit {0}) (u : Holding) → Q a u) → Goes Q (removing name) t
removing-sure name Q t q None u m = q tt u
removing-sure name Q t q (Some vault_error.Absent) u m = q tt u
removing-sure name Q t q (Some vault_error.NotSchema7) u m = absurd (some-none m.0.fair)
removing-sure name Q t q (Some (vault_error.BadRow i)) u m = absurd (some-none m.0.fair)
removing-sure name Q t q (Some vault_error.Failed) u m = absurd (some-none m.0.fair)
removing-sure name Q t q (Some vault_error.NoMemory) u m = absurd (true-false m.0.fed)

pub removals-sure : (keep : Bool) (names : List Word) (Q : List (Unit {0}) → Holding → Type 0) (t : Holding) → ((bs : List (Unit {0})) (u : Holding) → Q bs u) → Goes Q (removing_all keep names) t
removals-sure true names Q t q = q [] t
removals-sure false names Q t q = each-sure told removing removing-sure names Q t q
