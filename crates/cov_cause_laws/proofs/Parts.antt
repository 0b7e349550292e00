-- The parts that commands share are refused only as their checks say, and where they aren't, their
-- checks are met.
use Rattle.std.proofs.Common.{◌≡◌, ◌⊎◌, inl, inr, ◌∙◌, ℕ, ◌+◌, ◌≤◌, ◌<◌, nat_le, Bool, true, false, if◌then◌else◌, not, List, [], ◌∷◌, ◌++◌, map, length, Option, Some, None, Result, Ok, Err, refl, sym, ap, subst, arith}
use Rattle.std.specs.Prelude.{slice_get, IsSomeAnd, zero, suc}
use Rattle.std.specs.Bool.{beq}
use Rattle.std.specs.FinMap.{get}
use Rattle.std.specs.List.{find}
use Rattle.std.specs.Str.{chars}
use Rattle.std.proofs.lemmas.Bool.{leb-true, leb-false}
use Rattle.cov_combine.specs.Combined.{flag_of, has_both_kinds}
use Rattle.cov_config.specs.Settings.{Settings, meaning_of}
use Rattle.cov_data.specs.DataSet.{DataSet}
use Rattle.cov_exclude.specs.Texts.{IsNoPattern}
use Rattle.cov_exclude.specs.declared.patterns.PatternError.TheVariants as pattern_error
use Rattle.cov_outside.specs.declared.shelf.ShelfError.TheVariants as shelf_error
use Rattle.cov_programs.specs.Programs.{give, ask, bind, each}
use Rattle.cov_run.specs.Loading.{most_bytes, told_by}
use Rattle.cov_run.specs.Loads.{IsUnread, faulted, starved}
use Rattle.cov_run.specs.Reading.{Reading, no_text, long, stuck, no_tree, ill_formed, tree, unread, Reads}
use Rattle.cov_run.specs.Refusals.{IsStopped}
use Rattle.cov_step.specs.Answers.{given_or, Before, nothing, there, bad_row, pattern_refusal, on, tree_of}
use Rattle.cov_step.specs.Calls.{checks, makes, HookFiles, PlainSource, Patterns, Step, refuse}
use Rattle.cov_step.specs.Phases.{file, needed, before, main_name, opened, settings_file, settings, most_patterns, most_pattern_bytes, always, few, short, patterns_by, source, defines, hook_in, hook_of, joins, same_kind, some_path}
use Rattle.cov_step.specs.Promises.{blame_of, reading_hungry, refusal_hungry}
use Rattle.cov_vault.specs.declared.vault.Content.{Content}
use Rattle.cov_vault.specs.declared.vault.Content.TheVariants as stored
use Rattle.cov_vault.specs.declared.vault.VaultError.TheVariants as vault_error
use Rattle.cov_why.specs.Answers.{Refusal, no_such_file, limit, bad_config, bad_pattern, mixed, no_source, PlainWhy}
use Rattle.cov_why.specs.declared.why.LimitKind.TheVariants as limits
use Rattle.cov_words.specs.Values.{Word}
use Rattle.py_meaning.specs.Modules.{LoadedModule}
use Rattle.py_parse.specs.declared.error.DepthKind.TheVariants as depth
use Rattle.py_parse.specs.declared.error.SyntaxError.TheVariants as syntax_error
use Rattle.py_scope.specs.declared.error.ScopeError.TheVariants as scope_error
use Rattle.py_syntax.specs.Tree.{Text}
use Rattle.py_token.specs.declared.error.TokenError.TheVariants as token_error
use Rattle.cov_complete_laws.specs.Premises.{IsFile, IsSettingsFile, AreSettings, AreModules, Holds, IsReplaceable, HoldAll}
use Rattle.cov_complete_laws.proofs.Holding.{Holding, told, none-some, some-none, true-false, moved}
use Rattle.cov_cause_laws.specs.Checks.{Check, absent, large, unreadable, is_too_long, unusable, unjoinable, Passes, Refuses, IsFirst, AllPass}
use Rattle.cov_cause_laws.specs.Checks as check
use Rattle.cov_cause_laws.specs.Causes.{AreRefused}
use Rattle.cov_cause_laws.specs.Causes as causes
use Rattle.cov_cause_laws.specs.Orders.{of_patterns, of_hook}
use Rattle.cov_cause_laws.proofs.Ways.{Under, then-under, under-all}

-- refused by a refusal of which this holds
abbrev pub As : (Refusal → Type 0) → PlainWhy → Type 0
As P (Ok ended) = ⊥
As P (Err r) = P r

pub as-map : (P Q : Refusal → Type 0) → ((r : Refusal) → P r → Q r) → (why : PlainWhy) → As P why → As Q why
as-map P Q f (Ok ended) h = absurd h
as-map P Q f (Err r) h = f r h

-- a part of a program, with what it may give and what may refuse it
abbrev pub Goes : {A : Type 0} → (A → Holding → Type 0) → (Refusal → Type 0) → Step A → Holding → Type 0
Goes Q Z p t = Under told Q (As Z) p t

-- one of two programs, by what the test says
pub by-either : {A : Type 0} (Q : A → Holding → Type 0) (Z : Refusal → Type 0) (b : Bool) (p q : Step A) (t : Holding) → (b ≡ true → Goes Q Z p t) → (b ≡ false → Goes Q Z q t) → Goes Q Z (if b then p else q) t
by-either Q Z true p q t h g = h refl
by-either Q Z false p q t h g = g refl

-- ---- files and settings

module _ (t : Holding) where
  pub file-goes : (why : Refusal) (name : Word) (Q : List ℕ → Holding → Type 0) (Z : Refusal → Type 0) → ((bytes : List ℕ) → IsFile t.0 name bytes → Q bytes t) → (t.0 name ≡ None → Z why)
      → ((bytes : List ℕ) → t.0 name ≡ Some bytes → most_bytes < length bytes → Z (limit limits.FileBytes (suc most_bytes))) → Goes Q Z (file why name) t
  file-goes why name Q Z q a l (Ok b) u m = moved Q b b u t refl (m.1 refl) (q b (record { there = m.0.says_so.0; small = m.0.says_so.1 }))
  file-goes why name Q Z q a l (Err shelf_error.Absent) u m = a m.0.says_so
  file-goes why name Q Z q a l (Err shelf_error.TooLarge) u m = l m.0.says_so.0 m.0.says_so.1 m.0.says_so.2
  file-goes why name Q Z q a l (Err shelf_error.Failed) u m = absurd (some-none m.0.fair)
  file-goes why name Q Z q a l (Err shelf_error.NoMemory) u m = absurd (true-false m.0.fed)

  usual-goes : (Q : List ℕ → Holding → Type 0) (Z : Refusal → Type 0) → ((bytes : List ℕ) → IsSettingsFile t.0 None bytes → Q bytes t) → ((r : Refusal) → AreRefused t.0 None r → Z r) → Goes Q Z (settings_file None) t
  usual-goes Q Z q z (Ok b) u m = moved Q b b u t refl (m.1 refl) (q b (inl (record { there = m.0.says_so.0; small = m.0.says_so.1 })))
  usual-goes Q Z q z (Err shelf_error.Absent) u m = moved Q [] [] u t refl (m.1 refl) (q [] (inr (m.0.says_so, refl)))
  usual-goes Q Z q z (Err shelf_error.TooLarge) u m = z (limit limits.FileBytes (suc most_bytes)) (causes.large m.0.says_so.0 m.0.says_so.1 m.0.says_so.2 refl)
  usual-goes Q Z q z (Err shelf_error.Failed) u m = absurd (some-none m.0.fair)
  usual-goes Q Z q z (Err shelf_error.NoMemory) u m = absurd (true-false m.0.fed)

  settings_file-goes : (rcfile : Option Word) (Q : List ℕ → Holding → Type 0) (Z : Refusal → Type 0) → ((bytes : List ℕ) → IsSettingsFile t.0 rcfile bytes → Q bytes t) → ((r : Refusal) → AreRefused t.0 rcfile r → Z r) → Goes Q Z (settings_file rcfile) t
  settings_file-goes (Some name) Q Z q z =
      file-goes (no_such_file name) name Q Z q (λ e. z (no_such_file name) (causes.absent name refl e refl))
      (λ bytes e more. z (limit limits.FileBytes (suc most_bytes)) (causes.large bytes e more refl))
  settings_file-goes None Q Z q z = usual-goes Q Z q z

  formed-goes : (m : Result Settings (List ℕ)) (Q : Settings → Holding → Type 0) (Z : Refusal → Type 0) → ((s : Settings) → m ≡ Ok s → Q s t) → ((key : List ℕ) → m ≡ Err key → Z (bad_config key)) → Goes Q Z (given_or bad_config m) t
  formed-goes (Ok s) Q Z q z = q s refl
  formed-goes (Err key) Q Z q z = z key refl

  pub settings-goes : (rcfile : Option Word) (Q : Settings → Holding → Type 0) (Z : Refusal → Type 0) → ((s : Settings) → AreSettings t.0 rcfile s → Q s t) → ((r : Refusal) → AreRefused t.0 rcfile r → Z r) → Goes Q Z (settings rcfile) t
  settings-goes rcfile Q Z q z =
      then-under told Q (As Z) (settings_file rcfile) (λ bytes. given_or bad_config (meaning_of bytes)) t
      (settings_file-goes rcfile (λ bytes u. Goes Q Z (given_or bad_config (meaning_of bytes)) u) Z
      (λ bytes f. formed-goes (meaning_of bytes) Q Z (λ s e. q s (record { bytes = bytes; file = f; formed = e })) (λ key e. z (bad_config key) (causes.bad bytes key f e refl))) z)

  -- ---- checks, one after another

  -- a part that is refused as a check says, and leaves this to come
  abbrev pub Checks : {A : Type 0} → Check → (A → Holding → Type 0) → Step A → Holding → Type 0
  Checks k G p u = Goes (λ a v. Passes t.0 t.1 k × G a v) (Refuses t.0 t.1 k) p u

  -- a program that is refused by the first of these checks that isn't met, and otherwise meets them all
  abbrev pub Meets : {A : Type 0} → List Check → Step A → Holding → Type 0
  Meets ks p u = Goes (λ a v. AllPass t.0 t.1 ks) (IsFirst t.0 t.1 ks) p u

  -- the same, with what comes behind it
  abbrev pub Leads : {A : Type 0} → List Check → (A → Holding → Type 0) → Step A → Holding → Type 0
  Leads ks G p u = Goes (λ a v. AllPass t.0 t.1 ks × G a v) (IsFirst t.0 t.1 ks) p u

  -- one check, and then the others
  pub then-leads : {A B : Type 0} (k : Check) (ks : List Check) (G : B → Holding → Type 0) (p : Step A) (next : A → Step B) (u : Holding) → Checks k (λ a v. Leads ks G (next a) v) p u → Leads (k ∷ ks) G (bind p next) u
  then-leads k ks G p next u h =
      then-under told (λ b v. AllPass t.0 t.1 (k ∷ ks) × G b v) (As (IsFirst t.0 t.1 (k ∷ ks))) p next u
      (under-all told (λ a v. Passes t.0 t.1 k × Leads ks G (next a) v) (λ a v. Leads (k ∷ ks) G (next a) v) (As (Refuses t.0 t.1 k)) (As (IsFirst t.0 t.1 (k ∷ ks)))
      (λ a v m. under-all told (λ b w. AllPass t.0 t.1 ks × G b w) (λ b w. AllPass t.0 t.1 (k ∷ ks) × G b w) (As (IsFirst t.0 t.1 ks)) (As (IsFirst t.0 t.1 (k ∷ ks)))
      (λ b w n. ((m.0, n.0), n.1)) (as-map (IsFirst t.0 t.1 ks) (IsFirst t.0 t.1 (k ∷ ks)) (λ r f. inr (m.0, f))) (next a) v m.1)
      (as-map (Refuses t.0 t.1 k) (IsFirst t.0 t.1 (k ∷ ks)) (λ r f. inl f)) p u h)

  first-of-both : (ks ls : List Check) (r : Refusal) → IsFirst t.0 t.1 ks r → IsFirst t.0 t.1 (ks ++ ls) r
  first-of-both [] ls r h = absurd h
  first-of-both (k ∷ ks) ls r (inl h) = inl h
  first-of-both (k ∷ ks) ls r (inr (p, h)) = inr (p, first-of-both ks ls r h)

  first-behind : (ks ls : List Check) (r : Refusal) → AllPass t.0 t.1 ks → IsFirst t.0 t.1 ls r → IsFirst t.0 t.1 (ks ++ ls) r
  first-behind [] ls r all h = h
  first-behind (k ∷ ks) ls r all h = inr (all.0, first-behind ks ls r all.1 h)

  all-of-both : (ks ls : List Check) → AllPass t.0 t.1 ks → AllPass t.0 t.1 ls → AllPass t.0 t.1 (ks ++ ls)
  all-of-both [] ls all more = more
  all-of-both (k ∷ ks) ls all more = (all.0, all-of-both ks ls all.1 more)

  -- some checks, and then others
  pub both-lead : {A B : Type 0} (ks ls : List Check) (G : B → Holding → Type 0) (p : Step A) (next : A → Step B) (u : Holding) → Leads ks (λ a v. Leads ls G (next a) v) p u → Leads (ks ++ ls) G (bind p next) u
  both-lead ks ls G p next u h =
      then-under told (λ b v. AllPass t.0 t.1 (ks ++ ls) × G b v) (As (IsFirst t.0 t.1 (ks ++ ls))) p next u
      (under-all told (λ a v. AllPass t.0 t.1 ks × Leads ls G (next a) v) (λ a v. Leads (ks ++ ls) G (next a) v) (As (IsFirst t.0 t.1 ks)) (As (IsFirst t.0 t.1 (ks ++ ls)))
      (λ a v m. under-all told (λ b w. AllPass t.0 t.1 ls × G b w) (λ b w. AllPass t.0 t.1 (ks ++ ls) × G b w) (As (IsFirst t.0 t.1 ls)) (As (IsFirst t.0 t.1 (ks ++ ls)))
      (λ b w n. (all-of-both ks ls m.0 n.0, n.1)) (as-map (IsFirst t.0 t.1 ls) (IsFirst t.0 t.1 (ks ++ ls)) (λ r f. first-behind ks ls r m.0 f)) (next a) v m.1)
      (as-map (IsFirst t.0 t.1 ks) (IsFirst t.0 t.1 (ks ++ ls)) (λ r f. first-of-both ks ls r f)) p u h)

  -- one check alone
  pub one-leads : {A : Type 0} (k : Check) (G : A → Holding → Type 0) (p : Step A) (u : Holding) → Checks k G p u → Leads (k ∷ []) G p u
  one-leads k G p u h =
      under-all told (λ a v. Passes t.0 t.1 k × G a v) (λ a v. AllPass t.0 t.1 (k ∷ []) × G a v) (As (Refuses t.0 t.1 k)) (As (IsFirst t.0 t.1 (k ∷ [])))
      (λ a v m. ((m.0, tt), m.1)) (as-map (Refuses t.0 t.1 k) (IsFirst t.0 t.1 (k ∷ [])) (λ r f. inl f)) p u h

  -- a check of each element of a list, whatever it gives
  pub each-leads : {A B : Type 0} (k : A → Check) (p : A → Step B) → ((a : A) (G : B → Holding → Type 0) → ((b : B) → G b t) → Checks (k a) G (p a) t)
      → (xs : List A) (G : List B → Holding → Type 0) → ((bs : List B) → G bs t) → Leads (map k xs) G (each p xs) t
  each-leads k p h [] G g = (tt, g [])
  each-leads {A} {B} k p h (x ∷ rest) G g =
      then-leads (k x) (map k rest) G (p x) (λ b. bind (each p rest) (λ more. give (b ∷ more))) t
      (h x (λ b v. Leads (map k rest) G (bind (each p rest) (λ more. give (b ∷ more))) v) (λ b.
      then-under told (λ bs v. AllPass t.0 t.1 (map k rest) × G bs v) (As (IsFirst t.0 t.1 (map k rest))) (each p rest) (λ more. give (b ∷ more)) t
      (each-leads k p h rest (λ more v. G (b ∷ more) v) (λ more. g (b ∷ more)))))

  -- ---- data

  schema-good : {d : DataSet} → ◌≡◌ {A = Option Content} (Some (stored.Good d)) (Some stored.NotSchema7) → ⊥
  schema-good e = cc

  schema-row : {i : ℕ} → ◌≡◌ {A = Option Content} (Some (stored.BadRow i)) (Some stored.NotSchema7) → ⊥
  schema-row e = cc

  pub needed-goes : (name : Word) (G : DataSet → Holding → Type 0) → ((d : DataSet) → Holds t.1 name d → G d t) → Checks (check.needed name) G (needed name) t
  needed-goes name G g (Ok d) u m = moved (λ a v. Passes t.0 t.1 (check.needed name) × G a v) d d u t refl (m.1 refl) ((d, m.0.says_so), g d m.0.says_so)
  needed-goes name G g (Err vault_error.Absent) u m = ap (unusable name) m.0.says_so
  needed-goes name G g (Err vault_error.NotSchema7) u m = ap (unusable name) m.0.says_so
  needed-goes name G g (Err (vault_error.BadRow i)) u m = ap (unusable name) m.0.says_so
  needed-goes name G g (Err vault_error.Failed) u m = absurd (some-none m.0.fair)
  needed-goes name G g (Err vault_error.NoMemory) u m = absurd (true-false m.0.fed)

  -- what stands under a name, as it was answered
  abbrev pub Stands : Word → Before → Type 0
  Stands name nothing = get t.1 name ≡ None
  Stands name (there d) = get t.1 name ≡ Some (stored.Good d)
  Stands name (bad_row i) = get t.1 name ≡ Some (stored.BadRow i)

  pub before-goes : (name : Word) (G : Before → Holding → Type 0) → ((was : Before) → Stands name was → IsReplaceable t.1 name → G was t) → Checks (check.replaceable name) G (before name) t
  before-goes name G g (Ok d) u m =
      let free : IsReplaceable t.1 name = λ e. schema-good (sym m.0.says_so ∙ e) in
      moved (λ a v. Passes t.0 t.1 (check.replaceable name) × G a v) (there d) (there d) u t refl (m.1 refl) (free, g (there d) m.0.says_so free)
  before-goes name G g (Err vault_error.Absent) u m =
      let free : IsReplaceable t.1 name = λ e. none-some (sym m.0.says_so ∙ e) in
      moved (λ a v. Passes t.0 t.1 (check.replaceable name) × G a v) nothing nothing u t refl (m.1 refl) (free, g nothing m.0.says_so free)
  before-goes name G g (Err vault_error.NotSchema7) u m = (m.0.says_so, refl)
  before-goes name G g (Err (vault_error.BadRow i)) u m =
      let free : IsReplaceable t.1 name = λ e. schema-row (sym m.0.says_so ∙ e) in
      moved (λ a v. Passes t.0 t.1 (check.replaceable name) × G a v) (bad_row i) (bad_row i) u t refl (m.1 refl) (free, g (bad_row i) m.0.says_so free)
  before-goes name G g (Err vault_error.Failed) u m = absurd (some-none m.0.fair)
  before-goes name G g (Err vault_error.NoMemory) u m = absurd (true-false m.0.fed)

  pub joins-goes : (name : Word) (arcs : Bool) (was : Before) (G : Option DataSet → Holding → Type 0) → Stands name was → ((old : Option DataSet) → G old t) → Checks (check.joinable name arcs) G (joins true name arcs was) t
  joins-goes name arcs nothing G s g = (ap (unjoinable name arcs) s, g None)
  joins-goes name arcs (there d) G s g =
      by-either (λ a v. Passes t.0 t.1 (check.joinable name arcs) × G a v) (Refuses t.0 t.1 (check.joinable name arcs)) (beq arcs d.arcs) (give (Some d)) (refuse (mixed arcs d.arcs)) t
      (λ e. (ap (unjoinable name arcs) s ∙ ap (λ b. if b then None else Some (mixed arcs d.arcs)) e, g (Some d)))
      (λ e. ap (unjoinable name arcs) s ∙ ap (λ b. if b then None else Some (mixed arcs d.arcs)) e)
  joins-goes name arcs (bad_row i) G s g = ap (unjoinable name arcs) s

  pub all-needed : (names : List Word) (G : List DataSet → Holding → Type 0) → ((ds : List DataSet) → HoldAll t.1 names ds → G ds t) → Leads (map check.needed names) G (each needed names) t
  all-needed [] G g = (tt, g [] tt)
  all-needed (n ∷ ns) G g =
      then-leads (check.needed n) (map check.needed ns) G (needed n) (λ b. bind (each needed ns) (λ more. give (b ∷ more))) t
      (needed-goes n (λ b v. Leads (map check.needed ns) G (bind (each needed ns) (λ more. give (b ∷ more))) v) (λ d held.
      then-under told (λ bs v. AllPass t.0 t.1 (map check.needed ns) × G bs v) (As (IsFirst t.0 t.1 (map check.needed ns))) (each needed ns) (λ more. give (d ∷ more)) t
      (all-needed ns (λ more v. G (d ∷ more) v) (λ more all. g (d ∷ more) (held, all)))))

  pub kind-goes : (names : List Word) (ds : List DataSet) (G : List DataSet → Holding → Type 0) → HoldAll t.1 names ds → G ds t → Checks (check.one_kind names) G (same_kind ds) t
  kind-goes names ds G h g =
      by-either (λ a v. Passes t.0 t.1 (check.one_kind names) × G a v) (Refuses t.0 t.1 (check.one_kind names)) (has_both_kinds ds) (refuse (mixed (flag_of ds) (not (flag_of ds)))) (give ds) t
      (λ e. (ds, h, e, refl)) (λ e. ((ds, h, e), g))

  -- ---- patterns

  pub few-goes : (texts : List (List ℕ)) (G : Unit {0} → Holding → Type 0) → G tt t → Checks (check.few texts) G (few texts) t
  few-goes texts G g =
      by-either (λ a v. Passes t.0 t.1 (check.few texts) × G a v) (Refuses t.0 t.1 (check.few texts)) (nat_le (length texts) most_patterns) (give tt) (refuse (limit limits.Patterns (length texts))) t
      (λ e. (leb-true (length texts) most_patterns e, g)) (λ e. (leb-false (length texts) most_patterns e, refl))

  found-first : (text : List ℕ) (texts : List (List ℕ)) (b : Bool) → nat_le (length text) most_pattern_bytes ≡ b → find is_too_long (text ∷ texts) ≡ (if b then find is_too_long texts else Some text)
  found-first text texts true e = ap (λ b. if not b then Some text else find is_too_long texts) e
  found-first text texts false e = ap (λ b. if not b then Some text else find is_too_long texts) e

  pub short-goes : (texts : List (List ℕ)) (G : Unit {0} → Holding → Type 0) → G tt t → Checks (check.short texts) G (short texts) t
  short-goes [] G g = (refl, g)
  short-goes (text ∷ texts) G g =
      by-either (λ a v. Passes t.0 t.1 (check.short (text ∷ texts)) × G a v) (Refuses t.0 t.1 (check.short (text ∷ texts))) (nat_le (length text) most_pattern_bytes) (short texts) (refuse (limit limits.PatternBytes (length text))) t
      (λ e. under-all told (λ a v. Passes t.0 t.1 (check.short texts) × G a v) (λ a v. Passes t.0 t.1 (check.short (text ∷ texts)) × G a v) (As (Refuses t.0 t.1 (check.short texts))) (As (Refuses t.0 t.1 (check.short (text ∷ texts))))
      (λ a v m. (found-first text texts true e ∙ m.0, m.1)) (as-map (Refuses t.0 t.1 (check.short texts)) (Refuses t.0 t.1 (check.short (text ∷ texts))) (λ r f. (f.0, found-first text texts true e ∙ f.1, f.2)))
      (short texts) t (short-goes texts G g))
      (λ e. (text, found-first text texts false e, refl))

  makes-goes : (n : ℕ) (texts : List (List ℕ)) (Q : Unit {0} → Holding → Type 0) (Z : Refusal → Type 0) → Q tt t → ((i : ℕ) → IsSomeAnd (slice_get texts i) IsNoPattern → Z (bad_pattern (n + i))) → Goes Q Z (ask (makes texts) (on (pattern_refusal n))) t
  makes-goes n texts Q Z q z None u m = moved Q tt tt u t refl (m.1 refl) q
  makes-goes n texts Q Z q z (Some (pattern_error.BadPattern i)) u m = z i (m.0.says_so i refl)
  makes-goes n texts Q Z q z (Some (pattern_error.PatternSize i)) u m = absurd (some-none m.0.fair)
  makes-goes n texts Q Z q z (Some pattern_error.NoMemory) u m = absurd (true-false m.0.fed)

  plus-none : (i : ℕ) → 0 + i ≡ i
  plus-none i = omega arith

  -- a text of one of two lists, by its number in both
  in-front : (P : List ℕ → Type 0) (xs ys : List (List ℕ)) (i : ℕ) → IsSomeAnd (slice_get xs i) P → IsSomeAnd (slice_get (xs ++ ys) i) P
  in-front P [] ys i h = absurd h
  in-front P (x ∷ xs) ys zero h = h
  in-front P (x ∷ xs) ys (suc i) h = in-front P xs ys i h

  behind : (P : List ℕ → Type 0) (xs ys : List (List ℕ)) (i : ℕ) → IsSomeAnd (slice_get ys i) P → IsSomeAnd (slice_get (xs ++ ys) (length xs + i)) P
  behind P [] ys i h =
      let e : i ≡ 0 + i = omega arith in
      subst (λ n. IsSomeAnd (slice_get ys n) P) e h
  behind P (x ∷ xs) ys i h =
      let e : suc (length xs + i) ≡ suc (length xs) + i = omega arith in
      subst (λ n. IsSomeAnd (slice_get (x ∷ (xs ++ ys)) n) P) e (behind P xs ys i h)

  pub patterns-go : (exclude partial : List (List ℕ)) (G : Patterns → Holding → Type 0) → ((p : Patterns) → G p t) → Leads (of_patterns exclude partial) G (patterns_by exclude partial) t
  patterns-go exclude partial G g =
      let others = partial ++ always in
      let texts = exclude ++ others in
      let p : Patterns = record { exclude = exclude; partial = others } in
      then-leads (check.few exclude) (check.few partial ∷ check.short exclude ∷ check.short partial ∷ check.readable texts ∷ []) G (few exclude) _ t (few-goes exclude _
      (then-leads (check.few partial) (check.short exclude ∷ check.short partial ∷ check.readable texts ∷ []) G (few partial) _ t (few-goes partial _
      (then-leads (check.short exclude) (check.short partial ∷ check.readable texts ∷ []) G (short exclude) _ t (short-goes exclude _
      (then-leads (check.short partial) (check.readable texts ∷ []) G (short partial) _ t (short-goes partial _
      (then-under told (λ a v. AllPass t.0 t.1 (check.readable texts ∷ []) × G a v) (As (IsFirst t.0 t.1 (check.readable texts ∷ []))) (ask (makes exclude) (on (pattern_refusal 0))) _ t
      (makes-goes 0 exclude _ (IsFirst t.0 t.1 (check.readable texts ∷ []))
      (then-under told (λ a v. AllPass t.0 t.1 (check.readable texts ∷ []) × G a v) (As (IsFirst t.0 t.1 (check.readable texts ∷ []))) (ask (makes others) (on (pattern_refusal (length exclude)))) (λ f. give p) t
      (makes-goes (length exclude) others (λ f v. AllPass t.0 t.1 (check.readable texts ∷ []) × G p v) (IsFirst t.0 t.1 (check.readable texts ∷ []))
      ((tt, tt), g p) (λ i h. inl (length exclude + i, behind IsNoPattern exclude others i h, refl))))
      (λ i h. inl (i, in-front IsNoPattern exclude others i h, ap bad_pattern (plus-none i))))))))))))

  -- ---- what is reported

  pub path-goes : (name : Word) (ps : List Word) (G : List Word → Holding → Type 0) → G ps t → Checks (check.some_of name ps) G (some_path name ps) t
  path-goes name [] G g = (refl, refl)
  path-goes name (p ∷ ps) G g = (omega arith, g)

  -- ---- a program and a hook

  stopped-so : (name : Text) (script : Word) (r : Refusal) → IsStopped (told_by t.0 (chars script)) (chars script) name r ⊎ IsUnread r → refusal_hungry r ≡ false → blame_of r ≡ None → IsStopped (told_by t.0 (chars script)) (chars script) name r
  stopped-so name script r (inl h) fed fair = h
  stopped-so name script r (inr faulted) fed fair = absurd (some-none fair)
  stopped-so name script r (inr starved) fed fair = absurd (true-false fed)

  pub opened-goes : (name : Text) (script : Word) (G : List LoadedModule → Holding → Type 0) → ((ms : List LoadedModule) → AreModules t.0 name script ms → G ms t) → Checks (check.program name script) G (opened name script) t
  opened-goes name script G g (Ok ms) u m = moved (λ a v. Passes t.0 t.1 (check.program name script) × G a v) ms ms u t refl (m.1 refl) ((ms, m.0.says_so), g ms m.0.says_so)
  opened-goes name script G g (Err r) u m = stopped-so name script r m.0.says_so m.0.fed m.0.fair

  function-goes : (script name : Word) (ms : List LoadedModule) (G : Option HookFiles → Holding → Type 0) → AreModules t.0 main_name script ms → ((h : Option HookFiles) → G h t) → Checks (check.function script name) G (hook_in script name ms) t
  function-goes script name ms G a g =
      by-either (λ h v. Passes t.0 t.1 (check.function script name) × G h v) (Refuses t.0 t.1 (check.function script name)) (defines ms (chars name)) _ _ t
      (λ e. ((ms, a, e), g _)) (λ e. (ms, a, e, refl))

  pub hook-goes : (hook : Option (Word × Word)) (G : Option HookFiles → Holding → Type 0) → ((h : Option HookFiles) → G h t) → Leads (of_hook hook) G (hook_of hook) t
  hook-goes None G g = (tt, g None)
  hook-goes (Some (script, name)) G g =
      then-leads (check.program main_name script) (check.function script name ∷ []) G (opened main_name script) (hook_in script name) t
      (opened-goes main_name script (λ ms v. Leads (check.function script name ∷ []) G (hook_in script name ms) v) (λ ms a.
      one-leads (check.function script name) G (hook_in script name ms) t (function-goes script name ms G a g)))

  -- ---- a source

  tree-goes : (path : Word) (bytes : List ℕ) (r : Reading) (G : PlainSource → Holding → Type 0) (u : Holding) → u ≡ t → t.0 path ≡ Some bytes → length bytes ≤ most_bytes → Reads bytes r → reading_hungry r ≡ false
      → ((f : PlainSource) → G f t) → Checks (check.source path) G (tree_of path bytes r) u
  tree-goes path bytes (no_text line) G u same e small h fed g = unreadable bytes (no_text line) e small h refl
  tree-goes path bytes (long lines) G u same e small h fed g = unreadable bytes (long lines) e small h refl
  tree-goes path bytes (stuck (token_error.BadCharacter line)) G u same e small h fed g = unreadable bytes (stuck (token_error.BadCharacter line)) e small h refl
  tree-goes path bytes (stuck (token_error.BadIndent line)) G u same e small h fed g = unreadable bytes (stuck (token_error.BadIndent line)) e small h refl
  tree-goes path bytes (stuck (token_error.OpenString line)) G u same e small h fed g = unreadable bytes (stuck (token_error.OpenString line)) e small h refl
  tree-goes path bytes (stuck (token_error.OpenBracket line)) G u same e small h fed g = unreadable bytes (stuck (token_error.OpenBracket line)) e small h refl
  tree-goes path bytes (stuck (token_error.WideNumber line)) G u same e small h fed g = unreadable bytes (stuck (token_error.WideNumber line)) e small h refl
  tree-goes path bytes (stuck token_error.NoMemory) G u same e small h fed g = absurd h
  tree-goes path bytes (no_tree (syntax_error.Unexpected line)) G u same e small h fed g = unreadable bytes (no_tree (syntax_error.Unexpected line)) e small h refl
  tree-goes path bytes (no_tree (syntax_error.TooDeep depth.Expressions line)) G u same e small h fed g = unreadable bytes (no_tree (syntax_error.TooDeep depth.Expressions line)) e small h refl
  tree-goes path bytes (no_tree (syntax_error.TooDeep depth.Suites line)) G u same e small h fed g = unreadable bytes (no_tree (syntax_error.TooDeep depth.Suites line)) e small h refl
  tree-goes path bytes (no_tree syntax_error.NoMemory) G u same e small h fed g = absurd h
  tree-goes path bytes (ill_formed (scope_error.BreakOutside line)) G u same e small h fed g = unreadable bytes (ill_formed (scope_error.BreakOutside line)) e small h refl
  tree-goes path bytes (ill_formed (scope_error.ReturnOutside line)) G u same e small h fed g = unreadable bytes (ill_formed (scope_error.ReturnOutside line)) e small h refl
  tree-goes path bytes (ill_formed (scope_error.GlobalAfterUse line)) G u same e small h fed g = unreadable bytes (ill_formed (scope_error.GlobalAfterUse line)) e small h refl
  tree-goes path bytes (ill_formed (scope_error.NestedFunction line)) G u same e small h fed g = unreadable bytes (ill_formed (scope_error.NestedFunction line)) e small h refl
  tree-goes path bytes (ill_formed (scope_error.EarlyIrrefutable line)) G u same e small h fed g = unreadable bytes (ill_formed (scope_error.EarlyIrrefutable line)) e small h refl
  tree-goes path bytes (ill_formed (scope_error.TwiceNamed line)) G u same e small h fed g = unreadable bytes (ill_formed (scope_error.TwiceNamed line)) e small h refl
  tree-goes path bytes (ill_formed scope_error.NoMemory) G u same e small h fed g = absurd h
  tree-goes path bytes (tree body) G u same e small h fed g =
      let f : PlainSource = record { path = path; text = bytes; body = body } in
      moved (λ a v. Passes t.0 t.1 (check.source path) × G a v) f f u t refl same (record { bytes = bytes; body = body; there = e; small = small; read = h }, g f)
  tree-goes path bytes unread G u same e small h fed g = absurd (true-false fed)

  pub source-goes : (path : Word) (G : PlainSource → Holding → Type 0) → ((f : PlainSource) → G f t) → Checks (check.source path) G (source path) t
  source-goes path G g =
      then-under told (λ a v. Passes t.0 t.1 (check.source path) × G a v) (As (Refuses t.0 t.1 (check.source path))) (file (no_source path) path) (λ bytes. ask (checks bytes) (tree_of path bytes)) t
      (file-goes (no_source path) path (λ bytes v. Checks (check.source path) G (ask (checks bytes) (tree_of path bytes)) v) (Refuses t.0 t.1 (check.source path))
      (λ bytes f x u m. tree-goes path bytes x G u (m.1 refl) f.there f.small m.0.says_so m.0.fed g)
      (λ e. absent e refl) (λ bytes e more. large bytes e more refl))

  pub sources-go : (paths : List Word) (G : List PlainSource → Holding → Type 0) → ((fs : List PlainSource) → G fs t) → Leads (map check.source paths) G (each source paths) t
  sources-go paths G g = each-leads check.source source source-goes paths G g
