-- What holds of each part of a command, where it holds of values, of refusals, of one part after another, and of calls.
use Rattle.std.proofs.Common.{◌≡◌, nat_le, ℕ, Bool, true, false, if◌then◌else◌, not, refl, List, [], ◌∷◌, ◌++◌, map, filter, length, Option, Some, None, Result, Ok, Err}
use Rattle.std.specs.Bool.{beq}
use Rattle.std.specs.Str.{chars}
use Rattle.py_meaning.specs.Modules.{LoadedModule}
use Rattle.py_syntax.specs.Tree.{Text}
use Rattle.cov_combine.specs.Combined.{flag_of, has_both_kinds}
use Rattle.cov_config.specs.Settings.{Settings, ReportSettings, meaning_of}
use Rattle.cov_data.specs.DataSet.{DataSet}
use Rattle.cov_data.specs.Rows.{paths_of}
use Rattle.cov_programs.specs.Programs.{give, ask, bind, each}
use Rattle.cov_why.specs.Answers.{Refusal, no_such_file, limit, bad_config, no_function, no_data, mixed, bad_data, no_source}
use Rattle.cov_why.specs.declared.why.BadKind.TheVariants as bad
use Rattle.cov_why.specs.declared.why.LimitKind.TheVariants as limits
use Rattle.cov_words.specs.Values.{Word}
use Rattle.cov_step.specs.Calls.{Patterns, Step, refuse, checks, makes}
use Rattle.cov_step.specs.Answers.{given_or, Before, nothing, there, bad_row, pattern_refusal, on, tree_of}
use Rattle.cov_step.specs.Phases.{file, needed, main_name, opened, settings_file, settings, own_name, most_patterns, most_pattern_bytes, always, few, short, patterns_by, patterns, source, defines, hook_in, hook_of, joins, own_input, some_input, same_kind, some_path, is_reported, reported_paths, analysed, reported_in, reported}
use Rattle.cov_step.specs.Promises.{blame_of}

module _ (P : (A : Type 0) → Step A → Type 0) (gives : (A : Type 0) (a : A) → P A (give a))
    (refuses : (A : Type 0) (r : Refusal) → blame_of r ≡ None → P A (refuse r))
    (binds : (A B : Type 0) (p : Step A) (next : A → Step B) → P A p → ((a : A) → P B (next a)) → P B (bind p next))
    (eachs : (A B : Type 0) (p : A → Step B) → ((a : A) → P B (p a)) → (xs : List A) → P (List B) (each p xs))
    (files : (absent : Refusal) → blame_of absent ≡ None → (name : Word) → P _ (file absent name))
    (usual : P _ (settings_file None))
    (opens : (name : Text) (script : Word) → P _ (opened name script))
    (checking : (path : Word) (bytes : List ℕ) → P _ (ask (checks bytes) (tree_of path bytes)))
    (making : (n : ℕ) (texts : List (List ℕ)) → P _ (ask (makes texts) (on (pattern_refusal n)))) where
  if-so : {A : Type 0} (b : Bool) (p q : Step A) → P A p → P A q → P A (if b then p else q)
  if-so true p q h g = h
  if-so false p q h g = g

  settings_file-so : (rcfile : Option Word) → P _ (settings_file rcfile)
  settings_file-so (Some name) = files (no_such_file name) refl name
  settings_file-so None = usual

  config-so : (m : Result Settings (List ℕ)) → P _ (given_or bad_config m)
  config-so (Ok s) = gives _ s
  config-so (Err key) = refuses _ (bad_config key) refl

  pub settings-so : (rcfile : Option Word) → P _ (settings rcfile)
  settings-so rcfile = binds _ _ (settings_file rcfile) (λ bytes. given_or bad_config (meaning_of bytes)) (settings_file-so rcfile) (λ bytes. config-so (meaning_of bytes))

  few-so : (texts : List (List ℕ)) → P _ (few texts)
  few-so texts = if-so (nat_le (length texts) most_patterns) (give tt) (refuse (limit limits.Patterns (length texts))) (gives _ tt) (refuses _ (limit limits.Patterns (length texts)) refl)

  short-so : (texts : List (List ℕ)) → P _ (short texts)
  short-so [] = gives _ tt
  short-so (text ∷ texts) = if-so (nat_le (length text) most_pattern_bytes) (short texts) (refuse (limit limits.PatternBytes (length text))) (short-so texts) (refuses _ (limit limits.PatternBytes (length text)) refl)

  pub patterns_by-so : (exclude partial : List (List ℕ)) → P _ (patterns_by exclude partial)
  patterns_by-so exclude partial =
      binds _ _ (few exclude) _ (few-so exclude) (λ a.
      binds _ _ (few partial) _ (few-so partial) (λ b.
      binds _ _ (short exclude) _ (short-so exclude) (λ c.
      binds _ _ (short partial) _ (short-so partial) (λ d.
      binds _ _ (ask (makes exclude) (on (pattern_refusal 0))) _ (making 0 exclude) (λ e.
      binds _ _ (ask (makes (partial ++ always)) (on (pattern_refusal (length exclude)))) (λ f. give (record { exclude = exclude; partial = partial ++ always }))
      (making (length exclude) (partial ++ always)) (λ f. gives _ (record { exclude = exclude; partial = partial ++ always })))))))

  pub patterns-so : (s : ReportSettings) → P _ (patterns s)
  patterns-so s = patterns_by-so (s.exclude_lines ++ s.exclude_also) s.partial_branches

  pub source-so : (path : Word) → P _ (source path)
  source-so path = binds _ _ (file (no_source path) path) (λ bytes. ask (checks bytes) (tree_of path bytes)) (files (no_source path) refl path) (λ bytes. checking path bytes)

  hook_in-so : (script function : Word) (ms : List LoadedModule) → P _ (hook_in script function ms)
  hook_in-so script function ms = if-so (defines ms (chars function)) (give (Some (record { modules = ms; script = chars script; function = chars function }))) (refuse (no_function function))
      (gives _ (Some (record { modules = ms; script = chars script; function = chars function }))) (refuses _ (no_function function) refl)

  pub hook_of-so : (h : Option (Word × Word)) → P _ (hook_of h)
  hook_of-so None = gives _ None
  hook_of-so (Some (script, function)) = binds _ _ (opened main_name script) (hook_in script function) (opens main_name script) (hook_in-so script function)

  pub joins-so : (append : Bool) (name : Word) (arcs : Bool) (was : Before) → P _ (joins append name arcs was)
  joins-so false name arcs was = gives _ None
  joins-so true name arcs nothing = gives _ None
  joins-so true name arcs (there d) = if-so (beq arcs d.arcs) (give (Some d)) (refuse (mixed arcs d.arcs)) (gives _ (Some d)) (refuses _ (mixed arcs d.arcs) refl)
  joins-so true name arcs (bad_row i) = refuses _ (bad_data name (bad.BadRow i)) refl

  pub own_input-so : (append : Bool) (name : Word) (was : Before) → P _ (own_input append name was)
  own_input-so false name was = gives _ []
  own_input-so true name nothing = gives _ []
  own_input-so true name (there d) = gives _ (d ∷ [])
  own_input-so true name (bad_row i) = refuses _ (bad_data name (bad.BadRow i)) refl

  pub some_input-so : (name : Word) (own : Bool) (ns : List Word) → P _ (some_input name own ns)
  some_input-so name own (n ∷ ns) = gives _ tt
  some_input-so name true [] = gives _ tt
  some_input-so name false [] = refuses _ (no_data name) refl

  pub same_kind-so : (ds : List DataSet) → P _ (same_kind ds)
  same_kind-so ds = if-so (has_both_kinds ds) (refuse (mixed (flag_of ds) (not (flag_of ds)))) (give ds) (refuses _ (mixed (flag_of ds) (not (flag_of ds))) refl) (gives _ ds)

  some_path-so : (name : Word) (ps : List Word) → P _ (some_path name ps)
  some_path-so name [] = refuses _ (no_data name) refl
  some_path-so name (p ∷ ps) = gives _ (p ∷ ps)

  reported_paths-so : (name : Word) (omit : List (List ℕ)) (d : DataSet) → P _ (reported_paths name omit d)
  reported_paths-so name omit d = some_path-so name (filter (is_reported omit) (paths_of d))

  module _ (needs : (name : Word) → P _ (needed name)) where
    pub reported_in-so : (s : Settings) (p : Patterns) (own : Word) → P _ (reported_in s p own)
    reported_in-so s p own =
        binds _ _ (needed own) _ (needs own) (λ d.
        binds _ _ (reported_paths own s.report.omit d) _ (reported_paths-so own s.report.omit d) (λ paths.
        binds _ _ (each source paths) (λ sources. give (record { settings = s; arcs = d.arcs; files = map (analysed p d) sources })) (eachs _ _ source source-so paths)
        (λ sources. gives _ (record { settings = s; arcs = d.arcs; files = map (analysed p d) sources }))))

    pub reported-so : (data_file rcfile : Option Word) → P _ (reported data_file rcfile)
    reported-so data_file rcfile =
        binds _ _ (settings rcfile) _ (settings-so rcfile) (λ s.
        binds _ _ (patterns s.report) (λ p. reported_in s p (own_name data_file s)) (patterns-so s.report) (λ p. reported_in-so s p (own_name data_file s)))
