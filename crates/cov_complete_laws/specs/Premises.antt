-- What the phases of a command ask of files and data, so that none of them refuses it.
--     IsFile                                a file that has to be there
--     usual, IsSettingsFile, AreSettings    settings; DefaultsLaw where there is no file
--     IsLoadable, AreModules                a program
--     IsHook, HasHook                       the hook of a run
--     Holds, IsReplaceable                  data that are needed, and the target of a save
--     IsJoinable, CanJoin                   what a run adds to
--     inputs_of, HoldAll, HoldsOwn          the inputs of `combine`
--     ArePatterns, HasPatterns              patterns
--     paths_reported, HasSources            the sources of a report
use Rattle.std.specs.Prelude.{◌≡◌, ◌≢◌, ◌⊎◌, ℕ, ◌≤◌, ◌<◌, Bool, true, false, List, [], ◌∷◌, map, filter, length, Option, Some, None, Ok, codes}
use Rattle.std.specs.FinMap.{get, keys}
use Rattle.std.specs.List.{All}
use Rattle.std.specs.Str.{chars}
use Rattle.py_meaning.specs.Modules.{LoadedModule}
use Rattle.py_syntax.specs.Tree.{Text}
use Rattle.cov_config.specs.Settings.{Settings, meaning_of, defaults}
use Rattle.cov_data.specs.DataSet.{DataSet}
use Rattle.cov_data.specs.Rows.{paths_of}
use Rattle.cov_exclude.specs.Texts.{IsPatternText}
use Rattle.cov_load_laws.specs.Completeness.{CanLoad, HasSource}
use Rattle.cov_outside.specs.Files.{Files}
use Rattle.cov_run.specs.Loading.{most_bytes, told_by, IsLoaded}
use Rattle.cov_step.specs.Names.{data_name}
use Rattle.cov_step.specs.Phases.{main_name, most_patterns, most_pattern_bytes, always, defines, is_part_of, is_reported}
use Rattle.cov_vault.specs.Contents.{Contents}
use Rattle.cov_vault.specs.declared.vault.Content.TheVariants as content
use Rattle.cov_words.specs.Values.{Word}

-- ---- files

-- a file has these bytes, no more than a file may have
pub record IsFile (files : Files) (name : Word) (bytes : List ℕ) : Type 0 where
  pub there : files name ≡ Some bytes
  pub small : length bytes ≤ most_bytes

-- ---- settings

-- the usual file of settings
abbrev pub usual : Word
usual = codes "pyproject.toml"

-- the file of settings: the one that the words name, or else the usual one, or none as an empty one
abbrev pub IsSettingsFile : Files → Option Word → List ℕ → Type 0
IsSettingsFile files (Some name) bytes = IsFile files name bytes
IsSettingsFile files None bytes =
    IsFile files usual bytes ⊎ ((files usual ≡ None) × (bytes ≡ []))

-- it sets these, and each value is of its form
pub record AreSettings (files : Files) (rcfile : Option Word) (s : Settings) : Type 0 where
  pub bytes : List ℕ
  pub file : IsSettingsFile files rcfile bytes
  pub formed : meaning_of bytes ≡ Ok s

-- where the usual file isn't there, these are the defaults
abbrev pub DefaultsLaw : Type 0
DefaultsLaw = (files : Files) → files usual ≡ None → AreSettings files None defaults

-- ---- programs

-- a script is there and can be read, and so is each file that is wanted, where its module has this
-- name; no count passes its limit
abbrev pub IsLoadable : Files → Text → Word → Type 0
IsLoadable files name script = CanLoad (told_by files (chars script)) (chars script) name

-- these are the modules of a script, of which the first has this name
abbrev pub AreModules : Files → Text → Word → List LoadedModule → Type 0
AreModules files name script ms =
    IsLoaded (told_by files (chars script)) (chars script) name ms

-- a hook's script can be loaded, and has a `def` of this name
pub record IsHook (files : Files) (script function : Word) : Type 0 where
  pub loadable : IsLoadable files main_name script
  pub defined :
      (ms : List LoadedModule) → AreModules files main_name script ms
      → defines ms (chars function) ≡ true

-- the hook of a run, where there is one
abbrev pub HasHook : Files → Option (Word × Word) → Type 0
HasHook files None = Unit {0}
HasHook files (Some (script, function)) = IsHook files script function

-- ---- data

-- a name holds these data, of schema 7 and in range
abbrev pub Holds : Contents → Word → DataSet → Type 0
Holds contents name d = get contents name ≡ Some (content.Good d)

-- what a name holds may be replaced: it is nothing, or a data file of schema 7
abbrev pub IsReplaceable : Contents → Word → Type 0
IsReplaceable contents name = get contents name ≢ Some content.NotSchema7

-- the data that a name may hold are in range, and of this kind
pub record IsJoinable (contents : Contents) (name : Word) (arcs : Bool) : Type 0 where
  pub in_range : (i : ℕ) → get contents name ≢ Some (content.BadRow i)
  pub one_kind : (d : DataSet) → Holds contents name d → d.arcs ≡ arcs

-- a run that appends may join its rows to what stands under the name of its data
abbrev pub CanJoin : Bool → Contents → Word → Bool → Type 0
CanJoin false contents name arcs = Unit {0}
CanJoin true contents name arcs = IsJoinable contents name arcs

-- the names of a combine's inputs: those of the words, or all parts of the data file
abbrev pub inputs_of : Contents → Word → List Word → List Word
inputs_of contents own [] = filter (is_part_of own) (keys contents)
inputs_of contents own (n ∷ ns) = map data_name (n ∷ ns)

-- each name holds the data at its place
abbrev pub HoldAll : Contents → List Word → List DataSet → Type 0
HoldAll contents [] [] = Unit {0}
HoldAll contents [] (d ∷ ds) = ⊥
HoldAll contents (n ∷ ns) [] = ⊥
HoldAll contents (n ∷ ns) (d ∷ ds) = Holds contents n d × HoldAll contents ns ds

-- the data file's own data come first, where that is asked for and they are there
abbrev pub HoldsOwn : Bool → Contents → Word → List DataSet → Type 0
HoldsOwn false contents own first = first ≡ []
HoldsOwn true contents own first =
    ((d : DataSet) × Holds contents own d × (first ≡ d ∷ []))
    ⊎ ((get contents own ≡ None) × (first ≡ []))

-- ---- patterns

-- there are few enough, none is too long, and the grammar reads each
pub record ArePatterns (texts : List (List ℕ)) : Type 0 where
  pub few : length texts ≤ most_patterns
  pub short : All (λ text. length text ≤ most_pattern_bytes) texts
  pub read : All IsPatternText texts

-- those that exclude lines and those that free branches, with the ones that always do
pub record HasPatterns (exclude partial : List (List ℕ)) : Type 0 where
  pub excluding : ArePatterns exclude
  pub freeing : ArePatterns partial
  pub always_read : All IsPatternText always

-- ---- sources

-- the paths of data that no pattern omits
abbrev pub paths_reported : List Text → DataSet → List Word
paths_reported omit d = filter (is_reported omit) (paths_of d)

-- there is such a path, and each has its source, which is well formed and within the limits
pub record HasSources (files : Files) (omit : List Text) (d : DataSet) : Type 0 where
  pub some : 0 < length (paths_reported omit d)
  pub each : All (λ path. HasSource (files path)) (paths_reported omit d)
