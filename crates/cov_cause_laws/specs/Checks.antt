-- The checks of a command: what each asks of files and data, and how it refuses.
--     Check                            the checks
--     SourceRefuses                    why a source isn't read
--     is_too_long                      a pattern with too many bytes
--     unusable, unjoinable             why what a name holds can't be used, or joined
--     Passes, Refuses                  a check that is met, and one that refuses
--     IsFirst, AllPass                 the first of some checks that isn't met, and all that are
use Rattle.std.specs.Prelude.{◌≡◌, ◌≢◌, ◌⊎◌, nat_le, ℕ, suc, ◌≤◌, ◌<◌, Bool, true, false, not, if◌then◌else◌, List, [], ◌∷◌, length, slice_get, Option, Some, None, IsSomeAnd}
use Rattle.std.specs.Bool.{beq}
use Rattle.std.specs.FinMap.{get}
use Rattle.std.specs.List.{find}
use Rattle.std.specs.Str.{chars}
use Rattle.py_builtins.specs.Outcomes.{finished}
use Rattle.py_meaning.specs.Modules.{LoadedModule}
use Rattle.py_syntax.specs.Tree.{Text}
use Rattle.cov_combine.specs.Combined.{flag_of, has_both_kinds}
use Rattle.cov_data.specs.DataSet.{DataSet}
use Rattle.cov_exclude.specs.Texts.{IsNoPattern}
use Rattle.cov_load_laws.specs.Completeness.{HasSource}
use Rattle.cov_outside.specs.Files.{Files}
use Rattle.cov_run.specs.Loading.{most_bytes, told_by}
use Rattle.cov_run.specs.Reading.{Reading, Reads}
use Rattle.cov_run.specs.Refusals.{refusal_of, IsStopped}
use Rattle.cov_step.specs.Phases.{main_name, most_patterns, most_pattern_bytes, defines}
use Rattle.cov_step.specs.Testing.{tests_name}
use Rattle.cov_suite.specs.Results.{import_of}
use Rattle.cov_vault.specs.Contents.{Contents}
use Rattle.cov_vault.specs.declared.vault.Content.{Content}
use Rattle.cov_vault.specs.declared.vault.Content.TheVariants as content
use Rattle.cov_why.specs.Answers.{Refusal, limit, bad_pattern, no_function, no_data, mixed, bad_data, no_source, import_failed}
use Rattle.cov_why.specs.declared.why.BadKind.TheVariants as bad
use Rattle.cov_why.specs.declared.why.LimitKind.TheVariants as limits
use Rattle.cov_words.specs.Values.{Word}
use Rattle.cov_complete_laws.specs.Premises.{AreModules, Holds, IsReplaceable, HoldAll}

-- what is checked before a command does its work
pub data Check : Type 0 where
  -- a list of patterns has few enough, none of them is too long, and the grammar reads each
  few : (texts : List (List ℕ)) → Check
  short : (texts : List (List ℕ)) → Check
  readable : (texts : List (List ℕ)) → Check
  -- a script and its modules, of which the first has this name, can be loaded, they have a
  -- function, and a source can be read
  program : (name : Text) (script : Word) → Check
  function : (script name : Word) → Check
  source : (path : Word) → Check
  -- a name holds nothing that isn't of schema 7, data that are needed, data of this kind
  replaceable : (name : Word) → Check
  needed : (name : Word) → Check
  joinable : (name : Word) (arcs : Bool) → Check
  -- something was found for what this name is asked for, and the data of names are of one kind
  some_of : (name : Word) (found : List Word) → Check
  one_kind : (names : List Word) → Check
  -- the import of a file of tests finishes within these steps
  imports : (file : Word) (budget : ℕ) → Check

-- ---- sources

-- a source isn't read: it isn't there, is too large, or its bytes have no tree
pub data SourceRefuses (path : Word) (file : Option (List ℕ)) (why : Refusal) : Type 0 where
  absent : file ≡ None → why ≡ no_source path → SourceRefuses path file why
  large : (bytes : List ℕ) → file ≡ Some bytes → most_bytes < length bytes
      → why ≡ limit limits.FileBytes (suc most_bytes) → SourceRefuses path file why
  unreadable : (bytes : List ℕ) → (reading : Reading) → file ≡ Some bytes
      → length bytes ≤ most_bytes → Reads bytes reading → refusal_of path reading ≡ Some why
      → SourceRefuses path file why

-- ---- patterns

-- a pattern has too many bytes
abbrev pub is_too_long : List ℕ → Bool
is_too_long text = not (nat_le (length text) most_pattern_bytes)

-- ---- data

-- why what a name holds is no data in range, where it isn't
abbrev pub unusable : Word → Option Content → Option Refusal
unusable name None = Some (no_data name)
unusable name (Some (content.Good d)) = None
unusable name (Some content.NotSchema7) = Some (bad_data name bad.NotSchema7)
unusable name (Some (content.BadRow i)) = Some (bad_data name (bad.BadRow i))

-- why rows of this kind can't be joined to what a name holds, if it holds anything of schema 7
abbrev pub unjoinable : Word → Bool → Option Content → Option Refusal
unjoinable name arcs None = None
unjoinable name arcs (Some (content.Good d)) =
    if beq arcs d.arcs then None else Some (mixed arcs d.arcs)
unjoinable name arcs (Some content.NotSchema7) = None
unjoinable name arcs (Some (content.BadRow i)) = Some (bad_data name (bad.BadRow i))

-- ---- each check

-- A check is met. That patterns were made says nothing here of what the grammar reads.
abbrev pub Passes : Files → Contents → Check → Type 0
Passes files contents (few texts) = length texts ≤ most_patterns
Passes files contents (short texts) = find is_too_long texts ≡ None
Passes files contents (readable texts) = Unit {0}
Passes files contents (program name script) =
    (ms : List LoadedModule) × AreModules files name script ms
Passes files contents (function script name) =
    (ms : List LoadedModule) × AreModules files main_name script ms
    × (defines ms (chars name) ≡ true)
Passes files contents (source path) = HasSource (files path)
Passes files contents (replaceable name) = IsReplaceable contents name
Passes files contents (needed name) = (d : DataSet) × Holds contents name d
Passes files contents (joinable name arcs) = unjoinable name arcs (get contents name) ≡ None
Passes files contents (some_of name found) = 0 < length found
Passes files contents (one_kind names) =
    (ds : List DataSet) × HoldAll contents names ds × (has_both_kinds ds ≡ false)
Passes files contents (imports file budget) =
    (ms : List LoadedModule) × AreModules files tests_name file ms
    × ((import_of ms budget).outcome ≡ finished)

-- a check isn't met, and refuses so
abbrev pub Refuses : Files → Contents → Check → Refusal → Type 0
Refuses files contents (few texts) why =
    (most_patterns < length texts) × (why ≡ limit limits.Patterns (length texts))
Refuses files contents (short texts) why =
    (text : List ℕ) × (find is_too_long texts ≡ Some text)
    × (why ≡ limit limits.PatternBytes (length text))
Refuses files contents (readable texts) why =
    (i : ℕ) × IsSomeAnd (slice_get texts i) IsNoPattern × (why ≡ bad_pattern i)
Refuses files contents (program name script) why =
    IsStopped (told_by files (chars script)) (chars script) name why
Refuses files contents (function script name) why =
    (ms : List LoadedModule) × AreModules files main_name script ms
    × (defines ms (chars name) ≡ false) × (why ≡ no_function name)
Refuses files contents (source path) why = SourceRefuses path (files path) why
Refuses files contents (replaceable name) why =
    (get contents name ≡ Some content.NotSchema7) × (why ≡ bad_data name bad.NotSchema7)
Refuses files contents (needed name) why = unusable name (get contents name) ≡ Some why
Refuses files contents (joinable name arcs) why =
    unjoinable name arcs (get contents name) ≡ Some why
Refuses files contents (some_of name found) why = (found ≡ []) × (why ≡ no_data name)
Refuses files contents (one_kind names) why =
    (ds : List DataSet) × HoldAll contents names ds × (has_both_kinds ds ≡ true)
    × (why ≡ mixed (flag_of ds) (not (flag_of ds)))
Refuses files contents (imports file budget) why =
    (ms : List LoadedModule) × AreModules files tests_name file ms
    × ((import_of ms budget).outcome ≢ finished) × (why ≡ import_failed file)

-- ---- one after another

-- of some checks in their order the first that isn't met refuses so
abbrev pub IsFirst : Files → Contents → List Check → Refusal → Type 0
IsFirst files contents [] why = ⊥
IsFirst files contents (c ∷ cs) why =
    Refuses files contents c why ⊎ (Passes files contents c × IsFirst files contents cs why)

-- all are met
abbrev pub AllPass : Files → Contents → List Check → Type 0
AllPass files contents [] = Unit {0}
AllPass files contents (c ∷ cs) = Passes files contents c × AllPass files contents cs
