-- What a run, a combine and a report promise, over what the objects hold (`Held` of Told).
--     IsSet, patterns_of                   settings, and the patterns that they give
--     run_of, AddsTo, RunPromise           a run prints and ends as its source means; its data
--     HasOwn, names_with_data, HasInputs, CombinePromise    data are combined, in whatever order
--     AreRead, AreMissing, Reported        what a report tells and lists as missing
--     ReportPromise                        its table is written
--     with_text, PutPromise                its text in another form is put under a name
use Rattle.std.specs.Prelude.{◌≡◌, ◌≢◌, ◌⊎◌, ℕ, ◌<◌, Bool, true, false, if◌then◌else◌, List, [], ◌∷◌, ◌++◌, map, filter, length, Contains, Option, Some, None, option_map, Ok, ℤ, codes}
use Rattle.std.specs.FinMap as finite
use Rattle.std.specs.List.Sorted.{IsPermutation}
use Rattle.std.specs.Str.{bytes_eq, chars}
use Rattle.cov_outside.specs.Files.{Files, with_file}
use Rattle.cov_contexts.specs.declared.plugins.Plugin.{Ghosts as PluginOf}
use Rattle.py_meaning.specs.Modules.{LoadedModule}
use Rattle.cov_analysis.specs.Analyses.{AnalysisView}
use Rattle.cov_combine.specs.Aliases.{Rules, alias_of}
use Rattle.cov_combine.specs.Combined.{has_both_kinds, combined}
use Rattle.cov_config.specs.Settings.{Settings, ReportSettings}
use Rattle.cov_data.specs.DataSet.{DataSet}
use Rattle.cov_data.specs.Rows.{arcs_of, paths_of}
use Rattle.cov_measure.specs.Measures.{sources_of}
use Rattle.cov_contexts.specs.Sources.{Sources}
use Rattle.cov_hook_laws.specs.MeantHooks.{MeantHook}
use Rattle.cov_measure_laws.specs.Foreseen.{IsForeseenArc}
use Rattle.cov_measure_laws.specs.Meant.{MeantData}
use Rattle.cov_programs.specs.Ends.{Follows}
use Rattle.cov_programs.specs.Laws.{nothing_wants}
use Rattle.cov_run.specs.Loading.{told_by, IsLoaded}
use Rattle.cov_run.specs.Reading.{Reads, tree}
use Rattle.cov_step.specs.Calls.{Answered, Asked, Patterns, PlainSource, HookFiles}
use Rattle.cov_step.specs.Names.{data_name}
use Rattle.cov_step.specs.Phases.{main_name, settings, hook_of, joined, is_part_of, always, is_reported, analysed, done, judged, answered_by}
use Rattle.cov_streams.specs.Runs.{hook_meant}
use Rattle.cov_text.specs.Report.{text_bytes}
use Rattle.cov_vault.specs.Contents.{Contents}
use Rattle.cov_vault.specs.declared.vault.Content.{Content}
use Rattle.cov_vault.specs.declared.vault.Content.TheVariants.{Good}
use Rattle.cov_words.specs.Values.{Word}
use Rattle.cov_headline.specs.Kept.{Recorded, IsFrom}
use Rattle.cov_headline.specs.Origins.{PlainRun, meant, path_at, Origin, data_of, IsRecorded, IsOf}
use Rattle.cov_headline.specs.Reports.{MissingAre}
use Rattle.cov_headline.specs.Told.{Held, tells}

-- these are the settings that the words name, or the usual ones
abbrev pub IsSet : {P : Type 0} → PluginOf P → Option Word → Held P → Settings → Type 0
IsSet plugin rcfile old s = Follows (tells plugin) nothing_wants (settings rcfile) old (Ok s) old

-- the patterns of settings
abbrev pub patterns_of : ReportSettings → Patterns
patterns_of s = record {
  exclude = s.exclude_lines ++ s.exclude_also;
  partial = s.partial_branches ++ always;
}

-- ---- a run

-- a run of modules with what is asked and this input
abbrev pub run_of : Asked → List LoadedModule → List ℕ → PlainRun
run_of asked ms input =
    record {
      modules = ms;
      words = asked.words;
      input = input;
      budget = asked.budget;
      test = None;
    }

-- what rows are joined to under a name: data of their kind that stand there, where that is asked
-- for; else nothing is asked for, or nothing stands there
abbrev pub AddsTo : (append arcs : Bool) → Option Content → Option DataSet → Type 0
AddsTo append arcs held None = (append ≡ false) ⊎ (held ≡ None)
AddsTo append arcs held (Some d) = (append ≡ true) × (held ≡ Some (Good d)) × (d.arcs ≡ arcs)

-- The modules of the script's files ran with these words and the input that was left. It printed
-- and ended as they mean. The recorded arcs and lines are those of that meaning, and each arc is
-- predicted or was crossed by an exception wherever it was taken. The rows have the labels of hook
-- and plugins. They are saved, joined to those that stood there where that was asked for.
pub record RunPromise {P : Type 0} (plugin : PluginOf P) (asked : Asked) (own script : Word)
    (append : Bool) (named : Option (Word × Word)) (old : Held P) (a : Answered) (new : Held P)
    : Type 0 where
  pub modules : List LoadedModule
  pub loaded : IsLoaded (told_by old.files (chars script)) (chars script) main_name modules
  pub printed : new.out ≡ old.out ++ (meant (run_of asked modules old.left)).out
  pub left : new.left ≡ (meant (run_of asked modules old.left)).input
  pub ended : a ≡ answered_by asked.budget (meant (run_of asked modules old.left)).outcome
  pub rows : DataSet
  pub kind : rows.arcs ≡ asked.arcs
  pub recorded : IsRecorded (run_of asked modules old.left) rows
  pub foreseen : asked.arcs ≡ true → (path : List ℕ) (arc : ℤ × ℤ)
      → Contains (arcs_of rows path) arc
      → (m : ℕ) × (path_at modules m ≡ path)
      × IsForeseenArc modules (meant (run_of asked modules old.left)).items m arc
  pub hook : Option HookFiles
  pub hooked : Follows (tells plugin) nothing_wants (hook_of named) old (Ok hook) old
  pub rest : Sources MeantHook P
  pub labelled :
      MeantData plugin modules asked.arcs asked.context
      (sources_of (option_map hook_meant hook) old.plugins asked.by_name)
      (meant (run_of asked modules old.left)).items rows rest
  pub plugins : new.plugins ≡ rest.plugins
  pub before : Option DataSet
  pub adds : AddsTo append asked.arcs (finite.get old.contents own) before
  pub saved : new.contents ≡ finite.insert old.contents own (Good (joined before rows))
  pub same : (new.files ≡ old.files) × (new.err ≡ old.err)

-- ---- combining

-- the data file's own data are the first input where that is asked for, unless there are none
abbrev pub HasOwn : (append : Bool) → Option Content → List DataSet → Type 0
HasOwn append held [] = (append ≡ false) ⊎ (held ≡ None)
HasOwn append held (d ∷ ds) = (append ≡ true) × (held ≡ Some (Good d)) × (ds ≡ [])

-- the names that the words name, or else all parts of the data file
abbrev pub names_with_data : (own : Word) (named : List Word) → Contents → List Word
names_with_data own [] held = filter (is_part_of own) (finite.keys held)
names_with_data own (n ∷ ns) held = map data_name (n ∷ ns)

-- the data of these names
abbrev pub HasInputs : Contents → List Word → List DataSet → Type 0
HasInputs held [] [] = Unit {0}
HasInputs held [] (d ∷ ds) = ⊥
HasInputs held (n ∷ ns) [] = ⊥
HasInputs held (n ∷ ns) (d ∷ ds) = (finite.get held n ≡ Some (Good d)) × HasInputs held ns ds

-- The inputs are the data file's own data and those of these names, all of one kind. Combined under
-- their aliases they are kept under the data file's name, and they are the same in whatever order
-- the inputs come. Of all other names some may be gone.
pub record CombinePromise {P : Type 0} (own : Word) (rules : Rules) (append : Bool)
    (named : List Word) (old : Held P) (a : Answered) (new : Held P) : Type 0 where
  pub first : List DataSet
  pub rest : List DataSet
  pub has_own : HasOwn append (finite.get old.contents own) first
  pub has_rest : HasInputs old.contents (names_with_data own named old.contents) rest
  pub some : 0 < length (first ++ rest)
  pub one_kind : has_both_kinds (first ++ rest) ≡ false
  pub saved : finite.get new.contents own
      ≡ Some (Good (combined (alias_of rules) (first ++ rest)))
  pub any_order : (others : List DataSet) → IsPermutation (first ++ rest) others
      → combined (alias_of rules) (first ++ rest) ≡ combined (alias_of rules) others
  pub others : (name : Word) → name ≢ own
      → (finite.get new.contents name ≡ finite.get old.contents name)
      ⊎ (finite.get new.contents name ≡ None)
  pub ended : a ≡ done
  pub same : new ≡ record old { contents = new.contents }

-- ---- a report

-- each of these sources is its file's text, and its tree is that of the text
abbrev pub AreRead : Files → List PlainSource → Type 0
AreRead files [] = Unit {0}
AreRead files (s ∷ rest) =
    (files s.path ≡ Some s.text) × Reads s.text (tree s.body) × AreRead files rest

-- of each source exactly those lines and branches are missing that are statements or predicted,
-- aren't excluded or freed, and were taken nowhere where the data come from
abbrev pub AreMissing : Patterns → DataSet → Origin → List PlainSource → Type 0
AreMissing p d o [] = Unit {0}
AreMissing p d o (s ∷ rest) =
    MissingAre p.exclude p.partial s.path s.text s.body d.arcs o (analysed p d s)
    × AreMissing p d o rest

-- What a report tells, as table, JSON or LCOV. The sources of the data's paths that aren't omitted are read.
-- The data come from some of these runs, and from data that were there at first. What is missing is
-- exactly what none of these took.
pub record Reported {P : Type 0} (first : Contents) (runs : Recorded) (s : ReportSettings)
    (own : Word) (old : Held P) : Type 0 where
  pub d : DataSet
  pub held : finite.get old.contents own ≡ Some (Good d)
  pub sources : List PlainSource
  pub paths : map (λ f. f.path) sources ≡ filter (is_reported s.omit) (paths_of d)
  pub read : AreRead old.files sources
  pub origin : Origin
  pub is : data_of origin ≡ d
  pub of : IsOf d.arcs origin
  pub from : IsFrom first runs origin
  pub missing : AreMissing (patterns_of s) d origin sources

-- The table of what is reported is written, and nothing else is changed.
pub record ReportPromise {P : Type 0} (first : Contents) (runs : Recorded) (s : ReportSettings)
    (own : Word) (show : Bool) (least : ℕ) (old : Held P) (a : Answered) (new : Held P)
    : Type 0 where
  pub reported : Reported first runs s own old
  pub printed : new ≡ record old {
    out =
        old.out
        ++ text_bytes (map (analysed (patterns_of s) reported.d) reported.sources)
        reported.d.arcs show;
  }
  pub ended : a ≡ judged least (map (analysed (patterns_of s) reported.d) reported.sources)

-- what is held after a text is put under a name, or written, where the name is `-`
abbrev pub with_text : {P : Type 0} → Word → List ℕ → Held P → Held P
with_text name bytes old =
    if bytes_eq name (codes "-") then record old { out = old.out ++ bytes }
    else record old { files = with_file name bytes old.files }

-- The text of what is reported, with these bytes of its analyses, is put under a name, or written,
-- where the name is `-`. Nothing else is changed.
pub record PutPromise {P : Type 0} (first : Contents) (runs : Recorded) (s : ReportSettings)
    (own name : Word) (bytes : List AnalysisView → Bool → List ℕ) (least : ℕ) (old : Held P)
    (a : Answered) (new : Held P) : Type 0 where
  pub reported : Reported first runs s own old
  pub put :
      new
      ≡ with_text name
      (bytes (map (analysed (patterns_of s) reported.d) reported.sources) reported.d.arcs) old
  pub ended : a ≡ judged least (map (analysed (patterns_of s) reported.d) reported.sources)
