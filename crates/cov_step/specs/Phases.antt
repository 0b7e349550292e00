-- The parts that commands share, in the order in which they may be refused.
--     file, needed, before, main_name, opened               a call and its answer
--     settings_file, settings           settings
--     few, short, patterns              patterns
--     source, defines, hook_of          sources, and the files of a hook
--     joins, joined                     what a run adds to
--     inputs, own_input, some_input, same_kind              what is combined
--     saving, removing, removing_all    what becomes of it
--     reported_paths, analysed, Report, reported            what a report tells of
--     done, judged_by, judged           a command that did all its work
--     write_last, put_last, save_last, remove_last          the last call
--     ended_by, answered_by             how a run ended
use Rattle.std.specs.Prelude.{◌+◌, ◌*◌, nat_le, nat_eq, ℕ, Bool, true, false, not, if◌then◌else◌, List, [], ◌∷◌, ◌++◌, map, filter, length, Option, Some, None, Result, Ok, Err, codes, decimal}
use Rattle.std.specs.Bool.{beq}
use Rattle.std.specs.List.{list_any, starts_with}
use Rattle.std.specs.Str.{bytes_eq, chars}
use Rattle.py_builtins.specs.Outcomes.{Outcome, exited, raised, cut, err_of}
use Rattle.py_builtins.specs.Outcomes as outcome
use Rattle.py_meaning.specs.Modules.{LoadedModule}
use Rattle.py_syntax.specs.Functions.{functions}
use Rattle.py_syntax.specs.Tree.{Text}
use Rattle.py_text.specs.Comparison.{is_same_text}
use Rattle.cov_analysis.specs.Analyses.{AnalysisView, source_of, taken_of, analysis_of}
use Rattle.cov_analysis.specs.Counts.{covered_of, all_of, total_of}
use Rattle.cov_analysis.specs.declared.numbers.Numbers.{Numbers}
use Rattle.cov_combine.specs.Combined.{flag_of, has_both_kinds}
use Rattle.cov_config.specs.Omits.{omits}
use Rattle.cov_config.specs.Settings.{Settings, ReportSettings, meaning_of}
use Rattle.cov_data.specs.DataSet.{DataSet, union}
use Rattle.cov_data.specs.Rows.{paths_of}
use Rattle.cov_programs.specs.Programs.{give, settle, ask, bind, ◌>>=◌, each}
use Rattle.cov_run.specs.Loading.{most_bytes}
use Rattle.cov_why.specs.Answers.{Refusal, no_such_file, limit, bad_config, no_function, no_data, mixed, bad_data, no_source, Ended, finished, program, budget, under}
use Rattle.cov_why.specs.declared.why.BadKind.TheVariants as bad
use Rattle.cov_why.specs.declared.why.LimitKind.TheVariants as limits
use Rattle.cov_words.specs.Values.{Word}
use Rattle.cov_step.specs.Calls.{Answered, PlainSource, Patterns, HookFiles, checks, reads, puts, opens, lists, loads, saves, removes, makes, writes, Step, refuse}
use Rattle.cov_step.specs.Answers.{bytes_of, bytes_if_any, given_or, load_refusal, vault_refusal, Before, nothing, there, bad_row, before_of, removed, shelf_refusal, sink_refusal, pattern_refusal, last, on, tree_of}
use Rattle.cov_step.specs.Names.{or_else, data_name}

-- ---- a call and its answer

-- a file that has to be there
abbrev pub file : Refusal → Word → Step (List ℕ)
file absent name = do
  answer ← ask (reads name most_bytes) give
  bytes_of absent answer

-- data that are needed
abbrev pub needed : Word → Step DataSet
needed name = do
  answer ← ask (loads name) give
  given_or (load_refusal name) answer

-- what stands under the name of a command's data
abbrev pub before : Word → Step Before
before name = do
  answer ← ask (loads name) give
  before_of name answer

-- the name of a script's module
abbrev pub main_name : Text
main_name = chars (codes "__main__")

-- the modules of a script, of which the first has this name
abbrev pub opened : Text → Word → Step (List LoadedModule)
opened name script = do
  answer ← ask (opens name script) give
  given_or (λ refusal. refusal) answer

-- ---- settings

-- a file of settings: the one that the words name, or else the usual one, which may be absent
abbrev pub settings_file : Option Word → Step (List ℕ)
settings_file (Some name) = file (no_such_file name) name
settings_file None = do
  answer ← ask (reads (codes "pyproject.toml") most_bytes) give
  bytes_if_any answer

-- what it sets, or its first bad key
abbrev pub settings : Option Word → Step Settings
settings rcfile = do
  bytes ← settings_file rcfile
  given_or bad_config (meaning_of bytes)

-- the name of the data file
abbrev pub own_name : Option Word → Settings → Word
own_name data_file s = data_name (or_else data_file s.run.data_file)

-- ---- patterns

-- the most patterns of a list
abbrev pub most_patterns : ℕ
most_patterns = 32

-- the most bytes of a pattern
abbrev pub most_pattern_bytes : ℕ
most_pattern_bytes = 200

-- the patterns that always free branches
abbrev pub always : List (List ℕ)
always = codes "while (True|1|False|0):" ∷ codes "if (True|1|False|0):" ∷ []

-- a list has no more patterns than it may
abbrev pub few : List (List ℕ) → Step (Unit {0})
few texts =
    if nat_le (length texts) most_patterns then give tt
    else refuse (limit limits.Patterns (length texts))

-- no pattern of a list is too long: the first that is refuses
abbrev pub short : List (List ℕ) → Step (Unit {0})
short [] = give tt
short (text ∷ texts) =
    if nat_le (length text) most_pattern_bytes then short texts
    else refuse (limit limits.PatternBytes (length text))

-- patterns of these texts: of both lists first the counts, then the sizes, then each pattern
abbrev pub patterns_by : List (List ℕ) → List (List ℕ) → Step Patterns
patterns_by exclude partial = do
  a ← few exclude
  b ← few partial
  c ← short exclude
  d ← short partial
  e ← ask (makes exclude) (on (pattern_refusal 0))
  f ← ask (makes (partial ++ always)) (on (pattern_refusal (length exclude)))
  give (record { exclude = exclude; partial = partial ++ always })

-- the patterns of settings
abbrev pub patterns : ReportSettings → Step Patterns
patterns s = patterns_by (s.exclude_lines ++ s.exclude_also) s.partial_branches

-- ---- sources

-- a source that is reported
abbrev pub source : Word → Step PlainSource
source path = do
  bytes ← file (no_source path) path
  reading ← ask (checks bytes) give
  tree_of path bytes reading

-- whether the body of the first module has a `def` of this name
abbrev pub defines : List LoadedModule → Text → Bool
defines [] name = false
defines (script ∷ others) name =
    list_any (λ f. is_same_text name f.name) (functions script.body)

-- a hook of these modules, where its function is there
abbrev pub hook_in : Word → Word → List LoadedModule → Step (Option HookFiles)
hook_in script function ms =
    if defines ms (chars function)
    then give (Some (record { modules = ms; script = chars script; function = chars function }))
    else refuse (no_function function)

-- the hook of a run, where there is one: its files are loaded
abbrev pub hook_of : Option (Word × Word) → Step (Option HookFiles)
hook_of None = give None
hook_of (Some (script, function)) = do
  ms ← opened main_name script
  hook_in script function ms

-- ---- what a run adds to

-- The data that a run joins its rows to, where it appends: they are of the same kind.
abbrev pub joins : Bool → Word → Bool → Before → Step (Option DataSet)
joins false name arcs was = give None
joins true name arcs nothing = give None
joins true name arcs (there d) =
    if beq arcs d.arcs then give (Some d) else refuse (mixed arcs d.arcs)
joins true name arcs (bad_row i) = refuse (bad_data name (bad.BadRow i))

-- the rows of a run, joined to those before
abbrev pub joined : Option DataSet → DataSet → DataSet
joined None rows = rows
joined (Some d) rows = union d rows

-- ---- what is combined

-- a name begins with the data file's and a dot
abbrev pub is_part_of : Word → Word → Bool
is_part_of own name = starts_with nat_eq name (own ++ codes ".")

-- the inputs: those that the words name, or all parts of the data file, in order
abbrev pub inputs : Word → List Word → Step (List Word)
inputs own (n ∷ ns) = give (map data_name (n ∷ ns))
inputs own [] = do
  answer ← ask lists give
  found ← given_or (vault_refusal own) answer
  give (filter (is_part_of own) found)

-- whether the data file's own data are an input: where that is asked for and its name holds
-- anything
abbrev pub has_own : Bool → Before → Bool
has_own false was = false
has_own true nothing = false
has_own true (there d) = true
has_own true (bad_row i) = true

-- those data, as the first input
abbrev pub own_input : Bool → Word → Before → Step (List DataSet)
own_input false name was = give []
own_input true name nothing = give []
own_input true name (there d) = give (d ∷ [])
own_input true name (bad_row i) = refuse (bad_data name (bad.BadRow i))

-- there is an input
abbrev pub some_input : Word → Bool → List Word → Step (Unit {0})
some_input name own (n ∷ ns) = give tt
some_input name true [] = give tt
some_input name false [] = refuse (no_data name)

-- all are of arcs, or all of lines
abbrev pub same_kind : List DataSet → Step (List DataSet)
same_kind ds =
    if has_both_kinds ds then refuse (mixed (flag_of ds) (not (flag_of ds))) else give ds

-- the combined data are saved, and the command goes on
abbrev pub saving : Word → DataSet → Step (Unit {0})
saving own content = ask (saves own content) (on (vault_refusal own))

-- an input is removed
abbrev pub removing : Word → Step (Unit {0})
removing name = ask (removes name) (removed (give tt))

-- and so are all of these, unless they are kept
abbrev pub removing_all : Bool → List Word → Step (List (Unit {0}))
removing_all true names = give []
removing_all false names = each removing names

-- ---- what a report tells of

-- there is a path
abbrev pub some_path : Word → List Word → Step (List Word)
some_path name [] = refuse (no_data name)
some_path name (p ∷ ps) = give (p ∷ ps)

-- a path that no pattern omits
abbrev pub is_reported : List Text → Word → Bool
is_reported omit path = not (list_any (λ pattern. omits pattern path) omit)

-- the paths that are reported, of data under this name
abbrev pub reported_paths : Word → List Text → DataSet → Step (List Word)
reported_paths name omit d = some_path name (filter (is_reported omit) (paths_of d))

-- what data tell of a source
abbrev pub analysed : Patterns → DataSet → PlainSource → AnalysisView
analysed p d s =
    analysis_of s.path (source_of p.exclude p.partial s.body s.text) (taken_of d s.path)

-- the settings, the kind of the data, and the sources
pub record Report : Type 0 where
  pub settings : Settings
  pub arcs : Bool
  pub files : List AnalysisView

-- what data under this name tell of the sources, in the order of their paths
abbrev pub reported_in : Settings → Patterns → Word → Step Report
reported_in s p own = do
  d ← needed own
  paths ← reported_paths own s.report.omit d
  sources ← each source paths
  give (record { settings = s; arcs = d.arcs; files = map (analysed p d) sources })

-- settings, patterns, data, sources
abbrev pub reported : Option Word → Option Word → Step Report
reported data_file rcfile = do
  s ← settings rcfile
  p ← patterns s.report
  reported_in s p (own_name data_file s)

-- ---- the last call

-- a command that did all its work
abbrev pub done : Answered
done = record { ended = finished; ending = [] }

-- so much was covered: the exact fraction is compared with the least percent
abbrev pub judged_by : ℕ → Numbers → Answered
judged_by least n =
    if nat_le (least * all_of n) (100 * covered_of n) then done
    else record { ended = under (covered_of n) (all_of n); ending = decimal least }

-- of all files
abbrev pub judged : ℕ → List AnalysisView → Answered
judged least files = judged_by least (total_of (map (λ f. f.numbers) files))

-- a text is written
abbrev pub write_last : List ℕ → Answered → Step Answered
write_last bytes a = ask (writes bytes) (last sink_refusal a)

-- a text is put under a name, or written, where the name is `-`
abbrev pub put_last : Word → List ℕ → Answered → Step Answered
put_last name bytes a =
    if bytes_eq name (codes "-") then write_last bytes a
    else ask (puts name bytes) (last shelf_refusal a)

-- data are saved
abbrev pub save_last : Word → DataSet → Answered → Step Answered
save_last name content a = ask (saves name content) (last (vault_refusal name) a)

-- data are removed, where they are there
abbrev pub remove_last : Word → Answered → Step Answered
remove_last name a = ask (removes name) (removed (settle a))

-- ---- how a run ended

-- with the status of its program, or cut after so many steps
abbrev pub ended_by : ℕ → Outcome → Ended
ended_by steps outcome.finished = program 0
ended_by steps (exited status text) = program status
ended_by steps (raised kind text) = program 1
ended_by steps cut = budget steps

-- and with what its ending writes to `err`
abbrev pub answered_by : ℕ → Outcome → Answered
answered_by steps o = record { ended = ended_by steps o; ending = err_of o }
