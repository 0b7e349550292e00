-- What each command needs so that it isn't refused: premises on the files and the data that its
-- objects hold before it.
--     CanImport                        a file of tests
--     CanErase, CanRun, CanTest, CanReport, CanAnnotate, CanCombine    commands with settings
--     Ready                            each command
use Rattle.std.specs.Prelude.{◌≡◌, ℕ, ◌||◌, ◌<◌, Bool, false, List, [], ◌∷◌, ◌++◌, length, Option}
use Rattle.py_builtins.specs.Outcomes.{finished}
use Rattle.py_meaning.specs.Modules.{LoadedModule}
use Rattle.cov_combine.specs.Combined.{has_both_kinds}
use Rattle.cov_config.specs.Settings.{Settings, ReportSettings, no_cover, no_branch}
use Rattle.cov_data.specs.DataSet.{DataSet}
use Rattle.cov_load_laws.specs.Completeness.{HasSource}
use Rattle.cov_outside.specs.Files.{Files}
use Rattle.cov_step.specs.Commands.{hook_named, usual_steps}
use Rattle.cov_step.specs.Names.{or_else}
use Rattle.cov_step.specs.Phases.{main_name, own_name}
use Rattle.cov_step.specs.Testing.{tests_name}
use Rattle.cov_suite.specs.Results.{import_of}
use Rattle.cov_vault.specs.Contents.{Contents}
use Rattle.cov_words.specs.Commands.{PlainCommand}
use Rattle.cov_words.specs.Commands as plain
use Rattle.cov_words.specs.Values.{Word}
use Rattle.cov_complete_laws.specs.Premises.{AreSettings, IsLoadable, AreModules, HasHook, Holds, IsReplaceable, CanJoin, inputs_of, HoldAll, HoldsOwn, HasPatterns, HasSources}

-- a file of tests can be loaded, and its import finishes within these steps
pub record CanImport (files : Files) (file : Word) (budget : ℕ) : Type 0 where
  pub program : IsLoadable files tests_name file
  pub imports :
      (ms : List LoadedModule) → AreModules files tests_name file ms
      → (import_of ms budget).outcome ≡ finished

-- settings alone
pub record CanErase (files : Files) (rcfile : Option Word) : Type 0 where
  pub settings : Settings
  pub set : AreSettings files rcfile settings

-- Settings, a program and a hook; what stands under the name of the data may be replaced, and
-- joined where the run appends.
pub record CanRun (files : Files) (contents : Contents) (branch append : Bool)
    (hook : Option (Word × Word)) (data_file rcfile : Option Word) (script : Word) : Type 0 where
  pub settings : Settings
  pub set : AreSettings files rcfile settings
  pub program : IsLoadable files main_name script
  pub hooked : HasHook files (hook_named hook settings.run.hook)
  pub target : IsReplaceable contents (own_name data_file settings)
  pub joins :
      CanJoin append contents (own_name data_file settings) (branch || settings.run.branch)

-- Settings, tests whose import finishes within the steps that it may take, and a target that may be
-- replaced.
pub record CanTest (files : Files) (contents : Contents) (budget : Option ℕ)
    (data_file rcfile : Option Word) (file : Word) : Type 0 where
  pub settings : Settings
  pub set : AreSettings files rcfile settings
  pub tests : CanImport files file (or_else budget settings.run.budget)
  pub target : IsReplaceable contents (own_name data_file settings)

-- the patterns of settings
abbrev pub HasPatternsOf : ReportSettings → Type 0
HasPatternsOf s = HasPatterns (s.exclude_lines ++ s.exclude_also) s.partial_branches

-- settings, patterns, the data and the sources that they tell of
pub record CanReport (files : Files) (contents : Contents) (data_file rcfile : Option Word)
    : Type 0 where
  pub settings : Settings
  pub set : AreSettings files rcfile settings
  pub patterns : HasPatternsOf settings.report
  pub rows : DataSet
  pub held : Holds contents (own_name data_file settings) rows
  pub sources : HasSources files settings.report.omit rows

-- settings, patterns, the data and one source
pub record CanAnnotate (files : Files) (contents : Contents) (data_file rcfile : Option Word)
    (path : Word) : Type 0 where
  pub settings : Settings
  pub set : AreSettings files rcfile settings
  pub patterns : HasPatternsOf settings.report
  pub rows : DataSet
  pub held : Holds contents (own_name data_file settings) rows
  pub source : HasSource (files path)

-- settings, a target that may be replaced, and inputs, one at least and all of one kind
pub record CanCombine (files : Files) (contents : Contents) (append : Bool)
    (data_file rcfile : Option Word) (named : List Word) : Type 0 where
  pub settings : Settings
  pub set : AreSettings files rcfile settings
  pub target : IsReplaceable contents (own_name data_file settings)
  pub first : List DataSet
  pub own : HoldsOwn append contents (own_name data_file settings) first
  pub rest : List DataSet
  pub others :
      HoldAll contents (inputs_of contents (own_name data_file settings) named) rest
  pub some : 0 < length (first ++ rest)
  pub one_kind : has_both_kinds (first ++ rest) ≡ false

-- What each command needs. A script needs it of each line where the lines before led, and is no
-- command here.
abbrev pub Ready : Files → Contents → PlainCommand → Type 0
Ready files contents (plain.arcs budget script args) = IsLoadable files main_name script
Ready files contents
    (plain.run branch append context budget hook data_file rcfile script args) =
    CanRun files contents branch append hook data_file rcfile script
Ready files contents (plain.combine append keep data_file rcfile names) =
    CanCombine files contents append data_file rcfile names
Ready files contents (plain.report show_missing fail_under data_file rcfile) =
    CanReport files contents data_file rcfile
Ready files contents (plain.json name fail_under data_file rcfile) =
    CanReport files contents data_file rcfile
Ready files contents (plain.lcov name fail_under data_file rcfile) =
    CanReport files contents data_file rcfile
Ready files contents (plain.annotate data_file rcfile file) =
    CanAnnotate files contents data_file rcfile file
Ready files contents (plain.erase data_file rcfile) = CanErase files rcfile
Ready files contents (plain.script file) = ⊥
Ready files contents (plain.make seed size) = HasPatterns (no_cover ∷ []) (no_branch ∷ [])
Ready files contents (plain.suite branch budget data_file rcfile file) =
    CanTest files contents budget data_file rcfile file
Ready files contents (plain.select budget old new) =
    CanImport files old (or_else budget usual_steps) × IsLoadable files tests_name new
Ready files contents (plain.mutate budget file) =
    CanImport files file (or_else budget usual_steps)
