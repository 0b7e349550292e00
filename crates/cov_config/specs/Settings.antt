-- The settings that a TOML document means, key by key: coverage.py, "Configuration reference".
--     section, setting, key_name        the values of a section, that of a key, and its whole name
--     reading, next                     what a key sets; the first bad key ends the reading
--     run_of, report_of, paths_of       the three sections
--     in_order                          members in the byte order of their names
--     settings_of, meaning_of           the settings of a document, and of bytes
--     defaults, AreDefaults             the settings where nothing is set, as in an empty file
use Rattle.std.specs.Prelude.{◌≡◌, ℕ, Bool, false, if◌then◌else◌, List, [], ◌∷◌, ◌++◌, codes, Option, Some, None, option_and_then, Result, Ok, Err}
use Rattle.std.specs.Cmp.Lexicographic.{slice_cmp}
use Rattle.std.specs.Option.{ok_or}
use Rattle.std.specs.Ordering.{nat_cmp, is_lt}
use Rattle.std.specs.Str.{is_utf8}
use Rattle.toml.specs.Data.{Data, Members, no_members, member, get, get_member, as_bool, as_str, as_table}
use Rattle.toml.specs.Parse.{parse_document}
use Rattle.cov_file_names.specs.Forms.{Text}
use Rattle.cov_config.specs.Forms.{or_default, filled, test_function, up_to, hook_text, texts, rule_texts}

-- `tool.coverage.SECTION`. What is no table has no keys
abbrev pub section : Text → Members → Option Data
section name ms =
    option_and_then (get name)
    (option_and_then (get (codes "coverage")) (get_member (codes "tool") ms))

-- the value of a key in a section
abbrev pub setting : Text → Text → Members → Option Data
setting in_section key ms = option_and_then (get key) (section in_section ms)

-- a key as messages name it, with its tables in front
abbrev pub key_name : Text → Text → Text
key_name in_section key = codes "tool.coverage." ++ in_section ++ codes "." ++ key

-- what a key sets, or its whole name where its value isn't of the form
abbrev pub reading : {A : Type 0} → Members → Text → Text → (Option Data → Option A) → Result A Text
reading ms in_section key form = ok_or (form (setting in_section key ms)) (key_name in_section key)

-- the first bad key ends the reading
abbrev pub next : {A B : Type 0} → Result A Text → (A → Result B Text) → Result B Text
next (Ok a) f = f a
next (Err bad) f = Err bad

-- what the section `run` sets
pub record RunSettings : Type 0 where
  pub branch : Bool
  pub context : Text
  pub data_file : Text
  pub dynamic_context : Bool
  pub budget : ℕ
  pub hook : Option (Text × Text)

-- the settings of `run`, or the first bad key
abbrev pub run_of : Members → Result RunSettings Text
run_of ms =
    next (reading ms (codes "run") (codes "branch") (or_default false as_bool)) (λ branch.
    next (reading ms (codes "run") (codes "context") (or_default [] as_str)) (λ context.
    next (reading ms (codes "run") (codes "data_file")
    (or_default (codes ".coverage") filled)) (λ data_file.
    next (reading ms (codes "run") (codes "dynamic_context")
    (or_default false test_function)) (λ dynamic_context.
    next (reading ms (codes "run") (codes "budget")
    (or_default 1000000 (up_to 1000000000))) (λ budget.
    next (reading ms (codes "run") (codes "hook") (or_default None hook_text)) (λ hook.
    Ok (record {
      branch = branch;
      context = context;
      data_file = data_file;
      dynamic_context = dynamic_context;
      budget = budget;
      hook = hook;
    })))))))

-- the pattern of `# pragma: no cover`
abbrev pub no_cover : Text
no_cover = codes "#\\s*(pragma|PRAGMA)[:\\s]?\\s*(no|NO)\\s*(cover|COVER)"

-- the pattern of `# pragma: no branch`
abbrev pub no_branch : Text
no_branch = codes "#\\s*(pragma|PRAGMA)[:\\s]?\\s*(no|NO)\\s*(branch|BRANCH)"

-- what the section `report` sets
pub record ReportSettings : Type 0 where
  pub fail_under : ℕ
  pub show_missing : Bool
  pub omit : List Text
  pub exclude_lines : List Text
  pub exclude_also : List Text
  pub partial_branches : List Text

-- the settings of `report`, or the first bad key
abbrev pub report_of : Members → Result ReportSettings Text
report_of ms =
    next (reading ms (codes "report") (codes "fail_under")
    (or_default 0 (up_to 100))) (λ fail_under.
    next (reading ms (codes "report") (codes "show_missing")
    (or_default false as_bool)) (λ show_missing.
    next (reading ms (codes "report") (codes "omit") (or_default [] texts)) (λ omit.
    next (reading ms (codes "report") (codes "exclude_lines")
    (or_default (no_cover ∷ []) texts)) (λ exclude_lines.
    next (reading ms (codes "report") (codes "exclude_also") (or_default [] texts)) (λ exclude_also.
    next (reading ms (codes "report") (codes "partial_branches")
    (or_default (no_branch ∷ []) texts)) (λ partial_branches.
    Ok (record {
      fail_under = fail_under;
      show_missing = show_missing;
      omit = omit;
      exclude_lines = exclude_lines;
      exclude_also = exclude_also;
      partial_branches = partial_branches;
    })))))))

-- a member at its place by the byte order of names
abbrev pub placed : Text → Data → Members → Members
placed name d no_members = member name d no_members
placed name d (member first e ms) =
    if is_lt (slice_cmp nat_cmp name first) then member name d (member first e ms)
    else member first e (placed name d ms)

-- the members in the byte order of their names
abbrev pub in_order : Members → Members
in_order no_members = no_members
in_order (member name d ms) = placed name d (in_order ms)

-- each key sets a rule
abbrev pub rules_in : Members → Result (List (Text × List Text)) Text
rules_in no_members = Ok []
rules_in (member name d ms) =
    next (ok_or (rule_texts d) (key_name (codes "paths") name)) (λ rule.
    next (rules_in ms) (λ rules.
    Ok ((name, rule) ∷ rules)))

-- the rules of a table in the byte order of their names; none where there is no table
abbrev pub rules_of : Option Members → Result (List (Text × List Text)) Text
rules_of None = Ok []
rules_of (Some ms) = rules_in (in_order ms)

-- the rules of the section `paths`, or the first bad key
abbrev pub paths_of : Members → Result (List (Text × List Text)) Text
paths_of ms = rules_of (option_and_then as_table (section (codes "paths") ms))

-- what a document sets
pub record Settings : Type 0 where
  pub run : RunSettings
  pub report : ReportSettings
  pub paths : List (Text × List Text)

-- the settings, or the first bad key
abbrev pub settings_of : Members → Result Settings Text
settings_of ms =
    next (run_of ms) (λ run.
    next (report_of ms) (λ report.
    next (paths_of ms) (λ paths.
    Ok (record { run = run; report = report; paths = paths }))))

-- the settings of bytes. What is no TOML has no key that could be named
abbrev pub meaning_of_document : Option Members → Result Settings Text
meaning_of_document None = Err []
meaning_of_document (Some ms) = settings_of ms

-- the settings of a file's bytes, or the first bad key
abbrev pub meaning_of : List ℕ → Result Settings Text
meaning_of bytes = meaning_of_document (if is_utf8 bytes then parse_document bytes else None)

-- the settings where nothing is set
abbrev pub defaults : Settings
defaults = record {
  run = record {
    branch = false;
    context = [];
    data_file = codes ".coverage";
    dynamic_context = false;
    budget = 1000000;
    hook = None;
  };
  report = record {
    fail_under = 0;
    show_missing = false;
    omit = [];
    exclude_lines = no_cover ∷ [];
    exclude_also = [];
    partial_branches = no_branch ∷ [];
  };
  paths = [];
}

-- the settings are those of an empty file, which are the defaults
pub record AreDefaults (s : Settings) : Type 0 where
  pub usual : s ≡ defaults
  pub empty : meaning_of [] ≡ Ok s
