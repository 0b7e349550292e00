-- What the types of the settings stand for.
use Rattle.std.specs.Prelude.{◌≡◌, List, map, String, Vec, string_bytes, Option, option_map, Result, Ok, Err}
use Rattle.std.specs.declared.alloc.Global.{Global}
use Rattle.cov_config.specs.declared.config.Config.{Config}
use Rattle.cov_config.specs.declared.config.ConfigError.{ConfigError}
use Rattle.cov_config.specs.declared.config.ConfigError.TheVariants.{BadConfig, NoMemory}
use Rattle.cov_file_names.specs.Forms.{Text}
use Rattle.cov_config.specs.Settings.{Settings}

-- the bytes of texts
abbrev pub texts_view : Vec (String Global) Global → List Text
texts_view v = map string_bytes v.items

-- the bytes of a file and a name
abbrev pub hook_view : Option (String Global × String Global) → Option (Text × Text)
hook_view hook = option_map (λ h. (string_bytes h.0, string_bytes h.1)) hook

-- the bytes of names and of their texts
abbrev pub rules_view : List (String Global × Vec (String Global) Global) → List (Text × List Text)
rules_view rules = map (λ r. (string_bytes r.0, texts_view r.1)) rules

-- the settings that a `Config` holds
abbrev pub settings_view : Config → Settings
settings_view c = record {
  run = record {
    branch = c.branch;
    context = string_bytes c.context;
    data_file = string_bytes c.data_file;
    dynamic_context = c.dynamic_context;
    budget = c.budget;
    hook = hook_view c.hook;
  };
  report = record {
    fail_under = c.fail_under;
    show_missing = c.show_missing;
    omit = texts_view c.omit;
    exclude_lines = texts_view c.exclude_lines;
    exclude_also = texts_view c.exclude_also;
    partial_branches = texts_view c.partial_branches;
  };
  paths = rules_view c.paths.items;
}

-- the answer is what is meant, seen by `view`: the value, or the whole name of the bad key. Only
-- want of memory is free
abbrev pub Answers : {T A : Type 0} → (T → A) → Result A Text → Result T ConfigError → Type 0
Answers view meaning (Ok value) = meaning ≡ Ok (view value)
Answers view meaning (Err (BadConfig key)) = meaning ≡ Err (string_bytes key)
Answers view meaning (Err NoMemory) = Unit {0}

-- the error names this key, unless memory ran out
abbrev pub Names : Text → ConfigError → Type 0
Names name (BadConfig key) = string_bytes key ≡ name
Names name NoMemory = Unit {0}
