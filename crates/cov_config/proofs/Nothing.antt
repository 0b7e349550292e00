-- What is set where nothing sets it.
use Rattle.std.proofs.Common.{◌≡◌, List, [], ◌∷◌, codes, false, None, Ok, refl}
use Rattle.std.specs.Str.{is_utf8, chars}
use Rattle.toml.specs.Parse.{parse_document, lines, skip_bom}
use Rattle.toml_parser.specs.Lexical.{skip_from}
use Rattle.cov_file_names.specs.Forms.{Text}
use Rattle.cov_config.specs.Settings.{Settings, no_cover, no_branch, meaning_of, defaults}

-- an empty file sets nothing
pub empty-file : meaning_of [] ≡ Ok defaults
unfolding is_utf8 chars parse_document lines skip_bom skip_from
empty-file = refl

-- settings of these parts
abbrev pub settings : (context data_file : Text) (omit exclude also partial : List Text) (paths : List (Text × List Text)) → Settings
settings context data_file omit exclude also partial paths = record {
  run = record { branch = false; context = context; data_file = data_file; dynamic_context = false; budget = 1000000; hook = None };
  report = record { fail_under = 0; show_missing = false; omit = omit; exclude_lines = exclude; exclude_also = also; partial_branches = partial };
  paths = paths;
}

pub usual : (context data_file : Text) (omit exclude also partial : List Text) (paths : List (Text × List Text)) → context ≡ [] → data_file ≡ codes ".coverage" → omit ≡ [] → exclude ≡ no_cover ∷ [] → also ≡ [] → partial ≡ no_branch ∷ [] → paths ≡ []
    → settings context data_file omit exclude also partial paths ≡ defaults
usual context data_file omit exclude also partial paths a b c d e f g = rw a (rw b (rw c (rw d (rw e (rw f (rw g refl))))))
