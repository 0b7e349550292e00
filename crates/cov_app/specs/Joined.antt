-- What `combine` leaves.
--     AreWordsOf                      words of no command but this one
--     settings_name, AreSettings      the settings that a shelf's files say
--     IsJoined, CombineLeft           what is left of data and files
use Rattle.std.specs.Prelude.{◌≡◌, ◌⊎◌, Bool, false, List, [], Option, Some, None, Ok, codes, unwrap_or}
use Rattle.cov_config.specs.Settings.{Settings, meaning_of}
use Rattle.cov_joins.specs.Left.{IsLeft}
use Rattle.cov_outside.specs.Files.{Files}
use Rattle.cov_step.specs.Combining.{after_changes}
use Rattle.cov_step.specs.Phases.{own_name}
use Rattle.cov_vault.specs.Contents.{Contents}
use Rattle.cov_why.specs.Answers.{PlainWhy}
use Rattle.cov_words.specs.Commands.{PlainCommand, IsCommand}
use Rattle.cov_words.specs.Values.{Word}

-- words of no command but this one
abbrev pub AreWordsOf : PlainCommand → List Word → Type 0
AreWordsOf c words = (d : PlainCommand) → IsCommand d words → d ≡ c

-- the name of the settings file: the one that the words give, or else the usual one
abbrev pub settings_name : Option Word → Word
settings_name (Some name) = name
settings_name None = codes "pyproject.toml"

-- the settings that these files say; those of no text where there is no settings file
abbrev pub AreSettings : Files → Option Word → Settings → Type 0
AreSettings files rcfile s = meaning_of (unwrap_or (files (settings_name rcfile)) []) ≡ Ok s

-- The data are as before, or there are settings, those of the files where these are told: then the
-- data file under their name and the inputs alone may have changed, and no input that is kept.
abbrev pub IsJoined : (files_told : Type 0) (files : Files) (keep : Bool)
    (data_file rcfile : Option Word) (named : List Word) (old new : Contents) → Type 0
IsJoined files_told files keep data_file rcfile named old new =
    (new ≡ old)
    ⊎ ((s : Settings) × (files_told → AreSettings files rcfile s)
    × IsLeft keep (own_name data_file s) named old new)

-- Where they are told: no file has changed; a refusal but a fault of the vault and want of memory
-- left the data; and whatever the answer, they are as said.
pub record CombineLeft (files_told data_told : Type 0) (old_files new_files : Files) (keep : Bool)
    (data_file rcfile : Option Word) (named : List Word) (why : PlainWhy) (old new : Contents)
    : Type 0 where
  pub files : files_told → new_files ≡ old_files
  pub early : data_told → after_changes why ≡ false → new ≡ old
  pub joined : data_told → IsJoined files_told old_files keep data_file rcfile named old new
