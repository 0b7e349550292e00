-- The command `combine` from its end on: what is left to do after each of its steps.
--     finishing, storing, joining     the inputs are removed, the data saved before, joined before
--     gathering, combining            the inputs loaded before, the data file's own data looked at
--     list_of                         what an option holds, as a list
use Rattle.std.specs.Prelude.{Bool, List, [], ◌∷◌, ◌++◌, filter, Option, Some, None, Result}
use Rattle.cov_combine.specs.Aliases.{alias_of, rules_from}
use Rattle.cov_combine.specs.Combined.{combined}
use Rattle.cov_data.specs.DataSet.{DataSet}
use Rattle.cov_programs.specs.Programs.{give, ◌>>=◌, each}
use Rattle.cov_file_names.specs.Forms.{Text}
use Rattle.cov_step.specs.Answers.{Before, given_or, vault_refusal}
use Rattle.cov_step.specs.Calls.{Answered, Step}
use Rattle.cov_step.specs.Names.{removable}
use Rattle.cov_step.specs.Phases.{needed, before, inputs, has_own, own_input, some_input, same_kind, saving, removing_all, is_part_of, done}
use Rattle.cov_vault.specs.declared.vault.VaultError.{VaultError}

-- a rule of aliases: its name and its texts
abbrev pub Rules : Type 0
Rules = List (Text × List Text)

-- the inputs are removed, unless they are kept
abbrev pub finishing : Bool → Text → List Text → Step Answered
finishing keep own others = do
  c ← removing_all keep (removable own [] others)
  give done

-- data are saved, and then the inputs removed
abbrev pub storing : Bool → Text → List Text → DataSet → Step Answered
storing keep own others content = do
  b ← saving own content
  finishing keep own others

-- data of one kind are joined and stored
abbrev pub joining : Bool → Text → Rules → List Text → List DataSet → Step Answered
joining keep own paths others ds = do
  all ← same_kind ds
  storing keep own others (combined (alias_of (rules_from paths)) all)

-- the inputs are loaded and joined, after the data file's own data
abbrev pub gathering : Bool → Bool → Text → Rules → Before → List Text → Step Answered
gathering append keep own paths was others = do
  a ← some_input own (has_own append was) others
  first ← own_input append own was
  rest ← each needed others
  joining keep own paths others (first ++ rest)

-- the data file is looked at, and the inputs are found
abbrev pub combining : Bool → Bool → Text → Rules → List Text → Step Answered
combining append keep own paths named = do
  was ← before own
  others ← inputs own named
  gathering append keep own paths was others

-- what an option holds, as a list
abbrev pub list_of : {A : Type 0} → Option A → List A
list_of None = []
list_of (Some a) = a ∷ []

-- the parts of the data file among the names that were listed
abbrev pub parts_in : Text → Result (List Text) VaultError → Step (List Text)
parts_in own answer = do
  found ← given_or (vault_refusal own) answer
  give (filter (is_part_of own) found)
